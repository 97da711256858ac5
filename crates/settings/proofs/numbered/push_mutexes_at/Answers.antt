use Rattle.std.proofs.Common.{◌+◌, ◌<◌, ◌∙◌, [], length, get_or, drop, option_map}
use Rattle.std.proofs.Common.{append_assoc, arith, string_bytes}
use Rattle.std.proofs.lemmas.List.{drop_more}
use Rattle.std.proofs.lemmas.Option.{slice_get-get_or}
use Rattle.ceilings.specs.IsTableOf.{locks_of}
use Rattle.task_sheet.specs.Locks.{ceiling_of}
use Rattle.settings.specs.Settings.{mutex_line, mutex_lines_at, number_at}
use Rattle.settings.proofs.numbered.push_mutexes_at.Goals as goal

pub loop-place-preserved : goal.loop-place-preserved
loop-place-preserved c =
    let locks = locks_of c.args.set.now in
    let place = c.loop-place.place in
    let lt : place < length locks =
    omega (arith, c.lock_count-place-end.ensures, c.loop-place-test.true) in
    rw (c.in_ok-push_lock_at.ensures (get_or locks place []) (slice_get-get_or locks place [] lt))
    (append_assoc (string_bytes c.loop-place.text) (mutex_line (get_or locks place [])
    (option_map (number_at c.args.numbers.now)
    (ceiling_of c.args.set.now c.args.order.now (get_or locks place []))))
    (mutex_lines_at c.args.set.now c.args.numbers.now c.args.order.now (drop (place + 1) locks))
    ∙ rw (drop_more locks place [] lt) at c.loop-place.invariant)
