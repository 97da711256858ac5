use Rattle.std.proofs.Common.{◌≡◌, ◌<◌, ◌∙◌, length, slice_get, IsTrue, sym, ap, subst, arith}
use Rattle.std.specs.FinSet.{contains}
use Rattle.std.proofs.lemmas.Option.{slice_get_past}
use Rattle.task_sheet.specs.Indexes.{indexes_of, listed_below}
use Rattle.assignment.specs.Levels.{LevelState}
use Rattle.assignment.proofs.CandidateLaws.{listed-at}
use Rattle.assignment.proofs.level.Level.candidate.Goals as goal

pub returns-then-before-place : goal.returns-then-before-place
returns-then-before-place c =
    let l = c.args.self.now in
    let n = c.loop-task.task in
    let L = indexes_of l.left in
    let member : IsTrue (L n) = subst (λ (x : LevelState). IsTrue (contains x.left n))
    c.self.view_is (sym c.has.ensures ∙ c.if-has.true) in
    let within : n < length l.set = omega (
      arith,
      c.len-task-end.ensures.count,
      ap length c.deref.ensures,
      ap (λ (x : LevelState). length x.set) c.self.view_is,
    ) in
    let place : c.args.place ≡ length (listed_below n L) =
    omega (arith, c.loop-task.invariant.counted) in
    sym (ap (λ i. slice_get (listed_below (length l.set) L) i) place
    ∙ listed-at (length l.set) L n within member)

pub returns : goal.returns
returns c =
    let l = c.args.self.now in
    let L = indexes_of l.left in
    let end : c.loop-task.task ≡ length l.set = omega (
      arith,
      c.len-task-end.ensures.count,
      ap length c.deref.ensures,
      ap (λ (x : LevelState). length x.set) c.self.view_is,
    ) in
    let counted = c.loop-task.invariant.counted ∙ ap (λ k. length (listed_below k L)) end in
    sym (slice_get_past (listed_below (length l.set) L) c.args.place
    (omega (arith, counted, c.loop-task.invariant.within)))
