use Rattle.std.proofs.Common.{◌+◌, ◌++◌, ◌∙◌, ℕ, List, ap, rules, string_bytes}
use Rattle.std.proofs.lemmas.Bool.{lt-ltb}
use Rattle.drawn_jobs.specs.Bars.{part_text}
use Rattle.drawn_jobs.proofs.parts.put_dark.Goals as goal

pub returns-in_ok-put_part : goal.returns-in_ok-put_part
returns-in_ok-put_part c =
    let from = c.dark_from-from.result in
    let to = c.dark_to-to.result in
    let lane = c.args.lane.now in
    let slice = c.args.slice in
    let part = λ (names : List (List ℕ)). part_text lane.frame lane.locks.now slice lane.spot.k
    lane.row.now names (slice.start + from) (slice.start + to) in
    rw (← c.dark_from-from.ensures, ← c.dark_to-to.ensures.value, lt-ltb from to c.if-from-to.true)
    (c.in_ok-put_part.ensures
    ∙ ap (λ (names : List (List ℕ)). string_bytes c.args.text.now ++ part names) (search rules))
