use Rattle.std.proofs.Common.{◌≡◌, ◌∙◌, ◌+◌, ◌-◌, ◌&&◌, true, drop, take, length, slice_index, sym}
use Rattle.std.proofs.Common.{ap, arith, ℕ, List}
use Rattle.std.proofs.lemmas.List.{take_all, length-drop}
use Rattle.task_sheet.specs.Indexes.{among, indexes_of}
use Rattle.kept_order.proofs.climbing.holds.Goals as goal

-- all that is above a place
rest : (xs : List ℕ) (n : ℕ) → take (length xs - n) (drop n xs) ≡ drop n xs
rest xs n = take_all (length xs - n) (drop n xs) (omega (arith, length-drop n xs))

pub returns-then-has : goal.returns-then-has
returns-then-has c =
    let here : indexes_of c.args.others (slice_index c.args.kept.now c.args.place) ≡ true =
    sym c.has.ensures ∙ c.if-has.true in
    c.is_in.ensures ∙ ap (λ xs. among xs c.args.task) (rest c.args.kept.now (c.args.place + 1))
    ∙ ap (λ b. b && among (drop (c.args.place + 1) c.args.kept.now) c.args.task) (sym here)
