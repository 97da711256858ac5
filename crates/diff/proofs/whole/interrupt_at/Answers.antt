use Rattle.std.proofs.Common.{◌≡◌, ◌∙◌, ◌+◌, ◌==◌, false, List, [], ◌∷◌, length, drop, slice_get}
use Rattle.std.proofs.Common.{ap, refl, sym}
use Rattle.task_sheet.specs.declared.node.Interrupt.{Interrupt}
use Rattle.task_sheet.specs.Sheet.{Task}
use Rattle.std.proofs.lemmas.List.{drop_more}
use Rattle.diff.specs.Whole.{interrupts_of, some_of}
use Rattle.diff.proofs.whole.interrupt_at.Goals as goal

-- where there are some, it is these
these : (xs ys : List Interrupt) → false ≡ (length xs == 0) → some_of xs ys ≡ xs
these [] ys some = absurd (cc)
these (x ∷ xs) ys some = refl

pub returns-then-not-is_empty : goal.returns-then-not-is_empty
returns-then-not-is_empty c =
    let U : List Task = c.sheets-sheet-items.result.now in
    let i = c.loop-sheet.sheet-index in
    let t : Task = c.sheet-item.result in
    let split : drop i U ≡ t ∷ drop (i + 1) U = drop_more U i t c.loop-sheet-test.true
    ∙ ap (λ (x : Task). x ∷ drop (i + 1) U) (sym c.sheet-item.is) in
    let same : c.interrupts-interrupts.result.now ≡ t.interrupts = c.interrupts-interrupts.ensures.same in
    let mine : interrupts_of (drop i U) ≡ c.interrupts-interrupts.result.now =
    ap interrupts_of split
    ∙ ap (λ xs. some_of xs (interrupts_of (drop (i + 1) U))) (sym same)
    ∙ these c.interrupts-interrupts.result.now (interrupts_of (drop (i + 1) U))
    c.if-not-is_empty.ensures in
    let whole : interrupts_of U ≡ interrupts_of c.args.set.now =
    ap interrupts_of c.sheets-sheet-items.ensures.same in
    let at : interrupts_of c.args.set.now ≡ c.interrupts-interrupts.result.now =
    sym c.loop-sheet.invariant ∙ ap (λ (V : List Task). interrupts_of (drop i V))
    (sym c.sheets-sheet-items.ensures.same) ∙ mine in
    c.at_place.ensures ∙ ap (λ (xs : List Interrupt). slice_get xs c.args.place) (sym at)
