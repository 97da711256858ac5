-- What the tests of lines say.
use Rattle.std.proofs.Common.{◌≡◌, ◌↔◌, Bool, IsTrue, sym, ◌∙◌, ap}
use Rattle.task_sheet.proofs.Common.{Task}
use Rattle.task_sheet.specs.Sheet.{same_sheet}
use Rattle.task_sheet.proofs.Equality.{same_sheet_told}
use Rattle.drafts.specs.declared.change.Change.{Change}
use Rattle.drafts.specs.declared.change.Change.TheVariants.{Put}
use Rattle.drafts.specs.Placed.{StuckSetData, AreStuck}
use Rattle.drafts.proofs.PlacedLaws.{AreStuck-one}

pub same_puts : (first second : Change) (x y : Task) (r : Bool) → first ≡ Put x → second ≡ Put y
    → r ≡ same_sheet x y → IsTrue r ↔ (first ≡ second)
same_puts first second x y r p q e =
    let told = same_sheet_told x y r e in (
      λ yes. p ∙ ap (λ (s : Task). Put s) (told.0 yes) ∙ sym q,
      λ same. let puts : Put x ≡ Put y = sym p ∙ same ∙ q in let sheets : x ≡ y = cc in
          told.1 sheets,
    )

pub same_stuck : (first second : StuckSetData) {r : Bool} → AreStuck first.set first.members
    → AreStuck second.set second.members → IsTrue r ↔ (first.set ≡ second.set)
    → IsTrue r ↔ (first ≡ second)
same_stuck first second h g told = (
  λ yes.
      let sets = told.0 yes in
      let members = AreStuck-one first.set first.members second.members h (rw sets g) in
      λ i. let s : StuckSetData = record { set = sets i; members = members i } in s,
  λ same. told.1 (ap (λ (s : StuckSetData). s.set) same),
)
