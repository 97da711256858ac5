-- What an answer of a test of equality says: of sections, of sheets, and of members and their numbers.
use Rattle.std.proofs.Common.{◌≡◌, ◌↔◌, ℕ, ◌^◌, ◌<◌, Bool, IsTrue, nat_eq, sym, ◌∙◌, ap, arith}
use Rattle.std.specs.Cmp.{both_ways}
use Rattle.std.specs.FinSet as set
use Rattle.std.specs.Ordering.{nat_cmp}
use Rattle.std.proofs.lemmas.Bool.Decides.{nat_tests}
use Rattle.task_sheet.specs.Sheet.{CriticalSection, Task, same_section, same_sheet}
use Rattle.task_sheet.specs.SheetEquality.{same_section-Decides, same_sheet-Decides}
use Rattle.task_sheet.specs.Members.{places, bits_of}
use Rattle.task_sheet.specs.MembersWords.{same_members}
use Rattle.task_sheet.specs.MembersLaws.{bits_of-places, same_members-Decides}

pub same_section_told : (x y : CriticalSection) (r : Bool) → r ≡ same_section x y → IsTrue r
    ↔ (x ≡ y)
same_section_told x y r e = rw e (same_section-Decides x y)

pub same_sheet_told : (x y : Task) (r : Bool) → r ≡ same_sheet x y → IsTrue r ↔ (x ≡ y)
same_sheet_told x y r e = rw e (same_sheet-Decides x y)

pub same_members_told : (s t : set.FinSet nat_cmp) (r : Bool) → r ≡ same_members s t → IsTrue r
    ↔ (s ≡ t)
same_members_told s t r e = rw e (same_members-Decides s t)

-- the numbers are equal where the sets are
pub same_bits : (n m : ℕ) → n < 2 ^ 32 → m < 2 ^ 32
    → nat_eq n m ≡ same_members (places n) (places m)
same_bits n m h g =
    let decides = same_members-Decides (places n) (places m) in
    both_ways _ _
    (λ e. let equal : n ≡ m = grind (arith, nat_tests) in decides.1 (ap places equal))
    (λ e. let equal : n ≡ m = sym (bits_of-places n h) ∙ ap bits_of (decides.0 e)
    ∙ bits_of-places m g in grind (arith, nat_tests))
