-- Names that stand twice, and valid sheets.
use Rattle.std.proofs.Common.{◌≡◌, refl, [], ◌∷◌, Some, None, ℕ, ◌+◌, ◌<◌, ◌||◌, List, length}
use Rattle.std.proofs.Common.{get_or, drop, take, ◌-◌, ◌++◌, ◌∙◌, arith, Bool}
use Rattle.std.proofs.lemmas.List.{drop_more, take_more, take_all, length-drop}
use Rattle.std.specs.List.{list_any}
use Rattle.std.proofs.lemmas.Bool.Decides.{nat_tests}
use Rattle.task_sheet.specs.Sheet.{CriticalSection, Task, IsSection, AreSections, OutranksData}
use Rattle.task_sheet.specs.Sheet.{Named, AllOthers, AreOutranked, MayOutrank, IsValidSheet}
use Rattle.task_sheet.specs.Sheet.{repeats, same_bytes}
use Rattle.task_sheet.specs.SheetFault.{section_fault, sections_fault, numbers_fault, list_fault}
use Rattle.task_sheet.specs.SheetFault.{sheet_fault, names_fault, outranks_fault}
use Rattle.task_sheet.specs.declared.sheet.SheetCause.{SheetCause}

-- one more name of a list, and whether one of the rest equals it

pub repeats_step : (xs : List (List ℕ)) (i : ℕ) (d : List ℕ) (b : Bool) → i < length xs
    → d ≡ get_or xs i d
    → b ≡ list_any (λ y. same_bytes y d) (take (length xs - (i + 1)) (drop (i + 1) xs))
    → repeats (drop i xs) ≡ (b || repeats (drop (i + 1) xs))
repeats_step xs i d b h same e =
    let all : take (length xs - (i + 1)) (drop (i + 1) xs) ≡ drop (i + 1) xs =
    take_all _ _ (omega (arith, length-drop (i + 1) xs)) in
    rw (drop_more xs i d h, ← same, e, all)

-- ---- a valid sheet has no fault

section_valid : (place from cost : ℕ) (x : CriticalSection) → IsSection from cost x
    → section_fault place from cost x ≡ None
section_valid place from cost x h =
    grind (arith, nat_tests, h.distinct, h.some, h.few, h.runs, h.apart, h.within)

sections_valid : (place from cost : ℕ) (xs : List CriticalSection) → AreSections from cost xs
    → sections_fault place from cost xs ≡ None
sections_valid place from cost [] h = refl
sections_valid place from cost (x ∷ xs) h =
    rw (section_valid place from cost x h.0) (sections_valid (place + 1) (x.at + x.len) cost xs h.1)

numbers_valid : (s : Task) → IsValidSheet s
    → numbers_fault s.weight s.period s.deadline s.cost ≡ None
numbers_valid s h = grind (
  arith,
  nat_tests,
  h.weight,
  h.period_from,
  h.period_to,
  h.deadline_from,
  h.deadline_to,
  h.cost_from,
  h.cost_to,
)

list_valid : (s : Task) → IsValidSheet s → list_fault s.cost s.sections ≡ None
list_valid s h = grind (arith, nat_tests, h.few, sections_valid 1 0 s.cost s.sections h.sections)

pub sheet_valid : (s : Task) → IsValidSheet s → sheet_fault s ≡ None
sheet_valid s h = rw (numbers_valid s h, list_valid s h)

pub never_valid : (s : Task) (c : SheetCause) → sheet_fault s ≡ Some c → IsValidSheet s → ⊥
never_valid s c h valid = let none = sheet_valid s valid in cc

names_valid : (own : List ℕ) (names : List (List ℕ)) → AreOutranked own names
    → names_fault own names ≡ None
names_valid own names h = grind (arith, nat_tests, h.few, h.distinct, h.others)

pub outranks_valid : (own : List ℕ) (outranks : OutranksData) → MayOutrank own outranks
    → outranks_fault own outranks ≡ None
outranks_valid own (Named names) h = names_valid own names h
outranks_valid own AllOthers h = refl

-- ---- copies

-- one more element of a list is copied
pub copied : {X : Type 0} {done new : List X} (xs : List X) (i : ℕ) (d x : X) → i < length xs
    → done ≡ take i xs → d ≡ get_or xs i d → x ≡ d → new ≡ done ++ x ∷ [] → new ≡ take (i + 1) xs
copied xs i d x lt same is copy pushed =
    pushed ∙ rw (same, copy, take_more xs i d lt, ← is) refl
