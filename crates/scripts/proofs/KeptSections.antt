-- The first sections of a list show its fault.
use Rattle.std.proofs.Common.{◌≡◌, ℕ, zero, suc, Bool, true, false, nat_lt, List, [], ◌∷◌, ◌++◌}
use Rattle.std.proofs.Common.{length, take, length-take, Option, refl, ap, arith}
use Rattle.std.specs.Option.{option_or}
use Rattle.std.proofs.lemmas.Bool.Decides.{nat_tests}
use Rattle.std.proofs.lemmas.List.{take_all}
use Rattle.task_sheet.specs.Sheet.{CriticalSection, task_of}
use Rattle.task_sheet.specs.SheetFault.{list_fault, numbers_fault, sheet_fault}
use Rattle.task_sheet.specs.declared.sheet.SheetCause.{SheetCause}

-- of the first n and more, the first n are those of all and more
pub take_front : {A : Type 0} (n : ℕ) (xs ys : List A)
    → take n (take n xs ++ ys) ≡ take n (xs ++ ys)
take_front zero xs ys = refl
take_front (suc n) [] ys = refl
take_front (suc n) (x ∷ xs) ys = ap (λ zs. x ∷ zs) (take_front n xs ys)

list_first : (cost : ℕ) (all : List CriticalSection) (more : Bool) → nat_lt 9 (length all) ≡ more
    → list_fault cost (take 9 all) ≡ list_fault cost all
list_first cost all true more =
    let few : nat_lt 8 (length (take 9 all)) ≡ true = grind (arith, nat_tests, length-take 9 all) in
    let many : nat_lt 8 (length all) ≡ true = grind (arith, nat_tests) in
    rw (few, many) refl
list_first cost all false few = ap (λ (xs : List CriticalSection). list_fault cost xs)
    (take_all 9 all (grind (arith, nat_tests)))

-- the first 9 sections show the fault of all
pub first_sections : (name : List ℕ) (weight period deadline cost : ℕ) (all : List CriticalSection)
    → sheet_fault (task_of name weight period deadline cost (take 9 all))
    ≡ sheet_fault (task_of name weight period deadline cost all)
first_sections name weight period deadline cost all =
    ap (λ (o : Option SheetCause). option_or (numbers_fault weight period deadline cost) o)
    (list_first cost all (nat_lt 9 (length all)) refl)
