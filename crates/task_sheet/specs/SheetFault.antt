-- Why values are no sheet: the first reason, in the order of the tests.
use Rattle.std.specs.Prelude.{ℕ, ◌+◌, ◌||◌, nat_lt, ◌==◌, List, [], ◌∷◌, length, Option, Some, None, if◌then◌else◌}
use Rattle.std.specs.Option.{option_or}
use Rattle.std.specs.List.{list_any}
use Rattle.task_sheet.specs.Sheet.{CriticalSection, OutranksData, Named, AllOthers, Task, repeats, same_bytes}
use Rattle.task_sheet.specs.declared.sheet.TheConstants.{WEIGHT_LIMIT, PERIOD_FROM, PERIOD_TO, SECTION_LIMIT, LOCK_LIMIT, OUTRANKS_LIMIT}
use Rattle.task_sheet.specs.declared.sheet.SheetCause.{SheetCause}
use Rattle.task_sheet.specs.declared.sheet.SheetCause.TheVariants as cause
use Rattle.task_sheet.specs.declared.sheet.OutranksCause.{OutranksCause}
use Rattle.task_sheet.specs.declared.sheet.OutranksCause.TheVariants as outranks

-- the first fault of the section at a place, which may begin at `from`
abbrev pub section_fault : (place from cost : ℕ) → CriticalSection → Option SheetCause
section_fault place from cost x =
    if length x.locks == 0 then Some (cause.NoLocks place)
    else if nat_lt LOCK_LIMIT (length x.locks) then Some (cause.TooManyLocks place)
    else if repeats x.locks then Some (cause.LockTwice place)
    else if x.len == 0 then Some (cause.LenZero place)
    else if nat_lt x.at from then Some (cause.Overlap place)
    else if nat_lt cost (x.at + x.len) then Some (cause.SectionPastCost place)
    else None

-- the first fault of sections, of which the first stands at a place and may begin at `from`
abbrev pub sections_fault : (place from cost : ℕ) → List CriticalSection → Option SheetCause
sections_fault place from cost [] = None
sections_fault place from cost (x ∷ xs) =
    option_or (section_fault place from cost x) (sections_fault (place + 1) (x.at + x.len) cost xs)

-- the first fault of the numbers
abbrev pub numbers_fault : (weight period deadline cost : ℕ) → Option SheetCause
numbers_fault weight period deadline cost =
    if nat_lt WEIGHT_LIMIT weight then Some cause.BadWeight
    else if nat_lt period PERIOD_FROM || nat_lt PERIOD_TO period then Some cause.BadPeriod
    else if deadline == 0 then Some cause.DeadlineZero
    else if nat_lt period deadline then Some cause.DeadlinePastPeriod
    else if cost == 0 then Some cause.CostZero
    else if nat_lt period cost then Some cause.CostPastPeriod
    else None

-- the first fault of the list of sections
abbrev pub list_fault : (cost : ℕ) → List CriticalSection → Option SheetCause
list_fault cost xs =
    if nat_lt SECTION_LIMIT (length xs) then Some cause.TooManySections else sections_fault 1 0 cost xs

-- the first reason why the values are no sheet
abbrev pub sheet_fault : Task → Option SheetCause
sheet_fault s =
    option_or (numbers_fault s.weight s.period s.deadline s.cost) (list_fault s.cost s.sections)

-- the first reason why the task of a name can't be one that must stand above the tasks of these names
abbrev pub names_fault : (own : List ℕ) → List (List ℕ) → Option OutranksCause
names_fault own names =
    if nat_lt OUTRANKS_LIMIT (length names) then Some outranks.TooManyOutranks
    else if repeats names then Some outranks.OutranksTwice
    else if list_any (λ n. same_bytes n own) names then Some outranks.OutranksSelf
    else None

-- the same of what a sheet says: all others have no fault
abbrev pub outranks_fault : (own : List ℕ) → OutranksData → Option OutranksCause
outranks_fault own (Named names) = names_fault own names
outranks_fault own AllOthers = None
