-- Which ticks of a slice are darker: those that its job executes inside a section.
use Rattle.std.specs.Prelude.{◌≡◌, ℕ, ◌+◌, ◌-◌, min, Bool, true, false, nat_lt, if◌then◌else◌, List, [], ◌∷◌, length, set, slice_index}
use Rattle.task_sheet.specs.Sheet.{CriticalSection}
use Rattle.ceiling_kernel.specs.declared.trace.Slice.{Slice}
use Rattle.frames.specs.Slices.{ticks_of}

-- a count for each of so many jobs, which is 0
abbrev pub AreUncounted : (ticks : List ℕ) → (jobs : ℕ) → Type 0
AreUncounted ticks jobs = (length ticks ≡ jobs) × ((j : ℕ) → slice_index ticks j ≡ 0)

-- the counts of some jobs after a slice; one of no job changes none
abbrev pub counted : List ℕ → Slice → List ℕ
counted ticks s = set ticks s.job (min (slice_index ticks s.job) s.start + ticks_of s)

-- where the darker part of a slice begins whose job has executed e ticks before it, in ticks of the slice
abbrev pub dark_from : CriticalSection → ℕ → ℕ
dark_from x e = x.at - e

-- where it ends
abbrev pub dark_to : CriticalSection → ℕ → Slice → ℕ
dark_to x e s = min (x.at + x.len - e) (ticks_of s)

-- names with a space before each have at most so many letters
abbrev pub fits : ℕ → List (List ℕ) → Bool
fits room [] = true
fits room (name ∷ names) =
    if nat_lt (length name) room then fits (room - length name - 1) names else false
