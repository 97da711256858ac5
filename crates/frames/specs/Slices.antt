-- Slices, by time, and how many ticks a job has executed in them.
use Rattle.std.specs.Prelude.{ℕ, zero, suc, ◌+◌, ◌-◌, min, Bool, true, ◌==◌, if◌then◌else◌, List, [], ◌∷◌, slice_index_or, ◌&&◌, nat_le}
use Rattle.ceiling_kernel.specs.declared.trace.Slice.{Slice}

-- stands past the end of some slices
abbrev pub no_slice : Slice
no_slice = record { job = 0; start = 0; stop = 0 }

-- the slice at a place, from 0
abbrev pub slice_at : List Slice → ℕ → Slice
slice_at slices n = slice_index_or slices n no_slice

-- how many ticks a slice has
abbrev pub ticks_of : Slice → ℕ
ticks_of s = s.stop - s.start

-- how many ticks a job has executed after a slice, of which e before it: no more than passed until then
abbrev pub executed_with : ℕ → ℕ → Slice → ℕ
executed_with j e s = if s.job == j then min e s.start + ticks_of s else e

-- how many ticks job j has executed in the first n slices
unfoldable pub executed_in : List Slice → ℕ → ℕ → ℕ
executed_in slices zero j = 0
executed_in slices (suc n) j = executed_with j (executed_in slices n j) (slice_at slices n)

-- slices begin one after the other, the first no earlier than a time
abbrev pub rises : (before : ℕ) → List Slice → Bool
rises before [] = true
rises before (s ∷ slices) = nat_le before s.start && rises s.start slices
