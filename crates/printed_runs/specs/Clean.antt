-- What a set shows of a run of it.
use Rattle.std.specs.Prelude.{◌≡◌, ℕ, [], true}
use Rattle.trace_text.specs.declared.fault.TraceFault.{TraceFault}
use Rattle.trace_text.specs.declared.fault.TraceFault.TheVariants as fault
use Rattle.observed.specs.declared.sight.Sight.{Sight}
use Rattle.observed.specs.declared.sight.Sight.TheVariants.{Infeasible, Seen}
use Rattle.observed_lines.specs.Breaks.{is_kept}
use Rattle.observed_lines.specs.Broken.{broken_lines}

-- the set has an order that passes, and no promise is broken by more than the tolerance
abbrev pub IsClean : ℕ → Sight → Type 0
IsClean tolerance (Infeasible members) = ⊥
IsClean tolerance (Seen shown) =
    (is_kept tolerance shown.seen.items ≡ true) × (broken_lines tolerance shown.seen.items ≡ [])

-- a refusal out of memory, or of more lines than are read
abbrev pub IsForRoom : TraceFault → Type 0
IsForRoom fault.OutOfMemory = Unit {0}
IsForRoom fault.TooManyLines = Unit {0}
IsForRoom _ = ⊥
