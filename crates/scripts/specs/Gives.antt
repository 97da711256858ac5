-- What a reading of words answers.
use Rattle.std.specs.Prelude.{◌≡◌, ℕ, List, take, Result, Ok, Err}
use Rattle.scripts.specs.declared.line.RowFault.{RowFault}
use Rattle.scripts.specs.declared.line.RowFault.TheVariants.{OutOfMemory}

-- the reading has this fault; out of memory says nothing of it
abbrev pub FailsRow : {Y : Type 0} → RowFault → Result Y RowFault → Type 0
FailsRow OutOfMemory read = Unit {0}
FailsRow fault read = read ≡ Err fault

-- a result is that of the definition, or out of memory
abbrev pub GivesRow : {X Y : Type 0} → (X → Y) → Result X RowFault → Result Y RowFault → Type 0
GivesRow view (Ok x) read = read ≡ Ok (view x)
GivesRow view (Err e) read = FailsRow e read

-- a result is the first so many of the list that the definition gives, or out of memory
abbrev pub GivesFirst : {X A : Type 0} → ℕ → (X → List A) → Result X RowFault
    → Result (List A) RowFault → Type 0
GivesFirst {A = A} most view (Ok x) read =
    (all : List A) × (read ≡ Ok all) × (view x ≡ take most all)
GivesFirst most view (Err e) read = FailsRow e read
