-- Which thread that the set doesn't have executes longest.
use Rattle.std.specs.Prelude.{ℕ, nat_lt, List, [], ◌∷◌, ◌++◌, Option, Some, None, if◌then◌else◌}
use Rattle.std.specs.List.{list_any}
use Rattle.std.specs.Option.{option_map}
use Rattle.task_sheet.specs.Sheet.{same_bytes}
use Rattle.observed.specs.Shares.{share_of, time_in}
use Rattle.observed.specs.declared.pieces.Piece.{Piece}
use Rattle.observed.specs.declared.shares.Whom.TheVariants.{Foreign, Thread}
use Rattle.observed.specs.declared.strangers.Stranger.{Stranger}

-- a name behind others, unless it is among them
abbrev pub with_name : List ℕ → List (List ℕ) → List (List ℕ)
with_name name names =
    if list_any (λ n. same_bytes n name) names then names else names ++ name ∷ []

-- the names of those that execute between two times, behind others, each once, by when it first does
abbrev pub names_from : (from to : ℕ) → List (List ℕ) → List Piece → List (List ℕ)
names_from from to names [] = names
names_from from to names (p ∷ pieces) =
    names_from from to (if nat_lt 0 (share_of Foreign from to p) then with_name p.name names else names)
    pieces

-- a thread, and for how long it executes between two times
abbrev pub stranger_at : (from to : ℕ) → List Piece → List ℕ → Stranger
stranger_at from to pieces name =
    record { name = name; time = time_in (Thread name) from to pieces }

-- who executes longer, of equals the first
abbrev pub no_shorter : Stranger → Option Stranger → Option Stranger
no_shorter one None = Some one
no_shorter one (Some other) = if nat_lt one.time other.time then Some other else Some one

-- of threads with these names, who executes longest, of equals the first
abbrev pub longest_of : (from to : ℕ) → List Piece → List (List ℕ) → Option Stranger
longest_of from to pieces [] = None
longest_of from to pieces (n ∷ names) =
    no_shorter (stranger_at from to pieces n) (longest_of from to pieces names)

-- of all, who executes longest, of equals the first that executes
abbrev pub longest_stranger : (from to : ℕ) → List Piece → Option (List ℕ)
longest_stranger from to pieces =
    option_map (λ s. s.name) (longest_of from to pieces (names_from from to [] pieces))
