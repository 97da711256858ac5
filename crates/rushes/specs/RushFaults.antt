-- Threads that run the lines of teams.
use Rattle.std.specs.Prelude.{ℕ, List, [], ◌∷◌, Option, None, Some, Result, Ok, Err}
use Rattle.book_lock.specs.TeamPass.{Known}
use Rattle.rushes.specs.Hands.{Hand, new_hand, AreDone}
use Rattle.rushes.specs.TeamLines.{TeamLine}
use Rattle.scripts.specs.declared.rush_fault.RushFault.{RushFault}

-- what a team's lines come to: the team after all of them, or a fault
abbrev pub IsEnd : ℕ → List TeamLine → Known → Result Hand RushFault → Type 0
IsEnd workers lines start (Ok last) = AreDone workers (new_hand start) lines last
IsEnd workers lines start (Err fault) = Unit {0}

-- the first fault among the ends of teams
abbrev pub first_fault : List (Result Hand RushFault) → Option RushFault
first_fault [] = None
first_fault (Ok last ∷ ends) = first_fault ends
first_fault (Err fault ∷ ends) = Some fault

-- two lists are as long, and what stands at one place of both is related
abbrev pub Each : {X Y : Type 0} → (X → Y → Type 0) → List X → List Y → Type 0
Each R [] [] = Unit {0}
Each R (x ∷ xs) (y ∷ ys) = R x y × Each R xs ys
Each R [] (y ∷ ys) = ⊥
Each R (x ∷ xs) [] = ⊥
