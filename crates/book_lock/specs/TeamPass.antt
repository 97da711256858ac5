-- What a team's side, its pass, knows without the lock: its number, its own tasks, and for each of its commits that was
-- decided the log entry and its place. `close` compares this with the log.
use Rattle.std.specs.Prelude.{◌≡◌, ℕ, ◌+◌, ◌-◌, ◌==◌, List, [], ◌∷◌, ◌++◌, length, Bool, true, false, ◌||◌, ◌&&◌, nat_le, zero, suc, if◌then◌else◌}
use Rattle.drafts.specs.declared.roster.Owned.{Owned}
use Rattle.drafts.specs.declared.team.TheConstants.{TEAM_LIMIT}
use Rattle.drafts.specs.Applied.{all_changes}
use Rattle.drafts.specs.Machine.{Ruling, Admitted, Refused, Infeasible, Entry}
use Rattle.book_lock.specs.Own.{own_after}

-- its team, its parts of the ledger of decisions, the team's tasks by rank, and each decision with its place
pub record Known : Type 0 where
  pub team : ℕ
  pub parts : ℕ
  pub tasks : List Owned
  pub receipts : List (ℕ × Entry)

-- the pass after the decision at that place
abbrev pub receiving : Known → ℕ → Entry → Known
receiving p place l = record {
  team = p.team;
  parts = p.parts;
  tasks = own_after l.decision (all_changes p.team p.tasks l.changes) p.tasks;
  receipts = p.receipts ++ (place, l) ∷ [];
}

-- the version of an admission; 0 of another decision
abbrev pub admitted_version : Ruling → ℕ
admitted_version (Admitted version) = version
admitted_version (Refused refusal) = 0
admitted_version (Infeasible stuck) = 0

-- no admitted receipt is of a later version
abbrev pub is_up_to : ℕ → List (ℕ × Entry) → Bool
is_up_to version [] = true
is_up_to version (r ∷ rs) = nat_le (admitted_version r.1.decision) version && is_up_to version rs

-- the lines of a team with their places, where the first has that place
abbrev pub placed_entries : ℕ → ℕ → List Entry → List (ℕ × Entry)
placed_entries team place [] = []
placed_entries team place (l ∷ ls) =
    if l.team == team then (place, l) ∷ placed_entries team (place + 1) ls
    else placed_entries team (place + 1) ls

-- the pass of a team that has decided nothing yet
abbrev pub newcomer : ℕ → ℕ → Known
newcomer team parts = record { team = team; parts = parts; tasks = []; receipts = [] }

-- so many passes of the teams from there on: each has a part of the ledger, which has one for each team that may be, and team 1 those left over too
abbrev pub newcomers : ℕ → ℕ → List Known
newcomers team zero = []
newcomers team (suc n) = newcomer team (if team == 1 then TEAM_LIMIT - n else 1) ∷ newcomers (team + 1) n

-- the parts of all passes together
abbrev pub parts_of : List Known → ℕ
parts_of [] = 0
parts_of (p ∷ ps) = p.parts + parts_of ps

-- how many decisions all passes count together
abbrev pub receipt_count : List Known → ℕ
receipt_count [] = 0
receipt_count (p ∷ ps) = length p.receipts + receipt_count ps

-- some pass is of that team
abbrev pub has_team : ℕ → List Known → Bool
has_team team [] = false
has_team team (p ∷ ps) = (p.team == team) || has_team team ps

-- the passes of that team have these lines with their places for receipts
abbrev pub HaveReceipts : ℕ → List (ℕ × Entry) → List Known → Type 0
HaveReceipts team all [] = Unit {0}
HaveReceipts team all (p ∷ ps) = (p.team ≡ team → p.receipts ≡ all) × HaveReceipts team all ps
