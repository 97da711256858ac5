-- From the teams after their lines to their parts of the log.
use Rattle.std.proofs.Common.{◌≡◌, ◌∙◌, ℕ, ◌+◌, ◌-◌, ◌<◌, ◌≤◌, ◌==◌, if◌then◌else◌, zero, suc, List}
use Rattle.std.proofs.Common.{[], ◌∷◌, ◌++◌, length, map, Some, true, refl, sym, ap, subst, inl}
use Rattle.std.proofs.Common.{inr, arith}
use Rattle.std.specs.Prelude.{Result, Ok, Err, IfOk, IfErr}
use Rattle.std.proofs.lemmas.Bool.{cases_order, or_left, or_right}
use Rattle.std.proofs.lemmas.Bool.Decides.{Decides-eqb}
use Rattle.drafts.specs.Machine.{Entry}
use Rattle.book_lock.specs.TeamPass.{Known, newcomer, newcomers, has_team, placed_entries}
use Rattle.book_lock.specs.TeamPass.{HaveReceipts}
use Rattle.scripts.specs.declared.line.Line.{Line}
use Rattle.rushes.specs.Hands.{Hand, new_hand, AreDone, AreParts}
use Rattle.rushes.specs.RushFaults.{Each, IsEnd, first_fault}
use Rattle.rushes.specs.TeamLines.{TeamLine, lines_of}
use Rattle.scripts.specs.declared.rush_fault.RushFault.{RushFault}
use Rattle.rushes.proofs.RunLaws.{run_team}

-- so many teams, from that one on, after their lines
abbrev pub AreAfter : ℕ → List Line → ℕ → ℕ → List Hand → Type 0
AreAfter workers lines first n teams =
    Each (λ start last. AreDone workers (new_hand start) (lines_of start.team [] lines) last)
    (newcomers first n) teams

-- the parts of the ledger that a team's pass begins with, where so many teams come after it
abbrev parts_with : ℕ → ℕ → ℕ
parts_with first n = if first == 1 then 8 - n else 1

-- the passes of teams
abbrev pub passes_in : List Hand → List Known
passes_in teams = map (λ last. last.pass) teams

-- each team has a pass
pub all_there : (workers : ℕ) (lines : List Line) (first n : ℕ) (teams : List Hand)
    → AreAfter workers lines first n teams → (team : ℕ) → first ≤ team → team < first + n
    → has_team team (passes_in teams) ≡ true
all_there workers lines first zero teams runs team low high = absurd (omega arith)
all_there workers lines first (suc n) [] runs team low high = absurd runs
all_there workers lines first (suc n) (k ∷ ks) runs team low high = elim (cases_order first team) [
  | inl same ↦ or_left (k.pass.team == team) (has_team team (passes_in ks))
      ((Decides-eqb k.pass.team team).1 (run_team workers (newcomer first (parts_with first n)) k
      (lines_of first [] lines) runs.0 ∙ same))
  | inr (inl less) ↦ or_right (k.pass.team == team) (has_team team (passes_in ks))
      (all_there workers lines (first + 1) n ks runs.1 team (omega arith) (omega arith))
  | inr (inr more) ↦ absurd (omega arith)
]

-- the notes of each team, with the entries that are the receipts of its passes, are its part
pub parts_of : (workers : ℕ) (lines : List Line) (first n : ℕ) (teams : List Hand)
    (log : List Entry) → AreAfter workers lines first n teams
    → ((team : ℕ) → first ≤ team → team < first + n → HaveReceipts team (placed_entries team 1 log)
    (passes_in teams)) → AreParts workers lines log first (map (λ last. last.notes) teams)
parts_of workers lines first zero [] log runs have = tt
parts_of workers lines first (suc n) (k ∷ ks) log runs have = (
  (
    parts_with first n,
    k,
    runs.0,
    (have first (omega arith) (omega arith)).0 (run_team workers
        (newcomer first (parts_with first n)) k (lines_of first [] lines) runs.0),
    refl,
  ),
  parts_of workers lines (first + 1) n ks log runs.1
      (λ team low high. (have team (omega arith) (omega arith)).1),
)
parts_of workers lines first n teams log runs have = absurd runs

-- there are as many
pub all_after : (workers : ℕ) (lines : List Line) (first n : ℕ) (teams : List Hand)
    → AreAfter workers lines first n teams → length (map (λ last. last.notes) teams) ≡ n
all_after workers lines first zero [] runs = refl
all_after workers lines first (suc n) (k ∷ ks) runs =
    ap suc (all_after workers lines (first + 1) n ks runs.1)
all_after workers lines first n teams runs = absurd runs

-- what a team's start came to is an end of the pass that it was started with, and of the team's lines
pub finish_end : {H : Type 0} (workers : ℕ) (lines : List Line)
    (started : Result H (Result Hand RushFault))
    (at : H → List TeamLine) (by : H → ℕ) (from : H → Known) (start : Known)
    (ended : Result Hand RushFault)
    → ((own : List TeamLine) × (own ≡ lines_of start.team [] lines)
    × IfOk started (λ h. (at h ≡ own) × (by h ≡ workers) × (from h ≡ start))
    × IfErr started (λ over. IsEnd workers own start over))
    → (IfOk started (λ h. IsEnd (by h) (at h) (from h) ended)
    × IfErr started (λ over. ended ≡ over))
    → IsEnd workers (lines_of start.team [] lines) start ended
finish_end workers lines (Ok h) at by from start ended is so =
    let end = so.0 in
    subst (λ (own : List TeamLine). IsEnd workers own start ended) is.1
    (rw (is.2.0, is.2.1, is.2.2) at end)
finish_end workers lines (Err over) at by from start ended is so =
    subst (λ (own : List TeamLine). IsEnd workers own start ended) is.1
    (subst (λ (r : Result Hand RushFault). IsEnd workers is.0 start r) (sym so.1) is.3)

-- where all ends are teams, these are what the lines made
pub all_run : (workers : ℕ) (lines : List Line) (starts : List Known) (teams : List Hand)
    → Each (λ start ended. IsEnd workers (lines_of start.team [] lines) start ended) starts
    (map (λ last. Ok last) teams)
    → Each (λ start last. AreDone workers (new_hand start) (lines_of start.team [] lines) last)
    starts teams
all_run workers lines [] [] all = tt
all_run workers lines (s ∷ starts) (k ∷ teams) all =
    (all.0, all_run workers lines starts teams all.1)
all_run workers lines starts teams all = absurd all

behind : (teams : List Hand) (fault : RushFault) (ends : List (Result Hand RushFault))
    → first_fault (map (λ last. Ok last) teams ++ Err fault ∷ ends) ≡ Some fault
behind [] fault ends = refl
behind (k ∷ teams) fault ends = behind teams fault ends

-- where all ends before are teams, a fault is the first
pub first_behind : (teams : List Hand) (all rest left : List (Result Hand RushFault))
    (ended : Result Hand RushFault) (fault : RushFault)
    → map (λ last. Ok last) teams ++ rest ≡ all → rest ≡ ended ∷ left → ended ≡ Err fault
    → first_fault all ≡ Some fault
first_behind teams all rest left ended fault whole next is =
    rw (← whole, next, is) (behind teams fault left)
