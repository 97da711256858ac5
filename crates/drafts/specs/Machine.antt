-- The desk that takes commits one at a time, and logs that it might have written.
use Rattle.std.specs.Prelude.{◌≡◌, ℕ, ◌+◌, List, [], ◌∷◌, Result, Ok, Err}
use Rattle.task_sheet.specs.Orders.{IsFeasible}
use Rattle.drafts.specs.declared.change.Change.{Change}
use Rattle.drafts.specs.declared.change.Refusal.{Refusal}
use Rattle.drafts.specs.Applied.{OnNode, set_of, applied}
use Rattle.drafts.specs.Placed.{StuckSetData, AreStuck}

-- a decision, by what it says
pub data Ruling : Type 0 where
  Admitted : (version : ℕ) → Ruling
  Refused : (refusal : Refusal) → Ruling
  Infeasible : (stuck : StuckSetData) → Ruling

-- a line of the log: who asked, with which changes, and what was decided
pub record Entry : Type 0 where
  pub team : ℕ
  pub changes : List (List ℕ × Change)
  pub decision : Ruling

-- the machine's state: how many commits were admitted, and what stands on the node
pub record MachineState : Type 0 where
  pub version : ℕ
  pub node : OnNode

-- the state before the first commit
abbrev pub empty_desk : MachineState
empty_desk = record { version = 0; node = record { tasks = []; interrupts = [] } }

-- what the machine answers to a commit whose changes come to this; an infeasible one with the members of the
-- greatest obstruction
abbrev pub IsRuling : ℕ → Result OnNode Refusal → Ruling → Type 0
IsRuling version (Err refusal) (Refused told) = told ≡ refusal
IsRuling version (Ok node) (Admitted told) = IsFeasible (set_of node) × (told ≡ version + 1)
IsRuling version (Ok node) (Infeasible s) =
    (¬ IsFeasible (set_of node)) × (s.set ≡ set_of node) × AreStuck (set_of node) s.members
IsRuling version (Err refusal) (Infeasible s) = ⊥
IsRuling version (Err refusal) (Admitted told) = ⊥
IsRuling version (Ok node) (Refused told) = ⊥

-- the decision is the machine's on the team's changes
abbrev pub IsDecision : MachineState → ℕ → List (List ℕ × Change) → Ruling → Type 0
IsDecision desk team changes decision =
    IsRuling desk.version (applied team desk.node changes) decision

-- the state with this on the node, a version on
abbrev pub admitted : MachineState → Result OnNode Refusal → MachineState
admitted desk (Ok node) = record { version = desk.version + 1; node = node }
admitted desk (Err refusal) = desk

-- the machine moves where it admits, and else stays
abbrev pub moved : MachineState → Ruling → Result OnNode Refusal → MachineState
moved desk (Admitted version) outcome = admitted desk outcome
moved desk (Refused refusal) outcome = desk
moved desk (Infeasible s) outcome = desk

-- the state after an entry
abbrev pub after_entry : MachineState → Entry → MachineState
after_entry desk e = moved desk e.decision (applied e.team desk.node e.changes)

-- each decision of the log is the machine's at its place
abbrev pub IsLegal : MachineState → List Entry → Type 0
IsLegal desk [] = Unit {0}
IsLegal desk (e ∷ log) =
    IsDecision desk e.team e.changes e.decision × IsLegal (after_entry desk e) log

-- the machine's state after the log
abbrev pub replay : MachineState → List Entry → MachineState
replay desk [] = desk
replay desk (e ∷ log) = replay (after_entry desk e) log

-- 1 for an admission, else 0
abbrev pub one_if_admitted : Ruling → ℕ
one_if_admitted (Admitted version) = 1
one_if_admitted (Refused refusal) = 0
one_if_admitted (Infeasible s) = 0

-- how many entries are admitted
abbrev pub admissions : List Entry → ℕ
admissions [] = 0
admissions (e ∷ log) = one_if_admitted e.decision + admissions log
