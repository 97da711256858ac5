-- What a round of a commit answers, and the whole commit.
use Rattle.std.specs.Prelude.{◌≡◌, ◌≢◌, ◌<◌, ◌⊎◌, ℕ, Result, Ok, Err}
use Rattle.assignment.specs.Questions.{QuestionData}
use Rattle.candidate_workers.specs.WorkerFaults.{IsBadCount}
use Rattle.drafts.specs.Applied.{applied}
use Rattle.drafts.specs.Machine.{MachineState}
use Rattle.drafts.specs.Edits.{Draft, on_base}
use Rattle.book_lock.specs.Reached.{IsReached}
use Rattle.book_lock.specs.TeamPass.{Known}
use Rattle.book_lock.specs.Settles.{IsReceived}
use Rattle.book_lock.specs.Asking.{NoneShutApplied, IsUntested}
use Rattle.book_lock.specs.declared.commit.Round.{Round}
use Rattle.book_lock.specs.declared.commit.Round.TheVariants.{Decided, Overtaken}
use Rattle.book_lock.specs.declared.commit.CommitFault.{CommitFault}
use Rattle.book_lock.specs.declared.commit.CommitCause.{CommitCause}
use Rattle.book_lock.specs.declared.commit.CommitCause.TheVariants.{OtherTeam, BadWorkers}

-- the same changes of the same team
abbrev pub IsSameChange : Draft → Draft → Type 0
IsSameChange d e = (e.team ≡ d.team) × (e.changes ≡ d.changes)

-- one round outside the lock, and what followed under it
abbrev pub IsRound :
    (QuestionData → Type 0) → (QuestionData → Type 0) → Draft → Known → Result Round CommitFault
    → Known → Type 0
IsRound may always d old (Ok (Decided place)) new =
    NoneShutApplied always (on_base d) × IsReceived d old place new
IsRound may always d old (Ok (Overtaken back base)) new =
    NoneShutApplied always (on_base d)
    × IsSameChange d back
    × (base.value ≡ d.base)
    × (d.base.version < back.base.version)
    × IsReached back.base
    × (new ≡ old)
IsRound may always d old (Err fault) new =
    IsUntested may (on_base d) fault.cause × (fault.draft ≡ d) × (new ≡ old)

-- some test of these changes wasn't made: on the draft's base, or on a state that the node came to
abbrev pub IsUntestedOn : (QuestionData → Type 0) → Draft → CommitCause → Type 0
IsUntestedOn may d cause =
    (desk : MachineState) × ((desk ≡ d.base) ⊎ IsReached desk)
    × IsUntested may (applied d.team desk.node d.changes) cause

-- the later rounds of a draft: what is handed back is on the base that it came with
abbrev pub IsLater : (QuestionData → Type 0) → Draft → MachineState → Known → Result ℕ CommitFault
    → Known
    → Type 0
IsLater may d base old (Ok place) new = IsReceived d old place new
IsLater may d base old (Err fault) new =
    IsUntestedOn may d fault.cause
    × (fault.draft
    ≡ (let e : Draft = record { team = d.team; base = base; changes = d.changes } in e))
    × (new ≡ old)

-- why there is no decision; the question that was shut out may be on the set that the changes come to on a later state
abbrev pub IsUndecided : (QuestionData → Type 0) → ℕ → Draft → Known → CommitCause → Type 0
IsUndecided may workers d p OtherTeam = d.team ≢ p.team
IsUndecided may workers d p BadWorkers = (d.team ≡ p.team) × IsBadCount workers
IsUndecided may workers d p cause =
    (d.team ≡ p.team) × (¬ IsBadCount workers) × IsUntestedOn may d cause

-- the whole commit: a receipt, with no question on the first set that the gate always shuts out, or the draft as it came
abbrev pub Commits :
    (QuestionData → Type 0) → (QuestionData → Type 0) → ℕ → Draft → Known → Result ℕ CommitFault
    → Known → Type 0
Commits may always workers d old (Ok place) new =
    (d.team ≡ old.team) × (¬ IsBadCount workers) × NoneShutApplied always (on_base d)
    × IsReceived d old place new
Commits may always workers d old (Err fault) new =
    IsUndecided may workers d old fault.cause × (fault.draft ≡ d) × (new ≡ old)
