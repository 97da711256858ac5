-- From the rounds of a commit to its answer.
use Rattle.std.proofs.Common.{◌≡◌, ◌⊎◌, inl, inr, ℕ, ◌∙◌}
use Rattle.std.specs.Prelude.{Result, Ok, Err}
use Rattle.assignment.specs.Questions.{QuestionData}
use Rattle.candidate_workers.specs.WorkerFaults.{IsBadCount}
use Rattle.drafts.specs.declared.change.Refusal.{Refusal}
use Rattle.drafts.specs.Applied.{OnNode, applied}
use Rattle.drafts.specs.Machine.{MachineState}
use Rattle.drafts.specs.Edits.{Draft, on_base}
use Rattle.drafts.specs.Proposals.{ProposalData}
use Rattle.book_lock.specs.Reached.{IsReached}
use Rattle.book_lock.specs.TeamPass.{Known}
use Rattle.book_lock.specs.Asking.{NoneShutApplied, IsUntested}
use Rattle.book_lock.specs.Settles.{IsReceived, SettlesSome, HoldsSome}
use Rattle.book_lock.specs.declared.answer.Settlement.TheVariants.{Decided}
use Rattle.book_lock.specs.Commits.{IsSameChange, IsUntestedOn, IsUndecided, IsLater, Commits}
use Rattle.book_lock.specs.declared.commit.CommitFault.{CommitFault}
use Rattle.book_lock.specs.declared.commit.CommitCause.{CommitCause}
use Rattle.book_lock.specs.declared.commit.CommitCause.TheVariants.{OtherTeam, BadWorkers}

-- what is settled is a decision on the proposal's changes
pub received-settled : {p : ProposalData} {old new : Known} {place : ℕ}
    → SettlesSome p old (Ok (Decided place)) new → IsReceived p.draft old place new
received-settled is = let entered = is.settles.2 in record {
  book = is.book;
  next = is.next;
  legal = is.legal;
  entered = (entered.0, entered.2, entered.3, entered.4);
}

pub received-held : {d : Draft} {old new : Known} {place : ℕ} → HoldsSome d old (Ok place) new
    → IsReceived d old place new
received-held is =
    record { book = is.book; next = is.next; legal = is.legal; entered = is.holds }

-- on the draft's own base, or on a state that the node came to
abbrev pub IsBaseOf : Draft → MachineState → Type 0
IsBaseOf d desk = (desk ≡ d.base) ⊎ IsReached desk

-- a cause that no test has
untested_never : (may : QuestionData → Type 0) (outcome : Result OnNode Refusal)
    → (IsUntested may outcome OtherTeam → ⊥) × (IsUntested may outcome BadWorkers → ⊥)
untested_never may (Ok node) = ((λ h. h), λ h. h)
untested_never may (Err refusal) = ((λ h. cc), λ h. cc)

pub undecided : (may : QuestionData → Type 0) (workers : ℕ) (d : Draft) (p : Known)
    (cause : CommitCause) → d.team ≡ p.team → ¬ IsBadCount workers → IsUntestedOn may d cause
    → IsUndecided may workers d p cause
undecided may workers d p OtherTeam team good h =
    absurd ((untested_never may (applied d.team h.0.node d.changes)).0 h.2)
undecided may workers d p BadWorkers team good h =
    absurd ((untested_never may (applied d.team h.0.node d.changes)).1 h.2)
undecided may workers d p cause team good h = (team, good, h)

-- a decision on the same changes is one on these
pub received_for : {d back : Draft} {p old new : Known} {place : ℕ} → IsSameChange d back → p ≡ old
    → IsReceived back p place new → IsReceived d old place new
received_for same pass h = let is = h.entered.1 in record {
  book = h.book;
  next = h.next;
  legal = h.legal;
  entered = (
    h.entered.0,
    (is.0, is.1 ∙ same.0, is.2 ∙ same.1, rw (← same.0, ← same.1) is.3),
    h.entered.2,
    rw (← pass) h.entered.3,
  );
}

pub commits_later : (may always : QuestionData → Type 0) (workers : ℕ) (d back : Draft)
    (base : MachineState) (old p new : Known) (r : Result ℕ CommitFault) → d.team ≡ old.team
    → ¬ IsBadCount workers → NoneShutApplied always (on_base d) → IsSameChange d back
    → base ≡ d.base → IsReached back.base → p ≡ old → IsLater may back base p r new
    → Commits may always workers d old r new
commits_later may always workers d back base old p new (Ok place) team good none same b reached
    pass h = (team, good, none, received_for same pass h)
commits_later may always workers d back base old p new (Err fault) team good none same b reached
    pass h =
    let from : IsReached h.0.0 = elim h.0.1 [ inl e ↦ rw e reached | inr r ↦ r ] in
    let untested : IsUntestedOn may d fault.cause =
    (h.0.0, inr from, rw (← same.0, ← same.1) h.0.2) in (
      undecided may workers d old fault.cause team good untested,
      h.1 ∙ (λ i. let x : Draft =
          record { team = same.0 i; base = b i; changes = same.1 i } in x),
      h.2 ∙ pass,
    )
