-- What `settle` and `settle_held` answer.
use Rattle.std.specs.Prelude.{◌≡◌, ◌≢◌, ◌<◌, ℕ, Result, Ok, Err}
use Rattle.drafts.specs.Machine.{Entry}
use Rattle.drafts.specs.Books.{Book, logged, IsNextEntry, IsLegalBook}
use Rattle.drafts.specs.Edits.{Draft}
use Rattle.drafts.specs.Proposals.{ProposalData, IsStrange, StillHolds, IsSaidBy}
use Rattle.drafts.specs.declared.settling.HeldFault.{HeldFault}
use Rattle.book_lock.specs.TeamPass.{Known, receiving}
use Rattle.book_lock.specs.declared.answer.Settlement.{Settlement}
use Rattle.book_lock.specs.declared.answer.Settlement.TheVariants.{Decided, Stale}
use Rattle.book_lock.specs.declared.answer.DeskFault.{DeskFault}
use Rattle.book_lock.specs.declared.answer.DeskFault.TheVariants.{OtherTeam, Stranger, OutOfMemory}

-- the next entry is logged at that place, and the pass has it as its last receipt
abbrev pub IsEntered : Book → Draft → Known → ℕ → Book → Known → Type 0
IsEntered b d old place next new =
    (e : Entry) × IsNextEntry b d place e × (next ≡ logged b e) × (new ≡ receiving old place e)

-- what `settle` answers, and what happens to the book and to the pass: a decision is what the proposal says
abbrev pub Settles : Book → ProposalData → Known → Result Settlement DeskFault → Book → Known
    → Type 0
Settles b p old (Ok (Decided place)) next new =
    (p.draft.base.version ≡ b.desk.version)
    × StillHolds b p
    × ((e : Entry) × IsSaidBy p e.decision × IsNextEntry b p.draft place e × (next ≡ logged b e)
    × (new ≡ receiving old place e))
Settles b p old (Ok (Stale fresh back)) next new =
    (p.draft.base.version < b.desk.version) × (fresh.value ≡ b.desk) × (back ≡ p) × (next ≡ b)
    × (new ≡ old)
Settles b p old (Err (Stranger back)) next new =
    IsStrange b p × (back ≡ p) × (next ≡ b) × (new ≡ old)
Settles b p old (Err (OutOfMemory back)) next new = (back ≡ p) × (next ≡ b) × (new ≡ old)
Settles b p old (Err (OtherTeam back)) next new = ⊥

-- what the held call answers, and what happens then: it is never stale
abbrev pub Holds : Book → Draft → Known → Result ℕ HeldFault → Book → Known → Type 0
Holds b d old (Ok place) next new = IsEntered b d old place next new
Holds b d old (Err fault) next new = (fault.draft ≡ d) × (next ≡ b) × (new ≡ old)

-- ---- for a caller who doesn't see the book
-- Outside the lock no clause can name the shared book. What is said here is that some legal book behaves so, and nothing
-- ties it to what the pass knew; that it is this desk's is shown at `close`, where the receipts are compared with the log
-- (`IsDeskClosed`).
-- a decision on a draft's changes, which some legal book logged next, is the pass's last receipt
pub record IsReceived (d : Draft) (old : Known) (place : ℕ) (new : Known) : Type 0 where
  pub book : Book
  pub next : Book
  pub legal : IsLegalBook book
  pub entered : IsEntered book d old place next new

-- what some legal book answers by `settle`
pub record SettlesSome (p : ProposalData) (old : Known) (answer : Result Settlement DeskFault)
    (new : Known) : Type 0 where
  pub book : Book
  pub next : Book
  pub legal : IsLegalBook book
  pub settles : Settles book p old answer next new

-- another team's proposal is refused; else some legal book answers
abbrev pub AnswersProposal : ProposalData → Known → Result Settlement DeskFault → Known → Type 0
AnswersProposal p old (Err (OtherTeam back)) new =
    (p.draft.team ≢ old.team) × (back ≡ p) × (new ≡ old)
AnswersProposal p old answer new = (p.draft.team ≡ old.team) × SettlesSome p old answer new

-- what some legal book answers by the held call
pub record HoldsSome (d : Draft) (old : Known) (answer : Result ℕ HeldFault) (new : Known) : Type 0 where
  pub book : Book
  pub next : Book
  pub legal : IsLegalBook book
  pub holds : Holds book d old answer next new
