-- What `new` refuses, and what `close` answers.
use Rattle.std.specs.Prelude.{◌≡◌, ◌<◌, ◌≤◌, ◌⊎◌, ℕ, List, true, false}
use Rattle.drafts.specs.declared.team.TheConstants.{TEAM_LIMIT}
use Rattle.drafts.specs.Books.{Book, IsLegalBook}
use Rattle.drafts.specs.Machine.{Entry}
use Rattle.book_lock.specs.TeamPass.{Known, has_team, placed_entries, HaveReceipts}
use Rattle.book_lock.specs.declared.closing.NewFault.{NewFault}
use Rattle.book_lock.specs.declared.closing.NewFault.TheVariants.{BadTeams, OutOfMemory}
use Rattle.book_lock.specs.declared.closing.CloseCause.{CloseCause}
use Rattle.book_lock.specs.declared.closing.CloseCause.TheVariants.{MissingPass, ReceiptMismatch}
use Rattle.std.specs.declared.sync.ledger.Blank.{Blank}

-- a desk has teams, and no more than there may be
abbrev pub IsBadTeams : ℕ → Type 0
IsBadTeams teams = (teams ≡ 0) ⊎ (TEAM_LIMIT < teams)

-- why there is no desk; the blank is handed back
abbrev pub IsNoDesk : Blank → ℕ → NewFault → Type 0
IsNoDesk blank teams (BadTeams back) = IsBadTeams teams × (back ≡ blank)
IsNoDesk blank teams (OutOfMemory back) = (¬ IsBadTeams teams) × (back ≡ blank)

-- each team has a pass
abbrev pub AllThere : ℕ → List Known → Type 0
AllThere teams passes = (team : ℕ) → 1 ≤ team → team ≤ teams → has_team team passes ≡ true

-- the least team without a pass
pub record IsMissing (teams : ℕ) (passes : List Known) (team : ℕ) : Type 0 where
  pub from : 1 ≤ team
  pub to : team ≤ teams
  pub none : has_team team passes ≡ false
  pub least : (t : ℕ) → 1 ≤ t → t < team → has_team t passes ≡ true

-- the team's lines of the log, with their places, are the receipts of its passes
abbrev pub IsReceipted : List Known → List Entry → ℕ → Type 0
IsReceipted passes log team = HaveReceipts team (placed_entries team 1 log) passes

-- so it is for each team
abbrev pub AllReceipted : ℕ → List Known → List Entry → Type 0
AllReceipted teams passes log = (team : ℕ) → 1 ≤ team → team ≤ teams → IsReceipted passes log team

-- the least team whose receipts are not its lines
pub record IsMismatch (teams : ℕ) (passes : List Known) (log : List Entry) (team : ℕ) : Type 0 where
  pub from : 1 ≤ team
  pub to : team ≤ teams
  pub differs : ¬ IsReceipted passes log team
  pub least : (t : ℕ) → 1 ≤ t → t < team → IsReceipted passes log t

-- the log is legal and this its replay; each team has a pass, whose receipts are its lines
pub record IsDeskClosed (teams : ℕ) (passes : List Known) (b : Book) : Type 0 where
  pub legal : IsLegalBook b
  pub there : AllThere teams passes
  pub receipted : AllReceipted teams passes b.log

-- why a desk wasn't closed; the book that the receipts differ from is still under the lock
abbrev pub IsUnclosed : ℕ → List Known → CloseCause → Type 0
IsUnclosed teams passes (MissingPass team) = IsMissing teams passes team
IsUnclosed teams passes (ReceiptMismatch team) =
    AllThere teams passes × ((b : Book) × IsLegalBook b × IsMismatch teams passes b.log team)
