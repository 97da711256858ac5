-- The book, and what an entry makes of it.
use Rattle.std.specs.Prelude.{◌≡◌, ℕ, ◌+◌, length, List, [], ◌∷◌, ◌++◌}
use Rattle.drafts.specs.Machine.{MachineState, empty_desk, Entry, after_entry, IsDecision, IsLegal, replay, admissions}
use Rattle.drafts.specs.Edits.{Draft}

-- the state, and the log of all decisions
pub record Book : Type 0 where
  pub desk : MachineState
  pub log : List Entry

-- the book before the first commit
abbrev pub empty_book : Book
empty_book = record { desk = empty_desk; log = [] }

-- one machine step, logged
abbrev pub logged : Book → Entry → Book
logged b e = record { desk = after_entry b.desk e; log = b.log ++ e ∷ [] }

-- the entry is the next one, with the machine's decision on the draft's changes
abbrev pub IsNextEntry : Book → Draft → ℕ → Entry → Type 0
IsNextEntry b d place e =
    (place ≡ length b.log + 1) × (e.team ≡ d.team) × (e.changes ≡ d.changes)
    × IsDecision b.desk d.team d.changes e.decision

-- each decision of the log is the machine's at its place, the state is the log's replay, and the version is the number
-- of admitted entries
pub record IsLegalBook (b : Book) : Type 0 where
  pub legal : IsLegal empty_desk b.log
  pub replay : replay empty_desk b.log ≡ b.desk
  pub version : b.desk.version ≡ admissions b.log
