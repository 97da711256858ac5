-- What a team's lines of a script make of its drafts and its pass, while the other teams' lines run beside them.
use Rattle.std.specs.Prelude.{◌≡◌, ◌≤◌, ℕ, ◌+◌, List, [], ◌∷◌, ◌++◌, length, nat_eq, Option, None, Some, option_map, Result, Ok, Err, MatchOption, map}
use Rattle.std.specs.Map.{lookup, update}
use Rattle.drafts.specs.declared.change.Change.{Change}
use Rattle.drafts.specs.declared.draft.EditRefusal.{EditRefusal}
use Rattle.drafts.specs.Books.{Book, IsLegalBook}
use Rattle.drafts.specs.Machine.{Entry}
use Rattle.drafts.specs.Edits.{Draft, after_put, after_remove}
use Rattle.drafts.specs.declared.team.TheConstants.{TEAM_LIMIT}
use Rattle.book_lock.specs.declared.closing.Closing.{Closing}
use Rattle.book_lock.specs.Opening.{IsOpenedFor}
use Rattle.book_lock.specs.TeamPass.{Known, newcomer, placed_entries}
use Rattle.book_lock.specs.Commits.{Commits}
use Rattle.rushes.specs.TeamLines.{TeamLine, lines_of, opens}
use Rattle.rushes.specs.declared.note.Missed.{Missed}
use Rattle.rushes.specs.declared.note.Missed.TheVariants.{PutRefused, RemoveRefused, Ended}
use Rattle.rushes.specs.declared.note.Note.{Note}
use Rattle.scripts.specs.declared.line.Line.{Line}
use Rattle.scripts.specs.declared.line.Row.{Row}
use Rattle.scripts.specs.declared.line.Row.TheVariants.{Put, Remove, Commit, Abandon}

-- a team at one of its lines: the drafts that its lines above opened and that haven't ended, by number; the team's pass;
-- and what is reported of its lines above that did nothing
pub record Hand : Type 0 where
  pub drafts : List (ℕ × Draft)
  pub pass : Known
  pub notes : List Note

-- before the first line
abbrev pub new_hand : Known → Hand
new_hand pass = record { drafts = []; pass = pass; notes = [] }

-- ---- lines
-- the draft of that number, if it hasn't ended
abbrev pub draft_at : Hand → ℕ → Option Draft
draft_at h number = lookup (nat_eq number) h.drafts

-- the draft of that number is this now, or none, and the others are what they were
abbrev pub IsSet : Hand → ℕ → Option Draft → Hand → Type 0
IsSet h number draft k = (n : ℕ) → draft_at k n ≡ update nat_eq (draft_at h) number draft n

-- the draft of that number is opened, on a state of some legal log
abbrev pub IsOpened : Hand → ℕ → Hand → Type 0
IsOpened h number k =
    (d : Draft) × IsOpenedFor h.pass d × IsSet h number (Some d) k × (k.pass ≡ h.pass)
    × (k.notes ≡ h.notes)

-- a draft after an edit; one that is refused leaves it
abbrev pub edited : Draft → Result (List (List ℕ × Change)) EditRefusal → Draft
edited d (Err refusal) = d
edited d (Ok changes) = record { team = d.team; base = d.base; changes = changes }

-- why an edit is refused, if it is
abbrev pub refusal_in : Result (List (List ℕ × Change)) EditRefusal → Option EditRefusal
refusal_in (Ok changes) = None
refusal_in (Err refusal) = Some refusal

-- a commit of a draft, by at most so many workers at an open gate: its decision is the pass's last receipt
abbrev pub IsCommitted : ℕ → Draft → Known → Known → Type 0
IsCommitted workers d old new =
    (place : ℕ) × Commits (λ question. ⊥) (λ question. ⊥) workers d old (Ok place) new

-- what a line makes of a draft, None where that ends it, and of the pass; and what is reported of the line
abbrev pub IsStep :
    ℕ → Row → Draft → Known → Option Draft → Option Missed → Known → Type 0
IsStep workers (Put number sheet) d old next missed new =
    (next ≡ Some (edited d (after_put d sheet)))
    × (missed
    ≡ option_map (λ refusal. PutRefused sheet.name refusal) (refusal_in (after_put d sheet)))
    × (new ≡ old)
IsStep workers (Remove number name) d old next missed new =
    (next ≡ Some (edited d (after_remove d name)))
    × (missed
    ≡ option_map (λ refusal. RemoveRefused name refusal) (refusal_in (after_remove d name)))
    × (new ≡ old)
IsStep workers (Commit number) d old next missed new =
    (next ≡ None) × (missed ≡ None) × IsCommitted workers d old new
IsStep workers (Abandon number) d old next missed new =
    (next ≡ None) × (missed ≡ None) × (new ≡ old)
IsStep workers row d old next missed new = (next ≡ Some d) × (missed ≡ None) × (new ≡ old)

-- a line on a draft: a step of it; or it has ended, and that is reported
abbrev pub IsOn : ℕ → Row → ℕ → Option Draft → Known → Option Draft → Option Missed → Known → Type 0
IsOn workers row number None old next missed new =
    (next ≡ None) × (missed ≡ Some (Ended number)) × (new ≡ old)
IsOn workers row number (Some d) old next missed new = IsStep workers row d old next missed new

-- what is reported of the line with this number
abbrev pub noted : ℕ → Option Missed → List Note
noted line None = []
noted line (Some missed) = record { line = line; missed = missed } ∷ []

-- a line on the draft of that number, and what is reported of it
abbrev pub IsDraftLine : ℕ → Hand → ℕ → ℕ → Row → Hand → Type 0
IsDraftLine workers h line number row k =
    (next : Option Draft) × (missed : Option Missed)
    × IsOn workers row number (draft_at h number) h.pass next missed k.pass
    × IsSet h number next k
    × (k.notes ≡ h.notes ++ noted line missed)

-- a line of the team, which opens a draft or is on one
abbrev pub IsLineDone : ℕ → Hand → TeamLine → Hand → Type 0
IsLineDone workers h l k =
    MatchOption (opens l.line.row) (IsDraftLine workers h l.line.number l.draft l.line.row k)
    (λ team. IsOpened h l.draft k)

-- lines, one after the other
abbrev pub AreDone : ℕ → Hand → List TeamLine → Hand → Type 0
AreDone workers h [] k = k ≡ h
AreDone workers h (line ∷ lines) k =
    (mid : Hand) × IsLineDone workers h line mid × AreDone workers mid lines k

-- ---- all teams
-- these entries with their places are what a team's lines of the script came to, whatever parts of the ledger its pass
-- has, and these notes are what is reported of its lines
abbrev pub IsTeamPart : ℕ → List Line → ℕ → List (ℕ × Entry) → List Note → Type 0
IsTeamPart workers lines team entries notes =
    (parts : ℕ) × (last : Hand)
    × AreDone workers (new_hand (newcomer team parts)) (lines_of team [] lines) last
    × (last.pass.receipts ≡ entries)
    × (last.notes ≡ notes)

-- so it is with the notes of each team from this one on, and its entries of the log
abbrev pub AreParts : ℕ → List Line → List Entry → ℕ → List (List Note) → Type 0
AreParts workers lines log team [] = Unit {0}
AreParts workers lines log team (notes ∷ rest) =
    IsTeamPart workers lines team (placed_entries team 1 log) notes
    × AreParts workers lines log (team + 1) rest

-- the state and the log of a desk that was closed
abbrev pub closed_book : Closing → Book
closed_book c = record { desk = c.state.value; log = map (λ e. e.value) c.log.items }

-- each entry is of one of the teams that there may be
abbrev pub AreOfTeams : List Entry → Type 0
AreOfTeams [] = Unit {0}
AreOfTeams (e ∷ log) = (1 ≤ e.team) × (e.team ≤ TEAM_LIMIT) × AreOfTeams log

-- the log is legal, and the state its replay; each entry is of one of the teams; and each team's entries with their
-- places, and the notes on its lines, are what its lines came to
pub record IsRushed (workers : ℕ) (lines : List Line) (b : Book) (notes : List (List Note)) : Type 0 where
  pub legal : IsLegalBook b
  pub teams : AreOfTeams b.log
  pub all : length notes ≡ TEAM_LIMIT
  pub parts : AreParts workers lines b.log 1 notes
