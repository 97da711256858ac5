-- What a script makes of the world, and what is printed of it.
use Rattle.std.specs.Prelude.{◌≡◌, ◌⊎◌, ℕ, List, [], ◌∷◌, ◌++◌, map, Option, Some, None, Result, Ok, Err, option_map, codes}
use Rattle.assignment.specs.Places.{PlaceData}
use Rattle.assignment.specs.Placings.{IsBestPlacing}
use Rattle.assignment.specs.Questions.{FindingData}
use Rattle.drafts.specs.declared.change.Refusal.{Refusal}
use Rattle.drafts.specs.Applied.{OnNode, set_of}
use Rattle.drafts.specs.Edits.{on_base}
use Rattle.drafts.specs.Machine.{MachineState}
use Rattle.desk_core.specs.declared.events.Cause.{Cause}
use Rattle.desk_core.specs.declared.events.Cause.TheVariants as cause
use Rattle.desk_core.specs.declared.events.Event.{Event}
use Rattle.desk_core.specs.declared.events.Event.TheVariants as event
use Rattle.desk_core.specs.declared.events.Reply.{Reply}
use Rattle.desk_core.specs.declared.events.Standing.{Standing}
use Rattle.desk_core.specs.declared.events.Standing.TheVariants as standing
use Rattle.drafts.specs.Books.{IsLegalBook}
use Rattle.desk_core.specs.World.{World, Live, live_at, Happens, IsRun}
use Rattle.desk_core.specs.Standings.{IsStanding, IsQuestionOf}
use Rattle.scripts.specs.declared.line.Line.{Line}
use Rattle.scripts.specs.declared.line.Row.{Row}
use Rattle.scripts.specs.declared.line.Row.TheVariants.{Open, Put, Remove, Found, Test, Commit, Abandon}
use Rattle.plays.specs.Printed.{cause_word, printed, refused_line, state_lines, tested_line}

-- the event happens, and leads from one world to another; this is the line of its reply
abbrev pub Answers : World → Event → World → List ℕ → Type 0
Answers w e v text = (r : Reply) × Happens w e r v × (text ≡ printed r)

-- ---- a finding of a draft's present level
abbrev pub no_levels_on : Result OnNode Refusal → Option Cause
no_levels_on (Err refusal) = Some cause.Untestable
no_levels_on (Ok node) = None

-- why a draft has no levels
abbrev pub no_levels : Option Live → Option Cause
no_levels None = Some cause.NoSuchDraft
no_levels (Some l) = no_levels_on (on_base l.draft)

-- of two drafts: that one is none comes before that one can't be tested
abbrev pub first_cause : Option Cause → Option Cause → Option Cause
first_cause None second = second
first_cause (Some cause.NoSuchDraft) second = Some cause.NoSuchDraft
first_cause (Some why) None = Some why
first_cause (Some why) (Some other) = Some other

-- the finding is brought; there is none where nothing is asked by that name
abbrev pub IsFindingPlayed : World → ℕ → World → List ℕ → Option FindingData → Type 0
IsFindingPlayed w draft v text None = (v ≡ w) × (text ≡ refused_line (codes "NoQuestion"))
IsFindingPlayed w draft v text (Some finding) = Answers w (event.Found draft finding) v text

-- a draft is brought the finding on the task of that name at the present level of another
abbrev pub IsFoundLine : World → ℕ → List ℕ → ℕ → World → List ℕ → Option Cause → Type 0
IsFoundLine w draft name other v text (Some why) = (v ≡ w) × (text ≡ refused_line (cause_word why))
IsFoundLine w draft name other v text None =
    (finding : Option FindingData)
    × IsQuestionOf (live_at w.drafts other) name (option_map (λ f. f.question) finding)
    × IsFindingPlayed w draft v text finding

-- ---- all findings that a draft misses
-- the draft was brought these findings, the last one first, each on the missing candidate of least rank
abbrev pub IsBroughtAll : World → ℕ → List FindingData → World → Type 0
IsBroughtAll w draft [] v = v ≡ w
IsBroughtAll w draft (f ∷ findings) v =
    (u : World) × (r : Reply) × IsBroughtAll w draft findings u
    × IsStanding (live_at u.drafts draft) (standing.Asking f.question)
    × Happens u (event.Found draft f) r v

-- nothing is asked any more, and this is said
abbrev pub IsStandingSaid : Standing → List ℕ → Type 0
IsStandingSaid (standing.Asking question) text = ⊥
IsStandingSaid (standing.Tested infeasible) text = text ≡ tested_line infeasible.items
IsStandingSaid standing.NoSuchDraft text = text ≡ refused_line (cause_word cause.NoSuchDraft)
IsStandingSaid standing.Untestable text = text ≡ refused_line (cause_word cause.Untestable)

-- a line `test`
abbrev pub IsTestLine : World → ℕ → World → List ℕ → Type 0
IsTestLine w draft v text =
    (findings : List FindingData) × (s : Standing)
    × IsBroughtAll w draft findings v × IsStanding (live_at v.drafts draft) s
    × IsStandingSaid s text

-- ---- lines
-- a row leads from one world to another, and this is printed
abbrev pub IsPlayed : World → Row → World → List ℕ → Type 0
IsPlayed w (Open team) v text = Answers w (event.Open team) v text
IsPlayed w (Put draft sheet) v text = Answers w (event.Put draft sheet) v text
IsPlayed w (Remove draft name) v text = Answers w (event.Remove draft name) v text
IsPlayed w (Found draft name other) v text =
    IsFoundLine w draft name other v text
    (first_cause (no_levels (live_at w.drafts draft)) (no_levels (live_at w.drafts other)))
IsPlayed w (Test draft) v text = IsTestLine w draft v text
IsPlayed w (Commit draft) v text = Answers w (event.Commit draft) v text
IsPlayed w (Abandon draft) v text = Answers w (event.Abandon draft) v text

-- lines, one after the other
abbrev pub ArePlayed : World → List Line → World → List ℕ → Type 0
ArePlayed w [] v text = (v ≡ w) × (text ≡ [])
ArePlayed w (line ∷ lines) v text =
    (u : World) × (first : List ℕ) × (rest : List ℕ)
    × IsPlayed w line.row u first × ArePlayed u lines v rest × (text ≡ first ++ rest)

-- ---- the events of lines
-- a row's events: its own; of `found`, a finding for the draft or none; of `test`, findings for the draft
abbrev pub AreEventsOf : Row → List Event → Type 0
AreEventsOf (Open team) events = events ≡ event.Open team ∷ []
AreEventsOf (Put draft sheet) events = events ≡ event.Put draft sheet ∷ []
AreEventsOf (Remove draft name) events = events ≡ event.Remove draft name ∷ []
AreEventsOf (Found draft name other) events =
    (events ≡ []) ⊎ ((f : FindingData) × (events ≡ event.Found draft f ∷ []))
AreEventsOf (Test draft) events =
    (fs : List FindingData) × (events ≡ map (λ f. event.Found draft f) fs)
AreEventsOf (Commit draft) events = events ≡ event.Commit draft ∷ []
AreEventsOf (Abandon draft) events = events ≡ event.Abandon draft ∷ []

-- those of lines, one line after the other
abbrev pub AreEvents : List Line → List Event → Type 0
AreEvents [] events = events ≡ []
AreEvents (line ∷ lines) events =
    (first : List Event) × (rest : List Event)
    × AreEventsOf line.row first × AreEvents lines rest × (events ≡ first ++ rest)

-- the events happen one after the other, and lead from one world to the other
abbrev pub IsLedBy : World → List Event → World → Type 0
IsLedBy w events v = (replies : List Reply) × IsRun w events replies v

-- the book: its version and the best order of its tasks
abbrev pub IsBookText : MachineState → List ℕ → Type 0
IsBookText desk text =
    (places : List PlaceData) × IsBestPlacing (set_of desk.node) places
    × (text ≡ state_lines desk.version desk.node places)

-- all lines are played from an empty desk on, and then the book, which is legal, is printed
abbrev pub PlaysAll : World → List Line → List ℕ → Type 0
PlaysAll w lines text =
    (v : World) × (played : List ℕ) × (book : List ℕ)
    × ArePlayed w lines v played × IsLegalBook v.book × IsBookText v.book.desk book
    × (text ≡ played ++ book)

-- some of the lines are played, from the first on
abbrev pub PlaysSome : World → List Line → List ℕ → Type 0
PlaysSome w lines text =
    (done : List Line) × (left : List Line) × (v : World) × (lines ≡ done ++ left)
    × ArePlayed w done v text
