-- Lines that are played are a run of their events.
use Rattle.std.proofs.Common.{◌≡◌, ℕ, inl, inr, List, [], ◌∷◌, ◌++◌, map, Option, None, Some, refl}
use Rattle.std.proofs.Common.{sym, subst}
use Rattle.std.proofs.lemmas.List.{map_push}
use Rattle.assignment.specs.Questions.{FindingData}
use Rattle.drafts.specs.Books.{IsLegalBook}
use Rattle.desk_core.specs.declared.events.Cause.{Cause}
use Rattle.desk_core.specs.declared.events.Event.{Event}
use Rattle.desk_core.specs.declared.events.Event.TheVariants as event
use Rattle.desk_core.specs.World.{World, live_at, start}
use Rattle.desk_core.proofs.LegalLaws.{run-legal}
use Rattle.desk_core.proofs.RunLaws.{IsRun-append}
use Rattle.scripts.specs.declared.line.Line.{Line}
use Rattle.scripts.specs.declared.line.Row.{Row}
use Rattle.scripts.specs.declared.line.Row.TheVariants.{Open, Put, Remove, Found, Test, Commit}
use Rattle.scripts.specs.declared.line.Row.TheVariants.{Abandon}
use Rattle.plays.specs.Plays.{Answers, IsFindingPlayed, IsFoundLine, IsBroughtAll, IsPlayed}
use Rattle.plays.specs.Plays.{ArePlayed, AreEventsOf, AreEvents, IsLedBy, first_cause, no_levels}

-- ---- runs, one after the other
led-append : (w u v : World) (es fs : List Event) → IsLedBy w es u → IsLedBy u fs v
    → IsLedBy w (es ++ fs) v
led-append w u v es fs first next =
    (first.0 ++ next.0, IsRun-append w u v es fs first.0 next.0 first.1 next.1)

-- ---- one event, or none
led-one : (w : World) (e : Event) (v : World) (text : List ℕ) → Answers w e v text
    → IsLedBy w (e ∷ []) v
led-one w e v text is = (is.0 ∷ [], (v, is.1, refl))

led-none : (w v : World) → v ≡ w → IsLedBy w [] v
led-none w v same = ([], same)

-- ---- findings
-- the last one first, in the order in which they came
abbrev came : List FindingData → List FindingData
came [] = []
came (f ∷ fs) = came fs ++ f ∷ []

led-all : (w : World) (draft : ℕ) (fs : List FindingData) (v : World) → IsBroughtAll w draft fs v
    → IsLedBy w (map (λ f. event.Found draft f) (came fs)) v
led-all w draft [] v same = led-none w v same
led-all w draft (f ∷ fs) v is =
    let u = is.0 in
    let one : IsLedBy u (event.Found draft f ∷ []) v = (is.1 ∷ [], (v, is.4, refl)) in
    subst (λ (es : List Event). IsLedBy w es v)
    (sym (map_push (λ f. event.Found draft f) (came fs) f)) (led-append w u v
    (map (λ f. event.Found draft f) (came fs)) (event.Found draft f ∷ [])
    (led-all w draft fs u is.2) one)

-- ---- one row
abbrev Led : World → Row → World → Type 0
Led w row v = (events : List Event) × AreEventsOf row events × IsLedBy w events v

led-brought : (w : World) (draft : ℕ) (name : List ℕ) (other : ℕ) (v : World) (text : List ℕ)
    (f : Option FindingData) → IsFindingPlayed w draft v text f → Led w (Found draft name other) v
led-brought w draft name other v text None is = ([], inl refl, led-none w v is.0)
led-brought w draft name other v text (Some f) is =
    (event.Found draft f ∷ [], inr (f, refl), led-one w (event.Found draft f) v text is)

led-found : (w : World) (draft : ℕ) (name : List ℕ) (other : ℕ) (v : World) (text : List ℕ)
    (why : Option Cause) → IsFoundLine w draft name other v text why
    → Led w (Found draft name other) v
led-found w draft name other v text None is = led-brought w draft name other v text is.0 is.2
led-found w draft name other v text (Some why) is = ([], inl refl, led-none w v is.0)

led-row : (w : World) (row : Row) (v : World) (text : List ℕ) → IsPlayed w row v text → Led w row v
led-row w (Open team) v text is =
    (event.Open team ∷ [], refl, led-one w (event.Open team) v text is)
led-row w (Put draft sheet) v text is =
    (event.Put draft sheet ∷ [], refl, led-one w (event.Put draft sheet) v text is)
led-row w (Remove draft name) v text is =
    (event.Remove draft name ∷ [], refl, led-one w (event.Remove draft name) v text is)
led-row w (Found draft name other) v text is = led-found w draft name other v text
    (first_cause (no_levels (live_at w.drafts draft)) (no_levels (live_at w.drafts other))) is
led-row w (Test draft) v text is =
    (map (λ f. event.Found draft f) (came is.0), (came is.0, refl), led-all w draft is.0 v is.2)
led-row w (Commit draft) v text is =
    (event.Commit draft ∷ [], refl, led-one w (event.Commit draft) v text is)
led-row w (Abandon draft) v text is =
    (event.Abandon draft ∷ [], refl, led-one w (event.Abandon draft) v text is)

-- ---- all lines
pub played-run : (w v : World) (lines : List Line) (text : List ℕ) → ArePlayed w lines v text
    → (events : List Event) × AreEvents lines events × IsLedBy w events v
played-run w v [] text is = ([], refl, led-none w v is.0)
played-run w v (line ∷ lines) text is =
    let u = is.0 in
    let first : Led w line.row u = led-row w line.row u is.1 is.3 in
    let rest = played-run u v lines is.2 is.4 in (
      first.0 ++ rest.0,
      (first.0, rest.0, first.1, rest.1, refl),
      led-append w u v first.0 rest.0
          first.2 rest.2,
    )

pub played-legal : (v : World) (lines : List Line) (text : List ℕ) → ArePlayed start lines v text
    → IsLegalBook v.book
played-legal v lines text is =
    let run = played-run start v lines text is in
    run-legal run.0 run.2.0 v run.2.1
