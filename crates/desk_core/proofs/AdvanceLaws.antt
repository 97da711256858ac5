-- What a draft answers to the finding that it asks for.
use Rattle.std.proofs.Common.{◌≡◌, ◌∙◌, ℕ, set, get_or, ◌+◌, List, Option, None, Some, Result, Ok}
use Rattle.std.proofs.Common.{Err, IfOk, refl, sym, ap, subst}
use Rattle.std.specs.declared.alloc.AllocError.{AllocError}
use Rattle.assignment.specs.Questions.{QuestionData}
use Rattle.drafts.specs.Applied.{OnNode}
use Rattle.drafts.specs.declared.change.Refusal.{Refusal}
use Rattle.drafts.specs.Edits.{on_base}
use Rattle.desk_core.specs.declared.told.Told.{Told}
use Rattle.desk_core.specs.declared.events.Reply.{Reply}
use Rattle.desk_core.specs.declared.events.Standing.{Standing}
use Rattle.desk_core.specs.declared.events.Standing.TheVariants.{Asking}
use Rattle.desk_core.specs.Advances.{IsTried, IsAdvancedOn, IsAdvancedIn, IsAdvanced}
use Rattle.desk_core.specs.Findings.{Asked, Decides}
use Rattle.desk_core.specs.Stages.{IsTrialOn}
use Rattle.desk_core.specs.Standings.{IsStanding, IsStandingOn}
use Rattle.desk_core.specs.Trials.{TrialData}
use Rattle.desk_core.specs.World.{World, Live, live_at, with_found, IsTestedOn, IsToldReply}
use Rattle.desk_core.proofs.BroughtLaws.{told-found, live-brought}
use Rattle.desk_core.proofs.SlotLaws.{set-same, found-moved}

-- a draft that is tested asks nothing
pub tested-silent : (outcome : Result OnNode Refusal) (found : List Asked)
    → IsTestedOn outcome found → (q : QuestionData) → ¬ IsStandingOn outcome found (Asking q)
tested-silent (Err refusal) found tested q asking = absurd tested
tested-silent (Ok node) found tested q asking = asking.1.present.undecided (tested asking.0)

-- ---- of a trial
pub tried-none : (outcome : Result OnNode Refusal) (t u : TrialData) → IsTrialOn outcome t
    → IsTried t u None → IsAdvancedOn outcome t.found u.found None
tried-none (Err refusal) t u so tried = absurd so
tried-none (Ok node) t u so tried = (
  tested-silent (Ok node) t.found (subst (λ U. (k : ℕ) → Decides U t.found k) so tried.0),
  ap (λ (x : TrialData). x.found) tried.1,
)

pub tried-some : (outcome : Result OnNode Refusal) (t u : TrialData) (told : Told) (r : Reply)
    → IsTrialOn outcome t → IsTried t u (Some told) → IsToldReply u.set told r
    → IsAdvancedOn outcome t.found u.found (Some r)
tried-some (Err refusal) t u told r so tried is = absurd so
tried-some (Ok node) t u told r so tried is =
    let f = tried.0 in
    let on = tried.1 in (
      f,
      rw (← so) on.asked,
      told-found (Ok node) t u f.question told r so on.answer on.same on.found is,
    )

-- ---- of a live draft
pub live-advanced : (old l : Live) (r : Option Reply) (found after : List Asked) → l ≡ old
    → after ≡ found → IsAdvancedOn (on_base l.draft) l.found found r
    → IsAdvancedIn (Some old) (Some (with_found l after)) r
live-advanced old l None found after is same so =
    rw (← is) (so.0, ap (λ xs. Some (with_found l xs)) (same ∙ so.1))
live-advanced old l (Some r) found after is same so = rw (← is) (
  so.0,
  so.1,
  (with_found l after, live-brought l l so.0.question r found after refl same so.2, refl),
)

pub slot-advanced : (slot : Option Live) (l m : Live) (result : Result (Option Reply) AllocError)
    → slot ≡ Some l → IfOk result (IsAdvancedIn (Some l) (Some m))
    → IfOk result (IsAdvancedIn slot (Some m))
slot-advanced slot l m result is so =
    subst (λ (o : Option Live). IfOk result (IsAdvancedIn o (Some m))) (sym is) so

-- a slot without a draft asks nothing
abbrev HasQuestion : Standing → Type 0
HasQuestion (Asking q) = Unit {0}
HasQuestion _ = ⊥

pub none-advanced : (slot new : Option Live) → slot ≡ None → new ≡ None → IsAdvancedIn slot new None
none-advanced slot new is gone = (
  λ q asking. subst HasQuestion
      (subst (λ (o : Option Live). IsStanding o (Asking q)) is asking) tt,
  gone ∙ sym is,
)

-- ---- of the core
pub core-advanced : (w : World) (draft i : ℕ) (slot new : Option Live)
    (result : Result (Option Reply) AllocError) → i + 1 ≡ draft → live_at w.drafts draft ≡ slot
    → slot ≡ get_or w.drafts i slot
    → IfOk result (IsAdvancedIn slot new)
    → IfOk result (IsAdvanced w draft (record { book = w.book; drafts = set w.drafts i new }))
core-advanced w draft i slot new (Err e) next at is so = tt
core-advanced w draft i slot new (Ok None) next at is so = (
  λ q asking. so.0 q (subst (λ (o : Option Live). IsStanding o (Asking q)) at asking),
  λ j. let x : World = record {
    book = w.book;
    drafts =
        (ap (λ o. set w.drafts i o) so.1 ∙ set-same w.drafts i slot is) j;
  } in x,
)
core-advanced w draft i slot new (Ok (Some r)) next at is so = (
  so.0,
  subst (λ (o : Option Live). IsStanding o (Asking so.0.question)) (sym at) so.1,
  found-moved w draft i slot new so.0 r next at is so.2,
)
