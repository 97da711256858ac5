-- A finding that is asked for is taken.
use Rattle.std.proofs.Common.{◌≡◌, ◌∙◌, ℕ, zero, suc, ◌-◌, ◌<◌, ◌==◌, inl, inr, List, [], ◌∷◌, ◌++◌}
use Rattle.std.proofs.Common.{Option, None, Some, Result, Ok, Err, slice_get, refl, sym, ap, subst}
use Rattle.std.proofs.Common.{IsFalse}
use Rattle.std.specs.Prelude.{slice_set}
use Rattle.std.specs.FinSet.{contains}
use Rattle.std.proofs.lemmas.Bool.{both_ways, cases_Bool}
use Rattle.task_sheet.specs.Sheet.{Task}
use Rattle.assignment.specs.Questions.{QuestionData, FindingData}
use Rattle.drafts.specs.declared.change.Refusal.{Refusal}
use Rattle.drafts.specs.Applied.{OnNode, set_of}
use Rattle.drafts.specs.Edits.{on_base}
use Rattle.desk_core.specs.declared.told.Told.{Told}
use Rattle.desk_core.specs.declared.told.Told.TheVariants as told
use Rattle.desk_core.specs.declared.events.Reply.{Reply}
use Rattle.desk_core.specs.declared.events.Standing.TheVariants.{Asking}
use Rattle.plays.specs.Plays.{IsBroughtAll}
use Rattle.desk_core.specs.Findings.{Asked, asked_of, found_after, level_of, IsNews, IsTold}
use Rattle.desk_core.specs.Asking.{IsNextAsked}
use Rattle.desk_core.specs.World.{World, Live, if_live, live_at, with_slot, IsFound, IsBroughtTo}
use Rattle.desk_core.specs.World.{IfLive}
use Rattle.desk_core.specs.Advances.{IsAdvanced}
use Rattle.desk_core.specs.Standings.{IsStanding, IsStandingOn}
use Rattle.desk_core.proofs.FindingLaws.{IsPresent-one}
use Rattle.desk_core.proofs.OpenLaws.{open_of, open-news}

-- how many findings the test of a draft can still take, at most
left_on : Result OnNode Refusal → List Asked → ℕ
left_on (Err refusal) found = 0
left_on (Ok node) found = open_of (set_of node) found

pub left_of : Option Live → ℕ
left_of None = 0
left_of (Some l) = left_on (on_base l.draft) l.found

-- ---- the draft that changes
live-set : (slots : List (Option Live)) (i : ℕ) (l m : Live) → if_live (slice_get slots i) ≡ Some l
    → if_live (slice_get (slice_set slots i (Some m)) i) ≡ Some m
live-set [] i l m is = absurd cc
live-set (slot ∷ slots) zero l m is = refl
live-set (slot ∷ slots) (suc i) l m is = live-set slots i l m is

live_at-set : (slots : List (Option Live)) (draft : ℕ) (l m : Live) → live_at slots draft ≡ Some l
    → live_at (slice_set slots (draft - 1) (Some m)) draft ≡ Some m
live_at-set slots draft l m is = elim (cases_Bool (draft == 0)) [
  | inl none ↦ let gone : None ≡ Some l = rw none at is in absurd cc
  | inr there ↦ rw there (live-set slots (draft - 1) l m (rw there at is))
]

-- ---- one finding more
told-more : (U : List Task) (found : List Asked) (q : QuestionData) (k : ℕ) (t : Told) → IsNextAsked
    U found q k → IsTold U found q t → found_after found (asked_of q) t ≡ found ++ asked_of q ∷ []
told-more U found q k told.Stranger asked is = absurd (is k asked.present asked.asked)
told-more U found q k told.Twice asked is =
    let same = IsPresent-one U found is.0 k is.1 asked.present in
    absurd (both_ways (contains (level_of U found k).missing q.task) (subst (λ n.
    IsFalse (contains (level_of U found n).missing q.task)) same is.3) asked.missing)
told-more U found q k told.Taken asked is = refl
told-more U found q k (told.LevelDone level task response) asked is = refl
told-more U found q k told.Tested asked is = refl

found-less : (outcome : Result OnNode Refusal) (found after : List Asked) (q : QuestionData)
    (r : Reply) → IsStandingOn outcome found (Asking q) → IsFound outcome found q r after
    → left_on outcome after < left_on outcome found
unfolding left_on
found-less (Err refusal) found after q r standing is = absurd cc
found-less (Ok node) found after q r standing is =
    let U = set_of node in
    let asked = standing.1 in
    let news : IsNews U found q standing.0 =
    record { present = asked.present; asked = asked.asked; missing = asked.missing } in
    subst (λ xs. open_of U xs < open_of U found) (sym (is.3
    ∙ told-more U found q standing.0 is.0 asked is.1)) (open-news U found q standing.0 news)

slot-less : (w v : World) (draft : ℕ) (slot : Option Live) (q : QuestionData) (r : Reply)
    → live_at w.drafts draft ≡ slot → IsStanding slot (Asking q)
    → IfLive slot r (v ≡ w) (λ l. (m : Live) × IsBroughtTo l q r m
    × (v ≡ with_slot w draft (Some m)))
    → left_of (live_at v.drafts draft) < left_of slot
unfolding left_of
slot-less w v draft None q r is standing went = absurd cc
slot-less w v draft (Some l) q r is standing went =
    let m = went.0 in
    let there = ap (λ (x : World). live_at x.drafts draft) went.2 ∙ live_at-set w.drafts draft l m
    is in
    let less = found-less (on_base l.draft) l.found went.1.0 q r standing went.1.1 in
    let here = ap (λ (s : Option Live). left_of s) there ∙ ap
    (λ (x : Live). left_on (on_base x.draft) x.found) went.1.2 in
    subst (λ n. n < left_on (on_base l.draft) l.found) (sym here) less

-- it was brought one more
pub brought-more : (w u v : World) (draft : ℕ) (r : Reply)
    → ((findings : List FindingData) × IsBroughtAll w draft findings u) → IsAdvanced u draft v
    (Some r) → (findings : List FindingData) × IsBroughtAll w draft findings v
brought-more w u v draft r brought more = (more.0 ∷ brought.0, (u, r, brought.1, more.1, more.2))

-- so it can take fewer
pub less-left : (u v : World) (draft : ℕ) (r : Reply) → IsAdvanced u draft v (Some r)
    → left_of (live_at v.drafts draft) < left_of (live_at u.drafts draft)
less-left u v draft r more =
    slot-less u v draft (live_at u.drafts draft) more.0.question r refl more.1 more.2
