-- Replies are determined by the events, and so is the world that they lead to.
use Rattle.std.proofs.Common.{◌≡◌, ◌∙◌, ℕ, ◌-◌, inl, inr, List, [], ◌∷◌, map, Option, None, Some}
use Rattle.std.proofs.Common.{Result, Ok, Err, slice_set, refl, sym, ap, subst}
use Rattle.task_sheet.proofs.Common.{Task, task_at}
use Rattle.assignment.specs.Questions.{QuestionData}
use Rattle.drafts.specs.declared.change.Change.{Change}
use Rattle.drafts.specs.declared.change.Refusal.{Refusal}
use Rattle.drafts.specs.declared.draft.EditRefusal.{EditRefusal}
use Rattle.drafts.specs.Applied.{OnNode, set_of, applied}
use Rattle.drafts.specs.Machine.{Entry}
use Rattle.drafts.specs.Books.{Book, logged, IsNextEntry}
use Rattle.drafts.proofs.LogLaws.{answer-one}
use Rattle.drafts.proofs.PlacedLaws.{AreStuck-one}
use Rattle.drafts.specs.Edits.{Draft, on_base, after_put, after_remove}
use Rattle.desk_core.specs.declared.told.Told.{Told}
use Rattle.desk_core.specs.declared.told.Told.TheVariants as told
use Rattle.desk_core.specs.declared.events.Event.{Event}
use Rattle.desk_core.specs.declared.events.Event.TheVariants.{Open, Put, Remove, Found, Commit}
use Rattle.desk_core.specs.declared.events.Event.TheVariants.{Abandon}
use Rattle.desk_core.specs.declared.events.Reply.{Reply}
use Rattle.desk_core.specs.declared.events.Reply.TheVariants as reply
use Rattle.desk_core.specs.Findings.{Asked, asked_of, found_after}
use Rattle.desk_core.specs.Said.{Said, said_of}
use Rattle.desk_core.specs.Said as said
use Rattle.desk_core.specs.World.{World, Live, live_at, with_slot, with_found, IsShown}
use Rattle.desk_core.specs.World.{IsTestedReply, IsToldReply, IsEdited, IsFound, IsBroughtTo}
use Rattle.desk_core.specs.World.{IsCommitted, IfLive, IsEdit, Happens, IsRun}
use Rattle.desk_core.proofs.LegalLaws.{Commits, commit-said}
use Rattle.desk_core.proofs.ToldOne.{told-one}

-- ---- verdicts
shown-one : (U : List Task) (a b : List (List ℕ)) → IsShown U a → IsShown U b → a ≡ b
shown-one U a b (inl x) (inl y) = x.1 ∙ sym y.1
shown-one U a b (inl x) (inr y) = absurd (y.0 x.0)
shown-one U a b (inr x) (inl y) = absurd (x.0 y.0)
shown-one U a b (inr x) (inr y) =
    x.1.2 ∙ ap (λ (ms : List ℕ). map (λ i. (task_at U i).name) ms)
    (AreStuck-one U x.1.0 y.1.0 x.1.1 y.1.1) ∙ sym y.1.2

tested-said : (U : List Task) (r : Reply) → IsTestedReply U r → (names : List (List ℕ))
    × (said_of r ≡ said.Tested names) × IsShown U names
tested-said U (reply.Tested infeasible) is = (infeasible.items, refl, is)
tested-said U r is = absurd is

told-said : (U : List Task) (t : Told) (r s : Reply) → IsToldReply U t r → IsToldReply U t s
    → said_of r ≡ said_of s
told-said U told.Stranger r s x y = ap said_of (x ∙ sym y)
told-said U told.Twice r s x y = ap said_of (x ∙ sym y)
told-said U told.Taken r s x y = ap said_of (x ∙ sym y)
told-said U (told.LevelDone level task response) r s x y = ap said_of (x ∙ sym y)
told-said U told.Tested r s x y =
    let first = tested-said U r x in
    let second = tested-said U s y in
    first.1 ∙ ap (λ (names : List (List ℕ)). said.Tested names)
    (shown-one U first.0 second.0 first.2 second.2) ∙ sym second.1

-- two of a draft's findings are then the same, and the same is said
abbrev Same : {A : Type 0} → Reply → Reply → A → A → Type 0
Same r s x y = (said_of r ≡ said_of s) × (x ≡ y)

found-one : (outcome : Result OnNode Refusal) (found : List Asked) (q : QuestionData)
    (r s : Reply) (xs ys : List Asked) → IsFound outcome found q r xs → IsFound outcome found q s ys
    → Same r s xs ys
found-one (Err refusal) found q r s xs ys x y =
    (ap said_of (x.0 ∙ sym y.0), x.1 ∙ sym y.1)
found-one (Ok node) found q r s xs ys x y =
    let U = set_of node in
    let same : y.0 ≡ x.0 = told-one U found q y.0 x.0 y.1 x.1 in (
      told-said U x.0 r s x.2 (subst (λ (t : Told). IsToldReply U t s) same y.2),
      x.3 ∙ sym (y.3 ∙ ap (λ (t : Told). found_after found (asked_of q) t) same),
    )

-- ---- decisions
entry-one : (b : Book) (d : Draft) (place place' : ℕ) (e f : Entry) → IsNextEntry b d place e
    → IsNextEntry b d place' f → e ≡ f
entry-one b d place place' e f x y =
    let team : e.team ≡ f.team = x.1 ∙ sym y.1 in
    let changes = x.2 ∙ sym y.2 in
    let decision : e.decision ≡ f.decision = answer-one b.desk.version
    (applied d.team b.desk.node d.changes) e.decision f.decision x.3 y.3 in
    λ i. record { team = team i; changes = changes i; decision = decision i }

commits-one : (b : Book) (l : Live) (r s : Said) (c d : Book) (i j : Option Live)
    → Commits b l r c i → Commits b l s d j → (r ≡ s) × (c ≡ d) × (i ≡ j)
commits-one b l r s c d i j (inl x) (inl y) = (x.1 ∙ sym y.1, x.2 ∙ sym y.2, x.3 ∙ sym y.3)
commits-one b l r s c d i j (inl x) (inr y) = absurd (y.0 x.0)
commits-one b l r s c d i j (inr x) (inl y) = absurd (x.0 y.0)
commits-one b l r s c d i j (inr x) (inr y) =
    let place : x.1.0 ≡ y.1.0 = x.1.2.0 ∙ sym y.1.2.0 in
    let entry : x.1.1 ≡ y.1.1 = entry-one b l.draft x.1.0 y.1.0 x.1.1 y.1.1 x.1.2 y.1.2 in
    let same : said.Decided x.1.0 x.1.1 ≡ said.Decided y.1.0 y.1.1 =
    λ k. said.Decided (place k) (entry k) in (
      x.1.3 ∙ same ∙ sym y.1.3,
      x.1.4 ∙ ap (λ (e : Entry). logged b e) entry ∙ sym y.1.4,
      x.2
          ∙ sym y.2,
    )

-- ---- events
edited-one : (l : Live) (outcome : Result (List (List ℕ × Change)) EditRefusal) (r s : Reply)
    (m n : Live) → IsEdited l outcome r m → IsEdited l outcome s n → Same r s m n
edited-one l (Ok changes) r s m n x y = (ap said_of (x.0 ∙ sym y.0), x.1 ∙ sym y.1)
edited-one l (Err refusal) r s m n x y = (ap said_of (x.0 ∙ sym y.0), x.1 ∙ sym y.1)

-- an event on a draft is determined where what comes of it on one that is live is
live-one : (slot : Option Live) (r s : Reply) (w u v : World) (first second : Live → Type 0)
    → ((l : Live) → first l → second l → Same r s u v) → IfLive slot r (u ≡ w) first
    → IfLive slot s (v ≡ w) second → Same r s u v
live-one None r s w u v first second one x y = (ap said_of (x.0 ∙ sym y.0), x.1 ∙ sym y.1)
live-one (Some l) r s w u v first second one x y = one l x y

slot-one : (w u v : World) (draft : ℕ) (r s : Reply) (m n : Live) → u ≡ with_slot w draft (Some m)
    → v ≡ with_slot w draft (Some n) → Same r s m n → Same r s u v
slot-one w u v draft r s m n here there same =
    (same.0, here ∙ ap (λ (l : Live). with_slot w draft (Some l)) same.1 ∙ sym there)

edit-one : (w u v : World) (draft : ℕ)
    (comes_to : Live → Result (List (List ℕ × Change)) EditRefusal) (r s : Reply)
    → IsEdit w draft comes_to r u → IsEdit w draft comes_to s v → Same r s u v
edit-one w u v draft comes_to r s x y =
    live-one (live_at w.drafts draft) r s w u v _ _ (λ l a b. slot-one w u v draft r s a.0 b.0 a.2
    b.2 (edited-one l (comes_to l) r s a.0 b.0 a.1 b.1)) x y

found-same : (w u v : World) (draft : ℕ) (q : QuestionData) (l m n : Live) (r s : Reply)
    → IsBroughtTo l q r m → IsBroughtTo l q s n → u ≡ with_slot w draft (Some m)
    → v ≡ with_slot w draft (Some n) → Same r s u v
found-same w u v draft q l m n r s a b here there =
    let same = found-one (on_base l.draft) l.found q r s a.0 b.0 a.1 b.1 in
    slot-one w u v draft r s m n here there
    (same.0, a.2 ∙ ap (λ (xs : List Asked). with_found l xs) same.1 ∙ sym b.2)

commit-same : (w u v : World) (draft : ℕ) (l : Live) (r s : Reply) (i j : Option Live)
    → IsCommitted w.book l r u.book i → IsCommitted w.book l s v.book j → u.drafts
    ≡ slice_set w.drafts (draft - 1) i → v.drafts ≡ slice_set w.drafts (draft - 1) j → Same r s u v
commit-same w u v draft l r s i j a b here there =
    let one = commits-one w.book l (said_of r) (said_of s) u.book v.book i j
    (commit-said w.book l r u.book i a) (commit-said w.book l s v.book j b) in
    let drafts : u.drafts ≡ v.drafts = here
    ∙ ap (λ (o : Option Live). slice_set w.drafts (draft - 1) o) one.2 ∙ sym there in
    (one.0, λ k. let x : World = record { book = one.1 k; drafts = drafts k } in x)

happens-one : (w u v : World) (e : Event) (r s : Reply) → Happens w e r u → Happens w e s v
    → Same r s u v
happens-one w u v (Open team) r s x y = (ap said_of (x.0 ∙ sym y.0), x.1 ∙ sym y.1)
happens-one w u v (Put draft sheet) r s x y =
    edit-one w u v draft (λ l. after_put l.draft sheet) r s x y
happens-one w u v (Remove draft name) r s x y =
    edit-one w u v draft (λ l. after_remove l.draft name) r s x y
happens-one w u v (Found draft finding) r s x y =
    live-one (live_at w.drafts draft) r s w u v _ _
    (λ l a b. found-same w u v draft finding.question l a.0 b.0 r s a.1 b.1 a.2 b.2) x y
happens-one w u v (Commit draft) r s x y =
    live-one (live_at w.drafts draft) r s w u v _ _
    (λ l a b. commit-same w u v draft l r s a.0 b.0 a.1 b.1 a.2 b.2) x y
happens-one w u v (Abandon draft) r s x y =
    live-one (live_at w.drafts draft) r s w u v _ _
    (λ l a b. (ap said_of (a.0 ∙ sym b.0), a.1 ∙ sym b.1)) x y

-- ---- runs
pub runs-one : (w u v : World) (events : List Event) (rs ss : List Reply) → IsRun w events rs u
    → IsRun w events ss v → (map said_of rs ≡ map said_of ss) × (u ≡ v)
runs-one w u v [] [] [] x y = (refl, x ∙ sym y)
runs-one w u v [] [] (s ∷ ss) x y = absurd y
runs-one w u v (e ∷ events) (r ∷ rs) [] x y = absurd y
runs-one w u v (e ∷ events) (r ∷ rs) (s ∷ ss) x y =
    let first = happens-one w x.0 y.0 e r s x.1 y.1 in
    let rest = runs-one x.0 u v events rs ss x.2
    (subst (λ (z : World). IsRun z events ss v) (sym first.1) y.2) in
    (λ i. first.0 i ∷ rest.0 i, rest.1)
runs-one w u v events rs ss x y = absurd x
