-- Whatever events come, and whatever replies they get, the book stays legal, and each live draft is on a state that
-- the log came to, with findings that were news.
use Rattle.std.proofs.Common.{◌≡◌, ◌∙◌, ℕ, zero, suc, ◌-◌, ◌==◌, ◌⊎◌, inl, inr, List, [], ◌∷◌, ◌++◌}
use Rattle.std.proofs.Common.{All, Option, None, Some, Result, Ok, Err, slice_get, slice_set, refl}
use Rattle.std.proofs.Common.{append-nil, append_assoc, sym, ap, subst}
use Rattle.std.proofs.lemmas.Bool.{cases_Bool}
use Rattle.std.proofs.lemmas.List.Elements.{All-nil, All-head, All-tail, All-set, All-push}
use Rattle.std.proofs.lemmas.List.Elements.{All-weaker}
use Rattle.assignment.specs.Questions.{QuestionData}
use Rattle.task_sheet.specs.Sheet.{Task}
use Rattle.drafts.specs.Applied.{OnNode, set_of}
use Rattle.drafts.specs.declared.change.Change.{Change}
use Rattle.drafts.specs.declared.change.Refusal.{Refusal}
use Rattle.drafts.specs.declared.draft.EditRefusal.{EditRefusal}
use Rattle.drafts.specs.Machine.{MachineState, Entry, empty_desk, IsLegal, replay}
use Rattle.drafts.specs.Books.{Book, logged, IsLegalBook, IsNextEntry}
use Rattle.drafts.specs.Edits.{on_base, after_put, after_remove}
use Rattle.drafts.proofs.BookLaws.{logged-legal, version-counts}
use Rattle.desk_core.specs.Bases.{IsPast}
use Rattle.desk_core.specs.Findings.{Asked, AreNews, IsNews, IsTold, asked_of, found_after}
use Rattle.desk_core.specs.declared.told.Told.{Told}
use Rattle.desk_core.specs.declared.told.Told.TheVariants as told
use Rattle.desk_core.specs.Said.{Said, said_of}
use Rattle.desk_core.specs.Said as said
use Rattle.desk_core.specs.declared.events.Event.{Event}
use Rattle.desk_core.specs.declared.events.Event.TheVariants.{Open, Put, Remove, Found, Commit}
use Rattle.desk_core.specs.declared.events.Event.TheVariants.{Abandon}
use Rattle.desk_core.specs.declared.events.Reply.{Reply}
use Rattle.desk_core.specs.declared.events.Reply.TheVariants as reply
use Rattle.desk_core.specs.World.{World, Live, changed, if_live, live_at, start, with_slot, opened, rebased}
use Rattle.desk_core.specs.World.{IsBroughtTo, IsFound, IsEdited, IsStale, IsCommitted, IfLive, IsEdit, Happens, IsRun}

-- ---- one state
past-now : (log : List Entry) (desk : MachineState) → replay empty_desk log ≡ desk → IsPast log desk
past-now log desk is = record { before = log; after = []; split = sym (append-nil log); state = is }

past-more : (log : List Entry) (e : Entry) (desk : MachineState) → IsPast log desk
    → IsPast (log ++ e ∷ []) desk
past-more log e desk past = record {
  before = past.before;
  after = past.after ++ e ∷ [];
  split = ap (λ (es : List Entry). es ++ e ∷ []) past.split
      ∙ append_assoc past.before past.after (e ∷ []);
  state = past.state;
}

-- ---- findings
-- on what changes come to, if they apply, each was news
abbrev pub NewsOn : Result OnNode Refusal → List Asked → Type 0
NewsOn (Err refusal) found = Unit {0}
NewsOn (Ok node) found = AreNews (set_of node) [] found

no-news : (base : Result OnNode Refusal) → NewsOn base []
no-news (Err refusal) = tt
no-news (Ok node) = tt

one-more : (U : List Task) (before found : List Asked) (q : QuestionData) (k : ℕ) → AreNews U before found
    → IsNews U (before ++ found) q k → AreNews U before (found ++ asked_of q ∷ [])
one-more U before [] q k are news = ((q, k, refl, rw (append-nil before) at news), tt)
one-more U before (a ∷ found) q k are news = (
  are.0,
  one-more U (before ++ a ∷ []) found q k are.1
      (subst (λ (xs : List Asked). IsNews U xs q k) (sym (append_assoc before (a ∷ []) found)) news),
)

told-news : (U : List Task) (found : List Asked) (q : QuestionData) (t : Told) → AreNews U [] found
    → IsTold U found q t → AreNews U [] (found_after found (asked_of q) t)
told-news U found q told.Stranger are is = are
told-news U found q told.Twice are is = are
told-news U found q told.Taken are is = one-more U [] found q is.0 are is.1
told-news U found q (told.LevelDone level task response) are is = one-more U [] found q is.0 are is.1
told-news U found q told.Tested are is = one-more U [] found q is.0 are is.1

found-news : (base : Result OnNode Refusal) (found : List Asked) (q : QuestionData) (r : Reply) (after : List Asked)
    → NewsOn base found → IsFound base found q r after → NewsOn base after
found-news (Err refusal) found q r after are is = tt
found-news (Ok node) found q r after are is =
    subst (AreNews (set_of node) []) (sym is.3) (told-news (set_of node) found q is.0 are is.1)

-- ---- all slots
-- a live draft is on a state of the log, and its findings were news
abbrev IsSlotPast : List Entry → Option Live → Type 0
IsSlotPast log None = Unit {0}
IsSlotPast log (Some l) = IsPast log l.draft.base × NewsOn (on_base l.draft) l.found

slot-more : (log : List Entry) (e : Entry) (slot : Option Live) → IsSlotPast log slot
    → IsSlotPast (log ++ e ∷ []) slot
slot-more log e None past = tt
slot-more log e (Some l) past = (past-more log e l.draft.base past.0, past.1)

past-get : (log : List Entry) (slots : List (Option Live)) (i : ℕ) (l : Live)
    → All (IsSlotPast log) slots → if_live (slice_get slots i) ≡ Some l → IsSlotPast log (Some l)
past-get log [] i l all is = absurd cc
past-get log (slot ∷ slots) zero l all is =
    subst (IsSlotPast log) is (All-head (IsSlotPast log) slot slots all)
past-get log (slot ∷ slots) (suc i) l all is =
    past-get log slots i l (All-tail (IsSlotPast log) slot slots all) is

past-at : (log : List Entry) (slots : List (Option Live)) (draft : ℕ) (l : Live)
    → All (IsSlotPast log) slots → live_at slots draft ≡ Some l → IsSlotPast log (Some l)
past-at log slots draft l all is = elim (cases_Bool (draft == 0)) [
  | inl none ↦ let gone : None ≡ Some l = (rw none at is) in absurd cc
  | inr there ↦ past-get log slots (draft - 1) l all (rw there at is)
]

-- ---- a world whose book is legal, and whose live drafts are on states of its log
record IsSound (w : World) : Type 0 where
  pub legal : IsLegal empty_desk w.book.log
  pub now : replay empty_desk w.book.log ≡ w.book.desk
  pub past : All (IsSlotPast w.book.log) w.drafts

-- this in the slot of a draft
with-sound : (w v : World) (draft : ℕ) (slot : Option Live) → IsSound w
    → IsSlotPast w.book.log slot → v ≡ with_slot w draft slot → IsSound v
with-sound w v draft slot sound past is = subst IsSound (sym is) (record {
  legal = sound.legal;
  now = sound.now;
  past = All-set (IsSlotPast w.book.log) w.drafts (draft - 1) slot past sound.past;
})

-- a draft whose base stays, and whose findings then are news
based-sound : (w v : World) (draft : ℕ) (l m : Live) → IsSound w → live_at w.drafts draft ≡ Some l
    → m.draft.base ≡ l.draft.base → (NewsOn (on_base l.draft) l.found → NewsOn (on_base m.draft) m.found)
    → v ≡ with_slot w draft (Some m) → IsSound v
based-sound w v draft l m sound at base news is =
    let past = past-at w.book.log w.drafts draft l sound.past at in
    with-sound w v draft (Some m) sound (subst (IsPast w.book.log) (sym base) past.0, news past.1) is

-- ---- one event
-- one on a draft, where what comes of it on one that is live leaves the world sound
live-sound : (w v : World) (slot : Option Live) (r : Reply) (comes : Live → Type 0) → IsSound w
    → ((l : Live) → slot ≡ Some l → comes l → IsSound v) → IfLive slot r (v ≡ w) comes → IsSound v
live-sound w v None r comes sound went is = subst IsSound (sym is.1) sound
live-sound w v (Some l) r comes sound went is = went l refl is

edited-base : (l m : Live) (to : Result (List (List ℕ × Change)) EditRefusal) (r : Reply)
    → IsEdited l to r m → m.draft.base ≡ l.draft.base
edited-base l m (Ok changes) r is = ap (λ (x : Live). x.draft.base) is.1
edited-base l m (Err refusal) r is = ap (λ (x : Live). x.draft.base) is.1

edited-news : (l m : Live) (to : Result (List (List ℕ × Change)) EditRefusal) (r : Reply)
    → IsEdited l to r m → NewsOn (on_base l.draft) l.found → NewsOn (on_base m.draft) m.found
edited-news l m (Ok changes) r is are = subst (λ (x : Live). NewsOn (on_base x.draft) x.found) (sym is.1)
    (no-news (on_base (changed l changes).draft))
edited-news l m (Err refusal) r is are = subst (λ (x : Live). NewsOn (on_base x.draft) x.found) (sym is.1) are

edit-sound : (w v : World) (draft : ℕ)
    (comes_to : Live → Result (List (List ℕ × Change)) EditRefusal) (r : Reply) → IsSound w
    → IsEdit w draft comes_to r v → IsSound v
edit-sound w v draft comes_to r sound is = live-sound w v (live_at w.drafts draft) r _ sound
    (λ l at x. based-sound w v draft l x.0 sound at (edited-base l x.0 (comes_to l) r x.1)
    (edited-news l x.0 (comes_to l) r x.1) x.2) is

brought-news : (l : Live) (q : QuestionData) (r : Reply) (m : Live) → IsBroughtTo l q r m
    → NewsOn (on_base l.draft) l.found → NewsOn (on_base m.draft) m.found
brought-news l q r m is are = subst (λ (x : Live). NewsOn (on_base x.draft) x.found) (sym is.2)
    (found-news (on_base l.draft) l.found q r is.0 are is.1)

-- a commit is stale, or decided
abbrev pub Commits : Book → Live → Said → Book → Option Live → Type 0
Commits b l s book slot =
    (IsStale b l × (s ≡ said.Stale b.desk.version) × (book ≡ b) × (slot ≡ Some (rebased l b.desk)))
    ⊎ ((¬ IsStale b l) × ((place : ℕ) × (e : Entry) × IsNextEntry b l.draft place e
    × (s ≡ said.Decided place e) × (book ≡ logged b e)) × (slot ≡ None))

pub commit-said : (b : Book) (l : Live) (r : Reply) (book : Book) (slot : Option Live)
    → IsCommitted b l r book slot → Commits b l (said_of r) book slot
commit-said b l (reply.Stale version) book slot is =
    inl (is.0, ap (λ (v : ℕ). said.Stale v) is.1, is.2, is.3)
commit-said b l (reply.Decided place entry) book slot is =
    inr (is.0, (place, entry.value, is.1, refl, is.2), is.3)
commit-said b l r book slot is = absurd is

commit-sound : (w v : World) (draft : ℕ) (l : Live) (s : Said) (slot : Option Live) → IsSound w
    → Commits w.book l s v.book slot → v.drafts ≡ slice_set w.drafts (draft - 1) slot → IsSound v
commit-sound w v draft l s slot sound (inl stale) is = record {
  legal = rw stale.2 sound.legal;
  now = rw stale.2 sound.now;
  past = rw (stale.2, is, stale.3) (All-set (IsSlotPast w.book.log) w.drafts (draft - 1)
      (Some (rebased l w.book.desk))
      (past-now w.book.log w.book.desk sound.now, no-news (on_base (rebased l w.book.desk).draft)) sound.past);
}
commit-sound w v draft l s slot sound (inr (current, (place, e, next, told, book), gone)) is =
    let log = w.book.log ++ e ∷ [] in
    let both = logged-legal w.book e sound.legal sound.now (rw (next.1, next.2) next.3) in
    record {
      legal = rw book both.0;
      now = rw book both.1;
      past = rw (book, is, gone) (All-set (IsSlotPast log) w.drafts (draft - 1) None tt (All-weaker
          (IsSlotPast w.book.log) (IsSlotPast log) (slot-more w.book.log e) w.drafts sound.past));
    }

happens-sound : (w v : World) (e : Event) (r : Reply) → IsSound w → Happens w e r v → IsSound v
happens-sound w v (Open team) r sound is = subst IsSound (sym is.1) (record {
  legal = sound.legal;
  now = sound.now;
  past = All-push (IsSlotPast w.book.log) w.drafts (Some (opened team w.book.desk)) sound.past
      (past-now w.book.log w.book.desk sound.now, no-news (on_base (opened team w.book.desk).draft));
})
happens-sound w v (Put draft sheet) r sound is =
    edit-sound w v draft (λ l. after_put l.draft sheet) r sound is
happens-sound w v (Remove draft name) r sound is =
    edit-sound w v draft (λ l. after_remove l.draft name) r sound is
happens-sound w v (Found draft finding) r sound is =
    live-sound w v (live_at w.drafts draft) r _ sound (λ l at x. based-sound w v draft l x.0 sound
    at (ap (λ (m : Live). m.draft.base) x.1.2) (brought-news l finding.question r x.0 x.1) x.2) is
happens-sound w v (Commit draft) r sound is =
    live-sound w v (live_at w.drafts draft) r _ sound (λ l at x. commit-sound w v draft l
    (said_of r) x.0 sound (commit-said w.book l r v.book x.0 x.1) x.2) is
happens-sound w v (Abandon draft) r sound is =
    live-sound w v (live_at w.drafts draft) r _ sound
    (λ l at x. with-sound w v draft None sound tt x.1) is

-- ---- all events
run-sound : (w v : World) (events : List Event) (replies : List Reply) → IsSound w
    → IsRun w events replies v → IsSound v
run-sound w v [] [] sound run = subst IsSound (sym run) sound
run-sound w v (e ∷ events) (r ∷ replies) sound run =
    run-sound run.0 v events replies (happens-sound w run.0 e r sound run.1) run.2
run-sound w v events replies sound run = absurd run

sound : (events : List Event) (replies : List Reply) (v : World) → IsRun start events replies v
    → IsSound v
sound events replies v run =
    run-sound start v events replies (record { legal = tt; now = refl; past = All-nil _ }) run

pub run-legal : (events : List Event) (replies : List Reply) (v : World)
    → IsRun start events replies v → IsLegalBook v.book
run-legal events replies v run =
    let so = sound events replies v run in
    record { legal = so.legal; replay = so.now; version = version-counts v.book so.legal so.now }

pub base-past : (events : List Event) (replies : List Reply) (v : World) (draft : ℕ) (l : Live)
    → IsRun start events replies v → live_at v.drafts draft ≡ Some l
    → IsPast v.book.log l.draft.base
base-past events replies v draft l run at =
    (past-at v.book.log v.drafts draft l (sound events replies v run).past at).0

pub found-are-news : (events : List Event) (replies : List Reply) (v : World) (draft : ℕ) (l : Live) (node : OnNode)
    → IsRun start events replies v → live_at v.drafts draft ≡ Some l → on_base l.draft ≡ Ok node
    → AreNews (set_of node) [] l.found
found-are-news events replies v draft l node run at base = subst (λ (b : Result OnNode Refusal). NewsOn b l.found) base
    (past-at v.book.log v.drafts draft l (sound events replies v run).past at).1
