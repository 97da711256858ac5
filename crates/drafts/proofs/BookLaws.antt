-- One entry more.
use Rattle.std.proofs.Common.{◌≡◌, ℕ, ◌+◌, ◌^◌, ◌<◌, ◌≤◌, List, [], ◌∷◌, ◌++◌, length, map, Option}
use Rattle.std.proofs.Common.{Result, Ok, Err, Global, refl, sym, ◌∙◌, ap, subst, arith}
use Rattle.std.proofs.lemmas.List.{map_push, length-map}
use Rattle.std.specs.declared.sync.Arc.{Arc}
use Rattle.task_sheet.specs.TaskSet.{IsTaskSet}
use Rattle.task_sheet.proofs.TaskLaws.{AllTasks-from_set}
use Rattle.task_sheet.proofs.ObstructionLaws.{IsObstruction-fails}
use Rattle.assignment.specs.Placings.{tasks_of_places}
use Rattle.drafts.specs.declared.change.Refusal.{Refusal}
use Rattle.drafts.specs.declared.judging.Judged.{Judged}
use Rattle.drafts.specs.declared.judging.Judged.TheVariants as judged
use Rattle.drafts.specs.Applied.{OnNode, set_of, applied}
use Rattle.drafts.specs.Placed.{AreStuck}
use Rattle.drafts.specs.Machine.{MachineState, empty_desk, Ruling, Admitted, Refused, Infeasible}
use Rattle.drafts.specs.Machine.{Entry, IsRuling, IsDecision, moved, after_entry, IsLegal, replay}
use Rattle.drafts.specs.Machine.{one_if_admitted, admissions}
use Rattle.drafts.specs.Books.{Book, logged, IsLegalBook}
use Rattle.drafts.specs.BookFields.{book_of, IsBookKept}
use Rattle.drafts.specs.declared.book.Book.TheInside.{Inside}
use Rattle.drafts.specs.Edits.{Draft}
use Rattle.drafts.specs.Outcomes.{IsJudged, IsSaid, IsNextState, IsEntryOf, after_next}

pub replay-push : (desk : MachineState) (log : List Entry) (e : Entry)
    → replay desk (log ++ e ∷ []) ≡ after_entry (replay desk log) e
replay-push desk [] e = refl
replay-push desk (x ∷ log) e = replay-push (after_entry desk x) log e

pub IsLegal-push : (desk : MachineState) (log : List Entry) (e : Entry) → IsLegal desk log
    → IsDecision (replay desk log) e.team e.changes e.decision → IsLegal desk (log ++ e ∷ [])
IsLegal-push desk [] e legal next = (next, tt)
IsLegal-push desk (x ∷ log) e legal next =
    (legal.0, IsLegal-push (after_entry desk x) log e legal.1 next)

-- what was judged is decided as the machine decides
pub said-answer : (version : ℕ) (outcome : Result OnNode Refusal) (j : Judged) (d : Ruling)
    → IsJudged outcome j → IsSaid version j d → IsRuling version outcome d
said-answer version (Err refusal) (judged.Refused told) (Refused again) h said = said ∙ h
said-answer version (Err refusal) (judged.Best a) (Admitted again) h said = absurd h
said-answer version (Err refusal) (judged.Stuck o) (Infeasible again) h said = absurd h
said-answer version (Ok node) (judged.Refused told) (Refused again) h said = absurd h
said-answer version (Ok node) (judged.Best a) (Admitted again) h said =
    ((tasks_of_places a.places, h.1.best.passing), said)
said-answer version (Ok node) (judged.Stuck o) (Infeasible again) h said =
    let valid : IsTaskSet (set_of node) = subst IsTaskSet h.0 said.1 in (
      IsObstruction-fails (set_of node) (AllTasks-from_set (set_of node) valid) _
          h.1.greatest.obstruction,
      ap (λ p. p.set) said.0 ∙ h.0,
      subst (λ p. AreStuck (set_of node) p.members) (sym said.0) h.1,
    )
said-answer version outcome j d h said = absurd said

-- and the state moves as the machine moves
pub next-moved : (desk : MachineState) (outcome : Result OnNode Refusal) (j : Judged)
    (d : Ruling) (next : Option MachineState) → IsSaid desk.version j d
    → IsNextState desk outcome j next → after_next desk next ≡ moved desk d outcome
next-moved desk outcome (judged.Refused told) (Refused again) next said is =
    ap (λ o. after_next desk o) is
next-moved desk outcome (judged.Best a) (Admitted again) next said is =
    ap (λ o. after_next desk o) is
next-moved desk outcome (judged.Stuck o) (Infeasible again) next said is =
    ap (λ o. after_next desk o) is
next-moved desk outcome j d next said is = absurd said

-- a book stays legal, and its log's replay is its state
pub logged-legal : (b : Book) (e : Entry) → IsLegal empty_desk b.log
    → replay empty_desk b.log ≡ b.desk → IsDecision b.desk e.team e.changes e.decision
    → IsLegal empty_desk (logged b e).log × (replay empty_desk (logged b e).log ≡ (logged b e).desk)
logged-legal b e legal same next = (
  IsLegal-push empty_desk b.log e legal
      (subst (λ d. IsDecision d e.team e.changes e.decision) (sym same) next),
  replay-push empty_desk b.log e ∙ ap (λ d. after_entry d e) same,
)

-- ---- the version counts the admitted entries
answered-version : (desk : MachineState) (outcome : Result OnNode Refusal) (d : Ruling)
    → IsRuling desk.version outcome d
    → (moved desk d outcome).version ≡ desk.version + one_if_admitted d
answered-version desk (Ok node) (Admitted told) h = refl
answered-version desk (Err refusal) (Admitted told) h = absurd h
answered-version desk outcome (Refused told) h = omega arith
answered-version desk outcome (Infeasible o) h = omega arith

pub replay-version : (desk : MachineState) (log : List Entry) → IsLegal desk log
    → (replay desk log).version ≡ desk.version + admissions log
replay-version desk [] legal = omega arith
replay-version desk (e ∷ log) legal = omega (
  arith,
  replay-version (after_entry desk e) log legal.1,
  answered-version desk (applied e.team desk.node e.changes) e.decision legal.0,
)

one-small : (d : Ruling) → one_if_admitted d ≤ 1
one-small (Admitted told) = omega arith
one-small d = omega arith

admissions-few : (log : List Entry) → admissions log ≤ length log
admissions-few [] = omega arith
admissions-few (e ∷ log) = omega (arith, one-small e.decision, admissions-few log)

-- ---- an entry of what was judged, and the state that follows
module _ (b : Book) (d : Draft) (j : Judged) (e : Entry)
    (judged : IsJudged (applied d.team b.desk.node d.changes) j)
    (is : IsEntryOf b.desk.version d j e) where
  pub entered-said : IsDecision b.desk d.team d.changes e.decision
  entered-said = said-answer b.desk.version (applied d.team b.desk.node d.changes) j e.decision
      judged is.2

  outcome : applied d.team b.desk.node d.changes ≡ applied e.team b.desk.node e.changes
  outcome = ap (λ t. applied t b.desk.node d.changes) (sym is.0)
      ∙ ap (λ cs. applied e.team b.desk.node cs) (sym is.1)

  pub entered-decision : IsDecision b.desk e.team e.changes e.decision
  entered-decision = subst (λ o. IsRuling b.desk.version o e.decision) outcome entered-said

  pub entered-desk : (next : Option MachineState)
      → IsNextState b.desk (applied d.team b.desk.node d.changes) j next
      → after_next b.desk next ≡ after_entry b.desk e
  entered-desk next to = next-moved b.desk (applied d.team b.desk.node d.changes) j e.decision next
      is.2 to ∙ ap (λ o. moved b.desk e.decision o) outcome

pub version-counts : (b : Book) → IsLegal empty_desk b.log → replay empty_desk b.log ≡ b.desk
    → b.desk.version ≡ admissions b.log
version-counts b legal same = let e = ap (λ (d : MachineState). d.version) same in
    omega (arith, replay-version empty_desk b.log legal)

-- ---- a book by its fields
pub book_legal : (a : Inside) → IsBookKept a → IsLegalBook (book_of a)
book_legal a kept = record {
  legal = kept.legal;
  replay = kept.same;
  version = version-counts (book_of a) kept.legal kept.same;
}

-- the next version fits, since each admission has a place in the log
pub version_fits : (a : Inside) → IsBookKept a → a.state.value.version + 1 < 2 ^ 64
version_fits a kept =
    let few : length (book_of a).log < 2 ^ 63 =
    omega (arith, length-map a.log.items (λ e. e.value), a.log.ok.0, a.log.ok.1, a.log.small) in
    omega (
      arith,
      few,
      ap (λ (d : MachineState). d.version) kept.same,
      replay-version empty_desk (book_of a).log kept.legal,
      admissions-few (book_of a).log,
    )

-- an entry more
module _ (a : Inside) (b : Book) (view : book_of a ≡ b) (e : Arc Entry Global) where
  pub log-more : (new : List (Arc Entry Global)) → new ≡ a.log.items ++ e ∷ []
      → map (λ x. x.value) new ≡ (logged b e.value).log
  log-more new is = ap (λ xs. map (λ x. x.value) xs) is ∙ map_push (λ x. x.value) a.log.items e
      ∙ ap (λ (x : Book). x.log ++ e.value ∷ []) view

  pub logged-kept : IsBookKept a
      → IsDecision b.desk e.value.team e.value.changes e.value.decision
      → (log : List Entry) (desk : MachineState) → log ≡ (logged b e.value).log
      → desk ≡ (logged b e.value).desk → IsLegal empty_desk log × (replay empty_desk log ≡ desk)
  logged-kept kept right log desk same to =
      let before = subst (λ (x : Book). IsLegal empty_desk x.log
      × (replay empty_desk x.log ≡ x.desk)) view (kept.legal, kept.same) in
      let after = logged-legal b e.value before.0 before.1 right in (
        subst (λ es. IsLegal empty_desk es) (sym same) after.0,
        ap (λ es. replay empty_desk es) same ∙ after.1 ∙ sym to,
      )
