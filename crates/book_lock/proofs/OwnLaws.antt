-- What a pass knows of its team's tasks is what stands on the node.
use Rattle.std.proofs.Common.{◌≡◌, ◌∙◌, ℕ, ◌==◌, true, false, not, inl, inr, List, [], ◌∷◌, Result}
use Rattle.std.proofs.Common.{Ok, Err, Less, refl, sym, ap, subst, arith}
use Rattle.std.specs.List.{AllByRecursion}
use Rattle.std.specs.List.Sorted.{IsStrictlySortedBy}
use Rattle.std.specs.Ordering.{is_lt}
use Rattle.std.proofs.lemmas.Bool.{cases_Bool, both_ways}
use Rattle.std.proofs.lemmas.Bool.Decides.{nat_tests}
use Rattle.task_sheet.proofs.Common.{Task, rank_cmp}
use Rattle.task_sheet.proofs.SetLaws.{rank_total}
use Rattle.drafts.specs.declared.roster.Owned.{Owned}
use Rattle.drafts.specs.declared.change.Change.{Change}
use Rattle.drafts.specs.declared.change.Change.TheVariants.{Put, Remove}
use Rattle.drafts.specs.declared.change.Refusal.{Refusal}
use Rattle.drafts.specs.Applied.{OnNode, sheets_of, bare, bears_name, held, is_foreign, without_name}
use Rattle.drafts.specs.Applied.{placed, with_task, after_change, then_on, all_changes, applied}
use Rattle.drafts.specs.Machine.{MachineState, empty_desk, Ruling, Admitted, Refused, Infeasible}
use Rattle.drafts.specs.Machine.{Entry, IsRuling, moved, after_entry, replay}
use Rattle.drafts.specs.Books.{Book, IsLegalBook}
use Rattle.drafts.specs.Edits.{Draft}
use Rattle.drafts.specs.Proposals.{ProposalData}
use Rattle.drafts.proofs.PutLaws.{then-ok, put-made, remove-made, applied-node}
use Rattle.drafts.proofs.RosterLaws.{apart-without, ranked-kept, ranked-placed, less}
use Rattle.book_lock.specs.Own.{own_of, own_after}
use Rattle.book_lock.specs.Opening.{IsOwn}
use Rattle.book_lock.specs.TeamPass.{Known}
use Rattle.book_lock.specs.Settles.{IsEntered, Settles}
use Rattle.book_lock.specs.declared.answer.Settlement.TheVariants.{Decided}

abbrev IsRanked : List Owned → Type 0
IsRanked ts = IsStrictlySortedBy rank_cmp (sheets_of ts)

not_below : (x s : Task) (ys : List Task) → is_lt (rank_cmp x s) ≡ false → AllByRecursion
    (λ y. rank_cmp x y ≡ Less) ys → AllByRecursion (λ y. is_lt (rank_cmp y s) ≡ false) ys
not_below x s [] ge all = tt
not_below x s (y ∷ ys) ge all =
    let here : is_lt (rank_cmp y s) ≡ false = elim (cases_Bool (is_lt (rank_cmp y s))) [
      | inl lt ↦ absurd (both_ways (is_lt (rank_cmp x s)) ge
          (ap is_lt (rank_total.trans x y s all.0 (less (rank_cmp y s) lt))))
      | inr above ↦ above
    ] in
    (here, not_below x s ys ge all.1)

module _ (team : ℕ) where
  -- ---- without a name, with one more, under a name
  own-without : (name : List ℕ) (ts : List Owned)
      → own_of team (without_name name ts) ≡ without_name name (own_of team ts)
  own-without name [] = refl
  own-without name (x ∷ ts) = grind (arith, own-without name ts)

  -- a task that is below the first of these is below all
  first_of : (o : Owned) (ts : List Owned)
      → AllByRecursion (λ y. is_lt (rank_cmp y o.sheet) ≡ false) (sheets_of ts)
      → placed o (own_of team ts) ≡ o ∷ own_of team ts
  first_of o [] all = refl
  first_of o (x ∷ ts) all = grind (arith, first_of o ts all.1)

  own-placed : (o : Owned) (ts : List Owned) → (o.team == team) ≡ true → IsRanked ts
      → own_of team (placed o ts) ≡ placed o (own_of team ts)
  unfolding IsStrictlySortedBy
  own-placed o [] own up = rw own refl
  own-placed o (x ∷ ts) own up = elim (cases_Bool (is_lt (rank_cmp x.sheet o.sheet))) [
    | inl lt ↦ grind (arith, own-placed o ts own up.1)
    | inr ge ↦ rw (ge, own)
        (sym (first_of o (x ∷ ts) (ge, not_below x.sheet o.sheet (sheets_of ts) ge up.0)))
  ]

  own-held : (n : List ℕ) (ts : List Owned) → is_foreign team (held n ts) ≡ false
      → held n (own_of team ts) ≡ held n ts
  own-held n [] mine = refl
  own-held n (x ∷ ts) mine = grind (arith, own-held n ts)

  -- ---- what changes come to on all tasks, they come to on the team's own
  abbrev Goes : List Owned → List (List ℕ × Change) → List Owned → Type 0
  Goes ts changes last =
      IsRanked last × (all_changes team (own_of team ts) changes ≡ Ok (own_of team last))

  one-goes : (ts next : List Owned) (name : List ℕ) (change : Change) → IsRanked ts
      → after_change team ts name change ≡ Ok next
      → IsRanked next × (after_change team (own_of team ts) name change ≡ Ok (own_of team next))
  one-goes ts next name (Put sheet) up is =
      let made = put-made team ts next name sheet is in
      let o : Owned = record { sheet = bare sheet; team = team } in
      let others = without_name sheet.name ts in
      let rest = ranked-kept (λ x. not (bears_name sheet.name x)) ts up in
      let same : (team == team) ≡ true = grind (arith, nat_tests) in
      let own : own_of team next ≡ with_task sheet.name o (own_of team ts) = ap (own_of team) made.1
      ∙ own-placed o others same rest ∙ ap (placed o) (own-without sheet.name ts) in (
        rw made.1 (ranked-placed o others rest (apart-without sheet ts)),
        rw (own-held sheet.name ts made.0, made.0) (ap Ok (sym own)),
      )
  one-goes ts next name Remove up is =
      let made = remove-made team ts next name is in
      let own : own_of team next ≡ without_name name (own_of team ts) = ap (own_of team) made.2
      ∙ own-without name ts in (
        rw made.2 (ranked-kept (λ x. not (bears_name name x)) ts up),
        rw (own-held name ts made.0, made.0, made.1) (ap Ok (sym own)),
      )

  all-go : (ts last : List Owned) (changes : List (List ℕ × Change)) → IsRanked ts
      → all_changes team ts changes ≡ Ok last → Goes ts changes last
  all-go ts last [] up is = let e : ts ≡ last = cc in
      (rw (← e) up, ap (λ xs. Ok (own_of team xs)) e)
  all-go ts last (c ∷ changes) up is =
      let made = then-ok (after_change team ts c.0 c.1) (λ next. all_changes team next changes) last
      is in
      let one = one-goes ts made.0 c.0 c.1 up made.1 in
      let rest = all-go made.0 last changes one.0 made.2 in
      (rest.0, ap (λ r. then_on r (λ next. all_changes team next changes)) one.1 ∙ rest.1)

  applied-go : (node last : OnNode) (changes : List (List ℕ × Change)) → IsRanked node.tasks
      → applied team node changes ≡ Ok last → Goes node.tasks changes last.tasks
  applied-go node last changes up is =
      all-go node.tasks last.tasks changes up (applied-node team node last changes is).0

-- ---- the tasks of a book are by rank
moved-ranked : (desk : MachineState) (d : Ruling) (r : Result OnNode Refusal)
    → IsRanked desk.node.tasks → ((last : OnNode) → r ≡ Ok last → IsRanked last.tasks)
    → IsRanked (moved desk d r).node.tasks
moved-ranked desk (Admitted version) (Ok last) up goes = goes last refl
moved-ranked desk (Admitted version) (Err refusal) up goes = up
moved-ranked desk (Refused refusal) r up goes = up
moved-ranked desk (Infeasible s) r up goes = up

replay-ranked : (desk : MachineState) (log : List Entry) → IsRanked desk.node.tasks
    → IsRanked (replay desk log).node.tasks
replay-ranked desk [] up = up
replay-ranked desk (e ∷ log) up =
    replay-ranked (after_entry desk e) log (moved-ranked desk e.decision
    (applied e.team desk.node e.changes) up
    (λ last is. (applied-go e.team desk.node last e.changes up is).0))

book-ranked : (b : Book) → IsLegalBook b → IsRanked b.desk.node.tasks
unfolding IsStrictlySortedBy
book-ranked b legal = subst (λ (d : MachineState). IsRanked d.node.tasks) legal.replay
    (replay-ranked empty_desk b.log tt)

-- ---- the law
pub own-goes : (b : Book) (team : ℕ) (changes : List (List ℕ × Change)) (node : OnNode)
    → IsLegalBook b → applied team b.desk.node changes ≡ Ok node
    → all_changes team (own_of team b.desk.node.tasks) changes ≡ Ok (own_of team node.tasks)
own-goes b team changes node legal is =
    (applied-go team b.desk.node node changes (book-ranked b legal) is).1

own-moved : (team : ℕ) (desk : MachineState) (d : Ruling) (r : Result OnNode Refusal)
    (own : Result (List Owned) Refusal) → IsRuling desk.version r d
    → ((last : OnNode) → r ≡ Ok last → own ≡ Ok (own_of team last.tasks))
    → own_of team (moved desk d r).node.tasks ≡ own_after d own (own_of team desk.node.tasks)
own-moved team desk (Admitted version) (Ok last) own is goes =
    sym (ap (λ x. own_after (Admitted version) x (own_of team desk.node.tasks)) (goes last refl))
own-moved team desk (Admitted version) (Err refusal) own is goes = absurd is
own-moved team desk (Refused refusal) r own is goes = refl
own-moved team desk (Infeasible s) r own is goes = refl

pub known-stays : (b : Book) (d : Draft) (old new : Known) (place : ℕ) (next : Book) → IsLegalBook b
    → d.team ≡ old.team → IsOwn b.desk old → IsEntered b d old place next new → IsOwn next.desk new
known-stays b d old new place next legal team own is =
    let e = is.0 in
    let node = b.desk.node in
    rw (is.2, is.3, ← own, ← team, ← is.1.1) (own-moved e.team b.desk e.decision
    (applied e.team node e.changes) (all_changes e.team (own_of e.team node.tasks) e.changes)
    (rw (is.1.1, is.1.2) is.1.3) (λ last. own-goes b e.team e.changes last legal))

pub known-settled : (b : Book) (p : ProposalData) (old new : Known) (place : ℕ) (next : Book)
    → IsLegalBook b → p.draft.team ≡ old.team → IsOwn b.desk old
    → Settles b p old (Ok (Decided place)) next new → IsOwn next.desk new
known-settled b p old new place next legal team own is = let entered = is.2 in
    known-stays b p.draft old new place next legal team own
    (entered.0, entered.2, entered.3, entered.4)
