-- The node's interrupts under changes: which stay, and that a demand counts them all.
use Rattle.std.proofs.Common.{◌≡◌, ◌∙◌, ℕ, zero, suc, ◌+◌, ◌*◌, ◌<◌, ◌==◌, inl, inr}
use Rattle.std.proofs.Common.{not, nat_lt, List, [], ◌∷◌, ◌++◌, length, drop, slice_get, sum_by, Some, Result}
use Rattle.std.proofs.Common.{Ok, Err, refl, sym, ap, subst, add-one, append-nil, arith}
use Rattle.std.specs.Prelude.{OnOk}
use Rattle.std.specs.List.{AllByRecursion}
use Rattle.std.proofs.lemmas.Bool.{cases_Bool, eq-eqb}
use Rattle.std.proofs.lemmas.List.Sums.{sum_by-cons}
use Rattle.task_sheet.specs.Sheet.{IsInterrupt, interrupted}
use Rattle.task_sheet.specs.declared.node.Interrupt.{Interrupt}
use Rattle.task_sheet.proofs.Common.{Task, task_at, sum_below, releases_within, interrupt_within}
use Rattle.task_sheet.proofs.Common.{interrupts_of, interrupts_within}
use Rattle.overheads.specs.Padding.{charged}
use Rattle.drafts.specs.declared.roster.Owned.{Owned}
use Rattle.drafts.specs.declared.change.Change.{Change}
use Rattle.drafts.specs.declared.change.Change.TheVariants.{Put, Remove}
use Rattle.drafts.specs.declared.change.Refusal.{Refusal}
use Rattle.drafts.specs.declared.interrupts.TeamInterrupt.{TeamInterrupt}
use Rattle.drafts.specs.Applied.{OnNode, sheets_of, said_of, set_of, bare, bears_name, without_name}
use Rattle.drafts.specs.Applied.{after_change, all_changes, said_by, of_others, after_saying}
use Rattle.drafts.specs.Applied.{interrupts_with, interrupts_after, applied}
use Rattle.drafts.specs.Interrupts.{SayNone, where_admitted, interrupts_along, timers_within}
use Rattle.drafts.specs.Machine.{MachineState, empty_desk, Ruling, Admitted, Refused, Infeasible}
use Rattle.drafts.specs.Machine.{Entry, IsRuling, moved, after_entry, IsLegal, replay}
use Rattle.drafts.specs.Rosters.{AreWithin}
use Rattle.drafts.proofs.RosterLaws.{all-kept, all-placed, drop-at}
use Rattle.drafts.proofs.PutLaws.{then-ok, put-made, remove-made, applied-node}

-- ---- changes, one after the other
pub next_said : (team : ℕ) (xs : List TeamInterrupt) (changes : List (List ℕ × Change)) (i : ℕ)
    (name : List ℕ) (change : Change) → slice_get changes i ≡ Some (name, change)
    → interrupts_after team xs (drop i changes)
    ≡ interrupts_after team (interrupts_with team xs change) (drop (i + 1) changes)
next_said team xs changes i name change at =
    rw (add-one, drop-at changes i (name, change) at) refl

-- ---- within the limits
within-append : (xs ys : List TeamInterrupt) → AreWithin xs → AreWithin ys → AreWithin (xs ++ ys)
within-append [] ys a b = b
within-append (x ∷ xs) ys a b = (a.0, within-append xs ys a.1 b)

within-others : (team : ℕ) (xs : List TeamInterrupt) → AreWithin xs → AreWithin (of_others team xs)
within-others team [] all = tt
within-others team (x ∷ xs) all = elim (cases_Bool (x.team == team)) [
  | inl own ↦ rw own (within-others team xs all.1)
  | inr other ↦ rw other (all.0, within-others team xs all.1)
]

within-said : (team : ℕ) (said : List Interrupt) → AllByRecursion IsInterrupt said
    → AreWithin (said_by team said)
within-said team [] all = tt
within-said team (x ∷ said) all = elim (cases_Bool (nat_lt 0 x.cost)) [
  | inl takes ↦ rw takes (all.0, within-said team said all.1)
  | inr none ↦ rw none (within-said team said all.1)
]

pub within_saying : (team : ℕ) (xs : List TeamInterrupt) (said : List Interrupt) → AreWithin xs
    → AllByRecursion IsInterrupt said → AreWithin (after_saying team xs said)
within_saying team xs [] all valid = all
within_saying team xs (y ∷ said) all valid = within-append (of_others team xs)
    (said_by team (y ∷ said)) (within-others team xs all) (within-said team (y ∷ said) valid)

pub within_ok : {T E : Type 0} (r : Result T E) (new old : List TeamInterrupt) → OnOk r (new ≡ old)
    → AreWithin old → OnOk r (AreWithin new)
within_ok (Ok x) new old is all = subst AreWithin (sym is) all
within_ok (Err e) new old is all = tt

-- ---- which stay
others-append : (team : ℕ) (xs ys : List TeamInterrupt)
    → of_others team (xs ++ ys) ≡ of_others team xs ++ of_others team ys
others-append team [] ys = refl
others-append team (x ∷ xs) ys = elim (cases_Bool (x.team == team)) [
  | inl own ↦ rw own (others-append team xs ys)
  | inr other ↦ rw other (ap (λ zs. x ∷ zs) (others-append team xs ys))
]

others-again : (team : ℕ) (xs : List TeamInterrupt)
    → of_others team (of_others team xs) ≡ of_others team xs
others-again team [] = refl
others-again team (x ∷ xs) = elim (cases_Bool (x.team == team)) [
  | inl own ↦ rw own (others-again team xs)
  | inr other ↦ rw (other, other) (ap (λ zs. x ∷ zs) (others-again team xs))
]

others-said : (team : ℕ) (said : List Interrupt) → of_others team (said_by team said) ≡ []
others-said team [] = refl
others-said team (x ∷ said) = elim (cases_Bool (nat_lt 0 x.cost)) [
  | inl takes ↦ rw (takes, eq-eqb team team refl) (others-said team said)
  | inr none ↦ rw none (others-said team said)
]

others-saying : (team : ℕ) (xs : List TeamInterrupt) (said : List Interrupt)
    → of_others team (after_saying team xs said) ≡ of_others team xs
others-saying team xs [] = refl
others-saying team xs (y ∷ said) =
    others-append team (of_others team xs) (said_by team (y ∷ said))
    ∙ ap (λ zs. of_others team (of_others team xs) ++ zs) (others-said team (y ∷ said))
    ∙ append-nil (of_others team (of_others team xs)) ∙ others-again team xs

others-after : (team : ℕ) (xs : List TeamInterrupt) (changes : List (List ℕ × Change))
    → of_others team (interrupts_after team xs changes) ≡ of_others team xs
others-after team xs [] = refl
others-after team xs ((name, Put sheet) ∷ changes) =
    others-after team (after_saying team xs sheet.interrupts) changes
    ∙ others-saying team xs sheet.interrupts
others-after team xs ((name, Remove) ∷ changes) = others-after team xs changes

pub others_stay : (team : ℕ) (before after : OnNode) (changes : List (List ℕ × Change))
    → applied team before changes ≡ Ok after
    → of_others team after.interrupts ≡ of_others team before.interrupts
others_stay team before after changes is =
    ap (of_others team) (applied-node team before after changes is).1
    ∙ others-after team before.interrupts changes

unsaid-after : (team : ℕ) (xs : List TeamInterrupt) (changes : List (List ℕ × Change))
    → SayNone changes → interrupts_after team xs changes ≡ xs
unsaid-after team xs [] none = refl
unsaid-after team xs ((name, Put sheet) ∷ changes) none =
    ap (λ said. interrupts_after team (after_saying team xs said) changes) none.0
    ∙ unsaid-after team xs changes none.1
unsaid-after team xs ((name, Remove) ∷ changes) none = unsaid-after team xs changes none.1

pub unsaid_stay : (team : ℕ) (before after : OnNode) (changes : List (List ℕ × Change))
    → SayNone changes → applied team before changes ≡ Ok after
    → after.interrupts ≡ before.interrupts
unsaid_stay team before after changes none is =
    (applied-node team before after changes is).1
    ∙ unsaid-after team before.interrupts changes none

-- ---- along a log
along-one : (desk : MachineState) (team : ℕ) (changes : List (List ℕ × Change)) (d : Ruling)
    (outcome : Result OnNode Refusal) → applied team desk.node changes ≡ outcome
    → IsRuling desk.version outcome d → (moved desk d outcome).node.interrupts
    ≡ where_admitted d desk.node.interrupts (interrupts_after team desk.node.interrupts changes)
along-one desk team changes (Admitted version) (Ok node) is ruling =
    (applied-node team desk.node node changes is).1
along-one desk team changes (Admitted version) (Err refusal) is ruling = absurd ruling
along-one desk team changes (Refused refusal) outcome is ruling = refl
along-one desk team changes (Infeasible o) outcome is ruling = refl

pub along_log : (desk : MachineState) (log : List Entry) → IsLegal desk log
    → (replay desk log).node.interrupts ≡ interrupts_along desk.node.interrupts log
along_log desk [] legal = refl
along_log desk (e ∷ log) legal =
    along_log (after_entry desk e) log legal.1
    ∙ ap (λ xs. interrupts_along xs log) (along-one desk e.team e.changes e.decision
    (applied e.team desk.node e.changes) refl legal.0)

-- ---- tasks have none on their accounts
abbrev AreBare : List Owned → Type 0
AreBare ts = AllByRecursion (λ t. t.interrupts ≡ []) (sheets_of ts)

bare-without : (name : List ℕ) (ts : List Owned) → AreBare ts → AreBare (without_name name ts)
bare-without name ts all =
    all-kept (λ o. not (bears_name name o)) (λ t. t.interrupts ≡ []) ts all

module _ (team : ℕ) where
  bare-changed : (ts next : List Owned) (name : List ℕ) (change : Change) → AreBare ts
      → after_change team ts name change ≡ Ok next → AreBare next
  bare-changed ts next name (Put sheet) all made =
      subst AreBare (sym (put-made team ts next name sheet made).1)
      (all-placed (λ t. t.interrupts ≡ []) (record { sheet = bare sheet; team = team })
      (without_name sheet.name ts) refl (bare-without sheet.name ts all))
  bare-changed ts next name Remove all made =
      subst AreBare (sym (remove-made team ts next name made).2) (bare-without name ts all)

  bare-all : (ts last : List Owned) (changes : List (List ℕ × Change)) → AreBare ts
      → all_changes team ts changes ≡ Ok last → AreBare last
  bare-all ts last [] all is = let e : ts ≡ last = cc in subst AreBare e all
  bare-all ts last (c ∷ changes) all is =
      let made = then-ok (after_change team ts c.0 c.1) (λ next. all_changes team next changes)
      last is in
      bare-all made.0 last changes (bare-changed ts made.0 c.0 c.1 all made.1) made.2

bare-moved : (desk : MachineState) (team : ℕ) (changes : List (List ℕ × Change)) (d : Ruling)
    (outcome : Result OnNode Refusal) → applied team desk.node changes ≡ outcome
    → AreBare desk.node.tasks → AreBare (moved desk d outcome).node.tasks
bare-moved desk team changes (Admitted version) (Ok node) is all =
    bare-all team desk.node.tasks node.tasks changes all
    (applied-node team desk.node node changes is).0
bare-moved desk team changes d outcome is all = all

bare-replay : (desk : MachineState) (log : List Entry) → AreBare desk.node.tasks
    → AreBare (replay desk log).node.tasks
bare-replay desk [] all = all
bare-replay desk (e ∷ log) all =
    bare-replay (after_entry desk e) log (bare-moved desk e.team e.changes e.decision
    (applied e.team desk.node e.changes) refl all)

-- ---- what a demand counts
sum-first : (n : ℕ) (f : ℕ → ℕ) → sum_below (suc n) f ≡ f 0 + sum_below n (λ k. f (suc k))
sum-first zero f = omega arith
sum-first (suc n) f = omega (arith, sum-first n f)

sum-listed : (f : Task → ℕ) (U : List Task)
    → sum_below (length U) (λ k. f (task_at U k)) ≡ sum_by f U
sum-listed f [] = refl
sum-listed f (t ∷ U) = omega (
  arith,
  sum-first (length U) (λ k. f (task_at (t ∷ U) k)),
  sum-listed f U,
  sum_by-cons f t U,
)

sum-bare : (ts : List Owned) (time : ℕ) → AreBare ts
    → sum_by (interrupts_of time) (sheets_of ts) ≡ timers_within ts time
sum-bare [] time all = refl
sum-bare (o ∷ ts) time all =
    let own : interrupts_of time o.sheet ≡ releases_within o.sheet time * o.sheet.node.release + 0 =
    ap (λ xs. releases_within o.sheet time * o.sheet.node.release + sum_by (interrupt_within time) xs)
    all.0 in
    omega (
      arith,
      own,
      sum_by-cons (interrupts_of time) o.sheet (sheets_of ts),
      sum_by-cons (λ (x : Owned). releases_within x.sheet time * x.sheet.node.release) o ts,
      sum-bare ts time all.1,
    )

sum-charged : (xs : List Interrupt) (ts : List Owned) (time : ℕ) → 0 < length ts → AreBare ts
    → sum_by (interrupts_of time) (charged xs (sheets_of ts))
    ≡ timers_within ts time + sum_by (interrupt_within time) xs
sum-charged xs [] time some all = absurd (omega (arith, some))
sum-charged [] (o ∷ ts) time some all = omega (arith, sum-bare (o ∷ ts) time all)
sum-charged (x ∷ xs) (o ∷ ts) time some all = omega (
  arith,
  sum_by-cons (interrupts_of time) (interrupted o.sheet (x ∷ xs)) (sheets_of ts),
  sum_by-cons (λ (y : Owned). releases_within y.sheet time * y.sheet.node.release) o ts,
  sum-bare ts time all.1,
)

within-sum : (U : List Task) (time : ℕ) → interrupts_within U time ≡ sum_by (interrupts_of time) U
unfolding interrupts_within
within-sum U time = sum-listed (interrupts_of time) U

pub counted : (log : List Entry) (time : ℕ) → 0 < length (replay empty_desk log).node.tasks
    → interrupts_within (set_of (replay empty_desk log).node) time
    ≡ timers_within (replay empty_desk log).node.tasks time
    + sum_by (interrupt_within time) (said_of (replay empty_desk log).node.interrupts)
counted log time some =
    let node : OnNode = (replay empty_desk log).node in
    within-sum (set_of node) time
    ∙ sum-charged (said_of node.interrupts) node.tasks time some (bare-replay empty_desk log tt)
