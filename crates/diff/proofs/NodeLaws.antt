-- What a node takes changes no number that is a task's own.
use Rattle.std.proofs.Common.{◌≡◌, ◌∙◌, ◌+◌, ◌-◌, ℕ, zero, suc, Bool, false, List, [], ◌∷◌}
use Rattle.std.proofs.Common.{slice_get, take, Option, Some, None, refl, ap, sym, arith}
use Rattle.std.specs.Cmp.{nat_eq_equiv}
use Rattle.std.proofs.lemmas.Bool.{eq-eqb}
use Rattle.std.proofs.lemmas.List.Sums.{sum_by-cons}
use Rattle.task_sheet.proofs.Common.{Task, CriticalSection}
use Rattle.task_sheet.specs.declared.node.Node.{Node}
use Rattle.task_sheet.specs.declared.sheet.TheConstants.{SECTION_LIMIT}
use Rattle.task_sheet.specs.Overheads.{calls, calls_in, own_cost}
use Rattle.task_sheet.specs.SheetEquality.{same_outranks-Decides}
use Rattle.overheads.specs.Padding.{padded_section, padded_sections, padded_task}
use Rattle.diff.specs.Own.{own_at, own_len, own_jitter}
use Rattle.diff.specs.Keys.{is_changed, other_section}
use Rattle.diff.proofs.SameLaws.{none_below, same_locks, neither}

-- padded sections have the locks of the sections, and so the calls on them
same_calls : (node : Node) (before : ℕ) (xs : List CriticalSection)
    → calls_in node (padded_sections node before xs) ≡ calls_in node xs
same_calls node before [] = refl
same_calls node before (x ∷ xs) =
    sum_by-cons (calls node) (padded_section node before x)
    (padded_sections node (before + calls node x) xs)
    ∙ ap (λ n. calls node x + n) (same_calls node (before + calls node x) xs)
    ∙ sym (sum_by-cons (calls node) x xs)

-- the padded section at a place is what the section at the place becomes, with the calls before it
placed : (node : Node) (before : ℕ) (xs : List CriticalSection) (place : ℕ) (x : CriticalSection)
    → slice_get xs place ≡ Some x
    → slice_get (padded_sections node before xs) place
    ≡ Some (padded_section node (before + calls_in node (take place xs)) x)
placed node before [] place x is = absurd (cc)
placed node before (y ∷ xs) zero x is =
    let same : y ≡ x = cc in
    rw same (ap (λ n. Some (padded_section node n x)) (omega arith))
placed node before (y ∷ xs) (suc place) x is =
    placed node (before + calls node y) xs place x is
    ∙ ap (λ n. Some (padded_section node n x))
    (omega (arith, sum_by-cons (calls node) y (take place xs)))

unplaced : (node : Node) (before : ℕ) (xs : List CriticalSection) (place : ℕ)
    → slice_get xs place ≡ None → slice_get (padded_sections node before xs) place ≡ None
unplaced node before [] place is = refl
unplaced node before (y ∷ xs) zero is = absurd (cc)
unplaced node before (y ∷ xs) (suc place) is = unplaced node (before + calls node y) xs place is

-- the calls before a place are those of the sections before it
same_behind : (node : Node) (before : ℕ) (xs : List CriticalSection) (place : ℕ)
    → calls_in node (take place (padded_sections node before xs)) ≡ calls_in node (take place xs)
same_behind node before [] zero = refl
same_behind node before [] (suc place) = refl
same_behind node before (x ∷ xs) zero = refl
same_behind node before (x ∷ xs) (suc place) =
    sum_by-cons (calls node) (padded_section node before x)
    (take place (padded_sections node (before + calls node x) xs))
    ∙ ap (λ n. calls node x + n) (same_behind node (before + calls node x) xs place)
    ∙ sym (sum_by-cons (calls node) x (take place xs))

-- what the section at a place of a task becomes
abbrev becomes : Node → Task → ℕ → CriticalSection → CriticalSection
becomes node t place x =
    padded_section node (node.job - node.release + calls_in node (take place t.sections)) x

begins : (node : Node) (t : Task) (place : ℕ) (x : CriticalSection)
    → own_at (padded_task node t) place (becomes node t place x) ≡ x.at
begins node t place x =
    omega (arith, same_behind node (node.job - node.release) t.sections place)

lasts : (node : Node) (t : Task) (place : ℕ) (x : CriticalSection)
    → own_len (padded_task node t) (becomes node t place x) ≡ x.len
lasts node t place x = omega arith

module _ (t : Task) (node other : Node) where
  same_there : (place : ℕ) (o : Option CriticalSection) → slice_get t.sections place ≡ o
      → other_section (padded_task node t) (padded_task other t) place ≡ false
  same_there place None is =
      rw (
        unplaced node (node.job - node.release) t.sections place is,
        unplaced other (other.job - other.release) t.sections place is,
      ) refl
  same_there place (Some x) is =
      let at : own_at (padded_task node t) place (becomes node t place x)
      ≡ own_at (padded_task other t) place (becomes other t place x) =
      begins node t place x ∙ sym (begins other t place x) in
      let len : own_len (padded_task node t) (becomes node t place x)
      ≡ own_len (padded_task other t) (becomes other t place x) =
      lasts node t place x ∙ sym (lasts other t place x) in
      rw (
        placed node (node.job - node.release) t.sections place x is,
        placed other (other.job - other.release) t.sections place x is,
        same_locks x.locks,
        eq-eqb _ _ at,
        eq-eqb _ _ len,
      ) refl

  costs : own_cost (padded_task node t) ≡ own_cost (padded_task other t)
  costs = omega (
    arith,
    same_calls node (node.job - node.release) t.sections,
    same_calls other (other.job - other.release) t.sections,
  )

  jitters : own_jitter (padded_task node t) ≡ own_jitter (padded_task other t)
  jitters = omega arith

  pub node_is_silent : (weighs : Bool)
      → is_changed weighs (padded_task node t) (padded_task other t) ≡ false
  unfolding is_changed
  node_is_silent weighs =
      let weight = nat_eq_equiv.refl t.weight in
      let period = nat_eq_equiv.refl t.period in
      let deadline = nat_eq_equiv.refl t.deadline in
      let sections = none_below SECTION_LIMIT
      (other_section (padded_task node t) (padded_task other t))
      (λ place. same_there place (slice_get t.sections place) refl) in
      let outranks = (same_outranks-Decides t.outranks t.outranks).1 refl in
      rw (
        weight,
        period,
        deadline,
        eq-eqb (own_cost (padded_task node t)) (own_cost (padded_task other t)) costs,
        sections,
        eq-eqb (own_jitter (padded_task node t)) (own_jitter (padded_task other t)) jitters,
        outranks,
      )
      (neither weighs)
