-- The ceiling of a lock is the level of its highest user.
use Rattle.std.proofs.Common.{◌≡◌, ◌↔◌, ℕ, zero, suc, ◌+◌, ◌<◌, ◌≤◌, inl, inr, Bool, true, false}
use Rattle.std.proofs.Common.{cond, Option, Some, None, List, [], ◌∷◌, length, get_or, refl}
use Rattle.std.proofs.Common.{sym, ◌∙◌, ap, subst, arith}
use Rattle.std.specs.Option.{option_or}
use Rattle.std.proofs.lemmas.Bool.{cases_order, both_ways, ltb-true, lt-ltb}
use Rattle.task_sheet.proofs.Common.{Task, task_at, among, uses, ceiling_from, ceiling_of, all_of}
use Rattle.task_sheet.proofs.Common.{IsOrder}
use Rattle.task_sheet.specs.Locks.{IsHighestUser}
use Rattle.task_sheet.proofs.IndexLaws.{among-place, place-among, IsOrderOf-among}

module _ (U : List Task) (lock : List ℕ) where
  abbrev NoUser : List ℕ → Type 0
  NoUser order = (k : ℕ) → k < length order → uses (task_at U (get_or order k 0)) lock ≡ false

  none_more : (i : ℕ) (order : List ℕ) → uses (task_at U i) lock ≡ false → NoUser order
      → NoUser (i ∷ order)
  none_more i order out none zero lt = out
  none_more i order out none (suc k) lt = none k (omega arith)

  -- no later one uses it, one place further
  none_from : (i : ℕ) (order : List ℕ) (from : ℕ)
      → ((k : ℕ) → from ≤ k → k < length order → uses (task_at U (get_or order k 0)) lock ≡ false)
      → (k : ℕ) → from < k → k < length (i ∷ order)
      → uses (task_at U (get_or (i ∷ order) k 0)) lock ≡ false
  none_from i order from none zero above lt = absurd (omega arith)
  none_from i order from none (suc k) above lt = none k (omega arith) (omega arith)

  -- what the ceiling from a level says
  abbrev Says : ℕ → List ℕ → Option ℕ → Type 0
  Says level order None = NoUser order
  Says level order (Some top) = (place : ℕ) × (top ≡ level + place)
      × IsHighestUser U order lock place

  ceiling-says : (level : ℕ) (order : List ℕ) → Says level order (ceiling_from level U order lock)
  ceiling-says level [] = λ k lt. absurd (omega arith)
  ceiling-says level (i ∷ order) = by (ceiling_from (level + 1) U order lock)
      (uses (task_at U i) lock) refl (ceiling-says (level + 1) order)
    where
      by : (o : Option ℕ) (b : Bool) → uses (task_at U i) lock ≡ b → Says (level + 1) order o
          → Says level (i ∷ order) (option_or o (cond b (Some level) None))
      by None true e says = (
        0,
        omega arith,
        record {
          in_order = omega arith;
          user = e;
          none_above = none_from i order 0 (λ k from lt. says k lt);
        },
      )
      by None false e says = none_more i order e says
      by (Some top) b e says = (
        suc says.0,
        omega (arith, says.1),
        record {
          in_order = omega (arith, says.2.in_order);
          user = says.2.user;
          none_above = none_from i order (suc says.0) says.2.none_above;
        },
      )

  not_user : (order : List ℕ) (place : ℕ) → NoUser order → ¬ IsHighestUser U order lock place
  not_user order place none h =
      both_ways (uses (task_at U (get_or order place 0)) lock) (none place h.in_order) h.user

  highest-one : (order : List ℕ) (j k : ℕ) → IsHighestUser U order lock j
      → IsHighestUser U order lock k → j ≡ k
  highest-one order j k h g = elim (cases_order j k) [
    | inl e ↦ e
    | inr apart ↦ elim apart [
      | inl lt ↦ absurd (both_ways (uses (task_at U (get_or order k 0)) lock)
          (h.none_above k lt g.in_order) g.user)
      | inr lt ↦ absurd (both_ways (uses (task_at U (get_or order j 0)) lock)
          (g.none_above j lt h.in_order) h.user)
    ]
  ]

  pub ceiling-highest : (order : List ℕ) (level : ℕ)
      → (ceiling_of U order lock ≡ Some level)
      ↔ ((place : ℕ) × (level ≡ place + 1) × IsHighestUser U order lock place)
  ceiling-highest order level = (
    λ e. let says = subst (λ o. Says 1 order o) e (ceiling-says 1 order) in
        (says.0, omega (arith, says.1), says.2),
    λ h. by h.0 h.1 h.2 (ceiling_of U order lock) (ceiling-says 1 order),
  )
    where
      by : (place : ℕ) → level ≡ place + 1 → IsHighestUser U order lock place → (o : Option ℕ)
          → Says 1 order o → o ≡ Some level
      by place is h None none = absurd (not_user order place none h)
      by place is h (Some top) says =
          ap (λ n. Some n) (omega (arith, says.1, highest-one order says.0 place says.2 h))

  pub ceiling-none : (order : List ℕ) → IsOrder U order → (ceiling_of U order lock ≡ None)
      ↔ ((k : ℕ) → k < length U → uses (task_at U k) lock ≡ false)
  ceiling-none order each = (
    λ e k lt.
        let none = subst (λ o. Says 1 order o) e (ceiling-says 1 order) in
        let place = among-place order k (ap (λ X. X k) same ∙ lt-ltb k (length U) lt) in
        subst (λ i. uses (task_at U i) lock ≡ false) place.2 (none place.0 place.1),
    λ all. by (λ k lt. all (get_or order k 0)
        (ltb-true _ _ (ap (λ X. X (get_or order k 0)) (sym same) ∙ place-among order k lt)))
        (ceiling_of U order lock) (ceiling-says 1 order),
  )
    where
      same : among order ≡ all_of U
      same = IsOrderOf-among (all_of U) order each

      by : NoUser order → (o : Option ℕ) → Says 1 order o → o ≡ None
      by none None says = refl
      by none (Some top) says = absurd (not_user order says.0 none says.2)
