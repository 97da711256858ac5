-- A task and those above it in an order.
use Rattle.std.proofs.Common.{◌≡◌, ◌≢◌, ℕ, zero, suc, ◌+◌, ◌<◌, ◌≤◌, inl, inr, true, ◌==◌, nat_lt}
use Rattle.std.proofs.Common.{List, [], ◌∷◌, length, get_or, drop, All, refl, sym, ◌∙◌, ap}
use Rattle.std.proofs.Common.{subst, arith}
use Rattle.std.proofs.lemmas.Bool.{cases_Bool, eq-eqb, ltb-true}
use Rattle.std.proofs.lemmas.Bool.{ne_eqb}
use Rattle.std.proofs.lemmas.List.{get_or_default, get_or-drop, length-drop}
use Rattle.task_sheet.proofs.Common.{among}
use Rattle.task_sheet.proofs.IndexLaws.{among-place, place-among}
use Rattle.ceiling_kernel.proofs.Common.{Node, level_from, level_in_order, IsNode, above_of}
use Rattle.ceiling_kernel.proofs.Common.{after_of}
use Rattle.ceiling_kernel.proofs.NodeLaws.{times, times-here, times-grow, level_past}
use Rattle.ceiling_kernel.proofs.NodeLaws.{after_is_above, at_most_once, times-order}
use Rattle.miss.specs.Shown.{PassesThere, IsLowestFailing, AboveAllPass}

times_at : (xs : List ℕ) (q : ℕ) → q < length xs → 0 < times (get_or xs q 0) xs
times_at [] q lt = absurd (omega arith)
times_at (x ∷ xs) zero lt = omega (arith, times-here x x xs (eq-eqb x x refl))
times_at (x ∷ xs) (suc q) lt =
    omega (arith, times_at xs q (omega arith), times-grow (get_or xs q 0) x xs)

-- the levels of an order rise by one from place to place
level_at : (l : ℕ) (xs : List ℕ) (q : ℕ) → ((k : ℕ) → times k xs ≤ 1) → q < length xs
    → level_from l xs (get_or xs q 0) ≡ l + q
level_at l [] q once lt = absurd (omega arith)
level_at l (x ∷ xs) zero once lt = rw (eq-eqb x x refl) (omega arith)
level_at l (x ∷ xs) (suc q) once lt =
    let inner : q < length xs = omega arith in
    let differ : x ≢ get_or xs q 0 = λ e. (let here = times-here (get_or xs q 0) x xs (eq-eqb x
    (get_or xs q 0) e) in
    omega (arith, here, times_at xs q inner, once (get_or xs q 0))) in
    let rest = level_at (l + 1) xs q (λ k. omega (arith, once k, times-grow k x xs)) inner in
    rw (ne_eqb x (get_or xs q 0) differ) (omega (arith, rest))

-- those after a task are the end of the order
after_drop : (order : List ℕ) (i : ℕ) → (p : ℕ) × (after_of order i ≡ drop p order)
after_drop [] i = (0, refl)
after_drop (x ∷ order) i =
    elim (cases_Bool (x == i)) [
      | inl here ↦ (1, rw here refl)
      | inr not ↦ (let r = after_drop order i in
          (suc r.0, rw not r.1))
    ]

module _ (node : Node) (ok : IsNode node) where
  -- whoever has a level is in the set
  pub has_level : (k : ℕ) → 0 < level_in_order node k → k < length node.tasks
  has_level k up =
      elim (cases_Bool (nat_lt k (length node.tasks))) [
        | inl t ↦ ltb-true k (length node.tasks) t
        | inr f ↦
            let once = times-order node ok k in
            let none : times k node.order ≡ 0 = rw f at once in
            absurd (omega (arith, level_past 1 node.order k none))
      ]

  module _ (i : ℕ) (lt : i < length node.tasks) where
    abbrev above : List ℕ
    above = after_of node.order i

    abbrev members : List ℕ
    members = i ∷ above

    -- who stands above has a higher level
    pub higher : (q : ℕ) → q < length above
        → level_in_order node i < level_in_order node (get_or above q 0)
    higher q small =
        let on = sym (after_is_above node ok i (get_or above q 0) lt) ∙ place-among above q small in
        ltb-true (level_in_order node i) (level_in_order node (get_or above q 0)) on

    pub member_in : (q : ℕ) → q < length members → (get_or members q 0 < length node.tasks)
        × (level_in_order node i ≤ level_in_order node (get_or members q 0))
    member_in zero small = (lt, omega arith)
    member_in (suc q) small =
        let up = higher q (omega arith) in
        (has_level (get_or above q 0) (omega arith), omega arith)

    level_above : (q : ℕ) → q < length above
        → level_in_order node (get_or above q 0) ≡ 1 + (after_drop node.order i).0 + q
    level_above q small =
        let d = after_drop node.order i in
        let long = ap length d.1 ∙ length-drop d.0 node.order in
        let same = ap (λ xs. get_or xs q 0) d.1 ∙ get_or-drop d.0 node.order q 0 in
        ap (λ k. level_in_order node k) same
        ∙ (level_at 1 node.order (d.0 + q) (at_most_once node ok) (omega arith) ∙ omega arith)

    pub members_differ : (q r : ℕ) → q < length members → r < length members
        → get_or members q 0 ≡ get_or members r 0 → q ≡ r
    members_differ zero zero lq lr e = refl
    members_differ zero (suc r) lq lr e =
        let up = higher r (omega arith) in
        let same = ap (λ k. level_in_order node k) e in
        absurd (omega arith)
    members_differ (suc q) zero lq lr e =
        let up = higher q (omega arith) in
        let same = ap (λ k. level_in_order node k) e in
        absurd (omega arith)
    members_differ (suc q) (suc r) lq lr e =
        let same = ap (λ k. level_in_order node k) e in
        omega (arith, same, level_above q (omega arith), level_above r (omega arith))

    -- each task above has a place
    pub above_place : (h : ℕ) → above_of node i h ≡ true → (q : ℕ) × (q < length members)
        × (get_or members q 0 ≡ h)
    above_place h on =
        let f = among-place above h (after_is_above node ok i h lt ∙ on) in
        (suc f.0, omega (arith, f.1), f.2)

    -- ---- as a list that is read
    module _ (xs : List ℕ) (are : xs ≡ after_of node.order i) where
      pub above_at : (q : ℕ) → q < length xs → get_or xs q 0 < length node.tasks
      above_at q small = (let long = ap length are in
          subst (λ ys. get_or ys q 0 < length node.tasks) (sym are)
          (member_in (suc q) (omega arith)).0)

      -- they are in the set
      pub above_known : All (λ k. k < length node.tasks) xs
      above_known q d small = subst (λ k. k < length node.tasks) (get_or_default xs q 0 d small)
          (above_at q small)

      pub above_few : All (λ k. k < 32) xs
      above_few q d small = (let U = ok.tasks in
          omega (arith, above_known q d small, U.few))

      -- each task above is one of them
      place_in : (k : ℕ) → k < length node.tasks → above_of node i k ≡ true
          → (r : ℕ) × (r < length xs) × (get_or xs r 0 ≡ k)
      place_in k known on = among-place xs k
          (ap (λ ys. among ys k) are ∙ (after_is_above node ok i k lt ∙ on))

      level_in : (q : ℕ) → q < length xs
          → level_in_order node (get_or xs q 0) ≡ 1 + (after_drop node.order i).0 + q
      level_in q small = (let long = ap length are in
          ap (λ ys. level_in_order node (get_or ys q 0)) are ∙ level_above q (omega arith))

      -- the first that doesn't pass is the lowest
      pub lowest_failing : (q : ℕ) → q < length xs
          → ((r : ℕ) → r < q → PassesThere node (get_or xs r 0))
          → (PassesThere node (get_or xs q 0) → ⊥) → IsLowestFailing node i (get_or xs q 0)
      lowest_failing q small before fails = record {
        in_set = above_at q small;
        above = sym (after_is_above node ok i (get_or xs q 0) lt)
            ∙ (ap (λ ys. among ys (get_or xs q 0)) (sym are) ∙ place-among xs q small);
        fails = fails;
        lowest = λ k known on under.
            let w = place_in k known on in
            let up = ltb-true (level_in_order node k) (level_in_order node (get_or xs q 0)) under in
            let same = ap (λ x. level_in_order node x) w.2 in
            subst (λ x. PassesThere node x) w.2 (before w.0
            (omega (arith, up, same, level_in w.0 w.1, level_in q small)));
      }

      pub all_above : ((q : ℕ) → q < length xs → PassesThere node (get_or xs q 0))
          → AboveAllPass node i
      all_above each h known on =
          let w = place_in h known on in
          subst (λ x. PassesThere node x) w.2 (each w.0 w.1)
