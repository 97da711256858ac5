-- Priorities are at most the number of tasks, and how one changes up to the next boundary.
use Rattle.std.proofs.Common.{ℕ, suc, ◌+◌, ◌<◌, ◌≤◌, ◌≡◌, ◌⊎◌, ◌==◌, inl, inr, refl, arith, cond}
use Rattle.std.proofs.Common.{List, [], ◌∷◌, length, true, false, Some, None, nat_le}
use Rattle.std.specs.Option.{option_or, unwrap_or}
use Rattle.std.proofs.lemmas.Bool.{cases_lt, cases_Bool, lt-leb, lt-ltb, le-ltb}
use Rattle.task_sheet.proofs.Common.{Task, CriticalSection, task_at, uses, ceiling_from}
use Rattle.ceiling_kernel.proofs.Common.{Node, is_inside, level_from, level_in_order, top_ceiling}
use Rattle.ceiling_kernel.proofs.Common.{held_ceiling, change_after, IsNode, active_at, AreApart}
use Rattle.ceiling_kernel.proofs.SectionLaws.{inside_from, outside_before, outside_after}
use Rattle.ceiling_kernel.proofs.LockLaws.{held_before}
use Rattle.ceiling_kernel.proofs.OrderLaws.{order_length}

-- ---- priorities are at most the number of tasks
level_bound : (l : ℕ) (order : List ℕ) (i : ℕ) → 0 < l → level_from l order i < l + length order
level_bound l [] i some = omega arith
level_bound l (k ∷ order) i some =
    let ih = level_bound (l + 1) order i (omega arith) in
    elim (cases_Bool (k == i)) [ inl is ↦ rw is (omega arith) | inr not ↦ rw not (omega arith) ]

ceiling_bound : (U : List Task) (l : ℕ) (order : List ℕ) (lock : List ℕ) → 0 < l
    → unwrap_or (ceiling_from l U order lock) 0 < l + length order
ceiling_bound U l [] lock some = omega arith
ceiling_bound U l (x ∷ order) lock some =
    let ih = ceiling_bound U (l + 1) order lock (omega arith) in
    elim (ceiling_from (l + 1) U order lock) as (λ o. ceiling_from (l + 1) U order lock ≡ o
    → unwrap_or (option_or o (cond (uses (task_at U x) lock) (Some l) None)) 0
    < l + suc (length order)) [
      | Some d ↦ λ is. (let ih' : d < l + 1 + length order = rw is at ih in omega arith)
      | None ↦ λ is. elim (cases_Bool (uses (task_at U x) lock)) [
        | inl u ↦ rw u (omega arith)
        | inr u ↦ rw u (omega arith)
      ]
    ] refl

module _ (node : Node) where
  top_bound : (locks : List (List ℕ)) → top_ceiling node locks ≤ length node.order
  top_bound [] = omega arith
  top_bound (q ∷ qs) =
      let one = ceiling_bound node.tasks 1 node.order q (omega arith) in
      omega (arith, top_bound qs)

  held_bound : (ss : List CriticalSection) (e : ℕ) → held_ceiling node ss e ≤ length node.order
  held_bound [] e = omega arith
  held_bound (s ∷ ss) e =
      let one : top_ceiling node s.locks ≤ length node.order = top_bound s.locks in
      let ih : held_ceiling node ss e ≤ length node.order = held_bound ss e in
      elim (cases_Bool (is_inside s e)) [
        | inl is ↦ rw is (omega arith)
        | inr not ↦ rw not (omega arith)
      ]

  pub level_within : IsNode node → (i : ℕ) → level_in_order node i ≤ length node.tasks
  level_within ok i =
      let n = order_length (length node.tasks) node.order ok.order in
      let l = level_bound 1 node.order i (omega arith) in
      omega arith

  pub active_within : IsNode node → (i e : ℕ) → active_at node i e ≤ length node.tasks
  active_within ok i e =
      omega (
        arith,
        order_length (length node.tasks) node.order ok.order,
        level_within ok i,
        held_bound (task_at node.tasks i).sections e,
      )

  -- ---- up to the next boundary, a job leaves all locks or holds no lower ceiling
  held_next : (begin cost : ℕ) (ss : List CriticalSection) (e e' limit : ℕ) → AreApart begin ss cost
      → e ≤ e' → e' ≤ change_after ss e limit → (held_ceiling node ss e' ≡ 0)
      ⊎ (held_ceiling node ss e ≤ held_ceiling node ss e')
  held_next begin cost [] e e' limit apart le lt = inl refl
  held_next begin cost (s ∷ ss) e e' limit apart le lt =
      elim (cases_lt s.at e) [
        | inr at_most ↦
            let a = held_before node (s.at + s.len) cost ss e apart.2 (omega arith) in
            rw (outside_before s e at_most, a) (inr (omega arith))
        | inl past ↦
            let x : nat_le e s.at ≡ false = lt-leb e s.at past in
            elim (cases_lt e (s.at + s.len)) [
              | inl within ↦
                  let bound : e' ≤ s.at + s.len = rw (x, lt-ltb e (s.at + s.len) within) at lt in
                  let a = held_before node (s.at + s.len) cost ss e apart.2 (omega arith) in
                  let b = held_before node (s.at + s.len) cost ss e' apart.2 (omega arith) in
                  elim (cases_lt e' (s.at + s.len)) [
                    | inl still ↦
                        let in' : is_inside s e' ≡ true = inside_from s e' (omega arith) still in
                        rw (inside_from s e past within, in', a, b) (inr (omega arith))
                    | inr left ↦
                        let out' : is_inside s e' ≡ false = outside_after s e' left in
                        rw (out', b) (inl (omega arith))
                  ]
              | inr after ↦
                  let later : e' ≤ change_after ss e limit = rw (x, le-ltb e (s.at + s.len) after)
                  at lt in
                  let out' : is_inside s e' ≡ false = outside_after s e' (omega arith) in
                  rw (outside_after s e after, out') (elim
                  (held_next (s.at + s.len) cost ss e e' limit apart.2 le later) [
                    | inl none ↦ inl (omega arith)
                    | inr more ↦ inr (omega arith)
                  ])
            ]
      ]

  -- so its priority is its own level, or no lower than it was
  pub active_next : (i e e' limit : ℕ)
      → AreApart 0 (task_at node.tasks i).sections (task_at node.tasks i).cost → e ≤ e'
      → e' ≤ change_after (task_at node.tasks i).sections e limit
      → (active_at node i e' ≡ level_in_order node i) ⊎ (active_at node i e ≤ active_at node i e')
  active_next i e e' limit apart le lt =
      elim (held_next 0 (task_at node.tasks i).cost (task_at node.tasks i).sections e e' limit apart
      le lt) [
        | inl none ↦ inl (omega arith)
        | inr more ↦ inr (omega arith)
      ]
