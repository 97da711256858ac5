-- Where a task of a level or above reaches a section, its ceiling does.
use Rattle.std.proofs.Common.{◌≡◌, ℕ, suc, ◌-◌, ◌<◌, ◌≤◌, inl, inr, Bool, true, false, ◌==◌, ◌&&◌}
use Rattle.std.proofs.Common.{List, [], ◌∷◌, length, sym, ◌∙◌, ap, arith}
use Rattle.std.specs.List.{list_any}
use Rattle.std.proofs.lemmas.Bool.{cases_Bool, cases_lt, true≢false, or_cases, and_parts, and_from}
use Rattle.std.proofs.lemmas.Bool.{eqb-true, ltb-true, lt-ltb, or_parts}
use Rattle.task_sheet.proofs.Common.{CriticalSection, task_at, Indexes, with_index, uses}
use Rattle.task_sheet.proofs.Common.{shares_lock, reaches}
use Rattle.task_sheet.proofs.Below.{some_below-at, some_below-witness}
use Rattle.ceiling_kernel.proofs.Common.{Node, level_in_order, is_inside, top_ceiling, held_ceiling}
use Rattle.ceiling_kernel.proofs.Common.{IsNode, above_of}
use Rattle.ceiling_kernel.proofs.NodeLaws.{sound}
use Rattle.ceiling_kernel.proofs.BoundLaws.{top_of}
use Rattle.miss.specs.Exact.{EndsLow}
use Rattle.miss.specs.Shown.{ends_inside}

top_user : (node : Node) → IsNode node → (k : ℕ) (locks : List (List ℕ))
    → list_any (λ lock. uses (task_at node.tasks k) lock) locks ≡ true
    → level_in_order node k ≤ top_ceiling node locks
top_user node ok k [] h = absurd (true≢false (sym h))
top_user node ok k (r ∷ rs) h =
    elim (or_cases (uses (task_at node.tasks k) r)
    (list_any (λ lock. uses (task_at node.tasks k) lock) rs) h) [
      | inl here ↦ (let s = sound node ok in omega (arith, s.users_below k r here))
      | inr later ↦ omega (arith, top_user node ok k rs later)
    ]

-- a section that some tasks reach has a ceiling at the level of one of them or above
reached_by : (node : Node) → IsNode node → (H : Indexes) (s : CriticalSection)
    → reaches node.tasks H s ≡ true
    → (k : ℕ) × (H k ≡ true) × (level_in_order node k ≤ top_ceiling node s.locks)
reached_by node ok H s h =
    let w = some_below-witness
    (length node.tasks) (λ k. H k && shares_lock (task_at node.tasks k) s) h in
    let p = and_parts (H w.0) (shares_lock (task_at node.tasks w.0) s) w.2 in
    (w.0, p.0, top_user node ok w.0 s.locks p.1)

pub ceiling_reaches : (node : Node) → IsNode node → (i : ℕ) (s : CriticalSection)
    → reaches node.tasks (with_index (above_of node i) i) s ≡ true
    → level_in_order node i ≤ top_ceiling node s.locks
ceiling_reaches node ok i s h =
    let u = reached_by node ok (with_index (above_of node i) i) s h in
    elim (or_cases (u.0 == i) (above_of node i u.0) u.1) [
      | inl same ↦ (let e = ap (λ x. level_in_order node x) (eqb-true u.0 i same) in omega (
        arith,
        e,
        u.2,
      ))
      | inr up ↦ omega (arith, ltb-true (level_in_order node i) (level_in_order node u.0) up, u.2)
    ]

-- strictly, where a task above does
pub above_reaches : (node : Node) → IsNode node → (i : ℕ) (s : CriticalSection) → reaches node.tasks
    (above_of node i) s ≡ true → level_in_order node i < top_ceiling node s.locks
above_reaches node ok i s h = (let u = reached_by node ok (above_of node i) s h in
    omega (arith, ltb-true (level_in_order node i) (level_in_order node u.0) u.1, u.2))

-- and the other way round
pub reached_above : (node : Node) → IsNode node → (i : ℕ) (s : CriticalSection) → level_in_order
    node i < top_ceiling node s.locks → reaches node.tasks (above_of node i) s ≡ true
reached_above node ok i s up =
    let u = top_of node ok (suc (level_in_order node i)) s.locks (omega arith) (omega arith) in
    let above : above_of node i u.0 ≡ true =
    lt-ltb (level_in_order node i) (level_in_order node u.0) (omega (arith, u.2)) in
    some_below-at (length node.tasks)
    (λ k. above_of node i k && shares_lock (task_at node.tasks k) s) u.0 u.1 (rw (above, u.3))

-- ---- the last tick
module _ (node : Node) (ok : IsNode node) (i : ℕ) where
  abbrev raises : ℕ → CriticalSection → Bool
  raises e s = is_inside s e && reaches node.tasks (above_of node i) s

  held_low : (ss : List CriticalSection) (e : ℕ) → list_any (raises e) ss ≡ false
      → held_ceiling node ss e ≤ level_in_order node i
  held_low [] e h = omega arith
  held_low (s ∷ ss) e h =
      let here : raises e s ≡ false = (or_parts (raises e s) (list_any (raises e) ss) h).0 in
      let ih = held_low ss e (or_parts (raises e s) (list_any (raises e) ss) h).1 in
      elim (cases_Bool (is_inside s e)) [
        | inr out ↦ rw out (omega arith)
        | inl in_ ↦ elim (cases_lt (level_in_order node i) (top_ceiling node s.locks)) [
          | inl up ↦ absurd (true≢false (sym (and_from (is_inside s e)
              (reaches node.tasks (above_of node i) s) in_ (reached_above node ok i s up)) ∙ here))
          | inr low ↦ rw in_ (omega arith)
        ]
      ]

  held_high : (ss : List CriticalSection) (e : ℕ) → list_any (raises e) ss ≡ true
      → level_in_order node i < held_ceiling node ss e
  held_high [] e h = absurd (true≢false (sym h))
  held_high (s ∷ ss) e h =
      elim (or_cases (raises e s) (list_any (raises e) ss) h) [
        | inl here ↦
            let p = and_parts (is_inside s e) (reaches node.tasks (above_of node i) s) here in
            let up = above_reaches node ok i s p.1 in
            rw p.0 (omega arith)
        | inr later ↦ (let ih = held_high ss e later in omega arith)
      ]

  -- the last tick is executed at the task's own level exactly where it isn't inside such a section
  pub ends_low : ends_inside node.tasks i (above_of node i) ≡ false → EndsLow node i
  ends_low h = (let low = held_low (task_at node.tasks i).sections ((task_at node.tasks i).cost - 1)
      h in omega arith)

  pub ends_raised : ends_inside node.tasks i (above_of node i) ≡ true → EndsLow node i → ⊥
  ends_raised h low = (let up = held_high (task_at node.tasks i).sections ((task_at node.tasks
      i).cost - 1) h in omega arith)
