-- Orders in which a task of a minimal conflict stands just below the others of it.
use Rattle.std.proofs.Common.{◌≡◌, ℕ, zero, suc, ◌<◌, ◌≤◌, ◌⊎◌, inl, inr, true, false, ◌==◌, List}
use Rattle.std.proofs.Common.{[], ◌∷◌, length, refl, sym, ◌∙◌, ap, subst, arith}
use Rattle.std.proofs.Math.Path.{fun_ext}
use Rattle.std.proofs.lemmas.Bool.{cases_Bool, cases_eq, true≢false, eq-eqb, ne_eqb, ltb-true}
use Rattle.std.proofs.lemmas.Bool.{lt-ltb, eqb-true, or_cases, or_left, or_right}
use Rattle.task_sheet.proofs.Common.{Task, IsTaskSet, Indexes, IsPart, below, among, with_index}
use Rattle.task_sheet.proofs.Common.{without_index, IsOrderOf, Stands, AllStand}
use Rattle.task_sheet.proofs.Common.{IsObstruction, Passes}
use Rattle.task_sheet.proofs.IndexLaws.{same_parts, without-parts, without-part_of, without-fewer}
use Rattle.task_sheet.proofs.IndexLaws.{count_below, IsOrderOf-among, IsOrderOf-cons}
use Rattle.task_sheet.proofs.Deciding.{NoneBelow, find_chosen}
use Rattle.ceiling_kernel.proofs.Common.{node_in, IsNode, above_of, after_of}
use Rattle.ceiling_kernel.proofs.NodeLaws.{after_is_above}
use Rattle.explain.specs.Conflict.{HoldsObstruction}
use Rattle.explain.proofs.ConflictLaws.{none_spared}
use Rattle.miss.specs.Misses.{ConflictHasOrders}

-- an order of some tasks in which each may stand below those after it
abbrev Ordered : List Task → Indexes → Type 0
Ordered U L = (order : List ℕ) × IsOrderOf L order × AllStand U order

none_or_some : (n : ℕ) (L : Indexes) → ((k : ℕ) × (L k ≡ true)) ⊎ ((k : ℕ) → k < n → L k ≡ false)
none_or_some zero L = inr (λ k lt. absurd (omega arith))
none_or_some (suc n) L =
    elim (cases_Bool (L n)) [
      | inl on ↦ inl (n, on)
      | inr off ↦ elim (none_or_some n L) [
        | inl some ↦ inl some
        | inr none ↦ inr (λ k lt. elim (cases_eq k n) [
          | inl e ↦ ap L e ∙ off
          | inr ne ↦ none k (omega arith)
        ])
      ]
    ]

module _ (U : List Task) where
  empty_order : (L : Indexes) → IsPart L (below (length U)) → ((k : ℕ) → k < length U → L k ≡ false)
      → IsOrderOf L []
  empty_order L part none k =
      let off : L k ≡ false = elim (cases_Bool (L k)) [
        | inr f ↦ f
        | inl t ↦ none k (ltb-true k (length U) (part k t))
      ] in
      rw off refl

  stuck : (L : Indexes) → IsPart L (below (length U)) → NoneBelow U L (length U) → (k : ℕ)
      → L k ≡ true → IsObstruction U L
  unfolding NoneBelow
  stuck L part none k on = record {
    within = part;
    some = (k, on);
    stuck = λ i is. none i (ltb-true i (length U) (part i is)) is;
  }

  -- tasks that hold no obstruction have an order
  order_within : (fuel : ℕ) (L : Indexes) → IsPart L (below (length U))
      → count_below (length U) L < fuel → (HoldsObstruction U L → ⊥) → Ordered U L
  order_within zero L part few free = absurd (omega (arith, few))
  order_within (suc fuel) L part few free =
      elim (find_chosen U L (length U)) [
        | inr none ↦ elim (none_or_some (length U) L) [
          | inl some ↦ absurd (free (L, stuck L part none some.0 some.1, λ k on. on))
          | inr off ↦ ([], empty_order L part off, tt)
        ]
        | inl found ↦
            let i : ℕ = found.0 in
            let chosen = found.2 in
            let fewer = without-fewer (length U) L i found.1 chosen.member in
            let rest : Ordered U (without_index L i) = order_within fuel (without_index L i)
            (without-part_of (length U) L i part) (omega arith)
            (λ held. free (held.0, held.1, λ k h. (without-parts L i k (held.2 k h)).0)) in
            let same = IsOrderOf-among (without_index L i) rest.0 rest.1 in (
              i ∷ rest.0,
              IsOrderOf-cons L i rest.0 chosen.member rest.1,
              (subst (λ H. Stands U i H) (sym same) chosen.stands, rest.2),
            )
      ]

  -- each task of an order may stand below those after it
  stands_at : (order : List ℕ) (h : ℕ) → among order h ≡ true → AllStand U order
      → Stands U h (among (after_of order h))
  stands_at [] h on all = absurd (true≢false (sym on))
  stands_at (x ∷ order) h on all =
      elim (cases_Bool (x == h)) [
        | inl here ↦ rw here (subst (λ k. Stands U k (among order)) (eqb-true x h here) all.0)
        | inr not ↦ elim (or_cases (x == h) (among order h) on) [
          | inl t ↦ absurd (true≢false (sym t ∙ not))
          | inr later ↦ rw not (stands_at order h later all.1)
        ]
      ]

-- ---- the other tasks stand below
-- the members of M, and the tasks below n
abbrev with_below : Indexes → ℕ → Indexes
with_below M zero = M
with_below M (suc n) = with_index (with_below M n) n

-- an order of these that ends with one of M
pub record IsFilled (M : Indexes) (top : List ℕ) (L : Indexes) (order : List ℕ) : Type 0 where
  pub named : IsOrderOf L order
  pub ends : (h : ℕ) → M h ≡ true → after_of order h ≡ after_of top h

with-there : (L : Indexes) (n : ℕ) → L n ≡ true → with_index L n ≡ L
with-there L n on = fun_ext (λ k. elim (cases_eq k n) [
  | inl e ↦ (let t = eq-eqb k n e in let on' = ap L e ∙ on in
      rw (t, on') refl)
  | inr ne ↦ (let f = ne_eqb k n ne in rw f refl)
])

without-added : (L : Indexes) (n : ℕ) → L n ≡ false → without_index (with_index L n) n ≡ L
without-added L n off = fun_ext (λ k. elim (cases_eq k n) [
  | inl e ↦ (let t = eq-eqb k n e in let off' = ap L e ∙ off in
      rw (t, off') refl)
  | inr ne ↦ (let f = ne_eqb k n ne in
      elim (cases_Bool (L k)) [ inl t ↦ rw (f, t) refl | inr u ↦ rw (f, u) refl ])
])

below-more : (M : Indexes) (n k : ℕ) → M k ≡ true → with_below M n k ≡ true
below-more M zero k on = on
below-more M (suc n) k on = (let ih = below-more M n k on in
    elim (cases_Bool (k == n)) [ inl t ↦ rw t refl | inr f ↦ rw (f, ih) refl ])

fill : (M : Indexes) (top : List ℕ) → IsOrderOf M top → (n : ℕ) → (order : List ℕ)
    × IsFilled M top (with_below M n) order
fill M top is zero = (top, record { named = is; ends = λ h on. refl })
fill M top is (suc n) =
    let before : (order : List ℕ) × IsFilled M top (with_below M n) order = fill M top is n in
    let f = before.1 in
    elim (cases_Bool (with_below M n n)) [
      | inl on ↦ (
        before.0,
        record {
          named = subst (λ L. IsOrderOf L before.0)
              (sym (with-there (with_below M n) n on)) f.named;
          ends = f.ends;
        },
      )
      | inr off ↦
          let at : with_index (with_below M n) n n ≡ true =
          (let t = eq-eqb n n refl in rw t refl) in
          let added = IsOrderOf-cons
          (with_index (with_below M n) n) n before.0 at (subst (λ L. IsOrderOf L before.0)
          (sym (without-added (with_below M n) n off)) f.named) in
          let kept : (h : ℕ) → M h ≡ true → after_of (n ∷ before.0) h ≡ after_of top h = λ h on.
          let ne = ne_eqb n h
          (λ e. true≢false (sym (below-more M n h on) ∙ (ap (with_below M n) (sym e) ∙ off))) in
          rw ne (f.ends h on) in
          (n ∷ before.0, record { named = added; ends = kept })
    ]

below-within : (M : Indexes) (n m : ℕ) → IsPart M (below n) → m ≤ n
    → IsPart (with_below M m) (below n)
below-within M n zero part le k h = part k h
below-within M n (suc m) part le k h =
    elim (or_cases (k == m) (with_below M m k) h) [
      | inl same ↦ lt-ltb k n (let e = eqb-true k m same in omega arith)
      | inr before ↦ below-within M n m part (omega arith) k before
    ]

below-each : (M : Indexes) (m k : ℕ) → k < m → with_below M m k ≡ true
below-each M zero k lt = absurd (omega arith)
below-each M (suc m) k lt =
    elim (cases_eq k m) [
      | inl e ↦ or_left (k == m) (with_below M m k) (eq-eqb k m e)
      | inr ne ↦ or_right (k == m) (with_below M m k) (below-each M m k (omega arith))
    ]

below-all : (M : Indexes) (n : ℕ) → IsPart M (below n) → with_below M n ≡ below n
below-all M n part = same_parts (with_below M n) (below n) (below-within M n n part (omega arith))
    (λ k h. below-each M n k (ltb-true k n h))

pub conflict_law : (U : List Task) → IsTaskSet U → ConflictHasOrders U
conflict_law U set C i least on =
    let within : IsPart C (below (length U)) =
    (let o = least.obstruction in o.within) in
    let L : Indexes = without_index C i in
    let free : HoldsObstruction U L → ⊥ = none_spared U C i least on in
    let above : Ordered U L = order_within U (suc (count_below (length U) L)) L
    (without-part_of (length U) C i within) (omega arith) free in
    let top : List ℕ = i ∷ above.0 in
    let named = IsOrderOf-cons C i above.0 on above.1 in
    let filled : (order : List ℕ) × IsFilled C top (with_below C (length U)) order =
    fill C top named (length U) in
    let f = filled.1 in
    let order : List ℕ = filled.0 in
    let is = subst (λ X. IsOrderOf X order) (below-all C (length U) within) f.named in
    let ok : IsNode (node_in U order) = record { tasks = set; order = is } in
    let members = IsOrderOf-among L above.0 above.1 in
    let self = eq-eqb i i refl in
    let first : after_of top i ≡ above.0 = rw self refl in (
      order,
      is,
      ap among (f.ends i on ∙ first) ∙ members,
      λ h in_L.
          let p : (C h ≡ true) × (h ≡ i → ⊥) = without-parts C i h in_L in
          let lt = ltb-true h (length U) (within h p.0) in
          let ne = ne_eqb i h (λ e. p.1 (sym e)) in
          let later : after_of top h ≡ after_of above.0 h = rw ne refl in
          let there = ap (λ (H : Indexes). H h) members ∙ in_L in
          let stands : Stands U h (among (after_of above.0 h)) =
          stands_at U above.0 h there above.2 in
          let same : among (after_of order h) ≡ above_of (node_in U order) h =
          λ x k. after_is_above (node_in U order) ok h k lt x in
          let passes : Passes U h (among (after_of above.0 h)) = stands.0 in
          let passes' : Passes U h (among (after_of order h)) =
          subst (λ xs. Passes U h (among xs)) (sym (f.ends h p.0 ∙ later)) passes in
          subst (λ H. Passes U h H) same passes',
    )
