-- The walk 1, W(1), W(W(1)), .. as a list that grows at its end, and the next number.
use Rattle.std.proofs.Common.{◌≡◌, ℕ, zero, suc, ◌+◌, ◌<◌, ◌≤◌, inl, inr, List, [], ◌∷◌, ◌++◌}
use Rattle.std.proofs.Common.{length, map, get_or, add-one, refl, ap, ap₂, sym, ◌∙◌, arith}
use Rattle.std.specs.List.{range_with_len}
use Rattle.std.proofs.lemmas.Bool.{cases_eq, cases_lt}
use Rattle.std.proofs.lemmas.List.FromFn.{length-map-range_with_len, get_or-map-range_with_len}
use Rattle.std.proofs.lemmas.List.FromFn.{map-range_with_len_more}
use Rattle.task_sheet.specs.Responses.{ChainFrom, IsFullChain, FullFrom, iterate, IsTrail}
use Rattle.task_sheet.proofs.ResponseLaws.{DoesNotFall}

module _ (W : ℕ → ℕ) where
  -- so many iterates, from the one at a place on
  abbrev pub iterates : ℕ → ℕ → List ℕ
  iterates k n = map (iterate W) (range_with_len k n)

  -- up to the first number past the limit they are a full chain
  chain_of : (limit end : ℕ)
      → ((j : ℕ) → j < end → (iterate W j ≤ limit) × (iterate W j < iterate W (suc j)))
      → limit < iterate W end → (n k : ℕ) → k + n ≡ end
      → ChainFrom W limit (iterate W k) (iterates (suc k) n)
      × FullFrom W (iterate W k) (iterates (suc k) n)
  chain_of limit end up past zero k e =
      let last : k ≡ end = omega arith in (rw last past, tt)
  chain_of limit end up past (suc n) k e =
      let here = up k (omega arith) in
      let rest = chain_of limit end up past n (suc k) (omega arith) in
      rw (add-one (suc k)) ((here.0, here.1, omega arith, rest.0), (refl, rest.1))

  -- the numbers so far, which rise within the limit, and the next one
  pub record IsWalk (limit : ℕ) (numbers : List ℕ) (t : ℕ) : Type 0 where
    pub count : ℕ
    pub are : numbers ≡ iterates 0 count
    pub next : t ≡ iterate W count
    pub rises : (k : ℕ) → k < count → iterate W k < iterate W (suc k)
    pub within : (k : ℕ) → k < count → iterate W k ≤ limit

  pub walk_start : (limit : ℕ) → IsWalk limit [] 1
  walk_start limit = record {
    count = 0;
    are = refl;
    next = refl;
    rises = λ k lt. absurd (omega arith);
    within = λ k lt. absurd (omega arith);
  }

  -- where each later iterate within the limit is one of the first n, these are a trail
  trail_of : (limit n : ℕ) → ((k : ℕ) → k + 1 < n → iterate W k < iterate W (suc k))
      → ((k : ℕ) → k < n → iterate W k ≤ limit)
      → ((k : ℕ) → n ≤ k → iterate W k ≤ limit → (j : ℕ) × (j < n) × (iterate W j ≡ iterate W k))
      → IsTrail W limit (iterates 0 n)
  trail_of limit n rises within later =
      let long = length-map-range_with_len (iterate W) 0 n in
      let at : (k d : ℕ) → k < n → get_or (iterates 0 n) k d ≡ iterate W k =
      λ k d lt. get_or-map-range_with_len (iterate W) 0 n k k d lt (omega arith) in
      record {
        rises = λ k lt. omega (
          arith,
          rises k (omega arith),
          at k 0 (omega arith),
          at (k + 1) 0 (omega arith) ∙ ap (iterate W) (add-one k),
        );
        all = λ x. (
          λ has.
              let same = sym (at has.0 x (omega (arith, has.1))) ∙ has.2 in
              (omega (arith, within has.0 (omega (arith, has.1)), same), (has.0, same)),
          λ is. elim (cases_lt is.1.0 n) [
            | inl lt ↦ (is.1.0, omega arith, at is.1.0 x lt ∙ is.1.1)
            | inr far ↦
                let first = later is.1.0 far (omega (arith, is.0, is.1.1)) in
                (first.0, omega (arith, first.1), at first.0 x first.1 ∙ first.2 ∙ is.1.1)
          ],
        );
      }

  module _ (limit : ℕ) (numbers : List ℕ) (t : ℕ) (walk : IsWalk limit numbers t) where
    pushed : numbers ++ t ∷ [] ≡ iterates 0 (suc walk.count)
    pushed = ap₂ (λ ns n. ns ++ n ∷ []) walk.are walk.next
        ∙ sym (map-range_with_len_more (iterate W) 0 walk.count walk.count (omega arith))
        ∙ ap (iterates 0) (add-one walk.count)

    pub walk-count : (length numbers ≡ walk.count) × (length (numbers ++ t ∷ []) ≡ walk.count + 1)
    walk-count = (
      ap length walk.are ∙ length-map-range_with_len (iterate W) 0 walk.count,
      ap length pushed
          ∙ omega (arith, length-map-range_with_len (iterate W) 0 (suc walk.count)),
    )

    pub walk-within : t ≤ limit → (k : ℕ) → k < walk.count + 1 → iterate W k ≤ limit
    walk-within le k lt = elim (cases_eq k walk.count) [
      | inl e ↦ rw e (omega (arith, walk.next))
      | inr ne ↦ walk.within k (omega arith)
    ]

    pub walk_next : (next : ℕ) → next ≡ W t → t < next → t ≤ limit
        → IsWalk limit (numbers ++ t ∷ []) next
    walk_next next is more le = record {
      count = suc walk.count;
      are = pushed;
      next = is ∙ ap W walk.next;
      rises = λ k lt. elim (cases_eq k walk.count) [
        | inl e ↦ rw e (omega (arith, walk.next, is ∙ ap W walk.next))
        | inr ne ↦ walk.rises k (omega arith)
      ];
      within = λ k lt. walk-within le k (omega arith);
    }

    module _ (steady : DoesNotFall W) where
      iterate-rises : (k : ℕ) → iterate W k ≤ iterate W (suc k)
      iterate-rises zero = steady.positive 1
      iterate-rises (suc k) = steady.rises _ _ (iterate-rises k)

      pub next_is_no_less : t ≤ W t
      next_is_no_less = omega (arith, iterate-rises walk.count, walk.next, ap W walk.next)

      iterate-mono : (n k : ℕ) → n ≤ k → iterate W n ≤ iterate W k
      iterate-mono n k le = elim (cases_eq n k) [
        | inl e ↦ rw e (omega arith)
        | inr ne ↦ further k (omega arith)
      ]
        where
          further : (k : ℕ) → n < k → iterate W n ≤ iterate W k
          further zero lt = absurd (omega arith)
          further (suc k) lt = elim (cases_eq n k) [
            | inl e ↦ rw e (iterate-rises k)
            | inr ne ↦ omega (arith, further k (omega arith), iterate-rises k)
          ]

      stays : W t ≡ t → (k : ℕ) → walk.count ≤ k → t ≡ iterate W k
      stays fixed zero le = let e : walk.count ≡ 0 = omega arith in walk.next ∙ ap (iterate W) e
      stays fixed (suc k) le = elim (cases_eq walk.count (suc k)) [
        | inl e ↦ walk.next ∙ ap (iterate W) e
        | inr ne ↦ sym fixed ∙ ap W (stays fixed k (omega arith))
      ]

      pub walk_passes : W t ≡ t → t ≤ limit → IsTrail W limit (numbers ++ t ∷ [])
      walk_passes fixed le = rw pushed (trail_of limit (suc walk.count)
          (λ k lt. walk.rises k (omega arith)) (λ k lt. walk-within le k (omega arith))
          (λ k far _. (walk.count, omega arith, sym walk.next ∙ stays fixed k (omega arith))))

      pub walk_fails : limit < t → IsFullChain W limit (numbers ++ t ∷ []) × IsTrail W limit numbers
      walk_fails past =
          let chain = chain_of limit walk.count (λ k lt. (walk.within k lt, walk.rises k lt))
          (omega (arith, walk.next)) walk.count 0 (omega arith) in (
            rw pushed (record { chain = (refl, chain.0); full = chain.1 }),
            rw walk.are (trail_of limit walk.count (λ k lt. walk.rises k (omega arith)) walk.within
                (λ k far le. absurd (omega (arith, iterate-mono walk.count k far, walk.next)))),
          )
