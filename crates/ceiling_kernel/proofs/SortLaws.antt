-- Sorted by time and place, the releases of a list stand in the order of their turns.
use Rattle.std.proofs.Common.{ℕ, zero, suc, ◌+◌, ◌-◌, ◌<◌, ◌≤◌, ◌≡◌, ◌≢◌, ◌⊎◌, inl, inr, refl, sym}
use Rattle.std.proofs.Common.{ap, ◌∙◌, subst, arith, List, [], ◌∷◌, ◌++◌, length, take, get_or}
use Rattle.std.proofs.Common.{Bool, true, false, ◌==◌, slice_index_or}
use Rattle.std.proofs.lemmas.Bool.{cases_eq, cases_lt, true≢false, eq-eqb, ne_eqb, lt-ltb, le-ltb}
use Rattle.std.proofs.lemmas.List.{take_more, length-take, get_or_default}
use Rattle.std.specs.List.{AllByRecursion, All}
use Rattle.std.specs.List.Sorted.{IsPermutation, IsSorted}
use Rattle.std.specs.Ordering.{nat_cmp, ordering_then, is_lt}
use Rattle.std.proofs.lemmas.List.Elements.{All-from_recursion, All-get_or}
use Rattle.std.proofs.lemmas.List.Sorted.{All-permutation, Contains-permutation}
use Rattle.task_sheet.proofs.Common.{Task, AreDistinct}
use Rattle.task_sheet.proofs.Distinct.{AreDistinct-permutation}
use Rattle.ceiling_kernel.specs.declared.trace.Release.{Release}
use Rattle.ceiling_kernel.specs.Tick.{job_at}
use Rattle.ceiling_kernel.specs.Releases.{ready_of, jobs_of, release_at}
use Rattle.ceiling_kernel.specs.Turns.{no_turn, time_in_turn, job_in_turn, AreTurns}
use Rattle.ceiling_kernel.proofs.ReleaseLaws.{job_is, jobs_length}

-- the turns of releases, of which the first stands at a place, in the list's order
abbrev pub listed_turns : ℕ → List Release → List (ℕ × ℕ)
listed_turns k [] = []
listed_turns k (r ∷ rs) = (ready_of r, k) ∷ listed_turns (k + 1) rs

listed-more : (k : ℕ) (rs : List Release) (r : Release)
    → listed_turns k (rs ++ r ∷ []) ≡ listed_turns k rs ++ (ready_of r, k + length rs) ∷ []
listed-more k [] r = (let e : k + 0 ≡ k = omega arith in ap (λ n. (ready_of r, n) ∷ []) (sym e))
listed-more k (s ∷ rs) r =
    let e : k + 1 + length rs ≡ k + suc (length rs) = omega arith in
    ap (λ x. (ready_of s, k) ∷ x)
    (listed-more (k + 1) rs r ∙ ap (λ n. listed_turns (k + 1) rs ++ (ready_of r, n) ∷ []) e)

pub listed-next : (rs : List Release) (k : ℕ) (r : Release) → k < length rs → listed_turns 0
    (take (k + 1) rs) ≡ listed_turns 0 (take k rs) ++ (ready_of (get_or rs k r), k) ∷ []
listed-next rs k r lt =
    let n : 0 + length (take k rs) ≡ k = omega (arith, length-take k rs) in
    ap (listed_turns 0) (take_more rs k r lt)
    ∙ (listed-more 0 (take k rs) (get_or rs k r)
    ∙ ap (λ m. listed_turns 0 (take k rs) ++ (ready_of (get_or rs k r), m) ∷ []) n)

listed-length : (k : ℕ) (rs : List Release) → length (listed_turns k rs) ≡ length rs
listed-length k [] = refl
listed-length k (r ∷ rs) = ap suc (listed-length (k + 1) rs)

listed-at : (k : ℕ) (rs : List Release) (j : ℕ) (d : ℕ × ℕ) → j < length rs
    → slice_index_or (listed_turns k rs) j d ≡ (ready_of (release_at rs j), k + j)
listed-at k [] j d lt = absurd (omega arith)
listed-at k (r ∷ rs) zero d lt =
    (let e : k + 0 ≡ k = omega arith in ap (λ n. (ready_of r, n)) (sym e))
listed-at k (r ∷ rs) (suc j) d lt = (let e : k + 1 + j ≡ k + suc j = omega arith in
    listed-at (k + 1) rs j d (omega arith) ∙ ap (λ n. (ready_of (release_at rs j), n)) e)

-- the turn of a release of the list
abbrev IsTurnIn : List Release → ℕ × ℕ → Type 0
IsTurnIn rs p = (p.1 < length rs) × (p.0 ≡ ready_of (release_at rs p.1))

-- ---- distinct places
abbrev same_place : ℕ × ℕ → ℕ × ℕ → Bool
same_place x y = x.1 == y.1

same_turned : (x y : ℕ × ℕ) → same_place x y ≡ same_place y x
same_turned x y = elim (cases_eq x.1 y.1) [
  | inl e ↦ eq-eqb x.1 y.1 e ∙ sym (eq-eqb y.1 x.1 (sym e))
  | inr ne ↦ ne_eqb x.1 y.1 ne ∙ sym (ne_eqb y.1 x.1 (λ e. ne (sym e)))
]

later_differ : (k m t : ℕ) (rs : List Release) → k < m
    → AllByRecursion (λ y. same_place (t, k) y ≡ false) (listed_turns m rs)
later_differ k m t [] lt = tt
later_differ k m t (r ∷ rs) lt =
    (ne_eqb k m (λ e. omega arith), later_differ k (m + 1) t rs (omega arith))

listed-distinct : (k : ℕ) (rs : List Release) → AreDistinct same_place (listed_turns k rs)
listed-distinct k [] = tt
listed-distinct k (r ∷ rs) =
    (later_differ k (k + 1) (ready_of r) rs (omega arith), listed-distinct (k + 1) rs)

all_at : (P : ℕ × ℕ → Type 0) (xs : List (ℕ × ℕ)) (n : ℕ) (d : ℕ × ℕ) → AllByRecursion P xs
    → n < length xs → P (slice_index_or xs n d)
all_at P [] n d h lt = absurd (omega arith)
all_at P (x ∷ xs) zero d h lt = h.0
all_at P (x ∷ xs) (suc n) d h lt = all_at P xs n d h.1 (omega arith)

places_differ : (xs : List (ℕ × ℕ)) (m n : ℕ) (d : ℕ × ℕ) → AreDistinct same_place xs → m < n
    → n < length xs → same_place (slice_index_or xs m d) (slice_index_or xs n d) ≡ false
places_differ [] m n d h mn lt = absurd (omega arith)
places_differ (x ∷ xs) zero zero d h mn lt = absurd (omega arith)
places_differ (x ∷ xs) zero (suc n) d h mn lt =
    all_at (λ y. same_place x y ≡ false) xs n d h.0 (omega arith)
places_differ (x ∷ xs) (suc m) zero d h mn lt = absurd (omega arith)
places_differ (x ∷ xs) (suc m) (suc n) d h mn lt =
    places_differ xs m n d h.1 (omega arith) (omega arith)

-- ---- the order
-- a turn is not after another
abbrev NotAfter : ℕ × ℕ → ℕ × ℕ → Type 0
NotAfter p q = (p.0 < q.0) ⊎ ((p.0 ≡ q.0) × (p.1 ≤ q.1))

not_after : (p q : ℕ × ℕ) → is_lt (ordering_then (nat_cmp q.0 p.0) (nat_cmp q.1 p.1)) ≡ false
    → NotAfter p q
not_after p q h =
    elim (cases_lt q.0 p.0) [
      | inl less ↦ (let f : true ≡ false =
          rw (lt-ltb q.0 p.0 less) at h in absurd (true≢false f))
      | inr more ↦ elim (cases_eq q.0 p.0) [
        | inr differ ↦ inl (omega arith)
        | inl same ↦
            elim (cases_lt q.1 p.1) [
              | inl below ↦ (let g : true ≡ false = rw (
                le-ltb q.0 p.0 more,
                eq-eqb q.0 p.0 same,
                lt-ltb q.1 p.1 below,
              ) at h in absurd (true≢false g))
              | inr above ↦ inr (sym same, above)
            ]
      ]
    ]

not_after_trans : (p q r : ℕ × ℕ) → NotAfter p q → NotAfter q r → NotAfter p r
not_after_trans p q r a b =
    elim a [
      | inl less ↦ elim b [ inl also ↦ inl (omega arith) | inr tied ↦ inl (omega (arith, tied.0)) ]
      | inr tied ↦ elim b [
        | inl less ↦ inl (omega (arith, tied.0))
        | inr also ↦ inr (tied.0 ∙ also.0, omega (arith, tied.1, also.1))
      ]
    ]

in_order : (ys : List (ℕ × ℕ))
    → IsSorted (λ x y. ordering_then (nat_cmp x.0 y.0) (nat_cmp x.1 y.1)) ys → (m d : ℕ) (e : ℕ × ℕ)
    → m + d < length ys → NotAfter (slice_index_or ys m e) (slice_index_or ys (m + d) e)
in_order ys up m zero e lt = (let z : m ≡ m + 0 = omega arith in subst (λ n. NotAfter
    (slice_index_or ys m e) (slice_index_or ys n e)) z (inr (refl, omega arith)))
in_order ys up m (suc d) e lt =
    let before = in_order ys up m d e (omega arith) in
    let step = not_after (slice_index_or ys (m + d) e) (slice_index_or ys (m + d + 1) e)
    (up (m + d) e (omega arith) (omega arith)) in
    let z : m + d + 1 ≡ m + suc d = omega arith in
    subst (λ n. NotAfter (slice_index_or ys m e) (slice_index_or ys n e)) z
    (not_after_trans (slice_index_or ys m e) (slice_index_or ys (m + d) e)
    (slice_index_or ys (m + d + 1) e) before step)

-- ---- the turns
module _ (U : List Task) (rs : List Release) (ys : List (ℕ × ℕ))
    (moved : IsPermutation (listed_turns 0 rs) ys)
    (up : IsSorted (λ x y. ordering_then (nat_cmp x.0 y.0) (nat_cmp x.1 y.1)) ys) where
  each_in : (k : ℕ) (ss : List Release)
      → ((j : ℕ) → j < length ss → (k + j < length rs) × (release_at rs (k + j) ≡ release_at ss j))
      → AllByRecursion (IsTurnIn rs) (listed_turns k ss)
  each_in k [] at = tt
  each_in k (s ∷ ss) at =
      let here : (k + 0 < length rs) × (release_at rs (k + 0) ≡ s) = at 0 (omega arith) in
      let z : k + 0 ≡ k = omega arith in
      let one = subst (λ n. (n < length rs) × (release_at rs n ≡ s)) z here in (
        (one.0, ap ready_of (sym one.1)),
        each_in (k + 1) ss
            (λ j lt. (let e : k + suc j ≡ k + 1 + j = omega arith in subst (λ n. (n < length rs)
            × (release_at rs n ≡ release_at ss j)) e (at (suc j) (omega arith)))),
      )

  all_in : All (IsTurnIn rs) ys
  all_in =
      All-permutation (IsTurnIn rs) (listed_turns 0 rs) ys moved
      (All-from_recursion (IsTurnIn rs) (listed_turns 0 rs)
      (each_in 0 rs (λ j lt. (let e : j ≡ 0 + j = omega arith in
      subst (λ n. (n < length rs) × (release_at rs n ≡ release_at rs j)) e (lt, refl)))))

  turn_in : (n : ℕ) → n < length ys → IsTurnIn rs (slice_index_or ys n no_turn)
  turn_in n lt = All-get_or (IsTurnIn rs) ys n no_turn lt all_in

  timed_in : (n : ℕ) → n < length ys
      → time_in_turn ys n ≡ (job_at (jobs_of U rs) (job_in_turn ys n)).ready
  timed_in n lt =
      let t : IsTurnIn rs (slice_index_or ys n no_turn) = turn_in n lt in
      t.1 ∙ sym (ap (λ x. x.ready) (job_is U rs (job_in_turn ys n) t.0))

  pub are_turns : AreTurns (jobs_of U rs) ys
  are_turns = record {
    known = λ n lt.
        let t : IsTurnIn rs (slice_index_or ys n no_turn) = turn_in n lt in
        let l : length (jobs_of U rs) ≡ length rs = jobs_length U rs in
        omega (arith, t.0);
    timed = timed_in;
    ordered = λ m n mn lt.
        let to : m + (n - m) ≡ n = omega arith in
        let far = in_order ys up m (n - m) no_turn (omega arith) in
        let far' = subst (λ k. NotAfter (slice_index_or ys m no_turn) (slice_index_or ys k no_turn))
        to far in
        let apart = places_differ ys m n no_turn (AreDistinct-permutation same_place
        same_turned (listed_turns 0 rs) ys moved (listed-distinct 0 rs))
        mn lt in
        let tm = timed_in m (omega arith) in
        let tn = timed_in n lt in
        elim far' [
          | inl less ↦ inl (omega arith)
          | inr tied ↦
              let differ : job_in_turn ys m ≢ job_in_turn ys n = λ same. true≢false
              (sym (eq-eqb (job_in_turn ys m) (job_in_turn ys n) same) ∙ apart) in
              inr (sym tm ∙ (tied.0 ∙ tn), omega (arith, tied.1, differ))
        ];
    complete = λ j lt.
        let l : length (jobs_of U rs) ≡ length rs = jobs_length U rs in
        let lt' : j < length rs = omega arith in
        let n : length (listed_turns 0 rs) ≡ length rs = listed-length 0 rs in
        let there = Contains-permutation (listed_turns 0 rs) ys (ready_of (release_at rs j), 0 + j)
        moved (j, omega arith, listed-at 0 rs j (ready_of (release_at rs j), 0 + j) lt') in
        let at = get_or_default ys there.0 no_turn (ready_of (release_at rs j), 0 + j) there.1 ∙
        there.2 in
        let z : 0 + j ≡ j = omega arith in
        (there.0, there.1, ap (λ x. x.1) at ∙ z);
  }
