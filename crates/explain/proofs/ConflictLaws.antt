-- Greatest obstructions within some tasks, and what is left where the tasks are gone through one by one.
use Rattle.std.proofs.Common.{◌≡◌, ℕ, zero, suc, ◌+◌, ◌<◌, ◌≤◌, ◌⊎◌, inl, inr, true, false, List}
use Rattle.std.proofs.Common.{length, refl, sym, ◌∙◌, subst, arith}
use Rattle.std.specs.Ordering.{nat_cmp}
use Rattle.std.specs.FinSet as members
use Rattle.std.proofs.lemmas.Bool.{cases_Bool, cases_eq, both_ways, ltb-true}
use Rattle.task_sheet.proofs.Common.{Task, AllTasks, Indexes, indexes_of, IsPart, without_index}
use Rattle.task_sheet.proofs.Common.{all_of, Stands, NoneStands, IsObstruction}
use Rattle.task_sheet.proofs.IndexLaws.{same_parts, without-member, without-parts, without-part}
use Rattle.task_sheet.proofs.IndexLaws.{without-part_of, count_below, without-fewer}
use Rattle.task_sheet.proofs.Below.{find_below}
use Rattle.task_sheet.proofs.Deciding.{NoneBelow, find_chosen}
use Rattle.task_sheet.proofs.MembersIndexes.{indexes_of-remove, member_of-len}
use Rattle.task_sheet.proofs.PassingLaws.{Stands-part}
use Rattle.explain.specs.Conflict.{HoldsObstruction, IsGreatestWithin, IsLeastConflict}
use Rattle.explain.specs.Conflict.{IsGoneThrough, IsLeftOf}

-- what is left of L holds each obstruction within L
pub record IsPeeled (U : List Task) (L left : Indexes) : Type 0 where
  pub part : IsPart left L
  pub holds : (S : Indexes) → IsObstruction U S → IsPart S L → IsPart S left

pub IsPeeled-start : (U : List Task) (L : Indexes) → IsPeeled U L L
IsPeeled-start U L = record { part = λ k h. h; holds = λ S o part. part }

IsPeeled-less : (U : List Task) (L left : Indexes) (i : ℕ) → AllTasks U → IsPeeled U L left
    → Stands U i (without_index left i) → IsPeeled U L (without_index left i)
IsPeeled-less U L left i valid so stands = record {
  part = λ k h. so.part k (without-parts left i k h).0;
  holds = λ S o part k h. without-member left i k (so.holds S o part k h) (λ e.
      o.stuck i (rw e at h)
      (Stands-part U valid i _ _ (without-part S left i (so.holds S o part)) stands));
}

pub IsPeeled-remove : (U : List Task) (L : Indexes) (left left' : members.FinSet nat_cmp) (i : ℕ)
    → AllTasks U → IsPeeled U L (indexes_of left) → left' ≡ members.remove left i
    → Stands U i (without_index (indexes_of left) i) → IsPeeled U L (indexes_of left')
IsPeeled-remove U L left left' i valid so removed stands =
    rw (removed, indexes_of-remove left i)
    (IsPeeled-less U L (indexes_of left) i valid so stands)

pub IsPeeled-stuck : (U : List Task) (L left : Indexes) (k : ℕ) → IsPart L (all_of U)
    → IsPeeled U L left → left k ≡ true → NoneStands U left → IsGreatestWithin U L left
IsPeeled-stuck U L left k part so some stuck = record {
  obstruction = record { within = λ j h. part j (so.part j h); some = (k, some); stuck = stuck };
  within = so.part;
  greatest = so.holds;
}

pub IsPeeled-none : (U : List Task) (L left : Indexes) → IsPeeled U L left
    → ((k : ℕ) → left k ≡ false) → ¬ HoldsObstruction U L
IsPeeled-none U L left so none held =
    let S : Indexes = held.0 in
    let k : ℕ = held.1.some.0 in
    both_ways (left k) (none k) (so.holds S held.1 held.2 k held.1.some.1)

pub IsPeeled-some : (U : List Task) (L : Indexes) (left : members.FinSet nat_cmp)
    → IsPart L (all_of U) → IsPeeled U L (indexes_of left) → ¬ (left ≡ members.empty)
    → NoneStands U (indexes_of left) → IsGreatestWithin U L (indexes_of left)
IsPeeled-some U L left whole so some stuck = elim (cases_eq (members.len left) 0) [
  | inl none ↦ absurd (some (members.empty_of_len left none))
  | inr ne ↦
      let member = member_of-len left (length U) (λ k h. whole k (so.part k h)) (omega arith) in
      IsPeeled-stuck U L (indexes_of left) member.0 whole so member.2 stuck
]

-- ---- what is left
-- an obstruction within S, of which none of the tasks below n can be spared
pub record IsThin (U : List Task) (S : Indexes) (n : ℕ) (M : Indexes) : Type 0 where
  pub obstruction : IsObstruction U M
  pub part : IsPart M S
  pub spared : (j : ℕ) → j < n → M j ≡ true → ¬ HoldsObstruction U (without_index M j)

IsThin-replaced : (U : List Task) (S L M : Indexes) (n : ℕ) → IsThin U S n L
    → IsGreatestWithin U (without_index L n) M → IsThin U S (suc n) M
IsThin-replaced U S L M n thin g =
    let within : IsPart M L = λ k h. (without-parts L n k (g.within k h)).0 in
    record {
      obstruction = g.obstruction;
      part = λ k h. thin.part k (within k h);
      spared = λ j lt member held. elim (cases_eq j n) [
        | inl e ↦ (without-parts L n j (g.within j member)).1 e
        | inr ne ↦ thin.spared j (omega arith) (within j member)
            (held.0, held.1, λ k h. without-part M L j within k (held.2 k h))
      ];
    }

IsThin-stays : (U : List Task) (S L : Indexes) (n : ℕ) → IsThin U S n L
    → (L n ≡ true → ¬ HoldsObstruction U (without_index L n)) → IsThin U S (suc n) L
IsThin-stays U S L n thin none = record {
  obstruction = thin.obstruction;
  part = thin.part;
  spared = λ j lt member. elim (cases_eq j n) [
    | inl e ↦ rw e (none (rw e at member))
    | inr ne ↦ thin.spared j (omega arith) member
  ];
}

pub IsThin-left : (U : List Task) (S : Indexes) (n : ℕ) (M : Indexes) → IsObstruction U S
    → IsLeftOf U S n M → IsThin U S n M
IsThin-left U S zero M o left =
    rw left (record { obstruction = o; part = λ k h. h; spared = λ j lt. absurd (omega arith) })
IsThin-left U S (suc n) M o left =
    let thin = IsThin-left U S n left.0 o left.1 in
    elim left.2 [
      | inl replaced ↦ IsThin-replaced U S left.0 M n thin replaced.1
      | inr stays ↦ rw stays.1 (IsThin-stays U S left.0 n thin stays.0)
    ]

pub IsThin-least : (U : List Task) (S M : Indexes) → IsThin U S (length U) M → IsLeastConflict U M
IsThin-least U S M thin = record {
  obstruction = thin.obstruction;
  least = λ P o part k member. elim (cases_Bool (P k)) [
    | inl has ↦ has
    | inr out ↦
        absurd (thin.spared k (ltb-true k (length U) (thin.obstruction.within k member)) member
        (P, o, λ j h. without-member M k j (part j h) (λ e. both_ways (P k) out (rw e at h))))
  ];
}

pub left-least : (U : List Task) (S C : Indexes) → IsObstruction U S → IsLeftOf U S (length U) C
    → IsLeastConflict U C × IsPart C S
left-least U S C o left =
    let thin = IsThin-left U S (length U) C o left in
    (IsThin-least U S C thin, thin.part)

pub left-more : (U : List Task) (S L M : Indexes) (n : ℕ) → IsLeftOf U S n L → IsGoneThrough U n L M
    → IsLeftOf U S (n + 1) M
left-more U S L M n before step =
    let one : suc n ≡ n + 1 = omega arith in
    subst (λ k. IsLeftOf U S k M) one (L, before, step)

-- ---- there is one
GreatestWithin-one : (U : List Task) (L S R : Indexes) → IsGreatestWithin U L S
    → IsGreatestWithin U L R → S ≡ R
GreatestWithin-one U L S R s r =
    same_parts S R (r.greatest S s.obstruction s.within) (s.greatest R r.obstruction r.within)

gone_through-one : (U : List Task) (i : ℕ) (L M N : Indexes) → IsGoneThrough U i L M
    → IsGoneThrough U i L N → M ≡ N
gone_through-one U i L M N (inl m) (inl n) = GreatestWithin-one U (without_index L i) M N m.1 n.1
gone_through-one U i L M N (inl m) (inr n) = absurd (n.0 m.0 (M, m.1.obstruction, m.1.within))
gone_through-one U i L M N (inr m) (inl n) = absurd (m.0 n.0 (N, n.1.obstruction, n.1.within))
gone_through-one U i L M N (inr m) (inr n) = m.1 ∙ sym n.1

pub left-one : (U : List Task) (S : Indexes) (n : ℕ) (C D : Indexes) → IsLeftOf U S n C
    → IsLeftOf U S n D → C ≡ D
left-one U S zero C D c d = c ∙ sym d
left-one U S (suc n) C D c d =
    let same : c.0 ≡ d.0 = left-one U S n c.0 d.0 c.1 d.1 in
    gone_through-one U n d.0 C D (subst (λ (X : Indexes). IsGoneThrough U n X C) same c.2) d.2

-- ---- there is some
find_standing : (U : List Task) (L : Indexes) (n : ℕ)
    → ((i : ℕ) × (i < n) × (L i ≡ true) × Stands U i (without_index L i))
    ⊎ ((j : ℕ) → j < n → L j ≡ true → ¬ Stands U j (without_index L j))
unfolding NoneBelow
find_standing U L n = elim (find_chosen U L n) [
  | inl chosen ↦
      inl (chosen.0, chosen.1, chosen.2.member, chosen.2.stands)
  | inr none ↦ inr none
]

abbrev HasGreatest : List Task → Indexes → Type 0
HasGreatest U L = ((M : Indexes) × IsGreatestWithin U L M) ⊎ ¬ HoldsObstruction U L

module _ (U : List Task) (valid : AllTasks U) (L : Indexes) (whole : IsPart L (all_of U)) where
  peeled : (left : Indexes) → IsPeeled U L left
      → ((j : ℕ) → j < length U → left j ≡ true → ¬ Stands U j (without_index left j))
      → HasGreatest U L
  peeled left so stuck = elim (find_below (length U) left) [
    | inl some ↦ inl (
      left,
      IsPeeled-stuck U L left some.0 whole so some.2
          (λ j member. stuck j (ltb-true j (length U) (whole j (so.part j member))) member),
    )
    | inr none ↦ inr (λ held.
        let k : ℕ = held.1.some.0 in
        let member = so.holds held.0 held.1 held.2 k held.1.some.1 in
        both_ways (left k) (none k (ltb-true k (length U) (whole k (so.part k member)))) member)
  ]

  peel : (fuel : ℕ) (left : Indexes) → IsPeeled U L left → count_below (length U) left ≤ fuel
      → HasGreatest U L
  peel zero left so few = peeled left so (λ j lt member.
      absurd (let fewer = without-fewer (length U) left j lt member in omega (arith, fewer, few)))
  peel (suc fuel) left so few = elim (find_standing U left (length U)) [
    | inl found ↦
        let fewer = without-fewer (length U) left found.0 found.1 found.2 in
        peel fuel (without_index left found.0) (IsPeeled-less U L left found.0 valid so found.3)
        (omega (arith, fewer, few))
    | inr none ↦ peeled left so none
  ]

  has_greatest : HasGreatest U L
  has_greatest = peel (count_below (length U) L) L (IsPeeled-start U L) (omega arith)

go_through : (U : List Task) (i : ℕ) (L : Indexes) → AllTasks U → IsPart L (all_of U)
    → (M : Indexes) × IsGoneThrough U i L M
go_through U i L valid part = elim (cases_Bool (L i)) [
  | inl member ↦
      elim (has_greatest U valid (without_index L i) (without-part_of (length U) L i part)) [
        | inl greatest ↦ (greatest.0, inl (member, greatest.1))
        | inr none ↦ (L, inr (λ h. none, refl))
      ]
  | inr out ↦ (L, inr (λ h. absurd (both_ways (L i) out h), refl))
]

pub find_left : (U : List Task) (S : Indexes) (n : ℕ) → AllTasks U → IsObstruction U S
    → (C : Indexes) × IsLeftOf U S n C
find_left U S zero valid o = (S, refl)
find_left U S (suc n) valid o =
    let before = find_left U S n valid o in
    let thin = IsThin-left U S n before.0 o before.1 in
    let next = go_through U n before.0 valid thin.obstruction.within in
    (next.0, (before.0, before.1, next.1))

pub none_spared : (U : List Task) (C : Indexes) (i : ℕ) → IsLeastConflict U C → C i ≡ true
    → ¬ HoldsObstruction U (without_index C i)
none_spared U C i least member held =
    let within : IsPart held.0 C = λ k h. (without-parts C i k (held.2 k h)).0 in
    (without-parts C i i (held.2 i (least.least held.0 held.1 within i member))).1 refl
