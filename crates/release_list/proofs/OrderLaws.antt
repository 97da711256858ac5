-- A list by time: what it holds, in which order, and that a stable sort gives it.
use Rattle.std.proofs.Common.{◌≡◌, ℕ, zero, suc, ◌+◌, ◌<◌, ◌≤◌, ◌⊎◌, inl, inr, true, ◌&&◌, ◌==◌}
use Rattle.std.proofs.Common.{not}
use Rattle.std.proofs.Common.{nat_lt, List, [], ◌∷◌, ◌++◌, length, None, refl, sym, ◌∙◌, ap, ap₂}
use Rattle.std.proofs.Common.{subst}
use Rattle.std.proofs.Common.{arith}
use Rattle.std.specs.List.{filter}
use Rattle.std.specs.List.Sorted.{ties}
use Rattle.std.specs.Ordering.{is_lt, nat_cmp}
use Rattle.std.proofs.lemmas.Bool.{cases_eq, cases_lt, eq-eqb, eqb-true, ne_eqb, lt-ltb, le-ltb}
use Rattle.std.proofs.lemmas.Bool.Decides.{nat_tests}
use Rattle.ceiling_kernel.specs.declared.trace.Release.{Release}
use Rattle.ceiling_kernel.proofs.Common.{no_release, release_at}
use Rattle.release_list.specs.Random.{by_time}
use Rattle.release_list.proofs.InLaws.{In, here, there, Pairs, none, more, place_of, pairs_either}
use Rattle.release_list.proofs.InLaws.{pairs_with, in_front, in_back, in_either, pairs_append}
use Rattle.release_list.proofs.InLaws.{from_filter, to_filter, pairs_filter, none_pass, all_pass}
use Rattle.release_list.proofs.InLaws.{filter_same}

-- ---- what it holds
of_time : (rs : List Release) (n : ℕ) {x : Release} → In x (filter (λ r. r.time == n) rs)
    → In x rs × (x.time ≡ n)
of_time rs n {x} at =
    (let f = from_filter (λ r. r.time == n) rs at in (f.0, eqb-true x.time n f.1))

pub in_by_time : (rs : List Release) (n : ℕ) {x : Release} → In x (by_time rs n) → In x rs
    × (x.time < n)
unfolding by_time
in_by_time rs zero at = elim at [ ]
in_by_time rs (suc n) at = elim (in_either _ _ at) [
  | inl before ↦ let b = in_by_time rs n before in (b.0, omega (arith, b.1))
  | inr now ↦ let f = of_time rs n now in (f.0, omega (arith, f.1))
]

pub to_by_time : (rs : List Release) (n : ℕ) {x : Release} → In x rs → x.time < n
    → In x (by_time rs n)
unfolding by_time
to_by_time rs zero at lt = absurd (omega arith)
to_by_time rs (suc n) {x} at lt = elim (cases_eq x.time n) [
  | inl now ↦ in_back _ (to_filter (λ r. r.time == n) at (eq-eqb x.time n now))
  | inr other ↦ in_front _ (to_by_time rs n at (omega arith))
]

-- two releases of it stand as in the list where their times are one, and else by their times
pub pairs_by_time : {P Q : Release → Release → Type 0} {rs : List Release} → Pairs P rs
    → ((x y : Release) → x.time ≡ y.time → P x y → Q x y)
    → ((x y : Release) → In x rs → In y rs → x.time < y.time → Q x y) → (n : ℕ)
    → Pairs Q (by_time rs n)
unfolding by_time
pairs_by_time pairs same less zero = none
pairs_by_time {rs = rs} pairs same less (suc n) =
    pairs_append (pairs_by_time pairs same less n) (pairs_with
    (pairs_filter (λ r. r.time == n) pairs)
    (λ x y a b p. same x y ((of_time rs n a).1 ∙ sym (of_time rs n b).1) p))
    (λ x y a b. let f = in_by_time rs n a in let g = of_time rs n b in
    less x y f.0 g.0 (omega (arith, f.1, g.1)))

-- ---- by some number of each, and a period of it
module _ (number period : Release → ℕ) where
  -- by number, and those of one number by time, a period apart
  abbrev pub Ranked : Release → Release → Type 0
  Ranked x y =
      (number x < number y)
      ⊎ ((number x ≡ number y) × (x.time < y.time) × (x.time + period y ≤ y.time))

  -- by time, and those of one time by number; those of one number a period apart
  pub record InTime (x y : Release) : Type 0 where
    pub order : (x.time < y.time) ⊎ ((x.time ≡ y.time) × (number x < number y))
    pub apart : number x ≡ number y → x.time + period y ≤ y.time

  pub in_time : {rs : List Release} → Pairs Ranked rs → (n : ℕ) → Pairs InTime (by_time rs n)
  in_time ranked =
      pairs_by_time ranked
      (λ x y same r. elim r [
        | inl less ↦ record { order = inr (same, less); apart = λ one. absurd (omega arith) }
        | inr one ↦ absurd (omega (arith, one.1))
      ])
      (λ x y a b lt. record {
        order = inl lt;
        apart = λ one. elim (pairs_either ranked a b) [
          | inl is ↦ absurd (omega (arith, ap (λ r. r.time) is))
          | inr either ↦ elim either [
            | inl r ↦ elim r [ inl less ↦ absurd (omega arith) | inr s ↦ s.2 ]
            | inr r ↦ elim r [
              | inl less ↦ absurd (omega arith)
              | inr s ↦ absurd (omega (arith, s.1))
            ]
          ]
        ];
      })

-- ---- a stable sort by time gives it
abbrev pub Rises : Release → Release → Type 0
Rises x y = x.time ≤ y.time

-- those before a time, and those of it
before_and_at : {ys : List Release} (n : ℕ) → Pairs Rises ys → filter (λ r. nat_lt r.time n) ys
    ++ filter (λ r. r.time == n) ys ≡ filter (λ r. nat_lt r.time (suc n)) ys
before_and_at n none = refl
before_and_at n (more {x = y} {xs = ys} first rest) =
    elim (cases_lt y.time n) [
      | inl less ↦
          let now = ne_eqb y.time n (λ e. omega arith) in
          rw (lt-ltb y.time n less, now, lt-ltb y.time (suc n) (omega arith))
          (ap (λ zs. y ∷ zs) (before_and_at n rest))
      | inr from ↦
          ap (λ zs. zs ++ filter (λ r. r.time == n) (y ∷ ys))
          (none_pass (λ r. nat_lt r.time n) (y ∷ ys) (λ x at. le-ltb x.time n (all from first at)))
          ∙ filter_same (λ r. r.time == n) (λ r. nat_lt r.time (suc n)) (y ∷ ys)
          (λ x at. next_is x.time n (all from first at))
    ]
  where
    next_is : (a n : ℕ) → n ≤ a → (a == n) ≡ nat_lt a (suc n)
    next_is a n le = grind (arith, nat_tests)

    all : {y x : Release} {ys : List Release} → n ≤ y.time
        → ((x : Release) → In x ys → y.time ≤ x.time) → In x (y ∷ ys) → n ≤ x.time
    all from first here = from
    all from first (there at) = omega (arith, first _ at)

by_time_is : {ys : List Release} → Pairs Rises ys → (n : ℕ)
    → by_time ys n ≡ filter (λ r. nat_lt r.time n) ys
unfolding by_time
by_time_is {ys} rises zero =
    sym (none_pass (λ r. nat_lt r.time 0) ys (λ x at. le-ltb x.time 0 (omega arith)))
by_time_is {ys} rises (suc n) =
    ap (λ zs. zs ++ filter (λ r. r.time == n) ys) (by_time_is rises n) ∙ before_and_at n rises

by_time_same : (xs ys : List Release)
    → ((t : ℕ) → filter (λ r. r.time == t) ys ≡ filter (λ r. r.time == t) xs) → (n : ℕ)
    → by_time ys n ≡ by_time xs n
unfolding by_time
by_time_same xs ys h zero = refl
by_time_same xs ys h (suc n) = ap₂ (λ a b. a ++ b) (by_time_same xs ys h n) (h n)

pub sorted_is : (xs ys : List Release) (until : ℕ) → ((x : Release) → In x xs → x.time < until)
    → Pairs Rises ys
    → ((x : Release) → filter (ties (λ a b. is_lt (nat_cmp a.time b.time)) x) ys
    ≡ filter (ties (λ a b. is_lt (nat_cmp a.time b.time)) x) xs)
    → ys ≡ by_time xs until
sorted_is xs ys until small rises stable =
    let same : (t : ℕ) → filter (λ r. r.time == t) ys ≡ filter (λ r. r.time == t) xs = λ t.
    let x : Release = record { time = t; name = []; late = 0; runs = None } in
    sym (tied t ys) ∙ (stable x ∙ tied t xs) in
    let within : (x : Release) → In x ys → nat_lt x.time until ≡ true = λ x at.
    let mine = to_filter (λ r. r.time == x.time) at (eq-eqb x.time x.time refl) in
    lt-ltb x.time until (small x (of_time xs x.time (subst (In x) (same x.time) mine)).0) in
    sym (all_pass (λ r. nat_lt r.time until) ys within)
    ∙ (sym (by_time_is rises until) ∙ by_time_same xs ys same until)
  where
    tie_is : (t time : ℕ)
        → (not (is_lt (nat_cmp t time)) && not (is_lt (nat_cmp time t))) ≡ (time == t)
    tie_is t time = grind (arith, nat_tests)

    tied : (t : ℕ) (rs : List Release) → filter (ties (λ a b. is_lt (nat_cmp a.time b.time))
        (record { time = t; name = []; late = 0; runs = None })) rs
        ≡ filter (λ r. r.time == t) rs
    tied t rs = filter_same _ (λ r. r.time == t) rs (λ r at. tie_is t r.time)

-- the order of a sort, by pairs
pub rises_from : (ys : List Release) → ((i j : ℕ) (d : Release) → i ≤ j → j < length ys
    → (release_at ys i).time ≤ (release_at ys j).time) → Pairs Rises ys
rises_from [] h = none
rises_from (y ∷ ys) h = more (λ x at. (let place = place_of no_release at in
    subst (λ r. y.time ≤ r.time) place.2
    (h 0 (suc place.0) no_release (omega arith) (omega (arith, place.1)))))
    (rises_from ys (λ i j d le lt. h (suc i) (suc j) d (omega arith) (omega arith)))
