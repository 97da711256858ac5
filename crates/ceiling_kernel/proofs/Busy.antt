-- The busy interval, over any machine that executes one job a tick: no list, lock or section occurs here.
use Rattle.std.proofs.Common.{ℕ, zero, suc, ◌+◌, ◌-◌, ◌<◌, ◌≤◌, ◌≡◌, ◌≢◌, ◌⊎◌, inl, inr, refl, sym}
use Rattle.std.proofs.Common.{ap, ◌∙◌, subst, arith, if◌then◌else◌, Bool, true, false, Option, Some}
use Rattle.std.proofs.Common.{None, nat_le, nat_lt, ◌&&◌, add-zero, add-suc}
use Rattle.std.proofs.lemmas.Bool.{cases_eq, cases_lt, cases_Bool, true≢false, le-leb, lt-ltb}
use Rattle.ceiling_kernel.proofs.SumLaws.{total, total-le, total-lt, total-add, term-le, total-one}

-- n jobs; when each is ready, and its cost; whether it is high (of the level in question or above);
-- rest j e: how many ticks the section still takes that low job j is inside of after e ticks, if its ceiling reaches the level, else 0;
-- done t j: how many ticks job j has executed before tick t; run t: the job that tick t picks.
pub record IsMachine (n : ℕ) (ready cost : ℕ → ℕ) (high : ℕ → Bool) (rest : ℕ → ℕ → ℕ)
    (done : ℕ → ℕ → ℕ) (run : ℕ → Option ℕ) : Type 0 where
  pub at_start : (j : ℕ) → done 0 j ≡ 0
  pub when_idle : (t j : ℕ) → run t ≡ None → done (suc t) j ≡ done t j
  pub of_picked : (t p : ℕ) → run t ≡ Some p → done (suc t) p ≡ suc (done t p)
  pub of_other : (t p j : ℕ) → run t ≡ Some p → j ≢ p → done (suc t) j ≡ done t j
  pub picked_exists : (t p : ℕ) → run t ≡ Some p → p < n
  pub picked_ready : (t p : ℕ) → run t ≡ Some p → ready p ≤ t
  pub picked_unfinished : (t p : ℕ) → run t ≡ Some p → done t p < cost p
  pub works : (t k : ℕ) → k < n → ready k ≤ t → done t k < cost k → (p : ℕ) × (run t ≡ Some p)
  -- where a pending job is high or inside a section that reaches the level, so is the picked one
  pub hot_first : (t p k : ℕ) → run t ≡ Some p → k < n → ready k ≤ t → done t k < cost k
      → (high k ≡ true) ⊎ (0 < rest k (done t k)) → (high p ≡ true) ⊎ (0 < rest p (done t p))
  pub rest_low : (j e : ℕ) → high j ≡ true → rest j e ≡ 0
  pub rest_first : (j : ℕ) → rest j 0 ≡ 0
  pub rest_next : (j e : ℕ) → 0 < rest j e → rest j e ≡ suc (rest j (suc e))
  pub rest_inside : (j e : ℕ) → 0 < rest j e → e < cost j

module _ (n : ℕ) (ready cost : ℕ → ℕ) (high : ℕ → Bool) (rest : ℕ → ℕ → ℕ) (done : ℕ → ℕ → ℕ)
    (run : ℕ → Option ℕ) (machine : IsMachine n ready cost high rest done run) where
  -- a tick leaves a job as it is, or was the job's own
  pub tick_cases : (t j : ℕ) → (done (suc t) j ≡ done t j)
      ⊎ ((run t ≡ Some j) × (done (suc t) j ≡ suc (done t j)))
  tick_cases t j =
      elim (run t) as (λ r. run t ≡ r → (done (suc t) j ≡ done t j)
      ⊎ ((run t ≡ Some j) × (done (suc t) j ≡ suc (done t j)))) [
        | None ↦ λ e. inl (machine.when_idle t j e)
        | Some p ↦ λ e. elim (cases_eq j p) [
          | inl same ↦
              let mine : run t ≡ Some j = cc in
              inr (mine, machine.of_picked t j mine)
          | inr ne ↦ inl (machine.of_other t p j e ne)
        ]
      ] refl

  pub done_grows : (t j : ℕ) → done t j ≤ done (suc t) j
  done_grows t j = elim (tick_cases t j) [ inl e ↦ omega arith | inr m ↦ omega arith ]

  pub done_mono : (t k j : ℕ) → done t j ≤ done (t + k) j
  done_mono t zero j = rw add-zero (omega arith)
  done_mono t (suc k) j =
      rw add-suc (omega (arith, done_mono t k j, done_grows (t + k) j))

  pub done_later : (t u j : ℕ) → t ≤ u → done t j ≤ done u j
  done_later t u j le =
      let at_u : t + (u - t) ≡ u = omega arith in
      subst (λ x. done t j ≤ done x j) at_u (done_mono t (u - t) j)

  -- a job that has executed is one of the n, and was ready
  pub began : (t j : ℕ) → 0 < done t j → (j < n) × (ready j ≤ t)
  began zero j h = let none : done 0 j ≡ 0 = machine.at_start j in absurd (omega arith)
  began (suc t) j h =
      elim (tick_cases t j) [
        | inl e ↦ let before : (j < n) × (ready j ≤ t) = began t j (omega arith) in
            (before.0, omega arith)
        | inr m ↦
            let was : ready j ≤ t = machine.picked_ready t j m.0 in
            (machine.picked_exists t j m.0, omega arith)
      ]

  rest_began : (t j : ℕ) → 0 < rest j (done t j) → (j < n) × (ready j ≤ t)
  rest_began t j h =
      began t j (elim (cases_eq (done t j) 0) [
        | inl z ↦
            absurd (omega (arith, machine.rest_first j, ap (rest j) z))
        | inr nz ↦ omega arith
      ])

  -- a job that is inside a reaching section after a tick was so before, or entered it in that tick
  rest_cases : (t j : ℕ) → 0 < rest j (done (suc t) j) → (0 < rest j (done t j))
      ⊎ ((run t ≡ Some j) × (rest j (done t j) ≡ 0))
  rest_cases t j h =
      elim (tick_cases t j) [
        | inl e ↦ inl (omega (arith, ap (rest j) e))
        | inr m ↦ elim (cases_eq (rest j (done t j)) 0) [
          | inl z ↦ inr (m.0, z)
          | inr nz ↦ inl (omega arith)
        ]
      ]

  -- in the tick in which a low job enters, no other is inside
  alone : (t j k : ℕ) → run t ≡ Some j → rest j (done t j) ≡ 0 → 0 < rest j (done (suc t) j)
      → 0 < rest k (done t k) → ⊥
  alone t j k mine outside enters inside =
      let b : (k < n) × (ready k ≤ t) = rest_began t k inside in
      elim (machine.hot_first t j k mine b.0 b.1 (machine.rest_inside k (done t k) inside)
      (inr inside)) [
        | inl is_high ↦ omega (arith, machine.rest_low j (done (suc t) j) is_high)
        | inr hot ↦ omega arith
      ]

  -- at most one low job is inside a reaching section
  pub one_inside : (t j k : ℕ) → 0 < rest j (done t j) → 0 < rest k (done t k) → j ≡ k
  one_inside zero j k hj hk =
      let same : rest j (done 0 j) ≡ rest j 0 = ap (rest j) (machine.at_start j) in
      let first : rest j 0 ≡ 0 = machine.rest_first j in
      absurd (omega arith)
  one_inside (suc t) j k hj hk =
      elim (rest_cases t j hj) [
        | inl was_j ↦ elim (rest_cases t k hk) [
          | inl was_k ↦ one_inside t j k was_j was_k
          | inr new_k ↦ absurd (alone t k j new_k.0 new_k.1 hk was_j)
        ]
        | inr new_j ↦ elim (rest_cases t k hk) [
          | inl was_k ↦ absurd (alone t j k new_j.0 new_j.1 hj was_k)
          | inr new_k ↦ cc
        ]
      ]

  -- nothing high is left from before a
  abbrev pub IsQuiet : ℕ → Type 0
  IsQuiet a = (j : ℕ) → j < n → high j ≡ true → ready j < a → cost j ≤ done a j

  -- a high job is left from before a
  abbrev pub Left : ℕ → Type 0
  Left a = (j : ℕ) × (j < n) × (high j ≡ true) × (ready j < a) × (done a j < cost j)

  left_below : (a m : ℕ) → ((j : ℕ) → j < m → high j ≡ true → ready j < a → cost j ≤ done a j)
      ⊎ ((j : ℕ) × (j < m) × (high j ≡ true) × (ready j < a) × (done a j < cost j))
  left_below a zero = inl (λ j lt h r. absurd (omega arith))
  left_below a (suc m) =
      elim (left_below a m) [
        | inr found ↦ inr (found.0, omega arith, found.2, found.3, found.4)
        | inl none ↦ elim (cases_lt (ready m) a) [
          | inr late ↦ inl (λ j lt h r. elim (cases_eq j m) [
            | inl e ↦ absurd (omega (arith, ap ready e))
            | inr ne ↦ none j (omega arith) h r
          ])
          | inl early ↦ elim (cases_lt (done a m) (cost m)) [
            | inr finished ↦ inl (λ j lt h r. elim (cases_eq j m) [
              | inl e ↦
                  omega (arith, ap cost e, ap (done a) e)
              | inr ne ↦ none j (omega arith) h r
            ])
            | inl open_ ↦ elim (cases_Bool (high m)) [
              | inl is_high ↦ inr (m, omega arith, is_high, early, open_)
              | inr is_low ↦ inl (λ j lt h r. elim (cases_eq j m) [
                | inl e ↦ absurd (true≢false (sym h ∙ ((ap high e) ∙ is_low)))
                | inr ne ↦ none j (omega arith) h r
              ])
            ]
          ]
        ]
      ]

  quiet_or_left : (a : ℕ) → IsQuiet a ⊎ Left a
  quiet_or_left a = left_below a n

  -- The work of the window from a to b that is still to be done at tick u: of a high job that becomes ready in it what it lacks, of a low one the rest of its section
  abbrev pub to_do : ℕ → ℕ → ℕ → ℕ → ℕ
  to_do a b u j = if high j then (if nat_le a (ready j)
      && nat_lt (ready j) b then cost j - done u j else 0) else rest j (done u j)

  to_do-high : (a b u j : ℕ) → high j ≡ true → a ≤ ready j → ready j < b
      → to_do a b u j ≡ cost j - done u j
  to_do-high a b u j h lo hi =
      rw (h, le-leb a (ready j) lo, lt-ltb (ready j) b hi)

  to_do-low : (a b u j : ℕ) → high j ≡ false → to_do a b u j ≡ rest j (done u j)
  to_do-low a b u j h = rw h

  -- a tick of another job leaves what is to do, and no tick adds to it
  to_do_falls : (a b u j : ℕ) → done (suc u) j ≡ done u j → to_do a b (suc u) j ≡ to_do a b u j
  to_do_falls a b u j e = rw e

  step_falls : (a b u : ℕ) → IsQuiet a → a ≤ u → u < b → Left (suc u)
      → total (to_do a b (suc u)) n < total (to_do a b u) n
  step_falls a b u quiet lo hi left =
      let k : ℕ = left.0 in
      let open_ : done u k < cost k =
      omega (arith, done_grows u k) in
      let w : (p : ℕ) × (run u ≡ Some p) = machine.works u k left.1 (omega arith) open_ in
      let p : ℕ = w.0 in
      let hot = machine.hot_first u p k w.1 left.1 (omega arith) open_ (inl left.2) in
      let unfinished : done u p < cost p = machine.picked_unfinished u p w.1 in
      let was_ready : ready p ≤ u = machine.picked_ready u p w.1 in
      let less : to_do a b (suc u) p < to_do a b u p =
      elim (cases_Bool (high p)) [
        | inl is_high ↦
            let from_a : a ≤ ready p = elim (cases_lt (ready p) a) [
              | inl early ↦
                  let fin = quiet p (machine.picked_exists u p w.1) is_high early in
                  let at_u : a + (u - a) ≡ u = omega arith in
                  absurd (omega (
                    arith,
                    subst (λ x. done a p ≤ done x p) at_u
                        (done_mono a (u - a) p),
                  ))
              | inr late ↦ late
            ] in
            let x = to_do-high a b u p is_high from_a (omega arith) in
            let y = to_do-high a b (suc u) p is_high from_a (omega arith) in
            omega (arith, x, y)
        | inr is_low ↦
            let inside : 0 < rest p (done u p) =
            elim hot [
              | inl is_high ↦ absurd (true≢false (sym is_high ∙ is_low))
              | inr inside ↦ inside
            ] in
            omega (
              arith,
              machine.rest_next p (done u p) inside,
              ap (rest p)
                  (machine.of_picked u p w.1),
              to_do-low a b u p is_low,
              to_do-low a b (suc u) p is_low,
            )
      ] in
      total-lt (to_do a b (suc u)) (to_do a b u) n p (machine.picked_exists u p w.1) less
      (λ j lt. elim (cases_eq j p) [
        | inl e ↦
            omega (arith, ap (to_do a b (suc u)) e, ap (to_do a b u) e)
        | inr ne ↦
            omega (arith, to_do_falls a b u j (machine.of_other u p j w.1 ne))
      ])

  -- a high job that is left from before a later tick became ready in the window
  left_in_window : (a m : ℕ) → IsQuiet a → (left : Left (a + m)) → a ≤ ready left.0
  left_in_window a m quiet left =
      elim (cases_lt (ready left.0) a) [
        | inl early ↦
            absurd (omega (arith, quiet left.0 left.1 left.2 early, done_mono a m left.0, left.4))
        | inr late ↦ late
      ]

  -- in m ticks from a quiet one either a quiet one comes or m ticks of work are done
  quiet_or_busy : (a b m : ℕ) → IsQuiet a → a + m ≤ b
      → ((q : ℕ) × (a < q) × (q ≤ a + m) × IsQuiet q)
      ⊎ (total (to_do a b (a + m)) n + m ≤ total (to_do a b a) n)
  quiet_or_busy a b zero quiet within = inr (simp add-zero (omega arith))
  quiet_or_busy a b (suc m) quiet within =
      elim (quiet_or_busy a b m quiet (omega arith)) [
        | inl found ↦ inl (found.0, found.1, omega (arith, found.2), found.3)
        | inr busy ↦
            elim (quiet_or_left (suc (a + m))) [
              | inl q ↦ inl (suc (a + m), omega arith, omega arith, q)
              | inr left ↦
                  let falls = step_falls a b (a + m) quiet (omega arith) (omega arith) left in
                  inr (simp add-suc (omega arith))
            ]
      ]

  -- the cost of the high jobs that become ready in the window
  abbrev pub work : ℕ → ℕ → ℕ → ℕ
  work a b j =
      if high j then (if nat_le a (ready j) && nat_lt (ready j) b then cost j else 0) else 0

  to_do-le : (a b j : ℕ) → to_do a b a j ≤ work a b j + rest j (done a j)
  to_do-le a b j =
      elim (cases_Bool (high j)) [
        | inl is_high ↦ elim (cases_Bool (nat_le a (ready j) && nat_lt (ready j) b)) [
          | inl in_window ↦ rw (is_high, in_window) (omega arith)
          | inr outside ↦ rw (is_high, outside) (omega arith)
        ]
        | inr is_low ↦ rw is_low (omega arith)
      ]

  module _ (w blocked : ℕ) (some : 0 < w) (rest_most : (j e : ℕ) → rest j e ≤ blocked)
      (fits : (a : ℕ) → total (work a (a + w)) n + blocked ≤ w) where
    work_at_start : (a : ℕ) → total (to_do a (a + w) a) n ≤ w
    work_at_start a =
        omega (
          arith,
          total-le (to_do a (a + w) a)
              (λ j. work a (a + w) j + rest j (done a j)) n (λ j lt. to_do-le a (a + w) j),
          total-add
              (work a (a + w)) (λ j. rest j (done a j)) n,
          total-one (λ j. rest j (done a j)) n
              blocked (λ j lt. rest_most j (done a j)) (one_inside a),
          fits a,
        )

    -- after a quiet tick another one comes within w ticks
    next_quiet : (a : ℕ) → IsQuiet a → (q : ℕ) × (a < q) × (q ≤ a + w) × IsQuiet q
    next_quiet a quiet =
        elim (quiet_or_busy a (a + w) w quiet (omega arith)) [
          | inl found ↦ found
          | inr busy ↦ elim (quiet_or_left (a + w)) [
            | inl q ↦ (a + w, omega arith, omega arith, q)
            | inr left ↦
                absurd (omega (
                  arith,
                  left.4,
                  to_do-high a (a + w) (a + w) left.0 left.2
                      (left_in_window a w quiet left) left.3,
                  term-le (to_do a (a + w) (a + w)) n left.0
                      left.1,
                  work_at_start a,
                ))
          ]
        ]

    quiet_at_start : IsQuiet 0
    quiet_at_start j lt h r = absurd (omega arith)

    -- from a quiet tick at most `fuel` before the job is ready, the job finishes in time
    finishes_from : (fuel a j : ℕ) → ready j < a + fuel → a ≤ ready j → IsQuiet a → j < n
        → high j ≡ true → cost j ≤ done (ready j + w) j
    finishes_from zero a j near before quiet lt h = absurd (omega arith)
    finishes_from (suc fuel) a j near before quiet lt h =
        let next : (q : ℕ) × (a < q) × (q ≤ a + w) × IsQuiet q = next_quiet a quiet in
        elim (cases_lt (ready j) next.0) [
          | inl past ↦
              let fin : cost j ≤ done next.0 j = next.3 j lt h past in
              let later = done_later next.0 (ready j + w) j (omega (arith, next.2)) in
              omega arith
          | inr again ↦ finishes_from fuel next.0 j (omega (arith, next.1)) again next.3 lt h
        ]

    -- THE BOUND: each high job finishes within w ticks after it is ready
    pub finishes : (j : ℕ) → j < n → high j ≡ true → cost j ≤ done (ready j + w) j
    finishes j lt h =
        finishes_from (suc (ready j)) 0 j (omega arith) (omega arith) quiet_at_start lt h
