-- What the pick is: the one pending job that no pending job goes before.
use Rattle.std.proofs.Common.{ℕ, zero, suc, ◌<◌, ◌≤◌, ◌≡◌, ◌≢◌, ◌⊎◌, inl, inr, refl, sym, ap, ◌∙◌}
use Rattle.std.proofs.Common.{subst, arith, Bool, true, false, Option, Some, None, nat_lt}
use Rattle.std.proofs.lemmas.Bool.{cases_eq, cases_lt, cases_Bool, true≢false, lt-ltb, le-ltb}
use Rattle.std.proofs.lemmas.Bool.{ltb-true, eq-eqb, ne_eqb}
use Rattle.ceiling_kernel.specs.Tick.{gives_way, better_of, best}

module _ (pending : ℕ → Bool) (active level : ℕ → ℕ) where
  -- job k doesn't go before job j
  abbrev pub NotBefore : ℕ → ℕ → Type 0
  NotBefore k j = (active k < active j) ⊎ ((active k ≡ active j) × (level j ≤ level k))

  pub record IsBest (n j : ℕ) : Type 0 where
    pub below : j < n
    pub is_pending : pending j ≡ true
    pub first : (k : ℕ) → k < n → pending k ≡ true → NotBefore k j

  abbrev pub IsOutcome : ℕ → Option ℕ → Type 0
  IsOutcome n None = (k : ℕ) → k < n → pending k ≡ false
  IsOutcome n (Some j) = IsBest n j

  pub trans : (a b c : ℕ) → NotBefore a b → NotBefore b c → NotBefore a c
  trans a b c x y =
      elim x [
        | inl lt ↦ elim y [ inl lt' ↦ inl (omega arith) | inr eq' ↦ inl (omega arith) ]
        | inr eq ↦ elim y [ inl lt' ↦ inl (omega arith) | inr eq' ↦ inr (omega arith, omega arith) ]
      ]

  pub yields : (k j : ℕ) → gives_way active level k j ≡ true → NotBefore k j
  yields k j h =
      elim (cases_lt (active k) (active j)) [
        | inl lt ↦ inl lt
        | inr ge ↦
            let x : nat_lt (active k) (active j) ≡ false = le-ltb (active k) (active j) ge in
            elim (cases_eq (active k) (active j)) [
              | inl e ↦
                  let z : nat_lt (level j) (level k) ≡ true = rw (x, eq-eqb (active k) (active j) e)
                  at h in
                  let lt : level j < level k = ltb-true (level j) (level k) z in
                  inr (e, omega arith)
              | inr ne ↦
                  let z : false ≡ true = rw (x, ne_eqb (active k) (active j) ne) at h in
                  absurd (true≢false (sym z))
            ]
      ]

  pub stays : (k j : ℕ) → gives_way active level k j ≡ false → NotBefore j k
  stays k j h =
      elim (cases_lt (active j) (active k)) [
        | inl lt ↦ inl lt
        | inr ge ↦
            elim (cases_eq (active k) (active j)) [
              | inr ne ↦
                  let x = lt-ltb (active k) (active j) (omega arith) in
                  let z : true ≡ false = rw x at h in
                  absurd (true≢false z)
              | inl e ↦
                  elim (cases_lt (level j) (level k)) [
                    | inl lower ↦
                        let x = le-ltb (active k) (active j) (omega arith) in
                        let z : true ≡ false = rw (
                          x,
                          eq-eqb (active k) (active j) e,
                          lt-ltb
                              (level j) (level k) lower,
                        ) at h in
                        absurd (true≢false z)
                    | inr not_lower ↦ inr (sym e, not_lower)
                  ]
            ]
      ]

  pub same_place : (k j : ℕ) → k ≡ j → NotBefore k j
  same_place k j e = let l = ap level e in inr (ap active e, omega arith)

  step : (n : ℕ) (r : Option ℕ) → IsOutcome n r
      → IsOutcome (suc n) (better_of pending active level r n)
  step n None h =
      elim (cases_Bool (pending n)) [
        | inl is ↦ rw is (record {
          below = omega arith;
          is_pending = is;
          first = λ k lt p. elim (cases_eq k n) [
            | inl e ↦ same_place k n e
            | inr ne ↦ absurd (true≢false (sym p ∙ h k (omega arith)))
          ];
        })
        | inr not ↦ rw not (λ k lt. elim (cases_eq k n) [
          | inl e ↦ ap pending e ∙ not
          | inr ne ↦ h k (omega arith)
        ])
      ]
  step n (Some j) h =
      elim (cases_Bool (pending n)) [
        | inl is ↦ elim (cases_Bool (gives_way active level j n)) [
          | inl way ↦ rw (is, way) (record {
            below = omega arith;
            is_pending = is;
            first = λ k lt p. elim (cases_eq k n) [
              | inl e ↦ same_place k n e
              | inr ne ↦ trans k j n (h.first k (omega arith) p) (yields j n way)
            ];
          })
          | inr holds ↦ rw (is, holds) (record {
            below = omega (arith, h.below);
            is_pending = h.is_pending;
            first = λ k lt p. elim (cases_eq k n) [
              | inl e ↦ trans k n j (same_place k n e)
                  (stays j n holds)
              | inr ne ↦ h.first k (omega arith) p
            ];
          })
        ]
        | inr not ↦ rw not (record {
          below = omega (arith, h.below);
          is_pending = h.is_pending;
          first = λ k lt p.
              elim (cases_eq k n) [
                | inl e ↦ absurd (true≢false (sym p ∙ (ap pending e ∙ not)))
                | inr ne ↦ h.first k (omega arith) p
              ];
        })
      ]

  pub outcome : (n : ℕ) → IsOutcome n (best pending active level n)
  unfolding best
  outcome zero = λ k lt. absurd (omega arith)
  outcome (suc n) = step n (best pending active level n) (outcome n)

  pub best_some : (n j : ℕ) → best pending active level n ≡ Some j → IsBest n j
  best_some n j e = subst (IsOutcome n) e (outcome n)

  pub best_none : (n k : ℕ) → best pending active level n ≡ None → k < n → pending k ≡ false
  best_none n k e lt =
      (subst (IsOutcome n) e (outcome n)) k lt

  pub best_exists : (n k : ℕ) → k < n → pending k ≡ true → (j : ℕ)
      × (best pending active level n ≡ Some j)
  best_exists n k lt p =
      elim (best pending active level n) as (λ r. best pending active level n ≡ r → (j : ℕ)
      × (best pending active level n ≡ Some j)) [
        | None ↦ λ e. absurd (true≢false (sym p ∙ best_none n k e lt))
        | Some j ↦ λ e. (j, e)
      ] refl

  -- the pick is the job before which no other pending one may go
  pub best_is : (n j : ℕ) → j < n → pending j ≡ true → ((k : ℕ) → k < n → pending k ≡ true → k ≢ j
      → (active k < active j) ⊎ ((active k ≡ active j) × (level j < level k)))
      → best pending active level n ≡ Some j
  best_is n j lt p h =
      let found : (i : ℕ) × (best pending active level n ≡ Some i) = best_exists n j lt p in
      let i : ℕ = found.0 in
      let is : IsBest n i = best_some n i found.1 in
      elim (cases_eq i j) [
        | inl e ↦ found.1 ∙ ap Some e
        | inr ne ↦
            elim (h i is.below is.is_pending ne) [
              | inl worse ↦ elim (is.first j lt p) [
                | inl better ↦ absurd (omega arith)
                | inr equal ↦ absurd (omega arith)
              ]
              | inr tied ↦ elim (is.first j lt p) [
                | inl better ↦ absurd (omega arith)
                | inr equal ↦ absurd (omega arith)
              ]
            ]
      ]

  pub best_none_is : (n : ℕ) → ((k : ℕ) → k < n → pending k ≡ false)
      → best pending active level n ≡ None
  best_none_is n h =
      elim (best pending active level n) as
      (λ r. best pending active level n ≡ r → best pending active level n ≡ None) [
        | None ↦ λ e. e
        | Some j ↦ λ e. let is : IsBest n j = best_some n j e in
            absurd (true≢false (sym is.is_pending ∙ h j is.below))
      ] refl

-- the pick depends on the pending jobs and on their active priorities alone
pub best_same : (p q : ℕ → Bool) (a b level : ℕ → ℕ) (n : ℕ) → ((k : ℕ) → k < n → p k ≡ q k)
    → ((k : ℕ) → k < n → a k ≡ b k) → best p a level n ≡ best q b level n
unfolding best
best_same p q a b level zero hp ha = refl
best_same p q a b level (suc n) hp ha =
    let before = best_same p q a b level n (λ k lt. hp k (omega arith))
    (λ k lt. ha k (omega arith)) in
    rw before (elim (best q b level n) as
    (λ r. best q b level n ≡ r → better_of p a level r n ≡ better_of q b level r n) [
      | None ↦ λ e. rw (hp n (omega arith))
      | Some k ↦ λ e.
          let lt : k < n = (best_some q b level n k e).below in
          rw (hp n (omega arith), ha n (omega arith), ha k (omega arith))
    ] refl)
