-- Of finitely many numbers, some of which have a key, there is one of greatest key, if any has one.
use Rattle.std.proofs.Common.{ℕ, zero, suc, ◌<◌, ◌≤◌, ◌⊎◌, inl, inr, subst, arith}
use Rattle.std.proofs.lemmas.Bool.{cases_eq, cases_lt}

module _ (P : ℕ → ℕ → Type 0) (cases : (j : ℕ) → ((f : ℕ) → P j f → ⊥) ⊎ ((f : ℕ) × P j f))
    (once : (j f g : ℕ) → P j f → P j g → g ≤ f) where
  abbrev pub NoneBelow : ℕ → Type 0
  NoneBelow n = (j f : ℕ) → j < n → P j f → ⊥

  pub record IsGreatest (n j : ℕ) : Type 0 where
    pub below : j < n
    pub key : ℕ
    pub has : P j key
    pub last : (k g : ℕ) → k < n → P k g → g ≤ key

  abbrev pub Found : ℕ → Type 0
  Found n = NoneBelow n ⊎ ((j : ℕ) × IsGreatest n j)

  skipped : (n : ℕ) → ((f : ℕ) → P n f → ⊥) → Found n → Found (suc n)
  skipped n out (inl none) = inl (λ j f lt has. elim (cases_eq j n) [
    | inl same ↦ out f (subst (λ x. P x f) same has)
    | inr ne ↦ none j f (omega arith) has
  ])
  skipped n out (inr best) = inr (
    best.0,
    record {
      below = omega (arith, best.1.below);
      key = best.1.key;
      has = best.1.has;
      last = λ k g lt has. elim (cases_eq k n) [
        | inl same ↦ absurd (out g (subst (λ x. P x g) same has))
        | inr ne ↦ best.1.last k g (omega arith) has
      ];
    },
  )

  taken : (n f : ℕ) → P n f → Found n → Found (suc n)
  taken n f mine (inl none) = inr (
    n,
    record {
      below = omega arith;
      key = f;
      has = mine;
      last = λ k g lt has. elim (cases_eq k n) [
        | inl same ↦ once n f g mine (subst (λ x. P x g) same has)
        | inr ne ↦ absurd (none k g (omega arith) has)
      ];
    },
  )
  taken n f mine (inr best) = elim (cases_lt best.1.key f) [
    | inl newer ↦ inr (
      n,
      record {
        below = omega arith;
        key = f;
        has = mine;
        last = λ k g lt has. elim (cases_eq k n) [
          | inl same ↦ once n f g mine (subst (λ x. P x g) same has)
          | inr ne ↦ omega (arith, best.1.last k g (omega arith) has)
        ];
      },
    )
    | inr older ↦ inr (
      best.0,
      record {
        below = omega (arith, best.1.below);
        key = best.1.key;
        has = best.1.has;
        last = λ k g lt has. elim (cases_eq k n) [
          | inl same ↦ omega (arith, once n f g mine (subst (λ x. P x g) same has))
          | inr ne ↦ best.1.last k g (omega arith) has
        ];
      },
    )
  ]

  pub greatest : (n : ℕ) → Found n
  greatest zero = inl (λ j f lt. absurd (omega arith))
  greatest (suc n) =
      elim (cases n) [
        | inl out ↦ skipped n out (greatest n)
        | inr found ↦ taken n found.0 found.1 (greatest n)
      ]

  -- where one has a key
  pub greatest_of_some : (n j f : ℕ) → j < n → P j f → (k : ℕ) × IsGreatest n k
  greatest_of_some n j f lt has =
      elim (greatest n) [ inl none ↦ absurd (none j f lt has) | inr best ↦ best ]
