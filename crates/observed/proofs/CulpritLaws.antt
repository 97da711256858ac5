-- Who executed below a level is named, nobody else, and each with its whole time, the longest first.
use Rattle.std.proofs.Common.{◌≡◌, ℕ, zero, suc, ◌<◌, ◌≤◌, nat_lt, Bool, true, false, cond}
use Rattle.std.proofs.Common.{List, [], ◌∷◌, All, Contains, refl, sym, arith, inl, inr, subst, ◌⊎◌}
use Rattle.std.proofs.lemmas.Bool.{and_parts, cases_lt, eq-eqb, le-ltb, lt-ltb, ltb-false, ltb-true}
use Rattle.std.proofs.lemmas.List.Elements.{All-cons, All-head, All-nil, All-tail}
use Rattle.observed.specs.Culprits.{IsCulprit, are_behind, are_sorted, culprit_at, culprits_below, is_before, placed, with_culprit}
use Rattle.observed.specs.Shares.{time_in}
use Rattle.observed.specs.declared.culprits.Culprit.{Culprit}
use Rattle.observed.specs.declared.pieces.Piece.{Piece}
use Rattle.observed.specs.declared.promises.Promise.{Promise}
use Rattle.observed.specs.declared.shares.Whom.TheVariants.{Level}

-- what holds of one and of all others, holds of all
all_placed : (P : Culprit → Type 0) (c : Culprit) (cs : List Culprit) → P c → All P cs
    → All P (placed c cs)
all_placed P c [] one all = All-cons P c [] one all
all_placed P c (d ∷ ds) one all =
    go (nat_lt d.time c.time) (all_placed P c ds one (All-tail P d ds all))
  where
    go : (b : Bool) → All P (placed c ds) → All P (cond b (c ∷ d ∷ ds) (d ∷ placed c ds))
    go true more = All-cons P c (d ∷ ds) one all
    go false more = All-cons P d (placed c ds) (All-head P d ds all) more

-- it is among them
is_placed : (c : Culprit) (cs : List Culprit) → Contains (placed c cs) c
is_placed c [] = (0, omega arith, refl)
is_placed c (d ∷ ds) = go (nat_lt d.time c.time) (is_placed c ds)
  where
    go : (b : Bool) → Contains (placed c ds) c → Contains (cond b (c ∷ d ∷ ds) (d ∷ placed c ds)) c
    go true more = (0, omega arith, refl)
    go false more = (suc more.0, omega (arith, more.1), more.2)

-- and so are the others
stay_placed : (c : Culprit) (cs : List Culprit) (e : Culprit) → Contains cs e
    → Contains (placed c cs) e
stay_placed c [] e (k, lt, is) = absurd (omega (arith, lt))
stay_placed c (d ∷ ds) e held =
    go (nat_lt d.time c.time) held (λ rest. stay_placed c ds e rest)
  where
    go : (b : Bool) → Contains (d ∷ ds) e → (Contains ds e → Contains (placed c ds) e)
        → Contains (cond b (c ∷ d ∷ ds) (d ∷ placed c ds)) e
    go true (k, lt, is) stays = (suc k, omega (arith, lt), is)
    go false (zero, lt, is) stays = (0, omega arith, is)
    go false (suc k, lt, is) stays =
        let more = stays (k, omega (arith, lt), is) in
        (suc more.0, omega (arith, more.1), more.2)

-- ---- in order
longer_before : (c d : Culprit) → d.time < c.time → is_before c d ≡ true
longer_before c d lt = rw (lt-ltb d.time c.time lt) refl

not_shorter_before : (c d : Culprit) → c.time ≤ d.time → d.level < c.level → is_before d c ≡ true
not_shorter_before c d le lower = go (cases_lt c.time d.time)
  where
    go : (c.time < d.time) ⊎ (d.time ≤ c.time) → is_before d c ≡ true
    go (inl lt) = longer_before d c lt
    go (inr ge) =
        let same : c.time ≡ d.time = omega (arith, le, ge) in
        rw (
          le-ltb c.time d.time (omega (arith, same)),
          eq-eqb c.time d.time same,
          lt-ltb d.level c.level lower,
        )
        refl

behind_placed : (b c : Culprit) (cs : List Culprit) → is_before b c ≡ true → are_behind b cs ≡ true
    → All (λ d. d.level < c.level) cs → are_behind b (placed c cs) ≡ true
behind_placed b c [] first behind lower = rw (first) refl
behind_placed b c (d ∷ ds) first behind lower = go (nat_lt d.time c.time) refl
    (λ here. behind_placed d c ds here (and_parts (is_before b d) (are_behind d ds) behind).1
    (All-tail (λ (e : Culprit). e.level < c.level) d ds lower))
  where
    each : (is_before b d ≡ true) × (are_behind d ds ≡ true)
    each = and_parts (is_before b d) (are_behind d ds) behind

    go : (t : Bool) → nat_lt d.time c.time ≡ t
        → (is_before d c ≡ true → are_behind d (placed c ds) ≡ true)
        → are_behind b (cond t (c ∷ d ∷ ds) (d ∷ placed c ds)) ≡ true
    go true lt more = rw (first, longer_before c d (ltb-true d.time c.time lt), each.1) refl
    go false ge more =
        rw (
          each.0,
          more (not_shorter_before c d (ltb-false d.time c.time ge) (All-head (λ (e : Culprit). e.level < c.level) d ds lower)),
        )
        refl

sorted_placed : (c : Culprit) (cs : List Culprit) → are_sorted cs ≡ true
    → All (λ d. d.level < c.level) cs → are_sorted (placed c cs) ≡ true
sorted_placed c [] sorted lower = refl
sorted_placed c (d ∷ ds) sorted lower = go (nat_lt d.time c.time) refl
  where
    go : (t : Bool) → nat_lt d.time c.time ≡ t
        → are_sorted (cond t (c ∷ d ∷ ds) (d ∷ placed c ds)) ≡ true
    go true lt = rw (longer_before c d (ltb-true d.time c.time lt), sorted) refl
    go false ge =
        behind_placed d c ds
        (not_shorter_before c d (ltb-false d.time c.time ge) (All-head (λ (e : Culprit). e.level < c.level) d ds lower)) sorted
        (All-tail (λ (e : Culprit). e.level < c.level) d ds lower)

-- ---- of the tasks below a level
module _ (promises : List Promise) (from to : ℕ) (pieces : List Piece) where
  abbrev one : ℕ → Culprit
  one level = culprit_at promises from to pieces level

  abbrev those : ℕ → List Culprit
  those level = culprits_below promises from to pieces level

  abbrev Is : ℕ → Culprit → Type 0
  Is level c = IsCulprit promises from to pieces level c

  higher : (level : ℕ) → All (Is level) (those level) → All (Is (suc level)) (those level)
  higher level all k d lt =
      let c = all k d lt in
      record {
        below = omega (arith, c.below);
        executes = c.executes;
        whole = c.whole;
      }

  pub all_are : (level : ℕ) → All (Is level) (those level)
  all_are zero = All-nil (Is 0)
  all_are (suc level) = go (nat_lt 0 (one level).time) refl (higher level (all_are level))
    where
      go : (b : Bool) → nat_lt 0 (one level).time ≡ b → All (Is (suc level)) (those level)
          → All (Is (suc level)) (cond b (placed (one level) (those level)) (those level))
      go true some rest = all_placed (Is (suc level)) (one level) (those level)
          (record {
            below = omega arith;
            executes = ltb-true 0 (one level).time some;
            whole = refl;
          })
          rest
      go false none rest = rest

  pub each_is : (level k : ℕ) → k < level → 0 < time_in (Level k) from to pieces
      → Contains (those level) (one k)
  each_is zero k lt some = absurd (omega (arith, lt))
  each_is (suc level) k lt some = elim (cases_lt k level) [
    | inl below ↦ go (nat_lt 0 (one level).time) (each_is level k below some)
    | inr top ↦
        let same : k ≡ level = omega (arith, lt, top) in
        subst (λ (n : ℕ). Contains (with_culprit (one level) (those level)) (one n)) (sym same)
        (here (nat_lt 0 (one level).time) refl
        (subst (λ (n : ℕ). 0 < time_in (Level n) from to pieces) same some))
  ]
    where
      go : (b : Bool) → Contains (those level) (one k)
          → Contains (cond b (placed (one level) (those level)) (those level)) (one k)
      go true held = stay_placed (one level) (those level) (one k) held
      go false held = held

      here : (b : Bool) → nat_lt 0 (one level).time ≡ b → 0 < (one level).time
          → Contains (cond b (placed (one level) (those level)) (those level)) (one level)
      here true is more = is_placed (one level) (those level)
      here false is more = absurd (omega (arith, ltb-false 0 (one level).time is, more))

  pub in_order : (level : ℕ) → are_sorted (those level) ≡ true
  in_order zero = refl
  in_order (suc level) = go (nat_lt 0 (one level).time) (in_order level)
    where
      lower : All (λ d. d.level < level) (those level)
      lower k d lt = (all_are level k d lt).below

      go : (b : Bool) → are_sorted (those level) ≡ true
          → are_sorted (cond b (placed (one level) (those level)) (those level)) ≡ true
      go true sorted = sorted_placed (one level) (those level) sorted lower
      go false sorted = sorted
