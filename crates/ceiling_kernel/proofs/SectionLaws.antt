-- What is left of the section that a job is inside of, where its ceiling reaches a level.
use Rattle.std.proofs.Common.{ℕ, zero, suc, ◌+◌, ◌-◌, ◌<◌, ◌≤◌, ◌≡◌, inl, inr, refl, ap, ◌∙◌, subst}
use Rattle.std.proofs.Common.{arith, if◌then◌else◌, true, false, ◌&&◌, max, List, [], ◌∷◌, nat_le}
use Rattle.std.proofs.Common.{nat_lt}
use Rattle.std.proofs.lemmas.Bool.{cases_lt, cases_Bool, lt-ltb, le-ltb, le-leb, lt-leb, leb-true}
use Rattle.std.proofs.lemmas.Bool.{ltb-true, and_parts, and_left, and_right, and_from}
use Rattle.task_sheet.proofs.Common.{CriticalSection, Indexes, reaches, greatest_of}
use Rattle.ceiling_kernel.specs.Tick.{Node, is_inside, top_ceiling, held_ceiling}
use Rattle.ceiling_kernel.specs.Behaviours.{AreTaken, AreApart}
use Rattle.ceiling_kernel.proofs.BehaviourLaws.{covered-le}

pub inside_true : (s : CriticalSection) (e : ℕ) → is_inside s e ≡ true → (s.at < e)
    × (e < s.at + s.len)
inside_true s e h =
    let p = and_parts (nat_lt s.at e) (nat_lt e (s.at + s.len)) h in
    (ltb-true s.at e p.0, ltb-true e (s.at + s.len) p.1)

pub inside_from : (s : CriticalSection) (e : ℕ) → s.at < e → e < s.at + s.len → is_inside s e ≡ true
inside_from s e lo hi = and_from (nat_lt s.at e) (nat_lt e (s.at + s.len)) (lt-ltb s.at e lo)
    (lt-ltb e (s.at + s.len) hi)

pub outside_before : (s : CriticalSection) (e : ℕ) → e ≤ s.at → is_inside s e ≡ false
outside_before s e h = and_left (nat_lt s.at e) (nat_lt e (s.at + s.len)) (le-ltb s.at e h)

pub outside_after : (s : CriticalSection) (e : ℕ) → s.at + s.len ≤ e → is_inside s e ≡ false
outside_after s e h =
    and_right (nat_lt s.at e) (nat_lt e (s.at + s.len)) (le-ltb e (s.at + s.len) h)

module _ (node : Node) (level : ℕ) where
  abbrev pub rest_of : List CriticalSection → ℕ → ℕ
  rest_of [] e = 0
  rest_of (s ∷ ss) e = if is_inside s e
      && nat_le level (top_ceiling node s.locks) then (s.at + s.len) - e else rest_of ss e

  -- what holds where a job is inside of a section, and its ceiling reaches the level
  of_reaching : (s : CriticalSection) (e : ℕ)
      → is_inside s e && nat_le level (top_ceiling node s.locks) ≡ true
      → (is_inside s e ≡ true) × (nat_le level (top_ceiling node s.locks) ≡ true) × (s.at < e)
      × (e < s.at + s.len)
  of_reaching s e reaching =
      let p = and_parts (is_inside s e) (nat_le level (top_ceiling node s.locks)) reaching in
      let b : (s.at < e) × (e < s.at + s.len) = inside_true s e p.0 in
      (p.0, p.1, b.0, b.1)

  -- before the sections begin, none is left
  pub rest_before : (begin cost : ℕ) (ss : List CriticalSection) (e : ℕ) → AreApart begin ss cost
      → e ≤ begin → rest_of ss e ≡ 0
  rest_before begin cost [] e apart h = refl
  rest_before begin cost (s ∷ ss) e apart h =
      let out : is_inside s e ≡ false = outside_before s e (omega arith) in
      rw out (rest_before (s.at + s.len) cost ss e apart.2 (omega arith))

  pub rest_after : (begin cost : ℕ) (ss : List CriticalSection) (e : ℕ) → AreApart begin ss cost
      → 0 < rest_of ss e → (begin < e) × (e < cost)
  rest_after begin cost [] e apart h = absurd (omega arith)
  rest_after begin cost (s ∷ ss) e apart h =
      elim (cases_Bool (is_inside s e && nat_le level (top_ceiling node s.locks))) [
        | inl reaching ↦
            let p = of_reaching s e reaching in
            let c : s.at + s.len ≤ cost = end_within (s.at + s.len) cost ss apart.2 in
            (omega arith, omega arith)
        | inr not_it ↦
            let later : 0 < rest_of ss e = rw not_it at h in
            let r = rest_after (s.at + s.len) cost ss e apart.2 later in
            (omega arith, r.1)
      ]
    where
      end_within : (begin cost : ℕ) (ss : List CriticalSection) → AreApart begin ss cost
          → begin ≤ cost
      end_within begin cost [] apart = apart
      end_within begin cost (s ∷ ss) apart = let c = end_within (s.at + s.len) cost ss apart.2 in
          omega arith

  -- one tick takes one from it
  pub rest_next_of : (begin cost : ℕ) (ss : List CriticalSection) (e : ℕ) → AreApart begin ss cost
      → 0 < rest_of ss e → rest_of ss e ≡ suc (rest_of ss (suc e))
  rest_next_of begin cost [] e apart h = absurd (omega arith)
  rest_next_of begin cost (s ∷ ss) e apart h =
      elim (cases_Bool (is_inside s e && nat_le level (top_ceiling node s.locks))) [
        | inl reaching ↦
            let p = of_reaching s e reaching in
            elim (cases_lt (suc e) (s.at + s.len)) [
              | inl still ↦
                  let still_in = inside_from s (suc e) (omega arith) still in
                  rw (p.0, p.1, still_in) (omega arith)
              | inr left ↦
                  let none = rest_before (s.at + s.len) cost ss (suc e) apart.2 (omega arith) in
                  rw (p.0, p.1, outside_after s (suc e) left, none) (omega arith)
            ]
        | inr not_it ↦
            let later : 0 < rest_of ss e = rw not_it at h in
            let r = rest_after (s.at + s.len) cost ss e apart.2 later in
            let out : is_inside s (suc e) ≡ false = outside_after s (suc e) (omega arith) in
            rw (not_it, out) (rest_next_of (s.at + s.len) cost ss e apart.2 later)
      ]

  -- it is less than the longest section of the sheet that some tasks reach, where they reach each one whose ceiling reaches the level: the first tick is executed
  pub rest-le : (X : Indexes)
      → ((s : CriticalSection) → level ≤ top_ceiling node s.locks → reaches node.tasks X s ≡ true)
      → (declared : List CriticalSection) (from executes : ℕ) (ss : List CriticalSection) (e : ℕ)
      → AreTaken declared from executes ss
      → rest_of ss e ≤ greatest_of (λ s. if reaches node.tasks X s then s.len else 0) declared - 1
  rest-le X all declared from executes [] e taken = omega arith
  rest-le X all declared from executes (s ∷ ss) e taken =
      let ih = rest-le X all declared (s.at + s.len) executes ss e taken.3 in
      elim (cases_Bool (is_inside s e && nat_le level (top_ceiling node s.locks))) [
        | inl reaching ↦
            let p = of_reaching s e reaching in
            let most = covered-le node level X all declared s taken.2
            (leb-true level (top_ceiling node s.locks) p.1) in
            rw (p.0, p.1) (omega (arith, p.2, p.3, most))
        | inr not_it ↦ rw not_it (omega arith)
      ]

  -- a section is left exactly where the held ceiling reaches the level
  pub rest_from_held : (ss : List CriticalSection) (e : ℕ) → 0 < level
      → level ≤ held_ceiling node ss e → 0 < rest_of ss e
  rest_from_held [] e some h = absurd (omega arith)
  rest_from_held (s ∷ ss) e some h =
      elim (cases_Bool (is_inside s e)) [
        | inl inside ↦
            let b : (s.at < e) × (e < s.at + s.len) = inside_true s e inside in
            elim (cases_lt (top_ceiling node s.locks) level) [
              | inr reaches ↦
                  rw (inside, le-leb level (top_ceiling node s.locks) reaches) (omega arith)
              | inl low ↦
                  let h' : level ≤ max (top_ceiling node s.locks) (held_ceiling node ss e) =
                  rw inside at h in
                  let ih : 0 < rest_of ss e = rest_from_held ss e some (omega arith) in
                  rw (inside, lt-leb level (top_ceiling node s.locks) low) ih
            ]
        | inr outside ↦
            let h' : level ≤ max 0 (held_ceiling node ss e) = rw outside at h in
            let ih : 0 < rest_of ss e = rest_from_held ss e some (omega arith) in
            rw outside ih
      ]

  pub held_from_rest : (ss : List CriticalSection) (e : ℕ) → 0 < rest_of ss e
      → level ≤ held_ceiling node ss e
  held_from_rest [] e h = absurd (omega arith)
  held_from_rest (s ∷ ss) e h =
      elim (cases_Bool (is_inside s e && nat_le level (top_ceiling node s.locks))) [
        | inl reaching ↦
            let p = of_reaching s e reaching in
            rw p.0 (omega (arith, leb-true level (top_ceiling node s.locks) p.1))
        | inr not_it ↦
            let later : 0 < rest_of ss e = rw not_it at h in
            omega (arith, held_from_rest ss e later)
      ]

  -- ---- for how many of n ticks from e on the ceiling that is held reaches the level without a break
  abbrev pub stretch : List CriticalSection → ℕ → ℕ → ℕ
  stretch ss zero e = 0
  stretch ss (suc n) e =
      if nat_le level (held_ceiling node ss e) then suc (stretch ss n (suc e)) else 0

  pub stretch_held : (ss : List CriticalSection) (n e : ℕ) → 0 < stretch ss n e
      → level ≤ held_ceiling node ss e
  stretch_held ss zero e h = absurd (omega arith)
  stretch_held ss (suc n) e h = elim (cases_Bool (nat_le level (held_ceiling node ss e))) [
    | inl t ↦ leb-true level (held_ceiling node ss e) t
    | inr f ↦ (let none : 0 < 0 = rw f at h in absurd (omega arith))
  ]

  pub stretch_from : (ss : List CriticalSection) (n e : ℕ) → 0 < n → level ≤ held_ceiling node ss e
      → 0 < stretch ss n e
  stretch_from ss zero e some h = absurd (omega arith)
  stretch_from ss (suc n) e some h = rw (le-leb level (held_ceiling node ss e) h) (omega arith)

  stretch_step : (ss : List CriticalSection) (n e : ℕ) → 0 < stretch ss (suc n) e
      → stretch ss (suc n) e ≡ suc (stretch ss n (suc e))
  stretch_step ss n e h = (let t = le-leb level (held_ceiling node ss e)
      (stretch_held ss (suc n) e h) in rw t)

  pub stretch_next : (ss : List CriticalSection) (x e : ℕ) → e < x → 0 < stretch ss (x - e) e
      → stretch ss (x - e) e ≡ suc (stretch ss (x - suc e) (suc e))
  stretch_next ss x e lt h =
      let n : x - e ≡ suc (x - suc e) = omega arith in
      let h' : 0 < stretch ss (suc (x - suc e)) e = subst (λ k. 0 < stretch ss k e) n h in
      ap (λ k. stretch ss k e) n ∙ stretch_step ss (x - suc e) e h'

  -- it lies within what is left of a span
  pub stretch-le : (some : 0 < level) (begin cost : ℕ) (ss spans : List CriticalSection)
      → AreApart begin spans cost → ((e : ℕ) → held_ceiling node ss e ≤ held_ceiling node spans e)
      → (n e : ℕ) → stretch ss n e ≤ rest_of spans e
  stretch-le some begin cost ss spans apart above zero e = omega arith
  stretch-le some begin cost ss spans apart above (suc n) e =
      elim (cases_Bool (nat_le level (held_ceiling node ss e))) [
        | inl t ↦
            let high : level ≤ held_ceiling node ss e = leb-true level (held_ceiling node ss e) t in
            let up : held_ceiling node ss e ≤ held_ceiling node spans e = above e in
            let left : 0 < rest_of spans e = rest_from_held spans e some (omega arith) in
            rw t (omega (
              arith,
              rest_next_of begin cost spans e apart left,
              stretch-le some begin
                  cost ss spans apart above n (suc e),
            ))
        | inr f ↦ rw f (omega arith)
      ]
