-- Sums over places.
use Rattle.std.proofs.Common.{◌≡◌, ℕ, suc, zero, ◌+◌, ◌-◌, ◌<◌, ◌≤◌, List, length, get_or}
use Rattle.std.proofs.Common.{take, Bool, refl, sym, ap, ◌∙◌, arith, add-one}
use Rattle.std.specs.Prelude.{if◌then◌else◌}
use Rattle.std.specs.List.{filter}
use Rattle.std.proofs.lemmas.List.Filters.{length-filter_more}
use Rattle.task_sheet.specs.Indexes.{sum_below}
use Rattle.task_sheet.proofs.Below.{sum_below-both, sum_below-one}

-- nothing comes to nothing
pub zeros : (n : ℕ) (f : ℕ → ℕ) → ((k : ℕ) → k < n → f k ≡ 0) → sum_below n f ≡ 0
zeros zero f none = refl
zeros (suc n) f none =
    omega (arith, zeros n f (λ k lt. none k (omega (arith, lt))), none n (omega arith))

pub ones : (n : ℕ) → sum_below n (λ k. 1) ≡ n
ones zero = refl
ones (suc n) = omega (arith, ones n)

-- by rows or by columns
pub swapped : (n m : ℕ) (h : ℕ → ℕ → ℕ)
    → sum_below n (λ a. sum_below m (h a)) ≡ sum_below m (λ b. sum_below n (λ a. h a b))
swapped zero m h = sym (zeros m (λ b. 0) (λ k lt. refl))
swapped (suc n) m h =
    omega (arith, swapped n m h, sum_below-both m (λ b. sum_below n (λ a. h a b)) (h n))

-- one term is 1, all others are nothing
pub single : (n : ℕ) (f : ℕ → ℕ) (p : ℕ) → p < n → f p ≡ 1 → ((m : ℕ) → (m ≡ p → ⊥) → f m ≡ 0)
    → sum_below n f ≡ 1
single n f p lt one others = omega (
  arith,
  one,
  zeros n (λ k. 0) (λ k below. refl),
  sum_below-one n f (λ k. 0) p lt (λ k below. others k),
)

-- in two parts
parted : (a b : ℕ) (g : ℕ → ℕ) → sum_below (a + b) g ≡ sum_below a g + sum_below b (λ j. g (a + j))
parted a zero g = (let same : a + 0 ≡ a = omega arith in
    omega (arith, ap (λ (n : ℕ). sum_below n g) same))
parted a (suc b) g = (let same : a + suc b ≡ suc (a + b) = omega arith in
    omega (arith, ap (λ (n : ℕ). sum_below n g) same, parted a b g))

-- what lies outside a stretch is nothing
pub stretched : (n v len : ℕ) (g : ℕ → ℕ) → n ≤ v → v ≤ len → ((j : ℕ) → j < n → g j ≡ 0)
    → ((j : ℕ) → v ≤ j → g j ≡ 0)
    → sum_below len g ≡ sum_below (v - n) (λ j. g (n + j))
stretched n v len g lo hi before behind =
    let whole : len ≡ n + ((v - n) + (len - v)) = omega (arith, lo, hi) in
    omega (
      arith,
      ap (λ (k : ℕ). sum_below k g) whole,
      parted n ((v - n) + (len - v)) g,
      zeros n g before,
      parted (v - n) (len - v) (λ j. g (n + j)),
      zeros (len - v) (λ j. g (n + ((v - n) + j)))
          (λ k lt. behind (n + ((v - n) + k)) (omega (arith, lo))),
    )

-- how many of the first m items pass a test
pub passing : {X : Type 0} (p : X → Bool) (xs : List X) (d : X) (m : ℕ) → m ≤ length xs
    → length (filter p (take m xs)) ≡ sum_below m (λ j. if p (get_or xs j d) then 1 else 0)
passing p xs d zero le = refl
passing p xs d (suc m) le =
    ap (λ (k : ℕ). length (filter p (take k xs))) (sym (add-one m))
    ∙ length-filter_more p xs m d (omega (arith, le))
    ∙ ap (λ (k : ℕ). k + (if p (get_or xs m d) then 1 else 0))
    (passing p xs d m (omega (arith, le)))
