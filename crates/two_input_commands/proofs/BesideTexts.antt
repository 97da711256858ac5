-- Where a text of a list and a new set is cut.
use Rattle.std.proofs.Common.{◌≡◌, ℕ, zero, suc, ◌<◌, ◌==◌, true, false, List, [], ◌∷◌, length}
use Rattle.std.proofs.Common.{get_or, take, drop, ap, refl, arith}
use Rattle.two_input_commands.specs.Beside.{list_of, new_of}

none_below : (i : ℕ) → i < 0 → ⊥
none_below i lt = omega (arith, lt)

-- at the first byte 0
pub list_up_to : (text : List ℕ) (i : ℕ) → i < length text
    → ((k : ℕ) → k < i → (get_or text k 0 == 0) ≡ false) → (get_or text i 0 == 0) ≡ true
    → list_of text ≡ take i text
list_up_to [] i lt before here = absurd (none_below i lt)
list_up_to (b ∷ bytes) zero lt before here = rw here refl
list_up_to (b ∷ bytes) (suc i) lt before here =
    let first : (b == 0) ≡ false = before 0 (omega arith) in
    rw first (ap (λ (l : List ℕ). b ∷ l)
    (list_up_to bytes i (omega (arith, lt)) (λ k less. before (suc k) (omega (arith, less))) here))

pub new_behind : (text : List ℕ) (i : ℕ) → i < length text
    → ((k : ℕ) → k < i → (get_or text k 0 == 0) ≡ false) → (get_or text i 0 == 0) ≡ true
    → new_of text ≡ drop (suc i) text
new_behind [] i lt before here = absurd (none_below i lt)
new_behind (b ∷ bytes) zero lt before here = rw here refl
new_behind (b ∷ bytes) (suc i) lt before here =
    let first : (b == 0) ≡ false = before 0 (omega arith) in
    rw first (new_behind bytes i (omega (arith, lt))
    (λ k less. before (suc k) (omega (arith, less))) here)

-- or where there is none
pub list_whole : (text : List ℕ)
    → ((k : ℕ) → k < length text → (get_or text k 0 == 0) ≡ false) → list_of text ≡ text
list_whole [] none = refl
list_whole (b ∷ bytes) none =
    let first : (b == 0) ≡ false = none 0 (omega arith) in
    rw first (ap (λ (l : List ℕ). b ∷ l)
    (list_whole bytes (λ k less. none (suc k) (omega (arith, less)))))

pub new_none : (text : List ℕ)
    → ((k : ℕ) → k < length text → (get_or text k 0 == 0) ≡ false) → new_of text ≡ []
new_none [] none = refl
new_none (b ∷ bytes) none =
    let first : (b == 0) ≡ false = none 0 (omega arith) in
    rw first (new_none bytes (λ k less. none (suc k) (omega (arith, less))))
