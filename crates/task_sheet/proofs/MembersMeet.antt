-- Two sets of places have one in common where the two numbers have a bit in common.
use Rattle.std.proofs.Common.{◌≡◌, ℕ, zero, suc, ◌+◌, ◌^◌, ◌%◌, ◌<◌, Bool, true, false, ◌||◌, ◌&&◌}
use Rattle.std.proofs.Common.{not, nat_lt, nat_eq, cond, min, bit_and, refl, sym, ◌∙◌, ap, arith}
use Rattle.std.specs.Int.{bit_at}
use Rattle.std.proofs.lemmas.Nat.Bits.{bit_at_and, bit_at-lt}
use Rattle.std.proofs.lemmas.Nat.{and_le_l, pow_pos}
use Rattle.std.proofs.lemmas.Bool.Decides.{nat_tests}
use Rattle.task_sheet.specs.Indexes.{indexes_of, some_below, meet}
use Rattle.task_sheet.specs.Members.{number_of_bits, has_bit, places}
use Rattle.task_sheet.specs.MembersLaws.{contains-set_of, number_of-bits}

pub some_below-congr : (w : ℕ) (p q : ℕ → Bool) → ((k : ℕ) → k < w → p k ≡ q k)
    → some_below w p ≡ some_below w q
some_below-congr zero p q h = refl
some_below-congr (suc w) p q h =
    let last : p w ≡ q w = h w (omega arith) in
    rw (some_below-congr w p q (λ k l. h k (omega arith)), last)

some_step : (s b : Bool) (p n : ℕ) → 0 < p → s ≡ not (nat_eq n 0)
    → (s || b) ≡ not (nat_eq (cond b p 0 + n) 0)
some_step s true p n pos e = grind (arith, nat_tests)
some_step s false p n pos e = grind (arith, nat_tests)

-- a number is 0 where it has no bit
some_bit : (f : ℕ → Bool) (w : ℕ) → some_below w f ≡ not (nat_eq (number_of_bits f w) 0)
unfolding number_of_bits
some_bit f zero = refl
some_bit f (suc w) =
    some_step (some_below w f) (f w) (2 ^ w) (number_of_bits f w) (pow_pos w) (some_bit f w)

both_bits : (k x y z : ℕ) (p q : Bool) → k < 32 → x < 2 → y < 2 → z ≡ min x y
    → p ≡ (nat_lt k 32 && nat_eq x 1) → q ≡ (nat_lt k 32 && nat_eq y 1) → nat_eq z 1 ≡ (p && q)
both_bits k x y z p q h lx ly e f g = grind (arith, nat_tests)

pub meet-places : (n m : ℕ) → n < 2 ^ 32
    → not (nat_eq (bit_and n m) 0) ≡ meet (indexes_of (places n)) (indexes_of (places m))
unfolding meet
meet-places n m fits =
    let whole : bit_and n m % 2 ^ 32 ≡ bit_and n m = omega (arith, and_le_l n m) in
    let same : some_below 32 (has_bit (bit_and n m))
    ≡ some_below 32 (λ k. indexes_of (places n) k && indexes_of (places m) k) =
    some_below-congr 32 (has_bit (bit_and n m))
    (λ k. indexes_of (places n) k && indexes_of (places m) k)
    (λ k l. both_bits k (bit_at n k) (bit_at m k) _ _ _ l (bit_at-lt n k) (bit_at-lt m k)
    (bit_at_and n m k) (contains-set_of (has_bit n) 32 k) (contains-set_of (has_bit m) 32 k)) in
    sym (sym same ∙ some_bit (has_bit (bit_and n m)) 32
    ∙ ap (λ x. not (nat_eq x 0)) (number_of-bits (bit_and n m) 32 ∙ whole))
