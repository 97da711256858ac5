-- The rows that are shown.
use Rattle.std.proofs.Common.{◌≡◌, ◌∙◌, ℕ, ◌+◌, List, [], ◌∷◌, ◌++◌, Bool, true, false, refl}
use Rattle.std.proofs.Common.{ap, arith, add-one, append-nil}
use Rattle.std.specs.Prelude.{zero, suc}
use Rattle.std.specs.List.{filter, range_with_len}
use Rattle.std.proofs.lemmas.List.Elements.{filter-append}
use Rattle.frames.specs.View.{noted_rank}

range_more : (a n j : ℕ) → a + n ≡ j → range_with_len a (suc n) ≡ range_with_len a n ++ j ∷ []
range_more a zero j e = let same : a ≡ j = omega (arith, e) in rw same refl
range_more a (suc n) j e =
    ap (λ (l : List ℕ). a ∷ l) (range_more (a + 1) n j (omega (arith, e)))

noted_by : (p : ℕ → Bool) (ranks : List ℕ) (n : ℕ) (b : Bool) → p n ≡ b
    → ranks ++ filter p (n ∷ []) ≡ noted_rank ranks n b
noted_by p ranks n true h = rw h refl
noted_by p ranks n false h = rw h (append-nil ranks)

-- one row more
pub shown_more : (p : ℕ → Bool) (n : ℕ) → filter p (range_with_len 0 (n + 1))
    ≡ noted_rank (filter p (range_with_len 0 n)) n (p n)
shown_more p n = rw (add-one n) (ap (λ (l : List ℕ). filter p l) (range_more 0 n n (omega arith))
    ∙ filter-append p (range_with_len 0 n) (n ∷ [])
    ∙ noted_by p (filter p (range_with_len 0 n)) n (p n) refl)
