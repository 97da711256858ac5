-- Texts one after the other.
use Rattle.std.proofs.Common.{◌≡◌, ◌∙◌, ℕ, ◌+◌, ◌++◌, List, refl, ap, sym, add-one}
use Rattle.std.proofs.Common.{append-nil, append_assoc}
use Rattle.frames.specs.PictureRows.{each}

-- one more
pub each_more : (text : ℕ → List ℕ) (n : ℕ) → each (n + 1) text ≡ each n text ++ text n
unfolding each
each_more text n = rw (add-one n) refl

-- none is put yet
pub each_init : (start : List ℕ) (text : ℕ → List ℕ) → start ≡ start ++ each 0 text
unfolding each
each_init start text = sym (append-nil start)

-- one more is put
pub each_next : (start old new : List ℕ) (text : ℕ → List ℕ) (n : ℕ)
    → old ≡ start ++ each n text → new ≡ old ++ text n → new ≡ start ++ each (n + 1) text
each_next start old new text n so_far put =
    put ∙ ap (λ (l : List ℕ). l ++ text n) so_far ∙ append_assoc start (each n text) (text n)
    ∙ ap (λ (l : List ℕ). start ++ l) (sym (each_more text n))
