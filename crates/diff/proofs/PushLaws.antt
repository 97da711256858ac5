-- A text to which the lines of more and more places are put.
use Rattle.std.proofs.Common.{◌≡◌, ◌∙◌, ℕ, suc, ◌+◌, List, ◌++◌, append_assoc, ap, arith}
use Rattle.diff.specs.Keys.{words_below}

pub pushed : (n : ℕ) (line : ℕ → List ℕ) (start before after : List ℕ) → before ≡ start
    ++ words_below n line → after ≡ before ++ line n → after ≡ start ++ words_below (n + 1) line
pushed n line start before after so more =
    let next : n + 1 ≡ suc n = omega arith in
    rw next (more ∙ ap (λ t. t ++ line n) so ∙ append_assoc start (words_below n line) (line n))
