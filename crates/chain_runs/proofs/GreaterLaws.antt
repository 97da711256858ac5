-- The greater of two numbers, of which either may be absent.
use Rattle.std.proofs.Common.{◌≡◌, ◌∙◌, ℕ, max, Option, Some, None, refl, ap, arith}
use Rattle.chain_runs.specs.Outcomes.{greater}

assoc : (a b c : Option ℕ) → greater (greater a b) c ≡ greater a (greater b c)
assoc None b c = refl
assoc (Some a) None c = refl
assoc (Some a) (Some b) None = refl
assoc (Some a) (Some b) (Some c) =
    (let e : max (max a b) c ≡ max a (max b c) = omega arith in ap Some e)

-- one more of a list is taken up
pub taken_up : (found here rest all next : Option ℕ) → next ≡ greater found here
    → greater found (greater here rest) ≡ all → greater next rest ≡ all
taken_up found here rest all next e same =
    ap (λ x. greater x rest) e ∙ (assoc found here rest ∙ same)

-- nothing is taken up at the end
pub at_end : (found : Option ℕ) → greater found None ≡ found
at_end None = refl
at_end (Some x) = refl
