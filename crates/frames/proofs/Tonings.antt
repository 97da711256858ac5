-- How many tones names have.
use Rattle.std.proofs.Common.{◌≡◌, ◌+◌, ℕ, List, [], ◌∷◌, ◌++◌, length, arith, length-append}
use Rattle.frames.specs.Tones.{toned_after, toned_behind}
use Rattle.frames.specs.declared.tones.Toned.{Toned}

-- one each
pub toned_count : (count : ℕ) (given : List Toned) (names : List (List ℕ))
    → length (toned_after count given names) ≡ length given + length names
toned_count count given [] = omega arith
toned_count count given (name ∷ names) =
    let behind = toned_behind count given name ∷ [] in
    omega (arith, toned_count count (given ++ behind) names, length-append given behind)
