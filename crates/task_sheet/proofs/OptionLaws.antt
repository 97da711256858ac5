-- The first of two options that is there.
use Rattle.std.proofs.Common.{◌≡◌, Option, Some, None, refl}
use Rattle.std.specs.Option.{option_or}

pub option_or-none : {A : Type 0} (o : Option A) → option_or o None ≡ o
option_or-none None = refl
option_or-none (Some x) = refl

pub option_or-assoc : {A : Type 0} (o p q : Option A)
    → option_or (option_or o p) q ≡ option_or o (option_or p q)
option_or-assoc None p q = refl
option_or-assoc (Some x) p q = refl

-- it is none where both are
pub option_or-parts : {A : Type 0} (o p : Option A) → option_or o p ≡ None → (o ≡ None)
    × (p ≡ None)
option_or-parts None p e = (refl, e)
option_or-parts (Some x) p e = absurd cc
