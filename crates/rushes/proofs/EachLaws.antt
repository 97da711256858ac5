-- Two lists, place by place.
use Rattle.std.proofs.Common.{◌≡◌, ◌≤◌, ◌+◌, ◌∙◌, ℕ, List, [], ◌∷◌, ◌++◌, length, arith, ap, sym}
use Rattle.std.proofs.Common.{append_assoc}
use Rattle.std.proofs.lemmas.List.{append-nil}
use Rattle.rushes.specs.RushFaults.{Each}

pub Each-push : {X Y : Type 0} (R : X → Y → Type 0) (xs : List X) (ys : List Y) (x : X) (y : Y)
    → Each R xs ys → R x y → Each R (xs ++ x ∷ []) (ys ++ y ∷ [])
Each-push R [] [] x y all one = (one, tt)
Each-push R (a ∷ xs) (b ∷ ys) x y all one = (all.0, Each-push R xs ys x y all.1 one)
Each-push R xs ys x y all one = absurd all

-- what is related to the same is related
pub Each-joined : {X Y Z : Type 0} (R : X → Y → Type 0) (S : X → Z → Type 0) (E : Y → Z → Type 0)
    (xs : List X) (ys : List Y) (zs : List Z)
    → ((x : X) (y : Y) (z : Z) → R x y → S x z → E y z) → Each R xs ys → Each S xs zs → Each E ys zs
Each-joined R S E [] [] [] step one two = tt
Each-joined R S E (x ∷ xs) (y ∷ ys) (z ∷ zs) step one two =
    (step x y z one.0 two.0, Each-joined R S E xs ys zs step one.1 two.1)
Each-joined R S E [] (y ∷ ys) zs step one two = absurd one
Each-joined R S E (x ∷ xs) [] zs step one two = absurd one
Each-joined R S E [] [] (z ∷ zs) step one two = absurd two
Each-joined R S E (x ∷ xs) (y ∷ ys) [] step one two = absurd two

-- ---- a list that is worked off
-- of all items these are done and these are left, so many; and there is room for one thing more for each of them
pub record WorkedOff {X : Type 0} (done left all : List X) (count made space : ℕ) : Type 0 where
  pub counted : length left ≡ count
  pub room : made + count ≤ space
  pub rest : done ++ left ≡ all

-- one item more is done, and one thing made of it
pub one_more : {X : Type 0} (done left next all : List X) (x : X) (m n made more space still : ℕ)
    → WorkedOff done left all m made space → (left ≡ x ∷ next) × (n + 1 ≡ m) → more ≡ made + 1
    → still ≡ space → WorkedOff (done ++ x ∷ []) next all n more still
one_more done left next all x m n made more space still was step grown same =
    let fewer = ap length step.0 in
    record {
      counted = omega (arith, fewer, step.1, was.counted);
      room = omega (arith, grown, same, step.1, was.room);
      rest = append_assoc done (x ∷ []) next ∙ ap (λ xs. done ++ xs) (sym step.0) ∙ was.rest;
    }

-- nothing is left
pub all_done : {X : Type 0} (done left all : List X) (count made space : ℕ)
    → WorkedOff done left all count made space → count ≡ 0 → done ≡ all
all_done done [] all count made space was none = sym (append-nil done) ∙ was.rest
all_done done (x ∷ left) all count made space was none = absurd (omega (arith, was.counted))
