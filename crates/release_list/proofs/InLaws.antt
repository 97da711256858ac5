-- What stands in a list, and how each pair of it is related.
use Rattle.std.proofs.Common.{◌≡◌, ℕ, zero, suc, ◌<◌, ◌⊎◌, inl, inr, Bool, true, false, cond, List}
use Rattle.std.proofs.Common.{[], ◌∷◌, ◌++◌, length, map, get_or, refl, arith}
use Rattle.std.specs.List.{filter}

pub data In {X : Type 0} : X → List X → Type 0 where
  here : {x : X} {xs : List X} → In x (x ∷ xs)
  there : {x y : X} {xs : List X} → In x xs → In x (y ∷ xs)

-- each that stands before another is related to it
pub data Pairs {X : Type 0} (R : X → X → Type 0) : List X → Type 0 where
  none : Pairs R []
  more : {x : X} {xs : List X} → ((y : X) → In y xs → R x y) → Pairs R xs → Pairs R (x ∷ xs)

pub in_none : {X : Type 0} {x : X} {A : Type 0} → In x [] → A
in_none at = elim at [ ]

pub only : {X : Type 0} {x y : X} → In x (y ∷ []) → y ≡ x
only here = refl
only (there at) = in_none at

pub alone : {X : Type 0} {R : X → X → Type 0} {x : X} → Pairs R (x ∷ [])
alone = more (λ y at. in_none at) none

-- ---- by places
pub in_at : {X : Type 0} (xs : List X) (n : ℕ) (d : X) → n < length xs → In (get_or xs n d) xs
in_at [] n d lt = absurd (omega arith)
in_at (x ∷ xs) zero d lt = here
in_at (x ∷ xs) (suc n) d lt = there (in_at xs n d (omega arith))

pub place_of : {X : Type 0} {x : X} {xs : List X} (d : X) → In x xs → (n : ℕ) × (n < length xs)
    × (get_or xs n d ≡ x)
place_of d here = (0, omega arith, refl)
place_of d (there at) = (let p = place_of d at in (suc p.0, omega (arith, p.1), p.2))

pub pairs_at : {X : Type 0} {R : X → X → Type 0} {xs : List X} (m n : ℕ) (d : X) → Pairs R xs
    → m < n → n < length xs → R (get_or xs m d) (get_or xs n d)
pairs_at m n d none less lt = absurd (omega arith)
pairs_at m zero d (more first rest) less lt = absurd (omega arith)
pairs_at zero (suc n) d (more first rest) less lt = first _ (in_at _ n d (omega arith))
pairs_at (suc m) (suc n) d (more first rest) less lt =
    pairs_at m n d rest (omega arith) (omega arith)

-- of two that stand in it one comes first
pub pairs_either : {X : Type 0} {R : X → X → Type 0} {xs : List X} {x y : X} → Pairs R xs → In x xs
    → In y xs → (x ≡ y) ⊎ (R x y ⊎ R y x)
pairs_either none a b = elim a [ ]
pairs_either (more first rest) here here = inl refl
pairs_either (more first rest) here (there b) = inr (inl (first _ b))
pairs_either (more first rest) (there a) here = inr (inr (first _ a))
pairs_either (more first rest) (there a) (there b) = pairs_either rest a b

pub pairs_with : {X : Type 0} {Q R : X → X → Type 0} {xs : List X} → Pairs Q xs
    → ((x y : X) → In x xs → In y xs → Q x y → R x y) → Pairs R xs
pairs_with none then = none
pairs_with (more first rest) then =
    more (λ y at. then _ y here (there at) (first y at))
    (pairs_with rest (λ x y a b q. then x y (there a) (there b) q))

-- ---- of two lists, one behind the other
pub in_front : {X : Type 0} {x : X} {xs : List X} (ys : List X) → In x xs → In x (xs ++ ys)
in_front ys here = here
in_front ys (there at) = there (in_front ys at)

pub in_back : {X : Type 0} {x : X} (xs : List X) {ys : List X} → In x ys → In x (xs ++ ys)
in_back [] at = at
in_back (z ∷ zs) at = there (in_back zs at)

pub in_either : {X : Type 0} {x : X} (xs ys : List X) → In x (xs ++ ys) → In x xs ⊎ In x ys
in_either [] ys at = inr at
in_either (z ∷ zs) ys here = inl here
in_either (z ∷ zs) ys (there at) =
    elim (in_either zs ys at) [ inl a ↦ inl (there a) | inr b ↦ inr b ]

pub pairs_append : {X : Type 0} {R : X → X → Type 0} {xs ys : List X} → Pairs R xs → Pairs R ys
    → ((x y : X) → In x xs → In y ys → R x y) → Pairs R (xs ++ ys)
pairs_append none others cross = others
pairs_append (more first rest) others cross =
    more (λ y at. elim (in_either _ _ at) [ inl a ↦ first y a | inr b ↦ cross _ y here b ])
    (pairs_append rest others (λ x y a b. cross x y (there a) b))

-- ---- of what is made of each
pub to_map : {X Y : Type 0} (f : X → Y) {x : X} {xs : List X} → In x xs → In (f x) (map f xs)
to_map f here = here
to_map f (there at) = there (to_map f at)

pub from_map : {X Y : Type 0} (f : X → Y) (xs : List X) {y : Y} → In y (map f xs)
    → (x : X) × In x xs × (f x ≡ y)
from_map f [] at = elim at [ ]
from_map f (x ∷ xs) here = (x, here, refl)
from_map f (x ∷ xs) (there at) = (let m = from_map f xs at in (m.0, there m.1, m.2))

-- ---- of those that pass a test
pub from_filter : {X : Type 0} (p : X → Bool) (xs : List X) {x : X} → In x (filter p xs) → In x xs
    × (p x ≡ true)
from_filter p [] at = elim at [ ]
from_filter p (z ∷ zs) at = by (p z) refl at (λ a. from_filter p zs a)
  where
    by : {x : _} {ys : _} (b : Bool) → p z ≡ b → In x (cond b (z ∷ ys) ys)
        → (In x ys → In x zs × (p x ≡ true)) → In x (z ∷ zs) × (p x ≡ true)
    by true e here rest = (here, e)
    by true e (there at) rest = (there (rest at).0, (rest at).1)
    by false e at rest = (there (rest at).0, (rest at).1)

pub to_filter : {X : Type 0} (p : X → Bool) {x : X} {xs : List X} → In x xs → p x ≡ true
    → In x (filter p xs)
to_filter p here on = rw on here
to_filter p (there {y} at) on = by (p y) (to_filter p at on)
  where
    by : {x : _} {zs : _} (b : Bool) → In x zs → In x (cond b (y ∷ zs) zs)
    by true at = there at
    by false at = at

pub pairs_filter : {X : Type 0} {R : X → X → Type 0} (p : X → Bool) {xs : List X} → Pairs R xs
    → Pairs R (filter p xs)
pairs_filter p none = none
pairs_filter {X} {R} p (more {x} {xs} first rest) =
    by (p x) (λ y at. first y (from_filter p xs at).0) (pairs_filter p rest)
  where
    by : {zs : List X} (b : Bool) → ((y : X) → In y zs → R x y) → Pairs R zs
        → Pairs R (cond b (x ∷ zs) zs)
    by true first rest = more first rest
    by false first rest = rest

pub none_pass : {X : Type 0} (p : X → Bool) (xs : List X) → ((x : X) → In x xs → p x ≡ false)
    → filter p xs ≡ []
none_pass p [] h = refl
none_pass p (z ∷ zs) h = rw (h z here) (none_pass p zs (λ x at. h x (there at)))

pub all_pass : {X : Type 0} (p : X → Bool) (xs : List X) → ((x : X) → In x xs → p x ≡ true)
    → filter p xs ≡ xs
all_pass p [] h = refl
all_pass p (z ∷ zs) h = rw (h z here, all_pass p zs (λ x at. h x (there at))) refl

pub filter_same : {X : Type 0} (p q : X → Bool) (xs : List X)
    → ((x : X) → In x xs → p x ≡ q x) → filter p xs ≡ filter q xs
filter_same p q [] h = refl
filter_same p q (z ∷ zs) h =
    rw (h z here, filter_same p q zs (λ x at. h x (there at))) refl
