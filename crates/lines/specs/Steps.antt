-- One step of a reading after another.
use Rattle.std.specs.Prelude.{List, [], ◌∷◌, ◌++◌, Result, Ok, Err}

infixl 10 ◌>>=◌
-- goes on where there is no fault
abbrev pub ◌>>=◌ : {A B E : Type 0} → Result A E → (A → Result B E) → Result B E
(Ok x) >>= f = f x
(Err e) >>= f = Err e

-- these, and then those that are read
abbrev pub ahead : {A E : Type 0} → List A → Result (List A) E → Result (List A) E
ahead front (Ok xs) = Ok (front ++ xs)
ahead front (Err e) = Err e

-- what each of these says, or the fault of the first faulty one
abbrev pub each_in : {X A E : Type 0} → (X → Result A E) → List X → Result (List A) E
each_in read [] = Ok []
each_in read (x ∷ xs) = read x >>= λ y. ahead (y ∷ []) (each_in read xs)
