-- From lines that are given to their teams to the teams' lines of the script.
use Rattle.std.proofs.Common.{◌≡◌, ◌≢◌, ◌∙◌, ◌≤◌, ◌<◌, ◌-◌, ◌+◌, ◌==◌, if◌then◌else◌, ℕ, Bool, true}
use Rattle.std.proofs.Common.{false, List, [], ◌∷◌, ◌++◌, get_or, set, length, map, Option, Some}
use Rattle.std.proofs.Common.{refl, sym, ap, subst, arith, append_assoc, suc, zero}
use Rattle.std.proofs.lemmas.Bool.{false≢true}
use Rattle.std.proofs.lemmas.Bool.Decides.{Decides-eqb}
use Rattle.std.specs.List.{All}
use Rattle.std.proofs.lemmas.List.{get_or-map, get_or-set_same, get_or-set_other, length-map}
use Rattle.std.proofs.lemmas.List.{map-set}
use Rattle.std.proofs.lemmas.List.Elements.{All-head, All-tail}
use Rattle.scripts.specs.declared.line.Line.{Line}
use Rattle.rushes.specs.TeamLines.{TeamLine, draft_of, if_own, lines_of, openers_after, IsSplit}

-- of no lines each part is empty
pub empty_part : {X : Type 0} (f : X → List TeamLine) (xs : List X) (i : ℕ) → All (λ x. f x ≡ []) xs
    → get_or (map f xs) i [] ≡ []
empty_part f [] i all = refl
empty_part f (x ∷ xs) zero all = All-head (λ y. f y ≡ []) x xs all
empty_part f (x ∷ xs) (suc i) all = empty_part f xs i (All-tail (λ y. f y ≡ []) x xs all)

-- an item more in a part: it is there if the part is the team's, and the team's part is as it was if not
one_more : (b : Bool) (parts : List (List TeamLine)) (owner team i : ℕ) (x : TeamLine)
    (rest all : List TeamLine)
    → (owner == team) ≡ b → i + 1 ≡ owner → 1 ≤ team → i < length parts
    → get_or parts (team - 1) [] ++ ((if b then x ∷ [] else []) ++ rest) ≡ all
    → get_or (set parts i (get_or parts i [] ++ x ∷ [])) (team - 1) [] ++ rest ≡ all
one_more true parts owner team i x rest all is at low lt so =
    let own : owner ≡ team = (Decides-eqb owner team).0 is in
    let same : team - 1 ≡ i = omega arith in
    let was = rw same at so in
    rw (same, get_or-set_same parts i (get_or parts i [] ++ x ∷ []) [] lt)
    (append_assoc (get_or parts i []) (x ∷ []) rest ∙ was)
one_more false parts owner team i x rest all is at low lt so =
    let other : team - 1 ≢ i =
    λ same. false≢true (sym is ∙ (Decides-eqb owner team).1 (omega arith)) in
    rw (get_or-set_other parts i (team - 1) (get_or parts i [] ++ x ∷ []) [] other) so

-- a line whose draft is a team's is given to the team
pub given_to_one : (script left : List Line) (line : Line) (openers : List ℕ)
    (parts : List (List TeamLine))
    (d : ℕ × ℕ) (i : ℕ)
    → draft_of openers line.row ≡ Some d → i + 1 ≡ d.0 → i < length parts
    → IsSplit script (line ∷ left) openers parts
    → IsSplit script left (openers_after openers line.row)
    (set parts i
    (get_or parts i [] ++ (let x : TeamLine = record { line = line; draft = d.1 } in x) ∷ []))
given_to_one script left line openers parts d i is at lt split team low high =
    let rest = lines_of team (openers_after openers line.row) left in
    one_more (d.0 == team) parts d.0 team i (record { line = line; draft = d.1 }) rest
    (lines_of team [] script)
    refl at low lt
    (subst (λ (o : Option (ℕ × ℕ)). get_or parts (team - 1) [] ++ (if_own team line o ++ rest)
    ≡ lines_of team [] script)
    is (split team low high))

-- by the items of the lists that hold the parts
pub given : {X : Type 0} (f : X → List TeamLine) (script left : List Line) (line : Line)
    (openers after : List ℕ)
    (parts : List X) (d : ℕ × ℕ) (i : ℕ) (old new : X)
    → draft_of openers line.row ≡ Some d → after ≡ openers_after openers line.row → i + 1 ≡ d.0
    → i < length parts
    → old ≡ get_or parts i old
    → f new ≡ f old ++ (let x : TeamLine = record { line = line; draft = d.1 } in x) ∷ []
    → IsSplit script (line ∷ left) openers (map f parts)
    → IsSplit script left after (map f (set parts i new))
given f script left line openers after parts d i old new is next at lt read grown split =
    let x : TeamLine = record { line = line; draft = d.1 } in
    let was : get_or (map f parts) i [] ≡ f old = get_or-map f parts i old [] lt
    ∙ ap f (sym read) in
    let path : map f (set parts i new) ≡ set (map f parts) i (get_or (map f parts) i [] ++ x ∷ []) =
    map-set f parts i new
    ∙ ap (λ (xs : List TeamLine). set (map f parts) i xs)
    (grown ∙ ap (λ (xs : List TeamLine). xs ++ x ∷ []) (sym was)) in
    let within : i < length (map f parts) = omega (arith, length-map parts f, lt) in
    rw (next, path) (given_to_one script left line openers (map f parts) d i is at within split)
