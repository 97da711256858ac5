-- Receipts and a team's lines of the log, at their end.
use Rattle.std.proofs.Common.{◌≡◌, ◌≤◌, ◌↔◌, ℕ, nat_eq, IsTrue, List, [], length, drop, map, sym}
use Rattle.std.proofs.Common.{◌∙◌, ap, arith}
use Rattle.std.proofs.lemmas.Bool.Decides.{nat_tests}
use Rattle.std.proofs.lemmas.List.{drop_all, length-drop, length-map}

-- where no line is left, they are the same exactly where no receipt is left
pub at_end : {X Y : Type 0} (f : X → Y) (xs : List X) (next : ℕ) (all : Type 0) → next ≤ length xs
    → ((map f (drop next xs) ≡ []) ↔ all)
    → IsTrue (nat_eq next (length xs)) ↔ all
at_end {X} {Y} f xs next all within h = (
  λ yes. let last : next ≡ length xs = grind (arith, nat_tests) in
      h.0 (ap (λ (ys : List X). map f ys) (drop_all next xs (omega arith))),
  λ a.
      let none : length (map f (drop next xs)) ≡ 0 = ap (λ (ys : List Y). length ys) (h.1 a) in
      let gone : length (drop next xs) ≡ 0 = sym (length-map (drop next xs) f) ∙ none in
      let last : next ≡ length xs = omega (arith, length-drop next xs) in
      grind (arith, nat_tests),
)
