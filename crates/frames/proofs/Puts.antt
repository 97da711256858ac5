-- Texts that are put one after the other.
use Rattle.std.proofs.Common.{◌≡◌, ◌∙◌, ℕ, ◌+◌, ◌<◌, ◌++◌, ◌∷◌, [], List, Result, ap, append_assoc}
use Rattle.std.proofs.Common.{flat_map, get_or, length, sym, take}
use Rattle.std.specs.Prelude.{OnOk}
use Rattle.std.proofs.lemmas.List.{flat_map_more, take_more}
use Rattle.std.proofs.lemmas.Result.{on_ok_weaker}

-- two
pub put_both : (start old new xs ys : List ℕ) → old ≡ start ++ xs → new ≡ old ++ ys
    → new ≡ start ++ (xs ++ ys)
put_both start old new xs ys first next =
    next ∙ ap (λ (l : List ℕ). l ++ ys) first ∙ append_assoc start xs ys

-- two, of which the last may be refused
pub put_last : {T E : Type 0} (r : Result T E) (start old new xs ys : List ℕ)
    → old ≡ start ++ xs → OnOk r (new ≡ old ++ ys) → OnOk r (new ≡ start ++ (xs ++ ys))
put_last r start old new xs ys first next =
    on_ok_weaker r (put_both start old new xs ys first) next

-- the text of one item more
pub put_item : {X : Type 0} (start old new : List ℕ) (text : X → List ℕ) (items : List X)
    (n : ℕ) (x : X)
    → n < length items → x ≡ get_or items n x
    → old ≡ start ++ flat_map text (take n items) → new ≡ old ++ text x
    → new ≡ start ++ flat_map text (take (n + 1) items)
put_item {X = X} start old new text items n x lt is so_far put =
    put ∙ ap (λ (l : List ℕ). l ++ text x) so_far ∙ flat_map_more text start (take n items) x
    ∙ ap (λ (y : X). start ++ flat_map text (take n items ++ y ∷ [])) is
    ∙ ap (λ (l : List X). start ++ flat_map text l) (sym (take_more items n x lt))
