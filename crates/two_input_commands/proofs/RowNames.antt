-- The names of tasks that have rows in a picture.
use Rattle.std.proofs.Common.{◌≡◌, ◌∙◌, ◌+◌, ℕ, suc, List, [], ◌∷◌, ◌++◌, Option, Some, None, Bool, true, false}
use Rattle.std.proofs.Common.{◌||◌, not, cond, is_some, length, nat_lt, position, ap, ap₂, refl, sym, arith}
use Rattle.std.proofs.Common.{append_assoc}
use Rattle.std.specs.List.{list_any, position_or_len}
use Rattle.std.specs.Option.{option_or}
use Rattle.std.proofs.lemmas.Grind.{common_steps}
use Rattle.std.proofs.lemmas.List.{map-append}
use Rattle.std.proofs.lemmas.List.Folds.{find-append, list_any-append}
use Rattle.task_sheet.specs.Sheet.{Task, same_bytes}
use Rattle.ceiling_kernel.specs.Releases.{task_named}
use Rattle.std.specs.Prelude.{Err}
use Rattle.answering.specs.declared.refusal.CommandRefusal.{CommandRefusal}
use Rattle.answering.specs.declared.refusal.CommandRefusal.TheVariants as refusal
use Rattle.two_input_commands.specs.View.{AsksRows, Notes, first_unknown, is_all, is_nameless, known_name}
use Rattle.two_input_commands.specs.View.{names_of, parts_of}

-- behind names that are known the first that isn't is the first of those that follow
pub unknown_behind : (U : List Task) (names more : List (List ℕ)) → first_unknown U names ≡ None
    → first_unknown U (names ++ more) ≡ first_unknown U more
unknown_behind U names more known =
    find-append (λ word. is_nameless (known_name U word)) names more
    ∙ ap (λ (o : Option (List ℕ)). option_or o (first_unknown U more)) known

-- a name that is known stands in front of those that follow
pub unknown_after : (U : List Task) (part : List ℕ) (more : List (List ℕ))
    → known_name U part ≡ Some part → first_unknown U (part ∷ more) ≡ first_unknown U more
unknown_after U part more known = rw known refl

-- one that isn't is the first
pub unknown_first : (U : List Task) (part : List ℕ) (more : List (List ℕ))
    → known_name U part ≡ None → first_unknown U (part ∷ more) ≡ Some part
unknown_first U part more none = rw none refl

-- names that are known, and one more
pub one_more : (U : List Task) (part : List ℕ) (old new : List (List ℕ)) → first_unknown U old
    ≡ None → known_name U part ≡ Some part → new ≡ old ++ part ∷ [] → first_unknown U new ≡ None
one_more U part old new known is more =
    ap (first_unknown U) more ∙ unknown_behind U old (part ∷ []) known ∙ unknown_after U part [] is

-- the parts behind one more
pub parts_more : (part : List ℕ) (all old new rest : List (List ℕ)) → all ≡ old ++ part ∷ rest
    → new ≡ old ++ part ∷ [] → all ≡ new ++ rest
parts_more part all old new rest all_is new_is =
    all_is ∙ sym (append_assoc old (part ∷ []) rest)
    ∙ ap (λ (names : List (List ℕ)). names ++ rest) (sym new_is)

-- a part that names no task is the first one
pub refused_row : (U : List Task) (text part : List ℕ) (old new rest : List (List ℕ))
    (r : CommandRefusal) → is_all text ≡ false → parts_of text ≡ old ++ part ∷ rest
    → first_unknown U old ≡ None → Notes U part old new (Err r) → AsksRows U (Some text) (Err r)
refused_row U text part old new rest (refusal.NoSuchTask name) all parts known why = (
  all,
  (
    part,
    ap (first_unknown U) parts ∙ unknown_behind U old (part ∷ rest) known
        ∙ unknown_first U part rest why.0,
    why.1,
  ),
)
refused_row U text part old new rest refusal.OutOfMemory all parts known why = tt
refused_row U text part old new rest _ all parts known why = absurd why

-- ---- two sets
found_below : (p : Task → Bool) (U : List Task) → is_some (position p U) ≡ list_any p U
found_below p U = some_of _ _ ∙ lies_below U
  where
    some_of : (b : Bool) (k : ℕ) → is_some (cond b (Some k) None) ≡ b
    some_of true k = refl
    some_of false k = refl

    more_below : (k n : ℕ) → nat_lt (1 + k) (suc n) ≡ nat_lt k n
    more_below k n = grind (arith, common_steps)

    first_below : (n : ℕ) → nat_lt 0 (suc n) ≡ true
    first_below n = grind (arith, common_steps)

    lies_below : (U : List Task) → nat_lt (position_or_len p U) (length U) ≡ list_any p U
    lies_below [] = refl
    lies_below (t ∷ U) = go (p t) (lies_below U)
      where
        go : (b : Bool) → nat_lt (position_or_len p U) (length U) ≡ list_any p U
            → nat_lt (cond (not b) (1 + position_or_len p U) 0) (length (t ∷ U)) ≡ (b || list_any p U)
        go true later = first_below (length U)
        go false later = more_below (position_or_len p U) (length U) ∙ later

-- a task of one of two sets has a name where one of either has
pub named_in_both : (U V : List Task) (name : List ℕ)
    → is_some (task_named (U ++ V) name) ≡ (is_some (task_named U name) || is_some (task_named V name))
named_in_both U V name =
    let p : Task → Bool = λ t. same_bytes t.name name in
    found_below p (U ++ V) ∙ list_any-append p U V
    ∙ sym (ap₂ (λ a b. a || b) (found_below p U) (found_below p V))

-- the names of the tasks of both
pub names_in_both : (U V : List Task) → names_of (U ++ V) ≡ names_of U ++ names_of V
names_in_both U V = map-append (λ (t : Task). t.name) U V
