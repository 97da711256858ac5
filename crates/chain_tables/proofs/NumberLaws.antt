-- Arrays of numbers.
use Rattle.std.proofs.Common.{◌≡◌, ℕ, suc, ◌&&◌, true, ap, List, [], ◌∷◌, ◌++◌, length, refl, Option, None, Some, is_some}
use Rattle.std.specs.Option.{option_to_list}
use Rattle.toml.specs.View.{items_view, view}
use Rattle.toml.specs.declared.value.Value.{Value}
use Rattle.task_sheet.specs.Tree.{number_of}
use Rattle.chain_tables.specs.Tables.{all_numbers, numbers_in}

-- where all values are numbers, there are as many
pub all-numbers-length : (vs : List Value) → all_numbers (items_view vs) ≡ true
    → length (numbers_in (items_view vs)) ≡ length vs
all-numbers-length [] all = refl
all-numbers-length (v ∷ vs) all = by (all-numbers-length vs) (number_of (view v)) all
  where
    by : (all_numbers (items_view vs) ≡ true → length (numbers_in (items_view vs)) ≡ length vs)
        → (o : Option ℕ) → (is_some o && all_numbers (items_view vs)) ≡ true
        → length (option_to_list o ++ numbers_in (items_view vs)) ≡ suc (length vs)
    by rest None all = cc
    by rest (Some n) all = ap suc (rest all)
