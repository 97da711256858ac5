-- Tasks of a chain, one more.
use Rattle.std.proofs.Common.{◌≡◌, ◌+◌, ◌<◌, ℕ, List, length, get_or, drop, refl, Option, Some, None, is_some, true, false}
use Rattle.std.proofs.lemmas.List.{drop_more}
use Rattle.task_sheet.specs.Sheet.{Task}
use Rattle.ceiling_kernel.specs.Releases.{task_named}
use Rattle.chain_tables.specs.Chains.{strange_in}
use Rattle.chain_tables.specs.declared.fault.ChainFault.TheVariants.{NoSuchTask}

module _ (U : List Task) (chain : List ℕ) (ns : List (List ℕ)) (i : ℕ) (n : List ℕ)
    (lt : i < length ns) (is : n ≡ get_or ns i n) where
  -- the set has it
  pub known-step : (o : Option ℕ) → o ≡ task_named U n → is_some o ≡ true
      → strange_in U chain (drop i ns) ≡ strange_in U chain (drop (i + 1) ns)
  known-step None same some = cc
  known-step (Some k) same some = rw (drop_more ns i n lt, ← is, ← same) refl

  -- or not
  pub strange-step : (o : Option ℕ) → o ≡ task_named U n → is_some o ≡ false
      → strange_in U chain (drop i ns) ≡ Some (NoSuchTask chain n)
  strange-step None same none = rw (drop_more ns i n lt, ← is, ← same) refl
  strange-step (Some k) same none = cc
