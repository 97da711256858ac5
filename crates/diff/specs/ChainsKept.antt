-- Changes of chains of which no line speaks.
use Rattle.std.specs.Prelude.{◌≡◌, ℕ, true, List, All, Option, Some}
use Rattle.task_sheet.specs.Sheet.{Task}
use Rattle.chains.specs.Parts.{bound_in}
use Rattle.chains.specs.declared.bounds.Level.{Level}
use Rattle.chain_tables.specs.Chains.{ChainData}
use Rattle.diff.specs.Chains.{chain_named, same_chain}

-- the same bound, where there is one before and after
abbrev pub IsSameBound : (was is : Option ℕ) → Type 0
IsSameBound (Some was) (Some is) = was ≡ is
IsSameBound _ _ = Unit {0}

-- a new chain that was there before, with the same tasks, limit and offsets, which write as they did, and the same bound
pub record IsChainKept (U : List Task) (was : List Level) (olds : List ChainData) (V : List Task)
    (is : List Level) (new : ChainData) : Type 0 where
  pub old : ChainData
  pub named : chain_named olds new.name ≡ Some old
  pub same : same_chain U old V new ≡ true
  pub bound : IsSameBound (bound_in old.writes old.offsets U was old.tasks) (bound_in new.writes new.offsets V is new.tasks)

-- there is a chain of this one's name
abbrev pub HasNamed : List ChainData → ChainData → Type 0
HasNamed news old = (new : ChainData) × (chain_named news old.name ≡ Some new)

-- no chain is gone, and each of the new ones is kept
pub record AreChainsKept (U : List Task) (was : List Level) (olds : List ChainData) (V : List Task)
    (is : List Level) (news : List ChainData) : Type 0 where
  pub none_gone : All (HasNamed news) olds
  pub all_kept : All (IsChainKept U was olds V is) news
