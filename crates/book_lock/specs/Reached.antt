-- The states that a node can come to.
use Rattle.std.specs.Prelude.{◌≡◌, List}
use Rattle.drafts.specs.Machine.{MachineState, Entry, IsLegal, replay, empty_desk}

-- the state is the replay of some legal log
pub record IsReached (desk : MachineState) : Type 0 where
  pub log : List Entry
  pub legal : IsLegal empty_desk log
  pub replay : replay empty_desk log ≡ desk
