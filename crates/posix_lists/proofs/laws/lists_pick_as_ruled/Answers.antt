use Rattle.posix_lists.proofs.ListLaws.{turns_law, nested_law}
use Rattle.posix_lists.proofs.laws.lists_pick_as_ruled.Goals as goal

pub returns : goal.returns
returns c = record {
  turns = λ node jobs run ok legal turns is. turns_law ok legal turns run is;
  nested = λ node jobs run ok legal anew is. nested_law ok legal anew run is;
}
