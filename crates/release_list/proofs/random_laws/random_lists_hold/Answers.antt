use Rattle.release_list.proofs.RandomLists.{random_is_list}
use Rattle.release_list.proofs.SteadyLaws.{on_clock, steady_apart}
use Rattle.release_list.proofs.random_laws.random_lists_hold.Goals as goal

pub returns-clause-list : goal.returns-clause-list
returns-clause-list c = random_is_list

pub returns-clause-steady : goal.returns-clause-steady
returns-clause-steady c = steady_apart

pub returns-clause-clock : goal.returns-clause-clock
returns-clause-clock c = on_clock
