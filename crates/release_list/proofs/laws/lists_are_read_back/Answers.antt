use Rattle.release_list.specs.Densest.{densest_of}
use Rattle.release_list.specs.Random.{random_of}
use Rattle.release_list.proofs.TimeLaws.{within_from}
use Rattle.release_list.proofs.FitLaws.{legal}
use Rattle.release_list.proofs.DensestLaws.{fits}
use Rattle.release_list.proofs.RandomLists.{legal as legal_random}
use Rattle.release_list.proofs.ReadBackLaws.{list_again, legal_again}
use Rattle.release_list.proofs.laws.lists_are_read_back.Goals as goal

pub returns-clause-any : goal.returns-clause-any
returns-clause-any c = list_again

pub returns-clause-densest : goal.returns-clause-densest
returns-clause-densest c = λ U steady until set none.
    legal_again until (densest_of U steady until) set (within_from until _ none).0
    (legal set (fits U steady) until)

pub returns-clause-random : goal.returns-clause-random
returns-clause-random c = λ U steady until seed set none.
    legal_again until (random_of U steady until seed) set (within_from until _ none).0
    (legal_random U steady until seed set)
