use Rattle.chain_limits.proofs.ReachLaws.{furthest-each, furthest-own, none-met}
use Rattle.chain_limits.proofs.laws.furthest_met_decides.Goals as goal

pub returns-clause-each : goal.returns-clause-each
returns-clause-each c writes U offsets order tasks limit i number most value set inside grows is may =
    furthest-each writes offsets order tasks limit U i number set inside grows most value is may

pub returns-clause-own : goal.returns-clause-own
returns-clause-own c writes U offsets order tasks limit i number most set inside grows is =
    furthest-own writes offsets order tasks limit U i number set inside grows most is

pub returns-clause-none : goal.returns-clause-none
returns-clause-none c writes U offsets order tasks limit i number set inside none =
    none-met writes offsets order tasks limit U i number set inside none
