use Rattle.std.proofs.Common.{◌∙◌}
use Rattle.chains.specs.Walks.{arrivals}
use Rattle.cert_checker.specs.Ready.{levels_of}
use Rattle.cert_checker.proofs.StartLaws.{covers_none, covers_some}
use Rattle.cert_checker.proofs.ages.covers_chain.Goals as goal

pub returns-in-Some : goal.returns-in-Some
returns-in-Some c =
    let starts = c.in-Some.starts in
    c.are_within.ensures ∙ covers_some c.args.set.now (levels_of c.args.set.now c.args.levels.now)
    c.args.chain.now (arrivals starts.first starts.period starts.count) c.args.number c.in-Some.ensures

pub returns-in-None : goal.returns-in-None
returns-in-None c =
    covers_none c.args.set.now (levels_of c.args.set.now c.args.levels.now) c.args.chain.now c.args.number
    c.in-None.ensures
