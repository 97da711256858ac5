use Rattle.drafts.specs.Edits.{on_base}
use Rattle.desk_core.specs.LiveFields.{live_of}
use Rattle.desk_core.specs.Stages.{found_of}
use Rattle.desk_core.proofs.BroughtLaws.{live-brought}
use Rattle.desk_core.proofs.live.Live.take.Goals as goal

pub invariant_of-self-2 : goal.invariant_of-self-2
invariant_of-self-2 c =
    c.put_away.ensures.kept (on_base c.self.inside.draft) c.in_ok-reply.ensures.kept

pub returns-clause-ok : goal.returns-clause-ok
returns-clause-ok c = live-brought c.args.self.now (live_of c.self.inside) c.args.finding.question
    c.in_ok-reply.reply _ (found_of c.put_away.new.stage) c.self.view_is c.put_away.ensures.found
    c.in_ok-reply.ensures.found
