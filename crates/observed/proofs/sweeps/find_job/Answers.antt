use Rattle.std.proofs.Common.{◌∙◌, List, ap}
use Rattle.observed.specs.Sweeps.{place_in}
use Rattle.observed.specs.declared.sweeps.Standing.{Standing}
use Rattle.observed.proofs.SweepLaws.{found_of, swept_kept}
use Rattle.observed.proofs.sweeps.find_job.Goals as goal

pub take_in-requires : goal.take_in-requires
take_in-requires c = swept_kept c.args.jobs.now c.args.slice.now.start c.args.live.now.items
    c.keep.new.live.items c.args.next c.requires.swept c.keep.ensures

pub returns-clause-job : goal.returns-clause-job
returns-clause-job c = c.place_in-job.ensures
    ∙ (ap (λ (xs : List Standing). place_in c.args.slice.now xs) c.deref.ensures.value
    ∙ found_of c.args.jobs.now c.take_in.new.live.items c.in_ok-next.next c.args.slice.now
    c.in_ok-next.ensures.swept c.requires.lasts c.in_ok-next.ensures.behind)
