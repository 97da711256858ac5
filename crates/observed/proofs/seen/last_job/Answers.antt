use Rattle.std.proofs.Common.{◌∙◌, rules}
use Rattle.std.proofs.lemmas.Iterator.Adapters.{YieldsList-from_rev_slice}
use Rattle.std.proofs.lemmas.Iterator.Search.{find_from_yields_List}
use Rattle.task_sheet.specs.Sheet.{same_bytes}
use Rattle.observed.proofs.SweepLaws.{last_reverse}
use Rattle.observed.proofs.seen.last_job.Goals as goal

pub returns : goal.returns
returns c = c.copied.ensures
    ∙ find_from_yields_List (λ j. same_bytes j.name c.args.name) _ _ _ c.find.ensures.ran
    (YieldsList-from_rev_slice c.args.jobs.now (search rules)) (λ x b q k. search rules)
    ∙ last_reverse c.args.name c.args.jobs.now
