use Rattle.std.proofs.Common.{rules}
use Rattle.response_time.proofs.UninterruptedLaws.{covers_told}
use Rattle.response_time.proofs.uninterrupted.passes_uninterrupted.Goals as goal

pub returns : goal.returns
returns c = covers_told _ _ _ c.first_cover.result _ (search rules) c.first_cover.ensures.some
    c.first_cover.ensures.none
