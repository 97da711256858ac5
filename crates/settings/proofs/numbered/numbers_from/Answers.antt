use Rattle.std.proofs.Common.{◌∙◌, length, ap}
use Rattle.settings.proofs.NumberingLaws.{length_numbers}
use Rattle.settings.proofs.numbered.numbers_from.Goals as goal

pub returns-clause-each : goal.returns-clause-each
returns-clause-each c = ap length c.in_ok-numbers.ensures ∙ length_numbers _ _ _ c.args.old.now
