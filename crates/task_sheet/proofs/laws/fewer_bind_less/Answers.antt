use Rattle.task_sheet.proofs.PassingLaws.{must_outrank_any-part, Stands-part}
use Rattle.task_sheet.proofs.laws.fewer_bind_less.Goals as goal

pub returns : goal.returns
returns c = record { unbound = must_outrank_any-part; stands = λ U i H G valid. Stands-part U valid i H G }
