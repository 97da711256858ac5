use Rattle.task_sheet.proofs.Exchange.{demand-part}
use Rattle.std.proofs.lemmas.Bool.{or_right}
use Rattle.task_sheet.specs.Indexes.{with_index}
use Rattle.task_sheet.proofs.laws.exchange.Goals as goal

pub returns : goal.returns
returns c = record {
  one = λ U i j H t valid pos.
      demand-part U valid i H (with_index H j) (λ k h. or_right _ _ h) t pos;
  part = λ U i H G t valid part pos. demand-part U valid i H G part t pos;
}
