use Rattle.task_sheet.specs.Demand.{demand_of}
use Rattle.task_sheet.proofs.DemandLaws.{demand_does_not_fall}
use Rattle.response_time.proofs.FirstCovers.{comes_to_response}
use Rattle.response_time.proofs.laws.start_is_free.Goals as goal

pub returns : goal.returns
returns c = λ U i H start response valid lt is le. (
  response,
  λ k long. comes_to_response
      (demand_of U i H) (demand_does_not_fall U valid i H lt) response start is le k long,
)
