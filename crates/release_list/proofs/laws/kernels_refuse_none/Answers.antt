use Rattle.release_list.proofs.DensestLaws.{kernel_takes}
use Rattle.release_list.proofs.laws.kernels_refuse_none.Goals as goal

pub returns : goal.returns
returns c = λ U steady until set none. kernel_takes U steady set until none
