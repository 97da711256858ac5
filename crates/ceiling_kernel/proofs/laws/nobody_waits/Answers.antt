use Rattle.ceiling_kernel.proofs.NestLaws.{nobody_waits_law, free_law}
use Rattle.ceiling_kernel.proofs.laws.nobody_waits.Goals as goal

pub returns : goal.returns
returns c = record { turns = nobody_waits_law; nested = free_law }
