use Rattle.std.proofs.Common.{◌*◌}
use Rattle.std.proofs.Math.Nat.{mod-add-mod}
use Rattle.release_list.specs.Random.{word_after}
use Rattle.release_list.proofs.random_list.Generator.step.Goals as goal

pub returns : goal.returns
unfolding word_after
returns c = mod-add-mod (c.args.self.now.word * 6364136223846793005) 18446744073709551616
    1442695040888963407
