use Rattle.std.proofs.Common.{string_bytes}
use Rattle.diff.specs.Whole.{gone_at}
use Rattle.diff.proofs.PushLaws.{pushed}
use Rattle.diff.proofs.whole.push_all_gone.Goals as goal

pub loop-place-preserved : goal.loop-place-preserved
loop-place-preserved c =
    let line = gone_at c.args.old.now.owners.now c.args.old.now.set.now
    c.args.new.now.owners.now c.args.new.now.set.now in
    pushed c.loop-place.place line (string_bytes c.args.text.now) (string_bytes c.loop-place.text)
    (string_bytes c.push_gone.new.text) c.loop-place.invariant c.in_ok-push_gone.ensures
