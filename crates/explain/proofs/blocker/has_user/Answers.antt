use Rattle.std.proofs.Common.{◌∙◌}
use Rattle.ceilings.proofs.Reached.{meet_users}
use Rattle.explain.proofs.blocker.has_user.Goals as goal

pub returns : goal.returns
returns c =
    let U = c.args.set.now in
    c.meets.ensures
    ∙ meet_users U c.users.result c.args.members c.args.lock c.users.ensures
    c.sheets.ensures.kept.few
