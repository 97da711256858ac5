use Rattle.std.proofs.Common.{false}
use Rattle.certificate.proofs.VerdictSpelling.{members-told}
use Rattle.certificate.proofs.naming.stuck_named.Goals as goal

pub fails_named-requires : goal.fails_named-requires
fails_named-requires c =
    let kept = rw c.set-set.ensures.same at c.sheets-sheets.ensures.kept in
    rw (c.members.ensures.same, c.set-set.ensures.same)
    (members-told c.args.stuck.now.set kept false c.args.stuck.now.members c.set-set.ensures.stuck).0
