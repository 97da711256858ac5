use Rattle.std.proofs.Common.{◌∙◌, ap, length}
use Rattle.cert_checker.specs.CertificateFaults.{has_all}
use Rattle.cert_checker.proofs.naming.is_order.Goals as goal

pub returns-in-Some : goal.returns-in-Some
returns-in-Some c =
    let told = rw c.in-Some.is at c.order_of.ensures in
    rw told.0 (c.has_all.ensures ∙ ap (has_all (length c.args.set.now)) told.1)
