use Rattle.std.proofs.Common.{◌≡◌, refl}
use Rattle.certificate.specs.Body.{Body, Best, NoOrder}
use Rattle.answering.proofs.CarriedOut.{shown}
use Rattle.answering.specs.declared.status.Status.TheVariants.{InputOrOutputFailed}
use Rattle.set_commands.specs.Certify.{body_status}
use Rattle.set_commands.proofs.certify.print_certificate.Goals as goal

-- no certificate has the status of a failed input or output
body_ends : (b : Body) → body_status b ≡ InputOrOutputFailed → ⊥
body_ends (Best levels) is = cc
body_ends (NoOrder members) is = cc

pub returns : goal.returns
returns g c =
    shown c.put_certificate.ensures refl c.status_of-status.ensures
    (body_ends c.args.certificate.now.body) (λ wrote is. (wrote, is))
