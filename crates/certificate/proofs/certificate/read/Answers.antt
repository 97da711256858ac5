use Rattle.std.proofs.Common.{Ok, Err}
use Rattle.certificate.specs.Body.{Cert}
use Rattle.certificate.specs.BodyOf.{cert_of}
use Rattle.certificate.proofs.ReadingLaws.{certificate_takes, only_read}
use Rattle.certificate.proofs.certificate.read.Goals as goal

pub invariant_of-result : goal.invariant_of-result
invariant_of-result c = (certificate_takes c.args.bytes.now
    (cert_of c.in-Ok.parts) c.in-Ok.ensures).1

pub returns-in-Ok-clause-found : goal.returns-in-Ok-clause-found
returns-in-Ok-clause-found c = certificate_takes c.args.bytes.now
    (cert_of c.in-Ok.parts) c.in-Ok.ensures

pub returns-in-Ok-clause-only : goal.returns-in-Ok-clause-only
returns-in-Ok-clause-only c = λ b fits e. only_read {X = Cert} (λ x. x) c.args.bytes.now
    (Ok (cert_of c.in-Ok.parts)) b
    c.in-Ok.ensures fits e

pub returns-in-Err-clause-only : goal.returns-in-Err-clause-only
returns-in-Err-clause-only c = λ b fits e. only_read {X = Cert} (λ x. x) c.args.bytes.now
    (Err c.in-Err.fault) b c.in-Err.ensures fits e
