-- What a reason says.
use Rattle.certificate.specs.Body as value
use Rattle.certificate.specs.Body.{CertReasonData}
use Rattle.certificate.specs.declared.value.CertReason.{CertReason}
use Rattle.certificate.specs.declared.value.CertReason.TheVariants.{Chain, Over}

-- what callers see of a reason
abbrev pub reason_seen : CertReason → CertReasonData
reason_seen (Chain numbers) = value.Chain numbers.items
reason_seen (Over other) = value.Over other
