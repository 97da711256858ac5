-- What a body says, and the parts of a certificate.
use Rattle.certificate.specs.Body as value
use Rattle.certificate.specs.Body.{Body, Cert}
use Rattle.certificate.specs.declared.body.Parts.{Parts}
use Rattle.certificate.specs.declared.body.CertBody.{CertBody}
use Rattle.certificate.specs.declared.body.CertBody.TheVariants.{Best, NoOrder}

-- what callers see of a body
abbrev pub body_of : CertBody → Body
body_of (Best levels) = value.Best levels.items
body_of (NoOrder members) = value.NoOrder members.items

-- what callers see of a certificate's parts
abbrev pub cert_of : Parts → Cert
cert_of p = record { version = p.version; body = body_of p.body; chains = p.chains.items }
