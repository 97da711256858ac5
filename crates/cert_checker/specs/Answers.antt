-- What the checker answers.
use Rattle.std.specs.Prelude.{◌≡◌, ℕ, List, [], None, Ok}
use Rattle.task_sheet.specs.Sheet.{Task}
use Rattle.task_sheet.specs.Verdicts.{VerdictData, Admitted, Infeasible, order_of}
use Rattle.certificate.specs.Body.{Body, Cert, HasSpelling}
use Rattle.chain_tables.specs.Chains.{ChainData}
use Rattle.certificate.specs.Body as says
use Rattle.certificate.specs.Spelling.{spelling}
use Rattle.certificate.specs.CertificateLines.{certificate_in}
use Rattle.cert_checker.specs.Ready.{levels_of, IsReady}
use Rattle.cert_checker.specs.CertificateFaults.{check_fault}
use Rattle.cert_checker.specs.declared.checking.Checked.{Checked}
use Rattle.cert_checker.specs.declared.checking.Checked.TheVariants.{Best, NoOrder}

-- what a ready certificate shows
abbrev pub kind_of : Body → Checked
kind_of (says.Best levels) = Best
kind_of (says.NoOrder members) = NoOrder

-- the order that a certificate names, lowest first
abbrev pub order_in : List Task → Body → List ℕ
order_in U (says.Best levels) = order_of (levels_of U levels)
order_in U (says.NoOrder members) = []

-- what the certificate of a verdict shows
abbrev pub kind_of_verdict : VerdictData → Checked
kind_of_verdict (Admitted levels) = Best
kind_of_verdict (Infeasible members) = NoOrder

-- a certificate of a verdict on a set with these chains is written, read back, ready, faultless and of the verdict's kind
pub record IsAccepted (U : List Task) (chains : List ChainData) (v : VerdictData) (c : Cert) : Type 0 where
  pub spelled : HasSpelling c
  pub read_back : certificate_in (spelling c) ≡ Ok c
  pub ready : IsReady U chains c
  pub faultless : check_fault U chains c ≡ None
  pub kind : kind_of c.body ≡ kind_of_verdict v
