-- What `desk check` answers and prints.
use Rattle.std.specs.Prelude.{◌≡◌, ℕ, List, [], ◌∷◌, ◌++◌, codes, string_bytes, Some, None, Result, Ok, Err}
use Rattle.task_sheet.specs.Sheet.{Task}
use Rattle.task_sheet.specs.Orders.{IsBest, IsFeasible}
use Rattle.certificate.specs.Body.{Cert}
use Rattle.certificate.specs.CertificateLines.{Fails, certificate_in}
use Rattle.certificate.specs.declared.value.CertChain.{CertChain}
use Rattle.cert_checker.specs.Ready.{IsReady}
use Rattle.cert_checker.specs.CertificateFaults.{check_fault}
use Rattle.cert_checker.specs.Answers.{kind_of, order_in}
use Rattle.cert_checker.specs.declared.checking.Checked.{Checked}
use Rattle.cert_checker.specs.declared.checking.Checked.TheVariants.{Best, NoOrder}
use Rattle.chain_tables.specs.Chains.{ChainData}
use Rattle.chain_lines.specs.ChainLines.{chain_line}
use Rattle.two_input_commands.specs.declared.check.Shown.{Shown}
use Rattle.answering.specs.OnBoth.{OfBoth}
use Rattle.answering.specs.Printed.{Answers}
use Rattle.answering.specs.declared.refusal.CommandRefusal.{CommandRefusal}
use Rattle.answering.specs.declared.refusal.CommandRefusal.TheVariants as refusal
use Rattle.answering.specs.declared.status.Status.TheVariants as status

-- the order of the certificate is the best, or no order passes
abbrev pub IsShown : List Task → Cert → Checked → Type 0
IsShown U c Best = IsBest U (order_in U c.body)
IsShown U c NoOrder = ¬ IsFeasible U

-- the line of what a certificate shows
abbrev pub kind_line : Checked → List ℕ
kind_line Best = codes "best\n"
kind_line NoOrder = codes "no order\n"

-- a line for each chain, of what is said of it
abbrev pub said_lines : List ChainData → (said : List CertChain) → List ℕ
said_lines [] said = []
said_lines (c ∷ chains) [] = []
said_lines (c ∷ chains) (s ∷ said) = chain_line c (Some s.number) None ++ said_lines chains said

-- what is printed of a certificate that shows this: its chains stand behind it, each beside its limit
abbrev pub checked_lines : List ChainData → Cert → Checked → List ℕ
checked_lines chains c kind = kind_line kind ++ said_lines chains c.chains

-- the answer on a set with these chains and the text of a certificate
abbrev pub ChecksText : List ChainData → List Task → List ℕ → Result Shown CommandRefusal → Type 0
ChecksText chains U text (Ok shown) =
    (c : Cert) × (certificate_in text ≡ Ok c) × IsReady U chains c × IsShown U c (kind_of c.body)
    × (string_bytes shown.text ≡ checked_lines chains c (kind_of c.body))
ChecksText chains U text (Err (refusal.Certificate fault)) = Fails fault (certificate_in text)
ChecksText chains U text (Err (refusal.Check fault)) =
    (c : Cert) × (certificate_in text ≡ Ok c) × (check_fault U chains c ≡ Some fault)
ChecksText chains U text (Err refusal.OutOfMemory) = Unit {0}
ChecksText chains U text _ = ⊥

-- the answer on both, with the status of what was done
abbrev pub ChecksBoth : OfBoth
ChecksBoth both =
    Answers (ChecksText both.chains.items both.tasks both.text.items) (λ shown. string_bytes shown.text)
    (λ shown. status.Done)
