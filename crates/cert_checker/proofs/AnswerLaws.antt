-- What the checker's answers mean.
use Rattle.std.proofs.Common.{◌≡◌, ◌↔◌, List, Some, None, Result, Ok, Err, refl, sym, ◌∙◌}
use Rattle.std.specs.Prelude.{MatchResult, IsOk, IfOk, IfErr}
use Rattle.task_sheet.proofs.Common.{Task, IsTaskSet, IsBest, IsFeasible}
use Rattle.task_sheet.proofs.TaskLaws.{AllTasks-from_set}
use Rattle.task_sheet.proofs.ReadyLaws.{IsReadyOrder-best, IsReadySet-fails}
use Rattle.certificate.specs.Body.{Body, Cert}
use Rattle.certificate.specs.Body as says
use Rattle.certificate.specs.declared.value.CertChain.{CertChain}
use Rattle.chain_tables.specs.Chains.{ChainData}
use Rattle.cert_checker.specs.Ready.{levels_of, failures_of, IsReadyBody, IsReady}
use Rattle.cert_checker.specs.CertificateFaults.{check_fault}
use Rattle.cert_checker.specs.Answers.{kind_of, order_in}
use Rattle.cert_checker.specs.declared.checking.Checked.{Checked}
use Rattle.cert_checker.specs.declared.checking.Checked.TheVariants.{Best, NoOrder}
use Rattle.cert_checker.specs.declared.fault.CheckFault.{CheckFault}
use Rattle.cert_checker.proofs.ReadyLaws.{faultless}

-- what is told of an answer
abbrev pub Told : List Task → List ChainData → Cert → Result Checked CheckFault → Type 0
Told U chains b r = MatchResult r (λ kind. (check_fault U chains b ≡ None) × (kind ≡ kind_of b.body))
    (λ fault. check_fault U chains b ≡ Some fault)

abbrev ok_answer : Checked → Result Checked CheckFault
ok_answer kind = Ok kind

ok-kind : (kind other : Checked) → ok_answer kind ≡ ok_answer other → kind ≡ other
ok-kind kind other e = cc

shows-best : (U : List Task) (chains : List ChainData) (b : Body) (said : List CertChain) → IsTaskSet U
    → IsReadyBody U chains b said → kind_of b ≡ Best
    → IsBest U (order_in U b)
shows-best U chains (says.Best levels) said set ready e =
    IsReadyOrder-best U (AllTasks-from_set U set) (levels_of U levels) ready.0
shows-best U chains (says.NoOrder members) said set ready e = absurd cc

shows-none : (U : List Task) (chains : List ChainData) (b : Body) (said : List CertChain) → IsTaskSet U
    → IsReadyBody U chains b said → kind_of b ≡ NoOrder
    → ¬ IsFeasible U
shows-none U chains (says.Best levels) said set ready e = absurd cc
shows-none U chains (says.NoOrder members) said set ready e =
    IsReadySet-fails U (AllTasks-from_set U set) (failures_of U members) ready

pub answer-told : (U : List Task) (chains : List ChainData) (b : Cert) (r : Result Checked CheckFault) → IsTaskSet U
    → Told U chains b r → (IsOk r ↔ IsReady U chains b) × IfOk r (λ kind. kind ≡ kind_of b.body)
    × IfErr r (λ fault. check_fault U chains b ≡ Some fault)
    × (r ≡ Ok Best → IsBest U (order_in U b.body)) × (r ≡ Ok NoOrder → ¬ IsFeasible U)
answer-told U chains b (Ok kind) set told =
    let ready = (faultless U chains b).0 told.0 in (
      (λ ok. ready, λ is. refl),
      told.1,
      tt,
      λ e. shows-best U chains b.body b.chains set ready.body (sym told.1 ∙ ok-kind kind Best e),
      λ e. shows-none U chains b.body b.chains set ready.body (sym told.1 ∙ ok-kind kind NoOrder e),
    )
answer-told U chains b (Err fault) set told = (
  (λ ok. absurd cc, λ ready. let none = (faultless U chains b).1 ready in absurd cc),
  tt,
  told,
  λ e. absurd cc,
  λ e. absurd cc,
)
