use Rattle.dispatch.proofs.Unopened.{number_unopened, one_unopened, two_unopened}
use Rattle.dispatch.proofs.running.run_call.Goals as goal

-- an input that was not opened
pub returns-in-None-clause-printed : goal.returns-in-None-clause-printed
returns-in-None-clause-printed g c =
    let said = c.not_opened.ensures in
    rw c.in-One.is
    (λ sound. one_unopened _ _ _ (said.printed sound) (said.status sound) c.in-One.command _ _)

pub returns-in-Err-clause-printed : goal.returns-in-Err-clause-printed
returns-in-Err-clause-printed g c =
    let said = c.not_opened-in-Err.ensures in
    rw c.in-Two.is (λ sound. two_unopened _ _ _ (said.printed sound) (said.status sound)
    c.in-Two.command _ _ _)

pub returns-in-None-open_one-clause-printed : goal.returns-in-None-open_one-clause-printed
returns-in-None-open_one-clause-printed g c =
    let said = c.not_opened-in-None-open_one.ensures in
    rw c.in-Number.is (λ sound. number_unopened _ _ _ (said.printed sound) (said.status sound)
    c.in-Number.command _ c.in-Number.number _ _ _)
