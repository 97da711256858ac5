use Rattle.kept_beside.proofs.TraceLaws.{as_nobodys, as_picked, has_trace}
use Rattle.kept_beside.proofs.laws.runs_have_traces.Goals as goal

pub returns-clause-trace : goal.returns-clause-trace
returns-clause-trace c = λ comes node numbers jobs shown until legal arrived.
    has_trace comes node jobs numbers shown until legal arrived

pub returns-clause-picked : goal.returns-clause-picked
returns-clause-picked c = λ comes node jobs. as_picked comes node jobs

pub returns-clause-nobodys : goal.returns-clause-nobodys
returns-clause-nobodys c = λ comes node jobs. as_nobodys comes node jobs
