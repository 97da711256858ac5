use Rattle.std.proofs.Common.{arith}
use Rattle.std.proofs.lemmas.Result.{err_from_is_err_and}
use Rattle.release_list.proofs.RandomLaws.{ranked_first, ranked_next, ranked_refused}
use Rattle.release_list.proofs.random_list.jobs.Goals as goal

pub loop-rank-init : goal.loop-rank-init
loop-rank-init c = ranked_first c.new-releases.ensures.items

pub returns-in_err-push_jobs : goal.returns-in_err-push_jobs
returns-in_err-push_jobs c =
    let p = err_from_is_err_and c.from_residual.result c.from_residual.ensures.1 in
    rw (p.1, p.2) (ranked_refused c.loop-rank.invariant (omega arith) c.index-sheets-rank.is
    c.pace_of.ensures.value c.of.ensures c.in_err-push_jobs.field-0.0 c.in_err-push_jobs.ensures)

pub loop-rank-preserved : goal.loop-rank-preserved
loop-rank-preserved c =
    ranked_next c.loop-rank.invariant (omega arith) c.index-sheets-rank.is
    c.pace_of.ensures.value c.of.ensures
    c.in_ok-push_jobs.ensures.0 c.in_ok-push_jobs.ensures.1
