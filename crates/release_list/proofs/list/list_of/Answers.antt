use Rattle.std.proofs.lemmas.Result.{err_from_is_err_and}
use Rattle.release_list.proofs.TimeLaws.{listed_first, listed_next, listed_refused}
use Rattle.release_list.proofs.list.list_of.Goals as goal

pub loop-time-init : goal.loop-time-init
loop-time-init c = listed_first c.new-releases.ensures.items

pub returns-in_err-push_releases : goal.returns-in_err-push_releases
returns-in_err-push_releases c =
    let p = err_from_is_err_and c.from_residual.result c.from_residual.ensures.1 in
    rw (p.1, p.2) (listed_refused c.loop-time.invariant c.in_err-push_releases.field-0.0
    c.loop-time-test.true c.in_err-push_releases.ensures)

pub loop-time-preserved : goal.loop-time-preserved
loop-time-preserved c =
    listed_next c.loop-time.invariant c.in_ok-push_releases.ensures.0
    c.in_ok-push_releases.ensures.1 c.next_time-time.ensures.after c.next_time-time.ensures.until
    c.next_time-time.ensures.none
