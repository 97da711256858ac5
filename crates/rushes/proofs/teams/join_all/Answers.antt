use Rattle.rushes.proofs.EachLaws.{Each-push, one_more, all_done}
use Rattle.rushes.proofs.teams.join_all.Goals as goal

pub loop-started-preserved : goal.loop-started-preserved
loop-started-preserved g c =
    let was = c.loop-started.invariant in
    record {
      work = one_more c.loop-started.yielded _ _ _ c.in-Some.started _ _ _ _ _ _ was.work
          c.in-Some.ensures.steps c.push_reserved.ensures.len c.push_reserved.ensures.capacity;
      joined = rw c.push_reserved.ensures.items
          (Each-push _ c.loop-started.yielded c.loop-started.ends.items c.in-Some.started
          c.finish.result was.joined (c.finish.ensures.thread, c.finish.ensures.over));
    }

pub returns : goal.returns
returns g c =
    let was = c.loop-started.invariant in
    let all = all_done c.loop-started.yielded _ _ _ _ _ was.work c.in-None.ensures.steps.0 in
    rw (← all) was.joined
