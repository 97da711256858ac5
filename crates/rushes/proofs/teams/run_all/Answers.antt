use Rattle.std.proofs.Common.{◌∙◌, ℕ, [], ap, arith}
use Rattle.rushes.specs.TeamLines.{lines_of}
use Rattle.rushes.proofs.EachLaws.{Each-push, Each-joined, one_more, all_done}
use Rattle.rushes.proofs.PartLaws.{finish_end}
use Rattle.rushes.proofs.teams.run_all.Goals as goal

pub loop-pass-preserved : goal.loop-pass-preserved
loop-pass-preserved g c =
    let was = c.loop-pass.invariant in
    let own = c.lines_of-lines.ensures
    ∙ ap (λ (team : ℕ). lines_of team [] c.args.split.now) c.team.ensures in
    record {
      work = one_more c.loop-pass.yielded _ _ _ c.in-Some.pass _ _ _ _ _ _ was.work
          c.in-Some.ensures.steps c.push_reserved.ensures.len c.push_reserved.ensures.capacity;
      empty = was.empty;
      kept = omega (arith, c.push_reserved.ensures.capacity, was.kept);
      started = rw c.push_reserved.ensures.items (Each-push _ c.loop-pass.all.items
          c.loop-pass.yielded c.start.result c.in-Some.pass was.started
          (c.lines_of-lines.result.now, own, c.start.ensures.thread, c.start.ensures.over));
    }

pub returns : goal.returns
returns g c =
    let was = c.loop-pass.invariant in
    let all = all_done c.loop-pass.yielded _ c.args.passes.items _ _ _ was.work
    c.in-None.ensures.steps.0 in
    Each-joined _ _ _ c.loop-pass.all.items c.args.passes.items c.join_all.result.items
    (λ started start ended is so. finish_end c.args.site.now.workers c.args.split.now started _ _ _
    start ended is so)
    (rw (← all) was.started)
    c.join_all.ensures
