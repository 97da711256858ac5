use Rattle.std.proofs.Common.{List, Err, length, ap, subst, arith}
use Rattle.ceiling_kernel.specs.declared.trace.Release.{Release}
use Rattle.ceiling_kernel.proofs.Common.{Runs, Node, node_in}
use Rattle.miss.proofs.MemberLaws.{above_known}
use Rattle.miss.proofs.RanLaws.{trace_length, stopped, has_job, ran}
use Rattle.miss.proofs.reaching.reach_in.Goals as goal

pub worst_case-requires-clause-above : goal.worst_case-requires-clause-above
worst_case-requires-clause-above c = above_known (node_in c.args.set.now c.args.order.now)
    (record { tasks = c.sheets.ensures.kept; order = c.requires.order }) c.args.task c.requires.task
    c.above.result.now c.above.ensures

pub index-requires : goal.index-requires
index-requires c =
    let run = rw c.deref.ensures.value at c.in-Ok.ensures.trace in
    omega (
      arith,
      trace_length c.args.kernel.now c.in-Some.run'.releases.items c.in-Some.run'.until
          c.in-Ok.trace run,
      c.in-Some-first_of.ensures.some.0,
      ap (λ (x : List Release). length x) c.deref-in-Ok.ensures.value,
    )

pub returns-in-Some-first_of : goal.returns-in-Some-first_of
returns-in-Some-first_of c =
    let case = rw (c.in-Some.is, c.above.ensures) at c.in_ok-run.ensures.some in
    let read = ran (node_in c.args.set.now c.args.order.now)
    (record { tasks = c.sheets.ensures.kept; order = c.requires.order }) c.args.task c.requires.task
    c.in-Some.run'.releases.items c.in-Some.run'.until case.0 case.1 c.in-Ok.trace
    (rw (c.requires.kernel, c.deref.ensures.value) at c.in-Ok.ensures.trace)
    c.in-Some-first_of.job c.index.result.now
    (rw c.deref-in-Ok.ensures.value at c.in-Some-first_of.ensures.some) c.index.ensures in
    record { case = case.0; few = case.1; finish = read.0; exact = read.1 }

pub returns-in-Ok : goal.returns-in-Ok
returns-in-Ok c =
    let case = rw (c.in-Some.is, c.above.ensures) at c.in_ok-run.ensures.some in
    absurd (has_job (node_in c.args.set.now c.args.order.now)
    (record { tasks = c.sheets.ensures.kept; order = c.requires.order }) c.args.task c.requires.task
    c.in-Some.run'.releases.items c.in-Some.run'.until case.0 case.1
    (rw c.deref-in-Ok.ensures.value at c.in-None.ensures.none))

pub returns : goal.returns
returns c =
    let case = rw (c.in-Some.is, c.above.ensures) at c.in_ok-run.ensures.some in
    stopped (node_in c.args.set.now c.args.order.now)
    (record { tasks = c.sheets.ensures.kept; order = c.requires.order }) c.args.task c.requires.task
    c.in-Some.run'.releases.items c.in-Some.run'.until case.0 case.1 c.in-Err.fault
    c.in_default-fault.not-OutOfMemory
    (subst (λ (x : Node). Runs x c.in-Some.run'.releases.items c.in-Some.run'.until
    (Err c.in-Err.fault)) c.requires.kernel (subst (λ (x : List Release). Runs c.args.kernel.now x
    c.in-Some.run'.until (Err c.in-Err.fault)) c.deref.ensures.value c.in-Err.ensures.trace))
