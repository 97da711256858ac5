use Rattle.std.proofs.Common.{◌≡◌, append_assoc, arith, length}
use Rattle.drawn_jobs.proofs.marks.put_marks.Goals as goal

pub returns : goal.returns
returns c =
    let all : c.loop-i.i ≡ length c.args.chart.now.releases.now =
    omega (arith, c.loop-i.auto.i-end, c.loop-i-test.false) in
    let marks = rw all at c.loop-i.invariant in
    simp append_assoc (simp (marks, c.in_ok-write.ensures.bytes, append_assoc)
    at c.writeln.ensures.bytes)
