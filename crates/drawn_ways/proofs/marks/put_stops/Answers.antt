use Rattle.std.proofs.Common.{◌∙◌, append_assoc, arith, string_bytes, suc}
use Rattle.drawn_ways.proofs.marks.put_stops.Goals as goal

pub put_stop-requires-clause-place : goal.put_stop-requires-clause-place
put_stop-requires-clause-place c =
    (rw c.in-Some.ensures.cases.0 at c.loop-stop.invariant.within) 0 c.in-Some.stop.now (omega arith)

pub put_stop-requires-clause-before : goal.put_stop-requires-clause-before
put_stop-requires-clause-before c = λ k d lt.
    (rw c.in-Some.ensures.cases.0 at c.loop-stop.invariant.within) (suc k) d (omega (arith, lt))

pub loop-stop-preserved : goal.loop-stop-preserved
loop-stop-preserved c =
    let was = rw c.in-Some.ensures.cases.0 at c.loop-stop.invariant in
    record {
      text = rw c.in_ok-put_stop.ensures (append_assoc (string_bytes c.loop-stop.text) _ _ ∙ was.text);
      within = λ k d lt. was.within (suc k) d (omega (arith, lt));
    }
