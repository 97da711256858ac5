use Rattle.cut_runs.proofs.cut.run_left.Goals as goal

pub returns-in-Ok-clause-run : goal.returns-in-Ok-clause-run
returns-in-Ok-clause-run c = λ until stops. record {
  shown = (stops, c.in_ok-left.ensures);
  ran = rw c.deref.ensures.value at c.in-Ok.ensures.trace;
}

pub returns-in-Ok-clause-tighter : goal.returns-in-Ok-clause-tighter
returns-in-Ok-clause-tighter c = rw c.deref.ensures.value at c.in-Ok.ensures.tighter
