use Rattle.std.proofs.Common.{ℕ, ap, sym}
use Rattle.std.specs.Prelude.{set}
use Rattle.std.proofs.lemmas.List.{get_or_past, set_past}
use Rattle.drawn_jobs.proofs.bars.count_slice.Goals as goal

pub returns-then-slice-executed-clause-before : goal.returns-then-slice-executed-clause-before
returns-then-slice-executed-clause-before c =
    sym (get_or_past c.args.executed.now c.args.slice.job 0 c.if-slice-executed.true)

pub returns-then-slice-executed-clause-counted : goal.returns-then-slice-executed-clause-counted
returns-then-slice-executed-clause-counted c =
    sym (set_past c.args.executed.now c.args.slice.job _ c.if-slice-executed.true)

pub returns-clause-counted : goal.returns-clause-counted
returns-clause-counted c =
    ap (λ (n : ℕ). set c.args.executed.now c.args.slice.job n) c.executed_after.ensures
