use Rattle.std.proofs.Common.{sym, ◌∙◌, length, arith}
use Rattle.task_sheet.specs.Indexes.{indexes_of}
use Rattle.cert_checker.proofs.SeenSteps.{has_all-lacks}
use Rattle.cert_checker.proofs.naming.has_all.Goals as goal

pub returns-then-not-has : goal.returns-then-not-has
returns-then-not-has c = sym (has_all-lacks (length c.args.set.now) (indexes_of c.args.seen)
    c.loop-k.k (omega (arith, c.len-k-end.ensures.count, c.loop-k-test.true))
    (sym c.has.ensures ∙ c.if-not-has.true))
