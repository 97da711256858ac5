use Rattle.std.proofs.Common.{inr, refl, sym, ◌∙◌}
use Rattle.std.proofs.lemmas.Bool.{both_ways}
use Rattle.ceiling_kernel.specs.Tick.{node_in}
use Rattle.miss.proofs.RanLaws.{is_miss, is_done}
use Rattle.miss.proofs.find.shown_in.Goals as goal

pub returns-in-Some : goal.returns-in-Some
returns-in-Some c = (
  rw c.members_above-members.ensures at (c.passes.ensures.0 c.if-passes.true),
  rw c.members_above-members.ensures at c.in-Some.ensures.some,
)

pub returns-in-None : goal.returns-in-None
returns-in-None c = (
  rw c.members_above-members.ensures at (c.passes.ensures.0 c.if-passes.true),
  rw c.members_above-members.ensures at c.in-None.ensures.none,
)

pub why_not-requires-clause-fails : goal.why_not-requires-clause-fails
why_not-requires-clause-fails c = λ p. both_ways _ c.if-passes.false
    (c.passes.ensures.1 (rw c.members_above-members.ensures p))

pub why_not-requires-then-is_some-clause-fails : goal.why_not-requires-then-is_some-clause-fails
why_not-requires-then-is_some-clause-fails c = λ p. both_ways _ c.if-passes.false
    (c.passes.ensures.1 (rw c.members_above-members.ensures p))

pub why_not-requires-then-is_some-clause-none : goal.why_not-requires-then-is_some-clause-none
why_not-requires-then-is_some-clause-none c =
    inr (is_done (node_in c.args.set.now c.args.order.now)
    (record { tasks = c.sheets.ensures.kept; order = c.requires.order }) c.args.task c.requires.task
    c.in-Ran.run' (rw c.in-Ran.is at c.in_ok-reach_in.ensures)
    (sym c.is_some.ensures ∙ c.if-is_some.true))

pub returns-in-TooMany : goal.returns-in-TooMany
returns-in-TooMany c = (
  λ p. both_ways _ c.if-passes.false (c.passes.ensures.1 (rw c.members_above-members.ensures p)),
  rw c.in-TooMany.is at c.in_ok-reach_in.ensures,
)

pub returns-else-is_some : goal.returns-else-is_some
returns-else-is_some c =
    let run = rw c.in-Ran.is at c.in_ok-reach_in.ensures in
    record {
      task = refl;
      case = run.case;
      miss = is_miss (node_in c.args.set.now c.args.order.now)
          (record { tasks = c.sheets.ensures.kept; order = c.requires.order }) c.args.task
          c.requires.task c.in-Ran.run' run (sym c.is_some.ensures ∙ c.if-is_some.false);
    }
