use Rattle.std.proofs.Common.{◌∙◌, sym}
use Rattle.std.proofs.lemmas.Bool.{both_ways}
use Rattle.ceiling_kernel.specs.Tick.{node_in}
use Rattle.miss.proofs.ShownLaws.{within_tick}
use Rattle.miss.proofs.ReachLaws.{ends_low, ends_raised}
use Rattle.miss.proofs.RanLaws.{done_below, need_not}
use Rattle.miss.proofs.reason.why_not.Goals as goal

pub returns-then-ends_inside : goal.returns-then-ends_inside
returns-then-ends_inside c =
    let node = node_in c.args.set.now c.args.order.now in
    let pass = c.in_default.ensures.none in (
      c.requires.fails,
      done_below node (record { tasks = c.sheets.ensures.kept; order = c.requires.order })
          c.args.task c.requires.task pass c.requires.none,
      pass,
      ends_raised node (record { tasks = c.sheets.ensures.kept; order = c.requires.order })
          c.args.task (rw c.members_above-members.ensures at
          (sym c.ends_inside.ensures ∙ c.if-ends_inside.true)),
    )

pub returns-then-passes_uninterrupted : goal.returns-then-passes_uninterrupted
returns-then-passes_uninterrupted c =
    let node = node_in c.args.set.now c.args.order.now in
    let pass = c.in_default.ensures.none in (
      c.requires.fails,
      done_below node (record { tasks = c.sheets.ensures.kept; order = c.requires.order })
          c.args.task c.requires.task pass c.requires.none,
      pass,
      ends_low node (record { tasks = c.sheets.ensures.kept; order = c.requires.order }) c.args.task
          (rw c.members_above-members.ensures at
          (sym c.ends_inside.ensures ∙ c.if-ends_inside.false)),
      rw c.members_above-members.ensures at
          (c.passes_uninterrupted.ensures.0 c.if-passes_uninterrupted.true),
    )

pub returns : goal.returns
returns c =
    let node = node_in c.args.set.now c.args.order.now in
    let pass = c.in_default.ensures.none in
    let low = ends_low node (record { tasks = c.sheets.ensures.kept; order = c.requires.order })
    c.args.task (rw c.members_above-members.ensures at
    (sym c.ends_inside.ensures ∙ c.if-ends_inside.false)) in (
      c.requires.fails,
      done_below node (record { tasks = c.sheets.ensures.kept; order = c.requires.order })
          c.args.task c.requires.task pass c.requires.none,
      pass,
      low,
      λ p. both_ways _ c.if-passes_uninterrupted.false
          (c.passes_uninterrupted.ensures.1 (rw c.members_above-members.ensures p)),
      within_tick node c.args.task low pass (need_not node
          (record { tasks = c.sheets.ensures.kept; order = c.requires.order }) c.args.task
          c.requires.task c.requires.none),
    )
