use Rattle.std.proofs.Common.{sym, ◌∙◌, ap, subst}
use Rattle.task_sheet.proofs.Common.{IsPart, all_of, among, IsResponseOf, Passes}
use Rattle.least_chains.specs.LeastBound.{least_time}
use Rattle.chain_limits.proofs.OrderedLaws.{above-few, above-part, above-passes, part-told}
use Rattle.chain_limits.proofs.bound.part_at_finish.Goals as goal

pub members_of-above-requires : goal.members_of-above-requires
members_of-above-requires c = rw c.above.ensures
    (above-few c.args.set.now c.args.order.now c.sheets.ensures.kept c.requires.passing c.args.task)

pub least_time-requires-clause-part : goal.least_time-requires-clause-part
least_time-requires-clause-part c =
    subst (λ X. IsPart X (all_of c.args.set.now)) (sym (c.members_of-above.ensures ∙ ap among c.above.ensures))
    (above-part c.args.set.now c.args.order.now c.sheets.ensures.kept c.requires.passing c.args.task)

pub unreachable-requires : goal.unreachable-requires
unreachable-requires c =
    c.in-None.ensures.none (subst (λ X. Passes c.args.set.now c.args.task X) (sym (c.members_of-above.ensures ∙ ap among c.above.ensures))
    (above-passes c.args.set.now c.args.order.now c.sheets.ensures.kept c.requires.passing c.args.task
    c.requires.task))

pub returns : goal.returns
returns c levels are same =
    let U = c.args.set.now in
    let i = c.args.task in
    let r = c.in-Some.response in
    c.least_time.ensures
    ∙ (ap (λ X. least_time U i X r c.args.others.now) (c.members_of-above.ensures ∙ ap among c.above.ensures)
    ∙ part-told U c.args.order.now c.sheets.ensures.kept c.requires.passing levels are same i r
    c.args.others.now c.requires.task
    (subst (λ X. IsResponseOf U i X r) (c.members_of-above.ensures ∙ ap among c.above.ensures) c.in-Some.ensures.some.0))
