use Rattle.std.proofs.Common.{◌==◌, ◌∙◌, rules, sym, ap, subst}
use Rattle.std.proofs.lemmas.Fn.{filter_same}
use Rattle.drafts.specs.Rosters.{IsRoster}
use Rattle.drafts.proofs.RosterLaws.{roster-kept}
use Rattle.book_lock.specs.Own.{own_of}
use Rattle.book_lock.proofs.own.OwnTasks.of.Goals as goal

pub invariant_of-result : goal.invariant_of-result
invariant_of-result c =
    let kept = filter_same _ (λ o. o.team == c.args.team) _ (λ x b f h. search rules) _ _
    c.retain.ensures.filtered in
    subst IsRoster (sym kept) (roster-kept (λ o. o.team == c.args.team) c.in_ok-tasks.tasks.items
    c.in_ok-tasks.ensures.roster)

pub returns : goal.returns
returns c =
    let kept = filter_same _ (λ o. o.team == c.args.team) _ (λ x b f h. search rules) _ _
    c.retain.ensures.filtered in
    kept ∙ ap (own_of c.args.team) c.in_ok-tasks.ensures.same
