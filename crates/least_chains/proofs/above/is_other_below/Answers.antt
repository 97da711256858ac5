use Rattle.std.proofs.Common.{◌∙◌, ap, sym, subst}
use Rattle.task_sheet.proofs.Common.{Indexes, indexes_of, Stands}
use Rattle.task_sheet.proofs.MembersIndexes.{indexes_of-remove}
use Rattle.least_chains.proofs.above.is_other_below.Goals as goal

pub returns : goal.returns
returns c =
    let rest = ap indexes_of c.without.ensures ∙ indexes_of-remove c.args.left c.args.other in (
      λ so. record {
        other = c.if-other-task.false;
        member = sym c.has.ensures ∙ c.if-not-has.false;
        stands = subst (λ (X : Indexes). Stands c.args.set.now c.args.other X) rest (c.may_stand.ensures.0 so);
      },
      λ below. c.may_stand.ensures.1
          (subst (λ (X : Indexes). Stands c.args.set.now c.args.other X) (sym rest) below.stands),
    )
