use Rattle.std.proofs.Common.{◌≡◌, length, sym, ◌∙◌, ap}
use Rattle.task_sheet.proofs.Common.{Indexes, indexes_of, below, all_of}
use Rattle.task_sheet.proofs.MembersIndexes.{indexes_of-all_below}
use Rattle.candidate_workers.proofs.candidates.Candidates.all.Goals as goal

pub invariant_of-result : goal.invariant_of-result
invariant_of-result c =
    let all : indexes_of c.all-left.result ≡ all_of c.args.set.value =
    ap indexes_of c.all-left.ensures ∙ indexes_of-all_below c.len.result
    ∙ ap below (c.len.ensures.count ∙ ap length c.deref.ensures) in
    λ k h. ap (λ (X : Indexes). X k) (sym all) ∙ h
