use Rattle.std.proofs.Common.{◌≡◌, inl, refl, rules}
use Rattle.assignment.specs.Questions.{QuestionData}
use Rattle.candidate_workers.specs.WorkerFaults.{IsBadCount}
use Rattle.book_lock.proofs.Rounds.{undecided, commits_later}
use Rattle.book_lock.proofs.desk.Desk.commit.Goals as goal

pub returns-in-Ok-Overtaken : goal.returns-in-Ok-Overtaken
returns-in-Ok-Overtaken g c =
    let h = rw c.in-Ok-Overtaken.field-0-is at c.in-Ok-Overtaken.ensures in
    let team : c.args.draft.team ≡ c.args.pass.now.team = search rules in
    let good : ¬ IsBadCount c.args.workers = search rules in
    commits_later _ _ _ _ _ _ _ _ _ _ team good h.0 h.1 h.2 h.4 h.5 c.later_rounds.ensures

pub returns-in-Err : goal.returns-in-Err
returns-in-Err g c =
    let h = c.in-Err.ensures in
    let team : c.args.draft.team ≡ c.args.pass.now.team = search rules in
    let good : ¬ IsBadCount c.args.workers = search rules in (
      undecided (λ (q : QuestionData). g.G.Gate.may_shut c.args.gate.now q) c.args.workers
          c.args.draft c.args.pass.now c.in-Err.fault.cause team good
          (c.args.draft.base, inl refl, h.0),
      h.1,
      h.2,
    )
