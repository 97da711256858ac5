use Rattle.std.proofs.Common.{◌<◌, length}
use Rattle.std.proofs.lemmas.List.Elements.{All-map}
use Rattle.assignment.specs.Places.{PlaceData}
use Rattle.explain.specs.Accounts.{IsInTime}
use Rattle.judge.specs.Judgements.{order_judged}
use Rattle.judge.specs.declared.judging.JudgedTask.{JudgedTask}
use Rattle.judge.proofs.explained.account_of.Goals as goal

pub response_account-requires : goal.response_account-requires
response_account-requires c =
    let U = c.args.set.now in
    let place : PlaceData = record { task = c.args.task; response = c.args.response } in
    let in_time : IsInTime U (order_judged c.args.above.now) place = record {
      in_set = c.requires.task;
      others = All-map (λ k. k < length U) (λ (j : JudgedTask). j.task) c.args.above.now
          c.requires.above;
      response = c.requires.response;
      in_time = c.requires.in_time;
    } in
    rw c.in_ok-order.ensures in_time

pub returns : goal.returns
returns c = rw c.in_ok-order.ensures at c.response_account.ensures
