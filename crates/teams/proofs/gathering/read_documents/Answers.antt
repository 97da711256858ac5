use Rattle.std.proofs.Common.{◌≡◌, ◌≢◌, [], length, rules, arith}
use Rattle.std.proofs.lemmas.Grind.{common_steps}
use Rattle.teams.proofs.TeamLaws.{cut_off, gathered_more, stopped}
use Rattle.teams.proofs.gathering.read_documents.Goals as goal

pub loop-rest-preserved : goal.loop-rest-preserved
loop-rest-preserved c = search (
  rules,
  gathered_more c.args.text.now c.loop-rest.rest.now
      c.in-Some.after.now c.loop-rest.sets.items c.in-Some.part c.in_ok-set-in-Some.set
      c.loop-rest.invariant c.in-Some.ensures.part c.in_ok-set-in-Some.ensures,
)

pub returns-in_err-set-in-Some-clause-err : goal.returns-in_err-set-in-Some-clause-err
returns-in_err-set-in-Some-clause-err c = search (
  rules,
  stopped c.args.text.now c.loop-rest.rest.now c.in-Some.after.now c.loop-rest.sets.items
      c.in-Some.part _ c.loop-rest.invariant c.in-Some.ensures.part c.in_err-set-in-Some.ensures,
)

pub returns-in-None-clause-err : goal.returns-in-None-clause-err
returns-in-None-clause-err c =
    let some : c.loop-rest.rest.now ≢ [] = grind (arith, common_steps) in
    let count : c.len-part.result ≡ length c.loop-rest.sets.items = grind (arith, common_steps) in
    cut_off c.args.text.now c.loop-rest.rest.now c.loop-rest.sets.items c.len-part.result
    c.loop-rest.invariant some c.in-None.ensures.part count
