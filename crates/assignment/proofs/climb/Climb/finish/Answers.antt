use Rattle.std.proofs.Common.{ap, subst, is_some}
use Rattle.std.proofs.lemmas.Bool.{both_ways}
use Rattle.assignment.specs.Climbs.{ClimbState, IsUnfinished}
use Rattle.assignment.proofs.ClimbLaws.{not_unfinished, IsClimbing-admitted, stuck_kept}
use Rattle.assignment.proofs.climb.Climb.finish.Goals as goal

pub new-requires : goal.new-requires
new-requires c = stuck_kept c.self.inside c.in-Some.members c.self.invariant c.in-Some.is

pub new-requires-in-None : goal.new-requires-in-None
new-requires-in-None c =
    let a = c.self.inside in
    let inside : ClimbState = record {
      set = a.set.value;
      levels = a.levels.items;
      left = a.left;
      stuck = is_some a.members;
    } in
    let finished = λ (so : IsUnfinished inside). both_ways c.is_unfinished.result
    c.if-is_unfinished.false (c.is_unfinished.ensures.1
    (subst (λ (x : ClimbState). IsUnfinished x) c.self.view_is so)) in
    IsClimbing-admitted a.set.value a.left a.levels.items c.self.invariant.climbing
    (not_unfinished inside (ap (λ o. is_some o) c.in-None.is) finished)
