use Rattle.std.proofs.Common.{◌≡◌, ◌<◌, ◌∙◌, [], ◌∷◌, ◌++◌, sym, ap, subst, arith}
use Rattle.std.specs.FinSet.{len}
use Rattle.task_sheet.proofs.Common.{indexes_of, IsChosen, LevelData}
use Rattle.task_sheet.specs.Verdicts.{IsLevel}
use Rattle.task_sheet.proofs.MembersIndexes.{len-of_member, len-remove_member}
use Rattle.assignment.specs.Climbs.{ClimbState}
use Rattle.assignment.specs.Levels.{IsObstructed}
use Rattle.assignment.proofs.ClimbLaws.{IsClimbing-push, none_known}
use Rattle.assignment.proofs.climb.Climb.place.Goals as goal

-- what is known of the climb and of the level holds of what they keep
inside : (climb a : ClimbState) (level b : LevelData) → a ≡ climb → b ≡ level
    → IsChosen climb.set (indexes_of climb.left) level.task
    → IsLevel climb.set (indexes_of climb.left) level
    → IsChosen a.set (indexes_of a.left) b.task × IsLevel a.set (indexes_of a.left) b
inside climb a level b same same' chosen is =
    subst (λ (x : LevelData). IsChosen a.set (indexes_of a.left) x.task
    × IsLevel a.set (indexes_of a.left) x) (sym same')
    (subst (λ (x : ClimbState). IsChosen x.set (indexes_of x.left) level.task
    × IsLevel x.set (indexes_of x.left) level) (sym same) (chosen, is))

pub push_reserved-requires : goal.push_reserved-requires
push_reserved-requires c =
    let known =
    inside _ _ _ _ c.self.view_is c.level.view_is c.requires.chosen c.requires.level in
    omega (
      arith,
      c.self.invariant.room,
      len-of_member c.self.inside.left c.level.inside.task known.0.member,
    )

pub invariant_of-self : goal.invariant_of-self
invariant_of-self c =
    let a = c.self.inside in
    let known =
    inside _ _ _ _ c.self.view_is c.level.view_is c.requires.chosen c.requires.level in
    let goes_on = ap (λ (x : ClimbState). x.stuck) c.self.view_is ∙ c.requires.goes_on in
    let fewer : len c.without-self-inside.result < len a.left = rw c.without-self-inside.ensures
    (len-remove_member a.left c.level.inside.task known.0.member) in
    record {
      valid = c.self.invariant.valid;
      climbing = IsClimbing-push a.set.value a.left c.without-self-inside.result a.levels.items
          c.push_reserved.new.self.items _ c.self.invariant.climbing known.0 known.1
          c.without-self-inside.ensures (c.push_reserved.ensures.items
          ∙ ap (λ (x : LevelData). a.levels.items ++ x ∷ []) (sym c.level.view_is));
      room = omega (
        arith,
        c.self.invariant.room,
        c.push_reserved.ensures.len,
        c.push_reserved.ensures.capacity,
      );
      obstructed = none_known (λ members. IsObstructed a.set.value
          (indexes_of c.without-self-inside.result) members.items) a.members goes_on;
    }
