use Rattle.std.proofs.Common.{arith, sym, ◌∙◌, subst, length, false, is_some, ◌≡◌}
use Rattle.std.proofs.lemmas.Bool.{lt-ltb, ltb-true}
use Rattle.task_sheet.proofs.MembersIndexes.{len-of_member, member_of-len}
use Rattle.assignment.specs.Climbs.{ClimbState, IsUnfinished}
use Rattle.assignment.proofs.ClimbLaws.{left_part}
use Rattle.assignment.proofs.climb.Climb.is_unfinished.Goals as goal

pub returns-then-is_none : goal.returns-then-is_none
returns-then-is_none c =
    let a = c.self.inside in (
      λ some.
          let part = left_part a.set.value a.left a.levels.items c.self.invariant.climbing in
          let pos = ltb-true 0 c.len.result some in
          let member =
          member_of-len a.left (length a.set.value) part (omega (arith, c.len.ensures, pos)) in
          let none : is_some a.members ≡ false = c.is_none.ensures ∙ rw c.if-is_none.true in
          subst (λ (x : ClimbState). IsUnfinished x) c.self.view_is
          (record { some = (member.0, member.2); goes_on = none }),
      λ so.
          let inside = subst (λ (x : ClimbState). IsUnfinished x) (sym c.self.view_is) so in
          lt-ltb 0 c.len.result
          (omega (arith, c.len.ensures, len-of_member a.left inside.some.0 inside.some.1)),
    )
