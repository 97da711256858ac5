use Rattle.std.proofs.Common.{rules}
use Rattle.owners.proofs.OwnerLaws.{gathers_more}
use Rattle.owners.proofs.owner.owners_in.Goals as goal

pub loop-part-preserved : goal.loop-part-preserved
loop-part-preserved c = search (
  rules,
  gathers_more c.args.text.now c.loop-part.rest.now
      c.in-Some.after.now c.loop-part.owners.items c.push_interrupts.new.owners.items c.in-Some.part
      c.in-Some-2.document c.loop-part.invariant c.in-Some.ensures.part,
)
