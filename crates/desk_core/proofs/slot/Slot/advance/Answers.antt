use Rattle.std.proofs.Common.{◌≡◌, ◌∙◌, Some, sym, ap}
use Rattle.desk_core.specs.SlotFields.{slot_of}
use Rattle.desk_core.proofs.AdvanceLaws.{slot-advanced, none-advanced}
use Rattle.desk_core.proofs.slot.Slot.advance.Goals as goal
use Rattle.desk_core.proofs.slot.Slot.advance.Goals.{in-Grown, in-Nothing}

pub returns-clause-ok : goal.returns-clause-ok
returns-clause-ok c =
    let now : slot_of c.grow.new.kept ≡ c.args.self.now = c.grow.ensures.same ∙ c.self.view_is in
    elim c.match-self.branch [
      | in-Grown w ↦ rw (w.result-is, w.self-inside-is) (slot-advanced c.args.self.now
          w.deref_mut.result.now w.advance.new.self w.advance.result (sym now ∙ ap slot_of
          w.in-Grown.is ∙ ap (λ l. Some l) (sym w.deref_mut.ensures.value)) w.advance.ensures.ok)
      | in-Nothing w ↦ rw (w.result-is, w.self-inside-is) (none-advanced c.args.self.now (slot_of
          c.grow.new.kept) (sym now ∙ ap slot_of w.in-Nothing.is) (ap slot_of w.in-Nothing.is))
    ]
