use Rattle.std.proofs.Common.{◌∙◌, ◌+◌, sym, ap, drop}
use Rattle.drafts.specs.Applied.{interrupts_after}
use Rattle.drafts.proofs.InterruptLaws.{next_said}
use Rattle.drafts.proofs.interrupts.make_all_said.Goals as goal

pub loop-place-preserved : goal.loop-place-preserved
loop-place-preserved c =
    let xs = c.loop-place.interrupts.items in
    record {
      within = c.in_ok-make_said.ensures.within;
      same = c.loop-place.invariant.same ∙ next_said c.args.team xs c.args.changes.now.entries
          c.loop-place.place _ _ (sym c.in-Some.ensures.entry)
          ∙ ap (λ ys. interrupts_after c.args.team ys
          (drop (c.loop-place.place + 1) c.args.changes.now.entries))
          (sym c.in_ok-make_said.ensures.ok);
    }
