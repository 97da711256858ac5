use Rattle.std.proofs.Common.{◌+◌, ◌∙◌, drop, sym, refl, append_assoc}
use Rattle.toml.specs.View.{items_view}
use Rattle.task_sheet.specs.Tree.{strings_in}
use Rattle.task_sheet.proofs.TreeLaws.{strings_step, named_more, named_fails}
use Rattle.task_sheet.proofs.read.read_names.Goals as goal
use Rattle.task_sheet.proofs.read.read_names.Goals.{in-Some+in-Ok+in_ok-push-in-Ok, in_default}

pub loop-item-preserved : goal.loop-item-preserved
loop-item-preserved c =
    let next = strings_step c.args.items.now c.loop-item.item-index c.item-item.result
    c.loop-item-test.true c.item-item.is in
    elim c.match-as_str.branch [
      | in-Some+in-Ok+in_ok-push-in-Ok w ↦
          let left = strings_in (items_view (drop (c.loop-item.item-index + 1) c.args.items.now)) in
          let named = rw w.as_bytes.ensures.value at (w.in-Ok.ensures.named.0 refl) in
          let rest = rw (← w.in-Some.ensures) at next in
          record {
            named = sym (named_more w.in-Some.text.now left named)
                ∙ (rw rest at c.loop-item.invariant.named);
            read = rw (
              w.names-is,
              w.in_ok-push-in-Ok.ensures.items,
              w.in-Ok.ensures.same,
              w.as_bytes.ensures.value,
              append_assoc,
            ) (rw rest at c.loop-item.invariant.read);
          }
      | in_default w ↦
          let rest = rw (← w.in_default.ensures) at next in
          record {
            named = rw rest at c.loop-item.invariant.named;
            read = rw w.names-is (rw rest at c.loop-item.invariant.read);
          }
    ]

pub returns-in-Err : goal.returns-in-Err
returns-in-Err c =
    let next = strings_step c.args.items.now c.loop-item.item-index c.item-item.result
    c.loop-item-test.true c.item-item.is in
    let left = strings_in (items_view (drop (c.loop-item.item-index + 1) c.args.items.now)) in
    sym c.loop-item.invariant.named ∙ rw (next, ← c.in-Some.ensures)
    (named_fails c.in-Some.text.now left
    (λ named. c.in-Err.ensures.named.1 (rw c.as_bytes.ensures.value named)))
