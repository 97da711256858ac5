use Rattle.std.proofs.Common.{◌≡◌, take, [], ◌∷◌, ◌++◌, cond, ap, ◌∙◌}
use Rattle.std.proofs.lemmas.List.{take_all}
use Rattle.task_sheet.specs.Indexes.{indexes_of, meet}
use Rattle.task_sheet.proofs.Below.{greatest_of-push}
use Rattle.ceilings.specs.Table.{users_in, some_uses}
use Rattle.ceilings.specs.Holds.{HoldData, is_reached, longest_of}
use Rattle.ceilings.proofs.HoldLaws.{some_uses-more, lock-more}
use Rattle.ceilings.proofs.Reached.{reached}
use Rattle.ceilings.proofs.holds.hold_section.Goals as goal

pub loop-lock-preserved : goal.loop-lock-preserved
loop-lock-preserved c = λ members.
    let table = c.args.users.now in
    let locks = c.deref-lock-items.result.now in
    let holds = c.loop-lock.holds.items in
    let hold : HoldData =
    record { users = users_in table c.lock-item.result; len = c.args.section.now.len } in
    let pushed : c.push.new.self.items ≡ holds ++ hold ∷ [] =
    rw (c.users.ensures.noted, ap (λ s. s.len) c.section.view_is) at c.in_ok-push.ensures.items in
    rw (some_uses-more table members locks c.loop-lock.lock-index c.lock-item.result
    c.loop-lock-test.true c.lock-item.is)
    (lock-more (some_uses table members (take c.loop-lock.lock-index locks))
    (meet (indexes_of hold.users) (indexes_of members)) hold.len _ _ _ (c.loop-lock.invariant members)
    (ap (λ hs. longest_of hs members) pushed
    ∙ greatest_of-push (λ (h : HoldData). cond (is_reached members h) h.len 0) holds hold))

pub returns : goal.returns
returns c = λ U table members.
    let whole =
    take_all c.loop-lock.lock-index c.deref-lock-items.result.now c.loop-lock-test.false in
    rw (
      whole,
      c.deref-lock-items.ensures.value,
      ap (λ s. s.locks) c.section.view_is,
      reached U
          c.args.users.now table members c.args.section.now,
    ) at (c.loop-lock.invariant members)
