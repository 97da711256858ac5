use Rattle.std.proofs.Common.{◌≡◌, List, ℕ, [], Some, subst}
use Rattle.libdesk.specs.Asked.{AskedSays}
use Rattle.libdesk.proofs.Handing.{answered}
use Rattle.libdesk.proofs.asked.answer.Goals as goal

pub returns-clause-answer : goal.returns-clause-answer
returns-clause-answer c =
    let s = c.run-ended.result in
    let text = c.run-ended.new.output.inner.items in
    let empty : c.new-output.result.inner.items ≡ [] = cc in
    answered (AskedSays c.args.asked) c.run-ended.new.output.has_failed s text c.args.room.now
    c.hand_out.new.room c.hand_out.result c.hand_out.new.status
    (λ fine. subst (λ (before : List ℕ). AskedSays c.args.asked (Some before) (Some text) s) empty
    (c.run-ended.ensures.printed fine))
    (c.run-ended.ensures.unwritten c.new-output.ensures.fresh)
    c.hand_out.ensures.given
    c.hand_out.ensures.gave_up
