use Rattle.std.proofs.Common.{◌∙◌, inl, refl}
use Rattle.assignment.specs.Questions.{QuestionData}
use Rattle.drafts.specs.Edits.{on_base}
use Rattle.book_lock.proofs.Rounds.{received-held, received_for}
use Rattle.book_lock.proofs.Testing.{untested_memory}
use Rattle.book_lock.proofs.commit.Committer.later_rounds.Goals as goal

pub returns-in-Ok-Decided : goal.returns-in-Ok-Decided
returns-in-Ok-Decided g c =
    let inv = c.loop-round.invariant in
    let h = rw c.in-Ok-Decided.field-0-is at c.in-Ok-Decided.ensures in
    received_for inv.0 inv.2 h.1

pub returns-in-Ok : goal.returns-in-Ok
returns-in-Ok g c = let inv = c.loop-round.invariant in
    received_for inv.0 inv.2 (received-held c.in-Ok.ensures)

pub returns-in-Err : goal.returns-in-Err
returns-in-Err g c =
    let inv = c.loop-round.invariant in
    let h = c.in-Err.ensures in (
      (
        c.loop-round.draft.base,
        inv.1,
        rw (c.on.ensures.cause, ← inv.0.0, ← inv.0.1) h.0,
      ),
      rw (← inv.0.0, ← inv.0.1, ← h.1) c.on.ensures.draft,
      h.2 ∙ inv.2,
    )

pub returns-in-Err-settle_held : goal.returns-in-Err-settle_held
returns-in-Err-settle_held g c =
    let inv = c.loop-round.invariant in
    let h = c.in-Err-settle_held.ensures.holds in (
      (
        c.args.draft.base,
        inl refl,
        untested_memory (λ (q : QuestionData). g.G.Gate.may_shut c.args.self.now.gate.now q)
            (on_base c.args.draft),
      ),
      rw (← inv.0.0, ← inv.0.1, ← h.0) c.rebase.ensures,
      h.2 ∙ inv.2,
    )
