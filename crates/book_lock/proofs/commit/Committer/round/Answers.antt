use Rattle.std.proofs.Common.{◌≡◌, ◌∙◌, ap}
use Rattle.drafts.specs.Edits.{Draft}
use Rattle.drafts.specs.Proposals.{ProposalData}
use Rattle.book_lock.specs.Settles.{IsReceived}
use Rattle.book_lock.proofs.Rounds.{received-settled, received-held, received_for}
use Rattle.book_lock.proofs.commit.Committer.round.Goals as goal

pub returns-in-Ok-Decided : goal.returns-in-Ok-Decided
returns-in-Ok-Decided g c =
    let answers = rw c.in-Ok-Decided.field-0-is at c.in-Ok-Decided.ensures in
    let received : IsReceived c.args.draft c.args.pass.now c.in-Ok-Decided.place c.settle.new.pass =
    rw (← c.in-Ok.ensures.ok) (received-settled answers.1) in
    (c.in-Ok.ensures.asked, rw c.in-Ok-Decided.place-is received)

pub returns-in-Ok-settle_held : goal.returns-in-Ok-settle_held
returns-in-Ok-settle_held g c =
    let stranger = rw c.in-Err-Stranger.field-0-is at c.in-Err-Stranger.ensures in
    let back : c.into_draft-in-Err-Stranger.result ≡ c.args.draft =
    c.into_draft-in-Err-Stranger.ensures ∙ ap (λ (x : ProposalData). x.draft) stranger.1.settles.1
    ∙ c.in-Ok.ensures.ok in (
      c.in-Ok.ensures.asked,
      received_for (ap (λ (d : Draft). d.team) back, ap (λ (d : Draft). d.changes) back)
          stranger.1.settles.3 (received-held c.in-Ok-settle_held.ensures),
    )
