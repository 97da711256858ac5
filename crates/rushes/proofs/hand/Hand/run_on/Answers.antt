use Rattle.std.proofs.Common.{◌≡◌, ◌∙◌, Option, Some, sym, subst}
use Rattle.drafts.specs.Edits.{Draft}
use Rattle.book_lock.specs.TeamPass.{Known}
use Rattle.rushes.specs.Hands.{Hand, draft_at, IsOn, IsSet}
use Rattle.rushes.specs.HandFields.{AllOwn, IsOfTeam}
use Rattle.rushes.proofs.RunLaws.{set_again}
use Rattle.rushes.proofs.hand.Hand.run_on.Goals as goal

pub step-requires-clause-team : goal.step-requires-clause-team
step-requires-clause-team g c =
    let a = c.self.inside in
    let h : Hand = record { drafts = a.drafts.entries; pass = a.pass; notes = a.notes.items } in
    let own : AllOwn h = subst AllOwn (sym c.self.view_is) c.requires.own in
    subst (IsOfTeam a.pass.team) (sym c.remove.ensures.value ∙ c.in-Some.is) (own c.args.number)

pub returns : goal.returns
returns g c =
    let a = c.self.inside in
    let h : Hand = record { drafts = a.drafts.entries; pass = a.pass; notes = a.notes.items } in
    let mid : Hand = record {
      drafts = c.remove.new.self.entries;
      pass = c.step.new.pass;
      notes =
          a.notes.items;
    } in
    let new = c.put_back.new.self in
    let workers = c.args.site.now.workers in
    let number = c.args.number in
    let next = c.in_ok-next.next in
    let missed = c.in_ok-next.missed in
    let there : draft_at h number ≡ Some c.in-Some.draft = sym c.remove.ensures.value
    ∙ c.in-Some.is in
    let stepped : IsOn workers c.args.row.now number (Some c.in-Some.draft) a.pass next missed
    new.pass =
    subst (λ (p : Known). IsOn workers c.args.row.now number (Some c.in-Some.draft) a.pass next
    missed p)
    (sym c.put_back.ensures.pass) c.in_ok-next.ensures in
    let on : IsOn workers c.args.row.now number (draft_at h number) a.pass next missed new.pass =
    subst (λ (slot : Option Draft). IsOn workers c.args.row.now number slot a.pass next missed
    new.pass) (sym there) stepped in
    let set : IsSet h number next new =
    set_again number next (draft_at h) (draft_at mid) (draft_at new) c.remove.ensures.updates.0
    c.in_ok-put_back.ensures.drafts in
    subst
    (λ (x : Hand). (e : Option Draft)
    × IsOn workers c.args.row.now number (draft_at x number) x.pass e missed new.pass
    × IsSet x number e new × (new.notes ≡ x.notes))
    c.self.view_is (next, on, set, c.put_back.ensures.notes)
