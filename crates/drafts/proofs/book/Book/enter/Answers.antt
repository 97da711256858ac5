use Rattle.std.proofs.Common.{◌∙◌, option_map, sym, ap, subst}
use Rattle.drafts.specs.Machine.{Entry, IsDecision, after_entry}
use Rattle.drafts.specs.Outcomes.{IsEntryOf}
use Rattle.drafts.proofs.BookLaws.{entered-said, entered-decision, entered-desk}
use Rattle.drafts.proofs.book.Book.enter.Goals as goal

pub log_entry-requires-clause-decision : goal.log_entry-requires-clause-decision
log_entry-requires-clause-decision c =
    let b = c.args.self.now in
    let is = subst (λ v. IsEntryOf v c.args.draft.now c.args.judged.now c.in_ok-entry.entry.value)
    c.version-version.ensures.same c.in_ok-entry.ensures in
    subst (λ (e : Entry). IsDecision b.desk e.team e.changes e.decision)
    (sym c.in_ok-clone.ensures.cases) (entered-decision b c.args.draft.now c.args.judged.now _
    c.requires is)

pub log_entry-requires-clause-next : goal.log_entry-requires-clause-next
log_entry-requires-clause-next c =
    let b = c.args.self.now in
    let is = subst (λ v. IsEntryOf v c.args.draft.now c.args.judged.now c.in_ok-entry.entry.value)
    c.version-version.ensures.same c.in_ok-entry.ensures in
    entered-desk b c.args.draft.now c.args.judged.now _ c.requires is
    (option_map (λ s. s.value) c.in_ok-next.next) c.in_ok-next.ensures
    ∙ ap (after_entry b.desk) (sym c.in_ok-clone.ensures.cases)

pub returns-clause-entry : goal.returns-clause-entry
returns-clause-entry c =
    let is = subst (λ v. IsEntryOf v c.args.draft.now c.args.judged.now c.in_ok-entry.entry.value)
    c.version-version.ensures.same c.in_ok-entry.ensures in (
      c.in_ok-place.ensures.place,
      is.0,
      is.1,
      entered-said c.args.self.now c.args.draft.now c.args.judged.now _ c.requires is,
    )

pub returns-clause-said : goal.returns-clause-said
returns-clause-said c =
    (subst (λ v. IsEntryOf v c.args.draft.now c.args.judged.now c.in_ok-entry.entry.value)
    c.version-version.ensures.same c.in_ok-entry.ensures).2
