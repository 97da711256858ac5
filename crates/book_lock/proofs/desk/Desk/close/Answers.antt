use Rattle.std.proofs.Common.{◌≡◌, map, sym, ap, subst, ◌∙◌}
use Rattle.drafts.specs.Books.{Book, IsLegalBook}
use Rattle.book_lock.proofs.desk.Desk.close.Goals as goal

pub returns-clause-ok : goal.returns-clause-ok
returns-clause-ok g c =
    let b : Book = record {
      desk = c.into_parts-state.result.0.value;
      log =
          map (λ e. e.value) c.into_parts-state.result.1.items;
    } in
    let held : Book = c.into_inner-locked.result in
    let log : b.log ≡ held.log = c.into_parts-state.ensures.log
    ∙ ap (λ (x : Book). x.log) c.audit.ensures.same in
    let state : b.desk ≡ held.desk = c.into_parts-state.ensures.state
    ∙ ap (λ (x : Book). x.desk) c.audit.ensures.same in
    let same : b ≡ held = λ i. let x : Book = record { desk = state i; log = log i } in x in
    record {
      legal = subst IsLegalBook (sym same) c.audit.ensures.legal;
      there = λ team low high.
          rw c.deref.ensures.value at (c.in_default.ensures team low (rw c.self.view_is high));
      receipted = λ team low high. rw (c.log.ensures ∙ sym log, c.deref-2.ensures.value) at
          (c.in_default-mismatch.ensures team low (rw c.self.view_is high));
    }
