use Rattle.std.proofs.Common.{◌∙◌, option_map, ap, arith, length}
use Rattle.std.proofs.lemmas.List.{length-map}
use Rattle.drafts.specs.Books.{Book}
use Rattle.drafts.specs.Outcomes.{after_next}
use Rattle.drafts.proofs.BookLaws.{log-more, logged-kept}
use Rattle.drafts.proofs.book.Book.log_entry.Goals as goal

pub invariant_of-self-2 : goal.invariant_of-self-2
invariant_of-self-2 c =
    let log = log-more c.self.inside _ c.self.view_is c.args.entry _ c.in_ok-push.ensures.items in
    let desk = c.move_on.ensures ∙ ap (λ (x : Book). after_next x.desk
    (option_map (λ s. s.value) c.args.next)) c.self.view_is ∙ c.requires.next in
    let kept = logged-kept c.self.inside _ c.self.view_is c.args.entry c.self.invariant
    c.requires.decision _ _ log desk in
    record { legal = kept.0; same = kept.1 }

pub returns-clause-ok : goal.returns-clause-ok
returns-clause-ok c =
    let log = log-more c.self.inside _ c.self.view_is c.args.entry _ c.in_ok-push.ensures.items in
    let desk = c.move_on.ensures ∙ ap (λ (x : Book). after_next x.desk
    (option_map (λ s. s.value) c.args.next)) c.self.view_is ∙ c.requires.next in
    λ i. let x : Book = record { desk = desk i; log = log i } in x

pub returns-clause-place : goal.returns-clause-place
returns-clause-place c =
    let a = c.self.inside in
    omega (
      arith,
      c.len.ensures,
      c.in_ok-push.ensures.len,
      a.log.ok.0,
      a.log.ok.1,
      length-map a.log.items (λ x. x.value),
      ap (λ (x : Book). length x.log) c.self.view_is,
    )
