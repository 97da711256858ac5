use Rattle.std.proofs.Common.{◌≡◌, ◌∙◌, ℕ, List, take, slice_get, Some, sym, ap, add-one}
use Rattle.drafts.specs.declared.change.Change.{Change}
use Rattle.drafts.specs.Edits.{recorded}
use Rattle.drafts.proofs.ChangeLaws.{recorded_next}
use Rattle.drafts.proofs.draft.copy_at.Goals as goal
use Rattle.drafts.proofs.draft.copy_at.Goals.{in-Ok, in-Err}

pub returns : goal.returns
returns c =
    let es : List (List ℕ × Change) = c.args.changes.now.entries in
    let at : slice_get es c.args.place ≡ Some (c.in-Some.name.now, c.in-Some.change.now) =
    sym c.in-Some.ensures.entry in
    let more = recorded_next es c.args.place c.in-Some.name.now c.in-Some.change.now
    c.len.ensures.unique at in
    elim c.match-record.branch [
      | in-Ok w ↦
          rw w.result-is (w.in-Ok.ensures.ok ∙ ap (λ change. recorded c.in-Some.name.now change
          c.args.copies.now.entries) c.in_ok-copy.ensures
          ∙ ap (λ cs. recorded c.in-Some.name.now c.in-Some.change.now cs) c.requires.before ∙ more
          ∙ ap (λ n. take n es) (sym (add-one c.args.place)))
      | in-Err w ↦ rw w.result-is tt
    ]
