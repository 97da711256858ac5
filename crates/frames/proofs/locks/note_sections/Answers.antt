use Rattle.std.proofs.Common.{◌≡◌, ◌∙◌, ◌≤◌, ℕ, List, ap, arith, length, refl, rules, sym}
use Rattle.std.proofs.lemmas.List.{at_drop_all}
use Rattle.frames.specs.Locks.{noted_names, noted_sections}
use Rattle.frames.proofs.Folds.{fold_more}
use Rattle.frames.proofs.locks.note_sections.Goals as goal

pub loop-section-preserved : goal.loop-section-preserved
loop-section-preserved c =
    let locks = c.loop-section.locks.items in
    let names : c.deref.result.now ≡ c.section-item.result.locks = search rules in
    record {
      noted = fold_more noted_sections (λ locks x. noted_names locks x.locks)
          (λ locks x sections. refl) c.args.sections.now c.loop-section.section-index
          c.section-item.result locks c.note_names.new.locks.items c.loop-section-test.true
          c.section-item.is (c.in_ok-note_names.ensures.noted
          ∙ ap (λ (names : List (List ℕ)). noted_names locks names) names)
          ∙ c.loop-section.invariant.noted;
      few = c.in_ok-note_names.ensures.few;
    }

pub returns : goal.returns
returns c =
    let sections = c.args.sections.now in
    let all : length sections ≤ c.loop-section.section-index =
    omega (arith, c.loop-section-test.false) in
    record {
      noted = sym (at_drop_all (noted_sections c.loop-section.locks.items) sections
          c.loop-section.section-index all) ∙ c.loop-section.invariant.noted;
      few = c.loop-section.invariant.few;
    }
