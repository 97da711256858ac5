use Rattle.std.proofs.Common.{◌∙◌, ◌≤◌, arith, length, refl, sym}
use Rattle.std.proofs.lemmas.List.{at_drop_all}
use Rattle.drawn_jobs.specs.Held.{held_inside, held_with}
use Rattle.frames.proofs.Folds.{fold_more}
use Rattle.drawn_jobs.proofs.held.note_sections.Goals as goal

pub loop-section-preserved : goal.loop-section-preserved
loop-section-preserved c =
    let f = c.args.frame in
    let e = c.args.executed in
    let s = c.args.slice in
    record {
      noted = fold_more (held_inside f e s) (held_with f e s) (λ held x sections. refl)
          c.args.sections.now c.loop-section.section-index c.section-item.result
          c.loop-section.held.items c.note_section.new.held.items c.loop-section-test.true
          c.section-item.is c.in_ok-note_section.ensures.noted ∙ c.loop-section.invariant.noted;
      few = c.in_ok-note_section.ensures.few;
    }

pub returns : goal.returns
returns c =
    let sections = c.args.sections.now in
    let all : length sections ≤ c.loop-section.section-index =
    omega (arith, c.loop-section-test.false) in
    record {
      noted = sym (at_drop_all (held_inside c.args.frame c.args.executed c.args.slice
          c.loop-section.held.items) sections c.loop-section.section-index all)
          ∙ c.loop-section.invariant.noted;
      few = c.loop-section.invariant.few;
    }
