use Rattle.std.proofs.Common.{◌∙◌, ◌≤◌, arith, length, refl, sym}
use Rattle.std.proofs.lemmas.List.{at_drop_all}
use Rattle.frames.specs.Locks.{noted, noted_names}
use Rattle.frames.proofs.Folds.{fold_more}
use Rattle.frames.proofs.locks.note_names.Goals as goal

pub loop-name-preserved : goal.loop-name-preserved
loop-name-preserved c = record {
  noted = fold_more noted_names noted (λ locks name names. refl) c.args.names.now
      c.loop-name.name-index c.name-item.result c.loop-name.locks.items c.note.new.locks.items
      c.loop-name-test.true c.name-item.is c.in_ok-note.ensures.noted
      ∙ c.loop-name.invariant.noted;
  few = c.in_ok-note.ensures.few;
}

pub returns : goal.returns
returns c =
    let names = c.args.names.now in
    let all : length names ≤ c.loop-name.name-index = omega (arith, c.loop-name-test.false) in
    record {
      noted = sym (at_drop_all (noted_names c.loop-name.locks.items) names c.loop-name.name-index
          all) ∙ c.loop-name.invariant.noted;
      few = c.loop-name.invariant.few;
    }
