use Rattle.std.proofs.Common.{◌≡◌, [], ◌∷◌, ◌++◌, take, ◌∙◌}
use Rattle.scripts.specs.ScriptWords.{section_in, sections_in}
use Rattle.scripts.proofs.Ahead.{each_next}
use Rattle.scripts.proofs.KeptSections.{take_front}
use Rattle.scripts.proofs.sections.sections_of.Goals as goal

pub loop-word-preserved : goal.loop-word-preserved
loop-word-preserved c =
    let (front, kept, so_far) = c.loop-word.invariant in
    let section = c.in_ok-section_of.field-0 in
    let more : c.keep.new.sections.items ≡ take 9 (front ++ section ∷ []) = c.in_ok-keep.ensures.ok
    ∙ rw kept (take_front 9 front (section ∷ [])) in (
      front ++ section ∷ [],
      more,
      each_next section_in front c.in-Some.word.now c.next.new.self c.loop-word.words section
          (sections_in c.args.words.now)
          c.in-Some.ensures c.in_ok-section_of.ensures so_far,
    )
