use Rattle.std.proofs.Common.{◌≡◌, ◌++◌, drop, string_bytes}
use Rattle.scripted.specs.Scripted.{section_words, spaced}
use Rattle.scripted.proofs.text.push_sections.Given as goal

abbrev pub invariant-loop-section : goal.invariant-loop-section
invariant-loop-section l =
    string_bytes l.text ++ spaced (section_words (drop l.section-index l.sections))
    ≡ string_bytes l.fn.text ++ spaced (section_words l.sections)
