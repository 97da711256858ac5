use Rattle.std.proofs.Common.{◌≡◌, ◌++◌, string_bytes}
use Rattle.diff.specs.Keys.{section_words, words_below}
use Rattle.diff.proofs.keys.push_sections.Given as goal

abbrev pub invariant-loop-place : goal.invariant-loop-place
invariant-loop-place l =
    string_bytes l.text ≡ string_bytes l.fn.text ++ words_below l.place (section_words l.old l.new)
