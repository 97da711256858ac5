use Rattle.std.proofs.Common.{◌≡◌, ◌++◌, drop, string_bytes}
use Rattle.release_list.specs.Text.{release_lines}
use Rattle.release_list.proofs.text.push_releases.Given as goal

abbrev pub invariant-loop-release : goal.invariant-loop-release
invariant-loop-release l = string_bytes l.text ++ release_lines (drop l.release-index l.releases)
    ≡ string_bytes l.initial.text ++ release_lines l.fn.releases
