use Rattle.std.proofs.Common.{◌≡◌}
use Rattle.std.specs.Io.KnownBytes.{append_known}
use Rattle.desk_core.specs.World.{start}
use Rattle.plays.proofs.PlayLaws.{IsPlaying}
use Rattle.plays.proofs.playing.put_lines.Given as goal

abbrev pub invariant-loop-line : goal.invariant-loop-line
invariant-loop-line g l = record {
  playing : IsPlaying start l.core l.yielded l.line-iterator.rest.items l.fn.lines.items
      l.line-iterator.rest.len (append_known (g.W.Write.contents l.fn.out.inner) l.fn.held)
      (append_known (g.W.Write.contents l.out.inner) l.held);
  same_flag : l.out.has_failed ≡ l.fn.out.has_failed;
}
