use Rattle.desk_core.specs.World.{start}
use Rattle.plays.specs.Plays.{PlaysAll, PlaysSome}
use Rattle.plays.proofs.PlayLaws.{known_written, on_ok_map}
use Rattle.plays.proofs.playing.play_lines.Goals as goal

pub returns-in-Ok-clause-all : goal.returns-in-Ok-clause-all
returns-in-Ok-clause-all g c =
    let before = g.W.Write.contents c.args.out.now.inner in
    let between = g.W.Write.contents c.put_lines-played.new.out.inner in
    let after = g.W.Write.contents c.send.new.out.inner in
    on_ok_map c.put_lines-played.result (known_written (PlaysAll start c.args.lines.items) before
    between after c.new-held.result c.put_lines-played.new.held c.new-held.ensures
    c.in-Ok.ensures.sent) c.put_lines-played.ensures.all

pub returns-in-Ok-clause-some : goal.returns-in-Ok-clause-some
returns-in-Ok-clause-some g c =
    let before = g.W.Write.contents c.args.out.now.inner in
    let between = g.W.Write.contents c.put_lines-played.new.out.inner in
    let after = g.W.Write.contents c.send.new.out.inner in
    λ is. known_written (PlaysSome start c.args.lines.items) before between after c.new-held.result
    c.put_lines-played.new.held c.new-held.ensures c.in-Ok.ensures.sent
    (c.put_lines-played.ensures.some is)
