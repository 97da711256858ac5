use Rattle.std.proofs.Common.{◌≡◌, ◌∙◌, ℕ, List, [], ◌∷◌, ◌++◌, length, refl, sym, ap, subst, arith}
use Rattle.std.proofs.Common.{append_assoc, string_bytes}
use Rattle.std.specs.Io.KnownBytes.{Appends, append_known}
use Rattle.std.proofs.KnownBytes.{Appends-trans}
use Rattle.drafts.specs.Machine.{MachineState}
use Rattle.drafts.specs.Books.{Book}
use Rattle.desk_core.specs.World.{start}
use Rattle.desk_core.proofs.StepLaws.{on_ok}
use Rattle.scripts.specs.declared.line.Line.{Line}
use Rattle.plays.specs.Plays.{ArePlayed, IsBookText}
use Rattle.plays.proofs.PlayLaws.{ArePlayed-push, none_left}
use Rattle.plays.proofs.RunLaws.{played-legal}
use Rattle.plays.proofs.playing.put_lines.Goals as goal

pub loop-line-preserved : goal.loop-line-preserved
loop-line-preserved g c =
    let so = c.loop-line.invariant.playing in
    let done : List Line = c.loop-line.yielded in
    let line : Line = c.in-Some.line in
    let steps = c.in-Some.ensures.steps in
    let text : List ℕ = string_bytes c.in-Ok-play_row.text in
    let before = append_known (g.W.Write.contents c.args.out.now.inner) c.args.held.now in
    let between = append_known (g.W.Write.contents c.loop-line.out.inner) c.loop-line.held in
    let after = append_known (g.W.Write.contents c.put.new.out.inner) c.put.new.self in
    let ok = sym c.is_err.ensures.value ∙ c.if-is_err.false in
    let wrote = subst (λ (bs : List ℕ). Appends between after bs) c.as_bytes.ensures.value
    (on_ok (Appends between after c.as_bytes.result.now) c.put.result ok c.put.ensures.sent) in
    record {
      playing = record {
        text = so.text ++ text;
        played = ArePlayed-push start c.loop-line.core c.play_row.new.core done line so.text text
            so.played c.in-Ok-play_row.ensures;
        rest = append_assoc done (line ∷ []) c.next.new.self.rest.items
            ∙ ap (λ xs. done ++ xs) (sym steps.0) ∙ so.rest;
        counted = let more = ap length steps.0 in omega (arith, more, steps.1, so.counted);
        sent = Appends-trans before between after so.text text so.sent wrote;
      };
      same_flag = on_ok (c.put.new.out.has_failed ≡ c.loop-line.out.has_failed) c.put.result ok
          c.put.ensures.ok ∙ c.loop-line.invariant.same_flag;
    }

pub returns-in-Ok-put-clause-all : goal.returns-in-Ok-put-clause-all
returns-in-Ok-put-clause-all g c =
    let so = c.loop-line.invariant.playing in
    let text : List ℕ = string_bytes c.in-Ok-book_text.text in
    let before = append_known (g.W.Write.contents c.args.out.now.inner) c.args.held.now in
    let between = append_known (g.W.Write.contents c.loop-line.out.inner) c.loop-line.held in
    let after = append_known (g.W.Write.contents c.put-2.new.out.inner) c.put-2.new.self in
    let all = none_left c.loop-line.yielded c.loop-line.line-iterator.rest.items c.args.lines.items
    c.loop-line.line-iterator.rest.len so.rest so.counted c.in-None.ensures.steps.0 in
    let here = c.state.ensures.now ∙ ap (λ (b : Book). b.desk) c.book.ensures in
    let book = subst (λ (d : MachineState). IsBookText d text) here c.in-Ok-book_text.ensures in
    let played = subst (λ (ls : List Line). ArePlayed start ls c.loop-line.core so.text) all
    so.played in
    let wrote = subst (λ (bs : List ℕ). Appends between after bs) c.as_bytes-2.ensures.value
    c.in-Ok-put.ensures.sent in (
      so.text ++ text,
      (
        c.loop-line.core,
        so.text,
        text,
        played,
        played-legal c.loop-line.core c.args.lines.items
            so.text played,
        book,
        refl,
      ),
      Appends-trans before between after so.text text so.sent wrote,
    )
