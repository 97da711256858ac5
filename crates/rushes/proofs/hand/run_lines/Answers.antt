use Rattle.std.proofs.Common.{◌≡◌, ◌<◌, ◌∙◌, ◌+◌, List, ◌∷◌, drop, length, sym, ap, subst, rules}
use Rattle.std.proofs.lemmas.List.{drop_more}
use Rattle.rushes.specs.Hands.{AreDone}
use Rattle.rushes.specs.TeamLines.{TeamLine}
use Rattle.rushes.proofs.RunLaws.{line_own}
use Rattle.rushes.proofs.hand.run_lines.Goals as goal

pub loop-line-preserved : goal.loop-line-preserved
loop-line-preserved g c =
    let lines : List TeamLine = c.args.lines.now in
    let i = c.loop-line.line-index in
    let line = c.line-item.result in
    let hand = c.loop-line.hand in
    let lt : i < length lines = search rules in
    let next : drop i lines ≡ line ∷ drop (i + 1) lines =
    drop_more lines i line lt
    ∙ ap (λ (x : TeamLine). x ∷ drop (i + 1) lines) (sym c.line-item.is) in
    let workers = c.args.site.now.workers in
    let is = c.in_ok-run_line.ensures in
    record {
      own = line_own workers hand c.run_line.new.self line is c.loop-line.invariant.own;
      rest =
          λ k done.
          c.loop-line.invariant.rest k
          (subst (λ (xs : List TeamLine). AreDone workers hand xs k) (sym next)
          (c.run_line.new.self, is, done));
    }
