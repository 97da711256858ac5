use Rattle.std.proofs.Common.{◌≡◌, ◌<◌, ◌∙◌, ◌+◌, ◌-◌, List, ◌∷◌, Vec, Global, drop, length, map}
use Rattle.std.proofs.Common.{refl, sym, ap, subst, rules}
use Rattle.std.proofs.lemmas.List.{drop_more}
use Rattle.scripts.specs.declared.line.Line.{Line}
use Rattle.rushes.specs.declared.split.TeamLine as declared
use Rattle.rushes.specs.TeamLines.{TeamLine, IsSplit}
use Rattle.rushes.proofs.SplitLaws.{empty_part}
use Rattle.rushes.proofs.split.Split.new.Goals as goal

abbrev items_of : Vec declared.TeamLine Global → List TeamLine
items_of p = p.items

pub loop-line-init : goal.loop-line-init
loop-line-init c =
    record {
      count = c.in_ok-parts.ensures.count;
      split =
          λ team low high.
          rw (
            c.new-openers.ensures.items,
            empty_part items_of c.in_ok-parts.parts.items (team - 1)
                c.in_ok-parts.ensures.empty,
          )
          refl;
    }

pub loop-line-preserved : goal.loop-line-preserved
loop-line-preserved c =
    let script : List Line = c.args.script.now in
    let i = c.loop-line.line-index in
    let lt : i < length script = search rules in
    let next : drop i script ≡ c.line-item.result ∷ drop (i + 1) script =
    drop_more script i c.line-item.result lt
    ∙ ap (λ (x : Line). x ∷ drop (i + 1) script) (sym c.line-item.is) in
    record {
      count = c.deal.ensures.count;
      split =
          c.in_ok-deal.ensures.given script (drop (i + 1) script)
          (subst
          (λ (left : List Line). IsSplit script left c.loop-line.openers.items
          (map items_of c.loop-line.parts.items))
          next c.loop-line.invariant.split);
    }
