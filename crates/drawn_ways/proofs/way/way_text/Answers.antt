use Rattle.std.proofs.Common.{◌≡◌, ◌∙◌, List, Option, IfOk, ap, string_bytes, subst, ℕ}
use Rattle.chain_runs.specs.ChainOutputs.{outputs_of}
use Rattle.chain_runs.specs.declared.outputs.ChainOutput.{ChainOutput}
use Rattle.frames.specs.Frame.{Frame}
use Rattle.drawn_ways.specs.Stands.{oldest}
use Rattle.drawn_ways.specs.WayTexts.{drawn_of, way_of}
use Rattle.drawn_ways.specs.declared.stands.Stand.{Stand}
use Rattle.drawn_ways.proofs.way.way_text.Goals as goal

pub returns : goal.returns
returns c =
    let f = c.args.frame in
    let way = c.args.way.now in
    let source = c.in_ok-source.ensures
    ∙ ap (λ (f : Frame). outputs_of way.writes c.args.set.now f.until c.args.trace.now) c.frame.view_is in
    let outputs = c.deref.ensures.value ∙ c.in_ok-outputs.ensures
    ∙ ap (λ (g : List ℕ → List ChainOutput). g way.tasks.now) source in
    subst (λ (s : Option Stand). IfOk c.drawn_of.result (λ text. string_bytes text ≡ drawn_of (record {
      frame = f;
      set = c.args.set.now;
      rows = c.args.rows.now;
      shown = c.args.shown.now;
      outputs = outputs_of way.writes c.args.set.now f.until c.args.trace.now;
    }) (way_of way) s))
    (c.oldest_in-stand.ensures ∙ ap (λ (os : List ChainOutput). oldest f.from f.to os) outputs)
    (subst (λ (g : List ℕ → List ChainOutput). IfOk c.drawn_of.result (λ text. string_bytes text ≡ drawn_of (record {
      frame = f;
      set = c.args.set.now;
      rows = c.args.rows.now;
      shown = c.args.shown.now;
      outputs = g;
    }) (way_of way) c.oldest_in-stand.result)) source c.drawn_of.ensures)
