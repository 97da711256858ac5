use Rattle.std.proofs.Common.{◌≡◌, ◌∙◌, List, IfOk, ap, map, subst}
use Rattle.chains.specs.Parts.{bound_in}
use Rattle.chains.specs.declared.bounds.Level.{Level}
use Rattle.drawn_ways.specs.WayTexts.{WayData}
use Rattle.frames.specs.declared.rows.TaskRow.{TaskRow}
use Rattle.run_lines.specs.declared.bounds.TaskBound.{TaskBound}
use Rattle.two_input_commands.specs.Simulate.{level_of_bound}
use Rattle.two_input_commands.specs.Way.{rows_drawn, way_in, way_with}
use Rattle.two_input_commands.proofs.way.picture_with.Goals as goal

pub returns : goal.returns
returns c =
    let U = c.args.set.now in
    let v = c.args.view.now in
    let run = c.args.run.now in
    let chain = c.args.chain.now in
    let levels = c.deref-2.ensures.value ∙ (c.in_ok-levels.ensures
    ∙ ap (λ (bs : List TaskBound). map level_of_bound bs) c.deref.ensures.value) in
    let bound = c.in_ok-bound.ensures
    ∙ ap (λ (ls : List Level). bound_in chain.writes chain.offsets U ls chain.tasks) levels in
    let way = c.way_with-way.ensures ∙ ap (λ b. way_with chain b) bound in
    subst (λ (rows : List TaskRow). IfOk c.rows_drawn.result (λ text. text.items
    ≡ rows_drawn U rows v run (way_in U (map level_of_bound run.bounds.items) chain)))
    (c.deref-3.ensures.value ∙ c.in_ok-rows.ensures.rows)
    (subst (λ (w : WayData). IfOk c.rows_drawn.result (λ text. text.items
    ≡ rows_drawn U c.deref-3.result.now v run w)) way c.rows_drawn.ensures)
