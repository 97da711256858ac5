use Rattle.std.proofs.Common.{◌≡◌, ◌∙◌, ◌++◌, List, ℕ, ap, length, refl, string_bytes}
use Rattle.std.proofs.lemmas.Bool.{lt-ltb}
use Rattle.std.proofs.lemmas.Result.{on_ok_weaker}
use Rattle.frames.specs.Frame.{Frame}
use Rattle.frames.specs.PictureRows.{at_spot, row_at}
use Rattle.frames.specs.declared.rows.Spot.{Spot}
use Rattle.frames.specs.declared.rows.TaskRow.{TaskRow}
use Rattle.frames.proofs.Lanes.{text_in_lane}
use Rattle.picture.specs.Margin.{margin_text}
use Rattle.picture.proofs.margin.put_margin_at.Goals as goal

pub returns : goal.returns
returns c =
    let chart = c.args.chart.now in
    let rows = chart.rows.now in
    let spot = c.spot-spot.result in
    let lane = c.lane.result in
    let text : Frame → Spot → TaskRow → List ℕ = λ f s row. margin_text f chart.jobs.now s row in
    let same = text_in_lane text rows chart.frame spot lane.frame lane.spot lane.row.now
    c.lane.ensures.frame c.lane.ensures.spot c.lane.ensures.row in
    let here : text chart.frame spot (row_at rows spot.rank) ≡ at_spot rows spot (text chart.frame) =
    rw (lt-ltb spot.rank (length rows) c.if-spot-chart.false) refl in
    let placed = ap (λ (s : Spot). at_spot rows s (text chart.frame)) c.spot-spot.ensures.spot in
    on_ok_weaker c.put_margin.result (λ e. e
    ∙ ap (λ (l : List ℕ). string_bytes c.args.text.now ++ l) (same ∙ here ∙ placed)) c.put_margin.ensures
