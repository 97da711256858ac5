use Rattle.std.proofs.Common.{◌∙◌, ◌+◌, ◌++◌, List, nat_lt, string_bytes, sym, ℕ}
use Rattle.frames.specs.Frame.{in_millis, right_of, x_of}
use Rattle.drawn_jobs.specs.Bands.{any_on, band_box, band_label, band_words, last_bound}
use Rattle.drawn_jobs.specs.Jobs.{limit_of, limit_path, signs_text, unrun_text}
use Rattle.frames.proofs.Puts.{put_both, put_last}
use Rattle.drawn_jobs.proofs.band.put_band.Goals as goal

pub returns : goal.returns
returns c =
    let f = c.args.lane.now.frame in
    let k : ℕ = c.args.lane.now.spot.k in
    let row = c.args.lane.now.row.now in
    let first = c.args.first.now in
    let count : ℕ = c.args.band.count in
    let latest : ℕ = c.args.band.latest in
    let done : ℕ = c.args.outcome.done in
    let greatest : ℕ = c.args.outcome.greatest in
    let bar = c.limit_box-bar.ensures in
    let seen = rw c.limit_of.ensures at (sym c.sees_up_to.ensures ∙ c.if-not-sees_up_to.false) in
    let boxed = rw (bar.x, bar.right, bar.y, bar.high) at c.in_ok-put_band_box.ensures in
    let told = rw c.deadline.ensures at c.in_ok-put_band_words.ensures in
    let labelled = rw (bar.x, bar.right, c.in_millis-millis.ensures) at c.in_ok-put_label.ensures in
    let signed = rw (c.is_before-back.ensures, c.any_on.ensures) at c.put_signs.ensures in
    let start : List ℕ = string_bytes c.args.text.now in
    let t2 : List ℕ = string_bytes c.put_band_words.new.text in
    let t3 : List ℕ = string_bytes c.put_label.new.text in
    let t4 : List ℕ = string_bytes c.put_unrun.new.text in
    let t5 : List ℕ = string_bytes c.put_last_bound.new.text in
    let box : List ℕ = band_box (limit_path f k row first.release latest) first count latest in
    let words : List ℕ = band_words done greatest row.bound row.sheet.deadline in
    let label : List ℕ = band_label (in_millis f) (x_of f first.release)
    (right_of f first.release (latest + limit_of row)) k count done greatest in
    let unrun : List ℕ = unrun_text f k row latest in
    let bound : List ℕ = last_bound f k latest row.bound in
    let signs : List ℕ =
    signs_text f k (nat_lt first.release f.from) (any_on f first.name c.args.jobs.now) in
    let two = put_both start (string_bytes c.put_band_box.new.text) t2 box words boxed told in
    let three = put_both start t2 t3 (box ++ words) label two labelled in
    let four = put_both start t3 t4 (box ++ words ++ label) unrun three c.in_ok-put_unrun.ensures in
    let five = put_both start t4 t5 (box ++ words ++ label ++ unrun) bound four
    c.in_ok-put_last_bound.ensures in
    rw seen (put_last c.put_signs.result start t5 (string_bytes c.put_signs.new.text)
    (box ++ words ++ label ++ unrun ++ bound) signs five signed)
