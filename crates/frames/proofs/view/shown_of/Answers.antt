use Rattle.std.proofs.Common.{◌≡◌, ◌∙◌, ◌<◌, ℕ, List, length, Bool, ap, sym, subst, arith}
use Rattle.std.specs.Prelude.{All}
use Rattle.std.specs.List.{filter, range_with_len}
use Rattle.std.proofs.lemmas.List.Elements.{All-filter}
use Rattle.std.proofs.lemmas.List.FromFn.{length-range_with_len, get_or-range_with_len}
use Rattle.std.proofs.lemmas.List.Sums.{length-filter, count_by-le-length}
use Rattle.frames.specs.PictureRows.{name_in}
use Rattle.frames.specs.View.{is_chosen, noted_rank, shown_of}
use Rattle.frames.proofs.Shown.{shown_more}
use Rattle.frames.proofs.view.shown_of.Goals as goal

pub loop-rank-preserved : goal.loop-rank-preserved
loop-rank-preserved c =
    let p : ℕ → Bool = λ rank. is_chosen c.args.names.now c.args.releases.now (name_in c.args.rows.now rank) in
    let n = c.loop-rank.rank in
    let chosen = c.is_chosen-is_shown.ensures
    ∙ ap (λ (name : List ℕ). is_chosen c.args.names.now c.args.releases.now name)
    c.name_in.ensures in
    c.in_ok-note.ensures ∙ ap (λ (b : Bool). noted_rank c.loop-rank.shown.items n b) chosen
    ∙ ap (λ (ranks : List ℕ). noted_rank ranks n (p n)) c.loop-rank.invariant ∙ sym (shown_more p n)

pub returns : goal.returns
returns c =
    let names = c.args.names.now in
    let rs = c.args.releases.now in
    let rows = c.args.rows.now in
    let p : ℕ → Bool = λ rank. is_chosen names rs (name_in rows rank) in
    let all = range_with_len 0 (length rows) in
    let count = length-range_with_len 0 (length rows) in
    let end : c.loop-rank.rank ≡ length rows =
    omega (arith, c.loop-rank.auto.rank-end, c.loop-rank-test.false) in
    let shown : c.loop-rank.shown.items ≡ shown_of names rs rows = c.loop-rank.invariant
    ∙ ap (λ (n : ℕ). filter p (range_with_len 0 n)) end in
    record {
      shown = shown;
      within = subst (λ (ranks : List ℕ). All (λ (r : ℕ). r < length rows) ranks) (sym shown)
          (All-filter p (λ (r : ℕ). r < length rows) all
          (λ k d lt. omega (arith, lt, count, get_or-range_with_len 0 (length rows) k d)));
      few = omega (
        arith,
        ap (λ (ranks : List ℕ). length ranks) shown,
        length-filter p all,
        count_by-le-length p all,
        count,
      );
    }
