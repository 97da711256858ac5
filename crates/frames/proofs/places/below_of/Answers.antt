use Rattle.std.proofs.Common.{ℕ, List, ap, arith, length, length-append}
use Rattle.std.proofs.lemmas.List.{length-map}
use Rattle.std.proofs.lemmas.List.Sums.{length-filter, count_by-le-length}
use Rattle.frames.specs.Places.{is_alone, twin_of}
use Rattle.frames.proofs.places.below_of.Goals as goal

pub returns-clause-few : goal.returns-clause-few
returns-clause-few c =
    let twin = twin_of c.args.old.now c.args.new.now c.args.new_shown.now in
    let alone = is_alone c.args.new.now c.args.old.now c.args.old_shown.now in
    omega (
      arith,
      ap (λ (ranks : List ℕ). length ranks) c.in_ok-extend_from_slice.ensures.items,
      length-append c.in_ok-ranks.ranks.items c.deref.result.now,
      ap (λ (ranks : List ℕ). length ranks) c.deref.ensures.value,
      ap (λ (ranks : List ℕ). length ranks) c.in_ok-ranks.ensures,
      ap (λ (ranks : List ℕ). length ranks) c.in_ok-alone.ensures,
      length-map c.args.old_shown.now twin,
      length-filter alone c.args.new_shown.now,
      count_by-le-length alone c.args.new_shown.now,
    )
