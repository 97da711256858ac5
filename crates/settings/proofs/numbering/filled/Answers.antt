use Rattle.std.proofs.Common.{◌≡◌, ◌≤◌, ◌^◌, ◌+◌, ◌-◌, arith, take, drop, length, get_or}
use Rattle.std.proofs.lemmas.Grind.{common_steps}
use Rattle.std.proofs.lemmas.List.Elements.{All-drop}
use Rattle.settings.proofs.NumberingLaws.{number_above-le}
use Rattle.settings.proofs.numbering.filled.Goals as goal

pub loop-place-preserved : goal.loop-place-preserved
loop-place-preserved c =
    let stay = c.args.stay.now in
    let place = c.loop-place.place in
    let whole : take (length stay - (place + 1)) (drop (place + 1) stay) ≡ drop (place + 1) stay =
    grind (arith, common_steps) in
    record {
      so_far = grind (arith, common_steps, c.loop-place.invariant.so_far, c.number_above-below.ensures, c.push.ensures.items);
      below = omega (
        arith,
        rw whole at c.number_above-below.ensures,
        number_above-le c.args.room c.args.most c.loop-place.below (get_or stay place 0) (2 ^ 32)
            (drop (place + 1) stay) (omega arith) c.loop-place.invariant.below
            (c.requires.within place 0 (omega arith))
            (All-drop (λ n. n ≤ (2 ^ 32)) (place + 1) stay c.requires.within),
      );
    }
