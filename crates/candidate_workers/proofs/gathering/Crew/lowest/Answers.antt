use Rattle.std.proofs.Common.{◌≡◌, ◌<◌, [], length, take, get_or, ap, sym, ◌∙◌, arith}
use Rattle.assignment.specs.Places.{PlaceData}
use Rattle.candidate_workers.specs.Crews.{place_in, places_in}
use Rattle.candidate_workers.proofs.CrewLaws.{first_of_more}
use Rattle.candidate_workers.proofs.gathering.Crew.lowest.Goals as goal

pub loop-handed-preserved : goal.loop-handed-preserved
loop-handed-preserved c =
    let hs = c.args.self.now.handed.items in
    let i = c.loop-handed.handed-index in
    let value = c.deref-handed-items.ensures.value in
    let here : get_or hs i c.handed-item.result ≡ c.handed-item.result =
    ap (λ xs. get_or xs i c.handed-item.result) (sym value) ∙ sym c.handed-item.is in
    let within : i < length hs =
    omega (arith, c.loop-handed-test.true, ap (λ xs. length xs) value) in
    record {
      lowest = first_of_more (λ (p : PlaceData). p.task) place_in [] hs i c.handed-item.result
          c.lowest_with-lowest.result within here (c.lowest_with-lowest.ensures
          (places_in (take i hs)) c.loop-handed.invariant.lowest);
    }
