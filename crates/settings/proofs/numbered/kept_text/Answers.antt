use Rattle.std.proofs.Common.{length, arith}
use Rattle.std.proofs.lemmas.List.{length-map}
use Rattle.assignment.specs.Places.{PlaceData}
use Rattle.assignment.specs.Placings.{tasks_of_places}
use Rattle.ceiling_kernel.proofs.OrderLaws.{order_length}
use Rattle.settings.proofs.numbered.kept_text.Goals as goal

pub numbers_from-requires : goal.numbers_from-requires
numbers_from-requires c = omega (
  arith,
  c.requires.each,
  length-map c.args.places.now (λ (p : PlaceData). p.task),
  order_length (length c.args.set.now) (tasks_of_places c.args.places.now) c.requires.order,
  c.sheets.ensures.kept.few,
)
