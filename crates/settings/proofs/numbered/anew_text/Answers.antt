use Rattle.std.proofs.Common.{◌≡◌, ◌∙◌, ℕ, List, Result, Ok, Err, String, Global, sym, refl, length, replicate, ap, arith}
use Rattle.std.proofs.Common.{string_bytes}
use Rattle.std.specs.Prelude.{IfOk}
use Rattle.std.specs.declared.alloc.AllocError.{AllocError}
use Rattle.task_sheet.specs.Sheet.{Task}
use Rattle.settings.specs.Settings.{numbers_from, settings_anew, settings_at}
use Rattle.std.proofs.lemmas.List.{length-replicate}
use Rattle.ceiling_kernel.proofs.OrderLaws.{order_length}
use Rattle.assignment.specs.Placings.{tasks_of_places}
use Rattle.settings.proofs.numbered.anew_text.Goals as goal

pub numbers_from-requires : goal.numbers_from-requires
numbers_from-requires c = omega (
  arith,
  ap length (c.deref.ensures.value ∙ c.in_ok-none.ensures),
  length-replicate {A = ℕ} c.len.result 0,
  c.len.ensures,
  ap length c.in_ok-order.ensures,
  c.in_ok-order.order.ok.0,
  order_length (length c.args.set.now) (tasks_of_places c.args.places.now) c.requires,
  c.sheets.ensures.kept.few,
)

-- the text of numbers that are given where there are none
said : (U : List Task) (base room n : ℕ) (order tasks none numbers : List ℕ)
    (r : Result (String Global) AllocError) → order ≡ tasks → n ≡ length tasks → none ≡ replicate n 0
    → numbers ≡ numbers_from base room none
    → IfOk r (λ text. string_bytes text ≡ settings_at U numbers order)
    → IfOk r (λ text. string_bytes text ≡ settings_anew U base room tasks)
said U base room n order tasks none numbers (Ok text) is count zero given h =
    h ∙ rw (given, zero, count, is) refl
said U base room n order tasks none numbers (Err e) is count zero given h = tt

pub returns : goal.returns
returns c =
    let order = c.deref-3.ensures.value ∙ c.in_ok-order.ensures in
    let count : c.len.result ≡ length (tasks_of_places c.args.places.now) =
    c.len.ensures ∙ sym c.deref-3.ensures.len ∙ ap length order in
    said c.args.set.now c.args.base c.args.room c.len.result c.deref-3.result.now
    (tasks_of_places c.args.places.now) c.deref.result.now c.deref-2.result.now c.settings_at.result
    order count (c.deref.ensures.value ∙ c.in_ok-none.ensures)
    (c.deref-2.ensures.value ∙ c.in_ok-numbers.ensures.is) c.settings_at.ensures
