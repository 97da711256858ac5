-- A finding in the slot of a draft is one in the world.
use Rattle.std.proofs.Common.{◌≡◌, ◌∙◌, ℕ, zero, suc, set, get_or, ◌+◌, ◌-◌, List, [], ◌∷◌, Option}
use Rattle.std.proofs.Common.{None, Some, refl, ap, arith}
use Rattle.assignment.specs.Questions.{FindingData}
use Rattle.desk_core.specs.declared.events.Event.TheVariants.{Found}
use Rattle.desk_core.specs.declared.events.Reply.{Reply}
use Rattle.desk_core.specs.Slots.{IsFoundIn}
use Rattle.desk_core.specs.World.{World, Live, live_at, Happens}

pub set-same : (xs : List (Option Live)) (i : ℕ) (x : Option Live) → x ≡ get_or xs i x
    → set xs i x ≡ xs
set-same [] i x is = refl
set-same (y ∷ xs) zero x is = ap (λ z. z ∷ xs) is
set-same (y ∷ xs) (suc i) x is = ap (λ zs. y ∷ zs) (set-same xs i x is)

pub found-moved : (w : World) (draft i : ℕ) (slot new : Option Live) (f : FindingData) (r : Reply)
    → i + 1 ≡ draft → live_at w.drafts draft ≡ slot → slot ≡ get_or w.drafts i slot
    → IsFoundIn slot f.question r new
    → Happens w (Found draft f) r (record { book = w.book; drafts = set w.drafts i new })
found-moved w draft i None new f r next at is so =
    rw at (
      so.0,
      λ j. let x : World = record {
        book = w.book;
        drafts =
            (ap (λ o. set w.drafts i o) so.1 ∙ set-same w.drafts i None is) j;
      } in x,
    )
found-moved w draft i (Some l) new f r next at is so =
    let index : i ≡ draft - 1 = omega arith in
    rw at (
      so.0,
      so.1,
      λ j. let x : World =
          record { book = w.book; drafts = set w.drafts (index j) (so.2 j) } in x,
    )
