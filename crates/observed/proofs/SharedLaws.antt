-- Promises that several share.
use Rattle.std.proofs.Common.{◌≡◌, ◌∙◌, ◌<◌, ℕ, List, length, sym, ap, arith}
use Rattle.std.specs.Prelude.{map, slice_index_or}
use Rattle.std.proofs.lemmas.List.{get_or-map, length-map}
use Rattle.observed.specs.declared.promises.Promise.{Promise}

-- that at a level
module _ {X : Type 0} (value : X → Promise) where
  pub as_many : (shared : List X) (promises : List Promise) → map value shared ≡ promises
      → length shared ≡ length promises
  as_many shared promises same = sym (length-map shared value) ∙ ap length same

  pub shared_at : (shared : List X) (promises : List Promise) (level : ℕ) (d : X) (e : Promise)
      → map value shared ≡ promises → level < length promises
      → value (slice_index_or shared level d) ≡ slice_index_or promises level e
  shared_at shared promises level d e same lt =
      sym (get_or-map value shared level d e (omega (arith, as_many shared promises same, lt)))
      ∙ ap (λ (ps : List Promise). slice_index_or ps level e) same
