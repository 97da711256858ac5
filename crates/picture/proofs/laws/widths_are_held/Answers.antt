use Rattle.std.proofs.Common.{◌≡◌, ℕ, ◌+◌, ◌*◌, ◌/◌, ◌≤◌, List, [], ◌∷◌, arith, min, max}
use Rattle.std.specs.Prelude.{Bool, Option, Some, None, ◌-◌}
use Rattle.frames.specs.declared.rows.TaskRow.{TaskRow}
use Rattle.frames.specs.Frame.{frame_from, frame_to, is_in_millis, left_of}
use Rattle.frames.specs.Frame.{margin_of, span_of, widest_margin}
use Rattle.picture.proofs.laws.widths_are_held.Goals as goal

within_margin : (millis : Bool) (most : ℕ) (rows : List TaskRow) → most ≤ 2600
    → widest_margin millis most rows ≤ 2600
within_margin millis most [] le = le
within_margin millis most (row ∷ rows) le =
    within_margin millis (max most (margin_of millis row)) rows (omega (arith, le))

wide : (left span : ℕ) → left ≤ 2600
    → (9600 ≤ left + max (min span (15800 - left)) (9400 - left) + 200)
    × (left + max (min span (15800 - left)) (9400 - left) + 200 ≤ 16000)
wide left span small = (omega (arith, small), omega (arith, small))

none_said : (left least time : ℕ) (width : Option ℕ) → left ≤ 2600 → width ≡ None
    → (9600 ≤ left + span_of width left least time + 200)
    × (left + span_of width left least time + 200 ≤ 16000)
none_said left least time width small none = rw none (wide left (240 * time / least) small)

some_said : (left least time : ℕ) (given : Option ℕ) (width : ℕ) → left ≤ 2600 → given ≡ Some width
    → 960 ≤ width → width ≤ 16000
    → left + span_of given left least time + 200 ≡ 10 * width
some_said left least time given width small is least_wide most =
    rw is (omega (arith, small, least_wide, most))

pub returns : goal.returns
returns c = λ rows v until.
    let millis = is_in_millis (frame_to v until - frame_from v until) in
    let small : left_of millis rows ≤ 2600 = within_margin millis 1960 rows (omega arith) in (
      λ none. none_said _ _ _ v.width small none,
      λ width is least most. some_said _ _ _ v.width width small is least most,
    )
