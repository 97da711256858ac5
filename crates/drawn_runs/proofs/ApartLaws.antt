-- Rows one below the other differ in their tones.
use Rattle.std.proofs.Common.{◌≡◌, inl, inr, ℕ, ◌+◌, List, [], ◌∷◌, ◌++◌, Option, Some, None, true}
use Rattle.std.proofs.Common.{arith, refl}
use Rattle.std.specs.Prelude.{◌%◌, ◌==◌, not}
use Rattle.std.proofs.lemmas.Bool.{and_parts, cases_Bool, eqb-true, ne_eqb}
use Rattle.task_sheet.proofs.Common.{Task}
use Rattle.ceiling_kernel.specs.declared.trace.Release.{Release}
use Rattle.run_lines.specs.declared.bounds.TaskBound.{TaskBound}
use Rattle.frames.specs.declared.rows.TaskRow.{TaskRow}
use Rattle.frames.specs.Tones.{apart, last_tone}
use Rattle.frames.specs.View.{is_chosen}
use Rattle.drawn_runs.specs.Apart.{are_apart, are_apart_below, differs}
use Rattle.drawn_runs.specs.DrawnRows.{Looks, drawn_row, rows_of}

-- a tone and the next one, of ten
next_other : (above tone : ℕ) → above ≡ tone → not (above == (tone % 10 + 1) % 10) ≡ true
next_other above tone same =
    rw (ne_eqb above ((tone % 10 + 1) % 10) (λ e. absurd (omega (arith, e, same)))) refl

-- a tone below another, made to differ
differs_apart : (above : Option ℕ) (tone : ℕ) → differs above (apart above tone) ≡ true
differs_apart None tone = refl
differs_apart (Some above) tone = elim (cases_Bool (above == tone)) [
  | inl same ↦ rw same (next_other above tone (eqb-true above tone same))
  | inr other ↦ rw (other, other) refl
]

-- one row more, at the end
one_more : (names : List (List ℕ)) (rs : List Release) (above : Option ℕ) (rows : List TaskRow)
    (row : TaskRow) → are_apart_below names rs above rows ≡ true
    → (is_chosen names rs row.sheet.name ≡ true
    → differs (last_tone names rs above rows) row.tone ≡ true)
    → are_apart_below names rs above (rows ++ row ∷ []) ≡ true
one_more names rs above [] row so_far last = elim (cases_Bool (is_chosen names rs row.sheet.name)) [
  | inl chosen ↦ rw (chosen, last chosen) refl
  | inr hidden ↦ rw hidden refl
]
one_more names rs above (first ∷ rows) row so_far last =
    elim (cases_Bool (is_chosen names rs first.sheet.name)) [
      | inl chosen ↦
          let parts = and_parts (differs above first.tone)
          (are_apart_below names rs (Some first.tone) rows) (rw chosen at so_far) in
          rw (chosen, parts.0) (one_more names rs (Some first.tone) rows row parts.1
          (λ shown. rw chosen at last shown))
      | inr hidden ↦ rw hidden (one_more names rs above rows row (rw hidden at so_far)
          (λ shown. rw hidden at last shown))
    ]

pub rows_apart : (U : List Task) (looks : Looks) (bounds : List TaskBound)
    → are_apart looks (rows_of U looks bounds) ≡ true
rows_apart U looks [] = refl
rows_apart U looks (b ∷ bounds) =
    let rows = rows_of U looks bounds in
    one_more looks.names looks.releases None rows (drawn_row U looks rows b)
    (rows_apart U looks bounds) (λ chosen. rw chosen (differs_apart
    (last_tone looks.names looks.releases None rows) _))
