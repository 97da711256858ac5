-- Texts cut into lines, and lines cut into words.
use Rattle.std.proofs.Common.{◌≡◌, ◌∙◌, ℕ, ◌<◌, Bool, true, false, ◌==◌, List, [], ◌∷◌, length}
use Rattle.std.proofs.Common.{refl, ap, sym, cond, arith}
use Rattle.std.specs.List.{slice_split, onto_first}
use Rattle.std.proofs.lemmas.List.Splits.{length-slice_split}
use Rattle.lines.specs.TextLines.{lines_of, parts, without_rest}
use Rattle.lines.specs.Words.{words}

pub words_some : (line : List ℕ) → 0 < length (words line)
words_some line = omega (arith, length-slice_split {X = ℕ} (λ b. b == 32) line)

pub parts_some : (text : List ℕ) → 0 < length (parts text)
parts_some text = omega (arith, length-slice_split {X = ℕ} (λ b. b == 10) text)

-- a text has a part
some_part : (p : ℕ → Bool) (text : List ℕ) → (q : List ℕ) × (qs : List (List ℕ))
    × (slice_split p text ≡ q ∷ qs)
some_part p [] = ([], [], refl)
some_part p (c ∷ cs) =
    let rest = some_part p cs in
    go (p c) rest.0 rest.1 rest.2
  where
    go : (b : Bool) (q : List ℕ) (qs : List (List ℕ)) → slice_split p cs ≡ q ∷ qs
        → (r : List ℕ) × (rs : List (List ℕ))
        × (cond b ([] ∷ slice_split p cs) (onto_first c (slice_split p cs)) ≡ r ∷ rs)
    go true q qs e = ([], slice_split p cs, refl)
    go false q qs e = (c ∷ q, qs, ap (onto_first c) e)

pub line_cut : (text line rest : List ℕ) → parts text ≡ line ∷ parts rest
    → lines_of text ≡ line ∷ lines_of rest
line_cut text line rest e =
    let more = some_part (λ b. b == 10) rest in
    ap without_rest (e ∙ ap (λ ps. line ∷ ps) more.2)
    ∙ ap (λ ps. line ∷ without_rest ps) (sym more.2)
