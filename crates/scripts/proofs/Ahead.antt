-- Reading words one after the other, as a loop does.
use Rattle.std.proofs.Common.{◌≡◌, ℕ, List, [], ◌∷◌, ◌++◌, Result, Ok, Err, refl, sym, ap, ◌∙◌}
use Rattle.std.proofs.Common.{append_assoc, append-nil}
use Rattle.scripts.specs.declared.line.RowFault.{RowFault}
use Rattle.scripts.specs.declared.line.RowFault.TheVariants.{OutOfMemory}
use Rattle.scripts.specs.Gives.{FailsRow}
use Rattle.lines.specs.Steps.{◌>>=◌, ahead, each_in}

module _ {A E : Type 0} where
  pub ahead-ahead : (front : List A) (x : A) (rest : Result (List A) E)
      → ahead front (ahead (x ∷ []) rest) ≡ ahead (front ++ x ∷ []) rest
  ahead-ahead front x (Ok xs) = ap (λ (ys : List A). Ok ys) (simp append_assoc)
  ahead-ahead front x (Err fault) = refl

module _ {A : Type 0} (read : List ℕ → Result A RowFault) where
  pub each_next : (front : List A) (w : List ℕ) (ws all : List (List ℕ)) (x : A)
      (total : Result (List A) RowFault) → all ≡ w ∷ ws → read w ≡ Ok x
      → ahead front (each_in read all) ≡ total → ahead (front ++ x ∷ []) (each_in read ws) ≡ total
  each_next front w ws all x total cut is so_far =
      let one : ahead front (each_in read all) ≡ ahead (front ++ x ∷ []) (each_in read ws) =
      rw (cut, is) (ahead-ahead front x (each_in read ws)) in
      sym one ∙ so_far

  pub each_fails : (front : List A) (w : List ℕ) (ws all : List (List ℕ)) (fault : RowFault)
      (total : Result (List A) RowFault) → all ≡ w ∷ ws → FailsRow fault (read w)
      → ahead front (each_in read all) ≡ total → FailsRow fault total
  each_fails front w ws all OutOfMemory total cut is so_far = tt
  each_fails front w ws all fault total cut is so_far =
      let one : ahead front (each_in read all) ≡ Err fault = rw (cut, is) refl in
      sym so_far ∙ one

  pub each_end : (front : List A) (all : List (List ℕ)) (total : Result (List A) RowFault)
      → all ≡ [] → ahead front (each_in read all) ≡ total → total ≡ Ok front
  each_end front all total none so_far =
      let one : ahead front (each_in read all) ≡ Ok front =
      rw none (ap (λ (ys : List A). Ok ys) (append-nil front)) in
      sym so_far ∙ one

  pub each_last : (front : List A) (w : List ℕ) (all : List (List ℕ)) (x : A)
      (total : Result (List A) RowFault) → all ≡ w ∷ [] → read w ≡ Ok x
      → ahead front (each_in read all) ≡ total → total ≡ Ok (front ++ x ∷ [])
  each_last front w all x total cut is so_far =
      let one : ahead front (each_in read all) ≡ Ok (front ++ x ∷ []) = rw (cut, is) refl in
      sym so_far ∙ one

-- a step that fails ends the steps
pub fails_all : {A B : Type 0} (fault : RowFault) (read : Result A RowFault)
    (more : A → Result B RowFault) → FailsRow fault read → FailsRow fault (read >>= more)
fails_all OutOfMemory read more is = tt
fails_all fault read more is = rw is refl

-- words are read one after the other, and one last
pub ruleset words_read = (each_next, each_fails, each_last)
