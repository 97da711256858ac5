-- Playing goes on by one line.
use Rattle.std.proofs.Common.{◌≡◌, ◌∙◌, ℕ, List, [], ◌∷◌, ◌++◌, length, Option, None, Some, Result}
use Rattle.std.proofs.Common.{Ok, Err, append-nil, append_assoc, sym, refl, ap, subst, arith}
use Rattle.std.specs.Prelude.{OnOk}
use Rattle.std.specs.Io.KnownBytes.{Appends}
use Rattle.streams.specs.Sending.{Sends}
use Rattle.desk_core.specs.World.{World}
use Rattle.scripts.specs.declared.line.Line.{Line}
use Rattle.plays.specs.Plays.{IsPlayed, ArePlayed}

pub ArePlayed-push : (w u v : World) (lines : List Line) (line : Line) (text more : List ℕ)
    → ArePlayed w lines u text → IsPlayed u line.row v more
    → ArePlayed w (lines ++ line ∷ []) v (text ++ more)
ArePlayed-push w u v [] line text more done next = (
  v,
  more,
  [],
  subst (λ (x : World). IsPlayed x line.row v more) done.0 next,
  (refl, refl),
  ap (λ (t : List ℕ). t ++ more) done.1 ∙ sym (append-nil more),
)
ArePlayed-push w u v (l ∷ lines) line text more done next = (
  done.0,
  done.1,
  done.2 ++ more,
  done.3,
  ArePlayed-push done.0 u v lines line done.2 more done.4
      next,
  ap (λ (t : List ℕ). t ++ more) done.5 ∙ append_assoc done.1 done.2 more,
)

-- the lines so far are played and printed, and these are left
pub record IsPlaying (w v : World) (done left all : List Line) (count : ℕ)
    (before after : Option (List ℕ)) : Type 0 where
  pub text : List ℕ
  pub played : ArePlayed w done v text
  pub rest : done ++ left ≡ all
  pub counted : length left ≡ count
  pub sent : Appends before after text

-- nothing is left
pub none_left : (done left all : List Line) (count : ℕ) → done ++ left ≡ all → length left ≡ count
    → count ≡ 0 → done ≡ all
none_left done [] all count same counted none = sym (append-nil done) ∙ same
none_left done (line ∷ left) all count same counted none = absurd (omega arith)

-- ---- nothing was held back, and what was then is written
all_written : (before between after : Option (List ℕ)) (held text : List ℕ)
    → Sends before [] between held text → Appends between after held → Appends before after text
all_written None between after held text sends sent = tt
all_written (Some xs) None after held text sends sent = absurd sends
all_written (Some xs) (Some ys) None held text sends sent = absurd sent
all_written (Some xs) (Some ys) (Some zs) held text sends sent = sent ∙ sends
    ∙ ap (λ (l : List ℕ). l ++ text) (append-nil xs)

-- and so is the text of which something is known
pub known_written : (P : List ℕ → Type 0) (before between after : Option (List ℕ))
    (first held : List ℕ) → first ≡ [] → Appends between after held
    → ((text : List ℕ) × P text × Sends before first between held text) → (text : List ℕ) × P text
    × Appends before after text
known_written P before between after first held empty sent put = (
  put.0,
  put.1,
  all_written before between after held put.0
      (subst (λ (bs : List ℕ). Sends before bs between held put.0) empty put.2) sent,
)

pub on_ok_map : {T E A B : Type 0} (r : Result T E) → (A → B) → OnOk r A → OnOk r B
on_ok_map (Ok x) f a = f a
on_ok_map (Err x) f a = tt
