-- Lines at the front, each of which is an item: what is read, and what is read of what is spelled.
use Rattle.std.proofs.Common.{◌≡◌, ℕ, ◌+◌, List, [], ◌∷◌, ◌++◌, Option, Some, None}
use Rattle.std.proofs.Common.{refl, sym, ap, ◌∙◌, append_assoc}
use Rattle.std.specs.List.{AllByRecursion, flat_map, join_with_byte}
use Rattle.lines.specs.TextLines.{parts}
use Rattle.lines.specs.Words.{words}
use Rattle.lines.proofs.Parts.{parts_some}
use Rattle.certificate.specs.CertificateLines.{At, front_case, front_from}
use Rattle.certificate.proofs.Loops.{front_line}
use Rattle.certificate.proofs.WordLaws.{line_of, IsLine, words_again, parts_again}
use Rattle.certificate.proofs.LineLaws.{left, at_text}

-- the words of an item are a line, which is its text and reads back
pub record IsSpelled {X : Type 0} (item : List (List ℕ) → Option X) (text : X → List ℕ) (x : X)
    : Type 0 where
  pub words : List (List ℕ)
  pub plain : IsLine words
  pub is : (rest : List ℕ) → text x ++ rest ≡ line_of words ++ 10 ∷ rest
  pub again : item words ≡ Some x

module _ {X : Type 0} (item : List (List ℕ) → Option X) (text : X → List ℕ) (Fits : X → Type 0)
  where
    -- of these parts the items at the front were taken
    abbrev pub IsTaken : List (List ℕ) → List X × At → Type 0
    IsTaken ps x = (join_with_byte 10 ps ≡ flat_map text x.0 ++ left x.1)
        × AllByRecursion Fits x.0

    pub front_take : ((l : List ℕ) (x : X) → item (words l) ≡ Some x
        → ((rest : List ℕ) → l ++ 10 ∷ rest ≡ text x ++ rest) × Fits x)
        → (ps : List (List ℕ)) (n : ℕ) → IsTaken ps (front_from item ps n)
    unfolding front_from
    front_take one [] n = (refl, tt)
    front_take one (l ∷ []) n = (refl, tt)
    front_take one (l ∷ x ∷ xs) n = by (item (words l)) refl (front_from item (x ∷ xs) (n + 1))
        (front_take one (x ∷ xs) (n + 1))
      where
        by : (o : Option X) → item (words l) ≡ o → (rest : List X × At) → IsTaken (x ∷ xs) rest
            → IsTaken (l ∷ x ∷ xs) (front_case o (record { parts = l ∷ x ∷ xs; line = n }) rest)
        by None is rest h = (refl, tt)
        by (Some f) is rest h =
            let t = one l f is in (
              ap (λ (y : List ℕ). l ++ 10 ∷ y) h.0
                  ∙ t.0 _
                  ∙ sym (append_assoc (text f) (flat_map text rest.0) (left rest.1)),
              (t.1, h.1),
            )

    -- no line of an item comes first
    abbrev pub BeginsNone : List ℕ → Type 0
    BeginsNone rest = (n : ℕ) → front_from item (parts rest) n ≡ ([], at_text rest n)

    pub front_none : {ws : List (List ℕ)} (text rest : List ℕ) → IsLine ws
        → text ≡ line_of ws ++ 10 ∷ rest → item ws ≡ None → BeginsNone text
    front_none {ws} text rest line e none n = rw (parts_again text rest line e)
        (front_line item (line_of ws) (parts rest) n (parts_some rest)
        ∙ rw (words_again line, none) refl)

    pub front_again : ((x : X) → Fits x → IsSpelled item text x)
        → (xs : List X) (rest : List ℕ) (n : ℕ) → AllByRecursion Fits xs → BeginsNone rest → (m : ℕ)
        × (front_from item (parts (flat_map text xs ++ rest)) n ≡ (xs, at_text rest m))
    front_again one [] rest n fits none = (n, none n)
    front_again one (x ∷ xs) rest n fits none =
        let more : List ℕ = flat_map text xs ++ rest in
        let spelled = one x fits.0 in
        let cut = parts_again (flat_map text (x ∷ xs) ++ rest) more spelled.plain
        (append_assoc (text x) (flat_map text xs) rest ∙ spelled.is more) in
        let others = front_again one xs rest (n + 1) fits.1 none in (
          others.0,
          ap (λ (ps : List (List ℕ)). front_from item ps n) cut
              ∙ front_line item (line_of spelled.words) (parts more) n (parts_some more)
              ∙ rw (words_again spelled.plain, spelled.again, others.1) refl,
        )
