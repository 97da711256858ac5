-- A line with a failure: what is read is spelled so, and what is spelled so is read.
use Rattle.std.proofs.Common.{◌≡◌, ℕ, ◌<◌, true, List, [], ◌∷◌, ◌++◌, length, map, Option, Some}
use Rattle.std.proofs.Common.{None, option_map, refl, sym, ap, ap₂, ◌∙◌, append_assoc, arith}
use Rattle.std.specs.Prelude.{codes}
use Rattle.std.specs.Option.{option_or}
use Rattle.std.specs.List.{AllByRecursion}
use Rattle.std.specs.Fmt.{decimal}
use Rattle.std.proofs.lemmas.Bool.{and_parts}
use Rattle.std.proofs.lemmas.List.{append-nil, length-map}
use Rattle.std.proofs.lemmas.Option.{same_Some, cond_some}
use Rattle.std.proofs.lemmas.Slice.Eq.{bytes_eq-Decides}
use Rattle.task_sheet.specs.Name.{is_name, IsName}
use Rattle.certificate.specs.Body.{CertReasonData, Chain, Over, Fail, IsReasonText, IsFailText}
use Rattle.certificate.specs.Spelling.{numbers_text, reason_text, fail_line}
use Rattle.certificate.specs.Words.{numbers_in, over_in, later_in, reason_in, fail_in}
use Rattle.certificate.specs.declared.version.CertVersion.{CertVersion}
use Rattle.certificate.specs.declared.version.CertVersion.TheVariants.{First}
use Rattle.certificate.proofs.Loops.{fail_at}
use Rattle.certificate.proofs.WordLaws.{IsWord, name_word, line_of, IsLine, bind_some, cond_given}
use Rattle.certificate.proofs.WordLaws.{numbers_take, numbers_again, numbers_plain}

-- the words of a reason
abbrev reason_words : CertReasonData → List (List ℕ)
reason_words (Chain numbers) = map decimal numbers
reason_words (Over other) = codes "over" ∷ other ∷ []

-- the words of a line with a failure
abbrev pub fail_words : List ℕ → Fail → List (List ℕ)
fail_words word f = word ∷ f.name ∷ reason_words f.reason

-- ---- a reason
over_takes : (ws : List (List ℕ)) (r : CertReasonData) → over_in ws ≡ Some r
    → (other : List ℕ) × (ws ≡ codes "over" ∷ other ∷ []) × IsName other × (r ≡ Over other)
over_takes [] r e = absurd cc
over_takes (w ∷ []) r e = absurd cc
over_takes (w ∷ other ∷ x ∷ xs) r e = absurd cc
over_takes (w ∷ other ∷ []) r e =
    let g = cond_some _ (Over other) r e in
    let tests = and_parts _ _ g.0 in
    let over = (bytes_eq-Decides w (codes "over")).0 tests.0 in
    (other, rw over refl, tests.1, sym g.1)

later_takes : (v : CertVersion) (ws : List (List ℕ)) (r : CertReasonData) → later_in v ws ≡ Some r
    → (ws ≡ reason_words r) × IsReasonText v r
later_takes First ws r e = absurd cc
later_takes v ws r e =
    let over = over_takes ws r e in
    rw over.3 (over.1, over.2)

reason_takes : (v : CertVersion) (w : List ℕ) (ws : List (List ℕ)) (r : CertReasonData)
    → reason_in v (w ∷ ws) ≡ Some r → (w ∷ ws ≡ reason_words r) × IsReasonText v r
unfolding reason_in
reason_takes v w ws r = by (numbers_in (w ∷ ws)) refl
  where
    by : (o : Option (List ℕ)) → numbers_in (w ∷ ws) ≡ o
        → option_or (option_map Chain o) (later_in v (w ∷ ws)) ≡ Some r
        → (w ∷ ws ≡ reason_words r) × IsReasonText v r
    by (Some numbers) is e =
        let taken = numbers_take (w ∷ ws) numbers is in
        let some : 0 < length numbers =
        omega (arith, ap length taken.0, length-map numbers decimal) in
        rw (← same_Some (Chain numbers) r e) (taken.0, (some, taken.1))
    by None is e = later_takes v (w ∷ ws) r e

over_named : (v : CertVersion) (other : List ℕ) → IsReasonText v (Over other) → IsName other
over_named First other fits = absurd fits
over_named v other fits = fits

reason_again : (v : CertVersion) (r : CertReasonData) → IsReasonText v r
    → reason_in v (reason_words r) ≡ Some r
unfolding reason_in numbers_in
reason_again v (Chain numbers) fits = rw (numbers_again numbers fits.1) refl
reason_again First (Over other) fits = absurd fits
reason_again v (Over other) fits = rw fits refl

numbers_line : (n : ℕ) (ns : List ℕ)
    → numbers_text (n ∷ ns) ≡ 32 ∷ line_of (map decimal (n ∷ ns))
numbers_line n [] = ap (λ (x : List ℕ). 32 ∷ x) (append-nil (decimal n))
numbers_line n (m ∷ ms) = ap (λ (x : List ℕ). 32 ∷ (decimal n ++ x)) (numbers_line m ms)

module _ (v : CertVersion) where
  reason_line : (r : CertReasonData) → IsReasonText v r
      → (reason_text r ≡ 32 ∷ line_of (reason_words r)) × (0 < length (reason_words r))
  reason_line (Chain []) fits = absurd (omega (arith, fits.0))
  reason_line (Chain (n ∷ ns)) fits = (numbers_line n ns, omega arith)
  reason_line (Over other) fits = (refl, omega arith)

  reason_plain : (r : CertReasonData) → IsReasonText v r → AllByRecursion IsWord (reason_words r)
  reason_plain (Chain numbers) fits = numbers_plain numbers fits.1
  reason_plain (Over other) fits =
      (name_word (codes "over") refl, (name_word other (over_named v other fits), tt))

  -- ---- a failure
  pub fail_takes : (word : List ℕ) (ws : List (List ℕ)) (f : Fail) → fail_in v word ws ≡ Some f
      → (ws ≡ fail_words word f) × IsFailText v f
  unfolding fail_in
  fail_takes word [] f e = absurd cc
  fail_takes word (w ∷ []) f e = absurd cc
  fail_takes word (w ∷ name ∷ []) f e = absurd cc
  fail_takes word (w ∷ name ∷ n ∷ ns) f e =
      let g = cond_given _ _ f e in
      let tests = and_parts _ _ g.0 in
      let b = bind_some _ _ f g.1 in
      let reason = reason_takes v n ns b.0 b.1 in
      let made : Fail = record { name = name; reason = b.0 } in
      let same : made ≡ f = same_Some made f b.2 in
      rw (← same) (
        ap₂ (λ (x : List ℕ) (xs : List (List ℕ)). x ∷ name ∷ xs)
            ((bytes_eq-Decides w word).0 tests.0) reason.0,
        record { name = tests.1; reason = reason.1 },
      )

  pub fail_again : (word : List ℕ) (f : Fail) → IsFailText v f
      → fail_in v word (fail_words word f) ≡ Some f
  fail_again word f fits =
      let is : is_name f.name ≡ true = fits.name in
      fail_at v word word f.name (reason_words f.reason) (reason_line f.reason fits.reason).1
      ∙ rw ((bytes_eq-Decides word word).1 refl, is, reason_again v f.reason fits.reason) refl

  pub fail_plain : (word : List ℕ) (f : Fail) → IsWord word → IsFailText v f
      → IsLine (fail_words word f)
  fail_plain word f plain fits = record {
    some = omega arith;
    plain = (plain, (name_word f.name fits.name, reason_plain f.reason fits.reason));
  }

  pub fail_line_is : (word : List ℕ) (f : Fail) (rest : List ℕ) → IsFailText v f
      → fail_line word f ++ rest ≡ line_of (fail_words word f) ++ 10 ∷ rest
  fail_line_is word f rest fits = by (reason_words f.reason) (reason_line f.reason fits.reason)
    where
      by : (ws : List (List ℕ)) → (reason_text f.reason ≡ 32 ∷ line_of ws) × (0 < length ws)
          → fail_line word f ++ rest ≡ line_of (word ∷ f.name ∷ ws) ++ 10 ∷ rest
      by [] h = absurd (omega (arith, h.1))
      by (w ∷ ws) h = rw h.0 (simp append_assoc)
