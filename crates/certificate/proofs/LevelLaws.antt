-- Levels: what is read, and what is read of what is spelled.
use Rattle.std.proofs.Common.{◌≡◌, ℕ, ◌+◌, eq-eqb, true, List, [], ◌∷◌, ◌++◌, Option, Some, None}
use Rattle.std.proofs.Common.{Ok, refl, sym, ap, ◌∙◌, append_assoc, arith}
use Rattle.std.specs.Prelude.{codes}
use Rattle.std.specs.Fmt.{decimal}
use Rattle.std.proofs.lemmas.Bool.{eqb-true, and_parts}
use Rattle.std.proofs.lemmas.Option.{cond_some}
use Rattle.std.proofs.lemmas.Slice.Eq.{bytes_eq-Decides}
use Rattle.task_sheet.specs.Name.{is_name, IsName}
use Rattle.certificate.specs.Body.{Fail, CertLevelData, IsShort, IsFailText, IsLevelText}
use Rattle.certificate.specs.Spelling.{fail_line, fail_lines, level_spelling}
use Rattle.lines.specs.Words.{words, number_in}
use Rattle.certificate.specs.Words.{fail_in}
use Rattle.certificate.specs.CertificateLines.{At, level_head, level_in, fails_from, level_read}
use Rattle.certificate.specs.declared.version.CertVersion.{CertVersion}
use Rattle.lines.proofs.NumberLaws.{number_takes, number_again}
use Rattle.certificate.proofs.FrontLaws.{IsSpelled, BeginsNone, front_take, front_none, front_again}
use Rattle.certificate.proofs.WordLaws.{name_word, number_word, line_of, words_take, IsLine}
use Rattle.certificate.proofs.WordLaws.{words_again, cond_given}
use Rattle.certificate.proofs.FailLaws.{fail_words, fail_takes, fail_again, fail_plain}
use Rattle.certificate.proofs.FailLaws.{fail_line_is}
use Rattle.certificate.proofs.LineLaws.{left, bind_ok, ok_is, wanted_ok, line_takes}
use Rattle.certificate.proofs.LineLaws.{line_again, Reads}

-- the words of a level's line
abbrev level_words : ℕ → List ℕ → ℕ → List (List ℕ)
level_words k name t = codes "level" ∷ decimal k ∷ name ∷ decimal t ∷ []

-- the lines of a level and of its failures
abbrev pub level_text : ℕ → CertLevelData → List ℕ
level_text k l = level_spelling k l ++ fail_lines (codes "fails") l.fails

-- ---- the line of a level
head_takes : (k : ℕ) (name : List ℕ) (number time : Option ℕ) (h : List ℕ × ℕ)
    → level_head k name number time ≡ Some h
    → (number ≡ Some k) × (time ≡ Some h.1) × (name ≡ h.0) × IsName name
head_takes k name None time h e = absurd cc
head_takes k name (Some m) None h e = absurd cc
head_takes k name (Some m) (Some n) h e =
    let g = cond_some _ (name, n) h e in
    let t = and_parts _ _ g.0 in
    rw (← g.1) (ap (λ (x : ℕ). Some x) (eqb-true m k t.0), refl, refl, t.1)

level_takes : (k : ℕ) (ws : List (List ℕ)) (h : List ℕ × ℕ) → level_in k ws ≡ Some h
    → (ws ≡ level_words k h.0 h.1) × IsName h.0 × IsShort h.1
level_takes k [] h e = absurd cc
level_takes k (w ∷ []) h e = absurd cc
level_takes k (w ∷ m ∷ []) h e = absurd cc
level_takes k (w ∷ m ∷ name ∷ []) h e = absurd cc
level_takes k (w ∷ m ∷ name ∷ n ∷ x ∷ xs) h e = absurd cc
level_takes k (w ∷ m ∷ name ∷ n ∷ []) h e =
    let g = cond_given _ _ h e in
    let p = head_takes k name (number_in m) (number_in n) h g.1 in
    let number = number_takes m k p.0 in
    let time = number_takes n h.1 p.1 in
    rw ((bytes_eq-Decides w (codes "level")).0 g.0, number.0, time.0, ← p.2)
    (refl, p.3, time.1)

level_again : (k : ℕ) (name : List ℕ) (t : ℕ) → IsShort k → IsName name → IsShort t
    → level_in k (level_words k name t) ≡ Some (name, t)
level_again k name t short named brief =
    let is : is_name name ≡ true = named in
    rw (number_again k short, number_again t brief, eq-eqb k k refl, is) refl

level_plain : (k : ℕ) (name : List ℕ) (t : ℕ) → IsShort k → IsName name → IsShort t
    → IsLine (level_words k name t)
level_plain k name t short named brief = record {
  some = omega arith;
  plain = (
    name_word (codes "level") refl,
    (
      number_word k short,
      (
        name_word name named,
        (
          number_word t
              brief,
          tt,
        ),
      ),
    ),
  );
}

level_text_is : (k : ℕ) (l : CertLevelData) (rest : List ℕ) → level_text k l ++ rest
    ≡ line_of (level_words k l.name l.time) ++ 10 ∷ (fail_lines (codes "fails") l.fails ++ rest)
level_text_is k l rest = simp append_assoc

module _ (v : CertVersion) where
  -- ---- the failures of a level
  -- no line of a failure comes first
  abbrev pub BeginsNoFailure : List ℕ → Type 0
  BeginsNoFailure rest = BeginsNone (fail_in v (codes "fails")) (fail_line (codes "fails"))
      (IsFailText v) rest

  pub no_failure : {ws : List (List ℕ)} (text rest : List ℕ) → IsLine ws
      → text ≡ line_of ws ++ 10 ∷ rest → fail_in v (codes "fails") ws ≡ None
      → BeginsNoFailure text
  no_failure text rest line e none = front_none (fail_in v (codes "fails"))
      (fail_line (codes "fails")) (IsFailText v) text rest line e none

  fail_spelled : (f : Fail) → IsFailText v f
      → IsSpelled (fail_in v (codes "fails")) (fail_line (codes "fails")) f
  fail_spelled f fits = record {
    words = fail_words (codes "fails") f;
    plain = fail_plain v (codes "fails") f (name_word (codes "fails") refl) fits;
    is = λ rest. fail_line_is v (codes "fails") f rest fits;
    again = fail_again v (codes "fails") f fits;
  }

  fail_taken : (l : List ℕ) (f : Fail) → fail_in v (codes "fails") (words l) ≡ Some f
      → ((rest : List ℕ) → l ++ 10 ∷ rest ≡ fail_line (codes "fails") f ++ rest) × IsFailText v f
  fail_taken l f is =
      let t = fail_takes v (codes "fails") (words l) f is in (
        λ rest. ap (λ (y : List ℕ). y ++ 10 ∷ rest) (words_take l _ t.0)
            ∙ sym (fail_line_is v (codes "fails") f rest t.1),
        t.1,
      )

  -- ---- a level
  pub read_takes : (k : ℕ) (a : At) (x : CertLevelData × At) → level_read v k a ≡ Ok x
      → (left a ≡ level_text k x.0 ++ left x.1) × IsLevelText v x.0
  unfolding level_read
  read_takes k a x e =
      let l = bind_ok _ _ x e in
      let h = bind_ok _ _ x l.2 in
      let t = level_takes k (words l.0.0) h.0 (wanted_ok _ _ _ h.1) in
      let f = front_take (fail_in v (codes "fails")) (fail_line (codes "fails")) (IsFailText v)
      fail_taken l.0.1.parts l.0.1.line in
      let fails : List Fail × At = fails_from v l.0.1.parts l.0.1.line in
      let made : CertLevelData = record { name = h.0.0; time = h.0.1; fails = fails.0 } in
      let whole : left a ≡ level_text k made ++ left fails.1 =
      line_takes a.parts a.line l.0 l.1
      ∙ ap (λ (y : List ℕ). y ++ 10 ∷ left l.0.1) (words_take l.0.0 _ t.0)
      ∙ ap (λ (y : List ℕ). line_of (level_words k h.0.0 h.0.1) ++ 10 ∷ y) f.0
      ∙ sym (level_text_is k made (left fails.1)) in
      let both : CertLevelData × At = (made, fails.1) in
      let same : both ≡ x = ok_is both x h.2 in
      rw (← same) (whole, record { name = t.1; short = t.2; fails = f.1 })

  pub read_again : (k : ℕ) (l : CertLevelData) (rest : List ℕ) (n : ℕ) → IsShort k
      → IsLevelText v l → BeginsNoFailure rest → Reads (level_read v k) (level_text k l) l rest n
  unfolding level_read
  read_again k l rest n short fits none =
      let plain = level_plain k l.name l.time short fits.name fits.short in
      let fails = front_again (fail_in v (codes "fails")) (fail_line (codes "fails")) (IsFailText v)
      fail_spelled l.fails rest (n + 1) fits.fails none in
      let line = line_again (level_text k l ++ rest) _ n plain (level_text_is k l rest) in
      record {
        next = fails.0;
        is = rw (
          line,
          words_again plain,
          level_again k l.name l.time short fits.name fits.short,
          fails.1,
        ) refl;
      }

  pub begins_none : (k : ℕ) (l : CertLevelData) (rest : List ℕ) → IsShort k → IsLevelText v l
      → BeginsNoFailure (level_text k l ++ rest)
  unfolding fail_in
  begins_none k l rest short fits = no_failure (level_text k l ++ rest)
      (fail_lines (codes "fails") l.fails ++ rest)
      (level_plain k l.name l.time short fits.name fits.short) (level_text_is k l rest) refl
