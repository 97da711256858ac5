-- Members: what is read, and what is read of what is spelled.
use Rattle.std.proofs.Common.{◌≡◌, ℕ, ◌+◌, List, ◌∷◌, ◌++◌, Ok, refl, sym, ap, ◌∙◌}
use Rattle.std.specs.Prelude.{codes}
use Rattle.certificate.specs.Body.{Fail, IsFailText}
use Rattle.certificate.specs.Spelling.{fail_line}
use Rattle.lines.specs.Words.{words}
use Rattle.certificate.specs.CertificateLines.{At, member_at}
use Rattle.certificate.specs.declared.version.CertVersion.{CertVersion}
use Rattle.certificate.proofs.WordLaws.{name_word, words_take, words_again}
use Rattle.certificate.proofs.FailLaws.{fail_takes, fail_again, fail_plain, fail_line_is}
use Rattle.certificate.proofs.LineLaws.{left, bind_ok, ok_is, wanted_ok, line_takes, line_again}
use Rattle.certificate.proofs.LineLaws.{Reads}

module _ (v : CertVersion) where
  pub member_takes : (k : ℕ) (a : At) (x : Fail × At) → member_at v a ≡ Ok x
      → (left a ≡ fail_line (codes "member") x.0 ++ left x.1) × IsFailText v x.0
  unfolding member_at
  member_takes k a x e =
      let l = bind_ok _ _ x e in
      let f = bind_ok _ _ x l.2 in
      let t = fail_takes v (codes "member") (words l.0.0) f.0 (wanted_ok _ _ _ f.1) in
      let whole : left a ≡ fail_line (codes "member") f.0 ++ left l.0.1 =
      line_takes a.parts a.line l.0 l.1
      ∙ ap (λ (y : List ℕ). y ++ 10 ∷ left l.0.1) (words_take l.0.0 _ t.0)
      ∙ sym (fail_line_is v (codes "member") f.0 (left l.0.1) t.1) in
      let made : Fail × At = (f.0, l.0.1) in
      let same : made ≡ x = ok_is made x f.2 in
      rw (← same) (whole, t.1)

  pub member_again : (k : ℕ) (f : Fail) (rest : List ℕ) (n : ℕ) → IsFailText v f
      → Reads (member_at v) (fail_line (codes "member") f) f rest n
  unfolding member_at
  member_again k f rest n fits =
      let plain = fail_plain v (codes "member") f (name_word (codes "member") refl) fits in
      let line = line_again (fail_line (codes "member") f ++ rest) rest n plain
      (fail_line_is v (codes "member") f rest fits) in record {
        next = n + 1;
        is = rw (line, words_again plain, fail_again v (codes "member") f fits) refl;
      }
