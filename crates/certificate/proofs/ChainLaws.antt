-- Lines of chains: what is read, and what is read of what is spelled.
use Rattle.std.proofs.Common.{◌≡◌, ℕ, Bool, true, false, List, [], ◌∷◌, ◌++◌, Option, Some, None}
use Rattle.std.proofs.Common.{refl, sym, ap, ◌∙◌, append_assoc, arith}
use Rattle.std.specs.Prelude.{codes}
use Rattle.std.specs.Fmt.{decimal}
use Rattle.std.specs.List.{AllByRecursion, join_with_byte}
use Rattle.std.proofs.lemmas.Bool.{and_parts}
use Rattle.std.proofs.lemmas.Slice.Eq.{bytes_eq-Decides}
use Rattle.task_sheet.specs.Name.{is_name, IsName}
use Rattle.lines.specs.TextLines.{parts}
use Rattle.lines.specs.Words.{words, number_in}
use Rattle.lines.proofs.NumberLaws.{number_takes, number_again}
use Rattle.certificate.specs.Body.{IsChainText, AreChainsText}
use Rattle.certificate.specs.declared.value.CertChain.{CertChain}
use Rattle.certificate.specs.declared.version.CertVersion.{CertVersion}
use Rattle.certificate.specs.Spelling.{chain_line, chain_lines}
use Rattle.certificate.specs.Words.{chain_named, chain_in, chain_if, fail_in}
use Rattle.certificate.specs.CertificateLines.{chains_from}
use Rattle.certificate.proofs.FrontLaws.{IsSpelled, BeginsNone, front_take, front_none, front_again}
use Rattle.certificate.proofs.LevelLaws.{BeginsNoFailure, no_failure}
use Rattle.certificate.proofs.LineLaws.{left, at_text, end_plain}
use Rattle.certificate.proofs.WordLaws.{IsLine, line_of, name_word, number_word, words_take, cond_given}

-- the words of a chain's line
abbrev chain_words : CertChain → List (List ℕ)
chain_words c = codes "chain" ∷ c.name ∷ decimal c.number ∷ []

chain_plain : (c : CertChain) → IsChainText c → IsLine (chain_words c)
chain_plain c fits = record {
  some = omega arith;
  plain = (
    name_word (codes "chain") refl,
    (name_word c.name fits.name, (number_word c.number fits.short, tt)),
  );
}

chain_line_is : (c : CertChain) (rest : List ℕ)
    → chain_line c ++ rest ≡ line_of (chain_words c) ++ 10 ∷ rest
chain_line_is c rest = simp append_assoc

chain_again : (c : CertChain) → IsChainText c → chain_in (chain_words c) ≡ Some c
chain_again c fits =
    let is : is_name c.name ≡ true = fits.name in
    rw (is, number_again c.number fits.short) refl

named_takes : (name : List ℕ) (o : Option ℕ) (c : CertChain) → chain_named name o ≡ Some c
    → (name ≡ c.name) × (o ≡ Some c.number)
named_takes name None c e = absurd cc
named_takes name (Some n) c e = (cc, cc)

chain_takes : (ws : List (List ℕ)) (c : CertChain) → chain_in ws ≡ Some c
    → (ws ≡ chain_words c) × IsChainText c
chain_takes [] c e = absurd cc
chain_takes (w ∷ []) c e = absurd cc
chain_takes (w ∷ name ∷ []) c e = absurd cc
chain_takes (w ∷ name ∷ n ∷ x ∷ xs) c e = absurd cc
chain_takes (w ∷ name ∷ n ∷ []) c e =
    let g = cond_given _ _ c e in
    let tests = and_parts _ _ g.0 in
    let is = named_takes name (number_in n) c g.1 in
    let number = number_takes n c.number is.1 in
    let named : IsName c.name = rw is.0 at tests.1 in
    rw ((bytes_eq-Decides w (codes "chain")).0 tests.0, is.0, number.0)
    (refl, record { name = named; short = number.1 })

-- ---- the chains of a certificate
chain_taken : (l : List ℕ) (c : CertChain) → chain_if true (words l) ≡ Some c
    → ((rest : List ℕ) → l ++ 10 ∷ rest ≡ chain_line c ++ rest) × IsChainText c
chain_taken l c is =
    let t = chain_takes (words l) c is in (
      λ rest. ap (λ (y : List ℕ). y ++ 10 ∷ rest) (words_take l _ t.0)
          ∙ sym (chain_line_is c rest),
      t.1,
    )

chain_spelled : (c : CertChain) → IsChainText c → IsSpelled (chain_if true) chain_line c
chain_spelled c fits = record {
  words = chain_words c;
  plain = chain_plain c fits;
  is = chain_line_is c;
  again = chain_again c fits;
}

none_taken : (l : List ℕ) (c : CertChain) → chain_if false (words l) ≡ Some c
    → ((rest : List ℕ) → l ++ 10 ∷ rest ≡ chain_line c ++ rest) × ⊥
none_taken l c is = absurd cc

none_left : (cs : List CertChain) → AllByRecursion (λ c. ⊥) cs → cs ≡ []
none_left [] none = refl
none_left (c ∷ cs) none = absurd none.0

-- what is read is spelled so, where chains may stand, and nothing else
pub chains_take : (may : Bool) (ps : List (List ℕ)) (n : ℕ)
    → (join_with_byte 10 ps ≡ chain_lines (chains_from may ps n).0 ++ left (chains_from may ps n).1)
    × AreChainsText may (chains_from may ps n).0
chains_take true ps n = front_take (chain_if true) chain_line IsChainText chain_taken ps n
chains_take false ps n =
    let t = front_take (chain_if false) chain_line (λ c. ⊥) none_taken ps n in
    (t.0, none_left (chains_from false ps n).0 t.1)

-- the line behind chains is none of a chain
end_none : (may : Bool) (rest : List ℕ)
    → BeginsNone (chain_if may) chain_line IsChainText (codes "end\n" ++ rest)
end_none may rest = front_none (chain_if may) chain_line IsChainText (codes "end\n" ++ rest) rest
    end_plain refl (by may)
  where
    by : (b : Bool) → chain_if b (codes "end" ∷ []) ≡ None
    by true = refl
    by false = refl

-- what is spelled is read
pub chains_again : (may : Bool) (cs : List CertChain) (rest : List ℕ) (n : ℕ) → AreChainsText may cs
    → (m : ℕ) × (chains_from may (parts (chain_lines cs ++ (codes "end\n" ++ rest))) n
    ≡ (cs, at_text (codes "end\n" ++ rest) m))
chains_again true cs rest n fits = front_again (chain_if true) chain_line IsChainText chain_spelled
    cs (codes "end\n" ++ rest) n fits (end_none true rest)
chains_again false [] rest n fits = (n, end_none false rest n)
chains_again false (c ∷ cs) rest n fits = absurd cc

-- no failure stands in front of chains and the end
pub no_failure_first : (v : CertVersion) (may : Bool) (cs : List CertChain) (rest : List ℕ)
    → AreChainsText may cs → BeginsNoFailure v (chain_lines cs ++ (codes "end\n" ++ rest))
unfolding fail_in
no_failure_first v may [] rest fits =
    no_failure v (codes "end\n" ++ rest) rest end_plain refl refl
no_failure_first v false (c ∷ cs) rest fits = absurd cc
no_failure_first v true (c ∷ cs) rest fits =
    let more : List ℕ = chain_lines cs ++ (codes "end\n" ++ rest) in
    no_failure v (chain_lines (c ∷ cs) ++ (codes "end\n" ++ rest)) more (chain_plain c fits.0)
    (append_assoc (chain_line c) (chain_lines cs) (codes "end\n" ++ rest) ∙ chain_line_is c more)
    refl
