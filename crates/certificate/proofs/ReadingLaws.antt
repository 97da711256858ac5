-- A whole certificate: what is read is spelled so, and what is spelled so is read.
use Rattle.std.proofs.Common.{◌≡◌, ℕ, ◌+◌, ◌<◌, ◌≤◌, ◌==◌, Bool, true, false, cond, List, [], ◌∷◌}
use Rattle.std.proofs.Common.{◌++◌, length, Option, Some, None, Result, Ok, Err, refl, sym, ap, ◌∙◌}
use Rattle.std.proofs.Common.{subst, append_assoc, arith}
use Rattle.std.specs.Prelude.{bytes_eq, codes}
use Rattle.std.specs.List.{AllByRecursion}
use Rattle.std.proofs.lemmas.Bool.Decides.{nat_tests}
use Rattle.std.proofs.lemmas.Fmt.{decimal_digit}
use Rattle.std.proofs.lemmas.Option.{same_Some}
use Rattle.std.proofs.lemmas.Slice.Eq.{bytes_eq-Decides}
use Rattle.std.proofs.lemmas.List.{append-nil}
use Rattle.std.proofs.lemmas.List.Splits.{join_with_byte-slice_split}
use Rattle.certificate.specs.declared.value.CertChain.{CertChain}
use Rattle.certificate.specs.declared.version.CertVersion.{CertVersion}
use Rattle.certificate.specs.declared.version.CertVersion.TheVariants.{First, Second, Fourth, Fifth}
use Rattle.certificate.specs.Body.{Fail, CertLevelData, IsFailText, IsLevelText, IsBodyText}
use Rattle.certificate.specs.Body.{HasSpelling, Body, Best, NoOrder, Cert, may_chain}
use Rattle.certificate.specs.Spelling.{fail_line, fail_lines, count_line, head_text, level_spelling}
use Rattle.certificate.specs.Spelling.{level_spellings, body_text, chain_lines, spelling}
use Rattle.lines.specs.TextLines.{parts}
use Rattle.lines.specs.Words.{words}
use Rattle.lines.specs.Steps.{◌>>=◌}
use Rattle.certificate.specs.CertificateLines.{At, items_at, certificate_in, count_in, member_at, level_read}
use Rattle.certificate.specs.CertificateLines.{body_case, body_at, chains_from, version_in, versioned, Gives}
use Rattle.certificate.specs.declared.fault.CertFault.{CertFault}
use Rattle.certificate.specs.declared.fault.CertFault.TheVariants.{Trailing}
use Rattle.certificate.proofs.WordLaws.{IsWord, name_word, number_word, line_of, IsLine}
use Rattle.certificate.proofs.WordLaws.{words_again}
use Rattle.certificate.proofs.LineLaws.{left, bind_ok, ok_is, line_takes, line_again, Reads, texts}
use Rattle.certificate.proofs.LineLaws.{items_take, items_again, count_takes, count_plain}
use Rattle.certificate.proofs.LineLaws.{count_again, end_takes, end_again, closed}
use Rattle.certificate.proofs.LineLaws.{closed_bind}
use Rattle.certificate.proofs.MemberLaws.{member_takes, member_again}
use Rattle.certificate.proofs.ChainLaws.{chains_take, chains_again, no_failure_first}
use Rattle.certificate.proofs.LevelLaws.{level_text, BeginsNoFailure, read_takes}
use Rattle.certificate.proofs.LevelLaws.{read_again, begins_none}

-- what stands between the first line and the last one, by how it is read
module _ (v : CertVersion) where
  member_lines : (k : ℕ) (fs : List Fail)
      → texts (λ k. member_at v) (λ k f. fail_line (codes "member") f) (IsFailText v) k fs
      ≡ fail_lines (codes "member") fs
  member_lines k [] = refl
  member_lines k (f ∷ fs) =
      ap (λ (y : List ℕ). fail_line (codes "member") f ++ y) (member_lines (k + 1) fs)

  level_lines : (k : ℕ) (ls : List CertLevelData)
      → texts (level_read v) level_text (IsLevelText v) k ls ≡ level_spellings k ls
  level_lines k [] = refl
  level_lines k (l ∷ ls) = ap (λ (y : List ℕ). level_text k l ++ y) (level_lines (k + 1) ls)
      ∙ append_assoc (level_spelling k l) (fail_lines (codes "fails") l.fails)
      (level_spellings (k + 1) ls)

  -- a line with a count, and as many items
  module _ {X : Type 0} (word : List ℕ) (item : ℕ → At → Result (X × At) CertFault)
      (text : ℕ → X → List ℕ) (Fits : X → Type 0) (body : List X → Body) (lines : List X → List ℕ)
      (lines_are : (xs : List X) → texts item text Fits 1 xs ≡ lines xs)
      (texts_are : (xs : List X) → body_text (body xs) ≡ count_line word (length xs) ++ lines xs)
      (fits_is : (xs : List X) → length xs ≤ 32 → AllByRecursion Fits xs → IsBodyText v (body xs))
    where
      counted_takes : (takes : (k : ℕ) (a : At) (x : X × At) → item k a ≡ Ok x
          → (left a ≡ text k x.0 ++ left x.1) × Fits x.0)
          (second : List ℕ) (n : ℕ) (a : At) (x : Body × At) → count_in word (words second) ≡ Some n
          → (items_at item n 1 a >>= λ xs. Ok (body xs.0, xs.1)) ≡ Ok x
          → (second ++ 10 ∷ left a ≡ body_text x.0 ++ left x.1) × IsBodyText v x.0
      counted_takes takes second n a x number e =
          let count = count_takes word second n number in
          let r = bind_ok _ _ x e in
          let t = items_take item text Fits takes n 1 a r.0 r.1 in
          let whole : second ++ 10 ∷ left a ≡ body_text (body r.0.0) ++ left r.0.1 =
          rw (count.0, texts_are r.0.0, t.1, t.0, lines_are r.0.0) (simp append_assoc) in
          let made : Body × At = (body r.0.0, r.0.1) in
          let same : made ≡ x = ok_is made x r.2 in
          rw (← same) (whole, fits_is r.0.0 (omega (arith, t.1, count.1)) t.2)

  case_takes : (second : List ℕ) (o p : Option ℕ) (a : At) (x : Body × At) → count_in (codes "best")
      (words second) ≡ o → count_in (codes "none") (words second) ≡ p → body_case v o p a ≡ Ok x
      → (second ++ 10 ∷ left a ≡ body_text x.0 ++ left x.1) × IsBodyText v x.0
  case_takes second (Some n) p a x best none e =
      counted_takes (codes "best") (level_read v) level_text (IsLevelText v) Best
      (level_spellings 1) (level_lines 1) (λ ls. refl) (λ ls few fits. (few, fits)) (read_takes v)
      second n a x best e
  case_takes second None (Some n) a x best none e =
      counted_takes (codes "none") (λ k. member_at v) (λ k f. fail_line (codes "member") f)
      (IsFailText v) NoOrder (fail_lines (codes "member")) (member_lines 1) (λ ms. refl)
      (λ ms few fits. (few, fits)) (member_takes v) second n a x none e
  case_takes second None None a x best none e = absurd cc

  body_takes : (a : At) (x : Body × At) → body_at v a ≡ Ok x
      → (left a ≡ body_text x.0 ++ left x.1) × IsBodyText v x.0
  unfolding body_at
  body_takes a x e =
      let s = bind_ok _ _ x e in
      let t = case_takes s.0.0 _ _ s.0.1 x refl refl s.2 in
      (line_takes a.parts a.line s.0 s.1 ∙ t.0, t.1)

  body_again : (b : Body) (rest : List ℕ) (n : ℕ) → IsBodyText v b → BeginsNoFailure v rest
      → Reads (body_at v) (body_text b) b rest n
  unfolding body_at
  body_again (Best ls) rest n fits none =
      let plain = count_plain (codes "best") (length ls) refl fits.0 in
      let line = line_again (body_text (Best ls) ++ rest) (level_spellings 1 ls ++ rest) n plain
      (simp append_assoc) in
      let levels = rw (level_lines 1 ls) at (items_again (level_read v) level_text (IsLevelText v)
      (BeginsNoFailure v) (begins_none v) (read_again v) ls 1 rest (n + 1)
      (omega (arith, fits.0)) fits.1 none) in record {
        next = levels.next;
        is = rw (
          line,
          words_again plain,
          count_again (codes "best") (length ls) fits.0,
          levels.is,
        ) refl;
      }
  body_again (NoOrder ms) rest n fits none =
      let plain = count_plain (codes "none") (length ms) refl fits.0 in
      let line =
      line_again (body_text (NoOrder ms) ++ rest) (fail_lines (codes "member") ms ++ rest)
      n plain (simp append_assoc) in
      let members = rw (member_lines 1 ms) at (items_again (λ k. member_at v)
      (λ k f. fail_line (codes "member") f) (IsFailText v) (λ text. Unit {0})
      (λ k f after short fit. tt) (λ k f after m short fit _. member_again v k f after m fit) ms 1
      rest (n + 1) (omega (arith, fits.0)) fits.1 tt) in record {
        next = members.next;
        is = rw (
          line,
          words_again plain,
          count_again (codes "none") (length ms) fits.0,
          members.is,
        ) refl;
      }

-- ---- the first line
version_takes : (head : List ℕ) (v : CertVersion) → version_in head ≡ Some v → head ≡ head_text v
version_takes head v = by First _ (by Second _ (by Fourth _ (by Fifth None (λ e. absurd cc))))
  where
    by : (u : CertVersion) (o : Option CertVersion) → (o ≡ Some v → head ≡ head_text v)
        → cond (bytes_eq head (head_text u)) (Some u) o ≡ Some v → head ≡ head_text v
    by u o others = one (bytes_eq head (head_text u)) refl
      where
        one : (b : Bool) → bytes_eq head (head_text u) ≡ b → cond b (Some u) o ≡ Some v
            → head ≡ head_text v
        one true is e =
            (bytes_eq-Decides head (head_text u)).0 is ∙ ap head_text (same_Some u v e)
        one false is e = others e

-- the words of a first line
abbrev head_words : CertVersion → List (List ℕ)
head_words First = codes "desk-certificate" ∷ codes "1" ∷ []
head_words Second = codes "desk-certificate" ∷ codes "2" ∷ []
head_words Fourth = codes "desk-certificate" ∷ codes "4" ∷ []
head_words Fifth = codes "desk-certificate" ∷ codes "5" ∷ []

digit_plain : (d : ℕ) → d < 10 → IsLine (codes "desk-certificate" ∷ ((48 + d) ∷ []) ∷ [])
digit_plain d few = record {
  some = omega arith;
  plain = (
    name_word (codes "desk-certificate") refl,
    (subst IsWord (decimal_digit d few) (number_word d (omega arith)), tt),
  );
}

head_plain : (v : CertVersion) → IsLine (head_words v)
head_plain First = digit_plain 1 (omega arith)
head_plain Second = digit_plain 2 (omega arith)
head_plain Fourth = digit_plain 4 (omega arith)
head_plain Fifth = digit_plain 5 (omega arith)

head_again : (v : CertVersion) → (head_text v ≡ line_of (head_words v))
    × (version_in (line_of (head_words v)) ≡ Some v)
head_again First = (refl, refl)
head_again Second = (refl, refl)
head_again Fourth = (refl, refl)
head_again Fifth = (refl, refl)

-- ---- a certificate
versioned_takes : (o : Option CertVersion) (a : At) (c : Cert) → versioned o a ≡ Ok c
    → (o ≡ Some c.version) × (left a ≡ body_text c.body ++ (chain_lines c.chains ++ codes "end\n"))
    × HasSpelling c
versioned_takes None a c e = absurd cc
versioned_takes (Some v) a c e =
    let b = bind_ok _ _ c e in
    let o = bind_ok _ _ c b.2 in
    let t = body_takes v a b.0 b.1 in
    let may = may_chain v b.0.0 in
    let said : List CertChain × At = chains_from may b.0.1.parts b.0.1.line in
    let chains = chains_take may b.0.1.parts b.0.1.line in
    let made : Cert = record { version = v; body = b.0.0; chains = said.0 } in
    let whole : left a ≡ body_text b.0.0 ++ (chain_lines said.0 ++ codes "end\n") =
    t.0 ∙ ap (λ (y : List ℕ). body_text b.0.0 ++ y)
    (chains.0 ∙ ap (λ (y : List ℕ). chain_lines said.0 ++ y) (end_takes said.1 o.1)) in
    let fits : HasSpelling made = record { body = t.1; chains = chains.1 } in
    let same : made ≡ c = ok_is made c o.2 in
    rw (← same) (refl, whole, fits)

pub certificate_takes : (bytes : List ℕ) (c : Cert) → certificate_in bytes ≡ Ok c
    → (bytes ≡ spelling c) × HasSpelling c
unfolding certificate_in
certificate_takes bytes c e =
    let h = bind_ok _ _ c e in
    let t = versioned_takes (version_in h.0.0) h.0.1 c h.2 in (
      sym (join_with_byte-slice_split 10 bytes)
          ∙ line_takes (parts bytes) 1 h.0 h.1
          ∙ ap (λ (y : List ℕ). y ++ 10 ∷ left h.0.1) (version_takes h.0.0 c.version t.0)
          ∙ ap (λ (y : List ℕ). head_text c.version ++ 10 ∷ y) t.1
          ∙ simp append_assoc,
      t.2,
    )

-- a spelling and what follows it: the certificate where nothing follows, else the bytes that trail
certificate_again : (c : Cert) (rest : List ℕ) → HasSpelling c
    → certificate_in (spelling c ++ rest) ≡ closed (length rest == 0) c
unfolding certificate_in
certificate_again c rest fits =
    let may = may_chain c.version c.body in
    let behind : List ℕ = chain_lines c.chains ++ (codes "end\n" ++ rest) in
    let head = line_again (spelling c ++ rest) (body_text c.body ++ behind) 1 (head_plain c.version)
    (rw (← (head_again c.version).0) (simp append_assoc)) in
    let none = no_failure_first c.version may c.chains rest fits.chains in
    let body = body_again c.version c.body behind 2 fits.body none in
    let chains = chains_again may c.chains rest body.next fits.chains in
    rw (head, (head_again c.version).1, body.is, chains.1, end_again rest chains.0)
    (closed_bind (length rest == 0) tt c)

pub reads_back : (b : Cert) → HasSpelling b → certificate_in (spelling b) ≡ Ok b
reads_back b fits = ap certificate_in (sym (append-nil (spelling b))) ∙ certificate_again b [] fits

some_left : (x : ℕ) (xs : List ℕ) → (length (x ∷ xs) == 0) ≡ false
some_left x xs = grind (arith, nat_tests)

pub trails : (b : Cert) (x : ℕ) (rest : List ℕ) → HasSpelling b
    → certificate_in (spelling b ++ x ∷ rest) ≡ Err Trailing
trails b x rest fits = certificate_again b (x ∷ rest) fits ∙ rw (some_left x rest) refl

pub no_prefix : (b c : Cert) (rest : List ℕ) → HasSpelling b → HasSpelling c
    → spelling c ≡ spelling b ++ rest → (rest ≡ []) × (b ≡ c)
no_prefix b c [] first second e = (
  refl,
  ok_is b c
      (sym (certificate_again b [] first) ∙ ap certificate_in (sym e) ∙ reads_back c second),
)
no_prefix b c (x ∷ xs) first second e =
    let same : Err Trailing ≡ Ok c =
    sym (trails b x xs first) ∙ ap certificate_in (sym e) ∙ reads_back c second in
    absurd cc

-- what a call answered is what reading the spelling gives
pub only_read : {X : Type 0} (view : X → Cert) (bytes : List ℕ) (r : Result X CertFault) (c : Cert)
    → Gives view r (certificate_in bytes) → HasSpelling c → bytes ≡ spelling c → Gives view r (Ok c)
only_read view bytes r c given fits e =
    subst (Gives view r) (ap certificate_in e ∙ reads_back c fits) given
