-- Lines and items: what is read, and what is read of what is spelled.
use Rattle.std.proofs.Common.{◌≡◌, ℕ, zero, suc, ◌+◌, ◌^◌, ◌<◌, ◌≤◌, ◌==◌, Bool, true, false, cond}
use Rattle.std.proofs.Common.{List, [], ◌∷◌, ◌++◌, length, Option, Some, None, Result, Ok, Err}
use Rattle.std.proofs.Common.{refl, ap, ◌∙◌, append_assoc, arith}
use Rattle.std.specs.Prelude.{nat_le, codes}
use Rattle.std.specs.List.{AllByRecursion, join_with_byte}
use Rattle.std.specs.Fmt.{decimal}
use Rattle.std.proofs.lemmas.Bool.{le-leb, leb-true, eqb-true}
use Rattle.std.proofs.lemmas.Option.{cond_some}
use Rattle.std.proofs.lemmas.Slice.Eq.{bytes_eq-Decides}
use Rattle.std.proofs.lemmas.List.{nil_from_length}
use Rattle.task_sheet.specs.Name.{IsName}
use Rattle.certificate.specs.Body.{IsShort}
use Rattle.lines.specs.TextLines.{parts}
use Rattle.lines.specs.Words.{words, number_in}
use Rattle.lines.specs.Steps.{◌>>=◌}
use Rattle.certificate.specs.CertificateLines.{At, line_from, items_at, wanted, count_in, at_most_limit}
use Rattle.certificate.specs.CertificateLines.{end_at}
use Rattle.certificate.specs.declared.fault.CertFault.{CertFault}
use Rattle.certificate.specs.declared.fault.CertFault.TheVariants.{BadLine, Trailing}
use Rattle.lines.proofs.NumberLaws.{number_takes, number_again}
use Rattle.lines.proofs.Parts.{parts_some}
use Rattle.certificate.proofs.WordLaws.{name_word, number_word, line_of, words_take, IsLine}
use Rattle.certificate.proofs.WordLaws.{parts_again, cond_given}
use Rattle.certificate.proofs.Loops.{line_is, over_is}

-- the bytes that are left
abbrev pub left : At → List ℕ
left a = join_with_byte 10 a.parts

-- where a text is read from its line n on
abbrev pub at_text : List ℕ → ℕ → At
at_text text n = record { parts = parts text; line = n }

pub bind_ok : {A B : Type 0} (r : Result A CertFault) (f : A → Result B CertFault) (y : B)
    → (r >>= f) ≡ Ok y → (x : A) × (r ≡ Ok x) × (f x ≡ Ok y)
bind_ok (Ok x) f y e = (x, refl, e)
bind_ok (Err d) f y e = absurd cc

abbrev done : {A : Type 0} → A → Result A CertFault
done x = Ok x

pub ok_is : {A : Type 0} (x y : A) → done x ≡ done y → x ≡ y
ok_is x y e = cc

pub wanted_ok : {A : Type 0} (line : ℕ) (o : Option A) (y : A) → wanted line o ≡ Ok y → o ≡ Some y
wanted_ok line None y e = absurd cc
wanted_ok line (Some x) y e = cc

-- a line that is read, its end, and what is left
pub line_takes : (xs : List (List ℕ)) (n : ℕ) (x : List ℕ × At) → line_from xs n ≡ Ok x
    → join_with_byte 10 xs ≡ x.0 ++ 10 ∷ left x.1
unfolding line_from
line_takes [] n x e = absurd cc
line_takes (l ∷ []) n x e = absurd cc
line_takes (l ∷ m ∷ ms) n x e =
    rw (← ok_is (l, record { parts = m ∷ ms; line = n + 1 }) x e) refl

pub line_again : {ws : List (List ℕ)} (text rest : List ℕ) (n : ℕ) → IsLine ws
    → text ≡ line_of ws ++ 10 ∷ rest
    → line_from (parts text) n ≡ Ok (line_of ws, at_text rest (n + 1))
line_again {ws} text rest n line e = rw (parts_again text rest line e)
    (line_is (line_of ws) (parts rest) n (parts_some rest))

-- ---- items
-- the reader reads the item of its text, whatever follows
pub record Reads {X : Type 0} (reader : At → Result (X × At) CertFault) (text : List ℕ) (x : X)
    (rest : List ℕ) (n : ℕ) : Type 0 where
  pub next : ℕ
  pub is : reader (at_text (text ++ rest) n) ≡ Ok (x, at_text rest next)

module _ {X : Type 0} (item : ℕ → At → Result (X × At) CertFault) (text : ℕ → X → List ℕ)
    (Fits : X → Type 0) where
  -- the texts of items, the first of which has the number k
  abbrev pub texts : ℕ → List X → List ℕ
  texts k [] = []
  texts k (x ∷ xs) = text k x ++ texts (k + 1) xs

  pub items_take : ((k : ℕ) (a : At) (x : X × At) → item k a ≡ Ok x
      → (left a ≡ text k x.0 ++ left x.1) × Fits x.0)
      → (n k : ℕ) (a : At) (x : List X × At) → items_at item n k a ≡ Ok x
      → (left a ≡ texts k x.0 ++ left x.1) × (length x.0 ≡ n) × AllByRecursion Fits x.0
  unfolding items_at
  items_take one zero k a x e = rw (← ok_is ([], a) x e) (refl, refl, tt)
  items_take one (suc n) k a x e =
      let f = bind_ok _ _ x e in
      let o = bind_ok _ _ x f.2 in
      let here = one k a f.0 f.1 in
      let others = items_take one n (k + 1) f.0.1 o.0 o.1 in
      let whole : left a ≡ texts k (f.0.0 ∷ o.0.0) ++ left o.0.1 =
      here.0 ∙ rw others.0 (simp append_assoc) in
      rw (← ok_is (f.0.0 ∷ o.0.0, o.0.1) x o.2) (whole, ap suc others.1, (here.1, others.2))

  -- where each item may be followed by what one begins with
  pub items_again : (Follows : List ℕ → Type 0) → ((k : ℕ) (x : X) (rest : List ℕ) → IsShort k
      → Fits x → Follows (text k x ++ rest))
      → ((k : ℕ) (x : X) (rest : List ℕ) (n : ℕ) → IsShort k → Fits x → Follows rest
      → Reads (item k) (text k x) x rest n)
      → (xs : List X) (k : ℕ) (rest : List ℕ) (n : ℕ) → k + length xs < 10 ^ 10
      → AllByRecursion Fits xs → Follows rest
      → Reads (items_at item (length xs) k) (texts k xs) xs rest n
  unfolding items_at
  items_again Follows begins one [] k rest n few fits after = record { next = n; is = refl }
  items_again Follows begins one (x ∷ xs) k rest n few fits after =
      let more : List ℕ = texts (k + 1) xs ++ rest in
      let first = one k x more n (omega arith) fits.0 (follows (k + 1) xs (omega arith) fits.1) in
      let others =
      items_again Follows begins one xs (k + 1) rest first.next (omega arith) fits.1 after in
      record { next = others.next; is = rw (append_assoc, first.is, others.is) refl }
    where
      follows : (j : ℕ) (ys : List X) → j + length ys < 10 ^ 10 → AllByRecursion Fits ys
          → Follows (texts j ys ++ rest)
      follows j [] low each = after
      follows j (y ∷ ys) low each =
          rw append_assoc (begins j y (texts (j + 1) ys ++ rest) (omega arith) each.0)

-- ---- the line with the count
few_takes : (o : Option ℕ) (n : ℕ) → at_most_limit o ≡ Some n → (o ≡ Some n) × (n ≤ 32)
few_takes None n e = absurd cc
few_takes (Some m) n e =
    let g : (nat_le m 32 ≡ true) × (m ≡ n) = cond_some _ m n e in
    (ap (λ (x : ℕ). Some x) g.1, omega (arith, leb-true m 32 g.0, g.1))

count_in_takes : (word : List ℕ) (ws : List (List ℕ)) (n : ℕ) → count_in word ws ≡ Some n
    → (ws ≡ word ∷ decimal n ∷ []) × (n ≤ 32)
count_in_takes word [] n e = absurd cc
count_in_takes word (w ∷ []) n e = absurd cc
count_in_takes word (w ∷ m ∷ x ∷ xs) n e = absurd cc
count_in_takes word (w ∷ m ∷ []) n e =
    let g = cond_given _ _ n e in
    let f = few_takes (number_in m) n g.1 in
    let is = (bytes_eq-Decides w word).0 g.0 in
    let number = (number_takes m n f.0).0 in
    (cc, f.1)

pub count_takes : (word line : List ℕ) (n : ℕ) → count_in word (words line) ≡ Some n
    → (line ≡ line_of (word ∷ decimal n ∷ [])) × (n ≤ 32)
count_takes word line n e =
    let t = count_in_takes word (words line) n e in
    (words_take line _ t.0, t.1)

pub count_plain : (word : List ℕ) (n : ℕ) → IsName word → n ≤ 32
    → IsLine (word ∷ decimal n ∷ [])
count_plain word n named small = record {
  some = omega arith;
  plain = (name_word word named, (number_word n (omega arith), tt));
}

pub count_again : (word : List ℕ) (n : ℕ) → n ≤ 32
    → count_in word (word ∷ decimal n ∷ []) ≡ Some n
count_again word n small =
    rw ((bytes_eq-Decides word word).1 refl, number_again n (omega arith), le-leb n 32 small) refl

-- ---- the end
guard_end : (b c : Bool) (x y : Unit {0}) (line : ℕ)
    → cond b (cond c (Ok x) (Err Trailing)) (Err (BadLine line)) ≡ Ok y → (b ≡ true) × (c ≡ true)
guard_end true true x y line e = (refl, refl)
guard_end true false x y line e = absurd cc
guard_end false c x y line e = absurd cc

pub end_takes : (a : At) → end_at a ≡ Ok tt → left a ≡ codes "end\n"
unfolding end_at
end_takes a e =
    let l = bind_ok _ _ tt e in
    let g = guard_end _ _ tt tt a.line l.2 in
    let over : left l.0.1 ≡ [] =
    nil_from_length (left l.0.1) (eqb-true (length (left l.0.1)) 0 g.1) in
    line_takes a.parts a.line l.0 l.1
    ∙ rw (over, (bytes_eq-Decides l.0.0 (codes "end")).0 g.0) refl

pub end_plain : IsLine (codes "end" ∷ [])
end_plain = record { some = omega arith; plain = (name_word (codes "end") refl, tt) }

-- what is wanted, where nothing follows
abbrev pub closed : {A : Type 0} → Bool → A → Result A CertFault
closed over x = cond over (Ok x) (Err Trailing)

pub end_again : (rest : List ℕ) (n : ℕ)
    → end_at (at_text (codes "end\n" ++ rest) n) ≡ closed (length rest == 0) tt
unfolding end_at
end_again rest n = rw (
  line_again (codes "end\n" ++ rest) rest n end_plain refl,
  over_is rest,
) refl

pub closed_bind : {A B : Type 0} (over : Bool) (x : A) (y : B)
    → (closed over x >>= λ z. Ok y) ≡ closed over y
closed_bind true x y = refl
closed_bind false x y = refl
