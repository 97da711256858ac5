-- Reading one after the other, as a loop does.
use Rattle.std.proofs.Common.{◌≡◌, ℕ, suc, ◌-◌, ◌+◌, ◌≤◌, ◌<◌, ◌==◌, Bool, true, false, cond, ◌&&◌}
use Rattle.std.proofs.Common.{List, [], ◌∷◌, ◌++◌, length, Option, Some, None, Result, Ok, Err}
use Rattle.std.proofs.Common.{refl, sym, ap, ◌∙◌, append_assoc, arith}
use Rattle.std.specs.Prelude.{bytes_eq, IsTrue}
use Rattle.std.proofs.lemmas.List.{append-nil}
use Rattle.std.proofs.lemmas.List.Splits.{join_with_byte-slice_split}
use Rattle.task_sheet.specs.Name.{is_name}
use Rattle.lines.specs.TextLines.{parts}
use Rattle.lines.specs.Steps.{◌>>=◌}
use Rattle.lines.specs.Words.{words}
use Rattle.lines.proofs.Parts.{words_some}
use Rattle.certificate.specs.Words as options
use Rattle.certificate.specs.Words.{numbers_before, reason_in, fail_in}
use Rattle.certificate.specs.CertificateLines.{At, Fails, line_from, is_at_end, items_at}
use Rattle.certificate.specs.CertificateLines.{front_case, front_from}
use Rattle.certificate.specs.declared.version.CertVersion.{CertVersion}
use Rattle.certificate.specs.declared.fault.CertFault.{CertFault}
use Rattle.certificate.specs.declared.fault.CertFault.TheVariants.{OutOfMemory}

pub some_first : {X : Type 0} (xs : List X) → 0 < length xs
    → (y : X) × (ys : List X) × (xs ≡ y ∷ ys)
some_first [] some = absurd (omega arith)
some_first (y ∷ ys) some = (y, ys, refl)

-- ---- numbers
pub before-bind : (front : List ℕ) (n : ℕ) (o : Option (List ℕ))
    → numbers_before front (options.◌>>=◌ o (λ ns. Some (n ∷ ns)))
    ≡ numbers_before (front ++ n ∷ []) o
before-bind front n None = refl
before-bind front n (Some ns) = ap (λ (x : List ℕ). Some x) (simp append_assoc)

-- ---- the words of a failure
pub false_from_not : (b : Bool) → ¬ IsTrue b → b ≡ false
false_from_not true h = absurd (h refl)
false_from_not false h = refl

pub fail_at : (v : CertVersion) (word w name : List ℕ) (ns : List (List ℕ)) → 0 < length ns
    → fail_in v word (w ∷ name ∷ ns) ≡ cond (bytes_eq w word && is_name name)
    (options.◌>>=◌ (reason_in v ns) (λ reason. Some (record { name = name; reason = reason }))) None
unfolding fail_in
fail_at v word w name ns some = rw (some_first ns some).2 refl

-- of a line that was cut twice
pub fail_is : (v : CertVersion) (word line w r name rest : List ℕ) → words line ≡ w ∷ words r
    → words r ≡ name ∷ words rest → fail_in v word (words line)
    ≡ cond (bytes_eq w word && is_name name) (options.◌>>=◌ (reason_in v (words rest))
    (λ reason. Some (record { name = name; reason = reason }))) None
fail_is v word line w r name rest one two =
    rw (one, two) (fail_at v word w name (words rest) (words_some rest))

-- ---- lines
pub line_is : (l : List ℕ) (xs : List (List ℕ)) (n : ℕ) → 0 < length xs
    → line_from (l ∷ xs) n ≡ Ok (l, record { parts = xs; line = n + 1 })
unfolding line_from
line_is l xs n some = rw (some_first xs some).2 refl

pub over_is : (bytes : List ℕ) → is_at_end (parts bytes) ≡ (length bytes == 0)
over_is bytes = ap (λ (x : List ℕ). length x == 0) (join_with_byte-slice_split 10 bytes)

pub front_line : {X : Type 0} (item : List (List ℕ) → Option X) (l : List ℕ) (xs : List (List ℕ))
    (n : ℕ) → 0 < length xs → front_from item (l ∷ xs) n
    ≡ front_case (item (words l)) (record { parts = l ∷ xs; line = n }) (front_from item xs (n + 1))
unfolding front_from
front_line item l xs n some = rw (some_first xs some).2 refl

-- items, and then others
abbrev pub onto : {X : Type 0} → List X → List X × At → List X × At
onto front x = (front ++ x.0, x.1)

-- ---- items
-- what was read before, and what is still read
abbrev pub with_front : {X : Type 0} → List X → Result (List X × At) CertFault
    → Result (List X × At) CertFault
with_front front read = read >>= λ x. Ok (front ++ x.0, x.1)

with_front-bind : {X : Type 0} (front : List X) (n : X) (read : Result (List X × At) CertFault)
    → with_front front (read >>= λ x. Ok (n ∷ x.0, x.1)) ≡ with_front (front ++ n ∷ []) read
with_front-bind {X} front n (Ok x) = ap (λ (ns : List X). Ok (ns, x.1)) (simp append_assoc)
with_front-bind front n (Err f) = refl

Fails-bind : {A B : Type 0} (e : CertFault) (r : Result A CertFault) (f : A → Result B CertFault)
    → Fails e r → Fails e (r >>= f)
Fails-bind OutOfMemory r f h = tt
Fails-bind e r f h = rw h refl

-- the first i of some items were read: with those that are still read they are what is read in all
pub record IsRead {X : Type 0} (item : ℕ → At → Result (X × At) CertFault) (count i : ℕ) (at : At)
    (front : List X) (total : Result (List X × At) CertFault) : Type 0 where
  pub so_far : with_front front (items_at item (count - i) (i + 1) at) ≡ total

module _ {X : Type 0} {item : ℕ → At → Result (X × At) CertFault} {count i : ℕ} {at : At}
    {front : List X} {total : Result (List X × At) CertFault}
    (read : IsRead item count i at front total) where
  one_more : i < count → with_front front (item (i + 1) at
      >>= λ x. items_at item (count - (i + 1)) (i + 1 + 1) x.1
      >>= λ xs. Ok (x.0 ∷ xs.0, xs.1)) ≡ total
  unfolding items_at
  one_more lt = let k : count - i ≡ suc (count - (i + 1)) = omega arith in rw k at read.so_far

  pub IsRead-next : (x : X) (after : At) → i < count → item (i + 1) at ≡ Ok (x, after)
      → IsRead item count (i + 1) after (front ++ x ∷ []) total
  IsRead-next x after lt is = record {
    so_far = sym (with_front-bind front x (items_at item (count - (i + 1)) (i + 1 + 1) after))
        ∙ rw is at (one_more lt);
  }

  pub IsRead-stops : (e : CertFault) → i < count → Fails e (item (i + 1) at) → Fails e total
  IsRead-stops e lt stops = rw (← one_more lt) (Fails-bind e _ _ (Fails-bind e _ _ stops))

  pub IsRead-all : count ≤ i → total ≡ Ok (front, at)
  unfolding items_at
  IsRead-all le =
      let k : count - i ≡ 0 = omega arith in
      sym (rw (k, append-nil) at read.so_far)
