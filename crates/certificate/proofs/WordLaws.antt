-- Words, the lines that they make, and numbers as words.
use Rattle.std.proofs.Common.{◌≡◌, ℕ, ◌<◌, Bool, false, true, cond, List, [], ◌∷◌, ◌++◌}
use Rattle.std.proofs.Common.{length, map, Option, Some, None, refl, sym, ap, ap₂, ◌∙◌, arith}
use Rattle.std.specs.List.{AllByRecursion, join_with_byte}
use Rattle.std.specs.Fmt.{decimal}
use Rattle.std.proofs.lemmas.List.Splits.{join_with_byte-slice_split}
use Rattle.std.proofs.lemmas.Option.{same_Some}
use Rattle.task_sheet.specs.Name.{IsName}
use Rattle.certificate.specs.Body.{IsShort}
use Rattle.lines.specs.TextLines.{parts}
use Rattle.lines.specs.Words.{words}
use Rattle.certificate.specs.Words.{◌>>=◌, numbers_in}
use Rattle.lines.proofs.Lacks.{Lacks, cut_at, joined_again, joined_lacks, name_lacks, number_lacks}
use Rattle.lines.proofs.NumberLaws.{number_again, number_takes}

-- neither a space nor the end of a line stands in the word
pub record IsWord (w : List ℕ) : Type 0 where
  pub spaceless : Lacks 32 w
  pub endless : Lacks 10 w

pub number_word : (n : ℕ) → IsShort n → IsWord (decimal n)
number_word n short = record {
  spaceless = number_lacks 32 n refl (omega arith);
  endless = number_lacks 10 n refl (omega arith);
}

pub name_word : (name : List ℕ) → IsName name → IsWord name
name_word name named = record {
  spaceless = name_lacks 32 name refl named;
  endless = name_lacks 10 name refl named;
}

-- words with a space between them
abbrev pub line_of : List (List ℕ) → List ℕ
line_of ws = join_with_byte 32 ws

pub words_take : (line : List ℕ) (ws : List (List ℕ)) → words line ≡ ws → line ≡ line_of ws
words_take line ws e = sym (join_with_byte-slice_split 32 line) ∙ ap line_of e

-- there are words
pub record IsLine (ws : List (List ℕ)) : Type 0 where
  pub some : 0 < length ws
  pub plain : AllByRecursion IsWord ws

each_lacks : (c : ℕ) → ((w : List ℕ) → IsWord w → Lacks c w) → (ws : List (List ℕ))
    → AllByRecursion IsWord ws → AllByRecursion (λ w. Lacks c w) ws
each_lacks c lacks [] plain = tt
each_lacks c lacks (w ∷ ws) plain = (lacks w plain.0, each_lacks c lacks ws plain.1)

pub words_again : {ws : List (List ℕ)} → IsLine ws → words (line_of ws) ≡ ws
words_again {ws = []} line = absurd (omega (arith, line.some))
words_again {ws = w ∷ ws} line = joined_again 32 w ws line.plain.0.spaceless
    (each_lacks 32 (λ v is. is.spaceless) ws line.plain.1)

-- a text that begins with a line
pub parts_again : {ws : List (List ℕ)} (text rest : List ℕ) → IsLine ws
    → text ≡ line_of ws ++ 10 ∷ rest → parts text ≡ line_of ws ∷ parts rest
parts_again {ws} text rest line e = ap parts e ∙ cut_at 10 (line_of ws) rest
    (joined_lacks 32 10 ws refl (each_lacks 10 (λ w is. is.endless) ws line.plain))

-- a test that let an option through
pub cond_given : {A : Type 0} (b : Bool) (x : Option A) (y : A) → cond b x None ≡ Some y
    → (b ≡ true) × (x ≡ Some y)
cond_given true x y e = (refl, e)
cond_given false x y e = absurd cc

pub bind_some : {A B : Type 0} (o : Option A) (f : A → Option B) (y : B) → (o >>= f) ≡ Some y
    → (x : A) × (o ≡ Some x) × (f x ≡ Some y)
bind_some (Some x) f y e = (x, refl, e)
bind_some None f y e = absurd cc

pub numbers_take : (ws : List (List ℕ)) (ns : List ℕ) → numbers_in ws ≡ Some ns
    → (ws ≡ map decimal ns) × AllByRecursion IsShort ns
unfolding numbers_in
numbers_take [] ns e = rw (← same_Some [] ns e) (refl, tt)
numbers_take (w ∷ ws) ns e =
    let a = bind_some _ _ ns e in
    let b = bind_some _ _ ns a.2 in
    let first = number_takes w a.0 a.1 in
    let others = numbers_take ws b.0 b.1 in
    rw (← same_Some (a.0 ∷ b.0) ns b.2)
    (ap₂ (λ (v : List ℕ) (vs : List (List ℕ)). v ∷ vs) first.0 others.0, (first.1, others.1))

pub numbers_again : (ns : List ℕ) → AllByRecursion IsShort ns
    → numbers_in (map decimal ns) ≡ Some ns
unfolding numbers_in
numbers_again [] short = refl
numbers_again (n ∷ ns) short = rw (number_again n short.0, numbers_again ns short.1) refl

pub numbers_plain : (ns : List ℕ) → AllByRecursion IsShort ns
    → AllByRecursion IsWord (map decimal ns)
numbers_plain [] short = tt
numbers_plain (n ∷ ns) short = (number_word n short.0, numbers_plain ns short.1)
