use Rattle.std.proofs.Common.{◌≡◌, ◌∙◌, ◌++◌, ℕ, List, [], ap, append-nil, append_assoc, codes, string_bytes, sym}
use Rattle.std.specs.List.{flat_map}
use Rattle.std.specs.Str.{chars}
use Rattle.std.specs.Str.Iter.{chars_rest}
use Rattle.std.proofs.lemmas.List.{nil_from_length}
use Rattle.std.proofs.lemmas.Str.{IsUtf8-past_char, chars-nil, chars_past_char}
use Rattle.picture.specs.Titles.{shown_char}
use Rattle.picture.proofs.title.put_title_tail.Goals as goal

pub loop-letter-preserved : goal.loop-letter-preserved
loop-letter-preserved c =
    let was = chars_rest c.loop-letter.letter-iterator in
    let is = chars_rest c.next.new.self in
    let step = c.in-Some.ensures.steps.0 in
    let letter = c.in-Some.letter in
    let text = string_bytes c.loop-letter.text in (
      IsUtf8-past_char was is letter c.loop-letter.invariant.0 step,
      ap (λ (l : List ℕ). l ++ flat_map shown_char (chars is)) c.in_ok-put_char.ensures
          ∙ append_assoc text (shown_char letter) (flat_map shown_char (chars is))
          ∙ ap (λ (l : List ℕ). text ++ flat_map shown_char l)
          (sym (chars_past_char was is letter c.loop-letter.invariant.0 step))
          ∙ c.loop-letter.invariant.1,
    )

pub returns : goal.returns
returns c =
    let rest = chars_rest c.loop-letter.letter-iterator in
    let text = string_bytes c.loop-letter.text in
    let none : rest ≡ [] = nil_from_length rest c.in-None.ensures.steps.0.0 in
    let ends : text ++ flat_map shown_char (chars rest) ≡ text =
    rw none (rw chars-nil (append-nil text)) in
    rw (← c.is_empty.ensures, c.if-is_empty.false) (sym ends ∙ c.loop-letter.invariant.1
    ∙ append_assoc (string_bytes c.args.text.now) (codes " - ")
    (flat_map shown_char (chars c.args.title.now)))
