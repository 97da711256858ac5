use Rattle.std.proofs.Common.{◌≡◌, List, ℕ, [], ◌∷◌, length, true, arith, refl}
use Rattle.std.specs.Prelude.{◌&&◌, nat_lt, nat_le, slice_index}
use Rattle.std.proofs.lemmas.Bool.{and_parts, and_from}
use Rattle.std.specs.List.{list_all}
use Rattle.task_sheet.specs.Name.{is_name_byte, is_letter}
use Rattle.picture.specs.Laws.{is_plain}
use Rattle.picture.proofs.laws.names_are_plain.Goals as goal

byte_plain : (c : ℕ) → is_name_byte c ≡ true → is_plain c ≡ true
byte_plain c h = grind arith

bytes_plain : (text : List ℕ) → list_all is_name_byte text ≡ true → list_all is_plain text ≡ true
bytes_plain [] h = refl
bytes_plain (c ∷ text) h =
    let both = and_parts (is_name_byte c) (list_all is_name_byte text) h in
    and_from (is_plain c) (list_all is_plain text) (byte_plain c both.0) (bytes_plain text both.1)

pub returns : goal.returns
returns c = λ name named.
    bytes_plain name (and_parts (nat_lt 0 (length name) && nat_le (length name) 24
    && is_letter (slice_index name 0)) (list_all is_name_byte name) named).1
