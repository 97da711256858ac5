-- The title, behind what a picture says of its run.
use Rattle.std.specs.Prelude.{ℕ, ◌+◌, ◌-◌, ◌/◌, ◌||◌, nat_lt, ◌==◌, if◌then◌else◌, List, [], ◌∷◌, ◌++◌, length, flat_map, take, codes}
use Rattle.std.specs.Char.{encode_utf8}
use Rattle.std.specs.Str.{chars}
use Rattle.frames.specs.Frame.{Frame, frame_end}
use Rattle.picture.specs.declared.title.TheConstants.{CUT, LETTER}

-- a character as text has it: `&`, `<` and `>` by their names, and a space for a control character, and for U+FFFE and
-- U+FFFF, which no document of this kind has
abbrev pub shown_char : ℕ → List ℕ
shown_char c =
    if c == 38 then codes "&amp;" else if c == 60 then codes "&lt;" else if c == 62 then codes "&gt;"
    else if nat_lt c 32 || (c == 65534) || (c == 65535) then codes " " else encode_utf8 c

-- a title, where it isn't empty
abbrev pub title_tail : List ℕ → List ℕ
title_tail title =
    if length title == 0 then [] else codes " - " ++ flat_map shown_char (chars title)

-- ---- how much of it a picture has room for
-- how many letters the character takes that begins with a byte: two, where it has three bytes or more, as Chinese ones have; a
-- byte behind its first takes none
abbrev pub letters_at : ℕ → ℕ
letters_at c =
    if nat_lt c 128 then 1 else if nat_lt c 192 then 0 else if nat_lt c 224 then 1 else 2

-- where the first character begins for which so many letters are too few; the end, where they are enough
abbrev pub place_past : List ℕ → (room : ℕ) → ℕ
place_past [] room = 0
place_past (c ∷ cs) room =
    if nat_lt room (letters_at c) then 0 else place_past cs (room - letters_at c) + 1

-- a title in so many letters: all of it, or as much as leaves room for a sign that it is cut
abbrev pub title_in : List ℕ → (room : ℕ) → List ℕ
title_in title room =
    if place_past title room == length title then title_tail title
    else title_tail (take (place_past title (room - 2)) title) ++ CUT.now

-- how many letters have room in a picture behind so many
abbrev pub letters_behind : Frame → (before : ℕ) → ℕ
letters_behind f before = (frame_end f - 100) / LETTER - before
