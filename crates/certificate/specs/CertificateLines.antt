-- Reading line after line.
use Rattle.std.specs.Prelude.{◌≡◌, ℕ, zero, suc, ◌+◌, List, [], ◌∷◌, length, Bool, ◌&&◌, ◌==◌, nat_le, bytes_eq, Option, Some, None, Result, Ok, Err, if◌then◌else◌, codes}
use Rattle.std.specs.List.{join_with_byte}
use Rattle.task_sheet.specs.Name.{is_name}
use Rattle.task_sheet.specs.declared.set.TheConstants.{TASK_LIMIT}
use Rattle.certificate.specs.Body.{Fail, CertLevelData, Body, Best, NoOrder, Cert, may_chain}
use Rattle.certificate.specs.declared.value.CertChain.{CertChain}
use Rattle.certificate.specs.Spelling.{head_text}
use Rattle.certificate.specs.declared.version.CertVersion.{CertVersion}
use Rattle.certificate.specs.declared.version.CertVersion.TheVariants.{First, Second, Fourth, Fifth}
use Rattle.lines.specs.TextLines.{parts}
use Rattle.lines.specs.Steps.{◌>>=◌}
use Rattle.lines.specs.Words.{words, number_in}
use Rattle.lines.specs.declared.place.TextPlace.{TextPlace}
use Rattle.certificate.specs.Words.{fail_in, chain_if}
use Rattle.certificate.specs.declared.fault.CertFault.{CertFault}
use Rattle.certificate.specs.declared.fault.CertFault.TheVariants.{BadHead, BadLine, Truncated, Trailing, OutOfMemory}

-- the parts that are left, of which the last is no complete line, and the number of the next line
pub record At : Type 0 where
  pub parts : List (List ℕ)
  pub line : ℕ

-- what is left to read, and the number of the last line
abbrev pub at_place : TextPlace → At
at_place p = record { parts = parts p.rest.now; line = p.line }

-- the reading has this fault; out of memory says nothing of it
abbrev pub Fails : {Y : Type 0} → CertFault → Result Y CertFault → Type 0
Fails OutOfMemory read = Unit {0}
Fails e read = read ≡ Err e

-- a result is that of the definition, or out of memory
abbrev pub Gives : {X Y : Type 0} → (X → Y) → Result X CertFault → Result Y CertFault → Type 0
Gives view (Ok x) read = read ≡ Ok (view x)
Gives view (Err e) read = Fails e read

-- what a line gives, where it is one that is wanted
abbrev pub wanted : {A : Type 0} → ℕ → Option A → Result A CertFault
wanted line None = Err (BadLine line)
wanted line (Some x) = Ok x

-- the next of some parts as a line, if it is complete
unfoldable pub line_from : List (List ℕ) → ℕ → Result (List ℕ × At) CertFault
line_from [] line = Err Truncated
line_from (l ∷ []) line = Err Truncated
line_from (l ∷ x ∷ xs) line = Ok (l, record { parts = x ∷ xs; line = line + 1 })

-- the next line
abbrev pub line_at : At → Result (List ℕ × At) CertFault
line_at a = line_from a.parts a.line

-- n items, of which the first has the number k
unfoldable pub items_at : {X : Type 0} → (ℕ → At → Result (X × At) CertFault)
    → ℕ → ℕ → At → Result (List X × At) CertFault
items_at item zero k a = Ok ([], a)
items_at item (suc n) k a = do
  first ← item k a
  others ← items_at item n (k + 1) first.1
  Ok (first.0 ∷ others.0, others.1)

-- the next line as a member
unfoldable pub member_at : CertVersion → At → Result (Fail × At) CertFault
member_at v a = do
  x ← line_at a
  c ← wanted a.line (fail_in v (codes "member") (words x.0))
  Ok (c, x.1)

-- the next n lines as members
abbrev pub members_at : CertVersion → ℕ → At → Result (List Fail × At) CertFault
members_at v n a = items_at (λ k. member_at v) n 1 a

-- no byte is left
abbrev pub is_at_end : List (List ℕ) → Bool
is_at_end xs = length (join_with_byte 10 xs) == 0

-- the last line, and nothing behind it
unfoldable pub end_at : At → Result (Unit {0}) CertFault
end_at a = do
  x ← line_at a
  if bytes_eq x.0 (codes "end") then (if is_at_end x.1.parts then Ok tt else Err Trailing)
      else Err (BadLine a.line)

-- the number, if a set may have that many tasks
abbrev pub at_most_limit : Option ℕ → Option ℕ
at_most_limit None = None
at_most_limit (Some n) = if nat_le n TASK_LIMIT then Some n else None

-- a number of tasks that a set may have
abbrev pub few : List ℕ → Option ℕ
few text = at_most_limit (number_in text)

-- the number of a line of this word and one such number
abbrev pub count_in : List ℕ → List (List ℕ) → Option ℕ
count_in word [] = None
count_in word (w ∷ []) = None
count_in word (w ∷ n ∷ []) = if bytes_eq w word then few n else None
count_in word (w ∷ n ∷ x ∷ xs) = None

-- ---- levels
-- the name and the time of level k, where the number is k, the name is one and the time is a number
abbrev pub level_head : ℕ → List ℕ → Option ℕ → Option ℕ → Option (List ℕ × ℕ)
level_head k name None time = None
level_head k name (Some m) None = None
level_head k name (Some m) (Some n) = if (m == k) && is_name name then Some (name, n) else None

-- the word, the level's number, a name, and a number
abbrev pub level_in : ℕ → List (List ℕ) → Option (List ℕ × ℕ)
level_in k [] = None
level_in k (w ∷ []) = None
level_in k (w ∷ m ∷ []) = None
level_in k (w ∷ m ∷ name ∷ []) = None
level_in k (w ∷ m ∷ name ∷ n ∷ []) =
    if bytes_eq w (codes "level") then level_head k name (number_in m) (number_in n) else None
level_in k (w ∷ m ∷ name ∷ n ∷ x ∷ xs) = None

-- one item more, or the end of them
abbrev pub front_case : {X : Type 0} → Option X → At → List X × At → List X × At
front_case None here rest = ([], here)
front_case (Some x) here rest = (x ∷ rest.0, rest.1)

-- the lines at the front whose words are such items, and what follows them
unfoldable pub front_from : {X : Type 0} → (List (List ℕ) → Option X) → List (List ℕ) → ℕ
    → List X × At
front_from item [] line = ([], record { parts = []; line = line })
front_from item (l ∷ []) line = ([], record { parts = l ∷ []; line = line })
front_from item (l ∷ x ∷ xs) line =
    front_case (item (words l)) (record { parts = l ∷ x ∷ xs; line = line })
    (front_from item (x ∷ xs) (line + 1))

-- the lines of failures at the front, and what follows them
abbrev pub fails_from : CertVersion → List (List ℕ) → ℕ → List Fail × At
fails_from v ps line = front_from (fail_in v (codes "fails")) ps line

-- the lines of chains at the front, where they may stand, and what follows them
abbrev pub chains_from : (may : Bool) → List (List ℕ) → ℕ → List CertChain × At
chains_from may ps line = front_from (chain_if may) ps line

-- the next lines as level k with its failures
unfoldable pub level_read : CertVersion → ℕ → At → Result (CertLevelData × At) CertFault
level_read v k a = do
  x ← line_at a
  h ← wanted a.line (level_in k (words x.0))
  Ok (record { name = h.0; time = h.1; fails = (fails_from v x.1.parts x.1.line).0 }, (fails_from v x.1.parts x.1.line).1)

-- the next lines as n levels
abbrev pub levels_at : CertVersion → ℕ → At → Result (List CertLevelData × At) CertFault
levels_at v n a = items_at (level_read v) n 1 a

-- the next lines as levels or as members, by the count that was read
abbrev pub body_case : CertVersion → Option ℕ → Option ℕ → At → Result (Body × At) CertFault
body_case v (Some n) other a = do
  levels ← levels_at v n a
  Ok (Best levels.0, levels.1)
body_case v None (Some n) a = do
  members ← members_at v n a
  Ok (NoOrder members.0, members.1)
body_case v None None a = Err (BadLine 2)

-- what stands between the first line and the last one
unfoldable pub body_at : CertVersion → At → Result (Body × At) CertFault
body_at v a = do
  second ← line_at a
  body_case v (count_in (codes "best") (words second.0))
      (count_in (codes "none") (words second.0)) second.1

-- the version that a first line names
abbrev pub version_in : List ℕ → Option CertVersion
version_in head =
    if bytes_eq head (head_text First) then Some First
    else if bytes_eq head (head_text Second) then Some Second
    else if bytes_eq head (head_text Fourth) then Some Fourth
    else if bytes_eq head (head_text Fifth) then Some Fifth
    else None

-- the certificate that follows a first line
abbrev pub versioned : Option CertVersion → At → Result Cert CertFault
versioned None a = Err BadHead
versioned (Some v) a = do
  body ← body_at v a
  end ← end_at (chains_from (may_chain v body.0) body.1.parts body.1.line).1
  Ok (record {
    version = v;
    body = body.0;
    chains = (chains_from (may_chain v body.0) body.1.parts body.1.line).0;
  })

-- the certificate that the bytes are, or the first fault
unfoldable pub certificate_in : List ℕ → Result Cert CertFault
certificate_in bytes = do
  head ← line_at (record { parts = parts bytes; line = 1 })
  versioned (version_in head.0) head.1
