-- The one spelling of each certificate.
use Rattle.std.specs.Prelude.{ℕ, ◌+◌, List, [], ◌∷◌, ◌++◌, length, codes}
use Rattle.std.specs.List.{flat_map}
use Rattle.std.specs.Fmt.{decimal}
use Rattle.certificate.specs.Body.{CertReasonData, Chain, Over, Fail, CertLevelData, Body, Best, NoOrder, Cert}
use Rattle.certificate.specs.declared.value.CertChain.{CertChain}
use Rattle.certificate.specs.declared.version.CertVersion.{CertVersion}
use Rattle.certificate.specs.declared.version.CertVersion.TheVariants.{First, Second, Fourth, Fifth}

-- each number after a space
abbrev pub numbers_text : List ℕ → List ℕ
numbers_text ns = flat_map (λ n. 32 ∷ decimal n) ns

-- a reason behind a name: its numbers, or `over` and the other task's name
abbrev pub reason_text : CertReasonData → List ℕ
reason_text (Chain numbers) = numbers_text numbers
reason_text (Over other) = codes " over " ++ other

-- a line of a word, a name and a reason
abbrev pub fail_line : List ℕ → Fail → List ℕ
fail_line word f = word ++ 32 ∷ f.name ++ reason_text f.reason ++ 10 ∷ []

-- a line for each failure
abbrev pub fail_lines : List ℕ → List Fail → List ℕ
fail_lines word fs = flat_map (fail_line word) fs

-- the line of level k
abbrev pub level_spelling : ℕ → CertLevelData → List ℕ
level_spelling k l = codes "level " ++ decimal k ++ 32 ∷ l.name ++ 32 ∷ decimal l.time ++ 10 ∷ []

-- the levels from k up
abbrev pub level_spellings : ℕ → List CertLevelData → List ℕ
level_spellings k [] = []
level_spellings k (l ∷ ls) =
    level_spelling k l ++ (fail_lines (codes "fails") l.fails ++ level_spellings (k + 1) ls)

-- the line of a chain
abbrev pub chain_line : CertChain → List ℕ
chain_line c = codes "chain " ++ c.name ++ 32 ∷ decimal c.number ++ 10 ∷ []

-- a line for each chain
abbrev pub chain_lines : List CertChain → List ℕ
chain_lines cs = flat_map chain_line cs

-- the first line without its end
abbrev pub head_text : CertVersion → List ℕ
head_text First = codes "desk-certificate 1"
head_text Second = codes "desk-certificate 2"
head_text Fourth = codes "desk-certificate 4"
head_text Fifth = codes "desk-certificate 5"

-- the first line
abbrev pub head_line : CertVersion → List ℕ
head_line v = head_text v ++ 10 ∷ []

-- a line of a word and a count
abbrev pub count_line : List ℕ → ℕ → List ℕ
count_line word n = word ++ 32 ∷ decimal n ++ 10 ∷ []

-- what stands between the first line and the last one
abbrev pub body_text : Body → List ℕ
body_text (Best levels) = count_line (codes "best") (length levels) ++ level_spellings 1 levels
body_text (NoOrder members) =
    count_line (codes "none") (length members) ++ fail_lines (codes "member") members

-- the bytes of a certificate
abbrev pub spelling : Cert → List ℕ
spelling c = head_line c.version ++ body_text c.body ++ chain_lines c.chains ++ codes "end\n"
