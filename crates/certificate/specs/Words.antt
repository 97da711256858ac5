-- What the words of a line with a failure, or a chain, say.
use Rattle.std.specs.Prelude.{ℕ, Bool, true, false, List, [], ◌∷◌, ◌++◌, ◌&&◌, bytes_eq, codes, Option, Some, None, option_map, if◌then◌else◌}
use Rattle.std.specs.Option.{option_or}
use Rattle.std.specs.Global.{Vec}
use Rattle.task_sheet.specs.Name.{is_name}
use Rattle.lines.specs.Words.{number_in}
use Rattle.certificate.specs.Body.{CertReasonData, Chain, Over, Fail}
use Rattle.certificate.specs.declared.value.CertChain.{CertChain}
use Rattle.certificate.specs.ReasonOf.{reason_seen}
use Rattle.certificate.specs.declared.value.CertReason.{CertReason}
use Rattle.certificate.specs.declared.version.CertVersion.{CertVersion}
use Rattle.certificate.specs.declared.version.CertVersion.TheVariants.{First, Second, Fourth, Fifth}

infixl 10 ◌>>=◌
-- goes on where there is a value
abbrev pub ◌>>=◌ : {A B : Type 0} → Option A → (A → Option B) → Option B
None >>= f = None
(Some x) >>= f = f x

-- the numbers that words are
unfoldable pub numbers_in : List (List ℕ) → Option (List ℕ)
numbers_in [] = Some []
numbers_in (w ∷ ws) = do
  n ← number_in w
  ns ← numbers_in ws
  Some (n ∷ ns)

-- the word `over` and a name
abbrev pub over_in : List (List ℕ) → Option CertReasonData
over_in [] = None
over_in (w ∷ []) = None
over_in (w ∷ name ∷ []) =
    if bytes_eq w (codes "over") && is_name name then Some (Over name) else None
over_in (w ∷ name ∷ x ∷ xs) = None

-- the same, from version 2 on
abbrev pub later_in : CertVersion → List (List ℕ) → Option CertReasonData
later_in First ws = None
later_in Second ws = over_in ws
later_in Fourth ws = over_in ws
later_in Fifth ws = over_in ws

-- numbers, or what a later version allows in their place
unfoldable pub reason_in : CertVersion → List (List ℕ) → Option CertReasonData
reason_in v ws = option_or (option_map Chain (numbers_in ws)) (later_in v ws)

-- the word, a name, and a reason
unfoldable pub fail_in : CertVersion → List ℕ → List (List ℕ) → Option Fail
fail_in v word [] = None
fail_in v word (w ∷ []) = None
fail_in v word (w ∷ name ∷ []) = None
fail_in v word (w ∷ name ∷ n ∷ ns) =
    if bytes_eq w word && is_name name then
    (reason_in v (n ∷ ns) >>= λ reason. Some (record { name = name; reason = reason })) else None

-- a chain of a name, if there is a number
abbrev pub chain_named : List ℕ → Option ℕ → Option CertChain
chain_named name None = None
chain_named name (Some number) = Some (record { name = name; number = number })

-- the word `chain`, a name, and a number
abbrev pub chain_in : List (List ℕ) → Option CertChain
chain_in [] = None
chain_in (w ∷ []) = None
chain_in (w ∷ name ∷ []) = None
chain_in (w ∷ name ∷ n ∷ []) =
    if bytes_eq w (codes "chain") && is_name name then chain_named name (number_in n) else None
chain_in (w ∷ name ∷ n ∷ x ∷ xs) = None

-- the same, where chains may stand
abbrev pub chain_if : (may : Bool) → List (List ℕ) → Option CertChain
chain_if false ws = None
chain_if true ws = chain_in ws

-- the items of a vector, if there is one
abbrev pub found : Option (Vec ℕ) → Option (List ℕ)
found None = None
found (Some v) = Some v.items

-- these, and then the numbers that are found, if all are numbers
abbrev pub numbers_before : List ℕ → Option (List ℕ) → Option (List ℕ)
numbers_before front None = None
numbers_before front (Some ns) = Some (front ++ ns)

-- what a reason says, if there is one
abbrev pub reason_told : Option CertReason → Option CertReasonData
reason_told None = None
reason_told (Some r) = Some (reason_seen r)
