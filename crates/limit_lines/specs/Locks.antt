-- The lines of the locks: the most that each of their sections may take.
use Rattle.std.specs.Prelude.{◌≡◌, ℕ, zero, suc, Bool, true, false, nat_lt, List, [], ◌++◌, length, codes, slice_get, Option, Some, None}
use Rattle.task_sheet.specs.Sheet.{Task}
use Rattle.ceilings.specs.IsTableOf.{locks_of}
use Rattle.owners.specs.Followers.{follows}
use Rattle.task_lines.specs.declared.owner.Owner.{Owner}
use Rattle.limits.specs.Cuts.{AnswersMostOn, longest_on}
use Rattle.limit_lines.specs.LimitLines.{values_words}

-- the most for the order to pass, where one is given
abbrev pub AnswersMostIn : List Owner → List Task → Option (List ℕ) → (lock : List ℕ) → Option ℕ
    → Type 0
AnswersMostIn owners U (Some order) lock own = AnswersMostOn (follows owners) U lock (Some order) own
AnswersMostIn owners U None lock own = own ≡ None

-- whose sections, what the longest takes, the most in the order, and in any; nothing where nothing helps
abbrev pub lock_line : (whose : List ℕ) → (longest : ℕ) → (own most : Option ℕ) → List ℕ
lock_line whose longest own None = []
lock_line whose longest own (Some most) =
    values_words whose (codes " len ") longest own most ++ codes "\n"

-- a lock has a line: in an order that is given only where this passes with shorter sections alone
abbrev pub is_cut_told : Option (List ℕ) → (longest : ℕ) → (own : Option ℕ) → Bool
is_cut_told None longest own = true
is_cut_told (Some order) longest None = false
is_cut_told (Some order) longest (Some most) = nat_lt most longest

abbrev pub IsCutTold : Bool → List Owner → List Task → (lock : List ℕ) → (own : Option ℕ) → List ℕ
    → Type 0
IsCutTold false owners U lock own text = text ≡ []
IsCutTold true owners U lock own text =
    (most : Option ℕ) × AnswersMostOn (follows owners) U lock None most
    × (text ≡ lock_line (codes "lock " ++ lock) (longest_on lock U) own most)

abbrev pub IsCutLine : List Owner → List Task → Option (List ℕ) → (lock : List ℕ) → List ℕ → Type 0
IsCutLine owners U order lock text =
    (own : Option ℕ) × AnswersMostIn owners U order lock own
    × IsCutTold (is_cut_told order (longest_on lock U) own) owners U lock own text

-- the line of a lock with a section that takes some time of its own; nothing of another one
abbrev pub IsCutLineIf : Bool → List Owner → List Task → Option (List ℕ) → (lock : List ℕ) → List ℕ
    → Type 0
IsCutLineIf true owners U order lock text = IsCutLine owners U order lock text
IsCutLineIf false owners U order lock text = text ≡ []

abbrev pub IsLockLine : List Owner → List Task → Option (List ℕ) → (lock : List ℕ) → List ℕ → Type 0
IsLockLine owners U order lock text =
    IsCutLineIf (nat_lt 0 (longest_on lock U)) owners U order lock text

-- the line of a lock that is there
abbrev pub IsLineOf : List Owner → List Task → Option (List ℕ) → Option (List ℕ) → List ℕ → Type 0
IsLineOf owners U order None text = text ≡ []
IsLineOf owners U order (Some lock) text = IsLockLine owners U order lock text

-- the lines of the first locks of a set, in the order of first sight
abbrev pub AreFirstLines : List Owner → List Task → Option (List ℕ) → (count : ℕ) → List ℕ → Type 0
AreFirstLines owners U order zero text = text ≡ []
AreFirstLines owners U order (suc place) text =
    (front : List ℕ) × (line : List ℕ) × AreFirstLines owners U order place front
    × IsLineOf owners U order (slice_get (locks_of U) place) line
    × (text ≡ front ++ line)

-- those of all
abbrev pub AreLockLines : List Owner → List Task → Option (List ℕ) → List ℕ → Type 0
AreLockLines owners U order text = AreFirstLines owners U order (length (locks_of U)) text
