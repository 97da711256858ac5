-- What is printed of an answer.
use Rattle.std.specs.Prelude.{◌≡◌, ℕ, List, Option, Result, Ok, Err}
use Rattle.std.specs.Io.KnownBytes.{Appends}
use Rattle.answering.specs.Refusals.{refusal_line, status_of}
use Rattle.answering.specs.declared.answer.Answer.{Answer}
use Rattle.answering.specs.declared.refusal.CommandRefusal.{CommandRefusal}
use Rattle.answering.specs.declared.refusal.CommandRefusal.TheVariants.{OutOfMemory}
use Rattle.answering.specs.declared.status.Status.{Status}

-- what is printed of an answer: the lines of what was found, or that of the refusal
abbrev pub said : {X : Type 0} → (X → List ℕ) → Result X CommandRefusal → List ℕ
said lines (Ok x) = lines x
said lines (Err r) = refusal_line r

-- the exit status of an answer
abbrev pub status_said : {X : Type 0} → (X → Status) → Result X CommandRefusal → Status
status_said done (Ok x) = done x
status_said done (Err r) = status_of r

-- an answer is printed after what the writer held, and the status is the answer's
abbrev pub Prints :
    {X : Type 0} → (Result X CommandRefusal → Type 0) → (X → List ℕ) → (X → Status)
    → (before after : Option (List ℕ)) → Status → Type 0
Prints {X} answers lines done before after s =
    (answer : Result X CommandRefusal) × answers answer × Appends before after (said lines answer)
    × (s ≡ status_said done answer)

-- ---- answers that are made before they are printed
-- its lines and its status are those of what was found
abbrev pub Answers :
    {X : Type 0} → (Result X CommandRefusal → Type 0) → (X → List ℕ) → (X → Status)
    → Result Answer CommandRefusal → Type 0
Answers {X} finds lines done (Ok answer) =
    (x : X) × finds (Ok x) × (answer.text.items ≡ lines x) × (answer.status ≡ done x)
Answers finds lines done (Err r) = finds (Err r)

-- what is printed of it, and its exit status
abbrev pub answer_said : Result Answer CommandRefusal → List ℕ
answer_said answer = said (λ a. a.text.items) answer

abbrev pub answer_status : Result Answer CommandRefusal → Status
answer_status answer = status_said (λ a. a.status) answer

-- such an answer is printed after what the writer held, and the status is the answer's
abbrev pub PrintsAnswer :
    (Result Answer CommandRefusal → Type 0) → (before after : Option (List ℕ)) → Status → Type 0
PrintsAnswer answers before after s =
    (answer : Result Answer CommandRefusal) × answers answer × Appends before after (answer_said answer)
    × (s ≡ answer_status answer)

-- it is a text of which this holds, with this status; or that memory ran out
abbrev pub AnswersText : (List ℕ → Type 0) → Status → Result Answer CommandRefusal → Type 0
AnswersText holds s (Ok answer) = holds answer.text.items × (answer.status ≡ s)
AnswersText holds s (Err r) = r ≡ OutOfMemory
