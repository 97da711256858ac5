-- Documents that were read one after the other, and where a name first repeats.
use Rattle.std.proofs.Common.{◌≡◌, ◌≢◌, ◌∙◌, ◌<◌, ◌≤◌, ◌+◌, ◌-◌, ◌==◌, ℕ, suc, inl, inr}
use Rattle.std.proofs.Common.{true, false, cond, map, List, [], ◌∷◌, ◌++◌, length, Option, Some}
use Rattle.std.proofs.Common.{None, Result, Err, Ok, refl, sym, ap, subst, arith, nat_lt}
use Rattle.std.proofs.lemmas.Bool.{cases_Bool}
use Rattle.std.specs.List.{join_with_byte}
use Rattle.std.proofs.lemmas.List.{length-append, length-map}
use Rattle.std.proofs.lemmas.List.Splits.{join_with_byte-slice_split, length-slice_split}
use Rattle.lines.specs.TextLines.{parts}
use Rattle.task_sheet.proofs.Common.{Task, first_repeat, has_name, sheets_fault}
use Rattle.task_sheet.specs.declared.set.TheConstants.{TASK_LIMIT}
use Rattle.task_sheet.specs.declared.set.SetCause.{SetCause}
use Rattle.task_sheet.specs.declared.set.SetCause.TheVariants as cause
use Rattle.teams.specs.Gathering.{AreGathered, Begins, HasNoHead, IsCutOff, IsFirstPart, IsHead}
use Rattle.teams.specs.Gathering.{IsNoDocuments, IsNodeHead, IsNotGathered, IsPartBy, ReadsGathered}
use Rattle.teams.specs.Owned.{OwnedData, TeamSetData}
use Rattle.teams.specs.ReadsTeams.{AreRead, ReadsPart, UnitesAll}
use Rattle.teams.specs.Budgets.{budgets_fault}
use Rattle.teams.specs.NodeDocument.{NodeData}
use Rattle.teams.specs.ReadsText.{AreCut, AreJudged, IsUnited, Joins, Judges, ReadsBounded}
use Rattle.std.specs.Option.{option_or}
use Rattle.teams.specs.Rights.{rights_fault}
use Rattle.teams.specs.Naming.{locks_fault, named_by}
use Rattle.teams.specs.declared.node.Budget.{Budget}
use Rattle.task_sheet.specs.declared.read.Document.{Document}
use Rattle.teams.specs.declared.reading.Part.{Part}
use Rattle.teams.specs.declared.fault.TeamsFault.{TeamsFault}
use Rattle.teams.specs.declared.fault.TeamsFault.TheVariants.{Of, OutOfMemory}

-- ---- one document more
read_push : (ps : List Part) (sets : List TeamSetData) (p : Part) (s : TeamSetData)
    → AreRead ps sets → ReadsPart p (Ok s) → AreRead (ps ++ p ∷ []) (sets ++ s ∷ [])
read_push [] [] p s all one = (one, tt)
read_push (q ∷ ps) (r ∷ sets) p s all one = (all.0, read_push ps sets p s all.1 one)
read_push ps sets p s all one = absurd all

begins_push : (text : List ℕ) (ps : List Part) (p : Part) (rest after : List ℕ) → Begins text ps
    rest → IsFirstPart rest p.team p.text.now after → Begins text (ps ++ p ∷ []) after
begins_push text [] p rest after same first =
    (after, subst (λ t. IsFirstPart t p.team p.text.now after) (sym same) first, refl)
begins_push text (q ∷ ps) p rest after begins first =
    (begins.0, begins.1, begins_push begins.0 ps p rest after begins.2 first)

pub gathered_more : (text rest after : List ℕ) (sets : List TeamSetData) (p : Part)
    (s : TeamSetData) → AreGathered text rest sets → IsFirstPart rest p.team p.text.now after
    → ReadsPart p (Ok s) → AreGathered text after (sets ++ s ∷ [])
gathered_more text rest after sets p s (ps, begins, read) first one =
    (ps ++ p ∷ [], begins_push text ps p rest after begins first, read_push ps sets p s read one)

-- ---- a text of documents that is none
pub stopped : (text rest after : List ℕ) (sets : List TeamSetData) (p : Part) (e : TeamsFault)
    → AreGathered text rest sets → IsFirstPart rest p.team p.text.now after → ReadsPart p (Err e)
    → IsNoDocuments text e
stopped text rest after sets p OutOfMemory all first why = tt
stopped text rest after sets p (Of team f) all first why =
    (all.0, sets, rest, p, after, all.1, all.2, first, why)
stopped text rest after sets p e all first why = absurd why

read_length : (ps : List Part) (sets : List TeamSetData) → AreRead ps sets → length ps ≡ length sets
read_length [] [] all = refl
read_length (p ∷ ps) (s ∷ sets) all = ap suc (read_length ps sets all.1)
read_length ps sets all = absurd all

pub cut_off : (text rest : List ℕ) (sets : List TeamSetData) (n : ℕ) → AreGathered text rest sets
    → rest ≢ [] → HasNoHead rest → n ≡ length sets → IsCutOff text (n + 1)
cut_off text rest sets n (ps, begins, read) some none is =
    let same = read_length ps sets read in
    (ps, sets, rest, begins, read, some, none, omega (arith, same, is))

-- ---- a text that begins with no document
-- of its first line none of the counts is of bytes that follow it
pub none_by : (H : List ℕ → ℕ → Type 0) (text line rest : List ℕ) → parts text ≡ line ∷ parts rest
    → ((count : ℕ) → H line count → count ≤ length rest → ⊥) → (document after : List ℕ)
    → IsPartBy H text document after → ⊥
none_by H text line rest e none document after (front, behind, split, head, is) =
    let heads : line ≡ front = cc in
    let tails : parts rest ≡ parts behind = cc in
    let same : rest ≡ behind = sym (join_with_byte-slice_split 10 rest)
    ∙ ap (join_with_byte 10) tails ∙ join_with_byte-slice_split 10 behind in
    let long : length rest ≡ length document + length after = ap length (same ∙ is)
    ∙ length-append document after in
    none (length document) (subst (λ (l : List ℕ). H l (length document)) (sym heads) head)
    (omega (arith, long))

-- it is one line without an end
pub uncut : (H : List ℕ → ℕ → Type 0) (text : List ℕ) → parts text ≡ text ∷ []
    → (document after : List ℕ) → IsPartBy H text document after → ⊥
uncut H text e document after (front, behind, split, _, _) =
    let none : [] ≡ parts behind = cc in
    omega (arith, length-slice_split (λ (b : ℕ). b == 10) behind, ap length none)

-- a line has one count
pub head_count : (line team other : List ℕ) (count n : ℕ) → IsHead line team count
    → IsHead line other n → count ≡ n
head_count line team other count n head again = cc (head.2, head.4, again.2, again.4)

pub node_count : (line : List ℕ) (count n : ℕ) → IsNodeHead line count → IsNodeHead line n
    → count ≡ n
node_count line count n head again = cc (head.1, head.2, again.1, again.2)

-- ---- where a name repeats
repeat_within : (seen : List Task) (place : ℕ) (xs : List Task) (n : ℕ)
    → first_repeat seen place xs ≡ Some n → (place ≤ n) × (n < place + length xs)
repeat_within seen place [] n e = cc
repeat_within seen place (x ∷ xs) n e =
    elim (cases_Bool (has_name seen x.name)) [
      | inl taken ↦
          let here : Some place ≡ Some n = (rw taken at e) in
          let same : place ≡ n = cc in
          (omega (arith, same), omega (arith, same))
      | inr new ↦
          let rest = repeat_within (seen ++ x ∷ []) (place + 1) xs n (rw new at e) in
          (omega (arith, rest.0), omega (arith, rest.1))
    ]

repeat_at : (xs : List Task) (n : ℕ) → sheets_fault xs ≡ Some (cause.SameName n) → (1 ≤ n)
    × (n - 1 < length xs)
repeat_at xs n e = by (first_repeat [] 1 xs) refl
  where
    by : (o : Option ℕ) → first_repeat [] 1 xs ≡ o → (1 ≤ n) × (n - 1 < length xs)
    by (Some m) first =
        let found : Some (cause.SameName m) ≡ Some (cause.SameName n) = (rw first at e) in
        let same : m ≡ n = cc in
        let at = repeat_within [] 1 xs m first in
        (omega (arith, at.0, same), omega (arith, at.0, at.1, same))
    by None first =
        let found : cond (nat_lt TASK_LIMIT (length xs)) (Some cause.TooManyTasks) None
        ≡ Some (cause.SameName n) = (rw first at e) in
        elim (nat_lt TASK_LIMIT (length xs)) as (λ b. cond b (Some cause.TooManyTasks) None
        ≡ Some (cause.SameName n) → (1 ≤ n) × (n - 1 < length xs)) [
          | true ↦ λ never. absurd (cc)
          | false ↦ λ never. absurd (cc)
        ] found

-- the fault of tasks, where it is not out of memory, is this one, and the place is one of theirs
pub taken : (tasks : List OwnedData) (why : SetCause) (n : ℕ) → why ≡ cause.SameName n
    → (why ≢ cause.OutOfMemory → sheets_fault (map (λ o. o.sheet) tasks) ≡ Some why)
    → (sheets_fault (map (λ o. o.sheet) tasks) ≡ Some (cause.SameName n)) × (1 ≤ n)
    × (n - 1 < length tasks)
taken tasks why n is known =
    let fault = known (λ never. absurd (cc (is, never))) ∙ ap Some is in
    let at = repeat_at (map (λ (o : OwnedData). o.sheet) tasks) n fault in
    (fault, at.0, omega (arith, at.1, length-map tasks (λ (o : OwnedData). o.sheet)))

-- ---- why documents are no set
pub none_gathered : (text : List ℕ) (e : TeamsFault) → IsNoDocuments text e → IsNotGathered text e
none_gathered text OutOfMemory why = tt
none_gathered text e why = inl why

pub not_united : (text : List ℕ) (sets : List TeamSetData) (answer : Result Document TeamsFault)
    → AreGathered text [] sets → UnitesAll sets answer → ReadsGathered text answer
not_united text sets (Ok d) all is = (sets, all, is)
not_united text sets (Err OutOfMemory) all is = tt
not_united text sets (Err e) all is = inr (sets, all, is)

-- ---- the node's document before those of teams
pub refused_documents : (document text : List ℕ) (e : TeamsFault) → AreCut document text e
    → ReadsBounded document text (Err e)
refused_documents document text OutOfMemory why = tt
refused_documents document text e why = inr (inl why)

pub judged_so : (document text : List ℕ) (answer : Result Document TeamsFault)
    → AreJudged document text answer → ReadsBounded document text answer
judged_so document text (Ok d) is = is
judged_so document text (Err OutOfMemory) is = tt
judged_so document text (Err e) is = inr (inr is)

pub refused_union : (own : TeamSetData) (budgets : List Budget) (sets : List TeamSetData)
    (e : TeamsFault) → UnitesAll (own ∷ sets) (Err e) → Joins own budgets sets (Err e)
refused_union own budgets sets OutOfMemory why = tt
refused_union own budgets sets e why = inl why

pub refused_budget : (own : TeamSetData) (budgets : List Budget) (sets : List TeamSetData)
    (e : TeamsFault) → IsUnited (own ∷ sets) → budgets_fault sets budgets ≡ Some e
    → Joins own budgets sets (Err e)
refused_budget own budgets sets OutOfMemory united why = tt
refused_budget own budgets sets e united why = inr (united, why)

pub refused_right : (n : NodeData) (sets : List TeamSetData) (e : TeamsFault)
    → option_or (rights_fault n.budgets sets) (locks_fault n.locks sets) ≡ Some e
    → Judges n sets (Err e)
refused_right n sets OutOfMemory why = tt
refused_right n sets e why = inl why

pub joins_so : (n : NodeData) (sets : List TeamSetData) (answer : Result Document TeamsFault)
    → rights_fault n.budgets sets ≡ None → locks_fault n.locks sets ≡ None
    → Joins n.own n.budgets (named_by n.locks sets) answer → Judges n sets answer
joins_so n sets (Ok d) right locks is = (record { rights = right; locks = locks }, is)
joins_so n sets (Err OutOfMemory) right locks is = tt
joins_so n sets (Err e) right locks is = inr (record { rights = right; locks = locks }, is)
