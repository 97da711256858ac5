-- The first of some doubts and then others.
use Rattle.std.proofs.Common.{◌≡◌, ◌∙◌, ◌+◌, ◌<◌, ℕ, true, ap, drop, get_or, length, List, [], ◌∷◌, ◌++◌, Option, Some, None, refl, sym}
use Rattle.std.proofs.lemmas.List.{drop_more}
use Rattle.task_sheet.specs.Sheet.{Task}
use Rattle.doubts.specs.Doubts.{first_of, is_lone, lone_in}
use Rattle.doubts.specs.declared.doubt.Doubt.{Doubt}
use Rattle.doubts.specs.declared.doubt.Doubt.TheVariants.{LoneLock}

-- where there is none of the first ones, it is that of the others
pub first_of-none : (ds es : List Doubt) → None ≡ first_of ds → first_of (ds ++ es) ≡ first_of es
first_of-none [] es none = refl
first_of-none (d ∷ ds) es none = cc

-- else it is that of the first ones
pub first_of-some : (ds es : List Doubt) (d : Doubt) → Some d ≡ first_of ds
    → first_of (ds ++ es) ≡ Some d
first_of-some [] es d some = cc
first_of-some (e ∷ ds) es d some = sym some

-- the first lock that its task alone uses, where none before it is one
pub lone_found : (U : List Task) (task lock : List ℕ) (locks : List (List ℕ)) (i : ℕ)
    → i < length locks → lock ≡ get_or locks i lock → is_lone U lock ≡ true
    → first_of (lone_in U task (drop i locks)) ≡ first_of (lone_in U task locks)
    → Some (LoneLock task lock) ≡ first_of (lone_in U task locks)
lone_found U task lock locks i lt is lone none =
    let at : drop i locks ≡ lock ∷ drop (i + 1) locks =
    drop_more locks i lock lt ∙ ap (λ l. l ∷ drop (i + 1) locks) (sym is) in
    let first : first_of (lone_in U task (lock ∷ drop (i + 1) locks)) ≡ Some (LoneLock task lock) =
    rw lone refl in
    sym first ∙ ap (λ ls. first_of (lone_in U task ls)) (sym at) ∙ none
