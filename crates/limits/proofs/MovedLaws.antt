-- A longer section, and those behind it that move along.
use Rattle.std.proofs.Common.{◌≡◌, ℕ, zero, suc, ◌+◌, ◌-◌, ◌<◌, ◌≤◌, List, [], ◌∷◌, ◌++◌}
use Rattle.std.proofs.Common.{length, get_or, take, drop, slice_set, refl, sym, ◌∙◌, ap, arith}
use Rattle.std.proofs.Common.{append_assoc, append-nil}
use Rattle.std.proofs.Math.ListN.{drop_of_length-le}
use Rattle.std.proofs.lemmas.List.{drop_more}
use Rattle.task_sheet.specs.Sheet.{CriticalSection, AreSections}
use Rattle.limits.specs.Numbers.{section_at, moved, with_len}

-- one section more that moves along, or stays behind those that do
pub moved-step : (along more less : ℕ) (x y : CriticalSection) (xs : List CriticalSection) (at : ℕ)
    → (along ≡ 0 → at ≡ x.at) → (0 < along → at ≡ x.at + more - less)
    → y ≡ record x { at = at }
    → moved along more less (x ∷ xs) ≡ y ∷ moved (along - 1) more less xs
moved-step zero more less x y xs at none some is =
    let here : at ≡ x.at = none refl in
    let last : 0 ≡ 0 - 1 = omega arith in
    let same : x ≡ y = sym (is ∙ λ i. record x { at = here i }) in
    λ i. same i ∷ moved (last i) more less xs
moved-step (suc along) more less x y xs at none some is =
    let here : at ≡ x.at + more - less = some (omega arith) in
    let last : along ≡ suc along - 1 = omega arith in
    let same : record x { at = x.at + more - less } ≡ y = sym (is ∙ λ i. record x { at = here i }) in
    λ i. same i ∷ moved (last i) more less xs

pub moved-more : (items : List CriticalSection) (i : ℕ) (x y : CriticalSection)
    (along next more less at : ℕ) (front pushed whole : List CriticalSection) → i < length items
    → x ≡ get_or items i x → (along ≡ 0 → at ≡ x.at) → (0 < along → at ≡ x.at + more - less)
    → y ≡ record x { at = at } → next ≡ along - 1 → pushed ≡ front ++ y ∷ []
    → front ++ moved along more less (drop i items) ≡ whole
    → pushed ++ moved next more less (drop (i + 1) items) ≡ whole
moved-more items i x y along next more less at front pushed whole lt is none some made left push all =
    let behind = drop (i + 1) items in
    let cut : drop i items ≡ x ∷ behind =
    drop_more items i x lt ∙ ap (λ (z : CriticalSection). z ∷ behind) (sym is) in
    ap (λ (l : List CriticalSection). l ++ moved next more less behind) push
    ∙ append_assoc front (y ∷ []) (moved next more less behind)
    ∙ ap (λ n. front ++ (y ∷ moved n more less behind)) left
    ∙ ap (λ (l : List CriticalSection). front ++ l)
    (sym (moved-step along more less x y behind at none some made))
    ∙ ap (λ (l : List CriticalSection). front ++ moved along more less l) (sym cut)
    ∙ all

moved-none : (along more less : ℕ) → moved along more less [] ≡ []
moved-none zero more less = refl
moved-none (suc along) more less = refl

pub moved-done : (items : List CriticalSection) (i along more less : ℕ)
    (front whole : List CriticalSection) → length items ≤ i
    → front ++ moved along more less (drop i items) ≡ whole → front ≡ whole
moved-done items i along more less front whole past all =
    sym (append-nil front)
    ∙ ap (λ (l : List CriticalSection). front ++ l) (sym (moved-none along more less))
    ∙ ap (λ (l : List CriticalSection). front ++ moved along more less l)
    (sym (drop_of_length-le items past))
    ∙ all

-- the sections in front, the one at a place, and those behind it
pub len-made : (xs : List CriticalSection) (k along len : ℕ) → k < length xs
    → slice_set (take (k + 1) xs) k (record (section_at (take (k + 1) xs) k) { len = len })
    ++ moved along len (section_at xs k).len (drop (k + 1) xs) ≡ with_len xs k along len
len-made [] k along len lt = absurd (omega (arith, lt))
len-made (x ∷ xs) zero along len lt = refl
len-made (x ∷ xs) (suc k) along len lt =
    let one : suc k + 1 ≡ suc (k + 1) = omega arith in
    rw one (ap (λ (ys : List CriticalSection). x ∷ ys) (len-made xs k along len (omega (arith, lt))))

-- a valid sheet's sections begin within its cost
pub at-short : (from cost : ℕ) (xs : List CriticalSection) (i : ℕ) (x : CriticalSection)
    → AreSections from cost xs → i < length xs → x ≡ get_or xs i x → x.at ≤ cost
at-short from cost [] i x valid lt is = absurd (omega (arith, lt))
at-short from cost (y ∷ xs) zero x valid lt is =
    let same = ap (λ (s : CriticalSection). s.at) is in omega (arith, same, valid.0.within)
at-short from cost (y ∷ xs) (suc i) x valid lt is =
    at-short (y.at + y.len) cost xs i x valid.1 (omega (arith, lt)) is
