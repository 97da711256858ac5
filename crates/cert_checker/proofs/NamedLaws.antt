-- Lists that name tasks each once.
use Rattle.std.proofs.Common.{◌≡◌, ℕ, zero, suc, ◌+◌, ◌<◌, Bool, true, false, cond, ◌&&◌, ◌||◌}
use Rattle.std.proofs.Common.{◌==◌, not, List, [], ◌∷◌, refl, ◌∙◌, ap, subst, arith, inl, inr}
use Rattle.std.specs.Cmp.{nat_eq_equiv}
use Rattle.std.specs.List.{count_by}
use Rattle.std.proofs.lemmas.Bool.{cases_eq, and_parts, and_from, or_cases, both_ways, ltb-true}
use Rattle.std.proofs.lemmas.Bool.{lt-ltb, eqb-true, ne_eqb, not-true}
use Rattle.task_sheet.proofs.Common.{Indexes, IsPart, no_index, below, with_index, without_index}
use Rattle.task_sheet.proofs.Common.{among, IsOrderOf}
use Rattle.task_sheet.proofs.IndexLaws.{count-cons, same_parts, without-parts, IsOrderOf-among}
use Rattle.task_sheet.proofs.IndexLaws.{IsOrderOf-head, IsOrderOf-rest}
use Rattle.cert_checker.specs.CertificateFaults.{are_new, has_all}

new-parts : (n : ℕ) (seen : Indexes) (x : ℕ) (ks : List ℕ) → are_new n seen (x ∷ ks) ≡ true
    → (x < n) × (seen x ≡ false) × (are_new n (with_index seen x) ks ≡ true)
new-parts n seen x ks h =
    let both = and_parts _ _ h in
    let first = and_parts _ _ both.0 in
    (ltb-true x n first.0, not-true (seen x) first.1, both.1)

none-count : (b : Bool) → 0 + cond b 1 0 ≡ cond (b || false) 1 0
none-count true = refl
none-count false = refl

step-count : (same same' seen later : Bool) (count : ℕ) → same ≡ same'
    → (same ≡ true → seen ≡ false)
    → count + cond (same || seen) 1 0 ≡ cond ((same || seen) || later) 1 0
    → (cond same' 1 0 + count) + cond seen 1 0 ≡ cond (seen || (same' || later)) 1 0
step-count true true true later count e fresh h = absurd (both_ways true (fresh refl) refl)
step-count true true false later count e fresh h = omega arith
step-count false false seen later count e fresh h = omega (arith, h)
step-count true false seen later count e fresh h = absurd cc
step-count false true seen later count e fresh h = absurd cc

new-count : (n : ℕ) (seen : Indexes) (ks : List ℕ) (k : ℕ) → are_new n seen ks ≡ true
    → count_by (λ x. x == k) ks + cond (seen k) 1 0 ≡ cond (seen k || among ks k) 1 0
new-count n seen [] k h = none-count (seen k)
new-count n seen (x ∷ ks) k h =
    let p = new-parts n seen x ks h in
    let rest = new-count n (with_index seen x) ks k p.2 in
    ap (λ (c : ℕ). c + cond (seen k) 1 0) (count-cons x k ks)
    ∙ step-count (k == x) (x == k) (seen k) (among ks k) (count_by (λ y. y == k) ks)
    (nat_eq_equiv.symm k x) (λ e. ap seen (eqb-true k x e) ∙ p.1) rest

pub new-order : (n : ℕ) (ks : List ℕ) → are_new n no_index ks ≡ true → IsOrderOf (among ks) ks
new-order n ks h k = let c = new-count n no_index ks k h in omega (arith, c)

new-below : (n : ℕ) (seen : Indexes) (ks : List ℕ) (k : ℕ) → are_new n seen ks ≡ true
    → among ks k ≡ true → k < n
new-below n seen [] k h is = absurd (both_ways false refl is)
new-below n seen (x ∷ ks) k h is =
    let p = new-parts n seen x ks h in
    elim (or_cases (x == k) (among ks k) is) [
      | inl e ↦ let same : x ≡ k = eqb-true x k e in omega (arith, p.0)
      | inr later ↦ new-below n (with_index seen x) ks k p.2 later
    ]

pub new-part : (n : ℕ) (ks : List ℕ) → are_new n no_index ks ≡ true → IsPart (among ks) (below n)
new-part n ks h k is = lt-ltb k n (new-below n no_index ks k h is)

has_all-each : (n : ℕ) (L : Indexes) (k : ℕ) → has_all n L ≡ true → k < n → L k ≡ true
has_all-each zero L k h lt = absurd (omega arith)
has_all-each (suc n) L k h lt =
    let both = and_parts _ _ h in
    elim (cases_eq k n) [
      | inl e ↦ ap L e ∙ both.1
      | inr ne ↦ has_all-each n L k both.0 (omega arith)
    ]

has_all-from : (n : ℕ) (L : Indexes) → ((k : ℕ) → k < n → L k ≡ true) → has_all n L ≡ true
has_all-from zero L h = refl
has_all-from (suc n) L h =
    and_from _ _ (has_all-from n L (λ k lt. h k (omega arith))) (h n (omega arith))

-- each task once, and every task
pub order-sound : (n : ℕ) (ks : List ℕ) → are_new n no_index ks ≡ true → has_all n (among ks) ≡ true
    → IsOrderOf (below n) ks
order-sound n ks h all =
    let same : among ks ≡ below n = same_parts (among ks) (below n) (new-part n ks h)
    (λ k is. has_all-each n (among ks) k all (ltb-true k n is)) in
    subst (λ (L : Indexes). IsOrderOf L ks) same (new-order n ks h)

new-complete : (n : ℕ) (seen L : Indexes) (ks : List ℕ) → IsOrderOf L ks → IsPart L (below n)
    → ((k : ℕ) → L k ≡ true → seen k ≡ false) → are_new n seen ks ≡ true
new-complete n seen L [] each part apart = refl
new-complete n seen L (x ∷ ks) each part apart =
    let member = IsOrderOf-head L x ks each in
    and_from _ _ (and_from _ _ (part x member) (ap not (apart x member)))
    (new-complete n (with_index seen x) (without_index L x) ks (IsOrderOf-rest L x ks each)
    (λ k is. part k (without-parts L x k is).0)
    (λ k is. let both = without-parts L x k is in rw (ne_eqb k x both.1) (apart k both.0)))

pub set-complete : (n : ℕ) (L : Indexes) (ks : List ℕ) → IsOrderOf L ks → IsPart L (below n)
    → are_new n no_index ks ≡ true
set-complete n L ks each part = new-complete n no_index L ks each part (λ k is. refl)

pub order-complete : (n : ℕ) (ks : List ℕ) → IsOrderOf (below n) ks
    → (are_new n no_index ks && has_all n (among ks)) ≡ true
order-complete n ks each =
    and_from _ _ (set-complete n (below n) ks each (λ k is. is)) (has_all-from n (among ks)
    (λ k lt. ap (λ (L : Indexes). L k) (IsOrderOf-among (below n) ks each) ∙ lt-ltb k n lt))
