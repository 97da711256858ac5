-- The checks of the levels, one level after the other.
use Rattle.std.proofs.Common.{◌≡◌, ℕ, zero, suc, ◌+◌, ◌<◌, Bool, true, false, ◌&&◌, List, [], ◌∷◌}
use Rattle.std.proofs.Common.{length, drop, get_or, All, Option, Some, None, refl, sym, ◌∙◌, ap}
use Rattle.std.proofs.Common.{arith, inl, inr}
use Rattle.std.specs.List.{AllByRecursion}
use Rattle.std.proofs.lemmas.Bool.{cases_eq, and_parts, ltb-true}
use Rattle.std.proofs.lemmas.List.Elements.{All-from_recursion}
use Rattle.task_sheet.proofs.Common.{Task, Indexes, no_index, with_index, without_index, among}
use Rattle.task_sheet.proofs.Common.{order_of}
use Rattle.certificate.specs.Body.{CertLevelData}
use Rattle.cert_checker.specs.Ready.{task_by_name, levels_of}
use Rattle.cert_checker.specs.CertificateFaults.{are_new, has_all, first_unnamed, level_fault, levels_fault}
use Rattle.cert_checker.specs.declared.levels.LevelCheck.{LevelCheck}
use Rattle.cert_checker.specs.declared.fault.CheckFault.{CheckFault}
use Rattle.cert_checker.proofs.SeenSteps.{dropped}

-- the least index that is missing
pub missing-at : (L : Indexes) (named : List ℕ) (k n : ℕ) → k < n → first_unnamed L named k ≡ None
    → L k ≡ true → among named k ≡ false → first_unnamed L named n ≡ Some k
missing-at L named k zero lt none member out = absurd (omega arith)
missing-at L named k (suc n) lt none member out = elim (cases_eq k n) [
  | inl e ↦
      let before : first_unnamed L named n ≡ None = rw (← e) none in
      let here : L n ≡ true = rw (← e) member in
      let gone : among named n ≡ false = rw (← e) out in
      let same : Some n ≡ Some k = ap (λ (m : ℕ). Some m) (sym e) in
      rw (before, here, gone) same
  | inr ne ↦
      let before : first_unnamed L named n ≡ Some k =
      missing-at L named k n (omega arith) none member out in
      rw before refl
]

-- one level more
pub levels-step : (U : List Task) (asked : LevelCheck) (L M : Indexes) (ls : List CertLevelData)
    (i : ℕ) (l : CertLevelData) (total : Option CheckFault) → i < length ls → l ≡ get_or ls i l
    → level_fault U asked (i + 1) L l ≡ None → M ≡ without_index L (task_by_name U l.name)
    → levels_fault U asked (i + 1) L (drop i ls) ≡ total
    → levels_fault U asked (i + 1 + 1) M (drop (i + 1) ls) ≡ total
levels-step U asked L M ls i l total lt e none is h =
    ap (λ (X : Indexes). levels_fault U asked (i + 1 + 1) X (drop (i + 1) ls)) is
    ∙ sym (ap (levels_fault U asked (i + 1) L) (dropped ls i l lt e) ∙ rw none refl) ∙ h

-- levels that name tasks each once name tasks
new-known : (U : List Task) (seen : Indexes) (ls : List CertLevelData)
    → are_new (length U) seen (order_of (levels_of U ls)) ≡ true
    → AllByRecursion (λ (l : CertLevelData). task_by_name U l.name < length U) ls
new-known U seen [] h = tt
new-known U seen (l ∷ ls) h =
    let parts = and_parts _ _ h in (
      ltb-true _ _ (and_parts _ _ parts.0).0,
      new-known U (with_index seen (task_by_name U l.name)) ls parts.1,
    )

pub levels-known : (U : List Task) (ls : List CertLevelData) (is : Bool)
    → is ≡ (are_new (length U) no_index (order_of (levels_of U ls))
    && has_all (length U) (among (order_of (levels_of U ls)))) → is ≡ true
    → All (λ (l : CertLevelData). task_by_name U l.name < length U) ls
levels-known U ls is told holds =
    All-from_recursion (λ (l : CertLevelData). task_by_name U l.name < length U) ls
    (new-known U no_index ls (and_parts _ _ (sym told ∙ holds)).0)
