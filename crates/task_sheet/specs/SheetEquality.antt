-- Equality of sections and of sheets as a test: an equivalence that holds of equal values alone.
use Rattle.std.specs.Prelude.{◌≡◌, Bool}
use Rattle.std.proofs.Common.{refl, sym, ap, subst, Decides}
use Rattle.std.specs.Cmp.{IsPartialEquivalence, IsEquivalence, partial_equiv_from_equiv}
use Rattle.std.proofs.lemmas.Bool.Decides.{Decides-and, Decides-eqb, Decides-like, same_from_decides}
use Rattle.std.proofs.lemmas.Slice.Eq.{slice_eq-Decides, bytes_eq-Decides}
use Rattle.task_sheet.specs.declared.node.Node.{Node}
use Rattle.task_sheet.specs.declared.node.Interrupt.{Interrupt}
use Rattle.task_sheet.specs.Sheet.{CriticalSection, OutranksData, Named, AllOthers, Task, same_section, same_outranks, same_node, same_interrupt, same_sheet}

-- a test that decides equality is an equivalence
pub equivalence_of : {X : Type 0} {E : X → X → Bool} → ((x y : X) → Decides (E x y) (x ≡ y))
    → IsEquivalence E
equivalence_of {E = E} decides = record {
  refl = λ x. (decides x x).1 refl;
  symm = λ x y. same_from_decides _ _ (decides x y) (Decides-like _ sym sym (decides y x));
  congr = λ x y z h. ap (λ v. E v z) ((decides x y).0 h);
}

-- it does where it decides whether the parts are equal
from_parts : {X : Type 0} {E : X → X → Bool} (P : X → X → Type 0)
    → ((x y : X) → Decides (E x y) (P x y)) → ((x : X) → P x x) → ((x y : X) → P x y → x ≡ y)
    → (x y : X) → Decides (E x y) (x ≡ y)
from_parts P parts own same x y =
    Decides-like _ (same x y) (λ e. subst (P x) e (own x)) (parts x y)

pub same_section-Decides : (x y : CriticalSection) → Decides (same_section x y) (x ≡ y)
same_section-Decides = from_parts _
    (λ x y. Decides-and _ _ (slice_eq-Decides bytes_eq-Decides x.locks y.locks _ refl)
    (Decides-and _ _ (Decides-eqb x.at y.at) (Decides-eqb x.len y.len)))
    (λ x. (refl, (refl, refl)))
    (λ x y h i. record { locks = h.0 i; at = h.1.0 i; len = h.1.1 i })

pub same_outranks-Decides : (x y : OutranksData) → Decides (same_outranks x y) (x ≡ y)
same_outranks-Decides (Named xs) (Named ys) =
    Decides-like _ (ap Named) (λ e. cc) (slice_eq-Decides bytes_eq-Decides xs ys _ refl)
same_outranks-Decides AllOthers AllOthers = (λ _. refl, λ _. refl)
same_outranks-Decides x y = (λ e. cc, λ e. cc)

pub same_node-Decides : (x y : Node) → Decides (same_node x y) (x ≡ y)
same_node-Decides = from_parts _
    (λ x y. Decides-and _ _ (Decides-eqb x.job y.job)
    (Decides-and _ _ (Decides-eqb x.lock y.lock)
    (Decides-and _ _ (Decides-eqb x.late y.late) (Decides-eqb x.release y.release))))
    (λ x. (refl, (refl, (refl, refl))))
    (λ x y h i. record { job = h.0 i; lock = h.1.0 i; late = h.1.1.0 i; release = h.1.1.1 i })

pub same_interrupt-Decides : (x y : Interrupt) → Decides (same_interrupt x y) (x ≡ y)
same_interrupt-Decides = from_parts _
    (λ x y. Decides-and _ _ (Decides-eqb x.period y.period) (Decides-eqb x.cost y.cost))
    (λ x. (refl, refl))
    (λ x y h i. record { period = h.0 i; cost = h.1 i })

pub same_sheet-Decides : (x y : Task) → Decides (same_sheet x y) (x ≡ y)
same_sheet-Decides = from_parts _
    (λ x y. Decides-and _ _ (bytes_eq-Decides x.name y.name)
    (Decides-and _ _ (Decides-eqb x.weight y.weight)
    (Decides-and _ _ (Decides-eqb x.period y.period)
    (Decides-and _ _ (Decides-eqb x.deadline y.deadline)
    (Decides-and _ _ (Decides-eqb x.cost y.cost)
    (Decides-and _ _ (Decides-eqb x.jitter y.jitter)
    (Decides-and _ _ (slice_eq-Decides same_section-Decides x.sections y.sections _ refl)
    (Decides-and _ _ (same_outranks-Decides x.outranks y.outranks)
    (Decides-and _ _ (same_node-Decides x.node y.node)
    (slice_eq-Decides same_interrupt-Decides x.interrupts y.interrupts _ refl))))))))))
    (λ x. (refl, (refl, (refl, (refl, (refl, (refl, (refl, (refl, (refl, refl))))))))))
    (λ x y h.
    let times = h.1.1 in
    let lists = times.1.1.1.1 in
    λ i. record {
      name = h.0 i;
      weight = h.1.0 i;
      period = times.0 i;
      deadline = times.1.0 i;
      cost = times.1.1.0 i;
      jitter = times.1.1.1.0 i;
      sections = lists.0 i;
      outranks = lists.1.0 i;
      node = lists.1.1.0 i;
      interrupts = lists.1.1.1 i;
    })

pub same_section_laws : IsPartialEquivalence same_section
same_section_laws = partial_equiv_from_equiv (equivalence_of same_section-Decides)

pub same_sheet_laws : IsPartialEquivalence same_sheet
same_sheet_laws = partial_equiv_from_equiv (equivalence_of same_sheet-Decides)
