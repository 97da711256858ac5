-- A certificate without a fault is ready, and a ready one has no fault.
use Rattle.std.proofs.Common.{◌≡◌, ◌↔◌, ℕ, suc, ◌+◌, ◌<◌, ◌≤◌, Bool, true, false, cond, ◌&&◌, ◌==◌}
use Rattle.std.proofs.Common.{not, List, [], ◌∷◌, length, Option, Some, None, refl, ap, arith}
use Rattle.std.specs.Bool.{Decides}
use Rattle.std.specs.Option.{option_or}
use Rattle.std.proofs.lemmas.Slice.Eq.{bytes_eq-Decides}
use Rattle.std.specs.List.{AllByRecursion}
use Rattle.std.proofs.lemmas.Bool.{and_parts, both_ways, or_left, ltb-true, eq-eqb, not-true}
use Rattle.std.proofs.lemmas.Bool.Decides.{nat_tests, Decides-and, Decides-ltb}
use Rattle.task_sheet.proofs.Common.{Task, task_at, Indexes, IsPart, no_index, without_index, among}
use Rattle.task_sheet.proofs.Common.{demand_of, limit_of, all_of, must_outrank, must_outrank_any, IsOrderOf}
use Rattle.task_sheet.proofs.Common.{LevelData, tasks_of, order_of, AllReady, IsReadyOrder, IsReadySet}
use Rattle.task_sheet.specs.Ready.{time_of, Refutes, AllRefuted, IsReadyLevel}
use Rattle.task_sheet.proofs.IndexLaws.{IsOrderOf-head, IsOrderOf-rest, without-part_of}
use Rattle.task_sheet.proofs.IndexLaws.{order-below}
use Rattle.certificate.specs.Body.{CertReasonData, Chain, Over, Fail, CertLevelData, Body, Best}
use Rattle.certificate.specs.Body.{NoOrder, Cert}
use Rattle.certificate.specs.CertificateOf.{shows_chains}
use Rattle.certificate.specs.declared.value.CertChain.{CertChain}
use Rattle.certificate.specs.Versions.{version_for}
use Rattle.chain_tables.specs.Chains.{ChainData}
use Rattle.certificate.proofs.VerdictSpelling.{fails-below}
use Rattle.cert_checker.specs.Ready.{task_by_name, reason_by_index, failures_of, level_by_index}
use Rattle.cert_checker.specs.Ready.{levels_of, may_serve, AreReadyChains, IsReadyBody, IsReady}
use Rattle.cert_checker.specs.Ages.{covers_chain}
use Rattle.cert_checker.specs.CertificateFaults.{fault_unless, are_new, has_all, are_lesser, time_stands}
use Rattle.cert_checker.specs.CertificateFaults.{refutes, is_refuted, bad_fail, first_unnamed, missing_at}
use Rattle.cert_checker.specs.CertificateFaults.{level_fault, levels_fault, order_fault, set_fault, body_fault}
use Rattle.cert_checker.specs.CertificateFaults.{are_named, bad_age, chains_fault, check_fault}
use Rattle.cert_checker.specs.declared.fault.CheckFault.{CheckFault}
use Rattle.cert_checker.specs.declared.fault.CheckFault.TheVariants.{WrongVersion, BadChain}
use Rattle.cert_checker.specs.declared.fault.CheckFault.TheVariants.{EmptySet, WrongChains, BadAge}
use Rattle.cert_checker.specs.declared.levels.LevelCheck.{LevelCheck}
use Rattle.cert_checker.specs.declared.levels.LevelCheck.TheVariants.{Tasks, Pass, Chains, Missing}
use Rattle.cert_checker.proofs.Tests.{at_most, as_said, chain-decides}
use Rattle.cert_checker.proofs.LesserLaws.{none-or, lesser-sound, lesser-complete}
use Rattle.cert_checker.proofs.NamedLaws.{new-order, new-part, order-sound, set-complete}
use Rattle.cert_checker.proofs.NamedLaws.{order-complete}

-- ---- no fault
none-both : {A P Q : Type 0} (o p : Option A) → (o ≡ None) ↔ P → (p ≡ None) ↔ Q
    → (option_or o p ≡ None) ↔ (P × Q)
none-both None p a b = (λ e. (a.0 refl, b.0 e), λ h. b.1 h.1)
none-both (Some x) p a b = (λ e. absurd cc, λ h. let none = a.1 h.0 in absurd cc)

none-unless : {P : Type 0} (b : Bool) (fault : CheckFault) → Decides b P
    → (fault_unless b fault ≡ None) ↔ P
none-unless true fault is = (λ e. is.0 refl, λ h. refl)
none-unless false fault is = (λ e. absurd cc, λ h. let met = is.1 h in absurd cc)

found : (U : List Task) (place : ℕ) (o : Option ℕ) → missing_at U place o ≡ None → o ≡ None
found U place None e = refl
found U place (Some k) e = absurd cc

-- ---- failures
refutes-decides : (U : List Task) (i : ℕ) (H : Indexes) (reason : CertReasonData)
    → Decides (refutes U i H reason) (Refutes U i H (reason_by_index U reason))
refutes-decides U i H (Chain numbers) =
    chain-decides (demand_of U i H) (limit_of (task_at U i)) numbers
refutes-decides U i H (Over other) =
    let k = task_by_name U other in
    let both = Decides-and _ _ (Decides-and _ _ (Decides-ltb k (length U)) (as_said (H k)))
    (as_said (must_outrank U i k)) in
    (λ h. let p = both.0 h in (p.0.0, p.0.1, p.1), λ h. both.1 ((h.0, h.1), h.2))

fails-none : (U : List Task) (place : ℕ) (L : Indexes) (fs : List Fail)
    → (bad_fail U place L fs ≡ None) ↔ (AllByRecursion (λ k. k < length U)
    (tasks_of (failures_of U fs)) × AllRefuted U L (failures_of U fs))
fails-none U place L [] = (λ e. (tt, tt), λ h. refl)
fails-none U place L (f ∷ fs) =
    let k = task_by_name U f.name in
    let both = none-both _ _ (none-unless (is_refuted U L f) (BadChain place f.name)
    (Decides-and _ _ (Decides-ltb k (length U))
    (refutes-decides U k (without_index L k) f.reason))) (fails-none U place L fs) in (
      λ e. let p = both.0 e in ((p.0.0, p.1.0), (p.0.1, p.1.1)),
      λ h. both.1 ((h.0.0, h.1.0), (h.0.1, h.1.1)),
    )

-- ---- a level
-- the response that a time gives leaves the time
time-own : (U : List Task) (l : CertLevelData) → time_of U (level_by_index U l) ≡ l.time
time-own U l = omega arith

time-stands : (U : List Task) (L : Indexes) (k time : ℕ) → Decides (time_stands U L k time)
    ((((1 ≤ time) × (time ≤ limit_of (task_at U k)))
    × (demand_of U k (without_index L k) time ≤ time))
    × (must_outrank_any U k (without_index L k) ≡ false))
time-stands U L k time = Decides-and _ _ (Decides-and _ _ (Decides-and _ _ (at_most 1 time)
    (at_most time (limit_of (task_at U k))))
    (at_most (demand_of U k (without_index L k) time) time))
    (not-true (must_outrank_any U k (without_index L k)), λ e. ap not e)

level-sound : (U : List Task) (place : ℕ) (L : Indexes) (l : CertLevelData)
    → ((asked : LevelCheck) → level_fault U asked place L l ≡ None)
    → IsReadyLevel U L (level_by_index U l)
level-sound U place L l h =
    let k = task_by_name U l.name in
    let fails = tasks_of (failures_of U l.fails) in
    let stands = (none-unless _ _ (time-stands U L k l.time)).0 (h Pass) in
    let lesser = (none-unless (are_lesser L 0 k fails) _ (as_said _)).0 (h Tasks) in
    let same = time-own U l in
    record {
      positive = omega (arith, same, stands.0.0.0);
      within = omega (arith, same, stands.0.0.1);
      covers = rw same stands.0.1;
      unbound = stands.1;
      lesser = lesser-sound L k fails lesser
          (found U place (first_unnamed L fails k) (h Missing));
      refuted = ((fails-none U place L l.fails).0 (h Chains)).1;
    }

level-complete : (U : List Task) (asked : LevelCheck) (place : ℕ) (L : Indexes) (l : CertLevelData)
    → task_by_name U l.name < length U → IsReadyLevel U L (level_by_index U l)
    → level_fault U asked place L l ≡ None
level-complete U Tasks place L l lt ready = (none-unless _ _ (as_said _)).1
    (lesser-complete L (task_by_name U l.name) _ ready.lesser).0
level-complete U Pass place L l lt ready =
    let same = time-own U l in
    (none-unless _ _ (time-stands U L (task_by_name U l.name) l.time)).1 (
      (
        (
          omega (arith, same, ready.positive),
          omega (arith, same, ready.within),
        ),
        rw same at ready.covers,
      ),
      ready.unbound,
    )
level-complete U Chains place L l lt ready =
    let known = fails-below (length U) L (task_by_name U l.name) _ lt ready.lesser in
    (fails-none U place L l.fails).1 (known, ready.refuted)
level-complete U Missing place L l lt ready =
    ap (missing_at U place) (lesser-complete L (task_by_name U l.name) _ ready.lesser).1

-- ---- the levels
levels-sound : (U : List Task) (place : ℕ) (L : Indexes) (ls : List CertLevelData)
    → ((asked : LevelCheck) → levels_fault U asked place L ls ≡ None)
    → AllReady U L (levels_of U ls)
levels-sound U place L [] h = tt
levels-sound U place L (l ∷ ls) h = (
  level-sound U place L l (λ asked. (none-or _ _ (h asked)).0),
  levels-sound U (place + 1) (without_index L (task_by_name U l.name)) ls
      (λ asked. (none-or _ _ (h asked)).1),
)

levels-complete : (U : List Task) (asked : LevelCheck) (place : ℕ) (L : Indexes)
    (ls : List CertLevelData) → IsOrderOf L (order_of (levels_of U ls)) → IsPart L (all_of U)
    → AllReady U L (levels_of U ls) → levels_fault U asked place L ls ≡ None
levels-complete U asked place L [] each part ready = refl
levels-complete U asked place L (l ∷ ls) each part ready =
    let k = task_by_name U l.name in
    let above = order_of (levels_of U ls) in
    let here = level-complete U asked place L l
    (ltb-true k (length U) (part k (IsOrderOf-head L k above each))) ready.0 in
    rw here (levels-complete U asked (place + 1) (without_index L k) ls
    (IsOrderOf-rest L k above each) (without-part_of (length U) L k part) ready.1)

-- ---- an order
guard-none : (b : Bool) (o : Option CheckFault) (fault : CheckFault) → cond b o (Some fault) ≡ None
    → (b ≡ true) × (o ≡ None)
guard-none true o fault e = (refl, e)
guard-none false o fault e = absurd cc

order-without_fault : (U : List Task) (ls : List CertLevelData) → order_fault U ls ≡ None
    → IsReadyOrder U (levels_of U ls)
order-without_fault U ls h =
    let g = guard-none _ _ _ h in
    let named = and_parts _ _ g.0 in
    let a = none-or _ _ g.1 in
    let b = none-or _ _ a.1 in
    let c = none-or _ _ b.1 in
    record {
      each_once = order-sound (length U) (order_of (levels_of U ls)) named.0 named.1;
      ready = levels-sound U 1 (all_of U) ls (each a.0 b.0 c.0 c.1);
    }
  where
    each : levels_fault U Tasks 1 (all_of U) ls ≡ None → levels_fault U Pass 1 (all_of U) ls ≡ None
        → levels_fault U Chains 1 (all_of U) ls ≡ None
        → levels_fault U Missing 1 (all_of U) ls ≡ None
        → (asked : LevelCheck) → levels_fault U asked 1 (all_of U) ls ≡ None
    each a b c d Tasks = a
    each a b c d Pass = b
    each a b c d Chains = c
    each a b c d Missing = d

order-ready : (U : List Task) (ls : List CertLevelData) → IsReadyOrder U (levels_of U ls)
    → order_fault U ls ≡ None
order-ready U ls ready =
    let n = length U in
    let order = order_of (levels_of U ls) in
    let all = all_of U in
    let none = λ (asked : LevelCheck). levels-complete U asked 1 all ls ready.each_once (λ k is. is)
    ready.ready in
    let named : (are_new n no_index order && has_all n (among order)) ≡ true =
    order-complete n order ready.each_once in
    rw (named, none Tasks, none Pass, none Chains) (none Missing)

-- ---- a set
set-some : (U : List Task) (cs : List Fail) → (fault_unless (not (length cs == 0)) EmptySet ≡ None)
    ↔ ((k : ℕ) × (among (tasks_of (failures_of U cs)) k ≡ true))
set-some U [] = (λ e. absurd cc, λ h. absurd (both_ways false refl h.1))
set-some U (c ∷ cs) =
    let k = task_by_name U c.name in
    let some : not (suc (length cs) == 0) ≡ true = grind (arith, nat_tests) in
    (λ e. (k, or_left (k == k) _ (eq-eqb k k refl)), λ h. rw some refl)

set-without_fault : (U : List Task) (cs : List Fail) → set_fault U cs ≡ None
    → IsReadySet U (failures_of U cs)
set-without_fault U cs h =
    let n = length U in
    let ks = tasks_of (failures_of U cs) in
    let g = guard-none _ _ _ h in
    let both = none-or _ _ g.1 in
    record {
      within = new-part n ks g.0;
      some = (set-some U cs).0 both.1;
      distinct = new-order n ks g.0;
      refuted = ((fails-none U 0 (among ks) cs).0 both.0).1;
    }

set-ready : (U : List Task) (cs : List Fail) → IsReadySet U (failures_of U cs)
    → set_fault U cs ≡ None
set-ready U cs ready =
    let n = length U in
    let ks = tasks_of (failures_of U cs) in
    let named : are_new n no_index ks ≡ true =
    set-complete n (among ks) ks ready.distinct ready.within in
    let known = order-below n (among ks) ks ready.distinct ready.within in
    rw (named, (fails-none U 0 (among ks) cs).1 (known, ready.refuted))
    ((set-some U cs).1 ready.some)

-- ---- the chains
module _ (U : List Task) (levels : List LevelData) where
  enough : (c : ChainData) (s : CertChain)
      → (fault_unless (covers_chain U levels c s.number) (BadAge c.name) ≡ None)
      ↔ (covers_chain U levels c s.number ≡ true)
  enough c s = none-unless (covers_chain U levels c s.number) (BadAge c.name) (as_said _)

  chains-sound : (chains : List ChainData) (said : List CertChain) → are_named chains said ≡ true
      → bad_age U levels chains said ≡ None → AreReadyChains U levels chains said
  chains-sound [] [] named none = tt
  chains-sound [] (s ∷ said) named none = absurd cc
  chains-sound (c ∷ chains) [] named none = absurd cc
  chains-sound (c ∷ chains) (s ∷ said) named none =
      let name = and_parts _ _ named in
      let a = none-or _ _ none in (
        (bytes_eq-Decides s.name c.name).0 name.0,
        (enough c s).0 a.0,
        chains-sound chains said name.1 a.1,
      )

  chains-complete : (chains : List ChainData) (said : List CertChain)
      → AreReadyChains U levels chains said
      → (are_named chains said ≡ true) × (bad_age U levels chains said ≡ None)
  chains-complete [] [] ready = (refl, refl)
  chains-complete [] (s ∷ said) ready = absurd ready
  chains-complete (c ∷ chains) [] ready = absurd ready
  chains-complete (c ∷ chains) (s ∷ said) ready =
      let others = chains-complete chains said ready.2 in (
        rw ((bytes_eq-Decides s.name c.name).1 ready.0) others.0,
        rw ((enough c s).1 ready.1) others.1,
      )

  chains-none : (chains : List ChainData) (said : List CertChain)
      → (chains_fault U levels chains said ≡ None) ↔ AreReadyChains U levels chains said
  chains-none chains said = (
    λ e. let g = guard-none _ _ WrongChains e in chains-sound chains said g.0 g.1,
    λ ready. let both = chains-complete chains said ready in rw both.0 both.1,
  )

-- ---- the whole
body-none : (U : List Task) (chains : List ChainData) (b : Body) (said : List CertChain)
    → (body_fault U chains b said ≡ None) ↔ IsReadyBody U chains b said
body-none U chains (Best levels) said = none-both _ _
    (order-without_fault U levels, order-ready U levels)
    (chains-none U (levels_of U levels) chains said)
body-none U chains (NoOrder members) said = (set-without_fault U members, set-ready U members)

pub faultless : (U : List Task) (chains : List ChainData) (c : Cert)
    → (check_fault U chains c ≡ None) ↔ IsReady U chains c
faultless U chains c =
    let both = none-both _ _ (none-unless _ WrongVersion
    (as_said (may_serve c.version (version_for (shows_chains c.body chains) U))))
    (body-none U chains c.body c.chains) in (
      λ e. let p = both.0 e in record { version = p.0; body = p.1 },
      λ h. both.1 (h.version, h.body),
    )
