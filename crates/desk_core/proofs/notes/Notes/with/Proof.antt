-- A value of no bytes is made, with the list that the clause names.
use Rattle.std.proofs.Common.{[], ◌∷◌, refl}
use Rattle.std.proofs.raw_atomic.Walks.{proved}
use Rattle.std.specs.contracts.snapshot.Snapshot as snapshot
use base.Logic.{emp, via, fst∗}
use contract.Running.{tables}
use denote.Exit.{yes}
use denote.RattleType.{RattleType, owns}
use denote.Ref.{shr_vals, shr_Tells}
use denote.Shadow.{pure_i}
use denote.Signature.{plain, types_at}
use denote.Triple.Entry.{alive}
use denote.Triple.Walked.{says, stay_none_ref, Goes-none_ref, Stays, walk_of, ends_at}
use mir.Syntax.{named}
use mir.Val.{Val, vptr, vstruct, vnil}
use types.ByLocal.{alloc_all, pass_all, free_all, look_at, sets}
use types.Kit.{‵, raw, ◌$◌, ◌∵◌, !, qed, move, suffices, done}
use types.Part.{agg}
use types.Run.{no_more, returns, enter}
use Rattle.assignment.specs.contracts.question.Finding as finding
use Rattle.desk_core.specs.declared.notes.Notes.{Notes}
use Rattle.desk_core.specs.Findings.{asked_of, found_after}
use Rattle.desk_core.specs.contracts.told.Told as told
use Rattle.desk_core.specs.contracts.notes.Notes as made
use Rattle.desk_core.specs.contracts.notes.Notes.with as f
use Rattle.desk_core.proofs.notes.Notes.with.Statement.{statement}
use Rattle.desk_core.proofs.notes.Notes.with.Code as code

abbrev N : RattleType
N = made.the_row

abbrev S : RattleType
S = snapshot.the_row finding.the_row

abbrev T : RattleType
T = told.the_row

abbrev stayed : Stays f.ended.signature.params f.ended.kept
stayed = (
  stay_none_ref (0 ∷ []) tt (plain (λ _. N)) yes,
  (
    stay_none_ref (1 ∷ []) tt (plain (λ _. S)) yes,
    (stay_none_ref (2 ∷ []) tt (plain (λ _. T)) yes, tt),
  ),
)

pub with_spec : {M : Type 1} → statement M
with_spec 𝓤 𝓛 𝓜 𝓡 wired =
    let c = f.clauses 𝓛 𝓜.mem 𝓡.returns in
    let 𝓣 = tables 𝓤 𝓛.H 𝓜 𝓡 𝓡.env in
    proved 𝓛 f.ended stayed c 𝓜 𝓡 (
      Goes-none_ref 𝓛 3 (0 ∷ []) tt (plain (λ _. N)) yes,
      (
        Goes-none_ref 𝓛 3 (1 ∷ []) tt (plain (λ _. S)) yes,
        (Goes-none_ref 𝓛 3 (2 ∷ []) tt (plain (λ _. T)) yes, tt),
      ),
    )
    f.Key.name code.function (code.unfolded 𝓤 𝓛.H 𝓜 𝓡 wired)
    (λ κs. (shr_vals, (shr_vals, (shr_vals, tt))))
    (λ κs. (
      shr_Tells (named 0) κs.0 N,
      (shr_Tells (named 1) κs.1.0 S, (shr_Tells (named 2) κs.1.1.0 T, tt)),
    ))
    (λ κs qs bounds a g are.
    let u : Val = vptr a.0.ref_ptr.0 a.0.ref_ptr.1 in
    let v : Val = vptr a.1.0.ref_ptr.0 a.1.0.ref_ptr.1 in
    let w : Val = vptr a.1.1.0.ref_ptr.0 a.1.1.0.ref_ptr.1 in
    let y : (walk_of 𝓛 f.ended stayed c).Ghost =
    ((κs, qs, bounds, a, (u ∷ [], (v ∷ [], (w ∷ [], tt)))), g) in
    let r : Notes =
    record { items = found_after a.0.now.items (asked_of a.1.0.now.value.question) a.1.1.0.now } in
    via 𝓤 _ (fst∗ 𝓤 _ (emp 𝓤)) (
    qed 𝓛
    (raw (alive 𝓛 f.signature κs qs) ∷ ‵ (owns (types_at f.signature.params κs) a y.0.4) ∷ []) ∵
    enter ! 𝓣.C 𝓣.Λ code.function (u ∷ v ∷ w ∷ []) _ $
    alloc_all ! (λ l. pass_all ! refl ((tt, tt), ((tt, tt), ((tt, tt), tt))) $
    sets ! (agg ! (no_more !)) refl (tt, tt) $ returns ! (look_at ! 0 refl) $ free_all ! refl $
    suffices ! _
    (ends_at 𝓛 f.ended stayed c y (vstruct vnil) r (tt, (tt, (tt, tt))) (tt, (tt, (tt, tt)))) $
    says ! refl $
    pure_i ! (made.the_row.own_val r (vstruct vnil ∷ [])) ((λ vss. (tt, tt)), tt)
    ((tt, (refl, tt)), tt) $
    move ! (1 ∷ 2 ∷ 0 ∷ []) $ done !)))
