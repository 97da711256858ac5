-- The first name on which two rosters differ.
use Rattle.std.proofs.Common.{◌≡◌, ◌≢◌, ℕ, true, inl, inr, ◌⊎◌, List, [], ◌∷◌, ◌++◌, Option, None}
use Rattle.std.proofs.Common.{Some, MatchOption, IfSome, refl, sym, ◌∙◌, ap, subst, arith}
use Rattle.std.specs.Ordering.{nat_cmp, is_lt}
use Rattle.std.specs.Cmp.{tied_itself}
use Rattle.std.specs.Cmp.Lexicographic.{slice_cmp, nat_list_cmp_total}
use Rattle.std.proofs.lemmas.Bool.{cases_Bool, false≢true}
use Rattle.std.proofs.lemmas.List.Folds.{find-append}
use Rattle.std.proofs.lemmas.Slice.Eq.{bytes_eq-Decides}
use Rattle.drafts.specs.declared.roster.Owned.{Owned}
use Rattle.drafts.specs.Applied.{bears_name, held}
use Rattle.drafts.specs.Rosters.{IsRoster}
use Rattle.drafts.proofs.ReachedLaws.{reached}
use Rattle.drafts.proofs.RosterLaws.{less}
use Rattle.book_lock.specs.Own.{IsForeignName}

-- the name is before the one that was found, if one was
abbrev pub IsBefore : List ℕ → Option (List ℕ) → Type 0
IsBefore name first = IfSome first (λ f. is_lt (slice_cmp nat_cmp name f) ≡ true)

-- what was found among the names of some tasks: a name on which the two differ, or none, and they
-- agree on those before
pub record IsFound (book pass seen : List Owned) (first : Option (List ℕ)) : Type 0 where
  pub differs : IfSome first (λ name. held name book ≢ held name pass)
  pub agree : (name : List ℕ) → IsBefore name first
      → (held name seen ≡ None) ⊎ (held name book ≡ held name pass)

-- ---- one task more
before-both : (other name : List ℕ) (first : Option (List ℕ))
    → is_lt (slice_cmp nat_cmp other name) ≡ true → IsBefore name first → IsBefore other first
before-both other name None lt before = tt
before-both other name (Some f) lt before = ap is_lt (nat_list_cmp_total.trans other name f
    (less (slice_cmp nat_cmp other name) lt) (less (slice_cmp nat_cmp name f) before))

more : (name : List ℕ) (seen : List Owned) (o : Owned) (A : Type 0) → (held name seen ≡ None) ⊎ A
    → (o.sheet.name ≡ name → A) → (held name (seen ++ o ∷ []) ≡ None) ⊎ A
more name seen o A (inr a) new = inr a
more name seen o A (inl none) new = elim (cases_Bool (bears_name name o)) [
  | inl here ↦ inr (new ((bytes_eq-Decides o.sheet.name name).0 here))
  | inr away ↦ inl (find-append (bears_name name) seen (o ∷ []) ∙ rw (none, away) refl)
]

module _ {book pass seen : List Owned} {first : Option (List ℕ)} (o : Owned) where
  pub found-same : IsFound book pass seen first
      → (IsBefore o.sheet.name first → held o.sheet.name book ≡ held o.sheet.name pass)
      → IsFound book pass (seen ++ o ∷ []) first
  found-same is here = record {
    differs = is.differs;
    agree = λ name before. more name seen o (held name book ≡ held name pass) (is.agree name before)
        (λ e. subst (λ n. held n book ≡ held n pass) e
        (here (subst (λ n. IsBefore n first) (sym e) before)));
  }

  pub found-new : IsFound book pass seen first → IsBefore o.sheet.name first
      → held o.sheet.name book ≢ held o.sheet.name pass
      → IsFound book pass (seen ++ o ∷ []) (Some o.sheet.name)
  found-new is before differs = record {
    differs = differs;
    agree = λ name lt. more name seen o (held name book ≡ held name pass)
        (is.agree name (before-both name o.sheet.name first lt before))
        (λ e. absurd (false≢true (sym (ap is_lt (tied_itself nat_list_cmp_total name))
        ∙ subst (λ n. is_lt (slice_cmp nat_cmp name n) ≡ true) e lt)));
  }

-- ---- all tasks of the two
whole : (book pass : List Owned) (name : List ℕ)
    → (held name (book ++ pass) ≡ None) ⊎ (held name book ≡ held name pass)
    → held name book ≡ held name pass
whole book pass name (inr same) = same
whole book pass name (inl none) = grind (arith, find-append (bears_name name) book pass)

pub foreign-found : {book pass : List Owned} {first : Option (List ℕ)} → IsRoster book
    → IsRoster pass → IsFound book pass (book ++ pass) first
    → MatchOption first (book ≡ pass) (λ name. IsForeignName book pass name)
foreign-found {book} {pass} {first = None} b p is =
    reached book pass b p (λ name. whole book pass name (is.agree name tt))
foreign-found {book} {pass} {first = Some name} b p is = record {
  differs = is.differs;
  first = λ other lt. whole book pass other (is.agree other lt);
}
