-- The jobs and the records of a release list, and what a run reads of its lists.
use Rattle.std.proofs.Common.{ℕ, zero, suc, ◌+◌, ◌<◌, ◌≡◌, refl, sym, ap, ap₂, ◌∙◌, arith, List, []}
use Rattle.std.proofs.Common.{◌∷◌, ◌++◌, length, get_or, map, take, Option, Some, None, true, false}
use Rattle.std.proofs.Common.{is_some, slice_index_or, replicate}
use Rattle.std.proofs.lemmas.Bool.{true≢false}
use Rattle.std.proofs.lemmas.List.{length-map, length-take, take_more, get_or_default}
use Rattle.task_sheet.specs.Sheet.{Task}
use Rattle.ceiling_kernel.specs.declared.trace.Release.{Release}
use Rattle.ceiling_kernel.specs.declared.run.Pending.{Pending}
use Rattle.ceiling_kernel.proofs.Common.{Node, Job, job_at, slices_before, finish_before}
use Rattle.ceiling_kernel.proofs.Common.{task_number, job_of, jobs_of, release_at, record_of}
use Rattle.ceiling_kernel.proofs.Common.{records_from}

-- ---- releases and jobs
pub job_is : (U : List Task) (rs : List Release) (j : ℕ) → j < length rs
    → job_at (jobs_of U rs) j ≡ job_of U (release_at rs j)
job_is U [] j lt = absurd (omega arith)
job_is U (r ∷ rs) zero lt = refl
job_is U (r ∷ rs) (suc j) lt = job_is U rs j (omega arith)

pub jobs_length : (U : List Task) (rs : List Release) → length (jobs_of U rs) ≡ length rs
jobs_length U rs = length-map rs (job_of U)

pub records_length : (node : Node) (jobs : List Job) (t k : ℕ) (rs : List Release)
    → length (records_from node jobs t k rs) ≡ length rs
records_length node jobs t k [] = refl
records_length node jobs t k (r ∷ rs) = ap suc (records_length node jobs t (k + 1) rs)

numbers_at : (U : List Task) (rs : List Release) (j : ℕ) → j < length rs
    → get_or (map (task_number U) rs) j 0 ≡ task_number U (release_at rs j)
numbers_at U [] j lt = absurd (omega arith)
numbers_at U (r ∷ rs) zero lt = refl
numbers_at U (r ∷ rs) (suc j) lt = numbers_at U rs j (omega arith)

-- the kept index of a release's task
pub place_is : (U : List Task) (rs : List Release) (places : List ℕ) (j : ℕ) → places
    ≡ map (task_number U) rs → j < length rs → get_or places j 0 ≡ task_number U (release_at rs j)
place_is U rs places j e lt = ap (λ x. get_or x j 0) e ∙ numbers_at U rs j lt

-- what `v[i]` reads, at another default
pub read_at : {X : Type 0} (xs : List X) (i : ℕ) (x d : X) → i < length xs
    → x ≡ slice_index_or xs i x → slice_index_or xs i d ≡ x
read_at xs i x d lt e = get_or_default xs i d x lt ∙ sym e

-- what is read where every element is the default
pub replicated : {X : Type 0} (n i : ℕ) (x : X) → slice_index_or (replicate n x) i x ≡ x
replicated zero i x = refl
replicated (suc n) zero x = refl
replicated (suc n) (suc i) x = replicated n i x

pub some_from : (o : Option Pending) → true ≡ is_some o → (q : Pending) × (o ≡ Some q)
some_from None e = absurd (true≢false e)
some_from (Some q) e = (q, refl)

pub none_from : (o : Option Pending) → false ≡ is_some o → o ≡ None
none_from None e = refl
none_from (Some q) e = absurd (true≢false (sym e))

pub no_slices : (run : ℕ → Option ℕ) → [] ≡ slices_before run 0
unfolding slices_before
no_slices run = refl

pub finish_first : (node : Node) (jobs : List Job) (j : ℕ) → finish_before node jobs 0 j ≡ None
unfolding finish_before
finish_first node jobs j = refl

-- ---- records
records-more : (node : Node) (jobs : List Job) (t k : ℕ) (rs : List Release) (r : Release)
    → records_from node jobs t k (rs ++ r ∷ []) ≡ records_from node jobs t k rs
    ++ record_of node jobs t (k + length rs) r ∷ []
records-more node jobs t k [] r =
    (let e : k + 0 ≡ k = omega arith in ap (λ x. record_of node jobs t x r ∷ []) (sym e))
records-more node jobs t k (s ∷ rs) r =
    let e : k + 1 + length rs ≡ k + suc (length rs) = omega arith in
    ap (λ x. record_of node jobs t k s ∷ x) (records-more node jobs t (k + 1) rs r
    ∙ ap (λ x. records_from node jobs t (k + 1) rs ++ record_of node jobs t x r ∷ []) e)

pub records-next : (node : Node) (jobs : List Job) (t : ℕ) (rs : List Release) (k : ℕ) (r : Release)
    → k < length rs → r ≡ get_or rs k r →
    records_from node jobs t 0 (take (k + 1) rs) ≡ records_from node jobs t 0 (take k rs)
    ++ record_of node jobs t k r ∷ []
records-next node jobs t rs k r lt same =
    let n : 0 + length (take k rs) ≡ k = omega (arith, length-take k rs) in
    ap (records_from node jobs t 0) (take_more rs k r lt)
    ∙ (records-more node jobs t 0 (take k rs) (get_or rs k r)
    ∙ ap₂ (λ m x. records_from node jobs t 0 (take k rs) ++ record_of node jobs t m x ∷ []) n
    (sym same))
