use Rattle.std.proofs.Common.{◌≡◌, List, [], ap, sym, append-nil, string_bytes, slice_index_or}
use Rattle.std.proofs.Common.{arith}
use Rattle.ceiling_kernel.specs.declared.trace.JobRecord.{JobRecord}
use Rattle.ceiling_kernel.specs.Runs.{no_record}
use Rattle.printed_runs.proofs.text.push_job_name.Goals as goal

-- past the end stands a job with no name
pub returns-in-None : goal.returns-in-None
returns-in-None c =
    let jobs : List JobRecord = c.args.jobs.now in
    let nameless : (slice_index_or jobs c.args.place no_record).name ≡ [] =
    ap (λ (j : JobRecord). j.name) (sym (c.in-None.ensures.lookup.4 (omega arith) no_record)) in
    rw nameless (sym (append-nil (string_bytes c.args.text.now)))
