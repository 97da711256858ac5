-- Which version the certificate of a set has.
use Rattle.std.specs.Prelude.{nat_lt, Bool, true, false, ◌||◌, List, if◌then◌else◌}
use Rattle.std.specs.List.{list_any}
use Rattle.task_sheet.specs.Sheet.{Task, outranks_task}
use Rattle.task_sheet.specs.Demand.{has_interrupts}
use Rattle.certificate.specs.declared.version.CertVersion.{CertVersion}
use Rattle.certificate.specs.declared.version.CertVersion.TheVariants.{First, Second, Fourth, Fifth}

-- some task of the set must stand above another one of it
unfoldable pub some_bound : List Task → Bool
some_bound U = list_any (λ t. list_any (outranks_task t) U) U

-- some task has jitter
abbrev pub has_jitter : List Task → Bool
has_jitter U = list_any (λ t. nat_lt 0 t.jitter) U

-- the version that the set needs, and the fifth where chains are shown
abbrev pub version_for : (shows : Bool) → List Task → CertVersion
version_for true U = Fifth
version_for false U =
    if has_interrupts U then Fourth else if some_bound U || has_jitter U then Second else First
