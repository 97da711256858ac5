-- How a record that has sets of tasks is stored.
use Rattle.std.specs.Coded.{Coded, codes, coded_ℕ}
use Rattle.std.specs.Ordering.{nat_cmp}
use Rattle.std.specs.FinSet as finset

-- a set of tasks is stored as the list of its indexes
abbrev pub coded_members : Coded (finset.FinSet nat_cmp)
coded_members = finset.code coded_ℕ

-- the codes of which that of such a record is made
pub ruleset set_codes = (codes, coded_members)
