-- Tables that are read one by one, and names that stand twice.
use Rattle.std.proofs.Common.{◌≡◌, ◌∙◌, ◌++◌, ◌+◌, ◌<◌, ℕ, List, [], ◌∷◌, map, length, get_or, drop, take, refl, sym, ap, append_assoc, Option, Some, None, option_map}
use Rattle.std.specs.Option.{option_or}
use Rattle.std.proofs.lemmas.List.{append-nil, drop_more, take_more}
use Rattle.toml.specs.Data.{Members}
use Rattle.chain_tables.specs.Tables.{WrittenData, chain_at, first_repeat, holder_of, table_fault, tables_fault}
use Rattle.chain_tables.specs.declared.fault.ChainCause.{ChainCause}
use Rattle.chain_tables.specs.declared.fault.ChainFault.{ChainFault}
use Rattle.chain_tables.specs.declared.fault.Whose.{Whose}

-- the tables in front of a place are read, and the rest is not
pub record AreReadTables (whose : Whose) (all : List Members) (place : ℕ) (rest : List Members)
    (done : List WrittenData) : Type 0 where
  pub fault : tables_fault place rest ≡ tables_fault 1 all
  pub chains : done ++ map (chain_at whose) rest ≡ map (chain_at whose) all

pub tables_more : {whose : Whose} {all rest : List Members} {place : ℕ} {ms : Members}
    {done : List WrittenData} → AreReadTables whose all place (ms ∷ rest) done
    → table_fault place ms ≡ None
    → AreReadTables whose all (place + 1) rest (done ++ chain_at whose ms ∷ [])
tables_more h none = record {
  fault = rw none at h.fault;
  chains = append_assoc _ (_ ∷ []) _ ∙ h.chains;
}

-- all are read
pub tables_all : {whose : Whose} {all : List Members} {place : ℕ} {done : List WrittenData}
    → AreReadTables whose all place [] done
    → (tables_fault 1 all ≡ None) × (done ≡ map (chain_at whose) all)
tables_all h = (sym h.fault, sym (append-nil _) ∙ h.chains)

-- one is refused
pub table_fails : {whose : Whose} {all rest : List Members} {place : ℕ} {ms : Members}
    {done : List WrittenData} {e : ChainFault} (f : ChainCause → ChainFault)
    → AreReadTables whose all place (ms ∷ rest) done
    → option_map f (table_fault place ms) ≡ Some e
    → option_map f (tables_fault 1 all) ≡ Some e
table_fails {rest = rest} {place = place} {ms = ms} {e = e} f h fails =
    ap (option_map f) (sym h.fault) ∙ by (table_fault place ms) (tables_fault (place + 1) rest) fails
  where
    by : (o p : Option ChainCause) → option_map f o ≡ Some e → option_map f (option_or o p) ≡ Some e
    by None p is = cc
    by (Some cause) p is = is

-- ---- names that stand twice
module _ (ws : List WrittenData) (i : ℕ) (w : WrittenData) (lt : i < length ws)
    (is : w ≡ get_or ws i w) where
  -- its name is new
  pub repeat-step : holder_of (take i ws) w.name ≡ None
      → first_repeat (take i ws) (i + 1) (drop i ws)
      ≡ first_repeat (take (i + 1) ws) (i + 1 + 1) (drop (i + 1) ws)
  repeat-step none = rw (drop_more ws i w lt, take_more ws i w lt, ← is, none) refl

  -- its name is taken
  pub repeat-found : (other : Whose) → holder_of (take i ws) w.name ≡ Some other
      → first_repeat (take i ws) (i + 1) (drop i ws)
      ≡ Some (record { place = i + 1; whose = w.whose; name = w.name; other = other })
  repeat-found other some = rw (drop_more ws i w lt, ← is, some) refl
