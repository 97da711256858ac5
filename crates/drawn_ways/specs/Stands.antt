-- What a chain's last task wrote, while it stands: up to the next output, or to the end of what is seen.
use Rattle.std.specs.Prelude.{ℕ, ◌-◌, min, Bool, true, ◌&&◌, nat_le, nat_lt, if◌then◌else◌, List, [], ◌∷◌, Option, Some, None}
use Rattle.chain_runs.specs.Outcomes.{next_of}
use Rattle.chain_runs.specs.declared.outputs.ChainOutput.{ChainOutput}
use Rattle.drawn_ways.specs.declared.stands.Stand.{Stand}

-- an output from a sample stands, from one time to another
abbrev pub stand_by : Option ℕ → (since until : ℕ) → Option Stand
stand_by None since until = None
stand_by (Some sample) since until = Some (record { sample = sample; since = since; until = until })

-- an output that comes by the end of what is seen, where it has a sample
abbrev pub stand_at : (end : ℕ) → ChainOutput → List ChainOutput → Option Stand
stand_at end o os =
    if nat_le o.finish end then stand_by o.sample o.finish (min (next_of end os) end) else None

-- how old it gets
abbrev pub age_of : Stand → ℕ
age_of s = s.until - s.sample

-- it gets older than another, if there is one
abbrev pub is_older : Option Stand → Stand → Bool
is_older None s = true
is_older (Some t) s = nat_lt (age_of t) (age_of s)

-- the older of two, of equals the first, where the second stands in a window: it is gone at the instant of the next one
abbrev pub older : (from : ℕ) → Option Stand → Option Stand → Option Stand
older from found None = found
older from found (Some s) = if nat_lt from s.until && is_older found s then Some s else found

-- the oldest of some, or one that was found before
abbrev pub oldest_of : (from end : ℕ) → List ChainOutput → Option Stand → Option Stand
oldest_of from end [] found = found
oldest_of from end (o ∷ os) found = oldest_of from end os (older from found (stand_at end o os))

-- the one that gets oldest of those that stand in a window
abbrev pub oldest : (from end : ℕ) → List ChainOutput → Option Stand
oldest from end os = oldest_of from end os None
