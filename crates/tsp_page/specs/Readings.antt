-- What a reader tells: the status, and where the master's clock lies.
use Rattle.std.specs.Prelude.{ℕ, ◌-◌, ◌==◌, ◌&&◌, nat_le, Bool, if◌then◌else◌, ℤ, pos, negsuc, ◌+ℤ◌, ◌-ℤ◌}
use Rattle.tsp_page.specs.Formula.{target_at, shown_at, spread}
use Rattle.tsp_page.specs.declared.{daemon_half.DaemonHalf.DaemonHalf, look_half.LookHalf.LookHalf}
use Rattle.tsp_page.specs.declared.rank.Rank.{Rank, TheVariants.Nobody, TheVariants.Follows, TheVariants.Leads}
use Rattle.tsp_page.specs.declared.reading.{Interval.Interval, Reading.Reading}
use Rattle.tsp_page.specs.declared.reading.Status.{Status, TheVariants.Stale, TheVariants.Waiting, TheVariants.Synchronised, TheVariants.Holding}

-- a status's number
abbrev pub status_number : Status → ℕ
status_number Stale = 0
status_number Waiting = 1
status_number Synchronised = 2
status_number Holding = 3

-- the daemon said that it runs at most 64 seconds before a tick, and not after it
abbrev pub runs : DaemonHalf → ℕ → Bool
runs h x = nat_le h.alive x && nat_le (x - h.alive) 64000000

-- there is a look of the daemon's life, and not one after a tick
abbrev pub counts : DaemonHalf → LookHalf → ℕ → Bool
counts h l x = l.had && (l.life == h.life && nat_le l.looked x)

-- the look is one at the master that the daemon follows, and was at most 64 seconds before a tick
abbrev pub is_fresh : DaemonHalf → LookHalf → ℕ → Bool
is_fresh h l x = l.master == h.master && nat_le (x - l.looked) 64000000

-- the status of a daemon with this rank that runs: whether there is a look, and whether it is fresh
abbrev pub standing_of : Rank → Bool → Bool → Status
standing_of Leads there fresh = Synchronised
standing_of Follows there fresh = if there then (if fresh then Synchronised else Holding) else Waiting
standing_of Nobody there fresh = if there then Holding else Waiting

-- the status of a daemon that runs
abbrev pub standing : DaemonHalf → LookHalf → ℕ → Status
standing h l x = standing_of h.rank (counts h l x) (is_fresh h l x)

-- the status at a tick
abbrev pub status_of : DaemonHalf → LookHalf → ℤ → Status
status_of h l (pos x) = if runs h x then standing h l x else Stale
status_of h l (negsuc x) = Stale

-- the own target as it would be if the clock hadn't been corrected since the look
abbrev pub target_then : DaemonHalf → LookHalf → ℕ → ℤ
target_then h l x = target_at h x -ℤ (h.moved -ℤ l.moved)

-- the interval of a host that doesn't lead: the look's bounds from that target, and as much wider as both clocks may have parted
abbrev pub looked_interval : DaemonHalf → LookHalf → ℕ → Interval
looked_interval h l x = record {
  earliest = (target_then h l x +ℤ l.low) -ℤ pos (spread l.drift (x - l.looked));
  latest = (target_then h l x +ℤ l.high) +ℤ pos (spread l.drift (x - l.looked));
  age = x - l.looked;
}

-- the interval of a host that leads: it is the master
abbrev pub leading_interval : DaemonHalf → ℕ → Interval
leading_interval h x = record { earliest = target_at h x; latest = target_at h x; age = 0 }

-- the interval of a host with this rank
abbrev pub interval_by : Rank → DaemonHalf → LookHalf → ℕ → Interval
interval_by Leads h l x = leading_interval h x
interval_by Follows h l x = looked_interval h l x
interval_by Nobody h l x = looked_interval h l x

-- where the master's clock lies at a tick
abbrev pub interval_of : DaemonHalf → LookHalf → ℕ → Interval
interval_of h l x = interval_by h.rank h l x

-- a reading without an interval
abbrev pub without_interval : Status → ℤ → Reading
without_interval status shown = record { status = status; shown = shown; interval = record { earliest = pos 0; latest = pos 0; age = 0 } }

-- a reading with this status
abbrev pub reading_with : Status → DaemonHalf → LookHalf → ℕ → Reading
reading_with Stale h l x = without_interval Stale (pos 0)
reading_with Waiting h l x = without_interval Waiting (shown_at h x)
reading_with Synchronised h l x = record { status = Synchronised; shown = shown_at h x; interval = interval_of h l x }
reading_with Holding h l x = record { status = Holding; shown = shown_at h x; interval = interval_of h l x }

-- what a page tells at a tick
abbrev pub reading_of : DaemonHalf → LookHalf → ℤ → Reading
reading_of h l (pos x) = reading_with (status_of h l (pos x)) h l x
reading_of h l (negsuc x) = without_interval Stale (pos 0)
