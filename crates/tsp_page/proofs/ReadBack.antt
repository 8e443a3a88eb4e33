-- The octets of a half are read back as that half.
use Rattle.std.proofs.Common.{◌≡◌, ℕ, ◌^◌, ◌<◌, ◌==◌, if◌then◌else◌, Bool, true, false, ℤ, List, length, take, drop, refl, ap, ◌∙◌, arith}
use Rattle.std.specs.Int.{w64, cast_signed, cast_unsigned}
use Rattle.std.proofs.lemmas.{Nat.from_le_bytes-to_le_bytes_8, Int.to_z-of_z, List.take_all}
use Rattle.std.proofs.Math.Facts.{Fits-of_z}
use mir.Val.{SFits, Fits}
use Rattle.tsp_page.specs.declared.{daemon_half.DaemonHalf.DaemonHalf, look_half.LookHalf.LookHalf}
use Rattle.tsp_page.specs.declared.rank.Rank.{Rank, TheVariants.Nobody, TheVariants.Follows, TheVariants.Leads}
use Rattle.tsp_page.specs.Halves.{daemon_octets, daemon_half_of, IsDaemonHalf, look_octets, look_half_of, IsLookHalf}
use Rattle.tsp_page.specs.Numbers.{number_at, octets_of_all}
use Rattle.tsp_page.specs.Ranks.{rank_number, rank_of}

-- a number that may be below 0, from the number of its octets
signed : (z : ℤ) (n : ℕ) → SFits w64 z → n ≡ cast_unsigned w64 z → cast_signed w64 n ≡ z
signed z n f e = ap (cast_signed w64) e ∙ to_z-of_z w64 z f

small : (z : ℤ) → SFits w64 z → cast_unsigned w64 z < 2 ^ 64
small z f = let u : Fits w64 (cast_unsigned w64 z) = Fits-of_z f in omega (arith, u)

rank_back : (r : Rank) (n : ℕ) → n ≡ rank_number r → rank_of n ≡ r
rank_back Nobody n e = rw e refl
rank_back Follows n e = rw e refl
rank_back Leads n e = rw e refl

rank_small : (r : Rank) → rank_number r < 2 ^ 64
rank_small Nobody = omega arith
rank_small Follows = omega arith
rank_small Leads = omega arith

-- a half is read back if each of its fields is
daemon_made : (h : DaemonHalf)
    → number_at (daemon_octets h) 0 ≡ h.life
    → number_at (daemon_octets h) 8 ≡ h.counter
    → cast_signed w64 (number_at (daemon_octets h) 16) ≡ h.origin
    → number_at (daemon_octets h) 24 ≡ h.origin_tick
    → cast_signed w64 (number_at (daemon_octets h) 32) ≡ h.rate
    → number_at (daemon_octets h) 40 ≡ h.tick
    → cast_signed w64 (number_at (daemon_octets h) 48) ≡ h.target
    → cast_signed w64 (number_at (daemon_octets h) 56) ≡ h.rest
    → cast_signed w64 (number_at (daemon_octets h) 64) ≡ h.least
    → cast_signed w64 (number_at (daemon_octets h) 72) ≡ h.moved
    → number_at (daemon_octets h) 80 ≡ h.steps
    → rank_of (number_at (daemon_octets h) 88) ≡ h.rank
    → number_at (daemon_octets h) 96 ≡ h.master
    → number_at (daemon_octets h) 104 ≡ h.alive
    → daemon_half_of (daemon_octets h) ≡ h
daemon_made h life counter origin origin_tick rate tick target rest least moved steps rank master alive =
    rw (life, counter, origin, origin_tick, rate, tick, target, rest, least, moved, steps, rank, master, alive) refl

pub daemon_back : (h : DaemonHalf) → IsDaemonHalf h → daemon_half_of (daemon_octets h) ≡ h
unfolding number_at octets_of_all
daemon_back h p =
    let life : number_at (daemon_octets h) 0 ≡ h.life = from_le_bytes-to_le_bytes_8 h.life p.life in
    let counter : number_at (daemon_octets h) 8 ≡ h.counter = from_le_bytes-to_le_bytes_8 h.counter p.counter in
    let origin = signed h.origin (number_at (daemon_octets h) 16) p.origin
    (from_le_bytes-to_le_bytes_8 (cast_unsigned w64 h.origin) (small h.origin p.origin)) in
    let origin_tick : number_at (daemon_octets h) 24 ≡ h.origin_tick = from_le_bytes-to_le_bytes_8 h.origin_tick p.origin_tick in
    let rate = signed h.rate (number_at (daemon_octets h) 32) p.rate
    (from_le_bytes-to_le_bytes_8 (cast_unsigned w64 h.rate) (small h.rate p.rate)) in
    let tick : number_at (daemon_octets h) 40 ≡ h.tick = from_le_bytes-to_le_bytes_8 h.tick p.tick in
    let target = signed h.target (number_at (daemon_octets h) 48) p.target
    (from_le_bytes-to_le_bytes_8 (cast_unsigned w64 h.target) (small h.target p.target)) in
    let rest = signed h.rest (number_at (daemon_octets h) 56) p.rest
    (from_le_bytes-to_le_bytes_8 (cast_unsigned w64 h.rest) (small h.rest p.rest)) in
    let least = signed h.least (number_at (daemon_octets h) 64) p.least
    (from_le_bytes-to_le_bytes_8 (cast_unsigned w64 h.least) (small h.least p.least)) in
    let moved = signed h.moved (number_at (daemon_octets h) 72) p.moved
    (from_le_bytes-to_le_bytes_8 (cast_unsigned w64 h.moved) (small h.moved p.moved)) in
    let steps : number_at (daemon_octets h) 80 ≡ h.steps = from_le_bytes-to_le_bytes_8 h.steps p.steps in
    let rank = rank_back h.rank (number_at (daemon_octets h) 88) (from_le_bytes-to_le_bytes_8 (rank_number h.rank) (rank_small h.rank)) in
    let master : number_at (daemon_octets h) 96 ≡ h.master = from_le_bytes-to_le_bytes_8 h.master p.master in
    let alive : number_at (daemon_octets h) 104 ≡ h.alive = from_le_bytes-to_le_bytes_8 h.alive p.alive in
    daemon_made h life counter origin origin_tick rate tick target rest least moved steps rank master alive

had_back : (b : Bool) (n : ℕ) → n ≡ (if b then 1 else 0) → (n == 1) ≡ b
had_back true n e = rw e refl
had_back false n e = rw e refl

had_small : (b : Bool) → (if b then 1 else 0) < 2 ^ 64
had_small true = omega arith
had_small false = omega arith

take_whole : (name : List ℕ) → length name ≡ 256 → take 256 name ≡ name
take_whole name size = take_all 256 name (omega (arith, size))

-- a half is read back if each of its fields is
look_made : (h : LookHalf)
    → number_at (look_octets h) 0 ≡ h.life
    → cast_signed w64 (number_at (look_octets h) 8) ≡ h.moved
    → number_at (look_octets h) 16 ≡ h.looked
    → cast_signed w64 (number_at (look_octets h) 24) ≡ h.low
    → cast_signed w64 (number_at (look_octets h) 32) ≡ h.high
    → number_at (look_octets h) 40 ≡ h.master
    → number_at (look_octets h) 48 ≡ h.drift
    → (number_at (look_octets h) 56 == 1) ≡ h.had
    → cast_signed w64 (number_at (look_octets h) 64) ≡ h.learned
    → take 256 (drop 72 (look_octets h)) ≡ h.name
    → look_half_of (look_octets h) ≡ h
look_made h life moved looked low high master drift had learned name =
    rw (life, moved, looked, low, high, master, drift, had, learned, name) refl

pub look_back : (h : LookHalf) → IsLookHalf h → look_half_of (look_octets h) ≡ h
unfolding number_at octets_of_all
look_back h p =
    let life : number_at (look_octets h) 0 ≡ h.life = from_le_bytes-to_le_bytes_8 h.life p.life in
    let moved = signed h.moved (number_at (look_octets h) 8) p.moved
    (from_le_bytes-to_le_bytes_8 (cast_unsigned w64 h.moved) (small h.moved p.moved)) in
    let looked : number_at (look_octets h) 16 ≡ h.looked = from_le_bytes-to_le_bytes_8 h.looked p.looked in
    let low = signed h.low (number_at (look_octets h) 24) p.low
    (from_le_bytes-to_le_bytes_8 (cast_unsigned w64 h.low) (small h.low p.low)) in
    let high = signed h.high (number_at (look_octets h) 32) p.high
    (from_le_bytes-to_le_bytes_8 (cast_unsigned w64 h.high) (small h.high p.high)) in
    let master : number_at (look_octets h) 40 ≡ h.master = from_le_bytes-to_le_bytes_8 h.master p.master in
    let drift : number_at (look_octets h) 48 ≡ h.drift = from_le_bytes-to_le_bytes_8 h.drift p.drift in
    let had = had_back h.had (number_at (look_octets h) 56) (from_le_bytes-to_le_bytes_8 (if h.had then 1 else 0) (had_small h.had)) in
    let learned = signed h.learned (number_at (look_octets h) 64) p.learned
    (from_le_bytes-to_le_bytes_8 (cast_unsigned w64 h.learned) (small h.learned p.learned)) in
    let name : take 256 (drop 72 (look_octets h)) ≡ h.name = take_whole h.name p.name in
    look_made h life moved looked low high master drift had learned name
