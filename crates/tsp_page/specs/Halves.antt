-- The two halves of the page as values, and their octets.
use Rattle.std.specs.Prelude.{◌≡◌, ℕ, ◌^◌, ◌<◌, ◌==◌, if◌then◌else◌, List, [], ◌∷◌, ◌++◌, length, take, drop, FitsSigned}
use Rattle.std.specs.Int.{w64, cast_signed, cast_unsigned}
use Rattle.tsp_page.specs.Numbers.{number_at, octets_of_all}
use Rattle.tsp_page.specs.Ranks.{rank_number, rank_of}
use Rattle.tsp_page.specs.declared.daemon_half.DaemonHalf.{DaemonHalf}
use Rattle.tsp_page.specs.declared.look_half.LookHalf.{LookHalf}

-- the octets of the daemon's half behind its sequence: each field as eight octets, in two's complement where it may be below 0
abbrev pub daemon_octets : DaemonHalf → List ℕ
daemon_octets h = octets_of_all (h.life ∷ h.counter ∷ cast_unsigned w64 h.origin ∷ h.origin_tick ∷ cast_unsigned w64 h.rate
    ∷ h.tick ∷ cast_unsigned w64 h.target ∷ cast_unsigned w64 h.rest ∷ cast_unsigned w64 h.least ∷ cast_unsigned w64 h.moved
    ∷ h.steps ∷ rank_number h.rank ∷ h.master ∷ h.alive ∷ [])

-- the daemon's half that octets say
abbrev pub daemon_half_of : List ℕ → DaemonHalf
daemon_half_of o = record {
  life = number_at o 0;
  counter = number_at o 8;
  origin = cast_signed w64 (number_at o 16);
  origin_tick = number_at o 24;
  rate = cast_signed w64 (number_at o 32);
  tick = number_at o 40;
  target = cast_signed w64 (number_at o 48);
  rest = cast_signed w64 (number_at o 56);
  least = cast_signed w64 (number_at o 64);
  moved = cast_signed w64 (number_at o 72);
  steps = number_at o 80;
  rank = rank_of (number_at o 88);
  master = number_at o 96;
  alive = number_at o 104;
}

-- the octets of the look's half behind its sequence
abbrev pub look_octets : LookHalf → List ℕ
look_octets h = octets_of_all (h.life ∷ cast_unsigned w64 h.moved ∷ h.looked ∷ cast_unsigned w64 h.low ∷ cast_unsigned w64 h.high
    ∷ h.master ∷ h.drift ∷ (if h.had then 1 else 0) ∷ cast_unsigned w64 h.learned ∷ []) ++ h.name

-- the look's half that octets say
abbrev pub look_half_of : List ℕ → LookHalf
look_half_of o = record {
  life = number_at o 0;
  moved = cast_signed w64 (number_at o 8);
  looked = number_at o 16;
  low = cast_signed w64 (number_at o 24);
  high = cast_signed w64 (number_at o 32);
  master = number_at o 40;
  drift = number_at o 48;
  had = number_at o 56 == 1;
  learned = cast_signed w64 (number_at o 64);
  name = take 256 (drop 72 o);
}

-- the fields of the daemon's half fit 64 bits: so they do in each half that a program can hold
pub record IsDaemonHalf (h : DaemonHalf) : Type 0 where
  pub life : h.life < 2 ^ 64
  pub counter : h.counter < 2 ^ 64
  pub origin : FitsSigned w64 h.origin
  pub origin_tick : h.origin_tick < 2 ^ 64
  pub rate : FitsSigned w64 h.rate
  pub tick : h.tick < 2 ^ 64
  pub target : FitsSigned w64 h.target
  pub rest : FitsSigned w64 h.rest
  pub least : FitsSigned w64 h.least
  pub moved : FitsSigned w64 h.moved
  pub steps : h.steps < 2 ^ 64
  pub master : h.master < 2 ^ 64
  pub alive : h.alive < 2 ^ 64

-- the fields of the look's half fit 64 bits, and its name takes 256 octets
pub record IsLookHalf (h : LookHalf) : Type 0 where
  pub life : h.life < 2 ^ 64
  pub moved : FitsSigned w64 h.moved
  pub looked : h.looked < 2 ^ 64
  pub low : FitsSigned w64 h.low
  pub high : FitsSigned w64 h.high
  pub master : h.master < 2 ^ 64
  pub drift : h.drift < 2 ^ 64
  pub learned : FitsSigned w64 h.learned
  pub name : length h.name ≡ 256
