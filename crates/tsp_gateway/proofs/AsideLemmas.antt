-- What a port stands for while another port of its node acts.
use Rattle.std.proofs.Common.{sym, subst, true≢false, ◌≡◌, ℕ, ◌+ℤ◌, ◌||◌, Bool, true, false, List, [], ◌∷◌, Option, None, Some, refl}
use Rattle.std.proofs.lemmas.Bool.{or_parts}
use Rattle.tsp_base.specs.Words.{Did, Past, plain, base, correct_tick, last_correct, moved, rest, ticket, acting, kept_name, taken, Correcting, last_taken}
use Rattle.tsp_rules.specs.{RoundRows.corrects, RoundRows.is_correct, Values.Act, Values.Boot, Values.Correct}
use Rattle.tsp_rules.proofs.{Asides.all_aside, Asides.aside, NodeRowLemmas.Bootless}
use Rattle.tsp_acks.specs.Stands.{StationStands}
use Rattle.tsp_clock.specs.{ClockStands.ClockStands, Clocks.ClockValue}
use Rattle.tsp_date.specs.DateStands.{DatesStand}
use Rattle.tsp_master.specs.MasterStands.{MasterStands}
use Rattle.tsp_resolve.specs.ResolveStands.{ResolveStands}
use Rattle.tsp_node.specs.{NodeStands.PortStands, NodeStands.PortValue, NodeStands.port_with, declared.part.Part.Part}
use Rattle.tsp_gateway.specs.Untold.{told}

-- all that a port stands for but the clock, and which correction it remembers
record StandsAside (past : Past) (v : PortValue) : Type 0 where
  pub station : StationStands past v.station
  pub name_is : v.last.name ≡ kept_name past.seen
  pub master : MasterStands past v.master
  pub resolve : ResolveStands past v.resolve
  pub dates : DatesStand past v.dates

stands_aside : (x : ℕ) (past : Past) (a : Act) (v : PortValue) → (a ≡ Boot → ⊥) → StandsAside past v → StandsAside (aside x past a) v
stands_aside x past Boot v n h = absurd (n refl)
stands_aside x past _ v n h = record {
  station = record {
    own = h.station.own;
    name = h.station.name;
    may = h.station.may;
    strict = h.station.strict;
    peers = h.station.peers;
    word = h.station.word;
    role = h.station.role;
    alarms = h.station.alarms;
    hold = h.station.hold;
    sends = h.station.sends;
    begun = h.station.begun;
    backers = h.station.backers;
  };
  name_is = h.name_is;
  master = record {
    peers = h.master.peers;
    entries = h.master.entries;
    asked_is = h.master.asked_is;
    going = λ g. let r = h.master.going g in record {
      requests = r.requests;
      samples = r.samples;
      probes_is = r.probes_is;
      opened = r.opened;
      recent = r.recent;
    };
    idle = h.master.idle;
    probing = h.master.probing;
    empty = h.master.empty;
  };
  resolve = record { many = h.resolve.many; rivals = h.resolve.rivals; empty = h.resolve.empty };
  dates = record { peers = h.dates.peers; last = h.dates.last; asked = h.dates.asked };
}

stands_all_aside : (x : ℕ) (past : Past) (acts : List Act) (v : PortValue) → Bootless acts → StandsAside past v → StandsAside (all_aside x past acts) v
stands_all_aside x past [] v b h = record { station = h.station; name_is = h.name_is; master = h.master; resolve = h.resolve; dates = h.dates }
stands_all_aside x past (a ∷ later) v b h = stands_all_aside x (aside x past a) later v b.1 (stands_aside x past a v b.0 h)

-- the tick of the node's last correction, and what it took on this port
record Remembered (past : Past) (tick : Option ℕ) (took : Option Correcting) : Type 0 where
  pub tick_is : tick ≡ correct_tick (plain past.seen)
  pub taken_is : took ≡ last_taken past.seen

still_aside : (x : ℕ) (past : Past) (a : Act) (tick : Option ℕ) (took : Option Correcting) → (a ≡ Boot → ⊥) → is_correct a ≡ false → Remembered past tick took →
    Remembered (aside x past a) tick took
still_aside x past Boot tick took n c h = absurd (n refl)
still_aside x past (Correct amount stepped shown) tick took n c h = absurd (true≢false c)
still_aside x past _ tick took n c h = record { tick_is = h.tick_is; taken_is = h.taken_is }

still_all_aside : (x : ℕ) (past : Past) (acts : List Act) (tick : Option ℕ) (took : Option Correcting) → Bootless acts → corrects acts ≡ false →
    Remembered past tick took → Remembered (all_aside x past acts) tick took
still_all_aside x past [] tick took b c h = record { tick_is = h.tick_is; taken_is = h.taken_is }
still_all_aside x past (a ∷ later) tick took b c h =
    let both = or_parts (is_correct a) (corrects later) c in
    still_all_aside x (aside x past a) later tick took b.1 both.1 (still_aside x past a tick took b.0 both.0 h)

moved_aside : (x : ℕ) (past : Past) (a : Act) → is_correct a ≡ true → Remembered (aside x past a) (Some x) None
moved_aside x past (Correct amount stepped shown) c = record { tick_is = refl; taken_is = refl }
moved_aside x past _ c = absurd (true≢false (sym c))

-- a correction elsewhere at this tick is still the last one, or there was another at this tick
told_aside : (x : ℕ) (past : Past) (a : Act) → (a ≡ Boot → ⊥) → Remembered past (Some x) None → Remembered (aside x past a) (Some x) None
told_aside x past Boot n h = absurd (n refl)
told_aside x past (Correct amount stepped shown) n h = record { tick_is = refl; taken_is = refl }
told_aside x past _ n h = record { tick_is = h.tick_is; taken_is = h.taken_is }

told_all_aside : (x : ℕ) (past : Past) (acts : List Act) → Bootless acts → Remembered past (Some x) None → Remembered (all_aside x past acts) (Some x) None
told_all_aside x past [] b h = record { tick_is = h.tick_is; taken_is = h.taken_is }
told_all_aside x past (a ∷ later) b h = told_all_aside x (aside x past a) later b.1 (told_aside x past a b.0 h)

moved_all_aside : (x : ℕ) (past : Past) (acts : List Act) → Bootless acts → corrects acts ≡ true → Remembered (all_aside x past acts) (Some x) None
moved_all_aside x past [] b c = absurd (true≢false (sym c))
moved_all_aside x past (a ∷ later) b c = by_case (is_correct a) refl c (λ f. moved_all_aside x (aside x past a) later b.1 f) where
  by_case : (d : Bool) → is_correct a ≡ d → (d || corrects later) ≡ true → (corrects later ≡ true →
      Remembered (all_aside x (aside x past a) later) (Some x) None) → Remembered (all_aside x (aside x past a) later) (Some x) None
  by_case true e f more = told_all_aside x (aside x past a) later b.1 (moved_aside x past a e)
  by_case false e f more = more f

aside_of : (past : Past) (part : Part) (clock : ClockValue) → PortStands past (port_with part clock) → StandsAside past (port_with part clock)
aside_of past part clock h = record { station = h.station; name_is = h.last.name_is; master = h.master; resolve = h.resolve; dates = h.dates }

-- another port's acts leave a port alone that don't correct
pub stands_still : (x : ℕ) (past : Past) (acts : List Act) (part : Part) (before after : ClockValue) → Bootless acts → corrects acts ≡ false →
    ClockStands (all_aside x past acts) after → PortStands past (port_with part before) →
    PortStands (all_aside x past acts) (port_with part after)
stands_still x past acts part before after b c k h =
    let s = stands_all_aside x past acts (port_with part before) b (aside_of past part before h) in
    let r = still_all_aside x past acts part.last.tick part.last.taken b c (record { tick_is = h.last.tick_is; taken_is = h.last.taken_is }) in
    record {
      station = s.station;
      last = record { tick_is = r.tick_is; taken_is = r.taken_is; name_is = s.name_is };
      master = s.master;
      resolve = s.resolve;
      dates = s.dates;
      clock = k;
    }

-- it stands once it is told where they do
pub stands_told : (x : ℕ) (past : Past) (acts : List Act) (part : Part) (before after : ClockValue) → Bootless acts → corrects acts ≡ true →
    ClockStands (all_aside x past acts) after → PortStands past (port_with part before) →
    PortStands (all_aside x past acts) (told x part after)
stands_told x past acts part before after b c k h =
    let s = stands_all_aside x past acts (port_with part before) b (aside_of past part before h) in
    let r = moved_all_aside x past acts b c in
    record {
      station = s.station;
      last = record { tick_is = r.tick_is; taken_is = r.taken_is; name_is = s.name_is };
      master = s.master;
      resolve = s.resolve;
      dates = s.dates;
      clock = k;
    }

-- what a port has taken and whether it has acted is its own
pub taken_aside : (x : ℕ) (past : Past) (acts : List Act) → taken (all_aside x past acts).seen ≡ taken past.seen
taken_aside x past [] = refl
taken_aside x past (a ∷ later) = taken_aside x (aside x past a) later

pub acting_aside : (x : ℕ) (past : Past) (acts : List Act) → acting (all_aside x past acts).seen ≡ acting past.seen
acting_aside x past [] = refl
acting_aside x past (a ∷ later) = acting_aside x (aside x past a) later

-- the clock is the node's
pub clock_same : (p q : Past) (clock : ClockValue) → plain p.seen ≡ plain q.seen → ClockStands p clock → ClockStands q clock
clock_same p q clock e h = record {
  offset_is = subst (λ (ds : List Did). clock.offset ≡ base ds +ℤ moved ds) e h.offset_is;
  rest_is = subst (λ (ds : List Did). clock.rest ≡ rest ds) e h.rest_is;
  at_is = subst (λ (ds : List Did). clock.at ≡ last_correct ds) e h.at_is;
  ticket_is = subst (λ (ds : List Did). clock.ticket ≡ ticket ds) e h.ticket_is;
}
