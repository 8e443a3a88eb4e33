-- What the answers to clients leave as it is.
use Rattle.std.proofs.Common.{◌∙◌, ap, sym, ◌≡◌, ◌≢◌, ℕ, ◌&&◌, Bool, true, false, List, [], ◌∷◌, ◌++◌, refl}
use Rattle.std.proofs.lemmas.Bool.{false≢true}
use Rattle.tsp_rules.specs.Values.{Act, Boot, Post, Trace, Placed, Message, Ack, PeerId, Place, Port, Role, Starting, Follow, Master}
use Rattle.tsp_base.specs.Words.{Past, may_stand, Performs, Keeps, kept_name, held, Row, bare, grown, posts_back, puts}
use Rattle.tsp_rules.specs.CommonRows.{is_idle, master_name, master_name_in, may_be_asked}
use Rattle.tsp_rules.specs.Guards.{is_starting_role}
use Rattle.tsp_rules.proofs.Emits.{Sort, Taking, Asking, Correcting, Numbering, Passing, Posting, Leading, Following, Changing, Backing, Counting, Rounding}
use Rattle.tsp_rules.proofs.Emits.{Alarming, Tabling, Rivalling, Acking, Giving, Sampling, Closing, Moving, Emits, Emits_posts_back, Emits_puts, Keeps_by}
use Rattle.tsp_rules.proofs.Emits.{is_in, sort_of}
use Rattle.tsp_acks.specs.{Stands.StationStands, declared.station.Station.Station}
use Rattle.tsp_acks.proofs.StandsLemmas.{Stands_idle, Stands_post}
use Rattle.tsp_slave.{proofs.BesideLemmas.Remembers_by, specs.Lasts.LastValue}
use Rattle.tsp_clients.specs.ClientStands.{NamingStands, TraceStands, TracingStands}

-- all sorts of acts but Boot and Trace
abbrev pub traceless : List Sort
traceless = Taking ∷ Asking ∷ Correcting ∷ Numbering ∷ Passing ∷ Posting ∷ Leading ∷ Following ∷ Changing ∷ Backing ∷ Counting ∷ Rounding ∷ Alarming ∷ Tabling ∷
    Rivalling ∷ Acking ∷ Giving ∷ Sampling ∷ Closing ∷ Moving ∷ []

TraceStands_act : (a : Act) → is_in (sort_of a) traceless ≡ true → Keeps TraceStands (puts a)
unfolding puts
TraceStands_act Boot e x past on h = absurd (false≢true e)
TraceStands_act (Trace to) e x past on h = absurd (false≢true e)
TraceStands_act _ e x past on h = h

-- a row that neither boots nor turns the trace on or off leaves the flag right
pub TraceStands_by : (row : Row) → Emits traceless row → Keeps TraceStands row
TraceStands_by row e = Keeps_by traceless TraceStands row TraceStands_act e

-- a boot ends the trace
pub TraceStands_boot : (x : ℕ) (past : Past) → TraceStands (grown x past (Boot ∷ [])) false
TraceStands_boot x past = refl

-- a role that neither leads nor follows knows no master
pub master_name_in_other : (r : Role) (own kept : List ℕ) → r ≢ Master → ((q : PeerId) → r ≡ Follow q → ⊥) → master_name_in r own kept ≡ []
master_name_in_other Master own kept m f = absurd (m refl)
master_name_in_other (Follow q) own kept m f = absurd (f q refl)
master_name_in_other _ own kept m f = refl

-- the master's name, as the port has it
pub master_name_is : (x : ℕ) (past : Past) (station : Station) (last : LastValue) → NamingStands past (record { station = station; last = last }) →
    master_name x past ≡ master_name_in station.role station.me.name last.name
master_name_is x past station last h =
    ap (λ r. master_name_in r past.name (kept_name past.seen)) (sym h.station.role) ∙
    ap (λ own. master_name_in station.role own (kept_name past.seen)) (sym h.station.name)
    ∙ ap (master_name_in station.role station.me.name) (sym h.last.name_is)

-- an ACK with any name is posted
pub Performs_named : (from : Place) (number : ℕ) (name : List ℕ) {x : ℕ} {port : Port} (station : Station) (last : LastValue) {old new : List Placed} → new ≡
    old ++ record { port = port; act = Post from (Message (bare Ack number name)) } ∷ [] →
    Performs NamingStands NamingStands (puts (Post from (Message (bare Ack number name)))) x port (record { station = station; last = last })
    (record { station = station; last = last }) old new
unfolding puts
Performs_named from number name {x = x} station last put = record {
  acts = λ past h. put;
  stands = λ past h. record {
    station = Stands_post from (bare Ack number name) x past station refl h.station;
    last = Remembers_by (puts (Post from (Message (bare Ack number name)))) (Emits_puts (Post from (Message (bare Ack number name))) refl) x past last h.last;
  };
}

-- the trace is turned on or off
pub Performs_turned : (on : Bool) {x : ℕ} {port : Port} (station : Station) (was : Bool) {old new : List Placed} → new ≡ old ++
    record { port = port; act = Trace on } ∷ [] →
    Performs TracingStands TracingStands (puts (Trace on)) x port (record { station = station; on = was }) (record { station = station; on = on }) old new
unfolding puts
Performs_turned on {x = x} station was put = record {
  acts = λ past h. put;
  stands = λ past h. record {
    station = Stands_idle (Trace on) refl x past station
        h.station;
    trace = refl;
  };
}

-- and the answer leaves it so
pub Performs_traced : (from : Place) (number : ℕ) {x : ℕ} {port : Port} {station : Station} (on : Bool) {old new : List Placed} →
    Performs StationStands StationStands (posts_back from Ack number) x port station station old new →
    Performs TracingStands TracingStands (posts_back from Ack number) x port (record { station = station; on = on }) (record { station = station; on = on }) old
    new
Performs_traced from number {x = x} on d = record {
  acts = λ past h. d.acts past h.station;
  stands = λ past h. record {
    station = d.stands past h.station;
    trace = TraceStands_by (posts_back from Ack number) (Emits_posts_back from Ack number refl) x
        past on h.trace;
  };
}

-- whether the port stands for election when it is asked to, as the station has it
pub may_be_asked_is : (x : ℕ) (past : Past) (s : Station) → StationStands past s → may_be_asked x past ≡
    (is_idle s.role && (s.me.may && may_stand s.hold x s.me.own))
may_be_asked_is x past s h =
    ap (λ r. is_idle r && (past.may && may_stand (held past.seen) x past.own)) (sym h.role) ∙
    ap (λ may. is_idle s.role && (may && may_stand (held past.seen) x past.own)) (sym h.may)
    ∙ ap (λ hold. is_idle s.role && (s.me.may && may_stand hold x past.own)) (sym h.hold) ∙
    ap (λ own. is_idle s.role && (s.me.may && may_stand s.hold x own)) (sym h.own)

pub is_starting_role_other : (r : Role) → r ≢ Starting → is_starting_role r ≡ false
is_starting_role_other Starting n = absurd (n refl)
is_starting_role_other _ n = refl
