-- How a port's calls meet the rows of its node.
use Rattle.std.proofs.Common.{append-nil, sym, ◌∙◌, ap, ◌≡◌, ℕ, ◌&&◌, not, Bool, true, false, List, [], ◌∷◌, ◌++◌, Option, None, Some, refl}
use Rattle.std.proofs.lemmas.Bool.{false≢true}
use Rattle.tsp_rules.specs.Values.{Act, Took, Post, Abandon, Placed, Stamp, Taken, Place, Port, Role, Master, Reply}
use Rattle.tsp_rules.proofs.Emits.{Sort, Booting, Asking, Correcting, Numbering, Passing, Posting, Leading, Following, Changing, Backing, Counting, Rounding}
use Rattle.tsp_rules.proofs.Emits.{Alarming, Tabling, Rivalling, Acking, Giving, Sampling, Closing, Moving, Tracing, Emits, Emits_more, Keeps_by, is_in}
use Rattle.tsp_rules.proofs.Emits.{sort_of}
use Rattle.tsp_rules.{proofs.BuiltAnswers.date_sorts, specs.Guards.is_master, proofs.Parts.Performs_part}
use Rattle.tsp_base.specs.Words.{Past, Performs, Keeps, Received, role, said, taken, Row, nothing, puts, grown, ReplyValue}
use Rattle.tsp_base.proofs.PerformsLemmas.{Performs_from, Performs_nothing, Performs_to}
use Rattle.tsp_acks.{specs.Stands.StationStands, specs.Stands.StandsActing, proofs.ActingLemmas.taken_acts}
use Rattle.tsp_acks.{specs.declared.station.Station.Station, proofs.StandsLemmas.Stands_idle, proofs.StandsLemmas.Stands_stamp}
use Rattle.tsp_clients.specs.ClientStands.{NamingStands, TraceStands, TracingStands}
use Rattle.tsp_clients.proofs.ClientLemmas.{TraceStands_by}
use Rattle.tsp_clock.specs.{ClockStands.ClockStands, Clocks.ClockValue}
use Rattle.tsp_slave.specs.{Lasts.LastValue, Lasts.Remembers, SlaveStands.SlaveStands}
use Rattle.tsp_slave.proofs.BesideLemmas.{beside_sorts, ClockStands_by, Remembers_by}
use Rattle.tsp_master.{specs.declared.master.Master.Master as MasterStruct, proofs.TurnLemmas.MasterStands_parted}
use Rattle.tsp_master.specs.{Clearing.Clears, MasterStands.MasterStands, MasterStands.LeadStands, MasterStands.OwnStands}
use Rattle.tsp_master.proofs.TableLemmas.{MasterStands_quiet, quiet_sorts}
use Rattle.tsp_date.specs.{DateStands.DateStands, DateStands.DatesStand, DateStands.moved_where, Dates.DatesValue}
use Rattle.tsp_date.proofs.KeepLemmas.{DatesAside, DatesStand_act, DatesStand_by, passes_date}
use Rattle.tsp_resolve.specs.{ResolveStands.ResolveStands, ResolveStands.ResolvingStands, declared.resolve.Resolve.Resolve}
use Rattle.tsp_resolve.proofs.ResolveLemmas.{ResolveStands_by, unchanging}
use Rattle.tsp_node.specs.{Unmarking.Unmarks, declared.node.Node.Node}
use Rattle.tsp_node.specs.NodeStands.{PortBegun, PortStands, PortTook, PortUntaken, PortValue, NodeStands, NodeUntaken, Begun, TakeStands, TookStands, Traced}
use Rattle.tsp_node.specs.NodeStands.{TracedValue, port_with, traced_of}
use Rattle.tsp_node.proofs.{RivalKeeps.ResolveStands_parted, TakeEmits.role_sorts, TakeEmits.silent_trace}

-- a call that changes nothing but the station, the master and the rivals
pub Performs_station : {row : Row} {x : ℕ} {port : Port} {before after : PortValue} {old new : List Placed} → after.last ≡ before.last → after.clock ≡
    before.clock → after.dates ≡ before.dates → Emits beside_sorts row → Keeps DatesStand row →
    ((past : Past) → PortStands past before → StationStands (grown x past (row x past)) after.station → MasterStands (grown x past (row x past)) after.master) →
    ((past : Past) → PortStands past before → StationStands (grown x past (row x past)) after.station → ResolveStands (grown x past (row x past)) after.resolve)
    →
    Performs StationStands StationStands row x port before.station after.station old new → Performs PortStands PortStands row x port before after old new
Performs_station {row = row} {x = x} {before = before} e f g k was master resolve d = Performs_part d (λ past h. h.station) (λ past h s. record {
  station = s;
  last = rw e (Remembers_by row k x past before.last h.last);
  master = master past h s;
  resolve = resolve past h s;
  dates = rw g (was x past before.dates h.dates);
  clock = rw f (ClockStands_by row k x past before.clock h.clock);
})

-- the slaves are forgotten where a port led and leads no more, and so are the rivals
pub slaves_part : (row : Row) → Emits role_sorts row → (x : ℕ) (past : Past) (before after : PortValue) →
    Clears (is_master before.station.role && not (is_master after.station.role)) before.master after.master →
    PortStands past before → StationStands (grown x past (row x past)) after.station → MasterStands (grown x past (row x past)) after.master
slaves_part row e x past before after clears h s =
    MasterStands_parted row (Emits_more role_sorts refl e) x past before.master after.master before.station.role after.station.role (sym h.station.role)
    (sym s.role) clears h.master

pub rivals_part : (row : Row) → Emits role_sorts row → (x : ℕ) (past : Past) (before after : PortValue) →
    Unmarks (is_master before.station.role && not (is_master after.station.role)) before.resolve after.resolve →
    PortStands past before → StationStands (grown x past (row x past)) after.station → ResolveStands (grown x past (row x past)) after.resolve
rivals_part row e x past before after unmarks h s =
    ResolveStands_parted row e x past before.resolve after.resolve before.station.role after.station.role (sym h.station.role) (sym s.role) unmarks h.resolve

-- all sorts but Took
abbrev pub untaking_sorts : List Sort
untaking_sorts = Booting ∷ Asking ∷ Correcting ∷ Numbering ∷ Passing ∷ Posting ∷ Leading ∷ Following ∷ Changing ∷ Backing ∷ Counting ∷ Rounding ∷ Alarming ∷
    Tabling ∷ Rivalling ∷ Acking ∷ Giving ∷ Sampling ∷ Closing ∷ Moving ∷ Tracing ∷ []

abbrev pub IsUntaken : Past → Unit {0} → Type 0
IsUntaken past state = taken past.seen ≡ None

untaken_act : (a : Act) → is_in (sort_of a) untaking_sorts ≡ true → Keeps IsUntaken (puts a)
unfolding puts
untaken_act (Took from t) e x past state h = absurd (false≢true e)
untaken_act _ e x past state h = h

pub untaken_by : (row : Row) → Emits untaking_sorts row → (x : ℕ) (past : Past) → taken past.seen ≡ None → taken (grown x past (row x past)).seen ≡ None
untaken_by row e x past h = Keeps_by untaking_sorts IsUntaken row untaken_act e x past tt h

-- a call in a step that has taken nothing yet
pub Performs_untaken : {row : Row} {x : ℕ} {port : Port} {before after : PortValue} {old new : List Placed} → Emits untaking_sorts row →
    Performs PortStands PortStands row x port before after old new → Performs PortUntaken PortUntaken row x port before after old new
Performs_untaken {row = row} {x = x} e d = Performs_part d (λ past h. h.stands) (λ past h s. record { stands = s; untaken = untaken_by row e x past h.untaken })

-- a call on a port is one on its node
pub node_by : {fits then_fits : Past → PortValue → Type 0} {row : Row} {x : ℕ} {port : Port} {before after : Node} {old new : List Placed} → after.tracing ≡
    before.tracing → Emits silent_trace row →
    Performs fits then_fits row x port (port_with before.part before.clock) (port_with after.part after.clock) old new →
    Performs (λ past node. Traced fits past (traced_of node)) (λ past node. Traced then_fits past (traced_of node)) row x port before after old new
node_by {row = row} {x = x} {before = before} e k d = Performs_part d (λ past h. h.port)
    (λ past h s. record { port = s; trace = rw e (TraceStands_by row (Emits_more silent_trace refl k) x past before.tracing h.trace) })

-- so is the first call of a step on a port
pub node_begun : {row : Row} {x : ℕ} {port : Port} {before after : Node} {old new : List Placed} → after.tracing ≡ before.tracing → Emits silent_trace row →
    Performs PortBegun PortBegun row x port (port_with before.part before.clock) (port_with after.part after.clock) old new →
    Performs Begun NodeUntaken row x port before after old new
node_begun {before = before} {after = after} e k d = node_by {then_fits = PortUntaken} {before = before} {after = after} e k
    (Performs_to (λ past h. record { stands = h.stands; untaken = h.untaken }) d)

-- and so is a port's taking
pub node_takes : {row : Row} {x : ℕ} {port : Port} {before after : Node} {old new : List Placed} →
    Performs TakeStands TakeStands row x port (traced_of before) (traced_of after) old new → Performs NodeUntaken NodeStands row x port before after old new
node_takes d = Performs_part d (λ past h. record { port = h.port.stands; trace = h.trace }) (λ past h s. s)

-- a node that has taken nothing stands
pub node_rests : {x : ℕ} {port : Port} {node : Node} {old : List Placed} → Performs NodeUntaken NodeStands nothing x port node node old old
unfolding nothing
node_rests {old = old} = record { acts = λ past h. sym (append-nil old); stands = λ past h. record { port = h.port.stands; trace = h.trace } }

-- a datagram is taken
pub PortTook_took : (from : Place) (t : Taken) (x : ℕ) (past : Past) (state : PortValue) → PortStands past state →
    PortTook (record { from = from; taken = t }) (grown x past (Took from t ∷ [])) state
unfolding puts
PortTook_took from t x past state h = record {
  stands = record {
    station = Stands_idle (Took from t) refl x past state.station h.station;
    last = record { tick_is = h.last.tick_is; taken_is = h.last.taken_is; name_is = h.last.name_is };
    master = MasterStands_quiet (Took from t) refl x past state.master h.master;
    resolve = record { many = h.resolve.many; rivals = h.resolve.rivals; empty = h.resolve.empty };
    dates = DatesStand_act (Took from t) refl x past state.dates h.dates;
    clock = record { offset_is = h.clock.offset_is; rest_is = h.clock.rest_is; at_is = h.clock.at_is; ticket_is = h.clock.ticket_is };
  };
  took = refl;
}

-- what a port does where something was taken
pub Performs_took : {r : Received} {row : Row} {x : ℕ} {port : Port} {before after : PortValue} {old new : List Placed} →
    Performs PortStands PortStands row x port before after old new → Performs (PortTook r) PortStands row x port before after old new
Performs_took d = Performs_from {p = PortStands} (λ past h. h.stands) d

-- the dates are left alone by what passes none on
pub dates_aside : {r : Received} (row : Row) (x : ℕ) (past : Past) (state : PortValue) → Keeps DatesAside row → passes_date (said (Some r)) ≡ false →
    PortTook r past state → DatesStand (grown x past (row x past)) state.dates
dates_aside row x past state was none h = (was x past state.dates (record {
  stands = h.stands.dates;
  none = ap (λ t. passes_date (said t)) h.took ∙
      none;
})).stands

-- what changes but a port's station, what it remembers and the clock, by what was taken
pub Performs_heard : {r : Received} {row : Row} {x : ℕ} {port : Port} {before after : PortValue} {old new : List Placed} → after.dates ≡ before.dates →
    Keeps DatesAside row → passes_date (said (Some r)) ≡ false →
    ((past : Past) → PortStands past before → StationStands (grown x past (row x past)) after.station → MasterStands (grown x past (row x past)) after.master) →
    ((past : Past) → PortStands past before → StationStands (grown x past (row x past)) after.station → ResolveStands (grown x past (row x past)) after.resolve)
    →
    ((took : Option Received) → took ≡ Some r → Performs SlaveStands SlaveStands row x port (record {
      station = before.station;
      last = before.last;
      clock = before.clock;
      took = took;
    }) (record { station = after.station; last = after.last; clock = after.clock; took = took }) old new) →
    Performs (PortTook r) PortStands row x port before after old new
Performs_heard {r = r} {row = row} {x = x} {before = before} same was none master resolve d = Performs_part (d (Some r) refl)
    (λ past h. record { station = h.stands.station; last = h.stands.last; clock = h.stands.clock; took = h.took }) (λ past h s. record {
      station = s.station;
      last = s.last;
      master = master past h.stands s.station;
      resolve = resolve past h.stands s.station;
      dates = rw same (dates_aside row x past before was none h);
      clock = s.clock;
    })

-- what a master makes of what was taken
pub Performs_led : {r : Received} {row : Row} {x : ℕ} {port : Port} {before after : PortValue} {old new : List Placed} → after.last ≡ before.last →
    after.resolve ≡ before.resolve → after.dates ≡ before.dates →
    Emits beside_sorts row → Emits unchanging row → Keeps DatesStand row →
    Performs LeadStands LeadStands row x port (record { master = before.master; station = before.station; clock = before.clock })
    (record { master = after.master; station = after.station; clock = after.clock }) old new →
    Performs (PortTook r) PortStands row x port before after old new
Performs_led {r = r} {row = row} {x = x} {before = before} e f g k u was d = Performs_part d
    (λ past h. record { master = h.stands.master; station = h.stands.station; acted = taken_acts past.seen r h.took; clock = h.stands.clock })
    (λ past h s. record {
      station = s.station;
      last = rw e (Remembers_by row k x past before.last h.stands.last);
      master = s.master;
      resolve = rw f (ResolveStands_by row u x past before.resolve h.stands.resolve);
      dates = rw g (was x past before.dates h.stands.dates);
      clock = s.clock;
    })

-- what is done about rivals
pub Performs_resolved : {row : Row} {x : ℕ} {port : Port} {before after : PortValue} {old new : List Placed} → after.last ≡ before.last → after.master ≡
    before.master → after.dates ≡ before.dates → after.clock ≡ before.clock →
    Emits beside_sorts row → Emits quiet_sorts row → Keeps DatesStand row →
    Performs ResolvingStands ResolvingStands row x port (record { resolve = before.resolve; station = before.station }) (record {
      resolve = after.resolve;
      station = after.station;
    }) old new → Performs PortStands PortStands row x port before after old new
Performs_resolved {row = row} {x = x} {before = before} e m g f k q was d = Performs_part d (λ past h. record { resolve = h.resolve; station = h.station })
    (λ past h s. record {
      station = s.station;
      last = rw e (Remembers_by row k x past before.last h.last);
      master = rw m (Keeps_by quiet_sorts MasterStands row MasterStands_quiet q x past before.master h.master);
      resolve = s.resolve;
      dates = rw g (was x past before.dates h.dates);
      clock = rw f (ClockStands_by row k x past before.clock h.clock);
    })

-- nothing is done with what was taken
pub Performs_pass : {r : Received} {x : ℕ} {port : Port} {state : PortValue} {old : List Placed} →
    Performs (PortTook r) PortStands nothing x port state state old old
Performs_pass = Performs_took Performs_nothing

-- the answer to a stamp request is posted
pub PortStands_stamp : (to : Place) (r : ReplyValue) (x : ℕ) (past : Past) (state : PortValue) → PortStands past state →
    PortStands (grown x past (Post to (Stamp (Reply r)) ∷ [])) state
unfolding puts
PortStands_stamp to r x past state h = record {
  station = Stands_stamp to (Reply r) x past state.station h.station;
  last = record { tick_is = h.last.tick_is; taken_is = h.last.taken_is; name_is = h.last.name_is };
  master = MasterStands_quiet (Post to (Stamp (Reply r))) refl x past state.master h.master;
  resolve = record { many = h.resolve.many; rivals = h.resolve.rivals; empty = h.resolve.empty };
  dates = record { peers = h.dates.peers; last = h.dates.last; asked = h.dates.asked };
  clock = record { offset_is = h.clock.offset_is; rest_is = h.clock.rest_is; at_is = h.clock.at_is; ticket_is = h.clock.ticket_is };
}

-- one act on the desk is a row of one act
pub Performs_put : {S T : Type 0} {p : Past → S → Type 0} {q : Past → T → Type 0} (a : Act) {x : ℕ} {port : Port} {before : S} {after : T}
    {old new : List Placed} →
    new ≡ old ++ record { port = port; act = a } ∷ [] → ((past : Past) → p past before → q (grown x past (a ∷ [])) after) →
    Performs p q (puts a) x port before after old new
unfolding puts
Performs_put a put stands = record { acts = λ past h. put; stands = λ past h. stands past h }

-- a round is given up
pub abandoned : (x : ℕ) (past : Past) {last : LastValue} {clock : ClockValue} {resolve : Resolve} {dates : DatesValue} {station : Station}
    {master : MasterStruct} → Remembers past last → ClockStands past clock → ResolveStands past resolve → DatesStand past dates →
    StationStands (grown x past (Abandon ∷ [])) station → MasterStands (grown x past (Abandon ∷ [])) master →
    PortStands (grown x past (Abandon ∷ [])) (record { station = station; last = last; master = master; resolve = resolve; dates = dates; clock = clock })
abandoned x past l k r d s m = record {
  station = s;
  last = record { tick_is = l.tick_is; taken_is = l.taken_is; name_is = l.name_is };
  master = m;
  resolve = record { many = r.many; rivals = r.rivals; empty = r.empty };
  dates = record { peers = d.peers; last = d.last; asked = d.asked };
  clock = record { offset_is = k.offset_is; rest_is = k.rest_is; at_is = k.at_is; ticket_is = k.ticket_is };
}

-- nothing was done
pub same_part : {x : ℕ} {port : Port} {before after : PortValue} {old : List Placed} → after.last ≡ before.last → after.clock ≡ before.clock → after.resolve ≡
    before.resolve → after.dates ≡ before.dates → after.station ≡ before.station →
    after.master ≡ before.master → Performs PortStands PortStands nothing x port before after old old
unfolding nothing
same_part {old = old} l k r d s m = record {
  acts = λ past h. sym (append-nil old);
  stands = λ past h. record {
    station = rw s h.station;
    last = rw l h.last;
    master = rw m h.master;
    resolve = rw r h.resolve;
    dates = rw d h.dates;
    clock = rw k h.clock;
  };
}

-- the role of a port that doesn't lead
pub no_lead : {past : Past} (state : PortValue) (r : Role) → (r ≡ Master → ⊥) → state.station.role ≡ r → PortStands past state → role past.seen ≡ Master → ⊥
no_lead state r n e h f = n (sym e ∙ h.station.role ∙ f)

-- an answer ends a send
pub Performs_acknowledged : {r : Received} {row : Row} {x : ℕ} {port : Port} {before after : PortValue} {old new : List Placed} → after.last ≡ before.last →
    after.resolve ≡ before.resolve → after.dates ≡ before.dates → after.clock ≡ before.clock →
    Emits (Acking ∷ []) row →
    Performs OwnStands OwnStands row x port (record { master = before.master; station = before.station }) (record {
      master = after.master;
      station = after.station;
    }) old new → Performs (PortTook r) PortStands row x port before after old new
Performs_acknowledged {row = row} {x = x} {before = before} e u g f k d = Performs_part d
    (λ past h. record { master = h.stands.master; station = h.stands.station }) (λ past h s. record {
      station = s.station;
      last = rw e (Remembers_by row (Emits_more (Acking ∷ []) refl k) x past before.last h.stands.last);
      master = s.master;
      resolve = rw u (ResolveStands_by row (Emits_more (Acking ∷ []) refl k) x past before.resolve h.stands.resolve);
      dates = rw g (DatesStand_by row (Emits_more (Acking ∷ []) refl k) x past before.dates h.stands.dates);
      clock = rw f (ClockStands_by row (Emits_more (Acking ∷ []) refl k) x past before.clock h.stands.clock);
    })

-- a port answers a client, which changes nothing but the trace
pub Performs_named_by : {r : Received} {row : Row} {x : ℕ} {port : Port} {before after : PortValue} {old new : List Placed} → after.master ≡ before.master →
    after.resolve ≡ before.resolve → after.dates ≡ before.dates → after.clock ≡ before.clock → Emits (Posting ∷ []) row →
    Performs NamingStands NamingStands row x port (record { station = before.station; last = before.last }) (record {
      station = after.station;
      last = after.last;
    }) old new → Performs (PortTook r) PortStands row x port before after old new
Performs_named_by {row = row} {x = x} {before = before} m u v f k d = Performs_part d (λ past h. record { station = h.stands.station; last = h.stands.last })
    (λ past h s. record {
      station = s.station;
      last = s.last;
      master = rw m (Keeps_by quiet_sorts MasterStands row MasterStands_quiet (Emits_more (Posting ∷ []) refl k) x past before.master h.stands.master);
      resolve = rw u (ResolveStands_by row (Emits_more (Posting ∷ []) refl k) x past before.resolve h.stands.resolve);
      dates = rw v (DatesStand_by row (Emits_more (Posting ∷ []) refl k) x past before.dates h.stands.dates);
      clock = rw f (ClockStands_by row (Emits_more (Posting ∷ []) refl k) x past before.clock h.stands.clock);
    })

pub Performs_turned_by : {r : Received} {row : Row} {x : ℕ} {port : Port} {before after : PortValue} {was is : Bool} {old new : List Placed} → after.last ≡
    before.last → after.master ≡ before.master → after.resolve ≡ before.resolve → after.dates ≡ before.dates →
    after.clock ≡ before.clock → Emits (Tracing ∷ Posting ∷ []) row →
    Performs TracingStands TracingStands row x port (record { station = before.station; on = was }) (record { station = after.station; on = is }) old new →
    Performs (TookStands r) TakeStands row x port (record { port = before; tracing = was }) (record { port = after; tracing = is }) old new
Performs_turned_by {row = row} {x = x} {before = before} l m u v f k d = Performs_part d (λ past h. record { station = h.port.stands.station; trace = h.trace })
    (λ past h s. record {
      port = record {
        station = s.station;
        last = rw l (Remembers_by row (Emits_more (Tracing ∷ Posting ∷ []) refl k) x past before.last h.port.stands.last);
        master = rw m (Keeps_by quiet_sorts MasterStands row MasterStands_quiet
            (Emits_more (Tracing ∷ Posting ∷ []) refl k) x past before.master h.port.stands.master);
        resolve = rw u (ResolveStands_by row (Emits_more (Tracing ∷ Posting ∷ []) refl k) x past before.resolve h.port.stands.resolve);
        dates = rw v (DatesStand_by row (Emits_more (Tracing ∷ Posting ∷ []) refl k) x past before.dates h.port.stands.dates);
        clock = rw f (ClockStands_by row (Emits_more (Tracing ∷ Posting ∷ []) refl k) x past before.clock h.port.stands.clock);
      };
      trace = s.trace;
    })

-- a call of a station in a step that has acted, and what it makes of the master and the rivals
pub Performs_acting_by : {r : Received} {row : Row} {x : ℕ} {port : Port} {before after : PortValue} {old new : List Placed} → after.last ≡ before.last →
    after.clock ≡ before.clock → after.dates ≡ before.dates → Emits beside_sorts row → Keeps DatesStand row →
    ((past : Past) → PortStands past before → StationStands (grown x past (row x past)) after.station → MasterStands (grown x past (row x past)) after.master) →
    ((past : Past) → PortStands past before → StationStands (grown x past (row x past)) after.station → ResolveStands (grown x past (row x past)) after.resolve)
    →
    Performs StandsActing StandsActing row x port before.station after.station old new → Performs (PortTook r) PortStands row x port before after old new
Performs_acting_by {r = r} {row = row} {x = x} {before = before} e f g k was master resolve d = Performs_part d
    (λ past h. record { stands = h.stands.station; acted = taken_acts past.seen r h.took }) (λ past h t. let s = t.stands in record {
      station = s;
      last = rw e (Remembers_by row k x past before.last h.stands.last);
      master = master past h.stands s;
      resolve = resolve past h.stands s;
      dates = rw g (was x past before.dates h.stands.dates);
      clock = rw f (ClockStands_by row k x past before.clock h.stands.clock);
    })

-- a date is set, passed on or answered
pub Performs_dated : {r : Received} {row : Row} {x : ℕ} {port : Port} {before after : PortValue} {old new : List Placed} (corrected : Bool) → after.last ≡
    moved_where corrected x before.last → after.resolve ≡ before.resolve → Emits date_sorts row →
    ((took : Option Received) → took ≡ Some r →
    Performs DateStands DateStands row x port
    (record { dates = before.dates; master = before.master; station = before.station; last = before.last; clock = before.clock; took = took })
    (record {
      dates = after.dates;
      master = after.master;
      station = after.station;
      last = moved_where corrected x before.last;
      clock = after.clock;
      took = took;
    }) old new) →
    Performs (PortTook r) PortStands row x port before after old new
Performs_dated {r = r} {row = row} {x = x} {before = before} corrected e f k d = Performs_part (d (Some r) refl)
    (λ past h. let s = h.stands in record { dates = s.dates; master = s.master; station = s.station; last = s.last; clock = s.clock; took = h.took })
    (λ past h s. record {
      station = s.station;
      last = rw e s.last;
      master = s.master;
      resolve = rw f (ResolveStands_by row (Emits_more date_sorts refl k) x past before.resolve h.stands.resolve);
      dates = s.dates;
      clock = s.clock;
    })

-- a call on a port that leaves the trace alone
pub Performs_traced : {fits then_fits : Past → PortValue → Type 0} {row : Row} {x : ℕ} {port : Port} {before after : PortValue} {old new : List Placed}
    (flag : Bool) → Keeps TraceStands row → Performs fits then_fits row x port before after old new →
    Performs (Traced fits) (Traced then_fits) row x port (record { port = before; tracing = flag }) (record { port = after; tracing = flag }) old new
Performs_traced {x = x} flag k d = record {
  acts = λ past h. d.acts past h.port;
  stands = λ past h. record {
    port = d.stands past h.port;
    trace = k x past flag h.trace;
  };
}

-- nothing is done with what was taken, and the trace stays
pub took_pass : {r : Received} {x : ℕ} {port : Port} {state : TracedValue} {old : List Placed} →
    Performs (TookStands r) TakeStands nothing x port state state old old
unfolding nothing
took_pass {old = old} = record { acts = λ past h. sym (append-nil old); stands = λ past h. record { port = h.port.stands; trace = h.trace } }

-- a call that leaves the trace alone
pub took_beside : {r : Received} {row : Row} {x : ℕ} {port : Port} {before after : PortValue} {old new : List Placed} (flag : Bool) → Emits silent_trace row →
    Performs (PortTook r) PortStands row x port before after old new →
    Performs (TookStands r) TakeStands row x port (record { port = before; tracing = flag }) (record { port = after; tracing = flag }) old new
took_beside {row = row} flag k d = Performs_traced flag (TraceStands_by row (Emits_more silent_trace refl k)) d
