-- Rows for messages, as a master's station and table have what they read.
use Rattle.std.proofs.Common.{◌≡◌, ◌≢◌, ℕ, ◌==◌, ◌&&◌, not, nat_lt, Bool, true, false, if◌then◌else◌, [], ◌∷◌, Option, Some, None, ◌⊎◌, inl, inr, refl, sym}
use Rattle.std.proofs.Common.{◌∙◌, ap}
use Rattle.tsp_rules.specs.Values.{Acked, Join, Kind, Election, MasterAck, MasterReq, ResolveKind, SlaveUp, PeerId, Master}
use Rattle.tsp_base.specs.Words.{Past, MessageValue, grown, nothing, puts, either_by, posts, Sending, corrects_in, is_correction, open_send}
use Rattle.tsp_rules.specs.MasterRows.{may_join, sends_away}
use Rattle.tsp_rules.specs.SendRows.{acknowledges, has_other, has_quit, is_kind_quit, is_quit}
use Rattle.tsp_sends.specs.Slots.{kind_of, sending_to}
use Rattle.tsp_acks.specs.{Openings.is_of, Stands.StationStands, declared.station.Station.Station}
use Rattle.tsp_measure.specs.{Slaves.entry_of, Slaves.peers_of, Slaves.Changes, Slaves.acks_where, Slaves.joins, declared.entry.Entry.Entry}
use Rattle.tsp_master.specs.{MasterStands.MasterStands, MasterTakes.master_takes_kind_here, declared.master.Master.Master as MasterStruct}
use Rattle.tsp_master.proofs.MasterLemmas.{MasterStands_aside}
use Rattle.tsp_rules.proofs.{BuiltRoles.built_sends_away, Emits.Emits, EmitsBuilt.emits_built}
use Rattle.tsp_master.proofs.TableLemmas.{EntriesAfter_changed, MasterStands_changed, MasterStands_same, acked_after, joins_after, quiet_sorts}

pub master_takes_kind_here_ask : (p : PeerId) (m : MessageValue) (k : Kind) → (k ≡ MasterReq) ⊎ (k ≡ ResolveKind) → master_takes_kind_here p m k ≡
    posts p MasterAck m.number
unfolding master_takes_kind_here
master_takes_kind_here_ask p m k (inl e) = rw e refl
master_takes_kind_here_ask p m k (inr e) = rw e refl

pub master_takes_kind_here_other : (p : PeerId) (m : MessageValue) (k : Kind) → k ≢ MasterReq → k ≢ ResolveKind → k ≢ SlaveUp → k ≢ Election →
    master_takes_kind_here p m k ≡ nothing
unfolding master_takes_kind_here
master_takes_kind_here_other p m MasterReq a b d e = absurd (a refl)
master_takes_kind_here_other p m ResolveKind a b d e = absurd (b refl)
master_takes_kind_here_other p m SlaveUp a b d e = absurd (d refl)
master_takes_kind_here_other p m Election a b d e = absurd (e refl)
master_takes_kind_here_other p m _ a b d e = refl

quit_of : (s : Option Sending) → is_of is_kind_quit (kind_of s) ≡ is_quit s
quit_of None = refl
quit_of (Some s) = refl

-- whether a QUIT is open, as the station has it
pub has_quit_is : (p : PeerId) (x : ℕ) (past : Past) (st : Station) → StationStands past st → has_quit p x past ≡
    is_of is_kind_quit (kind_of (sending_to st.sends p))
has_quit_is p x past st h = ap is_quit (sym (h.sends p)) ∙ sym (quit_of (sending_to st.sends p))

corrects_of : (s : Option Sending) → is_of is_correction (kind_of s) ≡ corrects_in s
corrects_of None = refl
corrects_of (Some s) = refl

-- whether a peer may join, as the table has it
pub may_join_is : (p : PeerId) (number x : ℕ) (past : Past) (m : MasterStruct) → MasterStands past m → may_join p number x past ≡
    (nat_lt number 32768 && not (entry_of m.slaves p).joined)
may_join_is p number x past m h = ap (λ (e : Entry). nat_lt number 32768 && not e.joined) (sym (h.entries p))

-- a peer joins a master's slaves
pub MasterStands_joins : (p : PeerId) (x : ℕ) (past : Past) (old new : MasterStruct) (st : Station) → StationStands past st → st.role ≡ Master →
    Changes p joins old.slaves new.slaves → peers_of new.slaves ≡ peers_of old.slaves → new.rounds ≡ old.rounds →
    MasterStands past old → MasterStands (grown x past (Join p ∷ [])) new
MasterStands_joins p x past old new st s leads change ps rs h =
    MasterStands_aside (Join p) x past old new refl ps rs (EntriesAfter_changed p joins past x (Join p) old new (joins_after p past x) change h.entries)
    (λ other q. absurd (other (sym s.role ∙ leads))) h

-- an ACK ends the send that it names, or nothing
pub MasterStands_acknowledges : (p : PeerId) (number x : ℕ) (past : Past) (old new : MasterStruct) (st : Station) (ended : Bool) → StationStands past st →
    has_other p number x past ≡ ended →
    Changes p (acks_where (ended && is_of is_correction (kind_of (sending_to st.sends p)))) old.slaves new.slaves → peers_of new.slaves ≡ peers_of old.slaves →
    new.rounds ≡ old.rounds →
    MasterStands past old → MasterStands (grown x past (acknowledges p number x past)) new
unfolding acknowledges either_by puts nothing
MasterStands_acknowledges p number x past old new st true s test change ps rs h =
    let corrects : is_of is_correction (kind_of (sending_to st.sends p)) ≡ corrects_in (open_send p past.seen) = corrects_of (sending_to st.sends p) ∙
    ap corrects_in (s.sends p) in
    rw test (MasterStands_changed p (acks_where (corrects_in (open_send p past.seen))) (Acked p) x past old new refl
    (makes-none (corrects_in (open_send p past.seen))) (acked_after p past x) (rw corrects at change) ps rs h) where
      makes-none : (b : Bool) (e : Entry) → e.joined ≡ false → e.measured ≡ false → ((acks_where b e).joined ≡ false) × ((acks_where b e).measured ≡ false)
      makes-none true e j m = (j, m)
      makes-none false e j m = (j, m)
MasterStands_acknowledges p number x past old new st false s test change ps rs h =
    rw test (MasterStands_same past old new ps rs (λ q. change q ∙ either (p.0 == q.0) (entry_of old.slaves q)) h) where
      either : (b : Bool) (e : Entry) → (if b then e else e) ≡ e
      either true e = refl
      either false e = refl

pub emits_away : (p : PeerId) → Emits quiet_sorts (sends_away p)
emits_away p = emits_built refl (built_sends_away p tt)
