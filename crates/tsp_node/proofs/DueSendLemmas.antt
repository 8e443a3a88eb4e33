-- How a port's due sends meet their rows.
use Rattle.std.proofs.Common.{sym, ◌∙◌, ap, ◌≡◌, ℕ, Bool, true, false, if◌then◌else◌, List, [], ◌∷◌, Option, None, Some, refl}
use Rattle.std.proofs.lemmas.Bool.{and_right}
use Rattle.tsp_rules.specs.Values.{Post, Gave, Leave, Placed, Message, Kind, AdjTime, SetDateReq, SetTime, PeerId, Peer, Port}
use Rattle.tsp_rules.specs.SendRows.{bare_send, due_send, gives_up, is_send_due, is_spent, leaves_after, open_at, repeats, repeats_bare_send, repeats_send}
use Rattle.tsp_rules.{specs.Guards.is_slave_at, proofs.Emits.Emits, proofs.Emits.Emits_puts, proofs.Emits.is_in, proofs.Emits.sort_of_kind}
use Rattle.tsp_base.specs.Words.{Past, MessageValue, Performs, Keeps, acting, taken, Row, either_by, grown, nothing, puts, reading, ◌followed_by◌, Sending}
use Rattle.tsp_base.specs.Words.{is_correction, is_given_up, is_set_date_request}
use Rattle.tsp_base.proofs.PerformsLemmas.{Keeps_either, Keeps_nothing, Performs_else_part, Performs_nothing, Performs_reading, Performs_same, Performs_then}
use Rattle.tsp_base.proofs.PerformsLemmas.{Performs_then_part}
use Rattle.tsp_sends.specs.{declared.due.Due.TheVariants.Again, declared.due.Due.TheVariants.Gave as GaveUp, declared.slot.Slot.Slot}
use Rattle.tsp_sends.specs.{Repeating.RepeatsNext, Repeating.is_due_send, Repeating.peer_of, Slots.sending_to, declared.due.Due.Due}
use Rattle.tsp_acks.specs.{Stands.StationStands, Stands.StandsStill, declared.station.Station.Station}
use Rattle.tsp_acks.proofs.StandsLemmas.{Stands_idle}
use Rattle.tsp_clock.specs.ClockStands.{ClockStands}
use Rattle.tsp_slave.specs.Lasts.{Remembers}
use Rattle.tsp_slave.proofs.BesideLemmas.{beside_sorts, ClockStands_by, Remembers_by}
use Rattle.tsp_master.specs.MasterStands.{MasterStands}
use Rattle.tsp_master.{specs.declared.master.Master.Master, proofs.TableLemmas.MasterStands_quiet, proofs.TableLemmas.quiet_sorts}
use Rattle.tsp_date.{proofs.KeepLemmas.DatesStand_post, specs.DateStands.DatesStand}
use Rattle.tsp_resolve.specs.ResolveStands.{ResolveStands}
use Rattle.tsp_node.specs.{Dues.IsNoted, NodeStands.PortBegun, NodeStands.PortValue}

-- what stands beside a master when a step begins
record Rest (past : Past) (v : PortValue) : Type 0 where
  pub station : StationStands past v.station
  pub last : Remembers past v.last
  pub resolve : ResolveStands past v.resolve
  pub dates : DatesStand past v.dates
  pub clock : ClockStands past v.clock
  pub untaken : taken past.seen ≡ None
  pub still : acting past.seen ≡ false

Rest_leave : (q : PeerId) → Keeps Rest (puts (Leave q))
unfolding puts
Rest_leave q x past v h = record {
  station = Stands_idle (Leave q) refl x past v.station h.station;
  last = record { tick_is = h.last.tick_is; taken_is = h.last.taken_is; name_is = h.last.name_is };
  resolve = record { many = h.resolve.many; rivals = h.resolve.rivals; empty = h.resolve.empty };
  dates = record { peers = h.dates.peers; last = h.dates.last; asked = h.dates.asked };
  clock = record { offset_is = h.clock.offset_is; rest_is = h.clock.rest_is; at_is = h.clock.at_is; ticket_is = h.clock.ticket_is };
  untaken = h.untaken;
  still = h.still;
}

Rest_leaves : (q : PeerId) (k : Kind) → Keeps Rest (leaves_after q k)
unfolding leaves_after
Rest_leaves q k = by_test (is_correction k) where
  by_test : (b : Bool) → Keeps Rest (if b then either_by (is_slave_at q) (puts (Leave q)) nothing else nothing)
  by_test true = Keeps_either Rest (is_slave_at q) (puts (Leave q)) nothing (Rest_leave q) (Keeps_nothing Rest)
  by_test false = Keeps_nothing Rest

-- what is repeated is the least due send: it is given up, or posted again
record IsGiven (x : ℕ) (slots : List Slot) (q : PeerId) (k : Kind) : Type 0 where
  pub s : Sending
  pub sending : sending_to slots q ≡ Some s
  pub due : is_due_send x (Some s) ≡ true
  pub spent : is_given_up s x ≡ true
  pub kind : s.message.kind ≡ k

record IsAgain (x : ℕ) (slots : List Slot) (q : PeerId) (m : MessageValue) : Type 0 where
  pub s : Sending
  pub sending : sending_to slots q ≡ Some s
  pub due : is_due_send x (Some s) ≡ true
  pub fresh : is_given_up s x ≡ false
  pub message : s.message ≡ m

given_of : (after : Option PeerId) (x : ℕ) (slots new : List Slot) (q : PeerId) (k : Kind) → RepeatsNext after x slots new (Some (GaveUp q k)) →
    IsGiven x slots q k
given_of after x slots new q k t = by_test (is_given_up t.1 x) refl t.3 where
  by_test : (b : Bool) → is_given_up t.1 x ≡ b → GaveUp q k ≡ (if b then GaveUp t.0 t.1.message.kind else Again t.0 t.1.message) → IsGiven x slots q k
  by_test true e f =
      let same : q ≡ t.0 = cc in
      let kind : k ≡ t.1.message.kind = cc in
      record { s = t.1; sending = ap (sending_to slots) same ∙ t.2.sending; due = t.2.due; spent = e; kind = sym kind }
  by_test false e f = let bad : ⊥ = cc in absurd bad

again_of : (after : Option PeerId) (x : ℕ) (slots new : List Slot) (q : PeerId) (m : MessageValue) → RepeatsNext after x slots new (Some (Again q m)) →
    IsAgain x slots q m
again_of after x slots new q m t = by_test (is_given_up t.1 x) refl t.3 where
  by_test : (b : Bool) → is_given_up t.1 x ≡ b → Again q m ≡ (if b then GaveUp t.0 t.1.message.kind else Again t.0 t.1.message) → IsAgain x slots q m
  by_test true e f = let bad : ⊥ = cc in absurd bad
  by_test false e f =
      let same : q ≡ t.0 = cc in
      let message : m ≡ t.1.message = cc in
      record { s = t.1; sending = ap (sending_to slots) same ∙ t.2.sending; due = t.2.due; fresh = e; message = sym message }

-- the row of a due send without the table, in both cases
bare_gives : (q : PeerId) (s : Sending) (x : ℕ) (past : Past) → open_at q x past ≡ Some s → is_send_due s x past ≡ true → is_spent s x past ≡ true →
    bare_send q x past ≡ puts (Gave q) x past
unfolding bare_send repeats_bare_send reading either_by
bare_gives q s x past o d g = rw (o, d, g) refl

bare_repeats : (q : PeerId) (s : Sending) (x : ℕ) (past : Past) → open_at q x past ≡ Some s → is_send_due s x past ≡ true → is_spent s x past ≡ false →
    bare_send q x past ≡ repeats q s.message x past
unfolding bare_send repeats_bare_send reading either_by
bare_repeats q s x past o d g = rw (o, d, g) refl

posts_beside : (k : Kind) → is_in (sort_of_kind k) beside_sorts ≡ true
posts_beside SetDateReq = refl
posts_beside _ = refl

-- a state after a call, told field by field
Performs_fields : {row : Row} {x : ℕ} {port : Port} {before after : PortValue} {old new : List Placed} →
    Performs PortBegun PortBegun row x port before (record {
      station = after.station;
      last = after.last;
      master = after.master;
      resolve = after.resolve;
      dates = after.dates;
      clock = after.clock;
    }) old new → Performs PortBegun PortBegun row x port before after old new
Performs_fields d = record {
  acts = d.acts;
  stands = λ past h.
      let s = d.stands past h in
      record {
        stands = record {
          station = s.stands.station;
          last = s.stands.last;
          master = s.stands.master;
          resolve = s.stands.resolve;
          dates = s.stands.dates;
          clock = s.stands.clock;
        };
        untaken = s.untaken;
        still = s.still;
      };
}

-- a send is given up
gave_first : {x : ℕ} {port : Port} (q : PeerId) (before : PortValue) (station : Station) {old new : List Placed} →
    Performs StandsStill StandsStill (puts (Gave q)) x port before.station station old new →
    Performs PortBegun PortBegun (puts (Gave q)) x port before (record before { station = station }) old new
unfolding puts
gave_first {x = x} q before station d = record {
  acts = λ past h. d.acts past (record { stands = h.stands.station; still = h.still });
  stands = λ past h.
      let s = d.stands past (record { stands = h.stands.station; still = h.still }) in
      record {
        stands = record {
          station = s.stands;
          last = record { tick_is = h.stands.last.tick_is; taken_is = h.stands.last.taken_is; name_is = h.stands.last.name_is };
          master = MasterStands_quiet (Gave q) refl x past before.master h.stands.master;
          resolve = record { many = h.stands.resolve.many; rivals = h.stands.resolve.rivals; empty = h.stands.resolve.empty };
          dates = record { peers = h.stands.dates.peers; last = h.stands.dates.last; asked = h.stands.dates.asked };
          clock = record {
            offset_is = h.stands.clock.offset_is;
            rest_is = h.stands.clock.rest_is;
            at_is = h.stands.clock.at_is;
            ticket_is = h.stands.clock.ticket_is;
          };
        };
        untaken = h.untaken;
        still = s.still;
      };
}

-- a slave leaves
leaves_next : {x : ℕ} {port : Port} (q : PeerId) (k : Kind) (before : PortValue) (master : Master) {old new : List Placed} →
    Performs MasterStands MasterStands (leaves_after q k) x port before.master master old new →
    Performs PortBegun PortBegun (leaves_after q k) x port before (record before { master = master }) old new
leaves_next {x = x} q k before master d = record {
  acts = λ past h. d.acts past h.stands.master;
  stands = λ past h.
      let r = Rest_leaves q k x past before (record {
        station = h.stands.station;
        last = h.stands.last;
        resolve = h.stands.resolve;
        dates = h.stands.dates;
        clock = h.stands.clock;
        untaken = h.untaken;
        still = h.still;
      }) in
      record {
        stands = record {
          station = r.station;
          last = r.last;
          master = d.stands past h.stands.master;
          resolve = r.resolve;
          dates = r.dates;
          clock = r.clock;
        };
        untaken = r.untaken;
        still = r.still;
      };
}

-- what becomes of a due send that is given up
due_gives : {x : ℕ} {port : Port} (q : PeerId) (s : Sending) (k : Kind) {before after : PortValue} {old new : List Placed} → sending_to before.station.sends q ≡
    Some s → is_due_send x (Some s) ≡ true → is_given_up s x ≡ true → s.message.kind ≡ k →
    Performs PortBegun PortBegun (puts (Gave q) followed_by leaves_after q k) x port before after old new →
    Performs PortBegun PortBegun (due_send q) x port before after old new
unfolding due_send repeats_send gives_up
due_gives q s k is due spent kind d =
    Performs_reading (open_at q) (repeats_send q) (Some s) (λ past h. sym (h.stands.station.sends q) ∙ is)
    (Performs_then_part (is_send_due s) nothing (λ past h. due) (Performs_then_part (is_spent s) (repeats q s.message) (λ past h. spent) (rw kind d)))

due_repeats : {x : ℕ} {port : Port} (q : PeerId) (s : Sending) {before after : PortValue} {old new : List Placed} → sending_to before.station.sends q ≡ Some s →
    is_due_send x (Some s) ≡ true → is_given_up s x ≡ false →
    Performs PortBegun PortBegun (repeats q s.message) x port before after old new → Performs PortBegun PortBegun (due_send q) x port before after old new
unfolding due_send repeats_send
due_repeats q s is due fresh d =
    Performs_reading (open_at q) (repeats_send q) (Some s) (λ past h. sym (h.stands.station.sends q) ∙ is)
    (Performs_then_part (is_send_due s) nothing (λ past h. due) (Performs_else_part (is_spent s) (gives_up q s.message.kind) (λ past h. fresh) d))

-- a send is given up, and a slave that didn't acknowledge a correction leaves
pub Performs_gave : {x : ℕ} {port : Port} {before after : PortValue} {old mid new : List Placed} (last : Option PeerId) (q : PeerId) (k : Kind) →
    RepeatsNext last x before.station.sends after.station.sends (Some (GaveUp q k)) →
    after.last ≡ before.last → after.resolve ≡ before.resolve → after.dates ≡ before.dates → after.clock ≡ before.clock →
    Performs StandsStill StandsStill (bare_send q) x port before.station after.station old mid →
    Performs MasterStands MasterStands (leaves_after q k) x port before.master after.master mid new →
    Performs PortBegun PortBegun (due_send q) x port before after old new
Performs_gave {x = x} {port = port} {before = before} {after = after} {old = old} {mid = mid} {new = new} last q k t e u v f bare leave =
    let g = given_of last x before.station.sends after.station.sends q k t in
    let gave = Performs_same (puts (Gave q)) (λ past h. bare_gives q g.s x past (sym (h.stands.sends q) ∙ g.sending) g.due g.spent) bare in
    let whole = Performs_then (gave_first q before after.station gave) (leaves_next q k (record before { station = after.station }) after.master leave) in
    Performs_fields (due_gives q g.s k g.sending g.due g.spent g.kind (rw (e, u, v, f) whole))

-- a send is posted again
pub Performs_again : {x : ℕ} {port : Port} {before after : PortValue} {old new : List Placed} (last : Option PeerId) (q : PeerId) (m : MessageValue) →
    RepeatsNext last x before.station.sends after.station.sends (Some (Again q m)) →
    after.last ≡ before.last → after.resolve ≡ before.resolve → after.dates ≡ before.dates → after.clock ≡ before.clock →
    Performs StandsStill StandsStill (bare_send q) x port before.station after.station old new →
    ((past : Past) → acting past.seen ≡ false → MasterStands past before.master → MasterStands (grown x past (Post (Peer q) (Message m) ∷ [])) after.master) →
    Performs PortBegun PortBegun (due_send q) x port before after old new
unfolding repeats puts
Performs_again {x = x} {before = before} {after = after} last q m t e u v f bare master =
    let g = again_of last x before.station.sends after.station.sends q m t in
    let again = rw g.message at (Performs_same (repeats q g.s.message) (λ past h. bare_repeats q g.s x past (sym (h.stands.sends q) ∙ g.sending) g.due g.fresh)
    bare) in
    let put : Emits beside_sorts (puts (Post (Peer q) (Message m))) = Emits_puts (Post (Peer q) (Message m)) (posts_beside m.kind) in
    due_repeats q g.s g.sending g.due g.fresh (rw g.message (record {
      acts = λ past h. again.acts past (record { stands = h.stands.station; still = h.still });
      stands = λ past h.
          let s = again.stands past (record { stands = h.stands.station; still = h.still }) in
          record {
            stands = record {
              station = s.stands;
              last = rw e (Remembers_by (puts (Post (Peer q) (Message m))) put x past before.last h.stands.last);
              master = master past h.still h.stands.master;
              resolve = rw u (record {
                many = h.stands.resolve.many;
                rivals = h.stands.resolve.rivals;
                empty = h.stands.resolve.empty;
              });
              dates = rw v (DatesStand_post (Peer q) m x past before.dates
                  (and_right (is_set_date_request m.kind) (acting past.seen) h.still) h.stands.dates);
              clock = rw f (ClockStands_by (puts (Post (Peer q) (Message m))) put x past before.clock h.stands.clock);
            };
            untaken = h.untaken;
            still = s.still;
          };
    }))

-- a due send, whatever became of it
pub Performs_noted : {x : ℕ} {port : Port} {before after : PortValue} {old mid new : List Placed} (last : Option PeerId) (due : Due) →
    RepeatsNext last x before.station.sends after.station.sends (Some due) →
    after.last ≡ before.last → after.resolve ≡ before.resolve → after.dates ≡ before.dates → after.clock ≡ before.clock →
    Performs StandsStill StandsStill (bare_send (peer_of due)) x port before.station after.station old mid →
    IsNoted due x port before.master after.master mid new → Performs PortBegun PortBegun (due_send (peer_of due)) x port before after old new
Performs_noted last (Again q m) t e u v f bare noted = Performs_again last q m t e u v f (rw noted.0 bare) noted.1
Performs_noted last (GaveUp q k) t e u v f bare noted = Performs_gave last q k t e u v f bare noted

-- nothing is done for a send that isn't due
pub Performs_waits : {x : ℕ} {port : Port} {state : PortValue} {old : List Placed} (q : PeerId) → is_due_send x (sending_to state.station.sends q) ≡ false →
    Performs PortBegun PortBegun (due_send q) x port state state old old
unfolding due_send repeats_send
Performs_waits {x = x} {port = port} {state = state} {old = old} q late = Performs_reading (open_at q) (repeats_send q) (sending_to state.station.sends q)
    (λ past h. sym (h.stands.station.sends q)) (by_send (sending_to state.station.sends q) late) where
      by_send : (o : Option Sending) → is_due_send x o ≡ false → Performs PortBegun PortBegun (repeats_send q o) x port state state old old
      by_send None e = Performs_nothing
      by_send (Some s) e = Performs_else_part (is_send_due s) _ (λ past h. e) Performs_nothing

-- a message of a kind that doesn't correct changes nothing of a master
pub MasterStands_posted : (q : PeerId) (m : MessageValue) (x : ℕ) (past : Past) (master : Master) → is_correction m.kind ≡ false → MasterStands past master →
    MasterStands (grown x past (Post (Peer q) (Message m) ∷ [])) master
unfolding puts
MasterStands_posted q m x past master e h = MasterStands_quiet (Post (Peer q) (Message m)) (by_kind m.kind e) x past master h where
  by_kind : (k : Kind) → is_correction k ≡ false → is_in (sort_of_kind k) quiet_sorts ≡ true
  by_kind AdjTime e = let bad : ⊥ = cc in absurd bad
  by_kind SetTime e = let bad : ⊥ = cc in absurd bad
  by_kind _ e = refl
