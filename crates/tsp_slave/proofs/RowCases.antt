-- Rows and tests by cases, in the cases that are left.
use Rattle.std.proofs.Common.{◌∙◌, ap, sym, inl, inr, ◌≡◌, ◌≢◌, ◌⊎◌, ◌==◌, ◌&&◌, not, ℕ, Bool, true, false, if◌then◌else◌, [], Option, None, Some, is_some}
use Rattle.std.proofs.Common.{refl}
use Rattle.std.proofs.lemmas.Bool.{false≢true}
use Rattle.tsp_rules.specs.Values.{Alarm, Quiet, Elect, Search, Kind, AdjTime, SetTime, PeerId, Loose, Follow}
use Rattle.tsp_base.specs.Words.{deadline, Past, may_stand, MessageValue, Received, held, role, said, Row, nothing, reading, either_by, ◌followed_by◌, Sending}
use Rattle.tsp_base.specs.Words.{correcting_of, is_correction}
use Rattle.tsp_rules.specs.{CommonRows.arms_elect, CommonRows.tells_ticket, SendRows.is_free}
use Rattle.tsp_rules.specs.SlaveRows.{from_master, masterack_in, masterup_in, reports_conflict, slave_takes_kind}
use Rattle.tsp_rules.specs.Guards.{is_armed, is_met, may_stand_at, role_at}
use Rattle.tsp_sends.specs.Slots.{kind_of, sending_to}
use Rattle.tsp_acks.specs.{Stands.StationStands, declared.station.Station.Station}
use Rattle.tsp_slave.specs.{ClockChanges.change_in, ClockChanges.correction_of, SlaveAlarms.slave_rings, SlaveAlarms.is_to_be_candidate}
use Rattle.tsp_slave.specs.SlaveStands.{IsCorrection, IsMessageFrom}

pub slave_rings_other : (a : Alarm) → a ≢ Quiet → a ≢ Search → a ≢ Elect → slave_rings a ≡ nothing
unfolding slave_rings
slave_rings_other Quiet p q r = absurd (p refl)
slave_rings_other Search p q r = absurd (q refl)
slave_rings_other Elect p q r = absurd (r refl)
slave_rings_other _ p q r = refl

-- an Elect in time at which the node doesn't stand: it may not, or the hold forbids it
pub stays_in_time : (x : ℕ) (s : Station) → is_met (deadline s.alarms Elect) x ≡ true → is_to_be_candidate x s ≡ false →
    (s.me.may && may_stand s.hold x s.me.own) ≡ false
stays_in_time x s met stays = rw met at stays

-- whether the node may stand, as the station has it
pub may_stand_is : (x : ℕ) (past : Past) (s : Station) → StationStands past s → (s.me.may && may_stand s.hold x s.me.own) ≡ may_stand_at x past
may_stand_is x past s h =
    ap (λ may. may && may_stand s.hold x s.me.own) h.may ∙ ap (λ held. past.may && may_stand held x s.me.own) h.hold
    ∙ ap (λ own. past.may && may_stand (held past.seen) x own) h.own

-- both kinds of correction have one row
pub is_correction_either : (k : Kind) → (k ≡ AdjTime) ⊎ (k ≡ SetTime) → is_correction k ≡ true
is_correction_either k (inl e) = rw e refl
is_correction_either k (inr e) = rw e refl

pub correction_kind : (k : Kind) → is_correction k ≡ true → (k ≡ AdjTime) ⊎ (k ≡ SetTime)
correction_kind AdjTime e = inl refl
correction_kind SetTime e = inr refl
correction_kind _ e = absurd (false≢true e)

-- what such a message is taken as
pub told_correction : (p : PeerId) (m : MessageValue) (took : Option Received) → (m.kind ≡ AdjTime) ⊎ (m.kind ≡ SetTime) → IsMessageFrom p m took →
    IsCorrection (Some (record { from = p; number = m.number })) took
told_correction p m took k e =
    ap (λ t. correcting_of (said t)) e ∙ ap (λ b. if b then Some (record { from = p; number = m.number }) else None) (is_correction_either m.kind k)

pub slave_takes_kind_correction : (p : PeerId) (m : MessageValue) (k : Kind) → m.kind ≡ k → (k ≡ AdjTime) ⊎ (k ≡ SetTime) →
    slave_takes_kind p m k ≡ reading role_at (from_master p (correction_of p m.number (change_in m)))
unfolding slave_takes_kind correction_of
slave_takes_kind_correction p m k is (inl e) = rw (is, e) refl
slave_takes_kind_correction p m k is (inr e) = rw (is, e) refl

is_some_kind : (s : Option Sending) → is_some (kind_of s) ≡ is_some s
is_some_kind None = refl
is_some_kind (Some s) = refl

-- whether no send to a peer is open, as the station has it
pub is_free_is : (p : PeerId) (x : ℕ) (past : Past) (s : Station) → StationStands past s → is_free p x past ≡ not (is_some (kind_of (sending_to s.sends p)))
is_free_is p x past s h = ap (λ o. not (is_some o)) (sym (h.sends p)) ∙ ap not (sym (is_some_kind (sending_to s.sends p)))

-- a MASTERACK at a port that is Loose does what a MASTERUP does where the port searches
pub masterack_in_Loose : (p : PeerId) (b : Bool) (x : ℕ) (past : Past) → role past.seen ≡ Loose → is_armed Search x past ≡ b →
    reading role_at (masterack_in p) x past ≡ (if b then reading role_at (masterup_in p) x past else [])
unfolding reading masterack_in masterup_in either_by nothing
masterack_in_Loose p b x past r e = rw (r, e) refl

-- at a follower it does so where another master is followed
pub masterack_in_Follow : (p q : PeerId) (b : Bool) (x : ℕ) (past : Past) → role past.seen ≡ Follow q → not (q.0 == p.0) ≡ b →
    reading role_at (masterack_in p) x past ≡ (if b then reading role_at (masterup_in p) x past else [])
unfolding reading masterack_in masterup_in nothing
masterack_in_Follow p q b x past r e = rw (r, ← e) (by_case (q.0 == p.0)) where
  by_case : (same : Bool) → (if same then nothing else reports_conflict q) x past ≡
      (if not same then (if same then (arms_elect followed_by tells_ticket p) else reports_conflict q) x past else [])
  by_case true = refl
  by_case false = refl

-- a correction is taken where its sender is the one that is followed
pub from_master_Follow : (p q : PeerId) (row : Row) (b : Bool) (x : ℕ) (past : Past) → role past.seen ≡ Follow q → (q.0 == p.0) ≡ b →
    reading role_at (from_master p row) x past ≡ (if b then row x past else [])
unfolding reading from_master nothing
from_master_Follow p q row b x past r e = rw (r, ← e) (by_case (q.0 == p.0)) where
  by_case : (same : Bool) → (if same then row else nothing) x past ≡ (if same then row x past else [])
  by_case true = refl
  by_case false = refl
