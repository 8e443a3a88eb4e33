-- What a port does with a message.
use Rattle.std.proofs.Common.{◌∙◌, ap, subst, sym, ◌≡◌, ◌≢◌, ℕ, ◌==◌, ◌&&◌, not, Bool, true, false, if◌then◌else◌, List, [], ◌∷◌, ◌++◌, Option, None, Some}
use Rattle.std.proofs.Common.{refl}
use Rattle.std.{proofs.lemmas.Bool.false≢true, proofs.lemmas.Bool.and_right, specs.List.Contains}
use Rattle.tsp_rules.specs.Values.{Backer, Acked, Placed, Kind, Accept, Ack, AdjTime, Conflict, Date, DateAck, DateReq, Election, LoopKind, MasterAck, MasterUp}
use Rattle.tsp_rules.specs.Values.{Msite, MsiteReq, QuitKind, Refuse, SetDate, SetDateReq, SetTime, Test, TraceOff, TraceOn, PeerId, Place, Peer, Stranger}
use Rattle.tsp_rules.specs.Values.{Port, Role, Starting, Candidate, Master}
use Rattle.tsp_rules.specs.Answers.{from_peer, is_left, peer_says, replies_in, says_in, handles_kind}
use Rattle.tsp_rules.specs.CommonRows.{names_master, quits, says_master, tests, traces}
use Rattle.tsp_rules.specs.{MasterRows.master_takes, MasterRows.master_takes_kind, SlaveRows.slave_takes, SlaveRows.slave_takes_kind}
use Rattle.tsp_rules.specs.{ResolveRows.finds_rival, ResolveRows.resolves, RoundRows.samples}
use Rattle.tsp_rules.specs.CandidateRows.{accepted_by, candidate_takes, candidate_takes_kind, refused_by, yields}
use Rattle.tsp_rules.specs.SendRows.{acknowledges, answers_election, has_election, is_kind_election}
use Rattle.tsp_rules.specs.Guards.{is_follow, is_heard, is_master, is_starting_role, role_at}
use Rattle.tsp_rules.proofs.{BuiltRoles.built_candidate_takes_kind, BuiltRoles.built_yields, EmitsBuilt.emits_built}
use Rattle.tsp_base.specs.Words.{Past, MessageValue, is_among, Performs, Received, role, Row, either_by, grown, nothing, placed, posts, puts, reading}
use Rattle.tsp_base.specs.Words.{◌followed_by◌, Sending, corrects_in, is_correction, is_date_request, open_send, ReplyValue}
use Rattle.tsp_base.proofs.PerformsLemmas.{Performs_else_part, Performs_reading, Performs_then_part}
use Rattle.tsp_acks.{proofs.PeerLemmas.Contains_among, specs.Stands.StationStands, specs.declared.station.Station.Station}
use Rattle.tsp_master.specs.MasterStands.{MasterStands}
use Rattle.tsp_master.{specs.MasterTakes.master_takes_kind_here, proofs.TurnLemmas.MasterStands_idle, proofs.TurnLemmas.MasterStands_unheld}
use Rattle.tsp_master.{specs.declared.master.Master.Master as MasterValue, proofs.TableLemmas.MasterStands_quiet}
use Rattle.tsp_node.specs.declared.audience.Audience.TheVariants.{OfClients, OfNode, OfRoles, OfSends}
use Rattle.tsp_node.specs.{Audiences.audience_of, Audiences.heard_from, Audiences.hears_by, declared.audience.Audience.Audience}
use Rattle.tsp_node.{proofs.NodeLemmas.Performs_pass, specs.NodeStands.PortStands, specs.NodeStands.PortTook, specs.NodeStands.PortValue}

pub is_stranger : (from : Place) → ((p : PeerId) → from ≡ Peer p → ⊥) → from ≡ Stranger
is_stranger (Peer p) n = absurd (n p refl)
is_stranger Stranger n = refl

-- whether a port of this role leaves this kind of message to the port that steers
abbrev pub leaves_by : Bool → Kind → Role → Bool
leaves_by steer kind r = not steer && (is_correction kind && is_follow r)

-- the row's tests, as the station has them
is_left_at : (steer : Bool) (kind : Kind) (x : ℕ) (past : Past) (station : Station) → StationStands past station → is_left steer kind x past ≡
    leaves_by steer kind station.role
is_left_at steer kind x past station s = ap (leaves_by steer kind) (sym s.role)

is_heard_at : (p : PeerId) (x : ℕ) (past : Past) (station : Station) → StationStands past station → is_heard p x past ≡ hears_by station p
is_heard_at p x past station s = rw (s.peers, s.role) refl

-- a correction that is left is passed over
pub Performs_left : {r : Received} {x : ℕ} {port : Port} {state : PortValue} {old : List Placed} (steer : Bool) (k : Kind) (row : Row) →
    leaves_by steer k state.station.role ≡ true → Performs (PortTook r) PortStands (either_by (is_left steer k) nothing row) x port state state old old
Performs_left {x = x} {state = state} steer k row e = Performs_then_part (is_left steer k) row (λ past h. is_left_at steer k x past state.station
    h.stands.station ∙ e) Performs_pass

-- what isn't left is handled
pub Performs_kept : {r : Received} {x : ℕ} {port : Port} {before after : PortValue} {old new : List Placed} (steer : Bool) (k : Kind) {row : Row} →
    leaves_by steer k before.station.role ≡ false → Performs (PortTook r) PortStands row x port before after old new →
    Performs (PortTook r) PortStands (either_by (is_left steer k) nothing row) x port before after old new
Performs_kept {x = x} {before = before} steer k e d = Performs_else_part (is_left steer k) nothing (λ past h. is_left_at steer k x past before.station
    h.stands.station ∙ e) d

-- only a follower leaves anything
pub leaves_none : (steer : Bool) (k : Kind) (r : Role) → is_follow r ≡ false → leaves_by steer k r ≡ false
leaves_none true k r e = refl
leaves_none false k r e = rw e (and_right (is_correction k) false refl)

-- and that only of what is for the roles
pub kept_unless : (k : Kind) (a : Audience) → audience_of k ≡ a → a ≢ OfRoles → is_correction k ≡ false
kept_unless AdjTime a e n = absurd (n (sym e))
kept_unless SetTime a e n = absurd (n (sym e))
kept_unless _ a e n = refl

never_left : (steer : Bool) (k : Kind) (x : ℕ) (past : Past) → is_correction k ≡ false → is_left steer k x past ≡ false
never_left true k x past e = refl
never_left false k x past e = rw e refl

pub Performs_never_left : {S T : Type 0} {p : Past → S → Type 0} {q : Past → T → Type 0} {x : ℕ} {port : Port} {before : S} {after : T} {old new : List Placed}
    (steer : Bool) (k : Kind) {row : Row} → is_correction k ≡ false → Performs p q row x port before after old new →
    Performs p q (either_by (is_left steer k) nothing row) x port before after old new
Performs_never_left {x = x} steer k e d = Performs_else_part (is_left steer k) nothing (λ past h. never_left steer k x past e) d

-- nothing is done in either case
pub Performs_either_way : {S T : Type 0} {p : Past → S → Type 0} {q : Past → T → Type 0} {x : ℕ} {port : Port} {before : S} {after : T} {old new : List Placed}
    (test : ℕ → Past → Bool) (r s : Row) → Performs p q r x port before after old new → Performs p q s x port before after old new →
    Performs p q (either_by test r s) x port before after old new
unfolding either_by
Performs_either_way {q = q} {x = x} {port = port} {after = after} {old = old} {new = new} test r s d e = record {
  acts = λ past h. elim (test x past) as (λ b. new ≡ old ++ placed port (if b then r x past else s x past)) [ true ↦ d.acts past h | false ↦ e.acts past h ];
  stands = λ past h. elim (test x past) as (λ b. q (grown x past (if b then r x past else s x past)) after) [
    | true ↦ d.stands past h
    | false ↦
        e.stands past h
  ];
}

-- whom a port heeds, by who sent it
pub heard_stranger : (station : Station) (from : Place) → from ≡ Stranger → heard_from station from ≡ None
heard_stranger station from is = rw is refl

pub heard_peer_holds : (station : Station) (from : Place) (p : PeerId) → from ≡ Peer p → hears_by station p ≡ true → heard_from station from ≡ Some p
heard_peer_holds station from p is h = rw (is, h) refl

pub unheard_peer : (station : Station) (from : Place) (p : PeerId) → from ≡ Peer p → hears_by station p ≡ false → heard_from station from ≡ None
unheard_peer station from p is h = rw (is, h) refl

-- who isn't heard is passed over
not_heard : (station : Station) (p : PeerId) → heard_from station (Peer p) ≡ None → hears_by station p ≡ false
not_heard station p e = by_test (hears_by station p) refl e where
  by_test : (b : Bool) → hears_by station p ≡ b → (if b then Some p else None) ≡ None → hears_by station p ≡ false
  by_test true h e = let bad : ⊥ = cc in absurd bad
  by_test false h e = h

pub Performs_unheard : {r : Received} {x : ℕ} {port : Port} {state : PortValue} {old : List Placed} (from : Place) (row : PeerId → Row) →
    heard_from state.station from ≡ None → Performs (PortTook r) PortStands (from_peer from row) x port state state old old
unfolding from_peer
Performs_unheard {x = x} {state = state} (Peer p) row e = Performs_else_part (is_heard p) (row p) (λ past h. is_heard_at p x past state.station h.stands.station
    ∙ not_heard state.station p e) Performs_pass
Performs_unheard Stranger row e = Performs_pass

-- who is heard is handled
pub is_from : (station : Station) (from : Place) (p : PeerId) → heard_from station from ≡ Some p → from ≡ Peer p
is_from station (Peer q) p e = by_test (hears_by station q) e where
  by_test : (b : Bool) → (if b then Some q else None) ≡ Some p → Peer q ≡ Peer p
  by_test true e = cc
  by_test false e = let bad : ⊥ = cc in absurd bad
is_from station Stranger p e = let bad : ⊥ = cc in absurd bad

pub is_hearing : (station : Station) (from : Place) (p : PeerId) → heard_from station from ≡ Some p → hears_by station p ≡ true
is_hearing station (Peer q) p e = by_test (hears_by station q) refl e where
  by_test : (b : Bool) → hears_by station q ≡ b → (if b then Some q else None) ≡ Some p → hears_by station p ≡ true
  by_test true h e = let same : q ≡ p = cc in subst (λ k. hears_by station k ≡ true) same h
  by_test false h e = let bad : ⊥ = cc in absurd bad
is_hearing station Stranger p e = let bad : ⊥ = cc in absurd bad

pub Performs_heard_at : {r : Received} {x : ℕ} {port : Port} {before after : PortValue} {old new : List Placed} (p : PeerId) (row : PeerId → Row) →
    hears_by before.station p ≡ true →
    Performs (PortTook r) PortStands (row p) x port before after old new → Performs (PortTook r) PortStands (from_peer (Peer p) row) x port before after old new
unfolding from_peer
Performs_heard_at {x = x} {before = before} p row e d = Performs_then_part (is_heard p) nothing (λ past h. is_heard_at p x past before.station h.stands.station
    ∙ e) d

pub Performs_heard_by : {r : Received} {x : ℕ} {port : Port} {before after : PortValue} {old new : List Placed} (from : Place) (p : PeerId) (row : PeerId →
    Row) → heard_from before.station from ≡ Some p →
    Performs (PortTook r) PortStands (row p) x port before after old new → Performs (PortTook r) PortStands (from_peer from row) x port before after old new
Performs_heard_by {before = before} from p row e d = rw (is_from before.station from p e) (Performs_heard_at p row (is_hearing before.station from p e) d)

-- by the role that the port has
pub Performs_by_role : {r : Received} {x : ℕ} {port : Port} {before after : PortValue} {old new : List Placed} (rows : Role → Row) →
    Performs (PortTook r) PortStands (rows before.station.role) x port before after old new →
    Performs (PortTook r) PortStands (reading role_at rows) x port before after old new
Performs_by_role {before = before} rows d = Performs_reading role_at rows before.station.role (λ past k. sym k.stands.station.role) d

-- an ACK is handled alike by every role that hears
pub says_ack : (p : PeerId) (m : MessageValue) (r : Role) → m.kind ≡ Ack → is_starting_role r ≡ false → says_in p m r ≡ acknowledges p m.number
unfolding says_in slave_takes slave_takes_kind candidate_takes candidate_takes_kind master_takes master_takes_kind
says_ack p m Starting e n = absurd (false≢true (sym n))
says_ack p m _ e n = rw e refl

-- a port that is Loose or follows
pub says_slave : (p : PeerId) (m : MessageValue) (r : Role) → r ≢ Starting → r ≢ Candidate → r ≢ Master → says_in p m r ≡ slave_takes p m
unfolding says_in
says_slave p m Starting s c l = absurd (s refl)
says_slave p m Candidate s c l = absurd (c refl)
says_slave p m Master s c l = absurd (l refl)
says_slave p m _ s c l = refl

-- a master's rows that are its own
pub master_takes_other : (p : PeerId) (m : MessageValue) (k : Kind) → k ≢ Ack → k ≢ QuitKind → k ≢ MasterUp → k ≢ Conflict → k ≢ MasterAck →
    master_takes_kind p m k ≡ master_takes_kind_here p m k
unfolding master_takes_kind master_takes_kind_here
master_takes_other p m Ack a q u c t = absurd (a refl)
master_takes_other p m QuitKind a q u c t = absurd (q refl)
master_takes_other p m MasterUp a q u c t = absurd (u refl)
master_takes_other p m Conflict a q u c t = absurd (c refl)
master_takes_other p m MasterAck a q u c t = absurd (t refl)
master_takes_other p m _ a q u c t = refl

-- the role of a port that hears a peer
pub heard_role : (station : Station) (from : Place) (p : PeerId) → heard_from station from ≡ Some p → is_starting_role station.role ≡ false
heard_role station from p e = by_test (is_among p station.peers) (is_starting_role station.role) refl (is_hearing station from p e) where
  by_test : (a s : Bool) → is_starting_role station.role ≡ s → (a && not s) ≡ true → is_starting_role station.role ≡ false
  by_test true true e h = absurd (false≢true h)
  by_test true false e h = e
  by_test false s e h = absurd (false≢true h)

pub heard_peer : (station : Station) (from : Place) (p : PeerId) → heard_from station from ≡ Some p → Contains station.peers p
heard_peer station from p e = Contains_among p station.peers (by_test (is_among p station.peers) refl (is_hearing station from p e)) where
  by_test : (a : Bool) → is_among p station.peers ≡ a → (a && not (is_starting_role station.role)) ≡ true → is_among p station.peers ≡ true
  by_test true e h = e
  by_test false e h = absurd (false≢true h)

pub heard_awake : (station : Station) (from : Place) (p : PeerId) → heard_from station from ≡ Some p → station.role ≢ Starting
heard_awake station from p e s = false≢true (sym (heard_role station from p e) ∙ ap is_starting_role s)

-- a candidate's send that is answered doesn't correct
not_correcting : (number : ℕ) (s : Option Sending) → answers_election number s ≡ true → corrects_in s ≡ false
not_correcting number None e = absurd (false≢true e)
not_correcting number (Some s) e = by_kind s.message.kind e where
  by_kind : (k : Kind) → (is_kind_election k && (s.message.number == number)) ≡ true → is_correction k ≡ false
  by_kind Election e = refl
  by_kind _ e = absurd (false≢true e)

-- answers to a candidate leave a master alone that doesn't lead
pub accepted_keeps : (p : PeerId) (number x : ℕ) (past : Past) (m : MasterValue) → MasterStands past m →
    MasterStands (grown x past (accepted_by p number x past)) m
unfolding accepted_by either_by puts nothing ◌followed_by◌
accepted_keeps p number x past m h = by_test (has_election p number x past) refl where
  by_test : (b : Bool) → has_election p number x past ≡ b → MasterStands (grown x past (if b then Acked p ∷ Backer p ∷ [] else [])) m
  by_test true e = MasterStands_quiet (Backer p) refl x (grown x past (Acked p ∷ [])) m
      (MasterStands_unheld p x past m (not_correcting number (open_send p past.seen) e) h)
  by_test false e = h

pub refused_keeps : (p : PeerId) (number x : ℕ) (past : Past) (m : MasterValue) → role past.seen ≢ Master → MasterStands past m →
    MasterStands (grown x past (refused_by p number x past)) m
unfolding refused_by either_by puts nothing ◌followed_by◌
refused_keeps p number x past m other h = by_test (has_election p number x past) refl where
  by_test : (b : Bool) → has_election p number x past ≡ b → MasterStands (grown x past (if b then Acked p ∷ yields x (grown x past (Acked p ∷ [])) else [])) m
  by_test true e =
      MasterStands_idle yields (emits_built refl built_yields) x (grown x past (Acked p ∷ [])) m other
      (MasterStands_unheld p x past m (not_correcting number (open_send p past.seen) e) h)
  by_test false e = h

-- what a candidate does leaves a master alone that doesn't lead
pub candidate_keeps : (p : PeerId) (m : MessageValue) → m.kind ≢ Ack → (x : ℕ) (past : Past) (master : MasterValue) → role past.seen ≢ Master →
    MasterStands past master → MasterStands (grown x past (candidate_takes p m x past)) master
unfolding candidate_takes candidate_takes_kind
candidate_keeps p m n x past master other h = by_kind m.kind n where
  by_kind : (k : Kind) → k ≢ Ack → MasterStands (grown x past (candidate_takes_kind p m k x past)) master
  by_kind Accept n = accepted_keeps p m.number x past master h
  by_kind Refuse n = refused_keeps p m.number x past master other h
  by_kind Ack n = absurd (n refl)
  by_kind k n = MasterStands_idle (candidate_takes_kind p m k) (emits_built refl (built_candidate_takes_kind p m k tt tt)) x past master other h

-- a stamp reply, by whether the port leads
pub replies_master : (p : PeerId) (reply : ReplyValue) (role : Role) → is_master role ≡ true → replies_in p reply role ≡ samples p reply
unfolding replies_in
replies_master p reply Master e = refl
replies_master p reply _ e = absurd (false≢true e)

pub replies_none : (p : PeerId) (reply : ReplyValue) (role : Role) → is_master role ≡ false → replies_in p reply role ≡ nothing
unfolding replies_in
replies_none p reply Master e = absurd (false≢true (sym e))
replies_none p reply _ e = refl

-- what a role does, as the one that the port has
pub Performs_role : {t : Received} {x : ℕ} {port : Port} {before after : PortValue} {old new : List Placed} (p : PeerId) (m : MessageValue) (is r : Role) → is ≡
    r → Performs (PortTook t) PortStands (says_in p m r) x port before after old new →
    Performs (PortTook t) PortStands (says_in p m is) x port before after old new
Performs_role p m is r e d = rw e d

-- what a message's row is, by who handles its kind
abbrev Handled : Audience → Bool → Place → MessageValue → Kind → Type 0
Handled OfNode charge from m k = handles_kind charge from m k ≡ nothing
Handled OfRoles charge from m k = handles_kind charge from m k ≡ from_peer from (peer_says m)
Handled _ charge from m k = Unit {0}

handled : (charge : Bool) (from : Place) (m : MessageValue) (k : Kind) → Handled (audience_of k) charge from m k
unfolding handles_kind
handled charge from m Msite = tt
handled charge from m MsiteReq = tt
handled charge from m TraceOn = tt
handled charge from m TraceOff = tt
handled charge from m Test = tt
handled charge from m Date = tt
handled charge from m SetDate = tt
handled charge from m DateReq = tt
handled charge from m SetDateReq = tt
handled charge from m DateAck = tt
handled charge from m LoopKind = refl
handled charge from m Ack = tt
handled charge from m _ = refl

-- Who answers a message, as the rows have it
pub audience_node : (charge : Bool) (from : Place) (m : MessageValue) (k : Kind) → audience_of k ≡ OfNode → handles_kind charge from m k ≡ nothing
audience_node charge from m k e = subst (λ a. Handled a charge from m k) e (handled charge from m k)

pub audience_roles : (charge : Bool) (from : Place) (m : MessageValue) (k : Kind) → audience_of k ≡ OfRoles → handles_kind charge from m k ≡
    from_peer from (peer_says m)
audience_roles charge from m k e = subst (λ a. Handled a charge from m k) e (handled charge from m k)

-- what is known of a kind, by who handles it
abbrev Known : Audience → Kind → Type 0
Known OfClients k = k ≢ Msite → k ≢ MsiteReq → k ≢ TraceOn → k ≢ TraceOff → k ≡ Test
Known OfRoles k = is_date_request k ≡ false
Known OfSends k = k ≡ Ack
Known _ k = Unit {0}

known : (k : Kind) → Known (audience_of k) k
known Msite = λ a b c d. absurd (a refl)
known MsiteReq = λ a b c d. absurd (b refl)
known TraceOn = λ a b c d. absurd (c refl)
known TraceOff = λ a b c d. absurd (d refl)
known Test = λ a b c d. refl
known Date = tt
known SetDate = tt
known DateReq = tt
known SetDateReq = tt
known DateAck = tt
known LoopKind = tt
known Ack = refl
known _ = refl

-- an ACK is for the sends
pub audience_sends : (k : Kind) → audience_of k ≡ OfSends → k ≡ Ack
audience_sends k e = subst (λ a. Known a k) e (known k)

pub handles_ack : (charge : Bool) (from : Place) (m : MessageValue) → m.kind ≡ Ack → handles_kind charge from m m.kind ≡ from_peer from (peer_says m)
unfolding handles_kind
handles_ack charge from m e = rw e refl

pub roles_other : (k : Kind) → audience_of k ≡ OfRoles → k ≢ Ack
roles_other k e f = let same : OfSends ≡ OfRoles = sym (ap audience_of f) ∙ e in let bad : ⊥ = cc in bad

pub roles_date : (k : Kind) → audience_of k ≡ OfRoles → is_date_request k ≡ false
roles_date k e = subst (λ a. Known a k) e (known k)

-- the clients' last kind
pub audience_test : (k : Kind) → audience_of k ≡ OfClients → k ≢ Msite → k ≢ MsiteReq → k ≢ TraceOn → k ≢ TraceOff → k ≡ Test
audience_test k e = subst (λ a. Known a k) e (known k)

-- a master's rows, and the clients', by the kind
pub master_quit : (p : PeerId) (m : MessageValue) → m.kind ≡ QuitKind → master_takes p m ≡ quits p m.number
unfolding master_takes master_takes_kind
master_quit p m e = rw e refl

pub master_masterup : (p : PeerId) (m : MessageValue) → m.kind ≡ MasterUp → master_takes p m ≡ resolves
unfolding master_takes master_takes_kind
master_masterup p m e = rw e refl

pub master_conflict : (p : PeerId) (m : MessageValue) → m.kind ≡ Conflict → master_takes p m ≡ (posts p Ack m.number followed_by resolves)
unfolding master_takes master_takes_kind
master_conflict p m e = rw e refl

pub master_masterack : (p : PeerId) (m : MessageValue) → m.kind ≡ MasterAck → master_takes p m ≡ finds_rival p
unfolding master_takes master_takes_kind
master_masterack p m e = rw e refl

pub handles_msite : (charge : Bool) (from : Place) (m : MessageValue) → m.kind ≡ Msite → handles_kind charge from m m.kind ≡ names_master from m.number
unfolding handles_kind
handles_msite charge from m e = rw e refl

pub handles_msitereq : (charge : Bool) (from : Place) (m : MessageValue) → m.kind ≡ MsiteReq → handles_kind charge from m m.kind ≡ says_master from m.number
unfolding handles_kind
handles_msitereq charge from m e = rw e refl

pub handles_traceon : (charge : Bool) (from : Place) (m : MessageValue) → m.kind ≡ TraceOn → handles_kind charge from m m.kind ≡ traces from m.number true
unfolding handles_kind
handles_traceon charge from m e = rw e refl

pub handles_traceoff : (charge : Bool) (from : Place) (m : MessageValue) → m.kind ≡ TraceOff → handles_kind charge from m m.kind ≡ traces from m.number false
unfolding handles_kind
handles_traceoff charge from m e = rw e refl

pub handles_test : (charge : Bool) (from : Place) (m : MessageValue) → m.kind ≡ Test → handles_kind charge from m m.kind ≡ tests from m.number
unfolding handles_kind
handles_test charge from m e = rw e refl
