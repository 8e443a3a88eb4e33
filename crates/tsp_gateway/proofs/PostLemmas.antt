-- LOOPs are posted, which changes nothing of a port.
use Rattle.std.proofs.Common.{sym, subst, ap, ◌∙◌, ◌≡◌, ℕ, true, false, List, [], ◌∷◌, ◌++◌, map, Some, slice_get, refl}
use Rattle.tsp_rules.specs.Values.{Placed, LoopKind, Hops, PeerId, Peer, Port, HOPS}
use Rattle.tsp_base.specs.Words.{Past, MessageValue, Row, grown, others, placed, puts, is_numbered}
use Rattle.tsp_rules.specs.{GateRows.loop_to, GateRows.repost, NodePerforms.PerformsAll, NodeRows.on, NodeRows.on_port}
use Rattle.tsp_rules.proofs.Emits.{Sort, Emits, Emits_puts, Posting, is_in, sort_of_kind}
use Rattle.tsp_acks.proofs.StandsLemmas.{Stands_post}
use Rattle.tsp_clients.proofs.ClientLemmas.{TraceStands_by}
use Rattle.tsp_date.proofs.KeepLemmas.{DatesStand_by}
use Rattle.tsp_master.proofs.TableLemmas.{MasterStands_quiet, quiet_sorts}
use Rattle.tsp_resolve.proofs.ResolveLemmas.{ResolveStands_by}
use Rattle.tsp_slave.proofs.BesideLemmas.{ClockStands_by, Remembers_by}
use Rattle.tsp_node.specs.{NodeStands.TakeStands, NodeStands.TracedValue, NodeStands.traced_with, declared.part.Part.Part}
use Rattle.tsp_gateway.specs.{GatewayStands.GatewayStands, GatewayStands.port_at, declared.gateway.Gateway.Gateway}
use Rattle.tsp_gateway.proofs.LiftLemmas.{All_on, bootless_silent, set_same, silent_still, still_by, still_sorts, take_stands}

-- a LOOP is a post like any other
sort_loop : (m : MessageValue) (sorts : List Sort) → m.kind ≡ LoopKind → is_in Posting sorts ≡ true → is_in (sort_of_kind m.kind) sorts ≡ true
sort_loop m sorts k e = rw k e

emits_post : {sorts : List Sort} (p : PeerId) (m : MessageValue) → m.kind ≡ LoopKind → is_in Posting sorts ≡ true → Emits sorts (puts (repost m p))
emits_post {sorts} p m k i = Emits_puts (repost m p) (sort_loop m sorts k i)

one_post : (p : PeerId) (m : MessageValue) (x : ℕ) (past : Past) (state : TracedValue) → m.kind ≡ LoopKind → TakeStands past state →
    TakeStands (grown x past (repost m p ∷ [])) state
unfolding puts
one_post p m x past state k h =
    let numbered : is_numbered m.kind ≡ false = rw k refl in
    record {
      port = record {
        station = Stands_post (Peer p) m x past state.port.station numbered h.port.station;
        last = Remembers_by (puts (repost m p)) (emits_post p m k refl) x past state.port.last h.port.last;
        master = MasterStands_quiet (repost m p) (sort_loop m quiet_sorts k refl) x past state.port.master h.port.master;
        resolve = ResolveStands_by (puts (repost m p)) (emits_post p m k refl) x past state.port.resolve h.port.resolve;
        dates = DatesStand_by (puts (repost m p)) (emits_post p m k refl) x past state.port.dates h.port.dates;
        clock = ClockStands_by (puts (repost m p)) (emits_post p m k refl) x past state.port.clock h.port.clock;
      };
      trace = TraceStands_by (puts (repost m p)) (emits_post p m k refl) x past state.tracing h.trace;
    }

all_posts : (ps : List PeerId) (m : MessageValue) (x : ℕ) (past : Past) (state : TracedValue) → m.kind ≡ LoopKind → TakeStands past state →
    TakeStands (grown x past (map (repost m) ps)) state
all_posts [] m x past state k h = h
all_posts (p ∷ later) m x past state k h = all_posts later m x (grown x past (repost m p ∷ [])) state k (one_post p m x past state k h)

-- a LOOP to each other peer of a port
pub All_posted : {x : ℕ} {g : Gateway} {part : Part} {old new : List Placed} (q : ℕ) (row : Row) (m : MessageValue) → m.kind ≡ LoopKind →
    Emits still_sorts row → slice_get g.ports.items q ≡ Some part →
    new ≡ old ++ placed (port_at q) (map (repost m) (others part.station.me.own part.station.peers)) →
    ((past : Past) → TakeStands past (traced_with part g.clock g.tracing) → map (repost m) (others part.station.me.own part.station.peers) ≡ row x past) →
    PerformsAll GatewayStands GatewayStands (on (port_at q) row) x g g old new
All_posted {x} {g} {part} {old} {new} q row m k e was put same =
    All_on {W = GatewayStands} {P = TakeStands} {Q = TakeStands} false part part (bootless_silent (silent_still e))
    (λ past w. still_by e x (on_port (port_at q) past)) (sym (set_same g.ports.items q part was)) (λ past w. w) (λ past w. take_stands q past g part was w)
    (λ past t. t)
    (record {
      acts = λ past h. put ∙ ap (λ acts. old ++ placed (port_at q) acts) (same past h);
      stands = λ past h. subst (λ acts. TakeStands (grown x past acts) (traced_with part g.clock g.tracing)) (same past h)
          (all_posts (others part.station.me.own part.station.peers) m x past (traced_with part g.clock g.tracing) k h);
    })

-- a node's own LOOP, posted as it is
pub loops_are : (q : Port) (name : List ℕ) (ps : List PeerId) → map (repost (record { kind = LoopKind; number = q.0; body = Hops HOPS; name = name })) ps ≡
    map (loop_to q name) ps
loops_are q name [] = refl
loops_are q name (p ∷ later) = ap (λ rest. loop_to q name p ∷ rest) (loops_are q name later)
