-- What a node does with a LOOP keeps what is known of each of its ports.
use Rattle.std.proofs.Common.{sym, subst, inr, ap, arith, true≢false, eqb-true, eq-eqb, leb-true, ltb-true, ◌∙◌, ◌≡◌, ◌≢◌, ◌≤◌, ◌<◌, ℕ, ◌+◌, ◌-◌, ◌==◌, ◌&&◌}
use Rattle.std.proofs.Common.{nat_le, nat_lt, Bool, true, false, if◌then◌else◌, List, [], ◌∷◌, map, length, Option, Some, refl, inl, not, None, is_some}
use Rattle.std.proofs.lemmas.Bool.{and_parts, not-true}
use Rattle.tsp_promises.proofs.leads.GateSteps.{AtPort, own_of, on_run, AllPorts, LeadsAll, Pick, picks, passes, placed_all, same_port}
use Rattle.tsp_promises.proofs.leads.HeedLeads.{EndsIn, ends_family, untaken_heeds, unquit_heeds, took_quit}
use Rattle.tsp_promises.proofs.leads.Changes.{open_of, wake, JustTook, Is, become_loose, take}
use Rattle.tsp_promises.proofs.{shared.PortLists.Ranged, shared.PortLists.Others, shared.PortLists.other_ranged, shared.PortLists.other_others}
use Rattle.tsp_promises.proofs.{leads.PostLeaves.post_message}
use Rattle.tsp_promises.proofs.{leads.Elsewheres.open_family, leads.Elsewheres.kept_aside, leads.Elsewheres.calm_bootless, leads.CommonLeads.arms_elect_during}
use Rattle.tsp_promises.proofs.{leads.TakenLeads.rests_of, leads.TakenLeads.wake_role, leads.TakenLeads.master_awake, leads.AlarmLeads.master_rested}
use Rattle.tsp_promises.proofs.{leads.Known.Open, leads.Known.OpenIn, leads.Known.Free, leads.Known.During, leads.Known.Ended, leads.AnswerLeads.open_rests}
use Rattle.tsp_promises.proofs.{leads.RoundLeads.Probed}
use Rattle.tsp_promises.specs.{DeedFits.MessageFits, StepFacts.is_quit, LoopFits.LoopFits, PortFits.setup_in}
use Rattle.tsp_rules.specs.Values.{Took, Post, Become, Message, Taken, Good, LoopKind, Body, Hops, PeerId, Place, Peer, Stranger, Port, Starting, Loose, Probe}
use Rattle.tsp_rules.specs.Values.{CloseAlarm}
use Rattle.tsp_rules.{specs.CandidateRows.yields, specs.CommonRows.arms_elect, specs.SendRows.is_kind_election, proofs.FewActs.is_calm}
use Rattle.tsp_rules.{specs.Guards.is_master_at, specs.Guards.is_starting_role, proofs.BuiltGate.built_loosens_master}
use Rattle.tsp_rules.specs.GateRows.{other_ports, hops_in, same_name, PassOver, GiveUp, Forward, one_hop_less, repost, reposts, is_awake_on, reposts_on}
use Rattle.tsp_rules.specs.GateRows.{loosens_master, forwards, takes_loop_step, hears_on, judges, heeds_loop, takes_loop, loop_to, sends_loops, is_last_probe}
use Rattle.tsp_rules.specs.NodeRows.{NodePast, on_port, spread, nothing_at_all, on, ◌and_then◌, reading_all, for_ports}
use Rattle.tsp_rules.proofs.Asides.{now}
use Rattle.tsp_rules.proofs.{CalmBuilt.calm_unmoving, GuardFacts.awake_is, GuardFacts.master_is, NodeRowLemmas.spread_append}
use Rattle.tsp_base.specs.Words.{Past, Leads, MessageValue, Received, role, grown, nothing, puts, ◌followed_by◌, others, deadline, acting, armed}
use Rattle.tsp_base.proofs.LeadsLemmas.{Leads_then, Leads_either, Leads_nothing, Leads_puts, Leads_from, Leads_to}

-- the LOOPs after a round's last probe keep what is known of their port

-- a port in a step, whether it has acted or not
pub during_open : {stirred : Bool} {T : Option Received → Option Received → Type 0} {x : ℕ} {past : Past} → OpenIn stirred T x past →
    During stirred false false [] (acting past.seen) T x past
during_open h = record {
  own = h.own;
  fits = h.fits;
  knows = h.knows;
  rested = λ e. absurd (true≢false (sym e));
  backs = h.backs;
  owed = h.owed;
  paid = h.paid;
  acting_is = refl;
  took = h.took;
}

-- port q, whose round has had its last probe
record Looping (q : Port) (x : ℕ) (past : Past) : Type 0 where
  pub probed : Probed x past
  pub port_is : past.port ≡ q
  pub until : ℕ
  pub goes : (armed past.seen).close ≡ Some until

loops_one : (q : Port) (x : ℕ) (past : Past) (p : PeerId) → Looping q x past → Looping q x (grown x past (loop_to q past.name p ∷ []))
loops_one q x past p h =
    let port = h.probed.open_port in
    let rested = master_rested x past port (port.knows.round.closes refl h.until h.goes).leads in
    record {
      probed = record {
        open_port = open_of (post_message p _ refl (inl (record { name = refl; number = ap (λ (r : Port). r.0) (sym h.port_is); hops = refl }))
            (wake rested (during_open port)));
        later = h.probed.later;
      };
      port_is = h.port_is;
      until = h.until;
      goes = h.goes;
    }

loops_list : (q : Port) (ps : List PeerId) (x : ℕ) (past : Past) → Looping q x past → Looping q x (grown x past (map (loop_to q past.name) ps))
loops_list q [] x past h = h
loops_list q (p ∷ ps) x past h = loops_list q ps x (grown x past (loop_to q past.name p ∷ [])) (loops_one q x past p h)

some_is : (o : Option ℕ) → is_some o ≡ true → (at : ℕ) × (o ≡ Some at)
some_is None e = absurd (true≢false (sym e))
some_is (Some at) e = (at, refl)

-- a LOOP sets out to each other peer
pub loops_kept : (q : Port) (x : ℕ) (past : Past) → past.port ≡ q → is_last_probe past ≡ true → Probed x past → Probed x (grown x past (sends_loops q x past))
unfolding sends_loops
loops_kept q x past port last h =
    let both = and_parts (is_some (deadline (armed past.seen) CloseAlarm)) (not (is_some (deadline (armed past.seen) Probe))) last in
    let goes = some_is (armed past.seen).close both.0 in
    (loops_list q (others past.own past.peers) x past (record { probed = h; port_is = port; until = goes.0; goes = goes.1 })).probed

-- the step has taken this datagram, on another port
abbrev pub IsHeard : Place → Taken → Option Received → Option Received → Type 0
IsHeard from t here anywhere = (here ≡ None) × (anywhere ≡ Some (record { from = from; taken = t }))

-- a port that took the LOOP has no QUIT to heed
loop_ends : {stirred awake : Bool} {x : ℕ} {past : Past} (from : Place) (m : MessageValue) → m.kind ≡ LoopKind →
    During stirred awake false [] true (Is from (Good (Message m))) x past → EndsIn stirred x past
loop_ends {past = past} from m kind h = (rests_of h, unquit_heeds past.peers past.seen (ap took_quit h.took ∙ ap is_quit kind))

-- names
name_same : (a b : List ℕ) → same_name a b ≡ true → a ≡ b
name_same [] [] e = refl
name_same (a ∷ mine) (b ∷ theirs) e =
    let both = and_parts (a == b) (same_name mine theirs) e in
    ap (λ k. k ∷ mine) (eqb-true a b both.0) ∙ ap (λ rest. b ∷ rest) (name_same mine theirs both.1)
name_same _ _ e = absurd (true≢false (sym e))

name_own : (a : List ℕ) → same_name a a ≡ true
name_own [] = refl
name_own (a ∷ rest) = let same : (a == a) ≡ true = eq-eqb a a refl in rw same (name_own rest)

-- hops
hops_are : (b : Body) → nat_le 1 (hops_in b) ≡ true → b ≡ Hops ((hops_in b - 1) + 1)
hops_are (Hops n) e = let some = leb-true 1 n e in ap Hops (omega (arith, some))
hops_are _ e = absurd (true≢false (sym e))

-- a master gives up for its own LOOP that came back
record GivesUp (p : PeerId) (m : MessageValue) (x : ℕ) (past : Past) : Type 0 where
  pub just : JustTook false (Peer p) (Good (Message m)) x past
  pub name : m.name ≡ past.name
  pub number : m.number < past.port.0

gives_up_leads : (p : PeerId) (m : MessageValue) → m.kind ≡ LoopKind → Leads (GivesUp p m) loosens_master Ended
unfolding loosens_master yields
gives_up_leads p m kind = Leads_either is_master_at (puts (Become Loose) followed_by arms_elect) nothing
    (Leads_then {Q = Free (Is (Peer p) (Good (Message m)))} (puts (Become Loose)) arms_elect
    (Leads_puts (Become Loose) (λ x past h. become_loose (λ e. record {
      from = p;
      message = m;
      took = h.0.just.free.took;
      kind = kind;
      name = h.0.name;
      number = h.0.number;
    })
    (wake_role (master_awake (role past.seen) (master_is (role past.seen) h.1)) h.0.just.free)))
    (Leads_to (λ x past h. loop_ends (Peer p) m kind h) arms_elect_during))
    (Leads_from (λ x past h. loop_ends (Peer p) m kind h.0.just.free) Leads_nothing)

-- a LOOP of another node than the one of this name, which goes on
record Known_loop (m : MessageValue) (name : List ℕ) : Type 0 where
  pub kind : m.kind ≡ LoopKind
  pub other : m.name ≢ name
  pub some : nat_le 1 (hops_in m.body) ≡ true
  pub few : hops_in m.body ≤ 10

-- a LOOP that is passed on by a port
record Passing (p : PeerId) (m : MessageValue) (x : ℕ) (past : Past) : Type 0 where
  pub open_port : OpenIn false (IsHeard (Peer p) (Good (Message m))) x past
  pub awake : role past.seen ≢ Starting
  pub known : Known_loop m past.name

loop_message : (p q : PeerId) (m : MessageValue) (x : ℕ) (past : Past) → Passing p m x past →
    MessageFits (setup_in past) (one_hop_less m).kind (now x past (Post (Peer q) (Message (one_hop_less m)))) past.seen q (one_hop_less m)
loop_message p q m x past h =
    let k = h.known in
    let some = leb-true 1 (hops_in m.body) k.some in
    let few = k.few in
    let fits : LoopFits (setup_in past) past.seen (one_hop_less m) = inr (record {
      from = p;
      message = m;
      took = h.open_port.took.1;
      kind = k.kind;
      name = refl;
      number = refl;
      other = k.other;
      left = hops_in m.body - 1;
      came = hops_are m.body k.some;
      goes = refl;
      few = omega (arith, some, few);
    }) in
    subst (λ k. MessageFits (setup_in past) k (now x past (Post (Peer q) (Message (one_hop_less m)))) past.seen q (one_hop_less m)) (sym k.kind) fits

passing_one : (p q : PeerId) (m : MessageValue) (x : ℕ) (past : Past) → Passing p m x past → Passing p m x (grown x past (repost (one_hop_less m) q ∷ []))
passing_one p q m x past h = record {
  open_port = open_of (post_message q (one_hop_less m) (ap is_kind_election h.known.kind) (loop_message p q m x past h)
      (wake_role h.awake (during_open h.open_port)));
  awake = h.awake;
  known = h.known;
}

passing_list : (p : PeerId) (m : MessageValue) (ps : List PeerId) (x : ℕ) (past : Past) → Passing p m x past →
    Passing p m x (grown x past (map (repost (one_hop_less m)) ps))
passing_list p m [] x past h = h
passing_list p m (q ∷ ps) x past h = passing_list p m ps x (grown x past (repost (one_hop_less m) q ∷ [])) (passing_one p q m x past h)

pub repost_calm : (m : MessageValue) (ps : List PeerId) → is_calm false false (map (repost m) ps) ≡ true
repost_calm m [] = refl
repost_calm m (p ∷ ps) = repost_calm m ps

-- what is known of all ports while a LOOP is passed on: the port that took it rests, the others may post it
abbrev pub Spreading : Port → Place → MessageValue → Port → ℕ → Past → Type 0
Spreading q from m r = Pick (q.0 == r.0) Ended (OpenIn false (IsHeard from (Good (Message m))))

reposts_one : (q r : Port) (p : PeerId) (m : MessageValue) (x : ℕ) (past : NodePast) → Known_loop m past.name → (q.0 == r.0) ≡ false → r.0 < length past.ports →
    AllPorts (Spreading q (Peer p) m) x past →
    AllPorts (Spreading q (Peer p) m) x (spread x past (reposts_on (one_hop_less m) r x past))
unfolding reposts_on on reposts
reposts_one q r p m x past k n has all = by_case (is_awake_on past r) refl where
  by_case : (b : Bool) → is_awake_on past r ≡ b → AllPorts (Spreading q (Peer p) m) x (spread x past (if b then on r (reposts (one_hop_less m)) x past else []))
  by_case true e =
      let here = on_port r past in
      let acts = map (repost (one_hop_less m)) (others here.own here.peers) in
      let calm = repost_calm (one_hop_less m) (others here.own here.peers) in
      let awake = awake_is (role here.seen) (not-true (is_starting_role (role here.seen)) e) in
      placed_all r x past acts (Spreading q (Peer p) m) (Spreading q (Peer p) m) (calm_bootless false false acts calm)
      (passes n (passing_list p m (others here.own here.peers) x here (record { open_port = (all r has).no n; awake = awake; known = k })).open_port)
      (λ s d h y. record {
        yes = λ t. kept_aside ends_family false x (on_port s past) acts calm (y.yes t);
        no = λ t. kept_aside open_family false x (on_port s past) acts calm (y.no t);
      })
      all
  by_case false e = all

reposts_all : (q : Port) (p : PeerId) (m : MessageValue) (ports : List Port) (x : ℕ) (past : NodePast) → Known_loop m past.name →
    Ranged (length past.ports) ports → Others q ports → AllPorts (Spreading q (Peer p) m) x past →
    AllPorts (Spreading q (Peer p) m) x (spread x past (for_ports (reposts_on (one_hop_less m)) ports x past))
unfolding for_ports nothing_at_all ◌and_then◌
reposts_all q p m [] x past k ranged other all = all
reposts_all q p m (r ∷ rest) x past k ranged other all =
    let first = reposts_on (one_hop_less m) r x past in
    subst (λ z. AllPorts (Spreading q (Peer p) m) x z) (sym (spread_append x past first (for_ports (reposts_on (one_hop_less m)) rest x (spread x past first))))
    (reposts_all q p m rest x (spread x past first) k ranged.1 other.1 (reposts_one q r p m x past k other.0 ranged.0 all))

-- after the taking
abbrev pub TookLoop : Port → Place → MessageValue → ℕ → NodePast → Type 0
TookLoop q from m = AtPort q (JustTook false from (Good (Message m))) (λ r. OpenIn false (IsHeard from (Good (Message m))))

resting : (q : Port) (from : Place) (m : MessageValue) (x : ℕ) (past : NodePast) → m.kind ≡ LoopKind → TookLoop q from m x past →
    AllPorts (Spreading q from m) x past
resting q from m x past kind h r has = let y = h.all r has in record { yes = λ e. loop_ends from m kind (y.yes e).free; no = y.no }

ends_rest : (q : Port) (from : Place) (m : MessageValue) (x : ℕ) (past : NodePast) → AllPorts (Spreading q from m) x past → AllPorts (λ r. Ended) x past
ends_rest q from m x past all r has = by_case (q.0 == r.0) refl where
  by_case : (b : Bool) → (q.0 == r.0) ≡ b → Ended x (on_port r past)
  by_case true e = (all r has).yes e
  by_case false e = let k = (all r has).no e in (open_rests x (on_port r past) k, untaken_heeds (on_port r past).peers (on_port r past).seen k.took.0)

loop_over : (q : Port) (from : Place) (m : MessageValue) (x : ℕ) (past : NodePast) → m.kind ≡ LoopKind → TookLoop q from m x past → AllPorts (λ r. Ended) x past
loop_over q from m x past kind h = ends_rest q from m x past (resting q from m x past kind h)

gives_up_all : (q : Port) (p : PeerId) (m : MessageValue) (x : ℕ) (past : NodePast) → m.kind ≡ LoopKind → m.name ≡ past.name → m.number < q.0 →
    TookLoop q (Peer p) m x past → AllPorts (λ r. Ended) x (spread x past (on q loosens_master x past))
gives_up_all q p m x past kind name number h =
    let heard = IsHeard (Peer p) (Good (Message m)) in
    let own = (gives_up_leads p m kind).run x (on_port q past) (record { just = own_of q x past h; name = name; number = number }) in
    let calm = (calm_unmoving {strange = false} {moving = false} refl built_loosens_master).calm x (on_port q past) in
    let after = on_run (λ r stirred. OpenIn stirred heard) (λ r. open_family) {Q = Ended} false q loosens_master x past calm own h in
    ends_rest q (Peer p) m x (spread x past (on q loosens_master x past)) after.all

forwards_all : (q : Port) (p : PeerId) (m : MessageValue) (x : ℕ) (past : NodePast) → Known_loop m past.name → TookLoop q (Peer p) m x past →
    AllPorts (λ r. Ended) x (spread x past (forwards q (one_hop_less m) x past))
unfolding forwards
forwards_all q p m x past k h =
    ends_rest q (Peer p) m x (spread x past (for_ports (reposts_on (one_hop_less m)) (other_ports q past) x past))
    (reposts_all q p m (other_ports q past) x past k (other_ranged q past) (other_others q past) (resting q (Peer p) m x past k.kind h))

judges_all : (q : Port) (p : PeerId) (m : MessageValue) (x : ℕ) (past : NodePast) → m.kind ≡ LoopKind → TookLoop q (Peer p) m x past →
    AllPorts (λ r. Ended) x (spread x past (judges q m x past))
unfolding judges takes_loop_step nothing_at_all
judges_all q p m x past kind h = by_case (nat_le 2 (length past.ports)) (same_name m.name past.name) refl (nat_lt m.number q.0) refl
    (nat_le 1 (hops_in m.body) && nat_le (hops_in m.body) 10) refl where
      over : AllPorts (λ r. Ended) x past
      over = loop_over q (Peer p) m x past kind h

      by_case : (two same : Bool) → same_name m.name past.name ≡ same → (lower : Bool) → nat_lt m.number q.0 ≡ lower → (hops : Bool) →
          (nat_le 1 (hops_in m.body) && nat_le (hops_in m.body) 10) ≡ hops →
          AllPorts (λ r. Ended) x (spread x past (takes_loop_step q (if two then (if same then (if lower then GiveUp else PassOver) else
          (if hops then Forward (one_hop_less m) else PassOver)) else PassOver) x past))
      by_case true true s true l hops o = gives_up_all q p m x past kind (name_same m.name past.name s) (ltb-true m.number q.0 l) h
      by_case true false s lower l true o =
          let both = and_parts (nat_le 1 (hops_in m.body)) (nat_le (hops_in m.body) 10) o in
          let other : m.name ≢ past.name = λ is. true≢false (sym (name_own m.name) ∙ ap (same_name m.name) is ∙ s) in
          forwards_all q p m x past (record { kind = kind; other = other; some = both.0; few = leb-true (hops_in m.body) 10 both.1 }) h
      by_case _ _ s _ l _ o = over

heeds_all : (q : Port) (from : Place) (m : MessageValue) (x : ℕ) (past : NodePast) → m.kind ≡ LoopKind → TookLoop q from m x past → (b : Bool) →
    hears_on from q x past ≡ b → AllPorts (λ r. Ended) x (spread x past (heeds_loop q m b x past))
unfolding heeds_loop nothing_at_all
heeds_all q (Peer p) m x past kind h true e = judges_all q p m x past kind h
heeds_all q Stranger m x past kind h true e = absurd (true≢false (sym e))
heeds_all q from m x past kind h false e = loop_over q from m x past kind h

-- a LOOP is taken
pub takes_loop_lead : (q : Port) (from : Place) (m : MessageValue) → m.kind ≡ LoopKind →
    LeadsAll (λ x past. (q.0 < length past.ports) × AllPorts (λ r. Open) x past) (takes_loop q from m) (AllPorts (λ r. Ended))
unfolding takes_loop on puts ◌and_then◌ reading_all
takes_loop_lead q from m kind = record {
  run = λ x past h.
      let t = Good (Message m) in
      let first = on q (puts (Took from t)) x past in
      let mid = spread x past first in
      let took : TookLoop q from m x mid = record {
        has = h.0;
        all = placed_all q x past (Took from t ∷ []) (λ r. Open) (λ r. Pick (q.0 == r.0) (JustTook false from t) (OpenIn false (IsHeard from t)))
            ((λ is. let bad : ⊥ = cc in bad), tt)
            (picks (same_port q) (take from t (h.1 q h.0)))
            (λ r n has s. passes n (record
            { own = s.own; fits = s.fits; knows = s.knows; backs = s.backs; owed = s.owed; paid = s.paid; took = (s.took.0, refl) })) h.1;
      } in
      subst (λ z. AllPorts (λ r. Ended) x z) (sym (spread_append x past first (heeds_loop q m (hears_on from q x mid) x mid)))
      (heeds_all q from m x mid kind took (hears_on from q x mid) refl);
}
