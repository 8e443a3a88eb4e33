-- How a turn lengthens a session.
use Rattle.std.proofs.Common.{ap, sym, subst, ◌∙◌, arith, inl, inr, ◌≡◌, ◌<◌, ◌≤◌, ◌+◌, ◌||◌, ℕ, suc, Bool, List, [], ◌∷◌, ◌++◌, length, take, Option, Some}
use Rattle.std.proofs.Common.{refl}
use Rattle.std.specs.Option.{option_map}
use Rattle.tsp_rules.specs.{GateRows.NodeGiven, GateRows.NodeTurn, GateRows.GotOn, GateRows.answers_all, NodePerforms.PerformsAll}
use Rattle.tsp_rules.specs.{NodeRows.NodePast, NodeRows.PortSetup, NodeRows.spread, Values.Placed, Values.Peer, Values.Stranger}
use Rattle.tsp_base.specs.Words.{dids, tracing}
use Rattle.tsp_codec.specs.Taken.{taken_of}
use Rattle.tsp_gateway.specs.{GatewayStands.GatewayStands, GatewayStands.GatewayBegun, PortOf.setups_in, declared.gateway.Gateway.Gateway}
use Rattle.tsp_gateway.proofs.{PortOfLemmas.setups_stand, StepLemmas.GatewayBegun_in_step}
use Rattle.tsp_io.specs.{Clocks.TakesReading, Counts.one_more, Streams.Grows, declared.link.Recv.Recv}
use Rattle.tsp_io.specs.Links.{Arrival, Tried, ReceivesOne, TakesDatagram, TakesNothing}
use Rattle.tsp_io.specs.declared.link.Recv.TheVariants.{Datagram, Nothing, Failed}
use Rattle.tsp_query.proofs.AskLemmas.{reading_taken}
use Rattle.tsp_query.specs.{Arrivals.next_arrival, Arrivals.all_but_first, Clocks.tick_given, Ends.Outside, Ends.KnowsExactly}
use Rattle.tsp_daemon.specs.declared.end.ServeEnd.{ServeEnd}
use Rattle.tsp_daemon.specs.declared.end.ServeEnd.TheVariants.{Done, LinkFault, WriteFault, OutOfMemory}
use Rattle.tsp_daemon.specs.Ends.{given_by, TriesAll, FinishesUntil, Lives, IsAt, EndsTurn, ServesUntil}
use Rattle.tsp_daemon.specs.{Posts.sends_of, Posts.shown_lines, Posts.AreKnown, declared.counters.Counters.Counters}
use Rattle.tsp_daemon.specs.Sessions.{Session, port_from, given_of, unheard, waited, turn_tick, given_in, turn_cause, turn_begun, acts_in_turn, past_after}
use Rattle.tsp_daemon.specs.Sessions.{shown_by_turn, turned, after_turns, Rises}
use Rattle.tsp_daemon.proofs.StrangerLemmas.{is_strange_on, known_any, known_steps}

-- a told arrival is the next, and the node is given it
received_is : (ports : List PortSetup) (arriving : List Arrival) (arrivals rest : Option (List Arrival)) (stranger now : Bool) (r : Recv) (buf : List ℕ) →
    arrivals ≡ Some arriving → (r ≡ Failed → ⊥) → ReceivesOne arrivals rest stranger now r buf →
    (rest ≡ Some (all_but_first arriving)) × (given_by ports r buf ≡ given_of ports (next_arrival arriving))
received_is ports arriving arrivals rest stranger now (Datagram from count) buf is ok got =
    by_datagram (subst (λ a. TakesDatagram a rest from (take count buf)) is got.1) where
      by_datagram : TakesDatagram (Some arriving) rest from (take count buf) → (rest ≡ Some (all_but_first arriving)) ×
          (given_by ports (Datagram from count) buf ≡ given_of ports (next_arrival arriving))
      by_datagram t = (
        t.3 ∙ ap (λ (xs : List Arrival). Some (all_but_first xs)) (sym t.2),
        ap (λ (o : List ℕ). GotOn (port_from ports from) from (taken_of o)) t.4 ∙ ap (λ (xs : List Arrival). given_of ports (next_arrival xs)) (sym t.2),
      )
received_is ports arriving arrivals rest stranger now Nothing buf is ok got = by_nothing arriving (subst (λ a. TakesNothing a rest) is got.0) where
  by_nothing : (xs : List Arrival) → TakesNothing (Some xs) rest → (rest ≡ Some (all_but_first xs)) × (NodeTurn ≡ given_of ports (next_arrival xs))
  by_nothing [] t = (t, refl)
  by_nothing (a ∷ after) t = (t.1, ap (λ (b : Arrival). given_of ports b) (sym t.0))
received_is ports arriving arrivals rest stranger now Failed buf is ok got = absurd (ok refl)

-- what a turn has read and heard when its node steps
pub record Waits (ports : List PortSetup) (o : Outside) (r : Recv) (buf : List ℕ) (tick : ℕ) (arrivals : Option (List Arrival)) (tried : Option (List Tried))
    (calls : Option ℕ) (readings : Option (List ℕ)) (last : ℕ) : Type 0 where
  pub tells : KnowsExactly (waited o) arrivals tried calls readings last
  pub given_is : given_by ports r buf ≡ given_of ports (next_arrival o.arrivals)
  pub tick_is : tick ≡ (waited o).last

pub waits_is : (ports : List PortSetup) (o : Outside) (arrivals now_arrivals : Option (List Arrival)) (tried now_tried : Option (List Tried))
    (calls now_calls : Option ℕ) (readings between now_readings : Option (List ℕ)) (last first last_between tick now_last : ℕ) (stranger now : Bool) (r : Recv)
    (buf : List ℕ) →
    KnowsExactly o arrivals tried calls readings last → TakesReading readings between last first → last_between ≡ first →
    ReceivesOne arrivals now_arrivals stranger now r buf → (r ≡ Failed → ⊥) → now_tried ≡ tried → now_calls ≡ option_map one_more calls →
    TakesReading between now_readings last_between tick → now_last ≡ tick → Waits ports o r buf tick now_arrivals now_tried now_calls now_readings now_last
waits_is ports o arrivals now_arrivals tried now_tried calls now_calls readings between now_readings last first last_between tick now_last stranger now r buf t
    one one_is got ok same counted two two_is =
    let a = reading_taken o.readings readings between last first t.readings_are one in
    let b = reading_taken (all_but_first o.readings) between now_readings last_between tick a.0 two in
    let c = received_is ports o.arrivals arrivals now_arrivals stranger now r buf t.arrivals_are ok got in
    let from : last_between ≡ tick_given o.last o.readings 0 = one_is ∙ a.1 ∙ ap (λ n. tick_given n o.readings 0) t.last_is in
    let to : tick ≡ (waited o).last = b.1 ∙ ap (λ n. tick_given n (all_but_first o.readings) 0) from in
    record {
      tells = record {
        arrivals_are = c.0;
        tried_are = same ∙ t.tried_are;
        calls_are = counted ∙ ap (option_map one_more) t.calls_are;
        readings_are = b.0;
        last_is = two_is ∙ to;
      };
      given_is = c.1;
      tick_is = to;
    }

-- the same where the counter is what it was
pub waits_on : (ports : List PortSetup) (o : Outside) (r : Recv) (buf : List ℕ) (tick : ℕ) (arrivals : Option (List Arrival)) (tried : Option (List Tried))
    (calls : Option ℕ) (readings now_readings : Option (List ℕ)) (last now_last : ℕ) →
    now_readings ≡ readings → now_last ≡ last → Waits ports o r buf tick arrivals tried calls readings last →
    Waits ports o r buf tick arrivals tried calls now_readings now_last
waits_on ports o r buf tick arrivals tried calls readings now_readings last now_last same is w = record {
  tells = record {
    arrivals_are = w.tells.arrivals_are;
    tried_are = w.tells.tried_are;
    calls_are = w.tells.calls_are;
    readings_are = same ∙ w.tells.readings_are;
    last_is = is ∙ w.tells.last_is;
  };
  given_is = w.given_is;
  tick_is = w.tick_is;
}

-- a receive failed
pub unheard_is : (o : Outside) (arrivals now_arrivals : Option (List Arrival)) (tried now_tried : Option (List Tried)) (calls now_calls : Option ℕ)
    (readings between : Option (List ℕ)) (last first last_between : ℕ) (stranger now : Bool) (r : Recv) (buf : List ℕ) →
    KnowsExactly o arrivals tried calls readings last → TakesReading readings between last first → last_between ≡ first →
    ReceivesOne arrivals now_arrivals stranger now r buf → r ≡ Failed → now_tried ≡ tried → now_calls ≡ option_map one_more calls →
    KnowsExactly (unheard o) now_arrivals now_tried now_calls between last_between
unheard_is o arrivals now_arrivals tried now_tried calls now_calls readings between last first last_between stranger now r buf t one one_is got failed same
    counted =
    let a = reading_taken o.readings readings between last first t.readings_are one in
    let none = subst (λ s. ReceivesOne arrivals now_arrivals stranger now s buf) failed got in
    record {
      arrivals_are = none.0 ∙ t.arrivals_are;
      tried_are = same ∙ t.tried_are;
      calls_are = counted ∙ ap (option_map one_more) t.calls_are;
      readings_are = a.0;
      last_is = one_is ∙ a.1 ∙ ap (λ n. tick_given n o.readings 0) t.last_is;
    }

-- what a turn's step has come to
pub record Steps (s : Session) (next : Gateway) (counters : Counters) (tick : ℕ) (acts : List Placed) (on : Bool) : Type 0 where
  pub stands : GatewayStands (past_after s) next
  pub acts_are : acts ≡ acts_in_turn s
  pub text_is : shown_lines on (counters.turns + 1) tick counters.posts acts ≡ shown_by_turn s

pub steps_is : (s : Session) (node next : Gateway) (counters : Counters) (r : Recv) (buf : List ℕ) (tick : ℕ) (acts : List Placed)
    (arrivals : Option (List Arrival)) (tried : Option (List Tried)) (calls : Option ℕ) (readings : Option (List ℕ)) (last : ℕ) (before after on : Bool) →
    GatewayStands s.past node → counters.turns ≡ s.turns → counters.posts ≡ s.posts →
    Waits s.past.ports s.outside r buf tick arrivals tried calls readings last →
    PerformsAll GatewayBegun GatewayStands (answers_all (given_by (setups_in node) r buf)) tick node next [] acts → before ≡ tracing (dids s.past.lines) →
    ((past : NodePast) → GatewayStands past next → after ≡ tracing (dids past.lines)) → on ≡ (before || after) → Steps s next counters tick acts on
steps_is s node next counters r buf tick acts arrivals tried calls readings last before after on stands turns posts w row before_is after_is on_is =
    let begins = GatewayBegun_in_step (record { at = turn_tick s; node = 0; cause = turn_cause (given_in s) }) (turn_tick s) s.past node stands in
    let set_up = subst (λ ports. PerformsAll GatewayBegun GatewayStands (answers_all (given_by ports r buf)) tick node next [] acts)
    (setups_stand s.past node stands) row in
    let given = subst (λ g. PerformsAll GatewayBegun GatewayStands (answers_all g) tick node next [] acts) w.given_is set_up in
    let here = subst (λ x. PerformsAll GatewayBegun GatewayStands (answers_all (given_in s)) x node next [] acts) w.tick_is given in
    let are : acts ≡ acts_in_turn s = here.acts (turn_begun (given_in s) (turn_tick s) s.past) begins in
    let stands_then : GatewayStands (past_after s) next = here.stands (turn_begun (given_in s) (turn_tick s) s.past) begins in
    record {
      stands = stands_then;
      acts_are = are;
      text_is =
          ap (λ b. shown_lines b (counters.turns + 1) tick counters.posts acts) (on_is ∙ ap (λ b. b || after) before_is ∙
          ap (λ b. tracing (dids s.past.lines) || b) (after_is (past_after s) stands_then))
          ∙ ap (λ n. shown_lines (tracing (dids s.past.lines) || tracing (dids (past_after s).lines)) (n + 1) tick counters.posts acts) turns
          ∙ ap (λ x. shown_lines (tracing (dids s.past.lines) || tracing (dids (past_after s).lines)) (s.turns + 1) x counters.posts acts) w.tick_is
          ∙ ap (λ n. shown_lines (tracing (dids s.past.lines) || tracing (dids (past_after s).lines)) (s.turns + 1) (turn_tick s) n acts) posts
          ∙ ap (λ ps. shown_lines (tracing (dids s.past.lines) || tracing (dids (past_after s).lines)) (s.turns + 1) (turn_tick s) s.posts ps) are;
    }

-- the session after a whole turn
pub turned_is : (s : Session) (next : Gateway) (counters : Counters) (r : Recv) (buf : List ℕ) (tick : ℕ) (acts : List Placed)
    (arrivals now_arrivals : Option (List Arrival)) (tried now_tried : Option (List Tried)) (calls now_calls : Option ℕ) (readings : Option (List ℕ)) (last : ℕ)
    (written now : Option (List ℕ)) (turns posts : ℕ) (on : Bool) →
    counters.turns ≡ s.turns → counters.posts ≡ s.posts → written ≡ Some s.written →
    Waits s.past.ports s.outside r buf tick arrivals tried calls readings last → Steps s next counters tick acts on → now_arrivals ≡ arrivals → now_calls ≡
    calls →
    TriesAll (sends_of acts) tried now_tried → Grows written now (shown_lines on (counters.turns + 1) tick counters.posts acts) →
    turns ≡ counters.turns + 1 → posts ≡ counters.posts + length (sends_of acts) →
    IsAt (turned s) next (record { turns = turns; posts = posts }) now_arrivals now_tried now_calls readings last now
turned_is s next counters r buf tick acts arrivals now_arrivals tried now_tried calls now_calls readings last written now turns posts on turns_is posts_is
    written_is w steps same counted tries grows turns_now posts_now = record {
      stands = steps.stands;
      turns_is = turns_now ∙ ap (λ n. n + 1) turns_is;
      posts_is = posts_now ∙ ap (λ n. n + length (sends_of acts)) posts_is ∙ ap (λ ps. s.posts + length (sends_of ps)) steps.acts_are;
      tells = record {
        arrivals_are = same ∙ w.tells.arrivals_are;
        tried_are = tries ∙ ap (option_map (λ ts. ts ++ sends_of acts)) w.tells.tried_are ∙ ap (λ ps. Some (s.outside.tried ++ sends_of ps)) steps.acts_are;
        calls_are = counted ∙ w.tells.calls_are;
        readings_are = w.tells.readings_are;
        last_is = w.tells.last_is;
      };
      written_is = grows ∙ ap (option_map (λ xs. xs ++ shown_lines on (counters.turns + 1) tick counters.posts acts)) written_is ∙
          ap (λ t. Some (s.written ++ t)) steps.text_is;
    }

-- a turn was cut off when its sends or its lines were on their way
pub ends_is : (s : Session) (next : Gateway) (counters : Counters) (r : Recv) (buf : List ℕ) (tick : ℕ) (acts : List Placed)
    (arrivals now_arrivals : Option (List Arrival)) (tried now_tried : Option (List Tried)) (calls now_calls : Option ℕ) (readings : Option (List ℕ)) (last : ℕ)
    (written now : Option (List ℕ)) (on : Bool) (end : ServeEnd) →
    written ≡ Some s.written → Waits s.past.ports s.outside r buf tick arrivals tried calls readings last → Steps s next counters tick acts on → now_arrivals ≡
    arrivals → now_calls ≡ calls →
    FinishesUntil (sends_of acts) (shown_lines on (counters.turns + 1) tick counters.posts acts) tried now_tried written now end →
    EndsTurn s now_arrivals now_tried now_calls readings last now end
ends_is s next counters r buf tick acts arrivals now_arrivals tried now_tried calls now_calls readings last written now on end written_is w steps same counted f
    =
    by_end end (subst (λ t. FinishesUntil (sends_of (acts_in_turn s)) t (Some s.outside.tried) now_tried (Some s.written) now end) steps.text_is
    (subst (λ ps. FinishesUntil (sends_of ps) text (Some s.outside.tried) now_tried (Some s.written) now end) steps.acts_are
    (subst (λ z. FinishesUntil (sends_of acts) text (Some s.outside.tried) now_tried z now end) written_is
    (subst (λ z. FinishesUntil (sends_of acts) text z now_tried written now end) w.tells.tried_are f)))) where
      text : List ℕ
      text = shown_lines on (counters.turns + 1) tick counters.posts acts

      by_end : (e : ServeEnd) → FinishesUntil (sends_of (acts_in_turn s)) (shown_by_turn s) (Some s.outside.tried) now_tried (Some s.written) now e →
          EndsTurn s now_arrivals now_tried now_calls readings last now e
      by_end Done h = h.1
      by_end LinkFault h = absurd h.1
      by_end WriteFault h = (
        record {
          arrivals_are = same ∙ w.tells.arrivals_are;
          tried_are = h.0;
          calls_are = counted ∙ w.tells.calls_are;
          readings_are = w.tells.readings_are;
          last_is = w.tells.last_is;
        },
        h.1,
      )
      by_end OutOfMemory h = elim h [
        | inl some ↦ inr (inl (
          some.0.0,
          some.0.1,
          some.0.2,
          some.0.3,
          record {
            arrivals_are = same ∙ w.tells.arrivals_are;
            tried_are = some.0.4;
            calls_are = counted ∙ w.tells.calls_are;
            readings_are = w.tells.readings_are;
            last_is = w.tells.last_is;
          },
          some.1,
        ))
        | inr all ↦ inr (inr (
          record {
            arrivals_are = same ∙ w.tells.arrivals_are;
            tried_are = all.0;
            calls_are = counted ∙ w.tells.calls_are;
            readings_are = w.tells.readings_are;
            last_is = w.tells.last_is;
          },
          all.1,
        ))
      ]

-- a node that lives through a step lives
pub lives_on : (node next : Gateway) (g : NodeGiven) (tick : ℕ) (acts : List Placed) → Lives node →
    PerformsAll GatewayBegun GatewayStands (answers_all g) tick node next [] acts → Lives next
lives_on node next g tick acts l row = record {
  past = spread tick (turn_begun g tick l.past) (answers_all g tick (turn_begun g tick l.past));
  stands = row.stands (turn_begun g tick l.past) (GatewayBegun_in_step _ tick l.past node l.stands);
}

-- what may go to a stranger where one is answered
known_by : (ports : List PortSetup) (r : Recv) (buf : List ℕ) (arrivals rest : Option (List Arrival)) (stranger now : Bool) (acts : List Placed) →
    ReceivesOne arrivals rest stranger now r buf → AreKnown (is_strange_on (given_by ports r buf)) acts → AreKnown now acts
known_by ports (Datagram Stranger count) buf arrivals rest stranger now acts got k = subst (λ b. AreKnown b acts) (sym got.2) k
known_by ports (Datagram (Peer p) count) buf arrivals rest stranger now acts got k = subst (λ b. AreKnown b acts) (sym got.2) k
known_by ports _ buf arrivals rest stranger now acts got k = known_any now acts k

pub acts_known : (arrivals rest : Option (List Arrival)) (stranger now : Bool) (r : Recv) (buf : List ℕ) (tick : ℕ) (node next : Gateway) (acts : List Placed) →
    ReceivesOne arrivals rest stranger now r buf → Lives node →
    PerformsAll GatewayBegun GatewayStands (answers_all (given_by (setups_in node) r buf)) tick node next [] acts → AreKnown now acts
acts_known arrivals rest stranger now r buf tick node next acts got l row =
    let given = given_by (setups_in node) r buf in
    let past = turn_begun given tick l.past in
    subst (λ ps. AreKnown now ps) (sym (row.acts past (GatewayBegun_in_step _ tick l.past node l.stands)))
    (known_by (setups_in node) r buf arrivals rest stranger now (answers_all given tick past) got (known_steps given tick past))

-- how a turn ends is how the session ends
pub serves_until : (turns i : ℕ) (s : Session) (arrivals : Option (List Arrival)) (tried : Option (List Tried)) (calls : Option ℕ) (readings : Option (List ℕ))
    (last : ℕ) (written : Option (List ℕ)) (end : ServeEnd) → i < turns →
    EndsTurn (after_turns i s) arrivals tried calls readings last written end → ServesUntil turns i s arrivals tried calls readings last written end
serves_until turns i s arrivals tried calls readings last written Done less h = absurd h
serves_until turns i s arrivals tried calls readings last written _ less h = (less, h)

-- one turn more
pub turns_more : (i : ℕ) (s : Session) (node : Gateway) (counters : Counters) (arrivals : Option (List Arrival)) (tried : Option (List Tried))
    (calls : Option ℕ) (readings : Option (List ℕ)) (last : ℕ) (written : Option (List ℕ)) →
    IsAt (turned (after_turns i s)) node counters arrivals tried calls readings last written →
    IsAt (after_turns (i + 1) s) node counters arrivals tried calls readings last written
turns_more i s node counters arrivals tried calls readings last written h = let one : suc i ≡ i + 1 = omega arith in
    subst (λ n. IsAt (after_turns n s) node counters arrivals tried calls readings last written) one h

-- whose tick didn't fall
pub rises_more : (i : ℕ) (s : Session) (node next : Gateway) (counters after : Counters) (arrivals now_arrivals : Option (List Arrival))
    (tried now_tried : Option (List Tried)) (calls now_calls : Option ℕ) (readings now_readings : Option (List ℕ)) (last now_last : ℕ)
    (written now : Option (List ℕ)) →
    Rises i s → IsAt (after_turns i s) node counters arrivals tried calls readings last written →
    IsAt (turned (after_turns i s)) next after now_arrivals now_tried now_calls now_readings now_last now → last ≤ now_last → Rises (i + 1) s
rises_more i s node next counters after arrivals now_arrivals tried now_tried calls now_calls readings now_readings last now_last written now r old new later =
    let one : suc i ≡ i + 1 = omega arith in
    let before = old.tells.last_is in
    let then = new.tells.last_is in
    subst (λ n. Rises n s) one (r, omega (arith, before, then, later))

-- sends and lines don't end by the link's receives
pub finish_unlinked : (sends : List Tried) (text : List ℕ) (tried more : Option (List Tried)) (written now : Option (List ℕ)) (end : ServeEnd) →
    FinishesUntil sends text tried more written now end → end ≡ LinkFault → ⊥
finish_unlinked sends text tried more written now WriteFault f e = cc
finish_unlinked sends text tried more written now OutOfMemory f e = cc
finish_unlinked sends text tried more written now _ f e = f.1

-- a session is where it was, if the counter is what it was
pub at_on : (s : Session) (node : Gateway) (counters : Counters) (arrivals : Option (List Arrival)) (tried : Option (List Tried)) (calls : Option ℕ)
    (readings now_readings : Option (List ℕ)) (last now_last : ℕ) (written : Option (List ℕ)) →
    now_readings ≡ readings → now_last ≡ last → IsAt s node counters arrivals tried calls readings last written →
    IsAt s node counters arrivals tried calls now_readings now_last written
at_on s node counters arrivals tried calls readings now_readings last now_last written same is at = record {
  stands = at.stands;
  turns_is = at.turns_is;
  posts_is = at.posts_is;
  tells = record {
    arrivals_are = at.tells.arrivals_are;
    tried_are = at.tells.tried_are;
    calls_are = at.tells.calls_are;
    readings_are = same ∙ at.tells.readings_are;
    last_is = is ∙ at.tells.last_is;
  };
  written_is = at.written_is;
}
