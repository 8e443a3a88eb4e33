-- What stands after a Close: the own Correct, and the corrections of those who have a sample.
use Rattle.std.proofs.Common.{sym, ap, subst, arith, true≢false, inl, inr, ◌∙◌, ◌≡◌, ◌||◌, ◌&&◌, ℕ, ◌+◌, ◌+ℤ◌, ◌-ℤ◌, ◌==◌, not, nat_lt}
use Rattle.std.proofs.Common.{ℤ, pos, if◌then◌else◌, Bool, true, false, List, [], ◌∷◌, ◌++◌, map, filter, Option, None, Some, is_some, length, refl}
use Rattle.std.proofs.lemmas.{Bool.le-leb, Int.ints}
use Rattle.tsp_rules.specs.Values.{Abandon, Act, AdjTime, Close, CloseAlarm, Correct, Message, Peer, PeerId, Port, Post, Ring, Master, SPAN, REUSE}
use Rattle.tsp_rules.specs.{ClockRows.can_adjust, ClockRows.is_step, GateRows.any_port, GateRows.follows_on, GateRows.leads_clock, GateRows.leads_on}
use Rattle.tsp_rules.specs.{GateRows.ports_from}
use Rattle.tsp_rules.specs.{Guards.is_clock_value, Guards.is_follow, Guards.target_at, NodeRows.NodePast, NodeRows.PortSetup}
use Rattle.tsp_rules.specs.RoundRows.{Standing, close_act, estimates, mean_by, measured_at, round_at, standing}
use Rattle.tsp_group.specs.{Groups.group_of, Groups.mean_of, declared.group.Group.Group}
use Rattle.tsp_base.specs.Words.{Acts, Did, Estimate, HeaderValue, Here, Line, MessageValue, Past, Seen, Step, Within, estimate, first_port, grown, is_among}
use Rattle.tsp_base.specs.Words.{is_measured, is_past, is_shared, joined, last_post, line_of, of, peer_of, placed, plain, role, seen_as}
use Rattle.tsp_base.specs.Words.{base, moved, shown, time_in, timed, view}
use Rattle.tsp_base.proofs.{PlaceLemmas.Within_all, PlaceLemmas.Within_tail, PlaceLemmas.Within_through}
use Rattle.tsp_promises.specs.{Fits.Fits, Fits.node_of, RoundFits.CloseFits, Setting.Setting}
use Rattle.tsp_promises.proofs.{shared.HistoryPlaces.Within_of, shared.HistoryPlaces.line_on, shared.HistoryPlaces.of_own, shared.HistoryPlaces.own_in}
use Rattle.tsp_promises.proofs.{shared.HistoryPlaces.own_same}
use Rattle.tsp_promises.proofs.{shared.Clocks.near}
use Rattle.tsp_promises.proofs.promised.OwnFitsProof.{fits_in, locate, tick_in}
use Rattle.tsp_progress.specs.ByTable.{ByTable, before_line, node_in, port_before}
use Rattle.tsp_progress.specs.Corrects.{ClosesAt, closed_or_not, corrected_each, moved_own}
use Rattle.tsp_progress.specs.{FollowOn.Calm, Heeds.DoesNext, Heeds.moved_by, InTable.SetsNone, LateClose.LateClose, SlewsTable.MovesOwn, SlewsTable.Slews}
use Rattle.tsp_progress.proofs.{CorrectsIn.CorrectedIn, CorrectsIn.Free, CorrectsIn.corrected_in, CorrectsIn.last_post_at, CorrectsProof.all_correct}
use Rattle.tsp_progress.proofs.{CorrectsProof.same_place, LateCloses.older_posts, LateCloses.port, LateCloses.since, PortSetups.PortIs}
use Rattle.tsp_progress.proofs.{PortSetups.differ, PortSetups.member_port, RivalsQuitProof.among_filter, TableRows.within_joined, TableSampled.close_fits}
use Rattle.tsp_progress.proofs.WorldPlaces.{WorldPlace, act_place, in_order, world_place}
use Rattle.tsp_run.specs.Clocked.{Clocks, SetByClocks}

-- the newest line of a node, which its port sees as its own
record HeadOf (q : Port) (lines : List Line) (past : List Seen) (d : Did) : Type 0 where
  pub line : Line
  pub rest : List Line
  pub is : lines ≡ line ∷ rest
  pub did_is : line.did ≡ d
  pub past_is : view q rest ≡ past

head_of : (q : Port) (lines : List Line) (past : List Seen) (d : Did) → view q lines ≡ Here d ∷ past → HeadOf q lines past d
head_of q [] past d e = let bad : ⊥ = cc in absurd bad
head_of q (l ∷ rest) past d e = seen ((l.port.0 == q.0) || is_shared l.did.deed) e where
  seen : (b : Bool) → seen_as b l.did ∷ view q rest ≡ Here d ∷ past → HeadOf q (l ∷ rest) past d
  seen true k = record { line = l; rest = rest; is = refl; did_is = cc; past_is = cc }
  seen false k = let bad : ⊥ = cc in absurd bad

-- a node's only port leads its clock, where it is master
single_leads : (ports : List PortSetup) → length ports ≡ 1 → (x : ℕ) (past : NodePast) → past.ports ≡ ports → role (view first_port past.lines) ≡ Master →
    leads_clock first_port x past ≡ true
single_leads [] e x past is leads = let bad : ⊥ = omega (arith, e) in absurd bad
single_leads (p ∷ q ∷ rest) e x past is leads = let bad : ⊥ = omega (arith, e) in absurd bad
single_leads (p ∷ []) e x past is leads =
    let follows : follows_on past first_port ≡ false = ap is_follow leads in
    ap (λ ps. not (any_port (follows_on past) (ports_from 0 ps)) && not (any_port (leads_on past) (filter (λ (r : Port). nat_lt r.0 0) (ports_from 0 ps)))) is
    ∙ rw follows refl

-- the mean of a round is that of the largest group of its estimates
pub record MeanOf (c : ℕ) (mean : ℤ) (cp : List Line) : Type 0 where
  pub seen : List Seen
  pub peers : List PeerId
  pub is : mean ≡ mean_of (group_of SPAN (estimates (map (standing seen) peers)))
  pub same : (p : PeerId) → estimate p (view first_port (of c cp)) ≡ estimate p seen

module _ {clocks : Clocks} {header : HeaderValue} {setting : Setting} (set : SetByClocks clocks header setting) (world : List Line)
    (table : ByTable header world) (fits : Fits setting world) (long t c : ℕ) (stays : ℕ → Bool) (s : List Line) (s-in : Within s world)
    (calm : Calm long stays s world) (sets : SetsNone c s world) (single : length (node_in header c).ports ≡ 1)
    (first : (l : Line) (older : List Line) → Within (l ∷ older) world → node_of l ≡ c → is_shared l.did.deed ≡ false → l.port ≡ first_port)
    (C : Line) (cp : List Line) (r : LateClose long t c s C cp world) where
  cf : CloseFits C.did (view first_port (of c cp))
  cf = close_fits setting world fits long t c stays s s-in calm first C cp r

  cp-in : Within cp world
  cp-in = Within_tail C cp world r.place

  -- the Ring before it
  head : HeadOf first_port (of c cp) cf.past cf.ring
  head = head_of first_port (of c cp) cf.past cf.ring cf.is

  ring-deed : head.line.did.deed ≡ Acts (Ring CloseAlarm)
  ring-deed = ap (λ (d : Did). d.deed) head.did_is ∙ cf.rings

  ring-place : WorldPlace c head.line head.rest cp
  ring-place = world_place c head.line head.rest cp (subst (λ ls. Within ls (of c cp)) head.is (Within_all (of c cp)))

  ring-in : Within (head.line ∷ ring-place.older) world
  ring-in = Within_through (head.line ∷ ring-place.older) cp world ring-place.place cp-in

  ring-port : head.line.port ≡ first_port
  ring-port = first head.line ring-place.older ring-in ring-place.node (rw ring-deed refl)

  abbrev RL : Line
  RL = line_on first_port head.line.did

  ring-is : RL ≡ head.line
  ring-is = let line : head.line.port ≡ first_port → line_on first_port head.line.did ≡ head.line =
      λ e. ap (λ q. let z : Line = record { port = q; did = head.line.did } in z) (sym e) in line ring-port

  own-is : of c cp ≡ RL ∷ head.rest
  own-is = head.is ∙ ap (λ z. z ∷ head.rest) (sym ring-is)

  ring-own : Within (RL ∷ head.rest) (of c world)
  ring-own = Within_through (RL ∷ head.rest) (of c cp) (of c world) (subst (λ ls. Within ls (of c cp)) own-is (Within_all (of c cp)))
      (Within_of c cp world cp-in)

  close-own : Within (C ∷ (RL ∷ head.rest)) (of c world)
  close-own = subst (λ ls. Within (C ∷ ls) (of c world)) own-is (own_in c C cp world r.node r.place)

  abbrev X : ℕ
  X = head.line.did.tick

  abbrev There : Past
  There = port_before (node_in header c) RL head.rest

  abbrev Rung : Past
  Rung = grown X There (Ring CloseAlarm ∷ [])

  abbrev Round : List Standing
  Round = round_at X There

  abbrev G : Group
  G = group_of SPAN (estimates Round)

  leads-own : leads_clock first_port X (before_line (node_in header c) RL head.rest) ≡ true
  leads-own = single_leads (node_in header c).ports single X (before_line (node_in header c) RL head.rest) refl
      (ap role head.past_is ∙ sym (ap role cf.is ∙ rw cf.rings refl) ∙ cf.leads)

  closes : DoesNext (closed_or_not (can_adjust (mean_by true G) X Rung) true G Round X Rung) RL head.rest (of c world)
  closes =
      let at : ClosesAt (node_in header c) RL head.rest (of c world) = (all_correct header world table c).closes RL head.rest ring-own ring-deed in
      subst (λ b. DoesNext (closed_or_not (can_adjust (mean_by b G) X Rung) b G Round X Rung) RL head.rest (of c world)) leads-own at

  abbrev Mean : ℤ
  Mean = mean_by true G

  abbrev Shut : Past
  Shut = grown X Rung (close_act true G ∷ [])

  abbrev Moved : Past
  Moved = grown X Rung (close_act true G ∷ moved_own true Mean X Shut)

  abbrev Rest : List Act
  Rest = corrected_each Mean Round X Moved

  -- what comes after the Ring
  record Closed : Type 0 where
    pub can : can_adjust Mean X Rung ≡ true
    pub does : DoesNext (close_act true G ∷ (moved_own true Mean X Shut ++ Rest)) RL head.rest (of c world)

  closed : Closed
  closed = by_can (can_adjust Mean X Rung) refl closes where
    by_can : (b : Bool) → can_adjust Mean X Rung ≡ b → DoesNext (closed_or_not b true G Round X Rung) RL head.rest (of c world) → Closed
    by_can true e w = record { can = e; does = w }
    by_can false e w =
        let same : C ≡ line_of RL.did.step X first_port (Acts Abandon) = same_place C (line_of RL.did.step X first_port (Acts Abandon)) (RL ∷ head.rest)
        (of c world) close-own w in
        let deeds : Acts (Close r.count r.lo r.size r.mean) ≡ Acts Abandon = sym r.deed ∙ ap (λ (z : Line). z.did.deed) same in
        let bad : ⊥ = cc in absurd bad

  abbrev CL : Line
  CL = line_of RL.did.step X first_port (Acts (close_act true G))

  close-line : C ≡ CL
  close-line = same_place C CL (RL ∷ head.rest) (of c world) close-own
      (act_place RL.did.step X first_port (close_act true G) (close_act true G ∷ (moved_own true Mean X Shut ++ Rest)) (RL ∷ head.rest) (of c world)
      (record { front = []; back = moved_own true Mean X Shut ++ Rest; is = refl }) closed.does)

  close-tick : C.did.tick ≡ X
  close-tick = ap (λ (z : Line). z.did.tick) close-line

  mean-is : r.mean ≡ Mean
  mean-is = let deeds : Acts (Close r.count r.lo r.size r.mean) ≡ Acts (close_act true G) = sym r.deed ∙ ap (λ (z : Line). z.did.deed) close-line in cc

  -- the own lines up to the Close
  own-close : C ∷ of c cp ≡ CL ∷ RL ∷ head.rest
  own-close = ap (λ z. z ∷ of c cp) close-line ∙ ap (λ ls. CL ∷ ls) own-is

  -- the own Correct is next
  abbrev Moves : Act
  Moves = moved_by Mean X Shut

  abbrev KC : Line
  KC = line_of RL.did.step X first_port (Acts Moves)

  correct-place : WorldPlace c KC (CL ∷ RL ∷ head.rest) world
  correct-place = world_place c KC (CL ∷ RL ∷ head.rest) world
      (act_place RL.did.step X first_port Moves (close_act true G ∷ (moved_own true Mean X Shut ++ Rest)) (RL ∷ head.rest) (of c world)
      (record { front = close_act true G ∷ []; back = Rest; is = refl }) closed.does)

  right-after : (w : List Line) → Within (KC ∷ w) world → of c w ≡ CL ∷ RL ∷ head.rest → node_of KC ≡ c → w ≡ C ∷ cp
  right-after [] v own node = let bad : ⊥ = cc in absurd bad
  right-after (k ∷ w) v own node =
      let step : k.did.step ≡ KC.did.step = (fits_in setting KC (k ∷ w) world fits v).step in
      let k-node : node_of k ≡ c = ap (λ (z : Step). z.node) step ∙ node in
      own_same c k C w cp world k-node r.node (Within_tail KC (k ∷ w) world v) r.place (sym (of_own c k w k-node) ∙ (own ∙ sym own-close))

  pub moves_own : MovesOwn r.mean C cp world
  moves_own = record {
    next = KC;
    place = subst (λ w. Within (KC ∷ w) world) (right-after correct-place.older correct-place.place correct-place.own_is correct-place.node)
        correct-place.place;
    node = correct-place.node ∙ sym r.node;
    stepped = _;
    shown = _;
    deed = ap (λ a. Acts (Correct a (is_step Mean) (if is_step Mean then target_at X Shut +ℤ Mean else shown (plain Shut.seen) X))) (sym mean-is);
  }

  pub mean_of_round : MeanOf c r.mean cp
  mean_of_round = record {
    seen = There.seen;
    peers = measured_at X There;
    is = mean-is;
    same = λ p. ap (estimate p) (ap (view first_port) own-is) ∙ rw ring-deed refl;
  }

  -- the clock can be told after that
  in-range : (b m a : ℤ) (x : ℕ) → is_clock_value (((b +ℤ m) +ℤ pos x) +ℤ a) ≡ true → is_clock_value ((b +ℤ (m +ℤ a)) +ℤ pos x) ≡ true
  in-range b m a x k = subst (λ z. is_clock_value z ≡ true) (let e : ((b +ℤ m) +ℤ pos x) +ℤ a ≡ (b +ℤ (m +ℤ a)) +ℤ pos x = omega (arith, ints) in e) k

  module _ (n : ℕ) (net : setting.net n first_port ≡ setting.net c first_port) (other : (n == c) ≡ false)
      (measured : is_measured (peer_of n) (view first_port (of c cp)) ≡ true) (sampled : is_some (estimate (peer_of n) (view first_port (of c cp))) ≡
      true) where
    abbrev P : PeerId
    P = peer_of n

    member : is_among P (setting.members (setting.net c first_port)) ≡ true
    member = ap (λ k. is_among P (setting.members k)) (sym net) ∙ setting.own n first_port

    port_is : PortIs header setting c first_port
    port_is = member_port set c first_port P member (differ n c other)

    seen-is : view first_port (of c cp) ≡ Here head.line.did ∷ There.seen
    seen-is = ap (view first_port) own-is

    listed : is_among P (measured_at X There) ≡ true
    listed = among_filter (λ z. is_measured z There.seen) P There.peers (ap (is_among P) port_is.peers ∙ member)
        (rw ring-deed at (subst (λ z. is_measured P z ≡ true) seen-is measured))

    abbrev best-of : Option Estimate
    best-of = estimate P There.seen

    same-best : estimate P (view first_port (of c cp)) ≡ estimate P There.seen
    same-best = ap (estimate P) seen-is ∙ rw ring-deed refl

    rests : (o : Option ℕ) → last_post P There.seen ≡ o → is_past o REUSE X ≡ true
    rests None e = refl
    rests (Some y) e =
        let p = last_post_at P There.seen y e in
        let l = locate c first_port ring-place.older p.post p.before (rw p.deed refl)
        (subst (λ ls. Within (Here p.post ∷ p.before) (view first_port ls)) (sym ring-place.own_is) p.place) in
        let at : Within (line_on first_port p.post ∷ l.older) cp = Within_through (line_on first_port p.post ∷ l.older) ring-place.older cp l.place
        (Within_tail head.line ring-place.older cp ring-place.place) in
        let at-world = Within_through (line_on first_port p.post ∷ l.older) cp world at cp-in in
        let old = older_posts setting world fits long t c stays s s-in calm first C cp r sets (line_on first_port p.post) l.older n p.message at l.node p.deed
        p.kind in
        let p-tick = tick_in setting c (line_on first_port p.post) l.older world fits l.node at-world in
        let c-tick = tick_in setting c C cp world fits r.node r.place in
        let least = (near setting c p.post.step.at C.did.step.at (omega (arith, old))).least in
        let tick = p.tick in
        let now = close-tick in
        le-leb (y + REUSE) X (omega (arith, old, p-tick, c-tick, least, tick, now))

    free : Free P X Moved
    free = record {
      rests = rests (last_post P There.seen) refl;
      range = in-range (base (plain Rung.seen)) (moved (plain Rung.seen)) Mean X closed.can;
    }

    by_best : (o : Option Estimate) → estimate P There.seen ≡ o → is_some o ≡ true → Slews c n r.mean C cp world
    by_best None e some = absurd (true≢false (sym some))
    by_best (Some b) e some =
        let k : CorrectedIn P b Mean Moved.name Rest = corrected_in P b Mean There.seen (measured_at X There) X Moved listed e free in
        let post = Post (Peer P) (Message k.message) in
        let l = line_of RL.did.step X first_port (Acts post) in
        let front = close_act true G ∷ (Moves ∷ k.front) in
        let own = joined RL.did.step X (placed first_port front) (RL ∷ head.rest) in
        let w : WorldPlace c l own world = world_place c l own world
        (act_place RL.did.step X first_port post (close_act true G ∷ (moved_own true Mean X Shut ++ Rest)) (RL ∷ head.rest) (of c world)
        (record { front = front; back = k.back; is = ap (λ acts. close_act true G ∷ (Moves ∷ acts)) k.is }) closed.does) in
        let after : Within (C ∷ cp) w.older = in_order c C cp l w.older world r.place w.place (subst (λ ls. Within ls (of c w.older)) (sym own-close)
        (subst (λ ls. Within (CL ∷ RL ∷ head.rest) ls) (sym w.own_is)
        (within_joined RL.did.step X (placed first_port (Moves ∷ k.front)) (CL ∷ RL ∷ head.rest) (CL ∷ RL ∷ head.rest)
        (Within_all (CL ∷ RL ∷ head.rest))))) in
        let adjusts : k.message ≡ timed AdjTime b.ticket (Mean -ℤ b.diff) Moved.name = elim k.kind [
          | inl m ↦ m
          | inr m ↦ absurd (sets l w.older w.place (Within_through s cp w.older (since setting world fits long t c stays s s-in calm first C cp r)
              (Within_tail C cp w.older after)) w.node P k.message refl m)
        ] in
        record {
          post = l;
          older = w.older;
          place = w.place;
          after = after;
          node = w.node;
          port = refl;
          same = ap (λ (z : Line). z.did.step) (sym close-line);
          best = b;
          best_is = subst (λ q. estimate P (view q (of c cp)) ≡ Some b) (sym (port setting world fits long t c stays s s-in calm first C cp r))
              (same-best ∙ e);
          message = k.message;
          deed = refl;
          kind = ap (λ (z : MessageValue). z.kind) adjusts;
          number = ap (λ (z : MessageValue). z.number) adjusts;
          amount = ap (λ (z : MessageValue). time_in z.body) adjusts ∙ ap (λ a. a -ℤ b.diff) (sym mean-is);
        }

    pub slews : Slews c n r.mean C cp world
    slews = by_best (estimate P There.seen) refl (subst (λ o. is_some o ≡ true) same-best sampled)
