-- What is asked of a node is answered, and the answer is taken, in time.
use Rattle.std.proofs.Common.{sym, ap, subst, arith, true≢false, inr, ◌∙◌, ◌≡◌, ℕ, ◌==◌, Bool, true, false, List, [], ◌∷◌}
use Rattle.std.proofs.Common.{refl}
use Rattle.tsp_rules.specs.Values.{Act, Took, Post, Good, Datagram, Message, Stamp, Request, Reply, PeerId, Peer, Role, Starting, Master, Candidate, Loose}
use Rattle.tsp_rules.specs.Values.{Follow, Ack, Election, MasterAck, MasterReq, QuitKind, Refuse, ResolveKind, Quit}
use Rattle.tsp_rules.specs.{Guards.is_heard, Guards.is_in_range, Guards.is_own, Guards.is_starting_role, Guards.target_at, Guards.ticket_at, Guards.is_follow}
use Rattle.tsp_rules.specs.NodeRows.{port_setup}
use Rattle.tsp_base.specs.Words.{Acts, HeaderValue, Line, MessageValue, Past, ReplyValue, Within, bare, is_among, joined, line_of, of, peer_of, placed, role}
use Rattle.tsp_base.proofs.PlaceLemmas.{Within_all, Within_through}
use Rattle.tsp_promises.specs.{Fits.node_of, Setting.Setting}
use Rattle.tsp_run.specs.{Clocked.Clocks, Clocked.SetByClocks, Clocked.clocks_of, Clocked.run_by}
use Rattle.tsp_run.proofs.OwnClocks.{runs_by_own_clocks, set_own}
use Rattle.tsp_progress.specs.{ByTable.ByTable, ByTable.node_in, ByTable.port_before, Delivered.Arrives, Delivered.Delivered, Delivered.PostsTo}
use Rattle.tsp_progress.specs.AnswersInTime.{AnswerTaken, Answered, AnswersInTime, Asks, ClockedRunsAnswer, Meanwhile, RunsAnswer}
use Rattle.tsp_progress.specs.Heeds.{DoesNext, Hears, follow_acts, has_no_master, is_candidate_role, is_master_role, is_up_role, posts_bare, role_before}
use Rattle.tsp_progress.specs.Measures.{stamp_reply}
use Rattle.tsp_progress.proofs.{HeedsProof.all_heed, MeasuresProof.all_measure, PortSetups.PortIs, PortSetups.differ, PortSetups.shared_port}
use Rattle.tsp_progress.proofs.{TableProof.clocked_runs_by_table, TableRows.within_joined}
use Rattle.tsp_progress.proofs.WorldPlaces.{Among, act_place, in_order, own_place, world_place}

module _ {clocks : Clocks} {header : HeaderValue} {setting : Setting} (set : SetByClocks clocks header setting) (world : List Line)
    (table : ByTable header world) (long t : ℕ) (stays : ℕ → Bool) (s : List Line) (delivered : Delivered setting long t stays s world) where
  -- what is posted, and its taking
  module _ (l : Line) (older : List Line) (p : PeerId) (d : Datagram) (posts : PostsTo setting l older world p d) (a : Arrives setting long l older world p d)
    where
      apart-there : (node_of l == p.0) ≡ false
      apart-there = differ p.0 (node_of l) posts.other

      -- the port that takes it is one of its node's, and its peers are the members of the network
      port_there : PortIs header setting p.0 a.line.port
      port_there = shared_port set p.0 a.line.port (node_of l) l.port (subst (λ n. setting.net n a.line.port ≡ setting.net (node_of l) l.port) a.node a.net)
          posts.other

      heard-there : is_starting_role (role_before (node_in header p.0) a.line (of p.0 a.before)) ≡ false →
          is_heard (peer_of (node_of l)) a.line.did.tick (port_before (node_in header p.0) a.line (of p.0 a.before)) ≡ true
      heard-there awake =
          let same : setting.net p.0 a.line.port ≡ setting.net (node_of l) l.port =
          subst (λ n. setting.net n a.line.port ≡ setting.net (node_of l) l.port) a.node a.net in
          let member : is_among (peer_of (node_of l)) (port_setup a.line.port (node_in header p.0)).peers ≡ true =
          ap (is_among (peer_of (node_of l))) (port_there.peers ∙ ap setting.members same) ∙ setting.own (node_of l) l.port in
          rw (member, awake) refl

      foreign-there : is_own (Peer (peer_of (node_of l))) a.line.did.tick (port_before (node_in header p.0) a.line (of p.0 a.before)) ≡ false
      foreign-there = ap (λ n. node_of l == n) port_there.own ∙ apart-there

      place-there : Within (a.line ∷ of p.0 a.before) (of p.0 world)
      place-there = own_place p.0 a.line a.before world a.node a.place

  -- a message that is taken is heard, if its addressee isn't Starting
  pub hears_there : (l : Line) (older : List Line) (p : PeerId) (m : MessageValue) (posts : PostsTo setting l older world p (Message m))
      (a : Arrives setting long l older world p (Message m)) → is_starting_role (role_before (node_in header p.0) a.line (of p.0 a.before)) ≡ false →
      Hears (node_in header p.0) (of p.0 world) a.line (of p.0 a.before) (peer_of (node_of l)) m
  hears_there l older p m posts a awake = record {
    place = place-there l older p (Message m) posts a;
    took = a.took;
    peer = heard-there l older p (Message m) posts a awake;
    other = foreign-there l older p (Message m) posts a;
  }

  -- a question that is asked, and its taking
  module _ (l : Line) (older : List Line) (p : PeerId) (d : Datagram) (asks : Asks setting long t stays s l older world p d) where
    abbrev pub Taking : Type 0
    Taking = Arrives setting long l older world p d

    pub arrival : Taking
    arrival = delivered l older p d asks.posts asks.since asks.there (let early = asks.early in omega (arith, early))

    apart : (node_of l == p.0) ≡ false
    apart = differ p.0 (node_of l) asks.posts.other

    -- an answer among the acts that come next is taken in time
    pub answered : (a : Taking) (acts : List Act) (answer : Datagram) → Among (Post (Peer (peer_of (node_of l))) answer) acts →
        DoesNext acts a.line (of p.0 a.before) (of p.0 world) → AnswerTaken long l older world p answer
    answered a acts answer among next =
        let step = a.line.did.step in
        let x = a.line.did.tick in
        let q = a.line.port in
        let act = Post (Peer (peer_of (node_of l))) answer in
        let post = line_of step x q (Acts act) in
        let own = joined step x (placed q among.front) (a.line ∷ of p.0 a.before) in
        let w = world_place p.0 post own world (act_place step x q act acts (a.line ∷ of p.0 a.before) (of p.0 world) among next) in
        let after_own : Within (a.line ∷ of p.0 a.before) (of p.0 w.older) = subst (λ ls. Within (a.line ∷ of p.0 a.before) ls) (sym w.own_is)
        (within_joined step x (placed q among.front) (a.line ∷ of p.0 a.before) (a.line ∷ of p.0 a.before) (Within_all (a.line ∷ of p.0 a.before))) in
        let after : Within (a.line ∷ a.before) w.older = in_order p.0 a.line a.before post w.older world a.place w.place after_own in
        let since : Within (l ∷ older) w.older = Within_through (l ∷ older) (a.line ∷ a.before) w.older (inr a.later) after in
        let posts : PostsTo setting post w.older world (peer_of (node_of l)) answer = record {
          place = w.place;
          deed = refl;
          member = ap (λ k. is_among (peer_of (node_of l)) (setting.members k)) a.net ∙ setting.own (node_of l) l.port;
          other = ap (λ n. node_of l == n) a.node ∙ apart;
        } in
        let soon = a.soon in
        let early = asks.early in
        let back : Arrives setting long post w.older world (peer_of (node_of l)) answer = delivered post w.older (peer_of (node_of l)) answer posts
        (Within_through s (l ∷ older) w.older (inr asks.since) since) asks.here (omega (arith, soon, early)) in
        let late = back.soon in
        let net : setting.net (node_of l) back.line.port ≡ setting.net (node_of l) l.port =
        subst (λ n. setting.net n back.line.port ≡ setting.net (node_of l) l.port) back.node (back.net ∙ a.net) in
        let name : peer_of (node_of a.line) ≡ p = ap peer_of a.node in
        record {
          line = back.line;
          before = back.before;
          place = back.place;
          later = Within_through (l ∷ older) (post ∷ w.older) back.before (inr since) back.later;
          node = back.node;
          port = setting.apart (node_of l) back.line.port l.port net;
          took = back.took ∙ ap (λ k. Acts (Took (Peer k) (Good answer))) name;
          soon = omega (arith, soon, late);
        }

    -- the asker hears who answers, another peer, if it isn't Starting then
    pub answer_peer : (e : Datagram) (back : AnswerTaken long l older world p e) →
        is_starting_role (role_before (node_in header (node_of l)) back.line (of (node_of l) back.before)) ≡ false →
        (is_heard p back.line.did.tick (port_before (node_in header (node_of l)) back.line (of (node_of l) back.before)) ≡ true)
        × (is_own (Peer p) back.line.did.tick (port_before (node_in header (node_of l)) back.line (of (node_of l) back.before)) ≡ false)
    answer_peer e back awake =
        let a = arrival in
        let is : PortIs header setting (node_of l) l.port = shared_port set (node_of l) l.port p.0 a.line.port
        (sym (subst (λ n. setting.net n a.line.port ≡ setting.net (node_of l) l.port) a.node a.net)) apart in
        let member : is_among p (port_setup back.line.port (node_in header (node_of l))).peers ≡ true =
        ap (λ q. is_among p (port_setup q (node_in header (node_of l))).peers) back.port ∙ ap (is_among p) is.peers ∙ asks.posts.member in
        let own : (port_setup back.line.port (node_in header (node_of l))).own.0 ≡ node_of l =
        ap (λ q. (port_setup q (node_in header (node_of l))).own.0) back.port ∙ is.own in
        (rw (member, awake) refl, ap (λ n. p.0 == n) own ∙ asks.posts.other)

    -- what it takes then is heard
    pub answer_heard : (m : MessageValue) (back : AnswerTaken long l older world p (Message m)) →
        is_starting_role (role_before (node_in header (node_of l)) back.line (of (node_of l) back.before)) ≡ false →
        Hears (node_in header (node_of l)) (of (node_of l) world) back.line (of (node_of l) back.before) p m
    answer_heard m back awake = let h = answer_peer (Message m) back awake in record {
      place = own_place (node_of l) back.line back.before world back.node back.place;
      took = back.took;
      peer = h.0;
      other = h.1;
    }

  pub first_of : (a : Act) (rest : List Act) → Among a (a ∷ rest)
  first_of a rest = record { front = []; back = rest; is = refl }

  second_of : (b a : Act) (rest : List Act) → Among a (b ∷ a ∷ rest)
  second_of b a rest = record { front = b ∷ []; back = rest; is = refl }

  module _ (l : Line) (older : List Line) (p : PeerId) (m : MessageValue) (asks : Asks setting long t stays s l older world p (Message m)) where
    abbrev There : Arrives setting long l older world p (Message m) → Past
    There a = port_before (node_in header p.0) a.line (of p.0 a.before)

    pub hears : (a : Arrives setting long l older world p (Message m)) → is_starting_role (role_before (node_in header p.0) a.line (of p.0 a.before)) ≡ false →
        Hears (node_in header p.0) (of p.0 world) a.line (of p.0 a.before) (peer_of (node_of l)) m
    hears a awake = hears_there l older p m asks.posts a awake

  pub master_awake : (r : Role) → is_master_role r ≡ true → is_starting_role r ≡ false
  master_awake Master e = refl
  master_awake Starting e = absurd (true≢false (sym e))
  master_awake _ e = refl

  pub candidate_awake : (r : Role) → is_candidate_role r ≡ true → is_starting_role r ≡ false
  candidate_awake Starting e = absurd (true≢false (sym e))
  candidate_awake _ e = refl

  pub up_awake : (r : Role) → is_up_role r ≡ true → is_starting_role r ≡ false
  up_awake Starting e = absurd (true≢false (sym e))
  up_awake _ e = refl

  masterreq : Answered MasterReq (λ x past. is_master_role (role past.seen)) MasterAck header setting long t stays s world
  masterreq l older p m asks kind meanwhile =
      let a = arrival l older p (Message m) asks in
      let leads = meanwhile a.line a.before a.place a.later a.node a.net a.soon in
      let acts = posts_bare MasterAck m.number (There l older p m asks a) (peer_of (node_of l)) ∷ [] in
      answered l older p (Message m) asks a acts (Message (bare MasterAck m.number (node_in header p.0).name)) (first_of _ [])
      ((all_heed header world table p.0).serves.masterreq a.line (of p.0 a.before) (peer_of (node_of l)) m
      (hears l older p m asks a (master_awake (role_before (node_in header p.0) a.line (of p.0 a.before)) leads)) kind leads refl)

  resolve : Answered ResolveKind (λ x past. is_master_role (role past.seen)) MasterAck header setting long t stays s world
  resolve l older p m asks kind meanwhile =
      let a = arrival l older p (Message m) asks in
      let leads = meanwhile a.line a.before a.place a.later a.node a.net a.soon in
      let acts = posts_bare MasterAck m.number (There l older p m asks a) (peer_of (node_of l)) ∷ [] in
      answered l older p (Message m) asks a acts (Message (bare MasterAck m.number (node_in header p.0).name)) (first_of _ [])
      ((all_heed header world table p.0).serves.resolve a.line (of p.0 a.before) (peer_of (node_of l)) m
      (hears l older p m asks a (master_awake (role_before (node_in header p.0) a.line (of p.0 a.before)) leads)) kind leads refl)

  election : Answered Election (λ x past. is_candidate_role (role past.seen)) Refuse header setting long t stays s world
  election l older p m asks kind meanwhile =
      let a = arrival l older p (Message m) asks in
      let stands = meanwhile a.line a.before a.place a.later a.node a.net a.soon in
      let acts = posts_bare Refuse m.number (There l older p m asks a) (peer_of (node_of l)) ∷ [] in
      answered l older p (Message m) asks a acts (Message (bare Refuse m.number (node_in header p.0).name)) (first_of _ [])
      ((all_heed header world table p.0).votes.refuses a.line (of p.0 a.before) (peer_of (node_of l)) m
      (hears l older p m asks a (candidate_awake (role_before (node_in header p.0) a.line (of p.0 a.before)) stands)) kind stands refl)

  -- a QUIT, by the role of its addressee
  quit : Answered QuitKind (λ x past. is_up_role (role past.seen)) Ack header setting long t stays s world
  quit l older p m asks kind meanwhile = by_role (role_before (node_in header p.0) a.line (of p.0 a.before)) refl up where
    a : Arrives setting long l older world p (Message m)
    a = arrival l older p (Message m) asks

    up : is_up_role (role_before (node_in header p.0) a.line (of p.0 a.before)) ≡ true
    up = meanwhile a.line a.before a.place a.later a.node a.net a.soon

    hear : Hears (node_in header p.0) (of p.0 world) a.line (of p.0 a.before) (peer_of (node_of l)) m
    hear = hears l older p m asks a (up_awake (role_before (node_in header p.0) a.line (of p.0 a.before)) up)

    ack : Act
    ack = posts_bare Ack m.number (There l older p m asks a) (peer_of (node_of l))

    quits : Act
    quits = Quit (peer_of (node_of l))

    follow : List Act
    follow = follow_acts (peer_of (node_of l)) a.line.did.tick (There l older p m asks a)

    by_acts : (rest : List Act) → DoesNext (quits ∷ ack ∷ rest) a.line (of p.0 a.before) (of p.0 world) →
        AnswerTaken long l older world p (Message (bare Ack m.number (node_in header p.0).name))
    by_acts rest next = answered l older p (Message m) asks a (quits ∷ ack ∷ rest) (Message (bare Ack m.number (node_in header p.0).name))
        (second_of quits ack rest) next

    by_role : (r : Role) → role_before (node_in header p.0) a.line (of p.0 a.before) ≡ r → is_up_role r ≡ true →
        AnswerTaken long l older world p (Message (bare Ack m.number (node_in header p.0).name))
    by_role Loose is e = by_acts follow ((all_heed header world table p.0).follows.quit a.line (of p.0 a.before) (peer_of (node_of l)) m hear kind
        (ap has_no_master is) refl)
    by_role Candidate is e = by_acts follow ((all_heed header world table p.0).follows.quit a.line (of p.0 a.before) (peer_of (node_of l)) m hear kind
        (ap has_no_master is) refl)
    by_role Master is e = by_acts follow ((all_heed header world table p.0).follows.quits a.line (of p.0 a.before) (peer_of (node_of l)) m hear kind
        (ap is_master_role is) refl)
    by_role (Follow q) is e = by_acts [] ((all_heed header world table p.0).follows.stays a.line (of p.0 a.before) (peer_of (node_of l)) m hear kind
        (ap is_follow is) refl)
    by_role Starting is e = absurd (true≢false (sym e))

  stamps : (l : Line) (older : List Line) (p : PeerId) (word counter : ℕ) → Asks setting long t stays s l older world p (Stamp (Request word counter)) →
      Meanwhile header setting long l older world p is_in_range →
      (r : ReplyValue) × ((r.word ≡ word) × ((r.counter ≡ counter) × AnswerTaken long l older world p (Stamp (Reply r))))
  stamps l older p word counter asks meanwhile =
      let d : Datagram = Stamp (Request word counter) in
      let a = arrival l older p d asks in
      let past = port_before (node_in header p.0) a.line (of p.0 a.before) in
      let x = a.line.did.tick in
      let r : ReplyValue = record { ticket = ticket_at x past; word = word; counter = counter; reading = target_at x past } in
      let there = place-there l older p d asks.posts a in
      let foreign = foreign-there l older p d asks.posts a in
      let in_range = meanwhile a.line a.before a.place a.later a.node a.net a.soon in
      let next = (all_measure header world table p.0).replies a.line (of p.0 a.before) (Peer (peer_of (node_of l))) word counter there a.took foreign in_range
      in (
        r,
        (
          refl,
          (
            refl,
            answered l older p d asks a (stamp_reply (Peer (peer_of (node_of l))) word counter x past ∷ []) (Stamp (Reply r)) (first_of _ [])
                next,
          ),
        ),
      )

  pub answers_in_time : AnswersInTime header setting long t stays s world
  answers_in_time = record { stamps = stamps; masterreq = masterreq; resolve = resolve; quit = quit; election = election }

pub clocked_runs_answer : ClockedRunsAnswer
clocked_runs_answer clocks header setting events long t stays s set delivered =
    answers_in_time set (run_by clocks header events) (clocked_runs_by_table clocks header events) long t stays s delivered

pub runs_answer : RunsAnswer
runs_answer header setting events long t stays s set = subst (λ h. Delivered setting long t stays s h → AnswersInTime header setting long t stays s h)
    (runs_by_own_clocks header events) (clocked_runs_answer (clocks_of header) header setting events long t stays s (set_own header setting set))
