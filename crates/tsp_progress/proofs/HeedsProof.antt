-- What a port does at once with a message of a peer, by the table.
use Rattle.std.proofs.Common.{sym, ap, subst, true≢false, ◌∙◌, ◌≡◌, ℕ, ◌==◌, ◌&&◌, Bool, true, false, if◌then◌else◌, List, [], ◌∷◌, eq-eqb, not, refl}
use Rattle.std.proofs.lemmas.Bool.{and_parts, not-true}
use Rattle.tsp_rules.specs.Values.{Act, Took, Post, Become, Back, Backer, Quit, Acked, Join, Search, Good, Message, PeerId, Peer, Role}
use Rattle.tsp_rules.specs.Values.{Starting, Loose, Follow, Candidate, Master, Kind, Accept, Ack, AdjTime, Date, DateAck, DateReq, Election, LoopKind}
use Rattle.tsp_rules.specs.Values.{MasterAck, MasterReq, MasterUp, Msite, MsiteReq, QuitKind, Refuse, ResolveKind, SetDate, SetDateReq, SetTime, SlaveUp, Test}
use Rattle.tsp_rules.specs.Values.{TraceOff, TraceOn}
use Rattle.tsp_base.specs.Words.{HeaderValue, Line, MessageValue, Past, Row, Within, arms, either_by, grown, is_correction, joined, line_of, nothing, of}
use Rattle.tsp_base.specs.Words.{placed, posts, posts_time, puts, reading, role, time_in, ◌followed_by◌}
use Rattle.tsp_rules.specs.Answers.{from_peer, handles, handles_kind, is_left, peer_says, says_in, takes}
use Rattle.tsp_rules.specs.CandidateRows.{accepted_by, candidate_takes, candidate_takes_kind, refused_by, yields}
use Rattle.tsp_rules.specs.ClockRows.{adjusts, sets}
use Rattle.tsp_rules.specs.CommonRows.{arms_elect, follow_row, follows_unless, is_idle, quits, tells_ticket}
use Rattle.tsp_rules.specs.GateRows.{in_charge, steers}
use Rattle.tsp_rules.specs.Guards.{is_armed, is_follow, may_back_at}
use Rattle.tsp_rules.specs.{MasterRows.joins, MasterRows.master_takes, MasterRows.master_takes_kind, MasterRows.may_join, MasterRows.sends_away}
use Rattle.tsp_rules.specs.{NodeRows.NodePast}
use Rattle.tsp_rules.specs.SendRows.{acknowledges, begins, begins_settime, has_election, has_other, has_quit, may_set}
use Rattle.tsp_rules.specs.SlaveRows.{adjtime_of, confirms, election_of, from_master, masterack_in, masterup_in, settime_of, slave_takes}
use Rattle.tsp_rules.specs.SlaveRows.{acks_repeat, is_repeated, slave_takes_kind, takes_amount, takes_value}
use Rattle.tsp_progress.specs.ByTable.{ByTable, KeepsTable, RowStands, TableAt, before_line, is_loop_kind, node_in, port_before, taking_row}
use Rattle.tsp_progress.specs.Heeds.{AllHeed, DoesNext, Ends, Follows, Hears, Heeds, HeedsMaster, HeedsPeers, Obeys, Serves, Votes, always, arms_for_delay}
use Rattle.tsp_base.specs.Words.{timed}
use Rattle.tsp_rules.specs.{Guards.target_at, Guards.ticket_at, SendRows.next_number}
use Rattle.tsp_progress.specs.Heeds.{follow_acts, has_no_master, moved_by, posts_bare, set_to, is_candidate_role, is_loose, is_master_role, is_up_role}
use Rattle.tsp_progress.specs.Heeds.{role_before}
use Rattle.tsp_rules.specs.{ResolveRows.resolves, Values.Conflict}
use Rattle.tsp_progress.proofs.WorldPlaces.{act_place}

-- kinds of messages whose rows are those of the port's role
abbrev pub is_said : Kind → Bool
is_said Msite = false
is_said MsiteReq = false
is_said TraceOn = false
is_said TraceOff = false
is_said Test = false
is_said Date = false
is_said SetDate = false
is_said DateReq = false
is_said SetDateReq = false
is_said DateAck = false
is_said LoopKind = false
is_said _ = true

-- the row of a role for a message of this kind
unfoldable pub says_kind : PeerId → MessageValue → Kind → Role → Row
says_kind p m k Starting = nothing
says_kind p m k Loose = slave_takes_kind p m k
says_kind p m k (Follow q) = slave_takes_kind p m k
says_kind p m k Candidate = candidate_takes_kind p m k
says_kind p m k Master = master_takes_kind p m k

says_in_holds : (p : PeerId) (m : MessageValue) (r : Role) → says_in p m r ≡ says_kind p m m.kind r
unfolding says_in says_kind slave_takes candidate_takes master_takes
says_in_holds p m Starting = refl
says_in_holds p m Loose = refl
says_in_holds p m (Follow q) = refl
says_in_holds p m Candidate = refl
says_in_holds p m Master = refl

said_row : (charge : Bool) (p : PeerId) (m : MessageValue) (k : Kind) → is_said k ≡ true → handles_kind charge (Peer p) m k ≡ from_peer (Peer p) (peer_says m)
unfolding handles_kind
said_row charge p m Msite e = absurd (true≢false (sym e))
said_row charge p m MsiteReq e = absurd (true≢false (sym e))
said_row charge p m TraceOn e = absurd (true≢false (sym e))
said_row charge p m TraceOff e = absurd (true≢false (sym e))
said_row charge p m Test e = absurd (true≢false (sym e))
said_row charge p m Date e = absurd (true≢false (sym e))
said_row charge p m SetDate e = absurd (true≢false (sym e))
said_row charge p m DateReq e = absurd (true≢false (sym e))
said_row charge p m SetDateReq e = absurd (true≢false (sym e))
said_row charge p m DateAck e = absurd (true≢false (sym e))
said_row charge p m LoopKind e = absurd (true≢false (sym e))
said_row charge p m _ e = refl

said_loop : (k : Kind) → is_said k ≡ true → is_loop_kind k ≡ false
said_loop LoopKind e = absurd (true≢false (sym e))
said_loop _ e = refl

-- a correction at a follower that doesn't steer the clock is left alone; nothing else is
abbrev pub Heard : Bool → Kind → Type 0
Heard steer k = (is_correction k ≡ true) → steer ≡ true

unleft : (steer : Bool) (k : Kind) (x : ℕ) (past : Past) → Heard steer k → is_left steer k x past ≡ false
unleft true k x past h = refl
unleft false k x past h = by_case (is_correction k) refl where
  by_case : (b : Bool) → is_correction k ≡ b → (b && is_follow (role past.seen)) ≡ false
  by_case true e = absurd (true≢false (sym (h e)))
  by_case false e = refl

module _ (node : NodePast) (lines : List Line) (table : KeepsTable node lines) (l : Line) (older : List Line) (p : PeerId) (m : MessageValue)
    (hears : Hears node lines l older p m) where
  abbrev pub Before : Past
  Before = port_before node l older

  -- the past after the taking
  abbrev pub After : Past
  After = grown l.did.tick Before (Took (Peer p) (Good (Message m)) ∷ [])

  said_acts : (k : Kind) (r : Role) → m.kind ≡ k → role_before node l older ≡ r → is_said k ≡ true → (steer charge : Bool) → Heard steer k →
      takes steer charge (Peer p) (Good (Message m)) l.did.tick Before ≡ Took (Peer p) (Good (Message m)) ∷ says_kind p m k r l.did.tick After
  unfolding takes ◌followed_by◌ puts either_by handles from_peer peer_says reading
  said_acts k r kind_is role_is said steer charge heard =
      let x = l.did.tick in
      let left : is_left steer m.kind x After ≡ false = unleft steer m.kind x After (λ e. heard (sym (ap is_correction kind_is) ∙ e)) in
      let row : handles_kind charge (Peer p) m m.kind ≡ from_peer (Peer p) (peer_says m) = said_row charge p m m.kind (ap is_said kind_is ∙ said) in
      let says : says_in p m (role Before.seen) ≡ says_kind p m k r = says_in_holds p m (role Before.seen) ∙
      ap (λ j. says_kind p m j (role Before.seen)) kind_is ∙
      ap (says_kind p m k) role_is in
      rw (hears.other, left, row, hears.peer, says) refl

  -- what the port's role has for this kind comes next
  pub next : (k : Kind) (r : Role) → m.kind ≡ k → role_before node l older ≡ r → is_said k ≡ true →
      Heard (steers l.port l.did.tick (before_line node l older)) k →
      (acts : List Act) → says_kind p m k r l.did.tick After ≡ acts → DoesNext acts l older lines
  next k r kind_is role_is said heard acts same =
      let took = Took (Peer p) (Good (Message m)) in
      let row = taking_row node l older (Peer p) (Good (Message m)) in
      let stands : RowStands row node l older lines = subst (λ d. TableAt d node l older lines) hears.took (table l older hears.place)
      (ap is_loop_kind kind_is ∙ said_loop k said) in
      let acts_are : row l.did.tick Before ≡ took ∷ acts = said_acts k r kind_is role_is said (steers l.port l.did.tick (before_line node l older))
      (in_charge l.port l.did.tick (before_line node l older)) heard ∙ ap (λ acts. took ∷ acts) same in
      let whole : Within (joined l.did.step l.did.tick (placed l.port (took ∷ acts)) older) lines =
      subst (λ acts. Within (joined l.did.step l.did.tick (placed l.port acts) older) lines) acts_are stands in
      subst (λ d. Within (joined l.did.step l.did.tick (placed l.port acts) (line_of l.did.step l.did.tick l.port d ∷ older)) lines) (sym hears.took) whole

pub unsteered : (steer : Bool) (k : Kind) → is_correction k ≡ false → Heard steer k
unsteered steer k e c = absurd (true≢false (sym c ∙ e))

-- a role that is Loose, and so on
loose_is : (r : Role) → is_loose r ≡ true → r ≡ Loose
loose_is Loose e = refl
loose_is _ e = absurd (true≢false (sym e))

candidate_is : (r : Role) → is_candidate_role r ≡ true → r ≡ Candidate
candidate_is Candidate e = refl
candidate_is _ e = absurd (true≢false (sym e))

pub master_is : (r : Role) → is_master_role r ≡ true → r ≡ Master
master_is Master e = refl
master_is _ e = absurd (true≢false (sym e))

module _ (node : NodePast) (lines : List Line) (table : KeepsTable node lines) where
  -- by the role
  masterup : Heeds MasterUp has_no_master always (λ p m x past. follow_acts p x past) node lines
  unfolding says_kind slave_takes_kind candidate_takes_kind reading masterup_in follow_row puts ◌followed_by◌ arms_elect arms tells_ticket posts
  masterup l older p m h kind in_role so = by_role (role_before node l older) refl in_role where
    by_role : (r : Role) → role_before node l older ≡ r → has_no_master r ≡ true → DoesNext (follow_acts p l.did.tick (port_before node l older)) l older lines
    by_role Loose is e = next node lines table l older p m h MasterUp Loose kind is refl (unsteered _ MasterUp refl)
        (follow_acts p l.did.tick (port_before node l older)) (rw is refl)
    by_role Candidate is e = next node lines table l older p m h MasterUp Candidate kind is refl (unsteered _ MasterUp refl)
        (follow_acts p l.did.tick (port_before node l older)) refl
    by_role Starting is e = absurd (true≢false (sym e))
    by_role (Follow q) is e = absurd (true≢false (sym e))
    by_role Master is e = absurd (true≢false (sym e))

  masterack : Heeds MasterAck is_candidate_role always (λ p m x past. follow_acts p x past) node lines
  unfolding says_kind candidate_takes_kind follow_row puts ◌followed_by◌ arms_elect reading arms tells_ticket posts
  masterack l older p m h kind in_role so = next node lines table l older p m h MasterAck Candidate kind (candidate_is (role_before node l older) in_role) refl
      (unsteered _ MasterAck refl) (follow_acts p l.did.tick (port_before node l older)) refl

  found : Heeds MasterAck is_loose (λ p m x past. is_armed Search x past) (λ p m x past. follow_acts p x past) node lines
  unfolding says_kind slave_takes_kind reading masterack_in either_by follow_row puts ◌followed_by◌ arms_elect arms tells_ticket posts
  found l older p m h kind in_role so =
      let is = loose_is (role_before node l older) in_role in
      next node lines table l older p m h MasterAck Loose kind is refl (unsteered _ MasterAck refl) (follow_acts p l.did.tick (port_before node l older))
      (rw (is, so) refl)

  -- a QUIT, at a port that follows nobody
  quits_by : (r : Role) → is_follow r ≡ false → is_up_role r ≡ true → (l : Line) (older : List Line) (p : PeerId) (m : MessageValue) →
      Hears node lines l older p m → m.kind ≡ QuitKind → role_before node l older ≡ r →
      DoesNext (Quit p ∷ posts_bare Ack m.number (port_before node l older) p ∷ follow_acts p l.did.tick (port_before node l older)) l older lines
  unfolding says_kind slave_takes_kind candidate_takes_kind master_takes_kind quits puts ◌followed_by◌ posts reading follows_unless follow_row arms_elect arms
      tells_ticket
  quits_by Loose f u l older p m h kind is = next node lines table l older p m h QuitKind Loose kind is refl (unsteered _ QuitKind refl) (Quit p ∷
      posts_bare Ack m.number (port_before node l older) p ∷ follow_acts p l.did.tick (port_before node l older)) (rw is refl)
  quits_by Candidate f u l older p m h kind is = next node lines table l older p m h QuitKind Candidate kind is refl (unsteered _ QuitKind refl) (Quit p ∷
      posts_bare Ack m.number (port_before node l older) p ∷ follow_acts p l.did.tick (port_before node l older)) (rw is refl)
  quits_by Master f u l older p m h kind is = next node lines table l older p m h QuitKind Master kind is refl (unsteered _ QuitKind refl) (Quit p ∷
      posts_bare Ack m.number (port_before node l older) p ∷ follow_acts p l.did.tick (port_before node l older)) (rw is refl)
  quits_by Starting f u l older p m h kind is = absurd (true≢false (sym u))
  quits_by (Follow q) f u l older p m h kind is = absurd (true≢false f)

  no_follow : (r : Role) → has_no_master r ≡ true → is_follow r ≡ false
  no_follow (Follow q) e = absurd (true≢false (sym e))
  no_follow _ e = refl

  is_up : (r : Role) → has_no_master r ≡ true → is_up_role r ≡ true
  is_up Loose e = refl
  is_up Candidate e = refl
  is_up Starting e = absurd (true≢false (sym e))
  is_up _ e = absurd (true≢false (sym e))

  quit : Heeds QuitKind has_no_master always (λ p m x past. Quit p ∷ posts_bare Ack m.number past p ∷ follow_acts p x past) node lines
  quit l older p m h kind in_role so = let r = role_before node l older in quits_by r (no_follow r in_role) (is_up r in_role) l older p m h kind refl

  quits_lead : Heeds QuitKind is_master_role always (λ p m x past. Quit p ∷ posts_bare Ack m.number past p ∷ follow_acts p x past) node lines
  quits_lead l older p m h kind in_role so = quits_by Master refl refl l older p m h kind (master_is (role_before node l older) in_role)

  follow_is : (r : Role) → is_follow r ≡ true → (q : PeerId) × (r ≡ Follow q)
  follow_is (Follow q) e = (q, refl)
  follow_is _ e = absurd (true≢false (sym e))

  stays : Heeds QuitKind is_follow always (λ p m x past. Quit p ∷ posts_bare Ack m.number past p ∷ []) node lines
  unfolding says_kind slave_takes_kind quits puts ◌followed_by◌ posts reading follows_unless nothing
  stays l older p m h kind in_role so = let f = follow_is (role_before node l older) in_role in let is = f.1 in
      next node lines table l older p m h QuitKind (Follow f.0) kind is refl (unsteered _ QuitKind refl)
      (Quit p ∷ posts_bare Ack m.number (port_before node l older) p ∷ []) (rw is refl)

  follows : Follows node lines
  follows = record { masterup = masterup; masterack = masterack; found = found; quit = quit; quits = quits_lead; stays = stays }

  -- a candidate's ELECTION

  backs : Heeds Election is_idle (λ p m x past. may_back_at p x past) (λ p m x past. Back p ∷ arms_for_delay x past ∷ posts_bare Accept m.number past p ∷ [])
      node lines
  unfolding says_kind slave_takes_kind election_of either_by puts ◌followed_by◌ arms_elect reading arms posts
  backs l older p m h kind in_role so = by_role (role_before node l older) refl in_role where
    by_role : (r : Role) → role_before node l older ≡ r → is_idle r ≡ true →
        DoesNext (Back p ∷ arms_for_delay l.did.tick (port_before node l older) ∷ posts_bare Accept m.number (port_before node l older) p ∷ []) l older lines
    by_role Loose is e = next node lines table l older p m h Election Loose kind is refl (unsteered _ Election refl) (Back p ∷
        arms_for_delay l.did.tick (port_before node l older) ∷ posts_bare Accept m.number (port_before node l older) p ∷ []) (rw so refl)
    by_role (Follow q) is e = next node lines table l older p m h Election (Follow q) kind is refl (unsteered _ Election refl) (Back p ∷
        arms_for_delay l.did.tick (port_before node l older) ∷ posts_bare Accept m.number (port_before node l older) p ∷ []) (rw so refl)
    by_role Starting is e = absurd (true≢false (sym e))
    by_role Candidate is e = absurd (true≢false (sym e))
    by_role Master is e = absurd (true≢false (sym e))

  refuses : Heeds Election is_candidate_role always (λ p m x past. posts_bare Refuse m.number past p ∷ []) node lines
  unfolding says_kind candidate_takes_kind posts
  refuses l older p m h kind in_role so = next node lines table l older p m h Election Candidate kind (candidate_is (role_before node l older) in_role) refl
      (unsteered _ Election refl) (posts_bare Refuse m.number (port_before node l older) p ∷ []) refl

  pub idle_refuses : Heeds Election is_idle (λ p m x past. not (may_back_at p x past)) (λ p m x past. posts_bare Refuse m.number past p ∷ []) node lines
  unfolding says_kind slave_takes_kind election_of either_by posts
  idle_refuses l older p m h kind in_role so = by_role (role_before node l older) refl in_role where
    holds : may_back_at p l.did.tick (port_before node l older) ≡ false
    holds = not-true (may_back_at p l.did.tick (port_before node l older)) so

    by_role : (r : Role) → role_before node l older ≡ r → is_idle r ≡ true → DoesNext (posts_bare Refuse m.number (port_before node l older) p ∷ []) l older
        lines
    by_role Loose is e = next node lines table l older p m h Election Loose kind is refl (unsteered _ Election refl)
        (posts_bare Refuse m.number (port_before node l older) p ∷ []) (rw holds refl)
    by_role (Follow q) is e = next node lines table l older p m h Election (Follow q) kind is refl (unsteered _ Election refl)
        (posts_bare Refuse m.number (port_before node l older) p ∷ []) (rw holds refl)
    by_role Starting is e = absurd (true≢false (sym e))
    by_role Candidate is e = absurd (true≢false (sym e))
    by_role Master is e = absurd (true≢false (sym e))

  not_quit : (b : Bool) → (if b then false else true) ≡ true → b ≡ false
  not_quit true e = absurd (true≢false (sym e))
  not_quit false e = refl

  sends_away_holds : Heeds Election is_master_role (λ p m x past. if has_quit p x past then false else true)
      (λ p m x past. posts_bare QuitKind (next_number x past) past p ∷ []) node lines
  unfolding says_kind master_takes_kind sends_away either_by begins reading posts
  sends_away_holds l older p m h kind in_role so = next node lines table l older p m h Election Master kind (master_is (role_before node l older) in_role) refl
      (unsteered _ Election refl) (posts_bare QuitKind (next_number l.did.tick (port_before node l older)) (port_before node l older) p ∷
      []) (let open_is = not_quit (has_quit p l.did.tick (port_before node l older)) so in rw open_is refl)

  votes : Votes node lines
  votes = record { backs = backs; refuses = refuses; sends_away = sends_away_holds }

  -- what a master does

  masterreq : Heeds MasterReq is_master_role always (λ p m x past. posts_bare MasterAck m.number past p ∷ []) node lines
  unfolding says_kind master_takes_kind posts
  masterreq l older p m h kind in_role so = next node lines table l older p m h MasterReq Master kind (master_is (role_before node l older) in_role) refl
      (unsteered _ MasterReq refl) (posts_bare MasterAck m.number (port_before node l older) p ∷ []) refl

  resolve : Heeds ResolveKind is_master_role always (λ p m x past. posts_bare MasterAck m.number past p ∷ []) node lines
  unfolding says_kind master_takes_kind posts
  resolve l older p m h kind in_role so = next node lines table l older p m h ResolveKind Master kind (master_is (role_before node l older) in_role) refl
      (unsteered _ ResolveKind refl) (posts_bare MasterAck m.number (port_before node l older) p ∷ []) refl

  -- a follower's CONFLICT is acknowledged, whatever else comes of it
  pub conflict_acks : Heeds Conflict is_master_role always (λ p m x past. posts_bare Ack m.number past p ∷ []) node lines
  unfolding says_kind master_takes_kind ◌followed_by◌ posts
  conflict_acks l older p m h kind in_role so =
      let ack = posts_bare Ack m.number (port_before node l older) p in
      let after = grown l.did.tick (After node lines table l older p m h) (ack ∷ []) in
      let rest = resolves l.did.tick after in
      act_place l.did.step l.did.tick l.port ack (ack ∷ rest) (l ∷ older) lines (record { front = []; back = rest; is = refl })
      (next node lines table l older p m h Conflict Master kind (master_is (role_before node l older) in_role) refl (unsteered _ Conflict refl) (ack ∷
      rest) refl)

  joins_next : Heeds SlaveUp is_master_role (λ p m x past. may_join p m.number x past)
      (λ p m x past. Join p ∷ (if may_set p m.number x past then Post (Peer p) (Message (timed SetTime m.number (target_at x past) past.name)) ∷ [] else []))
      node lines
  unfolding says_kind master_takes_kind joins either_by puts ◌followed_by◌ begins_settime reading posts_time nothing
  joins_next l older p m h kind in_role so = next node lines table l older p m h SlaveUp Master kind (master_is (role_before node l older) in_role) refl
      (unsteered _ SlaveUp refl) (Join p ∷ (if may_set p m.number l.did.tick (port_before node l older) then Post (Peer p)
      (Message (timed SetTime m.number (target_at l.did.tick (port_before node l older)) node.name)) ∷ [] else [])) (rw so refl)

  serves : Serves node lines
  serves = record { masterreq = masterreq; resolve = resolve; joins = joins_next }

  -- what a follower does

  own_master : (p : PeerId) → (p.0 == p.0) ≡ true
  own_master p = eq-eqb p.0 p.0 refl

  adjtime : HeedsMaster AdjTime (λ p m x past. takes_amount m.number (time_in m.body) x past)
      (λ p m x past. moved_by (time_in m.body) x past ∷ arms_for_delay x past ∷ posts_bare Ack m.number past p ∷ []) node lines
  unfolding says_kind slave_takes_kind reading from_master adjtime_of either_by adjusts ◌followed_by◌ confirms arms_elect arms posts
  adjtime l older p m h kind is steer so = next node lines table l older p m h AdjTime (Follow p) kind is refl (λ c. steer)
      (moved_by (time_in m.body) l.did.tick (port_before node l older) ∷ arms_for_delay l.did.tick (port_before node l older) ∷
      posts_bare Ack m.number (port_before node l older) p ∷ [])
      (let own = own_master p in rw (is, own, so) refl)

  settime : HeedsMaster SetTime (λ p m x past. takes_value m.number (time_in m.body) x past)
      (λ p m x past. set_to (time_in m.body) x past ∷ arms_for_delay x past ∷ posts_bare Ack m.number past p ∷ []) node lines
  unfolding says_kind slave_takes_kind reading from_master settime_of either_by sets ◌followed_by◌ confirms arms_elect arms posts
  settime l older p m h kind is steer so = next node lines table l older p m h SetTime (Follow p) kind is refl (λ c. steer)
      (set_to (time_in m.body) l.did.tick (port_before node l older) ∷ arms_for_delay l.did.tick (port_before node l older) ∷
      posts_bare Ack m.number (port_before node l older) p ∷ [])
      (let own = own_master p in rw (is, own, so) refl)

  -- a repeat of the last correction is acknowledged again
  pub adjtime_again : HeedsMaster AdjTime (λ p m x past. not (takes_amount m.number (time_in m.body) x past) && is_repeated p m.number x past)
      (λ p m x past. posts_bare Ack m.number past p ∷ []) node lines
  unfolding says_kind slave_takes_kind reading from_master adjtime_of either_by acks_repeat posts
  adjtime_again l older p m h kind is steer so =
      let both = and_parts (not (takes_amount m.number (time_in m.body) l.did.tick (port_before node l older)))
      (is_repeated p m.number l.did.tick (port_before node l older)) so in
      let not_taken = not-true (takes_amount m.number (time_in m.body) l.did.tick (port_before node l older)) both.0 in
      let repeated = both.1 in
      next node lines table l older p m h AdjTime (Follow p) kind is refl (λ c. steer) (posts_bare Ack m.number (port_before node l older) p ∷ [])
      (let own = own_master p in rw (is, own, not_taken, repeated) refl)

  pub settime_again : HeedsMaster SetTime (λ p m x past. not (takes_value m.number (time_in m.body) x past) && is_repeated p m.number x past)
      (λ p m x past. posts_bare Ack m.number past p ∷ []) node lines
  unfolding says_kind slave_takes_kind reading from_master settime_of either_by acks_repeat posts
  settime_again l older p m h kind is steer so =
      let both = and_parts (not (takes_value m.number (time_in m.body) l.did.tick (port_before node l older)))
      (is_repeated p m.number l.did.tick (port_before node l older)) so in
      let not_taken = not-true (takes_value m.number (time_in m.body) l.did.tick (port_before node l older)) both.0 in
      let repeated = both.1 in
      next node lines table l older p m h SetTime (Follow p) kind is refl (λ c. steer) (posts_bare Ack m.number (port_before node l older) p ∷ [])
      (let own = own_master p in rw (is, own, not_taken, repeated) refl)

  again : HeedsMaster MasterUp always (λ p m x past. arms_for_delay x past ∷ posts_bare SlaveUp (ticket_at x past) past p ∷ []) node lines
  unfolding says_kind slave_takes_kind reading masterup_in ◌followed_by◌ arms_elect arms tells_ticket posts
  again l older p m h kind is steer so = next node lines table l older p m h MasterUp (Follow p) kind is refl (λ c. steer)
      (arms_for_delay l.did.tick (port_before node l older) ∷ posts_bare SlaveUp (ticket_at l.did.tick (port_before node l older)) (port_before node l older) p
      ∷ [])
      (let own = own_master p in rw (is, own) refl)

  obeys : Obeys node lines
  obeys = record { adjtime = adjtime; settime = settime; masterup = again }

  -- the ends of sends

  ack : Heeds Ack is_up_role (λ p m x past. has_other p m.number x past) (λ p m x past. Acked p ∷ []) node lines
  unfolding says_kind slave_takes_kind candidate_takes_kind master_takes_kind acknowledges either_by puts
  ack l older p m h kind in_role so = by_role (role_before node l older) refl in_role where
    by_role : (r : Role) → role_before node l older ≡ r → is_up_role r ≡ true → DoesNext (Acked p ∷ []) l older lines
    by_role Loose is e = next node lines table l older p m h Ack Loose kind is refl (unsteered _ Ack refl) (Acked p ∷ []) (rw so refl)
    by_role (Follow q) is e = next node lines table l older p m h Ack (Follow q) kind is refl (unsteered _ Ack refl) (Acked p ∷ []) (rw so refl)
    by_role Candidate is e = next node lines table l older p m h Ack Candidate kind is refl (unsteered _ Ack refl) (Acked p ∷ []) (rw so refl)
    by_role Master is e = next node lines table l older p m h Ack Master kind is refl (unsteered _ Ack refl) (Acked p ∷ []) (rw so refl)
    by_role Starting is e = absurd (true≢false (sym e))

  accept : Heeds Accept is_candidate_role (λ p m x past. has_election p m.number x past) (λ p m x past. Acked p ∷ Backer p ∷ []) node lines
  unfolding says_kind candidate_takes_kind accepted_by either_by puts ◌followed_by◌
  accept l older p m h kind in_role so = next node lines table l older p m h Accept Candidate kind (candidate_is (role_before node l older) in_role) refl
      (unsteered _ Accept refl) (Acked p ∷ Backer p ∷ []) (rw so refl)

  refuse : Heeds Refuse is_candidate_role (λ p m x past. has_election p m.number x past) (λ p m x past. Acked p ∷ Become Loose ∷ arms_for_delay x past ∷ [])
      node lines
  unfolding says_kind candidate_takes_kind refused_by yields either_by puts ◌followed_by◌ arms_elect reading arms
  refuse l older p m h kind in_role so = next node lines table l older p m h Refuse Candidate kind (candidate_is (role_before node l older) in_role) refl
      (unsteered _ Refuse refl) (Acked p ∷ Become Loose ∷ arms_for_delay l.did.tick (port_before node l older) ∷ []) (rw so refl)

  ends : Ends node lines
  ends = record { ack = ack; accept = accept; refuse = refuse }

  pub heeds_peers : HeedsPeers node lines
  heeds_peers = record { follows = follows; votes = votes; serves = serves; obeys = obeys; ends = ends }

-- wherever the table is kept
pub all_heed : (header : HeaderValue) (world : List Line) → ByTable header world → AllHeed header world
all_heed header world table n = heeds_peers (node_in header n) (of n world) (table n)
