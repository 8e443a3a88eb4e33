-- Each row of a port whose node may not be master keeps it humble.
use Rattle.std.proofs.Common.{sym, ap, subst, true≢false, ◌∙◌, ◌≡◌, ℕ, ℤ, ◌+◌, ◌==◌, ◌&&◌, eq-eqb, Bool, true, false, if◌then◌else◌, List, [], ◌∷◌, Option}
use Rattle.std.proofs.Common.{None, Some, map, refl}
use Rattle.std.proofs.lemmas.Bool.{and_right}
use Rattle.tsp_rules.specs.Values.{Act, Boot, Took, Post, Become, Arm, Ring, Late, Back, Quit, Abandon, Acked, Gave, Leave, Alarm, Quiet, Search, Elect, Window}
use Rattle.tsp_rules.specs.Values.{Probe, CloseAlarm, ResolveAlarm, Round, PeerId, Place, Peer, Stranger, Role, Starting, Loose, Follow, Candidate, Master}
use Rattle.tsp_rules.specs.Values.{Kind, Accept, Ack, AdjTime, Conflict, Date, DateAck, DateReq, Election, LoopKind, MasterAck, MasterReq, MasterUp, Msite}
use Rattle.tsp_rules.specs.Values.{MsiteReq, QuitKind, Refuse, SetDate, SetDateReq, SetTime, SlaveUp, Test, TraceOff, TraceOn, Taken, Good, Bad, Datagram}
use Rattle.tsp_rules.specs.Values.{Message, Stamp, Request, Reply, WINDOW}
use Rattle.tsp_base.specs.Words.{Acts, Deed, Did, Here, Elsewhere, MessageValue, Past, Row, Seen, Sending, Leads, arms, armed, bare, deadline, for_each, grown}
use Rattle.tsp_base.specs.Words.{held, message_at, message_of, may_back_after, nothing, open_to, open_to_after, others, post_of, posts, posts_back, posts_of}
use Rattle.tsp_base.specs.Words.{posts_time, posts_to_others, puts, either_by, reading, role, sending_at, time_in, acting, ◌followed_by◌}
use Rattle.tsp_base.proofs.LeadsLemmas.{Leads_then, Leads_either, Leads_reading, Leads_nothing, Leads_puts, Leads_each, Leads_from}
use Rattle.tsp_rules.specs.CommonRows.{arms_elect, candidature_row, follow_row, follows_unless, is_awake, is_idle, may_be_asked, names_master, master_name}
use Rattle.tsp_rules.specs.CommonRows.{posts_reply, quits, replies, says_master, searches, tells_ticket, tests, traces}
use Rattle.tsp_rules.specs.SlaveRows.{quiet_rings, rings_or_late, search_rings, loosens, elect_rings, reports_conflict, masterup_in, masterack_in, election_of}
use Rattle.tsp_rules.specs.SlaveRows.{acks_repeat, confirms, adjtime_of, settime_of, from_master, slave_takes, slave_takes_kind, takes_amount, takes_value}
use Rattle.tsp_rules.specs.Guards.{delay_at, is_due, is_heard, is_in_time, is_armed, is_own, is_over, is_master_at, is_in_range, may_back_at, may_stand_at}
use Rattle.tsp_rules.specs.Guards.{follows_at, role_at, ticket_at}
use Rattle.tsp_rules.specs.SendRows.{acknowledges, begins, begins_timed, next_number, due_send, due_sends, gives_up, is_send_due, is_spent, leaves_after}
use Rattle.tsp_rules.specs.SendRows.{open_at, peers_at, repeats, repeats_send}
use Rattle.tsp_rules.specs.Answers.{alarm_rings, from_peer, handles, handles_kind, is_left, peer_replies, peer_says, replies_in, rings, says_in, takes}
use Rattle.tsp_rules.specs.ClockRows.{adjusts, sets}
use Rattle.tsp_rules.specs.DateRows.{date_acked, date_acked_in, date_in, date_of, date_request_in, date_request_of, passes_on}
use Rattle.tsp_base.specs.Words.{ReplyValue, did_of, is_numbered, sending_of}
use Rattle.tsp_progress.specs.Humble.{Humble, HumblePost, HumblePosts, Mild, is_humble, leads_in}

-- the node may not be master, and its port is humble
pub record Meek (c x : ℕ) (past : Past) : Type 0 where
  pub may : past.may ≡ false
  pub humble : Humble c past.seen

-- acts that a humble port puts, whatever was before
abbrev pub is_meek : Act → Bool
is_meek (Become Candidate) = false
is_meek (Become Master) = false
is_meek (Arm Window at) = false
is_meek (Arm Probe at) = false
is_meek (Arm CloseAlarm at) = false
is_meek (Arm ResolveAlarm at) = false
is_meek (Arm Round at) = false
is_meek (Back p) = false
is_meek (Post (Peer p) (Message m)) = is_humble m.kind
is_meek _ = true

abbrev pub backed_at : ℕ → PeerId → Option (ℕ × PeerId)
backed_at b p = Some (b, p)

pub no_back : {A : Type 0} {b : ℕ} {p : PeerId} → None ≡ backed_at b p → A
no_back e = let bad : ⊥ = cc in absurd bad

meek_become : (c : ℕ) (r : Role) → leads_in r ≡ false → (d : Did) (seen : List Seen) → Humble c seen → Humble c (Here (record d { deed = Acts (Become r) }) ∷
    seen)
meek_become c r e d seen h = record {
  role_is = e;
  window = refl;
  probe = refl;
  close = refl;
  resolve = refl;
  round = refl;
  posts = (tt, h.posts);
  backs = h.backs;
}

pub meek_keeps : (c : ℕ) (a : Act) → is_meek a ≡ true → (x : ℕ) (past : Past) → Humble c past.seen → Humble c (grown x past (a ∷ [])).seen
meek_keeps c Boot e x past h = record {
  role_is = refl;
  window = refl;
  probe = refl;
  close = refl;
  resolve = refl;
  round = refl;
  posts = (tt, h.posts);
  backs = λ b p is. no_back is;
}
meek_keeps c (Become Candidate) e x past h = absurd (true≢false (sym e))
meek_keeps c (Become Master) e x past h = absurd (true≢false (sym e))
meek_keeps c (Become Starting) e x past h = meek_become c Starting refl (record { step = past.step; tick = x; deed = Acts Boot }) past.seen h
meek_keeps c (Become Loose) e x past h = meek_become c Loose refl (record { step = past.step; tick = x; deed = Acts Boot }) past.seen h
meek_keeps c (Become (Follow p)) e x past h = meek_become c (Follow p) refl (record { step = past.step; tick = x; deed = Acts Boot }) past.seen h
meek_keeps c (Arm Quiet at) e x past h = record {
  role_is = h.role_is;
  window = h.window;
  probe = h.probe;
  close = h.close;
  resolve = h.resolve;
  round = h.round;
  posts = (tt, h.posts);
  backs = h.backs;
}
meek_keeps c (Arm Search at) e x past h = record {
  role_is = h.role_is;
  window = h.window;
  probe = h.probe;
  close = h.close;
  resolve = h.resolve;
  round = h.round;
  posts = (tt, h.posts);
  backs = h.backs;
}
meek_keeps c (Arm Elect at) e x past h = record {
  role_is = h.role_is;
  window = h.window;
  probe = h.probe;
  close = h.close;
  resolve = h.resolve;
  round = h.round;
  posts = (tt, h.posts);
  backs = h.backs;
}
meek_keeps c (Arm _ at) e x past h = absurd (true≢false (sym e))
meek_keeps c (Back p) e x past h = absurd (true≢false (sym e))
meek_keeps c (Post (Peer p) (Message m)) e x past h = record {
  role_is = h.role_is;
  window = h.window;
  probe = h.probe;
  close = h.close;
  resolve = h.resolve;
  round = h.round;
  posts = (e, h.posts);
  backs = h.backs;
}
meek_keeps c (Ring Window) e x past h = record {
  role_is = h.role_is;
  window = refl;
  probe = h.probe;
  close = h.close;
  resolve = h.resolve;
  round = h.round;
  posts = (tt, h.posts);
  backs = h.backs;
}
meek_keeps c (Ring Probe) e x past h = record {
  role_is = h.role_is;
  window = h.window;
  probe = refl;
  close = h.close;
  resolve = h.resolve;
  round = h.round;
  posts = (tt, h.posts);
  backs = h.backs;
}
meek_keeps c (Ring CloseAlarm) e x past h = record {
  role_is = h.role_is;
  window = h.window;
  probe = h.probe;
  close = refl;
  resolve = h.resolve;
  round = h.round;
  posts = (tt, h.posts);
  backs = h.backs;
}
meek_keeps c (Ring ResolveAlarm) e x past h = record {
  role_is = h.role_is;
  window = h.window;
  probe = h.probe;
  close = h.close;
  resolve = refl;
  round = h.round;
  posts = (tt, h.posts);
  backs = h.backs;
}
meek_keeps c (Ring Round) e x past h = record {
  role_is = h.role_is;
  window = h.window;
  probe = h.probe;
  close = h.close;
  resolve = h.resolve;
  round = refl;
  posts = (tt, h.posts);
  backs = h.backs;
}
meek_keeps c (Ring _) e x past h = record {
  role_is = h.role_is;
  window = h.window;
  probe = h.probe;
  close = h.close;
  resolve = h.resolve;
  round = h.round;
  posts = (tt, h.posts);
  backs = h.backs;
}
meek_keeps c (Late Window) e x past h = record {
  role_is = h.role_is;
  window = refl;
  probe = h.probe;
  close = h.close;
  resolve = h.resolve;
  round = h.round;
  posts = (tt, h.posts);
  backs = h.backs;
}
meek_keeps c (Late Probe) e x past h = record {
  role_is = h.role_is;
  window = h.window;
  probe = refl;
  close = h.close;
  resolve = h.resolve;
  round = h.round;
  posts = (tt, h.posts);
  backs = h.backs;
}
meek_keeps c (Late CloseAlarm) e x past h = record {
  role_is = h.role_is;
  window = h.window;
  probe = h.probe;
  close = refl;
  resolve = h.resolve;
  round = h.round;
  posts = (tt, h.posts);
  backs = h.backs;
}
meek_keeps c (Late ResolveAlarm) e x past h = record {
  role_is = h.role_is;
  window = h.window;
  probe = h.probe;
  close = h.close;
  resolve = refl;
  round = h.round;
  posts = (tt, h.posts);
  backs = h.backs;
}
meek_keeps c (Late Round) e x past h = record {
  role_is = h.role_is;
  window = h.window;
  probe = h.probe;
  close = h.close;
  resolve = h.resolve;
  round = refl;
  posts = (tt, h.posts);
  backs = h.backs;
}
meek_keeps c (Late _) e x past h = record {
  role_is = h.role_is;
  window = h.window;
  probe = h.probe;
  close = h.close;
  resolve = h.resolve;
  round = h.round;
  posts = (tt, h.posts);
  backs = h.backs;
}
meek_keeps c Abandon e x past h = record {
  role_is = h.role_is;
  window = h.window;
  probe = refl;
  close = refl;
  resolve = h.resolve;
  round = h.round;
  posts = (tt, h.posts);
  backs = h.backs;
}
meek_keeps c _ e x past h = record {
  role_is = h.role_is;
  window = h.window;
  probe = h.probe;
  close = h.close;
  resolve = h.resolve;
  round = h.round;
  posts = (tt, h.posts);
  backs = h.backs;
}

none_said : {A : Type 0} {m : MessageValue} → None ≡ Some m → A
none_said e = let bad : ⊥ = cc in absurd bad

none_sent : {A : Type 0} {s : Sending} → None ≡ Some s → A
none_sent e = let bad : ⊥ = cc in absurd bad

module _ (c : ℕ) where
  pub meek_puts : (a : Act) → is_meek a ≡ true → Leads (Meek c) (puts a) (Meek c)
  meek_puts a e = Leads_puts a (λ x past h. record { may = h.may; humble = meek_keeps c a e x past h.humble })

  pub meek_arms : (a : Alarm) (long : ℕ) → ((at : ℕ) → is_meek (Arm a at) ≡ true) → Leads (Meek c) (arms a long) (Meek c)
  unfolding arms
  meek_arms a long k = record { run = λ x past h. record { may = h.may; humble = meek_keeps c (Arm a (x + long)) (k (x + long)) x past h.humble } }

  -- posts

  meek_post : (p : PeerId) (kind : Kind) (number : ℕ) → is_humble kind ≡ true → Leads (Meek c) (posts p kind number) (Meek c)
  unfolding posts
  meek_post p kind number e = record { run = λ x past h. record { may = h.may; humble = meek_keeps c (post_of kind number past.name p) e x past h.humble } }

  meek_time : (p : PeerId) (kind : Kind) (number : ℕ) (time : ℤ) → is_humble kind ≡ true → Leads (Meek c) (posts_time p kind number time) (Meek c)
  unfolding posts_time
  meek_time p kind number time e = record { run = λ x past h. record { may = h.may; humble = meek_keeps c _ e x past h.humble } }

  post_back : (from : Place) (m : MessageValue) → is_humble m.kind ≡ true → is_meek (Post from (Message m)) ≡ true
  post_back (Peer p) m e = e
  post_back Stranger m e = refl

  stamp_back : (from : Place) (d : Datagram) → ((m : MessageValue) → d ≡ Message m → is_humble m.kind ≡ true) → is_meek (Post from d) ≡ true
  stamp_back (Peer p) (Message m) k = k m refl
  stamp_back (Peer p) (Stamp s) k = refl
  stamp_back Stranger d k = refl

  meek_back : (from : Place) (kind : Kind) (number : ℕ) → is_humble kind ≡ true → Leads (Meek c) (posts_back from kind number) (Meek c)
  unfolding posts_back
  meek_back from kind number e = record {
    run = λ x past h. record {
      may = h.may;
      humble = meek_keeps c (Post from (Message (bare kind number past.name))) (post_back from (bare kind number past.name) e) x past h.humble;
    };
  }

  meek_others : (kind : Kind) → is_humble kind ≡ true → Leads (Meek c) (posts_to_others kind 0) (Meek c)
  unfolding posts_to_others
  meek_others kind e = record { run = λ x past h. each x past (others past.own past.peers) past.name h } where
    each : (x : ℕ) (past : Past) (ps : List PeerId) (name : List ℕ) → Meek c x past → Meek c x (grown x past (map (post_of kind 0 name) ps))
    each x past [] name h = h
    each x past (p ∷ ps) name h = each x (grown x past (post_of kind 0 name p ∷ [])) ps name (record {
      may = h.may;
      humble = meek_keeps c (post_of kind 0 name p) e x past h.humble;
    })

  -- rows that any role has

  meek_elect : Leads (Meek c) arms_elect (Meek c)
  unfolding arms_elect
  meek_elect = Leads_reading delay_at (arms Elect) (λ long. Leads_from (λ x past h. h.0) (meek_arms Elect long (λ at. refl)))

  meek_searches : Leads (Meek c) searches (Meek c)
  unfolding searches
  meek_searches = Leads_then {Q = Meek c} (arms Search WINDOW) (posts_to_others MasterReq 0) (meek_arms Search WINDOW (λ at. refl)) (meek_others MasterReq refl)

  meek_tells : (p : PeerId) → Leads (Meek c) (tells_ticket p) (Meek c)
  unfolding tells_ticket
  meek_tells p = Leads_reading ticket_at (posts p SlaveUp) (λ n. Leads_from (λ x past h. h.0) (meek_post p SlaveUp n refl))

  meek_again : (p : PeerId) → Leads (Meek c) (arms_elect followed_by tells_ticket p) (Meek c)
  meek_again p = Leads_then {Q = Meek c} arms_elect (tells_ticket p) meek_elect (meek_tells p)

  meek_follow : (p : PeerId) → Leads (Meek c) (follow_row p) (Meek c)
  unfolding follow_row
  meek_follow p = Leads_then {Q = Meek c} (puts (Become (Follow p))) (arms_elect followed_by tells_ticket p) (meek_puts (Become (Follow p)) refl) (meek_again p)

  meek_unless : (p : PeerId) (r : Role) → Leads (Meek c) (follows_unless p r) (Meek c)
  unfolding follows_unless
  meek_unless p (Follow q) = Leads_nothing
  meek_unless p _ = meek_follow p

  meek_quits : (p : PeerId) (number : ℕ) → Leads (Meek c) (quits p number) (Meek c)
  unfolding quits
  meek_quits p number = Leads_then {Q = Meek c} (puts (Quit p)) (posts p Ack number followed_by reading role_at (follows_unless p)) (meek_puts (Quit p) refl)
      (Leads_then {Q = Meek c} (posts p Ack number) (reading role_at (follows_unless p)) (meek_post p Ack number refl)
      (Leads_reading role_at (follows_unless p) (λ r. Leads_from (λ x past h. h.0) (meek_unless p r))))

  meek_begins : (kind : Kind) (p : PeerId) → is_humble kind ≡ true → Leads (Meek c) (begins kind p) (Meek c)
  unfolding begins
  meek_begins kind p e = Leads_reading next_number (posts p kind) (λ n. Leads_from (λ x past h. h.0) (meek_post p kind n e))

  meek_if : (b : Bool) (r s : Row) → Leads (Meek c) r (Meek c) → Leads (Meek c) s (Meek c) → Leads (Meek c) (if b then r else s) (Meek c)
  meek_if true r s p q = p
  meek_if false r s p q = q

  meek_either : (test : ℕ → Past → Bool) (r s : Row) → Leads (Meek c) r (Meek c) → Leads (Meek c) s (Meek c) → Leads (Meek c) (either_by test r s) (Meek c)
  meek_either test r s p q = Leads_either test r s (Leads_from (λ x past h. h.0) p) (Leads_from (λ x past h. h.0) q)

  meek_conflict : (q : PeerId) → Leads (Meek c) (reports_conflict q) (Meek c)
  unfolding reports_conflict
  meek_conflict q = meek_either _ (begins Conflict q) nothing (meek_begins Conflict q refl) Leads_nothing

  meek_masterup : (p : PeerId) (r : Role) → Leads (Meek c) (masterup_in p r) (Meek c)
  unfolding masterup_in
  meek_masterup p Loose = meek_follow p
  meek_masterup p (Follow q) = meek_if (q.0 == p.0) _ _ (meek_again p) (meek_conflict q)
  meek_masterup p _ = Leads_nothing

  meek_masterack : (p : PeerId) (r : Role) → Leads (Meek c) (masterack_in p r) (Meek c)
  unfolding masterack_in
  meek_masterack p Loose = meek_either (is_armed Search) (follow_row p) nothing (meek_follow p) Leads_nothing
  meek_masterack p (Follow q) = meek_if (q.0 == p.0) _ _ Leads_nothing (meek_conflict q)
  meek_masterack p _ = Leads_nothing

  -- node c is backed, and never refused

  backs_c : (p : PeerId) → p.0 ≡ c → Leads (Meek c) (puts (Back p)) (Meek c)
  backs_c p is = Leads_puts (Back p) (λ x past h. let k = h.humble in record {
    may = h.may;
    humble = record {
      role_is = k.role_is;
      window = k.window;
      probe = k.probe;
      close = k.close;
      resolve = k.resolve;
      round = k.round;
      posts = (tt, k.posts);
      backs = λ b q e. sym (ap (λ (o : Option (ℕ × PeerId)). peer o p.0) e) ∙ is;
    };
  }) where
    peer : Option (ℕ × PeerId) → ℕ → ℕ
    peer None other = other
    peer (Some b) other = b.1.0

  may_back : (o : Option (ℕ × PeerId)) (x : ℕ) (p : PeerId) → p.0 ≡ c → ((b : ℕ) (q : PeerId) → o ≡ Some (b, q) → q.0 ≡ c) → may_back_after o x p ≡ true
  may_back None x p is k = refl
  may_back (Some b) x p is k = let same : (b.1.0 == p.0) ≡ true = eq-eqb b.1.0 p.0 (k b.0 b.1 refl ∙ sym is) in rw same refl

  meek_election : (p : PeerId) (number : ℕ) → p.0 ≡ c → Leads (Meek c) (election_of p number) (Meek c)
  unfolding election_of
  meek_election p number is = Leads_either (may_back_at p) (puts (Back p) followed_by (arms_elect followed_by posts p Accept number)) (posts p Refuse number)
      (Leads_from (λ x past h. h.0) (Leads_then {Q = Meek c} (puts (Back p)) (arms_elect followed_by posts p Accept number) (backs_c p is)
      (Leads_then {Q = Meek c} arms_elect (posts p Accept number) meek_elect (meek_post p Accept number refl))))
      (record { run = λ x past h. absurd (true≢false (sym (may_back (held past.seen).back x p is h.0.humble.backs) ∙ h.1)) })

  -- corrections

  meek_adjusts : (amount : ℤ) → Leads (Meek c) (adjusts amount) (Meek c)
  unfolding adjusts
  meek_adjusts amount = record { run = λ x past h. record { may = h.may; humble = meek_keeps c _ refl x past h.humble } }

  meek_sets : (value : ℤ) → Leads (Meek c) (sets value) (Meek c)
  unfolding sets
  meek_sets value = record { run = λ x past h. record { may = h.may; humble = meek_keeps c _ refl x past h.humble } }

  meek_confirms : (p : PeerId) (number : ℕ) → Leads (Meek c) (confirms p number) (Meek c)
  unfolding confirms
  meek_confirms p number = Leads_then {Q = Meek c} arms_elect (posts p Ack number) meek_elect (meek_post p Ack number refl)

  meek_repeat : (p : PeerId) (number : ℕ) → Leads (Meek c) (acks_repeat p number) (Meek c)
  unfolding acks_repeat
  meek_repeat p number = meek_either _ (posts p Ack number) nothing (meek_post p Ack number refl) Leads_nothing

  meek_adjtime : (p : PeerId) (number : ℕ) (amount : ℤ) → Leads (Meek c) (adjtime_of p number amount) (Meek c)
  unfolding adjtime_of
  meek_adjtime p number amount = meek_either (takes_amount number amount) (adjusts amount followed_by confirms p number) (acks_repeat p number)
      (Leads_then {Q = Meek c} (adjusts amount) (confirms p number) (meek_adjusts amount) (meek_confirms p number)) (meek_repeat p number)

  meek_settime : (p : PeerId) (number : ℕ) (value : ℤ) → Leads (Meek c) (settime_of p number value) (Meek c)
  unfolding settime_of
  meek_settime p number value = meek_either (takes_value number value) (sets value followed_by confirms p number) (acks_repeat p number)
      (Leads_then {Q = Meek c} (sets value) (confirms p number) (meek_sets value) (meek_confirms p number)) (meek_repeat p number)

  meek_from : (p : PeerId) (row : Row) (r : Role) → Leads (Meek c) row (Meek c) → Leads (Meek c) (from_master p row r) (Meek c)
  unfolding from_master
  meek_from p row (Follow q) d = meek_if (q.0 == p.0) row nothing d Leads_nothing
  meek_from p row _ d = Leads_nothing

  meek_acks : (p : PeerId) (number : ℕ) → Leads (Meek c) (acknowledges p number) (Meek c)
  unfolding acknowledges
  meek_acks p number = meek_either _ (puts (Acked p)) nothing (meek_puts (Acked p) refl) Leads_nothing

  meek_slave : (p : PeerId) (m : MessageValue) (k : Kind) → (k ≡ Election → p.0 ≡ c) → Leads (Meek c) (slave_takes_kind p m k) (Meek c)
  unfolding slave_takes_kind
  meek_slave p m MasterUp e = Leads_reading role_at (masterup_in p) (λ r. Leads_from (λ x past h. h.0) (meek_masterup p r))
  meek_slave p m MasterAck e = Leads_reading role_at (masterack_in p) (λ r. Leads_from (λ x past h. h.0) (meek_masterack p r))
  meek_slave p m Election e = meek_election p m.number (e refl)
  meek_slave p m AdjTime e = Leads_reading role_at _ (λ r. Leads_from (λ x past h. h.0) (meek_from p (adjtime_of p m.number (time_in m.body)) r
      (meek_adjtime p m.number (time_in m.body))))
  meek_slave p m SetTime e = Leads_reading role_at _ (λ r. Leads_from (λ x past h. h.0) (meek_from p (settime_of p m.number (time_in m.body)) r
      (meek_settime p m.number (time_in m.body))))
  meek_slave p m QuitKind e = meek_quits p m.number
  meek_slave p m Ack e = meek_acks p m.number
  meek_slave p m _ e = Leads_nothing

  -- a role that a humble port hasn't
  leads_not : {row : Row} {Q : ℕ → Past → Type 0} (r : Role) → leads_in r ≡ true → Leads (λ x past. Meek c x past × (role_at x past ≡ r)) row Q
  leads_not r e = record { run = λ x past h. absurd (true≢false (sym (ap leads_in h.1 ∙ e) ∙ h.0.humble.role_is)) }

  meek_says : (p : PeerId) (m : MessageValue) (r : Role) → (m.kind ≡ Election → p.0 ≡ c) →
      Leads (λ x past. Meek c x past × (role_at x past ≡ r)) (says_in p m r) (Meek c)
  unfolding says_in slave_takes
  meek_says p m Starting e = Leads_from (λ x past h. h.0) Leads_nothing
  meek_says p m Candidate e = leads_not Candidate refl
  meek_says p m Master e = leads_not Master refl
  meek_says p m Loose e = Leads_from (λ x past h. h.0) (meek_slave p m m.kind e)
  meek_says p m (Follow q) e = Leads_from (λ x past h. h.0) (meek_slave p m m.kind e)

  meek_peer : (from : Place) (row : PeerId → Row) → ((p : PeerId) → from ≡ Peer p → Leads (Meek c) (row p) (Meek c)) →
      Leads (Meek c) (from_peer from row) (Meek c)
  unfolding from_peer
  meek_peer (Peer p) row d = meek_either (is_heard p) (row p) nothing (d p refl) Leads_nothing
  meek_peer Stranger row d = Leads_nothing

  -- clients

  meek_named : (from : Place) (number : ℕ) → Leads (Meek c) (names_master from number) (Meek c)
  unfolding names_master
  meek_named from number = Leads_reading master_name (λ name. puts (Post from (Message (bare Ack number name))))
      (λ name. Leads_from (λ x past h. h.0) (meek_puts (Post from (Message (bare Ack number name))) (post_back from (bare Ack number name) refl)))

  meek_traces : (from : Place) (number : ℕ) (on : Bool) → Leads (Meek c) (traces from number on) (Meek c)
  unfolding traces
  meek_traces from number on = Leads_then {Q = Meek c} _ (posts_back from Ack number) (meek_puts _ refl) (meek_back from Ack number refl)

  meek_tests : (from : Place) (number : ℕ) → Leads (Meek c) (tests from number) (Meek c)
  unfolding tests
  meek_tests from number = meek_either is_awake (posts_back from Ack number followed_by either_by may_be_asked candidature_row nothing) nothing
      (Leads_then {Q = Meek c} (posts_back from Ack number) (either_by may_be_asked candidature_row nothing) (meek_back from Ack number refl)
      (Leads_either may_be_asked candidature_row nothing
      (record { run = λ x past h. absurd (true≢false (sym h.1 ∙ and_right (is_idle (role past.seen)) (may_stand_at x past) (cannot x past h.0.may))) })
      (Leads_from (λ x past h. h.0) Leads_nothing))) Leads_nothing
    where
      cannot : (x : ℕ) (past : Past) → past.may ≡ false → may_stand_at x past ≡ false
      cannot x past e = rw e refl

  -- dates

  meek_passes : (from : Place) (q : PeerId) (number : ℕ) (time : ℤ) → Leads (Meek c) (passes_on from q number time) (Meek c)
  unfolding passes_on begins_timed
  meek_passes from q number time = meek_either _ (posts_back from Ack number followed_by reading next_number (λ n. posts_time q SetDateReq n time)) nothing
      (Leads_then {Q = Meek c} (posts_back from Ack number) (reading next_number (λ n. posts_time q SetDateReq n time)) (meek_back from Ack number refl)
      (Leads_reading next_number (λ n. posts_time q SetDateReq n time) (λ n. Leads_from (λ x past h. h.0) (meek_time q SetDateReq n time refl)))) Leads_nothing

  meek_date_in : (from : Place) (number : ℕ) (time : ℤ) (r : Role) → Leads (λ x past. Meek c x past × (role_at x past ≡ r)) (date_in from number time r)
      (Meek c)
  unfolding date_in
  meek_date_in from number time (Follow q) = Leads_from (λ x past h. h.0) (meek_passes from q number time)
  meek_date_in from number time Master = leads_not Master refl
  meek_date_in from number time _ = Leads_from (λ x past h. h.0) Leads_nothing

  meek_date : (charge : Bool) (from : Place) (m : MessageValue) → Leads (Meek c) (date_of charge from m) (Meek c)
  unfolding date_of
  meek_date true from m = Leads_reading role_at (date_in from m.number (time_in m.body)) (λ r. meek_date_in from m.number (time_in m.body) r)
  meek_date false from m = Leads_nothing

  meek_request : (charge : Bool) (m : MessageValue) (p : PeerId) → Leads (Meek c) (date_request_of charge m p) (Meek c)
  unfolding date_request_of date_request_in
  meek_request charge m p = Leads_reading role_at _ (λ r. by_role r) where
    by_role : (r : Role) → Leads (λ x past. Meek c x past × (role_at x past ≡ r)) (date_request_in charge m p r) (Meek c)
    by_role Master = leads_not Master refl
    by_role _ = Leads_from (λ x past h. h.0) Leads_nothing

  meek_date_acked : (m : MessageValue) (p : PeerId) → Leads (Meek c) (date_acked m p) (Meek c)
  unfolding date_acked date_acked_in
  meek_date_acked m p = Leads_reading role_at _ (λ r. Leads_from (λ x past h. h.0) (by_role r)) where
    by_role : (r : Role) → Leads (Meek c) (date_acked_in m p r) (Meek c)
    by_role (Follow q) = meek_either _ (puts (Acked p)) nothing (meek_puts (Acked p) refl) Leads_nothing
    by_role _ = Leads_nothing

  meek_says_master : (from : Place) (number : ℕ) → Leads (Meek c) (says_master from number) (Meek c)
  unfolding says_master
  meek_says_master from number = meek_either is_master_at (posts_back from Ack number) nothing (meek_back from Ack number refl) Leads_nothing

  -- what is done with a message

  meek_peer_says : (from : Place) (m : MessageValue) → Mild c from (Good (Message m)) → (p : PeerId) → from ≡ Peer p → Leads (Meek c) (peer_says m p) (Meek c)
  unfolding peer_says
  meek_peer_says from m ok p is = Leads_reading role_at (says_in p m) (λ r. meek_says p m r (subst (λ f. Mild c f (Good (Message m))) is ok))

  meek_kind : (charge : Bool) (from : Place) (m : MessageValue) (k : Kind) → Mild c from (Good (Message m)) →
      Leads (Meek c) (handles_kind charge from m k) (Meek c)
  unfolding handles_kind
  meek_kind charge from m Msite ok = meek_named from m.number
  meek_kind charge from m MsiteReq ok = meek_says_master from m.number
  meek_kind charge from m TraceOn ok = meek_traces from m.number true
  meek_kind charge from m TraceOff ok = meek_traces from m.number false
  meek_kind charge from m Test ok = meek_tests from m.number
  meek_kind charge from m Date ok = meek_date charge from m
  meek_kind charge from m SetDate ok = meek_date charge from m
  meek_kind charge from m DateReq ok = meek_peer from (date_request_of charge m) (λ p is. meek_request charge m p)
  meek_kind charge from m SetDateReq ok = meek_peer from (date_request_of charge m) (λ p is. meek_request charge m p)
  meek_kind charge from m DateAck ok = meek_peer from (date_acked m) (λ p is. meek_date_acked m p)
  meek_kind charge from m LoopKind ok = Leads_nothing
  meek_kind charge from m _ ok = meek_peer from (peer_says m) (meek_peer_says from m ok)

  meek_replies : (from : Place) (word counter : ℕ) → Leads (Meek c) (replies from word counter) (Meek c)
  unfolding replies posts_reply
  meek_replies from word counter = meek_either is_in_range _ nothing (record {
    run = λ x past h. record {
      may = h.may;
      humble = meek_keeps c _ (stamp_back from _ (λ m e. let bad : ⊥ = cc in absurd bad)) x past h.humble;
    };
  }) Leads_nothing

  meek_sampled : (r : ReplyValue) (p : PeerId) → Leads (Meek c) (peer_replies r p) (Meek c)
  unfolding peer_replies replies_in
  meek_sampled r p = Leads_reading role_at _ (λ a. by_role a) where
    by_role : (a : Role) → Leads (λ x past. Meek c x past × (role_at x past ≡ a)) (replies_in p r a) (Meek c)
    by_role Master = leads_not Master refl
    by_role _ = Leads_from (λ x past h. h.0) Leads_nothing

  meek_handles : (steer charge : Bool) (from : Place) (t : Taken) → Mild c from t → Leads (Meek c) (handles steer charge from t) (Meek c)
  unfolding handles
  meek_handles steer charge from (Bad fault) ok = Leads_nothing
  meek_handles steer charge from (Good (Message m)) ok = meek_either (is_left steer m.kind) nothing (handles_kind charge from m m.kind) Leads_nothing
      (meek_kind charge from m m.kind ok)
  meek_handles steer charge from (Good (Stamp (Request word counter))) ok = meek_replies from word counter
  meek_handles steer charge from (Good (Stamp (Reply r))) ok = meek_peer from (peer_replies r) (λ p is. meek_sampled r p)

  pub meek_takes : (steer charge : Bool) (from : Place) (t : Taken) → Mild c from t → Leads (Meek c) (takes steer charge from t) (Meek c)
  unfolding takes
  meek_takes steer charge from t ok = Leads_then {Q = Meek c} (puts (Took from t)) (either_by (is_own from) nothing (handles steer charge from t))
      (meek_puts (Took from t) refl)
      (meek_either (is_own from) nothing (handles steer charge from t) Leads_nothing (meek_handles steer charge from t ok))

  -- the alarms

  -- an alarm that isn't armed isn't due
  not_due : {row : Row} {Q : ℕ → Past → Type 0} (a : Alarm) → ((seen : List Seen) → Humble c seen → deadline (armed seen) a ≡ None) →
      Leads (λ x past. Meek c x past × (is_due a x past ≡ true)) row Q
  not_due a k = record { run = λ x past h. absurd (true≢false (sym h.1 ∙ ap (λ o. is_over o x) (k past.seen h.0.humble))) }

  meek_quiet : Leads (Meek c) quiet_rings (Meek c)
  unfolding quiet_rings
  meek_quiet = Leads_then {Q = Meek c} (puts (Ring Quiet)) (puts (Become Loose) followed_by searches) (meek_puts (Ring Quiet) refl)
      (Leads_then {Q = Meek c} (puts (Become Loose)) searches (meek_puts (Become Loose) refl) meek_searches)

  meek_search : Leads (Meek c) search_rings (Meek c)
  unfolding search_rings rings_or_late
  meek_search = Leads_then {Q = Meek c} (either_by (is_in_time Search) (puts (Ring Search)) (puts (Late Search))) arms_elect
      (meek_either (is_in_time Search) (puts (Ring Search)) (puts (Late Search)) (meek_puts (Ring Search) refl) (meek_puts (Late Search) refl)) meek_elect

  meek_loosens : Leads (Meek c) loosens (Meek c)
  unfolding loosens
  meek_loosens = meek_either follows_at (puts (Become Loose)) nothing (meek_puts (Become Loose) refl) Leads_nothing

  meek_elects : Leads (Meek c) elect_rings (Meek c)
  unfolding elect_rings
  meek_elects = meek_either (is_in_time Elect) (puts (Ring Elect) followed_by either_by may_stand_at candidature_row (loosens followed_by searches))
      (puts (Late Elect) followed_by arms_elect)
      (Leads_then {Q = Meek c} (puts (Ring Elect)) (either_by may_stand_at candidature_row (loosens followed_by searches)) (meek_puts (Ring Elect) refl)
      (Leads_either may_stand_at candidature_row (loosens followed_by searches)
      (record { run = λ x past h. absurd (true≢false (sym h.1 ∙ cannot x past h.0.may)) })
      (Leads_from (λ x past h. h.0) (Leads_then {Q = Meek c} loosens searches meek_loosens meek_searches))))
      (Leads_then {Q = Meek c} (puts (Late Elect)) arms_elect (meek_puts (Late Elect) refl) meek_elect)
    where
      cannot : (x : ℕ) (past : Past) → past.may ≡ false → may_stand_at x past ≡ false
      cannot x past e = rw e refl

  meek_alarm : (own wait : Bool) (a : Alarm) → Leads (λ x past. Meek c x past × (is_due a x past ≡ true)) (alarm_rings own wait a) (Meek c)
  unfolding alarm_rings
  meek_alarm own wait Quiet = Leads_from (λ x past h. h.0) meek_quiet
  meek_alarm own wait Search = Leads_from (λ x past h. h.0) meek_search
  meek_alarm own wait Elect = Leads_from (λ x past h. h.0) meek_elects
  meek_alarm own wait Window = not_due Window (λ seen h. h.window)
  meek_alarm own wait Probe = not_due Probe (λ seen h. h.probe)
  meek_alarm own wait CloseAlarm = not_due CloseAlarm (λ seen h. h.close)
  meek_alarm own wait ResolveAlarm = not_due ResolveAlarm (λ seen h. h.resolve)
  meek_alarm own wait Round = not_due Round (λ seen h. h.round)

  pub meek_rings : (own wait : Bool) (a : Alarm) → Leads (Meek c) (rings own wait a) (Meek c)
  unfolding rings
  meek_rings own wait a = Leads_either (is_due a) (alarm_rings own wait a) nothing (meek_alarm own wait a) (Leads_from (λ x past h. h.0) Leads_nothing)

  -- the due sends

  -- the message of an open send was posted
  open_humble : (p : PeerId) (seen : List Seen) → HumblePosts seen → (m : MessageValue) → message_at (open_to p seen) ≡ Some m → is_humble m.kind ≡ true
  open_humble p [] k m e = none_said e
  open_humble p (Elsewhere d ∷ before) k m e = open_humble p before k m e
  open_humble p (Here d ∷ before) k m e = by_deed d.deed refl k.0 (open_humble p before k.1 m) e where
    by_off : (b : Bool) → (message_at (open_to p before) ≡ Some m → is_humble m.kind ≡ true) → message_at (if b then [] else open_to p before) ≡ Some m →
        is_humble m.kind ≡ true
    by_off true older e = none_said e
    by_off false older e = older e

    by_post : (b : Bool) (to : PeerId) (said : MessageValue) → d.deed ≡ Acts (Post (Peer to) (Message said)) → is_humble said.kind ≡ true →
        (message_at (open_to p before) ≡ Some m → is_humble m.kind ≡ true) →
        message_at (if b then Here d ∷ before else open_to p before) ≡ Some m → is_humble m.kind ≡ true
    by_post true to said is humble older e = subst (λ k. is_humble k ≡ true) (ap (kind-or m) (sym (ap message_of is) ∙ e)) humble where
      kind-or : MessageValue → Option MessageValue → Kind
      kind-or other None = other.kind
      kind-or other (Some k) = k.kind
    by_post false to said is humble older e = older e

    by_deed : (deed : Deed) → d.deed ≡ deed → HumblePost deed → (message_at (open_to p before) ≡ Some m → is_humble m.kind ≡ true) →
        message_at (open_to_after p deed (acting before) (Here d ∷ before) (open_to p before)) ≡ Some m → is_humble m.kind ≡ true
    by_deed (Acts Boot) is h older e = none_said e
    by_deed (Acts (Become r)) is h older e = none_said e
    by_deed (Acts (Post (Peer q) (Message said))) is h older e = by_post ((q.0 == p.0) && (is_numbered said.kind && acting before)) q said is h older e
    by_deed (Acts (Acked q)) is h older e = by_off (q.0 == p.0) older e
    by_deed (Acts (Gave q)) is h older e = by_off (q.0 == p.0) older e
    by_deed _ is h older e = older e

  send_message : (place : List Seen) (n : ℕ) (s : Sending) → sending_at place n ≡ Some s → message_at place ≡ Some s.message
  send_message [] n s e = none_sent e
  send_message (k ∷ older) n s e = by_message (message_of (did_of k).deed) refl e where
    by_message : (o : Option MessageValue) → message_of (did_of k).deed ≡ o → sending_of o (did_of k).tick n ≡ Some s → message_of (did_of k).deed ≡
        Some s.message
    by_message None is e = none_sent e
    by_message (Some m) is e = is ∙ ap (λ (o : Option Sending). message-or m o) e where
      message-or : MessageValue → Option Sending → Option MessageValue
      message-or other None = Some other
      message-or other (Some t) = Some t.message

  meek_gives : (p : PeerId) (kind : Kind) → Leads (Meek c) (gives_up p kind) (Meek c)
  unfolding gives_up leaves_after
  meek_gives p kind = Leads_then {Q = Meek c} (puts (Gave p)) _ (meek_puts (Gave p) refl)
      (meek_if _ _ nothing (meek_either _ (puts (Leave p)) nothing (meek_puts (Leave p) refl) Leads_nothing) Leads_nothing)

  meek_send : (p : PeerId) (o : Option Sending) → Leads (λ x past. Meek c x past × (open_at p x past ≡ o)) (repeats_send p o) (Meek c)
  unfolding repeats_send repeats
  meek_send p None = Leads_from (λ x past h. h.0) Leads_nothing
  meek_send p (Some s) = Leads_either (is_send_due s) (either_by (is_spent s) (gives_up p s.message.kind) (puts (Post (Peer p) (Message s.message)))) nothing
      (Leads_either (is_spent s) (gives_up p s.message.kind) (puts (Post (Peer p) (Message s.message)))
      (Leads_from (λ x past h. h.0.0.0) (meek_gives p s.message.kind))
      (Leads_puts (Post (Peer p) (Message s.message)) (λ x past h. let k = h.0.0.0 in record {
        may = k.may;
        humble = meek_keeps c (Post (Peer p) (Message s.message)) (open_humble p past.seen k.humble.posts s.message
            (send_message (open_to p past.seen) (posts_of p past.seen) s h.0.0.1)) x past k.humble;
      })))
      (Leads_from (λ x past h. h.0.0) Leads_nothing)

  pub meek_sends : Leads (Meek c) due_sends (Meek c)
  unfolding due_sends due_send
  meek_sends = Leads_reading peers_at (for_each (λ p. reading (open_at p) (repeats_send p))) (λ ps. Leads_from (λ x past h. h.0)
      (Leads_each (λ (p : PeerId). reading (open_at p) (repeats_send p)) ps (λ p. Leads_reading (open_at p) (repeats_send p) (meek_send p))))
