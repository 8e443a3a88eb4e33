-- What a port does with a datagram, and its due sends, end a role that lasts only as they may, and a QUIT comes of a master.
use Rattle.std.proofs.Common.{sym, ap, subst, true≢false, ◌∙◌, ◌≡◌, inl, inr, if◌then◌else◌, ℕ, ℤ, ◌+◌, ◌==◌, Bool, true, false, List, []}
use Rattle.std.proofs.Common.{◌∷◌, Some, map, refl}
use Rattle.std.proofs.lemmas.Bool.{and_parts}
use Rattle.tsp_rules.specs.Values.{Act, Took, Post, Back, Quit, Abandon, Acked, Search}
use Rattle.tsp_rules.specs.Values.{ResolveAlarm, PeerId, Place, Peer, Stranger, Port, Role, Starting, Loose, Follow, Candidate, Master}
use Rattle.tsp_rules.specs.Values.{Kind, Accept, Ack, AdjTime, Conflict, Date, DateAck, DateReq, Election, LoopKind, MasterAck, MasterReq, MasterUp, Msite}
use Rattle.tsp_rules.specs.Values.{MsiteReq, QuitKind, Refuse, ResolveKind, SetDate, SetDateReq, SetTime, SlaveUp, Test, TraceOff, TraceOn, Taken, Good, Bad}
use Rattle.tsp_rules.specs.Values.{Message, Stamp, Request, Reply, WINDOW}
use Rattle.tsp_base.specs.Words.{MessageValue, Past, Receives, ReplyValue, Row, Seen, Leads, arms, bare}
use Rattle.tsp_base.specs.Words.{grown, nothing, others, post_of, posts, posts_back}
use Rattle.tsp_base.specs.Words.{posts_to_others, puts, either_by, reading, role, taken, time_in, ◌followed_by◌}
use Rattle.tsp_base.proofs.LeadsLemmas.{Leads_then, Leads_either, Leads_reading, Leads_nothing, Leads_puts, Leads_from}
use Rattle.tsp_rules.specs.CandidateRows.{candidate_takes, candidate_takes_kind, refused_by, yields}
use Rattle.tsp_rules.specs.CommonRows.{arms_elect, candidature_row, follow_row, tells_ticket, follows_unless, is_awake, is_idle, may_be_asked, quits}
use Rattle.tsp_rules.specs.CommonRows.{tests}
use Rattle.tsp_rules.specs.SlaveRows.{reports_conflict, masterup_in, masterack_in, election_of}
use Rattle.tsp_rules.specs.SlaveRows.{acks_repeat, confirms, adjtime_of, settime_of, from_master, slave_takes, slave_takes_kind, takes_amount, takes_value}
use Rattle.tsp_rules.specs.SlaveRows.{is_repeated}
use Rattle.tsp_rules.specs.{MasterRows.master_takes, MasterRows.master_takes_kind, MasterRows.sends_away, ResolveRows.resolves}
use Rattle.tsp_rules.specs.{ClockRows.adjusts, ClockRows.sets, DateRows.date_request_of, DateRows.date_acked}
use Rattle.tsp_rules.specs.{GateRows.loop_to, GateRows.loosens_master, GateRows.reposts, GateRows.repost, GateRows.sends_loops}
use Rattle.tsp_rules.specs.Guards.{is_heard, is_armed, is_master, is_master_at, is_own, may_back_at}
use Rattle.tsp_rules.specs.Guards.{may_stand_at, role_at}
use Rattle.tsp_rules.specs.SendRows.{acknowledges, begins, has_quit, is_free}
use Rattle.tsp_rules.specs.Answers.{from_peer, handles, handles_kind, is_left, peer_replies, peer_says, says_in, takes}
use Rattle.tsp_rules.proofs.Emits.{Acking, Counting, Correcting, Tabling, Rivalling, Sampling}
use Rattle.tsp_rules.proofs.BuiltShared.{built_acknowledges}
use Rattle.tsp_rules.proofs.BuiltAnswers.{built_date_acked, built_peer_replies}
use Rattle.tsp_rules.proofs.{BuiltRoles.built_accepted_by, BuiltRoles.built_joins, BuiltRoles.built_finds_rival}
use Rattle.tsp_progress.specs.{AlarmsFit.is_candidate, RolesLast.TookKind, RolesLast.TookOf}
use Rattle.tsp_progress.specs.Calling.{TookSome, WaitFits, is_call, is_masters}
use Rattle.tsp_progress.proofs.PortWakes.{Leads_if}
use Rattle.tsp_progress.proofs.RootArms.{arm_resolve}
use Rattle.tsp_progress.proofs.RootLeads.{Base, In, RootEnd, Rooted, any_post, any_role, is_plain}
use Rattle.tsp_progress.proofs.RootLeads.{plain}
use Rattle.tsp_progress.proofs.RootLeads.{is_vote}
use Rattle.tsp_rules.proofs.GuardFacts.{master_is, same_peer}
use Rattle.tsp_progress.proofs.RootAnswers.{back_plain, date_of_holds, named, request, said, stamped, traced}
use Rattle.tsp_progress.proofs.RootRows.{Waiting, again_root, base_root, begun_root, by_master, calm_built, does_root, drop, elects_root, follows_root}
use Rattle.tsp_progress.proofs.RootRows.{free_candidate, free_idle, posted_in, posted_root, quit_root, stands_root, told_root, yield_root}

-- what is taken

taking : (from : Place) (t : Taken) (x : ℕ) (past : Past) → Rooted past.seen → Rooted (grown x past (Took from t ∷ [])).seen
taking from t x past h = record {
  owed = (tt, h.owed);
  calls = (tt, h.calls);
  quiet = h.quiet;
  search = h.search;
  elect = h.elect;
  window = h.window;
  resolve = h.resolve;
  round = h.round;
  sends = h.sends;
  asks = h.asks;
}

abbrev pub TookFrom : Place → Taken → ℕ → Past → Type 0
TookFrom from t x past = Rooted past.seen × (taken past.seen ≡ Some (record { from = from; taken = t }))

abbrev SaidBy : PeerId → MessageValue → ℕ → Past → Type 0
SaidBy p m = TookFrom (Peer p) (Good (Message m))

just : {row : Row} (from : Place) (t : Taken) → Leads Base row Base → Leads (TookFrom from t) row Base
just from t d = Leads_from (λ x past h. h.0) d

-- a QUIT

abbrev Quitting : PeerId → ℕ → Past → Type 0
Quitting p x past = Rooted past.seen × TookOf QuitKind p past.seen

quit_calls : (p : PeerId) (before : List Seen) → TookOf QuitKind p before → TookSome is_call p before
quit_calls p before h = record { message = h.message; took = h.took; kind_is = ap is_call h.kind_is }

unless : (p : PeerId) (r : Role) → Leads (λ x past. Quitting p x past × (role_at x past ≡ r)) (follows_unless p r) Base
unfolding follows_unless
unless p (Follow q) = Leads_from (λ x past h. h.0.0) Leads_nothing
unless p Starting = follows_root p (λ x past h. quit_calls p past.seen h.0.1) (λ x past h. (h.0.0, subst (λ r. RootEnd r (Follow p) past.seen) (sym h.1) tt))
unless p Loose = follows_root p (λ x past h. quit_calls p past.seen h.0.1) (λ x past h. (h.0.0, subst (λ r. RootEnd r (Follow p) past.seen) (sym h.1) tt))
unless p Candidate = follows_root p (λ x past h. quit_calls p past.seen h.0.1) (λ x past h. (h.0.0, subst (λ r. RootEnd r (Follow p) past.seen) (sym h.1) tt))
unless p Master = follows_root p (λ x past h. quit_calls p past.seen h.0.1) (λ x past h. (h.0.0, subst (λ r. RootEnd r (Follow p) past.seen) (sym h.1) h.0.1))

quitting_keeps : (p : PeerId) (a : Act) → is_plain a ≡ true → (x : ℕ) (past : Past) →
    taken (grown x past (a ∷ [])).seen ≡ taken past.seen → Quitting p x past → Quitting p x (grown x past (a ∷ []))
quitting_keeps p a e x past same h = (
  (plain any_role a e x past (h.0, refl)).0,
  record { message = h.1.message; took = same ∙ h.1.took; kind_is = h.1.kind_is },
)

sent_away : (p : PeerId) (m : MessageValue) → m.kind ≡ QuitKind → Leads (SaidBy p m) (quits p m.number) Base
unfolding quits posts
sent_away p m kind = Leads_then {Q = Quitting p} (puts (Quit p)) (posts p Ack m.number followed_by reading role_at (follows_unless p))
    (Leads_puts (Quit p) (λ x past h. quitting_keeps p (Quit p) refl x past refl (h.0, record { message = m; took = h.1; kind_is = kind })))
    (Leads_then {Q = Quitting p} (posts p Ack m.number) (reading role_at (follows_unless p))
    (record { run = λ x past h. quitting_keeps p (post_of Ack m.number past.name p) refl x past refl h })
    (Leads_reading role_at (follows_unless p) (unless p)))

-- a port that is Loose or follows

conflict : (q : PeerId) → Leads (In is_idle) (reports_conflict q) (In is_idle)
unfolding reports_conflict
conflict q = Leads_either (is_free q) (begins Conflict q) nothing (Leads_from (λ x past h. h.0) (begun_root is_idle Conflict q refl))
    (Leads_from (λ x past h. h.0) Leads_nothing)

-- with its role, after a message of this kind
abbrev InRole : Kind → PeerId → MessageValue → Role → ℕ → Past → Type 0
InRole k p m r x past = SaidBy p m x past × ((m.kind ≡ k) × (role_at x past ≡ r))

loose_follows : (k : Kind) (p : PeerId) (m : MessageValue) → is_call k ≡ true → Leads (InRole k p m Loose) (follow_row p) Base
loose_follows k p m call = follows_root p (λ x past h. record { message = m; took = h.0.1; kind_is = ap is_call h.1.0 ∙ call })
    (λ x past h. (h.0.0, subst (λ r. RootEnd r (Follow p) past.seen) (sym h.1.1) tt))

-- a port that has just heard its master, where it has one
abbrev Minding : ℕ → Past → Type 0
Minding x past = In is_idle x past × ((q : PeerId) → role past.seen ≡ Follow q → TookSome is_masters q past.seen)

minding_waits : (r : Role) (before : List Seen) → ((q : PeerId) → r ≡ Follow q → TookSome is_masters q before) → WaitFits r before
minding_waits (Follow q) before k = inl (k q refl)
minding_waits _ before k = tt

waits : (x : ℕ) (past : Past) → Minding x past → Waiting x past
waits x past h = (h.0, minding_waits (role past.seen) past.seen h.1)

same_master : (q z : PeerId) → Follow q ≡ Follow z → q ≡ z
same_master q z e = cc

heeded : (kind : Kind) (p q : PeerId) (m : MessageValue) → is_masters kind ≡ true → (q.0 == p.0) ≡ true → (x : ℕ) (past : Past) →
    InRole kind p m (Follow q) x past → Minding x past
heeded kind p q m says same x past h = (
  (h.0.0, ap is_idle h.1.1),
  λ z is. record {
    message = m;
    took = subst (λ k. Receives past.seen k (Message m)) (sym (same_peer q p same) ∙ same_master q z (sym h.1.1 ∙ is)) h.0.1;
    kind_is = ap is_masters h.1.0 ∙ says;
  },
)

masterup : (p : PeerId) (m : MessageValue) (r : Role) → Leads (InRole MasterUp p m r) (masterup_in p r) Base
unfolding masterup_in
masterup p m Loose = loose_follows MasterUp p m refl
masterup p m (Follow q) = by_case (q.0 == p.0) refl where
  by_case : (b : Bool) → (q.0 == p.0) ≡ b → Leads (InRole MasterUp p m (Follow q)) (if b then (arms_elect followed_by tells_ticket p) else reports_conflict q)
      Base
  by_case true same = drop is_idle (Leads_from (λ x past h. waits x past (heeded MasterUp p q m refl same x past h)) (again_root p))
  by_case false other = Leads_from {Q = In is_idle} (λ x past h. (h.0.0, ap is_idle h.1.1)) (drop is_idle (conflict q))
masterup p m _ = Leads_from (λ x past h. h.0.0) Leads_nothing

masterack : (p : PeerId) (m : MessageValue) (r : Role) → Leads (InRole MasterAck p m r) (masterack_in p r) Base
unfolding masterack_in
masterack p m Loose = Leads_either (is_armed Search) (follow_row p) nothing (Leads_from (λ x past h. h.0) (loose_follows MasterAck p m refl))
    (Leads_from (λ x past h. h.0.0.0) Leads_nothing)
masterack p m (Follow q) = Leads_from {Q = In is_idle} (λ x past h. (h.0.0, ap is_idle h.1.1))
    (drop is_idle (Leads_if (q.0 == p.0) _ _ Leads_nothing (conflict q)))
masterack p m _ = Leads_from (λ x past h. h.0.0) Leads_nothing

-- for a candidate too
voting : (p : PeerId) (m : MessageValue) (r : Role) (before : List Seen) → m.kind ≡ Election → Receives before p (Message m) → WaitFits r before
voting p m (Follow q) before is took = inr (inl (record { from = p; message = m; took = took; kind_is = is }))
voting p m _ before is took = tt

votes : (p : PeerId) (m : MessageValue) → m.kind ≡ Election → Leads (λ x past. SaidBy p m x past × (is_idle (role past.seen) ≡ true))
    (election_of p m.number) Base
unfolding election_of
votes p m is = Leads_either (may_back_at p) (puts (Back p) followed_by (arms_elect followed_by posts p Accept m.number)) (posts p Refuse m.number)
    (Leads_from (λ x past h. h.0) (Leads_then {Q = Waiting} (puts (Back p)) (arms_elect followed_by posts p Accept m.number)
    (Leads_puts (Back p) (λ x past h. (plain is_idle (Back p) refl x past (h.0.0, h.1), voting p m (role past.seen) _ is h.0.1)))
    (Leads_then {Q = In is_idle} arms_elect (posts p Accept m.number) elects_root (drop is_idle (posted_root is_idle p Accept m.number refl)))))
    (Leads_from {Q = In is_idle} (λ x past h. (h.0.0.0, h.0.1)) (drop is_idle (posted_root is_idle p Refuse m.number refl)))

confirmed : (p : PeerId) (number : ℕ) → Leads Minding (confirms p number) (In is_idle)
unfolding confirms
confirmed p number = Leads_then {Q = In is_idle} arms_elect (posts p Ack number) (Leads_from waits elects_root) (posted_root is_idle p Ack number refl)

repeated : (p : PeerId) (number : ℕ) → Leads (In is_idle) (acks_repeat p number) (In is_idle)
unfolding acks_repeat
repeated p number = Leads_either (is_repeated p number) (posts p Ack number) nothing (Leads_from (λ x past h. h.0) (posted_root is_idle p Ack number refl))
    (Leads_from (λ x past h. h.0) Leads_nothing)

-- the clock moves
minds_on : (a : Act) → is_plain a ≡ true → (x : ℕ) (past : Past) → role (grown x past (a ∷ [])).seen ≡ role past.seen →
    taken (grown x past (a ∷ [])).seen ≡ taken past.seen → Minding x past → Minding x (grown x past (a ∷ []))
minds_on a e x past same took h = (
  plain is_idle a e x past h.0,
  λ q is. let t = h.1 q (sym same ∙ is) in record { message = t.message; took = took ∙ t.took; kind_is = t.kind_is },
)

adjusted : (p : PeerId) (number : ℕ) (amount : ℤ) → Leads Minding (adjtime_of p number amount) (In is_idle)
unfolding adjtime_of adjusts
adjusted p number amount = Leads_either (takes_amount number amount) (adjusts amount followed_by confirms p number) (acks_repeat p number)
    (Leads_from (λ x past h. h.0) (Leads_then {Q = Minding} (adjusts amount) (confirms p number)
    (record { run = λ x past h. minds_on _ refl x past refl refl h }) (confirmed p number)))
    (Leads_from (λ x past h. h.0.0) (repeated p number))

set_so : (p : PeerId) (number : ℕ) (value : ℤ) → Leads Minding (settime_of p number value) (In is_idle)
unfolding settime_of sets
set_so p number value = Leads_either (takes_value number value) (sets value followed_by confirms p number) (acks_repeat p number)
    (Leads_from (λ x past h. h.0) (Leads_then {Q = Minding} (sets value) (confirms p number)
    (record { run = λ x past h. minds_on _ refl x past refl refl h }) (confirmed p number)))
    (Leads_from (λ x past h. h.0.0) (repeated p number))

of_master : (k : Kind) (p : PeerId) (m : MessageValue) → is_masters k ≡ true → (row : Row) (r : Role) → Leads Minding row (In is_idle) →
    Leads (InRole k p m r) (from_master p row r) Base
unfolding from_master
of_master k p m says row (Follow q) d = by_case (q.0 == p.0) refl where
  by_case : (b : Bool) → (q.0 == p.0) ≡ b → Leads (InRole k p m (Follow q)) (if b then row else nothing) Base
  by_case true same = drop is_idle (Leads_from (heeded k p q m says same) d)
  by_case false other = Leads_from (λ x past h. h.0.0) Leads_nothing
of_master k p m says row _ d = Leads_from (λ x past h. h.0.0) Leads_nothing

acked : (p : PeerId) (number : ℕ) → Leads (In any_role) (acknowledges p number) (In any_role)
acked p number = calm_built any_role {sorts = Acking ∷ []} refl refl (built_acknowledges p number tt)

slave : (p : PeerId) (m : MessageValue) (k : Kind) → m.kind ≡ k → Leads (λ x past. SaidBy p m x past × (is_idle (role past.seen) ≡ true))
    (slave_takes_kind p m k) Base
unfolding slave_takes_kind
slave p m MasterUp is = Leads_reading role_at (masterup_in p) (λ r. Leads_from (λ x past h. (h.0.0, (is, h.1))) (masterup p m r))
slave p m MasterAck is = Leads_reading role_at (masterack_in p) (λ r. Leads_from (λ x past h. (h.0.0, (is, h.1))) (masterack p m r))
slave p m Election is = votes p m is
slave p m AdjTime is = Leads_reading role_at _ (λ r. Leads_from (λ x past h. (h.0.0, (is, h.1)))
    (of_master AdjTime p m refl (adjtime_of p m.number (time_in m.body)) r (adjusted p m.number (time_in m.body))))
slave p m SetTime is = Leads_reading role_at _ (λ r. Leads_from (λ x past h. (h.0.0, (is, h.1)))
    (of_master SetTime p m refl (settime_of p m.number (time_in m.body)) r (set_so p m.number (time_in m.body))))
slave p m QuitKind is = Leads_from (λ x past h. h.0) (sent_away p m is)
slave p m Ack is = Leads_from (λ x past h. h.0.0) (base_root (acked p m.number))
slave p m _ is = Leads_from (λ x past h. h.0.0) Leads_nothing

-- a candidate

abbrev Standing : PeerId → MessageValue → ℕ → Past → Type 0
Standing p m x past = SaidBy p m x past × (role_at x past ≡ Candidate)

candidate_follows : (p : PeerId) (m : MessageValue) → is_call m.kind ≡ true → Leads (Standing p m) (follow_row p) Base
candidate_follows p m call = follows_root p (λ x past h. record { message = m; took = h.0.1; kind_is = call }) (λ x past h. (
  h.0.0,
  subst (λ r. RootEnd r (Follow p) past.seen) (sym h.1) tt,
))

refused : (p : PeerId) (number : ℕ) → Leads (In is_candidate) (refused_by p number) Base
unfolding refused_by
refused p number = Leads_either _ (puts (Acked p) followed_by yields) nothing
    (Leads_from (λ x past h. h.0) (Leads_then {Q = In is_candidate} (puts (Acked p)) yields (does_root is_candidate (Acked p) refl)
    (yield_root (λ x past h. (h.0, free_candidate (role past.seen) Loose past.seen h.1)))))
    (Leads_from (λ x past h. h.0.0) Leads_nothing)

candidate : (p : PeerId) (m : MessageValue) (k : Kind) → m.kind ≡ k → Leads (Standing p m) (candidate_takes_kind p m k) Base
unfolding candidate_takes_kind
candidate p m MasterUp is = candidate_follows p m (ap is_call is)
candidate p m MasterAck is = candidate_follows p m (ap is_call is)
candidate p m Election is = Leads_from (λ x past h. h.0.0) (base_root (posted_root any_role p Refuse m.number refl))
candidate p m Accept is = Leads_from (λ x past h. h.0.0)
    (base_root (calm_built any_role {sorts = Acking ∷ Counting ∷ []} refl refl (built_accepted_by p m.number tt)))
candidate p m Refuse is = Leads_from {Q = In is_candidate} (λ x past h. (h.0.0, ap is_candidate h.1)) (refused p m.number)
candidate p m QuitKind is = Leads_from (λ x past h. h.0) (sent_away p m is)
candidate p m Ack is = Leads_from (λ x past h. h.0.0) (base_root (acked p m.number))
candidate p m _ is = Leads_from (λ x past h. h.0.0) Leads_nothing

-- a master

resolution : Leads (In is_master) resolves (In is_master)
unfolding resolves arms
resolution = Leads_either (is_armed ResolveAlarm) nothing (arms ResolveAlarm WINDOW followed_by posts_to_others ResolveKind 0)
    (Leads_from (λ x past h. h.0) Leads_nothing)
    (Leads_from (λ x past h. h.0) (Leads_then {Q = In is_master} (arms ResolveAlarm WINDOW) (posts_to_others ResolveKind 0)
    (record { run = λ x past h. arm_resolve (x + WINDOW) x past h }) (told_root is_master ResolveKind refl)))

sends_away_holds : (p : PeerId) → Leads (In is_master) (sends_away p) (In is_master)
unfolding sends_away
sends_away_holds p = Leads_either (has_quit p) nothing (begins QuitKind p) (Leads_from (λ x past h. h.0) Leads_nothing)
    (Leads_from (λ x past h. h.0) (quit_root p))

abbrev Mastering : PeerId → MessageValue → ℕ → Past → Type 0
Mastering p m x past = SaidBy p m x past × (role_at x past ≡ Master)

as_master : {row : Row} (p : PeerId) (m : MessageValue) → Leads (In is_master) row (In is_master) → Leads (Mastering p m) row Base
as_master p m d = Leads_from {Q = In is_master} (λ x past h. (h.0.0, ap is_master h.1)) (drop is_master d)

master : (p : PeerId) (m : MessageValue) (k : Kind) → m.kind ≡ k → Leads (Mastering p m) (master_takes_kind p m k) Base
unfolding master_takes_kind
master p m MasterReq is = as_master p m (posted_in is_master p MasterAck m.number (by_master MasterAck refl))
master p m ResolveKind is = as_master p m (posted_in is_master p MasterAck m.number (by_master MasterAck refl))
master p m SlaveUp is = as_master p m (calm_built is_master {sorts = Correcting ∷ Tabling ∷ []} refl refl (built_joins p m.number tt tt))
master p m Election is = as_master p m (sends_away_holds p)
master p m MasterUp is = as_master p m resolution
master p m Conflict is = as_master p m (Leads_then {Q = In is_master} (posts p Ack m.number) resolves (posted_root is_master p Ack m.number refl) resolution)
master p m MasterAck is = as_master p m (calm_built is_master {sorts = Rivalling ∷ []} refl refl (built_finds_rival p tt))
master p m QuitKind is = Leads_from (λ x past h. h.0) (sent_away p m is)
master p m Ack is = Leads_from (λ x past h. h.0.0) (base_root (acked p m.number))
master p m _ is = Leads_from (λ x past h. h.0.0) Leads_nothing

says : (p : PeerId) (m : MessageValue) (r : Role) → Leads (λ x past. SaidBy p m x past × (role_at x past ≡ r)) (says_in p m r) Base
unfolding says_in slave_takes candidate_takes master_takes
says p m Starting = Leads_from (λ x past h. h.0.0) Leads_nothing
says p m Loose = Leads_from (λ x past h. (h.0, ap is_idle h.1)) (slave p m m.kind refl)
says p m (Follow q) = Leads_from (λ x past h. (h.0, ap is_idle h.1)) (slave p m m.kind refl)
says p m Candidate = candidate p m m.kind refl
says p m Master = master p m m.kind refl

peer_says_holds : (m : MessageValue) (p : PeerId) → Leads (SaidBy p m) (peer_says m p) Base
unfolding peer_says
peer_says_holds m p = Leads_reading role_at (says_in p m) (says p m)

peer : (from : Place) (m : MessageValue) (row : PeerId → Row) → ((p : PeerId) → Leads (SaidBy p m) (row p) Base) →
    Leads (TookFrom from (Good (Message m))) (from_peer from row) Base
unfolding from_peer
peer (Peer p) m row d = Leads_either (is_heard p) (row p) nothing (Leads_from (λ x past h. h.0) (d p)) (Leads_from (λ x past h. h.0.0) Leads_nothing)
peer Stranger m row d = Leads_from (λ x past h. h.0) Leads_nothing

-- a TEST

abbrev Tested : ℕ → Past → Type 0
Tested x past = Rooted past.seen × TookKind Test past.seen

tested : (from : Place) (m : MessageValue) → m.kind ≡ Test → Leads (TookFrom from (Good (Message m))) (tests from m.number) Base
unfolding tests posts_back
tested from m kind = Leads_either is_awake (posts_back from Ack m.number followed_by either_by may_be_asked candidature_row nothing) nothing
    (Leads_then {Q = Tested} (posts_back from Ack m.number) (either_by may_be_asked candidature_row nothing)
    (record {
      run = λ x past h. (
        (plain any_role (Post from (Message (bare Ack m.number past.name))) (back_plain from m.number past.name) x past (h.0.0, refl)).0,
        record { from = from; message = m; took = h.0.1; kind_is = kind },
      );
    })
    (Leads_either may_be_asked candidature_row nothing
    (stands_root (λ x past h. (
      h.0.0,
      free_idle (role past.seen) Candidate past.seen (and_parts (is_idle (role past.seen)) (may_stand_at x past) h.1).0
          (inl h.0.1),
    )))
    (Leads_from (λ x past h. h.0.0) Leads_nothing)))
    (Leads_from (λ x past h. h.0.0) Leads_nothing)

-- all kinds

kinds : (charge : Bool) (from : Place) (m : MessageValue) (k : Kind) → m.kind ≡ k → Leads (TookFrom from (Good (Message m))) (handles_kind charge from m k) Base
unfolding handles_kind
kinds charge from m Msite is = just from _ (named from m.number)
kinds charge from m MsiteReq is = just from _ (said from m.number)
kinds charge from m TraceOn is = just from _ (traced from m.number true)
kinds charge from m TraceOff is = just from _ (traced from m.number false)
kinds charge from m Test is = tested from m is
kinds charge from m Date is = just from _ (date_of_holds charge from m)
kinds charge from m SetDate is = just from _ (date_of_holds charge from m)
kinds charge from m DateReq is = peer from m (date_request_of charge m) (λ p. Leads_from (λ x past h. h.0) (request charge m p))
kinds charge from m SetDateReq is = peer from m (date_request_of charge m) (λ p. Leads_from (λ x past h. h.0) (request charge m p))
kinds charge from m DateAck is = peer from m (date_acked m) (λ p. Leads_from (λ x past h. h.0)
    (base_root (calm_built any_role {sorts = Acking ∷ []} refl refl (built_date_acked m p tt))))
kinds charge from m LoopKind is = just from _ Leads_nothing
kinds charge from m _ is = peer from m (peer_says m) (peer_says_holds m)

replied : (from : Place) (r : ReplyValue) → Leads Base (from_peer from (peer_replies r)) Base
unfolding from_peer
replied (Peer p) r = Leads_either (is_heard p) (peer_replies r p) nothing
    (Leads_from (λ x past h. h.0) (base_root (calm_built any_role {sorts = Sampling ∷ []} refl refl (built_peer_replies r p tt tt))))
    (Leads_from (λ x past h. h.0) Leads_nothing)
replied Stranger r = Leads_nothing

handled : (steer charge : Bool) (from : Place) (t : Taken) → Leads (TookFrom from t) (handles steer charge from t) Base
unfolding handles
handled steer charge from (Bad fault) = just from _ Leads_nothing
handled steer charge from (Good (Message m)) = Leads_either (is_left steer m.kind) nothing (handles_kind charge from m m.kind)
    (Leads_from (λ x past h. h.0.0) Leads_nothing) (Leads_from (λ x past h. h.0) (kinds charge from m m.kind refl))
handled steer charge from (Good (Stamp (Request word counter))) = just from _ (stamped from word counter)
handled steer charge from (Good (Stamp (Reply r))) = just from _ (replied from r)

pub takes_rooted : (steer charge : Bool) (from : Place) (t : Taken) → Leads Base (takes steer charge from t) Base
unfolding takes
takes_rooted steer charge from t = Leads_then {Q = TookFrom from t} (puts (Took from t)) (either_by (is_own from) nothing (handles steer charge from t))
    (Leads_puts (Took from t) (λ x past h. (taking from t x past h, refl)))
    (Leads_either (is_own from) nothing (handles steer charge from t) (Leads_from (λ x past h. h.0.0) Leads_nothing)
    (Leads_from (λ x past h. h.0) (handled steer charge from t)))

-- LOOPs, which are for the node

pub took_rooted : (from : Place) (t : Taken) → Leads Base (puts (Took from t)) Base
took_rooted from t = Leads_puts (Took from t) (taking from t)

pub abandons_rooted : Leads Base (puts Abandon) Base
abandons_rooted = base_root (does_root any_role Abandon refl)

pub gives_up_rooted : Leads Base loosens_master Base
unfolding loosens_master
gives_up_rooted = Leads_either is_master_at yields nothing
    (yield_root (λ x past h. (h.0, subst (λ r. RootEnd r Loose past.seen) (sym (master_is (role past.seen) h.1)) tt)))
    (Leads_from (λ x past h. h.0) Leads_nothing)

pub loops_rooted : (q : Port) → Leads Base (sends_loops q) Base
unfolding sends_loops
loops_rooted q = record { run = λ x past h. each x past (others past.own past.peers) past.name h } where
  each : (x : ℕ) (past : Past) (ps : List PeerId) (name : List ℕ) → Base x past → Base x (grown x past (map (loop_to q name) ps))
  each x past [] name h = h
  each x past (p ∷ ps) name h = each x (grown x past (loop_to q name p ∷ [])) ps name (plain any_role (loop_to q name p) refl x past (h, refl)).0

pub reposts_rooted : (m : MessageValue) → m.kind ≡ LoopKind → Leads Base (reposts m) Base
unfolding reposts
reposts_rooted m is = record { run = λ x past h. each x past (others past.own past.peers) h } where
  each : (x : ℕ) (past : Past) (ps : List PeerId) → Base x past → Base x (grown x past (map (repost m) ps))
  each x past [] h = h
  each x past (p ∷ ps) h = each x (grown x past (repost m p ∷ [])) ps
      (any_post any_role p m x past (h, refl) (λ e. absurd (true≢false (sym e ∙ ap is_call is))) (λ e. absurd (true≢false (sym e ∙ ap is_vote is)))).0
