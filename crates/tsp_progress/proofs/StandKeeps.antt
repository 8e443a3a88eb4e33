-- What a port takes keeps what is said of candidates and of the quiet time; so it is so in every run.
use Rattle.std.proofs.Common.{sym, ap, inr, true≢false, ◌∙◌, ◌≡◌, ℕ, ℤ, ◌==◌, ◌&&◌, Bool, true, false, List, [], ◌∷◌}
use Rattle.std.proofs.Common.{Some, refl}
use Rattle.std.proofs.lemmas.Bool.{and_parts}
use Rattle.tsp_rules.specs.Values.{Act, Acked, Abandon, Backer, Back, Become, Boot, Quit, Took, Message, Stamp, Request, Reply, Good, Bad, Taken}
use Rattle.tsp_rules.specs.Values.{Quiet, Kind, Accept, Ack, AdjTime, Conflict, Date, DateAck, DateReq, Election, LoopKind, MasterAck, MasterReq, MasterUp}
use Rattle.tsp_rules.specs.Values.{Msite}
use Rattle.tsp_rules.specs.Values.{MsiteReq, QuitKind, Refuse, ResolveKind, SetDate, SetDateReq, SetTime, SlaveUp, Test, TraceOff, TraceOn, PeerId, Place, Peer}
use Rattle.tsp_rules.specs.Values.{Stranger, Role, Starting, Loose, Follow, Candidate, Master, QUIET, ResolveAlarm, WINDOW, Event, Port}
use Rattle.tsp_rules.specs.Answers.{from_peer, handles, handles_kind, is_left, peer_replies, peer_says, says_in, takes}
use Rattle.tsp_rules.specs.CandidateRows.{accepted_by, candidate_takes, candidate_takes_kind, refused_by, yields}
use Rattle.tsp_rules.specs.ClockRows.{adjusts, sets}
use Rattle.tsp_rules.specs.CommonRows.{arms_elect, candidature_row, follow_row, follows_unless, is_awake, is_idle, may_be_asked, quits, tells_ticket, tests}
use Rattle.tsp_rules.specs.DateRows.{date_acked, date_acked_in, date_in, date_of, date_request_in, date_request_of, has_date, is_dated, may_date, may_pass_on}
use Rattle.tsp_rules.specs.DateRows.{new_date, passes_on, sets_date_where, sets_in_charge}
use Rattle.tsp_rules.specs.GateRows.{loosens_master, reposts}
use Rattle.tsp_rules.specs.Guards.{is_armed, is_heard, is_master, is_master_at, is_own, is_starting_role, may_back_at, may_stand_at, role_at, ticket_at}
use Rattle.tsp_rules.specs.{MasterRows.master_takes, MasterRows.master_takes_kind, MasterRows.sends_away, ResolveRows.resolves}
use Rattle.tsp_rules.specs.SendRows.{acknowledges, begins, begins_timed, has_election, has_other, has_quit, next_number}
use Rattle.tsp_rules.specs.SlaveRows.{acks_repeat, adjtime_of, confirms, election_of, from_master, is_repeated, masterack_in, masterup_in, settime_of}
use Rattle.tsp_rules.specs.SlaveRows.{slave_takes, slave_takes_kind, takes_amount, takes_value}
use Rattle.tsp_base.specs.Words.{Acts, Deed, Did, HeaderValue, Here, Leads, MessageValue, Past, ReplyValue, Row, Seen, arms, either_by, grown, nothing}
use Rattle.tsp_base.specs.Words.{of, posts, posts_back, posts_time, posts_to_others, puts, reading, role, taken, time_in, timed, view, ◌followed_by◌}
use Rattle.tsp_base.proofs.LeadsLemmas.{Leads_either, Leads_from, Leads_nothing, Leads_puts, Leads_reading, Leads_then, Leads_to}
use Rattle.tsp_rules.proofs.Emits.{Correcting, Rivalling, Sampling, Tabling}
use Rattle.tsp_rules.proofs.{BuiltAnswers.built_peer_replies}
use Rattle.tsp_rules.proofs.{BuiltRoles.built_finds_rival, BuiltRoles.built_joins}
use Rattle.tsp_run.specs.Clocked.{Clocks, run_by}
use Rattle.tsp_progress.specs.{Heeds.is_candidate_role}
use Rattle.tsp_progress.proofs.{NodeKeeps.At, NodeKeeps.Family, PortWakes.Leads_if}
use Rattle.tsp_progress.proofs.RunKeeps.{Lasts, of_port, runs_last, starting_port}
use Rattle.tsp_base.specs.Words.{bare, for_each, held, may_back, others}
use Rattle.std.proofs.Common.{map, ◌⊎◌, inl}
use Rattle.tsp_rules.specs.Values.{Post}
use Rattle.tsp_rules.specs.GateRows.{sends_loops}
use Rattle.tsp_base.proofs.LeadsLemmas.{Leads_each}
use Rattle.tsp_rules.specs.Values.{Leave, Trace}
use Rattle.tsp_rules.specs.CommonRows.{master_name, names_master, posts_reply, replies, says_master, traces}
use Rattle.tsp_rules.specs.DateRows.{leaves, leaves_all}
use Rattle.tsp_rules.specs.Guards.{is_in_range, table_at}
use Rattle.tsp_rules.specs.GateRows.{loop_to, repost}
use Rattle.tsp_progress.proofs.StandActs.{back_calm, posted_back, MayFollow, arms_quiet, calls_off, is_calm, is_peer, may_follow, none_rest, yields_now, Apart}
use Rattle.tsp_progress.proofs.StandActs.{In, Keeping, KeepsAt}
use Rattle.tsp_progress.proofs.StandActs.{Other, Pending, Sound, StandFits, Tested, Up}
use Rattle.tsp_progress.proofs.StandActs.{arms_resolve, built, calm, calm_sound, calm_up, elects, follow, in_other}
use Rattle.tsp_progress.proofs.StandActs.{in_up, is_refusal, pending, posted, posted_up, refused, refuses_kind, settled}
use Rattle.tsp_progress.proofs.StandActs.{stands}
use Rattle.tsp_progress.proofs.StandActs.{to_others, yield}
use Rattle.tsp_progress.proofs.StandAlarms.{begun_other, conflict, rung, sends, sends_other}

-- the step has just taken this of there
pub record JustTook (from : Place) (t : Taken) (x : ℕ) (past : Past) : Type 0 where
  pub sound : Sound past.seen
  pub took : Did
  pub rest : List Seen
  pub is : past.seen ≡ Here took ∷ rest
  pub deed : took.deed ≡ Acts (Took from t)
  pub now : took.step ≡ past.step
  pub at : took.tick ≡ x
  pub taken_is : taken past.seen ≡ Some (record { from = from; taken = t })

just : {row : Row} (from : Place) (t : Taken) → Leads Keeping row Keeping → Leads (JustTook from t) row Keeping
just from t d = Leads_from (λ x past h. h.sound) d

-- the same of a message of a peer, at a port of this role
abbrev Heard : PeerId → MessageValue → Role → ℕ → Past → Type 0
Heard p m r x past = JustTook (Peer p) (Good (Message m)) x past × (role past.seen ≡ r)

heard_in : (p : PeerId) (m : MessageValue) (r : Role) (x : ℕ) (past : Past) → Heard p m r x past → In r x past
heard_in p m r x past h = (h.0.sound, h.1)

-- an Acked, in a step that took no REFUSE
acked : (p : PeerId) (x : ℕ) (past : Past) → Sound past.seen → refused (taken past.seen) ≡ false → Sound (grown x past (Acked p ∷ [])).seen
acked p x past h none = record { kept = (settled past h (Acts (Acked p)) _ tt, h.kept); rest = h.rest; free = rw none refl }

no_refusal : (from : Place) (t : Taken) → is_refusal t ≡ false → (is_peer from && is_refusal t) ≡ false
no_refusal (Peer p) t e = e
no_refusal Stranger t e = refl

unrefused : (from : Place) (t : Taken) (x : ℕ) (past : Past) → JustTook from t x past → is_refusal t ≡ false → refused (taken past.seen) ≡ false
unrefused from t x past h e = ap refused h.taken_is ∙ no_refusal from t e

acknowledged : (p : PeerId) (number : ℕ) (from : Place) (t : Taken) → is_refusal t ≡ false → Leads (JustTook from t) (acknowledges p number) Keeping
unfolding acknowledges
acknowledged p number from t e = Leads_either (has_other p number) (puts (Acked p)) nothing
    (Leads_puts (Acked p) (λ x past h. acked p x past h.0.sound (unrefused from t x past h.0 e))) (Leads_from (λ x past h. h.0.sound) Leads_nothing)

tells_up : (p : PeerId) → Leads Up (tells_ticket p) Up
unfolding tells_ticket
tells_up p = Leads_reading ticket_at (posts p SlaveUp) (λ n. Leads_from (λ x past h. h.0) (posted_up p SlaveUp n refl))

unless : (p : PeerId) (r : Role) → Leads (MayFollow p) (follows_unless p r) Keeping
unfolding follows_unless
unless p (Follow q) = Leads_from (λ x past h. h.sound) Leads_nothing
unless p _ = follow p

-- a candidate that takes this may follow its sender
called_off : (p : PeerId) (m : MessageValue) → calls_off m.kind ≡ true → (x : ℕ) (past : Past) → JustTook (Peer p) (Good (Message m)) x past →
    MayFollow p x past
called_off p m is x past h = record { sound = h.sound; why = λ e. record { message = m; took = h.taken_is; kind = is } }

quit : (p : PeerId) (m : MessageValue) → m.kind ≡ QuitKind → Leads (JustTook (Peer p) (Good (Message m))) (quits p m.number) Keeping
unfolding quits posts
quit p m is = Leads_then {Q = MayFollow p} (puts (Quit p)) (posts p Ack m.number followed_by reading role_at (follows_unless p))
    (Leads_puts (Quit p) (λ x past h. record {
      sound = calm_sound (Quit p) refl x past h.sound;
      why = λ e. record { message = m; took = h.taken_is; kind = ap calls_off is };
    }))
    (Leads_then {Q = MayFollow p} (posts p Ack m.number) (reading role_at (follows_unless p)) (record {
      run = λ x past h. record {
        sound = calm_sound _ refl x past h.sound;
        why = λ e. let k = h.why e in
            record { message = k.message; took = k.took; kind = k.kind };
      };
    })
    (Leads_reading role_at (follows_unless p) (λ r. Leads_from (λ x past h. h.0) (unless p r))))

-- a port that is Loose or follows
elects_then : {row : Row} → Leads Up row Up → Leads Up (arms_elect followed_by row) Keeping
elects_then {row} d = Leads_then {Q = Up} arms_elect row elects (Leads_to (λ x past h. h.0) d)

masterup : (p : PeerId) (r : Role) → Leads (In r) (masterup_in p r) Keeping
unfolding masterup_in
masterup p Loose = Leads_from (λ x past h. may_follow p x past (in_other Loose refl x past h)) (follow p)
masterup p (Follow q) = Leads_if (q.0 == p.0) _ _ (Leads_from (in_up (Follow q) refl refl) (elects_then (tells_up p)))
    (Leads_from (in_other (Follow q) refl) (conflict q))
masterup p _ = Leads_from (λ x past h. h.0) Leads_nothing

masterack : (p : PeerId) (r : Role) → Leads (In r) (masterack_in p r) Keeping
unfolding masterack_in
masterack p Loose = Leads_either _ (follow_row p) nothing (Leads_from (λ x past h. may_follow p x past (in_other Loose refl x past h.0)) (follow p))
    (Leads_from (λ x past h. h.0.0) Leads_nothing)
masterack p (Follow q) = Leads_if (q.0 == p.0) _ _ (Leads_from (λ x past h. h.0) Leads_nothing) (Leads_from (in_other (Follow q) refl) (conflict q))
masterack p _ = Leads_from (λ x past h. h.0) Leads_nothing

-- a candidate, or who holds another one, refuses
refuse_post : (p : PeerId) (m : MessageValue) → m.kind ≡ Election → (x : ℕ) (past : Past) → JustTook (Peer p) (Good (Message m)) x past →
    (role past.seen ≡ Candidate) ⊎ (may_back (held past.seen) x p ≡ false) →
    Keeping x (grown x past (Post (Peer p) (Message (bare Refuse m.number past.name)) ∷ []))
refuse_post p m is x past h why = record {
  kept = (
    settled past h.sound (Acts (Post (Peer p) (Message (bare Refuse m.number past.name)))) _ (
      λ own. absurd (true≢false (sym own)),
      λ refuses. inl (record {
        took = h.took;
        rest = h.rest;
        is = h.is;
        message = m;
        deed = h.deed;
        kind = is;
        step = h.now;
        now = h.at;
        unable = unable;
      }),
    ),
    h.sound.kept,
  );
  rest = h.sound.rest;
  free = refl;
} where
  same_role : role past.seen ≡ role h.rest
  same_role = ap role h.is ∙ (let deed = h.deed in rw deed refl)

  same_held : held past.seen ≡ held h.rest
  same_held = ap held h.is ∙ (let deed = h.deed in rw deed refl)

  unable : (role h.rest ≡ Candidate) ⊎ (may_back (held h.rest) x p ≡ false)
  unable = elim why [
    | inl e ↦ inl (sym same_role ∙ e)
    | inr e ↦ inr (ap (λ k. may_back k x p) (sym same_held) ∙ e)
  ]

election : (p : PeerId) (m : MessageValue) → m.kind ≡ Election → (r : Role) → is_starting_role r ≡ false → is_candidate_role r ≡ false →
    Leads (Heard p m r) (election_of p m.number) Keeping
unfolding election_of posts
election p m is r up out = Leads_either (may_back_at p) (puts (Back p) followed_by (arms_elect followed_by posts p Accept m.number)) (posts p Refuse m.number)
    (Leads_from (λ x past h. in_up r up out x past (heard_in p m r x past h.0)) (Leads_then {Q = Up} (puts (Back p))
    (arms_elect followed_by posts p Accept m.number) (calm_up (Back p) refl) (elects_then (posted_up p Accept m.number refl))))
    (record { run = λ x past h. refuse_post p m is x past h.0.0 (inr h.1) })

confirm : (p : PeerId) (number : ℕ) → Leads Up (confirms p number) Keeping
unfolding confirms
confirm p number = elects_then (posted_up p Ack number refl)

again : (p : PeerId) (number : ℕ) → Leads Keeping (acks_repeat p number) Keeping
unfolding acks_repeat
again p number = Leads_either (is_repeated p number) (posts p Ack number) nothing (Leads_from (λ x past h. h.0) (posted p Ack number refl))
    (Leads_from (λ x past h. h.0) Leads_nothing)

adjust : (p : PeerId) (number : ℕ) (amount : ℤ) → Leads Up (adjtime_of p number amount) Keeping
unfolding adjtime_of adjusts
adjust p number amount = Leads_either (takes_amount number amount) (adjusts amount followed_by confirms p number) (acks_repeat p number)
    (Leads_from (λ x past h. h.0) (Leads_then {Q = Up} (adjusts amount) (confirms p number)
    (record { run = λ x past h. (calm_sound _ refl x past h.0, h.1) }) (confirm p number)))
    (Leads_from (λ x past h. h.0.0) (again p number))

set : (p : PeerId) (number : ℕ) (value : ℤ) → Leads Up (settime_of p number value) Keeping
unfolding settime_of sets
set p number value = Leads_either (takes_value number value) (sets value followed_by confirms p number) (acks_repeat p number)
    (Leads_from (λ x past h. h.0) (Leads_then {Q = Up} (sets value) (confirms p number)
    (record { run = λ x past h. (calm_sound _ refl x past h.0, h.1) }) (confirm p number)))
    (Leads_from (λ x past h. h.0.0) (again p number))

from_master_holds : (p : PeerId) (row : Row) → Leads Up row Keeping → (r : Role) → Leads Up (from_master p row r) Keeping
unfolding from_master
from_master_holds p row d (Follow q) = Leads_if (q.0 == p.0) row nothing d (Leads_from (λ x past h. h.0) Leads_nothing)
from_master_holds p row d _ = Leads_from (λ x past h. h.0) Leads_nothing

slave : (p : PeerId) (m : MessageValue) (k : Kind) → m.kind ≡ k → (r : Role) → is_starting_role r ≡ false → is_candidate_role r ≡ false →
    Leads (Heard p m r) (slave_takes_kind p m k) Keeping
unfolding slave_takes_kind
slave p m MasterUp is r up out = Leads_reading role_at (masterup_in p) (λ r. Leads_from (λ x past h. (h.0.0.sound, h.1)) (masterup p r))
slave p m MasterAck is r up out = Leads_reading role_at (masterack_in p) (λ r. Leads_from (λ x past h. (h.0.0.sound, h.1)) (masterack p r))
slave p m Election is r up out = election p m is r up out
slave p m AdjTime is r up out = Leads_reading role_at _ (λ s. Leads_from (λ x past h. in_up r up out x past (heard_in p m r x past h.0))
    (from_master_holds p _ (adjust p m.number (time_in m.body)) s))
slave p m SetTime is r up out = Leads_reading role_at _ (λ s. Leads_from (λ x past h. in_up r up out x past (heard_in p m r x past h.0))
    (from_master_holds p _ (set p m.number (time_in m.body)) s))
slave p m QuitKind is r up out = Leads_from (λ x past h. h.0) (quit p m is)
slave p m Ack is r up out = Leads_from (λ x past h. h.0) (acknowledged p m.number (Peer p) (Good (Message m)) (ap refuses_kind is))
slave p m _ is r up out = Leads_from (λ x past h. h.0.sound) Leads_nothing

-- a candidate
accepted : (p : PeerId) (m : MessageValue) → m.kind ≡ Accept → Leads (JustTook (Peer p) (Good (Message m))) (accepted_by p m.number) Keeping
unfolding accepted_by
accepted p m is = Leads_either (has_election p m.number) (puts (Acked p) followed_by puts (Backer p)) nothing
    (Leads_then {Q = Keeping} (puts (Acked p)) (puts (Backer p))
    (Leads_puts (Acked p) (λ x past h. acked p x past h.0.sound (unrefused (Peer p) (Good (Message m)) x past h.0 (ap refuses_kind is))))
    (calm (Backer p) refl))
    (Leads_from (λ x past h. h.0.sound) Leads_nothing)

refused_now : (p : PeerId) (m : MessageValue) → m.kind ≡ Refuse → (x : ℕ) (past : Past) → JustTook (Peer p) (Good (Message m)) x past → role past.seen ≡
    Candidate → yields_now (grown x past (Acked p ∷ [])).seen ≡ true
refused_now p m is x past h stands =
    let taken = h.taken_is in
    rw (taken, is, stands) refl

refusal : (p : PeerId) (m : MessageValue) → m.kind ≡ Refuse → Leads (JustTook (Peer p) (Good (Message m))) (refused_by p m.number) Keeping
unfolding refused_by
refusal p m is = Leads_either (has_election p m.number) (puts (Acked p) followed_by yields) nothing
    (Leads_then {Q = Pending} (puts (Acked p)) yields (Leads_puts (Acked p) (λ x past h. record {
      kept = (settled past h.0.sound (Acts (Acked p)) _ tt, h.0.sound.kept);
      rest = h.0.sound.rest;
      why = λ e. inr (refused_now p m is x past h.0 e);
    })) yield)
    (Leads_from (λ x past h. h.0.sound) Leads_nothing)

refusing : (p : PeerId) (m : MessageValue) → m.kind ≡ Election → Leads (Heard p m Candidate) (posts p Refuse m.number) Keeping
unfolding posts
refusing p m is = record { run = λ x past h. refuse_post p m is x past h.0 (inl h.1) }

candidate : (p : PeerId) (m : MessageValue) (k : Kind) → m.kind ≡ k → Leads (Heard p m Candidate) (candidate_takes_kind p m k) Keeping
unfolding candidate_takes_kind
candidate p m MasterUp is = Leads_from (λ x past h. called_off p m (ap calls_off is) x past h.0) (follow p)
candidate p m MasterAck is = Leads_from (λ x past h. called_off p m (ap calls_off is) x past h.0) (follow p)
candidate p m Election is = refusing p m is
candidate p m Accept is = Leads_from (λ x past h. h.0) (accepted p m is)
candidate p m Refuse is = Leads_from (λ x past h. h.0) (refusal p m is)
candidate p m QuitKind is = Leads_from (λ x past h. h.0) (quit p m is)
candidate p m Ack is = Leads_from (λ x past h. h.0) (acknowledged p m.number (Peer p) (Good (Message m)) (ap refuses_kind is))
candidate p m _ is = Leads_from (λ x past h. h.0.sound) Leads_nothing

-- a master
resolve : Leads Other resolves Keeping
unfolding resolves
resolve = Leads_either (is_armed ResolveAlarm) nothing (arms ResolveAlarm WINDOW followed_by posts_to_others ResolveKind 0)
    (Leads_from (λ x past h. h.0.0) Leads_nothing)
    (Leads_from (λ x past h. h.0) (Leads_then {Q = Keeping} (arms ResolveAlarm WINDOW) (posts_to_others ResolveKind 0) arms_resolve
    (to_others ResolveKind refl)))

away : (p : PeerId) → Leads Other (sends_away p) Keeping
unfolding sends_away
away p = Leads_either (has_quit p) nothing (begins QuitKind p) (Leads_from (λ x past h. h.0.0) Leads_nothing)
    (Leads_from (λ x past h. h.0) (Leads_to (λ x past h. h.0) (begun_other QuitKind p refl)))

posted_other : (p : PeerId) (number : ℕ) → Leads Other (posts p Ack number) Other
unfolding posts
posted_other p number = record { run = λ x past h. (calm_sound _ refl x past h.0, h.1) }

joining : Apart (Correcting ∷ Tabling ∷ [])
joining = record {
  booting = refl;
  leading = refl;
  following = refl;
  changing = refl;
  alarming = refl;
  acking = refl;
  numbering = refl;
  passing = refl;
  posting = refl;
}

rivalling : Apart (Rivalling ∷ [])
rivalling = record {
  booting = refl;
  leading = refl;
  following = refl;
  changing = refl;
  alarming = refl;
  acking = refl;
  numbering = refl;
  passing = refl;
  posting = refl;
}

master : (p : PeerId) (m : MessageValue) (k : Kind) → m.kind ≡ k → Leads (Heard p m Master) (master_takes_kind p m k) Keeping
unfolding master_takes_kind
master p m MasterReq is = Leads_from (λ x past h. h.0.sound) (posted p MasterAck m.number refl)
master p m ResolveKind is = Leads_from (λ x past h. h.0.sound) (posted p MasterAck m.number refl)
master p m SlaveUp is = Leads_from (λ x past h. h.0.sound) (built {sorts = Correcting ∷ Tabling ∷ []} refl joining (built_joins p m.number tt tt))
master p m Election is = Leads_from (λ x past h. in_other Master refl x past (heard_in p m Master x past h)) (away p)
master p m MasterUp is = Leads_from (λ x past h. in_other Master refl x past (heard_in p m Master x past h)) resolve
master p m Conflict is = Leads_from (λ x past h. in_other Master refl x past (heard_in p m Master x past h))
    (Leads_then {Q = Other} (posts p Ack m.number) resolves (posted_other p m.number) resolve)
master p m MasterAck is = Leads_from (λ x past h. h.0.sound) (built {sorts = Rivalling ∷ []} refl rivalling (built_finds_rival p tt))
master p m QuitKind is = Leads_from (λ x past h. h.0) (quit p m is)
master p m Ack is = Leads_from (λ x past h. h.0) (acknowledged p m.number (Peer p) (Good (Message m)) (ap refuses_kind is))
master p m _ is = Leads_from (λ x past h. h.0.sound) Leads_nothing

says : (p : PeerId) (m : MessageValue) (r : Role) → Leads (Heard p m r) (says_in p m r) Keeping
unfolding says_in slave_takes candidate_takes master_takes
says p m Starting = Leads_from (λ x past h. h.0.sound) Leads_nothing
says p m Loose = slave p m m.kind refl Loose refl refl
says p m (Follow q) = slave p m m.kind refl (Follow q) refl refl
says p m Candidate = candidate p m m.kind refl
says p m Master = master p m m.kind refl

-- dates
-- a date is set
dated_anew : (from : Place) (number : ℕ) (time : ℤ) → Leads Keeping (new_date from number time) Keeping
unfolding new_date leaves_all leaves sets
dated_anew from number time = Leads_then {Q = Keeping} (sets time) _ (record { run = λ x past h. calm_sound _ refl x past h })
    (Leads_then {Q = Keeping} (posts_back from DateAck number) _ (posted_back from DateAck number refl)
    (Leads_then {Q = Keeping} (reading table_at (for_each (λ p. puts (Leave p)))) (posts_to_others MasterUp 0)
    (Leads_reading table_at (for_each (λ p. puts (Leave p))) (λ ps. Leads_from (λ x past h. h.0)
    (Leads_each (λ p. puts (Leave p)) ps (λ p. calm (Leave p) refl))))
    (to_others MasterUp refl)))

date_where : (from : Place) (number : ℕ) (time : ℤ) → Leads Keeping (sets_date_where from number time) Keeping
unfolding sets_date_where
date_where from number time = Leads_either (may_date time) (new_date from number time) nothing
    (Leads_from (λ x past h. h.0) (dated_anew from number time))
    (Leads_from (λ x past h. h.0) Leads_nothing)

passed : (from : Place) (q : PeerId) (number : ℕ) (time : ℤ) → Leads Other (passes_on from q number time) Keeping
unfolding passes_on posts_back begins_timed posts_time
passed from q number time = Leads_either (may_pass_on q) (posts_back from Ack number followed_by begins_timed SetDateReq q time) nothing
    (Leads_from (λ x past h. h.0) (Leads_then {Q = Other} (posts_back from Ack number) (begins_timed SetDateReq q time)
    (by-place from)
    (Leads_reading next_number (λ n. posts_time q SetDateReq n time) (λ n. record {
      run = λ x past h. (sends_other q (timed SetDateReq n time past.name) refl x past h.0).0;
    }))))
    (Leads_from (λ x past h. h.0.0) Leads_nothing)
  where
    by-place : (from : Place) → Leads Other (posts_back from Ack number) Other
    by-place (Peer p) = record { run = λ x past h. (calm_sound _ refl x past h.0, h.1) }
    by-place Stranger = record { run = λ x past h. (calm_sound _ refl x past h.0, h.1) }

date_in_holds : (from : Place) (number : ℕ) (time : ℤ) (r : Role) → Leads (In r) (date_in from number time r) Keeping
unfolding date_in
date_in_holds from number time (Follow q) = Leads_from (in_other (Follow q) refl) (passed from q number time)
date_in_holds from number time Master = Leads_from (λ x past h. h.0) (date_where from number time)
date_in_holds from number time _ = Leads_from (λ x past h. h.0) Leads_nothing

date_of_holds : (charge : Bool) (from : Place) (m : MessageValue) → Leads Keeping (date_of charge from m) Keeping
unfolding date_of
date_of_holds true from m = Leads_reading role_at (date_in from m.number (time_in m.body)) (λ r. date_in_holds from m.number (time_in m.body) r)
date_of_holds false from m = Leads_nothing

in_charge : (charge : Bool) (p : PeerId) (m : MessageValue) → Leads Keeping (sets_in_charge charge p m) Keeping
unfolding sets_in_charge
in_charge true p m = date_where (Peer p) m.number (time_in m.body)
in_charge false p m = Leads_nothing

request_in : (charge : Bool) (m : MessageValue) (p : PeerId) (r : Role) → Leads Keeping (date_request_in charge m p r) Keeping
unfolding date_request_in
request_in charge m p Master = Leads_either (is_dated p m.number) (posts p DateAck m.number) (sets_in_charge charge p m)
    (Leads_from (λ x past h. h.0) (posted p DateAck m.number refl)) (Leads_from (λ x past h. h.0) (in_charge charge p m))
request_in charge m p _ = Leads_nothing

request : (charge : Bool) (m : MessageValue) (p : PeerId) → Leads Keeping (date_request_of charge m p) Keeping
unfolding date_request_of
request charge m p = Leads_reading role_at (date_request_in charge m p) (λ r. Leads_from (λ x past h. h.0) (request_in charge m p r))

date_acked_holds : (m : MessageValue) (p : PeerId) (r : Role) → m.kind ≡ DateAck → Leads (JustTook (Peer p) (Good (Message m))) (date_acked_in m p r) Keeping
unfolding date_acked_in
date_acked_holds m p (Follow q) is = Leads_either (has_date p m.number) (puts (Acked p)) nothing
    (Leads_puts (Acked p) (λ x past h. acked p x past h.0.sound (unrefused (Peer p) (Good (Message m)) x past h.0 (ap refuses_kind is))))
    (Leads_from (λ x past h. h.0.sound) Leads_nothing)
date_acked_holds m p _ is = just (Peer p) _ Leads_nothing

dated : (m : MessageValue) (p : PeerId) → m.kind ≡ DateAck → Leads (JustTook (Peer p) (Good (Message m))) (date_acked m p) Keeping
unfolding date_acked
dated m p is = Leads_reading role_at (date_acked_in m p) (λ r. Leads_from (λ x past h. h.0) (date_acked_holds m p r is))

-- somebody asks the port to stand
abbrev Asked : ℕ → Past → Type 0
Asked x past = Sound past.seen × Tested past.step past.seen

idle_role : (r : Role) → is_idle r ≡ true → is_candidate_role r ≡ false
idle_role Candidate e = absurd (true≢false (sym e))
idle_role _ e = refl

idle_other : (x : ℕ) (past : Past) → may_be_asked x past ≡ true → is_candidate_role (role past.seen) ≡ false
idle_other x past e = idle_role (role past.seen) (and_parts (is_idle (role past.seen)) (may_stand_at x past) e).0

called : (from : Place) (m : MessageValue) → m.kind ≡ Test → (a : Act) → is_calm a ≡ true → (x : ℕ) (past : Past) →
    JustTook from (Good (Message m)) x past → Asked x (grown x past (a ∷ []))
called from m is a quiet x past h = (
  calm_sound a quiet x past h.sound,
  record {
    ack = record { step = past.step; tick = x; deed = Acts a };
    took = h.took;
    rest = h.rest;
    is = ap (λ s. Here (record { step = past.step; tick = x; deed = Acts a }) ∷ s) h.is;
    from = from;
    message = m;
    deed = h.deed;
    kind = is;
    now = h.now;
  },
)

acked_test : (from : Place) (m : MessageValue) → m.kind ≡ Test → Leads (JustTook from (Good (Message m))) (posts_back from Ack m.number) Asked
unfolding posts_back
acked_test (Peer p) m is = record { run = λ x past h. called (Peer p) m is _ refl x past h }
acked_test Stranger m is = record { run = λ x past h. called Stranger m is _ refl x past h }

tested : (from : Place) (m : MessageValue) → m.kind ≡ Test → Leads (JustTook from (Good (Message m))) (tests from m.number) Keeping
unfolding tests posts_back
tested from m is = Leads_either is_awake (posts_back from Ack m.number followed_by either_by may_be_asked candidature_row nothing) nothing
    (Leads_from (λ x past h. h.0) (Leads_then {Q = Asked} (posts_back from Ack m.number) (either_by may_be_asked candidature_row nothing)
    (acked_test from m is)
    (Leads_either may_be_asked candidature_row nothing (Leads_from (λ x past h. ((h.0.0, idle_other x past h.1), inr h.0.1)) stands)
    (Leads_from (λ x past h. h.0.0) Leads_nothing))))
    (Leads_from (λ x past h. h.0.sound) Leads_nothing)

-- what is taken
peer : (from : Place) (m : MessageValue) (row : PeerId → Row) → ((p : PeerId) → Leads (JustTook (Peer p) (Good (Message m))) (row p) Keeping) →
    Leads (JustTook from (Good (Message m))) (from_peer from row) Keeping
unfolding from_peer
peer (Peer p) m row d = Leads_either (is_heard p) (row p) nothing (Leads_from (λ x past h. h.0) (d p)) (Leads_from (λ x past h. h.0.sound) Leads_nothing)
peer Stranger m row d = Leads_from (λ x past h. h.sound) Leads_nothing

peer_says_holds : (m : MessageValue) (p : PeerId) → Leads (JustTook (Peer p) (Good (Message m))) (peer_says m p) Keeping
unfolding peer_says
peer_says_holds m p = Leads_reading role_at (says_in p m) (λ r. says p m r)

sampling : Apart (Sampling ∷ [])
sampling = record {
  booting = refl;
  leading = refl;
  following = refl;
  changing = refl;
  alarming = refl;
  acking = refl;
  numbering = refl;
  passing = refl;
  posting = refl;
}

named : (from : Place) (number : ℕ) → Leads Keeping (names_master from number) Keeping
unfolding names_master
named from number = Leads_reading master_name (λ name. puts (Post from (Message (bare Ack number name)))) (λ name. Leads_from (λ x past h. h.0)
    (calm (Post from (Message (bare Ack number name))) (back_calm from Ack number name refl)))

said : (from : Place) (number : ℕ) → Leads Keeping (says_master from number) Keeping
unfolding says_master
said from number = Leads_either is_master_at (posts_back from Ack number) nothing (Leads_from (λ x past h. h.0) (posted_back from Ack number refl))
    (Leads_from (λ x past h. h.0) Leads_nothing)

traced : (from : Place) (number : ℕ) (on : Bool) → Leads Keeping (traces from number on) Keeping
unfolding traces
traced from number on = Leads_then {Q = Keeping} (puts (Trace on)) (posts_back from Ack number) (calm (Trace on) refl) (posted_back from Ack number refl)

stamp_calm : (from : Place) (r : ReplyValue) → is_calm (Post from (Stamp (Reply r))) ≡ true
stamp_calm (Peer p) r = refl
stamp_calm Stranger r = refl

stamped : (from : Place) (word counter : ℕ) → Leads Keeping (replies from word counter) Keeping
unfolding replies posts_reply
stamped from word counter = Leads_either is_in_range (posts_reply from word counter) nothing
    (record { run = λ x past h. calm_sound _ (stamp_calm from _) x past h.0 }) (Leads_from (λ x past h. h.0) Leads_nothing)

kinds : (charge : Bool) (from : Place) (m : MessageValue) (k : Kind) → m.kind ≡ k → Leads (JustTook from (Good (Message m))) (handles_kind charge from m k)
    Keeping
unfolding handles_kind
kinds charge from m Msite is = just from _ (named from m.number)
kinds charge from m MsiteReq is = just from _ (said from m.number)
kinds charge from m TraceOn is = just from _ (traced from m.number true)
kinds charge from m TraceOff is = just from _ (traced from m.number false)
kinds charge from m Test is = tested from m is
kinds charge from m Date is = just from _ (date_of_holds charge from m)
kinds charge from m SetDate is = just from _ (date_of_holds charge from m)
kinds charge from m DateReq is = peer from m (date_request_of charge m) (λ p. just (Peer p) _ (request charge m p))
kinds charge from m SetDateReq is = peer from m (date_request_of charge m) (λ p. just (Peer p) _ (request charge m p))
kinds charge from m DateAck is = peer from m (date_acked m) (λ p. dated m p is)
kinds charge from m LoopKind is = just from _ Leads_nothing
kinds charge from m _ is = peer from m (peer_says m) (peer_says_holds m)

replied : (from : Place) (r : ReplyValue) → Leads Keeping (from_peer from (peer_replies r)) Keeping
unfolding from_peer
replied (Peer p) r = Leads_either (is_heard p) (peer_replies r p) nothing
    (Leads_from (λ x past h. h.0) (built {sorts = Sampling ∷ []} refl sampling (built_peer_replies r p tt tt))) (Leads_from (λ x past h. h.0) Leads_nothing)
replied Stranger r = Leads_nothing

handled : (steer charge : Bool) (from : Place) (t : Taken) → Leads (JustTook from t) (handles steer charge from t) Keeping
unfolding handles
handled steer charge from (Bad fault) = just from _ Leads_nothing
handled steer charge from (Good (Message m)) = Leads_either (is_left steer m.kind) nothing (handles_kind charge from m m.kind)
    (Leads_from (λ x past h. h.0.sound) Leads_nothing) (Leads_from (λ x past h. h.0) (kinds charge from m m.kind refl))
handled steer charge from (Good (Stamp (Request word counter))) = just from _ (stamped from word counter)
handled steer charge from (Good (Stamp (Reply r))) = just from _ (replied from r)

took : (steer charge : Bool) (from : Place) (t : Taken) → Leads Keeping (takes steer charge from t) Keeping
unfolding takes
took steer charge from t = Leads_then {Q = JustTook from t} (puts (Took from t)) (either_by (is_own from) nothing (handles steer charge from t))
    (Leads_puts (Took from t) (λ x past h. record {
      sound = calm_sound (Took from t) refl x past h;
      took = record { step = past.step; tick = x; deed = Acts (Took from t) };
      rest = past.seen;
      is = refl;
      deed = refl;
      now = refl;
      at = refl;
      taken_is = refl;
    }))
    (Leads_either (is_own from) nothing (handles steer charge from t) (Leads_from (λ x past h. h.0.sound) Leads_nothing)
    (Leads_from (λ x past h. h.0) (handled steer charge from t)))

-- a node
settled_at : (seen : List Seen) → Sound seen → (deed : Deed) (here : Did) → StandFits deed here seen → KeepsAt deed here seen
settled_at seen h deed here fits = record { rest = h.rest; next = λ y. absurd (true≢false (sym y ∙ h.free)); fits = fits }

leads_other : (r : Role) → is_master r ≡ true → is_candidate_role r ≡ false
leads_other Candidate e = absurd (true≢false (sym e))
leads_other _ e = refl

gives_up_holds : Leads Keeping loosens_master Keeping
unfolding loosens_master
gives_up_holds = Leads_either is_master_at yields nothing (Leads_from (λ x past h. pending x past (h.0, leads_other (role past.seen) h.1)) yield)
    (Leads_from (λ x past h. h.0) Leads_nothing)

family : Family (of_port Sound)
family = record {
  boots = λ m step x seen h. record {
    kept = (settled_at seen h (Acts Boot) _ tt, h.kept);
    rest = none_rest _;
    free = refl;
  };
  aside = λ m d x seen h. record { kept = (h.free, h.kept); rest = h.rest; free = refl };
}

-- LOOPs
each_calm : (f : PeerId → Act) → ((p : PeerId) → is_calm (f p) ≡ true) → (x : ℕ) (past : Past) (ps : List PeerId) → Keeping x past →
    Keeping x (grown x past (map f ps))
each_calm f e x past [] h = h
each_calm f e x past (p ∷ ps) h = each_calm f e x (grown x past (f p ∷ [])) ps (calm_sound (f p) (e p) x past h)

looped : (m : MessageValue) → m.kind ≡ LoopKind → Leads Keeping (reposts m) Keeping
unfolding reposts
looped m is = record { run = λ x past h. each_calm (repost m) (λ p. rw is refl) x past (others past.own past.peers) h }

loops : (q : Port) → Leads Keeping (sends_loops q) Keeping
unfolding sends_loops
loops q = record { run = λ x past h. each_calm (loop_to q past.name) (λ p. refl) x past (others past.own past.peers) h }

starts : Leads (At (starting_port Sound)) (puts (Become Starting) followed_by arms Quiet QUIET) (At (starting_port Sound))
starts = Leads_then {Q = In Starting} (puts (Become Starting)) (arms Quiet QUIET)
    (Leads_puts (Become Starting) (λ x past h. (
      record {
        kept = (settled past h.0 (Acts (Become Starting)) _ h.1, h.0.kept);
        rest = none_rest _;
        free = refl;
      },
      refl,
    )))
    arms_quiet

lasts : Lasts Sound
lasts = record {
  none = record {
    kept = tt;
    rest = none_rest _;
    free = refl;
  };
  mark = λ step x seen h. record { kept = (settled_at seen h _ _ tt, h.kept); rest = h.rest; free = refl };
  boot = λ step x seen h. record {
    kept = (settled_at seen h (Acts Boot) _ tt, h.kept);
    rest = none_rest _;
    free = refl;
  };
  starts = starts;
  keeps = record {
    family = family;
    weaken = λ x past h. h;
    sends = sends;
    rings = rung;
    takes = λ steer charge from t ok. took steer charge from t;
    took = λ from m is ok. calm (Took from (Good (Message m))) refl;
    gives_up = gives_up_holds;
    abandons = calm Abandon refl;
    loops = loops;
    reposts = looped;
  };
}

pub runs_sound : (clocks : Clocks) (header : HeaderValue) (events : List Event) (n : ℕ) (q : Port) → Sound (view q (of n (run_by clocks header events)))
runs_sound clocks header events n q = runs_last Sound lasts clocks header events n q
