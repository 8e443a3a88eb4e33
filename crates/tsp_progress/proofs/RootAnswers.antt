-- What anybody may ask, dates, and due sends call others only in their role.
use Rattle.std.proofs.Common.{ap, not, ◌≡◌, ◌∙◌, ◌∷◌, [], ℕ, ℤ, Bool, true, false, List, Option, None, Some, refl}
use Rattle.tsp_rules.specs.Values.{Gave, Post, Leave, Trace, PeerId, Place, Peer, Stranger, Role, Follow, Master}
use Rattle.tsp_rules.specs.Values.{Kind, Ack, DateAck, MasterUp, SetDateReq, Message, Stamp, Reply}
use Rattle.tsp_base.specs.Words.{MessageValue, ReplyValue, Leads, Seen, Sending, bare, did_of, either_by, message_at, message_of, open_to, posts_of}
use Rattle.tsp_base.specs.Words.{sending_at, sending_of}
use Rattle.tsp_base.specs.Words.{for_each, nothing, posts, posts_back}
use Rattle.tsp_base.specs.Words.{posts_time, posts_to_others, puts, reading, time_in, timed, ◌followed_by◌}
use Rattle.tsp_base.proofs.LeadsLemmas.{Leads_then, Leads_either, Leads_reading, Leads_nothing, Leads_each, Leads_from, Leads_puts}
use Rattle.tsp_rules.specs.CommonRows.{master_name, names_master, posts_reply, replies, says_master, traces}
use Rattle.tsp_rules.specs.{ClockRows.sets}
use Rattle.tsp_rules.specs.DateRows.{date_in, date_of, date_request_in, date_request_of, is_dated, leaves, leaves_all, may_date, may_pass_on, new_date}
use Rattle.tsp_rules.specs.DateRows.{passes_on}
use Rattle.tsp_rules.specs.DateRows.{sets_date_where, sets_in_charge}
use Rattle.tsp_rules.specs.Guards.{is_in_range, is_master, is_master_at, role_at, table_at}
use Rattle.tsp_rules.specs.SendRows.{begins_timed, due_send, due_sends, gives_up, is_send_due, is_spent, leaves_after, next_number, open_at, peers_at}
use Rattle.tsp_rules.specs.SendRows.{repeats, repeats_send}
use Rattle.tsp_progress.proofs.RootLeads.{Base, In, any_post, any_role, asks_vote, is_plain, is_root_kind, plain, sends_call}
use Rattle.tsp_progress.proofs.{PortWakes.Leads_if}
use Rattle.tsp_progress.proofs.RootRows.{base_root, by_master, does_root, drop, posted_root, told_in}

pub back_plain : (from : Place) (number : ℕ) (name : List ℕ) → is_plain (Post from (Message (bare Ack number name))) ≡ true
back_plain (Peer p) number name = refl
back_plain Stranger number name = refl

-- what anybody may ask

posted_back : (from : Place) (k : Kind) (number : ℕ) → is_root_kind k ≡ false → Leads Base (posts_back from k number) Base
unfolding posts_back
posted_back (Peer p) k number e = record {
  run = λ x past h. (plain any_role (Post (Peer p) (Message (bare k number past.name))) (ap not e) x past (h, refl)).0;
}
posted_back Stranger k number e = record { run = λ x past h. (plain any_role (Post Stranger (Message (bare k number past.name))) refl x past (h, refl)).0 }

pub named : (from : Place) (number : ℕ) → Leads Base (names_master from number) Base
unfolding names_master
named from number = Leads_reading master_name (λ name. puts (Post from (Message (bare Ack number name)))) (λ name. Leads_from (λ x past h. h.0)
    (base_root (does_root any_role (Post from (Message (bare Ack number name))) (back_plain from number name))))

pub said : (from : Place) (number : ℕ) → Leads Base (says_master from number) Base
unfolding says_master
said from number = Leads_either is_master_at (posts_back from Ack number) nothing (Leads_from (λ x past h. h.0) (posted_back from Ack number refl))
    (Leads_from (λ x past h. h.0) Leads_nothing)

pub traced : (from : Place) (number : ℕ) (on : Bool) → Leads Base (traces from number on) Base
unfolding traces
traced from number on = Leads_then {Q = Base} (puts (Trace on)) (posts_back from Ack number) (base_root (does_root any_role (Trace on) refl))
    (posted_back from Ack number refl)

stamp_plain : (from : Place) (r : ReplyValue) → is_plain (Post from (Stamp (Reply r))) ≡ true
stamp_plain (Peer p) r = refl
stamp_plain Stranger r = refl

pub stamped : (from : Place) (word counter : ℕ) → Leads Base (replies from word counter) Base
unfolding replies posts_reply
stamped from word counter = Leads_either is_in_range (posts_reply from word counter) nothing
    (record { run = λ x past h. (plain any_role _ (stamp_plain from _) x past (h.0, refl)).0 }) (Leads_from (λ x past h. h.0) Leads_nothing)

-- dates

back_in_charge : (from : Place) (number : ℕ) → Leads (In is_master) (posts_back from DateAck number) (In is_master)
unfolding posts_back
back_in_charge (Peer p) number = record { run = λ x past h. plain is_master (Post (Peer p) (Message (bare DateAck number past.name))) refl x past h }
back_in_charge Stranger number = record { run = λ x past h. plain is_master (Post Stranger (Message (bare DateAck number past.name))) refl x past h }

dated_anew : (from : Place) (number : ℕ) (time : ℤ) → Leads (In is_master) (new_date from number time) (In is_master)
unfolding new_date leaves_all leaves sets
dated_anew from number time = Leads_then {Q = In is_master} (sets time) _ (record { run = λ x past h. plain is_master _ refl x past h })
    (Leads_then {Q = In is_master} (posts_back from DateAck number) _ (back_in_charge from number)
    (Leads_then {Q = In is_master} (reading table_at (for_each (λ p. puts (Leave p)))) (posts_to_others MasterUp 0)
    (Leads_reading table_at (for_each (λ p. puts (Leave p))) (λ ps. Leads_from (λ x past h. h.0)
    (Leads_each (λ p. puts (Leave p)) ps (λ p. does_root is_master (Leave p) refl))))
    (told_in is_master MasterUp (by_master MasterUp refl))))

date_where : (from : Place) (number : ℕ) (time : ℤ) → Leads (In is_master) (sets_date_where from number time) (In is_master)
unfolding sets_date_where
date_where from number time = Leads_either (may_date time) (new_date from number time) nothing
    (Leads_from (λ x past h. h.0) (dated_anew from number time))
    (Leads_from (λ x past h. h.0) Leads_nothing)

passed : (from : Place) (q : PeerId) (number : ℕ) (time : ℤ) → Leads Base (passes_on from q number time) Base
unfolding passes_on begins_timed posts_time
passed from q number time = Leads_either (may_pass_on q) (posts_back from Ack number followed_by begins_timed SetDateReq q time) nothing
    (Leads_from (λ x past h. h.0) (Leads_then {Q = Base} (posts_back from Ack number) (begins_timed SetDateReq q time)
    (posted_back from Ack number refl)
    (Leads_reading next_number (λ n. posts_time q SetDateReq n time) (λ n. record {
      run = λ x past h. (plain any_role (Post (Peer q) (Message (timed SetDateReq n time past.name))) refl x past (h.0, refl)).0;
    }))))
    (Leads_from (λ x past h. h.0) Leads_nothing)

date_in_holds : (from : Place) (number : ℕ) (time : ℤ) (r : Role) → Leads (λ x past. Base x past × (role_at x past ≡ r)) (date_in from number time r) Base
unfolding date_in
date_in_holds from number time (Follow q) = Leads_from (λ x past h. h.0) (passed from q number time)
date_in_holds from number time Master = Leads_from {Q = In is_master} (λ x past h. (h.0, ap is_master h.1)) (drop is_master (date_where from number time))
date_in_holds from number time _ = Leads_from (λ x past h. h.0) Leads_nothing

pub date_of_holds : (charge : Bool) (from : Place) (m : MessageValue) → Leads Base (date_of charge from m) Base
unfolding date_of
date_of_holds true from m = Leads_reading role_at (date_in from m.number (time_in m.body)) (λ r. date_in_holds from m.number (time_in m.body) r)
date_of_holds false from m = Leads_nothing

in_charge : (charge : Bool) (p : PeerId) (m : MessageValue) → Leads (In is_master) (sets_in_charge charge p m) (In is_master)
unfolding sets_in_charge
in_charge true p m = date_where (Peer p) m.number (time_in m.body)
in_charge false p m = Leads_nothing

request_in : (charge : Bool) (m : MessageValue) (p : PeerId) (r : Role) → Leads (λ x past. Base x past × (role_at x past ≡ r)) (date_request_in charge m p r)
    Base
unfolding date_request_in
request_in charge m p Master = Leads_from {Q = In is_master} (λ x past h. (h.0, ap is_master h.1)) (drop is_master
    (Leads_either (is_dated p m.number) (posts p DateAck m.number) (sets_in_charge charge p m)
    (Leads_from (λ x past h. h.0) (posted_root is_master p DateAck m.number refl)) (Leads_from (λ x past h. h.0) (in_charge charge p m))))
request_in charge m p _ = Leads_from (λ x past h. h.0) Leads_nothing

pub request : (charge : Bool) (m : MessageValue) (p : PeerId) → Leads Base (date_request_of charge m p) Base
unfolding date_request_of
request charge m p = Leads_reading role_at (date_request_in charge m p) (λ r. request_in charge m p r)

-- the due sends

none_sent : {A : Type 0} {s : Sending} → None ≡ Some s → A
none_sent e = let bad : ⊥ = cc in absurd bad

send_message : (place : List Seen) (n : ℕ) (s : Sending) → sending_at place n ≡ Some s → message_at place ≡ Some s.message
send_message [] n s e = none_sent e
send_message (k ∷ older) n s e = by_message (message_of (did_of k).deed) refl e where
  by_message : (o : Option MessageValue) → message_of (did_of k).deed ≡ o → sending_of o (did_of k).tick n ≡ Some s → message_of (did_of k).deed ≡
      Some s.message
  by_message None is e = none_sent e
  by_message (Some m) is e = is ∙ ap (λ (o : Option Sending). message-or m o) e where
    message-or : MessageValue → Option Sending → Option MessageValue
    message-or other None = Some other
    message-or other (Some t) = Some t.message

gone : (p : PeerId) (kind : Kind) → Leads (In any_role) (gives_up p kind) (In any_role)
unfolding gives_up leaves_after
gone p kind = Leads_then {Q = In any_role} (puts (Gave p)) _ (does_root any_role (Gave p) refl)
    (Leads_if _ _ nothing (Leads_either _ (puts (Leave p)) nothing (Leads_from (λ x past h. h.0) (does_root any_role (Leave p) refl))
    (Leads_from (λ x past h. h.0) Leads_nothing)) Leads_nothing)

due : (p : PeerId) (o : Option Sending) → Leads (λ x past. In any_role x past × (open_at p x past ≡ o)) (repeats_send p o) (In any_role)
unfolding repeats_send repeats
due p None = Leads_from (λ x past h. h.0) Leads_nothing
due p (Some s) = Leads_either (is_send_due s) (either_by (is_spent s) (gives_up p s.message.kind) (puts (Post (Peer p) (Message s.message)))) nothing
    (Leads_either (is_spent s) (gives_up p s.message.kind) (puts (Post (Peer p) (Message s.message)))
    (Leads_from (λ x past h. h.0.0.0) (gone p s.message.kind))
    (Leads_puts (Post (Peer p) (Message s.message)) (λ x past h. any_post any_role p s.message x past h.0.0.0
    (λ call. h.0.0.0.0.sends p (ap sends_call (send_message (open_to p past.seen) (posts_of p past.seen) s h.0.0.1) ∙ call))
    (λ vote. h.0.0.0.0.asks p (ap asks_vote (send_message (open_to p past.seen) (posts_of p past.seen) s h.0.0.1) ∙ vote)))))
    (Leads_from (λ x past h. h.0.0) Leads_nothing)

pub sends_rooted : Leads Base due_sends Base
unfolding due_sends due_send
sends_rooted = base_root (Leads_reading peers_at (for_each (λ p. reading (open_at p) (repeats_send p))) (λ ps. Leads_from (λ x past h. h.0)
    (Leads_each (λ (p : PeerId). reading (open_at p) (repeats_send p)) ps (λ p. Leads_reading (open_at p) (repeats_send p) (due p)))))
