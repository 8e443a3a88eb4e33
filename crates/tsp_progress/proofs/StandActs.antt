-- What a candidate begins and what ends its candidature, how a port comes to stand for election, and what is armed in the quiet time, in every run.
use Rattle.std.proofs.Common.{sym, ap, inl, true≢false, ◌∙◌, ◌≡◌, ◌⊎◌, ℕ, ◌+◌, ◌&&◌, not, Bool, true, false}
use Rattle.std.proofs.Common.{List, [], ◌∷◌, Option, None, Some, refl}
use Rattle.std.proofs.lemmas.Bool.{and_parts, not-true}
use Rattle.tsp_rules.specs.Values.{Act, Acked, Arm, Abandon, Back, Become, Boot, Late, Post, Ring, Took, Message}
use Rattle.tsp_rules.specs.Values.{Good, Taken, Alarm, CloseAlarm, Elect, Probe, Quiet, ResolveAlarm, Search, Window, Kind}
use Rattle.tsp_rules.specs.Values.{Conflict, Election, MasterAck, MasterReq, MasterUp, QuitKind}
use Rattle.tsp_rules.specs.Values.{Refuse, SetDateReq, SlaveUp, Test, PeerId, Place, Peer, Stranger, Role}
use Rattle.tsp_rules.specs.Values.{Starting, Loose, Follow, Candidate, Master, QUIET, WINDOW}
use Rattle.tsp_rules.specs.CandidateRows.{yields}
use Rattle.tsp_rules.specs.CommonRows.{arms_elect, backs_own, candidature_row, follow_row, own_at, searches}
use Rattle.tsp_rules.specs.CommonRows.{tells_ticket}
use Rattle.tsp_rules.specs.Guards.{delay_at, is_starting_role}
use Rattle.tsp_rules.specs.Guards.{ticket_at}
use Rattle.tsp_rules.specs.SendRows.{begins, begins_to_others}
use Rattle.tsp_rules.specs.SendRows.{next_number, others_at}
use Rattle.tsp_base.specs.Words.{Acts, Deadlines, Deed, Did, Elsewhere, Here, Leads, MessageValue, Past, Received, Receives, Row, Seen, Sending, Step, armed}
use Rattle.tsp_base.specs.Words.{armed_after, arms, bare, for_each, grown, has_own_number, none_armed, open_send, posts}
use Rattle.tsp_base.specs.Words.{posts_to_others, puts, role, role_after, stood, taken, with_deadline, ◌followed_by◌}
use Rattle.tsp_base.specs.Words.{held, may_back, others, post_of, posts_back}
use Rattle.std.proofs.Common.{map}
use Rattle.tsp_base.proofs.LeadsLemmas.{Leads_each, Leads_from, Leads_puts, Leads_reading, Leads_then, Leads_to}
use Rattle.tsp_rules.proofs.Emits.{Sort, Acking, Alarming, Booting, Changing, Following, Leading, Numbering, Passing, Posting}
use Rattle.tsp_rules.proofs.Emits.{Emits}
use Rattle.tsp_rules.proofs.Emits.{Keeps_by, is_in, is_part, sort_of, sort_of_kind}
use Rattle.tsp_rules.proofs.{Built.Built, EmitsBuilt.emits_built, EmitsBuilt.nothing_owed, Unchanged.unchanged}
use Rattle.tsp_progress.specs.{AlarmsFit.newest_is, Heeds.is_candidate_role}

-- the step has taken a REFUSE of a peer
abbrev pub is_peer : Place → Bool
is_peer (Peer p) = true
is_peer Stranger = false

abbrev pub refuses_kind : Kind → Bool
refuses_kind Refuse = true
refuses_kind _ = false

abbrev pub is_refusal : Taken → Bool
is_refusal (Good (Message m)) = refuses_kind m.kind
is_refusal _ = false

abbrev pub refused : Option Received → Bool
refused None = false
refused (Some r) = is_peer r.from && is_refusal r.taken

abbrev pub acks_by : Deed → Bool
acks_by (Acts (Acked p)) = true
acks_by _ = false

-- whether a candidate's send was ended just now in a step that took a REFUSE
abbrev pub yields_now : List Seen → Bool
yields_now [] = false
yields_now (Here d ∷ before) = acks_by d.deed && (refused (taken before) && is_candidate_role (role before))
yields_now (Elsewhere d ∷ before) = false

-- Elect rang just now
pub record RangElect (before : List Seen) : Type 0 where
  pub ring : Did
  pub rest : List Seen
  pub is : before ≡ Here ring ∷ rest
  pub deed : ring.deed ≡ Acts (Ring Elect)

-- a TEST was taken in this step and acknowledged just now
pub record Tested (step : Step) (before : List Seen) : Type 0 where
  pub ack : Did
  pub took : Did
  pub rest : List Seen
  pub is : before ≡ Here ack ∷ (Here took ∷ rest)
  pub from : Place
  pub message : MessageValue
  pub deed : took.deed ≡ Acts (Took from (Good (Message message)))
  pub kind : message.kind ≡ Test
  pub now : took.step ≡ step

-- the step has just taken an ELECTION of p, which the port can't back: it is a candidate, or holds another one
pub record Refuses (p : PeerId) (here : Did) (before : List Seen) : Type 0 where
  pub took : Did
  pub rest : List Seen
  pub is : before ≡ Here took ∷ rest
  pub message : MessageValue
  pub deed : took.deed ≡ Acts (Took (Peer p) (Good (Message message)))
  pub kind : message.kind ≡ Election
  pub step : took.step ≡ here.step
  pub now : took.tick ≡ here.tick
  pub unable : (role rest ≡ Candidate) ⊎ (may_back (held rest) here.tick p ≡ false)

-- acts at the end of a candidature
abbrev pub ends_window : Deed → Bool
ends_window (Acts (Ring Window)) = true
ends_window (Acts (Late Window)) = true
ends_window _ = false

-- the step has taken a message of p by which a master is known, or a candidate sent away
abbrev pub calls_off : Kind → Bool
calls_off MasterUp = true
calls_off MasterAck = true
calls_off QuitKind = true
calls_off _ = false

pub record CalledOff (p : PeerId) (before : List Seen) : Type 0 where
  pub message : MessageValue
  pub took : Receives before p (Message message)
  pub kind : calls_off message.kind ≡ true

-- the port stood for election in this step, and asks for a vote
pub record AsksNow (here : Did) (before : List Seen) (m : MessageValue) : Type 0 where
  pub kind : m.kind ≡ Election
  pub start : Did
  pub idle : List Seen
  pub stood_is : stood before ≡ Here start ∷ idle
  pub now : start.step ≡ here.step

-- the message of the open send to p is posted again
pub record AsksAgain (p : PeerId) (before : List Seen) (m : MessageValue) : Type 0 where
  pub sending : Sending
  pub open_is : open_send p before ≡ Some sending
  pub same : sending.message ≡ m

-- what a deed owes: a port is Starting after a boot alone; it stands when Elect rings, or for a TEST, and not as a candidate; a candidate becomes Loose when
-- its
-- Window ends or it is refused, and follows who is master or sends it away; it asks for votes when it stands, and posts that again
abbrev pub StandFits : Deed → Did → List Seen → Type 0
StandFits (Acts (Become Starting)) here before = role before ≡ Starting
StandFits (Acts (Become Candidate)) here before = (RangElect before ⊎ Tested here.step before) × (is_candidate_role (role before) ≡ false)
StandFits (Acts (Become Loose)) here before = role before ≡ Candidate → (newest_is ends_window before ≡ true) ⊎ (yields_now before ≡ true)
StandFits (Acts (Become (Follow p))) here before = role before ≡ Candidate → CalledOff p before
StandFits (Acts (Post (Peer p) (Message m))) here before =
    (has_own_number m.kind ≡ true → role before ≡ Candidate → AsksNow here before m ⊎ AsksAgain p before m) ×
    (refuses_kind m.kind ≡ true → Refuses p here before ⊎ AsksAgain p before m)
StandFits _ here before = Unit {0}

-- in the quiet time neither Elect nor Search is armed, and a candidate's Quiet, Search, Elect and Resolve aren't
pub record Resting (r : Role) (d : Deadlines) : Type 0 where
  pub elect : r ≡ Starting → d.elect ≡ None
  pub search : r ≡ Starting → d.search ≡ None
  pub quiet_off : r ≡ Candidate → d.quiet ≡ None
  pub search_off : r ≡ Candidate → d.search ≡ None
  pub elect_off : r ≡ Candidate → d.elect ≡ None
  pub resolve : r ≡ Candidate → d.resolve ≡ None

-- so it is before each deed; and a candidate whose send was ended by a REFUSE becomes Loose
pub record KeepsAt (deed : Deed) (here : Did) (before : List Seen) : Type 0 where
  pub rest : Resting (role before) (armed before)
  pub next : yields_now before ≡ true → deed ≡ Acts (Become Loose)
  pub fits : StandFits deed here before

abbrev pub Kept : List Seen → Type 0
Kept [] = Unit {0}
Kept (Here d ∷ before) = KeepsAt d.deed d before × Kept before
Kept (Elsewhere d ∷ before) = (yields_now before ≡ false) × Kept before

-- a port that has kept all this
pub record Sound (seen : List Seen) : Type 0 where
  pub kept : Kept seen
  pub rest : Resting (role seen) (armed seen)
  pub free : yields_now seen ≡ false

-- acts that change neither the role nor what is armed of this, and owe nothing
abbrev pub is_calm_alarm : Alarm → Bool
is_calm_alarm Quiet = false
is_calm_alarm Elect = false
is_calm_alarm Search = false
is_calm_alarm ResolveAlarm = false
is_calm_alarm _ = true

abbrev pub is_calm_kind : Kind → Bool
is_calm_kind k = not (has_own_number k) && not (refuses_kind k)

abbrev pub is_calm : Act → Bool
is_calm Boot = false
is_calm (Become r) = false
is_calm (Arm a at) = is_calm_alarm a
is_calm (Acked p) = false
is_calm (Post (Peer p) (Message m)) = is_calm_kind m.kind
is_calm _ = true

turned_off : (a : Alarm) (r : Role) (d : Deadlines) → Resting r d → Resting r (with_deadline d a None)
turned_off Quiet r d h = record {
  elect = h.elect;
  search = h.search;
  quiet_off = λ e. refl;
  search_off = h.search_off;
  elect_off = h.elect_off;
  resolve = h.resolve;
}
turned_off Elect r d h = record {
  elect = λ e. refl;
  search = h.search;
  quiet_off = h.quiet_off;
  search_off = h.search_off;
  elect_off = λ e. refl;
  resolve = h.resolve;
}
turned_off Search r d h = record {
  elect = h.elect;
  search = λ e. refl;
  quiet_off = h.quiet_off;
  search_off = λ e. refl;
  elect_off = h.elect_off;
  resolve = h.resolve;
}
turned_off ResolveAlarm r d h = record {
  elect = h.elect;
  search = h.search;
  quiet_off = h.quiet_off;
  search_off = h.search_off;
  elect_off = h.elect_off;
  resolve = λ e. refl;
}
turned_off _ r d h = record {
  elect = h.elect;
  search = h.search;
  quiet_off = h.quiet_off;
  search_off = h.search_off;
  elect_off = h.elect_off;
  resolve = h.resolve;
}

set_for : (a : Alarm) (at : ℕ) → is_calm_alarm a ≡ true → (r : Role) (d : Deadlines) → Resting r d → Resting r (with_deadline d a (Some at))
set_for Quiet at e r d h = absurd (true≢false (sym e))
set_for Elect at e r d h = absurd (true≢false (sym e))
set_for Search at e r d h = absurd (true≢false (sym e))
set_for ResolveAlarm at e r d h = absurd (true≢false (sym e))
set_for _ at e r d h = record {
  elect = h.elect;
  search = h.search;
  quiet_off = h.quiet_off;
  search_off = h.search_off;
  elect_off = h.elect_off;
  resolve = h.resolve;
}

-- nothing of this is armed
pub none_rest : (r : Role) → Resting r none_armed
none_rest r = record {
  elect = λ e. refl;
  search = λ e. refl;
  quiet_off = λ e. refl;
  search_off = λ e. refl;
  elect_off = λ e. refl;
  resolve = λ e. refl;
}

calm_rest : (a : Act) → is_calm a ≡ true → (r : Role) (d : Deadlines) → Resting r d → Resting (role_after (Acts a) r) (armed_after (Acts a) d)
calm_rest Boot e r d h = absurd (true≢false (sym e))
calm_rest (Become q) e r d h = absurd (true≢false (sym e))
calm_rest (Arm a at) e r d h = set_for a at e r d h
calm_rest (Ring a) e r d h = turned_off a r d h
calm_rest (Late a) e r d h = turned_off a r d h
calm_rest Abandon e r d h = turned_off CloseAlarm r (with_deadline d Probe None) (turned_off Probe r d h)
calm_rest _ e r d h = h

calm_role : (a : Act) → is_calm a ≡ true → (r : Role) → role_after (Acts a) r ≡ r
calm_role Boot e r = absurd (true≢false (sym e))
calm_role (Become q) e r = absurd (true≢false (sym e))
calm_role _ e r = refl

pub calm_free : (a : Act) → is_calm a ≡ true → acks_by (Acts a) ≡ false
calm_free (Acked p) e = absurd (true≢false (sym e))
calm_free _ e = refl

pub calm-fits : (a : Act) → is_calm a ≡ true → (d : Did) (before : List Seen) → StandFits (Acts a) d before
calm-fits (Become r) e d before = absurd (true≢false (sym e))
calm-fits (Post (Peer p) (Message m)) e d before =
    let both = and_parts (not (has_own_number m.kind)) (not (refuses_kind m.kind)) e in (
      λ own. absurd (true≢false (sym own ∙ not-true (has_own_number m.kind) both.0)),
      λ refuses. absurd (true≢false (sym refuses ∙ not-true (refuses_kind m.kind) both.1)),
    )
calm-fits _ e d before = tt

-- states of a port in the midst of a row
abbrev pub Keeping : ℕ → Past → Type 0
Keeping x past = Sound past.seen

-- neither Starting nor a candidate
abbrev pub Up : ℕ → Past → Type 0
Up x past = Sound past.seen × ((is_starting_role (role past.seen) ≡ false) × (is_candidate_role (role past.seen) ≡ false))

-- no candidate
abbrev pub Other : ℕ → Past → Type 0
Other x past = Sound past.seen × (is_candidate_role (role past.seen) ≡ false)

-- in this role
abbrev pub In : Role → ℕ → Past → Type 0
In r x past = Sound past.seen × (role past.seen ≡ r)

-- the port may become Loose next; a candidate may have to
pub record Pending (x : ℕ) (past : Past) : Type 0 where
  pub kept : Kept past.seen
  pub rest : Resting (role past.seen) (armed past.seen)
  pub why : role past.seen ≡ Candidate → (newest_is ends_window past.seen ≡ true) ⊎ (yields_now past.seen ≡ true)

pub pending : (x : ℕ) (past : Past) → Other x past → Pending x past
pending x past h = record { kept = h.0.kept; rest = h.0.rest; why = λ e. absurd (true≢false (sym (ap is_candidate_role e) ∙ h.1)) }

-- an act after a settled past
pub settled : (past : Past) → Sound past.seen → (deed : Deed) (here : Did) → StandFits deed here past.seen → KeepsAt deed here past.seen
settled past h deed here fits = record { rest = h.rest; next = λ y. absurd (true≢false (sym y ∙ h.free)); fits = fits }

pub calm_sound : (a : Act) → is_calm a ≡ true → (x : ℕ) (past : Past) → Keeping x past → Keeping x (grown x past (a ∷ []))
calm_sound a e x past h =
    let none = calm_free a e in
    record {
      kept = (settled past h (Acts a) _ (calm-fits a e _ past.seen), h.kept);
      rest = calm_rest a e (role past.seen) (armed past.seen) h.rest;
      free = rw none refl;
    }

pub calm : (a : Act) → is_calm a ≡ true → Leads Keeping (puts a) Keeping
calm a e = Leads_puts a (calm_sound a e)

pub calm_up : (a : Act) → is_calm a ≡ true → Leads Up (puts a) Up
calm_up a e = Leads_puts a (λ x past h. (
  calm_sound a e x past h.0,
  (ap is_starting_role (calm_role a e (role past.seen)) ∙ h.1.0, ap is_candidate_role (calm_role a e (role past.seen)) ∙ h.1.1),
))

pub calm_other : (a : Act) → is_calm a ≡ true → Leads Other (puts a) Other
calm_other a e = Leads_puts a (λ x past h. (calm_sound a e x past h.0, ap is_candidate_role (calm_role a e (role past.seen)) ∙ h.1))

-- rows of calm acts
pub record Apart (sorts : List Sort) : Type 0 where
  pub booting : is_in Booting sorts ≡ false
  pub leading : is_in Leading sorts ≡ false
  pub following : is_in Following sorts ≡ false
  pub changing : is_in Changing sorts ≡ false
  pub alarming : is_in Alarming sorts ≡ false
  pub acking : is_in Acking sorts ≡ false
  pub numbering : is_in Numbering sorts ≡ false
  pub passing : is_in Passing sorts ≡ false
  pub posting : is_in Posting sorts ≡ false

calm_kind : (sorts : List Sort) → Apart sorts → (k : Kind) → is_in (sort_of_kind k) sorts ≡ true → is_calm_kind k ≡ true
calm_kind sorts apart Election e = absurd (true≢false (sym e ∙ apart.numbering))
calm_kind sorts apart Conflict e = absurd (true≢false (sym e ∙ apart.numbering))
calm_kind sorts apart QuitKind e = absurd (true≢false (sym e ∙ apart.numbering))
calm_kind sorts apart SetDateReq e = absurd (true≢false (sym e ∙ apart.passing))
calm_kind sorts apart Refuse e = absurd (true≢false (sym e ∙ apart.posting))
calm_kind sorts apart _ e = refl

calm_becomes : (sorts : List Sort) → Apart sorts → (r : Role) → is_in (sort_of (Become r)) sorts ≡ true → is_calm (Become r) ≡ true
calm_becomes sorts apart Master e = absurd (true≢false (sym e ∙ apart.leading))
calm_becomes sorts apart (Follow p) e = absurd (true≢false (sym e ∙ apart.following))
calm_becomes sorts apart _ e = absurd (true≢false (sym e ∙ apart.changing))

calm_arms : (sorts : List Sort) → Apart sorts → (a : Alarm) (at : ℕ) → is_in (sort_of (Arm a at)) sorts ≡ true → is_calm (Arm a at) ≡ true
calm_arms sorts apart Probe at e = refl
calm_arms sorts apart CloseAlarm at e = refl
calm_arms sorts apart _ at e = absurd (true≢false (sym e ∙ apart.alarming))

calm_of : (sorts : List Sort) → Apart sorts → (a : Act) → is_in (sort_of a) sorts ≡ true → is_calm a ≡ true
calm_of sorts apart Boot e = absurd (true≢false (sym e ∙ apart.booting))
calm_of sorts apart (Become r) e = calm_becomes sorts apart r e
calm_of sorts apart (Arm a at) e = calm_arms sorts apart a at e
calm_of sorts apart (Acked p) e = absurd (true≢false (sym e ∙ apart.acking))
calm_of sorts apart (Post (Peer p) (Message m)) e = calm_kind sorts apart m.kind e
calm_of sorts apart _ e = refl

pub calm_row : (sorts : List Sort) (row : Row) → Apart sorts → Emits sorts row → Leads Keeping row Keeping
unfolding puts
calm_row sorts row apart e = record {
  run = λ x past h. Keeps_by {T = ℕ} sorts (λ p n. Keeping n p) row (λ a i y p n k. calm_sound a (calm_of sorts apart a i) y p k) e x past x h;
}

calm_row_up : (sorts : List Sort) (row : Row) → Apart sorts → Emits sorts row → Leads Up row Up
unfolding puts
calm_row_up sorts row apart e = record {
  run = λ x past h. Keeps_by {T = ℕ} sorts (λ p n. Up n p) row (λ a i y p n k. (
    calm_sound a (calm_of sorts apart a i) y p k.0,
    (
      ap is_starting_role (calm_role a (calm_of sorts apart a i) (role p.seen)) ∙ k.1.0,
      ap is_candidate_role (calm_role a (calm_of sorts apart a i) (role p.seen)) ∙ k.1.1,
    ),
  )) e x past x h;
}

calm_row_other : (sorts : List Sort) (row : Row) → Apart sorts → Emits sorts row → Leads Other row Other
unfolding puts
calm_row_other sorts row apart e = record {
  run = λ x past h. Keeps_by {T = ℕ} sorts (λ p n. Other n p) row (λ a i y p n k.
      (calm_sound a (calm_of sorts apart a i) y p k.0, ap is_candidate_role (calm_role a (calm_of sorts apart a i) (role p.seen)) ∙ k.1)) e x past x h;
}

pub built : {sorts : List Sort} {k c : ℕ} {r r' : Row} → is_part sorts sorts ≡ true → Apart sorts → Built unchanged nothing_owed sorts k c r r' →
    Leads Keeping r Keeping
built {sorts} {r = r} part apart d = calm_row sorts r apart (emits_built part d)

-- posts alone
pub posted : (p : PeerId) (k : Kind) (number : ℕ) → is_calm_kind k ≡ true → Leads Keeping (posts p k number) Keeping
unfolding posts
posted p k number e = record { run = λ x past h. calm_sound (Post (Peer p) (Message (bare k number past.name))) e x past h }

pub posted_up : (p : PeerId) (k : Kind) (number : ℕ) → is_calm_kind k ≡ true → Leads Up (posts p k number) Up
unfolding posts
posted_up p k number e = record { run = λ x past h. (calm_sound (Post (Peer p) (Message (bare k number past.name))) e x past h.0, h.1) }

pub to_others : (k : Kind) → is_calm_kind k ≡ true → Leads Keeping (posts_to_others k 0) Keeping
unfolding posts_to_others
to_others k e = record { run = λ x past h. each x past (others past.own past.peers) h } where
  each : (x : ℕ) (past : Past) (ps : List PeerId) → Keeping x past → Keeping x (grown x past (map (post_of k 0 past.name) ps))
  each x past [] h = h
  each x past (p ∷ ps) h = each x (grown x past (post_of k 0 past.name p ∷ [])) ps (calm_sound (post_of k 0 past.name p) e x past h)

-- a post to wherever a datagram came from
pub back_calm : (from : Place) (k : Kind) (number : ℕ) (name : List ℕ) → is_calm_kind k ≡ true → is_calm (Post from (Message (bare k number name))) ≡ true
back_calm (Peer p) k number name e = e
back_calm Stranger k number name e = refl

pub posted_back : (from : Place) (k : Kind) (number : ℕ) → is_calm_kind k ≡ true → Leads Keeping (posts_back from k number) Keeping
unfolding posts_back
posted_back from k number e = record {
  run = λ x past h. calm_sound (Post from (Message (bare k number past.name))) (back_calm from k number past.name e) x past
      h;
}

-- a change of the role
pub changes : (r : Role) (x : ℕ) (past : Past) → Sound past.seen → StandFits (Acts (Become r)) (record { step = past.step; tick = x; deed = Acts (Become r) })
    past.seen → In r x (grown x past (Become r ∷ []))
changes r x past h fits = (
  record { kept = (settled past h (Acts (Become r)) _ fits, h.kept); rest = none_rest r; free = refl },
  refl,
)

pub becomes_loose : Leads Pending (puts (Become Loose)) (In Loose)
becomes_loose = Leads_puts (Become Loose) (λ x past h. (
  record { kept = (record { rest = h.rest; next = λ y. refl; fits = h.why }, h.kept); rest = none_rest Loose; free = refl },
  refl,
))

pub in_up : (r : Role) → is_starting_role r ≡ false → is_candidate_role r ≡ false → (x : ℕ) (past : Past) → In r x past → Up x past
in_up r e c x past h = (h.0, (ap is_starting_role h.1 ∙ e, ap is_candidate_role h.1 ∙ c))

pub up_other : (x : ℕ) (past : Past) → Up x past → Other x past
up_other x past h = (h.0, h.1.1)

pub in_other : (r : Role) → is_candidate_role r ≡ false → (x : ℕ) (past : Past) → In r x past → Other x past
in_other r e x past h = (h.0, ap is_candidate_role h.1 ∙ e)

-- what is armed
awake : {A : Type 0} (r : Role) → is_starting_role r ≡ false → r ≡ Starting → A
awake r e is = absurd (true≢false (sym (ap is_starting_role is) ∙ e))

unstood : {A : Type 0} (r : Role) → is_candidate_role r ≡ false → r ≡ Candidate → A
unstood r e is = absurd (true≢false (sym (ap is_candidate_role is) ∙ e))

pub elects : Leads Up arms_elect Up
unfolding arms_elect arms
elects = Leads_reading delay_at (arms Elect) (λ long. record {
  run = λ x past h. (
    record {
      kept = (settled past h.0.0 (Acts (Arm Elect (x + long))) _ tt, h.0.0.kept);
      rest = record {
        elect = awake (role past.seen) h.0.1.0;
        search = h.0.0.rest.search;
        quiet_off = h.0.0.rest.quiet_off;
        search_off = h.0.0.rest.search_off;
        elect_off = unstood (role past.seen) h.0.1.1;
        resolve = h.0.0.rest.resolve;
      };
      free = refl;
    },
    h.0.1,
  );
})

arms_search : Leads Up (arms Search WINDOW) Keeping
unfolding arms
arms_search = record {
  run = λ x past h. record {
    kept = (settled past h.0 (Acts (Arm Search (x + WINDOW))) _ tt, h.0.kept);
    rest = record {
      elect = h.0.rest.elect;
      search = awake (role past.seen) h.1.0;
      quiet_off = h.0.rest.quiet_off;
      search_off = unstood (role past.seen) h.1.1;
      elect_off = h.0.rest.elect_off;
      resolve = h.0.rest.resolve;
    };
    free = refl;
  };
}

pub arms_resolve : Leads Other (arms ResolveAlarm WINDOW) Keeping
unfolding arms
arms_resolve = record {
  run = λ x past h. record {
    kept = (settled past h.0 (Acts (Arm ResolveAlarm (x + WINDOW))) _ tt, h.0.kept);
    rest = record {
      elect = h.0.rest.elect;
      search = h.0.rest.search;
      quiet_off = h.0.rest.quiet_off;
      search_off = h.0.rest.search_off;
      elect_off = h.0.rest.elect_off;
      resolve = unstood (role past.seen) h.1;
    };
    free = refl;
  };
}

-- at the boot
pub arms_quiet : Leads (In Starting) (arms Quiet QUIET) (In Starting)
unfolding arms
arms_quiet = record {
  run = λ x past h. (
    record {
      kept = (settled past h.0 (Acts (Arm Quiet (x + QUIET))) _ tt, h.0.kept);
      rest = record {
        elect = h.0.rest.elect;
        search = h.0.rest.search;
        quiet_off = unstood (role past.seen) (ap is_candidate_role h.1);
        search_off = h.0.rest.search_off;
        elect_off = h.0.rest.elect_off;
        resolve = h.0.rest.resolve;
      };
      free = refl;
    },
    h.1,
  );
}

pub arms_calm : (a : Alarm) (long : ℕ) → is_calm_alarm a ≡ true → Leads Keeping (arms a long) Keeping
unfolding arms
arms_calm a long e = record { run = λ x past h. calm_sound (Arm a (x + long)) e x past h }

pub search : Leads Up searches Keeping
unfolding searches
search = Leads_then {Q = Keeping} (arms Search WINDOW) (posts_to_others MasterReq 0) arms_search (to_others MasterReq refl)

tells : (p : PeerId) → Leads Keeping (tells_ticket p) Keeping
unfolding tells_ticket
tells p = Leads_reading ticket_at (posts p SlaveUp) (λ n. Leads_from (λ x past h. h.0) (posted p SlaveUp n refl))

-- a port that may follow p: one that is no candidate, or was called off
pub record MayFollow (p : PeerId) (x : ℕ) (past : Past) : Type 0 where
  pub sound : Sound past.seen
  pub why : role past.seen ≡ Candidate → CalledOff p past.seen

pub may_follow : (p : PeerId) (x : ℕ) (past : Past) → Other x past → MayFollow p x past
may_follow p x past h = record { sound = h.0; why = unstood (role past.seen) h.1 }

pub follow : (p : PeerId) → Leads (MayFollow p) (follow_row p) Keeping
unfolding follow_row
follow p = Leads_then {Q = In (Follow p)} (puts (Become (Follow p))) (arms_elect followed_by tells_ticket p)
    (Leads_puts (Become (Follow p)) (λ x past h. changes (Follow p) x past h.sound h.why))
    (Leads_then {Q = Up} arms_elect (tells_ticket p) (Leads_from (in_up (Follow p) refl refl) elects) (Leads_from (λ x past h. h.0) (tells p)))

pub yield : Leads Pending yields Keeping
unfolding yields
yield = Leads_then {Q = In Loose} (puts (Become Loose)) arms_elect becomes_loose
    (Leads_to (λ x past h. h.0) (Leads_from (in_up Loose refl refl) elects))

-- a port that stands for election now
pub record Standing (x : ℕ) (past : Past) : Type 0 where
  pub sound : Sound past.seen
  pub start : Did
  pub idle : List Seen
  pub stood_is : stood past.seen ≡ Here start ∷ idle
  pub now : start.step ≡ past.step

-- why it stands
abbrev pub Called : ℕ → Past → Type 0
Called x past = Other x past × (RangElect past.seen ⊎ Tested past.step past.seen)

stands_now : Leads Called (puts (Become Candidate)) Standing
stands_now = Leads_puts (Become Candidate) (λ x past h. record {
  sound = record {
    kept = (settled past h.0.0 (Acts (Become Candidate)) _ (h.1, h.0.1), h.0.0.kept);
    rest = none_rest _;
    free = refl;
  };
  start = record { step = past.step; tick = x; deed = Acts (Become Candidate) };
  idle = past.seen;
  stood_is = refl;
  now = refl;
})

backs : Leads Standing backs_own Standing
unfolding backs_own
backs = Leads_reading own_at (λ own. puts (Back own)) (λ own. Leads_puts (Back own) (λ x past h. record {
  sound = calm_sound (Back own) refl x past h.0.sound;
  start = h.0.start;
  idle = h.0.idle;
  stood_is = h.0.stood_is;
  now = h.0.now;
}))

windows : Leads Standing (arms Window WINDOW) Standing
unfolding arms
windows = record {
  run = λ x past h. record {
    sound = calm_sound (Arm Window (x + WINDOW)) refl x past h.sound;
    start = h.start;
    idle = h.idle;
    stood_is = h.stood_is;
    now = h.now;
  };
}

asks_one : (p : PeerId) → Leads Standing (begins Election p) Standing
unfolding begins posts
asks_one p = Leads_reading next_number (posts p Election) (λ n. record {
  run = λ x past h. record {
    sound = record {
      kept = (
        settled past h.0.sound (Acts (Post (Peer p) (Message (bare Election n past.name)))) _ (
          λ own candidate. inl (record {
            kind = refl;
            start = h.0.start;
            idle = h.0.idle;
            stood_is = h.0.stood_is;
            now = h.0.now;
          }),
          λ refuses. absurd (true≢false (sym refuses)),
        ),
        h.0.sound.kept,
      );
      rest = h.0.sound.rest;
      free = refl;
    };
    start = h.0.start;
    idle = h.0.idle;
    stood_is = h.0.stood_is;
    now = h.0.now;
  };
})

asks_others : Leads Standing (begins_to_others Election) Standing
unfolding begins_to_others
asks_others = Leads_reading others_at (for_each (begins Election)) (λ ps. Leads_from (λ x past h. h.0) (Leads_each (begins Election) ps asks_one))

pub stands : Leads Called candidature_row Keeping
unfolding candidature_row
stands = Leads_then {Q = Standing} (puts (Become Candidate)) (backs_own followed_by (arms Window WINDOW followed_by begins_to_others Election)) stands_now
    (Leads_then {Q = Standing} backs_own (arms Window WINDOW followed_by begins_to_others Election) backs
    (Leads_then {Q = Standing} (arms Window WINDOW) (begins_to_others Election) windows (Leads_to (λ x past h. h.sound) asks_others)))
