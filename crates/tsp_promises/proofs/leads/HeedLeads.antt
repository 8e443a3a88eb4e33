-- A port heeds each QUIT of a peer that it takes.
use Rattle.std.proofs.Common.{sym, ap, subst, true≢false, append-nil, ◌∙◌, ◌≡◌, ℕ, ◌==◌, ◌&&◌, not, Bool, true, false, if◌then◌else◌, List, [], ◌∷◌, ◌++◌}
use Rattle.std.proofs.Common.{Option, None, Some, refl}
use Rattle.std.proofs.lemmas.Bool.{and_parts, and_right, not-true}
use Rattle.tsp_promises.proofs.{leads.Elsewheres.rests_family, leads.Elsewheres.Family, leads.AlarmTable.due_alarms_lead, leads.CorrectionLeads.due_sends_lead}
use Rattle.tsp_promises.proofs.{leads.Known.RestsIn, leads.Known.Fresh, leads.Known.Open, leads.Changes.open_of}
use Rattle.tsp_promises.specs.StepFacts.{is_quit, quit_by, unless_starting, unheeded, unheeded_after}
use Rattle.tsp_rules.specs.Values.{Act, Boot, Took, Quit, Message, Taken, Good, Kind, QuitKind, PeerId, Place, Peer, Stranger, Role, Starting, Candidate}
use Rattle.tsp_rules.specs.Values.{Master}
use Rattle.tsp_rules.specs.Answers.{due_alarms, says_in, peer_says, from_peer, handles_kind, handles, takes, Given, Turn, Got, input_row, answers}
use Rattle.tsp_rules.specs.{CandidateRows.candidate_takes, CandidateRows.candidate_takes_kind, SendRows.due_sends, CommonRows.quits}
use Rattle.tsp_rules.specs.RoundRows.{abandons_going, corrects, upsetting}
use Rattle.tsp_rules.specs.{Guards.is_own, Guards.is_heard, Guards.is_follow, Guards.is_starting_role, Strangers.is_stranger}
use Rattle.tsp_rules.specs.{MasterRows.master_takes, MasterRows.master_takes_kind, SlaveRows.slave_takes, SlaveRows.slave_takes_kind}
use Rattle.tsp_rules.proofs.{FewActs.is_calm_act, FewActs.is_calm, CalmSteps.calm_abandons_going, CalmSteps.calm_handles}
use Rattle.tsp_base.specs.Words.{Deed, Begins, Acts, Step, Seen, Here, Elsewhere, Past, Leads, MessageValue, is_among, Received, message_in, role, said_by}
use Rattle.tsp_base.specs.Words.{taken, taken_after, Row, added, grown, nothing, puts, ◌followed_by◌, either_by, reading, is_correction}
use Rattle.tsp_base.proofs.{LeadsLemmas.Leads_then, LeadsLemmas.Leads_from, RowLemmas.added_append}

-- a port that has heeded what it took in this step
abbrev pub Heeds : ℕ → Past → Type 0
Heeds x past = unheeded past.peers past.seen ≡ None

-- calm acts leave nothing to heed
calm_deed : (strange moving : Bool) (peers : List PeerId) (n : ℕ) (r : Role) (a : Act) (was : Option PeerId) → is_calm_act strange moving a ≡ true → was ≡
    None → unheeded_after peers n (Acts a) r was ≡ None
calm_deed strange moving peers n r Boot was c e = absurd (true≢false (sym c))
calm_deed strange moving peers n r (Took from t) was c e = absurd (true≢false (sym c))
calm_deed strange moving peers n r (Quit p) was c e = refl
calm_deed strange moving peers n r _ was c e = e

calm_heeds : (strange moving : Bool) (step : Step) (x : ℕ) (peers : List PeerId) (acts : List Act) (seen : List Seen) → is_calm strange moving acts ≡ true →
    unheeded peers seen ≡ None → unheeded peers (added step x acts seen) ≡ None
calm_heeds strange moving step x peers [] seen c e = e
calm_heeds strange moving step x peers (a ∷ rest) seen c e =
    let both = and_parts (is_calm_act strange moving a) (is_calm strange moving rest) c in
    calm_heeds strange moving step x peers rest (Here (record { step = step; tick = x; deed = Acts a }) ∷
    seen) both.1 (calm_deed strange moving peers step.node (role seen) a (unheeded peers seen) both.0 e)

none_starting : (r : Role) (o : Option PeerId) → o ≡ None → unless_starting r o ≡ None
none_starting Starting o e = refl
none_starting _ o e = e

said_none : (peers : List PeerId) (n : ℕ) (from : Place) → quit_by peers n (said_by from None) ≡ None
said_none peers n (Peer p) = refl
said_none peers n Stranger = refl

abbrev pub is_quit_in : Option MessageValue → Bool
is_quit_in None = false
is_quit_in (Some m) = is_quit m.kind

-- whether a QUIT was taken
abbrev pub took_quit : Option Received → Bool
took_quit None = false
took_quit (Some r) = is_quit_in (message_in r.taken)

-- nor is anything to be heeded where none was
unquit_taken : (peers : List PeerId) (n : ℕ) (from : Place) (t : Taken) → is_quit_in (message_in t) ≡ false → quit_by peers n (said_by from (message_in t)) ≡
    None
unquit_taken peers n Stranger (Good (Message m)) none = refl
unquit_taken peers n (Peer p) (Good (Message m)) none = rw none refl
unquit_taken peers n from _ none = said_none peers n from

unquit_deed : (peers : List PeerId) (n : ℕ) (deed : Deed) (r : Role) (took : Option Received) (was : Option PeerId) → (took_quit took ≡ false → was ≡ None) →
    took_quit (taken_after deed took) ≡ false → unheeded_after peers n deed r was ≡ None
unquit_deed peers n Begins r took was h none = refl
unquit_deed peers n (Acts (Took from t)) r took was h none = none_starting r (quit_by peers n (said_by from (message_in t))) (unquit_taken peers n from t none)
unquit_deed peers n (Acts (Quit p)) r took was h none = refl
unquit_deed peers n _ r took was h none = h none

pub unquit_heeds : (peers : List PeerId) (seen : List Seen) → took_quit (taken seen) ≡ false → unheeded peers seen ≡ None
unquit_heeds peers [] none = refl
unquit_heeds peers (Elsewhere d ∷ before) none = unquit_heeds peers before none
unquit_heeds peers (Here d ∷ before) none = unquit_deed peers d.step.node d.deed (role before) (taken before) (unheeded peers before)
    (unquit_heeds peers before) none

pub untaken_heeds : (peers : List PeerId) (seen : List Seen) → taken seen ≡ None → unheeded peers seen ≡ None
untaken_heeds peers seen e = unquit_heeds peers seen (ap took_quit e)

quit_kind : (k : Kind) → is_quit k ≡ true → k ≡ QuitKind
quit_kind QuitKind e = refl
quit_kind _ e = absurd (true≢false (sym e))

-- a QUIT is heeded in each role but Starting
says_quit : (p : PeerId) (m : MessageValue) (r : Role) → m.kind ≡ QuitKind → is_starting_role r ≡ false → says_in p m r ≡ quits p m.number
unfolding says_in slave_takes candidate_takes master_takes slave_takes_kind candidate_takes_kind master_takes_kind
says_quit p m Starting e s = absurd (true≢false s)
says_quit p m Candidate e s = ap (candidate_takes_kind p m) e
says_quit p m Master e s = ap (master_takes_kind p m) e
says_quit p m _ e s = ap (slave_takes_kind p m) e

quits_begin : (p : PeerId) (number x : ℕ) (past : Past) → (rest : List Act) × (quits p number x past ≡ Quit p ∷ rest)
unfolding quits ◌followed_by◌ puts
quits_begin p number x past = (_, refl)

quit_row : (steer charge : Bool) (p : PeerId) (m : MessageValue) (x : ℕ) (past : Past) → m.kind ≡ QuitKind → is_heard p x past ≡ true →
    is_starting_role (role past.seen) ≡ false →
    handles steer charge (Peer p) (Good (Message m)) x past ≡ quits p m.number x past
unfolding handles either_by nothing handles_kind from_peer peer_says reading
quit_row steer charge p m x past kind heard awake =
    ap (λ k. if not steer && (is_correction k && is_follow (role past.seen)) then [] else handles_kind charge (Peer p) m k x past) kind
    ∙ (ap (λ b. if b then [] else handles_kind charge (Peer p) m QuitKind x past) (and_right (not steer) (false && is_follow (role past.seen)) refl)
    ∙ (ap (λ b. if b then peer_says m p x past else []) heard ∙ ap (λ (row : Row). row x past) (says_quit p m (role past.seen) kind awake)))

starting_is : (r : Role) (o : Option PeerId) → not (is_starting_role r) ≡ false → unless_starting r o ≡ None
starting_is Starting o e = refl
starting_is _ o e = absurd (true≢false e)

-- a QUIT that the port doesn't hear isn't to be heeded
unheard : (r : Role) (among other : Bool) (p : PeerId) → (among && not (is_starting_role r)) ≡ false →
    unless_starting r (if among && other then Some p else None) ≡ None
unheard r true other p e = starting_is r (if other then Some p else None) e
unheard r false other p e = none_starting r None refl

-- what is done with a datagram, other than one of the port itself
handled : (steer charge : Bool) (from : Place) (t : Taken) (x : ℕ) (past : Past) → unheeded past.peers past.seen ≡
    unless_starting (role past.seen) (quit_by past.peers past.step.node (said_by from (message_in t))) →
    Heeds x (grown x past (handles steer charge from t x past))
handled steer charge from t x past left = by_taken from t left calmly where
  calmly : unheeded past.peers past.seen ≡ None → Heeds x (grown x past (handles steer charge from t x past))
  calmly none = calm_heeds (is_stranger from) true past.step x past.peers (handles steer charge from t x past) past.seen
      ((calm_handles steer charge from t).calm x past) none

  by_heard : (p : PeerId) (m : MessageValue) → m.kind ≡ QuitKind → unheeded past.peers past.seen ≡
      unless_starting (role past.seen) (if is_among p past.peers && not (p.0 == past.step.node) then Some p else None) →
      (unheeded past.peers past.seen ≡ None → Heeds x (grown x past (handles steer charge (Peer p) (Good (Message m)) x past))) → (b : Bool) →
      is_heard p x past ≡ b → Heeds x (grown x past (handles steer charge (Peer p) (Good (Message m)) x past))
  by_heard p m kind left calm false e = calm (left ∙ unheard (role past.seen) (is_among p past.peers) (not (p.0 == past.step.node)) p e)
  by_heard p m kind left calm true e =
      let both = and_parts (is_among p past.peers) (not (is_starting_role (role past.seen))) e in
      let row = quit_row steer charge p m x past kind e (not-true (is_starting_role (role past.seen)) both.1) in
      let begins = quits_begin p m.number x past in
      let whole = row ∙ begins.1 in
      let calm_acts : is_calm false true (Quit p ∷ begins.0) ≡ true = subst (λ acts. is_calm false true acts ≡
      true) whole ((calm_handles steer charge (Peer p) (Good (Message m))).calm x past) in
      subst (λ acts. unheeded past.peers (added past.step x acts past.seen) ≡ None) (sym whole)
      (calm_heeds false true past.step x past.peers begins.0 (Here (record { step = past.step; tick = x; deed = Acts (Quit p) }) ∷ past.seen) calm_acts refl)

  by_kind : (p : PeerId) (m : MessageValue) → unheeded past.peers past.seen ≡ unless_starting (role past.seen)
      (quit_by past.peers past.step.node (said_by (Peer p) (Some m))) →
      (unheeded past.peers past.seen ≡ None → Heeds x (grown x past (handles steer charge (Peer p) (Good (Message m)) x past))) → (b : Bool) → is_quit m.kind ≡
      b → Heeds x (grown x past (handles steer charge (Peer p) (Good (Message m)) x past))
  by_kind p m left calm false e = calm (left ∙ none_starting (role past.seen) _ (rw e refl))
  by_kind p m left calm true e =
      by_heard p m (quit_kind m.kind e) (left ∙ ap (λ b. unless_starting (role past.seen) (if b && (is_among p past.peers && not (p.0 == past.step.node)) then
      Some p else None)) e) calm (is_heard p x past) refl

  by_taken : (from : Place) (t : Taken) → unheeded past.peers past.seen ≡ unless_starting (role past.seen)
      (quit_by past.peers past.step.node (said_by from (message_in t))) →
      (unheeded past.peers past.seen ≡ None → Heeds x (grown x past (handles steer charge from t x past))) →
      Heeds x (grown x past (handles steer charge from t x past))
  by_taken Stranger (Good (Message m)) left calm = calm (left ∙ none_starting (role past.seen) None refl)
  by_taken (Peer p) (Good (Message m)) left calm = by_kind p m left calm (is_quit m.kind) refl
  by_taken from _ left calm = calm (left ∙ none_starting (role past.seen) _ (said_none past.peers past.step.node from))

-- what seems to come from the port itself
own_said : (peers : List PeerId) (n : ℕ) (from : Place) (x : ℕ) (past : Past) (m : Taken) → past.own.0 ≡ n → is_own from x past ≡ true →
    quit_by peers n (said_by from (message_in m)) ≡ None
own_said peers n Stranger x past (Good (Message m)) is e = refl
own_said peers n (Peer p) x past (Good (Message m)) is e =
    let same : (p.0 == n) ≡ true = subst (λ k. (p.0 == k) ≡ true) is e in
    ap (λ b. if is_quit m.kind && (is_among p peers && not b) then Some p else None) same ∙
    ap (λ b. if b then Some p else None) (and_right (is_quit m.kind) (is_among p peers && false) (and_right (is_among p peers) false refl))
own_said peers n from x past _ is e = said_none peers n from

-- a datagram is taken
pub takes_heed : (steer charge : Bool) (from : Place) (t : Taken) (x : ℕ) (past : Past) → past.own.0 ≡ past.step.node →
    Heeds x (grown x past (takes steer charge from t x past))
unfolding takes puts ◌followed_by◌ either_by nothing
takes_heed steer charge from t x past own = by_case (is_own from x (grown x past (Took from t ∷ []))) refl where
  by_case : (b : Bool) → is_own from x (grown x past (Took from t ∷ [])) ≡ b → Heeds x (grown x past (Took from t ∷
      (if b then [] else handles steer charge from t x (grown x past (Took from t ∷ [])))))
  by_case true e = none_starting (role past.seen) _ (own_said past.peers past.step.node from x (grown x past (Took from t ∷ [])) t own e)
  by_case false e = handled steer charge from t x (grown x past (Took from t ∷ [])) refl

pub open_heeds : (x : ℕ) (past : Past) → Open x past → Heeds x past
open_heeds x past h = untaken_heeds past.peers past.seen h.took.0

-- a round that is given up after it
upsetting_heeds : (row : Row) (x : ℕ) (past : Past) → Heeds x (grown x past (row x past)) → Heeds x (grown x past (upsetting row x past))
unfolding upsetting
upsetting_heeds row x past h = by_case (corrects (row x past)) where
  by_case : (b : Bool) → Heeds x (grown x past (row x past ++ (if b then abandons_going x (grown x past (row x past)) else [])))
  by_case false = subst (λ acts. Heeds x (grown x past acts)) (sym (append-nil (row x past))) h
  by_case true =
      let now = grown x past (row x past) in
      rw added_append (calm_heeds false true past.step x past.peers (abandons_going x now) now.seen
      ((calm_abandons_going {strange = false} {moving = true}).calm x now) h)

input_heeds : (g : Given) → Leads Open (input_row g) Heeds
unfolding input_row nothing
input_heeds Turn = record { run = open_heeds }
input_heeds (Got from t) = record { run = λ x past h. upsetting_heeds (takes true true from t) x past (takes_heed true true from t x past h.own) }

-- so a port's step heeds what it takes
pub answers_heed : (g : Given) → Leads Fresh (answers g) Heeds
unfolding answers
answers_heed g = Leads_then due_sends (due_alarms followed_by input_row g) due_sends_lead
    (Leads_from (λ x past h. open_of h) (Leads_then due_alarms (input_row g) due_alarms_lead (input_heeds g)))

-- at the end of a step, in which what was taken is heeded, and which other ports' acts keep
abbrev pub EndsIn : Bool → ℕ → Past → Type 0
EndsIn stirred x past = RestsIn stirred x past × Heeds x past

pub ends_family : Family EndsIn
ends_family = record {
  still = λ x past a e h. (rests_family.still x past a e h.0, h.1);
  moved = λ x past a e h. (rests_family.moved x past a e h.0, h.1);
  weaken = λ x past h. (rests_family.weaken x past h.0, h.1);
  abandons = λ x past h. (rests_family.abandons x past h.0, h.1);
  shut = λ x past e h. (rests_family.shut x past e h.0, h.1);
}
