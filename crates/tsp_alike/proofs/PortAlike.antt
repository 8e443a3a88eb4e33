-- Facts of a port at alike pasts: role, alarms, hold, what a step took, table, backers, rivals, and its numbered sends.
use Rattle.std.proofs.Common.{◌∷◌, ap₂, sym, ap, true≢false, ◌∙◌, ◌≡◌, ℕ, ◌+◌, Bool, true, false, if◌then◌else◌, List, map, Option, None, Some, is_some, refl}
use Rattle.std.proofs.Common.{◌==◌, ◌&&◌, []}
use Rattle.tsp_rules.specs.Values.{Role, Stamp, Request, Probe, CloseAlarm, Boot, Back, Took, Become, Arm, Ring, Late, Backer, Join, Leave, Rival, Quit, Alarm}
use Rattle.tsp_rules.specs.Values.{Window, Quiet, PeerId, Place, Peer, Stranger, Follow, HOLD, ELECT_MIN, Post, Acked, Gave, Correct, Message}
use Rattle.tsp_rules.specs.Renames.{Renaming, Naming, Knows, renamed_place, renamed_role, known_role, later_sends}
use Rattle.tsp_base.specs.Words.{Correcting, Deed, Begins, Acts, Seen, Deadlines, deadline, with_deadline, Held, may_back, may_back_after, may_stand, Received}
use Rattle.tsp_base.specs.Words.{MessageValue, role, has_own_number, taken, acting, name_in, said, said_by, message_in, kept_name, held, armed, armed_after}
use Rattle.tsp_base.specs.Words.{in_table, backers, is_rival, Said, is_correction, is_numbered, is_date_request, is_set_date_request, is_starting, asked}
use Rattle.tsp_base.specs.Words.{probes, open_to, posts_of, message_at, sending_at, open_send, begun, last_to, number_of, last_number, last_post, corrects_by}
use Rattle.tsp_base.specs.Words.{is_acknowledged, correcting_of, last_taken, Dating, dating_of, last_date, last_asked, Step, message_of, sending_of}
use Rattle.tsp_alike.proofs.Alike.{Alike, Booted, Own, Other, here}
use Rattle.tsp_alike.specs.AlikeNodes.{renamed_deed, KnowsDeed}
use Rattle.tsp_alike.proofs.Renamed.{sending_later, later, later_deadlines, renamed_back, renamed_held, renamed_taken, renamed_said, le_after, past_later}
use Rattle.tsp_alike.proofs.Renamed.{later_date, renamed_correcting}

-- what a deed does to a fact, with other names
module _ (n : Renaming) where
  with_later : (d : Deadlines) (a : Alarm) (at : Option ℕ) → with_deadline (later_deadlines n d) a (later n at) ≡ later_deadlines n (with_deadline d a at)
  with_later d Quiet at = refl
  with_later d _ at = refl

  pub armed_deed : (d : Deed) (was : Deadlines) → armed_after (renamed_deed n d) (later_deadlines n was) ≡ later_deadlines n (armed_after d was)
  armed_deed (Acts (Arm a at)) was = with_later was a (Some at)
  armed_deed (Acts (Ring a)) was = with_later was a None
  armed_deed (Acts (Late a)) was = with_later was a None
  armed_deed _ was = refl

  deadline_later : (d : Deadlines) (a : Alarm) → deadline (later_deadlines n d) a ≡ later n (deadline d a)
  deadline_later d Quiet = refl
  deadline_later d _ = refl

  name_renamed : (t : Option Received) → name_in (renamed_taken n t) ≡ name_in t
  name_renamed None = refl
  name_renamed (Some r) = refl

  by_renamed : (from : Place) (o : Option MessageValue) → said_by (renamed_place n from) o ≡ renamed_said n (said_by from o)
  by_renamed (Peer p) (Some msg) = refl
  by_renamed (Peer p) None = refl
  by_renamed Stranger o = refl

  pub said_renamed : (t : Option Received) → said (renamed_taken n t) ≡ renamed_said n (said t)
  said_renamed None = refl
  said_renamed (Some r) = by_renamed r.from (message_in r.taken)

  asked_if : (b : Bool) (x : ℕ) (was : Option ℕ) → (if b then Some (x + n.shift) else later n was) ≡ later n (if b then Some x else was)
  asked_if true x was = refl
  asked_if false x was = refl

  correcting_renamed : (o : Option Said) → correcting_of (renamed_said n o) ≡ renamed_correcting n (correcting_of o)
  correcting_renamed None = refl
  correcting_renamed (Some s) = by_case (is_correction s.message.kind) where
    by_case : (b : Bool) → (if b then Some (record { from = n.peer s.from; number = s.message.number }) else None) ≡ renamed_correcting n
        (if b then Some (record { from = s.from; number = s.message.number }) else None)
    by_case true = refl
    by_case false = refl

-- the same, where peers are told apart or known
module _ (m : Naming) where
  window_with : (d : Deadlines) (a : Alarm) (at : ℕ) → Knows m (Arm a at) → (is_some d.window ≡ true → m.stands) →
      is_some (with_deadline d a (Some at)).window ≡ true → m.stands
  window_with d Window at knows k e = knows
  window_with d _ at knows k e = k e

  window_off : (d : Deadlines) (a : Alarm) → (is_some d.window ≡ true → m.stands) → is_some (with_deadline d a None).window ≡ true → m.stands
  window_off d Window k e = absurd (true≢false (sym e))
  window_off d _ k e = k e

  window_deed : (d : Deed) (was : Deadlines) → KnowsDeed m d → (is_some was.window ≡ true → m.stands) → is_some (armed_after d was).window ≡ true → m.stands
  window_deed (Acts Boot) was knows k e = absurd (true≢false (sym e))
  window_deed (Acts (Become r)) was knows k e = absurd (true≢false (sym e))
  window_deed (Acts (Arm a at)) was knows k e = window_with was a at knows k e
  window_deed (Acts (Ring a)) was knows k e = window_off was a k e
  window_deed (Acts (Late a)) was knows k e = window_off was a k e
  window_deed _ was knows k e = k e

  back_renamed : (o : Option (ℕ × PeerId)) (x : ℕ) (p : PeerId) → may_back_after (renamed_back m.names o) (x + m.names.shift) (m.names.peer p) ≡
      may_back_after o x p
  back_renamed None x p = refl
  back_renamed (Some b) x p = let e = m.same b.1 p in let l = le_after b.0 HOLD x m.names.shift in rw (e, l) refl

  stand_renamed : (h : Held) (x : ℕ) (own : PeerId) → may_stand (renamed_held m.names h) (x + m.names.shift) (m.names.peer own) ≡ may_stand h x own
  stand_renamed h x own =
      let b = past_later m.names h.quit ELECT_MIN x in
      rw (le_after h.boot ELECT_MIN x m.names.shift, b, back_renamed h.back x own) refl

-- facts of a port, of its clock and of its sends that are told apart by no peer
pub record Facts : Type 0 where
  pub role : Role
  pub taken : Option Received
  pub acting : Bool
  pub held : Held
  pub kept_name : List ℕ
  pub backers : List PeerId
  pub begun : ℕ
  pub last_taken : Option Correcting
  pub last_asked : Option ℕ
  pub is_starting : Bool
  pub asked : ℕ
  pub probes : ℕ

abbrev pub facts : List Seen → Facts
facts seen = record {
  role = role seen;
  taken = taken seen;
  acting = acting seen;
  held = held seen;
  kept_name = kept_name seen;
  backers = backers seen;
  begun = begun seen;
  last_taken = last_taken seen;
  last_asked = last_asked seen;
  is_starting = is_starting seen;
  asked = asked seen;
  probes = probes seen;
}

abbrev pub renamed_facts : Renaming → Facts → Facts
renamed_facts n f = record f {
  role = renamed_role n f.role;
  taken = renamed_taken n f.taken;
  held = renamed_held n f.held;
  backers = map n.peer f.backers;
  last_taken = renamed_correcting n f.last_taken;
  last_asked = later n f.last_asked;
}

change : (c : Facts → Facts) {f g : Facts} → f ≡ g → c f ≡ c g
change c e = ap c e

module _ {m : Naming} where
  pub facts_alike : {seen seen' : List Seen} → Alike m seen seen' → facts seen' ≡ renamed_facts m.names (facts seen)
  facts_alike (Booted s s' cause x old old') = refl
  facts_alike (Own s s' x Begins ok knows a) = change (λ f. record f { taken = None; acting = false; is_starting = false }) (facts_alike a)
  facts_alike (Own s s' x (Acts Boot) ok knows a) = absurd (true≢false (sym ok))
  facts_alike (Own s s' x (Acts (Took from t)) ok knows a) =
      change (λ f. record f { taken = Some (record { from = renamed_place m.names from; taken = t }); acting = true }) (facts_alike a)
  facts_alike (Own s s' x (Acts (Become (Follow p))) ok knows {before = b} a) =
      let followed : List ℕ → Facts → Facts = λ name f. record f { role = Follow (m.names.peer p); kept_name = name; backers = []; probes = 0 } in
      change (λ f. followed (name_in f.taken) f) (facts_alike a) ∙ ap (λ z. followed z (renamed_facts m.names (facts b))) (name_renamed m.names (taken b))
  facts_alike (Own s s' x (Acts (Become r)) ok knows a) = change (λ f. record f { role = r; backers = []; probes = 0 }) (facts_alike a)
  facts_alike (Own s s' x (Acts (Ring Probe)) ok knows a) = change (λ f. record f { acting = true; probes = f.probes + 1 }) (facts_alike a)
  facts_alike (Own s s' x (Acts (Ring alarm)) ok knows a) = change (λ f. record f { acting = true }) (facts_alike a)
  facts_alike (Own s s' x (Acts (Late alarm)) ok knows a) = change (λ f. record f { acting = true }) (facts_alike a)
  facts_alike (Own s s' x (Acts (Arm CloseAlarm at)) ok knows a) = change (λ f. record f { is_starting = true; probes = 0 }) (facts_alike a)
  facts_alike (Own s s' x (Acts (Back p)) ok knows a) = change (λ f. record f { held = record f.held { back = Some (x + m.names.shift, m.names.peer p) } })
      (facts_alike a)
  facts_alike (Own s s' x (Acts (Quit p)) ok knows a) = change (λ f. record f { held = record f.held { quit = Some (x + m.names.shift) } }) (facts_alike a)
  facts_alike (Own s s' x (Acts (Backer p)) ok knows a) = change (λ f. record f { backers = m.names.peer p ∷ f.backers }) (facts_alike a)
  facts_alike (Own s s' x (Acts (Post to (Message msg))) ok knows {before = b} a) =
      let begins : Facts → Facts = λ f. record f { begun = if has_own_number msg.kind && f.acting then f.begun + 1 else f.begun } in
      let asks : Option ℕ → Facts → Facts = λ at f. record (begins f) { last_asked = at } in
      change (λ f. asks (if is_set_date_request msg.kind && f.acting then Some (x + m.names.shift) else f.last_asked) f) (facts_alike a)
      ∙ ap (λ z. asks z (renamed_facts m.names (facts b))) (asked_if m.names (is_set_date_request msg.kind && acting b) x (last_asked b))
  facts_alike (Own s s' x (Acts (Post to (Stamp (Request word counter)))) ok knows a) = change (λ f. record f { asked = f.asked + 1 }) (facts_alike a)
  facts_alike (Own s s' x (Acts (Correct amount stepped value)) ok knows {before = b} a) =
      let takes : Option Correcting → Facts → Facts = λ c f. record f { last_taken = c } in
      change (λ f. takes (correcting_of (said f.taken)) f) (facts_alike a)
      ∙ ap (λ z. takes z (renamed_facts m.names (facts b))) (ap correcting_of (said_renamed m.names (taken b)) ∙ correcting_renamed m.names (said (taken b)))
  facts_alike (Own s s' x _ ok knows a) = facts_alike a
  facts_alike (Other n shift s s' x (Acts (Correct amount stepped value)) ok a) = change (λ f. record f { last_taken = None }) (facts_alike a)
  facts_alike (Other n shift s s' x _ ok a) = facts_alike a

  pub role_alike : {seen seen' : List Seen} → Alike m seen seen' → role seen' ≡ renamed_role m.names (role seen)
  role_alike a = ap (λ (f : Facts). f.role) (facts_alike a)

  acting_alike : {seen seen' : List Seen} → Alike m seen seen' → acting seen' ≡ acting seen
  acting_alike a = ap (λ (f : Facts). f.acting) (facts_alike a)

  -- only a known peer is followed, and only a port that may stand for election is a candidate
  pub role_known : {seen seen' : List Seen} → Alike m seen seen' → known_role m (role seen)
  role_known (Booted s s' cause x old old') = tt
  role_known (Own s s' x (Acts Boot) ok knows a) = tt
  role_known (Own s s' x (Acts (Become r)) ok knows a) = knows
  role_known (Own s s' x _ ok knows a) = role_known a
  role_known (Other n shift s s' x d ok a) = role_known a

  -- alarms
  pub armed_alike : {seen seen' : List Seen} → Alike m seen seen' → armed seen' ≡ later_deadlines m.names (armed seen)
  armed_alike (Booted s s' cause x old old') = refl
  armed_alike (Own s s' x d ok knows {before = b} a) = ap (armed_after (renamed_deed m.names d)) (armed_alike a) ∙ armed_deed m.names d (armed b)
  armed_alike (Other n shift s s' x d ok a) = armed_alike a

  pub deadline_alike : {seen seen' : List Seen} → Alike m seen seen' → (alarm : Alarm) → deadline (armed seen') alarm ≡
      later m.names (deadline (armed seen) alarm)
  deadline_alike {seen = z} a alarm = ap (λ d. deadline d alarm) (armed_alike a) ∙ deadline_later m.names (armed z) alarm

  -- only a port that may stand for election waits for the end of the window
  pub window_stands : {seen seen' : List Seen} → Alike m seen seen' → is_some (deadline (armed seen) Window) ≡ true → m.stands
  window_stands (Booted s s' cause x old old') e = absurd (true≢false (sym e))
  window_stands (Own s s' x d ok knows {before = b} a) e = window_deed m d (armed b) knows (window_stands a) e
  window_stands (Other n shift s s' x d ok a) e = window_stands a e

  -- the hold
  pub may_back_alike : {seen seen' : List Seen} → Alike m seen seen' → (x : ℕ) (p : PeerId) → may_back (held seen') (x + m.names.shift) (m.names.peer p) ≡
      may_back (held seen) x p
  may_back_alike {seen = z} a x p = ap (λ h. may_back h (x + m.names.shift) (m.names.peer p)) (ap (λ (f : Facts). f.held) (facts_alike a)) ∙ back_renamed m
      (held z).back x p

  pub may_stand_alike : {seen seen' : List Seen} → Alike m seen seen' → (x : ℕ) (own : PeerId) → may_stand (held seen') (x + m.names.shift) (m.names.peer own) ≡
      may_stand (held seen) x own
  may_stand_alike {seen = z} a x own = ap (λ h. may_stand h (x + m.names.shift) (m.names.peer own)) (ap (λ (f : Facts). f.held) (facts_alike a))
      ∙ stand_renamed m (held z) x own

  pub in_table_alike : (p : PeerId) → {seen seen' : List Seen} → Alike m seen seen' → in_table (m.names.peer p) seen' ≡ in_table p seen
  in_table_alike p (Booted s s' cause x old old') = refl
  in_table_alike p (Own s s' x (Acts Boot) ok knows a) = refl
  in_table_alike p (Own s s' x (Acts (Become r)) ok knows a) = refl
  in_table_alike p (Own s s' x (Acts (Join q)) ok knows a) = ap₂ (λ same was. if same then true else was) (m.same q p) (in_table_alike p a)
  in_table_alike p (Own s s' x (Acts (Leave q)) ok knows a) =
      ap₂ (λ same was. if same then false else was) (m.same q p) (in_table_alike p a)
  in_table_alike p (Own s s' x _ ok knows a) = in_table_alike p a
  in_table_alike p (Other n shift s s' x d ok a) = in_table_alike p a

  pub is_rival_alike : (p : PeerId) → {seen seen' : List Seen} → Alike m seen seen' → is_rival (m.names.peer p) seen' ≡ is_rival p seen
  is_rival_alike p (Booted s s' cause x old old') = refl
  is_rival_alike p (Own s s' x (Acts Boot) ok knows a) = refl
  is_rival_alike p (Own s s' x (Acts (Become r)) ok knows a) = refl
  is_rival_alike p (Own s s' x (Acts (Rival q)) ok knows a) = ap₂ (λ same was. if same then true else was) (m.same q p) (is_rival_alike p a)
  is_rival_alike p (Own s s' x _ ok knows a) = is_rival_alike p a
  is_rival_alike p (Other n shift s s' x d ok a) = is_rival_alike p a

-- places in alike pasts: the deeds there, and what was before them, are alike

-- no place in both, or places of own deeds that are alike
pub data AlikePlaces (m : Naming) : List Seen → List Seen → Type 0 where
  Nowhere : AlikePlaces m [] []
  There : (s s' : Step) (x : ℕ) (deed : Deed) → {before before' : List Seen} → Alike m before before' →
      AlikePlaces m (here s x deed ∷ before) (here s' (x + m.names.shift) (renamed_deed m.names deed) ∷ before')

pub message_renamed : (n : Renaming) (d : Deed) → message_of (renamed_deed n d) ≡ message_of d
message_renamed n (Acts (Post to (Message msg))) = refl
message_renamed n _ = refl

-- one of two places, by a test that says the same in both pasts
pub either_place : (m : Naming) → (b b' : Bool) → b' ≡ b → {p p' q q' : List Seen} → AlikePlaces m p p' → AlikePlaces m q q' →
    AlikePlaces m (if b then p else q) (if b' then p' else q')
either_place m true true e first second = first
either_place m false false e first second = second
either_place m true false e first second = absurd (true≢false (sym e))
either_place m false true e first second = absurd (true≢false e)

module _ {m : Naming} where
  pub message_at_alike : {place place' : List Seen} → AlikePlaces m place place' → message_at place' ≡ message_at place
  message_at_alike Nowhere = refl
  message_at_alike (There s s' x d a) = message_renamed m.names d

  pub sending_at_alike : {place place' : List Seen} → AlikePlaces m place place' → (posts : ℕ) → sending_at place' posts ≡
      later_sends m.names (sending_at place posts)
  sending_at_alike Nowhere posts = refl
  sending_at_alike (There s s' x d a) posts = ap (λ o. sending_of o (x + m.names.shift) posts) (message_renamed m.names d) ∙
      sending_later m.names (message_of d) x posts

-- the same for one peer, where peers are told apart
module _ (m : Naming) where
  date_if : (b : Bool) (x number : ℕ) (was : Option Dating) → (if b then Some (record { at = x + m.names.shift; number = number }) else later_date m.names was)
      ≡ later_date m.names (if b then Some (record { at = x; number = number }) else was)
  date_if true x number was = refl
  date_if false x number was = refl

  dating_renamed : (p : PeerId) (x : ℕ) (o : Option Said) (was : Option Dating) →
      dating_of (m.names.peer p) (x + m.names.shift) (renamed_said m.names o) (later_date m.names was) ≡ later_date m.names (dating_of p x o was)
  dating_renamed p x None was = refl
  dating_renamed p x (Some s) was =
      ap (λ b. if b && is_date_request s.message.kind then Some (record { at = x + m.names.shift; number = s.message.number }) else later_date m.names was)
      (m.same s.from p)
      ∙ date_if ((s.from.0 == p.0) && is_date_request s.message.kind) x s.message.number was

module _ {m : Naming} where
  -- open sends
  pub open_to_alike : (p : PeerId) → {seen seen' : List Seen} → Alike m seen seen' → AlikePlaces m (open_to p seen) (open_to (m.names.peer p) seen')
  open_to_alike p (Booted s s' boot x old old') = Nowhere
  open_to_alike p (Own s s' x (Acts Boot) ok knows a) = Nowhere
  open_to_alike p (Own s s' x (Acts (Become r)) ok knows a) = Nowhere
  open_to_alike p (Own s s' x (Acts (Post (Peer q) (Message msg))) ok knows a) =
      either_place m _ _ (ap₂ (λ same begins. same && (is_numbered msg.kind && begins)) (m.same q p) (acting_alike a))
      (There s s' x _ a) (open_to_alike p a)
  open_to_alike p (Own s s' x (Acts (Acked q)) ok knows a) = either_place m _ _ (m.same q p) Nowhere (open_to_alike p a)
  open_to_alike p (Own s s' x (Acts (Gave q)) ok knows a) = either_place m _ _ (m.same q p) Nowhere (open_to_alike p a)
  open_to_alike p (Own s s' x _ ok knows a) = open_to_alike p a
  open_to_alike p (Other n shift s s' x d ok a) = open_to_alike p a

  pub posts_of_alike : (p : PeerId) → {seen seen' : List Seen} → Alike m seen seen' → posts_of (m.names.peer p) seen' ≡ posts_of p seen
  posts_of_alike p (Booted s s' boot x old old') = refl
  posts_of_alike p (Own s s' x (Acts Boot) ok knows a) = refl
  posts_of_alike p (Own s s' x (Acts (Become r)) ok knows a) = refl
  posts_of_alike p (Own s s' x (Acts (Post (Peer q) (Message msg))) ok knows a) = rw (m.same q p, acting_alike a, posts_of_alike p a) refl
  posts_of_alike p (Own s s' x (Acts (Acked q)) ok knows a) = ap₂ (λ same n. if same then 0 else n) (m.same q p) (posts_of_alike p a)
  posts_of_alike p (Own s s' x (Acts (Gave q)) ok knows a) = ap₂ (λ same n. if same then 0 else n) (m.same q p) (posts_of_alike p a)
  posts_of_alike p (Own s s' x _ ok knows a) = posts_of_alike p a
  posts_of_alike p (Other n shift s s' x d ok a) = posts_of_alike p a

  pub open_send_alike : (p : PeerId) → {seen seen' : List Seen} → Alike m seen seen' → open_send (m.names.peer p) seen' ≡ later_sends m.names (open_send p seen)
  open_send_alike p {seen = z} {seen' = z'} a = ap (sending_at (open_to (m.names.peer p) z')) (posts_of_alike p a) ∙
      sending_at_alike (open_to_alike p a) (posts_of p z)

  -- the last correction of a peer
  pub last_to_alike : (p : PeerId) → {seen seen' : List Seen} → Alike m seen seen' → AlikePlaces m (last_to p seen) (last_to (m.names.peer p) seen')
  last_to_alike p (Booted s s' boot x old old') = Nowhere
  last_to_alike p (Own s s' x (Acts Boot) ok knows a) = Nowhere
  last_to_alike p (Own s s' x (Acts (Post (Peer q) (Message msg))) ok knows a) =
      either_place m _ _ (ap₂ (λ same begins. same && (is_correction msg.kind && begins)) (m.same q p) (acting_alike a))
      (There s s' x _ a) (last_to_alike p a)
  last_to_alike p (Own s s' x _ ok knows a) = last_to_alike p a
  last_to_alike p (Other n shift s s' x d ok a) = last_to_alike p a

  pub last_number_alike : (p : PeerId) → {seen seen' : List Seen} → Alike m seen seen' → last_number (m.names.peer p) seen' ≡ last_number p seen
  last_number_alike p a = ap number_of (message_at_alike (last_to_alike p a))

  pub last_post_alike : (p : PeerId) → {seen seen' : List Seen} → Alike m seen seen' → last_post (m.names.peer p) seen' ≡ later m.names (last_post p seen)
  last_post_alike p (Booted s s' boot x old old') = refl
  last_post_alike p (Own s s' x (Acts Boot) ok knows a) = refl
  last_post_alike p (Own s s' x (Acts (Post (Peer q) (Message msg))) ok knows {before = b} a) =
      ap₂ (λ same was. if same && is_correction msg.kind then Some (x + m.names.shift) else was) (m.same q p) (last_post_alike p a)
      ∙ asked_if m.names ((q.0 == p.0) && is_correction msg.kind) x (last_post p b)
  last_post_alike p (Own s s' x _ ok knows a) = last_post_alike p a
  last_post_alike p (Other n shift s s' x d ok a) = last_post_alike p a

  -- whether the open send corrects
  corrects_alike : (p : PeerId) → {seen seen' : List Seen} → Alike m seen seen' → corrects_by (message_at (open_to (m.names.peer p) seen')) ≡
      corrects_by (message_at (open_to p seen))
  corrects_alike p a = ap corrects_by (message_at_alike (open_to_alike p a))

  pub is_acknowledged_alike : (p : PeerId) → {seen seen' : List Seen} → Alike m seen seen' → is_acknowledged (m.names.peer p) seen' ≡ is_acknowledged p seen
  is_acknowledged_alike p (Booted s s' boot x old old') = refl
  is_acknowledged_alike p (Own s s' x (Acts Boot) ok knows a) = refl
  is_acknowledged_alike p (Own s s' x (Acts (Post (Peer q) (Message msg))) ok knows a) =
      rw (m.same q p, acting_alike a, is_acknowledged_alike p a) refl
  is_acknowledged_alike p (Own s s' x (Acts (Acked q)) ok knows a) = rw (m.same q p, corrects_alike p a, is_acknowledged_alike p a) refl
  is_acknowledged_alike p (Own s s' x _ ok knows a) = is_acknowledged_alike p a
  is_acknowledged_alike p (Other n shift s s' x d ok a) = is_acknowledged_alike p a

  -- dates
  pub last_date_alike : (p : PeerId) → {seen seen' : List Seen} → Alike m seen seen' → last_date (m.names.peer p) seen' ≡ later_date m.names (last_date p seen)
  last_date_alike p (Booted s s' boot x old old') = refl
  last_date_alike p (Own s s' x (Acts Boot) ok knows a) = refl
  last_date_alike p (Own s s' x (Acts (Correct amount stepped value)) ok knows {before = b} a) =
      ap₂ (dating_of (m.names.peer p) (x + m.names.shift)) (ap (λ (f : Facts). said f.taken) (facts_alike a) ∙ said_renamed m.names (taken b))
      (last_date_alike p a)
      ∙ dating_renamed m p x (said (taken b)) (last_date p b)
  last_date_alike p (Own s s' x _ ok knows a) = last_date_alike p a
  last_date_alike p (Other n shift s s' x d ok a) = last_date_alike p a
