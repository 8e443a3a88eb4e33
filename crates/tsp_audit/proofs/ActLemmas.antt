-- Sends that are taken, and sends that are acknowledged, by the list of those of which Corrects have taken posts.
use Rattle.std.proofs.Common.{sym, ap, subst, ◌∙◌, inl, inr, true≢false, eqb-true, eq-eqb, ◌≡◌, ℕ, Bool, true, false, not, List, [], ◌∷◌, ◌++◌, ◌||◌, ◌==◌}
use Rattle.std.proofs.Common.{refl, MatchBool, MatchOption, Option, None, Some}
use Rattle.std.proofs.lemmas.{Bool.or_left, List.Folds.list_any-append}
use Rattle.tsp_rules.specs.Values.{Post, Acked, Message, PeerId, Peer}
use Rattle.tsp_base.specs.Words.{Acts, Did, Here, Line, Seen, of, view, MessageValue, Within, is_correction, is_numbered, open_to, peer_of}
use Rattle.tsp_promises.specs.{Everywhere.Everywhere, Fits.node_of, Setting.Setting, Once.ConfirmedAt, Once.ObeysAt, Once.OfSend, Once.OnceAt, Once.SpacedAt}
use Rattle.tsp_promises.proofs.{shared.EverywhereLemmas.Everywhere_at, shared.EverywhereLemmas.Everywhere_from, promised.SendProof.opened}
use Rattle.tsp_base.proofs.PlaceLemmas.{Within_all, Within_tail, Within_through}
use Rattle.tsp_audit.proofs.SendPlaces.{one_number, one_place, send_number, takes_one}
use Rattle.tsp_audit.specs.Acting.{ActedIs, ActsAt, Corrects, TakenIn, TakesAs, TakesSend, TakesWell, is_in, is_unknown, with_send}
use Rattle.tsp_audit.specs.{Parts.ActsOnce, Parts.AllKept, declared.premises.Premises.Premises}
use Rattle.tsp_history.specs.PostedPlaces.{PostedAt}
use Rattle.tsp_audit.proofs.Alike.{acked_same, carry, here_same, message_same, none_first, peer_same}

-- what is among some numbers isn't one that isn't
parted : (k s : ℕ) (acted : List ℕ) → k ≡ s → is_in k acted ≡ true → is_in s acted ≡ false → ⊥
parted k s acted same there new = true≢false (sym there ∙ (ap (λ (n : ℕ). is_in n acted) same ∙ new))

-- what takes no post of a send takes none twice
pub once_none : (l : Line) (h : List Line) → ((s : ℕ) → TakesSend l h s → ⊥) → OnceAt is_numbered l h
once_none l h bad = λ post c other older past rest first begun acts kind w other_acts sends other_sends.
    let b = send_number (node_of l) post older first begun sends in
    bad b.number (record { post = post; older = older; first = first; begun = begun; acts = acts; of_send = sends; at = b.at })

-- a send that no Correct has taken is taken for the first time
pub once_new : (l : Line) (h : List Line) (acted : List ℕ) (s : ℕ) → ActedIs h acted → TakesSend l h s → is_in s acted ≡ false → OnceAt is_numbered l h
once_new l h acted s a t new = λ post c other older past rest first begun acts kind w other_acts sends other_sends.
    let b = send_number (node_of l) post older first begun sends in
    let o = send_number (node_of c) other rest first begun other_sends in
    let mine : TakesSend l h b.number = record { post = post; older = older; first = first; begun = begun; acts = acts; of_send = sends; at = b.at } in
    let theirs : TakesSend c past o.number = record {
      post = other;
      older = rest;
      first = first;
      begun = begun;
      acts = other_acts;
      of_send = other_sends;
      at = o.at;
    } in
    let equal : b.number ≡ o.number =
    one_number h (node_of post) (node_of other) post.port other.port (post ∷ older) (other ∷ rest) (Here first ∷ begun) (Here first ∷
    begun) b.number o.number acts.brings.place
    (Within_through (other ∷ rest) past h other_acts.brings.place (Within_tail c past h w)) b.at o.at refl in
    let same : o.number ≡ s = sym equal ∙ takes_one l h b.number s mine t in
    parted o.number s acted same (a.complete c past o.number w theirs) new

other_send : (k : ℕ) (post : Line) (older : List Line) (first start : Did) (begun past : List Seen) → OfSend k post older first begun → Here first ∷ begun ≡
    Here start ∷ past → OfSend k post older start past
other_send k post older first start begun past sends e = record { message = sends.message; deed = sends.deed; numbered = sends.numbered; is = sends.is ∙ e }

-- a send that a Correct has taken is taken twice
pub once_again : (l : Line) (h : List Line) (acted : List ℕ) (s : ℕ) → ActedIs h acted → TakesSend l h s → is_in s acted ≡ true → OnceAt is_numbered l h → ⊥
once_again l h acted s a t old once =
    let x = a.sound s old in
    let seen : Here x.takes.first ∷ x.takes.begun ≡ Here t.first ∷ t.begun =
    one_place h (node_of x.takes.post) (node_of t.post) x.takes.post.port t.post.port (x.takes.post ∷ x.takes.older) (t.post ∷ t.older) (Here x.takes.first ∷
    x.takes.begun) (Here t.first ∷ t.begun) s
    (Within_through (x.takes.post ∷ x.takes.older) x.past h x.takes.acts.brings.place (Within_tail x.correct x.past h x.place)) t.acts.brings.place x.takes.at
    t.at in
    let deeds : Acts (Post (Peer (peer_of (node_of l))) (Message t.of_send.message)) ≡
    Acts (Post (Peer (peer_of (node_of l))) (Message t.acts.brings.message)) = sym t.of_send.deed ∙ t.acts.brings.deed in
    let message : t.of_send.message ≡ t.acts.brings.message = message_same deeds in
    once t.post x.correct x.takes.post t.older x.past x.takes.older t.first t.begun t.acts (subst (λ (m : MessageValue). is_numbered m.kind ≡
    true) message t.of_send.numbered) x.place x.takes.acts t.of_send
    (other_send (node_of x.correct) x.takes.post x.takes.older x.takes.first t.first x.takes.begun t.begun x.takes.of_send seen)

-- no Correct in an empty history
pub acted_none : ActedIs [] []
acted_none = record {
  sound = λ s i. absurd (true≢false (sym i));
  complete = λ c past s w t. absurd (none_first w);
}

taken_more : (l : Line) (h : List Line) (s : ℕ) → TakenIn h s → TakenIn (l ∷ h) s
taken_more l h s x = record { correct = x.correct; past = x.past; place = inr x.place; takes = x.takes }

-- a line that takes no post of a send
pub acted_same : (l : Line) (h : List Line) (acted : List ℕ) → ActedIs h acted → ((s : ℕ) → TakesSend l h s → ⊥) → ActedIs (l ∷ h) acted
acted_same l h acted a bad = record { sound = λ s i. taken_more l h s (a.sound s i); complete = all } where
  all : (c : Line) (past : List Line) (s : ℕ) → Within (c ∷ past) (l ∷ h) → TakesSend c past s → is_in s acted ≡ true
  all c past s (inl e) t = absurd (bad s (carry (λ (k : Line) (p : List Line). TakesSend k p s) e t))
  all c past s (inr w) t = a.complete c past s w t

in_more : (t s : ℕ) (acted : List ℕ) → is_in t (acted ++ s ∷ []) ≡ (is_in t acted || ((s == t) || false))
in_more t s acted = list_any-append (λ k. k == t) acted (s ∷ [])

either : (b c : Bool) → (b || (c || false)) ≡ true → b ≡ false → c ≡ true
either true c e f = absurd (true≢false f)
either false true e f = refl
either false false e f = absurd (true≢false (sym e))

right : (b c : Bool) → c ≡ true → (b || (c || false)) ≡ true
right true c e = refl
right false c e = rw e refl

-- a line that takes a post of a send
pub acted_more : (l : Line) (h : List Line) (acted : List ℕ) (s : ℕ) → ActedIs h acted → TakesSend l h s → ActedIs (l ∷ h) (acted ++ s ∷ [])
acted_more l h acted s a t = record { sound = λ k i. known k (is_in k acted) refl (sym (in_more k s acted) ∙ i); complete = all } where
  known : (k : ℕ) (b : Bool) → is_in k acted ≡ b → (is_in k acted || ((s == k) || false)) ≡ true → TakenIn (l ∷ h) k
  known k true e i = taken_more l h k (a.sound k e)
  known k false e i =
      let same : s ≡ k = eqb-true s k (either (is_in k acted) (s == k) i e) in
      record { correct = l; past = h; place = inl refl; takes = subst (λ (n : ℕ). TakesSend l h n) same t }

  all : (c : Line) (past : List Line) (k : ℕ) → Within (c ∷ past) (l ∷ h) → TakesSend c past k → is_in k (acted ++ s ∷ []) ≡ true
  all c past k (inl e) u =
      let same : s ≡ k = takes_one l h s k t (carry (λ (i : Line) (p : List Line). TakesSend i p k) e u) in
      in_more k s acted ∙ right (is_in k acted) (s == k) (eq-eqb s k same)
  all c past k (inr w) u = in_more k s acted ∙ or_left (is_in k acted) ((s == k) || false) (a.complete c past k w u)

-- an Acked that ends a send which is no correction
pub confirmed_other : (l : Line) (h : List Line) (p : PeerId) (s : ℕ) → l.did.deed ≡ Acts (Acked p) →
    PostedAt (node_of l) l.port h (open_to p (view l.port (of (node_of l) h))) s → Corrects h s false → ConfirmedAt l h
confirmed_other l h p s deed at other = λ q first older m e o d k.
    let peer : p ≡ q = acked_same (sym deed ∙ e) in
    let opened_is : Here first ∷ older ≡ open_to p (view l.port (of (node_of l) h)) =
    sym (subst (λ (r : PeerId). open_to r (view l.port (of (node_of l) h)) ≡ Here first ∷ older) (sym peer) o) in
    let same : Here first ∷ older ≡ Here at.line.did ∷ view l.port (of (node_of l) at.before) = opened_is ∙ at.is in
    let did : first ≡ at.line.did = here_same same in
    let kind : is_correction m.kind ≡ false = other at.line at.before q m at.within (subst (λ (f : Did). f.deed ≡ Acts (Post (Peer q) (Message m))) did d)
    at.number in
    absurd (true≢false (sym k ∙ kind))

-- an Acked that ends a correction which a Correct has taken
pub confirmed-yes : (l : Line) (h : List Line) (acted : List ℕ) (p : PeerId) (s : ℕ) → ActedIs h acted → l.did.deed ≡ Acts (Acked p) →
    PostedAt (node_of l) l.port h (open_to p (view l.port (of (node_of l) h))) s → is_in s acted ≡ true →
    ConfirmedAt l h
confirmed-yes l h acted p s a deed at old = λ q first older m e o d k.
    let x = a.sound s old in
    let t = x.takes in
    let peer : p ≡ q = acked_same (sym deed ∙ e) in
    let opened_is : open_to p (view l.port (of (node_of l) h)) ≡ Here first ∷ older = subst (λ (r : PeerId). open_to r (view l.port (of (node_of l) h)) ≡
    Here first ∷ older) (sym peer) o in
    let seen : Here t.first ∷ t.begun ≡ Here first ∷ older =
    one_place h (node_of t.post) (node_of l) t.post.port l.port (t.post ∷ t.older) h (Here t.first ∷ t.begun) (open_to p (view l.port (of (node_of l) h))) s
    (Within_through (t.post ∷ t.older) x.past h t.acts.brings.place (Within_tail x.correct x.past h x.place)) (Within_all h) t.at at ∙ opened_is in
    let did : t.first ≡ first = here_same seen in
    let b = send_number (node_of x.correct) t.post t.older t.first t.begun t.of_send in
    let deeds : Acts (Post (Peer (peer_of (node_of x.correct))) (Message b.message)) ≡ Acts (Post (Peer q) (Message m)) = sym b.deed ∙
    (ap (λ (f : Did). f.deed) did ∙ d) in
    let to : peer_of (node_of x.correct) ≡ q = peer_same deeds in
    let node : node_of x.correct ≡ q.0 = ap (λ (r : PeerId). r.0) to in
    let mine : Here t.first ∷ t.begun ≡ Here t.at.line.did ∷ view t.post.port (of (node_of t.post) t.at.before) = t.at.is in
    let theirs : Here first ∷ older ≡ Here at.line.did ∷ view l.port (of (node_of l) at.before) = sym opened_is ∙ at.is in
    let lines : t.at.line.did ≡ at.line.did = sym (here_same mine) ∙ (did ∙ here_same theirs) in
    record {
      correct = x.correct;
      past = x.past;
      place = x.place;
      node = node;
      post = t.post;
      older = t.older;
      acts = t.acts;
      from = sym t.at.node ∙ (ap (λ (f : Did). f.step.node) lines ∙ at.node);
      of_send = subst (λ (n : ℕ). OfSend n t.post t.older first older) node (other_send (node_of x.correct) t.post t.older t.first first t.begun older t.of_send
          seen);
    }

-- an Acked that ends a correction which no Correct has taken
pub confirmed_not : (l : Line) (h : List Line) (acted : List ℕ) (p : PeerId) (s : ℕ) → ActedIs h acted → l.did.deed ≡ Acts (Acked p) →
    PostedAt (node_of l) l.port h (open_to p (view l.port (of (node_of l) h))) s → Corrects h s true → is_in s acted ≡ false →
    ConfirmedAt l h → ⊥
confirmed_not l h acted p s a deed at corrects new f =
    let rest : List Seen = view l.port (of (node_of l) at.before) in
    let o = opened p (view l.port (of (node_of l) h)) at.line.did rest at.is in
    let kind : is_correction o.message.kind ≡ true = corrects at.line at.before p o.message at.within o.begins.deed at.number in
    let x = f p at.line.did rest o.message deed at.is o.begins.deed kind in
    let sends : OfSend (node_of x.correct) x.post x.older at.line.did rest = subst (λ (n : ℕ). OfSend n x.post x.older at.line.did rest) (sym x.node) x.of_send
    in
    let b = send_number (node_of x.correct) x.post x.older at.line.did rest sends in
    let theirs : TakesSend x.correct x.past b.number = record {
      post = x.post;
      older = x.older;
      first = at.line.did;
      begun = rest;
      acts = x.acts;
      of_send = sends;
      at = b.at;
    } in
    let same : b.number ≡ s =
    one_number h (node_of x.post) (node_of l) x.post.port l.port (x.post ∷ x.older) h (Here at.line.did ∷ rest) (open_to p (view l.port (of (node_of l) h)))
    b.number s
    (Within_through (x.post ∷ x.older) x.past h x.acts.brings.place (Within_tail x.correct x.past h x.place)) (Within_all h) b.at at (sym at.is) in
    parted b.number s acted same (a.complete x.correct x.past b.number x.place theirs) new

-- an Acked that ends a send which no Correct has taken
pub confirmed-rest : (l : Line) (h : List Line) (acted : List ℕ) (p : PeerId) (s : ℕ) (b : Bool) → ActedIs h acted → l.did.deed ≡ Acts (Acked p) →
    PostedAt (node_of l) l.port h (open_to p (view l.port (of (node_of l) h))) s → Corrects h s b → is_in s acted ≡ false →
    MatchBool (not b) (ConfirmedAt l h) (ConfirmedAt l h → ⊥)
confirmed-rest l h acted p s true a deed at corrects new = confirmed_not l h acted p s a deed at corrects new
confirmed-rest l h acted p s false a deed at corrects new = confirmed_other l h p s deed at corrects

-- a line takes a send again, or for the first time
pub once_decides : (l : Line) (h : List Line) (acted : List ℕ) (r : Option ℕ) → ActedIs h acted → TakesAs l h r →
    MatchBool (is_unknown r acted) (OnceAt is_numbered l h) (OnceAt is_numbered l h → ⊥)
once_decides l h acted None a t = once_none l h t
once_decides l h acted (Some s) a t = by_case (is_in s acted) refl where
  by_case : (b : Bool) → is_in s acted ≡ b → MatchBool (not b) (OnceAt is_numbered l h) (OnceAt is_numbered l h → ⊥)
  by_case true e = once_again l h acted s a t e
  by_case false e = once_new l h acted s a t e

pub acted_next : (l : Line) (h : List Line) (acted : List ℕ) (r : Option ℕ) → ActedIs h acted → TakesAs l h r → ActedIs (l ∷ h) (with_send r acted)
acted_next l h acted None a t = acted_same l h acted a t
acted_next l h acted (Some s) a t = acted_more l h acted s a t

pub takes-well : (l : Line) (h : List Line) (b : Bool) → OnceAt is_numbered l h → MatchBool b (ConfirmedAt l h) (ConfirmedAt l h → ⊥) →
    MatchBool b (TakesWell l h) (TakesWell l h → ⊥)
takes-well l h true once c = record { taken = once; confirmed = c }
takes-well l h false once c = λ w. c w.confirmed

pub acts_decide : (premises : Premises) (setting : Setting) (l : Line) (h : List Line) (b : Bool) → SpacedAt l h →
    (premises.honest ≡ true → ObeysAt setting l h) →
    MatchBool b (AllKept premises → TakesWell l h) ((AllKept premises → TakesWell l h) → ⊥) →
    MatchBool b (ActsAt premises setting l h) (ActsAt premises setting l h → ⊥)
acts_decide premises setting l h true spaced obeyed t = record { spaced = spaced; obeyed = obeyed; takes = t }
acts_decide premises setting l h false spaced obeyed t = λ a. t a.takes

pub acts_all : (premises : Premises) (setting : Setting) (h : List Line) → ActsOnce premises setting h → Everywhere (ActsAt premises setting) h
acts_all premises setting h a = Everywhere_from (ActsAt premises setting) h (λ l s w. record {
  spaced = Everywhere_at SpacedAt l s h a.spaced w;
  obeyed = λ honest. Everywhere_at (ObeysAt setting) l s h (a.obeyed honest) w;
  takes = λ kept. record {
    taken = Everywhere_at (OnceAt is_numbered) l s h (a.taken kept) w;
    confirmed = Everywhere_at ConfirmedAt l s h (a.confirmed kept) w;
  };
})

pub acts_part : (premises : Premises) (setting : Setting) (h : List Line) → Everywhere (ActsAt premises setting) h → ActsOnce premises setting h
acts_part premises setting h e = record {
  spaced = Everywhere_from SpacedAt h (λ l s w. (Everywhere_at (ActsAt premises setting) l s h e w).spaced);
  obeyed = λ honest. Everywhere_from (ObeysAt setting) h (λ l s w. (Everywhere_at (ActsAt premises setting) l s h e w).obeyed honest);
  taken = λ kept. Everywhere_from (OnceAt is_numbered) h (λ l s w. ((Everywhere_at (ActsAt premises setting) l s h e w).takes kept).taken);
  confirmed = λ kept. Everywhere_from ConfirmedAt h (λ l s w. ((Everywhere_at (ActsAt premises setting) l s h e w).takes kept).confirmed);
}

-- what is asked only where something is
pub if_asked : (b asked : Bool) (P : Type 0) → asked ≡ true → MatchBool b P (P → ⊥) → MatchBool b (asked ≡ true → P) ((asked ≡ true → P) → ⊥)
if_asked true asked P e m = λ f. m
if_asked false asked P e m = λ f. m (f e)

-- what a call says of the send that a line takes
pub takes_as : (l : Line) (h : List Line) (r : Option ℕ) → MatchOption r ((s : ℕ) → TakesSend l h s → ⊥) (λ s. TakesSend l h s) → TakesAs l h r
takes_as l h None m = m
takes_as l h (Some s) m = m
