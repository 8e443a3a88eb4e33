-- Sends: where the last one to a peer began, and which one a post belongs to.
use Rattle.std.proofs.Common.{sym, ap, arith, subst, inl, inr, eq-eqb, true≢false, ◌∙◌, ◌≡◌, ◌==◌, ◌&&◌, cond, Bool, true, false, ℕ, ◌+◌, ◌≤◌, ◌⊎◌, List, []}
use Rattle.std.proofs.Common.{◌∷◌, refl}
use Rattle.std.proofs.lemmas.Bool.{and_parts}
use Rattle.tsp_rules.specs.Values.{Boot, Post, Become, Acked, Gave, Message, Kind, AdjTime, SetTime, PeerId, Peer, LAST}
use Rattle.tsp_base.specs.Words.{Acts, Deed, Did, Seen, Here, Elsewhere, MessageValue, Within, acting, begun_to, begun_to_after, is_correction, is_numbered}
use Rattle.tsp_base.specs.Words.{last_to, last_to_after, open_to, open_to_after, peer_of}
use Rattle.tsp_promises.{proofs.leads.Leaves.nil_cons, specs.CorrectionFits.RepeatFits}
use Rattle.tsp_rules.proofs.GuardFacts.{same_peer}

-- a send of this message to p begins here, of a kind that passes the test
pub record Starts (test : Kind → Bool) (p : PeerId) (m : MessageValue) (first : Did) (older : List Seen) : Type 0 where
  pub deed : first.deed ≡ Acts (Post (Peer p) (Message m))
  pub kind : test m.kind ≡ true
  pub begins : acting older ≡ true

abbrev pub BeginsSend : PeerId → MessageValue → Did → List Seen → Type 0
BeginsSend = Starts is_numbered

abbrev pub CorrectsTo : PeerId → MessageValue → Did → List Seen → Type 0
CorrectsTo = Starts is_correction

pub numbered : (k : Kind) → is_correction k ≡ true → is_numbered k ≡ true
numbered AdjTime e = refl
numbered SetTime e = refl
numbered _ e = absurd (true≢false (sym e))

-- corrections are sends
pub corrects_sends : (p : PeerId) (m : MessageValue) (first : Did) (older : List Seen) → CorrectsTo p m first older → BeginsSend p m first older
corrects_sends p m first older c = record { deed = c.deed; kind = numbered m.kind c.kind; begins = c.begins }

pub sends_correct : (p : PeerId) (m : MessageValue) (first : Did) (older : List Seen) → BeginsSend p m first older → is_correction m.kind ≡ true →
    CorrectsTo p m first older
sends_correct p m first older b kind = record { deed = b.deed; kind = kind; begins = b.begins }

pub number-same : (m n : ℕ) → peer_of m ≡ peer_of n → m ≡ n
number-same m n e = ap (λ (p : PeerId). p.0) e

-- a post is of one message
pub one_message : (j k : PeerId) (m n : MessageValue) → Acts (Post (Peer j) (Message m)) ≡ Acts (Post (Peer k) (Message n)) → m ≡ n
one_message j k m n e = cc

pub if_nil : (b : Bool) (was : List Seen) (s : Seen) (older : List Seen) → cond b [] was ≡ s ∷ older → was ≡ s ∷ older
if_nil true was s older e = nil_cons s older e
if_nil false was s older e = e

-- such a send begins at the newest deed
pub record StartsHere (test : Kind → Bool) (p : PeerId) (d : Did) (before : List Seen) (first : Did) (older : List Seen) : Type 0 where
  pub deed : d ≡ first
  pub rest : before ≡ older
  pub message : MessageValue
  pub begins : Starts test p message first older

start_post : (test : Kind → Bool) (p q : PeerId) (m : MessageValue) (d : Did) (before : List Seen) (first : Did) (older was : List Seen) →
    Acts (Post (Peer q) (Message m)) ≡ d.deed →
    (b : Bool) → ((q.0 == p.0) && (test m.kind && acting before)) ≡ b → cond b (Here d ∷ before) was ≡ Here first ∷ older →
    StartsHere test p d before first older ⊎ (was ≡ Here first ∷ older)
start_post test p q m d before first older was is true e h =
    let one = and_parts (q.0 == p.0) (test m.kind && acting before) e in
    let two = and_parts (test m.kind) (acting before) one.1 in
    let deed : d ≡ first = cc in
    let rest : before ≡ older = cc in
    inl (record {
      deed = deed;
      rest = rest;
      message = m;
      begins = record {
        deed = subst (λ r. first.deed ≡ Acts (Post (Peer r) (Message m))) (same_peer q p one.0) (sym (is ∙ ap (λ (k : Did). k.deed) deed));
        kind = two.0;
        begins = subst (λ k. acting k ≡ true) rest two.1;
      };
    })
start_post test p q m d before first older was is false e h = inr h

-- where the last such send begins, in what a port has seen
pub record LastOf (test : Kind → Bool) (last : List Seen → List Seen) (p : PeerId) : Type 0 where
  pub none : last [] ≡ []
  pub other : (d : Did) (before : List Seen) → last (Elsewhere d ∷ before) ≡ last before
  pub here : (d : Did) (before : List Seen) (first : Did) (older : List Seen) → last (Here d ∷ before) ≡ Here first ∷ older →
      StartsHere test p d before first older ⊎ (last before ≡ Here first ∷ older)
  pub starts : (m : MessageValue) (t : Did) (b : List Seen) → Starts test p m t b → last (Here t ∷ b) ≡ Here t ∷ b

pub begun_of : (p : PeerId) → LastOf is_numbered (begun_to p) p
begun_of p = record {
  none = refl;
  other = λ d before. refl;
  here = λ d before first older. by_deed_holds d before first older d.deed refl;
  starts = λ m t b c. rw c.deed (rw (eq-eqb p.0 p.0 refl, c.kind, c.begins) refl);
} where
  by_deed_holds : (d : Did) (before : List Seen) (first : Did) (older : List Seen) (deed : Deed) → deed ≡ d.deed →
      begun_to_after p deed (acting before) (Here d ∷ before) (begun_to p before) ≡ Here first ∷ older →
      StartsHere is_numbered p d before first older ⊎ (begun_to p before ≡ Here first ∷ older)
  by_deed_holds d before first older (Acts Boot) is e = nil_cons (Here first) older e
  by_deed_holds d before first older (Acts (Post (Peer q) (Message m))) is e = start_post is_numbered p q m d before first older (begun_to p before) is _ refl e
  by_deed_holds d before first older _ is e = inr e

pub last_of : (p : PeerId) → LastOf is_correction (last_to p) p
last_of p = record {
  none = refl;
  other = λ d before. refl;
  here = λ d before first older. by_deed_holds d before first older d.deed refl;
  starts = λ m t b c. rw c.deed (rw (eq-eqb p.0 p.0 refl, c.kind, c.begins) refl);
} where
  by_deed_holds : (d : Did) (before : List Seen) (first : Did) (older : List Seen) (deed : Deed) → deed ≡ d.deed →
      last_to_after p deed (acting before) (Here d ∷ before) (last_to p before) ≡ Here first ∷ older →
      StartsHere is_correction p d before first older ⊎ (last_to p before ≡ Here first ∷ older)
  by_deed_holds d before first older (Acts Boot) is e = nil_cons (Here first) older e
  by_deed_holds d before first older (Acts (Post (Peer q) (Message m))) is e = start_post is_correction p q m d before first older (last_to p before) is _ refl
      e
  by_deed_holds d before first older _ is e = inr e

-- the beginning of a send stands at its place
pub record Opened (test : Kind → Bool) (p : PeerId) (first : Did) (older seen : List Seen) : Type 0 where
  pub place : Within (Here first ∷ older) seen
  pub message : MessageValue
  pub begins : Starts test p message first older

pub starts_at : {test : Kind → Bool} {last : List Seen → List Seen} {p : PeerId} → LastOf test last p → (seen : List Seen) (first : Did) (older : List Seen) →
    last seen ≡ Here first ∷ older → Opened test p first older seen
starts_at l [] first older e = nil_cons (Here first) older (sym l.none ∙ e)
starts_at l (Elsewhere d ∷ before) first older e =
    let o = starts_at l before first older (sym (l.other d before) ∙ e) in record { place = inr o.place; message = o.message; begins = o.begins }
starts_at l (Here d ∷ before) first older e = elim (l.here d before first older e) [
  | inl h ↦ record { place = inl (let a = h.deed in let b = h.rest in cc); message = h.message; begins = h.begins }
  | inr h ↦ let o = starts_at l before first older h in record { place = inr o.place; message = o.message; begins = o.begins }
]

-- the last one isn't older than one that has begun
pub starts_late : {test : Kind → Bool} {last : List Seen → List Seen} {p : PeerId} → LastOf test last p →
    (m : MessageValue) (t : Did) (b x : List Seen) (first : Did) (older : List Seen) → Starts test p m t b → Within (Here t ∷ b) x →
    last x ≡ Here first ∷ older → Within (Here t ∷ b) (Here first ∷ older)
starts_late l m t b [] first older c w e = nil_cons (Here first) older (sym l.none ∙ e)
starts_late l m t b (Elsewhere d ∷ x) first older c (inl s) e = let bad : ⊥ = cc in absurd bad
starts_late l m t b (Elsewhere d ∷ x) first older c (inr w) e = starts_late l m t b x first older c w (sym (l.other d x) ∙ e)
starts_late {last = last} l m t b (Here d ∷ x) first older c (inl s) e = inl (sym (l.starts m t b c) ∙ (ap last s ∙ e))
starts_late l m t b (Here d ∷ x) first older c (inr w) e = elim (l.here d x first older e) [
  | inl h ↦ inr (subst (λ k. Within (Here t ∷ b) k) h.rest w)
  | inr h ↦ starts_late l m t b x first older c w h
]

pub begun_at : (p : PeerId) (seen : List Seen) (first : Did) (older : List Seen) → begun_to p seen ≡ Here first ∷ older → Opened is_numbered p first older seen
begun_at p seen first older e = starts_at (begun_of p) seen first older e

open_if : (b : Bool) (here now began : List Seen) (s : Seen) (older : List Seen) → (now ≡ s ∷ older → began ≡ s ∷ older) → cond b here now ≡ s ∷ older →
    cond b here began ≡ s ∷ older
open_if true here now began s older h e = e
open_if false here now began s older h e = h e

open_deed : (p : PeerId) (d : Did) (before : List Seen) (s : Seen) (older : List Seen) (deed : Deed) → (open_to p before ≡ s ∷ older → begun_to p before ≡ s ∷
    older) →
    open_to_after p deed (acting before) (Here d ∷ before) (open_to p before) ≡ s ∷ older →
    begun_to_after p deed (acting before) (Here d ∷ before) (begun_to p before) ≡ s ∷ older
open_deed p d before s older (Acts Boot) h e = nil_cons s older e
open_deed p d before s older (Acts (Become r)) h e = nil_cons s older e
open_deed p d before s older (Acts (Post (Peer q) (Message m))) h e = open_if _ (Here d ∷ before) (open_to p before) (begun_to p before) s older h e
open_deed p d before s older (Acts (Acked q)) h e = h (if_nil (q.0 == p.0) (open_to p before) s older e)
open_deed p d before s older (Acts (Gave q)) h e = h (if_nil (q.0 == p.0) (open_to p before) s older e)
open_deed p d before s older _ h e = h e

-- the open send is the last one that began
pub open_begun : (p : PeerId) (seen : List Seen) (s : Seen) (older : List Seen) → open_to p seen ≡ s ∷ older → begun_to p seen ≡ s ∷ older
open_begun p [] s older e = nil_cons s older e
open_begun p (Elsewhere d ∷ before) s older e = open_begun p before s older e
open_begun p (Here d ∷ before) s older e = open_deed p d before s older d.deed (open_begun p before s older) e

pub opened : (p : PeerId) (seen : List Seen) (first : Did) (older : List Seen) → open_to p seen ≡ Here first ∷ older → Opened is_numbered p first older seen
opened p seen first older e = begun_at p seen first older (open_begun p seen (Here first) older e)

-- the send of a post
pub record SendIs (p : PeerId) (post : Did) (before : List Seen) (m : MessageValue) : Type 0 where
  pub first : Did
  pub older : List Seen
  pub is : begun_to p (Here post ∷ before) ≡ Here first ∷ older
  pub place : Within (Here first ∷ older) (Here post ∷ before)
  pub begins : acting older ≡ true
  pub same : first.deed ≡ Acts (Post (Peer p) (Message m))
  pub soon : post.tick ≤ first.tick + LAST

pub send_is : (p : PeerId) (post : Did) (before : List Seen) (m : MessageValue) → post.deed ≡ Acts (Post (Peer p) (Message m)) → is_numbered m.kind ≡ true →
    (acting before ≡ false → RepeatFits post before p m) → SendIs p post before m
send_is p post before m is kind repeats = by_case (acting before) refl where
  by_case : (b : Bool) → acting before ≡ b → SendIs p post before m
  by_case true e =
      let starts : BeginsSend p m post before = record { deed = is; kind = kind; begins = e } in
      record { first = post; older = before; is = (begun_of p).starts m post before starts; place = inl refl; begins = e; same = is; soon = omega arith }
  by_case false e =
      let h = repeats e in
      let again : begun_to p (Here post ∷ before) ≡ begun_to p before = rw is (rw (eq-eqb p.0 p.0 refl, kind, e) refl) in
      let o = opened p before h.first h.older h.is in record {
        first = h.first;
        older = h.older;
        is = again ∙ open_begun p before (Here h.first) h.older h.is;
        place = inr o.place;
        begins = o.begins.begins;
        same = h.same;
        soon = h.soon;
      }
