-- When a correction may begin, and what a repeat owes.
use Rattle.std.proofs.Common.{sym, subst, inl, inr, ap, arith, true≢false, eqb-true, leb-false, ltb-false, ◌∙◌, ◌≡◌, ◌⊎◌, ◌≤◌, ◌<◌, ℕ, ◌+◌, ◌%◌, ◌==◌, ◌&&◌}
use Rattle.std.proofs.Common.{nat_lt, nat_le, cond, Bool, true, false, if◌then◌else◌, List, [], ◌∷◌, Option, None, Some, refl}
use Rattle.std.proofs.lemmas.Bool.{and_parts, or_cases, or_parts}
use Rattle.tsp_promises.{proofs.promised.SendProof.if_nil, specs.PortFits.PortFits, specs.PortFits.setup_in, proofs.leads.PostLeaves.post_again}
use Rattle.tsp_promises.specs.{CorrectionFits.RepeatFits, CorrectionFits.Rests, CorrectionFits.Follows, StepFacts.is_unbacked}
use Rattle.tsp_promises.{specs.DeedFits.MessageFits, specs.DeedFits.DeedFits, proofs.leads.Known.During, proofs.leads.Known.Fresh, proofs.leads.Known.Untaken}
use Rattle.tsp_promises.proofs.leads.Changes.{wake, forget}
use Rattle.tsp_promises.proofs.leads.Leaves.{none-some, gave, leave, nil_cons, some_same}
use Rattle.tsp_rules.specs.Values.{Boot, Post, Become, Acked, Gave, Leave, Message, Kind, AdjTime, Conflict, Election, QuitKind, SetDateReq, SetTime, PeerId}
use Rattle.tsp_rules.specs.Values.{Peer, LAST, REUSE, TRIES}
use Rattle.tsp_rules.specs.SendRows.{may_correct, open_at, leaves_after, gives_up, repeats, repeats_send, due_send, peers_at, due_sends, is_send_due, is_spent}
use Rattle.tsp_rules.{proofs.Asides.now, proofs.GuardFacts.past_is, proofs.GuardFacts.same_peer, specs.Guards.is_slave_at}
use Rattle.tsp_base.specs.Words.{is_past, Deed, Acts, Did, Seen, Here, Elsewhere, Past, Leads, MessageValue, role, acting, nothing, puts, ◌followed_by◌}
use Rattle.tsp_base.specs.Words.{either_by, for_each, is_correction, is_numbered, Sending, open_send, open_to, open_to_after, posts_of, sending_at, message_at}
use Rattle.tsp_base.specs.Words.{message_of, corrects_by, last_to, last_to_after, last_number, number_of, last_post, is_acknowledged, is_acknowledged_after}
use Rattle.tsp_base.specs.Words.{Setup, role_after, sending_of}
use Rattle.tsp_base.proofs.LeadsLemmas.{Leads_then, Leads_either, Leads_reading, Leads_nothing, Leads_puts, Leads_each, Leads_from}

-- what stands behind an open send and behind an acknowledged correction

-- the beginning of the open send: its first post, in the role that the port still has
pub record Began (setup : Setup) (p : PeerId) (seen : List Seen) : Type 0 where
  pub first : Did
  pub older : List Seen
  pub is : open_to p seen ≡ Here first ∷ older
  pub message : MessageValue
  pub deed : first.deed ≡ Acts (Post (Peer p) (Message message))
  pub numbered : is_numbered message.kind ≡ true
  pub fits : MessageFits setup message.kind first older p message
  pub role_is : role seen ≡ role older

-- a place that an if gives
if_keep : (b : Bool) (was : List Seen) (s : Seen) (older : List Seen) → cond b [] was ≡ s ∷ older → cond b [] was ≡ was
if_keep true was s older e = nil_cons s older e
if_keep false was s older e = refl

began_more : (setup : Setup) (p : PeerId) (seen more : List Seen) → open_to p more ≡ open_to p seen → role more ≡ role seen → Began setup p seen →
    Began setup p more
began_more setup p seen more o r b = record {
  first = b.first;
  older = b.older;
  is = o ∙ b.is;
  message = b.message;
  deed = b.deed;
  numbered = b.numbered;
  fits = b.fits;
  role_is = r ∙ b.role_is;
}

began_post : (setup : Setup) (p q : PeerId) (m : MessageValue) (d : Did) (before : List Seen) (s : Seen) (older : List Seen) →
    Acts (Post (Peer q) (Message m)) ≡ d.deed → DeedFits setup d.deed d before → (open_to p before ≡ s ∷ older → Began setup p before) →
    (b : Bool) → ((q.0 == p.0) && (is_numbered m.kind && acting before)) ≡ b → cond b (Here d ∷ before) (open_to p before) ≡ s ∷ older →
    open_to p (Here d ∷ before) ≡ cond b (Here d ∷ before) (open_to p before) → role (Here d ∷ before) ≡ role before → Began setup p (Here d ∷ before)
began_post setup p q m d before s older is f k true test e place r =
    let one = and_parts (q.0 == p.0) (is_numbered m.kind && acting before) test in
    let two = and_parts (is_numbered m.kind) (acting before) one.1 in
    let same : q ≡ p = same_peer q p one.0 in
    let deed : d.deed ≡ Acts (Post (Peer p) (Message m)) = subst (λ t. d.deed ≡ Acts (Post (Peer t) (Message m))) same (sym is) in
    record {
      first = d;
      older = before;
      is = place;
      message = m;
      deed = deed;
      numbered = two.0;
      fits = (subst (λ t. DeedFits setup t d before) deed f).fits;
      role_is = r;
    }
began_post setup p q m d before s older is f k false test e place r = began_more setup p before (Here d ∷ before) place r (k e)

-- what an act of a port makes of the beginning
record Steps (p : PeerId) (d : Did) (before : List Seen) (deed : Deed) : Type 0 where
  pub opens : open_to p (Here d ∷ before) ≡ open_to_after p deed (acting before) (Here d ∷ before) (open_to p before)
  pub roles : role (Here d ∷ before) ≡ role_after deed (role before)

began_deed : (setup : Setup) (p : PeerId) (d : Did) (before : List Seen) (s : Seen) (older : List Seen) → DeedFits setup d.deed d before →
    (open_to p before ≡ s ∷ older → Began setup p before) → (deed : Deed) → deed ≡ d.deed → Steps p d before deed →
    open_to_after p deed (acting before) (Here d ∷ before) (open_to p before) ≡ s ∷ older → Began setup p (Here d ∷ before)
began_deed setup p d before s older f k (Acts Boot) is t e = nil_cons s older e
began_deed setup p d before s older f k (Acts (Become r)) is t e = nil_cons s older e
began_deed setup p d before s older f k (Acts (Post (Peer q) (Message m))) is t e = began_post setup p q m d before s older is f k _ refl e t.opens t.roles
began_deed setup p d before s older f k (Acts (Acked q)) is t e = began_more setup p before (Here d ∷ before) (t.opens ∙
    if_keep (q.0 == p.0) (open_to p before) s older e) t.roles (k (if_nil (q.0 == p.0) (open_to p before) s older e))
began_deed setup p d before s older f k (Acts (Gave q)) is t e = began_more setup p before (Here d ∷ before) (t.opens ∙
    if_keep (q.0 == p.0) (open_to p before) s older e) t.roles (k (if_nil (q.0 == p.0) (open_to p before) s older e))
began_deed setup p d before s older f k _ is t e = began_more setup p before (Here d ∷ before) t.opens t.roles (k e)

pub began : (setup : Setup) (p : PeerId) (seen : List Seen) → PortFits setup seen → (s : Seen) (older : List Seen) → open_to p seen ≡ s ∷ older →
    Began setup p seen
began setup p [] f s older e = nil_cons s older e
began setup p (Elsewhere d ∷ before) f s older e = began_more setup p before (Elsewhere d ∷ before) refl refl (began setup p before f s older e)
began setup p (Here d ∷ before) f s older e = began_deed setup p d before s older f.0 (began setup p before f.1 s older) d.deed refl (record {
  opens = refl;
  roles = refl;
}) e

-- the open send as its slot is seen
pub record OpenIs (setup : Setup) (p : PeerId) (seen : List Seen) (s : Sending) : Type 0 where
  pub began : Began setup p seen
  pub message_is : s.message ≡ began.message
  pub tick_is : s.began ≡ began.first.tick
  pub posts_is : s.posts ≡ posts_of p seen

open_place : (setup : Setup) (p : PeerId) (seen : List Seen) (s : Sending) (b : Began setup p seen) → open_send p seen ≡ Some s → OpenIs setup p seen s
open_place setup p seen s b e =
    let there : sending_at (Here b.first ∷ b.older) (posts_of p seen) ≡ Some s = subst (λ place. sending_at place (posts_of p seen) ≡ Some s) b.is e in
    let slot : sending_of (message_of b.first.deed) b.first.tick (posts_of p seen) ≡ Some s = there in
    let known : Some (record { began = b.first.tick; posts = posts_of p seen; message = b.message }) ≡ Some s =
    subst (λ t. sending_of (message_of t) b.first.tick (posts_of p seen) ≡ Some s) b.deed slot in
    let same : record { began = b.first.tick; posts = posts_of p seen; message = b.message } ≡ s = some_same _ s known in
    record {
      began = b;
      message_is = sym (ap (λ (t : Sending). t.message) same);
      tick_is = sym (ap (λ (t : Sending). t.began) same);
      posts_is = sym (ap (λ (t : Sending). t.posts) same);
    }

open_cases : (setup : Setup) (p : PeerId) (seen : List Seen) (s : Sending) → PortFits setup seen → open_send p seen ≡ Some s → (place : List Seen) →
    open_to p seen ≡ place → OpenIs setup p seen s
open_cases setup p seen s f e [] is = none-some s (sym (subst (λ place. sending_at place (posts_of p seen) ≡ None) (sym is) refl) ∙ e)
open_cases setup p seen s f e (t ∷ older) is = open_place setup p seen s (began setup p seen f t older is) e

pub open_is : (setup : Setup) (p : PeerId) (seen : List Seen) (s : Sending) → PortFits setup seen → open_send p seen ≡ Some s → OpenIs setup p seen s
open_is setup p seen s f e = open_cases setup p seen s f e (open_to p seen) refl

-- the place where the last correction to p begins
pub record LastIs (p : PeerId) (seen : List Seen) : Type 0 where
  pub last : Did
  pub older : List Seen
  pub is : last_to p seen ≡ Here last ∷ older
  pub message : MessageValue
  pub deed : last.deed ≡ Acts (Post (Peer p) (Message message))

last_more : (p : PeerId) (seen more : List Seen) → last_to p more ≡ last_to p seen → LastIs p seen → LastIs p more
last_more p seen more e l = record { last = l.last; older = l.older; is = e ∙ l.is; message = l.message; deed = l.deed }

last_post_holds : (p q : PeerId) (m : MessageValue) (d : Did) (before : List Seen) → Acts (Post (Peer q) (Message m)) ≡ d.deed → (b : Bool) →
    ((q.0 == p.0) && (is_correction m.kind && acting before)) ≡ b → (b ≡ false → LastIs p before) →
    last_to p (Here d ∷ before) ≡ cond b (Here d ∷ before) (last_to p before) → LastIs p (Here d ∷ before)
last_post_holds p q m d before is true test l e =
    let one = and_parts (q.0 == p.0) (is_correction m.kind && acting before) test in
    record { last = d; older = before; is = e; message = m; deed = subst (λ t. d.deed ≡ Acts (Post (Peer t) (Message m))) (same_peer q p one.0) (sym is) }
last_post_holds p q m d before is false test l e = last_more p before (Here d ∷ before) e (l refl)

if_true : (b : Bool) (was : List Seen) → corrects_by (message_at (cond b [] was)) ≡ true → corrects_by (message_at was) ≡ true
if_true true was e = absurd (true≢false (sym e))
if_true false was e = e

-- an open correction is the last one
here_or_last : (p q : PeerId) (m : MessageValue) (d : Did) (before : List Seen) → Acts (Post (Peer q) (Message m)) ≡ d.deed →
    (corrects_by (message_at (open_to p before)) ≡ true → LastIs p before) →
    (a : Bool) → ((q.0 == p.0) && (is_numbered m.kind && acting before)) ≡ a → corrects_by (message_at (cond a (Here d ∷ before) (open_to p before))) ≡ true →
    (b : Bool) → ((q.0 == p.0) && (is_correction m.kind && acting before)) ≡ b → last_to p (Here d ∷ before) ≡ cond b (Here d ∷ before) (last_to p before) →
    LastIs p (Here d ∷ before)
here_or_last p q m d before is k true one e b two place = last_post_holds p q m d before is b two (λ none.
    let first = and_parts (q.0 == p.0) (is_numbered m.kind && acting before) one in
    let second = and_parts (is_numbered m.kind) (acting before) first.1 in
    let corrects : is_correction m.kind ≡ true = subst (λ t. corrects_by (message_of t) ≡ true) (sym is) e in
    absurd (true≢false (sym (subst (λ b. (b && (is_correction m.kind && acting before)) ≡ true) (sym first.0) (subst (λ b. (b && acting before) ≡
    true) (sym corrects) second.1)) ∙ (two ∙ none)))) place
here_or_last p q m d before is k false one e b two place = last_post_holds p q m d before is b two (λ none. k e) place

open_last_deed : (p : PeerId) (d : Did) (before : List Seen) → (corrects_by (message_at (open_to p before)) ≡ true → LastIs p before) → (deed : Deed) → deed ≡
    d.deed →
    last_to p (Here d ∷ before) ≡ last_to_after p deed (acting before) (Here d ∷ before) (last_to p before) →
    corrects_by (message_at (open_to_after p deed (acting before) (Here d ∷ before) (open_to p before))) ≡ true → LastIs p (Here d ∷ before)
open_last_deed p d before k (Acts Boot) is t e = absurd (true≢false (sym e))
open_last_deed p d before k (Acts (Become r)) is t e = absurd (true≢false (sym e))
open_last_deed p d before k (Acts (Post (Peer q) (Message m))) is t e = here_or_last p q m d before is k _ refl e _ refl t
open_last_deed p d before k (Acts (Acked q)) is t e = last_more p before (Here d ∷ before) t (k (if_true (q.0 == p.0) (open_to p before) e))
open_last_deed p d before k (Acts (Gave q)) is t e = last_more p before (Here d ∷ before) t (k (if_true (q.0 == p.0) (open_to p before) e))
open_last_deed p d before k _ is t e = last_more p before (Here d ∷ before) t (k e)

open_last : (p : PeerId) (seen : List Seen) → corrects_by (message_at (open_to p seen)) ≡ true → LastIs p seen
open_last p [] e = absurd (true≢false (sym e))
open_last p (Elsewhere d ∷ before) e = last_more p before (Elsewhere d ∷ before) refl (open_last p before e)
open_last p (Here d ∷ before) e = open_last_deed p d before (open_last p before) d.deed refl refl e

acked_last : (p q : PeerId) (d : Did) (before : List Seen) → (is_acknowledged p before ≡ true → LastIs p before) → last_to p (Here d ∷ before) ≡
    last_to p before → (b : Bool) → ((q.0 == p.0) && corrects_by (message_at (open_to p before))) ≡ b →
    cond b true (is_acknowledged p before) ≡ true → LastIs p (Here d ∷ before)
acked_last p q d before k t true test e =
    let one = and_parts (q.0 == p.0) (corrects_by (message_at (open_to p before))) test in
    last_more p before (Here d ∷ before) t (open_last p before one.1)
acked_last p q d before k t false test e = last_more p before (Here d ∷ before) t (k e)

if_false : (b was : Bool) → cond b false was ≡ true → was ≡ true
if_false true was e = absurd (true≢false (sym e))
if_false false was e = e

acknowledged_deed : (p : PeerId) (d : Did) (before : List Seen) → (is_acknowledged p before ≡ true → LastIs p before) → (deed : Deed) → deed ≡ d.deed →
    last_to p (Here d ∷ before) ≡ last_to_after p deed (acting before) (Here d ∷ before) (last_to p before) →
    is_acknowledged_after p deed (acting before) (corrects_by (message_at (open_to p before))) (is_acknowledged p before) ≡ true → LastIs p (Here d ∷ before)
acknowledged_deed p d before k (Acts Boot) is t e = absurd (true≢false (sym e))
acknowledged_deed p d before k (Acts (Post (Peer q) (Message m))) is t e = last_post_holds p q m d before is _ refl
    (λ none. k (if_false ((q.0 == p.0) && (is_correction m.kind && acting before)) (is_acknowledged p before) e)) t
acknowledged_deed p d before k (Acts (Acked q)) is t e = acked_last p q d before k t _ refl e
acknowledged_deed p d before k _ is t e = last_more p before (Here d ∷ before) t (k e)

-- an acknowledged correction has its beginning
pub acknowledged_last : (p : PeerId) (seen : List Seen) → is_acknowledged p seen ≡ true → LastIs p seen
acknowledged_last p [] e = absurd (true≢false (sym e))
acknowledged_last p (Elsewhere d ∷ before) e = last_more p before (Elsewhere d ∷ before) refl (acknowledged_last p before e)
acknowledged_last p (Here d ∷ before) e = acknowledged_deed p d before (acknowledged_last p before) d.deed refl refl e

-- a correction that may begin rests or follows the last one
pub may_fits : (p : PeerId) (number x : ℕ) (past : Past) (d : Did) (m : MessageValue) → d.tick ≡ x → m.number ≡ number → may_correct p number x past ≡ true →
    Rests d past.seen p ⊎ Follows past.seen p m
may_fits p number x past d m tick_is number_is e = elim (or_cases (is_past (last_post p past.seen) REUSE x)
    (is_acknowledged p past.seen && (number == (last_number p past.seen + 1) % 32768)) e) [
      | inl rests ↦ inl (record { long = λ t is. subst (λ y. t + REUSE ≤ y) (sym tick_is) (past_is (last_post p past.seen) REUSE x rests t is) })
      | inr follows ↦
          let both = and_parts (is_acknowledged p past.seen) (number == (last_number p past.seen + 1) % 32768) follows in
          let l = acknowledged_last p past.seen both.0 in
          let n : last_number p past.seen ≡ l.message.number = ap (λ place. number_of (message_at place)) l.is ∙ ap (λ t. number_of (message_of t)) l.deed in
          inr (record {
            last = l.last;
            older = l.older;
            is = l.is;
            message = l.message;
            deed = l.deed;
            number = number_is ∙ eqb-true number ((last_number p past.seen + 1) % 32768) both.1 ∙ ap (λ k. (k + 1) % 32768) n;
            acknowledged = both.0;
          })
    ]

-- a repeat of the open send, no later than LAST after its beginning, and one of few
repeat_of : (setup : Setup) (p : PeerId) (seen : List Seen) (d : Did) (s : Sending) → OpenIs setup p seen s → d.tick ≤ s.began + LAST → s.posts < TRIES →
    RepeatFits d seen p s.message
repeat_of setup p seen d s o soon few = record {
  first = o.began.first;
  older = o.began.older;
  is = o.began.is;
  same = subst (λ m. o.began.first.deed ≡ Acts (Post (Peer p) (Message m))) (sym o.message_is) o.began.deed;
  soon = (let e = o.tick_is in omega (arith, e, soon));
  few = subst (λ n. n < TRIES) o.posts_is few;
}

fits_kind : (setup : Setup) (k : Kind) (p : PeerId) (seen : List Seen) (d first : Did) (older : List Seen) (m : MessageValue) → is_numbered k ≡ true →
    MessageFits setup k first older p m → role seen ≡ role older → is_unbacked seen ≡ false → acting seen ≡ false →
    RepeatFits d seen p m → MessageFits setup k d seen p m
fits_kind setup AdjTime p seen d first older m n f r u a again = record {
  leads = r ∙ f.leads;
  begins = λ b. absurd (true≢false (sym b ∙ a));
  repeats = λ i. again;
}
fits_kind setup SetTime p seen d first older m n f r u a again = record {
  leads = r ∙ f.leads;
  begins = λ b. absurd (true≢false (sym b ∙ a));
  repeats = λ i. again;
}
fits_kind setup Election p seen d first older m n f r u a again = record {
  numbered = record {
    number = f.numbered.number;
    next = λ b. absurd (true≢false (sym b ∙ a));
    repeats = λ i. again;
  };
  backs = u;
}
fits_kind setup Conflict p seen d first older m n f r u a again = record {
  number = f.number;
  next = λ b. absurd (true≢false (sym b ∙ a));
  repeats = λ i. again;
}
fits_kind setup QuitKind p seen d first older m n f r u a again = record {
  number = f.number;
  next = λ b. absurd (true≢false (sym b ∙ a));
  repeats = λ i. again;
}
fits_kind setup SetDateReq p seen d first older m n f r u a again = record {
  numbered = record { number = f.numbered.number; next = λ b. absurd (true≢false (sym b ∙ a)); repeats = λ i. again };
  begins = λ b. absurd (true≢false (sym b ∙ a));
}
fits_kind setup _ p seen d first older m n f r u a again = absurd (true≢false (sym n))

repeat_fits : (setup : Setup) (p : PeerId) (seen : List Seen) (d : Did) (s : Sending) → PortFits setup seen → open_send p seen ≡ Some s → is_unbacked seen ≡
    false → acting seen ≡ false → d.tick ≤ s.began + LAST → s.posts < TRIES → MessageFits setup s.message.kind d seen p s.message
repeat_fits setup p seen d s f e u a soon few =
    let o = open_is setup p seen s f e in
    let m = o.message_is in
    fits_kind setup s.message.kind p seen d o.began.first o.began.older s.message
    (subst (λ t. is_numbered t.kind ≡ true) (sym m) o.began.numbered)
    (subst (λ t. MessageFits setup t.kind o.began.first o.began.older p t) (sym m) o.began.fits)
    o.began.role_is u a (repeat_of setup p seen d s o soon few)

-- the same port, which has a send open, so its quiet time is over
abbrev Sending_on : ℕ → Past → Type 0
Sending_on = During false true false [] false Untaken

awake_open : (p : PeerId) (s : Sending) (x : ℕ) (past : Past) → Fresh x past → open_send p past.seen ≡ Some s → Sending_on x past
awake_open p s x past h e = wake (elim h.knows.quiet.rested [
  | inl z ↦ none-some s (sym (ap (λ place. sending_at place (posts_of p past.seen)) (z.unsent p)) ∙ e)
  | inr r ↦ r
]) h

leaves_fresh : (p : PeerId) (k : Kind) → Leads Sending_on (leaves_after p k) Fresh
unfolding leaves_after
leaves_fresh p k = by_case (is_correction k) where
  by_case : (b : Bool) → Leads Sending_on (if b then either_by (is_slave_at p) (puts (Leave p)) nothing else nothing) Fresh
  by_case true = Leads_either (is_slave_at p) (puts (Leave p)) nothing (Leads_puts (Leave p) (λ x past h. forget (leave p h.0)))
      (Leads_from (λ x past h. forget h.0) Leads_nothing)
  by_case false = Leads_from (λ x past h. forget h) Leads_nothing

-- an open send that is due and not spent is posted again
pub repeats_lead : (p : PeerId) (s : Sending) → Leads (λ x past. ((Fresh x past × (open_at p x past ≡ Some s)) × (is_send_due s x past ≡ true)) ×
    (is_spent s x past ≡ false)) (repeats p s.message) Fresh
unfolding repeats
repeats_lead p s = Leads_puts (Post (Peer p) (Message s.message)) (λ x past h.
    let f = h.0.0.0 in
    let unspent = or_parts (nat_lt (s.began + LAST) x) (nat_le TRIES s.posts) h.1 in
    forget (post_again p s.message (repeat_fits (setup_in past) p past.seen (now x past (Post (Peer p) (Message s.message))) s
    f.fits h.0.0.1 f.backs f.acting_is (ltb-false (s.began + LAST) x unspent.0) (leb-false TRIES s.posts unspent.1)) (awake_open p s x past f h.0.0.1)))

repeats_send_leads : (p : PeerId) (o : Option Sending) → Leads (λ x past. Fresh x past × (open_at p x past ≡ o)) (repeats_send p o) Fresh
unfolding repeats_send gives_up
repeats_send_leads p None = Leads_from (λ x past h. h.0) Leads_nothing
repeats_send_leads p (Some s) = Leads_either (is_send_due s) (either_by (is_spent s) (puts (Gave p) followed_by leaves_after p s.message.kind)
    (repeats p s.message)) nothing
    (Leads_either (is_spent s) (puts (Gave p) followed_by leaves_after p s.message.kind) (repeats p s.message)
    (Leads_then {Q = Sending_on} (puts (Gave p)) (leaves_after p s.message.kind)
    (Leads_puts (Gave p) (λ x past h. gave p (awake_open p s x past h.0.0.0 h.0.0.1))) (leaves_fresh p s.message.kind))
    (repeats_lead p s))
    (Leads_from (λ x past h. h.0.0) Leads_nothing)

-- an open send that is due keeps what is known of a port
pub due_send_leads : (p : PeerId) → Leads Fresh (due_send p) Fresh
unfolding due_send
due_send_leads p = Leads_reading (open_at p) (repeats_send p) (repeats_send_leads p)

-- and so do all sends
pub due_sends_lead : Leads Fresh due_sends Fresh
unfolding due_sends
due_sends_lead = Leads_reading peers_at (for_each due_send) (λ ps. Leads_from (λ x past h. h.0) (Leads_each due_send ps due_send_leads))
