-- A numbered send that is looked at in time ends soon.
use Rattle.std.proofs.Common.{sym, ap, arith, subst, true≢false, ◌≡◌, ◌≤◌, ◌<◌, ℕ, ◌+◌, ◌==◌, ◌&&◌, if◌then◌else◌, Bool, true, false, List, [], ◌∷◌, Option}
use Rattle.std.proofs.Common.{None, Some, refl}
use Rattle.tsp_rules.specs.Values.{Boot, Post, Become, Acked, Gave, Message, Kind, AdjTime, Conflict, Election, QuitKind, SetDateReq, SetTime, PeerId, Peer}
use Rattle.tsp_rules.specs.Values.{TRIES}
use Rattle.tsp_base.specs.Words.{Acts, Deed, Did, Line, Seen, Here, Elsewhere, Sending, Setup, MessageValue, acting, is_numbered, message_of, did_of, of}
use Rattle.tsp_base.specs.Words.{open_to, posts_of, posts_of_after, sending_at, sending_of, view}
use Rattle.tsp_rules.proofs.GuardFacts.{same_peer}
use Rattle.tsp_promises.specs.{CorrectionFits.RepeatFits, DeedFits.DeedFits, DeedFits.MessageFits, Fits.Fits, Fits.node_of, PortFits.PortFits, Setting.Setting}
use Rattle.tsp_promises.specs.{Setting.setup_of}
use Rattle.tsp_promises.proofs.{shared.EverywhereLemmas.Everywhere_at, shared.EverywhereLemmas.Everywhere_from, shared.EverywhereLemmas.Everywhere_within}
use Rattle.tsp_promises.proofs.{promised.OwnFitsProof.port_fits}
use Rattle.tsp_progress.specs.{SendsEnd.SendEnds, SendsEnd.SendsEnd, SendsEnd.SendsEnded, Watched.Attended, Watched.AttendedAt, Watched.BeginsAt, Watched.Told}
use Rattle.tsp_progress.specs.{Watched.Watched}

-- a numbered post that begins no send repeats the open one
repeats_of : (setup : Setup) (kind : Kind) (here : Did) (seen : List Seen) (p : PeerId) (m : MessageValue) → is_numbered kind ≡ true →
    MessageFits setup kind here seen p m → acting seen ≡ false → RepeatFits here seen p m
repeats_of setup AdjTime here seen p m n f = f.repeats
repeats_of setup SetTime here seen p m n f = f.repeats
repeats_of setup Election here seen p m n f = f.numbered.repeats
repeats_of setup Conflict here seen p m n f = f.repeats
repeats_of setup QuitKind here seen p m n f = f.repeats
repeats_of setup SetDateReq here seen p m n f = f.numbered.repeats
repeats_of setup _ here seen p m n f = absurd (true≢false (sym n))

few_ended : (b : Bool) (n : ℕ) → n ≤ TRIES → (if b then 0 else n) ≤ TRIES
few_ended true n few = omega arith
few_ended false n few = few

few_posted : (mine numbered begins : Bool) (n : ℕ) → n ≤ TRIES → (mine ≡ true → numbered ≡ true → begins ≡ false → n < TRIES) →
    (if mine && numbered then (if begins then 1 else n + 1) else n) ≤ TRIES
few_posted true true true n few more = omega arith
few_posted true true false n few more = (let less = more refl refl refl in omega (arith, less))
few_posted true false begins n few more = few
few_posted false numbered begins n few more = few

few_deed : (setup : Setup) (p : PeerId) (d : Did) (before : List Seen) (deed : Deed) → DeedFits setup deed d before → posts_of p before ≤ TRIES →
    posts_of_after p deed (acting before) (posts_of p before) ≤ TRIES
few_deed setup p d before (Acts Boot) f few = omega arith
few_deed setup p d before (Acts (Become r)) f few = omega arith
few_deed setup p d before (Acts (Post (Peer q) (Message m))) f few =
    few_posted (q.0 == p.0) (is_numbered m.kind) (acting before) (posts_of p before) few (λ mine numbered begins.
    subst (λ k. posts_of k before < TRIES) (same_peer q p mine) (repeats_of setup m.kind d before q m numbered f.fits begins).few)
few_deed setup p d before (Acts (Acked q)) f few = few_ended (q.0 == p.0) (posts_of p before) few
few_deed setup p d before (Acts (Gave q)) f few = few_ended (q.0 == p.0) (posts_of p before) few
few_deed setup p d before _ f few = few

-- the open send to p, if there is one, was posted at most TRIES times
few : (setup : Setup) (p : PeerId) (seen : List Seen) → PortFits setup seen → posts_of p seen ≤ TRIES
few setup p [] f = omega arith
few setup p (Elsewhere d ∷ before) f = few setup p before f
few setup p (Here d ∷ before) f = few_deed setup p d before d.deed f.0 (few setup p before f.1)

none_sending : {B : Type 0} (s : Sending) → None ≡ Some s → B
none_sending s e = let bad : ⊥ = cc in absurd bad

of_posts : (m : Option MessageValue) (began posts : ℕ) (s : Sending) → sending_of m began posts ≡ Some s → s.posts ≡ posts
of_posts None began posts s e = none_sending s e
of_posts (Some m) began posts s e = sym (ap (λ (o : Option Sending). posts_or o) e) where
  posts_or : Option Sending → ℕ
  posts_or None = 0
  posts_or (Some t) = t.posts

at_posts : (place : List Seen) (posts : ℕ) (s : Sending) → sending_at place posts ≡ Some s → s.posts ≡ posts
at_posts [] posts s e = none_sending s e
at_posts (x ∷ older) posts s e = of_posts (message_of (did_of x).deed) (did_of x).tick posts s e

-- so an open send of a port that is watched began soon before
send_ends : (setup : Setup) (late x : ℕ) (seen : List Seen) → PortFits setup seen → Watched late x seen → SendEnds late x seen
send_ends setup late x seen f w p s sent =
    let tries = few setup p seen f in
    let posts = at_posts (open_to p seen) (posts_of p seen) s sent in
    let due = w.sends p s sent in
    omega (arith, tries, posts, due)

pub sends_end : (setting : Setting) (late : ℕ) (world : List Line) → Fits setting world → Attended late world → SendsEnd late world
sends_end setting late world f a = Everywhere_from (BeginsAt (SendEnds late)) world (λ l before w begins q.
    let n = node_of l in
    let whole = Everywhere_within _ (l ∷ before) world f w in
    send_ends (setup_of setting n q) late l.did.tick (view q (of n before)) (port_fits setting n before whole.1 q)
    (Everywhere_at (AttendedAt late) l before world a w begins q))

pub sends_ended : (setting : Setting) (late t n : ℕ) (world : List Line) → Fits setting world → Told late setting t n world → SendsEnded late setting t n world
sends_ended setting late t n world f told q = send_ends (setup_of setting n q) late (setting.tick n t) (view q (of n world)) (port_fits setting n world f q)
    (told q)
