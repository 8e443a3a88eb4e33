-- What one act more makes of a port's sends.
use Rattle.std.specs.Prelude.{◌≡◌, ℕ, ◌+◌, ◌==◌, ◌&&◌, Bool, true, false, if◌then◌else◌, List, [], ◌∷◌, Option, None, Some, refl}
use Rattle.std.proofs.lemmas.Bool.{and_right}
use Rattle.tsp_base.specs.declared.act.Act.{Act, TheVariants.Post, TheVariants.Acked, TheVariants.Gave}
use Rattle.tsp_base.specs.declared.{datagram.Datagram.TheVariants.Message, place.PeerId.PeerId, place.Place.Place}
use Rattle.tsp_base.specs.declared.place.Place.TheVariants.{Peer, Stranger}
use Rattle.tsp_base.specs.Words.{Step, Acts, Seen, Here, did_of, MessageValue, acting, again, corrects_in, message_of, sending_of, is_numbered, is_correction}
use Rattle.tsp_base.specs.Words.{open_send, sending_at, open_to, posts_of, last_post, last_number, number_of, message_at, last_to, is_acknowledged, corrects_by}

-- an act here, in this step and at this tick
abbrev pub seen_act : Step → ℕ → Act → Seen
seen_act step x a = Here (record { step = step; tick = x; deed = Acts a })

sending_at_more : (place : List Seen) (n : ℕ) → sending_at place (n + 1) ≡ again (sending_at place n)
sending_at_more [] n = refl
sending_at_more (s ∷ before) n = more (message_of (did_of s).deed) (did_of s).tick where
  more : (m : Option MessageValue) (x : ℕ) → sending_of m x (n + 1) ≡ again (sending_of m x n)
  more None x = refl
  more (Some m) x = refl

-- the first post of a numbered send
pub open_send_begins : (step : Step) (x : ℕ) (p q : PeerId) (m : MessageValue) (seen : List Seen) → is_numbered m.kind ≡ true → acting seen ≡ true →
    open_send p (seen_act step x (Post (Peer q) (Message m)) ∷ seen) ≡ (if q.0 == p.0 then Some (record { began = x; posts = 1; message = m }) else open_send p
    seen)
open_send_begins step x p q m seen numbered acts = rw (numbered, acts) (by_case (q.0 == p.0)) where
  by_case : (b : Bool) →
      sending_at (if b && true then seen_act step x (Post (Peer q) (Message m)) ∷ seen else open_to p seen) (if b && true then 1 else posts_of p seen)
      ≡ (if b then Some (record { began = x; posts = 1; message = m }) else open_send p seen)
  by_case true = refl
  by_case false = refl

-- a repeat of a numbered send
pub open_send_repeats : (step : Step) (x : ℕ) (p q : PeerId) (m : MessageValue) (seen : List Seen) → is_numbered m.kind ≡ true → acting seen ≡ false →
    open_send p (seen_act step x (Post (Peer q) (Message m)) ∷ seen) ≡ (if q.0 == p.0 then again (open_send p seen) else open_send p seen)
open_send_repeats step x p q m seen numbered acts = rw (numbered, acts) (by_case (q.0 == p.0)) where
  by_case : (b : Bool) →
      sending_at (if b && false then seen_act step x (Post (Peer q) (Message m)) ∷
      seen else open_to p seen) (if b && true then posts_of p seen + 1 else posts_of p seen)
      ≡ (if b then again (open_send p seen) else open_send p seen)
  by_case true = sending_at_more (open_to p seen) (posts_of p seen)
  by_case false = refl

-- a message that isn't numbered changes no send
pub open_send_unnumbered : (step : Step) (x : ℕ) (p : PeerId) (to : Place) (m : MessageValue) (seen : List Seen) → is_numbered m.kind ≡ false →
    open_send p (seen_act step x (Post to (Message m)) ∷ seen) ≡ open_send p seen
open_send_unnumbered step x p (Peer q) m seen bare = rw (bare, and_right (q.0 == p.0) false refl) refl
open_send_unnumbered step x p Stranger m seen bare = refl

-- the end of a send
pub open_send_acked : (step : Step) (x : ℕ) (p q : PeerId) (seen : List Seen) →
    open_send p (seen_act step x (Acked q) ∷ seen) ≡ (if q.0 == p.0 then None else open_send p seen)
open_send_acked step x p q seen = by_case (q.0 == p.0) where
  by_case : (b : Bool) → sending_at (if b then [] else open_to p seen) (if b then 0 else posts_of p seen) ≡ (if b then None else open_send p seen)
  by_case true = refl
  by_case false = refl

pub open_send_gave : (step : Step) (x : ℕ) (p q : PeerId) (seen : List Seen) →
    open_send p (seen_act step x (Gave q) ∷ seen) ≡ (if q.0 == p.0 then None else open_send p seen)
open_send_gave step x p q seen = by_case (q.0 == p.0) where
  by_case : (b : Bool) → sending_at (if b then [] else open_to p seen) (if b then 0 else posts_of p seen) ≡ (if b then None else open_send p seen)
  by_case true = refl
  by_case false = refl

-- the post of a correction, first or repeated
pub last_post_posts : (step : Step) (x : ℕ) (p q : PeerId) (m : MessageValue) (seen : List Seen) → is_correction m.kind ≡ true →
    last_post p (seen_act step x (Post (Peer q) (Message m)) ∷ seen) ≡ (if q.0 == p.0 then Some x else last_post p seen)
last_post_posts step x p q m seen corrects = rw corrects (by_case (q.0 == p.0)) where
  by_case : (b : Bool) → (if b && true then Some x else last_post p seen) ≡ (if b then Some x else last_post p seen)
  by_case true = refl
  by_case false = refl

-- a message that doesn't correct changes nothing of the last correction
pub last_post_other : (step : Step) (x : ℕ) (p : PeerId) (to : Place) (m : MessageValue) (seen : List Seen) → is_correction m.kind ≡ false →
    last_post p (seen_act step x (Post to (Message m)) ∷ seen) ≡ last_post p seen
last_post_other step x p (Peer q) m seen other = rw (other, and_right (q.0 == p.0) false refl) refl
last_post_other step x p Stranger m seen other = refl

pub last_number_begins : (step : Step) (x : ℕ) (p q : PeerId) (m : MessageValue) (seen : List Seen) → is_correction m.kind ≡ true → acting seen ≡ true →
    last_number p (seen_act step x (Post (Peer q) (Message m)) ∷ seen) ≡ (if q.0 == p.0 then m.number else last_number p seen)
last_number_begins step x p q m seen corrects acts = rw (corrects, acts) (by_case (q.0 == p.0)) where
  by_case : (b : Bool) →
      number_of (message_at (if b && true then seen_act step x (Post (Peer q) (Message m)) ∷ seen else last_to p seen)) ≡
      (if b then m.number else last_number p seen)
  by_case true = refl
  by_case false = refl

-- a post that begins no correction
pub last_number_other : (step : Step) (x : ℕ) (p : PeerId) (to : Place) (m : MessageValue) (seen : List Seen) → (is_correction m.kind && acting seen) ≡ false →
    last_number p (seen_act step x (Post to (Message m)) ∷ seen) ≡ last_number p seen
last_number_other step x p (Peer q) m seen other = rw (other, and_right (q.0 == p.0) false refl) refl
last_number_other step x p Stranger m seen other = refl

pub is_acknowledged_begins : (step : Step) (x : ℕ) (p q : PeerId) (m : MessageValue) (seen : List Seen) → is_correction m.kind ≡ true → acting seen ≡ true →
    is_acknowledged p (seen_act step x (Post (Peer q) (Message m)) ∷ seen) ≡ (if q.0 == p.0 then false else is_acknowledged p seen)
is_acknowledged_begins step x p q m seen corrects acts = rw (corrects, acts) (by_case (q.0 == p.0)) where
  by_case : (b : Bool) → (if b && true then false else is_acknowledged p seen) ≡ (if b then false else is_acknowledged p seen)
  by_case true = refl
  by_case false = refl

pub is_acknowledged_other : (step : Step) (x : ℕ) (p : PeerId) (to : Place) (m : MessageValue) (seen : List Seen) → (is_correction m.kind && acting seen) ≡
    false →
    is_acknowledged p (seen_act step x (Post to (Message m)) ∷ seen) ≡ is_acknowledged p seen
is_acknowledged_other step x p (Peer q) m seen other = rw (other, and_right (q.0 == p.0) false refl) refl
is_acknowledged_other step x p Stranger m seen other = refl

pub corrects_by_open : (p : PeerId) (seen : List Seen) → corrects_by (message_at (open_to p seen)) ≡ corrects_in (open_send p seen)
corrects_by_open p seen = at_place (open_to p seen) (posts_of p seen) where
  of_message : (m : Option MessageValue) (x n : ℕ) → corrects_by m ≡ corrects_in (sending_of m x n)
  of_message None x n = refl
  of_message (Some m) x n = refl

  at_place : (place : List Seen) (n : ℕ) → corrects_by (message_at place) ≡ corrects_in (sending_at place n)
  at_place [] n = refl
  at_place (s ∷ before) n = of_message (message_of (did_of s).deed) (did_of s).tick n

pub is_acknowledged_acked : (step : Step) (x : ℕ) (p q : PeerId) (seen : List Seen) →
    is_acknowledged p (seen_act step x (Acked q) ∷ seen) ≡ (if (q.0 == p.0) && corrects_in (open_send p seen) then true else is_acknowledged p seen)
is_acknowledged_acked step x p q seen = rw (corrects_by_open p seen) refl
