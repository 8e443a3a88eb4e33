-- Where few datagrams are posted, no port begins many sends.
use Rattle.std.proofs.Common.{arith, length-append, subst, sym, true≢false, ◌≡◌, ◌<◌, ◌≤◌, nat_le, ℕ, ◌+◌, ◌==◌, ◌&&◌, ◌||◌, Bool, true, false, if◌then◌else◌}
use Rattle.std.proofs.Common.{List, [], ◌∷◌, length, refl}
use Rattle.std.proofs.lemmas.Bool.{le-leb}
use Rattle.tsp_rules.specs.Values.{Boot, Post, Message, Kind, Ack, Conflict, DateAck, Election, QuitKind, SetDateReq, PeerId, Place, Peer, Stranger, Port}
use Rattle.tsp_base.specs.Words.{MessageValue, Setup, Acts, Deed, Did, Line, Seen, Here, Elsewhere, is_shared, of, seen_as, view, acting, begun, begun_after}
use Rattle.tsp_base.specs.Words.{has_own_number}
use Rattle.tsp_promises.specs.{DeedFits.DeedFits, DeedFits.MessageFits, DeedFits.PostFits, DeedFits.StrangerFits, Everywhere.Everywhere}
use Rattle.tsp_promises.{specs.Setting.Setting, specs.Setting.setup_of, proofs.promised.OwnFitsProof.port_fits, specs.Fits.Fits, specs.Fits.node_of}
use Rattle.tsp_promises.specs.{PortFits.PortFits, Premises.Few}
use Rattle.tsp_run.specs.{Premised.own_posts, Premised.own_posts_after, Run.posted_in, Run.posts}

one_if : (b : Bool) (n m : ℕ) → n ≤ m → (if b then n + 1 else n) ≤ m + 1
one_if true n m le = omega (arith, le)
one_if false n m le = omega (arith, le)

-- a deed begins no more sends than it posts datagrams
begins_posts : (l : Line) (begins : Bool) (deed : Deed) (n m : ℕ) → n ≤ m → begun_after deed begins n ≤ m + length (posted_in l.port l.did.step deed)
begins_posts l begins (Acts Boot) n m le = omega arith
begins_posts l begins (Acts (Post to (Message k))) n m le = one_if (has_own_number k.kind && begins) n m le
begins_posts l begins _ n m le = omega (arith, le)

seen_posts : (l : Line) (here : Bool) (before : List Seen) (m : ℕ) → begun before ≤ m →
    begun (seen_as here l.did ∷ before) ≤ m + length (posted_in l.port l.did.step l.did.deed)
seen_posts l true before m le = begins_posts l (acting before) l.did.deed (begun before) m le
seen_posts l false before m le = omega (arith, le)

-- no port has begun more sends than datagrams were posted
begun_posts : (q : Port) (n : ℕ) (h : List Line) → begun (view q (of n h)) ≤ length (posts h)
begun_posts q n [] = omega arith
begun_posts q n (l ∷ before) = by_node (l.did.step.node == n) (begun_posts q n before) where
  all : length (posts (l ∷ before)) ≡ length (posts before) + length (posted_in l.port l.did.step l.did.deed)
  all = length-append (posts before) (posted_in l.port l.did.step l.did.deed)

  by_node : (b : Bool) → begun (view q (of n before)) ≤ length (posts before) → begun (view q (if b then l ∷ of n before else of n before)) ≤ length
      (posts (l ∷ before))
  by_node true older = let some = seen_posts l ((l.port.0 == q.0) || is_shared l.did.deed) (view q (of n before)) (length (posts before)) older in
      omega (arith, all, some)
  by_node false older = omega (arith, all, older)

-- so it is at each place of a history
pub short_few : (h : List Line) → length (posts h) < 32768 → Few h
short_few [] s = tt
short_few (l ∷ before) s =
    let all = length-append (posts before) (posted_in l.port l.did.step l.did.deed) in
    let here = begun_posts l.port (node_of l) (l ∷ before) in
    ((omega (arith, here, s)), short_few before (omega (arith, all, s)))

-- a send with an own number begins with a post of a number from 32,768 on
own_number : (setup : Setup) (k : Kind) (here : Did) (before : List Seen) (p : PeerId) (m : MessageValue) → has_own_number k ≡ true →
    MessageFits setup k here before p m → 32768 ≤ m.number
own_number setup Election here before p m own f = f.numbered.number
own_number setup Conflict here before p m own f = f.number
own_number setup QuitKind here before p m own f = f.number
own_number setup SetDateReq here before p m own f = f.numbered.number
own_number setup _ here before p m own f = absurd (true≢false (sym own))

no_stranger : (k : Kind) (here : Did) (before : List Seen) (number : ℕ) → has_own_number k ≡ true → StrangerFits k here before number → ⊥
no_stranger Ack here before number own f = true≢false (sym own)
no_stranger DateAck here before number own f = true≢false (sym own)
no_stranger _ here before number own f = f

number_posted : (setup : Setup) (to : Place) (here : Did) (before : List Seen) (m : MessageValue) → has_own_number m.kind ≡ true →
    PostFits setup to (Message m) here before → 32768 ≤ m.number
number_posted setup (Peer p) here before m own f = own_number setup m.kind here before p m own f
number_posted setup Stranger here before m own f = absurd (no_stranger m.kind here before m.number own f.0)

count_post : (own begins : Bool) (number n k : ℕ) → (own ≡ true → 32768 ≤ number) → n ≤ k →
    (if own && begins then n + 1 else n) ≤ (if nat_le 32768 number then k + 1 else k)
count_post false begins number n k large le = more (nat_le 32768 number) where
  more : (b : Bool) → n ≤ (if b then k + 1 else k)
  more true = omega (arith, le)
  more false = le
count_post true false number n k large le = more (nat_le 32768 number) where
  more : (b : Bool) → n ≤ (if b then k + 1 else k)
  more true = omega (arith, le)
  more false = le
count_post true true number n k large le = subst (λ b. n + 1 ≤ (if b then k + 1 else k)) (sym (le-leb 32768 number (large refl))) (omega (arith, le))

begins_own : (setup : Setup) (d : Did) (before : List Seen) (deed : Deed) → DeedFits setup deed d before → begun before ≤ own_posts before →
    begun_after deed (acting before) (begun before) ≤ own_posts_after deed (own_posts before)
begins_own setup d before (Acts Boot) f le = omega arith
begins_own setup d before (Acts (Post to (Message m))) f le = count_post (has_own_number m.kind) (acting before) m.number (begun before) (own_posts before)
    (λ own. number_posted setup to d before m own f.fits) le
begins_own setup d before _ f le = le

own_begun : (setup : Setup) (seen : List Seen) → PortFits setup seen → begun seen ≤ own_posts seen
own_begun setup [] f = omega arith
own_begun setup (Elsewhere d ∷ before) f = own_begun setup before f
own_begun setup (Here d ∷ before) f = begins_own setup d before d.deed f.0 (own_begun setup before f.1)

-- so no port begins more sends in a life than it posts such numbers
pub own_few : (setting : Setting) (h : List Line) → Fits setting h → Everywhere (λ (l : Line) (before : List Line). own_posts
    (view l.port (of (node_of l) (l ∷ before))) < 32768) h → Few h
own_few setting [] f o = tt
own_few setting (l ∷ before) f o =
    let few = own_begun (setup_of setting (node_of l) l.port) (view l.port (of (node_of l) (l ∷ before))) (port_fits setting (node_of l) (l ∷ before) f l.port)
    in
    ((omega (arith, few, o.0)), own_few setting before f.1 o.1)
