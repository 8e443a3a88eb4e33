-- What a port has seen of its candidatures: when they began, who backed them, and which sends asked for votes.
use Rattle.std.proofs.Common.{sym, ap, arith, subst, subst₂, inl, inr, eqb-true, true≢false, ◌∙◌, ◌≡◌, ◌⊎◌, ◌≤◌, ℕ, ◌+◌, ◌==◌, ◌&&◌, ◌||◌, cond, Bool, true}
use Rattle.std.proofs.Common.{false, List, [], ◌∷◌, Option, None, Some, refl}
use Rattle.std.proofs.lemmas.Bool.{or_parts}
use Rattle.tsp_rules.specs.Values.{Boot, Post, Become, Back, Backer, Acked, Gave, Message, Election, PeerId, Peer, Port}
use Rattle.tsp_base.specs.Words.{Deed, Begins, Acts, Did, Line, Seen, Here, Elsewhere, of, dids, view, seen_as, did_of, is_shared, MessageValue, lives}
use Rattle.tsp_base.specs.Words.{lives_after, Within, held, held_after, acting, stood, stood_after, backers, backers_after, has_own_number, is_numbered}
use Rattle.tsp_base.specs.Words.{open_to, open_to_after, begun, begun_after, peer_of, Setup}
use Rattle.tsp_promises.specs.{Fits.node_of, HoldFits.BackerFits, Setting.Setting, Setting.setup_of}
use Rattle.tsp_base.proofs.{PlaceLemmas.Within_comparable, ViewPlaces.port_same}
use Rattle.tsp_promises.proofs.shared.Elections.{In, in_among, not_among, ElectFits, Elects}
use Rattle.tsp_promises.proofs.{leads.Leaves.nil_cons, shared.Elections.Distinct, shared.Elections.AllIn, promised.SendProof.if_nil}
use Rattle.tsp_promises.proofs.{promised.SteadyProof.lives_more}

-- how often the node has booted, as a port sees it
abbrev pub boots : List Seen → ℕ
boots [] = 0
boots (Here d ∷ before) = lives_after d.deed (boots before)
boots (Elsewhere d ∷ before) = boots before

not_boot : (deed : Deed) (n : ℕ) → is_shared deed ≡ false → lives_after deed n ≡ n
not_boot (Acts Boot) n e = absurd (true≢false e)
not_boot _ n e = refl

pub boots_view : (q : Port) (own : List Line) → boots (view q own) ≡ lives (dids own)
boots_view q [] = refl
boots_view q (l ∷ own) = by_case ((l.port.0 == q.0) || is_shared l.did.deed) refl (boots_view q own) where
  by_case : (b : Bool) → ((l.port.0 == q.0) || is_shared l.did.deed) ≡ b → boots (view q own) ≡ lives (dids own) → boots (seen_as b l.did ∷ view q own) ≡
      lives_after l.did.deed (lives (dids own))
  by_case true e h = ap (lives_after l.did.deed) h
  by_case false e h = h ∙ sym (not_boot l.did.deed (lives (dids own)) ((or_parts (l.port.0 == q.0) (is_shared l.did.deed) e).1))

pub boots_mono : (s t : List Seen) → Within s t → boots s ≤ boots t
boots_mono s [] e = subst (λ w. boots w ≤ 0) (sym e) (omega arith)
boots_mono s (Here d ∷ t) (inl e) = subst (λ w. boots w ≤ boots (Here d ∷ t)) (sym e) (omega arith)
boots_mono s (Here d ∷ t) (inr w) = (let h = boots_mono s t w in let k = lives_more d.deed (boots t) in omega (arith, h, k))
boots_mono s (Elsewhere d ∷ t) (inl e) = subst (λ w. boots w ≤ boots (Elsewhere d ∷ t)) (sym e) (omega arith)
boots_mono s (Elsewhere d ∷ t) (inr w) = boots_mono s t w

-- the last change of the role
stood_deed : (d : Did) (before : List Seen) (s : Seen) (i : List Seen) (deed : Deed) → deed ≡ d.deed → stood_after deed (Here d ∷ before) (stood before) ≡ s ∷
    i →
    ((Here d ∷ before ≡ s ∷ i) × (is_shared d.deed ≡ false)) ⊎ ((stood before ≡ s ∷ i) × (lives_after deed (boots before) ≡ boots before))
stood_deed d before s i (Acts Boot) is e = nil_cons s i e
stood_deed d before s i (Acts (Become r)) is e = inl (e, ap is_shared (sym is))
stood_deed d before s i _ is e = inr (e, refl)

-- it stands at its place, in the last life
pub record StoodAt (s : Seen) (i seen : List Seen) : Type 0 where
  pub place : Within (s ∷ i) seen
  pub life : boots (s ∷ i) ≡ boots seen
  pub own : is_shared (did_of s).deed ≡ false

pub stood_at : (seen : List Seen) (s : Seen) (i : List Seen) → stood seen ≡ s ∷ i → StoodAt s i seen
stood_at [] s i e = nil_cons s i e
stood_at (Elsewhere d ∷ before) s i e = let o = stood_at before s i e in record { place = inr o.place; life = o.life; own = o.own }
stood_at (Here d ∷ before) s i e = elim (stood_deed d before s i d.deed refl e) [
  | inl h ↦ record {
    place = inl (sym h.0);
    life = ap boots (sym h.0);
    own = (let k = h.0 in let head : Here d ≡ s = cc in
        subst (λ z. is_shared (did_of z).deed ≡ false) head h.1);
  }
  | inr h ↦ let o = stood_at before s i h.0 in record { place = inr o.place; life = o.life ∙ sym h.1; own = o.own }
]

-- an open send began after the last change of the role, in the last life
pub record OpenAt (f : Did) (o seen : List Seen) : Type 0 where
  pub place : Within (Here f ∷ o) seen
  pub life : boots (Here f ∷ o) ≡ boots seen
  pub after : (s : Seen) (i : List Seen) → stood seen ≡ s ∷ i → Within (s ∷ i) o

kept_open : (f d : Did) (o before : List Seen) (deed : Deed) → deed ≡ d.deed → lives_after deed (boots before) ≡ boots before →
    stood_after deed (Here d ∷ before) (stood before) ≡ stood before → OpenAt f o before → OpenAt f o (Here d ∷ before)
kept_open f d o before deed is same role h = record {
  place = inr h.place;
  life = h.life ∙ sym (subst (λ k. lives_after k (boots before) ≡ boots before) is same);
  after = λ s i e. h.after s i (sym (subst (λ k. stood_after k (Here d ∷ before) (stood before) ≡ stood before) is role) ∙ e);
}

open_post : (f d : Did) (o before was : List Seen) (b : Bool) → cond b (Here d ∷ before) was ≡ Here f ∷ o → (deed : Deed) → deed ≡ d.deed →
    lives_after deed (boots before) ≡ boots before → stood_after deed (Here d ∷ before) (stood before) ≡ stood before →
    (was ≡ Here f ∷ o → OpenAt f o before) → OpenAt f o (Here d ∷ before)
open_post f d o before was true e deed is same role h =
    let rest : before ≡ o = cc in
    let stands = sym (subst (λ k. stood_after k (Here d ∷ before) (stood before) ≡ stood before) is role) in
    record { place = inl (sym e); life = ap boots (sym e); after = λ s i k. subst (λ w. Within (s ∷ i) w) rest (stood_at before s i (stands ∙ k)).place }
open_post f d o before was false e deed is same role h = kept_open f d o before deed is same role (h e)

open_deed : (p : PeerId) (f d : Did) (o before : List Seen) (deed : Deed) → deed ≡ d.deed →
    open_to_after p deed (acting before) (Here d ∷ before) (open_to p before) ≡ Here f ∷ o → (open_to p before ≡ Here f ∷ o → OpenAt f o before) →
    OpenAt f o (Here d ∷ before)
open_deed p f d o before (Acts Boot) is e h = nil_cons (Here f) o e
open_deed p f d o before (Acts (Become r)) is e h = nil_cons (Here f) o e
open_deed p f d o before (Acts (Post (Peer q) (Message m))) is e h =
    open_post f d o before (open_to p before) ((q.0 == p.0) && (is_numbered m.kind && acting before)) e _ is refl refl h
open_deed p f d o before (Acts (Acked q)) is e h = kept_open f d o before _ is refl refl (h (if_nil (q.0 == p.0) (open_to p before) (Here f) o e))
open_deed p f d o before (Acts (Gave q)) is e h = kept_open f d o before _ is refl refl (h (if_nil (q.0 == p.0) (open_to p before) (Here f) o e))
open_deed p f d o before _ is e h = kept_open f d o before _ is refl refl (h e)

pub open_at : (p : PeerId) (seen : List Seen) (f : Did) (o : List Seen) → open_to p seen ≡ Here f ∷ o → OpenAt f o seen
open_at p [] f o e = nil_cons (Here f) o e
open_at p (Elsewhere d ∷ before) f o e = let h = open_at p before f o e in record { place = inr h.place; life = h.life; after = h.after }
open_at p (Here d ∷ before) f o e = open_deed p f d o before d.deed refl e (λ k. open_at p before f o k)

-- what a port owes to elections
abbrev pub PortElects : ℕ → Setup → List Seen → Type 0
PortElects n who [] = Unit {0}
PortElects n who (Here d ∷ before) = ((d.step.node ≡ n) × ElectFits who d.deed d before) × PortElects n who before
PortElects n who (Elsewhere d ∷ before) = PortElects n who before

shared_elects : (who : Setup) (d : Did) (before : List Seen) (deed : Deed) → is_shared deed ≡ true → ElectFits who deed d before
shared_elects who d before Begins e = tt
shared_elects who d before (Acts Boot) e = tt
shared_elects who d before _ e = absurd (true≢false (sym e))

own_elects : (setting : Setting) (n : ℕ) (q : Port) (l : Line) (world : List Line) → node_of l ≡ n → (a : Bool) → (l.port.0 == q.0) ≡ a →
    (a || is_shared l.did.deed) ≡ true →
    ElectFits (setup_of setting (node_of l) l.port) l.did.deed l.did (view l.port (of (node_of l) world)) →
    ElectFits (setup_of setting n q) l.did.deed l.did (view q (of n world))
own_elects setting n q l world node true port e f =
    let same : l.port ≡ q = port_same l.port q port in
    subst₂ (λ m r. ElectFits (setup_of setting m r) l.did.deed l.did (view r (of m world))) node same f
own_elects setting n q l world node false port e f = shared_elects (setup_of setting n q) l.did (view q (of n world)) l.did.deed e

pub port_elects : (setting : Setting) (n : ℕ) (q : Port) (world : List Line) → Elects setting world → PortElects n (setup_of setting n q) (view q (of n world))
port_elects setting n q [] f = tt
port_elects setting n q (l ∷ world) f = by_node (node_of l == n) refl (port_elects setting n q world f.1) where
  by_port : (c : Bool) → ((l.port.0 == q.0) || is_shared l.did.deed) ≡ c → node_of l ≡ n → PortElects n (setup_of setting n q) (view q (of n world)) →
      PortElects n (setup_of setting n q) (seen_as c l.did ∷ view q (of n world))
  by_port true e node h = ((node, own_elects setting n q l world node (l.port.0 == q.0) refl e f.0), h)
  by_port false e node h = h

  by_node : (b : Bool) → (node_of l == n) ≡ b → PortElects n (setup_of setting n q) (view q (of n world)) →
      PortElects n (setup_of setting n q) (view q (of n (l ∷ world)))
  by_node true e h = rw e (by_port ((l.port.0 == q.0) || is_shared l.did.deed) refl (eqb-true (node_of l) n e) h)
  by_node false e h = rw e h

-- the place where p backed the last candidature
pub record BackerAt (n : ℕ) (who : Setup) (p : PeerId) (seen : List Seen) : Type 0 where
  pub did : Did
  pub before : List Seen
  pub place : Within (Here did ∷ before) seen
  pub deed : did.deed ≡ Acts (Backer p)
  pub node : did.step.node ≡ n
  pub fits : BackerFits who did before p
  pub same : stood before ≡ stood seen

later_backer : (n : ℕ) (who : Setup) (p : PeerId) (d : Did) (seen : List Seen) → stood_after d.deed (Here d ∷ seen) (stood seen) ≡ stood seen →
    BackerAt n who p seen → BackerAt n who p (Here d ∷ seen)
later_backer n who p d seen role h = record {
  did = h.did;
  before = h.before;
  place = inr h.place;
  deed = h.deed;
  node = h.node;
  fits = h.fits;
  same = h.same ∙
      sym role;
}

backer_deed : (n : ℕ) (who : Setup) (p : PeerId) (d : Did) (seen : List Seen) (deed : Deed) → deed ≡ d.deed → d.step.node ≡ n → ElectFits who deed d seen →
    In p (backers_after deed (backers seen)) → (In p (backers seen) → BackerAt n who p seen) → BackerAt n who p (Here d ∷ seen)
backer_deed n who p d seen (Acts Boot) is node f i h = absurd i
backer_deed n who p d seen (Acts (Become r)) is node f i h = absurd i
backer_deed n who p d seen (Acts (Backer r)) is node f (inl e) h = record {
  did = d;
  before = seen;
  place = inl refl;
  deed = sym is ∙ ap (λ (z : PeerId). Acts (Backer z)) e;
  node = node;
  fits = subst (λ z. BackerFits who d seen z) e f;
  same = ap (λ k. stood_after k (Here d ∷ seen) (stood seen)) is;
}
backer_deed n who p d seen (Acts (Backer r)) is node f (inr i) h = later_backer n who p d seen (ap (λ k. stood_after k (Here d ∷ seen) (stood seen)) (sym is))
    (h i)
backer_deed n who p d seen _ is node f i h = later_backer n who p d seen (ap (λ k. stood_after k (Here d ∷ seen) (stood seen)) (sym is)) (h i)

pub backer_at : (n : ℕ) (who : Setup) (p : PeerId) (seen : List Seen) → PortElects n who seen → In p (backers seen) → BackerAt n who p seen
backer_at n who p [] f i = absurd i
backer_at n who p (Elsewhere d ∷ seen) f i = let h = backer_at n who p seen f i in record {
  did = h.did;
  before = h.before;
  place = inr h.place;
  deed = h.deed;
  node = h.node;
  fits = h.fits;
  same = h.same;
}
backer_at n who p (Here d ∷ seen) f i = backer_deed n who p d seen d.deed refl f.0.0 f.0.1 i (λ k. backer_at n who p seen f.1 k)

-- the backers are different peers, and none is the node itself
pub record Voters (n : ℕ) (who : Setup) (ps : List PeerId) : Type 0 where
  pub distinct : Distinct ps
  pub peers : AllIn ps who.peers
  pub others : In (peer_of n) ps → ⊥

voters_deed : (n : ℕ) (who : Setup) (d : Did) (seen : List Seen) (deed : Deed) → d.step.node ≡ n → ElectFits who deed d seen → Voters n who (backers seen) →
    Voters n who (backers_after deed (backers seen))
voters_deed n who d seen (Acts Boot) node f h = record { distinct = tt; peers = tt; others = λ i. i }
voters_deed n who d seen (Acts (Become r)) node f h = record { distinct = tt; peers = tt; others = λ i. i }
voters_deed n who d seen (Acts (Backer r)) node f h = record {
  distinct = (not_among r (backers seen) f.new, h.distinct);
  peers = (in_among r who.peers f.peer, h.peers);
  others = λ i. own i;
} where
  own : In (peer_of n) (r ∷ backers seen) → ⊥
  own (inl e) = f.other (e ∙ ap peer_of (sym node))
  own (inr i) = h.others i
voters_deed n who d seen _ node f h = h

pub voters : (n : ℕ) (who : Setup) (seen : List Seen) → PortElects n who seen → Voters n who (backers seen)
voters n who [] f = record { distinct = tt; peers = tt; others = λ i. i }
voters n who (Elsewhere d ∷ seen) f = voters n who seen f
voters n who (Here d ∷ seen) f = voters_deed n who d seen d.deed f.0.0 f.0.1 (voters n who seen f.1)

-- where the last backing stands
pub record HeldAt (t : ℕ) (p : PeerId) (seen : List Seen) : Type 0 where
  pub did : Did
  pub before : List Seen
  pub place : Within (Here did ∷ before) seen
  pub deed : did.deed ≡ Acts (Back p)
  pub tick : did.tick ≡ t

abbrev pub tick_in : Option (ℕ × PeerId) → ℕ
tick_in None = 0
tick_in (Some o) = o.0

abbrev pub peer_in : Option (ℕ × PeerId) → PeerId
peer_in None = peer_of 0
peer_in (Some o) = o.1

held_deed : (t : ℕ) (p : PeerId) (d : Did) (seen : List Seen) (deed : Deed) → deed ≡ d.deed → (held_after deed d.tick (held seen)).back ≡ Some (t, p) →
    ((held seen).back ≡ Some (t, p) → HeldAt t p seen) → HeldAt t p (Here d ∷ seen)
held_deed t p d seen (Acts Boot) is e h = let bad : ⊥ = cc in absurd bad
held_deed t p d seen (Acts (Back r)) is e h = record {
  did = d;
  before = seen;
  place = inl refl;
  deed = sym is ∙ ap (λ (z : PeerId). Acts (Back z)) (ap (λ o. peer_in o) e);
  tick = ap (λ o. tick_in o) e;
}
held_deed t p d seen _ is e h = let o = h e in record { did = o.did; before = o.before; place = inr o.place; deed = o.deed; tick = o.tick }

pub held_at : (t : ℕ) (p : PeerId) (seen : List Seen) → (held seen).back ≡ Some (t, p) → HeldAt t p seen
held_at t p [] e = let bad : ⊥ = cc in absurd bad
held_at t p (Elsewhere d ∷ seen) e = let o = held_at t p seen e in record { did = o.did; before = o.before; place = inr o.place; deed = o.deed; tick = o.tick }
held_at t p (Here d ∷ seen) e = held_deed t p d seen d.deed refl e (λ k. held_at t p seen k)

-- in one life the count of sends never falls
count_cond : (b : Bool) (n : ℕ) → n ≤ cond b (n + 1) n
count_cond true n = omega arith
count_cond false n = omega arith

begun_deed : (deed : Deed) (acts : Bool) (n k : ℕ) → lives_after deed k ≡ k → n ≤ begun_after deed acts n
begun_deed (Acts Boot) acts n k e = absurd (omega (arith, e))
begun_deed (Acts (Post to (Message m))) acts n k e = count_cond (has_own_number m.kind && acts) n
begun_deed _ acts n k e = omega arith

pub begun_mono : (s t : List Seen) → Within s t → boots s ≡ boots t → begun s ≤ begun t
begun_mono s [] e v = subst (λ w. begun w ≤ 0) (sym e) (omega arith)
begun_mono s (Here d ∷ t) (inl e) v = subst (λ w. begun w ≤ begun (Here d ∷ t)) (sym e) (omega arith)
begun_mono s (Here d ∷ t) (inr w) v =
    let low = boots_mono s t w in
    let more = lives_more d.deed (boots t) in
    let same : lives_after d.deed (boots t) ≡ boots t = omega (arith, low, more, v) in
    let new = begun_deed d.deed (acting t) (begun t) (boots t) same in
    omega (arith, begun_mono s t w (omega (arith, low, more, v)), new)
begun_mono s (Elsewhere d ∷ t) (inl e) v = subst (λ w. begun w ≤ begun (Elsewhere d ∷ t)) (sym e) (omega arith)
begun_mono s (Elsewhere d ∷ t) (inr w) v = begun_mono s t w v

-- an ELECTION begins here
pub record Asks (p : PeerId) (f : Did) (o : List Seen) : Type 0 where
  pub message : MessageValue
  pub deed : f.deed ≡ Acts (Post (Peer p) (Message message))
  pub kind : message.kind ≡ Election
  pub begins : acting o ≡ true

pub begun_asks : (p : PeerId) (f : Did) (o : List Seen) → Asks p f o → begun (Here f ∷ o) ≡ begun o + 1
begun_asks p f o a =
    let own : has_own_number a.message.kind ≡ true = ap has_own_number a.kind in
    rw a.deed (rw (own, a.begins) refl)

pub asks_life : (p : PeerId) (f : Did) (o : List Seen) → Asks p f o → boots (Here f ∷ o) ≡ boots o
asks_life p f o a = rw a.deed refl

-- in one life two ELECTIONs that begin after as many sends are one
pub one_asking : (p : PeerId) (g f : Did) (go fo seen : List Seen) → Asks p g go → Asks p f fo → Within (Here g ∷ go) seen → Within (Here f ∷ fo) seen →
    boots (Here g ∷ go) ≡ boots (Here f ∷ fo) → begun go ≡ begun fo → Here g ∷ go ≡ Here f ∷ fo
one_asking p g f go fo seen a b v w life same = elim (Within_comparable (Here g ∷ go) (Here f ∷ fo) seen v w) [
  | inl (inl e) ↦ e
  | inl (inr i) ↦ absurd (let k = begun_mono (Here g ∷ go) fo i (life ∙ asks_life p f fo b) in let n = begun_asks p g go a in omega (arith, k, n, same))
  | inr (inl e) ↦ sym e
  | inr (inr i) ↦ absurd (let k = begun_mono (Here f ∷ fo) go i (sym life ∙ asks_life p g go a) in let n = begun_asks p f fo b in omega (arith, k, n, same))
]
