-- Backing, line by line.
use Rattle.std.proofs.Common.{sym, ap, subst, inl, inr, ◌⊎◌, ◌∙◌, eq-eqb, eqb-true, true≢false, ◌≡◌, ◌==◌, ◌||◌, ◌&&◌, ◌≤◌, ◌+◌, ℕ, Bool, true, false}
use Rattle.std.proofs.Common.{if◌then◌else◌, List, ◌∷◌, Option, refl, MatchBool, None, Some}
use Rattle.tsp_rules.specs.Values.{Act, Post, Become, Back, Message, Kind, Accept, Election, PeerId, Place, Peer, Stranger, Port, Candidate, HOLD}
use Rattle.tsp_base.specs.Words.{Acts, Begins, Deed, Line, is_shared, of, seen_as, view, MessageValue}
use Rattle.tsp_promises.specs.{Everywhere.Everywhere, Fits.node_of, StepFacts.backed, StepFacts.is_unbacked, StepFacts.is_unbacked_after}
use Rattle.tsp_promises.specs.OneBack.{BacksAt, HoldsAt, IsBacked, OneBack}
use Rattle.tsp_promises.proofs.shared.EverywhereLemmas.{Everywhere_at, Everywhere_from}
use Rattle.tsp_base.proofs.ViewPlaces.{or-false, port_same}
use Rattle.tsp_audit.specs.Backing.{Backs, Settled, deed_backs, is_stand, is_standing, post_backs}
use Rattle.tsp_history.specs.Holding.{HoldsApart}
use Rattle.tsp_rules.proofs.GuardFacts.{same_peer}
use Rattle.tsp_audit.proofs.Alike.{back_same, message_same, none-some, place_same, some_same}

kept : (b was : Bool) → (if b then false else was) ≡ true → was ≡ true
kept true was e = absurd (true≢false (sym e))
kept false was e = e

standing : (deed : Deed) (own : ℕ) (was : Bool) → is_unbacked_after deed own was ≡ true → (was ≡ true) ⊎ (is_standing deed ≡ true)
standing Begins own was e = absurd (true≢false (sym e))
standing (Acts (Become Candidate)) own was e = inr refl
standing (Acts (Back p)) own was e = inl (kept (p.0 == own) was e)
standing _ own was e = inl e

own_deed : (deed : Deed) → is_standing deed ≡ true → is_shared deed ≡ false
own_deed (Acts (Become Candidate)) e = refl
own_deed _ e = absurd (true≢false (sym e))

-- a line makes port q of node n a candidate
pub record Stands (l : Line) (n : ℕ) (q : Port) : Type 0 where
  pub is : is_stand l ≡ true
  pub node : node_of l ≡ n
  pub port : l.port ≡ q

by_port : (l : Line) (h : List Line) (n : ℕ) (q : Port) → (node_of l == n) ≡ true → (c : Bool) → ((l.port.0 == q.0) || is_shared l.did.deed) ≡ c →
    is_unbacked (seen_as ((l.port.0 == q.0) || is_shared l.did.deed) l.did ∷ view q (of n h)) ≡ true → (is_unbacked (view q (of n h)) ≡ true) ⊎ Stands l n q
by_port l h n q node false s e = inl (rw s at e)
by_port l h n q node true s e = elim (standing l.did.deed l.did.step.node (is_unbacked (view q (of n h))) (rw s at e)) [
  | inl k ↦ inl k
  | inr k ↦ inr (record {
    is = k;
    node = eqb-true (node_of l) n node;
    port = port_same l.port q (or-false (l.port.0 == q.0) (is_shared l.did.deed) s
        (own_deed l.did.deed k));
  })
]

by_node : (l : Line) (h : List Line) (n : ℕ) (q : Port) (b : Bool) → (node_of l == n) ≡ b → is_unbacked (view q (of n (l ∷ h))) ≡ true →
    (is_unbacked (view q (of n h)) ≡ true) ⊎ Stands l n q
by_node l h n q true same e = by_port l h n q same ((l.port.0 == q.0) || is_shared l.did.deed) refl (rw same at e)
by_node l h n q false same e = inl (rw same at e)

-- an unbacked candidate was one before, or this line makes it one
pub unbacked_more : (l : Line) (h : List Line) (n : ℕ) (q : Port) → is_unbacked (view q (of n (l ∷ h))) ≡ true → (is_unbacked (view q (of n h)) ≡ true) ⊎
    Stands l n q
unbacked_more l h n q e = by_node l h n q (node_of l == n) refl e

pub neither : (a b r : Bool) → r ≡ (a && b) → r ≡ false → a ≡ true → b ≡ true → ⊥
neither true true r e f p q = true≢false (sym e ∙ f)
neither true false r e f p q = true≢false (sym q)
neither false b r e f p q = true≢false (sym p)

-- a Back keeps the hold where each line before stands apart from it
pub held_decides : (b : Bool) (l : Line) (world : List Line) (p : PeerId) → l.did.deed ≡ Acts (Back p) →
    MatchBool b (Everywhere (λ other older. HoldsApart (node_of l) l.port l.did.tick p other) world)
    (Everywhere (λ other older. HoldsApart (node_of l) l.port l.did.tick p other) world → ⊥) →
    MatchBool b (HoldsAt l world) (HoldsAt l world → ⊥)
held_decides true l world p deed all = λ c q other older d w n t o.
    let same : p ≡ c = back_same (sym deed ∙ d) in
    let apart : HoldsApart (node_of l) l.port l.did.tick p other = Everywhere_at (λ other older. HoldsApart (node_of l) l.port l.did.tick p other) other older
    world all w in
    subst (λ (k : PeerId). (q ≡ k) ⊎ (other.did.tick + HOLD ≤ l.did.tick)) same (apart q n t o)
held_decides false l world p deed bad = λ f. bad (Everywhere_from (λ other older. HoldsApart (node_of l) l.port l.did.tick p other) world
    (λ other older w c n t o. f p c other older deed w n t o))

pub backs_all : (h : List Line) → Everywhere HoldsAt h → Everywhere BacksAt h → Everywhere Backs h
backs_all h p q = Everywhere_from Backs h (λ l s w. record { holds = Everywhere_at HoldsAt l s h p w; backs = Everywhere_at BacksAt l s h q w })

-- nobody was unbacked
pub settled : (h : List Line) → OneBack h → Settled None h
settled h old = λ n q meant. old.ends n q

pub ends_decide : (b : Bool) (h : List Line) → Everywhere Backs h → MatchBool b (Settled None h) (Settled None h → ⊥) → MatchBool b (OneBack h) (OneBack h → ⊥)
ends_decide true h e s = record {
  holds = Everywhere_from HoldsAt h (λ l s w. (Everywhere_at Backs l s h e w).holds);
  backs = Everywhere_from BacksAt h (λ l s w. (Everywhere_at Backs l s h e w).backs);
  ends = λ n q. s n q refl;
}
ends_decide false h e bad = λ all. bad (settled h all)

abbrev begins : Deed → Bool
begins Begins = true
begins (Acts a) = false

abbrev posts_message : Deed → Bool
posts_message (Acts (Post to (Message m))) = true
posts_message _ = false

abbrev is_accept : Kind → Bool
is_accept Accept = true
is_accept _ = false

abbrev is_election : Kind → Bool
is_election Election = true
is_election _ = false

-- an act that posts no message keeps to whom its step has backed
silent : (l : Line) (world : List Line) (a : Act) → l.did.deed ≡ Acts a → posts_message (Acts a) ≡ false → BacksAt l world
silent l world a deed quiet = record {
  accepts = λ t n is kind. absurd (true≢false (ap posts_message (sym is ∙ deed) ∙ quiet));
  asks = λ t n is kind. absurd (true≢false (ap posts_message (sym is ∙ deed) ∙ quiet));
  ends = λ is q. absurd (true≢false (ap begins (sym is ∙ deed)));
}

-- a post keeps to whom its step has backed where what its kind asks holds
keeps_post : (l : Line) (world : List Line) (to : Place) (m : MessageValue) → l.did.deed ≡ Acts (Post to (Message m)) →
    (m.kind ≡ Accept → IsBacked to (backed (view l.port (of (node_of l) world)))) →
    (m.kind ≡ Election → is_unbacked (view l.port (of (node_of l) world)) ≡ false) → BacksAt l world
keeps_post l world to m deed accepts asks = record {
  accepts = λ t n is kind. let place : to ≡ t = place_same (sym deed ∙ is) in let same : m ≡ n = message_same (sym deed ∙ is) in
      subst (λ (z : Place). IsBacked z (backed (view l.port (of (node_of l) world)))) place (accepts (ap (λ (z : MessageValue). z.kind) same ∙ kind));
  asks = λ t n is kind. let same : m ≡ n = message_same (sym deed ∙ is) in asks (ap (λ (z : MessageValue). z.kind) same ∙ kind);
  ends = λ is q. absurd (true≢false (ap begins (sym is ∙ deed)));
}

-- whether it does, by its kind
post_decides : (l : Line) (world : List Line) (to : Place) (m : MessageValue) (k : Kind) (b : Bool) (v : Option PeerId) (u : Bool) → l.did.deed ≡
    Acts (Post to (Message m)) → m.kind ≡ k →
    backed (view l.port (of (node_of l) world)) ≡ v → is_unbacked (view l.port (of (node_of l) world)) ≡ u → b ≡ post_backs k to v u →
    MatchBool b (BacksAt l world) (BacksAt l world → ⊥)
post_decides l world (Peer p) m Accept b None u deed kind backs asks e =
    subst (λ (z : Bool). MatchBool z (BacksAt l world) (BacksAt l world → ⊥)) (sym e) (λ f. none-some (sym backs ∙ f.accepts (Peer p) m deed kind))
post_decides l world (Peer p) m Accept b (Some q) u deed kind backs asks e =
    subst (λ (z : Bool). MatchBool z (BacksAt l world) (BacksAt l world → ⊥)) (sym e) (by_case (q.0 == p.0) refl)
  where
    by_case : (c : Bool) → (q.0 == p.0) ≡ c → MatchBool c (BacksAt l world) (BacksAt l world → ⊥)
    by_case true c = keeps_post l world (Peer p) m deed (λ i. backs ∙ ap Some (same_peer q p c)) (λ i. absurd (true≢false (ap is_accept (sym kind ∙ i))))
    by_case false c = λ f. let one : q ≡ p = some_same (sym backs ∙ f.accepts (Peer p) m deed kind) in
        true≢false (sym (eq-eqb q.0 p.0 (ap (λ (z : PeerId). z.0) one)) ∙ c)
post_decides l world Stranger m Accept b v u deed kind backs asks e =
    subst (λ (z : Bool). MatchBool z (BacksAt l world) (BacksAt l world → ⊥)) (sym e) (λ f. f.accepts Stranger m deed kind)
post_decides l world to m Election b v true deed kind backs asks e =
    subst (λ (z : Bool). MatchBool z (BacksAt l world) (BacksAt l world → ⊥)) (sym e) (λ f. true≢false (sym asks ∙ f.asks to m deed kind))
post_decides l world to m Election b v false deed kind backs asks e =
    subst (λ (z : Bool). MatchBool z (BacksAt l world) (BacksAt l world → ⊥)) (sym e)
    (keeps_post l world to m deed (λ i. absurd (true≢false (ap is_accept (sym i ∙ kind)))) (λ i. asks))
post_decides l world to m _ b v u deed kind backs asks e =
    subst (λ (z : Bool). MatchBool z (BacksAt l world) (BacksAt l world → ⊥)) (sym e)
    (keeps_post l world to m deed (λ i. absurd (true≢false (ap is_accept (sym i ∙ kind)))) (λ i. absurd (true≢false (ap is_election (sym i ∙ kind)))))

-- an act keeps to whom its step has backed where it is decided so
pub votes_decide : (b : Bool) (l : Line) (world : List Line) (a : Act) → l.did.deed ≡ Acts a →
    b ≡ deed_backs (Acts a) (backed (view l.port (of (node_of l) world))) (is_unbacked (view l.port (of (node_of l) world))) →
    MatchBool b (BacksAt l world) (BacksAt l world → ⊥)
votes_decide b l world (Post to (Message m)) deed e =
    post_decides l world to m m.kind b (backed (view l.port (of (node_of l) world))) (is_unbacked (view l.port (of (node_of l) world))) deed refl refl refl e
votes_decide b l world _ deed e = subst (λ (z : Bool). MatchBool z (BacksAt l world) (BacksAt l world → ⊥)) (sym e) (silent l world _ deed refl)
