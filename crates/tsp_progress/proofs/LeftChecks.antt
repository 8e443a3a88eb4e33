-- That a node is left alone, as a computation.
use Rattle.std.proofs.Common.{sym, ap, subst, true≢false, ◌∙◌, ◌≡◌, eq-eqb, ℕ, ◌==◌, ◌&&◌, Bool, true, false, if◌then◌else◌, List, [], ◌∷◌, refl}
use Rattle.std.proofs.lemmas.Bool.{and_parts}
use Rattle.tsp_rules.specs.Values.{Post, Message, Kind, LoopKind, Peer}
use Rattle.tsp_base.specs.Words.{Acts, Cause, Deed, Handed, Line, MessageValue, peer_of}
use Rattle.tsp_promises.specs.{Fits.node_of}
use Rattle.tsp_progress.specs.{OneMay.LeftAlone}

-- a kind that isn't LOOP
abbrev not_loop : Kind → Bool
not_loop LoopKind = false
not_loop _ = true

abbrev not_handed : Cause → Bool
not_handed Handed = false
not_handed _ = true

-- a deed of a node that isn't a message to itself, nor a LOOP
abbrev leaves_alone : ℕ → ℕ → Deed → Bool
leaves_alone c n (Acts (Post (Peer p) (Message m))) = not_loop m.kind && (if n == c then (if p.0 == c then false else true) else true)
leaves_alone c n _ = true

abbrev Alone : ℕ → ℕ → MessageValue → Type 0
Alone c n m = leaves_alone c n (Acts (Post (Peer (peer_of c)) (Message m))) ≡ true

abbrev pub is_left : ℕ → List Line → Bool
is_left c [] = true
is_left c (l ∷ before) = (leaves_alone c (node_of l) l.did.deed && not_handed l.did.step.cause) && is_left c before

pub left_by : (c : ℕ) (h : List Line) → is_left c h ≡ true → LeftAlone c h
left_by c [] e = record { unlooped = tt; unsent = tt; unhanded = tt }
left_by c (l ∷ before) e =
    let both = and_parts (leaves_alone c (node_of l) l.did.deed && not_handed l.did.step.cause) (is_left c before) e in
    let parts = and_parts (leaves_alone c (node_of l) l.did.deed) (not_handed l.did.step.cause) both.0 in
    let rest = left_by c before both.1 in
    record {
      unlooped = (λ m deed kind. looped m (to_c m deed parts.0) kind, rest.unlooped);
      unsent = (λ node m deed. absurd (own m node (to_c m deed parts.0)), rest.unsent);
      unhanded = (λ node cause. absurd (true≢false (sym (sym (ap not_handed cause) ∙ parts.1))), rest.unhanded);
    }
  where
    to_c : (m : MessageValue) → l.did.deed ≡ Acts (Post (Peer (peer_of c)) (Message m)) → leaves_alone c (node_of l) l.did.deed ≡ true → Alone c (node_of l) m
    to_c m deed k = subst (λ d. leaves_alone c (node_of l) d ≡ true) deed k

    looped : (m : MessageValue) → Alone c (node_of l) m → m.kind ≡ LoopKind → ⊥
    looped m k kind = true≢false (sym (sym (ap not_loop kind) ∙
        (and_parts (not_loop m.kind) (if node_of l == c then (if c == c then false else true) else true) k).0))

    own : (m : MessageValue) → node_of l ≡ c → Alone c (node_of l) m → ⊥
    own m node k =
        let other = (and_parts (not_loop m.kind) (if node_of l == c then (if c == c then false else true) else true) k).1 in
        let here = subst (λ b. (if b then (if c == c then false else true) else true) ≡ true) (eq-eqb (node_of l) c node) other in
        true≢false (sym (subst (λ b. (if b then false else true) ≡ true) (eq-eqb c c refl) here))
