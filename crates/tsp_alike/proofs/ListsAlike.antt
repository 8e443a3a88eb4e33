-- The lists of peers that rows go through, at alike pasts.
use Rattle.std.proofs.Common.{ap, ap₂, pos, sym, ◌∙◌, ◌≡◌, ℕ, ◌+◌, ◌==◌, Bool, true, false, not, ◌||◌, if◌then◌else◌, List, [], ◌∷◌, map, filter, refl, None}
use Rattle.std.proofs.Common.{◌&&◌}
use Rattle.std.{proofs.lemmas.Bool.eq-eqb, proofs.lemmas.Bool.eqb-false, proofs.lemmas.Bool.ne_eqb, specs.List.All}
use Rattle.std.proofs.lemmas.List.Elements.{All-nil, All-cons, All-head, All-tail, All-same, All-weaker, All-filter}
use Rattle.tsp_base.specs.Words.{Past, in_table, is_among, is_measured, is_rival, others, estimate, Seen, Acts, acting, is_numbered, open_to, posts_of}
use Rattle.tsp_base.specs.Words.{open_send, sending_at, is_starting}
use Rattle.tsp_rules.specs.RoundRows.{Standing, diff_before, estimates, measured_at, near_diffs, round_at, standing}
use Rattle.tsp_rules.proofs.RowCodes.{Listed, Others, Rivals, Table, Measured}
use Rattle.tsp_rules.specs.Renames.{Knows, Naming, Renaming, later_sends, renamed_act}
use Rattle.tsp_rules.{specs.NodeRows.PortSetup, proofs.GuardFacts.same_peer}
use Rattle.tsp_rules.specs.Values.{Act, PeerId, Boot, Post, Become, Acked, Gave, Join, Leave, Rival, Arm, Message, Stamp, CloseAlarm, Peer, Request}
use Rattle.tsp_alike.proofs.Alike.{AlikePort, AlikePast, Alike, Booted, Own, Other, here}
use Rattle.tsp_alike.proofs.{PortAlike.in_table_alike, PortAlike.is_rival_alike, PortAlike.open_send_alike, Renamed.renamed_standing}
use Rattle.tsp_alike.proofs.RoundsAlike.{is_measured_alike, estimate_alike}

-- acts name only known peers: of any other peer, as the port's own number, a past says nothing

-- no known peer has this number
abbrev pub Unnamed : Naming → PeerId → Type 0
Unnamed m o = (p : PeerId) → m.known p → (p.0 == o.0) ≡ false

module _ {m : Naming} (o : PeerId) (u : Unnamed m o) where
  pub in_table_unnamed : {seen seen' : List Seen} → Alike m seen seen' → in_table o seen ≡ false
  in_table_unnamed (Booted s s' boot x old old') = refl
  in_table_unnamed (Own s s' x (Acts Boot) ok knows a) = refl
  in_table_unnamed (Own s s' x (Acts (Become r)) ok knows a) = refl
  in_table_unnamed (Own s s' x (Acts (Join q)) ok knows {before = b} a) =
      ap (λ z. if z then true else in_table o b) (u q knows) ∙ in_table_unnamed a
  in_table_unnamed (Own s s' x (Acts (Leave q)) ok knows {before = b} a) =
      ap (λ z. if z then false else in_table o b) (u q knows) ∙ in_table_unnamed a
  in_table_unnamed (Own s s' x _ ok knows a) = in_table_unnamed a
  in_table_unnamed (Other n shift s s' x d ok a) = in_table_unnamed a

  pub is_rival_unnamed : {seen seen' : List Seen} → Alike m seen seen' → is_rival o seen ≡ false
  is_rival_unnamed (Booted s s' boot x old old') = refl
  is_rival_unnamed (Own s s' x (Acts Boot) ok knows a) = refl
  is_rival_unnamed (Own s s' x (Acts (Become r)) ok knows a) = refl
  is_rival_unnamed (Own s s' x (Acts (Rival q)) ok knows {before = b} a) =
      ap (λ z. if z then true else is_rival o b) (u q knows) ∙ is_rival_unnamed a
  is_rival_unnamed (Own s s' x _ ok knows a) = is_rival_unnamed a
  is_rival_unnamed (Other n shift s s' x d ok a) = is_rival_unnamed a

  pub is_measured_unnamed : {seen seen' : List Seen} → Alike m seen seen' → is_measured o seen ≡ false
  is_measured_unnamed (Booted s s' boot x old old') = refl
  is_measured_unnamed (Own s s' x (Acts Boot) ok knows a) = refl
  is_measured_unnamed (Own s s' x (Acts (Become r)) ok knows a) = refl
  is_measured_unnamed (Own s s' x (Acts (Arm CloseAlarm at)) ok knows a) = refl
  is_measured_unnamed (Own s s' x (Acts (Post (Peer q) (Stamp (Request word counter)))) ok knows {before = b} a) =
      ap (λ z. if z && is_starting b then true else is_measured o b) (u q knows) ∙ is_measured_unnamed a
  is_measured_unnamed (Own s s' x (Acts (Leave q)) ok knows {before = b} a) =
      ap (λ z. if z then false else is_measured o b) (u q knows) ∙ is_measured_unnamed a
  is_measured_unnamed (Own s s' x _ ok knows a) = is_measured_unnamed a
  is_measured_unnamed (Other n shift s s' x d ok a) = is_measured_unnamed a

  open_to_unnamed : {seen seen' : List Seen} → Alike m seen seen' → open_to o seen ≡ []
  open_to_unnamed (Booted s s' boot x old old') = refl
  open_to_unnamed (Own s s' x (Acts Boot) ok knows a) = refl
  open_to_unnamed (Own s s' x (Acts (Become r)) ok knows a) = refl
  open_to_unnamed (Own s s' x (Acts (Post (Peer q) (Message msg))) ok knows {before = b} a) =
      ap (λ z. if z && (is_numbered msg.kind && acting b) then here s x (Acts (Post (Peer q) (Message msg))) ∷ b else open_to o b) (u q knows) ∙
      open_to_unnamed a
  open_to_unnamed (Own s s' x (Acts (Acked q)) ok knows {before = b} a) =
      ap (λ z. if z then [] else open_to o b) (u q knows) ∙ open_to_unnamed a
  open_to_unnamed (Own s s' x (Acts (Gave q)) ok knows {before = b} a) =
      ap (λ z. if z then [] else open_to o b) (u q knows) ∙ open_to_unnamed a
  open_to_unnamed (Own s s' x _ ok knows a) = open_to_unnamed a
  open_to_unnamed (Other n shift s s' x d ok a) = open_to_unnamed a

  pub open_send_unnamed : {seen seen' : List Seen} → Alike m seen seen' → open_send o seen ≡ None
  open_send_unnamed {seen = z} a = ap (λ place. sending_at place (posts_of o z)) (open_to_unnamed a)

  pub open_send_renamed : {seen seen' : List Seen} → Alike m seen seen' → open_send (m.names.peer o) seen' ≡ None
  open_send_renamed a = open_send_alike o a ∙ ap (later_sends m.names) (open_send_unnamed a)

-- the renamed peers that pass a test, if renaming doesn't change what it says
pub filter_renamed : (f : PeerId → PeerId) (t t' : PeerId → Bool) → ((p : PeerId) → t' (f p) ≡ t p) → (ps : List PeerId) → filter t' (map f ps) ≡
    map f (filter t ps)
filter_renamed f t t' same [] = refl
filter_renamed f t t' same (p ∷ ps) = ap (λ b. if b then f p ∷ filter t' (map f ps) else filter t' (map f ps)) (same p) ∙
    by_case (t p) (filter_renamed f t t' same ps) where
      by_case : (b : Bool) → filter t' (map f ps) ≡ map f (filter t ps) → (if b then f p ∷ filter t' (map f ps) else filter t' (map f ps)) ≡
          map f (if b then p ∷ filter t ps else filter t ps)
      by_case true e = ap (λ z. f p ∷ z) e
      by_case false e = e

-- the own number is passed over by a test that is false of it
pub filter_others : (t : PeerId → Bool) (own : PeerId) → t own ≡ false → (ps : List PeerId) → filter t ps ≡ filter t (others own ps)
filter_others t own off [] = refl
filter_others t own off (p ∷ ps) = by_case (p.0 == own.0) refl (filter_others t own off ps) where
  by_case : (b : Bool) → (p.0 == own.0) ≡ b → filter t ps ≡ filter t (others own ps) → filter t (p ∷ ps) ≡
      filter t (if not b then p ∷ others own ps else others own ps)
  by_case true e k = ap (λ b. if b then p ∷ filter t ps else filter t ps) (ap t (same_peer p own e) ∙ off) ∙ k
  by_case false e k = ap (λ z. if t p then p ∷ z else z) k

-- another number than the own one is among all peers if it is among the others
pub among_others : (p own : PeerId) → (p.0 == own.0) ≡ false → (ps : List PeerId) → is_among p ps ≡ is_among p (others own ps)
among_others p own off [] = refl
among_others p own off (q ∷ ps) = by_case (q.0 == own.0) refl (among_others p own off ps) where
  by_case : (b : Bool) → (q.0 == own.0) ≡ b → is_among p ps ≡ is_among p (others own ps) → is_among p (q ∷ ps) ≡
      is_among p (if not b then q ∷ others own ps else others own ps)
  by_case true e k = ap (λ b. b || is_among p ps) (ap (λ r. r.0 == p.0) (same_peer q own e) ∙ ne_eqb own.0 p.0 (λ s. eqb-false p.0 own.0 off (sym s))) ∙ k
  by_case false e k = ap (λ b. (q.0 == p.0) || b) k

-- a peer is among peers as its other name is among theirs
pub among_renamed : (m : Naming) (p : PeerId) (ps : List PeerId) → is_among (m.names.peer p) (map m.names.peer ps) ≡ is_among p ps
among_renamed m p [] = refl
among_renamed m p (q ∷ ps) = ap (λ b. b || is_among (m.names.peer p) (map m.names.peer ps)) (m.same q p) ∙ ap (λ b. (q.0 == p.0) || b) (among_renamed m p ps)

among_rest : (q p : PeerId) (ps : List PeerId) → is_among p ps ≡ true → is_among p (q ∷ ps) ≡ true
among_rest q p ps e = elim (q.0 == p.0) as (λ b. (b || is_among p ps) ≡ true) [ true ↦ refl | false ↦ e ]

-- peers are among themselves
all_among : (ps : List PeerId) → All (λ p. is_among p ps ≡ true) ps
all_among [] = All-nil (λ p. is_among p [] ≡ true)
all_among (q ∷ ps) = All-cons (λ p. is_among p (q ∷ ps) ≡ true) q ps (ap (λ b. b || is_among q ps) (eq-eqb q.0 q.0 refl))
    (All-weaker (λ p. is_among p ps ≡ true) (λ p. is_among p (q ∷ ps) ≡ true) (λ p. among_rest q p ps) ps (all_among ps))

-- the standings of known peers
standings_known : (m : Naming) (seen : List Seen) (ps : List PeerId) → All m.known ps → All (λ s. m.known s.peer) (map (standing seen) ps)
standings_known m seen [] k = All-nil (λ s. m.known s.peer)
standings_known m seen (p ∷ ps) k = All-cons (λ s. m.known s.peer) (standing seen p) (map (standing seen) ps) (All-head m.known p ps k)
    (standings_known m seen ps (All-tail m.known p ps k))

-- setups of ports
module _ {m : Naming} where
  pub others_known : {a b : PortSetup} → AlikePort m a b → All m.known (others a.own a.peers)
  others_known {a = a} s = All-weaker (λ p. is_among p (others a.own a.peers) ≡ true) m.known s.known (others a.own a.peers) (all_among (others a.own a.peers))

  -- a test that renaming doesn't change, and that is false of the own number, chooses the same peers
  pub chosen_alike : {a b : PortSetup} → AlikePort m a b → (t t' : PeerId → Bool) → ((p : PeerId) → t' (m.names.peer p) ≡ t p) → t a.own ≡ false →
      filter t' b.peers ≡ map m.names.peer (filter t a.peers)
  chosen_alike {a = a} {b = b} s t t' same off =
      filter_others t' b.own (ap t' s.own ∙ same a.own ∙ off) b.peers
      ∙ ap (filter t') s.others_are
      ∙ filter_renamed m.names.peer t t' same (others a.own a.peers)
      ∙ ap (map m.names.peer) (sym (filter_others t a.own off a.peers))

  -- and it chooses known peers
  pub chosen_known : {a b : PortSetup} → AlikePort m a b → (t : PeerId → Bool) → t a.own ≡ false → All m.known (filter t a.peers)
  chosen_known {a = a} s t off = All-same m.known (filter t a.peers) (filter t (others a.own a.peers)) (filter_others t a.own off a.peers)
      (All-filter t m.known (others a.own a.peers) (others_known s))

  -- another peer than the port itself is one of the port's peers on both sides or on neither
  pub is_among_alike : {a b : PortSetup} → AlikePort m a b → (p : PeerId) → (p.0 == a.own.0) ≡ false → is_among (m.names.peer p) b.peers ≡ is_among p a.peers
  is_among_alike {a = a} {b = b} s p off =
      among_others (m.names.peer p) b.own (ap (λ o. (m.names.peer p).0 == o.0) s.own ∙ m.same p a.own ∙ off) b.peers
      ∙ ap (is_among (m.names.peer p)) s.others_are
      ∙ among_renamed m p (others a.own a.peers)
      ∙ sym (among_others p a.own off a.peers)

-- pasts of ports
module _ {m : Naming} {p q : Past} (a : AlikePast m p q) (x : ℕ) where
  pub list_same : {fact fact' : ℕ → Past → List PeerId} → Listed m fact fact' → fact' (x + m.names.shift) q ≡ map m.names.peer (fact x p)
  list_same Others = a.setup.others_are
  list_same Rivals = chosen_alike a.setup (λ r. is_rival r p.seen) (λ r. is_rival r q.seen) (λ r. is_rival_alike r a.seen)
      (is_rival_unnamed p.own a.setup.apart a.seen)
  list_same Table = chosen_alike a.setup (λ r. in_table r p.seen) (λ r. in_table r q.seen) (λ r. in_table_alike r a.seen)
      (in_table_unnamed p.own a.setup.apart a.seen)
  list_same Measured = chosen_alike a.setup (λ r. is_measured r p.seen) (λ r. is_measured r q.seen) (λ r. is_measured_alike r a.seen)
      (is_measured_unnamed p.own a.setup.apart a.seen)

  -- they are known
  pub list_known : {fact fact' : ℕ → Past → List PeerId} → Listed m fact fact' → All m.known (fact x p)
  list_known Others = others_known a.setup
  list_known Rivals = chosen_known a.setup (λ r. is_rival r p.seen) (is_rival_unnamed p.own a.setup.apart a.seen)
  list_known Table = chosen_known a.setup (λ r. in_table r p.seen) (in_table_unnamed p.own a.setup.apart a.seen)
  list_known Measured = chosen_known a.setup (λ r. is_measured r p.seen) (is_measured_unnamed p.own a.setup.apart a.seen)

module _ {m : Naming} where
  -- the result of a round
  standings_alike : {seen seen' : List Seen} → Alike m seen seen' → (ps : List PeerId) → map (standing seen') (map m.names.peer ps) ≡
      map (renamed_standing m.names) (map (standing seen) ps)
  standings_alike a [] = refl
  standings_alike {seen = z} {seen' = z'} a (p ∷ ps) =
      ap (λ e. record { peer = m.names.peer p; best = e } ∷ map (standing z') (map m.names.peer ps)) (estimate_alike p a)
      ∙ ap (λ rest. record { peer = m.names.peer p; best = estimate p z } ∷ rest) (standings_alike a ps)

  pub round_at_alike : {p q : Past} → AlikePast m p q → (x : ℕ) → round_at (x + m.names.shift) q ≡ map (renamed_standing m.names) (round_at x p)
  round_at_alike {p = p} {q = q} a x = ap (map (standing q.seen)) (list_same a x Measured) ∙ standings_alike a.seen (measured_at x p)

  pub round_at_known : {p q : Past} → AlikePast m p q → (x : ℕ) → All (λ s. m.known s.peer) (round_at x p)
  round_at_known {p = p} a x = standings_known m p.seen (measured_at x p) (list_known a x Measured)

-- an act for each renamed peer
pub acts_renamed : (n : Renaming) (act act' : PeerId → Act) → ((r : PeerId) → act' (n.peer r) ≡ renamed_act n (act r)) → (rs : List PeerId) →
    map act' (map n.peer rs) ≡ map (renamed_act n) (map act rs)
acts_renamed n act act' same [] = refl
acts_renamed n act act' same (r ∷ rs) = ap₂ ◌∷◌ (same r) (acts_renamed n act act' same rs)

pub mapped_known : (m : Naming) (f : PeerId → Act) → ((p : PeerId) → m.known p → Knows m (f p)) → (ps : List PeerId) → All m.known ps →
    All (Knows m) (map f ps)
mapped_known m f k [] known = All-nil (Knows m)
mapped_known m f k (p ∷ ps) known =
    All-cons (Knows m) (f p) (map f ps) (k p (All-head m.known p ps known)) (mapped_known m f k ps (All-tail m.known p ps known))

-- estimates don't depend on what peers are called
same_diffs : (n : Renaming) (round : List Standing) → near_diffs (map (renamed_standing n) round) ≡ near_diffs round
same_diffs n [] = refl
same_diffs n (s ∷ round) = ap (diff_before s.best) (same_diffs n round)

pub same_estimates : (n : Renaming) (round : List Standing) → estimates (map (renamed_standing n) round) ≡ estimates round
same_estimates n round = ap (λ l. pos 0 ∷ l) (same_diffs n round)
