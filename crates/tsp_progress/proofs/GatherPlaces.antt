-- In a calm network in which one node alone leads nobody comes to follow another, and who does so already did before.
use Rattle.std.proofs.Common.{sym, ap, subst, arith, true≢false, inl, inr, ◌∙◌, ◌≡◌, ◌≤◌, ◌<◌, ◌⊎◌, ℕ, ◌+◌, ◌==◌, Bool, true, false, List, []}
use Rattle.std.proofs.Common.{◌∷◌, eq-eqb, eqb-true, refl}
use Rattle.tsp_rules.specs.Values.{Act, Post, Become, Datagram, Message, Kind, AdjTime, SetTime, Election, PeerId, Peer, Place, Role, Follow, Candidate}
use Rattle.tsp_rules.specs.Values.{Good, Master, Port}
use Rattle.tsp_base.specs.Words.{Acts, Here, Line, MessageValue, Within, dids, first_port, is_correction, is_shared, of}
use Rattle.tsp_base.specs.Words.{peer_of, seen_as}
use Rattle.tsp_base.specs.Words.{TakesFrom, role, time_of, view}
use Rattle.tsp_base.proofs.{PlaceLemmas.Within_comparable, PlaceLemmas.Within_tail, PlaceLemmas.Within_through, ViewPlaces.sees_own}
use Rattle.tsp_promises.specs.{Fits.Fits, Fits.node_of, OnlyMaster.LeadsAt, Setting.Setting}
use Rattle.tsp_promises.proofs.{shared.EverywhereLemmas.Everywhere_at, shared.SendPlaces.only_master}
use Rattle.tsp_promises.proofs.promised.OwnFitsProof.{fits_at, fits_in, place_time, seen_in, view_line}
use Rattle.tsp_progress.specs.Calling.{CallFits, CallsFit, TookSome, is_call, is_masters}
use Rattle.tsp_progress.specs.FollowOn.{Calm, role_of}
use Rattle.tsp_progress.specs.{Gather.LeadUntil, Gather.LeadsOnly, LeadFrom.NoOther}
use Rattle.tsp_progress.proofs.{FollowProof.owes_at, FollowProof.role_kept, FollowTaken.taken_post}

-- a port sees its own line
pub view_own : (q : Port) (l : Line) (ls : List Line) → l.port ≡ q → view q (l ∷ ls) ≡ Here l.did ∷ view q ls
view_own q l ls e = subst (λ r. view r (l ∷ ls) ≡ Here l.did ∷ view r ls) e
    (ap (λ b. seen_as b l.did ∷ view l.port ls) (sees_own l.port (is_shared l.did.deed)))

-- a change of the role of the first port
pub role_becomes : (n : ℕ) (l : Line) (older : List Line) (r : Role) → node_of l ≡ n → l.port ≡ first_port → l.did.deed ≡ Acts (Become r) →
    role_of n (l ∷ older) ≡ r
role_becomes n l older r node port act =
    let seen : view first_port (of n (l ∷ older)) ≡ Here l.did ∷ view first_port (of n older) =
    subst (λ q. view q (of n (l ∷ older)) ≡ Here l.did ∷ view q (of n older)) port (view_line n l older node) in
    ap role seen ∙ (rw act refl)

masters_kinds : (k : Kind) → is_masters k ≡ true → (is_call k ≡ true) ⊎ (is_correction k ≡ true)
masters_kinds AdjTime e = inr refl
masters_kinds SetTime e = inr refl
masters_kinds _ e = inl e

same_place : (p q : PeerId) → Peer p ≡ Peer q → p ≡ q
same_place p q e = cc

no_both : {A : Type 0} → Master ≡ Candidate → A
no_both e = let bad : ⊥ = cc in absurd bad

-- node f follows another than c on its first port
pub record Strayed (c f : ℕ) (h : List Line) : Type 0 where
  pub master : PeerId
  pub follows : role_of f h ≡ Follow master
  pub other : (master.0 == c) ≡ false

module _ (setting : Setting) (world : List Line) (fits : Fits setting world) (calls : CallsFit world) (long c : ℕ) (stays : ℕ → Bool) (s : List Line)
    (s-in : Within s world) (net : (n : ℕ) → stays n ≡ true → setting.net n first_port ≡ setting.net c first_port) (calm : Calm long stays s world)
  where
    -- what comes later than the place s stands after it
    pub since : (k : Line) (w : List Line) → Within (k ∷ w) world → time_of (dids s) < k.did.step.at → Within s w
    since k w v less = elim (Within_comparable s (k ∷ w) world s-in v) [
      | inl (inl e) ↦ absurd (let same = ap (λ (z : List Line). time_of (dids z)) e in omega (arith, same, less))
      | inl (inr u) ↦ u
      | inr u ↦ absurd (let le = place_time setting (k ∷ w) s (fits_at setting s world fits s-in) u in omega (arith, le, less))
    ]

    -- what the line's step took was posted after the place s, on the first port of a node that stays, which isn't the line's
    pub record Source (l : Line) (older : List Line) (from : Place) (message : MessageValue) : Type 0 where
      pub post : Line
      pub before : List Line
      pub at : Within (post ∷ before) world
      pub earlier : Within (post ∷ before) older
      pub after : Within s before
      pub deed : post.did.deed ≡ Acts (Post (Peer (peer_of (node_of l))) (Message message))
      pub port : post.port ≡ first_port
      pub other : (node_of post == node_of l) ≡ false
      pub from_is : from ≡ Peer (peer_of (node_of post))
      pub stays_is : stays (node_of post) ≡ true
      pub soon : l.did.step.at ≤ post.did.step.at + long

    message_of : (d : Datagram) (k : MessageValue) → Good d ≡ Good (Message k) → d ≡ Message k
    message_of d k e = cc

    -- a line more than `long` after the place s
    module _ (l : Line) (older : List Line) (place : Within (l ∷ older) world) (later : time_of (dids s) + long < l.did.step.at) (port : l.port ≡
        first_port) where
      after-s : Within s older
      after-s = since l older place (omega (arith, later))

      -- nobody posts to itself
      other_node : (post : Line) (before : List Line) → Within (post ∷ before) world → Within s before → (d : Datagram) → post.did.deed ≡
          Acts (Post (Peer (peer_of (node_of l))) d) → (b : Bool) → (node_of post == node_of l) ≡ b → (node_of post == node_of l) ≡ false
      other_node post before w v d e true is = absurd (calm.unsent post before w v d
          (subst (λ n. post.did.deed ≡ Acts (Post (Peer (peer_of n)) d)) (sym (eqb-true (node_of post) (node_of l) is)) e))
      other_node post before w v d e false is = is

      pub source : (a : Act) → l.did.deed ≡ Acts a → (from : Place) (k : MessageValue) → TakesFrom (view l.port (of (node_of l) older)) from (Message k) →
          Source l older from k
      source a act from k took =
          let p = taken_post setting l older a (record { from = from; taken = Good (Message k) }) (fits_at setting (l ∷ older) world fits place) act
          (calm.unhanded l older place after-s) took in
          let is : p.datagram ≡ Message k = message_of p.datagram k (sym p.taken_is) in
          let post-in : Within (p.post ∷ p.older) world = Within_through (p.post ∷ p.older) older world p.place (Within_tail l older world place) in
          let soon : l.did.step.at ≤ p.post.did.step.at + long = calm.soon l older place after-s p.post p.older
          (Peer (peer_of (node_of l))) p.datagram p.place p.deed p.takes in
          let after : Within s p.older = since p.post p.older post-in (omega (arith, soon, later)) in
          let here = calm.only l older place after-s in
          let there = calm.only p.post p.older post-in after in
          let net : setting.net (node_of p.post) p.post.port ≡ setting.net (node_of p.post) first_port = p.net ∙
          (ap (setting.net (node_of l)) port ∙ (net (node_of l) here ∙ sym (net (node_of p.post) there))) in
          record {
            post = p.post;
            before = p.older;
            at = post-in;
            earlier = p.place;
            after = after;
            deed = p.deed ∙ ap (λ d. Acts (Post (Peer (peer_of (node_of l))) d)) is;
            port = setting.apart (node_of p.post) p.post.port first_port net;
            other = other_node p.post p.older post-in after p.datagram p.deed (node_of p.post == node_of l) refl;
            from_is = p.from_is;
            stays_is = there;
            soon = soon;
          }

      -- in whose role
      owed : (from : Place) (k : MessageValue) (o : Source l older from k) → (is_call k.kind ≡ true → role_of (node_of o.post) o.before ≡ Master) ×
          (k.kind ≡ Election → role_of (node_of o.post) o.before ≡ Candidate)
      owed from k o =
          let n = node_of o.post in
          let owes : CallFits o.post.did.deed o.post.did (view o.post.port (of n o.before)) = owes_at CallFits o.post.did (view o.post.port (of n o.before))
          (view o.post.port (of n world)) (seen_in n o.post o.before world refl o.at) (calls n o.post.port) in
          let here = subst (λ d. CallFits d o.post.did (view o.post.port (of n o.before))) o.deed owes in
          subst (λ q. (is_call k.kind ≡ true → role (view q (of n o.before)) ≡ Master) × (k.kind ≡ Election → role (view q (of n o.before)) ≡ Candidate)) o.port
          here

      pub masters_role : (from : Place) (k : MessageValue) (o : Source l older from k) → is_masters k.kind ≡ true → role_of (node_of o.post) o.before ≡ Master
      masters_role from k o is = elim (masters_kinds k.kind is) [
        | inl call ↦ (owed from k o).0 call
        | inr correction ↦
            let at = Everywhere_at LeadsAt o.post o.before world (only_master setting world fits) o.at in
            subst (λ q. role (view q (of (node_of o.post) o.before)) ≡ Master) o.port (at.posts (Peer (peer_of (node_of l))) k o.deed correction)
      ]

      pub votes_role : (from : Place) (k : MessageValue) (o : Source l older from k) → k.kind ≡ Election → role_of (node_of o.post) o.before ≡ Candidate
      votes_role from k o is = (owed from k o).1 is

      -- who sends what masters send is c, where it led alone so far
      pub from_c : (q : PeerId) (k : MessageValue) (o : Source l older (Peer q) k) → is_masters k.kind ≡ true →
          ((h : List Line) → Within h older → Within s h → NoOther stays c h) → q.0 ≡ c
      from_c q k o is sofar = by_node (node_of o.post == c) refl where
        by_node : (b : Bool) → (node_of o.post == c) ≡ b → q.0 ≡ c
        by_node true e = ap (λ (p : PeerId). p.0) (same_place q (peer_of (node_of o.post)) o.from_is) ∙ eqb-true (node_of o.post) c e
        by_node false e = absurd (sofar o.before (Within_tail o.post o.before older o.earlier) o.after (node_of o.post) o.stays_is e
            (masters_role (Peer q) k o is))

      own-calls : CallFits l.did.deed l.did (view l.port (of (node_of l) older))
      own-calls = owes_at CallFits l.did (view l.port (of (node_of l) older)) (view l.port (of (node_of l) world))
          (seen_in (node_of l) l older world refl place) (calls (node_of l) l.port)

      -- so whom anybody comes to follow is c
      pub follows_c : (q : PeerId) → l.did.deed ≡ Acts (Become (Follow q)) → ((h : List Line) → Within h older → Within s h → NoOther stays c h) → q.0 ≡ c
      follows_c q act sofar =
          let call : TookSome is_call q (view l.port (of (node_of l) older)) =
          subst (λ d. CallFits d l.did (view l.port (of (node_of l) older))) act own-calls in
          from_c q call.message (source (Become (Follow q)) act (Peer q) call.message call.took) (call_masters call.message.kind call.kind_is) sofar
        where
          call_masters : (k : Kind) → is_call k ≡ true → is_masters k ≡ true
          call_masters AdjTime e = absurd (true≢false (sym e))
          call_masters SetTime e = absurd (true≢false (sym e))
          call_masters _ e = e

    -- as long as the true time is at most t
    module _ (t : ℕ) (lead : LeadUntil stays c t s world) where
      pub led : (l : Line) (older : List Line) → Within (l ∷ older) world → l.did.step.at ≤ t → (h : List Line) → Within h older → Within s h →
          LeadsOnly stays c h
      led l older place until h w v = lead h (Within_through h older world w (Within_tail l older world place)) v
          (let order = (fits_in setting l older world fits place).order in
          let le = place_time setting h older (fits_at setting older world fits (Within_tail l older world place)) w in
          omega (arith, order, le, until))

      -- who follows another than c did so before
      strayed_before : (f : ℕ) (l : Line) (older : List Line) → Within (l ∷ older) world → time_of (dids s) + long < l.did.step.at → l.did.step.at ≤ t →
          Strayed c f (l ∷ older) → Strayed c f older
      strayed_before f l older place later until g =
          let after = since l older place (omega (arith, later)) in
          let kept = role_kept f l older (calm.unbooted l older place after) (λ node port r act.
          let is : r ≡ Follow g.master = sym (role_becomes f l older r node port act) ∙ g.follows in
          let own = follows_c l older place later port g.master (act ∙ ap (λ r. Acts (Become r)) is) (λ h w v. (led l older place until h w v).alone) in
          true≢false (sym (eq-eqb g.master.0 c own) ∙ g.other)) in
          record { master = g.master; follows = sym kept ∙ g.follows; other = g.other }

      pub strayed_from : (f : ℕ) (h g : List Line) → Within h g → Within g world → time_of (dids g) ≤ t →
          ((l : Line) (older : List Line) → Within (l ∷ older) g →
          Within h older → time_of (dids s) + long < l.did.step.at) → Strayed c f g → Strayed c f h
      strayed_from f h [] w v le later g = subst (Strayed c f) (sym w) g
      strayed_from f h (l ∷ older) (inl e) v le later g = subst (Strayed c f) (sym e) g
      strayed_from f h (l ∷ older) (inr w) v le later g =
          let order = (fits_in setting l older world fits v).order in
          strayed_from f h older w (Within_tail l older world v) (omega (arith, order, le)) (λ k o u i. later k o (inr u) i)
          (strayed_before f l older v (later l older (inl refl) w) le g)

      -- after a line so late
      pub strayed_since : (f : ℕ) (k : Line) (w g : List Line) → Within (k ∷ w) g → Within g world → time_of (dids g) ≤ t →
          time_of (dids s) + long < k.did.step.at → Strayed c f g → Strayed c f (k ∷ w)
      strayed_since f k w g u v le later = strayed_from f (k ∷ w) g u v le (λ l older i j.
          let line = place_time setting (k ∷ w) older (fits_at setting older world fits (Within_tail l older world (Within_through (l ∷ older) g world i v))) j
          in
          let order = (fits_in setting l older world fits (Within_through (l ∷ older) g world i v)).order in
          omega (arith, line, order, later))
