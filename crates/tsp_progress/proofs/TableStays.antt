-- Who is in a master's table stays in it, unless it leaves.
use Rattle.std.proofs.Common.{sym, ap, subst, arith, inl, inr, ◌∙◌, ◌≡◌, ◌≤◌, ◌⊎◌, ℕ, ◌==◌, ◌||◌, Bool, true, false, List, [], ◌∷◌}
use Rattle.std.proofs.Common.{if◌then◌else◌, eqb-true, refl}
use Rattle.tsp_rules.specs.Values.{Boot, Become, Join, Leave, PeerId, Role, Starting, Loose, Follow, Candidate, Master}
use Rattle.tsp_rules.proofs.GuardFacts.{same_peer}
use Rattle.tsp_base.specs.Words.{Acts, Deed, HeaderValue, Line, Within, dids, first_port, in_table, is_shared, of, peer_of, role, seen_as}
use Rattle.tsp_base.specs.Words.{time_of, view}
use Rattle.tsp_base.specs.PortFacts.{in_table_after, role_after}
use Rattle.tsp_base.proofs.{PlaceLemmas.Within_all, PlaceLemmas.Within_tail, PlaceLemmas.Within_through}
use Rattle.tsp_promises.specs.{Fits.Fits, Fits.node_of, Setting.Setting}
use Rattle.tsp_promises.proofs.{shared.HistoryPlaces.of_other, shared.HistoryPlaces.of_own}
use Rattle.tsp_promises.proofs.promised.OwnFitsProof.{fits_in, seen_in}
use Rattle.tsp_progress.specs.{FollowOn.Calm, FollowOn.FollowUntil, FollowOn.role_of}
use Rattle.tsp_progress.specs.{OnePort.UsesOnePort, OneWire.OneWire, ReportsSoon.is_slave_of}
use Rattle.tsp_progress.specs.RolesLast.{EndFits, RoleFits, RolesLast, StopsLeading}
use Rattle.tsp_progress.proofs.{FollowProof.owes_at}
use Rattle.tsp_progress.proofs.{ReportsProof.seen_first}

-- a master that leads on doesn't change its role
module _ (setting : Setting) (world : List Line) (fits : Fits setting world) (roles : RolesLast world) (t c : ℕ) (stays : ℕ → Bool) (s : List Line)
    (follow : FollowUntil stays c t s world) where
  pub becomes-no : (l : Line) (older : List Line) → Within (l ∷ older) world → Within s older → l.did.step.at ≤ t → node_of l ≡ c → l.port ≡ first_port →
      (r : Role) → l.did.deed ≡ Acts (Become r) → ⊥
  becomes-no l older place since until node port r deed = by_role r deed (ended r deed) where
    order : time_of (dids older) ≤ l.did.step.at
    order = (fits_in setting l older world fits place).order

    leads : role (view l.port (of (node_of l) older)) ≡ Master
    leads = ap (λ k. role (view l.port (of k older))) node ∙ (ap (λ q. role (view q (of c older))) port ∙
        (follow older (Within_tail l older world place) since (omega (arith, order, until))).leads)

    owed : RoleFits l.did.deed l.did (view l.port (of (node_of l) older))
    owed = owes_at RoleFits l.did (view l.port (of (node_of l) older)) (view l.port (of (node_of l) world))
        (seen_in (node_of l) l older world refl place) (roles (node_of l) l.port)

    ended : (r : Role) → l.did.deed ≡ Acts (Become r) → StopsLeading r (view l.port (of (node_of l) older))
    ended r act = subst (λ k. EndFits k r l.did (view l.port (of (node_of l) older))) leads
        (subst (λ d. RoleFits d l.did (view l.port (of (node_of l) older))) act owed)

    still : role_of c (l ∷ older) ≡ Master
    still = (follow (l ∷ older) place (inr since) until).leads

    now : (r : Role) → l.did.deed ≡ Acts (Become r) → role_of c (l ∷ older) ≡ r
    now r act = ap role (seen_first c l older node port) ∙ ap (λ d. role_after d (role (view first_port (of c older)))) act

    by_role : (r : Role) → l.did.deed ≡ Acts (Become r) → StopsLeading r (view l.port (of (node_of l) older)) → ⊥
    by_role (Follow p) act q = let bad : Follow p ≡ Master = sym (now (Follow p) act) ∙ still in cc
    by_role Loose act q = let bad : Loose ≡ Master = sym (now Loose act) ∙ still in cc
    by_role Starting act q = q
    by_role Candidate act q = q
    by_role Master act q = q

-- who is in the table stays in it, unless it leaves
pub record LeftBetween (c n : ℕ) (g h : List Line) : Type 0 where
  pub line : Line
  pub before : List Line
  pub place : Within (line ∷ before) h
  pub since : Within g before
  pub node : node_of line ≡ c
  pub deed : line.did.deed ≡ Acts (Leave (peer_of n))

module _ {header : HeaderValue} (setting : Setting) (world : List Line) (fits : Fits setting world) (roles : RolesLast world) (uses : UsesOnePort header world)
    (long t c : ℕ) (stays : ℕ → Bool) (s : List Line) (wire : OneWire header setting stays) (calm : Calm long stays s world)
    (follow : FollowUntil stays c t s world) (n : ℕ) where
  abbrev P : PeerId
  P = peer_of n

  abbrev Stays : List Line → List Line → Type 0
  Stays g h = (is_slave_of c n h ≡ true) ⊎ LeftBetween c n g h

  later : (g : List Line) (k : Line) (h : List Line) → LeftBetween c n g h → LeftBetween c n g (k ∷ h)
  later g k h l = record { line = l.line; before = l.before; place = inr l.place; since = l.since; node = l.node; deed = l.deed }

  pub stays_table : (g h : List Line) → Within s g → Within g h → Within h world → time_of (dids h) ≤ t → is_slave_of c n g ≡ true → Stays g h
  stays_table g [] since w v le e = inl (subst (λ z. is_slave_of c n z ≡ true) w e)
  stays_table g (k ∷ h) since (inl same) v le e = inl (subst (λ z. is_slave_of c n z ≡ true) same e)
  stays_table g (k ∷ h) since (inr w) v le e =
      let order = (fits_in setting k h world fits v).order in
      elim (stays_table g h since w (Within_tail k h world v) (omega (arith, order, le)) e) [
        | inr l ↦ inr (later g k h l)
        | inl was ↦ by_node (node_of k == c) refl was
      ]
    where
      k-since : Within s h
      k-since = Within_through s g h since w

      joins : (b was : Bool) → was ≡ true → (if b then true else was) ≡ true
      joins true was e = refl
      joins false was e = e

      leaves : (q : PeerId) → k.did.deed ≡ Acts (Leave q) → node_of k ≡ c → (b : Bool) → (q.0 == n) ≡ b → (was : Bool) → was ≡ true →
          ((if b then false else was) ≡ true) ⊎ LeftBetween c n g (k ∷ h)
      leaves q is node true same was e = inr (record {
        line = k;
        before = h;
        place = Within_all (k ∷ h);
        since = w;
        node = node;
        deed = is ∙ ap (λ z. Acts (Leave z)) (same_peer q P same);
      })
      leaves q is node false same was e = inl e

      by_deed : (deed : Deed) → k.did.deed ≡ deed → node_of k ≡ c → (is_shared deed ≡ false → k.port ≡ first_port) → (was : Bool) → was ≡ true →
          (in_table_after P deed was ≡ true) ⊎ LeftBetween c n g (k ∷ h)
      by_deed (Acts Boot) is node port was e = absurd (calm.unbooted k h v k-since is)
      by_deed (Acts (Become r)) is node port was e =
          absurd (becomes-no setting world fits roles t c stays s follow k h v k-since le node (port refl) r is)
      by_deed (Acts (Join q)) is node port was e = inl (joins (q.0 == n) was e)
      by_deed (Acts (Leave q)) is node port was e = leaves q is node (q.0 == n) refl was e
      by_deed _ is node port was e = inl e

      by_flag : (flag : Bool) → node_of k ≡ c → is_slave_of c n h ≡ true →
          (in_table P (seen_as flag k.did ∷ view first_port (of c h)) ≡ true) ⊎ LeftBetween c n g (k ∷ h)
      by_flag true node was = by_deed k.did.deed refl node (λ e. uses k h v (wire.single (node_of k) (calm.only k h v k-since)) e)
          (in_table P (view first_port (of c h))) was
      by_flag false node was = inl was

      by_node : (b : Bool) → (node_of k == c) ≡ b → is_slave_of c n h ≡ true → Stays g (k ∷ h)
      by_node true same was =
          let node = eqb-true (node_of k) c same in
          elim (by_flag ((k.port.0 == 0) || is_shared k.did.deed) node was) [
            | inl now ↦ inl (ap (λ ls. in_table P (view first_port ls)) (of_own c k h node) ∙ now)
            | inr l ↦ inr l
          ]
      by_node false same was = inl (ap (λ ls. in_table P (view first_port ls)) (of_other c k h same) ∙ was)
