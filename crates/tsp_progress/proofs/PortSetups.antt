-- How the ports of a header's nodes are set up, by a run's setting.
use Rattle.std.proofs.Common.{sym, ap, subst, arith, true≢false, ◌∙◌, ◌≡◌, ◌<◌, ℕ, ◌+◌, ◌==◌, Bool, true, false, if◌then◌else◌, List, [], ◌∷◌, length, eqb-true}
use Rattle.std.proofs.Common.{eq-eqb, Option, None, Some, refl}
use Rattle.tsp_rules.specs.{NodeRows.PortSetup, NodeRows.port_setup, Values.PeerId, Values.Port}
use Rattle.tsp_base.specs.Words.{HeaderValue, has_member, is_among, peer_of}
use Rattle.tsp_promises.specs.Setting.{Alone, Named, Setting}
use Rattle.tsp_run.specs.{Clocked.Clocks, Clocked.SetByClocks, Networks.network_at, Networks.network_from, Networks.networks, Networks.port_on}
use Rattle.tsp_run.specs.{Networks.ports_on}
use Rattle.tsp_run.specs.{Setting.named_or}
use Rattle.tsp_run.proofs.NetworkLemmas.{set_up}
use Rattle.tsp_progress.specs.ByTable.{node_in}

-- a port of a network is one of its node's ports
port_there : (n q p k : ℕ) (nets : List (List ℕ)) (j : ℕ) → network_from n q p k nets ≡ Some j → q < p + length (ports_on n nets)
port_there n q p k [] j e = let bad : ⊥ = cc in absurd bad
port_there n q p k (net ∷ rest) j e = by_member (has_member n net) refl (λ f. port_there n q (p + 1) (k + 1) rest j f)
    (λ f. port_there n q p (k + 1) rest j f) e where
      Later : ℕ → ℕ → Type 0
      Later first number = network_from n q first number rest ≡ Some j → q < first + length (ports_on n rest)

      by_port : Later (p + 1) (k + 1) → (b : Bool) → (p == q) ≡ b → (if b then Some k else network_from n q (p + 1) (k + 1) rest) ≡ Some j →
          q < p + length (port_on n net ∷ ports_on n rest)
      by_port more true same f = let is = eqb-true p q same in omega (arith, is)
      by_port more false other f = let less = more f in omega (arith, less)

      by_member : (b : Bool) → has_member n net ≡ b → Later (p + 1) (k + 1) → Later p (k + 1) →
          (if b then (if p == q then Some k else network_from n q (p + 1) (k + 1) rest) else network_from n q p (k + 1) rest) ≡ Some j →
          q < p + length (ports_on n (net ∷ rest))
      by_member true m more past f = subst (λ ports. q < p + length ports)
          (sym (ap (λ b. if b then port_on n net ∷ ports_on n rest else ports_on n rest) m)) (by_port more (p == q) refl f)
      by_member false m more past f = subst (λ ports. q < p + length ports)
          (sym (ap (λ b. if b then port_on n net ∷ ports_on n rest else ports_on n rest) m)) (past f)

-- of two numbers that differ each differs from the other
pub differ : (a b : ℕ) → (a == b) ≡ false → (b == a) ≡ false
differ a b e = by_case (b == a) refl where
  by_case : (c : Bool) → (b == a) ≡ c → (b == a) ≡ false
  by_case true f = absurd (true≢false (sym (eq-eqb a b (sym (eqb-true b a f))) ∙ e))
  by_case false f = f

-- a port has its node's number, and the members of its network are its peers
pub record PortIs (header : HeaderValue) (setting : Setting) (n : ℕ) (q : Port) : Type 0 where
  pub peers : (port_setup q (node_in header n)).peers ≡ setting.members (setting.net n q)
  pub own : (port_setup q (node_in header n)).own.0 ≡ n

module _ {clocks : Clocks} {header : HeaderValue} {setting : Setting} (set : SetByClocks clocks header setting) where
  is_set : (n : ℕ) (q : Port) → q.0 < length (ports_on n (networks header)) → PortIs header setting n q
  is_set n q has =
      let nets : List (List ℕ) = networks header in
      let s = set_up n q.0 0 0 nets has in
      let found : network_from n q.0 0 0 nets ≡ Some s.j =
      ap (λ k. network_from n k 0 0 nets) (let e : q.0 ≡ 0 + q.0 = omega arith in e) ∙ s.network ∙
      ap (λ k. Some k) (let e : 0 + s.j ≡ s.j = omega arith in e) in
      let net : setting.net n q ≡ Named s.j = set.net_is n q ∙ ap (λ o. named_or (Alone n q.0) o) found in
      record {
        peers = ap (λ (k : PortSetup). k.peers) s.setup ∙ sym (ap setting.members net ∙ set.members_are (Named s.j));
        own = ap (λ (k : PortSetup). k.own.0) s.setup;
      }

  -- a port whose network has another member
  pub member_port : (n : ℕ) (q : Port) (p : PeerId) → is_among p (setting.members (setting.net n q)) ≡ true → (n == p.0) ≡ false → PortIs header setting n q
  member_port n q p member other = by_network (network_at n q (networks header)) refl where
    by_network : (o : Option ℕ) → network_at n q (networks header) ≡ o → PortIs header setting n q
    by_network (Some j) e = is_set n q (let less = port_there n q.0 0 0 (networks header) j e in omega (arith, less))
    by_network None e =
        let alone : setting.net n q ≡ Alone n q.0 = set.net_is n q ∙ ap (λ o. named_or (Alone n q.0) o) e in
        let there : is_among p (peer_of n ∷ []) ≡ true =
        sym (ap (λ k. is_among p (setting.members k)) alone ∙ ap (is_among p) (set.members_are (Alone n q.0))) ∙ member in
        absurd (true≢false (sym there ∙ not_there))
      where
        not_there : is_among p (peer_of n ∷ []) ≡ false
        not_there = rw other refl

  -- and one whose network has another node on it
  pub shared_port : (n : ℕ) (q : Port) (a : ℕ) (r : Port) → setting.net n q ≡ setting.net a r → (n == a) ≡ false → PortIs header setting n q
  shared_port n q a r same other = member_port n q (peer_of a) (ap (λ k. is_among (peer_of a) (setting.members k)) same ∙ setting.own a r) other
