-- A node to which nobody sends what stirs leads soon.
use Rattle.std.specs.Prelude.{◌≡◌, ◌≢◌, ◌≤◌, ◌<◌, ℕ, ◌+◌, true, false, List, ◌∷◌}
use Rattle.tsp_rules.specs.Values.{Post, Message, Peer, Port}
use Rattle.tsp_rules.specs.Guards.{is_master}
use Rattle.tsp_base.specs.Words.{Acts, Begins, Did, Handed, Line, MessageValue, Seen, Here, dids, held, of, peer_of, role, stood, up, view}
use Rattle.tsp_promises.specs.{Everywhere.Everywhere, Fits.node_of, Setting.Setting}
use Rattle.tsp_progress.specs.{CausesFit.stirs, FreshLeads.first_lead}

-- nobody posts a message of a kind that stirs to node c, and no octets from outside come to it
pub record Lone (c : ℕ) (world : List Line) : Type 0 where
  pub unsent : Everywhere (λ (l : Line) (before : List Line). (m : MessageValue) → l.did.deed ≡ Acts (Post (Peer (peer_of c)) (Message m)) → stirs m.kind ≡
      false) world
  pub unhanded : Everywhere (λ (l : Line) (before : List Line). node_of l ≡ c → l.did.step.cause ≢ Handed) world

-- once node c has booted, a port of it that has a role and is no master when a step begins booted at most 690 s and four times `late` ago
abbrev pub LoneLeadsAt : ℕ → ℕ → Line → List Line → Type 0
LoneLeadsAt c late l world =
    l.did.deed ≡ Begins → node_of l ≡ c → up (dids (of c world)) ≡ true → (q : Port) → (start : Did) (idle : List Seen) → stood (view q (of c world)) ≡
    Here start ∷ idle →
    is_master (role (view q (of c world))) ≡ false → l.did.tick ≤ (held (view q (of c world))).boot + first_lead late

-- wherever a step begins
abbrev pub LoneLeads : ℕ → ℕ → List Line → Type 0
LoneLeads c late = Everywhere (LoneLeadsAt c late)

-- at the true time t a port of node c that has a role is master, if the node booted more than 690 s and four times `late` ago
abbrev pub Led : ℕ → ℕ → Setting → ℕ → List Line → Type 0
Led c late setting t world = up (dids (of c world)) ≡ true → (q : Port) → (start : Did) (idle : List Seen) → stood (view q (of c world)) ≡ Here start ∷ idle →
    (held (view q (of c world))).boot + first_lead late < setting.tick c t → is_master (role (view q (of c world))) ≡ true
