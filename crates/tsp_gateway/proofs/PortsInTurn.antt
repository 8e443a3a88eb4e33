-- Calls for a node's ports, one after the other.
use Rattle.std.proofs.Common.{sym, subst, ap, append-nil, arith, ◌∙◌, ◌≡◌, ℕ, zero, suc, ◌+◌, ◌-◌, ◌<◌, ◌≤◌, Bool, true, false, if◌then◌else◌, List, [], ◌∷◌}
use Rattle.std.proofs.Common.{filter, length, refl}
use Rattle.tsp_rules.specs.{GateRows.ports_from, NodePerforms.PerformsAll, Values.Placed, Values.Port}
use Rattle.tsp_rules.specs.NodeRows.{NodePast, NodeRow, PortSetup, for_ports, nothing_at_all, reading_all}
use Rattle.tsp_rules.proofs.NodeRowLemmas.{All_then}
use Rattle.tsp_gateway.specs.{GatewayStands.GatewayStands, GatewayStands.port_at, Untold.is_upset, Untold.upset_ports}
use Rattle.tsp_gateway.{proofs.LiftLemmas.All_reading, specs.declared.gateway.Gateway.Gateway}

-- so many ports, from one on
between : ℕ → ℕ → List Port
between k zero = []
between k (suc n) = port_at k ∷ between (k + 1) n

from_between : (k : ℕ) (setups : List PortSetup) → ports_from k setups ≡ between k (length setups)
unfolding between
from_between k [] = refl
from_between k (s ∷ later) = ap (λ rest. port_at k ∷ rest) (from_between (k + 1) later)

between_more : (r n : ℕ) → r < n → between r (n - r) ≡ port_at r ∷ between (r + 1) (n - (r + 1))
unfolding between
between_more r n lt = by_count (n - r) (n - (r + 1)) (omega (arith, lt)) where
  by_count : (m k : ℕ) → m ≡ suc k → between r m ≡ port_at r ∷ between (r + 1) k
  by_count m k e = rw e refl

between_none : (r n : ℕ) → n ≤ r → between r (n - r) ≡ []
unfolding between
between_none r n le = by_count (n - r) (omega (arith, le)) where
  by_count : (m : ℕ) → m ≡ zero → between r m ≡ []
  by_count m e = rw e refl

-- the ports from r on that are upset, of n
pub left : Bool → ℕ → ℕ → ℕ → List Port
left whole q r n = filter (is_upset whole q) (between r (n - r))

pub left_kept : (whole : Bool) (q r n : ℕ) → r < n → is_upset whole q (port_at r) ≡ true → left whole q r n ≡ port_at r ∷ left whole q (r + 1) n
unfolding left
left_kept whole q r n lt e =
    ap (filter (is_upset whole q)) (between_more r n lt) ∙ ap (λ (b : Bool). if b then port_at r ∷
    filter (is_upset whole q) (between (r + 1) (n - (r + 1))) else filter (is_upset whole q) (between (r + 1) (n - (r + 1)))) e

pub left_passed : (whole : Bool) (q r n : ℕ) → r < n → is_upset whole q (port_at r) ≡ false → left whole q r n ≡ left whole q (r + 1) n
unfolding left
left_passed whole q r n lt e =
    ap (filter (is_upset whole q)) (between_more r n lt) ∙ ap (λ (b : Bool). if b then port_at r ∷
    filter (is_upset whole q) (between (r + 1) (n - (r + 1))) else filter (is_upset whole q) (between (r + 1) (n - (r + 1)))) e

pub left_none : (whole : Bool) (q r n : ℕ) → n ≤ r → left whole q r n ≡ []
unfolding left
left_none whole q r n le = ap (filter (is_upset whole q)) (between_none r n le)

filter_all : (ports : List Port) (q : ℕ) → filter (is_upset true q) ports ≡ ports
filter_all [] q = refl
filter_all (p ∷ later) q = ap (λ rest. p ∷ rest) (filter_all later q)

all_between : (setups : List PortSetup) → ports_from 0 setups ≡ between 0 (length setups - 0)
all_between setups = let none : length setups ≡ length setups - 0 = omega arith in from_between 0 setups ∙ ap (between 0) none

-- at first they are all that are upset
pub left_all : (whole : Bool) (q x : ℕ) (past : NodePast) → upset_ports whole (port_at q) x past ≡ left whole q 0 (length past.ports)
unfolding left
left_all true q x past = sym (filter_all (ports_from 0 past.ports) q) ∙ ap (filter (is_upset true q)) (all_between past.ports)
left_all false q x past = ap (filter (is_upset false q)) (all_between past.ports)

-- a call for one port more
pub next_port : {P Q R : NodePast → Gateway → Type 0} (row : Port → NodeRow) (whole : Bool) (q r n x : ℕ) {g h last : Gateway} {old mid new : List Placed} →
    r < n → is_upset whole q (port_at r) ≡ true → PerformsAll P Q (row (port_at r)) x g h old mid →
    PerformsAll Q R (for_ports row (left whole q (r + 1) n)) x h last mid new → PerformsAll P R (for_ports row (left whole q r n)) x g last old new
unfolding for_ports
next_port {P} {Q} {R} row whole q r n x {g} {h} {last} {old} {mid} {new} lt e one more =
    subst (λ ports. PerformsAll P R (for_ports row ports) x g last old new) (sym (left_kept whole q r n lt e)) (All_then one more)

-- a port that is passed over
pub no_port : {P R : NodePast → Gateway → Type 0} (row : Port → NodeRow) (whole : Bool) (q r n x : ℕ) {g last : Gateway} {old new : List Placed} → r < n →
    is_upset whole q (port_at r) ≡ false →
    PerformsAll P R (for_ports row (left whole q (r + 1) n)) x g last old new → PerformsAll P R (for_ports row (left whole q r n)) x g last old new
no_port {P} {R} row whole q r n x {g} {last} {old} {new} lt e more = subst (λ ports. PerformsAll P R (for_ports row ports) x g last old new)
    (sym (left_passed whole q r n lt e)) more

-- no port is left
pub last_port : {P R : NodePast → Gateway → Type 0} (row : Port → NodeRow) (whole : Bool) (q r n x : ℕ) {g : Gateway} {old : List Placed} → n ≤ r →
    ((past : NodePast) → P past g → R past g) → PerformsAll P R (for_ports row (left whole q r n)) x g g old old
unfolding for_ports nothing_at_all
last_port {P} {R} row whole q r n x {g} {old} le k =
    subst (λ ports. PerformsAll P R (for_ports row ports) x g g old old) (sym (left_none whole q r n le)) (record {
      acts = λ past h. sym (append-nil old);
      stands = λ past h. k past h;
    })

-- the calls of all that are upset
pub upset_all : {P R : NodePast → Gateway → Type 0} (row : Port → NodeRow) (whole : Bool) (q x : ℕ) {g last : Gateway} {old new : List Placed} →
    ((past : NodePast) → P past g → GatewayStands past g) → PerformsAll P R (for_ports row (left whole q 0 (length g.ports.items))) x g last old new →
    PerformsAll P R (reading_all (upset_ports whole (port_at q)) (for_ports row)) x g last old new
upset_all row whole q x {g} stands d = All_reading (upset_ports whole (port_at q)) (for_ports row) (left whole q 0 (length g.ports.items))
    (λ past h. left_all whole q x past ∙ ap (left whole q 0) (sym (stands past h).many)) d
