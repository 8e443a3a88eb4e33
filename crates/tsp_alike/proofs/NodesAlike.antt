-- Rows over ports do alike on pasts that are alike.
use Rattle.std.proofs.Common.{sym, ap, ap₂, subst, inl, inr, true≢false, eqb-true, ◌∙◌, ◌≡◌, ℕ, ◌+◌, ◌<◌, ◌==◌, Bool, true, false, not, ◌||◌, if◌then◌else◌}
use Rattle.std.proofs.Common.{List, [], ◌∷◌, ◌++◌, length, map, All, slice_index_or, refl, arith, nat_le, nat_lt, ◌&&◌, filter}
use Rattle.std.proofs.{lemmas.Bool.or_cases, lemmas.List.map-append, Math.Bool.or-true}
use Rattle.std.proofs.lemmas.List.Elements.{All-nil, All-cons, All-head, All-tail, All-append}
use Rattle.tsp_rules.specs.Values.{Act, Boot, Placed, PeerId, Port, Kind, Place, Peer, Stranger, Correct, Ring}
use Rattle.tsp_rules.specs.NodeRows.{NodePast, NodeRow, PortSetup, no_port, nothing_at_all, on, on_port, spread, ◌and_then◌, for_ports}
use Rattle.tsp_rules.specs.Renames.{Naming, Renaming, Knows, renamed_act, renamed_place}
use Rattle.tsp_rules.specs.GateRows.{any_port, ends_probes, follows_on, goes_on, has_rung, hears_on, in_charge, is_awake_on, is_last_probe, leads_clock}
use Rattle.tsp_rules.specs.GateRows.{leads_on, lower_ports, other_ports, ports_from, steers, stirred_ports, waits}
use Rattle.tsp_rules.specs.{Guards.is_follow, Guards.is_master, Guards.is_starting_role, RoundRows.corrects, RoundRows.is_correct}
use Rattle.tsp_base.specs.Words.{Deed, Begins, Acts, Step, Line, Row, first_port, is_shared, joined, line_of, placed, seen_as, view, is_among, others, role}
use Rattle.tsp_base.specs.Words.{sets_date}
use Rattle.tsp_alike.proofs.{RoundsAlike.is_going_alike, ListsAlike.among_others, PortAlike.role_alike}
use Rattle.tsp_alike.specs.AlikeNodes.{AlikeConfigs, AlikeLines, AlikeNodes, namings, AllKnown, Booted, Both, KnowsDeed, StepsAlike, TellsApart, is_later}
use Rattle.tsp_alike.specs.AlikeNodes.{naming_of, renamed_deed, renamed_placed}
use Rattle.tsp_alike.proofs.Alike.{Alike, AlikePast, Booted as PortBooted, Own, Other, elsewhere, here, Moves}
use Rattle.tsp_alike.proofs.TestsAlike.{follow_renamed, master_renamed, starting_renamed, hears_alike, is_last_probe_alike}

-- an act that names known peers is no boot
pub later_known : (m : Naming) (a : Act) → Knows m a → is_later (Acts a) ≡ true
later_known m Boot k = absurd k
later_known m _ k = refl

-- no other act than a boot is seen by every port
unshared : (a : Act) → is_later (Acts a) ≡ true → is_shared (Acts a) ≡ false
unshared Boot e = absurd (true≢false (sym e))
unshared _ e = refl

unshared_renamed : (r : Renaming) (a : Act) → is_later (Acts a) ≡ true → is_shared (Acts (renamed_act r a)) ≡ false
unshared_renamed r Boot e = absurd (true≢false (sym e))
unshared_renamed r _ e = refl

others_apart : (own p : PeerId) (peers : List PeerId) → is_among p (others own peers) ≡ true → (p.0 == own.0) ≡ false
others_apart own p [] e = absurd (true≢false (sym e))
others_apart own p (q ∷ peers) e = by_case (q.0 == own.0) refl (others_apart own p peers) where
  by_case : (b : Bool) → (q.0 == own.0) ≡ b → (is_among p (others own peers) ≡ true → (p.0 == own.0) ≡ false) → (p.0 == own.0) ≡ false
  by_case true is rest = rest (subst (λ b. is_among p (if not b then q ∷ others own peers else others own peers) ≡ true) is e)
  by_case false is rest = elim (or_cases (q.0 == p.0) (is_among p (others own peers))
      (subst (λ b. is_among p (if not b then q ∷ others own peers else others own peers) ≡ true) is e)) [
        | inl same ↦ subst (λ k. (k == own.0) ≡ false) (eqb-true q.0 p.0 same) is
        | inr there ↦ rest there
      ]

module _ (ms : Port → Naming) (shift : ℕ) (shifts : (q : Port) → (ms q).names.shift ≡ shift) where
  own_line : (q r : Port) (s s' : Step) (x : ℕ) (deed : Deed) → is_later deed ≡ true → KnowsDeed (ms r) deed → (b : Bool) → (r.0 == q.0) ≡ b →
      (lines lines' : List Line) → Alike (ms q) (view q lines) (view q lines') →
      Alike (ms q) (seen_as (b || is_shared deed) (line_of s x r deed).did ∷ view q lines) (seen_as (b || is_shared (renamed_deed (ms r).names deed))
      (line_of s' (x + shift) r (renamed_deed (ms r).names deed)).did ∷ view q lines')
  own_line q r s s' x Begins later known true e lines lines' a = subst (λ n. Alike (ms q) (here s x Begins ∷ view q lines) (here s' (x + n) Begins ∷
      view q lines')) (shifts q) (Own s s' x Begins refl tt a)
  own_line q r s s' x Begins later known false e lines lines' a = subst (λ n. Alike (ms q) (here s x Begins ∷ view q lines) (here s' (x + n) Begins ∷
      view q lines')) (shifts q) (Own s s' x Begins refl tt a)
  own_line q r s s' x (Acts act) later known true e lines lines' a =
      let same : r ≡ q = ap (λ (k : ℕ). record { 0 = k }) (eqb-true r.0 q.0 e) in
      subst (λ k. Alike (ms q) (here s x (Acts act) ∷ view q lines) (here s' (x + shift) (Acts (renamed_act (ms k).names act)) ∷ view q lines')) (sym same)
      (subst (λ n. Alike (ms q) (here s x (Acts act) ∷ view q lines) (here s' (x + n) (Acts (renamed_act (ms q).names act)) ∷ view q lines')) (shifts q)
      (Own s s' x (Acts act) later (subst (λ k. Knows (ms k) act) same known) a))
  own_line q r s s' x (Acts act) later known false e lines lines' a =
      let one = unshared act later in
      let two = unshared_renamed (ms r).names act later in
      subst (λ b. Alike (ms q) (seen_as b (line_of s x r (Acts act)).did ∷ view q lines) (seen_as (is_shared (Acts (renamed_act (ms r).names act)))
      (line_of s' (x + shift) r (Acts (renamed_act (ms r).names act))).did ∷ view q lines')) (sym one)
      (subst (λ b. Alike (ms q) (elsewhere s x (Acts act) ∷ view q lines) (seen_as b (line_of s' (x + shift) r (Acts (renamed_act (ms r).names act))).did ∷
      view q lines')) (sym two)
      (subst (λ n. Alike (ms q) (elsewhere s x (Acts act) ∷ view q lines) (elsewhere s' (x + n) (Acts (renamed_act (ms r).names act)) ∷ view q lines'))
      (shifts q)
      (Other (ms r).names (shifts r ∙ sym (shifts q)) s s' x (Acts act) later a)))

  -- what a port sees of lines that are alike is alike
  pub view_alike : (q : Port) (lines lines' : List Line) → AlikeLines ms shift lines lines' → Alike (ms q) (view q lines) (view q lines')
  view_alike q _ _ (Booted s s' cause x old old') =
      subst (λ b. Alike (ms q) (seen_as b (line_of s x first_port (Acts Boot)).did ∷ seen_as b (line_of s x first_port Begins).did ∷
      view q old) (seen_as b (line_of s' (x + shift) first_port (Acts Boot)).did ∷ seen_as b (line_of s' (x + shift) first_port Begins).did ∷ view q old'))
      (sym (or-true (0 == q.0)))
      (subst (λ n. Alike (ms q) (here s x (Acts Boot) ∷ here s x Begins ∷ view q old) (here s' (x + n) (Acts Boot) ∷ here s' (x + n) Begins ∷ view q old'))
      (shifts q) (PortBooted s s' cause x (view q old) (view q old')))
  view_alike q _ _ (Both s s' x r deed later known {before} {before'} a) = own_line q r s s' x deed later known (r.0 == q.0) refl before before'
      (view_alike q before before' a)

  -- lines to which acts are added are alike again
  pub joined_alike : (s s' : Step) (x : ℕ) (acts : List Placed) → AllKnown ms acts → {lines lines' : List Line} → AlikeLines ms shift lines lines' →
      AlikeLines ms shift (joined s x acts lines) (joined s' (x + shift) (map (renamed_placed (λ q. (ms q).names)) acts) lines')
  joined_alike s s' x [] known a = a
  joined_alike s s' x (p ∷ rest) known a =
      let first = All-head (λ (k : Placed). Knows (ms k.port) k.act) p rest known in
      joined_alike s s' x rest (All-tail (λ (k : Placed). Knows (ms k.port) k.act) p rest known)
      (Both s s' x p.port (Acts p.act) (later_known (ms p.port) p.act first) first a)

-- acts of a port, each in its place
placed_renamed : (rs : Port → Renaming) (q : Port) (acts : List Act) → placed q (map (renamed_act (rs q)) acts) ≡ map (renamed_placed rs) (placed q acts)
placed_renamed rs q [] = refl
placed_renamed rs q (a ∷ acts) = ap (λ l. record { port = q; act = renamed_act (rs q) a } ∷ l) (placed_renamed rs q acts)

placed_known : (ms : Port → Naming) (q : Port) (acts : List Act) → All (Knows (ms q)) acts → AllKnown ms (placed q acts)
placed_known ms q [] known = All-nil (λ (a : Placed). Knows (ms a.port) a.act)
placed_known ms q (a ∷ acts) known = All-cons (λ (a : Placed). Knows (ms a.port) a.act) (record { port = q; act = a }) (placed q acts)
    (All-head (Knows (ms q)) a acts known) (placed_known ms q acts (All-tail (Knows (ms q)) a acts known))

-- how a node is set up in a life, what its ports' peers are called otherwise, and by how much its ticks are later there
pub record Life : Type 0 where
  pub names : Port → Renaming
  pub apart : (q : Port) → TellsApart (names q)
  pub shift : ℕ
  pub ports : List PortSetup
  pub may : Bool

abbrev pub naming_on : Life → Port → Naming
naming_on l q = naming_of (l.names q) (l.apart q) (slice_index_or l.ports q.0 no_port) l.may

-- a past of a node that is set up so
abbrev pub past_with : Life → List ℕ → Bool → Step → List Line → NodePast
past_with l name strict step lines = record { name = name; may = l.may; strict = strict; ports = l.ports; step = step; lines = lines }

-- the same and another past that is alike
pub record Pair (l : Life) : Type 0 where
  pub name : List ℕ
  pub strict : Bool
  pub step : Step
  pub lines : List Line
  pub other : NodePast
  pub alike : AlikeNodes l.names l.apart l.shift (past_with l name strict step lines) other

abbrev pub now : {l : Life} → Pair l → NodePast
now {l} a = past_with l a.name a.strict a.step a.lines

-- what both do in a step is alike
abbrev pub Steps : {l : Life} → ℕ → Pair l → List Placed → List Placed → Type 0
Steps {l} x a = StepsAlike l.names l.apart l.shift x (now a) a.other

-- the second row over ports does on pasts that are alike what the first does
pub record NodeMoves (l : Life) (row row' : NodeRow) : Type 0 where
  pub at : (x : ℕ) (a : Pair l) → Steps x a (row x (now a)) (row' (x + l.shift) a.other)

-- pasts that are set up alike are alike if their lines are
pub with_lines : {rs : Port → Renaming} {shift : ℕ} {p p' : NodePast} (apart : (q : Port) → TellsApart (rs q)) → AlikeConfigs rs shift p p' → (s s' : Step)
    {h h' : List Line} → AlikeLines (namings rs apart p) shift h h' →
    AlikeNodes rs apart shift (record p { step = s; lines = h }) (record p' { step = s'; lines = h' })
with_lines apart c s s' a = record { name = c.name; may = c.may; strict = c.strict; shifts = c.shifts; ports = c.ports; setups = c.setups; lines = a }

pub configs_of : {rs : Port → Renaming} {shift : ℕ} {p p' : NodePast} {apart : (q : Port) → TellsApart (rs q)} → AlikeNodes rs apart shift p p' →
    AlikeConfigs rs shift p p'
configs_of a = record { name = a.name; may = a.may; strict = a.strict; shifts = a.shifts; ports = a.ports; setups = a.setups }

-- each of these ports is one of the node
abbrev pub AllPorts : Life → List Port → Type 0
AllPorts l = All (λ (q : Port). q.0 < length l.ports)

module _ {l : Life} where
  pub steps_alike : (x : ℕ) (a : Pair l) (acts acts' : List Placed) → acts' ≡ map (renamed_placed l.names) acts → AllKnown (naming_on l) acts →
      Steps x a acts acts'
  steps_alike x a acts acts' same known =
      let k = a.alike in
      record {
        same = same;
        known = known;
        after = with_lines l.apart (configs_of k) a.step a.other.step
            (subst (λ z. AlikeLines (naming_on l) l.shift (joined a.step x acts a.lines) (joined a.other.step (x + l.shift) z a.other.lines)) (sym same)
            (joined_alike (naming_on l) l.shift k.shifts a.step a.other.step x acts known k.lines));
      }

  -- so each port's pasts are alike
  pub port_alike : (q : Port) → q.0 < length l.ports → (a : Pair l) → AlikePast (naming_on l q) (on_port q (now a)) (on_port q a.other)
  port_alike q has a =
      let k = a.alike in
      let s = k.setups q has in
      let port : PortSetup = slice_index_or l.ports q.0 no_port in
      record {
        setup = record {
          own = s.own;
          others_are = s.others_are;
          count = s.count;
          apart = λ p e. others_apart port.own p port.peers e;
          known = λ p e. e;
          heard = λ p e off. sym (among_others p port.own off port.peers) ∙ e;
        };
        name = k.name;
        may = k.may;
        strict = k.strict;
        stands = λ e. e;
        seen = view_alike (naming_on l) l.shift k.shifts q a.lines a.other.lines k.lines;
      }

  pub none_at : (x : ℕ) (a : Pair l) → Steps x a [] []
  none_at x a = steps_alike x a [] [] refl (All-nil (λ (k : Placed). Knows (naming_on l k.port) k.act))

  pub nothing_moves : NodeMoves l nothing_at_all nothing_at_all
  unfolding nothing_at_all
  nothing_moves = record { at = none_at }

  pub on_moves : (q : Port) {row row' : Row} → q.0 < length l.ports → Moves (naming_on l q) row row' → NodeMoves l (on q row) (on q row')
  unfolding on
  on_moves q {row} {row'} has k = record {
    at = λ x a.
        let acts : List Act = row x (on_port q (now a)) in
        let m = k.at x (on_port q (now a)) (on_port q a.other) (port_alike q has a) in
        steps_alike x a (placed q acts) (placed q (row' (x + l.shift) (on_port q a.other)))
        (ap (λ n. placed q (row' (x + n) (on_port q a.other))) (sym (a.alike.shifts q)) ∙ ap (placed q) m.same ∙ placed_renamed l.names q acts)
        (placed_known (naming_on l) q acts m.known);
  }

  pub then_moves : {r r' s s' : NodeRow} → NodeMoves l r r' → NodeMoves l s s' → NodeMoves l (r and_then s) (r' and_then s')
  unfolding ◌and_then◌
  then_moves {r} {r'} {s} {s'} k n = record {
    at = λ x a.
        let first = k.at x a in
        let ours : List Placed = r x (now a) in
        let theirs : List Placed = r' (x + l.shift) a.other in
        let mid : Pair l = record a { lines = joined a.step x ours a.lines; other = spread (x + l.shift) a.other theirs; alike = first.after } in
        let next = n.at x mid in
        let more : List Placed = s x (now mid) in
        let more' : List Placed = s' (x + l.shift) mid.other in
        steps_alike x a (ours ++ more) (theirs ++ more')
        (ap (λ z. z ++ more') first.same ∙ ap (λ z. map (renamed_placed l.names) ours ++ z) next.same ∙ sym (map-append (renamed_placed l.names) ours more))
        (All-append (λ (k : Placed). Knows (naming_on l k.port) k.act) ours more first.known next.known);
  }

  pub for_ports_move : {row row' : Port → NodeRow} → ((q : Port) → q.0 < length l.ports → NodeMoves l (row q) (row' q)) → (qs : List Port) → AllPorts l qs →
      NodeMoves l (for_ports row qs) (for_ports row' qs)
  unfolding for_ports
  for_ports_move k [] has = nothing_moves
  for_ports_move k (q ∷ qs) has = then_moves (k q (All-head (λ (r : Port). r.0 < length l.ports) q qs has))
      (for_ports_move k qs (All-tail (λ (r : Port). r.0 < length l.ports) q qs has))

-- what a node's rows over its ports read is the same for pasts that are alike

-- what rows ask of acts is the same of renamed acts

module _ (n : Renaming) where
  correct_renamed : (act : Act) → is_correct (renamed_act n act) ≡ is_correct act
  correct_renamed (Correct amount stepped shown) = refl
  correct_renamed _ = refl

  -- whether acts correct the clock
  pub corrects_renamed : (acts : List Act) → corrects (map (renamed_act n) acts) ≡ corrects acts
  corrects_renamed [] = refl
  corrects_renamed (act ∷ rest) = ap₂ ◌||◌ (correct_renamed act) (corrects_renamed rest)

  -- whether acts begin with a probe that rang
  pub has_rung_renamed : (acts : List Act) → has_rung (map (renamed_act n) acts) ≡ has_rung acts
  has_rung_renamed [] = refl
  has_rung_renamed (Ring alarm ∷ rest) = refl
  has_rung_renamed (act ∷ rest) = refl

-- as many ports have the same numbers
pub ports_same : (k : ℕ) (a b : List PortSetup) → length b ≡ length a → ports_from k b ≡ ports_from k a
ports_same k [] [] e = refl
ports_same k (s ∷ a) (t ∷ b) e = ap (λ l. record { 0 = k } ∷ l) (ports_same (k + 1) a b (omega (arith, e)))
ports_same k _ _ e = let bad : ⊥ = omega (arith, e) in absurd bad

-- each has a number below theirs
pub ports_below : (k n : ℕ) (a : List PortSetup) → k + length a ≡ n → All (λ (q : Port). q.0 < n) (ports_from k a)
ports_below k n [] e = All-nil (λ (q : Port). q.0 < n)
ports_below k n (s ∷ a) e = All-cons (λ (q : Port). q.0 < n) (record { 0 = k }) (ports_from (k + 1) a) (omega (arith, e))
    (ports_below (k + 1) n a (omega (arith, e)))

-- whether a test holds of one of some ports
any_same : (t t' : Port → Bool) → ((q : Port) → t' q ≡ t q) → (qs : List Port) → any_port t' qs ≡ any_port t qs
any_same t t' same [] = refl
any_same t t' same (q ∷ qs) = ap₂ ◌||◌ (same q) (any_same t t' same qs)

module _ {l : Life} (a : Pair l) where
  seen_alike : (q : Port) → Alike (naming_on l q) (view q a.lines) (view q a.other.lines)
  seen_alike q = view_alike (naming_on l) l.shift a.alike.shifts q a.lines a.other.lines a.alike.lines

  pub follows_same : (q : Port) → follows_on a.other q ≡ follows_on (now a) q
  follows_same q = ap is_follow (role_alike (seen_alike q)) ∙ follow_renamed (l.names q) (role (view q a.lines))

  pub leads_same : (q : Port) → leads_on a.other q ≡ leads_on (now a) q
  leads_same q = ap is_master (role_alike (seen_alike q)) ∙ master_renamed (l.names q) (role (view q a.lines))

  pub awake_same : (q : Port) → is_awake_on a.other q ≡ is_awake_on (now a) q
  awake_same q = ap (λ r. not (is_starting_role r)) (role_alike (seen_alike q)) ∙ ap not (starting_renamed (l.names q) (role (view q a.lines)))

  pub goes_same : (q : Port) → goes_on a.other q ≡ goes_on (now a) q
  goes_same q = is_going_alike (seen_alike q)

  pub all_same : ports_from 0 a.other.ports ≡ ports_from 0 l.ports
  all_same = ports_same 0 l.ports a.other.ports a.alike.ports

  pub other_same : (q : Port) → other_ports q a.other ≡ other_ports q (now a)
  other_same q = ap (filter (λ r. not (r.0 == q.0))) all_same

  pub stirred_same : (q : Port) (kind : Kind) → stirred_ports q kind a.other ≡ stirred_ports q kind (now a)
  stirred_same q kind = ap (λ l. if sets_date kind then l else filter (λ r. not (r.0 == q.0)) l) all_same

  none_lower : (t t' : Port → Bool) → ((r : Port) → t' r ≡ t r) → (q : Port) →
      not (any_port t' (lower_ports q a.other)) ≡ not (any_port t (lower_ports q (now a)))
  none_lower t t' same q = ap not (ap (any_port t') (ap (filter (λ r. nat_lt r.0 q.0)) all_same) ∙ any_same t t' same (lower_ports q (now a)))

  pub steers_same : (q : Port) (x : ℕ) → steers q (x + l.shift) a.other ≡ steers q x (now a)
  steers_same q x = ap₂ ◌&&◌ (follows_same q) (none_lower (follows_on (now a)) (follows_on a.other) follows_same q)

  pub leads_clock_same : (q : Port) (x : ℕ) → leads_clock q (x + l.shift) a.other ≡ leads_clock q x (now a)
  leads_clock_same q x =
      ap₂ ◌&&◌ (ap not (ap (any_port (follows_on a.other)) all_same ∙ any_same (follows_on (now a)) (follows_on a.other) follows_same (ports_from 0 l.ports)))
      (none_lower (leads_on (now a)) (leads_on a.other) leads_same q)

  pub in_charge_same : (q : Port) (x : ℕ) → in_charge q (x + l.shift) a.other ≡ in_charge q x (now a)
  in_charge_same q x = ap₂ ◌||◌ (steers_same q x) (leads_clock_same q x)

  pub waits_same : (q : Port) (x : ℕ) → waits q (x + l.shift) a.other ≡ waits q x (now a)
  waits_same q x = ap (any_port (goes_on a.other)) (other_same q) ∙ any_same (goes_on (now a)) (goes_on a.other) goes_same (other_ports q (now a))

  pub ends_same : (q : Port) → q.0 < length l.ports → (acts acts' : List Act) → acts' ≡ map (renamed_act (l.names q)) acts → ends_probes acts'
      (on_port q a.other) a.other.ports ≡ ends_probes acts (on_port q (now a)) l.ports
  ends_same q has acts acts' e =
      ap (λ b. b && (is_last_probe (on_port q a.other) && nat_le 2 (length a.other.ports))) (ap has_rung e ∙ has_rung_renamed (l.names q) acts)
      ∙ ap (λ b. has_rung acts && (b && nat_le 2 (length a.other.ports))) (is_last_probe_alike (port_alike q has a))
      ∙ ap (λ n. has_rung acts && (is_last_probe (on_port q (now a)) && nat_le 2 n)) a.alike.ports

  -- a port hears a peer under the other name
  pub hears_same : (q : Port) → q.0 < length l.ports → (from : Place) (x : ℕ) → hears_on (renamed_place (l.names q) from) q
      (x + l.shift) a.other ≡ hears_on from q x (now a)
  hears_same q has Stranger x = refl
  hears_same q has (Peer r) x = hears_alike (port_alike q has a) r x
