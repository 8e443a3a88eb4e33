-- Each network is passed, or it is the one of the port.
use Rattle.std.proofs.Common.{◌≡◌, ◌∙◌, sym, ap, arith, rules, drop, [], ◌∷◌, ◌+◌, ℕ, List, true, false, Some, None, if◌then◌else◌}
use Rattle.std.proofs.lemmas.List.{drop_all}
use Rattle.tsp_base.specs.Headers.{has_member}
use Rattle.tsp_networks.proofs.BesideLemmas.{beside, beside_all, beside_found, beside_other, beside_past, beside_none, next_net, with_port}
use Rattle.tsp_networks.proofs.port_beside.Goals as goal
use Rattle.tsp_networks.proofs.port_beside.Goals.{then-has+else-passed-port, else-has, then-is_there-2, else-is_there-2}

pub loop-net-init : goal.loop-net-init
loop-net-init c = record { left = beside_all c.args.n c.args.from c.args.port c.args.nets.now; passed = omega arith; ports = omega arith }

pub returns-then-is_there : goal.returns-then-is_there
returns-then-is_there c =
    let i = c.loop-net.net-index in
    let o = c.loop-net.beside in
    let nets = c.args.nets.now in
    let net : List ℕ = c.net-item.result in
    let there : has_member c.args.n net ≡ true = search rules in
    ap (λ b. if b then Some o else None) (sym there)
    ∙ beside_found c.args.n c.args.from c.args.port.0 o c.loop-net.passed i net (drop (i + 1) nets) (drop i nets) _
    (next_net nets i net (search rules) (search rules)) (search rules) (search rules) c.loop-net.invariant.left

pub returns-else-is_there : goal.returns-else-is_there
returns-else-is_there c =
    let i = c.loop-net.net-index in
    let o = c.loop-net.beside in
    let nets = c.args.nets.now in
    let net : List ℕ = c.net-item.result in
    let there : has_member c.args.n net ≡ false = search rules in
    ap (λ b. if b then Some o else None) (sym there)
    ∙ beside_found c.args.n c.args.from c.args.port.0 o c.loop-net.passed i net (drop (i + 1) nets) (drop i nets) _
    (next_net nets i net (search rules) (search rules)) (search rules) (search rules) c.loop-net.invariant.left

pub loop-net-preserved : goal.loop-net-preserved
loop-net-preserved c =
    let i = c.loop-net.net-index in
    let o = c.loop-net.beside in
    let p = c.loop-net.passed in
    let q = c.args.port.0 in
    let n = c.args.n in
    let m = c.args.from in
    let net : List ℕ = c.net-item.result in
    let rest = drop (i + 1) c.args.nets.now in
    let here = next_net c.args.nets.now i net (search rules) (search rules) in
    let moved : beside n m q o p i (net ∷ rest) ≡ beside n m q (with_port n net o) c.if-has.passed (i + 1) rest =
    elim c.if-has.branch [
      | then-has+else-passed-port w ↦ beside_other n m q o p i net rest (search rules) (search rules) ∙
          ap (λ z. beside n m q (with_port n net o) z (i + 1) rest) (sym w.passed-is)
      | else-has w ↦ beside_past n m q o p i net rest (search rules) ∙ ap (λ z. beside n m q (with_port n net o) z (i + 1) rest) (sym w.passed-is)
    ] in
    let counted : c.if-is_there-2.beside ≡ with_port n net o = elim c.if-is_there-2.branch [
      | then-is_there-2 w ↦ search rules
      | else-is_there-2 w ↦
          search rules
    ] in
    record {
      left = ap (λ z. beside n m q z c.if-has.passed (i + 1) rest) counted ∙ sym moved ∙ ap (λ l. beside n m q o p i l) (sym here) ∙ c.loop-net.invariant.left;
      passed = elim c.if-has.branch [ then-has+else-passed-port w ↦ search rules | else-has w ↦ search rules ];
      ports = elim c.if-is_there-2.branch [ then-is_there-2 w ↦ search rules | else-is_there-2 w ↦ search rules ];
    }

pub returns : goal.returns
returns c =
    let i = c.loop-net.net-index in
    let past = c.loop-net-test.false in
    let none : drop i c.args.nets.now ≡ [] = drop_all i c.args.nets.now (omega (arith, past)) in
    sym (ap (λ l. beside c.args.n c.args.from c.args.port.0 c.loop-net.beside c.loop-net.passed i l) none ∙
    beside_none c.args.n c.args.from c.args.port.0 c.loop-net.beside c.loop-net.passed i) ∙ c.loop-net.invariant.left
