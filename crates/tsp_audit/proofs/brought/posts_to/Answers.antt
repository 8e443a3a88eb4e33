-- A message to a peer is one to this node where their numbers are the same.
use Rattle.std.proofs.Common.{◌∙◌, ap, refl, subst, sym, ◌≡◌, ◌==◌, ℕ, Bool, true, false, MatchBool}
use Rattle.std.proofs.lemmas.Bool.{eqb-false, eqb-true}
use Rattle.tsp_rules.specs.Values.{Post, Message, PeerId, Place, Peer}
use Rattle.tsp_base.specs.Words.{Acts, Deed, MessageValue, peer_of}
use Rattle.tsp_audit.specs.Acting.{PostsTo}
use Rattle.tsp_history.specs.{HeldActs.held_message, Histories.deed_of}
use Rattle.tsp_audit.proofs.brought.posts_to.Goals as goal

number-same : (d : Deed) (p : PeerId) (m : MessageValue) (node : ℕ) → d ≡ Acts (Post (Peer p) (Message m)) → PostsTo d node → p.0 ≡ node
number-same d p m node deed posts = let same : p ≡ peer_of node = cc in ap (λ (q : PeerId). q.0) same

posts-decides : (b : Bool) (d : Deed) (p : PeerId) (m : MessageValue) (node : ℕ) → d ≡ Acts (Post (Peer p) (Message m)) → b ≡ (p.0 == node) →
    MatchBool b (PostsTo d node) (PostsTo d node → ⊥)
posts-decides true d p m node deed e = record {
  message = m;
  is = deed ∙ ap (λ (n : ℕ). Acts (Post (Peer (peer_of n)) (Message m))) (eqb-true p.0 node (sym e));
}
posts-decides false d p m node deed e = λ posts. eqb-false p.0 node (sym e) (number-same d p m node deed posts)

pub returns-in-PostMessage-Peer-default-default-default : goal.returns-in-PostMessage-Peer-default-default-default
returns-in-PostMessage-Peer-default-default-default c =
    let o = c.in-PostMessage-Peer-default-default-default in
    let line = c.args.line.now in
    let m : MessageValue = held_message o.field-1 o.field-2 o.field-3 o.ensures.act.0 in
    let deed : deed_of line.act ≡ Acts (Post o.field-0 (Message m)) = ap deed_of o.ensures.act.1 in
    posts-decides _ (deed_of line.act) o.p m c.args.node (subst (λ (to : Place). deed_of line.act ≡ Acts (Post to (Message m))) o.field-0-is deed) refl
