use Rattle.std.proofs.Common.{◌≡◌, ◌<◌, ◌+◌, ◌-◌, ◌∷◌, ap, subst, arith, rules, length, take, get_or, List, MatchBool}
use Rattle.tsp_base.specs.Words.{Line, dids, posted, posted_after}
use Rattle.tsp_history.specs.{Histories.deed_of, Histories.history_of, Histories.line_of, Posts.IsPost}
use Rattle.tsp_history.proofs.{HistoryLemmas.Within_noted, NoteLemmas.posted_more}
use Rattle.tsp_history.proofs.posts.post_at.Goals as goal
use Rattle.tsp_history.proofs.posts.post_at.Goals.{else-is_post-via-then-is_post+else-line-number, else-is_post-via-else-is_post}

pub returns-then-line-number : goal.returns-then-line-number
returns-then-line-number c =
    let below : c.loop-left.left - 1 < length c.args.lines.now = omega (arith, c.loop-left.invariant.few, c.loop-left-test.true) in
    let is : get_or c.args.lines.now (c.loop-left.left - 1) c.index-lines-left.result ≡ c.index-lines-left.result = search rules in
    let post : IsPost c.index-lines-left.result = search rules in
    let one : posted (dids (line_of c.index-lines-left.result ∷ history_of (take (c.loop-left.left - 1) c.args.lines.now))) ≡
    posted (dids (history_of (take (c.loop-left.left - 1) c.args.lines.now))) + 1 =
    ap (λ a. posted_after (deed_of a) (posted (dids (history_of (take (c.loop-left.left - 1) c.args.lines.now))))) post.act in
    let told = (c.requires.told.at (c.loop-left.left - 1) c.index-lines-left.result below is).posted_is in
    record {
      noted = c.index-lines-left.result;
      below = below;
      noted_is = is;
      within = Within_noted c.args.lines.now (c.loop-left.left - 1) c.index-lines-left.result below is;
      to = post.to;
      datagram = post.datagram;
      act = post.act;
      number = omega (arith, one, told, c.if-line-number.true);
    }

pub loop-left-preserved : goal.loop-left-preserved
loop-left-preserved c =
    let below : c.loop-left.left - 1 < length c.args.lines.now = omega (arith, c.loop-left.invariant.few, c.loop-left-test.true) in
    let is : get_or c.args.lines.now (c.loop-left.left - 1) c.index-lines-left.result ≡ c.index-lines-left.result = search rules in
    let item = c.index-lines-left.result in
    let past : List Line = history_of (take (c.loop-left.left - 1) c.args.lines.now) in
    let more = posted_more c.args.lines.now c.loop-left.left (c.loop-left.left - 1) c.index-lines-left.result (omega arith) below is in
    let note = (c.requires.told.at (c.loop-left.left - 1) c.index-lines-left.result below is).posted_is in
    let told = c.is_post.ensures in
    elim c.else-is_post.branch [
      | else-is_post-via-then-is_post+else-line-number w ↦
          let post : IsPost item = subst (λ b. MatchBool b (IsPost item) ((h : List Line) → posted (dids (line_of item ∷ h)) ≡ posted (dids h)))
          w.if-is_post.true told in
          let one : posted (dids (line_of item ∷ past)) ≡ posted (dids past) + 1 = ap (λ a. posted_after (deed_of a) (posted (dids past))) post.act in
          record { few = omega arith; some = omega (arith, one, more, note, c.loop-left.invariant.some, w.if-line-number.false) }
      | else-is_post-via-else-is_post w ↦
          let same : (h : List Line) → posted (dids (line_of item ∷ h)) ≡ posted (dids h) =
          subst (λ b. MatchBool b (IsPost item) ((h : List Line) → posted (dids (line_of item ∷ h)) ≡ posted (dids h))) w.if-is_post.false told in
          record { few = omega arith; some = omega (arith, same past, more, c.loop-left.invariant.some) }
    ]
