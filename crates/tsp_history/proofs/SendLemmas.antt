-- How a port's own line is seen.
use Rattle.std.proofs.Common.{◌∙◌, ap, arith, sym, subst, ◌≡◌, ◌==◌, ◌||◌, ◌<◌, ◌+◌, ◌-◌, ℕ, Bool, true, if◌then◌else◌, List, ◌∷◌, length, get_or, take}
use Rattle.tsp_promises.specs.Fits.{node_of}
use Rattle.tsp_base.specs.Words.{Line, Here, Seen, dids, of, view, seen_as, is_shared, posted, posted_after}
use Rattle.tsp_base.{proofs.ViewPlaces.sees_own, specs.declared.place.Port.Port}
use Rattle.tsp_history.specs.{Changes.BeginsOn, Histories.deed_of, Histories.history_of, Histories.line_of, Notes.Told, Posts.IsPost}
use Rattle.tsp_history.specs.{PostedPlaces.PostedAt, declared.line.HistoryLine.HistoryLine}
use Rattle.tsp_history.proofs.{HistoryLemmas.Within_noted, NoteLemmas.begins_port, SpacingLemmas.of_own}

-- a port's own line, as it sees it
pub view_here : (n : ℕ) (q : Port) (l : Line) (h : List Line) → node_of l ≡ n → l.port ≡ q → view q (of n (l ∷ h)) ≡ (Here l.did ∷ view q (of n h))
view_here n q l h node port =
    let sees : ((l.port.0 == q.0) || is_shared l.did.deed) ≡ true = subst (λ (r : Port). ((r.0 == q.0) || is_shared l.did.deed) ≡
    true) (sym port) (sees_own q (is_shared l.did.deed)) in
    ap (view q) (of_own n l h node) ∙ ap (λ b. seen_as b l.did ∷ view q (of n h)) sees

-- a send that a line of the port begins is told by the number of what it posts
pub sent_here : (ns : List HistoryLine) (n : ℕ) (q : Port) (j : ℕ) (l : HistoryLine) (begins : Bool) (was seen : List Seen) → j < length ns → get_or ns j l ≡
    l → BeginsOn l n q → IsPost l → Told ns → begins ≡ true →
    seen ≡ (if begins then Here (line_of l).did ∷ view q (of n (history_of (take j ns))) else was) → PostedAt n q (history_of ns) seen (l.note.posted - 1)
sent_here ns n q j l begins was seen below is on post told acts place =
    let past : List Line = history_of (take j ns) in
    let one : posted (dids (line_of l ∷ past)) ≡ posted (dids past) + 1 = ap (λ a. posted_after (deed_of a) (posted (dids past))) post.act in
    let note : l.note.posted ≡ posted (dids (line_of l ∷ past)) = (told.at j l below is).posted_is in
    record {
      line = line_of l;
      before = past;
      within = Within_noted ns j l below is;
      node = on.node;
      port = begins_port l n q on;
      is = place ∙ ap (λ (b : Bool). if b then Here (line_of l).did ∷ view q (of n past) else was) acts;
      to = post.to;
      datagram = post.datagram;
      deed = ap deed_of post.act;
      number = omega (arith, one, note);
    }
