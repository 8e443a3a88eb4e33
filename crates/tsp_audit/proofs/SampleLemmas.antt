-- The Close of which a send came, its best sample of a node, and that sample's reading.
use Rattle.std.proofs.Common.{sym, ap, subst, ◌∙◌, arith, get_or, take, ◌≡◌, ◌≤◌, ◌+◌, ℕ, ℤ, List, [], ◌∷◌, length, MatchOption, Option, None, Some}
use Rattle.std.proofs.lemmas.List.{length-take}
use Rattle.tsp_rules.specs.Values.{Port}
use Rattle.tsp_base.specs.Words.{Came, Line, dids, of, view, all_corrects, lives, Within, Sampled, best, peer_of, posted}
use Rattle.tsp_base.proofs.PlaceLemmas.{Within_through}
use Rattle.tsp_promises.{proofs.shared.SendPlaces.posted_mono, proofs.shared.SendPlaces.posted_post, specs.Fits.node_of, specs.StepFacts.closed}
use Rattle.tsp_audit.specs.FromRounds.{BegunAt, HasNoRound, RoundAs, Rounds, TakesNone, TakesThen}
use Rattle.tsp_audit.specs.{declared.round_correction.RoundCorrection.RoundCorrection, Agreeing.FromRoundAs, Agreeing.IsFromNoRound}
use Rattle.tsp_audit.proofs.{FromRoundLemmas.begun_from_round, FromRoundLemmas.begun_none, FromRoundLemmas.lines_one, TakeLemmas.same_noted}
use Rattle.tsp_audit.proofs.{Alike.first_same, Alike.rest_same, Alike.some_same, Prefixes.history_within}
use Rattle.tsp_history.proofs.{HistoryLemmas.history_more, NoteLemmas.length_noted}
use Rattle.tsp_history.specs.{Histories.deed_of, Histories.history_of, Histories.line_of, Posts.PostsAt, declared.rounds.Best.Best}
use Rattle.tsp_history.specs.{Rounds.BestAt, Rounds.SeenAt, Rounds.TripsTell, declared.line.HistoryLine.HistoryLine}

-- the index of a line is how many stand before it
pub history_length : (ns : List HistoryLine) (i : ℕ) → i ≤ length ns → length (history_of (take i ns)) ≡ i
history_length ns i le = omega (arith, length_noted [] (take i ns), length-take i ns, le)

pub trips_before : (ns : List HistoryLine) (trips : List ℤ) (i : ℕ) → TripsTell (history_of ns) trips → TripsTell (history_of (take i ns)) trips
trips_before ns trips i tell = λ l before w. tell l before (Within_through (l ∷ before) (history_of (take i ns)) (history_of ns) w (history_within ns i))

pub reading_found : (ns : List HistoryLine) (l : Line) (k i : ℕ) (noted : HistoryLine) → l.did.step.cause ≡ Came k → PostsAt ns k i → get_or ns i noted ≡
    noted → TakesThen (history_of ns) l (get_or ns i noted).at
reading_found ns l k i noted cause p is =
    let same : p.noted ≡ get_or ns i noted = same_noted ns i p.noted noted p.below p.noted_is is ∙ sym is in
    record {
      post = line_of p.noted;
      older = history_of (take i ns);
      reads = p.within;
      takes = cause ∙ ap Came (sym p.number);
      to = p.to;
      datagram = p.datagram;
      deed = ap deed_of p.act;
      at_is = ap (λ (n : HistoryLine). n.at) (sym same);
    }

-- the Close of a round stands where its index says
close_there : (ns : List HistoryLine) (n : ℕ) (q : Port) (k i : ℕ) (world : List Line) (close : Line) (cpast : List Line) (r : Line) (older : List Line) (e : ℤ)
    → Within (history_of ns) world → (s : SeenAt ns n q (closed (view q (of n (history_of ns)))) i) →
    Rounds n q k (view q (of n (history_of ns))) world close cpast r older e → close ∷ cpast ≡ line_of s.noted ∷ history_of (take i ns)
close_there ns n q k i world close cpast r older e w s x =
    lines_one n q world close (line_of s.noted) cpast (history_of (take i ns)) x.close_node s.node x.close_port s.port x.closes
    (Within_through (line_of s.noted ∷ history_of (take i ns)) (history_of ns) world s.at.within w) (sym x.close_is ∙ s.is)

pub sample_none : (ns : List HistoryLine) (n : ℕ) (q : Port) (k i : ℕ) → SeenAt ns n q (closed (view q (of n (history_of ns)))) i →
    best (peer_of k) (view q (of n (history_of (take i ns)))) ≡ None → HasNoRound n q k (history_of ns)
sample_none ns n q k i s none = λ world close cpast r older e w x.
    let there : close ∷ cpast ≡ line_of s.noted ∷ history_of (take i ns) = close_there ns n q k i world close cpast r older e w s x in
    let past : cpast ≡ history_of (take i ns) = rest_same there in
    let both : Some x.sample ≡ None = sym x.best_is ∙ (ap (λ (t : List Line). best (peer_of k) (view q (of n t))) past ∙ none) in
    let bad : ⊥ = cc in
    bad

pub reading_none : (ns : List HistoryLine) (n : ℕ) (q : Port) (k i : ℕ) (b : Best) (noted : HistoryLine) →
    SeenAt ns n q (closed (view q (of n (history_of ns)))) i → BestAt (take i ns) n q (best (peer_of k) (view q (of n (history_of (take i ns))))) b →
    get_or (take i ns) b.index noted ≡ noted → TakesNone (history_of (take b.index (take i ns))) (line_of noted) → HasNoRound n q k (history_of ns)
reading_none ns n q k i b noted s best_is is none = λ world close cpast r older e w x.
    let there : close ∷ cpast ≡ line_of s.noted ∷ history_of (take i ns) = close_there ns n q k i world close cpast r older e w s x in
    let past : cpast ≡ history_of (take i ns) = rest_same there in
    let both : Some x.sample ≡ Some best_is.sampled = sym x.best_is ∙ (ap (λ (t : List Line). best (peer_of k) (view q (of n t))) past ∙ best_is.is) in
    let sample : x.sample ≡ best_is.sampled = some_same both in
    let p = best_is.place in
    let here : Within (line_of p.noted ∷ history_of (take b.index (take i ns))) world =
    Within_through (line_of p.noted ∷ history_of (take b.index (take i ns))) (history_of (take i ns)) world p.at.within
    (Within_through (history_of (take i ns)) (history_of ns) world (history_within ns i) w) in
    let line_is : x.reading.line ∷ x.reading.before ≡ line_of p.noted ∷ history_of (take b.index (take i ns)) =
    lines_one n q world x.reading.line (line_of p.noted) x.reading.before (history_of (take b.index (take i ns))) x.reading.node p.node x.reading.port p.port
    x.reading.at here (sym x.reading.is ∙ (ap (λ (y : Sampled). y.place) sample ∙ p.is)) in
    let line : x.reading.line ≡ line_of p.noted = first_same line_is in
    let before : x.reading.before ≡ history_of (take b.index (take i ns)) = rest_same line_is in
    let same : p.noted ≡ noted = same_noted (take i ns) b.index p.noted noted p.at.below p.at.noted_is is in
    let cause : (line_of noted).did.step.cause ≡ Came (posted (dids older)) = ap (λ (l : Line). l.did.step.cause) (sym (line ∙ ap line_of same)) ∙
    x.reading.takes in
    let few : posted (dids (history_of (take b.index (take i ns)))) ≤ posted (dids older) = none (posted (dids older)) cause in
    let reads : Within (r ∷ older) (history_of (take b.index (take i ns))) = subst (λ (t : List Line). Within (r ∷ older) t) before x.reading.reads in
    omega (
      arith,
      few,
      posted_mono (r ∷ older) (history_of (take b.index (take i ns))) reads,
      posted_post r older x.reading.to x.reading.datagram x.reading.deed,
    )

pub round_found : (ns : List HistoryLine) (n : ℕ) (q : Port) (k i : ℕ) (b : Best) (noted : HistoryLine) (c : RoundCorrection) →
    SeenAt ns n q (closed (view q (of n (history_of ns)))) i → BestAt (take i ns) n q (best (peer_of k) (view q (of n (history_of (take i ns))))) b →
    get_or (take i ns) b.index noted ≡ noted → TakesThen (history_of (take b.index (take i ns))) (line_of noted) c.at → c.master ≡ n → c.close ≡ i → c.err ≡
    b.err →
    c.lives ≡ lives (dids (of n (history_of (take (i + 1) ns)))) → c.corrects ≡ all_corrects (dids (of n (history_of (take (i + 1) ns)))) →
    RoundAs n q k (history_of ns) c
round_found ns n q k i b noted c s best_is is t master_is close_is err_is lives_is corrects_is =
    let p = best_is.place in
    let same : noted ≡ p.noted = same_noted (take i ns) b.index noted p.noted p.at.below is p.at.noted_is in
    let more : history_of (take (i + 1) ns) ≡ line_of s.noted ∷ history_of (take i ns) = history_more ns i s.noted s.at.below s.at.noted_is in
    record {
      close = line_of s.noted;
      cpast = history_of (take i ns);
      reading = t.post;
      older = t.older;
      rounds = record {
        closes = s.at.within;
        close_node = s.node;
        close_port = s.port;
        close_is = s.is;
        sample = best_is.sampled;
        best_is = best_is.is;
        err_is = best_is.err_is ∙ sym err_is;
        reading = record {
          line = line_of p.noted;
          before = history_of (take b.index (take i ns));
          at = Within_through (line_of p.noted ∷ history_of (take b.index (take i ns))) (history_of (take i ns)) (history_of ns) p.at.within
              (history_within ns i);
          node = p.node;
          port = p.port;
          is = p.is;
          reads = t.reads;
          takes = subst (λ (m : HistoryLine). (line_of m).did.step.cause ≡ Came (posted (dids t.older))) same t.takes;
          to = t.to;
          datagram = t.datagram;
          deed = t.deed;
        };
      };
      master_is = master_is;
      at_is = t.at_is;
      close_is = close_is ∙ sym (history_length ns i (omega (arith, s.at.below)));
      lives_is = lives_is ∙ ap (λ (h : List Line). lives (dids (of n h))) more;
      corrects_is = corrects_is ∙ ap (λ (h : List Line). all_corrects (dids (of n h))) more;
    }

-- what a Correct came of, by the first post of the send that it takes
pub from_round_told : (ns : List HistoryLine) (l : Line) (i : ℕ) (noted : HistoryLine) (o : Option RoundCorrection) → BegunAt ns l i → get_or ns i noted ≡
    noted → MatchOption o (HasNoRound noted.node noted.port (node_of l) (history_of (take i ns)))
    (λ c. RoundAs noted.node noted.port (node_of l) (history_of (take i ns)) c) →
    MatchOption o (IsFromNoRound l (history_of ns)) (λ c. FromRoundAs l (history_of ns) c)
from_round_told ns l i noted None x is none =
    let same : noted ≡ x.noted = same_noted ns i noted x.noted x.at.below is x.at.noted_is in
    begun_none ns l i x (subst (λ (m : HistoryLine). HasNoRound m.node m.port (node_of l) (history_of (take i ns))) same none)
from_round_told ns l i noted (Some c) x is r =
    let same : noted ≡ x.noted = same_noted ns i noted x.noted x.at.below is x.at.noted_is in
    begun_from_round ns l i c x (subst (λ (m : HistoryLine). RoundAs m.node m.port (node_of l) (history_of (take i ns)) c) same r)
