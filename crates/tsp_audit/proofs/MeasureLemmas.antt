-- Measurements: what a step reads of a peer's clock, and the exchange that a Sample ends.
use Rattle.std.proofs.Common.{sym, ap, subst, subst₂, ◌∙◌, get_or, take, ◌≡◌, ◌+◌, ℕ, ℤ, ◌-ℤ◌, Bool, true, false, List, ◌∷◌, MatchBool}
use Rattle.tsp_rules.specs.Values.{Sample, Stamp, PeerId, Peer, Reply}
use Rattle.tsp_base.specs.Words.{HeaderValue, Acts, Did, Here, Line, Seen, dids, of, plain, view, target, exchange, is_going, half_up, peer_of, posted}
use Rattle.tsp_promises.{proofs.shared.EverywhereLemmas.Everywhere_at, proofs.shared.EverywhereLemmas.Everywhere_from, specs.Everywhere.Everywhere}
use Rattle.tsp_promises.specs.{Measured.MeasuredAt, Measured.ReadBy, Measured.TripAt, Measured.TripOf, ClockAt.clock, ClockAt.clock_at}
use Rattle.tsp_promises.{proofs.shared.SendPlaces.post_unique, proofs.shared.SendPlaces.same_number, specs.Setting.Setting, specs.Fits.node_of}
use Rattle.tsp_base.proofs.Views.{plain_view}
use Rattle.tsp_audit.specs.{Acting.CameAt, Acting.IsUnposted, Parts.MeasuresWell, Settings.HasClocks, Settings.clock_in}
use Rattle.tsp_audit.specs.Measuring.{IsWithinError, MeasuresAt, Replies, RepliesAt, RepliesTo}
use Rattle.tsp_history.proofs.HistoryLemmas.{history_more}
use Rattle.tsp_audit.proofs.TakeLemmas.{came_cause, came_there, came_within, clock_set, same_noted, unposted}
use Rattle.tsp_history.specs.{Histories.history_of, Histories.line_of, Rounds.AskedAt, declared.line.HistoryLine.HistoryLine}
use Rattle.tsp_audit.proofs.Alike.{first_same, here_same, rest_same, sample_same}

-- no reply comes that was never posted
pub replies_none : (l : Line) (h : List Line) (p : PeerId) → IsUnposted l h → (post : Line) (older : List Line) → Replies l h p post older → ⊥
replies_none l h p u post older r = unposted l h u post older (Peer (peer_of (node_of l))) (Stamp (Reply r.posts.reply)) r.place r.takes r.posts.deed

pub replies_other : (ns : List HistoryLine) (l : Line) (p : PeerId) (i : ℕ) (noted : HistoryLine) → CameAt ns l i → get_or ns i noted ≡ noted →
    (RepliesTo (line_of noted) p (node_of l) → ⊥) →
    (post : Line) (older : List Line) → Replies l (history_of ns) p post older → ⊥
replies_other ns l p i noted came is bad post older r =
    let place : post ∷ older ≡ line_of noted ∷ history_of (take i ns) = came_there ns l i noted came is post older (Peer (peer_of (node_of l)))
    (Stamp (Reply r.posts.reply)) r.place r.takes r.posts.deed in
    let line : post ≡ line_of noted = first_same place in
    bad (subst (λ (m : Line). RepliesTo m p (node_of l)) line r.posts)

pub replies_found : (ns : List HistoryLine) (l : Line) (p : PeerId) (i : ℕ) (noted : HistoryLine) → CameAt ns l i → get_or ns i noted ≡ noted →
    RepliesTo (line_of noted) p (node_of l) → RepliesAt ns l p i
replies_found ns l p i noted came is posts = record {
  below = came.posts.below;
  replies = λ other at.
      let mine : noted ≡ other = same_noted ns i noted other came.posts.below is at in
      record {
        place = came_within ns l i came other at;
        takes = came_cause ns l i came;
        posts = subst (λ (n : HistoryLine). RepliesTo (line_of n) p (node_of l)) mine posts;
      };
}

-- the step of a line takes one reply
replies_one : (l : Line) (h : List Line) (p : PeerId) (post other : Line) (older rest : List Line) → Replies l h p post older → Replies l h p other rest →
    post ∷ older ≡ other ∷ rest
replies_one l h p post other older rest a b =
    post_unique h post other older rest (Peer (peer_of (node_of l))) (Peer (peer_of (node_of l))) (Stamp (Reply a.posts.reply)) (Stamp (Reply b.posts.reply))
    a.place b.place a.posts.deed b.posts.deed
    (same_number (posted (dids older)) (posted (dids rest)) (sym a.takes ∙ b.takes))

-- a reading is a reply that was taken
read_replies : (setting : Setting) (l : Line) (h : List Line) (p : PeerId) (diff err : ℤ) → (r : ReadBy setting l h p diff err) → Replies l h p r.post r.older
read_replies setting l h p diff err r = record { place = r.place; takes = r.takes; posts = record { from = r.from; reply = r.reply; deed = r.deed } }

-- a reply that was taken is a reading where the clocks stand as the Sample says
read_from : (setting : Setting) (l : Line) (h : List Line) (p : PeerId) (diff err : ℤ) (post : Line) (older : List Line) → Replies l h p post older →
    IsWithinError diff err (clock setting p.0 (post ∷ older)) (clock setting (node_of l) (post ∷ older)) → ReadBy setting l h p diff err
read_from setting l h p diff err post older r near = record {
  post = post;
  older = older;
  place = r.place;
  takes = r.takes;
  from = r.posts.from;
  reply = r.posts.reply;
  deed = r.posts.deed;
  near = near;
}

pub read_none : (setting : Setting) (l : Line) (h : List Line) (p : PeerId) (diff err : ℤ) → ((post : Line) (older : List Line) → Replies l h p post older →
    ⊥) → ReadBy setting l h p diff err → ⊥
read_none setting l h p diff err bad r = bad r.post r.older (read_replies setting l h p diff err r)

pub read_decides : (header : HeaderValue) (setting : Setting) (ns : List HistoryLine) (l : Line) (p : PeerId) (i : ℕ) (noted : HistoryLine) (b : Bool)
    (diff err ahead own : ℤ) → HasClocks header setting → RepliesAt ns l p i → get_or ns i noted ≡ noted →
    ahead ≡ clock_in header p.0 (history_of (take (i + 1) ns)) noted.at → own ≡ clock_in header (node_of l) (history_of (take (i + 1) ns)) noted.at →
    MatchBool b (IsWithinError diff err ahead own) (IsWithinError diff err ahead own → ⊥) →
    MatchBool b (ReadBy setting l (history_of ns) p diff err) (ReadBy setting l (history_of ns) p diff err → ⊥)
read_decides header setting ns l p i noted b diff err ahead own has at is ahead_is own_is m = by_case b m where
  then_is : (n : ℕ) (z : ℤ) → z ≡ clock_in header n (history_of (take (i + 1) ns)) noted.at → z ≡ clock setting n (line_of noted ∷ history_of (take i ns))
  then_is n z e = e ∙ (clock_set header setting n (history_of (take (i + 1) ns)) noted.at has ∙
      ap (λ (h : List Line). clock_at setting n h noted.at) (history_more ns i noted at.below is))

  by_case : (b : Bool) → MatchBool b (IsWithinError diff err ahead own) (IsWithinError diff err ahead own → ⊥) →
      MatchBool b (ReadBy setting l (history_of ns) p diff err) (ReadBy setting l (history_of ns) p diff err → ⊥)
  by_case true near =
      read_from setting l (history_of ns) p diff err (line_of noted) (history_of (take i ns)) (at.replies noted is)
      (subst₂ (λ (a o : ℤ). IsWithinError diff err a o) (then_is p.0 ahead ahead_is) (then_is (node_of l) own own_is) near)
  by_case false far = λ r.
      let place : r.post ∷ r.older ≡ line_of noted ∷ history_of (take i ns) = replies_one l (history_of ns) p r.post (line_of noted) r.older
      (history_of (take i ns)) (read_replies setting l (history_of ns) p diff err r) (at.replies noted is) in
      let near : IsWithinError diff err (clock setting p.0 (line_of noted ∷ history_of (take i ns))) (clock setting (node_of l) (line_of noted ∷
      history_of (take i ns))) =
      subst (λ (h : List Line). IsWithinError diff err (clock setting p.0 h) (clock setting (node_of l) h)) place r.near in
      far (subst₂ (λ (a o : ℤ). IsWithinError diff err a o) (sym (then_is p.0 ahead ahead_is)) (sym (then_is (node_of l) own own_is)) near)

pub measured_line : (setting : Setting) (l : Line) (h : List Line) (p : PeerId) (counter : ℕ) (diff err : ℤ) (number : ℕ) (b : Bool) → l.did.deed ≡
    Acts (Sample p counter diff err number) →
    MatchBool b (ReadBy setting l h p diff err) (ReadBy setting l h p diff err → ⊥) → MatchBool b (MeasuredAt setting l h) (MeasuredAt setting l h → ⊥)
measured_line setting l h p counter diff err number true deed good = λ q c d e n told.
    let deeds : Acts (Sample p counter diff err number) ≡ Acts (Sample q c d e n) = sym deed ∙ told in
    let who : p ≡ q = (sample_same deeds).0 in
    let far : diff ≡ d = (sample_same deeds).2 in
    let most : err ≡ e = (sample_same deeds).3 in
    subst (λ (x : PeerId). ReadBy setting l h x d e) who (subst₂ (λ (x y : ℤ). ReadBy setting l h p x y) far most good)
measured_line setting l h p counter diff err number false deed bad = λ f. bad (f p counter diff err number deed)

pub trip-decides : (l : Line) (h : List Line) (p : PeerId) (counter : ℕ) (err start now : ℤ) (b : Bool) → is_going (view l.port (of (node_of l) h)) ≡ true →
    AskedAt (exchange p counter (view l.port (of (node_of l) h))) start →
    now ≡ target (dids (of (node_of l) h)) l.did.tick → MatchBool b (err ≡ half_up (now -ℤ start)) (err ≡ half_up (now -ℤ start) → ⊥) →
    MatchBool b (TripOf l (view l.port (of (node_of l) h)) p counter err) (TripOf l (view l.port (of (node_of l) h)) p counter err → ⊥)
trip-decides l h p counter err start now b going asked now_is m = by_case b m where
  ends : target (plain (view l.port (of (node_of l) h))) l.did.tick ≡ now
  ends = ap (λ ds. target ds l.did.tick) (plain_view l.port (of (node_of l) h)) ∙ sym now_is

  by_case : (b : Bool) → MatchBool b (err ≡ half_up (now -ℤ start)) (err ≡ half_up (now -ℤ start) → ⊥) →
      MatchBool b (TripOf l (view l.port (of (node_of l) h)) p counter err) (TripOf l (view l.port (of (node_of l) h)) p counter err → ⊥)
  by_case true e = record {
    request = asked.request;
    older = asked.older;
    going = going;
    exchange_is = asked.is;
    err_is = subst₂ (λ (x y : ℤ). err ≡ half_up (x -ℤ y)) (sym ends) asked.target_is e;
  }
  by_case false bad = λ t.
      let places : Here asked.request ∷ asked.older ≡ Here t.request ∷ t.older = sym asked.is ∙ t.exchange_is in
      let request : asked.request ≡ t.request = here_same places in
      let rest : asked.older ≡ t.older = rest_same places in
      let begins : target (plain t.older) t.request.tick ≡ start = subst₂ (λ (r : Did) (o : List Seen). target (plain o) r.tick ≡
      start) request rest (sym asked.target_is) in
      bad (subst₂ (λ (x y : ℤ). err ≡ half_up (x -ℤ y)) ends begins t.err_is)

pub trip-line : (l : Line) (h : List Line) (p : PeerId) (counter : ℕ) (diff err : ℤ) (number : ℕ) (b : Bool) → l.did.deed ≡
    Acts (Sample p counter diff err number) →
    MatchBool b (TripOf l (view l.port (of (node_of l) h)) p counter err) (TripOf l (view l.port (of (node_of l) h)) p counter err → ⊥) →
    MatchBool b (TripAt l h) (TripAt l h → ⊥)
trip-line l h p counter diff err number true deed good = λ q c d e n told.
    let deeds : Acts (Sample p counter diff err number) ≡ Acts (Sample q c d e n) = sym deed ∙ told in
    let who : p ≡ q = (sample_same deeds).0 in
    let under : counter ≡ c = (sample_same deeds).1 in
    let half : err ≡ e = (sample_same deeds).3 in
    subst (λ (x : PeerId). TripOf l (view l.port (of (node_of l) h)) x c e) who (subst₂ (λ (x : ℕ) (y : ℤ). TripOf l (view l.port (of (node_of l) h)) p x y)
    under half good)
trip-line l h p counter diff err number false deed bad = λ f. bad (f p counter diff err number deed)

pub measures_decide : (setting : Setting) (l : Line) (h : List Line) (b : Bool) → TripAt l h → MatchBool b (MeasuredAt setting l h) (MeasuredAt setting l h →
    ⊥) → MatchBool b (MeasuresAt setting l h) (MeasuresAt setting l h → ⊥)
measures_decide setting l h true trip m = record { measured = m; trip = trip }
measures_decide setting l h false trip m = λ a. m a.measured

pub measures_all : (setting : Setting) (h : List Line) → MeasuresWell setting h → Everywhere (MeasuresAt setting) h
measures_all setting h m = Everywhere_from (MeasuresAt setting) h (λ l s w. record {
  measured = Everywhere_at (MeasuredAt setting) l s h m.measured w;
  trip = Everywhere_at TripAt l s h m.trips w;
})

pub measures_part : (setting : Setting) (h : List Line) → Everywhere (MeasuresAt setting) h → MeasuresWell setting h
measures_part setting h e = record {
  measured = Everywhere_from (MeasuredAt setting) h (λ l s w. (Everywhere_at (MeasuresAt setting) l s h e w).measured);
  trips = Everywhere_from TripAt h (λ l s w. (Everywhere_at (MeasuresAt setting) l s h e w).trip);
}

-- what is asked only where two things are
pub if_both : (b first second : Bool) (P Q : Type 0) → first ≡ true → second ≡ true → (Q → MatchBool b P (P → ⊥)) → (first ≡ true → second ≡ true → Q) →
    MatchBool b (first ≡ true → second ≡ true → P) ((first ≡ true → second ≡ true → P) → ⊥)
if_both true first second P Q e f m old = λ x y. m (old e f)
if_both false first second P Q e f m old = λ g. m (old e f) (g e f)
