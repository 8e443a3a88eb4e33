-- Places of small histories, and what rounds did there, where it is found by computing: `search arith` proves what
-- has to be computed.
use Rattle.std.proofs.lemmas.{Bool.ltb-true, Int.ints}
use Rattle.std.proofs.Common.{int_lt, nat_lt, ◌≤◌, ◌≤ℤ◌, sym, ap, subst, ◌∙◌, ◌≡◌, ◌-◌, true, ℕ, suc, ℤ, pos, List, ◌∷◌, Some, is_some, length, inr}
use Rattle.tsp_rules.specs.Values.{Post, Close, Correct, Datagram, Message, Stamp, AdjTime, PeerId, Peer, Place, Port, Stranger, Request}
use Rattle.tsp_base.specs.Words.{Came, Cause, Acts, acting, Deed, Line, Seen, Here, all_corrects, dids, from_act, lives, of, view, MessageValue, message_of}
use Rattle.tsp_base.specs.Words.{Within, Sampled, best, begun_to, is_numbered, heard, peer_of, posted}
use Rattle.tsp_promises.specs.{Agreed.FromRound, Agreed.ReadingOf, Agreed.Unchanged, Agreed.UnchangedBut, Fits.node_of, StepFacts.closed}
use Rattle.tsp_promises.specs.{Chained.Hop, Estimates.CloseBegins, Estimates.Estimate, Kept.Spot}
use Rattle.tsp_promises.proofs.witness.Debts.{behind, line_in, message_or, sample_in, shown_in, stepped_in}
use Rattle.tsp_promises.proofs.{witness.Histories.post_at, witness.Histories.skip, witness.Histories.skipped, witness.HistoriesFit.post_found}
pub use Rattle.std.proofs.Common.{arith}

-- a number that isn't as small as this one
pub too_many : (a b : ℕ) → nat_lt b a ≡ true → a ≤ b → ⊥
too_many a b e k = let less = ltb-true b a e in omega (arith, less, k)

pub too_far : (a b : ℤ) → int_lt b a ≡ true → a ≤ℤ b → ⊥
too_far a b e k = grind (arith, ints)

-- the line behind so many of the newest lines
abbrev pub spot : (k : ℕ) (h : List Line) → skip k h ≡ line_in (skip k h) ∷ behind (skip k h) → Spot h
spot k h e = record { line = line_in (skip k h); before = behind (skip k h); within = subst (λ z. Within z h) e (skipped k h) }

-- the place of what is left without the newest lines
pub placed : (x h : List Line) → skip (length h - length x) h ≡ x → Within x h
placed x h e = subst (λ z. Within z h) e (skipped (length h - length x) h)

pub untouched : {n : ℕ} {s h : List Line} → skip (length h - length s) h ≡ s →
    all_corrects (dids (of n s)) ≡ all_corrects (dids (of n h)) → lives (dids (of n s)) ≡ lives (dids (of n h)) → Unchanged n s h
untouched {s = s} {h = h} place corrects lives = record { within = placed s h place; since = record { corrects = corrects; lives = lives } }

abbrev amount_in : Deed → ℤ
amount_in (Acts (Correct amount stepped shown)) = amount
amount_in _ = pos 0

-- the last Correct of the master stands here, right after the Close
pub but_for : {m : ℕ} {close : Line} {cpast h : List Line} (s : Spot h) → from_act s.before ≡ close ∷ cpast → node_of s.line ≡ m →
    s.line.did.deed ≡ Acts (Correct (amount_in s.line.did.deed) (stepped_in s.line.did.deed) (shown_in s.line.did.deed)) →
    all_corrects (dids (of m (s.line ∷ s.before))) ≡ all_corrects (dids (of m h)) →
    lives (dids (of m (close ∷ cpast))) ≡ lives (dids (of m h)) → UnchangedBut m close cpast h
but_for s is node deed corrects lives = record {
  lives = lives;
  corrects = inr (record {
    next = s.line;
    before = s.before;
    is = is;
    amount = _;
    stepped = _;
    shown = _;
    place = s.within;
    node = node;
    deed = deed;
    corrects = corrects;
  });
}

abbrev place_in : Deed → Place
place_in (Acts (Post to datagram)) = to
place_in _ = Stranger

abbrev posted_in : Deed → Datagram
posted_in (Acts (Post to datagram)) = datagram
posted_in _ = Stamp (Request 0 0)

-- this Sample has the reading r
pub record Reads (m : ℕ) (q : Port) (place : List Seen) (line : Line) (before : List Line) (r : Line) (older : List Line) : Type 0 where
  pub node : node_of line ≡ m
  pub port : line.port ≡ q
  pub is : place ≡ Here line.did ∷ view q (of m before)
  pub reads : skip (length before - length (r ∷ older)) before ≡ r ∷ older
  pub takes : line.did.step.cause ≡ Came (posted (dids older))
  pub deed : r.did.deed ≡ Acts (Post (place_in r.did.deed) (posted_in r.did.deed))

pub reading_at : {m : ℕ} {q : Port} {place : List Seen} {h : List Line} {r : Line} {older : List Line} (s : Spot h) →
    Reads m q place s.line s.before r older → ReadingOf m q place h r older
reading_at {r = r} {older = older} s c = record {
  line = s.line;
  before = s.before;
  at = s.within;
  node = c.node;
  port = c.port;
  is = c.is;
  reads = placed (r ∷ older) s.before c.reads;
  takes = c.takes;
  to = _;
  datagram = _;
  deed = c.deed;
}

pub estimate_at : {m k : ℕ} {close : Line} {cpast : List Line} {x : Sampled} {r : Line} {older h : List Line} (s : Spot cpast) →
    Reads m close.port x.place s.line s.before r older → best (peer_of k) (view close.port (of m cpast)) ≡ Some x →
    all_corrects (dids (of k (r ∷ older))) ≡ all_corrects (dids (of k h)) → lives (dids (of k (r ∷ older))) ≡ lives (dids (of k h)) →
    Estimate m k close cpast x r older h
estimate_at s c best_is corrects lives = record {
  best_is = best_is;
  reading = reading_at s c;
  unchanged = record { corrects = corrects; lives = lives };
}

-- a Close begins its ADJTIME here
abbrev pub close_begins : {m count : ℕ} {close f : Line} {cpast fw : List Line} {lo size mean : ℤ} {peer : PeerId}
    {message : MessageValue} → close.did.deed ≡ Acts (Close count lo size mean) → node_of close ≡ m → Within (close ∷ cpast) fw →
    node_of f ≡ m → close.port ≡ f.port →
    f.did.deed ≡ Acts (Post (Peer peer) (Message message)) → message.kind ≡ AdjTime → acting (view f.port (of m fw)) ≡ true →
    closed (view f.port (of m fw)) ≡ Here close.did ∷ view f.port (of m cpast) → CloseBegins m close cpast mean f fw
close_begins deed node closes first_node port posts kind begins close_is = record {
  count = _;
  lo = _;
  size = _;
  deed = deed;
  node = node;
  closes = closes;
  first_node = first_node;
  port = port;
  peer = _;
  message = _;
  posts = posts;
  kind = kind;
  begins = begins;
  close_is = close_is;
}

-- a link whose Correct, Close and reading stand behind so many lines of a history
abbrev pub hop_in : List Line → ℕ → ℕ → ℕ → ℤ → Hop
hop_in h c close r err = record {
  close = line_in (skip close h);
  cpast = skip (suc close) h;
  correct = line_in (skip c h);
  past = skip (suc c) h;
  reading = line_in (skip r h);
  older = skip (suc r) h;
  err = err;
}

-- a Close of m corrects the link's node
abbrev pub Corrects : ℕ → Hop → Type 0
Corrects m x = FromRound m x.close x.cpast x.correct x.past x.reading x.older x.err

abbrev number_in : Cause → ℕ
number_in (Came k) = k
number_in _ = 0

-- the post that the link's Correct takes, and what was before it
abbrev taken_at : Hop → List Line
taken_at x = post_at (number_in x.correct.did.step.cause) x.past

-- the sample on which it rests
abbrev pub sample_of : ℕ → Hop → Sampled
sample_of m x = sample_in (best (peer_of (node_of x.correct)) (view (line_in (taken_at x)).port (of m x.cpast)))

-- that post is the first of its send, which the Close begins, by a sample that stands at this line
pub record Computes (m : ℕ) (x : Hop) (post : Line) (before : List Line) (message : MessageValue) (sample : Sampled) (line : Line)
    (past : List Line) : Type 0 where
  pub correct : x.correct.did.deed ≡ Acts
      (Correct (amount_in x.correct.did.deed) (stepped_in x.correct.did.deed) (shown_in x.correct.did.deed))
  pub cause : x.correct.did.step.cause ≡ Came (number_in x.correct.did.step.cause)
  pub found : taken_at x ≡ post ∷ before
  pub deed : post.did.deed ≡ Acts (Post (Peer (peer_of (node_of x.correct))) (Message message))
  pub took : is_some (heard (dids (of (node_of x.correct) x.past))) ≡ true
  pub node : node_of post ≡ m
  pub kind : message.kind ≡ AdjTime
  pub numbered : is_numbered message.kind ≡ true
  pub is : begun_to (peer_of (node_of x.correct)) (Here post.did ∷ view post.port (of (node_of post) before)) ≡ Here post.did ∷ view
      post.port (of m before)
  pub closes : skip (length x.past - length (x.close ∷ x.cpast)) x.past ≡ x.close ∷ x.cpast
  pub close_node : node_of x.close ≡ m
  pub close_port : x.close.port ≡ post.port
  pub close_is : closed (view post.port (of m before)) ≡ Here x.close.did ∷ view post.port (of m x.cpast)
  pub best_is : best (peer_of (node_of x.correct)) (view post.port (of m x.cpast)) ≡ Some sample
  pub err_is : sample.err ≡ x.err
  pub reads : Reads m post.port sample.place line past x.reading x.older

abbrev pub Computed : (m : ℕ) (x : Hop) → Spot x.past → Type 0
Computed m x s = Computes m x (line_in (taken_at x)) (behind (taken_at x)) (message_or (message_of (line_in (taken_at x)).did.deed))
    (sample_of m x) s.line s.before

abbrev pub corrects_at : {m : ℕ} (x : Hop) (s : Spot x.past) → Computed m x s → Corrects m x
corrects_at {m} x s c =
    let post = line_in (taken_at x) in
    let before = behind (taken_at x) in
    let message = message_or (message_of post.did.deed) in
    let f = post_found (number_in x.correct.did.step.cause) x.past post before c.found in
    record {
      post = post;
      before = before;
      acts = record {
        amount = _;
        stepped = _;
        shown = _;
        correct = c.correct;
        brings = record { place = f.place; cause = c.cause ∙ ap Came (sym f.number); message = message; deed = c.deed };
        took = c.took;
      };
      node = c.node;
      first = post.did;
      begun = view post.port (of m before);
      of_send = record { message = _; deed = c.deed; numbered = c.numbered; is = c.is };
      message = _;
      begins = c.deed;
      kind = c.kind;
      closes = placed (x.close ∷ x.cpast) x.past c.closes;
      close_node = c.close_node;
      close_port = c.close_port;
      close_is = c.close_is;
      sample = sample_of m x;
      best_is = c.best_is;
      err_is = c.err_is;
      reading = reading_at s c.reads;
    }
