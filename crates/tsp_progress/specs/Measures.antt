-- What a port does at once with a stamp request, and with a stamp reply.
use Rattle.std.specs.Prelude.{◌≡◌, ℕ, ℤ, true, false, List, [], ◌∷◌, Some}
use Rattle.tsp_rules.specs.Values.{Act, Took, Post, Sample, Good, Stamp, Request, Reply, PeerId, Peer, Place, Master}
use Rattle.tsp_rules.specs.{Guards.is_heard, Guards.is_in_range, Guards.is_own, Guards.target_at, Guards.ticket_at, NodeRows.NodePast, RoundRows.request_at}
use Rattle.tsp_base.specs.Words.{Acts, HeaderValue, Line, Past, ReplyValue, Within, of, sample_diff, sample_err}
use Rattle.tsp_progress.specs.ByTable.{node_in, port_before}
use Rattle.tsp_progress.specs.Heeds.{DoesNext, role_before}

-- the answer to a stamp request: the clock's ticket and target, with the word and the counter of the request
abbrev pub stamp_reply : Place → ℕ → ℕ → ℕ → Past → Act
stamp_reply from word counter x past =
    Post from (Stamp (Reply (record { ticket = ticket_at x past; word = word; counter = counter; reading = target_at x past })))

-- the sample that a reply gives, whose request was posted when the clock's target was this
abbrev pub sample_by : PeerId → ReplyValue → ℤ → ℕ → Past → Act
sample_by p r asked x past = Sample p r.counter (sample_diff asked r.reading (target_at x past)) (sample_err asked (target_at x past)) r.ticket

pub record Measures (node : NodePast) (lines : List Line) : Type 0 where
  -- a request is answered, whoever sent it and whatever the port's role is, where the clock's target is in its range
  pub replies : (l : Line) (older : List Line) (from : Place) (word counter : ℕ) → Within (l ∷ older) lines →
      l.did.deed ≡ Acts (Took from (Good (Stamp (Request word counter)))) → is_own from l.did.tick (port_before node l older) ≡ false →
      is_in_range l.did.tick (port_before node l older) ≡ true →
      DoesNext (stamp_reply from word counter l.did.tick (port_before node l older) ∷ []) l older lines
  -- a master that takes a peer's reply to an open request of its round has a sample of it
  pub samples : (l : Line) (older : List Line) (p : PeerId) (r : ReplyValue) (asked : ℤ) → Within (l ∷ older) lines →
      l.did.deed ≡ Acts (Took (Peer p) (Good (Stamp (Reply r)))) → is_heard p l.did.tick (port_before node l older) ≡ true →
      is_own (Peer p) l.did.tick (port_before node l older) ≡ false → role_before node l older ≡ Master →
      request_at p r.counter l.did.tick (port_before node l older) ≡ Some (record { word = r.word; target = asked }) →
      DoesNext (sample_by p r asked l.did.tick (port_before node l older) ∷ []) l older lines

-- at each node
abbrev pub AllMeasure : HeaderValue → List Line → Type 0
AllMeasure header world = (n : ℕ) → Measures (node_in header n) (of n world)
