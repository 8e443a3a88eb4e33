-- What a port does at once with a stamp request, and with a stamp reply, by the table.
use Rattle.std.proofs.Common.{sym, subst, ◌≡◌, ℕ, ℤ, ◌==◌, true, false, List, [], ◌∷◌, Some, eq-eqb, refl}
use Rattle.tsp_rules.specs.Values.{Act, Took, Good, Stamp, Request, Reply, PeerId, Peer, Place, Stranger, Master, Taken}
use Rattle.tsp_base.specs.Words.{Acts, HeaderValue, Line, ReplyValue, Within, either_by, joined, line_of, of, placed, puts, reading}
use Rattle.tsp_base.specs.Words.{◌followed_by◌}
use Rattle.tsp_rules.specs.Answers.{from_peer, handles, peer_replies, replies_in, takes}
use Rattle.tsp_rules.specs.{CommonRows.posts_reply, CommonRows.replies, Guards.is_heard, Guards.is_in_range, Guards.is_own}
use Rattle.tsp_rules.specs.{NodeRows.NodePast, RoundRows.request_at, RoundRows.samples, RoundRows.samples_request}
use Rattle.tsp_progress.specs.ByTable.{ByTable, KeepsTable, RowStands, TableAt, is_loop, node_in, port_before, taking_row}
use Rattle.tsp_progress.specs.{Heeds.DoesNext, Heeds.role_before}
use Rattle.tsp_progress.specs.Measures.{AllMeasure, Measures, sample_by, stamp_reply}

module _ (node : NodePast) (lines : List Line) (table : KeepsTable node lines) where
  -- what the table has after a taking comes next
  pub taken_next : (l : Line) (older : List Line) (from : Place) (t : Taken) → Within (l ∷ older) lines → l.did.deed ≡ Acts (Took from t) → is_loop t ≡ false →
      (acts : List Act) → taking_row node l older from t l.did.tick (port_before node l older) ≡ Took from t ∷ acts → DoesNext acts l older lines
  taken_next l older from t place took loop acts same =
      let stands : RowStands (taking_row node l older from t) node l older lines = subst (λ d. TableAt d node l older lines) took (table l older place) loop in
      let whole : Within (joined l.did.step l.did.tick (placed l.port (Took from t ∷ acts)) older) lines =
      subst (λ acts. Within (joined l.did.step l.did.tick (placed l.port acts) older) lines) same stands in
      subst (λ d. Within (joined l.did.step l.did.tick (placed l.port acts) (line_of l.did.step l.did.tick l.port d ∷ older)) lines) (sym took) whole

  reply_row : (l : Line) (older : List Line) (from : Place) (word counter : ℕ) → is_own from l.did.tick (port_before node l older) ≡ false →
      is_in_range l.did.tick (port_before node l older) ≡ true →
      taking_row node l older from (Good (Stamp (Request word counter))) l.did.tick (port_before node l older) ≡
      Took from (Good (Stamp (Request word counter))) ∷ stamp_reply from word counter l.did.tick (port_before node l older) ∷ []
  unfolding takes ◌followed_by◌ puts either_by handles replies posts_reply
  reply_row l older (Peer p) word counter own range = rw (own, range) refl
  reply_row l older Stranger word counter own range = rw range refl

  sample_row : (l : Line) (older : List Line) (p : PeerId) (r : ReplyValue) (asked : ℤ) → is_heard p l.did.tick (port_before node l older) ≡ true →
      is_own (Peer p) l.did.tick (port_before node l older) ≡ false → role_before node l older ≡ Master →
      request_at p r.counter l.did.tick (port_before node l older) ≡ Some (record { word = r.word; target = asked }) →
      taking_row node l older (Peer p) (Good (Stamp (Reply r))) l.did.tick (port_before node l older) ≡
      Took (Peer p) (Good (Stamp (Reply r))) ∷ sample_by p r asked l.did.tick (port_before node l older) ∷ []
  unfolding takes ◌followed_by◌ puts either_by handles from_peer peer_replies reading replies_in samples samples_request
  sample_row l older p r asked heard own is open_is = let same : (r.word == r.word) ≡ true = eq-eqb r.word r.word refl in
      rw (own, heard, is, open_is, same) refl

  pub measures : Measures node lines
  measures = record {
    replies = λ l older from word counter place took own range. taken_next l older from (Good (Stamp (Request word counter))) place took refl
        (stamp_reply from word counter l.did.tick (port_before node l older) ∷ []) (reply_row l older from word counter own range);
    samples = λ l older p r asked place took heard own is open_is. taken_next l older (Peer p) (Good (Stamp (Reply r))) place took refl
        (sample_by p r asked l.did.tick (port_before node l older) ∷ []) (sample_row l older p r asked heard own is open_is);
  }

-- wherever the table is kept
pub all_measure : (header : HeaderValue) (world : List Line) → ByTable header world → AllMeasure header world
all_measure header world table n = measures (node_in header n) (of n world) (table n)
