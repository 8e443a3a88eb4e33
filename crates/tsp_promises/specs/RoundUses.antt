-- That the promises of rounds and clocks aren't empty. Each history here fits and keeps the premises (Kept), if nothing
-- else is said.
use Rattle.std.specs.Prelude.{◌≡◌, ◌≢◌, ◌≤◌, ◌≤ℤ◌, ◌<ℤ◌, ℕ, ◌+◌, ◌*◌, ℤ, pos, ◌-ℤ◌, nat_abs, Bool, true, false, List, ◌∷◌, Some, length}
use Rattle.std.specs.List.{Contains}
use Rattle.tsp_rules.specs.Values.{Post, Close, Correct, Acked, Message, AdjTime, PeerId, Peer, MAXADJ}
use Rattle.tsp_base.specs.Words.{Acts, Did, Seen, Here, Line, dids, of, view, MessageValue, last_correct, lives, rest, rest_at, Within, Sampled, best}
use Rattle.tsp_base.specs.Words.{is_correction, open_to, peer_of}
use Rattle.tsp_promises.specs.{Chained.Hop, Chained.Hops, Chained.IsChain, Chained.last_hop, Chained.node_at, Kept.Example, Kept.Spot}
use Rattle.tsp_promises.specs.{Moderate.Agrees, Moderate.PeerAgrees, Moderate.PeerCorrects, Moderate.estimates_of, ClockAt.shown_at}
use Rattle.tsp_promises.specs.{FirstSet.SetBy, Fits.node_of, Steady.ReadTicks, Steady.ReadTimes, Steady.Unstepped, Steady.shown_width}
use Rattle.tsp_promises.specs.Throughout.{SinceClose, SinceCorrect, moved_since}
use Rattle.tsp_promises.specs.{Agreed.Unchanged, Agreed.UnchangedBut, OneError.FromReading, OneError.FromSlaveUp, OneError.Taking}
use Rattle.tsp_promises.specs.Estimates.{CloseBegins, Estimate, Moves}

-- an Acked that ends a correction's send
pub record Confirms (world : List Line) : Type 0 where
  pub acked : Spot world
  pub peer : PeerId
  pub deed : acked.line.did.deed ≡ Acts (Acked peer)
  pub first : Did
  pub older : List Seen
  pub is : open_to peer (view acked.line.port (of (node_of acked.line) acked.before)) ≡ Here first ∷ older
  pub message : MessageValue
  pub posts : first.deed ≡ Acts (Post (Peer peer) (Message message))
  pub kind : is_correction message.kind ≡ true

-- a history in which corrections are acknowledged, and a round corrects two followers; they are left alone since, and
-- so is its master
pub record OrdinaryUse : Type 0 where
  pub history : Example
  pub confirms : Confirms history.world
  pub master : ℕ
  pub one : Hop
  pub other : Hop
  pub one_close : one.close ≡ other.close
  pub one_past : one.cpast ≡ other.cpast
  pub hops : Hops master one history.world
  pub hops_other : Hops master other history.world
  pub apart : node_at one ≢ node_at other
  pub unchanged_but : UnchangedBut master one.close one.cpast history.world

-- a history in which a node follows by one port and leads by another: a Close of its master corrects it, and then a
-- Close of its own corrects a third node; all are left alone since
pub record Relays : Type 0 where
  pub history : Example
  pub gateway : ℕ
  pub master : ℕ
  pub first : Hop
  pub last : Hop
  pub corrected : Hops master first history.world
  pub relayed : Hops gateway last history.world
  pub node : node_at first ≡ gateway
  pub ports : first.correct.port ≢ last.close.port
  pub before : Within (first.correct ∷ first.past) last.cpast
  pub unchanged_but : UnchangedBut master first.close first.cpast history.world

-- a history in which a master corrects a gateway, that one a second one, and that one a last node; all are left alone
-- since. The clocks at both ends of the row are bounded down the chain, and those of its last two nodes across two
-- chains of the one Close, and as those of a tree
pub record ChainUse : Type 0 where
  pub history : Example
  pub master : ℕ
  pub first : Hop
  pub rest : List Hop
  pub begins : Hops master first history.world
  pub chain : IsChain first rest history.world
  pub long : 2 ≤ length rest
  pub left_alone : UnchangedBut master first.close first.cpast history.world
  pub other : List Hop
  pub other_chain : IsChain first other history.world
  pub apart : node_at (last_hop first rest) ≢ node_at (last_hop first other)

-- a history in which a round corrects two nodes, and a later one of the same port, in one life, moves one of them and
-- its master again
pub record RoundsUse : Type 0 where
  pub history : Example
  pub master : ℕ
  pub mean : ℤ
  pub one : Hop
  pub since : SinceClose master one.close one.cpast mean one.correct one.past one.reading one.older one.err history.world
  -- another node of the first round
  pub other : Hop
  pub other_since : SinceCorrect master one.close one.cpast other.correct other.past other.reading other.older other.err history.world
  pub apart : node_at one ≢ node_at other
  -- the later Close
  pub again : Spot history.world
  pub later : Within (one.close ∷ one.cpast) again.before
  pub node : node_of again.line ≡ master
  pub port : again.line.port ≡ one.close.port
  pub count : ℕ
  pub lo : ℤ
  pub size : ℤ
  pub second : ℤ
  pub deed : again.line.did.deed ≡ Acts (Close count lo size second)
  pub one_life : lives (dids (of master one.cpast)) ≡ lives (dids (of master again.before))
  pub moves : moved_since (node_at one) (one.correct ∷ one.past) history.world ≢ pos 0
  pub master_moves : (moved_since master one.cpast history.world -ℤ mean) ≢ pos 0

-- a history in which a round has estimates of two nodes, which are left alone from their readings to its Close, and for
-- a while after it, as is the master
pub record EstimatesUse : Type 0 where
  pub history : Example
  pub master : ℕ
  pub one : ℕ
  pub other : ℕ
  pub apart : one ≢ other
  pub close : Line
  pub cpast : List Line
  pub mean : ℤ
  pub first : Spot history.world
  pub begins : CloseBegins master close cpast mean first.line first.before
  pub x : Sampled
  pub reading : Line
  pub older : List Line
  pub estimate : Estimate master one close cpast x reading older cpast
  pub y : Sampled
  pub reading_other : Line
  pub older_other : List Line
  pub estimate_other : Estimate master other close cpast y reading_other older_other cpast
  pub here : List Line
  pub here_in : Within here history.world
  pub first_here : Within (first.line ∷ first.before) here
  pub still : Estimate master one close cpast x reading older here
  pub left_alone : UnchangedBut master close cpast here

-- a history in which a Correct ends a round that begins no ADJTIME: it is the last line, right after the Close. The
-- round has an estimate of another node, which is left alone since its reading
pub record EndedUse : Type 0 where
  pub history : Example
  pub master : ℕ
  pub other : ℕ
  pub apart : master ≢ other
  pub close : Line
  pub correct : Line
  pub cpast : List Line
  pub ends : history.world ≡ correct ∷ (close ∷ cpast)
  pub amount : ℤ
  pub moved : amount ≢ pos 0
  pub moves : Moves master close correct amount
  pub sample : Sampled
  pub reading : Line
  pub older : List Line
  pub estimate : Estimate master other close cpast sample reading older history.world

-- a history in which a master and a peer agree in a round, and another peer's clock seems about a second off: the first
-- two are moved little, the last by about a second
pub record ModerateUse : Type 0 where
  pub history : Example
  pub master : ℕ
  pub near : ℕ
  pub far : ℕ
  pub close : Line
  pub cpast : List Line
  pub correct : Line
  pub amount : ℤ
  pub moves : Moves master close correct amount
  pub moved : Within (correct ∷ (close ∷ cpast)) history.world
  pub own : Agrees history.setting master close cpast (pos 0)
  pub peer : PeerAgrees history.setting master (peer_of near) close cpast
  -- who seems off to the master
  pub sample : Sampled
  pub best_is : best (peer_of far) (view close.port (of master cpast)) ≡ Some sample
  pub counted : Contains (estimates_of history.setting master close.port cpast) sample.diff
  pub off : pos 900000 ≤ℤ sample.diff
  -- the ADJTIME to the peer that agrees, and its Correct
  pub first : Spot history.world
  pub mean : ℤ
  pub begins : CloseBegins master close cpast mean first.line first.before
  pub begins_near : begins.peer ≡ peer_of near
  pub later : Within (correct ∷ (close ∷ cpast)) first.before
  pub taker : Spot history.world
  pub taker_node : node_of taker.line ≡ near
  pub taken : PeerCorrects history.setting taker.line taker.before
  pub of_round : taken.close ≡ close
  pub rested : rest_at (dids (of near taker.before)) taker.line.did.tick ≡ pos 0
  -- the Correct of the other one
  pub jump : Spot history.world
  pub jump_node : node_of jump.line ≡ far
  pub by : ℤ
  pub stepped : Bool
  pub shown : ℤ
  pub jumps : jump.line.did.deed ≡ Acts (Correct by stepped shown)
  pub much : 900000 ≤ nat_abs by
  -- both are left alone for a while
  pub here : List Line
  pub here_in : Within here history.world
  pub unchanged : Unchanged master (correct ∷ (close ∷ cpast)) here
  pub reading : Line
  pub older : List Line
  pub estimate : Estimate master near close cpast peer.sample reading older here

-- a history in which a Correct takes the SETTIME that answers a SLAVEUP, after which its node and the master are left
-- alone for a while; and another takes an ADJTIME that rests on a reading
pub record SetUse : Type 0 where
  pub history : Example
  pub master : ℕ
  pub correct : Line
  pub past : List Line
  pub here : List Line
  pub here_in : Within here history.world
  pub set : SetBy master correct past here
  pub slaveup : Line
  pub older : List Line
  pub answers : FromSlaveUp master correct past set.taking slaveup older
  pub later : Spot history.world
  pub taking : Taking master later.line later.before
  pub adjusts : taking.acts.brings.message.kind ≡ AdjTime
  pub close : Line
  pub cpast : List Line
  pub reading : Line
  pub rolder : List Line
  pub rests : FromReading master later.line later.before taking close cpast reading rolder

-- a history in which a node is read before and after a Correct that slews its clock, the second time when it has met
-- its target; and another node is read at the first time too, and then waits long enough
pub record ShownUse : Type 0 where
  pub history : Example
  pub node : ℕ
  pub place : List Line
  pub early : ℕ
  pub late : ℕ
  pub unstepped : Unstepped node place history.world
  pub read : ReadTicks node place history.world early late
  pub correct : Spot history.world
  pub after : Within place correct.before
  pub node_is : node_of correct.line ≡ node
  pub amount : ℤ
  pub value : ℤ
  pub slews : correct.line.did.deed ≡ Acts (Correct amount false value)
  pub left : rest (dids (of node (correct.line ∷ correct.before))) ≢ pos 0
  pub met : last_correct (dids (of node history.world)) + 200 * nat_abs (rest (dids (of node history.world))) ≤ late
  pub other : ℕ
  pub apart : other ≢ node
  pub at : ℕ
  pub wait : ℕ
  pub bound : ℤ
  pub reads : ReadTimes node place history.world at (at + wait)
  pub near : pos (nat_abs (shown_at history.setting other place at -ℤ shown_at history.setting node place at)) ≤ℤ bound
  pub enough : bound <ℤ (pos wait -ℤ pos (shown_width history.setting.drift wait))

-- a history in which a Correct of a small amount is stepped, since it sets the clock, and a later one of that life
-- slews it
pub record PrintsUse : Type 0 where
  pub history : Example
  pub correct : Spot history.world
  pub set : Spot correct.before
  pub back : ℤ
  pub shown_then : ℤ
  pub sets : set.line.did.deed ≡ Acts (Correct back true shown_then)
  pub small : nat_abs back ≤ MAXADJ
  pub node : node_of set.line ≡ node_of correct.line
  pub amount : ℤ
  pub shown_now : ℤ
  pub slews : correct.line.did.deed ≡ Acts (Correct amount false shown_now)
  pub moves : amount ≢ pos 0
  pub unstepped : Unstepped (node_of correct.line) (set.line ∷ set.before) (correct.line ∷ correct.before)
