-- Elections and answers: rivals that meet, strict elections, a candidate that asks three times, and answers to
-- strangers.
use Rattle.std.proofs.Common.{pos, sym, ap, arith, ℕ, ◌≡◌, true, false, List, [], ◌∷◌, refl}
use Rattle.tsp_rules.specs.Values.{Stamp, Msite, Request, Reply, Post, Become, Ring, Back, Backer, Quit, Acked, Elect, ResolveAlarm, Message, Accept, Ack}
use Rattle.tsp_rules.specs.Values.{Election, QuitKind, Test, Nothing, PeerId, Peer, Stranger, Follow, Candidate}
use Rattle.tsp_base.specs.Words.{ReplyValue, Turned, Line, MessageValue, of, view, peer_of}
use Rattle.tsp_promises.proofs.witness.Histories.{line, msg, named_msg, skip, skipped, step_at, still}
use Rattle.tsp_promises.proofs.witness.HistoriesFit.{Stage, after, at, stages_fit, hands, ◌also◌, boots, turns, takes, stands, wins, acked}
use Rattle.tsp_promises.specs.{Fits.Fits, Uses.AnsweredUse, Uses.QuietUse, Uses.RivalsMeet, Uses.StrictElections, Uses.ThriceUse}
use Rattle.tsp_promises.proofs.{witness.PremiseChecks.few_by, witness.PremiseChecks.kept_by, witness.StepChecks.port0, witness.WitnessUse.booted}
use Rattle.tsp_promises.proofs.{witness.WitnessUse.lead}
use Rattle.tsp_promises.proofs.{witness.Debts.debts, witness.Debts.not_same, witness.Spots.spot}

-- an election, two backings a hold apart, a resolution, and a second election
abbrev rivals_steps : List Stage
rivals_steps =
    boots 0 0 7 ∷
    boots 0 1 9 ∷
    turns (at 300000000 0 0) (Ring Elect ∷ Become Candidate ∷ Back (peer_of 0) ∷ Post (Peer (peer_of 1)) (Message (msg Election 32775 Nothing)) ∷ []) ∷
    takes (at 300000001 1 0) 0 0 (Message (msg Election 32775 Nothing)) (Back (peer_of 0) ∷ Post (Peer (peer_of 0)) (Message (msg Accept 32775 Nothing)) ∷ []) ∷
    wins (at 305000000 0 0) ∷
    stands (at 360000001 1 0) ∷
    wins (at 365000001 1 0) ∷
    turns (at 400000000 0 0) (Ring ResolveAlarm ∷ Post (Peer (peer_of 1)) (Message (msg QuitKind 32776 Nothing)) ∷ []) ∷
    takes (at 400000001 1 0) 2 0 (Message (msg QuitKind 32776 Nothing)) (Quit (peer_of 0) ∷ Post (Peer (peer_of 0)) (Message (msg Ack 32776 Nothing)) ∷
    Become (Follow (peer_of 0)) ∷ []) ∷
    acked (at 400000500 0 0) 3 1 32776 ∷
    stands (at 710000000 1 0) ∷
    wins (at 715000000 1 0) ∷
    []

-- the history after so many steps
abbrev rivals : ℕ → List Line
rivals k = after k rivals_steps []

met : Fits (still false) (rivals 12)
met = stages_fit false 12 rivals_steps [] tt refl (search debts)

-- rivals meet: (rivals 9) ends with Follow, ACK, Quit, Took and the mark, and (rivals 8) with QUIT, Ring and the mark
pub rivals_meet : RivalsMeet
rivals_meet = record {
  history = kept_by false (rivals 12) met refl refl refl refl;
  ring = spot 16 (rivals 12) refl;
  rings = refl;
  rival = spot 12 (rivals 12) refl;
  takes = record {
    quits = refl;
    post = line (step_at 400000000 0 Turned) port0 (Post (Peer (peer_of 1)) (Message (msg QuitKind 32776 Nothing)));
    older = skip 1 (rivals 8);
    place = skipped 2 (skip 3 (rivals 9));
    takes = refl;
    node = refl;
    first = (line (step_at 400000000 0 Turned) port0 (Post (Peer (peer_of 1)) (Message (msg QuitKind 32776 Nothing)))).did;
    begun = view port0 (of 0 (skip 1 (rivals 8)));
    of_send = record { message = msg QuitKind 32776 Nothing; deed = refl; numbered = refl; is = refl };
    message = msg QuitKind 32776 Nothing;
    deed = refl;
    kind = refl;
    step = refl;
  };
  mark = spot 9 (rivals 12) refl;
  begins = refl;
  as_master = refl;
  last = refl;
  later = spot 21 (rivals 12) refl;
  earlier = spot 7 (skip 22 (rivals 12)) refl;
  node = refl;
  port = refl;
  again = spot 0 (rivals 12) refl;
  leads = refl;
  again_node = refl;
  again_port = refl;
  again_after = skipped 11 (skip 1 (rivals 12));
  one = peer_of 0;
  other = peer_of 1;
  backs_one = refl;
  backs_other = refl;
  apart = λ e. (let k : 0 ≡ 1 = ap (λ (p : PeerId). p.0) e in omega arith);
}

-- and then a stranger asks the one that leads for an election
abbrev tested_steps : List Stage
tested_steps =
    hands (at 716000000 1 0) Stranger (Message (msg Test 5 Nothing)) (Post Stranger (Message (named_msg 1 Ack 5 Nothing)) ∷ []) ∷
    []

pub answered_use : AnsweredUse
answered_use = record {
  history = kept_by false (after 1 tested_steps (rivals 12)) (stages_fit false 1 tested_steps (rivals 12) met refl (search debts)) refl refl refl refl;
  quit = spot 15 (after 1 tested_steps (rivals 12)) refl;
  from = peer_of 0;
  quits = refl;
  reply = spot 14 (after 1 tested_steps (rivals 12)) refl;
  to = peer_of 0;
  answer = Message (msg Ack 32776 Nothing);
  replies = refl;
  answers = refl;
  post = spot 0 (after 1 tested_steps (rivals 12)) refl;
  datagram = Message (named_msg 1 Ack 5 Nothing);
  posts = refl;
}

-- a node wins with the vote of a second one, and later the second wins with the vote of a third
abbrev votes_steps : List Stage
votes_steps =
    boots 0 0 7 ∷
    boots 0 1 9 ∷
    boots 0 2 11 ∷
    turns (at 300000000 0 0) (Ring Elect ∷ Become Candidate ∷ Back (peer_of 0) ∷ Post (Peer (peer_of 1)) (Message (msg Election 32775 Nothing)) ∷ []) ∷
    takes (at 300000001 1 0) 0 0 (Message (msg Election 32775 Nothing)) (Back (peer_of 0) ∷ Post (Peer (peer_of 0)) (Message (msg Accept 32775 Nothing)) ∷ []) ∷
    takes (at 300000002 0 0) 1 1 (Message (msg Accept 32775 Nothing)) (Acked (peer_of 1) ∷ Backer (peer_of 1) ∷ []) ∷
    wins (at 305000000 0 0) ∷
    turns (at 365000000 1 0) (Ring Elect ∷ Become Candidate ∷ Back (peer_of 1) ∷ Post (Peer (peer_of 2)) (Message (msg Election 32777 Nothing)) ∷ []) ∷
    takes (at 365000001 2 0) 2 1 (Message (msg Election 32777 Nothing)) (Back (peer_of 1) ∷ Post (Peer (peer_of 1)) (Message (msg Accept 32777 Nothing)) ∷ []) ∷
    takes (at 365000002 1 0) 3 2 (Message (msg Accept 32777 Nothing)) (Acked (peer_of 2) ∷ Backer (peer_of 2) ∷ []) ∷
    wins (at 370000000 1 0) ∷
    []

votes_fit : Fits (still true) (after 11 votes_steps [])
votes_fit =
    stages_fit true 11 votes_steps [] tt refl ((search debts) also (search debts) also (search debts) also (search debts) also
    (search debts) also
    ((search debts) also (search debts) also (
      refl,
      record {
        peer = refl;
        other = λ e. not_same 0 1 (omega arith) (ap (λ (p : PeerId). p.0) (sym e));
        new = refl;
        answer = (msg Accept 32775 Nothing);
        took = refl;
        kind = refl;
        acked = _;
        past = _;
        is = refl;
        deed = refl;
        first = _;
        older = _;
        ends =
            refl;
        message = (msg Election 32775 Nothing);
        asks = refl;
        election = refl;
        number = refl;
      },
    ) also tt) also (search debts) also (search debts) also
    (search debts) also
    ((search debts) also (search debts) also (
      refl,
      record {
        peer = refl;
        other = λ e. not_same 1 2 (omega arith) (ap (λ (p : PeerId). p.0) (sym e));
        new = refl;
        answer = (msg Accept 32777 Nothing);
        took = refl;
        kind = refl;
        acked = _;
        past = _;
        is = refl;
        deed = refl;
        first = _;
        older = _;
        ends =
            refl;
        message = (msg Election 32777 Nothing);
        asks = refl;
        election = refl;
        number = refl;
      },
    ) also tt) also (search debts))

-- two nodes win strict elections, 65 s apart
pub strict_elections : StrictElections
strict_elections = record {
  history = kept_by true (after 11 votes_steps []) votes_fit refl refl refl refl;
  strict = refl;
  few = few_by (after 11 votes_steps []) refl;
  later = spot 0 (after 11 votes_steps []) refl;
  earlier = spot 15 (skip 1 (after 11 votes_steps [])) refl;
  wins = refl;
  wins_later = refl;
  apart = not_same 0 1 (omega arith);
  net = refl;
}

-- a candidate asks a peer three times for its vote
abbrev asks : MessageValue
asks = msg Election 32775 Nothing

abbrev repeats_steps : List Stage
repeats_steps =
    turns (at 300000000 0 0) (Ring Elect ∷ Become Candidate ∷ Back (peer_of 0) ∷ Post (Peer (peer_of 1)) (Message asks) ∷ []) ∷
    turns (at 301000000 0 0) (Post (Peer (peer_of 1)) (Message asks) ∷ []) ∷
    turns (at 302000000 0 0) (Post (Peer (peer_of 1)) (Message asks) ∷ []) ∷
    []

pub thrice_use : ThriceUse
thrice_use =
    record {
      history = kept_by false (after 3 repeats_steps (lead 3)) (stages_fit false 3 repeats_steps (lead 3) booted refl (search debts)) refl refl refl refl;
      post = spot 0 (after 3 repeats_steps (lead 3)) refl;
      peer = peer_of 1;
      message = asks;
      deed = refl;
      numbered = refl;
      had = refl;
    }

-- a node answers a stranger in its quiet time
abbrev early : ReplyValue
early = record { ticket = 9; word = 5; counter = 0; reading = pos 1000000 }

abbrev early_on_steps : List Stage
early_on_steps =
    boots 0 1 9 ∷
    hands (at 1000000 1 0) Stranger (Stamp (Request 5 0)) (Post Stranger (Stamp (Reply early)) ∷ []) ∷
    hands (at 2000000 1 0) Stranger (Message (msg Msite 3 Nothing)) (Post Stranger (Message (msg Ack 3 Nothing)) ∷ []) ∷
    []

pub quiet_use : QuietUse
quiet_use = record {
  history = kept_by false (after 3 early_on_steps []) (stages_fit false 3 early_on_steps [] tt refl (search debts)) refl refl refl refl;
  reply = spot 3 (after 3 early_on_steps []) refl;
  to = Stranger;
  value = early;
  replies = refl;
  early = omega arith;
  ack = spot 0 (after 3 early_on_steps []) refl;
  for = Stranger;
  message = msg Ack 3 Nothing;
  acknowledges = refl;
  early_too = omega arith;
}
