-- Small histories that break the promises of roles and of answers.
use Rattle.std.proofs.Common.{ap, arith, inl, inr, sym, true≢false, ◌≡◌, ◌≤◌, ◌<◌, ℕ, true, false, ◌+◌, pos, List, [], ◌∷◌, Option, Some, None, refl, subst}
use Rattle.std.proofs.Common.{◌∙◌}
use Rattle.tsp_rules.specs.Values.{Boot, Took, Post, Become, Ring, Back, Close, Correct, Quit, ResolveAlarm, Message, Stamp, Good, Accept, Ack, AdjTime}
use Rattle.tsp_rules.specs.Values.{Election, MasterReq, Msite, QuitKind, Nothing, TimeBody, PeerId, Peer, Stranger, Follow, Candidate, Master, Reply, ELECT_MIN}
use Rattle.tsp_rules.specs.Values.{Datagram, Taken, Test, Place, Loose, Request}
use Rattle.tsp_base.specs.Words.{Booted, Came, Handed, Turned, Line, of, view, MessageValue, Received, message_in, ReplyValue, peer_of}
use Rattle.tsp_promises.proofs.witness.Spots.{too_many}
use Rattle.tsp_promises.proofs.witness.Histories.{begins, does, line, msg, step_at, still}
use Rattle.tsp_promises.specs.{Answered.AnswersAsked, Answered.AnswersWith, Broken.breaks, Broken.RolesBreak, Broken.AnswersBreak}
use Rattle.tsp_promises.{proofs.witness.Debts.not_same, proofs.witness.StepChecks.port0, proofs.witness.StepChecks.port1, specs.Resolved.TakesQuit}

one_two : peer_of 1 ≡ peer_of 2 → ⊥
one_two e = not_same 1 2 (omega arith) (ap (λ (p : PeerId). p.0) e)

abbrev stands : List Line
stands = does 10 0 Turned (Become Candidate) ∷ []

follow_same : (p q : PeerId) → Follow p ≡ Follow q → p ≡ q
follow_same p q e = cc

two_one : Follow (peer_of 2) ≡ Follow (peer_of 1) → ⊥
two_one e = one_two (sym (follow_same (peer_of 2) (peer_of 1) e))

abbrev ring : Line
ring = does 10 0 Turned (Ring ResolveAlarm)

abbrev quit : Line
quit = does 10 0 Turned (Post (Peer (peer_of 1)) (Message (msg QuitKind 32768 Nothing)))

abbrev leader : List Line
leader = does 5 1 Turned (Become Master) ∷ []

abbrev told : List Line
told = does 20 1 (Came 0) (Took (Peer (peer_of 0)) (Good (Message (msg QuitKind 32768 Nothing)))) ∷ (quit ∷ (ring ∷ leader))

abbrev leads_on : Line
leads_on = does 20 1 (Came 0) (Quit (peer_of 0))

takes : TakesQuit ring leader leads_on told
takes = record {
  quits = refl;
  post = quit;
  older = ring ∷ leader;
  place = inr (inl refl);
  takes = refl;
  node = refl;
  first = quit.did;
  begun = view port0 (of 0 (ring ∷ leader));
  of_send = record { message = msg QuitKind 32768 Nothing; deed = refl; numbered = refl; is = refl };
  message = msg QuitKind 32768 Nothing;
  deed = refl;
  kind = refl;
  step = refl;
}

-- a reply that nobody asked for
abbrev idle : ReplyValue
idle = record { ticket = 0; word = 5; counter = 0; reading = pos 10 }

abbrev number_of : Option MessageValue → ℕ
number_of None = 0
number_of (Some m) = m.number

abbrev number_in : Option Received → ℕ
number_in None = 0
number_in (Some r) = number_of (message_in r.taken)

pub roles_break : RolesBreak (still false)
roles_break = record {
  holds = breaks (does 20 0 Turned (Back (peer_of 2)) ∷ (does 10 0 Turned (Back (peer_of 1)) ∷ []))
      (λ h. elim (h.holds.0 (peer_of 2) (peer_of 1) (does 10 0 Turned (Back (peer_of 1))) [] refl (inl refl) refl refl refl) [
        | inl e ↦ one_two e
        | inr k ↦ omega arith
      ]);
  accepts = breaks (does 10 0 Turned (Post (Peer (peer_of 1)) (Message (msg Accept 5 Nothing))) ∷ [])
      (λ h. cc (h.backs.0.accepts (Peer (peer_of 1)) (msg Accept 5 Nothing) refl refl));
  accepts_stranger = breaks (does 10 0 Turned (Post Stranger (Message (msg Accept 5 Nothing))) ∷ (does 10 0 Turned (Back (peer_of 1)) ∷ []))
      (λ h. h.backs.0.accepts Stranger (msg Accept 5 Nothing) refl refl);
  asks = breaks (does 10 0 Turned (Post (Peer (peer_of 1)) (Message (msg Election 32768 Nothing))) ∷ stands)
      (λ h. true≢false (h.backs.0.asks (Peer (peer_of 1)) (msg Election 32768 Nothing) refl refl));
  ends = breaks (begins 20 0 Turned ∷ stands) (λ h. true≢false (h.backs.0.ends refl port0));
  finishes = breaks stands (λ h. true≢false (h.ends 0 port0));
  corrects = breaks (does 10 0 Turned (Post (Peer (peer_of 1)) (Message (msg AdjTime 5 (TimeBody (pos 1))))) ∷ [])
      (λ h. cc (h.0.posts (Peer (peer_of 1)) (msg AdjTime 5 (TimeBody (pos 1))) refl refl));
  closes = breaks (does 20 0 Turned (Close 1 (pos 0) (pos 0) (pos 0)) ∷ (does 10 0 Turned (Become (Follow (peer_of 1))) ∷ []))
      (λ h. cc (h.0.closes 1 (pos 0) (pos 0) (pos 0) refl));
  speaks = breaks (does 10 0 Turned (Post (Peer (peer_of 1)) (Message (msg MasterReq 0 Nothing))) ∷ (does 0 0 (Booted 7 (pos 0)) Boot ∷ []))
      (λ h. elim (h.0.posts (Peer (peer_of 1)) (Message (msg MasterReq 0 Nothing)) refl) [
        | inl late ↦ omega arith
        | inr early ↦ cc early.0
      ]);
  replies_early = breaks (does 10 0 Turned (Post (Peer (peer_of 1)) (Stamp (Reply idle))) ∷ (does 0 0 (Booted 7 (pos 0)) Boot ∷ []))
      (λ h. elim (h.0.posts (Peer (peer_of 1)) (Stamp (Reply idle)) refl) [
        | inl late ↦ omega arith
        | inr early ↦ cc early
      ]);
  acks_early = breaks (does 10 0 Handed (Post Stranger (Message (msg Ack 4 Nothing))) ∷
      (does 10 0 Handed (Took Stranger (Good (Message (msg Msite 3 Nothing)))) ∷ (does 0 0 (Booted 7 (pos 0)) Boot ∷ [])))
      (λ h. elim (h.0.posts Stranger (Message (msg Ack 4 Nothing)) refl) [
        | inl late ↦ omega arith
        | inr early ↦ (let same : 3 ≡ early.1.message.number = ap number_in early.1.took in let is = early.1.number_is in omega
            (arith, same, is))
      ]);
  corrects_early = breaks (does 10 0 Turned (Correct (pos 5) true (pos 0)) ∷ (does 0 0 (Booted 7 (pos 0)) Boot ∷ []))
      (λ h. let late = h.0.corrects (pos 5) true (pos 0) refl in omega arith);
  follows_close = breaks (line (step_at 20 0 Turned) port1 (Correct (pos 5) false (pos 0)) ∷ (begins 20 1 Turned ∷
      (does 20 0 Turned (Close 1 (pos 0) (pos 0) (pos 5)) ∷ (does 10 0 Turned (Become Master) ∷ []))))
      (λ h. cc (h.0.corrects (does 20 0 Turned (Close 1 (pos 0) (pos 0) (pos 5))) (does 10 0 Turned (Become Master) ∷ []) 1 (pos 0)
      (pos 0) (pos 5) (pos 5) false (pos 0) refl refl refl));
  winners = breaks (does 20 1 Turned (Become Master) ∷ (does 10 0 Turned (Become Master) ∷ []))
      (λ h. let k : 10 + 50000000 < 20 = h.0 (does 10 0 Turned (Become Master)) [] refl (inl refl) refl (not_same 0 1
      (omega arith)) refl in omega arith);
  yields = breaks (does 20 0 Turned (Quit (peer_of 1)) ∷ (does 10 0 Turned (Become Master) ∷ []))
      (λ h. cc (h.ends 0 port0 (peer_of 1) refl));
  -- of two peers whose QUITs a master took, it can follow one alone
  yields_twice = breaks (does 30 0 Turned (Become (Follow (peer_of 2))) ∷ (does 30 0 Turned (Quit (peer_of 2)) ∷
      (does 30 0 Turned (Quit (peer_of 1)) ∷ (does 10 0 Turned (Become Master) ∷ []))))
      (λ h. two_one (h.ends 0 port0 (peer_of 1) refl));
  -- nor is it enough to have followed the first for a while
  yields_again = breaks (does 30 0 Turned (Become (Follow (peer_of 2))) ∷ (does 30 0 Turned (Quit (peer_of 2)) ∷
      (does 30 0 Turned (Become Master) ∷
      (does 30 0 Turned (Become (Follow (peer_of 1))) ∷ (does 30 0 Turned (Quit (peer_of 1)) ∷
      (does 10 0 Turned (Become Master) ∷ []))))))
      (λ h. two_one (h.ends 0 port0 (peer_of 1) refl));
  -- it takes the QUIT, and does nothing
  only_takes = breaks (does 20 0 Handed (Took (Peer (peer_of 1)) (Good (Message (msg QuitKind 32770 Nothing)))) ∷ (begins 20 0 Handed ∷
      (does 10 0 Turned (Become Master) ∷ [])))
      (λ h. cc (h.ends 0 port0 (peer_of 1) refl));
  quiet = breaks (does 20 0 Turned (Become Master) ∷ (does 10 0 Turned (Quit (peer_of 1)) ∷ []))
      (λ h. let k : 10 + ELECT_MIN ≤ 20 = h.0 (does 10 0 Turned (Quit (peer_of 1))) [] (peer_of 1) refl
      (inl refl) refl refl refl in omega arith);
  stops = breaks (leads_on ∷ told)
      (λ h. h.ends ring leads_on leads_on leader told told (inr (inr (inr (inl refl)))) refl (inl refl) takes (inl refl) takes refl refl);
  stops_later = breaks (does 30 0 Turned (Ring ResolveAlarm) ∷ (begins 30 0 Turned ∷ (leads_on ∷ told)))
      (λ h. h.marks.1.0 refl ring leads_on leads_on leader told told (inr (inr (inr (inl refl)))) refl (inl refl) takes
      (inl refl) takes refl refl);
}

abbrev asked : List Line
asked = does 10 0 Handed (Took Stranger (Good (Stamp (Request 5 0)))) ∷ []

abbrev pub reply : ReplyValue
reply = record { ticket = 0; word = 5; counter = 0; reading = pos 10 }

abbrev quits : List Line
quits = does 10 0 Handed (Took (Peer (peer_of 1)) (Good (Message (msg QuitKind 32770 Nothing)))) ∷ []

abbrev pub tested : List Line
tested = does 10 0 Handed (Took Stranger (Good (Message (msg Test 5 Nothing)))) ∷ []

abbrev datagram_in : Taken → Option Datagram
datagram_in (Good d) = Some d
datagram_in _ = None

abbrev datagram_taken : Option Received → Option Datagram
datagram_taken None = None
datagram_taken (Some r) = datagram_in r.taken

-- one datagram is taken
pub same_datagram : {from : Place} (o : Option Received) (d e : Datagram) → o ≡ Some (record { from = from; taken = Good d }) →
    o ≡ Some (record { from = from; taken = Good e }) → e ≡ d
same_datagram o d e x y =
    let both : Some d ≡ Some e = ap datagram_taken (sym x ∙ y) in
    cc

abbrev number_at : Place → ℕ
number_at (Peer p) = p.0
number_at Stranger = 0

abbrev sender_number : Option Received → ℕ
sender_number None = 0
sender_number (Some r) = number_at r.from

-- an ACK with the number after that of the QUIT
abbrev next : MessageValue
next = msg Ack 32771 Nothing

no_answer : (asked : Datagram) → asked ≡ Message (msg QuitKind 32770 Nothing) → AnswersWith asked (Message next) → ⊥
no_answer asked e answer =
    let k = subst (λ d. AnswersWith d (Message next)) e answer in
    let same = k.1 in
    omega (arith, same)

by_asked : AnswersAsked (Peer (peer_of 1)) (does 10 0 Handed (Post (Peer (peer_of 1)) (Message next))) quits (Message next) → ⊥
by_asked a = no_answer a.asked (same_datagram _ (Message (msg QuitKind 32770 Nothing)) a.asked refl a.took) a.answer

pub answers_break : AnswersBreak (still false)
answers_break = record {
  takes_two = breaks (does 10 0 Handed (Took Stranger (Good (Stamp (Request 5 0)))) ∷ asked)
      (λ h. cc (h.takes_one.0 Stranger (Good (Stamp (Request 5 0))) refl));
  quits_twice = breaks (does 10 0 Handed (Quit (peer_of 1)) ∷ (does 10 0 Handed (Quit (peer_of 2)) ∷ quits))
      (λ h. true≢false (h.quits.0 (peer_of 1) refl).only);
  unheeded = breaks (does 10 0 Handed (Took (Peer (peer_of 1)) (Good (Message (msg QuitKind 32770 Nothing)))) ∷ (begins 10 0 Handed ∷
      (does 5 0 Turned (Become Loose) ∷ [])))
      (λ h. let k = h.heeded.ends 0 port0 in cc);
  unacknowledged = breaks (does 10 0 Handed (Quit (peer_of 1)) ∷ quits)
      (λ h. let k = h.acknowledged.ends 0 port0 in cc);
  replies_twice = breaks (does 10 0 Handed (Post Stranger (Stamp (Reply reply))) ∷
      (does 10 0 Handed (Post Stranger (Stamp (Reply reply))) ∷ asked))
      (λ h. true≢false (h.strangers.0 (Stamp (Reply reply)) refl).first);
  nameless = breaks (does 10 0 Handed (Post Stranger (Message (msg Ack 5 Nothing))) ∷ tested) (λ h.
      let a = h.strangers.0 (Message (msg Ack 5 Nothing)) refl in
      cc (a.named (msg Ack 5 Nothing) (msg Test 5 Nothing) refl (same_datagram _ (Message
      (msg Test 5 Nothing)) a.asked refl a.took)));
  unasked = breaks (does 10 0 Handed (Post Stranger (Stamp (Reply reply))) ∷ []) (λ h. too_many 1 0 refl (h.one_for_one.0));
  unasked_peer = breaks (does 10 0 Handed (Post (Peer (peer_of 1)) (Stamp (Reply reply))) ∷ [])
      (λ h. let k = (h.answers.0 (Peer (peer_of 1)) (Stamp (Reply reply)) refl refl).took in cc);
  misnumbered = breaks (does 10 0 Handed (Post (Peer (peer_of 1)) (Message next)) ∷ quits)
      (λ h. by_asked (h.answers.0 (Peer (peer_of 1)) (Message next) refl refl));
  misled = breaks (does 10 0 Handed (Post (Peer (peer_of 2)) (Message (msg Ack 32770 Nothing))) ∷ quits) (λ h.
      let same = ap sender_number (h.answers.0 (Peer (peer_of 2)) (Message (msg Ack 32770 Nothing)) refl refl).took in
      omega (arith, same));
}
