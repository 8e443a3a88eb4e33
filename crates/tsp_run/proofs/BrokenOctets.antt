-- Small histories that break the promise of the octets of answers.
use Rattle.std.proofs.Common.{arith, subst, ◌≡◌, ◌+◌, ◌*◌, false, ℕ, List, [], ◌∷◌, replicate, refl}
use Rattle.tsp_rules.specs.Values.{Took, Post, Datagram, Message, Stamp, Good, Ack, Test, Nothing, Stranger, Reply}
use Rattle.tsp_base.specs.Words.{Handed, Line, MessageValue, of, view}
use Rattle.tsp_promises.specs.{Broken.breaks, Fits.node_of, Setting.Setting, Setting.setup_of}
use Rattle.tsp_promises.proofs.witness.BrokenRoles.{reply, same_datagram, tested}
use Rattle.tsp_promises.proofs.witness.Histories.{does, msg, still}
use Rattle.tsp_run.specs.{AnswerOctets.AnswerSized, AnswerOctets.SizeFits, AnswerOctetsBroken.AnswerOctetsBreak}

-- a name of 64 octets
abbrev long_name : List ℕ
long_name = replicate 64 97

-- node 0 has a name of one octet, node 1 one of 64
abbrev named : Setting
named = record (still false) { name = λ n. replicate (1 + 63 * n) 97 }

-- a history in which node 1 takes the TEST of a stranger
abbrev tested_there : List Line
tested_there = does 10 1 Handed (Took Stranger (Good (Message (msg Test 5 Nothing)))) ∷ []

abbrev test : Datagram
test = Message (msg Test 5 Nothing)

-- what the step took is the TEST
size_of : (l : Line) (world : List Line) (datagram : Datagram) (sized : AnswerSized named l world datagram) → sized.asked ≡ test →
    SizeFits test datagram (setup_of named (node_of l) l.port) (view l.port (of (node_of l) world))
size_of l world datagram sized e = subst (λ d. SizeFits d datagram (setup_of named (node_of l) l.port) (view l.port (of (node_of l) world))) e sized.size

abbrev long_ack : MessageValue
long_ack = record { kind = Ack; number = 5; body = Nothing; name = long_name }

pub answer_octets_break : AnswerOctetsBreak
answer_octets_break = record {
  setting = named;
  large = breaks (does 10 0 Handed (Post Stranger (Message long_ack)) ∷ tested) (λ h.
      let sized = h.0 (Message long_ack) refl in
      let size = size_of _ tested (Message long_ack) sized (same_datagram _ test sized.asked refl sized.took) in
      let octets : 268 ≡ 76 = size.0 (omega arith) in
      omega (arith, octets));
  small = breaks (does 10 1 Handed (Post Stranger (Message (msg Ack 5 Nothing))) ∷ tested_there) (λ h.
      let sized = h.0 (Message (msg Ack 5 Nothing)) refl in
      let size = size_of _ tested_there (Message (msg Ack 5 Nothing)) sized (same_datagram _ test sized.asked refl sized.took) in
      let octets : 76 ≡ 268 = size.1 (omega arith) in
      omega (arith, octets));
  crossed = breaks (does 10 0 Handed (Post Stranger (Stamp (Reply reply))) ∷ tested) (λ h.
      let sized = h.0 (Stamp (Reply reply)) refl in
      size_of _ tested (Stamp (Reply reply)) sized (same_datagram _ test sized.asked refl sized.took));
  unasked = breaks (does 10 0 Handed (Post Stranger (Stamp (Reply reply))) ∷ []) (λ h. cc (h.0 (Stamp (Reply reply)) refl).took);
}
