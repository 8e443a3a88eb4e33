-- What the acts of a measurement owe to their port's past: requests, replies and samples.
use Rattle.std.specs.Prelude.{◌≡◌, ℕ, ◌%◌, ◌^◌, ℤ, true, List, ◌∷◌}
use Rattle.tsp_rules.specs.Values.{Stamp, PeerId, Place, Request, Reply}
use Rattle.tsp_base.specs.Words.{Did, Seen, Here, plain, word, ticket, target, is_going, started, asked, exchange, sample_diff, sample_err, ReplyValue}
use Rattle.tsp_base.specs.Words.{Receives, TakesFrom, Undisturbed}

-- a request has the word of the boot, and as its counter the number of requests before it, modulo 2^64
pub record RequestFits (before : List Seen) (request_word counter : ℕ) : Type 0 where
  pub word_is : request_word ≡ word (plain before)
  pub counter_is : counter ≡ asked before % 2 ^ 64

-- a reply answers the request that the step took from its addressee, a peer or a stranger. It carries the node's
-- ticket, and the node's target as its reading
pub record ReplyFits (here : Did) (before : List Seen) (to : Place) (reply : ReplyValue) : Type 0 where
  pub took : TakesFrom before to (Stamp (Request reply.word reply.counter))
  pub ticket_is : reply.ticket ≡ ticket (plain before)
  pub reading_is : reply.reading ≡ target (plain before) here.tick

-- a Sample ends an open exchange of the going round by the reply that its step took; its node neither booted nor
-- corrected its clock since the round began
pub record SampleFits (here : Did) (before : List Seen) (p : PeerId) (counter : ℕ) (diff err : ℤ) (number : ℕ) : Type 0 where
  pub start : Did
  pub idle : List Seen
  pub start_is : started before ≡ Here start ∷ idle
  pub undisturbed : Undisturbed (plain idle) (plain before)
  pub going : is_going before ≡ true
  pub post : Did
  pub older : List Seen
  pub exchange_is : exchange p counter before ≡ Here post ∷ older
  pub reply : ReplyValue
  pub took : Receives before p (Stamp (Reply reply))
  pub word_is : reply.word ≡ word (plain before)
  pub counter_is : reply.counter ≡ counter
  pub number_is : number ≡ reply.ticket
  pub diff_is : diff ≡ sample_diff (target (plain older) post.tick) reply.reading (target (plain before) here.tick)
  pub err_is : err ≡ sample_err (target (plain older) post.tick) (target (plain before) here.tick)
