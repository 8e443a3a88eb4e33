-- What posts make of what is known of a port.
use Rattle.std.proofs.Common.{sym, subst, inl, inr, ap, ◌∙◌, true≢false, ◌≡◌, ◌≤◌, ℕ, ◌+◌, ◌%◌, ◌^◌, ◌==◌, ◌&&◌, Bool, true, false, if◌then◌else◌, cond, List}
use Rattle.std.proofs.Common.{[], ◌∷◌, Option, Some, refl, ℤ, map}
use Rattle.std.proofs.lemmas.Bool.{and_parts}
use Rattle.tsp_rules.specs.Values.{Post, Message, Stamp, Ack, PeerId, Place, Peer, Stranger, Request, Reply, QUIET, Arm, Alarm, Kind}
use Rattle.tsp_rules.{proofs.Asides.now, specs.SendRows.is_kind_election}
use Rattle.tsp_base.specs.Words.{Acts, Did, Seen, Here, Past, plain, MessageValue, all_corrects, boot_tick, lives, word, is_among, Received, armed, acting}
use Rattle.tsp_base.specs.Words.{backers, asked, exchange, word_asked, grown, bare, is_numbered, message_at, open_to, ReplyValue, Leads, arms, timed, post_of}
use Rattle.tsp_base.specs.Words.{posts, posts_to_others, posts_back, posts_time, others}
use Rattle.tsp_promises.specs.{DeedFits.PostFits, DeedFits.MessageFits, DeedFits.AskedEarly, PortFits.setup_in, StepFacts.acked_by}
use Rattle.tsp_promises.proofs.{leads.Known.Asked, leads.Known.asks_vote, leads.Known.During, leads.Known.KnowsOf}
use Rattle.tsp_promises.proofs.leads.Leaves.{made, now_rested, then_seen, with_quiet, with_round, with_vote, with_votes}

-- rows of one act, and of one act for each peer, lead where the act leads

module _ {P Q : ℕ → Past → Type 0} where
  pub Leads_arms : (alarm : Alarm) (long : ℕ) → ((x : ℕ) (past : Past) → P x past → Q x (grown x past (Arm alarm (x + long) ∷ []))) →
      Leads P (arms alarm long) Q
  unfolding arms
  Leads_arms alarm long k = record { run = k }

  pub Leads_posts : (p : PeerId) (kind : Kind) (number : ℕ) → ((x : ℕ) (past : Past) → P x past → Q x (grown x past (post_of kind number past.name p ∷ []))) →
      Leads P (posts p kind number) Q
  unfolding posts
  Leads_posts p kind number k = record { run = k }

  pub Leads_posts_back : (from : Place) (kind : Kind) (number : ℕ) → ((x : ℕ) (past : Past) → P x past →
      Q x (grown x past (Post from (Message (bare kind number past.name)) ∷ []))) → Leads P (posts_back from kind number) Q
  unfolding posts_back
  Leads_posts_back from kind number k = record { run = k }

  pub Leads_posts_time : (p : PeerId) (kind : Kind) (number : ℕ) (time : ℤ) → ((x : ℕ) (past : Past) → P x past →
      Q x (grown x past (Post (Peer p) (Message (timed kind number time past.name)) ∷ []))) → Leads P (posts_time p kind number time) Q
  unfolding posts_time
  Leads_posts_time p kind number time k = record { run = k }

kept_posts : (P : ℕ → Past → Type 0) (kind : Kind) (number : ℕ) → ((x : ℕ) (past : Past) (p : PeerId) → P x past →
    P x (grown x past (post_of kind number past.name p ∷ []))) →
    (ps : List PeerId) (x : ℕ) (past : Past) → P x past → P x (grown x past (map (post_of kind number past.name) ps))
kept_posts P kind number k [] x past h = h
kept_posts P kind number k (p ∷ ps) x past h = kept_posts P kind number k ps x (grown x past (post_of kind number past.name p ∷ [])) (k x past p h)

-- a bare message to each other peer
pub Leads_others : {P : ℕ → Past → Type 0} (kind : Kind) (number : ℕ) → ((x : ℕ) (past : Past) (p : PeerId) → P x past →
    P x (grown x past (post_of kind number past.name p ∷ []))) → Leads P (posts_to_others kind number) P
unfolding posts_to_others
Leads_others {P = P} kind number k = record { run = λ x past h. kept_posts P kind number k (others past.own past.peers) x past h }

-- a vote that is asked for after a post: by this message, which begins a send, or before
post_vote : (p q : PeerId) (m : MessageValue) (d : Did) (before : List Seen) (bs : List PeerId) → d.deed ≡ Acts (Post (Peer p) (Message m)) →
    (is_kind_election m.kind ≡ true → acting before ≡ true → is_among q bs ≡ false) →
    (asks_vote (message_at (open_to q before)) ≡ true → is_among q bs ≡ false) → (b : Bool) → ((p.0 == q.0) && (is_numbered m.kind && acting before)) ≡ b →
    asks_vote (message_at (cond b (Here d ∷ before) (open_to q before))) ≡ true → is_among q bs ≡ false
post_vote p q m d before bs deed new old true test e =
    let one = and_parts (p.0 == q.0) (is_numbered m.kind && acting before) test in
    let two = and_parts (is_numbered m.kind) (acting before) one.1 in
    new (subst (λ t. asks_vote (message_at (Here (record d { deed = t }) ∷ before)) ≡ true) deed e) two.1
post_vote p q m d before bs deed new old false test e = old e

-- an exchange that is open after a request: the new one or an older one
request_asked : (stirred : Bool) (d : Did) (seen : List Seen) (close : Option ℕ) (w at : ℕ) → close ≡ Some at → word_asked (Here d ∷ seen) ≡ w →
    (b : Bool) (was : List Seen) (s : Seen) (older : List Seen) →
    (was ≡ s ∷ older → Asked stirred close (all_corrects (plain seen)) (lives (plain seen)) w s older) → (if b then Here d ∷ seen else was) ≡ s ∷ older →
    Asked stirred close (all_corrects (plain seen)) (lives (plain seen)) w s older
request_asked stirred d seen close w at goes is true was s older old e =
    let same : Here d ≡ s = cc in
    let rest : seen ≡ older = cc in
    record {
      post = d;
      is = sym same;
      at = at;
      goes = goes;
      word_is = subst (λ z. word_asked z ≡ w) e is;
      corrects = λ calm. ap (λ z. all_corrects (plain z)) (sym rest);
      life = λ calm. ap (λ z. lives (plain z)) (sym rest);
    }
request_asked stirred d seen close w at goes is false was s older old e = old e

-- what begins no send opens none
unsent : (b : Bool) (here was : List Seen) → was ≡ [] → cond (b && false) here was ≡ []
unsent true here was e = e
unsent false here was e = e

-- what is known of a port whose quiet time is over, after a post
pub post_knows : {stirred : Bool} (x : ℕ) (past : Past) (p : PeerId) (m : MessageValue) → ((q : PeerId) → is_kind_election m.kind ≡ true → acting past.seen ≡
    true → is_among q (backers past.seen) ≡ false) → boot_tick (plain past.seen) + QUIET ≤ x → KnowsOf stirred x past.own past.seen →
    KnowsOf stirred x past.own (then_seen x past (Post (Peer p) (Message m)))
post_knows x past p m new rested k =
    let vote = with_votes k.vote (λ q e. post_vote p q m (now x past (Post (Peer p) (Message m))) past.seen (backers past.seen) refl (new q)
    (k.vote.votes q) _ refl e) in
    with_quiet (with_vote k vote) (now_rested rested k.quiet)

-- posts of a port whose quiet time is over
module _ {stirred owing acts : Bool} {follow : List PeerId} {T : Option Received → Option Received → Type 0} {x : ℕ} {past : Past} where
  post_as : (p : PeerId) (m : MessageValue) → MessageFits (setup_in past) m.kind (now x past (Post (Peer p) (Message m))) past.seen p m →
      ((q : PeerId) → is_kind_election m.kind ≡ true → acting past.seen ≡ true → is_among q (backers past.seen) ≡ false) →
      During stirred true owing follow acts T x past → During stirred true owing follow acts T x (grown x past (Post (Peer p) (Message m) ∷ []))
  post_as p m f new h =
      made (Post (Peer p) (Message m)) h.own (record { rested = inl (h.rested refl); fits = f }) h.fits (post_knows x past p m new (h.rested refl) h.knows)
      h.rested h.backs h.owed (ap (acked_by p m) h.paid) h.acting_is h.took

  -- any message but an ELECTION
  pub post_message : (p : PeerId) (m : MessageValue) → is_kind_election m.kind ≡ false →
      MessageFits (setup_in past) m.kind (now x past (Post (Peer p) (Message m))) past.seen p m → During stirred true owing follow acts T x past →
      During stirred true owing follow acts T x (grown x past (Post (Peer p) (Message m) ∷ []))
  post_message p m other f h = post_as p m f (λ q e. absurd (true≢false (sym e ∙ other))) h

  -- an ELECTION of a candidate that nobody has backed yet
  pub post_election : (p : PeerId) (m : MessageValue) → backers past.seen ≡ [] → MessageFits (setup_in past) m.kind (now x past (Post (Peer p) (Message m)))
      past.seen p m → During stirred true owing follow acts T x past → During stirred true owing follow acts T x (grown x past (Post (Peer p) (Message m) ∷ []))
  post_election p m none f h = post_as p m f (λ q e a. ap (is_among q) none) h

  -- to wherever a datagram came from
  pub post_back : (from : Place) (m : MessageValue) → is_kind_election m.kind ≡ false →
      PostFits (setup_in past) from (Message m) (now x past (Post from (Message m))) past.seen → During stirred true owing follow acts T x past →
      During stirred true owing follow acts T x (grown x past (Post from (Message m) ∷ []))
  post_back (Peer p) m other f h = post_message p m other f h
  post_back Stranger m other f h = made (Post Stranger (Message m)) h.own (record { rested = inl (h.rested refl); fits = f }) h.fits h.knows h.rested h.backs
      h.owed h.paid h.acting_is h.took

  pub request : (p : PeerId) (at : ℕ) → (armed past.seen).close ≡ Some at → During stirred true owing follow acts T x past →
      During stirred true owing follow acts T x (grown x past (Post (Peer p) (Stamp (Request (word (plain past.seen)) (asked past.seen % 2 ^ 64))) ∷ []))
  request p at goes h =
      let k = h.knows in
      let a = Post (Peer p) (Stamp (Request (word (plain past.seen)) (asked past.seen % 2 ^ 64))) in
      made a h.own (record { rested = inl (h.rested refl); fits = record { word_is = refl; counter_is = refl } }) h.fits
      (with_round k (record {
        rounds = k.round.rounds;
        probing = k.round.probing;
        closes = k.round.closes;
        exchanges = λ q i s older e. request_asked stirred (now x past a) past.seen (armed past.seen).close (word (plain past.seen)) at goes refl
            ((p.0 == q.0) && (asked past.seen % 2 ^ 64 == i)) (exchange q i past.seen) s older (k.round.exchanges q i s older) e;
      }))
      h.rested h.backs h.owed h.paid h.acting_is h.took

-- a post before the step has acted begins nothing
module _ {stirred owing : Bool} {follow : List PeerId} {T : Option Received → Option Received → Type 0} {x : ℕ} {past : Past} where
  pub post_again : (p : PeerId) (m : MessageValue) → MessageFits (setup_in past) m.kind (now x past (Post (Peer p) (Message m))) past.seen p m →
      During stirred true owing follow false T x past → During stirred true owing follow false T x (grown x past (Post (Peer p) (Message m) ∷ []))
  post_again p m f h = post_as p m f (λ q e a. absurd (true≢false (sym a ∙ h.acting_is))) h

-- posts in the quiet time too
module _ {stirred awake owing acts : Bool} {follow : List PeerId} {T : Option Received → Option Received → Type 0} {x : ℕ} {past : Past} where
  pub post_reply : (from : Place) (r : ReplyValue) → PostFits (setup_in past) from (Stamp (Reply r)) (now x past (Post from (Stamp (Reply r)))) past.seen →
      During stirred awake owing follow acts T x past → During stirred awake owing follow acts T x (grown x past (Post from (Stamp (Reply r)) ∷ []))
  post_reply (Peer p) r f h = made (Post (Peer p) (Stamp (Reply r))) h.own (record { rested = inr f.took; fits = f }) h.fits h.knows h.rested h.backs h.owed
      h.paid h.acting_is h.took
  post_reply Stranger r f h = made (Post Stranger (Stamp (Reply r))) h.own (record { rested = inr f.0.took; fits = f }) h.fits h.knows h.rested h.backs h.owed
      h.paid h.acting_is h.took

  pub post_early : (from : Place) (number : ℕ) (name : List ℕ) → PostFits (setup_in past) from (Message (bare Ack number name))
      (now x past (Post from (Message (bare Ack number name)))) past.seen → AskedEarly from past.seen number →
      During stirred awake owing follow acts T x past → During stirred awake owing follow acts T x (grown x past (Post from (Message (bare Ack number name)) ∷
      []))
  post_early Stranger number name f early h = made (Post Stranger (Message (bare Ack number name))) h.own (record { rested = inr (refl, early); fits = f })
      h.fits h.knows h.rested h.backs h.owed h.paid h.acting_is h.took
  post_early (Peer p) number name f early h =
      let k = h.knows in
      let m = bare Ack number name in
      made (Post (Peer p) (Message m)) h.own (record { rested = inr (refl, early); fits = f }) h.fits
      (record {
        times = k.times;
        quiet = record {
          rested = elim k.quiet.rested [
            | inl s ↦ inl (record {
              starts = s.starts;
              unsearched = s.unsearched;
              unelected = s.unelected;
              unresolved = s.unresolved;
              unsent = λ q. unsent (p.0 == q.0) (then_seen x past (Post (Peer p) (Message m))) (open_to q past.seen) (s.unsent q);
            })
            | inr r ↦ inr r
          ];
          silent = k.quiet.silent;
        };
        vote = record {
          stands = k.vote.stands;
          windows = k.vote.windows;
          votes = λ q e. post_vote p q m (now x past (Post (Peer p) (Message m))) past.seen (backers past.seen) refl (λ n. absurd (true≢false (sym n)))
              (k.vote.votes q) _ refl e;
        };
        round = k.round;
      })
      h.rested h.backs h.owed (ap (acked_by p m) h.paid) h.acting_is h.took
