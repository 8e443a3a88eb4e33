-- A candidate's last question to a peer stays open until it is answered.
use Rattle.std.proofs.Common.{sym, ap, subst, arith, inl, inr, true≢false, ◌∙◌, ◌≡◌, ◌≢◌, ◌≤◌, ◌<◌, ◌⊎◌, ℕ, ◌+◌, ◌*◌, ◌==◌, ◌&&◌}
use Rattle.std.proofs.Common.{Bool, true, false, List, [], ◌∷◌, Some, length, eq-eqb, refl}
use Rattle.std.proofs.lemmas.Bool.{and_parts}
use Rattle.tsp_rules.specs.Values.{Act, Acked, Become, Boot, Candidate, Election, Gave, Message, Kind, AdjTime, Conflict, QuitKind, SetDateReq, SetTime}
use Rattle.tsp_rules.specs.Values.{PeerId, Peer, Post, RETRY, TRIES}
use Rattle.tsp_rules.specs.SendRows.{is_kind_election}
use Rattle.tsp_rules.proofs.GuardFacts.{same_peer}
use Rattle.tsp_base.specs.Words.{Acts, Deed, Did, Elsewhere, Here, MessageValue, Seen, Sending, Setup, Within, acting, has_own_number, is_correction}
use Rattle.tsp_base.specs.Words.{is_numbered}
use Rattle.tsp_base.specs.Words.{open_send, open_to, plain, posts_of, role, sending_at, stood, stood_after, tick_of}
use Rattle.tsp_base.proofs.PlaceLemmas.{Within_all, Within_length, Within_through}
use Rattle.tsp_promises.specs.{DeedFits.DeedFits, PortFits.PortFits}
use Rattle.tsp_promises.proofs.shared.SendPlaces.{correction_fits}
use Rattle.tsp_progress.specs.GivenUp.{GaveFits, IsOld, Owes}
use Rattle.tsp_progress.proofs.{SendKept.opens, StandsProof.Rising, WinsNot.stood_role}
use Rattle.tsp_progress.proofs.StandActs.{AsksNow, Kept, KeepsAt, StandFits}

-- whether a deed asks p for its vote, at this true time, where it begins a send
abbrev pub asks_by : PeerId → Deed → Bool
asks_by p (Acts (Post (Peer q) (Message n))) = (q.0 == p.0) && is_kind_election n.kind
asks_by p _ = false

abbrev pub is_asking : PeerId → ℕ → Did → List Seen → Bool
is_asking p at d before = asks_by p d.deed && (acting before && (d.step.at == at))

-- the last deed that does
pub record LastAsk (p : PeerId) (at : ℕ) (seen : List Seen) : Type 0 where
  pub ask : Did
  pub asked : List Seen
  pub place : Within (Here ask ∷ asked) seen
  pub asks : is_asking p at ask asked ≡ true
  pub last : (d : Did) (before : List Seen) → Within (Here d ∷ before) seen → Within (Here ask ∷ asked) before → is_asking p at d before ≡ false

-- it isn't before one that does
pub record LastAfter (p : PeerId) (at : ℕ) (d : Did) (before seen : List Seen) : Type 0 where
  pub last_ask : LastAsk p at seen
  pub after : Within (Here d ∷ before) (Here last_ask.ask ∷ last_ask.asked)

module _ (p : PeerId) (at : ℕ) where
  here_last : (d : Did) (before : List Seen) → is_asking p at d before ≡ true → LastAsk p at (Here d ∷ before)
  here_last d before e = record {
    ask = d;
    asked = before;
    place = inl refl;
    asks = e;
    last = λ c b w v. elim w [
      | inl k ↦ absurd (let same = ap length k in let long = Within_length (Here d ∷ before) b v in omega (arith, same, long))
      | inr k ↦ absurd (let few = Within_length (Here c ∷ b) before k in let long = Within_length (Here d ∷ before) b v in omega (arith, few, long))
    ];
  }

  aside : (c : Did) (rest : List Seen) → LastAsk p at rest → LastAsk p at (Elsewhere c ∷ rest)
  aside c rest l = record {
    ask = l.ask;
    asked = l.asked;
    place = inr l.place;
    asks = l.asks;
    last = λ d b w v. elim w [
      | inl k ↦ absurd (let bad : ⊥ = cc in bad)
      | inr k ↦ l.last d b k v
    ];
  }

  skip : (c : Did) (rest : List Seen) → is_asking p at c rest ≡ false → LastAsk p at rest → LastAsk p at (Here c ∷ rest)
  skip c rest none l = record {
    ask = l.ask;
    asked = l.asked;
    place = inr l.place;
    asks = l.asks;
    last = λ d b w v. elim w [
      | inl k ↦ head d b k
      | inr k ↦ l.last d b k v
    ];
  } where
    head : (d : Did) (b : List Seen) → Here d ∷ b ≡ Here c ∷ rest → is_asking p at d b ≡ false
    head d b k =
        let did : d ≡ c = cc in
        let tail : b ≡ rest = cc in
        subst (λ r. is_asking p at d r ≡ false) (sym tail) (subst (λ z. is_asking p at z rest ≡ false) (sym did) none)

  -- the search
  pub last_after : (d : Did) (before seen : List Seen) → is_asking p at d before ≡ true → Within (Here d ∷ before) seen → LastAfter p at d before seen
  unfolding here_last skip aside
  last_after d before [] e w = let bad : ⊥ = cc in absurd bad
  last_after d before (s ∷ rest) e (inl k) = subst (λ u. LastAfter p at d before u) k
      (record { last_ask = here_last d before e; after = Within_all (Here d ∷ before) })
  last_after d before (Elsewhere c ∷ rest) e (inr w) =
      let l = last_after d before rest e w in record { last_ask = aside c rest l.last_ask; after = l.after }
  last_after d before (Here c ∷ rest) e (inr w) = by_case (is_asking p at c rest) refl (last_after d before rest e w) where
    by_case : (b : Bool) → is_asking p at c rest ≡ b → LastAfter p at d before rest → LastAfter p at d before (Here c ∷ rest)
    by_case true k l = record { last_ask = here_last c rest k; after = inr w }
    by_case false k l = record { last_ask = skip c rest k l.last_ask; after = l.after }

-- what a deed that asks is
pub record AskingIs (p : PeerId) (d : Did) : Type 0 where
  pub message : MessageValue
  pub deed : d.deed ≡ Acts (Post (Peer p) (Message message))
  pub kind : message.kind ≡ Election

election_kind : (k : Kind) → is_kind_election k ≡ true → k ≡ Election
election_kind Election e = refl
election_kind _ e = absurd (true≢false (sym e))

pub asking_is : (p : PeerId) (d : Did) → asks_by p d.deed ≡ true → AskingIs p d
asking_is p d e = by_deed d.deed refl e where
  by_deed : (deed : Deed) → d.deed ≡ deed → asks_by p deed ≡ true → AskingIs p d
  by_deed (Acts (Post (Peer q) (Message n))) is k =
      let both = and_parts (q.0 == p.0) (is_kind_election n.kind) k in
      record {
        message = n;
        deed = is ∙ ap (λ r. Acts (Post (Peer r) (Message n))) (same_peer q p both.0);
        kind = election_kind n.kind both.1;
      }
  by_deed _ is k = absurd (true≢false (sym k))

-- a send to p with this message is open, which began at this tick or later
pub record Open (p : PeerId) (m : MessageValue) (x : ℕ) (seen : List Seen) : Type 0 where
  pub first : Did
  pub older : List Seen
  pub open_is : open_to p seen ≡ Here first ∷ older
  pub deed : first.deed ≡ Acts (Post (Peer p) (Message m))
  pub since : x ≤ first.tick

pub sending_of : (p : PeerId) (m : MessageValue) (x : ℕ) (seen : List Seen) (o : Open p m x seen) → open_send p seen ≡
    Some (record { began = o.first.tick; posts = posts_of p seen; message = m })
sending_of p m x seen o = ap (λ s. sending_at s (posts_of p seen)) o.open_is ∙ (let is = o.deed in rw is refl)

-- numbered kinds are corrections, or have the port's own numbers
by_number : (k : Kind) → is_numbered k ≡ true → (is_correction k ≡ true) ⊎ (has_own_number k ≡ true)
by_number AdjTime e = inl refl
by_number SetTime e = inl refl
by_number Election e = inr refl
by_number Conflict e = inr refl
by_number QuitKind e = inr refl
by_number SetDateReq e = inr refl
by_number _ e = absurd (true≢false (sym e))

-- ticks don't go back
pub tick_low : (d : Did) (before seen : List Seen) → Within (Here d ∷ before) seen → Rising seen → d.tick ≤ tick_of (plain seen)
tick_low d before [] w up = let bad : ⊥ = cc in absurd bad
tick_low d before (s ∷ rest) (inl e) up = subst (λ u. d.tick ≤ tick_of (plain u)) e (omega arith)
tick_low d before (s ∷ rest) (inr w) up = let low = tick_low d before rest w up.1 in let le = up.0 in omega (arith, low, le)

-- a candidature, in which p is asked with this message
module _ (setup : Setup) (p : PeerId) (m : MessageValue) (start : Did) (idle : List Seen) (stands : start.deed ≡ Acts (Become Candidate)) (ask : Did)
    (asked : List Seen) (asks : ask.deed ≡ Acts (Post (Peer p) (Message m))) (kind : m.kind ≡ Election) (begins : acting asked ≡ true)
    (after : Within (Here start ∷ idle) asked) where
  abbrev First : List Seen
  First = Here ask ∷ asked

  abbrev Opened : List Seen → Type 0
  Opened seen = Open p m ask.tick seen

  candidate : (seen : List Seen) → stood seen ≡ Here start ∷ idle → role seen ≡ Candidate
  candidate seen e = stood_role start idle seen e ∙ (let is = stands in rw is refl)

  -- one deed more, while the port is a candidate
  module _ (d : Did) (before : List Seen) (fits : DeedFits setup d.deed d before) (keeps : KeepsAt d.deed d before) (old : GaveFits d.deed d before)
      (open_is : Opened before) (low : ask.tick ≤ d.tick) (soon : d.tick < ask.tick + TRIES * RETRY) (start_in : Within (Here start ∷ idle) before)
      (still : stood (Here d ∷ before) ≡ Here start ∷ idle) (unacked : d.deed ≢ Acts (Acked p)) (last : is_asking p start.step.at d before ≡ false) where
    same : open_to p (Here d ∷ before) ≡ open_to p before → Opened (Here d ∷ before)
    same e = record { first = open_is.first; older = open_is.older; open_is = e ∙ open_is.open_is; deed = open_is.deed; since = open_is.since }

    changed : (r : Act) → d.deed ≡ Acts r → stood_after (Acts r) (Here d ∷ before) (stood before) ≡ Here d ∷ before → {A : Type 0} → A
    changed r is e =
        let now : Here d ∷ before ≡ Here start ∷ idle = sym e ∙ (ap (λ k. stood_after k (Here d ∷ before) (stood before)) (sym is) ∙ still) in
        let few = Within_length (Here start ∷ idle) before start_in in
        let long = ap length now in
        absurd (omega (arith, few, long))

    sending-age : (s : Sending) → open_send p before ≡ Some s → ask.tick ≤ s.began
    sending-age s e =
        let one : record { began = open_is.first.tick; posts = posts_of p before; message = m } ≡ s =
        some_same _ s (sym (sending_of p m ask.tick before open_is) ∙ e) in
        let began : open_is.first.tick ≡ s.began = ap (λ (k : Sending). k.began) one in
        let since = open_is.since in
        omega (arith, began, since)
      where
        some_same : (a b : Sending) → Some a ≡ Some b → a ≡ b
        some_same a b k = cc

    sending-message : (s : Sending) → open_send p before ≡ Some s → m ≡ s.message
    sending-message s e =
        let one : record { began = open_is.first.tick; posts = posts_of p before; message = m } ≡ s =
        some_same _ s (sym (sending_of p m ask.tick before open_is) ∙ e) in
        ap (λ (k : Sending). k.message) one
      where
        some_same : (a b : Sending) → Some a ≡ Some b → a ≡ b
        some_same a b k = cc

    -- a post to p that begins a send
    anew : (n : MessageValue) → d.deed ≡ Acts (Post (Peer p) (Message n)) → is_numbered n.kind ≡ true → acting before ≡ true → role before ≡ Candidate →
        Opened (Here d ∷ before)
    anew n is numbered begins stands_still = elim (by_number n.kind numbered) [
      | inl correction ↦
          let fit : DeedFits setup (Acts (Post (Peer p) (Message n))) d before = subst (λ k. DeedFits setup k d before) is fits in
          let leads = (correction_fits setup n.kind d before p n correction fit.fits).leads in
          let bad : ⊥ = (let both = sym stands_still ∙ leads in cc) in
          absurd bad
      | inr own ↦
          let fit : StandFits (Acts (Post (Peer p) (Message n))) d before = subst (λ k. StandFits k d before) is keeps.fits in
          elim (fit.0 own stands_still) [
            | inl now ↦
                let at : (d.step.at == start.step.at) ≡ true = now-at now in
                let election : is_kind_election n.kind ≡ true = (let k = now.kind in rw k refl) in
                let own : (p.0 == p.0) ≡ true = eq-eqb p.0 p.0 refl in
                let asking : is_asking p start.step.at d before ≡ true = rw (is, own, election, begins, at) refl in
                absurd (true≢false (sym asking ∙ last))
            | inr again ↦
                let message : m ≡ n = sending-message again.sending again.open_is ∙ again.same in
                let own : (p.0 == p.0) ≡ true = eq-eqb p.0 p.0 refl in
                record {
                  first = d;
                  older = before;
                  open_is = rw (is, own, numbered, begins) refl;
                  deed = is ∙ ap (λ k. Acts (Post (Peer p) (Message k))) (sym message);
                  since = low;
                }
          ]
    ] where
      now-at : (now : AsksNow d before n) → (d.step.at == start.step.at) ≡ true
      now-at now =
          let stood_is : stood before ≡ Here start ∷ idle = ap (λ k. stood_after k (Here d ∷ before) (stood before)) (sym is) ∙ still in
          let first : Here now.start ∷ now.idle ≡ Here start ∷ idle = sym now.stood_is ∙ stood_is in
          let one : now.start ≡ start = cc in
          eq-eqb d.step.at start.step.at (sym (ap (λ (s : Did). s.step.at) (sym one) ∙ ap (λ s. s.at) now.now))

    by-flag : (q : PeerId) (n : MessageValue) → d.deed ≡ Acts (Post (Peer q) (Message n)) → role before ≡ Candidate → (b : Bool) →
        ((q.0 == p.0) && (is_numbered n.kind && acting before)) ≡ b → Opened (Here d ∷ before)
    by-flag q n is candidate_is true e =
        let both = and_parts (q.0 == p.0) (is_numbered n.kind && acting before) e in
        let more = and_parts (is_numbered n.kind) (acting before) both.1 in
        anew n (is ∙ ap (λ r. Acts (Post (Peer r) (Message n))) (same_peer q p both.0)) more.0 more.1 candidate_is
    by-flag q n is candidate_is false e = same (rw (is, e) refl)

    ack-flag : (q : PeerId) → d.deed ≡ Acts (Acked q) → (b : Bool) → (q.0 == p.0) ≡ b → Opened (Here d ∷ before)
    ack-flag q is true e = absurd (unacked (is ∙ ap (λ r. Acts (Acked r)) (same_peer q p e)))
    ack-flag q is false e = same (rw (is, e) refl)

    gave-flag : (q : PeerId) → d.deed ≡ Acts (Gave q) → (b : Bool) → (q.0 == p.0) ≡ b → Opened (Here d ∷ before)
    gave-flag q is true e =
        let given : IsOld q d before = subst (λ k. GaveFits k d before) is old in
        let there : open_send p before ≡ Some given.sending = subst (λ k. open_send k before ≡ Some given.sending) (same_peer q p e) given.open_is in
        let young = sending-age given.sending there in
        let aged = given.old in
        absurd (omega (arith, young, aged, soon))
    gave-flag q is false e = same (rw (is, e) refl)

    pub one-more : Opened (Here d ∷ before)
    one-more = by_deed d.deed refl where
      before-stood : (deed : Deed) → d.deed ≡ deed → stood_after deed (Here d ∷ before) (stood before) ≡ stood before → stood before ≡ Here start ∷ idle
      before-stood deed is e = sym e ∙ (ap (λ k. stood_after k (Here d ∷ before) (stood before)) (sym is) ∙ still)

      by_deed : (deed : Deed) → d.deed ≡ deed → Opened (Here d ∷ before)
      by_deed (Acts Boot) is =
          let none : stood (Here d ∷ before) ≡ [] = rw is refl in
          let bad : ⊥ = (let k = sym none ∙ still in cc) in
          absurd bad
      by_deed (Acts (Become r)) is = changed (Become r) is refl
      by_deed (Acts (Post (Peer q) (Message n))) is =
          by-flag q n is (candidate before (before-stood (Acts (Post (Peer q) (Message n))) is refl))
          ((q.0 == p.0) && (is_numbered n.kind && acting before)) refl
      by_deed (Acts (Acked q)) is = ack-flag q is (q.0 == p.0) refl
      by_deed (Acts (Gave q)) is = gave-flag q is (q.0 == p.0) refl
      by_deed _ is = same (rw is refl)

  -- so it is in a past that goes on from there
  pub kept_open : (seen : List Seen) → Within First seen → PortFits setup seen → Kept seen → Owes GaveFits seen → Rising seen →
      tick_of (plain seen) < ask.tick + TRIES * RETRY → ((s : List Seen) → Within s seen → Within First s → stood s ≡ Here start ∷ idle) →
      ((d : Did) (before : List Seen) → Within (Here d ∷ before) seen → Within First before → Opened before → d.deed ≢ Acts (Acked p)) →
      ((d : Did) (before : List Seen) → Within (Here d ∷ before) seen → Within First before → is_asking p start.step.at d before ≡ false) → Opened seen
  kept_open [] w fits keeps old up soon still unacked last = let bad : ⊥ = cc in absurd bad
  kept_open (s ∷ before) (inl e) fits keeps old up soon still unacked last = subst (λ k. Opened k) e (record {
    first = ask;
    older = asked;
    open_is = opens p m ask asked asks (rw kind refl) begins;
    deed = asks;
    since = omega arith;
  })
  kept_open (Elsewhere d ∷ before) (inr w) fits keeps old up soon still unacked last =
      let o = kept_open before w fits keeps.1 old up.1 (let le = up.0 in omega (arith, le, soon)) (λ s v f. still s (inr v) f)
      (λ c b v f o. unacked c b (inr v) f o) (λ c b v f. last c b (inr v) f) in
      record { first = o.first; older = o.older; open_is = o.open_is; deed = o.deed; since = o.since }
  kept_open (Here d ∷ before) (inr w) fits keeps old up soon still unacked last =
      let le = up.0 in
      let o = kept_open before w fits.1 keeps.1 old.1 up.1 (omega (arith, le, soon)) (λ s v f. still s (inr v) f)
      (λ c b v f o. unacked c b (inr v) f o) (λ c b v f. last c b (inr v) f) in
      let low = tick_low ask asked before w up.1 in
      one-more d before fits.0 keeps.0 old.0 o (omega (arith, low, le)) soon (Within_through (Here start ∷ idle) First before (inr after) w)
      (still (Here d ∷ before) (Within_all (Here d ∷ before)) (inr w)) (unacked d before (Within_all (Here d ∷ before)) w o)
      (last d before (Within_all (Here d ∷ before)) w)
