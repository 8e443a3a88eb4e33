-- What the acts of small histories owe, where it is found by computing: each premise computes, and `search debts` proves it.
use Rattle.std.proofs.Common.{sym, ap, subst, true≢false, ◌∙◌, ◌≡◌, ◌≢◌, ◌≤◌, ◌<◌, ◌⊎◌, ◌-ℤ◌, Bool, true, false, ℕ, ◌+◌, ◌%◌, ℤ, pos, List, [], ◌∷◌, Option}
use Rattle.std.proofs.Common.{Some, None}
use Rattle.tsp_rules.specs.Values.{Took, Post, Ring, Close, CloseAlarm, Correct, Datagram, Taken, Message, Stamp, Good, Kind, Ack, AdjTime, Election, QuitKind}
use Rattle.tsp_rules.specs.Values.{HOLD, SetTime, SlaveUp, Nothing, PeerId, Place, Peer, Follow, Master, Role, Request, Reply, CLOSE, QUIET, ROUND, SLACK}
use Rattle.tsp_base.specs.Words.{Acts, Booted, Cause, Deed, Did, Line, Seen, Here, plain, MessageValue, Turned, boot_tick, target, ticket, word, Received}
use Rattle.tsp_base.specs.Words.{acting, did_of, message_in, message_of, role, taken, Sampled, best, exchange, is_going, started, sample_diff, sample_err}
use Rattle.tsp_base.specs.Words.{is_acknowledged, is_correction, last_post, last_to, open_to, peer_of, ReplyValue, Setup, TakesFrom, Receives, Undisturbed}
use Rattle.tsp_base.specs.Words.{Within, time_in}
use Rattle.tsp_promises.specs.AckFits.{AckFits, AckedFits, Acknowledges, Answers, EndsFits}
use Rattle.tsp_promises.specs.{CorrectFits.WhyCorrect, CorrectFits.ByMaster, CorrectFits.amount_of, StepFacts.backed, StepFacts.closed}
use Rattle.tsp_promises.{specs.Fits.Posted, specs.Fits.node_of, specs.HoldFits.AcceptFits, proofs.leads.Leaves.nil_cons}
use Rattle.tsp_promises.specs.{CorrectionFits.CorrectionFits, CorrectionFits.FollowedBy, CorrectionFits.SetsTarget, MeasureFits.SampleFits}
use Rattle.tsp_promises.specs.{DeedFits.AskedEarly, DeedFits.is_answered_early, QuitFits.QuitFits, RoundFits.CloseFits, RoundFits.StartFits}
use Rattle.tsp_promises.proofs.{witness.Histories.begins, witness.Histories.post_at, witness.Histories.still, witness.HistoriesFit.came}
use Rattle.tsp_promises.proofs.{promised.SendProof.one_message}
pub use Rattle.std.proofs.Common.{arith, inl, inr}
pub use Rattle.std.proofs.lemmas.Int.{ints}
pub use Rattle.tsp_promises.specs.CorrectFits.{ByRound}
pub use Rattle.tsp_promises.proofs.leads.Leaves.{none-some}

pub not_same : (x y : ℕ) → x < y → x ≢ y
not_same x y l e = omega arith

-- the first of a list, or some value where there is none, and the others

abbrev pub line_in : List Line → Line
line_in [] = begins 0 0 Turned
line_in (l ∷ t) = l

abbrev pub behind : List Line → List Line
behind [] = []
behind (l ∷ t) = t

abbrev pub did_in : List Seen → Did
did_in [] = (begins 0 0 Turned).did
did_in (s ∷ t) = did_of s

abbrev pub rest_of : List Seen → List Seen
rest_of [] = []
rest_of (s ∷ t) = t

abbrev pub message_or : Option MessageValue → MessageValue
message_or None = record { kind = Ack; number = 0; body = Nothing; name = [] }
message_or (Some m) = m

-- what a step took, and from whom

abbrev pub datagram_in : Taken → Datagram
datagram_in (Good d) = d
datagram_in _ = Stamp (Request 0 0)

abbrev pub heard_in : Option Received → MessageValue
heard_in None = message_or None
heard_in (Some r) = message_or (message_in r.taken)

abbrev pub reply_of : Datagram → ReplyValue
reply_of (Stamp (Reply r)) = r
reply_of _ = record { ticket = 0; word = 0; counter = 0; reading = pos 0 }

abbrev pub reply_in : Option Received → ReplyValue
reply_in None = reply_of (Stamp (Request 0 0))
reply_in (Some r) = reply_of (datagram_in r.taken)

abbrev pub sample_in : Option Sampled → Sampled
sample_in None = record { counter = 0; diff = pos 0; err = pos 0; ticket = 0; trip = pos 0; place = [] }
sample_in (Some x) = x

abbrev pub master_in : Role → PeerId
master_in (Follow p) = p
master_in _ = peer_of 0

abbrev pub word_in : Cause → ℕ
word_in (Booted word wall) = word
word_in _ = 0

pub booted_at : {cause : Cause} {wall : ℤ} → cause ≡ Booted (word_in cause) wall → (word : ℕ) × (cause ≡ Booted word wall)
booted_at {cause} is = (word_in cause, is)

-- what a line takes is the post of this number
pub came_at : {strict : Bool} {l : Line} {h : List Line} {k : ℕ} {from : Place} {taken : Taken} → post_at k h ≡ line_in (post_at k h) ∷ behind (post_at k h) →
    (line_in (post_at k h)).did.deed ≡ Acts (Post (Peer (peer_of (node_of l))) (datagram_in taken)) →
    (still strict).net (node_of (line_in (post_at k h))) (line_in (post_at k h)).port ≡ (still strict).net (node_of l) l.port →
    from ≡ Peer (peer_of (node_of (line_in (post_at k h)))) → taken ≡ Good (datagram_in taken) → Posted (still strict) l h k from taken
came_at found deed net from taken = came found deed net from taken

-- an ACK
pub acks_at : {to : Place} {before : List Seen} {number : ℕ} → TakesFrom before to (Message (heard_in (taken before))) → (heard_in (taken before)).number ≡
    number → Answers (heard_in (taken before)).kind to before number → AckFits to before number
acks_at {to} {before} took number answers = record { message = heard_in (taken before); took = took; number_is = number; answers = answers }

pub acknowledges_at : {answer : Kind} {before : List Seen} {p : PeerId} {number : ℕ} → Receives before p (Message (heard_in (taken before))) →
    (heard_in (taken before)).kind ≡ answer → (heard_in (taken before)).number ≡ number → Acknowledges answer before p number
acknowledges_at {answer} {before} took kind number = record { message = heard_in (taken before); took = took; kind = kind; number_is = number }

-- an Acked ends the send of this message
pub acked_of : (seen : List Seen) (set : MessageValue) (p : PeerId) (start : Did) (rest : List Seen) → open_to p seen ≡ Here start ∷ rest → start.deed ≡
    Acts (Post (Peer p) (Message set)) → EndsFits seen p set → AckedFits seen p
acked_of seen set p start rest is deed ends first older m e f =
    let h : Here start ∷ rest ≡ Here first ∷ older = sym is ∙ e in
    let same : start ≡ first = cc in
    let message : set ≡ m = one_message p p set m (sym deed ∙ (ap (λ (z : Did). z.deed) same ∙ f)) in
    subst (λ z. EndsFits seen p z) message ends

pub ends_at : {seen : List Seen} {p : PeerId} {first : Did} {older : List Seen} {m : MessageValue} → open_to p seen ≡ Here first ∷ older → first.deed ≡
    Acts (Post (Peer p) (Message m)) →
    open_to p seen ≡ Here (did_in (open_to p seen)) ∷ rest_of (open_to p seen) → (did_in (open_to p seen)).deed ≡
    Acts (Post (Peer p) (Message (message_or (message_of (did_in (open_to p seen)).deed)))) →
    EndsFits seen p (message_or (message_of (did_in (open_to p seen)).deed)) → EndsFits seen p m
ends_at {seen} {p} {first} {older} {m} e f is deed ends = acked_of seen (message_or (message_of (did_in (open_to p seen)).deed)) p (did_in (open_to p seen))
    (rest_of (open_to p seen)) is deed ends first older m e f

-- a SETTIME that answers a SLAVEUP, the first correction to its peer
pub sets_at : {here : Did} {before : List Seen} {p : PeerId} {m : MessageValue} → boot_tick (plain before) + QUIET ≤ here.tick → role before ≡ Master →
    acting before ≡ true → m.kind ≡ SetTime → Receives before p (Message (heard_in (taken before))) →
    (heard_in (taken before)).kind ≡ SlaveUp → (heard_in (taken before)).number ≡ m.number → last_post p before ≡ None → SetsTarget here before m →
    CorrectionFits here before p m
sets_at {here} {before} rested leads acts kind took asks number first sets = record {
  leads = leads;
  begins = λ e. record {
    rested = rested;
    from = inl (record { sets = kind; message = heard_in (taken before); took = took; kind = asks; number = number });
    may = inl (record { long = λ x e. none-some x (sym first ∙ e) });
    sets = λ e. sets;
  };
  repeats = λ e. absurd (true≢false (sym acts ∙ e));
}

abbrev pub mean_in : Deed → ℤ
mean_in (Acts (Close count lo size mean)) = mean
mean_in _ = pos 0

-- this is a Close
pub record Shuts (deed : Deed) : Type 0 where
  pub count : ℕ
  pub lo : ℤ
  pub size : ℤ
  pub is : deed ≡ Acts (Close count lo size (mean_in deed))

abbrev pub stepped_in : Deed → Bool
stepped_in (Acts (Correct amount stepped shown)) = stepped
stepped_in _ = false

abbrev pub shown_in : Deed → ℤ
shown_in (Acts (Correct amount stepped shown)) = shown
shown_in _ = pos 0

-- the Correct right after the Close is the last line, or the one before it
pub moved_first : {close : Did} {past before : List Seen} {mean : ℤ} → Within (Here (did_in before) ∷ (Here close ∷ past)) before → (did_in before).deed ≡
    Acts (Correct mean (stepped_in (did_in before).deed) (shown_in (did_in before).deed)) → FollowedBy close past before mean
moved_first {close} {past} {before} place deed = record {
  next = did_in before;
  place = place;
  stepped = stepped_in (did_in before).deed;
  shown = shown_in (did_in before).deed;
  deed = deed;
}

pub moved_second : {close : Did} {past before : List Seen} {mean : ℤ} → Within (Here (did_in (rest_of before)) ∷ (Here close ∷ past)) before →
    (did_in (rest_of before)).deed ≡ Acts (Correct mean (stepped_in (did_in (rest_of before)).deed) (shown_in (did_in (rest_of before)).deed)) →
    FollowedBy close past before mean
moved_second {close} {past} {before} place deed = record {
  next = did_in (rest_of before);
  place = place;
  stepped = stepped_in (did_in (rest_of before)).deed;
  shown = shown_in (did_in (rest_of before)).deed;
  deed = deed;
}

-- an ADJTIME that the step's last Close begins, after an acknowledged correction
pub adjusts_at : {here : Did} {before : List Seen} {p : PeerId} {m : MessageValue} → boot_tick (plain before) + QUIET ≤ here.tick → role before ≡ Master →
    acting before ≡ true → m.kind ≡ AdjTime →
    closed before ≡ Here (did_in (closed before)) ∷ rest_of (closed before) → Shuts (did_in (closed before)).deed → (did_in (closed before)).step.at ≡
    here.step.at →
    started (rest_of (closed before)) ≡ Here (did_in (started (rest_of (closed before)))) ∷ rest_of (started (rest_of (closed before))) →
    (did_in (closed before)).tick ≤ (did_in (started (rest_of (closed before)))).tick + (CLOSE + SLACK) →
    Undisturbed (plain (rest_of (started (rest_of (closed before))))) (plain (rest_of (closed before))) → best p (rest_of (closed before)) ≡
    Some (sample_in (best p (rest_of (closed before)))) →
    m.number ≡ (sample_in (best p (rest_of (closed before)))).ticket → time_in m.body ≡
    mean_in (did_in (closed before)).deed -ℤ (sample_in (best p (rest_of (closed before)))).diff → taken before ≡ None →
    (mean_in (did_in (closed before)).deed ≡ pos 0) ⊎ FollowedBy (did_in (closed before)) (rest_of (closed before)) before
    (mean_in (did_in (closed before)).deed) →
    last_to p before ≡ Here (did_in (last_to p before)) ∷ rest_of (last_to p before) → (did_in (last_to p before)).deed ≡
    Acts (Post (Peer p) (Message (message_or (message_of (did_in (last_to p before)).deed)))) →
    m.number ≡ ((message_or (message_of (did_in (last_to p before)).deed)).number + 1) % 32768 → is_acknowledged p before ≡ true →
    CorrectionFits here before p m
adjusts_at {here} {before} {p} rested leads acts kind is shuts at start_is soon undisturbed best_is number value untaken followed last_is last_deed next
    acknowledged = record {
      leads = leads;
      begins = λ e. record {
        rested = rested;
        from = inr (record {
          close = did_in (closed before);
          past = rest_of (closed before);
          mean = mean_in (did_in (closed before)).deed;
          sample = sample_in (best p (rest_of (closed before)));
          is = record {
            is = is;
            count = shuts.count;
            lo = shuts.lo;
            size = shuts.size;
            deed = shuts.is;
            at = at;
            start = _;
            idle = _;
            start_is = start_is;
            soon = soon;
            undisturbed = undisturbed;
            best_is = best_is;
            number = number;
            value = λ k. value;
            untaken = untaken;
            followed = followed;
          };
        });
        may = inr (record { last = _; older = _; is = last_is; message = _; deed = last_deed; number = next; acknowledged = acknowledged });
        sets = λ e. no-setting (sym kind ∙ e);
      };
      repeats = λ e. absurd (true≢false (sym acts ∙ e));
    } where
      no-setting : {B : Type 0} → AdjTime ≡ SetTime → B
      no-setting e = let bad : ⊥ = cc in absurd bad

-- a Correct that takes a correction
pub obeys_at : {setup : Setup} {here : Did} {before : List Seen} {amount : ℤ} → before ≡ Here (did_in before) ∷ rest_of before → (did_in before).deed ≡
    Acts (Took (Peer (master_in (role before))) (Good (Message (heard_in (taken before))))) →
    is_correction (heard_in (taken before)).kind ≡ true → (heard_in (taken before)).number ≡ ticket (plain before) → amount ≡
    amount_of (heard_in (taken before)).kind (time_in (heard_in (taken before)).body) (target (plain before) here.tick) →
    role before ≡ Follow (master_in (role before)) → WhyCorrect setup here before amount
obeys_at {setup} {here} {before} is deed kind number amount follows = ByMaster (record {
  from = master_in (role before);
  message = heard_in (taken before);
  took = did_in before;
  past = rest_of before;
  is = is;
  deed = deed;
  kind = kind;
  number = number;
  amount_is = amount;
  follows = follows;
})

-- the first round of a life
pub first_round : {here : Did} {before : List Seen} → started before ≡ [] → StartFits here before
first_round none = record { spaced = λ start idle e. nil_cons (Here start) idle (sym none ∙ e) }

-- a round after another one
pub next_round : {here : Did} {before : List Seen} → started before ≡ Here (did_in (started before)) ∷ rest_of (started before) →
    (did_in (started before)).tick + ROUND ≤ here.tick → StartFits here before
next_round {here} {before} is long = record { spaced = λ start idle e. began start idle (sym is ∙ e) } where
  began : (start : Did) (idle : List Seen) → Here (did_in (started before)) ∷ rest_of (started before) ≡ Here start ∷ idle → start.tick + ROUND ≤ here.tick
  began start idle e = let same : did_in (started before) ≡ start = cc in subst (λ (z : Did). z.tick + ROUND ≤ here.tick) same long

-- a Close at its time
pub closes_at : {here : Did} {before : List Seen} → role before ≡ Master → before ≡ Here (did_in before) ∷ rest_of before → (did_in before).deed ≡
    Acts (Ring CloseAlarm) → is_going (rest_of before) ≡ true →
    started before ≡ Here (did_in (started before)) ∷ rest_of (started before) → (did_in (started before)).tick + CLOSE ≤ here.tick →
    here.tick ≤ (did_in (started before)).tick + (CLOSE + SLACK) →
    Undisturbed (plain (rest_of (started before))) (plain before) → CloseFits here before
closes_at {here} {before} leads is rings going start_is over soon undisturbed = record {
  leads = leads;
  ring = did_in before;
  past = rest_of before;
  is = is;
  rings = rings;
  going = going;
  start = did_in (started before);
  idle = rest_of (started before);
  start_is = start_is;
  over = over;
  soon = soon;
  undisturbed =
      undisturbed;
}

-- a Sample of the reply that the step took
pub samples_at : {here : Did} {before : List Seen} {p : PeerId} {counter number : ℕ} {diff err : ℤ} → started before ≡ Here (did_in (started before)) ∷
    rest_of (started before) → Undisturbed (plain (rest_of (started before))) (plain before) → is_going before ≡ true →
    exchange p counter before ≡ Here (did_in (exchange p counter before)) ∷ rest_of (exchange p counter before) →
    Receives before p (Stamp (Reply (reply_in (taken before)))) → (reply_in (taken before)).word ≡ word (plain before) → (reply_in (taken before)).counter ≡
    counter →
    number ≡ (reply_in (taken before)).ticket → diff ≡ sample_diff (target (plain (rest_of (exchange p counter before)))
    (did_in (exchange p counter before)).tick) (reply_in (taken before)).reading (target (plain before) here.tick) →
    err ≡ sample_err (target (plain (rest_of (exchange p counter before))) (did_in (exchange p counter before)).tick) (target (plain before) here.tick) →
    SampleFits here before p counter diff err number
samples_at {here} {before} {p} {counter} start_is undisturbed going exchange_is took word_is counter_is number diff err =
    record {
      start = did_in (started before);
      idle = rest_of (started before);
      start_is = start_is;
      undisturbed = undisturbed;
      going = going;
      post = did_in (exchange p counter before);
      older = rest_of (exchange p counter before);
      exchange_is = exchange_is;
      reply = reply_in (taken before);
      took =
          took;
      word_is = word_is;
      counter_is = counter_is;
      number_is = number;
      diff_is = diff;
      err_is = err;
    }

-- the last Back was long ago, or of the same candidate
pub holds_at : {now a x : ℕ} {b q p : PeerId} → ◌≡◌ {A = Option (ℕ × PeerId)} (Some (a, b)) (Some (x, q)) → (b ≡ p) ⊎ (a + HOLD ≤ now) → (q ≡ p) ⊎
    (x + HOLD ≤ now)
holds_at {now} {a} {x} {b} {q} {p} e d = let same : (a, b) ≡ (x, q) = cc in subst (λ (z : ℕ × PeerId). (z.1 ≡ p) ⊎ (z.0 + HOLD ≤ now)) same d

pub accepts_at : {before : List Seen} {p : PeerId} {number : ℕ} → backed before ≡ Some p → Receives before p (Message (heard_in (taken before))) →
    (heard_in (taken before)).kind ≡ Election → (heard_in (taken before)).number ≡ number → AcceptFits before p number
accepts_at {before} backs took kind number = record { backs = backs; message = heard_in (taken before); took = took; kind = kind; number_is = number }

pub quits_at : {before : List Seen} {p : PeerId} → before ≡ Here (did_in before) ∷ rest_of before → (did_in before).deed ≡
    Acts (Took (Peer p) (Good (Message (heard_in (taken before))))) → (heard_in (taken before)).kind ≡ QuitKind → QuitFits before p
quits_at {before} is deed kind = record { message = heard_in (taken before); took = did_in before; past = rest_of before; is = is; deed = deed; kind = kind }

pub asked_early_at : {to : Place} {before : List Seen} {number : ℕ} → TakesFrom before to (Message (heard_in (taken before))) →
    is_answered_early (heard_in (taken before)).kind ≡ true → (heard_in (taken before)).number ≡ number → AskedEarly to before number
asked_early_at {to} {before} took kind number = record { message = heard_in (taken before); took = took; kind = kind; number_is = number }

pub ruleset debts = (
  arith,
  ints,
  inl,
  inr,
  came_at,
  acks_at,
  acknowledges_at,
  ends_at,
  sets_at,
  moved_first,
  moved_second,
  adjusts_at,
  obeys_at,
  ByRound,
  first_round,
  next_round,
  closes_at,
  samples_at,
  booted_at,
  holds_at,
  accepts_at,
  quits_at,
  asked_early_at,
)
