-- Where a correction comes from: it follows a Join, a round closed that measured its addressee, or it is posted again.
use Rattle.std.proofs.Common.{sym, subst, arith, true≢false, ltb-false, ◌∙◌, ◌≡◌, ◌≤◌, ◌⊎◌, inl, inr, ℕ, ◌+◌, ℤ, ◌-ℤ◌, ◌==◌, ◌||◌, nat_le, nat_lt}
use Rattle.std.proofs.Common.{Bool, true, false, filter, if◌then◌else◌, List, [], ◌∷◌, map, Option, None, Some, refl}
use Rattle.tsp_rules.specs.Values.{Act, Post, Ring, Late, Close, Abandon, Gave, Join, Leave, Alarm, CloseAlarm, PeerId, Peer}
use Rattle.tsp_rules.specs.Values.{Message, SPAN, LAST, TRIES}
use Rattle.tsp_rules.specs.Values.{Kind, AdjTime}
use Rattle.tsp_rules.specs.Values.{SetTime}
use Rattle.tsp_base.specs.Words.{Acts, Deed, Did, Estimate, Here, Leads, MessageValue, Past, Row, Seen, Sending, either_by, estimate}
use Rattle.tsp_base.specs.Words.{for_each, grown, in_table, is_correction, is_measured, nothing, open_send, posts_time, puts, reading, Step}
use Rattle.tsp_base.specs.Words.{◌followed_by◌}
use Rattle.tsp_base.proofs.LeadsLemmas.{Leads_each, Leads_either, Leads_from, Leads_nothing, Leads_puts, Leads_reading, Leads_then}
use Rattle.tsp_promises.specs.StepFacts.{closed}
use Rattle.tsp_group.specs.{Groups.group_of, declared.group.Group.Group}
use Rattle.tsp_rules.specs.Answers.{alarm_rings, rings}
use Rattle.tsp_rules.specs.{ClockRows.adjusts, ClockRows.can_adjust}
use Rattle.tsp_rules.specs.Guards.{is_due, is_in_time, is_slave_at, target_at}
use Rattle.tsp_rules.specs.RoundRows.{Standing, abandons, close_act, close_rings, closes, closes_with, corrects_by, corrects_peer, estimates, is_near, mean_by}
use Rattle.tsp_rules.specs.RoundRows.{moves, round_at, standing}
use Rattle.tsp_rules.specs.SendRows.{begins_adjtime, begins_settime, due_send, due_sends, gives_up, is_send_due, is_spent, leaves_after, may_correct, may_set}
use Rattle.tsp_rules.specs.SendRows.{open_at, peers_at, repeats, repeats_send}
use Rattle.tsp_rules.proofs.GuardFacts.{same_peer}
use Rattle.tsp_rules.proofs.BuiltAnswers.{built_rings, ring_sorts}
use Rattle.tsp_rules.proofs.{Built.Built, EmitsBuilt.emits_built, EmitsBuilt.nothing_owed, Unchanged.unchanged}
use Rattle.tsp_rules.proofs.Emits.{Sort, Correcting, is_in, is_part, sort_of, sort_of_kind}
use Rattle.tsp_progress.proofs.{DebtKeeps.OwedBy, DebtKeeps.Paid, DebtKeeps.pays, PortWakes.Leads_if}

-- p has joined right before, in the same step
pub record JoinedNow (p : PeerId) (step : Step) (before : List Seen) : Type 0 where
  pub join : Did
  pub older : List Seen
  pub is : before ≡ Here join ∷ older
  pub deed : join.deed ≡ Acts (Join p)
  pub same : join.step ≡ step

-- p's best sample is FAR or more away
pub record FarBest (p : PeerId) (past : List Seen) : Type 0 where
  pub best : Estimate
  pub is : estimate p past ≡ Some best
  pub far : is_near best.diff ≡ false

-- the step closed a round that measured p, which is in the table if it was then
pub record AtRound (p : PeerId) (here : Did) (before : List Seen) (m : MessageValue) : Type 0 where
  pub close : Did
  pub past : List Seen
  pub is : closed before ≡ Here close ∷ past
  pub step : close.step ≡ here.step
  pub count : ℕ
  pub lo : ℤ
  pub size : ℤ
  pub mean : ℤ
  pub deed : close.deed ≡ Acts (Close count lo size mean)
  pub measured : is_measured p past ≡ true
  pub kept : in_table p past ≡ true → in_table p before ≡ true
  -- a SETTIME is for a clock that is FAR or more away
  pub far : m.kind ≡ SetTime → FarBest p past

-- the message is that of the open send, which began not long ago
pub record Again (p : PeerId) (here : Did) (before : List Seen) (m : MessageValue) : Type 0 where
  pub sending : Sending
  pub open_is : open_send p before ≡ Some sending
  pub message : sending.message ≡ m
  pub soon : here.tick ≤ sending.began + LAST

abbrev pub SentFor : PeerId → Did → List Seen → MessageValue → Type 0
SentFor p here before m = JoinedNow p here.step before ⊎ (AtRound p here before m ⊎ Again p here before m)

abbrev pub SentFits : Deed → Did → List Seen → Type 0
SentFits (Acts (Post (Peer p) (Message m))) here before = is_correction m.kind ≡ true → SentFor p here before m
SentFits _ here before = Unit {0}

unsent : (sorts : List Sort) → is_in Correcting sorts ≡ false → (k : Kind) → is_in (sort_of_kind k) sorts ≡ true → is_correction k ≡ true → {A : Type 0} → A
unsent sorts none AdjTime e c = absurd (true≢false (sym e ∙ none))
unsent sorts none SetTime e c = absurd (true≢false (sym e ∙ none))
unsent sorts none _ e c = absurd (true≢false (sym c))

uncorrecting : (sorts : List Sort) → is_in Correcting sorts ≡ false → (a : Act) → is_in (sort_of a) sorts ≡ true → (d : Did) (before : List Seen) →
    SentFits (Acts a) d before
uncorrecting sorts none (Post (Peer p) (Message m)) e d before = λ c. unsent sorts none m.kind e c
uncorrecting sorts none _ e d before = tt

pub by_correcting : OwedBy Correcting SentFits
by_correcting = record { mark = λ d before. tt; free = uncorrecting }

abbrev pub Base : ℕ → Past → Type 0
Base x past = Paid SentFits x past

pub calm_built : {sorts : List Sort} {k c : ℕ} {r r' : Row} → is_part sorts sorts ≡ true → is_in Correcting sorts ≡ false →
    Built unchanged nothing_owed sorts k c r r' → Leads Base r Base
calm_built {sorts} {r = r} own apart d = pays by_correcting sorts r apart (emits_built own d)

-- sends that are due

left : (p : PeerId) (kind : Kind) → Leads Base (leaves_after p kind) Base
unfolding leaves_after
left p kind = Leads_if (is_correction kind) (either_by (is_slave_at p) (puts (Leave p)) nothing) nothing
    (Leads_either (is_slave_at p) (puts (Leave p)) nothing (Leads_puts (Leave p) (λ x past h. (tt, h.0))) (Leads_from (λ x past h. h.0) Leads_nothing))
    Leads_nothing

unspent : (s : Sending) (x : ℕ) → (nat_lt (s.began + LAST) x || nat_le TRIES s.posts) ≡ false → x ≤ s.began + LAST
unspent s x e = by_case (nat_lt (s.began + LAST) x) refl e where
  by_case : (b : Bool) → nat_lt (s.began + LAST) x ≡ b → (b || nat_le TRIES s.posts) ≡ false → x ≤ s.began + LAST
  by_case true is k = absurd (true≢false k)
  by_case false is k = let le = ltb-false (s.began + LAST) x is in omega (arith, le)

due : (p : PeerId) (o : Option Sending) → Leads (λ x past. Base x past × (open_at p x past ≡ o)) (repeats_send p o) Base
unfolding repeats_send gives_up repeats
due p None = Leads_from (λ x past h. h.0) Leads_nothing
due p (Some s) =
    let gives = puts (Gave p) followed_by leaves_after p s.message.kind in
    let again = puts (Post (Peer p) (Message s.message)) in
    Leads_either (is_send_due s) (either_by (is_spent s) gives again) nothing
    (Leads_either (is_spent s) gives again
    (Leads_then {Q = Base} (puts (Gave p)) (leaves_after p s.message.kind) (Leads_puts (Gave p) (λ x past h. (tt, h.0.0.0))) (left p s.message.kind))
    (Leads_puts (Post (Peer p) (Message s.message)) (λ x past h. (
      λ c. inr (inr (record { sending = s; open_is = h.0.0.1; message = refl; soon = unspent s x h.1 })),
      h.0.0.0,
    ))))
    (Leads_from (λ x past h. h.0.0) Leads_nothing)

pub sends : Leads Base due_sends Base
unfolding due_sends due_send
sends = Leads_reading peers_at (for_each (λ p. reading (open_at p) (repeats_send p))) (λ ps. Leads_from (λ x past h. h.0)
    (Leads_each (λ p. reading (open_at p) (repeats_send p)) ps (λ p. Leads_reading (open_at p) (repeats_send p) (due p))))

-- a round's close

abbrev AllSo : List Seen → List Standing → Type 0
AllSo there [] = Unit {0}
AllSo there (s ∷ rest) = ((s.best ≡ estimate s.peer there) × (is_measured s.peer there ≡ true)) × AllSo there rest

so_all : (there : List Seen) (ps : List PeerId) → AllSo there (map (standing there) (filter (λ p. is_measured p there) ps))
so_all there [] = tt
so_all there (p ∷ ps) = by_case (is_measured p there) refl (so_all there ps) where
  by_case : (b : Bool) → is_measured p there ≡ b → AllSo there (map (standing there) (filter (λ p. is_measured p there) ps)) →
      AllSo there (map (standing there) (if b then p ∷ filter (λ p. is_measured p there) ps else filter (λ p. is_measured p there) ps))
  by_case true e rest = ((refl, e), rest)
  by_case false e rest = rest

-- after the Close, these peers are still to be corrected
record Closed (round : List Standing) (x : ℕ) (past : Past) : Type 0 where
  pub paid : Paid SentFits x past
  pub close : Did
  pub there : List Seen
  pub is : closed past.seen ≡ Here close ∷ there
  pub step : close.step ≡ past.step
  pub count : ℕ
  pub lo : ℤ
  pub size : ℤ
  pub mean : ℤ
  pub deed : close.deed ≡ Acts (Close count lo size mean)
  pub so : AllSo there round
  pub kept : (p : PeerId) → in_table p there ≡ true → (in_table p past.seen ≡ true) ⊎ (estimate p there ≡ None)

some_none : {A : Type 0} (b : Estimate) (o : Option Estimate) → Some b ≡ o → o ≡ None → A
some_none b o e n = let bad : ⊥ = (let k = e ∙ n in cc) in absurd bad

-- the correction of the first of them
sent_one : (s : Standing) (rest : List Standing) (b : Estimate) → s.best ≡ Some b → (kind : Kind) → (kind ≡ SetTime → is_near b.diff ≡ false) →
    (number : ℕ) (time : ℤ) → Leads (Closed (s ∷ rest)) (posts_time s.peer kind number time) (Closed rest)
unfolding posts_time
sent_one s rest b e kind far number time = record {
  run = λ x past h. record {
    paid = (
      λ c. inr (inl (record {
        close = h.close;
        past = h.there;
        is = h.is;
        step = h.step;
        count = h.count;
        lo = h.lo;
        size = h.size;
        mean = h.mean;
        deed = h.deed;
        measured = h.so.0.1;
        kept = λ was. elim (h.kept s.peer was) [
          | inl now ↦ now
          | inr none ↦ some_none b (estimate s.peer h.there) (sym e ∙ h.so.0.0) none
        ];
        far = λ k. record { best = b; is = sym h.so.0.0 ∙ e; far = far k };
      })),
      h.paid,
    );
    close = h.close;
    there = h.there;
    is = h.is;
    step = h.step;
    count = h.count;
    lo = h.lo;
    size = h.size;
    mean = h.mean;
    deed = h.deed;
    so = h.so.1;
    kept = h.kept;
  };
}

skipped : (s : Standing) (rest : List Standing) (x : ℕ) (past : Past) → Closed (s ∷ rest) x past → Closed rest x past
skipped s rest x past h = record {
  paid = h.paid;
  close = h.close;
  there = h.there;
  is = h.is;
  step = h.step;
  count = h.count;
  lo = h.lo;
  size = h.size;
  mean = h.mean;
  deed = h.deed;
  so = h.so.1;
  kept = h.kept;
}

by_amount : (s : Standing) (rest : List Standing) (b : Estimate) → s.best ≡ Some b → (number : ℕ) (amount : ℤ) →
    Leads (Closed (s ∷ rest)) (begins_adjtime s.peer number amount) (Closed rest)
unfolding begins_adjtime
by_amount s rest b e number amount = Leads_either (may_correct s.peer number) (posts_time s.peer AdjTime number amount) nothing
    (Leads_from (λ x past h. h.0) (sent_one s rest b e AdjTime (λ k. let bad : ⊥ = cc in absurd bad) number amount))
    (Leads_from (λ x past h. skipped s rest x past h.0) Leads_nothing)

by_setting : (s : Standing) (rest : List Standing) (b : Estimate) → s.best ≡ Some b → is_near b.diff ≡ false → (number : ℕ) →
    Leads (Closed (s ∷ rest)) (begins_settime s.peer number) (Closed rest)
unfolding begins_settime
by_setting s rest b e far number = Leads_either (may_set s.peer number) (reading target_at (posts_time s.peer SetTime number)) nothing
    (Leads_from (λ x past h. h.0) (Leads_reading target_at (posts_time s.peer SetTime number) (λ time. Leads_from (λ x past h. h.0)
    (sent_one s rest b e SetTime (λ k. far) number time)))) (Leads_from (λ x past h. skipped s rest x past h.0) Leads_nothing)

-- one that leaves has no sample
left_one : (s : Standing) (rest : List Standing) → s.best ≡ None → (x : ℕ) (past : Past) → Closed (s ∷ rest) x past →
    Closed rest x (grown x past (Leave s.peer ∷ []))
left_one s rest e x past h = record {
  paid = (tt, h.paid);
  close = h.close;
  there = h.there;
  is = h.is;
  step = h.step;
  count = h.count;
  lo = h.lo;
  size = h.size;
  mean = h.mean;
  deed = h.deed;
  so = h.so.1;
  kept = λ p was. by_case p (s.peer.0 == p.0) refl (h.kept p was);
} where
  by_case : (p : PeerId) (b : Bool) → (s.peer.0 == p.0) ≡ b → (in_table p past.seen ≡ true) ⊎ (estimate p h.there ≡ None) →
      ((if b then false else in_table p past.seen) ≡ true) ⊎ (estimate p h.there ≡ None)
  by_case p true same k = inr (subst (λ q. estimate q h.there ≡ None) (same_peer s.peer p same) (sym h.so.0.0 ∙ e))
  by_case p false other k = k

corrects_one : (mean : ℤ) (s : Standing) (rest : List Standing) → Leads (Closed (s ∷ rest)) (corrects_peer mean s) (Closed rest)
unfolding corrects_peer corrects_by
corrects_one mean s rest = by_best s.best refl where
  by_best : (o : Option Estimate) → s.best ≡ o → Leads (Closed (s ∷ rest)) (corrects_by mean s.peer o) (Closed rest)
  by_best None e = Leads_puts (Leave s.peer) (left_one s rest e)
  by_best (Some b) e = by_near (is_near b.diff) refl where
    by_near : (v : Bool) → is_near b.diff ≡ v → Leads (Closed (s ∷ rest))
        (if v then begins_adjtime s.peer b.ticket (mean -ℤ b.diff) else begins_settime s.peer b.ticket) (Closed rest)
    by_near true near = by_amount s rest b e b.ticket (mean -ℤ b.diff)
    by_near false near = by_setting s rest b e near b.ticket

corrects_all : (mean : ℤ) (round : List Standing) → Leads (Closed round) (for_each (corrects_peer mean) round) Base
unfolding for_each
corrects_all mean [] = Leads_from (λ x past h. h.paid) Leads_nothing
corrects_all mean (s ∷ rest) = Leads_then {Q = Closed rest} (corrects_peer mean s) (for_each (corrects_peer mean) rest) (corrects_one mean s rest)
    (corrects_all mean rest)

moves_own : (round : List Standing) (own : Bool) (mean : ℤ) → Leads (Closed round) (moves own mean) (Closed round)
unfolding moves adjusts
moves_own round true mean = record {
  run = λ x past h. record {
    paid = (tt, h.paid);
    close = h.close;
    there = h.there;
    is = h.is;
    step = h.step;
    count = h.count;
    lo = h.lo;
    size = h.size;
    mean = h.mean;
    deed = h.deed;
    so = h.so;
    kept = h.kept;
  };
}
moves_own round false mean = Leads_nothing

abbrev Stood : List Standing → ℕ → Past → Type 0
Stood round x past = Paid SentFits x past × (round_at x past ≡ round)

closes_so : (own : Bool) (g : Group) (round : List Standing) → Leads (Stood round) (closes_with own g round) Base
unfolding closes_with abandons
closes_so own g round = Leads_either (can_adjust (mean_by own g))
    (puts (close_act own g) followed_by (moves own (mean_by own g) followed_by for_each (corrects_peer (mean_by own g)) round)) (puts Abandon)
    (Leads_then {Q = Closed round} (puts (close_act own g)) (moves own (mean_by own g) followed_by for_each (corrects_peer (mean_by own g)) round)
    (Leads_puts (close_act own g) (λ x past h. record {
      paid = (tt, h.0.0);
      close = record { step = past.step; tick = x; deed = Acts (close_act own g) };
      there = past.seen;
      is = refl;
      step = refl;
      count = g.count;
      lo = g.lo;
      size = g.width;
      mean = mean_by own g;
      deed = refl;
      so = subst (AllSo past.seen) h.0.1 (so_all past.seen past.peers);
      kept = λ p was. inl was;
    }))
    (Leads_then {Q = Closed round} (moves own (mean_by own g)) (for_each (corrects_peer (mean_by own g)) round) (moves_own round own (mean_by own g))
    (corrects_all (mean_by own g) round)))
    (Leads_puts Abandon (λ x past h. (tt, h.0.0)))

closing : (own : Bool) → Leads Base (close_rings own) Base
unfolding close_rings closes abandons
closing own = Leads_either (is_in_time CloseAlarm) (reading round_at (closes own)) (puts (Late CloseAlarm) followed_by puts Abandon)
    (Leads_reading round_at (closes own) (λ round. Leads_then {Q = Stood round} (puts (Ring CloseAlarm))
    (closes_with own (group_of SPAN (estimates round)) round)
    (Leads_puts (Ring CloseAlarm) (λ x past h. ((tt, h.0.0), h.1))) (closes_so own (group_of SPAN (estimates round)) round)))
    (Leads_then {Q = Base} (puts (Late CloseAlarm)) (puts Abandon) (Leads_puts (Late CloseAlarm) (λ x past h. (tt, h.0)))
    (Leads_puts Abandon (λ x past h. (tt, h))))

ring_part : (a : Alarm) → is_part (ring_sorts a) (ring_sorts a) ≡ true
ring_part CloseAlarm = refl
ring_part _ = refl

pub rung : (own wait : Bool) (a : Alarm) → Leads Base (rings own wait a) Base
unfolding rings alarm_rings
rung own wait CloseAlarm = Leads_either (is_due CloseAlarm) (close_rings own) nothing (Leads_from (λ x past h. h.0) (closing own))
    (Leads_from (λ x past h. h.0) Leads_nothing)
rung own wait a = pays by_correcting (ring_sorts a) (rings own wait a) refl (emits_built (ring_part a) (built_rings own wait a))
