-- What a port does of itself lets a slave go only for a reason.
use Rattle.std.proofs.Common.{sym, subst, true≢false, ◌∙◌, ◌≡◌, inl, inr, ℕ, ℤ, ◌-ℤ◌, Bool, true, false, filter, if◌then◌else◌, List, [], ◌∷◌, map}
use Rattle.std.proofs.Common.{Option, None, Some, refl}
use Rattle.tsp_rules.specs.Values.{Act, Post, Ring, Late, Close, Abandon, Gave, Join, Leave, Alarm, CloseAlarm, PeerId, Peer}
use Rattle.tsp_rules.specs.Values.{Message, SPAN}
use Rattle.tsp_rules.specs.Values.{Kind, AdjTime}
use Rattle.tsp_rules.specs.Values.{SetTime}
use Rattle.tsp_base.specs.Words.{Acts, Did, Here, Past, Row, Seen, Sending, Estimate, Leads, either_by, estimate}
use Rattle.tsp_base.specs.Words.{for_each, grown, is_correction, is_measured, nothing, posts_time, puts, reading}
use Rattle.tsp_base.specs.Words.{timed, ◌followed_by◌}
use Rattle.tsp_base.proofs.LeadsLemmas.{Leads_each, Leads_either, Leads_from, Leads_nothing, Leads_puts, Leads_reading, Leads_then}
use Rattle.tsp_promises.specs.StepFacts.{closed}
use Rattle.tsp_group.specs.{Groups.group_of, declared.group.Group.Group}
use Rattle.tsp_rules.specs.Answers.{alarm_rings, rings}
use Rattle.tsp_rules.specs.{ClockRows.adjusts, ClockRows.can_adjust}
use Rattle.tsp_rules.specs.Guards.{is_due, is_in_time, is_slave_at, target_at}
use Rattle.tsp_rules.specs.RoundRows.{Standing, abandons, close_act, close_rings, closes, closes_with, corrects_by, corrects_peer, estimates, is_near, mean_by}
use Rattle.tsp_rules.specs.RoundRows.{moves, round_at, standing}
use Rattle.tsp_rules.specs.SendRows.{begins_adjtime, begins_settime, due_send, due_sends, gives_up, is_send_due, is_spent, leaves_after, may_correct, may_set}
use Rattle.tsp_rules.specs.SendRows.{open_at, peers_at, repeats, repeats_send}
use Rattle.tsp_rules.proofs.{BuiltAnswers.built_rings, BuiltAnswers.ring_sorts}
use Rattle.tsp_rules.proofs.{EmitsBuilt.emits_built, EmitsBuilt.nothing_owed}
use Rattle.tsp_rules.proofs.{Built.Built, Unchanged.unchanged}
use Rattle.tsp_rules.proofs.Emits.{Sort, Tabling, is_in, is_part, sort_of}
use Rattle.tsp_progress.specs.TableKept.{LeavesFor, TableFits}
use Rattle.tsp_progress.proofs.{DebtKeeps.OwedBy, DebtKeeps.Paid, DebtKeeps.pays, PortWakes.Leads_if}

untabled : (sorts : List Sort) → is_in Tabling sorts ≡ false → (a : Act) → is_in (sort_of a) sorts ≡ true → (d : Did) (before : List Seen) →
    TableFits (Acts a) d before
untabled sorts none (Join p) e d before = absurd (true≢false (sym e ∙ none))
untabled sorts none (Leave p) e d before = absurd (true≢false (sym e ∙ none))
untabled sorts none _ e d before = tt

pub by_tabling : OwedBy Tabling TableFits
by_tabling = record { mark = λ d before. tt; free = untabled }

abbrev pub Base : ℕ → Past → Type 0
Base x past = Paid TableFits x past

-- rows that take nobody in, and let nobody go
pub calm_built : {sorts : List Sort} {k c : ℕ} {r r' : Row} → is_part sorts sorts ≡ true → is_in Tabling sorts ≡ false →
    Built unchanged nothing_owed sorts k c r r' → Leads Base r Base
calm_built {sorts} {r = r} own apart d = pays by_tabling sorts r apart (emits_built own d)

-- sends that are due

gave : (p : PeerId) (s : Sending) (x : ℕ) (past : Past) → Base x past → open_at p x past ≡ Some s → is_correction s.message.kind ≡ true →
    TableFits (Acts (Leave p)) (record { step = past.step; tick = x; deed = Acts (Leave p) }) (grown x past (Gave p ∷ [])).seen
gave p s x past h e k = inl (record {
  gave = record { step = past.step; tick = x; deed = Acts (Gave p) };
  older = past.seen;
  is = refl;
  step = refl;
  deed = refl;
  sending = s;
  open_is = e;
  kind = k;
})

-- right after the send was given up
record After (p : PeerId) (s : Sending) (x : ℕ) (past : Past) : Type 0 where
  pub paid : Paid TableFits x past
  pub leave : is_correction s.message.kind ≡ true → LeavesFor p (record { step = past.step; tick = x; deed = Acts (Leave p) }) past.seen

left : (p : PeerId) (s : Sending) → Leads (After p s) (leaves_after p s.message.kind) Base
unfolding leaves_after
left p s = by_case (is_correction s.message.kind) refl where
  by_case : (b : Bool) → is_correction s.message.kind ≡ b → Leads (After p s) (if b then either_by (is_slave_at p) (puts (Leave p)) nothing else nothing) Base
  by_case true e = Leads_either (is_slave_at p) (puts (Leave p)) nothing (Leads_puts (Leave p) (λ x past h. (h.0.leave e, h.0.paid)))
      (Leads_from (λ x past h. h.0.paid) Leads_nothing)
  by_case false e = Leads_from (λ x past h. h.paid) Leads_nothing

due : (p : PeerId) (o : Option Sending) → Leads (λ x past. Base x past × (open_at p x past ≡ o)) (repeats_send p o) Base
unfolding repeats_send gives_up repeats
due p None = Leads_from (λ x past h. h.0) Leads_nothing
due p (Some s) =
    let gives = puts (Gave p) followed_by leaves_after p s.message.kind in
    let again = puts (Post (Peer p) (Message s.message)) in
    Leads_either (is_send_due s) (either_by (is_spent s) gives again) nothing
    (Leads_either (is_spent s) gives again
    (Leads_then {Q = After p s} (puts (Gave p)) (leaves_after p s.message.kind)
    (Leads_puts (Gave p) (λ x past h. record { paid = (tt, h.0.0.0); leave = λ k. gave p s x past h.0.0.0 h.0.0.1 k })) (left p s))
    (Leads_puts (Post (Peer p) (Message s.message)) (λ x past h. (tt, h.0.0.0))))
    (Leads_from (λ x past h. h.0.0) Leads_nothing)

pub sends : Leads Base due_sends Base
unfolding due_sends due_send
sends = Leads_reading peers_at (for_each (λ p. reading (open_at p) (repeats_send p))) (λ ps. Leads_from (λ x past h. h.0)
    (Leads_each (λ p. reading (open_at p) (repeats_send p)) ps (λ p. Leads_reading (open_at p) (repeats_send p) (due p))))

-- a round's close

-- what is said of these peers was so there
abbrev AllSo : List Seen → List Standing → Type 0
AllSo there [] = Unit {0}
AllSo there (s ∷ rest) = ((s.best ≡ estimate s.peer there) × (is_measured s.peer there ≡ true)) × AllSo there rest

so_all : (there : List Seen) (ps : List PeerId) → AllSo there (map (standing there) (filter (λ p. is_measured p there) ps))
so_all there [] = tt
so_all there (p ∷ ps) = by_case (is_measured p there) refl (so_all there ps) where
  by_case : (b : Bool) → is_measured p there ≡ b → AllSo there (map (standing there) (filter (λ p. is_measured p there) ps)) →
      AllSo there (map (standing there) (if b then p ∷ filter (λ p. is_measured p there) ps else filter (λ p. is_measured p there) ps))
  by_case true e rest = ((refl, e), rest)
  by_case false e rest = rest

-- after the Close, these peers are still to be corrected
record Closed (round : List Standing) (x : ℕ) (past : Past) : Type 0 where
  pub paid : Paid TableFits x past
  pub close : Did
  pub there : List Seen
  pub is : closed past.seen ≡ Here close ∷ there
  pub step : close.step ≡ past.step
  pub count : ℕ
  pub lo : ℤ
  pub size : ℤ
  pub mean : ℤ
  pub deed : close.deed ≡ Acts (Close count lo size mean)
  pub so : AllSo there round

-- acts that close nothing
abbrev is_apart : Act → Bool
is_apart (Close count lo width mean) = false
is_apart (Join p) = false
is_apart (Leave p) = false
is_apart _ = true

apart_kept : (round : List Standing) (a : Act) → is_apart a ≡ true → (x : ℕ) (past : Past) → Closed round x past → Closed round x (grown x past (a ∷ []))
apart_kept round (Close count lo width mean) e x past h = absurd (true≢false (sym e))
apart_kept round (Join p) e x past h = absurd (true≢false (sym e))
apart_kept round (Leave p) e x past h = absurd (true≢false (sym e))
apart_kept round _ e x past h = record {
  paid = (tt, h.paid);
  close = h.close;
  there = h.there;
  is = h.is;
  step = h.step;
  count = h.count;
  lo = h.lo;
  size = h.size;
  mean = h.mean;
  deed = h.deed;
  so = h.so;
}

one_less : (s : Standing) (rest : List Standing) (x : ℕ) (past : Past) → Closed (s ∷ rest) x past → Closed rest x past
one_less s rest x past h = record {
  paid = h.paid;
  close = h.close;
  there = h.there;
  is = h.is;
  step = h.step;
  count = h.count;
  lo = h.lo;
  size = h.size;
  mean = h.mean;
  deed = h.deed;
  so = h.so.1;
}

posted : (round : List Standing) (p : PeerId) (kind : Kind) (number : ℕ) (time : ℤ) → Leads (Closed round) (posts_time p kind number time) (Closed round)
unfolding posts_time
posted round p kind number time = record { run = λ x past h. apart_kept round (Post (Peer p) (Message (timed kind number time past.name))) refl x past h }

by_amount : (round : List Standing) (p : PeerId) (number : ℕ) (amount : ℤ) → Leads (Closed round) (begins_adjtime p number amount) (Closed round)
unfolding begins_adjtime
by_amount round p number amount = Leads_either (may_correct p number) (posts_time p AdjTime number amount) nothing
    (Leads_from (λ x past h. h.0) (posted round p AdjTime number amount)) (Leads_from (λ x past h. h.0) Leads_nothing)

by_setting : (round : List Standing) (p : PeerId) (number : ℕ) → Leads (Closed round) (begins_settime p number) (Closed round)
unfolding begins_settime
by_setting round p number = Leads_either (may_set p number) (reading target_at (posts_time p SetTime number)) nothing
    (Leads_from (λ x past h. h.0) (Leads_reading target_at (posts_time p SetTime number) (λ time. Leads_from (λ x past h. h.0)
    (posted round p SetTime number time)))) (Leads_from (λ x past h. h.0) Leads_nothing)

corrects_one : (mean : ℤ) (s : Standing) (rest : List Standing) → Leads (Closed (s ∷ rest)) (corrects_peer mean s) (Closed rest)
unfolding corrects_peer corrects_by
corrects_one mean s rest = by_best s.best refl where
  by_best : (o : Option Estimate) → s.best ≡ o → Leads (Closed (s ∷ rest)) (corrects_by mean s.peer o) (Closed rest)
  by_best None e = Leads_puts (Leave s.peer) (λ x past h. record {
    paid = (
      inr (inl (record {
        close = h.close;
        past = h.there;
        is = h.is;
        step = h.step;
        count = h.count;
        lo = h.lo;
        size = h.size;
        mean = h.mean;
        deed = h.deed;
        measured = h.so.0.1;
        none = sym h.so.0.0 ∙ e;
      })),
      h.paid,
    );
    close = h.close;
    there = h.there;
    is = h.is;
    step = h.step;
    count = h.count;
    lo = h.lo;
    size = h.size;
    mean = h.mean;
    deed = h.deed;
    so = h.so.1;
  })
  by_best (Some b) e = Leads_from (one_less s rest) (Leads_if (is_near b.diff) (begins_adjtime s.peer b.ticket (mean -ℤ b.diff))
      (begins_settime s.peer b.ticket) (by_amount rest s.peer b.ticket (mean -ℤ b.diff)) (by_setting rest s.peer b.ticket))

corrects_all : (mean : ℤ) (round : List Standing) → Leads (Closed round) (for_each (corrects_peer mean) round) (Closed [])
unfolding for_each
corrects_all mean [] = Leads_nothing
corrects_all mean (s ∷ rest) = Leads_then {Q = Closed rest} (corrects_peer mean s) (for_each (corrects_peer mean) rest) (corrects_one mean s rest)
    (corrects_all mean rest)

moves_own : (round : List Standing) (own : Bool) (mean : ℤ) → Leads (Closed round) (moves own mean) (Closed round)
unfolding moves adjusts
moves_own round true mean = record { run = λ x past h. apart_kept round _ refl x past h }
moves_own round false mean = Leads_nothing

-- these are the round's peers
abbrev Stood : List Standing → ℕ → Past → Type 0
Stood round x past = Paid TableFits x past × (round_at x past ≡ round)

closes_so : (own : Bool) (g : Group) (round : List Standing) → Leads (Stood round) (closes_with own g round) Base
unfolding closes_with abandons
closes_so own g round = Leads_either (can_adjust (mean_by own g))
    (puts (close_act own g) followed_by (moves own (mean_by own g) followed_by for_each (corrects_peer (mean_by own g)) round)) (puts Abandon)
    (Leads_then {Q = Closed round} (puts (close_act own g)) (moves own (mean_by own g) followed_by for_each (corrects_peer (mean_by own g)) round)
    (Leads_puts (close_act own g) (λ x past h. record {
      paid = (tt, h.0.0);
      close = record { step = past.step; tick = x; deed = Acts (close_act own g) };
      there = past.seen;
      is = refl;
      step = refl;
      count = g.count;
      lo = g.lo;
      size = g.width;
      mean = mean_by own g;
      deed = refl;
      so = subst (AllSo past.seen) h.0.1 (so_all past.seen past.peers);
    }))
    (Leads_then {Q = Closed round} (moves own (mean_by own g)) (for_each (corrects_peer (mean_by own g)) round) (moves_own round own (mean_by own g))
    (Leads_to_base (corrects_all (mean_by own g) round))))
    (Leads_puts Abandon (λ x past h. (tt, h.0.0)))
  where
    Leads_to_base : {P : ℕ → Past → Type 0} {row : Row} → Leads P row (Closed []) → Leads P row Base
    Leads_to_base {row = row} d = record { run = λ x past h. (d.run x past h).paid }

closing : (own : Bool) → Leads Base (close_rings own) Base
unfolding close_rings closes abandons
closing own = Leads_either (is_in_time CloseAlarm) (reading round_at (closes own)) (puts (Late CloseAlarm) followed_by puts Abandon)
    (Leads_reading round_at (closes own) (λ round. Leads_then {Q = Stood round} (puts (Ring CloseAlarm))
    (closes_with own (group_of SPAN (estimates round)) round)
    (Leads_puts (Ring CloseAlarm) (λ x past h. ((tt, h.0.0), h.1))) (closes_so own (group_of SPAN (estimates round)) round)))
    (Leads_then {Q = Base} (puts (Late CloseAlarm)) (puts Abandon) (Leads_puts (Late CloseAlarm) (λ x past h. (tt, h.0)))
    (Leads_puts Abandon (λ x past h. (tt, h))))

ring_part : (a : Alarm) → is_part (ring_sorts a) (ring_sorts a) ≡ true
ring_part CloseAlarm = refl
ring_part _ = refl

pub rung : (own wait : Bool) (a : Alarm) → Leads Base (rings own wait a) Base
unfolding rings alarm_rings
rung own wait CloseAlarm = Leads_either (is_due CloseAlarm) (close_rings own) nothing (Leads_from (λ x past h. h.0) (closing own))
    (Leads_from (λ x past h. h.0) Leads_nothing)
rung own wait a = pays by_tabling (ring_sorts a) (rings own wait a) refl (emits_built (ring_part a) (built_rings own wait a))
