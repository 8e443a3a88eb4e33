-- A send is given up only when it is old.
use Rattle.std.proofs.Common.{sym, subst, arith, true≢false, ◌∙◌, ◌≡◌, ◌≤◌, ℕ, ◌+◌, ◌*◌, ◌||◌, nat_le, nat_lt, Bool, true, false, List, Option, None}
use Rattle.std.proofs.Common.{Some, leb-true, refl}
use Rattle.tsp_rules.specs.Values.{Act, Post, Gave, Leave, Message, Alarm, CloseAlarm, PeerId, Peer, Kind, LAST, RETRY, TRIES}
use Rattle.tsp_base.specs.Words.{Acts, Did, Seen, Sending, Leads, deadline_of, either_by, for_each, is_correction, nothing, puts}
use Rattle.tsp_base.specs.Words.{reading, ◌followed_by◌}
use Rattle.tsp_base.proofs.LeadsLemmas.{Leads_each, Leads_either, Leads_from, Leads_nothing, Leads_puts, Leads_reading, Leads_then}
use Rattle.tsp_rules.specs.{Answers.rings, Guards.is_slave_at}
use Rattle.tsp_rules.specs.SendRows.{due_send, due_sends, gives_up, is_send_due, is_spent, leaves_after, open_at, peers_at, repeats, repeats_send}
use Rattle.tsp_rules.proofs.{BuiltAnswers.built_rings, BuiltAnswers.ring_sorts, EmitsBuilt.emits_built}
use Rattle.tsp_rules.proofs.Emits.{Sort, Giving, is_in, is_part, sort_of}
use Rattle.tsp_run.specs.Clocked.{clocks_of}
use Rattle.tsp_run.proofs.OwnClocks.{runs_by_own_clocks}
use Rattle.tsp_progress.specs.GivenUp.{ClockedRunsGiveUpLate, GaveFits, GivesUpLate, RunsGiveUpLate}
use Rattle.tsp_progress.proofs.{DebtKeeps.OwedBy, DebtKeeps.Paid, DebtKeeps.pays, DebtKeeps.runs_pay, DebtKeeps.takes_calmly, PortWakes.Leads_if}

ungiven : (sorts : List Sort) → is_in Giving sorts ≡ false → (a : Act) → is_in (sort_of a) sorts ≡ true → (d : Did) (before : List Seen) →
    GaveFits (Acts a) d before
ungiven sorts none (Gave p) e d before = absurd (true≢false (sym e ∙ none))
ungiven sorts none _ e d before = tt

by_giving : OwedBy Giving GaveFits
by_giving = record { mark = λ d before. tt; free = ungiven }

ring_part : (a : Alarm) → is_part (ring_sorts a) (ring_sorts a) ≡ true
ring_part CloseAlarm = refl
ring_part _ = refl

ring_apart : (a : Alarm) → is_in Giving (ring_sorts a) ≡ false
ring_apart CloseAlarm = refl
ring_apart _ = refl

rung : (own wait : Bool) (a : Alarm) → Leads (Paid GaveFits) (rings own wait a) (Paid GaveFits)
rung own wait a = pays by_giving (ring_sorts a) (rings own wait a) (ring_apart a) (emits_built (ring_part a) (built_rings own wait a))

-- a send that is due, and is given up
spent_old : (s : Sending) (x : ℕ) → nat_le (deadline_of s) x ≡ true → (nat_lt (s.began + LAST) x || nat_le TRIES s.posts) ≡ true →
    s.began + TRIES * RETRY ≤ x
spent_old s x due spent = by_case (nat_lt (s.began + LAST) x) refl spent where
  by_case : (b : Bool) → nat_lt (s.began + LAST) x ≡ b → (b || nat_le TRIES s.posts) ≡ true → s.began + TRIES * RETRY ≤ x
  by_case true e k = let long = leb-true _ _ e in omega (arith, long)
  by_case false e k = let many = leb-true TRIES s.posts k in let after = leb-true (deadline_of s) x due in omega (arith, many, after)

left : (p : PeerId) (k : Kind) → Leads (Paid GaveFits) (leaves_after p k) (Paid GaveFits)
unfolding leaves_after
left p k = Leads_if (is_correction k) (either_by (is_slave_at p) (puts (Leave p)) nothing) nothing
    (Leads_either (is_slave_at p) (puts (Leave p)) nothing (Leads_puts (Leave p) (λ x past h. (tt, h.0))) (Leads_from (λ x past h. h.0) Leads_nothing))
    Leads_nothing

due : (p : PeerId) (o : Option Sending) → Leads (λ x past. Paid GaveFits x past × (open_at p x past ≡ o)) (repeats_send p o) (Paid GaveFits)
unfolding repeats_send gives_up repeats
due p None = Leads_from (λ x past h. h.0) Leads_nothing
due p (Some s) =
    let gives = puts (Gave p) followed_by leaves_after p s.message.kind in
    let again = puts (Post (Peer p) (Message s.message)) in
    Leads_either (is_send_due s) (either_by (is_spent s) gives again) nothing
    (Leads_either (is_spent s) gives again
    (Leads_then {Q = Paid GaveFits} (puts (Gave p)) (leaves_after p s.message.kind)
    (Leads_puts (Gave p) (λ x past h. (record { sending = s; open_is = h.0.0.1; old = spent_old s x h.0.1 h.1 }, h.0.0.0))) (left p s.message.kind))
    (Leads_puts (Post (Peer p) (Message s.message)) (λ x past h. (tt, h.0.0.0))))
    (Leads_from (λ x past h. h.0.0) Leads_nothing)

sends : Leads (Paid GaveFits) due_sends (Paid GaveFits)
unfolding due_sends due_send
sends = Leads_reading peers_at (for_each (λ p. reading (open_at p) (repeats_send p))) (λ ps. Leads_from (λ x past h. h.0)
    (Leads_each (λ p. reading (open_at p) (repeats_send p)) ps (λ p. Leads_reading (open_at p) (repeats_send p) (due p))))

pub clocked_runs_give_up : ClockedRunsGiveUpLate
clocked_runs_give_up clocks header events n q = runs_pay by_giving refl sends rung (takes_calmly by_giving refl) clocks header events n q

pub runs_give_up : RunsGiveUpLate
runs_give_up header events = subst (λ h. GivesUpLate h) (runs_by_own_clocks header events) (clocked_runs_give_up (clocks_of header) header events)
