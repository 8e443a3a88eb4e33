-- A round's beginning and its probes keep what is known of a port.
use Rattle.std.proofs.Common.{sym, subst, arith, ◌∙◌, leb-false, ltb-true, ◌≡◌, ◌≤◌, ◌<◌, ℕ, ◌+◌, ◌*◌, Bool, true, false, List, [], ◌∷◌, None, Some, refl, ap}
use Rattle.std.proofs.Common.{true≢false, nat_lt, not, ◌||◌, length}
use Rattle.tsp_rules.specs.Values.{Arm, Ring, Late, Abandon, Alarm, Round, Probe, CloseAlarm, MasterUp, PeerId, Master, CLOSE, PROBE, QUIET, ROUND, WAIT}
use Rattle.tsp_rules.specs.Values.{Become, Window, Loose, Candidate}
use Rattle.tsp_rules.specs.{Answers.alarm_rings, Answers.rings, Guards.is_in_time, Guards.is_over, Guards.table_at, CommonRows.arms_elect}
use Rattle.tsp_rules.specs.RoundRows.{asks, asks_slaves, round_begins, begins_or_waits, round_rings, measured_at, asks_measured, has_more, arms_next, abandons}
use Rattle.tsp_rules.specs.RoundRows.{probe_rings}
use Rattle.tsp_rules.proofs.{GuardFacts.due_is, GuardFacts.met_is, Asides.now}
use Rattle.tsp_rules.specs.CandidateRows.{lead_row, yields, has_won, window_rings}
use Rattle.tsp_base.specs.Words.{Did, Seen, Here, Past, plain, Leads, boot_tick, role, armed, probes, started, Row, grown, nothing, puts, ◌followed_by◌}
use Rattle.tsp_base.specs.Words.{for_each, arms, bare, posts_to_others, backers, either_by, peer_of}
use Rattle.tsp_base.proofs.LeadsLemmas.{Leads_then, Leads_either, Leads_reading, Leads_nothing, Leads_puts, Leads_each, Leads_from, Leads_to}
use Rattle.tsp_promises.proofs.leads.Leaves.{none-some, some_same, arm_round, arm_round_alarms, arm_probe, abandon}
use Rattle.tsp_promises.proofs.leads.PostLeaves.{post_message, request, Leads_arms, Leads_others}
use Rattle.tsp_promises.proofs.leads.Changes.{FreeIn, become_loose, become_master, late, open_of, ring}
use Rattle.tsp_promises.proofs.{leads.Known.Free, leads.Known.Open, leads.Known.Untaken, leads.CommonLeads.arms_elect_during}
use Rattle.tsp_promises.specs.{HoldFits.LeadFits, PortFits.setup_in}
use Rattle.tsp_promises.proofs.leads.AlarmLeads.{Due, rings_lead, master_rested, stays}

-- the end of a candidature keeps what is known of a port

-- a candidate whose window ends, and may lead if enough back it
record Counting (x : ℕ) (past : Past) : Type 0 where
  pub free : Free Untaken x past
  pub stands : role past.seen ≡ Candidate
  pub leads : has_won x past ≡ true → LeadFits (setup_in past) (now x past (Become Master)) past.seen

enough : (strict : Bool) (peers backing : ℕ) → strict ≡ true → (not strict || nat_lt peers (2 * backing + 2)) ≡ true → peers < 2 * backing + 2
enough true peers backing e w = ltb-true peers (2 * backing + 2) w
enough false peers backing e w = absurd (true≢false (sym e))

rings_window : (x : ℕ) (past : Past) → Due Window x past → is_in_time Window x past ≡ true → Counting x (grown x past (Ring Window ∷ []))
rings_window x past h timely =
    let due = due_is (armed past.seen).window x h.1 in
    let met = met_is (armed past.seen).window x due.at due.is timely in
    let c = h.0.knows.vote.windows due.at due.is in
    let s = h.0.knows.vote.stands c.stands in
    let long = s.0 in
    record {
      free = ring Window refl (omega (arith, long)) h.0;
      stands = c.stands;
      leads = λ won. record {
        rested = long;
        quiet = s.1;
        stands = c.stands;
        start = c.start;
        idle = c.idle;
        start_is = c.start_is;
        soon = omega (arith, c.at_is, met);
        backs = c.back_is ∙ ap (λ n. Some (c.start.tick, peer_of n)) h.0.own;
        wins = λ strict. enough past.strict (length past.peers) (length (backers past.seen)) strict won;
      };
    }

-- a candidate gives up
yields_lead : Leads (FreeIn [] Untaken Candidate) yields Open
unfolding yields
yields_lead = Leads_to (λ x past h. open_of h) (Leads_then {Q = Free Untaken} (puts (Become Loose)) arms_elect
    (Leads_puts (Become Loose) (λ x past h. become_loose (λ e. let s = h.role_is in let bad : ⊥ = cc in absurd bad) h.free))
    arms_elect_during)

pub arms_round_in : Leads (FreeIn [] Untaken Master) (arms Round ROUND) (FreeIn [] Untaken Master)
arms_round_in = Leads_arms Round ROUND (λ x past h. record {
  free = arm_round (x + ROUND) h.role_is
      (λ start idle e. (let b = h.free.knows.times.start_le start idle e in omega (arith, b))) h.free;
  role_is = h.role_is;
})

pub window_leads : (own wait : Bool) → Leads Open (rings own wait Window) Open
unfolding alarm_rings window_rings lead_row
window_leads own wait = rings_lead own wait Window
    (Leads_either (is_in_time Window) (puts (Ring Window) followed_by either_by has_won lead_row yields) (puts (Late Window) followed_by yields)
    (Leads_then {Q = Counting} (puts (Ring Window)) (either_by has_won lead_row yields)
    (Leads_puts (Ring Window) (λ x past h. rings_window x past h.0 h.1))
    (Leads_either has_won lead_row yields
    (Leads_to (λ x past h. open_of h.free) (Leads_then {Q = FreeIn [] Untaken Master} (puts (Become Master))
    (arms Round ROUND followed_by posts_to_others MasterUp 0)
    (Leads_puts (Become Master) (λ x past h. record { free = become_master (h.0.leads h.1) h.0.free; role_is = refl }))
    (Leads_then (arms Round ROUND) (posts_to_others MasterUp 0) arms_round_in
    (Leads_others MasterUp 0 (λ x past p h. record { free = post_message p (bare MasterUp 0 past.name) refl tt h.free; role_is = h.role_is })))))
    (Leads_from (λ x past h. record { free = h.0.free; role_is = h.0.stands }) yields_lead)))
    (Leads_then {Q = FreeIn [] Untaken Candidate} (puts (Late Window)) yields
    (Leads_puts (Late Window) (λ x past h.
    let due = due_is (armed past.seen).window x h.0.1 in
    let c = h.0.0.knows.vote.windows due.at due.is in
    let long = (h.0.0.knows.vote.stands c.stands).0 in
    record { free = late Window refl (omega (arith, long)) h.0.0; role_is = c.stands }))
    yields_lead))
    (stays Window)

two_arms : {P Q R : ℕ → Past → Type 0} (a b : Alarm) (long short : ℕ) (s : Row) →
    ((x : ℕ) (past : Past) → P x past → Q x (grown x past (Arm a (x + long) ∷ Arm b (x + short) ∷ []))) → Leads Q s R →
    Leads P (arms a long followed_by (arms b short followed_by s)) R
unfolding arms ◌followed_by◌
two_arms a b long short s k q = record { run = λ x past h. q.run x (grown x past (Arm a (x + long) ∷ Arm b (x + short) ∷ [])) (k x past h) }

-- a master whose round has begun at this tick, and in which requests are posted
record Begun (x : ℕ) (past : Past) : Type 0 where
  pub free : Free Untaken x past
  pub goes : (armed past.seen).close ≡ Some (x + CLOSE)

round_master : (x : ℕ) (past : Past) → Due Round x past → role past.seen ≡ Master
round_master x past h = let due = due_is (armed past.seen).round x h.1 in h.0.knows.round.rounds due.at due.is

begun_asks : (p : PeerId) → Leads Begun (asks p) Begun
unfolding asks
begun_asks p = record { run = λ x past h. record { free = request p (x + CLOSE) h.goes h.free; goes = h.goes } }

-- a master whose last round began ROUND ago or earlier
record Spaced (x : ℕ) (past : Past) : Type 0 where
  pub free : Free Untaken x past
  pub role_is : role past.seen ≡ Master
  pub spaced : (start : Did) (idle : List Seen) → started past.seen ≡ Here start ∷ idle → start.tick + ROUND ≤ x

-- the same, with the next round put off
record PutOff (x : ℕ) (past : Past) : Type 0 where
  pub last : Spaced x past
  pub next : (armed past.seen).round ≡ Some (x + ROUND)

round_spaced : (x : ℕ) (past : Past) → Due Round x past → (start : Did) (idle : List Seen) → started past.seen ≡ Here start ∷ idle → start.tick + ROUND ≤ x
round_spaced x past h start idle e =
    let due = due_is (armed past.seen).round x h.1 in
    omega (arith, h.0.knows.times.next due.at due.is start idle e, due.over)

-- Round is armed anew, for later than now
arms_later : (long : ℕ) (x : ℕ) (past : Past) → Spaced x past → Spaced x (grown x past (Arm Round (x + long) ∷ []))
arms_later long x past h = record {
  free = arm_round (x + long) h.role_is (λ start idle e. (let s = h.spaced start idle e in omega (arith, s))) h.free;
  role_is = h.role_is;
  spaced = h.spaced;
}

begins_or_waits_leads : (wait : Bool) → Leads Spaced (begins_or_waits wait) Open
unfolding begins_or_waits round_begins asks_slaves
begins_or_waits_leads true = Leads_to {Q = Spaced} (λ x past h. open_of h.free) (Leads_arms Round WAIT (λ x past h. arms_later WAIT x past h))
begins_or_waits_leads false = Leads_then {Q = PutOff} (arms Round ROUND) (arms Probe PROBE followed_by
    (arms CloseAlarm CLOSE followed_by (posts_to_others MasterUp 0 followed_by asks_slaves)))
    (Leads_arms Round ROUND (λ x past h. record { last = arms_later ROUND x past h; next = refl }))
    (two_arms {Q = Begun} Probe CloseAlarm PROBE CLOSE (posts_to_others MasterUp 0 followed_by asks_slaves)
    (λ x past h. record { free = arm_round_alarms h.last.role_is h.last.spaced h.next h.last.free; goes = refl })
    (Leads_then {Q = Begun} (posts_to_others MasterUp 0) asks_slaves
    (Leads_others MasterUp 0 (λ x past p h. record { free = post_message p (bare MasterUp 0 past.name) refl tt h.free; goes = h.goes }))
    (Leads_to (λ x past h. open_of h.free) (Leads_reading table_at (for_each asks) (λ ps. Leads_from (λ x past h. h.0) (Leads_each asks ps begun_asks))))))

pub round_leads : (own wait : Bool) → Leads Open (rings own wait Round) Open
unfolding alarm_rings round_rings
round_leads own wait = rings_lead own wait Round
    (Leads_either (is_in_time Round) (puts (Ring Round) followed_by begins_or_waits wait) (puts (Late Round) followed_by arms Round ROUND)
    (Leads_then {Q = Spaced} (puts (Ring Round)) (begins_or_waits wait)
    (Leads_puts (Ring Round) (λ x past h. let m = round_master x past h.0 in record
    { free = ring Round refl (master_rested x past h.0.0 m) h.0.0; role_is = m; spaced = round_spaced x past h.0 }))
    (begins_or_waits_leads wait))
    (Leads_to (λ x past h. open_of h.free) (Leads_then {Q = FreeIn [] Untaken Master} (puts (Late Round)) (arms Round ROUND)
    (Leads_puts (Late Round) (λ x past h. let m = round_master x past h.0 in record
    { free = late Round refl (master_rested x past h.0.0 m) h.0.0; role_is = m }))
    arms_round_in)))
    (stays Round)

-- a port whose next probe, if any, is still to come
pub record Probed (x : ℕ) (past : Past) : Type 0 where
  pub open_port : Open x past
  pub later : (at : ℕ) → (armed past.seen).probe ≡ Some at → x < at

-- a master that probes: when its round closes, and how much time the next probe has
record Reprobing (x : ℕ) (past : Past) : Type 0 where
  pub free : Free Untaken x past
  pub until : ℕ
  pub goes : (armed past.seen).close ≡ Some until
  pub unprobed : (armed past.seen).probe ≡ None
  pub soon : x + 8000000 ≤ until + probes past.seen * 2000000

reprobing_asks : (p : PeerId) → Leads Reprobing (asks p) Reprobing
unfolding asks
reprobing_asks p = record {
  run = λ x past h. record {
    free = request p h.until h.goes h.free;
    until = h.until;
    goes = h.goes;
    unprobed = h.unprobed;
    soon = h.soon;
  };
}

probe_rested : (x : ℕ) (past : Past) → Due Probe x past → boot_tick (plain past.seen) + QUIET ≤ x
probe_rested x past h =
    let due = due_is (armed past.seen).probe x h.1 in
    let probing = h.0.knows.round.probing due.at due.is in
    master_rested x past h.0 (h.0.knows.round.closes refl probing.until probing.goes).leads

probe_rings_in : (x : ℕ) (past : Past) → Due Probe x past → is_in_time Probe x past ≡ true → Reprobing x (grown x past (Ring Probe ∷ []))
probe_rings_in x past h timely =
    let due = due_is (armed past.seen).probe x h.1 in
    let met = met_is (armed past.seen).probe x due.at due.is timely in
    let probing = h.0.knows.round.probing due.at due.is in
    record {
      free = ring Probe refl (probe_rested x past h) h.0;
      until = probing.until;
      goes = probing.goes;
      unprobed = refl;
      soon = let soon = probing.soon in omega (arith, met, soon);
    }

pub probe_leads : (own wait : Bool) → Leads Open (rings own wait Probe) Probed
unfolding alarm_rings probe_rings asks_measured arms_next abandons
probe_leads own wait = rings_lead own wait Probe
    (Leads_either (is_in_time Probe) (puts (Ring Probe) followed_by (asks_measured followed_by arms_next)) (puts (Late Probe) followed_by abandons)
    (Leads_then {Q = Reprobing} (puts (Ring Probe)) (asks_measured followed_by arms_next)
    (Leads_puts (Ring Probe) (λ x past h. probe_rings_in x past h.0 h.1))
    (Leads_then {Q = Reprobing} asks_measured arms_next
    (Leads_reading measured_at (for_each asks) (λ ps. Leads_from (λ x past h. h.0) (Leads_each asks ps reprobing_asks)))
    (Leads_either has_more (arms Probe PROBE) nothing
    (Leads_arms Probe PROBE (λ x past h.
    let few = ltb-true (probes past.seen) 3 h.1 in
    let soon = h.0.soon in
    record {
      open_port = open_of (arm_probe (x + PROBE) (record { until = h.0.until; goes = h.0.goes; soon = omega (arith, soon); few = omega (arith, few) })
          h.0.free);
      later = λ at e. let is = some_same (x + PROBE) at e in omega (arith, is);
    }))
    (Leads_from (λ x past h. record { open_port = open_of h.0.free; later = λ at e. none-some at (sym h.0.unprobed ∙ e) }) Leads_nothing))))
    (Leads_then {Q = Free Untaken} (puts (Late Probe)) (puts Abandon)
    (Leads_puts (Late Probe) (λ x past h. late Probe refl (probe_rested x past h.0) h.0.0))
    (Leads_puts Abandon (λ x past h. record { open_port = open_of (abandon h); later = λ at e. none-some at e }))))
    (λ x past h e. record { open_port = h; later = λ at is. leb-false at x (subst (λ o. is_over o x ≡ false) is e) })
