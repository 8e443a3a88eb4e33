-- A master's alarm is its round's, and a correction is remembered; any other leaves the clock alone.
use Rattle.std.proofs.Common.{◌≡◌, false, true, refl, sym, ◌∙◌, ap, ℕ, ◌||◌, Bool, if◌then◌else◌, List, [], ◌∷◌, None, Some}
use Rattle.std.proofs.lemmas.Bool.{false≢true}
use Rattle.tsp_rules.{specs.Answers.alarm_rings, proofs.EmitsBuilt.emits_built, specs.RoundRows.corrects, specs.RoundRows.is_correct}
use Rattle.tsp_rules.specs.Values.{Act, Boot, Took, Become, Correct, Placed, Alarm, Round, Probe, CloseAlarm, Port, Follow}
use Rattle.tsp_rules.proofs.Emits.{AllOf, Emits, Emits_more, Emits_nothing, is_in, sort_of}
use Rattle.tsp_rules.proofs.BuiltRounds.{built_close_rings, built_probe_rings, built_round_rings, round_sorts}
use Rattle.tsp_master.specs.{MasterAlarms.master_rings, MasterStands.RingStands}
use Rattle.tsp_node.proofs.{AlarmCases.corrects_beside, AlarmCases.master_rings_is, AlarmCases.no_probe, PartLemmas.still_alike}
use Rattle.tsp_node.proofs.NodeLemmas.{untaken_by, untaking_sorts}
use Rattle.tsp_node.specs.NodeStands.{PortUntaken, PortValue}
use Rattle.tsp_base.specs.Words.{Past, Performs, said, taken, grown, correcting_of}
use Rattle.tsp_slave.specs.Lasts.{LastValue, Remembers}
use Rattle.tsp_date.{proofs.KeepLemmas.DatesAside_by, proofs.KeepLemmas.passes_date, specs.DateStands.DatesStand}
use Rattle.tsp_resolve.proofs.ResolveLemmas.{ResolveStands_by}
use Rattle.tsp_node.proofs.part.Part.ring_due.Goals as goal

-- what a round's alarms make of what a port remembers

-- what is remembered after a correction that took no message
abbrev moved_at : ℕ → LastValue → LastValue
moved_at x last = record { tick = Some x; taken = None; name = last.name }

remembers-act : (a : Act) → is_in (sort_of a) round_sorts ≡ true → (x : ℕ) (past : Past) (last : LastValue) → taken past.seen ≡ None → Remembers past last →
    Remembers (grown x past (a ∷ [])) (if is_correct a then moved_at x last else last)
remembers-act (Correct amount stepped shown) e x past last none h = record {
  tick_is = refl;
  taken_is = sym (ap (λ t. correcting_of (said t)) none);
  name_is = h.name_is;
}
remembers-act Boot e x past last none h = absurd (false≢true e)
remembers-act (Took from t) e x past last none h = absurd (false≢true e)
remembers-act (Become (Follow p)) e x past last none h = absurd (false≢true e)
remembers-act a e x past last none h = record { tick_is = h.tick_is; taken_is = h.taken_is; name_is = h.name_is }

untaken-act : (a : Act) → is_in (sort_of a) round_sorts ≡ true → (x : ℕ) (past : Past) → taken past.seen ≡ None → taken (grown x past (a ∷ [])).seen ≡ None
untaken-act (Took from t) e x past none = absurd (false≢true e)
untaken-act a e x past none = none

remembers-acts : (acts : List Act) → AllOf round_sorts acts → (x : ℕ) (past : Past) (last : LastValue) → taken past.seen ≡ None → Remembers past last →
    Remembers (grown x past acts) (if corrects acts then moved_at x last else last)
remembers-acts [] e x past last none h = h
remembers-acts (a ∷ rest) e x past last none h = by_act (is_correct a) refl (remembers-act a e.0 x past last none h)
    (λ l k. remembers-acts rest e.1 x (grown x past (a ∷ [])) l (untaken-act a e.0 x past none) k) where
      either : (b : Bool) → Remembers (grown x (grown x past (a ∷ [])) rest) (if b then moved_at x (moved_at x last) else moved_at x last) →
          Remembers (grown x past (a ∷ rest)) (moved_at x last)
      either true k = k
      either false k = k

      by_act : (b : Bool) → is_correct a ≡ b → Remembers (grown x past (a ∷ [])) (if is_correct a then moved_at x last else last) →
          ((l : LastValue) → Remembers (grown x past (a ∷ [])) l → Remembers (grown x (grown x past (a ∷ [])) rest) (if corrects rest then moved_at x l else l))
          →
          Remembers (grown x past (a ∷ rest)) (if b || corrects rest then moved_at x last else last)
      by_act true f k next = either (corrects rest) (next (moved_at x last) (rw f at k))
      by_act false f k next = next last (rw f at k)

-- the alarms of rounds
emits_master : (own : Bool) (alarm : Alarm) → Emits round_sorts (master_rings own alarm)
unfolding master_rings
emits_master own Probe = emits_built refl built_probe_rings
emits_master own CloseAlarm = emits_built refl (built_close_rings own)
emits_master own Round = emits_built refl (built_round_rings false)
emits_master own _ = Emits_nothing

-- rounds pass no date on
dates_round : (own : Bool) (alarm : Alarm) (x : ℕ) (past : Past) (state : PortValue) → PortUntaken past state →
    DatesStand (grown x past (master_rings own alarm x past)) state.dates
dates_round own alarm x past state h =
    (DatesAside_by (master_rings own alarm) (Emits_more round_sorts refl (emits_master own alarm)) x past state.dates (record {
      stands = h.stands.dates;
      none = ap (λ t. passes_date (said t)) h.untaken;
    })).stands

-- a round's alarm, after which a correction is remembered
Performs_round : {x : ℕ} {port : Port} {before after : PortValue} {old new : List Placed} (own : Bool) (alarm : Alarm) (corrected : Bool) →
    Performs RingStands RingStands (master_rings own alarm) x port (record { master = before.master; station = before.station; clock = before.clock })
    (record { master = after.master; station = after.station; clock = after.clock }) old new →
    ((past : Past) → RingStands past (record { master = before.master; station = before.station; clock = before.clock }) → corrected ≡
    corrects (master_rings own alarm x past)) →
    after.last ≡ (if corrected then moved_at x before.last else before.last) → after.resolve ≡ before.resolve → after.dates ≡ before.dates →
    Performs PortUntaken PortUntaken (master_rings own alarm) x port before after old new
Performs_round {x = x} {before = before} {after = after} own alarm corrected d c e f g = record {
  acts = λ past h. d.acts past (ring past h);
  stands = λ past h.
      let s = d.stands past (ring past h) in
      let r = remembers-acts (master_rings own alarm x past) ((emits_master own alarm).only x past) x past before.last h.untaken h.stands.last in
      record {
        stands = record {
          station = s.station;
          last = rw e (rw (← c past (ring past h)) at r);
          master = s.master;
          resolve = rw f (ResolveStands_by (master_rings own alarm) (Emits_more round_sorts refl (emits_master own alarm)) x past before.resolve
              h.stands.resolve);
          dates = rw g (dates_round own alarm x past before h);
          clock = s.clock;
        };
        untaken = untaken_by (master_rings own alarm) (Emits_more round_sorts {all = untaking_sorts} refl (emits_master own alarm)) x past h.untaken;
      };
} where
  ring : (past : Past) → PortUntaken past before → RingStands past (record { master = before.master; station = before.station; clock = before.clock })
  ring past h = record { master = h.stands.master; station = h.stands.station; clock = h.stands.clock }

pub ring_beside-requires-clause-alarm : goal.ring_beside-requires-clause-alarm
ring_beside-requires-clause-alarm g c = sym c.is_of_master.ensures ∙ c.if-not-is_of_master.true

pub returns-then-not-is_of_master-clause-row : goal.returns-then-not-is_of_master-clause-row
returns-then-not-is_of_master-clause-row g c turn = c.ring_beside.ensures.row c.args.terms.group_mean c.args.clock.now

pub returns-then-not-is_of_master-clause-corrects : goal.returns-then-not-is_of_master-clause-corrects
returns-then-not-is_of_master-clause-corrects g c turn past h = corrects_beside c.args.terms.group_mean c.args.terms.wait c.args.alarm
    (sym c.is_of_master.ensures ∙ c.if-not-is_of_master.true) c.args.terms.at.tick past

pub returns-then-not-is_of_master-clause-over : goal.returns-then-not-is_of_master-clause-over
returns-then-not-is_of_master-clause-over g c e = absurd (no_probe c.args.terms.wait c.args.alarm (sym c.is_of_master.ensures ∙ c.if-not-is_of_master.true) e)

pub returns-then-corrected-clause-row : goal.returns-then-corrected-clause-row
returns-then-corrected-clause-row g c turn =
    let same : master_rings c.args.terms.group_mean c.args.alarm ≡ alarm_rings c.args.terms.group_mean c.args.terms.wait c.args.alarm =
    master_rings_is c.args.terms.group_mean c.args.terms.wait c.args.alarm (sym c.is_of_master.ensures ∙ c.if-not-is_of_master.false) in
    rw (← same) (Performs_round c.args.terms.group_mean c.args.alarm true (c.ring-corrected.ensures.row turn) (λ past h. sym c.if-corrected.true ∙
    c.ring-corrected.ensures.corrects turn past h) c.moved.ensures refl refl)

pub returns-else-corrected-clause-row : goal.returns-else-corrected-clause-row
returns-else-corrected-clause-row g c turn =
    let same : master_rings c.args.terms.group_mean c.args.alarm ≡ alarm_rings c.args.terms.group_mean c.args.terms.wait c.args.alarm =
    master_rings_is c.args.terms.group_mean c.args.terms.wait c.args.alarm (sym c.is_of_master.ensures ∙ c.if-not-is_of_master.false) in
    rw (← same) (Performs_round c.args.terms.group_mean c.args.alarm false (c.ring-corrected.ensures.row turn) (λ past h. sym c.if-corrected.false ∙
    c.ring-corrected.ensures.corrects turn past h) refl refl refl)

pub returns-then-corrected-clause-corrects : goal.returns-then-corrected-clause-corrects
returns-then-corrected-clause-corrects g c turn past h =
    let same : master_rings c.args.terms.group_mean c.args.alarm ≡ alarm_rings c.args.terms.group_mean c.args.terms.wait c.args.alarm =
    master_rings_is c.args.terms.group_mean c.args.terms.wait c.args.alarm (sym c.is_of_master.ensures ∙ c.if-not-is_of_master.false) in
    rw same at (c.ring-corrected.ensures.corrects turn past (record { master = h.stands.master; station = h.stands.station; clock = h.stands.clock }))

pub returns-else-corrected-clause-corrects : goal.returns-else-corrected-clause-corrects
returns-else-corrected-clause-corrects g c turn past h =
    let same : master_rings c.args.terms.group_mean c.args.alarm ≡ alarm_rings c.args.terms.group_mean c.args.terms.wait c.args.alarm =
    master_rings_is c.args.terms.group_mean c.args.terms.wait c.args.alarm (sym c.is_of_master.ensures ∙ c.if-not-is_of_master.false) in
    rw same at (c.ring-corrected.ensures.corrects turn past (record { master = h.stands.master; station = h.stands.station; clock = h.stands.clock }))

pub invariant_of-self : goal.invariant_of-self
invariant_of-self g c = still_alike c.args.self.now c.ring-corrected.ensures.peers refl refl c.ring-corrected.ensures.port.peers

pub invariant_of-self-else-corrected : goal.invariant_of-self-else-corrected
invariant_of-self-else-corrected g c = still_alike c.args.self.now c.ring-corrected.ensures.peers refl refl c.ring-corrected.ensures.port.peers
