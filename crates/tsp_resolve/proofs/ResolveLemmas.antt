-- What a port's marks of rivals stand for after more acts.
use Rattle.std.proofs.Common.{◌∙◌, ap, sym, subst, eqb-true, ◌≡◌, ◌≢◌, ℕ, ◌==◌, ◌||◌, ◌&&◌, not, Bool, true, false, if◌then◌else◌, List, [], ◌∷◌, ◌++◌, length}
use Rattle.std.proofs.Common.{is_some, Some, None, refl}
use Rattle.std.proofs.lemmas.{Bool.false≢true, Bool.or_parts, Bool.not-false, List.Elements.filter_agree}
use Rattle.tsp_rules.specs.Values.{Act, Boot, Become, Ring, Rival, Placed, Alarm, ResolveAlarm, PeerId, Port, Role, Master}
use Rattle.tsp_base.specs.Words.{deadline, Step, Acts, Seen, Here, Past, is_among, IsPeers, Performs, Keeps, is_rival, is_rival_after, role, role_after, Row}
use Rattle.tsp_base.specs.Words.{added, grown, nothing, puts}
use Rattle.tsp_base.proofs.PerformsLemmas.{Performs_else_part, Performs_nothing, Performs_then_part, Performs_to}
use Rattle.tsp_rules.specs.{Guards.rivals_at, ResolveRows.finds_rival, ResolveRows.is_new_rival}
use Rattle.tsp_rules.proofs.Emits.{Sort, Taking, Asking, Correcting, Numbering, Passing, Posting, Leading, Following, Changing, Backing, Counting, Rounding}
use Rattle.tsp_rules.proofs.Emits.{Alarming, Tabling, Acking, Giving, Sampling, Closing, Moving, Tracing, AllOf, Emits, Keeps_by, is_in, sort_of}
use Rattle.tsp_rules.proofs.{EmitsTables.changes, EmitsTables.is_change, Parts.Performs_part}
use Rattle.tsp_acks.specs.{Stands.StationStands, Stands.StandsActing, declared.station.Station.Station}
use Rattle.tsp_acks.proofs.StandsLemmas.{Stands_idle}
use Rattle.tsp_resolve.specs.{Marked.marked, ResolveStands.ResolveStands, ResolveStands.ResolvingActs, ResolveStands.ResolvingStands}
use Rattle.tsp_base.proofs.AscendingLemmas.{Rise_peers}
use Rattle.tsp_resolve.{proofs.MarkedLemmas.marked_filter, specs.declared.resolve.Resolve.Resolve}

-- all sorts of acts but Boot and Rival
abbrev pub rivalless : List Sort
rivalless = Taking ∷ Asking ∷ Correcting ∷ Numbering ∷ Passing ∷ Posting ∷ Leading ∷ Following ∷ Changing ∷ Backing ∷ Counting ∷ Rounding ∷ Alarming ∷ Tabling ∷
    Acking ∷ Giving ∷ Sampling ∷ Closing ∷ Moving ∷ Tracing ∷ []

-- of these, all but changes of the role
abbrev pub unchanging : List Sort
unchanging = Taking ∷ Asking ∷ Correcting ∷ Numbering ∷ Passing ∷ Posting ∷ Backing ∷ Counting ∷ Rounding ∷ Alarming ∷ Tabling ∷ Acking ∷ Giving ∷ Sampling ∷
    Closing ∷ Moving ∷ Tracing ∷ []

ResolveStands_act : (a : Act) → is_in (sort_of a) unchanging ≡ true → Keeps ResolveStands (puts a)
unfolding puts
ResolveStands_act Boot e x past r h = absurd (false≢true e)
ResolveStands_act (Become Master) e x past r h = absurd (false≢true e)
ResolveStands_act (Become (Role.Follow p)) e x past r h = absurd (false≢true e)
ResolveStands_act (Become _) e x past r h = absurd (false≢true e)
ResolveStands_act (Rival p) e x past r h = absurd (false≢true e)
ResolveStands_act _ e x past r h = record { many = h.many; rivals = h.rivals; empty = h.empty }

-- a row that neither boots, changes the role nor finds a rival leaves the marks right
pub ResolveStands_by : (row : Row) → Emits unchanging row → Keeps ResolveStands row
ResolveStands_by row e = Keeps_by unchanging ResolveStands row ResolveStands_act e

rival_deed : (p : PeerId) (a : Act) (was : Bool) → is_in (sort_of a) rivalless ≡ true → is_rival_after p (Acts a) was ≡ (if is_change a then false else was)
rival_deed p Boot was e = absurd (false≢true e)
rival_deed p (Rival q) was e = absurd (false≢true e)
rival_deed p (Become r) was e = refl
rival_deed p _ was e = refl

or_change : (a b was : Bool) → (if b then false else (if a then false else was)) ≡ (if (a || b) then false else was)
or_change true true was = refl
or_change true false was = refl
or_change false b was = refl

-- acts of these sorts leave the rivals as they are, or there are none where the role changes
pub rivals_after : (p : PeerId) (step : Step) (x : ℕ) (acts : List Act) (seen : List Seen) → AllOf rivalless acts → is_rival p (added step x acts seen) ≡
    (if changes acts then false else is_rival p seen)
rivals_after p step x [] seen e = refl
rivals_after p step x (a ∷ rest) seen e =
    rivals_after p step x rest (Here (record { step = step; tick = x; deed = Acts a }) ∷ seen) e.1
    ∙ ap (λ k. if changes rest then false else k) (rival_deed p a (is_rival p seen) e.0) ∙ or_change (is_change a) (changes rest) (is_rival p seen)

-- a change of the role is of these sorts
pub become_rivalless : (r : Role) → is_in (sort_of (Become r)) rivalless ≡ true
become_rivalless Master = refl
become_rivalless (Role.Follow p) = refl
become_rivalless _ = refl

-- the role changes, and nobody is marked any more
pub ResolveStands_changed : (x : ℕ) (past : Past) (acts : List Act) (old new : Resolve) → AllOf rivalless acts → changes acts ≡ true → length new.marks ≡
    length old.marks → ((peers : List PeerId) → marked peers new.marks ≡ []) →
    ResolveStands past old → ResolveStands (grown x past acts) new
ResolveStands_changed x past acts old new e c m none h =
    let after : (p : PeerId) → is_rival p (added past.step x acts past.seen) ≡ false = λ p. rivals_after p past.step x acts past.seen e ∙
    ap (λ b. if b then false else is_rival p past.seen) c in
    record { many = m ∙ h.many; rivals = λ p. ap (is_among p) (none past.peers) ∙ sym (after p); empty = λ other p. after p }

if_false : (b : Bool) → (if b then false else false) ≡ false
if_false true = refl
if_false false = refl

-- a port that doesn't lead has no rivals, whatever its role becomes
pub ResolveStands_idle : (x : ℕ) (past : Past) (acts : List Act) (r : Resolve) → AllOf rivalless acts → role past.seen ≢ Master → ResolveStands past r →
    ResolveStands (grown x past acts) r
ResolveStands_idle x past acts r e other h =
    let after : (p : PeerId) → is_rival p (added past.step x acts past.seen) ≡ false =
    λ p. rivals_after p past.step x acts past.seen e ∙ ap (λ k. if changes acts then false else k) (h.empty other p) ∙ if_false (changes acts) in
    record { many = h.many; rivals = λ p. h.rivals p ∙ h.empty other p ∙ sym (after p); empty = λ still p. after p }

role_deed : (a : Act) (was : Role) → is_in (sort_of a) rivalless ≡ true → is_change a ≡ false → role_after (Acts a) was ≡ was
role_deed Boot was e c = absurd (false≢true e)
role_deed (Become r) was e c = absurd (false≢true (sym c))
role_deed _ was e c = refl

-- without a change of it the role stays
pub role_stays : (step : Step) (x : ℕ) (acts : List Act) (seen : List Seen) → AllOf rivalless acts → changes acts ≡ false → role (added step x acts seen) ≡
    role seen
role_stays step x [] seen e c = refl
role_stays step x (a ∷ rest) seen e c =
    let both = or_parts (is_change a) (changes rest) c in
    role_stays step x rest (Here (record { step = step; tick = x; deed = Acts a }) ∷ seen) e.1 both.1 ∙ role_deed a (role seen) e.0 both.0

-- the role doesn't change
pub ResolveStands_same : (x : ℕ) (past : Past) (acts : List Act) (r : Resolve) → AllOf rivalless acts → changes acts ≡ false → ResolveStands past r →
    ResolveStands (grown x past acts) r
ResolveStands_same x past acts r e c h =
    let after : (p : PeerId) → is_rival p (added past.step x acts past.seen) ≡ is_rival p past.seen = λ p. rivals_after p past.step x acts past.seen e ∙
    ap (λ b. if b then false else is_rival p past.seen) c in
    record {
      many = h.many;
      rivals = λ p. h.rivals p ∙ sym (after p);
      empty = λ other p. after p ∙ h.empty (λ is. other (role_stays past.step x acts past.seen e c ∙ is)) p;
    }

-- a call on the station that leaves the marks right
pub Performs_resolving : {row : Row} {x : ℕ} {port : Port} {before after : Station} (r : Resolve) {old new : List Placed} → Emits unchanging row →
    Performs StationStands StationStands row x port before after old new →
    Performs ResolvingStands ResolvingStands row x port (record { resolve = r; station = before }) (record { resolve = r; station = after }) old new
Performs_resolving {row = row} {x = x} r e d = Performs_part d (λ past h. h.station)
    (λ past h s. record { resolve = ResolveStands_by row e x past r h.resolve; station = s })

-- the same in a step that has acted
pub Performs_resolving_acting : {row : Row} {x : ℕ} {port : Port} {before after : Station} (r : Resolve) {old new : List Placed} → Emits unchanging row →
    Performs StandsActing StandsActing row x port before after old new →
    Performs ResolvingActs ResolvingActs row x port (record { resolve = r; station = before }) (record { resolve = r; station = after }) old new
Performs_resolving_acting {row = row} {x = x} {before = before} r e d = Performs_part d (λ past h. record { stands = h.station; acted = h.acted })
    (λ past h stands. record { resolve = ResolveStands_by row e x past r h.resolve; station = stands.stands; acted = stands.acted })

-- an alarm rings, and the step has acted
pub Performs_rung : (alarm : Alarm) {x : ℕ} {port : Port} {before after : Station} (r : Resolve) {old new : List Placed} →
    Emits unchanging (puts (Ring alarm)) → Performs StationStands StationStands (puts (Ring alarm)) x port before after old new →
    Performs ResolvingStands ResolvingActs (puts (Ring alarm)) x port (record { resolve = r; station = before }) (record { resolve = r; station = after }) old
    new
unfolding puts
Performs_rung alarm {x = x} r e d = Performs_part d (λ past h. h.station)
    (λ past h s. record { resolve = ResolveStands_by (puts (Ring alarm)) e x past r h.resolve; station = s; acted = refl })

-- the rivals, as they are marked
pub rivals_marked : (x : ℕ) (past : Past) (r : Resolve) (peers : List PeerId) → IsPeers peers → peers ≡ past.peers → ResolveStands past r → rivals_at x past ≡
    marked peers r.marks
rivals_marked x past r peers up same h =
    filter_agree (λ p. is_rival p past.seen) (λ p. is_among p (marked past.peers r.marks)) (λ p. sym (h.rivals p)) past.peers
    ∙ marked_filter past.peers r.marks (Rise_peers past.peers (subst IsPeers same up).ascending) h.many ∙ ap (λ ps. marked ps r.marks) (sym same)

-- a new rival is put, and marked
pub ResolveStands_found : (p : PeerId) (x : ℕ) (past : Past) (old new : Resolve) → role past.seen ≡ Master → length new.marks ≡ length old.marks →
    ((q : PeerId) → is_among q (marked past.peers new.marks) ≡ ((p.0 == q.0) || is_among q (marked past.peers old.marks))) → ResolveStands past old →
    ResolveStands (grown x past (Rival p ∷ [])) new
ResolveStands_found p x past old new lead m found h = record {
  many = m ∙ h.many;
  rivals = λ q. found q ∙ ap (λ b. (p.0 == q.0) || b) (h.rivals q) ∙ as_if (p.0 == q.0) (is_rival q past.seen);
  empty = λ other q. absurd (other lead);
} where
  as_if : (a b : Bool) → (a || b) ≡ (if a then true else b)
  as_if true b = refl
  as_if false b = refl

-- a rival that is marked again is marked as before
pub ResolveStands_again : (p : PeerId) (past : Past) (old new : Resolve) → length new.marks ≡ length old.marks → is_among p (marked past.peers old.marks) ≡
    true →
    ((q : PeerId) → is_among q (marked past.peers new.marks) ≡ ((p.0 == q.0) || is_among q (marked past.peers old.marks))) → ResolveStands past old →
    ResolveStands past new
ResolveStands_again p past old new m was found h = record {
  many = m ∙ h.many;
  rivals = λ q. found q ∙ by_test q (p.0 == q.0) refl ∙ h.rivals q;
  empty = h.empty;
} where
  by_test : (q : PeerId) (b : Bool) → (p.0 == q.0) ≡ b → (b || is_among q (marked past.peers old.marks)) ≡ is_among q (marked past.peers old.marks)
  by_test q true e = sym was ∙ ap (λ n. is_among (record { 0 = n }) (marked past.peers old.marks)) (eqb-true p.0 q.0 e)
  by_test q false e = refl

is_new_is : (p : PeerId) (x : ℕ) (past : Past) (r : Resolve) (station : Station) (peers : List PeerId) → peers ≡ past.peers → StationStands past station →
    ResolveStands past r →
    is_new_rival p x past ≡ (is_some (deadline station.alarms ResolveAlarm) && not (is_among p (marked peers r.marks)))
is_new_is p x past r station peers same s h =
    ap (λ a. is_some (deadline a ResolveAlarm) && not (is_rival p past.seen)) (sym s.alarms) ∙
    ap (λ b. is_some (deadline station.alarms ResolveAlarm) && not b) (sym (h.rivals p))
    ∙ ap (λ ps. is_some (deadline station.alarms ResolveAlarm) && not (is_among p (marked ps r.marks))) (sym same)

module _ (p : PeerId) (x : ℕ) (port : Port) (station : Station) (old new : Resolve) (earlier later : List Placed) where
  -- nobody asks
  pub Performs_unasked : deadline station.alarms ResolveAlarm ≡ None → Performs ResolvingStands ResolvingStands (finds_rival p) x port (record {
    resolve = old;
    station = station;
  }) (record { resolve = old; station = station }) earlier earlier
  unfolding finds_rival
  Performs_unasked off = Performs_else_part (is_new_rival p) (puts (Rival p))
      (λ past h. is_new_is p x past old station station.peers h.station.peers h.station h.resolve ∙
      ap (λ d. is_some d && not (is_among p (marked station.peers old.marks))) off) Performs_nothing

  -- p answers, and is marked from now on
  pub Performs_answered : (at : ℕ) → deadline station.alarms ResolveAlarm ≡ Some at → station.role ≡ Master → length new.marks ≡ length old.marks →
      ((q : PeerId) → is_among q (marked station.peers new.marks) ≡ ((p.0 == q.0) || is_among q (marked station.peers old.marks))) →
      not (is_among p (marked station.peers old.marks)) ≡ true →
      later ≡ earlier ++ record { port = port; act = Rival p } ∷ [] → Performs ResolvingStands ResolvingStands (finds_rival p) x port (record {
        resolve = old;
        station = station;
      }) (record { resolve = new; station = station }) earlier later
  unfolding finds_rival puts
  Performs_answered at on lead many found fresh put = Performs_then_part (is_new_rival p) nothing
      (λ past h. is_new_is p x past old station station.peers h.station.peers h.station h.resolve ∙
      ap (λ d. is_some d && not (is_among p (marked station.peers old.marks))) on ∙ fresh)
      (record {
        acts = λ past h. put;
        stands = λ past h. record {
          resolve = ResolveStands_found p x past old new (sym h.station.role ∙ lead) many (λ q. ap (λ ps. is_among q (marked ps new.marks))
              (sym h.station.peers) ∙ found q ∙ ap (λ ps. (p.0 == q.0) || is_among q (marked ps old.marks)) h.station.peers) h.resolve;
          station = Stands_idle (Rival p) refl x past station h.station;
        };
      })

  -- p answers again
  pub Performs_answered_again : (at : ℕ) → deadline station.alarms ResolveAlarm ≡ Some at → length new.marks ≡ length old.marks →
      ((q : PeerId) → is_among q (marked station.peers new.marks) ≡ ((p.0 == q.0) || is_among q (marked station.peers old.marks))) →
      not (is_among p (marked station.peers old.marks)) ≡ false →
      Performs ResolvingStands ResolvingStands (finds_rival p) x port (record { resolve = old; station = station }) (record {
        resolve = new;
        station = station;
      }) earlier earlier
  unfolding finds_rival
  Performs_answered_again at on many found known = Performs_else_part (is_new_rival p) (puts (Rival p))
      (λ past h. is_new_is p x past old station station.peers h.station.peers h.station h.resolve ∙
      ap (λ d. is_some d && not (is_among p (marked station.peers old.marks))) on ∙ known)
      (Performs_to {q = ResolvingStands} (λ past h. record {
        resolve = ResolveStands_again p past old new many (ap (λ ps. is_among p (marked ps old.marks)) (sym h.station.peers) ∙ not-false _ known)
            (λ q. ap (λ ps. is_among q (marked ps new.marks)) (sym h.station.peers) ∙ found q ∙
            ap (λ ps. (p.0 == q.0) || is_among q (marked ps old.marks)) h.station.peers) h.resolve;
        station = h.station;
      }) Performs_nothing)
