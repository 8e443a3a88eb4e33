-- What single acts make of a port whose deeds have their motives.
use Rattle.std.proofs.Common.{sym, ap, subst, true≢false, eqb-true, ◌∙◌, ◌≡◌, ℕ, ◌==◌, ◌&&◌, ◌||◌, not, Bool, true, false}
use Rattle.std.proofs.Common.{if◌then◌else◌, List, [], ◌∷◌, Option, None, Some, is_some, refl}
use Rattle.std.proofs.lemmas.Bool.{and_parts, not-true}
use Rattle.tsp_rules.specs.Values.{Act, Boot, Post, Become, Arm, Ring, Late, Back, Abandon, Acked, Gave, Alarm, Quiet, Search, Elect, Window, Probe}
use Rattle.tsp_rules.specs.Values.{CloseAlarm, Message, Kind, AdjTime, Election, MasterAck, MasterUp, QuitKind, SetTime, PeerId, Peer}
use Rattle.tsp_rules.specs.Values.{Role, Follow, Master}
use Rattle.tsp_base.specs.Words.{Acts, Deadlines, Did, Here, MessageValue, Past, Row, Seen, Leads, acting, armed, armed_after, deadline, grown, is_numbered}
use Rattle.tsp_base.specs.Words.{message_at, open_to, open_to_after, puts, role, role_after, with_deadline}
use Rattle.tsp_base.proofs.LeadsLemmas.{Leads_puts}
use Rattle.tsp_rules.specs.{CommonRows.is_idle, Guards.is_master, Guards.is_starting_role}
use Rattle.tsp_rules.proofs.Emits.{Sort, Alarming, Backing, Booting, Changing, Correcting, Emits, Following, Keeps_by, Leading, Numbering, Posting, Rounding}
use Rattle.tsp_rules.proofs.Emits.{code, is_in, is_part, sort_of, sort_of_kind}
use Rattle.tsp_rules.proofs.{Built.Built, EmitsBuilt.emits_built, EmitsBuilt.nothing_owed, Unchanged.unchanged}
use Rattle.tsp_progress.specs.{AlarmsFit.is_candidate, GivenUp.Owes, InTime.is_alarm, Motives.MotiveFits, Motives.may_say}
use Rattle.tsp_progress.proofs.InTimeProof.{none_is, same_alarm, with_other, with_same}

-- which role has an alarm armed
abbrev pub alarm_role : Alarm → Role → Bool
alarm_role Quiet r = is_starting_role r
alarm_role Search r = is_idle r
alarm_role Elect r = is_idle r
alarm_role Window r = is_candidate r
alarm_role _ r = is_master r

-- and which one has such a send open
abbrev pub says_open : Option MessageValue → Role → Bool
says_open None r = true
says_open (Some m) r = may_say m.kind r

-- each deed had its motive, and alarms are armed, and sends open, in their roles alone
pub record Moved (seen : List Seen) : Type 0 where
  pub owed : Owes MotiveFits seen
  pub alarms : (a : Alarm) → is_some (deadline (armed seen) a) ≡ true → alarm_role a (role seen) ≡ true
  pub sends : (p : PeerId) → says_open (message_at (open_to p seen)) (role seen) ≡ true

abbrev pub Base : ℕ → Past → Type 0
Base x past = Moved past.seen

-- the same in such a role
abbrev pub In : (Role → Bool) → ℕ → Past → Type 0
In ok x past = Moved past.seen × (ok (role past.seen) ≡ true)

abbrev pub any_role : Role → Bool
any_role r = true

-- a deed of a step
abbrev pub now_did : ℕ → Past → Act → Did
now_did x past a = record { step = past.step; tick = x; deed = Acts a }

-- acts that are neither a boot nor a change of the role
abbrev pub is_steady : Act → Bool
is_steady Boot = false
is_steady (Become r) = false
is_steady _ = true

-- an alarm is armed in its role
abbrev pub ArmsInRole : Act → Role → Type 0
ArmsInRole (Arm a at) r = alarm_role a r ≡ true
ArmsInRole _ r = Unit {0}

role_steady : (a : Act) → is_steady a ≡ true → (r : Role) → role_after (Acts a) r ≡ r
role_steady Boot e r = absurd (true≢false (sym e))
role_steady (Become q) e r = absurd (true≢false (sym e))
role_steady _ e r = refl

turned_off : (d : Deadlines) (a b : Alarm) → is_some (deadline (with_deadline d a None) b) ≡ true → is_some (deadline d b) ≡ true
turned_off d a b e = by_same (is_alarm b a) refl where
  by_same : (v : Bool) → is_alarm b a ≡ v → is_some (deadline d b) ≡ true
  by_same true s = absurd (true≢false (sym e ∙ ap is_some (with_same d b a None s)))
  by_same false s = ap is_some (sym (with_other d b a None s)) ∙ e

module _ (x : ℕ) (past : Past) (h : Moved past.seen) where
  alarms_after : (a : Act) → is_steady a ≡ true → ArmsInRole a (role past.seen) → (b : Alarm) →
      is_some (deadline (armed_after (Acts a) (armed past.seen)) b) ≡ true → alarm_role b (role past.seen) ≡ true
  alarms_after Boot s f b e = absurd (true≢false (sym s))
  alarms_after (Become r) s f b e = absurd (true≢false (sym s))
  alarms_after (Arm a at) s f b e = by_same (is_alarm b a) refl where
    by_same : (v : Bool) → is_alarm b a ≡ v → alarm_role b (role past.seen) ≡ true
    by_same true same = subst (λ c. alarm_role c (role past.seen) ≡ true) (sym (same_alarm b a same)) f
    by_same false same = h.alarms b (ap is_some (sym (with_other (armed past.seen) b a (Some at) same)) ∙ e)
  alarms_after (Ring a) s f b e = h.alarms b (turned_off (armed past.seen) a b e)
  alarms_after (Late a) s f b e = h.alarms b (turned_off (armed past.seen) a b e)
  alarms_after Abandon s f b e = h.alarms b (turned_off (armed past.seen) Probe b (turned_off (with_deadline (armed past.seen) Probe None) CloseAlarm b e))
  alarms_after _ s f b e = h.alarms b e

  ends : (b : Bool) (was : List Seen) → says_open (message_at was) (role past.seen) ≡ true →
      says_open (message_at (if b then [] else was)) (role past.seen) ≡ true
  ends true was e = refl
  ends false was e = e

  begins_send : (b : Bool) (now was : List Seen) → says_open (message_at now) (role past.seen) ≡ true → says_open (message_at was) (role past.seen) ≡ true →
      says_open (message_at (if b then now else was)) (role past.seen) ≡ true
  begins_send true now was e f = e
  begins_send false now was e f = f

  sends_after : (a : Act) → is_steady a ≡ true → MotiveFits (Acts a) (now_did x past a) past.seen → (p : PeerId) →
      says_open (message_at (open_to_after p (Acts a) (acting past.seen) (Here (now_did x past a) ∷ past.seen) (open_to p past.seen))) (role past.seen) ≡ true
  sends_after Boot s f p = absurd (true≢false (sym s))
  sends_after (Become r) s f p = absurd (true≢false (sym s))
  sends_after (Post (Peer q) (Message m)) s f p = begins_send ((q.0 == p.0) && (is_numbered m.kind && acting past.seen))
      (Here (now_did x past (Post (Peer q) (Message m))) ∷ past.seen) (open_to p past.seen) f (h.sends p)
  sends_after (Acked q) s f p = ends (q.0 == p.0) (open_to p past.seen) (h.sends p)
  sends_after (Gave q) s f p = ends (q.0 == p.0) (open_to p past.seen) (h.sends p)
  sends_after _ s f p = h.sends p

-- a steady act
pub keep : (ok : Role → Bool) (a : Act) → is_steady a ≡ true → (x : ℕ) (past : Past) → In ok x past → MotiveFits (Acts a) (now_did x past a) past.seen →
    ArmsInRole a (role past.seen) → In ok x (grown x past (a ∷ []))
keep ok a s x past h f r = (
  record {
    owed = (f, h.0.owed);
    alarms = λ b e. ap (alarm_role b) (role_steady a s (role past.seen)) ∙ alarms_after x past h.0 a s r b e;
    sends = λ p. ap (says_open (message_at (open_to_after p (Acts a) (acting past.seen) (Here (now_did x past a) ∷ past.seen) (open_to p past.seen))))
        (role_steady a s (role past.seen)) ∙ sends_after x past h.0 a s f p;
  },
  ap ok (role_steady a s (role past.seen)) ∙ h.1,
)

-- a change of the role
pub becomes : (ok : Role → Bool) (r : Role) → ok r ≡ true → (x : ℕ) (past : Past) → Moved past.seen →
    MotiveFits (Acts (Become r)) (now_did x past (Become r)) past.seen → In ok x (grown x past (Become r ∷ []))
becomes ok r e x past h f = (
  record {
    owed = (f, h.owed);
    alarms = λ a s. absurd (true≢false (sym s ∙ ap is_some (none_is a)));
    sends = λ p. refl;
  },
  e,
)

-- acts that need no motive

abbrev pub is_common : Kind → Bool
is_common AdjTime = false
is_common SetTime = false
is_common MasterUp = false
is_common MasterAck = false
is_common QuitKind = false
is_common Election = false
is_common _ = true

pub common_says : (k : Kind) (r : Role) → is_common k ≡ true → may_say k r ≡ true
common_says AdjTime r e = absurd (true≢false (sym e))
common_says SetTime r e = absurd (true≢false (sym e))
common_says MasterUp r e = absurd (true≢false (sym e))
common_says MasterAck r e = absurd (true≢false (sym e))
common_says QuitKind r e = absurd (true≢false (sym e))
common_says Election r e = absurd (true≢false (sym e))
common_says _ r e = refl

abbrev pub is_plain : Act → Bool
is_plain Boot = false
is_plain (Become r) = false
is_plain (Arm a at) = false
is_plain (Back p) = false
is_plain (Ring Quiet) = false
is_plain (Post (Peer p) (Message m)) = is_common m.kind
is_plain _ = true

plain_steady : (a : Act) → is_plain a ≡ true → is_steady a ≡ true
plain_steady Boot e = absurd (true≢false (sym e))
plain_steady (Become r) e = absurd (true≢false (sym e))
plain_steady _ e = refl

plain_fits : (a : Act) → is_plain a ≡ true → (d : Did) (before : List Seen) → MotiveFits (Acts a) d before
plain_fits Boot e d before = absurd (true≢false (sym e))
plain_fits (Become r) e d before = absurd (true≢false (sym e))
plain_fits (Arm a at) e d before = absurd (true≢false (sym e))
plain_fits (Back p) e d before = absurd (true≢false (sym e))
plain_fits (Ring Quiet) e d before = absurd (true≢false (sym e))
plain_fits (Post (Peer p) (Message m)) e d before = common_says m.kind (role before) e
plain_fits _ e d before = tt

plain_arms : (a : Act) → is_plain a ≡ true → (r : Role) → ArmsInRole a r
plain_arms (Arm a at) e r = absurd (true≢false (sym e))
plain_arms _ e r = tt

pub plain : (ok : Role → Bool) (a : Act) → is_plain a ≡ true → (x : ℕ) (past : Past) → In ok x past → In ok x (grown x past (a ∷ []))
plain ok a e x past h = keep ok a (plain_steady a e) x past h (plain_fits a e (now_did x past a) past.seen) (plain_arms a e (role past.seen))

-- acts that a master needs no other motive for

abbrev pub is_election : Kind → Bool
is_election Election = true
is_election _ = false

pub master_says : (k : Kind) (r : Role) → is_election k ≡ false → is_master r ≡ true → may_say k r ≡ true
master_says AdjTime r e m = m
master_says SetTime r e m = m
master_says MasterUp r e m = m
master_says MasterAck r e m = m
master_says QuitKind r e m = m
master_says Election r e m = absurd (true≢false e)
master_says _ r e m = refl

abbrev pub is_rule : Act → Bool
is_rule Boot = false
is_rule (Become r) = false
is_rule (Arm Quiet at) = false
is_rule (Arm Search at) = false
is_rule (Arm Elect at) = false
is_rule (Arm Window at) = false
is_rule (Back p) = false
is_rule (Ring Quiet) = false
is_rule (Post (Peer p) (Message m)) = not (is_election m.kind)
is_rule _ = true

rule_steady : (a : Act) → is_rule a ≡ true → is_steady a ≡ true
rule_steady Boot e = absurd (true≢false (sym e))
rule_steady (Become r) e = absurd (true≢false (sym e))
rule_steady _ e = refl

rule_fits : (a : Act) → is_rule a ≡ true → (d : Did) (before : List Seen) → is_master (role before) ≡ true → MotiveFits (Acts a) d before
rule_fits Boot e d before m = absurd (true≢false (sym e))
rule_fits (Become r) e d before m = absurd (true≢false (sym e))
rule_fits (Arm Elect at) e d before m = absurd (true≢false (sym e))
rule_fits (Arm Search at) e d before m = absurd (true≢false (sym e))
rule_fits (Back p) e d before m = absurd (true≢false (sym e))
rule_fits (Ring Quiet) e d before m = absurd (true≢false (sym e))
rule_fits (Post (Peer p) (Message k)) e d before m = master_says k.kind (role before) (not-true (is_election k.kind) e) m
rule_fits _ e d before m = tt

rule_arms : (a : Act) → is_rule a ≡ true → (r : Role) → is_master r ≡ true → ArmsInRole a r
rule_arms (Arm Quiet at) e r m = absurd (true≢false (sym e))
rule_arms (Arm Search at) e r m = absurd (true≢false (sym e))
rule_arms (Arm Elect at) e r m = absurd (true≢false (sym e))
rule_arms (Arm Window at) e r m = absurd (true≢false (sym e))
rule_arms (Arm _ at) e r m = m
rule_arms _ e r m = tt

pub rule : (a : Act) → is_rule a ≡ true → (x : ℕ) (past : Past) → In is_master x past → In is_master x (grown x past (a ∷ []))
rule a e x past h = keep is_master a (rule_steady a e) x past h (rule_fits a e (now_did x past a) past.seen h.1) (rule_arms a e (role past.seen) h.1)

-- rows of acts of some sorts

is_in_same : (s t : Sort) → code s ≡ code t → (sorts : List Sort) → is_in s sorts ≡ is_in t sorts
is_in_same s t e [] = refl
is_in_same s t e (u ∷ rest) = let same = is_in_same s t e rest in rw (e, same) refl

abbrev pub none_in : List Sort → List Sort → Bool
none_in owed [] = true
none_in owed (s ∷ rest) = not (is_in s owed) && none_in owed rest

out_of : (owed sorts : List Sort) → none_in owed sorts ≡ true → (s : Sort) → is_in s sorts ≡ true → is_in s owed ≡ false
out_of owed [] apart s e = absurd (true≢false (sym e))
out_of owed (t ∷ rest) apart s e =
    let both = and_parts (not (is_in t owed)) (none_in owed rest) apart in
    by_case (code s == code t) refl e (not-true (is_in t owed) both.0) (λ more. out_of owed rest both.1 s more)
  where
    by_case : (b : Bool) → (code s == code t) ≡ b → (b || is_in s rest) ≡ true → is_in t owed ≡ false →
        (is_in s rest ≡ true → is_in s owed ≡ false) → is_in s owed ≡ false
    by_case true same e n k = is_in_same s t (eqb-true (code s) (code t) same) owed ∙ n
    by_case false other e n k = k e

-- sorts of acts that aren't all plain
abbrev pub owing : List Sort
owing = Booting ∷ Correcting ∷ Numbering ∷ Posting ∷ Leading ∷ Following ∷ Changing ∷ Backing ∷ Rounding ∷ Alarming ∷ []

abbrev pub owing_of_master : List Sort
owing_of_master = Booting ∷ Numbering ∷ Leading ∷ Following ∷ Changing ∷ Backing ∷ Alarming ∷ []

role_no : {A : Type 0} (r : Role) → is_in (sort_of (Become r)) owing ≡ false → A
role_no Master e = absurd (true≢false e)
role_no (Follow p) e = absurd (true≢false e)
role_no _ e = absurd (true≢false e)

arm_no : {A : Type 0} (a : Alarm) (at : ℕ) → is_in (sort_of (Arm a at)) owing ≡ false → A
arm_no Probe at e = absurd (true≢false e)
arm_no CloseAlarm at e = absurd (true≢false e)
arm_no _ at e = absurd (true≢false e)

kind_no : (k : Kind) → is_in (sort_of_kind k) owing ≡ false → is_common k ≡ true
kind_no AdjTime e = absurd (true≢false e)
kind_no SetTime e = absurd (true≢false e)
kind_no MasterUp e = absurd (true≢false e)
kind_no MasterAck e = absurd (true≢false e)
kind_no QuitKind e = absurd (true≢false e)
kind_no Election e = absurd (true≢false e)
kind_no _ e = refl

sort_plain : (a : Act) → is_in (sort_of a) owing ≡ false → is_plain a ≡ true
sort_plain Boot e = absurd (true≢false e)
sort_plain (Become r) e = role_no r e
sort_plain (Arm a at) e = arm_no a at e
sort_plain (Back p) e = absurd (true≢false e)
sort_plain (Ring Quiet) e = absurd (true≢false e)
sort_plain (Post (Peer p) (Message m)) e = kind_no m.kind e
sort_plain _ e = refl

role_rule : {A : Type 0} (r : Role) → is_in (sort_of (Become r)) owing_of_master ≡ false → A
role_rule Master e = absurd (true≢false e)
role_rule (Follow p) e = absurd (true≢false e)
role_rule _ e = absurd (true≢false e)

arm_rule : (a : Alarm) (at : ℕ) → is_in (sort_of (Arm a at)) owing_of_master ≡ false → is_rule (Arm a at) ≡ true
arm_rule Probe at e = refl
arm_rule CloseAlarm at e = refl
arm_rule _ at e = absurd (true≢false e)

kind_rule : (k : Kind) → is_in (sort_of_kind k) owing_of_master ≡ false → not (is_election k) ≡ true
kind_rule Election e = absurd (true≢false e)
kind_rule _ e = refl

sort_rule : (a : Act) → is_in (sort_of a) owing_of_master ≡ false → is_rule a ≡ true
sort_rule Boot e = absurd (true≢false e)
sort_rule (Become r) e = role_rule r e
sort_rule (Arm a at) e = arm_rule a at e
sort_rule (Back p) e = absurd (true≢false e)
sort_rule (Ring Quiet) e = absurd (true≢false e)
sort_rule (Post (Peer p) (Message m)) e = kind_rule m.kind e
sort_rule _ e = refl

calm : (ok : Role → Bool) (sorts : List Sort) (row : Row) → none_in owing sorts ≡ true → Emits sorts row → Leads (In ok) row (In ok)
unfolding puts
calm ok sorts row apart e = record {
  run = λ x past h. Keeps_by {T = ℕ} sorts (λ p n. In ok n p) row
      (λ a i y p n k. plain ok a (sort_plain a (out_of owing sorts apart (sort_of a) i)) y p k) e x past x h;
}

pub calm_built : (ok : Role → Bool) {sorts : List Sort} {k c : ℕ} {r r' : Row} → is_part sorts sorts ≡ true → none_in owing sorts ≡ true →
    Built unchanged nothing_owed sorts k c r r' → Leads (In ok) r (In ok)
calm_built ok {sorts} {r = r} own apart d = calm ok sorts r apart (emits_built own d)

calm_rule : (sorts : List Sort) (row : Row) → none_in owing_of_master sorts ≡ true → Emits sorts row → Leads (In is_master) row (In is_master)
unfolding puts
calm_rule sorts row apart e = record {
  run = λ x past h. Keeps_by {T = ℕ} sorts (λ p n. In is_master n p) row
      (λ a i y p n k. rule a (sort_rule a (out_of owing_of_master sorts apart (sort_of a) i)) y p k) e x past x h;
}

pub rule_built : {sorts : List Sort} {k c : ℕ} {r r' : Row} → is_part sorts sorts ≡ true → none_in owing_of_master sorts ≡ true →
    Built unchanged nothing_owed sorts k c r r' → Leads (In is_master) r (In is_master)
rule_built {sorts} {r = r} own apart d = calm_rule sorts r apart (emits_built own d)

pub does_plain : (ok : Role → Bool) (a : Act) → is_plain a ≡ true → Leads (In ok) (puts a) (In ok)
does_plain ok a e = Leads_puts a (plain ok a e)

pub does_rule : (a : Act) → is_rule a ≡ true → Leads (In is_master) (puts a) (In is_master)
does_rule a e = Leads_puts a (rule a e)
