-- The earliest deadline of a port's open sends.
use Rattle.std.proofs.Common.{ap, arith, sym, ◌∙◌, ◌≡◌, ◌<◌, ℕ, ◌||◌, min, not, nat_le, Bool, true, false, Option, None, Some, refl}
use Rattle.std.proofs.lemmas.Bool.{false≢true, le-leb, leb-false, leb-true, lt-leb}
use Rattle.std.proofs.Math.Bool.{or-false, or-true}
use Rattle.tsp_base.specs.Words.{Deadlines, deadline, earlier, least_deadline, Past, open_send}
use Rattle.tsp_base.proofs.AlarmLemmas.{least_deadline_armed}
use Rattle.tsp_rules.specs.{Guards.is_over, Values.Alarm, Values.Quiet}
use Rattle.tsp_sends.specs.{Repeating.IsEarliest, Slots.sending_to}
use Rattle.tsp_acks.specs.{Stands.StationStands, declared.station.Station.Station}

-- the earliest deadline in a station's slots is that of its past
pub IsEarliest_open : (past : Past) (station : Station) (o : Option ℕ) → StationStands past station → IsEarliest (sending_to station.sends) o →
    IsEarliest (λ p. open_send p past.seen) o
IsEarliest_open past station None s e = λ p. sym (s.sends p) ∙ e p
IsEarliest_open past station (Some t) s e = record {
  of = (e.of.0, e.of.1, sym (s.sends e.of.0) ∙ e.of.2, e.of.3);
  first = λ p sending h. e.first p sending (s.sends p ∙ h);
}

-- the earlier of two deadlines has come where either has
pub over_earlier : (a b : Option ℕ) (x : ℕ) → is_over (earlier a b) x ≡ (is_over a x || is_over b x)
over_earlier None b x = refl
over_earlier (Some p) None x = sym (or-false (nat_le p x))
over_earlier (Some p) (Some q) x = by_test (nat_le p x) (nat_le q x) refl refl where
  by_test : (a b : Bool) → nat_le p x ≡ a → nat_le q x ≡ b → nat_le (min p q) x ≡ (a || b)
  by_test true b e f = let first = leb-true p x e in le-leb (min p q) x (omega (arith, first))
  by_test false true e f = let last = leb-true q x f in le-leb (min p q) x (omega (arith, last))
  by_test false false e f = let first = leb-false p x e in let last = leb-false q x f in lt-leb (min p q) x (omega (arith, first, last))

-- neither of two deadlines has come before the earlier one has
pub neither_over : (a b : Option ℕ) (x : ℕ) → is_over (earlier a b) x ≡ false → (is_over a x ≡ false) × (is_over b x ≡ false)
neither_over None b x e = (refl, e)
neither_over (Some p) None x e = (e, refl)
neither_over (Some p) (Some q) x e =
    let before : x < min p q = leb-false (min p q) x e in
    (lt-leb p x (omega (arith, before)), lt-leb q x (omega (arith, before)))

-- the earliest has come where an alarm is due
pub over_at : (d : Deadlines) (x : ℕ) (alarm : Alarm) → is_over (deadline d alarm) x ≡ true → is_over (least_deadline d) x ≡ true
over_at d x Quiet h = simp (over_earlier, h) refl
over_at d x _ h = simp (over_earlier, h, or-true) refl

-- no alarm is due before the earliest is
pub alarm_waits : (d : Deadlines) (x : ℕ) → is_over (least_deadline d) x ≡ false → (alarm : Alarm) → is_over (deadline d alarm) x ≡ false
alarm_waits d x e alarm = by_test (is_over (deadline d alarm) x) refl where
  by_test : (b : Bool) → is_over (deadline d alarm) x ≡ b → is_over (deadline d alarm) x ≡ false
  by_test true h = absurd (false≢true (sym e ∙ over_at d x alarm h))
  by_test false h = h

-- the earliest hasn't come where no alarm is due
pub none_over : (d : Deadlines) (x : ℕ) → ((alarm : Alarm) → is_over (deadline d alarm) x ≡ false) → is_over (least_deadline d) x ≡ false
none_over d x waits = let first = least_deadline_armed d in ap (λ o. is_over o x) first.1 ∙ waits first.0

-- where an alarm is due the port doesn't rest
pub rests_not : (d : Deadlines) (sends : Option ℕ) (x : ℕ) → is_over (least_deadline d) x ≡ true → false ≡ not (is_over (earlier (least_deadline d) sends) x)
rests_not d sends x e = rw (over_earlier (least_deadline d) sends x, e) refl

-- where none is, it is the sends'
pub rests_sends : (d : Deadlines) (sends : Option ℕ) (x : ℕ) → is_over (least_deadline d) x ≡ false → not (is_over sends x) ≡
    not (is_over (earlier (least_deadline d) sends) x)
rests_sends d sends x e = rw (over_earlier (least_deadline d) sends x, e) refl
