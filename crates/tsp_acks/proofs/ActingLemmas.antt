-- A step that has acted goes on acting, whatever it puts; one that has taken something has acted.
use Rattle.std.specs.Prelude.{◌≡◌, ℕ, Bool, true, List, [], ◌∷◌, Option, Some, refl}
use Rattle.std.proofs.lemmas.Option.{none-some}
use Rattle.tsp_rules.specs.Values.{Act, Took, Ring, Late, Placed, Port}
use Rattle.tsp_base.specs.Words.{Deed, Step, Seen, Begins, Acts, Here, Elsewhere, Performs, Received, acting, acting_after, taken, taken_after, Row, added}
use Rattle.tsp_acks.specs.{Stands.StationStands, Stands.StandsActing, declared.station.Station.Station}

acting_after_acts : (a : Act) (before : Bool) → before ≡ true → acting_after (Acts a) before ≡ true
acting_after_acts (Took from taken) before e = refl
acting_after_acts (Ring alarm) before e = refl
acting_after_acts (Late alarm) before e = refl
acting_after_acts _ before e = e

acting_added : (step : Step) (x : ℕ) (acts : List Act) (seen : List Seen) → acting seen ≡ true → acting (added step x acts seen) ≡ true
acting_added step x [] seen e = e
acting_added step x (a ∷ rest) seen e = acting_added step x rest _ (acting_after_acts a (acting seen) e)

-- a call in a step that has acted
pub Performs_acting : {row : Row} {x : ℕ} {port : Port} {before after : Station} {old new : List Placed} →
    Performs StationStands StationStands row x port before after old new → Performs StandsActing StandsActing row x port before after old new
Performs_acting {row = row} {x = x} d = record {
  acts = λ past h. d.acts past h.stands;
  stands = λ past h. record { stands = d.stands past h.stands; acted = acting_added past.step x (row x past) past.seen h.acted };
}

pub taken_after_acts : (d : Deed) (took : Option Received) (before : Bool) (r : Received) → (took ≡ Some r → before ≡ true) → taken_after d took ≡ Some r →
    acting_after d before ≡ true
taken_after_acts Begins took before r k e = absurd (none-some r e)
taken_after_acts (Acts (Took from t)) took before r k e = refl
taken_after_acts (Acts (Ring alarm)) took before r k e = refl
taken_after_acts (Acts (Late alarm)) took before r k e = refl
taken_after_acts (Acts _) took before r k e = k e

-- a step that has taken something has acted
pub taken_acts : (seen : List Seen) (r : Received) → taken seen ≡ Some r → acting seen ≡ true
taken_acts [] r e = absurd (none-some r e)
taken_acts (Here d ∷ before) r e = taken_after_acts d.deed (taken before) (acting before) r (taken_acts before r) e
taken_acts (Elsewhere d ∷ before) r e = taken_acts before r e
