-- What leaves a port's dates alone.
use Rattle.std.proofs.Common.{◌≡◌, ℕ, ℤ, ◌==◌, ◌&&◌, Bool, true, false, if◌then◌else◌, List, [], ◌∷◌, Option, Some, None, refl, sym, ◌∙◌}
use Rattle.std.proofs.lemmas.Bool.{false≢true, and_left}
use Rattle.tsp_rules.specs.Values.{Act, Boot, Took, Post, Correct, Message, Kind, SetDateReq, PeerId, Place}
use Rattle.tsp_base.specs.Words.{Past, Seen, MessageValue, Keeps, Said, acting, said, taken, Row, grown, puts, Dating, dating_of, is_date_request}
use Rattle.tsp_base.specs.Words.{is_set_date_request, last_asked, last_date}
use Rattle.tsp_rules.proofs.Emits.{Sort, Taking, Asking, Correcting, Numbering, Posting, Leading, Following, Changing, Backing, Counting, Rounding, Alarming}
use Rattle.tsp_rules.proofs.Emits.{Tabling, Rivalling, Acking, Giving, Sampling, Closing, Moving, Tracing, is_in, sort_of, sort_of_kind, Emits, Keeps_by}
use Rattle.tsp_date.specs.{DateStands.DatesStand, Dates.DatesValue}

-- the post of a message that begins no passing on of a date: another message, or a repeat
asked_other : (b : Bool) (x : ℕ) (seen : List Seen) → b ≡ false → (if b then Some x else last_asked seen) ≡ last_asked seen
asked_other true x seen e = absurd (false≢true (sym e))
asked_other false x seen e = refl

pub DatesStand_post : (to : Place) (m : MessageValue) (x : ℕ) (past : Past) (d : DatesValue) → (is_set_date_request m.kind && acting past.seen) ≡ false →
    DatesStand past d → DatesStand (grown x past (Post to (Message m) ∷ [])) d
DatesStand_post to m x past d e h = record {
  peers = h.peers;
  last = h.last;
  asked = h.asked ∙
      sym (asked_other (is_set_date_request m.kind && acting past.seen) x past.seen e);
}

-- whether a peer's message passes a date on
abbrev pub passes_date : Option Said → Bool
passes_date None = false
passes_date (Some s) = is_date_request s.message.kind

pub dating_none : (o : Option Said) (p : PeerId) (x : ℕ) (was : Option Dating) → passes_date o ≡ false → dating_of p x o was ≡ was
dating_none None p x was e = refl
dating_none (Some s) p x was e = rw e (by_test (s.from.0 == p.0)) where
  by_test : (b : Bool) → (if b && false then Some (record { at = x; number = s.message.number }) else was) ≡ was
  by_test true = refl
  by_test false = refl

-- a Correct by what passes no date on
pub DatesStand_correct : (amount : ℤ) (stepped : Bool) (shown : ℤ) (x : ℕ) (past : Past) (d : DatesValue) → passes_date (said (taken past.seen)) ≡ false →
    DatesStand past d →
    DatesStand (grown x past (Correct amount stepped shown ∷ [])) d
DatesStand_correct amount stepped shown x past d e h = record {
  peers = h.peers;
  last = λ p. h.last p ∙
      sym (dating_none (said (taken past.seen)) p x (last_date p past.seen) e);
  asked = h.asked;
}

-- all sorts of acts but Boot, sends that pass a date on, and Correct
abbrev pub dates_sorts : List Sort
dates_sorts = Taking ∷ Asking ∷ Correcting ∷ Numbering ∷ Posting ∷ Leading ∷ Following ∷ Changing ∷ Backing ∷ Counting ∷ Rounding ∷ Alarming ∷ Tabling ∷
    Rivalling ∷ Acking ∷ Giving ∷ Sampling ∷ Closing ∷ Tracing ∷ []

kind_other : (k : Kind) → is_in (sort_of_kind k) dates_sorts ≡ true → is_set_date_request k ≡ false
kind_other SetDateReq e = absurd (false≢true e)
kind_other _ e = refl

pub DatesStand_act : (a : Act) → is_in (sort_of a) dates_sorts ≡ true → Keeps DatesStand (puts a)
unfolding puts
DatesStand_act Boot e x past d h = absurd (false≢true e)
DatesStand_act (Post to (Message m)) e x past d h = DatesStand_post to m x past d (and_left (is_set_date_request m.kind) (acting past.seen)
    (kind_other m.kind e)) h
DatesStand_act (Correct amount stepped shown) e x past d h = absurd (false≢true e)
DatesStand_act _ e x past d h = record { peers = h.peers; last = h.last; asked = h.asked }

-- a row of such acts
pub DatesStand_by : (row : Row) → Emits dates_sorts row → Keeps DatesStand row
DatesStand_by row e = Keeps_by dates_sorts DatesStand row DatesStand_act e

-- the dates in a step that has taken no date that is passed on
pub record DatesAside (past : Past) (dates : DatesValue) : Type 0 where
  pub stands : DatesStand past dates
  pub none : passes_date (said (taken past.seen)) ≡ false

-- all sorts of acts but Boot, Took, and sends that pass a date on
abbrev pub aside_sorts : List Sort
aside_sorts = Asking ∷ Correcting ∷ Numbering ∷ Posting ∷ Leading ∷ Following ∷ Changing ∷ Backing ∷ Counting ∷ Rounding ∷ Alarming ∷ Tabling ∷ Rivalling ∷
    Acking ∷ Giving ∷ Sampling ∷ Closing ∷ Moving ∷ Tracing ∷ []

kind_aside : (k : Kind) → is_in (sort_of_kind k) aside_sorts ≡ true → is_set_date_request k ≡ false
kind_aside SetDateReq e = absurd (false≢true e)
kind_aside _ e = refl

pub DatesAside_act : (a : Act) → is_in (sort_of a) aside_sorts ≡ true → Keeps DatesAside (puts a)
unfolding puts
DatesAside_act Boot e x past d h = absurd (false≢true e)
DatesAside_act (Took from t) e x past d h = absurd (false≢true e)
DatesAside_act (Post to (Message m)) e x past d h = record {
  stands = DatesStand_post to m x past d (and_left (is_set_date_request m.kind) (acting past.seen)
      (kind_aside m.kind e)) h.stands;
  none = h.none;
}
DatesAside_act (Correct amount stepped shown) e x past d h = record { stands = DatesStand_correct amount stepped shown x past d h.none h.stands; none = h.none }
DatesAside_act _ e x past d h = record { stands = record { peers = h.stands.peers; last = h.stands.last; asked = h.stands.asked }; none = h.none }

-- a row of such acts
pub DatesAside_by : (row : Row) → Emits aside_sorts row → Keeps DatesAside row
DatesAside_by row e = Keeps_by aside_sorts DatesAside row DatesAside_act e
