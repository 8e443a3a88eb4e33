-- What an audit notes of a history.
use Rattle.std.specs.Prelude.{◌≤◌, ◌+◌, ℕ, List, length, vec_len, vec_capacity}
use Rattle.tsp_audit.specs.declared.remembered.Remembered.{Remembered}
use Rattle.tsp_audit.specs.{Acting.ActedIs, Agreeing.AgreementIs, Agreeing.SettledAt, Parts.AllKept, declared.premises.Premises.Premises}
use Rattle.tsp_base.specs.Words.{HeaderValue, Line}

-- the sends that were taken are those of a history; where the schedule keeps all premises the tracker of the header's
-- nodes stands for it; and what it holds to be settled is so
pub record RememberedStands (premises : Premises) (header : HeaderValue) (h : List Line) (n : Remembered) : Type 0 where
  pub acted : ActedIs h n.acted.items
  pub agreement : AllKept premises → AgreementIs (length header.nodes) h n.agreement
  pub settled : SettledAt header n.agreement.settled n.agreement.nodes.items

-- there is room for so many lines more
pub record HasLineRoom (lines : ℕ) (n : Remembered) : Type 0 where
  pub acted : vec_len n.acted + lines ≤ vec_capacity n.acted
  pub trips : vec_len n.agreement.trips + lines ≤ vec_capacity n.agreement.trips
