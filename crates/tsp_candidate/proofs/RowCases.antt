-- A candidate's row by kinds, in the kinds that share one.
use Rattle.std.proofs.Common.{inl, inr, ◌≡◌, ◌⊎◌, refl}
use Rattle.tsp_rules.specs.Values.{Kind, MasterAck, MasterUp, PeerId}
use Rattle.tsp_base.specs.Words.{MessageValue}
use Rattle.tsp_rules.specs.{CandidateRows.candidate_takes_kind, CommonRows.follow_row}

pub candidate_takes_kind_master : (p : PeerId) (m : MessageValue) (k : Kind) → (k ≡ MasterUp) ⊎ (k ≡ MasterAck) → candidate_takes_kind p m k ≡ follow_row p
unfolding candidate_takes_kind
candidate_takes_kind_master p m k (inl e) = rw e refl
candidate_takes_kind_master p m k (inr e) = rw e refl
