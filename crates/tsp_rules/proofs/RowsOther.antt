-- What rows that are written by cases do in the cases that are left.
use Rattle.std.specs.Prelude.{◌≡◌, ◌≢◌, false, refl}
use Rattle.tsp_rules.specs.Values.{Kind, Accept, Ack, AdjTime, Election, MasterAck, MasterUp, QuitKind, Refuse, SetTime, PeerId, Role, Loose, Follow, Master}
use Rattle.tsp_base.specs.Words.{MessageValue, Row, nothing}
use Rattle.tsp_rules.specs.{CandidateRows.candidate_takes_kind, CommonRows.follow_row, CommonRows.follows_unless}
use Rattle.tsp_rules.specs.SlaveRows.{masterup_in, masterack_in, from_master, slave_takes_kind}
use Rattle.tsp_rules.specs.Guards.{is_follow, is_master}

pub is_follow_other : (r : Role) → ((q : PeerId) → r ≡ Follow q → ⊥) → is_follow r ≡ false
is_follow_other (Follow q) n = absurd (n q refl)
is_follow_other _ n = refl

pub is_master_other : (r : Role) → r ≢ Master → is_master r ≡ false
is_master_other Master n = absurd (n refl)
is_master_other _ n = refl

pub masterup_in_other : (p : PeerId) (r : Role) → r ≢ Loose → ((q : PeerId) → r ≡ Follow q → ⊥) → masterup_in p r ≡ nothing
unfolding masterup_in
masterup_in_other p Loose l f = absurd (l refl)
masterup_in_other p (Follow q) l f = absurd (f q refl)
masterup_in_other p _ l f = refl

pub masterack_in_other : (p : PeerId) (r : Role) → r ≢ Loose → ((q : PeerId) → r ≡ Follow q → ⊥) → masterack_in p r ≡ nothing
unfolding masterack_in
masterack_in_other p Loose l f = absurd (l refl)
masterack_in_other p (Follow q) l f = absurd (f q refl)
masterack_in_other p _ l f = refl

pub from_master_other : (p : PeerId) (row : Row) (r : Role) → ((q : PeerId) → r ≡ Follow q → ⊥) → from_master p row r ≡ nothing
unfolding from_master
from_master_other p row (Follow q) f = absurd (f q refl)
from_master_other p row _ f = refl

pub follows_unless_other : (p : PeerId) (r : Role) → ((q : PeerId) → r ≡ Follow q → ⊥) → follows_unless p r ≡ follow_row p
unfolding follows_unless
follows_unless_other p (Follow q) f = absurd (f q refl)
follows_unless_other p _ f = refl

pub slave_takes_kind_other : (p : PeerId) (m : MessageValue) (k : Kind) →
    k ≢ MasterUp → k ≢ MasterAck → k ≢ Election → k ≢ AdjTime → k ≢ SetTime → k ≢ QuitKind → k ≢ Ack → slave_takes_kind p m k ≡ nothing
unfolding slave_takes_kind
slave_takes_kind_other p m MasterUp a b c d e f g = absurd (a refl)
slave_takes_kind_other p m MasterAck a b c d e f g = absurd (b refl)
slave_takes_kind_other p m Election a b c d e f g = absurd (c refl)
slave_takes_kind_other p m AdjTime a b c d e f g = absurd (d refl)
slave_takes_kind_other p m SetTime a b c d e f g = absurd (e refl)
slave_takes_kind_other p m QuitKind a b c d e f g = absurd (f refl)
slave_takes_kind_other p m Ack a b c d e f g = absurd (g refl)
slave_takes_kind_other p m _ a b c d e f g = refl

pub candidate_takes_kind_other : (p : PeerId) (m : MessageValue) (k : Kind) →
    k ≢ MasterUp → k ≢ MasterAck → k ≢ Election → k ≢ Accept → k ≢ Refuse → k ≢ QuitKind → k ≢ Ack → candidate_takes_kind p m k ≡ nothing
unfolding candidate_takes_kind
candidate_takes_kind_other p m MasterUp a b c d e f g = absurd (a refl)
candidate_takes_kind_other p m MasterAck a b c d e f g = absurd (b refl)
candidate_takes_kind_other p m Election a b c d e f g = absurd (c refl)
candidate_takes_kind_other p m Accept a b c d e f g = absurd (d refl)
candidate_takes_kind_other p m Refuse a b c d e f g = absurd (e refl)
candidate_takes_kind_other p m QuitKind a b c d e f g = absurd (f refl)
candidate_takes_kind_other p m Ack a b c d e f g = absurd (g refl)
candidate_takes_kind_other p m _ a b c d e f g = refl
