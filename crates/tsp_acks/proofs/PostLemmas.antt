-- Plain messages.
use Rattle.std.specs.Prelude.{◌≡◌, true, false, refl}
use Rattle.std.proofs.lemmas.Bool.{false≢true}
use Rattle.tsp_rules.specs.Values.{Kind, Accept, Ack, DateAck, MasterAck, MasterReq, MasterUp, Refuse, ResolveKind, SlaveUp, Nothing}
use Rattle.tsp_base.specs.Words.{carries_time, carries_hops, body_fits, is_numbered}
use Rattle.tsp_acks.specs.Posts.{is_plain}

-- a plain message carries nothing
pub is_plain_fits : (k : Kind) → is_plain k ≡ true → body_fits k Nothing ≡ true
unfolding body_fits carries_time carries_hops
is_plain_fits Ack p = refl
is_plain_fits MasterReq p = refl
is_plain_fits MasterAck p = refl
is_plain_fits MasterUp p = refl
is_plain_fits SlaveUp p = refl
is_plain_fits Accept p = refl
is_plain_fits Refuse p = refl
is_plain_fits ResolveKind p = refl
is_plain_fits DateAck p = refl
is_plain_fits _ p = absurd (false≢true p)

-- a plain message is no numbered send
pub is_plain_once : (k : Kind) → is_plain k ≡ true → is_numbered k ≡ false
is_plain_once Ack p = refl
is_plain_once MasterReq p = refl
is_plain_once MasterAck p = refl
is_plain_once MasterUp p = refl
is_plain_once SlaveUp p = refl
is_plain_once Accept p = refl
is_plain_once Refuse p = refl
is_plain_once ResolveKind p = refl
is_plain_once DateAck p = refl
is_plain_once _ p = absurd (false≢true p)
