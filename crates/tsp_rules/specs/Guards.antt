-- What rows ask of a past at a tick.
use Rattle.std.specs.Prelude.{ℕ, ◌+◌, ◌%◌, ◌==◌, nat_le, ℤ, neg_ℤ, int_lt, Bool, true, false, not, ◌&&◌, List, filter, Option, None, Some, is_some}
use Rattle.tsp_rules.specs.Values.{Alarm, PeerId, Place, Peer, Stranger, Role, Starting, Follow, Master, ELECT_MIN, ELECT_SPREAD, LIMIT, SLACK}
use Rattle.tsp_base.specs.Words.{deadline, Past, plain, may_back, may_stand, word, ticket, target, is_among, role, armed, held, in_table, is_rival, is_going}

-- the role
abbrev pub role_at : ℕ → Past → Role
role_at x past = role past.seen

-- the ticket
abbrev pub ticket_at : ℕ → Past → ℕ
ticket_at x past = ticket (plain past.seen)

-- the clock's target
abbrev pub target_at : ℕ → Past → ℤ
target_at x past = target (plain past.seen) x

-- whether a clock may have this value: it lies strictly between -LIMIT and LIMIT
abbrev pub is_clock_value : ℤ → Bool
is_clock_value z = int_lt (neg_ℤ LIMIT) z && int_lt z LIMIT

-- whether the clock's target is in its range
abbrev pub is_in_range : ℕ → Past → Bool
is_in_range x past = is_clock_value (target_at x past)

-- how long a node with this word waits until it stands for election
abbrev pub delay : ℕ → ℕ
delay w = ELECT_MIN + w % ELECT_SPREAD

abbrev pub delay_at : ℕ → Past → ℕ
delay_at x past = delay (word (plain past.seen))

abbrev pub is_over : Option ℕ → ℕ → Bool
is_over None x = false
is_over (Some at) x = nat_le at x

-- whether an alarm is due: it is armed for this tick or an earlier one
abbrev pub is_due : Alarm → ℕ → Past → Bool
is_due alarm x past = is_over (deadline (armed past.seen) alarm) x

abbrev pub is_met : Option ℕ → ℕ → Bool
is_met None x = false
is_met (Some at) x = nat_le x (at + SLACK)

-- whether an alarm that is due is still in time
abbrev pub is_in_time : Alarm → ℕ → Past → Bool
is_in_time alarm x past = is_met (deadline (armed past.seen) alarm) x

-- whether an alarm is armed
abbrev pub is_armed : Alarm → ℕ → Past → Bool
is_armed alarm x past = is_some (deadline (armed past.seen) alarm)

-- whether the hold lets p be backed
abbrev pub may_back_at : PeerId → ℕ → Past → Bool
may_back_at p x past = may_back (held past.seen) x p

-- whether the node may be master and the hold lets it stand for election
abbrev pub may_stand_at : ℕ → Past → Bool
may_stand_at x past = past.may && may_stand (held past.seen) x past.own

-- the slaves, ascending
abbrev pub table_at : ℕ → Past → List PeerId
table_at x past = filter (λ p. in_table p past.seen) past.peers

-- whether p is in the slave table
abbrev pub is_slave_at : PeerId → ℕ → Past → Bool
is_slave_at p x past = in_table p past.seen

-- the rivals, ascending
abbrev pub rivals_at : ℕ → Past → List PeerId
rivals_at x past = filter (λ p. is_rival p past.seen) past.peers

-- whether p was found to be a rival
abbrev pub is_rival_at : PeerId → ℕ → Past → Bool
is_rival_at p x past = is_rival p past.seen

abbrev pub is_follow : Role → Bool
is_follow (Follow q) = true
is_follow _ = false

abbrev pub is_master : Role → Bool
is_master Master = true
is_master _ = false

abbrev pub is_starting_role : Role → Bool
is_starting_role Starting = true
is_starting_role _ = false

-- whether the port follows a master
abbrev pub follows_at : ℕ → Past → Bool
follows_at x past = is_follow (role past.seen)

-- whether the port is a master
abbrev pub is_master_at : ℕ → Past → Bool
is_master_at x past = is_master (role past.seen)

-- whether a sender is the port's own number
abbrev pub is_own : Place → ℕ → Past → Bool
is_own (Peer p) x past = p.0 == past.own.0
is_own Stranger x past = false

-- whether the port heeds p: it is a peer, and the port isn't Starting
abbrev pub is_heard : PeerId → ℕ → Past → Bool
is_heard p x past = is_among p past.peers && not (is_starting_role (role past.seen))

-- whether the port has a round going
abbrev pub is_going_at : ℕ → Past → Bool
is_going_at x past = is_going past.seen
