-- What one act more makes of the past of a peer, and of a master's table.
use Rattle.std.proofs.Common.{◌≡◌, ℕ, ◌==◌, ◌&&◌, ◌||◌, not, cond, get_or, pos, ◌+ℤ◌, Bool, true, false, if◌then◌else◌, List, [], ◌∷◌, Option, Some, eqb-true}
use Rattle.std.proofs.Common.{refl, sym, ◌∙◌, ap}
use Rattle.std.specs.List.{All, filter}
use Rattle.std.proofs.lemmas.{Bool.false≢true, Bool.and_right, Bool.and_left, List.Elements.All-head, List.Elements.All-tail}
use Rattle.tsp_rules.specs.Values.{Act, Boot, Post, Become, Arm, Ring, Late, Abandon, Sample, Acked, Join, Leave, Probe, CloseAlarm, Message, Stamp, Kind}
use Rattle.tsp_rules.specs.Values.{AdjTime, SetTime, PeerId, Place, Peer, Stranger, Follow, Master, Request, Reply}
use Rattle.tsp_base.specs.Words.{Past, MessageValue, Keeps, acting, in_table, is_measured, grown, puts, corrects_in, is_correction, is_acknowledged}
use Rattle.tsp_base.specs.Words.{last_number, last_post, open_send, IsPeers}
use Rattle.tsp_base.proofs.SendLemmas.{seen_act, last_post_posts, last_post_other, last_number_begins, last_number_other, is_acknowledged_begins}
use Rattle.tsp_base.proofs.SendLemmas.{is_acknowledged_other, is_acknowledged_acked}
use Rattle.tsp_rules.specs.{DateRows.all_settled, DateRows.are_settled, DateRows.is_settled, SendRows.may_correct, SendRows.may_set}
use Rattle.tsp_rules.specs.Guards.{is_clock_value, is_in_range, target_at}
use Rattle.tsp_rules.proofs.Emits.{Sort, Taking, Numbering, Passing, Posting, Backing, Counting, Alarming, Rivalling, Giving, Closing, Tracing, is_in, sort_of}
use Rattle.tsp_rules.proofs.Emits.{sort_of_kind}
use Rattle.tsp_clock.specs.{ClockStands.ClockStands, Clocks.ClockValue, Clocks.target_of}
use Rattle.tsp_measure.specs.Slaves.{entry_of, peers_of, Changes, joins, leaves, begins_at, acks, acks_where, may_correct_by, is_settled_by, are_settled_by}
use Rattle.tsp_measure.{proofs.Entries.Rising_peers, proofs.Entries.entry_of_at, specs.declared.entry.Entry.Entry}
use Rattle.tsp_master.specs.{MasterStands.MasterStands, MasterStands.entry_at, declared.master.Master.Master as MasterStruct}
use Rattle.tsp_master.proofs.MasterLemmas.{EntriesAfter, MasterStands_aside, is_aside}

-- an entry that changes where the act is about its peer
abbrev ChangesAt : PeerId → (Entry → Entry) → Past → ℕ → Act → Type 0
ChangesAt p f past x a = (q : PeerId) → entry_at q (seen_act past.step x a ∷ past.seen) ≡
    (if p.0 == q.0 then f (entry_at q past.seen) else entry_at q past.seen)

-- the table changes as the past does
pub EntriesAfter_changed : (p : PeerId) (f : Entry → Entry) (past : Past) (x : ℕ) (a : Act) (old new : MasterStruct) →
    ((q : PeerId) → entry_at q (seen_act past.step x a ∷ past.seen) ≡ (if p.0 == q.0 then f (entry_at q past.seen) else entry_at q past.seen)) →
    Changes p f old.slaves new.slaves → ((q : PeerId) → entry_of old.slaves q ≡ entry_at q past.seen) → EntriesAfter past x a new
EntriesAfter_changed p f past x a old new after change h q = change q ∙ ap (λ e. if p.0 == q.0 then f e else e) (h q) ∙ sym (after q)

-- a peer joins, or leaves
pub joins_after : (p : PeerId) (past : Past) (x : ℕ) → ChangesAt p joins past x (Join p)
joins_after p past x q = by_test (p.0 == q.0) where
  by_test : (b : Bool) → record {
    peer = q;
    joined = if b then true else in_table q past.seen;
    measured = is_measured q past.seen;
    posted = last_post q past.seen;
    number = last_number q past.seen;
    acked = is_acknowledged q past.seen;
  }
      ≡ (if b then joins (entry_at q past.seen) else entry_at q past.seen)
  by_test true = refl
  by_test false = refl

pub leaves_after : (p : PeerId) (past : Past) (x : ℕ) → ChangesAt p leaves past x (Leave p)
leaves_after p past x q = by_test (p.0 == q.0) where
  by_test : (b : Bool) → record {
    peer = q;
    joined = if b then false else in_table q past.seen;
    measured = if b then false else is_measured q past.seen;
    posted = last_post q past.seen;
    number = last_number q past.seen;
    acked = is_acknowledged q past.seen;
  }
      ≡ (if b then leaves (entry_at q past.seen) else entry_at q past.seen)
  by_test true = refl
  by_test false = refl

-- an entry by its parts
abbrev entry_with : PeerId → Bool → Bool → Option ℕ → ℕ → Bool → Entry
entry_with q j m posted number acked = record { peer = q; joined = j; measured = m; posted = posted; number = number; acked = acked }

entry_is : (q : PeerId) (j m : Bool) {a b : Option ℕ} {c d : ℕ} {e f : Bool} → a ≡ b → c ≡ d → e ≡ f → entry_with q j m a c e ≡ entry_with q j m b d f
entry_is q j m {a = a} {b = b} {c = c} {d = d} {e = e} s t u = ap (λ k. entry_with q j m k c e) s ∙ ap (λ k. entry_with q j m b k e) t ∙
    ap (λ k. entry_with q j m b d k) u

-- a correction begins
pub begins_after : (p : PeerId) (m : MessageValue) (past : Past) (x : ℕ) → is_correction m.kind ≡ true → acting past.seen ≡ true →
    ChangesAt p (begins_at x m.number) past x (Post (Peer p) (Message m))
begins_after p m past x corrects acts q =
    entry_is q (in_table q past.seen) (is_measured q past.seen) (last_post_posts past.step x q p m past.seen corrects)
    (last_number_begins past.step x q p m past.seen corrects acts) (is_acknowledged_begins past.step x q p m past.seen corrects acts)
    ∙ by_test (p.0 == q.0) where
      by_test : (b : Bool) → entry_with q (in_table q past.seen) (is_measured q past.seen) (if b then Some x else last_post q past.seen)
          (if b then m.number else last_number q past.seen) (if b then false else is_acknowledged q past.seen)
          ≡ (if b then begins_at x m.number (entry_at q past.seen) else entry_at q past.seen)
      by_test true = refl
      by_test false = refl

-- another message is posted
message_quiet : (to : Place) (m : MessageValue) (past : Past) (x : ℕ) (q : PeerId) → is_correction m.kind ≡ false →
    entry_at q (seen_act past.step x (Post to (Message m)) ∷ past.seen) ≡ entry_at q past.seen
message_quiet (Peer p) m past x q other =
    let none : (is_correction m.kind && acting past.seen) ≡ false = and_left (is_correction m.kind) (acting past.seen) other in
    entry_is q (in_table q past.seen) (is_measured q past.seen) (last_post_other past.step x q (Peer p) m past.seen other)
    (last_number_other past.step x q (Peer p) m past.seen none) (is_acknowledged_other past.step x q (Peer p) m past.seen none)
message_quiet Stranger m past x q other =
    let none : (is_correction m.kind && acting past.seen) ≡ false = and_left (is_correction m.kind) (acting past.seen) other in
    entry_is q (in_table q past.seen) (is_measured q past.seen) (last_post_other past.step x q Stranger m past.seen other)
    (last_number_other past.step x q Stranger m past.seen none) (is_acknowledged_other past.step x q Stranger m past.seen none)

pub acked_after : (p : PeerId) (past : Past) (x : ℕ) → ChangesAt p (acks_where (corrects_in (open_send p past.seen))) past x (Acked p)
acked_after p past x q =
    entry_is q (in_table q past.seen) (is_measured q past.seen) refl refl (is_acknowledged_acked past.step x q p past.seen) ∙ by_test (p.0 == q.0) refl where
      by_open : (c : Bool) → entry_with q (in_table q past.seen) (is_measured q past.seen) (last_post q past.seen) (last_number q past.seen)
          (if c then true else is_acknowledged q past.seen) ≡ (if c then acks (entry_at q past.seen) else entry_at q past.seen)
      by_open true = refl
      by_open false = refl

      by_test : (b : Bool) → (p.0 == q.0) ≡ b → entry_with q (in_table q past.seen) (is_measured q past.seen) (last_post q past.seen) (last_number q past.seen)
          (if b && corrects_in (open_send q past.seen) then true else is_acknowledged q past.seen)
          ≡ (if b then acks_where (corrects_in (open_send p past.seen)) (entry_at q past.seen) else entry_at q past.seen)
      by_test true e =
          let it : q ≡ p = ap (λ n. record { 0 = n }) (sym (eqb-true p.0 q.0 e)) in
          by_open (corrects_in (open_send q past.seen)) ∙ ap (λ r. acks_where (corrects_in (open_send r past.seen)) (entry_at q past.seen)) it
      by_test false e = refl

-- acts that tell nothing of slaves, corrections and rounds
abbrev pub quiet_sorts : List Sort
quiet_sorts = Taking ∷ Numbering ∷ Passing ∷ Posting ∷ Backing ∷ Counting ∷ Alarming ∷ Rivalling ∷ Giving ∷ Closing ∷ Tracing ∷ []

kind_quiet : (k : Kind) → is_in (sort_of_kind k) quiet_sorts ≡ true → is_correction k ≡ false
kind_quiet AdjTime e = absurd (false≢true e)
kind_quiet SetTime e = absurd (false≢true e)
kind_quiet _ e = refl

aside_quiet : (a : Act) → is_in (sort_of a) quiet_sorts ≡ true → is_aside a ≡ true
aside_quiet Boot e = absurd (false≢true e)
aside_quiet (Become Master) e = absurd (false≢true e)
aside_quiet (Become (Follow p)) e = absurd (false≢true e)
aside_quiet (Become _) e = absurd (false≢true e)
aside_quiet (Post to (Stamp (Request word counter))) e = absurd (false≢true e)
aside_quiet (Post to (Stamp (Reply r))) e = refl
aside_quiet (Post to (Message m)) e = refl
aside_quiet (Arm Probe at) e = absurd (false≢true e)
aside_quiet (Arm CloseAlarm at) e = absurd (false≢true e)
aside_quiet (Arm _ at) e = refl
aside_quiet (Ring Probe) e = absurd (false≢true e)
aside_quiet (Ring CloseAlarm) e = absurd (false≢true e)
aside_quiet (Ring _) e = refl
aside_quiet (Late Probe) e = absurd (false≢true e)
aside_quiet (Late CloseAlarm) e = absurd (false≢true e)
aside_quiet (Late _) e = refl
aside_quiet Abandon e = absurd (false≢true e)
aside_quiet (Sample p counter diff err ticket) e = absurd (false≢true e)
aside_quiet _ e = refl

entry_quiet : (a : Act) → is_in (sort_of a) quiet_sorts ≡ true → (past : Past) (x : ℕ) (q : PeerId) → entry_at q (seen_act past.step x a ∷ past.seen) ≡
    entry_at q past.seen
entry_quiet Boot e past x q = absurd (false≢true e)
entry_quiet (Become Master) e past x q = absurd (false≢true e)
entry_quiet (Become (Follow p)) e past x q = absurd (false≢true e)
entry_quiet (Become _) e past x q = absurd (false≢true e)
entry_quiet (Post (Peer p) (Stamp (Request word counter))) e past x q = absurd (false≢true e)
entry_quiet (Post (Peer p) (Stamp (Reply r))) e past x q = refl
entry_quiet (Post Stranger (Stamp (Request word counter))) e past x q = absurd (false≢true e)
entry_quiet (Post Stranger (Stamp (Reply r))) e past x q = refl
entry_quiet (Post to (Message m)) e past x q = message_quiet to m past x q (kind_quiet m.kind e)
entry_quiet (Join p) e past x q = absurd (false≢true e)
entry_quiet (Leave p) e past x q = absurd (false≢true e)
entry_quiet (Acked p) e past x q = absurd (false≢true e)
entry_quiet (Arm CloseAlarm at) e past x q = absurd (false≢true e)
entry_quiet (Arm _ at) e past x q = refl
entry_quiet _ e past x q = refl

pub MasterStands_quiet : (a : Act) → is_in (sort_of a) quiet_sorts ≡ true → Keeps MasterStands (puts a)
unfolding puts
MasterStands_quiet a e x past m h =
    MasterStands_aside a x past m m (aside_quiet a e) refl refl (λ q. h.entries q ∙ sym (entry_quiet a e past x q))
    (λ other q. (
      ap (λ (k : Entry). k.joined) (entry_quiet a e past x q) ∙ (h.empty other q).0,
      ap (λ (k : Entry). k.measured) (entry_quiet a e past x q) ∙
          (h.empty other q).1,
    )) h

-- a change that makes no slave
abbrev pub MakesNone : (Entry → Entry) → Type 0
MakesNone f = (e : Entry) → e.joined ≡ false → e.measured ≡ false → ((f e).joined ≡ false) × ((f e).measured ≡ false)

-- an act about one peer, and the same change of the table
pub MasterStands_changed : (p : PeerId) (f : Entry → Entry) (a : Act) (x : ℕ) (past : Past) (old new : MasterStruct) → is_aside a ≡ true → MakesNone f →
    ((q : PeerId) → entry_at q (seen_act past.step x a ∷ past.seen) ≡ (if p.0 == q.0 then f (entry_at q past.seen) else entry_at q past.seen)) →
    Changes p f old.slaves new.slaves → peers_of new.slaves ≡ peers_of old.slaves → new.rounds ≡ old.rounds → MasterStands past old →
    MasterStands (grown x past (a ∷ [])) new
MasterStands_changed p f a x past old new aside none after change ps rs h =
    MasterStands_aside a x past old new aside ps rs (EntriesAfter_changed p f past x a old new after change h.entries)
    (λ other q. let e = h.empty other q in let k = by_test (p.0 == q.0) q (none (entry_at q past.seen) e.0 e.1) e in
    (ap (λ (t : Entry). t.joined) (after q) ∙ k.0, ap (λ (t : Entry). t.measured) (after q) ∙ k.1)) h where
      by_test : (b : Bool) (q : PeerId) → ((f (entry_at q past.seen)).joined ≡ false) × ((f (entry_at q past.seen)).measured ≡ false) →
          (in_table q past.seen ≡ false) × (is_measured q past.seen ≡ false) →
          ((if b then f (entry_at q past.seen) else entry_at q past.seen).joined ≡ false) ×
          ((if b then f (entry_at q past.seen) else entry_at q past.seen).measured ≡ false)
      by_test true q k e = k
      by_test false q k e = e

-- a correction begins, and the table has it
pub MasterStands_begins : (p : PeerId) (m : MessageValue) (x : ℕ) (past : Past) (old new : MasterStruct) → is_correction m.kind ≡ true → acting past.seen ≡
    true → Changes p (begins_at x m.number) old.slaves new.slaves → peers_of new.slaves ≡ peers_of old.slaves → new.rounds ≡ old.rounds →
    MasterStands past old → MasterStands (grown x past (Post (Peer p) (Message m) ∷ [])) new
MasterStands_begins p m x past old new corrects acts change ps rs h =
    MasterStands_changed p (begins_at x m.number) (Post (Peer p) (Message m)) x past old new refl (λ e j k. (j, k)) (begins_after p m past x corrects acts)
    change ps rs h

-- whether a correction may begin, as the entry has it
pub may_correct_is : (p : PeerId) (number x : ℕ) (past : Past) (m : MasterStruct) (e : Entry) → MasterStands past m → e ≡ entry_of m.slaves p →
    may_correct p number x past ≡ may_correct_by e number x
may_correct_is p number x past m e h is = ap (λ k. may_correct_by k number x) (sym (is ∙ h.entries p))

-- the clock's target, as the clock has it
pub target_is : (x : ℕ) (past : Past) (clock : ClockValue) → ClockStands past clock → target_at x past ≡ target_of clock x
target_is x past clock h = ap (λ o. o +ℤ pos x) (sym h.offset_is)

-- whether the clock's target may be set
pub may_set_is : (p : PeerId) (number x : ℕ) (past : Past) (m : MasterStruct) (e : Entry) (clock : ClockValue) (a b : Bool) → MasterStands past m →
    ClockStands past clock → e ≡ entry_of m.slaves p →
    may_correct_by e number x ≡ a → is_clock_value (target_of clock x) ≡ b → may_set p number x past ≡ (a && b)
may_set_is p number x past m e clock a b h k is f g =
    ap (λ t. t && is_in_range x past) (may_correct_is p number x past m e h is ∙ f) ∙ ap (λ t. a && t) (ap is_clock_value (target_is x past clock k) ∙ g)

pub may_set_none : (p : PeerId) (number x : ℕ) (past : Past) (clock : ClockValue) → ClockStands past clock → is_clock_value (target_of clock x) ≡ false →
    may_set p number x past ≡ false
may_set_none p number x past clock k g = and_right (may_correct p number x past) (is_in_range x past) (ap is_clock_value (target_is x past clock k) ∙ g)

settled_all : (x : ℕ) (past : Past) (es : List Entry) → All (λ (e : Entry). e ≡ entry_at e.peer past.seen) es →
    are_settled (filter (λ (p : PeerId). in_table p past.seen) (peers_of es)) x past ≡ are_settled_by x es
settled_all x past [] h = refl
settled_all x past (e ∷ es) h =
    by_test (in_table e.peer past.seen) (ap (λ (k : Entry). k.joined) is) (ap (λ k. is_settled_by k x) (sym is))
    (settled_all x past es (All-tail (λ (k : Entry). k ≡ entry_at k.peer past.seen) e es h)) where
      is : e ≡ entry_at e.peer past.seen
      is = All-head (λ (k : Entry). k ≡ entry_at k.peer past.seen) e es h

      by_test : (b : Bool) → e.joined ≡ b → is_settled e.peer x past ≡ is_settled_by e x →
          are_settled (filter (λ (p : PeerId). in_table p past.seen) (peers_of es)) x past ≡ are_settled_by x es →
          are_settled (cond b (e.peer ∷ filter (λ (p : PeerId). in_table p past.seen) (peers_of es))
          (filter (λ (p : PeerId). in_table p past.seen) (peers_of es))) x past ≡ ((not e.joined || is_settled_by e x) && are_settled_by x es)
      by_test true j k rest = rw (j, k, rest) refl
      by_test false j k rest = rw (j, rest) refl

-- whether all slaves are settled, as the table has it
pub settled_is : (x : ℕ) (past : Past) (m : MasterStruct) → IsPeers (peers_of m.slaves) → MasterStands past m → all_settled x past ≡ are_settled_by x m.slaves
settled_is x past m up h =
    ap (λ ps. are_settled (filter (λ (p : PeerId). in_table p past.seen) ps) x past) (sym h.peers)
    ∙ settled_all x past m.slaves (λ k d l. sym (entry_of_at m.slaves k d (get_or m.slaves k d).peer (Rising_peers m.slaves up) l refl) ∙
    h.entries (get_or m.slaves k d).peer)

-- the same table and rounds stand for the same past
pub MasterStands_same : (past : Past) (old new : MasterStruct) → peers_of new.slaves ≡ peers_of old.slaves → new.rounds ≡ old.rounds →
    ((q : PeerId) → entry_of new.slaves q ≡ entry_of old.slaves q) → MasterStands past old → MasterStands past new
MasterStands_same past old new ps rs es h = record {
  peers = ps ∙ h.peers;
  entries = λ q. es q ∙ h.entries q;
  asked_is = rw rs h.asked_is;
  going = λ g. rw rs (h.going g);
  idle = h.idle;
  probing = h.probing;
  empty = h.empty;
}
