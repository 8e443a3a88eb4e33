-- What the acts of a port's other parts make of a master: they leave it alone, but for a change of the role, which takes its slaves.
use Rattle.std.proofs.Common.{sym, ◌∙◌, ap, inl, inr, true≢false, ◌≡◌, ◌≢◌, ◌==◌, ℕ, zero, ℤ, Bool, true, false, not, ◌||◌, ◌&&◌, if◌then◌else◌, List, [], ◌∷◌}
use Rattle.std.proofs.Common.{◌⊎◌, refl}
use Rattle.std.proofs.lemmas.Bool.{false≢true, or_parts, or_cases}
use Rattle.tsp_rules.specs.Values.{Act, Boot, Post, Become, Arm, Ring, Late, Correct, Acked, Probe, CloseAlarm, Message, Stamp, Kind, AdjTime, Conflict}
use Rattle.tsp_rules.specs.Values.{Election, QuitKind, SetDateReq, SetTime, PeerId, Role, Starting, Master, Request}
use Rattle.tsp_base.specs.Words.{Acts, Did, Elsewhere, Here, Past, Seen, Step, Turned, in_table, role, is_measured, corrects_in, open_send, Row, added, grown}
use Rattle.tsp_base.specs.Words.{in_step, puts}
use Rattle.tsp_rules.proofs.Emits.{Sort, Taking, Numbering, Passing, Posting, Leading, Following, Changing, Backing, Counting, Alarming, Rivalling, Giving}
use Rattle.tsp_rules.proofs.Emits.{Closing, Moving, Tracing, AllOf, is_in, sort_of, sort_of_kind, Emits, Emits_more}
use Rattle.tsp_rules.{proofs.EmitsTables.changes, proofs.EmitsTables.is_change, specs.Guards.is_master}
use Rattle.tsp_measure.specs.{Slaves.acks_where, Slaves.entry_of, Slaves.leaves, declared.entry.Entry.Entry}
use Rattle.tsp_master.specs.{Clearing.Cleared, Clearing.Clears, MasterStands.MasterStands, MasterStands.entry_at}
use Rattle.tsp_master.{proofs.MasterLemmas.MasterStands_aside, specs.declared.master.Master.Master as MasterStruct}
use Rattle.tsp_master.proofs.TableLemmas.{quiet_sorts, MasterStands_changed, MasterStands_quiet, acked_after}

-- acts of a port's other parts: none of a round, of a correction or of the table, and no answer to a send
abbrev pub turning_sorts : List Sort
turning_sorts = Taking ∷ Numbering ∷ Passing ∷ Posting ∷ Leading ∷ Following ∷ Changing ∷ Backing ∷ Counting ∷ Alarming ∷ Rivalling ∷ Giving ∷ Closing ∷
    Moving ∷ Tracing ∷ []

-- those by which no port becomes a master
abbrev pub parting_sorts : List Sort
parting_sorts = Taking ∷ Numbering ∷ Passing ∷ Posting ∷ Following ∷ Changing ∷ Backing ∷ Counting ∷ Alarming ∷ Rivalling ∷ Giving ∷ Closing ∷ Moving ∷
    Tracing ∷ []

pub MasterStands_become : (r : Role) (x : ℕ) (past : Past) (old new : MasterStruct) → Cleared old new → MasterStands past old →
    MasterStands (grown x past (Become r ∷ [])) new
MasterStands_become r x past old new c h = record {
  peers = c.peers ∙ h.peers;
  entries = λ p. c.slaves p ∙ ap leaves (h.entries p);
  asked_is = rw c.rounds h.asked_is;
  going = λ g. absurd (false≢true g);
  idle = λ g p k. refl;
  probing = λ at e. let bad : ⊥ = cc in absurd bad;
  empty = λ other p. (refl, refl);
}

pub MasterStands_correct : (amount shown : ℤ) (stepped : Bool) (x : ℕ) (past : Past) (m : MasterStruct) → MasterStands past m →
    MasterStands (grown x past (Correct amount stepped shown ∷ [])) m
MasterStands_correct amount shown stepped x past m h = MasterStands_aside (Correct amount stepped shown) x past m m refl refl refl h.entries h.empty h

quiet_kind : (k : Kind) → is_in (sort_of_kind k) turning_sorts ≡ true → is_in (sort_of_kind k) quiet_sorts ≡ true
quiet_kind AdjTime e = absurd (false≢true e)
quiet_kind SetTime e = absurd (false≢true e)
quiet_kind Election e = refl
quiet_kind Conflict e = refl
quiet_kind QuitKind e = refl
quiet_kind SetDateReq e = refl
quiet_kind _ e = refl

MasterStands_act : (a : Act) → is_in (sort_of a) turning_sorts ≡ true → (x : ℕ) (past : Past) (m c : MasterStruct) → (is_change a ≡ true → Cleared m c) →
    MasterStands past m → MasterStands (grown x past (a ∷ [])) (if is_change a then c else m)
unfolding puts
MasterStands_act (Become r) e x past m c k h = MasterStands_become r x past m c (k refl) h
MasterStands_act (Correct amount stepped shown) e x past m c k h = MasterStands_correct amount shown stepped x past m h
MasterStands_act (Post to (Message t)) e x past m c k h = MasterStands_quiet (Post to (Message t)) (quiet_kind t.kind e) x past m h
MasterStands_act (Post to (Stamp (Request word counter))) e x past m c k h = absurd (false≢true e)
MasterStands_act (Arm Probe at) e x past m c k h = absurd (false≢true e)
MasterStands_act (Arm CloseAlarm at) e x past m c k h = absurd (false≢true e)
MasterStands_act (Ring Probe) e x past m c k h = absurd (false≢true e)
MasterStands_act (Ring CloseAlarm) e x past m c k h = absurd (false≢true e)
MasterStands_act (Late Probe) e x past m c k h = absurd (false≢true e)
MasterStands_act (Late CloseAlarm) e x past m c k h = absurd (false≢true e)
MasterStands_act a e x past m c k h = MasterStands_quiet a e x past m h

-- what was cleared is cleared
Cleared_twice : (old new : MasterStruct) → Cleared old new → Cleared new new
Cleared_twice old new c = record { slaves = λ q. c.slaves q ∙ ap leaves (sym (c.slaves q)); peers = refl; rounds = refl }

-- one act after the other
pub MasterStands_turns : (acts : List Act) → AllOf turning_sorts acts → (x : ℕ) (past : Past) (m c : MasterStruct) → (changes acts ≡ true → Cleared m c) →
    MasterStands past m → MasterStands (grown x past acts) (if changes acts then c else m)
MasterStands_turns [] e x past m c k h = h
MasterStands_turns (a ∷ rest) e x past m c k h = by_change (is_change a) refl (λ u v w. MasterStands_turns rest e.1 x (grown x past (a ∷ [])) u c v w) where
  either : (b : Bool) → MasterStands (grown x (grown x past (a ∷ [])) rest) (if b then c else c) → MasterStands (grown x past (a ∷ rest)) c
  either true h = h
  either false h = h

  by_change : (b : Bool) → is_change a ≡ b → ((u : MasterStruct) → (changes rest ≡ true → Cleared u c) → MasterStands (grown x past (a ∷ [])) u →
      MasterStands (grown x (grown x past (a ∷ [])) rest) (if changes rest then c else u)) →
      MasterStands (grown x past (a ∷ rest)) (if b || changes rest then c else m)
  by_change true f next =
      let cleared : Cleared m c = k (ap (λ t. t || changes rest) f) in
      let here : MasterStands (grown x past (a ∷ [])) c = rw f at (MasterStands_act a e.0 x past m c (λ g. cleared) h) in
      either (changes rest) (next c (λ g. Cleared_twice m c cleared) here)
  by_change false f next =
      let here : MasterStands (grown x past (a ∷ [])) m = rw f at (MasterStands_act a e.0 x past m m (λ g. absurd (false≢true (sym f ∙ g))) h) in
      next m (λ g. k (ap (λ t. t || changes rest) f ∙ g)) here

-- an act that is no Become leaves the role
role_same : (a : Act) → is_in (sort_of a) turning_sorts ≡ true → is_change a ≡ false → (step : Step) (x : ℕ) (seen : List Seen) →
    role (Here (record { step = step; tick = x; deed = Acts a }) ∷ seen) ≡ role seen
role_same Boot e k step x seen = absurd (false≢true e)
role_same (Become r) e k step x seen = absurd (true≢false k)
role_same _ e k step x seen = refl

role_stays : (acts : List Act) → AllOf turning_sorts acts → changes acts ≡ false → (step : Step) (x : ℕ) (seen : List Seen) → role (added step x acts seen) ≡
    role seen
role_stays [] e k step x seen = refl
role_stays (a ∷ rest) e k step x seen = let n = or_parts (is_change a) (changes rest) k in role_stays rest e.1 n.1 step x _ ∙ role_same a e.0 n.0 step x seen

-- by such acts no port becomes a master
parting : (a : Act) → is_in (sort_of a) parting_sorts ≡ true → (step : Step) (x : ℕ) (seen : List Seen) → (is_change a ≡ true) ⊎ (role seen ≢ Master) →
    role (Here (record { step = step; tick = x; deed = Acts a }) ∷ seen) ≢ Master
parting (Become Master) e step x seen k = absurd (false≢true e)
parting (Become r) e step x seen k = λ f. let bad : ⊥ = cc in bad
parting Boot e step x seen k = absurd (false≢true e)
parting _ e step x seen (inl k) = absurd (false≢true k)
parting _ e step x seen (inr n) = n

-- all of them are among the others
more : (acts : List Act) → AllOf parting_sorts acts → AllOf turning_sorts acts
more acts e = (Emits_more parting_sorts {all = turning_sorts} {row = λ x past. acts} refl (record { only = λ x past. e })).only zero
    (record {
      own = record { 0 = 0 };
      name = [];
      may = false;
      strict = false;
      port = record { 0 = 0 };
      peers = [];
      step = record { at = 0; node = 0; cause = Turned };
      seen = [];
    })

role_parts : (acts : List Act) → AllOf parting_sorts acts → (step : Step) (x : ℕ) (seen : List Seen) → (changes acts ≡ true) ⊎ (role seen ≢ Master) →
    role (added step x acts seen) ≢ Master
role_parts [] e step x seen (inl k) = absurd (false≢true k)
role_parts [] e step x seen (inr n) = n
role_parts (a ∷ rest) e step x seen (inr n) = role_parts rest e.1 step x _ (inr (parting a e.0 step x seen (inr n)))
role_parts (a ∷ rest) e step x seen (inl k) = by_one (or_cases (is_change a) (changes rest) k) (λ n. role_parts rest e.1 step x _ n) where
  after : List Seen
  after = Here (record { step = step; tick = x; deed = Acts a }) ∷ seen

  by_one : (is_change a ≡ true) ⊎ (changes rest ≡ true) → ((changes rest ≡ true) ⊎ (role after ≢ Master) → role (added step x rest after) ≢ Master) →
      role (added step x (a ∷ rest) seen) ≢ Master
  by_one (inl c) next = next (inr (parting a e.0 step x seen (inl c)))
  by_one (inr c) next = next (inl c)

-- the role is no longer a master's where it changed
is_master_true : (r : Role) → is_master r ≡ true → r ≡ Master
is_master_true Master e = refl
is_master_true Starting e = absurd (false≢true e)
is_master_true _ e = absurd (false≢true e)

is_master_false : (r : Role) → is_master r ≡ false → r ≢ Master
is_master_false Master e = absurd (true≢false e)
is_master_false Starting e = λ f. let bad : ⊥ = cc in bad
is_master_false _ e = λ f. let bad : ⊥ = cc in bad

-- by such acts the role of a master changes where it is another one afterwards
pub changes_parted : (acts : List Act) → AllOf parting_sorts acts → (step : Step) (x : ℕ) (seen : List Seen) (before after : Role) → role seen ≡ before →
    role (added step x acts seen) ≡ after → is_master before ≡ true → changes acts ≡ not (is_master after)
changes_parted acts e step x seen before after was is led = by_change (changes acts) (is_master after) refl refl where
  all : AllOf turning_sorts acts
  all = more acts e

  by_change : (t a : Bool) → changes acts ≡ t → is_master after ≡ a → t ≡ not a
  by_change true true t a = absurd (role_parts acts e step x seen (inl t) (is ∙ is_master_true after a))
  by_change true false t a = refl
  by_change false true t a = refl
  by_change false false t a = absurd (is_master_false after a (sym is ∙ role_stays acts all t step x seen ∙ was ∙ is_master_true before led))

-- a port that doesn't lead has no slaves to forget
Cleared_idle : (past : Past) (m : MasterStruct) → role past.seen ≢ Master → MasterStands past m → Cleared m m
Cleared_idle past m other h = record {
  slaves = λ q. let e = h.empty other q in h.entries q ∙ same q (in_table q past.seen) (is_measured q past.seen) e.0 e.1 ∙ ap leaves (sym (h.entries q));
  peers = refl;
  rounds = refl;
} where
  same : (q : PeerId) (j m : Bool) → j ≡ false → m ≡ false → record (entry_at q past.seen) { joined = j; measured = m } ≡
      record (entry_at q past.seen) { joined = false; measured = false }
  same q j m e f = rw (e, f) refl

-- a row of a port's other parts, where the slaves are forgotten if the port led and leads no more
pub MasterStands_parted : (row : Row) → Emits parting_sorts row → (x : ℕ) (past : Past) (m k : MasterStruct) (before after : Role) → role past.seen ≡ before →
    role (grown x past (row x past)).seen ≡ after →
    Clears (is_master before && not (is_master after)) m k → MasterStands past m → MasterStands (grown x past (row x past)) k
MasterStands_parted row e x past m k before after was is clears h = by_roles (is_master before) (is_master after) refl refl clears where
  acts : List Act
  acts = row x past

  all : AllOf turning_sorts acts
  all = (Emits_more parting_sorts {all = turning_sorts} refl e).only x past

  by_roles : (b a : Bool) → is_master before ≡ b → is_master after ≡ a → Clears (b && not a) m k → MasterStands (grown x past acts) k
  by_roles true true f g c = rw c (by_change (changes acts) refl (MasterStands_turns acts all x past m m (λ t. absurd (no t)) h)) where
    no : changes acts ≡ true → ⊥
    no t = role_parts acts (e.only x past) past.step x past.seen (inl t) (is ∙ is_master_true after g)

    by_change : (t : Bool) → changes acts ≡ t → MasterStands (grown x past acts) (if changes acts then m else m) → MasterStands (grown x past acts) m
    by_change true t s = absurd (no t)
    by_change false t s = rw t at s
  by_roles true false f g c = by_change (changes acts) refl (MasterStands_turns acts all x past m k (λ t. c) h) where
    by_change : (t : Bool) → changes acts ≡ t → MasterStands (grown x past acts) (if changes acts then k else m) → MasterStands (grown x past acts) k
    by_change true t s = rw t at s
    by_change false t s = absurd (is_master_false after g (sym is ∙ role_stays acts all t past.step x past.seen ∙ was ∙ is_master_true before f))
  by_roles false a f g c = rw c (by_change (changes acts) (MasterStands_turns acts all x past m m
      (λ t. Cleared_idle past m (λ r. is_master_false before f (sym was ∙ r)) h) h)) where
        by_change : (t : Bool) → MasterStands (grown x past acts) (if t then m else m) → MasterStands (grown x past acts) m
        by_change true s = s
        by_change false s = s

-- the same at a port that doesn't lead before
pub MasterStands_idle : (row : Row) → Emits parting_sorts row → (x : ℕ) (past : Past) (m : MasterStruct) → role past.seen ≢ Master → MasterStands past m →
    MasterStands (grown x past (row x past)) m
MasterStands_idle row e x past m other h = by_change (changes (row x past)) (MasterStands_turns (row x past)
    ((Emits_more parting_sorts {all = turning_sorts} refl e).only x past) x past m m (λ t. Cleared_idle past m other h) h) where
      by_change : (t : Bool) → MasterStands (grown x past (row x past)) (if t then m else m) → MasterStands (grown x past (row x past)) m
      by_change true s = s
      by_change false s = s

-- a row in which the role changes for certain
pub MasterStands_changing : (row : Row) → Emits turning_sorts row → (x : ℕ) (past : Past) (m k : MasterStruct) → changes (row x past) ≡ true → Cleared m k →
    MasterStands past m → MasterStands (grown x past (row x past)) k
MasterStands_changing row e x past m k t c h = rw t at (MasterStands_turns (row x past) (e.only x past) x past m k (λ g. c) h)

-- a correction on another port
pub MasterStands_elsewhere : (did : Did) (past : Past) (m : MasterStruct) → MasterStands past m →
    MasterStands (record past { seen = Elsewhere did ∷ past.seen }) m
MasterStands_elsewhere did past m h = record {
  peers = h.peers;
  entries = h.entries;
  asked_is = h.asked_is;
  going = λ g. let r = h.going g in record { requests = r.requests; samples = r.samples; probes_is = r.probes_is; opened = r.opened; recent = r.recent };
  idle = h.idle;
  probing = h.probing;
  empty = h.empty;
}

-- it doesn't matter in which step a port is, and a step that begins changes nothing
pub MasterStands_step : (step : Step) (past : Past) (m : MasterStruct) → MasterStands past m → MasterStands (record past { step = step }) m
MasterStands_step step past m h = record {
  peers = h.peers;
  entries = h.entries;
  asked_is = h.asked_is;
  going = h.going;
  idle = h.idle;
  probing = h.probing;
  empty = h.empty;
}

pub MasterStands_in_step : (step : Step) (x : ℕ) (past : Past) (m : MasterStruct) → MasterStands past m → MasterStands (in_step step x past) m
MasterStands_in_step step x past m h = record {
  peers = h.peers;
  entries = h.entries;
  asked_is = h.asked_is;
  going = λ g. let r = h.going g in record { requests = r.requests; samples = r.samples; probes_is = r.probes_is; opened = r.opened; recent = r.recent };
  idle = h.idle;
  probing = h.probing;
  empty = h.empty;
}

-- the answer to a send that doesn't correct
pub MasterStands_unheld : (p : PeerId) (x : ℕ) (past : Past) (m : MasterStruct) → corrects_in (open_send p past.seen) ≡ false → MasterStands past m →
    MasterStands (grown x past (Acked p ∷ [])) m
MasterStands_unheld p x past m none h =
    MasterStands_changed p (acks_where (corrects_in (open_send p past.seen))) (Acked p) x past m m refl (rw none (λ e j k. (j, k))) (acked_after p past x)
    (rw none (λ q. either (p.0 == q.0) (entry_of m.slaves q))) refl refl h where
      either : (b : Bool) (e : Entry) → e ≡ (if b then e else e)
      either true e = refl
      either false e = refl
