-- A port that ends a role that lasts only as it may, and calls others only in its role.
use Rattle.std.proofs.Common.{sym, true≢false, ◌∙◌, ◌≡◌, ◌⊎◌, ℕ, not, Bool, true, false, if◌then◌else◌, List, [], Option, None, Some}
use Rattle.std.proofs.Common.{is_some, refl}
use Rattle.tsp_rules.specs.Values.{Act, Boot, Took, Post, Become, Arm, Quiet, Search, Elect, Window, ResolveAlarm, Round}
use Rattle.tsp_rules.specs.Values.{Message, Kind, Election, QuitKind, Test, PeerId, Peer, Role, Loose, Follow, Candidate, Master}
use Rattle.tsp_base.specs.Words.{Acts, Deed, Did, MessageValue, Past, Seen, armed, message_at, open_to, role}
use Rattle.tsp_rules.specs.{CommonRows.is_idle, Guards.is_master, Guards.is_starting_role}
use Rattle.tsp_progress.specs.{Calling.CallFits, Calling.WaitFits, Calling.is_call, Heeds.is_loose}
use Rattle.tsp_progress.specs.{AlarmsFit.is_candidate, AlarmsFit.newest_is, CausesFit.elects_by, GivenUp.Owes, RolesLast.TookKind, RolesLast.TookOf}

-- what a change of the role owes to the port's past, whatever its node's clock: who follows a master has taken a TEST, or its Elect has just rung
abbrev pub RootLeads : Role → List Seen → Type 0
RootLeads (Follow p) before = TookOf QuitKind p before
RootLeads Loose before = Unit {0}
RootLeads _ before = ⊥

abbrev pub RootEnd : Role → Role → List Seen → Type 0
RootEnd (Follow q) r before = TookKind Test before ⊎ (newest_is elects_by before ≡ true)
RootEnd Master r before = RootLeads r before
RootEnd _ r before = Unit {0}

abbrev pub RootFits : Deed → Did → List Seen → Type 0
RootFits (Acts (Become r)) here before = RootEnd (role before) r before
RootFits (Acts (Post (Peer p) (Message m))) here before = m.kind ≡ QuitKind → role before ≡ Master
RootFits _ here before = Unit {0}

abbrev pub sends_call : Option MessageValue → Bool
sends_call None = false
sends_call (Some m) = is_call m.kind

abbrev pub is_vote : Kind → Bool
is_vote Election = true
is_vote _ = false

abbrev pub asks_vote : Option MessageValue → Bool
asks_vote None = false
asks_vote (Some m) = is_vote m.kind

-- alarms are armed, and a QUIT or an ELECTION is open, in their roles alone
pub record Rooted (seen : List Seen) : Type 0 where
  pub owed : Owes RootFits seen
  pub calls : Owes CallFits seen
  pub quiet : is_some (armed seen).quiet ≡ true → is_starting_role (role seen) ≡ true
  pub search : is_some (armed seen).search ≡ true → is_loose (role seen) ≡ true
  pub elect : is_some (armed seen).elect ≡ true → is_idle (role seen) ≡ true
  pub window : is_some (armed seen).window ≡ true → is_candidate (role seen) ≡ true
  pub resolve : is_some (armed seen).resolve ≡ true → is_master (role seen) ≡ true
  pub round : is_some (armed seen).round ≡ true → is_master (role seen) ≡ true
  pub sends : (p : PeerId) → sends_call (message_at (open_to p seen)) ≡ true → is_master (role seen) ≡ true
  pub asks : (p : PeerId) → asks_vote (message_at (open_to p seen)) ≡ true → is_candidate (role seen) ≡ true

abbrev pub Base : ℕ → Past → Type 0
Base x past = Rooted past.seen

-- the same in such a role
abbrev pub In : (Role → Bool) → ℕ → Past → Type 0
In ok x past = Rooted past.seen × (ok (role past.seen) ≡ true)

abbrev pub any_role : Role → Bool
any_role r = true

-- kinds of messages that are posted in one role alone
abbrev pub is_root_kind : Kind → Bool
is_root_kind Election = true
is_root_kind k = is_call k

-- acts that change no role, arm no alarm of one role alone, take nothing, and send no such message
abbrev pub is_plain : Act → Bool
is_plain Boot = false
is_plain (Took from t) = false
is_plain (Become r) = false
is_plain (Arm Quiet at) = false
is_plain (Arm Search at) = false
is_plain (Arm Elect at) = false
is_plain (Arm Window at) = false
is_plain (Arm ResolveAlarm at) = false
is_plain (Arm Round at) = false
is_plain (Post (Peer p) (Message m)) = not (is_root_kind m.kind)
is_plain _ = true

pub none_armed : {A : Type 0} → false ≡ true → A
none_armed e = absurd (true≢false (sym e))

-- a send that ends
pub off : (test : Option MessageValue → Bool) (b : Bool) (was : List Seen) (R : Type 0) → test None ≡ false → (test (message_at was) ≡ true → R) →
    test (message_at (if b then [] else was)) ≡ true → R
off test true was R none k e = absurd (true≢false (sym e ∙ none))
off test false was R none k e = k e

-- a send that begins
pub on : (test : Option MessageValue → Bool) (b : Bool) (now was : List Seen) (R : Type 0) → (test (message_at now) ≡ true → R) →
    (test (message_at was) ≡ true → R) → test (message_at (if b then now else was)) ≡ true → R
on test true now was R j k e = j e
on test false now was R j k e = k e

pub calls_not : (k : Kind) → is_root_kind k ≡ false → is_call k ≡ false
calls_not Election e = refl
calls_not k e = e

pub votes_not : (k : Kind) → is_root_kind k ≡ false → is_vote k ≡ false
votes_not Election e = absurd (true≢false e)
votes_not _ e = refl

pub candidate_in : (r : Role) → is_candidate r ≡ true → r ≡ Candidate
candidate_in Candidate e = refl
candidate_in _ e = none_armed e

-- whether a follower may wait anew
abbrev pub Waits : ℕ → Past → Type 0
Waits x past = WaitFits (role past.seen) past.seen
