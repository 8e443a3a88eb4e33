-- Each row of a port ends a role that lasts only as it may, and a QUIT comes of a master.
use Rattle.std.proofs.Common.{sym, subst, true≢false, eqb-true, ◌≡◌, ◌∙◌, ◌⊎◌, inl, inr, ℕ, ◌+◌, ◌==◌, ◌||◌, ◌&&◌, not, Bool, true, false, List, []}
use Rattle.std.proofs.Common.{◌∷◌, Option, None, Some, is_some, map, refl}
use Rattle.std.proofs.lemmas.Bool.{and_parts, not-true}
use Rattle.tsp_rules.specs.Values.{Act, Boot, Took, Post, Become, Arm, Ring, Late, Back, Abandon, Alarm, Quiet, Search, Elect, Window}
use Rattle.tsp_rules.specs.Values.{Probe, CloseAlarm, ResolveAlarm, Round, PeerId, Peer, Role, Starting, Loose, Follow, Candidate, Master}
use Rattle.tsp_rules.specs.Values.{Kind, AdjTime, Election, MasterReq, MasterUp, SetDateReq, SetTime}
use Rattle.tsp_rules.specs.Values.{QuitKind, SlaveUp, Test}
use Rattle.tsp_rules.specs.Values.{Message, WINDOW, ROUND, PROBE, CLOSE, WAIT}
use Rattle.tsp_base.specs.Words.{MessageValue, Past, Row, Seen, Leads, arms, armed, bare}
use Rattle.tsp_base.specs.Words.{for_each, grown, nothing, others, post_of, posts}
use Rattle.tsp_base.specs.Words.{posts_to_others, puts, either_by, reading, role, ◌followed_by◌}
use Rattle.tsp_base.proofs.LeadsLemmas.{Leads_then, Leads_either, Leads_reading, Leads_nothing, Leads_puts, Leads_each, Leads_from, Leads_to}
use Rattle.tsp_rules.specs.CandidateRows.{has_won, lead_row, window_rings, yields}
use Rattle.tsp_rules.specs.CommonRows.{arms_elect, backs_own, candidature_row, follow_row, is_idle, own_at}
use Rattle.tsp_rules.specs.CommonRows.{searches, tells_ticket}
use Rattle.tsp_rules.specs.SlaveRows.{quiet_rings, rings_or_late, search_rings, loosens, elect_rings}
use Rattle.tsp_rules.specs.{ResolveRows.resolve_rings}
use Rattle.tsp_rules.specs.{ResolveRows.quits_rivals}
use Rattle.tsp_rules.specs.RoundRows.{round_rings, begins_or_waits, round_begins, asks, asks_slaves, probe_rings, asks_measured, arms_next, abandons}
use Rattle.tsp_rules.specs.RoundRows.{has_more, measured_at}
use Rattle.tsp_rules.specs.Guards.{delay_at, is_due, is_follow, is_in_time, is_master, is_over, is_starting_role}
use Rattle.tsp_rules.specs.Guards.{may_stand_at, follows_at, rivals_at, table_at, ticket_at}
use Rattle.tsp_rules.specs.SendRows.{begins, begins_to_others, next_number}
use Rattle.tsp_rules.specs.SendRows.{others_at}
use Rattle.tsp_rules.specs.Answers.{alarm_rings, rings}
use Rattle.tsp_rules.proofs.Emits.{Sort, Numbering, Asking, Leading, Posting, Taking}
use Rattle.tsp_rules.proofs.Emits.{Following, Changing, Alarming, Booting, Emits, Keeps_by, code, is_in, is_part, sort_of, sort_of_kind}
use Rattle.tsp_rules.proofs.{EmitsBuilt.emits_built, EmitsBuilt.nothing_owed, Unchanged.unchanged, Built.At, Built.Built, RowCodes.Asks}
use Rattle.tsp_rules.proofs.BuiltRounds.{close_sorts, built_close_rings}
use Rattle.tsp_progress.specs.{Calling.TookSome, Calling.WaitFits, Calling.is_call, Calling.is_masters, Calling.lates_by, Heeds.is_loose}
use Rattle.tsp_progress.specs.{AlarmsFit.is_candidate, AlarmsFit.newest_is, CausesFit.elects_by, RolesLast.TookKind}
use Rattle.tsp_progress.proofs.RootArms.{Follows, arm_elect, arm_round, arm_search, arm_window, becomes}
use Rattle.tsp_progress.proofs.RootLeads.{Base, In, RootEnd, Rooted, Waits, any_post, any_role}
use Rattle.tsp_progress.proofs.RootLeads.{calls_not, is_plain, is_root_kind, is_vote, plain, votes_not}

-- sorts of acts that aren't all plain
abbrev root_sorts : List Sort
root_sorts = Leading ∷ Following ∷ Changing ∷ Numbering ∷ Alarming ∷ Booting ∷ Posting ∷ Taking ∷ []

abbrev no_root : List Sort → Bool
no_root [] = true
no_root (s ∷ rest) = not (is_in s root_sorts) && no_root rest

root_code : (s t : Sort) → (code s == code t) ≡ true → is_in t root_sorts ≡ false → is_in s root_sorts ≡ false
root_code s t e n = subst (λ c. ((c == 6) || ((c == 7) || ((c == 8) || ((c == 4) || ((c == 11) || ((c == 0) || ((c == 5) || ((c == 1) || false)))))))) ≡ false)
    (sym (eqb-true (code s) (code t) e)) n

out_of : (sorts : List Sort) → no_root sorts ≡ true → (s : Sort) → is_in s sorts ≡ true → is_in s root_sorts ≡ false
out_of [] apart s e = absurd (true≢false (sym e))
out_of (t ∷ rest) apart s e =
    let both = and_parts (not (is_in t root_sorts)) (no_root rest) apart in
    by_case (code s == code t) refl e (not-true (is_in t root_sorts) both.0) (λ more. out_of rest both.1 s more)
  where
    by_case : (b : Bool) → (code s == code t) ≡ b → (b || is_in s rest) ≡ true → is_in t root_sorts ≡ false →
        (is_in s rest ≡ true → is_in s root_sorts ≡ false) → is_in s root_sorts ≡ false
    by_case true same e n k = root_code s t same n
    by_case false other e n k = k e

plain_kind : (k : Kind) → is_in (sort_of_kind k) root_sorts ≡ false → not (is_root_kind k) ≡ true
plain_kind AdjTime e = refl
plain_kind SetTime e = refl
plain_kind SetDateReq e = refl
plain_kind _ e = absurd (true≢false e)

plain_role : {A : Type 0} (r : Role) → is_in (sort_of (Become r)) root_sorts ≡ false → A
plain_role Master e = absurd (true≢false e)
plain_role (Follow p) e = absurd (true≢false e)
plain_role _ e = absurd (true≢false e)

plain_arm : (a : Alarm) (at : ℕ) → is_in (sort_of (Arm a at)) root_sorts ≡ false → is_plain (Arm a at) ≡ true
plain_arm Probe at e = refl
plain_arm CloseAlarm at e = refl
plain_arm _ at e = absurd (true≢false e)

other_plain : (a : Act) → is_in (sort_of a) root_sorts ≡ false → is_plain a ≡ true
other_plain Boot e = absurd (true≢false e)
other_plain (Took from t) e = absurd (true≢false e)
other_plain (Become r) e = plain_role r e
other_plain (Arm a at) e = plain_arm a at e
other_plain (Post (Peer p) (Message m)) e = plain_kind m.kind e
other_plain _ e = refl

module _ (ok : Role → Bool) where
  -- rows of other sorts
  calm : (sorts : List Sort) (row : Row) → no_root sorts ≡ true → Emits sorts row → Leads (In ok) row (In ok)
  unfolding puts
  calm sorts row apart e = record {
    run = λ x past h. Keeps_by {T = ℕ} sorts (λ p n. In ok n p) row
        (λ a i y p n k. plain ok a (other_plain a (out_of sorts apart (sort_of a) i)) y p k) e x past x h;
  }

  pub calm_built : {sorts : List Sort} {k c : ℕ} {r r' : Row} → is_part sorts sorts ≡ true → no_root sorts ≡ true →
      Built unchanged nothing_owed sorts k c r r' →
      Leads (In ok) r (In ok)
  calm_built {sorts} {r = r} own apart d = calm sorts r apart (emits_built own d)

  pub does_root : (a : Act) → is_plain a ≡ true → Leads (In ok) (puts a) (In ok)
  does_root a e = Leads_puts a (plain ok a e)

  plain_arms : (a : Alarm) (long : ℕ) → ((at : ℕ) → is_plain (Arm a at) ≡ true) → Leads (In ok) (arms a long) (In ok)
  unfolding arms
  plain_arms a long k = record { run = λ x past h. plain ok (Arm a (x + long)) (k (x + long)) x past h }

  -- a message may be posted in these roles
  pub record Allowed (kind : Kind) : Type 0 where
    pub calls : is_call kind ≡ true → (r : Role) → ok r ≡ true → is_master r ≡ true
    pub votes : is_vote kind ≡ true → (r : Role) → ok r ≡ true → is_candidate r ≡ true

  pub freely : (kind : Kind) → is_root_kind kind ≡ false → Allowed kind
  freely kind e = record {
    calls = λ is. absurd (true≢false (sym is ∙ calls_not kind e));
    votes = λ is. absurd (true≢false (sym is ∙ votes_not kind e));
  }

  pub one_post : (p : PeerId) (m : MessageValue) → Allowed m.kind → (x : ℕ) (past : Past) → In ok x past → In ok x (grown x past (Post (Peer p) (Message m) ∷
      []))
  one_post p m a x past h = any_post ok p m x past h (λ is. a.calls is (role past.seen) h.1) (λ is. a.votes is (role past.seen) h.1)

  pub posted_in : (p : PeerId) (kind : Kind) (number : ℕ) → Allowed kind → Leads (In ok) (posts p kind number) (In ok)
  unfolding posts
  posted_in p kind number a = record { run = λ x past h. one_post p (bare kind number past.name) a x past h }

  pub told_in : (kind : Kind) → Allowed kind → Leads (In ok) (posts_to_others kind 0) (In ok)
  unfolding posts_to_others
  told_in kind a = record { run = λ x past h. each x past (others past.own past.peers) past.name h } where
    each : (x : ℕ) (past : Past) (ps : List PeerId) (name : List ℕ) → In ok x past → In ok x (grown x past (map (post_of kind 0 name) ps))
    each x past [] name h = h
    each x past (p ∷ ps) name h = each x (grown x past (post_of kind 0 name p ∷ [])) ps name (one_post p (bare kind 0 name) a x past h)

  pub begun_in : (kind : Kind) (p : PeerId) → Allowed kind → Leads (In ok) (begins kind p) (In ok)
  unfolding begins
  begun_in kind p a = Leads_reading next_number (posts p kind) (λ n. Leads_from (λ x past h. h.0) (posted_in p kind n a))

  pub posted_root : (p : PeerId) (kind : Kind) (number : ℕ) → is_root_kind kind ≡ false → Leads (In ok) (posts p kind number) (In ok)
  posted_root p kind number e = posted_in p kind number (freely kind e)

  pub told_root : (kind : Kind) → is_root_kind kind ≡ false → Leads (In ok) (posts_to_others kind 0) (In ok)
  told_root kind e = told_in kind (freely kind e)

  pub begun_root : (kind : Kind) (p : PeerId) → is_root_kind kind ≡ false → Leads (In ok) (begins kind p) (In ok)
  begun_root kind p e = begun_in kind p (freely kind e)

-- a master may post what only masters do, and a candidate an ELECTION
pub by_master : (kind : Kind) → is_vote kind ≡ false → Allowed is_master kind
by_master kind e = record { calls = λ is r m. m; votes = λ is. absurd (true≢false (sym is ∙ e)) }

by_candidate : Allowed is_candidate Election
by_candidate = record { calls = λ is. absurd (true≢false (sym is)); votes = λ is r c. c }

-- in any role
pub base_root : {row : Row} → Leads (In any_role) row (In any_role) → Leads Base row Base
base_root d = Leads_from (λ x past h. (h, refl)) (Leads_to (λ x past h. h.0) d)

pub drop : {P : ℕ → Past → Type 0} (ok : Role → Bool) {row : Row} → Leads P row (In ok) → Leads P row Base
drop ok d = Leads_to (λ x past h. h.0) d

-- a change of the role
pub changes_root : {P : ℕ → Past → Type 0} (ok : Role → Bool) (r : Role) → ok r ≡ true → ((before : List Seen) → Follows r before) →
    ((x : ℕ) (past : Past) → P x past → Rooted past.seen × RootEnd (role past.seen) r past.seen) → Leads P (puts (Become r)) (In ok)
changes_root ok r e free k = Leads_puts (Become r) (λ x past h. let d = k x past h in becomes ok r e x past d.0 d.1 (free past.seen))

free_starting : (s r : Role) (before : List Seen) → is_starting_role s ≡ true → RootEnd s r before
free_starting Starting r before e = tt
free_starting _ r before e = absurd (true≢false (sym e))

pub free_candidate : (s r : Role) (before : List Seen) → is_candidate s ≡ true → RootEnd s r before
free_candidate Candidate r before e = tt
free_candidate _ r before e = absurd (true≢false (sym e))

pub free_idle : (s r : Role) (before : List Seen) → is_idle s ≡ true → TookKind Test before ⊎ (newest_is elects_by before ≡ true) → RootEnd s r before
free_idle Loose r before e k = tt
free_idle (Follow q) r before e k = k
free_idle _ r before e k = absurd (true≢false (sym e))

-- rows of a port that is Loose or follows_root

-- a port that may wait anew
abbrev pub Waiting : ℕ → Past → Type 0
Waiting x past = In is_idle x past × Waits x past

pub elects_root : Leads Waiting arms_elect (In is_idle)
unfolding arms_elect arms
elects_root = Leads_reading delay_at (arms Elect) (λ long. record { run = λ x past h. arm_elect (x + long) x past h.0.0 h.0.1 })

loose_idle : (r : Role) → is_loose r ≡ true → is_idle r ≡ true
loose_idle Loose e = refl
loose_idle _ e = absurd (true≢false (sym e))

loose_waits : (r : Role) (before : List Seen) → is_loose r ≡ true → WaitFits r before
loose_waits Loose before e = tt
loose_waits _ before e = absurd (true≢false (sym e))

late_waits : (r : Role) (before : List Seen) → newest_is lates_by before ≡ true → WaitFits r before
late_waits (Follow q) before e = inr (inr e)
late_waits _ before e = tt

pub elects_loose : Leads (In is_loose) arms_elect Base
elects_loose = Leads_from (λ x past h. ((h.0, loose_idle (role past.seen) h.1), loose_waits (role past.seen) past.seen h.1))
    (Leads_to (λ x past h. h.0) elects_root)

looks : Leads (In is_loose) searches (In is_loose)
unfolding searches arms
looks = Leads_then {Q = In is_loose} (arms Search WINDOW) (posts_to_others MasterReq 0) (record { run = λ x past h. arm_search (x + WINDOW) x past h })
    (told_root is_loose MasterReq refl)

tells : (p : PeerId) → Leads (In is_idle) (tells_ticket p) (In is_idle)
unfolding tells_ticket
tells p = Leads_reading ticket_at (posts p SlaveUp) (λ n. Leads_from (λ x past h. h.0) (posted_root is_idle p SlaveUp n refl))

pub again_root : (p : PeerId) → Leads Waiting (arms_elect followed_by tells_ticket p) (In is_idle)
again_root p = Leads_then {Q = In is_idle} arms_elect (tells_ticket p) elects_root (tells p)

call_masters : (k : Kind) → is_call k ≡ true → is_masters k ≡ true
call_masters AdjTime e = refl
call_masters SetTime e = refl
call_masters _ e = e

pub follows_root : {P : ℕ → Past → Type 0} (p : PeerId) → ((x : ℕ) (past : Past) → P x past → TookSome is_call p past.seen) →
    ((x : ℕ) (past : Past) → P x past → Rooted past.seen × RootEnd (role past.seen) (Follow p) past.seen) → Leads P (follow_row p) Base
unfolding follow_row
follows_root p called k = Leads_then {Q = Waiting} (puts (Become (Follow p))) (arms_elect followed_by tells_ticket p)
    (Leads_puts (Become (Follow p)) (λ x past h. let d = k x past h in let c = called x past h in (
      becomes is_idle (Follow p) refl x past d.0 d.1 c,
      inl (record { message = c.message; took = c.took; kind_is = call_masters c.message.kind c.kind_is }),
    )))
    (drop is_idle (again_root p))

pub yield_root : {P : ℕ → Past → Type 0} → ((x : ℕ) (past : Past) → P x past → Rooted past.seen × RootEnd (role past.seen) Loose past.seen) →
    Leads P yields Base
unfolding yields
yield_root k = Leads_then {Q = In is_loose} (puts (Become Loose)) arms_elect (changes_root is_loose Loose refl (λ b. tt) k) elects_loose

-- a candidature

backs_own_holds : Leads (In is_candidate) backs_own (In is_candidate)
unfolding backs_own
backs_own_holds = Leads_reading own_at (λ own. puts (Back own)) (λ own. Leads_from (λ x past h. h.0) (does_root is_candidate (Back own) refl))

asks_all : Leads (In is_candidate) (begins_to_others Election) (In is_candidate)
unfolding begins_to_others
asks_all = Leads_reading others_at (for_each (begins Election)) (λ ps. Leads_from (λ x past h. h.0)
    (Leads_each (begins Election) ps (λ p. begun_in is_candidate Election p by_candidate)))

pub stands_root : {P : ℕ → Past → Type 0} → ((x : ℕ) (past : Past) → P x past → Rooted past.seen × RootEnd (role past.seen) Candidate past.seen) →
    Leads P candidature_row Base
unfolding candidature_row arms
stands_root k = Leads_then {Q = In is_candidate} (puts (Become Candidate)) (backs_own followed_by (arms Window WINDOW followed_by begins_to_others Election))
    (changes_root is_candidate Candidate refl (λ b. tt) k)
    (Leads_then {Q = In is_candidate} backs_own (arms Window WINDOW followed_by begins_to_others Election) backs_own_holds
    (Leads_then {Q = In is_candidate} (arms Window WINDOW) (begins_to_others Election) (record { run = λ x past h. arm_window (x + WINDOW) x past h })
    (drop is_candidate asks_all)))

-- the alarms

quiet_row : Leads (In is_starting_role) quiet_rings Base
unfolding quiet_rings
quiet_row = Leads_then {Q = In is_starting_role} (puts (Ring Quiet)) (puts (Become Loose) followed_by searches) (does_root is_starting_role (Ring Quiet) refl)
    (Leads_then {Q = In is_loose} (puts (Become Loose)) searches
    (changes_root is_loose Loose refl (λ b. tt) (λ x past h. (h.0, free_starting (role past.seen) Loose past.seen h.1))) (drop is_loose looks))

search_row : Leads (In is_loose) search_rings Base
unfolding search_rings rings_or_late
search_row = Leads_then {Q = In is_loose} (either_by (is_in_time Search) (puts (Ring Search)) (puts (Late Search))) arms_elect
    (Leads_either (is_in_time Search) (puts (Ring Search)) (puts (Late Search)) (Leads_from (λ x past h. h.0) (does_root is_loose (Ring Search) refl))
    (Leads_from (λ x past h. h.0) (does_root is_loose (Late Search) refl))) elects_loose

-- Elect has just rung
abbrev Rung : ℕ → Past → Type 0
Rung x past = In is_idle x past × (newest_is elects_by past.seen ≡ true)

idle_loose : (r : Role) → is_idle r ≡ true → is_follow r ≡ false → is_loose r ≡ true
idle_loose Loose e n = refl
idle_loose (Follow q) e n = absurd (true≢false n)
idle_loose _ e n = absurd (true≢false (sym e))

gives_up_holds : Leads Rung loosens (In is_loose)
unfolding loosens
gives_up_holds = Leads_either follows_at (puts (Become Loose)) nothing
    (changes_root is_loose Loose refl (λ b. tt) (λ x past h. (h.0.0.0, free_idle (role past.seen) Loose past.seen h.0.0.1 (inr h.0.1))))
    (Leads_from (λ x past h. (h.0.0.0, idle_loose (role past.seen) h.0.0.1 h.1)) Leads_nothing)

elect_row : Leads (In is_idle) elect_rings Base
unfolding elect_rings
elect_row = Leads_either (is_in_time Elect) (puts (Ring Elect) followed_by either_by may_stand_at candidature_row (loosens followed_by searches))
    (puts (Late Elect) followed_by arms_elect)
    (Leads_then {Q = Rung} (puts (Ring Elect)) (either_by may_stand_at candidature_row (loosens followed_by searches))
    (Leads_puts (Ring Elect) (λ x past h. (plain is_idle (Ring Elect) refl x past h.0, refl)))
    (Leads_either may_stand_at candidature_row (loosens followed_by searches)
    (stands_root (λ x past h. (h.0.0.0, free_idle (role past.seen) Candidate past.seen h.0.0.1 (inr h.0.1))))
    (Leads_from (λ x past h. h.0) (Leads_then {Q = In is_loose} loosens searches gives_up_holds (drop is_loose looks)))))
    (Leads_from (λ x past h. h.0) (Leads_then {Q = Waiting} (puts (Late Elect)) arms_elect
    (Leads_puts (Late Elect) (λ x past h. (plain is_idle (Late Elect) refl x past h, late_waits (role past.seen) _ refl))) (drop is_idle elects_root)))

rounds : (long : ℕ) → Leads (In is_master) (arms Round long) (In is_master)
unfolding arms
rounds long = record { run = λ x past h. arm_round (x + long) x past h }

leads : Leads (In is_candidate) lead_row Base
unfolding lead_row
leads = Leads_then {Q = In is_master} (puts (Become Master)) (arms Round ROUND followed_by posts_to_others MasterUp 0)
    (changes_root is_master Master refl (λ b. tt) (λ x past h. (h.0, free_candidate (role past.seen) Master past.seen h.1)))
    (Leads_then {Q = In is_master} (arms Round ROUND) (posts_to_others MasterUp 0) (rounds ROUND)
    (drop is_master (told_in is_master MasterUp (by_master MasterUp refl))))

loses : Leads (In is_candidate) yields Base
loses = yield_root (λ x past h. (h.0, free_candidate (role past.seen) Loose past.seen h.1))

window_row : Leads (In is_candidate) window_rings Base
unfolding window_rings
window_row = Leads_either (is_in_time Window) (puts (Ring Window) followed_by either_by has_won lead_row yields) (puts (Late Window) followed_by yields)
    (Leads_from (λ x past h. h.0) (Leads_then {Q = In is_candidate} (puts (Ring Window)) (either_by has_won lead_row yields)
    (does_root is_candidate (Ring Window)
    refl) (Leads_either has_won lead_row yields (Leads_from (λ x past h. h.0) leads) (Leads_from (λ x past h. h.0) loses))))
    (Leads_from (λ x past h. h.0) (Leads_then {Q = In is_candidate} (puts (Late Window)) yields (does_root is_candidate (Late Window) refl) loses))

-- a QUIT of a master
pub quit_root : (p : PeerId) → Leads (In is_master) (begins QuitKind p) (In is_master)
quit_root p = begun_in is_master QuitKind p (by_master QuitKind refl)

resolve_row : Leads (In is_master) resolve_rings Base
unfolding resolve_rings quits_rivals
resolve_row = Leads_either (is_in_time ResolveAlarm) (puts (Ring ResolveAlarm) followed_by reading rivals_at (for_each (begins QuitKind)))
    (puts (Late ResolveAlarm))
    (Leads_from (λ x past h. h.0) (Leads_then {Q = In is_master} (puts (Ring ResolveAlarm)) (reading rivals_at (for_each (begins QuitKind)))
    (does_root is_master (Ring ResolveAlarm) refl)
    (Leads_reading rivals_at (for_each (begins QuitKind)) (λ ps. Leads_from (λ x past h. h.0) (drop is_master (Leads_each (begins QuitKind) ps quit_root))))))
    (Leads_from (λ x past h. h.0) (drop is_master (does_root is_master (Late ResolveAlarm) refl)))

asks_one : (ok : Role → Bool) (p : PeerId) → Leads (In ok) (asks p) (In ok)
asks_one ok p = calm_built ok {sorts = Asking ∷ []} refl refl (At (Asks p tt) refl)

round_row : (wait : Bool) → Leads (In is_master) (round_rings wait) (In is_master)
unfolding round_rings begins_or_waits round_begins asks_slaves
round_row wait = Leads_either (is_in_time Round) (puts (Ring Round) followed_by begins_or_waits wait) (puts (Late Round) followed_by arms Round ROUND)
    (Leads_from (λ x past h. h.0) (Leads_then {Q = In is_master} (puts (Ring Round)) (begins_or_waits wait) (does_root is_master (Ring Round) refl)
    (by_wait wait)))
    (Leads_from (λ x past h. h.0) (Leads_then {Q = In is_master} (puts (Late Round)) (arms Round ROUND) (does_root is_master (Late Round) refl)
    (rounds ROUND)))
  where
    by_wait : (b : Bool) → Leads (In is_master) (begins_or_waits b) (In is_master)
    by_wait true = rounds WAIT
    by_wait false = Leads_then {Q = In is_master} (arms Round ROUND) (arms Probe PROBE followed_by
        (arms CloseAlarm CLOSE followed_by (posts_to_others MasterUp 0 followed_by reading table_at (for_each asks))))
        (rounds ROUND)
        (Leads_then {Q = In is_master} (arms Probe PROBE) (arms CloseAlarm CLOSE followed_by (posts_to_others MasterUp 0 followed_by reading table_at
        (for_each asks))) (plain_arms is_master Probe PROBE (λ at. refl))
        (Leads_then {Q = In is_master} (arms CloseAlarm CLOSE) (posts_to_others MasterUp 0 followed_by reading table_at (for_each asks))
        (plain_arms is_master CloseAlarm CLOSE (λ at. refl))
        (Leads_then {Q = In is_master} (posts_to_others MasterUp 0) (reading table_at (for_each asks)) (told_in is_master MasterUp (by_master MasterUp refl))
        (Leads_reading table_at (for_each asks) (λ ps. Leads_from (λ x past h. h.0) (Leads_each asks ps (asks_one is_master)))))))

probe_row : Leads (In any_role) probe_rings (In any_role)
unfolding probe_rings asks_measured arms_next abandons
probe_row = Leads_either (is_in_time Probe) (puts (Ring Probe) followed_by (reading measured_at (for_each asks) followed_by either_by has_more
    (arms Probe PROBE) nothing)) (puts (Late Probe) followed_by puts Abandon)
    (Leads_from (λ x past h. h.0) (Leads_then {Q = In any_role} (puts (Ring Probe)) (reading measured_at (for_each asks) followed_by either_by has_more
    (arms Probe PROBE) nothing) (does_root any_role (Ring Probe) refl)
    (Leads_then {Q = In any_role} (reading measured_at (for_each asks)) (either_by has_more (arms Probe PROBE) nothing)
    (Leads_reading measured_at (for_each asks) (λ ps. Leads_from (λ x past h. h.0) (Leads_each asks ps (asks_one any_role))))
    (Leads_either has_more (arms Probe PROBE) nothing (Leads_from (λ x past h. h.0) (plain_arms any_role Probe PROBE (λ at. refl)))
    (Leads_from (λ x past h. h.0) Leads_nothing)))))
    (Leads_from (λ x past h. h.0) (Leads_then {Q = In any_role} (puts (Late Probe)) (puts Abandon) (does_root any_role (Late Probe) refl)
    (does_root any_role Abandon refl)))

due_armed : (o : Option ℕ) (x : ℕ) → is_over o x ≡ true → is_some o ≡ true
due_armed None x e = absurd (true≢false (sym e))
due_armed (Some at) x e = refl

alarm : (own wait : Bool) (a : Alarm) → Leads (λ x past. Base x past × (is_due a x past ≡ true)) (alarm_rings own wait a) Base
unfolding alarm_rings
alarm own wait Quiet = Leads_from (λ x past h. (h.0, h.0.quiet (due_armed (armed past.seen).quiet x h.1))) quiet_row
alarm own wait Search = Leads_from (λ x past h. (h.0, h.0.search (due_armed (armed past.seen).search x h.1))) search_row
alarm own wait Elect = Leads_from (λ x past h. (h.0, h.0.elect (due_armed (armed past.seen).elect x h.1))) elect_row
alarm own wait Window = Leads_from (λ x past h. (h.0, h.0.window (due_armed (armed past.seen).window x h.1))) window_row
alarm own wait ResolveAlarm = Leads_from (λ x past h. (h.0, h.0.resolve (due_armed (armed past.seen).resolve x h.1))) resolve_row
alarm own wait Probe = Leads_from (λ x past h. h.0) (base_root probe_row)
alarm own wait CloseAlarm = Leads_from (λ x past h. h.0) (base_root (calm_built any_role {sorts = close_sorts} refl refl (built_close_rings own)))
alarm own wait Round = Leads_from (λ x past h. (h.0, h.0.round (due_armed (armed past.seen).round x h.1))) (drop is_master (round_row wait))

pub rings_rooted : (own wait : Bool) (a : Alarm) → Leads Base (rings own wait a) Base
unfolding rings
rings_rooted own wait a = Leads_either (is_due a) (alarm_rings own wait a) nothing (alarm own wait a) (Leads_from (λ x past h. h.0) Leads_nothing)
