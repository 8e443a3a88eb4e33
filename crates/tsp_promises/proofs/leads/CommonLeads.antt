-- The rows that several roles share keep what is known of a port.
use Rattle.std.proofs.Common.{sym, subst, arith, ◌∙◌, true≢false, ◌≡◌, ◌≤◌, ℕ, ◌+◌, Bool, true, false, List, [], ◌∷◌, Option, None, Some, refl}
use Rattle.tsp_rules.specs.Values.{Post, Become, Arm, Back, Window, Elect, Search, Message, Conflict, Election, MasterReq, QuitKind, SlaveUp, PeerId, Peer}
use Rattle.tsp_rules.specs.Values.{Follow, Candidate, ELECT_MIN, WINDOW}
use Rattle.tsp_rules.specs.CommonRows.{arms_elect, searches, tells_ticket, follow_row, backs_own, own_at, candidature_row}
use Rattle.tsp_rules.specs.SendRows.{next_number, begins, others_at, begins_to_others}
use Rattle.tsp_rules.{specs.Guards.delay_at, specs.Guards.ticket_at, proofs.GuardFacts.MayStand, proofs.GuardFacts.back_is}
use Rattle.tsp_rules.proofs.Asides.{now}
use Rattle.tsp_base.specs.Words.{Did, Past, plain, Leads, boot_tick, ticket, MessageValue, Received, role, held, armed, stood, backers, grown, puts}
use Rattle.tsp_base.specs.Words.{◌followed_by◌, for_each, arms, bare, post_of, posts, posts_to_others}
use Rattle.tsp_base.proofs.LeadsLemmas.{Leads_then, Leads_reading, Leads_puts, Leads_each, Leads_from, Leads_to}
use Rattle.tsp_promises.specs.{DeedFits.NumberedFits, HoldFits.BackFits}
use Rattle.tsp_promises.proofs.{leads.Known.Candidature, leads.Known.During, leads.Known.Free, leads.Leaves.arm_search, leads.Leaves.arm_elect}
use Rattle.tsp_promises.proofs.{leads.Leaves.arm_window}
use Rattle.tsp_promises.proofs.leads.PostLeaves.{Leads_arms, Leads_posts, Leads_others, post_message, post_election}
use Rattle.tsp_promises.proofs.leads.Changes.{Quitting, FreeIn, become_follow, become_candidate, back_own}

module _ {P : ℕ → Past → Type 0} where
  pub arms_elect_keeps : ((x : ℕ) (past : Past) (at : ℕ) → P x past → P x (grown x past (Arm Elect at ∷ []))) → Leads P arms_elect P
  unfolding arms_elect
  arms_elect_keeps k = Leads_reading delay_at (arms Elect) (λ long. Leads_arms Elect long (λ x past h. k x past (x + long) h.0))

  pub tells_ticket_keeps : (p : PeerId) → ((x : ℕ) (past : Past) (n : ℕ) → n ≡ ticket (plain past.seen) → P x past →
      P x (grown x past (post_of SlaveUp n past.name p ∷ []))) → Leads P (tells_ticket p) P
  unfolding tells_ticket
  tells_ticket_keeps p k = Leads_reading ticket_at (posts p SlaveUp) (λ n. Leads_posts p SlaveUp n (λ x past h. k x past n (sym h.1) h.0))

module _ {stirred owing acts : Bool} {follow : List PeerId} {T : Option Received → Option Received → Type 0} where
  pub arms_elect_during : Leads (During stirred true owing follow acts T) arms_elect (During stirred true owing follow acts T)
  arms_elect_during = arms_elect_keeps (λ x past at h. arm_elect at h)

  pub tells_ticket_during : (p : PeerId) → Leads (During stirred true owing follow acts T) (tells_ticket p) (During stirred true owing follow acts T)
  tells_ticket_during p = tells_ticket_keeps p (λ x past n e h. post_message p (bare SlaveUp n past.name) refl e h)

  pub searches_during : Leads (During stirred true owing follow acts T) searches (During stirred true owing follow acts T)
  unfolding searches
  searches_during = Leads_then (arms Search WINDOW) (posts_to_others MasterReq 0)
      (Leads_arms Search WINDOW (λ x past h. arm_search (x + WINDOW) h))
      (Leads_others MasterReq 0 (λ x past p h. post_message p (bare MasterReq 0 past.name) refl tt h))

-- the port follows p
pub follow_leads : {follow : List PeerId} {T : Option Received → Option Received → Type 0} (p : PeerId) →
    Leads (Quitting None follow T) (follow_row p) (FreeIn follow T (Follow p))
unfolding follow_row
follow_leads p = Leads_then (puts (Become (Follow p))) (arms_elect followed_by tells_ticket p)
    (Leads_puts (Become (Follow p)) (λ x past h. become_follow p h))
    (Leads_then arms_elect (tells_ticket p) (arms_elect_keeps (λ x past at h. record { free = arm_elect at h.free; role_is = h.role_is }))
    (tells_ticket_keeps p (λ x past n e h. record { free = post_message p (bare SlaveUp n past.name) refl e h.free; role_is = h.role_is })))

-- the port's next own number is no ticket
pub own_number : {follow : List PeerId} {T : Option Received → Option Received → Type 0} (x : ℕ) (past : Past) (p : PeerId) (d : Did) (m : MessageValue) →
    During false true false follow true T x past → next_number x past ≡ m.number → NumberedFits d past.seen p m
own_number x past p d m h e = record { number = omega (arith, e); next = λ begins. sym e; repeats = λ idle. absurd (true≢false (sym h.acting_is ∙ idle)) }

module _ {T : Option Received → Option Received → Type 0} where
  pub begins_conflict : (p : PeerId) → Leads (Free T) (begins Conflict p) (Free T)
  unfolding begins
  begins_conflict p = Leads_reading next_number (posts p Conflict) (λ n. Leads_posts p Conflict n (λ x past h.
      let m = bare Conflict n past.name in post_message p m refl (own_number x past p (now x past (Post (Peer p) (Message m))) m h.0 h.1) h.0))

  pub begins_quit : (p : PeerId) → Leads (Free T) (begins QuitKind p) (Free T)
  unfolding begins
  begins_quit p = Leads_reading next_number (posts p QuitKind) (λ n. Leads_posts p QuitKind n (λ x past h.
      let m = bare QuitKind n past.name in post_message p m refl (own_number x past p (now x past (Post (Peer p) (Message m))) m h.0 h.1) h.0))

-- a port that may stand
pub record Eligible (T : Option Received → Option Received → Type 0) (x : ℕ) (past : Past) : Type 0 where
  pub free : Free T x past
  pub may : MayStand (held past.seen) x past.own

-- a candidate that is about to back itself
pub record BackingItself (T : Option Received → Option Received → Type 0) (x : ℕ) (past : Past) : Type 0 where
  pub during : During false true true [] true T x past
  pub shut : (armed past.seen).window ≡ None
  pub back : BackFits (now x past (Back past.own)) past.seen past.own
  pub candidature : Candidature past.own (x + WINDOW) (role past.seen) (Some (x, past.own)) (stood past.seen)
  pub unbacked : backers past.seen ≡ []

-- a candidate that has backed itself, and asks for votes
record Electing (T : Option Received → Option Received → Type 0) (x : ℕ) (past : Past) : Type 0 where
  pub free : Free T x past
  pub candidature : Candidature past.own (x + WINDOW) (role past.seen) (held past.seen).back (stood past.seen)
  pub unbacked : backers past.seen ≡ []

module _ {T : Option Received → Option Received → Type 0} where
  begins_election : (p : PeerId) → Leads (Electing T) (begins Election p) (Electing T)
  unfolding begins
  begins_election p = Leads_reading next_number (posts p Election) (λ n. Leads_posts p Election n (λ x past c.
      let h = c.0 in
      let m = bare Election n past.name in
      record {
        free = post_election p m h.unbacked (record {
          numbered = own_number x past p (now x past (Post (Peer p) (Message m))) m h.free c.1;
          backs = h.free.backs;
        }) h.free;
        candidature = h.candidature;
        unbacked = h.unbacked;
      }))

  pub candidature_leads : Leads (Eligible T) candidature_row (FreeIn [] T Candidate)
  unfolding candidature_row backs_own begins_to_others
  candidature_leads = Leads_then {Q = BackingItself T} (puts (Become Candidate)) (backs_own followed_by (arms Window WINDOW followed_by begins_to_others
      Election))
      (Leads_puts (Become Candidate) (λ x past h.
      let long : boot_tick (plain past.seen) + ELECT_MIN ≤ x = let b = h.may.boot in let e = h.free.knows.times.boot_is in omega (arith, b, e) in
      record {
        during = become_candidate long h.may.quit h.free;
        shut = refl;
        back = record { rested = omega (arith, long); holds = λ y q e. back_is (held past.seen).back x past.own h.may.back (y, q) e };
        candidature = record { stands = refl; start = now x past (Become Candidate); idle = past.seen; start_is = refl; at_is = refl; back_is = refl };
        unbacked = refl;
      }))
      (Leads_then {Q = Electing T} backs_own (arms Window WINDOW followed_by begins_to_others Election)
      (Leads_reading own_at (λ own. puts (Back own)) (λ own. Leads_puts (Back own) (λ x past h.
      let b = h.0 in
      subst (λ a. Electing T x (grown x past (Back a ∷ []))) h.1
      (record { free = back_own b.shut b.back b.during; candidature = b.candidature; unbacked = b.unbacked }))))
      (Leads_then {Q = Electing T} (arms Window WINDOW) (begins_to_others Election)
      (Leads_arms Window WINDOW (λ x past h. record {
        free = arm_window (x + WINDOW) h.candidature h.free;
        candidature = h.candidature;
        unbacked = h.unbacked;
      }))
      (Leads_reading others_at (for_each (begins Election)) (λ ps. Leads_from (λ x past h. h.0)
      (Leads_to (λ x past h. record { free = h.free; role_is = h.candidature.stands }) (Leads_each (begins Election) ps begins_election))))))
