-- A numbered send whose addressee acts on it is acknowledged in time, and isn't given up.
use Rattle.std.proofs.Common.{sym, ap, subst, arith, true≢false, inl, inr, ◌∙◌, ◌≡◌, ◌<◌, ◌≤◌, ◌⊎◌, ◌==◌, ◌&&◌, ◌||◌, not, ℕ, ◌+◌, ◌*◌, Bool, true, false}
use Rattle.std.proofs.Common.{if◌then◌else◌, List, []}
use Rattle.std.proofs.Common.{◌∷◌, eq-eqb, refl}
use Rattle.std.proofs.lemmas.Bool.{and_parts}
use Rattle.tsp_rules.specs.Values.{Act, Become, Backer, Acked, Back, Accept, Ack, AdjTime, Conflict, Election, QuitKind, Refuse, SetTime, Message}
use Rattle.tsp_rules.specs.Values.{PeerId, Role, Loose, Follow, Starting, RETRY, TRIES}
use Rattle.tsp_rules.specs.{CommonRows.is_idle, Guards.is_starting_role, Guards.may_back_at, SendRows.answers_election, SendRows.answers_other}
use Rattle.tsp_rules.specs.SlaveRows.{is_repeated, takes_amount, takes_value}
use Rattle.tsp_rules.specs.{SendRows.ends_by_ack, SendRows.has_election, SendRows.has_other}
use Rattle.tsp_base.specs.Words.{Acts, Elsewhere, HeaderValue, Here, Line, MessageValue, Past, Seen, Within, bare, is_numbered, line_of, of, peer_of, plain}
use Rattle.tsp_base.specs.Words.{role, tick_of, time_in, view}
use Rattle.tsp_base.proofs.{PlaceLemmas.Within_tail, PlaceLemmas.Within_through, ViewPlaces.Within_view}
use Rattle.tsp_promises.specs.{Fits.Fits, Fits.LineFits, Fits.node_of, Setting.Setting}
use Rattle.tsp_promises.proofs.{shared.Clocks.tick_mono, shared.EverywhereLemmas.Everywhere_at, promised.OwnFitsProof.own_fits, promised.OwnFitsProof.seen_in}
use Rattle.tsp_run.specs.{Clocked.Clocks, Clocked.SetByClocks, Clocked.clocks_of, Clocked.run_by}
use Rattle.tsp_run.proofs.{OwnClocks.possible_own, OwnClocks.runs_by_own_clocks, OwnClocks.set_own, RunFits.clocked_runs_fit}
use Rattle.tsp_progress.specs.AckedInTime.{Acknowledged, AckedAs, AckedInTime, Begins, ClockedRunsAcknowledge, EndedBefore, IsPrompt, NeverGivenUp}
use Rattle.tsp_progress.specs.AckedInTime.{RunsAcknowledge, may_obey, refuses_vote}
use Rattle.tsp_progress.specs.AnswersInTime.{AnswerTaken, Asks, Meanwhile}
use Rattle.tsp_progress.specs.{ByTable.ByTable, ByTable.node_in, Delivered.Arrives, Delivered.Delivered, GivenUp.GaveFits, GivenUp.GivesUpLate, GivenUp.Owes}
use Rattle.tsp_progress.specs.{Obedient.Obedient, SentAway.past_there}
use Rattle.tsp_progress.specs.Heeds.{DoesNext, Hears, arms_for_delay, is_candidate_role, is_master_role, is_up_role, moved_by, posts_bare, role_before, set_to}
use Rattle.tsp_progress.proofs.AnswersProof.{answer_heard, answered, answers_in_time, arrival, candidate_awake, first_of, hears, master_awake, up_awake}
use Rattle.tsp_progress.proofs.{FoundProof.view_tick, GiveUpProof.clocked_runs_give_up, HeedsProof.adjtime_again, HeedsProof.all_heed}
use Rattle.tsp_progress.proofs.HeedsProof.{conflict_acks, idle_refuses, settime_again}
use Rattle.tsp_progress.proofs.SearchKept.{rising_within, view_within}
use Rattle.tsp_progress.proofs.SendKept.{Still, kept, never, sending}
use Rattle.tsp_progress.proofs.{StandsProof.Rising, StandsProof.rising, TableProof.clocked_runs_by_table}
use Rattle.tsp_progress.proofs.WorldPlaces.{Among, act_place, own_place}

pub owes_within : (s seen : List Seen) → Within s seen → Owes GaveFits seen → Owes GaveFits s
owes_within s [] w f = subst (λ k. Owes GaveFits k) (sym w) tt
owes_within s (k ∷ before) (inl e) f = subst (λ k. Owes GaveFits k) (sym e) f
owes_within s (Here d ∷ before) (inr w) f = owes_within s before w f.1
owes_within s (Elsewhere d ∷ before) (inr w) f = owes_within s before w f

module _ {clocks : Clocks} {header : HeaderValue} {setting : Setting} (set : SetByClocks clocks header setting) (world : List Line)
    (table : ByTable header world) (fits : Fits setting world) (late : GivesUpLate world) (long t : ℕ) (stays : ℕ → Bool) (s : List Line)
    (delivered : Delivered setting long t stays s world) (prompt : IsPrompt setting long) where
  -- a send that is answered
  module _ (l : Line) (older : List Line) (p : PeerId) (m : MessageValue) (asks : Asks setting long t stays s l older world p (Message m))
      (numbered : is_numbered m.kind ≡ true) {in_role : Role → Bool} (sends : Begins in_role l older) (answer : MessageValue)
      (taken : AnswerTaken long l older world p (Message answer)) where
    abbrev Was : List Seen
    Was = view l.port (of (node_of l) older)

    abbrev Later : List Seen
    Later = view l.port (of (node_of l) taken.before)

    abbrev Whole : List Seen
    Whole = view l.port (of (node_of l) world)

    abbrev Open : Type 0
    Open = Still p m l.did Was asks.posts.deed numbered sends.begins Later

    there : Within (taken.line ∷ of (node_of l) taken.before) (of (node_of l) world)
    there = own_place (node_of l) taken.line taken.before world taken.node taken.place

    tail : Within Later Whole
    tail = view_within l.port (of (node_of l) taken.before) (of (node_of l) world)
        (Within_tail taken.line (of (node_of l) taken.before) (of (node_of l) world) there)

    -- when the answer is taken the send isn't old
    soon : taken.line.did.tick < l.did.tick + TRIES * RETRY
    soon =
        let first : l.did.tick ≡ setting.tick (node_of l) l.did.step.at = (Everywhere_at (LineFits setting) l older world fits asks.posts.place).tick in
        let last : taken.line.did.tick ≡ setting.tick (node_of l) taken.line.did.step.at = subst (λ n. taken.line.did.tick ≡
        setting.tick n taken.line.did.step.at) taken.node (Everywhere_at (LineFits setting) taken.line taken.before world fits taken.place).tick in
        let mono = tick_mono setting (node_of l) taken.line.did.step.at (l.did.step.at + 2 * long) taken.soon in
        let fast = (setting.ticks (node_of l)).fast l.did.step.at (2 * long) in
        omega (arith, first, last, mono, fast, prompt)

    rises : Rising Whole
    rises = rising setting l.port (of (node_of l) world) (own_fits setting (node_of l) world fits)

    high : tick_of (plain Later) < l.did.tick + TRIES * RETRY
    high =
        let up = rising_within (view l.port (taken.line ∷ of (node_of l) taken.before)) Whole
        (view_within l.port (taken.line ∷ of (node_of l) taken.before) (of (node_of l) world) there) rises in
        let le : tick_of (plain Later) ≤ tick_of (plain (view l.port (taken.line ∷ of (node_of l) taken.before))) = up.0 in
        let same = view_tick l.port taken.line (of (node_of l) taken.before) in
        omega (arith, le, same, soon)

    open-or-ended : EndedBefore p (Here l.did ∷ Was) Later ⊎ Open
    open-or-ended = kept p m l.did Was asks.posts.deed numbered sends.begins Later (seen_in (node_of l) l older taken.before refl taken.later)
        (owes_within Later Whole tail (late (node_of l) l.port)) (rising_within Later Whole tail rises) high

    abbrev There : Past
    There = past_there header (node_of l) taken.line taken.before

    abbrev Next : (ℕ → Past → List Act) → Type 0
    Next rest = DoesNext (Acked p ∷ rest taken.line.did.tick There) taken.line (of (node_of l) taken.before) (of (node_of l) world)

    -- the Acked ends it
    acked-ends : (rest : ℕ → Past → List Act) → Open → Next rest → EndedBefore p (Here l.did ∷ Was) Whole
    acked-ends rest still next =
        let step = taken.line.did.step in
        let x = taken.line.did.tick in
        let acked = line_of step x taken.line.port (Acts (Acked p)) in
        let own = taken.line ∷ of (node_of l) taken.before in
        let place : Within (acked ∷ own) (of (node_of l) world) = act_place step x taken.line.port (Acked p) (Acked p ∷ rest x There) own
        (of (node_of l) world) (record { front = []; back = rest x There; is = refl }) next in
        let same : (taken.line.port.0 == l.port.0) ≡ true = eq-eqb taken.line.port.0 l.port.0 (ap (λ q. q.0) taken.port) in
        let seen : view l.port (acked ∷ own) ≡ Here acked.did ∷ Here taken.line.did ∷ Later = rw same refl in
        let ack : (p.0 == p.0) ≡ true = eq-eqb p.0 p.0 refl in
        record {
          end = acked.did;
          before = Here taken.line.did ∷ Later;
          place = subst (λ k. Within k Whole) seen (Within_view l.port (acked ∷ own) (of (node_of l) world) place);
          open_is = rw taken.took still.open_is;
          is = ack;
        }

    ended-later : EndedBefore p (Here l.did ∷ Was) Later → EndedBefore p (Here l.did ∷ Was) Whole
    ended-later e = record {
      end = e.end;
      before = e.before;
      place = Within_through (Here e.end ∷ e.before) Later Whole e.place tail;
      open_is = e.open_is;
      is =
          e.is;
    }

    pub acknowledged : (rest : ℕ → Past → List Act) → (Open → Next rest) → Acknowledged header long l older world p answer (λ x past. Acked p ∷ rest x past)
    acknowledged rest next = by_case open-or-ended where
      never-in : EndedBefore p (Here l.did ∷ Was) Whole → NeverGivenUp p (Here l.did ∷ Was) Whole
      never-in e = never p m l.did Was asks.posts.deed numbered sends.begins Whole e

      by_case : EndedBefore p (Here l.did ∷ Was) Later ⊎ Open → Acknowledged header long l older world p answer (λ x past. Acked p ∷ rest x past)
      by_case (inl e) = record { taken = taken; ends = inl e; kept = never-in (ended-later e) }
      by_case (inr k) = record { taken = taken; ends = inr (next k); kept = never-in (acked-ends rest k (next k)) }

    -- what the port finds when the answer comes
    pub role-there : Open → role_before (node_in header (node_of l)) taken.line (of (node_of l) taken.before) ≡ role Was
    role-there k = ap (λ q. role (view q (of (node_of l) taken.before))) taken.port ∙ k.role_is

    pub other-there : Open → ends_by_ack m.kind ≡ true → has_other p m.number taken.line.did.tick There ≡ true
    other-there k ends =
        let is = sending p m l.did Was asks.posts.deed numbered sends.begins Later k.open_is in
        let own : (m.number == m.number) ≡ true = eq-eqb m.number m.number refl in
        ap (λ q. has_other p m.number taken.line.did.tick (record There { seen = view q (of (node_of l) taken.before) })) taken.port ∙
        (ap (answers_other m.number) is ∙ rw (ends, own) refl)

    pub election-there : Open → m.kind ≡ Election → has_election p m.number taken.line.did.tick There ≡ true
    election-there k kind =
        let is = sending p m l.did Was asks.posts.deed numbered sends.begins Later k.open_is in
        let own : (m.number == m.number) ≡ true = eq-eqb m.number m.number refl in
        ap (λ q. has_election p m.number taken.line.did.tick (record There { seen = view q (of (node_of l) taken.before) })) taken.port ∙
        (ap (answers_election m.number) is ∙ rw (kind, own) refl)

  -- a send that an ACK ends
  by_ack : (l : Line) (older : List Line) (p : PeerId) (m : MessageValue) → Asks setting long t stays s l older world p (Message m) →
      is_numbered m.kind ≡ true → ends_by_ack m.kind ≡ true → Begins is_up_role l older →
      AnswerTaken long l older world p (Message (bare Ack m.number (node_in header p.0).name)) →
      Acknowledged header long l older world p (bare Ack m.number (node_in header p.0).name) (λ x past. Acked p ∷ [])
  by_ack l older p m asks numbered ends sends taken =
      let ack = bare Ack m.number (node_in header p.0).name in
      acknowledged l older p m asks numbered sends ack taken (λ x past. []) (λ k.
      let up : is_up_role (role_before (node_in header (node_of l)) taken.line (of (node_of l) taken.before)) ≡ true =
      ap is_up_role (role-there l older p m asks numbered sends ack taken k) ∙ sends.role_is in
      (all_heed header world table (node_of l)).ends.ack taken.line (of (node_of l) taken.before) p ack
      (answer_heard set world table long t stays s delivered l older p (Message m) asks ack taken
      (up_awake set world table long t stays s delivered (role_before (node_in header (node_of l)) taken.line (of (node_of l) taken.before)) up)) refl up
      (other-there l older p m asks numbered sends ack taken k ends))

  quits : AckedAs QuitKind is_up_role (λ l older p m. Meanwhile header setting long l older world p (λ x past. is_up_role (role past.seen))) Ack
      (λ p x past. Acked p ∷ []) header setting long t stays s world
  quits l older p m asks kind sends up = by_ack l older p m asks (rw kind refl) (rw kind refl) sends
      ((answers_in_time set world table long t stays s delivered).quit l older p m asks kind up)

  conflicts : AckedAs Conflict is_up_role (λ l older p m. Meanwhile header setting long l older world p (λ x past. is_master_role (role past.seen))) Ack
      (λ p x past. Acked p ∷ []) header setting long t stays s world
  conflicts l older p m asks kind sends leads =
      let a = arrival set world table long t stays s delivered l older p (Message m) asks in
      let is = leads a.line a.before a.place a.later a.node a.net a.soon in
      let ack = posts_bare Ack m.number (past_there header p.0 a.line a.before) (peer_of (node_of l)) in
      by_ack l older p m asks (rw kind refl) (rw kind refl) sends
      (answered set world table long t stays s delivered l older p (Message m) asks a (ack ∷ []) (Message (bare Ack m.number (node_in header p.0).name))
      (first_of set world table long t stays s delivered ack [])
      (conflict_acks (node_in header p.0) (of p.0 world) (table p.0) a.line (of p.0 a.before) (peer_of (node_of l)) m
      (hears set world table long t stays s delivered l older p m asks a
      (master_awake set world table long t stays s delivered (role_before (node_in header p.0) a.line (of p.0 a.before)) is)) kind is refl))

  third_of : (a b c : Act) → Among c (a ∷ b ∷ c ∷ [])
  third_of a b c = record { front = a ∷ b ∷ []; back = []; is = refl }

  -- a correction that is taken, or was taken last, is acknowledged
  obeyed : (l : Line) (older : List Line) (p : PeerId) (m : MessageValue) (asks : Asks setting long t stays s l older world p (Message m))
      (a : Arrives setting long l older world p (Message m)) (takes again : Bool) → (takes || again) ≡ true → (moved : Act) →
      (takes ≡ true → DoesNext (moved ∷ arms_for_delay a.line.did.tick (past_there header p.0 a.line a.before) ∷
      posts_bare Ack m.number (past_there header p.0 a.line a.before) (peer_of (node_of l)) ∷ []) a.line (of p.0 a.before) (of p.0 world)) →
      ((not takes && again) ≡ true → DoesNext (posts_bare Ack m.number (past_there header p.0 a.line a.before) (peer_of (node_of l)) ∷
      []) a.line (of p.0 a.before)
      (of p.0 world)) →
      AnswerTaken long l older world p (Message (bare Ack m.number (node_in header p.0).name))
  obeyed l older p m asks a true again e moved first repeat =
      let past = past_there header p.0 a.line a.before in
      let arm = arms_for_delay a.line.did.tick past in
      let ack = posts_bare Ack m.number past (peer_of (node_of l)) in
      answered set world table long t stays s delivered l older p (Message m) asks a (moved ∷ arm ∷ ack ∷ [])
      (Message (bare Ack m.number (node_in header p.0).name)) (third_of moved arm ack) (first refl)
  obeyed l older p m asks a false again e moved first repeat =
      let ack = posts_bare Ack m.number (past_there header p.0 a.line a.before) (peer_of (node_of l)) in
      answered set world table long t stays s delivered l older p (Message m) asks a (ack ∷ []) (Message (bare Ack m.number (node_in header p.0).name))
      (first_of set world table long t stays s delivered ack []) (repeat e)

  -- p's port hears the correction
  follower_hears : (l : Line) (older : List Line) (p : PeerId) (m : MessageValue) (asks : Asks setting long t stays s l older world p (Message m))
      (a : Arrives setting long l older world p (Message m)) → role_before (node_in header p.0) a.line (of p.0 a.before) ≡ Follow (peer_of (node_of l)) →
      Hears (node_in header p.0) (of p.0 world) a.line (of p.0 a.before) (peer_of (node_of l)) m
  follower_hears l older p m asks a follows = hears set world table long t stays s delivered l older p m asks a (ap is_starting_role follows)

  adjtimes : AckedAs AdjTime is_up_role (λ l older p m. Obedient header setting long l older world p (may_obey l m (takes_amount m.number (time_in m.body))))
      Ack (λ p x past. Acked p ∷ []) header setting long t stays s world
  adjtimes l older p m asks kind sends obeys =
      let a = arrival set world table long t stays s delivered l older p (Message m) asks in
      let o = obeys a.line a.before a.place a.later a.node a.net a.soon in
      let past = past_there header p.0 a.line a.before in
      let x = a.line.did.tick in
      let h = follower_hears l older p m asks a o.0 in
      by_ack l older p m asks (rw kind refl) (rw kind refl) sends (obeyed l older p m asks a (takes_amount m.number (time_in m.body) x past)
      (is_repeated (peer_of (node_of l)) m.number x past) o.1.1 (moved_by (time_in m.body) x past)
      (λ takes. (all_heed header world table p.0).obeys.adjtime a.line (of p.0 a.before) (peer_of (node_of l)) m h kind o.0 o.1.0 takes)
      (λ again. adjtime_again (node_in header p.0) (of p.0 world) (table p.0) a.line (of p.0 a.before) (peer_of (node_of l)) m h kind o.0 o.1.0 again))

  settimes : AckedAs SetTime is_up_role (λ l older p m. Obedient header setting long l older world p (may_obey l m (takes_value m.number (time_in m.body))))
      Ack (λ p x past. Acked p ∷ []) header setting long t stays s world
  settimes l older p m asks kind sends obeys =
      let a = arrival set world table long t stays s delivered l older p (Message m) asks in
      let o = obeys a.line a.before a.place a.later a.node a.net a.soon in
      let past = past_there header p.0 a.line a.before in
      let x = a.line.did.tick in
      let h = follower_hears l older p m asks a o.0 in
      by_ack l older p m asks (rw kind refl) (rw kind refl) sends (obeyed l older p m asks a (takes_value m.number (time_in m.body) x past)
      (is_repeated (peer_of (node_of l)) m.number x past) o.1.1 (set_to (time_in m.body) x past)
      (λ takes. (all_heed header world table p.0).obeys.settime a.line (of p.0 a.before) (peer_of (node_of l)) m h kind o.0 o.1.0 takes)
      (λ again. settime_again (node_in header p.0) (of p.0 world) (table p.0) a.line (of p.0 a.before) (peer_of (node_of l)) m h kind o.0 o.1.0 again))

  -- a candidate hears of the vote
  candidate_hears : (l : Line) (older : List Line) (p : PeerId) (m : MessageValue) (asks : Asks setting long t stays s l older world p (Message m)) →
      (numbered : is_numbered m.kind ≡ true) (sends : Begins is_candidate_role l older) (answer : MessageValue)
      (taken : AnswerTaken long l older world p (Message answer)) →
      Still p m l.did (view l.port (of (node_of l) older)) asks.posts.deed numbered sends.begins (view l.port (of (node_of l) taken.before)) →
      (is_candidate_role (role_before (node_in header (node_of l)) taken.line (of (node_of l) taken.before)) ≡ true)
      × Hears (node_in header (node_of l)) (of (node_of l) world) taken.line (of (node_of l) taken.before) p answer
  candidate_hears l older p m asks numbered sends answer taken k =
      let stands : is_candidate_role (role_before (node_in header (node_of l)) taken.line (of (node_of l) taken.before)) ≡ true =
      ap is_candidate_role (role-there l older p m asks numbered sends answer taken k) ∙ sends.role_is in (
        stands,
        answer_heard set world table long t stays s delivered l older p (Message m) asks answer taken
            (candidate_awake set world table long t stays s delivered
            (role_before (node_in header (node_of l)) taken.line (of (node_of l) taken.before)) stands),
      )

  idle_awake : (r : Role) → is_idle r ≡ true → is_starting_role r ≡ false
  idle_awake Starting e = absurd (true≢false (sym e))
  idle_awake _ e = refl

  -- a vote
  accepted : (l : Line) (older : List Line) (p : PeerId) (m : MessageValue) → Asks setting long t stays s l older world p (Message m) → m.kind ≡ Election →
      Meanwhile header setting long l older world p (λ x past. is_idle (role past.seen) && may_back_at (peer_of (node_of l)) x past) →
      AnswerTaken long l older world p (Message (bare Accept m.number (node_in header p.0).name))
  accepted l older p m asks kind backs =
      let a = arrival set world table long t stays s delivered l older p (Message m) asks in
      let x = a.line.did.tick in
      let past = past_there header p.0 a.line a.before in
      let both = and_parts (is_idle (role past.seen)) (may_back_at (peer_of (node_of l)) x past) (backs a.line a.before a.place a.later a.node a.net a.soon) in
      let back = Back (peer_of (node_of l)) in
      let arm = arms_for_delay x past in
      let accept = posts_bare Accept m.number past (peer_of (node_of l)) in
      answered set world table long t stays s delivered l older p (Message m) asks a (back ∷ arm ∷ accept ∷ [])
      (Message (bare Accept m.number (node_in header p.0).name)) (third_of back arm accept)
      ((all_heed header world table p.0).votes.backs a.line (of p.0 a.before) (peer_of (node_of l)) m
      (hears set world table long t stays s delivered l older p m asks a (idle_awake (role_before (node_in header p.0) a.line (of p.0 a.before)) both.0)) kind
      both.0 both.1)

  votes : AckedAs Election is_candidate_role (λ l older p m. Meanwhile header setting long l older world p (λ x past. is_idle (role past.seen) &&
      may_back_at (peer_of (node_of l)) x past)) Accept (λ p x past. Acked p ∷ Backer p ∷ []) header setting long t stays s world
  votes l older p m asks kind sends backs =
      let numbered : is_numbered m.kind ≡ true = rw kind refl in
      let taken = accepted l older p m asks kind backs in
      let accept = bare Accept m.number (node_in header p.0).name in
      acknowledged l older p m asks numbered sends accept taken (λ x past. Backer p ∷ []) (λ k.
      let h = candidate_hears l older p m asks numbered sends accept taken k in
      (all_heed header world table (node_of l)).ends.accept taken.line (of (node_of l) taken.before) p accept h.1 refl h.0
      (election-there l older p m asks numbered sends accept taken k kind))

  -- and a refusal, by a candidate or by who has backed another one
  pub refused : (l : Line) (older : List Line) (p : PeerId) (m : MessageValue) → Asks setting long t stays s l older world p (Message m) → m.kind ≡ Election →
      (a : Arrives setting long l older world p (Message m)) →
      refuses_vote (peer_of (node_of l)) a.line.did.tick (past_there header p.0 a.line a.before) ≡ true →
      AnswerTaken long l older world p (Message (bare Refuse m.number (node_in header p.0).name))
  refused l older p m asks kind a denies = by_role (is_candidate_role (role past.seen)) refl denies where
    past : Past
    past = past_there header p.0 a.line a.before

    back : PeerId
    back = peer_of (node_of l)

    next : DoesNext (posts_bare Refuse m.number past back ∷ []) a.line (of p.0 a.before) (of p.0 world) →
        AnswerTaken long l older world p (Message (bare Refuse m.number (node_in header p.0).name))
    next does = answered set world table long t stays s delivered l older p (Message m) asks a (posts_bare Refuse m.number past back ∷ [])
        (Message (bare Refuse m.number (node_in header p.0).name))
        (first_of set world table long t stays s delivered (posts_bare Refuse m.number past back) []) does

    by_role : (b : Bool) → is_candidate_role (role past.seen) ≡ b →
        (if b then true else (is_idle (role past.seen) && not (may_back_at back a.line.did.tick past))) ≡ true →
        AnswerTaken long l older world p (Message (bare Refuse m.number (node_in header p.0).name))
    by_role true e k = next ((all_heed header world table p.0).votes.refuses a.line (of p.0 a.before) back m
        (hears set world table long t stays s delivered l older p m asks a
        (candidate_awake set world table long t stays s delivered (role past.seen) e)) kind e refl)
    by_role false e k = let both = and_parts (is_idle (role past.seen)) (not (may_back_at back a.line.did.tick past)) k in
        next (idle_refuses (node_in header p.0) (of p.0 world) (table p.0) a.line (of p.0 a.before) back m
        (hears set world table long t stays s delivered l older p m asks a (idle_awake (role past.seen) both.0)) kind both.0 both.1)

  -- a candidate that is refused stands no more
  pub refused_ends : (l : Line) (older : List Line) (p : PeerId) (m : MessageValue) → Asks setting long t stays s l older world p (Message m) →
      m.kind ≡ Election → Begins is_candidate_role l older → AnswerTaken long l older world p (Message (bare Refuse m.number (node_in header p.0).name)) →
      Acknowledged header long l older world p (bare Refuse m.number (node_in header p.0).name) (λ x past. Acked p ∷ Become Loose ∷ arms_for_delay x past ∷ [])
  refused_ends l older p m asks kind sends taken =
      let numbered : is_numbered m.kind ≡ true = rw kind refl in
      let refuse = bare Refuse m.number (node_in header p.0).name in
      acknowledged l older p m asks numbered sends refuse taken (λ x past. Become Loose ∷ arms_for_delay x past ∷ []) (λ k.
      let h = candidate_hears l older p m asks numbered sends refuse taken k in
      (all_heed header world table (node_of l)).ends.refuse taken.line (of (node_of l) taken.before) p refuse h.1 refl h.0
      (election-there l older p m asks numbered sends refuse taken k kind))

  refusals : AckedAs Election is_candidate_role (λ l older p m. Meanwhile header setting long l older world p (refuses_vote (peer_of (node_of l))))
      Refuse (λ p x past. Acked p ∷ Become Loose ∷ arms_for_delay x past ∷ []) header setting long t stays s world
  refusals l older p m asks kind sends denies =
      let a = arrival set world table long t stays s delivered l older p (Message m) asks in
      refused_ends l older p m asks kind sends (refused l older p m asks kind a (denies a.line a.before a.place a.later a.node a.net a.soon))

  pub acked_in_time : AckedInTime header setting long t stays s world
  acked_in_time = record { quits = quits; conflicts = conflicts; adjtimes = adjtimes; settimes = settimes; votes = votes; refusals = refusals }

pub clocked_runs_acknowledge : ClockedRunsAcknowledge
clocked_runs_acknowledge clocks header setting events long t stays s set possible delivered prompt =
    acked_in_time set (run_by clocks header events) (clocked_runs_by_table clocks header events) (clocked_runs_fit clocks header setting events set possible).0
    (clocked_runs_give_up clocks header events) long t stays s delivered prompt

pub runs_acknowledge : RunsAcknowledge
runs_acknowledge header setting events long t stays s set possible = subst (λ h. Delivered setting long t stays s h → IsPrompt setting long →
    AckedInTime header setting long t stays s h) (runs_by_own_clocks header events)
    (clocked_runs_acknowledge (clocks_of header) header setting events long t stays s (set_own header setting set) (possible_own header events possible))
