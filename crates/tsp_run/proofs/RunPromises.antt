-- The history of possible events keeps the promises, by any clocks that keep the drift; so do those of every possible schedule and every
-- accepted one.
use Rattle.std.proofs.Common.{subst, sym, ◌≡◌, ℕ, List, ◌∷◌, Some, slice_get, ap, ◌∙◌, ◌≤◌, ◌<◌, ◌+◌, nat_le, if◌then◌else◌, length, refl}
use Rattle.std.proofs.lemmas.Bool.{le-leb, lt-leb}
use Rattle.tsp_rules.specs.Values.{Good, Event, LIFE, Datagram, Message, Stamp, Request, Reply}
use Rattle.tsp_base.specs.Words.{HeaderValue, Line, Seen, of, view, MessageValue, Setup}
use Rattle.tsp_promises.proofs.shared.EverywhereLemmas.{Everywhere_from, Everywhere_within, Everywhere_at}
use Rattle.tsp_promises.specs.{Premises.FewAt, Premises.HonestAt, Premises.TakenWithinAt, Dated.Dated, Dated.DateConfirmedAt, Dated.SetsAt}
use Rattle.tsp_promises.{specs.Answered.AnswersWith, specs.Answered.StrangersAt, proofs.promised.ConfirmedDate.date_confirmed, proofs.promised.SafeProof.safe}
use Rattle.tsp_promises.{proofs.promised.OneWinnerProof.one_winner, specs.Setting.Setting, specs.Setting.setup_of, proofs.promised.OnceObeyedProof.sets_at}
use Rattle.tsp_promises.{specs.Everywhere.Everywhere, proofs.promised.ChainProof.looped_in, proofs.promised.OwnFitsProof.fits_at, specs.DeedFits.answer_name}
use Rattle.tsp_promises.{proofs.promised.LookedProof.looked, specs.Fits.Fits, specs.Fits.node_of}
use Rattle.tsp_codec.specs.{Canon.canon, Canon.written_size, Taken.taken_of}
use Rattle.tsp_run.specs.{declared.posted.Posted.Posted, AnswerOctets.AnswerOctets, AnswerOctets.AnswerOctetsAt, AnswerOctets.SizeFits}
use Rattle.tsp_run.specs.{Ranges.Accepted, Run.last_at, Run.posts, Run.run}
use Rattle.tsp_run.specs.Clocked.{ClockedRunsKeepPromises, clocks_of, run_by}
use Rattle.tsp_run.specs.{Promises.Promises, Setting.PossibleRunsKeepPromises, Setting.RunsKeepPromises}
use Rattle.tsp_run.proofs.{SettingLemmas.clocks_are_set, OwnClocks.possible_own, OwnClocks.runs_by_own_clocks, OwnClocks.set_own}
use Rattle.tsp_run.proofs.{PossibleRun.accepted_possible, RunFits.clocked_runs_fit, RunFits.post_sound, RunFits.ran, SoundLemmas.sound_read}

-- the octets that strangers are sent
short_size : (m : MessageValue) (name : List ℕ) → m.name ≡ name → length name ≤ 63 → written_size (Message m) ≡ 76
short_size m name is few = ap (λ n. 12 + (if nat_le (length n) 63 then 64 else 256)) is ∙ ap (λ b. 12 + (if b then 64 else 256)) (le-leb (length name) 63 few)

long_size : (m : MessageValue) (name : List ℕ) → m.name ≡ name → 63 < length name → written_size (Message m) ≡ 268
long_size m name is many = ap (λ n. 12 + (if nat_le (length n) 63 then 64 else 256)) is ∙ ap (λ b. 12 + (if b then 64 else 256)) (lt-leb (length name) 63 many)

size_fits : (asked datagram : Datagram) (setup : Setup) (before : List Seen) → AnswersWith asked datagram → ((m message : MessageValue) → datagram ≡ Message m →
    asked ≡ Message message → m.name ≡ answer_name message.kind setup before) → SizeFits asked datagram setup before
size_fits (Message asked) (Message answer) setup before w named =
    let is = named answer asked refl refl in
    (λ few. short_size answer (answer_name asked.kind setup before) is few, λ many. long_size answer (answer_name asked.kind setup before) is many)
size_fits (Stamp (Request word counter)) (Stamp (Reply reply)) setup before w named = (refl, refl)
size_fits _ _ setup before w named = absurd w

octets_at : (setting : Setting) (l : Line) (world : List Line) → StrangersAt setting l world → AnswerOctetsAt setting l world
octets_at setting l world s datagram is =
    let a = s datagram is in
    record {
      asked = a.asked;
      took = a.took;
      size = size_fits a.asked datagram (setup_of setting (node_of l) l.port) (view l.port (of (node_of l) world))
          a.answer a.named;
    }

pub answer_octets : (setting : Setting) (world : List Line) → Everywhere (StrangersAt setting) world → AnswerOctets setting world
answer_octets setting world s = Everywhere_from (AnswerOctetsAt setting) world (λ l before w. octets_at setting l before
    (Everywhere_at (StrangersAt setting) l before world s w))

dated : (setting : Setting) (world : List Line) → Fits setting world → Dated setting world
dated setting world f = record {
  sets = Everywhere_from (SetsAt setting) world (λ l s w. sets_at setting l s (fits_at setting (l ∷ s) world f w));
  confirmed = λ honest life few. Everywhere_from DateConfirmedAt world (λ l s w.
      date_confirmed setting l s (fits_at setting (l ∷ s) world f w) (Everywhere_within HonestAt (l ∷ s) world honest w)
      (Everywhere_within (TakenWithinAt LIFE) (l ∷ s) world life w) (Everywhere_within FewAt (l ∷ s) world few w));
}

pub clocked_runs_keep_promises : ClockedRunsKeepPromises
clocked_runs_keep_promises clocks header setting events set p =
    let h : List Line = run_by clocks header events in
    let f = clocked_runs_fit clocks header setting events set p in
    let all = safe setting h f.0 f.1 in
    record {
      safe = all;
      one_winner = λ strict honest life few. one_winner setting h strict f.0 honest life few;
      dated = dated setting h f.0;
      looped = looped_in setting h f.0;
      looked = looked setting h f.0;
      answer_octets = answer_octets setting h all.answered.strangers;
    }

-- so does that of every possible schedule
pub possible_runs_keep_promises_holds : PossibleRunsKeepPromises
possible_runs_keep_promises_holds header setting events set p =
    subst (Promises setting) (runs_by_own_clocks header events)
    (clocked_runs_keep_promises (clocks_of header) header setting events (set_own header setting set) (possible_own header events p))

-- and that of every accepted one
pub runs_keep_promises_holds : RunsKeepPromises
runs_keep_promises_holds header setting events set a = possible_runs_keep_promises_holds header setting events set (accepted_possible header events a)

-- what the posts of a schedule's run carry is read as it was posted
pub posted_read : (header : HeaderValue) (events : List Event) → Accepted header events → (k : ℕ) (p : Posted) → slice_get (posts (run header events)) k ≡
    Some p → taken_of (canon p.datagram) ≡ Good p.datagram
posted_read header events s k p there =
    let possible = possible_own header events (accepted_possible header events s) in
    let set = clocks_are_set (clocks_of header) header possible.header_is possible.keeps in
    let r = ran possible.header_is set.1 events possible in
    sound_read p.datagram (post_sound possible.header_is set.1 events (last_at events) k p r
    (subst (λ h. slice_get (posts h) k ≡ Some p) (sym (runs_by_own_clocks header events)) there))
