-- A follower whose corrections find it ready doesn't leave its master's table.
use Rattle.std.proofs.Common.{sym, ap, subst, arith, mul-le-mul_left, true≢false, inl, inr, ◌∙◌, ◌≡◌, ◌≤◌, ◌<◌, ◌⊎◌, ℕ, ◌+◌, ◌*◌, ◌/◌, ◌==◌, Bool, true}
use Rattle.std.proofs.Common.{false, List, [], ◌∷◌, Option, None, Some, is_some, refl}
use Rattle.std.proofs.lemmas.Bool.{cases_lt}
use Rattle.tsp_rules.specs.Values.{Leave, Close, Gave, AdjTime, SetTime, Kind, Message, Good, PeerId, Port}
use Rattle.tsp_rules.specs.Values.{Master, GAP, LIFE, RETRY, SLACK, TRIES, WINDOW}
use Rattle.tsp_rules.specs.{Guards.is_in_range, SlaveRows.takes_amount, SlaveRows.takes_value}
use Rattle.tsp_base.specs.Words.{Acts, Did, HeaderValue, Here, Line, MessageValue, Seen, Sending, Step, Within, acting, dids, estimate, first_port}
use Rattle.tsp_base.specs.Words.{is_among, is_correction, is_measured, is_numbered, of, open_send, open_to, peer_of, posts_of, role}
use Rattle.tsp_base.specs.Words.{sending_at, time_in, time_of, view}
use Rattle.tsp_base.proofs.PlaceLemmas.{Within_all, Within_tail, Within_through}
use Rattle.tsp_promises.specs.{Fits.Fits, Fits.node_of, RoundFits.CloseFits, Setting.Setting}
use Rattle.tsp_promises.proofs.{shared.Clocks.near, shared.Clocks.tick_mono, shared.EverywhereLemmas.Everywhere_within}
use Rattle.tsp_promises.proofs.{shared.HistoryPlaces.line_on, shared.RoundPlaces.closed_at, shared.RoundPlaces.started_at, shared.SendPlaces.post_fits}
use Rattle.tsp_promises.proofs.{promised.SendProof.Opened, promised.SendProof.opened, promised.TakingProof.round_soon}
use Rattle.tsp_promises.proofs.promised.OwnFitsProof.{Given, deed_fits, fits_at, fits_in, locate, place_time, seen_in, tick_in}
use Rattle.tsp_run.specs.Clocked.{Clocks, SetByClocks}
use Rattle.tsp_progress.specs.AckedInTime.{Begins, IsPrompt, NeverGivenUp, may_obey}
use Rattle.tsp_progress.specs.{AnswersInTime.Asks, ByTable.ByTable, ByTable.node_in, ByTable.port_before, Delivered.Delivered, FollowOn.Calm}
use Rattle.tsp_progress.specs.{GivenUp.GaveFits, GivenUp.GivesUpLate, GivenUp.IsOld, Heeds.is_up_role, Obedient.Obedient, OnePort.UsesOnePort}
use Rattle.tsp_progress.specs.{OneWire.OneWire, SampledInTime.ClosesSince, SampledInTime.IsSwift, SampledInTime.Measured}
use Rattle.tsp_progress.specs.StaysIn.{InRange, IsBrief, NoneLeaves, PostsCorrection, over_after}
use Rattle.tsp_progress.specs.TableKept.{GaveCorrection, LeavesFor, SetsDate, TableFits, TablesLast, Unsampled}
use Rattle.tsp_progress.specs.{Watched.Attended}
use Rattle.tsp_progress.specs.{GivenUp.Owes}
use Rattle.tsp_progress.proofs.{NoDateProof.takes-no-date, PassedRows.PassFits, TookPlaces.after_place, TookPlaces.took_line}
use Rattle.tsp_progress.proofs.{AckedProof.acked_in_time, FollowProof.owes_at, NeverLateProof.newest, NeverLateProof.same_tick, SampledProof.sampled_in_time}
use Rattle.tsp_progress.proofs.{SendYoung.open_here, SendYoung.send_is, SendYoung.send_young, SendsEndProof.sends_end}

-- what is brief is prompt and swift
less_drift : (drift long : ℕ) → drift ≤ 1000 → long < GAP → 2 * long + (drift * (2 * long) + 999999) / 1000000 < TRIES * RETRY
less_drift drift long small brief =
    let m : (2 * long) * drift ≤ (2 * long) * 1000 = mul-le-mul_left (2 * long) small in
    omega (arith, m, brief)

pub brief_prompt : (setting : Setting) (long : ℕ) → IsBrief setting long → IsPrompt setting long
brief_prompt setting long brief = less_drift setting.drift long setting.small (omega (arith, brief))

pub brief_swift : (setting : Setting) (long : ℕ) → IsBrief setting long → IsSwift setting long
brief_swift setting long brief = let prompt = brief_prompt setting long brief in omega (arith, prompt)

pub corrects_which : (k : Kind) → is_correction k ≡ true → (k ≡ AdjTime) ⊎ (k ≡ SetTime)
corrects_which AdjTime e = inl refl
corrects_which SetTime e = inr refl
corrects_which _ e = absurd (true≢false (sym e))

pub correction_numbered : (k : Kind) → is_correction k ≡ true → is_numbered k ≡ true
correction_numbered AdjTime e = refl
correction_numbered SetTime e = refl
correction_numbered _ e = absurd (true≢false (sym e))

-- an open send that corrects
pub record OpenCorrection (p : PeerId) (seen : List Seen) : Type 0 where
  pub first : Did
  pub older : List Seen
  pub is : open_to p seen ≡ Here first ∷ older
  pub opens : Opened is_numbered p first older seen
  pub corrects : is_correction opens.message.kind ≡ true

pub open_correction : (p : PeerId) (seen : List Seen) (s : Sending) → open_send p seen ≡ Some s → is_correction s.message.kind ≡ true → OpenCorrection p seen
open_correction p seen s e kind = by_open (open_to p seen) refl where
  message_is : (a b : Sending) → Some a ≡ Some b → a.message ≡ b.message
  message_is a b e = ap kept (e) where
    kept : Option Sending → MessageValue
    kept None = a.message
    kept (Some z) = z.message

  by_open : (o : List Seen) → open_to p seen ≡ o → OpenCorrection p seen
  by_open [] is = absurd (none (sym (ap (λ z. sending_at z (posts_of p seen)) is) ∙ e)) where
    none : None ≡ Some s → ⊥
    none e = cc
  by_open (k ∷ o) is =
      let h = open_here p seen k o is in
      let place : open_to p seen ≡ Here h.0 ∷ o = is ∙ ap (λ z. z ∷ o) h.1 in
      let op = opened p seen h.0 o place in
      let send = send_is p seen h.0 o op.message place op.begins.deed in
      record {
        first = h.0;
        older = o;
        is = place;
        opens = op;
        corrects = ap (λ m. is_correction m.kind) (message_is (record { began = h.0.tick; posts = posts_of p seen; message = op.message }) s (sym send ∙ e)) ∙
            kind;
      }

-- a correction that node c begins to node n, at a time between
pub record BeginsBetween (low high c n : ℕ) (l : Line) (older world : List Line) (m : MessageValue) : Type 0 where
  pub posts : PostsCorrection c n l older world m
  pub begins : acting (view l.port (of (node_of l) older)) ≡ true
  pub late : low < l.did.step.at
  pub early : l.did.step.at < high

module _ {clocks : Clocks} {header : HeaderValue} {setting : Setting} (set : SetByClocks clocks header setting) (world : List Line)
    (table : ByTable header world) (whole : Given setting world) (gives : GivesUpLate world) (tables : TablesLast world) (uses : UsesOnePort header world)
    (late long t c : ℕ) (stays : ℕ → Bool) (s : List Line) (s-in : Within s world) (attended : Attended late world) (slack : late ≤ SLACK)
    (there : stays c ≡ true) (wire : OneWire header setting stays) (calm : Calm long stays s world) (delivered : Delivered setting long t stays s world)
    (brief : IsBrief setting long) (passed : (n : ℕ) (q : Port) → Owes PassFits (view q (of n world))) (range : InRange header long c s world) where
  fits : Fits setting world
  fits = whole.fits

  -- what each correction that begins finds
  abbrev pub Ready : Type 0
  Ready = (n : ℕ) (l : Line) (older : List Line) (m : MessageValue) → stays n ≡ true → (n == c) ≡ false →
      BeginsBetween (time_of (dids s) + LIFE) t c n l older world m → l.did.step.at + 2 * long < t →
      (m.kind ≡ AdjTime → Obedient header setting long l older world (peer_of n) (may_obey l m (takes_amount m.number (time_in m.body))))
      × (m.kind ≡ SetTime → Obedient header setting long l older world (peer_of n) (may_obey l m (takes_value m.number (time_in m.body))))

  module _ (l : Line) (older : List Line) (place : Within (l ∷ older) world) (since : Within s older)
      (settled : time_of (dids s) + 3 * WINDOW < l.did.step.at) (until : l.did.step.at ≤ t) (node : node_of l ≡ c) (n : ℕ) (stay : stays n ≡ true)
      (other : (n == c) ≡ false) (deed : l.did.deed ≡ Acts (Leave (peer_of n))) where
    abbrev N : ℕ
    N = node_of l

    abbrev Q : Port
    Q = l.port

    abbrev P : PeerId
    P = peer_of n

    abbrev Before : List Seen
    Before = view Q (of N older)

    line-fits : Fits setting (l ∷ older)
    line-fits = fits_at setting (l ∷ older) world fits place

    older-in : Within older world
    older-in = Within_tail l older world place

    older-fits : Fits setting older
    older-fits = fits_at setting older world fits older-in

    port : Q ≡ first_port
    port = uses l older place (wire.single N (calm.only l older place since)) (rw deed refl)

    net-same : setting.net N Q ≡ setting.net n first_port
    net-same = ap (λ q. setting.net N q) port ∙ (ap (λ k. setting.net k first_port) node ∙ sym (wire.net n c stay there))

    member : is_among P (setting.members (setting.net N Q)) ≡ true
    member = ap (λ k. is_among P (setting.members k)) net-same ∙ setting.own n first_port

    other-node : (n == N) ≡ false
    other-node = ap (λ k. n == k) node ∙ other

    here : stays N ≡ true
    here = ap stays node ∙ there

    -- a place after s
    behind : (k : Line) (w : List Line) → Within (k ∷ w) world → time_of (dids s) < k.did.step.at → Within s w
    behind k w v less = after_place setting s world fits s-in k w v less

    pub date-no : SetsDate l.did Before → ⊥
    date-no k =
        let x = took_line setting l older (Leave P) (record { from = k.from; taken = Good (Message k.message) }) line-fits deed k.took in
        let at = ap (λ (z : Step). z.at) x.step in
        let in-world : Within (x.line ∷ x.before) world = Within_through (x.line ∷ x.before) older world x.place older-in in
        let after = behind x.line x.before in-world (omega (arith, at, settled)) in
        takes-no-date setting world fits passed long stays s s-in calm x.line x.before in-world after (omega (arith, at, settled, brief)) k.from k.message
        x.deed k.kind

    -- a round that closes has a sample

    pub sample-no : Unsampled P l.did Before → ⊥
    sample-no u =
        let lc = locate N Q older u.close u.past (rw u.deed refl) (closed_at Before u.close u.past u.is) in
        let C = line_on Q u.close in
        let in-world : Within (C ∷ lc.older) world = Within_through (C ∷ lc.older) older world lc.place older-in in
        let k : CloseFits u.close (view Q (of (node_of C) lc.older)) = deed_fits setting C lc.older (Acts (Close u.count u.lo u.size u.mean)) u.deed
        (fits_in setting C lc.older world fits in-world) in
        let sa = started_at (view Q (of (node_of C) lc.older)) k.start k.idle k.start_is in
        let ls = locate (node_of C) Q lc.older k.start k.idle (rw sa.deed refl) sa.place in
        let B = line_on Q k.start in
        let soon = round_soon setting (node_of C) Q C lc.older world k.start k.idle fits in-world refl k.start_is k.soon in
        let at = ap (λ (z : Step). z.at) u.step in
        let begin-world : Within (B ∷ ls.older) world = Within_through (B ∷ ls.older) lc.older world ls.place (Within_tail C lc.older world in-world) in
        let r : ClosesSince s C lc.older world = record {
          place = in-world;
          count = u.count;
          lo = u.lo;
          size = u.size;
          mean = u.mean;
          deed = u.deed;
          begin = B;
          before = ls.older;
          began = ls.place;
          node = ls.node;
          port = refl;
          started_is = k.start_is ∙ ap (λ z. Here k.start ∷ z) (sym ls.before);
          since = behind B ls.older begin-world (omega (arith, soon, at, settled));
        } in
        let measured : is_measured P (view Q (of (node_of C) lc.older)) ≡ true = ap (λ j. is_measured P (view Q (of j lc.older))) lc.node ∙
        (ap (is_measured P) lc.before ∙ u.measured) in
        let m : Measured setting t stays C lc.older P = record {
          member = subst (λ j. is_among P (setting.members (setting.net j Q)) ≡ true) (sym lc.node) member;
          other = subst (λ j. (n == j) ≡ false) (sym lc.node) other-node;
          there = stay;
          here = subst (λ j. stays j ≡ true) (sym lc.node) here;
          told = omega (arith, at, until);
          measured = measured;
        } in
        let sampled = sampled_in_time set world table fits long t stays s delivered (brief_swift setting long brief) C lc.older r P m
        (λ line before v w is net le. subst (λ j. is_in_range line.did.tick (port_before (node_in header j) line (of j before)) ≡ true) is
        (range.clock line before v (Within_through s ls.older before r.since (Within_tail B ls.older before w)))) in
        let same : estimate P (view Q (of (node_of C) lc.older)) ≡ None = ap (λ j. estimate P (view Q (of j lc.older))) lc.node ∙
        (ap (estimate P) lc.before ∙ u.none) in
        true≢false (sym sampled ∙ ap is_some same)

    -- a correction isn't given up

    gave-no : Ready → time_of (dids s) + over_after < l.did.step.at → GaveCorrection P l.did Before → ⊥
    gave-no ready over g =
        let lg = locate N Q older g.gave g.older (rw g.deed refl) (subst (λ z. Within (Here g.gave ∷ g.older) z) (sym g.is)
        (Within_all (Here g.gave ∷ g.older))) in
        let G = line_on Q g.gave in
        let in-world : Within (G ∷ lg.older) world = Within_through (G ∷ lg.older) older world lg.place older-in in
        let gave-fits = fits_at setting (G ∷ lg.older) world fits in-world in
        let at = ap (λ (z : Step). z.at) g.step in
        let oc = open_correction P g.older g.sending g.open_is g.kind in
        let lf = locate N Q lg.older oc.first oc.older (rw oc.opens.begins.deed refl)
        (subst (λ z. Within (Here oc.first ∷ oc.older) z) (sym lg.before) oc.opens.place) in
        let F = line_on Q oc.first in
        let m = oc.opens.message in
        let first-world : Within (F ∷ lf.older) world = Within_through (F ∷ lf.older) lg.older world lf.place (Within_tail G lg.older world in-world) in
        let open-there : open_to P (view Q (of N lg.older)) ≡ Here oc.first ∷ oc.older = ap (open_to P) lg.before ∙ oc.is in
        let young = send_young setting late lg.older gave-fits.1 (Everywhere_within _ lg.older world (sends_end setting late world fits attended)
        (Within_tail G lg.older world in-world)) N Q P oc.first oc.older open-there in
        let tick = same_tick setting G lg.older (Gave P) g.deed gave-fits.0 gave-fits.1 in
        let tick_g = tick_in setting (node_of G) G lg.older world fits refl in-world in
        let tick_f = tick_in setting N F lf.older world fits lf.node first-world in
        let same-node : newest (of (node_of G) lg.older) ≡ newest (of N lg.older) = ap (λ j. newest (of j lg.older)) lg.node in
        let same-tick : setting.tick (node_of G) g.gave.step.at ≡ setting.tick N g.gave.step.at = ap (λ j. setting.tick j g.gave.step.at) lg.node in
        let order : oc.first.step.at ≤ g.gave.step.at = place_time setting (F ∷ lf.older) (G ∷ lg.older) gave-fits (inr lf.place) in
        let n1 = near setting N oc.first.step.at g.gave.step.at order in
        let least = n1.least in
        let begun-late : time_of (dids s) + LIFE < oc.first.step.at =
        omega (arith, young, tick, tick_g, tick_f, same-node, same-tick, least, at, over, slack) in
        let old : IsOld P g.gave g.older = subst (λ d. GaveFits d g.gave g.older) g.deed (owes_at GaveFits g.gave g.older (view Q (of N world)) (seen-gave g)
        (gives N Q)) in
        let send = send_is P g.older oc.first oc.older m oc.is oc.opens.begins.deed in
        let began : old.sending.began ≡ oc.first.tick = began_is old.sending (record { began = oc.first.tick; posts = posts_of P g.older; message = m })
        (sym old.open_is ∙ send) in
        let age = old.old in
        let prompt = brief_prompt setting long brief in
        let apart : oc.first.step.at + 2 * long < g.gave.step.at = elim (cases_lt (oc.first.step.at + 2 * long) g.gave.step.at) [
          | inl less ↦ less
          | inr none ↦
              let mono = tick_mono setting N g.gave.step.at (oc.first.step.at + 2 * long) (omega (arith, none)) in
              let fast = (setting.ticks N).fast oc.first.step.at (2 * long) in
              absurd (omega (arith, age, began, tick_g, tick_f, same-tick, mono, fast, prompt))
        ] in
        let after = behind F lf.older first-world (omega (arith, begun-late)) in
        let asks : Asks setting long t stays s F lf.older world P (Message m) = record {
          posts = record {
            place = first-world;
            deed = oc.opens.begins.deed;
            member = subst (λ j. is_among P (setting.members (setting.net j Q)) ≡ true) (sym lf.node) member;
            other = subst (λ j. (n == j) ≡ false) (sym lf.node) other-node;
          };
          since = after;
          there = stay;
          here = subst (λ j. stays j ≡ true) (sym lf.node) here;
          early = omega (arith, apart, at, until);
        } in
        let begins : acting (view Q (of (node_of F) lf.older)) ≡ true = ap (λ j. acting (view Q (of j lf.older))) lf.node ∙
        (ap acting lf.before ∙ oc.opens.begins.begins) in
        let leads : role (view Q (of (node_of F) lf.older)) ≡ Master = (post_fits setting (node_of F) F lf.older P m
        (fits_in setting F lf.older world fits first-world)
        refl oc.opens.begins.deed oc.corrects).leads in
        let sends : Begins is_up_role F lf.older = record { begins = begins; role_is = ap is_up_role leads } in
        let r = ready n F lf.older m stay other (record {
          posts = record { place = first-world; node = lf.node ∙ node; deed = oc.opens.begins.deed; kind = oc.corrects };
          begins = begins;
          late = begun-late;
          early = omega (arith, apart, at, until);
        }) (omega (arith, apart, at, until)) in
        let acks = acked_in_time set world table fits gives long t stays s delivered prompt in
        let kept : NeverGivenUp P (Here oc.first ∷ view Q (of (node_of F) lf.older)) (view Q (of (node_of F) world)) =
        elim (corrects_which m.kind oc.corrects) [
          | inl kind ↦ (acks.adjtimes F lf.older P m asks kind sends (r.0 kind)).kept
          | inr kind ↦ (acks.settimes F lf.older P m asks kind sends (r.1 kind)).kept
        ] in
        let kept-here : NeverGivenUp P (Here oc.first ∷ view Q (of N lf.older)) (view Q (of N world)) =
        subst (λ j. NeverGivenUp P (Here oc.first ∷ view Q (of j lf.older)) (view Q (of j world))) lf.node kept in
        kept-here g.gave g.older (seen-gave g) g.deed (oc.is ∙ ap (λ z. Here oc.first ∷ z) (sym lf.before))
      where
        began_is : (a b : Sending) → Some a ≡ Some b → a.began ≡ b.began
        began_is a b e = ap kept e where
          kept : Option Sending → ℕ
          kept None = a.began
          kept (Some z) = z.began

        seen-gave : (g : GaveCorrection P l.did Before) → Within (Here g.gave ∷ g.older) (view Q (of N world))
        seen-gave g = subst (λ z. Within z (view Q (of N world))) g.is
            (Within_tail (Here l.did) Before (view Q (of N world)) (seen_in N l older world refl place))

    leave-no : Ready → time_of (dids s) + over_after < l.did.step.at → ⊥
    leave-no ready over =
        let fit : LeavesFor P l.did Before = subst (λ d. TableFits d l.did Before) deed
        (owes_at TableFits l.did Before (view Q (of N world)) (seen_in N l older world refl place) (tables N Q)) in
        elim fit [
          | inl g ↦ gave-no ready over g
          | inr (inl u) ↦ sample-no u
          | inr (inr k) ↦ date-no k
        ]

  pub none_leaves : Ready → NoneLeaves t stays c s world
  none_leaves ready l older place since settled until node n stay other deed =
      leave-no l older place since (omega (arith, settled)) until node n stay other deed ready settled
