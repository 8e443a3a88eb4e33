-- A follower's clock is moved only as its master says. Corrects of a node stand apart. A date is set at a master, to
-- the time that was taken.
use Rattle.std.proofs.Common.{arith, subst, ◌≡◌, ◌≤◌, ◌+◌, List, ◌∷◌, refl, sym, ap, inl, ◌∙◌, ℕ, ℤ, Bool, true, false, ◌-ℤ◌, Some}
use Rattle.tsp_rules.specs.Values.{Correct, GAP, Close, Message, PeerId, Port, Follow, Master, Good, Place, Peer}
use Rattle.tsp_base.specs.Words.{Acts, Line, of, dids, last_correct, Here, view, plain, is_shared, target, up, Within, role, time_in, MessageValue, Received}
use Rattle.tsp_base.specs.Words.{message_in, is_correction, sets_date, heard}
use Rattle.tsp_base.proofs.Views.{plain_view}
use Rattle.tsp_promises.specs.Once.{SpacedAt, SpacedOverLivesAt, OnceSpaced, OnceSpacedOverLives, Obeys, ObeysAt, OnceObeyed}
use Rattle.tsp_promises.specs.CorrectFits.{WhyCorrect, ByRound, ByMaster, ByDate, EndsRound, amount_of}
use Rattle.tsp_promises.specs.{ClockAt.clock_at, Fits.Fits, Fits.node_of, Fits.LineFits, Fits.Alive, Premises.Honest, Premises.HonestAt}
use Rattle.tsp_promises.{proofs.promised.KnownProof.known, specs.Dated.SetsAt, specs.Dated.SetsClock, specs.Setting.Setting, specs.Setting.setup_of}
use Rattle.tsp_promises.proofs.{promised.OnceTakenProof.taken_of, promised.OnceTakenProof.no_correction, shared.HistoryPlaces.line_on}
use Rattle.tsp_promises.proofs.{promised.OwnFitsProof.locate, promised.OwnFitsProof.fits_in}
use Rattle.tsp_promises.proofs.{shared.EverywhereLemmas.Everywhere_from, shared.EverywhereLemmas.Everywhere_within, shared.HistoryPlaces.own_in}
use Rattle.tsp_promises.proofs.{promised.ClockProof.target_is, promised.OwnFitsProof.own_fits, promised.OwnFitsProof.fits_at, promised.OwnFitsProof.deed_fits}
use Rattle.tsp_promises.proofs.{promised.SinceProof.since}

spaced_over_at : (setting : Setting) (l : Line) (world : List Line) → Fits setting (l ∷ world) → SpacedOverLivesAt l world
spaced_over_at setting l world f other older a b s t x y is w node other_is =
    let n = node_of l in
    let i = since setting (other ∷ of n older) (of n world) (own_fits setting n world f.1) (own_in n other older world node w) in
    let fits = deed_fits setting l world (Acts (Correct a s x)) is f.0 in
    let gap : last_correct (dids (of n world)) + GAP ≤ l.did.tick = subst (λ k. last_correct k + GAP ≤ l.did.tick) (plain_view l.port (of n world)) fits.gap in
    let here : last_correct (dids (other ∷ of n older)) ≡ other.did.tick = rw other_is refl in
    omega (arith, i.lasts)

-- every two Corrects of a node
pub once_spaced_over_lives : (setting : Setting) (world : List Line) → Fits setting world → OnceSpacedOverLives world
once_spaced_over_lives setting world f = Everywhere_from SpacedOverLivesAt world (λ l s w. spaced_over_at setting l s (fits_at setting (l ∷ s) world f w))

-- and so in one life
pub once_spaced : (setting : Setting) (world : List Line) → Fits setting world → OnceSpaced world
once_spaced setting world f = Everywhere_from SpacedAt world (λ l s w other older a b r t x y is i node other_is lives. spaced_over_at setting l s
    (fits_at setting (l ∷ s) world f w) other older a b r t x y is i node other_is)

-- a round is closed by a master
pub round_leads : (setting : Setting) (n : ℕ) (q : Port) (world : List Line) (amount : ℤ) → Fits setting world →
    EndsRound (setup_of setting n q) (view q (of n world)) amount → role (view q (of n world)) ≡ Master
round_leads setting n q world amount f r =
    let shared : is_shared r.close.deed ≡ false = rw r.deed refl in
    let l = locate n q world r.close r.past shared (subst (λ s. Within (Here r.close ∷ r.past) s) (sym r.is) (inl refl)) in
    let fits = fits_in setting (line_on q r.close) l.older world f l.place in
    let leads : role (view q (of n l.older)) ≡ Master = subst (λ k. role (view q (of k l.older)) ≡
    Master) l.node (deed_fits setting (line_on q r.close) l.older (Acts (Close r.count r.lo r.size amount)) r.deed fits).leads in
    ap role r.is ∙ (rw r.deed (ap role (sym l.before) ∙ leads))

pub correct_up : (setting : Setting) (l : Line) (world : List Line) (amount : ℤ) (stepped : Bool) (shown : ℤ) → LineFits setting l world → l.did.deed ≡
    Acts (Correct amount stepped shown) → up (dids (of (node_of l) world)) ≡ true
correct_up setting l world amount stepped shown f e = subst (λ k. Alive setting k l.did (dids (of (node_of l) world))) e f.alive

obeys_by : (setting : Setting) (l : Line) (world : List Line) (q : PeerId) (amount : ℤ) (stepped : Bool) (shown : ℤ) → Fits setting (l ∷ world) →
    Honest (l ∷ world) → l.did.deed ≡ Acts (Correct amount stepped shown) →
    role (view l.port (of (node_of l) world)) ≡ Follow q → WhyCorrect (setup_of setting (node_of l) l.port) l.did (view l.port (of (node_of l) world)) amount →
    Obeys setting l world amount q
obeys_by setting l world q amount stepped shown f h is follows (ByRound r) =
    let leads = round_leads setting (node_of l) l.port world amount f.1 r in
    let bad : ⊥ = (let k : Follow q ≡ Master = sym follows ∙ leads in cc) in absurd bad
obeys_by setting l world q amount stepped shown f h is follows (ByDate t) = let bad : ⊥ = (let k : Follow q ≡ Master = sym follows ∙ t.leads in cc) in
    absurd bad
obeys_by setting l world q amount stepped shown f h is follows (ByMaster t) =
    let seen = view l.port (of (node_of l) world) in
    let took = taken_of l.did seen amount t in
    let k = known setting l world (Correct amount stepped shown) t.from (Message t.message) f h is took in
    let from : t.from ≡ q = same_master t.from q (sym t.follows ∙ follows) in
    let clock : target (plain seen) l.did.tick ≡ clock_at setting (node_of l) world l.did.step.at =
    ap (λ ds. target ds l.did.tick) (plain_view l.port (of (node_of l) world)) ∙ sym
    (target_is setting l world f (correct_up setting l world amount stepped shown f.0 is)) in
    record {
      post = k.post;
      older = k.older;
      brings = record { place = k.place; cause = k.takes; message = t.message; deed = k.deed };
      from = k.node ∙ from;
      kind = t.kind;
      amount_is = t.amount_is ∙ ap (λ z. amount_of t.message.kind (time_in t.message.body) z) clock;
    }
  where
    same_master : (p q : PeerId) → Follow p ≡ Follow q → p ≡ q
    same_master p q e = cc

pub once_obeyed : (setting : Setting) (world : List Line) → Fits setting world → Honest world → OnceObeyed setting world
once_obeyed setting world f h = Everywhere_from (ObeysAt setting) world (λ l s w q amount stepped shown is follows.
    let g = fits_at setting (l ∷ s) world f w in
    obeys_by setting l s q amount stepped shown g (Everywhere_within HonestAt (l ∷ s) world h w) is follows
    (deed_fits setting l s (Acts (Correct amount stepped shown)) is g.0).why)

-- what was taken, by its sender and its message
abbrev received : Place → MessageValue → Received
received from m = record { from = from; taken = Good (Message m) }

same_message : (p q : Place) (m n : MessageValue) → Some (received p m) ≡ Some (received q n) → m ≡ n
same_message p q m n e =
    let r : Received = received q n in
    let same : received p m ≡ r = cc in
    let both : Some m ≡ Some n = ap (λ (z : Received). message_in z.taken) same in
    cc

sets_by : (setting : Setting) (l : Line) (world : List Line) (amount : ℤ) (stepped : Bool) (shown : ℤ) (from : Place) (m : MessageValue) →
    Fits setting (l ∷ world) → l.did.deed ≡ Acts (Correct amount stepped shown) →
    heard (plain (view l.port (of (node_of l) world))) ≡ Some (record { from = from; taken = Good (Message m) }) → sets_date m.kind ≡ true →
    WhyCorrect (setup_of setting (node_of l) l.port) l.did (view l.port (of (node_of l) world)) amount → SetsClock setting l world amount m
sets_by setting l world amount stepped shown from m f deed took kind (ByRound r) = let bad : ⊥ = (let e = sym r.untaken ∙ took in cc) in absurd bad
sets_by setting l world amount stepped shown from m f deed took kind (ByMaster t) =
    let here : heard (plain (view l.port (of (node_of l) world))) ≡ Some (record { from = Peer t.from; taken = Good (Message t.message) }) =
    ap (λ s. heard (plain s)) t.is ∙ rw t.deed refl in
    let same = same_message (Peer t.from) from t.message m (sym here ∙ took) in
    absurd (no_correction m.kind kind (subst (λ (z : MessageValue). is_correction z.kind ≡ true) same t.kind))
sets_by setting l world amount stepped shown from m f deed took kind (ByDate t) =
    let seen = view l.port (of (node_of l) world) in
    let here : heard (plain seen) ≡ Some (record { from = t.from; taken = Good (Message t.message) }) = ap (λ s. heard (plain s)) t.is ∙ rw t.deed refl in
    let same = same_message t.from from t.message m (sym here ∙ took) in
    let clock : target (plain seen) l.did.tick ≡ clock_at setting (node_of l) world l.did.step.at =
    ap (λ ds. target ds l.did.tick) (plain_view l.port (of (node_of l) world)) ∙ sym
    (target_is setting l world f (correct_up setting l world amount stepped shown f.0 deed)) in
    record {
      leads = t.leads;
      amount_is = t.amount_is ∙ ap (λ (z : MessageValue). time_in z.body -ℤ target (plain seen) l.did.tick) same ∙
          ap (λ c. time_in m.body -ℤ c) clock;
    }

pub sets_at : (setting : Setting) (l : Line) (world : List Line) → Fits setting (l ∷ world) → SetsAt setting l world
sets_at setting l world f amount stepped shown from m deed took kind =
    sets_by setting l world amount stepped shown from m f deed (ap heard (plain_view l.port (of (node_of l) world)) ∙
    took) kind (deed_fits setting l world (Acts (Correct amount stepped shown)) deed f.0).why

-- for the theorem
pub ruleset all_spaced = (once_spaced, once_spaced_over_lives)
