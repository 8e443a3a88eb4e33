-- In a network that follows its master, a follower's clock is moved by a round of the master: soon after its Close, and not again until the next.
use Rattle.std.proofs.Common.{sym, ap, subst, subst₂, arith, inl, inr, ◌∙◌, ◌≡◌, ◌≤◌, ◌<◌, ◌⊎◌, ℕ, ◌+◌, ◌==◌, ℤ, Bool, true, false, List}
use Rattle.std.proofs.Common.{◌∷◌, Some, is_some, refl}
use Rattle.tsp_rules.specs.Values.{AdjTime, Close, Correct, Follow, Good, Master, Message, Peer, PeerId, Role}
use Rattle.tsp_base.specs.Words.{Acts, Did, Here, Line, MessageValue, Seen, Undisturbed, Within, all_corrects, dids, first_port, heard, is_shared}
use Rattle.tsp_base.specs.Words.{of, peer_of, plain, role, taken, time_of, view}
use Rattle.tsp_base.proofs.{PlaceLemmas.Within_all, PlaceLemmas.Within_comparable, PlaceLemmas.Within_tail, PlaceLemmas.Within_through, Views.plain_view}
use Rattle.tsp_promises.specs.{Agreed.FromRound, CorrectFits.CorrectFits, CorrectFits.WhyCorrect, CorrectFits.ByDate, CorrectFits.ByMaster, CorrectFits.ByRound}
use Rattle.tsp_promises.specs.{CorrectionFits.AnswersSlaveUp, CorrectionFits.AtClose, Fits.Fits, Fits.node_of, Once.Obeys, Once.ObeysAt, OneError.OneErrorAt}
use Rattle.tsp_promises.specs.{OneError.SourceReading, OneError.Taking, Setting.Setting, Setting.setup_of}
use Rattle.tsp_promises.proofs.{promised.KnownProof.line_is, promised.OnceObeyedProof.once_obeyed, promised.OnceObeyedProof.round_leads}
use Rattle.tsp_promises.proofs.{promised.OneErrorProof.one_error, promised.SendProof.number-same, promised.SendProof.numbered, promised.SinceProof.since}
use Rattle.tsp_promises.proofs.promised.OwnFitsProof.{Given, deed_fits, fits_at, given_at, locate, own_fits, place_time, seen_same}
use Rattle.tsp_promises.proofs.promised.TakingProof.{BegunFacts, ReadFacts, begun_facts, read_facts, round_soon}
use Rattle.tsp_promises.proofs.{shared.EverywhereLemmas.Everywhere_at, shared.HistoryPlaces.Within_of, shared.HistoryPlaces.line_on}
use Rattle.tsp_promises.proofs.{shared.HistoryPlaces.of_own, shared.RoundPlaces.best_at, shared.SendPlaces.SendPlace, shared.SendPlaces.send_place}
use Rattle.tsp_progress.specs.{FollowOn.Calm, FollowOn.FollowUntil, InTable.SetsNone, LateClose.LateClose, LateClose.OfRound}
use Rattle.tsp_progress.proofs.LateCloses.{adjusts, after_time, close_apart}

follows_not : {A : Type 0} (p : PeerId) (r : Role) → r ≡ Follow p → r ≡ Master → A
follows_not p r e m = let bad : Follow p ≡ Master = sym e ∙ m in let no : ⊥ = cc in absurd no

-- an ADJTIME doesn't begin for a SLAVEUP
no_slaveup : (first : Did) (begun : List Seen) (p : PeerId) (m k : MessageValue) → m.kind ≡ AdjTime → taken begun ≡ Some (record {
  from = Peer p;
  taken = Good (Message k);
}) → AnswersSlaveUp begun p m ⊎ AtClose first begun p m → ⊥
no_slaveup first begun p m k kind took (inl s) = let bad : ⊥ = (let e = sym kind ∙ s.sets in cc) in bad
no_slaveup first begun p m k kind took (inr a) = let bad : ⊥ = (let e = sym a.is.untaken ∙ took in cc) in bad

module _ (setting : Setting) (world : List Line) (whole : Given setting world) (long t c : ℕ) (stays : ℕ → Bool) (s : List Line) (s-in : Within s world)
    (calm : Calm long stays s world) (follow : FollowUntil stays c t s world) (sets : SetsNone c s world)
    (first : (l : Line) (older : List Line) → Within (l ∷ older) world → node_of l ≡ c → is_shared l.did.deed ≡ false → l.port ≡ first_port) where
  -- a Correct of a follower rests on a reading of a round
  module _ (K : Line) (W : List Line) (place : Within (K ∷ W) world) (since-s : Within s W) (until : K.did.step.at ≤ t) (other : (node_of K == c) ≡ false)
      (port : K.port ≡ first_port) (amount : ℤ) (stepped : Bool) (shown : ℤ) (deed : K.did.deed ≡ Acts (Correct amount stepped shown))
      (late : time_of (dids s) + long < K.did.step.at) where
    abbrev N : ℕ
    N = node_of K

    k-fits : Fits setting (K ∷ W)
    k-fits = fits_at setting (K ∷ W) world whole.fits place

    follows : role (view K.port (of N W)) ≡ Follow (peer_of c)
    follows =
        let order = k-fits.0.order in
        let here = (follow W (Within_tail K W world place) since-s (omega (arith, order, until))).follow N (calm.only K W place since-s) other in
        subst (λ q. role (view q (of N W)) ≡ Follow (peer_of c)) (sym port) here

    owes : CorrectFits (setup_of setting N K.port) K.did (view K.port (of N W)) amount stepped shown
    owes = deed_fits setting K W (Acts (Correct amount stepped shown)) deed k-fits.0

    obeys : Obeys setting K W amount (peer_of c)
    obeys = Everywhere_at (ObeysAt setting) K W world (once_obeyed setting world whole.fits whole.honest) place (peer_of c) amount stepped shown deed follows

    took : is_some (heard (dids (of N W))) ≡ true
    took = by_why owes.why where
      by_why : WhyCorrect (setup_of setting N K.port) K.did (view K.port (of N W)) amount → is_some (heard (dids (of N W))) ≡ true
      by_why (ByRound k) = follows_not (peer_of c) (role (view K.port (of N W))) follows (round_leads setting N K.port W amount k-fits.1 k)
      by_why (ByMaster k) = ap (λ ds. is_some (heard ds)) (sym (plain_view K.port (of N W))) ∙ (ap (λ v. is_some (heard (plain v))) k.is
          ∙ rw k.deed refl)
      by_why (ByDate k) = follows_not (peer_of c) (role (view K.port (of N W))) follows k.leads

    abbrev Post-line : Line
    Post-line = obeys.post

    abbrev M : MessageValue
    M = obeys.brings.message

    post-in : Within (Post-line ∷ obeys.older) world
    post-in = Within_through (Post-line ∷ obeys.older) W world obeys.brings.place (Within_tail K W world place)

    post-node : node_of Post-line ≡ c
    post-node = number-same (node_of Post-line) c obeys.from

    post_soon : K.did.step.at ≤ Post-line.did.step.at + long
    post_soon = calm.soon K W place since-s Post-line obeys.older (Peer (peer_of N)) (Message M) obeys.brings.place obeys.brings.deed obeys.brings.cause

    post-since : Within s obeys.older
    post-since = after_time setting world whole.fits s s-in Post-line obeys.older post-in (let soon = post_soon in omega (arith, soon, late))

    kind : M.kind ≡ AdjTime
    kind = adjusts M.kind obeys.kind (sets Post-line obeys.older post-in post-since post-node (peer_of N) M obeys.brings.deed)

    send : SendPlace (node_of Post-line) N Post-line obeys.older M
    send = send_place setting (node_of Post-line) N Post-line obeys.older M (fits_at setting (Post-line ∷ obeys.older) world whole.fits post-in) refl
        obeys.brings.deed (numbered M.kind obeys.kind)

    abbrev taking : Taking c K W
    taking = record {
      post = Post-line;
      before = obeys.older;
      acts = record { amount = amount; stepped = stepped; shown = shown; correct = deed; brings = obeys.brings; took = took };
      kind = obeys.kind;
      node = post-node;
      first = send.first;
      begun = view Post-line.port (of (node_of Post-line) send.fw);
      of_send = record { message = M; deed = obeys.brings.deed; numbered = numbered M.kind obeys.kind; is = send.is };
    }

    facts : BegunFacts c K W taking
    facts = begun_facts setting c K W k-fits taking

    one : OneErrorAt K W
    one = Everywhere_at OneErrorAt K W world (one_error setting world whole) place

    reading : SourceReading c K W taking
    reading = elim (one.source c taking) [
      | inl r ↦ r
      | inr k ↦ absurd (no_slaveup taking.first taking.begun (peer_of N) M k.is.message kind k.is.took facts.fits.from)
    ]

    read : ReadFacts setting c K W taking reading.close reading.cpast reading.r reading.older reading.is.sample
    read = read_facts setting c K W (given_at setting (K ∷ W) world whole place) taking facts reading.close reading.cpast reading.r reading.older reading.is

    rests : FromRound c reading.close reading.cpast K W reading.r reading.older reading.is.sample.err
    rests = record {
      post = Post-line;
      before = obeys.older;
      acts = taking.acts;
      node = post-node;
      first = send.first;
      begun = taking.begun;
      of_send = taking.of_send;
      message = M;
      begins = send.sends.deed;
      kind = kind;
      closes = reading.is.closes;
      close_node = reading.is.close_node;
      close_port = reading.is.close_port;
      close_is = reading.is.close_is;
      sample = reading.is.sample;
      best_is = reading.is.best_is;
      err_is = refl;
      reading = reading.is.reading;
    }

    left : Undisturbed (dids (of N (reading.r ∷ reading.older))) (dids (of N W))
    left = one.by_reading c taking reading.close reading.cpast reading.r reading.older reading.is

    -- the reading stands before its Close
    reads-before : Within (reading.r ∷ reading.older) reading.cpast
    reads-before =
        let q = Post-line.port in
        let rd = reading.is.reading in
        let seen = view q (of c reading.cpast) in
        let b = best_at (peer_of N) seen reading.is.sample reading.is.best_is in
        let l = locate c q reading.cpast b.did b.rest (rw b.deed refl) b.place in
        let cpast-in : Within reading.cpast W = Within_tail reading.close reading.cpast W reading.is.closes in
        let rd-line : line_on q rd.line.did ≡ rd.line = line_is rd.line q rd.port in
        let same : line_on q b.did ∷ l.older ≡ line_on q rd.line.did ∷ rd.before = seen_same c q q b.did rd.line.did l.older rd.before W l.node
        rd.node (Within_through (line_on q b.did ∷ l.older) reading.cpast W l.place cpast-in)
        (subst (λ k. Within (k ∷ rd.before) W) (sym rd-line) rd.at) (ap (λ z. Here b.did ∷ z) l.before ∙ (sym b.is ∙ rd.is)) in
        let at : Within (line_on q rd.line.did ∷ rd.before) reading.cpast = subst (λ (z : List Line). Within z reading.cpast) same l.place in
        Within_through (reading.r ∷ reading.older) rd.before reading.cpast rd.reads (Within_tail (line_on q rd.line.did) rd.before reading.cpast at)

    close-in : Within (reading.close ∷ reading.cpast) world
    close-in = Within_through (reading.close ∷ reading.cpast) W world reading.is.closes (Within_tail K W world place)

    w-fits : Fits setting W
    w-fits = k-fits.1

    -- how long ago
    reading-young : reading.close.did.step.at ≤ reading.r.did.step.at + 9009011
    reading-young =
        let u = read.used.from in
        let soon = round_soon setting c Post-line.port reading.close reading.cpast W u.start u.idle w-fits reading.is.closes reading.is.close_node
        u.start_is u.soon in
        let after = read.read.after in
        omega (arith, soon, after)

    -- soon after a Close it is of that round
    module _ (C : Line) (cp : List Line) (r : LateClose long t c s C cp world) (after : Within (C ∷ cp) W) (soon : K.did.step.at ≤ C.did.step.at + long)
        (short : long ≤ 4000000) where
      same-close : reading.close ∷ reading.cpast ≡ C ∷ cp
      same-close =
          let u = read.used.from in
          elim (close_apart setting world whole.fits long t c stays s s-in calm first C cp r reading.close reading.cpast close-in reading.is.close_node u.count
          u.lo
          u.size read.used.mean u.deed) [
            | inl e ↦ e
            | inr (inl k) ↦
                let far = k.1 in
                let at = u.at in
                let posted = send.soon in
                let taken = post_soon in
                let order = place_time setting (C ∷ cp) W w-fits after in
                let now = k-fits.0.order in
                absurd (omega (arith, far, at, posted, taken, order, now, short))
            | inr (inr k) ↦
                let far = k.1 in
                let order = place_time setting (reading.close ∷ reading.cpast) W w-fits reading.is.closes in
                let now = k-fits.0.order in
                absurd (omega (arith, far, order, now, soon, short))
          ]

      -- which rests on a reading after the place s
      pub of_round : OfRound s c C cp K W
      of_round =
          let close-is : reading.close ≡ C = (let e = same-close in cc) in
          let past-is : reading.cpast ≡ cp = (let e = same-close in cc) in
          let young : C.did.step.at ≤ reading.r.did.step.at + 9009011 = subst (λ (z : Line). z.did.step.at ≤ reading.r.did.step.at + 9009011) close-is
          reading-young in
          let r-in : Within (reading.r ∷ reading.older) world = Within_through (reading.r ∷ reading.older) reading.cpast world reads-before
          (Within_tail reading.close reading.cpast world close-in) in
          record {
            reading = reading.r;
            older = reading.older;
            err = reading.is.sample.err;
            rests = subst₂ (λ y z. FromRound c y z K W reading.r reading.older reading.is.sample.err) close-is past-is rests;
            since = after_time setting world whole.fits s s-in reading.r reading.older r-in (let late_close = r.late in omega (arith, young, late_close));
            young = young;
          }

    -- and it isn't moved a second time until the next Close
    module _ (C : Line) (cp : List Line) (c-in : Within (C ∷ cp) world)
        (none : (D : Line) (dp : List Line) (count : ℕ) (lo size mean : ℤ) → Within (D ∷ dp) W → Within (C ∷ cp) dp → node_of D ≡ c →
        D.did.deed ≡ Acts (Close count lo size mean) → ⊥)
        (J : Line) (V : List Line) (before : Within (J ∷ V) W) (after : Within (C ∷ cp) V) (node : node_of J ≡ N) (a : ℤ) (b : Bool) (x : ℤ)
        (moved : J.did.deed ≡ Acts (Correct a b x)) where
      reads-c : Within (reading.close ∷ reading.cpast) (C ∷ cp) → Within (reading.r ∷ reading.older) V
      reads-c w = Within_through (reading.r ∷ reading.older) (reading.close ∷ reading.cpast) V (inr reads-before)
          (Within_through (reading.close ∷ reading.cpast) (C ∷ cp) V w after)

      twice : Within (reading.r ∷ reading.older) V → ⊥
      twice w =
          let low = (since setting (of N (reading.r ∷ reading.older)) (of N V) (own_fits setting N V (fits_at setting V W w-fits (Within_tail J V W before)))
          (Within_of N (reading.r ∷ reading.older) V w)).all in
          let high = (since setting (of N (J ∷ V)) (of N W) (own_fits setting N W w-fits) (Within_of N (J ∷ V) W before)).all in
          let own : of N (J ∷ V) ≡ J ∷ of N V = of_own N J V node in
          let more : all_corrects (dids (of N (J ∷ V))) ≡ all_corrects (dids (of N V)) + 1 = ap (λ ls. all_corrects (dids ls)) own ∙ rw moved refl in
          let same = left.corrects in
          omega (arith, low, high, more, same)

      pub not_again : ⊥
      not_again =
          let u = read.used.from in
          elim (Within_comparable (reading.close ∷ reading.cpast) (C ∷ cp) world close-in c-in) [
            | inl w ↦ twice (reads-c w)
            | inr (inl e) ↦ twice (reads-c (subst (λ z. Within z (C ∷ cp)) e (Within_all (C ∷ cp))))
            | inr (inr w) ↦ none reading.close reading.cpast u.count u.lo u.size read.used.mean reading.is.closes w reading.is.close_node u.deed
          ]
