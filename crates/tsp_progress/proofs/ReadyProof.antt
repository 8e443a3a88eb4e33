-- A correction that a master begins finds its follower ready: the follower may take it, or took its number last.
use Rattle.std.proofs.Common.{sym, ap, subst, arith, inl, inr, ◌∙◌, ◌≡◌, ◌≤◌, ◌<◌, ◌⊎◌, ℕ, ◌+◌, ◌*◌, ◌==◌}
use Rattle.std.proofs.Common.{◌||◌, Bool, true, false, List, [], ◌∷◌, Some, eq-eqb, eqb-true, ℤ, neg_ℤ, int_lt, refl}
use Rattle.std.proofs.lemmas.{Bool.cases_lt, Bool.or_right}
use Rattle.tsp_rules.specs.Values.{Boot, Correct, Post, AdjTime, SetTime, Message, Good, Peer, PeerId, Follow, GAP}
use Rattle.tsp_rules.specs.Values.{LIFE, LIMIT}
use Rattle.tsp_rules.specs.{GateRows.steers, Guards.is_clock_value, Guards.is_follow, SlaveRows.is_by, SlaveRows.is_next, SlaveRows.is_repeated}
use Rattle.tsp_rules.specs.{SlaveRows.takes_amount}
use Rattle.tsp_rules.specs.{ClockRows.can_adjust, SlaveRows.takes_value}
use Rattle.tsp_base.specs.Words.{Acts, Deed, HeaderValue, Here, Line, MessageValue, Past, Within, acting, correct_tick, correcting_of}
use Rattle.tsp_base.specs.Words.{corrects, dids, first_port, is_correction, is_past, last_correct, last_taken, last_taken_after, of, peer_of, plain, role, said}
use Rattle.tsp_base.specs.Words.{open_to, taken, ticket, time_in, time_of, view, word}
use Rattle.tsp_base.proofs.{PlaceLemmas.Within_all, PlaceLemmas.Within_comparable, PlaceLemmas.Within_length, PlaceLemmas.Within_tail}
use Rattle.tsp_base.proofs.{PlaceLemmas.Within_through, Views.plain_view}
use Rattle.tsp_promises.specs.{CorrectFits.CorrectFits, CorrectFits.TakesCorrection}
use Rattle.tsp_promises.specs.{CorrectionFits.BeginFits}
use Rattle.tsp_promises.specs.{Fits.Fits, Fits.node_of, Once.OnceConfirmed, Setting.Setting, Setting.setup_of}
use Rattle.tsp_promises.proofs.{promised.ConfirmedProof.once_confirmed, promised.SameSendProof.same_send}
use Rattle.tsp_promises.proofs.{promised.SourceProof.Source, promised.SourceProof.source, promised.SendProof.CorrectsTo}
use Rattle.tsp_promises.proofs.{shared.Clocks.near, shared.Clocks.tick_mono, shared.HistoryPlaces.line_on}
use Rattle.tsp_promises.proofs.{shared.HistoryPlaces.of_own, shared.SendPlaces.post_fits}
use Rattle.tsp_promises.proofs.{shared.SendPlaces.send_place, promised.KnownProof.line_is}
use Rattle.tsp_promises.proofs.promised.OwnFitsProof.{Given, deed_fits, fits_at, fits_in, given_at, place_time, tick_in}
use Rattle.tsp_run.specs.Clocked.{Clocks, SetByClocks}
use Rattle.tsp_progress.specs.{AckedInTime.may_obey, ByTable.before_line, ByTable.node_in, ByTable.port_before}
use Rattle.tsp_progress.specs.{FollowOn.Calm, FollowOn.FollowUntil, FollowOn.role_of, Heeds.role_before, MovedBy.FromMaster, Obedient.Obedient}
use Rattle.tsp_progress.specs.{OnePort.UsesOnePort, OneWire.OneWire}
use Rattle.tsp_progress.specs.StaysIn.{InRange, IsBrief}
use Rattle.tsp_progress.specs.CorrectsApart.{CorrectsApart}
use Rattle.tsp_progress.proofs.{FollowHeard.first_steers, MovedByProof.moved_by_master, MovedByProof.takes_correction, ReportsProof.seen_first, SendKept.opens}
use Rattle.tsp_progress.proofs.PortSetups.{differ}
use Rattle.tsp_progress.proofs.{TookPlaces.after_place}
use Rattle.tsp_progress.proofs.StaysProof.{BeginsBetween, correction_numbered}
use Rattle.tsp_progress.proofs.ReadyLemmas.{CorrectLine, LeftAlone, correct_line, left_alone, less_int, other_line, past_gap, same_peers, small_number}

module _ {clocks : Clocks} {header : HeaderValue} {setting : Setting} (set : SetByClocks clocks header setting) (world : List Line)
    (whole : Given setting world) (uses : UsesOnePort header world) (long t c : ℕ) (stays : ℕ → Bool) (s : List Line) (s-in : Within s world)
    (there : stays c ≡ true) (wire : OneWire header setting stays) (calm : Calm long stays s world) (follow : FollowUntil stays c t s world)
    (brief : IsBrief setting long) (range : InRange header long c s world) (apart : CorrectsApart t stays c s world) where
  fits : Fits setting world
  fits = whole.fits

  -- each Correct of a follower after s takes a correction of its master, with its ticket
  record Moves (n : ℕ) (k : Line) (h : List Line) : Type 0 where
    pub from : FromMaster long c k h
    pub number : ℕ
    pub number_is : number ≡ ticket (dids (of n h))
    pub took : last_taken (view first_port (of n (k ∷ h))) ≡ Some (record { from = peer_of c; number = number })
    pub gap : last_correct (dids (of n h)) + GAP ≤ k.did.tick
    pub last : last_correct (dids (of n (k ∷ h))) ≡ k.did.tick

  moves : (n : ℕ) (k : Line) (h : List Line) → Within (k ∷ h) world → Within s h → k.did.step.at ≤ t → node_of k ≡ n → (n == c) ≡ false →
      (amount : ℤ) (stepped : Bool) (shown : ℤ) → k.did.deed ≡ Acts (Correct amount stepped shown) → Moves n k h
  moves n k h place since until node other amount stepped shown deed =
      let port : k.port ≡ first_port = uses k h place (wire.single (node_of k) (calm.only k h place since)) (rw deed refl) in
      let other-node : (node_of k == c) ≡ false = ap (λ j. j == c) node ∙ other in
      let fk = fits_in setting k h world fits place in
      let owes : CorrectFits (setup_of setting (node_of k) k.port) k.did (view k.port (of (node_of k) h)) amount stepped shown =
      deed_fits setting k h (Acts (Correct amount stepped shown)) deed fk in
      let takes : TakesCorrection k.did (view k.port (of (node_of k) h)) amount =
      takes_correction setting world fits long t c stays s calm follow k h place since until other-node port amount stepped shown deed in
      let order = fk.order in
      let follows : role (view k.port (of (node_of k) h)) ≡ Follow (peer_of c) = ap (λ q. role (view q (of (node_of k) h))) port ∙
      (follow h (Within_tail k h world place) since (omega (arith, order, until))).follow (node_of k) (calm.only k h place since) other-node in
      let from : takes.from ≡ peer_of c = same_peers takes.from (peer_of c) (sym takes.follows ∙ follows) in
      let took : taken (view k.port (of (node_of k) h)) ≡ Some (record { from = Peer takes.from; taken = Good (Message takes.message) }) =
      ap taken takes.is ∙ rw takes.deed refl in
      let took-first : taken (view first_port (of n h)) ≡ Some (record { from = Peer takes.from; taken = Good (Message takes.message) }) =
      ap (λ q. taken (view q (of n h))) (sym port) ∙ (ap (λ j. taken (view k.port (of j h))) (sym node) ∙ took) in
      record {
        from = moved_by_master setting world fits long t c stays s calm follow k h place since until other-node port amount stepped shown deed;
        number = takes.message.number;
        number_is = takes.number ∙ (ap ticket (plain_view k.port (of (node_of k) h)) ∙ ap (λ j. ticket (dids (of j h))) node);
        took = ap last_taken (seen_first n k h node port) ∙
            (ap (λ d. last_taken_after d (taken (view first_port (of n h))) (last_taken (view first_port (of n h)))) deed ∙
            (ap (λ o. correcting_of (said o)) took-first ∙ (corrects_so takes.from takes.message takes.kind ∙
            ap (λ p. Some (record { from = p; number = takes.message.number })) from)));
        gap = subst (λ z. last_correct z + GAP ≤ k.did.tick) (plain_view k.port (of (node_of k) h) ∙ ap (λ j. dids (of j h)) node) owes.gap;
        last = ap (λ ls. last_correct (dids ls)) (of_own n k h node) ∙ rw deed refl;
      }
    where
      corrects_so : (p : PeerId) (m : MessageValue) → is_correction m.kind ≡ true →
          correcting_of (Some (record { from = p; message = m })) ≡ Some (record { from = p; number = m.number })
      corrects_so p m e = rw e refl

  -- a correction that begins
  module _ (n : ℕ) (l : Line) (older : List Line) (m : MessageValue) (stay : stays n ≡ true) (other : (n == c) ≡ false)
      (b : BeginsBetween (time_of (dids s) + LIFE) t c n l older world m) (early : l.did.step.at + 2 * long < t) where
    place : Within (l ∷ older) world
    place = b.posts.place

    since : Within s older
    since = let late = b.late in after_place setting s world fits s-in l older place (omega (arith, late))

    older-in : Within older world
    older-in = Within_tail l older world place

    port : l.port ≡ first_port
    port = uses l older place (wire.single (node_of l) (calm.only l older place since)) (let deed = b.posts.deed in rw deed refl)

    on-first : line_on first_port l.did ≡ l
    on-first = line_is l first_port port

    given-l : Given setting (l ∷ older)
    given-l = given_at setting (l ∷ older) world whole place

    begins-first : acting (view first_port (of c older)) ≡ true
    begins-first = ap (λ q. acting (view q (of c older))) (sym port) ∙ (ap (λ j. acting (view l.port (of j older))) (sym b.posts.node) ∙ b.begins)

    corrects-to : CorrectsTo (peer_of n) m l.did (view first_port (of c older))
    corrects-to = record { deed = b.posts.deed; kind = b.posts.kind; begins = begins-first }

    -- where its number comes from
    src : Source n l.did older m.number
    src = source setting c n first_port l.did older m (subst (λ k. Given setting (k ∷ older)) (sym on-first) given-l) b.posts.node corrects-to

    abbrev G : List Line
    G = src.ro

    g-in : Within G older
    g-in = Within_tail src.r src.ro older src.place

    g-late : time_of (dids s) < src.r.did.step.at
    g-late = let soon = src.soon in let late = b.late in omega (arith, soon, late)

    g-since : Within s G
    g-since = after_place setting s world fits s-in src.r src.ro (Within_through (src.r ∷ src.ro) older world src.place older-in) g-late

    small : m.number < 32768
    small = small_number m.number (word (dids (of n G)) + corrects (dids (of n G))) src.is

    confirmed : OnceConfirmed (l ∷ older)
    confirmed = once_confirmed setting (l ∷ older) given-l

    -- nobody has taken this number from c before it begins
    none-before : (k : Line) (h : List Line) → Within (k ∷ h) older → src.r.did.step.at ≤ k.did.step.at → (f : FromMaster long c k h) →
        f.message.number ≡ m.number → node_of k ≡ n → ⊥
    none-before k h k-in after f number node =
        let p-in : Within (f.post ∷ f.before) older = Within_through (f.post ∷ f.before) h older f.place (Within_tail k h older k-in) in
        let p-world : Within (f.post ∷ f.before) world = Within_through (f.post ∷ f.before) older world p-in older-in in
        let soon = f.soon in
        let life = src.soon in
        let p-port : f.post.port ≡ first_port = uses f.post f.before p-world (wire.single (node_of f.post) (ap stays f.node ∙ there))
        (let deed = f.deed in rw deed refl) in
        let p-line : line_on first_port f.post.did ≡ f.post = line_is f.post first_port p-port in
        let same = same_send setting c n first_port (l ∷ older) l.did f.post.did older f.before m f.message given-l.fits confirmed
        (subst (λ z. Within (z ∷ older) (l ∷ older)) (sym on-first) (Within_all (l ∷ older))) b.posts.node corrects-to opens-here
        (subst (λ z. Within (z ∷ f.before) (l ∷ older)) (sym p-line) (inr p-in)) f.node
        (subst (λ j. f.post.did.deed ≡ Acts (Post (Peer (peer_of j)) (Message f.message))) node f.deed) f.kind number small
        (omega (arith, soon, after, life, short)) in
        let behind : Within (l ∷ older) (f.post ∷ f.before) = subst (λ z. Within (z ∷ older) (f.post ∷ f.before)) on-first
        (subst (λ z. Within (line_on first_port l.did ∷ older) (z ∷ f.before)) p-line same.place) in
        let few = Within_length (l ∷ older) (f.post ∷ f.before) behind in
        let many = Within_length (f.post ∷ f.before) older p-in in
        omega (arith, few, many)
      where
        short : long < GAP
        short = omega (arith, brief)

        opens-here : open_to (peer_of n) (view first_port (of c (l ∷ older))) ≡ Here l.did ∷ view first_port (of c older)
        opens-here = ap (open_to (peer_of n)) (seen_first c l older b.posts.node port) ∙
            opens (peer_of n) m l.did (view first_port (of c older)) b.posts.deed (correction_numbered m.kind b.posts.kind) begins-first

    -- from that reading on until it begins the clock is left alone
    record Untouched (h : List Line) : Type 0 where
      pub number : ticket (dids (of n h)) ≡ m.number
      pub tick : correct_tick (dids (of n h)) ≡ correct_tick (dids (of n G))

    untouched-line : (k : Line) (h : List Line) → LeftAlone n k h → Untouched h → Untouched (k ∷ h)
    untouched-line k h a u = record { number = a.number ∙ u.number; tick = a.tick ∙ u.tick }

    short-time : (k : Line) (w : List Line) → Within (k ∷ w) older → k.did.step.at ≤ t
    short-time k w v =
        let le = place_time setting (k ∷ w) older (fits_at setting older world fits older-in) v in
        let order = (fits_in setting l older world fits place).order in
        omega (arith, le, order, early)

    until-begun : (h : List Line) → Within G h → Within h older → Untouched h
    until-begun [] w v = subst Untouched w (record { number = sym src.is; tick = refl })
    until-begun (k ∷ h) (inl e) v = subst Untouched e (record { number = sym src.is; tick = refl })
    until-begun (k ∷ h) (inr w) v = by_node (node_of k == n) refl (until-begun h w (Within_tail k h older v)) where
      h-since : Within s h
      h-since = Within_through s G h g-since w

      k-world : Within (k ∷ h) world
      k-world = Within_through (k ∷ h) older world v older-in

      after-r : src.r.did.step.at ≤ k.did.step.at
      after-r = elim (Within_comparable (src.r ∷ src.ro) (k ∷ h) older src.place v) [
        | inl u ↦ place_time setting (src.r ∷ src.ro) (k ∷ h) (fits_at setting (k ∷ h) world fits k-world) u
        | inr (inl e) ↦ (let same = ap (λ (z : List Line). time_of (dids z)) e in omega (arith, same))
        | inr (inr u) ↦ absurd (let few = Within_length (k ∷ h) G u in let many = Within_length G h w in omega (arith, few, many))
      ]

      by_node : (b : Bool) → (node_of k == n) ≡ b → Untouched h → Untouched (k ∷ h)
      by_node false e u = untouched-line k h (other_line n k h e) u
      by_node true e u =
          let node = eqb-true (node_of k) n e in
          untouched-line k h (left_alone n k h node (calm.unbooted k h k-world h-since) (λ amount stepped shown deed.
          let mv = moves n k h k-world h-since (short-time k h v) node other amount stepped shown deed in
          none-before k h v after-r mv.from (mv.from.number ∙ (ap (λ j. ticket (dids (of j h))) node ∙ u.number)) node)) u

    -- when it begins, so it is
    begun : Untouched (l ∷ older)
    begun = untouched-line l older (other_line n l older apart-node) (until-begun older g-in (Within_all older)) where
      apart-node : (node_of l == n) ≡ false
      apart-node = differ n (node_of l) (ap (λ j. n == j) b.posts.node ∙ other)

    -- later on the clock may have taken a correction with its number
    record Retaken (h : List Line) : Type 0 where
      pub took : last_taken (view first_port (of n h)) ≡ Some (record { from = peer_of c; number = m.number })
      pub recent : setting.tick n l.did.step.at ≤ last_correct (dids (of n h))

    retaken-line : (k : Line) (h : List Line) → LeftAlone n k h → Retaken h → Retaken (k ∷ h)
    retaken-line k h a u = record { took = a.taken_is ∙ u.took; recent = let same = a.last in let le = u.recent in omega (arith, same, le) }

    -- ticks of the follower within `long`
    brief-ticks : (x : ℕ) → x ≤ l.did.step.at + long → setting.tick n x < setting.tick n l.did.step.at + GAP
    brief-ticks x le =
        let mono = tick_mono setting n x (l.did.step.at + long) le in
        let fast = (setting.ticks n).fast l.did.step.at long in
        omega (arith, mono, fast, brief)

    after-begun : (h : List Line) → Within (l ∷ older) h → Within h world → time_of (dids h) ≤ l.did.step.at + long → Untouched h ⊎ Retaken h
    after-begun [] w v le = let bad : ⊥ = cc in absurd bad
    after-begun (k ∷ h) (inl e) v le = inl (subst Untouched e begun)
    after-begun (k ∷ h) (inr w) v le =
        let order = (fits_in setting k h world fits v).order in
        by_node (node_of k == n) refl (after-begun h w (Within_tail k h world v) (omega (arith, order, le))) where
          h-since : Within s h
          h-since = Within_through s (l ∷ older) h (inr since) w

          k-until : k.did.step.at ≤ t
          k-until = omega (arith, le, early)

          l-before : l.did.step.at ≤ k.did.step.at
          l-before = place_time setting (l ∷ older) (k ∷ h) (fits_at setting (k ∷ h) world fits v) (inr w)

          node-of : (node_of k == n) ≡ true → node_of k ≡ n
          node-of e = eqb-true (node_of k) n e

          kept : LeftAlone n k h → Untouched h ⊎ Retaken h → Untouched (k ∷ h) ⊎ Retaken (k ∷ h)
          kept a (inl x) = inl (untouched-line k h a x)
          kept a (inr x) = inr (retaken-line k h a x)

          by_deed : (deed : Deed) → k.did.deed ≡ deed → node_of k ≡ n → Untouched h ⊎ Retaken h → Untouched (k ∷ h) ⊎ Retaken (k ∷ h)
          by_deed (Acts Boot) is node u = absurd (calm.unbooted k h v h-since is)
          by_deed (Acts (Correct amount stepped shown)) is node u =
              let mv = moves n k h v h-since k-until node other amount stepped shown is in
              let tick = tick_in setting n k h world fits node v in
              elim u [
                | inl x ↦ inr (record {
                  took = mv.took ∙ ap (λ z. Some (record { from = peer_of c; number = z })) (mv.number_is ∙ x.number);
                  recent = (let mono = tick_mono setting n l.did.step.at k.did.step.at l-before in let last = mv.last in omega (arith, mono, last, tick));
                })
                | inr x ↦ absurd (let gap = mv.gap in let recent = x.recent in let short = brief-ticks k.did.step.at le in
                    omega (arith, gap, recent, short, tick))
              ]
          by_deed _ is node u = kept (left_alone n k h node (λ e. let same = sym is ∙ e in cc) (λ amount stepped shown e. let same = sym is ∙ e in cc)) u

          by_node : (b : Bool) → (node_of k == n) ≡ b → Untouched h ⊎ Retaken h → Untouched (k ∷ h) ⊎ Retaken (k ∷ h)
          by_node false e (inl x) = inl (untouched-line k h (other_line n k h e) x)
          by_node false e (inr x) = inr (retaken-line k h (other_line n k h e) x)
          by_node true e u = by_deed k.did.deed refl (node-of e) u

    -- the clock's correction before that reading is old
    old_enough : (x y : ℕ) → setting.tick n l.did.step.at ≤ x → correct_tick (dids (of n G)) ≡ Some y → y + GAP ≤ x
    old_enough x y later e = elim (cases_lt x (y + GAP)) [
      | inl young ↦ absurd (too-young young (correct_line n y G e))
      | inr none ↦ omega (arith, none)
    ] where
      too-young : x < y + GAP → CorrectLine n y G → ⊥
      too-young young k =
          let k-older : Within (k.line ∷ k.before) older = Within_through (k.line ∷ k.before) G older k.place g-in in
          let k-world : Within (k.line ∷ k.before) world = Within_through (k.line ∷ k.before) older world k-older older-in in
          let k-tick = tick_in setting n k.line k.before world fits k.node k-world in
          let is = k.tick in
          let late = b.late in
          let before-l : k.line.did.step.at ≤ l.did.step.at =
          place_time setting (k.line ∷ k.before) (l ∷ older) (fits_at setting (l ∷ older) world fits place) (inr k-older) in
          let n1 = near setting n k.line.did.step.at l.did.step.at before-l in
          let least = n1.least in
          let close : l.did.step.at ≤ k.line.did.step.at + 1001004 = omega (arith, least, later, young, k-tick, is) in
          let k-since = after_place setting s world fits s-in k.line k.before k-world (omega (arith, close, late)) in
          let mv = moves n k.line k.before k-world k-since (omega (arith, before-l, early)) k.node other k.amount k.stepped k.shown k.deed in
          let f = mv.from in
          let p-before : Within (f.post ∷ f.before) older = Within_through (f.post ∷ f.before) k.before older f.place
          (Within_tail k.line k.before older k-older) in
          let p-world : Within (f.post ∷ f.before) world = Within_through (f.post ∷ f.before) older world p-before older-in in
          let p-deed : f.post.did.deed ≡ Acts (Post (Peer (peer_of n)) (Message f.message)) =
          subst (λ j. f.post.did.deed ≡ Acts (Post (Peer (peer_of j)) (Message f.message))) k.node f.deed in
          let sp = send_place setting c n f.post f.before f.message (fits_at setting (f.post ∷ f.before) world fits p-world) f.node p-deed
          (correction_numbered f.message.kind f.kind) in
          let F = line_on f.post.port sp.first in
          let f-older : Within (F ∷ sp.fw) older = Within_through (F ∷ sp.fw) (f.post ∷ f.before) older sp.place p-before in
          let f-world : Within (F ∷ sp.fw) world = Within_through (F ∷ sp.fw) older world f-older older-in in
          let soon = f.soon in
          let sends-soon = sp.soon in
          let short : long < GAP = omega (arith, brief) in
          let recent : l.did.step.at ≤ sp.first.step.at + 6005012 = omega (arith, close, soon, sends-soon, short) in
          let begins : acting (view l.port (of c older)) ≡ true = ap (λ j. acting (view l.port (of j older))) (sym b.posts.node) ∙ b.begins in
          let two = apart l older place since (omega (arith, early)) n stay other m f.message F sp.fw b.posts (record {
            place = f-older;
            node = sp.node;
            deed = sp.sends.deed;
            kind = f.kind;
          }) (omega (arith, recent, late)) begins sp.sends.begins in
          let l-tick = tick_in setting c l older world fits b.posts.node place in
          let f-tick = tick_in setting c F sp.fw world fits sp.node f-world in
          let f-l : sp.first.step.at ≤ l.did.step.at =
          place_time setting (F ∷ sp.fw) (l ∷ older) (fits_at setting (l ∷ older) world fits place) (inr f-older) in
          let n2 = near setting c sp.first.step.at l.did.step.at f-l in
          let most = n2.most in
          omega (arith, two, l-tick, f-tick, most, recent)

    -- so it finds the follower ready
    module _ (line : Line) (before : List Line) (at : Within (line ∷ before) world) (later : Within (l ∷ older) before) (node : node_of line ≡ n)
        (net : setting.net (node_of line) line.port ≡ setting.net (node_of l) l.port) (soon : line.did.step.at ≤ l.did.step.at + long) where
      before-in : Within before world
      before-in = Within_tail line before world at

      order : time_of (dids before) ≤ line.did.step.at
      order = (fits_in setting line before world fits at).order

      line-port : line.port ≡ first_port
      line-port = setting.apart n line.port first_port (subst (λ j. setting.net j line.port ≡ setting.net n first_port) node
          (net ∙ (ap (λ q. setting.net (node_of l) q) port ∙ (ap (λ j. setting.net j first_port) b.posts.node ∙ sym (wire.net n c stay there)))))

      follows : role_of n before ≡ Follow (peer_of c)
      follows = (follow before before-in (Within_through s (l ∷ older) before (inr since) later) (omega (arith, order, soon, early))).follow n stay other

      role-there : role_before (node_in header n) line (of n before) ≡ Follow (peer_of (node_of l))
      role-there = ap (λ q. role (view q (of n before))) line-port ∙ follows ∙ ap (λ j. Follow (peer_of j)) (sym b.posts.node)

      steers-there : steers line.port line.did.tick (before_line (node_in header n) line (of n before)) ≡ true
      steers-there = ap (λ q. steers q line.did.tick (before_line (node_in header n) line (of n before))) line-port ∙
          first_steers line.did.tick (before_line (node_in header n) line (of n before)) (ap is_follow follows)

      abbrev There : Past
      There = port_before (node_in header n) line (of n before)

      state : Untouched before ⊎ Retaken before
      state = after-begun before later before-in (omega (arith, order, soon))

      tick-there : setting.tick n l.did.step.at ≤ line.did.tick
      tick-there =
          let le = place_time setting (l ∷ older) before (fits_at setting before world fits before-in) later in
          let tick = tick_in setting n line before world fits node at in
          let mono = tick_mono setting n l.did.step.at line.did.step.at (omega (arith, le, order)) in
          omega (arith, tick, mono)

      next : Untouched before → is_next m.number line.did.tick There ≡ true
      next u =
          let plain-is = plain_view line.port (of n before) in
          let own : (m.number == ticket (plain There.seen)) ≡ true =
          eq-eqb m.number (ticket (plain There.seen)) (sym (ap ticket plain-is ∙ u.number)) in
          let gap : is_past (correct_tick (plain There.seen)) GAP line.did.tick ≡ true = ap (λ ds. is_past (correct_tick ds) GAP line.did.tick) plain-is ∙
          (ap (λ o. is_past o GAP line.did.tick) u.tick ∙ past_gap (correct_tick (dids (of n G))) line.did.tick
          (λ y e. old_enough line.did.tick y tick-there e)) in
          rw (own, gap) refl

      again : Retaken before → is_repeated (peer_of (node_of l)) m.number line.did.tick There ≡ true
      again u =
          let from : (c == node_of l) ≡ true = eq-eqb c (node_of l) (sym b.posts.node) in
          let own : (m.number == m.number) ≡ true = eq-eqb m.number m.number refl in
          ap (λ q. is_by (peer_of (node_of l)) m.number (last_taken (view q (of n before)))) line-port ∙
          (ap (is_by (peer_of (node_of l)) m.number) u.took ∙ rw (from, own) refl)

      either_way : (takes : Bool) → (Untouched before → takes ≡ true) →
          (takes || is_repeated (peer_of (node_of l)) m.number line.did.tick There) ≡ true
      either_way takes k = elim state [
        | inl u ↦ ap (λ z. z || is_repeated (peer_of (node_of l)) m.number line.did.tick There) (k u)
        | inr u ↦ ap (λ z. takes || z) (again u) ∙ or_right takes true refl
      ]

      amount-fits : m.kind ≡ AdjTime → can_adjust (time_in m.body) line.did.tick There ≡ true
      amount-fits kind = subst (λ j. can_adjust (time_in m.body) line.did.tick (port_before (node_in header j) line (of j before)) ≡ true) node
          (range.moved line before at (Within_through s (l ∷ older) before (inr since) later) l older m (record {
            place = later;
            node = b.posts.node;
            deed = subst (λ j. l.did.deed ≡ Acts (Post (Peer (peer_of j)) (Message m))) (sym node) b.posts.deed;
            kind = b.posts.kind;
          }) kind soon)

      value-fits : m.kind ≡ SetTime → is_clock_value (time_in m.body) ≡ true
      value-fits kind =
          let fit : BeginFits l.did (view l.port (of (node_of l) older)) (peer_of n) m =
          (post_fits setting (node_of l) l older (peer_of n) m (fits_in setting l older world fits place) refl b.posts.deed b.posts.kind).begins b.begins in
          let sets = fit.sets kind in
          let low : int_lt (neg_ℤ LIMIT) (time_in m.body) ≡ true = ap (int_lt (neg_ℤ LIMIT)) sets.time ∙ less_int (neg_ℤ LIMIT) _ sets.low in
          let high : int_lt (time_in m.body) LIMIT ≡ true = ap (λ z. int_lt z LIMIT) sets.time ∙ less_int _ LIMIT sets.high in
          rw (low, high) refl

      pub ready-amount : m.kind ≡ AdjTime → may_obey l m (takes_amount m.number (time_in m.body)) line.did.tick There ≡ true
      ready-amount kind = either_way (takes_amount m.number (time_in m.body) line.did.tick There)
          (λ u. let one = next u in let two = amount-fits kind in rw (one, two) refl)

      pub ready-value : m.kind ≡ SetTime → may_obey l m (takes_value m.number (time_in m.body)) line.did.tick There ≡ true
      ready-value kind = either_way (takes_value m.number (time_in m.body) line.did.tick There)
          (λ u. let one = next u in let two = value-fits kind in rw (one, two) refl)

    pub amount-ready : m.kind ≡ AdjTime → Obedient header setting long l older world (peer_of n) (may_obey l m (takes_amount m.number (time_in m.body)))
    amount-ready kind line before at later node net soon = (
      role-there line before at later node net soon,
      (steers-there line before at later node net soon, ready-amount line before at later node net soon kind),
    )

    pub value-ready : m.kind ≡ SetTime → Obedient header setting long l older world (peer_of n) (may_obey l m (takes_value m.number (time_in m.body)))
    value-ready kind line before at later node net soon = (
      role-there line before at later node net soon,
      (steers-there line before at later node net soon, ready-value line before at later node net soon kind),
    )

  pub ready : (n : ℕ) (l : Line) (older : List Line) (m : MessageValue) → stays n ≡ true → (n == c) ≡ false →
      BeginsBetween (time_of (dids s) + LIFE) t c n l older world m → l.did.step.at + 2 * long < t →
      (m.kind ≡ AdjTime → Obedient header setting long l older world (peer_of n) (may_obey l m (takes_amount m.number (time_in m.body))))
      × (m.kind ≡ SetTime → Obedient header setting long l older world (peer_of n) (may_obey l m (takes_value m.number (time_in m.body))))
  ready n l older m stay other b early = (λ kind. amount-ready n l older m stay other b early kind, λ kind. value-ready n l older m stay other b early kind)
