-- One candidate wins a strict election.
use Rattle.std.proofs.Common.{sym, ap, arith, subst, inl, inr, ◌∙◌, ◌≡◌, ◌≤◌, ◌<◌, ◌⊎◌, ℕ, ◌+◌, ◌*◌, true, false, List, ◌∷◌, length, Some, refl}
use Rattle.std.proofs.lemmas.Bool.{cases_lt}
use Rattle.tsp_rules.specs.Values.{Become, Back, Message, PeerId, Port, Master, ELECT_MIN}
use Rattle.tsp_base.specs.Words.{Acts, Did, Line, Seen, Here, of, dids, view, is_shared, boot_tick, lives, Within, backers, held, stood, Receives, peer_of}
use Rattle.tsp_base.proofs.PlaceLemmas.{Within_all, Within_through, Within_tail, Within_comparable}
use Rattle.tsp_base.proofs.Views.{plain_view}
use Rattle.tsp_promises.proofs.shared.ElectionFacts.{stood_at, backer_at, voters, port_elects, held_at, boots, boots_view}
use Rattle.tsp_promises.proofs.promised.OwnFitsProof.{locate, tick_in, own_fits, fits_at, place_time}
use Rattle.tsp_promises.proofs.promised.VoteProof.{Polled, polled_at, vote_of, Backed, back_of, open_place, asked_late}
use Rattle.tsp_promises.specs.{Premises.Few, Premises.Honest, Premises.Life, Setting.Network, Setting.Setting, Setting.setup_of}
use Rattle.tsp_promises.specs.{Fits.Fits, Fits.node_of, HoldFits.LeadFits, OneWinner.OneWinner, OneWinner.WinsAt}
use Rattle.tsp_promises.proofs.{shared.Clocks.near, shared.Clocks.tick_mono, shared.Elections.In, shared.Elections.in_among, shared.Elections.ElectFits}
use Rattle.tsp_promises.proofs.{shared.Elections.elects}
use Rattle.tsp_promises.proofs.{shared.HistoryPlaces.Within_of, shared.HistoryPlaces.line_on, shared.Elections.AllIn, shared.Elections.shared}
use Rattle.tsp_promises.proofs.{promised.ResolvedProof.holds_at}
use Rattle.tsp_promises.proofs.{shared.EverywhereLemmas.Everywhere_from, promised.SinceProof.since}

-- a port that wins now: since when it has stood, and what its past owes
record Won (setting : Setting) (a : ℕ) (q : Port) (l : Line) (world : List Line) : Type 0 where
  pub node : node_of l ≡ a
  pub win : LeadFits (setup_of setting a q) l.did (view q (of a world))
  pub so : List Line
  pub place : Within (line_on q win.start ∷ so) world
  pub own : is_shared win.start.deed ≡ false
  pub start_node : win.start.step.node ≡ a
  pub rested : boot_tick (dids (of a world)) + ELECT_MIN ≤ l.did.tick

won : (setting : Setting) (l : Line) (world : List Line) → Polled setting (l ∷ world) → l.did.deed ≡ Acts (Become Master) →
    Won setting (node_of l) l.port l world
won setting l world w deed =
    let a = node_of l in
    let q = l.port in
    let win : LeadFits (setup_of setting a q) l.did (view q (of a world)) = subst (λ k. ElectFits (setup_of setting a q) k l.did (view q (of a world))) deed
    w.elects.0 in
    let s = stood_at (view q (of a world)) (Here win.start) win.idle win.start_is in
    let p = locate a q world win.start win.idle s.own s.place in
    record {
      node = refl;
      win = win;
      so = p.older;
      place = p.place;
      own = s.own;
      start_node = p.node;
      rested = subst (λ k. boot_tick k + ELECT_MIN ≤ l.did.tick) (plain_view q (of a world)) win.rested;
    }

-- its own backing
own_backed : (setting : Setting) (a : ℕ) (q : Port) (l : Line) (world : List Line) → Polled setting (l ∷ world) → (v : Won setting a q l world) →
    Backed setting a a (setting.net a q) v.win.start.step.at l.did.step.at world
own_backed setting a q l world w v =
    let wx = w.fits.1 in
    let own : peer_of l.did.step.node ≡ peer_of a = ap peer_of v.node in
    let h = held_at v.win.start.tick (peer_of a) (view q (of a world)) (subst (λ p. (held (view q (of a world))).back ≡
    Some (v.win.start.tick, p)) own v.win.backs) in
    let p = locate a q world h.did h.before (rw h.deed refl) h.place in
    let by = place_time setting (line_on q h.did ∷ p.older) world wx p.place in
    let order = w.fits.0.order in
    let x_tick = tick_in setting a (line_on q h.did) p.older world wx p.node p.place in
    let s_tick = tick_in setting a (line_on q v.win.start) v.so world wx v.start_node v.place in
    record {
      line = line_on q h.did;
      older = p.older;
      place = p.place;
      node = p.node;
      deed = h.deed;
      net_is = refl;
      after = elim (cases_lt h.did.step.at v.win.start.step.at) [
        | inl less ↦ (let n = near setting a h.did.step.at v.win.start.step.at (omega (arith, less)) in let least = n.least in let same = h.tick in
            omega (arith, least, x_tick, s_tick, same))
        | inr none ↦ omega (arith, none)
      ];
      by = omega (arith, by, order);
    }

-- another backing
other_backed : (setting : Setting) (a : ℕ) (q : Port) (l : Line) (world : List Line) (p : PeerId) → Polled setting (l ∷ world) → (v : Won setting a q l world) →
    In p (backers (view q (of a world))) →
    Backed setting p.0 a (setting.net a q) v.win.start.step.at l.did.step.at world
other_backed setting a q l world p w v i =
    let wx = polled_at setting world (l ∷ world) w (inr (Within_all world)) in
    let b = backer_at a (setup_of setting a q) p (view q (of a world)) (port_elects setting a q world wx.elects) i in
    let x = locate a q world b.did b.before (rw b.deed refl) b.place in
    let wb = polled_at setting (line_on q b.did ∷ x.older) world wx x.place in
    let f = b.fits in
    let vote = vote_of setting a q b.did x.older p f.answer wb b.node b.deed (subst (λ s. Receives s p (Message f.answer)) (sym x.before) f.took) f.kind in
    let open_ = open_place a q (setup_of setting a q) b.did x.older p b.before v.win.start v.win.idle x.before f (b.same ∙ v.win.start_is) v.own in
    let late =
    asked_late setting a q b.did x.older p f.answer.number v.win.start wb b.node
    (backer-rested b.did x.older b.before x.place b.node x.before (b.same ∙ v.win.start_is)) vote open_ in
    let y_in : Within (vote.y ∷ vote.yo) world = Within_through (vote.y ∷ vote.yo) x.older world vote.y_in (Within_tail (line_on q b.did) x.older world x.place)
    in
    let wy = polled_at setting (vote.y ∷ vote.yo) world wx y_in in
    let e_by = place_time setting (vote.e ∷ vote.eo) vote.yo wy.fits.1 vote.e_in in
    let y_order = wy.fits.0.order in
    let y_by = place_time setting (vote.y ∷ vote.yo) world wx.fits y_in in
    let order = w.fits.0.order in
    let found = back_of setting a (setting.net a q) v.win.start.step.at l.did.step.at vote.y vote.yo world vote.answer wx.fits y_in vote.posts vote.backs
    vote.net (omega (arith, late, e_by, y_order)) (omega (arith, y_by, order)) in
    subst (λ c. Backed setting c a (setting.net a q) v.win.start.step.at l.did.step.at world) (ap (λ (z : PeerId). z.0) vote.voter) found
  where
    backer-rested : (x : Did) (xo : List Line) (vs : List Seen) → Within (line_on q x ∷ xo) world → x.step.node ≡ a → view q (of a xo) ≡ vs →
        stood vs ≡ Here v.win.start ∷ v.win.idle → boot_tick (dids (of a xo)) + 290000000 ≤ x.tick
    backer-rested x xo vs x_in node seen stands =
        let f = w.fits.1 in
        let xo_in : Within xo world = Within_tail (line_on q x) xo world x_in in
        let i = since setting (of a xo) (of a world) (own_fits setting a world f) (Within_of a xo world xo_in) in
        let here = stood_at vs (Here v.win.start) v.win.idle stands in
        let there = stood_at (view q (of a world)) (Here v.win.start) v.win.idle v.win.start_is in
        let same : lives (dids (of a xo)) ≡ lives (dids (of a world)) = sym (boots_view q (of a xo)) ∙
        (ap boots seen ∙ (sym here.life ∙ (there.life ∙ boots_view q (of a world)))) in
        let s = locate a q xo v.win.start v.win.idle v.own (subst (λ k. Within (Here v.win.start ∷ v.win.idle) k) (sym seen) here.place) in
        let fx = fits_at setting (line_on q x ∷ xo) world f x_in in
        let s_by = place_time setting (line_on q v.win.start ∷ s.older) xo fx.1 s.place in
        let s_tick = tick_in setting a (line_on q v.win.start) s.older xo fx.1 v.start_node s.place in
        let x_tick = tick_in setting a (line_on q x) xo world f node x_in in
        let order = fx.0.order in
        let mono = tick_mono setting a v.win.start.step.at x.step.at (omega (arith, s_by, order)) in
        let rested = v.rested in
        let soon = v.win.soon in
        elim i.life [
          | inl one ↦ (let boot = one.boot in omega (arith, boot, rested, soon, s_tick, x_tick, mono))
          | inr new ↦ absurd (let k = new.lives in omega (arith, k, same))
        ]

-- whoever counts has backed the winner
counted_backed : (setting : Setting) (a : ℕ) (q : Port) (l : Line) (world : List Line) (p : PeerId) → Polled setting (l ∷ world) →
    (v : Won setting a q l world) → In p (peer_of a ∷ backers (view q (of a world))) →
    Backed setting p.0 a (setting.net a q) v.win.start.step.at l.did.step.at world
counted_backed setting a q l world p w v (inl e) = subst (λ (c : PeerId). Backed setting c.0 a (setting.net a q) v.win.start.step.at l.did.step.at world) e
    (own_backed setting a q l world w v)
counted_backed setting a q l world p w v (inr i) = other_backed setting a q l world p w v i

-- of two backings of different candidates on one network the later stands long after the earlier
ordered : (setting : Setting) (c a b : ℕ) (net : Network) (x y : Line) (xo yo world : List Line) → Fits setting world → (a ≡ b → ⊥) → Within (x ∷ xo) world →
    Within (y ∷ yo) world → node_of x ≡ c → node_of y ≡ c → x.did.deed ≡ Acts (Back (peer_of a)) → y.did.deed ≡ Acts (Back (peer_of b)) →
    setting.net c x.port ≡ net → setting.net c y.port ≡ net → Within (x ∷ xo) yo → x.did.step.at + 59940000 ≤ y.did.step.at
ordered setting c a b net x y xo yo world f differ x_in y_in x_node y_node x_deed y_deed x_net y_net before =
    let fy = fits_at setting (y ∷ yo) world f y_in in
    let port : x.port ≡ y.port = setting.apart c x.port y.port (x_net ∙ sym y_net) in
    let tick_x = tick_in setting c x xo world f x_node x_in in
    let tick_y = tick_in setting c y yo world f y_node y_in in
    let by = place_time setting (x ∷ xo) yo fy.1 before in
    let order = fy.0.order in
    let n = near setting c x.did.step.at y.did.step.at (omega (arith, by, order)) in
    let most = n.most in
    elim (holds_at setting y yo fy (peer_of b) (peer_of a) x xo y_deed before (x_node ∙ sym y_node) port x_deed) [
      | inl same ↦ absurd (differ (ap (λ (p : PeerId). p.0) same))
      | inr long ↦ omega (arith, long, most, tick_x, tick_y)
    ]

apart : (setting : Setting) (c a b : ℕ) (net : Network) (r s t u : ℕ) (world : List Line) → Fits setting world → (a ≡ b → ⊥) →
    (x : Backed setting c a net r s world) → (y : Backed setting c b net t u world) →
    (x.line.did.step.at + 59940000 ≤ y.line.did.step.at) ⊎ (y.line.did.step.at + 59940000 ≤ x.line.did.step.at)
apart setting c a b net r s t u world f differ x y = elim (Within_comparable (x.line ∷ x.older) (y.line ∷ y.older) world x.place y.place) [
  | inl (inl e) ↦ absurd (same e)
  | inl (inr i) ↦ inl (ordered setting c a b net x.line y.line x.older y.older world f differ x.place y.place x.node y.node x.deed y.deed x.net_is y.net_is i)
  | inr (inl e) ↦ absurd (same (sym e))
  | inr (inr i) ↦ inr (ordered setting c b a net y.line x.line y.older x.older world f (λ e. differ (sym e)) y.place x.place y.node x.node y.deed x.deed
      y.net_is x.net_is i)
] where
  same_act : (p q : PeerId) → Acts (Back p) ≡ Acts (Back q) → p ≡ q
  same_act p q e = cc

  same : x.line ∷ x.older ≡ y.line ∷ y.older → ⊥
  same e =
      let line : x.line ≡ y.line = cc in
      differ (ap (λ (p : PeerId). p.0) (same_act (peer_of a) (peer_of b) (sym x.deed ∙ (ap (λ (k : Line). k.did.deed) line ∙ y.deed))))

-- a port wins soon after it has stood
won_soon : (setting : Setting) (a : ℕ) (q : Port) (l : Line) (world : List Line) → Polled setting (l ∷ world) → (v : Won setting a q l world) →
    l.did.step.at ≤ v.win.start.step.at + 6006010
won_soon setting a q l world w v =
    let s_tick = tick_in setting a (line_on q v.win.start) v.so world w.fits.1 v.start_node v.place in
    let l_tick : l.did.tick ≡ setting.tick a l.did.step.at = subst (λ n. l.did.tick ≡ setting.tick n l.did.step.at) v.node w.fits.0.tick in
    let by = place_time setting (line_on q v.win.start ∷ v.so) world w.fits.1 v.place in
    let order = w.fits.0.order in
    let n = near setting a v.win.start.step.at l.did.step.at (omega (arith, by, order)) in
    let least = n.least in
    let soon = v.win.soon in
    omega (arith, least, s_tick, l_tick, soon)

-- in a longer history
backed_later : (setting : Setting) (c a : ℕ) (net : Network) (r s : ℕ) (h world : List Line) → Within h world → Backed setting c a net r s h →
    Backed setting c a net r s world
backed_later setting c a net r s h world w b = record {
  line = b.line;
  older = b.older;
  place = Within_through (b.line ∷ b.older) h world b.place w;
  node = b.node;
  deed = b.deed;
  net_is = b.net_is;
  after = b.after;
  by = b.by;
}

-- the times of two wins, from those of two backings
times : (la lb sa sb xa ya : ℕ) → lb ≤ la → la ≤ sa + 6006010 → lb ≤ sb + 6006010 → sa ≤ xa + 3 → sb ≤ ya + 3 → xa ≤ la → ya ≤ lb → (xa + 59940000 ≤ ya) ⊎
    (ya + 59940000 ≤ xa) → lb + 50000000 < la
times la lb sa sb xa ya order a b c d e f (inl g) = absurd (omega (arith, order, a, c, f, g))
times la lb sa sb xa ya order a b c d e f (inr g) = omega (arith, b, d, e, g)

wins_at : (setting : Setting) (l : Line) (world : List Line) → setting.strict ≡ true → Polled setting (l ∷ world) → WinsAt setting l world
wins_at setting l world strict w other older deed other_in other_deed differ net =
    let a = node_of l in
    let b = node_of other in
    let q = l.port in
    let r = other.port in
    let wx = polled_at setting world (l ∷ world) w (inr (Within_all world)) in
    let wo = polled_at setting (other ∷ older) world wx other_in in
    let one = won setting l world w deed in
    let two = won setting other older wo other_deed in
    let xs = voters a (setup_of setting a q) (view q (of a world)) (port_elects setting a q world wx.elects) in
    let ys = voters b (setup_of setting b r) (view r (of b older)) (port_elects setting b r older wo.elects.1) in
    let most = one.win.wins strict in
    let more = two.win.wins strict in
    let all = setting.members (setting.net a q) in
    let same : setting.members (setting.net b r) ≡ all = ap setting.members net in
    let more' : length all < 2 * length (backers (view r (of b older))) + 2 = subst (λ k. length k < 2 * length (backers (view r (of b older))) + 2) same more
    in
    let ys_in : AllIn (peer_of b ∷ backers (view r (of b older))) all = subst (λ k. AllIn (peer_of b ∷ backers (view r (of b older))) k) same
    (in_among (peer_of b) (setting.members (setting.net b r)) (setting.own b r), ys.peers) in
    let s = shared (peer_of a ∷ backers (view q (of a world))) (peer_of b ∷ backers (view r (of b older))) all (xs.others, xs.distinct) (
      ys.others,
      ys.distinct,
    ) (in_among (peer_of a) all (setting.own a q), xs.peers) ys_in (omega (arith, most, more')) in
    let x = counted_backed setting a q l world s.peer w one s.one in
    let y = subst (λ k. Backed setting s.peer.0 b k two.win.start.step.at other.did.step.at world) net
    (backed_later setting s.peer.0 b (setting.net b r) two.win.start.step.at other.did.step.at older world (Within_tail other older world other_in)
    (counted_backed setting b r other older s.peer wo two s.two)) in
    let order : other.did.step.at ≤ l.did.step.at = (let k = place_time setting (other ∷ older) world wx.fits other_in in let o = w.fits.0.order in
    omega (arith, k, o)) in
    times l.did.step.at other.did.step.at one.win.start.step.at two.win.start.step.at x.line.did.step.at y.line.did.step.at order
    (won_soon setting a q l world w one) (won_soon setting b r other older wo two) x.after y.after x.by y.by
    (apart setting s.peer.0 a b (setting.net a q) one.win.start.step.at l.did.step.at two.win.start.step.at other.did.step.at world wx.fits
    (λ e. differ (sym e)) x y)

pub one_winner : (setting : Setting) (world : List Line) → setting.strict ≡ true → Fits setting world → Honest world → Life world → Few world →
    OneWinner setting world
one_winner setting world strict f h l w =
    let p : Polled setting world = record { fits = f; elects = elects setting world f; honest = h; life = l; few = w } in
    Everywhere_from (WinsAt setting) world (λ k s i. wins_at setting k s strict (polled_at setting (k ∷ s) world p i))
