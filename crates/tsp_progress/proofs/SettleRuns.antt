-- A calm network settles: some node wins, or one has been master alone for long; it leads on, and all come to follow it.
use Rattle.std.proofs.Common.{sym, ap, subst, arith, true≢false, inl, inr, ◌∙◌, ◌≡◌, ◌≢◌, ◌≤◌, ◌⊎◌, ℕ, ◌+◌, ◌*◌, ◌==◌, ◌||◌, not, Bool, true}
use Rattle.std.proofs.Common.{false, List, [], ◌∷◌, filter, length, refl}
use Rattle.std.proofs.lemmas.Bool.{cases_lt}
use Rattle.tsp_rules.specs.Values.{Become, Candidate, Event, Follow, Loose, Master, PeerId, Port, Role, Starting, ROUND, SLACK, WINDOW}
use Rattle.tsp_rules.specs.{GateRows.other_ports, GateRows.ports_from, Guards.delay, NodeRows.NodePast, NodeRows.PortSetup}
use Rattle.tsp_base.specs.Words.{Acts, Deed, Did, HeaderValue, Here, Line, Seen, Within, dids, first_port, is_among, is_shared, of, peer_of, seen_as}
use Rattle.tsp_base.specs.Words.{time_of, view}
use Rattle.tsp_base.proofs.{PlaceLemmas.Within_through, ViewPlaces.port_same, ViewPlaces.shown}
use Rattle.tsp_promises.specs.{Fits.Fits, Fits.node_of, Premises.Honest, Premises.Life, Setting.Setting}
use Rattle.tsp_promises.proofs.shared.{Clocks.tick_mono, Elections.In, Elections.in_among, HistoryPlaces.Within_of, HistoryPlaces.lift, HistoryPlaces.line_on}
use Rattle.tsp_promises.proofs.shared.{HistoryPlaces.own_in}
use Rattle.tsp_promises.proofs.promised.OwnFitsProof.{fits_at, place_time}
use Rattle.tsp_run.specs.Clocked.{Clocks, PossibleBy, SetByClocks, clocks_of, run_by}
use Rattle.tsp_run.proofs.{OwnClocks.possible_own, OwnClocks.runs_by_own_clocks, OwnClocks.set_own}
use Rattle.tsp_progress.specs.{AckedInTime.IsPrompt, ByTable.node_in, FollowOn.role_of, FoundInTime.Changed, FoundInTime.IsQuick}
use Rattle.tsp_progress.specs.Gather.{LeadUntil}
use Rattle.tsp_progress.specs.Headless.{AllUp, Fair, Foremost, delay_of, longest_headless}
use Rattle.tsp_progress.specs.{LeadOnly.candidatures_after, MastersTell.HasOnePort, MastersTell.LeadsOn, OneStops.ChangedBy, OneStops.Spans, OneStops.TwoLead}
use Rattle.tsp_progress.specs.{RunsWake.manner_of, WinsLate.WinsLate, WinsLate.WonFits}
use Rattle.tsp_progress.specs.Settles.{ClockedRunsSettle, RunsSettle, Settles}
use Rattle.tsp_progress.proofs.{FollowCalls.Cut, FollowHeard.RoundRang, FollowHeard.after_s, FollowHeard.ringing, FollowHeard.sooner}
use Rattle.tsp_progress.proofs.{HeadlessProof.clocked_runs_get_master}
use Rattle.tsp_progress.proofs.{HeadlessSoon.same_word, LeadOnlyProof.calm_from, LeadOnlyProof.delivered_from, LeadOnlyProof.lead_only}
use Rattle.tsp_progress.proofs.{LeadOnlyWins.owes_within, LeadsKept.leads_later, OneStopsProof.clocked_runs_leave_one, PortSetups.differ}
use Rattle.tsp_progress.proofs.{ReignProof.Reign, ReignProof.reign, RunWakes.clocked_runs_wake, SearchKept.view_within}
use Rattle.tsp_progress.proofs.SettleWins.{all_awake, fits, follow_from, in_up_to, one_of, up_to, won_followed}
use Rattle.tsp_progress.proofs.{TableProof.clocked_runs_by_table, WinsLateProof.clocked_runs_win_late}

-- a node of one port has no other
only_port : (ports : List PortSetup) → length ports ≡ 1 → (past : NodePast) → past.ports ≡ ports → other_ports first_port past ≡ []
only_port [] e past is = let bad : ⊥ = omega (arith, e) in absurd bad
only_port (p ∷ []) e past is = ap (λ ps. filter (λ (r : Port). not (r.0 == 0)) (ports_from 0 ps)) is
only_port (p ∷ q ∷ rest) e past is = let bad : ⊥ = omega (arith, e) in absurd bad

-- whether a deed is a win
abbrev is_win : Deed → Bool
is_win (Acts (Become Master)) = true
is_win _ = false

win_is : (d : Deed) → is_win d ≡ true → d ≡ Acts (Become Master)
win_is (Acts (Become Master)) e = refl
win_is _ e = absurd (true≢false (sym e))

-- a win on the first port between two true times
record WonBetween (x y : ℕ) (world : List Line) : Type 0 where
  pub line : Line
  pub older : List Line
  pub place : Within (line ∷ older) world
  pub low : x ≤ line.did.step.at
  pub high : line.did.step.at ≤ y
  pub port : line.port ≡ first_port
  pub wins : line.did.deed ≡ Acts (Become Master)

abbrev NoneWins : ℕ → ℕ → List Line → Type 0
NoneWins x y world = (l : Line) (older : List Line) → Within (l ∷ older) world → x ≤ l.did.step.at → l.did.step.at ≤ y → l.port ≡ first_port →
    l.did.deed ≢ Acts (Become Master)

win_or_none : (x y : ℕ) (world : List Line) → WonBetween x y world ⊎ NoneWins x y world
win_or_none x y [] = inr (λ l older w low high port wins. let bad : ⊥ = cc in bad)
win_or_none x y (k ∷ rest) = elim (win_or_none x y rest) [
  | inl o ↦ inl (record { line = o.line; older = o.older; place = inr o.place; low = o.low; high = o.high; port = o.port; wins = o.wins })
  | inr none ↦ elim (cases_lt k.did.step.at x) [
    | inl early ↦ inr (λ l older w low high port wins. elim w [
      | inl e ↦ (let own : l ≡ k = cc in let time = ap (λ (z : Line). z.did.step.at) own in absurd (omega (arith, time, early, low)))
      | inr v ↦ none l older v low high port wins
    ])
    | inr from ↦ elim (cases_lt y k.did.step.at) [
      | inl over ↦ inr (λ l older w low high port wins. elim w [
        | inl e ↦ (let own : l ≡ k = cc in let time = ap (λ (z : Line). z.did.step.at) own in absurd (omega (arith, time, over, high)))
        | inr v ↦ none l older v low high port wins
      ])
      | inr upto ↦ by_deed (is_win k.did.deed) refl (k.port.0 == first_port.0) refl none from upto
    ]
  ]
] where
  other : NoneWins x y rest → (k.port ≡ first_port → k.did.deed ≡ Acts (Become Master) → ⊥) → NoneWins x y (k ∷ rest)
  other none never l older (inl e) low high port wins =
      let own : l ≡ k = cc in
      never (sym (ap (λ (z : Line). z.port) own) ∙ port) (sym (ap (λ (z : Line). z.did.deed) own) ∙ wins)
  other none never l older (inr v) low high port wins = none l older v low high port wins

  by_deed : (b : Bool) → is_win k.did.deed ≡ b → (a : Bool) → (k.port.0 == first_port.0) ≡ a → NoneWins x y rest → x ≤ k.did.step.at →
      k.did.step.at ≤ y → WonBetween x y (k ∷ rest) ⊎ NoneWins x y (k ∷ rest)
  by_deed true win true port none from upto = inl (record {
    line = k;
    older = rest;
    place = inl refl;
    low = from;
    high = upto;
    port = port_same k.port first_port port;
    wins = win_is k.did.deed win;
  })
  by_deed false win a port none from upto = inr (other none (λ p w. true≢false (sym (ap is_win w) ∙ win)))
  by_deed true win false port none from upto = inr (other none (λ p w. true≢false (sym (ap (λ (q : Port). q.0 == first_port.0) p) ∙ port)))

master_or : (r : Role) → (r ≡ Master) ⊎ (r ≢ Master)
master_or Master = inl refl
master_or Starting = inr (λ e. let bad : ⊥ = cc in bad)
master_or Loose = inr (λ e. let bad : ⊥ = cc in bad)
master_or (Follow p) = inr (λ e. let bad : ⊥ = cc in bad)
master_or Candidate = inr (λ e. let bad : ⊥ = cc in bad)

-- a node that stays and is master there
record Leader (stays : ℕ → Bool) (g : List Line) : Type 0 where
  pub node : ℕ
  pub there : stays node ≡ true
  pub leads : role_of node g ≡ Master

abbrev NoLeader : (ℕ → Bool) → List Line → List PeerId → Type 0
NoLeader stays g ps = (p : PeerId) → In p ps → stays p.0 ≡ true → role_of p.0 g ≢ Master

leader_or : (stays : ℕ → Bool) (g : List Line) (ps : List PeerId) → Leader stays g ⊎ NoLeader stays g ps
leader_or stays g [] = inr (λ p i. absurd i)
leader_or stays g (q ∷ rest) = elim (leader_or stays g rest) [
  | inl l ↦ inl l
  | inr none ↦ by_stays (stays q.0) refl none
] where
  more : (stays q.0 ≡ true → role_of q.0 g ≢ Master) → NoLeader stays g rest → NoLeader stays g (q ∷ rest)
  more never none p (inl e) there is = never (ap (λ (z : PeerId). stays z.0) e ∙ there) (ap (λ (z : PeerId). role_of z.0 g) e ∙ is)
  more never none p (inr i) there is = none p i there is

  by_stays : (b : Bool) → stays q.0 ≡ b → NoLeader stays g rest → Leader stays g ⊎ NoLeader stays g (q ∷ rest)
  by_stays true there none = elim (master_or (role_of q.0 g)) [
    | inl leads ↦ inl (record { node = q.0; there = there; leads = leads })
    | inr never ↦ inr (more (λ t. never) none)
  ]
  by_stays false gone none = inr (more (λ t. absurd (true≢false (sym t ∙ gone))) none)

module _ {clocks : Clocks} {header : HeaderValue} {setting : Setting} (set : SetByClocks clocks header setting) (events : List Event)
    (possible : PossibleBy clocks header events) (late long t : ℕ) (stays : ℕ → Bool) (s : List Line)
    (fair : Fair header setting late long t stays s (run_by clocks header events)) (s-in : Within s (run_by clocks header events))
    (up : AllUp stays s (run_by clocks header events)) (prompt : IsPrompt setting long) (honest : Honest (run_by clocks header events))
    (life : Life (run_by clocks header events)) (unstrict : header.strict ≡ false) (first : ℕ)
    (fore : Foremost header setting late long stays first s) where
  abbrev World : List Line
  World = run_by clocks header events

  good : Fits setting World
  good = fits set events possible late long t stays s fair s-in up prompt honest life

  quick : IsQuick setting long
  quick = omega (arith, prompt)

  won-at : (h : List Line) → Within h World → WinsLate h
  won-at h w n q = owes_within WonFits (view q (of n h)) (view q (of n World)) (view_within q (of n h) (of n World) (Within_of n h World w))
      (clocked_runs_win_late clocks header setting events set possible n q)

  abbrev D : ℕ
  D = delay_of first s

  -- from when on a win is of one that leads alone
  abbrev X0 : ℕ
  X0 = time_of (dids s) + candidatures_after + (long + 1)

  -- when a round has rung since
  abbrev Rings : ℕ
  Rings = X0 + (ROUND + 2 * SLACK)

  -- and when of two masters one has stopped
  abbrev X1 : ℕ
  X1 = Rings + ((ROUND + 2 * SLACK) + 2 * (WINDOW + 2 * SLACK) + 2 * long)

  abbrev Last : ℕ
  Last = X1 + long

  abbrev X2 : ℕ
  X2 = Last + longest_headless long D + 1

  abbrev UpTo : ℕ → Type 0
  UpTo x = Cut 0 x (λ lines. Unit {0}) World

  upto : (x : ℕ) → UpTo x
  upto x = up_to set events possible late long t stays s fair s-in up prompt honest life x

  in-upto : (x : ℕ) (o : UpTo x) (z : List Line) → Within z World → time_of (dids z) ≤ x → Within z o.h
  in-upto x o z w le = in_up_to set events possible late long t stays s fair s-in up prompt honest life x o z w le

  -- if nobody wins from X0 until X2
  module _ (until : X2 ≤ t) (none : NoneWins X0 X2 World) where
    P0 : UpTo X0
    P0 = upto X0

    P1 : UpTo X1
    P1 = upto X1

    E : UpTo Last
    E = upto Last

    s-0 : Within s P0.h
    s-0 = in-upto X0 P0 s s-in (omega arith)

    in-e : (z : List Line) → Within z World → time_of (dids z) ≤ Last → Within z E.h
    in-e z w le = in-upto Last E z w le

    o-1 : Within P0.h P1.h
    o-1 = let le = P0.upto in in-upto X1 P1 P0.h P0.within (omega (arith, le))

    o-e : Within P0.h E.h
    o-e = let le = P0.upto in in-e P0.h P0.within (omega (arith, le))

    -- who is master then has been since X0
    lasting : (n : ℕ) (g : List Line) → Within g World → Within P0.h g → time_of (dids g) ≤ X2 → role_of n g ≡ Master → LeadsOn n first_port P0.h g
    lasting n g w after le is =
        let e : Reign setting n first_port long g = reign setting g (fits_at setting g World good w) (won-at g w) long quick n first_port is in
        let e-in = Within_through (e.w ∷ e.wb) g World e.place w in
        let low = place_time setting (e.w ∷ e.wb) g (fits_at setting g World good w) e.place in
        let early : Within (e.w ∷ e.wb) P0.h = elim (cases_lt e.w.did.step.at X0) [
          | inl less ↦ P0.all e.w e.wb e-in (omega (arith, less))
          | inr more ↦ absurd (none e.w e.wb e-in more (omega (arith, low, le)) e.port e.wins)
        ] in
        leads_later n first_port (e.w ∷ e.wb) P0.h g e.lasts early after

    -- so somebody is master at Last
    somebody : ((n : ℕ) → stays n ≡ true → role_of n E.h ≢ Master) → ⊥
    somebody nobody =
        let s-e = Within_through s P0.h E.h s-0 o-e in
        let same = λ (n : ℕ). ap delay (same_word good fair s-in n E.h E.within s-e) in
        let le = clocked_runs_get_master clocks header setting events late long X2 stays first E.h set possible unstrict
        (record {
          attended = fair.attended;
          slack = fair.slack;
          told = λ n there q. sooner late (setting.tick n t) (setting.tick n X2) (view q (of n World)) (tick_mono setting n X2 t until) (fair.told n there q);
          wire = fair.wire;
          calm = calm_from long stays s E.h World s-e fair.calm;
          delivered = λ l older p d posts since there early. fair.delivered l older p d posts (Within_through s E.h older s-e since) there
              (omega (arith, early, until));
          mild = fair.mild;
        }) E.within
        (λ n there before after inside. up n there before (Within_through s E.h before s-e after) inside)
        (record {
          there = fore.there;
          may = fore.may;
          first = λ n there may other. let less = fore.first n there may other in let one = same n in let two = same first in omega (arith, less, one, two);
        })
        (λ h w v le n there is. nobody n there
        (leads_later n first_port P0.h E.h h (lasting n h w (Within_through P0.h E.h h o-e v) le is) o-e v).master) in
        let time = E.upto in
        let word = same first in
        omega (arith, le, time, word)

    -- a change by X1 is one up to a later place
    changed-in : (n by : ℕ) (early : List Seen) (g : List Line) → Within P1.h g → by ≤ X1 → ChangedBy by early (view first_port (of n World)) →
        Changed early (view first_port (of n g))
    changed-in n by early g after le ch =
        let o = shown first_port (of n World) (Here ch.change) ch.before ch.place in
        let l = lift n World o.line o.rest o.place in
        let soon = ch.soon in
        let time : o.line.did.step.at ≡ ch.change.step.at = seen-time ((o.line.port.0 == first_port.0) || is_shared o.line.did.deed) o.line.did o.is in
        let inside = Within_through (o.line ∷ l.world) P1.h g (P1.all o.line l.world l.place (omega (arith, soon, time, le))) after in
        let own : Within (o.line ∷ o.rest) (of n g) = subst (λ z. Within (o.line ∷ z) (of n g)) l.own (own_in n o.line l.world g l.node inside) in
        let seen = view_within first_port (o.line ∷ o.rest) (of n g) own in
        record {
          change = ch.change;
          before = ch.before;
          place = subst (λ z. Within z (view first_port (of n g))) (ap (λ v. v ∷ view first_port o.rest) o.is ∙ ap (λ v. Here ch.change ∷ v) o.before) seen;
          since = ch.since;
          is = ch.is;
        }
      where
        seen-time : (b : Bool) (d : Did) → seen_as b d ≡ Here ch.change → d.step.at ≡ ch.change.step.at
        seen-time true d e = let same : d ≡ ch.change = cc in ap (λ (z : Did). z.step.at) same
        seen-time false d e = let bad : ⊥ = cc in absurd bad

    -- it is c
    module _ (c : ℕ) (there : stays c ≡ true) (leads : role_of c E.h ≡ Master) where
      c-lasts : LeadsOn c first_port P0.h E.h
      c-lasts = let le = E.upto in lasting c E.h E.within o-e (omega (arith, le)) leads

      c-leads : (h : List Line) → Within P0.h h → Within h E.h → role_of c h ≡ Master
      c-leads h v u = (leads_later c first_port P0.h h E.h c-lasts v u).master

      alone-of : (n : ℕ) → stays n ≡ true → HasOnePort header n first_port
      alone-of n here = only_port (node_in header n).ports (fair.wire.single n here) (node_in header n) refl

      -- no other is after X1, since one of the two had stopped by then
      no-other : (g : List Line) → Within g World → Within P1.h g → time_of (dids g) ≤ Last → (n : ℕ) → stays n ≡ true → (n == c) ≡ false →
          role_of n g ≢ Master
      no-other g w after le n here other is =
          let low = P0.upto in
          let slack = fair.slack in
          let r : RoundRang setting late c P0.h World Rings = ringing set World (clocked_runs_by_table clocks header events) good (manner_of header)
          (clocked_runs_wake clocks header events).0 (clocked_runs_wake clocks header events).1 late long t c stays P0.h fair.attended fair.slack
          (fair.told c there) (one_of set events possible late long t stays s fair s-in up prompt honest life c there)
          (delivered_from setting long t stays s P0.h World s-0 fair.delivered) P0.within Rings n here other (omega (arith, until)) (omega (arith, low))
          (λ h v u soon. c-leads h u (in-e h v (omega (arith, soon)))) in
          let line = line_on first_port r.ring in
          let soon = r.upto in
          let small = setting.small in
          let ring-1 : Within (line ∷ r.older) P1.h = P1.all line r.older r.place (omega (arith, soon)) in
          let c-on = leads_later c first_port P0.h (line ∷ r.older) E.h c-lasts (inr r.since) (in-e (line ∷ r.older) r.place (omega (arith, soon))) in
          let n-on = leads_later n first_port P0.h (line ∷ r.older) g (lasting n g w (Within_through P0.h P1.h g o-1 after) (omega (arith, le)) is)
          (inr r.since) (Within_through (line ∷ r.older) P1.h g ring-1 after) in
          let two : TwoLead header setting late t stays s c n first_port first_port line r.older World = record {
            place = r.place;
            since = Within_through s P0.h r.older s-0 r.since;
            first = record { alone = alone-of c there; master = c-on.master; stays_is = there; told = fair.told c there };
            second = record { alone = alone-of n here; master = n-on.master; stays_is = here; told = fair.told n here };
            net = fair.wire.net c n there here;
            apart = differ n c other;
          } in
          let rounds : Spans setting (ROUND + late) (ROUND + 2 * SLACK) = omega (arith, small, slack) in
          let windows : Spans setting (WINDOW + late) (WINDOW + 2 * SLACK) = omega (arith, small, slack) in
          elim (clocked_runs_leave_one clocks header setting events late long t stays s set possible fair.attended fair.slack fair.delivered quick c n
          first_port first_port line r.older (ROUND + 2 * SLACK) (WINDOW + 2 * SLACK) two rounds windows (omega (arith, soon, until))) [
            | inl ch ↦ c-on.stays (changed-in c (line.did.step.at + ((ROUND + 2 * SLACK) + 2 * (WINDOW + 2 * SLACK) + 2 * long))
                (view first_port (of c (line ∷ r.older))) E.h (let le = P1.upto in in-e P1.h P1.within (omega (arith, le))) (omega (arith, soon)) ch)
            | inr ch ↦ n-on.stays (changed-in n (line.did.step.at + ((ROUND + 2 * SLACK) + 2 * (WINDOW + 2 * SLACK) + 2 * long))
                (view first_port (of n (line ∷ r.older))) g after (omega (arith, soon)) ch)
          ]

      s-1 : Within s P1.h
      s-1 = Within_through s P0.h P1.h s-0 o-1

      leads-alone : LeadUntil stays c Last P1.h World
      leads-alone g w v le = record {
        leads = c-leads g (Within_through P0.h P1.h g o-1 v) (in-e g w le);
        alone = no-other g w v le;
      }

      leads-on : LeadUntil stays c t P1.h World
      leads-on = lead_only set events possible late long t fair.attended fair.slack stays c s
          (one_of set events possible late long t stays s fair s-in up prompt honest life c there) fair.calm fair.delivered prompt
          (all_awake set events possible late long t stays s fair s-in up prompt honest life) honest life P1.h P1.within s-1 X1 P1.upto (omega arith)
          leads-alone

      followed : Settles setting long t stays D s World
      followed = record {
        leader = c;
        there = there;
        all = λ g w settled le. let low = P1.upto in
            follow_from set events possible late long t stays s fair s-in up prompt honest life c there P1.h P1.within s-1 leads-on g w
            (omega (arith, settled, low)) le;
      }

    settles-quietly : Settles setting long t stays D s World
    settles-quietly = elim (leader_or stays E.h (setting.members (setting.net first first_port))) [
      | inl l ↦ followed l.node l.there l.leads
      | inr nobody ↦ absurd (somebody (λ n there. nobody (peer_of n) (in_among (peer_of n) (setting.members (setting.net first first_port))
          (subst (λ k. is_among (peer_of n) (setting.members k) ≡ true) (fair.wire.net n first there fore.there) (setting.own n first_port))) there))
    ]

  pub settles : Settles setting long t stays D s World
  settles = elim (cases_lt t X2) [
    | inl short ↦ record { leader = first; there = fore.there; all = λ g w settled le. absurd (omega (arith, short, settled, le)) }
    | inr until ↦ elim (win_or_none X0 X2 World) [
      | inl o ↦
          let low = o.low in
          let high = o.high in
          let since = after_s set World (clocked_runs_by_table clocks header events) good (manner_of header) (clocked_runs_wake clocks header events).0
          (clocked_runs_wake clocks header events).1 late long t first stays s fair.attended fair.slack (fair.told first fore.there)
          (one_of set events possible late long t stays s fair s-in up prompt honest life first fore.there) fair.delivered s-in o.line o.older o.place
          (omega (arith, low)) in
          let there = fair.calm.only o.line o.older o.place since in
          record {
            leader = node_of o.line;
            there = there;
            all = λ g w settled le. won_followed set events possible late long t stays s fair s-in up prompt honest life o.line o.older o.place
                (node_of o.line) there refl o.port o.wins (omega (arith, low)) (omega (arith, high, until)) g w (omega (arith, settled, high)) le;
          }
      | inr none ↦ settles-quietly until none
    ]
  ]

pub clocked_runs_settle : ClockedRunsSettle
clocked_runs_settle clocks header setting events late long t stays c s set possible unstrict fair s-in up fore prompt honest life =
    settles set events possible late long t stays s fair s-in up prompt honest life unstrict c fore

pub runs_settle : RunsSettle
runs_settle header setting events late long t stays c s set possible unstrict = subst (λ h. Fair header setting late long t stays s h → Within s h →
    AllUp stays s h → Foremost header setting late long stays c s → IsPrompt setting long → Honest h → Life h →
    Settles setting long t stays (delay_of c s) s h)
    (runs_by_own_clocks header events)
    (clocked_runs_settle (clocks_of header) header setting events late long t stays c s (set_own header setting set)
    (possible_own header events possible) unstrict)
