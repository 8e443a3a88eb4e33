-- In a calm network whoever wins has been master alone for `long` since, so it leads on alone, and all come to follow it.
use Rattle.std.proofs.Common.{sym, ap, arith, true≢false, inl, inr, ◌∙◌, ◌≡◌, ◌≢◌, ◌≤◌, ◌<◌, ℕ, ◌+◌, ◌-◌, Bool, true}
use Rattle.std.proofs.Common.{List, [], ◌∷◌, eq-eqb, length}
use Rattle.tsp_rules.specs.Values.{Become, Candidate, Event, Master}
use Rattle.tsp_base.specs.Words.{Acts, HeaderValue, Line, Within, dids, first_port, of, role, time_of, view}
use Rattle.tsp_base.proofs.PlaceLemmas.{Within_all, Within_comparable, Within_tail, Within_through}
use Rattle.tsp_promises.specs.{Fits.Fits, Fits.node_of, HoldFits.LeadFits, Premises.Honest, Premises.Life, Setting.Setting, Setting.setup_of}
use Rattle.tsp_promises.proofs.promised.OwnFitsProof.{deed_fits, fits_at, fits_in, place_time}
use Rattle.tsp_run.specs.Clocked.{Clocks, PossibleBy, SetByClocks, run_by}
use Rattle.tsp_run.proofs.{RunFits.clocked_runs_fit}
use Rattle.tsp_progress.specs.{AckedInTime.IsPrompt, FollowOn.AllFollow, FollowOn.OneNetwork, FollowOn.role_of}
use Rattle.tsp_progress.specs.Gather.{AllAwake, LeadUntil, gathered_after, others_of}
use Rattle.tsp_progress.specs.Headless.{AllUp, Fair}
use Rattle.tsp_progress.specs.{LeadFrom.NoOther, LeadFrom.WinsAlone, LeadOnly.candidatures_after}
use Rattle.tsp_progress.proofs.{FollowCalls.Cut, FollowCalls.cut, FollowHeard.nil_within, FollowProof.role_kept, GatherCalls.up_on}
use Rattle.tsp_progress.proofs.{GatherPlaces.role_becomes, GatherProof.clocked_runs_gather, LeadOnlyProof.calm_from, LeadOnlyProof.delivered_from}
use Rattle.tsp_progress.proofs.{LeadOnlyProof.lead_from, LeadOnlyWins.none_wins, PortSetups.differ, StandKeeps.runs_sound}

module _ {clocks : Clocks} {header : HeaderValue} {setting : Setting} (set : SetByClocks clocks header setting) (events : List Event)
    (possible : PossibleBy clocks header events) (late long t : ℕ) (stays : ℕ → Bool) (s : List Line)
    (fair : Fair header setting late long t stays s (run_by clocks header events)) (s-in : Within s (run_by clocks header events))
    (up : AllUp stays s (run_by clocks header events)) (prompt : IsPrompt setting long) (honest : Honest (run_by clocks header events))
    (life : Life (run_by clocks header events)) where
  abbrev World : List Line
  World = run_by clocks header events

  pub fits : Fits setting World
  fits = (clocked_runs_fit clocks header setting events set possible).0

  pub one_of : (n : ℕ) → stays n ≡ true → OneNetwork header setting stays n
  one_of n there = record { there = there; single = fair.wire.single n there; net = λ m here. fair.wire.net m n here there }

  pub all_awake : AllAwake stays s
  all_awake n there = up n there s (Within_all s) s-in

  -- the history up to a true time
  abbrev pub UpTo : ℕ → Type 0
  UpTo x = Cut 0 x (λ lines. Unit {0}) World

  pub up_to : (x : ℕ) → UpTo x
  up_to x = cut setting 0 x (λ lines. Unit {0}) World fits (λ k w v begins node later. tt) tt

  pub in_up_to : (x : ℕ) (o : UpTo x) (z : List Line) → Within z World → time_of (dids z) ≤ x → Within z o.h
  in_up_to x o [] w le = nil_within o.h
  in_up_to x o (l ∷ older) w le = o.all l older w le

  -- a place with a later time stands after
  pub in_order : (g h : List Line) → Within g World → Within h World → time_of (dids g) < time_of (dids h) → Within g h
  in_order g h v w less = elim (Within_comparable g h World v w) [
    | inl u ↦ u
    | inr u ↦ absurd (let le = place_time setting h g (fits_at setting g World fits v) u in omega (arith, le, less))
  ]

  -- if n leads alone from a place on, all come to follow it
  pub follow_from : (n : ℕ) → stays n ≡ true → (p : List Line) → Within p World → Within s p → LeadUntil stays n t p World → (g : List Line) →
      Within g World → time_of (dids p) + gathered_after long (length (others_of setting stays n)) ≤ time_of (dids g) → time_of (dids g) ≤ t →
      AllFollow stays n g
  follow_from n there p p-in s-p lead g w after le =
      clocked_runs_gather clocks header setting events late long t stays n p set possible fair.attended fair.slack fair.told (one_of n there)
      (calm_from long stays s p World s-p fair.calm) (delivered_from setting long t stays s p World s-p fair.delivered) (omega (arith, prompt))
      (λ m here. up_on World long stays s fair.calm all_awake (λ k. runs_sound clocks header events k first_port) m here p s-p p-in)
      lead g w (in_order p g p-in w (omega (arith, after))) after le

  -- node n wins at the line l
  module _ (l : Line) (older : List Line) (place : Within (l ∷ older) World) (n : ℕ) (there : stays n ≡ true) (node : node_of l ≡ n)
      (port : l.port ≡ first_port) (wins : l.did.deed ≡ Acts (Become Master))
      (settled : time_of (dids s) + candidatures_after + (long + 1) ≤ l.did.step.at) (until : l.did.step.at ≤ t) where
    Time : ℕ
    Time = l.did.step.at - (long + 1)

    time-is : Time + (long + 1) ≡ l.did.step.at
    unfolding Time
    time-is = omega (arith, settled)

    o : UpTo Time
    o = up_to Time

    older-in : Within older World
    older-in = Within_tail l older World place

    s-then : Within s o.h
    s-then = let is = time-is in in_up_to Time o s s-in (omega (arith, is, settled))

    then-older : Within o.h older
    then-older = elim (Within_comparable o.h (l ∷ older) World o.within place) [
      | inl (inl e) ↦ absurd (let same = ap (λ (z : List Line). time_of (dids z)) e in let le = o.upto in let is = time-is in
          omega (arith, same, le, is))
      | inl (inr u) ↦ u
      | inr u ↦ absurd (let low = place_time setting (l ∷ older) o.h (fits_at setting o.h World fits o.within) u in let le = o.upto in let is = time-is in
          omega (arith, low, le, is))
    ]

    since : Within s older
    since = Within_through s o.h older s-then then-older

    leads : role_of n (l ∷ older) ≡ Master
    leads = role_becomes n l older Master node port wins

    not-yet : role_of n older ≢ Master
    not-yet was =
        let fit : LeadFits (setup_of setting (node_of l) l.port) l.did (view l.port (of (node_of l) older)) =
        deed_fits setting l older (Acts (Become Master)) wins (fits_in setting l older World fits place) in
        let stands : role_of n older ≡ Candidate = ap (λ k. role_of k older) (sym node) ∙
        (ap (λ q. role (view q (of (node_of l) older))) (sym port) ∙ fit.stands) in
        let bad : Master ≡ Candidate = sym was ∙ stands in
        cc

    -- no other node was master for `long` before
    before-it : (g : List Line) → Within g older → Within o.h g → NoOther stays n g
    before-it g v after m here other is =
        let time = time-is in
        none_wins set events possible late long t fair.attended fair.slack stays m s (one_of m here) fair.calm fair.delivered prompt up honest life l older
        place since until (omega (arith, settled)) g v
        (λ k kb w less. Within_through (k ∷ kb) o.h g (o.all k kb w (omega (arith, less, time))) after) is n there (differ m n other) not-yet leads

    alone : (g : List Line) → Within g (l ∷ older) → Within o.h g → NoOther stays n g
    alone g (inr v) after m here other is = before-it g v after m here other is
    alone g (inl e) after m here other is = before-it older (Within_all older) then-older m here other
        (sym (role_kept m l older (fair.calm.unbooted l older place since) (λ node-m port-m r act.
        true≢false (sym (eq-eqb m n (sym node-m ∙ node)) ∙ other))) ∙ (ap (λ z. role_of m z) (sym e) ∙ is))

    won : WinsAlone long stays n o.h l older World
    won = record {
      place = place;
      since = then-older;
      late = (let le = o.upto in let is = time-is in omega (arith, le, is));
      wins = leads;
      alone = alone;
    }

    pub leads_on : LeadUntil stays n t (l ∷ older) World
    leads_on =
        let is = time-is in
        lead_from set events possible late long t fair.attended fair.slack stays n s (one_of n there) fair.calm fair.delivered prompt all_awake honest life
        o.h o.within s-then Time o.upto (omega (arith, is, settled)) l older won (omega (arith, is))

    -- so all come to follow it
    pub won_followed : (g : List Line) → Within g World → l.did.step.at + gathered_after long (length (others_of setting stays n)) ≤ time_of (dids g) →
        time_of (dids g) ≤ t → AllFollow stays n g
    won_followed g w after le = follow_from n there (l ∷ older) place (inr since) leads_on g w after le
