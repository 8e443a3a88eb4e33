-- Who leads alone in a calm network leads on, nobody else wins, and all come to follow it.
use Rattle.std.proofs.Common.{sym, ap, subst, arith, true≢false, inl, inr, ◌∙◌, ◌≡◌, ◌≢◌, ◌≤◌, ◌<◌, ℕ, ◌+◌, Bool, true, List, []}
use Rattle.std.proofs.Common.{◌∷◌, eq-eqb, refl}
use Rattle.std.proofs.lemmas.Bool.{cases_lt}
use Rattle.tsp_rules.specs.Values.{Become, Event, PeerId, Peer, Port, QuitKind, Role, Starting, Loose, Follow, Candidate, Master, SLACK, Boot}
use Rattle.tsp_base.specs.Words.{Acts, HeaderValue, Line, Within, dids, first_port, of, peer_of, role, time_of, view}
use Rattle.tsp_base.proofs.PlaceLemmas.{Within_all, Within_comparable, Within_none, Within_tail, Within_through}
use Rattle.tsp_promises.specs.{Fits.Fits, Fits.node_of, HoldFits.YieldFits, Premises.Honest, Premises.Life, Setting.Setting, Setting.setup_of}
use Rattle.tsp_promises.proofs.promised.OwnFitsProof.{deed_fits, fits_at, fits_in, place_time, seen_in}
use Rattle.tsp_run.specs.Clocked.{Clocks, PossibleBy, SetByClocks, clocks_of, run_by}
use Rattle.tsp_run.proofs.{OwnClocks.possible_own, OwnClocks.runs_by_own_clocks, OwnClocks.set_own, RunFits.clocked_runs_fit}
use Rattle.tsp_progress.specs.{AckedInTime.IsPrompt, Calling.CallsFit, Delivered.Delivered, FollowOn.Calm, FollowOn.OneNetwork, FollowOn.role_of}
use Rattle.tsp_progress.specs.{Watched.Attended}
use Rattle.tsp_progress.specs.Gather.{AllTold, AllAwake, LeadUntil, LeadsOnly}
use Rattle.tsp_progress.specs.LeadFrom.{ClockedRunsComeToWinner, ClockedRunsLeadFromWin, ComeToWinner, LeadFrom, NoOther, RunsComeToWinner, RunsLeadFromWin}
use Rattle.tsp_progress.specs.LeadFrom.{WinsAlone}
use Rattle.tsp_progress.specs.LeadOnly.{ClockedRunsComeToLeader, ClockedRunsLeadOnly, ComeTo, LeadOnly, RunsComeToLeader, RunsLeadOnly, candidatures_after}
use Rattle.tsp_progress.specs.RolesLast.{EndFits, RoleFits, RolesLast, StopsLeading, TookOf}
use Rattle.tsp_progress.proofs.{CallingProof.clocked_runs_call, FollowProof.owes_at, FollowProof.role_kept, GatherCalls.up_on}
use Rattle.tsp_progress.proofs.{GatherPlaces.from_c, GatherPlaces.source, GatherProof.clocked_runs_gather, LeadOnlyWins.none_wins, TimePlaces.before_time}
use Rattle.tsp_progress.proofs.{RolesProof.clocked_runs_keep_roles, StandKeeps.runs_sound}

-- what is calm from a place on is so from each later place on
pub calm_from : (long : ℕ) (stays : ℕ → Bool) (s h world : List Line) → Within s h → Calm long stays s world → Calm long stays h world
calm_from long stays s h world w calm = record {
  only = λ l older v u. calm.only l older v (Within_through s h older w u);
  unbooted = λ l older v u. calm.unbooted l older v (Within_through s h older w u);
  unhanded = λ l older v u. calm.unhanded l older v (Within_through s h older w u);
  unsent = λ l older v u. calm.unsent l older v (Within_through s h older w u);
  soon = λ l older v u. calm.soon l older v (Within_through s h older w u);
}

pub delivered_from : (setting : Setting) (long t : ℕ) (stays : ℕ → Bool) (s h world : List Line) → Within s h → Delivered setting long t stays s world →
    Delivered setting long t stays h world
delivered_from setting long t stays s h world w d l older p datagram posts since = d l older p datagram posts (Within_through s h older w since)

-- a line more than `long` after the place h, since which c led alone: it stays master
module _ (setting : Setting) (world : List Line) (fits : Fits setting world) (calls : CallsFit world) (roles : RolesLast world) (long c : ℕ) (stays : ℕ → Bool)
    (h : List Line) (h-in : Within h world) (net : (n : ℕ) → stays n ≡ true → setting.net n first_port ≡ setting.net c first_port)
    (calm : Calm long stays h world) (l : Line) (older : List Line) (place : Within (l ∷ older) world) (since : Within h older)
    (later : time_of (dids h) + long < l.did.step.at) (sofar : (g : List Line) → Within g older → Within h g → NoOther stays c g)
    (leads-now : role_of c older ≡ Master) where
  same_peer_place : (p q : PeerId) → Peer p ≡ Peer q → p ≡ q
  same_peer_place p q e = cc

  quit_no : (p : PeerId) → l.did.deed ≡ Acts (Become (Follow p)) → node_of l ≡ c → l.port ≡ first_port →
      TookOf QuitKind p (view l.port (of (node_of l) older)) → ⊥
  quit_no p act node port q =
      let o = source setting world fits calls long c stays h h-in net calm l older place later port (Become (Follow p)) act (Peer p) q.message q.took in
      let own = from_c setting world fits calls long c stays h h-in net calm l older place later port p q.message o (rw q.kind_is refl) sofar in
      let from : p.0 ≡ node_of o.post = ap (λ (z : PeerId). z.0) (same_peer_place p (peer_of (node_of o.post)) o.from_is) in
      true≢false (sym (eq-eqb (node_of o.post) (node_of l) (sym from ∙ own ∙ sym node)) ∙ o.other)

  loop_no : l.did.deed ≡ Acts (Become Loose) → node_of l ≡ c → l.port ≡ first_port → ⊥
  loop_no act node port =
      let n = node_of l in
      let leads : role (view l.port (of n older)) ≡ Master =
      subst (λ k. role (view l.port (of k older)) ≡ Master) (sym node) (subst (λ q. role (view q (of c older)) ≡ Master) (sym port) leads-now) in
      let yields : role (view l.port (of n older)) ≡ Master → YieldFits (setup_of setting n l.port) (view l.port (of n older)) =
      deed_fits setting l older (Acts (Become Loose)) act (fits_in setting l older world fits place) in
      let y = yields leads in
      let less = y.number in
      let zero : l.port.0 ≡ 0 = ap (λ (q : Port). q.0) port in
      omega (arith, less, zero)

  pub master_stays : node_of l ≡ c → l.port ≡ first_port → (r : Role) → l.did.deed ≡ Acts (Become r) → ⊥
  master_stays node port r act = by_role r act ended where
    leads : role (view l.port (of (node_of l) older)) ≡ Master
    leads = subst (λ k. role (view l.port (of k older)) ≡ Master) (sym node) (subst (λ q. role (view q (of c older)) ≡ Master) (sym port) leads-now)

    owed : RoleFits l.did.deed l.did (view l.port (of (node_of l) older))
    owed = owes_at RoleFits l.did (view l.port (of (node_of l) older)) (view l.port (of (node_of l) world)) (seen_in (node_of l) l older world refl place)
        (roles (node_of l) l.port)

    ended : StopsLeading r (view l.port (of (node_of l) older))
    ended = subst (λ k. EndFits k r l.did (view l.port (of (node_of l) older))) leads
        (subst (λ d. RoleFits d l.did (view l.port (of (node_of l) older))) act owed)

    by_role : (r : Role) → l.did.deed ≡ Acts (Become r) → StopsLeading r (view l.port (of (node_of l) older)) → ⊥
    by_role (Follow p) act q = quit_no p act node port q
    by_role Loose act q = loop_no act node port
    by_role Starting act q = q
    by_role Candidate act q = q
    by_role Master act q = q

module _ {clocks : Clocks} {header : HeaderValue} {setting : Setting} (set : SetByClocks clocks header setting) (events : List Event)
    (possible : PossibleBy clocks header events) (late long t : ℕ) (attended : Attended late (run_by clocks header events)) (slack : late ≤ SLACK)
    (stays : ℕ → Bool) (c : ℕ) (s : List Line) (one : OneNetwork header setting stays c) (calm : Calm long stays s (run_by clocks header events))
    (delivered : Delivered setting long t stays s (run_by clocks header events)) (prompt : IsPrompt setting long) (up : AllAwake stays s)
    (honest : Honest (run_by clocks header events)) (life : Life (run_by clocks header events)) (h : List Line) (h-in : Within h (run_by clocks header events))
    (s-in : Within s h) (from : ℕ) (early : time_of (dids h) ≤ from) (settled : time_of (dids s) + candidatures_after ≤ from) where
  abbrev World : List Line
  World = run_by clocks header events

  fits : Fits setting World
  fits = (clocked_runs_fit clocks header setting events set possible).0

  next : (l : Line) (older : List Line) → Within (l ∷ older) World → Within h older → l.did.step.at ≤ t → from + long < l.did.step.at →
      ((g : List Line) → Within g older → Within h g → NoOther stays c g) → LeadsOnly stays c older → LeadsOnly stays c (l ∷ older)
  next l older place since until later sofar now = record {
    leads = role_kept c l older unbooted (λ node port r act. master_stays setting World fits (clocked_runs_call clocks header setting events set possible)
        (clocked_runs_keep_roles clocks header setting events set possible) long c stays h h-in one.net (calm_from long stays s h World s-in calm) l older place
        since (omega (arith, later, early)) sofar now.leads node port r act) ∙ now.leads;
    alone = λ n there other is. now.alone n there other (sym (role_kept n l older unbooted (λ node port r act.
        none_wins set events possible late long t attended slack stays c s one calm delivered prompt
        (λ f here g w v. up_on World long stays s calm up (λ k. runs_sound clocks header events k first_port) f here g w v) honest life l older place
        (Within_through s h older s-in since) until late-enough older (Within_all older)
        (λ k kb v less. before_time setting World fits k kb l older v place (omega (arith, less))) now.leads n there other (now.alone n there other) is)) ∙ is);
  } where
    unbooted : l.did.deed ≢ Acts Boot
    unbooted = calm.unbooted l older place (Within_through s h older s-in since)

    late-enough : time_of (dids s) + candidatures_after ≤ l.did.step.at
    late-enough = omega (arith, settled, later)

  -- if it led alone until `long` after that time
  module _ (start : LeadUntil stays c (from + long) h World) where
    upto : (k : List Line) → Within k World → time_of (dids k) ≤ t → (g : List Line) → Within g k → Within h g → LeadsOnly stays c g
    upto [] w le g v u = start g (subst (λ z. Within z World) (sym v) w) u (subst (λ (z : List Line). time_of (dids z) ≤ from + long) (sym v)
        (omega arith))
    upto (l ∷ older) w le g (inr v) u = upto older (Within_tail l older World w) (let order = (fits_in setting l older World fits w).order in
        omega (arith, order, le)) g v u
    upto (l ∷ older) w le g (inl e) u = subst (LeadsOnly stays c) (sym e) (newest (subst (Within h) e u)
        (λ le k v i. upto older (Within_tail l older World w) le k v i)) where
          order : time_of (dids older) ≤ l.did.step.at
          order = (fits_in setting l older World fits w).order

          newest : Within h (l ∷ older) → (time_of (dids older) ≤ t → (k : List Line) → Within k older → Within h k → LeadsOnly stays c k) →
              LeadsOnly stays c (l ∷ older)
          newest (inl same) before = start (l ∷ older) w (inl same) (let time = ap (λ (z : List Line). time_of (dids z)) same in omega (arith, time, early))
          newest (inr since) before = elim (cases_lt (from + long) l.did.step.at) [
            | inl later ↦
                let sofar = before (omega (arith, order, le)) in
                next l older w since le later (λ g v i. (sofar g v i).alone) (sofar older (Within_all older) since)
            | inr none ↦ start (l ∷ older) w (inr since) none
          ]

    pub lead_only : LeadUntil stays c t h World
    lead_only g w v le = upto g w le g (Within_all g) v

  -- if it is master at a line more than `long` after that time, and nobody else was since the place h
  module _ (x : Line) (xo : List Line) (won : WinsAlone long stays c h x xo World) (late-x : from + long < x.did.step.at) where
    from-win : (k : List Line) → Within k World → time_of (dids k) ≤ t → (g : List Line) → Within g k → Within (x ∷ xo) g → LeadsOnly stays c g
    from-win [] w le g v u = Within_none x xo (subst (λ z. Within (x ∷ xo) z) v u)
    from-win (l ∷ older) w le g (inr v) u = from-win older (Within_tail l older World w) (let order = (fits_in setting l older World fits w).order in
        omega (arith, order, le)) g v u
    from-win (l ∷ older) w le g (inl e) u = subst (LeadsOnly stays c) (sym e) (newest (subst (Within (x ∷ xo)) e u)
        (λ le k v i. from-win older (Within_tail l older World w) le k v i)) where
          order : time_of (dids older) ≤ l.did.step.at
          order = (fits_in setting l older World fits w).order

          first : LeadsOnly stays c (x ∷ xo)
          first = record { leads = won.wins; alone = won.alone (x ∷ xo) (Within_all (x ∷ xo)) (inr won.since) }

          newest : Within (x ∷ xo) (l ∷ older) → (time_of (dids older) ≤ t → (k : List Line) → Within k older → Within (x ∷ xo) k → LeadsOnly stays c k) →
              LeadsOnly stays c (l ∷ older)
          newest (inl same) before = subst (LeadsOnly stays c) same first
          newest (inr after) before =
              let sofar = before (omega (arith, order, le)) in
              let older-in = Within_tail l older World w in
              let low = place_time setting (x ∷ xo) older (fits_at setting older World fits older-in) after in
              next l older w (Within_through h (x ∷ xo) older (inr won.since) after) le (omega (arith, low, order, late-x))
              (λ g v i. elim (Within_comparable g (x ∷ xo) older v after) [
                | inl early ↦ won.alone g early i
                | inr rest ↦ (sofar g v rest).alone
              ]) (sofar older (Within_all older) after)

    pub lead_from : LeadUntil stays c t (x ∷ xo) World
    lead_from g w v le = from-win g w le g (Within_all g) v

pub clocked_runs_lead_only : ClockedRunsLeadOnly
clocked_runs_lead_only clocks header setting events late long t stays c s set possible attended slack one calm delivered prompt up honest life h w v settled
    start = lead_only set events possible late long t attended slack stays c s one calm delivered prompt up honest life h w v (time_of (dids h)) (omega arith)
    settled start

pub runs_lead_only : RunsLeadOnly
runs_lead_only header setting events late long t stays c s set possible = subst (λ h. Attended late h → late ≤ SLACK → OneNetwork header setting stays c →
    Calm long stays s h → Delivered setting long t stays s h → IsPrompt setting long → AllAwake stays s → Honest h → Life h → LeadOnly long t stays c s h)
    (runs_by_own_clocks header events)
    (clocked_runs_lead_only (clocks_of header) header setting events late long t stays c s (set_own header setting set) (possible_own header events possible))

pub clocked_runs_come_to_leader : ClockedRunsComeToLeader
clocked_runs_come_to_leader clocks header setting events late long t stays c s set possible attended slack told one calm delivered prompt up honest life h w v
    settled start g u i =
    let world = run_by clocks header events in
    clocked_runs_gather clocks header setting events late long t stays c h set possible attended slack told one (calm_from long stays s h world v calm)
    (delivered_from setting long t stays s h world v delivered) (omega (arith, prompt))
    (λ n there. up_on world long stays s calm up (λ k. runs_sound clocks header events k first_port) n there h v w)
    (lead_only set events possible late long t attended slack stays c s one calm delivered prompt up honest life h w v (time_of (dids h)) (omega arith) settled
    start) g u i

pub runs_come_to_leader : RunsComeToLeader
runs_come_to_leader header setting events late long t stays c s set possible = subst (λ h. Attended late h → late ≤ SLACK → AllTold late setting t stays h →
    OneNetwork header setting stays c → Calm long stays s h → Delivered setting long t stays s h → IsPrompt setting long → AllAwake stays s → Honest h →
    Life h →
    ComeTo setting long t stays c s h)
    (runs_by_own_clocks header events)
    (clocked_runs_come_to_leader (clocks_of header) header setting events late long t stays c s (set_own header setting set)
    (possible_own header events possible))

pub clocked_runs_lead_from_win : ClockedRunsLeadFromWin
clocked_runs_lead_from_win clocks header setting events late long t stays c s set possible attended slack one calm delivered prompt up honest life h l older v
    settled won =
    lead_from set events possible late long t attended slack stays c s one calm delivered prompt up honest life h
    (Within_through h older (run_by clocks header events) won.since (Within_tail l older (run_by clocks header events) won.place)) v (time_of (dids h))
    (omega arith) settled l older won won.late

pub runs_lead_from_win : RunsLeadFromWin
runs_lead_from_win header setting events late long t stays c s set possible = subst (λ h. Attended late h → late ≤ SLACK → OneNetwork header setting stays c →
    Calm long stays s h → Delivered setting long t stays s h → IsPrompt setting long → AllAwake stays s → Honest h → Life h → LeadFrom long t stays c s h)
    (runs_by_own_clocks header events)
    (clocked_runs_lead_from_win (clocks_of header) header setting events late long t stays c s (set_own header setting set)
    (possible_own header events possible))

pub clocked_runs_come_to_winner : ClockedRunsComeToWinner
clocked_runs_come_to_winner clocks header setting events late long t stays c s set possible attended slack told one calm delivered prompt up honest life h l
    older v settled won g u i =
    let world = run_by clocks header events in
    let there = Within_through s (l ∷ older) (l ∷ older) (inr (Within_through s h older v won.since)) (Within_all (l ∷ older)) in
    clocked_runs_gather clocks header setting events late long t stays c (l ∷ older) set possible attended slack told one
    (calm_from long stays s (l ∷ older) world there calm) (delivered_from setting long t stays s (l ∷ older) world there delivered) (omega (arith, prompt))
    (λ n here. up_on world long stays s calm up (λ k. runs_sound clocks header events k first_port) n here (l ∷ older) there won.place)
    (clocked_runs_lead_from_win clocks header setting events late long t stays c s set possible attended slack one calm delivered prompt up honest life h l
    older
    v settled won) g u i

pub runs_come_to_winner : RunsComeToWinner
runs_come_to_winner header setting events late long t stays c s set possible = subst (λ h. Attended late h → late ≤ SLACK → AllTold late setting t stays h →
    OneNetwork header setting stays c → Calm long stays s h → Delivered setting long t stays s h → IsPrompt setting long → AllAwake stays s → Honest h →
    Life h → ComeToWinner setting long t stays c s h)
    (runs_by_own_clocks header events)
    (clocked_runs_come_to_winner (clocks_of header) header setting events late long t stays c s (set_own header setting set)
    (possible_own header events possible))
