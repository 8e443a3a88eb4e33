-- Who stands for election asks each other member at once.
use Rattle.std.proofs.Common.{sym, ap, subst, ◌∙◌, ◌≡◌, ◌==◌, ℕ, true, false, List, ◌∷◌, refl}
use Rattle.tsp_rules.specs.Values.{PeerId, Port}
use Rattle.tsp_base.specs.Words.{Did, HeaderValue, Here, Line, Seen, Within, acting, is_among, is_shared, of, role, view}
use Rattle.tsp_base.proofs.PlaceLemmas.{Within_all}
use Rattle.tsp_promises.specs.{Fits.Fits, Fits.node_of, Setting.Setting}
use Rattle.tsp_promises.proofs.{shared.HistoryPlaces.line_on, promised.OwnFitsProof.Located, promised.OwnFitsProof.locate, promised.OwnFitsProof.seen_before}
use Rattle.tsp_promises.proofs.{promised.OwnFitsProof.seen_in}
use Rattle.tsp_run.specs.Clocked.{Clocks, SetByClocks, clocks_of, run_by}
use Rattle.tsp_run.proofs.{OwnClocks.possible_own, OwnClocks.runs_by_own_clocks, OwnClocks.set_own, RunFits.clocked_runs_fit}
use Rattle.tsp_progress.specs.AsksAll.{AsksAll, AsksPeer, BacksOwn, ClockedRunsAsk, RunsAsk}
use Rattle.tsp_progress.specs.{ByTable.ByTable, Heeds.is_candidate_role, OneAtATime.StandsAt}
use Rattle.tsp_progress.proofs.{PortSetups.PortIs, PortSetups.differ, PortSetups.member_port, StandActs.Sound, StandKeeps.runs_sound}
use Rattle.tsp_progress.proofs.{StandPlaces.asks_peer, StandPlaces.backs_itself, TableProof.clocked_runs_by_table}

module _ {clocks : Clocks} {header : HeaderValue} {setting : Setting} (set : SetByClocks clocks header setting) (world : List Line)
    (table : ByTable header world) (fits : Fits setting world) (sound : (n : ℕ) (q : Port) → Sound (view q (of n world))) (c : Line) (older : List Line)
    (st : StandsAt c older world) (p : PeerId) (member : is_among p (setting.members (setting.net (node_of c) c.port)) ≡ true)
    (other : (p.0 == node_of c) ≡ false) where
  abbrev N : ℕ
  N = node_of c

  abbrev Q : Port
  Q = c.port

  abbrev Idle : List Seen
  Idle = view Q (of N older)

  port : PortIs header setting N Q
  port = member_port set N Q p member (differ p.0 N other)

  stood_in : Within (Here c.did ∷ Idle) (view Q (of N world))
  stood_in = seen_in N c older world refl st.place

  -- a line of its own that it sees after it stood
  module _ (d : Did) (v : List Seen) (own : is_shared d.deed ≡ false) (place : Within (Here d ∷ v) (view Q (of N world)))
      (after : Within (Here c.did ∷ Idle) v) where
    there : Located N Q world d v
    there = locate N Q world d v own place

    later : Within (c ∷ older) there.older
    later = seen_before N Q c.did d older there.older world refl there.node st.place there.place
        (subst (λ s. Within (Here c.did ∷ Idle) s) (sym there.before) after)

  backs : BacksOwn c older world
  backs =
      let b = backs_itself world table fits sound N Q port c.did Idle stood_in st.stands st.unasked in
      let own : is_shared b.back.deed ≡ false = (let is = b.deed in rw is refl) in
      let l = there b.back (Here c.did ∷ Idle) own b.place (Within_all (Here c.did ∷ Idle)) in
      record {
        line = line_on Q b.back;
        before = l.older;
        place = l.place;
        later = later b.back (Here c.did ∷ Idle) own b.place (Within_all (Here c.did ∷ Idle));
        step = b.step;
        port = refl;
        own = b.own;
        deed = b.deed;
        own_is = b.own_is;
      }

  asks : AsksPeer c older world p
  asks =
      let a = asks_peer world table fits sound N Q port c.did Idle stood_in st.stands st.unasked p member other in
      let own : is_shared a.ask.deed ≡ false = (let is = a.deed in rw is refl) in
      let l = there a.ask a.asked own a.place a.after in
      let seen : view Q (of a.ask.step.node l.older) ≡ a.asked = ap (λ n. view Q (of n l.older)) l.node ∙ l.before in
      record {
        line = line_on Q a.ask;
        before = l.older;
        place = l.place;
        later = later a.ask a.asked own a.place a.after;
        step = a.step;
        port = refl;
        message = a.message;
        deed = a.deed;
        kind = a.kind;
        begins = record { begins = ap acting seen ∙ a.begins; role_is = ap (λ s. is_candidate_role (role s)) seen ∙ ap is_candidate_role a.role_is };
      }

  pub asks_all : BacksOwn c older world × AsksPeer c older world p
  asks_all = (backs, asks)

pub clocked_runs_ask : ClockedRunsAsk
clocked_runs_ask clocks header setting events set possible c older st p member other =
    asks_all set (run_by clocks header events) (clocked_runs_by_table clocks header events) (clocked_runs_fit clocks header setting events set possible).0
    (λ n q. runs_sound clocks header events n q) c older st p member other

pub runs_ask : RunsAsk
runs_ask header setting events set possible = subst (λ h. AsksAll setting h) (runs_by_own_clocks header events)
    (clocked_runs_ask (clocks_of header) header setting events (set_own header setting set) (possible_own header events possible))
