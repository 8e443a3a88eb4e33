-- A run by the clocks of its header is the run of a schedule, and so it is possible and set by the header where this is.
use Rattle.std.proofs.Common.{ap, ap₂, subst, sym, ◌∙◌, ◌≡◌, ◌<◌, ◌^◌, ℕ, List, [], ◌∷◌, length, Option, None, Some, slice_get, refl}
use Rattle.tsp_rules.specs.Values.{Event, BootAt, Turn, Take, Bytes}
use Rattle.tsp_base.specs.Words.{HeaderValue, Line, dids, of, up, view}
use Rattle.tsp_run.specs.Run.{arrives, happening, joins, last_at, posts, reaches, run, steps}
use Rattle.tsp_run.specs.Clocked.{HappensBy, IsPromptBy, KeptByEvents, PossibleBy, PromptBy, RunsByOwnClocks, SetByClocks}
use Rattle.tsp_run.specs.Clocked.{clocks_of, happening_by, reaches_by, steps_by}
use Rattle.tsp_run.specs.{declared.arrival.Arrival.Arrival, Networks.networks, Possible.Happens, Possible.Possible}
use Rattle.tsp_run.specs.{Premised.IsPrompt, Premised.KeptByText, Premised.Prompt, Premised.own_posts, Refusals.Scene, Refusals.impossible}
use Rattle.tsp_run.specs.{Setting.SetBy, Setup.node_line}
use Rattle.tsp_run.proofs.{HeaderLines.rate_node_line, HeaderLines.set_up_of}
use Rattle.tsp_promises.{proofs.shared.Rates.keeps_time, specs.Everywhere.Everywhere, specs.Fits.node_of, specs.Setting.Setting}
use Rattle.tsp_promises.specs.Premises.{Few, Honest, Life, NamesApart, OwnWords, Words}

reaches_same : (header : HeaderValue) (history : List Line) (at k : ℕ) (o : Option Arrival) →
    reaches_by (clocks_of header) header history at k o ≡ reaches header history at k o
unfolding steps steps_by
reaches_same header history at k None = refl
reaches_same header history at k (Some a) = refl

-- each event makes the same happen
pub happening_same : (header : HeaderValue) (history : List Line) (e : Event) → happening_by (clocks_of header) header history e ≡ happening header history e
unfolding steps steps_by
happening_same header history (BootAt at node word) = refl
happening_same header history (Turn at node) = refl
happening_same header history (Take at k) = reaches_same header history at k (arrives (networks header) (slice_get (posts history) k))
happening_same header history (Bytes at node port from octets) = refl

pub runs_by_own_clocks : RunsByOwnClocks
runs_by_own_clocks header [] = refl
runs_by_own_clocks header (e ∷ before) =
    let older = runs_by_own_clocks header before in
    ap₂ joins (ap (λ h. happening_by (clocks_of header) header h e) older ∙ happening_same header (run header before) e) older

-- a header's setting has its clocks
pub set_own : (header : HeaderValue) (setting : Setting) → SetBy header setting → SetByClocks (clocks_of header) header setting
set_own header setting set = record {
  tick_is = set.tick_is;
  wall_is = set.wall_is;
  name_is = set.name_is;
  drift_is = set.drift_is;
  strict_is = set.strict_is;
  net_is = set.net_is;
  members_are = set.members_are;
}

-- and the other way round
pub set_back : (header : HeaderValue) (setting : Setting) → SetByClocks (clocks_of header) header setting → SetBy header setting
set_back header setting set = record {
  tick_is = set.tick_is;
  wall_is = set.wall_is;
  name_is = set.name_is;
  drift_is = set.drift_is;
  strict_is = set.strict_is;
  net_is = set.net_is;
  members_are = set.members_are;
}

-- what can happen after a run can after the same one
happen_own : (header : HeaderValue) (events : List Event) → Happens header events → HappensBy (clocks_of header) header events
happen_own header [] h = tt
happen_own header (e ∷ before) h = (
  subst (λ lines. impossible (scene_after lines) e ≡ None) (sym (runs_by_own_clocks header before)) h.0,
  happen_own header before h.1,
) where
  scene_after : List Line → Scene
  scene_after lines = record {
    nodes = length header.nodes;
    networks = networks header;
    last = last_at before;
    events = length before;
    posts =
        posts lines;
    up = λ n. up (dids (of n lines));
  }

-- what is possible is so by the header's clocks
pub possible_own : (header : HeaderValue) (events : List Event) → Possible header events → PossibleBy (clocks_of header) header events
possible_own header events p = record {
  header_is = set_up_of header p.header_is;
  keeps = λ n. keeps_time (node_line header n).rate header.drift (rate_node_line header p.header_is n) p.header_is.small;
  ranges = p.ranges;
  happens = happen_own header events p.happens;
  few = subst (λ lines. length (posts lines) < 2 ^ 64) (sym (runs_by_own_clocks header events)) p.few;
}

-- what is prompt is so by the header's clocks
is-prompt : (header : HeaderValue) (before : List Event) (e : Event) → IsPrompt header before e → IsPromptBy (clocks_of header) header before e
is-prompt header before (Take at k) early = λ p there. early p (subst (λ lines. slice_get (posts lines) k ≡ Some p) (runs_by_own_clocks header before) there)
is-prompt header before _ early = tt

prompt_own : (header : HeaderValue) (events : List Event) → Prompt header events → PromptBy (clocks_of header) header events
prompt_own header [] early = tt
prompt_own header (e ∷ before) early = (is-prompt header before e early.0, prompt_own header before early.1)

-- the premises of a run by the header's clocks are those of the schedule's
pub kept_own : (header : HeaderValue) (events : List Event) → KeptByEvents (clocks_of header) header events → KeptByText header events
kept_own header events k =
    let same = runs_by_own_clocks header events in
    record {
      honest = λ s. subst Honest same (k.honest s);
      only_honest = λ h. k.only_honest (subst Honest (sym same) h);
      life = λ early. subst Life same (k.life (prompt_own header events early));
      words = λ w. subst Words same (k.words w);
      only_words = λ w. k.only_words (subst Words (sym same) w);
      own_words = λ w. subst OwnWords same (k.own_words w);
      few = λ s. subst Few same (k.few (subst (λ lines. length (posts lines) < 32768) (sym same) s));
      few_own = λ s. subst Few same (k.few_own (subst (Everywhere own_short) (sym same) s));
      names = λ setting set differ. subst (NamesApart setting) same (k.names setting (set_own header setting set) differ);
    } where
      own_short : Line → List Line → Type 0
      own_short l before = own_posts (view l.port (of (node_of l) (l ∷ before))) < 32768
