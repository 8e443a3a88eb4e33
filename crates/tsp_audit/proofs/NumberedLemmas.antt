-- The nodes of claimed lines are nodes of the header.
use Rattle.std.proofs.Common.{subst, eqb-true, ◌≡◌, ◌||◌, ◌<◌, ℕ, Bool, true, false, if◌then◌else◌, Option, None, Some, List, [], ◌∷◌, refl, slice_get}
use Rattle.tsp_rules.specs.Values.{Placed, Port, Event, BootAt, Take}
use Rattle.tsp_base.specs.Words.{HeaderValue, Acts, Begins, Deed, Line, Step, first_port, joined, line_of}
use Rattle.tsp_promises.specs.{Everywhere.Everywhere, Fits.node_of}
use Rattle.tsp_claims.specs.ClaimedHistory.{joins_acts, Claim, awake, claimed, events_of, makes_step, posts_of, post_goes, step_at, step_of, takes_step}
use Rattle.tsp_claims.specs.{Listed.NamesNode, Listed.booted, Listed.is_boot_of, declared.claimed.Claimed.Claimed}
use Rattle.tsp_run.specs.{Run.step_tick, Networks.networks, declared.address.Address.Address}
use Rattle.tsp_audit.specs.Agreeing.{Numbered}

-- what holds of a step, if there is one
abbrev pub OfStep : (Step → Type 0) → Option Step → Type 0
OfStep Q None = Unit {0}
OfStep Q (Some step) = Q step

-- whatever makes the step
pub made : (Q : Step → Type 0) (b : Bool) (o : Option Step) → OfStep Q o → OfStep Q (if b then o else None)
made Q true o q = q
made Q false o q = tt

joined_all : (P : Line → List Line → Type 0) (step : Step) (x : ℕ) (acts : List Placed) (h : List Line) →
    ((port : Port) (deed : Deed) (s : List Line) → P (line_of step x port deed) s) → Everywhere P h → Everywhere P (joined step x acts h)
joined_all P step x [] h one e = e
joined_all P step x (p ∷ rest) h one e = joined_all P step x rest (line_of step x p.port (Acts p.act) ∷ h) one (one p.port (Acts p.act) h, e)

-- what holds of each line of such a step
pub grown_all : (Q : Step → Type 0) (P : Line → List Line → Type 0) → ((step : Step) (x : ℕ) (port : Port) (deed : Deed) (s : List Line) → Q step →
    P (line_of step x port deed) s) →
    (header : HeaderValue) (o : Option Step) (acts : List Placed) (h : List Line) → OfStep Q o → Everywhere P h → Everywhere P (joins_acts header o acts h)
grown_all Q P one header None acts h q e = e
grown_all Q P one header (Some step) acts h q e =
    joined_all P step (step_tick header step) acts (line_of step (step_tick header step) first_port Begins ∷
    h) (λ port deed s. one step (step_tick header step) port deed s q) (one step (step_tick header step) first_port Begins h q, e)

-- each event names a node of so many
abbrev pub AllName : ℕ → List Claim → Type 0
AllName count = Everywhere (λ c before. NamesNode count c.event)

either : (b c : Bool) → (b || c) ≡ true → (b ≡ false → c ≡ true)
either true c e f = let bad : ⊥ = cc in absurd bad
either false c e f = e

boots_below : (count : ℕ) (e : Event) (n : ℕ) → NamesNode count e → is_boot_of e n ≡ true → n < count
boots_below count (BootAt at node word) n named e = subst (λ (k : ℕ). k < count) (eqb-true node n e) named
boots_below count _ n named e = let bad : ⊥ = cc in absurd bad

booted_more : (count : ℕ) (e : Event) (n : ℕ) (was b : Bool) → NamesNode count e → (was ≡ true → n < count) → is_boot_of e n ≡ b → (is_boot_of e n || was) ≡
    true → n < count
booted_more count e n was true named rest f or = boots_below count e n named f
booted_more count e n was false named rest f or = rest (either (is_boot_of e n) was or f)

booted_below : (count : ℕ) (claims : List Claim) → AllName count claims → (n : ℕ) → booted (events_of claims) n ≡ true → n < count
booted_below count [] named n e = let bad : ⊥ = cc in absurd bad
booted_below count (c ∷ before) named n e = booted_more count c.event n (booted (events_of before) n) (is_boot_of c.event n) named.0
    (booted_below count before named.1 n) refl e

-- a step of one of so many nodes, if there is one
abbrev Below : ℕ → Option Step → Type 0
Below count = OfStep (λ step. step.node < count)

taken_below : (count at k : ℕ) (up : ℕ → Bool) → ((n : ℕ) → up n ≡ true → n < count) → (o : Option Address) → Below count (takes_step at k (awake up o))
taken_below count at k up below None = tt
taken_below count at k up below (Some a) = by_up (up a.node) refl where
  by_up : (b : Bool) → up a.node ≡ b → Below count (takes_step at k (if b then Some a else None))
  by_up true e = below a.node e
  by_up false e = tt

step_below : (count : ℕ) (header : HeaderValue) (posts : List Claimed) (up : ℕ → Bool) (e : Event) → ((n : ℕ) → up n ≡ true → n < count) → NamesNode count e →
    Below count (step_at header posts up e)
step_below count header posts up (Take at k) below named = taken_below count at k up below (post_goes (networks header) (slice_get posts k))
step_below count header posts up _ below named = named

-- where each event names a node of so many, each claimed line's is one
pub numbered_claims : (count : ℕ) (header : HeaderValue) (claims : List Claim) → AllName count claims → Numbered count (claimed header claims)
numbered_claims count header [] named = tt
numbered_claims count header (c ∷ before) named =
    grown_all (λ step. step.node < count) (λ l s. node_of l < count) (λ step x port deed s below. below) header
    (step_of header (posts_of header before) (booted (events_of before)) c.event c.acts) c.acts (claimed header before)
    (made (λ step. step.node < count) (makes_step c.event c.acts) (step_at header (posts_of header before) (booted (events_of before)) c.event)
    (step_below count header (posts_of header before) (booted (events_of before)) c.event (booted_below count before named.1) named.0))
    (numbered_claims count header before named.1)
