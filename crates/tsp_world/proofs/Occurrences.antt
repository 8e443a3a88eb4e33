-- An event that nothing refuses occurs, or it lacks memory.
use Rattle.std.proofs.Common.{sym, ◌∙◌, subst, inl, inr, rules, ◌≡◌, ℕ, ◌≤◌, List, ◌∷◌, Option, None, Some, MatchResult, OnOk, refl}
use Rattle.std.specs.declared.result.Result.{Result, TheVariants.Ok, TheVariants.Err}
use Rattle.tsp_rules.specs.Values.{Event}
use Rattle.tsp_base.specs.{Words.HeaderValue, declared.event.EventFault.EventFault, declared.event.EventFault.TheVariants.OutOfMemory}
use Rattle.tsp_run.specs.Refusals.{Allowed, actor, scene, refusal}
use Rattle.tsp_run.{proofs.RefusalLemmas.allowed, proofs.RefusalLemmas.refusal_alike, specs.Run.event_at}
use Rattle.tsp_world.specs.WorldStands.{CanStep, Declines, HappensInWorld, Occurs, Stays, WorldStands, scene_of}
use Rattle.tsp_world.{proofs.WorldLemmas.Alike_stands, specs.declared.world.World.World}

-- what the world refuses, its schedule refuses
pub refuses : (header : HeaderValue) (events : List Event) (world : World) (e : Event) → WorldStands header events world → refusal (scene_of world) e ≡
    refusal (scene header events) e
refuses header events world e w = refusal_alike (scene_of world) (scene header events) (Alike_stands header events world (search rules) w) e

-- where nothing refuses an event its facts hold, also when room was made for it
pub may : (e : Event) (old ready : World) (cause : Option EventFault) → cause ≡ refusal (scene_of old) e → cause ≡ None → scene_of ready ≡ scene_of old →
    Allowed (scene_of ready) e
may e old ready cause refused is same = subst (λ s. Allowed s e) (sym same) (allowed (scene_of old) e (sym refused ∙ is))

-- and the step of its node passes no limit
pub can_step : (e : Event) (at n : ℕ) (old ready : World) (cause : Option EventFault) → cause ≡ refusal (scene_of old) e → cause ≡ None → scene_of ready ≡
    scene_of old → event_at e ≡ at → at ≤ 1000000000000000 →
    actor (scene_of ready) e ≡ Some n → CanStep at n ready
can_step e at n old ready cause refused is same at_is time acts =
    let m = may e old ready cause refused is same in
    record { time = time; order = subst (λ t. ready.last ≤ t) at_is m.time; events = m.events; posts = m.posts n acts }

-- an event is refused, and nothing has changed
pub declined : (e : Event) (world : World) (cause : Option EventFault) (fault : EventFault) → cause ≡ refusal (scene_of world) e → cause ≡ Some fault →
    Declines e world world fault
declined e world cause fault refused is header events w = (inl (sym (refuses header events world e w) ∙ sym refused ∙ is), w)

-- out of memory
pub lacks_memory : (e : Event) (old new : World) (cause : Option EventFault) → cause ≡ refusal (scene_of old) e → cause ≡ None → Stays old new →
    Declines e old new OutOfMemory
lacks_memory e old new cause refused is stays header events w = (inr (sym (refuses header events old e w) ∙ sym refused ∙ is, refl), stays header events w)

-- an event happened after room was made for it
pub occurred : (e : Event) (old ready new : World) (cause : Option EventFault) → cause ≡ refusal (scene_of old) e → cause ≡ None → Stays old ready →
    HappensInWorld e ready new → Occurs e old new
occurred e old ready new cause refused is stays happens header events w =
    let none = sym (refuses header events old e w) ∙ sym refused ∙ is in
    (none, happens header events (stays header events w) none)

-- what came of an event
abbrev Comes : Event → World → World → Result (Unit {0}) EventFault → Type 0
Comes e old new r = MatchResult r (λ _. Occurs e old new) (Declines e old new)

pub comes_so : (e : Event) (old new : World) (r : Result (Unit {0}) EventFault) (P : Type 0) → Comes e old new r →
    (header : HeaderValue) (events : List Event) → WorldStands header events old → (WorldStands header (e ∷ events) new → P) → OnOk r P
comes_so e old new (Ok u) P is header events w f = f (is header events w).1
comes_so e old new (Err x) P is header events w f = tt
