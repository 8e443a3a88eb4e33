-- What a step of a schedule in the making comes to.
use Rattle.std.proofs.Common.{sym, ap, ◌∙◌, subst, arith, inl, inr, ◌≡◌, ◌≢◌, ℕ, suc, ◌+◌, ◌<◌, [], ◌∷◌, length, Option, Some, OnOk, IfErr, refl}
use Rattle.std.specs.declared.result.Result.{Result, TheVariants.Ok, TheVariants.Err}
use Rattle.tsp_rules.specs.Values.{Event, Taken}
use Rattle.tsp_base.specs.declared.event.EventFault.{EventFault}
use Rattle.tsp_base.specs.declared.event.EventFault.TheVariants.{TimeBack, NoNode, NoDatagram, NotUp, Limit, OutOfMemory}
use Rattle.tsp_script.specs.Storms.{StormValue}
use Rattle.tsp_storm.specs.Schedules.{header_of, storm_events, made, posted_count, next_event, event_after}
use Rattle.tsp_storm.proofs.{Mades.IsMade, Mades.made_is, Mades.OnlyLimit, Mades.only_limit, Draws.Moves, Draws.next_moves}
use Rattle.tsp_storm.specs.{Answers.StopsAfter, Answers.refused_after, Makings.MakingStands, Makings.StopsMaking}
use Rattle.tsp_storm.specs.{declared.making.Stopped.Stopped, declared.making.Making.Making}
use Rattle.tsp_args.specs.{Storms.IsStorm, declared.storm.StormWords.StormWords}
use Rattle.tsp_run.specs.Refusals.{IsRefusal}
use Rattle.tsp_world.specs.{WorldStands.WorldStands, declared.world.World.World}

abbrev made_of : StormWords → ℕ → StormValue
made_of s n = (made s n).generator

-- this event and this generator come next in a schedule in the making
abbrev pub ComesNext : StormWords → Making → Event → StormValue → Type 0
ComesNext s m e w = (e, w) ≡ next_event (header_of s) (storm_events s m.storm.given) m.storm

pub made_now : (s : StormWords) (m : Making) → MakingStands s m → IsMade (header_of s) (storm_events s m.storm.given) m.storm
made_now s m st = subst (λ v. IsMade (header_of s) (storm_events s m.storm.given) v) (sym st.generator) (made_is s st.words m.storm.given)

pub moves_now : (s : StormWords) (m : Making) (e : Event) (w : StormValue) → MakingStands s m → ComesNext s m e w →
    Moves (posted_count (header_of s) (storm_events s m.storm.given)) m.storm e w
moves_now s m e w st is =
    subst (λ (r : Event × StormValue). Moves (posted_count (header_of s) (storm_events s m.storm.given)) m.storm r.0 r.1) (sym is)
    (next_moves (header_of s) (storm_events s m.storm.given) m.storm (made_now s m st).some)

-- what comes next is the event after as many as were given
event_is : (s : StormWords) (m : Making) (e : Event) (w : StormValue) → MakingStands s m → ComesNext s m e w → e ≡ event_after s m.storm.given
event_is s m e w st is = ap (λ (r : Event × StormValue). r.0) is ∙ ap (λ v. (next_event (header_of s) (storm_events s m.storm.given) v).0) st.generator

generator_is : (s : StormWords) (m : Making) (e : Event) (w : StormValue) → MakingStands s m → ComesNext s m e w → w ≡ (made s (suc m.storm.given)).generator
generator_is s m e w st is = ap (λ (r : Event × StormValue). r.1) is ∙ ap (λ v. (next_event (header_of s) (storm_events s m.storm.given) v).1) st.generator

-- as many events were given as the world has accepted
count_now : (s : StormWords) (m : Making) → MakingStands s m → m.storm.given ≡ m.world.events
count_now s m st = (made_now s m st).count ∙ sym st.world.count

pub more_now : (s : StormWords) (m : Making) → MakingStands s m → m.storm.given < s.events → m.world.events < s.events
more_now s m st more = subst (λ n. n < s.events) (count_now s m st) more

pub world_now : (s : StormWords) (m : Making) → MakingStands s m → WorldStands (header_of s) (storm_events s m.world.events) m.world
world_now s m st = subst (λ n. WorldStands (header_of s) (storm_events s n) m.world) (count_now s m st) st.world

-- what comes next is the event after as many as the world has accepted
pub event_now : (s : StormWords) (m : Making) (e : Event) (w : StormValue) → MakingStands s m → ComesNext s m e w → e ≡ event_after s m.world.events
event_now s m e w st is = event_is s m e w st is ∙ ap (λ n. event_after s n) (count_now s m st)

-- one event more happened
pub record Stepped (s : StormWords) (m : Making) (w : StormValue) (world : World) (parcel : Taken) : Type 0 where
  pub stands : MakingStands s (record { storm = w; world = world; parcel = parcel })
  pub given : w.given ≡ m.storm.given + 1
  pub event : WorldStands (header_of s) (event_after s m.storm.given ∷ storm_events s m.storm.given) world

stepped : (s : StormWords) (m : Making) (e : Event) (w : StormValue) (world : World) (parcel : Taken) → MakingStands s m → ComesNext s m e w →
    WorldStands (header_of s) (storm_events s (m.world.events + 1)) world → Stepped s m w world parcel
stepped s m e w world parcel st is new =
    let given = (moves_now s m e w st is).given in
    let same = count_now s m st in
    let count : suc m.storm.given ≡ w.given = omega (arith, given) in
    record {
      stands = record {
        words = st.words;
        generator = generator_is s m e w st is ∙ ap (λ n. (made s n).generator) count;
        world = subst (λ n. WorldStands (header_of s) (storm_events s n) world) (omega (arith, given, same)) new;
      };
      given = given;
      event = subst (λ n. WorldStands (header_of s) (storm_events s n) world) (let next : m.world.events + 1 ≡ suc m.storm.given = omega (arith, same) in
          next) new;
    }

-- what is so where an event happened is so where its step did
pub on_step : {E : Type 0} (s : StormWords) (m : Making) (e : Event) (w : StormValue) (world : World) (parcel : Taken) (r : Result (Unit {0}) E) (P : Type 0) →
    MakingStands s m → ComesNext s m e w → (Stepped s m w world parcel → P) →
    OnOk r (WorldStands (header_of s) (storm_events s (m.world.events + 1)) world) → OnOk r P
on_step s m e w world parcel (Ok u) P st is f new = f (stepped s m e w world parcel st is new)
on_step s m e w world parcel (Err x) P st is f new = new

-- why no event happened is why no step did
pub stops_step : (s : StormWords) (m : Making) (r : Result (Unit {0}) Stopped) → MakingStands s m → IfErr r (λ stop. StopsMaking s m.world.events stop) →
    IfErr r (λ stop. StopsMaking s m.storm.given stop)
stops_step s m r st stops = subst (λ n. IfErr r (λ stop. StopsMaking s n stop)) (sym (count_now s m st)) stops

limit_is : (n : ℕ) (cause : Option EventFault) (a b : ℕ) → OnlyLimit n cause → IsRefusal cause (Limit a b) → (a ≡ n) × (cause ≡ Some (Limit a b))
limit_is n cause a b only (inl e) = (subst (λ c. OnlyLimit n c) e only, e)
limit_is n cause a b only (inr e) = let bad : ⊥ = (let no = e.1 in cc) in absurd bad

by_none : (n : ℕ) (cause : Option EventFault) (f : EventFault) → OnlyLimit n cause → IsRefusal cause f → (f ≢ OutOfMemory) → (OnlyLimit n (Some f) → ⊥) → ⊥
by_none n cause f only (inl e) memory other = other (subst (λ c. OnlyLimit n c) e only)
by_none n cause f only (inr e) memory other = memory e.1

no_other : (n : ℕ) (cause : Option EventFault) (f : EventFault) → OnlyLimit n cause → IsRefusal cause f → ((a b : ℕ) → f ≡ Limit a b → ⊥) → (f ≢ OutOfMemory) →
    ⊥
no_other n cause (TimeBack a b) only is limit memory = by_none n cause (TimeBack a b) only is memory (λ h. h)
no_other n cause (NoNode a b) only is limit memory = by_none n cause (NoNode a b) only is memory (λ h. h)
no_other n cause (NoDatagram a b) only is limit memory = by_none n cause (NoDatagram a b) only is memory (λ h. h)
no_other n cause (NotUp a) only is limit memory = by_none n cause (NotUp a) only is memory (λ h. h)
no_other n cause (Limit a b) only is limit memory = limit a b refl
no_other n cause OutOfMemory only is limit memory = memory refl

-- nothing but a limit refuses the event after so many
only_after : (s : StormWords) (n : ℕ) → IsStorm s → OnlyLimit (length (storm_events s n)) (refused_after s n)
only_after s n is =
    let made = made_is s is n in
    only_limit (header_of s) (storm_events s n) (made_of s n) (event_after s n) made (next_moves (header_of s) (storm_events s n) (made_of s n) made.some).next

-- nothing but a limit and lack of memory refuses the event
pub no_other_after : (s : StormWords) (n : ℕ) (f : EventFault) → IsStorm s → IsRefusal (refused_after s n) f → ((a b : ℕ) → f ≡ Limit a b → ⊥) →
    (f ≢ OutOfMemory) → ⊥
no_other_after s n f is refused limit memory = no_other (length (storm_events s n)) (refused_after s n) f (only_after s n is) refused limit memory

-- a limit tells how many events there were, and the schedule stops there
pub stops_after : (s : StormWords) (n : ℕ) (world : World) (f : EventFault) (a b : ℕ) → IsStorm s → n < s.events → n ≡ world.events →
    WorldStands (header_of s) (storm_events s n) world → IsRefusal (refused_after s n) f → f ≡ Limit a b →
    (a ≡ n) × StopsAfter s n
stops_after s n world f a b is more same w refused limit =
    let both = limit_is (length (storm_events s n)) (refused_after s n) a b (only_after s n is) (subst (λ x. IsRefusal (refused_after s n) x) limit refused) in
    (both.0 ∙ sym (same ∙ w.count), record { within = more; valid = w.valid; limit = (a, b, both.1) })

-- a schedule without events
pub stands_begins : (s : StormWords) (storm : StormValue) (world : World) (parcel : Taken) → IsStorm s → storm ≡ (made s 0).generator →
    WorldStands (header_of s) [] world → MakingStands s (record { storm = storm; world = world; parcel = parcel })
stands_begins s storm world parcel words is stands =
    let none : storm.given ≡ 0 = ap (λ (v : StormValue). v.given) is ∙ (made_is s words 0).count in
    record {
      words = words;
      generator = is ∙ ap (λ n. (made s n).generator) (sym none);
      world = subst (λ n. WorldStands (header_of s) (storm_events s n) world) (sym none) stands;
    }
