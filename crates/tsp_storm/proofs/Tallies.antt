-- What is counted of a run grows by what is counted of each event.
use Rattle.std.proofs.Common.{sym, ap, ◌∙◌, subst, ◌≡◌, ℕ, suc, ◌+◌, List, ◌++◌, length, if◌then◌else◌, Bool, refl}
use Rattle.std.proofs.lemmas.List.Sums.{sum_by-append}
use Rattle.tsp_storm.specs.declared.making.Stopped.{Stopped, TheVariants.Limit, TheVariants.OutOfMemory}
use Rattle.tsp_storm.specs.{Answers.SumsUp, Answers.HaltsStorm, Makings.MakingStands, Makings.StopsMaking, declared.counts.Counts.Counts}
use Rattle.tsp_storm.specs.{Schedules.header_of, Schedules.storm_events, Schedules.posted_count, declared.making.Making.Making}
use Rattle.tsp_rules.specs.{RoundRows.is_correct, Values.Act}
use Rattle.tsp_storm.specs.Summaries.{acts_like, is_arrival, is_mastership, CountsLines, summary_text}
use Rattle.tsp_storm.proofs.{Steps.made_now, StormKeeps.storm_kept}
use Rattle.tsp_args.specs.declared.storm.StormWords.{StormWords}
use Rattle.tsp_run.specs.{Refusals.Valid, Run.told, Run.gained, declared.line.Line.Line}

like_append : (is_such : Act → Bool) (xs ys : List Line) → acts_like is_such (xs ++ ys) ≡ acts_like is_such xs + acts_like is_such ys
like_append is_such xs ys = sum_by-append (λ (l : Line). if is_such l.placed.act then 1 else 0) xs ys

one_more : (is_such : Act → Bool) (s : StormWords) (n old new : ℕ) (lines : List Line) → lines ≡ gained (header_of s) (storm_events s (suc n)) → old ≡
    acts_like is_such (told (header_of s) (storm_events s n)) → new ≡ old + acts_like is_such lines →
    new ≡ acts_like is_such (told (header_of s) (storm_events s (suc n)))
one_more is_such s n old new lines is was now =
    now ∙ ap (λ k. k + acts_like is_such lines) was ∙ ap (λ ls. acts_like is_such (told (header_of s) (storm_events s n)) + acts_like is_such ls) is
    ∙ sym (like_append is_such (told (header_of s) (storm_events s n)) (gained (header_of s) (storm_events s (suc n))))

-- the counts after one event more
pub counted_more : (s : StormWords) (n : ℕ) (old new : Counts) (lines : List Line) → CountsLines (told (header_of s) (storm_events s n)) old → lines ≡
    gained (header_of s) (storm_events s (suc n)) →
    new.took ≡ old.took + acts_like is_arrival lines → new.corrects ≡ old.corrects + acts_like is_correct lines → new.masters ≡
    old.masters + acts_like is_mastership lines → CountsLines (told (header_of s) (storm_events s (suc n))) new
counted_more s n old new lines c is took corrects masters = record {
  took = one_more is_arrival s n old.took new.took lines is c.took took;
  corrects = one_more is_correct s n old.corrects new.corrects lines is c.corrects corrects;
  masters = one_more is_mastership s n old.masters new.masters lines is c.masters masters;
}

summary_same : (events other posted sent took taken corrects corrected masters mastered : ℕ) → events ≡ other → posted ≡ sent → took ≡ taken → corrects ≡
    corrected → masters ≡ mastered → summary_text events posted took corrects masters ≡ summary_text other sent taken corrected mastered
summary_same events other posted sent took taken corrects corrected masters mastered a b c d e = rw (a, b, c, d, e) refl

-- a whole schedule was counted
pub sums_up : (s : StormWords) (m : Making) (posted : ℕ) (counts : Counts) → MakingStands s m → m.storm.given ≡ s.events → posted ≡ length m.world.sent.items →
    CountsLines (told (header_of s) (storm_events s s.events)) counts →
    SumsUp s (record { events = s.events; posted = posted; counts = counts })
sums_up s m posted counts st all sent c = (
  subst (λ n. Valid (header_of s) (storm_events s n)) all st.world.valid,
  storm_kept s st.words s.events (subst (λ n. Valid (header_of s) (storm_events s n)) all st.world.valid),
  summary_same s.events (length (storm_events s s.events)) posted (posted_count (header_of s) (storm_events s s.events)) counts.took _ counts.corrects _
      counts.masters _
      (sym all ∙ (made_now s m st).count ∙ ap (λ n. length (storm_events s n)) all)
      (sent ∙ ap (λ ps. length ps) st.world.sent ∙ ap (λ n. posted_count (header_of s) (storm_events s n)) all)
      c.took c.corrects c.masters,
)

-- where a step stops, the schedule stops
pub halts : (s : StormWords) (n : ℕ) (stop : Stopped) → StopsMaking s n stop → HaltsStorm s stop
halts s n (Limit number) h = (n, h.1, h.0)
halts s n OutOfMemory h = tt
