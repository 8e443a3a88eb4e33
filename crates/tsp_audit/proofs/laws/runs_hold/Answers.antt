use Rattle.std.proofs.Common.{subst, ◌≡◌, ◌≤◌, ℕ, ◌+◌, true, false, not, List, [], ◌∷◌, Option, None, Some, slice_get, sym, inl, inr, refl}
use Rattle.std.specs.List.{list_any}
use Rattle.std.proofs.lemmas.Bool.{and_parts, eqb-false, leb-true, not-true, or_parts}
use Rattle.tsp_audit.specs.Premised.{boots_with, forges, in_life, is_honest, keeps_life, repeats_word, takes_early, words_differ}
use Rattle.tsp_audit.specs.Parts.{Acting, Agreeing, AllKeep, Backing, Leading, Measuring}
use Rattle.tsp_audit.proofs.RunClaims.{SamePost, get_ArePosts, told_are, events_claims}
use Rattle.tsp_audit.specs.{declared.verdict.Verdict.TheVariants.Holds, declared.verdict.Verdict.TheVariants.Fails, Premised.premises_of}
use Rattle.tsp_audit.specs.{declared.premises.Premises.Premises, declared.verdict.Verdict.Verdict, Verdicts.AllHold, Verdicts.IsVerdict}
use Rattle.tsp_audit.specs.AuditedRuns.{claims_of, RunsHold}
use Rattle.tsp_base.specs.Words.{HeaderValue, Line}
use Rattle.tsp_claims.specs.{ClaimedHistory.posts_of, ClaimedHistory.Claim, ClaimedHistory.claimed, declared.claimed.Claimed.Claimed}
use Rattle.tsp_run.specs.Premised.{AllBootOtherwise, Apart, BootsOtherwise, IsApart, IsPrompt, IsSealed, Prompt, Sealed}
use Rattle.tsp_run.{proofs.RunPremises.runs_keep_premises, proofs.RunPromises.runs_keep_promises_holds, specs.declared.posted.Posted.Posted}
use Rattle.tsp_run.{proofs.SealedRun.accepted_before, specs.Ranges.Accepted, specs.Run.posts, specs.Run.run, specs.Setting.SetBy}
use Rattle.tsp_promises.specs.{Premises.Honest, Premises.Life, Premises.Words, Safe.Safe, Setting.Setting}
use Rattle.tsp_promises.proofs.promised.WordsProof.{own_words}
use Rattle.tsp_audit.proofs.laws.runs_hold.Goals as goal
use Rattle.tsp_rules.specs.Values.{Event, BootAt, Take, Bytes, Peer, LIFE}

is-sealed : (e : Event) → forges e ≡ false → IsSealed e
is-sealed (Bytes at node port (Peer p) octets) f = let no : ⊥ = cc in no
is-sealed _ f = tt

sealed-text : (events : List Event) → is_honest events ≡ true → Sealed events
sealed-text [] h = tt
sealed-text (e ∷ before) h =
    let both = and_parts (not (forges e)) (is_honest before) h in
    (is-sealed e (not-true (forges e) both.0), sealed-text before both.1)

boots-otherwise : (w : ℕ) (e : Event) → boots_with w e ≡ false → BootsOtherwise w e
boots-otherwise w (BootAt at node word) f = λ same. eqb-false word w f same
boots-otherwise w _ f = tt

all-otherwise : (w : ℕ) (events : List Event) → list_any (boots_with w) events ≡ false → AllBootOtherwise w events
all-otherwise w [] f = tt
all-otherwise w (e ∷ before) f =
    let parts = or_parts (boots_with w e) (list_any (boots_with w) before) f in
    (boots-otherwise w e parts.0, all-otherwise w before parts.1)

is-apart : (e : Event) (before : List Event) → repeats_word e before ≡ false → IsApart e before
is-apart (BootAt at node word) before f = all-otherwise word before f
is-apart _ before f = tt

apart-text : (events : List Event) → words_differ events ≡ true → Apart events
apart-text [] d = tt
apart-text (e ∷ before) d =
    let both = and_parts (not (repeats_word e before)) (words_differ before) d in
    (is-apart e before (not-true (repeats_word e before) both.0), apart-text before both.1)

-- a post that is claimed is early where the claim is
early-post : (o : Option Claimed) (q : Posted) (at : ℕ) → SamePost o (Some q) → in_life at o ≡ true → at ≤ q.at + LIFE
early-post None q at same e = absurd same
early-post (Some c) q at same e = subst (λ t. at ≤ t + LIFE) same.at (leb-true at (c.at + LIFE) e)

is-prompt : (header : HeaderValue) (before : List Event) → Accepted header before → (e : Event) → takes_early (posts_of header (claims_of header before)) e ≡
    true → IsPrompt header before e
is-prompt header before a (Take at k) early = λ q there.
    let claims = posts_of header (claims_of header before) in
    let same = get_ArePosts claims (posts (run header before)) k (told_are header before a).posts_are in
    early-post (slice_get claims k) q at (subst (λ o. SamePost (slice_get claims k) o) there same) early
is-prompt header before a _ early = tt

prompt-text : (header : HeaderValue) (events : List Event) → Accepted header events → keeps_life header (claims_of header events) ≡ true → Prompt header events
prompt-text header [] a k = tt
prompt-text header (e ∷ before) a k =
    let first = accepted_before header e before a in
    let both = and_parts (takes_early (posts_of header (claims_of header before)) e) (keeps_life header (claims_of header before)) k in
    (is-prompt header before first e both.0, prompt-text header before first both.1)

-- of the premises that a verdict goes by, a history keeps each that they grant
record Granted (premises : Premises) (history : List Line) : Type 0 where
  pub honest : premises.honest ≡ true → Honest history
  pub life : premises.life ≡ true → Life history
  pub words : premises.words ≡ true → Words history

-- what is safe keeps each part
keeps : (premises : Premises) (setting : Setting) (history : List Line) → Granted premises history → Safe setting history → AllKeep premises setting history
keeps premises setting history g s Backing = s.one_back
keeps premises setting history g s Leading = s.only_master
keeps premises setting history g s Acting = record {
  spaced = s.once_spaced;
  obeyed = λ h. s.once_obeyed (g.honest h);
  taken = λ all. s.once_taken (g.honest all.honest) (g.life all.life);
  confirmed = λ all. s.once_confirmed (g.honest all.honest) (g.life all.life);
}
keeps premises setting history g s Measuring = λ honest words. record {
  measured = s.measured (g.honest honest) (inr (own_words history (g.words words)));
  trips = s.trips;
}
keeps premises setting history g s Agreeing = λ all. s.agreed (g.honest all.honest) (g.life all.life)

-- of the premises that a verdict goes by, a schedule keeps each that they grant
record Covered (premises : Premises) (header : HeaderValue) (events : List Event) : Type 0 where
  pub honest : premises.honest ≡ true → is_honest events ≡ true
  pub life : premises.life ≡ true → keeps_life header (claims_of header events) ≡ true
  pub words : premises.words ≡ true → words_differ events ≡ true

-- and so does each beginning of it
one-less : (premises : Premises) (header : HeaderValue) (e : Event) (before : List Event) → Covered premises header (e ∷ before) →
    Covered premises header before
one-less premises header e before p = record {
  honest = λ h. (and_parts (not (forges e)) (is_honest before) (p.honest h)).1;
  life = λ h. (and_parts (takes_early (posts_of header (claims_of header before)) e) (keeps_life header (claims_of header before)) (p.life h)).1;
  words = λ h. (and_parts (not (repeats_word e before)) (words_differ before) (p.words h)).1;
}

granted : (premises : Premises) (header : HeaderValue) (events : List Event) → Accepted header events → Covered premises header events →
    Granted premises (run header events)
granted premises header events a p =
    let kept = runs_keep_premises header events a in
    record {
      honest = λ h. kept.honest (sealed-text events (p.honest h));
      life = λ h. kept.life (prompt-text header events a (p.life h));
      words = λ h. kept.words (apart-text events (p.words h));
    }

-- all parts hold of a whole run
run-keeps : (premises : Premises) (setting : Setting) (header : HeaderValue) (events : List Event) → SetBy header setting → Accepted header events →
    Covered premises header events → AllKeep premises setting (claimed header (claims_of header events))
run-keeps premises setting header events set a p =
    subst (λ h. AllKeep premises setting h) (sym (told_are header events a).history_is)
    (keeps premises setting (run header events) (granted premises header events a p) (runs_keep_promises_holds header setting events set a).safe)

-- and of each beginning
runs-hold : (premises : Premises) (setting : Setting) (header : HeaderValue) (events : List Event) → SetBy header setting → Accepted header events →
    Covered premises header events → AllHold premises setting header (claims_of header events)
runs-hold premises setting header [] set a p older w = subst (λ c. AllKeep premises setting (claimed header c)) (sym w)
    (run-keeps premises setting header [] set a p)
runs-hold premises setting header (e ∷ before) set a p older (inl w) = subst (λ c. AllKeep premises setting (claimed header c)) (sym w)
    (run-keeps premises setting header (e ∷ before) set a p)
runs-hold premises setting header (e ∷ before) set a p older (inr w) = runs-hold premises setting header before set (accepted_before header e before a)
    (one-less premises header e before p) older w

-- where all parts hold, no other verdict is right
only-holds : (premises : Premises) (setting : Setting) (header : HeaderValue) (claims : List Claim) → AllHold premises setting header claims → (v : Verdict) →
    IsVerdict premises setting header claims v → v ≡ Holds
only-holds premises setting header claims all Holds is = refl
only-holds premises setting header claims all (Fails number) is =
    let f = is.1 in
    absurd (f.fails.fails (all (f.claim ∷ f.before) f.place f.fails.part))

verdict-holds : RunsHold
verdict-holds header setting events set a =
    let claims = claims_of header events in
    let same = events_claims header events in
    let all = runs-hold (premises_of header claims) setting header events set a (record {
      honest = λ h. subst (λ es. is_honest es ≡ true) same h;
      life = λ h. h;
      words = λ h. subst (λ es. words_differ es ≡ true) same h;
    }) in
    record { holds = all; only = λ v is. only-holds (premises_of header claims) setting header claims all v is }

pub returns : goal.returns
returns c = verdict-holds
