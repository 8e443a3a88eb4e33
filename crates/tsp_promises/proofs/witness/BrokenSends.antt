-- Small histories that break the promises of sends, of the network's date and of LOOPs.
use Rattle.std.proofs.Common.{ap, arith, inl, inr, ◌≡◌, ◌≤◌, false, true, ℕ, ◌+◌, pos, List, [], ◌∷◌, is_some, refl, ℤ, sym, subst, true≢false, ◌∙◌}
use Rattle.std.proofs.lemmas.Int.{ints}
use Rattle.tsp_rules.specs.Values.{Boot, Took, Post, Become, Ring, Correct, Acked, Elect, Round, Message, Good, AdjTime, Election, SetDateReq, SetTime, Nothing}
use Rattle.tsp_rules.specs.Values.{TimeBody, Peer, Follow, GAP, Date, Stranger, Master, Hops, Loose}
use Rattle.tsp_base.specs.Words.{Acts, Booted, Came, Handed, Turned, Line, dids, of, plain, view, MessageValue, tick_of, Within, heard, peer_of, posted}
use Rattle.tsp_promises.proofs.witness.Histories.{begins, does, line, msg, step_at, still}
use Rattle.tsp_promises.specs.{Broken.breaks, Broken.SendsBreak, Broken.DatesBreak, Broken.LoopsBreak, Looped.IsLoopChain, Looped.LoopPost}
use Rattle.tsp_promises.proofs.{witness.PremiseChecks.few_by, witness.PremiseChecks.honest_by, witness.PremiseChecks.life_by}
use Rattle.tsp_promises.proofs.{shared.EverywhereLemmas.Everywhere_at}
use Rattle.tsp_promises.proofs.{witness.WitnessDates.loop_with, witness.WitnessDates.names_by, witness.StepChecks.port0, witness.StepChecks.port1}
use Rattle.tsp_promises.proofs.{promised.SendProof.one_message}
use Rattle.tsp_promises.{specs.Once.ActsOn, specs.Once.OfSend, proofs.witness.Spots.too_many, specs.Fits.node_of}

abbrev moves : ℕ → ℕ → Line
moves at k = does at 0 (Came k) (Correct (pos 1) false (pos 0))

-- a Correct that takes a post
abbrev acts : (l : Line) (world : List Line) (post : Line) (older : List Line) (m : MessageValue) → l.did.deed ≡ Acts (Correct (pos 1) false (pos 0)) →
    Within (post ∷ older) world → l.did.step.cause ≡ Came (posted (dids older)) →
    post.did.deed ≡ Acts (Post (Peer (peer_of (node_of l))) (Message m)) → is_some (heard (dids (of
    (node_of l) world))) ≡ true → ActsOn l world post older
acts l world post older m correct place cause deed took = record {
  amount = pos 1;
  stepped = false;
  shown = pos 0;
  correct = correct;
  brings = record { place = place; cause = cause; message = m; deed = deed };
  took = took;
}

abbrev adjusts : MessageValue
adjusts = msg AdjTime 5 (TimeBody (pos 1))

abbrev ring : List Line
ring = does 10 1 Turned (Ring Round) ∷ []

abbrev adj : Line
adj = does 10 1 Turned (Post (Peer (peer_of 0)) (Message adjusts))

abbrev took : ℕ → ℕ → Line
took at k = does at 0 (Came k) (Took (Peer (peer_of 1)) (Good (Message adjusts)))

abbrev once : List Line
once = took 20 0 ∷ (adj ∷ ring)

begins_here : OfSend 0 adj ring adj.did (view port0 (of 1 ring))
begins_here = record { message = adjusts; deed = refl; numbered = refl; is = refl }

first : ActsOn (moves 20 0) once adj ring
first = acts _ _ _ _ adjusts refl (inr (inl refl)) refl refl refl

abbrev twice : List Line
twice = took 30 0 ∷ (moves 20 0 ∷ once)

-- the send has ended, and is posted again
abbrev rest : List Line
rest = begins 26 1 Turned ∷ (does 25 1 Turned (Acked (peer_of 0)) ∷ (moves 20 0 ∷ once))

abbrev again : Line
again = does 26 1 Turned (Post (Peer (peer_of 0)) (Message adjusts))

abbrev aside : Line
aside = line (step_at 30 0 (Came 0)) port1 (Correct (pos 1) false (pos 0))

abbrev dates : MessageValue
dates = msg SetDateReq 32775 (TimeBody (pos 1))

abbrev date : Line
date = does 10 1 Turned (Post (Peer (peer_of 0)) (Message dates))

abbrev dated_once : List Line
dated_once = does 20 0 (Came 0) (Took (Peer (peer_of 1)) (Good (Message dates))) ∷ (date ∷ ring)

abbrev forged : List Line
forged = does 25 0 Handed (Correct (pos 1) false (pos 0)) ∷ (does 25 0 Handed (Took (Peer (peer_of 1)) (Good (Message (msg SetDateReq 100 (TimeBody (pos 1))))))
    ∷ (moves 20 0 ∷ dated_once))

abbrev dated_twice : List Line
dated_twice = does 30 0 (Came 0) (Took (Peer (peer_of 1)) (Good (Message dates))) ∷ forged

date_begins : OfSend 0 date ring date.did (view port0 (of 1 ring))
date_begins = record { message = dates; deed = refl; numbered = refl; is = refl }

abbrev sent : List Line
sent = does 10 0 Turned (Post (Peer (peer_of 1)) (Message (msg SetTime 5 (TimeBody (pos 1))))) ∷ (does 10 0 Turned (Ring Round) ∷ [])

abbrev asks : MessageValue
asks = msg Election 32775 Nothing

abbrev posts : ℕ → Line
posts at = does at 0 Turned (Post (Peer (peer_of 1)) (Message asks))

abbrev posts_again : ℕ → List Line → List Line
posts_again at h = posts at ∷ (begins at 0 Turned ∷ h)

abbrev asked : List Line
asked = posts 0 ∷ (does 0 0 Turned (Ring Elect) ∷ [])

pub sends_break : SendsBreak (still false)
sends_break = record {
  spaced = breaks (moves 20 0 ∷ (moves 10 0 ∷ []))
      (λ h. let k : 10 + GAP ≤ 20 = h.0 (moves 10 0) [] (pos 1) (pos 1) false false (pos 0) (pos 0) refl
      (inl refl) refl refl refl in omega arith);
  spaced_over_lives = breaks (moves 20 0 ∷ (does 15 0 (Booted 5 (pos 15)) Boot ∷ (moves 10 0 ∷ [])))
      (λ h. let k : 10 + GAP ≤ 20 = h.0 (moves 10 0) [] (pos 1) (pos 1) false false (pos 0) (pos 0) refl (inr
      (inl refl)) refl refl in omega arith);
  obeyed = breaks (does 20 0 Turned (Correct (pos 1) false (pos 0)) ∷ (does 10 0 Turned (Become (Follow (peer_of 1))) ∷ []))
      (λ h. cc (h.0 (peer_of 1) (pos 1) false (pos 0) refl refl).brings.cause);
  corrected = breaks (moves 30 0 ∷ twice)
      (λ h. h.0 adj (moves 20 0) adj ring once ring adj.did (view port0 (of 1 ring))
      (acts _ _ _ _ adjusts refl (inr (inr (inr (inl refl)))) refl refl refl) refl (inr (inl refl)) first begins_here begins_here);
  repeated = breaks (moves 30 1 ∷ (took 30 1 ∷ (again ∷ rest)))
      (λ h. h.0 again (moves 20 0) adj rest once ring adj.did (view port0 (of 1 ring)) (acts _ _ _ _ adjusts refl (inr (inl refl)) refl refl refl)
      refl (inr (inr (inr (inr (inl refl))))) first (record { message = adjusts; deed = refl; numbered = refl; is = refl }) begins_here);
  elsewhere = breaks (aside ∷ twice)
      (λ h. h.0 adj (moves 20 0) adj ring once ring adj.did (view port0 (of 1 ring))
      (acts _ _ _ _ adjusts refl (inr (inr (inr (inl refl)))) refl refl refl) refl (inr (inl refl)) first begins_here begins_here);
  dated = breaks (moves 30 0 ∷ dated_twice)
      (λ h. h.0 date (moves 20 0) date ring dated_once ring date.did (view port0 (of 1 ring))
      (acts _ _ _ _ dates refl (inr (inr (inr (inr (inr (inl refl)))))) refl refl refl) refl (inr (inr (inr (inl refl))))
      (acts _ _ _ _ dates refl (inr (inl refl)) refl refl refl) date_begins date_begins);
  confirmed = breaks (does 20 0 Turned (Acked (peer_of 1)) ∷ sent) (λ h.
      let a = h.0 (peer_of 1) _ _ (msg SetTime 5 (TimeBody (pos 1))) refl refl refl refl in
      let own = Everywhere_at (λ (l : Line) (before : List Line). node_of l ≡ 0) a.correct a.past sent (refl, (refl, tt)) a.place in
      omega (arith, own, a.node));
  fourth = breaks (posts_again 3000000 (posts_again 2000000 (posts_again 1000000 asked))) (λ h. too_many 4 3 refl ((h.0 (peer_of 1) asks refl refl).few));
  late = breaks (posts_again 4000001 asked) (λ h.
      let o = h.0 (peer_of 1) asks refl refl in
      let first : 0 ≡ o.first.did.tick = ap (λ s. tick_of (plain s)) o.is in
      let soon = o.soon in
      omega (arith, first, soon));
}

-- a stranger's date
abbrev foreign : MessageValue
foreign = msg Date 5 (TimeBody (pos 500))

-- a step that takes it after these lines, and moves the clock by this
abbrev set_after : ℤ → List Line → List Line
set_after amount h = does 20 0 Handed (Correct amount true (pos 500)) ∷ (does 20 0 Handed (Took Stranger (Good (Message foreign))) ∷
    (begins 20 0 Handed ∷ h))

abbrev date_sent : List Line
date_sent = does 10 0 Turned (Post (Peer (peer_of 1)) (Message (msg SetDateReq 32775 (TimeBody (pos 1))))) ∷
    (does 10 0 Turned (Ring Round) ∷ [])

abbrev acked : List Line
acked = does 20 0 Turned (Acked (peer_of 1)) ∷ date_sent

pub dates_break : DatesBreak
dates_break = record {
  setting = still false;
  leads = breaks (set_after (pos 480) [])
      (λ h. cc (h.0 (pos 480) true (pos 500) Stranger foreign refl refl refl).leads);
  sets = breaks (set_after (pos 5) (does 10 0 Turned (Become Master) ∷ []))
      (λ h. let k : pos 5 ≡ pos 480 = (h.0 (pos 5) true (pos 500) Stranger foreign refl refl refl).amount_is in omega (arith, k, ints));
  confirmed = breaks acked (λ h.
      let a = (h (honest_by acked refl) (life_by acked refl) (few_by acked refl)).0 (peer_of 1) _ _ (msg SetDateReq 32775 (TimeBody
      (pos 1))) refl refl refl refl in
      let own = Everywhere_at (λ (l : Line) (before : List Line). node_of l ≡ 0) a.correct a.past date_sent (refl, (refl, tt)) a.place in
      omega (arith, own, a.node));
}

-- node 1 posts a LOOP with so many hops to node 2
abbrev posts_with : ℕ → Line
posts_with hops = does 10 1 Turned (Post (Peer (peer_of 2)) (Message (loop_with hops)))

-- the hops of a post with this deed
hops_in : (last : LoopPost) (n : ℕ) → last.post.did.deed ≡ Acts (Post (Peer (peer_of 2)) (Message (loop_with n))) → n ≡ last.hops
hops_in last n deed =
    let m = one_message (peer_of 2) last.to (loop_with n) last.message (sym deed ∙ last.deed) in
    let same : Hops n ≡ Hops last.hops = ap (λ (z : MessageValue). z.body) m ∙ last.hops_is in
    cc

no_chain : (last : LoopPost) (rest : List LoopPost) → last.post.did.deed ≡ Acts (Post (Peer (peer_of 2)) (Message (loop_with 3))) → last.older ≡ [] →
    IsLoopChain (last ∷ rest) → ⊥
no_chain last [] deed older c = (let k = hops_in last 3 deed in omega (arith, k, c))
no_chain last (early ∷ others) deed older c = true≢false (sym (subst (λ h. is_some (heard (dids (of (node_of last.post) h))) ≡ true) older
    c.0.took))

abbrev gives : List Line
gives = does 20 0 Turned (Become Loose) ∷ (does 10 0 Turned (Become Master) ∷ [])

pub loops_break : LoopsBreak
loops_break = record {
  setting = still false;
  hops = breaks (posts_with 11 ∷ [])
      (λ h. let r = h.0 (Peer (peer_of 2)) (loop_with 11) refl refl in let same : Hops 11 ≡ Hops r.0 = r.1.0 in let k : 11 ≡ r.0 = cc in
      omega (arith, k, r.1.1));
  chains = breaks (posts_with 3 ∷ []) (λ h.
      let e = (h (honest_by (posts_with 3 ∷ []) refl)).0 (Peer (peer_of 2)) (loop_with 3) refl refl in
      no_chain e.last e.rest (ap (λ (l : Line). l.did.deed) e.post_is) e.older_is e.chain);
  gives_up = breaks gives (λ h. true≢false (sym ((h (honest_by gives refl) (names_by false gives)).0 refl refl).takes.took));
}
