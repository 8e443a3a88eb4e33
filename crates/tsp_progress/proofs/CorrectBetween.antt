-- Between two places of a calm history a node corrects its clock, or its ticket stays.
use Rattle.std.proofs.Common.{sym, subst, inl, inr, ◌∙◌, ◌≡◌, ◌≢◌, ◌⊎◌, ℕ, ◌==◌, ℤ, Bool, true, false, List, [], ◌∷◌, Some, eqb-true}
use Rattle.std.proofs.Common.{refl}
use Rattle.tsp_rules.specs.Values.{Boot, Correct}
use Rattle.tsp_base.specs.Words.{Acts, Deed, Did, Line, Undisturbed, Within, all_corrects, correct_tick, dids, last_correct, lives, of, ticket}
use Rattle.tsp_base.specs.NodeFacts.{correct_place, correct_place_after, last_correct_after, tick_in}
use Rattle.tsp_base.proofs.PlaceLemmas.{Within_tail, Within_through}
use Rattle.tsp_promises.specs.{Fits.node_of}
use Rattle.tsp_promises.proofs.{shared.HistoryPlaces.of_other, shared.HistoryPlaces.of_own}
use Rattle.tsp_progress.specs.FollowOn.{Calm}

-- a Correct of the node after the first place, up to the second
pub record Between (n : ℕ) (g h : List Line) : Type 0 where
  pub line : Line
  pub before : List Line
  pub place : Within (line ∷ before) h
  pub after : Within g before
  pub node : node_of line ≡ n
  pub amount : ℤ
  pub stepped : Bool
  pub shown : ℤ
  pub deed : line.did.deed ≡ Acts (Correct amount stepped shown)

-- there is none
pub record NoneBetween (n : ℕ) (g h : List Line) : Type 0 where
  pub left : Undisturbed (dids (of n g)) (dids (of n h))
  pub ticket_is : ticket (dids (of n h)) ≡ ticket (dids (of n g))
  pub tick_is : correct_tick (dids (of n h)) ≡ correct_tick (dids (of n g))

-- what a deed leaves alone that is neither a boot nor a Correct
record Left (d : Did) (ds : List Did) : Type 0 where
  pub lives_are : lives (d ∷ ds) ≡ lives ds
  pub corrects_are : all_corrects (d ∷ ds) ≡ all_corrects ds
  pub ticket_is : ticket (d ∷ ds) ≡ ticket ds
  pub tick_is : correct_tick (d ∷ ds) ≡ correct_tick ds

-- a Correct
record Moving (d : Did) : Type 0 where
  pub amount : ℤ
  pub stepped : Bool
  pub shown : ℤ
  pub is : d.deed ≡ Acts (Correct amount stepped shown)

moves_or_not : (d : Did) (ds : List Did) → d.deed ≢ Acts Boot → Moving d ⊎ Left d ds
moves_or_not d ds unbooted = by_deed d.deed refl where
  by_deed : (deed : Deed) → d.deed ≡ deed → Moving d ⊎ Left d ds
  by_deed (Acts Boot) is = absurd (unbooted is)
  by_deed (Acts (Correct amount stepped shown)) is = inl (record { amount = amount; stepped = stepped; shown = shown; is = is })
  by_deed _ is = inr (record { lives_are = rw is refl; corrects_are = rw is refl; ticket_is = rw is refl; tick_is = rw is refl })

later : (n : ℕ) (g : List Line) (l : Line) (h : List Line) → Between n g h → Between n g (l ∷ h)
later n g l h b = record {
  line = b.line;
  before = b.before;
  place = inr b.place;
  after = b.after;
  node = b.node;
  amount = b.amount;
  stepped = b.stepped;
  shown = b.shown;
  deed = b.deed;
}

pub quiet_here : (n : ℕ) (g h : List Line) → g ≡ h → NoneBetween n g h
quiet_here n g h e = subst (λ z. NoneBetween n g z) e (record { left = record { corrects = refl; lives = refl }; ticket_is = refl; tick_is = refl })

module _ (world : List Line) (long : ℕ) (stays : ℕ → Bool) (s : List Line) (calm : Calm long stays s world) where
  pub between : (n : ℕ) (g h : List Line) → Within s g → Within g h → Within h world → Between n g h ⊎ NoneBetween n g h
  between n g [] since w v = inr (quiet_here n g [] w)
  between n g (l ∷ h) since (inl e) v = inr (quiet_here n g (l ∷ h) e)
  between n g (l ∷ h) since (inr w) v = elim (between n g h since w (Within_tail l h world v)) [
    | inl b ↦ inl (later n g l h b)
    | inr q ↦ by_node (node_of l == n) refl q
  ] where
    by_node : (b : Bool) → (node_of l == n) ≡ b → NoneBetween n g h → Between n g (l ∷ h) ⊎ NoneBetween n g (l ∷ h)
    by_node false e q = inr (subst (λ ls. Undisturbed (dids (of n g)) (dids ls) × (ticket (dids ls) ≡ ticket (dids (of n g))) × (correct_tick (dids ls) ≡
        correct_tick (dids (of n g))) → NoneBetween n g (l ∷ h)) (of_other n l h e) (λ z. record { left = z.0; ticket_is = z.1; tick_is = z.2 })
        (q.left, q.ticket_is, q.tick_is))
    by_node true e q =
        let node = eqb-true (node_of l) n e in
        elim (moves_or_not l.did (dids (of n h)) (calm.unbooted l h v (Within_through s g h since w))) [
          | inl m ↦ inl (record {
            line = l;
            before = h;
            place = inl refl;
            after = w;
            node = node;
            amount = m.amount;
            stepped = m.stepped;
            shown = m.shown;
            deed = m.is;
          })
          | inr k ↦ inr (subst (λ ls. Undisturbed (dids (of n g)) (dids ls) × (ticket (dids ls) ≡ ticket (dids (of n g))) × (correct_tick (dids ls) ≡
              correct_tick (dids (of n g))) → NoneBetween n g (l ∷ h)) (of_own n l h node) (λ z. record { left = z.0; ticket_is = z.1; tick_is = z.2 }) (
                record { corrects = q.left.corrects ∙ sym k.corrects_are; lives = q.left.lives ∙ sym k.lives_are },
                k.ticket_is ∙ q.ticket_is,
                k.tick_is ∙ q.tick_is,
              ))
        ]

-- the last correction's tick
pub last_is : (ds : List Did) (y : ℕ) → correct_tick ds ≡ Some y → last_correct ds ≡ y
last_is [] y e = let bad : ⊥ = cc in absurd bad
last_is (d ∷ ds) y e = by_deed d.deed e (last_is ds y) where
  by_deed : (deed : Deed) → tick_in (correct_place_after deed (d ∷ ds) (correct_place ds)) ≡ Some y →
      (correct_tick ds ≡ Some y → last_correct ds ≡ y) → last_correct_after deed d.tick (last_correct ds) ≡ y
  by_deed (Acts Boot) k older = let bad : ⊥ = cc in absurd bad
  by_deed (Acts (Correct amount stepped shown)) k older = let same : Some d.tick ≡ Some y = k in cc
  by_deed _ k older = older k
