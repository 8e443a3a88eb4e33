-- What a round keeps until it closes: its requests are open until they are answered, and a sample stays.
use Rattle.std.proofs.Common.{sym, ap, subst, arith, inl, inr, true≢false, ◌∙◌, ◌≡◌, ◌≢◌, ◌⊎◌, ℕ, ◌==◌, ◌&&◌, ◌||◌, if◌then◌else◌, Bool, true, false, List, []}
use Rattle.std.proofs.Common.{◌∷◌, Some, is_some, length, eq-eqb, refl}
use Rattle.std.proofs.lemmas.Bool.{and_parts}
use Rattle.tsp_rules.specs.Values.{Boot, Post, Become, Arm, Ring, Late, Abandon, Sample, Leave, CloseAlarm, Stamp, PeerId, Peer, Port, Request, Role}
use Rattle.tsp_base.specs.Words.{Acts, Deed, Did, Elsewhere, Here, Line, Sampled, Seen, Setup, Within, armed, armed_after, best, best_after, exchange}
use Rattle.tsp_base.specs.Words.{exchange_after, is_going, is_measured, is_shared, is_starting, plain, role, role_after, seen_as, started, started_after, view}
use Rattle.tsp_base.specs.Words.{word, word_after}
use Rattle.tsp_base.specs.RoundFacts.{is_measured_after, word_asked, word_asked_by}
use Rattle.tsp_base.proofs.PlaceLemmas.{Within_length, Within_through}
use Rattle.tsp_rules.proofs.GuardFacts.{same_peer}
use Rattle.tsp_promises.specs.{DeedFits.DeedFits, PortFits.PortFits}

-- deeds that end a round, or begin one
abbrev is_edge : Deed → Bool
is_edge (Acts Boot) = true
is_edge (Acts (Become r)) = true
is_edge (Acts (Arm CloseAlarm at)) = true
is_edge (Acts (Ring CloseAlarm)) = true
is_edge (Acts (Late CloseAlarm)) = true
is_edge (Acts Abandon) = true
is_edge _ = false

-- a request to p in the step in which the round began
pub record AskedAt (p : PeerId) (seen : List Seen) : Type 0 where
  pub post : Did
  pub rest : List Seen
  pub place : Within (Here post ∷ rest) seen
  pub word : ℕ
  pub counter : ℕ
  pub deed : post.deed ≡ Acts (Post (Peer p) (Stamp (Request word counter)))
  pub starts : is_starting rest ≡ true
  pub same : started rest ≡ started seen

asked_deed : (p : PeerId) (d : Did) (before : List Seen) (deed : Deed) → deed ≡ d.deed →
    is_measured_after p deed (is_starting before) (is_measured p before) ≡ true → (is_measured p before ≡ true → AskedAt p before) → AskedAt p (Here d ∷ before)
asked_deed p d before deed is e h = by_deed deed is e where
  kept : started (Here d ∷ before) ≡ started before → is_measured p before ≡ true → AskedAt p (Here d ∷ before)
  kept same m = let o = h m in record {
    post = o.post;
    rest = o.rest;
    place = inr o.place;
    word = o.word;
    counter = o.counter;
    deed = o.deed;
    starts = o.starts;
    same = o.same ∙ sym same;
  }

  same_by : (deed : Deed) → deed ≡ d.deed → started_after deed (Here d ∷ before) (started before) ≡ started before → started (Here d ∷ before) ≡ started before
  same_by deed is e = sym (ap (λ k. started_after k (Here d ∷ before) (started before)) is) ∙ e

  by_request : (q : PeerId) (word counter : ℕ) → Acts (Post (Peer q) (Stamp (Request word counter))) ≡ d.deed → (b : Bool) →
      ((q.0 == p.0) && is_starting before) ≡ b → (if b then true else is_measured p before) ≡ true → AskedAt p (Here d ∷ before)
  by_request q word counter is true flag k =
      let both = and_parts (q.0 == p.0) (is_starting before) flag in
      record {
        post = d;
        rest = before;
        place = inl refl;
        word = word;
        counter = counter;
        deed = sym is ∙ ap (λ k. Acts (Post (Peer k) (Stamp (Request word counter)))) (same_peer q p both.0);
        starts = both.1;
        same = sym (same_by (Acts (Post (Peer q) (Stamp (Request word counter)))) is refl);
      }
  by_request q word counter is false flag k = kept (same_by (Acts (Post (Peer q) (Stamp (Request word counter)))) is refl) k

  by_leave : (q : PeerId) → Acts (Leave q) ≡ d.deed → (b : Bool) → (if b then false else is_measured p before) ≡ true → AskedAt p (Here d ∷ before)
  by_leave q is true k = absurd (true≢false (sym k))
  by_leave q is false k = kept (same_by (Acts (Leave q)) is refl) k

  by_deed : (deed : Deed) → deed ≡ d.deed → is_measured_after p deed (is_starting before) (is_measured p before) ≡ true → AskedAt p (Here d ∷ before)
  by_deed (Acts Boot) is k = absurd (true≢false (sym k))
  by_deed (Acts (Become r)) is k = absurd (true≢false (sym k))
  by_deed (Acts (Arm CloseAlarm at)) is k = absurd (true≢false (sym k))
  by_deed (Acts (Post (Peer q) (Stamp (Request word counter)))) is k = by_request q word counter is ((q.0 == p.0) && is_starting before) refl k
  by_deed (Acts (Leave q)) is k = by_leave q is (q.0 == p.0) k
  by_deed deed is k = kept (same_by deed is refl) k

pub asked_at : (p : PeerId) (seen : List Seen) → is_measured p seen ≡ true → AskedAt p seen
asked_at p [] e = absurd (true≢false (sym e))
asked_at p (Elsewhere d ∷ before) e = let o = asked_at p before e in record {
  post = o.post;
  rest = o.rest;
  place = inr o.place;
  word = o.word;
  counter = o.counter;
  deed = o.deed;
  starts = o.starts;
  same = o.same;
}
asked_at p (Here d ∷ before) e = asked_deed p d before d.deed refl e (λ m. asked_at p before m)

-- deeds elsewhere are no boots
abbrev pub Proper : List Seen → Type 0
Proper [] = Unit {0}
Proper (Here d ∷ before) = Proper before
Proper (Elsewhere d ∷ before) = (is_shared d.deed ≡ false) × Proper before

unshared_beside : (b c : Bool) → (b || c) ≡ false → c ≡ false
unshared_beside true c e = absurd (true≢false e)
unshared_beside false c e = e

pub proper_view : (q : Port) (lines : List Line) → Proper (view q lines)
proper_view q [] = tt
proper_view q (l ∷ before) = by_case ((l.port.0 == q.0) || is_shared l.did.deed) refl (proper_view q before) where
  by_case : (b : Bool) → ((l.port.0 == q.0) || is_shared l.did.deed) ≡ b → Proper (view q before) → Proper (seen_as b l.did ∷ view q before)
  by_case true e h = h
  by_case false e h = (unshared_beside (l.port.0 == q.0) (is_shared l.did.deed) e, h)

-- the round that began here
module _ (start : Did) (idle : List Seen) where
  abbrev Start : List Seen
  Start = Here start ∷ idle

  -- it goes on, and the role is this
  pub record Going (r : Role) (seen : List Seen) : Type 0 where
    pub going : is_going seen ≡ true
    pub started_is : started seen ≡ Start
    pub role_is : role seen ≡ r

  not_start : (d : Did) (before : List Seen) → Within Start before → Here d ∷ before ≢ Start
  not_start d before w e =
      let few = Within_length Start before w in
      let same = ap length e in
      omega (arith, few, same)

  -- no deed since then has ended it, or begun another one
  no_edge : (r : Role) (d : Did) (before : List Seen) → Within Start before → Going r (Here d ∷ before) → is_edge d.deed ≡ false
  no_edge r d before w g = by_deed d.deed g.going g.started_is where
    by_deed : (deed : Deed) → is_some (armed_after deed (armed before)).close ≡ true → started_after deed (Here d ∷ before) (started before) ≡ Start →
        is_edge deed ≡ false
    by_deed (Acts Boot) e s = absurd (true≢false (sym e))
    by_deed (Acts (Become q)) e s = absurd (true≢false (sym e))
    by_deed (Acts (Arm CloseAlarm at)) e s = absurd (not_start d before w s)
    by_deed (Acts (Ring CloseAlarm)) e s = absurd (true≢false (sym e))
    by_deed (Acts (Late CloseAlarm)) e s = absurd (true≢false (sym e))
    by_deed (Acts Abandon) e s = absurd (true≢false (sym e))
    by_deed _ e s = refl

  one_back : (r : Role) (d : Did) (before : List Seen) → Within Start before → Going r (Here d ∷ before) → Going r before
  one_back r d before w g = by_deed d.deed (no_edge r d before w g) g.going g.started_is g.role_is where
    by_deed : (deed : Deed) → is_edge deed ≡ false → is_some (armed_after deed (armed before)).close ≡ true →
        started_after deed (Here d ∷ before) (started before) ≡ Start → role_after deed (role before) ≡ r → Going r before
    by_deed (Acts Boot) n e s k = absurd (true≢false n)
    by_deed (Acts (Become q)) n e s k = absurd (true≢false n)
    by_deed (Acts (Arm CloseAlarm at)) n e s k = absurd (true≢false n)
    by_deed (Acts (Ring CloseAlarm)) n e s k = absurd (true≢false n)
    by_deed (Acts (Late CloseAlarm)) n e s k = absurd (true≢false n)
    by_deed (Acts Abandon) n e s k = absurd (true≢false n)
    by_deed _ n e s k = record { going = e; started_is = s; role_is = k }

  pub back : (r : Role) (s t : List Seen) → Within s t → Within Start s → Going r t → Going r s
  back r s [] w v g = absurd (true≢false (sym g.going))
  back r s (k ∷ t) (inl e) v g = subst (λ u. Going r u) (sym e) g
  back r s (Elsewhere d ∷ t) (inr w) v g = back r s t w v (record { going = g.going; started_is = g.started_is; role_is = g.role_is })
  back r s (Here d ∷ t) (inr w) v g = back r s t w v (one_back r d t (Within_through Start s t v w) g)

  -- a sample stays
  module _ (p : PeerId) where
    kept-best : (d : Did) (before : List Seen) (deed : Deed) → is_edge deed ≡ false → is_some (best p before) ≡ true →
        is_some (best_after p deed (Here d ∷ before) before (best p before)) ≡ true
    kept-best d before (Acts Boot) n h = absurd (true≢false n)
    kept-best d before (Acts (Become r)) n h = absurd (true≢false n)
    kept-best d before (Acts (Arm CloseAlarm at)) n h = absurd (true≢false n)
    kept-best d before (Acts (Sample q counter diff err ticket)) n h = by_case (q.0 == p.0) _ where
      by_case : (b : Bool) (new : Sampled) → is_some (if b then Some new else best p before) ≡ true
      by_case true new = refl
      by_case false new = h
    kept-best d before _ n h = h

    pub persists : (r : Role) (s seen : List Seen) → Within s seen → Within Start s → Going r seen → is_some (best p s) ≡ true →
        is_some (best p seen) ≡ true
    persists r s [] w v g h = absurd (true≢false (sym g.going))
    persists r s (k ∷ before) (inl e) v g h = subst (λ u. is_some (best p u) ≡ true) e h
    persists r s (Elsewhere d ∷ before) (inr w) v g h =
        persists r s before w v (record { going = g.going; started_is = g.started_is; role_is = g.role_is }) h
    persists r s (Here d ∷ before) (inr w) v g h =
        let in_round = Within_through Start s before v w in
        kept-best d before d.deed (no_edge r d before in_round g) (persists r s before w v (one_back r d before in_round g) h)

    -- a request of the round
    module _ (post : Did) (rest : List Seen) (asked_word counter : ℕ) (deed_is : post.deed ≡ Acts (Post (Peer p) (Stamp (Request asked_word counter))))
        (word_is : asked_word ≡ word (plain rest)) (inside : Within Start rest) where
      -- it is open
      pub record Open (seen : List Seen) : Type 0 where
        pub first : Seen
        pub older : List Seen
        pub is : exchange p counter seen ≡ first ∷ older
        pub asked_is : word_asked (first ∷ older) ≡ asked_word
        pub word_same : word (plain seen) ≡ asked_word

      abbrev Had : List Seen → Type 0
      Had seen = (is_some (best p seen) ≡ true) ⊎ Open seen

      opened : Open (Here post ∷ rest)
      opened =
          let own : (p.0 == p.0) ≡ true = eq-eqb p.0 p.0 refl in
          let same : (counter == counter) ≡ true = eq-eqb counter counter refl in
          record { first = Here post; older = rest; is = rw (deed_is, own, same) refl; asked_is = rw deed_is refl; word_same = rw deed_is (sym word_is) }

      -- after a deed here
      module _ (setup : Setup) (d : Did) (before : List Seen) (o : Open before) where
        abbrev Asked : Deed → Type 0
        Asked deed = (is_some (best_after p deed (Here d ∷ before) before (best p before)) ≡ true)
            ⊎ ((first : Seen) × ((older : List Seen) × ((exchange_after p counter deed (Here d ∷ before) (exchange p counter before) ≡ first ∷ older)
            × (word_asked (first ∷ older) ≡ asked_word))))

        stays : (first : Seen) × ((older : List Seen) × ((exchange p counter before ≡ first ∷ older) × (word_asked (first ∷ older) ≡ asked_word)))
        stays = (o.first, (o.older, (o.is, o.asked_is)))

        posted : (q : PeerId) (w c : ℕ) → Acts (Post (Peer q) (Stamp (Request w c))) ≡ d.deed → w ≡ word (plain before) → (b : Bool) →
            (is_some (best p before) ≡ true)
            ⊎ ((first : Seen) × ((older : List Seen) × (((if b then Here d ∷ before else exchange p counter before) ≡ first ∷ older)
            × (word_asked (first ∷ older) ≡ asked_word))))
        posted q w c is same true = inr (Here d, (before, (refl, ap word_asked_by (sym is) ∙ (same ∙ o.word_same))))
        posted q w c is same false = inr stays

        sampled : (c : ℕ) (new : Sampled) (b : Bool) → (is_some (if b then Some new else best p before) ≡ true)
            ⊎ ((first : Seen) × ((older : List Seen) × (((if b && (c == counter) then [] else exchange p counter before) ≡ first ∷ older)
            × (word_asked (first ∷ older) ≡ asked_word))))
        sampled c new true = inl refl
        sampled c new false = inr stays

        by_deed_holds : (deed : Deed) → deed ≡ d.deed → is_edge deed ≡ false → DeedFits setup deed d before → Asked deed
        by_deed_holds (Acts Boot) is n f = absurd (true≢false n)
        by_deed_holds (Acts (Become r)) is n f = absurd (true≢false n)
        by_deed_holds (Acts (Arm CloseAlarm at)) is n f = absurd (true≢false n)
        by_deed_holds (Acts (Ring CloseAlarm)) is n f = absurd (true≢false n)
        by_deed_holds (Acts (Late CloseAlarm)) is n f = absurd (true≢false n)
        by_deed_holds (Acts Abandon) is n f = absurd (true≢false n)
        by_deed_holds (Acts (Post (Peer q) (Stamp (Request w c)))) is n f = posted q w c is f.fits.word_is ((q.0 == p.0) && (c == counter))
        by_deed_holds (Acts (Sample q c diff err ticket)) is n f = sampled c _ (q.0 == p.0)
        by_deed_holds _ is n f = inr stays

        same-word : (deed : Deed) → is_edge deed ≡ false → word_after deed d.step.cause (word (plain before)) ≡ word (plain before)
        same-word (Acts Boot) n = absurd (true≢false n)
        same-word _ n = refl

        pub goes_on : is_edge d.deed ≡ false → DeedFits setup d.deed d before → Had (Here d ∷ before)
        goes_on n f = elim (by_deed_holds d.deed refl n f) [
          | inl h ↦ inl h
          | inr k ↦ inr (record { first = k.0; older = k.1.0; is = k.1.1.0; asked_is = k.1.1.1; word_same = same-word d.deed n ∙ o.word_same })
        ]

      unbooted : (deed : Deed) (d : Did) (before : List Seen) → is_shared deed ≡ false → word_after deed d.step.cause (word (plain before)) ≡
          word (plain before)
      unbooted (Acts Boot) d before e = absurd (true≢false e)
      unbooted _ d before e = refl

      -- in the round's past it is open, or a sample came of the peer
      pub walk : (setup : Setup) (r : Role) (seen : List Seen) → Within (Here post ∷ rest) seen → PortFits setup seen → Proper seen → Going r seen → Had seen
      walk setup r [] w f pr g = absurd (true≢false (sym g.going))
      walk setup r (k ∷ before) (inl e) f pr g = inr (subst (λ u. Open u) e opened)
      walk setup r (Elsewhere d ∷ before) (inr w) f pr g =
          elim (walk setup r before w f pr.1 (record { going = g.going; started_is = g.started_is; role_is = g.role_is })) [
            | inl h ↦ inl h
            | inr o ↦ inr (record {
              first = o.first;
              older = o.older;
              is = o.is;
              asked_is = o.asked_is;
              word_same = unbooted d.deed d before pr.0 ∙ o.word_same;
            })
          ]
      walk setup r (Here d ∷ before) (inr w) f pr g =
          let in_round = Within_through Start (Here post ∷ rest) before (inr inside) w in
          let n = no_edge r d before in_round g in
          elim (walk setup r before w f.1 pr (one_back r d before in_round g)) [
            | inl h ↦ inl (kept-best d before d.deed n h)
            | inr o ↦ goes_on setup d before o n f.0
          ]
