-- Where a port took the node's last correction and the last date of a peer, and when it last began to pass a date on.
use Rattle.std.proofs.Common.{sym, ap, subst, subst₂, inl, inr, true≢false, ◌∙◌, ◌≡◌, ◌==◌, ◌||◌, cond, Bool, true, false, ℕ, ℤ, List, [], ◌∷◌, Option, Some}
use Rattle.std.proofs.Common.{None, refl, arith, eq-eqb, ◌&&◌, ◌≤◌, ◌⊎◌}
use Rattle.std.proofs.{Math.Bool.or-true, lemmas.Bool.and_parts}
use Rattle.tsp_rules.specs.Values.{Boot, Correct, Message, Stamp, Taken, Good, Bad, PeerId, Place, Peer, Stranger, Port, Post}
use Rattle.tsp_rules.proofs.GuardFacts.{same_peer}
use Rattle.tsp_base.specs.Words.{Acts, Deed, Did, Line, dids, view, seen_as, is_shared, MessageValue, all_corrects, all_corrects_after, lives, lives_after}
use Rattle.tsp_base.specs.Words.{Within, Received, Said, said, said_by, message_in, taken, Correcting, correcting_of, is_correction, last_taken}
use Rattle.tsp_base.specs.Words.{last_taken_after, last_taken_elsewhere, Receives, acting, Dating, dating_of, is_date_request, is_set_date_request, last_asked}
use Rattle.tsp_base.specs.Words.{last_asked_after, last_date, last_date_after}
use Rattle.tsp_base.proofs.ViewPlaces.{port_same, or-false, sees_own}
use Rattle.tsp_promises.proofs.{promised.SinceProof.NotBefore, promised.SinceProof.lasting, promised.SinceProof.lasting_seen, promised.SinceProof.later_if}
use Rattle.tsp_promises.proofs.{promised.KnownProof.line_is}
use Rattle.tsp_promises.{proofs.shared.HistoryPlaces.line_on, specs.OwnFits.OwnFits, specs.Setting.Setting, specs.Fits.Sees}

-- a Correct of port q after these lines, in a step that has taken a message of p
pub record CorrectTook (q : Port) (p : PeerId) (correct : Did) (rest : List Line) : Type 0 where
  pub amount : ℤ
  pub stepped : Bool
  pub shown : ℤ
  pub deed : correct.deed ≡ Acts (Correct amount stepped shown)
  pub message : MessageValue
  pub took : Receives (view q rest) p (Message message)

-- a line in which port q corrected the clock by a message with this number, the node's last Correct
pub record TakenAt (q : Port) (t : List Line) (from : PeerId) (number : ℕ) : Type 0 where
  pub correct : Did
  pub rest : List Line
  pub place : Within (line_on q correct ∷ rest) t
  pub by : CorrectTook q from correct rest
  pub open by use *
  pub kind : is_correction message.kind ≡ true
  pub number_is : message.number ≡ number
  pub all : all_corrects (dids (line_on q correct ∷ rest)) ≡ all_corrects (dids t)
  pub lives : lives (dids (line_on q correct ∷ rest)) ≡ lives (dids t)

said_is : (from : Place) (t : Taken) (s : Said) → said_by from (message_in t) ≡ Some s → (from ≡ Peer s.from) × (t ≡ Good (Message s.message))
said_is Stranger t s e = let bad : ⊥ = cc in absurd bad
said_is (Peer p) (Bad fault) s e = let bad : ⊥ = cc in absurd bad
said_is (Peer p) (Good (Stamp stamp)) s e = let bad : ⊥ = cc in absurd bad
said_is (Peer p) (Good (Message m)) s e =
    let k : record { from = p; message = m } ≡ s = cc in
    (ap (λ (z : Said). Peer z.from) k, ap (λ (z : Said). Good (Message z.message)) k)

-- what a step took, by what it says
pub said_took : (took : Option Received) (s : Said) → said took ≡ Some s → took ≡ Some (record { from = Peer s.from; taken = Good (Message s.message) })
said_took None s e = let bad : ⊥ = cc in absurd bad
said_took (Some r) s e =
    let two = said_is r.from r.taken s e in
    subst₂ (λ x y. Some r ≡ Some (record { from = x; taken = y })) two.0 two.1 refl

-- what a Correct took, from its sender and its number
record Took (took : Option Received) (from : PeerId) (number : ℕ) : Type 0 where
  pub message : MessageValue
  pub is : took ≡ Some (record { from = Peer from; taken = Good (Message message) })
  pub kind : is_correction message.kind ≡ true
  pub number_is : message.number ≡ number

-- what is remembered of a step is a correction
correction_of : (b : Bool) (s : Said) (from : PeerId) (number : ℕ) → cond {A = Option Correcting} b (Some (record { from = s.from; number = s.message.number }))
    None ≡ Some (record { from = from; number = number }) →
    (b ≡ true) × ((s.from ≡ from) × (s.message.number ≡ number))
correction_of false s from number e = let bad : ⊥ = cc in absurd bad
correction_of true s from number e =
    let two : Correcting = record { from = from; number = number } in
    let same : record { from = s.from; number = s.message.number } ≡ two = cc in
    (refl, (ap (λ (z : Correcting). z.from) same, ap (λ (z : Correcting). z.number) same))

correcting_is : (took : Option Received) (from : PeerId) (number : ℕ) → correcting_of (said took) ≡ Some (record { from = from; number = number }) →
    Took took from number
correcting_is took from number e = by_said (said took) refl e where
  by_said : (o : Option Said) → said took ≡ o → correcting_of o ≡ Some (record { from = from; number = number }) → Took took from number
  by_said None f h = let bad : ⊥ = cc in absurd bad
  by_said (Some s) f h =
      let t = correction_of (is_correction s.message.kind) s from number h in
      record {
        message = s.message;
        is = subst (λ z. took ≡ Some (record { from = Peer z; taken = Good (Message s.message) })) t.1.0 (said_took took s f);
        kind = t.0;
        number_is = t.1.1;
      }

taken_before : (q : Port) (l : Line) (t : List Line) (from : PeerId) (number : ℕ) → all_corrects_after l.did.deed (all_corrects (dids t)) ≡
    all_corrects (dids t) → lives_after l.did.deed (lives (dids t)) ≡ lives (dids t) →
    TakenAt q t from number → TakenAt q (l ∷ t) from number
taken_before q l t from number a v o =
    record {
      correct = o.correct;
      rest = o.rest;
      place = inr o.place;
      by = o.by;
      kind = o.kind;
      number_is = o.number_is;
      all = o.all ∙ sym a;
      lives = o.lives
          ∙ sym v;
    }

taken_here : (q : Port) (l : Line) (t : List Line) (from : PeerId) (number : ℕ) (deed : Deed) → deed ≡ l.did.deed → ((l.port.0 == q.0) || is_shared deed) ≡
    true →
    (last_taken (view q t) ≡ Some (record { from = from; number = number }) → TakenAt q t from number) →
    last_taken_after deed (taken (view q t)) (last_taken (view q t)) ≡ Some (record { from = from; number = number }) → TakenAt q (l ∷ t) from number
taken_here q l t from number (Acts Boot) is b h e = let bad : ⊥ = cc in absurd bad
taken_here q l t from number (Acts (Correct amount stepped shown)) is b h e =
    let k = correcting_is (taken (view q t)) from number e in
    let port : l.port ≡ q = port_same l.port q (or-false (l.port.0 == q.0) false b refl) in
    let line : line_on q l.did ≡ l = subst (λ p. line_on p l.did ≡ l) port refl in
    record {
      correct = l.did;
      rest = t;
      place = inl (ap (λ k. k ∷ t) line);
      by = record { amount = amount; stepped = stepped; shown = shown; deed = sym is; message = k.message; took = k.is };
      kind = k.kind;
      number_is = k.number_is;
      all = refl;
      lives = refl;
    }
taken_here q l t from number _ is b h e = taken_before q l t from number (ap (λ k. all_corrects_after k (all_corrects (dids t))) (sym is))
    (ap (λ k. lives_after k (lives (dids t))) (sym is)) (h e)

taken_elsewhere : (q : Port) (l : Line) (t : List Line) (from : PeerId) (number : ℕ) (deed : Deed) → deed ≡ l.did.deed → ((l.port.0 == q.0) || is_shared deed) ≡
    false →
    (last_taken (view q t) ≡ Some (record { from = from; number = number }) → TakenAt q t from number) → last_taken_elsewhere deed (last_taken (view q t)) ≡
    Some (record { from = from; number = number }) → TakenAt q (l ∷ t) from number
taken_elsewhere q l t from number (Acts (Correct amount stepped shown)) is b h e = let bad : ⊥ = cc in absurd bad
taken_elsewhere q l t from number (Acts Boot) is b h e = absurd (true≢false (sym (or-true (l.port.0 == q.0)) ∙ b))
taken_elsewhere q l t from number _ is b h e = taken_before q l t from number (ap (λ k. all_corrects_after k (all_corrects (dids t))) (sym is))
    (ap (λ k. lives_after k (lives (dids t))) (sym is)) (h e)

taken_more : (q : Port) (l : Line) (t : List Line) (from : PeerId) (number : ℕ) (b : Bool) → ((l.port.0 == q.0) || is_shared l.did.deed) ≡ b →
    (last_taken (view q t) ≡ Some (record { from = from; number = number }) → TakenAt q t from number) →
    last_taken (seen_as b l.did ∷ view q t) ≡ Some (record { from = from; number = number }) → TakenAt q (l ∷ t) from number
taken_more q l t from number true b h e = taken_here q l t from number l.did.deed refl b h e
taken_more q l t from number false b h e = taken_elsewhere q l t from number l.did.deed refl b h e

pub last_taken_at : (q : Port) (t : List Line) (from : PeerId) (number : ℕ) → last_taken (view q t) ≡ Some (record { from = from; number = number }) →
    TakenAt q t from number
last_taken_at q [] from number e = let bad : ⊥ = cc in absurd bad
last_taken_at q (l ∷ t) from number e = taken_more q l t from number ((l.port.0 == q.0) || is_shared l.did.deed) refl (last_taken_at q t from number) e

-- the last date of p is set by this line of port q
pub record DateSet (q : Port) (p : PeerId) (l : Line) (t : List Line) : Type 0 where
  pub line : line_on q l.did ≡ l
  pub by : CorrectTook q p l.did t
  pub open by use *
  pub kind : is_date_request message.kind ≡ true
  pub is : last_date p (view q (l ∷ t)) ≡ Some (record { at = l.did.tick; number = message.number })

-- a line leaves it as it was, forgets it at a boot, or sets it
abbrev DateStep : Port → PeerId → Line → List Line → Type 0
DateStep q p l t =
    (last_date p (view q (l ∷ t)) ≡ last_date p (view q t)) ⊎ (((l.did.deed ≡ Acts Boot) × (last_date p (view q (l ∷ t)) ≡ None)) ⊎ DateSet q p l t)

date_step : (q : Port) (p : PeerId) (l : Line) (t : List Line) → DateStep q p l t
date_step q p l t = by_port ((l.port.0 == q.0) || is_shared l.did.deed) refl where
  by_test : (amount : ℤ) (stepped : Bool) (shown : ℤ) (s : Said) → l.port ≡ q → l.did.deed ≡ Acts (Correct amount stepped shown) →
      said (taken (view q t)) ≡ Some s →
      (b : Bool) → ((s.from.0 == p.0) && is_date_request s.message.kind) ≡ b →
      last_date p (view q (l ∷ t)) ≡ cond {A = Option Dating} b (Some (record { at = l.did.tick; number = s.message.number })) (last_date p (view q t)) →
      DateStep q p l t
  by_test amount stepped shown s port deed is false b e = inl e
  by_test amount stepped shown s port deed is true b e =
      let one = and_parts (s.from.0 == p.0) (is_date_request s.message.kind) b in
      let took = subst (λ z. Receives (view q t) z (Message s.message)) (same_peer s.from p one.0) (said_took (taken (view q t)) s is) in
      inr (inr (record {
        line = line_is l q port;
        by = record { amount = amount; stepped = stepped; shown = shown; deed = deed; message = s.message; took = took };
        kind = one.1;
        is = e;
      }))

  by_said : (amount : ℤ) (stepped : Bool) (shown : ℤ) → l.port ≡ q → l.did.deed ≡ Acts (Correct amount stepped shown) → (o : Option Said) →
      said (taken (view q t)) ≡ o →
      last_date p (view q (l ∷ t)) ≡ dating_of p l.did.tick o (last_date p (view q t)) → DateStep q p l t
  by_said amount stepped shown port deed None is e = inl e
  by_said amount stepped shown port deed (Some s) is e =
      by_test amount stepped shown s port deed is ((s.from.0 == p.0) && is_date_request s.message.kind) refl e

  by_deed_holds : (deed : Deed) → l.did.deed ≡ deed → ((l.port.0 == q.0) || is_shared deed) ≡ true →
      last_date p (view q (l ∷ t)) ≡ last_date_after p deed l.did.tick (taken (view q t)) (last_date p (view q t)) → DateStep q p l t
  by_deed_holds (Acts Boot) is b e = inr (inl (is, e))
  by_deed_holds (Acts (Correct amount stepped shown)) is b e =
      by_said amount stepped shown (port_same l.port q (or-false (l.port.0 == q.0) false b refl)) is (said (taken (view q t))) refl e
  by_deed_holds _ is b e = inl e

  by_port : (b : Bool) → ((l.port.0 == q.0) || is_shared l.did.deed) ≡ b → DateStep q p l t
  by_port true b = by_deed_holds l.did.deed refl b (rw b refl)
  by_port false b = inl (rw b refl)

-- the Correct by which the last date of p was set on port q
pub record DateAt (q : Port) (p : PeerId) (t : List Line) (d : Dating) : Type 0 where
  pub correct : Did
  pub rest : List Line
  pub place : Within (line_on q correct ∷ rest) t
  pub by : CorrectTook q p correct rest
  pub open by use *
  pub kind : is_date_request message.kind ≡ true
  pub number : message.number ≡ d.number
  pub at : correct.tick ≡ d.at

later : (q : Port) (p : PeerId) (l : Line) (t : List Line) (d : Dating) → DateAt q p t d → DateAt q p (l ∷ t) d
later q p l t d h = record { correct = h.correct; rest = h.rest; place = inr h.place; by = h.by; kind = h.kind; number = h.number; at = h.at }

set_here : (q : Port) (p : PeerId) (l : Line) (t : List Line) (d : Dating) → (s : DateSet q p l t) →
    record { at = l.did.tick; number = s.message.number } ≡ d → DateAt q p (l ∷ t) d
set_here q p l t d s e = record {
  correct = l.did;
  rest = t;
  place = inl (ap (λ k. k ∷ t) s.line);
  by = s.by;
  kind = s.kind;
  number = ap (λ (k : Dating). k.number) e;
  at = ap (λ (k : Dating). k.at) e;
}

pub date_at : (q : Port) (p : PeerId) (t : List Line) (d : Dating) → last_date p (view q t) ≡ Some d → DateAt q p t d
date_at q p [] d e = let bad : ⊥ = cc in absurd bad
date_at q p (l ∷ t) d e = elim (date_step q p l t) [
  | inl same ↦ later q p l t d (date_at q p t d (sym same ∙ e))
  | inr (inl boot) ↦ absurd (none d (sym boot.1 ∙ e))
  | inr (inr s) ↦ set_here q p l t d s (same_date (record { at = l.did.tick; number = s.message.number }) d (sym s.is ∙ e))
] where
  none : (d : Dating) → None ≡ Some d → ⊥
  none d e = cc

  same_date : (d e : Dating) → Some d ≡ Some e → d ≡ e
  same_date d e h = cc

-- where it was set: at the Correct c of port q or after it
pub record DateLate (q : Port) (p : PeerId) (c : Did) (crest t : List Line) : Type 0 where
  pub last : Dating
  pub is : last_date p (view q t) ≡ Some last
  pub found : DateAt q p t last
  pub open found use *
  pub after : Within (line_on q c ∷ crest) (line_on q correct ∷ rest)

pub date_late : (setting : Setting) (q : Port) (p : PeerId) (c : Did) (crest t : List Line) (m : MessageValue) (amount : ℤ) (stepped : Bool) (shown : ℤ) →
    OwnFits setting t → c.deed ≡ Acts (Correct amount stepped shown) → Receives (view q crest) p (Message m) → is_date_request m.kind ≡ true →
    Within (line_on q c ∷ crest) t → lives (dids (line_on q c ∷ crest)) ≡ lives (dids t) → DateLate q p c crest t
unfolding later set_here
date_late setting q p c crest t m amount stepped shown f deed took kind w v =
    lasting setting (DateLate q p c crest) (line_on q c ∷ crest) t f w v here (λ l t o i k by h. more l t i k h)
  where
    here : DateLate q p c crest (line_on q c ∷ crest)
    here =
        let e : (p.0 == p.0) ≡ true = eq-eqb p.0 p.0 refl in
        let by : CorrectTook q p c crest = record { amount = amount; stepped = stepped; shown = shown; deed = deed; message = m; took = took } in
        record {
          last = record { at = c.tick; number = m.number };
          is = rw (sees_own q (is_shared c.deed)) (rw deed (rw took (rw (e, kind) refl)));
          found = record { correct = c; rest = crest; place = inl refl; by = by; kind = kind; number = refl; at = refl };
          after = inl refl;
        }

    more : (l : Line) (t : List Line) → Within (line_on q c ∷ crest) t → lives_after l.did.deed (lives (dids t)) ≡ lives (dids t) → DateLate q p c crest t →
        DateLate q p c crest (l ∷ t)
    more l t i k h = elim (date_step q p l t) [
      | inl same ↦ record { last = h.last; is = same ∙ h.is; found = later q p l t h.last h.found; after = h.after }
      | inr (inl boot) ↦ absurd (let less = subst (λ d. lives_after d (lives (dids t)) ≡ lives (dids t)) boot.0 k in omega arith)
      | inr (inr s) ↦ record { last = record { at = l.did.tick; number = s.message.number }; is = s.is; found = set_here q p l t _ s refl; after = inr i }
    ]

asked_deed : (deed : Deed) (begins : Bool) (was : Option ℕ) (x y n : ℕ) → lives_after deed n ≡ n → x ≤ y → NotBefore was x →
    NotBefore (last_asked_after deed begins y was) x
asked_deed (Acts Boot) begins was x y n v by h = absurd (omega arith)
asked_deed (Acts (Post to (Message m))) begins was x y n v by h = later_if (is_set_date_request m.kind && begins) was x y by h
asked_deed _ begins was x y n v by h = h

-- the last time that the port began to pass a date on isn't before one
pub asked_late : (setting : Setting) (q : Port) (p : PeerId) (m : MessageValue) (x : Line) (rest t : List Line) → OwnFits setting t → x.did.deed ≡
    Acts (Post (Peer p) (Message m)) → is_set_date_request m.kind ≡ true → acting (view q rest) ≡ true → Sees q x →
    Within (x ∷ rest) t → lives (dids (x ∷ rest)) ≡ lives (dids t) → NotBefore (last_asked (view q t)) x.did.tick
asked_late setting q p m x rest t f deed kind acts sees w v = lasting_seen setting q (λ s. NotBefore (last_asked s) x.did.tick) x rest t f sees w v
    (record { at = x.did.tick; is = rw deed (rw (kind, acts) refl); by = omega arith })
    (λ d s n k by h. asked_deed d.deed (acting s) (last_asked s) x.did.tick d.tick n k by h) (λ d s h. h)
