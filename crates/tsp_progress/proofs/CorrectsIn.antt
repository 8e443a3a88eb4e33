-- A close corrects each measured peer that has a sample, if the last correction to it is old.
use Rattle.std.proofs.Common.{sym, ap, subst, true≢false, ◌∙◌, ◌≡◌, ◌⊎◌, inl, inr, ◌||◌, ◌&&◌, ℕ, ◌==◌, ◌-ℤ◌, ℤ, Bool, true, false, List, [], ◌∷◌, ◌++◌, map}
use Rattle.std.proofs.Common.{if◌then◌else◌, Option, None, Some, refl}
use Rattle.tsp_rules.specs.Values.{Act, AdjTime, Boot, Message, Peer, PeerId, Post, SetTime, REUSE}
use Rattle.tsp_rules.specs.Guards.{is_in_range, target_at}
use Rattle.tsp_rules.specs.RoundRows.{is_near, standing}
use Rattle.tsp_rules.specs.SendRows.{may_correct, may_set}
use Rattle.tsp_rules.proofs.GuardFacts.{same_peer}
use Rattle.tsp_base.specs.Words.{Acts, Did, Elsewhere, Estimate, Here, Past, Seen, Within, estimate, grown, is_among, is_correction, is_past, last_post}
use Rattle.tsp_base.specs.Words.{Deed, MessageValue, timed}
use Rattle.tsp_base.specs.SendFacts.{last_post_after}
use Rattle.tsp_progress.specs.Corrects.{adjtime_to, corrected_by, corrected_each, settime_to}

-- p may be corrected, and the clock can be told
pub record Free (p : PeerId) (x : ℕ) (past : Past) : Type 0 where
  pub rests : is_past (last_post p past.seen) REUSE x ≡ true
  pub range : is_in_range x past ≡ true

-- a correction of another peer keeps that
kept : (p q : PeerId) (mean : ℤ) (best : Option Estimate) (x : ℕ) (past : Past) → (q.0 == p.0) ≡ false → Free p x past →
    Free p x (grown x past (corrected_by mean q best x past))
kept p q mean None x past e f = record { rests = f.rests; range = f.range }
kept p q mean (Some b) x past e f = by_near (is_near b.diff) where
  by_may : (c : Bool) (a : List Act) → Free p x (grown x past a) → Free p x (grown x past (if c then a else []))
  by_may true a k = k
  by_may false a k = f

  by_near : (c : Bool) → Free p x (grown x past (if c
      then (if may_correct q b.ticket x past then adjtime_to q b.ticket (mean -ℤ b.diff) past ∷ [] else [])
      else (if may_set q b.ticket x past then settime_to q b.ticket x past ∷ [] else [])))
  by_near true = by_may (may_correct q b.ticket x past) (adjtime_to q b.ticket (mean -ℤ b.diff) past ∷ []) (record { rests = rw e f.rests; range = f.range })
  by_near false = by_may (may_set q b.ticket x past) (settime_to q b.ticket x past ∷ []) (record { rests = rw e f.rests; range = f.range })

-- p gets a correction among these acts: an ADJTIME by the mean, or a SETTIME
pub record CorrectedIn (p : PeerId) (b : Estimate) (mean : ℤ) (name : List ℕ) (acts : List Act) : Type 0 where
  pub message : MessageValue
  pub front : List Act
  pub back : List Act
  pub is : acts ≡ front ++ Post (Peer p) (Message message) ∷ back
  pub kind : (message ≡ timed AdjTime b.ticket (mean -ℤ b.diff) name) ⊎ (message.kind ≡ SetTime)

first_of : (p : PeerId) (b : Estimate) (mean : ℤ) (x : ℕ) (past : Past) (more : List Act) → Free p x past →
    CorrectedIn p b mean past.name (corrected_by mean p (Some b) x past ++ more)
first_of p b mean x past more f = by_near (is_near b.diff) where
  may : may_correct p b.ticket x past ≡ true
  may = rw f.rests refl

  may-set : may_set p b.ticket x past ≡ true
  may-set = let r = f.range in rw (may, r) refl

  by_may : (c : Bool) (m : MessageValue) → c ≡ true → (m ≡ timed AdjTime b.ticket (mean -ℤ b.diff) past.name) ⊎ (m.kind ≡ SetTime) →
      CorrectedIn p b mean past.name ((if c then Post (Peer p) (Message m) ∷ [] else []) ++ more)
  by_may true m e k = record { message = m; front = []; back = more; is = refl; kind = k }
  by_may false m e k = absurd (true≢false (sym e))

  by_near : (c : Bool) → CorrectedIn p b mean past.name ((if c
      then (if may_correct p b.ticket x past then adjtime_to p b.ticket (mean -ℤ b.diff) past ∷ [] else [])
      else (if may_set p b.ticket x past then settime_to p b.ticket x past ∷ [] else [])) ++ more)
  by_near true = by_may (may_correct p b.ticket x past) (timed AdjTime b.ticket (mean -ℤ b.diff) past.name) may (inl refl)
  by_near false = by_may (may_set p b.ticket x past) (timed SetTime b.ticket (target_at x past) past.name) may-set (inr refl)

append_assoc : (xs ys zs : List Act) → (xs ++ ys) ++ zs ≡ xs ++ (ys ++ zs)
append_assoc [] ys zs = refl
append_assoc (x ∷ xs) ys zs = ap (λ rest. x ∷ rest) (append_assoc xs ys zs)

pub corrected_in : (p : PeerId) (b : Estimate) (mean : ℤ) (seen : List Seen) (ps : List PeerId) (x : ℕ) (past : Past) → is_among p ps ≡ true →
    estimate p seen ≡ Some b → Free p x past → CorrectedIn p b mean past.name (corrected_each mean (map (standing seen) ps) x past)
corrected_in p b mean seen [] x past member is f = absurd (true≢false (sym member))
corrected_in p b mean seen (q ∷ rest) x past member is f = by_case (q.0 == p.0) refl member (λ m g.
    corrected_in p b mean seen rest x (grown x past (corrected_by mean q (estimate q seen) x past)) m is g) where
      by_case : (c : Bool) → (q.0 == p.0) ≡ c → (c || is_among p rest) ≡ true →
          (is_among p rest ≡ true → Free p x (grown x past (corrected_by mean q (estimate q seen) x past)) →
          CorrectedIn p b mean past.name (corrected_each mean (map (standing seen) rest) x (grown x past (corrected_by mean q (estimate q seen) x past)))) →
          CorrectedIn p b mean past.name (corrected_each mean (map (standing seen) (q ∷ rest)) x past)
      by_case true e m later =
          let same : q ≡ p = same_peer q p e in
          let best : estimate q seen ≡ Some b = ap (λ z. estimate z seen) same ∙ is in
          let acts : corrected_by mean q (estimate q seen) x past ≡ corrected_by mean p (Some b) x past =
          ap (λ z. corrected_by mean z (estimate q seen) x past) same ∙ ap (λ o. corrected_by mean p o x past) best in
          subst (λ z. CorrectedIn p b mean past.name (z ++ corrected_each mean (map (standing seen) rest) x (grown x past z))) (sym acts)
          (first_of p b mean x past (corrected_each mean (map (standing seen) rest) x (grown x past (corrected_by mean p (Some b) x past))) f)
      by_case false e m later =
          let here = corrected_by mean q (estimate q seen) x past in
          let k = later m (kept p q mean (estimate q seen) x past e f) in
          record {
            message = k.message;
            front = here ++ k.front;
            back = k.back;
            is = ap (λ acts. here ++ acts) k.is ∙ sym (append_assoc here k.front (Post (Peer p) (Message k.message) ∷ k.back));
            kind = k.kind;
          }

-- where a correction was last posted to p
pub record LastPost (p : PeerId) (y : ℕ) (seen : List Seen) : Type 0 where
  pub post : Did
  pub before : List Seen
  pub place : Within (Here post ∷ before) seen
  pub message : MessageValue
  pub deed : post.deed ≡ Acts (Post (Peer p) (Message message))
  pub kind : is_correction message.kind ≡ true
  pub tick : post.tick ≡ y

pub last_post_at : (p : PeerId) (seen : List Seen) (y : ℕ) → last_post p seen ≡ Some y → LastPost p y seen
last_post_at p [] y e = let bad : ⊥ = cc in absurd bad
last_post_at p (Elsewhere d ∷ before) y e =
    let o = last_post_at p before y e in
    record { post = o.post; before = o.before; place = inr o.place; message = o.message; deed = o.deed; kind = o.kind; tick = o.tick }
last_post_at p (Here d ∷ before) y e = by_deed d.deed refl e (λ k.
    let o = last_post_at p before y k in
    record { post = o.post; before = o.before; place = inr o.place; message = o.message; deed = o.deed; kind = o.kind; tick = o.tick }) where
      posted : (q : PeerId) (m : MessageValue) → d.deed ≡ Acts (Post (Peer q) (Message m)) → (b c : Bool) → (q.0 == p.0) ≡ b → is_correction m.kind ≡ c →
          (if b && c then Some d.tick else last_post p before) ≡ Some y →
          (last_post p before ≡ Some y → LastPost p y (Here d ∷ before)) → LastPost p y (Here d ∷ before)
      posted q m is true true f k g older = record {
        post = d;
        before = before;
        place = inl refl;
        message = m;
        deed = is ∙ ap (λ z. Acts (Post (Peer z) (Message m))) (same_peer q p f);
        kind = k;
        tick = cc;
      }
      posted q m is true false f k g older = older g
      posted q m is false c f k g older = older g

      by_deed : (deed : Deed) → d.deed ≡ deed → last_post_after p deed d.tick (last_post p before) ≡ Some y →
          (last_post p before ≡ Some y → LastPost p y (Here d ∷ before)) → LastPost p y (Here d ∷ before)
      by_deed (Acts Boot) is k older = let bad : ⊥ = cc in absurd bad
      by_deed (Acts (Post (Peer q) (Message m))) is k older = posted q m is (q.0 == p.0) (is_correction m.kind) refl refl k older
      by_deed _ is k older = older k
