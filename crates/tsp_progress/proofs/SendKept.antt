-- A send stays open until it ends, and isn't given up before it is old.
use Rattle.std.proofs.Common.{sym, ap, subst, arith, inl, inr, true≢false, ◌∙◌, ◌≡◌, ◌≢◌, ◌<◌, ◌⊎◌, ℕ, ◌+◌, ◌*◌, ◌==◌, ◌&&◌, if◌then◌else◌, Bool, true}
use Rattle.std.proofs.Common.{false, List, [], ◌∷◌, Option, Some, None, length, eq-eqb, refl}
use Rattle.tsp_rules.specs.Values.{Boot, Post, Become, Acked, Gave, Message, PeerId, Peer, RETRY, TRIES}
use Rattle.tsp_base.specs.Words.{Acts, Deed, Did, Elsewhere, Here, MessageValue, Seen, Sending, Within, acting, is_numbered, open_send, open_to}
use Rattle.tsp_base.specs.Words.{open_to_after, plain, posts_of, role, role_after, sending_at, tick_of}
use Rattle.tsp_base.proofs.PlaceLemmas.{Within_comparable, Within_length, Within_through}
use Rattle.tsp_rules.proofs.GuardFacts.{same_peer}
use Rattle.tsp_promises.proofs.shared.ElectionFacts.{open_at}
use Rattle.tsp_progress.specs.AckedInTime.{EndedBefore, NeverGivenUp, ends_otherwise}
use Rattle.tsp_progress.specs.GivenUp.{GaveFits, IsOld, Owes}
use Rattle.tsp_progress.proofs.StandsProof.{Rising}

-- a send to p begins with this deed, after this past
module _ (p : PeerId) (m : MessageValue) (start : Did) (was : List Seen) (posts : start.deed ≡ Acts (Post (Peer p) (Message m)))
    (kind : is_numbered m.kind ≡ true) (begins : acting was ≡ true) where
  abbrev pub First : List Seen
  First = Here start ∷ was

  pub opens : open_to p First ≡ First
  opens = let own : (p.0 == p.0) ≡ true = eq-eqb p.0 p.0 refl in rw (posts, own, kind, begins) refl

  -- it is open, and the role is the same
  pub record Still (seen : List Seen) : Type 0 where
    pub open_is : open_to p seen ≡ First
    pub role_is : role seen ≡ role was

  pub sending : (seen : List Seen) → open_to p seen ≡ First → open_send p seen ≡
      Some (record { began = start.tick; posts = posts_of p seen; message = m })
  sending seen e = ap (λ s. sending_at s (posts_of p seen)) e ∙ rw posts refl

  abbrev began : Option Sending → ℕ
  began None = 0
  began (Some s) = s.began

  module _ (d : Did) (before : List Seen) (soon : d.tick < start.tick + TRIES * RETRY) (still : Still before) where
    abbrev After : Deed → Type 0
    After deed = (ends_otherwise p deed (acting before) ≡ true) ⊎ ((open_to_after p deed (acting before) (Here d ∷ before) (open_to p before) ≡ First)
        × (role_after deed (role before) ≡ role was))

    stays : (open_to p before ≡ First) × (role before ≡ role was)
    stays = (still.open_is, still.role_is)

    by-flag : (b : Bool) (other : List Seen) → (b ≡ true) ⊎ (((if b then other else open_to p before) ≡ First) × (role before ≡ role was))
    by-flag true other = inl refl
    by-flag false other = inr stays

    too_young : (q : PeerId) → (q.0 == p.0) ≡ true → IsOld q d before → {A : Type 0} → A
    too_young q same old =
        let is : open_send p before ≡ Some old.sending = subst (λ k. open_send k before ≡ Some old.sending) (same_peer q p same) old.open_is in
        let began_is : start.tick ≡ old.sending.began = ap began (sym (sending before still.open_is) ∙ is) in
        let age = old.old in
        let bad : ⊥ = omega (arith, began_is, age, soon) in
        absurd bad

    gives : (q : PeerId) → IsOld q d before → (b : Bool) → (q.0 == p.0) ≡ b → ((if b then [] else open_to p before) ≡ First) × (role before ≡ role was)
    gives q old true e = too_young q e old
    gives q old false e = stays

    by_deed_holds : (deed : Deed) → GaveFits deed d before → After deed
    by_deed_holds (Acts Boot) f = inl refl
    by_deed_holds (Acts (Become r)) f = inl refl
    by_deed_holds (Acts (Post (Peer q) (Message n))) f = by-flag ((q.0 == p.0) && (is_numbered n.kind && acting before)) (Here d ∷ before)
    by_deed_holds (Acts (Acked q)) f = by-flag (q.0 == p.0) []
    by_deed_holds (Acts (Gave q)) f = inr (gives q f (q.0 == p.0) refl)
    by_deed_holds _ f = inr stays

  later : (s : Seen) (before : List Seen) → EndedBefore p First before → EndedBefore p First (s ∷ before)
  later s before e = record { end = e.end; before = e.before; place = inr e.place; open_is = e.open_is; is = e.is }

  -- in a past that goes on from there, it ended, or is still open
  pub kept : (seen : List Seen) → Within First seen → Owes GaveFits seen → Rising seen → tick_of (plain seen) < start.tick + TRIES * RETRY →
      EndedBefore p First seen ⊎ Still seen
  kept [] w f up soon = let bad : ⊥ = cc in absurd bad
  kept (s ∷ before) (inl e) f up soon = inr (subst (λ k. Still k) e (record { open_is = opens; role_is = rw posts refl }))
  kept (Elsewhere d ∷ before) (inr w) f up soon = elim (kept before w f up.1 (let le = up.0 in omega (arith, le, soon))) [
    | inl e ↦ inl (later (Elsewhere d) before e)
    | inr k ↦ inr (record { open_is = k.open_is; role_is = k.role_is })
  ]
  kept (Here d ∷ before) (inr w) f up soon = elim (kept before w f.1 up.1 (let le = up.0 in omega (arith, le, soon))) [
    | inl e ↦ inl (later (Here d) before e)
    | inr k ↦ elim (by_deed_holds d before soon k d.deed f.0) [
      | inl is ↦ inl (record { end = d; before = before; place = inl refl; open_is = k.open_is; is = is })
      | inr h ↦ inr (record { open_is = h.0; role_is = h.1 })
    ]
  ]

  -- what is open stands in the past, and was open before
  open_place : (seen : List Seen) → open_to p seen ≡ First → Within First seen
  open_place seen e = (open_at p seen start was e).place

  not_first : (d : Did) (before : List Seen) → Within First before → Here d ∷ before ≢ First
  not_first d before w e =
      let few = Within_length First before w in
      let same = ap length e in
      omega (arith, few, same)

  empty : {A : Type 0} → [] ≡ First → A
  empty e = let bad : ⊥ = cc in absurd bad

  -- what ends it leaves another send, or none
  end_flag : (b : Bool) (d : Did) (before : List Seen) → Within First before → (if b then Here d ∷ before else open_to p before) ≡ First → b ≡ false
  end_flag true d before w e = absurd (not_first d before w e)
  end_flag false d before w e = refl

  none_flag : (b : Bool) (before : List Seen) → (if b then [] else open_to p before) ≡ First → b ≡ false
  none_flag true before e = empty e
  none_flag false before e = refl

  ended : (d : Did) (before : List Seen) → open_to p before ≡ First → ends_otherwise p d.deed (acting before) ≡ true → open_to p (Here d ∷ before) ≢ First
  ended d before open_is = by_deed d.deed where
    by_deed : (deed : Deed) → ends_otherwise p deed (acting before) ≡ true → open_to_after p deed (acting before) (Here d ∷ before) (open_to p before) ≢ First
    by_deed (Acts Boot) e k = empty k
    by_deed (Acts (Become r)) e k = empty k
    by_deed (Acts (Post (Peer q) (Message n))) e k =
        true≢false (sym e ∙ end_flag ((q.0 == p.0) && (is_numbered n.kind && acting before)) d before (open_place before open_is) k)
    by_deed (Acts (Acked q)) e k = true≢false (sym e ∙ none_flag (q.0 == p.0) before k)
    by_deed _ e k = true≢false (sym e)

  -- so it was open at each place between
  open_back : (s t : List Seen) → Within s t → Within First s → open_to p t ≡ First → open_to p s ≡ First
  open_back s [] w f e = empty e
  open_back s (k ∷ t) (inl same) f e = subst (λ u. open_to p u ≡ First) (sym same) e
  open_back s (Elsewhere d ∷ t) (inr w) f e = open_back s t w f e
  open_back s (Here d ∷ t) (inr w) f e = open_back s t w f (by_deed d.deed e) where
    long : Within First t
    long = Within_through First s t f w

    flag : (b : Bool) → (if b then Here d ∷ t else open_to p t) ≡ First → open_to p t ≡ First
    flag true k = absurd (not_first d t long k)
    flag false k = k

    none : (b : Bool) → (if b then [] else open_to p t) ≡ First → open_to p t ≡ First
    none true k = empty k
    none false k = k

    by_deed : (deed : Deed) → open_to_after p deed (acting t) (Here d ∷ t) (open_to p t) ≡ First → open_to p t ≡ First
    by_deed (Acts Boot) k = empty k
    by_deed (Acts (Become r)) k = empty k
    by_deed (Acts (Post (Peer q) (Message n))) k = flag ((q.0 == p.0) && (is_numbered n.kind && acting t)) k
    by_deed (Acts (Acked q)) k = none (q.0 == p.0) k
    by_deed (Acts (Gave q)) k = none (q.0 == p.0) k
    by_deed _ k = k

  -- after a Gave of it none is open
  given_up : (d : Did) (before : List Seen) → d.deed ≡ Acts (Gave p) → open_to p (Here d ∷ before) ≢ First
  given_up d before is e = empty (let own : (p.0 == p.0) ≡ true = eq-eqb p.0 p.0 refl in let none : open_to p (Here d ∷ before) ≡ [] = rw (is, own) refl in
      sym none ∙ e)

  -- what ended otherwise is never given up
  pub never : (seen : List Seen) → EndedBefore p First seen → NeverGivenUp p First seen
  never seen c gave before place is open_is = elim (Within_comparable (Here c.end ∷ c.before) (Here gave ∷ before) seen c.place place) [
    | inl (inl e) ↦ same e
    | inl (inr w) ↦ ended c.end c.before c.open_is c.is
        (open_back (Here c.end ∷ c.before) before w (inr (open_place c.before c.open_is)) open_is)
    | inr (inl e) ↦ same (sym e)
    | inr (inr w) ↦ given_up gave before is (open_back (Here gave ∷ before) c.before w (inr (open_place before open_is)) c.open_is)
  ] where
    same : Here c.end ∷ c.before ≡ Here gave ∷ before → ⊥
    same e =
        let end : c.end ≡ gave = cc in
        let flag : ends_otherwise p (Acts (Gave p)) (acting c.before) ≡ true =
        subst (λ k. ends_otherwise p k (acting c.before) ≡ true) (ap (λ (k : Did). k.deed) end ∙ is) c.is in
        true≢false (sym flag)
