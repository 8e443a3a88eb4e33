-- What of a QUIT that is open.
use Rattle.std.proofs.Common.{sym, ap, subst, arith, inl, inr, true≢false, ◌∙◌, ◌≡◌, ◌≤◌, ◌⊎◌, ℕ, ◌+◌, ◌==◌, ◌&&◌}
use Rattle.std.proofs.Common.{Bool, true, false, if◌then◌else◌, List, [], ◌∷◌, Option, None, Some, refl}
use Rattle.std.proofs.lemmas.Bool.{and_parts}
use Rattle.tsp_rules.specs.Values.{Acked, Arm, Become, Boot, Gave, Late, Post, Ring, Elect, Message, Kind, QuitKind, PeerId, Peer, Role}
use Rattle.tsp_rules.specs.Values.{ELECT_MIN}
use Rattle.tsp_rules.specs.{Guards.delay, SendRows.is_kind_quit, SendRows.is_quit}
use Rattle.tsp_rules.proofs.GuardFacts.{same_peer}
use Rattle.tsp_base.specs.Words.{Acts, Deed, Did, Elsewhere, Here, MessageValue, Seen, Within, acting, armed, armed_after, is_numbered, open_send}
use Rattle.tsp_base.specs.Words.{open_to, open_to_after, plain, posts_of, sending_at, tick_of, word}
use Rattle.tsp_progress.specs.AlarmsFit.{AlarmFits, AlarmsFit, Manner}
use Rattle.tsp_progress.proofs.{StandsProof.Rising}

-- an open send began with a post to the peer
pub record OpenFirst (p : PeerId) (s : Seen) : Type 0 where
  pub first : Did
  pub is : s ≡ Here first
  pub message : MessageValue
  pub deed : first.deed ≡ Acts (Post (Peer p) (Message message))

module _ (p : PeerId) where
  nil_cons : {A : Type 0} (s : Seen) (o : List Seen) → [] ≡ s ∷ o → A
  nil_cons s o e = let bad : ⊥ = cc in absurd bad

  none_flag : {A : Type 0} (b : Bool) (was : List Seen) (s : Seen) (o : List Seen) → (was ≡ s ∷ o → A) → (if b then [] else was) ≡ s ∷ o → A
  none_flag true was s o k e = nil_cons s o e
  none_flag false was s o k e = k e

  pub open_first : (seen : List Seen) (s : Seen) (o : List Seen) → open_to p seen ≡ s ∷ o → OpenFirst p s
  open_first [] s o e = nil_cons s o e
  open_first (Elsewhere d ∷ before) s o e = open_first before s o e
  open_first (Here d ∷ before) s o e = by_deed d.deed refl e (λ k. open_first before s o k) where
    post-flag : (q : PeerId) (n : MessageValue) → d.deed ≡ Acts (Post (Peer q) (Message n)) → (rest b : Bool) → ((q.0 == p.0) && rest) ≡ b →
        (if b then Here d ∷ before else open_to p before) ≡ s ∷ o → (open_to p before ≡ s ∷ o → OpenFirst p s) → OpenFirst p s
    post-flag q n is rest true flag k more = record {
      first = d;
      is = (let head : Here d ≡ s = cc in sym head);
      message = n;
      deed = is ∙ ap (λ r. Acts (Post (Peer r) (Message n))) (same_peer q p (and_parts (q.0 == p.0) rest flag).0);
    }
    post-flag q n is rest false flag k more = more k

    by_deed : (deed : Deed) → d.deed ≡ deed → open_to_after p deed (acting before) (Here d ∷ before) (open_to p before) ≡ s ∷ o →
        (open_to p before ≡ s ∷ o → OpenFirst p s) → OpenFirst p s
    by_deed (Acts Boot) is k more = nil_cons s o k
    by_deed (Acts (Become r)) is k more = nil_cons s o k
    by_deed (Acts (Post (Peer q) (Message n))) is k more =
        post-flag q n is (is_numbered n.kind && acting before) ((q.0 == p.0) && (is_numbered n.kind && acting before)) refl k more
    by_deed (Acts (Acked q)) is k more = none_flag (q.0 == p.0) (open_to p before) s o more k
    by_deed (Acts (Gave q)) is k more = none_flag (q.0 == p.0) (open_to p before) s o more k
    by_deed _ is k more = more k

  -- it began after each change of the role
  pub open_since : (seen : List Seen) (f : Did) (o : List Seen) → open_to p seen ≡ Here f ∷ o → (c : Did) (v : List Seen) (r : Role) → c.deed ≡
      Acts (Become r) → Within (Here c ∷ v) seen → Within (Here c ∷ v) o
  open_since [] f o e c v r is w = nil_cons (Here f) o e
  open_since (s ∷ before) f o e c v r is (inl same) =
      let none : open_to p (Here c ∷ v) ≡ [] = rw is refl in
      nil_cons (Here f) o (sym none ∙ (ap (open_to p) same ∙ e))
  open_since (Elsewhere d ∷ before) f o e c v r is (inr w) = open_since before f o e c v r is w
  open_since (Here d ∷ before) f o e c v r is (inr w) = by_deed d.deed e (λ k. open_since before f o k c v r is w) where
    post-flag : (b : Bool) → (if b then Here d ∷ before else open_to p before) ≡ Here f ∷ o → (open_to p before ≡ Here f ∷ o → Within (Here c ∷ v) o) →
        Within (Here c ∷ v) o
    post-flag true k more = let rest : before ≡ o = cc in subst (λ t. Within (Here c ∷ v) t) rest w
    post-flag false k more = more k

    by_deed : (deed : Deed) → open_to_after p deed (acting before) (Here d ∷ before) (open_to p before) ≡ Here f ∷ o →
        (open_to p before ≡ Here f ∷ o → Within (Here c ∷ v) o) → Within (Here c ∷ v) o
    by_deed (Acts Boot) k more = nil_cons (Here f) o k
    by_deed (Acts (Become r)) k more = nil_cons (Here f) o k
    by_deed (Acts (Post (Peer q) (Message n))) k more = post-flag ((q.0 == p.0) && (is_numbered n.kind && acting before)) k more
    by_deed (Acts (Acked q)) k more = none_flag (q.0 == p.0) (open_to p before) (Here f) o more k
    by_deed (Acts (Gave q)) k more = none_flag (q.0 == p.0) (open_to p before) (Here f) o more k
    by_deed _ k more = more k

  -- an open QUIT
  pub record QuitOpen (seen : List Seen) : Type 0 where
    pub first : Did
    pub older : List Seen
    pub open_is : open_to p seen ≡ Here first ∷ older
    pub message : MessageValue
    pub deed : first.deed ≡ Acts (Post (Peer p) (Message message))
    pub kind : message.kind ≡ QuitKind

  quit_kind : (k : Kind) → is_kind_quit k ≡ true → k ≡ QuitKind
  quit_kind QuitKind e = refl
  quit_kind _ e = absurd (true≢false (sym e))

  pub quit_open : (seen : List Seen) → is_quit (open_send p seen) ≡ true → QuitOpen seen
  quit_open seen e = by_open (open_to p seen) refl where
    by_open : (o : List Seen) → open_to p seen ≡ o → QuitOpen seen
    by_open [] is =
        let none : is_quit (open_send p seen) ≡ false = ap (λ o. is_quit (sending_at o (posts_of p seen))) is in
        absurd (true≢false (sym e ∙ none))
    by_open (s ∷ older) is =
        let f = open_first seen s older is in
        let is_first : open_to p seen ≡ Here f.first ∷ older = is ∙ ap (λ k. k ∷ older) f.is in
        let deed = f.deed in
        let kind : is_quit (open_send p seen) ≡ is_kind_quit f.message.kind = ap (λ o. is_quit (sending_at o (posts_of p seen))) is_first ∙ rw deed refl in
        record {
          first = f.first;
          older = older;
          open_is = is_first;
          message = f.message;
          deed = f.deed;
          kind = quit_kind f.message.kind (sym kind ∙ e);
        }

-- what Elect is armed for
some_value : {a b : ℕ} → Some a ≡ Some b → a ≡ b
some_value e = cc

none-some : {A : Type 0} (at : ℕ) → ◌≡◌ {A = Option ℕ} None (Some at) → A
none-some at e = let bad : ⊥ = cc in absurd bad

-- ticks don't go back
tick_back : (v seen : List Seen) → Within v seen → Rising seen → tick_of (plain v) ≤ tick_of (plain seen)
tick_back v [] w up = subst (λ u. tick_of (plain u) ≤ 0) (sym w) (omega arith)
tick_back v (s ∷ rest) (inl e) up = subst (λ u. tick_of (plain u) ≤ tick_of (plain (s ∷ rest))) (sym e) (omega arith)
tick_back v (s ∷ rest) (inr w) up = let low = tick_back v rest w up.1 in let le = up.0 in omega (arith, low, le)

delay_long : (w : ℕ) → ELECT_MIN ≤ delay w
delay_long w = omega arith

-- Elect was armed for this tick before some place, or at least ELECT_MIN ticks before it
pub armed_before : (m : Manner) (v seen : List Seen) → Within v seen → AlarmsFit m seen → Rising seen → (at : ℕ) → (armed seen).elect ≡ Some at →
    ((armed v).elect ≡ Some at) ⊎ (tick_of (plain v) + ELECT_MIN ≤ at)
armed_before m v [] w fits up at e = inl (subst (λ u. (armed u).elect ≡ Some at) (sym w) e)
armed_before m v (s ∷ before) (inl same) fits up at e = inl (subst (λ u. (armed u).elect ≡ Some at) (sym same) e)
armed_before m v (Elsewhere d ∷ before) (inr w) fits up at e = armed_before m v before w fits.1 up.1 at e
armed_before m v (Here d ∷ before) (inr w) fits up at e =
    by_deed d.deed fits.0 e (λ k. armed_before m v before w fits.1.1 up.1 at k) where
      by_deed : (deed : Deed) → AlarmFits deed d before → (armed_after deed (armed before)).elect ≡ Some at → ((armed before).elect ≡ Some at →
          ((armed v).elect ≡ Some at) ⊎ (tick_of (plain v) + ELECT_MIN ≤ at)) → ((armed v).elect ≡ Some at) ⊎ (tick_of (plain v) + ELECT_MIN ≤ at)
      by_deed (Acts Boot) fit k more = none-some at k
      by_deed (Acts (Become r)) fit k more = none-some at k
      by_deed (Acts (Arm Elect to)) fit k more =
          let same = some_value k in
          let le = up.0 in
          let past = tick_back v before w up.1 in
          let long = delay_long (word (plain before)) in
          inr (omega (arith, fit, same, le, past, long))
      by_deed (Acts (Ring Elect)) fit k more = none-some at k
      by_deed (Acts (Late Elect)) fit k more = none-some at k
      by_deed _ fit k more = more k
