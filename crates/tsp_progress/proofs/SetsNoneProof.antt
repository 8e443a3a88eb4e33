-- In a calm network that has settled its master posts no SETTIME.
use Rattle.std.proofs.Common.{sym, ap, subst, arith, true≢false, inl, inr, ◌∙◌, ◌≡◌, ◌≢◌, ◌≤◌, ◌<◌, ◌⊎◌, ℕ, ◌+◌, ◌==◌, Bool, true, false, List}
use Rattle.std.proofs.Common.{◌∷◌, eqb-true, refl}
use Rattle.tsp_rules.specs.Values.{Good, Join, Message, Peer, PeerId, Port, Post, SetTime}
use Rattle.tsp_base.specs.Words.{Acts, Here, Line, MessageValue, Step, Within, acting, dids, first_port, in_table, is_shared, of, peer_of}
use Rattle.tsp_base.specs.Words.{estimate, taken, time_of, view}
use Rattle.tsp_base.proofs.PlaceLemmas.{Within_all, Within_tail, Within_through}
use Rattle.tsp_promises.specs.{Fits.Fits, Fits.node_of, Setting.Setting}
use Rattle.tsp_promises.proofs.{shared.HistoryPlaces.line_on, shared.RoundPlaces.closed_at}
use Rattle.tsp_promises.proofs.promised.OwnFitsProof.{fits_at, locate, place_time, seen_in}
use Rattle.tsp_progress.specs.{FollowOn.Calm, GivenUp.Owes, AgreesFrom.NoneFar, TableKept.JoinsFor, TableKept.TableFits, TableKept.TablesLast}
use Rattle.tsp_promises.proofs.promised.KnownProof.{line_is}
use Rattle.tsp_progress.proofs.ApartBegins.{again-no as apart-again}
use Rattle.tsp_progress.proofs.{FollowProof.owes_at, NoDateProof.older_of, NoDateProof.sent, PassedRows.PassFits}
use Rattle.tsp_progress.proofs.{SentRows.Again, SentRows.AtRound, SentRows.JoinedNow, SentRows.SentFits, SentRows.SentFor, TookPlaces.after_place}
use Rattle.tsp_progress.proofs.TookPlaces.{took_line}

module _ (setting : Setting) (world : List Line) (fits : Fits setting world) (passed : (n : ℕ) (q : Port) → Owes PassFits (view q (of n world)))
    (sents : (n : ℕ) (q : Port) → Owes SentFits (view q (of n world))) (tables : TablesLast world) (long t c : ℕ) (stays : ℕ → Bool) (s : List Line)
    (s-in : Within s world) (calm : Calm long stays s world) (low : ℕ) (low-late : time_of (dids s) + long ≤ low)
    (member : (l : Line) (older : List Line) → Within (l ∷ older) world → low < l.did.step.at → l.did.step.at < t → (n : ℕ) → stays n ≡ true →
    (n == c) ≡ false → in_table (peer_of n) (view first_port (of c older)) ≡ true)
    (on-first : (l : Line) (older : List Line) → Within (l ∷ older) world → node_of l ≡ c → is_shared l.did.deed ≡ false → l.port ≡ first_port)
    (near : NoneFar c s world) where
  -- one that isn't of an open send
  begins-no : (l : Line) (older : List Line) → Within (l ∷ older) world → low < l.did.step.at → l.did.step.at < t → node_of l ≡ c → (p : PeerId)
      (m : MessageValue) → l.did.deed ≡ Acts (Post (Peer p) (Message m)) → m.kind ≡ SetTime →
      JoinedNow p l.did.step (view l.port (of (node_of l) older)) ⊎ AtRound p l.did (view l.port (of (node_of l) older)) m → ⊥
  begins-no l older place late early node p m deed kind (inr r) =
      let N = node_of l in
      let Q = l.port in
      let lc = locate N Q older r.close r.past (let d = r.deed in rw d refl) (closed_at (view Q (of N older)) r.close r.past r.is) in
      let C = line_on Q r.close in
      let c-in : Within (C ∷ lc.older) world = Within_through (C ∷ lc.older) older world lc.place (Within_tail l older world place) in
      let at = ap (λ (z : Step). z.at) r.step in
      let since = after_place setting s world fits s-in C lc.older c-in (omega (arith, at, late, low-late)) in
      let far = r.far kind in
      let seen = ap (λ j. view Q (of j lc.older)) lc.node ∙ lc.before in
      let soon = near C lc.older c-in since (lc.node ∙ node) r.count r.lo r.size r.mean r.deed p far.best (ap (estimate p) seen ∙ far.is) in
      true≢false (sym soon ∙ far.far)
  begins-no l older place late early node p m deed kind (inl j) =
      let N = node_of l in
      let Q = l.port in
      let lj = locate N Q older j.join j.older (let d = j.deed in rw d refl) (subst (λ z. Within (Here j.join ∷ j.older) z) (sym j.is)
      (Within_all (Here j.join ∷ j.older))) in
      let J = line_on Q j.join in
      let older-in = Within_tail l older world place in
      let j-in : Within (J ∷ lj.older) world = Within_through (J ∷ lj.older) older world lj.place older-in in
      let at = ap (λ (z : Step). z.at) j.same in
      let seen : view Q (of (node_of J) lj.older) ≡ j.older = ap (λ k. view Q (of k lj.older)) lj.node ∙ lj.before in
      let fit : JoinsFor p j.older = subst (λ z. JoinsFor p z) seen (subst (λ k. TableFits k j.join (view Q (of (node_of J) lj.older))) j.deed
      (owes_at TableFits j.join (view Q (of (node_of J) lj.older)) (view Q (of (node_of J) world)) (seen_in (node_of J) J lj.older world refl j-in)
      (tables (node_of J) Q))) in
      let x = took_line setting J lj.older (Join p) (record { from = Peer p; taken = Good (Message fit.message) })
      (fits_at setting (J ∷ lj.older) world fits j-in) j.deed (ap taken seen ∙ fit.took) in
      let x-in : Within (x.line ∷ x.before) world = Within_through (x.line ∷ x.before) lj.older world x.place (Within_tail J lj.older world j-in) in
      let x-at = ap (λ (z : Step). z.at) x.step in
      let x-node = ap (λ (z : Step). z.node) x.step in
      let x-since = after_place setting s world fits s-in x.line x.before x-in (omega (arith, x-at, at, late, low-late)) in
      let k = sent setting world fits passed long stays s s-in calm x.line x.before x-in x-since (Peer p) fit.message x.deed in
      let k-in : Within (k.post ∷ k.before) world = Within_through (k.post ∷ k.before) x.before world k.place (Within_tail x.line x.before world x-in) in
      let soon = k.soon in
      let k-since = after_place setting s world fits s-in k.post k.before k-in (omega (arith, soon, x-at, at, late, low-late)) in
      let who : p.0 ≡ node_of k.post = same_node p (node_of k.post) k.from_is in
      let stay : stays p.0 ≡ true = ap stays who ∙ calm.only k.post k.before k-in k-since in
      let to : node_of x.line ≡ c = x-node ∙ (lj.node ∙ node) in
      let port : Q ≡ first_port = on-first l older place node (rw deed refl) in
      let other : (p.0 == c) ≡ false = by_node (p.0 == c) refl (λ e. calm.unsent k.post k.before k-in k-since (Message fit.message)
      (subst (λ z. k.post.did.deed ≡ Acts (Post (Peer (peer_of z)) (Message fit.message))) (to ∙ (sym (eqb-true p.0 c e) ∙ who)) k.deed)) in
      let in-it : in_table p (view first_port (of c lj.older)) ≡ true = member J lj.older j-in (omega (arith, at, late)) (omega (arith, at, early)) p.0 stay
      other in
      let here : view first_port (of c lj.older) ≡ j.older = ap (λ q. view q (of c lj.older)) (sym port) ∙
      (ap (λ n. view Q (of n lj.older)) (sym (lj.node ∙ node)) ∙ seen) in
      true≢false (sym (ap (in_table p) (sym here) ∙ in-it) ∙ fit.new)
    where
      same_node : (p : PeerId) (n : ℕ) → Peer p ≡ Peer (peer_of n) → p.0 ≡ n
      same_node p n e = cc

      by_node : (b : Bool) → (p.0 == c) ≡ b → ((p.0 == c) ≡ true → ⊥) → (p.0 == c) ≡ false
      by_node true e bad = absurd (bad e)
      by_node false e bad = e

  why : (l : Line) (older : List Line) → Within (l ∷ older) world → (p : PeerId) (m : MessageValue) → l.did.deed ≡ Acts (Post (Peer p) (Message m)) →
      m.kind ≡ SetTime → SentFor p l.did (view l.port (of (node_of l) older)) m
  why l older place p m deed kind = (subst (λ d. SentFits d l.did (view l.port (of (node_of l) older))) deed
      (owes_at SentFits l.did (view l.port (of (node_of l) older)) (view l.port (of (node_of l) world)) (seen_in (node_of l) l older world refl place)
      (sents (node_of l) l.port))) (rw kind refl)

  pub sets-no : (l : Line) (older : List Line) → Within (l ∷ older) world → low + 4004007 < l.did.step.at → l.did.step.at < t → node_of l ≡ c → (p : PeerId)
      (m : MessageValue) → l.did.deed ≡ Acts (Post (Peer p) (Message m)) → m.kind ≢ SetTime
  sets-no l older place late early node p m deed kind = elim (why l older place p m deed kind) [
    | inl j ↦ begins-no l older place (omega (arith, late)) early node p m deed kind (inl j)
    | inr (inl r) ↦ begins-no l older place (omega (arith, late)) early node p m deed kind (inr r)
    | inr (inr a) ↦
        let x = older_of setting world fits passed long stays s s-in calm l older p m place a in
        let X = line_on l.port x.first in
        let x-in : Within (X ∷ x.before) world = Within_through (X ∷ x.before) older world x.place (Within_tail l older world place) in
        let soon = x.soon in
        let order = place_time setting (X ∷ x.before) (l ∷ older) (fits_at setting (l ∷ older) world fits place) (inr x.place) in
        let x-late : low < x.first.step.at = omega (arith, soon, late) in
        let x-early : x.first.step.at < t = omega (arith, order, early) in
        elim (why X x.before x-in p m x.deed kind) [
          | inl j ↦ begins-no X x.before x-in x-late x-early (x.node ∙ node) p m x.deed kind (inl j)
          | inr (inl r) ↦ begins-no X x.before x-in x-late x-early (x.node ∙ node) p m x.deed kind (inr r)
          | inr (inr b) ↦ again-no X x.before x-in (ap (λ j. acting (view l.port (of j x.before))) x.node ∙ x.begins) (x.node ∙ node) p m x.deed kind b
        ]
  ] where
    -- what begins isn't open
    again-no : (f : Line) (o : List Line) → Within (f ∷ o) world → acting (view f.port (of (node_of f) o)) ≡ true → node_of f ≡ c → (p : PeerId)
        (m : MessageValue) → f.did.deed ≡ Acts (Post (Peer p) (Message m)) → m.kind ≡ SetTime → Again p f.did (view f.port (of (node_of f) o)) m → ⊥
    again-no f o place begins node p m deed kind a =
        let port : f.port ≡ first_port = on-first f o place node (rw deed refl) in
        let seen : view f.port (of (node_of f) o) ≡ view first_port (of c o) = ap (λ j. view f.port (of j o)) node ∙ ap (λ q. view q (of c o)) port in
        apart-again setting world fits sents c p.0 f.did o m (record {
          place = subst (λ z. Within (z ∷ o) world) (sym (line_is f first_port port)) place;
          node = node;
          corrects = record { deed = deed; kind = rw kind refl; begins = sym (ap acting seen) ∙ begins };
        }) (subst (λ z. Again p f.did z m) seen a)
