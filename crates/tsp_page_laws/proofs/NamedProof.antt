-- A node that leads booted long ago: it leads no sooner than ELECT_MIN ticks after its boot.
use Rattle.std.proofs.Common.{◌≡◌, ◌≢◌, ℕ, ◌+◌, ◌≤◌, ◌==◌, ◌||◌, Bool, true, false, List, [], ◌∷◌, ◌⊎◌, inl, inr, refl, ap, sym, subst, ◌∙◌, arith}
use Rattle.std.proofs.lemmas.Bool.{false≢true}
use Rattle.tsp_rules.specs.Values.{Become, Post, Message, Msite, PeerId, Stranger, Boot, Starting, Loose, Follow, Candidate, Master, Port, Role, ELECT_MIN}
use Rattle.tsp_base.specs.Words.{
  kept_name,
  MessageValue,
  TakesFrom,
  Acts,
  Deed,
  Line,
  of,
  dids,
  view,
  boot_tick,
  boot_after,
  tick_of,
  time_of,
  lives,
  all_corrects,
  role,
  role_after,
  seen_as,
  is_shared,
  Within,
}
use Rattle.tsp_base.proofs.{Views.plain_view, PlaceLemmas.Within_through}
use Rattle.tsp_promises.specs.{
  Agreed.Unchanged,
  DeedFits.DeedFits,
  DeedFits.answer_name,
  Fits.Fits,
  Fits.node_of,
  OwnFits.OwnFits,
  OwnFits.OwnLineFits,
  Since.NewLife,
  Setting.Setting,
  Setting.setup_of,
}
use Rattle.tsp_promises.proofs.promised.OwnFitsProof.{deed_fits, fits_at, own_fits, of_tick, tick_in, place_time}
use Rattle.tsp_promises.proofs.{shared.HistoryPlaces.Within_of, shared.HistoryPlaces.of_own, promised.SinceProof.since, shared.Clocks.near}
use Rattle.tsp_rules.specs.CommonRows.{master_name_in}
use Rattle.tsp_page_laws.specs.Named.{LeadsAfter}

starting : Starting ≡ Master → ⊥
starting e = cc

loose : Loose ≡ Master → ⊥
loose e = cc

follow : (p : _) → Follow p ≡ Master → ⊥
follow p e = cc

candidate : Candidate ≡ Master → ⊥
candidate e = cc

-- a port that leads after a deed that it sees leads by then for ELECT_MIN ticks since the boot
rested_deed : (setting : Setting) (q : Port) (l : Line) (t : List Line) (deed : Deed) → DeedFits (setup_of setting (node_of l) q) deed l.did (view q
    t) → tick_of (dids t) ≤ l.did.tick
    → (role (view q t) ≡ Master → boot_tick (dids t) + ELECT_MIN ≤ tick_of (dids t)) → role_after deed (role (view q t)) ≡ Master
    → boot_after deed l.did.tick (boot_tick (dids t)) + ELECT_MIN ≤ l.did.tick
rested_deed setting q l t (Acts Boot) f tick h leads = absurd (starting leads)
rested_deed setting q l t (Acts (Become Master)) f tick h leads = subst (λ k. boot_tick k + ELECT_MIN ≤ l.did.tick) (plain_view q t) f.rested
rested_deed setting q l t (Acts (Become Starting)) f tick h leads = absurd (starting leads)
rested_deed setting q l t (Acts (Become Loose)) f tick h leads = absurd (loose leads)
rested_deed setting q l t (Acts (Become (Follow p))) f tick h leads = absurd (follow p leads)
rested_deed setting q l t (Acts (Become Candidate)) f tick h leads = absurd (candidate leads)
rested_deed setting q l t deed f tick h leads = omega (arith, h leads, tick)

neither : (b c : Bool) → (b || c) ≡ false → c ≡ false
neither true c e = absurd (false≢true (sym e))
neither false c e = e

-- a deed that it doesn't see is no boot
unseen : (deed : Deed) (x was : ℕ) → is_shared deed ≡ false → boot_after deed x was ≡ was
unseen (Acts Boot) x was e = absurd (false≢true (sym e))
unseen deed x was e = refl

rested_line : (setting : Setting) (q : Port) (l : Line) (t : List Line) → OwnLineFits setting l t → (role (view q t) ≡ Master
    → boot_tick (dids t) + ELECT_MIN ≤ tick_of (dids t))
    → (b : Bool) → ((l.port.0 == q.0) || is_shared l.did.deed) ≡ b → role (seen_as b l.did ∷ view q t) ≡ Master
    → boot_after l.did.deed l.did.tick (boot_tick (dids t)) + ELECT_MIN ≤ l.did.tick
rested_line setting q l t f h true e leads = rested_deed setting q l t l.did.deed (f.deeds q e) f.tick h leads
rested_line setting q l t f h false e leads =
    let same = unseen l.did.deed l.did.tick (boot_tick (dids t)) (neither (l.port.0 == q.0) (is_shared l.did.deed) e) in
    rw same (omega (arith, h leads, f.tick))

rested : (setting : Setting) (q : Port) (t : List Line) → OwnFits setting t → role (view q t) ≡ Master → boot_tick (dids t) + ELECT_MIN ≤ tick_of (dids t)
rested setting q [] f leads = absurd (starting leads)
rested setting q (l ∷ t) f leads = rested_line setting q l t f.0 (rested setting q t f.1) ((l.port.0 == q.0) || is_shared l.did.deed) refl leads

-- a node that leads so soon after a line of its own hasn't booted since
pub one_life : (setting : Setting) (m : ℕ) (stamp : Line) (older named : List Line) → Fits setting named → LeadsAfter m stamp older named
    → lives (dids (of m (stamp ∷ older))) ≡ lives (dids (of m named))
one_life setting m stamp older named fits a =
    let own = own_fits setting m named fits in
    let s = since setting (of m (stamp ∷ older)) (of m named) own (Within_of m (stamp ∷ older) named a.place) in
    elim s.life [ inl o ↦ o.lives | inr o ↦ absurd (too_soon o) ]
  where
    too_soon : NewLife (dids (of m (stamp ∷ older))) (dids (of m named)) → ⊥
    too_soon o =
        let long = rested setting a.port (of m named) (own_fits setting m named fits) a.leads in
        let at : tick_of (dids (of m (stamp ∷ older))) ≡ stamp.did.tick = ap (λ z. tick_of (dids z)) (of_own m stamp older a.node) in
        let ticks : stamp.did.tick ≡ setting.tick m stamp.did.step.at = tick_in setting m stamp older named fits a.node a.place in
        let last = of_tick setting m named fits in
        let order = place_time setting (stamp ∷ older) named fits a.place in
        let n = near setting m stamp.did.step.at (time_of (dids named)) order in
        omega (arith, long, at, ticks, last, n.most, o.boot, a.soon)

-- a node that isn't corrected between a stamp and a later moment, and led soon after the stamp, was left alone since the stamp
pub unchanged_since : (setting : Setting) (m : ℕ) (stamp : Line) (older named h : List Line) → Fits setting h → Within named h → LeadsAfter m stamp older named
    → lives (dids (of m named)) ≡ lives (dids (of m h)) → all_corrects (dids (of m (stamp ∷ older))) ≡ all_corrects (dids (of m h))
    → Unchanged m (stamp ∷ older) h
unchanged_since setting m stamp older named h fits w a life corrects =
    let before = fits_at setting named h fits w in record {
      within = Within_through (stamp ∷ older) named h a.place w;
      since = record { corrects = corrects; lives = one_life setting m stamp older named before a ∙ life };
    }

-- the name that a port answers MSITE with, by its role
named_by : (r : Role) (own kept name : List ℕ) → name ≡ master_name_in r own kept → name ≡ own → own ≢ []
    → (r ≡ Master) ⊎ ((p : PeerId) × (r ≡ Follow p) × (kept ≡ own))
named_by Master own kept name e f ne = inl refl
named_by (Follow p) own kept name e f ne = inr (p, refl, sym e ∙ f)
named_by Starting own kept name e f ne = absurd (ne (sym f ∙ e))
named_by Loose own kept name e f ne = absurd (ne (sym f ∙ e))
named_by Candidate own kept name e f ne = absurd (ne (sym f ∙ e))

pub names_itself : (setting : Setting) (l : Line) (world : List Line) (answer asked : MessageValue) → Fits setting (l ∷ world)
    → l.did.deed ≡ Acts (Post Stranger (Message answer))
    → TakesFrom (view l.port (of (node_of l) world)) Stranger (Message asked) → asked.kind ≡ Msite → answer.name ≡ setting.name (node_of l)
    → setting.name (node_of l) ≢ []
    → (role (view l.port (of (node_of l) world)) ≡ Master)
    ⊎ ((p : PeerId) × (role (view l.port (of (node_of l) world)) ≡ Follow p) × (kept_name (view l.port (of (node_of l) world)) ≡ setting.name (node_of l)))
names_itself setting l world answer asked fits deed took kind name ne =
    let f = deed_fits setting l world (Acts (Post Stranger (Message answer))) deed fits.0 in
    let says = f.fits.1.1 asked took in
    let seen = view l.port (of (node_of l) world) in
    let by : answer.name ≡ master_name_in (role seen) (setting.name (node_of l)) (kept_name seen) =
    subst (λ k. answer.name ≡ answer_name k (setup_of setting (node_of l) l.port) seen) kind says in
    named_by (role seen) (setting.name (node_of l)) (kept_name seen) answer.name by name ne
