-- The reign of a master: when it won, and the candidature that it won.
use Rattle.std.proofs.Common.{sym, ap, subst, arith, true≢false, inl, inr, ◌∙◌, ◌≡◌, ◌≢◌, ◌≤◌, ◌<◌, ℕ, ◌+◌, ◌*◌, true, List, [], ◌∷◌}
use Rattle.std.proofs.Common.{length, refl}
use Rattle.std.proofs.lemmas.Bool.{cases_lt}
use Rattle.tsp_rules.specs.Values.{Become, Boot, Candidate, Master, Port, Role, Starting, SLACK, WINDOW}
use Rattle.tsp_base.specs.Words.{Acts, Deed, Did, Elsewhere, Here, Line, Seen, Within, is_shared, of, role, role_after, stood, stood_after, view}
use Rattle.tsp_base.proofs.PlaceLemmas.{Within_length, Within_tail, Within_through}
use Rattle.tsp_promises.specs.{Fits.Fits, Fits.node_of, HoldFits.LeadFits, Setting.Setting, Setting.setup_of}
use Rattle.tsp_promises.proofs.{shared.Clocks.tick_mono, shared.ElectionFacts.boots, shared.ElectionFacts.boots_mono, shared.ElectionFacts.stood_at}
use Rattle.tsp_promises.proofs.{shared.HistoryPlaces.line_on}
use Rattle.tsp_promises.proofs.promised.OwnFitsProof.{Located, deed_fits, fits_in, locate, tick_in, view_line}
use Rattle.tsp_progress.specs.{FoundInTime.Changed, FoundInTime.IsQuick, FoundInTime.is_change, MastersTell.LeadsOn, OneStops.Spans}
use Rattle.tsp_progress.specs.WinsLate.{StoodLong, WinsLate, WonFits}
use Rattle.tsp_progress.proofs.{StopPlaces.within_span, WinsNot.last_change, WinsNot.owed_at}

-- the deed by which a port got its role
pub record GotAt (r : Role) (place : List Seen) : Type 0 where
  pub start : Did
  pub idle : List Seen
  pub stood_is : place ≡ Here start ∷ idle
  pub deed : start.deed ≡ Acts (Become r)

pub got_by : (r : Role) → Starting ≢ r → (seen : List Seen) → role seen ≡ r → GotAt r (stood seen)
got_by r other [] e = absurd (other e)
got_by r other (Elsewhere d ∷ before) e = got_by r other before e
got_by r other (Here d ∷ before) e = by_deed d.deed refl e (λ k. got_by r other before k) where
  by_deed : (deed : Deed) → d.deed ≡ deed → role_after deed (role before) ≡ r → (role before ≡ r → GotAt r (stood before)) →
      GotAt r (stood_after deed (Here d ∷ before) (stood before))
  by_deed (Acts Boot) is k more = absurd (other k)
  by_deed (Acts (Become q)) is k more = record { start = d; idle = before; stood_is = refl; deed = is ∙ ap (λ x. Acts (Become x)) k }
  by_deed _ is k more = more k

pub head_did : {a b : Did} {x y : List Seen} → Here a ∷ x ≡ Here b ∷ y → a ≡ b
head_did e = cc

-- no change of the role comes after the last one, and no boot
pub since_stood : (start : Did) (idle seen : List Seen) → stood seen ≡ Here start ∷ idle → ¬ Changed (Here start ∷ idle) seen
since_stood start idle seen e c = by_deed c.change.deed refl c.is where
  long : length (Here start ∷ idle) ≤ length c.before
  long = Within_length (Here start ∷ idle) c.before c.since

  by_deed : (deed : Deed) → c.change.deed ≡ deed → is_change deed ≡ true → ⊥
  by_deed (Acts Boot) is change =
      let at = stood_at seen (Here start) idle e in
      let life = at.life in
      let more = boots_mono (Here c.change ∷ c.before) seen c.place in
      let less = boots_mono (Here start ∷ idle) c.before c.since in
      let one : boots (Here c.change ∷ c.before) ≡ boots c.before + 1 = rw is refl in
      omega (arith, life, more, less, one)
  by_deed (Acts (Become r)) is change =
      let last = Within_length (Here c.change ∷ c.before) (Here start ∷ idle) (last_change start idle seen e c.change c.before r is c.place) in
      let few = long in
      omega (arith, last, few)
  by_deed _ is change = true≢false (sym change)

-- a win, and the candidature that it ends
pub record Reign (setting : Setting) (n : ℕ) (q : Port) (long : ℕ) (world : List Line) : Type 0 where
  pub w : Line
  pub wb : List Line
  pub place : Within (w ∷ wb) world
  pub node : node_of w ≡ n
  pub port : w.port ≡ q
  pub wins : w.did.deed ≡ Acts (Become Master)
  pub lasts : LeadsOn n q (w ∷ wb) world
  pub c : Line
  pub cb : List Line
  pub c_place : Within (c ∷ cb) wb
  pub c_node : node_of c ≡ n
  pub c_port : c.port ≡ q
  pub stands : c.did.deed ≡ Acts (Become Candidate)
  pub still : stood (view q (of n wb)) ≡ Here c.did ∷ view q (of n cb)
  pub soon : w.did.step.at < c.did.step.at + 7000000
  pub late : c.did.step.at + 2 * long < w.did.step.at

module _ (setting : Setting) (world : List Line) (fits : Fits setting world) (won : WinsLate world) (long : ℕ) (quick : IsQuick setting long) where
  -- a master has won
  pub reign : (n : ℕ) (q : Port) → role (view q (of n world)) ≡ Master → Reign setting n q long world
  reign n q leads =
      let whole = view q (of n world) in
      let g = got_by Master (λ e. let bad : ⊥ = cc in bad) whole leads in
      let at = stood_at whole (Here g.start) g.idle g.stood_is in
      let p : Located n q world g.start g.idle = locate n q world g.start g.idle (ap (λ d. is_shared d) g.deed) at.place in
      let w = line_on q g.start in
      let fit : LeadFits (setup_of setting (node_of w) q) g.start (view q (of (node_of w) p.older)) =
      deed_fits setting w p.older (Acts (Become Master)) g.deed (fits_in setting w p.older world fits p.place) in
      let there : view q (of (node_of w) p.older) ≡ view q (of n p.older) = ap (λ k. view q (of k p.older)) p.node in
      let stands : role (view q (of n p.older)) ≡ Candidate = ap role (sym there) ∙ fit.stands in
      let h = got_by Candidate (λ e. let bad : ⊥ = cc in bad) (view q (of n p.older)) stands in
      let start-is : Here fit.start ∷ fit.idle ≡ Here h.start ∷ h.idle = sym fit.start_is ∙ (ap stood there ∙ h.stood_is) in
      let start : fit.start ≡ h.start = head_did start-is in
      let c-at = stood_at (view q (of n p.older)) (Here h.start) h.idle h.stood_is in
      let cp : Located n q p.older h.start h.idle = locate n q p.older h.start h.idle (ap (λ d. is_shared d) h.deed) c-at.place in
      let c = line_on q h.start in
      let c-in = Within_through (c ∷ cp.older) p.older world cp.place (Within_tail w p.older world p.place) in
      let w-tick : g.start.tick ≡ setting.tick n g.start.step.at = tick_in setting n w p.older world fits p.node p.place in
      let c-tick : h.start.tick ≡ setting.tick n h.start.step.at = tick_in setting n c cp.older world fits cp.node c-in in
      let begun = ap (λ (d : Did). d.tick) start in
      let most = fit.soon in
      let small = setting.small in
      let span : Spans setting (WINDOW + SLACK) 7000000 = omega (arith, small) in
      let here : Within (Here g.start ∷ view q (of n p.older)) whole = subst (λ v. Within (Here g.start ∷ v) whole) (sym p.before) at.place in
      let stood-long : StoodLong g.start (view q (of n p.older)) = subst (λ k. WonFits k g.start (view q (of n p.older))) g.deed
      (owed_at WonFits g.start (view q (of n p.older)) whole (won n q) here) in
      let long-is : Here stood-long.start ∷ stood-long.idle ≡ Here h.start ∷ h.idle = sym stood-long.stood_is ∙ h.stood_is in
      let long-start : stood-long.start ≡ h.start = head_did long-is in
      let long-tick = ap (λ (d : Did). d.tick) long-start in
      let least = stood-long.long in
      let own : view q (of n (w ∷ p.older)) ≡ Here g.start ∷ view q (of n p.older) = view_line n w p.older p.node in
      let stood-is : stood whole ≡ Here g.start ∷ view q (of n p.older) = g.stood_is ∙ ap (λ v. Here g.start ∷ v) (sym p.before) in
      record {
        w = w;
        wb = p.older;
        place = p.place;
        node = p.node;
        port = refl;
        wins = g.deed;
        lasts = record {
          place = p.place;
          master = ap role own ∙ ap (λ d. role_after d (role (view q (of n p.older)))) g.deed;
          stays = λ ch. since_stood g.start (view q (of n p.older)) whole stood-is (subst (λ v. Changed v whole) own ch);
        };
        c = c;
        cb = cp.older;
        c_place = cp.place;
        c_node = cp.node;
        c_port = refl;
        stands = h.deed;
        still = h.stood_is ∙ ap (λ v. Here h.start ∷ v) (sym cp.before);
        soon = within_span setting n h.start.step.at g.start.step.at (WINDOW + SLACK) 7000000 span (omega (arith, w-tick, c-tick, begun, most));
        late = elim (cases_lt (h.start.step.at + 2 * long) g.start.step.at) [
          | inl less ↦ less
          | inr most_at ↦
              let mono = tick_mono setting n g.start.step.at (h.start.step.at + 2 * long) most_at in
              let fast = (setting.ticks n).fast h.start.step.at (2 * long) in
              absurd (omega (arith, mono, fast, w-tick, c-tick, long-tick, least, quick))
        ];
      }
