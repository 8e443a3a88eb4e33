-- A candidate that whoever it asks may back, and that no master sends away, wins.
use Rattle.std.proofs.Common.{sym, ap, subst, arith, inl, inr, true≢false, ◌∙◌, ◌≡◌, ◌≤◌, ◌⊎◌, ℕ, ◌+◌, true, false, List, [], ◌∷◌}
use Rattle.std.proofs.Common.{None, Some, refl}
use Rattle.std.proofs.lemmas.Bool.{cases_lt}
use Rattle.tsp_rules.specs.Values.{Candidate, Kind, MasterAck, MasterUp, Message, Peer, PeerId, Port, Post, QuitKind, Refuse, Role, LIFE, SLACK}
use Rattle.tsp_rules.specs.CommonRows.{is_idle}
use Rattle.tsp_base.specs.Words.{Acts, Here, Line, MessageValue, Seen, Sending, Within, held, is_numbered, may_back, of, open_send, open_to}
use Rattle.tsp_base.specs.Words.{peer_of, posts_of, role, sending_at, view}
use Rattle.tsp_base.proofs.PlaceLemmas.{Within_tail}
use Rattle.tsp_promises.specs.{Fits.node_of, Premises.Honest, Premises.Life}
use Rattle.tsp_promises.proofs.{shared.HistoryPlaces.line_on, promised.OwnFitsProof.locate, promised.OwnFitsProof.seen_in, promised.SendProof.opened}
use Rattle.tsp_run.specs.Clocked.{clocks_of, run_by}
use Rattle.tsp_run.proofs.{OwnClocks.possible_own, OwnClocks.runs_by_own_clocks, OwnClocks.set_own}
use Rattle.tsp_progress.specs.LoneWins.{ClockedRunsWinAlone, LoneWins, RunsWinAlone, Unmastered, Welcomed, is_masterly}
use Rattle.tsp_progress.specs.{Watched.Attended, WinsUnopposed.Unhindered, WinsUnopposed.opposes}
use Rattle.tsp_progress.proofs.{QuitAnswered.open_first, StandActs.Refuses, StandActs.refuses_kind, StandActs.Sound, StandActs.StandFits}
use Rattle.tsp_progress.proofs.{StandKeeps.runs_sound, StandPlaces.kept_at, WinsUnopposedProof.clocked_runs_win}

-- an open send is numbered
pub open_numbered : (p : PeerId) (seen : List Seen) (s : Sending) → open_send p seen ≡ Some s → is_numbered s.message.kind ≡ true
open_numbered p seen s e = by_open (open_to p seen) refl where
  some_same : (a b : Sending) → Some a ≡ Some b → a ≡ b
  some_same a b k = cc

  by_open : (o : List Seen) → open_to p seen ≡ o → is_numbered s.message.kind ≡ true
  by_open [] is =
      let none : None ≡ Some s = sym (ap (λ o. sending_at o (posts_of p seen)) is) ∙ e in
      let bad : ⊥ = cc in
      absurd bad
  by_open (k ∷ older) is =
      let f = open_first p seen k older is in
      let first : open_to p seen ≡ Here f.first ∷ older = is ∙ ap (λ z. z ∷ older) f.is in
      let o = opened p seen f.first older first in
      let deed = o.begins.deed in
      let there : open_send p seen ≡ Some (record { began = f.first.tick; posts = posts_of p seen; message = o.message }) =
      ap (λ z. sending_at z (posts_of p seen)) first ∙ rw deed refl in
      let same = some_same _ s (sym there ∙ e) in
      ap (λ (z : Sending). is_numbered z.message.kind) (sym same) ∙ o.begins.kind

opposes_by : (k : Kind) → opposes k ≡ true → (k ≡ Refuse) ⊎ (is_masterly k ≡ true)
opposes_by Refuse e = inl refl
opposes_by QuitKind e = inr refl
opposes_by MasterUp e = inr refl
opposes_by MasterAck e = inr refl
opposes_by _ e = absurd (true≢false (sym e))

idle_candidate : (r : Role) → is_idle r ≡ true → r ≡ Candidate → ⊥
idle_candidate r e is = true≢false (sym e ∙ ap is_idle is)

module _ (world : List Line) (sound : (n : ℕ) (q : Port) → Sound (view q (of n world))) (c : Line) (older : List Line)
    (welcomed : Welcomed c world) (free : Unmastered c older world) where
  -- nobody refuses it
  unrefused : (l : Line) (before : List Line) (m : MessageValue) → Within (l ∷ before) world → l.did.deed ≡
      Acts (Post (Peer (peer_of (node_of c))) (Message m)) → m.kind ≡ Refuse → c.did.step.at ≤ l.did.step.at + LIFE → ⊥
  unrefused l before m place is kind recent = elim (fits.1 (ap refuses_kind kind)) [
    | inl r ↦ refuses r
    | inr a ↦
        let numbered = open_numbered (peer_of (node_of c)) seen a.sending a.open_is in
        let same : is_numbered a.sending.message.kind ≡ false = ap (λ (z : MessageValue). is_numbered z.kind) a.same ∙ ap is_numbered kind in
        true≢false (sym numbered ∙ same)
  ] where
    seen : List Seen
    seen = view l.port (of (node_of l) before)

    inside : Within (Here l.did ∷ seen) (view l.port (of (node_of l) world))
    inside = seen_in (node_of l) l before world refl place

    fits : StandFits (Acts (Post (Peer (peer_of (node_of c))) (Message m))) l.did seen
    fits = subst (λ k. StandFits k l.did seen) is (kept_at l.did seen (view l.port (of (node_of l) world)) (sound (node_of l) l.port).kept inside).fits

    refuses : Refuses (peer_of (node_of c)) l.did seen → ⊥
    refuses r =
        let there : Within (Here r.took ∷ r.rest) (view l.port (of (node_of l) world)) =
        subst (λ s. Within s (view l.port (of (node_of l) world))) r.is (Within_tail (Here l.did) seen (view l.port (of (node_of l) world)) inside) in
        let k = locate (node_of l) l.port world r.took r.rest (let deed = r.deed in rw deed refl) there in
        let at = ap (λ s. s.at) r.step in
        let w = welcomed (line_on l.port r.took) k.older r.message k.place (omega (arith, at, recent)) r.deed r.kind in
        let view_is : view l.port (of r.took.step.node k.older) ≡ r.rest = ap (λ n. view l.port (of n k.older)) k.node ∙ k.before in
        elim r.unable [
          | inl e ↦ idle_candidate (role r.rest) (ap (λ v. is_idle (role v)) (sym view_is) ∙ w.0) e
          | inr e ↦ true≢false (sym w.1 ∙ (ap (λ v. may_back (held v) r.took.tick (peer_of (node_of c))) view_is ∙
              (ap (λ x. may_back (held r.rest) x (peer_of (node_of c))) r.now ∙ e)))
        ]

  unhindered : Unhindered c older world
  unhindered = record {
    unbooted = free.unbooted;
    unposted = λ l before m place is kind. elim (opposes_by m.kind kind) [
      | inl refuse ↦ elim (cases_lt (l.did.step.at + LIFE) c.did.step.at) [
        | inl early ↦ early
        | inr late ↦ absurd (unrefused l before m place is refuse late)
      ]
      | inr masterly ↦ free.unposted l before m place is masterly
    ];
  }

pub clocked_runs_win_alone : ClockedRunsWinAlone
clocked_runs_win_alone clocks header setting events late set possible attended slack plain honest life c older st welcomed free =
    let w = clocked_runs_win clocks header setting events late set possible attended slack plain in
    w.0 c older st (w.1.1 honest life c older st (unhindered (run_by clocks header events) (λ n q. runs_sound clocks header events n q) c older welcomed free))

pub runs_win_alone : RunsWinAlone
runs_win_alone header setting events late set possible = subst (λ h. Attended late h → late ≤ SLACK → header.strict ≡ false → Honest h → Life h →
    LoneWins late h) (runs_by_own_clocks header events)
    (clocked_runs_win_alone (clocks_of header) header setting events late (set_own header setting set) (possible_own header events possible))
