-- What stands before a Close that comes late after a place: the other Closes, and the corrections that were posted.
use Rattle.std.proofs.Common.{sym, ap, subst, arith, inl, inr, ◌∙◌, ◌≡◌, ◌≢◌, ◌≤◌, ◌<◌, ◌⊎◌, ℕ, ◌+◌, ◌==◌, ℤ, Bool, true, false, List, [], ◌∷◌, eqb-true, refl}
use Rattle.std.proofs.lemmas.Bool.{cases_lt}
use Rattle.tsp_rules.specs.Values.{AdjTime, Boot, Close, Kind, Message, Peer, Post, SetTime}
use Rattle.tsp_base.specs.Words.{Acts, Deed, Did, Line, MessageValue, Within, dids, first_port, is_correction, is_shared, lives, lives_after, of}
use Rattle.tsp_base.specs.Words.{peer_of, time_of, view}
use Rattle.tsp_base.proofs.PlaceLemmas.{Within_all, Within_comparable, Within_strict, Within_tail, Within_through}
use Rattle.tsp_promises.specs.{CorrectionFits.AtClose, CorrectionFits.CorrectionFits, Fits.Fits, Fits.node_of, Seldom.SeldomAt, Setting.Setting}
use Rattle.tsp_promises.proofs.{shared.HistoryPlaces.line_on, shared.HistoryPlaces.of_other, shared.HistoryPlaces.of_own, shared.Clocks.near}
use Rattle.tsp_promises.proofs.{shared.SendPlaces.SendPlace, shared.SendPlaces.post_fits, shared.SendPlaces.send_place, shared.RoundPlaces.closed_at}
use Rattle.tsp_promises.proofs.{shared.EverywhereLemmas.Everywhere_at, promised.ErrsProof.seldom, promised.SendProof.numbered}
use Rattle.tsp_promises.proofs.promised.OwnFitsProof.{fits_at, fits_in, locate, place_time, tick_in}
use Rattle.tsp_progress.specs.{FollowOn.Calm, InTable.SetsNone, LateClose.LateClose}

-- what is no boot keeps the node's life
lives_kept : (d : Did) (ds : List Did) → d.deed ≢ Acts Boot → lives (d ∷ ds) ≡ lives ds
lives_kept d ds unbooted = by_deed d.deed refl where
  by_deed : (deed : Deed) → d.deed ≡ deed → lives_after deed (lives ds) ≡ lives ds
  by_deed (Acts Boot) is = absurd (unbooted is)
  by_deed _ is = refl

-- a correction that is no SETTIME is an ADJTIME
pub adjusts : (k : Kind) → is_correction k ≡ true → k ≢ SetTime → k ≡ AdjTime
adjusts AdjTime e n = refl
adjusts SetTime e n = absurd (n refl)
adjusts _ e n = let bad : ⊥ = cc in absurd bad

-- what comes later than a place stands after it
pub after_time : (setting : Setting) (world : List Line) → Fits setting world → (s : List Line) → Within s world → (k : Line) (w : List Line) →
    Within (k ∷ w) world → time_of (dids s) < k.did.step.at → Within s w
after_time setting world fits s s-in k w v less = elim (Within_comparable s (k ∷ w) world s-in v) [
  | inl (inl e) ↦ absurd (let same = ap (λ (z : List Line). time_of (dids z)) e in omega (arith, same, less))
  | inl (inr u) ↦ u
  | inr u ↦ absurd (let le = place_time setting (k ∷ w) s (fits_at setting s world fits s-in) u in omega (arith, le, less))
]

module _ (setting : Setting) (world : List Line) (fits : Fits setting world) (long t c : ℕ) (stays : ℕ → Bool) (s : List Line) (s-in : Within s world)
    (calm : Calm long stays s world)
    (first : (l : Line) (older : List Line) → Within (l ∷ older) world → node_of l ≡ c → is_shared l.did.deed ≡ false → l.port ≡ first_port) where
  -- no node's life ends after the place s
  pub same_lives : (n : ℕ) (g h : List Line) → Within s g → Within g h → Within h world → lives (dids (of n g)) ≡ lives (dids (of n h))
  same_lives n g [] since w v = ap (λ z. lives (dids (of n z))) w
  same_lives n g (l ∷ h) since (inl e) v = ap (λ z. lives (dids (of n z))) e
  same_lives n g (l ∷ h) since (inr w) v = by_node (node_of l == n) refl (same_lives n g h since w (Within_tail l h world v)) where
    unbooted : l.did.deed ≢ Acts Boot
    unbooted = calm.unbooted l h v (Within_through s g h since w)

    by_node : (b : Bool) → (node_of l == n) ≡ b → lives (dids (of n g)) ≡ lives (dids (of n h)) → lives (dids (of n g)) ≡ lives (dids (of n (l ∷ h)))
    by_node false e k = subst (λ ls. lives (dids (of n g)) ≡ lives (dids ls)) (sym (of_other n l h e)) k
    by_node true e k = subst (λ ls. lives (dids (of n g)) ≡ lives (dids ls)) (sym (of_own n l h (eqb-true (node_of l) n e)))
        (k ∙ sym (lives_kept l.did (dids (of n h)) unbooted))

  close_port : (D : Line) (dp : List Line) → Within (D ∷ dp) world → node_of D ≡ c → (count : ℕ) (lo size mean : ℤ) →
      D.did.deed ≡ Acts (Close count lo size mean) → D.port ≡ first_port
  close_port D dp w node count lo size mean deed = first D dp w node (rw deed refl)

  module _ (C : Line) (cp : List Line) (r : LateClose long t c s C cp world) where
    pub since : Within s cp
    since = after_time setting world fits s s-in C cp r.place (let late = r.late in omega (arith, late))

    pub port : C.port ≡ first_port
    port = close_port C cp r.place r.node r.count r.lo r.size r.mean r.deed

    -- two Closes of one life are 237 s apart
    spaced : (D : Line) (dp : List Line) (E : Line) (ep : List Line) → Within (D ∷ dp) ep → Within (E ∷ ep) world → node_of D ≡ c → node_of E ≡ c →
        Within s dp → (count n : ℕ) (lo size mean low long middle : ℤ) → D.did.deed ≡ Acts (Close n low long middle) →
        E.did.deed ≡ Acts (Close count lo size mean) → D.did.step.at + 237000000 ≤ E.did.step.at
    spaced D dp E ep w v d_node e_node since count n lo size mean low long middle d_deed e_deed =
        let ep-in : Within ep world = Within_tail E ep world v in
        let d-in : Within (D ∷ dp) world = Within_through (D ∷ dp) ep world w ep-in in
        let same : lives (dids (of (node_of E) dp)) ≡ lives (dids (of (node_of E) ep)) =
        same_lives (node_of E) dp ep since (Within_tail D dp ep w) ep-in in
        let ports : D.port ≡ E.port = close_port D dp d-in d_node n low long middle d_deed ∙ sym (close_port E ep v e_node count lo size mean e_deed) in
        let far = Everywhere_at SeldomAt E ep world (seldom setting world fits) v D dp count n lo size mean low long middle e_deed w (d_node ∙ sym e_node) ports
        d_deed same in
        let order = place_time setting (D ∷ dp) ep (fits_at setting ep world fits ep-in) w in
        let now = (fits_in setting E ep world fits v).order in
        let d_tick = tick_in setting c D dp world fits d_node d-in in
        let e_tick = tick_in setting c E ep world fits e_node v in
        let most = (near setting c D.did.step.at E.did.step.at (omega (arith, order, now))).most in
        omega (arith, far, d_tick, e_tick, most)

    -- so each other Close of the node is 237 s before this one, or after it
    pub close_apart : (D : Line) (dp : List Line) → Within (D ∷ dp) world → node_of D ≡ c → (n : ℕ) (low long middle : ℤ) →
        D.did.deed ≡ Acts (Close n low long middle) →
        (D ∷ dp ≡ C ∷ cp) ⊎ ((Within (D ∷ dp) cp × (D.did.step.at + 237000000 ≤ C.did.step.at)) ⊎
        (Within (C ∷ cp) dp × (C.did.step.at + 237000000 ≤ D.did.step.at)))
    close_apart D dp w node n low long middle deed = elim (Within_comparable (D ∷ dp) (C ∷ cp) world w r.place) [
      | inl (inl e) ↦ inl e
      | inl (inr v) ↦ inr (inl (v, earlier v))
      | inr (inl e) ↦ inl (sym e)
      | inr (inr v) ↦ inr (inr (v, spaced C cp D dp v w r.node node since n r.count low long middle r.lo r.size r.mean r.deed deed))
    ] where
      earlier : Within (D ∷ dp) cp → D.did.step.at + 237000000 ≤ C.did.step.at
      earlier v = elim (cases_lt (time_of (dids s)) D.did.step.at) [
        | inl later ↦ spaced D dp C cp v r.place node r.node (after_time setting world fits s s-in D dp w later) r.count n r.lo r.size r.mean low long middle
            deed r.deed
        | inr none ↦ let late = r.late in omega (arith, none, late)
      ]

    -- a correction that the node began at an earlier Close, or before the place s, was posted long before
    module _ (sets : SetsNone c s world) where
      module _ (q : Line) (qo : List Line) (n : ℕ) (m : MessageValue) (w : Within (q ∷ qo) cp) (node : node_of q ≡ c)
          (deed : q.did.deed ≡ Acts (Post (Peer (peer_of n)) (Message m))) (kind : is_correction m.kind ≡ true) where
        cp-in : Within cp world
        cp-in = Within_tail C cp world r.place

        q-in : Within (q ∷ qo) world
        q-in = Within_through (q ∷ qo) cp world w cp-in

        send : SendPlace c n q qo m
        send = send_place setting c n q qo m (fits_at setting (q ∷ qo) world fits q-in) node deed (numbered m.kind kind)

        abbrev F : Line
        F = line_on q.port send.first

        f-in : Within (F ∷ send.fw) world
        f-in = Within_through (F ∷ send.fw) (q ∷ qo) world send.place q-in

        owes : CorrectionFits send.first (view q.port (of c send.fw)) (peer_of n) m
        owes = post_fits setting c F send.fw (peer_of n) m (fits_in setting F send.fw world fits f-in) send.node send.sends.deed kind

        at_close : AtClose send.first (view q.port (of c send.fw)) (peer_of n) m → q.did.step.at + 230000000 ≤ C.did.step.at
        at_close a =
            let u = a.is in
            let d = locate c q.port send.fw a.close a.past (rw u.deed refl) (closed_at (view q.port (of c send.fw)) a.close a.past u.is) in
            let fw-in : Within (line_on q.port a.close ∷ d.older) cp = Within_through (line_on q.port a.close ∷ d.older) (F ∷ send.fw) cp (inr d.place)
            (Within_through (F ∷ send.fw) (q ∷ qo) cp send.place w) in
            let at = u.at in
            let soon = send.soon in
            elim (close_apart (line_on q.port a.close) d.older (Within_through (line_on q.port a.close ∷ d.older) cp world fw-in cp-in) d.node u.count u.lo
            u.size a.mean u.deed) [
              | inl e ↦ absurd (Within_strict C cp cp (subst (λ (z : List Line). Within z cp) e fw-in) (Within_all cp))
              | inr (inl k) ↦ let far = k.1 in omega (arith, far, at, soon)
              | inr (inr k) ↦ absurd (Within_strict C cp cp (Within_through (C ∷ cp) d.older cp k.0
                  (Within_tail (line_on q.port a.close) d.older cp fw-in)) (Within_all cp))
            ]

        newer : time_of (dids s) < q.did.step.at → q.did.step.at + 230000000 ≤ C.did.step.at
        newer later = elim ((owes.begins send.sends.begins).from) [
          | inl a ↦ absurd (sets q qo q-in (after_time setting world fits s s-in q qo q-in later) node (peer_of n) m deed a.sets)
          | inr a ↦ at_close a
        ]

        pub older_posts : q.did.step.at + 230000000 ≤ C.did.step.at
        older_posts = elim (cases_lt (time_of (dids s)) q.did.step.at) [
          | inl later ↦ newer later
          | inr none ↦ let late = r.late in omega (arith, none, late)
        ]
