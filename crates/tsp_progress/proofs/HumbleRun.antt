-- In a run the nodes that may not be master are humble, so where one alone may be it is left alone, and leads.
use Rattle.std.proofs.Common.{sym, ap, subst, inl, inr, true≢false, ◌∙◌, ◌≡◌, eqb-true, eq-eqb, ℕ, ◌==◌, ◌||◌, Bool, true, false, if◌then◌else◌, List, [], ◌∷◌}
use Rattle.std.proofs.Common.{Some, slice_get, refl}
use Rattle.tsp_rules.specs.Values.{Post, Datagram, Message, Stamp, Good, Kind, AdjTime, SetTime, Election, MasterUp, MasterAck, QuitKind, Refuse, Test}
use Rattle.tsp_rules.specs.Values.{LoopKind, Event, BootAt, Turn, Take, Bytes, Place, Peer, Stranger, Port}
use Rattle.tsp_rules.specs.{GateRows.GotOn, GateRows.NodeTurn, GateRows.answers_all, GateRows.boots_all, NodeRows.NodePast, NodeRows.NodeRow}
use Rattle.tsp_rules.specs.{NodeRows.in_node_step}
use Rattle.tsp_base.specs.Words.{Acts, Begins, Did, HeaderValue, Handed, Line, MessageValue, Seen, Step, Turned, Within, first_port, is_shared, joined, line_of}
use Rattle.tsp_base.specs.Words.{of, peer_of, seen_as, stepped, view}
use Rattle.tsp_codec.specs.{Taken.taken_of}
use Rattle.tsp_promises.specs.{Fits.node_of, Setting.Setting, Sound.IsSound, Sound.IsSoundDeed}
use Rattle.tsp_promises.proofs.{shared.EverywhereLemmas.Everywhere_at, shared.EverywhereLemmas.Everywhere_from, leads.GateSteps.LeadsAll}
use Rattle.tsp_run.specs.{Networks.address_of, Networks.networks, Premised.Sealed, Setup.past_of, declared.address.Address.Address}
use Rattle.tsp_run.specs.{declared.posted.Posted.Posted}
use Rattle.tsp_run.specs.{Run.joins, Run.posts}
use Rattle.tsp_run.specs.Clocked.{Clocks, PossibleBy, SetByClocks, boot_by, happening_by, run_by, tick_by}
use Rattle.tsp_run.proofs.{HappensBy.stepping, HappensBy.steps_are, HappensBy.taken_in, HappensBy.takes_or, HappensBy.taking, HappensBy.taking_row}
use Rattle.tsp_run.proofs.{HappensBy.taking_step, PossibleRun.possible_before, PostPlaces.PostAt, PostPlaces.post_at, RunFits.clocked_runs_fit, RunFits.ran}
use Rattle.tsp_run.proofs.{RunLemmas.stepped_other, RunLemmas.stepped_own, SoundLemmas.line_sound, SoundLemmas.sound_read, SoundAll.AreSoundLines}
use Rattle.tsp_progress.specs.{AlarmsFit.Manner, CausesFit.stirs, Humble.HumblePost, Humble.HumblePosts, Humble.Humble, Humble.Mild, Humble.is_humble}
use Rattle.tsp_progress.specs.{LoneLeads.Lone, OneMay.LeftAlone, OneMay.OneLeads, OneMay.OneMayBe, RunsWake.manner_of}
use Rattle.tsp_progress.proofs.{HumbleNodes.answers_humble, HumbleNodes.begins_humble, HumbleNodes.boots_humble, HumbleNodes.humbly}
use Rattle.tsp_progress.proofs.{LoneProof.lone_leads, LoneProof.lone_led, NodeKeeps.Each, NodeKeeps.node_manner, RunWakes.clocked_runs_wake}
use Rattle.tsp_run.{specs.Clocked.clocks_of, proofs.OwnClocks.possible_own, proofs.OwnClocks.runs_by_own_clocks, proofs.OwnClocks.set_own}
use Rattle.tsp_progress.specs.{LoneLeads.Led, LoneLeads.LoneLeads, OneMay.OneLeadsRun, Watched.Attended, Watched.Told}

-- each port of each node is humble, if its node may not be master
abbrev AllHumble : ℕ → (ℕ → Manner) → List Line → Type 0
AllHumble c m h = (n : ℕ) (q : Port) → (m n).may ≡ false → Humble c (view q (of n h))

-- a step by a row that keeps its node humble
row_humble : (c : ℕ) (m : ℕ → Manner) (past : NodePast) (step : Step) (x : ℕ) (row : NodeRow) (h : List Line) → past.lines ≡ of step.node h →
    node_manner past ≡ m step.node → LeadsAll (Each (humbly c)) row (Each (humbly c)) → AllHumble c m h →
    AllHumble c m (stepped step x (row x (in_node_step step x past)) h)
row_humble c m past step x row h own same leads all n q = by_case (step.node == n) refl where
  start : Each (humbly c) x past
  start r = subst (λ k. k.may ≡ false → Humble c (view r past.lines)) (sym same)
      (subst (λ l. (m step.node).may ≡ false → Humble c (view r l)) (sym own) (all step.node r))

  after : (m step.node).may ≡ false → Humble c (view q (joined step x (row x (in_node_step step x past)) (line_of step x first_port Begins ∷ of step.node h)))
  after = subst (λ l. (m step.node).may ≡ false → Humble c (view q (joined step x (row x (in_node_step step x past)) (line_of step x first_port Begins ∷ l))))
      own
      (subst (λ k. k.may ≡ false → Humble c (view q (joined step x (row x (in_node_step step x past)) (line_of step x first_port Begins ∷ past.lines)))) same
      (leads.run x (in_node_step step x past) (begins_humble c step x past start) q))

  by_case : (b : Bool) → (step.node == n) ≡ b → (m n).may ≡ false → Humble c (view q (of n (stepped step x (row x (in_node_step step x past)) h)))
  by_case true e = subst (λ k. (m k).may ≡ false → Humble c (view q (of k (stepped step x (row x (in_node_step step x past)) h)))) (eqb-true step.node n e)
      (subst (λ l. (m step.node).may ≡ false → Humble c (view q l)) (sym (stepped_own step.node step x (row x (in_node_step step x past)) h
      (eq-eqb step.node step.node refl))) after)
  by_case false e = subst (λ l. (m n).may ≡ false → Humble c (view q l)) (sym (stepped_other n step x (row x (in_node_step step x past)) h e)) (all n q)

-- each post of a humble port is humble
older_posts : (own : Bool) (d : Did) (before : List Seen) → HumblePosts (seen_as own d ∷ before) → HumblePosts before
older_posts true d before h = h.1
older_posts false d before h = h

post_humble : (h : List Line) (l : Line) (older : List Line) → Within (l ∷ older) h → HumblePosts (view l.port (of l.did.step.node h)) → HumblePost l.did.deed
post_humble [] l older w s = let bad : ⊥ = cc in absurd bad
post_humble (k ∷ before) l older (inl e) s =
    let n = l.did.step.node in
    let node : (n == n) ≡ true = eq-eqb n n refl in
    let port : (l.port.0 == l.port.0) ≡ true = eq-eqb l.port.0 l.port.0 refl in
    let now : HumblePosts (view l.port (of n (l ∷ older))) = subst (λ h. HumblePosts (view l.port (of n h))) (sym e) s in
    let mine = subst (λ b. HumblePosts (view l.port (if b then l ∷ of n older else of n older))) node now in
    (subst (λ b. HumblePosts (seen_as (b || is_shared l.did.deed) l.did ∷ view l.port (of n older))) port mine).0
post_humble (k ∷ before) l older (inr w) s = post_humble before l older w (by_node (k.did.step.node == l.did.step.node) s) where
  by_node : (b : Bool) → HumblePosts (view l.port (if b then k ∷ of l.did.step.node before else of l.did.step.node before)) →
      HumblePosts (view l.port (of l.did.step.node before))
  by_node true s = older_posts ((k.port.0 == l.port.0) || is_shared k.did.deed) k.did (view l.port (of l.did.step.node before)) s
  by_node false s = s

-- what a humble port posts, and isn't a LOOP, doesn't stir
mild_kind : (k : Kind) → is_humble k ≡ true → (k ≡ LoopKind → ⊥) → stirs k ≡ false
mild_kind AdjTime e n = absurd (true≢false (sym e))
mild_kind SetTime e n = absurd (true≢false (sym e))
mild_kind Election e n = absurd (true≢false (sym e))
mild_kind MasterUp e n = absurd (true≢false (sym e))
mild_kind MasterAck e n = absurd (true≢false (sym e))
mild_kind QuitKind e n = absurd (true≢false (sym e))
mild_kind Refuse e n = absurd (true≢false (sym e))
mild_kind Test e n = absurd (true≢false (sym e))
mild_kind LoopKind e n = absurd (n refl)
mild_kind _ e n = refl

module _ (clocks : Clocks) (header : HeaderValue) (setting : Setting) (c : ℕ) (set : SetByClocks clocks header setting) (one : OneMayBe c header) where
  -- a step by a row
  stepping_humble : (h : List Line) (row : NodeRow) (step : Step) → LeadsAll (Each (humbly c)) row (Each (humbly c)) → AllHumble c (manner_of header) h →
      AllHumble c (manner_of header) (joins (Some (stepping clocks header h row step)) h)
  stepping_humble h row step leads all = row_humble c (manner_of header) (past_of header step h) step (tick_by clocks step) row h refl refl leads all

  -- an ELECTION comes from node c
  mild_arrival : (h : List Line) (k : ℕ) (p : Posted) (to : Address) → ((n : ℕ) → AreSoundLines (of n h)) → AllHumble c (manner_of header) h →
      slice_get (posts h) k ≡ Some p → address_of (networks header) p.from p.port p.to ≡ Some to → Mild c (Peer (peer_of p.from)) (taken_in p)
  mild_arrival h k p to sound all there goes = subst (λ t. Mild c (Peer (peer_of p.from)) t) (sym (sound_read p.datagram is)) (by_datagram p.datagram refl)
    where
      o : PostAt h k p
      o = post_at h k p there

      is : IsSound p.datagram
      is = subst IsSoundDeed o.deed (line_sound h o.post o.older o.place (sound o.post.did.step.node))

      humble : (p.from == c) ≡ false → HumblePost (Acts (Post p.to p.datagram))
      humble other = subst HumblePost o.deed (post_humble h o.post o.older o.place
          (all o.post.did.step.node o.post.port (one o.post.did.step.node (subst (λ n. (n == c) ≡ false) (sym o.from) other))).posts)

      from_c : (m : MessageValue) → p.datagram ≡ Message m → m.kind ≡ Election → (place : Place) → p.to ≡ place → (b : Bool) → (p.from == c) ≡ b → p.from ≡ c
      from_c m message kind place to-is true e = eqb-true p.from c e
      from_c m message kind Stranger to-is false e = let nowhere : address_of (networks header) p.from p.port Stranger ≡ Some to =
          subst (λ t. address_of (networks header) p.from p.port t ≡ Some to) to-is goes in let bad : ⊥ = cc in absurd bad
      from_c m message kind (Peer r) to-is false e =
          let post : HumblePost (Acts (Post (Peer r) (Message m))) =
          subst (λ t. HumblePost (Acts (Post t (Message m)))) to-is (subst (λ d. HumblePost (Acts (Post p.to d))) message (humble e)) in
          absurd (true≢false (sym post ∙ ap is_humble kind))

      by_datagram : (d : Datagram) → p.datagram ≡ d → Mild c (Peer (peer_of p.from)) (Good d)
      by_datagram (Message m) message = λ kind. from_c m message kind p.to refl (p.from == c) refl
      by_datagram (Stamp s) message = tt

  event_humble : (h : List Line) (e : Event) → Sealed (e ∷ []) → ((n : ℕ) → AreSoundLines (of n h)) → AllHumble c (manner_of header) h →
      AllHumble c (manner_of header) (joins (happening_by clocks header h e) h)
  event_humble h (BootAt at node word) sealed sound all =
      subst (λ k. AllHumble c (manner_of header) (joins (Some k) h)) (sym (steps_are clocks header h boots_all (boot_by clocks h at node word)))
      (stepping_humble h boots_all (boot_by clocks h at node word) (boots_humble c) all)
  event_humble h (Turn at node) sealed sound all =
      subst (λ k. AllHumble c (manner_of header) (joins (Some k) h)) (sym (steps_are clocks header h (answers_all NodeTurn) (record {
        at = at;
        node = node;
        cause = Turned;
      })))
      (stepping_humble h (answers_all NodeTurn) (record { at = at; node = node; cause = Turned }) (answers_humble c NodeTurn tt) all)
  event_humble h (Bytes at node port (Peer p) octets) sealed sound all = absurd sealed.0
  event_humble h (Bytes at node port Stranger octets) sealed sound all =
      subst (λ k. AllHumble c (manner_of header) (joins (Some k) h)) (sym (steps_are clocks header h (answers_all (GotOn port Stranger (taken_of octets)))
      (record { at = at; node = node; cause = Handed })))
      (stepping_humble h (answers_all (GotOn port Stranger (taken_of octets))) (record { at = at; node = node; cause = Handed })
      (answers_humble c (GotOn port Stranger (taken_of octets)) tt) all)
  event_humble h (Take at k) sealed sound all = elim (takes_or clocks header h at k) [
    | inl a ↦ subst (λ o. AllHumble c (manner_of header) (joins o h)) (sym (taking clocks header h at k a))
        (stepping_humble h (taking_row a.post a.to) (taking_step at k a.to)
        (answers_humble c (GotOn a.to.port (Peer (peer_of a.post.from)) (taken_in a.post)) (mild_arrival h k a.post a.to sound all a.there a.goes)) all)
    | inr e ↦ subst (λ o. AllHumble c (manner_of header) (joins o h)) (sym e.1) all
  ]

  all_humble : (events : List Event) → PossibleBy clocks header events → Sealed events → AllHumble c (manner_of header) (run_by clocks header events)
  all_humble [] p sealed = λ n q may. record {
    role_is = refl;
    window = refl;
    probe = refl;
    close = refl;
    resolve = refl;
    round = refl;
    posts = tt;
    backs = λ b p e. let bad : ⊥ = cc in absurd bad;
  }
  all_humble (e ∷ before) p sealed =
      let earlier = possible_before clocks header e before p in
      event_humble (run_by clocks header before) e (sealed.0, tt) (λ n. ((ran earlier.header_is set before earlier).sound n).lines)
      (all_humble before earlier sealed.1)

  -- so node c is alone
  lone : (h : List Line) → AllHumble c (manner_of header) h → LeftAlone c h → Lone c h
  lone h all left = record {
    unsent = Everywhere_from _ h (λ l before within m deed. by_node l before within m deed (node_of l == c) refl);
    unhanded = left.unhanded;
  } where
    by_node : (l : Line) (before : List Line) → Within (l ∷ before) h → (m : MessageValue) → l.did.deed ≡ Acts (Post (Peer (peer_of c)) (Message m)) →
        (b : Bool) →
        (node_of l == c) ≡ b → stirs m.kind ≡ false
    by_node l before within m deed true e = Everywhere_at _ l before h left.unsent within (eqb-true (node_of l) c e) m deed
    by_node l before within m deed false e =
        let post : HumblePost (Acts (Post (Peer (peer_of c)) (Message m))) =
        subst HumblePost deed (post_humble h l before within (all (node_of l) l.port (one (node_of l) e)).posts) in
        mild_kind m.kind post (Everywhere_at _ l before h left.unlooped within m deed)

pub one_leads : OneLeads
one_leads clocks header setting events late c set p sealed attended slack may strict one left =
    let f = (clocked_runs_fit clocks header setting events set p).0 in
    let w = clocked_runs_wake clocks header events in
    let alone = lone clocks header setting c set one (run_by clocks header events) (all_humble clocks header setting c set one events p sealed) left in (
      lone_leads (manner_of header) setting late c (run_by clocks header events) f w.0 attended slack may strict alone,
      λ t told. lone_led (manner_of header) setting late c t (run_by clocks header events) f w.1 attended slack may strict alone told,
    )

pub one_leads_run : OneLeadsRun
one_leads_run header setting events late c set p sealed attended slack may strict one left =
    let same = runs_by_own_clocks header events in
    subst (λ h. LoneLeads c late h × ((t : ℕ) → Told late setting t c h → Led c late setting t h)) same
    (one_leads (clocks_of header) header setting events late c (set_own header setting set) (possible_own header events p) sealed
    (subst (λ h. Attended late h) (sym same) attended) slack may strict one (subst (λ h. LeftAlone c h) (sym same) left))
