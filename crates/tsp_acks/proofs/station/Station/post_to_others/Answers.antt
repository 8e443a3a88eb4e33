-- All peers were gone through, and posts change nothing of the station.
use Rattle.std.proofs.Common.{◌≡◌, ◌≤◌, ap, subst, length, take, map, arith}
use Rattle.std.proofs.lemmas.List.{take_all}
use Rattle.tsp_base.{proofs.FrameLemmas.PutsAtMost_up, specs.Words.posts_to_others, specs.Words.post_of, specs.Words.others}
use Rattle.tsp_acks.proofs.{PostLemmas.is_plain_once, StandsLemmas.Stands_posts}
use Rattle.tsp_acks.proofs.station.Station.post_to_others.Goals as goal

pub returns-clause-row : goal.returns-clause-row
unfolding posts_to_others
returns-clause-row g c x =
    let st = c.args.self.now in
    let all : take c.loop-p.p-index st.peers ≡ st.peers = take_all _ _ (omega (arith, ap length c.as_slice-p-items.ensures.value)) in
    record {
      acts = λ past s.
          let e : posts_to_others c.args.kind c.args.number x past ≡ map (post_of c.args.kind c.args.number st.me.name) (others st.me.own st.peers) = cc in
          rw e (rw all at c.loop-p.invariant.acts);
      stands = λ past s.
          let e : posts_to_others c.args.kind c.args.number x past ≡ map (post_of c.args.kind c.args.number st.me.name) (others st.me.own st.peers) = cc in
          rw e (Stands_posts c.args.kind c.args.number st.me.name (others st.me.own st.peers) x past st (is_plain_once _ c.requires.plain) s);
    }

pub returns-clause-room : goal.returns-clause-room
returns-clause-room g c =
    let n = c.loop-p.p-index in
    PutsAtMost_up n (length c.args.self.now.peers) (subst (λ l. n ≤ length l) c.as_slice-p-items.ensures.value c.loop-p.auto.p-index-end)
    c.loop-p.invariant.room
