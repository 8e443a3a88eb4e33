-- What single acts make of such a port.
use Rattle.std.proofs.Common.{sym, ap, true≢false, ◌∙◌, ◌≡◌, ℕ, ◌==◌, ◌&&◌, Bool, true, [], ◌∷◌}
use Rattle.std.proofs.Common.{refl}
use Rattle.std.proofs.lemmas.Bool.{not-true}
use Rattle.tsp_rules.specs.Values.{Act, Boot, Took, Post, Become, Arm, Ring, Late, Abandon, Acked, Gave, Quiet, Search, Elect, Window, ResolveAlarm, Round}
use Rattle.tsp_rules.specs.Values.{Message, PeerId, Peer, Role}
use Rattle.tsp_base.specs.Words.{Acts, Here, MessageValue, Past, acting, grown, is_numbered, open_to, role}
use Rattle.tsp_rules.specs.{Guards.is_master}
use Rattle.tsp_rules.proofs.GuardFacts.{master_is}
use Rattle.tsp_progress.specs.{Calling.is_call}
use Rattle.tsp_progress.specs.{AlarmsFit.is_candidate}
pub use Rattle.tsp_progress.proofs.RootState.{Base, In, RootEnd, RootFits, RootLeads, Rooted, Waits, any_role, asks_vote, calls_not, candidate_in}
pub use Rattle.tsp_progress.proofs.RootState.{is_plain, is_root_kind, is_vote, none_armed, off, on, sends_call, votes_not}

module _ (ok : Role → Bool) where
  -- a message is posted, some by a master alone, an ELECTION by a candidate
  pub any_post : (p : PeerId) (m : MessageValue) (x : ℕ) (past : Past) → In ok x past → (is_call m.kind ≡ true → is_master (role past.seen) ≡ true) →
      (is_vote m.kind ≡ true → is_candidate (role past.seen) ≡ true) → In ok x (grown x past (Post (Peer p) (Message m) ∷ []))
  any_post p m x past h may stands = let k = h.0 in (
    record {
      owed = (λ is. master_is (role past.seen) (may (ap is_call is)), k.owed);
      calls = (
        (λ is. master_is (role past.seen) (may is), λ is. candidate_in (role past.seen) (stands (ap is_vote is))),
        k.calls,
      );
      quiet = k.quiet;
      search = k.search;
      elect = k.elect;
      window = k.window;
      resolve = k.resolve;
      round = k.round;
      sends = λ q s. on sends_call ((p.0 == q.0) && (is_numbered m.kind && acting past.seen)) (Here (record {
        step = past.step;
        tick = x;
        deed = Acts (Post (Peer p) (Message m));
      }) ∷ past.seen) (open_to q past.seen) (is_master (role past.seen) ≡ true) may (k.sends q) s;
      asks = λ q s. on asks_vote ((p.0 == q.0) && (is_numbered m.kind && acting past.seen)) (Here (record {
        step = past.step;
        tick = x;
        deed = Acts (Post (Peer p) (Message m));
      }) ∷ past.seen) (open_to q past.seen) (is_candidate (role past.seen) ≡ true) stands (k.asks q) s;
    },
    h.1,
  )

  pub plain : (a : Act) → is_plain a ≡ true → (x : ℕ) (past : Past) → In ok x past → In ok x (grown x past (a ∷ []))
  plain Boot e x past h = none_armed e
  plain (Took from t) e x past h = none_armed e
  plain (Become r) e x past h = none_armed e
  plain (Arm Quiet at) e x past h = none_armed e
  plain (Arm Search at) e x past h = none_armed e
  plain (Arm Elect at) e x past h = none_armed e
  plain (Arm Window at) e x past h = none_armed e
  plain (Arm ResolveAlarm at) e x past h = none_armed e
  plain (Arm Round at) e x past h = none_armed e
  plain (Arm _ at) e x past h = let k = h.0 in (
    record {
      owed = (tt, k.owed);
      calls = (tt, k.calls);
      quiet = k.quiet;
      search = k.search;
      elect = k.elect;
      window = k.window;
      resolve = k.resolve;
      round = k.round;
      sends = k.sends;
      asks = k.asks;
    },
    h.1,
  )
  plain (Post (Peer p) (Message m)) e x past h = any_post p m x past h
      (λ is. absurd (true≢false (sym is ∙ calls_not m.kind (not-true (is_root_kind m.kind) e))))
      (λ is. absurd (true≢false (sym is ∙ votes_not m.kind (not-true (is_root_kind m.kind) e))))
  plain (Acked p) e x past h = let k = h.0 in (
    record {
      owed = (tt, k.owed);
      calls = (tt, k.calls);
      quiet = k.quiet;
      search = k.search;
      elect = k.elect;
      window = k.window;
      resolve = k.resolve;
      round = k.round;
      sends = λ q s. off sends_call (p.0 == q.0) (open_to q past.seen) (is_master (role past.seen) ≡ true) refl (k.sends q) s;
      asks = λ q s. off asks_vote (p.0 == q.0) (open_to q past.seen) (is_candidate (role past.seen) ≡ true) refl (k.asks q) s;
    },
    h.1,
  )
  plain (Gave p) e x past h = let k = h.0 in (
    record {
      owed = (tt, k.owed);
      calls = (tt, k.calls);
      quiet = k.quiet;
      search = k.search;
      elect = k.elect;
      window = k.window;
      resolve = k.resolve;
      round = k.round;
      sends = λ q s. off sends_call (p.0 == q.0) (open_to q past.seen) (is_master (role past.seen) ≡ true) refl (k.sends q) s;
      asks = λ q s. off asks_vote (p.0 == q.0) (open_to q past.seen) (is_candidate (role past.seen) ≡ true) refl (k.asks q) s;
    },
    h.1,
  )
  plain (Ring Quiet) e x past h = let k = h.0 in (
    record {
      owed = (tt, k.owed);
      calls = (tt, k.calls);
      quiet = λ a. none_armed a;
      search = k.search;
      elect = k.elect;
      window = k.window;
      resolve = k.resolve;
      round = k.round;
      sends = k.sends;
      asks = k.asks;
    },
    h.1,
  )
  plain (Ring Search) e x past h = let k = h.0 in (
    record {
      owed = (tt, k.owed);
      calls = (tt, k.calls);
      quiet = k.quiet;
      search = λ a. none_armed a;
      elect = k.elect;
      window = k.window;
      resolve = k.resolve;
      round = k.round;
      sends = k.sends;
      asks = k.asks;
    },
    h.1,
  )
  plain (Ring Elect) e x past h = let k = h.0 in (
    record {
      owed = (tt, k.owed);
      calls = (tt, k.calls);
      quiet = k.quiet;
      search = k.search;
      elect = λ a. none_armed a;
      window = k.window;
      resolve = k.resolve;
      round = k.round;
      sends = k.sends;
      asks = k.asks;
    },
    h.1,
  )
  plain (Ring Window) e x past h = let k = h.0 in (
    record {
      owed = (tt, k.owed);
      calls = (tt, k.calls);
      quiet = k.quiet;
      search = k.search;
      elect = k.elect;
      window = λ a. none_armed a;
      resolve = k.resolve;
      round = k.round;
      sends = k.sends;
      asks = k.asks;
    },
    h.1,
  )
  plain (Ring ResolveAlarm) e x past h = let k = h.0 in (
    record {
      owed = (tt, k.owed);
      calls = (tt, k.calls);
      quiet = k.quiet;
      search = k.search;
      elect = k.elect;
      window = k.window;
      resolve = λ a. none_armed a;
      round = k.round;
      sends = k.sends;
      asks = k.asks;
    },
    h.1,
  )
  plain (Ring Round) e x past h = let k = h.0 in (
    record {
      owed = (tt, k.owed);
      calls = (tt, k.calls);
      quiet = k.quiet;
      search = k.search;
      elect = k.elect;
      window = k.window;
      resolve = k.resolve;
      round = λ a. none_armed a;
      sends = k.sends;
      asks = k.asks;
    },
    h.1,
  )
  plain (Ring _) e x past h = let k = h.0 in (
    record {
      owed = (tt, k.owed);
      calls = (tt, k.calls);
      quiet = k.quiet;
      search = k.search;
      elect = k.elect;
      window = k.window;
      resolve = k.resolve;
      round = k.round;
      sends = k.sends;
      asks = k.asks;
    },
    h.1,
  )
  plain (Late Quiet) e x past h = let k = h.0 in (
    record {
      owed = (tt, k.owed);
      calls = (tt, k.calls);
      quiet = λ a. none_armed a;
      search = k.search;
      elect = k.elect;
      window = k.window;
      resolve = k.resolve;
      round = k.round;
      sends = k.sends;
      asks = k.asks;
    },
    h.1,
  )
  plain (Late Search) e x past h = let k = h.0 in (
    record {
      owed = (tt, k.owed);
      calls = (tt, k.calls);
      quiet = k.quiet;
      search = λ a. none_armed a;
      elect = k.elect;
      window = k.window;
      resolve = k.resolve;
      round = k.round;
      sends = k.sends;
      asks = k.asks;
    },
    h.1,
  )
  plain (Late Elect) e x past h = let k = h.0 in (
    record {
      owed = (tt, k.owed);
      calls = (tt, k.calls);
      quiet = k.quiet;
      search = k.search;
      elect = λ a. none_armed a;
      window = k.window;
      resolve = k.resolve;
      round = k.round;
      sends = k.sends;
      asks = k.asks;
    },
    h.1,
  )
  plain (Late Window) e x past h = let k = h.0 in (
    record {
      owed = (tt, k.owed);
      calls = (tt, k.calls);
      quiet = k.quiet;
      search = k.search;
      elect = k.elect;
      window = λ a. none_armed a;
      resolve = k.resolve;
      round = k.round;
      sends = k.sends;
      asks = k.asks;
    },
    h.1,
  )
  plain (Late ResolveAlarm) e x past h = let k = h.0 in (
    record {
      owed = (tt, k.owed);
      calls = (tt, k.calls);
      quiet = k.quiet;
      search = k.search;
      elect = k.elect;
      window = k.window;
      resolve = λ a. none_armed a;
      round = k.round;
      sends = k.sends;
      asks = k.asks;
    },
    h.1,
  )
  plain (Late Round) e x past h = let k = h.0 in (
    record {
      owed = (tt, k.owed);
      calls = (tt, k.calls);
      quiet = k.quiet;
      search = k.search;
      elect = k.elect;
      window = k.window;
      resolve = k.resolve;
      round = λ a. none_armed a;
      sends = k.sends;
      asks = k.asks;
    },
    h.1,
  )
  plain (Late _) e x past h = let k = h.0 in (
    record {
      owed = (tt, k.owed);
      calls = (tt, k.calls);
      quiet = k.quiet;
      search = k.search;
      elect = k.elect;
      window = k.window;
      resolve = k.resolve;
      round = k.round;
      sends = k.sends;
      asks = k.asks;
    },
    h.1,
  )
  plain Abandon e x past h = let k = h.0 in (
    record {
      owed = (tt, k.owed);
      calls = (tt, k.calls);
      quiet = k.quiet;
      search = k.search;
      elect = k.elect;
      window = k.window;
      resolve = k.resolve;
      round = k.round;
      sends = k.sends;
      asks = k.asks;
    },
    h.1,
  )
  plain _ e x past h = let k = h.0 in (
    record {
      owed = (tt, k.owed);
      calls = (tt, k.calls);
      quiet = k.quiet;
      search = k.search;
      elect = k.elect;
      window = k.window;
      resolve = k.resolve;
      round = k.round;
      sends = k.sends;
      asks = k.asks;
    },
    h.1,
  )
