-- What renaming makes of the facts of a port; ticks that are later by the same number compare alike.
use Rattle.std.proofs.lemmas.Bool.{leb-true, leb-false, le-leb, lt-leb}
use Rattle.std.proofs.Common.{ap, arith, ◌∙◌, ◌≡◌, ℕ, ◌+◌, ◌-◌, suc, nat_le, nat_lt, Bool, true, false, Option, None, Some, refl}
use Rattle.tsp_base.specs.Words.{Correcting, MessageValue, sending_of, Dating, Deadlines, Held, Received, Said, is_past}
use Rattle.tsp_rules.specs.{Renames.Renaming, Renames.later_sends, Renames.renamed_place, Guards.is_over, Guards.is_met, Values.PeerId, Values.SLACK}
use Rattle.tsp_rules.specs.RoundRows.{Standing}

-- a later tick, if there is one
abbrev pub later : Renaming → Option ℕ → Option ℕ
later m None = None
later m (Some x) = Some (x + m.shift)

-- the later deadlines of all alarms
abbrev pub later_deadlines : Renaming → Deadlines → Deadlines
later_deadlines m d = record {
  quiet = later m d.quiet;
  search = later m d.search;
  elect = later m d.elect;
  window = later m d.window;
  probe = later m d.probe;
  close = later m d.close;
  resolve = later m d.resolve;
  round = later m d.round;
}

-- a backing with its peer renamed and its tick later
abbrev pub renamed_back : Renaming → Option (ℕ × PeerId) → Option (ℕ × PeerId)
renamed_back m None = None
renamed_back m (Some b) = Some (b.0 + m.shift, m.peer b.1)

-- what the hold reads, with the backed peer renamed and its ticks later
abbrev pub renamed_held : Renaming → Held → Held
renamed_held m h = record { boot = h.boot + m.shift; back = renamed_back m h.back; quit = later m h.quit }

-- what a step took, with its sender renamed
abbrev pub renamed_taken : Renaming → Option Received → Option Received
renamed_taken m None = None
renamed_taken m (Some r) = Some (record { from = renamed_place m r.from; taken = r.taken })

-- what a peer said, with the peer renamed
abbrev pub renamed_said : Renaming → Option Said → Option Said
renamed_said m None = None
renamed_said m (Some s) = Some (record { from = m.peer s.from; message = s.message })

-- an open send that began later
pub sending_later : (n : Renaming) (o : Option MessageValue) (x posts : ℕ) → sending_of o (x + n.shift) posts ≡ later_sends n (sending_of o x posts)
sending_later n None x posts = refl
sending_later n (Some msg) x posts = refl

-- a correction that was taken, with its sender renamed
abbrev pub renamed_correcting : Renaming → Option Correcting → Option Correcting
renamed_correcting m None = None
renamed_correcting m (Some c) = Some (record { from = m.peer c.from; number = c.number })

-- a date that was set later
abbrev pub later_date : Renaming → Option Dating → Option Dating
later_date m None = None
later_date m (Some d) = Some (record { at = d.at + m.shift; number = d.number })

-- a measured peer's standing, with the peer renamed
abbrev pub renamed_standing : Renaming → Standing → Standing
renamed_standing m s = record { peer = m.peer s.peer; best = s.best }

pub le_later : (a x c : ℕ) → nat_le (a + c) (x + c) ≡ nat_le a x
le_later a x c = by_case (nat_le a x) refl where
  by_case : (b : Bool) → nat_le a x ≡ b → nat_le (a + c) (x + c) ≡ b
  by_case true e = let h = leb-true a x e in le-leb (a + c) (x + c) (omega (arith, h))
  by_case false e = let h = leb-false a x e in lt-leb (a + c) (x + c) (omega (arith, h))

-- a time after a later tick
pub le_after : (a long x c : ℕ) → nat_le ((a + c) + long) (x + c) ≡ nat_le (a + long) x
le_after a long x c = let e : (a + c) + long ≡ (a + long) + c = omega arith in ap (λ n. nat_le n (x + c)) e ∙ le_later (a + long) x c

pub lt_after : (a long x c : ℕ) → nat_lt ((a + c) + long) (x + c) ≡ nat_lt (a + long) x
lt_after a long x c = let e : suc ((a + c) + long) ≡ suc (a + long) + c = omega arith in ap (λ n. nat_le n (x + c)) e ∙ le_later (suc (a + long)) x c

pub lt_until : (x a long c : ℕ) → nat_lt (x + c) ((a + c) + long) ≡ nat_lt x (a + long)
lt_until x a long c =
    let e : (a + c) + long ≡ (a + long) + c = omega arith in
    let s : suc (x + c) ≡ suc x + c = omega arith in
    ap (λ n. nat_lt (x + c) n) e ∙ ap (λ n. nat_le n ((a + long) + c)) s ∙ le_later (suc x) (a + long) c

pub same_time : (x a c : ℕ) → (x + c) - (a + c) ≡ x - a
same_time x a c = omega arith

module _ (m : Renaming) where
  -- how long ago an optional tick is
  pub past_later : (at : Option ℕ) (long x : ℕ) → is_past (later m at) long (x + m.shift) ≡ is_past at long x
  past_later None long x = refl
  past_later (Some at) long x = le_after at long x m.shift

  -- an alarm's deadline is over
  pub over_later : (at : Option ℕ) (x : ℕ) → is_over (later m at) (x + m.shift) ≡ is_over at x
  over_later None x = refl
  over_later (Some at) x = le_later at x m.shift

  -- an alarm's deadline is met
  pub met_later : (at : Option ℕ) (x : ℕ) → is_met (later m at) (x + m.shift) ≡ is_met at x
  met_later None x = refl
  met_later (Some at) x =
      let e : (at + m.shift) + SLACK ≡ (at + SLACK) + m.shift = omega arith in ap (λ n. nat_le (x + m.shift) n) e ∙ le_later x (at + SLACK) m.shift
