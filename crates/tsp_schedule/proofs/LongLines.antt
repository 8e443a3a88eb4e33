-- No line of a schedule has more than 1,024 octets.
use Rattle.std.proofs.Common.{sym, ap, ◌∙◌, inl, inr, arith, length-append, append_assoc, take-append-drop, subst, ◌≡◌, ℕ, ◌*◌, ◌^◌, ◌<◌, ◌≤◌, if◌then◌else◌}
use Rattle.std.proofs.Common.{List, [], ◌∷◌, ◌++◌, length, take, drop, decimal, codes, Bool, true, false, ◌==◌, ◌&&◌, not, refl}
use Rattle.std.specs.{List.All}
use Rattle.std.proofs.lemmas.{Fmt.length-decimal-le, List.Elements.All-head, List.Elements.All-tail}
use Rattle.tsp_base.specs.declared.event.Event.TheVariants.{Boot as BootAt, Turn, Take, Bytes}
use Rattle.tsp_base.specs.declared.place.{Place.TheVariants.Peer, Place.TheVariants.Stranger, Port.Port}
use Rattle.tsp_base.specs.{Words.HeaderValue, declared.event.Event.Event, declared.header.NodeLine.NodeLine, declared.place.Place.Place}
use Rattle.tsp_script.specs.{Traces.place_text, declared.event_line.EventItem.EventItem, declared.head_line.HeadItem.HeadItem}
use Rattle.tsp_script.specs.declared.event_line.EventItem.TheVariants.{Event as EventOf, End}
use Rattle.tsp_script.specs.declared.head_line.HeadItem.TheVariants.{Drift, Strict, Node, Net, NotHead}
use Rattle.tsp_script.specs.Schedules.{event_text, port_text, node_text, numbers_text, net_text, flag_text, IsPlace, IsEvent, IsHexOf, IsNodeLine, IsNetLine}
use Rattle.tsp_script.specs.Schedules.{IsNotHead, SpellsEvent, SpellsHead}
use Rattle.tsp_script.proofs.{EventLines.short_hex, Lengths.number_length, Lengths.signed_length}
use Rattle.tsp_schedule.specs.Schedules.{Progress, Titled, Drifted, Heading, Running, Ended, next_place, Refuses, IsComplete}
use Rattle.tsp_schedule.specs.declared.stage.Stage.TheVariants.{Titled as AtTitled, Drifted as AtDrifted, Heading as AtHeading}
use Rattle.tsp_schedule.specs.{Refusing.Refusing, Stages.StageStands, Stages.RunStands, declared.run.Run.Run}

-- a place has at most 20 octets
pub place_length : (p : Place) → IsPlace p → length (place_text p) ≤ 20
place_length (Peer p) h = number_length p.0 (omega (arith, h))
place_length Stranger h = omega arith

flag_length : (may : Bool) → length (flag_text may) ≤ 1
flag_length true = omega arith
flag_length false = omega arith

port_length_by : (port : Port) (b : Bool) → port.0 < 2 ^ 8 → length (if b then [] else 47 ∷ decimal port.0) ≤ 21
port_length_by port true h = omega arith
port_length_by port false h = omega (arith, number_length port.0 (omega (arith, h)))

port_length : (port : Port) → port.0 < 2 ^ 8 → length (port_text port) ≤ 21
port_length port h = port_length_by port (port.0 == 0) h

event_length : (e : Event) (hex : List ℕ) → IsEvent e → IsHexOf hex e → length (event_text e hex) ≤ 1024
event_length (BootAt at node word) hex i h =
    simp length-append (omega (arith, number_length at (omega (arith, i.0)), number_length node (omega (arith, i.1)), number_length word i.2))
event_length (Turn at node) hex i h = simp length-append (omega (arith, number_length at (omega (arith, i.0)), number_length node (omega (arith, i.1))))
event_length (Take at datagram) hex i h = simp length-append (omega (arith, number_length at (omega (arith, i.0)), number_length datagram i.1))
event_length (Bytes at node port from octets) hex i h = simp length-append (omega (
  arith,
  number_length at (omega (arith, i.0)),
  number_length node (omega (arith, i.1)),
  port_length port i.2,
  place_length from i.3,
  short_hex hex octets h i.5,
))

node_length : (n : NodeLine) → IsNodeLine n → length (node_text n) ≤ 1024
node_length n i = simp length-append (omega (
  arith,
  signed_length n.rate (omega (arith, i.rate)),
  signed_length n.wall (omega (arith, i.wall)),
  flag_length n.may,
  i.host.name.short,
))

-- a long line is no event's and not the last
pub SpellsEvent_long : (line : List ℕ) → 1024 < length line → (item : EventItem) → SpellsEvent line item → ⊥
SpellsEvent_long line l (EventOf e) s = let b : length line ≤ 1024 = rw s.1.2 (event_length e s.1.0 s.0 s.1.1) in omega (arith, l, b)
SpellsEvent_long line l End s = let b : length line ≡ length (codes "end") = ap length s in omega (arith, l, b)

numbers_length : (ns : List ℕ) → All (λ n. n < 2 ^ 32) ns → length (numbers_text ns) ≤ 11 * length ns
numbers_length [] h = omega arith
numbers_length (n ∷ ns) h =
    let b : n < 2 ^ 32 = All-head (λ m. m < 2 ^ 32) n ns h in
    omega (
      arith,
      length-append (32 ∷ decimal n) (numbers_text ns),
      length-decimal-le 10 n (omega arith) (omega (arith, b)) (omega (arith, b)),
      numbers_length ns (All-tail (λ m. m < 2 ^ 32) n ns h),
    )

net_length : (members : List ℕ) → IsNetLine members → length (net_text members) ≤ 1024
net_length members i = omega (arith, length-append (codes "net") (numbers_text members), numbers_length members i.small, i.few)

-- a long line isn't a schedule's second one
pub SpellsHead_second : (line : List ℕ) → 1024 < length line → (item : HeadItem) → SpellsHead 2 line item → ⊥
SpellsHead_second line l (Drift p) s = let b : length line ≡ length (codes "drift " ++ decimal p) = ap length s.2 in
    omega (arith, l, b, length-append (codes "drift ") (decimal p), number_length p (omega (arith, s.1)))
SpellsHead_second line l _ s = omega (arith, s.0)

-- a long line from the third on is no line of the header, if it isn't behind it
SpellsHead_long : (place : ℕ) (line : List ℕ) → 3 ≤ place → 1024 < length line → (IsNotHead place line → ⊥) → (item : HeadItem) → SpellsHead place line item → ⊥
SpellsHead_long place line h l n Strict s = let b : length line ≡ length (codes "strict") = ap length s.1 in omega (arith, l, b)
SpellsHead_long place line h l n (Node m) s = let b : length line ≤ 1024 = rw s.2 (node_length m s.1) in omega (arith, l, b)
SpellsHead_long place line h l n (Net m) s = let b : length line ≤ 1024 = rw s.2 (net_length m s.1) in omega (arith, l, b)
SpellsHead_long place line h l n NotHead s = n s.1
SpellsHead_long place line h l n _ s = omega (arith, h, s.0)

next_place_by : (b : Bool) → 3 ≤ (if b then 3 else 4)
next_place_by true = omega arith
next_place_by false = omega arith

pub next_place_low : (header : HeaderValue) → 3 ≤ next_place header
next_place_low header = next_place_by (length header.nodes == 0 && not header.strict)

-- what a line's first octets begin with, the line begins with
starts : (front line start rest : List ℕ) → start ≡ take 8 line → start ≡ front ++ rest → line ≡ front ++ (rest ++ drop 8 line)
starts front line start rest s e = sym (take-append-drop 8 line) ∙ ap (λ l. l ++ drop 8 line) (sym s ∙ e) ∙ append_assoc front rest (drop 8 line)

-- a long line that begins otherwise is behind the header
pub not_head : (header : HeaderValue) (line start : List ℕ) → 1024 < length line → start ≡ take 8 line
    → ((rest : List ℕ) → start ≡ codes "node " ++ rest → ⊥) → ((rest : List ℕ) → start ≡ codes "net " ++ rest → ⊥) → SpellsHead (next_place header) line NotHead
not_head header line start l s a b = (
  next_place_low header,
  record {
    no_node = λ rest e. a (take 3 rest) (s ∙ ap (λ l. take 8 l) e);
    no_net = λ rest e. b (take 4 rest) (s ∙ ap (λ l. take 8 l) e);
    not_strict = λ p e. let z : length line ≡ length (codes "strict") = ap length e in omega (arith, l, z);
  },
)

module _ {C : Type 0} (refused : Refusing) (stands : HeaderValue → List Event → C → Type 0) where
  -- where a node is expected, a long line that begins as a node's or a network's is the header's
  pub Refuses_node : (header : HeaderValue) (line start : List ℕ) → 1024 < length line → start ≡ take 8 line → (rest : List ℕ) ×
      (start ≡ codes "node " ++ rest) → Refuses refused (Heading header) line (codes "header")
  Refuses_node header line start l s r = inl (
    inl (SpellsHead_long (next_place header) line (next_place_low header) l (λ n. n.no_node (r.0 ++
        drop 8 line) (starts (codes "node ") line start r.0 s r.1))),
    refl,
  )

  pub Refuses_net : (header : HeaderValue) (line start : List ℕ) → 1024 < length line → start ≡ take 8 line → (rest : List ℕ) × (start ≡ codes "net " ++ rest) →
      Refuses refused (Heading header) line (codes "header")
  Refuses_net header line start l s r = inl (
    inl (SpellsHead_long (next_place header) line (next_place_low header) l (λ n. n.no_net (r.0 ++
        drop 8 line) (starts (codes "net ") line start r.0 s r.1))),
    refl,
  )

  pub Refuses_none : (header : HeaderValue) (line : List ℕ) → SpellsHead (next_place header) line NotHead → ¬ IsComplete header →
      Refuses refused (Heading header) line (codes "header")
  Refuses_none header line s e = inl (inr (inr (inr (inl (s, e)))), refl)

  pub Refuses_other : (header : HeaderValue) (line : List ℕ) → 1024 < length line → SpellsHead (next_place header) line NotHead → IsComplete header →
      Refuses refused (Heading header) line (codes "line")
  Refuses_other header line l s h = inr (s, h, inl (SpellsEvent_long line l, refl))

  -- at a stage a long line is refused as where that stage stands
  pub Refuses_titled : (p : Progress) (version : ℕ) (line : List ℕ) → StageStands stands p (AtTitled version) → 1024 < length line →
      Refuses refused p line (codes "header")
  Refuses_titled (Titled read) version line s l = (SpellsHead_second line l, refl)
  Refuses_titled _ version line s l = absurd s

  pub Refuses_drifted : (p : Progress) (held : HeaderValue) (line : List ℕ) → StageStands stands p (AtDrifted held) → 1024 < length line →
      Refuses refused p line (codes "header")
  Refuses_drifted (Drifted drift) held line s l = ((λ k. let z : length line ≡ length (codes "strict") = ap length k.1 in omega (arith, l, z)), refl)
  Refuses_drifted _ held line s l = absurd s

  pub Refuses_heading : (p : Progress) (held : HeaderValue) (line cause : List ℕ) → StageStands stands p (AtHeading held) →
      Refuses refused (Heading held) line cause → Refuses refused p line cause
  Refuses_heading (Heading header) held line cause s r = subst {A = HeaderValue} (λ h. Refuses refused (Heading h) line cause) s r
  Refuses_heading _ held line cause s r = absurd s

  pub Refuses_running : (p : Progress) (run : Run C) (line : List ℕ) → RunStands stands p run → run.over ≡ false → 1024 < length line →
      Refuses refused p line (codes "line")
  Refuses_running (Running header events) run line s o l = inl (SpellsEvent_long line l, refl)
  Refuses_running (Ended header events) run line s o l = let e = sym s.0 ∙ o in absurd (cc)
  Refuses_running _ run line s o l = absurd s
