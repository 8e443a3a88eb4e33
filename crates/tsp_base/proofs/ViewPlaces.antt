-- Places of a node's lines and places of what its ports see.
use Rattle.std.proofs.Common.{sym, ap, subst, subst₂, inl, inr, eqb-true, eq-eqb, ◌≡◌, ◌==◌, ◌||◌, Bool, true, false, List, [], ◌∷◌, refl}
use Rattle.tsp_base.specs.Words.{Did, Line, Seen, Here, is_shared, seen_as, view, dids, Within}
use Rattle.tsp_base.{proofs.PlaceLemmas.Within_none, specs.declared.place.Port.Port}

-- a place of the node's lines is a place of what a port sees
pub Within_view : (q : Port) (s t : List Line) → Within s t → Within (view q s) (view q t)
Within_view q s [] e = ap (view q) e
Within_view q s (l ∷ t) (inl e) = inl (ap (view q) e)
Within_view q s (l ∷ t) (inr p) = inr (Within_view q s t p)

-- a place of the node's lines is a place of its deeds
pub Within_dids : (s t : List Line) → Within s t → Within (dids s) (dids t)
Within_dids s [] e = ap dids e
Within_dids s (l ∷ t) (inl e) = inl (ap dids e)
Within_dids s (l ∷ t) (inr p) = inr (Within_dids s t p)

-- a place of what a port sees is a place of the node's lines
pub record Shown (q : Port) (t : List Line) (v : Seen) (vs : List Seen) : Type 0 where
  pub line : Line
  pub rest : List Line
  pub place : Within (line ∷ rest) t
  pub is : seen_as ((line.port.0 == q.0) || is_shared line.did.deed) line.did ≡ v
  pub before : view q rest ≡ vs

pub shown : (q : Port) (t : List Line) (v : Seen) (vs : List Seen) → Within (v ∷ vs) (view q t) → Shown q t v vs
shown q [] v vs w = Within_none v vs w
shown q (l ∷ t) v vs (inl e) =
    record { line = l; rest = t; place = inl refl; is = (let a = seen_as ((l.port.0 == q.0) || is_shared l.did.deed) l.did in cc); before = (cc) }
shown q (l ∷ t) v vs (inr w) = let o = shown q t v vs w in record { line = o.line; rest = o.rest; place = inr o.place; is = o.is; before = o.before }

-- a deed that a port sees as its own and that isn't the whole node's is on that port
pub record On (q : Port) (t : List Line) (d : Did) (vs : List Seen) : Type 0 where
  pub rest : List Line
  pub place : Within (record { port = q; did = d } ∷ rest) t
  pub before : view q rest ≡ vs

pub here_is : (b : Bool) (c d : Did) → seen_as b c ≡ Here d → (b ≡ true) × (c ≡ d)
here_is true c d e = (refl, cc)
here_is false c d e = let bad : ⊥ = cc in absurd bad

pub or-false : (b c : Bool) → (b || c) ≡ true → c ≡ false → b ≡ true
or-false true c e f = refl
or-false false c e f = let bad : ⊥ = cc in absurd bad

pub port_same : (p q : Port) → (p.0 == q.0) ≡ true → p ≡ q
port_same p q e = ap (λ n. let r : Port = record { 0 = n } in r) (eqb-true p.0 q.0 e)

pub on_port : (q : Port) (t : List Line) (d : Did) (vs : List Seen) → is_shared d.deed ≡ false → Within (Here d ∷ vs) (view q t) → On q t d vs
on_port q t d vs own w =
    let s = shown q t (Here d) vs w in
    let e = here_is _ s.line.did d s.is in
    let same : s.line.port ≡ q = port_same s.line.port q (or-false (s.line.port.0 == q.0) (is_shared s.line.did.deed) e.0 (subst (λ c. is_shared c.deed ≡
    false) (sym e.1) own)) in
    record { rest = s.rest; place = subst (λ (l : Line). Within (l ∷ s.rest) t) (line_is s.line q d same e.1) s.place; before = s.before }
  where
    line_is : (l : Line) (q : Port) (d : Did) → l.port ≡ q → l.did ≡ d → l ≡ record { port = q; did = d }
    line_is l q d e f = subst₂ (λ p c. l ≡ record { port = p; did = c }) e f refl

-- a port sees its own line
pub sees_own : (q : Port) (b : Bool) → ((q.0 == q.0) || b) ≡ true
sees_own q b = let e : (q.0 == q.0) ≡ true = eq-eqb q.0 q.0 refl in rw e refl
