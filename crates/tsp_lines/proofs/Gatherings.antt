-- What reads add to the octets that were gathered.
use Rattle.std.proofs.Common.{◌≡◌, ℕ, ◌<◌, ◌≤◌, ◌+◌, refl, None, Some, Err, inl, inr, List, [], ◌++◌, sym, ap, ◌∙◌, append-nil, subst, length, length-append}
use Rattle.std.proofs.Common.{arith, Bool, false}
use Rattle.std.specs.declared.option.Option.{Option}
use Rattle.tsp_io.specs.{Streams.Gives, Streams.IsEndWhere, Streams.ReadsSome, declared.source.Got.TheVariants.Got as Gave}
use Rattle.tsp_lines.specs.{Gatherings.Adds, Gatherings.Gathers, Gatherings.ReadsWhole, Lines.IsOver, declared.gather.Ungathered.Ungathered}
use Rattle.tsp_lines.specs.declared.gather.Added.TheVariants.{More, End, Fault}
use Rattle.tsp_lines.specs.declared.gather.Ungathered.TheVariants.{ReadFault, OutOfMemory}
use Rattle.tsp_lines.proofs.Outputs.{Gives_trans}

-- a read of no octets meets the input's end
over_behind : (left rest : Option (List ℕ)) → Gives left rest [] → IsEndWhere left 0 → IsOver rest
over_behind left None g h = tt
over_behind None (Some x) g h = absurd (cc)
over_behind (Some xs) (Some x) g h = let same : xs ≡ x = cc in sym same ∙ h.0 refl

pub Adds_end : (most : ℕ) (left rest : Option (List ℕ)) (was ended : Bool) (count : ℕ) (buf octets : List ℕ) → ReadsSome left rest was ended (Gave count) buf →
    count ≡ 0 → Adds most left rest ended octets octets End
Adds_end most left rest was ended count buf octets r e = let q = rw e at r in (q.3, over_behind left rest q.1 q.2, q.1, refl)

-- the input's end was met
pub Gathers_end : (limit most : ℕ) (input left rest : Option (List ℕ)) (ended : Bool) (octets now : List ℕ) → Gives input left octets → length octets ≤ limit →
    Adds most left rest ended octets now End → Gathers limit input rest ended now
Gathers_end limit most input left rest ended octets now g h a =
    let e : length now ≡ length octets = ap length a.3 in
    (subst (Gives input rest) (append-nil octets ∙ sym a.3) (Gives_trans input left rest octets [] g a.2), inl (omega (arith, h, e), a.1, a.0))

-- an octet past the limit was read
pub Gathers_past : (limit : ℕ) (input left : Option (List ℕ)) (ended : Bool) (octets : List ℕ) → Gives input left octets → length octets ≤ limit + 1 →
    limit < length octets → ended ≡ false → Gathers limit input left ended octets
Gathers_past limit input left ended octets g most past e = (g, inr (omega (arith, most, past), e))

-- more was read
pub Gives_more : (most : ℕ) (input left rest : Option (List ℕ)) (ended : Bool) (octets now : List ℕ) → Gives input left octets →
    Adds most left rest ended octets now More → Gives input rest now
Gives_more most input left rest ended octets now g a = subst (Gives input rest) (sym a.1.4) (Gives_trans input left rest octets a.1.0 g a.1.1)

-- how much more
pub more_added : (most : ℕ) (left rest : Option (List ℕ)) (ended : Bool) (octets now : List ℕ) → Adds most left rest ended octets now More →
    (length octets < length now) × (length now ≤ length octets + most)
more_added most left rest ended octets now a =
    let e : length now ≡ length (octets ++ a.1.0) = ap length a.1.4 in
    (omega (arith, e, length-append octets a.1.0, a.1.2), omega (arith, e, length-append octets a.1.0, a.1.3))

-- the read failed, or out of memory
pub ReadsWhole_fault : (limit most : ℕ) (input left rest : Option (List ℕ)) (ended : Bool) (octets now : List ℕ) (fault : Ungathered) →
    Gives input left octets → length octets ≤ limit → Adds most left rest ended octets now (Fault fault)
    → ReadsWhole limit input rest ended (Err fault)
ReadsWhole_fault limit most input left rest ended octets now ReadFault g h a = ((octets, subst (λ r. Gives input r octets) (sym a.1) g, h), a.0)
ReadsWhole_fault limit most input left rest ended octets now OutOfMemory g h a = tt
