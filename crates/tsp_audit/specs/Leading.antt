-- Where a line asks that its port leads.
use Rattle.std.specs.Prelude.{Bool, true, false, List, [], ◌∷◌}
use Rattle.tsp_rules.specs.Values.{Post, Close, Correct, Message}
use Rattle.tsp_base.specs.Words.{Deed, Acts, Line, from_act, is_correction}

abbrev pub is_close : Deed → Bool
is_close (Acts (Close count lo size mean)) = true
is_close _ = false

abbrev pub begins_with_close : List Line → Bool
begins_with_close [] = false
begins_with_close (l ∷ before) = is_close l.did.deed

-- whether the newest act is a Close
abbrev pub closing : List Line → Bool
closing h = begins_with_close (from_act h)

-- whether a deed asks that its port leads, after a newest act that is a Close or isn't
abbrev pub must_lead : Deed → Bool → Bool
must_lead (Acts (Post to (Message m))) after_close = is_correction m.kind
must_lead (Acts (Close count lo size mean)) after_close = true
must_lead (Acts (Correct amount stepped shown)) after_close = after_close
must_lead _ after_close = false
