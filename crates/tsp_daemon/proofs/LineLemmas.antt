-- Lines that are written one after the other, and how far their writing came.
use Rattle.std.proofs.Common.{ap, sym, ◌∙◌, append_assoc, arith, get_or, length-append, length-drop, take-append-drop, ◌≡◌, ℕ, ◌+◌, ◌<◌, List, ◌++◌, length}
use Rattle.std.proofs.Common.{take, drop, Option}
use Rattle.std.proofs.lemmas.List.{drop_more}
use Rattle.tsp_rules.specs.Values.{Placed}
use Rattle.tsp_io.specs.Streams.{Grows}
use Rattle.tsp_lines.proofs.Outputs.{Grows_trans}
use Rattle.tsp_daemon.specs.declared.end.ServeEnd.TheVariants.{WriteFault, OutOfMemory}
use Rattle.tsp_daemon.specs.{Ends.CutsShort, Ends.TellsUntil, Posts.send_of, Posts.line_of, Posts.act_lines, declared.end.ServeEnd.ServeEnd}

-- the lines of acts from a place on are that of the act there, and those of the acts behind it
pub lines_here : (turn tick number : ℕ) (acts : List Placed) (i : ℕ) (item : Placed) → i < length acts → get_or acts i item ≡ item →
    act_lines turn tick number (drop i acts) ≡ line_of turn tick number item ++ act_lines turn tick (number + length (send_of item.act)) (drop (i + 1) acts)
lines_here turn tick number acts i item l e =
    ap (λ ps. act_lines turn tick number ps) (drop_more acts i item l) ∙ ap (λ (p : Placed). line_of turn tick number p ++
    act_lines turn tick (number + length (send_of p.act)) (drop (i + 1) acts)) e

-- some text, and a line that was cut off
cuts_on : (all done line rest : List ℕ) (a b c : Option (List ℕ)) → Grows a b done → all ≡ done ++ (line ++ rest) → CutsShort line b c → CutsShort all a c
cuts_on all done line rest a b c g e t = (
  done ++ t.0,
  t.1 ++ rest,
  (let l = length-append t.1 rest in omega (arith, l, t.2)),
  e ∙ ap (λ z. done ++ (z ++ rest)) t.3 ∙ ap (λ z. done ++ z) (append_assoc t.0 t.1 rest) ∙ sym (append_assoc done t.0 (t.1 ++ rest)),
  Grows_trans a b c done t.0 g t.4,
)

-- some text, and a line of which only a part was written
pub tells_until : (end : ServeEnd) (all done line rest : List ℕ) (a b c : Option (List ℕ)) → Grows a b done → all ≡ done ++ (line ++ rest) →
    TellsUntil line b c end → TellsUntil all a c end
tells_until WriteFault all done line rest a b c g e t = cuts_on all done line rest a b c g e t
tells_until OutOfMemory all done line rest a b c g e t = cuts_on all done line rest a b c g e t
tells_until _ all done line rest a b c g e t = absurd t

-- a line was cut off before its end
pub cut_short : (line : List ℕ) (at : ℕ) (a b : Option (List ℕ)) → at < length line → Grows a b (take at line) → CutsShort line a b
cut_short line at a b l g = (take at line, drop at line, omega (arith, length-drop at line, l), sym (take-append-drop at line), g)
