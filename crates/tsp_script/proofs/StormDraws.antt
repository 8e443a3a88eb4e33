-- What a generator draws.
use Rattle.std.proofs.Common.{◌≡◌, ℕ, ◌+◌, ◌<◌, ◌≤◌, ◌∙◌, arith}
use Rattle.tsp_script.specs.Storms.{StormValue, moved, drawn, boots_next, turns_one, asks_one, as_event, asks_or_turns, chosen, storm_draw}

-- the three ways to go on
pub chosen_turn : (c at posted : ℕ) (v : StormValue) → c < 4 → as_event (turns_one at v) ≡ chosen c at posted v
chosen_turn c at posted v low = grind arith

pub chosen_ask : (c at posted : ℕ) (v : StormValue) → 4 ≤ c → c < 7 → asks_or_turns at posted v ≡ chosen c at posted v
chosen_ask c at posted v low high = grind arith

pub chosen_request : (c at posted : ℕ) (v : StormValue) → 7 ≤ c → as_event (asks_one at v) ≡ chosen c at posted v
chosen_request c at posted v low = grind arith

draw_chosen : (posted : ℕ) (v : StormValue) → v.nodes ≤ v.given → chosen (drawn 8 (moved (moved v))) (v.at + drawn 20001 (moved v)) posted (moved (moved v)) ≡
    storm_draw posted v
draw_chosen posted v booted = grind arith

-- a boot, while a node hasn't booted
pub draw_boot : (posted : ℕ) (v : StormValue) → v.given < v.nodes → as_event (boots_next v) ≡ storm_draw posted v
draw_boot posted v more = grind arith

-- what was drawn once all nodes have booted
pub drawn_chosen : (posted at step c : ℕ) (v one two : StormValue) → v.nodes ≤ v.given → one ≡ moved v → two ≡ moved one → at ≡ v.at + step → step ≡
    drawn 20001 (moved v) → c ≡ drawn 8 (moved one) → chosen c at posted two ≡ storm_draw posted v
drawn_chosen posted at step c v one two booted first second time amount number =
    let same : chosen c at posted two ≡ chosen (drawn 8 (moved (moved v))) (v.at + drawn 20001 (moved v)) posted (moved (moved v)) = cc in
    same ∙ draw_chosen posted v booted
