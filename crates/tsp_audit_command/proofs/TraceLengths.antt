-- No line of a trace has more than 1,024 octets.
use Rattle.std.proofs.Common.{ℕ, ◌^◌, ◌<◌, ◌≤◌, List, ◌++◌, Bool, true, false, length, arith, length-append, subst, suc, sym, ℤ, pos, negsuc, decimal, codes}
use Rattle.std.specs.{Fmt.signed_decimal, Int.w64, Int.RustNames.FitsSigned}
use Rattle.tsp_base.specs.{Words.alarm_word, declared.act.Act.Act, declared.alarm.Alarm.Alarm, declared.alarm.Alarm.TheVariants.Quiet}
use Rattle.tsp_base.specs.declared.act.Act.TheVariants.{Took, Post, Become, Back, Backer, Quit, Arm, Ring, Late, Join, Leave, Rival, Acked, Gave, Sample, Close}
use Rattle.tsp_base.specs.declared.act.Act.TheVariants.{Correct, Trace}
use Rattle.tsp_base.specs.declared.datagram.{DecodeFault.DecodeFault, Taken.Taken, Taken.TheVariants.Good, Taken.TheVariants.Bad}
use Rattle.tsp_base.specs.declared.datagram.DecodeFault.TheVariants.{Short}
use Rattle.tsp_base.specs.declared.{place.PeerId.PeerId, role.Role.Role, trace.Line2.Line2}
use Rattle.tsp_base.specs.declared.role.Role.TheVariants.{Follow}
use Rattle.tsp_schedule.proofs.LongLines.{place_length}
use Rattle.tsp_script.{proofs.Lengths.number_length, proofs.MessageLengths.length_message_text, specs.Texts.space, specs.Texts.message_text}
use Rattle.tsp_script.specs.ActLines.{IsAct, IsLine2, IsNumberOf, IsRole, IsTaken, SpellsTrace}
use Rattle.tsp_script.specs.Traces.{act_text, fault_word, place_text, role_text, taken_text, trace_text, way_word}

alarm_length : (a : Alarm) → length (alarm_word a) ≤ 7
alarm_length Quiet = omega arith
alarm_length _ = omega arith

fault_length : (f : DecodeFault) → length (fault_word f) ≤ 13
fault_length Short = omega arith
fault_length _ = omega arith

way_length : (stepped : Bool) → length (way_word stepped) ≤ 6
way_length true = omega arith
way_length false = omega arith

peer_length : (p : PeerId) → p.0 < 2 ^ 32 → length (decimal p.0) ≤ 20
peer_length p h = number_length p.0 (omega (arith, h))

role_length : (r : Role) → IsRole r → length (role_text r) ≤ 27
role_length (Follow p) h = omega (arith, length-append (codes "follow ") (decimal p.0), peer_length p h)
role_length _ h = omega arith

taken_length : (t : Taken) → IsTaken t → length (taken_text t) ≤ 818
taken_length (Good d) h = length_message_text d h
taken_length (Bad f) h = omega (arith, length-append (codes "refused ") (fault_word f), fault_length f)

signed_length : (z : ℤ) → FitsSigned w64 z → length (signed_decimal z) ≤ 21
signed_length (pos n) h = omega (arith, number_length n (omega (arith, h.sfits)))
signed_length (negsuc n) h = omega (arith, number_length (suc n) (omega (arith, h.sfits)))

sample_length : (p : PeerId) (counter : ℕ) (diff err : ℤ) (ticket : ℕ) → p.0 < 2 ^ 32 → counter < 2 ^ 64 → FitsSigned w64 diff → FitsSigned w64 err →
    ticket < 2 ^ 16 → length (act_text 0 (Sample p counter diff err ticket)) ≤ 865
sample_length p counter diff err ticket hp hc hd he ht = omega (
  arith,
  length-append ((((((((codes "sample " ++ decimal p.0) ++ space) ++ decimal counter) ++ space) ++ signed_decimal diff) ++ space) ++ signed_decimal err) ++
      space) (decimal ticket),
  length-append (((((((codes "sample " ++ decimal p.0) ++ space) ++ decimal counter) ++ space) ++ signed_decimal diff) ++ space) ++ signed_decimal err) space,
  length-append ((((((codes "sample " ++ decimal p.0) ++ space) ++ decimal counter) ++ space) ++ signed_decimal diff) ++ space) (signed_decimal err),
  length-append (((((codes "sample " ++ decimal p.0) ++ space) ++ decimal counter) ++ space) ++ signed_decimal diff) space,
  length-append ((((codes "sample " ++ decimal p.0) ++ space) ++ decimal counter) ++ space) (signed_decimal diff),
  length-append (((codes "sample " ++ decimal p.0) ++ space) ++ decimal counter) space,
  length-append ((codes "sample " ++ decimal p.0) ++ space) (decimal counter),
  length-append (codes "sample " ++ decimal p.0) space,
  length-append (codes "sample ") (decimal p.0),
  peer_length p hp,
  number_length counter hc,
  signed_length diff hd,
  signed_length err he,
  number_length ticket (omega (arith, ht)),
)

close_length : (count : ℕ) (lo width mean : ℤ) → count < 2 ^ 32 → FitsSigned w64 lo → FitsSigned w64 width → FitsSigned w64 mean →
    length (act_text 0 (Close count lo width mean)) ≤ 865
close_length count lo width mean hc hl hw hm = omega (
  arith,
  length-append ((((((codes "close " ++ decimal count) ++ space) ++ signed_decimal lo) ++ space) ++ signed_decimal width) ++ space) (signed_decimal mean),
  length-append (((((codes "close " ++ decimal count) ++ space) ++ signed_decimal lo) ++ space) ++ signed_decimal width) space,
  length-append ((((codes "close " ++ decimal count) ++ space) ++ signed_decimal lo) ++ space) (signed_decimal width),
  length-append (((codes "close " ++ decimal count) ++ space) ++ signed_decimal lo) space,
  length-append ((codes "close " ++ decimal count) ++ space) (signed_decimal lo),
  length-append (codes "close " ++ decimal count) space,
  length-append (codes "close ") (decimal count),
  number_length count (omega (arith, hc)),
  signed_length lo hl,
  signed_length width hw,
  signed_length mean hm,
)

correct_length : (amount : ℤ) (stepped : Bool) (shown : ℤ) → FitsSigned w64 amount → FitsSigned w64 shown →
    length (act_text 0 (Correct amount stepped shown)) ≤ 865
correct_length amount stepped shown ha hs = omega (
  arith,
  length-append ((codes "correct " ++ signed_decimal amount) ++ way_word stepped) (signed_decimal shown),
  length-append (codes "correct " ++ signed_decimal amount) (way_word stepped),
  length-append (codes "correct ") (signed_decimal amount),
  signed_length amount ha,
  way_length stepped,
  signed_length shown hs,
)

act_length : (number : ℕ) (a : Act) → IsAct a → IsNumberOf a number → length (act_text number a) ≤ 865
act_length number (Took from taken) h n = omega (
  arith,
  length-append ((codes "took " ++ place_text from) ++ space) (taken_text taken),
  length-append (codes "took " ++ place_text from) space,
  length-append (codes "took ") (place_text from),
  place_length from h.0,
  taken_length taken h.1,
)
act_length number (Post to d) h n = omega (
  arith,
  length-append ((((codes "post " ++ decimal number) ++ space) ++ place_text to) ++ space) (message_text d),
  length-append (((codes "post " ++ decimal number) ++ space) ++ place_text to) space,
  length-append ((codes "post " ++ decimal number) ++ space) (place_text to),
  length-append (codes "post " ++ decimal number) space,
  length-append (codes "post ") (decimal number),
  number_length number n,
  place_length to h.0,
  length_message_text d h.1,
)
act_length number (Become role) h n = omega (arith, length-append (codes "become ") (role_text role), role_length role h)
act_length number (Back p) h n = omega (arith, length-append (codes "back ") (decimal p.0), peer_length p h)
act_length number (Backer p) h n = omega (arith, length-append (codes "backer ") (decimal p.0), peer_length p h)
act_length number (Quit p) h n = omega (arith, length-append (codes "quit ") (decimal p.0), peer_length p h)
act_length number (Arm alarm at) h n = omega (
  arith,
  length-append ((codes "arm " ++ alarm_word alarm) ++ space) (decimal at),
  length-append (codes "arm " ++ alarm_word alarm) space,
  length-append (codes "arm ") (alarm_word alarm),
  alarm_length alarm,
  number_length at h,
)
act_length number (Ring alarm) h n = omega (arith, length-append (codes "ring ") (alarm_word alarm), alarm_length alarm)
act_length number (Late alarm) h n = omega (arith, length-append (codes "late ") (alarm_word alarm), alarm_length alarm)
act_length number (Join p) h n = omega (arith, length-append (codes "join ") (decimal p.0), peer_length p h)
act_length number (Leave p) h n = omega (arith, length-append (codes "leave ") (decimal p.0), peer_length p h)
act_length number (Rival p) h n = omega (arith, length-append (codes "rival ") (decimal p.0), peer_length p h)
act_length number (Acked p) h n = omega (arith, length-append (codes "acked ") (decimal p.0), peer_length p h)
act_length number (Gave p) h n = omega (arith, length-append (codes "gave ") (decimal p.0), peer_length p h)
act_length number (Sample p counter diff err ticket) h n = sample_length p counter diff err ticket h.0 h.1 h.2 h.3 h.4
act_length number (Close count lo width mean) h n = close_length count lo width mean h.0 h.1 h.2 h.3
act_length number (Correct amount stepped shown) h n = correct_length amount stepped shown h.0 h.1
act_length number (Trace true) h n = omega arith
act_length number (Trace false) h n = omega arith
act_length number _ h n = omega arith

trace_length : (l : Line2) → IsLine2 l → length (trace_text l.event l.node l.tick l.number l.placed) ≤ 1024
trace_length l h = omega (
  arith,
  length-append (((((((decimal l.event ++ space) ++ decimal l.node) ++ space) ++ decimal l.placed.port.0) ++ space) ++ decimal l.tick) ++
      space) (act_text l.number l.placed.act),
  length-append ((((((decimal l.event ++ space) ++ decimal l.node) ++ space) ++ decimal l.placed.port.0) ++ space) ++ decimal l.tick) space,
  length-append (((((decimal l.event ++ space) ++ decimal l.node) ++ space) ++ decimal l.placed.port.0) ++ space) (decimal l.tick),
  length-append ((((decimal l.event ++ space) ++ decimal l.node) ++ space) ++ decimal l.placed.port.0) space,
  length-append (((decimal l.event ++ space) ++ decimal l.node) ++ space) (decimal l.placed.port.0),
  length-append ((decimal l.event ++ space) ++ decimal l.node) space,
  length-append (decimal l.event ++ space) (decimal l.node),
  length-append (decimal l.event) space,
  number_length l.event h.event,
  number_length l.node (omega (arith, h.node)),
  number_length l.placed.port.0 (omega (arith, h.port)),
  number_length l.tick h.tick,
  act_length l.number l.placed.act h.act h.number,
)

-- a longer line is no trace's
pub SpellsTrace_long : (line : List ℕ) → 1024 < length line → (l : Line2) → SpellsTrace line l → ⊥
SpellsTrace_long line long l s = let short : length line ≤ 1024 = subst (λ t. length t ≤ 1024) (sym s.1) (trace_length l s.0) in omega (arith, long, short)
