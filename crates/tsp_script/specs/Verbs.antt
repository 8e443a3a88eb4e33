-- The words that begin an act's text, and what follows them.
use Rattle.std.specs.Prelude.{◌≡◌, ℕ, Option, None, Some, List, [], ◌∷◌, ◌++◌, Bool, true, false, decimal, codes}
use Rattle.std.specs.Fmt.{signed_decimal}
use Rattle.tsp_base.specs.{Words.alarm_word, declared.act.Act.Act, declared.place.PeerId.PeerId}
use Rattle.tsp_base.specs.declared.act.Act.TheVariants.{Boot, Took, Post, Become, Back, Backer, Quit, Arm, Ring, Late, Join, Leave, Rival, Acked, Gave, Sample}
use Rattle.tsp_base.specs.declared.act.Act.TheVariants.{Close, Correct, Abandon, Trace}
use Rattle.tsp_script.specs.{ActLines.IsSilent, Texts.message_text, Traces.role_text, Traces.place_text, Traces.taken_text, declared.verbs.Verb.Verb}
use Rattle.tsp_script.specs.declared.verbs.Verb.TheVariants.{Boot as BootWord, Took as TookWord, Post as PostWord, Become as BecomeWord, Back as BackWord}
use Rattle.tsp_script.specs.declared.verbs.Verb.TheVariants.{Backer as BackerWord, Quit as QuitWord, Arm as ArmWord, Ring as RingWord, Late as LateWord}
use Rattle.tsp_script.specs.declared.verbs.Verb.TheVariants.{Join as JoinWord, Leave as LeaveWord, Rival as RivalWord, Acked as AckedWord, Gave as GaveWord}
use Rattle.tsp_script.specs.declared.verbs.Verb.TheVariants.{Sample as SampleWord, Close as CloseWord, Correct as CorrectWord, Abandon as AbandonWord}
use Rattle.tsp_script.specs.declared.verbs.Verb.TheVariants.{Trace as TraceWord}

-- all of them
abbrev pub verbs : List Verb
verbs = BootWord ∷ TookWord ∷ PostWord ∷ BecomeWord ∷ BackWord ∷ BackerWord ∷ QuitWord ∷ ArmWord ∷ RingWord ∷ LateWord ∷ JoinWord ∷ LeaveWord ∷ RivalWord ∷
    AckedWord ∷ GaveWord ∷ SampleWord ∷ CloseWord ∷ CorrectWord ∷ AbandonWord ∷ TraceWord ∷ []

-- a word's letters
unfoldable pub verb_word : Verb → List ℕ
verb_word BootWord = codes "boot"
verb_word TookWord = codes "took"
verb_word PostWord = codes "post"
verb_word BecomeWord = codes "become"
verb_word BackWord = codes "back"
verb_word BackerWord = codes "backer"
verb_word QuitWord = codes "quit"
verb_word ArmWord = codes "arm"
verb_word RingWord = codes "ring"
verb_word LateWord = codes "late"
verb_word JoinWord = codes "join"
verb_word LeaveWord = codes "leave"
verb_word RivalWord = codes "rival"
verb_word AckedWord = codes "acked"
verb_word GaveWord = codes "gave"
verb_word SampleWord = codes "sample"
verb_word CloseWord = codes "close"
verb_word CorrectWord = codes "correct"
verb_word AbandonWord = codes "abandon"
verb_word TraceWord = codes "trace"

-- the word of an act
abbrev pub verb_of : Act → Verb
verb_of Boot = BootWord
verb_of (Took from taken) = TookWord
verb_of (Post to d) = PostWord
verb_of (Become role) = BecomeWord
verb_of (Back p) = BackWord
verb_of (Backer p) = BackerWord
verb_of (Quit p) = QuitWord
verb_of (Arm alarm at) = ArmWord
verb_of (Ring alarm) = RingWord
verb_of (Late alarm) = LateWord
verb_of (Join p) = JoinWord
verb_of (Leave p) = LeaveWord
verb_of (Rival p) = RivalWord
verb_of (Acked p) = AckedWord
verb_of (Gave p) = GaveWord
verb_of (Sample p counter diff err ticket) = SampleWord
verb_of (Close count lo width mean) = CloseWord
verb_of (Correct amount stepped shown) = CorrectWord
verb_of Abandon = AbandonWord
verb_of (Trace on) = TraceWord

-- the act with this word that names a peer and nothing else
abbrev pub act_of_peer : Verb → PeerId → Option Act
act_of_peer BackWord p = Some (Back p)
act_of_peer BackerWord p = Some (Backer p)
act_of_peer QuitWord p = Some (Quit p)
act_of_peer JoinWord p = Some (Join p)
act_of_peer LeaveWord p = Some (Leave p)
act_of_peer RivalWord p = Some (Rival p)
act_of_peer AckedWord p = Some (Acked p)
act_of_peer GaveWord p = Some (Gave p)
act_of_peer _ p = None

-- how a clock is corrected, and whether a trace is on
abbrev pub way_text : Bool → List ℕ
way_text true = codes "step"
way_text false = codes "slew"

abbrev pub switch_text : Bool → List ℕ
switch_text true = codes "on"
switch_text false = codes "off"

-- what follows an act's word and its space
abbrev pub rest_of_act : ℕ → Act → List ℕ
rest_of_act number Boot = []
rest_of_act number (Took from taken) = place_text from ++ 32 ∷ taken_text taken
rest_of_act number (Post to d) = decimal number ++ 32 ∷ (place_text to ++ 32 ∷ message_text d)
rest_of_act number (Become role) = role_text role
rest_of_act number (Back p) = decimal p.0
rest_of_act number (Backer p) = decimal p.0
rest_of_act number (Quit p) = decimal p.0
rest_of_act number (Arm alarm at) = alarm_word alarm ++ 32 ∷ decimal at
rest_of_act number (Ring alarm) = alarm_word alarm
rest_of_act number (Late alarm) = alarm_word alarm
rest_of_act number (Join p) = decimal p.0
rest_of_act number (Leave p) = decimal p.0
rest_of_act number (Rival p) = decimal p.0
rest_of_act number (Acked p) = decimal p.0
rest_of_act number (Gave p) = decimal p.0
rest_of_act number (Sample p counter diff err ticket) = decimal p.0 ++ 32 ∷ (decimal counter ++ 32 ∷
    (signed_decimal diff ++ 32 ∷ (signed_decimal err ++ 32 ∷ decimal ticket)))
rest_of_act number (Close count lo width mean) = decimal count ++ 32 ∷ (signed_decimal lo ++ 32 ∷ (signed_decimal width ++ 32 ∷ signed_decimal mean))
rest_of_act number (Correct amount stepped shown) = signed_decimal amount ++ 32 ∷ (way_text stepped ++ 32 ∷ signed_decimal shown)
rest_of_act number Abandon = []
rest_of_act number (Trace on) = switch_text on

-- an act, with this number, begins with this word, and this text follows the word and its space
abbrev pub SpellsRest : Verb → ℕ → List ℕ → Act → Type 0
SpellsRest verb number rest a = (verb ≡ verb_of a) × (rest ≡ rest_of_act number a)

-- an act that posts nothing begins with this word, this text follows the word and its space, and its parts are in their ranges
abbrev pub IsSpelled : Verb → List ℕ → Act → Type 0
IsSpelled verb rest a = SpellsRest verb 0 rest a × IsSilent a
