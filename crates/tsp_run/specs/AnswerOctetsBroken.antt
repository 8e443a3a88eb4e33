-- That the promise of the octets of answers says something: small histories of one node break it.
use Rattle.tsp_promises.specs.{Broken.Breaks, Setting.Setting}
use Rattle.tsp_run.specs.AnswerOctets.{AnswerOctets}

-- what breaks the promise, in one setting
pub record AnswerOctetsBreak : Type 0 where
  pub setting : Setting
  -- an ACK of 268 octets to a stranger, by a node with a short name
  pub large : Breaks (AnswerOctets setting)
  -- one of 76 octets, by a node with a long name
  pub small : Breaks (AnswerOctets setting)
  -- a stamp's reply to a stranger that sent a message
  pub crossed : Breaks (AnswerOctets setting)
  -- a reply to a stranger of which nothing was taken
  pub unasked : Breaks (AnswerOctets setting)
