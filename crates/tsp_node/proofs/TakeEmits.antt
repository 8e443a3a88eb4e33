-- Which sorts of acts put what a port does with what it takes, and its alarms.
use Rattle.std.proofs.Common.{sym, ap, subst, ◌∙◌, ◌≡◌, ℕ, Bool, true, List, [], ◌∷◌, refl}
use Rattle.tsp_rules.specs.Values.{Alarm, CloseAlarm, Taken, Kind, Ack, MasterReq, ResolveKind, SlaveUp, Election, MasterAck, PeerId, Place}
use Rattle.tsp_rules.specs.Answers.{from_peer, handles_kind, peer_replies, peer_says, rings, takes}
use Rattle.tsp_rules.{specs.CommonRows.replies, specs.Renames.Naming, proofs.RowCodes.ANumber, proofs.RowCodes.Owed, proofs.RowCodes.Posts}
use Rattle.tsp_rules.proofs.Emits.{Sort, Acking, Alarming, Asking, Backing, Changing, Closing, Correcting, Counting, Following, Giving, Leading, Moving}
use Rattle.tsp_rules.proofs.Emits.{Numbering, Passing, Posting, Rivalling, Rounding, Sampling, Tabling, Taking, Tracing, Emits, is_part}
use Rattle.tsp_rules.proofs.{Unchanged.comes_unchanged, Unchanged.place_unchanged, BuiltRoles.built_joins, BuiltRoles.built_sends_away}
use Rattle.tsp_rules.proofs.Built.{Built, At, Empty, More, Wider}
use Rattle.tsp_rules.proofs.BuiltAnswers.{built_from_peer, built_handles_kind, built_peer_replies, built_peer_says, built_rings, built_takes, handled_sorts}
use Rattle.tsp_rules.proofs.BuiltAnswers.{ring_sorts, says_sorts, date_sorts}
use Rattle.tsp_rules.proofs.{BuiltShared.built_replies, BuiltShared.client_sorts, EmitsBuilt.emits_built, EmitsBuilt.nothing_taken}
use Rattle.tsp_base.specs.Words.{MessageValue, ReplyValue}
use Rattle.tsp_master.specs.MasterTakes.{master_takes_here, master_takes_kind_here}
use Rattle.tsp_node.specs.declared.audience.Audience.TheVariants.{OfClients, OfDates}
use Rattle.tsp_node.specs.{Audiences.audience_of, declared.audience.Audience.Audience}

-- acts of a port that doesn't lead, but for what ends its sends
abbrev pub role_sorts : List Sort
role_sorts = Numbering ∷ Moving ∷ Posting ∷ Following ∷ Changing ∷ Backing ∷ Alarming ∷ []

-- all sorts but Boot, Took and Trace
abbrev pub silent_trace : List Sort
silent_trace = Asking ∷ Correcting ∷ Passing ∷ Numbering ∷ Posting ∷ Leading ∷ Following ∷ Changing ∷ Backing ∷ Counting ∷ Rounding ∷ Alarming ∷ Tabling ∷
    Rivalling ∷ Acking ∷ Giving ∷ Sampling ∷ Closing ∷ Moving ∷ []

-- all sorts but Boot
abbrev pub bootless : List Sort
bootless = Taking ∷ Tracing ∷ silent_trace

ring_part : (alarm : Alarm) → is_part (ring_sorts alarm) silent_trace ≡ true
ring_part CloseAlarm = refl
ring_part _ = refl

-- an alarm, whether it is due or not
pub emits_rings : (own wait : Bool) (alarm : Alarm) → Emits silent_trace (rings own wait alarm)
emits_rings own wait alarm = emits_built (ring_part alarm) (built_rings own wait alarm)

-- a master's own messages
abbrev pub own_sorts : List Sort
own_sorts = Posting ∷ Tabling ∷ Correcting ∷ Numbering ∷ []

module _ {m : Naming} {o : Owed} where
  built_here : (p : PeerId) (msg : MessageValue) (k : Kind) → m.known p → o.of (ANumber msg.number) →
      Built m o own_sorts 0 2 (master_takes_kind_here p msg k) (master_takes_kind_here (m.names.peer p) msg k)
  unfolding master_takes_kind_here
  built_here p msg MasterReq known is = More (At (Posts p MasterAck msg.number known is refl) refl) refl
  built_here p msg ResolveKind known is = More (At (Posts p MasterAck msg.number known is refl) refl) refl
  built_here p msg SlaveUp known is = Wider refl (built_joins p msg.number known is)
  built_here p msg Election known is = More (Wider refl (built_sends_away p known)) refl
  built_here p msg _ known is = Empty

  pub built_master_takes_here : (p : PeerId) (msg : MessageValue) → m.known p → o.of (ANumber msg.number) →
      Built m o own_sorts 0 2 (master_takes_here p msg) (master_takes_here (m.names.peer p) msg)
  unfolding master_takes_here
  built_master_takes_here p msg known is = built_here p msg msg.kind known is

-- what a peer says to the role
pub emits_says : (from : Place) (m : MessageValue) → Emits silent_trace (from_peer from (peer_says m))
emits_says from m = emits_built refl (built_from_peer from _ _ (place_unchanged from) (λ p known. built_peer_says m p known tt))

-- a stamp reply
pub emits_replies_in : (from : Place) (r : ReplyValue) → Emits (Sampling ∷ []) (from_peer from (peer_replies r))
emits_replies_in from r = emits_built refl (built_from_peer from _ _ (place_unchanged from) (λ p known. built_peer_replies r p known tt))

-- the answer to a stamp request
pub emits_reply : (from : Place) (word counter : ℕ) → Emits (Posting ∷ []) (replies from word counter)
emits_reply from word counter = emits_built refl (built_replies from word counter (place_unchanged from) tt tt)

-- what a message brings about, by who handles it
abbrev sorts_of : Audience → List Sort
sorts_of OfClients = client_sorts
sorts_of OfDates = date_sorts
sorts_of _ = says_sorts

sorts_are : (k : Kind) → handled_sorts k ≡ sorts_of (audience_of k)
sorts_are Ack = refl
sorts_are _ = refl

emits_heard : (charge : Bool) (from : Place) (m : MessageValue) (k : Kind) (who : Audience) → audience_of k ≡ who → is_part (sorts_of who) (sorts_of who) ≡
    true → Emits (sorts_of who) (handles_kind charge from m k)
emits_heard charge from m k who e all = emits_built (subst (λ s. is_part s (sorts_of who) ≡ true) (sym (sorts_are k ∙ ap sorts_of e)) all)
    (built_handles_kind charge from m (place_unchanged from) tt tt tt k)

-- dates
pub emits_dates : (charge : Bool) (from : Place) (m : MessageValue) (k : Kind) → audience_of k ≡ OfDates → Emits date_sorts (handles_kind charge from m k)
emits_dates charge from m k e = emits_heard charge from m k OfDates e refl

-- what clients ask
pub emits_clients : (charge : Bool) (from : Place) (m : MessageValue) (k : Kind) → audience_of k ≡ OfClients → Emits client_sorts (handles_kind charge from m k)
emits_clients charge from m k e = emits_heard charge from m k OfClients e refl

-- all that a port does with what it takes
pub emits_takes : (steer charge : Bool) (from : Place) (t : Taken) → Emits bootless (takes steer charge from t)
emits_takes steer charge from t = emits_built refl (built_takes steer charge from t (comes_unchanged from) tt tt (nothing_taken t))
