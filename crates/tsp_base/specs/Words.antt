-- The words of this crate's definitions, from one place.
pub use Rattle.tsp_base.specs.Alarms.{Deadlines, alarm_word, deadline, deadlines_in, earlier}
pub use Rattle.tsp_base.specs.Alarms.{least_deadline, none_armed, with_deadline}
pub use Rattle.tsp_base.specs.Frames.{IsTick, PutsAtMost, PutsExactly, Uses, UsesAtMost}
pub use Rattle.tsp_base.specs.Headers.{HeaderValue, IsHeader, IsNet, Joins, KeepsDrift, Pushes}
pub use Rattle.tsp_base.specs.Headers.{all_joined, has_member, is_whole, nets_with}
pub use Rattle.tsp_base.specs.History.{Acts, Begins, Booted, Came, Cause, Deed, Did, Elsewhere}
pub use Rattle.tsp_base.specs.History.{Handed, Here, Line, Past, Seen, Step, Turned, did_of, dids}
pub use Rattle.tsp_base.specs.History.{from_act, from_act_at, is_shared, of, plain, seen_as, view}
pub use Rattle.tsp_base.specs.Hold.{Held, is_past, may_back, may_back_after, may_stand}
pub use Rattle.tsp_base.specs.Joins.{first_port, joined, line_of, stepped}
pub use Rattle.tsp_base.specs.Kinds.{kinds}
unfoldable pub use Rattle.tsp_base.specs.Kinds.{carries_hops, carries_time, kind_number, kind_of}
unfoldable pub use Rattle.tsp_base.specs.Kinds.{kind_word}
pub use Rattle.tsp_base.specs.Leads.{Leads}
pub use Rattle.tsp_base.specs.Messages.{MessageValue}
unfoldable pub use Rattle.tsp_base.specs.Messages.{body_fits}
pub use Rattle.tsp_base.specs.Names.{IsName, NameGives}
pub use Rattle.tsp_base.specs.NodeFacts.{all_corrects, all_corrects_after, base, boot_after}
pub use Rattle.tsp_base.specs.NodeFacts.{boot_tick, correct_place, correct_place_after}
pub use Rattle.tsp_base.specs.NodeFacts.{correct_tick, corrects, eased, last_correct}
pub use Rattle.tsp_base.specs.NodeFacts.{last_correct_after, lives, lives_after, moved, moved_after}
pub use Rattle.tsp_base.specs.NodeFacts.{rest, rest_after, rest_at, shown, target, tick_in, tick_of}
pub use Rattle.tsp_base.specs.NodeFacts.{ticket, time_of, tracing, up, up_after, wall, wall_after}
pub use Rattle.tsp_base.specs.NodeFacts.{word, word_after}
pub use Rattle.tsp_base.specs.Peers.{IsAscending, IsPeers, is_among}
pub use Rattle.tsp_base.specs.Performs.{Keeps, Performs}
pub use Rattle.tsp_base.specs.Places.{Within}
pub use Rattle.tsp_base.specs.Plains.{event_in}
pub use Rattle.tsp_base.specs.PortFacts.{Received, Said, acting, acting_after, armed, armed_after}
pub use Rattle.tsp_base.specs.PortFacts.{backers, backers_after, held, held_after, in_table}
pub use Rattle.tsp_base.specs.PortFacts.{is_rival, is_rival_after, kept_name, kept_name_after}
pub use Rattle.tsp_base.specs.PortFacts.{message_in, name_in, name_of, role, role_after, said}
pub use Rattle.tsp_base.specs.PortFacts.{said_by, stood, stood_after, taken, taken_after}
pub use Rattle.tsp_base.specs.RoundFacts.{Estimate, OpenRequest, Sampled, asked, asked_after, best}
pub use Rattle.tsp_base.specs.RoundFacts.{best_after, better, estimate, estimate_of, exchange}
pub use Rattle.tsp_base.specs.RoundFacts.{exchange_after, is_going, is_measured, is_starting}
pub use Rattle.tsp_base.specs.RoundFacts.{probes, request_at_place, request_open, started}
pub use Rattle.tsp_base.specs.RoundFacts.{started_after, target_there, word_asked}
pub use Rattle.tsp_base.specs.Rows.{Row, added, bare, grown, in_step, others, placed, post_of}
pub use Rattle.tsp_base.specs.Rows.{timed}
unfoldable pub use Rattle.tsp_base.specs.Rows.{arms, either_by, for_each, nothing, posts}
unfoldable pub use Rattle.tsp_base.specs.Rows.{posts_back, posts_time, posts_to_others, puts}
unfoldable pub use Rattle.tsp_base.specs.Rows.{reading, ◌followed_by◌}
pub use Rattle.tsp_base.specs.Samples.{half_down, half_up, sample_diff, sample_err}
pub use Rattle.tsp_base.specs.SendFacts.{Correcting, Dating, Sending, again, begun, begun_after}
pub use Rattle.tsp_base.specs.SendFacts.{begun_to, begun_to_after, correcting_of, corrects_by}
pub use Rattle.tsp_base.specs.SendFacts.{corrects_in, dating_of, deadline_of, has_own_number}
pub use Rattle.tsp_base.specs.SendFacts.{is_acknowledged, is_acknowledged_after, is_correction}
pub use Rattle.tsp_base.specs.SendFacts.{is_date_request, is_given_up, is_numbered}
pub use Rattle.tsp_base.specs.SendFacts.{is_set_date_request, last_asked, last_asked_after}
pub use Rattle.tsp_base.specs.SendFacts.{last_date, last_date_after, last_number, last_post}
pub use Rattle.tsp_base.specs.SendFacts.{last_post_after, last_taken, last_taken_after}
pub use Rattle.tsp_base.specs.SendFacts.{last_taken_elsewhere, last_to, last_to_after, message_at}
pub use Rattle.tsp_base.specs.SendFacts.{message_of, number_of, open_send, open_to, open_to_after}
pub use Rattle.tsp_base.specs.SendFacts.{posts_of, posts_of_after, sending_at, sending_of}
pub use Rattle.tsp_base.specs.SendFacts.{sets_date}
pub use Rattle.tsp_base.specs.Setup.{Setup}
pub use Rattle.tsp_base.specs.Stamps.{IsReply, ReplyValue}
pub use Rattle.tsp_base.specs.Takings.{Receives, TakesFrom, Undisturbed, heard, peer_of, posted}
pub use Rattle.tsp_base.specs.Takings.{posted_after, steps, steps_after, time_in}
pub use Rattle.tsp_base.specs.Ticks.{tick_at, width}
pub use Rattle.tsp_base.specs.Times.{IsMicros}
