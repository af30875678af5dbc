-- Opens every word of a node's step, for computations.
use Rattle.std.specs.Fmt.{digits}
use Rattle.rsct_packet.specs.Ids.{risen}
use Rattle.rsct_packet.specs.Mask.{mask_opens}
use Rattle.group_attr.specs.Attrs.{is_bad_source, first_fault}
use Rattle.group_attr.specs.Agree.{agree}
use Rattle.proposal_core.specs.Fold.{fold_opens}
use Rattle.proposal_core.specs.Sizes.{sizes_opens}
use Rattle.proposal_core.specs.Lists.{lists_opens}
use Rattle.ring_commit.specs.Gather.{gather_opens}
use Rattle.adapter_ring.specs.Addresses.{addresses_opens}
use Rattle.adapter_ring.specs.Rings.{rings_opens}
use Rattle.node_reach.specs.Reach.{reach_opens}
use Rattle.source_target.specs.Due.{due_opens}
use Rattle.client_callbacks.specs.Ballots.{ballots_opens}
use Rattle.client_callbacks.specs.Handed.{handed_opens}
use Rattle.session_state.specs.State.{state_opens as sessions_open}
use Rattle.session_state.specs.Calls.{calls_opens}
use Rattle.session_state.specs.HandOn.{handon_opens}
use Rattle.view_state.specs.Answers.{answers_open}
use Rattle.view_state.specs.Bases.{bases_open}
use Rattle.view_state.specs.Codec.{sized_entry_at, sized_entry_text, group_part_at, group_part_text, parts_at as lists_at, parts_text as lists_text, answer_at, answer_text, source_at_front, source_text as brought_source_text, each_comes_once, install_at, install_text}
use Rattle.view_state.specs.Cut.{cut_opens}
use Rattle.view_state.specs.Views.{views_open}
use Rattle.value_words.specs.Wording.{wording_opens}
use Rattle.entry_words.specs.Wording.{entry_wording_opens}
use Rattle.node_state.specs.Settings.{settings_opens}
use Rattle.node_state.specs.State.{state_opens}
use Rattle.node_state.specs.Sending.{sending_opens}
use Rattle.node_state.specs.HandOn.{handing_opens}
use Rattle.node_state.specs.Leading.{leading_opens}
use Rattle.node_state.specs.Deciding.{deciding_opens}
use Rattle.node_state.specs.Ending.{ending_opens}
use Rattle.node_state.specs.Following.{following_opens}
use Rattle.node_state.specs.Applying.{applying_opens}
use Rattle.node_state.specs.Ticks.{ticks_opens}
use Rattle.node_state.specs.Status.{status_opens}
use Rattle.node_state.specs.Calls.{node_calls_opens}
use Rattle.node_state.specs.Step.{step_opens}
use Rattle.node_state.specs.Bodies.{bodies_opens}
use Rattle.node_state.specs.Bytes.{bytes_opens}
use Rattle.rsct_packet.specs.Reading.{many_at}
use Rattle.rsct_packet.specs.Fields.{u16_text, u32_text, bytes_text, bytes_at, name_text, name_at, mask_text, mask_at, view_text, view_at, ring_text, ring_at, provider_text, provider_at, proto_text, proto_at, member_text, member_at, providers_text, providers_at, some_providers_at}
use Rattle.rsct_packet.specs.Packet.{is_head, is_front, front_at, front_text, head_text, packet_at}
use Rattle.packet_bodies.specs.Group.{group_text, group_at, reply_at}
use Rattle.packet_bodies.specs.Body.{ring_mask_at, death_at, report_row_text, report_row_at, report_text, report_at, prepare_at, refuse_at, leader_at, ack_at, gone_at, what_at, query_at}
use Rattle.group_attr.specs.Codec.{phases_at, batch_at, default_at, dissolve_at, source_at, source_text, attrs_at, attrs_text}
use Rattle.proposal_core.specs.ProposalCodec.{cause_at, fallen_at, fallen_text, join_at, leave_at, fail_at, expel_at, state_change_at, message_at, attributes_at, reflect_at, proposal_at, proposal_text}
use Rattle.proposal_core.specs.EntryCodec.{row_vote_at, closed_at, closed_text, once_at, begin_at, phase_at, approve_at, reject_at, late_at, entry_front_at, entry_text}
use Rattle.proposal_core.specs.StateCodec.{running_at, running_text, failed_are_present, parts_at, state_at, state_text}

-- the words of spellings
unfoldable pub spelling_opens : Unit {0}
unfolding many_at u16_text u32_text bytes_text bytes_at name_text name_at mask_text mask_at view_text view_at ring_text ring_at provider_text provider_at proto_text proto_at member_text member_at providers_text providers_at some_providers_at is_head is_front front_at front_text head_text packet_at group_text group_at reply_at ring_mask_at death_at report_row_text report_row_at report_text report_at prepare_at refuse_at leader_at ack_at gone_at what_at query_at phases_at batch_at default_at dissolve_at source_at source_text attrs_at attrs_text cause_at fallen_at fallen_text join_at leave_at fail_at expel_at state_change_at message_at attributes_at reflect_at proposal_at proposal_text row_vote_at closed_at closed_text once_at begin_at phase_at approve_at reject_at late_at entry_front_at entry_text running_at running_text failed_are_present parts_at state_at state_text
spelling_opens = tt

unfoldable pub brought_opens : Unit {0}
unfolding sized_entry_at sized_entry_text group_part_at group_part_text lists_at lists_text answer_at answer_text source_at_front brought_source_text each_comes_once install_at install_text
brought_opens = tt

unfoldable pub node_opens : Unit {0}
unfolding digits risen mask_opens is_bad_source first_fault agree fold_opens sizes_opens lists_opens gather_opens addresses_opens rings_opens reach_opens due_opens ballots_opens handed_opens sessions_open calls_opens handon_opens answers_open bases_open cut_opens views_open wording_opens entry_wording_opens settings_opens state_opens sending_opens handing_opens leading_opens deciding_opens ending_opens following_opens applying_opens ticks_opens status_opens node_calls_opens step_opens spelling_opens brought_opens bodies_opens bytes_opens
node_opens = tt
