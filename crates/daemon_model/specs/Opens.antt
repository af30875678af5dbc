-- Opens every word of a daemon's run, for computations.
use Rattle.rsct_packet.specs.Fields.{u64_text}
use Rattle.piece_link.specs.Pieces.{head_at, head_text, piece_at, piece_count, data_of, pieces_from}
use Rattle.piece_link.specs.Joining.{row_taken, taken}
use Rattle.node_state.specs.Opens.{node_opens}
use Rattle.client_callbacks.specs.Votes.{votes_opens}
use Rattle.world_model.specs.Text.{text_opens}
use Rattle.world_model.specs.Words.{words_opens}
use Rattle.world_model.specs.Lines.{lines_opens}
use Rattle.world_model.specs.Reading.{reading_opens}
use Rattle.world_model.specs.Load.{load_opens}
use Rattle.remote_session.specs.Messages.{messages_opens}
use Rattle.remote_clients.specs.Opens.{remote_clients_opens}
use Rattle.value_words.specs.Wording.{wording_opens}
use Rattle.self_questions.specs.Messages.{self_messages_opens}
use Rattle.daemon_model.specs.SelfLines.{self_lines_opens}
use Rattle.daemon_model.specs.SelfSamples.{self_samples_opens}
use Rattle.daemon_model.specs.Sent.{sent_opens}
use Rattle.daemon_model.specs.Daemon.{daemon_opens}
use Rattle.daemon_model.specs.Actions.{actions_opens}
use Rattle.daemon_model.specs.Options.{options_opens}
use Rattle.daemon_model.specs.Doings.{doings_opens}
use Rattle.daemon_model.specs.Settings.{settings_opens}
use Rattle.daemon_model.specs.Samples.{samples_opens}
use Rattle.daemon_model.specs.OptionSamples.{option_samples_opens}

unfoldable pub all_opens : Unit {0}
unfolding u64_text head_at head_text piece_at piece_count data_of pieces_from row_taken taken node_opens votes_opens text_opens words_opens lines_opens reading_opens load_opens messages_opens remote_clients_opens sent_opens daemon_opens actions_opens options_opens doings_opens settings_opens samples_opens option_samples_opens wording_opens self_messages_opens self_lines_opens self_samples_opens
all_opens = tt
