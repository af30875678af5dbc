-- What was cast stays so where more is recorded.
use Rattle.std.proofs.Common.{ℕ, List, Option, Some, None}
use Rattle.rsct_packet.specs.declared.ids.ProviderId.{ProviderId}
use Rattle.rsct_packet.specs.declared.ids.ProtoId.{ProtoId}
use Rattle.rsct_packet.specs.Search.{Has}
use Rattle.proposal_core.specs.declared.entry.Vote.{Vote}
use Rattle.proposal_core.specs.declared.entry.RowVote.{RowVote}
use Rattle.proposal_core.specs.declared.entry.RowVote.TheVariants as row_vote
use Rattle.proposal_core.specs.declared.entry.Entry.{Entry}
use Rattle.proposal_core.specs.declared.entry.Entry.TheVariants.{Once, Begin, Phase, Approve, Reject, Late}
use Rattle.proposal_core.specs.declared.group_state.Running.{Running}
use Rattle.vote_phases.specs.Tally.{TallyView}
use Rattle.client_callbacks.specs.declared.ballot.Filled.{Filled}
use Rattle.view_state.specs.declared.install.Part.{Part}
use Rattle.view_state.specs.declared.install.Install.{Install}
use Rattle.view_state.specs.declared.exchange.Exchange.{Exchange}
use Rattle.view_state.specs.declared.packet.ViewPacket.{ViewPacket}
use Rattle.view_state.specs.declared.packet.ViewPacket.TheVariants as view
use Rattle.view_state.specs.declared.views.Views.{Views}
use Rattle.node_state.specs.declared.happened.Happened.{Happened}
use Rattle.node_state.specs.declared.packet.Body.{Body}
use Rattle.node_state.specs.declared.packet.Body.TheVariants as body
use Rattle.row_laws.specs.honest_votes.Casts.{IsCast, RowCast, EntryCast, EntriesCast, PartsCast, InstallCast, ExchangeCast, ViewPacketCast, BodyCast, BallotCast, GatheringCast, InstallIfCast, ViewsCast, VoterCast, TallyCast}

module _ (rs ts : List Happened) (more : (r : Happened) → Has r rs → Has r ts) where
  pub cast_on : (p : ProviderId) (proto : ProtoId) (phase : ℕ) (v : Vote) → IsCast rs p proto phase v → IsCast ts p proto phase v
  cast_on p proto phase v k = record { value = k.value; message = k.message; recorded = more _ k.recorded }

  pub row_on : (proto : ProtoId) (phase : ℕ) (p : ProviderId) (v : RowVote) → RowCast rs proto phase p v → RowCast ts proto phase p v
  row_on proto phase p (row_vote.Cast v) k = cast_on p proto phase v k
  row_on proto phase p (row_vote.Late d) k = tt
  row_on proto phase p (row_vote.Failed d) k = tt

  pub entry_on : (e : Entry) → EntryCast rs e → EntryCast ts e
  entry_on (Once x) k = k
  entry_on (Begin x) k = k
  entry_on (Phase c) k = λ r i. row_on c.proto c.phase r.provider r.vote (k r i)
  entry_on (Approve c) k = λ r i. row_on c.proto c.phase r.provider r.vote (k r i)
  entry_on (Reject c) k = λ r i. row_on c.proto c.phase r.provider r.vote (k r i)
  entry_on (Late proto phase ps) k = tt

  pub entries_on : (es : List Entry) → EntriesCast rs es → EntriesCast ts es
  entries_on es k e i = entry_on e (k e i)

  pub parts_on : (ps : List Part) → PartsCast rs ps → PartsCast ts ps
  parts_on ps k p i e j = entry_on e (k p i e j)

  pub install_on : (i : Install) → InstallCast rs i → InstallCast ts i
  install_on i k s j p a e b = entry_on e (k s j p a e b)

  pub exchange_on : (x : Exchange) → ExchangeCast rs x → ExchangeCast ts x
  exchange_on x k s j p a e b = entry_on e (k s j p a e b)

  pub packet_on : (y : ViewPacket) → ViewPacketCast rs y → ViewPacketCast ts y
  packet_on (view.Prepare v mask) k = tt
  packet_on (view.Answer v old parts) k = parts_on parts k
  packet_on (view.Refuse v n) k = tt
  packet_on (view.Install i) k = install_on i k
  packet_on (view.Taken v) k = tt

  pub body_on : (b : Body) → BodyCast rs b → BodyCast ts b
  body_on (body.View y) k = packet_on y k
  body_on (body.Entry v g place stable e) k = entry_on e k
  body_on (body.Vote v g proto phase p vote value message) k = cast_on p proto phase vote k
  body_on _ k = tt

  pub ballot_on : (p : ProviderId) (proto : ProtoId) (phase : ℕ) (b : Option Filled) → BallotCast rs p proto phase b → BallotCast ts p proto phase b
  ballot_on p proto phase None k = tt
  ballot_on p proto phase (Some b) k = cast_on p proto phase b.vote k

  pub gathering_on : (x : Option Exchange) → GatheringCast rs x → GatheringCast ts x
  gathering_on None k = tt
  gathering_on (Some x) k = exchange_on x k

  pub install_if_on : (x : Option Install) → InstallIfCast rs x → InstallIfCast ts x
  install_if_on None k = tt
  install_if_on (Some i) k = install_on i k

  pub views_on : (v : Views) → ViewsCast rs v → ViewsCast ts v
  views_on v k = (gathering_on v.gathering k.0, install_if_on v.install k.1)

  pub voter_on : (run : Running) (p : ProviderId) (v : Option RowVote) → VoterCast rs run p v → VoterCast ts run p v
  voter_on run p None k = tt
  voter_on run p (Some v) k = row_on run.proto run.phase p v k

  pub tally_on : (t : Option TallyView) (run : Option Running) → TallyCast rs t run → TallyCast ts t run
  tally_on None run k = tt
  tally_on (Some t) None k = tt
  tally_on (Some t) (Some run) k = λ x i. voter_on run x.provider x.vote (k x i)
