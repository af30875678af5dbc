-- How group states are spelled.
use Rattle.std.specs.Prelude.{ℕ, ◌≤◌, Bool, ◌&&◌, nat_le, IsTrue, List, ◌++◌, Option}
use Rattle.std.specs.Int.{w16}
use Rattle.std.specs.List.{list_all}
use Rattle.rsct_packet.specs.declared.ids.ProviderId.{ProviderId}
use Rattle.rsct_packet.specs.declared.ids.ProtoId.{ProtoId}
use Rattle.rsct_packet.specs.Providers.{among}
use Rattle.rsct_packet.specs.Reading.{number_at, both_at, made_at, guarded_at, optional_at}
use Rattle.rsct_packet.specs.Format.{OptionFits, optional_text}
use Rattle.rsct_packet.specs.Fields.{u16_text, bytes_at, bytes_text, AreShort, proto_at, proto_text, IsProto, providers_at, providers_text, IsProviders}
use Rattle.group_attr.specs.declared.attrs.Attrs.{Attrs}
use Rattle.group_attr.specs.Codec.{attrs_at, attrs_text, IsAttrs}
use Rattle.proposal_core.specs.declared.proposal.Proposal.{Proposal}
use Rattle.proposal_core.specs.declared.group_state.GroupState.{GroupState}
use Rattle.proposal_core.specs.declared.group_state.Running.{Running}
use Rattle.proposal_core.specs.Fold.{max_phases, present, joiners_fit}
use Rattle.proposal_core.specs.ProposalCodec.{proposal_at, proposal_text, IsProposal}

-- the protocol that runs, in a phase from 1 to 200

abbrev pub is_phase : ℕ → Bool
is_phase n = nat_le 1 n && nat_le n max_phases

abbrev pub running_of_parts : ProtoId × (ℕ × (Proposal × Option (List ℕ))) → Running
running_of_parts x = record { proto = x.0; proposal = x.1.1.0; phase = x.1.0; proposed = x.1.1.1 }

unfoldable pub running_at : List ℕ → Option (Running × List ℕ)
running_at bytes = made_at running_of_parts (both_at proto_at (both_at (guarded_at is_phase (number_at w16)) (both_at proposal_at (optional_at bytes_at)))) bytes

unfoldable pub running_text : Running → List ℕ
running_text run = proto_text run.proto ++ (u16_text run.phase ++ (proposal_text run.proposal ++ optional_text bytes_text run.proposed))

pub record IsRunning (run : Running) : Type 0 where
  pub proto : IsProto run.proto
  pub begun : 1 ≤ run.phase
  pub phase : run.phase ≤ 200
  pub proposal : IsProposal run.proposal
  pub proposed : OptionFits AreShort run.proposed

-- the state

-- the failed are members or running joiners
unfoldable pub failed_are_present : GroupState → Bool
failed_are_present s = list_all (among (present s)) s.failed

abbrev pub is_sound : GroupState → Bool
is_sound s = joiners_fit s && failed_are_present s

abbrev pub state_of_parts : List ProviderId × (List ℕ × (Attrs × (List ProviderId × (Option ProtoId × (Option ProtoId × Option Running))))) → GroupState
state_of_parts x = record { members = x.0; value = x.1.0; attrs = x.1.1.0; failed = x.1.1.1.0; value_at = x.1.1.1.1.0; reflected_at = x.1.1.1.1.1.0; running = x.1.1.1.1.1.1 }

unfoldable pub parts_at : List ℕ → Option (GroupState × List ℕ)
parts_at bytes =
    made_at state_of_parts (both_at providers_at (both_at bytes_at (both_at attrs_at (both_at providers_at (both_at (optional_at proto_at) (both_at (optional_at proto_at) (optional_at running_at))))))) bytes

unfoldable pub state_at : List ℕ → Option (GroupState × List ℕ)
state_at bytes = guarded_at is_sound parts_at bytes

unfoldable pub state_text : GroupState → List ℕ
state_text s =
    providers_text s.members
    ++ (bytes_text s.value
    ++ (attrs_text s.attrs
    ++ (providers_text s.failed
    ++ (optional_text proto_text s.value_at
    ++ (optional_text proto_text s.reflected_at
    ++ optional_text running_text s.running)))))

-- states that have a spelling
pub record IsState (s : GroupState) : Type 0 where
  pub members : IsProviders s.members
  pub value : AreShort s.value
  pub attrs : IsAttrs s.attrs
  pub failed : IsProviders s.failed
  pub value_at : OptionFits IsProto s.value_at
  pub reflected_at : OptionFits IsProto s.reflected_at
  pub running : OptionFits IsRunning s.running
  pub joiners : IsTrue (joiners_fit s)
  pub present : IsTrue (failed_are_present s)
