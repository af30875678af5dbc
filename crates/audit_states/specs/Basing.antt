-- Whether a base line keeps its rule, by what is kept.
use Rattle.std.specs.Prelude.{ℕ, Bool, true, false, not, ◌&&◌, List, [], ◌∷◌, filter, Option, Some, None}
use Rattle.std.specs.List.{list_any}
use Rattle.std.specs.Str.{bytes_eq}
use Rattle.rsct_packet.specs.declared.ids.Member.{Member}
use Rattle.rsct_packet.specs.declared.ids.ProviderId.{ProviderId}
use Rattle.rsct_packet.specs.declared.ids.ViewId.{ViewId}
use Rattle.rsct_packet.specs.Ids.{is_member}
use Rattle.rsct_packet.specs.Providers.{same_provider}
use Rattle.proposal_core.specs.declared.group_state.GroupState.{GroupState}
use Rattle.proposal_core.specs.Fold.{present}
use Rattle.record_lines.specs.declared.line.BaseLine.{BaseLine}
use Rattle.audit_states.specs.declared.comings.IncKey.{IncKey}
use Rattle.audit_states.specs.declared.list_bases.ListBase.{ListBase}
use Rattle.audit_states.specs.Comings.{came_from}
use Rattle.run_audit.specs.Past.{is_at}
use Rattle.run_audit.specs.Table.{all_same, same_open}

-- the provider lives in the view, and came from this one
unfoldable pub lives_by : List (IncKey × List ViewId) → List Member → ViewId → ViewId → ProviderId → Bool
lives_by es ms v u p = is_member ms p.node p.inc && is_at u (came_from es p.node p.inc v)

-- those of the providers who do not
unfoldable pub fallen_by : List (IncKey × List ViewId) → List Member → ViewId → ViewId → List ProviderId → List ProviderId
fallen_by es ms v u ps = filter (λ p. not (lives_by es ms v u p)) ps

-- some member came from this view
unfoldable pub is_entered_by : List (IncKey × List ViewId) → List Member → ViewId → ViewId → Bool
is_entered_by es ms v u = list_any (λ (m : Member). is_at u (came_from es m.node m.inc v)) ms

-- what the base shows is the state
unfoldable pub shows_by : List (IncKey × List ViewId) → List Member → ViewId → BaseLine → GroupState → Bool
shows_by es ms v b s =
    all_same same_provider b.members s.members && (bytes_eq b.value s.value && (same_open b.running s.running && all_same same_provider b.failed (fallen_by es ms v b.old (present s))))

-- the base of these words is that of the list, where it has one
unfoldable pub is_base_there : List ℕ → Option ListBase → Bool
is_base_there text None = true
is_base_there text (Some b) = bytes_eq text b.text
