-- Who passes into a view.
use Rattle.std.specs.Prelude.{◌≡◌, ℕ, false, List, length}
use Rattle.rsct_packet.specs.declared.ids.ViewId.{ViewId}
use Rattle.rsct_packet.specs.declared.ids.ProviderId.{ProviderId}
use Rattle.rsct_packet.specs.declared.ids.Member.{Member}
use Rattle.rsct_packet.specs.Providers.{among}
use Rattle.rsct_packet.specs.Search.{Has}
use Rattle.proposal_core.specs.Fold.{present}
use Rattle.run_safety.specs.Group.{Origin, In, Based, Line, Noted, kept}
use Rattle.run_safety.specs.GroupLists.{From, puts_of}
use Rattle.run_safety.specs.Moves.{Opening}
use Rattle.run_safety.specs.SafeGroups.{SafeLines}

-- Whoever is present in the base of a view that its node enters, and did not fail there, comes from the base's old view, with a
-- list as long as the base says: no other side's members live on.
abbrev pub PassersComeFromTheBase : Type 0
PassersComeFromTheBase =
    (o : Opening) (all : List Line) → SafeLines o all → (n : ℕ) (v : ViewId) (b : Origin) (p : ProviderId) (ms : List Member) → Has (Noted (Based n v b)) all → Has (In p.node p.inc v ms) (kept all) → Has p (present b.state) → among b.state.failed p ≡ false
    → From (kept all) p.node p.inc v b.old × (length (puts_of p.node b.old (kept all)) ≡ b.len)
