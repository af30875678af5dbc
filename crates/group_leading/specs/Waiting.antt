-- New members that failed or are gone.
use Rattle.std.specs.Prelude.{ℕ, not, List, filter, fold}
use Rattle.rsct_packet.specs.declared.ids.ProviderId.{ProviderId}
use Rattle.rsct_packet.specs.Providers.{among}
use Rattle.node_state.specs.declared.state.Core.{Core}
use Rattle.node_state.specs.Leading.{wait_if}

-- those of ps wait that were not there before and failed or are gone
abbrev pub new_ones_wait : Core → List ℕ → List ProviderId → List ProviderId → List ProviderId → List ProviderId → Core
new_ones_wait s g failed gone before ps = fold (λ t (p : ProviderId). wait_if t g p (among failed p) (among gone p)) s (filter (λ p. not (among before p)) ps)
