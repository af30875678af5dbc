-- Whoever is left out as a view is entered is dissolved, one after another: what each of these turns keeps, all keep.
use Rattle.std.proofs.Common.{ℕ, List, Option, Some, None, Bool, true, false}
use Rattle.std.specs.Prelude.{not, ◌&&◌}
use Rattle.std.specs.Str.{bytes_eq}
use Rattle.rsct_packet.specs.declared.ids.ViewId.{ViewId}
use Rattle.rsct_packet.specs.declared.ids.ProviderId.{ProviderId}
use Rattle.proposal_core.specs.Fold.{present}
use Rattle.proposal_core.specs.Lists.{state_in}
use Rattle.session_state.specs.declared.state.Provider.{Provider}
use Rattle.session_state.specs.State.{provider_of, outstanding}
use Rattle.view_state.specs.declared.install.Base.{Base}
use Rattle.view_state.specs.Bases.{base_named}
use Rattle.node_state.specs.declared.group.GroupRow.{GroupRow}
use Rattle.node_state.specs.declared.state.Core.{Core}
use Rattle.node_state.specs.Applying.{is_in_base, number_of, dissolved, dissolved_if, group_dissolved, sides_dissolved}
use Rattle.step_walk.proofs.Asides.{at_fold}

module _ (P : Core → Type 0) where
  pub each_keep : (old : ViewId) (bs : List Base) → ((c : Core) (g : List ℕ) (p : ProviderId) → P c → P (dissolved_if c g old (base_named bs g) (provider_of c.sessions p))) → (rows : List GroupRow) (c : Core) → P c → P (sides_dissolved c rows old bs)
  unfolding sides_dissolved group_dissolved
  each_keep old bs one rows c k =
      at_fold P (group_dissolved old bs) (λ t row j. at_fold P (λ (u : Core) p. dissolved_if u row.name old (base_named bs row.name) (provider_of u.sessions p)) (λ u p i. one u row.name p i) (present (state_in row.list)) j) rows k

  -- where whoever is dissolved keeps it
  pub sides_keep : ((c : Core) (p : ProviderId) (r : ℕ) → P c → P (dissolved c p r)) → (rows : List GroupRow) (old : ViewId) (bs : List Base) (c : Core) → P c → P (sides_dissolved c rows old bs)
  unfolding dissolved_if
  sides_keep tells rows old bs c k =
      each_keep old bs (λ u g p i. kept_if u g (base_named bs g) (provider_of u.sessions p) i) rows c k
    where
      kept_if : (u : Core) (g : List ℕ) (b : Option Base) (o : Option Provider) → P u → P (dissolved_if u g old b o)
      kept_if u g b None i = i
      kept_if u g b (Some x) i = by (x.takes_part && bytes_eq x.group g && not (is_in_base old x.provider b))
        where
          by : (t : Bool) → P (elim t as (λ _. Core) [ true ↦ dissolved u x.provider (number_of (outstanding u.sessions x.provider)) | false ↦ u ])
          by true = tells u x.provider (number_of (outstanding u.sessions x.provider)) i
          by false = i
