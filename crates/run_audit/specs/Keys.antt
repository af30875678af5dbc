-- Keys of what is kept, and when they are the same.
use Rattle.std.specs.Prelude.{ℕ, Bool, ◌==◌, ◌&&◌}
use Rattle.rsct_packet.specs.declared.ids.ProtoId.{ProtoId}
use Rattle.rsct_packet.specs.declared.ids.ProviderId.{ProviderId}
use Rattle.rsct_packet.specs.declared.ids.ViewId.{ViewId}
use Rattle.run_audit.specs.declared.keys.CastKey.{CastKey}
use Rattle.run_audit.specs.declared.keys.PassKey.{PassKey}
use Rattle.run_audit.specs.declared.keys.ProviderKey.{ProviderKey}
use Rattle.run_audit.specs.declared.keys.RequestKey.{RequestKey}
use Rattle.run_audit.specs.declared.keys.StayKey.{StayKey}
use Rattle.run_audit.specs.declared.keys.ViewKey.{ViewKey}

abbrev pub view_key : ViewId → ViewKey
view_key v = record { number = v.number; coord = v.coord; inc = v.inc }

abbrev pub same_view_key : ViewKey → ViewKey → Bool
same_view_key a b = (a.number == b.number) && ((a.coord == b.coord) && (a.inc == b.inc))

abbrev pub provider_key : ProviderId → ProviderKey
provider_key p = record { node = p.node; inc = p.inc; instance = p.instance; join = p.join }

abbrev pub same_provider_key : ProviderKey → ProviderKey → Bool
same_provider_key a b = (a.node == b.node) && ((a.inc == b.inc) && ((a.instance == b.instance) && (a.join == b.join)))

abbrev pub cast_key : ProviderId → ProtoId → ℕ → CastKey
cast_key p o k = record { provider = provider_key p; view = view_key o.view; place = o.place; phase = k }

abbrev pub same_cast_key : CastKey → CastKey → Bool
same_cast_key a b = same_provider_key a.provider b.provider && (same_view_key a.view b.view && ((a.place == b.place) && (a.phase == b.phase)))

-- the provider of a key
abbrev pub provider_of : ProviderKey → ProviderId
provider_of k = record { node = k.node; inc = k.inc; instance = k.instance; join = k.join }

abbrev pub request_key : ProviderId → ℕ → RequestKey
request_key p r = record { provider = provider_key p; request = r }

abbrev pub same_request_key : RequestKey → RequestKey → Bool
same_request_key a b = same_provider_key a.provider b.provider && (a.request == b.request)

-- the view of a key
abbrev pub view_at : ViewKey → ViewId
view_at k = record { number = k.number; coord = k.coord; inc = k.inc }

abbrev pub stay_key : ℕ → ViewId → StayKey
stay_key n v = record { node = n; view = view_key v }

abbrev pub same_stay_key : StayKey → StayKey → Bool
same_stay_key a b = (a.node == b.node) && same_view_key a.view b.view

abbrev pub pass_key : ViewId → ViewId → PassKey
pass_key v u = record { to = view_key v; from = view_key u }

abbrev pub same_pass_key : PassKey → PassKey → Bool
same_pass_key a b = same_view_key a.to b.to && same_view_key a.from b.from
