-- What a target group owes to its source group.
use Rattle.std.specs.Prelude.{ℕ, Bool, false, not, ◌==◌, List, [], ◌∷◌, map, filter, Option, Some, None, if◌then◌else◌}
use Rattle.std.specs.List.{list_any}
use Rattle.rsct_packet.specs.declared.ids.ProviderId.{ProviderId}
use Rattle.rsct_packet.specs.declared.ids.ProtoId.{ProtoId}
use Rattle.rsct_packet.specs.Ids.{place_lt}
use Rattle.proposal_core.specs.declared.proposal.Cause.TheVariants.{Cast}
use Rattle.proposal_core.specs.declared.proposal.Failure.{Failure}
use Rattle.proposal_core.specs.declared.group_state.GroupState.{GroupState}
use Rattle.source_target.specs.declared.owed.Due.{Due}
use Rattle.source_target.specs.declared.owed.Due.TheVariants.{CastOut, Reflect}

abbrev pub is_on : ℕ → ProviderId → Bool
is_on n q = q.node == n

-- the source has a member on that node; a source that is not known has none
unfoldable pub allowed : Option GroupState → ℕ → Bool
allowed None n = false
allowed (Some s) n = list_any (is_on n) s.members

abbrev pub lacks_source : Option GroupState → ProviderId → Bool
lacks_source source p = not (allowed source p.node)

abbrev pub cast_out : ProviderId → Failure
cast_out p = record { provider = p; cause = Cast }

-- the members on nodes without a source member, in membership order
unfoldable pub cast_outs : List ProviderId → Option GroupState → List Failure
cast_outs members source = map cast_out (filter (lacks_source source) members)

abbrev pub reflect_from : Option ProtoId → Option ProtoId → Option Due
reflect_from old None = None
reflect_from old (Some at) = if place_lt old (Some at) then Some (Reflect at.view at.place) else None

abbrev pub value_place : Option GroupState → Option ProtoId
value_place None = None
value_place (Some s) = s.value_at

-- the reflection of a value set at a place greater than the reflected one, where somebody hears it
unfoldable pub reflection_due : GroupState → Option GroupState → List ProviderId → Option Due
reflection_due target source [] = None
reflection_due target source (p ∷ ps) = reflect_from target.reflected_at (value_place source)

abbrev pub due_from : GroupState → Option GroupState → List Failure → Option Due
due_from target source [] = reflection_due target source target.members
due_from target source (f ∷ fs) = Some (CastOut (f ∷ fs))

-- a cast-out before a reflection
unfoldable pub due : GroupState → Option GroupState → Option Due
due target source = due_from target source (cast_outs target.members source)

-- opens each word of this file, for a computation
unfoldable pub due_opens : Unit {0}
unfolding allowed cast_outs reflection_due due
due_opens = tt
