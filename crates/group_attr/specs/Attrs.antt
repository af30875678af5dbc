-- The attributes of a group that nobody has joined, and the first bad field of any.
use Rattle.std.specs.Prelude.{ℕ, Bool, false, ◌||◌, List, Option, Some, None, nat_lt, codes, if◌then◌else◌}
use Rattle.std.specs.Str.{bytes_eq}
use Rattle.group_attr.specs.declared.attrs.Attrs.{Attrs}
use Rattle.group_attr.specs.declared.attrs.AttrFault.{AttrFault}
use Rattle.group_attr.specs.declared.attrs.AttrFault.TheVariants.{Limit, SourceLimit, Source}
use Rattle.group_attr.specs.declared.attrs.Phases.TheVariants as phases
use Rattle.group_attr.specs.declared.attrs.Batch.TheVariants as batch
use Rattle.group_attr.specs.declared.attrs.DefaultVote.TheVariants as default_vote

abbrev pub empty_attrs : Attrs
empty_attrs = record { phases = phases.One; batch = batch.Neither; default_vote = default_vote.Approve; limit = 0; source = None; source_phases = phases.One; source_limit = 0 }

-- in ticks
abbrev pub max_limit : ℕ
max_limit = 10000

abbrev pub host_membership : List ℕ
host_membership = codes "HostMembership"

-- the source is the group itself, or stands for the hosts
unfoldable pub is_bad_source : Option (List ℕ) → List ℕ → Bool
is_bad_source None group = false
is_bad_source (Some source) group = bytes_eq source group || bytes_eq source host_membership

-- the first bad field
unfoldable pub first_fault : Attrs → List ℕ → Option AttrFault
first_fault a group =
    if nat_lt max_limit a.limit then Some (Limit a.limit)
    else if nat_lt max_limit a.source_limit then Some (SourceLimit a.source_limit)
    else if is_bad_source a.source group then Some Source
    else None
