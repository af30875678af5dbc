-- The copy of a provider by what was handed for it alone.
use Rattle.std.specs.Prelude.{◌≡◌, ◌&&◌, Bool, false, List, find, Option, Some, None, if◌then◌else◌}
use Rattle.std.specs.List.{fold}
use Rattle.std.specs.Option.{unwrap_or}
use Rattle.rsct_packet.specs.declared.ids.ProviderId.{ProviderId}
use Rattle.rsct_packet.specs.Providers.{same_provider}
use Rattle.rsct_packet.specs.Search.{Has}
use Rattle.client_callbacks.specs.declared.told.Told.{Told}
use Rattle.client_callbacks.specs.declared.told.Told.TheVariants as told
use Rattle.client_callbacks.specs.Handed.{Handed, Notified, Informed}
use Rattle.table_client.specs.Rules.{Copied, is_copy, fresh_copy, copy_after, is_dissolved, copies_after}

-- whether it is told that the provider is dissolved
abbrev pub dissolves : ProviderId → Told → Bool
dissolves p (told.Refused q r y) = is_dissolved y && same_provider q p
dissolves p _ = false

-- what becomes of its copy
abbrev pub own_then : ProviderId → Option Copied → Handed → Option Copied
own_then p o (Notified n f) = if same_provider n.provider p then Some (copy_after n (unwrap_or o (fresh_copy n))) else o
own_then p o (Informed t) = if dissolves p t then None else o

-- each provider's copy is what the rules make of what was handed for it, whatever was handed for others
abbrev pub CopiesAreApart : Type 0
CopiesAreApart = (hs : List Handed) (p : ProviderId) → find (is_copy p) (copies_after hs) ≡ fold (own_then p) None hs

-- and no two copies are of one provider: each is found by its provider
abbrev pub CopiesAreDistinct : Type 0
CopiesAreDistinct = (hs : List Handed) (c : Copied) → Has c (copies_after hs) → find (is_copy c.provider) (copies_after hs) ≡ Some c
