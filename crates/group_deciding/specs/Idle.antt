-- In which groups nothing begins, as their rows stand.
use Rattle.std.specs.Prelude.{Bool, not, ◌==◌, ◌&&◌, ◌||◌, length, is_none}
use Rattle.proposal_core.specs.Lists.{list_or_new}
use Rattle.node_state.specs.declared.group.GroupRow.{GroupRow}
use Rattle.node_state.specs.declared.state.Core.{Core}
use Rattle.node_state.specs.State.{leads_in}
use Rattle.node_state.specs.Ending.{may_begin}

-- nobody waits, and there is no source
abbrev pub owes_nothing : GroupRow → Bool
owes_nothing row = length row.led.waiting.failures == 0 && (length row.led.waiting.joins == 0 && is_none (list_or_new row.list).state.attrs.source)

-- nothing may begin, or there is nothing to begin
unfoldable pub is_idle : GroupRow → Bool
is_idle row = not (may_begin (list_or_new row.list)) || owes_nothing row

abbrev pub is_idle_or_not_led : Core → GroupRow → Bool
is_idle_or_not_led s row = not (leads_in s row) || is_idle row
