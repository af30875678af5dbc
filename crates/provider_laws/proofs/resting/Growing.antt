-- Changes of a row that keep its name and its leader, do not shorten its list, and let few joins and failures wait.
use Rattle.std.proofs.Common.{◌≡◌, ◌≤◌, Some, refl, arith}
use Rattle.rsct_packet.specs.declared.ids.ViewId.{ViewId}
use Rattle.proposal_core.specs.declared.entry.Entry.{Entry}
use Rattle.proposal_core.specs.Lists.{list_or_new, len_in, with_entry}
use Rattle.node_state.specs.declared.group.GroupRow.{GroupRow}
use Rattle.node_state.specs.declared.group.Led.{Led}
use Rattle.node_state.proofs.NameOrder.{KeepsName}
use Rattle.step_walk.proofs.Waiting.{Few}
use Rattle.step_walk.proofs.Changes.{Mild}
use Rattle.provider_laws.proofs.resting.Orderly.{MildLed}

pub record Grows (f : GroupRow → GroupRow) : Type 0 where
  pub name : KeepsName f
  pub leader : (row : GroupRow) → (f row).leader ≡ row.leader
  pub few : (row : GroupRow) → Few row.led.waiting → Few (f row).led.waiting
  pub len : (row : GroupRow) → len_in row.list ≤ len_in (f row).list

pub led_grows : (f : Led → Led) → MildLed f → Grows (λ row. record row { led = f row.led })
led_grows f m = record { name = λ x. refl; leader = λ x. refl; few = λ row w. m row.led w; len = λ row. omega arith }

pub put_grows : (v : ViewId) (e : Entry) → Grows (λ row. record row { list = Some (with_entry (list_or_new row.list) v e) })
unfolding with_entry
put_grows v e = record { name = λ x. refl; leader = λ x. refl; few = λ row w. w; len = λ row. omega arith }

pub mild_grows : (f : GroupRow → GroupRow) → Mild f → Grows f
mild_grows f m = record { name = m.name; leader = m.leader; few = m.few; len = λ row. (let e = m.len row in omega (arith, e)) }
