-- A daemon's packet may carry the end of a list alone: the group's packet has the whole list, and the daemon's shows it.
use Rattle.std.proofs.Common.{◌≡◌, ℕ, ◌-◌, ◌≤◌, List, length, drop, arith}
use Rattle.std.proofs.lemmas.List.{drop-drop}
use Rattle.std.proofs.lemmas.Grind.{common_steps}
use Rattle.rsct_packet.specs.declared.ids.ViewId.{ViewId}
use Rattle.proposal_core.specs.declared.entry.Entry.{Entry}
use Rattle.rsct_packet.specs.Search.{Has}
use Rattle.run_safety.specs.Group.{Packet, Answer}

-- an answer with the entries from a place on alone
pub record Tail : Type 0 where
  pub node : ℕ
  pub inc : ℕ
  pub view : ViewId
  pub start : ℕ
  pub items : List Entry

-- the group's packet for it
pub record Shows (ps : List Packet) (v : ViewId) (t : Tail) : Type 0 where
  pub full : List Entry
  pub sent : Has (Answer v (record { node = t.node; inc = t.inc; view = t.view; list = full })) ps
  pub starts : t.start ≤ length full
  pub is : drop t.start full ≡ t.items

-- it stays shown
pub shows_on : (ps more : List Packet) (v : ViewId) (t : Tail) → ((p : Packet) → Has p ps → Has p more) → Shows ps v t → Shows more v t
shows_on ps more v t f h =
    record { full = h.full; sent = f (Answer v (record { node = t.node; inc = t.inc; view = t.view; list = h.full })) h.sent; starts = h.starts; is = h.is }

-- what a list lacks stands in the end that was sent, where the end starts within the list
pub lacks : (own full items : List Entry) (start : ℕ) → start ≤ length own → drop start full ≡ items → drop (length own - start) items ≡ drop (length own) full
lacks own full items start le e = grind (arith, common_steps, drop-drop)
