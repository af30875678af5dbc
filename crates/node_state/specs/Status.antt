-- The lines of a status.
use Rattle.std.specs.Prelude.{ℕ, Bool, true, false, ◌++◌, List, [], ◌∷◌, map, flat_map, Option, Some, None, codes, decimal}
use Rattle.rsct_packet.specs.Mask.{nodes_of}
use Rattle.proposal_core.specs.declared.group_state.Running.{Running}
use Rattle.proposal_core.specs.GroupView.{GroupView}
use Rattle.proposal_core.specs.Lists.{list_or_new, state_in}
use Rattle.adapter_ring.specs.declared.ring.Ring.{Ring}
use Rattle.adapter_ring.specs.Rings.{neighbour}
use Rattle.vote_phases.specs.Tally.{TallyView, open_voters}
use Rattle.node_state.specs.declared.group.GroupRow.{GroupRow}
use Rattle.packet_bodies.specs.declared.body.What.{What}
use Rattle.packet_bodies.specs.declared.body.What.TheVariants.{Hats, Hagsns, Hagsgr, Hagsvote}
use Rattle.node_state.specs.declared.state.Core.{Core}
use Rattle.node_state.specs.State.{held_rows, frozen, leader_in, leads_in}
use Rattle.value_words.specs.Wording.{word, view_text, ring_text, proto_text, nodes_text, members_text, providers_text, escaped}
use Rattle.entry_words.specs.Wording.{kind_text}

unfoldable pub ring_line : Ring → List ℕ
ring_line r =
    codes "hats " ++ word (decimal r.net) ++ word (ring_text r.id) ++ codes "members=" ++ word (nodes_text (nodes_of r.members)) ++ codes "neighbour=" ++ decimal (neighbour r)

unfoldable pub yes_or_no : Bool → List ℕ
yes_or_no true = codes "yes"
yes_or_no false = codes "no"

unfoldable pub view_line : Core → List ℕ
view_line s =
    codes "hagsns " ++ word (view_text s.views.view) ++ codes "coord=" ++ word (decimal s.views.view.coord) ++ codes "members=" ++ word (members_text s.views.members)
    ++ codes "frozen=" ++ yes_or_no (frozen s)

unfoldable pub leader_text : Option ℕ → List ℕ
leader_text None = codes "?"
leader_text (Some n) = decimal n

unfoldable pub list_line : List ℕ → Option ℕ → GroupView → List ℕ
list_line g leader l =
    codes "hagsgr " ++ word g ++ codes "leader=" ++ word (leader_text leader) ++ codes "len=" ++ word (decimal l.len)
    ++ codes "members=" ++ word (providers_text l.state.members) ++ codes "value=" ++ escaped l.state.value

unfoldable pub group_line : Core → GroupRow → List ℕ
group_line s row = list_line row.name (leader_in s row) (list_or_new row.list)

-- the voters without a row, as far as the node knows them
unfoldable pub waiting_text : Bool → Option TallyView → List ℕ
waiting_text false t = codes "?"
waiting_text true None = providers_text []
waiting_text true (Some t) = providers_text (open_voters t)

unfoldable pub vote_line : Core → GroupRow → Running → List ℕ
vote_line s row run =
    codes "hagsvote " ++ word row.name ++ word (proto_text run.proto) ++ codes "phase=" ++ word (decimal run.phase) ++ codes "kind=" ++ word (kind_text run.proposal)
    ++ codes "waiting=" ++ waiting_text (leads_in s row) row.led.tally

unfoldable pub vote_lines : Core → GroupRow → Option Running → List (List ℕ)
vote_lines s row None = []
vote_lines s row (Some run) = vote_line s row run ∷ []

-- the lines that a status has
unfoldable pub status_of : Core → What → List (List ℕ)
status_of s Hats = map ring_line s.rings
status_of s Hagsns = view_line s ∷ []
status_of s Hagsgr = map (group_line s) (held_rows s)
status_of s Hagsvote = flat_map (λ row. vote_lines s row (state_in row.list).running) (held_rows s)

-- as a reply carries them
unfoldable pub status_text : Core → What → List ℕ
status_text s what = flat_map (λ line. line ++ codes "\n") (status_of s what)

-- opens each word of this file, for a computation
unfoldable pub status_opens : Unit {0}
unfolding ring_line yes_or_no view_line leader_text list_line group_line waiting_text vote_line vote_lines status_of status_text
status_opens = tt
