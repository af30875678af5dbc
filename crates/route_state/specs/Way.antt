-- What becomes of an envelope at a node.
use Rattle.std.specs.Prelude.{ℕ, ◌-◌, ◌==◌, Bool, true, false, List, [], Option, Some, None}
use Rattle.node_reach.specs.declared.reach.Reach.{Reach}
use Rattle.node_reach.specs.Hops.{next_hop}
use Rattle.route_state.specs.declared.front.Front.{Front}
use Rattle.route_state.specs.Envelope.{EnvelopeView, envelope_text}

-- ---- by its front alone

-- it is where it was to go; or it goes on to a node, with this front; or it ends here
pub data Course : Type 0 where
  Arrives : Course
  GoesOn : (to : ℕ) (front : Front) → Course
  Ends : Course

-- one hop less is left
abbrev pub with_less : Front → Front
with_less f = record f { hops = f.hops - 1 }

abbrev pub goes_to : Front → Option ℕ → Course
goes_to f None = Ends
goes_to f (Some to) = GoesOn to (with_less f)

-- it is for another node: it goes on where it may still be sent on, and there is a next hop
unfoldable pub onward : Reach → Front → Course
onward r f = elim (f.hops == 0) [ true ↦ Ends | false ↦ goes_to f (next_hop r f.target) ]

unfoldable pub course : ℕ → Reach → Front → Course
course me r f = elim (f.target == me) [ true ↦ Arrives | false ↦ onward r f ]

-- ---- with its packet

-- the packet is the node's; or the envelope goes on to a node; or nothing becomes of it
pub data WayView : Type 0 where
  Own : (inner : List ℕ) → WayView
  Pass : (to : ℕ) (envelope : EnvelopeView) → WayView
  Drop : WayView

abbrev pub along : List ℕ → Course → WayView
along inner Arrives = Own inner
along inner (GoesOn to f) = Pass to (record { front = f; inner = inner })
along inner Ends = Drop

abbrev pub way_of : ℕ → Reach → Option EnvelopeView → Option WayView
way_of me r None = None
way_of me r (Some e) = Some (along e.inner (course me r e.front))

abbrev pub is_pass : WayView → Bool
is_pass (Own inner) = false
is_pass (Pass to e) = true
is_pass Drop = false

abbrev pub passed_text : WayView → List ℕ
passed_text (Own inner) = []
passed_text (Pass to e) = envelope_text e
passed_text Drop = []

-- opens each word of this file, for a computation
unfoldable pub way_opens : Unit {0}
unfolding onward course
way_opens = tt
