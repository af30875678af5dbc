use Rattle.std.proofs.Common.{◌≡◌, length}
use Rattle.std.specs.Prelude.{fold}
use Rattle.world_model.specs.World.{posted}
use Rattle.world_model.specs.World as world
use Rattle.play_state.specs.Posting.{PacketsStand, bytes_after}
use Rattle.play_state.proofs.sent_bytes.post_all.Given as goal

-- what is left to be sent makes of what was sent all that is to be made
abbrev pub invariant-loop-p : goal.invariant-loop-p
invariant-loop-p l =
    ((w : world.World) → PacketsStand l.fn.packets w → (v : world.World) × PacketsStand l.packets v × (fold posted v l.left ≡ fold posted w l.sent))
    × (bytes_after l.limit l.kept l.left ≡ bytes_after l.limit l.fn.kept l.sent)

abbrev pub decreases-loop-p : goal.decreases-loop-p
decreases-loop-p l = length l.left
