use Rattle.std.proofs.Common.{sym}
use Rattle.group_codec.proofs.StateFormat.{sound_is_read}
use Rattle.group_codec.proofs.states.state_front.Goals as goal

pub invariant_of-result : goal.invariant_of-result
invariant_of-result c = rw (c.front.ensures, c.known.ensures.same) (sound_is_read _ _ _ c.known.ensures.bytes c.in_ok-parts.ensures (sym c.if-not-is_sound.ensures))
