-- What is done at the edges, deed by deed, in the order in which it happened.
use Rattle.std.specs.Prelude.{ℕ, Bool, List}
use Rattle.hags_io.specs.declared.link.LinkCall.{LinkCall}

-- A moment was read; the place of a node's adapter on a network was told to the link: its address and its port; the link was
-- opened at a port, or could not be; a datagram was received or sent, or nothing came, or the link failed; bytes were
-- written: all of them, or an unknown front, since the sink failed.
pub data Deed : Type 0 where
  Read : (moment : ℕ) → Deed
  Placed : (node network address port : ℕ) → Deed
  Opened : (port : ℕ) (done : Bool) → Deed
  Exchanged : (call : LinkCall) → Deed
  Wrote : (bytes : List ℕ) (whole : Bool) → Deed
