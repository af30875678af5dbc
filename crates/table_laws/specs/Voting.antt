-- What goes with the vote of a copy that has the map of its place.
use Rattle.std.specs.Prelude.{◌≡◌, ℕ, ◌+◌, List, Some, IfSome, slice_get}
use Rattle.proposal_core.specs.declared.group_state.Running.{Running}
use Rattle.client_callbacks.specs.declared.ballot.Filled.{Filled}
use Rattle.client_callbacks.specs.Handed.{NoticeView}
use Rattle.agreed_table.specs.Pairs.{Pairs}
use Rattle.table_client.specs.Rules.{Copied, filled_from}
use Rattle.table_client.specs.Sharing.{CarriesChunk}
use Rattle.table_client.specs.Maps.{Lists, AreSafe, state_at, MapIs}

-- the notice tells the entry at its place and the state behind it, and a whole map of the copy is that of the place
pub record IsAt (x : Lists) (c : Copied) (n : NoticeView) : Type 0 where
  pub entry : slice_get (x.list n.view) n.place ≡ Some n.entry
  pub after : n.after ≡ state_at x n.view (n.place + 1)
  pub map : IfSome c.map (MapIs x n.view n.place)

-- the message is the chunk of the phase that runs behind the notice, of the map directly behind the protocol's Begin
pub record SendsChunk (x : Lists) (n : NoticeView) (bytes : List ℕ) : Type 0 where
  pub run : Running
  pub runs : n.after.running ≡ Some run
  pub map : Pairs
  pub is : MapIs x run.proto.view (run.proto.place + 1) map
  pub chunk : CarriesChunk map run.phase (Some bytes)

-- so is each message that goes with the ballot that the rules fill
abbrev pub BallotsSendChunks : Type 0
BallotsSendChunks =
    (x : Lists) (c : Copied) (n : NoticeView) (f : Filled) (bytes : List ℕ) → AreSafe x → IsAt x c n → filled_from n c ≡ Some f → f.message ≡ Some bytes → SendsChunk x n bytes
