-- A copy whose provider hears the lists of its group, one entry after another.
use Rattle.std.specs.Prelude.{◌≡◌, ℕ, ◌+◌, Bool, true, false, [], Some, None, IfSome, slice_get}
use Rattle.rsct_packet.specs.declared.ids.ProviderId.{ProviderId}
use Rattle.rsct_packet.specs.declared.ids.ViewId.{ViewId}
use Rattle.rsct_packet.specs.Providers.{among}
use Rattle.proposal_core.specs.declared.entry.Closed.{Closed}
use Rattle.proposal_core.specs.declared.entry.Entry.{Entry}
use Rattle.proposal_core.specs.declared.entry.Entry.TheVariants.{Once, Begin}
use Rattle.proposal_core.specs.declared.group_state.Running.{Running}
use Rattle.proposal_core.specs.Fold.{joins_of}
use Rattle.client_callbacks.specs.Handed.{NoticeView}
use Rattle.agreed_table.specs.Pairs.{Pairs}
use Rattle.table_client.specs.Rules.{Copied, closed_in, copy_after}
use Rattle.table_client.specs.Maps.{Lists, Origin, state_at, AreSafe, MapIs}
use Rattle.table_client.specs.Sharing.{AreChunksOf, CarriesChunk}

-- where its own join runs, this holds of the protocol, and of the map directly behind its Begin
abbrev pub WhereOwnJoins : Lists → ProviderId → Copied → (Running → Pairs → Type 0) → Type 0
WhereOwnJoins x p c P =
    (run : Running) (m : Pairs) → c.running ≡ Some run → among (joins_of run.proposal) p ≡ true → MapIs x run.proto.view (run.proto.place + 1) m → P run m

-- A copy of this provider, at a place of its group's lists: a whole map is that of the place, what runs is what runs there, and
-- the chunks that its own join brought are chunks of the map with which the join began.
pub record CopyIs (x : Lists) (p : ProviderId) (c : Copied) : Type 0 where
  pub map : IfSome c.map (MapIs x c.view c.len)
  pub running : c.running ≡ (state_at x c.view c.len).running
  pub chunks : WhereOwnJoins x p c (λ run m. AreChunksOf m c.chunks)

-- a join of this provider begins
abbrev pub begins_own : ProviderId → Entry → Bool
begins_own p (Once x) = among (joins_of x) p
begins_own p (Begin x) = among (joins_of x) p
begins_own p _ = false

-- The view begins where the list of another one ended, so many entries long: it goes on from there, or from a view that does and in
-- which nothing was put.
pub data Continues (x : Lists) (u : ViewId) (len : ℕ) : ViewId → Type 0 where
  Next : (v : ViewId) (b : Origin) → x.base v ≡ Some b → b.old ≡ u → b.len ≡ len → Continues x u len v
  Over : (v : ViewId) (b : Origin) → x.base v ≡ Some b → b.len ≡ 0 → Continues x u len b.old → Continues x u len v

-- What it hears is the next of its group's lists: the entry of its own join, with which its copy begins; the entry behind those
-- that it heard; or the first of a view that goes on where it stood.
pub data Comes (x : Lists) (c : Copied) (n : NoticeView) : Type 0 where
  First : begins_own n.provider n.entry ≡ true → c.map ≡ None → c.running ≡ None → c.chunks ≡ [] → Comes x c n
  Onward : begins_own n.provider n.entry ≡ false → CopyIs x n.provider c → n.view ≡ c.view → n.place ≡ c.len → Comes x c n
  Into : begins_own n.provider n.entry ≡ false → CopyIs x n.provider c → n.place ≡ 0 → Continues x c.view c.len n.view → Comes x c n

-- The notice tells the entry at its place and the state after it; there is a map at the place; and what closes a phase of its
-- provider's join carries the chunk of that phase, or nothing.
pub record Tells (x : Lists) (c : Copied) (n : NoticeView) : Type 0 where
  pub entry : slice_get (x.list n.view) n.place ≡ Some n.entry
  pub after : n.after ≡ state_at x n.view (n.place + 1)
  pub mapped : (m : Pairs) × MapIs x n.view n.place m
  pub carries : (closed : Closed) → closed_in n.entry ≡ Some closed → WhereOwnJoins x n.provider c (λ run m. CarriesChunk m closed.phase closed.message)

-- then the copy is what it should be at the place behind it
abbrev pub CopiesFollow : Type 0
CopiesFollow = (x : Lists) (c : Copied) (n : NoticeView) → AreSafe x → Tells x c n → Comes x c n → CopyIs x n.provider (copy_after n c)
