-- The whole use of a daemon: with which key, and what came of it.
use Rattle.std.specs.Prelude.{◌≡◌, ℕ, ◌%◌, ◌^◌, [], ◌∷◌, Option, Some, None}
use Rattle.hags_io.specs.Deeds.{Read}
use Rattle.hags_io.specs.Telling.{Telling, Did}
use Rattle.node_state.specs.declared.config.Config.{Config}
use Rattle.node_state.specs.Settings.{shared_network}
use Rattle.remote_session.specs.Client.{far_new}
use Rattle.link_use.specs.Receiving.{nothing_received}
use Rattle.client_run.specs.declared.client.Client.{Client}
use Rattle.client_run.specs.declared.serving.Usage.{Usage}

-- the low 32 bits of the moment
abbrev pub key_at : ℕ → ℕ
key_at moment = moment % 2 ^ 32

-- the clock is read once, for the key
pub record ByClock (old start : Telling) (key : ℕ) : Type 0 where
  pub moment : ℕ
  pub read : Did old start (Read moment ∷ [])
  pub is : key ≡ key_at moment

-- the key is the one that is named, and nothing was done; or the clock gives it
abbrev pub HasKey : Option ℕ → Telling → Telling → ℕ → Type 0
HasKey (Some named) old start key = (key ≡ named) × (start ≡ old)
HasKey None old start key = ByClock old start key

-- a client that made no call, of the daemon of this node, which it reaches by the least network that the node has
unfoldable pub first_client : Config → ℕ → ℕ → Client
first_client c node key = record {
  node = node;
  network = shared_network c node node;
  far = far_new key;
  receiving = nothing_received;
  number = 1;
  made = 0;
  answered = 0;
  told = 0;
}

-- a client of this usage has its key; then this, from what was told by then
pub record Keyed (c : Config) (u : Usage) (old : Telling) (P : Client → Telling → Type 0) : Type 0 where
  pub key : ℕ
  pub start : Telling
  pub has : HasKey u.key old start key
  pub then : P (first_client c u.node key) start
