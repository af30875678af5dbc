-- The generated script of a load, as its lines, and the summary of what comes of it.
use Rattle.std.specs.Prelude.{ℕ, zero, suc, Bool, true, false, ◌==◌, ◌+◌, ◌*◌, ◌/◌, ◌%◌, ◌^◌, ◌++◌, List, [], ◌∷◌, map, fold, length, filter, nat_lt, codes, decimal, flat_map}
use Rattle.rsct_packet.specs.Mask.{no_nodes, with_node, without_node}
use Rattle.rsct_packet.specs.declared.mask.Mask.{Mask}
use Rattle.group_attr.specs.Attrs.{empty_attrs}
use Rattle.group_attr.specs.declared.attrs.Phases.TheVariants.{One, Many}
use Rattle.node_state.specs.declared.call.CallLine.{CallLine}
use Rattle.node_state.specs.declared.call.CallLine.TheVariants as call
use Rattle.node_state.specs.declared.config.Config.{Config}
use Rattle.node_state.specs.declared.config.Mode.{Mode}
use Rattle.node_state.specs.declared.config.Mode.TheVariants.{Asked}
use Rattle.node_state.specs.declared.happened.Happened.{Happened}
use Rattle.node_state.specs.declared.happened.Happened.TheVariants.{In, Put, Heard, Told}
use Rattle.world_model.specs.declared.event.Event.TheVariants as event
use Rattle.world_model.specs.declared.script.Line.{Line}
use Rattle.world_model.specs.declared.script.Line.TheVariants as line
use Rattle.world_model.specs.Reading.{first_settings, settled_if}
use Rattle.world_model.specs.Play.{played_records}

abbrev pub eight : List ℕ
eight = 1 ∷ 2 ∷ 3 ∷ 4 ∷ 5 ∷ 6 ∷ 7 ∷ 8 ∷ []

unfoldable pub mask_of : List ℕ → Mask
mask_of ns = fold with_node no_nodes ns

-- these nodes, in this mode, with the plain addresses
unfoldable pub settings_of : Mode → List ℕ → Config
settings_of m ns = settled_if (record first_settings { mode = m; nodes = mask_of ns }) false

unfoldable pub client_name : ℕ → List ℕ
client_name k = codes "c" ++ decimal k

abbrev pub load_group : List ℕ
load_group = codes "g"

unfoldable pub starts : ℕ → Line
starts k = line.Plain (event.Start k)

unfoldable pub asks : ℕ → Mask → Line
asks k m = line.Plain (event.Ask k m)

unfoldable pub calls : ℕ → CallLine → Line
calls k c = line.Plain (event.Call k c)

unfoldable pub joins_again : ℕ → List Line
joins_again k = calls k (call.Join (client_name k) load_group 1 empty_attrs) ∷ line.Flow ∷ []

unfoldable pub comes : ℕ → List Line
comes k = calls k (call.Init k (client_name k) (codes "A")) ∷ joins_again k

unfoldable pub all_but : ℕ → Mask
all_but k = without_node (mask_of eight) k

unfoldable pub first_lines : List Line
first_lines = map starts eight ++ asks 1 (mask_of eight) ∷ line.Flow ∷ [] ++ flat_map comes eight

unfoldable pub next_seed : ℕ → ℕ
next_seed x = (x * 6364136223846793005 + 1442695040888963407) % 2 ^ 64

-- a node other than k
unfoldable pub asker : ℕ → ℕ
asker k = elim (k == 1) [ true ↦ 2 | false ↦ 1 ]

-- what one number of the sequence does: a message, a state change, a restart, or a partition that is healed
unfoldable pub load_step : ℕ → ℕ → ℕ → List Line
load_step i k c =
    elim (nat_lt c 5) [
      | true ↦ calls k (call.SendMessage (client_name k) load_group One (codes "m" ++ decimal i)) ∷ line.Flow ∷ []
      | false ↦ elim (c == 5) [
        | true ↦ calls k (call.ChangeState (client_name k) load_group Many (codes "s" ++ decimal i)) ∷ line.Flow ∷ []
        | false ↦ elim (c == 6) [
          | true ↦
              line.Plain (event.Stop k) ∷ asks (asker k) (all_but k) ∷ line.Flow ∷ starts k ∷ asks (asker k) (mask_of eight) ∷ line.Flow ∷ comes k
          | false ↦
              asks (asker k) (all_but k) ∷ asks k (mask_of (k ∷ [])) ∷ line.Flow ∷ asks (asker k) (mask_of eight) ∷ line.Flow ∷ joins_again k
        ]
      ]
    ]

unfoldable pub load_from : ℕ → ℕ → ℕ → List Line
load_from zero i x = []
load_from (suc n) i x =
    let y : ℕ = next_seed x in load_step i (1 + (y / 2 ^ 33) % 8) ((y / 2 ^ 40) % 8) ++ load_from n (i + 1) y

unfoldable pub load_lines : ℕ → List Line
load_lines n = first_lines ++ load_from n 1 n

unfoldable pub is_in : Happened → Bool
is_in (In node view members) = true
is_in _ = false

unfoldable pub is_put : Happened → Bool
is_put (Put node view group place e) = true
is_put _ = false

unfoldable pub is_heard : Happened → Bool
is_heard (Heard p view group place e members value) = true
is_heard _ = false

unfoldable pub is_told : Happened → Bool
is_told (Told p r y) = true
is_told _ = false

unfoldable pub counted : (Happened → Bool) → List Happened → List ℕ
counted test rs = decimal (length (filter test rs)) ++ codes "\n"

unfoldable pub summary_of : ℕ → List Happened → List ℕ
summary_of n rs =
    codes "load " ++ decimal n ++ codes "\nviews " ++ counted is_in rs ++ codes "puts " ++ counted is_put rs ++ codes "heard " ++ counted is_heard rs
    ++ codes "told " ++ counted is_told rs

-- what is written of a load of n steps
unfoldable pub load_text : ℕ → List ℕ
load_text n = summary_of n (played_records (settings_of Asked eight) (load_lines n))

-- ---- a list that is filled by n messages of one member

unfoldable pub so_often : ℕ → List Line → List Line
so_often zero ls = []
so_often (suc n) ls = ls ++ so_often n ls

unfoldable pub messages : ℕ → List Line
messages n =
    calls 1 (call.Init 1 (codes "a") (codes "A")) ∷ calls 1 (call.Join (codes "a") (codes "db") 1 empty_attrs) ∷ line.Flow
    ∷ so_often n (calls 1 (call.SendMessage (codes "a") (codes "db") One (codes "x")) ∷ line.Flow ∷ [])

-- opens each word of this file, for a computation
unfoldable pub load_opens : Unit {0}
unfolding mask_of settings_of client_name starts asks calls joins_again comes all_but first_lines next_seed asker load_step load_from load_lines is_in is_put is_heard is_told counted summary_of load_text so_often messages
load_opens = tt
