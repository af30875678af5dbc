-- A run that ends where its packets pass a number of bytes.
use Rattle.std.specs.Prelude.{ℕ, Bool, true, false, ◌+◌, ◌-◌, List, [], ◌∷◌, fold, length, take, Option, Some, None, nat_lt}
use Rattle.rsct_packet.specs.Lists.{reverse_onto}
use Rattle.node_state.specs.declared.config.Config.{Config}
use Rattle.node_state.specs.declared.happened.Happened.{Happened}
use Rattle.node_state.specs.declared.packet.Packet.{Packet}
use Rattle.node_state.specs.Bytes.{packet_len}
use Rattle.world_model.specs.declared.event.Event.{Event}
use Rattle.world_model.specs.declared.script.Script.{Script}
use Rattle.world_model.specs.Reading.{ScriptRead, IsScript, IsNone, script_of}
use Rattle.world_model.specs.World.{World, happens, world_new}
use Rattle.world_model.specs.Play.{events_of, lines_text, written, kinds_in}

-- the bytes of packets, from so many on, and their sum at the first packet that passes the limit
pub record Bytes : Type 0 where
  pub sum : ℕ
  pub passed : Option ℕ

unfoldable pub passed_if : Bytes → ℕ → Bool → Bytes
passed_if b sum true = record { sum = sum; passed = Some sum }
passed_if b sum false = record { sum = sum; passed = None }

unfoldable pub with_packet : ℕ → Bytes → Packet → Bytes
with_packet limit b p =
    elim b.passed [ Some n ↦ b | None ↦ let sum : ℕ = b.sum + packet_len p in passed_if b sum (nat_lt limit sum) ]

-- the packets that an event sent, in order
unfoldable pub sent_since : World → World → List Packet
sent_since old new = reverse_onto (take (length new.sent - length old.sent) new.sent) []

-- how far a run goes: the world in which it ends, and the sum that passed the limit, if one did
pub record Ended : Type 0 where
  pub world : World
  pub passed : Option ℕ

-- the event that passes the limit leaves nothing
unfoldable pub runs_from : ℕ → ℕ → World → List Event → Ended
runs_from limit sum w [] = record { world = w; passed = None }
runs_from limit sum w (e ∷ es) =
    let v : World = happens w e in
    let b : Bytes = fold (with_packet limit) (record { sum = sum; passed = None }) (sent_since w v) in
    elim b.passed [ Some n ↦ record { world = w; passed = Some n } | None ↦ runs_from limit b.sum v es ]

-- events whose packets may have so many bytes
unfoldable pub runs_within : ℕ → Config → List Event → Ended
runs_within limit c es = runs_from limit 0 (world_new c) es

unfoldable pub ended : ℕ → Script → Ended
ended limit s = elim s.begun [ true ↦ runs_within limit s.config (events_of s.config s.lines) | false ↦ record { world = world_new s.config; passed = None } ]

-- the sum that passes the limit, if one does
unfoldable pub kept_past : ℕ → Script → Option ℕ
kept_past limit s = (ended limit s).passed

unfoldable pub kept_in : ℕ → ScriptRead → Option ℕ
kept_in limit (IsScript s) = kept_past limit s
kept_in limit (IsNone n y) = None

-- of the bytes of a script
unfoldable pub kept_of : ℕ → List ℕ → Option ℕ
kept_of limit bytes = kept_in limit (script_of bytes)

-- what is recorded before that
unfoldable pub kept_records : ℕ → Script → List Happened
kept_records limit s = elim s.begun [ true ↦ reverse_onto (ended limit s).world.trace [] | false ↦ [] ]

unfoldable pub text_in : ℕ → List (List ℕ) → ScriptRead → List ℕ
text_in limit kinds (IsScript s) = lines_text kinds (kept_records limit s)
text_in limit kinds (IsNone n y) = written kinds (IsNone n y)

-- what is written of the bytes of a script until its packets pass the limit
unfoldable pub kept_text : ℕ → List ℕ → List ℕ → List ℕ
kept_text limit kinds bytes = text_in limit (kinds_in kinds) (script_of bytes)

-- how many bytes the packets of one run may have
abbrev pub most_kept : ℕ
most_kept = 536870912

-- opens each word of this file, for a computation
unfoldable pub kept_opens : Unit {0}
unfolding passed_if with_packet sent_since runs_from runs_within ended kept_past kept_in kept_of kept_records text_in kept_text
kept_opens = tt
