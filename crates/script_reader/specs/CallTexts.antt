-- The bytes that a call of a client is handed on as.
use Rattle.std.specs.Prelude.{ℕ, ◌≤◌, List, length}
use Rattle.rsct_packet.specs.Format.{EachFits}
use Rattle.world_model.specs.declared.script.Script.{Script}
use Rattle.remote_session.specs.Messages.{max_line}

-- there are some, and no more than a call has
abbrev pub IsHandedText : List ℕ → Type 0
IsHandedText text = (1 ≤ length text) × (length text ≤ max_line)

-- so are those of each call of a script
abbrev pub HandsTexts : Script → Type 0
HandsTexts s = EachFits IsHandedText s.texts
