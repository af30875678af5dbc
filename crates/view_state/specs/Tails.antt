-- What every part of a list is.
use Rattle.std.specs.Prelude.{ℕ, ◌<◌, ◌^◌, IsTrue, List}
use Rattle.rsct_packet.specs.Format.{EachFits}
use Rattle.proposal_core.specs.Fold.{joiners_fit}
use Rattle.view_state.specs.declared.install.Part.{Part}
use Rattle.view_state.specs.declared.install.Source.{Source}
use Rattle.view_state.specs.declared.install.Install.{Install}
use Rattle.view_state.specs.declared.exchange.Exchange.{Exchange}
use Rattle.view_state.specs.declared.sides.Kept.{Kept}
use Rattle.view_state.specs.declared.sides.Side.{Side}
use Rattle.view_state.specs.Parts.{part_len}

-- its places are counted in 32 bits, and its running joiners fit its members
pub record IsTail (p : Part) : Type 0 where
  pub ends : part_len p < 2 ^ 32
  pub joiners : IsTrue (joiners_fit p.state)

abbrev pub AreTails : Source → Type 0
AreTails s = EachFits IsTail s.parts

-- an install whose parts are of lists, as one that was read is, and one that was made of such answers
pub record HasTails (i : Install) : Type 0 where
  pub each : EachFits AreTails i.sources

abbrev pub IsKeptTail : Kept → Type 0
IsKeptTail k = IsTail k.part

abbrev pub AreKeptTails : Side → Type 0
AreKeptTails s = EachFits IsKeptTail s.parts

-- a gathering whose parts are of lists
pub record KeepsTails (x : Exchange) : Type 0 where
  pub each : EachFits AreKeptTails x.sides
