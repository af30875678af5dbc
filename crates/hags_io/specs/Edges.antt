-- What one call of a source or a sink does, and when a count of faults rose.
use Rattle.std.specs.Prelude.{◌≡◌, ℕ, ◌+◌, ◌-◌, ◌^◌, ◌<◌, ◌≤◌, min, List, ◌++◌, length, take, Option}
use Rattle.std.specs.Io.KnownBytes.{Appends, Consumes, IsAtEnd, Keeps}
use Rattle.hags_io.specs.declared.source.Taken.{Taken}
use Rattle.hags_io.specs.declared.source.Taken.TheVariants as taken
use Rattle.hags_io.specs.declared.source.Put.{Put}
use Rattle.hags_io.specs.declared.source.Put.TheVariants as put

-- The count rose, or stands at its last value.
abbrev pub Rose : ℕ → ℕ → Type 0
Rose before now = min (before + 1) (2 ^ 64 - 1) ≤ now

-- Bytes are the first that were left; the end comes only where nothing is left; a fault takes nothing.
abbrev pub Takes : Option (List ℕ) → Option (List ℕ) → Taken → List ℕ → Type 0
Takes old new (taken.Bytes n) buf = (0 < n) × (n ≤ length buf) × Consumes old new (take n buf)
Takes old new taken.End buf = IsAtEnd old × IsAtEnd new × Keeps old new
Takes old new taken.Failed buf = Keeps old new

-- what is held grew by a front of the text
pub record GrowsByFront (old new : Option (List ℕ)) (text : List ℕ) : Type 0 where
  pub front : List ℕ
  pub back : List ℕ
  pub whole : front ++ back ≡ text
  pub grows : Appends old new front

-- All of b went out, or a front of it, or nothing.
abbrev pub Puts : Option (List ℕ) → Option (List ℕ) → Put → List ℕ → Type 0
Puts old new put.Done b = Appends old new b
Puts old new put.Failed b = GrowsByFront old new b
Puts old new put.NoMemory b = Keeps old new
