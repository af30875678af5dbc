-- What an outside tells: its deeds, and of each what the parts tell that did it.
use Rattle.std.specs.Prelude.{◌≡◌, ℕ, ◌+◌, ◌-◌, ◌^◌, ◌≤◌, min, Bool, true, false, List, [], ◌∷◌, ◌++◌, length, take, Option, Some}
use Rattle.std.specs.Io.KnownBytes.{Appends, Keeps}
use Rattle.hags_io.specs.declared.source.Put.{Put}
use Rattle.hags_io.specs.declared.source.Put.TheVariants as put
use Rattle.hags_io.specs.declared.link.Got.{Got}
use Rattle.hags_io.specs.declared.link.Got.TheVariants as got
use Rattle.hags_io.specs.declared.link.LinkCall.{LinkCall}
use Rattle.hags_io.specs.declared.link.LinkCall.TheVariants as call
use Rattle.hags_io.specs.declared.link.Places.{Places}
use Rattle.hags_io.specs.Deeds.{Deed, Read, Placed, Opened, Exchanged, Wrote}
use Rattle.hags_io.specs.Edges.{GrowsByFront}
use Rattle.hags_io.specs.Links.{Grows, Tells, Counts}
use Rattle.hags_io.specs.Places.{with_place}

-- All deeds, in the order in which they happened. Of the link the receives and sends that it tells, the places that it was
-- told, its last opening and its failures; of the sink what it holds, and its failures; of the clock the moments that it tells,
-- and the last one.
pub record Telling : Type 0 where
  pub deeds : List Deed
  pub calls : Option (List LinkCall)
  pub places : Option Places
  pub opened : Option (Option (ℕ × Bool))
  pub link_faults : ℕ
  pub held : Option (List ℕ)
  pub write_faults : ℕ
  pub moments : Option (List ℕ)
  pub last_moment : ℕ

-- what is told by a history with these deeds, a link, a sink and a clock
abbrev pub telling_of : List Deed → Option (List LinkCall) → Option Places → Option (Option (ℕ × Bool)) → ℕ
    → Option (List ℕ) → ℕ → Option (List ℕ) → ℕ → Telling
telling_of deeds calls places opened link_faults held write_faults moments last = record {
  deeds = deeds;
  calls = calls;
  places = places;
  opened = opened;
  link_faults = link_faults;
  held = held;
  write_faults = write_faults;
  moments = moments;
  last_moment = last;
}

-- ---- whose share of the deeds each part has

abbrev pub calls_in : List Deed → List LinkCall
calls_in [] = []
calls_in (Exchanged c ∷ ds) = c ∷ calls_in ds
calls_in (d ∷ ds) = calls_in ds

abbrev pub moments_in : List Deed → List ℕ
moments_in [] = []
moments_in (Read m ∷ ds) = m ∷ moments_in ds
moments_in (d ∷ ds) = moments_in ds

abbrev pub last_in : List Deed → ℕ → ℕ
last_in [] last = last
last_in (Read m ∷ ds) last = last_in ds m
last_in (d ∷ ds) last = last_in ds last

abbrev pub placed_by : List Deed → Places → Places
placed_by [] places = places
placed_by (Placed node network address port ∷ ds) places = placed_by ds (with_place node network address port places)
placed_by (d ∷ ds) places = placed_by ds places

abbrev pub opened_by : List Deed → Option (ℕ × Bool) → Option (ℕ × Bool)
opened_by [] o = o
opened_by (Opened port done ∷ ds) o = opened_by ds (Some (port, done))
opened_by (d ∷ ds) o = opened_by ds o

abbrev pub link_failure : Deed → ℕ
link_failure (Opened port false) = 1
link_failure (Exchanged call.Failed) = 1
link_failure (Exchanged (call.Sent node network bytes false)) = 1
link_failure d = 0

abbrev pub link_failures : List Deed → ℕ
link_failures [] = 0
link_failures (d ∷ ds) = link_failure d + link_failures ds

abbrev pub write_failure : Deed → ℕ
write_failure (Wrote bytes false) = 1
write_failure d = 0

abbrev pub write_failures : List Deed → ℕ
write_failures [] = 0
write_failures (d ∷ ds) = write_failure d + write_failures ds

-- all of the bytes, or a front of them
abbrev pub WroteIf : Bool → Option (List ℕ) → Option (List ℕ) → List ℕ → Type 0
WroteIf true old new bytes = Appends old new bytes
WroteIf false old new bytes = GrowsByFront old new bytes

-- what is held grew by what was written, one write after the other
abbrev pub Holds : Option (List ℕ) → Option (List ℕ) → List Deed → Type 0
Holds old new [] = Keeps old new
Holds old new (Wrote bytes whole ∷ ds) = (next : Option (List ℕ)) × WroteIf whole old next bytes × Holds next new ds
Holds old new (d ∷ ds) = Holds old new ds

-- the count rose by so many, or stands at its last value
abbrev pub Rises : ℕ → ℕ → ℕ → Type 0
Rises before now more = min (before + more) (2 ^ 64 - 1) ≤ now

-- These deeds were done, in this order; and what each part tells is its share of them.
pub record Did (old new : Telling) (more : List Deed) : Type 0 where
  pub deeds : new.deeds ≡ old.deeds ++ more
  pub calls : Grows old.calls new.calls (calls_in more)
  pub places : Tells old.places new.places (placed_by more)
  pub opened : Tells old.opened new.opened (opened_by more)
  pub link_faults : Rises old.link_faults new.link_faults (link_failures more)
  pub held : Holds old.held new.held more
  pub write_faults : Rises old.write_faults new.write_faults (write_failures more)
  pub moments : Counts old.moments new.moments (moments_in more)
  pub last_moment : new.last_moment ≡ last_in more old.last_moment

-- ---- what one call does

-- a datagram, silence or a fault; want of memory is no deed
abbrev pub DidReceive : Telling → Telling → Got → List ℕ → Type 0
DidReceive old new (got.Datagram n network) buf = (n ≤ length buf) × Did old new (Exchanged (call.Received network (take n buf)) ∷ [])
DidReceive old new got.Quiet buf = Did old new (Exchanged call.Quiet ∷ [])
DidReceive old new got.Failed buf = Did old new (Exchanged call.Failed ∷ [])
DidReceive old new got.NoMemory buf = Did old new []

abbrev pub DidSend : Telling → Telling → Put → ℕ → ℕ → List ℕ → Type 0
DidSend old new put.Done node network bytes = Did old new (Exchanged (call.Sent node network bytes true) ∷ [])
DidSend old new put.Failed node network bytes = Did old new (Exchanged (call.Sent node network bytes false) ∷ [])
DidSend old new put.NoMemory node network bytes = Did old new []

abbrev pub DidWrite : Telling → Telling → Put → List ℕ → Type 0
DidWrite old new put.Done bytes = Did old new (Wrote bytes true ∷ [])
DidWrite old new put.Failed bytes = Did old new (Wrote bytes false ∷ [])
DidWrite old new put.NoMemory bytes = Did old new []
