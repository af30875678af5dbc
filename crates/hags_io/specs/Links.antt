-- What calls of a link and of a clock add to what these tell.
use Rattle.std.specs.Prelude.{◌≡◌, ℕ, ◌≤◌, Bool, true, false, List, [], ◌∷◌, ◌++◌, length, take, Option, Some, None}
use Rattle.hags_io.specs.declared.source.Put.{Put}
use Rattle.hags_io.specs.declared.source.Put.TheVariants as put
use Rattle.hags_io.specs.declared.link.Got.{Got}
use Rattle.hags_io.specs.declared.link.Got.TheVariants as got
use Rattle.hags_io.specs.declared.link.LinkCall.{LinkCall}
use Rattle.hags_io.specs.declared.link.LinkCall.TheVariants as call

-- what is told stays
abbrev pub Same : {A : Type 0} → Option A → Option A → Type 0
Same None new = Unit {0}
Same (Some x) new = new ≡ Some x

-- what is told changes like this
abbrev pub Tells : {A : Type 0} → Option A → Option A → (A → A) → Type 0
Tells None new f = Unit {0}
Tells (Some x) new f = new ≡ Some (f x)

-- a list that is told grows by these
abbrev pub Grows : {A : Type 0} → Option (List A) → Option (List A) → List A → Type 0
Grows None new more = Unit {0}
Grows (Some xs) new more = new ≡ Some (xs ++ more)

-- the same of moments: who tells may stop telling, for good
abbrev pub Counts : Option (List ℕ) → Option (List ℕ) → List ℕ → Type 0
Counts None None more = Unit {0}
Counts None (Some ys) more = ⊥
Counts (Some xs) None more = Unit {0}
Counts (Some xs) (Some ys) more = ys ≡ xs ++ more

abbrev pub was_opened : ℕ → Bool → Option (ℕ × Bool) → Option (ℕ × Bool)
was_opened port done old = Some (port, done)

-- a datagram, silence or a fault is told; want of memory is not
abbrev pub Receives : Option (List LinkCall) → Option (List LinkCall) → Got → List ℕ → Type 0
Receives old new (got.Datagram n network) buf = (n ≤ length buf) × Grows old new (call.Received network (take n buf) ∷ [])
Receives old new got.Quiet buf = Grows old new (call.Quiet ∷ [])
Receives old new got.Failed buf = Grows old new (call.Failed ∷ [])
Receives old new got.NoMemory buf = Same old new

abbrev pub Sends : Option (List LinkCall) → Option (List LinkCall) → Put → ℕ → ℕ → List ℕ → Type 0
Sends old new put.Done node network b = Grows old new (call.Sent node network b true ∷ [])
Sends old new put.Failed node network b = Grows old new (call.Sent node network b false ∷ [])
Sends old new put.NoMemory node network b = Same old new
