-- What holds of each record since a node entered a view in the event that goes on; and what holds where nothing is put.
use Rattle.std.proofs.Common.{ℕ, List, [], ◌∷◌}
use Rattle.rsct_packet.specs.declared.ids.ViewId.{ViewId}
use Rattle.rsct_packet.specs.declared.ids.Member.{Member}
use Rattle.node_state.specs.declared.happened.Happened.{Happened}
use Rattle.node_state.specs.declared.happened.Happened.TheVariants as happened
use Rattle.run_safety.specs.Past.{History, Within}

abbrev pub SinceOf : (List Happened → History → Happened → Type 0) → List Happened → History → Happened → Type 0 → Type 0
SinceOf P now h (happened.In n v ms) rest = Unit {0}
SinceOf P now h r rest = P now h r × rest

-- of each record since the latest In, or of all where there is none
abbrev pub Since : (List Happened → History → Happened → Type 0) → List Happened → History → Type 0
Since P [] h = Unit {0}
Since P (r ∷ now) h = SinceOf P now h r (Since P now h)

-- C holds of the records so far: then of each since the latest In follows Q by one, and at an In it holds of all before
module _ (P Q : List Happened → History → Happened → Type 0) (h : History) (C : List Happened → Type 0) (less : (r : Happened) (now : List Happened) → C (r ∷ now) → C now) (one : (r : Happened) (now : List Happened) → C (r ∷ now) → P now h r → Q now h r) (enters : (n : ℕ) (v : ViewId) (ms : List Member) (now : List Happened) → C (happened.In n v ms ∷ now) → Within Q (happened.In n v ms ∷ now) h) where
  since_step : (r : Happened) (now : List Happened) → C (r ∷ now) → SinceOf P now h r (Since P now h) → (Since P now h → Within Q now h) → Within Q (r ∷ now) h
  since_step (happened.In n v ms) now c k rest = enters n v ms now c
  since_step (happened.Put n v g i e) now c k rest = (one (happened.Put n v g i e) now c k.0, rest k.1)
  since_step (happened.Up n j) now c k rest = (one (happened.Up n j) now c k.0, rest k.1)
  since_step (happened.Down n) now c k rest = (one (happened.Down n) now c k.0, rest k.1)
  since_step (happened.Ring n network ring ms next) now c k rest = (one (happened.Ring n network ring ms next) now c k.0, rest k.1)
  since_step (happened.Base n v g old len s) now c k rest = (one (happened.Base n v g old len s) now c k.0, rest k.1)
  since_step (happened.Heard p v g i e ms value) now c k rest = (one (happened.Heard p v g i e ms value) now c k.0, rest k.1)
  since_step (happened.Cast p proto phase vote value message) now c k rest = (one (happened.Cast p proto phase vote value message) now c k.0, rest k.1)
  since_step (happened.Asked p r g x) now c k rest = (one (happened.Asked p r g x) now c k.0, rest k.1)
  since_step (happened.Told p r why) now c k rest = (one (happened.Told p r why) now c k.0, rest k.1)
  since_step (happened.Noted n client v place note) now c k rest = (one (happened.Noted n client v place note) now c k.0, rest k.1)
  since_step (happened.Refused n client fault) now c k rest = (one (happened.Refused n client fault) now c k.0, rest k.1)
  since_step (happened.Shown n line) now c k rest = (one (happened.Shown n line) now c k.0, rest k.1)

  pub since_within : (now : List Happened) → C now → Since P now h → Within Q now h
  since_within [] c k = tt
  since_within (r ∷ now) c k = since_step r now c k (since_within now (less r now c))
