-- What a pass does where clients answer.
use Rattle.std.specs.Prelude.{◌≡◌, ◌++◌, Bool, List, Option, map}
use Rattle.client_callbacks.specs.declared.votes.VoteItem.{VoteItem}
use Rattle.client_callbacks.specs.Handed.{Handed}
use Rattle.node_state.specs.declared.state.Core.{Core}
use Rattle.node_state.specs.HandOn.{Answering}
use Rattle.node_state.specs.Ending.{Pass}
use Rattle.entry_delivery.specs.Received.{Handing, Receive}
use Rattle.entry_delivery.specs.Doing.{Does}

abbrev pub passed : Core → Bool → Pass
passed s began = record { core = s; began = began }

abbrev pub AreThese : List Handing → List Handing → Type 0
AreThese hs xs = xs ≡ hs

-- some of which P holds, and then these
abbrev pub Before : (List Handing → Type 0) → List Handing → List Handing → Type 0
Before P hs xs = (ys : List Handing) × P ys × (xs ≡ ys ++ hs)

-- t, and whether something has begun, is what the rule makes of s, and P holds of what was handed to clients: what is
-- done next with these two is done with what the rule makes of s
pub record DoesPass (scripts : List (Option (List (Option VoteItem)))) (P : List Handing → Type 0) (s t : Core) (began : Bool) (rule : Answering → Pass) : Type 0 where
  pub next : (u : Core) (rest : Answering → Pass → Core) (hs : List Handing) → Does scripts (AreThese hs) t u (λ f. rest f (passed t began)) → Does scripts (Before P hs) s u (λ f. rest f (rule f))

-- what a pass does where these clients answer, which stand for what they were handed
abbrev pub PassDoes : {C : Type 0} → (C → Option (List (Option VoteItem))) → (C → List Handed → Type 0) → List C → List C → Core → Core → Bool → (Answering → Pass) → Type 0
PassDoes script stands_for old new s t began rule = DoesPass (map script old) (Receive stands_for old new) s t began rule
