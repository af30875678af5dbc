-- Since the call of an event nobody came in at the node, and nobody asked for a join.
use Rattle.std.proofs.Common.{◌≡◌, ◌⊎◌, ℕ, List, ◌++◌, Option, Some, None, refl, ap, ◌∙◌, inl, inr}
use Rattle.std.specs.Prelude.{reverse}
use Rattle.std.specs.List.{list_any}
use Rattle.std.proofs.lemmas.List.{reverse-append}
use Rattle.rsct_packet.specs.declared.ids.ProviderId.{ProviderId}
use Rattle.rsct_packet.specs.Search.{Has}
use Rattle.rsct_packet.proofs.HasLaws.{has_append, has_reverse}
use Rattle.proposal_core.specs.declared.proposal.Proposal.{Proposal}
use Rattle.session_state.specs.declared.state.SessionState.{SessionState}
use Rattle.node_state.specs.declared.happened.Happened.{Happened}
use Rattle.node_state.specs.declared.happened.Happened.TheVariants as happened
use Rattle.node_state.specs.declared.state.Core.{Core}
use Rattle.node_state.specs.Calls.{take_call}
use Rattle.node_state.specs.Step.{NodeEvent, Ticks, Asks, Given, Calls, Garbage}
use Rattle.run_safety.specs.Stays.{asks_join}
use Rattle.row_laws.proofs.failed_rows.Living.{Slimmer, slim_same, slim_then}
use Rattle.row_laws.proofs.failed_rows.Facts.{Unasked, unasked_join, none_asked}

-- nobody came in and nobody asked since a state of the node
pub record Slim (root : Core) (t : SessionState) (rs : List Happened) : Type 0 where
  pub sessions : Slimmer root.sessions t
  pub asks : (p : ProviderId) → list_any (asks_join p) (reverse rs) ≡ list_any (asks_join p) (reverse root.records)
  pub asked : (p : ProviderId) (r : ℕ) (g : List ℕ) (x : Proposal) → Has (happened.Asked p r g x) rs → Has (happened.Asked p r g x) root.records

-- what a step is measured by: the incarnation, and the node after the call, where one is followed
pub record Origin : Type 0 where
  pub born : ℕ
  pub root : Option Core

abbrev pub SlimIf : Option Core → SessionState → List Happened → Type 0
SlimIf None t rs = Unit {0}
SlimIf (Some c) t rs = Slim c t rs

pub slim_self : (s : Core) → Slim s s.sessions s.records
slim_self s = record { sessions = slim_same s.sessions s.sessions refl refl refl; asks = λ p. refl; asked = λ p r g x i. i }

pub slim_more : (o : Option Core) (t : SessionState) (rs new : List Happened) → ((r : Happened) → Has r new → Unasked r) → SlimIf o t rs → SlimIf o t (rs ++ new)
slim_more None t rs new none k = tt
slim_more (Some root) t rs new none k =
    record {
      sessions = k.sessions;
      asks = λ p. ap (list_any (asks_join p)) (reverse-append rs new) ∙ none_asked p (reverse new) (reverse rs) (λ r i. unasked_join r (none r (has_reverse r new i)) p) ∙ k.asks p;
      asked = λ p r g x i. before p r g x (has_append (happened.Asked p r g x) rs new i);
    }
  where
    before : (p : ProviderId) (r : ℕ) (g : List ℕ) (x : Proposal) → Has (happened.Asked p r g x) rs ⊎ Has (happened.Asked p r g x) new → Has (happened.Asked p r g x) root.records
    before p r g x (inl i) = k.asked p r g x i
    before p r g x (inr i) = absurd (none (happened.Asked p r g x) i)

pub slim_on : (o : Option Core) (t u : SessionState) (rs : List Happened) → Slimmer t u → SlimIf o t rs → SlimIf o u rs
slim_on None t u rs a k = tt
slim_on (Some root) t u rs a k = record { sessions = slim_then root.sessions t u k.sessions a; asks = k.asks; asked = k.asked }

-- where no call is followed
pub slim_free : (o : Option Core) (t : SessionState) (rs : List Happened) → o ≡ None → SlimIf o t rs
slim_free None t rs e = tt
slim_free (Some root) t rs e = absurd (cc)

-- the incarnation of a node, and the state that is followed
abbrev pub origin_of : Core → Option Core → Origin
origin_of s root = record { born = s.views.inc; root = root }

-- the node after the call of the event, or before any other event
abbrev pub root_of : Core → NodeEvent → Core
root_of s (Calls c) = take_call s c
root_of s Ticks = s
root_of s (Asks mask) = s
root_of s (Given p) = s
root_of s Garbage = s
