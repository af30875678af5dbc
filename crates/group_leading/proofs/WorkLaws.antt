-- A node stays at work through what asks no client.
use Rattle.std.proofs.Common.{◌≡◌, List, [], length, Option, refl}
use Rattle.std.specs.Prelude.{Result, Ok, Err, OnOk}
use Rattle.client_callbacks.specs.declared.votes.VoteItem.{VoteItem}
use Rattle.node_state.specs.declared.state.Core.{Core}
use Rattle.node_state.specs.HandOn.{Answering}
use Rattle.node_groups.specs.Keeps.{Keeps}
use Rattle.entry_delivery.specs.Received.{Handing}
use Rattle.entry_delivery.specs.Doing.{Follows, Ready, Does}
use Rattle.entry_delivery.proofs.DoingLaws.{ready_same, does_plain, does_as}
use Rattle.group_leading.specs.Working.{AtWork}

pub keeps_follows : (s t : Core) → Keeps s t → Follows s t
keeps_follows s t k = record { grows = k.records; lives = k.sessions.0; handed = k.handed; owners = k.owners; along = k.along }

-- with other clients, but as many of them
pub ready_kept : {C : Type 0} (s t : Core) (cs ds : List C) → Keeps s t → length ds ≡ length cs → Ready s cs → Ready t ds
ready_kept s t cs ds k many r = ready_same s t cs ds k.sessions.0 k.sessions.1 many r

pub work_moved : {C : Type 0} (s t : Core) (cs ds : List C) → Keeps s t → length ds ≡ length cs → AtWork s cs → AtWork t ds
work_moved s t cs ds k many w = record { ready = ready_kept s t cs ds k many w.ready; order = k.order w.order }

pub work_kept : {C : Type 0} (s t : Core) (clients : List C) → Keeps s t → AtWork s clients → AtWork t clients
work_kept s t clients k w = work_moved s t clients clients k refl w

-- two clauses of one call
pub on_ok_both : {T E : Type 0} (P Q : Type 0) (r : Result T E) → OnOk r P → OnOk r Q → OnOk r (P × Q)
on_ok_both P Q (Ok x) p q = (p, q)
on_ok_both P Q (Err e) p q = tt

-- what hands nothing on
pub kept_does : (scripts : List (Option (List (Option VoteItem)))) (P : List Handing → Type 0) → P [] → (s t : Core) (row : Answering → Core) → ((f : Answering) → t ≡ row f) → Keeps s t → Does scripts P s t row
kept_does scripts P q s t row same keeps = does_as scripts P s t (λ f. t) row same (does_plain scripts P s t t q refl (keeps_follows s t keeps))
