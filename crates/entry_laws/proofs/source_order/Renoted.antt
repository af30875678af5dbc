-- A run may be noted so that its deliveries are noted as such; and the laws of records are of records alone.
use Rattle.std.proofs.Common.{◌≡◌, ℕ, List, ◌++◌, Some, refl, subst}
use Rattle.rsct_packet.specs.declared.ids.ProtoId.{ProtoId}
use Rattle.node_state.specs.declared.happened.Happened.{Happened}
use Rattle.node_state.specs.declared.happened.Happened.TheVariants as happened
use Rattle.node_state.specs.Step.{NodeEvent, Ticks, Asks, Given, Calls, Garbage}
use Rattle.world_model.specs.declared.event.Event.{Event}
use Rattle.world_model.specs.declared.event.Event.TheVariants as event
use Rattle.run_safety.specs.Past.{records_of, History, state_at}
use Rattle.entry_laws.specs.source_order.Meant.{DeliveryNoted}
use Rattle.entry_laws.specs.source_order.Sources.{OfBegun, Rises, reflects, Climbs, RecordRises, RecordCarries, RecordClimbs}

-- a delivery is noted
pub note_of : ℕ → NodeEvent → Event → Event
note_of n (Given p) v = event.Deliver 0 n 0
note_of n _ v = v

pub is_noted : (n : ℕ) (e : NodeEvent) (v : Event) → DeliveryNoted n e (note_of n e v)
unfolding note_of
is_noted n Ticks v = tt
is_noted n (Given p) v = refl
is_noted n (Asks mask) v = tt
is_noted n (Calls c) v = tt
is_noted n Garbage v = tt

pub rises_same : (now : List Happened) (k h : History) (r : Happened) → records_of k ≡ records_of h → RecordRises now k r → RecordRises now h r
rises_same now k h (happened.Put n v g i e) s z = subst (λ rs. OfBegun (Rises (state_at n v g i (now ++ rs))) e) s z
rises_same now k h _ s z = tt

pub carries_same : (now : List Happened) (k h : History) (r : Happened) → records_of k ≡ records_of h → RecordCarries now k r → RecordCarries now h r
carries_same now k h (happened.Put n v g i e) s z = z
carries_same now k h _ s z = tt

pub climbs_same : (now : List Happened) (k h : History) (r : Happened) → records_of k ≡ records_of h → RecordClimbs now k r → RecordClimbs now h r
climbs_same now k h (happened.Put n v g i e) s z = subst (λ rs. (d : ProtoId) → reflects e ≡ Some d → Climbs n v g (now ++ rs) d) s z
climbs_same now k h _ s z = tt
