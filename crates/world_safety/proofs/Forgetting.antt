-- What a member was told to forget in the sample run, and what not; and what its leader forgets.
use Rattle.std.proofs.Common.{◌≡◌, ◌≤◌, ◌⊎◌, ℕ, List, [], ◌∷◌, ◌++◌, Bool, true, false, refl, sym, ap, ◌∙◌, subst, inl, inr, arith}
use Rattle.std.specs.Prelude.{◌==◌, codes, fold}
use Rattle.std.specs.List.{list_any}
use Rattle.rsct_packet.specs.declared.ids.ViewId.{ViewId}
use Rattle.rsct_packet.specs.declared.ids.Member.{Member}
use Rattle.rsct_packet.specs.Search.{Has}
use Rattle.group_attr.specs.declared.attrs.Phases.TheVariants.{One}
use Rattle.node_state.specs.declared.call.CallLine.TheVariants as call
use Rattle.node_state.specs.declared.config.Config.{Config}
use Rattle.node_state.specs.declared.packet.Body.{Body}
use Rattle.node_state.specs.declared.packet.Body.TheVariants.{Entry}
use Rattle.node_state.specs.declared.packet.Packet.{Packet}
use Rattle.node_state.specs.declared.state.Core.{Core}
use Rattle.node_state.specs.State.{len_of}
use Rattle.node_state.specs.Step.{NodeEvent, Given}
use Rattle.world_model.specs.declared.event.Event.TheVariants as event
use Rattle.world_model.specs.World.{happens, world_new}
use Rattle.run_safety.proofs.Tests.{has_any}
use Rattle.world_laws.specs.world_answers.Answers.{Answered, events_in, answered_after, worded, worded_from, all_worded}
use Rattle.world_safety.specs.Events.{AllMayHappen}
use Rattle.world_safety.specs.Floors.{WasGiven, ToldToForget, HasAcknowledged, KnowsHeld, IsGreatest, IsLeastHeld}
use Rattle.world_safety.specs.Samples.{db, hello, one_view, two_members, pair, until_acked, until_told, acks, tells, two_entries, first_ack, second_entry, sent_after, core_after, start_after}
use Rattle.world_safety.specs.Opens.{all_opens}
use Rattle.world_safety.proofs.Asking.{worded_at, there}
use Rattle.world_safety.proofs.Askers.{sent_further}
use Rattle.world_safety.proofs.Moments.{front_may}
use Rattle.world_safety.proofs.Posting.{kth_is}
use Rattle.world_safety.proofs.Runs.{every_run_is_reached}

-- ---- what was given was sent

was_sent : {Says : Core → NodeEvent → Type 0} (c : Config) (es : List Answered) → AllMayHappen c (events_in es) → (n : ℕ) (v : ViewId) (k : WasGiven c es n v Says) → Has k.gives.packet (answered_after c es).sent
was_sent c es may n v k = subst (λ z. Has k.gives.packet (answered_after c z).sent) (sym k.at) (sent_further c k.gives.packet (k.event ∷ k.rest) k.before here sent_then)
  where
    here : AllMayHappen c (events_in (k.before ++ k.event ∷ k.rest))
    here = subst (λ z. AllMayHappen c (events_in z)) k.at may

    sent_then : Has k.gives.packet (answered_after c k.before).sent
    sent_then =
        let run = every_run_is_reached c k.before (front_may c k.before (k.event ∷ k.rest) here) in
        run.4.came k.gives.packet (kth_is (λ z. Has z run.0.sent) (answered_after c k.before) k.gives.sender n k.gives.number k.gives.packet run.4.paired k.gives.given)

-- ---- the member

pub member_starts : start_after pair two_entries 2 db ≡ 1
unfolding all_opens
member_starts = refl

pub member_was_told : ToldToForget pair (all_worded pair two_entries) 2 one_view db 1
unfolding all_opens
member_was_told =
    record {
      before = all_worded pair (until_acked ++ until_told);
      event = worded (fold happens (world_new pair) (until_acked ++ until_told)) tells;
      rest = worded_from (happens (fold happens (world_new pair) (until_acked ++ until_told)) tells) [];
      at = worded_at (world_new pair) (until_acked ++ until_told) [] tells;
      gives = record { core = core_after pair (until_acked ++ until_told) 2; up = there pair (until_acked ++ until_told) 2 refl; view = refl; sender = 1; number = 2; happens = refl; packet = second_entry; given = refl; says = record { packet = second_entry; given = refl; to = refl; place = 1; entry = _; says = refl; used = refl; room = λ e. refl } };
    }

abbrev says_two : Body → Bool
says_two (Entry v g i k e) = k == 2
says_two _ = false

abbrev tells_two : Packet → Bool
tells_two p = says_two p.body

own_length_was_not_told : ToldToForget pair (all_worded pair two_entries) 2 one_view db 2 → ⊥
unfolding all_opens
own_length_was_not_told t =
    let none : list_any tells_two (sent_after pair two_entries) ≡ false = refl in
    let may : AllMayHappen pair (events_in (all_worded pair two_entries)) = (tt, (tt, (tt, (tt, (tt, (tt, (tt, (tt, tt)))))))) in
    let body = ap (λ (p : Packet). says_two p.body) (same t.gives.packet t.gives.says.packet t.gives.says.given) ∙ ap says_two t.gives.says.says in
    let clash : true ≡ false = sym (has_any tells_two (sent_after pair two_entries) t.gives.packet (was_sent pair (all_worded pair two_entries) may 2 one_view t) body) ∙ none in cc
  where
    same : (p q : Packet) → Given p ≡ Given q → p ≡ q
    same p q e = cc

-- a machine that never forgets, and one that forgets at its own length
pub never_is_refused : IsGreatest (ToldToForget pair (all_worded pair two_entries) 2 one_view db) 0 → ⊥
never_is_refused k = let le : 1 ≤ 0 = k.all 1 member_was_told in omega arith

pub own_length_is_refused : IsGreatest (ToldToForget pair (all_worded pair two_entries) 2 one_view db) 2 → ⊥
own_length_is_refused k = by k.one
  where
    by : (◌≡◌ {A = ℕ} 2 0) ⊎ ToldToForget pair (all_worded pair two_entries) 2 one_view db 2 → ⊥
    by (inl e) = cc
    by (inr t) = own_length_was_not_told t

-- ---- its leader

pub leader_starts : start_after pair two_entries 1 db ≡ 1
unfolding all_opens
leader_starts = refl

pub member_acknowledged : HasAcknowledged pair (all_worded pair two_entries) 1 one_view db 2 1
unfolding all_opens
member_acknowledged =
    record {
      before = all_worded pair until_acked;
      event = worded (fold happens (world_new pair) until_acked) acks;
      rest = worded_from (happens (fold happens (world_new pair) until_acked) acks) (event.Call 1 (call.SendMessage (codes "a") db One hello) ∷ event.Deliver 1 1 2 ∷ tells ∷ []);
      at = worded_at (world_new pair) until_acked (event.Call 1 (call.SendMessage (codes "a") db One hello) ∷ event.Deliver 1 1 2 ∷ tells ∷ []) acks;
      gives = record { core = core_after pair until_acked 1; up = there pair until_acked 1 refl; view = refl; sender = 2; number = 1; happens = refl; packet = first_ack; given = refl; says = record { packet = first_ack; given = refl; to = refl; from = refl; says = refl; used = refl; led = refl } };
    }

-- a leader whose list of two entries lacks nothing, though the member has acknowledged one
keeps_all : (s : Core) → s.views.members ≡ two_members → s.views.me ≡ 1 → s.views.view ≡ one_view → len_of s db ≡ 2 → IsLeastHeld pair (all_worded pair two_entries) s db 0 → ⊥
keeps_all s members me view len k = by k.one.0 (subst (Has k.one.0) members k.one.1) k.one.2
  where
    apart : (m : ℕ) → m ≡ 1 → m ≡ 2 → ⊥
    apart m e q = omega arith

    some : (n : ℕ) → n ≡ 2 → 0 ≡ n → ⊥
    some n e q = omega arith

    own : (m : ℕ) → m ≡ 1 → KnowsHeld pair (all_worded pair two_entries) s db m 0 → ⊥
    own m e (inl z) = some (len_of s db) len z.1
    own m e (inr z) = z.0 (e ∙ sym me)

    other : (m : ℕ) → m ≡ 2 → KnowsHeld pair (all_worded pair two_entries) s db m 0 → ⊥
    other m e (inl z) = apart m (z.0 ∙ me) e
    other m e (inr z) =
        let le : 1 ≤ 0 = z.1.all 1 (subst (λ (i : ℕ × ViewId × ℕ). HasAcknowledged pair (all_worded pair two_entries) i.0 i.1 db i.2 1) (λ i. (sym me i, sym view i, sym e i)) member_acknowledged) in omega arith

    by : (m : Member) → Has m two_members → KnowsHeld pair (all_worded pair two_entries) s db m.node 0 → ⊥
    by m (inl e) z = own m.node (ap (λ (y : Member). y.node) e) z
    by m (inr (inl e)) z = other m.node (ap (λ (y : Member). y.node) e) z
    by m (inr (inr h)) z = absurd h

pub leader_that_keeps_is_refused : IsLeastHeld pair (all_worded pair two_entries) (core_after pair two_entries 1) db 0 → ⊥
unfolding all_opens
leader_that_keeps_is_refused = keeps_all (core_after pair two_entries 1) refl refl refl refl
