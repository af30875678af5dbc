-- What appending an announcement leaves of the leader's row.
use Rattle.std.proofs.Common.{◌≡◌, ℕ, List, [], ◌∷◌, Some, Bool, true, false, refl, sym, ap, ◌∙◌, subst}
use Rattle.std.specs.Prelude.{fold, filter, not}
use Rattle.rsct_packet.specs.declared.ids.ProtoId.{ProtoId}
use Rattle.rsct_packet.specs.declared.ids.ProviderId.{ProviderId}
use Rattle.rsct_packet.specs.Providers.{among}
use Rattle.proposal_core.specs.declared.proposal.Cause.TheVariants.{Died, Gone}
use Rattle.proposal_core.specs.declared.entry.Entry.{Entry}
use Rattle.proposal_core.specs.declared.entry.Entry.TheVariants.{Late}
use Rattle.proposal_core.specs.declared.group_state.GroupState.{GroupState}
use Rattle.proposal_core.specs.Lists.{list_or_new, state_in, with_entry}
use Rattle.batch_rules.specs.Waiting.{add_failure}
use Rattle.node_state.specs.declared.group.GroupRow.{GroupRow}
use Rattle.node_state.specs.declared.packet.Body.{Body}
use Rattle.node_state.specs.declared.packet.Body.TheVariants as body
use Rattle.node_state.specs.declared.state.Core.{Core}
use Rattle.node_state.specs.State.{InNameOrder, row_of, with_row, with_led, led_of, state_of, len_of, list_forgotten, forget_below, leader_of, others, least_acked, recorded}
use Rattle.node_state.specs.Sending.{send_all}
use Rattle.node_state.specs.HandOn.{Answering, hand_on}
use Rattle.node_state.specs.Leading.{put, forget_least, with_waiting, wait_if, new_members_wait, appended}
use Rattle.node_state.proofs.NameOrder.{KeepsName, row_here, rows_ordered}
use Rattle.step_refinement.proofs.Appending.{sent_all_is, handed_rows}
use Rattle.entry_laws.proofs.late_rows.At.{found_in, found}
use Rattle.entry_laws.proofs.late_rows.Leading.{forgotten_same, late_same}

-- the tally is as it was, and so is what runs
record RowKept (s t : Core) (g : List ℕ) : Type 0 where
  order : InNameOrder t.groups
  tally : (found t g).led.tally ≡ (found s g).led.tally
  state : state_in (found t g).list ≡ state_in (found s g).list

kept_row : (s t : Core) (g : List ℕ) (f : GroupRow → GroupRow) → KeepsName f → ((y : GroupRow) → (f y).led.tally ≡ y.led.tally) → (state_in (f (found t g)).list ≡ state_in (found t g).list) → RowKept s t g → RowKept s (with_row t g f) g
unfolding with_row row_of
kept_row s t g f keeps tally state k =
    let here : found (with_row t g f) g ≡ f (found t g) = row_here g f keeps t k.order in
    record {
      order = rows_ordered g f keeps t k.order;
      tally = ap (λ (z : GroupRow). z.led.tally) here ∙ tally (found t g) ∙ k.tally;
      state = ap (λ (z : GroupRow). state_in z.list) here ∙ state ∙ k.state;
    }

kept_groups : (s t u : Core) (g : List ℕ) → u.groups ≡ t.groups → RowKept s t g → RowKept s u g
kept_groups s t u g q k =
    record {
      order = subst InNameOrder (sym q) k.order;
      tally = ap (λ rows. (found_in rows g).led.tally) q ∙ k.tally;
      state = ap (λ rows. state_in (found_in rows g).list) q ∙ k.state;
    }

kept_forgets : (s t : Core) (g : List ℕ) → RowKept s t g → RowKept s (forget_least t g) g
unfolding forget_least forget_below
kept_forgets s t g k =
    kept_row s t g (λ row. record row { list = list_forgotten (least_acked t g) row.list }) (λ y. refl) (λ y. refl) (forgotten_same (found t g).list (least_acked t g)).0 k

kept_waits : (s t : Core) (g : List ℕ) (p : ProviderId) (a b : Bool) → RowKept s t g → RowKept s (wait_if t g p a b) g
unfolding wait_if with_waiting with_led
kept_waits s t g p true b k = kept_row s t g (λ row. record row { led = record (row.led) { waiting = add_failure p Died row.led.waiting } }) (λ y. refl) (λ y. refl) refl k
kept_waits s t g p false true k = kept_row s t g (λ row. record row { led = record (row.led) { waiting = add_failure p Gone row.led.waiting } }) (λ y. refl) (λ y. refl) refl k
kept_waits s t g p false false k = k

kept_new : (s c : Core) (g : List ℕ) (after : GroupState) (ps : List ProviderId) (t : Core) → RowKept s t g → RowKept s (fold (λ u p. wait_if u g p (among after.failed p) (among (led_of c g).gone p)) t ps) g
kept_new s c g after [] t k = k
kept_new s c g after (p ∷ ps) t k =
    kept_new s c g after ps (wait_if t g p (among after.failed p) (among (led_of c g).gone p)) (kept_waits s t g p (among after.failed p) (among (led_of c g).gone p) k)

kept_put : (s : Core) (g : List ℕ) (proto : ProtoId) (phase : ℕ) (ps : List ProviderId) → InNameOrder s.groups → RowKept s (put s g (Late proto phase ps)) g
unfolding put recorded with_row with_entry
kept_put s g proto phase ps o =
    let k = kept_row s s g (λ row. record row { list = Some (with_entry (list_or_new row.list) s.views.view (Late proto phase ps)) }) (λ y. refl) (λ y. refl) (late_same (state_in (found s g).list) s.views.view (list_or_new (found s g).list).len proto phase ps) (record { order = o; tally = refl; state = refl }) in
    record { order = k.order; tally = k.tally; state = k.state }

kept_sent : (s t : Core) (g : List ℕ) (ns : List ℕ) (b : Body) → RowKept s t g → RowKept s (send_all t ns b) g
kept_sent s t g ns b k = kept_groups s t (send_all t ns b) g (ap (λ (z : Core). z.groups) (sent_all_is ns t b)) k

pub row_kept : (f : Answering) (s : Core) (g : List ℕ) (proto : ProtoId) (phase : ℕ) (ps : List ProviderId) → InNameOrder s.groups → ((found (appended f s g (Late proto phase ps)) g).led.tally ≡ (found s g).led.tally) × (state_in (found (appended f s g (Late proto phase ps)) g).list ≡ state_in (found s g).list)
unfolding appended new_members_wait
row_kept f s g proto phase ps o =
    let e : Entry = Late proto phase ps in
    let t : Core = put s g e in
    let u : Core = send_all t (others t) (body.Entry t.views.view g (len_of s g) (least_acked t g) e) in
    let w : Core = hand_on f u (leader_of u g) g (len_of s g) (state_of s g) (state_of t g) e in
    let a : RowKept s u g = kept_sent s t g (others t) (body.Entry t.views.view g (len_of s g) (least_acked t g) e) (kept_put s g proto phase ps o) in
    let b : RowKept s w g = kept_groups s u w g (handed_rows f u (leader_of u g) g (len_of s g) (state_of s g) (state_of t g) e).0 a in
    let c : RowKept s (forget_least w g) g = kept_forgets s w g b in
    let k = kept_new s (forget_least w g) g (state_of t g) (filter (λ p. not (among (state_of s g).members p)) (state_of t g).members) (forget_least w g) c in (k.tally, k.state)
