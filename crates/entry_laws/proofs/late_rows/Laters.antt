-- Handing on loses no record and moves no view.
use Rattle.std.proofs.Common.{◌≡◌, ℕ, List, [], ◌∷◌, ◌++◌, Option, Bool, true, false, refl, sym, ap, ◌∙◌, subst, inl, inr, ⊎_elim, append_assoc, append-nil}
use Rattle.std.specs.Prelude.{not, filter}
use Rattle.rsct_packet.specs.declared.ids.ProviderId.{ProviderId}
use Rattle.rsct_packet.specs.Search.{Has}
use Rattle.rsct_packet.specs.Providers.{among}
use Rattle.rsct_packet.proofs.HasLaws.{has_append}
use Rattle.proposal_core.specs.declared.entry.Entry.{Entry}
use Rattle.proposal_core.specs.declared.group_state.GroupState.{GroupState}
use Rattle.node_state.specs.declared.happened.Happened.{Happened}
use Rattle.node_state.specs.declared.happened.Happened.TheVariants as happened
use Rattle.node_state.specs.declared.state.Core.{Core}
use Rattle.node_state.specs.declared.packet.Body.TheVariants as body
use Rattle.node_state.specs.State.{led_of, state_of, len_of, leader_of, others, least_acked, forget_below, recorded, with_row, with_led}
use Rattle.node_state.specs.Sending.{send_all}
use Rattle.node_state.specs.HandOn.{Answering, hand_on}
use Rattle.node_state.specs.Leading.{put, put_and_hand, forget_least, with_waiting, wait_if, new_members_wait, appended}
use Rattle.entry_laws.proofs.closing_rows.Quiet.{KeepsQuiet, at_fold, at_handed}
use Rattle.entry_laws.proofs.closing_rows.Calms.{Silent, AllSilent, calm_all}

-- more is recorded, which moves nothing
pub record Later (s t : Core) : Type 0 where
  pub views : t.views ≡ s.views
  pub more : List Happened
  pub is : t.records ≡ s.records ++ more
  pub silent : AllSilent more

later_self : (s : Core) → Later s s
later_self s = record { views = refl; more = []; is = sym (append-nil s.records); silent = λ r i. absurd i }

keeps_later : (s : Core) → KeepsQuiet (Later s)
unfolding recorded
keeps_later s =
    record {
      calm = λ c d k a. record { views = k.views ∙ a.views; more = a.more; is = k.records ∙ a.is; silent = a.silent };
      silent = λ c r z a. record { views = a.views; more = a.more ++ r ∷ []; is = ap (λ l. l ++ r ∷ []) a.is ∙ append_assoc s.records a.more (r ∷ []); silent = λ x i. ⊎_elim (λ (j : Has x a.more). a.silent x j) (λ (j : Has x (r ∷ [])). only r z x j) (has_append x a.more (r ∷ []) i) };
    }
  where
    only : (r : Happened) → Silent r → AllSilent (r ∷ [])
    only r z x (inl e) = subst Silent (sym e) z
    only r z x (inr none) = absurd none

-- an entry is put and handed on
pub record PutThen (s : Core) (r : Happened) (t : Core) : Type 0 where
  pub views : t.views ≡ s.views
  pub more : List Happened
  pub is : t.records ≡ (s.records ++ r ∷ []) ++ more
  pub silent : AllSilent more

abbrev record_of : Core → List ℕ → Entry → Happened
record_of s g e = happened.Put s.views.me s.views.view g (len_of s g) e

then_put : (s u : Core) (g : List ℕ) (e : Entry) → Later (put s g e) u → PutThen s (record_of s g e) u
unfolding put recorded with_row
then_put s u g e l = record { views = l.views; more = l.more; is = l.is; silent = l.silent }

pub later_put : (f : Answering) (s : Core) (to : Option ℕ) (g : List ℕ) (e : Entry) → PutThen s (record_of s g e) (put_and_hand f s to g e)
unfolding put_and_hand
later_put f s to g e =
    let t : Core = put s g e in
    then_put s (put_and_hand f s to g e) g e (at_handed (keeps_later t) f t to g (len_of s g) (state_of s g) (state_of t g) e (later_self t))

-- the leader appends
later_waits : (t s : Core) (g : List ℕ) (p : ProviderId) (a b : Bool) → Later t s → Later t (wait_if s g p a b)
unfolding wait_if with_waiting with_led with_row
later_waits t s g p true b l = record { views = l.views; more = l.more; is = l.is; silent = l.silent }
later_waits t s g p false true l = record { views = l.views; more = l.more; is = l.is; silent = l.silent }
later_waits t s g p false false l = l

pub later_appended : (f : Answering) (s : Core) (g : List ℕ) (e : Entry) → PutThen s (record_of s g e) (appended f s g e)
unfolding appended new_members_wait forget_least forget_below with_row
later_appended f s g e =
    let t : Core = put s g e in
    let before : GroupState = state_of s g in
    let after : GroupState = state_of t g in
    let u : Core = send_all t (others t) (body.Entry t.views.view g (len_of s g) (least_acked t g) e) in
    let w : Core = hand_on f u (leader_of u g) g (len_of s g) before after e in
    let a : Later t u = (keeps_later t).calm t u (calm_all t (others t) (body.Entry t.views.view g (len_of s g) (least_acked t g) e)) (later_self t) in
    let b : Later t w = at_handed (keeps_later t) f u (leader_of u g) g (len_of s g) before after e a in
    let c : Later t (forget_least w g) = record { views = b.views; more = b.more; is = b.is; silent = b.silent } in
    then_put s (appended f s g e) g e (at_fold (Later t) (λ v p. wait_if v g p (among after.failed p) (among (led_of (forget_least w g) g).gone p)) (filter (λ p. not (among before.members p)) after.members) (λ v p i k. later_waits t v g p (among after.failed p) (among (led_of (forget_least w g) g).gone p) k) (forget_least w g) c)
