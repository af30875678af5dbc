-- What keeps each change with its evidence keeps what follows as an entry was put: what is heard, cast, kept and sent.
use Rattle.std.proofs.Common.{◌∙◌, ℕ, List, [], ◌∷◌, ◌++◌, Option, Some, None, refl, sym, subst, inl, inr, append_assoc, append-nil}
use Rattle.std.specs.Prelude.{flat_map}
use Rattle.rsct_packet.specs.declared.ids.ProviderId.{ProviderId}
use Rattle.rsct_packet.specs.declared.ids.ProtoId.{ProtoId}
use Rattle.rsct_packet.specs.Search.{Has}
use Rattle.proposal_core.specs.declared.entry.Entry.{Entry}
use Rattle.proposal_core.specs.declared.group_state.GroupState.{GroupState}
use Rattle.client_callbacks.specs.declared.ballot.Filled.{Filled}
use Rattle.client_callbacks.specs.Ballots.{BallotView}
use Rattle.session_state.specs.declared.casts.Cast.{Cast}
use Rattle.session_state.specs.HandOn.{casts_out}
use Rattle.node_state.specs.declared.happened.Happened.{Happened}
use Rattle.node_state.specs.declared.happened.Happened.TheVariants as happened
use Rattle.node_state.specs.declared.packet.Body.{Body}
use Rattle.node_state.specs.declared.packet.Body.TheVariants as body
use Rattle.node_state.specs.declared.state.Core.{Core}
use Rattle.node_state.specs.State.{state_of, len_of, recorded, recorded_all}
use Rattle.node_state.specs.Sending.{sent, send_all, network_to}
use Rattle.node_state.specs.HandOn.{cast_record, cast_records, heard}
use Rattle.node_state.specs.Leading.{put}
use Rattle.rsct_packet.proofs.HasLaws.{append_has_right}
use Rattle.step_walk.proofs.Changes.{put_sent, handing}
use Rattle.step_walk.proofs.Kept.{cast_is_on, casts_recorded, handed_casts}
use Rattle.step_walk.proofs.Evidence.{delivered, KeepsDelivery}

module _ (P : Core → Type 0) (g : List ℕ) (e : Entry) (parts : KeepsDelivery P g e) where
  module _ (c : Core) (i : ℕ) (before after : GroupState) (bs : List (Option Filled)) where
    at_ballot : (rs : List Happened) (p : ProviderId) (proto : ProtoId) (phase : ℕ) (o : Option Filled) → P (record c { records = rs }) → P (record c { records = rs ++ cast_record p proto phase o })
    unfolding cast_record recorded
    at_ballot rs p proto phase None k = subst (λ z. P (record c { records = z })) (sym (append-nil rs)) k
    at_ballot rs p proto phase (Some b) k = parts.casts (record c { records = rs }) p proto phase b.vote b.value b.message k

    at_cast : (rs : List Happened) (p : ProviderId) (o : Option (ProtoId × ℕ × BallotView)) → P (record c { records = rs }) → P (record c { records = rs ++ cast_records p o })
    unfolding cast_records
    at_cast rs p None k = subst (λ z. P (record c { records = z })) (sym (append-nil rs)) k
    at_cast rs p (Some x) k = at_ballot rs p x.0 x.1 (x.2).filled k

    at_heard : (cs : List Cast) → ((x : Cast) → Has x cs → Has x (casts_out c.sessions g before after e bs)) → (rs : List Happened) → P (record c { records = rs }) → P (record c { records = rs ++ flat_map (heard c g i e after) cs })
    unfolding heard recorded
    at_heard [] all rs k = subst (λ z. P (record c { records = z })) (sym (append-nil rs)) k
    at_heard (x ∷ cs) all rs k =
        subst (λ z. P (record c { records = z })) (append_assoc (rs ++ it ∷ []) (cast_records x.provider x.cast) (flat_map (heard c g i e after) cs) ∙ append_assoc rs (it ∷ []) (cast_records x.provider x.cast ++ flat_map (heard c g i e after) cs)) (at_heard cs (λ y h. all y (inr h)) ((rs ++ it ∷ []) ++ cast_records x.provider x.cast) (at_cast (rs ++ it ∷ []) x.provider x.cast (parts.hears (record c { records = rs }) before after bs x i (all x (inl refl)) k)))
      where
        it : Happened
        it = happened.Heard x.provider c.views.view g i e after.members after.value

    pub at_handing : P c → P (handing c g i before after e bs)
    unfolding recorded_all
    at_handing k =
        let cs : List Cast = casts_out c.sessions g before after e bs in
        let rs : List Happened = flat_map (heard c g i e after) cs in
        parts.handed (recorded_all c rs) before after bs (handed_casts (c.records ++ rs) c.sessions g before after e bs (λ x j. cast_is_on rs (c.records ++ rs) (λ r h. append_has_right r c.records rs h) x.provider x.cast (casts_recorded c g i e after cs x j))) (at_heard cs (λ x h. h) c.records k)

  -- what holds where the entry is put holds where it was sent and heard
  pub at_delivered : (s : Core) (ns : List ℕ) (stable : ℕ) (bs : List (Option Filled)) → P (put s g e) → P (delivered s g e ns stable bs)
  unfolding send_all sent
  at_delivered s ns stable bs p = at_handing (put_sent s g e ns stable) (len_of s g) (state_of s g) (state_of (put s g e) g) bs (at_sent_all ns (put s g e) p)
    where
      b : Body
      b = body.Entry (put s g e).views.view g (len_of s g) stable e

      at_sent_all : (ns : List ℕ) (t : Core) → P t → P (send_all t ns b)
      at_sent_all [] t k = k
      at_sent_all (n ∷ ns) t k = at_sent_all ns (sent t n b) (parts.sends t (network_to t n) n (put s g e).views.view (len_of s g) stable k)
