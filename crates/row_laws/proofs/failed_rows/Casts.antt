-- Who is cast out stands on a node without a member of the source.
use Rattle.std.proofs.Common.{◌≡◌, ℕ, List, [], ◌∷◌, Option, Some, None, Bool, true, false, refl, sym, ◌∙◌, subst}
use Rattle.std.specs.Prelude.{filter, if◌then◌else◌}
use Rattle.std.specs.Option.{option_map}
use Rattle.std.proofs.lemmas.Bool.{not-true}
use Rattle.rsct_packet.specs.declared.ids.ProviderId.{ProviderId}
use Rattle.rsct_packet.specs.declared.ids.ProtoId.{ProtoId}
use Rattle.rsct_packet.specs.Ids.{place_lt}
use Rattle.rsct_packet.specs.Providers.{among}
use Rattle.rsct_packet.specs.Search.{Has}
use Rattle.rsct_packet.proofs.HasLaws.{has_filter, has_map}
use Rattle.proposal_core.specs.declared.proposal.Failure.{Failure}
use Rattle.proposal_core.specs.declared.group_state.GroupState.{GroupState}
use Rattle.proposal_core.specs.GroupView.{GroupView}
use Rattle.proposal_core.specs.Lists.{state_in}
use Rattle.source_target.specs.declared.Due.TheVariants as due
use Rattle.source_target.specs.Due as target
use Rattle.source_target.specs.Due.{allowed, lacks_source, cast_out, cast_outs, reflect_from, reflection_due, due_from}
use Rattle.node_state.specs.declared.state.Core.{Core}
use Rattle.node_state.specs.State.{row_of}
use Rattle.node_state.specs.Deciding.{known_state}
use Rattle.row_laws.proofs.hearing.Handing.{has_among}
use Rattle.row_laws.proofs.honest_votes.At.{found}
use Rattle.row_laws.specs.failed_rows.Failures.{CauseHolds}

-- a list that the node does not hold is empty
known_allows : (s : Core) (k : List ℕ) (n : ℕ) → allowed (Some (state_in (found s k).list)) n ≡ allowed (known_state s k) n
unfolding known_state row_of allowed
known_allows s k n = by (found s k).list
  where
    by : (o : Option GroupView) → allowed (Some (state_in o)) n ≡ allowed (option_map (λ (l : GroupView). l.state) o) n
    by None = refl
    by (Some l) = refl

reflects_not : (st : GroupState) (source : Option GroupState) (ms : List ProviderId) (out : List Failure) → reflection_due st source ms ≡ Some (due.CastOut out) → ⊥
unfolding reflection_due
reflects_not st source [] out q = absurd (cc)
reflects_not st source (p ∷ ps) out q = by (target.value_place source) q
  where
    at : (t : Bool) (v : ProtoId) → (if t then Some (due.Reflect v.view v.place) else None) ≡ Some (due.CastOut out) → ⊥
    at true v q = absurd (cc)
    at false v q = absurd (cc)

    by : (o : Option ProtoId) → reflect_from st.reflected_at o ≡ Some (due.CastOut out) → ⊥
    by None q = absurd (cc)
    by (Some v) q = at (place_lt st.reflected_at (Some v)) v q

-- what is due to be cast out are all cast-outs
casts_are : (st : GroupState) (source : Option GroupState) (out : List Failure) → target.due st source ≡ Some (due.CastOut out) → cast_outs st.members source ≡ out
unfolding target.due
casts_are st source out q = by (cast_outs st.members source) q
  where
    by : (fs : List Failure) → due_from st source fs ≡ Some (due.CastOut out) → fs ≡ out
    by [] q = absurd (reflects_not st source st.members out q)
    by (f ∷ fs) q = cc

pub due_casts : (gone : ProviderId → Type 0) (s : Core) (st : GroupState) (k : List ℕ) (out : List Failure) → st.attrs.source ≡ Some k → target.due st (known_state s k) ≡ Some (due.CastOut out) → (x : Failure) → Has x out → (among st.members x.provider ≡ true) × CauseHolds gone (λ k. state_in (found s k).list) st x.provider x.cause
unfolding cast_outs
due_casts gone s st k out e d x i =
    let j = has_map cast_out x (filter (lacks_source (known_state s k)) st.members) (subst (Has x) (sym (casts_are st (known_state s k) out d)) i) in
    let l = has_filter (lacks_source (known_state s k)) j.0 st.members j.1 in
    subst (λ (z : Failure). (among st.members z.provider ≡ true) × CauseHolds gone (λ k. state_in (found s k).list) st z.provider z.cause) (sym j.2) (has_among st.members j.0 l.0, record { group = k; named = e; lacks = known_allows s k (j.0).node ∙ not-true (allowed (known_state s k) (j.0).node) l.1 })
