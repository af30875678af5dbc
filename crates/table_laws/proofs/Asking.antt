-- Whoever is present in a state of a group's lists asked in the group for its join.
use Rattle.std.proofs.Common.{◌≡◌, ⊎_elim, ℕ, zero, suc, ◌≤◌, List, ◌++◌, length, Option, Some, None, true, refl, subst, arith}
use Rattle.std.specs.Option.{option_map}
use Rattle.rsct_packet.specs.declared.ids.ViewId.{ViewId}
use Rattle.rsct_packet.specs.declared.ids.ProviderId.{ProviderId}
use Rattle.rsct_packet.specs.Search.{Has}
use Rattle.proposal_core.specs.declared.proposal.Proposal.{Proposal}
use Rattle.proposal_core.specs.declared.group_state.GroupState.{GroupState}
use Rattle.proposal_core.specs.declared.group_state.Running.{Running}
use Rattle.proposal_core.specs.Fold.{after, present, joiners_in}
use Rattle.table_client.specs.Maps as maps
use Rattle.table_client.proofs.MapLaws.{state_next}
use Rattle.run_safety.specs.ViewOrder.{Lt}
use Rattle.run_safety.specs.Group.{Origin, Asked, Record, Line, Noted, kept}
use Rattle.run_safety.specs.Stays.{is_join_of}
use Rattle.run_safety.specs.Moves.{Opening}
use Rattle.run_safety.specs.SafeGroups.{SafeLines}
use Rattle.row_laws.proofs.failed_rows.Asked.{join_carried}
use Rattle.row_laws.proofs.failed_rows.Grows.{after_has}
use Rattle.entry_laws.proofs.source_order.Basing.{each_view}
use Rattle.table_laws.specs.GroupLists.{log_of, base_by, origin_of, lists_of}
use Rattle.table_laws.proofs.GroupLists.{PutsEntered, log_put, get_some, side_is, base_before}

module _ (o : Opening) (all : List Line) (safe : SafeLines o all) (entered : PutsEntered (kept all)) where
  abbrev tr : List Record
  tr = kept all

  abbrev AskedThere : ProviderId → Type 0
  AskedThere p = (x : Proposal) × Has (Noted (Asked p p.join x)) all

  abbrev Asks : ViewId → Type 0
  Asks v = (i : ℕ) → i ≤ length (log_of v tr) → (p : ProviderId) → Has p (present (maps.state_at (lists_of all) v i)) → AskedThere p

  at_first : (v : ViewId) → ((u : ViewId) → Lt u v → Asks u) → (p : ProviderId) → Has p (present (maps.base_state (option_map origin_of (base_by v all)))) → AskedThere p
  at_first v below p h = by (base_by v all) refl h
    where
      by : (x : Option Origin) → base_by v all ≡ x → Has p (present (maps.base_state (option_map origin_of x))) → AskedThere p
      by None q h = absurd h
      by (Some b) q h =
          let k = base_before o all safe entered v b q in
          let same = side_is o all safe entered v b q in
          below b.old k.0 b.len k.1 p (subst (λ (z : List ProviderId × Option Running). Has p (z.0 ++ joiners_in z.1)) (λ j. (same.0 j, same.1 j)) h)

  asked_on : (v : ViewId) → ((u : ViewId) → Lt u v → Asks u) → Asks v
  asked_on v below zero l p h = at_first v below p h
  asked_on v below (suc i) l p h =
      let x = get_some (log_of v tr) i (omega arith) in
      let next : maps.state_at (lists_of all) v (suc i) ≡ after (maps.state_at (lists_of all) v i) v i x.0 = state_next (lists_of all) v (suc i) i x.0 (omega arith) x.1 in
      let put = log_put v tr i x.0 x.1 in
      ⊎_elim
      (λ (a : Has p (present (maps.state_at (lists_of all) v i))). asked_on v below i (omega arith) p a)
      (λ (b : is_join_of p x.0 ≡ true). let k = safe.requests.were_asked put.0 v i x.0 p p.join put.1 (join_carried p x.0 b) in (k.0, k.1))
      (after_has (maps.state_at (lists_of all) v i) v i x.0 p (subst (λ (s : GroupState). Has p (present s)) next h))

  pub asked_there : (v : ViewId) → Asks v
  asked_there v = each_view Asks asked_on v
