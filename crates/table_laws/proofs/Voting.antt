-- A message that goes with a vote by the rules is a chunk of the map of the protocol.
use Rattle.std.proofs.Common.{◌≡◌, ℕ, ◌+◌, ◌-◌, Bool, true, false, cond, List, [], ◌∷◌, Option, Some, None, IfSome, refl, sym, ap, subst, ◌∙◌, slice_get}
use Rattle.std.specs.Prelude.{if◌then◌else◌}
use Rattle.rsct_packet.specs.declared.ids.ProviderId.{ProviderId}
use Rattle.rsct_packet.specs.declared.ids.ViewId.{ViewId}
use Rattle.rsct_packet.specs.Lists.{is_empty}
use Rattle.group_attr.specs.declared.attrs.Attrs.{Attrs}
use Rattle.proposal_core.specs.declared.entry.Entry.{Entry}
use Rattle.proposal_core.specs.declared.entry.Entry.TheVariants.{Once, Begin, Phase, Approve, Reject, Late}
use Rattle.proposal_core.specs.declared.entry.Vote.TheVariants as vote
use Rattle.proposal_core.specs.declared.group_state.GroupState.{GroupState}
use Rattle.proposal_core.specs.declared.group_state.Running.{Running}
use Rattle.proposal_core.specs.Fold.{after, apply, begun, next_phase, take_attrs, first_attrs}
use Rattle.client_callbacks.specs.declared.ballot.Filled.{Filled}
use Rattle.client_callbacks.specs.Handed.{NoticeView, phase_in}
use Rattle.agreed_table.specs.Pairs.{Pairs}
use Rattle.table_client.specs.Rules.{Copied, effect_of, others_join, sharing, filling, vote_for}
use Rattle.table_client.specs.Sharing.{CarriesChunk}
use Rattle.table_client.specs.Maps.{Lists, AreSafe, state_at, message_map, entry_map, MapIs, Then}
use Rattle.table_client.proofs.MapLaws.{state_next, after_fits, empty_maps, begun_map, once_ends, approve_ends, reject_ends}
use Rattle.table_client.proofs.SharingLaws.{rules_keep_the_map}
use Rattle.table_laws.specs.Voting.{IsAt, SendsChunk, BallotsSendChunks}

pub attrs_members : (s : GroupState) (o : Option Attrs) → (take_attrs s o).members ≡ s.members
unfolding take_attrs
attrs_members s None = refl
attrs_members s (Some attrs) = refl

phase_members : (s : GroupState) (value : Option (List ℕ)) (o : Option Running) → (next_phase s value o).members ≡ s.members
unfolding next_phase
phase_members s value None = refl
phase_members s value (Some run) = refl

-- where a protocol runs behind an entry nothing took effect, and the members stayed
pub still : (s : GroupState) (v : ViewId) (i : ℕ) (e : Entry) (run : Running) (m : Pairs) → (apply s v i e).running ≡ Some run → (message_map (effect_of e s.running) m ≡ m) × ((apply s v i e).members ≡ s.members)
unfolding apply begun
still s v i (Once y) run m is = absurd (once_ends s v i y run is)
still s v i (Begin y) run m is = (refl, attrs_members s (first_attrs s y))
still s v i (Phase c) run m is = (refl, phase_members s c.value s.running)
still s v i (Approve c) run m is = absurd (approve_ends s v i c run s.running refl is)
still s v i (Reject c) run m is = absurd (reject_ends s run s.running refl is)
still s v i (Late proto phase ps) run m is = (refl, refl)

uncut : (ps : List ProviderId) (m : Pairs) → (ps ≡ [] → m ≡ []) → m ≡ cond (is_empty ps) [] m
uncut [] m empty = empty refl
uncut (p ∷ ps) m empty = refl

-- so the map behind it is the one before it
map_stays : (x : Lists) → AreSafe x → (v : ViewId) (i : ℕ) (e : Entry) (run : Running) (m : Pairs) → slice_get (x.list v) i ≡ Some e → (state_at x v (i + 1)).running ≡ Some run → MapIs x v i m → MapIs x v (i + 1) m
map_stays x safe v i e run m at runs here = Then v (i + 1) m i e m refl same at here
  where
    s : GroupState
    s = state_at x v i

    applied : after s v i e ≡ apply s v i e
    applied = after_fits s v i e (safe.fitted v i e at)

    kept : (message_map (effect_of e s.running) m ≡ m) × ((apply s v i e).members ≡ s.members)
    kept = still s v i e run m (ap (λ (t : GroupState). t.running) (sym (state_next x v (i + 1) i e refl at ∙ applied)) ∙ runs)

    members : (after s v i e).members ≡ s.members
    members = ap (λ (t : GroupState). t.members) applied ∙ kept.1

    same : m ≡ entry_map s v i e m
    same =
        uncut (after s v i e).members m (λ none. empty_maps x safe v i m here (sym members ∙ none))
        ∙ ap (λ (t : Pairs). cond (is_empty (after s v i e).members) [] t) (sym kept.0)

module _ (x : Lists) (safe : AreSafe x) (c : Copied) (n : NoticeView) (at : IsAt x c n) (bytes : List ℕ) where
  of_map : (run : Running) → n.after.running ≡ Some run → (o : Option Pairs) → c.map ≡ o → (sharing (run.phase - 1) o).message ≡ Some bytes → SendsChunk x n bytes
  of_map run is None part e = absurd (cc)
  of_map run is (Some m) whole e =
      let here : MapIs x n.view n.place m = subst (λ (o : Option Pairs). IfSome o (MapIs x n.view n.place)) whole at.map in
      let runs : (state_at x n.view (n.place + 1)).running ≡ Some run = ap (λ (t : GroupState). t.running) (sym at.after) ∙ is in
      record {
        run = run;
        runs = is;
        map = m;
        is = begun_map x safe n.view (n.place + 1) m run (map_stays x safe n.view n.place n.entry run m at.entry runs here) runs;
        chunk = subst (CarriesChunk m run.phase) e (rules_keep_the_map.sent m run.phase);
      }

  of_run : (o : Option Running) → n.after.running ≡ o → others_join n.provider o ≡ true → (sharing (phase_in o - 1) c.map).message ≡ Some bytes → SendsChunk x n bytes
  of_run None is q e = absurd (cc)
  of_run (Some run) is q e = of_map run is c.map refl e

  voted : (vote_for n c).message ≡ Some bytes → SendsChunk x n bytes
  voted e = by (others_join n.provider n.after.running) refl e
    where
      by : (b : Bool) → others_join n.provider n.after.running ≡ b → (if b then sharing (phase_in n.after.running - 1) c.map else filling vote.Approve None).message ≡ Some bytes → SendsChunk x n bytes
      by false q e = absurd (cc)
      by true q e = of_run n.after.running refl q e

  filled_by : (f : Filled) → f.message ≡ Some bytes → (b : Bool) → (if b then Some (vote_for n c) else None) ≡ Some f → SendsChunk x n bytes
  filled_by f message false e = absurd (cc)
  filled_by f message true e = let is : vote_for n c ≡ f = cc in voted (ap (λ (z : Filled). z.message) is ∙ message)

pub ballots_send_chunks : BallotsSendChunks
ballots_send_chunks x c n f bytes safe at filled message = filled_by x safe c n at bytes f message n.votes filled
