-- Clients that vote by items fill what these say.
use Rattle.std.proofs.Common.{◌≡◌, ◌≢◌, ℕ, List, [], ◌∷◌, Option, Some, None, get_or, refl, ap, subst, ◌∙◌}
use Rattle.std.specs.Prelude.{slice_get, IsSome}
use Rattle.std.proofs.lemmas.Bool.{false≢true}
use Rattle.std.proofs.lemmas.Option.{get_or_from_slice_get, slice_get_within}
use Rattle.proposal_core.specs.declared.group_state.GroupState.{GroupState}
use Rattle.client_callbacks.specs.declared.votes.VoteItem.{VoteItem}
use Rattle.client_callbacks.specs.Ballots.{BallotView, new_ballot}
use Rattle.session_state.specs.State.{place_of}
use Rattle.session_state.specs.HandOn.{asks}
use Rattle.session_clients.specs.Notices.{AreScripted, FillsAs, filled_in, script_for, scripted, FillTheirScripts}

script_at : (scripts : List (Option (List (Option VoteItem)))) (i : ℕ) → AreScripted scripts → slice_get scripts i ≢ Some None
script_at scripts i all e =
    let here : get_or scripts i None ≡ None = get_or_from_slice_get scripts i None None e in
    let P : Option (List (Option VoteItem)) → Type 0 = λ x. IsSome x in
    false≢true (subst P here (all i None (slice_get_within scripts i None e)))

script_for_place : (scripts : List (Option (List (Option VoteItem)))) (place : Option ℕ) → AreScripted scripts → script_for scripts place ≢ Some None
script_for_place scripts None all e = cc
script_for_place scripts (Some i) all e = script_at scripts i all e

-- a new ballot, after a client at a place where it votes by items, or after nobody
filled_by_one : (script : Option (Option (List (Option VoteItem)))) (after : GroupState) (b c : BallotView) → script ≢ Some None → b.filled ≡ None → FillsAs script after b c → c.filled ≡ filled_in script after b
filled_by_one None after b c votes new f = ap (λ (x : BallotView). x.filled) f ∙ new
filled_by_one (Some None) after b c votes new f = absurd (votes refl)
filled_by_one (Some (Some items)) after b c votes new f = ap (λ (x : BallotView). x.filled) f

pub fill_their_scripts : FillTheirScripts
unfolding scripted
fill_their_scripts scripts s e after [] [] all f = refl
fill_their_scripts scripts s e after [] (b ∷ bs) all f = absurd f
fill_their_scripts scripts s e after (p ∷ ps) [] all f = absurd f
fill_their_scripts scripts s e after (p ∷ ps) (b ∷ bs) all f =
    let script : Option (Option (List (Option VoteItem))) = script_for scripts (place_of s p) in
    let new : BallotView = new_ballot (asks e after p) s.level in
    let one : b ≡ filled_in script after new = filled_by_one script after new (record { votes = asks e after p; level = s.level; filled = b }) (script_for_place scripts (place_of s p) all) refl f.0.fills in
    let more : bs ≡ scripted scripts s e after ps = fill_their_scripts scripts s e after ps bs all f.1 in
    cc
