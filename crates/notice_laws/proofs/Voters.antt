-- A notice asks for a vote just where its entry opens a phase and its provider votes.
use Rattle.std.proofs.Common.{◌≡◌, ◌++◌, List, [], ◌∷◌, Option, refl}
use Rattle.std.specs.Prelude.{◌&&◌}
use Rattle.rsct_packet.specs.declared.ids.ProviderId.{ProviderId}
use Rattle.rsct_packet.specs.Providers.{among}
use Rattle.proposal_core.specs.declared.entry.Entry.{Entry}
use Rattle.proposal_core.specs.declared.entry.Entry.TheVariants.{Once, Begin, Phase, Approve, Reject, Late}
use Rattle.proposal_core.specs.declared.group_state.GroupState.{GroupState}
use Rattle.proposal_core.specs.Fold.{voters}
use Rattle.client_callbacks.specs.declared.ballot.Filled.{Filled}
use Rattle.client_callbacks.specs.Handed.{NoticeView, Handed, Notified, Informed}
use Rattle.session_state.specs.HandOn.{asks}
use Rattle.node_state.specs.declared.happened.Happened.{Happened}
use Rattle.node_state.specs.declared.happened.Happened.TheVariants as happened
use Rattle.entry_delivery.specs.Received.{ballot_behind, handed_if, handed_by}
use Rattle.notice_laws.specs.Notices.{is_opening, AsksItsVoter, EachNotice, NoticesAskVoters}

both_each : (P : NoticeView → Type 0) (xs ys : List Handed) → EachNotice P xs → EachNotice P ys → EachNotice P (xs ++ ys)
both_each P [] ys a b = b
both_each P (Notified n filled ∷ xs) ys a b = (a.0, both_each P xs ys a.1 b)
both_each P (Informed t ∷ xs) ys a b = both_each P xs ys a b

asks_is : (e : Entry) (after : GroupState) (p : ProviderId) → asks e after p ≡ (is_opening e && among (voters after) p)
unfolding asks
asks_is (Once x) after p = refl
asks_is (Begin x) after p = refl
asks_is (Phase c) after p = refl
asks_is (Approve c) after p = refl
asks_is (Reject c) after p = refl
asks_is (Late proto phase ps) after p = refl

one_asks : (r : Happened) (after : GroupState) (b : Option Filled) → EachNotice AsksItsVoter (handed_if r after b)
one_asks (happened.Heard p v g i e members value) after b = (asks_is e after p, tt)
one_asks (happened.Told p r why) after b = tt
one_asks (happened.Noted n client v i t) after b = tt
one_asks _ after b = tt

pub notices_ask_voters : NoticesAskVoters
notices_ask_voters [] = tt
notices_ask_voters (r ∷ rs) =
    both_each AsksItsVoter (handed_if r.what r.after (ballot_behind rs)) (handed_by rs) (one_asks r.what r.after (ballot_behind rs)) (notices_ask_voters rs)
