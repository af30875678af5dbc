-- Handing an entry on leaves the groups as they are.
use Rattle.std.proofs.Common.{◌≡◌, ℕ, Bool, true, false, List, [], ◌∷◌, Option, Some, None, refl, sym, ap, ◌∙◌, subst}
use Rattle.std.specs.List.{fold}
use Rattle.rsct_packet.specs.declared.ids.ProviderId.{ProviderId}
use Rattle.rsct_packet.specs.declared.ids.ProtoId.{ProtoId}
use Rattle.proposal_core.specs.declared.entry.Entry.{Entry}
use Rattle.proposal_core.specs.declared.group_state.GroupState.{GroupState}
use Rattle.subscribe_core.specs.Subs.{differs}
use Rattle.client_callbacks.specs.declared.ballot.Filled.{Filled}
use Rattle.client_callbacks.specs.declared.votes.VoteItem.{VoteItem}
use Rattle.client_callbacks.specs.Ballots.{BallotView}
use Rattle.session_state.specs.declared.casts.Cast.{Cast}
use Rattle.node_state.specs.declared.group.GroupRow.{GroupRow}
use Rattle.node_state.specs.declared.packet.Body.{Body}
use Rattle.node_state.specs.declared.state.Core.{Core}
use Rattle.node_state.specs.State.{InNameOrder, frozen, recorded_all, with_sessions}
use Rattle.node_state.specs.Sending.{send_on, sent, send_if_known}
use Rattle.node_state.specs.HandOn.{Answering, notes, noted, ballot_sent, cast_sent_of, casts_sent, hand_on}
use Rattle.entry_delivery.specs.Received.{Handing}
use Rattle.entry_delivery.specs.Doing.{Does}
use Rattle.group_leading.proofs.AnswerLaws.{does_some}

abbrev SameGroups : Core → Core → Type 0
SameGroups s t = t.groups ≡ s.groups

known_groups : (s : Core) (to : Option ℕ) (b : Body) → SameGroups s (send_if_known s to b)
unfolding send_if_known sent send_on
known_groups s None b = refl
known_groups s (Some n) b = refl

ballot_groups : (s : Core) (g : List ℕ) (to : Option ℕ) (p : ProviderId) (proto : ProtoId) (phase : ℕ) (b : Option Filled) → SameGroups s (ballot_sent s g to p proto phase b)
unfolding ballot_sent
ballot_groups s g to p proto phase None = refl
ballot_groups s g to p proto phase (Some b) = known_groups s to _

cast_groups : (s : Core) (g : List ℕ) (to : Option ℕ) (p : ProviderId) (c : Option (ProtoId × ℕ × BallotView)) → SameGroups s (cast_sent_of s g to p c)
unfolding cast_sent_of
cast_groups s g to p None = refl
cast_groups s g to p (Some c) = ballot_groups s g to p c.0 c.1 (c.2).filled

each_groups : (s : Core) (g : List ℕ) (to : Option ℕ) (cs : List Cast) → SameGroups s (fold (λ t c. cast_sent_of t g to c.provider c.cast) s cs)
each_groups s g to [] = refl
each_groups s g to (c ∷ cs) = each_groups (cast_sent_of s g to c.provider c.cast) g to cs ∙ cast_groups s g to c.provider c.cast

casts_if : (b : Bool) (s : Core) (g : List ℕ) (to : Option ℕ) (cs : List Cast) → SameGroups s (elim b [ true ↦ s | false ↦ fold (λ t c. cast_sent_of t g to c.provider c.cast) s cs ])
casts_if true s g to cs = refl
casts_if false s g to cs = each_groups s g to cs

casts_groups : (s : Core) (g : List ℕ) (to : Option ℕ) (cs : List Cast) → SameGroups s (casts_sent s g to cs)
unfolding casts_sent
casts_groups s g to cs = casts_if (frozen s) s g to cs

noted_if : (b : Bool) (s : Core) (g : List ℕ) (place : Option ℕ) (st : GroupState) → SameGroups s (elim b [ true ↦ notes s g place st | false ↦ s ])
unfolding notes recorded_all
noted_if true s g place st = refl
noted_if false s g place st = refl

noted_groups : (s : Core) (g : List ℕ) (i : ℕ) (before after : GroupState) → SameGroups s (noted s g i before after)
unfolding noted
noted_groups s g i before after = noted_if (differs before after) s g (Some i) after

handed_groups : (f : Answering) (s : Core) (to : Option ℕ) (g : List ℕ) (i : ℕ) (before after : GroupState) (e : Entry) → SameGroups s (hand_on f s to g i before after e)
unfolding hand_on with_sessions recorded_all
handed_groups f s to g i before after e = casts_groups _ g to _ ∙ noted_groups (record s { records = _ }) g i before after

pub handed_order : (scripts : List (Option (List (Option VoteItem)))) (P : List Handing → Type 0) (s t : Core) (to : Option ℕ) (g : List ℕ) (i : ℕ) (before after : GroupState) (e : Entry)
    → Does scripts P s t (λ f. hand_on f s to g i before after e) → InNameOrder s.groups → InNameOrder t.groups
handed_order scripts P s t to g i before after e d o =
    let some = does_some scripts P s t (λ f. hand_on f s to g i before after e) d in
    subst (λ (rows : List GroupRow). InNameOrder rows) (sym (ap (λ (x : Core). x.groups) some.1 ∙ handed_groups some.0 s to g i before after e)) o
