-- An entry that is handed on leaves the names of sessions and the subscriptions as they are.
use Rattle.std.proofs.Common.{◌≡◌, ℕ, List, [], ◌∷◌, refl, ◌∙◌}
use Rattle.std.specs.List.{fold}
use Rattle.rsct_packet.specs.declared.ids.ProviderId.{ProviderId}
use Rattle.proposal_core.specs.declared.entry.Entry.{Entry}
use Rattle.proposal_core.specs.declared.entry.Entry.TheVariants.{Once, Begin, Phase, Approve, Reject, Late}
use Rattle.proposal_core.specs.declared.proposal.Proposal.{Proposal}
use Rattle.proposal_core.specs.declared.proposal.Proposal.TheVariants.{Join, Leave, Fail, Expel, State, Message, Attributes, Reflect}
use Rattle.proposal_core.specs.declared.group_state.GroupState.{GroupState}
use Rattle.session_state.specs.declared.casts.Cast.{Cast}
use Rattle.session_state.specs.declared.state.Provider.{Provider}
use Rattle.session_state.specs.declared.state.SessionState.{SessionState}
use Rattle.session_state.specs.State.{with_provider, end_request, without_providers}
use Rattle.session_state.specs.HandOn.{kept_ended, kept_after, taking_part, part_taken, opened_after, open_phases, keep_casts, proposal_begun, requests_after, removed_from, heard}

pub record SameNames (s t : SessionState) : Type 0 where
  pub sessions : t.sessions ≡ s.sessions
  pub subs : t.subs ≡ s.subs

names_itself : (s : SessionState) → SameNames s s
names_itself s = record { sessions = refl; subs = refl }

names_then : (s t u : SessionState) → SameNames s t → SameNames t u → SameNames s u
names_then s t u a b = record { sessions = b.sessions ∙ a.sessions; subs = b.subs ∙ a.subs }

kept_after_same : (s : SessionState) (g : List ℕ) (e : Entry) → SameNames s (kept_after s g e)
unfolding kept_after kept_ended
kept_after_same s g (Once x) = names_itself s
kept_after_same s g (Begin x) = names_itself s
kept_after_same s g (Phase c) = record { sessions = refl; subs = refl }
kept_after_same s g (Approve c) = record { sessions = refl; subs = refl }
kept_after_same s g (Reject c) = record { sessions = refl; subs = refl }
kept_after_same s g (Late proto phase ps) = names_itself s

provider_same : (s : SessionState) (p : ProviderId) (f : Provider → Provider) → SameNames s (with_provider s p f)
unfolding with_provider
provider_same s p f = record { sessions = refl; subs = refl }

each_provider_same : (f : Provider → Provider) (s : SessionState) (ps : List ProviderId) → SameNames s (fold (λ t p. with_provider t p f) s ps)
each_provider_same f s [] = names_itself s
each_provider_same f s (p ∷ ps) = names_then s (with_provider s p f) _ (provider_same s p f) (each_provider_same f (with_provider s p f) ps)

part_taken_same : (s : SessionState) (ps : List ProviderId) → SameNames s (part_taken s ps)
unfolding part_taken
part_taken_same s ps = each_provider_same taking_part s ps

phases_opened_same : (s : SessionState) (e : Entry) (after : GroupState) (ps : List ProviderId) → SameNames s (open_phases s e after ps)
unfolding open_phases
phases_opened_same s e after ps = each_provider_same (opened_after e after) s ps

casts_kept_same : (s : SessionState) (g : List ℕ) (cs : List Cast) → SameNames s (keep_casts s g cs)
unfolding keep_casts
casts_kept_same s g cs = record { sessions = refl; subs = refl }

ended_same : (s : SessionState) (p : ProviderId) (r : ℕ) → SameNames s (end_request s p r)
unfolding end_request
ended_same s p r = record { sessions = refl; subs = refl }

each_ended_same : (s : SessionState) (ps : List ProviderId) → SameNames s (fold (λ t p. end_request t p p.join) s ps)
each_ended_same s [] = names_itself s
each_ended_same s (p ∷ ps) = names_then s (end_request s p p.join) _ (ended_same s p p.join) (each_ended_same (end_request s p p.join) ps)

begun_same : (s : SessionState) (x : Proposal) → SameNames s (proposal_begun s x)
unfolding proposal_begun
begun_same s (Join ps attrs n) = each_ended_same s ps
begun_same s (Leave p r) = ended_same s p r
begun_same s (Fail out) = names_itself s
begun_same s (Expel p r out) = ended_same s p r
begun_same s (State p r value) = ended_same s p r
begun_same s (Message p r bytes) = ended_same s p r
begun_same s (Attributes p r attrs) = ended_same s p r
begun_same s (Reflect view place value) = names_itself s

requests_after_same : (s : SessionState) (e : Entry) → SameNames s (requests_after s e)
unfolding requests_after
requests_after_same s (Once x) = begun_same s x
requests_after_same s (Begin x) = begun_same s x
requests_after_same s (Phase c) = names_itself s
requests_after_same s (Approve c) = names_itself s
requests_after_same s (Reject c) = names_itself s
requests_after_same s (Late proto phase ps) = names_itself s

without_same : (s : SessionState) (ps : List ProviderId) → SameNames s (without_providers s ps)
unfolding without_providers
without_same s ps = record { sessions = refl; subs = refl }

pub heard_same : (s : SessionState) (g : List ℕ) (after : GroupState) (e : Entry) (ps beginning : List ProviderId) (cs : List Cast) → SameNames s (heard s g after e ps beginning cs)
unfolding heard
heard_same s g after e ps beginning cs =
    let k : SessionState = kept_after s g e in
    let t : SessionState = part_taken k beginning in
    let o : SessionState = open_phases t e after ps in
    let u : SessionState = keep_casts o g cs in
    let r : SessionState = requests_after u e in
    names_then s k _ (kept_after_same s g e)
    (names_then k t _ (part_taken_same k beginning)
    (names_then t o _ (phases_opened_same t e after ps)
    (names_then o u _ (casts_kept_same o g cs)
    (names_then u r _ (requests_after_same u e) (without_same r (removed_from after ps))))))
