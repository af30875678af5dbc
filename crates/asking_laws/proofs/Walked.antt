-- From the call of a step on what a node has of its providers and requests keeps its spelling: nothing comes in.
use Rattle.std.proofs.Common.{◌≡◌, ◌≤◌, ℕ, List, Option, [], ◌∷◌, Bool, true, false, refl, sym, subst}
use Rattle.std.specs.Prelude.{◌||◌, not, filter, if◌then◌else◌}
use Rattle.rsct_packet.specs.declared.ids.ProviderId.{ProviderId}
use Rattle.rsct_packet.specs.Fields.{IsProvider}
use Rattle.rsct_packet.specs.Ids.{last_u32}
use Rattle.rsct_packet.specs.Providers.{among}
use Rattle.rsct_packet.specs.Text.{IsName}
use Rattle.rsct_packet.proofs.HasLaws.{has_filter}
use Rattle.proposal_core.specs.declared.entry.Entry.{Entry}
use Rattle.proposal_core.specs.declared.proposal.Proposal.{Proposal}
use Rattle.proposal_core.specs.declared.group_state.GroupState.{GroupState}
use Rattle.client_callbacks.specs.declared.ballot.Filled.{Filled}
use Rattle.client_callbacks.specs.declared.told.Why.{Why}
use Rattle.client_callbacks.specs.declared.told.Why.TheVariants.{Dissolved}
use Rattle.session_state.specs.declared.state.Provider.{Provider}
use Rattle.session_state.specs.declared.state.Request.{Request}
use Rattle.session_state.specs.declared.state.SessionState.{SessionState}
use Rattle.session_state.specs.State.{outstanding, without_providers}
use Rattle.session_state.specs.HandOn.{is_join_request, is_dissolved, takes_telling, told_of, take_telling, handed_on}
use Rattle.view_state.specs.declared.install.Install.{Install}
use Rattle.node_state.specs.declared.happened.Happened.{Happened}
use Rattle.node_state.specs.declared.happened.Happened.TheVariants as happened
use Rattle.node_state.specs.declared.packet.Body.{Body}
use Rattle.node_state.specs.declared.packet.Body.TheVariants as body
use Rattle.node_state.specs.declared.state.Core.{Core}
use Rattle.node_state.specs.State.{with_row, with_led, set_leader, state_of, len_of, recorded, recorded_all, with_sessions}
use Rattle.node_state.specs.Sending.{send_on, sent, send_all}
use Rattle.node_state.specs.HandOn.{Answering}
use Rattle.node_state.specs.Leading.{put}
use Rattle.node_state.specs.Deciding.{keep_decision, is_idle_empty, wait_join}
use Rattle.node_state.specs.Applying.{level_set, number_of, dissolved}
use Rattle.node_state.specs.Step.{NodeEvent, stepped, at_work}
use Rattle.run_safety.specs.Requests.{carried}
use Rattle.step_refinement.proofs.Turns.{Fewer, handed_fewer}
use Rattle.step_walk.proofs.Changes.{Spoken, Whatever, put_sent, handing, viewing, KeepsRing, KeepsRules, KeepsViews}
use Rattle.step_walk.proofs.Parts.{IsEntering, entering, on_enters}
use Rattle.step_walk.proofs.Ringing.{by_ring}
use Rattle.step_walk.proofs.Walking.{whatever, called, on_stepped}
use Rattle.call_laws.proofs.Kin.{Alike, Kin, kin_handed}
use Rattle.asking_laws.specs.Requests.{IsRequest, BodyFits, SentAreSpelled}
use Rattle.asking_laws.proofs.Calls.{ProviderFits, RequestFits, Sound, sent_more}

alike_fits : (y z : Provider) → Alike y z → ProviderFits z → ProviderFits y
alike_fits y z a k = (subst IsProvider (sym a.provider) k.0, subst IsName (sym a.group) k.1)

-- an entry is handed on
handed_sound : (s : SessionState) (g : List ℕ) (before after : GroupState) (e : Entry) (bs : List (Option Filled)) → Sound s → Sound (handed_on s g before after e bs)
handed_sound s g before after e bs k =
    let kin : Kin s (handed_on s g before after e bs) = kin_handed s g before after e bs in
    let fewer : Fewer s (handed_on s g before after e bs) (carried e) = handed_fewer s g before after e bs in
    record {
      last = subst (λ n. n ≤ last_u32) (sym fewer.last) k.last;
      providers = λ y i. let z = kin.was y i in alike_fits y z.0 z.2 (k.providers z.0 z.1);
      requests = λ q i. k.requests q (fewer.requests q i);
    }

without_sound : (s : SessionState) (ps : List ProviderId) → Sound s → Sound (without_providers s ps)
unfolding without_providers
without_sound s ps k =
    record {
      last = k.last;
      providers = λ y i. k.providers y (has_filter (λ (x : Provider). not (among ps x.provider)) y s.providers i).0;
      requests = λ q i. k.requests q (has_filter (λ (q : Request). not (among ps q.provider)) q s.requests i).0;
    }

-- a provider is told
told_sound : (s : SessionState) (p : ProviderId) (r : ℕ) (y : Why) → Sound s → Sound (take_telling s p r y)
unfolding take_telling told_of
told_sound s p r y k = by (takes_telling s p r y) (is_join_request (outstanding s p) || is_dissolved y)
  where
    by : (a b : Bool) → Sound (if a then (if b then without_providers s (p ∷ []) else record s { requests = filter (λ (q : Request). not (among (p ∷ []) q.provider)) s.requests }) else s)
    by false b = k
    by true true = without_sound s (p ∷ []) k
    by true false = record { last = k.last; providers = k.providers; requests = λ q i. k.requests q (has_filter (λ (q : Request). not (among (p ∷ []) q.provider)) q s.requests i).0 }

-- ---- a step

pub record Holding (s : Core) : Type 0 where
  pub sound : Sound s.sessions
  pub sent : SentAreSpelled s.sends

same : (s t : Core) → t.sessions ≡ s.sessions → t.sends ≡ s.sends → Holding s → Holding t
same s t e f k = record { sound = subst Sound (sym e) k.sound; sent = subst SentAreSpelled (sym f) k.sent }

-- what says nothing of a request is sent, or what is outstanding
says : (s : Core) (b : Body) → Spoken s b → Sound s.sessions → BodyFits b
says s (body.Request v g p r phases x) spoken k =
    let q : Request = spoken.0 in
    let fits : RequestFits q = k.requests q spoken.1 in
    let same : body.Request v g p r phases x ≡ body.Request s.views.view q.group q.provider q.request q.phases q.proposal = spoken.2 in
    let who : q.provider ≡ p = cc in
    let number : q.request ≡ r = cc in
    let group : q.group ≡ g = cc in
    let is : q.proposal ≡ x = cc in
    subst (λ (z : ProviderId × ℕ × List ℕ × Proposal). IsRequest z.0 z.1 z.2 z.3) (λ i. (who i, number i, group i, is i)) fits
says s (body.Ring x) spoken k = tt
says s (body.Report rows) spoken k = tt
says s (body.View x) spoken k = tt
says s (body.Lookup v g) spoken k = tt
says s (body.Name v g n) spoken k = tt
says s (body.Tell v g p r y) spoken k = tt
says s (body.Entry v g i n e) spoken k = tt
says s (body.Ack v g n) spoken k = tt
says s (body.Vote v g proto phase p vote value message) spoken k = tt
says s (body.Gone v g p) spoken k = tt
says s (body.Query question what) spoken k = tt
says s (body.Reply question text) spoken k = tt

sends_on : (s : Core) (network to : ℕ) (b : Body) → BodyFits b → Holding s → Holding (send_on s network to b)
unfolding send_on
sends_on s network to b fits k = record { sound = k.sound; sent = sent_more s network to b fits k.sent }

-- an entry is sent to these nodes
all_sent : (ns : List ℕ) (s : Core) (b : Body) → BodyFits b → Holding s → Holding (send_all s ns b)
unfolding send_all sent
all_sent [] s b fits k = k
all_sent (n ∷ ns) s b fits k = all_sent ns (sent s n b) b fits (sends_on s _ n b fits k)

hands : (s : Core) (g : List ℕ) (e : Entry) (ns : List ℕ) (stable : ℕ) (bs : List (Option Filled)) → Holding s → Holding (handing (put_sent s g e ns stable) g (len_of s g) (state_of s g) (state_of (put s g e) g) e bs)
unfolding with_sessions recorded_all put with_row recorded
hands s g e ns stable bs k =
    let t : Core = put s g e in
    let n : Holding (put_sent s g e ns stable) = all_sent ns t _ tt (same s t refl refl k) in
    record { sound = handed_sound (put_sent s g e ns stable).sessions g (state_of s g) (state_of t g) e bs n.sound; sent = n.sent }

keeps : KeepsRules Holding Whatever
unfolding with_row with_led keep_decision wait_join set_leader recorded send_on with_sessions
keeps =
    record {
      keeps = record {
        row = λ s g f ok mild k. same s (with_row s g f) refl refl k;
        decides = λ s g q r y ok fair k. same s (keep_decision s g q r y) refl refl k;
        sends = λ s network to b spoken k. sends_on s network to b (says s b spoken k.sound) k;
        notes = λ s n c v place t k. same s (recorded s (happened.Noted n c v place t)) refl refl k;
        hands = λ s g e ns stable bs ok k. hands s g e ns stable bs k;
      };
      names = λ s ns k. same s (record s { names = ns }) refl refl k;
      reach = λ s x k. same s (record s { reach = x }) refl refl k;
      leads = λ s g n k. same s (set_leader s g n) refl refl k;
      joins = λ s g q r a e k. same s (wait_join s g q r a (is_idle_empty (state_of s g))) refl refl k;
      tells = λ s q r y telling e k. record { sound = told_sound s.sessions q r y k.sound; sent = k.sent };
    }

ring : KeepsRing Holding
unfolding send_on recorded
ring =
    record {
      rings = λ s rs k. same s (record s { rings = rs }) refl refl k;
      sends = λ s network to x k. sends_on s network to (body.Ring x) tt k;
      records = λ s n network id ms b k. same s (recorded s (happened.Ring n network id ms b)) refl refl k;
    }

pushed : (s : Core) (r : Happened) → IsEntering r → Holding s → Holding (recorded s r)
unfolding recorded
pushed s r a k = record { sound = k.sound; sent = k.sent }

entered : (s : Core) (i : Install) → Holding s → Holding (entering s i)
unfolding level_set
entered s i k = record { sound = record { last = k.sound.last; providers = k.sound.providers; requests = k.sound.requests }; sent = k.sent }

views : KeepsViews Holding
unfolding dissolved recorded with_sessions
views =
    record {
      views = λ s v k. same s (record s { views = (viewing s v).views }) refl refl k;
      enters = λ s i k. on_enters Holding pushed s i (entered s i k);
      dissolves = λ s q x e k. record { sound = told_sound s.sessions x.provider (number_of (outstanding s.sessions x.provider)) Dissolved k.sound; sent = k.sent };
    }

-- what holds after the call of a step, or before any other step, holds after it
pub sound_stepped : (f : Answering) (s : Core) (e : NodeEvent) → Holding (called (at_work s) e) → Holding (stepped f s e)
sound_stepped f s e k = on_stepped Holding Whatever keeps (by_ring Holding Whatever keeps ring) views f s e (whatever e) k
