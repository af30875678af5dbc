-- What a request does, by what was decided last.
use Rattle.std.proofs.Common.{◌≡◌, ℕ, ◌<◌, ◌≤◌, ◌==◌, Bool, true, false, List, Option, Some, None, refl, sym, ap, ◌∙◌}
use Rattle.std.specs.Prelude.{nat_lt}
use Rattle.std.proofs.lemmas.Bool.{lt-ltb, le-ltb, eq-eqb, ne_eqb}
use Rattle.rsct_packet.specs.declared.ids.ProviderId.{ProviderId}
use Rattle.group_attr.specs.declared.attrs.Phases.{Phases}
use Rattle.proposal_core.specs.declared.proposal.Proposal.{Proposal}
use Rattle.client_callbacks.specs.declared.told.Why.{Why}
use Rattle.client_callbacks.specs.declared.votes.VoteItem.{VoteItem}
use Rattle.node_state.specs.declared.group.Decision.{Decision}
use Rattle.node_state.specs.declared.packet.Body.TheVariants as body
use Rattle.node_state.specs.declared.state.Core.{Core}
use Rattle.node_state.specs.State.{led_of, set_leader, decision_of}
use Rattle.node_state.specs.Sending.{sent}
use Rattle.node_state.specs.HandOn.{Answering}
use Rattle.node_state.specs.Deciding.{decided}
use Rattle.node_state.specs.Following.{tell_again, decide_new, request_after, request_at, is_group_refused, take_request}
use Rattle.node_groups.specs.Keeps.{Keeps}
use Rattle.node_groups.proofs.KeepLaws.{keeps_itself, sent_keeps}
use Rattle.entry_delivery.specs.Received.{Handing}
use Rattle.entry_delivery.specs.Doing.{Does}
use Rattle.group_leading.proofs.RowLaws.{leader_keeps, does_behind}

pub again_keeps : (s : Core) (g : List ℕ) (p : ProviderId) (r : ℕ) (why : Option Why) → Keeps s (tell_again s g p r why)
unfolding tell_again
again_keeps s g p r None = keeps_itself s
again_keeps s g p r (Some y) = sent_keeps s p.node _

pub request_refused : (f : Answering) (s : Core) (from : ℕ) (g : List ℕ) (p : ProviderId) (r : ℕ) (phases : Phases) (x : Proposal) → is_group_refused s g ≡ true
    → sent s from (body.Name s.views.view g 0) ≡ take_request f s from g p r phases x
unfolding take_request
request_refused f s from g p r phases x e = rw (e, take_request) refl

pub request_first : (f : Answering) (s : Core) (from : ℕ) (g : List ℕ) (p : ProviderId) (r : ℕ) (phases : Phases) (x : Proposal) → is_group_refused s g ≡ false → decision_of (led_of s g) p ≡ None
    → decide_new f s g p r phases x ≡ take_request f s from g p r phases x
unfolding take_request request_at
request_first f s from g p r phases x e none = rw (e, none, take_request, request_at) refl

-- where a request was decided before
request_again : (f : Answering) (s : Core) (from : ℕ) (g : List ℕ) (p : ProviderId) (r : ℕ) (phases : Phases) (x : Proposal) (d : Decision) → is_group_refused s g ≡ false → decision_of (led_of s g) p ≡ Some d
    → request_after f s g p r phases x d (nat_lt r d.request) (r == d.request) ≡ take_request f s from g p r phases x
unfolding take_request request_at
request_again f s from g p r phases x d e some = rw (e, some, take_request, request_at) refl

pub request_late : (f : Answering) (s : Core) (from : ℕ) (g : List ℕ) (p : ProviderId) (r : ℕ) (phases : Phases) (x : Proposal) (d : Decision) → is_group_refused s g ≡ false → decision_of (led_of s g) p ≡ Some d
    → r < d.request → s ≡ take_request f s from g p r phases x
unfolding request_after
request_late f s from g p r phases x d e some late =
    ap (λ (b : Bool). request_after f s g p r phases x d b (r == d.request)) (sym (lt-ltb r d.request late)) ∙ request_again f s from g p r phases x d e some

-- where it is not an earlier one
request_from : (f : Answering) (s : Core) (from : ℕ) (g : List ℕ) (p : ProviderId) (r : ℕ) (phases : Phases) (x : Proposal) (d : Decision) → is_group_refused s g ≡ false → decision_of (led_of s g) p ≡ Some d
    → d.request ≤ r → request_after f s g p r phases x d false (r == d.request) ≡ take_request f s from g p r phases x
request_from f s from g p r phases x d e some late =
    ap (λ (b : Bool). request_after f s g p r phases x d b (r == d.request)) (sym (le-ltb r d.request late)) ∙ request_again f s from g p r phases x d e some

pub request_same : (f : Answering) (s : Core) (from : ℕ) (g : List ℕ) (p : ProviderId) (r : ℕ) (phases : Phases) (x : Proposal) (d : Decision) → is_group_refused s g ≡ false → decision_of (led_of s g) p ≡ Some d
    → d.request ≤ r → r ≡ d.request → tell_again s g p r d.why ≡ take_request f s from g p r phases x
unfolding request_after
request_same f s from g p r phases x d e some late same =
    ap (λ (b : Bool). request_after f s g p r phases x d false b) (sym (eq-eqb r d.request same)) ∙ request_from f s from g p r phases x d e some late

pub request_next : (f : Answering) (s : Core) (from : ℕ) (g : List ℕ) (p : ProviderId) (r : ℕ) (phases : Phases) (x : Proposal) (d : Decision) → is_group_refused s g ≡ false → decision_of (led_of s g) p ≡ Some d
    → d.request ≤ r → (r ≡ d.request → ⊥) → decide_new f s g p r phases x ≡ take_request f s from g p r phases x
unfolding request_after
request_next f s from g p r phases x d e some late other =
    ap (λ (b : Bool). request_after f s g p r phases x d false b) (sym (ne_eqb r d.request other)) ∙ request_from f s from g p r phases x d e some late

pub new_does : (scripts : List (Option (List (Option VoteItem)))) (P : List Handing → Type 0) (s t u : Core) (g : List ℕ) (p : ProviderId) (r : ℕ) (phases : Phases) (x : Proposal) → t ≡ set_leader s g s.views.me → Does scripts P t u (λ f. decided f t g p r phases x)
    → Does scripts P s u (λ f. decide_new f s g p r phases x)
unfolding decide_new
new_does scripts P s t u g p r phases x e next = does_behind scripts P s t u (set_leader s g s.views.me) (λ f y. decided f y g p r phases x) (leader_keeps s g s.views.me) e next
