-- What appending does.
use Rattle.std.proofs.Common.{◌≡◌, ℕ, ◌+◌, ◌<◌, Bool, true, false, not, ◌++◌, List, [], ◌∷◌, length, get_or, take, filter, Option, refl, ap, ◌∙◌, append-nil}
use Rattle.std.specs.List.{fold}
use Rattle.std.proofs.lemmas.List.Elements.{filter_more}
use Rattle.rsct_packet.specs.declared.ids.ProviderId.{ProviderId}
use Rattle.rsct_packet.specs.Providers.{among}
use Rattle.proposal_core.specs.declared.entry.Entry.{Entry}
use Rattle.proposal_core.specs.declared.group_state.GroupState.{GroupState}
use Rattle.client_callbacks.specs.declared.votes.VoteItem.{VoteItem}
use Rattle.node_state.specs.declared.packet.Body.{Body}
use Rattle.node_state.specs.declared.packet.Body.TheVariants as body
use Rattle.node_state.specs.declared.state.Core.{Core}
use Rattle.node_state.specs.State.{led_of, state_of, len_of, leader_of, others, least_acked}
use Rattle.node_state.specs.Sending.{send_on, sent, send_all}
use Rattle.node_state.specs.HandOn.{hand_on}
use Rattle.node_state.specs.Leading.{put, put_and_hand, forget_least, with_waiting, wait_if, new_members_wait, appended, append_if_fits}
use Rattle.node_state.proofs.AlongLaws.{state_as}
use Rattle.node_groups.specs.Keeps.{Keeps}
use Rattle.node_groups.proofs.KeepLaws.{keeps_itself, keeps_then, keeps_as, led_keeps, sent_keeps}
use Rattle.entry_delivery.specs.Received.{Handing}
use Rattle.entry_delivery.specs.Doing.{Does, Ready}
use Rattle.entry_delivery.proofs.DoingLaws.{does_nothing, does_after, does_before, does_as}
use Rattle.group_leading.specs.Waiting.{new_ones_wait}
use Rattle.group_leading.specs.Working.{AtWork}
use Rattle.group_leading.proofs.HandedLaws.{handed_order}
use Rattle.group_leading.proofs.WorkLaws.{keeps_follows}

-- a packet leaves the view as it is
pub sent_view : (s : Core) (to : ℕ) (b : Body) → (sent s to b).views ≡ s.views
unfolding sent send_on
sent_view s to b = refl

-- ---- new members

fold_on : {A B : Type 0} (f : B → A → B) (b : B) (xs : List A) (x : A) → fold f b (xs ++ x ∷ []) ≡ f (fold f b xs) x
fold_on f b [] x = refl
fold_on f b (y ∷ xs) x = fold_on f (f b y) xs x

pub one_waits : (s : Core) (g : List ℕ) (failed gone before ps : List ProviderId) (i : ℕ) (d : ProviderId) → i < length ps → among before (get_or ps i d) ≡ false
    → new_ones_wait s g failed gone before (take (i + 1) ps) ≡ wait_if (new_ones_wait s g failed gone before (take i ps)) g (get_or ps i d) (among failed (get_or ps i d)) (among gone (get_or ps i d))
one_waits s g failed gone before ps i d lt h = rw (filter_more (λ p. not (among before p)) ps i d lt, h) (fold_on (λ (t : Core) (p : ProviderId). wait_if t g p (among failed p) (among gone p)) s (filter (λ p. not (among before p)) (take i ps)) (get_or ps i d))

pub none_waits : (s : Core) (g : List ℕ) (failed gone before ps : List ProviderId) (i : ℕ) (d : ProviderId) → i < length ps → among before (get_or ps i d) ≡ true
    → new_ones_wait s g failed gone before (take (i + 1) ps) ≡ new_ones_wait s g failed gone before (take i ps)
none_waits s g failed gone before ps i d lt h = rw (filter_more (λ p. not (among before p)) ps i d lt, h, append-nil) refl

-- ---- what asks no client

each_sent_keeps : (s : Core) (ns : List ℕ) (b : Body) → Keeps s (fold (λ t n. sent t n b) s ns)
each_sent_keeps s [] b = keeps_itself s
each_sent_keeps s (n ∷ ns) b = keeps_then s (sent s n b) _ (sent_keeps s n b) (each_sent_keeps (sent s n b) ns b)

pub sent_all_keeps : (s : Core) (ns : List ℕ) (b : Body) → Keeps s (send_all s ns b)
unfolding send_all
sent_all_keeps s ns b = each_sent_keeps s ns b

waits_keeps : (s : Core) (g : List ℕ) (p : ProviderId) (failed gone : Bool) → Keeps s (wait_if s g p failed gone)
unfolding wait_if with_waiting
waits_keeps s g p true gone = led_keeps s g _
waits_keeps s g p false true = led_keeps s g _
waits_keeps s g p false false = keeps_itself s

each_waits_keeps : (s : Core) (g : List ℕ) (failed gone : ProviderId → Bool) (ps : List ProviderId) → Keeps s (fold (λ t p. wait_if t g p (failed p) (gone p)) s ps)
each_waits_keeps s g failed gone [] = keeps_itself s
each_waits_keeps s g failed gone (p ∷ ps) =
    keeps_then s (wait_if s g p (failed p) (gone p)) _ (waits_keeps s g p (failed p) (gone p)) (each_waits_keeps (wait_if s g p (failed p) (gone p)) g failed gone ps)

pub new_members_keeps : (s : Core) (g : List ℕ) (before after : GroupState) → Keeps s (new_members_wait s g before after)
unfolding new_members_wait
new_members_keeps s g before after = each_waits_keeps s g (among after.failed) (among (led_of s g).gone) (filter (λ p. not (among before.members p)) after.members)

-- ---- putting and appending

pub handed_work : {C : Type 0} (scripts : List (Option (List (Option VoteItem)))) (P : List Handing → Type 0) (s t : Core) (cs ds : List C) (to : Option ℕ) (g : List ℕ) (i : ℕ) (before after : GroupState) (e : Entry) → AtWork s cs
    → Ready t ds × Does scripts P s t (λ f. hand_on f s to g i before after e) → AtWork t ds
handed_work scripts P s t cs ds to g i before after e work handing =
    record { ready = handing.0; order = handed_order scripts P s t to g i before after e handing.1 work.order }

pub put_and_handed_does : (scripts : List (Option (List (Option VoteItem)))) (P : List Handing → Type 0) (s t u : Core) (to : Option ℕ) (g : List ℕ) (e : Entry) (i : ℕ) (before after : GroupState) → t ≡ put s g e → Keeps s t → i ≡ len_of s g → before ≡ state_of s g → after ≡ state_of t g
    → Does scripts P t u (λ f. hand_on f t to g i before after e) → Does scripts P s u (λ f. put_and_hand f s to g e)
unfolding put_and_hand
put_and_handed_does scripts P s t u to g e i before after putting keeps at old new handing =
    does_as scripts P s u (λ f. hand_on f t to g i before after e) (λ f. put_and_hand f s to g e) (λ f. rw (new, putting, at, old) refl)
    (does_after scripts P s t u (λ f. hand_on f t to g i before after e) (keeps_follows s t keeps) handing)

each_sent_groups : (s : Core) (ns : List ℕ) (b : Body) → (fold (λ t n. sent t n b) s ns).groups ≡ s.groups
unfolding sent send_on
each_sent_groups s [] b = refl
each_sent_groups s (n ∷ ns) b = each_sent_groups (sent s n b) ns b

-- what is sent leaves the states of groups
pub sent_state : (s t : Core) (ns : List ℕ) (b : Body) (g : List ℕ) → t ≡ send_all s ns b → state_of t g ≡ state_of s g
unfolding send_all
sent_state s t ns b g sending = state_as s t g (ap (λ (x : Core). x.groups) sending ∙ each_sent_groups s ns b)

pub sent_keeps_as : (s t : Core) (ns : List ℕ) (b : Body) → t ≡ send_all s ns b → Keeps s t
sent_keeps_as s t ns b sending = keeps_as s (send_all s ns b) t sending (sent_all_keeps s ns b)

pub waiting_keeps : (s t u : Core) (g : List ℕ) (before after : GroupState) → Keeps s t → u ≡ new_members_wait t g before after → Keeps s u
waiting_keeps s t u g before after forgets waiting = keeps_then s t u forgets (keeps_as t (new_members_wait t g before after) u waiting (new_members_keeps t g before after))

pub appended_does : (scripts : List (Option (List (Option VoteItem)))) (P : List Handing → Type 0) (s t u w x y : Core) (g : List ℕ) (e : Entry) (i : ℕ) (before after : GroupState) → t ≡ put s g e → Keeps s t → i ≡ len_of s g → before ≡ state_of s g → after ≡ state_of t g
    → u ≡ send_all t (others t) (body.Entry t.views.view g i (least_acked t g) e) → Does scripts P u w (λ f. hand_on f u (leader_of u g) g i before after e)
    → x ≡ forget_least w g → Keeps w x → y ≡ new_members_wait x g before after → Does scripts P s y (λ f. appended f s g e)
unfolding appended
appended_does scripts P s t u w x y g e i before after putting keeps at old new sending handing forgetting forgets waiting =
    let behind : y ≡ new_members_wait (forget_least w g) g before after = waiting ∙ ap (λ (z : Core). new_members_wait z g before after) forgetting in
    does_as scripts P s y (λ f. new_members_wait (forget_least (hand_on f u (leader_of u g) g i before after e) g) g before after) (λ f. appended f s g e) (λ f. rw (sending, new, putting, at, old) refl)
    (does_after scripts P s u y (λ f. new_members_wait (forget_least (hand_on f u (leader_of u g) g i before after e) g) g before after) (keeps_follows s u (keeps_then s t u keeps (sent_keeps_as t u _ _ sending)))
    (does_before scripts P u w y (λ f. hand_on f u (leader_of u g) g i before after e) (λ z. new_members_wait (forget_least z g) g before after) handing behind (keeps_follows w y (waiting_keeps w x y g before after forgets waiting))))

-- where it fits, and where it does not
pub appended_where : (scripts : List (Option (List (Option VoteItem)))) (P : List Handing → Type 0) (s t : Core) (g : List ℕ) (e : Entry) (fits : Bool) → fits ≡ true → Does scripts P s t (λ f. appended f s g e) → Does scripts P s t (λ f. append_if_fits f s g e fits)
unfolding append_if_fits
appended_where scripts P s t g e fits h d = rw h d

pub appended_nowhere : (scripts : List (Option (List (Option VoteItem)))) (P : List Handing → Type 0) → P [] → (s : Core) (g : List ℕ) (e : Entry) (fits : Bool) → fits ≡ false → Does scripts P s s (λ f. append_if_fits f s g e fits)
unfolding append_if_fits
appended_nowhere scripts P p s g e fits h = rw h (does_nothing scripts P s p)
