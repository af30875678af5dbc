-- What the rules of the packets of a view send: a fixed number, beside a hundred for each put, and for a name the
-- outstanding requests.
use Rattle.std.proofs.Common.{◌≡◌, ◌≤◌, ◌<◌, ℕ, List, [], ◌∷◌, ◌++◌, length, filter, Some, None, Option, Bool, true, false, inr, refl, sym, subst, arith, length-append}
use Rattle.std.specs.Prelude.{nat_le, nat_lt, not, is_some, is_none, ◌&&◌, ◌==◌}
use Rattle.std.proofs.lemmas.Bool.Decides.{nat_tests}
use Rattle.std.specs.Option.{unwrap_or}
use Rattle.std.specs.Str.{bytes_eq}
use Rattle.rsct_packet.specs.declared.ids.ProviderId.{ProviderId}
use Rattle.rsct_packet.specs.declared.ids.ProtoId.{ProtoId}
use Rattle.rsct_packet.specs.Providers.{among}
use Rattle.group_attr.specs.declared.attrs.Attrs.{Attrs}
use Rattle.group_attr.specs.declared.attrs.Phases.{Phases}
use Rattle.group_attr.specs.Agree.{agree}
use Rattle.proposal_core.specs.declared.proposal.Cause.TheVariants.{Gone}
use Rattle.proposal_core.specs.declared.proposal.Proposal.{Proposal}
use Rattle.proposal_core.specs.declared.proposal.Proposal.TheVariants.{Join, Leave, Fail, Expel, State, Message, Attributes, Reflect}
use Rattle.proposal_core.specs.declared.entry.Vote.{Vote}
use Rattle.proposal_core.specs.declared.entry.Entry.{Entry}
use Rattle.proposal_core.specs.declared.group_state.GroupState.{GroupState}
use Rattle.proposal_core.specs.Fold.{max_providers, runs, present}
use Rattle.proposal_core.specs.Lists.{is_at_limit}
use Rattle.vote_phases.specs.Tally.{TallyView, tally_fail}
use Rattle.batch_rules.specs.Waiting.{WaitingView, has_instance, waits_join, add_failure, drop_join}
use Rattle.name_server.specs.Names as names
use Rattle.name_server.specs.declared.names.Leader.{Leader}
use Rattle.client_callbacks.specs.declared.told.Why.{Why}
use Rattle.client_callbacks.specs.declared.told.Why.TheVariants.{GroupsFull}
use Rattle.client_callbacks.specs.declared.told.Why.TheVariants as why
use Rattle.session_state.specs.declared.state.Request.{Request}
use Rattle.session_state.specs.State.{outstanding}
use Rattle.session_state.specs.HandOn.{is_numbered, take_telling}
use Rattle.node_state.specs.declared.group.Decision.{Decision}
use Rattle.node_state.specs.declared.group.GroupRow.{GroupRow}
use Rattle.node_state.specs.declared.group.Led.{Led}
use Rattle.node_state.specs.declared.happened.Happened.TheVariants as happened
use Rattle.node_state.specs.declared.packet.Body.{Body}
use Rattle.node_state.specs.declared.packet.Body.TheVariants as body
use Rattle.node_state.specs.declared.state.Core.{Core}
use Rattle.node_state.specs.State.{row_of, led_of, with_led, list_of, state_of, len_of, holds, fits_at_end, forget_below, frozen, coordinates, leader_of, leads, set_leader, acked_raised, decision_of, decisions_with, recorded, with_sessions}
use Rattle.node_state.specs.Sending.{sent, send_request_to, send_request}
use Rattle.node_state.specs.HandOn.{Answering}
use Rattle.node_state.specs.Leading.{put_and_hand, forget_least, with_waiting, with_tally, closes, begins}
use Rattle.node_state.specs.Deciding.{keep_decision, refused, lacks_source, source_len, is_idle_empty, meant_attrs, join_refusal, keep_attrs, wait_join, decide_join, other_refusal, decide_change, decided}
use Rattle.node_state.specs.Following.{take_lookup, told_if, take_tell, requests_of, named, is_name_used, take_name, tell_again, decide_new, request_after, request_at, is_group_refused, take_request, entry_next, entry_elsewhere, take_entry, acked, take_ack, vote_cast, take_vote, tally_failed, wait_gone, marked, gone_present, gone_of, take_gone}
use Rattle.node_state.proofs.NameOrder.{row_here}
use Rattle.send_laws.specs.Bound.{Stands}
use Rattle.send_laws.proofs.Counts.{kept_few}
use Rattle.send_laws.proofs.Parts.{Goes, goes_same, goes_more, then_free, free_then, fold_free, fold_each, goes_row, goes_led, goes_joined, goes_sent, goes_recorded, goes_sessions}
use Rattle.send_laws.proofs.Leads.{goes_put_and_handed, goes_forgets, goes_forgets_least, goes_waits, goes_waits_failure, goes_with_tally, goes_closes, goes_begins}

-- nothing, where one packet may be sent
pub nothing_of : (c : ℕ) (s : Core) → Stands s → Goes c s s
nothing_of c s k = goes_more 0 c s s (omega arith) (goes_same s k)

-- ---- LOOKUP, NAME, TELL

goes_names : (s : Core) (ls : List Leader) → Stands s → Goes 0 s (record s { names = ls })
unfolding state_of list_of row_of
goes_names s ls k =
    record {
      within = omega arith;
      stands = record { few = k.few; order = k.order; room = k.room };
      views = refl;
      config = refl;
      lasts = λ h. record { rings = h.rings; waits = h.waits; views = h.views; sent = h.sent };
    }

pub goes_lookup : (s : Core) (from : ℕ) (g : List ℕ) → Stands s → Goes 1 s (take_lookup s from g)
unfolding take_lookup
goes_lookup s from g k = by (coordinates s)
  where
    b : Body
    b = body.Name s.views.view g (unwrap_or (names.looked_up g from s.names) 0)

    t : Core
    t = record s { names = names.lookup g from s.names }

    by : (c : Bool) → Goes 1 s (elim c [ false ↦ s | true ↦ sent t from b ])
    by false = nothing_of 1 s k
    by true = let a : Goes 0 s t = goes_names s (names.lookup g from s.names) k in free_then 1 s t (sent t from b) a (goes_sent t from b tt a.stands)

pub goes_tell : (s : Core) (p : ProviderId) (r : ℕ) (y : Why) → Stands s → Goes 0 s (take_tell s p r y)
unfolding take_tell told_if
goes_tell s p r y k = by (is_numbered r (outstanding s.sessions p))
  where
    by : (b : Bool) → Goes 0 s (told_if s p r y b)
    by false = goes_same s k
    by true =
        let t : Core = with_sessions s (take_telling s.sessions p r y) in
        let a : Goes 0 s t = goes_sessions s (take_telling s.sessions p r y) k in
        then_free 0 s t (recorded t (happened.Told p r y)) a (goes_recorded t (happened.Told p r y) refl a.stands)

-- a request, or the look-up of its leader's name
pub goes_request_sent : (s : Core) (q : Request) → Stands s → Goes 1 s (send_request s q)
unfolding send_request send_request_to
goes_request_sent s q k = by (frozen s)
  where
    to : (n : Option ℕ) → Goes 1 s (send_request_to s q n)
    to None = goes_sent s s.views.view.coord (body.Lookup s.views.view q.group) tt k
    to (Some n) = goes_sent s n (body.Request s.views.view q.group q.provider q.request q.phases q.proposal) tt k

    by : (b : Bool) → Goes 1 s (elim b [ true ↦ s | false ↦ send_request_to s q (leader_of s q.group) ])
    by true = nothing_of 1 s k
    by false = to (leader_of s q.group)

pub goes_led_by : (s : Core) (g : List ℕ) (n : ℕ) → Stands s → Goes 0 s (set_leader s g n)
unfolding set_leader state_of list_of
goes_led_by s g n k = goes_row 0 s g (λ row. record row { leader = Some n }) (λ x. refl) k (omega arith) (k.room g) (λ w. record { few = w.few; known = inr refl })

pub goes_name : (s : Core) (g : List ℕ) (n : ℕ) → Stands s → Goes (length s.sessions.requests) s (take_name s g n)
unfolding take_name named requests_of
goes_name s g n k = by (is_name_used s g n) (n == 0)
  where
    qs : List Request
    qs = filter (λ (q : Request). bytes_eq q.group g) s.sessions.requests

    few : length qs ≤ length s.sessions.requests
    few = kept_few (λ (q : Request). bytes_eq q.group g) s.sessions.requests

    by : (b c : Bool) → Goes (length s.sessions.requests) s (elim b [ true ↦ named s g n c | false ↦ s ])
    by false c = nothing_of (length s.sessions.requests) s k
    by true true =
        goes_more 0 (length s.sessions.requests) s (named s g n true) (omega arith) (fold_free (λ t (q : Request). take_tell t q.provider q.request (GroupsFull 64)) (λ t q h. goes_tell t q.provider q.request (GroupsFull 64) h) qs s k)
    by true false =
        let a : Goes 0 s (set_leader s g n) = goes_led_by s g n k in
        goes_more (length qs) (length s.sessions.requests) s (named s g n false) few (free_then (length qs) s (set_leader s g n) (named s g n false) a (fold_each send_request goes_request_sent qs (set_leader s g n) a.stands))

-- ---- REQUEST

goes_decision : (s : Core) (g : List ℕ) (p : ProviderId) (r : ℕ) (y : Option Why) → Stands s → Goes 0 s (keep_decision s g p r y)
unfolding keep_decision
goes_decision s g p r y k = goes_led s g (λ l. record l { decided = decisions_with (record { provider = p; request = r; why = y }) l.decided }) k (omega arith)

pub goes_refused : (s : Core) (g : List ℕ) (p : ProviderId) (r : ℕ) (y : Why) → Stands s → Goes 1 s (refused s g p r y)
unfolding refused
goes_refused s g p r y k =
    let t : Core = keep_decision s g p r (Some y) in
    let a : Goes 0 s t = goes_decision s g p r (Some y) k in
    let b : Body = body.Tell s.views.view g p r y in free_then 1 s t (sent t p.node b) a (goes_sent t p.node b tt a.stands)

-- a decision is kept in what is led alone
decision_row : (s : Core) (g : List ℕ) (p : ProviderId) (r : ℕ) (y : Option Why) → Stands s → row_of (keep_decision s g p r y) g ≡ record (row_of s g) { led = record ((row_of s g).led) { decided = decisions_with (record { provider = p; request = r; why = y }) (row_of s g).led.decided } }
unfolding keep_decision with_led
decision_row s g p r y k =
    row_here g (λ row. record row { led = record (row.led) { decided = decisions_with (record { provider = p; request = r; why = y }) row.led.decided } }) (λ x. refl) s k.order

goes_join_waits : (s : Core) (g : List ℕ) (p : ProviderId) (r : ℕ) (a : Attrs) (idle : Bool) → length (row_of s g).led.waiting.joins < 64 → is_some (row_of s g).leader ≡ true → Stands s → Goes 1 s (wait_join s g p r a idle)
unfolding wait_join led_of
goes_join_waits s g p r a idle less known k =
    let t : Core = keep_decision s g p r None in
    let x : Goes 0 s t = goes_decision s g p r None k in
    let change : Led → Led = λ l. record l { waiting = waits_join p l.waiting; join_attrs = keep_attrs l.join_attrs p a idle } in
    let is = decision_row s g p r None k in
    let now : length (row_of t g).led.waiting.joins < 64 = subst (λ (z : GroupRow). length z.led.waiting.joins < 64) (sym is) less in
    let led : is_some (row_of t g).leader ≡ true = subst (λ (z : GroupRow). is_some z.leader ≡ true) (sym is) known in
    free_then 1 s t (with_led t g change) x (goes_joined t g change x.stands (omega (arith, length-append (led_of t g).waiting.joins (p ∷ []))) now led)

-- a join that is not refused finds room
join_room : (s : Core) (g : List ℕ) (p : ProviderId) (a : Attrs) → join_refusal s g p a ≡ None → length (row_of s g).led.waiting.joins < 64
unfolding join_refusal led_of
join_room s g p a e = by (not (is_idle_empty st) && not (agree a st.attrs)) (has_instance here p) (lacks_source s source p.node) (nat_le max_providers (length here)) refl (is_none st.running && is_at_limit (list_of s g)) e
  where
    st : GroupState
    st = state_of s g

    joins : List ProviderId
    joins = (row_of s g).led.waiting.joins

    here : List ProviderId
    here = present st ++ joins

    source : Option (List ℕ)
    source = (meant_attrs st a (is_idle_empty st)).source

    few : nat_le max_providers (length here) ≡ false → length joins < 64
    few q = let l : length here < 64 = grind (arith, nat_tests) in omega (arith, l, length-append (present st) joins)

    by : (b c d m : Bool) → nat_le max_providers (length here) ≡ m → (n : Bool) → elim b as (λ _. Option Why) [ true ↦ Some why.BadAttributes | false ↦ elim c as (λ _. Option Why) [ true ↦ Some why.DuplicateInstance | false ↦ elim d as (λ _. Option Why) [ true ↦ Some (why.NoSource (source_len s source)) | false ↦ elim m as (λ _. Option Why) [ true ↦ Some (why.GroupFull 64) | false ↦ elim n as (λ _. Option Why) [ true ↦ Some (why.ListFull (list_of s g).len (list_of s g).bytes) | false ↦ None ] ] ] ] ] ≡ None → length joins < 64
    by true c d m r n q = absurd cc
    by false true d m r n q = absurd cc
    by false false true m r n q = absurd cc
    by false false false true r n q = absurd cc
    by false false false false r n q = few r

goes_decided_other : (f : Answering) (s : Core) (g : List ℕ) (p : ProviderId) (r : ℕ) (phases : Phases) (x : Proposal) (y : Option Why) → Stands s → Goes 1 s (decide_change f s g p r phases x y)
unfolding decide_change
goes_decided_other f s g p r phases x (Some y) k = goes_refused s g p r y k
goes_decided_other f s g p r phases x None k =
    let t : Core = keep_decision s g p r None in
    let a : Goes 0 s t = goes_decision s g p r None k in
    goes_more 0 1 s (begins f t g x phases) (omega arith) (then_free 0 s t (begins f t g x phases) a (goes_begins f t g x phases a.stands))

goes_decided : (f : Answering) (s : Core) (g : List ℕ) (p : ProviderId) (r : ℕ) (phases : Phases) (x : Proposal) → is_some (row_of s g).leader ≡ true → Stands s → Goes 1 s (decided f s g p r phases x)
unfolding decided decide_join
goes_decided f s g p r phases (Join ps a n) known k = by (join_refusal s g p a) refl
  where
    by : (o : Option Why) → join_refusal s g p a ≡ o → Goes 1 s (decide_join s g p r a o)
    by None q = goes_join_waits s g p r a (is_idle_empty (state_of s g)) (join_room s g p a q) known k
    by (Some y) q = goes_refused s g p r y k
goes_decided f s g p r phases (Leave q i) known k = goes_decided_other f s g p r phases (Leave q i) (other_refusal s g p (Leave q i)) k
goes_decided f s g p r phases (Fail out) known k = goes_decided_other f s g p r phases (Fail out) (other_refusal s g p (Fail out)) k
goes_decided f s g p r phases (Expel q i out) known k = goes_decided_other f s g p r phases (Expel q i out) (other_refusal s g p (Expel q i out)) k
goes_decided f s g p r phases (State q i value) known k = goes_decided_other f s g p r phases (State q i value) (other_refusal s g p (State q i value)) k
goes_decided f s g p r phases (Message q i bytes) known k = goes_decided_other f s g p r phases (Message q i bytes) (other_refusal s g p (Message q i bytes)) k
goes_decided f s g p r phases (Attributes q i attrs) known k = goes_decided_other f s g p r phases (Attributes q i attrs) (other_refusal s g p (Attributes q i attrs)) k
goes_decided f s g p r phases (Reflect v i value) known k = goes_decided_other f s g p r phases (Reflect v i value) (other_refusal s g p (Reflect v i value)) k

goes_request_new : (f : Answering) (s : Core) (g : List ℕ) (p : ProviderId) (r : ℕ) (phases : Phases) (x : Proposal) → Stands s → Goes 1 s (decide_new f s g p r phases x)
unfolding decide_new set_leader
goes_request_new f s g p r phases x k =
    let t : Core = set_leader s g s.views.me in
    let a : Goes 0 s t = goes_led_by s g s.views.me k in
    let known : is_some (row_of t g).leader ≡ true = subst (λ (z : GroupRow). is_some z.leader ≡ true) (sym (row_here g (λ row. record row { leader = Some s.views.me }) (λ x. refl) s k.order)) refl in
    free_then 1 s t (decided f t g p r phases x) a (goes_decided f t g p r phases x known a.stands)

pub goes_request : (f : Answering) (s : Core) (from : ℕ) (g : List ℕ) (p : ProviderId) (r : ℕ) (phases : Phases) (x : Proposal) → Stands s → Goes 1 s (take_request f s from g p r phases x)
unfolding take_request request_at request_after tell_again
goes_request f s from g p r phases x k = by (is_group_refused s g)
  where
    again : (y : Option Why) → Goes 1 s (tell_again s g p r y)
    again None = nothing_of 1 s k
    again (Some y) = goes_sent s p.node (body.Tell s.views.view g p r y) tt k

    after : (d : Decision) (b c : Bool) → Goes 1 s (request_after f s g p r phases x d b c)
    after d true c = nothing_of 1 s k
    after d false true = again d.why
    after d false false = goes_request_new f s g p r phases x k

    at : (o : Option Decision) → Goes 1 s (request_at f s g p r phases x o)
    at None = goes_request_new f s g p r phases x k
    at (Some d) = after d (nat_lt r d.request) (r == d.request)

    by : (b : Bool) → Goes 1 s (elim b [ true ↦ sent s from (body.Name s.views.view g 0) | false ↦ request_at f s g p r phases x (decision_of (led_of s g) p) ])
    by true = goes_sent s from (body.Name s.views.view g 0) tt k
    by false = at (decision_of (led_of s g) p)

-- ---- ENTRY and ACK

goes_next : (f : Answering) (s : Core) (from : ℕ) (g : List ℕ) (stable : ℕ) (e : Entry) → Stands s → Goes 1 s (entry_next f s from g stable e (fits_at_end s g e))
unfolding entry_next
goes_next f s from g stable e k = by (fits_at_end s g e) refl
  where
    by : (b : Bool) → fits_at_end s g e ≡ b → Goes 1 s (entry_next f s from g stable e b)
    by false q = nothing_of 1 s k
    by true q =
        let t : Core = put_and_hand f s (Some from) g e in
        let a : Goes 0 s t = goes_put_and_handed f s (Some from) g e q k in
        let b : Body = body.Ack t.views.view g (len_of t g) in
        let u : Core = sent t from b in
        let gu : Goes 1 t u = goes_sent t from b tt a.stands in
        let w : Core = set_leader u g from in
        let gw : Goes 0 u w = goes_led_by u g from gu.stands in
        let x : Core = forget_below w g stable in
        let gx : Goes 0 w x = goes_forgets w g stable gw.stands in free_then 1 s t x a (then_free 1 t u x gu (then_free 0 u w x gw gx))

goes_elsewhere : (s : Core) (from : ℕ) (g : List ℕ) (stable : ℕ) (b : Bool) → Stands s → Goes 1 s (entry_elsewhere s from g stable b)
unfolding entry_elsewhere
goes_elsewhere s from g stable true k =
    let b : Body = body.Ack s.views.view g (len_of s g) in
    let a : Goes 1 s (sent s from b) = goes_sent s from b tt k in
    then_free 1 s (sent s from b) (forget_below (sent s from b) g stable) a (goes_forgets (sent s from b) g stable a.stands)
goes_elsewhere s from g stable false k = by (holds s g)
  where
    by : (b : Bool) → Goes 1 s (elim b [ true ↦ forget_below s g stable | false ↦ s ])
    by true = goes_more 0 1 s (forget_below s g stable) (omega arith) (goes_forgets s g stable k)
    by false = nothing_of 1 s k

pub goes_entry : (f : Answering) (s : Core) (from : ℕ) (g : List ℕ) (place stable : ℕ) (e : Entry) → Stands s → Goes 1 s (take_entry f s from g place stable e)
unfolding take_entry
goes_entry f s from g place stable e k = by (place == len_of s g)
  where
    by : (b : Bool) → Goes 1 s (elim b [ true ↦ entry_next f s from g stable e (fits_at_end s g e) | false ↦ entry_elsewhere s from g stable (nat_lt place (len_of s g)) ])
    by true = goes_next f s from g stable e k
    by false = goes_elsewhere s from g stable (nat_lt place (len_of s g)) k

pub goes_ack : (s : Core) (from : ℕ) (g : List ℕ) (n : ℕ) → Stands s → Goes 0 s (take_ack s from g n)
unfolding take_ack acked
goes_ack s from g n k = by (leads s g && nat_le n (len_of s g))
  where
    by : (b : Bool) → Goes 0 s (elim b [ true ↦ acked s from g n | false ↦ s ])
    by true =
        let change : Led → Led = λ l. record l { acked = acked_raised from n l.acked } in
        let a : Goes 0 s (with_led s g change) = goes_led s g change k (omega arith) in
        then_free 0 s (with_led s g change) (forget_least (with_led s g change) g) a (goes_forgets_least (with_led s g change) g a.stands)
    by false = goes_same s k

-- ---- VOTE and GONE

cast_joins : (l : Led) (p : ProviderId) (v : Vote) (value message : Option (List ℕ)) (t : Option TallyView) → (vote_cast l p v value message t).waiting ≡ l.waiting
unfolding vote_cast
cast_joins l p v value message None = refl
cast_joins l p v value message (Some t) = refl

pub goes_vote : (f : Answering) (s : Core) (g : List ℕ) (proto : ProtoId) (phase : ℕ) (p : ProviderId) (v : Vote) (value message : Option (List ℕ)) → Stands s → Goes 0 s (take_vote f s g proto phase p v value message)
unfolding take_vote
goes_vote f s g proto phase p v value message k = by (leads s g && runs proto phase (state_of s g).running)
  where
    by : (b : Bool) → Goes 0 s (elim b [ true ↦ closes f (with_led s g (λ l. vote_cast l p v value message l.tally)) g | false ↦ s ])
    by true =
        let few : length (vote_cast (led_of s g) p v value message (led_of s g).tally).waiting.joins ≤ length (led_of s g).waiting.joins =
        subst (λ (w : WaitingView). length w.joins ≤ length (led_of s g).waiting.joins) (sym (cast_joins (led_of s g) p v value message (led_of s g).tally)) (omega arith) in
        let t : Core = with_led s g (λ l. vote_cast l p v value message l.tally) in
        let a : Goes 0 s t = goes_led s g (λ l. vote_cast l p v value message l.tally) k few in then_free 0 s t (closes f t g) a (goes_closes f t g a.stands)
    by false = goes_same s k

goes_tally_failed : (f : Answering) (s : Core) (g : List ℕ) (p : ProviderId) (t : Option TallyView) → Stands s → Goes 0 s (tally_failed f s g p t)
unfolding tally_failed
goes_tally_failed f s g p None k = goes_same s k
goes_tally_failed f s g p (Some t) k =
    let u : Core = with_tally s g (Some (tally_fail p t)) in
    let a : Goes 0 s u = goes_with_tally s g (Some (tally_fail p t)) k in then_free 0 s u (closes f u g) a (goes_closes f u g a.stands)

goes_gone_waits : (s : Core) (g : List ℕ) (p : ProviderId) → Stands s → Goes 0 s (wait_gone s g p)
unfolding wait_gone
goes_gone_waits s g p k = by (among (state_of s g).members p)
  where
    by : (b : Bool) → Goes 0 s (elim b [ true ↦ with_waiting s g (add_failure p Gone) | false ↦ s ])
    by true = goes_waits_failure s g p Gone k
    by false = goes_same s k

goes_present : (f : Answering) (s : Core) (g : List ℕ) (p : ProviderId) → Stands s → Goes 0 s (gone_present f s g p)
unfolding gone_present
goes_present f s g p k =
    let t : Core = with_led s g (λ l. record l { gone = marked l.gone p }) in
    let a : Goes 0 s t = goes_led s g (λ l. record l { gone = marked l.gone p }) k (omega arith) in
    let u : Core = tally_failed f t g p (led_of t g).tally in
    let b : Goes 0 t u = goes_tally_failed f t g p (led_of t g).tally a.stands in
    then_free 0 s t (wait_gone u g p) a (then_free 0 t u (wait_gone u g p) b (goes_gone_waits u g p b.stands))

pub goes_gone : (f : Answering) (s : Core) (g : List ℕ) (p : ProviderId) → Stands s → Goes 0 s (take_gone f s g p)
unfolding take_gone gone_of
goes_gone f s g p k = by (leads s g)
  where
    of : (b c : Bool) → Goes 0 s (gone_of f s g p b c)
    of true c = goes_present f s g p k
    of false true = goes_waits s g (drop_join p) (λ w. kept_few _ w.joins) k
    of false false = goes_same s k

    by : (b : Bool) → Goes 0 s (elim b [ true ↦ gone_of f s g p (among (present (state_of s g)) p) (among (led_of s g).waiting.joins p) | false ↦ s ])
    by true = of (among (present (state_of s g)) p) (among (led_of s g).waiting.joins p)
    by false = goes_same s k
