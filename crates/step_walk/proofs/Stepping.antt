-- The rules of views, and a whole step, keep what is kept by each change.
use Rattle.node_state.specs.Ticks.{tick_rule, tick_led}
use Rattle.node_state.specs.Ending.{end_step}
use Rattle.node_state.specs.Calls.{take_call}
use Rattle.std.proofs.Common.{◌≡◌, ℕ, List, Option, Some, None, Bool, true, false, refl, sym, subst}
use Rattle.std.specs.Prelude.{not, ◌==◌, ◌&&◌}
use Rattle.std.specs.Str.{bytes_eq}
use Rattle.rsct_packet.specs.declared.ids.ViewId.{ViewId}
use Rattle.rsct_packet.specs.declared.ids.ProviderId.{ProviderId}
use Rattle.rsct_packet.specs.declared.mask.Mask.{Mask}
use Rattle.proposal_core.specs.Fold.{present}
use Rattle.proposal_core.specs.Lists.{state_in}
use Rattle.session_state.specs.declared.state.Provider.{Provider}
use Rattle.session_state.specs.State.{provider_of}
use Rattle.view_state.specs.declared.install.Install.{Install}
use Rattle.view_state.specs.declared.install.Base.{Base}
use Rattle.view_state.specs.Bases.{bases_of, base_named}
use Rattle.view_state.specs.declared.packet.ViewPacket.{ViewPacket}
use Rattle.view_state.specs.declared.packet.ViewPacket.TheVariants as packet
use Rattle.node_state.specs.declared.group.GroupRow.{GroupRow}
use Rattle.node_state.specs.declared.packet.Packet.{Packet}
use Rattle.node_state.specs.declared.state.Core.{Core}
use Rattle.node_state.specs.Settings.{is_fixed}
use Rattle.node_state.specs.State.{held_rows}
use Rattle.node_state.specs.HandOn.{Answering}
use Rattle.node_state.specs.Applying.{Lacking, lacking, fill_lists, is_in_base, dissolved_if, group_dissolved, sides_dissolved, entered, entered_if, apply_install, views_taken}
use Rattle.node_state.specs.Ticks.{tick_rings, tick_views}
use Rattle.node_state.specs.Step as step
use Rattle.node_state.specs.Step.{NodeEvent, is_used, used_if, take_order, view_rule, take_body, packet_rule, event_rule, stepped, at_work}
use Rattle.std.proofs.lemmas.Bool.{eqb-true}
use Rattle.node_state.specs.Ticks.{tick_owed}
use Rattle.std.proofs.Common.{◌≡◌, ℕ, List, [], ◌∷◌, Option, Some, None, Bool, true, false, refl, sym, subst, inl, inr, ⊎_elim}
use Rattle.std.specs.Prelude.{◌==◌, filter, fold, flat_map, is_some}
use Rattle.std.specs.Str.{bytes_eq}
use Rattle.rsct_packet.specs.declared.ids.ProviderId.{ProviderId}
use Rattle.rsct_packet.specs.Providers.{among}
use Rattle.rsct_packet.specs.Search.{Has}
use Rattle.rsct_packet.proofs.HasLaws.{has_append}
use Rattle.group_attr.specs.Attrs.{host_membership}
use Rattle.proposal_core.specs.declared.proposal.Cause.TheVariants.{Died}
use Rattle.proposal_core.specs.declared.entry.Entry.{Entry}
use Rattle.batch_rules.specs.Waiting.{add_failure}
use Rattle.subscribe_core.specs.declared.subs.Subscription.{Subscription}
use Rattle.client_callbacks.specs.declared.told.Told.TheVariants as told
use Rattle.view_state.specs.declared.install.Base.{Base}
use Rattle.view_state.specs.Bases.{base_named}
use Rattle.view_state.specs.declared.packet.ViewPacket.{ViewPacket}
use Rattle.view_state.specs.declared.packet.ViewPacket.TheVariants as packet
use Rattle.view_state.specs.declared.packet.ViewSend.{ViewSend}
use Rattle.node_state.specs.declared.happened.Happened.{Happened}
use Rattle.node_state.specs.declared.happened.Happened.TheVariants as happened
use Rattle.node_state.specs.declared.packet.Body.{Body}
use Rattle.node_state.specs.declared.packet.Body.TheVariants as body
use Rattle.node_state.specs.declared.packet.Packet.{Packet}
use Rattle.node_state.specs.declared.state.Core.{Core}
use Rattle.node_state.specs.State.{state_of}
use Rattle.node_state.specs.Sending.{sent}
use Rattle.node_state.specs.HandOn.{Answering, note_of, subscriber_name}
use Rattle.node_state.specs.Leading.{put_and_hand, with_waiting, tally_set, tally_opened}
use Rattle.node_state.specs.State.{with_led}
use Rattle.node_state.specs.Sending.{send_requests, send_votes_again}
use Rattle.node_state.specs.Ticks.{ring_rule}
use Rattle.adapter_ring.specs.declared.packet.RingPacket.{RingPacket}
use Rattle.node_state.specs.Applying.{Lacking, fill_lists, base_note, entering_note, entering_noted, taken_sent, owed_sent, wait_failed, phase_reopened, lead, lead_groups}
use Rattle.node_state.specs.Ticks.{row_reported, take_report}
use Rattle.node_state.specs.Status.{status_text}
use Rattle.node_state.specs.Step.{is_used, used_if, view_rule, take_body}
use Rattle.client_callbacks.specs.declared.ballot.Filled.{Filled}
use Rattle.step_walk.proofs.Waiting.{fails_few, fails_apart}
use Rattle.step_walk.proofs.Changes.{Any, Tells, Viewing, Asks, Prepares, Answers, Refuses, Installs, Takes, Gathers, Reminds, viewing}
use Rattle.step_walk.proofs.Evidence.{delivered, IsLed, KeepsBeside, KeepsEnding, Keeping, KeepsPackets, KeepsEntering, Arisen}
use Rattle.group_attr.specs.declared.attrs.Phases.{Phases}
use Rattle.proposal_core.specs.declared.proposal.Proposal.{Proposal}
use Rattle.view_state.specs.declared.views.ViewWork.{ViewWork}
use Rattle.step_walk.proofs.Steady.{Steady, led_now, as_row, steadily}
use Rattle.step_walk.proofs.Asides.{IsNote, at_either, at_fold, at_sent, at_notes, at_rest_put, at_waiting}
use Rattle.step_walk.proofs.Packets.{at_requests, at_votes, at_owed_part, at_ack, at_lookup, at_tell, at_name, at_request, at_entry, at_vote, at_gone, at_led_part, closed_still, led_still}
use Rattle.step_walk.proofs.Ends.{at_ended}

-- the node after the call of the event, or before any other event
abbrev pub called : Core → NodeEvent → Core
called s (step.Calls c) = take_call s c
called s _ = s

-- a step before its end
abbrev pub before_end : Answering → Core → NodeEvent → Core
before_end f s step.Ticks = tick_led f (tick_owed (tick_views f (tick_rings s)))
before_end f s (step.Asks mask) = take_order f s mask
before_end f s (step.Given q) = packet_rule f s q
before_end f s (step.Calls c) = take_call s c
before_end f s step.Garbage = s

pub stepped_is : (f : Answering) (s : Core) (e : NodeEvent) → stepped f s e ≡ end_step f (before_end f (at_work s) e)
unfolding stepped event_rule tick_rule
stepped_is f s step.Ticks = refl
stepped_is f s (step.Asks mask) = refl
stepped_is f s (step.Given q) = refl
stepped_is f s (step.Calls c) = refl
stepped_is f s step.Garbage = refl

-- a packet that is given, by the rules of rings
pub record KeepsRinging (P : Core → Type 0) (Given : Core → Packet → Type 0) : Type 0 where
  pub ticks : (s : Core) → P s → P (tick_rings s)
  pub takes : (s : Core) (q : Packet) (x : RingPacket) → Given s q → q.to ≡ s.views.me → q.body ≡ body.Ring x → P s → P (ring_rule s q.network q.from q.inc x)

-- the packet of the event is such a one for the node
abbrev pub GivenTo : (Core → Packet → Type 0) → Core → NodeEvent → Type 0
GivenTo Given s (step.Given q) = Given s q
GivenTo Given s _ = Unit {0}

-- ---- what is sent and noted as a view is entered

module _ (P : Core → Type 0) (k : KeepsBeside P Any) where
  at_entering_noted : {s : Core} (bs : List Base) → P s → P (entering_noted s bs)
  unfolding entering_noted entering_note base_note note_of
  at_entering_noted {s} bs p = at_notes P Any k (flat_map (entering_note s bs) s.sessions.subs.live) (all s.sessions.subs.live) p
    where
      of_base : (u : Subscription) (o : Option Base) (r : Happened) → Has r (base_note s u o) → IsNote r
      of_base u None r h = absurd h
      of_base u (Some b) r (inl e) = subst IsNote (sym e) tt
      of_base u (Some b) r (inr z) = absurd z

      one : (u : Subscription) (t : Bool) (r : Happened) → Has r (elim t as (λ _. List Happened) [ true ↦ happened.Noted s.views.me (subscriber_name s.sessions u) s.views.view None (told.Hosts s.views.view s.views.members) ∷ [] | false ↦ base_note s u (base_named bs u.group) ]) → IsNote r
      one u true r (inl e) = subst IsNote (sym e) tt
      one u true r (inr z) = absurd z
      one u false r h = of_base u (base_named bs u.group) r h

      all : (us : List Subscription) (r : Happened) → Has r (flat_map (entering_note s bs) us) → IsNote r
      all [] r h = absurd h
      all (u ∷ us) r h =
          ⊎_elim (λ (a : Has r (entering_note s bs u)). one u (bytes_eq u.group host_membership) r a) (λ (b : Has r (flat_map (entering_note s bs) us)). all us r b) (has_append r (entering_note s bs u) (flat_map (entering_note s bs) us) h)

  at_taken_sent : {s : Core} → P s → P (taken_sent s)
  unfolding taken_sent
  at_taken_sent {s} p = at_either P (s.views.view.coord == s.views.me) p (at_sent P Any k s.views.view.coord (body.View (packet.Taken s.views.view)) tt p)

-- what the node lacks is put and heard
module _ (Leaving : Core → Type 0) (beside : KeepsBeside Leaving Any) (all : List Lacking) (fills : (s : Core) (x : Lacking) (e : Entry) (bs : List (Option Filled)) → Has x all → Has e x.entries → Leaving s → Leaving (delivered s x.name e [] 0 bs)) where
  at_list_filled : (f : Answering) (x : Lacking) → Has x all → (es : List Entry) → ((e : Entry) → Has e es → Has e x.entries) → (s : Core) → Leaving s → Leaving (fold (λ u e. put_and_hand f u None x.name e) s es)
  at_list_filled f x i [] here s p = p
  at_list_filled f x i (e ∷ es) here s p =
      at_list_filled f x i es (λ d j. here d (inr j)) (put_and_hand f s None x.name e) (at_rest_put Leaving Any beside f s None x.name e (λ bs. fills s x e bs i (here e (inl refl)) p))

  at_lists_filled : (f : Answering) (xs : List Lacking) → ((x : Lacking) → Has x xs → Has x all) → (s : Core) → Leaving s → Leaving (fold (λ t (x : Lacking). fold (λ u e. put_and_hand f u None x.name e) t x.entries) s xs)
  at_lists_filled f [] here s p = p
  at_lists_filled f (x ∷ xs) here s p =
      at_lists_filled f xs (λ y i. here y (inr i)) (fold (λ u e. put_and_hand f u None x.name e) s x.entries) (at_list_filled f x (here x (inl refl)) x.entries (λ e i. i) s p)

  pub at_filled : (f : Answering) {s : Core} → Leaving s → Leaving (fill_lists f s all)
  unfolding fill_lists
  at_filled f {s} p = at_lists_filled f all (λ x i. i) s p

module _ (P : Core → Type 0) (Between : List ℕ → Core → Type 0) (Begun : Core → List ℕ → Phases → Proposal → Type 0) (Unasked : Type 0) (Given : Core → Packet → Type 0) (rules : KeepsPackets P Between Begun Unasked Given) where
  k : Keeping P Between Begun Unasked
  k = rules.keeping

  b : KeepsBeside P Any
  b = rules.keeping.beside

  -- ---- what follows as a view is entered

  at_group_led : (f : Answering) (s0 : Core) {s : Core} (g : List ℕ) → IsLed Unasked s0 g → Steady P Unasked s0 s → Steady P Unasked s0 (lead f s g)
  unfolding lead wait_failed phase_reopened tally_opened tally_set with_led
  at_group_led f s0 {s} g ok p = by (is_some (state_of s g).running)
    where
      out : List ProviderId
      out = filter (among (state_of s g).members) (state_of s g).failed

      t : Core
      t = wait_failed s g out

      waits : Steady P Unasked s0 t
      waits = at_fold (Steady P Unasked s0) (λ t q. with_waiting t g (add_failure q Died)) (λ t q h. at_waiting (Steady P Unasked s0) Any (steadily Unasked s0 P k.order Any b) g tt (add_failure q Died) (fails_few q Died) (fails_apart q Died) h) out p

      by : (c : Bool) → Steady P Unasked s0 (phase_reopened f t g c)
      by false = waits
      by true = closed_still P Between Begun Unasked Given rules f s0 g ok (rules.reopens t g (led_now Unasked s0 t g ok waits.1) waits.0, as_row Unasked s0 t g _ (λ row. refl) (λ row. refl) (k.order t waits.0) waits.1)

  pub at_rest : (f : Answering) {e : Core} (bs : List Base) → P e → P (lead_groups f (owed_sent (taken_sent (entering_noted e bs))))
  unfolding owed_sent lead_groups
  at_rest f {e} bs p =
      let t : Core = taken_sent (entering_noted e bs) in
      led_still P Between Begun Unasked Given rules f (send_votes_again (send_requests t)) (lead f) (λ u g ok h. at_group_led f (send_votes_again (send_requests t)) g ok h) (at_votes P b (send_requests t) (at_requests P b (at_taken_sent P b (at_entering_noted P b bs p))))

  -- ---- packets

  at_used : {s t : Core} (c : Bool) → (c ≡ true → P t) → P s → P (used_if s t c)
  unfolding used_if
  at_used true q p = q refl
  at_used false q p = p

  module _ (rings : KeepsRinging P Given) where
    -- a packet that is given to the node, with what a packet of views makes of it
    pub at_body : (f : Answering) (s : Core) (q : Packet) (x : Body) → Given s q → q.to ≡ s.views.me → q.body ≡ x → ((y : ViewPacket) → x ≡ body.View y → P (view_rule f s q.from q.inc y)) → P s → P (take_body f s q x)
    unfolding take_body take_report
    at_body f s q (body.Ring x) given to is view p = rings.takes s q x given to is p
    at_body f s q (body.Report rows) given to is view p = rules.reach s (fold row_reported s.reach rows) p
    at_body f s q (body.View x) given to is view p = view x refl
    at_body f s q (body.Lookup v g) given to is view p = at_used (is_used s q v) (λ u. at_lookup P Between Begun Unasked Given rules q.from g p) p
    at_body f s q (body.Name v g n) given to is view p = at_used (is_used s q v) (λ u. at_name P Between Begun Unasked Given rules g n p) p
    at_body f s q (body.Request v g a r phases x) given to is view p = at_used (is_used s q v) (λ u. at_request P Between Begun Unasked Given rules f s q v g a r phases x given to is u p) p
    at_body f s q (body.Tell v g a r y) given to is view p =
        at_used (is_used s q v) (λ u. at_tell P Between Begun Unasked Given rules a r y (inr (q, given, subst (λ z. Tells z y) (sym is) refl)) p) p
    at_body f s q (body.Entry v g place stable e) given to is view p = at_used (is_used s q v) (λ u. at_entry P Between Begun Unasked Given rules f s q v g place stable e given to is u p) p
    at_body f s q (body.Ack v g n) given to is view p = at_used (is_used s q v) (λ u. at_ack P b q.from g n p) p
    at_body f s q (body.Vote v g proto phase a vote value message) given to is view p = at_used (is_used s q v) (λ u. at_vote P Between Begun Unasked Given rules f s q v g proto phase a vote value message given is p) p
    at_body f s q (body.Gone v g a) given to is view p = at_used (is_used s q v) (λ u. at_gone P Between Begun Unasked Given rules f s g a p) p
    at_body f s q (body.Query question what) given to is view p = b.sends s q.network q.from (body.Reply question (status_text s what)) tt p
    at_body f s q (body.Reply question text) given to is view p = p

module _ (P : Core → Type 0) (Between : List ℕ → Core → Type 0) (Begun : Core → List ℕ → Phases → Proposal → Type 0) (Unasked : Type 0) (Given : Core → Packet → Type 0) (Works : Core → ViewWork → Type 0) (Leaving : Install → List Lacking → Core → Type 0) (rules : KeepsPackets P Between Begun Unasked Given) (rings : KeepsRinging P Given) (views : KeepsEntering P Works Leaving Given) where
  -- ---- entering a view

  at_dissolved_if : {s : Core} (g : List ℕ) (old : ViewId) (c : Option Base) (q : ProviderId) (o : Option Provider) → provider_of s.sessions q ≡ o → P s → P (dissolved_if s g old c o)
  unfolding dissolved_if
  at_dissolved_if g old c q None e p = p
  at_dissolved_if {s} g old c q (Some x) e p =
      at_either P (x.takes_part && bytes_eq x.group g && not (is_in_base old x.provider c)) (views.dissolves s q x e p) p

  at_sides : {s : Core} (rows : List GroupRow) (old : ViewId) (bs : List Base) → P s → P (sides_dissolved s rows old bs)
  unfolding sides_dissolved group_dissolved
  at_sides rows old bs p =
      at_fold P (group_dissolved old bs) (λ t row h. at_fold P (λ (u : Core) q. dissolved_if u row.name old (base_named bs row.name) (provider_of u.sessions q)) (λ u q j. at_dissolved_if row.name old (base_named bs row.name) q (provider_of u.sessions q) refl j) (present (state_in row.list)) h) rows p

  at_entered : (f : Answering) {s : Core} (i : Install) (xs : List Lacking) → Leaving i xs s → P (entered f s i xs)
  unfolding entered
  at_entered f {s} i xs p =
      let t : Core = fill_lists f s xs in
      let bs : List Base = bases_of i in
      at_rest P Between Begun Unasked Given rules f bs (at_sides (held_rows t) t.views.view bs (views.enters t i xs (at_filled (Leaving i xs) (views.beside i xs) xs (λ u x e. views.fills u i xs x e) f p)))

  at_applied : (f : Answering) {s : Core} (w : ViewWork) (o : Option Install) → w.install ≡ o → P s × Works s w → P (apply_install f s o)
  unfolding apply_install entered_if
  at_applied f w None e p = p.0
  at_applied f {s} w (Some i) e p = by (lacking s i) refl
    where
      by : (o : Option (List Lacking)) → lacking s i ≡ o → P (entered_if f s i o)
      by None q = p.0
      by (Some xs) q = at_entered f i xs (views.leaves s w i xs e q p.0 p.1)

  -- ---- the rules of views

  at_views_sent : (w : ViewWork) (xs : List ViewSend) → ((x : ViewSend) → Has x xs → Has x w.sends) → (s : Core) → P s × Works s w → P (fold (λ t (x : ViewSend). sent t x.to (body.View x.packet)) s xs) × Works (fold (λ t (x : ViewSend). sent t x.to (body.View x.packet)) s xs) w
  at_views_sent w [] here s p = p
  at_views_sent w (x ∷ xs) here s p = at_views_sent w xs (λ y i. here y (inr i)) (sent s x.to (body.View x.packet)) (views.sends s w x (here x (inl refl)) p.0 p.1)

  at_views_taken : (f : Answering) (s : Core) (v : Viewing) → Arisen Given s v → P s → P (views_taken f s (viewing s v))
  unfolding views_taken
  at_views_taken f s v arisen p =
      let c : Core = record s { views = (viewing s v).views } in
      at_applied f (viewing s v) (viewing s v).install refl (at_views_sent (viewing s v) (viewing s v).sends (λ x i. i) c (views.views s v arisen p))

  at_order : (f : Answering) {s : Core} (mask : Mask) → P s → P (take_order f s mask)
  unfolding take_order
  at_order f {s} mask p = at_either P (is_fixed s.config.mode) p (at_views_taken f s (Asks mask) tt p)

  at_view : (f : Answering) (s : Core) (q : Packet) (y : ViewPacket) → Given s q → q.body ≡ body.View y → P s → P (view_rule f s q.from q.inc y)
  unfolding view_rule
  at_view f s q (packet.Prepare v mask) given is p = at_views_taken f s (Prepares q.from q.inc v mask) tt p
  at_view f s q (packet.Answer v old parts) given is p = at_views_taken f s (Answers v (record { node = q.from; inc = q.inc; view = old; parts = parts })) (q, given, is) p
  at_view f s q (packet.Refuse v n) given is p = at_views_taken f s (Refuses v n) tt p
  at_view f s q (packet.Install i) given is p = at_views_taken f s (Installs i) (q, given, is) p
  at_view f s q (packet.Taken v) given is p = at_views_taken f s (Takes q.from v) tt p

  -- ---- a whole step

  at_packet : (f : Answering) (s : Core) (q : Packet) → Given s q → P s → P (packet_rule f s q)
  unfolding packet_rule
  at_packet f s q given p = by (q.to == s.views.me) refl
    where
      by : (c : Bool) → (q.to == s.views.me) ≡ c → P (elim c as (λ _. Core) [ true ↦ take_body f s q q.body | false ↦ s ])
      by true e = at_body P Between Begun Unasked Given rules rings f s q q.body given (eqb-true q.to s.views.me e) refl (λ y is. at_view f s q y given is p) p
      by false e = p

  pub at_before_end : (f : Answering) (s : Core) (e : NodeEvent) → GivenTo Given s e → P (called s e) → P (before_end f s e)
  unfolding tick_views
  at_before_end f s step.Ticks given p =
      let r : Core = tick_rings s in
      let u : Core = views_taken f r (viewing r Gathers) in
      let t : Core = tick_views f r in
      at_led_part P Between Begun Unasked Given rules f (tick_owed t) (at_owed_part P rules.keeping.beside (at_views_taken f u Reminds tt (at_views_taken f r Gathers tt (rings.ticks s p))))
  at_before_end f s (step.Asks mask) given p = at_order f mask p
  at_before_end f s (step.Given q) given p = at_packet f s q given p
  at_before_end f s (step.Calls c) given p = p
  at_before_end f s step.Garbage given p = p

  -- what holds after the call of a step, or before any other step, holds after it
  pub at_stepped : KeepsEnding P Begun → (f : Answering) (s : Core) (e : NodeEvent) → GivenTo Given (at_work s) e → P (called (at_work s) e) → P (stepped f s e)
  at_stepped ends f s e given p = subst P (sym (stepped_is f s e)) (at_ended P Between Begun Unasked rules.keeping ends f (at_before_end f (at_work s) e given p))
