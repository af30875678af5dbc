-- A whole step.
use Rattle.std.proofs.Common.{◌≡◌, ◌≤◌, ◌⊎◌, ℕ, max, min, List, [], ◌∷◌, ◌++◌, length, take, length-append, Some, Bool, true, false, refl, sym, ap, ◌∙◌, subst, inl, inr, arith}
use Rattle.std.specs.Prelude.{◌==◌, ◌&&◌, ◌+◌, nat_le, fold, reverse, slice_get, if◌then◌else◌}
use Rattle.std.specs.Str.{bytes_eq}
use Rattle.std.proofs.lemmas.Bool.{and_parts, eqb-true, eqb-false, eq-eqb}
use Rattle.std.proofs.lemmas.Bool.Decides.{nat_tests}
use Rattle.rsct_packet.specs.declared.ids.ViewId.{ViewId}
use Rattle.rsct_packet.specs.declared.ids.Member.{Member}
use Rattle.rsct_packet.specs.declared.ids.ProviderId.{ProviderId}
use Rattle.rsct_packet.specs.declared.mask.Mask.{Mask}
use Rattle.rsct_packet.specs.Search.{Has}
use Rattle.rsct_packet.proofs.HasLaws.{append_has_right}
use Rattle.group_attr.specs.declared.attrs.Phases.{Phases}
use Rattle.proposal_core.specs.declared.entry.Entry.{Entry}
use Rattle.proposal_core.specs.declared.proposal.Proposal.{Proposal}
use Rattle.proposal_core.specs.Fold.{fits}
use Rattle.proposal_core.specs.Lists.{state_in, len_in, has_room, entry_fits}
use Rattle.view_state.specs.declared.packet.ViewPacket.{ViewPacket}
use Rattle.view_state.specs.declared.packet.ViewPacket.TheVariants as view
use Rattle.view_state.specs.declared.views.ViewWork.{ViewWork}
use Rattle.view_state.specs.Views.{views_at_work, ask_rule, prepare_rule, answer_rule, refuse_rule, install_rule, taken_rule}
use Rattle.node_state.specs.declared.happened.Happened.TheVariants as happened
use Rattle.node_state.specs.declared.packet.Body.{Body}
use Rattle.node_state.specs.declared.packet.Body.TheVariants as body
use Rattle.node_state.specs.declared.packet.Packet.{Packet}
use Rattle.node_state.specs.declared.state.Core.{Core}
use Rattle.node_state.specs.Settings.{is_fixed}
use Rattle.node_state.specs.State.{acked_from, row_of, list_of, len_of, fits_at_end, leader_in, leader_of, leads}
use Rattle.node_state.specs.HandOn.{Answering}
use Rattle.node_state.specs.Following.{take_lookup, take_name, take_request, take_tell, take_entry, take_ack, take_vote, take_gone}
use Rattle.node_state.specs.Applying.{own_parts, views_taken}
use Rattle.node_state.specs.Status.{status_text}
use Rattle.node_state.specs.Ticks.{tick_rings, tick_views, tick_owed, tick_led}
use Rattle.node_state.specs.Ending.{end_step}
use Rattle.node_state.specs.Calls.{take_call}
use Rattle.node_state.specs.Step.{NodeEvent, Ticks, Asks, Given, Calls, Garbage, is_used, used_if, take_order, view_rule, take_body, packet_rule, stepped, at_work}
use Rattle.run_safety.specs.Past.{earlier}
use Rattle.run_safety.specs.Group.{member, In, Put, kept}
use Rattle.run_safety.specs.GroupLists as lists
use Rattle.run_safety.specs.Bases.{state_of_list}
use Rattle.run_safety.proofs.HeardLaw.{take_front}
use Rattle.run_safety.proofs.Prefix.{IsPrefix}
use Rattle.entry_laws.proofs.closing_rows.Quiet.{at_tell, at_ring, at_report, at_rings_part, at_call}
use Rattle.entry_laws.proofs.closing_rows.Told.{told_of}
use Rattle.entry_laws.proofs.closing_rows.Lists.{front_of}
use Rattle.run_safety.specs.Group as group
use Rattle.run_safety.proofs.Whole.{Whole}
use Rattle.run_safety.proofs.Lives.{whole, always_stable}
use Rattle.run_safety.proofs.Parts.{member_parts}
use Rattle.node_state.proofs.NameOrder.{cases_text}
use Rattle.step_refinement.proofs.Steps.{stepped_is}
use Rattle.step_refinement.specs.Tied.{ShowsBody, ShowsEntry, ShowsLeader, ShowsRequest, Scene, opening_of, Tied}
use Rattle.step_refinement.specs.Rules.{acted, Arises}
use Rattle.step_refinement.specs.Ghost.{Ghost, IsStable}
use Rattle.step_refinement.proofs.Acks.{used_is, member_self}
use Rattle.step_refinement.proofs.Leads.{known_leads, leader_inc, leads_known}
use Rattle.step_refinement.proofs.RowWorks.{keeps_of, len_is, max_one}
use Rattle.entry_laws.specs.closing_rows.Rows.{start_in, Tells, Acknowledges}
use Rattle.entry_laws.proofs.closing_rows.Leading.{raised, raised_here, raised_there, acknowledged, acked_here, acked_there}
use Rattle.entry_laws.proofs.closing_rows.At.{found, leads_row, leads_is, seat, leader_at, holds_at, least_at, take_all, PutFact, Floors, Frame, At, at_calm, keeps_quiet}
use Rattle.entry_laws.proofs.closing_rows.Calms.{calm_on, owed_part_calm}
use Rattle.entry_laws.proofs.closing_rows.Ending.{Every, NoGroup, at_step_ended}
use Rattle.entry_laws.proofs.closing_rows.Works.{Stays, begun_stays, ask_stays, prepare_stays, answer_stays, refuse_stays, install_stays, taken_stays}
use Rattle.entry_laws.proofs.closing_rows.Entering.{entering, at_views_taken}
use Rattle.entry_laws.proofs.closing_rows.Ticking.{at_views_part, at_led_part}
use Rattle.entry_laws.proofs.closing_rows.Following.{is_taken, told_if, acked_if, at_lookup, at_name, at_request, at_entry, at_ack, at_vote, at_gone}
use Rattle.entry_laws.proofs.closing_rows.Evident.{put_back}
use Rattle.row_laws.proofs.honest_votes.Steps.{past_end, entry_follows, request_leads}

-- ENTRY
module _ (v : ViewId) (g : List ℕ) (place stable : ℕ) (e : Entry) (w : Scene) (n : ℕ) (s : Core) (p : Packet) (is : p.body ≡ body.Entry v g place stable e) (delivered : Has p w.sent) (t : Tied g w n s) (used : is_used s p v ≡ true) (at : (place == len_of s g) ≡ true) where
  o : Whole (opening_of w.config) t.ghost.nodes t.ghost.ps t.ghost.all t.ghost.leads t.ghost.bases
  o = whole t.life

  shown : ShowsEntry t.ghost p.from p.inc v place stable e
  shown = (subst (ShowsBody t.ghost g p.from p.inc p.to) is (t.packets p (append_has_right p s.sends w.sent delivered))) refl

  get : slice_get (o.log v) place ≡ Some e
  get = o.good.inv.packet (group.Append v place e) shown.sent

  -- a leader has all that was sent of its view: no entry comes to it at its length
  all_is_there : t.ghost.leads s.views.view ≡ Some (member n s.views.inc) → ⊥
  all_is_there known =
      let k = used_is s p v used in
      let stands = t.own.0.stands in
      let list : (t.ghost.nodes n).list ≡ o.log (t.ghost.nodes n).view = (o.good.inv.node n).whole s.views.inc (ap t.ghost.leads stands.view ∙ known) in
      let here : (t.ghost.nodes n).view ≡ v = stands.view ∙ sym k.0 in
      let all : (t.ghost.nodes n).list ≡ o.log v = list ∙ ap o.log here in
      let end : place ≡ length (t.ghost.nodes n).list = eqb-true place (len_of s g) at ∙ len_is g w n s t in
      let past : slice_get (t.ghost.nodes n).list (length (t.ghost.nodes n).list) ≡ slice_get (o.log v) place = λ i. slice_get (all i) (sym end i) in
      past_end (t.ghost.nodes n).list e (past ∙ get)

  -- so its sender is another node
  entry_foreign : p.from ≡ s.views.me → ⊥
  entry_foreign mine =
      let k = used_is s p v used in
      let stands = t.own.0.stands in
      let known : t.ghost.leads s.views.view ≡ Some (member n s.views.inc) = leader_inc g w n s t (record { inc = p.inc; leads = ap t.ghost.leads (sym k.0) ∙ shown.leads ∙ ap (λ m. Some (member m p.inc)) (mine ∙ stands.me) }) in
      all_is_there known

  -- and it fits there, but for the room
  entry_fits_there : fits (state_in (found s g).list) e ≡ true
  unfolding o len_of list_of row_of
  entry_fits_there =
      let here : v ≡ s.views.view = (used_is s p v used).0 in
      let puts : List Entry = lists.puts_of n v (kept t.ghost.all) in
      let held : puts ≡ (t.ghost.nodes n).list = ap (λ u. lists.puts_of n u (kept t.ghost.all)) (here ∙ sym t.own.0.stands.view) ∙ (o.good.past.seated n).list in
      let end : place ≡ length (t.ghost.nodes n).list = eqb-true place (len_of s g) at ∙ len_is g w n s t in
      let front : IsPrefix puts (o.log v) = front_of n v g t.ghost.bases o.log t.ghost.all (told_of (opening_of w.config) t.ghost t.life) in
      let long : place ≡ length puts = end ∙ sym (ap length held) in
      let le : place ≤ length puts = omega arith in
      let all : take place (o.log v) ≡ (t.ghost.nodes n).list = take_front place puts (o.log v) front le ∙ ap (take place) held ∙ ap (λ i. take i (t.ghost.nodes n).list) end ∙ take_all (t.ghost.nodes n).list in
      let shows = keeps_of t.ghost s.views.view (t.ghost.nodes n).list (found s g).list t.own.0.row_is.list in
      subst (λ z. fits z e ≡ true) (ap (state_of_list t.ghost.bases v) all ∙ ap (λ u. state_of_list t.ghost.bases u (t.ghost.nodes n).list) here ∙ sym shows.state) (o.tallied.fitting v place e get)

  -- what was sent someone had put
  pub entry_had_put : (m : ℕ) × Has (happened.Put m s.views.view g (len_in (found s g).list) e) (earlier (reverse s.records) w.before)
  unfolding len_of list_of row_of
  entry_had_put =
      let k = o.firsts.put v place e get in
      let there : slice_get (o.log v) place ≡ Some k.1 = o.good.inv.records (Put k.0 v place k.1) k.2 in
      let same : k.1 ≡ e = let z : Some k.1 ≡ Some e = sym there ∙ get in cc in
      let here : v ≡ s.views.view = (used_is s p v used).0 in
      let end : place ≡ len_in (found s g).list = eqb-true place (len_of s g) at in
      let line : Has (Put k.0 v place e) (kept t.ghost.all) = subst (λ z. Has (Put k.0 v place z) (kept t.ghost.all)) same k.2 in
      let put : Has (happened.Put k.0 v g place e) (earlier (reverse s.records) w.before) = put_back g k.0 v place e (reverse s.records) w.before (subst (λ l. Has (Put k.0 v place e) (kept l)) t.lines line) in
      (k.0, subst (λ (z : ViewId × ℕ). Has (happened.Put k.0 z.0 g z.1 e) (earlier (reverse s.records) w.before)) (λ i. (here i, end i)) put)

  entry_was_put : PutFact (reverse s.records) w.before s.views.me s.views.view g (len_in (found s g).list) e
  entry_was_put = inr entry_had_put

-- and nobody else is known to lead
request_known : (v : ViewId) (g : List ℕ) (q : ProviderId) (r : ℕ) (phases : Phases) (x : Proposal) (w : Scene) (n : ℕ) (s : Core) (p : Packet) → p.body ≡ body.Request v g q r phases x → p.to ≡ n → Has p w.sent → (t : Tied g w n s) → is_used s p v ≡ true → (m : ℕ) → leader_at (seat s) (found s g) ≡ Some m → m ≡ s.views.me
unfolding leader_of leader_in row_of
request_known v g q r phases x w n s p is to delivered t used m q' = (member_parts m n known.inc k.inc (sym known.leads ∙ here)).0 ∙ sym t.own.0.stands.me
  where
    shown : ShowsRequest t.ghost p.to v q r x
    shown = (subst (ShowsBody t.ghost g p.from p.inc p.to) is (t.packets p (append_has_right p s.sends w.sent delivered))).2 refl

    k : ShowsLeader t.ghost v p.to
    k = shown.leader

    here : t.ghost.leads s.views.view ≡ Some (member n k.inc)
    here = ap t.ghost.leads (sym (used_is s p v used).0) ∙ k.leads ∙ ap (λ z. Some (member z k.inc)) to

    known : ShowsLeader t.ghost s.views.view m
    known = known_leads g w n s t m q'

-- what an ENTRY says that all members hold the node holds
pub entry_told : (v : ViewId) (g : List ℕ) (place stable : ℕ) (e : Entry) (w : Scene) (n : ℕ) (s : Core) (p : Packet) → p.body ≡ body.Entry v g place stable e → Has p w.sent → Tied g w n s → is_used s p v ≡ true → stable ≤ len_in (found s g).list
unfolding len_of list_of row_of
entry_told v g place stable e w n s p is delivered t used = by shown.stable
  where
    x : Ghost
    x = t.ghost

    o : Whole (opening_of w.config) x.nodes x.ps x.all x.leads x.bases
    o = whole t.life

    shown : ShowsEntry x p.from p.inc v place stable e
    shown = (subst (ShowsBody x g p.from p.inc p.to) is (t.packets p (append_has_right p s.sends w.sent delivered))) refl

    here : v ≡ s.views.view
    here = (used_is s p v used).0

    seated : Has (In n s.views.inc s.views.view s.views.members) (kept x.all)
    seated = t.own.0.stands.seated

    full : lists.puts_of n s.views.view (kept x.all) ≡ (x.nodes n).list
    full = ap (λ u. lists.puts_of n u (kept x.all)) (sym t.own.0.stands.view) ∙ (o.good.past.seated n).list

    held : Has (group.Stable v stable) x.ps → stable ≤ length (lists.puts_of n s.views.view (kept x.all))
    held sent =
        always_stable (opening_of w.config) x.nodes x.ps x.all x.leads x.bases t.life s.views.view stable (subst (λ u. Has (group.Stable u stable) x.ps) here sent) n s.views.inc s.views.members seated n s.views.inc (member_self x t.life n s.views.inc s.views.view s.views.members seated)

    by : IsStable x v stable → stable ≤ len_of s g
    by (inl none) = omega arith
    by (inr sent) = subst (λ i. stable ≤ i) (ap length full ∙ sym (len_is g w n s t)) (held sent)

-- and where it leads the group, it knows that of each member
least_above : (f : Member → ℕ) (ms : List Member) (i k : ℕ) → k ≤ i → ((m : Member) → Has m ms → k ≤ f m) → k ≤ fold (λ least (m : Member). min least (f m)) i ms
least_above f [] i k le all = le
least_above f (m ∷ ms) i k le all =
    let one : k ≤ f m = all m (inl refl) in
    let both : k ≤ min i (f m) = omega arith in least_above f ms (min i (f m)) k both (λ j h. all j (inr h))

entry_known : (v : ViewId) (g : List ℕ) (place stable : ℕ) (e : Entry) (w : Scene) (n : ℕ) (s : Core) (p : Packet) → p.body ≡ body.Entry v g place stable e → Has p w.sent → (t : Tied g w n s) → is_used s p v ≡ true → leads_row s (found s g) ≡ true → stable ≤ least_at (seat s) (found s g)
unfolding row_of
entry_known v g place stable e w n s p is delivered t used led =
    least_above (λ (m : Member). holds_at (seat s) (found s g) m.node) s.views.members (len_in (found s g).list) stable held (λ m h. by m h (m.node == s.views.me) refl)
  where
    held : stable ≤ len_in (found s g).list
    held = entry_told v g place stable e w n s p is delivered t used

    shown : ShowsEntry t.ghost p.from p.inc v place stable e
    shown = (subst (ShowsBody t.ghost g p.from p.inc p.to) is (t.packets p (append_has_right p s.sends w.sent delivered))) refl

    known : t.ghost.leads s.views.view ≡ Some (member n s.views.inc)
    known = leads_known g w n s t (sym (leads_is s g) ∙ led)

    covered : (m : Member) → Has m s.views.members → (m.node ≡ n → ⊥) → IsStable t.ghost v stable → stable ≤ acked_from m.node (found s g).led.acked
    covered m h ne (inl none) = omega arith
    covered m h ne (inr sent) =
        t.own.0.row_is.covers s.views.inc stable known (subst (λ u. Has (group.Stable u stable) t.ghost.ps) (used_is s p v used).0 sent) m.node m.inc h ne

    by : (m : Member) → Has m s.views.members → (b : Bool) → (m.node == s.views.me) ≡ b → stable ≤ elim b as (λ _. ℕ) [ true ↦ len_in (found s g).list | false ↦ acked_from m.node (found s g).led.acked ]
    by m h true q = held
    by m h false q = covered m h (λ z. eqb-false m.node s.views.me q (z ∙ sym t.own.0.stands.me)) shown.stable

-- what a member acknowledged to the leader is in its list
pub ack_known : (v : ViewId) (g : List ℕ) (k : ℕ) (w : Scene) (n : ℕ) (s : Core) (p : Packet) → p.body ≡ body.Ack v g k → Has p w.sent → (t : Tied g w n s) → is_used s p v ≡ true → leads s g ≡ true → k ≤ len_in (found s g).list
unfolding len_of list_of row_of
ack_known v g k w n s p is delivered t used led = subst (λ i. k ≤ i) (sym (len_is g w n s t)) (within (lists.puts_of p.from v (kept x.all)) (x.nodes n).list (subst (IsPrefix (lists.puts_of p.from v (kept x.all))) (sym whole_list) front) acked)
  where
    x : Ghost
    x = t.ghost

    o : Whole (opening_of w.config) x.nodes x.ps x.all x.leads x.bases
    o = whole t.life

    acked : k ≤ length (lists.puts_of p.from v (kept x.all))
    acked =
        o.stable.acks v p.from p.inc k ((subst (ShowsBody x g p.from p.inc p.to) is (t.packets p (append_has_right p s.sends w.sent delivered))) refl)

    front : IsPrefix (lists.puts_of p.from v (kept x.all)) (o.log v)
    front = front_of p.from v g x.bases o.log x.all (told_of (opening_of w.config) x t.life)

    here : (x.nodes n).view ≡ v
    here = t.own.0.stands.view ∙ sym (used_is s p v used).0

    whole_list : (x.nodes n).list ≡ o.log v
    whole_list = (o.good.inv.node n).whole s.views.inc (ap x.leads t.own.0.stands.view ∙ leads_known g w n s t led) ∙ ap o.log here

    within : (xs ys : List Entry) → IsPrefix xs ys → k ≤ length xs → k ≤ length ys
    within xs ys q le =
        let z : length (xs ++ q.rest) ≡ length xs + length q.rest = length-append xs q.rest in
        let y : length (xs ++ q.rest) ≡ length ys = ap length q.is in omega arith

-- ---- what a step begins with, and what it comes to

-- where its lists start, which groups it leads, and what members acknowledged to it
abbrev pub floors_of : Core → Floors
floors_of s = record { starts = λ g. start_in (found s g).list; led = λ g. leads_row s (found s g); acks = λ g m. acked_from m (found s g).led.acked; settled = λ g. true }

abbrev pub frame_of : Scene → Core → Frame
frame_of w s = record { history = w.before; view = s.views.view; entered = false; floors = floors_of s }

-- the event tells the node where lists start, and what members hold
pub record GoOn (s : Core) (e : NodeEvent) (x y : Floors) : Type 0 where
  pub old : (g : List ℕ) → x.starts g ≤ y.starts g
  pub told : (g : List ℕ) (k : ℕ) → Tells s e g k → k ≤ y.starts g
  pub one : (g : List ℕ) → (y.starts g ≡ x.starts g) ⊎ Tells s e g (y.starts g)
  pub led : (g : List ℕ) → y.led g ≡ x.led g
  pub settled : (g : List ℕ) → y.settled g ≡ true
  pub more : (g : List ℕ) (m : ℕ) → x.acks g m ≤ y.acks g m
  pub acked : (g : List ℕ) (m k : ℕ) → Acknowledges s e g m k → k ≤ y.acks g m
  pub ack : (g : List ℕ) (m : ℕ) → (y.acks g m ≡ x.acks g m) ⊎ Acknowledges s e g m (y.acks g m)

-- in a view that it has entered, or in that of before
abbrev pub Reaches : Frame → Core → NodeEvent → Core → Type 0
Reaches h s e c = At (entering h) Every NoGroup c ⊎ ((y : Floors) × GoOn s e h.floors y × At (record h { floors = y }) Every NoGroup c)

-- it says nothing of that
pub record Untold (s : Core) (e : NodeEvent) : Type 0 where
  pub tells : (g : List ℕ) (k : ℕ) → Tells s e g k → ⊥
  pub acks : (g : List ℕ) (m k : ℕ) → Acknowledges s e g m k → ⊥

quiet : (h : Frame) (s : Core) (e : NodeEvent) (c : Core) → ((g : List ℕ) → h.floors.settled g ≡ true) → Untold s e → At h Every NoGroup c → Reaches h s e c
quiet h s e c all none a = inr (h.floors, record { old = λ g. omega arith; told = λ g k t. absurd (none.tells g k t); one = λ g. inl refl; led = λ g. refl; settled = all; more = λ g m. omega arith; acked = λ g m k t. absurd (none.acks g m k t); ack = λ g m. inl refl }, a)

quiet_views : (h : Frame) (s : Core) (e : NodeEvent) (c : Core) → ((g : List ℕ) → h.floors.settled g ≡ true) → Untold s e → At (entering h) Every NoGroup c ⊎ At h Every NoGroup c → Reaches h s e c
quiet_views h s e c all none (inl a) = inl a
quiet_views h s e c all none (inr a) = quiet h s e c all none a

-- a body that is no ENTRY, and one that is no ACK
abbrev IsNoEntry : Body → Type 0
IsNoEntry (body.Entry v g i k e) = ⊥
IsNoEntry _ = Unit {0}

abbrev IsNoAck : Body → Type 0
IsNoAck (body.Ack v g k) = ⊥
IsNoAck _ = Unit {0}

same_packet : (p q : Packet) → Given p ≡ Given q → q ≡ p
same_packet p q e = cc

no_entry : (s : Core) (p : Packet) (b : Body) → p.body ≡ b → IsNoEntry b → (g : List ℕ) (k : ℕ) → Tells s (Given p) g k → ⊥
no_entry s p b is other g k t =
    subst IsNoEntry (sym is ∙ ap (λ (z : Packet). z.body) (sym (same_packet p t.packet t.given)) ∙ t.says) other

no_ack : (s : Core) (p : Packet) (b : Body) → p.body ≡ b → IsNoAck b → (g : List ℕ) (m k : ℕ) → Acknowledges s (Given p) g m k → ⊥
no_ack s p b is other g m k t =
    subst IsNoAck (sym is ∙ ap (λ (z : Packet). z.body) (sym (same_packet p t.packet t.given)) ∙ t.says) other

other_untold : (s : Core) (p : Packet) (b : Body) → p.body ≡ b → IsNoEntry b → IsNoAck b → Untold s (Given p)
other_untold s p b is entry ack = record { tells = no_entry s p b is entry; acks = no_ack s p b is ack }

module _ (w : Scene) (n : ℕ) (f : Answering) (s : Core) (all : (h : List ℕ) → Tied h w n s) (a : At (frame_of w s) Every NoGroup s) where
  abbrev Full : Core → Type 0
  Full c = At (frame_of w s) Every NoGroup c

  abbrev Out : NodeEvent → Core → Type 0
  Out e c = Reaches (frame_of w s) s e c

  still : (e : NodeEvent) (c : Core) → Untold s e → Full c → Out e c
  still e c none k = quiet (frame_of w s) s e c (λ g. refl) none k

  still_views : (e : NodeEvent) (c : Core) → Untold s e → At (entering (frame_of w s)) Every NoGroup c ⊎ Full c → Out e c
  still_views e c none k = quiet_views (frame_of w s) s e c (λ g. refl) none k

  -- what is not used changes nothing
  used : (p : Packet) (b : Body) → p.body ≡ b → IsNoEntry b → IsNoAck b → (t : Core) (c : Bool) → (c ≡ true → Full t) → Out (Given p) (used_if s t c)
  unfolding used_if
  used p b is entry ack t true k = still (Given p) t (other_untold s p b is entry ack) (k refl)
  used p b is entry ack t false k = still (Given p) s (other_untold s p b is entry ack) a

  -- ENTRY tells a place where it is taken
  module _ (v : ViewId) (g : List ℕ) (i k : ℕ) (e : Entry) (p : Packet) (is : p.body ≡ body.Entry v g i k e) where
    says : (h : List ℕ) (j : ℕ) (t : Tells s (Given p) h j) → body.Entry v g i k e ≡ body.Entry s.views.view h t.place j t.entry
    says h j t = sym is ∙ ap (λ (z : Packet). z.body) (sym (same_packet p t.packet t.given)) ∙ t.says

    at_view : (h : List ℕ) (j : ℕ) (t : Tells s (Given p) h j) → v ≡ s.views.view
    at_view h j t = let q : body.Entry v g i k e ≡ body.Entry s.views.view h t.place j t.entry = says h j t in cc

    at_group : (h : List ℕ) (j : ℕ) (t : Tells s (Given p) h j) → g ≡ h
    at_group h j t = let q : body.Entry v g i k e ≡ body.Entry s.views.view h t.place j t.entry = says h j t in cc

    at_place : (h : List ℕ) (j : ℕ) (t : Tells s (Given p) h j) → t.place ≡ i
    at_place h j t = let q : body.Entry v g i k e ≡ body.Entry s.views.view h t.place j t.entry = says h j t in cc

    at_stable : (h : List ℕ) (j : ℕ) (t : Tells s (Given p) h j) → k ≡ j
    at_stable h j t = let q : body.Entry v g i k e ≡ body.Entry s.views.view h t.place j t.entry = says h j t in cc

    at_entry_of : (h : List ℕ) (j : ℕ) (t : Tells s (Given p) h j) → t.entry ≡ e
    at_entry_of h j t = let q : body.Entry v g i k e ≡ body.Entry s.views.view h t.place j t.entry = says h j t in cc

    mute : (g : List ℕ) (m k : ℕ) → Acknowledges s (Given p) g m k → ⊥
    mute = no_ack s p (body.Entry v g i k e) is tt

    unused : is_used s p v ≡ false → (h : List ℕ) (j : ℕ) → Tells s (Given p) h j → ⊥
    unused none h j t =
        let one : is_used s p v ≡ true = (λ l. is_used s (sym (same_packet p t.packet t.given) l) (at_view h j t l)) ∙ t.used in
        let clash : true ≡ false = sym one ∙ none in cc

    fits_with_room : fits (state_in (found s g).list) e ≡ true → has_room (list_of s g) e ≡ true → fits_at_end s g e ≡ true
    unfolding fits_at_end entry_fits list_of row_of
    fits_with_room fit room = λ l. fit l && room l

    has_room_there : fits_at_end s g e ≡ true → has_room (list_of s g) e ≡ true
    unfolding fits_at_end entry_fits
    has_room_there fit = (and_parts (fits (list_of s g).state e) (has_room (list_of s g) e) fit).1

    -- at the end of the list, where it has no room
    untaken : ((i == len_of s g) ≡ true → fits (state_in (found s g).list) e ≡ true) → is_taken s g i e ≡ false → (h : List ℕ) (j : ℕ) → Tells s (Given p) h j → ⊥
    untaken fit none h j t = by (i == len_of s g) refl none
      where
        ends : i ≡ len_of s g → fits_at_end s g e ≡ true
        ends q =
            let there : t.place ≡ len_of s h = at_place h j t ∙ q ∙ ap (len_of s) (at_group h j t) in
            fits_with_room (fit (eq-eqb i (len_of s g) q)) ((λ l. has_room (list_of s (at_group h j t l)) (sym (at_entry_of h j t) l)) ∙ t.room there)

        by : (b : Bool) → (i == len_of s g) ≡ b → elim b as (λ _. Bool) [ true ↦ fits_at_end s g e | false ↦ true ] ≡ false → ⊥
        by true q z = let clash : true ≡ false = sym (ends (eqb-true i (len_of s g) q)) ∙ z in cc
        by false q z = cc

    taken_room : is_taken s g i e ≡ true → i ≡ len_of s g → has_room (list_of s g) e ≡ true
    taken_room takes q =
        has_room_there (ap (λ b. elim b as (λ _. Bool) [ true ↦ fits_at_end s g e | false ↦ true ]) (sym (eq-eqb i (len_of s g) q)) ∙ takes)

    module _ (to : p.to ≡ s.views.me) (u : is_used s p v ≡ true) (takes : is_taken s g i e ≡ true) where
      tells : Tells s (Given p) g k
      tells =
          let here : v ≡ s.views.view = (used_is s p v u).0 in
          record { packet = p; given = refl; to = to; place = i; entry = e; says = is ∙ ap (λ z. body.Entry z g i k e) here; used = subst (λ z. is_used s p z ≡ true) here u; room = taken_room takes }

      old : (h : List ℕ) (b : Bool) → start_in (found s h).list ≤ (if b then max (start_in (found s h).list) k else start_in (found s h).list)
      old h true = omega arith
      old h false = omega arith

      one : (h : List ℕ) → (g ≡ h) ⊎ (g ≡ h → ⊥) → ((raised (floors_of s) g k).starts h ≡ start_in (found s h).list) ⊎ Tells s (Given p) h ((raised (floors_of s) g k).starts h)
      one h (inr ne) = inl (raised_there (floors_of s) g k h ne)
      one h (inl q) = subst (λ z. ((raised (floors_of s) g k).starts z ≡ start_in (found s z).list) ⊎ Tells s (Given p) z ((raised (floors_of s) g k).starts z)) q (by (max_one (start_in (found s g).list) k))
        where
          by : (max (start_in (found s g).list) k ≡ start_in (found s g).list) ⊎ (max (start_in (found s g).list) k ≡ k) → ((raised (floors_of s) g k).starts g ≡ start_in (found s g).list) ⊎ Tells s (Given p) g ((raised (floors_of s) g k).starts g)
          by (inl z) = inl (raised_here (floors_of s) g k ∙ z)
          by (inr z) = inr (subst (Tells s (Given p) g) (sym (raised_here (floors_of s) g k ∙ z)) tells)

      told : (h : List ℕ) (j : ℕ) → Tells s (Given p) h j → j ≤ (raised (floors_of s) g k).starts h
      told h j t =
          subst (λ z. z ≤ (raised (floors_of s) g k).starts h) (at_stable h j t) (subst (λ z. k ≤ (raised (floors_of s) g k).starts z) (at_group h j t) (subst (λ z. k ≤ z) (sym (raised_here (floors_of s) g k)) (above (start_in (found s g).list))))
        where
          above : (i : ℕ) → k ≤ max i k
          above i = omega arith

      goes : GoOn s (Given p) (floors_of s) (raised (floors_of s) g k)
      goes =
          record { old = λ h. old h (bytes_eq g h); told = told; one = λ h. one h (cases_text g h); led = λ h. refl; settled = λ h. refl; more = λ h m. omega arith; acked = λ h m j t. absurd (mute h m j t); ack = λ h m. inl refl }

    at_entry_body : p.to ≡ n → Has p w.sent → Out (Given p) (used_if s (take_entry f s p.from g i k e) (is_used s p v))
    unfolding used_if
    at_entry_body to sent = by (is_used s p v) refl
      where
        me : p.to ≡ s.views.me
        me = to ∙ sym (all []).own.0.stands.me

        given : (u : is_used s p v ≡ true) → At (told_if (frame_of w s) g k (is_taken s g i e)) Every NoGroup (take_entry f s p.from g i k e)
        given u = at_entry (frame_of w s) f s p.from g k e (entry_told v g i k e w n s p is sent (all g) u) (entry_known v g i k e w n s p is sent (all g) u) i (λ at. entry_was_put v g i k e w n s p is sent (all g) u at) (λ at led. entry_follows v g i k e w n s p is sent (all g) u at led) (λ at mine. entry_foreign v g i k e w n s p is sent (all g) u at mine) a

        told_by : (u : is_used s p v ≡ true) (b : Bool) → is_taken s g i e ≡ b → At (told_if (frame_of w s) g k b) Every NoGroup (take_entry f s p.from g i k e) → Out (Given p) (take_entry f s p.from g i k e)
        told_by u true q z = inr (raised (floors_of s) g k, goes me u q, z)
        told_by u false q z = still (Given p) (take_entry f s p.from g i k e) (record { tells = untaken (λ at. entry_fits_there v g i k e w n s p is sent (all g) u at) q; acks = mute }) z

        by : (b : Bool) → is_used s p v ≡ b → Out (Given p) (used_if s (take_entry f s p.from g i k e) b)
        by true u = told_by u (is_taken s g i e) refl (given u)
        by false u = still (Given p) s (record { tells = unused u; acks = mute }) a

  -- and ACK what its sender holds
  module _ (v : ViewId) (g : List ℕ) (k : ℕ) (p : Packet) (is : p.body ≡ body.Ack v g k) where
    ack_mute : (h : List ℕ) (j : ℕ) → Tells s (Given p) h j → ⊥
    ack_mute = no_entry s p (body.Ack v g k) is tt

    ack_says : (h : List ℕ) (m j : ℕ) (t : Acknowledges s (Given p) h m j) → body.Ack v g k ≡ body.Ack s.views.view h j
    ack_says h m j t = sym is ∙ ap (λ (z : Packet). z.body) (sym (same_packet p t.packet t.given)) ∙ t.says

    ack_view : (h : List ℕ) (m j : ℕ) (t : Acknowledges s (Given p) h m j) → v ≡ s.views.view
    ack_view h m j t = let q : body.Ack v g k ≡ body.Ack s.views.view h j = ack_says h m j t in cc

    ack_group : (h : List ℕ) (m j : ℕ) (t : Acknowledges s (Given p) h m j) → g ≡ h
    ack_group h m j t = let q : body.Ack v g k ≡ body.Ack s.views.view h j = ack_says h m j t in cc

    ack_length : (h : List ℕ) (m j : ℕ) (t : Acknowledges s (Given p) h m j) → k ≡ j
    ack_length h m j t = let q : body.Ack v g k ≡ body.Ack s.views.view h j = ack_says h m j t in cc

    ack_sender : (h : List ℕ) (m j : ℕ) (t : Acknowledges s (Given p) h m j) → p.from ≡ m
    ack_sender h m j t = ap (λ (z : Packet). z.from) (sym (same_packet p t.packet t.given)) ∙ t.from

    ack_unused : is_used s p v ≡ false → (h : List ℕ) (m j : ℕ) → Acknowledges s (Given p) h m j → ⊥
    ack_unused none h m j t =
        let one : is_used s p v ≡ true = (λ l. is_used s (sym (same_packet p t.packet t.given) l) (ack_view h m j t l)) ∙ t.used in
        let clash : true ≡ false = sym one ∙ none in cc

    module _ (to : p.to ≡ s.views.me) (sent : Has p w.sent) (u : is_used s p v ≡ true) where
      -- the leader has it
      ack_untaken : (leads s g && nat_le k (len_of s g)) ≡ false → (h : List ℕ) (m j : ℕ) → Acknowledges s (Given p) h m j → ⊥
      unfolding len_of list_of row_of
      ack_untaken none h m j t =
          let led : leads s g ≡ true = ap (leads s) (ack_group h m j t) ∙ t.led in
          let le : k ≤ len_in (found s g).list = ack_known v g k w n s p is sent (all g) u led in
          let has : nat_le k (len_of s g) ≡ true = grind (arith, nat_tests) in
          let both : (leads s g && nat_le k (len_of s g)) ≡ true = λ l. led l && has l in
          let clash : true ≡ false = sym both ∙ none in cc

      module _ (led : leads s g ≡ true) where
        acknowledges : Acknowledges s (Given p) g p.from k
        acknowledges =
            let here : v ≡ s.views.view = (used_is s p v u).0 in
            record { packet = p; given = refl; to = to; from = refl; says = is ∙ ap (λ z. body.Ack z g k) here; used = subst (λ z. is_used s p z ≡ true) here u; led = led }

        abbrev next : List ℕ → ℕ → ℕ
        next h m = (acknowledged (floors_of s) g p.from k).acks h m

        abbrev was : List ℕ → ℕ → ℕ
        was h m = acked_from m (found s h).led.acked

        ack_more : (h : List ℕ) (m : ℕ) (b : Bool) → was h m ≤ (if b then max (was h m) k else was h m)
        ack_more h m true = omega arith
        ack_more h m false = omega arith

        ack_one : (h : List ℕ) (m : ℕ) → (g ≡ h) ⊎ (g ≡ h → ⊥) → (next h m ≡ was h m) ⊎ Acknowledges s (Given p) h m (next h m)
        ack_one h m (inr ne) = inl (acked_there (floors_of s) g p.from k h m ne)
        ack_one h m (inl q) = subst (λ z. (next z m ≡ was z m) ⊎ Acknowledges s (Given p) z m (next z m)) q (by (m == p.from) refl)
          where
            here : next g m ≡ (if m == p.from then max (was g m) k else was g m)
            here = acked_here (floors_of s) g p.from k m

            greater : m ≡ p.from → next g m ≡ max (was g m) k → (max (was g m) k ≡ was g m) ⊎ (max (was g m) k ≡ k) → (next g m ≡ was g m) ⊎ Acknowledges s (Given p) g m (next g m)
            greater r is (inl z) = inl (is ∙ z)
            greater r is (inr z) =
                inr (subst (λ (y : ℕ × ℕ). Acknowledges s (Given p) g y.0 y.1) (λ i. (sym r i, sym (is ∙ z) i)) acknowledges)

            by : (b : Bool) → (m == p.from) ≡ b → (next g m ≡ was g m) ⊎ Acknowledges s (Given p) g m (next g m)
            by true r = greater (eqb-true m p.from r) (here ∙ ap (λ b. if b then max (was g m) k else was g m) r) (max_one (was g m) k)
            by false r = inl (here ∙ ap (λ b. if b then max (was g m) k else was g m) r)

        ack_told : (h : List ℕ) (m j : ℕ) → Acknowledges s (Given p) h m j → j ≤ next h m
        ack_told h m j t =
            subst (λ (z : List ℕ × ℕ × ℕ). z.2 ≤ next z.0 z.1) (λ i. (ack_group h m j t i, ack_sender h m j t i, ack_length h m j t i)) here
          where
            above : (i : ℕ) → k ≤ max i k
            above i = omega arith

            here : k ≤ next g p.from
            here =
                subst (λ i. k ≤ i) (sym (acked_here (floors_of s) g p.from k p.from ∙ ap (λ b. if b then max (was g p.from) k else was g p.from) (eq-eqb p.from p.from refl))) (above (was g p.from))

        ack_goes : GoOn s (Given p) (floors_of s) (acknowledged (floors_of s) g p.from k)
        ack_goes =
            record { old = λ h. omega arith; told = λ h j t. absurd (ack_mute h j t); one = λ h. inl refl; led = λ h. refl; settled = λ h. refl; more = λ h m. ack_more h m (bytes_eq g h && m == p.from); acked = ack_told; ack = λ h m. ack_one h m (cases_text g h) }

    at_ack_body : p.to ≡ n → Has p w.sent → Out (Given p) (used_if s (take_ack s p.from g k) (is_used s p v))
    unfolding used_if
    at_ack_body to sent = by (is_used s p v) refl
      where
        me : p.to ≡ s.views.me
        me = to ∙ sym (all []).own.0.stands.me

        acked_by : (u : is_used s p v ≡ true) (b c : Bool) → leads s g ≡ b → nat_le k (len_of s g) ≡ c → At (acked_if (frame_of w s) g p.from k (b && c)) Every NoGroup (take_ack s p.from g k) → Out (Given p) (take_ack s p.from g k)
        acked_by u true true q r z = inr (acknowledged (floors_of s) g p.from k, ack_goes me sent u q, z)
        acked_by u false c q r z =
            still (Given p) (take_ack s p.from g k) (record { tells = ack_mute; acks = ack_untaken me sent u (ap (λ b. b && nat_le k (len_of s g)) q) }) z
        acked_by u true false q r z =
            still (Given p) (take_ack s p.from g k) (record { tells = ack_mute; acks = ack_untaken me sent u (λ i. q i && r i) }) z

        by : (b : Bool) → is_used s p v ≡ b → Out (Given p) (used_if s (take_ack s p.from g k) b)
        by true u = acked_by u (leads s g) (nat_le k (len_of s g)) refl refl (at_ack (frame_of w s) s p.from g k a)
        by false u = still (Given p) s (record { tells = ack_mute; acks = ack_unused u }) a

  taken : (e : NodeEvent) → Untold s e → (x : ViewWork) → Stays s.views x → Out e (views_taken f s x)
  taken e none x k = still_views e (views_taken f s x) none (at_views_taken (frame_of w s) f s x k a)

  view_at : (p : Packet) → Untold s (Given p) → (from inc : ℕ) (y : ViewPacket) → Out (Given p) (view_rule f s from inc y)
  unfolding view_rule
  view_at p none from inc (view.Prepare v mask) = taken (Given p) none (prepare_rule (views_at_work s.views) from inc v mask (own_parts s)) (prepare_stays s.views (views_at_work s.views) from inc v mask (own_parts s) (begun_stays s.views))
  view_at p none from inc (view.Answer v old parts) = taken (Given p) none (answer_rule (views_at_work s.views) v (record { node = from; inc = inc; view = old; parts = parts })) (answer_stays s.views (views_at_work s.views) v (record { node = from; inc = inc; view = old; parts = parts }) (begun_stays s.views))
  view_at p none from inc (view.Refuse v k) = taken (Given p) none (refuse_rule (views_at_work s.views) v k) (refuse_stays s.views (views_at_work s.views) v k (begun_stays s.views))
  view_at p none from inc (view.Install i) = taken (Given p) none (install_rule (views_at_work s.views) i) (install_stays s.views (views_at_work s.views) i (begun_stays s.views))
  view_at p none from inc (view.Taken v) = taken (Given p) none (taken_rule (views_at_work s.views) from v) (taken_stays s.views (views_at_work s.views) from v (begun_stays s.views))

  body_at : (p : Packet) (b : Body) → p.body ≡ b → p.to ≡ n → Has p w.sent → Out (Given p) (take_body f s p b)
  unfolding take_body
  body_at p (body.Ring x) is to sent = still (Given p) _ (other_untold s p (body.Ring x) is tt tt) (at_ring (keeps_quiet (frame_of w s) Every NoGroup) s p.network p.from p.inc x a)
  body_at p (body.Report rows) is to sent = still (Given p) _ (other_untold s p (body.Report rows) is tt tt) (at_report (keeps_quiet (frame_of w s) Every NoGroup) s rows a)
  body_at p (body.View y) is to sent = view_at p (other_untold s p (body.View y) is tt tt) p.from p.inc y
  body_at p (body.Lookup v g) is to sent = used p (body.Lookup v g) is tt tt (take_lookup s p.from g) (is_used s p v) (λ u. at_lookup (frame_of w s) s p.from g a)
  body_at p (body.Name v g k) is to sent = used p (body.Name v g k) is tt tt (take_name s g k) (is_used s p v) (λ u. at_name (frame_of w s) s g k refl a)
  body_at p (body.Request v g q r phases x) is to sent =
      used p (body.Request v g q r phases x) is tt tt (take_request f s p.from g q r phases x) (is_used s p v) (λ u. at_request (frame_of w s) f s g (request_leads v g q r phases x w n s p is to sent (all g) u) (request_known v g q r phases x w n s p is to sent (all g) u) refl p.from q r phases x a)
  body_at p (body.Tell v g q r y) is to sent = used p (body.Tell v g q r y) is tt tt (take_tell s q r y) (is_used s p v) (λ u. at_tell (keeps_quiet (frame_of w s) Every NoGroup) s q r y a)
  body_at p (body.Entry v g i k e) is to sent = at_entry_body v g i k e p is to sent
  body_at p (body.Ack v g k) is to sent = at_ack_body v g k p is to sent
  body_at p (body.Vote v g proto phase q ballot value message) is to sent =
      used p (body.Vote v g proto phase q ballot value message) is tt tt (take_vote f s g proto phase q ballot value message) (is_used s p v) (λ u. at_vote (frame_of w s) f s g proto phase q ballot value message a)
  body_at p (body.Gone v g q) is to sent = used p (body.Gone v g q) is tt tt (take_gone f s g q) (is_used s p v) (λ u. at_gone (frame_of w s) f s g q a)
  body_at p (body.Query question what) is to sent = still (Given p) _ (other_untold s p (body.Query question what) is tt tt) (at_calm (frame_of w s) Every NoGroup s _ (calm_on s p.network p.from (body.Reply question (status_text s what))) a)
  body_at p (body.Reply question text) is to sent = still (Given p) s (other_untold s p (body.Reply question text) is tt tt) a

  order_at : (mask : Mask) → Out (Asks mask) (take_order f s mask)
  unfolding take_order
  order_at mask = by (is_fixed s.config.mode)
    where
      none : Untold s (Asks mask)
      none = record { tells = λ g k t. let e : Asks mask ≡ Given t.packet = t.given in cc; acks = λ g m k t. let e : Asks mask ≡ Given t.packet = t.given in cc }

      by : (b : Bool) → Out (Asks mask) (elim b as (λ _. Core) [ true ↦ s | false ↦ views_taken f s (ask_rule (views_at_work s.views) mask (own_parts s)) ])
      by true = still (Asks mask) s none a
      by false = taken (Asks mask) none (ask_rule (views_at_work s.views) mask (own_parts s)) (ask_stays s.views (views_at_work s.views) mask (own_parts s) (begun_stays s.views))

  acted_at : (e : NodeEvent) → Arises w e → Out e (acted f s e)
  unfolding packet_rule
  acted_at Ticks arises = by (at_views_part (frame_of w s) f (tick_rings s) (at_rings_part (keeps_quiet (frame_of w s) Every NoGroup) s a))
    where
      t : Core
      t = tick_views f (tick_rings s)

      none : Untold s Ticks
      none = record { tells = λ g k z. let e : Ticks ≡ Given z.packet = z.given in cc; acks = λ g m k z. let e : Ticks ≡ Given z.packet = z.given in cc }

      rest : (h : Frame) → At h Every NoGroup t → At h Every NoGroup (tick_led f (tick_owed t))
      rest h k = at_led_part h f (tick_owed t) (at_calm h Every NoGroup t (tick_owed t) (owed_part_calm t) k)

      by : At (entering (frame_of w s)) Every NoGroup t ⊎ At (frame_of w s) Every NoGroup t → Out Ticks (tick_led f (tick_owed t))
      by (inl k) = inl (rest (entering (frame_of w s)) k)
      by (inr k) = still Ticks (tick_led f (tick_owed t)) none (rest (frame_of w s) k)
  acted_at (Asks mask) arises = order_at mask
  acted_at (Calls c) arises = still (Calls c) (take_call s c) (record { tells = λ g k t. let e : Calls c ≡ Given t.packet = t.given in cc; acks = λ g m k t. let e : Calls c ≡ Given t.packet = t.given in cc }) (at_call (keeps_quiet (frame_of w s) Every NoGroup) s c a)
  acted_at Garbage arises = still Garbage s (record { tells = λ g k t. let e : Garbage ≡ Given t.packet = t.given in cc; acks = λ g m k t. let e : Garbage ≡ Given t.packet = t.given in cc }) a
  acted_at (Given p) arises = by (p.to == s.views.me) refl
    where
      -- it is not for this node
      elsewhere : (p.to == s.views.me) ≡ false → (q : Packet) → Given p ≡ Given q → q.to ≡ s.views.me → ⊥
      elsewhere e q same to =
          let here : (p.to == s.views.me) ≡ true = eq-eqb p.to s.views.me (ap (λ (z : Packet). z.to) (sym (same_packet p q same)) ∙ to) in
          let clash : true ≡ false = sym here ∙ e in cc

      astray : (p.to == s.views.me) ≡ false → Untold s (Given p)
      astray e = record { tells = λ g k t. elsewhere e t.packet t.given t.to; acks = λ g m k t. elsewhere e t.packet t.given t.to }

      by : (b : Bool) → (p.to == s.views.me) ≡ b → Out (Given p) (elim b as (λ _. Core) [ true ↦ take_body f s p p.body | false ↦ s ])
      by false e = still (Given p) s (astray e) a
      by true e = body_at p p.body refl (eqb-true p.to s.views.me e ∙ (all []).own.0.stands.me) arises

pub at_stepped : (w : Scene) (n : ℕ) (f : Answering) (s : Core) (e : NodeEvent) → ((h : List ℕ) → Tied h w n (at_work s)) → Arises w e → At (frame_of w (at_work s)) Every NoGroup (at_work s) → Reaches (frame_of w (at_work s)) (at_work s) e (stepped f s e)
at_stepped w n f s e all arises a = subst (Reaches (frame_of w (at_work s)) (at_work s) e) (sym (stepped_is f s e)) (ends (acted_at w n f (at_work s) all a e arises))
  where
    h : Frame
    h = frame_of w (at_work s)

    c : Core
    c = acted f (at_work s) e

    ends : Reaches h (at_work s) e c → Reaches h (at_work s) e (end_step f c)
    ends (inl k) = inl (at_step_ended (entering h) f c k)
    ends (inr k) = inr (k.0, k.1, at_step_ended (record h { floors = k.0 }) f c k.2)
