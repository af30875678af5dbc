-- What the relation of each group to its life says in the middle of a step: of the states that the lists of the node have,
-- and of what is sent to it.
use Rattle.std.proofs.Common.{◌≡◌, ℕ, List, [], ◌∷◌, length, Option, Some, None, refl, sym, ap, ◌∙◌, subst, inl, inr}
use Rattle.std.specs.Prelude.{◌&&◌, reverse, is_none}
use Rattle.rsct_packet.specs.declared.ids.ViewId.{ViewId}
use Rattle.rsct_packet.specs.declared.ids.ProviderId.{ProviderId}
use Rattle.rsct_packet.specs.Search.{Has}
use Rattle.rsct_packet.specs.Lists.{is_empty}
use Rattle.rsct_packet.proofs.HasLaws.{append_has_right, has_map}
use Rattle.group_attr.specs.declared.attrs.Attrs.{Attrs}
use Rattle.group_attr.specs.declared.attrs.Phases.{Phases}
use Rattle.proposal_core.specs.declared.proposal.Proposal.{Proposal}
use Rattle.proposal_core.specs.declared.proposal.Proposal.TheVariants.{Join}
use Rattle.proposal_core.specs.declared.group_state.GroupState.{GroupState}
use Rattle.proposal_core.specs.Lists.{list_or_new}
use Rattle.node_state.specs.declared.happened.Happened.TheVariants as happened
use Rattle.node_state.specs.declared.packet.Body.TheVariants as body
use Rattle.node_state.specs.declared.packet.Packet.{Packet}
use Rattle.node_state.specs.declared.state.Core.{Core}
use Rattle.node_state.specs.State.{row_of, list_of, state_of}
use Rattle.node_state.specs.Deciding.{is_idle_empty}
use Rattle.world_model.specs.declared.event.Event.{Event}
use Rattle.run_safety.specs.Past.{History, records_of, earlier, view_now, puts_of}
use Rattle.run_safety.specs.Sight.{lines_with, lines_of}
use Rattle.run_safety.specs.Group.{Origin, Begins, Based, Kept, Noted, kept}
use Rattle.run_safety.specs.Group as group
use Rattle.run_safety.specs.GroupLists as lists
use Rattle.run_safety.specs.Requests.{requests_of}
use Rattle.run_safety.specs.Bases.{state_of_list}
use Rattle.run_safety.proofs.Whole.{Whole}
use Rattle.run_safety.proofs.Lives.{whole}
use Rattle.step_refinement.specs.Ghost.{Ghost, Keeps}
use Rattle.step_refinement.specs.Tied.{ShowsBody, Scene, opening_of, NodeIs, Tied}
use Rattle.step_refinement.proofs.RowWorks.{keeps_of}
use Rattle.entry_laws.proofs.closing_rows.At.{found, StateIs}
use Rattle.entry_laws.proofs.closing_rows.Told.{Told, told_of}
use Rattle.entry_laws.proofs.closing_rows.Lists.{puts_all, state_rest}
use Rattle.row_laws.proofs.hearing.Handing.{has_among}
use Rattle.row_laws.proofs.failed_rows.Asked.{asked_back}
use Rattle.entry_laws.specs.source_order.Meant.{IsDelivery, DecidedIn}

-- the records say what state each list of the node has
pub states_tied : (g : List ℕ) (w : Scene) (n : ℕ) (s : Core) → Tied g w n s → StateIs s.views.me s.views.view g (found s g).list (earlier (reverse s.records) w.before)
unfolding row_of
states_tied g w n s t = subst (λ m. StateIs m s.views.view g (found s g).list (records_of h)) (sym k.stands.me) here
  where
    h : History
    h = record { event = None; records = reverse s.records } ∷ w.before

    x : Ghost
    x = t.ghost

    o : Whole (opening_of w.config) x.nodes x.ps x.all x.leads x.bases
    o = whole t.life

    k : NodeIs x g n s
    k = t.own.0

    lines : x.all ≡ lines_of g h
    lines = t.lines

    told : Told x.bases o.log (lines_of g h)
    told = subst (Told x.bases o.log) lines (told_of (opening_of w.config) x t.life)

    shows : Keeps x s.views.view (x.nodes n).list (list_or_new (found s g).list)
    shows = keeps_of x s.views.view (x.nodes n).list (found s g).list k.row_is.list

    full : lists.puts_of n s.views.view (kept (lines_of g h)) ≡ (x.nodes n).list
    full =
        ap (λ l. lists.puts_of n s.views.view (kept l)) (sym lines) ∙ ap (λ v. lists.puts_of n v (kept x.all)) (sym k.stands.view) ∙ (o.good.past.seated n).list

    based : (b : Origin) → x.bases s.views.view ≡ Some b → Has (Noted (Based n s.views.view b)) (lines_of g h)
    based b q = subst (Has (Noted (Based n s.views.view b))) lines (o.based_ok.by_all n s.views.inc s.views.view s.views.members b k.stands.seated q)

    puts : puts_of n s.views.view g (records_of h) ≡ (x.nodes n).list
    puts = puts_all n s.views.view g h ∙ full

    here : StateIs n s.views.view g (found s g).list (records_of h)
    here =
        record {
          state = shows.state ∙ ap (state_of_list x.bases s.views.view) (sym full) ∙ state_rest n s.views.view g x.bases o.log h told based;
          len = shows.len ∙ sym (ap length puts);
        }

-- a request that was sent carries itself: none is for a reflection
pub request_carries : (v : ViewId) (g : List ℕ) (q : ProviderId) (r : ℕ) (phases : Phases) (x : Proposal) (w : Scene) (n : ℕ) (s : Core) (p : Packet) → p.body ≡ body.Request v g q r phases x → Has p w.sent → Tied g w n s → Has (q, r) (requests_of x)
request_carries v g q r phases x w n s p is sent t =
    (subst (ShowsBody t.ghost g p.from p.inc p.to) is (t.packets p (append_has_right p s.sends w.sent sent))).1

-- a request to join that the node takes was asked for; the group's state is that of the records
pub request_decided : (what : Option Event) (v : ViewId) (g : List ℕ) (q : ProviderId) (r : ℕ) (phases : Phases) (ps : List ProviderId) (a : Attrs) (k : Option ℕ) (w : Scene) (n : ℕ) (s : Core) (p : Packet) → p.body ≡ body.Request v g q r phases (Join ps a k) → Has p w.sent → IsDelivery n what → s.records ≡ [] → Tied g w n s → DecidedIn what w.before n s.views.view g q (is_idle_empty (state_of s g)) a
unfolding is_idle_empty state_of list_of row_of
request_decided what v g q r phases ps a k w n s p is delivered given none t =
    record {
      given = given;
      there = subst (λ l. view_now n (earlier (reverse l) w.before) ≡ Some s.views.view) none t.placed.0;
      joiners = ps;
      len = k;
      asked = recorded;
      named = has_among ps q joins;
      state = ap (λ (st : GroupState). is_empty st.members && is_none st.running) (sym here.state);
    }
  where
    carries : Has (q, r) (requests_of (Join ps a k))
    carries = request_carries v g q r phases (Join ps a k) w n s p is delivered t

    joiner : (z : ProviderId) × Has z ps × Path (ProviderId × ℕ) (q, r) (z, z.join)
    joiner = has_map (λ (z : ProviderId). (z, z.join)) (q, r) ps carries

    same : q ≡ joiner.0
    same = ap (λ (z : ProviderId × ℕ). z.0) joiner.2

    joins : Has q ps
    joins = subst (λ z. Has z ps) (sym same) joiner.1

    number : r ≡ q.join
    number = ap (λ (z : ProviderId × ℕ). z.1) joiner.2 ∙ ap (λ (z : ProviderId). z.join) (sym same)

    o : Whole (opening_of w.config) t.ghost.nodes t.ghost.ps t.ghost.all t.ghost.leads t.ghost.bases
    o = whole t.life

    sent : Has (group.Request v q r (Join ps a k)) t.ghost.ps
    sent = ((subst (ShowsBody t.ghost g p.from p.inc p.to) is (t.packets p (append_has_right p s.sends w.sent delivered))).2 refl).sent

    line : Has (Noted (group.Asked q r (Join ps a k))) (Kept Begins ∷ lines_of g w.before)
    line = subst (λ l. Has (Noted (group.Asked q r (Join ps a k))) (lines_with g (reverse l) w.before (lines_of g w.before))) none (subst (Has (Noted (group.Asked q r (Join ps a k)))) t.lines (o.once.sent v q r (Join ps a k) sent).1)

    older : Has (Noted (group.Asked q r (Join ps a k))) (Kept Begins ∷ lines_of g w.before) → Has (Noted (group.Asked q r (Join ps a k))) (lines_of g w.before)
    older (inl e) = absurd (cc)
    older (inr h) = h

    recorded : Has (happened.Asked q q.join g (Join ps a k)) (records_of w.before)
    recorded = subst (λ i. Has (happened.Asked q i g (Join ps a k)) (records_of w.before)) number (asked_back q r g (Join ps a k) w.before (older line))

    here : StateIs n s.views.view g (found s g).list (records_of w.before)
    here = subst (λ l. StateIs n s.views.view g (found s g).list (earlier (reverse l) w.before)) none (subst (λ m. StateIs m s.views.view g (found s g).list (earlier (reverse s.records) w.before)) t.own.0.stands.me (states_tied g w n s t))
