-- A provider of a node that enters a view is failed in a base, where it is there, just if that base comes from another view than the
-- one that the node was in.
use Rattle.std.proofs.Common.{◌≡◌, ◌<◌, ◌⊎◌, ℕ, List, Some, Bool, true, false, refl, sym, ap, ◌∙◌, subst, inl, inr, ⊎_elim, arith}
use Rattle.std.specs.Prelude.{not, ◌==◌, ◌&&◌, reverse, filter}
use Rattle.std.proofs.lemmas.Bool.{and_parts, eq-eqb, eqb-true}
use Rattle.rsct_packet.specs.declared.ids.ViewId.{ViewId}
use Rattle.rsct_packet.specs.declared.ids.Member.{Member}
use Rattle.rsct_packet.specs.declared.ids.ProviderId.{ProviderId}
use Rattle.rsct_packet.specs.Providers.{among}
use Rattle.rsct_packet.specs.Search.{Has}
use Rattle.rsct_packet.proofs.HasLaws.{has_filter, filter_has, has_map, has_reverse, reverse_has}
use Rattle.proposal_core.specs.declared.entry.Entry.{Entry}
use Rattle.proposal_core.specs.declared.group_state.GroupState.{GroupState}
use Rattle.proposal_core.specs.Fold.{present}
use Rattle.node_state.specs.declared.config.Config.{Config}
use Rattle.node_state.specs.declared.happened.Happened.TheVariants as happened
use Rattle.node_state.specs.declared.state.Core.{Core}
use Rattle.node_state.specs.HandOn.{Answering}
use Rattle.node_state.specs.Step.{NodeEvent, at_work, stepped}
use Rattle.world_model.specs.declared.event.Event.{Event}
use Rattle.run_safety.specs.ViewOrder.{is_same, Lt, Le}
use Rattle.run_safety.specs.Group.{member, Reply, members_of, Origin, Answer, Install, Record, In, Kept, Noted, Based, kept}
use Rattle.run_safety.specs.Group as group
use Rattle.run_safety.specs.GroupLists.{WasIn, From}
use Rattle.run_safety.specs.Bases.{is_live, marked, side_state, BaseIs, Wins}
use Rattle.run_safety.specs.Moves.{Opening, Alone, Together, Born}
use Rattle.run_safety.specs.Sight.{inc_in, lines_with, lines_of}
use Rattle.run_safety.proofs.Order.{lt_not_same, le_antisym, eq_true, eq_same}
use Rattle.run_safety.proofs.Parts.{member_parts, Entered}
use Rattle.run_safety.proofs.Tests.{any_has, has_any}
use Rattle.run_safety.proofs.Whole.{Whole}
use Rattle.run_safety.proofs.Lives.{whole}
use Rattle.step_refinement.specs.Tied.{Scene, NodeIs, NodeIsIf, Rests, opening_of}
use Rattle.step_refinement.specs.Rules.{ended, Arises}
use Rattle.step_refinement.specs.Runs.{Reached, Steps}
use Rattle.step_refinement.proofs.Changed.{set_here}
use Rattle.step_refinement.proofs.RunLaw.{reached_rests}
use Rattle.row_laws.proofs.hearing.Handing.{among_is, has_among}
use Rattle.row_laws.proofs.hearing.Listening.{steps_change}
use Rattle.provider_laws.proofs.attending.Ordering.{InsAt, does_ins, Lively}
use Rattle.run_safety.proofs.SightLaws.{line_kept, kept_line, own_line, line_later, line_in, line_split}

-- ---- a view that is entered

-- a node does not enter its first view by an install
born_first : (o : Opening) (n j : ℕ) (v : ViewId) (ms : List Member) → Born o n j v ms → v.number ≡ 1
born_first Alone n j v ms k = ap (λ (z : ViewId). z.number) k.0
born_first (Together w all) n j v ms k = ap (λ (z : ViewId). z.number) k.0 ∙ k.3

-- who is live has not failed
live_lives : (rs : List Reply) (u : ViewId) (st side : GroupState) (p : ProviderId) → st ≡ marked rs u side → is_live rs u p ≡ true → among st.failed p ≡ false
live_lives rs u st side p is live = by (among st.failed p) refl
  where
    by : (b : Bool) → among st.failed p ≡ b → b ≡ false
    by false q = refl
    by true q =
        let h : Has p (filter (λ p. not (is_live rs u p)) (present side)) = subst (λ (z : GroupState). Has p z.failed) is (among_is st.failed p q) in
        let k = (has_filter (λ p. not (is_live rs u p)) p (present side) h).1 in
        absurd (let z : not (is_live rs u p) ≡ false = ap not live in let y : true ≡ false = sym k ∙ z in cc)

-- the answers of which the base of a view was made, one of which is the member's; and those are marked that are not live
record Made (ps : List group.Packet) (u side : ViewId) (st : GroupState) (who : Member) : Type 0 where
  replies : List Reply
  carried : GroupState
  state : st ≡ marked replies side carried
  sent : (r : Reply) → Has r replies → Has (Answer u r) ps
  own : Has who (members_of replies)

module _ (c : Config) (w : Scene) (n : ℕ) (f : Answering) (s : Core) (e : NodeEvent) (v : Event) (k : Reached c w) (up : w.cores n ≡ Some s) (arises : Arises w e) where
  abbrev t : Core
  t = stepped f s e

  abbrev next : Scene
  next = ended w n v t

  abbrev old : ViewId
  old = s.views.view

  next_reached : Reached c next
  next_reached = Steps w n f s e v k up arises

  ins : InsAt t
  ins = does_ins (at_work s) t (steps_change c w k n s up f e) (λ m u ms h. absurd h)

  module _ (g : List ℕ) where
    abbrev r0 : Rests g w
    r0 = reached_rests c w k g

    abbrev r1 : Rests g next
    r1 = reached_rests c next next_reached g

    o0 : Whole (opening_of w.config) r0.ghost.nodes r0.ghost.ps r0.ghost.all r0.ghost.leads r0.ghost.bases
    o0 = whole r0.life

    o1 : Whole (opening_of next.config) r1.ghost.nodes r1.ghost.ps r1.ghost.all r1.ghost.leads r1.ghost.bases
    o1 = whole r1.life

    node0 : NodeIs r0.ghost g n s
    node0 = (subst (NodeIsIf w.config r0.ghost g n (w.incs n)) up (r0.nodes n)).0

    inc0 : s.views.inc ≡ w.incs n
    inc0 = (subst (NodeIsIf w.config r0.ghost g n (w.incs n)) up (r0.nodes n)).2

    at1 : NodeIsIf next.config r1.ghost g n (next.incs n) (Some t)
    at1 = subst (NodeIsIf next.config r1.ghost g n (next.incs n)) (set_here w.cores n (Some t)) (r1.nodes n)

    node1 : NodeIs r1.ghost g n t
    node1 = at1.0

    inc1 : t.views.inc ≡ w.incs n
    inc1 = at1.2

    lines1 : r1.ghost.all ≡ lines_with g (reverse t.records) w.before (lines_of g w.before)
    lines1 = r1.lines

    -- a line from before is still there
    still : (x : Record) → Has x (kept r0.ghost.all) → Has x (kept r1.ghost.all)
    still x h =
        let a : Has (Kept x) (lines_of g w.before) = subst (Has (Kept x)) r0.lines (kept_line x r0.ghost.all h) in
        line_kept x r1.ghost.all (subst (Has (Kept x)) (sym lines1) (line_later (Kept x) g (reverse t.records) w.before (lines_of g w.before) a))

    module _ (u : ViewId) (ms : List Member) (side : ViewId) (len : ℕ) (st : GroupState) (entered : Has (happened.In n u ms) t.records) (based : Has (happened.Base n u g side len st) t.records) (later : Lt old u) where
      abbrev base : Origin
      base = record { old = side; len = len; state = st }

      u_is : u ≡ t.views.view
      u_is = ins n u ms entered

      line : Has (In n (inc_in n ms) u ms) (kept r1.ghost.all)
      line =
          line_kept (In n (inc_in n ms) u ms) r1.ghost.all (subst (Has (Kept (In n (inc_in n ms) u ms))) (sym lines1) (line_in (Kept (In n (inc_in n ms) u ms)) g (happened.In n u ms) (λ rs. inl refl) (reverse t.records) w.before (lines_of g w.before) (reverse_has (happened.In n u ms) t.records entered)))

      was1 : WasIn (kept r1.ghost.all) n (w.incs n) u
      was1 =
          let z = ((o1.good.past.seated n).was (subst (λ m. 0 < m) (sym node1.stands.inc) node1.stands.up)).0 in
          subst (λ (y : ℕ × ViewId). WasIn (kept r1.ghost.all) n y.0 y.1) (λ j. ((node1.stands.inc ∙ inc1) j, (node1.stands.view ∙ sym u_is) j)) z

      inc_is : inc_in n ms ≡ w.incs n
      inc_is = o1.good.past.single n (inc_in n ms) (w.incs n) u (ms, line) was1

      was0 : WasIn (kept r0.ghost.all) n (w.incs n) old
      was0 =
          let z = ((o0.good.past.seated n).was (subst (λ m. 0 < m) (sym node0.stands.inc) node0.stands.up)).0 in
          subst (λ (y : ℕ × ViewId). WasIn (kept r0.ghost.all) n y.0 y.1) (λ j. ((node0.stands.inc ∙ inc0) j, node0.stands.view j)) z

      -- whichever view the node came from by the lines is the one that it was in
      from_old : (x : ViewId) → From (kept r1.ghost.all) n (w.incs n) u x → x ≡ old
      from_old x fr = le_antisym x old (low (line_split g (Kept (In n (w.incs n) x fr.was.0)) (happened.In n x fr.was.0) refl (reverse t.records) w.before (lines_of g w.before) (subst (Has (Kept (In n (w.incs n) x fr.was.0))) lines1 (kept_line (In n (w.incs n) x fr.was.0) r1.ghost.all fr.was.1)))) (fr.last old (was0.0, still (In n (w.incs n) old was0.0) was0.1) later)
        where
          low : Has (happened.In n x fr.was.0) (reverse t.records) ⊎ Has (Kept (In n (w.incs n) x fr.was.0)) (lines_of g w.before) → Le x old
          low (inl h) =
              let same : x ≡ u = ins n x fr.was.0 (has_reverse (happened.In n x fr.was.0) t.records h) ∙ sym u_is in
              absurd (lt_not_same x u fr.less same)
          low (inr h) =
              let z : Entered (r0.ghost.nodes n) (w.incs n) x = o0.good.inv.records (In n (w.incs n) x fr.was.0) (line_kept (In n (w.incs n) x fr.was.0) r0.ghost.all (subst (Has (Kept (In n (w.incs n) x fr.was.0))) (sym r0.lines) h)) in
              ⊎_elim (λ (a : w.incs n < (r0.ghost.nodes n).inc). absurd (let b : (r0.ghost.nodes n).inc ≡ w.incs n = node0.stands.inc ∙ inc0 in omega arith)) (λ (a : (w.incs n ≡ (r0.ghost.nodes n).inc) × Le x (r0.ghost.nodes n).view). subst (Le x) node0.stands.view a.1) z

      bases_is : r1.ghost.bases u ≡ Some base
      bases_is =
          o1.based_ok.noted n u base (subst (Has (Noted (Based n u base))) (sym lines1) (line_in (Noted (Based n u base)) g (happened.Base n u g side len st) (λ rs. own_line g (Noted (Based n u base))) (reverse t.records) w.before (lines_of g w.before) (reverse_has (happened.Base n u g side len st) t.records based)))

      made : Made r1.ghost.ps u side st (member n (inc_in n ms))
      made =
          let i = o1.based_ok.installed u base bases_is in
          let m = o1.based_ok.made u i.0 i.1 i.2 in
          let wins : Wins m.0 i.1 (λ x. side_state r1.ghost.bases i.1 x) base = subst (λ z. BaseIs m.0 i.1 (λ x. side_state r1.ghost.bases i.1 x) z) bases_is m.4 in
          record {
            replies = m.0;
            carried = side_state r1.ghost.bases i.1 side;
            state = wins.state;
            sent = m.2;
            own = subst (Has (member n (inc_in n ms))) m.1 (among_members i.0 i.1 i.2 (o1.good.past.origin n (inc_in n ms) u ms line));
          }
        where
          among_members : (ns : List Member) (ss : ViewId → List Entry) → Has (Install u ns ss) r1.ghost.ps → Born (opening_of next.config) n (inc_in n ms) u ms ⊎ ((ss : ViewId → List Entry) × Has (Install u ms ss) r1.ghost.ps × Has (member n (inc_in n ms)) ms) → Has (member n (inc_in n ms)) ns
          among_members ns ss h (inl b) =
              absurd (let a = born_first (opening_of next.config) n (inc_in n ms) u ms b in let d = (o1.good.past.made u ns ss h).later in omega (arith, a, d))
          among_members ns ss h (inr b) = subst (Has (member n (inc_in n ms))) (sym (o1.good.inv.one u ns ms ss b.0 h b.1).0) b.2

      -- each answer of the node is from where it was
      reply_old : (r : Reply) → Has (Answer u r) r1.ghost.ps → r.node ≡ n → r.inc ≡ w.incs n → r.view ≡ old
      reply_old r h a b =
          from_old r.view (subst (λ (y : ℕ × ℕ). From (kept r1.ghost.all) y.0 y.1 u r.view) (λ j. (a j, b j)) (o1.good.past.answers u r h).0)

      lives : side ≡ old → (p : ProviderId) → p.node ≡ n → p.inc ≡ w.incs n → among st.failed p ≡ false
      lives same p node inc = live_lives made.replies side st made.carried p made.state live
        where
          test : (q : Reply) → q.node ≡ p.node → q.inc ≡ p.inc → q.view ≡ side → (q.node == p.node && (q.inc == p.inc && is_same q.view side)) ≡ true
          test q a b d = λ j. eq-eqb q.node p.node a j && (eq-eqb q.inc p.inc b j && (ap (is_same q.view) (sym d) ∙ eq_same q.view) j)

          live : is_live made.replies side p ≡ true
          live =
              let r = has_map (λ (r : Reply). member r.node r.inc) (member n (inc_in n ms)) made.replies made.own in
              let parts = member_parts n (r.0).node (inc_in n ms) (r.0).inc (ap (λ z. Some z) r.2) in
              has_any (λ (q : Reply). q.node == p.node && (q.inc == p.inc && is_same q.view side)) made.replies r.0 r.1 (test (r.0) (sym parts.0 ∙ sym node) (sym parts.1 ∙ inc_is ∙ sym inc) (reply_old (r.0) (made.sent r.0 r.1) (sym parts.0) (sym parts.1 ∙ inc_is) ∙ sym same))

      fails : (side ≡ old → ⊥) → (p : ProviderId) → p.node ≡ n → p.inc ≡ w.incs n → Has p (present st) → among st.failed p ≡ true
      fails other p node inc there = has_among st.failed p (subst (λ (z : GroupState). Has p z.failed) (sym made.state) (has_kept (is_live made.replies side p) refl))
        where
          away : is_live made.replies side p ≡ true → ⊥
          away e =
              let r = any_has (λ (q : Reply). q.node == p.node && (q.inc == p.inc && is_same q.view side)) made.replies e in
              let a = and_parts ((r.0).node == p.node) ((r.0).inc == p.inc && is_same (r.0).view side) r.2 in
              let b = and_parts ((r.0).inc == p.inc) (is_same (r.0).view side) a.1 in
              other (sym (eq_true (r.0).view side b.1) ∙ reply_old r.0 (made.sent r.0 r.1) (eqb-true (r.0).node p.node a.0 ∙ node) (eqb-true (r.0).inc p.inc b.0 ∙ inc))

          has_kept : (b : Bool) → is_live made.replies side p ≡ b → Has p (filter (λ p. not (is_live made.replies side p)) (present made.carried))
          has_kept true e = absurd (away e)
          has_kept false e = filter_has (λ p. not (is_live made.replies side p)) p (present made.carried) (subst (λ (z : GroupState). Has p (present z)) made.state there) (ap not e)

  pub lively_now : Lively n (w.incs n) old t.records
  lively_now u ms g len st entered based later p node inc = lives g u ms old len st entered based later refl p node inc

  -- whoever is there in a base from elsewhere is failed
  pub failed_now : (u : ViewId) (ms : List Member) (g : List ℕ) (side : ViewId) (len : ℕ) (st : GroupState) → Has (happened.In n u ms) t.records → Has (happened.Base n u g side len st) t.records → Lt old u → (side ≡ old → ⊥) → (p : ProviderId) → p.node ≡ n → p.inc ≡ w.incs n → Has p (present st) → among st.failed p ≡ true
  failed_now u ms g side len st entered based later other p node inc there = fails g u ms side len st entered based later other p node inc there
