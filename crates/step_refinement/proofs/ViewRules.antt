-- The rules of views, but for an install.
use Rattle.std.proofs.Common.{◌≡◌, ◌<◌, ℕ, List, ◌++◌, length, Option, Some, None, Bool, true, false, refl, sym, ap, ◌∙◌, subst, inl, ⊎_elim, arith}
use Rattle.std.specs.Prelude.{◌==◌, ◌&&◌, not, nat_le, max}
use Rattle.std.proofs.lemmas.Bool.Decides.{nat_tests}
use Rattle.std.proofs.lemmas.Bool.{and_parts}
use Rattle.rsct_packet.specs.declared.ids.ViewId.{ViewId}
use Rattle.rsct_packet.specs.declared.mask.Mask.{Mask}
use Rattle.rsct_packet.specs.Ids.{same_view, view_lt}
use Rattle.rsct_packet.specs.Mask.{has_node, with_node}
use Rattle.rsct_packet.specs.Search.{Has}
use Rattle.rsct_packet.proofs.HasLaws.{append_has_right}
use Rattle.view_state.specs.declared.exchange.Exchange.{Exchange}
use Rattle.view_state.specs.Answers.{max_parts}
use Rattle.view_state.specs.declared.packet.ViewPacket.TheVariants as view
use Rattle.view_state.specs.declared.views.Views.{Views}
use Rattle.view_state.specs.Views.{view_sent, promised, answered, prepare, prepare_rule, refused_by, refuse_to, refuse_rule, taken_rule, views_at_work}
use Rattle.node_state.specs.declared.packet.Body.TheVariants as body
use Rattle.node_state.specs.declared.packet.Packet.{Packet}
use Rattle.node_state.specs.declared.state.Core.{Core}
use Rattle.node_state.specs.Settings.{is_fixed}
use Rattle.node_state.specs.State.{row_of, held_rows}
use Rattle.node_state.specs.Sending.{sent, send_on, packet_on, network_to}
use Rattle.node_state.specs.HandOn.{Answering}
use Rattle.node_state.specs.Applying.{own_parts, apply_install, views_taken}
use Rattle.node_state.specs.Step.{view_rule, take_body}
use Rattle.run_safety.specs.ViewOrder.{is_before, Lt, Le}
use Rattle.run_safety.specs.Group.{Standing, Reply}
use Rattle.run_safety.specs.Group as group
use Rattle.run_safety.specs.Moves.{Promises, Answers}
use Rattle.run_safety.proofs.Order.{lt_refl, lt_le, le_lt_trans, le_antisym}
use Rattle.run_safety.proofs.Whole.{Whole}
use Rattle.run_safety.proofs.Lives.{whole}
use Rattle.step_refinement.specs.Ghost.{Ghost, Goes, part_of, Gathers, GathersIf}
use Rattle.step_refinement.specs.Rules.{at_node}
use Rattle.step_refinement.specs.Tied.{ShowsBody, Shows, Stands, NodeOf, Scene, opening_of, Tied}
use Rattle.step_refinement.proofs.Goes.{Spares, sound_on, spares_same, carries_on, shows_on, rest_on, node_on}
use Rattle.step_refinement.proofs.Changed.{set_here, set_there, changes, incs_set, has_pushed}
use Rattle.step_refinement.proofs.Works.{tied_on, tied_sent, tied_views}
use Rattle.step_refinement.proofs.Gone.{with_nodes, with_packet, nodes_goes, nodes_still, nodes_spares, packet_goes, packet_still, packet_spares}
use Rattle.step_refinement.proofs.Parts.{own_carries, own_differ}
use Rattle.step_refinement.proofs.Turns.{packet_turns}

lt_of : (a b : ViewId) → view_lt a b ≡ true → Lt a b
unfolding is_before
lt_of a b e = e

pub same_of : (a b : ViewId) → same_view a b ≡ true → a ≡ b
same_of a b e = grind (arith, nat_tests)

differs : (a b : ViewId) → not (same_view a b) ≡ true → a ≡ b → ⊥
differs a b e q = let f : not (same_view b b) ≡ true = subst (λ z. not (same_view z b) ≡ true) q e in at b f
  where
    at : (b : ViewId) → not (same_view b b) ≡ true → ⊥
    at b f = grind (arith, nat_tests)

pub apart_of : (a b : ViewId) → same_view a b ≡ false → a ≡ b → ⊥
apart_of a b e q = differs a b (ap not e) q

-- a view that is no later than another, and not the same, is before it
pub before_of : (a b : ViewId) → Le a b → (b ≡ a → ⊥) → Lt a b
before_of a b l ne = by (is_before a b) refl
  where
    by : (t : Bool) → is_before a b ≡ t → t ≡ true
    by true e = refl
    by false e = absurd (ne (le_antisym b a e l))

module _ (g : List ℕ) (w : Scene) (n : ℕ) (s : Core) (t : Tied g w n s) where
  -- it promises more, and what it gathered is dropped
  pub tied_promised : (v : ViewId) → t.ghost.asks ≡ true → Lt s.views.promise v → Tied g w n (record s { views = record (s.views) { promise = v; gathering = None } })
  unfolding row_of
  tied_promised v asks lt =
      let x : Ghost = t.ghost in
      let h = t.own.0 in
      let z : Standing = record (x.nodes n) { promise = v } in
      let nodes : ℕ → Standing = at_node x.nodes n z in
      let here : nodes n ≡ z = set_here x.nodes n z in
      let le : Le (x.nodes n).promise v = lt_le (x.nodes n).promise v (subst (λ k. Lt k v) (sym h.stands.promise) lt) in
      let views : Views = record (s.views) { promise = v; gathering = None } in
      let stands : Stands (with_nodes x nodes) n views = record {
        me = h.stands.me;
        up = h.stands.up;
        inc = ap (λ (k : Standing). k.inc) here ∙ h.stands.inc;
        view = ap (λ (k : Standing). k.view) here ∙ h.stands.view;
        promise = ap (λ (k : Standing). k.promise) here;
        seated = h.stands.seated;
      } in
      let own : NodeOf (with_nodes x nodes) g n (is_fixed s.config.mode) views (row_of s g) s.groups s.sessions s.names =
      rest_on x (with_nodes x nodes) n (nodes_spares x nodes n (ap (λ (k : Standing). k.list) here)) g (is_fixed s.config.mode) s.views views (row_of s g) s.groups s.sessions s.names stands refl refl refl refl (λ a. absurd (let z : true ≡ false = sym asks ∙ a in cc)) h in
      tied_on g w n s t (record s { views = views }) (with_nodes x nodes) (Promises x.nodes nodes x.ps x.all x.leads x.bases n (x.nodes n) v t.life refl le (changes x.nodes n z)) t.lines t.placed t.turns (own, t.own.1, t.own.2) (λ m ne. nodes_spares x nodes m (ap (λ (k : Standing). k.list) (set_there x.nodes n z m ne))) (λ m ne. set_there x.nodes n z m ne) (λ p i. shows_on x (with_nodes x nodes) (nodes_goes x nodes) g p (t.packets p i)) (sound_on x (with_nodes x nodes) (nodes_still x nodes (λ m. incs_set x.nodes n z (omega arith) m) asks) g t.sound)

  -- an answer for a view that it promised is sent
  pub tied_answers : (to : ℕ) (v : ViewId) → Le v s.views.promise → Lt s.views.view v → Tied g w n (sent s to (body.View (view.Answer v s.views.view (own_parts s))))
  unfolding row_of sent send_on packet_on
  tied_answers to v le lt =
      let x : Ghost = t.ghost in
      let h = t.own.0 in
      let r : Reply = record { node = n; inc = (x.nodes n).inc; view = (x.nodes n).view; list = (x.nodes n).list } in
      let y : Ghost = with_packet x (group.Answer v r) in
      let p : Packet = packet_on s (network_to s to) to (body.View (view.Answer v s.views.view (own_parts s))) in
      let up : 0 < (x.nodes n).inc = subst (λ k. 0 < k) (sym h.stands.inc) h.stands.up in
      let le' : Le v (x.nodes n).promise = subst (Le v) (sym h.stands.promise) le in
      let lt' : Lt (x.nodes n).view v = subst (λ k. Lt k v) (sym h.stands.view) lt in
      let o : Goes x y = packet_goes x (group.Answer v r) in
      let spares : (m : ℕ) → Spares x y m = λ m. packet_spares x (group.Answer v r) m (λ e. absurd (omega arith)) (λ e. absurd (omega arith)) in
      let mine : r ≡ record { node = s.views.me; inc = s.views.inc; view = s.views.view; list = (x.nodes n).list } = λ i. record { node = sym h.stands.me i; inc = h.stands.inc i; view = h.stands.view i; list = (x.nodes n).list } in
      let new : Shows y g p = (
        (x.nodes n).list,
        inl (λ i. group.Answer v (sym mine i)),
        (n, s.views.inc, s.views.members, h.stands.seated),
        carries_on x y o s.views.view (x.nodes n).list (part_of g (own_parts s)) (n, s.views.inc, s.views.members, h.stands.seated) (own_carries x g s.views.view (x.nodes n).list s h.order h.row_is.list h.row_is.stable),
        own_differ s h.order,
      ) in
      tied_on g w n s t (sent s to (body.View (view.Answer v s.views.view (own_parts s)))) y (Answers x.nodes x.ps x.all x.leads x.bases n (x.nodes n) v t.life refl up le' lt') t.lines t.placed (packet_turns w n s.views.view s.records s.sessions x.ps t.turns (group.Answer v r) (λ a b c d e. cc)) (node_on x y n (spares n) refl g (is_fixed s.config.mode) s.views (row_of s g) s.groups s.sessions s.names h, t.own.1, t.own.2) (λ m ne. spares m) (λ m ne. refl) (λ q i. ⊎_elim (λ (e : q ≡ p). subst (Shows y g) (sym e) new) (λ (k : Has q (s.sends ++ w.sent)). shows_on x y o g q (t.packets q k)) (has_pushed q p s.sends w.sent i)) (sound_on x y (packet_still x (group.Answer v r) (λ e. absurd (omega arith)) (λ e. absurd (omega arith))) g t.sound)

module _ (g : List ℕ) (w : Scene) (n : ℕ) (f : Answering) (s : Core) (t : Tied g w n s) where
  -- what is noted of views alone
  pub taken_tied : (from inc : ℕ) (v : ViewId) → Tied g w n (view_rule f s from inc (view.Taken v))
  unfolding view_rule views_taken apply_install taken_rule
  taken_tied from inc v = by (same_view s.views.view v)
    where
      by : (b : Bool) → Tied g w n (views_taken f s (elim b [ true ↦ record (views_at_work s.views) { views = record (s.views) { taken = with_node s.views.taken from } } | false ↦ views_at_work s.views ]))
      by true =
          let h = t.own.0 in
          tied_views g w n s t (record (s.views) { taken = with_node s.views.taken from }) (rest_on t.ghost t.ghost n (spares_same t.ghost n) g (is_fixed s.config.mode) s.views (record (s.views) { taken = with_node s.views.taken from }) (row_of s g) s.groups s.sessions s.names (record { me = h.stands.me; up = h.stands.up; inc = h.stands.inc; view = h.stands.view; promise = h.stands.promise; seated = h.stands.seated }) refl refl refl refl h.gathering h) refl
      by false = t

  pub refuse_tied : (from inc : ℕ) (v : ViewId) (k : ℕ) → Tied g w n (view_rule f s from inc (view.Refuse v k))
  unfolding view_rule views_taken apply_install refuse_rule refuse_to refused_by
  refuse_tied from inc v k = at s.views.gathering t.own.0.gathering
    where
      by : (e : Exchange) (b : Bool) → Gathers t.ghost g n s.views.inc s.views.view s.views.promise e → Tied g w n (views_taken f s (elim b [ true ↦ refused_by (views_at_work s.views) k | false ↦ views_at_work s.views ]))
      by e true k' =
          let h = t.own.0 in
          let views : Views = record (s.views) { floor = max s.views.floor k; gathering = None } in
          tied_views g w n s t views (rest_on t.ghost t.ghost n (spares_same t.ghost n) g (is_fixed s.config.mode) s.views views (row_of s g) s.groups s.sessions s.names (record { me = h.stands.me; up = h.stands.up; inc = h.stands.inc; view = h.stands.view; promise = h.stands.promise; seated = h.stands.seated }) refl refl refl refl (λ a. absurd (let z : true ≡ false = sym k'.asks ∙ a in cc)) h) refl
      by e false k' = t

      at : (e : Option Exchange) → GathersIf t.ghost g n s.views.inc s.views.view s.views.promise e → Tied g w n (views_taken f s (refuse_to (views_at_work s.views) v k e))
      at None h = t
      at (Some e) h = by e (same_view e.view v) h

  pub prepare_tied : t.ghost.asks ≡ true → (from inc : ℕ) (v : ViewId) (mask : Mask) → Tied g w n (view_rule f s from inc (view.Prepare v mask))
  unfolding view_rule prepare_rule prepare answered promised view_sent views_taken apply_install row_of own_parts held_rows
  prepare_tied asks from inc v mask =
      let asked : Bool = v.coord == from && v.inc == inc && has_node mask s.views.me in
      by asked (asked && view_lt s.views.promise v) (asked && same_view v s.views.promise && not (same_view v s.views.view)) (view_lt v s.views.promise) refl refl
    where
      below : Le s.views.view s.views.promise
      below =
          let k : Whole (opening_of w.config) t.ghost.nodes t.ghost.ps t.ghost.all t.ghost.leads t.ghost.bases = whole t.life in
          subst (λ (z : ViewId × ViewId). Le z.0 z.1) (λ i. (t.own.0.stands.view i, t.own.0.stands.promise i)) (k.good.inv.node n).below

      by : (asked b1 b2 b3 : Bool) → (asked && view_lt s.views.promise v) ≡ b1 → (asked && same_view v s.views.promise && not (same_view v s.views.view)) ≡ b2 → Tied g w n (views_taken f s (prepare (views_at_work s.views) v (own_parts s) b1 b2 b3))
      by asked true b2 b3 e q = first (nat_le (length (own_parts s)) max_parts)
        where
          lt : Lt s.views.promise v
          lt = lt_of s.views.promise v (and_parts asked (view_lt s.views.promise v) e).1

          first : (c : Bool) → Tied g w n (views_taken f s (elim c [ true ↦ view_sent (promised (views_at_work s.views) v) v.coord (view.Answer v s.views.view (own_parts s)) | false ↦ promised (views_at_work s.views) v ]))
          first true = tied_answers g w n (record s { views = record (s.views) { promise = v; gathering = None } }) (tied_promised g w n s t v asks lt) v.coord v (lt_refl v) (le_lt_trans s.views.view s.views.promise v below lt)
          first false = tied_promised g w n s t v asks lt
      by asked false true b3 e q = again (nat_le (length (own_parts s)) max_parts)
        where
          k : ((asked && same_view v s.views.promise) ≡ true) × (not (same_view v s.views.view) ≡ true)
          k = and_parts (asked && same_view v s.views.promise) (not (same_view v s.views.view)) q

          same : v ≡ s.views.promise
          same = same_of v s.views.promise (and_parts asked (same_view v s.views.promise) k.0).1

          again : (c : Bool) → Tied g w n (views_taken f s (elim c [ true ↦ view_sent (views_at_work s.views) v.coord (view.Answer v s.views.view (own_parts s)) | false ↦ views_at_work s.views ]))
          again true = tied_answers g w n s t v.coord v (subst (Le v) same (lt_refl v)) (before_of s.views.view v (subst (Le s.views.view) (sym same) below) (differs v s.views.view k.1))
          again false = t
      by asked false false true e q = tied_sent g w n s t v.coord (body.View (view.Refuse v s.views.promise.number)) tt
      by asked false false false e q = t

pub taken_is_tied : (v : ViewId) (g : List ℕ) (w : Scene) (n : ℕ) (f : Answering) (s : Core) (from inc : ℕ) → Tied g w n s → Tied g w n (view_rule f s from inc (view.Taken v))
taken_is_tied v g w n f s from inc t = taken_tied g w n f s t from inc v

pub refuse_is_tied : (v : ViewId) (k : ℕ) (g : List ℕ) (w : Scene) (n : ℕ) (f : Answering) (s : Core) (from inc : ℕ) → Tied g w n s → Tied g w n (view_rule f s from inc (view.Refuse v k))
refuse_is_tied v k g w n f s from inc t = refuse_tied g w n f s t from inc v k

pub prepare_is_tied : (v : ViewId) (mask : Mask) (g : List ℕ) (w : Scene) (n : ℕ) (f : Answering) (s : Core) (p : Packet) → p.body ≡ body.View (view.Prepare v mask) → Has p w.sent → Tied g w n s → Tied g w n (take_body f s p (body.View (view.Prepare v mask)))
unfolding take_body
prepare_is_tied v mask g w n f s p is delivered t =
    prepare_tied g w n f s t (subst (ShowsBody t.ghost g p.from p.inc p.to) is (t.packets p (append_has_right p s.sends w.sent delivered))) p.from p.inc v mask
