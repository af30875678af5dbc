-- A coordinator gather_on answers: an order to ask, and ANSWER, up to the last one.
use Rattle.std.proofs.Common.{◌≡◌, ◌≤◌, ◌<◌, ◌⊎◌, ℕ, List, [], ◌∷◌, ◌++◌, length, Option, Some, None, Bool, true, false, refl, sym, ap, ◌∙◌, subst, inl, inr, arith}
use Rattle.std.specs.Prelude.{◌==◌, ◌&&◌, ◌||◌, not, nat_le, nat_lt, max, map, filter, fold, if◌then◌else◌}
use Rattle.std.specs.List.{list_any}
use Rattle.std.proofs.lemmas.Bool.{and_parts, eq-eqb}
use Rattle.std.proofs.lemmas.Bool.Decides.{nat_tests}
use Rattle.rsct_packet.specs.declared.ids.ViewId.{ViewId}
use Rattle.rsct_packet.specs.declared.ids.Member.{Member}
use Rattle.rsct_packet.specs.declared.mask.Mask.{Mask}
use Rattle.rsct_packet.specs.Ids.{last_u32, same_view}
use Rattle.rsct_packet.specs.Mask.{has_node, nodes_of}
use Rattle.rsct_packet.specs.Search.{Has, insert_before}
use Rattle.rsct_packet.proofs.HasLaws.{has_append, append_has_left, append_has_right}
use Rattle.proposal_core.specs.declared.entry.Entry.{Entry}
use Rattle.view_state.specs.declared.answer.Answer.{Answer}
use Rattle.view_state.specs.declared.exchange.Exchange.{Exchange}
use Rattle.view_state.specs.declared.install.Part.{Part}
use Rattle.view_state.specs.Answers.{max_parts, opened, has_answered, may_answer, member_of, with_member, with_answer, all_answered}
use Rattle.view_exchange.specs.Longest.{all_counted, NamesDiffer}
use Rattle.view_exchange.proofs.Edits.{inserted_has, has_inserted}
use Rattle.view_state.specs.declared.packet.ViewPacket.TheVariants as view
use Rattle.view_state.specs.declared.packet.ViewSend.{ViewSend}
use Rattle.view_state.specs.declared.views.Views.{Views}
use Rattle.view_state.specs.Views.{view_sent_all, gathering_set, promised, gathered, gather_on, own_answer, ask_others, next_view, may_ask, ask_if, ask_rule, answer_to, answer_rule, views_at_work}
use Rattle.node_state.specs.declared.packet.Body.TheVariants as body
use Rattle.node_state.specs.declared.packet.Packet.{Packet}
use Rattle.node_state.specs.declared.state.Core.{Core}
use Rattle.node_state.specs.Settings.{is_fixed}
use Rattle.node_state.specs.State.{row_of, held_rows}
use Rattle.node_state.specs.Sending.{send_on, sent}
use Rattle.node_state.specs.HandOn.{Answering}
use Rattle.node_state.specs.Applying.{own_parts, apply_install, views_taken}
use Rattle.node_state.specs.Step.{take_order, view_rule, take_body}
use Rattle.run_safety.specs.ViewOrder.{is_before, Lt, Le}
use Rattle.run_safety.specs.Group.{member, members_of, Reply}
use Rattle.run_safety.specs.Group as group
use Rattle.run_safety.specs.Moves.{Answers}
use Rattle.run_safety.proofs.Order.{lt_refl, le_lt_trans}
use Rattle.run_safety.proofs.Whole.{Whole}
use Rattle.run_safety.proofs.Lives.{whole}
use Rattle.step_refinement.specs.Ghost.{Ghost, Goes, Seen, CarriesIf, part_of, ReplyIs, Gathers, GathersIf}
use Rattle.step_refinement.specs.Tied.{ShowsBody, Stands, Scene, opening_of, Tied}
use Rattle.step_refinement.proofs.Goes.{Spares, sound_on, spares_same, carries_on, shows_on, rest_on}
use Rattle.step_refinement.proofs.Works.{tied_on, tied_sent, tied_views}
use Rattle.step_refinement.proofs.Gone.{with_packet, packet_goes, packet_still, packet_spares}
use Rattle.step_refinement.proofs.Parts.{own_carries, own_differ}
use Rattle.step_refinement.proofs.ViewRules.{same_of, tied_promised}
use Rattle.step_refinement.proofs.Turns.{packet_turns}

-- ---- one more answer

counted_last : (x : Exchange) (given : List Answer) (a : Answer) → all_counted x (given ++ a ∷ []) ≡ with_answer (all_counted x given) a
counted_last x [] a = refl
counted_last x (b ∷ given) a = counted_last (with_answer x b) given a

-- by node
abbrev with_reply : List Reply → Reply → List Reply
with_reply rs r = insert_before (λ (q : Reply). nat_lt r.node q.node) r rs

members_with : (r : Reply) (rs : List Reply) → members_of (with_reply rs r) ≡ with_member (members_of rs) (member r.node r.inc)
members_with r [] = refl
members_with r (q ∷ rs) = by (nat_lt r.node q.node) (members_with r rs)
  where
    by : (b : Bool) → members_of (with_reply rs r) ≡ with_member (members_of rs) (member r.node r.inc) → members_of (if b then r ∷ q ∷ rs else q ∷ with_reply rs r) ≡ (if b then member r.node r.inc ∷ members_of (q ∷ rs) else member q.node q.inc ∷ with_member (members_of rs) (member r.node r.inc))
    by true k = refl
    by false k = ap (λ (ms : List Member). member q.node q.inc ∷ ms) k

not_any : (rs : List Reply) (n : ℕ) (r : Reply) → not (list_any (λ (m : Member). m.node == n) (members_of rs)) ≡ true → Has r rs → r.node ≡ n → ⊥
not_any [] n r e h q = h
not_any (p ∷ rs) n r e (inl s) q =
    let k : (p.node == n) ≡ true = eq-eqb p.node n (ap (λ (z : Reply). z.node) (sym s) ∙ q) in
    let f : not (true || list_any (λ (m : Member). m.node == n) (members_of rs)) ≡ true = subst (λ c. not (c || list_any (λ (m : Member). m.node == n) (members_of rs)) ≡ true) k e in cc
not_any (p ∷ rs) n r e (inr h) q = by (p.node == n) e (λ f. not_any rs n r f h q)
  where
    by : (c : Bool) → not (c || list_any (λ (m : Member). m.node == n) (members_of rs)) ≡ true → (not (list_any (λ (m : Member). m.node == n) (members_of rs)) ≡ true → ⊥) → ⊥
    by true f rest = cc
    by false f rest = rest f

only_one : {A : Type 0} (a b : A) → Has b (a ∷ []) → b ≡ a
only_one a b (inl e) = e
only_one a b (inr z) = absurd z

gathers_more : (x : Ghost) (g : List ℕ) (n inc : ℕ) (v promise : ViewId) (e : Exchange) (a : Answer) (r : Reply) → may_answer e a.node ≡ true → ReplyIs x g promise a r → Gathers x g n inc v promise e → Gathers x g n inc v promise (with_answer e a)
unfolding may_answer has_answered with_answer
gathers_more x g n inc v promise e a r may new h =
    record {
      view = h.view;
      coord = h.coord;
      inc_of = h.inc_of;
      later = h.later;
      lt = h.lt;
      answers = h.answers ++ a ∷ [];
      made = ap (λ (z : Exchange). with_answer z a) h.made ∙ ap (λ (z : Exchange). record z { age = e.age }) (sym (counted_last (opened promise e.asked) h.answers a));
      replies = with_reply h.replies r;
      members = ap (λ (ms : List Member). with_member ms (member_of a)) h.members ∙ (ap (with_member (members_of h.replies)) (λ i. member (sym new.node i) (sym new.inc i)) ∙ sym (members_with r h.replies));
      shown = λ b i. shows b (has_append b h.answers (a ∷ []) i);
      came = λ q i. comes q (inserted_has (λ (q : Reply). nat_lt r.node q.node) r q h.replies i);
      own = (h.own.0, append_has_left h.own.0 h.answers (a ∷ []) h.own.1, h.own.2, h.own.3);
      single = λ b c i j q. both b c (has_append b h.answers (a ∷ []) i) (has_append c h.answers (a ∷ []) j) q;
      asked = λ b i. in_mask b (has_append b h.answers (a ∷ []) i);
      asks = h.asks;
    }
  where
    absent : (b : Answer) → Has b h.answers → b.node ≡ a.node → ⊥
    absent b i q =
        let z = h.shown b i in
        let fresh : not (list_any (λ (m : Member). m.node == a.node) e.members) ≡ true = (and_parts (has_node e.asked a.node) (not (list_any (λ (m : Member). m.node == a.node) e.members)) may).1 in
        not_any h.replies a.node z.0 (subst (λ ms. not (list_any (λ (m : Member). m.node == a.node) ms) ≡ true) h.members fresh) z.1 (z.2.node ∙ q)

    in_mask : (b : Answer) → Has b h.answers ⊎ Has b (a ∷ []) → has_node e.asked b.node ≡ true
    in_mask b (inl i) = h.asked b i
    in_mask b (inr i) = subst (λ (z : Answer). has_node e.asked z.node ≡ true) (sym (only_one a b i)) (and_parts (has_node e.asked a.node) (not (list_any (λ (m : Member). m.node == a.node) e.members)) may).0

    shows : (b : Answer) → Has b h.answers ⊎ Has b (a ∷ []) → (q : Reply) × Has q (with_reply h.replies r) × ReplyIs x g promise b q
    shows b (inl i) =
        let z = h.shown b i in (z.0, has_inserted (λ (q : Reply). nat_lt r.node q.node) r z.0 h.replies (inr z.1), z.2)
    shows b (inr i) =
        (r, has_inserted (λ (q : Reply). nat_lt r.node q.node) r r h.replies (inl refl), subst (λ c. ReplyIs x g promise c r) (sym (only_one a b i)) new)

    comes : (q : Reply) → (q ≡ r) ⊎ Has q h.replies → (b : Answer) × Has b (h.answers ++ a ∷ []) × ReplyIs x g promise b q
    comes q (inl i) = (a, append_has_right a h.answers (a ∷ []) (inl refl), subst (λ c. ReplyIs x g promise a c) (sym i) new)
    comes q (inr i) = let z = h.came q i in (z.0, append_has_left z.0 h.answers (a ∷ []) z.1, z.2)

    both : (b c : Answer) → Has b h.answers ⊎ Has b (a ∷ []) → Has c h.answers ⊎ Has c (a ∷ []) → b.node ≡ c.node → b ≡ c
    both b c (inl i) (inl j) s = h.single b c i j s
    both b c (inl i) (inr j) s = absurd (absent b i (s ∙ ap (λ (z : Answer). z.node) (only_one a c j)))
    both b c (inr i) (inl j) s = absurd (absent c j (sym s ∙ ap (λ (z : Answer). z.node) (only_one a b i)))
    both b c (inr i) (inr j) s = only_one a b i ∙ sym (only_one a c j)

-- ANSWER: one more counts
pub counted_tied : (v old : ViewId) (parts : List Part) (g : List ℕ) (w : Scene) (n : ℕ) (s : Core) (p : Packet) → p.body ≡ body.View (view.Answer v old parts) → Has p w.sent → (e : Exchange) → s.views.gathering ≡ Some e → (same_view e.view v && may_answer e p.from) ≡ true → Tied g w n s → Tied g w n (record s { views = record (s.views) { gathering = Some (with_answer e (record { node = p.from; inc = p.inc; view = old; parts = parts })) } })
counted_tied v old parts g w n s p is delivered e q r t =
    let h = t.own.0 in
    tied_views g w n s t views (rest_on t.ghost t.ghost n (spares_same t.ghost n) g (is_fixed s.config.mode) s.views views (row_of s g) s.groups s.sessions s.names (record { me = h.stands.me; up = h.stands.up; inc = h.stands.inc; view = h.stands.view; promise = h.stands.promise; seated = h.stands.seated }) refl refl refl refl (gathers_more t.ghost g n s.views.inc s.views.view s.views.promise e a reply k.1 new gathered_so) h) refl
  where
    a : Answer
    a = record { node = p.from; inc = p.inc; view = old; parts = parts }

    views : Views
    views =
        record (s.views) { gathering = Some (with_answer e (record { node = p.from; inc = p.inc; view = old; parts = parts })) }

    shown : (full : List Entry) × Has (group.Answer v (record { node = p.from; inc = p.inc; view = old; list = full })) t.ghost.ps × Seen t.ghost old × CarriesIf t.ghost old full (part_of g parts) × NamesDiffer parts
    shown = subst (ShowsBody t.ghost g p.from p.inc p.to) is (t.packets p (append_has_right p s.sends w.sent delivered))

    k : (same_view e.view v ≡ true) × (may_answer e p.from ≡ true)
    k = and_parts (same_view e.view v) (may_answer e p.from) r

    gathered_so : Gathers t.ghost g n s.views.inc s.views.view s.views.promise e
    gathered_so =
        subst (λ z. GathersIf t.ghost g n s.views.inc s.views.view s.views.promise z) q t.own.0.gathering

    asked : v ≡ s.views.promise
    asked = sym (same_of e.view v k.0) ∙ gathered_so.view

    reply : Reply
    reply = record { node = p.from; inc = p.inc; view = old; list = shown.0 }

    new : ReplyIs t.ghost g s.views.promise a reply
    new =
        record { node = refl; inc = refl; view = refl; sent = subst (λ z. Has (group.Answer z reply) t.ghost.ps) asked shown.1; seen = shown.2; part = shown.3; names = shown.4 }

pub answer_is_tied : (v old : ViewId) (parts : List Part) (g : List ℕ) (w : Scene) (n : ℕ) (f : Answering) (s : Core) (p : Packet) → p.body ≡ body.View (view.Answer v old parts) → Has p w.sent → ((e : Exchange) → s.views.gathering ≡ Some e → all_answered (with_answer e (record { node = p.from; inc = p.inc; view = old; parts = parts })) ≡ false) → Tied g w n s → Tied g w n (take_body f s p (body.View (view.Answer v old parts)))
unfolding take_body view_rule views_taken apply_install answer_rule answer_to gather_on gathered gathering_set
answer_is_tied v old parts g w n f s p is delivered more t = at s.views.gathering refl
  where
    by : (e : Exchange) → s.views.gathering ≡ Some e → (b : Bool) → (same_view e.view v && may_answer e p.from) ≡ b → Tied g w n (views_taken f s (elim b [ true ↦ gather_on (views_at_work s.views) (with_answer e (record { node = p.from; inc = p.inc; view = old; parts = parts })) | false ↦ views_at_work s.views ]))
    by e q false r = t
    by e q true r =
        subst (λ b. Tied g w n (views_taken f s (gathered (views_at_work s.views) (with_answer e (record { node = p.from; inc = p.inc; view = old; parts = parts })) b))) (sym (more e q)) (counted_tied v old parts g w n s p is delivered e q r t)

    at : (o : Option Exchange) → s.views.gathering ≡ o → Tied g w n (views_taken f s (answer_to (views_at_work s.views) v (record { node = p.from; inc = p.inc; view = old; parts = parts }) o))
    at None q = t
    at (Some e) q = by e q (same_view e.view v && may_answer e p.from) refl

-- ---- an order to ask

next_later : (s : Views) → Lt s.promise (next_view s)
unfolding is_before next_view
next_later s = grind (arith, nat_tests)

number_least : (a b : ViewId) → Le a b → a.number ≤ b.number
unfolding is_before
number_least a b l = grind (arith, nat_tests)

module _ (g : List ℕ) (w : Scene) (n : ℕ) (s : Core) (t : Tied g w n s) where
  -- the own answer is there, and the gathering begins with it
  pub opens_tied : (mask : Mask) → is_fixed s.config.mode ≡ false → has_node mask s.views.me ≡ true → s.views.promise.coord ≡ n → s.views.promise.inc ≡ s.views.inc → 1 < s.views.promise.number → Lt s.views.view s.views.promise → Tied g w n (record s { views = record (s.views) { gathering = Some (with_answer (opened s.views.promise mask) (record { node = s.views.me; inc = s.views.inc; view = s.views.view; parts = own_parts s })) } })
  unfolding row_of opened with_answer
  opens_tied mask free there coord inc later lt =
      let x : Ghost = t.ghost in
      let h = t.own.0 in
      let r : Reply = record { node = n; inc = (x.nodes n).inc; view = (x.nodes n).view; list = (x.nodes n).list } in
      let v : ViewId = s.views.promise in
      let y : Ghost = with_packet x (group.Answer v r) in
      let a : Answer = record { node = s.views.me; inc = s.views.inc; view = s.views.view; parts = own_parts s } in
      let up : 0 < (x.nodes n).inc = subst (λ k. 0 < k) (sym h.stands.inc) h.stands.up in
      let le : Le v (x.nodes n).promise = subst (Le v) (sym h.stands.promise) (lt_refl v) in
      let lt' : Lt (x.nodes n).view v = subst (λ k. Lt k v) (sym h.stands.view) lt in
      let o : Goes x y = packet_goes x (group.Answer v r) in
      let spares : (m : ℕ) → Spares x y m = λ m. packet_spares x (group.Answer v r) m (λ e. absurd (omega arith)) (λ e. absurd (omega arith)) in
      let seen : Seen x s.views.view = (n, s.views.inc, s.views.members, h.stands.seated) in
      let reply : ReplyIs y g v a r = record {
        node = sym h.stands.me;
        inc = h.stands.inc;
        view = h.stands.view;
        sent = inl refl;
        seen = seen;
        part = carries_on x y o s.views.view (x.nodes n).list (part_of g (own_parts s)) seen (own_carries x g s.views.view (x.nodes n).list s h.order h.row_is.list h.row_is.stable);
        names = own_differ s h.order;
      } in
      let e : Exchange = with_answer (opened v mask) a in
      let gathering : Gathers y g n s.views.inc s.views.view v e = record {
        view = refl;
        coord = coord;
        inc_of = inc;
        later = later;
        lt = lt;
        answers = a ∷ [];
        made = refl;
        replies = r ∷ [];
        members = λ i. member (h.stands.me i) (sym h.stands.inc i) ∷ [];
        shown = λ b i. (r, inl refl, subst (λ c. ReplyIs y g v c r) (sym (only_one a b i)) reply);
        came = λ q i. (a, inl refl, subst (λ c. ReplyIs y g v a c) (sym (only_one r q i)) reply);
        own = (a, inl refl, h.stands.me, refl);
        single = λ b c i j q. only_one a b i ∙ sym (only_one a c j);
        asked = λ b i. subst (λ (z : Answer). has_node mask z.node ≡ true) (sym (only_one a b i)) there;
        asks = h.asks ∙ ap not free;
      } in
      let views : Views = record (s.views) { gathering = Some e } in
      let stands : Stands y n views = record { me = h.stands.me; up = h.stands.up; inc = h.stands.inc; view = h.stands.view; promise = h.stands.promise; seated = h.stands.seated } in
      tied_on g w n s t (record s { views = views }) y (Answers x.nodes x.ps x.all x.leads x.bases n (x.nodes n) v t.life refl up le lt') t.lines t.placed (packet_turns w n s.views.view s.records s.sessions x.ps t.turns (group.Answer v r) (λ a b c d e. cc)) (rest_on x y n (spares n) g (is_fixed s.config.mode) s.views views (row_of s g) s.groups s.sessions s.names stands refl refl refl refl gathering h, t.own.1, t.own.2) (λ m ne. spares m) (λ m ne. refl) (λ p i. shows_on x y o g p (t.packets p i)) (sound_on x y (packet_still x (group.Answer v r) (λ e. absurd (omega arith)) (λ e. absurd (omega arith))) g t.sound)

pub prepares_tied : (g : List ℕ) (w : Scene) (n : ℕ) (v : ViewId) (mask : Mask) (ns : List ℕ) (s : Core) → is_fixed s.config.mode ≡ false → Tied g w n s → Tied g w n (fold (λ c (x : ViewSend). sent c x.to (body.View x.packet)) s (map (λ m. record { to = m; packet = view.Prepare v mask }) ns))
unfolding sent send_on
prepares_tied g w n v mask [] s free t = t
prepares_tied g w n v mask (m ∷ ns) s free t =
    prepares_tied g w n v mask ns (sent s m (body.View (view.Prepare v mask))) free (tied_sent g w n s t m (body.View (view.Prepare v mask)) (t.own.0.asks ∙ ap not free))

-- the next view is promised, and the own answer gathered for it
module _ (mask : Mask) (g : List ℕ) (w : Scene) (n : ℕ) (s : Core) (t : Tied g w n s) where
  k : Whole (opening_of w.config) t.ghost.nodes t.ghost.ps t.ghost.all t.ghost.leads t.ghost.bases
  k = whole t.life

  below : Le s.views.view s.views.promise
  below = subst (λ (z : ViewId × ViewId). Le z.0 z.1) (λ i. (t.own.0.stands.view i, t.own.0.stands.promise i)) (k.good.inv.node n).below

  begun : 0 < s.views.view.number
  begun = subst (λ (z : ViewId). 0 < z.number) t.own.0.stands.view ((k.good.past.seated n).was (subst (λ j. 0 < j) (sym t.own.0.stands.inc) t.own.0.stands.up)).1

  later : 1 < (next_view s.views).number
  unfolding next_view
  later = let a = number_least s.views.view s.views.promise below in let b = begun in omega arith

  pub next_promised : is_fixed s.config.mode ≡ false → Tied g w n (record s { views = record (s.views) { promise = next_view s.views; gathering = None } })
  next_promised free = tied_promised g w n s t (next_view s.views) (t.own.0.asks ∙ ap not free) (next_later s.views)

  coord_is : (next_view s.views).coord ≡ s.views.me
  unfolding next_view
  coord_is = refl

  inc_is : (next_view s.views).inc ≡ s.views.inc
  unfolding next_view
  inc_is = refl

  pub opened_tied : is_fixed s.config.mode ≡ false → has_node mask s.views.me ≡ true → Tied g w n (record s { views = record (s.views) { promise = next_view s.views; gathering = Some (with_answer (opened (next_view s.views) mask) (own_answer s.views (own_parts s))) } })
  unfolding own_parts held_rows
  opened_tied free there =
      opens_tied g w n (record s { views = record (s.views) { promise = next_view s.views; gathering = None } }) (next_promised free) mask free there (coord_is ∙ t.own.0.stands.me) inc_is later (le_lt_trans s.views.view s.views.promise (next_view s.views) below (next_later s.views))

-- asking for the next view, where others are asked too
pub asks_tied : (mask : Mask) (g : List ℕ) (w : Scene) (n : ℕ) (f : Answering) (s : Core) → is_fixed s.config.mode ≡ false → all_answered (with_answer (opened (next_view s.views) mask) (own_answer s.views (own_parts s))) ≡ false → Tied g w n s → Tied g w n (views_taken f s (ask_rule (views_at_work s.views) mask (own_parts s)))
unfolding ask_rule ask_if may_ask ask_others gather_on gathered gathering_set view_sent_all promised views_taken apply_install
asks_tied mask g w n f s free more t = by (may_ask s.views mask) refl
  where
    asks : (b : Bool) → has_node mask s.views.me ≡ true → Tied g w n (views_taken f s (ask_others (views_at_work s.views) (next_view s.views) mask (own_parts s) b))
    asks false there = next_promised mask g w n s t free
    asks true there =
        let ns : List ℕ = filter (λ m. not (m == s.views.me)) (nodes_of mask) in
        let done = prepares_tied g w n (next_view s.views) mask ns (record s { views = record (s.views) { promise = next_view s.views; gathering = Some (with_answer (opened (next_view s.views) mask) (own_answer s.views (own_parts s))) } }) free (opened_tied mask g w n s t free there) in
        subst (λ b. Tied g w n (views_taken f s (gathered (view_sent_all (promised (views_at_work s.views) (next_view s.views)) ns (view.Prepare (next_view s.views) mask)) (with_answer (opened (next_view s.views) mask) (own_answer s.views (own_parts s))) b))) (sym more) done

    by : (b : Bool) → may_ask s.views mask ≡ b → Tied g w n (views_taken f s (ask_if (views_at_work s.views) mask (own_parts s) b))
    by false e = t
    by true e =
        asks (nat_le (length (own_parts s)) max_parts) (and_parts (has_node mask s.views.me) (nat_lt (max s.views.promise.number s.views.floor) last_u32) e).0

pub ask_is_tied : (mask : Mask) (g : List ℕ) (w : Scene) (n : ℕ) (f : Answering) (s : Core) → all_answered (with_answer (opened (next_view s.views) mask) (own_answer s.views (own_parts s))) ≡ false → Tied g w n s → Tied g w n (take_order f s mask)
unfolding take_order
ask_is_tied mask g w n f s more t = by (is_fixed s.config.mode) refl
  where
    by : (a : Bool) → is_fixed s.config.mode ≡ a → Tied g w n (elim a [ true ↦ s | false ↦ views_taken f s (ask_rule (views_at_work s.views) mask (own_parts s)) ])
    by true q = t
    by false q = asks_tied mask g w n f s q more t
