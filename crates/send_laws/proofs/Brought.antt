-- The begin_install that packets let a node enter: an install that was sent, and one that answers made that were sent. By the
-- relation of all groups they have room, and their lists are of groups that differ.
use Rattle.std.proofs.Common.{◌≡◌, ◌≤◌, ℕ, List, [], ◌∷◌, length, map, Option, Some, None, Bool, true, false, cond, refl, sym, ap, ◌∙◌, subst, inl, inr}
use Rattle.std.specs.Prelude.{◌==◌, ◌&&◌, not, nat_le, find}
use Rattle.std.specs.Str.{bytes_eq}
use Rattle.std.proofs.lemmas.Bool.{and_parts}
use Rattle.rsct_packet.specs.declared.ids.ViewId.{ViewId}
use Rattle.rsct_packet.specs.Ids.{same_view, view_lt, is_member}
use Rattle.rsct_packet.specs.Mask.{has_node, with_node}
use Rattle.rsct_packet.specs.Search.{Has}
use Rattle.rsct_packet.proofs.HasLaws.{find_has, append_has_right}
use Rattle.view_state.specs.declared.answer.Answer.{Answer}
use Rattle.view_state.specs.declared.exchange.Exchange.{Exchange}
use Rattle.view_state.specs.declared.install.Part.{Part}
use Rattle.view_state.specs.declared.install.Source.{Source}
use Rattle.view_state.specs.declared.install.Install.{Install}
use Rattle.view_state.specs.declared.install.Base.{Base}
use Rattle.view_state.specs.Answers.{max_parts, may_answer, with_answer, all_answered, install_of, is_spelled}
use Rattle.view_state.specs.Bases.{parts_in, source_at, parts_from, bases_of, base_named}
use Rattle.view_exchange.specs.Longest.{NamesDiffer, CarriesLongest, IsLongest, Brings}
use Rattle.view_exchange.proofs.Longest.{longest_are_carried}
use Rattle.view_state.specs.declared.packet.ViewPacket.{ViewPacket}
use Rattle.view_state.specs.declared.packet.ViewPacket.TheVariants as view
use Rattle.view_state.specs.declared.views.ViewWork.{ViewWork}
use Rattle.view_state.specs.Views.{views_at_work, view_sent, gathering_set, promised, begin_install, gathered, gather_on, answered, prepare, prepare_rule, answer_to, answer_rule, refused_by, refuse_to, refuse_rule, installed, install_rule, taken_rule}
use Rattle.node_state.specs.declared.packet.Body.{Body}
use Rattle.node_state.specs.declared.packet.Body.TheVariants as body
use Rattle.node_state.specs.declared.packet.Packet.{Packet}
use Rattle.node_state.specs.declared.state.Core.{Core}
use Rattle.node_state.specs.Applying.{own_parts, base_row}
use Rattle.node_state.specs.State.{InNameOrder}
use Rattle.node_state.proofs.NameOrder.{text_same, text_self, after_has}
use Rattle.step_refinement.specs.Ghost.{Ghost, ReplyIs, Gathers, BaseIsOf, Installs}
use Rattle.step_refinement.specs.Tied.{ShowsBody, Scene, Tied}
use Rattle.step_refinement.proofs.BaseOrder.{bases_ordered}
use Rattle.step_refinement.proofs.Gatherings.{counted_tied}
use Rattle.step_refinement.proofs.Sides.{SourcesAre}
use Rattle.step_refinement.proofs.Replies.{sources}
use Rattle.send_laws.specs.Bound.{Room, Fine, FineIf, brought_by, brought_in}
use Rattle.send_laws.specs.Lasting.{Counted, GatheredIf, FewBody}
use Rattle.send_laws.proofs.ViewKeeps.{counted_more, counted_few}
use Rattle.send_laws.proofs.BaseRooms.{PartsRoom, bases_room}
use Rattle.send_laws.proofs.Asking.{not_before}
use Rattle.send_laws.proofs.Bases.{BasesRoom}
use Rattle.send_laws.proofs.Bases as life
use Rattle.send_laws.proofs.Nodes.{carried_room}

-- ---- what an install carries

has_row : (b : Base) (bs : List Base) → Has b bs → Has (base_row b) (map base_row bs)
has_row b [] h = absurd h
has_row b (a ∷ bs) (inl e) = inl (ap base_row e)
has_row b (a ∷ bs) (inr h) = inr (has_row b bs h)

-- a base is found by its name
named_base : (bs : List Base) (b : Base) → InNameOrder (map base_row bs) → Has b bs → base_named bs b.name ≡ Some b
unfolding base_named base_row
named_base [] b o h = absurd h
named_base (a ∷ bs) b o (inl e) =
    ap (λ t. cond t (Some a) (base_named bs b.name)) (ap (λ (z : Base). bytes_eq z.name b.name) (sym e) ∙ text_self b.name) ∙ ap (λ z. Some z) (sym e)
named_base (a ∷ bs) b o (inr h) = by (bytes_eq a.name b.name) refl (named_base bs b o.1 h)
  where
    by : (t : Bool) → bytes_eq a.name b.name ≡ t → base_named bs b.name ≡ Some b → cond t (Some a) (base_named bs b.name) ≡ Some b
    by true e k =
        absurd (not_before a.name b.name (text_same a.name b.name e) (after_has a.name (map base_row bs) (base_row b) o.0 (has_row b bs h)))
    by false e k = k

parts_apart : (i : Install) (v : ViewId) → ((x : Source) → Has x i.sources → NamesDiffer x.parts) → NamesDiffer (parts_from i v)
unfolding parts_from source_at
parts_apart i v names = by (find (λ (s : Source). same_view s.view v) i.sources) refl
  where
    by : (o : Option Source) → find (λ (s : Source). same_view s.view v) i.sources ≡ o → NamesDiffer (parts_in o)
    by None e = tt
    by (Some x) e = names x (find_has (λ (s : Source). same_view s.view v) i.sources x e).0

-- ---- an install that was sent

based_room : (x : Ghost) (i : Install) (o : Option Base) (b : Base) → BasesRoom x.bases → BaseIsOf x i.view i.members o → o ≡ Some b → Room b.state
based_room x i None b h k e = absurd cc
based_room x i (Some a) b h k e =
    let z : a ≡ b = cc in subst (λ (y : Base). Room y.state) z (h i.view (record { old = a.from; len = a.len; state = a.state }) k.0)

module _ (w : Scene) (n : ℕ) (s : Core) (all : (g : List ℕ) → Tied g w n s) where
  sent_fine : (p : Packet) (i : Install) → p.body ≡ body.View (view.Install i) → Has p w.sent → length i.members ≤ 32 → Fine s.views.view i
  sent_fine p i is delivered few =
      record {
        few = few;
        room = λ b h. let t : Tied b.name w n s = all b.name in
            based_room t.ghost i (base_named (bases_of i) b.name) b (life.bases_room t.life) (shown b.name).base (named_base (bases_of i) b (bases_ordered i) h);
        apart = parts_apart i s.views.view (shown []).names;
      }
    where
      shown : (g : List ℕ) → Installs (all g).ghost g i
      shown g = subst (ShowsBody (all g).ghost g p.from p.inc p.to) is ((all g).packets p (append_has_right p s.sends w.sent delivered))

-- ---- an install that answers made

module _ (n inc : ℕ) (v promise : ViewId) (e : Exchange) (few : length e.members ≤ 32) (ghost : (g : List ℕ) → Ghost) (rooms : (g : List ℕ) → BasesRoom (ghost g).bases) (all : (g : List ℕ) → Gathers (ghost g) g n inc v promise e) where
  answered_names : (g : List ℕ) (a : Answer) → Has a (all g).answers → NamesDiffer a.parts
  answered_names g a k = ((all g).shown a k).2.names

  longest : (g : List ℕ) → CarriesLongest (all g).answers (install_of e)
  unfolding install_of
  longest g =
      subst (λ (z : Exchange). CarriesLongest (all g).answers (install_of z)) (sym (all g).made) (longest_are_carried promise e.asked (all g).answers (answered_names g))

  source_list : (g : List ℕ) → SourcesAre (all g).answers (install_of e).sources
  source_list g = sources (ghost g) g n inc v promise e (all g)

  -- each part was brought by an answer, which shows a list of its group
  made_room : PartsRoom (install_of e)
  made_room x i p j =
      let g : List ℕ = p.name in
      let l : IsLongest (all g).answers x.view p = (longest g).longest x i p j in
      let b : Brings (all g).answers x.view l.node p = l.brought in
      let r = (all g).shown b.answer b.came in
      let shown : ReplyIs (ghost g) g promise b.answer r.0 = r.2 in
      carried_room (ghost g) b.answer.view r.0.list b.answer.parts p (rooms g) shown.names b.part shown.part

  made_few : length (install_of e).members ≤ 32
  unfolding install_of
  made_few = few

  pub made_fine : (u : ViewId) → Fine u (install_of e)
  made_fine u =
      record {
        few = made_few;
        room = bases_room (install_of e) (source_list []).ascend made_room;
        apart = parts_apart (install_of e) u (source_list []).differ;
      }

-- ---- what packets bring

prepare_none : (w : ViewWork) (from inc : ℕ) (v : ViewId) (parts : List Part) (a b c : Bool) → (prepare w v parts a b c).install ≡ w.install
unfolding prepare answered promised view_sent
prepare_none w from inc v parts true b c = by (nat_le (length parts) max_parts)
  where
    by : (d : Bool) → (elim d as (λ _. ViewWork) [ true ↦ view_sent (promised w v) v.coord (view.Answer v w.views.view parts) | false ↦ promised w v ]).install ≡ w.install
    by true = refl
    by false = refl
prepare_none w from inc v parts false true c = by (nat_le (length parts) max_parts)
  where
    by : (d : Bool) → (elim d as (λ _. ViewWork) [ true ↦ view_sent w v.coord (view.Answer v w.views.view parts) | false ↦ w ]).install ≡ w.install
    by true = refl
    by false = refl
prepare_none w from inc v parts false false true = refl
prepare_none w from inc v parts false false false = refl

refuse_none : (w : ViewWork) (v : ViewId) (n : ℕ) (o : Option Exchange) → (refuse_to w v n o).install ≡ w.install
unfolding refuse_to refused_by
refuse_none w v n None = refl
refuse_none w v n (Some g) = by (same_view g.view v)
  where
    by : (b : Bool) → (elim b as (λ _. ViewWork) [ true ↦ refused_by w n | false ↦ w ]).install ≡ w.install
    by true = refl
    by false = refl

nothing_fine : (v : ViewId) (o : Option Install) → o ≡ None → FineIf v o
nothing_fine v o e = subst (FineIf v) (sym e) tt

module _ (w : Scene) (n : ℕ) (s : Core) (all : (g : List ℕ) → Tied g w n s) (gathering : GatheredIf s.views.gathering) where
  -- ANSWER
  answers_fine : (v old : ViewId) (parts : List Part) (p : Packet) → p.body ≡ body.View (view.Answer v old parts) → Has p w.sent → FineIf s.views.view (answer_rule (views_at_work s.views) v (record { node = p.from; inc = p.inc; view = old; parts = parts })).install
  unfolding answer_rule answer_to gather_on gathered gathering_set begin_install
  answers_fine v old parts p is delivered = by s.views.gathering refl gathering
    where
      a : Answer
      a = record { node = p.from; inc = p.inc; view = old; parts = parts }

      made : (e : Exchange) → s.views.gathering ≡ Some e → Counted e → (same_view e.view v && may_answer e p.from) ≡ true → Fine s.views.view (install_of (with_answer e a))
      made e q c r =
          let t : (g : List ℕ) → Tied g w n (record s { views = record (s.views) { gathering = Some (with_answer e a) } }) = λ g. counted_tied v old parts g w n s p is delivered e q r (all g) in
          made_fine n s.views.inc s.views.view s.views.promise (with_answer e a) (counted_few (with_answer e a) (counted_more e a (and_parts (same_view e.view v) (may_answer e p.from) r).1 c)) (λ g. (t g).ghost) (λ g. life.bases_room (t g).life) (λ g. (t g).own.0.gathering) s.views.view

      spelled : (e : Exchange) (b : Bool) → Fine s.views.view (install_of e) → FineIf s.views.view (begin_install (gathering_set (views_at_work s.views) None) (install_of e) b).install
      spelled e false f = tt
      spelled e true f = f

      last : (e : Exchange) (b : Bool) → Fine s.views.view (install_of e) → FineIf s.views.view (gathered (views_at_work s.views) e b).install
      last e false f = tt
      last e true f = spelled e (is_spelled (install_of e)) f

      at : (e : Exchange) → s.views.gathering ≡ Some e → Counted e → (b : Bool) → (same_view e.view v && may_answer e p.from) ≡ b → FineIf s.views.view (elim b as (λ _. ViewWork) [ true ↦ gather_on (views_at_work s.views) (with_answer e a) | false ↦ views_at_work s.views ]).install
      at e q c false r = tt
      at e q c true r = last (with_answer e a) (all_answered (with_answer e a)) (made e q c r)

      by : (o : Option Exchange) → s.views.gathering ≡ o → GatheredIf o → FineIf s.views.view (answer_to (views_at_work s.views) v a o).install
      by None q k = tt
      by (Some e) q k = at e q k.counted (same_view e.view v && may_answer e p.from) refl

  -- INSTALL
  installs_fine : (i : Install) (p : Packet) → p.body ≡ body.View (view.Install i) → Has p w.sent → length i.members ≤ 32 → FineIf s.views.view (install_rule (views_at_work s.views) i).install
  unfolding install_rule installed view_sent
  installs_fine i p is delivered few =
      by (same_view s.views.view i.view) (same_view s.views.promise i.view && is_member i.members s.views.me s.views.inc)
    where
      by : (b c : Bool) → FineIf s.views.view (installed (views_at_work s.views) i b c).install
      by true c = tt
      by false true = sent_fine w n s all p i is delivered few
      by false false = tt

  takes_none : (from : ℕ) (v : ViewId) → (taken_rule (views_at_work s.views) from v).install ≡ None
  unfolding taken_rule
  takes_none from v = by (same_view s.views.view v)
    where
      by : (b : Bool) → (elim b as (λ _. ViewWork) [ true ↦ record (views_at_work s.views) { views = record (s.views) { taken = with_node s.views.taken from } } | false ↦ views_at_work s.views ]).install ≡ None
      by true = refl
      by false = refl

  view_fine : (x : ViewPacket) (p : Packet) → p.body ≡ body.View x → Has p w.sent → FewBody (body.View x) → FineIf s.views.view (brought_by s p.from p.inc x)
  unfolding brought_by prepare_rule refuse_rule
  view_fine (view.Prepare v mask) p is delivered few =
      let asked : Bool = v.coord == p.from && v.inc == p.inc && has_node mask s.views.me in
      nothing_fine s.views.view (prepare_rule (views_at_work s.views) p.from p.inc v mask (own_parts s)).install (prepare_none (views_at_work s.views) p.from p.inc v (own_parts s) (asked && view_lt s.views.promise v) (asked && same_view v s.views.promise && not (same_view v s.views.view)) (view_lt v s.views.promise))
  view_fine (view.Answer v old parts) p is delivered few = answers_fine v old parts p is delivered
  view_fine (view.Refuse v k) p is delivered few =
      nothing_fine s.views.view (refuse_rule (views_at_work s.views) v k).install (refuse_none (views_at_work s.views) v k s.views.gathering)
  view_fine (view.Install i) p is delivered few = installs_fine i p is delivered few
  view_fine (view.Taken v) p is delivered few =
      nothing_fine s.views.view (taken_rule (views_at_work s.views) p.from v).install (takes_none p.from v)

  pub body_fine : (b : Body) (p : Packet) → p.body ≡ b → Has p w.sent → FewBody b → FineIf s.views.view (brought_in s p b)
  unfolding brought_in
  body_fine (body.View x) p is delivered few = view_fine x p is delivered few
  body_fine (body.Ring x) p is delivered few = tt
  body_fine (body.Report rows) p is delivered few = tt
  body_fine (body.Lookup v g) p is delivered few = tt
  body_fine (body.Name v g k) p is delivered few = tt
  body_fine (body.Request v g q r phases x) p is delivered few = tt
  body_fine (body.Tell v g q r y) p is delivered few = tt
  body_fine (body.Entry v g place stable e) p is delivered few = tt
  body_fine (body.Ack v g k) p is delivered few = tt
  body_fine (body.Vote v g proto phase q vote value message) p is delivered few = tt
  body_fine (body.Gone v g q) p is delivered few = tt
  body_fine (body.Query question what) p is delivered few = tt
  body_fine (body.Reply question text) p is delivered few = tt
