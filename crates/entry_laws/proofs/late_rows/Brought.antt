-- What an install brings to a list was put before.
use Rattle.std.proofs.Common.{◌≡◌, ◌≤◌, ◌<◌, ◌⊎◌, ℕ, ◌+◌, List, [], ◌∷◌, ◌++◌, length, drop, Option, Some, None, Bool, true, false, refl, sym, ap, ◌∙◌, subst, inl, inr, ⊎_elim, arith}
use Rattle.std.specs.Prelude.{reverse, slice_get, if◌then◌else◌}
use Rattle.std.specs.Str.{bytes_eq}
use Rattle.std.proofs.lemmas.List.{length-drop, drop_all}
use Rattle.std.proofs.lemmas.Bool.{cases_lt}
use Rattle.rsct_packet.specs.declared.ids.ViewId.{ViewId}
use Rattle.rsct_packet.specs.Ids.{same_view}
use Rattle.rsct_packet.specs.Search.{Has}
use Rattle.rsct_packet.proofs.HasLaws.{has_append, find_has}
use Rattle.proposal_core.specs.declared.entry.Entry.{Entry}
use Rattle.view_state.specs.declared.install.Source.{Source}
use Rattle.view_state.specs.declared.install.Install.{Install}
use Rattle.view_state.specs.declared.exchange.Exchange.{Exchange}
use Rattle.view_state.specs.Answers.{install_of}
use Rattle.view_state.specs.Bases.{source_at, parts_in, parts_from}
use Rattle.view_exchange.specs.Longest.{NamesDiffer}
use Rattle.node_state.specs.declared.happened.Happened.{Happened}
use Rattle.node_state.specs.declared.happened.Happened.TheVariants as happened
use Rattle.node_state.specs.declared.state.Core.{Core}
use Rattle.node_state.specs.State.{row_of, list_of, len_of}
use Rattle.node_state.specs.Applying.{Lacking, lacking_in, lacking}
use Rattle.run_safety.specs.Past.{History, records_of, earlier, view_now}
use Rattle.run_safety.specs.Group.{Put, Line, Reply, kept}
use Rattle.run_safety.specs.Group as group
use Rattle.run_safety.specs.Sight.{told_in, lines_at, lines_with, lines_of}
use Rattle.run_safety.proofs.SightLaws.{kept_append}
use Rattle.run_safety.proofs.Prefix.{IsPrefix, prefix_nil, prefix_get}
use Rattle.run_safety.proofs.Whole.{Whole}
use Rattle.run_safety.proofs.Lives.{whole}
use Rattle.node_state.proofs.NameOrder.{text_same}
use Rattle.step_refinement.specs.Ghost.{Keeps, CarriesIf, part_of, GathersIf, Gathers, Installs}
use Rattle.step_refinement.specs.Tied.{Scene, opening_of, Tied}
use Rattle.step_refinement.proofs.ViewRules.{same_of}
use Rattle.step_refinement.proofs.RowWorks.{keeps_of, len_is}
use Rattle.step_refinement.proofs.Fills.{collected, lacking_is}
use Rattle.step_refinement.proofs.Replies as replies
use Rattle.entry_laws.proofs.source_order.Climbs.{get_there}
use Rattle.entry_laws.specs.late_rows.Late.{PutBefore}

-- ---- lines are of records

line_is : (g : List ℕ) (rs : List Happened) (m : ℕ) (v : ViewId) (i : ℕ) (f : Entry) (r : Happened) → Has (Put m v i f) (kept (lines_at g rs r)) → happened.Put m v g i f ≡ r
line_is g rs m v i f (happened.In n u ms) (inl e) = absurd (cc)
line_is g rs m v i f (happened.In n u ms) (inr z) = absurd z
line_is g rs m v i f (happened.Put n u h k d) j = by (bytes_eq h g) refl j
  where
    by : (b : Bool) → bytes_eq h g ≡ b → Has (Put m v i f) (kept (if b then group.Kept (Put n u k d) ∷ [] else [])) → happened.Put m v g i f ≡ happened.Put n u h k d
    by false e z = absurd z
    by true e (inr z) = absurd z
    by true e (inl q) =
        let a : m ≡ n = cc in
        let b : v ≡ u = cc in
        let c : i ≡ k = cc in
        let s : f ≡ d = cc in
        let t : g ≡ h = sym (text_same h g e) in (λ z. happened.Put (a z) (b z) (t z) (c z) (s z))
line_is g rs m v i f (happened.Base n u h old len s) j = absurd (by (bytes_eq h g) j)
  where
    by : (b : Bool) → Has (Put m v i f) (kept (if b then group.Noted (group.Based n u (record { old = old; len = len; state = s })) ∷ [] else [])) → ⊥
    by true z = z
    by false z = z
line_is g rs m v i f (happened.Heard p u h k d ms value) j = absurd (by (bytes_eq h g) j)
  where
    by : (b : Bool) → Has (Put m v i f) (kept (if b then group.Noted (group.Heard p u k d ms value) ∷ [] else [])) → ⊥
    by true z = z
    by false z = z
line_is g rs m v i f (happened.Asked p k h y) j = absurd (by (bytes_eq h g) j)
  where
    by : (b : Bool) → Has (Put m v i f) (kept (if b then group.Noted (group.Asked p k y) ∷ [] else [])) → ⊥
    by true z = z
    by false z = z
line_is g rs m v i f (happened.Told p k why) j = absurd (by (view_now p.node rs) j)
  where
    by : (o : Option ViewId) → Has (Put m v i f) (kept (told_in p k o)) → ⊥
    by None z = z
    by (Some u) z = z
line_is g rs m v i f _ j = absurd j

-- a line of a put is one of the records
line_back : (g : List ℕ) (m : ℕ) (v : ViewId) (i : ℕ) (f : Entry) (now : List Happened) (before : History) (all : List Line) → (Has (Put m v i f) (kept all) → Has (happened.Put m v g i f) (records_of before)) → Has (Put m v i f) (kept (lines_with g now before all)) → Has (happened.Put m v g i f) (now ++ records_of before)
line_back g m v i f [] before all old (inl e) = absurd (cc)
line_back g m v i f [] before all old (inr j) = old j
line_back g m v i f (r ∷ now) before all old j =
    ⊎_elim (λ (a : Has (Put m v i f) (kept (lines_at g (earlier now before) r))). inl (line_is g (earlier now before) m v i f r a)) (λ (b : Has (Put m v i f) (kept (lines_with g now before all))). inr (line_back g m v i f now before all old b)) (has_append (Put m v i f) (kept (lines_at g (earlier now before) r)) (kept (lines_with g now before all)) (subst (Has (Put m v i f)) (kept_append (lines_at g (earlier now before) r) (lines_with g now before all)) j))

lines_back : (g : List ℕ) (m : ℕ) (v : ViewId) (i : ℕ) (f : Entry) (h : History) → Has (Put m v i f) (kept (lines_of g h)) → Has (happened.Put m v g i f) (records_of h)
lines_back g m v i f [] j = absurd j
lines_back g m v i f (e ∷ before) j = line_back g m v i f e.records before (lines_of g before) (lines_back g m v i f before) j

-- all that a node, or an install, has of the view was put before
module _ (g : List ℕ) (w : Scene) (n : ℕ) (s : Core) (t : Tied g w n s) where
  k : Whole (opening_of w.config) t.ghost.nodes t.ghost.ps t.ghost.all t.ghost.leads t.ghost.bases
  k = whole t.life

  abbrev full : List Entry
  full = (t.ghost.nodes n).list

  abbrev Before : ViewId → ℕ → Type 0
  Before v i = PutBefore (reverse s.records ++ records_of w.before) v g i

  -- an entry of the view's list
  logged_before : (v : ViewId) (i : ℕ) (e : Entry) → slice_get (k.log v) i ≡ Some e → Before v i
  logged_before v i e q =
      let a = k.firsts.put v i e q in
      let j : Has (Put a.0 v i a.1) (kept (lines_with g (reverse s.records) w.before (lines_of g w.before))) = subst (λ l. Has (Put a.0 v i a.1) (kept l)) t.lines a.2 in
      (a.0, a.1, line_back g a.0 v i a.1 (reverse s.records) w.before (lines_of g w.before) (lines_back g a.0 v i a.1 w.before) j)

  -- an entry that was sent
  pub sent_before : (v : ViewId) (i : ℕ) (e : Entry) → Has (group.Append v i e) t.ghost.ps → Before v i
  sent_before v i e j = logged_before v i e (k.good.inv.packet (group.Append v i e) j)

  prefix_before : (v : ViewId) (xs : List Entry) → IsPrefix xs (k.log v) → (i : ℕ) → i < length xs → Before v i
  prefix_before v xs p i lt = let e = get_there xs i lt in logged_before v i e.0 (prefix_get xs (k.log v) p i e.0 e.1)

  own_prefix : IsPrefix full (k.log s.views.view)
  own_prefix = subst (λ u. IsPrefix full (k.log u)) t.own.0.stands.view (k.good.inv.node n).part

  keeps : Keeps t.ghost s.views.view full (list_of s g)
  unfolding list_of
  keeps = keeps_of t.ghost s.views.view full (row_of s g).list t.own.0.row_is.list

  -- what is put of the install, place by place
  pub record Brings (i : Install) : Type 0 where
    pub bound : ℕ
    pub put : (j : ℕ) → j < bound → Before s.views.view j
    pub fits : (xs : List Lacking) → lacking s i ≡ Some xs → len_of s g + length (collected g xs) ≤ bound

  module _ (i : Install) (all : List Entry) (part : IsPrefix all (k.log s.views.view)) (carries : (y : Source) → Has y i.sources → y.view ≡ s.views.view → CarriesIf t.ghost s.views.view all (part_of g y.parts)) (differ : (y : Source) → Has y i.sources → NamesDiffer y.parts) (none : source_at i.sources s.views.view ≡ None → all ≡ []) where
    rest_is : (xs : List Lacking) → lacking s i ≡ Some xs → collected g xs ≡ drop (length full) all
    unfolding lacking lacking_in parts_from source_at
    rest_is xs = by (source_at i.sources s.views.view) refl
      where
        by : (o : Option Source) → source_at i.sources s.views.view ≡ o → lacking_in s (parts_in o) ≡ Some xs → collected g xs ≡ drop (length full) all
        by None q e =
            let z : xs ≡ [] = cc in ap (collected g) z ∙ sym (drop_all (length full) [] (omega arith)) ∙ ap (drop (length full)) (sym (none q))
        by (Some y) q e =
            let f = find_has (λ (z : Source). same_view z.view s.views.view) i.sources y q in
            lacking_is t.ghost g full all s y.parts xs (differ y f.0) keeps (carries y f.0 (same_of y.view s.views.view f.1)) e

    brings : Brings i
    brings =
        record {
          bound = length full + length (drop (length full) all);
          put = λ j lt. by j lt (cases_lt j (length full));
          fits = λ xs e. let a = len_is g w n s t in let b : length (collected g xs) ≡ length (drop (length full) all) = ap length (rest_is xs e) in omega arith;
        }
      where
        by : (j : ℕ) → j < length full + length (drop (length full) all) → (j < length full) ⊎ (length full ≤ j) → Before s.views.view j
        by j lt (inl a) = prefix_before s.views.view full own_prefix j a
        by j lt (inr a) = let b = length-drop (length full) all in prefix_before s.views.view all part j (omega arith)

  -- an install that was sent
  pub sent_brings : (i : Install) → Installs t.ghost g i → Brings i
  sent_brings i h =
      brings i (h.whole s.views.view) ((k.good.inv.packet (group.Install i.view i.members h.whole) h.sent).sources s.views.view) (λ y j q. subst (λ u. CarriesIf t.ghost u (h.whole u) (part_of g y.parts)) q (h.parts y j)) h.names (h.rest s.views.view)

  -- an install that the coordinator makes of answers
  pub made_brings : (e : Exchange) → s.views.gathering ≡ Some e → Brings (install_of e)
  made_brings e is = brings (install_of e) (ss s.views.view) carried (λ y j q. subst (λ u. CarriesIf t.ghost u (ss u) (part_of g y.parts)) q (replies.whole_carries t.ghost g n s.views.inc s.views.view s.views.promise e h y j)) (replies.sources t.ghost g n s.views.inc s.views.view s.views.promise e h).differ (replies.whole_none t.ghost g n s.views.inc s.views.view s.views.promise e h s.views.view)
    where
      h : Gathers t.ghost g n s.views.inc s.views.view s.views.promise e
      h = subst (λ z. GathersIf t.ghost g n s.views.inc s.views.view s.views.promise z) is t.own.0.gathering

      ss : ViewId → List Entry
      ss = replies.ss t.ghost g n s.views.inc s.views.view s.views.promise e h

      replied : (r : Reply) → Has r h.replies → r.view ≡ s.views.view → r.list ≡ ss s.views.view → IsPrefix (ss s.views.view) (k.log s.views.view)
      replied r i a b =
          subst (λ (z : ViewId × List Entry). IsPrefix z.1 (k.log z.0)) (λ j. (a j, b j)) (k.good.inv.packet (group.Answer s.views.promise r) (h.came r i).2.sent).1

      carried : IsPrefix (ss s.views.view) (k.log s.views.view)
      carried =
          ⊎_elim (λ (q : ss s.views.view ≡ []). subst (λ l. IsPrefix l (k.log s.views.view)) (sym q) (prefix_nil (k.log s.views.view))) (λ (r : (r : Reply) × Has r h.replies × (r.view ≡ s.views.view) × (r.list ≡ ss s.views.view)). replied r.0 r.1 r.2 r.3) (replies.whole_one t.ghost g n s.views.inc s.views.view s.views.promise e h s.views.view)
