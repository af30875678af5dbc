-- What a coordinator has gathered, as an install carries it: the list of a group that is carried from each old view is the
-- longest of the answers from there, and the group's base is that of the install.
use Rattle.std.proofs.Common.{◌≡◌, ◌⊎◌, ◌≤◌, ◌<◌, ℕ, List, [], ◌∷◌, length, drop, Option, Some, None, Bool, true, false, cond, refl, sym, ap, ◌∙◌, subst, inl, inr, ⊎_elim, length-drop, arith}
use Rattle.std.specs.Prelude.{◌==◌, ◌&&◌, ◌||◌, not, map, filter, find, fold, is_some}
use Rattle.std.specs.Option.{option_map}
use Rattle.std.specs.Str.{bytes_eq}
use Rattle.std.proofs.lemmas.Bool.{eqb-true, eq-eqb, and_parts}
use Rattle.std.proofs.lemmas.Bool.Decides.{nat_tests}
use Rattle.rsct_packet.specs.declared.ids.ViewId.{ViewId}
use Rattle.rsct_packet.specs.declared.ids.Member.{Member}
use Rattle.rsct_packet.specs.declared.ids.ProviderId.{ProviderId}
use Rattle.rsct_packet.specs.Ids.{same_view, is_member}
use Rattle.rsct_packet.specs.Lists.{is_empty, best_of}
use Rattle.rsct_packet.specs.Mask.{has_node}
use Rattle.rsct_packet.specs.Providers.{same_provider, among}
use Rattle.rsct_packet.specs.Search.{Has}
use Rattle.rsct_packet.specs.Text.{name_lt}
use Rattle.rsct_packet.proofs.HasLaws.{append_has_left, find_has}
use Rattle.rsct_packet.proofs.MaskLaws.{has_is_node}
use Rattle.proposal_core.specs.declared.entry.Entry.{Entry}
use Rattle.proposal_core.specs.declared.group_state.GroupState.{GroupState}
use Rattle.proposal_core.specs.Fold.{empty_state, present, joiners_in}
use Rattle.view_state.specs.declared.answer.Answer.{Answer}
use Rattle.view_state.specs.declared.exchange.Exchange.{Exchange}
use Rattle.view_state.specs.declared.install.Part.{Part}
use Rattle.view_state.specs.declared.install.Source.{Source}
use Rattle.view_state.specs.declared.install.Install.{Install}
use Rattle.view_state.specs.declared.install.Base.{Base}
use Rattle.view_state.specs.Parts.{part_len}
use Rattle.view_state.specs.Answers.{source_of, install_of}
use Rattle.view_state.specs.Bases.{Candidate, candidates, beats, source_at, is_live_from, leader_from, base_from, base_of_best, base_of, with_name, names_in, bases_for, bases_of, base_named, IsCandidate, IsBaseOf}
use Rattle.view_state.specs.Bases as exchange
use Rattle.view_exchange.specs.Longest.{Brings, NoWorse, CarriesLongest, NamesDiffer}
use Rattle.view_bases.proofs.Bases.{base_is, leader_found, leader_none}
use Rattle.view_exchange.proofs.Longest.{longest_are_carried}
use Rattle.run_safety.specs.ViewOrder.{is_before, is_same, Lt, Le}
use Rattle.run_safety.specs.Group.{member, members_of, Standing, Reply, Origin}
use Rattle.run_safety.specs.Group as group
use Rattle.run_safety.specs.Bases.{base_state, state_of_list, side_state, is_candidate, is_live, live_count, Wins, BaseIs, leading, leader_of}
use Rattle.run_safety.specs.Moves.{Longest, Collected}
use Rattle.run_safety.proofs.Order.{eq_true, eq_same}
use Rattle.run_safety.proofs.Past.{member_reply, reply_member}
use Rattle.run_safety.proofs.Tests.{any_has, has_any}
use Rattle.step_refinement.specs.Ghost.{Ghost, Seen, Carries, CarriesIf, part_of, Gathers, origin_of}
use Rattle.node_state.proofs.NameOrder.{text_same, text_self}
use Rattle.step_refinement.proofs.BaseOrder.{base_name}
use Rattle.step_refinement.proofs.Acks.{has_member}
use Rattle.step_refinement.proofs.ViewRules.{same_of}
use Rattle.step_refinement.proofs.Sides.{SourcesAre, sources_are, and_true, or_right}

-- ---- small laws

not_true_is : (b : Bool) → (b ≡ true → ⊥) → b ≡ false
not_true_is true h = absurd (h refl)
not_true_is false h = refl

both_ways : (a b : Bool) → (a ≡ true → b ≡ true) → (b ≡ true → a ≡ true) → a ≡ b
both_ways true true f g = refl
both_ways true false f g = sym (f refl)
both_ways false true f g = g refl
both_ways false false f g = refl

some_is : {A : Type 0} (a b : A) → Some a ≡ Some b → a ≡ b
some_is a b e = cc

some_not : {A : Type 0} (a : A) → None ≡ Some a → ⊥
some_not a e = cc

-- the part of a name, where names differ
pub part_is : (g : List ℕ) (ps : List Part) (p : Part) → NamesDiffer ps → Has p ps → p.name ≡ g → part_of g ps ≡ Some p
part_is g [] p d h e = absurd h
part_is g (q ∷ ps) p d (inl s) e =
    ap (λ b. cond b (Some q) (part_of g ps)) (ap (λ (z : Part). bytes_eq z.name g) (sym s) ∙ subst (λ z. bytes_eq z g ≡ true) (sym e) (text_self g)) ∙ ap (λ z. Some z) (sym s)
part_is g (q ∷ ps) p d (inr h) e =
    ap (λ b. cond b (Some q) (part_of g ps)) (not_true_is (bytes_eq q.name g) (λ t. d.0 p h (e ∙ sym (text_same q.name g t)))) ∙ part_is g ps p d.1 h e

part_has : (g : List ℕ) (ps : List Part) (p : Part) → part_of g ps ≡ Some p → Has p ps × (p.name ≡ g)
part_has g ps p e = let k = find_has (λ (q : Part). bytes_eq q.name g) ps p e in (k.0, text_same p.name g k.1)

-- a part that shows a list is as long as it
pub carries_len : (x : Ghost) (v : ViewId) (full : List Entry) (p : Part) → Carries x v full p → part_len p ≡ length full
carries_len x v full p h =
    let a : length p.entries ≡ length (drop p.start full) = ap length h.entries in
    let b = length-drop p.start full in
    let c = h.starts in omega arith

-- ---- names of bases

has_with_name : (m : List ℕ) (ns : List (List ℕ)) (p : Part) → Has m ns ⊎ (m ≡ p.name) → Has m (with_name ns p)
unfolding with_name
has_with_name m [] p (inl h) = absurd h
has_with_name m [] p (inr e) = inl e
has_with_name m (n ∷ ns) p h = by (name_lt p.name n) (bytes_eq p.name n) refl h (has_with_name m ns p)
  where
    by : (b c : Bool) → bytes_eq p.name n ≡ c → ((m ≡ n) ⊎ Has m ns) ⊎ (m ≡ p.name) → (Has m ns ⊎ (m ≡ p.name) → Has m (with_name ns p)) → Has m (elim b as (λ _. List (List ℕ)) [ true ↦ p.name ∷ n ∷ ns | false ↦ elim c as (λ _. List (List ℕ)) [ true ↦ n ∷ ns | false ↦ n ∷ with_name ns p ] ])
    by true c q (inl k) more = inr k
    by true c q (inr e) more = inl e
    by false true q (inl k) more = k
    by false true q (inr e) more = inl (e ∙ text_same p.name n q)
    by false false q (inl (inl e)) more = inl e
    by false false q (inl (inr k)) more = inr (more (inl k))
    by false false q (inr e) more = inr (more (inr e))

has_with_names : (m : List ℕ) (ps : List Part) (ns : List (List ℕ)) → Has m ns → Has m (fold with_name ns ps)
has_with_names m [] ns h = h
has_with_names m (p ∷ ps) ns h = has_with_names m ps (with_name ns p) (has_with_name m ns p (inl h))

has_new_name : (p : Part) (ps : List Part) (ns : List (List ℕ)) → Has p ps → Has p.name (fold with_name ns ps)
has_new_name p [] ns h = absurd h
has_new_name p (q ∷ ps) ns (inl e) =
    has_with_names p.name ps (with_name ns q) (has_with_name p.name ns q (inr (ap (λ (z : Part). z.name) e)))
has_new_name p (q ∷ ps) ns (inr h) = has_new_name p ps (with_name ns q) h

has_all_names : (m : List ℕ) (ss : List Source) (ns : List (List ℕ)) → Has m ns → Has m (fold (λ ns (s : Source). fold with_name ns s.parts) ns ss)
has_all_names m [] ns h = h
has_all_names m (s ∷ ss) ns h = has_all_names m ss (fold with_name ns s.parts) (has_with_names m s.parts ns h)

has_source_name : (s : Source) (p : Part) (ss : List Source) (ns : List (List ℕ)) → Has s ss → Has p s.parts → Has p.name (fold (λ ns (s : Source). fold with_name ns s.parts) ns ss)
has_source_name s p [] ns h k = absurd h
has_source_name s p (t ∷ ss) ns (inl e) k =
    has_all_names p.name ss (fold with_name ns t.parts) (has_new_name p t.parts ns (subst (λ (z : Source). Has p z.parts) e k))
has_source_name s p (t ∷ ss) ns (inr h) k = has_source_name s p ss (fold with_name ns t.parts) h k

-- a group without a base has none among them
none_named : (i : Install) (g : List ℕ) (ns : List (List ℕ)) → base_of i g ≡ None → base_named (bases_for i ns) g ≡ None
unfolding bases_for base_named
none_named i g [] e = refl
none_named i g (n ∷ ns) e = by (base_of i n) refl (none_named i g ns e)
  where
    by : (o : Option Base) → base_of i n ≡ o → find (λ (b : Base). bytes_eq b.name g) (bases_for i ns) ≡ None → find (λ (b : Base). bytes_eq b.name g) (elim o as (λ _. List Base) [ None ↦ bases_for i ns | Some b ↦ b ∷ bases_for i ns ]) ≡ None
    by None q more = more
    by (Some b) q more =
        ap (λ t. cond t (Some b) (find (λ (b : Base). bytes_eq b.name g) (bases_for i ns))) (not_true_is (bytes_eq b.name g) (λ t. let same : n ≡ g = sym (base_name i n b q) ∙ text_same b.name g t in some_not b (sym e ∙ ap (base_of i) (sym same) ∙ q))) ∙ more

one_named : (i : Install) (g : List ℕ) (b : Base) (ns : List (List ℕ)) → base_of i g ≡ Some b → Has g ns → base_named (bases_for i ns) g ≡ Some b
unfolding bases_for base_named
one_named i g b [] e h = absurd h
one_named i g b (n ∷ ns) e h = by (base_of i n) refl h (one_named i g b ns e)
  where
    by : (o : Option Base) → base_of i n ≡ o → (g ≡ n) ⊎ Has g ns → (Has g ns → find (λ (b : Base). bytes_eq b.name g) (bases_for i ns) ≡ Some b) → find (λ (b : Base). bytes_eq b.name g) (elim o as (λ _. List Base) [ None ↦ bases_for i ns | Some c ↦ c ∷ bases_for i ns ]) ≡ Some b
    by None q (inl s) more = absurd (some_not b (sym q ∙ ap (base_of i) (sym s) ∙ e))
    by None q (inr k) more = more k
    by (Some c) q k more = named (bytes_eq c.name g) refl k
      where
        named : (t : Bool) → bytes_eq c.name g ≡ t → (g ≡ n) ⊎ Has g ns → cond t (Some c) (find (λ (b : Base). bytes_eq b.name g) (bases_for i ns)) ≡ Some b
        named true r k = let same : n ≡ g = sym (base_name i n c q) ∙ text_same c.name g r in sym q ∙ ap (base_of i) same ∙ e
        named false r (inl s) = absurd (let t : bytes_eq c.name g ≡ true = subst (λ z. bytes_eq z g ≡ true) (s ∙ sym (base_name i n c q)) (text_self g) in cc)
        named false r (inr k) = more k

-- ---- the base's leader

same_itself : (p : ProviderId) → same_provider p p ≡ true
same_itself p = grind (arith, nat_tests)

lost_failed : (f : ProviderId → Bool) (p : ProviderId) (xs : List ProviderId) → f p ≡ false → Has p xs → among (filter (λ q. not (f q)) xs) p ≡ true
lost_failed f p [] e h = absurd h
lost_failed f p (x ∷ xs) e h = by (f x) refl h (lost_failed f p xs e)
  where
    by : (b : Bool) → f x ≡ b → (p ≡ x) ⊎ Has p xs → (Has p xs → among (filter (λ q. not (f q)) xs) p ≡ true) → among (cond (not b) (x ∷ filter (λ q. not (f q)) xs) (filter (λ q. not (f q)) xs)) p ≡ true
    by true q (inl s) more = absurd (let z : f x ≡ false = ap f (sym s) ∙ e in cc)
    by true q (inr k) more = more k
    by false q (inl s) more = ap (λ b. b || among (filter (λ q. not (f q)) xs) p) (subst (λ z. same_provider z p ≡ true) s (same_itself p))
    by false q (inr k) more = or_right (same_provider x p) (among (filter (λ q. not (f q)) xs) p) (more k)

leader_is : (i : Install) (g : List ℕ) (b : Base) → base_of i g ≡ Some b → b.leader ≡ leader_from i.view.coord b.state.failed b.state.members
unfolding base_of base_from
leader_is i g b e = by (best_of beats (candidates i g i.sources)) e
  where
    by : (o : Option Candidate) → base_of_best i g o ≡ Some b → b.leader ≡ leader_from i.view.coord b.state.failed b.state.members
    by None e = absurd (some_not b e)
    by (Some c) e = subst (λ (z : Base). z.leader ≡ leader_from i.view.coord z.state.failed z.state.members) (some_is (base_from i g c) b e) refl

some_members : (ps : List ProviderId) → not (is_empty ps) ≡ not (length ps == 0)
some_members [] = refl
some_members (p ∷ ps) = ap not (sym (not_true_is (length (p ∷ ps) == 0) (λ e. let z : length (p ∷ ps) ≡ 0 = eqb-true (length (p ∷ ps)) 0 e in absurd (omega arith))))

candidate_is : (s : GroupState) → (not (is_empty s.members) || is_some s.running) ≡ is_candidate s
candidate_is s = ap (λ b. b || is_some s.running) (some_members s.members)

module _ (x : Ghost) (g : List ℕ) (n inc : ℕ) (v promise : ViewId) (e : Exchange) (h : Gathers x g n inc v promise e) where
  abbrev pub i : Install
  i = install_of e

  abbrev given : List Answer
  given = h.answers

  abbrev pub rs : List Reply
  rs = h.replies

  names : (a : Answer) → Has a given → NamesDiffer a.parts
  names a k = (h.shown a k).2.names

  pub sources : SourcesAre given i.sources
  unfolding install_of
  sources =
      subst (λ (z : Exchange). SourcesAre given (map source_of z.sides)) (sym h.made) (sources_are promise e.asked given names (λ a k. has_is_node e.asked a.node (h.asked a k)))

  carried : CarriesLongest given i
  unfolding install_of
  carried = subst (λ (z : Exchange). CarriesLongest given (install_of z)) (sym h.made) (longest_are_carried promise e.asked given names)

  pub view_is : i.view ≡ promise
  unfolding install_of
  view_is = h.view

  pub members_are : i.members ≡ members_of rs
  unfolding install_of
  members_are = h.members

  same_source : (s t : Source) → Has s i.sources → Has t i.sources → s.view ≡ t.view → s ≡ t
  same_source s t a b q = some_is s t (sym (sources.found s a) ∙ ap (source_at i.sources) q ∙ sources.found t b)

  -- a carried part of the group is a reply's
  record Shown (u : ViewId) (p : Part) : Type 0 where
    reply : Reply
    came : Has reply rs
    view : reply.view ≡ u
    carries : Carries x u reply.list p

  brought : (s : Source) → Has s i.sources → (p : Part) → Has p s.parts → p.name ≡ g → Shown s.view p
  brought s k p j q =
      let b = (carried.longest s k p j).brought in
      let z = h.shown b.answer b.came in
      let c : CarriesIf x b.answer.view z.0.list (Some p) = subst (CarriesIf x b.answer.view z.0.list) (part_is g b.answer.parts p z.2.names b.part q) z.2.part in
      record { reply = z.0; came = z.1; view = z.2.view ∙ b.view; carries = subst (λ u. Carries x u z.0.list p) b.view c }

  -- of each group that an answer brought something is carried
  each_part : (a : Answer) → Has a given → (q : Part) → Has q a.parts → q.name ≡ g → (s : Source) → Has s i.sources → s.view ≡ a.view → (p : Part) × (part_of g s.parts ≡ Some p) × (part_len q ≤ part_len p)
  each_part a k q j name s there view =
      let brings : Brings given a.view a.node q = record { answer = a; came = k; view = refl; node = refl; part = j } in
      let c = carried.each a.view a.node q brings in
      let same : c.source ≡ s = same_source c.source s c.there there (c.view ∙ sym view) in
      let inside : Has c.part s.parts = subst (λ (z : Source). Has c.part z.parts) same c.in_source in
      let l = carried.longest s there c.part inside in
      let worse : NoWorse c.part l.node q a.node = l.longest a.node q (subst (λ u. Brings given u a.node q) (sym view) brings) (sym c.name) in
      (c.part, part_is g s.parts c.part (sources.differ s there) inside (c.name ∙ name), ⊎_elim (λ (lt : part_len q < part_len c.part). omega arith) (λ (eq : (part_len q ≡ part_len c.part) × (l.node ≤ a.node)). let z = eq.0 in omega arith) worse)

  -- some node entered the old view
  pub source_seen : (s : Source) → Has s i.sources → Seen x s.view
  source_seen s k = let a = sources.from s k in subst (Seen x) a.2 (h.shown a.0 a.1).2.seen

  bare : (s : Source) → Has s i.sources → part_of g s.parts ≡ None → x.bases s.view ≡ None
  bare s k q =
      let a = sources.from s k in
      let z = h.shown a.0 a.1 in
      subst (λ u. x.bases u ≡ None) a.2 (by a.0 a.1 (sym a.2) z.0 (part_of g a.0.parts) refl z.2.part)
    where
      by : (a : Answer) → Has a given → s.view ≡ a.view → (r : Reply) → (o : Option Part) → part_of g a.parts ≡ o → CarriesIf x a.view r.list o → x.bases a.view ≡ None
      by a m w r None t c = c.1
      by a m w r (Some p) t c =
          let y = part_has g a.parts p t in
          let b = each_part a m p y.0 y.1 s k w in absurd (some_not b.0 (sym q ∙ b.1))

  -- the list that is carried from an old view
  record Choice (u : ViewId) (l : List Entry) : Type 0 where
    one : (l ≡ []) ⊎ ((r : Reply) × Has r rs × (r.view ≡ u) × (r.list ≡ l))
    carries : (s : Source) → source_at i.sources u ≡ Some s → CarriesIf x u l (part_of g s.parts)
    none : source_at i.sources u ≡ None → l ≡ []

  at_view : (u : ViewId) (s : Source) → source_at i.sources u ≡ Some s → Has s i.sources × (s.view ≡ u)
  unfolding source_at
  at_view u s q =
      let k = find_has (λ (z : Source). same_view z.view u) i.sources s q in (k.0, same_of s.view u k.1)

  choice : (u : ViewId) → (l : List Entry) × Choice u l
  choice u = by (source_at i.sources u) refl
    where
      by : (o : Option Source) → source_at i.sources u ≡ o → (l : List Entry) × Choice u l
      by None q = ([], record { one = inl refl; carries = λ s r. absurd (some_not s (sym q ∙ r)); none = λ r. refl })
      by (Some s) q = of (part_of g s.parts) refl
        where
          here : Has s i.sources × (s.view ≡ u)
          here = at_view u s q

          same : (t : Source) → source_at i.sources u ≡ Some t → s ≡ t
          same t r = some_is s t (sym q ∙ r)

          there_is : source_at i.sources u ≡ None → ⊥
          there_is r = some_not s (sym r ∙ q)

          of : (o : Option Part) → part_of g s.parts ≡ o → (l : List Entry) × Choice u l
          of None r =
              let c : CarriesIf x u [] (part_of g s.parts) = subst (CarriesIf x u []) (sym r) (refl, subst (λ z. x.bases z ≡ None) here.1 (bare s here.0 r)) in
              ([], record { one = inl refl; carries = λ t m. subst (λ (z : Source). CarriesIf x u [] (part_of g z.parts)) (same t m) c; none = λ m. refl })
          of (Some p) r =
              let y = part_has g s.parts p r in
              let b = brought s here.0 p y.0 y.1 in
              let c : CarriesIf x u b.reply.list (part_of g s.parts) = subst (CarriesIf x u b.reply.list) (sym r) (subst (λ z. Carries x z b.reply.list p) here.1 b.carries) in
              (b.reply.list, record { one = inr (b.reply, b.came, b.view ∙ here.1, refl); carries = λ t m. subst (λ (z : Source). CarriesIf x u b.reply.list (part_of g z.parts)) (same t m) c; none = λ m. absurd (there_is m) })

  pub ss : ViewId → List Entry
  ss u = (choice u).0

  pub whole_one : (u : ViewId) → (ss u ≡ []) ⊎ ((r : Reply) × Has r rs × (r.view ≡ u) × (r.list ≡ ss u))
  unfolding ss
  whole_one u = (choice u).1.one

  pub whole_none : (u : ViewId) → source_at i.sources u ≡ None → ss u ≡ []
  unfolding ss
  whole_none u = (choice u).1.none

  pub whole_carries : (s : Source) → Has s i.sources → CarriesIf x s.view (ss s.view) (part_of g s.parts)
  unfolding ss
  whole_carries s k = (choice s.view).1.carries s (sources.found s k)

  over : (r : Reply) → Has r rs → length r.list ≤ length (ss r.view)
  over r k =
      let a = h.came r k in
      let s = sources.each a.0 a.1 in
      subst (λ u. length r.list ≤ length (ss u)) (sym a.2.view) (by a.0 a.1 s.0 s.1 s.2 (part_of g a.0.parts) refl a.2.part)
    where
      by : (a : Answer) → Has a given → (s : Source) → Has s i.sources → s.view ≡ a.view → (o : Option Part) → part_of g a.parts ≡ o → CarriesIf x a.view r.list o → length r.list ≤ length (ss a.view)
      by a m s j w None t c = let z : length r.list ≡ length {A = Entry} [] = ap length c.0 in omega arith
      by a m s j w (Some q) t c =
          let y = part_has g a.parts q t in
          let b = each_part a m q y.0 y.1 s j w in
          let d : CarriesIf x s.view (ss s.view) (Some b.0) = subst (CarriesIf x s.view (ss s.view)) b.1 (whole_carries s j) in
          let l : part_len q ≡ length r.list = carries_len x a.view r.list q c in
          let f : part_len b.0 ≡ length (ss a.view) = carries_len x s.view (ss s.view) b.0 d ∙ ap (λ u. length (ss u)) w in
          let z = b.2 in omega arith

  pub longest : Longest rs ss
  longest = record { over = over; one = whole_one }

  -- ---- what is collected

  pub collected : (y : Standing) → y.promise ≡ promise → y.view ≡ v → y.inc ≡ inc → 0 < inc → Collected x.ps n y rs ss
  collected y p w j up =
      record {
        sent = λ r k. let a = h.came r k in subst (λ (z : ViewId). Has (group.Answer z r) x.ps) (sym p) a.2.sent;
        lt = subst (λ (z : ViewId × ViewId). Lt z.0 z.1) (λ q. (sym w q, sym p q)) h.lt;
        up = subst (λ k. 0 < k) (sym j) up;
        coord = ap (λ (z : ViewId). z.coord) p ∙ h.coord;
        inc = ap (λ (z : ViewId). z.inc) p ∙ h.inc_of ∙ sym j;
        later = subst (λ (z : ViewId). 1 < z.number) (sym p) h.later;
        own = let z = h.shown h.own.0 h.own.1 in (z.0, z.1, z.2.node ∙ h.own.2);
        only = λ r k q. let a = h.came r k in
            let s : a.0 ≡ h.own.0 = h.single a.0 h.own.0 a.1 h.own.1 (sym a.2.node ∙ q ∙ sym h.own.2) in
            a.2.inc ∙ ap (λ (z : Answer). z.inc) s ∙ h.own.3 ∙ sym j;
        longest = longest;
        single = λ r q k m t. let a = h.came r k in let b = h.came q m in
            a.2.inc ∙ ap (λ (z : Answer). z.inc) (h.single a.0 b.0 a.1 b.1 (sym a.2.node ∙ t ∙ b.2.node)) ∙ sym b.2.inc;
      }

  -- ---- who is live

  live_there : (s : Source) → Has s i.sources → (p : ProviderId) → is_live_from i s p ≡ true → is_live rs s.view p ≡ true
  unfolding is_live_from
  live_there s k p q =
      let both = and_parts (is_member i.members p.node p.inc) (has_node s.nodes p.node) q in
      let r = member_reply p.node p.inc rs (subst (Has (member p.node p.inc)) members_are (has_member i.members p.node p.inc both.0)) in
      let a = sources.nodes s k p.node both.1 in
      let b = h.came r.0 r.1 in
      let same : b.0 ≡ a.0 = h.single b.0 a.0 b.1 a.1 (sym b.2.node ∙ r.2 ∙ sym a.2) in
      let view : r.0.view ≡ s.view = b.2.view ∙ ap (λ (z : Answer). z.view) same ∙ a.3 in
      has_any (λ (z : Reply). z.node == p.node && (z.inc == p.inc && is_same z.view s.view)) rs r.0 r.1 (and_true (r.0.node == p.node) (r.0.inc == p.inc && is_same r.0.view s.view) (eq-eqb r.0.node p.node r.2) (and_true (r.0.inc == p.inc) (is_same r.0.view s.view) (eq-eqb r.0.inc p.inc r.3) (subst (λ z. is_same z s.view ≡ true) (sym view) (eq_same s.view))))

  live_here : (s : Source) → Has s i.sources → (p : ProviderId) → is_live rs s.view p ≡ true → is_live_from i s p ≡ true
  unfolding is_live_from
  live_here s k p q =
      let r = any_has (λ (z : Reply). z.node == p.node && (z.inc == p.inc && is_same z.view s.view)) rs q in
      let a = and_parts (r.0.node == p.node) (r.0.inc == p.inc && is_same r.0.view s.view) r.2 in
      let b = and_parts (r.0.inc == p.inc) (is_same r.0.view s.view) a.1 in
      let node : r.0.node ≡ p.node = eqb-true r.0.node p.node a.0 in
      let inc_is : r.0.inc ≡ p.inc = eqb-true r.0.inc p.inc b.0 in
      let c = h.came r.0 r.1 in
      let view : s.view ≡ c.0.view = sym (eq_true r.0.view s.view b.1) ∙ c.2.view in
      let there : has_node s.nodes p.node ≡ true = subst (λ z. has_node s.nodes z ≡ true) (sym c.2.node ∙ node) (sources.holds c.0 c.1 s k view) in
      let mine : Has (member r.0.node r.0.inc) i.members = subst (Has (member r.0.node r.0.inc)) (sym members_are) (reply_member r.0 rs r.1) in
      let is : is_member i.members p.node p.inc ≡ true = has_any (λ (m : Member). m.node == p.node && m.inc == p.inc) i.members (member r.0.node r.0.inc) mine (and_true (r.0.node == p.node) (r.0.inc == p.inc) a.0 b.0) in
      and_true (is_member i.members p.node p.inc) (has_node s.nodes p.node) is there

  live : (s : Source) → Has s i.sources → is_live_from i s ≡ is_live rs s.view
  live s k = λ j p. both_ways (is_live_from i s p) (is_live rs s.view p) (live_there s k p) (live_here s k p) j

  -- ---- the base

  abbrev side : ViewId → GroupState
  side u = side_state x.bases ss u

  count_is : (s : Source) → Has s i.sources → (p : Part) → p.state ≡ side s.view → exchange.live_count i s p ≡ live_count rs s.view (side s.view)
  count_is s k p st = λ j. length (filter (live s k j) (present (st j)))

  candidate_part : (p : Part) → p.name ≡ g → exchange.is_candidate g p ≡ is_candidate p.state
  unfolding exchange.is_candidate
  candidate_part p q =
      ap (λ b. b && (not (is_empty p.state.members) || is_some p.state.running)) (subst (λ z. bytes_eq z g ≡ true) (sym q) (text_self g)) ∙ candidate_is p.state

  record Side (u : ViewId) : Type 0 where
    source : Source
    there : Has source i.sources
    view : source.view ≡ u
    part : Part
    inside : Has part source.parts
    name : part.name ≡ g
    state : part.state ≡ side source.view

  side_of : (s : Source) → Has s i.sources → (p : Part) → part_of g s.parts ≡ Some p → p.state ≡ side s.view
  side_of s k p q =
      let c : CarriesIf x s.view (ss s.view) (Some p) = subst (CarriesIf x s.view (ss s.view)) q (whole_carries s k) in c.state

  -- a side that a new view can begin with is carried
  candidate_side : (r : Reply) → Has r rs → is_candidate (side r.view) ≡ true → Side r.view
  candidate_side r k t =
      let a = h.came r k in
      let s = sources.each a.0 a.1 in
      by s.0 s.1 (s.2 ∙ sym a.2.view) (part_of g s.0.parts) refl (whole_carries s.0 s.1)
    where
      by : (s : Source) → Has s i.sources → s.view ≡ r.view → (o : Option Part) → part_of g s.parts ≡ o → CarriesIf x s.view (ss s.view) (part_of g s.parts) → Side r.view
      by s j w None q c =
          let d : CarriesIf x s.view (ss s.view) None = subst (CarriesIf x s.view (ss s.view)) q c in
          let z : side s.view ≡ state_of_list x.bases s.view [] = ap (state_of_list x.bases s.view) d.0 in
          let y : state_of_list x.bases s.view [] ≡ empty_state = ap base_state d.1 in
          let f : is_candidate empty_state ≡ true = subst (λ st. is_candidate st ≡ true) (ap side (sym w) ∙ z ∙ y) t in
          let no_one : is_candidate empty_state ≡ false = refl in
          absurd (cc)
      by s j w (Some p) q c =
          let y = part_has g s.parts p q in
          record { source = s; there = j; view = w; part = p; inside = y.0; name = y.1; state = side_of s j p q }

  is_cand : (r : Reply) (d : Side r.view) → is_candidate (side r.view) ≡ true → IsCandidate i g d.source d.part
  is_cand r d t =
      (d.there, (d.inside, candidate_part d.part d.name ∙ ap is_candidate d.state ∙ ap (λ u. is_candidate (side u)) d.view ∙ t))

  abbrev base_at : Option Base → Option Origin
  base_at o = option_map origin_of o

  wins : (b : Base) → IsBaseOf i g b → Wins rs ss side (origin_of b)
  unfolding exchange.is_candidate is_before
  wins b w =
      subst (Wins rs ss side) (λ j. record { old = sym w.from j; len = sym w.len j; state = sym w.state j }) (record {
        from = (shown.reply, shown.came, shown.view);
        candidate = ap is_candidate (sym st) ∙ sym (candidate_part w.part name) ∙ w.wins.candidate.1.1;
        len = carries_len x u (ss u) w.part c;
        state = λ j. record (st j) { failed = filter (λ p. not (live w.source there j p)) (present (st j)) };
        most = most;
      })
    where
      u : ViewId
      u = w.source.view

      there : Has w.source i.sources
      there = w.wins.candidate.0

      inside : Has w.part w.source.parts
      inside = w.wins.candidate.1.0

      name : w.part.name ≡ g
      name = text_same w.part.name g (and_parts (bytes_eq w.part.name g) (not (is_empty w.part.state.members) || is_some w.part.state.running) w.wins.candidate.1.1).0

      part_there : part_of g w.source.parts ≡ Some w.part
      part_there = part_is g w.source.parts w.part (sources.differ w.source there) inside name

      c : Carries x u (ss u) w.part
      c = subst (CarriesIf x u (ss u)) part_there (whole_carries w.source there)

      st : w.part.state ≡ side u
      st = side_of w.source there w.part part_there

      shown : Shown u w.part
      shown = brought w.source there w.part inside name

      most : (r : Reply) → Has r rs → is_candidate (side r.view) ≡ true → (live_count rs r.view (side r.view) < live_count rs u (side u)) ⊎ ((live_count rs r.view (side r.view) ≡ live_count rs u (side u)) × Le r.view u)
      most r k t =
          let d = candidate_side r k t in
          let q = is_cand r d t in
          let a : exchange.live_count i w.source w.part ≡ live_count rs u (side u) = count_is w.source there w.part st in
          let z : exchange.live_count i d.source d.part ≡ live_count rs r.view (side r.view) = count_is d.source d.there d.part d.state ∙ ap (λ y. live_count rs y (side y)) d.view in
          let le = w.wins.most d.source d.part q in
          at (exchange.live_count i d.source d.part) (exchange.live_count i w.source w.part) (live_count rs r.view (side r.view)) (live_count rs u (side u)) z a le (λ s. subst (λ y. Le y u) d.view (w.wins.greatest d.source d.part q s))
        where
          at : (m l m' l' : ℕ) → m ≡ m' → l ≡ l' → m ≤ l → (m ≡ l → Le r.view u) → (m' < l') ⊎ ((m' ≡ l') × Le r.view u)
          at m l m' l' p q le f = by (m == l) refl
            where
              by : (b : Bool) → (m == l) ≡ b → (m' < l') ⊎ ((m' ≡ l') × Le r.view u)
              by true e = let s : m ≡ l = eqb-true m l e in inr (sym p ∙ s ∙ q, f s)
              by false e = let ne : m ≡ l → ⊥ = λ s. let y : (m == l) ≡ true = eq-eqb m l s in absurd (cc) in inl (omega (arith, ne))

  pub base_there : BaseIs rs ss side (base_at (base_of i g))
  base_there = by (base_of i g) (base_is i g (base_of i g) sources.ascend refl)
    where
      by : (o : Option Base) → exchange.BaseIs i g o → BaseIs rs ss side (base_at o)
      by None q = λ r k. not_true_is (is_candidate (side r.view)) (λ t. let d = candidate_side r k t in q d.source d.part (is_cand r d t))
      by (Some b) w = wins b w

  -- the base of the group among those of the view
  pub named_base : base_named (bases_of i) g ≡ base_of i g
  unfolding bases_of names_in exchange.is_candidate
  named_base = by (base_of i g) refl (base_is i g (base_of i g) sources.ascend refl)
    where
      by : (o : Option Base) → base_of i g ≡ o → exchange.BaseIs i g o → base_named (bases_of i) g ≡ o
      by None q w = none_named i g (names_in i.sources) q
      by (Some b) q w =
          let name : w.part.name ≡ g = text_same w.part.name g (and_parts (bytes_eq w.part.name g) (not (is_empty w.part.state.members) || is_some w.part.state.running) w.wins.candidate.1.1).0 in
          one_named i g b (names_in i.sources) q (subst (λ z. Has z (names_in i.sources)) name (has_source_name w.source w.part i.sources [] w.wins.candidate.0 w.wins.candidate.1.0))

  -- who leads is a member
  pub base_leads : (b : Base) → base_of i g ≡ Some b → (j : ℕ) × Has (member b.leader j) i.members × (leader_of promise (Some (origin_of b)) ≡ Some (member b.leader j))
  unfolding base_of base_from is_live_from
  base_leads b q = at (find (λ p. not (among b.state.failed p)) b.state.members) refl
    where
      led : b.leader ≡ leader_from i.view.coord b.state.failed b.state.members
      led = leader_is i g b q

      state_is : (c : Candidate) × (b.state ≡ record (c.part.state) { failed = filter (λ p. not (is_live_from i c.source p)) (present c.part.state) })
      state_is = of (best_of beats (candidates i g i.sources)) q
        where
          of : (o : Option Candidate) → base_of_best i g o ≡ Some b → (c : Candidate) × (b.state ≡ record (c.part.state) { failed = filter (λ p. not (is_live_from i c.source p)) (present c.part.state) })
          of None r = absurd (some_not b r)
          of (Some c) r = (c, ap (λ (z : Base). z.state) (sym (some_is (base_from i g c) b r)))

      lives : (p : ProviderId) → Has p b.state.members → not (among b.state.failed p) ≡ true → Has (member p.node p.inc) i.members
      lives p k t = has_member i.members p.node p.inc (and_parts (is_member i.members p.node p.inc) (has_node state_is.0.source.nodes p.node) (live_now (is_live_from i state_is.0.source p) refl)).0
        where
          c : Candidate
          c = state_is.0

          there : Has p (present c.part.state)
          there = append_has_left p c.part.state.members (joiners_in c.part.state.running) (subst (λ (z : GroupState). Has p z.members) state_is.1 k)

          fine : not (among (filter (λ p. not (is_live_from i c.source p)) (present c.part.state)) p) ≡ true
          fine = subst (λ (z : GroupState). not (among z.failed p) ≡ true) state_is.1 t

          live_now : (b : Bool) → is_live_from i c.source p ≡ b → is_live_from i c.source p ≡ true
          live_now true e = e
          live_now false e = absurd (let z : among (filter (λ p. not (is_live_from i c.source p)) (present c.part.state)) p ≡ true = lost_failed (is_live_from i c.source) p (present c.part.state) e there in let y = fine in let w : not true ≡ true = subst (λ a. not a ≡ true) z y in cc)

      at : (o : Option ProviderId) → find (λ p. not (among b.state.failed p)) b.state.members ≡ o → (j : ℕ) × Has (member b.leader j) i.members × (Some (leading promise o) ≡ Some (member b.leader j))
      at None r =
          let coord : promise.coord ≡ b.leader = ap (λ (z : ViewId). z.coord) (sym view_is) ∙ leader_none i.view.coord b.state.failed b.state.members (sym r) ∙ sym led in
          let z = h.shown h.own.0 h.own.1 in
          let mine : Has (member z.0.node z.0.inc) i.members = subst (Has (member z.0.node z.0.inc)) (sym members_are) (reply_member z.0 rs z.1) in
          let node : z.0.node ≡ b.leader = z.2.node ∙ h.own.2 ∙ sym h.coord ∙ coord in
          let inc_is : z.0.inc ≡ promise.inc = z.2.inc ∙ h.own.3 ∙ sym h.inc_of in
          (promise.inc, subst (λ (m : Member). Has m i.members) (λ j. member (node j) (inc_is j)) mine, λ j. Some (member (coord j) promise.inc))
      at (Some p) r =
          let k = find_has (λ p. not (among b.state.failed p)) b.state.members p r in
          let node : p.node ≡ b.leader = leader_found i.view.coord b.state.failed b.state.members p (sym r) ∙ sym led in
          (p.inc, subst (λ m. Has (member m p.inc) i.members) node (lives p k.0 k.1), λ j. Some (member (node j) p.inc))
