-- Each line of a life shows what it has to.
use Rattle.std.proofs.Common.{refl, ◌≡◌, ℕ, zero, suc, ◌+◌, ◌≤◌, ◌<◌, ◌⊎◌, inl, inr, sym, ◌∙◌, ap, subst, true, false, List, [], ◌∷◌, ◌++◌, length, Option, Some, None, arith, append_assoc}
use Rattle.std.specs.Prelude.{slice_get, drop, take}
use Rattle.std.proofs.lemmas.List.{take_all}
use Rattle.rsct_packet.specs.declared.ids.Member.{Member}
use Rattle.rsct_packet.specs.declared.ids.ProviderId.{ProviderId}
use Rattle.rsct_packet.specs.declared.ids.ViewId.{ViewId}
use Rattle.rsct_packet.specs.Search.{Has}
use Rattle.rsct_packet.proofs.HasLaws.{append_has_right}
use Rattle.proposal_core.specs.declared.entry.Entry.{Entry}
use Rattle.proposal_core.specs.declared.group_state.GroupState.{GroupState}
use Rattle.proposal_core.specs.Fold.{fits}
use Rattle.run_safety.specs.Group.{member, Standing, Reply, members_of, Origin, Packet, Install, Record, In, Put, Note, Based, Asked, Told, Line, Kept, Noted, kept, lines_from}
use Rattle.run_safety.specs.GroupLists.{Rises, puts_of, held, InOrder, WasIn, From, SameLists, SameMembers}
use Rattle.run_safety.specs.GroupLaws.{AskedFirst, Brought}
use Rattle.run_safety.specs.Bases.{Bases, base_state, state_of_list, side_state, marked, Wins, BaseIs}
use Rattle.run_safety.specs.Requests.{carried}
use Rattle.run_safety.specs.Past.{fold_from}
use Rattle.run_safety.specs.Moves.{Leads, Opening, based, entered, Life, Dawn, NextEvent, Promises, Answers, Appends, Follows, Starts, Enters, Founds, Names, Hears, Asks, Requests, Refuses, IsTold, Acknowledges, Settles}
use Rattle.run_safety.proofs.Prefix.{IsPrefix, prefix_both}
use Rattle.run_safety.proofs.Order.{lt_not_same}
use Rattle.run_safety.proofs.Tracks.{was_many}
use Rattle.run_safety.proofs.Lines.{kept_lines, note_lines, has_lines}
use Rattle.run_safety.proofs.HeardLaw.{puts_front, take_front, front_of, get_within}
use Rattle.run_safety.proofs.Founds.{found_new}
use Rattle.run_safety.proofs.CutLaw.{law_same_members, law_same_lists}
use Rattle.run_safety.proofs.Whole.{Whole}
use Rattle.run_safety.proofs.OnceLaw.{begun_once}
use Rattle.run_safety.proofs.Lives.{whole, law_one_entry, law_base}
use Rattle.run_laws.proofs.seen_runs.LineRules.{bare, Entered, last_in, GoesOn, base_in, InSeen, OnceLine, PutSeen, BasedSeen, LinesSeen}
use Rattle.run_laws.proofs.seen_runs.BareLines.{kept_bare, had_bare, has_bare, bare_inserted, base_bare, base_is}
use Rattle.run_laws.proofs.seen_runs.LineFacts.{order_older, asked_older, kept_older, lines_split, last_puts, put_at, held_puts, from_in}
use Rattle.run_laws.proofs.seen_runs.LastViews.{entered_by, AtLast, at_last}

-- ---- what an older front of a whole life shows

module _ (o : Opening) (nodes : ℕ → Standing) (ps : List Packet) (all : List Line) (leads : Leads) (bases : Bases) (w : Whole o nodes ps all leads bases) where
  -- an entry, where the node knows the base of the view and is in it
  put_shows : (newer older : List Line) (n : ℕ) (v : ViewId) (i : ℕ) (e : Entry) → all ≡ newer ++ Kept (Put n v i e) ∷ older → (last : (j : ℕ) × (last_in n (kept older) ≡ Some (record { inc = j; view = v }))) → ((b : Origin) → bases v ≡ Some b → Has (Noted (Based n v b)) older) → PutSeen (bare older) n v i e
  put_shows newer older n v i e is last known =
      record {
        inc = last.0;
        view = ap (last_in n) (kept_bare older) ∙ last.1;
        place = place ∙ ap (λ tr. length (puts_of n v tr)) (sym (kept_bare older));
        entry = λ m f h. law_one_entry o nodes ps all leads bases w m n v i f e (within (Put m v i f) (subst (Has (Put m v i f)) (kept_bare older) h)) new;
        tallied = w.tallied.entry v i e here;
        fitting = subst (λ (z : GroupState × List Entry). fits (fold_from v z.0 0 z.1) e ≡ true) (λ k. (sym (base_bare n v older ∙ base) k, ap (puts_of n v) (sym (kept_bare older)) k)) fit;
        once = λ p r m c. once_at p r m c;
      }
    where
      whole_order : InOrder (kept (Kept (Put n v i e) ∷ older))
      whole_order = order_older newer (Kept (Put n v i e) ∷ older) (subst (λ l. InOrder (kept l)) is w.good.past.order)

      place : i ≡ length (puts_of n v (kept older))
      place = whole_order.0

      within : (r : Record) → Has r (kept older) → Has r (kept all)
      within r h = subst (λ l. Has r (kept l)) (sym is) (kept_older r newer (Kept (Put n v i e) ∷ older) (inr h))

      noted_in : (y : Line) → Has y older → Has y all
      noted_in y h = subst (Has y) (sym is) (append_has_right y newer (Kept (Put n v i e) ∷ older) (inr h))

      front : IsPrefix (puts_of n v (kept older)) (w.log v)
      front = puts_front n v (w.log v) (kept older) (λ k f h. w.good.inv.records (Put n v k f) (within (Put n v k f) h)) whole_order.1

      new : Has (Put n v i e) (kept all)
      new = subst (λ l. Has (Put n v i e) (kept l)) (sym is) (kept_older (Put n v i e) newer (Kept (Put n v i e) ∷ older) (inl refl))

      here : slice_get (w.log v) i ≡ Some e
      here = w.good.inv.records (Put n v i e) new

      taken : take i (w.log v) ≡ puts_of n v (kept older)
      taken = take_front i (puts_of n v (kept older)) (w.log v) front (omega (arith, place)) ∙ ap (λ k. take k (puts_of n v (kept older))) place ∙ take_all (length (puts_of n v (kept older))) (puts_of n v (kept older)) (omega arith)

      fit : fits (fold_from v (base_state (bases v)) 0 (puts_of n v (kept older))) e ≡ true
      fit = subst (λ xs. fits (state_of_list bases v xs) e ≡ true) taken (w.tallied.fitting v i e here)

      base : base_in n v older ≡ base_state (bases v)
      base = base_is bases n v older (λ b h. w.based_ok.noted n v b (noted_in (Noted (Based n v b)) h)) known

      asked : AskedFirst (Kept (Put n v i e) ∷ older)
      asked = asked_older newer (Kept (Put n v i e) ∷ older) (subst AskedFirst is w.once.order)

      once_at : (p : ProviderId) (r : ℕ) → p.node ≡ n → Has (p, r) (carried e) → OnceLine (bare older) n e p r
      once_at p r m c =
          let k = asked.0 p r m c in
          record {
            asked = (k.0.0, has_bare (Asked p r k.0.0) older tt k.0.1, k.0.2);
            untold = λ u h. k.1 u (had_bare (Noted (Told p r u)) older h);
            once = λ u j f h d. again u j f (subst (Has (Put n u j f)) (kept_bare older) h) d;
          }
        where
          again : (u : ViewId) (j : ℕ) (f : Entry) → Has (Put n u j f) (kept older) → Has (p, r) (carried f) → ⊥
          again u j f h d =
              let old : Has (Put p.node u j f) (kept all) = subst (λ k. Has (Put k u j f) (kept all)) (sym m) (within (Put n u j f) h) in
              let z = begun_once o nodes ps all w.log leads w.good w.once p r u v j i f e old d (subst (λ k. Has (Put k v i e) (kept all)) (sym m) new) c in
              let s : slice_get (puts_of n v (kept older)) j ≡ Some f = put_at n v j f (kept older) whole_order.1 (subst (λ k. Has (Put n k j f) (kept older)) z.0 h) in
              let l : j < length (puts_of n v (kept older)) = get_within j f (puts_of n v (kept older)) s in
              absurd (omega (arith, l, place, z.1))

  -- a view that a node enters; what was known of bases before
  in_shows : (older : List Line) (n j : ℕ) (v : ViewId) (ms : List Member) → kept all ≡ In n j v ms ∷ kept older → GoesOn j (last_in n (kept older)) → ((m i l k : ℕ) (u : ViewId) (ns os : List Member) (b : Origin) → Has (In m i u ns) (kept older) → Has (In l k u os) (kept older) → Has (Noted (Based m u b)) older → Has (Noted (Based l u b)) older) → InSeen (bare older) n j v ms
  in_shows older n j v ms is on known =
      record {
        own = (same_members n n j j v ms ms head head).1;
        on = subst (λ tr. GoesOn j (last_in n tr)) (sym (kept_bare older)) on;
        same = λ m i ns h. (same_members m n i j v ns ms (there (In m i v ns) (unbare (In m i v ns) h)) head).0;
        rising = λ u ns h. (subst Rises is w.good.inv.rises).0 u ns (unbare (In n j u ns) h);
        together = λ m i u ns h f g. together m i u ns (unbare (In m i v ns) h) (subst (λ tr. From tr m i v u) (kept_bare older) f) (subst (λ tr. From tr n j v u) (kept_bare older) g);
        bases = λ m i l k u ns os b h g f. has_bare (Based l u b) older tt (known m i l k u ns os b (unbare (In m i u ns) h) (unbare (In l k u os) g) (had_bare (Noted (Based m u b)) older f));
      }
    where
      unbare : (r : Record) → Has r (kept (bare older)) → Has r (kept older)
      unbare r h = subst (Has r) (kept_bare older) h

      there : (r : Record) → Has r (kept older) → Has r (kept all)
      there r h = subst (Has r) (sym is) (inr h)

      head : Has (In n j v ms) (kept all)
      head = subst (Has (In n j v ms)) (sym is) (inl refl)

      same_members : SameMembers (kept all)
      same_members = law_same_members o nodes ps (kept all) w.log leads w.good.inv w.good.past

      same_lists : SameLists (In n j v ms ∷ kept older)
      same_lists = subst SameLists is (law_same_lists o nodes ps (kept all) w.log leads w.good.inv w.good.past)

      together : (m i : ℕ) (u : ViewId) (ns : List Member) → Has (In m i v ns) (kept older) → From (kept older) m i v u → From (kept older) n j v u → puts_of n u (kept (bare older)) ≡ puts_of m u (kept (bare older))
      together m i u ns h f g =
          subst (λ tr. puts_of n u tr ≡ puts_of m u tr) (sym (kept_bare older)) (same_lists n m j i u v ms ns (inl refl) (inr h) (from_in n n j j v u ms (kept older) g) (from_in n m i j v u ms (kept older) f))

  -- a base that a node notes as it enters the view, which was installed
  based_shows : (before : List Line) (n j : ℕ) (v : ViewId) (ms : List Member) (ss : ViewId → List Entry) (b : Origin) → all ≡ Noted (Based n v b) ∷ Kept (In n j v ms) ∷ before → Has (Install v ms ss) ps → bases v ≡ Some b → BasedSeen (bare (Kept (In n j v ms) ∷ before)) n v b
  based_shows before n j v ms ss b is sent base =
      record {
        inc = j;
        members = ms;
        before = bare before;
        entered = refl;
        same = λ m c h. same m c (had_bare (Noted (Based m v c)) older h);
        replies = rs;
        are = brought.members;
        from = λ r h. subst (λ tr. From tr r.node r.inc v r.view) (sym tr_is) (brought.from r h);
        one = wins.from;
        node = side.0;
        reaches = subst (λ tr. b.len ≤ length (puts_of side.0 b.old tr)) (sym tr_is) reaches;
        knows = λ m c h. has_bare (Based side.0 b.old c) older tt (known c (w.based_ok.noted m b.old c (subst (Has (Noted (Based m b.old c))) (sym is) (inr (had_bare (Noted (Based m b.old c)) older h)))));
        state = wins.state ∙ ap (marked rs b.old) states;
      }
    where
      older : List Line
      older = Kept (In n j v ms) ∷ before

      tr_is : kept (bare older) ≡ kept all
      tr_is = kept_bare older ∙ ap kept (sym is)

      found : (rs : List Reply) × Brought (kept all) bases v ms rs ss × BaseIs rs ss (λ u. side_state bases ss u) (bases v)
      found = law_base o nodes ps all leads bases w v ms ss sent

      rs : List Reply
      rs = found.0

      brought : Brought (kept all) bases v ms rs ss
      brought = found.1

      wins : Wins rs ss (λ u. side_state bases ss u) b
      wins = subst (λ c. BaseIs rs ss (λ u. side_state bases ss u) c) base found.2

      same : (m : ℕ) (c : Origin) → Has (Noted (Based m v c)) older → c ≡ b
      same m c h =
          let k : bases v ≡ Some c = w.based_ok.noted m v c (subst (Has (Noted (Based m v c))) (sym is) (inr h)) in
          let z : Some c ≡ Some b = sym k ∙ base in
          cc

      -- a member that held the whole list of the old view
      side : (m : ℕ) × (i : ℕ) × Has (member m i) ms × From (kept all) m i v b.old × (held m b.old (kept all) ≡ length (ss b.old))
      side = let r = wins.from in subst (λ u. (m : ℕ) × (i : ℕ) × Has (member m i) ms × From (kept all) m i v u × (held m u (kept all) ≡ length (ss u))) r.2 (brought.cut r.0 r.1).one

      reaches : b.len ≤ length (puts_of side.0 b.old (kept all))
      reaches = let h = held_puts side.0 b.old false (kept all) in omega (arith, h, wins.len, side.4)

      front : IsPrefix (ss b.old) (puts_of side.0 b.old (kept all))
      front =
          prefix_both (ss b.old) (puts_of side.0 b.old (kept all)) (w.log b.old) ((w.good.inv.packet (Install v ms ss) sent).sources b.old) (front_of o nodes ps all w.log leads bases w.good side.0 b.old) (omega (arith, reaches, wins.len))

      entries : ss b.old ≡ take b.len (puts_of side.0 b.old (kept all))
      entries =
          sym (take_front b.len (ss b.old) (puts_of side.0 b.old (kept all)) front (omega (arith, wins.len)) ∙ take_all b.len (ss b.old) (omega (arith, wins.len)))

      known : (c : Origin) → bases b.old ≡ Some c → Has (Noted (Based side.0 b.old c)) older
      known c e = at (subst (Has (Noted (Based side.0 b.old c))) is (w.based_ok.by_all side.0 side.1 b.old side.3.was.0 c side.3.was.1 e))
        where
          at : (Noted (Based side.0 b.old c) ≡ Noted (Based n v b)) ⊎ Has (Noted (Based side.0 b.old c)) older → Has (Noted (Based side.0 b.old c)) older
          at (inl q) = let z : b.old ≡ v = cc in absurd (lt_not_same b.old v side.3.less z)
          at (inr h) = h

      states : side_state bases ss b.old ≡ fold_from b.old (base_in side.0 b.old (bare older)) 0 (take b.len (puts_of side.0 b.old (kept (bare older))))
      states =
          let base_at : base_in side.0 b.old (bare older) ≡ base_state (bases b.old) = base_bare side.0 b.old older ∙ base_is bases side.0 b.old older (λ c h. w.based_ok.noted side.0 b.old c (subst (Has (Noted (Based side.0 b.old c))) (sym is) (inr h))) known in
          let list_at : ss b.old ≡ take b.len (puts_of side.0 b.old (kept (bare older))) = entries ∙ ap (λ tr. take b.len (puts_of side.0 b.old tr)) (sym tr_is) in
          λ z. fold_from b.old (sym base_at z) 0 (list_at z)

  -- what a node puts as it leaves a view
  fills_show : (newer : List Line) (n : ℕ) (u : ViewId) (es : List Entry) (i : ℕ) (now : List Line) → all ≡ newer ++ lines_from n u i es now → (last : (j : ℕ) × (last_in n (kept now) ≡ Some (record { inc = j; view = u }))) → ((b : Origin) → bases u ≡ Some b → Has (Noted (Based n u b)) now) → LinesSeen (bare now) → LinesSeen (bare (lines_from n u i es now))
  fills_show newer n u [] i now is last known seen = seen
  fills_show newer n u (e ∷ es) i now is last known seen =
      let k = lines_split n u (i + 1) es (Kept (Put n u i e) ∷ now) in
      let split : all ≡ (newer ++ k.0) ++ Kept (Put n u i e) ∷ now = is ∙ ap (λ l. newer ++ l) k.1 ∙ sym (append_assoc newer k.0 (Kept (Put n u i e) ∷ now)) in
      fills_show newer n u es (i + 1) (Kept (Put n u i e) ∷ now) is last (λ b h. inr (known b h)) (put_shows (newer ++ k.0) now n u i e split last known, seen)

  -- a node that enters an installed view, where each node that was in a view had noted its base
  entered_shows : (old : List Line) (n : ℕ) (x : Standing) (v : ViewId) (ms : List Member) (ss : ViewId → List Entry) (b : Option Origin) → all ≡ entered n x v ms ss b old → bases v ≡ b → Has (Install v ms ss) ps → WasIn (kept old) n x.inc x.view → last_in n (kept old) ≡ Some (entered_by x) → ((m k : ℕ) (u : ViewId) (os : List Member) (c : Origin) → Has (In m k u os) (kept old) → bases u ≡ Some c → Has (Noted (Based m u c)) old) → LinesSeen (bare old) → LinesSeen (bare (entered n x v ms ss b old))
  entered_shows old n x v ms ss b is base sent was last by_old seen = at b is base
    where
      fills : List Entry
      fills = drop (length x.list) (ss x.view)

      filled : List Line
      filled = lines_from n x.view (length x.list) fills old

      Shown : Option Origin → Type 0
      Shown c = LinesSeen (bare (based n v c (Kept (In n x.inc v ms) ∷ filled)))

      filled_seen : (newer : List Line) → all ≡ newer ++ filled → LinesSeen (bare filled)
      filled_seen newer q = fills_show newer n x.view fills (length x.list) old q (x.inc, last) (λ c e. by_old n x.inc x.view was.0 c was.1 e) seen

      in_old : (m i : ℕ) (u : ViewId) (ns : List Member) → Has (In m i u ns) (kept filled) → Has (In m i u ns) (kept old)
      in_old m i u ns h = was_many m n i u x.view ns (length x.list) fills (kept old) (subst (Has (In m i u ns)) (kept_lines n x.view (length x.list) fills old) h)

      enters : kept all ≡ In n x.inc v ms ∷ kept filled → ((y : Note) → Has (Noted y) old → Has (Noted y) all) → InSeen (bare filled) n x.inc v ms
      enters q within =
          in_shows filled n x.inc v ms q (subst (GoesOn x.inc) (sym (ap (last_in n) (kept_lines n x.view (length x.list) fills old) ∙ last_puts n n x.view (length x.list) fills (kept old) ∙ last)) (omega arith)) (λ m i l k u ns os c h g f. let z = note_lines (Based m u c) n x.view (length x.list) fills old f in has_lines (Noted (Based l u c)) n x.view (length x.list) fills old (by_old l k u os c (in_old l k u os g) (w.based_ok.noted m u c (within (Based m u c) z))))

      at : (c : Option Origin) → all ≡ entered n x v ms ss c old → bases v ≡ c → Shown c
      at None q e =
          (enters (ap kept q) (λ y h. subst (Has (Noted y)) (sym q) (inr (has_lines (Noted y) n x.view (length x.list) fills old h))), filled_seen (Kept (In n x.inc v ms) ∷ []) q)
      at (Some c) q e =
          (based_shows filled n x.inc v ms ss c q sent e, (enters (ap kept q) (λ y h. subst (Has (Noted y)) (sym q) (inr (inr (has_lines (Noted y) n x.view (length x.list) fills old h)))), filled_seen (Noted (Based n v c) ∷ Kept (In n x.inc v ms) ∷ []) q))

-- ---- every life

-- what the node knows of its view in a life
was_in : {o : Opening} {nodes : ℕ → Standing} {ps : List Packet} {all : List Line} {leads : Leads} {bases : Bases} (life : Life o nodes ps all leads bases) (n : ℕ) (x : Standing) → nodes n ≡ x → 0 < x.inc → WasIn (kept all) n x.inc x.view
was_in {all = all} life n x is up = subst (λ (z : Standing). WasIn (kept all) n z.inc z.view) is (((whole life).good.past.seated n).was (subst (λ (z : Standing). 0 < z.inc) (sym is) up)).0

last_is : {o : Opening} {nodes : ℕ → Standing} {ps : List Packet} {all : List Line} {leads : Leads} {bases : Bases} (life : Life o nodes ps all leads bases) (n : ℕ) (x : Standing) → nodes n ≡ x → 0 < x.inc → last_in n (kept all) ≡ Some (entered_by x)
last_is life n x is up = (at_last life n).0 (subst (λ (z : Standing). 0 < z.inc) (sym is) up) ∙ ap (λ (z : Standing). Some (entered_by z)) is

by_all : {o : Opening} {nodes : ℕ → Standing} {ps : List Packet} {all : List Line} {leads : Leads} {bases : Bases} (life : Life o nodes ps all leads bases) (m k : ℕ) (u : ViewId) (os : List Member) (c : Origin) → Has (In m k u os) (kept all) → bases u ≡ Some c → Has (Noted (Based m u c)) all
by_all life m k u os c h e = (whole life).based_ok.by_all m k u os c h e

-- an incarnation that starts is a later one
goes_on : (tr : List Record) (n : ℕ) (y x : Standing) → AtLast tr n y → y ≡ x → GoesOn (x.inc + 1) (last_in n tr)
goes_on tr n y x at is = by (last_in n tr) refl
  where
    by : (o : Option Entered) → last_in n tr ≡ o → GoesOn (x.inc + 1) o
    by None e = tt
    by (Some k) e = some (y.inc) refl
      where
        some : (i : ℕ) → y.inc ≡ i → k.inc ≤ x.inc + 1
        some zero z = absurd (let q : last_in n tr ≡ None = at.1 z in cc)
        some (suc i) z =
            let q : last_in n tr ≡ Some (entered_by y) = at.0 (subst (λ a. 0 < a) (sym z) (omega arith)) in
            let s : Some k ≡ Some (entered_by y) = sym e ∙ q in
            let t : k ≡ entered_by y = cc in
            let a : k.inc ≡ y.inc = ap (λ (b : Entered). b.inc) t in
            let b : y.inc ≡ x.inc = ap (λ (c : Standing). c.inc) is in
            omega arith

pub lines_seen : {o : Opening} {nodes : ℕ → Standing} {ps : List Packet} {all : List Line} {leads : Leads} {bases : Bases} → Life o nodes ps all leads bases → LinesSeen (bare all)
lines_seen (Dawn nodes new) = tt
lines_seen (NextEvent nodes ps all leads bases life) = (tt, lines_seen life)
lines_seen (Promises nodes now ps all leads bases n x v life is le c) = lines_seen life
lines_seen (Answers nodes ps all leads bases n x v life is up le lt) = lines_seen life
lines_seen {o = o} (Appends nodes now ps all leads bases n x e life is up led same due tallied room c) =
    let w = whole (Appends nodes now ps all leads bases n x e life is up led same due tallied room c) in
    let was = was_in life n x is up in
    (put_shows o now _ _ leads bases w [] all n x.view (length x.list) e refl (x.inc, last_is life n x is up) (λ b q. by_all life n x.inc x.view was.0 b was.1 q), lines_seen life)
lines_seen {o = o} (Follows nodes now ps all leads bases n x e life is up same sent c) =
    let w = whole (Follows nodes now ps all leads bases n x e life is up same sent c) in
    let was = was_in life n x is up in
    (put_shows o now _ _ leads bases w [] all n x.view (length x.list) e refl (x.inc, last_is life n x is up) (λ b q. by_all life n x.inc x.view was.0 b was.1 q), lines_seen life)
lines_seen {o = o} (Starts nodes now ps all leads bases n x v ms life is quiet born how c) =
    let w = whole (Starts nodes now ps all leads bases n x v ms life is quiet born how c) in
    (in_shows o now _ _ leads bases w all n (x.inc + 1) v ms refl (goes_on (kept all) n (nodes n) x (at_last life n) is) (λ m i l k u ns os b h g f. by_all life l k u os b g ((whole life).based_ok.noted m u b f)), lines_seen life)
lines_seen {o = o} (Enters nodes now ps all leads bases n x v ms ss life is quiet up at lt among sent c) =
    let w = whole (Enters nodes now ps all leads bases n x v ms ss life is quiet up at lt among sent c) in
    entered_shows o now _ _ leads bases w all n x v ms ss (bases v) refl refl sent (was_in life n x is up) (last_is life n x is up) (λ m k u os b h e. by_all life m k u os b h e) (lines_seen life)
lines_seen {o = o} (Founds nodes now ps all leads leads' bases bases' n x rs ss b life is quiet ok base set_base set_lead c) =
    let w = whole (Founds nodes now ps all leads leads' bases bases' n x rs ss b life is quiet ok base set_base set_lead c) in
    entered_shows o now _ _ leads' bases' w all n x x.promise (members_of rs) ss b refl set_base.here (inl refl) (was_in life n x is ok.up) (last_is life n x is ok.up) by_old (lines_seen life)
  where
    by_old : (m k : ℕ) (u : ViewId) (os : List Member) (d : Origin) → Has (In m k u os) (kept all) → bases' u ≡ Some d → Has (Noted (Based m u d)) all
    by_old m k u os d h e =
        let ne : u ≡ x.promise → ⊥ = λ s. found_new o nodes ps (kept all) (whole life).log leads n x rs ss is (whole life).good ok m k os (subst (λ z. Has (In m k z os) (kept all)) s h) in
        by_all life m k u os d h (sym (set_base.there u ne) ∙ e)
lines_seen (Names nodes ps all leads leads' bases v n j life was set led may) = lines_seen life
lines_seen (Hears nodes ps all more leads bases p v i e life put s is new) = subst LinesSeen (sym (bare_inserted _ all more (λ z. z) new)) (lines_seen life)
lines_seen (Asks nodes ps all leads bases p r x life) = (tt, lines_seen life)
lines_seen (Requests nodes ps all leads bases p r x y life is up same asked never untold) = lines_seen life
lines_seen (Refuses nodes ps all leads bases v p r life why) = lines_seen life
lines_seen (IsTold nodes ps all leads bases p r y life is up same why) = (tt, lines_seen life)
lines_seen (Acknowledges nodes ps all leads bases n x k life is le) = lines_seen life
lines_seen (Settles nodes ps all leads bases n j v ms k life was acked) = lines_seen life
