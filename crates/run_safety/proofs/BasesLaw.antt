-- Bases: one for all nodes that enter a view, made of what its members brought.
use Rattle.std.proofs.Common.{refl, Some, None, Option, ◌≡◌, ℕ, ◌<◌, ◌⊎◌, List, ◌∷◌, length, drop, Bool, true, false, sym, ap, ◌∙◌, subst, inl, inr, arith}
use Rattle.std.specs.Prelude.{◌&&◌, not, ◌==◌}
use Rattle.rsct_packet.specs.declared.ids.ViewId.{ViewId}
use Rattle.rsct_packet.specs.declared.ids.Member.{Member}
use Rattle.rsct_packet.specs.declared.ids.ProviderId.{ProviderId}
use Rattle.proposal_core.specs.declared.entry.Entry.{Entry}
use Rattle.proposal_core.specs.declared.group_state.GroupState.{GroupState}
use Rattle.rsct_packet.specs.Search.{Has}
use Rattle.rsct_packet.proofs.HasLaws.{find_has, filter_has, append_has_left}
use Rattle.run_safety.specs.Past.{fold_from}
use Rattle.run_safety.specs.ViewOrder.{is_same, Le}
use Rattle.run_safety.specs.Group.{member, Standing, Reply, members_of, Origin, Packet, Answer, Install, In, Based, Line, Noted, kept, puts_from}
use Rattle.run_safety.specs.Bases.{Bases, base_state, side_state, is_candidate, is_live, live_count, marked, Wins, BaseIs, leading}
use Rattle.run_safety.specs.Moves.{Leads, Opening, Longest, Collected, SetAt, entered}
use Rattle.run_safety.proofs.Order.{cases_view}
use Rattle.run_safety.proofs.Past.{reply_member}
use Rattle.run_safety.proofs.Moves.{Good}
use Rattle.run_safety.proofs.Founds.{none_yet, found_new}
use Rattle.run_safety.proofs.Lines.{has_entered, note_entered, kept_entered}
use Rattle.run_safety.proofs.Tests.{any_has, has_any, same_self}
use Rattle.std.specs.Prelude.{find, filter}
use Rattle.std.proofs.lemmas.Bool.{and_parts, eqb-true, not-true}
use Rattle.rsct_packet.specs.Providers.{among, same_provider}
use Rattle.proposal_core.specs.Fold.{present}
use Rattle.run_safety.proofs.Tracks.{was_many}

pub record BasesOk (ps : List Packet) (all : List Line) (bases : Bases) : Type 0 where
  pub noted : (n : ℕ) (v : ViewId) (b : Origin) → Has (Noted (Based n v b)) all → bases v ≡ Some b
  pub by_all : (n j : ℕ) (v : ViewId) (ms : List Member) (b : Origin) → Has (In n j v ms) (kept all) → bases v ≡ Some b → Has (Noted (Based n v b)) all
  pub installed : (v : ViewId) (b : Origin) → bases v ≡ Some b → (ms : List Member) × (ss : ViewId → List Entry) × Has (Install v ms ss) ps
  pub made : (v : ViewId) (ms : List Member) (ss : ViewId → List Entry) → Has (Install v ms ss) ps → (rs : List Reply) × (ms ≡ members_of rs) × ((r : Reply) → Has r rs → Has (Answer v r) ps) × Longest rs ss × BaseIs rs ss (λ u. side_state bases ss u) (bases v)

-- a base speaks of the sides of its members alone
pub base_same : (rs : List Reply) (ss : ViewId → List Entry) (side other : ViewId → GroupState) (b : Option Origin) → ((r : Reply) → Has r rs → side r.view ≡ other r.view) → BaseIs rs ss side b → BaseIs rs ss other b
base_same rs ss side other None q h = λ r i. ap is_candidate (sym (q r i)) ∙ h r i
base_same rs ss side other (Some b) q h =
    record {
      from = h.from;
      candidate = ap is_candidate (sym at) ∙ h.candidate;
      len = h.len;
      state = h.state ∙ ap (marked rs b.old) at;
      most = λ r i c. subst (λ (k : GroupState × GroupState). (live_count rs r.view k.0 < live_count rs b.old k.1) ⊎ ((live_count rs r.view k.0 ≡ live_count rs b.old k.1) × Le r.view b.old)) (λ z. (q r i z, at z)) (h.most r i (ap is_candidate (q r i) ∙ c));
    }
  where
    at : side b.old ≡ other b.old
    at = ap side (sym h.from.2) ∙ q h.from.0 h.from.1 ∙ ap other h.from.2

-- the leader of a base is a member
pub leads_member : (rs : List Reply) (ss : ViewId → List Entry) (side : ViewId → GroupState) (v : ViewId) (b : Origin) → Wins rs ss side b → Has (member v.coord v.inc) (members_of rs) → Has (leading v (find (λ p. not (among b.state.failed p)) b.state.members)) (members_of rs)
leads_member rs ss side v b w own = at (find test b.state.members) refl
  where
    test : ProviderId → Bool
    test p = not (among b.state.failed p)

    s : GroupState
    s = side b.old

    live : ProviderId → Bool
    live p = is_live rs b.old p

    failed : b.state.failed ≡ filter (λ p. not (live p)) (present s)
    failed = ap (λ (k : GroupState). k.failed) w.state

    members : b.state.members ≡ s.members
    members = ap (λ (k : GroupState). k.members) w.state

    not_live : (p : ProviderId) → Has p s.members → live p ≡ false → among b.state.failed p ≡ true
    not_live p h e =
        let k : Has p (filter (λ p. not (live p)) (present s)) = filter_has (λ p. not (live p)) p (present s) (append_has_left p s.members _ h) (ap not e) in
        has_any (λ q. same_provider q p) b.state.failed p (subst (λ l. Has p l) (sym failed) k) (same_self p)

    is_there : (p : ProviderId) → live p ≡ true → Has (member p.node p.inc) (members_of rs)
    is_there p e =
        let k = any_has (λ (r : Reply). r.node == p.node && (r.inc == p.inc && is_same r.view b.old)) rs e in
        let r = k.0 in
        let t = and_parts (r.node == p.node) (r.inc == p.inc && is_same r.view b.old) k.2 in
        let t' = and_parts (r.inc == p.inc) (is_same r.view b.old) t.1 in
        subst (λ m. Has m (members_of rs)) (λ z. member (eqb-true r.node p.node t.0 z) (eqb-true r.inc p.inc t'.0 z)) (reply_member r rs k.1)

    by : (p : ProviderId) → Has p s.members → among b.state.failed p ≡ false → (c : Bool) → live p ≡ c → Has (member p.node p.inc) (members_of rs)
    by p h f true e = is_there p e
    by p h f false e = absurd (let g = not_live p h e in cc)

    at : (o : Option ProviderId) → find test b.state.members ≡ o → Has (leading v o) (members_of rs)
    at None e = own
    at (Some p) e =
        let k = find_has test b.state.members p e in
        by p (subst (λ l. Has p l) members k.0) (not-true (among b.state.failed p) k.1) (live p) refl

module _ (o : Opening) (nodes : ℕ → Standing) (ps : List Packet) (all : List Line) (log : ViewId → List Entry) (lead : Leads) (bases : Bases) (good : Good o nodes ps (kept all) log lead) (old : BasesOk ps all bases) where
  -- moves that install no view and in which no node enters one
  pub bases_move : (ps' : List Packet) (all' : List Line) → ((v : ViewId) (r : Reply) → Has (Answer v r) ps → Has (Answer v r) ps') → ((v : ViewId) (ms : List Member) (ss : ViewId → List Entry) → Has (Install v ms ss) ps → Has (Install v ms ss) ps') → ((v : ViewId) (ms : List Member) (ss : ViewId → List Entry) → Has (Install v ms ss) ps' → Has (Install v ms ss) ps) → ((n : ℕ) (v : ViewId) (b : Origin) → Has (Noted (Based n v b)) all → Has (Noted (Based n v b)) all') → ((n : ℕ) (v : ViewId) (b : Origin) → Has (Noted (Based n v b)) all' → Has (Noted (Based n v b)) all) → ((n j : ℕ) (v : ViewId) (ms : List Member) → Has (In n j v ms) (kept all') → Has (In n j v ms) (kept all) ⊎ (v.number ≡ 1)) → BasesOk ps' all' bases
  bases_move ps' all' answers installs was more notes ins =
      record {
        noted = λ n v b h. old.noted n v b (notes n v b h);
        by_all = λ n j v ms b h e. more n v b (entered_by n j v ms b e (ins n j v ms h));
        installed = λ v b e. let k = old.installed v b e in (k.0, k.1, installs v k.0 k.1 k.2);
        made = λ v ms ss h. let k = old.made v ms ss (was v ms ss h) in (k.0, k.1, (λ r i. answers v r (k.2 r i)), k.3, k.4);
      }
    where
      entered_by : (n j : ℕ) (v : ViewId) (ms : List Member) (b : Origin) → bases v ≡ Some b → Has (In n j v ms) (kept all) ⊎ (v.number ≡ 1) → Has (Noted (Based n v b)) all
      entered_by n j v ms b e (inl h) = old.by_all n j v ms b h e
      entered_by n j v ms b e (inr one) =
          let k = old.installed v b e in let l = (good.past.made v k.0 k.1 k.2).later in absurd (omega (arith, l, one))

  -- a node notes the base of the view that it enters
  pub base_there : (n : ℕ) (x : Standing) (v : ViewId) (ms : List Member) (ss : ViewId → List Entry) (c b : Option Origin) (d : Origin) → c ≡ b → b ≡ Some d → Has (Noted (Based n v d)) (entered n x v ms ss c all)
  base_there n x v ms ss c b d p q =
      subst (λ k. Has (Noted (Based n v d)) (entered n x v ms ss k all)) (sym (p ∙ q)) (inl refl)

  in_entered : (n : ℕ) (x : Standing) (v : ViewId) (ms : List Member) (ss : ViewId → List Entry) (c : Option Origin) (m j : ℕ) (u : ViewId) (ns : List Member) → Has (In m j u ns) (kept (entered n x v ms ss c all)) → ((m ≡ n) × (u ≡ v)) ⊎ Has (In m j u ns) (kept all)
  in_entered n x v ms ss c m j u ns h = at (subst (λ tr. Has (In m j u ns) tr) (kept_entered n x v ms ss c all) h)
    where
      at : Has (In m j u ns) (In n x.inc v ms ∷ puts_from n x.view (length x.list) (drop (length x.list) (ss x.view)) (kept all)) → ((m ≡ n) × (u ≡ v)) ⊎ Has (In m j u ns) (kept all)
      at (inl e) = let a : m ≡ n = cc in let b : u ≡ v = cc in inl (a, b)
      at (inr k) = inr (was_many m n j u x.view ns (length x.list) (drop (length x.list) (ss x.view)) (kept all) k)

  pub bases_enter : (n : ℕ) (x : Standing) (v : ViewId) (ms : List Member) (ss : ViewId → List Entry) → BasesOk ps (entered n x v ms ss (bases v) all) bases
  bases_enter n x v ms ss =
      record {
        noted = λ m u b h. noted m u b (note_entered (Based m u b) n x v ms ss (bases v) all h);
        by_all = λ m j u ns b h e. by_all m j u ns b e (in_entered n x v ms ss (bases v) m j u ns h);
        installed = old.installed;
        made = old.made;
      }
    where
      noted : (m : ℕ) (u : ViewId) (b : Origin) → ((c : Origin) × (bases v ≡ Some c) × (Based m u b ≡ Based n v c)) ⊎ Has (Noted (Based m u b)) all → bases u ≡ Some b
      noted m u b (inr h) = old.noted m u b h
      noted m u b (inl k) =
          let e = k.2 in
          let a : u ≡ v = cc in
          let d : b ≡ k.0 = cc in
          ap bases a ∙ k.1 ∙ ap (λ z. Some z) (sym d)

      by_all : (m j : ℕ) (u : ViewId) (ns : List Member) (b : Origin) → bases u ≡ Some b → ((m ≡ n) × (u ≡ v)) ⊎ Has (In m j u ns) (kept all) → Has (Noted (Based m u b)) (entered n x v ms ss (bases v) all)
      by_all m j u ns b e (inl q) =
          subst (λ (k : ℕ × ViewId). Has (Noted (Based k.0 k.1 b)) (entered n x v ms ss (bases v) all)) (λ z. (sym q.0 z, sym q.1 z)) (base_there n x v ms ss (bases v) (bases v) b refl (ap bases (sym q.1) ∙ e))
      by_all m j u ns b e (inr h) = has_entered (Noted (Based m u b)) n x v ms ss (bases v) all (old.by_all m j u ns b h e)

  pub bases_found : (bases' : Bases) (n : ℕ) (x : Standing) (rs : List Reply) (ss : ViewId → List Entry) (b : Option Origin) → nodes n ≡ x → Collected ps n x rs ss → BaseIs rs ss (λ u. side_state bases ss u) b → SetAt bases bases' x.promise b → BasesOk (Install x.promise (members_of rs) ss ∷ ps) (entered n x x.promise (members_of rs) ss b all) bases'
  bases_found bases' n x rs ss b is ok base set =
      record {
        noted = λ m u d h. noted m u d (note_entered (Based m u d) n x v ms ss b all h);
        by_all = λ m j u ns d h e. by_all m j u ns d e (in_entered n x v ms ss b m j u ns h);
        installed = λ u d e. installed u d e (cases_view u v);
        made = λ u ns ts h. made u ns ts h;
      }
    where
      v : ViewId
      v = x.promise

      ms : List Member
      ms = members_of rs

      more : List Packet
      more = Install v ms ss ∷ ps

      -- the view is new
      unknown : (d : Origin) → bases v ≡ Some d → ⊥
      unknown d e =
          let k = old.installed v d e in none_yet ps (kept all) n x rs ss nodes log lead is good.inv ok k.0 k.1 k.2

      apart : (u : ViewId) (d : Origin) → bases u ≡ Some d → u ≡ v → ⊥
      apart u d e s = unknown d (ap bases (sym s) ∙ e)

      keeps : (u : ViewId) (d : Origin) → bases u ≡ Some d → bases' u ≡ Some d
      keeps u d e = set.there u (apart u d e) ∙ e

      noted : (m : ℕ) (u : ViewId) (d : Origin) → ((c : Origin) × (b ≡ Some c) × (Based m u d ≡ Based n v c)) ⊎ Has (Noted (Based m u d)) all → bases' u ≡ Some d
      noted m u d (inr h) = keeps u d (old.noted m u d h)
      noted m u d (inl k) =
          let e = k.2 in
          let a : u ≡ v = cc in
          let c : d ≡ k.0 = cc in
          ap bases' a ∙ set.here ∙ k.1 ∙ ap (λ z. Some z) (sym c)

      by_all : (m j : ℕ) (u : ViewId) (ns : List Member) (d : Origin) → bases' u ≡ Some d → ((m ≡ n) × (u ≡ v)) ⊎ Has (In m j u ns) (kept all) → Has (Noted (Based m u d)) (entered n x v ms ss b all)
      by_all m j u ns d e (inl q) =
          subst (λ (k : ℕ × ViewId). Has (Noted (Based k.0 k.1 d)) (entered n x v ms ss b all)) (λ z. (sym q.0 z, sym q.1 z)) (base_there n x v ms ss b (bases' v) d (sym set.here) (ap bases' (sym q.1) ∙ e))
      by_all m j u ns d e (inr h) =
          let ne : u ≡ v → ⊥ = λ s. found_new o nodes ps (kept all) log lead n x rs ss is good ok m j ns (subst (λ k. Has (In m j k ns) (kept all)) s h) in
          has_entered (Noted (Based m u d)) n x v ms ss b all (old.by_all m j u ns d h (sym (set.there u ne) ∙ e))

      installed : (u : ViewId) (d : Origin) → bases' u ≡ Some d → (u ≡ v) ⊎ (u ≡ v → ⊥) → (ns : List Member) × (ts : (ViewId → List Entry)) × Has (Install u ns ts) more
      installed u d e (inl s) = (ms, ss, inl (λ z. Install (s z) ms ss))
      installed u d e (inr ne) = let k = old.installed u d (sym (set.there u ne) ∙ e) in (k.0, k.1, inr k.2)

      -- nobody comes from the new view
      from_else : (u : ViewId) (r : Reply) → Has (Answer u r) ps → bases r.view ≡ bases' r.view
      from_else u r h =
          let was = (good.past.answers u r h).0.was in
          sym (set.there r.view (λ s. found_new o nodes ps (kept all) log lead n x rs ss is good ok r.node r.inc was.0 (subst (λ k. Has (In r.node r.inc k was.0) (kept all)) s was.1)))

      side_on : (ts : ViewId → List Entry) (u : ViewId) (r : Reply) → Has (Answer u r) ps → side_state bases ts r.view ≡ side_state bases' ts r.view
      side_on ts u r h = ap (λ k. fold_from r.view (base_state k) 0 (ts r.view)) (from_else u r h)

      Made' : ViewId → List Member → (ViewId → List Entry) → Type 0
      Made' u ns ts = (qs : List Reply) × (ns ≡ members_of qs) × ((r : Reply) → Has r qs → Has (Answer u r) more) × Longest qs ts × BaseIs qs ts (λ w. side_state bases' ts w) (bases' u)

      made_new : Made' v ms ss
      made_new = (rs, refl, (λ r i. inr (ok.sent r i)), ok.longest, subst (λ k. BaseIs rs ss (λ w. side_state bases' ss w) k) (sym set.here) (base_same rs ss (λ w. side_state bases ss w) (λ w. side_state bases' ss w) b (λ r i. side_on ss v r (ok.sent r i)) base))

      made_old : (u : ViewId) (ns : List Member) (ts : ViewId → List Entry) → Has (Install u ns ts) ps → Made' u ns ts
      made_old u ns ts h =
          let k = old.made u ns ts h in
          let ne : u ≡ v → ⊥ = λ s. none_yet ps (kept all) n x rs ss nodes log lead is good.inv ok ns ts (subst (λ w. Has (Install w ns ts) ps) s h) in
          (k.0, k.1, (λ r i. inr (k.2 r i)), k.3, subst (λ c. BaseIs k.0 ts (λ w. side_state bases' ts w) c) (sym (set.there u ne)) (base_same k.0 ts (λ w. side_state bases ts w) (λ w. side_state bases' ts w) (bases u) (λ r i. side_on ts u r (k.2 r i)) k.4))

      made : (u : ViewId) (ns : List Member) (ts : ViewId → List Entry) → Has (Install u ns ts) more → Made' u ns ts
      made u ns ts (inr h) = made_old u ns ts h
      made u ns ts (inl e) =
          let a : u ≡ v = cc in
          let c : ns ≡ ms = cc in
          let d : ts ≡ ss = cc in
          subst (λ (k : ViewId × List Member × (ViewId → List Entry)). Made' k.0 k.1 k.2) (λ z. (sym a z, sym c z, sym d z)) made_new
