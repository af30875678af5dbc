-- What a provider heard, by its records: the latest of it, at which place, in which view.
use Rattle.std.proofs.Common.{◌≡◌, ◌⊎◌, inl, inr, ℕ, ◌+◌, ◌<◌, ◌≤◌, Bool, true, false, List, [], ◌∷◌, ◌++◌, length, Option, Some, None, refl, sym, ap, subst, ◌∙◌, arith}
use Rattle.std.specs.Prelude.{◌&&◌, IsTrue, if◌then◌else◌}
use Rattle.std.specs.Str.{bytes_eq}
use Rattle.std.proofs.lemmas.Bool.{or_parts, eqb-true}
use Rattle.rsct_packet.specs.declared.ids.ViewId.{ViewId}
use Rattle.rsct_packet.specs.declared.ids.Member.{Member}
use Rattle.rsct_packet.specs.declared.ids.ProviderId.{ProviderId}
use Rattle.rsct_packet.specs.Ids.{same_view}
use Rattle.rsct_packet.specs.Providers.{same_provider}
use Rattle.rsct_packet.specs.Search.{Has}
use Rattle.rsct_packet.proofs.HasLaws.{has_append, append_has_left, append_has_right}
use Rattle.proposal_core.specs.declared.entry.Entry.{Entry}
use Rattle.view_state.proofs.ViewOrder.{same_view_is}
use Rattle.node_state.specs.declared.happened.Happened.{Happened}
use Rattle.node_state.specs.declared.happened.Happened.TheVariants as happened
use Rattle.node_state.proofs.NameOrder.{text_same}
use Rattle.world_model.specs.Run.{Happening}
use Rattle.run_safety.specs.Past.{History, EachEvent, Within, records_of, view_now, inc_now, puts_of}
use Rattle.run_safety.specs.SafeHeard.{AllHear, is_after, heard_count}
use Rattle.run_safety.specs.Sight.{inc_in}
use Rattle.run_safety.specs.Stays.{is_join_of, stays, part, lets_go, was_let_go}
use Rattle.run_safety.specs.ViewOrder.{Le}
use Rattle.run_safety.proofs.HeardLaw.{get_within}
use Rattle.run_safety.proofs.Order.{le_antisym}
use Rattle.step_refinement.proofs.SessionLaws.{provider_same, provider_self}
use Rattle.row_laws.specs.hearing.Hearing.{last_heard}
use Rattle.row_laws.proofs.hearing.Attending.{heard_own}
use Rattle.provider_laws.specs.attending.Places.{IsNext}
use Rattle.run_laws.specs.seen_runs.Seen.{Seen, SeenAt, HeardSeen}
use Rattle.run_laws.proofs.seen_runs.Law.{seen_after}
use Rattle.run_laws.proofs.failed_causes.Records.{Every}
use Rattle.hearing_laws.specs.Walk.{Hearing, heard_by}
use Rattle.hearing_laws.proofs.Views.{latest_is, put_get, view_in, view_latest}
use Rattle.hearing_laws.proofs.Stays.{IsHeardBy, joined_put}

pub next_is : (p : ProviderId) (e : Entry) (i : ℕ) (l : Option ℕ) (n : ℕ) → l ≡ Some n → IsNext p e l i → i ≡ n + 1
next_is p e i None n q z = absurd (cc)
next_is p e i (Some x) n q z = let same : x ≡ n = cc in z ∙ ap (λ w. w + 1) same

module _ (p : ProviderId) where
  -- ---- the latest

  pub record Latest (rs : List Happened) (a : Hearing) (rest : List Hearing) : Type 0 where
    pub newer : List Happened
    pub older : List Happened
    pub members : List ProviderId
    pub value : List ℕ
    pub is : rs ≡ newer ++ happened.Heard p a.view a.group a.place a.entry members value ∷ older
    pub none : heard_by p newer ≡ []
    pub before : heard_by p older ≡ rest

  latest_more : (r : Happened) (rs : List Happened) (a : Hearing) (rest : List Hearing) → ((ys : List Happened) → heard_by p ys ≡ [] → heard_by p (r ∷ ys) ≡ []) → Latest rs a rest → Latest (r ∷ rs) a rest
  latest_more r rs a rest quiet k =
      record { newer = r ∷ k.newer; older = k.older; members = k.members; value = k.value; is = λ z. r ∷ k.is z; none = quiet k.newer k.none; before = k.before }

  pub latest : (rs : List Happened) (a : Hearing) (rest : List Hearing) → heard_by p rs ≡ a ∷ rest → Latest rs a rest
  latest [] a rest q = absurd (cc)
  latest (happened.Heard o v g i e ms value ∷ rs) a rest q = by (λ z. latest rs a rest z) (same_provider o p) refl q
    where
      here : Hearing
      here = record { view = v; group = g; place = i; entry = e }

      by : (heard_by p rs ≡ a ∷ rest → Latest rs a rest) → (b : Bool) → same_provider o p ≡ b → (if b then here ∷ heard_by p rs else heard_by p rs) ≡ a ∷ rest → Latest (happened.Heard o v g i e ms value ∷ rs) a rest
      by old true t z =
          let own : o ≡ p = provider_same o p t in
          let head : here ≡ a = cc in
          let tail : heard_by p rs ≡ rest = cc in
          record {
            newer = [];
            older = rs;
            members = ms;
            value = value;
            is = λ j. happened.Heard (own j) ((head j).view) ((head j).group) ((head j).place) ((head j).entry) ms value ∷ rs;
            none = refl;
            before = tail;
          }
      by old false t z =
          latest_more (happened.Heard o v g i e ms value) rs a rest (λ ys k. ap (λ b. if b then here ∷ heard_by p ys else heard_by p ys) t ∙ k) (old z)
  latest (r ∷ rs) a rest q = latest_more r rs a rest (λ ys k. k) (latest rs a rest q)

  -- where nothing was heard nothing is recorded
  pub heard_some : (v : ViewId) (g : List ℕ) (i : ℕ) (e : Entry) (ms : List ProviderId) (value : List ℕ) (rs : List Happened) → Has (happened.Heard p v g i e ms value) rs → heard_by p rs ≡ [] → ⊥
  heard_some v g i e ms value [] h q = absurd h
  heard_some v g i e ms value (r ∷ rs) (inl z) q =
      let own : heard_by p (happened.Heard p v g i e ms value ∷ rs) ≡ record { view = v; group = g; place = i; entry = e } ∷ heard_by p rs = ap (λ b. if b then record { view = v; group = g; place = i; entry = e } ∷ heard_by p rs else heard_by p rs) (provider_self p) in
      let none : heard_by p (happened.Heard p v g i e ms value ∷ rs) ≡ [] = subst (λ y. heard_by p (y ∷ rs) ≡ []) (sym z) q in
      absurd (cc)
  heard_some v g i e ms value (happened.Heard o u k j f os val ∷ rs) (inr h) q = by (λ z. heard_some v g i e ms value rs h z) (same_provider o p) q
    where
      by : (heard_by p rs ≡ [] → ⊥) → (b : Bool) → (if b then record { view = u; group = k; place = j; entry = f } ∷ heard_by p rs else heard_by p rs) ≡ [] → ⊥
      by old true z = absurd (cc)
      by old false z = old z
  heard_some v g i e ms value (r ∷ rs) (inr h) q = heard_some v g i e ms value rs h q

  pub heard_skip : (newer older : List Happened) → ((v : ViewId) (g : List ℕ) (i : ℕ) (e : Entry) (ms : List ProviderId) (value : List ℕ) → Has (happened.Heard p v g i e ms value) newer → ⊥) → heard_by p (newer ++ older) ≡ heard_by p older
  heard_skip [] older none = refl
  heard_skip (happened.Heard o v g i e ms value ∷ newer) older none = by (heard_skip newer older (λ u k j f os val h. none u k j f os val (inr h))) (same_provider o p) refl
    where
      by : heard_by p (newer ++ older) ≡ heard_by p older → (b : Bool) → same_provider o p ≡ b → (if b then record { view = v; group = g; place = i; entry = e } ∷ heard_by p (newer ++ older) else heard_by p (newer ++ older)) ≡ heard_by p older
      by rest true t = absurd (none v g i e ms value (inl (λ j. happened.Heard (sym (provider_same o p t) j) v g i e ms value)))
      by rest false t = rest
  heard_skip (r ∷ newer) older none = heard_skip newer older (λ u k j f os val h. none u k j f os val (inr h))

  -- ---- of one list

  -- the place that was heard last, where the newer records have nothing of the provider
  last_skip : (v : ViewId) (g : List ℕ) (newer older : List Happened) → heard_by p newer ≡ [] → last_heard p v g (newer ++ older) ≡ last_heard p v g older
  last_skip v g [] older none = refl
  last_skip v g (happened.Heard o u k i e ms value ∷ newer) older none = by (λ z. last_skip v g newer older z) (same_provider o p) refl none
    where
      by : (heard_by p newer ≡ [] → last_heard p v g (newer ++ older) ≡ last_heard p v g older) → (b : Bool) → same_provider o p ≡ b → (if b then record { view = u; group = k; place = i; entry = e } ∷ heard_by p newer else heard_by p newer) ≡ [] → last_heard p v g (happened.Heard o u k i e ms value ∷ newer ++ older) ≡ last_heard p v g older
      by rest true t z = absurd (cc)
      by rest false t z = ap (λ b. if b && (same_view u v && bytes_eq k g) then Some i else last_heard p v g (newer ++ older)) t ∙ rest z
  last_skip v g (r ∷ newer) older none = last_skip v g newer older none

  pub last_is : (rs : List Happened) (a : Hearing) (rest : List Hearing) → Latest rs a rest → last_heard p a.view a.group rs ≡ Some a.place
  last_is rs a rest k =
      ap (last_heard p a.view a.group) k.is ∙ last_skip a.view a.group k.newer (happened.Heard p a.view a.group a.place a.entry k.members k.value ∷ k.older) k.none
      ∙ heard_own p a.view a.group a.place a.entry k.members k.value k.older

  -- places rise
  pub record UpTo (v : ViewId) (g : List ℕ) (i : ℕ) (rs : List Happened) : Type 0 where
    pub last : ℕ
    pub is : last_heard p v g rs ≡ Some last
    pub reaches : i ≤ last

  pub heard_upto : (v : ViewId) (g : List ℕ) (i : ℕ) (e : Entry) (ms : List ProviderId) (value : List ℕ) (rs : List Happened) → Seen rs → Has (happened.Heard p v g i e ms value) rs → UpTo v g i rs
  heard_upto v g i e ms value [] s h = absurd h
  heard_upto v g i e ms value (r ∷ rs) s (inl q) =
      record { last = i; is = ap (λ z. last_heard p v g (z ∷ rs)) (sym q) ∙ heard_own p v g i e ms value rs; reaches = omega arith }
  heard_upto v g i e ms value (happened.Heard o u k j f os val ∷ rs) s (inr h) = by (heard_upto v g i e ms value rs s.1 h) (same_provider o p) (same_view u v) (bytes_eq k g) refl refl refl
    where
      by : UpTo v g i rs → (a b c : Bool) → same_provider o p ≡ a → same_view u v ≡ b → bytes_eq k g ≡ c → UpTo v g i (happened.Heard o u k j f os val ∷ rs)
      by old true true true x y z =
          let own : o ≡ p = provider_same o p x in
          let view : u ≡ v = same_view_is u v y in
          let name : k ≡ g = text_same k g z in
          let at : HeardSeen rs (happened.Heard p v g j f os val) = subst (λ (w : ProviderId × ViewId × List ℕ). HeardSeen rs (happened.Heard w.0 w.1 w.2 j f os val)) (λ t. (own t, view t, name t)) s.0.heard in
          let next : j ≡ old.last + 1 = next_is p f j (last_heard p v g rs) old.last old.is at.1 in
          let le : i ≤ old.last = old.reaches in
          record { last = j; is = λ t. if x t && (y t && z t) then Some j else last_heard p v g rs; reaches = omega (arith, next, le) }
      by old true true false x y z = record { last = old.last; is = (λ t. if x t && (y t && z t) then Some j else last_heard p v g rs) ∙ old.is; reaches = old.reaches }
      by old true false c x y z = record { last = old.last; is = (λ t. if x t && (y t && bytes_eq k g) then Some j else last_heard p v g rs) ∙ old.is; reaches = old.reaches }
      by old false b c x y z = record { last = old.last; is = (λ t. if x t && (same_view u v && bytes_eq k g) then Some j else last_heard p v g rs) ∙ old.is; reaches = old.reaches }
  heard_upto v g i e ms value (r ∷ rs) s (inr h) = let old = heard_upto v g i e ms value rs s.1 h in record { last = old.last; is = old.is; reaches = old.reaches }

  -- what is not heard is counted nowhere
  pub count_none : (v : ViewId) (g : List ℕ) (rs : List Happened) → ((i : ℕ) (e : Entry) (ms : List ProviderId) (value : List ℕ) → Has (happened.Heard p v g i e ms value) rs → ⊥) → heard_count p v g rs ≡ 0
  count_none v g [] none = refl
  count_none v g (happened.Heard o u k j f os val ∷ rs) none = by (count_none v g rs (λ i e ms value h. none i e ms value (inr h))) (same_provider o p) (same_view u v) (bytes_eq k g) refl refl refl
    where
      by : heard_count p v g rs ≡ 0 → (a b c : Bool) → same_provider o p ≡ a → same_view u v ≡ b → bytes_eq k g ≡ c → (if a && (b && c) then heard_count p v g rs + 1 else heard_count p v g rs) ≡ 0
      by old true true true x y z = absurd (none j f os val (inl (λ t. happened.Heard (sym (provider_same o p x) t) (sym (same_view_is u v y) t) (sym (text_same k g z) t) j f os val)))
      by old true true false x y z = old
      by old true false c x y z = old
      by old false b c x y z = old
  count_none v g (r ∷ rs) none = count_none v g rs (λ i e ms value h. none i e ms value (inr h))

  -- ---- whoever hears is up, in a view that its node entered, and joined there

  pub record Hears (v : ViewId) (g : List ℕ) (i : ℕ) (e : Entry) (rs : List Happened) : Type 0 where
    pub members : List Member
    pub entered : Has (happened.In p.node v members) rs
    pub inc : inc_in p.node members ≡ p.inc
    pub put : Has (happened.Put p.node v g i e) rs
    pub view : ViewId
    pub place : ℕ
    pub entry : Entry
    pub begun : Has (happened.Put p.node view g place entry) rs
    pub joins : is_join_of p entry ≡ true

  pub first_of : (count i : ℕ) (o : Option ℕ) → IsTrue (is_after count o i) → (f : ℕ) × (o ≡ Some f) × (i ≡ f + count)
  first_of count i None k = absurd (let z : false ≡ true = k in cc)
  first_of count i (Some f) k = (f, refl, eqb-true i (f + count) k)

  hears_at : (v : ViewId) (g : List ℕ) (i : ℕ) (e : Entry) (ms : List ProviderId) (value : List ℕ) (rs : List Happened) → SeenAt rs (happened.Heard p v g i e ms value) → Seen rs → Hears v g i e rs
  hears_at v g i e ms value rs at s =
      let k = view_in p.node rs s v at.heard.2.0 in
      let f = first_of (heard_count p v g rs) i (part p (stays p.node g rs)).first at.takes_part.0 in
      let j = joined_put p g rs f.0 f.1 in
      record {
        members = k.0;
        entered = k.1;
        inc = k.2 ∙ at.heard.2.1;
        put = (latest_is rs s p.node v g i e at.heard.0).there;
        view = j.0;
        place = j.1;
        entry = j.2;
        begun = j.3;
        joins = j.4;
      }

  hears_more : (v : ViewId) (g : List ℕ) (i : ℕ) (e : Entry) (r : Happened) (rs : List Happened) → Hears v g i e rs → Hears v g i e (r ∷ rs)
  hears_more v g i e r rs k =
      record { members = k.members; entered = inr k.entered; inc = k.inc; put = inr k.put; view = k.view; place = k.place; entry = k.entry; begun = inr k.begun; joins = k.joins }

  pub hears : (v : ViewId) (g : List ℕ) (i : ℕ) (e : Entry) (ms : List ProviderId) (value : List ℕ) (rs : List Happened) → Seen rs → Has (happened.Heard p v g i e ms value) rs → Hears v g i e rs
  hears v g i e ms value [] s h = absurd h
  hears v g i e ms value (r ∷ rs) s (inl q) = hears_more v g i e r rs (hears_at v g i e ms value rs (subst (SeenAt rs) (sym q) s.0) s.1)
  hears v g i e ms value (r ∷ rs) s (inr h) = hears_more v g i e r rs (hears v g i e ms value rs s.1 h)

  -- what is heard since the node entered a view is of that view or a later one
  pub heard_since : (v w : ViewId) (ns : List Member) (g : List ℕ) (i : ℕ) (e : Entry) (ms : List ProviderId) (value : List ℕ) → inc_in p.node ns ≡ p.inc → (newer rs : List Happened) → Seen (newer ++ rs) → Has (happened.In p.node v ns) rs → Has (happened.Heard p w g i e ms value) newer → Le v w
  heard_since v w ns g i e ms value inc [] rs s there h = absurd h
  heard_since v w ns g i e ms value inc (r ∷ newer) rs s there (inr h) = heard_since v w ns g i e ms value inc newer rs s.1 there h
  heard_since v w ns g i e ms value inc (r ∷ newer) rs s there (inl q) =
      let at : HeardSeen (newer ++ rs) (happened.Heard p w g i e ms value) = subst (HeardSeen (newer ++ rs)) (sym q) s.0.heard in
      view_latest p.node (newer ++ rs) s.1 w at.2.0 v ns (append_has_right (happened.In p.node v ns) newer rs there) (inc ∙ sym at.2.1)

  -- ---- the latest of what was heard in the view that the node is in

  pub record Newest (v : ViewId) (m : ℕ) (rs : List Happened) : Type 0 where
    pub hearing : Hearing
    pub rest : List Hearing
    pub is : heard_by p rs ≡ hearing ∷ rest
    pub view : hearing.view ≡ v
    pub place : hearing.place ≡ m

  -- what is recorded before the latest is of the latest's view, where the node is in that one
  pub older_view : (v : ViewId) (g : List ℕ) (i : ℕ) (e : Entry) (ms : List ProviderId) (value : List ℕ) (rs : List Happened) → Seen rs → view_now p.node rs ≡ Some v → inc_now p.node rs ≡ p.inc
      → (a : Hearing) (rest : List Hearing) (k : Latest rs a rest) → Has (happened.Heard p v g i e ms value) k.older → a.view ≡ v
  older_view v g i e ms value rs s now inc a rest k h =
      let cut : Seen (k.newer ++ happened.Heard p a.view a.group a.place a.entry k.members k.value ∷ k.older) = subst Seen k.is s in
      let there = seen_after k.newer (happened.Heard p a.view a.group a.place a.entry k.members k.value ∷ k.older) cut in
      let old = hears v g i e ms value k.older there.1 h in
      let mine = hears_at a.view a.group a.place a.entry k.members k.value k.older there.0 there.1 in
      let low : Le v a.view = view_latest p.node k.older there.1 a.view there.0.heard.2.0 v old.members old.entered (old.inc ∙ sym there.0.heard.2.1) in
      let all : Has (happened.In p.node a.view mine.members) rs = subst (Has (happened.In p.node a.view mine.members)) (sym k.is) (append_has_right (happened.In p.node a.view mine.members) k.newer (happened.Heard p a.view a.group a.place a.entry k.members k.value ∷ k.older) (inr mine.entered)) in
      let high : Le a.view v = view_latest p.node rs s v now a.view mine.members all (mine.inc ∙ sym inc) in
      le_antisym a.view v high low

  pub newest : (v : ViewId) (g : List ℕ) (m : ℕ) (e : Entry) (ms : List ProviderId) (value : List ℕ) (rs : List Happened) → Seen rs → view_now p.node rs ≡ Some v → inc_now p.node rs ≡ p.inc → length (puts_of p.node v g rs) ≡ m + 1
      → ((w : ViewId) (k : List ℕ) (i : ℕ) (f : Entry) (os : List ProviderId) (val : List ℕ) → Has (happened.Heard p w k i f os val) rs → k ≡ g) → Has (happened.Heard p v g m e ms value) rs → Newest v m rs
  newest v g m e ms value rs s now inc len one h = by (heard_by p rs) refl
    where
      of : (a : Hearing) (rest : List Hearing) → heard_by p rs ≡ a ∷ rest → Latest rs a rest → Newest v m rs
      of a rest q k = at (has_append (happened.Heard p v g m e ms value) k.newer (happened.Heard p a.view a.group a.place a.entry k.members k.value ∷ k.older) (subst (Has (happened.Heard p v g m e ms value)) k.is h))
        where
          cut : Seen (k.newer ++ happened.Heard p a.view a.group a.place a.entry k.members k.value ∷ k.older)
          cut = subst Seen k.is s

          there : Seen (happened.Heard p a.view a.group a.place a.entry k.members k.value ∷ k.older)
          there = seen_after k.newer (happened.Heard p a.view a.group a.place a.entry k.members k.value ∷ k.older) cut

          whole : (y : Happened) → Has y (happened.Heard p a.view a.group a.place a.entry k.members k.value ∷ k.older) → Has y rs
          whole y z = subst (Has y) (sym k.is) (append_has_right y k.newer (happened.Heard p a.view a.group a.place a.entry k.members k.value ∷ k.older) z)

          later : (view : a.view ≡ v) → Has (happened.Heard p v g m e ms value) k.older → Newest v m rs
          later view z =
              let name : a.group ≡ g = one a.view a.group a.place a.entry k.members k.value (whole (happened.Heard p a.view a.group a.place a.entry k.members k.value) (inl refl)) in
              let up : UpTo v g m k.older = heard_upto v g m e ms value k.older there.1 z in
              let next : a.place ≡ up.last + 1 = next_is p a.entry a.place (last_heard p a.view a.group k.older) up.last (subst (λ (w : ViewId × List ℕ). last_heard p w.0 w.1 k.older ≡ Some up.last) (λ j. (sym view j, sym name j)) up.is) there.0.heard.1 in
              let put : Has (happened.Put p.node a.view a.group a.place a.entry) rs = whole (happened.Put p.node a.view a.group a.place a.entry) (inr (hears_at a.view a.group a.place a.entry k.members k.value k.older there.0 there.1).put) in
              let below : a.place < length (puts_of p.node a.view a.group rs) = get_within a.place a.entry (puts_of p.node a.view a.group rs) (put_get rs s p.node a.view a.group a.place a.entry put) in
              let same : length (puts_of p.node a.view a.group rs) ≡ m + 1 = (λ j. length (puts_of p.node (view j) (name j) rs)) ∙ len in
              let reaches : m ≤ up.last = up.reaches in
              absurd (omega (arith, next, below, same, reaches))

          at : Has (happened.Heard p v g m e ms value) k.newer ⊎ Has (happened.Heard p v g m e ms value) (happened.Heard p a.view a.group a.place a.entry k.members k.value ∷ k.older) → Newest v m rs
          at (inl z) = absurd (heard_some v g m e ms value k.newer z k.none)
          at (inr (inl z)) =
              let view : a.view ≡ v = cc in
              let place : a.place ≡ m = cc in
              record { hearing = a; rest = rest; is = q; view = view; place = place }
          at (inr (inr z)) = later (older_view v g m e ms value rs s now inc a rest k z) z

      by : (xs : List Hearing) → heard_by p rs ≡ xs → Newest v m rs
      by [] q = absurd (heard_some v g m e ms value rs h q)
      by (a ∷ rest) q = of a rest q (latest rs a rest q)

-- ---- each put is heard, unless the provider was let go before

within_heard : (p : ProviderId) (all : List Happened) (e : Happening) (before : History) → was_let_go p before ≡ false → ((y : Happened) → Has y e.records → Has y all) → (now : List Happened) → Within (AllHear e) now before → Every (IsHeardBy p all) (records_of before) → Every (IsHeardBy p all) (now ++ records_of before)
within_heard p all e before spared more [] k old = old
within_heard p all e before spared more (r ∷ now) k old = (one r k.0, within_heard p all e before spared more now k.1 old)
  where
    one : (r : Happened) → AllHear e now before r → IsHeardBy p all (now ++ records_of before) r
    one (happened.Put n v g i f) a = λ own takes. let z = a p own takes spared in (z.0, z.1, more (happened.Heard p v g i f z.0 z.1) z.2)
    one _ a = tt

pub puts_heard : (p : ProviderId) (all : List Happened) (e : Happening) (before : History) → was_let_go p before ≡ false → ((y : Happened) → Has y (records_of (e ∷ before)) → Has y all) → EachEvent (λ event before. Within (AllHear event) event.records before) (e ∷ before) → Every (IsHeardBy p all) (records_of (e ∷ before))
puts_heard p all e [] spared more k = within_heard p all e [] spared (λ y h. more y (append_has_left y e.records [] h)) e.records k.0 tt
puts_heard p all e (x ∷ older) spared more k =
    within_heard p all e (x ∷ older) spared (λ y h. more y (append_has_left y e.records (records_of (x ∷ older)) h)) e.records k.0
    (puts_heard p all x older (or_parts (lets_go p x older) (was_let_go p older) spared).1 (λ y h. more y (append_has_right y e.records (records_of (x ∷ older)) h)) k.1)
