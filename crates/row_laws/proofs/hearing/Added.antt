-- What the changes of a step add to the records of a node: they are only added, and by none of them a node starts.
use Rattle.std.proofs.Common.{◌≡◌, ◌⊎◌, ℕ, List, [], ◌∷◌, ◌++◌, Option, Some, None, Bool, true, false, refl, sym, ap, ◌∙◌, subst, inl, inr, ⊎_elim, append-nil, append_assoc}
use Rattle.std.specs.Prelude.{not, ◌&&◌, reverse, map, fold, flat_map, if◌then◌else◌}
use Rattle.std.specs.Str.{bytes_eq}
use Rattle.std.proofs.lemmas.Bool.{eq-eqb}
use Rattle.rsct_packet.specs.declared.ids.ViewId.{ViewId}
use Rattle.rsct_packet.specs.Search.{Has}
use Rattle.rsct_packet.proofs.HasLaws.{has_append, append_has_left, has_map}
use Rattle.proposal_core.specs.declared.entry.Entry.{Entry}
use Rattle.proposal_core.specs.declared.group_state.GroupState.{GroupState}
use Rattle.proposal_core.specs.Fold.{present}
use Rattle.proposal_core.specs.Lists.{state_in}
use Rattle.rsct_packet.specs.declared.ids.ProtoId.{ProtoId}
use Rattle.client_callbacks.specs.declared.ballot.Filled.{Filled}
use Rattle.client_callbacks.specs.Ballots.{BallotView}
use Rattle.session_state.specs.declared.casts.Cast.{Cast}
use Rattle.session_state.specs.declared.state.OpenPhase.{OpenPhase}
use Rattle.session_state.specs.declared.state.Provider.{Provider}
use Rattle.session_state.specs.State.{provider_of, outstanding}
use Rattle.session_state.specs.HandOn.{casts_out}
use Rattle.client_callbacks.specs.declared.told.Why.TheVariants.{Dissolved}
use Rattle.view_state.specs.declared.install.Install.{Install}
use Rattle.view_state.specs.declared.install.Base.{Base}
use Rattle.view_state.specs.Bases.{bases_of, base_named}
use Rattle.view_state.specs.Views.{views_entered}
use Rattle.node_state.specs.declared.group.GroupRow.{GroupRow}
use Rattle.node_state.specs.declared.happened.Happened.{Happened}
use Rattle.node_state.specs.declared.happened.Happened.TheVariants as happened
use Rattle.node_state.specs.declared.state.Core.{Core}
use Rattle.node_state.specs.State.{with_row, state_of, len_of, held_rows, recorded, recorded_all, with_sessions}
use Rattle.node_state.specs.HandOn.{cast_record, cast_records, heard}
use Rattle.node_state.specs.Leading.{put}
use Rattle.node_state.specs.Applying.{base_record, view_entered, is_in_base, number_of, dissolved, dissolved_if, group_dissolved, sides_dissolved}
use Rattle.run_safety.specs.Past.{History, earlier, view_now, inc_now}
use Rattle.row_laws.specs.hearing.Changes.{Same, Aside, Inner, handing, voting, Does, Stays, Then, Records, Hands, Loses, Joins, Votes, Enters}
use Rattle.row_laws.proofs.hearing.Changes.{inner_aside}
use Rattle.row_laws.proofs.hearing.Attending.{pushed, pushed_reverse}

-- no node starts, stops or enters a view
abbrev pub Still : Happened → Type 0
Still (happened.Up n j) = ⊥
Still (happened.Down n) = ⊥
Still (happened.In n v ms) = ⊥
Still _ = Unit {0}

inner_still : (r : Happened) → Inner r → Still r
inner_still (happened.Up n j) a = absurd a
inner_still (happened.Down n) a = absurd a
inner_still (happened.In n v ms) a = absurd a
inner_still _ a = tt

-- where a node is stays
abbrev Where : ℕ → List Happened → Option ViewId × ℕ
Where n rs = (view_now n rs, inc_now n rs)

still_place : (n : ℕ) (r : Happened) (rs : List Happened) → Still r → Where n (r ∷ rs) ≡ Where n rs
still_place n (happened.Up m j) rs a = absurd a
still_place n (happened.Down m) rs a = absurd a
still_place n (happened.In m v ms) rs a = absurd a
still_place n _ rs a = refl

pushed_place : (n : ℕ) (rs now : List Happened) (before : History) → ((r : Happened) → Has r rs → Still r) → Where n (earlier (pushed rs now) before) ≡ Where n (earlier now before)
pushed_place n [] now before still = refl
pushed_place n (r ∷ rs) now before still =
    pushed_place n rs (r ∷ now) before (λ q h. still q (inr h)) ∙ still_place n r (earlier now before) (still r (inl refl))

-- ---- records of one kind are added

pub record Adds (P : Happened → Type 0) (c d : Core) : Type 0 where
  pub more : List Happened
  pub is : d.records ≡ c.records ++ more
  pub all : (r : Happened) → Has r more → P r

module _ (P : Happened → Type 0) where
  adds_same : (c d : Core) → d.records ≡ c.records → Adds P c d
  adds_same c d e = record { more = []; is = e ∙ sym (append-nil c.records); all = λ r h. absurd h }

  adds_then : (a b c : Core) → Adds P a b → Adds P b c → Adds P a c
  adds_then a b c x y =
      record {
        more = x.more ++ y.more;
        is = y.is ∙ ap (λ z. z ++ y.more) x.is ∙ append_assoc a.records x.more y.more;
        all = λ r h. ⊎_elim (λ (i : Has r x.more). x.all r i) (λ (i : Has r y.more). y.all r i) (has_append r x.more y.more h);
      }

  adds_fold : {A : Type 0} (f : Core → A → Core) → ((c : Core) (x : A) → Adds P c (f c x)) → (xs : List A) (c : Core) → Adds P c (fold f c xs)
  adds_fold f one [] c = adds_same c c refl
  adds_fold f one (x ∷ xs) c = adds_then c (f c x) (fold f (f c x) xs) (one c x) (adds_fold f one xs (f c x))

dissolved_adds : (c : Core) (h : List ℕ) (old : ViewId) (b : Option Base) (o : Option Provider) → Adds Inner c (dissolved_if c h old b o)
unfolding dissolved_if dissolved recorded with_sessions
dissolved_adds c h old b None = adds_same Inner c c refl
dissolved_adds c h old b (Some x) = by (x.takes_part && bytes_eq x.group h && not (is_in_base old x.provider b))
  where
    told : Happened
    told = happened.Told x.provider (number_of (outstanding c.sessions x.provider)) Dissolved

    one : (r : Happened) → Has r (told ∷ []) → Inner r
    one r (inl e) = subst Inner (sym e) tt
    one r (inr z) = absurd z

    by : (t : Bool) → Adds Inner c (elim t as (λ _. Core) [ true ↦ dissolved c x.provider (number_of (outstanding c.sessions x.provider)) | false ↦ c ])
    by true = record { more = told ∷ []; is = refl; all = one }
    by false = adds_same Inner c c refl

pub sides_add : (c : Core) (rows : List GroupRow) (old : ViewId) (bs : List Base) → Adds Inner c (sides_dissolved c rows old bs)
unfolding sides_dissolved group_dissolved
sides_add c rows old bs =
    adds_fold Inner (group_dissolved old bs) (λ t row. adds_fold Inner (λ (u : Core) p. dissolved_if u row.name old (base_named bs row.name) (provider_of u.sessions p)) (λ u p. dissolved_adds u row.name old (base_named bs row.name) (provider_of u.sessions p)) (present (state_in row.list)) t) rows c

base_still : (c : Core) (bs : List Base) (r : Happened) → Has r (map (base_record c) bs) → Still r × Aside r
unfolding base_record
base_still c bs r h = let q = has_map (base_record c) r bs h in (subst Still (sym q.2) tt, subst Aside (sym q.2) tt)

entered_adds : (s : Core) (i : Install) (bs : List Base) → Adds Aside s (view_entered s i bs)
unfolding view_entered recorded_all base_record views_entered
entered_adds s i bs = record { more = happened.In s.views.me i.view i.members ∷ map (base_record t) bs; is = refl; all = aside }
  where
    t : Core
    t = view_entered s i bs

    aside : (r : Happened) → Has r (happened.In s.views.me i.view i.members ∷ map (base_record t) bs) → Aside r
    aside r (inl e) = subst Aside (sym e) tt
    aside r (inr h) = (base_still t bs r h).1

pub enters_add : (s : Core) (i : Install) → Adds Aside s (sides_dissolved (view_entered s i (bases_of i)) (held_rows s) s.views.view (bases_of i))
enters_add s i =
    let bs : List Base = bases_of i in
    let a = sides_add (view_entered s i bs) (held_rows s) s.views.view bs in
    adds_then Aside s (view_entered s i bs) (sides_dissolved (view_entered s i bs) (held_rows s) s.views.view bs) (entered_adds s i bs) (record { more = a.more; is = a.is; all = λ r h. inner_aside r (a.all r h) })

-- the node that enters is in the view, and no incarnation is another
module _ (s : Core) (i : Install) (m : ℕ) (before : History) where
  abbrev new_bases : List Base
  new_bases = bases_of i

  abbrev inside : Core
  inside = view_entered s i new_bases

  abbrev left_with : Core
  left_with = sides_dissolved inside (held_rows s) s.views.view new_bases

  abbrev entering : Happened
  entering = happened.In s.views.me i.view i.members

  at_entering : Where m (earlier (reverse left_with.records) before) ≡ Where m (earlier (entering ∷ reverse s.records) before)
  unfolding view_entered recorded_all views_entered base_record
  at_entering =
      let a : Adds Inner inside left_with = sides_add inside (held_rows s) s.views.view new_bases in
      ap (λ z. Where m (earlier z before)) (ap reverse a.is ∙ pushed_reverse a.more inside.records) ∙ pushed_place m a.more (reverse inside.records) before (λ r h. inner_still r (a.all r h)) ∙ ap (λ z. Where m (earlier z before)) (pushed_reverse (entering ∷ map (base_record inside) new_bases) s.records) ∙ pushed_place m (map (base_record inside) new_bases) (entering ∷ reverse s.records) before (λ r h. (base_still inside new_bases r h).0)

  pub enters_inc : inc_now m (earlier (reverse left_with.records) before) ≡ inc_now m (earlier (reverse s.records) before)
  enters_inc = ap (λ z. z.1) at_entering

  pub enters_view : s.views.me ≡ m → view_now m (earlier (reverse left_with.records) before) ≡ Some i.view
  enters_view me = ap (λ z. z.0) at_entering ∙ ap (λ b. if b then Some i.view else view_now m (earlier (reverse s.records) before)) (eq-eqb s.views.me m me)

-- what is put and handed on moves no node
heards_still : (c : Core) (h : List ℕ) (i : ℕ) (e : Entry) (after : GroupState) (cs : List Cast) (r : Happened) → Has r (flat_map (heard c h i e after) cs) → Still r
unfolding heard cast_records cast_record
heards_still c h i e after [] r k = absurd k
heards_still c h i e after (x ∷ cs) r k = by (has_append r (heard c h i e after x) (flat_map (heard c h i e after) cs) k) (heards_still c h i e after cs r)
  where
    filled : (y : ProtoId × ℕ × BallotView) (b : Option Filled) → Has r (cast_record x.provider y.0 y.1 b) → Still r
    filled y None j = absurd j
    filled y (Some b) (inl q) = subst Still (sym q) tt
    filled y (Some b) (inr z) = absurd z

    casts : (o : Option (ProtoId × ℕ × BallotView)) → Has r (cast_records x.provider o) → Still r
    casts None j = absurd j
    casts (Some y) j = filled y (y.2).filled j

    by : Has r (heard c h i e after x) ⊎ Has r (flat_map (heard c h i e after) cs) → (Has r (flat_map (heard c h i e after) cs) → Still r) → Still r
    by (inl (inl q)) rest = subst Still (sym q) tt
    by (inl (inr j)) rest = casts x.cast j
    by (inr j) rest = rest j

pub handing_adds : (s c : Core) (h : List ℕ) (e : Entry) (bs : List (Option Filled)) → Same (put s h e) c → Adds Still s (handing c h (len_of s h) (state_of s h) (state_of (put s h e) h) e bs)
unfolding put recorded recorded_all with_sessions with_row
handing_adds s c h e bs same =
    record {
      more = r ∷ rs;
      is = ap (λ z. z ++ rs) same.records ∙ append_assoc s.records (r ∷ []) rs;
      all = λ q k. all q k;
    }
  where
    r : Happened
    r = happened.Put s.views.me s.views.view h (len_of s h) e

    rs : List Happened
    rs = flat_map (heard c h (len_of s h) e (state_of (put s h e) h)) (casts_out c.sessions h (state_of s h) (state_of (put s h e) h) e bs)

    all : (q : Happened) → Has q (r ∷ rs) → Still q
    all q (inl k) = subst Still (sym k) tt
    all q (inr k) = heards_still c h (len_of s h) e (state_of (put s h e) h) (casts_out c.sessions h (state_of s h) (state_of (put s h e) h) e bs) q k

pub still_adds : (before : History) (m : ℕ) (c d : Core) → Adds Still c d → Where m (earlier (reverse d.records) before) ≡ Where m (earlier (reverse c.records) before)
still_adds before m c d a =
    ap (λ z. Where m (earlier z before)) (ap reverse a.is ∙ pushed_reverse a.more c.records) ∙ pushed_place m a.more (reverse c.records) before a.all

pub record_added : (s : Core) (r : Happened) → Inner r → Adds Still s (recorded s r)
unfolding recorded
record_added s r a = record { more = r ∷ []; is = refl; all = λ q h. ⊎_elim (λ (e : q ≡ r). subst Still (sym e) (inner_still r a)) (λ (z : ⊥). absurd z) h }

pub vote_added : (s : Core) (x : Provider) (o : OpenPhase) (b : Filled) → Adds Still s (voting s x o b)
unfolding recorded with_sessions
vote_added s x o b =
    record { more = happened.Cast x.provider o.proto o.phase b.vote b.value b.message ∷ []; is = refl; all = λ q h. ⊎_elim (λ (e : q ≡ happened.Cast x.provider o.proto o.phase b.vote b.value b.message). subst Still (sym e) tt) (λ (z : ⊥). absurd z) h }

-- ---- records are only added

pub does_grow : (s t : Core) → Does s t → (r : Happened) → Has r s.records → Has r t.records
unfolding recorded with_sessions put recorded_all with_row
does_grow _ _ (Stays s t same) r h = subst (Has r) (sym same.records) h
does_grow _ _ (Then s t u a b) r h = does_grow t u b r (does_grow s t a r h)
does_grow _ _ (Records s q a) r h = append_has_left r s.records (q ∷ []) h
does_grow _ _ (Hands s c g e bs o same) r h =
    append_has_left r c.records _ (subst (Has r) (sym same.records) (append_has_left r s.records (happened.Put s.views.me s.views.view g (len_of s g) e ∷ []) h))
does_grow _ _ (Loses s t f) r h = h
does_grow _ _ (Joins s t g instance attrs none) r h = h
does_grow _ _ (Votes s x o b found opened unkept) r h = append_has_left r s.records _ h
does_grow _ _ (Enters s i lt none) r h = let a = enters_add s i in subst (Has r) (sym a.is) (append_has_left r s.records a.more h)

-- ---- no step starts a node

pub does_incs : (m : ℕ) (before : History) (s t : Core) → Does s t → inc_now m (earlier (reverse t.records) before) ≡ inc_now m (earlier (reverse s.records) before)
unfolding with_sessions
does_incs m before _ _ (Stays s t same) = ap (λ z. inc_now m (earlier (reverse z) before)) same.records
does_incs m before _ _ (Then s t u a b) = does_incs m before t u b ∙ does_incs m before s t a
does_incs m before _ _ (Records s r a) = ap (λ z. z.1) (still_adds before m s (recorded s r) (record_added s r a))
does_incs m before _ _ (Hands s c h e bs o same) = ap (λ z. z.1) (still_adds before m s _ (handing_adds s c h e bs same))
does_incs m before _ _ (Loses s t f) = refl
does_incs m before _ _ (Joins s t g instance attrs none) = refl
does_incs m before _ _ (Votes s x o b found opened unkept) = ap (λ z. z.1) (still_adds before m s (voting s x o b) (vote_added s x o b))
does_incs m before _ _ (Enters s i lt none) = enters_inc s i m before
