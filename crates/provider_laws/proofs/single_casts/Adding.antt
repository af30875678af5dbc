-- What a node records as long as it stays in its view, and as it enters another.
use Rattle.std.proofs.Common.{◌≡◌, ◌⊎◌, ℕ, List, [], ◌∷◌, ◌++◌, Option, Some, None, refl, sym, ap, ◌∙◌, subst, inl, inr, ⊎_elim}
use Rattle.std.specs.Prelude.{flat_map, map}
use Rattle.rsct_packet.specs.declared.ids.ViewId.{ViewId}
use Rattle.rsct_packet.specs.declared.ids.ProviderId.{ProviderId}
use Rattle.rsct_packet.specs.declared.ids.ProtoId.{ProtoId}
use Rattle.rsct_packet.specs.Search.{Has}
use Rattle.rsct_packet.proofs.HasLaws.{has_append, has_map}
use Rattle.proposal_core.specs.declared.entry.Entry.{Entry}
use Rattle.proposal_core.specs.declared.group_state.GroupState.{GroupState}
use Rattle.client_callbacks.specs.declared.ballot.Filled.{Filled}
use Rattle.client_callbacks.specs.Ballots.{BallotView}
use Rattle.session_state.specs.declared.casts.Cast.{Cast}
use Rattle.session_state.specs.HandOn.{casts_out}
use Rattle.view_state.specs.declared.install.Install.{Install}
use Rattle.view_state.specs.declared.install.Base.{Base}
use Rattle.view_state.specs.Bases.{bases_of}
use Rattle.node_state.specs.declared.happened.Happened.{Happened}
use Rattle.node_state.specs.declared.happened.Happened.TheVariants as happened
use Rattle.node_state.specs.declared.state.Core.{Core}
use Rattle.node_state.specs.State.{state_of, len_of, with_row, held_rows, recorded, recorded_all, with_sessions}
use Rattle.node_state.specs.HandOn.{cast_record, cast_records, heard}
use Rattle.node_state.specs.Leading.{put}
use Rattle.view_state.specs.Views.{views_entered}
use Rattle.node_state.specs.Applying.{base_record, view_entered, dissolved}
use Rattle.run_safety.specs.ViewOrder.{Lt, Le}
use Rattle.run_safety.proofs.Order.{lt_refl, lt_le, le_trans, le_antisym, lt_not_same}
use Rattle.row_laws.specs.hearing.Changes.{Inner, entering, Does, Stays, Then, Records, Hands, Loses, Joins, Votes, Enters}
use Rattle.row_laws.proofs.hearing.Attending.{heard_at}
use Rattle.row_laws.proofs.hearing.Viewing.{sides_stand}
use Rattle.provider_laws.proofs.attending.Sides.{sides_keep}

-- ---- views

pub entering_view : (s : Core) (i : Install) → (entering s i).views.view ≡ i.view
unfolding view_entered views_entered recorded_all
entering_view s i = ap (λ z. z.view) (sides_stand (view_entered s i (bases_of i)) (held_rows s) s.views.view (bases_of i)).views

pub does_view : (s t : Core) → Does s t → Le s.views.view t.views.view
unfolding recorded with_sessions recorded_all put with_row
does_view _ _ (Stays s t same) = subst (Le s.views.view) (sym same.view) (lt_refl s.views.view)
does_view _ _ (Then s t u a b) = le_trans s.views.view t.views.view u.views.view (does_view s t a) (does_view t u b)
does_view _ _ (Records s r a) = lt_refl s.views.view
does_view _ _ (Hands s c h e bs o same) = subst (Le s.views.view) (sym same.view) (lt_refl s.views.view)
does_view _ _ (Loses s t f) = lt_refl s.views.view
does_view _ _ (Joins s t g instance attrs none) = lt_refl s.views.view
does_view _ _ (Votes s x o b found opened unkept) = lt_refl s.views.view
does_view _ _ (Enters s i lt none) = subst (Le s.views.view) (sym (entering_view s i)) (lt_le s.views.view i.view lt)

pub does_me : (s t : Core) → Does s t → t.views.me ≡ s.views.me
unfolding recorded with_sessions recorded_all put with_row view_entered views_entered
does_me _ _ (Stays s t same) = same.me
does_me _ _ (Then s t u a b) = does_me t u b ∙ does_me s t a
does_me _ _ (Records s r a) = refl
does_me _ _ (Hands s c h e bs o same) = same.me
does_me _ _ (Loses s t f) = refl
does_me _ _ (Joins s t g instance attrs none) = refl
does_me _ _ (Votes s x o b found opened unkept) = refl
does_me _ _ (Enters s i lt none) = ap (λ z. z.me) (sides_stand (view_entered s i (bases_of i)) (held_rows s) s.views.view (bases_of i)).views

-- what ends in its view was in it all the time
pub between : (s t u : Core) → Does s t → Does t u → u.views.view ≡ s.views.view → t.views.view ≡ s.views.view
between s t u a b e =
    le_antisym t.views.view s.views.view (subst (Le t.views.view) e (does_view t u b)) (does_view s t a)

pub no_entering : (s : Core) (i : Install) → Lt s.views.view i.view → (entering s i).views.view ≡ s.views.view → ⊥
no_entering s i lt e = lt_not_same s.views.view i.view lt (sym e ∙ entering_view s i)

-- ---- records

-- puts in the view, and nothing of starts, stops, views and bases
abbrev pub Own : ViewId → Happened → Type 0
Own v (happened.Up n j) = ⊥
Own v (happened.Down n) = ⊥
Own v (happened.In n u ms) = ⊥
Own v (happened.Base n u g old len s) = ⊥
Own v (happened.Put n u g i e) = u ≡ v
Own v _ = Unit {0}

inner_own : (v : ViewId) (r : Happened) → Inner r → Own v r
inner_own v (happened.Up n j) a = absurd a
inner_own v (happened.Down n) a = absurd a
inner_own v (happened.In n u ms) a = absurd a
inner_own v (happened.Base n u g old len s) a = absurd a
inner_own v (happened.Put n u g i e) a = absurd a
inner_own v _ a = tt

-- what is heard and cast with a notice
abbrev pub Voiced : Happened → Type 0
Voiced (happened.Heard p u g i e ms value) = Unit {0}
Voiced (happened.Cast p proto phase vote value message) = Unit {0}
Voiced _ = ⊥

pub all_voiced : (v : ViewId) (h : List ℕ) (i : ℕ) (e : Entry) (st : GroupState) (cs : List Cast) (r : Happened) → Has r (flat_map (heard_at v h i e st) cs) → Voiced r
unfolding cast_records cast_record
all_voiced v h i e st [] r k = absurd k
all_voiced v h i e st (c ∷ cs) r k =
    ⊎_elim (λ (a : Has r (heard_at v h i e st c)). one c.cast a) (λ (a : Has r (flat_map (heard_at v h i e st) cs)). all_voiced v h i e st cs r a) (has_append r (heard_at v h i e st c) (flat_map (heard_at v h i e st) cs) k)
  where
    cast : (y : ProtoId × ℕ × BallotView) (b : Option Filled) → Has r (cast_record c.provider y.0 y.1 b) → Voiced r
    cast y None a = absurd a
    cast y (Some f) (inl q) = subst Voiced (sym q) tt
    cast y (Some f) (inr z) = absurd z

    one : (o : Option (ProtoId × ℕ × BallotView)) → Has r (happened.Heard c.provider v h i e st.members st.value ∷ cast_records c.provider o) → Voiced r
    one o (inl q) = subst Voiced (sym q) tt
    one None (inr a) = absurd a
    one (Some y) (inr a) = cast y (y.2).filled a

voiced_own : (v : ViewId) (r : Happened) → Voiced r → Own v r
voiced_own v (happened.Heard p u g i e ms value) a = tt
voiced_own v (happened.Cast p proto phase vote value message) a = tt
voiced_own v _ a = absurd a

-- one more at the end
last_more : (r q : Happened) (rs : List Happened) → Has r (rs ++ q ∷ []) → Has r rs ⊎ (r ≡ q)
last_more r q rs h = ⊎_elim (λ (a : Has r rs). inl a) (λ (a : Has r (q ∷ [])). only a) (has_append r rs (q ∷ []) h)
  where
    only : Has r (q ∷ []) → Has r rs ⊎ (r ≡ q)
    only (inl e) = inr e
    only (inr z) = absurd z

-- what is recorded within a view
pub quiet_adds : (s t : Core) → Does s t → t.views.view ≡ s.views.view → (r : Happened) → Has r t.records → Has r s.records ⊎ Own s.views.view r
unfolding recorded with_sessions recorded_all put with_row heard
quiet_adds _ _ (Stays s t same) e r h = inl (subst (Has r) same.records h)
quiet_adds _ _ (Then s t u a b) e r h =
    let m : t.views.view ≡ s.views.view = between s t u a b e in
    ⊎_elim (λ (k : Has r t.records). quiet_adds s t a m r k) (λ (k : Own t.views.view r). inr (subst (λ v. Own v r) m k)) (quiet_adds t u b (e ∙ sym m) r h)
quiet_adds _ _ (Records s q a) e r h =
    ⊎_elim (λ (k : Has r s.records). inl k) (λ (k : r ≡ q). inr (subst (Own s.views.view) (sym k) (inner_own s.views.view q a))) (last_more r q s.records h)
quiet_adds _ _ (Hands s c g x bs o same) e r h =
    ⊎_elim (λ (k : Has r c.records). put_too (subst (Has r) same.records k)) (λ k. inr (voiced_own s.views.view r (all_voiced c.views.view g (len_of s g) x (state_of (put s g x) g) (casts_out c.sessions g (state_of s g) (state_of (put s g x) g) x bs) r k))) (has_append r c.records _ h)
  where
    put_too : Has r (s.records ++ happened.Put s.views.me s.views.view g (len_of s g) x ∷ []) → Has r s.records ⊎ Own s.views.view r
    put_too k = ⊎_elim (λ (z : Has r s.records). inl z) (λ (z : r ≡ happened.Put s.views.me s.views.view g (len_of s g) x). inr (subst (Own s.views.view) (sym z) refl)) (last_more r (happened.Put s.views.me s.views.view g (len_of s g) x) s.records k)
quiet_adds _ _ (Loses s t f) e r h = inl h
quiet_adds _ _ (Joins s t g instance attrs none) e r h = inl h
quiet_adds _ _ (Votes s x o b found opened unkept) e r h =
    let q : Happened = happened.Cast x.provider o.proto o.phase b.vote b.value b.message in
    ⊎_elim (λ (k : Has r s.records). inl k) (λ (k : r ≡ q). inr (subst (Own s.views.view) (sym k) tt)) (last_more r q s.records h)
quiet_adds _ _ (Enters s i lt none) e r h = absurd (no_entering s i lt e)

-- what is recorded as a view is entered
pub entering_adds : (s : Core) (i : Install) (r : Happened) → Has r (entering s i).records → Has r s.records ⊎ ((r ≡ happened.In s.views.me i.view i.members) ⊎ (((b : Base) × Has b (bases_of i) × (r ≡ happened.Base s.views.me i.view b.name b.from b.len b.state)) ⊎ Inner r))
unfolding view_entered views_entered recorded_all base_record dissolved recorded with_sessions
entering_adds s i r = sides_keep (λ c. Has r c.records → Goal) tells (held_rows s) s.views.view bs (view_entered s i bs) first
  where
    bs : List Base
    bs = bases_of i

    Goal : Type 0
    Goal =
        Has r s.records ⊎ ((r ≡ happened.In s.views.me i.view i.members) ⊎ (((b : Base) × Has b bs × (r ≡ happened.Base s.views.me i.view b.name b.from b.len b.state)) ⊎ Inner r))

    tells : (c : Core) (p : ProviderId) (k : ℕ) → (Has r c.records → Goal) → Has r (dissolved c p k).records → Goal
    tells c p k old h = ⊎_elim (λ (a : Has r c.records). old a) (λ a. inr (inr (inr (subst Inner (sym a) tt)))) (last_more r _ c.records h)

    first : Has r (view_entered s i bs).records → Goal
    first h = ⊎_elim (λ (a : Has r s.records). inl a) (λ a. new a) (has_append r s.records (happened.In s.views.me i.view i.members ∷ map _ bs) h)
      where
        new : Has r (happened.In s.views.me i.view i.members ∷ map (λ (b : Base). happened.Base s.views.me i.view b.name b.from b.len b.state) bs) → Goal
        new (inl q) = inr (inl q)
        new (inr k) = let m = has_map (λ (b : Base). happened.Base s.views.me i.view b.name b.from b.len b.state) r bs k in inr (inr (inl (m.0, m.1, m.2)))
