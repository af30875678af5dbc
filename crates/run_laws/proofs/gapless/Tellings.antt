-- As a view is entered, just those are told DISSOLVED who took part and do not live in the base.
use Rattle.std.proofs.Common.{◌≡◌, ◌⊎◌, ℕ, List, [], ◌∷◌, ◌++◌, Option, Some, None, Bool, true, false, refl, sym, ap, ◌∙◌, subst, inl, inr, ⊎_elim}
use Rattle.std.specs.Prelude.{not, ◌&&◌}
use Rattle.std.specs.Str.{bytes_eq}
use Rattle.rsct_packet.specs.declared.ids.ProviderId.{ProviderId}
use Rattle.rsct_packet.specs.declared.ids.ViewId.{ViewId}
use Rattle.rsct_packet.specs.Search.{Has}
use Rattle.rsct_packet.proofs.HasLaws.{has_append, append_has_left, append_has_right}
use Rattle.client_callbacks.specs.declared.told.Why.TheVariants.{Dissolved}
use Rattle.session_state.specs.declared.state.Provider.{Provider}
use Rattle.session_state.specs.declared.state.SessionState.{SessionState}
use Rattle.session_state.specs.State.{provider_of, outstanding}
use Rattle.session_state.specs.HandOn.{take_telling}
use Rattle.view_state.specs.declared.install.Base.{Base}
use Rattle.view_state.specs.Bases.{base_named}
use Rattle.node_state.specs.declared.group.GroupRow.{GroupRow}
use Rattle.node_state.specs.declared.happened.Happened.{Happened}
use Rattle.node_state.specs.declared.happened.Happened.TheVariants as happened
use Rattle.node_state.specs.declared.state.Core.{Core}
use Rattle.node_state.specs.State.{recorded, with_sessions}
use Rattle.node_state.specs.Applying.{is_in_base, number_of, dissolved, dissolved_if, sides_dissolved}
use Rattle.node_state.proofs.NameOrder.{text_same}
use Rattle.row_laws.proofs.hearing.Sessions.{found_is, fewer_told}
use Rattle.row_laws.proofs.failed_rows.Living.{IsLive, told_lives}
use Rattle.provider_laws.proofs.attending.Sides.{each_keep}

-- ---- who is told

-- a provider that takes part, and does not live in the base of its group
pub record Leaves (t : SessionState) (old : ViewId) (bs : List Base) (p : ProviderId) : Type 0 where
  pub provider : Provider
  pub found : provider_of t p ≡ Some provider
  pub takes : provider.takes_part ≡ true
  pub out : is_in_base old p (base_named bs provider.group) ≡ false

-- since the root nobody came in, and who was told leaves
record Told (root : Core) (old : ViewId) (bs : List Base) (c : Core) : Type 0 where
  back : (p : ProviderId) (x : Provider) → provider_of c.sessions p ≡ Some x → provider_of root.sessions p ≡ Some x
  told : (p : ProviderId) (r : ℕ) → Has (happened.Told p r Dissolved) c.records → Has (happened.Told p r Dissolved) root.records ⊎ Leaves root.sessions old bs p
  sends : c.sends ≡ root.sends

told_one : (root : Core) (old : ViewId) (bs : List Base) (c : Core) (g : List ℕ) (q : ProviderId) → Told root old bs c → Told root old bs (dissolved_if c g old (base_named bs g) (provider_of c.sessions q))
unfolding dissolved_if dissolved recorded with_sessions
told_one root old bs c g q k = by (provider_of c.sessions q) refl
  where
    by : (o : Option Provider) → provider_of c.sessions q ≡ o → Told root old bs (dissolved_if c g old (base_named bs g) o)
    by None e = k
    by (Some x) e = at x.takes_part (bytes_eq x.group g) (is_in_base old x.provider (base_named bs g)) refl refl refl
      where
        r : ℕ
        r = number_of (outstanding c.sessions x.provider)

        it : Happened
        it = happened.Told x.provider r Dissolved

        self : x.provider ≡ q
        self = found_is c.sessions q x e

        named : (p : ProviderId) (m : ℕ) → happened.Told p m Dissolved ≡ it → p ≡ x.provider
        named p m z = cc

        leaves : x.takes_part ≡ true → bytes_eq x.group g ≡ true → is_in_base old x.provider (base_named bs g) ≡ false → Leaves root.sessions old bs x.provider
        leaves a b d =
            record {
              provider = x;
              found = k.back x.provider x (ap (provider_of c.sessions) self ∙ e);
              takes = a;
              out = ap (λ z. is_in_base old x.provider (base_named bs z)) (text_same x.group g b) ∙ d;
            }

        one : Leaves root.sessions old bs x.provider → Told root old bs (dissolved c x.provider r)
        one l =
            record {
              back = λ p y f. k.back p y ((fewer_told c.sessions x.provider r Dissolved).providers p y f);
              told = λ p m h. ⊎_elim (k.told p m) (λ (i : Has (happened.Told p m Dissolved) (it ∷ [])). inr (new p m i)) (has_append (happened.Told p m Dissolved) c.records (it ∷ []) h);
              sends = k.sends;
            }
          where
            new : (p : ProviderId) (m : ℕ) → Has (happened.Told p m Dissolved) (it ∷ []) → Leaves root.sessions old bs p
            new p m (inl z) = subst (Leaves root.sessions old bs) (sym (named p m z)) l
            new p m (inr z) = absurd z

        at : (a b d : Bool) → x.takes_part ≡ a → bytes_eq x.group g ≡ b → is_in_base old x.provider (base_named bs g) ≡ d → Told root old bs (elim (a && b && not d) as (λ _. Core) [ true ↦ dissolved c x.provider r | false ↦ c ])
        at true true false a b d = one (leaves a b d)
        at true true true a b d = k
        at true false true a b d = k
        at true false false a b d = k
        at false true true a b d = k
        at false true false a b d = k
        at false false true a b d = k
        at false false false a b d = k

module _ (root : Core) (old : ViewId) (bs : List Base) (rows : List GroupRow) where
  all_told : Told root old bs (sides_dissolved root rows old bs)
  all_told =
      each_keep (Told root old bs) old bs (told_one root old bs) rows root (record { back = λ p x f. f; told = λ p r h. inl h; sends = refl })

  pub told_leaves : (p : ProviderId) (r : ℕ) → Has (happened.Told p r Dissolved) (sides_dissolved root rows old bs).records → Has (happened.Told p r Dissolved) root.records ⊎ Leaves root.sessions old bs p
  told_leaves p r h = all_told.told p r h

  pub sides_back : (p : ProviderId) (x : Provider) → provider_of (sides_dissolved root rows old bs).sessions p ≡ Some x → provider_of root.sessions p ≡ Some x
  sides_back p x q = all_told.back p x q

  pub sides_send : (sides_dissolved root rows old bs).sends ≡ root.sends
  sides_send = all_told.sends

-- ---- who is there stays, or is told

-- it is there, or was told
abbrev pub Stayed : ProviderId → Core → Type 0
Stayed p c = IsLive c.sessions p ⊎ ((r : ℕ) × Has (happened.Told p r Dissolved) c.records)

stays_one : (p : ProviderId) (old : ViewId) (bs : List Base) (c : Core) (g : List ℕ) (q : ProviderId) → Stayed p c → Stayed p (dissolved_if c g old (base_named bs g) (provider_of c.sessions q))
unfolding dissolved_if dissolved recorded with_sessions
stays_one p old bs c g q k = by (provider_of c.sessions q)
  where
    by : (o : Option Provider) → Stayed p (dissolved_if c g old (base_named bs g) o)
    by None = k
    by (Some x) = at (x.takes_part && bytes_eq x.group g && not (is_in_base old x.provider (base_named bs g))) k
      where
        r : ℕ
        r = number_of (outstanding c.sessions x.provider)

        it : Happened
        it = happened.Told x.provider r Dissolved

        here : (p ≡ x.provider) → Has (happened.Told p r Dissolved) (c.records ++ it ∷ [])
        here e = append_has_right (happened.Told p r Dissolved) c.records (it ∷ []) (inl (ap (λ z. happened.Told z r Dissolved) e))

        at : (b : Bool) → Stayed p c → Stayed p (elim b as (λ _. Core) [ true ↦ dissolved c x.provider r | false ↦ c ])
        at false s = s
        at true (inr h) = inr (h.0, append_has_left (happened.Told p h.0 Dissolved) c.records (it ∷ []) h.1)
        at true (inl l) = turn (told_lives c.sessions x.provider r Dissolved p l)
          where
            turn : {A : Type 0} → IsLive (take_telling c.sessions x.provider r Dissolved) p ⊎ ((p ≡ x.provider) × A) → Stayed p (dissolved c x.provider r)
            turn (inl a) = inl a
            turn (inr a) = inr (r, here a.0)

pub stays_or_told : (p : ProviderId) (old : ViewId) (bs : List Base) (rows : List GroupRow) (c : Core) → IsLive c.sessions p → Stayed p (sides_dissolved c rows old bs)
stays_or_told p old bs rows c l = each_keep (Stayed p) old bs (stays_one p old bs) rows c (inl l)
