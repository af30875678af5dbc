-- Who is a provider of a node after a change was one before, or joined under a number that was not given yet.
use Rattle.std.proofs.Common.{◌≡◌, ◌≤◌, ◌<◌, ◌⊎◌, ℕ, ◌+◌, List, [], ◌∷◌, Option, Some, None, false, refl, sym, ap, ◌∙◌, subst, inl, inr, arith}
use Rattle.std.specs.Prelude.{find, is_none}
use Rattle.rsct_packet.specs.declared.ids.ProviderId.{ProviderId}
use Rattle.rsct_packet.specs.Search.{Has}
use Rattle.rsct_packet.proofs.HasLaws.{has_append, find_has, find_none}
use Rattle.client_callbacks.specs.declared.told.Why.TheVariants.{Dissolved}
use Rattle.client_callbacks.specs.declared.ballot.Filled.{Filled}
use Rattle.group_attr.specs.declared.attrs.Attrs.{Attrs}
use Rattle.proposal_core.specs.declared.entry.Entry.{Entry}
use Rattle.subscribe_core.specs.declared.subs.ClientToken.{ClientToken}
use Rattle.session_state.specs.declared.state.Provider.{Provider}
use Rattle.session_state.specs.declared.state.SessionState.{SessionState}
use Rattle.session_state.specs.State.{provider_of, is_provider}
use Rattle.session_state.specs.Calls.{join_asked, keeps, new_provider}
use Rattle.session_state.specs.HandOn.{handed_on, take_telling}
use Rattle.view_state.specs.declared.install.Install.{Install}
use Rattle.view_state.specs.declared.install.Base.{Base}
use Rattle.view_state.specs.Bases.{bases_of}
use Rattle.node_state.specs.declared.state.Core.{Core}
use Rattle.node_state.specs.State.{state_of, len_of, held_rows, with_row, recorded, recorded_all, with_sessions}
use Rattle.node_state.specs.Leading.{put}
use Rattle.node_state.specs.Applying.{level_set, view_entered, dissolved}
use Rattle.step_refinement.proofs.SessionLaws.{provider_self, provider_same, handed_later}
use Rattle.row_laws.specs.hearing.Changes.{Same, Fewer, handing, entering, Does, Stays, Then, Records, Hands, Loses, Joins, Votes, Enters}
use Rattle.row_laws.proofs.failed_rows.Living.{IsLive, Slimmer, told_slim, handed_slim}
use Rattle.provider_laws.proofs.attending.Sides.{sides_keep}
use Rattle.provider_laws.proofs.leaving.Left.{live_slim, told_kept}

pub record Comes (s t : SessionState) : Type 0 where
  pub last : s.last_request ≤ t.last_request
  pub back : (p : ProviderId) → IsLive t p → IsLive s p ⊎ (s.last_request < p.join)

pub comes_slim : (s t : SessionState) → Slimmer s t → t.last_request ≡ s.last_request → Comes s t
comes_slim s t k e = record { last = omega (arith, e); back = λ p l. inl (live_slim s t p k l) }

pub comes_same : (s t : SessionState) → t.providers ≡ s.providers → t.last_request ≡ s.last_request → Comes s t
comes_same s t e l = record { last = omega (arith, l); back = λ p k. inl (k.0, subst (Has k.0) e k.1, k.2) }

pub comes_then : (s t u : SessionState) → Comes s t → Comes t u → Comes s u
comes_then s t u a b = record { last = (let x = a.last in let y = b.last in omega (arith, x, y)); back = λ p l. by p (b.back p l) }
  where
    by : (p : ProviderId) → IsLive t p ⊎ (t.last_request < p.join) → IsLive s p ⊎ (s.last_request < p.join)
    by p (inl l) = a.back p l
    by p (inr k) = inr (let x = a.last in omega (arith, x, k))

-- who is a provider is found
pub live_found : (t : SessionState) (p : ProviderId) → IsLive t p → (x : Provider) × (provider_of t p ≡ Some x)
unfolding provider_of
live_found t p k = by (find (is_provider p) t.providers) refl
  where
    by : (o : Option Provider) → find (is_provider p) t.providers ≡ o → (x : Provider) × (find (is_provider p) t.providers ≡ Some x)
    by (Some x) e = (x, e)
    by None e = absurd (find_none (is_provider p) t.providers k.0 (ap is_none e) k.1 (ap (λ z. is_provider p (record (k.0) { provider = z })) k.2 ∙ provider_self p))

pub found_live : (t : SessionState) (p : ProviderId) (x : Provider) → provider_of t p ≡ Some x → IsLive t p
unfolding provider_of
found_live t p x e = let k = find_has (is_provider p) t.providers x e in (x, k.0, provider_same x.provider p k.1)

comes_fewer : (s t : SessionState) → Fewer s t → Comes s t
comes_fewer s t f = record { last = f.last; back = λ p l. inl (let z = live_found t p l in found_live s p z.0 (f.providers p z.0 z.1)) }

comes_joined : (s : SessionState) (t : ClientToken) (g : List ℕ) (instance : ℕ) (attrs : Attrs) → Comes s (join_asked s t g instance attrs)
unfolding join_asked
comes_joined s t g instance attrs = record { last = omega arith; back = λ p l. by p l.0 l.2 (has_append l.0 s.providers (x ∷ []) l.1) }
  where
    x : Provider
    x = record { provider = new_provider s instance; client = t; group = g; takes_part = false; opened = None }

    by : (p : ProviderId) (y : Provider) → y.provider ≡ p → Has y s.providers ⊎ Has y (x ∷ []) → IsLive s p ⊎ (s.last_request < p.join)
    by p y e (inl i) = inl (y, i, e)
    by p y e (inr (inl q)) = inr (let z : p.join ≡ s.last_request + 1 = ap (λ (a : ProviderId). a.join) (sym e) ∙ ap (λ (a : Provider). a.provider.join) q in omega (arith, z))
    by p y e (inr (inr z)) = absurd z

comes_enters : (s : Core) (i : Install) → Comes s.sessions (entering s i).sessions
unfolding view_entered recorded_all level_set dissolved recorded with_sessions
comes_enters s i = sides_keep (λ d. Comes s.sessions d.sessions) tells (held_rows s) s.views.view bs (view_entered s i bs) (comes_same s.sessions (view_entered s i bs).sessions refl refl)
  where
    bs : List Base
    bs = bases_of i

    tells : (d : Core) (p : ProviderId) (r : ℕ) → Comes s.sessions d.sessions → Comes s.sessions (dissolved d p r).sessions
    tells d p r k =
        comes_then s.sessions d.sessions (dissolved d p r).sessions k (comes_slim d.sessions (take_telling d.sessions p r Dissolved) (told_slim d.sessions p r Dissolved) (told_kept d.sessions p r Dissolved).0)

comes_hands : (s c : Core) (h : List ℕ) (e : Entry) (bs : List (Option Filled)) → Same (put s h e) c → Comes s.sessions (handing c h (len_of s h) (state_of s h) (state_of (put s h e) h) e bs).sessions
unfolding put recorded recorded_all with_sessions with_row
comes_hands s c h e bs same =
    subst (λ z. Comes z (handed_on c.sessions h (state_of s h) (state_of (put s h e) h) e bs)) same.sessions (comes_slim c.sessions (handed_on c.sessions h (state_of s h) (state_of (put s h e) h) e bs) (handed_slim c.sessions h (state_of s h) (state_of (put s h e) h) e bs) (handed_later c.sessions h (state_of s h) (state_of (put s h e) h) e bs).last)

pub comes_does : (s t : Core) → Does s t → Comes s.sessions t.sessions
unfolding recorded with_sessions
comes_does _ _ (Stays s t same) = comes_same s.sessions t.sessions (ap (λ (z : SessionState). z.providers) same.sessions) (ap (λ (z : SessionState). z.last_request) same.sessions)
comes_does _ _ (Then s t u a b) = comes_then s.sessions t.sessions u.sessions (comes_does s t a) (comes_does t u b)
comes_does _ _ (Records s r a) = comes_same s.sessions s.sessions refl refl
comes_does _ _ (Hands s c h e bs o same) = comes_hands s c h e bs same
comes_does _ _ (Loses s t f) = comes_fewer s.sessions t f
comes_does _ _ (Joins s t g instance attrs none) = comes_joined s.sessions t g instance attrs
comes_does _ _ (Votes s x o b found opened unkept) = comes_same s.sessions (keeps s.sessions x o b) refl refl
comes_does _ _ (Enters s i lt none) = comes_enters s i
