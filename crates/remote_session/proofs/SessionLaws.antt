-- The sessions of all keys as a map.
use Rattle.std.proofs.Common.{◌≡◌, ℕ, Bool, true, false, cond, [], ◌∷◌, ◌++◌, Option, Some, None, nat_eq, is_some, refl, sym, ap, ◌∙◌, eqb-true}
use Rattle.std.specs.Prelude.{unwrap_or}
use Rattle.std.specs.Cmp.{nat_eq_equiv}
use Rattle.std.proofs.lemmas.Bool.{eq-eqb, ne_eqb}
use Rattle.std.proofs.lemmas.Map.{lookup-set_value}
use Rattle.remote_session.specs.declared.session.Session.{Session}
use Rattle.remote_session.specs.Daemon.{Sessions, session_of, edited, edited_as, kept, new_session}

pub none_of : {A : Type 0} (o : Option A) → is_some o ≡ false → o ≡ None
none_of None e = refl
none_of (Some x) e = absurd cc

-- a key that comes is the last
pub kept_new : (key : ℕ) (sessions : Sessions) → session_of key sessions ≡ None → kept key sessions ≡ sessions ++ (key, new_session) ∷ []
unfolding kept
kept_new key sessions e = rw e refl

kept_old : (key : ℕ) (sessions : Sessions) (s : Session) → session_of key sessions ≡ Some s → kept key sessions ≡ sessions
unfolding kept
kept_old key sessions s e = rw e refl

pushed_other : (k key : ℕ) (s : Session) (sessions : Sessions) → (k ≡ key → ⊥) → session_of k (sessions ++ (key, s) ∷ []) ≡ session_of k sessions
pushed_other k key s [] ne = rw (ne_eqb k key ne) refl
pushed_other k key s (x ∷ xs) ne = ap (λ (r : Option Session). cond (nat_eq k x.0) (Some x.1) r) (pushed_other k key s xs ne)

pushed_head : (b : Bool) (x s : Session) (o p : Option Session) → (o ≡ None → p ≡ Some s) → cond b (Some x) o ≡ None → cond b (Some x) p ≡ Some s
pushed_head true x s o p ih e = absurd cc
pushed_head false x s o p ih e = ih e

pushed_same : (key : ℕ) (s : Session) (sessions : Sessions) → session_of key sessions ≡ None → session_of key (sessions ++ (key, s) ∷ []) ≡ Some s
pushed_same key s [] e = rw (eq-eqb key key refl) refl
pushed_same key s (x ∷ xs) e = pushed_head (nat_eq key x.0) x.1 s (session_of key xs) (session_of key (xs ++ (key, s) ∷ [])) (pushed_same key s xs) e

-- a key that is kept has its session, or a new one
pub kept_same : (key : ℕ) (sessions : Sessions) → session_of key (kept key sessions) ≡ Some (unwrap_or (session_of key sessions) new_session)
kept_same key sessions = by (session_of key sessions) refl
  where
    by : (o : Option Session) → session_of key sessions ≡ o → session_of key (kept key sessions) ≡ Some (unwrap_or o new_session)
    by None e = ap (session_of key) (kept_new key sessions e) ∙ pushed_same key new_session sessions e
    by (Some s) e = ap (session_of key) (kept_old key sessions s e) ∙ e

pub kept_other : (k key : ℕ) (sessions : Sessions) → (k ≡ key → ⊥) → session_of k (kept key sessions) ≡ session_of k sessions
kept_other k key sessions ne = by (session_of key sessions) refl
  where
    by : (o : Option Session) → session_of key sessions ≡ o → session_of k (kept key sessions) ≡ session_of k sessions
    by None e = ap (session_of k) (kept_new key sessions e) ∙ pushed_other k key new_session sessions ne
    by (Some s) e = ap (session_of k) (kept_old key sessions s e)

edited_is : (key : ℕ) (f : Session → Session) (sessions : Sessions) (o : Option Session) → session_of key sessions ≡ o → edited key f sessions ≡ edited_as key f sessions o
unfolding edited
edited_is key f sessions o e = ap (λ (p : Option Session). edited_as key f sessions p) e

written : (k key : ℕ) (w s : Session) (sessions : Sessions) → session_of key sessions ≡ Some s → session_of k (edited_as key (λ (t : Session). w) sessions (Some s)) ≡ cond (nat_eq key k) (Some w) (session_of k sessions)
written k key w s sessions e =
    lookup-set_value nat_eq_equiv (nat_eq key) (λ x y t. let same : key ≡ x = eqb-true key x t in ap (λ (z : ℕ). nat_eq z y) same) k w sessions (rw e refl)

pub edited_same : (key : ℕ) (f : Session → Session) (sessions : Sessions) (s : Session) → session_of key sessions ≡ Some s → session_of key (edited key f sessions) ≡ Some (f s)
edited_same key f sessions s e =
    ap (session_of key) (edited_is key f sessions (Some s) e) ∙ (written key key (f s) s sessions e ∙ rw (eq-eqb key key refl) refl)

pub edited_other : (k key : ℕ) (f : Session → Session) (sessions : Sessions) → (k ≡ key → ⊥) → session_of k (edited key f sessions) ≡ session_of k sessions
edited_other k key f sessions ne = by (session_of key sessions) refl
  where
    by : (o : Option Session) → session_of key sessions ≡ o → session_of k (edited key f sessions) ≡ session_of k sessions
    by None e = ap (session_of k) (edited_is key f sessions None e)
    by (Some s) e =
        ap (session_of k) (edited_is key f sessions (Some s) e)
        ∙ (written k key (f s) s sessions e ∙ rw (ne_eqb key k (λ (h : key ≡ k). ne (sym h))) refl)
