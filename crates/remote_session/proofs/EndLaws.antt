-- Which keys have ended, and which sessions are left.
use Rattle.std.proofs.Common.{◌≡◌, ℕ, Bool, true, false, cond, List, [], ◌∷◌, ◌++◌, Option, Some, None, nat_eq, refl, sym, ap, ◌∙◌, eqb-true}
use Rattle.std.specs.Prelude.{not, ◌||◌}
use Rattle.std.proofs.lemmas.Bool.{eq-eqb, ne_eqb}
use Rattle.remote_session.specs.declared.session.Session.{Session}
use Rattle.remote_session.specs.Daemon.{Sessions, session_of, is_ended}
use Rattle.remote_session.specs.Ending.{without, with_ended}

-- the session of a key that ended is gone

pub without_same : (key : ℕ) (sessions : Sessions) → session_of key (without key sessions) ≡ None
unfolding without
without_same key [] = refl
without_same key (e ∷ es) = by (without_same key es) (nat_eq key e.0) refl
  where
    by : session_of key (without key es) ≡ None → (b : Bool) → nat_eq key e.0 ≡ b → session_of key (cond (not b) (e ∷ without key es) (without key es)) ≡ None
    by rest true is = rest
    by rest false is = ap (λ (t : Bool). cond t (Some e.1) (session_of key (without key es))) is ∙ rest

pub without_other : (k key : ℕ) (sessions : Sessions) → (k ≡ key → ⊥) → session_of k (without key sessions) ≡ session_of k sessions
unfolding without
without_other k key [] ne = refl
without_other k key (e ∷ es) ne = by (without_other k key es ne) (nat_eq key e.0) refl
  where
    by : session_of k (without key es) ≡ session_of k es → (b : Bool) → nat_eq key e.0 ≡ b → session_of k (cond (not b) (e ∷ without key es) (without key es)) ≡ cond (nat_eq k e.0) (Some e.1) (session_of k es)
    by rest true is =
        let other : nat_eq k e.0 ≡ false = ne_eqb k e.0 (λ (h : k ≡ e.0). ne (h ∙ sym (eqb-true key e.0 is))) in
        rest ∙ sym (ap (λ (t : Bool). cond t (Some e.1) (session_of k es)) other)
    by rest false is = ap (λ (o : Option Session). cond (nat_eq k e.0) (Some e.1) o) rest

-- it is among those that ended, and no other is beside those that were

any_pushed : (k key : ℕ) (ended : List ℕ) → is_ended k (ended ++ key ∷ []) ≡ (is_ended k ended || nat_eq k key)
any_pushed k key [] = by (nat_eq k key)
  where
    by : (b : Bool) → (b || false) ≡ (false || b)
    by true = refl
    by false = refl
any_pushed k key (x ∷ xs) = by (any_pushed k key xs) (nat_eq k x)
  where
    by : is_ended k (xs ++ key ∷ []) ≡ (is_ended k xs || nat_eq k key) → (b : Bool) → (b || is_ended k (xs ++ key ∷ [])) ≡ ((b || is_ended k xs) || nat_eq k key)
    by rest true = refl
    by rest false = rest

pub ended_same : (key : ℕ) (ended : List ℕ) → is_ended key (with_ended key ended) ≡ true
ended_same key ended = by (is_ended key ended) refl
  where
    last : (b : Bool) → (b || true) ≡ true
    last true = refl
    last false = refl

    by : (b : Bool) → is_ended key ended ≡ b → is_ended key (cond b ended (ended ++ key ∷ [])) ≡ true
    by true is = is
    by false is = any_pushed key key ended ∙ (ap (λ (t : Bool). is_ended key ended || t) (eq-eqb key key refl) ∙ last (is_ended key ended))

pub ended_other : (k key : ℕ) (ended : List ℕ) → (k ≡ key → ⊥) → is_ended k (with_ended key ended) ≡ is_ended k ended
ended_other k key ended ne = by (is_ended key ended) refl
  where
    none : (b : Bool) → (b || false) ≡ b
    none true = refl
    none false = refl

    by : (b : Bool) → is_ended key ended ≡ b → is_ended k (cond b ended (ended ++ key ∷ [])) ≡ is_ended k ended
    by true is = refl
    by false is = any_pushed k key ended ∙ (ap (λ (t : Bool). is_ended k ended || t) (ne_eqb k key ne) ∙ none (is_ended k ended))
