-- Each happening keeps what holds of a world.
use Rattle.std.proofs.Common.{◌≡◌, ℕ, ◌+◌, ◌<◌, ◌≤◌, ◌⊎◌, Bool, true, false, cond, List, [], ◌∷◌, ◌++◌, length, Option, Some, None, refl, sym, ap, subst, inl, inr, arith}
use Rattle.std.specs.Prelude.{◌==◌, nat_lt, nat_le, is_none, unwrap_or, slice_get}
use Rattle.std.proofs.lemmas.Bool.{ltb-true, leb-true, eqb-true, eqb-false, and_parts}
use Rattle.std.proofs.lemmas.List.{length_push}
use Rattle.rsct_packet.specs.Fields.{IsU32}
use Rattle.rsct_packet.specs.Ids.{last_u32}
use Rattle.remote_session.specs.Messages.{max_line, up_text}
use Rattle.remote_session.specs.Client.{FarState, far_new, may_call, far_called, up_from}
use Rattle.remote_session.specs.World.{World, with_far, is_key, is_line, added}
use Rattle.remote_session.proofs.ListLaws.{prefix_then, get_last, added_same, added_other, added_grows}
use Rattle.remote_session.proofs.Parts.{Lines, CallOk, FarIs, FarOk, UpIs, Fine, up_kept}

-- an end in its key's place
pub put_far : (called : ℕ → Lines) (answered : ℕ → List Bool) (told : ℕ → ℕ → List Bool) (events : ℕ → ℕ → Lines) (fars : ℕ → Option FarState) (key : ℕ) (f : FarState)
    → FarIs (called key) (answered key) (λ l. told l key) (λ l. events l key) key f
    → ((k : ℕ) → (k ≡ key → ⊥) → FarOk (called k) (answered k) (λ l. told l k) (λ l. events l k) k (fars k))
    → (k : ℕ) → FarOk (called k) (answered k) (λ l. told l k) (λ l. events l k) k (with_far key f fars k)
unfolding with_far
put_far called answered told events fars key f own others k = by (k == key) refl
  where
    by : (b : Bool) → k == key ≡ b → FarOk (called k) (answered k) (λ l. told l k) (λ l. events l k) k (cond b (Some f) (fars k))
    by true e = subst (λ (j : ℕ). FarIs (called j) (answered j) (λ l. told l j) (λ l. events l j) j f) (sym (eqb-true k key e)) own
    by false e = others k (eqb-false k key e)

-- the end of a key

pub some_far : (w : World) (fine : Fine w) (key : ℕ) (f : FarState) → w.fars key ≡ Some f → FarIs (w.called key) (w.answered key) (λ l. w.told l key) (λ l. w.events l key) key f
some_far w fine key f e = subst (λ (o : Option FarState). FarOk (w.called key) (w.answered key) (λ l. w.told l key) (λ l. w.events l key) key o) e (fine.far key)

no_far : (w : World) (fine : Fine w) (key : ℕ) → w.fars key ≡ None → (w.called key ≡ []) × (w.answered key ≡ [])
no_far w fine key e = subst (λ (o : Option FarState). FarOk (w.called key) (w.answered key) (λ l. w.told l key) (λ l. w.events l key) key o) e (fine.far key)

pub none_is : {A : Type 0} (o : Option A) → is_none o ≡ true → o ≡ None
none_is None e = refl
none_is (Some x) e = absurd cc

key_fits : (key : ℕ) → is_key key ≡ true → IsU32 key
key_fits key e = let le = leb-true key last_u32 e in omega (arith, le)

-- a client's end begins
new_far : (w : World) (fine : Fine w) (key : ℕ) → is_key key ≡ true → w.fars key ≡ None → FarIs (w.called key) (w.answered key) (λ l. w.told l key) (λ l. w.events l key) key (far_new key)
unfolding far_new
new_far w fine key fits none =
    let n = no_far w fine key none in
    record {
      key_is = refl;
      key_fits = key_fits key fits;
      number_is = sym (ap length n.0);
      number_fits = omega arith;
      few = omega arith;
      call = sym (ap length n.1);
      hears = (refl, n.1);
    }

pub begins_fine : (w : World) (fine : Fine w) (key : ℕ) → is_key key ≡ true → w.fars key ≡ None → Fine (record w { fars = with_far key (far_new key) w.fars })
begins_fine w fine key fits none =
    record {
      life = fine.life;
      later = fine.later;
      session = fine.session;
      ended = fine.ended;
      given = fine.given;
      told = fine.told;
      short = fine.short;
      far = put_far w.called w.answered w.told w.events w.fars key (far_new key) (new_far w fine key fits none) (λ k ne. fine.far k);
      up = fine.up;
      down = fine.down;
    }

-- a client makes a call

may_call_is : (called : Lines) (answered : List Bool) (f : FarState) → may_call f ≡ true → CallOk called answered f.number f.calling → (f.number ≡ length answered) × (f.number < last_u32)
unfolding may_call
may_call_is called answered f e call =
    let p = and_parts (is_none f.calling) (nat_lt f.number last_u32) e in
    (subst (λ (o : Option (List ℕ)). CallOk called answered f.number o) (none_is f.calling p.0) call, ltb-true f.number last_u32 p.1)

called_far : (called : ℕ → Lines) (answered : List Bool) (told : ℕ → List Bool) (events : ℕ → Lines) (key : ℕ) (line : List ℕ) (f : FarState) → is_line line ≡ true → may_call f ≡ true
    → FarIs (called key) answered told events key f → FarIs (added key line called key) answered told events key (far_called line f)
unfolding far_called
called_far called answered told events key line f fits may h =
    let m = may_call_is (called key) answered f may h.call in
    let p = and_parts (nat_le 1 (length line)) (nat_le (length line) max_line) fits in
    let more : added key line called key ≡ called key ++ line ∷ [] = added_same line key key called refl in
    let len : length (called key ++ line ∷ []) ≡ length (called key) + 1 = length_push (called key) line in
    let number = h.number_is in
    let none = m.0 in
    let place : length answered ≡ length (called key) = omega (arith, number, none) in
    rw (may, more)
    (record {
      key_is = h.key_is;
      key_fits = h.key_fits;
      number_is = omega (arith, len, number);
      number_fits = omega (arith, m.1);
      few = h.few;
      call = record { number_is = omega (arith, none); line_is = rw place (get_last (called key) line); short = leb-true (length line) max_line p.1 };
      hears = h.hears;
    })

pub calls_fine : (w : World) (fine : Fine w) (key : ℕ) (line : List ℕ) (f : FarState) → w.fars key ≡ Some f → is_line line ≡ true → may_call f ≡ true → Fine (record w { fars = with_far key (far_called line f) w.fars; called = added key line w.called })
calls_fine w fine key line f is fits may =
    record {
      life = fine.life;
      later = fine.later;
      session = fine.session;
      ended = fine.ended;
      given = λ l k. prefix_then (w.given l k) (w.called k) (added key line w.called k) (fine.given l k) (added_grows line key w.called k);
      told = fine.told;
      short = fine.short;
      far =
          put_far (added key line w.called) w.answered w.told w.events w.fars key (far_called line f)
          (called_far w.called (w.answered key) (λ l. w.told l key) (λ l. w.events l key) key line f fits may (some_far w fine key f is))
          (λ k ne. subst (λ (c : Lines). FarOk c (w.answered k) (λ l. w.told l k) (λ l. w.events l k) k (w.fars k)) (sym (added_other line key k w.called ne)) (fine.far k));
      up = λ bytes h. up_kept w.called (added key line w.called) (added_grows line key w.called) bytes (fine.up bytes h);
      down = fine.down;
    }

-- an Up is sent

sent_line : (called : Lines) (answered : List Bool) (number : ℕ) (o : Option (List ℕ)) → CallOk called answered number o
    → (length (unwrap_or o []) ≤ max_line) × ((unwrap_or o [] ≡ []) ⊎ ((n : ℕ) × (number ≡ n + 1) × (slice_get called n ≡ Some (unwrap_or o []))))
sent_line called answered number None h = (omega arith, inl refl)
sent_line called answered number (Some line) h = (h.short, inr (length answered, h.number_is, h.line_is))

sent_up : (w : World) (fine : Fine w) (key : ℕ) (f : FarState) → w.fars key ≡ Some f → UpIs w.called (up_text (up_from f))
unfolding up_from
sent_up w fine key f is =
    let h = some_far w fine key f is in
    let s = sent_line (w.called key) (w.answered key) f.number f.calling h.call in
    record {
      up = up_from f;
      spelled = refl;
      fits = record { key = h.key_fits; number = let le = h.number_fits in omega (arith, le); ack = let le = h.few in omega (arith, le); line = s.0 };
      line = subst (λ (k : ℕ). (unwrap_or f.calling [] ≡ []) ⊎ ((n : ℕ) × (f.number ≡ n + 1) × (slice_get (w.called k) n ≡ Some (unwrap_or f.calling [])))) (sym h.key_is) s.1;
    }

pub sends_up_fine : (w : World) (fine : Fine w) (key : ℕ) (f : FarState) → w.fars key ≡ Some f → Fine (record w { ups = up_text (up_from f) ∷ w.ups })
sends_up_fine w fine key f is =
    record {
      life = fine.life;
      later = fine.later;
      session = fine.session;
      ended = fine.ended;
      given = fine.given;
      told = fine.told;
      short = fine.short;
      far = fine.far;
      up = λ bytes h. elim h [ inl e ↦ subst (UpIs w.called) (sym e) (sent_up w fine key f is) | inr t ↦ fine.up bytes t ];
      down = fine.down;
    }
