-- Requests, refusals and what providers hear keep all parts.
use Rattle.std.proofs.Common.{refl, Some, None, ◌≡◌, ℕ, ◌+◌, ◌<◌, ◌⊎◌, List, [], ◌∷◌, take, sym, ap, ◌∙◌, subst, inl, inr, arith}
use Rattle.std.specs.Prelude.{slice_get}
use Rattle.rsct_packet.specs.declared.ids.ViewId.{ViewId}
use Rattle.rsct_packet.specs.declared.ids.ProviderId.{ProviderId}
use Rattle.proposal_core.specs.declared.entry.Entry.{Entry}
use Rattle.proposal_core.specs.declared.proposal.Proposal.{Proposal}
use Rattle.proposal_core.specs.declared.group_state.GroupState.{GroupState}
use Rattle.rsct_packet.specs.Search.{Has}
use Rattle.run_safety.specs.ViewOrder.{Le}
use Rattle.run_safety.specs.Group.{member, Standing, Origin, Packet, Request, Refusal, Record, In, Put, Note, Based, Heard, Asked, Told, Line, Noted, kept}
use Rattle.run_safety.specs.GroupLists.{puts_of, WasIn}
use Rattle.run_safety.specs.Bases.{Bases, state_of_list}
use Rattle.run_safety.specs.Requests.{carried}
use Rattle.run_safety.specs.Moves.{Leads, Opening, Inserted}
use Rattle.run_safety.specs.GroupLaws.{AskedFirst}
use Rattle.run_safety.proofs.Prefix.{prefix_refl}
use Rattle.run_safety.proofs.Parts.{Entered}
use Rattle.run_safety.proofs.Past.{was_entered}
use Rattle.run_safety.proofs.Moves.{Good, move_send}
use Rattle.run_safety.proofs.Firsts.{Firsts}
use Rattle.run_safety.proofs.Lines.{kept_inserted, has_inserted, had_inserted}
use Rattle.run_safety.proofs.OnceLaw.{asked_inserted}
use Rattle.run_safety.proofs.BasesLaw.{bases_move}
use Rattle.run_safety.proofs.HeardLaw.{heard_on, heard_hears}
use Rattle.run_safety.proofs.Whole.{Whole, was_sent, once_still, stable_packet, whole_sent, whole_noted}
use Rattle.run_safety.proofs.StableLaw.{StableOk}

module _ (o : Opening) (nodes : ℕ → Standing) (ps : List Packet) (all : List Line) (leads : Leads) (bases : Bases) (w : Whole o nodes ps all leads bases) where
  abbrev pub log : ViewId → List Entry
  log = w.log

  abbrev pub tr : List Record
  tr = kept all

  was_here : (p : ProviderId) → 0 < (nodes p.node).inc → (nodes p.node).inc ≡ p.inc → WasIn tr p.node p.inc (nodes p.node).view
  was_here p up same = subst (λ j. WasIn tr p.node j (nodes p.node).view) same ((w.good.past.seated p.node).was up).0

  pub whole_requests : (p : ProviderId) (r : ℕ) (x : Proposal) → 0 < (nodes p.node).inc → (nodes p.node).inc ≡ p.inc → Has (Noted (Asked p r x)) all → ((u : ViewId) (k : ℕ) (e : Entry) → Has (Put p.node u k e) tr → Has (p, r) (carried e) → ⊥) → ((u : ViewId) → Has (Noted (Told p r u)) all → ⊥) → Whole o nodes (Request (nodes p.node).view p r x ∷ ps) all leads bases
  whole_requests p r x up same was_asked never untold =
      whole_sent o nodes ps all leads bases w k (move_send o nodes ps tr log leads w.good k tt tt tt) (λ e. omega arith) (record {
        sent = sent;
        asked = λ v i q s e h c. let a = w.once.asked v i q s e h c in (a.0, inr a.1, a.2);
        apart = w.once.apart;
        refused = λ v i q s e f h c. w.once.refused v i q s e (was_sent (Refusal v q s) k ps (λ e. omega arith) f) h c;
        told = told;
        order = w.once.order;
      }) (stable_packet o nodes ps all leads bases w k (λ e. omega arith) (λ e. omega arith))
    where
      n : ℕ
      n = p.node

      here : ViewId
      here = (nodes p.node).view

      k : Packet
      k = Request (nodes p.node).view p r x

      Sent : ViewId → ProviderId → ℕ → Proposal → Type 0
      Sent v q s y = WasIn tr q.node q.inc v × Has (Noted (Asked q s y)) all × ((u : ViewId) (l : ℕ) (e : Entry) → Has (Put q.node u l e) tr → Has (q, s) (carried e) → Le v u) × ((u : ViewId) → Has (Noted (Told q s u)) all → Le v u)

      new : Sent (nodes p.node).view p r x
      new = (was_here p up same, was_asked, (λ u l e h c. absurd (never u l e h c)), λ u h. absurd (untold u h))

      sent : (v : ViewId) (q : ProviderId) (s : ℕ) (y : Proposal) → Has (Request v q s y) (Request (nodes p.node).view p r x ∷ ps) → Sent v q s y
      sent v q s y (inr h) = w.once.sent v q s y h
      sent v q s y (inl e) =
          let a : v ≡ (nodes p.node).view = cc in
          let b : q ≡ p = cc in
          let c : s ≡ r = cc in
          let d : y ≡ x = cc in
          subst (λ (z : ViewId × ProviderId × ℕ × Proposal). Sent z.0 z.1 z.2 z.3) (λ z. (sym a z, sym b z, sym c z, sym d z)) new

      told : (u : ViewId) (q : ProviderId) (s : ℕ) → Has (Noted (Told q s u)) all → WasIn tr q.node q.inc u × (Has (Refusal u q s) (k ∷ ps) ⊎ ((y : Proposal) → Has (Request u q s y) (k ∷ ps) → ⊥))
      told u q s h = let t = w.once.told u q s h in (t.0, on t.1)
        where
          still : ((y : Proposal) → Has (Request u q s y) ps → ⊥) → (y : Proposal) → Has (Request u q s y) (Request (nodes p.node).view p r x ∷ ps) → ⊥
          still none y (inr g) = none y g
          still none y (inl e) =
              let b : q ≡ p = cc in
              let c : s ≡ r = cc in
              untold u (subst (λ (z : ProviderId × ℕ). Has (Noted (Told z.0 z.1 u)) all) (λ z. (b z, c z)) h)

          on : Has (Refusal u q s) ps ⊎ ((y : Proposal) → Has (Request u q s y) ps → ⊥) → Has (Refusal u q s) (k ∷ ps) ⊎ ((y : Proposal) → Has (Request u q s y) (k ∷ ps) → ⊥)
          on (inl f) = inl (inr f)
          on (inr none) = inr (still none)

  -- what refuses a request did not begin it
  pub whole_refuses : (v : ViewId) (p : ProviderId) (r : ℕ) → ((leads v ≡ None) ⊎ ((n : ℕ) × (x : Standing) × (nodes n ≡ x) × (x.view ≡ v) × (leads v ≡ Some (member n x.inc)) × ((i : ℕ) (e : Entry) → slice_get x.list i ≡ Some e → Has (p, r) (carried e) → ⊥))) → Whole o nodes (Refusal v p r ∷ ps) all leads bases
  whole_refuses v p r why =
      whole_sent o nodes ps all leads bases w k (move_send o nodes ps tr log leads w.good k tt tt tt) (λ e. omega arith) (record {
        sent = λ u q s y h. w.once.sent u q s y (was_sent (Request u q s y) k ps (λ e. omega arith) h);
        asked = λ u i q s e h c. let a = w.once.asked u i q s e h c in (a.0, inr a.1, a.2);
        apart = w.once.apart;
        refused = refused;
        told = λ u q s h. let t = w.once.told u q s h in (t.0, on u q s t.1);
        order = w.once.order;
      }) (stable_packet o nodes ps all leads bases w k (λ e. omega arith) (λ e. omega arith))
    where
      k : Packet
      k = Refusal v p r

      unbegun : ((leads v ≡ None) ⊎ ((n : ℕ) × (x : Standing) × (nodes n ≡ x) × (x.view ≡ v) × (leads v ≡ Some (member n x.inc)) × ((i : ℕ) (e : Entry) → slice_get x.list i ≡ Some e → Has (p, r) (carried e) → ⊥))) → (i : ℕ) (e : Entry) → slice_get (log v) i ≡ Some e → Has (p, r) (carried e) → ⊥
      unbegun (inl none) i e h c =
          let z : log v ≡ [] = w.good.inv.none v none in
          let h' : slice_get [] i ≡ Some e = subst (λ l. slice_get l i ≡ Some e) z h in absurd (cc)
      unbegun (inr a) i e h c =
          let P : Standing → Type 0 = λ x. (x.view ≡ v) → (leads v ≡ Some (member a.0 x.inc)) → x.list ≡ log v in
          let whole : P (nodes a.0) = λ s l. (w.good.inv.node a.0).whole (nodes a.0).inc (ap leads s ∙ l) ∙ ap log s in
          let same : a.1.list ≡ log v = subst P a.2 whole a.3 a.4 in
          a.5 i e (subst (λ l. slice_get l i ≡ Some e) (sym same) h) c

      refused : (u : ViewId) (i : ℕ) (q : ProviderId) (s : ℕ) (e : Entry) → Has (Refusal u q s) (Refusal v p r ∷ ps) → slice_get (log u) i ≡ Some e → Has (q, s) (carried e) → ⊥
      refused u i q s e (inr f) h c = w.once.refused u i q s e f h c
      refused u i q s e (inl g) h c =
          let a : u ≡ v = cc in
          let b : q ≡ p = cc in
          let d : s ≡ r = cc in
          unbegun why i e (subst (λ z. slice_get (log z) i ≡ Some e) a h) (subst (λ (z : ProviderId × ℕ). Has z (carried e)) (λ z. (b z, d z)) c)

      on : (u : ViewId) (q : ProviderId) (s : ℕ) → Has (Refusal u q s) ps ⊎ ((y : Proposal) → Has (Request u q s y) ps → ⊥) → Has (Refusal u q s) (k ∷ ps) ⊎ ((y : Proposal) → Has (Request u q s y) (k ∷ ps) → ⊥)
      on u q s (inl f) = inl (inr f)
      on u q s (inr none) = inr (λ y h. none y (was_sent (Request u q s y) k ps (λ e. omega arith) h))

  pub whole_told : (p : ProviderId) (r : ℕ) → 0 < (nodes p.node).inc → (nodes p.node).inc ≡ p.inc → (Has (Refusal (nodes p.node).view p r) ps ⊎ ((x : Proposal) → Has (Request (nodes p.node).view p r x) ps → ⊥)) → Whole o nodes ps (Noted (Told p r (nodes p.node).view) ∷ all) leads bases
  whole_told p r up same why =
      whole_noted o nodes ps all leads bases w y (λ n v b q. cc) (heard_on all (Noted y ∷ all) log log bases bases (λ v. prefix_refl (log v)) (λ v i e h. refl) old_heard w.heard) (record {
        sent = λ v q s x h. let k = w.once.sent v q s x h in (k.0, inr k.1, k.2, λ u t. above v q s k.0 k.3 u t);
        asked = w.once.asked;
        apart = w.once.apart;
        refused = w.once.refused;
        told = told;
        order = w.once.order;
      })
    where
      here : ViewId
      here = (nodes p.node).view

      y : Note
      y = Told p r (nodes p.node).view

      old_heard : (q : ProviderId) (v : ViewId) (i : ℕ) (e : Entry) (ms : List ProviderId) (value : List ℕ) → Has (Noted (Heard q v i e ms value)) (Noted (Told p r (nodes p.node).view) ∷ all) → Has (Noted (Heard q v i e ms value)) all
      old_heard q v i e ms value (inl f) = absurd (cc)
      old_heard q v i e ms value (inr h) = h

      now : Entered (nodes p.node) p.inc (nodes p.node).view
      now = was_entered o nodes ps ps tr log leads w.good.inv w.good.past p.node p.inc (nodes p.node).view (was_here p up same)

      up_to : (v : ViewId) → WasIn tr p.node p.inc v → Le v (nodes p.node).view
      up_to v was = at (was_entered o nodes ps ps tr log leads w.good.inv w.good.past p.node p.inc v was)
        where
          at : Entered (nodes p.node) p.inc v → Le v (nodes p.node).view
          at (inl l) = absurd (omega (arith, same))
          at (inr l) = l.1

      above : (v : ViewId) (q : ProviderId) (s : ℕ) → WasIn tr q.node q.inc v → ((u : ViewId) → Has (Noted (Told q s u)) all → Le v u) → (u : ViewId) → Has (Noted (Told q s u)) (Noted (Told p r (nodes p.node).view) ∷ all) → Le v u
      above v q s was old u (inr t) = old u t
      above v q s was old u (inl e) =
          let a : u ≡ (nodes p.node).view = cc in
          let b : q ≡ p = cc in
          subst (Le v) (sym a) (up_to v (subst (λ (z : ProviderId). WasIn tr z.node z.inc v) b was))

      Told' : ViewId → ProviderId → ℕ → Type 0
      Told' u q s = WasIn tr q.node q.inc u × (Has (Refusal u q s) ps ⊎ ((x : Proposal) → Has (Request u q s x) ps → ⊥))

      told : (u : ViewId) (q : ProviderId) (s : ℕ) → Has (Noted (Told q s u)) (Noted (Told p r (nodes p.node).view) ∷ all) → Told' u q s
      told u q s (inr h) = w.once.told u q s h
      told u q s (inl e) =
          let a : u ≡ (nodes p.node).view = cc in
          let b : q ≡ p = cc in
          let c : s ≡ r = cc in
          let new : Told' (nodes p.node).view p r = (was_here p up same, why) in
          subst (λ (z : ViewId × ProviderId × ℕ). Told' z.0 z.1 z.2) (λ z. (sym a z, sym b z, sym c z)) new

  pub whole_hears : (more : List Line) (p : ProviderId) (v : ViewId) (i : ℕ) (e : Entry) (s : GroupState) → Has (Put p.node v i e) tr → s ≡ state_of_list bases v (take (i + 1) (puts_of p.node v tr)) → Inserted (Heard p v i e s.members s.value) all more → Whole o nodes ps more leads bases
  whole_hears more p v i e s put is new =
      record {
        log = log;
        good = subst (λ t. Good o nodes ps t log leads) (sym same) w.good;
        firsts = subst (λ t. Firsts t log leads) (sym same) w.firsts;
        of_base = w.of_base;
        of_none = w.of_none;
        based_ok = bases_move o nodes ps all log leads bases w.good w.based_ok ps more (λ v r h. h) (λ v ms ss h. h) (λ v ms ss h. h) (λ n v b h. has_inserted y all more new (Noted (Based n v b)) h) (λ n v b h. old_base n v b (had_inserted y all more new (Noted (Based n v b)) h)) (λ n j v ms h. inl (subst (λ t. Has (In n j v ms) t) same h));
        heard = heard_hears o nodes ps all log leads bases w.good more p v i e s w.heard put is new;
        once = once_still o nodes ps all leads bases w ps more (λ v q r x h. h) (λ v q r x h. h) (λ v q r h. h) (λ v q r h. h) (λ z h. has_inserted y all more new z h) (λ r h. subst (λ t. Has r t) (sym same) h) (λ q r u h. old_told q r u (had_inserted y all more new (Noted (Told q r u)) h)) (λ m k f u h. inl (subst (λ t. Has (Put m u k f) t) same h)) (subst AskedFirst (sym new.is) (asked_inserted y (λ q r u f. cc) new.newer new.older (subst AskedFirst new.was w.once.order)));
        stable = subst (λ t. StableOk ps t) (sym same) w.stable;
        tallied = w.tallied;
      }
    where
      y : Note
      y = Heard p v i e s.members s.value

      same : kept more ≡ tr
      same = kept_inserted y all more new

      old_base : (n : ℕ) (u : ViewId) (b : Origin) → (Noted (Based n u b) ≡ Noted (Heard p v i e s.members s.value)) ⊎ Has (Noted (Based n u b)) all → Has (Noted (Based n u b)) all
      old_base n u b (inl q) = absurd (cc)
      old_base n u b (inr h) = h

      old_told : (q : ProviderId) (r : ℕ) (u : ViewId) → (Noted (Told q r u) ≡ Noted (Heard p v i e s.members s.value)) ⊎ Has (Noted (Told q r u)) all → Has (Noted (Told q r u)) all
      old_told q r u (inl f) = absurd (cc)
      old_told q r u (inr h) = h
