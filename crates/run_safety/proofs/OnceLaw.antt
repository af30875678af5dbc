-- A request begins at most once at its own node, after it was asked and not after it was told a refusal.
use Rattle.std.proofs.Common.{refl, Some, ◌≡◌, ℕ, ◌+◌, ◌<◌, ◌⊎◌, List, [], ◌∷◌, ◌++◌, sym, subst, inl, inr, ⊎_elim, arith}
use Rattle.std.specs.Prelude.{slice_get}
use Rattle.rsct_packet.specs.declared.ids.ViewId.{ViewId}
use Rattle.rsct_packet.specs.declared.ids.ProviderId.{ProviderId}
use Rattle.proposal_core.specs.declared.entry.Entry.{Entry}
use Rattle.proposal_core.specs.declared.proposal.Proposal.{Proposal}
use Rattle.rsct_packet.specs.Search.{Has}
use Rattle.run_safety.specs.ViewOrder.{Le}
use Rattle.run_safety.specs.Group.{Standing, Packet, Request, Refusal, Record, In, Put, Begins, Note, Asked, Told, Line, Kept, Noted, kept, lines_from}
use Rattle.run_safety.specs.GroupLists.{WasIn}
use Rattle.run_safety.specs.Requests.{carried, Meets}
use Rattle.run_safety.specs.Moves.{Leads, first, Opening}
use Rattle.run_safety.specs.GroupLaws.{BegunOnce, AskedAndUntold, AskedFirst, CarriedWereAsked}
use Rattle.run_safety.proofs.Order.{le_antisym}
use Rattle.run_safety.proofs.Parts.{Entered}
use Rattle.run_safety.proofs.Past.{was_entered}
use Rattle.run_safety.proofs.Moves.{Good}

-- what holds of requests, of refusals and of what was told
pub record OnceOk (ps : List Packet) (all : List Line) (log : ViewId → List Entry) : Type 0 where
  pub sent : (v : ViewId) (p : ProviderId) (r : ℕ) (x : Proposal) → Has (Request v p r x) ps → WasIn (kept all) p.node p.inc v × Has (Noted (Asked p r x)) all × ((u : ViewId) (k : ℕ) (e : Entry) → Has (Put p.node u k e) (kept all) → Has (p, r) (carried e) → Le v u) × ((u : ViewId) → Has (Noted (Told p r u)) all → Le v u)
  pub asked : (v : ViewId) (i : ℕ) (p : ProviderId) (r : ℕ) (e : Entry) → slice_get (log v) i ≡ Some e → Has (p, r) (carried e) → (x : Proposal) × Has (Request v p r x) ps × Meets p x e
  pub apart : (v : ViewId) (i k : ℕ) (p : ProviderId) (r : ℕ) (e f : Entry) → slice_get (log v) i ≡ Some e → Has (p, r) (carried e) → slice_get (log v) k ≡ Some f → Has (p, r) (carried f) → i ≡ k
  pub refused : (v : ViewId) (i : ℕ) (p : ProviderId) (r : ℕ) (e : Entry) → Has (Refusal v p r) ps → slice_get (log v) i ≡ Some e → Has (p, r) (carried e) → ⊥
  pub told : (u : ViewId) (p : ProviderId) (r : ℕ) → Has (Noted (Told p r u)) all → WasIn (kept all) p.node p.inc u × (Has (Refusal u p r) ps ⊎ ((x : Proposal) → Has (Request u p r x) ps → ⊥))
  pub order : AskedFirst all

-- what one node may put in the view that it is in
pub record PutsWell (ps : List Packet) (all : List Line) (n : ℕ) (v : ViewId) (e : Entry) : Type 0 where
  pub by : (p : ProviderId) (r : ℕ) → Has (p, r) (carried e) → (x : Proposal) × Has (Request v p r x) ps × Meets p x e
  pub unrefused : (p : ProviderId) (r : ℕ) → Has (p, r) (carried e) → Has (Refusal v p r) ps → ⊥

-- many puts, each well
pub asked_lines : (n : ℕ) (v : ViewId) (i : ℕ) (es : List Entry) (all : List Line) → ((e : Entry) → Has e es → AskedAndUntold all n e) → AskedFirst all → AskedFirst (lines_from n v i es all)
asked_lines n v i [] all well first = first
asked_lines n v i (e ∷ es) all well first =
    asked_lines n v (i + 1) es (Kept (Put n v i e) ∷ all) (λ f h p r q c. let k = well f (inr h) p r q c in ((k.0.0, inr k.0.1, k.0.2), λ u t. k.1 u (old u p r t))) (well e (inl refl), first)
  where
    old : (u : ViewId) (p : ProviderId) (r : ℕ) → Has (Noted (Told p r u)) (Kept (Put n v i e) ∷ all) → Has (Noted (Told p r u)) all
    old u p r (inl q) = absurd (cc)
    old u p r (inr h) = h

-- a heard line changes nothing of it
pub asked_inserted : (x : Note) → ((p : ProviderId) (r : ℕ) (u : ViewId) → Told p r u ≡ x → ⊥) → (newer older : List Line) → AskedFirst (newer ++ older) → AskedFirst (newer ++ Noted x ∷ older)
asked_inserted x other [] older h = h
asked_inserted x other (Noted y ∷ newer) older h = asked_inserted x other newer older h
asked_inserted x other (Kept Begins ∷ newer) older h = asked_inserted x other newer older h
asked_inserted x other (Kept (In n j v ms) ∷ newer) older h = asked_inserted x other newer older h
asked_inserted x other (Kept (Put n v i e) ∷ newer) older h =
    ((λ p r q c. let k = h.0 p r q c in ((k.0.0, has_in newer older (Noted (Asked p r k.0.0)) k.0.1, k.0.2), λ u t. k.1 u (had newer older p r u t))), asked_inserted x other newer older h.1)
  where
    has_in : (newer older : List Line) (y : Line) → Has y (newer ++ older) → Has y (newer ++ Noted x ∷ older)
    has_in [] older y h = inr h
    has_in (z ∷ newer) older y (inl e) = inl e
    has_in (z ∷ newer) older y (inr h) = inr (has_in newer older y h)

    had : (newer older : List Line) (p : ProviderId) (r : ℕ) (u : ViewId) → Has (Noted (Told p r u)) (newer ++ Noted x ∷ older) → Has (Noted (Told p r u)) (newer ++ older)
    had [] older p r u (inl e) = absurd (other p r u (let f : Told p r u ≡ x = cc in f))
    had [] older p r u (inr h) = h
    had (z ∷ newer) older p r u (inl e) = inl e
    had (z ∷ newer) older p r u (inr h) = inr (had newer older p r u h)

module _ (o : Opening) (nodes : ℕ → Standing) (ps : List Packet) (all : List Line) (log : ViewId → List Entry) (lead : Leads) (good : Good o nodes ps (kept all) log lead) (old : OnceOk ps all log) where
  -- the view that a node is in is no earlier than one that its provider was in, and they are of one incarnation
  late : (n : ℕ) → 0 < (nodes n).inc → (p : ProviderId) → p.node ≡ n → WasIn (kept all) p.node p.inc (nodes n).view → (u : ViewId) → WasIn (kept all) p.node p.inc u → Le u (nodes n).view
  late n up p q here u was = at (was_entered o nodes ps ps (kept all) log lead good.inv good.past n p.inc u (subst (λ m. WasIn (kept all) m p.inc u) q was))
    where
      same : p.inc ≡ (nodes n).inc
      same = good.past.single n p.inc (nodes n).inc (nodes n).view (subst (λ m. WasIn (kept all) m p.inc (nodes n).view) q here) ((good.past.seated n).was up).0

      at : Entered (nodes n) p.inc u → Le u (nodes n).view
      at (inl l) = absurd (omega (arith, same))
      at (inr l) = l.1

  -- what a node puts in its view was asked before, and not told
  pub well_put : (n : ℕ) (e : Entry) → 0 < (nodes n).inc → PutsWell ps all n (nodes n).view e → AskedAndUntold all n e
  well_put n e up w p r q c =
      let a = w.by p r c in
      let s = old.sent (nodes n).view p r a.0 a.1 in
      ((a.0, s.1, a.2), λ u t. untold a s u t)
    where
      untold : (a : (x : Proposal) × Has (Request (nodes n).view p r x) ps × Meets p x e) → (WasIn (kept all) p.node p.inc (nodes n).view × Has (Noted (Asked p r a.0)) all × ((u : ViewId) (k : ℕ) (f : Entry) → Has (Put p.node u k f) (kept all) → Has (p, r) (carried f) → Le (nodes n).view u) × ((u : ViewId) → Has (Noted (Told p r u)) all → Le (nodes n).view u)) → (u : ViewId) → Has (Noted (Told p r u)) all → ⊥
      untold a s u t =
          let k = old.told u p r t in
          let same : u ≡ (nodes n).view = le_antisym u (nodes n).view (late n up p q s.0 u k.0) (s.3 u t) in
          ⊎_elim (λ (f : Has (Refusal u p r) ps). w.unrefused p r c (subst (λ v. Has (Refusal v p r) ps) same f)) (λ (none : (x : Proposal) → Has (Request u p r x) ps → ⊥). none a.0 (subst (λ v. Has (Request v p r a.0) ps) (sym same) a.1)) k.1

  -- what stands in the log of the view is put well
  pub logged_well : (n : ℕ) (e : Entry) (i : ℕ) → slice_get (log (nodes n).view) i ≡ Some e → PutsWell ps all n (nodes n).view e
  logged_well n e i h = record { by = λ p r c. old.asked (nodes n).view i p r e h c; unrefused = λ p r c f. old.refused (nodes n).view i p r e f h c }

  -- every move: packets and lines come, each put is old or of the node's own view and log, and the log grows by what is due
  pub once_move : (ps' : List Packet) (all' : List Line) (log' : ViewId → List Entry) → ((v : ViewId) (p : ProviderId) (r : ℕ) (x : Proposal) → Has (Request v p r x) ps → Has (Request v p r x) ps') → ((v : ViewId) (p : ProviderId) (r : ℕ) (x : Proposal) → Has (Request v p r x) ps' → Has (Request v p r x) ps) → ((v : ViewId) (p : ProviderId) (r : ℕ) → Has (Refusal v p r) ps → Has (Refusal v p r) ps') → ((y : Line) → Has y all → Has y all') → ((r : Record) → Has r (kept all) → Has r (kept all')) → ((p : ProviderId) (r : ℕ) (u : ViewId) → Has (Noted (Told p r u)) all' → Has (Noted (Told p r u)) all) → ((m k : ℕ) (e : Entry) (u : ViewId) → Has (Put m u k e) (kept all') → Has (Put m u k e) (kept all) ⊎ ((u ≡ (nodes m).view) × (0 < (nodes m).inc) × (slice_get (log' u) k ≡ Some e))) → ((v : ViewId) (i : ℕ) (p : ProviderId) (r : ℕ) (e : Entry) → slice_get (log' v) i ≡ Some e → Has (p, r) (carried e) → (x : Proposal) × Has (Request v p r x) ps × Meets p x e) → ((v : ViewId) (i k : ℕ) (p : ProviderId) (r : ℕ) (e f : Entry) → slice_get (log' v) i ≡ Some e → Has (p, r) (carried e) → slice_get (log' v) k ≡ Some f → Has (p, r) (carried f) → i ≡ k) → ((v : ViewId) (i : ℕ) (p : ProviderId) (r : ℕ) (e : Entry) → Has (Refusal v p r) ps' → slice_get (log' v) i ≡ Some e → Has (p, r) (carried e) → ⊥) → AskedFirst all' → OnceOk ps' all' log'
  once_move ps' all' log' more less refusals lines records tolds news asked apart refused order =
      record {
        sent = λ v p r x h. let s = old.sent v p r x (less v p r x h) in (
          (s.0.0, records (In p.node p.inc v s.0.0) s.0.1),
          lines (Noted (Asked p r x)) s.1,
          (λ u k e put c. later v p r x s.0 s.2 u k e c (news p.node k e u put)),
          λ u t. s.3 u (tolds p r u t),
        );
        asked = λ v i p r e h c. let a = asked v i p r e h c in (a.0, more v p r a.0 a.1, a.2);
        apart = apart;
        refused = refused;
        told = λ u p r h. let t = old.told u p r (tolds p r u h) in (
          (t.0.0, records (In p.node p.inc u t.0.0) t.0.1),
          ⊎_elim (λ (f : Has (Refusal u p r) ps). inl (refusals u p r f)) (λ (none : (x : Proposal) → Has (Request u p r x) ps → ⊥). inr (λ x k. none x (less u p r x k))) t.1,
        );
        order = order;
      }
    where
      later : (v : ViewId) (p : ProviderId) (r : ℕ) (x : Proposal) → WasIn (kept all) p.node p.inc v → ((u : ViewId) (k : ℕ) (e : Entry) → Has (Put p.node u k e) (kept all) → Has (p, r) (carried e) → Le v u) → (u : ViewId) (k : ℕ) (e : Entry) → Has (p, r) (carried e) → Has (Put p.node u k e) (kept all) ⊎ ((u ≡ (nodes p.node).view) × (0 < (nodes p.node).inc) × (slice_get (log' u) k ≡ Some e)) → Le v u
      later v p r x was before u k e c (inl h) = before u k e h c
      later v p r x was before u k e c (inr h) =
          let a = asked u k p r e h.2 c in
          let here : WasIn (kept all) p.node p.inc (nodes p.node).view = subst (WasIn (kept all) p.node p.inc) h.0 (old.sent u p r a.0 a.1).0 in
          subst (Le v) (sym h.0) (late p.node h.1 p refl here v was)

  -- the law: two puts of one request at its own node are one
  pub begun_once : BegunOnce (kept all)
  begun_once p r u v i k e f h c g d =
      let a = good.inv.records (Put p.node u i e) h in
      let b = good.inv.records (Put p.node v k f) g in
      let x = old.asked u i p r e a c in
      let y = old.asked v k p r f b d in
      let same : u ≡ v = le_antisym u v ((old.sent u p r x.0 x.1).2 v k f g d) ((old.sent v p r y.0 y.1).2 u i e h c) in
      (same, old.apart v i k p r e f (subst (λ w. slice_get (log w) i ≡ Some e) same a) c b d)

  -- the law: what an entry carries stands in the view's log, so it was requested in that view, and asked before
  pub carried_asked : CarriedWereAsked all
  carried_asked n v i e p r h c =
      let a = old.asked v i p r e (good.inv.records (Put n v i e) h) c in
      (a.0, (old.sent v p r a.0 a.1).1, a.2)
