-- All parts together, and that each move keeps them.
use Rattle.std.proofs.Common.{refl, Some, None, ◌≤◌, ◌≡◌, ℕ, ◌<◌, ◌⊎◌, List, [], ◌∷◌, length, sym, ap, ◌∙◌, subst, inl, inr, arith}
use Rattle.std.specs.Prelude.{slice_get}
use Rattle.rsct_packet.specs.declared.ids.ViewId.{ViewId}
use Rattle.rsct_packet.specs.declared.ids.Member.{Member}
use Rattle.rsct_packet.specs.declared.ids.ProviderId.{ProviderId}
use Rattle.proposal_core.specs.declared.entry.Entry.{Entry}
use Rattle.proposal_core.specs.declared.proposal.Proposal.{Proposal}
use Rattle.rsct_packet.specs.Search.{Has}
use Rattle.run_safety.specs.ViewOrder.{Lt, Le}
use Rattle.run_safety.specs.Group.{member, Standing, Origin, Packet, Answer, Install, Append, Request, Refusal, Ack, Stable, Record, In, Put, Begins, Note, Based, Heard, Asked, Told, Line, Kept, Noted, kept}
use Rattle.run_safety.specs.GroupLists.{puts_of}
use Rattle.run_safety.specs.Bases.{Bases, leader_of}
use Rattle.run_safety.specs.Moves.{Leads, Changes, Opening, SetAt, Led, MayLead}
use Rattle.run_safety.specs.GroupLaws.{AskedFirst}
use Rattle.run_safety.proofs.Order.{lt_refl, cases_view}
use Rattle.run_safety.proofs.Prefix.{IsPrefix, prefix_refl, prefix_nil}
use Rattle.run_safety.proofs.Parts.{member_parts}
use Rattle.run_safety.proofs.Moves.{Good, move_turn, move_promise, move_answer, move_send, move_name}
use Rattle.run_safety.proofs.Firsts.{Firsts, firsts_other, firsts_name}
use Rattle.run_safety.proofs.OnceLaw.{OnceOk, once_move}
use Rattle.run_safety.proofs.BasesLaw.{BasesOk, bases_move}
use Rattle.run_safety.proofs.HeardLaw.{HeardOk, heard_on}
use Rattle.run_safety.proofs.StableLaw.{StableOk, stable_on}
use Rattle.run_safety.proofs.TallyLaw.{TallyOk}

pub record Whole (o : Opening) (nodes : ℕ → Standing) (ps : List Packet) (all : List Line) (leads : Leads) (bases : Bases) : Type 0 where
  pub log : ViewId → List Entry
  pub good : Good o nodes ps (kept all) log leads
  pub firsts : Firsts (kept all) log leads
  pub of_base : (v : ViewId) (b : Origin) → bases v ≡ Some b → leads v ≡ leader_of v (Some b)
  pub of_none : (v : ViewId) (n j : ℕ) → bases v ≡ None → leads v ≡ Some (member n j) → MayLead o v n
  pub based_ok : BasesOk ps all bases
  pub heard : HeardOk all log bases
  pub once : OnceOk ps all log
  pub stable : StableOk ps (kept all)
  pub tallied : TallyOk log bases

-- kinds of packets, to tell them apart
abbrev pub kind : Packet → ℕ
kind (Answer v r) = 0
kind (Install v ms ss) = 1
kind (Append v i e) = 2
kind (Request v p r x) = 3
kind (Refusal v p r) = 4
kind (Ack v n j k) = 5
kind (Stable v k) = 6

pub was_sent : (q p : Packet) (ps : List Packet) → (kind q ≡ kind p → ⊥) → Has q (p ∷ ps) → Has q ps
was_sent q p ps ne (inl e) = absurd (ne (ap kind e))
was_sent q p ps ne (inr h) = h

-- no node was started
pub whole_dawn : (o : Opening) (nodes : ℕ → Standing) → ((n : ℕ) → ((nodes n).inc ≡ 0) × ((nodes n).view ≡ (nodes n).promise) × ((nodes n).list ≡ [])) → Whole o nodes [] [] (λ v. None) (λ v. None)
whole_dawn o nodes new =
    record {
      log = λ v. [];
      good = record {
        inv = record {
          node = λ n. record {
            below = subst (λ w. Le (nodes n).view w) (new n).1 (lt_refl (nodes n).view);
            part = subst (λ l. IsPrefix l []) (sym (new n).2) (prefix_nil []);
            mine = λ j e. absurd (cc);
            whole = λ j e. absurd (cc);
            fresh = λ v j q u. refl;
          };
          packet = λ p h. absurd h;
          one = λ v ms ns ss ts h i. absurd h;
          records = λ r h. absurd h;
          rises = tt;
          none = λ v e. refl;
        };
        past = record {
          led = λ v n j e. absurd (cc);
          origin = λ n j v ms h. absurd h;
          single = λ n j i u a b. absurd a.1;
          seated = λ n. record { was = λ up. absurd (let z = (new n).0 in omega arith); list = sym (new n).2; count = ap length (sym (new n).2) };
          put_in = λ n k e u h. absurd h;
          left = λ n j w u ms h fr. absurd h;
          order = tt;
          answers = λ v r h. absurd h;
          made = λ v ms ss h. absurd h;
        };
      };
      firsts = record { put = λ v i e h. absurd (cc); first = tt };
      of_base = λ v b e. absurd (cc);
      of_none = λ v n j e q. absurd (cc);
      based_ok = record {
        noted = λ n v b h. absurd h;
        by_all = λ n j v ms b h e. absurd h;
        installed = λ v b e. absurd (cc);
        made = λ v ms ss h. absurd h;
      };
      heard = record { heard = λ p v i e ms value h. absurd h };
      once = record {
        sent = λ v p r x h. absurd h;
        asked = λ v i p r e h c. absurd (cc);
        apart = λ v i k p r e f h c g d. absurd (cc);
        refused = λ v i p r e f h c. absurd f;
        told = λ u p r h. absurd h;
        order = tt;
      };
      stable = record { acks = λ v n j k h. absurd h; stable = λ v k h. absurd h };
      tallied = record { entry = λ v i e h. absurd (cc); fitting = λ v i e h. absurd (cc) };
    }

module _ (o : Opening) (nodes : ℕ → Standing) (ps : List Packet) (all : List Line) (leads : Leads) (bases : Bases) (w : Whole o nodes ps all leads bases) where
  abbrev pub log : ViewId → List Entry
  log = w.log

  abbrev pub tr : List Record
  tr = kept all

  -- nothing of requests changes, and no node puts anything
  pub once_still : (ps' : List Packet) (all' : List Line) → ((v : ViewId) (p : ProviderId) (r : ℕ) (x : Proposal) → Has (Request v p r x) ps → Has (Request v p r x) ps') → ((v : ViewId) (p : ProviderId) (r : ℕ) (x : Proposal) → Has (Request v p r x) ps' → Has (Request v p r x) ps) → ((v : ViewId) (p : ProviderId) (r : ℕ) → Has (Refusal v p r) ps → Has (Refusal v p r) ps') → ((v : ViewId) (p : ProviderId) (r : ℕ) → Has (Refusal v p r) ps' → Has (Refusal v p r) ps) → ((y : Line) → Has y all → Has y all') → ((r : Record) → Has r tr → Has r (kept all')) → ((p : ProviderId) (r : ℕ) (u : ViewId) → Has (Noted (Told p r u)) all' → Has (Noted (Told p r u)) all) → ((m k : ℕ) (e : Entry) (u : ViewId) → Has (Put m u k e) (kept all') → Has (Put m u k e) tr ⊎ ((u ≡ (nodes m).view) × (0 < (nodes m).inc) × (slice_get (log u) k ≡ Some e))) → AskedFirst all' → OnceOk ps' all' log
  once_still ps' all' more less refusals unrefused lines records tolds news order =
      once_move o nodes ps all log leads w.good w.once ps' all' log more less refusals lines records tolds news w.once.asked w.once.apart (λ v i p r e f h c. w.once.refused v i p r e (unrefused v p r f) h c) order

  -- a packet that has nothing to do with requests
  pub once_packet : (p : Packet) → (kind p ≡ 3 → ⊥) → (kind p ≡ 4 → ⊥) → OnceOk (p ∷ ps) all log
  once_packet p a b =
      once_still (p ∷ ps) all (λ v q r x h. inr h) (λ v q r x h. was_sent (Request v q r x) p ps (λ e. a (sym e)) h) (λ v q r h. inr h) (λ v q r h. was_sent (Refusal v q r) p ps (λ e. b (sym e)) h) (λ y h. h) (λ r h. h) (λ q r u h. h) (λ m k e u h. inl h) w.once.order

  pub based_packet : (p : Packet) → (kind p ≡ 1 → ⊥) → BasesOk (p ∷ ps) all bases
  based_packet p a =
      bases_move o nodes ps all log leads bases w.good w.based_ok (p ∷ ps) all (λ v r h. inr h) (λ v ms ss h. inr h) (λ v ms ss h. was_sent (Install v ms ss) p ps (λ e. a (sym e)) h) (λ n v b h. h) (λ n v b h. h) (λ n j v ms h. inl h)

  pub stable_packet : (p : Packet) → (kind p ≡ 5 → ⊥) → (kind p ≡ 6 → ⊥) → StableOk (p ∷ ps) tr
  stable_packet p a b =
      stable_on ps (p ∷ ps) tr tr (λ v n j k h. was_sent (Ack v n j k) p ps (λ e. a (sym e)) h) (λ v k h. was_sent (Stable v k) p ps (λ e. b (sym e)) h) (λ r h. h) (λ m v. omega arith) w.stable

  pub whole_sent : (p : Packet) → Good o nodes (p ∷ ps) tr log leads → (kind p ≡ 1 → ⊥) → OnceOk (p ∷ ps) all log → StableOk (p ∷ ps) tr → Whole o nodes (p ∷ ps) all leads bases
  whole_sent p good a once stable =
      record {
        log = log;
        good = good;
        firsts = w.firsts;
        of_base = w.of_base;
        of_none = w.of_none;
        based_ok = based_packet p a;
        heard = w.heard;
        once = once;
        stable = stable;
        tallied = w.tallied;
      }

  pub whole_turn : Whole o nodes ps (Kept Begins ∷ all) leads bases
  whole_turn =
      record {
        log = log;
        good = move_turn o nodes ps tr log leads w.good;
        firsts = firsts_other tr (Begins ∷ tr) log leads (λ h. h) (λ r h. inr h) w.firsts;
        of_base = w.of_base;
        of_none = w.of_none;
        based_ok = bases_move o nodes ps all log leads bases w.good w.based_ok ps (Kept Begins ∷ all) (λ v r h. h) (λ v ms ss h. h) (λ v ms ss h. h) (λ n v b h. inr h) (λ n v b h. old (Based n v b) h) (λ n j v ms h. inl (old_in n j v ms h));
        heard = heard_on all (Kept Begins ∷ all) log log bases bases (λ v. prefix_refl (log v)) (λ v i e h. refl) (λ p v i e ms value h. old (Heard p v i e ms value) h) w.heard;
        once = once_still ps (Kept Begins ∷ all) (λ v q r x h. h) (λ v q r x h. h) (λ v q r h. h) (λ v q r h. h) (λ y h. inr h) (λ r h. inr h) (λ q r u h. old (Told q r u) h) (λ m k e u h. inl (old_put m k e u h)) w.once.order;
        stable = stable_on ps ps tr (Begins ∷ tr) (λ v n j k h. h) (λ v k h. h) (λ r h. inr h) (λ m v. omega arith) w.stable;
        tallied = w.tallied;
      }
    where
      old : (x : Note) → Has (Noted x) (Kept Begins ∷ all) → Has (Noted x) all
      old x (inl q) = absurd (cc)
      old x (inr h) = h

      old_in : (n j : ℕ) (v : ViewId) (ms : List Member) → Has (In n j v ms) (Begins ∷ tr) → Has (In n j v ms) tr
      old_in n j v ms (inl q) = absurd (cc)
      old_in n j v ms (inr h) = h

      old_put : (m k : ℕ) (e : Entry) (u : ViewId) → Has (Put m u k e) (Begins ∷ tr) → Has (Put m u k e) tr
      old_put m k e u (inl q) = absurd (cc)
      old_put m k e u (inr h) = h

  -- something is noted that is no base
  pub whole_noted : (x : Note) → ((n : ℕ) (v : ViewId) (b : Origin) → Based n v b ≡ x → ⊥) → HeardOk (Noted x ∷ all) log bases → OnceOk ps (Noted x ∷ all) log → Whole o nodes ps (Noted x ∷ all) leads bases
  whole_noted x other heard once =
      record {
        log = log;
        good = w.good;
        firsts = w.firsts;
        of_base = w.of_base;
        of_none = w.of_none;
        based_ok = bases_move o nodes ps all log leads bases w.good w.based_ok ps (Noted x ∷ all) (λ v r h. h) (λ v ms ss h. h) (λ v ms ss h. h) (λ n v b h. inr h) (λ n v b h. old n v b h) (λ n j v ms h. inl h);
        heard = heard;
        once = once;
        stable = w.stable;
        tallied = w.tallied;
      }
    where
      old : (n : ℕ) (v : ViewId) (b : Origin) → Has (Noted (Based n v b)) (Noted x ∷ all) → Has (Noted (Based n v b)) all
      old n v b (inl q) = absurd (other n v b (let e : Based n v b ≡ x = cc in e))
      old n v b (inr h) = h

  pub whole_asks : (p : ProviderId) (r : ℕ) (x : Proposal) → Whole o nodes ps (Noted (Asked p r x) ∷ all) leads bases
  whole_asks p r x =
      whole_noted y (λ n v b q. cc) (heard_on all (Noted y ∷ all) log log bases bases (λ v. prefix_refl (log v)) (λ v i e h. refl) (λ q v i e ms value h. old_heard q v i e ms value h) w.heard) (once_still ps (Noted y ∷ all) (λ v q r x h. h) (λ v q r x h. h) (λ v q r h. h) (λ v q r h. h) (λ z h. inr h) (λ r h. h) (λ q r u h. old_told q r u h) (λ m k e u h. inl h) w.once.order)
    where
      y : Note
      y = Asked p r x

      old_heard : (q : ProviderId) (v : ViewId) (i : ℕ) (e : Entry) (ms : List ProviderId) (value : List ℕ) → Has (Noted (Heard q v i e ms value)) (Noted y ∷ all) → Has (Noted (Heard q v i e ms value)) all
      old_heard q v i e ms value (inl f) = absurd (cc)
      old_heard q v i e ms value (inr h) = h

      old_told : (q : ProviderId) (s : ℕ) (u : ViewId) → Has (Noted (Told q s u)) (Noted y ∷ all) → Has (Noted (Told q s u)) all
      old_told q s u (inl f) = absurd (cc)
      old_told q s u (inr h) = h

  pub whole_promises : (now : ℕ → Standing) (n : ℕ) (v : ViewId) → Le (nodes n).promise v → Changes nodes now n (record (nodes n) { promise = v }) → Whole o now ps all leads bases
  whole_promises now n v le c =
      record {
        log = log;
        good = move_promise o nodes ps tr log leads w.good now n v le c;
        firsts = w.firsts;
        of_base = w.of_base;
        of_none = w.of_none;
        based_ok = w.based_ok;
        heard = w.heard;
        once = w.once;
        stable = w.stable;
        tallied = w.tallied;
      }

  pub whole_answers : (n : ℕ) (x : Standing) (v : ViewId) → nodes n ≡ x → 0 < x.inc → Le v x.promise → Lt x.view v → Whole o nodes (Answer v (record { node = n; inc = x.inc; view = x.view; list = x.list }) ∷ ps) all leads bases
  whole_answers n x v is up le lt =
      let p = Answer v (record { node = n; inc = x.inc; view = x.view; list = x.list }) in
      whole_sent p (move_answer o nodes ps tr log leads w.good n x v is up le lt) (λ e. omega arith) (once_packet p (λ e. omega arith) (λ e. omega arith)) (stable_packet p (λ e. omega arith) (λ e. omega arith))

  pub whole_acks : (n : ℕ) (x : Standing) (k : ℕ) → nodes n ≡ x → k ≤ length x.list → Whole o nodes (Ack x.view n x.inc k ∷ ps) all leads bases
  whole_acks n x k is le =
      let p = Ack x.view n x.inc k in
      whole_sent p (move_send o nodes ps tr log leads w.good p tt tt tt) (λ e. omega arith) (once_packet p (λ e. omega arith) (λ e. omega arith)) (record { acks = acks; stable = λ v l h. w.stable.stable v l (was_sent (Stable v l) p ps (λ e. omega arith) h) })
    where
      own : length (puts_of n x.view tr) ≡ length x.list
      own = let P : Standing → Type 0 = λ z. length (puts_of n z.view tr) ≡ length z.list in subst P is (ap length (w.good.past.seated n).list)

      acks : (v : ViewId) (m j l : ℕ) → Has (Ack v m j l) (Ack x.view n x.inc k ∷ ps) → l ≤ length (puts_of m v tr)
      acks v m j l (inr h) = w.stable.acks v m j l h
      acks v m j l (inl q) =
          let a : v ≡ x.view = cc in
          let b : m ≡ n = cc in
          let c : l ≡ k = cc in
          let P : ViewId × ℕ × ℕ → Type 0 = λ z. z.2 ≤ length (puts_of z.1 z.0 tr) in
          let here : P (x.view, n, k) = omega (arith, own, le) in
          subst P (λ z. (sym a z, sym b z, sym c z)) here

  pub whole_settles : (n j : ℕ) (v : ViewId) (ms : List Member) (k : ℕ) → Has (In n j v ms) tr → ((m i : ℕ) → Has (member m i) ms → (l : ℕ) × (k ≤ l) × Has (Ack v m i l) ps) → Whole o nodes (Stable v k ∷ ps) all leads bases
  whole_settles n j v ms k was all_acked =
      let p = Stable v k in
      whole_sent p (move_send o nodes ps tr log leads w.good p tt tt tt) (λ e. omega arith) (once_packet p (λ e. omega arith) (λ e. omega arith)) (record { acks = λ u m i l h. w.stable.acks u m i l (was_sent (Ack u m i l) p ps (λ e. omega arith) h); stable = stable })
    where
      Settled : ViewId → ℕ → Type 0
      Settled u l = (m i : ℕ) × (ns : List Member) × Has (In m i u ns) tr × ((a b : ℕ) → Has (member a b) ns → l ≤ length (puts_of a u tr))

      here : Settled v k
      here = (n, j, ms, was, λ m i h. let a = all_acked m i h in let b = w.stable.acks v m i a.0 a.2 in let c = a.1 in omega arith)

      stable : (u : ViewId) (l : ℕ) → Has (Stable u l) (Stable v k ∷ ps) → Settled u l
      stable u l (inr h) = w.stable.stable u l h
      stable u l (inl q) =
          let a : u ≡ v = cc in
          let c : l ≡ k = cc in
          subst (λ (z : ViewId × ℕ). Settled z.0 z.1) (λ z. (sym a z, sym c z)) here

  pub whole_names : (leads' : Leads) (v : ViewId) (n j : ℕ) → leads v ≡ None → SetAt leads leads' v (Some (member n j)) → Led ps tr v n j → MayLead o v n → Whole o nodes ps all leads' bases
  whole_names leads' v n j was set led may =
      record {
        log = log;
        good = move_name o nodes ps tr log leads w.good leads' v n j was set.here set.there led;
        firsts = firsts_name tr log leads leads' (λ u l e. set.there u (other u l e) ∙ e) w.firsts;
        of_base = λ u b e. of_base u b e (cases_view u v);
        of_none = λ u m i e q. of_none u m i e q (cases_view u v);
        based_ok = w.based_ok;
        heard = w.heard;
        once = w.once;
        stable = w.stable;
        tallied = w.tallied;
      }
    where
      other : (u : ViewId) (l : Member) → leads u ≡ Some l → u ≡ v → ⊥
      other u l e s = let f : leads v ≡ Some l = ap leads (sym s) ∙ e in cc

      of_base : (u : ViewId) (b : Origin) → bases u ≡ Some b → (u ≡ v) ⊎ (u ≡ v → ⊥) → leads' u ≡ leader_of u (Some b)
      of_base u b e (inr ne) = set.there u ne ∙ w.of_base u b e
      of_base u b e (inl s) =
          absurd (let f : leads v ≡ leader_of v (Some b) = w.of_base v b (ap bases (sym s) ∙ e) in cc)

      of_none : (u : ViewId) (m i : ℕ) → bases u ≡ None → leads' u ≡ Some (member m i) → (u ≡ v) ⊎ (u ≡ v → ⊥) → MayLead o u m
      of_none u m i e q (inr ne) = w.of_none u m i e (sym (set.there u ne) ∙ q)
      of_none u m i e q (inl s) =
          let f : Some (member m i) ≡ Some (member n j) = sym q ∙ ap leads' s ∙ set.here in
          let g : m ≡ n = (member_parts m n i j f).0 in
          subst (λ (z : ViewId × ℕ). MayLead o z.0 z.1) (λ z. (sym s z, sym g z)) may
