-- The entering of a view, and a start, keep what the records say of the past.
use Rattle.std.proofs.Common.{refl, Some, None, Option, ◌≡◌, ℕ, ◌+◌, ◌<◌, ◌⊎◌, List, [], ◌∷◌, ◌++◌, length, drop, Bool, true, false, sym, ap, ◌∙◌, subst, inl, inr, ⊎_elim, arith}
use Rattle.std.specs.Prelude.{◌==◌, if◌then◌else◌}
use Rattle.std.proofs.lemmas.Bool.{cases_eq}
use Rattle.rsct_packet.specs.declared.ids.ViewId.{ViewId}
use Rattle.rsct_packet.specs.declared.ids.Member.{Member}
use Rattle.proposal_core.specs.declared.entry.Entry.{Entry}
use Rattle.rsct_packet.specs.Search.{Has}
use Rattle.run_safety.specs.ViewOrder.{Lt, Le}
use Rattle.run_safety.specs.Group.{member, Standing, Reply, Packet, Answer, Install, Record, In, Put, puts_from}
use Rattle.run_safety.specs.GroupLists.{OneInstall, puts_of, held_by, held, WasIn, From}
use Rattle.run_safety.specs.Moves.{Opening, Alone, Born, first, Leads, Changes, Led}
use Rattle.run_safety.proofs.Order.{lt_trans, le_antisym, lt_not_same}
use Rattle.run_safety.proofs.Prefix.{IsPrefix, caught_up}
use Rattle.run_safety.proofs.Tracks.{Other, held_in_other, held_in_own, puts_many_other, puts_many_own, held_many_other, held_many_left, order_many, was_many, has_many, put_many, puts_none, held_none}
use Rattle.run_safety.proofs.Parts.{Bound, Entered}
use Rattle.run_safety.proofs.Keep.{Inv, each}
use Rattle.run_safety.proofs.Past.{Made, Seated, Past, led_on, was_entered, gone_left, Origin, born_number, born_inc}

module _ (o : Opening) (nodes : ℕ → Standing) (packets : List Packet) (trace : List Record) (log : ViewId → List Entry) (lead : Leads) (inv : Inv nodes packets trace log lead) (more : List Packet) (past : Past o nodes more trace lead) (one : OneInstall more) (stands : (v : ViewId) (r : Reply) → Has (Answer v r) more → Bound (nodes r.node) v r.inc r.view r.list) where
  -- what came before is of the same incarnation
  same_inc : (n i : ℕ) (v : ViewId) (ms : List Member) (ss : ViewId → List Entry) → Has (Install v ms ss) more → Has (member n ((nodes n)).inc) ms → WasIn trace n i v → i ≡ (nodes n).inc
  same_inc n i v ms ss sent among a = at (past.origin n i v a.0 a.1)
    where
      m : Made more v ms ss
      m = past.made v ms ss sent

      at : Origin o more n i v a.0 → i ≡ (nodes n).inc
      at (inl b) = absurd (let e = born_number o n i v a.0 b in omega (arith, m.later))
      at (inr o) = m.single n i (nodes n).inc (let k = one v a.0 ms o.0 ss o.1 sent in subst (Has (member n i)) k.0 o.2) among

  pub leader_inc : (n j : ℕ) (v : ViewId) (ms : List Member) (ss : ViewId → List Entry) → Has (Install v ms ss) more → Has (member n ((nodes n)).inc) ms → Led more trace v n j → j ≡ (nodes n).inc
  leader_inc n j v ms ss sent among (inl a) = same_inc n j v ms ss sent among a
  leader_inc n j v ms ss sent among (inr k) =
      let e = one v k.0 ms k.1 ss k.2 sent in
      (past.made v ms ss sent).single n j (nodes n).inc (subst (Has (member n j)) e.0 k.3) among

  pub past_enter : (now : ℕ → Standing) (n : ℕ) (v : ViewId) (ms : List Member) (ss : ViewId → List Entry) → 0 < (nodes n).inc → ((m : ℕ) (u : ViewId) → held_by m u true trace ≡ held_by m u false trace) → (nodes n).promise ≡ v → Lt (nodes n).view v → IsPrefix (nodes n).list (ss (nodes n).view) → Has (member n ((nodes n)).inc) ms → Has (Install v ms ss) more → Changes nodes now n (record (nodes n) { view = v; promise = v; list = [] }) → Past o now more (In n (nodes n).inc v ms ∷ puts_from n (nodes n).view (length (nodes n).list) (drop (length (nodes n).list) (ss (nodes n).view)) trace) lead
  past_enter now n v ms ss up quiet at lt front among sent c =
      record {
        led = λ w m j e. led_on more more trace tr' (λ p h. h) (λ r h. inr (has_many r n x.view (length x.list) es trace h)) w m j (past.led w m j e);
        origin = λ m j w ns h. was_origin m j w ns h;
        single = λ m j i u a b. one_inc m j i u (was m j u a) (was m i u b);
        seated = each (λ m y. Seated tr' m y) nodes now n (record x { view = v; promise = v; list = [] }) c (record {
          was = λ _. ((ms, inl refl), number);
          list = puts_many_other n n v x.view (length x.list) es trace (λ q. lt_not_same x.view v lt q.1) ∙ puts_none n v trace not_yet;
          count = held_in_own n x.inc v v false ms tr ∙ held_many_left n n v x.view (length x.list) es trace ∙ held_none n v true trace not_yet;
        }) (λ m ne. let t = past.seated m in
            let o : Other m (nodes m).view n x.view = λ q. ne (sym q.0) in
            record {
              was = λ u. (new m (nodes m).inc (nodes m).view (t.was u).0, (t.was u).1);
              list = puts_many_other m n (nodes m).view x.view (length x.list) es trace o ∙ t.list;
              count = held_in_other m n x.inc (nodes m).view v false ms tr (λ e. ne (sym e)) ∙ held_many_other m n (nodes m).view x.view false (length x.list) es trace o ∙ t.count;
            });
        put_in = λ m k f u h. put_at m k f u h;
        left = λ m j w u ns h fr. left_at m j w u ns h fr;
        order = order_many n x.view (length x.list) es trace (ap length (sym s.list)) past.order;
        answers = λ w r h. answer_at w r h (past.answers w r h);
        made = past.made;
      }
    where
      x : Standing
      x = nodes n

      s : Seated trace n x
      s = past.seated n

      es : List Entry
      es = drop (length x.list) (ss x.view)

      tr : List Record
      tr = puts_from n x.view (length x.list) es trace

      tr' : List Record
      tr' = In n x.inc v ms ∷ tr

      number : 0 < v.number
      number = let l = (past.made v ms ss sent).later in omega (arith, l)

      new : (m j : ℕ) (u : ViewId) → WasIn trace m j u → WasIn tr' m j u
      new m j u a = (a.0, inr (has_many (In m j u a.0) n x.view (length x.list) es trace a.1))

      -- a record of an entering is the new one, or was there
      Was : ℕ → ℕ → ViewId → Type 0
      Was m j u = ((m ≡ n) × (j ≡ x.inc) × (u ≡ v)) ⊎ WasIn trace m j u

      was_has : (m j : ℕ) (u : ViewId) (ns : List Member) → Has (In m j u ns) tr' → ((m ≡ n) × (j ≡ x.inc) × (u ≡ v) × (ns ≡ ms)) ⊎ Has (In m j u ns) trace
      was_has m j u ns (inl e) =
          let a : m ≡ n = cc in
          let b : j ≡ x.inc = cc in
          let c : u ≡ v = cc in
          let d : ns ≡ ms = cc in inl (a, b, c, d)
      was_has m j u ns (inr h) = inr (was_many m n j u x.view ns (length x.list) es trace h)

      was : (m j : ℕ) (u : ViewId) → WasIn tr' m j u → Was m j u
      was m j u a = by (was_has m j u a.0 a.1)
        where
          by : ((m ≡ n) × (j ≡ x.inc) × (u ≡ v) × (a.0 ≡ ms)) ⊎ Has (In m j u a.0) trace → Was m j u
          by (inl q) = inl (q.0, q.1, q.2)
          by (inr h) = inr (a.0, h)

      inc_of : (i : ℕ) → WasIn trace n i v → i ≡ x.inc
      inc_of i a = same_inc n i v ms ss sent among a

      one_inc : (m j i : ℕ) (u : ViewId) → Was m j u → Was m i u → j ≡ i
      one_inc m j i u (inl a) (inl b) = a.1 ∙ sym b.1
      one_inc m j i u (inl a) (inr b) = a.1 ∙ sym (inc_of i (subst (λ (q : ℕ × ViewId). WasIn trace q.0 i q.1) (λ z. (a.0 z, a.2 z)) b))
      one_inc m j i u (inr a) (inl b) = inc_of j (subst (λ (q : ℕ × ViewId). WasIn trace q.0 j q.1) (λ z. (b.0 z, b.2 z)) a) ∙ sym b.1
      one_inc m j i u (inr a) (inr b) = past.single m j i u a b

      was_origin : (m j : ℕ) (w : ViewId) (ns : List Member) → Has (In m j w ns) tr' → Origin o more m j w ns
      was_origin m j w ns h = by (was_has m j w ns h)
        where
          by : ((m ≡ n) × (j ≡ x.inc) × (w ≡ v) × (ns ≡ ms)) ⊎ Has (In m j w ns) trace → Origin o more m j w ns
          by (inl q) =
              let P : ℕ × ℕ × ViewId × List Member → Type 0 = λ k. Origin o more k.0 k.1 k.2 k.3 in
              let here : P (n, x.inc, v, ms) = inr (ss, sent, among) in
              subst P (λ z. (sym q.0 z, sym q.1 z, sym q.2 z, sym q.3 z)) here
          by (inr i) = past.origin m j w ns i

      -- the node did not enter v before
      never_in : (j : ℕ) → WasIn trace n j v → ⊥
      never_in j a = by (was_entered o nodes packets more trace log lead inv past n x.inc v (subst (λ k. WasIn trace n k v) (inc_of j a) a))
        where
          by : Entered x x.inc v → ⊥
          by (inl l) = omega arith
          by (inr l) = let le = l.1 in cc

      not_yet : (k : ℕ) (e : Entry) → Has (Put n v k e) trace → ⊥
      not_yet k e h = let i = past.put_in n k e v h in never_in i.0 i.1

      from : (m j : ℕ) (w u : ViewId) → WasIn trace m j u → From tr' m j w u → From trace m j w u
      from m j w u a fr = record { was = a; less = fr.less; last = λ t b l. fr.last t (new m j t b) l }

      left_old : (m j : ℕ) (w u : ViewId) (ns : List Member) → Has (In m j w ns) trace → WasIn trace m j u → From tr' m j w u → (ts : (ViewId → List Entry)) × Has (Install w ns ts) more × (puts_of m u tr' ≡ ts u)
      left_old m j w u ns h a fr =
          let k = past.left m j w u ns h (from m j w u a fr) in
          (k.0, k.1, puts_many_other m n u x.view (length x.list) es trace (gone_left o nodes packets more trace log lead inv past m j u w ns h a fr.less n up) ∙ k.2)

      -- the view that the node comes from now is the one that it was in
      came : (u : ViewId) → From tr' n x.inc v u → u ≡ x.view
      came u fr = by (was n x.inc u fr.was)
        where
          by : Was n x.inc u → u ≡ x.view
          by (inl q) = absurd (lt_not_same u v fr.less q.2)
          by (inr a) = le_antisym u x.view (le_view (was_entered o nodes packets more trace log lead inv past n x.inc u a)) (fr.last x.view (new n x.inc x.view (s.was up).0) lt)
            where
              le_view : Entered x x.inc u → Le u x.view
              le_view (inl l) = absurd (omega arith)
              le_view (inr l) = l.1

      left_new : (u : ViewId) → From tr' n x.inc v u → (ts : (ViewId → List Entry)) × Has (Install v ms ts) more × (puts_of n u tr' ≡ ts u)
      left_new u fr =
          let e = came u fr in
          let all : puts_of n x.view tr' ≡ ss x.view = puts_many_own n x.view (length x.list) es trace ∙ ap (λ l. l ++ es) s.list ∙ caught_up x.list (ss x.view) front in
          (ss, sent, subst (λ k. puts_of n k tr' ≡ ss k) (sym e) all)

      left_at : (m j : ℕ) (w u : ViewId) (ns : List Member) → Has (In m j w ns) tr' → From tr' m j w u → (ts : (ViewId → List Entry)) × Has (Install w ns ts) more × (puts_of m u tr' ≡ ts u)
      left_at m j w u ns h fr = by (was_has m j w ns h) (was m j u fr.was)
        where
          Goal : ℕ × ℕ × ViewId × List Member → Type 0
          Goal k = From tr' k.0 k.1 k.2 u → (ts : (ViewId → List Entry)) × Has (Install k.2 k.3 ts) more × (puts_of k.0 u tr' ≡ ts u)

          late : Entered x x.inc w → Lt v w → ⊥
          late (inl l) lt' = omega arith
          late (inr l) lt' = let a = lt_trans x.view v w lt lt' in let le = l.1 in cc

          by : ((m ≡ n) × (j ≡ x.inc) × (w ≡ v) × (ns ≡ ms)) ⊎ Has (In m j w ns) trace → Was m j u → (ts : (ViewId → List Entry)) × Has (Install w ns ts) more × (puts_of m u tr' ≡ ts u)
          by (inl q) a = subst Goal (λ z. (sym q.0 z, sym q.1 z, sym q.2 z, sym q.3 z)) (left_new u) fr
          by (inr i) (inr a) = left_old m j w u ns i a fr
          by (inr i) (inl q) = absurd (late (was_entered o nodes packets more trace log lead inv past n x.inc w (subst (λ (k : ℕ × ℕ). WasIn trace k.0 k.1 w) (λ z. (q.0 z, q.1 z)) (ns, i))) (subst (λ k. Lt k w) q.2 fr.less))

      answer_at : (w : ViewId) (r : Reply) → Has (Answer w r) more → From trace r.node r.inc w r.view × (held r.node r.view trace ≡ length r.list) → From tr' r.node r.inc w r.view × (held r.node r.view tr' ≡ length r.list)
      answer_at w r h k = (record { was = new r.node r.inc r.view k.0.was; less = k.0.less; last = λ t a l. last t (was r.node r.inc t a) l }, same ∙ k.1)
        where
          above : Bound x w x.inc r.view r.list → Le w v
          above (inl l) = absurd (omega arith)
          above (inr l) = subst (Le w) at l.1

          last : (t : ViewId) → Was r.node r.inc t → Lt t w → Le t r.view
          last t (inr a) l = k.0.last t a l
          last t (inl q) l =
              let st : Bound x w x.inc r.view r.list = subst (λ (p : ℕ × ℕ). Bound (nodes p.0) w p.1 r.view r.list) (λ z. (q.0 z, q.1 z)) (stands w r h) in
              let le = above st in
              let l' : Lt v w = subst (λ p. Lt p w) q.2 l in absurd (cc)

          same : held r.node r.view tr' ≡ held r.node r.view trace
          same = ⊎_elim (λ (e : r.node ≡ n). subst (λ p. held p r.view tr' ≡ held p r.view trace) (sym e) (held_in_own n x.inc r.view v false ms tr ∙ held_many_left n n r.view x.view (length x.list) es trace ∙ quiet n r.view)) (λ (ne : r.node ≡ n → ⊥). held_in_other r.node n x.inc r.view v false ms tr (λ e. ne (sym e)) ∙ held_many_other r.node n r.view x.view false (length x.list) es trace (λ q. ne (sym q.0))) (cases_eq r.node n)

      put_at : (m k : ℕ) (e : Entry) (u : ViewId) → Has (Put m u k e) tr' → (j : ℕ) × WasIn tr' m j u
      put_at m k e u (inl q) = absurd (cc)
      put_at m k e u (inr h) = by (put_many m n u x.view k e (length x.list) es trace h)
        where
          by : Has (Put m u k e) trace ⊎ ((n ≡ m) × (x.view ≡ u)) → (j : ℕ) × WasIn tr' m j u
          by (inl i) = let p = past.put_in m k e u i in (p.0, new m p.0 u p.1)
          by (inr q) = (x.inc, subst (λ (p : ℕ × ViewId). WasIn tr' p.0 x.inc p.1) (λ z. (q.0 z, q.1 z)) (new n x.inc x.view (s.was up).0))

-- a node starts
pub past_start : (o : Opening) (nodes : ℕ → Standing) (packets : List Packet) (trace : List Record) (log : ViewId → List Entry) (lead : Leads) (inv : Inv nodes packets trace log lead) (past : Past o nodes packets trace lead) (now : ℕ → Standing) (n : ℕ) (v : ViewId) (ms : List Member) → Born o n ((nodes n).inc + 1) v ms → ((m : ℕ) (u : ViewId) → held_by m u true trace ≡ held_by m u false trace) → Changes nodes now n (record { inc = (nodes n).inc + 1; view = v; promise = v; list = [] }) → Past o now packets (In n ((nodes n).inc + 1) v ms ∷ trace) lead
past_start o nodes packets trace log lead inv past now n v ms born quiet c =
    record {
      led = λ w m i e. led_on packets packets trace tr' (λ p h. h) (λ r h. inr h) w m i (past.led w m i e);
      origin = λ m i w ns h. was_origin m i w ns h;
      single = λ m i k u a b. one_inc m i k u (was m i u a) (was m k u b);
      seated = each (λ m y. Seated tr' m y) nodes now n (record { inc = j; view = v; promise = v; list = [] }) c (record {
        was = λ _. ((ms, inl refl), number);
        list = puts_none n v trace not_yet;
        count = held_in_own n j v v false ms trace ∙ held_none n v true trace not_yet;
      }) (λ m ne. let t = past.seated m in
          record {
            was = λ u. let k = t.was u in (new k.0, k.1);
            list = t.list;
            count = held_in_other m n j (nodes m).view v false ms trace (λ e. ne (sym e)) ∙ t.count;
          });
      put_in = λ m k e u h. ⊎_elim (λ (q : Put m u k e ≡ In n j v ms). absurd (cc)) (λ (i : Has (Put m u k e) trace). let p = past.put_in m k e u i in (p.0, new p.1)) h;
      left = λ m i w u ns h fr. left_at m i w u ns h fr;
      order = past.order;
      answers = λ w r h. answer_at w r h (past.answers w r h);
      made = past.made;
    }
  where
    j : ℕ
    j = (nodes n).inc + 1

    number : 0 < v.number
    number = let e = born_number o n j v ms born in omega (arith, e)

    tr' : List Record
    tr' = In n j v ms ∷ trace

    new : {m i : ℕ} {u : ViewId} → WasIn trace m i u → WasIn tr' m i u
    new a = (a.0, inr a.1)

    Was : ℕ → ℕ → ViewId → Type 0
    Was m i u = ((m ≡ n) × (i ≡ j) × (u ≡ v)) ⊎ WasIn trace m i u

    was_has : (m i : ℕ) (u : ViewId) (ns : List Member) → Has (In m i u ns) tr' → ((m ≡ n) × (i ≡ j) × (u ≡ v) × (ns ≡ ms)) ⊎ Has (In m i u ns) trace
    was_has m i u ns (inl e) =
        let a : m ≡ n = cc in
        let b : i ≡ j = cc in
        let c : u ≡ v = cc in
        let d : ns ≡ ms = cc in inl (a, b, c, d)
    was_has m i u ns (inr h) = inr h

    was : (m i : ℕ) (u : ViewId) → WasIn tr' m i u → Was m i u
    was m i u a = ⊎_elim (λ (q : (m ≡ n) × (i ≡ j) × (u ≡ v) × (a.0 ≡ ms)). inl (q.0, q.1, q.2)) (λ (h : Has (In m i u a.0) trace). inr (a.0, h)) (was_has m i u a.0 a.1)

    inc_of : (i : ℕ) → WasIn trace n i v → i ≡ j
    inc_of i a = at (past.origin n i v a.0 a.1)
      where
        at : Origin o packets n i v a.0 → i ≡ j
        at (inl b) = born_inc o n i j v a.0 ms b born
        at (inr k) = absurd (let l = (past.made v a.0 k.0 k.1).later in let e = born_number o n j v ms born in omega (arith, l))

    one_inc : (m i k : ℕ) (u : ViewId) → Was m i u → Was m k u → i ≡ k
    one_inc m i k u (inl a) (inl b) = a.1 ∙ sym b.1
    one_inc m i k u (inl a) (inr b) = a.1 ∙ sym (inc_of k (subst (λ (q : ℕ × ViewId). WasIn trace q.0 k q.1) (λ z. (a.0 z, a.2 z)) b))
    one_inc m i k u (inr a) (inl b) = inc_of i (subst (λ (q : ℕ × ViewId). WasIn trace q.0 i q.1) (λ z. (b.0 z, b.2 z)) a) ∙ sym b.1
    one_inc m i k u (inr a) (inr b) = past.single m i k u a b

    was_origin : (m i : ℕ) (w : ViewId) (ns : List Member) → Has (In m i w ns) tr' → Origin o packets m i w ns
    was_origin m i w ns h = by (was_has m i w ns h)
      where
        by : ((m ≡ n) × (i ≡ j) × (w ≡ v) × (ns ≡ ms)) ⊎ Has (In m i w ns) trace → Origin o packets m i w ns
        by (inl q) =
            let P : ℕ × ℕ × ViewId × List Member → Type 0 = λ k. Origin o packets k.0 k.1 k.2 k.3 in
            let here : P (n, j, v, ms) = inl born in
            subst P (λ z. (sym q.0 z, sym q.1 z, sym q.2 z, sym q.3 z)) here
        by (inr i') = past.origin m i w ns i'

    -- the incarnation is new
    none : (u : ViewId) → WasIn trace n j u → ⊥
    none u a = at (was_entered o nodes packets packets trace log lead inv past n j u a)
      where
        at : Entered (nodes n) j u → ⊥
        at (inl l) = omega arith
        at (inr l) = omega (arith, l.0)

    not_yet : (k : ℕ) (e : Entry) → Has (Put n v k e) trace → ⊥
    not_yet k e h = let i = past.put_in n k e v h in none v (subst (λ p. WasIn trace n p v) (inc_of i.0 i.1) i.1)

    left_at : (m i : ℕ) (w u : ViewId) (ns : List Member) → Has (In m i w ns) tr' → From tr' m i w u → (ts : (ViewId → List Entry)) × Has (Install w ns ts) packets × (puts_of m u tr' ≡ ts u)
    left_at m i w u ns h fr = by (was_has m i w ns h) (was m i u fr.was)
      where
        by : ((m ≡ n) × (i ≡ j) × (w ≡ v) × (ns ≡ ms)) ⊎ Has (In m i w ns) trace → Was m i u → (ts : (ViewId → List Entry)) × Has (Install w ns ts) packets × (puts_of m u tr' ≡ ts u)
        by (inl q) (inl a) = absurd (lt_not_same u w fr.less (a.2 ∙ sym q.2))
        by (inl q) (inr a) = absurd (none u (subst (λ (k : ℕ × ℕ). WasIn trace k.0 k.1 u) (λ z. (q.0 z, q.1 z)) a))
        by (inr i') (inl a) = absurd (none w (subst (λ (k : ℕ × ℕ). WasIn trace k.0 k.1 w) (λ z. (a.0 z, a.1 z)) (ns, i')))
        by (inr i') (inr a) = past.left m i w u ns i' (record { was = a; less = fr.less; last = λ t b l. fr.last t (new b) l })

    answer_at : (w : ViewId) (r : Reply) → Has (Answer w r) packets → From trace r.node r.inc w r.view × (held r.node r.view trace ≡ length r.list) → From tr' r.node r.inc w r.view × (held r.node r.view tr' ≡ length r.list)
    answer_at w r h k = (record { was = new k.0.was; less = k.0.less; last = λ t a l. last t (was r.node r.inc t a) l }, same ∙ k.1)
      where
        last : (t : ViewId) → Was r.node r.inc t → Lt t w → Le t r.view
        last t (inr a) l = k.0.last t a l
        last t (inl q) l = absurd (none r.view (subst (λ (p : ℕ × ℕ). WasIn trace p.0 p.1 r.view) (λ z. (q.0 z, q.1 z)) k.0.was))

        same : held r.node r.view tr' ≡ held r.node r.view trace
        same = by (n == r.node)
          where
            by : (b : Bool) → (if b then held_by r.node r.view true trace else held r.node r.view trace) ≡ held r.node r.view trace
            by true = quiet r.node r.view
            by false = refl

-- where nodes start alone, no one leads the view with which an incarnation starts
pub start_unled : (nodes : ℕ → Standing) (packets : List Packet) (trace : List Record) (log : ViewId → List Entry) (lead : Leads) (inv : Inv nodes packets trace log lead) (past : Past Alone nodes packets trace lead) (n : ℕ) → lead (first n ((nodes n).inc + 1)) ≡ None
start_unled nodes packets trace log lead inv past n = by (lead v) refl
  where
    v : ViewId
    v = first n ((nodes n).inc + 1)

    late : (m j : ℕ) → first m j ≡ v → Entered (nodes m) j v → ⊥
    late m j e h = at (ap (λ (q : ViewId). q.coord) e) (ap (λ (q : ViewId). q.inc) e) h
      where
        at : m ≡ n → j ≡ (nodes n).inc + 1 → Entered (nodes m) j v → ⊥
        at a b (inl l) = let l' : j < (nodes n).inc = subst (λ k. j < (nodes k).inc) a l in omega arith
        at a b (inr l) = let l' : j ≡ (nodes n).inc = subst (λ k. j ≡ (nodes k).inc) a l.0 in omega arith

    never : (ms : List Member) (ss : ViewId → List Entry) → Has (Install v ms ss) packets → ⊥
    never ms ss h = let l = (past.made v ms ss h).later in omega (arith, l)

    of : (m j : ℕ) → Led packets trace v m j → ⊥
    of m j (inr k) = never k.0 k.1 k.2
    of m j (inl a) = came (past.origin m j v a.0 a.1)
      where
        came : Origin Alone packets m j v a.0 → ⊥
        came (inr k) = never a.0 k.0 k.1
        came (inl k) = late m j (sym k.0) (was_entered Alone nodes packets packets trace log lead inv past m j v a)

    by : (o : Option Member) → lead v ≡ o → lead v ≡ None
    by None e = e
    by (Some l) e = absurd (of l.node l.inc (past.led v l.node l.inc e))
