-- What the records say of the past, and that each move keeps it. It stands on the invariant of the views.
use Rattle.std.proofs.Common.{refl, Some, ◌≡◌, ℕ, ◌+◌, ◌<◌, ◌⊎◌, List, [], ◌∷◌, ◌++◌, length, false, sym, ap, ◌∙◌, subst, inl, inr, arith, length-append}
use Rattle.rsct_packet.specs.declared.ids.ViewId.{ViewId}
use Rattle.rsct_packet.specs.declared.ids.Member.{Member}
use Rattle.proposal_core.specs.declared.entry.Entry.{Entry}
use Rattle.rsct_packet.specs.Search.{Has}
use Rattle.run_safety.specs.ViewOrder.{Lt, Le}
use Rattle.run_safety.specs.Group.{member, Standing, Reply, members_of, Packet, Answer, Install, Record, In, Put, Begins}
use Rattle.run_safety.specs.GroupLists.{puts_of, held, InOrder, WasIn, From}
use Rattle.run_safety.specs.Moves.{Opening, Alone, Together, Born, Leads, Changes, Longest, Led}
use Rattle.run_safety.proofs.Order.{lt_le_trans, lt_not_same}
use Rattle.run_safety.proofs.Tracks.{Other, puts_other, puts_own, held_other, held_own}
use Rattle.run_safety.proofs.Parts.{Bound, Entered}
use Rattle.run_safety.proofs.Keep.{Inv, each}

-- an install is made of answers that were sent, of members of one incarnation each
pub record Made (packets : List Packet) (v : ViewId) (ms : List Member) (ss : ViewId → List Entry) : Type 0 where
  pub replies : List Reply
  pub members : ms ≡ members_of replies
  pub longest : Longest replies ss
  pub sent : (r : Reply) → Has r replies → Has (Answer v r) packets
  pub single : (m i j : ℕ) → Has (member m i) ms → Has (member m j) ms → i ≡ j
  pub later : 1 < v.number

-- how a node came into a view
abbrev pub Origin : Opening → List Packet → ℕ → ℕ → ViewId → List Member → Type 0
Origin o packets n j v ms =
    Born o n j v ms ⊎ ((ss : ViewId → List Entry) × Has (Install v ms ss) packets × Has (member n j) ms)

-- a node that was started is in a view that it entered
pub record Seated (trace : List Record) (n : ℕ) (x : Standing) : Type 0 where
  pub was : 0 < x.inc → WasIn trace n x.inc x.view × (0 < x.view.number)
  pub list : puts_of n x.view trace ≡ x.list
  pub count : held n x.view trace ≡ length x.list

pub record Past (o : Opening) (nodes : ℕ → Standing) (packets : List Packet) (trace : List Record) (lead : Leads) : Type 0 where
  pub led : (v : ViewId) (n j : ℕ) → lead v ≡ Some (member n j) → Led packets trace v n j
  pub origin : (n j : ℕ) (v : ViewId) (ms : List Member) → Has (In n j v ms) trace → Origin o packets n j v ms
  pub single : (n j i : ℕ) (u : ViewId) → WasIn trace n j u → WasIn trace n i u → j ≡ i
  pub seated : (n : ℕ) → Seated trace n (nodes n)
  pub put_in : (n k : ℕ) (e : Entry) (u : ViewId) → Has (Put n u k e) trace → (j : ℕ) × WasIn trace n j u
  pub left : (n j : ℕ) (w u : ViewId) (ms : List Member) → Has (In n j w ms) trace → From trace n j w u → (ss : ViewId → List Entry) × Has (Install w ms ss) packets × (puts_of n u trace ≡ ss u)
  pub order : InOrder trace
  pub answers : (v : ViewId) (r : Reply) → Has (Answer v r) packets → From trace r.node r.inc v r.view × (held r.node r.view trace ≡ length r.list)
  pub made : (v : ViewId) (ms : List Member) (ss : ViewId → List Entry) → Has (Install v ms ss) packets → Made packets v ms ss

origin_on : (o : Opening) (packets more : List Packet) → ((p : Packet) → Has p packets → Has p more) → (n j : ℕ) (v : ViewId) (ms : List Member) → Origin o packets n j v ms → Origin o more n j v ms
origin_on o packets more f n j v ms (inl e) = inl e
origin_on o packets more f n j v ms (inr h) = inr (h.0, f (Install v ms h.0) h.1, h.2)

pub led_on : (packets more : List Packet) (trace trace' : List Record) → ((p : Packet) → Has p packets → Has p more) → ((r : Record) → Has r trace → Has r trace') → (v : ViewId) (n j : ℕ) → Led packets trace v n j → Led more trace' v n j
led_on packets more trace trace' f g v n j (inl a) = inl (a.0, g (In n j v a.0) a.1)
led_on packets more trace trace' f g v n j (inr k) = inr (k.0, k.1, f (Install v k.0 k.1) k.2, k.3)

-- more packets, with what has to hold of those that are answers or installs
pub past_send : (o : Opening) (nodes : ℕ → Standing) (packets : List Packet) (trace : List Record) (lead : Leads) (past : Past o nodes packets trace lead) (more : List Packet) → ((p : Packet) → Has p packets → Has p more) → ((v : ViewId) (r : Reply) → Has (Answer v r) more → From trace r.node r.inc v r.view × (held r.node r.view trace ≡ length r.list)) → ((v : ViewId) (ms : List Member) (ss : ViewId → List Entry) → Has (Install v ms ss) more → Made more v ms ss) → Past o nodes more trace lead
past_send o nodes packets trace lead past more f answers made =
    record {
      led = λ v n j e. led_on packets more trace trace f (λ r h. h) v n j (past.led v n j e);
      origin = λ n j v ms h. origin_on o packets more f n j v ms (past.origin n j v ms h);
      single = past.single;
      seated = past.seated;
      put_in = past.put_in;
      left = λ n j w u ms h fr. let k = past.left n j w u ms h fr in (k.0, f (Install w ms k.0) k.1, k.2);
      order = past.order;
      answers = answers;
      made = made;
    }

module _ (o : Opening) (nodes : ℕ → Standing) (packets given : List Packet) (trace : List Record) (log : ViewId → List Entry) (lead : Leads) (inv : Inv nodes packets trace log lead) (past : Past o nodes given trace lead) where
  -- what an incarnation entered
  pub was_entered : (n j : ℕ) (u : ViewId) → WasIn trace n j u → Entered (nodes n) j u
  was_entered n j u h = inv.records (In n j u h.0) h.1

  -- a view that a node has left is not the one in which a node puts
  pub gone : (m j : ℕ) (u : ViewId) → WasIn trace m j u → ((j < (nodes m).inc) ⊎ Lt u (nodes m).view) → (n : ℕ) → 0 < (nodes n).inc → Other m u n (nodes n).view
  gone m j u h l n up q = at l
    where
      seat : WasIn trace m (nodes m).inc (nodes m).view
      seat = ((past.seated m).was (let P : ℕ → Type 0 = λ k. 0 < (nodes k).inc in subst P q.0 up)).0

      same : u ≡ (nodes m).view
      same = sym q.1 ∙ ap (λ k. (nodes k).view) q.0

      at : ((j < (nodes m).inc) ⊎ Lt u (nodes m).view) → ⊥
      at (inl l) = let e : j ≡ (nodes m).inc = past.single m j (nodes m).inc u h (subst (WasIn trace m (nodes m).inc) (sym same) seat) in omega arith
      at (inr l) = lt_not_same u (nodes m).view l same

  pub gone_left : (m j : ℕ) (u w : ViewId) (ms : List Member) → Has (In m j w ms) trace → WasIn trace m j u → Lt u w → (n : ℕ) → 0 < (nodes n).inc → Other m u n (nodes n).view
  gone_left m j u w ms h a lt n up = gone m j u a (at (was_entered m j w (ms, h))) n up
    where
      at : Entered (nodes m) j w → ((j < (nodes m).inc) ⊎ Lt u (nodes m).view)
      at (inl l) = inl l
      at (inr l) = inr (lt_le_trans u w (nodes m).view lt l.1)

module _ (o : Opening) (nodes : ℕ → Standing) (packets : List Packet) (trace : List Record) (log : ViewId → List Entry) (lead : Leads) (inv : Inv nodes packets trace log lead) (past : Past o nodes packets trace lead) where
  -- the node's answer, as it stands
  pub own_answer : (n : ℕ) (v : ViewId) → 0 < (nodes n).inc → Lt (nodes n).view v → From trace n (nodes n).inc v (nodes n).view × (held n (nodes n).view trace ≡ length (nodes n).list)
  own_answer n v up lt =
      let s = past.seated n in (record { was = (s.was up).0; less = lt; last = λ t h l. before t h }, s.count)
    where
      before : (t : ViewId) → WasIn trace n (nodes n).inc t → Le t (nodes n).view
      before t h = at (inv.records (In n (nodes n).inc t h.0) h.1)
        where
          at : Entered (nodes n) (nodes n).inc t → Le t (nodes n).view
          at (inl l) = absurd (omega arith)
          at (inr l) = l.1

  -- a node promises more
  pub past_promise : (now : ℕ → Standing) (n : ℕ) (v : ViewId) → Changes nodes now n (record (nodes n) { promise = v }) → Past o now packets trace lead
  past_promise now n v c =
      let s = past.seated n in
      record {
        led = past.led;
        origin = past.origin;
        single = past.single;
        seated = each (λ m y. Seated trace m y) nodes now n (record (nodes n) { promise = v }) c (record { was = s.was; list = s.list; count = s.count }) (λ m ne. past.seated m);
        put_in = past.put_in;
        left = past.left;
        order = past.order;
        answers = past.answers;
        made = past.made;
      }

  -- a view gets its leader
  pub past_name : (lead' : Leads) → ((v : ViewId) (n j : ℕ) → lead' v ≡ Some (member n j) → Led packets trace v n j) → Past o nodes packets trace lead'
  past_name lead' led =
      record {
        led = led;
        origin = past.origin;
        single = past.single;
        seated = past.seated;
        put_in = past.put_in;
        left = past.left;
        order = past.order;
        answers = past.answers;
        made = past.made;
      }

  pub past_turn : Past o nodes packets (Begins ∷ trace) lead
  past_turn =
      record {
        led = λ v n j e. led_on packets packets trace (Begins ∷ trace) (λ p h. h) (λ r h. inr h) v n j (past.led v n j e);
        origin = λ n j v ms h. past.origin n j v ms (old (In n j v ms) h (λ e. cc));
        single = λ n j i u a b. past.single n j i u (was a) (was b);
        seated = λ n. let s = past.seated n in record { was = λ up. let k = s.was up in (new k.0, k.1); list = s.list; count = s.count };
        put_in = λ n k e u h. let i = past.put_in n k e u (old (Put n u k e) h (λ q. cc)) in (i.0, new i.1);
        left = λ n j w u ms h fr. past.left n j w u ms (old (In n j w ms) h (λ e. cc)) (from fr);
        order = past.order;
        answers = λ v r h. let k = past.answers v r h in (record { was = new k.0.was; less = k.0.less; last = λ t a l. k.0.last t (was a) l }, k.1);
        made = past.made;
      }
    where
      old : (r : Record) → Has r (Begins ∷ trace) → (r ≡ Begins → ⊥) → Has r trace
      old r (inl e) f = absurd (f e)
      old r (inr h) f = h

      was : {n j : ℕ} {u : ViewId} → WasIn (Begins ∷ trace) n j u → WasIn trace n j u
      was {n} {j} {u} a = (a.0, old (In n j u a.0) a.1 (λ e. cc))

      new : {n j : ℕ} {u : ViewId} → WasIn trace n j u → WasIn (Begins ∷ trace) n j u
      new a = (a.0, inr a.1)

      from : {n j : ℕ} {w u : ViewId} → From (Begins ∷ trace) n j w u → From trace n j w u
      from fr = record { was = was fr.was; less = fr.less; last = λ t a l. fr.last t (new a) l }

  -- a node that is not frozen puts an entry
  pub past_put : (now : ℕ → Standing) (n : ℕ) (e : Entry) → 0 < (nodes n).inc → (nodes n).view ≡ (nodes n).promise → Changes nodes now n (record (nodes n) { list = (nodes n).list ++ e ∷ [] }) → Past o now packets (Put n (nodes n).view (length (nodes n).list) e ∷ trace) lead
  past_put now n e up same c =
      record {
        led = λ v m j q. led_on packets packets trace tr' (λ p h. h) (λ r h. inr h) v m j (past.led v m j q);
        origin = λ m j v ms h. past.origin m j v ms (old (In m j v ms) h (λ q. cc));
        single = λ m j i u a b. past.single m j i u (was a) (was b);
        seated = each (λ m y. Seated tr' m y) nodes now n (record x { list = x.list ++ e ∷ [] }) c (record {
          was = λ _. (new (s.was up).0, (s.was up).1);
          list = puts_own n x.view (length x.list) e trace ∙ ap (λ l. l ++ e ∷ []) s.list;
          count = held_own n x.view (length x.list) e trace ∙ ap (λ k. k + 1) s.count ∙ sym (length-append x.list (e ∷ []));
        }) (λ m ne. let t = past.seated m in
            let o : Other m (nodes m).view n x.view = λ q. ne (sym q.0) in
            record {
              was = λ u. (new (t.was u).0, (t.was u).1);
              list = puts_other m n (nodes m).view x.view (length x.list) e trace o ∙ t.list;
              count = held_other m n (nodes m).view x.view false (length x.list) e trace o ∙ t.count;
            });
        put_in = λ m k f u h. put_at m k f u h;
        left = λ m j w u ms h fr. let h' = old (In m j w ms) h (λ q. cc) in
            let fr' = from fr in
            let k = past.left m j w u ms h' fr' in
            (k.0, k.1, puts_other m n u x.view (length x.list) e trace (gone_left o nodes packets packets trace log lead inv past m j u w ms h' fr'.was fr'.less n up) ∙ k.2);
        order = (ap length (sym s.list), past.order);
        answers = λ v r h. let k = past.answers v r h in (
          record { was = new k.0.was; less = k.0.less; last = λ t a l. k.0.last t (was a) l },
          held_other r.node n r.view x.view false (length x.list) e trace (not_here v r h k.0) ∙ k.1,
        );
        made = past.made;
      }
    where
      x : Standing
      x = nodes n

      s : Seated trace n x
      s = past.seated n

      tr' : List Record
      tr' = Put n x.view (length x.list) e ∷ trace

      old : (r : Record) → Has r tr' → (r ≡ Put n x.view (length x.list) e → ⊥) → Has r trace
      old r (inl q) f = absurd (f q)
      old r (inr h) f = h

      was : {m j : ℕ} {u : ViewId} → WasIn tr' m j u → WasIn trace m j u
      was {m} {j} {u} a = (a.0, old (In m j u a.0) a.1 (λ q. cc))

      new : {m j : ℕ} {u : ViewId} → WasIn trace m j u → WasIn tr' m j u
      new a = (a.0, inr a.1)

      from : {m j : ℕ} {w u : ViewId} → From tr' m j w u → From trace m j w u
      from fr = record { was = was fr.was; less = fr.less; last = λ t a l. fr.last t (new a) l }

      put_at : (m k : ℕ) (f : Entry) (u : ViewId) → Has (Put m u k f) tr' → (j : ℕ) × WasIn tr' m j u
      put_at m k f u (inl q) =
          let a : m ≡ n = cc in
          let b : u ≡ x.view = cc in
          (x.inc, subst (λ (p : ℕ × ViewId). WasIn tr' p.0 x.inc p.1) (λ z. (sym a z, sym b z)) (new (s.was up).0))
      put_at m k f u (inr h) = let i = past.put_in m k f u h in (i.0, new i.1)

      not_here : (v : ViewId) (r : Reply) → Has (Answer v r) packets → From trace r.node r.inc v r.view → Other r.node r.view n x.view
      not_here v r h fr q = at (inv.packet (Answer v r) h).0
        where
          at : Bound (nodes r.node) v r.inc r.view r.list → ⊥
          at (inl l) = gone o nodes packets packets trace log lead inv past r.node r.inc r.view fr.was (inl l) n up q
          at (inr l) =
              let le : Le v (nodes n).promise = subst (λ k. Le v (nodes k).promise) (sym q.0) l.1 in
              let le' : Le v (nodes n).view = subst (Le v) (sym same) le in
              lt_not_same r.view (nodes n).view (lt_le_trans r.view v (nodes n).view fr.less le') (sym q.1)

-- who is a member has a reply
pub member_reply : (m j : ℕ) (rs : List Reply) → Has (member m j) (members_of rs) → (r : Reply) × Has r rs × (r.node ≡ m) × (r.inc ≡ j)
member_reply m j [] h = absurd h
member_reply m j (r ∷ rs) (inl e) = (r, inl refl, ap (λ (k : Member). k.node) (sym e), ap (λ (k : Member). k.inc) (sym e))
member_reply m j (r ∷ rs) (inr h) = let k = member_reply m j rs h in (k.0, inr k.1, k.2, k.3)

pub reply_member : (r : Reply) (rs : List Reply) → Has r rs → Has (member r.node r.inc) (members_of rs)
reply_member r [] h = absurd h
reply_member r (q ∷ rs) (inl e) = inl (λ z. member (e z).node (e z).inc)
reply_member r (q ∷ rs) (inr h) = inr (reply_member r rs h)

-- what a birth says of the view and the members
pub born_number : (o : Opening) (n j : ℕ) (v : ViewId) (ms : List Member) → Born o n j v ms → v.number ≡ 1
born_number Alone n j v ms b = ap (λ (q : ViewId). q.number) b.0
born_number (Together w all) n j v ms b = ap (λ (q : ViewId). q.number) b.0 ∙ b.3

pub born_inc : (o : Opening) (n j i : ℕ) (v : ViewId) (ms ns : List Member) → Born o n j v ms → Born o n i v ns → j ≡ i
born_inc Alone n j i v ms ns b c = ap (λ (q : ViewId). q.inc) (sym b.0 ∙ c.0)
born_inc (Together w all) n j i v ms ns b c = b.2 ∙ sym c.2

pub born_member : (o : Opening) (n j : ℕ) (v : ViewId) (ms : List Member) → Born o n j v ms → Has (member n j) ms
born_member Alone n j v ms b = subst (Has (member n j)) (sym b.1) (inl refl)
born_member (Together w all) n j v ms b =
    subst (λ (q : ℕ × List Member). Has (member n q.0) q.1) (λ z. (sym b.2 z, sym b.1 z)) b.4

pub born_same : (o : Opening) (n m j i : ℕ) (v : ViewId) (ms ns : List Member) → Born o n j v ms → Born o m i v ns → ms ≡ ns
born_same Alone n m j i v ms ns b c =
    let a : n ≡ m = ap (λ (q : ViewId). q.coord) (sym b.0 ∙ c.0) in
    let d : j ≡ i = ap (λ (q : ViewId). q.inc) (sym b.0 ∙ c.0) in
    b.1 ∙ ap (λ (q : ℕ × ℕ). member q.0 q.1 ∷ []) (λ z. (a z, d z)) ∙ sym c.1
born_same (Together w all) n m j i v ms ns b c = b.1 ∙ sym c.1
