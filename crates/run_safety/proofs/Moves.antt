-- The moves: what may happen, and that it keeps all parts. Steps of the world are made of these.
use Rattle.std.proofs.Common.{refl, Some, None, ◌≤◌, ◌≡◌, ℕ, ◌+◌, ◌<◌, ◌⊎◌, List, [], ◌∷◌, ◌++◌, length, drop, sym, ap, ◌∙◌, subst, inl, inr, ⊎_elim, arith}
use Rattle.std.proofs.lemmas.Bool.{cases_lt}
use Rattle.rsct_packet.specs.declared.ids.ViewId.{ViewId}
use Rattle.rsct_packet.specs.declared.ids.Member.{Member}
use Rattle.proposal_core.specs.declared.entry.Entry.{Entry}
use Rattle.rsct_packet.specs.Search.{Has}
use Rattle.run_safety.specs.ViewOrder.{Lt, Le}
use Rattle.run_safety.specs.Group.{member, Standing, Reply, Packet, Answer, Install, Append, Request, Refusal, Ack, Stable, Record, In, Put, Begins, puts_from}
use Rattle.run_safety.specs.GroupLists.{held, WasIn, From}
use Rattle.run_safety.specs.Moves.{Opening, Born, Leads, Changes, Quiet, Led}
use Rattle.run_safety.proofs.Order.{cases_view}
use Rattle.run_safety.proofs.Prefix.{IsPrefix}
use Rattle.run_safety.proofs.Parts.{Bound, Entered, Gave, InstallOk, PacketOk, packet_on, member_parts}
use Rattle.run_safety.proofs.Keep.{Inv, onwards, same_logs, Plain, belows, keep_send, keep_turn, keep_promise, keep_name}
use Rattle.run_safety.proofs.Appends.{Extends, keep_lead, keep_follow}
use Rattle.run_safety.proofs.Enters.{enter_onward, keep_enter, keep_start}
use Rattle.run_safety.proofs.Past.{Made, Past, past_send, was_entered, own_answer, past_promise, past_name, past_turn, past_put, member_reply, Origin, born_number}
use Rattle.run_safety.proofs.PastIn.{leader_inc, past_enter, past_start}

pub record Good (o : Opening) (nodes : ℕ → Standing) (packets : List Packet) (trace : List Record) (log : ViewId → List Entry) (lead : Leads) : Type 0 where
  pub inv : Inv nodes packets trace log lead
  pub past : Past o nodes packets trace lead

abbrev pub PastOk : List Record → Packet → Type 0
PastOk trace (Answer v r) = From trace r.node r.inc v r.view × (held r.node r.view trace ≡ length r.list)
PastOk trace (Install v ms ss) = Unit {0}
PastOk trace (Append v i e) = Unit {0}
PastOk trace (Request v p r x) = Unit {0}
PastOk trace (Refusal v p r) = Unit {0}
PastOk trace (Ack v n j k) = Unit {0}
PastOk trace (Stable v k) = Unit {0}

past_plain : (o : Opening) (nodes : ℕ → Standing) (packets : List Packet) (trace : List Record) (lead : Leads) (past : Past o nodes packets trace lead) (p : Packet) → Plain p → PastOk trace p → Past o nodes (p ∷ packets) trace lead
past_plain o nodes packets trace lead past p plain ok =
    past_send o nodes packets trace lead past (p ∷ packets) (λ q h. inr h) (λ v r h. ⊎_elim (λ (e : Answer v r ≡ p). let P : Packet → Type 0 = PastOk trace in subst P (sym e) ok) (λ (i : Has (Answer v r) packets). past.answers v r i) h) (λ v ms ss h. ⊎_elim (λ (e : Install v ms ss ≡ p). absurd (let P : Packet → Type 0 = Plain in subst P (sym e) plain)) (λ (i : Has (Install v ms ss) packets). made_on' v ms ss (past.made v ms ss i)) h)
  where
    made_on' : (v : ViewId) (ms : List Member) (ss : ViewId → List Entry) → Made packets v ms ss → Made (p ∷ packets) v ms ss
    made_on' v ms ss h = record { replies = h.replies; members = h.members; longest = h.longest; sent = λ r i. inr (h.sent r i); single = h.single; later = h.later }

-- a node's answer, as the node stands
abbrev pub reply_at : ℕ → Standing → Reply
reply_at n x = record { node = n; inc = x.inc; view = x.view; list = x.list }

-- a node that entered no view yet in which it would use what the sources have
pub gave_front : (x : Standing) (v : ViewId) (ss : ViewId → List Entry) → Lt x.view v → Gave x v x.inc ss → IsPrefix x.list (ss x.view)
gave_front x v ss lt (inl l) = absurd (omega arith)
gave_front x v ss lt (inr h) = h.2 lt

module _ (o : Opening) (nodes : ℕ → Standing) (packets : List Packet) (trace : List Record) (log : ViewId → List Entry) (lead : Leads) (good : Good o nodes packets trace log lead) where
  inv : Inv nodes packets trace log lead
  inv = good.inv

  past : Past o nodes packets trace lead
  past = good.past

  -- an event begins
  pub move_turn : Good o nodes packets (Begins ∷ trace) log lead
  move_turn = record { inv = keep_turn nodes packets trace log lead inv; past = past_turn o nodes packets trace log lead inv past }

  -- a packet is sent that is neither answer nor install nor entry
  pub move_send : (p : Packet) → Plain p → PacketOk nodes log p → PastOk trace p → Good o nodes (p ∷ packets) trace log lead
  move_send p plain ok ok' =
      record { inv = keep_send nodes packets trace log lead inv p plain ok; past = past_plain o nodes packets trace lead past p plain ok' }

  -- a node promises more, or as much as it did
  pub move_promise : (now : ℕ → Standing) (n : ℕ) (v : ViewId) → Le (nodes n).promise v → Changes nodes now n (record (nodes n) { promise = v }) → Good o now packets trace log lead
  move_promise now n v le c =
      record { inv = keep_promise nodes packets trace log lead inv now n v le c; past = past_promise o nodes packets trace log lead inv past now n v c }

  -- a node that has promised v, and is not in it, answers
  pub move_answer : (n : ℕ) (x : Standing) (v : ViewId) → nodes n ≡ x → 0 < x.inc → Le v x.promise → Lt x.view v → Good o nodes (Answer v (reply_at n x) ∷ packets) trace log lead
  move_answer n x v is up le lt =
      let p = Answer v (reply_at n x) in
      let stands : Bound (nodes n) v x.inc x.view x.list = let P : Standing → Type 0 = λ z. Bound z v x.inc x.view x.list in subst P (sym is) (inr (refl, le, λ _. (refl, refl))) in
      let within : IsPrefix x.list (log x.view) = let P : Standing → Type 0 = λ z. IsPrefix z.list (log z.view) in subst P is (inv.node n).part in
      let P : Standing → Type 0 = λ z. 0 < z.inc → Lt z.view v → From trace n z.inc v z.view × (held n z.view trace ≡ length z.list) in
      let said = subst P is (own_answer o nodes packets trace log lead inv past n v) in
      record { inv = keep_send nodes packets trace log lead inv p tt (stands, within); past = past_plain o nodes packets trace lead past p tt (said up lt) }

  -- the leader appends, and sends the entry
  pub move_lead : (now : ℕ → Standing) (log' : ViewId → List Entry) (n : ℕ) (e : Entry) → 0 < (nodes n).inc → lead (nodes n).view ≡ Some (member n (nodes n).inc) → (nodes n).view ≡ (nodes n).promise → Changes nodes now n (record (nodes n) { list = (nodes n).list ++ e ∷ [] }) → Extends log log' (nodes n).view e → Good o now (Append (nodes n).view (length (nodes n).list) e ∷ packets) (Put n (nodes n).view (length (nodes n).list) e ∷ trace) log' lead
  move_lead now log' n e up leads same c ext =
      record {
        inv = keep_lead nodes packets trace log lead inv now log' n e leads same c ext;
        past = past_plain o now packets (Put n (nodes n).view (length (nodes n).list) e ∷ trace) lead (past_put o nodes packets trace log lead inv past now n e up same c) (Append (nodes n).view (length (nodes n).list) e) tt tt;
      }

  -- another appends an entry that was sent
  pub move_follow : (now : ℕ → Standing) (n : ℕ) (e : Entry) → 0 < (nodes n).inc → (nodes n).view ≡ (nodes n).promise → Has (Append (nodes n).view (length (nodes n).list) e) packets → Changes nodes now n (record (nodes n) { list = (nodes n).list ++ e ∷ [] }) → Good o now packets (Put n (nodes n).view (length (nodes n).list) e ∷ trace) log lead
  move_follow now n e up same sent c =
      record {
        inv = keep_follow nodes packets trace log lead inv now n e same sent c;
        past = past_put o nodes packets trace log lead inv past now n e up same c;
      }

  -- a node starts, in a view that nobody leads yet
  pub move_start : (now : ℕ → Standing) (n : ℕ) (v : ViewId) (ms : List Member) → Quiet trace → Born o n ((nodes n).inc + 1) v ms → lead v ≡ None → Changes nodes now n (record { inc = (nodes n).inc + 1; view = v; promise = v; list = [] }) → Good o now packets (In n ((nodes n).inc + 1) v ms ∷ trace) log lead
  move_start now n v ms quiet born unled c =
      record {
        inv = keep_start nodes packets trace log lead inv now n v ms (λ j e. let f : None ≡ Some (member n j) = sym unled ∙ e in cc) c;
        past = past_start o nodes packets trace log lead inv past now n v ms born quiet.at c;
      }

  stands_of : (v : ViewId) (r : Reply) → Has (Answer v r) packets → Bound (nodes r.node) v r.inc r.view r.list
  stands_of v r h = (inv.packet (Answer v r) h).0

  -- a among enters a view by the install
  pub move_enter : (now : ℕ → Standing) (n : ℕ) (v : ViewId) (ms : List Member) (ss : ViewId → List Entry) → Quiet trace → 0 < (nodes n).inc → (nodes n).promise ≡ v → Lt (nodes n).view v → Has (member n ((nodes n)).inc) ms → Has (Install v ms ss) packets → Changes nodes now n (record (nodes n) { view = v; promise = v; list = [] }) → Good o now packets (In n (nodes n).inc v ms ∷ puts_from n (nodes n).view (length (nodes n).list) (drop (length (nodes n).list) (ss (nodes n).view)) trace) log lead
  move_enter now n v ms ss quiet up at lt among sent c =
      let x = nodes n in
      let ok : InstallOk nodes log v ms ss = inv.packet (Install v ms ss) sent in
      let on = onwards nodes now n (record x { view = v; promise = v; list = [] }) c (enter_onward nodes packets trace log lead inv n v at lt) in
      let front = gave_front x v ss lt (ok.gave n x.inc among) in
      record {
        inv = keep_enter nodes packets trace log lead inv now n v ms ss packets at lt front (ok.sources x.view) (λ j e. leader_inc o nodes packets trace log lead inv packets past inv.one stands_of n j v ms ss sent among (past.led v n j e)) c (λ p h. h) (λ p h. packet_on nodes now log log (belows nodes packets trace log lead inv) on (same_logs log) p (inv.packet p h)) inv.one sent;
        past = past_enter o nodes packets trace log lead inv packets past inv.one stands_of now n v ms ss up quiet.at at lt front among sent c;
      }

  -- a leader is in its view with the incarnation that was named
  leader_is : (v : ViewId) (n j : ℕ) → Led packets trace v n j → (nodes n).view ≡ v → j ≡ (nodes n).inc
  leader_is v n j led same = by (cases_lt 0 (nodes n).inc)
    where
      x : Standing
      x = nodes n

      zero_is : Entered x j v ⊎ ((u : ViewId) × Entered x j u) → x.inc ≤ 0 → j ≡ x.inc
      zero_is (inl (inl l)) z = omega arith
      zero_is (inl (inr l)) z = l.0
      zero_is (inr (u, inl l)) z = omega arith
      zero_is (inr (u, inr l)) z = l.0

      low : Led packets trace v n j → x.inc ≤ 0 → j ≡ x.inc
      low (inl a) z = zero_is (inl (was_entered o nodes packets packets trace log lead inv past n j v a)) z
      low (inr k) z =
          let m = past.made v k.0 k.1 k.2 in
          let r = member_reply n j m.replies (subst (Has (member n j)) m.members k.3) in
          let f = (past.answers v r.0 (m.sent r.0 r.1)).0 in
          let was = subst (λ (q : ℕ × ℕ). Entered (nodes q.0) q.1 r.0.view) (λ i. (r.2 i, r.3 i)) (was_entered o nodes packets packets trace log lead inv past r.0.node r.0.inc r.0.view f.was) in
          zero_is (inr (r.0.view, was)) z

      high : Led packets trace v n j → 0 < x.inc → j ≡ x.inc
      high led up = on (subst (WasIn trace n x.inc) same ((past.seated n).was up).0) led
        where
          on : WasIn trace n x.inc v → Led packets trace v n j → j ≡ x.inc
          on b (inl a) = past.single n j x.inc v a b
          on b (inr k) = of (past.origin n x.inc v b.0 b.1)
            where
              m : Made packets v k.0 k.1
              m = past.made v k.0 k.1 k.2

              of : Origin o packets n x.inc v b.0 → j ≡ x.inc
              of (inl k) = absurd (let e = born_number o n x.inc v b.0 k in omega (arith, m.later))
              of (inr o) = m.single n j x.inc k.3 (subst (Has (member n x.inc)) (inv.one v b.0 k.0 o.0 k.1 o.1 k.2).0 o.2)

      by : (0 < x.inc) ⊎ (x.inc ≤ 0) → j ≡ x.inc
      by (inl up) = high led up
      by (inr z) = low led z

  -- a view gets its leader
  pub move_name : (lead' : Leads) (v : ViewId) (n j : ℕ) → lead v ≡ None → lead' v ≡ Some (member n j) → ((u : ViewId) → (u ≡ v → ⊥) → lead' u ≡ lead u) → Led packets trace v n j → Good o nodes packets trace log lead'
  move_name lead' v n j was now rest led =
      record {
        inv = keep_name nodes packets trace log lead inv lead' v n j was now rest (λ u. cases_view u v) (leader_is v n j led);
        past = past_name o nodes packets trace log lead inv past lead' (λ u m i e. ⊎_elim (λ (s : u ≡ v). at u m i s (ap lead' (sym s) ∙ e)) (λ (d : u ≡ v → ⊥). past.led u m i (sym (rest u d) ∙ e)) (cases_view u v));
      }
    where
      at : (u : ViewId) (m i : ℕ) → u ≡ v → lead' v ≡ Some (member m i) → Led packets trace u m i
      at u m i s e =
          let k = member_parts m n i j (sym e ∙ now) in
          subst (λ (q : ViewId × ℕ × ℕ). Led packets trace q.0 q.1 q.2) (λ z. (sym s z, sym k.0 z, sym k.1 z)) led
