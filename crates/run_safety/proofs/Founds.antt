-- A coordinator that has collected answers may install the view and enter it.
use Rattle.std.proofs.Common.{refl, Some, None, Option, ◌≡◌, ℕ, ◌<◌, ◌⊎◌, List, [], ◌∷◌, length, drop, true, false, sym, ap, ◌∙◌, subst, inl, inr, arith}
use Rattle.rsct_packet.specs.declared.ids.ViewId.{ViewId}
use Rattle.rsct_packet.specs.declared.ids.Member.{Member}
use Rattle.proposal_core.specs.declared.entry.Entry.{Entry}
use Rattle.rsct_packet.specs.Search.{Has}
use Rattle.run_safety.specs.ViewOrder.{Lt, Le}
use Rattle.run_safety.specs.Group.{member, Standing, Reply, members_of, Packet, Answer, Install, Record, In, puts_from}
use Rattle.run_safety.specs.GroupLists.{OneInstall, held_by}
use Rattle.run_safety.specs.Moves.{Opening, Leads, Changes, Quiet, Collected, Led}
use Rattle.run_safety.proofs.Order.{lt_refl, lt_le}
use Rattle.run_safety.proofs.Prefix.{IsPrefix, prefix_nil, prefix_both}
use Rattle.run_safety.proofs.Parts.{Bound, Onward, Entered, Gave, gave_on, InstallOk, PacketOk, packet_on, added}
use Rattle.run_safety.proofs.Keep.{Inv, onwards, same_logs, belows}
use Rattle.run_safety.proofs.Enters.{keep_enter}
use Rattle.run_safety.proofs.Past.{Made, Past, past_send, member_reply, reply_member, Origin, born_number}
use Rattle.run_safety.proofs.PastIn.{past_enter}
use Rattle.run_safety.proofs.Moves.{Good, gave_front}

-- what an answer says, of the sources that it went into
stands_gave : (x : Standing) (v : ViewId) (j : ℕ) (u : ViewId) (xs : List Entry) (ss : ViewId → List Entry) → IsPrefix xs (ss u) → Bound x v j u xs → Gave x v j ss
stands_gave x v j u xs ss p (inl l) = inl l
stands_gave x v j u xs ss p (inr h) =
    inr (h.0, h.1, λ lt. let e = h.2 lt in subst (λ (k : ViewId × List Entry). IsPrefix k.1 (ss k.0)) (λ z. (sym e.0 z, sym e.1 z)) p)

module _ (packets : List Packet) (trace : List Record) (n : ℕ) (x : Standing) (rs : List Reply) (ss : ViewId → List Entry) (nodes : ℕ → Standing) (log : ViewId → List Entry) (lead : Leads) (is : nodes n ≡ x) (inv : Inv nodes packets trace log lead) (ok : Collected packets n x rs ss) where
  reply_within : (r : Reply) → Has r rs → IsPrefix r.list (log r.view)
  reply_within r h = (inv.packet (Answer x.promise r) (ok.sent r h)).1

  reply_stands : (r : Reply) → Has r rs → Bound (nodes r.node) x.promise r.inc r.view r.list
  reply_stands r h = (inv.packet (Answer x.promise r) (ok.sent r h)).0

  pub within : (u : ViewId) → IsPrefix (ss u) (log u)
  within u = of (ok.longest.one u)
    where
      of : (ss u ≡ []) ⊎ ((r : Reply) × Has r rs × (r.view ≡ u) × (r.list ≡ ss u)) → IsPrefix (ss u) (log u)
      of (inl e) = subst (λ l. IsPrefix l (log u)) (sym e) (prefix_nil (log u))
      of (inr k) = subst (λ (q : ViewId × List Entry). IsPrefix q.1 (log q.0)) (λ z. (k.2 z, k.3 z)) (reply_within k.0 k.1)

  reply_front : (r : Reply) → Has r rs → IsPrefix r.list (ss r.view)
  reply_front r h = prefix_both r.list (ss r.view) (log r.view) (reply_within r h) (within r.view) (ok.longest.over r h)

  pub members_gave : (m j : ℕ) → Has (member m j) (members_of rs) → Gave (nodes m) x.promise j ss
  members_gave m j h =
      let k = member_reply m j rs h in
      let e : r_is k.0 ≡ (m, j) = λ z. (k.2 z, k.3 z) in
      subst (λ (q : ℕ × ℕ). Gave (nodes q.0) x.promise q.1 ss) e (stands_gave (nodes k.0.node) x.promise k.0.inc k.0.view k.0.list ss (reply_front k.0 k.1) (reply_stands k.0 k.1))
    where
      r_is : Reply → ℕ × ℕ
      r_is r = (r.node, r.inc)

  pub own_front : IsPrefix x.list (ss x.view)
  own_front =
      let k = ok.own in
      let i = ok.only k.0 k.1 k.2 in
      let st : Bound (nodes n) x.promise x.inc k.0.view k.0.list = subst (λ (q : ℕ × ℕ). Bound (nodes q.0) x.promise q.1 k.0.view k.0.list) (λ z. (k.2 z, i z)) (reply_stands k.0 k.1) in
      let st' : Bound x x.promise x.inc k.0.view k.0.list = subst (λ y. Bound y x.promise x.inc k.0.view k.0.list) is st in
      gave_front x x.promise ss ok.lt (stands_gave x x.promise x.inc k.0.view k.0.list ss (reply_front k.0 k.1) st')

  -- no install of this view was sent
  pub none_yet : (ms : List Member) (ss : ViewId → List Entry) → Has (Install x.promise ms ss) packets → ⊥
  none_yet ms ss h =
      let u : Entered (nodes x.promise.coord) x.promise.inc x.promise = (inv.packet (Install x.promise ms ss) h).used in
      let u' : Entered x x.promise.inc x.promise = subst (λ y. Entered y x.promise.inc x.promise) (ap nodes ok.coord ∙ is) u in
      used_not u'
    where
      used_not : Entered x x.promise.inc x.promise → ⊥
      used_not (inl l) = omega (arith, ok.inc)
      used_not (inr l) = both_ways_lt l.1
        where
          both_ways_lt : Le x.promise x.view → ⊥
          both_ways_lt le = let lt = ok.lt in cc

-- the rule of the entering of a view, of the node as it stands
abbrev EnterRule : (ℕ → Standing) → List Packet → List Record → (ViewId → List Entry) → Leads → (ℕ → Standing) → ℕ → ViewId → List Member → (ViewId → List Entry) → List Packet → Standing → Type 0
EnterRule nodes packets trace log lead now n v ms ss packets' x =
    x.promise ≡ v → Lt x.view v → IsPrefix x.list (ss x.view) → IsPrefix (ss x.view) (log x.view) → ((j : ℕ) → lead v ≡ Some (member n j) → j ≡ x.inc) → Changes nodes now n (record x { view = v; promise = v; list = [] }) → ((p : Packet) → Has p packets → Has p packets') → ((p : Packet) → Has p packets' → PacketOk now log p) → OneInstall packets' → Has (Install v ms ss) packets' → Inv now packets' (In n x.inc v ms ∷ puts_from n x.view (length x.list) (drop (length x.list) (ss x.view)) trace) log lead

enter_at : (nodes : ℕ → Standing) (packets : List Packet) (trace : List Record) (log : ViewId → List Entry) (lead : Leads) (inv : Inv nodes packets trace log lead) (now : ℕ → Standing) (n : ℕ) (v : ViewId) (ms : List Member) (ss : ViewId → List Entry) (packets' : List Packet) (x : Standing) → nodes n ≡ x → EnterRule nodes packets trace log lead now n v ms ss packets' x
enter_at nodes packets trace log lead inv now n v ms ss packets' x is =
    subst (EnterRule nodes packets trace log lead now n v ms ss packets') is (keep_enter nodes packets trace log lead inv now n v ms ss packets')

-- the coordinator installs
keep_found : (nodes now : ℕ → Standing) (packets : List Packet) (trace : List Record) (log : ViewId → List Entry) (lead : Leads) (n : ℕ) (x : Standing) (rs : List Reply) (ss : ViewId → List Entry) → nodes n ≡ x → Inv nodes packets trace log lead → Collected packets n x rs ss → ((j : ℕ) → lead x.promise ≡ Some (member n j) → ⊥) → Changes nodes now n (record x { view = x.promise; list = [] }) → Inv now (Install x.promise (members_of rs) ss ∷ packets) (In n x.inc x.promise (members_of rs) ∷ puts_from n x.view (length x.list) (drop (length x.list) (ss x.view)) trace) log lead
keep_found nodes now packets trace log lead n x rs ss is inv ok unled c =
    let ms = members_of rs in
    let v = x.promise in
    let within' = within packets trace n x rs ss nodes log lead is inv ok in
    let o : (m : ℕ) → Onward (nodes m) (now m) = onwards nodes now n (record x { view = v; list = [] }) c (subst (λ y. Onward y (record x { view = v; list = [] })) (sym is) (record { by = inr (refl, lt_le x.view v ok.lt, lt_refl v, inr (lt_refl v)) })) in
    let install : InstallOk now log v ms ss = record {
      gave = λ m j h. gave_on (nodes m) (now m) v j ss (belows nodes packets trace log lead inv m) (o m) (members_gave packets trace n x rs ss nodes log lead is inv ok m j h);
      sources = within';
      used = subst (λ k. Entered (now k) v.inc v) (sym ok.coord) (subst (λ y. Entered y v.inc v) (sym c.here) (inr (ok.inc, lt_refl v)));
    } in
    enter_at nodes packets trace log lead inv now n v ms ss (Install v ms ss ∷ packets) x is refl ok.lt (own_front packets trace n x rs ss nodes log lead is inv ok) (within' x.view) (λ j e. absurd (unled j e)) c (λ p h. inr h) (added (PacketOk now log) (Install v ms ss) packets install (λ p h. packet_on nodes now log log (belows nodes packets trace log lead inv) o (same_logs log) p (inv.packet p h))) one (inl refl)
  where
    one : OneInstall (Install x.promise (members_of rs) ss ∷ packets)
    one u ms ns os bs (inl e) (inl f) = let m : ms ≡ ns = cc in let s : os ≡ bs = cc in (m, s)
    one u ms ns os bs (inl e) (inr h) = absurd (let same : u ≡ x.promise = cc in none_yet packets trace n x rs ss nodes log lead is inv ok ns bs (subst (λ k. Has (Install k ns bs) packets) same h))
    one u ms ns os bs (inr h) (inl e) = absurd (let same : u ≡ x.promise = cc in none_yet packets trace n x rs ss nodes log lead is inv ok ms os (subst (λ k. Has (Install k ms os) packets) same h))
    one u ms ns os bs (inr g) (inr h) = inv.one u ms ns os bs g h

-- no one was in the view yet
pub found_new : (o : Opening) (nodes : ℕ → Standing) (packets : List Packet) (trace : List Record) (log : ViewId → List Entry) (lead : Leads) (n : ℕ) (x : Standing) (rs : List Reply) (ss : ViewId → List Entry) → nodes n ≡ x → Good o nodes packets trace log lead → Collected packets n x rs ss → (m j : ℕ) (ns : List Member) → Has (In m j x.promise ns) trace → ⊥
found_new o nodes packets trace log lead n x rs ss is good ok m j ns h = came (good.past.origin m j x.promise ns h)
  where
    came : Origin o packets m j x.promise ns → ⊥
    came (inl b) = let e = born_number o m j x.promise ns b in let l = ok.later in absurd (omega arith)
    came (inr k) = none_yet packets trace n x rs ss nodes log lead is good.inv ok ns k.0 k.1

-- no one leads the view yet
pub found_unled : (o : Opening) (nodes : ℕ → Standing) (packets : List Packet) (trace : List Record) (log : ViewId → List Entry) (lead : Leads) (n : ℕ) (x : Standing) (rs : List Reply) (ss : ViewId → List Entry) → nodes n ≡ x → Good o nodes packets trace log lead → Collected packets n x rs ss → lead x.promise ≡ None
found_unled o nodes packets trace log lead n x rs ss is good ok = by (lead x.promise) refl
  where
    v : ViewId
    v = x.promise

    came : (m j : ℕ) (ns : List Member) → Origin o packets m j v ns → ⊥
    came m j ns (inl b) = let e = born_number o m j v ns b in let l = ok.later in absurd (omega arith)
    came m j ns (inr k) = none_yet packets trace n x rs ss nodes log lead is good.inv ok ns k.0 k.1

    at : (m j : ℕ) → Led packets trace v m j → ⊥
    at m j (inl a) = came m j a.0 (good.past.origin m j v a.0 a.1)
    at m j (inr k) = none_yet packets trace n x rs ss nodes log lead is good.inv ok k.0 k.1 k.2

    by : (o : Option Member) → lead v ≡ o → lead v ≡ None
    by None e = e
    by (Some l) e = absurd (at l.node l.inc (good.past.led v l.node l.inc e))

abbrev PastRule : Opening → (ℕ → Standing) → List Record → Leads → (ℕ → Standing) → ℕ → ViewId → List Member → (ViewId → List Entry) → List Packet → Standing → Type 0
PastRule o nodes trace lead now n v ms ss more x =
    0 < x.inc → ((m : ℕ) (u : ViewId) → held_by m u true trace ≡ held_by m u false trace) → x.promise ≡ v → Lt x.view v → IsPrefix x.list (ss x.view) → Has (member n x.inc) ms → Has (Install v ms ss) more → Changes nodes now n (record x { view = v; promise = v; list = [] }) → Past o now more (In n x.inc v ms ∷ puts_from n x.view (length x.list) (drop (length x.list) (ss x.view)) trace) lead

-- the coordinator installs the view, and enters it
pub move_found : (o : Opening) (nodes now : ℕ → Standing) (packets : List Packet) (trace : List Record) (log : ViewId → List Entry) (lead : Leads) (n : ℕ) (x : Standing) (rs : List Reply) (ss : ViewId → List Entry) → nodes n ≡ x → Good o nodes packets trace log lead → Quiet trace → Collected packets n x rs ss → Changes nodes now n (record x { view = x.promise; list = [] }) → Good o now (Install x.promise (members_of rs) ss ∷ packets) (In n x.inc x.promise (members_of rs) ∷ puts_from n x.view (length x.list) (drop (length x.list) (ss x.view)) trace) log lead
move_found o nodes now packets trace log lead n x rs ss is good quiet ok c = record { inv = inv'; past = past' }
  where
    v : ViewId
    v = x.promise

    ms : List Member
    ms = members_of rs

    more : List Packet
    more = Install v ms ss ∷ packets

    pair_inc : (m i j : ℕ) → Has (member m i) ms → Has (member m j) ms → i ≡ j
    pair_inc m i j a b =
        let k = member_reply m i rs a in
        let l = member_reply m j rs b in
        sym k.3 ∙ ok.single k.0 l.0 k.1 l.1 (k.2 ∙ sym l.2) ∙ l.3

    -- no one leads the view yet
    unled : (j : ℕ) → lead v ≡ Some (member n j) → ⊥
    unled j e = at (good.past.led v n j e)
      where
        by : (ns : List Member) → Origin o packets n j v ns → ⊥
        by ns (inl b) = let e = born_number o n j v ns b in let l = ok.later in absurd (omega arith)
        by ns (inr k) = none_yet packets trace n x rs ss nodes log lead is good.inv ok ns k.0 k.1

        at : Led packets trace v n j → ⊥
        at (inl a) = by a.0 (good.past.origin n j v a.0 a.1)
        at (inr k) = none_yet packets trace n x rs ss nodes log lead is good.inv ok k.0 k.1 k.2

    inv' : Inv now more (In n x.inc v ms ∷ puts_from n x.view (length x.list) (drop (length x.list) (ss x.view)) trace) log lead
    inv' = keep_found nodes now packets trace log lead n x rs ss is good.inv ok unled c

    made : Made more v ms ss
    made = record { replies = rs; members = refl; longest = ok.longest; sent = λ r h. inr (ok.sent r h); single = pair_inc; later = ok.later }

    grown : (u : ViewId) (ns : List Member) (ts : (ViewId → List Entry)) → Made packets u ns ts → Made more u ns ts
    grown u ns ts h = record { replies = h.replies; members = h.members; longest = h.longest; sent = λ r i. inr (h.sent r i); single = h.single; later = h.later }

    was_sent : (u : ViewId) (r : Reply) → Has (Answer u r) more → Has (Answer u r) packets
    was_sent u r (inl e) = absurd (cc)
    was_sent u r (inr h) = h

    made_of : (u : ViewId) (ns : List Member) (ts : (ViewId → List Entry)) → Has (Install u ns ts) more → Made more u ns ts
    made_of u ns ts (inl e) =
        let a : u ≡ v = cc in
        let b : ns ≡ ms = cc in
        let d : ts ≡ ss = cc in
        subst (λ (k : ViewId × List Member × (ViewId → List Entry)). Made more k.0 k.1 k.2) (λ z. (sym a z, sym b z, sym d z)) made
    made_of u ns ts (inr h) = grown u ns ts (good.past.made u ns ts h)

    past : Past o nodes more trace lead
    past = past_send o nodes packets trace lead good.past more (λ p h. inr h) (λ u r h. good.past.answers u r (was_sent u r h)) made_of

    rule : PastRule o nodes trace lead now n v ms ss more x
    rule = subst (PastRule o nodes trace lead now n v ms ss more) is (past_enter o nodes packets trace log lead good.inv more past inv'.one (λ u r h. (good.inv.packet (Answer u r) (was_sent u r h)).0) now n v ms ss)

    among : Has (member n x.inc) ms
    among =
        let e = ok.only ok.own.0 ok.own.1 ok.own.2 in
        subst (λ k. Has k ms) (λ z. member (ok.own.2 z) (e z)) (reply_member ok.own.0 rs ok.own.1)

    past' : Past o now more (In n x.inc v ms ∷ puts_from n x.view (length x.list) (drop (length x.list) (ss x.view)) trace) lead
    past' = rule ok.up quiet.at refl ok.lt (own_front packets trace n x rs ss nodes log lead is good.inv ok) among (inl refl) c
