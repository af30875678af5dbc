-- What the rules of views leave few: the members of what is gathered, of the install that is kept, and of each install that
-- is sent.
use Rattle.std.proofs.Common.{◌≡◌, ◌≤◌, ◌⊎◌, ℕ, ◌+◌, List, [], ◌∷◌, ◌++◌, length, map, filter, Some, None, Option, Bool, true, false, cond, refl, sym, ap, subst, inl, inr, arith}
use Rattle.std.specs.Prelude.{not, ◌&&◌, ◌||◌, ◌==◌, nat_le, nat_lt, max}
use Rattle.std.specs.List.{list_any, list_all}
use Rattle.std.proofs.lemmas.Bool.{and_parts, eq-eqb}
use Rattle.rsct_packet.specs.declared.ids.ViewId.{ViewId}
use Rattle.rsct_packet.specs.declared.ids.Member.{Member}
use Rattle.rsct_packet.specs.declared.mask.Mask.{Mask}
use Rattle.rsct_packet.specs.Ids.{last_u32, same_view, view_lt, is_member}
use Rattle.rsct_packet.specs.Mask.{node_numbers, has_node, with_node, nodes_of}
use Rattle.rsct_packet.specs.Search.{Has, insert_before}
use Rattle.rsct_packet.proofs.HasLaws.{has_append, has_map, has_filter}
use Rattle.rsct_packet.proofs.MaskLaws.{has_is_node, node_numbered}
use Rattle.view_state.specs.declared.answer.Answer.{Answer}
use Rattle.view_state.specs.declared.exchange.Exchange.{Exchange}
use Rattle.view_state.specs.declared.install.Part.{Part}
use Rattle.view_state.specs.declared.install.Install.{Install}
use Rattle.view_state.specs.Answers.{max_parts, opened, has_answered, may_answer, member_of, is_member_above, with_answer, all_answered, install_of, is_spelled}
use Rattle.view_state.specs.declared.packet.ViewPacket.{ViewPacket}
use Rattle.view_state.specs.declared.packet.ViewPacket.TheVariants as packet
use Rattle.view_state.specs.declared.packet.ViewSend.{ViewSend}
use Rattle.view_state.specs.declared.views.RingAsk.{RingAsk}
use Rattle.view_state.specs.declared.views.ViewWork.{ViewWork}
use Rattle.view_state.specs.Views.{is_frozen, is_coordinator, others_of, view_sent, view_sent_all, gathering_set, promised, begin_install, gathered, gather_on, own_answer, ask_others, next_view, may_ask, ask_if, ask_rule, answered, prepare, prepare_rule, answer_to, answer_rule, refused_by, refuse_to, refuse_rule, installed, install_rule, taken_rule, aged, prepare_again, tick_asks, note_stuck, asks_or_ages, gathering_ticks, install_again_of, install_again}
use Rattle.send_laws.specs.Bound.{FewAnswers}
use Rattle.send_laws.specs.Lasting.{Counted, GatheredIf, FewIn, FewIf, FewView, FewViews}
use Rattle.send_laws.proofs.Counts.{kept_few}
use Rattle.send_laws.proofs.Owed.{fewer}
use Rattle.send_laws.proofs.ViewSends.{inserted_long}

pub record FewWork (w : ViewWork) : Type 0 where
  pub views : FewViews w.views
  pub sends : (x : ViewSend) → Has x w.sends → FewView x.packet

-- ---- who answered is counted

-- one more passes
count_more : (me : ℕ) (old new : ℕ → Bool) → ((n : ℕ) → old n ≡ true → new n ≡ true) → old me ≡ false → new me ≡ true → (ns : List ℕ) → Has me ns → length (filter old ns) + 1 ≤ length (filter new ns)
count_more me old new more was now [] h = absurd h
count_more me old new more was now (n ∷ ns) (inl e) =
    by (old n) (new n) (subst (λ z. old z ≡ false) e was) (subst (λ z. new z ≡ true) e now)
  where
    by : (b c : Bool) → b ≡ false → c ≡ true → length (cond b (n ∷ filter old ns) (filter old ns)) + 1 ≤ length (cond c (n ∷ filter new ns) (filter new ns))
    by true c p q = absurd cc
    by false false p q = absurd cc
    by false true p q = omega (arith, fewer old new more ns)
count_more me old new more was now (n ∷ ns) (inr h) = by (old n) (new n) (more n) (count_more me old new more was now ns h)
  where
    by : (b c : Bool) → (b ≡ true → c ≡ true) → length (filter old ns) + 1 ≤ length (filter new ns) → length (cond b (n ∷ filter old ns) (filter old ns)) + 1 ≤ length (cond c (n ∷ filter new ns) (filter new ns))
    by true true m k = omega (arith, k)
    by true false m k = absurd (let z = m refl in cc)
    by false true m k = omega (arith, k)
    by false false m k = k

or_right : (a b : Bool) → b ≡ true → (a || b) ≡ true
or_right true b e = refl
or_right false b e = e

or_more : (a b c : Bool) → (a || b) ≡ true → (b ≡ true → c ≡ true) → (a || c) ≡ true
or_more true b c e k = refl
or_more false b c e k = k e

any_more : {A : Type 0} (test first : A → Bool) (y : A) (xs : List A) → list_any test xs ≡ true → list_any test (insert_before first y xs) ≡ true
any_more test first y [] e = absurd cc
any_more test first y (x ∷ xs) e = by (first x) (any_more test first y xs)
  where
    by : (b : Bool) → (list_any test xs ≡ true → list_any test (insert_before first y xs) ≡ true) → list_any test (cond b (y ∷ x ∷ xs) (x ∷ insert_before first y xs)) ≡ true
    by true k = or_right (test y) (list_any test (x ∷ xs)) e
    by false k = or_more (test x) (list_any test xs) (list_any test (insert_before first y xs)) e k

any_new : {A : Type 0} (test first : A → Bool) (y : A) (xs : List A) → test y ≡ true → list_any test (insert_before first y xs) ≡ true
any_new test first y [] e = ap (λ b. b || false) e
any_new test first y (x ∷ xs) e = by (first x) (any_new test first y xs e)
  where
    by : (b : Bool) → list_any test (insert_before first y xs) ≡ true → list_any test (cond b (y ∷ x ∷ xs) (x ∷ insert_before first y xs)) ≡ true
    by true k = ap (λ b. b || list_any test (x ∷ xs)) e
    by false k = at (test x)
      where
        at : (b : Bool) → (b || list_any test (insert_before first y xs)) ≡ true
        at true = refl
        at false = k

-- one more answers that may
pub counted_more : (g : Exchange) (a : Answer) → may_answer g a.node ≡ true → Counted g → Counted (with_answer g a)
unfolding may_answer has_answered with_answer
counted_more g a may c =
    let above : Member → Bool = is_member_above (member_of a).node in
    let one : length (insert_before above (member_of a) g.members) ≡ 1 + length g.members = inserted_long above (member_of a) g.members in
    let more : length (filter old node_numbers) + 1 ≤ length (filter new node_numbers) = count_more a.node old new (λ n e. any_more (λ (m : Member). m.node == n) above (member_of a) g.members e) was now node_numbers (node_numbered a.node (has_is_node g.asked a.node parts.0)) in
    omega (arith, c, one, more)
  where
    old : ℕ → Bool
    old n = list_any (λ (m : Member). m.node == n) g.members

    new : ℕ → Bool
    new n = list_any (λ (m : Member). m.node == n) (insert_before (is_member_above (member_of a).node) (member_of a) g.members)

    parts : (has_node g.asked a.node ≡ true) × (not (old a.node) ≡ true)
    parts = and_parts (has_node g.asked a.node) (not (old a.node)) may

    was : old a.node ≡ false
    was = at (old a.node) parts.1
      where
        at : (b : Bool) → not b ≡ true → b ≡ false
        at false q = refl
        at true q = absurd cc

    now : new a.node ≡ true
    now = any_new (λ (m : Member). m.node == a.node) (is_member_above (member_of a).node) (member_of a) g.members (eq-eqb a.node a.node refl)

pub counted_few : (g : Exchange) → Counted g → length g.members ≤ 32
counted_few g c =
    let z : length (filter (has_answered g) node_numbers) ≤ 32 = kept_few (has_answered g) node_numbers in omega (arith, c, z)

one_open : {A : Type 0} (test : A → Bool) (xs : List A) → list_all test xs ≡ false → (x : A) × Has x xs × (test x ≡ false)
one_open {A = A} test [] e = absurd cc
one_open {A = A} test (x ∷ xs) e = by (test x) refl e (one_open test xs)
  where
    by : (b : Bool) → test x ≡ b → (b && list_all test xs) ≡ false → (list_all test xs ≡ false → (y : A) × Has y xs × (test y ≡ false)) → (y : A) × Has y (x ∷ xs) × (test y ≡ false)
    by false q f k = (x, inl refl, q)
    by true q f k = let z = k f in (z.0, inr z.1, z.2)

-- one that was asked has not answered
pub gathered_few : (o : Option Exchange) → GatheredIf o → FewAnswers o
unfolding all_answered nodes_of
gathered_few None k = tt
gathered_few (Some g) k =
    let z = one_open (has_answered g) (filter (has_node g.asked) node_numbers) k.waits in
    let there = has_filter (has_node g.asked) z.0 node_numbers z.1 in
    let less : length (filter (has_answered g) node_numbers) + 1 ≤ length (filter (λ (n : ℕ). true) node_numbers) = count_more z.0 (has_answered g) (λ n. true) (λ n e. refl) z.2 refl node_numbers there.0 in
    let all : length (filter (λ (n : ℕ). true) node_numbers) ≤ 32 = kept_few (λ (n : ℕ). true) node_numbers in
    let c : length g.members ≤ length (filter (has_answered g) node_numbers) = k.counted in
    omega (arith, c, less, all)

-- ---- what is sent

few_both : (xs ys : List ViewSend) → ((x : ViewSend) → Has x xs → FewView x.packet) → ((x : ViewSend) → Has x ys → FewView x.packet) → (x : ViewSend) → Has x (xs ++ ys) → FewView x.packet
few_both xs ys a b x h = by (has_append x xs ys h)
  where
    by : Has x xs ⊎ Has x ys → FewView x.packet
    by (inl i) = a x i
    by (inr i) = b x i

few_sent : (w : ViewWork) (to : ℕ) (p : ViewPacket) → FewView p → FewWork w → FewWork (view_sent w to p)
unfolding view_sent
few_sent w to p few h =
    let new : ViewSend = record { to = to; packet = p } in
    record { views = h.views; sends = few_both w.sends (new ∷ []) h.sends last }
  where
    last : (x : ViewSend) → Has x (record { to = to; packet = p } ∷ []) → FewView x.packet
    last x (inl e) = subst (λ (z : ViewSend). FewView z.packet) (sym e) few
    last x (inr z) = absurd z

few_all : (w : ViewWork) (ns : List ℕ) (p : ViewPacket) → FewView p → FewWork w → FewWork (view_sent_all w ns p)
unfolding view_sent_all
few_all w ns p few h =
    let f : ℕ → ViewSend = λ n. record { to = n; packet = p } in
    record {
      views = h.views;
      sends = few_both w.sends (map f ns) h.sends (λ x i. let z = has_map f x ns i in subst (λ (y : ViewSend). FewView y.packet) (sym z.2) few);
    }

few_promised : (w : ViewWork) (v : ViewId) → FewWork w → FewWork (promised w v)
unfolding promised
few_promised w v h = record { views = record { gathering = tt; install = h.views.install }; sends = h.sends }

-- ---- rows

install_few : (g : Exchange) → Counted g → FewIn (install_of g)
unfolding install_of
install_few g c = counted_few g c

few_gathers : (w : ViewWork) (g : Exchange) → Counted g → FewWork w → FewWork (gather_on w g)
unfolding gather_on gathered gathering_set begin_install
few_gathers w g c h = by (all_answered g) refl
  where
    x : ViewWork
    x = record w { views = record (w.views) { gathering = None } }

    few : FewWork x
    few = record { views = record { gathering = tt; install = h.views.install }; sends = h.sends }

    spelled : (b : Bool) → FewWork (begin_install x (install_of g) b)
    spelled false = few
    spelled true =
        let y : FewWork (view_sent_all x (others_of w.views.me (install_of g).members) (packet.Install (install_of g))) = few_all x (others_of w.views.me (install_of g).members) (packet.Install (install_of g)) (install_few g c) few in
        record { views = y.views; sends = y.sends }

    by : (b : Bool) → all_answered g ≡ b → FewWork (gathered w g b)
    by true q = spelled (is_spelled (install_of g))
    by false q = record { views = record { gathering = record { waits = q; counted = c }; install = h.views.install }; sends = h.sends }

may_first : (v : ViewId) (mask : Mask) (n : ℕ) → has_node mask n ≡ true → may_answer (opened v mask) n ≡ true
unfolding may_answer has_answered opened
may_first v mask n there = ap (λ b. b && true) there

nobody_counted : (v : ViewId) (mask : Mask) → Counted (opened v mask)
unfolding opened
nobody_counted v mask = omega arith

few_asks : (w : ViewWork) (v : ViewId) (mask : Mask) (parts : List Part) (b : Bool) → has_node mask w.views.me ≡ true → FewWork w → FewWork (ask_others w v mask parts b)
unfolding ask_others
few_asks w v mask parts false there h = few_promised w v h
few_asks w v mask parts true there h =
    let ns : List ℕ = filter (λ n. not (n == w.views.me)) (nodes_of mask) in
    let y : ViewWork = view_sent_all (promised w v) ns (packet.Prepare v mask) in
    few_gathers y (with_answer (opened v mask) (own_answer w.views parts)) (counted_more (opened v mask) (own_answer w.views parts) (may_first v mask w.views.me there) (nobody_counted v mask)) (few_all (promised w v) ns (packet.Prepare v mask) tt (few_promised w v h))

-- an order to ask
pub few_ask : (w : ViewWork) (mask : Mask) (parts : List Part) → FewWork w → FewWork (ask_rule w mask parts)
unfolding ask_rule ask_if may_ask
few_ask w mask parts h = by (may_ask w.views mask) refl
  where
    by : (b : Bool) → may_ask w.views mask ≡ b → FewWork (ask_if w mask parts b)
    by false e = h
    by true e =
        few_asks w (next_view w.views) mask parts (nat_le (length parts) max_parts) (and_parts (has_node mask w.views.me) (nat_lt (max w.views.promise.number w.views.floor) last_u32) e).0 h

few_answered : (w : ViewWork) (v : ViewId) (parts : List Part) → FewWork w → FewWork (answered w v parts)
unfolding answered
few_answered w v parts h = by (nat_le (length parts) max_parts)
  where
    by : (b : Bool) → FewWork (elim b [ true ↦ view_sent w v.coord (packet.Answer v w.views.view parts) | false ↦ w ])
    by true = few_sent w v.coord (packet.Answer v w.views.view parts) tt h
    by false = h

few_prepared : (w : ViewWork) (v : ViewId) (parts : List Part) (above again below : Bool) → FewWork w → FewWork (prepare w v parts above again below)
unfolding prepare
few_prepared w v parts true again below h = few_answered (promised w v) v parts (few_promised w v h)
few_prepared w v parts false true below h = few_answered w v parts h
few_prepared w v parts false false true h = few_sent w v.coord (packet.Refuse v w.views.promise.number) tt h
few_prepared w v parts false false false h = h

pub few_prepare : (w : ViewWork) (from inc : ℕ) (v : ViewId) (mask : Mask) (parts : List Part) → FewWork w → FewWork (prepare_rule w from inc v mask parts)
unfolding prepare_rule
few_prepare w from inc v mask parts h =
    let asked : Bool = v.coord == from && v.inc == inc && has_node mask w.views.me in
    few_prepared w v parts (asked && view_lt w.views.promise v) (asked && same_view v w.views.promise && not (same_view v w.views.view)) (view_lt v w.views.promise) h

pub few_answer : (w : ViewWork) (v : ViewId) (a : Answer) → FewWork w → FewWork (answer_rule w v a)
unfolding answer_rule answer_to
few_answer w v a h = by w.views.gathering h.views.gathering
  where
    at : (g : Exchange) (b : Bool) → (same_view g.view v && may_answer g a.node) ≡ b → Counted g → FewWork (elim b [ true ↦ gather_on w (with_answer g a) | false ↦ w ])
    at g false e c = h
    at g true e c = few_gathers w (with_answer g a) (counted_more g a (and_parts (same_view g.view v) (may_answer g a.node) e).1 c) h

    by : (o : Option Exchange) → GatheredIf o → FewWork (answer_to w v a o)
    by None k = h
    by (Some g) k = at g (same_view g.view v && may_answer g a.node) refl k.counted

pub few_refuse : (w : ViewWork) (v : ViewId) (n : ℕ) → FewWork w → FewWork (refuse_rule w v n)
unfolding refuse_rule refuse_to refused_by
few_refuse w v n h = by w.views.gathering
  where
    at : (b : Bool) → FewWork (elim b [ true ↦ refused_by w n | false ↦ w ])
    at true = record { views = record { gathering = tt; install = h.views.install }; sends = h.sends }
    at false = h

    by : (o : Option Exchange) → FewWork (refuse_to w v n o)
    by None = h
    by (Some g) = at (same_view g.view v)

pub few_install : (w : ViewWork) (i : Install) → FewWork w → FewWork (install_rule w i)
unfolding install_rule installed
few_install w i h = by (same_view w.views.view i.view) (same_view w.views.promise i.view && is_member i.members w.views.me w.views.inc)
  where
    by : (b c : Bool) → FewWork (installed w i b c)
    by true c = few_sent w i.view.coord (packet.Taken i.view) tt h
    by false true = record { views = h.views; sends = h.sends }
    by false false = h

pub few_taken : (w : ViewWork) (from : ℕ) (v : ViewId) → FewWork w → FewWork (taken_rule w from v)
unfolding taken_rule
few_taken w from v h = by (same_view w.views.view v)
  where
    by : (b : Bool) → FewWork (elim b [ true ↦ record w { views = record (w.views) { taken = with_node w.views.taken from } } | false ↦ w ])
    by true = record { views = record { gathering = h.views.gathering; install = h.views.install }; sends = h.sends }
    by false = h

-- ---- a tick

few_again : (w : ViewWork) (o : Option Exchange) → GatheredIf o → FewWork w → FewWork (prepare_again w o)
unfolding prepare_again gathering_set aged all_answered has_answered
few_again w None k h = h
few_again w (Some g) k h =
    few_all (record w { views = record (w.views) { gathering = Some (aged g) } }) (filter (λ n. not (has_answered g n)) (nodes_of g.asked)) (packet.Prepare g.view g.asked) tt (record { views = record { gathering = record { waits = k.waits; counted = k.counted }; install = h.views.install }; sends = h.sends })

pub few_ticks : (w : ViewWork) (o : Option RingAsk) (parts : List Part) → FewWork w → FewWork (gathering_ticks w o parts)
unfolding gathering_ticks asks_or_ages note_stuck
few_ticks w None parts h = few_again w w.views.gathering h.views.gathering h
few_ticks w (Some a) parts h = by (tick_asks w.views a)
  where
    x : ViewWork
    x = note_stuck w

    k : FewWork x
    k = record { views = record { gathering = h.views.gathering; install = h.views.install }; sends = h.sends }

    by : (b : Bool) → FewWork (asks_or_ages x a parts b)
    by true = few_ask x a.mask parts k
    by false = few_again x x.views.gathering k.views.gathering k

pub few_install_again : (w : ViewWork) → FewWork w → FewWork (install_again w)
unfolding install_again install_again_of
few_install_again w h = by (is_coordinator w.views && not (is_frozen w.views))
  where
    of : (o : Option Install) → FewIf o → FewWork (install_again_of w o)
    of None k = h
    of (Some i) k = few_all w (filter (λ n. not (has_node w.views.taken n)) (others_of w.views.me w.views.members)) (packet.Install i) k h

    by : (b : Bool) → FewWork (elim b [ true ↦ install_again_of w w.views.install | false ↦ w ])
    by true = of w.views.install h.views.install
    by false = h
