-- How many packets the rules of views send, and that they leave the view as it is.
use Rattle.std.proofs.Common.{◌≡◌, ◌≤◌, ℕ, ◌+◌, List, [], ◌∷◌, length, map, filter, Some, None, Option, Bool, true, false, cond, refl, ◌∙◌, arith, length-append}
use Rattle.std.specs.Prelude.{not, ◌&&◌, ◌==◌, nat_le}
use Rattle.std.proofs.lemmas.List.{length-map}
use Rattle.rsct_packet.specs.declared.ids.ViewId.{ViewId}
use Rattle.rsct_packet.specs.declared.ids.Member.{Member}
use Rattle.rsct_packet.specs.declared.mask.Mask.{Mask}
use Rattle.rsct_packet.specs.Ids.{same_view, view_lt, is_member}
use Rattle.rsct_packet.specs.Mask.{has_node, with_node, nodes_of}
use Rattle.rsct_packet.specs.Search.{insert_before}
use Rattle.view_state.specs.declared.answer.Answer.{Answer}
use Rattle.view_state.specs.declared.exchange.Exchange.{Exchange}
use Rattle.view_state.specs.declared.install.Part.{Part}
use Rattle.view_state.specs.declared.install.Install.{Install}
use Rattle.view_state.specs.Answers.{max_parts, opened, has_answered, may_answer, member_of, is_member_above, with_answer, all_answered, install_of, is_spelled}
use Rattle.view_state.specs.declared.packet.ViewPacket.{ViewPacket}
use Rattle.view_state.specs.declared.packet.ViewPacket.TheVariants as packet
use Rattle.view_state.specs.declared.packet.ViewSend.{ViewSend}
use Rattle.view_state.specs.declared.views.RingAsk.{RingAsk}
use Rattle.view_state.specs.declared.views.ViewWork.{ViewWork}
use Rattle.view_state.specs.Views.{is_frozen, is_coordinator, others_of, view_sent, view_sent_all, gathering_set, promised, begin_install, gathered, gather_on, own_answer, ask_others, next_view, may_ask, ask_if, ask_rule, answered, prepare, prepare_rule, answer_to, answer_rule, refused_by, refuse_to, refuse_rule, installed, install_rule, taken_rule, aged, prepare_again, tick_asks, note_stuck, asks_or_ages, gathering_ticks, install_again_of, install_again}
use Rattle.send_laws.specs.Bound.{FewAnswers}
use Rattle.send_laws.proofs.Counts.{kept_few}
use Rattle.send_laws.proofs.RingSends.{nodes_few}

-- so many packets more, in the same view
pub record Works (c : ℕ) (w x : ViewWork) : Type 0 where
  pub sends : length x.sends ≤ length w.sends + c
  pub members : x.views.members ≡ w.views.members
  pub view : x.views.view ≡ w.views.view
  pub me : x.views.me ≡ w.views.me
  pub inc : x.views.inc ≡ w.views.inc

works_none : (c : ℕ) (w : ViewWork) → Works c w w
works_none c w = record { sends = omega arith; members = refl; view = refl; me = refl; inc = refl }

works_then : (a b : ℕ) (w x y : ViewWork) → Works a w x → Works b x y → Works (a + b) w y
works_then a b w x y p q =
    record { sends = omega (arith, p.sends, q.sends); members = q.members ∙ p.members; view = q.view ∙ p.view; me = q.me ∙ p.me; inc = q.inc ∙ p.inc }

works_more : (a b : ℕ) (w x : ViewWork) → a ≤ b → Works a w x → Works b w x
works_more a b w x le p = record { sends = omega (arith, p.sends, le); members = p.members; view = p.view; me = p.me; inc = p.inc }

works_sent : (w : ViewWork) (to : ℕ) (p : ViewPacket) → Works 1 w (view_sent w to p)
unfolding view_sent
works_sent w to p =
    record { sends = omega (arith, length-append w.sends (record { to = to; packet = p } ∷ [])); members = refl; view = refl; me = refl; inc = refl }

works_all : (w : ViewWork) (ns : List ℕ) (p : ViewPacket) → Works (length ns) w (view_sent_all w ns p)
unfolding view_sent_all
works_all w ns p =
    let f : ℕ → ViewSend = λ n. record { to = n; packet = p } in
    record { sends = omega (arith, length-append w.sends (map f ns), length-map ns f); members = refl; view = refl; me = refl; inc = refl }

works_set : (w : ViewWork) (g : Option Exchange) → Works 0 w (gathering_set w g)
unfolding gathering_set
works_set w g = record { sends = omega arith; members = refl; view = refl; me = refl; inc = refl }

works_promised : (w : ViewWork) (v : ViewId) → Works 0 w (promised w v)
unfolding promised
works_promised w v = record { sends = omega arith; members = refl; view = refl; me = refl; inc = refl }

others_few : (me : ℕ) (ms : List Member) → length (others_of me ms) ≤ length ms
unfolding others_of
others_few me ms =
    omega (arith, kept_few (λ n. not (n == me)) (map (λ (m : Member). m.node) ms), length-map ms (λ (m : Member). m.node))

works_installs : (w : ViewWork) (i : Install) (b : Bool) → Works (length i.members) w (begin_install w i b)
unfolding begin_install
works_installs w i false = works_none (length i.members) w
works_installs w i true =
    let a : Works (length (others_of w.views.me i.members)) w (view_sent_all w (others_of w.views.me i.members) (packet.Install i)) = works_all w (others_of w.views.me i.members) (packet.Install i) in
    record { sends = omega (arith, a.sends, others_few w.views.me i.members); members = a.members; view = a.view; me = a.me; inc = a.inc }

works_gathers : (w : ViewWork) (g : Exchange) → Works (length g.members) w (gather_on w g)
unfolding gather_on gathered install_of
works_gathers w g = by (all_answered g)
  where
    by : (b : Bool) → Works (length g.members) w (gathered w g b)
    by false = works_more 0 (length g.members) w (gathering_set w (Some g)) (omega arith) (works_set w (Some g))
    by true =
        let x : ViewWork = gathering_set w None in
        let a : Works 0 w x = works_set w None in
        works_more (0 + length g.members) (length g.members) w (begin_install x (install_of g) (is_spelled (install_of g))) (omega arith) (works_then 0 (length g.members) w x (begin_install x (install_of g) (is_spelled (install_of g))) a (works_installs x (install_of g) (is_spelled (install_of g))))

others_nodes : (me : ℕ) (m : Mask) → length (filter (λ n. not (n == me)) (nodes_of m)) ≤ 32
others_nodes me m = omega (arith, kept_few (λ n. not (n == me)) (nodes_of m), nodes_few m)

first_answer : (v : ViewId) (mask : Mask) (a : Answer) → length (with_answer (opened v mask) a).members ≡ 1
unfolding with_answer opened
first_answer v mask a = refl

works_asks : (w : ViewWork) (v : ViewId) (mask : Mask) (parts : List Part) (b : Bool) → Works 33 w (ask_others w v mask parts b)
unfolding ask_others
works_asks w v mask parts false = works_more 0 33 w (promised w v) (omega arith) (works_promised w v)
works_asks w v mask parts true =
    let x : ViewWork = promised w v in
    let ns : List ℕ = filter (λ n. not (n == w.views.me)) (nodes_of mask) in
    let y : ViewWork = view_sent_all x ns (packet.Prepare v mask) in
    let g : Exchange = with_answer (opened v mask) (own_answer w.views parts) in
    let one : length g.members ≡ 1 = first_answer v mask (own_answer w.views parts) in
    let b : Works (length ns) w y = works_more (0 + length ns) (length ns) w y (omega arith) (works_then 0 (length ns) w x y (works_promised w v) (works_all x ns (packet.Prepare v mask))) in
    works_more (length ns + length g.members) 33 w (gather_on y g) (omega (arith, one, others_nodes w.views.me mask)) (works_then (length ns) (length g.members) w y (gather_on y g) b (works_gathers y g))

-- an order to ask
pub works_ask : (w : ViewWork) (mask : Mask) (parts : List Part) → Works 33 w (ask_rule w mask parts)
unfolding ask_rule ask_if
works_ask w mask parts = by (may_ask w.views mask)
  where
    by : (b : Bool) → Works 33 w (ask_if w mask parts b)
    by false = works_none 33 w
    by true = works_asks w (next_view w.views) mask parts (nat_le (length parts) max_parts)

works_answered : (w : ViewWork) (v : ViewId) (parts : List Part) → Works 1 w (answered w v parts)
unfolding answered
works_answered w v parts = by (nat_le (length parts) max_parts)
  where
    by : (b : Bool) → Works 1 w (elim b [ true ↦ view_sent w v.coord (packet.Answer v w.views.view parts) | false ↦ w ])
    by true = works_sent w v.coord (packet.Answer v w.views.view parts)
    by false = works_none 1 w

prepared_few : (w : ViewWork) (v : ViewId) (parts : List Part) (above again below : Bool) → Works 33 w (prepare w v parts above again below)
unfolding prepare
prepared_few w v parts true again below =
    let x : ViewWork = promised w v in
    works_more (0 + 1) 33 w (answered x v parts) (omega arith) (works_then 0 1 w x (answered x v parts) (works_promised w v) (works_answered x v parts))
prepared_few w v parts false true below = works_more 1 33 w (answered w v parts) (omega arith) (works_answered w v parts)
prepared_few w v parts false false true =
    works_more 1 33 w (view_sent w v.coord (packet.Refuse v w.views.promise.number)) (omega arith) (works_sent w v.coord (packet.Refuse v w.views.promise.number))
prepared_few w v parts false false false = works_none 33 w

pub works_prepare : (w : ViewWork) (from inc : ℕ) (v : ViewId) (mask : Mask) (parts : List Part) → Works 33 w (prepare_rule w from inc v mask parts)
unfolding prepare_rule
works_prepare w from inc v mask parts =
    let asked : Bool = v.coord == from && v.inc == inc && has_node mask w.views.me in
    prepared_few w v parts (asked && view_lt w.views.promise v) (asked && same_view v w.views.promise && not (same_view v w.views.view)) (view_lt v w.views.promise)

pub inserted_long : {A : Type 0} (test : A → Bool) (y : A) (xs : List A) → length (insert_before test y xs) ≡ 1 + length xs
inserted_long test y [] = refl
inserted_long test y (x ∷ xs) = by (test x) (inserted_long test y xs)
  where
    by : (b : Bool) → length (insert_before test y xs) ≡ 1 + length xs → length (cond b (y ∷ x ∷ xs) (x ∷ insert_before test y xs)) ≡ 1 + length (x ∷ xs)
    by true h = omega arith
    by false h = omega arith

answers_long : (g : Exchange) (a : Answer) → length (with_answer g a).members ≡ 1 + length g.members
unfolding with_answer
answers_long g a = inserted_long (is_member_above (member_of a).node) (member_of a) g.members

-- ANSWER, of a gathering that waits for another one
pub works_answer : (w : ViewWork) (v : ViewId) (a : Answer) → FewAnswers w.views.gathering → Works 33 w (answer_rule w v a)
unfolding answer_rule answer_to
works_answer w v a few = by w.views.gathering few
  where
    at : (g : Exchange) (b : Bool) → length g.members ≤ 31 → Works 33 w (elim b [ true ↦ gather_on w (with_answer g a) | false ↦ w ])
    at g true h = works_more (length (with_answer g a).members) 33 w (gather_on w (with_answer g a)) (omega (arith, answers_long g a, h)) (works_gathers w (with_answer g a))
    at g false h = works_none 33 w

    by : (o : Option Exchange) → FewAnswers o → Works 33 w (answer_to w v a o)
    by None h = works_none 33 w
    by (Some g) h = at g (same_view g.view v && may_answer g a.node) h

pub works_refuse : (w : ViewWork) (v : ViewId) (n : ℕ) → Works 33 w (refuse_rule w v n)
unfolding refuse_rule refuse_to refused_by
works_refuse w v n = by w.views.gathering
  where
    at : (b : Bool) → Works 33 w (elim b [ true ↦ refused_by w n | false ↦ w ])
    at true = record { sends = omega arith; members = refl; view = refl; me = refl; inc = refl }
    at false = works_none 33 w

    by : (o : Option Exchange) → Works 33 w (refuse_to w v n o)
    by None = works_none 33 w
    by (Some g) = at (same_view g.view v)

pub works_install : (w : ViewWork) (i : Install) → Works 33 w (install_rule w i)
unfolding install_rule installed
works_install w i = by (same_view w.views.view i.view) (same_view w.views.promise i.view && is_member i.members w.views.me w.views.inc)
  where
    by : (b c : Bool) → Works 33 w (installed w i b c)
    by true c = works_more 1 33 w (view_sent w i.view.coord (packet.Taken i.view)) (omega arith) (works_sent w i.view.coord (packet.Taken i.view))
    by false true = record { sends = omega arith; members = refl; view = refl; me = refl; inc = refl }
    by false false = works_none 33 w

pub works_taken : (w : ViewWork) (from : ℕ) (v : ViewId) → Works 33 w (taken_rule w from v)
unfolding taken_rule
works_taken w from v = by (same_view w.views.view v)
  where
    by : (b : Bool) → Works 33 w (elim b [ true ↦ record w { views = record (w.views) { taken = with_node w.views.taken from } } | false ↦ w ])
    by true = record { sends = omega arith; members = refl; view = refl; me = refl; inc = refl }
    by false = works_none 33 w

-- ---- a tick

works_again : (w : ViewWork) (o : Option Exchange) → Works 33 w (prepare_again w o)
unfolding prepare_again
works_again w None = works_none 33 w
works_again w (Some g) =
    let x : ViewWork = gathering_set w (Some (aged g)) in
    let ns : List ℕ = filter (λ n. not (has_answered g n)) (nodes_of g.asked) in
    let few : length ns ≤ 33 = omega (arith, kept_few (λ n. not (has_answered g n)) (nodes_of g.asked), nodes_few g.asked) in
    works_more (0 + length ns) 33 w (view_sent_all x ns (packet.Prepare g.view g.asked)) (omega (arith, few)) (works_then 0 (length ns) w x (view_sent_all x ns (packet.Prepare g.view g.asked)) (works_set w (Some (aged g))) (works_all x ns (packet.Prepare g.view g.asked)))

works_stuck : (w : ViewWork) → Works 0 w (note_stuck w)
unfolding note_stuck
works_stuck w = record { sends = omega arith; members = refl; view = refl; me = refl; inc = refl }

pub works_ticks : (w : ViewWork) (o : Option RingAsk) (parts : List Part) → Works 33 w (gathering_ticks w o parts)
unfolding gathering_ticks asks_or_ages
works_ticks w None parts = works_again w w.views.gathering
works_ticks w (Some a) parts = by (tick_asks w.views a)
  where
    x : ViewWork
    x = note_stuck w

    by : (b : Bool) → Works 33 w (asks_or_ages x a parts b)
    by true = works_then 0 33 w x (ask_rule x a.mask parts) (works_stuck w) (works_ask x a.mask parts)
    by false = works_then 0 33 w x (prepare_again x x.views.gathering) (works_stuck w) (works_again x x.views.gathering)

-- INSTALL again, which enters nothing
pub works_install_again : (w : ViewWork) → length w.views.members ≤ 32 → w.install ≡ None → Works 32 w (install_again w) × ((install_again w).install ≡ None)
unfolding install_again install_again_of view_sent_all
works_install_again w few none = by (is_coordinator w.views && not (is_frozen w.views))
  where
    of : (o : Option Install) → Works 32 w (install_again_of w o) × ((install_again_of w o).install ≡ None)
    of None = (works_none 32 w, none)
    of (Some i) =
        let os : List ℕ = others_of w.views.me w.views.members in
        let ns : List ℕ = filter (λ n. not (has_node w.views.taken n)) os in
        (works_more (length ns) 32 w (view_sent_all w ns (packet.Install i)) (omega (arith, kept_few (λ n. not (has_node w.views.taken n)) os, others_few w.views.me w.views.members, few)) (works_all w ns (packet.Install i)), none)

    by : (b : Bool) → Works 32 w (elim b [ true ↦ install_again_of w w.views.install | false ↦ w ]) × ((elim b as (λ _. ViewWork) [ true ↦ install_again_of w w.views.install | false ↦ w ]).install ≡ None)
    by true = of w.views.install
    by false = (works_none 32 w, none)
