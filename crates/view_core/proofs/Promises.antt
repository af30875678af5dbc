-- Promises do not fall, and views rise.
use Rattle.std.proofs.Common.{◌≡◌, ℕ, ◌+◌, ◌<◌, ◌≤◌, Bool, true, false, List, length, max, Option, Some, None, refl, sym, ap, subst, ◌∙◌, arith}
use Rattle.std.specs.Prelude.{not, ◌==◌, ◌&&◌, ◌||◌, filter, drop, ◌++◌, [], ◌∷◌, nat_lt, nat_le}
use Rattle.std.proofs.lemmas.Bool.{lt-ltb, and_parts}
use Rattle.std.proofs.lemmas.Bool.Decides.{nat_tests}
use Rattle.rsct_packet.specs.declared.ids.ViewId.{ViewId}
use Rattle.rsct_packet.specs.declared.mask.Mask.{Mask}
use Rattle.rsct_packet.specs.Ids.{same_view, view_lt, is_member}
use Rattle.rsct_packet.specs.Mask.{has_node, with_node, nodes_of}
use Rattle.view_state.specs.declared.answer.Answer.{Answer}
use Rattle.view_state.specs.declared.exchange.Exchange.{Exchange}
use Rattle.view_state.specs.declared.install.Part.{Part}
use Rattle.view_state.specs.declared.install.Install.{Install}
use Rattle.view_exchange.specs.InPlace.{answer_in}
use Rattle.view_state.specs.Answers.{opened, with_answer, has_answered, may_answer, all_answered, install_of, is_spelled}
use Rattle.view_state.proofs.ViewOrder.{not_before_itself, same_view_is}
use Rattle.view_state.specs.declared.packet.ViewPacket.{ViewPacket}
use Rattle.view_state.specs.declared.packet.ViewPacket.TheVariants as packet
use Rattle.view_state.specs.declared.views.Views.{Views}
use Rattle.view_state.specs.declared.views.RingAsk.{RingAsk}
use Rattle.view_state.specs.declared.views.ViewWork.{ViewWork}
use Rattle.view_core.specs.declared.step.ViewEvent.{ViewEvent}
use Rattle.view_core.specs.declared.step.ViewEvent.TheVariants as event
use Rattle.view_state.specs.Views.{view_sent, view_sent_all, gathering_set, promised, begin_install, gathered, gather_on, own_answer, ask_others, next_view, may_ask, ask_if, ask_rule, answered, prepare, prepare_rule, answer_to, answer_rule, refused_by, refuse_to, refuse_rule, installed, install_rule, taken_rule, aged, prepare_again, note_stuck, tick_asks, asks_or_ages, gathering_ticks, install_again_of, install_again, is_coordinator, is_frozen, is_stuck, others_of, views_at_work, views_new, views_entered}
use Rattle.view_core.specs.Steps.{view_rule, view_stepped}
use Rattle.view_core.specs.Laws.{NotBefore, IsNext, GathersNext, AppliesNext, AreViews, ViewsBegin, Goes, PromisesStand, Enters, ViewsRise}

or_left : (a b : Bool) → a ≡ true → (a || b) ≡ true
or_left true b e = refl
or_left false b e = absurd cc

higher_covers : (v p n : ViewId) → view_lt p v ≡ false → view_lt p n ≡ true → view_lt n v ≡ false
higher_covers v p n h k = grind (arith, nat_tests)

higher_above : (v p n : ViewId) → view_lt p v ≡ false → view_lt p n ≡ true → view_lt v n ≡ true
higher_above v p n h k = grind (arith, nat_tests)

other_above : (v p : ViewId) → view_lt p v ≡ false → same_view v p ≡ false → view_lt v p ≡ true
other_above v p h k = grind (arith, nat_tests)

-- ---- what is still to be shown of a state of work, from the views that it began with

record Since (s : Views) (w : ViewWork) : Type 0 where
  view : w.views.view ≡ s.view
  promise : NotBefore w.views.promise s.promise
  covers : NotBefore w.views.promise w.views.view
  nothing : w.install ≡ None

goes : (s : Views) (w : ViewWork) → Since s w → GathersNext w.views w.views.gathering → Goes s w
goes s w h g = record {
  views = record { covers = h.covers; gathers = g };
  view = h.view;
  promise = h.promise;
  applies = subst (λ (i : Option Install). AppliesNext w.views i) (sym h.nothing) tt;
}

-- ---- what sends alone

sent_goes : (s : Views) (w : ViewWork) (to : ℕ) (p : ViewPacket) → Since s w → GathersNext w.views w.views.gathering → Goes s (view_sent w to p)
unfolding view_sent
sent_goes s w to p h g = let r = goes s w h g in record { views = r.views; view = r.view; promise = r.promise; applies = r.applies }

sent_all_goes : (s : Views) (w : ViewWork) (to : List ℕ) (p : ViewPacket) → Since s w → GathersNext w.views w.views.gathering → Goes s (view_sent_all w to p)
unfolding view_sent_all
sent_all_goes s w to p h g = let r = goes s w h g in record { views = r.views; view = r.view; promise = r.promise; applies = r.applies }

sent_all_since : (s : Views) (w : ViewWork) (to : List ℕ) (p : ViewPacket) → Since s w → Since s (view_sent_all w to p)
unfolding view_sent_all
sent_all_since s w to p h = record { view = h.view; promise = h.promise; covers = h.covers; nothing = h.nothing }

sent_all_views : (w : ViewWork) (to : List ℕ) (p : ViewPacket) → (view_sent_all w to p).views ≡ w.views
unfolding view_sent_all
sent_all_views w to p = refl

-- ---- a gathering

gathers_same : (s t : Views) (o : Option Exchange) → t.view ≡ s.view → t.promise ≡ s.promise → GathersNext s o → GathersNext t o
gathers_same s t None v p h = tt
gathers_same s t (Some g) v p h = record { promised = h.promised ∙ sym p; above = rw v h.above }

aged_goes : (s : Views) (w : ViewWork) (g : Exchange) (to : List ℕ) (p : ViewPacket) → Since s w → IsNext w.views g.view → Goes s (view_sent_all (gathering_set w (Some (aged g))) to p)
unfolding gathering_set view_sent_all aged
aged_goes s w g to p h n = record {
  views = record { covers = h.covers; gathers = record { promised = n.promised; above = n.above } };
  view = h.view;
  promise = h.promise;
  applies = subst (λ (i : Option Install). AppliesNext (record (w.views) { gathering = Some (aged g) }) i) (sym h.nothing) tt;
}

install_view : (g : Exchange) → (install_of g).view ≡ g.view
unfolding install_of
install_view g = refl

answer_view : (g : Exchange) (a : Answer) → (with_answer g a).view ≡ g.view
unfolding with_answer
answer_view g a = refl

opened_view : (v : ViewId) (m : Mask) → (opened v m).view ≡ v
unfolding opened
opened_view v m = refl

is_next_along : (s : Views) (a b : ViewId) → b ≡ a → IsNext s a → IsNext s b
is_next_along s a b e h = subst (λ (v : ViewId). IsNext s v) (sym e) h

kept_goes : (s : Views) (w : ViewWork) (g : Exchange) → Since s w → IsNext w.views g.view → Goes s (gathering_set w (Some g))
unfolding gathering_set
kept_goes s w g h n = record {
  views = record { covers = h.covers; gathers = record { promised = n.promised; above = n.above } };
  view = h.view;
  promise = h.promise;
  applies = subst (λ (i : Option Install). AppliesNext (record (w.views) { gathering = Some g }) i) (sym h.nothing) tt;
}

installs_goes : (s : Views) (w : ViewWork) (g : Exchange) (t : Bool) → Since s w → IsNext w.views g.view → Goes s (begin_install (gathering_set w None) (install_of g) t)
unfolding gathering_set begin_install view_sent_all
installs_goes s w g false h n = record {
  views = record { covers = h.covers; gathers = tt };
  view = h.view;
  promise = h.promise;
  applies = subst (λ (i : Option Install). AppliesNext (record (w.views) { gathering = None }) i) (sym h.nothing) tt;
}
installs_goes s w g true h n = record {
  views = record { covers = h.covers; gathers = tt };
  view = h.view;
  promise = h.promise;
  applies = record { promised = install_view g ∙ n.promised; above = rw (install_view g) n.above };
}

gathered_goes : (s : Views) (w : ViewWork) (g : Exchange) (t : Bool) → Since s w → IsNext w.views g.view → Goes s (gathered w g t)
unfolding gathered
gathered_goes s w g false h n = kept_goes s w g h n
gathered_goes s w g true h n = installs_goes s w g (is_spelled (install_of g)) h n

gathers_goes : (s : Views) (w : ViewWork) (g : Exchange) → Since s w → IsNext w.views g.view → Goes s (gather_on w g)
unfolding gather_on
gathers_goes s w g h n = gathered_goes s w g (all_answered g) h n

-- ---- a promise

promised_since : (s : Views) (w : ViewWork) (v : ViewId) → Since s w → view_lt w.views.promise v ≡ true → Since s (promised w v)
unfolding promised
promised_since s w v h k = record {
  view = h.view;
  promise = higher_covers s.promise w.views.promise v h.promise k;
  covers = higher_covers w.views.view w.views.promise v h.covers k;
  nothing = h.nothing;
}

promised_next : (s : Views) (w : ViewWork) (v : ViewId) → Since s w → view_lt w.views.promise v ≡ true → IsNext (promised w v).views v
unfolding promised
promised_next s w v h k = record { promised = refl; above = higher_above w.views.view w.views.promise v h.covers k }

promised_gathers : (w : ViewWork) (v : ViewId) → GathersNext (promised w v).views (promised w v).views.gathering
unfolding promised
promised_gathers w v = tt

answered_goes : (s : Views) (w : ViewWork) (v : ViewId) (parts : List Part) → Since s w → GathersNext w.views w.views.gathering → Goes s (answered w v parts)
unfolding answered
answered_goes s w v parts h g = by (nat_le (length parts) 255)
  where
    by : (t : Bool) → Goes s (elim t [ true ↦ view_sent w v.coord (packet.Answer v w.views.view parts) | false ↦ w ])
    by true = sent_goes s w v.coord (packet.Answer v w.views.view parts) h g
    by false = goes s w h g

-- ---- the rows

asks_goes : (s : Views) (w : ViewWork) (v : ViewId) (mask : Mask) (parts : List Part) (t : Bool) → Since s w → view_lt w.views.promise v ≡ true → Goes s (ask_others w v mask parts t)
unfolding ask_others
asks_goes s w v mask parts false h k = goes s (promised w v) (promised_since s w v h k) (promised_gathers w v)
asks_goes s w v mask parts true h k =
    let to : List ℕ = filter (λ n. not (n == w.views.me)) (nodes_of mask) in
    let u : ViewWork = view_sent_all (promised w v) to (packet.Prepare v mask) in
    let x : Exchange = with_answer (opened v mask) (own_answer w.views parts) in
    let view : x.view ≡ v = answer_view (opened v mask) (own_answer w.views parts) ∙ opened_view v mask in
    let next : IsNext u.views v = subst (λ (z : Views). IsNext z v) (sym (sent_all_views (promised w v) to (packet.Prepare v mask))) (promised_next s w v h k) in
    gathers_goes s u x (sent_all_since s (promised w v) to (packet.Prepare v mask) (promised_since s w v h k)) (is_next_along u.views v x.view view next)

next_is_higher : (s : Views) → view_lt s.promise (next_view s) ≡ true
unfolding next_view
next_is_higher s = or_left (nat_lt s.promise.number (max s.promise.number s.floor + 1)) _ (lt-ltb s.promise.number (max s.promise.number s.floor + 1) (omega arith))

ask_if_goes : (s : Views) (w : ViewWork) (mask : Mask) (parts : List Part) (t : Bool) → Since s w → GathersNext w.views w.views.gathering → Goes s (ask_if w mask parts t)
unfolding ask_if
ask_if_goes s w mask parts false h g = goes s w h g
ask_if_goes s w mask parts true h g = asks_goes s w (next_view w.views) mask parts (nat_le (length parts) 255) h (next_is_higher w.views)

ask_goes : (s : Views) (w : ViewWork) (mask : Mask) (parts : List Part) → Since s w → GathersNext w.views w.views.gathering → Goes s (ask_rule w mask parts)
unfolding ask_rule
ask_goes s w mask parts h g = ask_if_goes s w mask parts (may_ask w.views mask) h g

prepared_goes : (s : Views) (w : ViewWork) (v : ViewId) (parts : List Part) (a b c : Bool) → Since s w → GathersNext w.views w.views.gathering → (a ≡ true → view_lt w.views.promise v ≡ true) → Goes s (prepare w v parts a b c)
unfolding prepare
prepared_goes s w v parts true b c h g k = answered_goes s (promised w v) v parts (promised_since s w v h (k refl)) (promised_gathers w v)
prepared_goes s w v parts false true c h g k = answered_goes s w v parts h g
prepared_goes s w v parts false false true h g k = sent_goes s w v.coord (packet.Refuse v w.views.promise.number) h g
prepared_goes s w v parts false false false h g k = goes s w h g

prepare_goes : (s : Views) (w : ViewWork) (from inc : ℕ) (v : ViewId) (mask : Mask) (parts : List Part) → Since s w → GathersNext w.views w.views.gathering → Goes s (prepare_rule w from inc v mask parts)
unfolding prepare_rule
prepare_goes s w from inc v mask parts h g =
    let asked : Bool = v.coord == from && v.inc == inc && has_node mask w.views.me in
    prepared_goes s w v parts (asked && view_lt w.views.promise v) (asked && same_view v w.views.promise && not (same_view v w.views.view)) (view_lt v w.views.promise) h g
    (λ e. (and_parts asked (view_lt w.views.promise v) e).1)

answer_to_goes : (s : Views) (w : ViewWork) (v : ViewId) (a : Answer) (o : Option Exchange) → Since s w → GathersNext w.views w.views.gathering → GathersNext w.views o → Goes s (answer_to w v a o)
unfolding answer_to
answer_to_goes s w v a None h g k = goes s w h g
answer_to_goes s w v a (Some x) h g k = by (same_view x.view v && may_answer x a.node)
  where
    by : (t : Bool) → Goes s (elim t [ true ↦ gather_on w (with_answer x a) | false ↦ w ])
    by true = gathers_goes s w (with_answer x a) h (is_next_along w.views x.view (with_answer x a).view (answer_view x a) k)
    by false = goes s w h g

answer_goes : (s : Views) (w : ViewWork) (v : ViewId) (a : Answer) → Since s w → GathersNext w.views w.views.gathering → Goes s (answer_rule w v a)
unfolding answer_rule
answer_goes s w v a h g = answer_to_goes s w v a w.views.gathering h g g

refused_goes : (s : Views) (w : ViewWork) (n : ℕ) → Since s w → Goes s (refused_by w n)
unfolding refused_by
refused_goes s w n h = record {
  views = record { covers = h.covers; gathers = tt };
  view = h.view;
  promise = h.promise;
  applies = subst (λ (i : Option Install). AppliesNext (record (w.views) { floor = max w.views.floor n; gathering = None }) i) (sym h.nothing) tt;
}

refuse_to_goes : (s : Views) (w : ViewWork) (v : ViewId) (n : ℕ) (o : Option Exchange) → Since s w → GathersNext w.views w.views.gathering → Goes s (refuse_to w v n o)
unfolding refuse_to
refuse_to_goes s w v n None h g = goes s w h g
refuse_to_goes s w v n (Some x) h g = by (same_view x.view v)
  where
    by : (t : Bool) → Goes s (elim t [ true ↦ refused_by w n | false ↦ w ])
    by true = refused_goes s w n h
    by false = goes s w h g

refuse_goes : (s : Views) (w : ViewWork) (v : ViewId) (n : ℕ) → Since s w → GathersNext w.views w.views.gathering → Goes s (refuse_rule w v n)
unfolding refuse_rule
refuse_goes s w v n h g = refuse_to_goes s w v n w.views.gathering h g

installed_goes : (s : Views) (w : ViewWork) (i : Install) (a b : Bool) → same_view w.views.view i.view ≡ a → (b ≡ true → same_view w.views.promise i.view ≡ true) → Since s w → GathersNext w.views w.views.gathering → Goes s (installed w i a b)
unfolding installed
installed_goes s w i true b p q h g = sent_goes s w i.view.coord (packet.Taken i.view) h g
installed_goes s w i false false p q h g = goes s w h g
installed_goes s w i false true p q h g =
    let e : i.view ≡ w.views.promise = sym (same_view_is w.views.promise i.view (q refl)) in
    let other : same_view w.views.view w.views.promise ≡ false = subst (λ (v : ViewId). same_view w.views.view v ≡ false) e p in
    record {
      views = record { covers = h.covers; gathers = g };
      view = h.view;
      promise = h.promise;
      applies = record { promised = e; above = rw e (other_above w.views.view w.views.promise h.covers other) };
    }

install_goes : (s : Views) (w : ViewWork) (i : Install) → Since s w → GathersNext w.views w.views.gathering → Goes s (install_rule w i)
unfolding install_rule
install_goes s w i h g =
    installed_goes s w i (same_view w.views.view i.view) (same_view w.views.promise i.view && is_member i.members w.views.me w.views.inc) refl
    (λ e. (and_parts (same_view w.views.promise i.view) (is_member i.members w.views.me w.views.inc) e).0) h g

taken_goes : (s : Views) (w : ViewWork) (from : ℕ) (v : ViewId) → Since s w → GathersNext w.views w.views.gathering → Goes s (taken_rule w from v)
unfolding taken_rule
taken_goes s w from v h g = by (same_view w.views.view v)
  where
    by : (t : Bool) → Goes s (elim t [ true ↦ record w { views = record (w.views) { taken = with_node w.views.taken from } } | false ↦ w ])
    by true = record {
      views = record { covers = h.covers; gathers = gathers_same w.views (record (w.views) { taken = with_node w.views.taken from }) w.views.gathering refl refl g };
      view = h.view;
      promise = h.promise;
      applies = subst (λ (i : Option Install). AppliesNext (record (w.views) { taken = with_node w.views.taken from }) i) (sym h.nothing) tt;
    }
    by false = goes s w h g

-- ---- a tick

again_goes : (s : Views) (w : ViewWork) (o : Option Exchange) → Since s w → GathersNext w.views w.views.gathering → GathersNext w.views o → Goes s (prepare_again w o)
unfolding prepare_again
again_goes s w None h g k = goes s w h g
again_goes s w (Some x) h g k = aged_goes s w x (filter (λ n. not (has_answered x n)) (nodes_of x.asked)) (packet.Prepare x.view x.asked) h k

noted_since : (s : Views) (w : ViewWork) → Since s w → Since s (note_stuck w)
unfolding note_stuck
noted_since s w h = record { view = h.view; promise = h.promise; covers = h.covers; nothing = h.nothing }

noted_gathers : (w : ViewWork) → GathersNext w.views w.views.gathering → GathersNext (note_stuck w).views (note_stuck w).views.gathering
unfolding note_stuck
noted_gathers w g = gathers_same w.views (record (w.views) { stuck = drop 1 w.views.stuck ++ is_stuck w.views ∷ [] }) w.views.gathering refl refl g

asks_or_ages_goes : (s : Views) (w : ViewWork) (a : RingAsk) (parts : List Part) (t : Bool) → Since s w → GathersNext w.views w.views.gathering → Goes s (asks_or_ages w a parts t)
unfolding asks_or_ages
asks_or_ages_goes s w a parts true h g = ask_goes s w a.mask parts h g
asks_or_ages_goes s w a parts false h g = again_goes s w w.views.gathering h g g

tick_goes : (s : Views) (w : ViewWork) (o : Option RingAsk) (parts : List Part) → Since s w → GathersNext w.views w.views.gathering → Goes s (gathering_ticks w o parts)
unfolding gathering_ticks
tick_goes s w None parts h g = again_goes s w w.views.gathering h g g
tick_goes s w (Some a) parts h g = asks_or_ages_goes s (note_stuck w) a parts (tick_asks w.views a) (noted_since s w h) (noted_gathers w g)

remind_of_goes : (s : Views) (w : ViewWork) (o : Option Install) → Since s w → GathersNext w.views w.views.gathering → Goes s (install_again_of w o)
unfolding install_again_of
remind_of_goes s w None h g = goes s w h g
remind_of_goes s w (Some i) h g = sent_all_goes s w (filter (λ n. not (has_node w.views.taken n)) (others_of w.views.me w.views.members)) (packet.Install i) h g

remind_goes : (s : Views) (w : ViewWork) → Since s w → GathersNext w.views w.views.gathering → Goes s (install_again w)
unfolding install_again
remind_goes s w h g = by (is_coordinator w.views && not (is_frozen w.views))
  where
    by : (t : Bool) → Goes s (elim t [ true ↦ install_again_of w w.views.install | false ↦ w ])
    by true = remind_of_goes s w w.views.install h g
    by false = goes s w h g

-- ---- every event

row_goes : (s : Views) (w : ViewWork) (e : ViewEvent) (parts : List Part) → Since s w → GathersNext w.views w.views.gathering → Goes s (view_rule w e parts)
unfolding view_rule
row_goes s w (event.Ask mask) parts h g = ask_goes s w mask parts h g
row_goes s w (event.Tick ring_ask) parts h g = tick_goes s w ring_ask parts h g
row_goes s w event.Remind parts h g = remind_goes s w h g
row_goes s w (event.Prepare from inc view mask) parts h g = prepare_goes s w from inc view mask parts h g
row_goes s w (event.Answer from inc view answer) parts h g = answer_goes s w view (answer_in from inc answer) h g
row_goes s w (event.Refuse view number) parts h g = refuse_goes s w view number h g
row_goes s w (event.Install install) parts h g = install_goes s w install h g
row_goes s w (event.Taken from view) parts h g = taken_goes s w from view h g

pub views_begin : ViewsBegin
unfolding views_new
views_begin me inc v ms = record { covers = not_before_itself v; gathers = tt }

pub promises_stand : PromisesStand
unfolding view_stepped
promises_stand s e parts h = row_goes s (views_at_work s) e parts (record { view = refl; promise = not_before_itself s.promise; covers = h.covers; nothing = refl }) h.gathers

pub views_rise : ViewsRise
unfolding views_entered
views_rise s i h = record {
  views = record { covers = not_before_itself i.view; gathers = tt };
  rises = h.above;
  promise = rw (h.promised) (not_before_itself s.promise);
}
