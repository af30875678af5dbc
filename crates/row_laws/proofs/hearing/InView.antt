-- A rule of views leaves the node in its view.
use Rattle.std.proofs.Common.{◌≡◌, ℕ, List, length, Option, Some, None, Bool, true, false, refl}
use Rattle.std.specs.Prelude.{not, ◌==◌, ◌&&◌, filter, nat_le}
use Rattle.rsct_packet.specs.declared.ids.ViewId.{ViewId}
use Rattle.rsct_packet.specs.declared.mask.Mask.{Mask}
use Rattle.rsct_packet.specs.Ids.{same_view, view_lt, is_member}
use Rattle.rsct_packet.specs.Mask.{has_node, with_node, nodes_of}
use Rattle.view_state.specs.declared.answer.Answer.{Answer}
use Rattle.view_state.specs.declared.exchange.Exchange.{Exchange}
use Rattle.view_state.specs.declared.install.Part.{Part}
use Rattle.view_state.specs.declared.install.Install.{Install}
use Rattle.view_state.specs.Answers.{max_parts, opened, with_answer, may_answer, all_answered, install_of, is_spelled}
use Rattle.view_state.specs.declared.packet.ViewPacket.TheVariants as packet
use Rattle.view_state.specs.declared.views.RingAsk.{RingAsk}
use Rattle.view_state.specs.declared.views.ViewWork.{ViewWork}
use Rattle.view_state.specs.Views.{view_sent, view_sent_all, gathering_set, promised, begin_install, gathered, gather_on, own_answer, ask_others, next_view, may_ask, ask_if, ask_rule, answered, prepare, prepare_rule, answer_to, answer_rule, refused_by, refuse_to, refuse_rule, installed, install_rule, taken_rule, prepare_again, note_stuck, tick_asks, asks_or_ages, gathering_ticks, install_again_of, install_again, is_coordinator, is_frozen}

-- the node, its view and its incarnation stay
abbrev pub InView : ViewWork → ViewWork → Type 0
InView w x = (x.views.me ≡ w.views.me) × (x.views.view ≡ w.views.view) × (x.views.inc ≡ w.views.inc)

stay_gathers : (w : ViewWork) (g : Exchange) → InView w (gather_on w g)
unfolding gather_on gathered begin_install gathering_set view_sent_all
stay_gathers w g = by (all_answered g) (is_spelled (install_of g))
  where
    last : (b : Bool) → InView w (begin_install (gathering_set w None) (install_of g) b)
    last true = (refl, refl, refl)
    last false = (refl, refl, refl)

    by : (a b : Bool) → InView w (gathered w g a)
    by true b = last (is_spelled (install_of g))
    by false b = (refl, refl, refl)

pub stay_asks : (w : ViewWork) (mask : Mask) (parts : List Part) → InView w (ask_rule w mask parts)
unfolding ask_rule ask_if ask_others promised view_sent_all
stay_asks w mask parts = by (may_ask w.views mask)
  where
    asks : (v : ViewId) (b : Bool) → InView w (ask_others w v mask parts b)
    asks v true =
        stay_gathers (view_sent_all (promised w v) (filter (λ n. not (n == w.views.me)) (nodes_of mask)) (packet.Prepare v mask)) (with_answer (opened v mask) (own_answer w.views parts))
    asks v false = (refl, refl, refl)

    by : (b : Bool) → InView w (ask_if w mask parts b)
    by true = asks (next_view w.views) (nat_le (length parts) max_parts)
    by false = (refl, refl, refl)

pub stay_prepares : (w : ViewWork) (from inc : ℕ) (v : ViewId) (mask : Mask) (parts : List Part) → InView w (prepare_rule w from inc v mask parts)
unfolding prepare_rule prepare answered promised view_sent
stay_prepares w from inc v mask parts =
    by (v.coord == from && v.inc == inc && has_node mask w.views.me && view_lt w.views.promise v) (v.coord == from && v.inc == inc && has_node mask w.views.me && same_view v w.views.promise && not (same_view v w.views.view)) (view_lt v w.views.promise)
  where
    answers : (x : ViewWork) (b : Bool) → InView x (elim b as (λ _. ViewWork) [ true ↦ view_sent x v.coord (packet.Answer v x.views.view parts) | false ↦ x ])
    answers x true = (refl, refl, refl)
    answers x false = (refl, refl, refl)

    by : (a b c : Bool) → InView w (prepare w v parts a b c)
    by true b c = answers (promised w v) (nat_le (length parts) max_parts)
    by false true c = answers w (nat_le (length parts) max_parts)
    by false false true = (refl, refl, refl)
    by false false false = (refl, refl, refl)

pub stay_answers : (w : ViewWork) (v : ViewId) (a : Answer) → InView w (answer_rule w v a)
unfolding answer_rule answer_to
stay_answers w v a = by w.views.gathering
  where
    at : (g : Exchange) (b : Bool) → InView w (elim b as (λ _. ViewWork) [ true ↦ gather_on w (with_answer g a) | false ↦ w ])
    at g true = stay_gathers w (with_answer g a)
    at g false = (refl, refl, refl)

    by : (o : Option Exchange) → InView w (answer_to w v a o)
    by None = (refl, refl, refl)
    by (Some g) = at g (same_view g.view v && may_answer g a.node)

pub stay_refuses : (w : ViewWork) (v : ViewId) (n : ℕ) → InView w (refuse_rule w v n)
unfolding refuse_rule refuse_to refused_by
stay_refuses w v n = by w.views.gathering
  where
    at : (g : Exchange) (b : Bool) → InView w (elim b as (λ _. ViewWork) [ true ↦ refused_by w n | false ↦ w ])
    at g true = (refl, refl, refl)
    at g false = (refl, refl, refl)

    by : (o : Option Exchange) → InView w (refuse_to w v n o)
    by None = (refl, refl, refl)
    by (Some g) = at g (same_view g.view v)

pub stay_installs : (w : ViewWork) (i : Install) → InView w (install_rule w i)
unfolding install_rule installed view_sent
stay_installs w i = by (same_view w.views.view i.view) (same_view w.views.promise i.view && is_member i.members w.views.me w.views.inc)
  where
    by : (a b : Bool) → InView w (installed w i a b)
    by true b = (refl, refl, refl)
    by false true = (refl, refl, refl)
    by false false = (refl, refl, refl)

pub stay_takes : (w : ViewWork) (from : ℕ) (v : ViewId) → InView w (taken_rule w from v)
unfolding taken_rule
stay_takes w from v = by (same_view w.views.view v)
  where
    by : (b : Bool) → InView w (elim b as (λ _. ViewWork) [ true ↦ record w { views = record (w.views) { taken = with_node w.views.taken from } } | false ↦ w ])
    by true = (refl, refl, refl)
    by false = (refl, refl, refl)

stay_again : (w : ViewWork) (o : Option Exchange) → InView w (prepare_again w o)
unfolding prepare_again view_sent_all gathering_set
stay_again w None = (refl, refl, refl)
stay_again w (Some g) = (refl, refl, refl)

pub stay_ticks : (w : ViewWork) (o : Option RingAsk) (parts : List Part) → InView w (gathering_ticks w o parts)
unfolding gathering_ticks asks_or_ages note_stuck
stay_ticks w None parts = stay_again w w.views.gathering
stay_ticks w (Some a) parts = by (tick_asks w.views a)
  where
    by : (b : Bool) → InView w (asks_or_ages (note_stuck w) a parts b)
    by true = stay_asks (note_stuck w) a.mask parts
    by false = stay_again (note_stuck w) w.views.gathering

pub stay_reminds : (w : ViewWork) → InView w (install_again w)
unfolding install_again install_again_of view_sent_all
stay_reminds w = by (is_coordinator w.views && not (is_frozen w.views))
  where
    at : (o : Option Install) → InView w (install_again_of w o)
    at None = (refl, refl, refl)
    at (Some i) = (refl, refl, refl)

    by : (b : Bool) → InView w (elim b as (λ _. ViewWork) [ true ↦ install_again_of w w.views.install | false ↦ w ])
    by true = at w.views.install
    by false = (refl, refl, refl)
