-- The rules of views leave a node where it is; it enters a view only as an install is applied.
use Rattle.std.proofs.Common.{◌≡◌, ℕ, List, length, Option, Some, None, Bool, true, false, refl}
use Rattle.std.specs.Prelude.{◌==◌, ◌&&◌, not, filter, nat_le}
use Rattle.rsct_packet.specs.declared.ids.ViewId.{ViewId}
use Rattle.rsct_packet.specs.declared.mask.Mask.{Mask}
use Rattle.rsct_packet.specs.Ids.{same_view, is_member}
use Rattle.rsct_packet.specs.Mask.{has_node, with_node, nodes_of}
use Rattle.view_state.specs.declared.answer.Answer.{Answer}
use Rattle.view_state.specs.declared.exchange.Exchange.{Exchange}
use Rattle.view_state.specs.declared.install.Part.{Part}
use Rattle.view_state.specs.declared.install.Install.{Install}
use Rattle.view_state.specs.Answers.{max_parts, opened, may_answer, has_answered, with_answer, all_answered, install_of, is_spelled}
use Rattle.view_state.specs.declared.packet.ViewPacket.{ViewPacket}
use Rattle.view_state.specs.declared.packet.ViewPacket.TheVariants as packet
use Rattle.view_state.specs.declared.views.Views.{Views}
use Rattle.view_state.specs.declared.views.RingAsk.{RingAsk}
use Rattle.view_state.specs.declared.views.ViewWork.{ViewWork}
use Rattle.view_state.specs.Views.{is_frozen, is_coordinator, others_of, view_sent, view_sent_all, gathering_set, promised, begin_install, gathered, gather_on, own_answer, ask_others, next_view, may_ask, ask_if, ask_rule, answered, prepare, prepare_rule, answer_to, answer_rule, refused_by, refuse_to, refuse_rule, installed, install_rule, taken_rule, aged, prepare_again, tick_asks, note_stuck, asks_or_ages, gathering_ticks, install_again_of, install_again, views_at_work}

-- the same node in the same view
pub record Stays (v : Views) (w : ViewWork) : Type 0 where
  pub me : w.views.me ≡ v.me
  pub view : w.views.view ≡ v.view
  pub members : w.views.members ≡ v.members

module _ (v : Views) where
  pub begun_stays : Stays v (views_at_work v)
  begun_stays = record { me = refl; view = refl; members = refl }

  sent_stays : (w : ViewWork) (to : ℕ) (y : ViewPacket) → Stays v w → Stays v (view_sent w to y)
  unfolding view_sent
  sent_stays w to y k = record { me = k.me; view = k.view; members = k.members }

  sent_all_stays : (w : ViewWork) (ns : List ℕ) (y : ViewPacket) → Stays v w → Stays v (view_sent_all w ns y)
  unfolding view_sent_all
  sent_all_stays w ns y k = record { me = k.me; view = k.view; members = k.members }

  gathering_stays : (w : ViewWork) (g : Option Exchange) → Stays v w → Stays v (gathering_set w g)
  unfolding gathering_set
  gathering_stays w g k = record { me = k.me; view = k.view; members = k.members }

  promised_stays : (w : ViewWork) (u : ViewId) → Stays v w → Stays v (promised w u)
  unfolding promised
  promised_stays w u k = record { me = k.me; view = k.view; members = k.members }

  installs_stay : (w : ViewWork) (i : Install) (b : Bool) → Stays v w → Stays v (begin_install w i b)
  unfolding begin_install view_sent_all
  installs_stay w i false k = k
  installs_stay w i true k = record { me = k.me; view = k.view; members = k.members }

  gathers_stay : (w : ViewWork) (g : Exchange) → Stays v w → Stays v (gather_on w g)
  unfolding gather_on gathered
  gathers_stay w g k = by (all_answered g)
    where
      by : (b : Bool) → Stays v (gathered w g b)
      by false = gathering_stays w (Some g) k
      by true = installs_stay (gathering_set w None) (install_of g) (is_spelled (install_of g)) (gathering_stays w None k)

  asks_stay : (w : ViewWork) (u : ViewId) (mask : Mask) (parts : List Part) (b : Bool) → Stays v w → Stays v (ask_others w u mask parts b)
  unfolding ask_others
  asks_stay w u mask parts false k = promised_stays w u k
  asks_stay w u mask parts true k =
      gathers_stay (view_sent_all (promised w u) (filter (λ n. not (n == w.views.me)) (nodes_of mask)) (packet.Prepare u mask)) (with_answer (opened u mask) (own_answer w.views parts)) (sent_all_stays (promised w u) (filter (λ n. not (n == w.views.me)) (nodes_of mask)) (packet.Prepare u mask) (promised_stays w u k))

  pub ask_stays : (w : ViewWork) (mask : Mask) (parts : List Part) → Stays v w → Stays v (ask_rule w mask parts)
  unfolding ask_rule ask_if
  ask_stays w mask parts k = by (may_ask w.views mask)
    where
      by : (b : Bool) → Stays v (ask_if w mask parts b)
      by false = k
      by true = asks_stay w (next_view w.views) mask parts (nat_le (length parts) max_parts) k

  answered_stays : (w : ViewWork) (u : ViewId) (parts : List Part) → Stays v w → Stays v (answered w u parts)
  unfolding answered
  answered_stays w u parts k = by (nat_le (length parts) max_parts)
    where
      by : (b : Bool) → Stays v (elim b as (λ _. ViewWork) [ true ↦ view_sent w u.coord (packet.Answer u w.views.view parts) | false ↦ w ])
      by true = sent_stays w u.coord (packet.Answer u w.views.view parts) k
      by false = k

  prepared_stays : (w : ViewWork) (u : ViewId) (parts : List Part) (a b c : Bool) → Stays v w → Stays v (prepare w u parts a b c)
  unfolding prepare
  prepared_stays w u parts true b c k = answered_stays (promised w u) u parts (promised_stays w u k)
  prepared_stays w u parts false true c k = answered_stays w u parts k
  prepared_stays w u parts false false true k = sent_stays w u.coord (packet.Refuse u w.views.promise.number) k
  prepared_stays w u parts false false false k = k

  pub prepare_stays : (w : ViewWork) (from inc : ℕ) (u : ViewId) (mask : Mask) (parts : List Part) → Stays v w → Stays v (prepare_rule w from inc u mask parts)
  unfolding prepare_rule
  prepare_stays w from inc u mask parts k = prepared_stays w u parts _ _ _ k

  pub answer_stays : (w : ViewWork) (u : ViewId) (a : Answer) → Stays v w → Stays v (answer_rule w u a)
  unfolding answer_rule answer_to
  answer_stays w u a k = by w.views.gathering
    where
      at : (g : Exchange) (b : Bool) → Stays v (elim b as (λ _. ViewWork) [ true ↦ gather_on w (with_answer g a) | false ↦ w ])
      at g true = gathers_stay w (with_answer g a) k
      at g false = k

      by : (o : Option Exchange) → Stays v (answer_to w u a o)
      by None = k
      by (Some g) = at g (same_view g.view u && may_answer g a.node)

  pub refuse_stays : (w : ViewWork) (u : ViewId) (n : ℕ) → Stays v w → Stays v (refuse_rule w u n)
  unfolding refuse_rule refuse_to refused_by
  refuse_stays w u n k = by w.views.gathering
    where
      at : (b : Bool) → Stays v (elim b as (λ _. ViewWork) [ true ↦ refused_by w n | false ↦ w ])
      at true = record { me = k.me; view = k.view; members = k.members }
      at false = k

      by : (o : Option Exchange) → Stays v (refuse_to w u n o)
      by None = k
      by (Some g) = at (same_view g.view u)

  pub install_stays : (w : ViewWork) (i : Install) → Stays v w → Stays v (install_rule w i)
  unfolding install_rule installed
  install_stays w i k = by (same_view w.views.view i.view) (same_view w.views.promise i.view && is_member i.members w.views.me w.views.inc)
    where
      by : (a b : Bool) → Stays v (installed w i a b)
      by true b = sent_stays w i.view.coord (packet.Taken i.view) k
      by false true = record { me = k.me; view = k.view; members = k.members }
      by false false = k

  pub taken_stays : (w : ViewWork) (from : ℕ) (u : ViewId) → Stays v w → Stays v (taken_rule w from u)
  unfolding taken_rule
  taken_stays w from u k = by (same_view w.views.view u)
    where
      by : (b : Bool) → Stays v (elim b as (λ _. ViewWork) [ true ↦ record w { views = record (w.views) { taken = with_node w.views.taken from } } | false ↦ w ])
      by true = record { me = k.me; view = k.view; members = k.members }
      by false = k

  -- ---- a tick

  again_stays : (w : ViewWork) → Stays v w → Stays v (prepare_again w w.views.gathering)
  unfolding prepare_again aged
  again_stays w k = by w.views.gathering
    where
      by : (o : Option Exchange) → Stays v (prepare_again w o)
      by None = k
      by (Some g) = sent_all_stays (gathering_set w (Some (aged g))) (filter (λ n. not (has_answered g n)) (nodes_of g.asked)) (packet.Prepare g.view g.asked) (gathering_stays w (Some (aged g)) k)

  pub ticks_stay : (w : ViewWork) (a : Option RingAsk) (parts : List Part) → Stays v w → Stays v (gathering_ticks w a parts)
  unfolding gathering_ticks asks_or_ages note_stuck
  ticks_stay w None parts k = again_stays w k
  ticks_stay w (Some a) parts k = by (tick_asks w.views a)
    where
      noted : Stays v (note_stuck w)
      noted = record { me = k.me; view = k.view; members = k.members }

      by : (b : Bool) → Stays v (asks_or_ages (note_stuck w) a parts b)
      by true = ask_stays (note_stuck w) a.mask parts noted
      by false = again_stays (note_stuck w) noted

  pub install_again_stays : (w : ViewWork) → Stays v w → Stays v (install_again w)
  unfolding install_again install_again_of
  install_again_stays w k = by (is_coordinator w.views && not (is_frozen w.views))
    where
      of : (o : Option Install) → Stays v (install_again_of w o)
      of None = k
      of (Some i) = sent_all_stays w (filter (λ n. not (has_node w.views.taken n)) (others_of w.views.me w.views.members)) (packet.Install i) k

      by : (b : Bool) → Stays v (elim b as (λ _. ViewWork) [ true ↦ install_again_of w w.views.install | false ↦ w ])
      by true = of w.views.install
      by false = k
