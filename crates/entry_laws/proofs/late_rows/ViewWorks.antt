-- What a rule of views leaves: the node stays where it is, and what is to be applied was sent, or is made of all answers.
use Rattle.std.proofs.Common.{◌≡◌, ℕ, List, Option, Some, None, Bool, true, false, refl, subst}
use Rattle.std.specs.Prelude.{◌==◌, ◌&&◌, not, max, filter, length, nat_le, nat_lt}
use Rattle.std.proofs.lemmas.Bool.{and_parts}
use Rattle.rsct_packet.specs.declared.ids.ViewId.{ViewId}
use Rattle.rsct_packet.specs.declared.mask.Mask.{Mask}
use Rattle.rsct_packet.specs.Ids.{last_u32, same_view, is_member}
use Rattle.rsct_packet.specs.Mask.{has_node, with_node, nodes_of}
use Rattle.view_state.specs.declared.answer.Answer.{Answer}
use Rattle.view_state.specs.declared.exchange.Exchange.{Exchange}
use Rattle.view_state.specs.declared.install.Part.{Part}
use Rattle.view_state.specs.declared.install.Install.{Install}
use Rattle.view_state.specs.Answers.{max_parts, opened, has_answered, may_answer, with_answer, all_answered, install_of, is_spelled}
use Rattle.view_state.specs.declared.packet.ViewPacket.{ViewPacket}
use Rattle.view_state.specs.declared.packet.ViewPacket.TheVariants as packet
use Rattle.view_state.specs.declared.views.RingAsk.{RingAsk}
use Rattle.view_state.specs.declared.views.Views.{Views}
use Rattle.view_state.specs.declared.views.ViewWork.{ViewWork}
use Rattle.view_state.specs.Views.{is_frozen, is_coordinator, others_of, view_sent, view_sent_all, gathering_set, promised, begin_install, gathered, gather_on, own_answer, ask_others, next_view, may_ask, ask_if, ask_rule, answered, prepare, prepare_rule, answer_to, answer_rule, refused_by, refuse_to, refuse_rule, installed, install_rule, taken_rule, aged, prepare_again, tick_asks, note_stuck, asks_or_ages, gathering_ticks, install_again_of, install_again, views_at_work}

module _ (P : Install → Type 0) (v : Views) where
  pub record Work (w : ViewWork) : Type 0 where
    pub me : w.views.me ≡ v.me
    pub view : w.views.view ≡ v.view
    pub install : (i : Install) → w.install ≡ Some i → P i

  pub begun_work : Work (views_at_work v)
  begun_work = record { me = refl; view = refl; install = λ i e. absurd (cc) }

  sent_work : (w : ViewWork) (to : ℕ) (y : ViewPacket) → Work w → Work (view_sent w to y)
  unfolding view_sent
  sent_work w to y k = record { me = k.me; view = k.view; install = k.install }

  sent_all_work : (w : ViewWork) (ns : List ℕ) (y : ViewPacket) → Work w → Work (view_sent_all w ns y)
  unfolding view_sent_all
  sent_all_work w ns y k = record { me = k.me; view = k.view; install = k.install }

  gathering_work : (w : ViewWork) (g : Option Exchange) → Work w → Work (gathering_set w g)
  unfolding gathering_set
  gathering_work w g k = record { me = k.me; view = k.view; install = k.install }

  promised_work : (w : ViewWork) (u : ViewId) → Work w → Work (promised w u)
  unfolding promised
  promised_work w u k = record { me = k.me; view = k.view; install = k.install }

  installs_work : (w : ViewWork) (i : Install) (b : Bool) → P i → Work w → Work (begin_install w i b)
  unfolding begin_install view_sent_all
  installs_work w i false ok k = k
  installs_work w i true ok k = record { me = k.me; view = k.view; install = λ j e. (let q : i ≡ j = cc in subst P q ok) }

  gathers_work : (w : ViewWork) (g : Exchange) → (all_answered g ≡ true → P (install_of g)) → Work w → Work (gather_on w g)
  unfolding gather_on gathered
  gathers_work w g ok k = by (all_answered g) refl
    where
      by : (b : Bool) → all_answered g ≡ b → Work (gathered w g b)
      by false e = gathering_work w (Some g) k
      by true e = installs_work (gathering_set w None) (install_of g) (is_spelled (install_of g)) (ok e) (gathering_work w None k)

  -- a node asks, itself alone too
  abbrev pub Alone : Views → Mask → List Part → Type 0
  Alone s mask parts = has_node mask s.me ≡ true → all_answered (with_answer (opened (next_view s) mask) (own_answer s parts)) ≡ true → P (install_of (with_answer (opened (next_view s) mask) (own_answer s parts)))

  pub ask_work : (w : ViewWork) (mask : Mask) (parts : List Part) → Alone w.views mask parts → Work w → Work (ask_rule w mask parts)
  unfolding ask_rule ask_if ask_others may_ask
  ask_work w mask parts ok k = by (may_ask w.views mask) refl
    where
      asks : has_node mask w.views.me ≡ true → (b : Bool) → Work (ask_others w (next_view w.views) mask parts b)
      asks there false = promised_work w (next_view w.views) k
      asks there true =
          gathers_work (view_sent_all (promised w (next_view w.views)) (filter (λ n. not (n == w.views.me)) (nodes_of mask)) (packet.Prepare (next_view w.views) mask)) (with_answer (opened (next_view w.views) mask) (own_answer w.views parts)) (ok there) (sent_all_work (promised w (next_view w.views)) (filter (λ n. not (n == w.views.me)) (nodes_of mask)) (packet.Prepare (next_view w.views) mask) (promised_work w (next_view w.views) k))

      by : (b : Bool) → may_ask w.views mask ≡ b → Work (ask_if w mask parts b)
      by false e = k
      by true e = asks (and_parts (has_node mask w.views.me) (nat_lt (max w.views.promise.number w.views.floor) last_u32) e).0 (nat_le (length parts) max_parts)

  answered_work : (w : ViewWork) (u : ViewId) (parts : List Part) → Work w → Work (answered w u parts)
  unfolding answered
  answered_work w u parts k = by (nat_le (length parts) max_parts)
    where
      by : (b : Bool) → Work (elim b as (λ _. ViewWork) [ true ↦ view_sent w u.coord (packet.Answer u w.views.view parts) | false ↦ w ])
      by true = sent_work w u.coord (packet.Answer u w.views.view parts) k
      by false = k

  prepared_work : (w : ViewWork) (u : ViewId) (parts : List Part) (a b c : Bool) → Work w → Work (prepare w u parts a b c)
  unfolding prepare
  prepared_work w u parts true b c k = answered_work (promised w u) u parts (promised_work w u k)
  prepared_work w u parts false true c k = answered_work w u parts k
  prepared_work w u parts false false true k = sent_work w u.coord (packet.Refuse u w.views.promise.number) k
  prepared_work w u parts false false false k = k

  pub prepare_work : (w : ViewWork) (from inc : ℕ) (u : ViewId) (mask : Mask) (parts : List Part) → Work w → Work (prepare_rule w from inc u mask parts)
  unfolding prepare_rule
  prepare_work w from inc u mask parts k = prepared_work w u parts _ _ _ k

  pub answer_work : (w : ViewWork) (u : ViewId) (a : Answer) → ((g : Exchange) → w.views.gathering ≡ Some g → (same_view g.view u && may_answer g a.node) ≡ true → all_answered (with_answer g a) ≡ true → P (install_of (with_answer g a))) → Work w → Work (answer_rule w u a)
  unfolding answer_rule answer_to
  answer_work w u a ok k = by w.views.gathering refl
    where
      at : (g : Exchange) → w.views.gathering ≡ Some g → (b : Bool) → (same_view g.view u && may_answer g a.node) ≡ b → Work (elim b as (λ _. ViewWork) [ true ↦ gather_on w (with_answer g a) | false ↦ w ])
      at g q true e = gathers_work w (with_answer g a) (ok g q e) k
      at g q false e = k

      by : (o : Option Exchange) → w.views.gathering ≡ o → Work (answer_to w u a o)
      by None q = k
      by (Some g) q = at g q (same_view g.view u && may_answer g a.node) refl

  pub refuse_work : (w : ViewWork) (u : ViewId) (n : ℕ) → Work w → Work (refuse_rule w u n)
  unfolding refuse_rule refuse_to refused_by
  refuse_work w u n k = by w.views.gathering
    where
      at : (b : Bool) → Work (elim b as (λ _. ViewWork) [ true ↦ refused_by w n | false ↦ w ])
      at true = record { me = k.me; view = k.view; install = k.install }
      at false = k

      by : (o : Option Exchange) → Work (refuse_to w u n o)
      by None = k
      by (Some g) = at (same_view g.view u)

  pub install_work : (w : ViewWork) (i : Install) → P i → Work w → Work (install_rule w i)
  unfolding install_rule installed
  install_work w i ok k = by (same_view w.views.view i.view) (same_view w.views.promise i.view && is_member i.members w.views.me w.views.inc)
    where
      by : (a b : Bool) → Work (installed w i a b)
      by true b = sent_work w i.view.coord (packet.Taken i.view) k
      by false true = record { me = k.me; view = k.view; install = λ j e. (let q : i ≡ j = cc in subst P q ok) }
      by false false = k

  pub taken_work : (w : ViewWork) (from : ℕ) (u : ViewId) → Work w → Work (taken_rule w from u)
  unfolding taken_rule
  taken_work w from u k = by (same_view w.views.view u)
    where
      by : (b : Bool) → Work (elim b as (λ _. ViewWork) [ true ↦ record w { views = record (w.views) { taken = with_node w.views.taken from } } | false ↦ w ])
      by true = record { me = k.me; view = k.view; install = k.install }
      by false = k

  -- ---- a tick

  again_work : (w : ViewWork) → Work w → Work (prepare_again w w.views.gathering)
  unfolding prepare_again aged
  again_work w k = by w.views.gathering
    where
      by : (o : Option Exchange) → Work (prepare_again w o)
      by None = k
      by (Some g) =
          sent_all_work (gathering_set w (Some (aged g))) (filter (λ n. not (has_answered g n)) (nodes_of g.asked)) (packet.Prepare g.view g.asked) (gathering_work w (Some (aged g)) k)

  pub ticks_work : (w : ViewWork) (o : Option RingAsk) (parts : List Part) → ((a : RingAsk) → o ≡ Some a → Alone w.views a.mask parts) → Work w → Work (gathering_ticks w o parts)
  unfolding gathering_ticks asks_or_ages note_stuck next_view
  ticks_work w None parts ok k = again_work w k
  ticks_work w (Some a) parts ok k = by (tick_asks w.views a)
    where
      noted_work : Work (note_stuck w)
      noted_work = record { me = k.me; view = k.view; install = k.install }

      by : (b : Bool) → Work (asks_or_ages (note_stuck w) a parts b)
      by true = ask_work (note_stuck w) a.mask parts (ok a refl) noted_work
      by false = again_work (note_stuck w) noted_work

  pub install_again_work : (w : ViewWork) → Work w → Work (install_again w)
  unfolding install_again install_again_of
  install_again_work w k = by (is_coordinator w.views && not (is_frozen w.views)) w.views.install
    where
      by : (b : Bool) (o : Option Install) → Work (elim b as (λ _. ViewWork) [ true ↦ install_again_of w o | false ↦ w ])
      by true None = k
      by true (Some i) =
          sent_all_work w (filter (λ n. not (has_node w.views.taken n)) (others_of w.views.me w.views.members)) (packet.Install i) k
      by false o = k
