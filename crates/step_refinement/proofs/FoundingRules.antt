-- The rules in which a coordinator founds a view: the last answer, and asking oneself alone.
use Rattle.std.proofs.Common.{◌≡◌, ℕ, List, [], ◌∷◌, ◌++◌, length, Option, Some, None, Bool, true, false, refl, sym, ap, ◌∙◌, subst}
use Rattle.std.specs.Prelude.{◌==◌, ◌&&◌, not, nat_le, nat_lt, max, map, filter, reverse, drop}
use Rattle.rsct_packet.specs.declared.ids.ViewId.{ViewId}
use Rattle.rsct_packet.specs.declared.mask.Mask.{Mask}
use Rattle.rsct_packet.specs.Ids.{last_u32, same_view}
use Rattle.rsct_packet.specs.Mask.{has_node, nodes_of}
use Rattle.rsct_packet.specs.Search.{Has}
use Rattle.std.proofs.lemmas.Bool.{and_parts}
use Rattle.view_state.specs.declared.answer.Answer.{Answer}
use Rattle.view_state.specs.declared.exchange.Exchange.{Exchange}
use Rattle.view_state.specs.declared.install.Part.{Part}
use Rattle.view_state.specs.declared.install.Install.{Install}
use Rattle.view_state.specs.Answers.{max_parts, opened, may_answer, with_answer, all_answered, install_of, is_spelled}
use Rattle.view_state.specs.declared.packet.ViewPacket.TheVariants as view
use Rattle.view_state.specs.declared.packet.ViewSend.{ViewSend}
use Rattle.view_state.specs.declared.views.RingAsk.{RingAsk}
use Rattle.view_state.specs.Views.{others_of, view_sent_all, gathering_set, promised, begin_install, gathered, gather_on, own_answer, ask_others, next_view, may_ask, ask_if, ask_rule, answer_to, answer_rule, tick_asks, note_stuck, asks_or_ages, gathering_ticks, is_stuck, views_at_work}
use Rattle.node_state.specs.declared.packet.Body.TheVariants as body
use Rattle.node_state.specs.declared.packet.Packet.{Packet}
use Rattle.node_state.specs.declared.state.Core.{Core}
use Rattle.node_state.specs.Settings.{is_fixed}
use Rattle.node_state.specs.State.{held_rows}
use Rattle.node_state.specs.HandOn.{Answering}
use Rattle.node_state.specs.Applying.{own_parts, apply_install, views_taken}
use Rattle.node_state.specs.Step.{take_order, view_rule, take_body}
use Rattle.node_state.specs.Ticks.{ring_ask, tick_views}
use Rattle.run_safety.specs.Sight.{lines_with, lines_of}
use Rattle.run_safety.specs.Group.{kept}
use Rattle.run_safety.specs.Moves.{Quiet}
use Rattle.step_refinement.specs.Ghost.{Gathers, GathersIf}
use Rattle.step_refinement.specs.Tied.{Scene, Tied}
use Rattle.step_refinement.specs.Rules.{QuietNow}
use Rattle.step_refinement.proofs.GoingOn.{GoesOn, goes_on}
use Rattle.step_refinement.proofs.Gatherings.{counted_tied, next_promised, opened_tied, prepares_tied, asks_tied}
use Rattle.step_refinement.proofs.ViewTicks.{ages_tied, again_tied, noted_tied, rings_free}
use Rattle.step_refinement.proofs.Founding.{Sent, sends_out, sends_are, sends_more, ungathered, ungathered_sends, installs_to, lacking_same, dropped, founds_tied}

quiet_ghost : (g : List ℕ) (w : Scene) (n : ℕ) (s : Core) (t : Tied g w n s) → QuietNow g w s → Quiet (kept t.ghost.all)
quiet_ghost g w n s t q = subst (λ l. Quiet (kept l)) (sym t.lines) q

quiet_first : (g : List ℕ) (w : Scene) (s : Core) → s.records ≡ [] → QuietNow g w s
quiet_first g w s none =
    subst (λ rs. Quiet (kept (lines_with g (reverse rs) w.before (lines_of g w.before)))) (sym none) (record { at = λ m u. refl })

-- all have answered
founded_tied : (g : List ℕ) (w : Scene) (n : ℕ) (f : Answering) (s : Core) (e : Exchange) → s.views.gathering ≡ Some e → QuietNow g w s → GoesOn s e → Tied g w n s → (b : Bool) → Tied g w n (views_taken f s (begin_install (gathering_set (views_at_work s.views) None) (install_of e) b))
unfolding begin_install gathering_set view_sent_all views_taken apply_install
founded_tied g w n f s e is quiet goes t = by
  where
    q : Quiet (kept t.ghost.all)
    q = quiet_ghost g w n s t quiet

    h : Gathers t.ghost g n s.views.inc s.views.view s.views.promise e
    h = subst (λ z. GathersIf t.ghost g n s.views.inc s.views.view s.views.promise z) is t.own.0.gathering

    by : (b : Bool) → Tied g w n (views_taken f s (begin_install (gathering_set (views_at_work s.views) None) (install_of e) b))
    by false = dropped g w n f s t e h q
    by true = founds_tied g w n f s t e h q goes.0 goes.1

-- ANSWER, where the own lists go on to the install
answer_founds : (v old : ViewId) (parts : List Part) (g : List ℕ) (w : Scene) (n : ℕ) (f : Answering) (s : Core) (p : Packet) → p.body ≡ body.View (view.Answer v old parts) → Has p w.sent → s.records ≡ [] → ((e : Exchange) → s.views.gathering ≡ Some e → (same_view e.view v && may_answer e p.from) ≡ true → all_answered (with_answer e (record { node = p.from; inc = p.inc; view = old; parts = parts })) ≡ true → GoesOn s (with_answer e (record { node = p.from; inc = p.inc; view = old; parts = parts }))) → Tied g w n s → Tied g w n (take_body f s p (body.View (view.Answer v old parts)))
unfolding take_body view_rule views_taken apply_install answer_rule answer_to gather_on gathered gathering_set
answer_founds v old parts g w n f s p is delivered none goes t = at s.views.gathering refl
  where
    a : Answer
    a = record { node = p.from; inc = p.inc; view = old; parts = parts }

    last : (e : Exchange) → s.views.gathering ≡ Some e → (same_view e.view v && may_answer e p.from) ≡ true → Tied g w n (record s { views = record (s.views) { gathering = Some (with_answer e a) } }) → (b : Bool) → all_answered (with_answer e a) ≡ b → Tied g w n (views_taken f s (gathered (views_at_work s.views) (with_answer e a) b))
    last e q c k false r = k
    last e q c k true r =
        let s2 : Core = record s { views = record (s.views) { gathering = Some (with_answer e a) } } in
        let l : GoesOn s (with_answer e a) = goes e q c r in
        founded_tied g w n f s2 (with_answer e a) refl (quiet_first g w s2 none) (l.0, lacking_same s2 s (install_of (with_answer e a)) refl refl ∙ l.1) k (is_spelled (install_of (with_answer e a)))

    by : (e : Exchange) → s.views.gathering ≡ Some e → (b : Bool) → (same_view e.view v && may_answer e p.from) ≡ b → Tied g w n (views_taken f s (elim b [ true ↦ gather_on (views_at_work s.views) (with_answer e (record { node = p.from; inc = p.inc; view = old; parts = parts })) | false ↦ views_at_work s.views ]))
    by e q false r = t
    by e q true r =
        last e q r (counted_tied v old parts g w n s p is delivered e q r t) (all_answered (with_answer e a)) refl

    at : (o : Option Exchange) → s.views.gathering ≡ o → Tied g w n (views_taken f s (answer_to (views_at_work s.views) v (record { node = p.from; inc = p.inc; view = old; parts = parts }) o))
    at None q = t
    at (Some e) q = by e q (same_view e.view v && may_answer e p.from) refl

-- ANSWER
pub founding_answer_tied : (v old : ViewId) (parts : List Part) (w : Scene) (n : ℕ) (f : Answering) (s : Core) (p : Packet) → p.body ≡ body.View (view.Answer v old parts) → Has p w.sent → s.records ≡ [] → ((h : List ℕ) → Tied h w n s) → (g : List ℕ) → Tied g w n (take_body f s p (body.View (view.Answer v old parts)))
founding_answer_tied v old parts w n f s p is delivered none all g =
    answer_founds v old parts g w n f s p is delivered none goes (all g)
  where
    goes : (e : Exchange) → s.views.gathering ≡ Some e → (same_view e.view v && may_answer e p.from) ≡ true → all_answered (with_answer e (record { node = p.from; inc = p.inc; view = old; parts = parts })) ≡ true → GoesOn s (with_answer e (record { node = p.from; inc = p.inc; view = old; parts = parts }))
    goes e q c r =
        let made : Exchange = with_answer e (record { node = p.from; inc = p.inc; view = old; parts = parts }) in
        let s2 : Core = record s { views = record (s.views) { gathering = Some made } } in
        let l : GoesOn s2 made = goes_on w n s2 made refl (λ h. counted_tied v old parts h w n s p is delivered e q c (all h)) in
        (l.0, lacking_same s s2 (install_of made) refl refl ∙ l.1)

-- ---- asking

-- a node that asks for a view, itself alone too
abbrev FoundsAlone : Core → Mask → Type 0
FoundsAlone s mask =
    all_answered (with_answer (opened (next_view s.views) mask) (own_answer s.views (own_parts s))) ≡ true → has_node mask s.views.me ≡ true → GoesOn s (with_answer (opened (next_view s.views) mask) (own_answer s.views (own_parts s)))

founds_alone : (w : Scene) (n : ℕ) (s : Core) (mask : Mask) → is_fixed s.config.mode ≡ false → ((h : List ℕ) → Tied h w n s) → FoundsAlone s mask
founds_alone w n s mask free all answered there =
    let e : Exchange = with_answer (opened (next_view s.views) mask) (own_answer s.views (own_parts s)) in
    let s2 : Core = record s { views = record (s.views) { promise = next_view s.views; gathering = Some e } } in
    let l : GoesOn s2 e = goes_on w n s2 e refl (λ h. opened_tied mask h w n s (all h) free there) in
    (l.0, lacking_same s s2 (install_of e) refl refl ∙ l.1)

module _ (mask : Mask) (g : List ℕ) (w : Scene) (n : ℕ) (f : Answering) (s : Core) (quiet : QuietNow g w s) (free : is_fixed s.config.mode ≡ false) (t : Tied g w n s) where
  abbrev v : ViewId
  v = next_view s.views

  abbrev e : Exchange
  e = with_answer (opened (next_view s.views) mask) (own_answer s.views (own_parts s))

  abbrev made : Install
  made = install_of e

  abbrev preps : List ViewSend
  preps = map (λ m. record { to = m; packet = view.Prepare (next_view s.views) mask }) (filter (λ m. not (m == s.views.me)) (nodes_of mask))

  abbrev sG : Core
  sG = record s { views = record (s.views) { promise = next_view s.views; gathering = Some e } }

  -- oneself alone is asked
  alone : has_node mask s.views.me ≡ true → GoesOn s e → Tied g w n (apply_install f (sends_out (ungathered sG) (preps ++ installs_to made (others_of s.views.me made.members))) (Some made))
  alone there goes =
      subst (λ c. Tied g w n (apply_install f c (Some made))) (sym path) (founds_tied g w n f sP tied e tied.own.0.gathering (quiet_ghost g w n sP tied quiet) goes.0 (lacking_same sP s made refl refl ∙ goes.1))
    where
      out : Sent sG preps (sends_out sG preps)
      out = sends_are preps sG

      sP : Core
      sP = record sG { sends = out.ps }

      tied : Tied g w n sP
      tied = subst (Tied g w n) out.is (prepares_tied g w n (next_view s.views) mask (filter (λ m. not (m == s.views.me)) (nodes_of mask)) sG free (opened_tied mask g w n s t free there))

      path : sends_out (ungathered sG) (preps ++ installs_to made (others_of s.views.me made.members)) ≡ sends_out (ungathered sP) (installs_to made (others_of s.views.me made.members))
      path =
          sends_more preps (installs_to made (others_of s.views.me made.members)) (ungathered sG) ∙ ap (λ c. sends_out c (installs_to made (others_of s.views.me made.members))) (ungathered_sends preps sG ∙ ap ungathered out.is)

  unspelled : Tied g w n (apply_install f (sends_out (ungathered sG) preps) None)
  unfolding apply_install
  unspelled =
      prepares_tied g w n (next_view s.views) mask (filter (λ m. not (m == s.views.me)) (nodes_of mask)) (ungathered sG) free (next_promised mask g w n s t free)

  nothing_taken : Tied g w n (views_taken f s (views_at_work s.views))
  unfolding views_taken apply_install
  nothing_taken = t

  promised_alone : Tied g w n (views_taken f s (promised (views_at_work s.views) (next_view s.views)))
  unfolding views_taken apply_install promised
  promised_alone = next_promised mask g w n s t free

  all_asked : all_answered e ≡ true → has_node mask s.views.me ≡ true → GoesOn s e → Tied g w n (views_taken f s (gather_on (view_sent_all (promised (views_at_work s.views) (next_view s.views)) (filter (λ m. not (m == s.views.me)) (nodes_of mask)) (view.Prepare (next_view s.views) mask)) e))
  unfolding gather_on gathered gathering_set view_sent_all promised begin_install views_taken
  all_asked all there goes =
      subst (λ b. Tied g w n (views_taken f s (gathered (view_sent_all (promised (views_at_work s.views) (next_view s.views)) (filter (λ m. not (m == s.views.me)) (nodes_of mask)) (view.Prepare (next_view s.views) mask)) e b))) (sym all) (by (is_spelled made))
    where
      by : (b : Bool) → Tied g w n (views_taken f s (begin_install (gathering_set (view_sent_all (promised (views_at_work s.views) (next_view s.views)) (filter (λ m. not (m == s.views.me)) (nodes_of mask)) (view.Prepare (next_view s.views) mask)) None) made b))
      by false = unspelled
      by true = alone there goes

  pub asks_founds : FoundsAlone s mask → Tied g w n (views_taken f s (ask_rule (views_at_work s.views) mask (own_parts s)))
  unfolding ask_rule ask_if may_ask ask_others
  asks_founds goes = at (all_answered e) refl
    where
      asks : all_answered e ≡ true → has_node mask s.views.me ≡ true → (b : Bool) → Tied g w n (views_taken f s (ask_others (views_at_work s.views) (next_view s.views) mask (own_parts s) b))
      asks all there false = promised_alone
      asks all there true = all_asked all there (goes all there)

      by : all_answered e ≡ true → (b : Bool) → may_ask s.views mask ≡ b → Tied g w n (views_taken f s (ask_if (views_at_work s.views) mask (own_parts s) b))
      by all false q = nothing_taken
      by all true q =
          asks all (and_parts (has_node mask s.views.me) (nat_lt (max s.views.promise.number s.views.floor) last_u32) q).0 (nat_le (length (own_parts s)) max_parts)

      at : (b : Bool) → all_answered e ≡ b → Tied g w n (views_taken f s (ask_rule (views_at_work s.views) mask (own_parts s)))
      at false q = asks_tied mask g w n f s free q t
      at true q = by q (may_ask s.views mask) refl

pub founding_ask_tied : (mask : Mask) (w : Scene) (n : ℕ) (f : Answering) (s : Core) → s.records ≡ [] → ((h : List ℕ) → Tied h w n s) → (g : List ℕ) → Tied g w n (take_order f s mask)
unfolding take_order
founding_ask_tied mask w n f s none all g = by (is_fixed s.config.mode) refl
  where
    by : (a : Bool) → is_fixed s.config.mode ≡ a → Tied g w n (elim a [ true ↦ s | false ↦ views_taken f s (ask_rule (views_at_work s.views) mask (own_parts s)) ])
    by true q = all g
    by false q =
        asks_founds mask g w n f s (quiet_first g w s none) q (all g) (founds_alone w n s mask q all)

-- ---- the tick

module _ (g : List ℕ) (w : Scene) (n : ℕ) (f : Answering) (s : Core) (quiet : QuietNow g w s) (t : Tied g w n s) where
  abbrev stuck_now : Core
  stuck_now = record s { views = record (s.views) { stuck = drop 1 s.views.stuck ++ is_stuck s.views ∷ [] } }

  stuck_tied : Tied g w n stuck_now
  stuck_tied = noted_tied g w n f s t (drop 1 s.views.stuck ++ is_stuck s.views ∷ [])

  -- (2)
  gathering_founds : (o : Option RingAsk) → ((a : RingAsk) → o ≡ Some a → is_fixed s.config.mode ≡ false) → ((a : RingAsk) → o ≡ Some a → FoundsAlone s a.mask) → Tied g w n (views_taken f s (gathering_ticks (views_at_work s.views) o (own_parts s)))
  unfolding gathering_ticks asks_or_ages note_stuck views_taken apply_install own_parts held_rows next_view
  gathering_founds None free goes = ages_tied g w n f s t
  gathering_founds (Some a) free goes = by (tick_asks s.views a)
    where
      on : FoundsAlone s a.mask → FoundsAlone stuck_now a.mask
      on k all there = let l = k all there in (l.0, lacking_same stuck_now s (install_of (with_answer (opened (next_view s.views) a.mask) (own_answer s.views (own_parts s)))) refl refl ∙ l.1)

      by : (b : Bool) → Tied g w n (views_taken f s (asks_or_ages (note_stuck (views_at_work s.views)) a (own_parts s) b))
      by true = asks_founds a.mask g w n f stuck_now quiet (free a refl) stuck_tied (on (goes a refl))
      by false = ages_tied g w n f stuck_now stuck_tied

-- (2) and (3)
pub founding_tick_tied : (w : Scene) (n : ℕ) (f : Answering) (s : Core) → ((h : List ℕ) → Tied h w n s) → (g : List ℕ) → QuietNow g w s → Tied g w n (tick_views f s)
unfolding tick_views
founding_tick_tied w n f s all g quiet =
    again_tied g w n f (views_taken f s (gathering_ticks (views_at_work s.views) (ring_ask s) (own_parts s))) (gathering_founds g w n f s quiet (all g) (ring_ask s) (rings_free s) (λ a q. founds_alone w n s a.mask (rings_free s a q) all))
