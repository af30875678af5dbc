-- How many packets a whole step sends.
use Rattle.std.proofs.Common.{◌≡◌, ◌≤◌, ℕ, ◌+◌, ◌*◌, List, [], ◌∷◌, length, filter, None, Bool, true, false, cond, inl, inr, refl, ap, arith}
use Rattle.std.specs.Prelude.{◌==◌}
use Rattle.std.proofs.lemmas.List.{length-map}
use Rattle.rsct_packet.specs.declared.mask.Mask.{Mask}
use Rattle.rsct_packet.specs.Search.{Has}
use Rattle.view_state.specs.declared.packet.ViewPacket.{ViewPacket}
use Rattle.view_state.specs.declared.packet.ViewPacket.TheVariants as packet
use Rattle.view_state.specs.declared.views.ViewWork.{ViewWork}
use Rattle.view_state.specs.Views.{views_at_work, ask_rule, prepare_rule, answer_rule, refuse_rule, install_rule, taken_rule}
use Rattle.node_state.specs.declared.group.GroupRow.{GroupRow}
use Rattle.node_state.specs.declared.packet.Body.{Body}
use Rattle.node_state.specs.declared.packet.Body.TheVariants as body
use Rattle.node_state.specs.declared.packet.Packet.{Packet}
use Rattle.node_state.specs.declared.state.Core.{Core}
use Rattle.node_state.specs.Settings.{is_fixed}
use Rattle.node_state.specs.State.{leads_in, led_groups}
use Rattle.node_state.specs.Sending.{send_on}
use Rattle.node_state.specs.HandOn.{Answering}
use Rattle.node_state.specs.Applying.{own_parts, views_taken}
use Rattle.node_state.specs.Following.{take_lookup, take_name, take_request, take_tell, take_entry, take_ack, take_vote, take_gone}
use Rattle.node_state.specs.Ticks.{ring_rule, take_report}
use Rattle.node_state.specs.Ending.{end_step}
use Rattle.node_state.specs.Status.{status_text}
use Rattle.node_state.specs.Calls.{take_call}
use Rattle.node_state.specs.Step.{NodeEvent, is_used, used_if, take_order, view_rule, take_body, packet_rule, event_rule, at_work, stepped}
use Rattle.node_state.specs.Step.NodeEvent.{Ticks, Asks, Given, Calls, Garbage}
use Rattle.send_laws.specs.Bound.{puts_of, waits_of, Stands, FineIf, FewAnswers, owed_count, brought, brought_by, brought_in, brought_to, led_count, Ready}
use Rattle.send_laws.proofs.Parts.{Goes, goes_same, goes_sent_on}
use Rattle.send_laws.proofs.Rules.{goes_lookup, goes_name, goes_request, goes_tell, goes_entry, goes_ack, goes_vote, goes_gone}
use Rattle.send_laws.proofs.Calls.{goes_call}
use Rattle.send_laws.proofs.Ends.{goes_ended}
use Rattle.send_laws.proofs.Ticks.{goes_ring_rule, goes_report}
use Rattle.send_laws.proofs.ViewSends.{Works, works_ask, works_prepare, works_answer, works_refuse, works_install, works_taken}
use Rattle.send_laws.proofs.ViewKeeps.{FewWork, few_ask, few_prepare, few_answer, few_refuse, few_install, few_taken}
use Rattle.send_laws.proofs.Asking.{asks_fine}
use Rattle.send_laws.proofs.Entering.{Moves, moves_goes, moves_more, moves_taken}
use Rattle.send_laws.proofs.TickMoves.{Same, owed_same, led_same, moves_tick}

-- ---- rows

module _ (s : Core) (k : Stands s) where
  moved : (c : ℕ) (t : Core) → c ≤ 64 + (length s.sessions.requests + length s.sessions.kept + length s.sessions.providers) → Moves c s t → Moves (64 + owed_count s) s t
  unfolding owed_count
  moved c t le m = moves_more c (64 + owed_count s) s t (omega (arith, le)) m

  gone_on : (c : ℕ) (t : Core) → c ≤ 64 + (length s.sessions.requests + length s.sessions.kept + length s.sessions.providers) → Goes c s t → Moves (64 + owed_count s) s t
  gone_on c t le g = moved c t le (moves_goes c s t g)

  used : (t : Core) (b : Bool) → Moves (64 + owed_count s) s t → Moves (64 + owed_count s) s (used_if s t b)
  unfolding used_if
  used t true m = m
  used t false m = gone_on 0 s (omega arith) (goes_same s k)

  viewed : (f : Answering) (w : ViewWork) → Works 33 (views_at_work s.views) w → (FewWork (views_at_work s.views) → FewWork w) → FineIf s.views.view w.install → Moves (64 + owed_count s) s (views_taken f s w)
  viewed f w works keeps fine =
      moved (33 + 1 + length s.sessions.requests + length s.sessions.kept) (views_taken f s w) (omega arith) (moves_taken 33 f s w works keeps fine k)

  moves_view : (f : Answering) (from inc : ℕ) (x : ViewPacket) → FewAnswers s.views.gathering → FineIf s.views.view (brought_by s from inc x) → Moves (64 + owed_count s) s (view_rule f s from inc x)
  unfolding view_rule brought_by
  moves_view f from inc (packet.Prepare v mask) few fine =
      viewed f (prepare_rule (views_at_work s.views) from inc v mask (own_parts s)) (works_prepare (views_at_work s.views) from inc v mask (own_parts s)) (few_prepare (views_at_work s.views) from inc v mask (own_parts s)) fine
  moves_view f from inc (packet.Answer v old parts) few fine =
      viewed f (answer_rule (views_at_work s.views) v (record { node = from; inc = inc; view = old; parts = parts })) (works_answer (views_at_work s.views) v (record { node = from; inc = inc; view = old; parts = parts }) few) (few_answer (views_at_work s.views) v (record { node = from; inc = inc; view = old; parts = parts })) fine
  moves_view f from inc (packet.Refuse v n) few fine = viewed f (refuse_rule (views_at_work s.views) v n) (works_refuse (views_at_work s.views) v n) (few_refuse (views_at_work s.views) v n) fine
  moves_view f from inc (packet.Install i) few fine = viewed f (install_rule (views_at_work s.views) i) (works_install (views_at_work s.views) i) (few_install (views_at_work s.views) i) fine
  moves_view f from inc (packet.Taken v) few fine = viewed f (taken_rule (views_at_work s.views) from v) (works_taken (views_at_work s.views) from v) (few_taken (views_at_work s.views) from v) fine

  moves_order : (f : Answering) (mask : Mask) → Moves (64 + owed_count s) s (take_order f s mask)
  unfolding take_order
  moves_order f mask = by (is_fixed s.config.mode)
    where
      by : (b : Bool) → Moves (64 + owed_count s) s (elim b [ true ↦ s | false ↦ views_taken f s (ask_rule (views_at_work s.views) mask (own_parts s)) ])
      by true = gone_on 0 s (omega arith) (goes_same s k)
      by false = viewed f (ask_rule (views_at_work s.views) mask (own_parts s)) (works_ask (views_at_work s.views) mask (own_parts s)) (few_ask (views_at_work s.views) mask (own_parts s)) (asks_fine s mask k)

  moves_body : (f : Answering) (p : Packet) (b : Body) → FewAnswers s.views.gathering → FineIf s.views.view (brought_in s p b) → Moves (64 + owed_count s) s (take_body f s p b)
  unfolding take_body brought_in
  moves_body f p (body.Ring x) few fine = gone_on 64 (ring_rule s p.network p.from p.inc x) (omega arith) (goes_ring_rule s p.network p.from p.inc x k)
  moves_body f p (body.Report rows) few fine = gone_on 0 (take_report s rows) (omega arith) (goes_report s rows k)
  moves_body f p (body.View x) few fine = moves_view f p.from p.inc x few fine
  moves_body f p (body.Lookup v g) few fine = used (take_lookup s p.from g) (is_used s p v) (gone_on 1 (take_lookup s p.from g) (omega arith) (goes_lookup s p.from g k))
  moves_body f p (body.Name v g n) few fine = used (take_name s g n) (is_used s p v) (gone_on (length s.sessions.requests) (take_name s g n) (omega arith) (goes_name s g n k))
  moves_body f p (body.Request v g q r phases x) few fine =
      used (take_request f s p.from g q r phases x) (is_used s p v) (gone_on 1 (take_request f s p.from g q r phases x) (omega arith) (goes_request f s p.from g q r phases x k))
  moves_body f p (body.Tell v g q r y) few fine = used (take_tell s q r y) (is_used s p v) (gone_on 0 (take_tell s q r y) (omega arith) (goes_tell s q r y k))
  moves_body f p (body.Entry v g place stable e) few fine =
      used (take_entry f s p.from g place stable e) (is_used s p v) (gone_on 1 (take_entry f s p.from g place stable e) (omega arith) (goes_entry f s p.from g place stable e k))
  moves_body f p (body.Ack v g n) few fine = used (take_ack s p.from g n) (is_used s p v) (gone_on 0 (take_ack s p.from g n) (omega arith) (goes_ack s p.from g n k))
  moves_body f p (body.Vote v g proto phase q vote value message) few fine =
      used (take_vote f s g proto phase q vote value message) (is_used s p v) (gone_on 0 (take_vote f s g proto phase q vote value message) (omega arith) (goes_vote f s g proto phase q vote value message k))
  moves_body f p (body.Gone v g q) few fine = used (take_gone f s g q) (is_used s p v) (gone_on 0 (take_gone f s g q) (omega arith) (goes_gone f s g q k))
  moves_body f p (body.Query question what) few fine =
      gone_on 1 (send_on s p.network p.from (body.Reply question (status_text s what))) (omega arith) (goes_sent_on s p.network p.from (body.Reply question (status_text s what)) tt k)
  moves_body f p (body.Reply question text) few fine = gone_on 0 s (omega arith) (goes_same s k)

  moves_packet : (f : Answering) (p : Packet) → FewAnswers s.views.gathering → FineIf s.views.view (brought_to s p) → Moves (64 + owed_count s) s (packet_rule f s p)
  unfolding packet_rule brought_to
  moves_packet f p few fine = by (p.to == s.views.me) fine
    where
      by : (b : Bool) → FineIf s.views.view (elim b [ true ↦ brought_in s p p.body | false ↦ None ]) → Moves (64 + owed_count s) s (elim b [ true ↦ take_body f s p p.body | false ↦ s ])
      by true h = moves_body f p p.body few h
      by false h = gone_on 0 s (omega arith) (goes_same s k)

-- ---- the step

ended : (c : ℕ) (f : Answering) (s t : Core) → Moves c s t → Moves c s (end_step f t)
ended c f s t m =
    let g : Goes 0 t (end_step f t) = goes_ended f t m.stands in
    record { within = omega (arith, m.within, g.within); stands = g.stands; lasts = λ h. g.lasts (m.lasts h) }

moves_event : (f : Answering) (s : Core) (e : NodeEvent) → Ready s e → Moves (486 + 2 * owed_count s + 512 * led_count s) s (event_rule f s e)
unfolding event_rule brought
moves_event f s Ticks r = moves_tick f s r.rings r.ends r.stands
moves_event f s (Asks mask) r =
    moves_more (64 + owed_count s) (486 + 2 * owed_count s + 512 * led_count s) s (end_step f (take_order f s mask)) (omega arith) (ended (64 + owed_count s) f s (take_order f s mask) (moves_order s r.stands f mask))
moves_event f s (Given p) r =
    moves_more (64 + owed_count s) (486 + 2 * owed_count s + 512 * led_count s) s (end_step f (packet_rule f s p)) (omega arith) (ended (64 + owed_count s) f s (packet_rule f s p) (moves_packet s r.stands f p r.answers r.fine))
moves_event f s (Calls c) r =
    let m : Moves (64 + owed_count s) s (take_call s c) = gone_on s r.stands (1 + length s.sessions.providers) (take_call s c) (omega arith) (goes_call s c r.stands) in
    moves_more (64 + owed_count s) (486 + 2 * owed_count s + 512 * led_count s) s (end_step f (take_call s c)) (omega arith) (ended (64 + owed_count s) f s (take_call s c) m)
moves_event f s Garbage r =
    let m : Moves (64 + owed_count s) s s = gone_on s r.stands 0 s (omega arith) (goes_same s r.stands) in
    moves_more (64 + owed_count s) (486 + 2 * owed_count s + 512 * led_count s) s (end_step f s) (omega arith) (ended (64 + owed_count s) f s s m)

-- joins that wait are at most 64 for each group that is led
waits_led : (s : Core) (rows : List GroupRow) → ((row : GroupRow) → Has row rows → (length row.led.waiting.joins ≤ 64) × (leads_in s row ≡ false → row.led.waiting.joins ≡ [])) → waits_of rows ≤ 64 * length (filter (leads_in s) rows)
waits_led s [] h = omega arith
waits_led s (row ∷ rows) h = by (leads_in s row) (h row (inl refl)).1 (waits_led s rows (λ x k. h x (inr k)))
  where
    by : (b : Bool) → (b ≡ false → row.led.waiting.joins ≡ []) → waits_of rows ≤ 64 * length (filter (leads_in s) rows) → waits_of (row ∷ rows) ≤ 64 * length (cond b (row ∷ filter (leads_in s) rows) (filter (leads_in s) rows))
    by true e k = omega (arith, (h row (inl refl)).0, k)
    by false e k = let z : length row.led.waiting.joins ≡ 0 = ap length (e refl) in omega (arith, z, k)

led_long : (s : Core) → length (led_groups s) ≡ length (filter (leads_in s) s.groups)
unfolding led_groups
led_long s = length-map (filter (leads_in s) s.groups) (λ (row : GroupRow). row.name)

-- the step as it is taken
pub moves_stepped : (f : Answering) (s : Core) (e : NodeEvent) → Ready (at_work s) e → Moves (486 + 2 * owed_count (at_work s) + 512 * led_count (at_work s)) (at_work s) (stepped f s e)
unfolding stepped
moves_stepped f s e r = moves_event f (at_work s) e r

pub step_few : (f : Answering) (s : Core) (e : NodeEvent) → Ready (at_work s) e → length (stepped f s e).sends ≤ 600 + 600 * led_count s + 100 * puts_of (stepped f s e).records + 2 * owed_count s
step_few f s e r =
    let a : Core = at_work s in
    let m : Moves (486 + 2 * owed_count a + 512 * led_count a) a (stepped f s e) = moves_stepped f s e r in
    let same : Same s a = record { groups = refl; sessions = refl; config = refl; me = refl; inc = refl; view = refl } in
    let owed : owed_count a ≡ owed_count s = owed_same s a same in
    let led : length (led_groups a) ≡ length (led_groups s) = ap length (led_same s a same) in
    omega (arith, m.within, owed, led, waits_led a a.groups r.waits, led_long a)
