-- A question over a link: how it is opened, asked and answered.
use Rattle.std.proofs.Common.{◌≡◌, ℕ, ◌+◌, ◌≤◌, Bool, true, List, [], ◌∷◌, ◌++◌, map, refl, sym, ◌∙◌, ap, subst, arith}
use Rattle.hags_io.specs.declared.link.LinkCall.{LinkCall}
use Rattle.hags_io.specs.declared.link.LinkCall.TheVariants as call
use Rattle.hags_io.specs.Deeds.{Deed, Read, Exchanged}
use Rattle.hags_io.specs.Edges.{Rose}
use Rattle.hags_io.specs.Telling.{Telling, Did, link_failure, link_failures, Rises}
use Rattle.hags_io.specs.Fronts.{Went}
use Rattle.hags_io.proofs.FrontLaws.{went_as, went_on}
use Rattle.piece_link.specs.Pieces.{head_text}
use Rattle.packet_bodies.specs.declared.body.What.{What}
use Rattle.node_state.specs.declared.config.Config.{Config}
use Rattle.node_state.specs.declared.packet.Packet.{Packet}
use Rattle.node_state.specs.Bytes.{bytes_of}
use Rattle.node_state.specs.Settings.{shared_network}
use Rattle.self_questions.specs.declared.messages.SelfWhat.{SelfWhat}
use Rattle.self_questions.specs.declared.messages.SelfQuestion.{SelfQuestion}
use Rattle.self_questions.specs.Messages.{question_text}
use Rattle.daemon_model.specs.Sent.{packet_calls, message_calls}
use Rattle.daemon_model.specs.Daemon.{failed_by}
use Rattle.daemon_model.specs.Lives.{most_failed}
use Rattle.daemon_model.specs.Opens.{all_opens}
use Rattle.daemon_model.specs.Settings.{openings}
use Rattle.link_use.specs.declared.receiving.Receiving.{Receiving}
use Rattle.link_use.specs.Receiving.{IsReceive, nothing_received}
use Rattle.status_client.specs.declared.question.Subject.{Subject}
use Rattle.status_client.specs.declared.question.Subject.TheVariants as subject
use Rattle.status_client.specs.declared.question.Asking.{Asking}
use Rattle.status_client.specs.declared.question.Question.{Question}
use Rattle.status_client.specs.Question.{number_at, question_at, query_packet, self_question, message_about, question_head, question_piece, question_call}
use Rattle.status_client.specs.Waiting.{heard_all}
use Rattle.status_client.specs.Asked.{Answered, Unanswered, Failing, Asked}

-- ---- a question is short, so that it goes out in one piece

sent_piece : Config → ℕ → List ℕ → LinkCall
sent_piece c node message = call.Sent node (shared_network c node node) (head_text question_head ++ message) true

query_piece : (c : Config) (node : ℕ) (what : What) (number : ℕ) → packet_calls 0 0 1 (query_packet c node what number) ≡ sent_piece c node (bytes_of (query_packet c node what number)) ∷ []
unfolding all_opens query_packet sent_piece
query_piece c node what number = refl

self_question_piece : (c : Config) (node : ℕ) (q : SelfQuestion) → message_calls 0 0 1 node (shared_network c node node) (question_text q) ≡ sent_piece c node (question_text q) ∷ []
unfolding all_opens question_text sent_piece
self_question_piece c node q = refl

-- the call of a question is that of a piece with its message
call_of : (c : Config) (asking : Asking) (about : Subject) (number : ℕ) → asking.subject ≡ about → sent_piece c asking.node (message_about c asking.node about number) ≡ question_call c asking number
unfolding question_piece question_call sent_piece
call_of c asking about number e = ap (λ (s : Subject). call.Sent asking.node (shared_network c asking.node asking.node) (head_text question_head ++ message_about c asking.node s number) true) (sym e)

pub query_went : (c : Config) (asking : Asking) (what : What) (number : ℕ) (q : Packet) (t u : Telling) → asking.subject ≡ subject.Node what → q ≡ query_packet c asking.node what number → Went t u (map Exchanged (packet_calls 0 0 1 q)) → Went t u (Exchanged (question_call c asking number) ∷ [])
query_went c asking what number q t u about is w =
    let calls : packet_calls 0 0 1 q ≡ question_call c asking number ∷ [] = ap (packet_calls 0 0 1) is ∙ (query_piece c asking.node what number ∙ ap (λ (x : LinkCall). x ∷ []) (call_of c asking (subject.Node what) number about)) in
    subst (λ cs. Went t u (map Exchanged cs)) calls w

pub self_question_went : (c : Config) (asking : Asking) (what : SelfWhat) (number network : ℕ) (message : List ℕ) (t u : Telling) → asking.subject ≡ subject.Daemon what → network ≡ shared_network c asking.node asking.node → message ≡ question_text (self_question what number)
    → Went t u (map Exchanged (message_calls 0 0 1 asking.node network message)) → Went t u (Exchanged (question_call c asking number) ∷ [])
self_question_went c asking what number network message t u about over is w =
    let to : message_calls 0 0 1 asking.node network message ≡ message_calls 0 0 1 asking.node (shared_network c asking.node asking.node) (question_text (self_question what number)) =
    ap (λ (n : ℕ). message_calls 0 0 1 asking.node n message) over ∙ ap (message_calls 0 0 1 asking.node (shared_network c asking.node asking.node)) is in
    let calls : message_calls 0 0 1 asking.node network message ≡ question_call c asking number ∷ [] =
    to ∙ (self_question_piece c asking.node (self_question what number) ∙ ap (λ (x : LinkCall). x ∷ []) (call_of c asking (subject.Daemon what) number about)) in
    subst (λ cs. Went t u (map Exchanged cs)) calls w

-- ---- a question, and then this

-- from the moment's question on
asked : (P : Question → Receiving → Telling → Type 0) (c : Config) (asking : Asking) (moment number : ℕ) (w : Receiving) (t u v : Telling) → Did t u (Read moment ∷ []) → number ≡ number_at moment → Went u v (Exchanged (question_call c asking number) ∷ [])
    → w ≡ nothing_received → P (record { subject = asking.subject; number = number }) w v → Asked c asking t (λ q sent. P q nothing_received sent)
asked P c asking moment number w t u v at is went start h = record {
  moment = moment;
  sent = v;
  went = went_on t u v (Read moment ∷ []) (Exchanged (question_call c asking (number_at moment)) ∷ []) (went_as t u (Read moment) (Read moment) refl at) (subst (λ (n : ℕ). Went u v (Exchanged (question_call c asking n) ∷ [])) is went);
  then = subst (λ (n : ℕ). P (record { subject = asking.subject; number = n }) nothing_received v) is (subst (λ (x : Receiving). P (record { subject = asking.subject; number = number }) x v) start h);
}

module _ (c : Config) (asking : Asking) (moment number : ℕ) (w : Receiving) (t u v x : Telling) (at : Did t u (Read moment ∷ [])) (is : number ≡ number_at moment) (went : Went u v (Exchanged (question_call c asking number) ∷ [])) (start : w ≡ nothing_received) where
  pub asked_answered : (text : List ℕ) → Answered (record { subject = asking.subject; number = number }) asking.turns w text v x → Asked c asking t (λ q sent. Answered q asking.turns nothing_received text sent x)
  asked_answered text h = asked (λ q r sent. Answered q asking.turns r text sent x) c asking moment number w t u v at is went start h

  pub asked_unanswered : Unanswered (record { subject = asking.subject; number = number }) asking.turns w v x → Asked c asking t (λ q sent. Unanswered q asking.turns nothing_received sent x)
  asked_unanswered h = asked (λ q r sent. Unanswered q asking.turns r sent x) c asking moment number w t u v at is went start h

  pub asked_failing : Failing (record { subject = asking.subject; number = number }) asking.turns w v x → Asked c asking t (λ q sent. Failing q asking.turns nothing_received sent x)
  asked_failing h = asked (λ q r sent. Failing q asking.turns r sent x) c asking moment number w t u v at is went start h

-- ---- the sixteenth receive that failed

failed_last : (got : LinkCall) (n : ℕ) → IsReceive got → most_failed ≤ failed_by got n → 1 ≤ link_failure (Exchanged got)
failed_last (call.Received k b) n r h = absurd (omega arith)
failed_last call.Quiet n r h = absurd (omega arith)
failed_last call.Failed n r h = omega arith
failed_last (call.Sent a k b o) n r h = absurd r

some_failed : (before : List LinkCall) (last : LinkCall) → 1 ≤ link_failure (Exchanged last) → 1 ≤ link_failures (map Exchanged (before ++ last ∷ []))
some_failed [] last h = omega arith
some_failed (c ∷ before) last h = let r : 1 ≤ link_failures (map Exchanged (before ++ last ∷ [])) = some_failed before last h in omega arith

rises_in : (t u : Telling) (ds : List Deed) → Did t u ds → 1 ≤ link_failures ds → Rose t.link_faults u.link_faults
rises_in t u ds h one = let r : Rises t.link_faults u.link_faults (link_failures ds) = h.link_faults in omega arith

later : (t u v : Telling) (ds : List Deed) → Did t u ds → Rose u.link_faults v.link_faults → Rose t.link_faults v.link_faults
later t u v ds h rose = let r : Rises t.link_faults u.link_faults (link_failures ds) = h.link_faults in omega arith

pub rose_failing : (c : Config) (port : ℕ) (done : Bool) (asking : Asking) (t u v : Telling) → Did t u (openings c port done) → Asked c asking u (λ question sent. Failing question asking.turns nothing_received sent v) → Rose t.link_faults v.link_faults
rose_failing c port done asking t u v h a =
    let f : Failing (question_at asking a.moment) asking.turns nothing_received a.sent v = a.then in
    let one : 1 ≤ link_failure (Exchanged f.last) = failed_last f.last (heard_all nothing_received f.before).failed f.receive f.failed in
    let rose : Rose a.sent.link_faults v.link_faults = rises_in a.sent v (map Exchanged (f.before ++ f.last ∷ [])) f.told (some_failed f.before f.last one) in
    later t u v (openings c port done) h (later u a.sent v a.went.deeds a.went.told rose)
