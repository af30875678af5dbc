-- What is left of a question: how it went out, and what came.
use Rattle.std.specs.Prelude.{◌≡◌, ℕ, ◌<◌, ◌≤◌, List, [], ◌∷◌, ◌++◌, length, map, Option, Some, None}
use Rattle.std.specs.Io.KnownBytes.{Keeps}
use Rattle.hags_io.specs.declared.link.LinkCall.{LinkCall}
use Rattle.hags_io.specs.Deeds.{Read, Exchanged}
use Rattle.hags_io.specs.Telling.{Telling, Did}
use Rattle.hags_io.specs.Fronts.{Went}
use Rattle.node_state.specs.declared.config.Config.{Config}
use Rattle.daemon_model.specs.Lives.{most_failed}
use Rattle.link_use.specs.declared.receiving.Receiving.{Receiving}
use Rattle.link_use.specs.Receiving.{IsReceive}
use Rattle.status_client.specs.declared.question.Asking.{Asking}
use Rattle.status_client.specs.declared.question.Question.{Question}
use Rattle.status_client.specs.declared.waiting.Waiting.{Waiting}
use Rattle.status_client.specs.Question.{number_at, question_at, question_call}
use Rattle.status_client.specs.Waiting.{heard, heard_all, answer_by, GoesOn}

-- nothing was written
abbrev pub IsUnwritten : Telling → Telling → Type 0
IsUnwritten old new = Keeps old.held new.held

-- ---- receives

-- a receive, and the text of the answer if it completes it
pub record Hears (r s : Waiting) (text : Option (List ℕ)) (old new : Telling) : Type 0 where
  pub got : LinkCall
  pub receive : IsReceive got
  pub told : Did old new (Exchanged got ∷ [])
  pub answer : text ≡ answer_by r.question r.receiving got
  pub is : s.receiving ≡ heard r.receiving got
  pub same : s.question ≡ r.question

-- so many receives, and no answer, nor sixteen in a row that failed
pub record WaitsOn (r s : Waiting) (count : ℕ) (old new : Telling) : Type 0 where
  pub gots : List LinkCall
  pub told : Did old new (map Exchanged gots)
  pub so_many : length gots ≡ count
  pub waits : GoesOn r.question r.receiving gots
  pub is : s.receiving ≡ heard_all r.receiving gots
  pub same : s.question ≡ r.question

-- the last of at most so many receives completed the answer, which is this text
pub record Answered (question : Question) (turns : ℕ) (r : Receiving) (text : List ℕ) (old new : Telling) : Type 0 where
  pub before : List LinkCall
  pub last : LinkCall
  pub told : Did old new (map Exchanged (before ++ last ∷ []))
  pub at_most : length before < turns
  pub waits : GoesOn question r before
  pub receive : IsReceive last
  pub answer : Some text ≡ answer_by question (heard_all r before) last

-- so many receives, and no answer
pub record Unanswered (question : Question) (turns : ℕ) (r : Receiving) (old new : Telling) : Type 0 where
  pub gots : List LinkCall
  pub told : Did old new (map Exchanged gots)
  pub so_many : length gots ≡ turns
  pub waits : GoesOn question r gots

-- the last of at most so many receives was the sixteenth in a row that failed, and no answer came
pub record Failing (question : Question) (turns : ℕ) (r : Receiving) (old new : Telling) : Type 0 where
  pub before : List LinkCall
  pub last : LinkCall
  pub told : Did old new (map Exchanged (before ++ last ∷ []))
  pub at_most : length before < turns
  pub waits : GoesOn question r before
  pub receive : IsReceive last
  pub unanswered : None ≡ answer_by question (heard_all r before) last
  pub failed : most_failed ≤ (heard (heard_all r before) last).failed

-- ---- the whole

-- the clock was read once, and the question of that moment went out; then this
pub record Asked (c : Config) (asking : Asking) (old : Telling) (P : Question → Telling → Type 0) : Type 0 where
  pub moment : ℕ
  pub sent : Telling
  pub went : Went old sent (Read moment ∷ Exchanged (question_call c asking (number_at moment)) ∷ [])
  pub then : P (question_at asking moment) sent
