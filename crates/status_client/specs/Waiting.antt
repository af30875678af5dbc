-- What a status client receives, one receive after the other.
use Rattle.std.specs.Prelude.{◌≡◌, ℕ, ◌<◌, List, [], ◌∷◌, fold, Option, None}
use Rattle.hags_io.specs.declared.link.LinkCall.{LinkCall}
use Rattle.daemon_model.specs.Daemon.{joined_by}
use Rattle.daemon_model.specs.Lives.{most_failed}
use Rattle.link_use.specs.declared.receiving.Receiving.{Receiving}
use Rattle.link_use.specs.Receiving.{IsReceive, received_by}
use Rattle.status_client.specs.declared.question.Question.{Question}
use Rattle.status_client.specs.Question.{answer_of}

abbrev pub heard : Receiving → LinkCall → Receiving
heard r got = received_by got r

unfoldable pub heard_all : Receiving → List LinkCall → Receiving
heard_all r gots = fold heard r gots

-- the text of the answer, where this receive completes it
unfoldable pub answer_by : Question → Receiving → LinkCall → Option (List ℕ)
answer_by question r got = answer_of question (joined_by got r.joiner).message

-- all are receives; none of them completes the answer, and none is the sixteenth in a row that fails
abbrev pub GoesOn : Question → Receiving → List LinkCall → Type 0
GoesOn question r [] = Unit {0}
GoesOn question r (got ∷ gots) =
    IsReceive got × (answer_by question r got ≡ None) × ((heard r got).failed < most_failed) × GoesOn question (heard r got) gots
