-- Answers one after another.
use Rattle.std.specs.Prelude.{◌≡◌, ◌++◌, List, [], ◌∷◌}
use Rattle.rsct_packet.specs.Search.{Has}
use Rattle.view_state.specs.declared.answer.Answer.{Answer}
use Rattle.view_state.specs.declared.exchange.Exchange.{Exchange}
use Rattle.view_state.specs.Answers.{may_answer, add_answer}

-- an answer that comes
abbrev pub added : Exchange → Answer → Exchange
added x a = add_answer x a (may_answer x a.node)

abbrev pub all_added : Exchange → List Answer → Exchange
all_added x [] = x
all_added x (a ∷ given) = all_added (added x a) given

-- an answer that comes after another of its node changes nothing, then or later
abbrev pub FirstsCount : Type 0
FirstsCount =
    (x : Exchange) (given bs : List Answer) (a b : Answer) → Has a given → a.node ≡ b.node → all_added x (given ++ b ∷ bs) ≡ all_added x (given ++ bs)
