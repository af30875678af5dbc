-- What stands for a part or an answer in a datagram.
use Rattle.std.specs.Prelude.{ℕ}
use Rattle.view_state.specs.declared.install.Part.{Part}
use Rattle.view_exchange.specs.declared.in_place.PartRef.{PartRef}
use Rattle.view_state.specs.declared.answer.Answer.{Answer}
use Rattle.view_exchange.specs.declared.answer.AnswerRef.{AnswerRef}
use Rattle.view_state.specs.Codec.{Brought}

abbrev pub part_in : PartRef → Part
part_in p = record { name = p.name.now; start = p.start; state = p.state; entries = p.entries }

abbrev pub brought_in : AnswerRef → Brought
brought_in a = record { view = a.view; parts = a.parts }

-- the answer of a node in an incarnation
abbrev pub answer_in : ℕ → ℕ → AnswerRef → Answer
answer_in node inc a = record { node = node; inc = inc; view = a.view; parts = a.parts }
