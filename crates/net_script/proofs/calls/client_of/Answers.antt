-- The client of a word, or of `-`.
use Rattle.std.proofs.Common.{sym, ◌∙◌}
use Rattle.std.proofs.lemmas.Result.{IfOk-weaker}
use Rattle.net_script.proofs.CallLaws.{said_by_word, said_without_word}
use Rattle.net_script.proofs.calls.client_of.Goals.{in-Some, in-None}
use Rattle.net_script.proofs.calls.client_of.Goals as goal

pub returns-clause-votes : goal.returns-clause-votes
returns-clause-votes g c =
    elim c.match-branch-2.branch [
      | in-Some w ↦ rw w.result-is (IfOk-weaker w.made_of.result _ _ (λ x made. said_by_word g.C.Callbacks.script g.C.Made.script_of x c.args.votes.now _ (sym w.in-Some.is ∙ c.in_ok-votes_word.ensures) made.1) w.made_of.ensures)
      | in-None w ↦ rw w.result-is (IfOk-weaker w.made_of-in-None.result _ _ (λ x made. said_without_word g.C.Callbacks.script g.C.Made.script_of x c.args.votes.now (sym w.in-None.is ∙ c.in_ok-votes_word.ensures) made.1) w.made_of-in-None.ensures)
    ]
