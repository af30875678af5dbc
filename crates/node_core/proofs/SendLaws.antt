-- A step sends few packets, by what it does.
use Rattle.std.proofs.Common.{◌≡◌, List, Option, sym, subst}
use Rattle.client_callbacks.specs.declared.votes.VoteItem.{VoteItem}
use Rattle.node_state.specs.declared.state.Core.{Core}
use Rattle.node_state.specs.HandOn.{Answering}
use Rattle.node_state.specs.Step.{NodeEvent, stepped}
use Rattle.entry_delivery.specs.Received.{Handing}
use Rattle.entry_delivery.specs.Doing.{Does}
use Rattle.group_leading.proofs.AnswerLaws.{does_some}
use Rattle.send_laws.proofs.RuleLaws.{step_sends}
use Rattle.node_core.specs.Sends.{SendsFew}

pub does_few : (scripts : List (Option (List (Option VoteItem)))) (P : List Handing → Type 0) (s called t : Core) (e : NodeEvent) → Does scripts P called t (λ f. stepped f s e) → SendsFew s e t
does_few scripts P s called t e d =
    let x : (f : Answering) × (t ≡ stepped f s e) = does_some scripts P called t (λ f. stepped f s e) d in
    subst (SendsFew s e) (sym x.1) (λ ready. step_sends x.0 s e ready)
