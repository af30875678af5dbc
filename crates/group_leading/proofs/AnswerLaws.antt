-- Some answers agree with those of the clients: the questions' places rise, so that no two stand at one place.
use Rattle.std.proofs.Common.{◌≡◌, ℕ, ◌+◌, ◌≤◌, ◌==◌, Bool, true, false, cond, List, [], ◌∷◌, length, Option, None, refl, ap, ◌∙◌, arith, eq-eqb}
use Rattle.std.proofs.lemmas.Bool.{ne_eqb}
use Rattle.rsct_packet.specs.declared.ids.ProviderId.{ProviderId}
use Rattle.proposal_core.specs.declared.entry.Entry.{Entry}
use Rattle.proposal_core.specs.declared.group_state.GroupState.{GroupState}
use Rattle.client_callbacks.specs.declared.ballot.Filled.{Filled}
use Rattle.client_callbacks.specs.declared.votes.VoteItem.{VoteItem}
use Rattle.session_state.specs.declared.state.SessionState.{SessionState}
use Rattle.session_state.specs.HandOn.{asks}
use Rattle.node_state.specs.declared.state.Core.{Core}
use Rattle.node_state.specs.HandOn.{Answering, answer_if}
use Rattle.entry_delivery.specs.Received.{Handing}
use Rattle.entry_delivery.specs.Doing.{Question, Agrees, Rise, Does}

-- at the place of a question, what was filled there
abbrev answers_of : List Question → ℕ → SessionState → Entry → GroupState → ProviderId → Option Filled
answers_of [] n s e after p = None
answers_of (q ∷ qs) n s e after p = cond (q.place == n) q.filled (answers_of qs n s e after p)

-- answers that are the same from the questions' first place on
agrees_from : (f h : Answering) (low high : ℕ) (qs : List Question) → Rise low high qs
    → ((n : ℕ) (s : SessionState) (e : Entry) (after : GroupState) (p : ProviderId) → low ≤ n → h n s e after p ≡ f n s e after p) → Agrees f qs → Agrees h qs
agrees_from f h low high [] r same a = tt
agrees_from f h low high (q ∷ qs) r same a = (
  ap (answer_if (asks q.entry q.after q.provider)) (same q.place q.sessions q.entry q.after q.provider r.0) ∙ a.0,
  agrees_from f h (q.place + 1) high qs r.1 (λ n s e after p l. let at : low ≤ q.place = r.0 in same n s e after p (omega arith)) a.1,
)

agrees_some : (low high : ℕ) (qs : List Question) → Rise low high qs → Agrees (answers_of qs) qs
agrees_some low high [] r = tt
agrees_some low high (q ∷ qs) r =
    let here : (q.place == q.place) ≡ true = eq-eqb q.place q.place refl in (
      ap (answer_if (asks q.entry q.after q.provider)) (ap (λ (b : Bool). cond b q.filled (answers_of qs q.place q.sessions q.entry q.after q.provider)) here),
      agrees_from (answers_of qs) (answers_of (q ∷ qs)) (q.place + 1) high qs r.1
          (λ n s e after p l. let past : (q.place == n) ≡ false = ne_eqb q.place n (λ same. omega arith) in ap (λ (b : Bool). cond b q.filled (answers_of qs n s e after p)) past)
          (agrees_some (q.place + 1) high qs r.1),
    )

-- so what a row does is its definition for some answers
pub does_some : (scripts : List (Option (List (Option VoteItem)))) (P : List Handing → Type 0) (s t : Core) (row : Answering → Core) → Does scripts P s t row → (f : Answering) × (t ≡ row f)
does_some scripts P s t row d = (answers_of d.asked, d.does (answers_of d.asked) (agrees_some (length s.records) (length t.records) d.asked d.placed))
