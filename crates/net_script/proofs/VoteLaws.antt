-- What clients answer that vote by the scripts of a world.
use Rattle.std.proofs.Common.{◌≡◌, ℕ, zero, suc, Bool, true, false, List, [], ◌∷◌, Option, Some, None, refl, sym, ap, ◌∙◌, subst, arith}
use Rattle.std.specs.Prelude.{slice_get}
use Rattle.std.specs.Option.{option_map, option_flatten}
use Rattle.std.proofs.lemmas.Option.{slice_get-map}
use Rattle.proposal_core.specs.declared.entry.Entry.{Entry}
use Rattle.proposal_core.specs.declared.group_state.GroupState.{GroupState}
use Rattle.rsct_packet.specs.declared.ids.ProviderId.{ProviderId}
use Rattle.client_callbacks.specs.declared.ballot.Filled.{Filled}
use Rattle.client_callbacks.specs.declared.votes.VoteItem.{VoteItem}
use Rattle.client_callbacks.specs.Ballots.{BallotView, new_ballot}
use Rattle.client_callbacks.specs.Handed.{item_at, filled_by, voted_by}
use Rattle.session_state.specs.declared.state.Session.{Session}
use Rattle.session_state.specs.declared.state.SessionState.{SessionState}
use Rattle.session_state.specs.State.{place_of}
use Rattle.session_state.specs.HandOn.{asks}
use Rattle.session_clients.specs.Notices.{AreScripted, Filling, FillTheirScripts, script_for, filled_in, scripted}
use Rattle.node_state.specs.HandOn.{answer_if}
use Rattle.entry_delivery.specs.Doing.{Question, AnswersAs, Agrees, AreFilled}
use Rattle.world_model.specs.World.{Script, items_in, session_at, items_of, by_scripts}
use Rattle.net_script.specs.Standing.{silent_or, votes_by, votes_in}

-- without items nothing is filled
none_votes : (after : GroupState) (b : BallotView) → (voted_by [] after b).filled ≡ b.filled
unfolding voted_by filled_by item_at
none_votes after b = refl

silent_at : (k : ℕ) → option_flatten (slice_get (silent_or []) k) ≡ None
silent_at zero = refl
silent_at (suc k) = refl

-- nor by one that is silent
silent_votes : (items : List (Option VoteItem)) (after : GroupState) (b : BallotView) → (voted_by (silent_or items) after b).filled ≡ (voted_by items after b).filled
unfolding voted_by filled_by item_at
silent_votes [] after b = ap (λ o. (filled_by o b).filled) (silent_at _)
silent_votes (i ∷ is) after b = refl

all_scripted : (scripts : List Script) (xs : List Session) → AreScripted (votes_in Some scripts xs)
all_scripted scripts [] i d lt = absurd (omega (arith, lt))
all_scripted scripts (x ∷ xs) zero d lt = refl
all_scripted scripts (x ∷ xs) (suc i) d lt = all_scripted scripts xs i d (omega (arith, lt))

-- the client of a session fills what its script says
fills_as : (scripts : List Script) (x : Option Session) (after : GroupState) (level : ℕ) → filled_in (option_map (votes_by Some scripts) x) after (new_ballot true level) ≡ (voted_by (items_in scripts x) after (new_ballot true level)).filled
fills_as scripts None after level = sym (none_votes after (new_ballot true level))
fills_as scripts (Some x) after level = silent_votes (items_in scripts (Some x)) after (new_ballot true level)

script_at : (scripts : List Script) (s : SessionState) (place : Option ℕ) → script_for (votes_in Some scripts s.sessions) place ≡ option_map (votes_by Some scripts) (session_at s place)
script_at scripts s None = refl
script_at scripts s (Some i) = slice_get-map (votes_by Some scripts) s.sessions i

answers_if : (votes : Bool) (scripts : List Script) (n : ℕ) (s : SessionState) (e : Entry) (after : GroupState) (p : ProviderId) (b : Option Filled)
    → b ≡ filled_in (script_for (votes_in Some scripts s.sessions) (place_of s p)) after (new_ballot votes s.level) → answer_if votes (by_scripts scripts n s e after p) ≡ answer_if votes b
unfolding answer_if by_scripts items_of
answers_if false scripts n s e after p b f = refl
answers_if true scripts n s e after p b f =
    sym (f ∙ (ap (λ o. filled_in o after (new_ballot true s.level)) (script_at scripts s (place_of s p)) ∙ fills_as scripts (session_at s (place_of s p)) after s.level))

head_same : {A : Type 0} (x y : A) → x ∷ [] ≡ y ∷ [] → x ≡ y
head_same x y e = cc

answers : FillTheirScripts → (scripts : List Script) (q : Question) → Filling (votes_in Some scripts q.sessions.sessions) q.sessions q.entry q.after q.provider q.filled → AnswersAs (by_scripts scripts) q
unfolding scripted
answers fill scripts q f =
    answers_if (asks q.entry q.after q.provider) scripts q.place q.sessions q.entry q.after q.provider q.filled
    (head_same q.filled _ (fill (votes_in Some scripts q.sessions.sessions) q.sessions q.entry q.after (q.provider ∷ []) (q.filled ∷ []) (all_scripted scripts q.sessions.sessions) (f, tt)))

-- clients that vote by scripts answer as the scripts say
pub scripts_agree : FillTheirScripts → (scripts : List Script) (lives : List Session) (qs : List Question) → AreFilled (votes_in Some scripts lives) lives qs → Agrees (by_scripts scripts) qs
scripts_agree fill scripts lives [] h = tt
scripts_agree fill scripts lives (q ∷ qs) h =
    (answers fill scripts q (subst (λ ss. Filling (votes_in Some scripts ss) q.sessions q.entry q.after q.provider q.filled) (sym h.0) h.1.0), scripts_agree fill scripts lives qs h.1.1)
