-- What a daemon does beside ticks leaves the moment of its last tick.
use Rattle.std.proofs.Common.{◌≡◌, ℕ, ◌+◌, Bool, true, false, List, [], ◌∷◌, ◌++◌, Option, Some, None, refl, sym, ap, subst, ◌∙◌}
use Rattle.std.specs.Prelude.{nat_le, if◌then◌else◌}
use Rattle.hags_io.specs.declared.link.LinkCall.{LinkCall}
use Rattle.node_state.specs.declared.call.CallLine.{CallLine}
use Rattle.node_state.specs.HandOn.{Answering}
use Rattle.remote_session.specs.Daemon.{SeenUp, NotUp, EndedKey, KeysFull, KnownKey, CallMade}
use Rattle.self_questions.specs.declared.messages.SelfQuestion.{SelfQuestion}
use Rattle.self_questions.specs.Messages.{question_of}
use Rattle.daemon_model.specs.Daemon.{Daemon, left_for, stepped_for, opened, is_due, ticked_if, joined_by, received, given, call_in, with_up, line_carried, called_by, down_sent, up_in, brought, told_itself, asked, given_on, network_of, heard, goodbye_in, goodbye_said, key_over, mended}
use Rattle.daemon_model.specs.Actions.{Action, Opens, Ticks, EndsKey, Mends, Hears, did}
use Rattle.tick_laws.specs.Ticks.{ticks_at, ticks_in, reads_in, taken_from, AreApart, TicksAlwaysAreDue}
use Rattle.tick_laws.proofs.Due.{passed, taken_apart, apart_long}

carried_last : (key : ℕ) (o : Option CallLine) (f : Answering) (d : Daemon) → (line_carried key o f d).last ≡ d.last
unfolding left_for
carried_last key None f d = refl
carried_last key (Some a) f d = refl

brought_last : (up : SeenUp) (network : ℕ) (message : List ℕ) (f : Answering) (d : Daemon) → (brought up network message f d).last ≡ d.last
unfolding brought given stepped_for left_for down_sent called_by
brought_last NotUp network message f d = refl
brought_last (EndedKey key) network message f d = refl
brought_last (KeysFull key limit) network message f d = refl
brought_last (KnownKey key) network message f d = refl
brought_last (CallMade key line) network message f d = carried_last key (call_in (with_up message d).sessions d.me key line) f (with_up message d)

asked_last : (o : Option SelfQuestion) (network : ℕ) (message : List ℕ) (f : Answering) (d : Daemon) → (asked o network message f d).last ≡ d.last
unfolding asked told_itself
asked_last None network message f d = brought_last (up_in d.sessions message) network message f d
asked_last (Some q) network message f d = refl

given_last : (network : ℕ) (o : Option (List ℕ)) (f : Answering) (d : Daemon) → (given_on network o f d).last ≡ d.last
unfolding given_on
given_last network None f d = refl
given_last network (Some message) f d = asked_last (question_of message) network message f d

heard_last : (got : LinkCall) (f : Answering) (d : Daemon) → (heard got f d).last ≡ d.last
unfolding heard received
heard_last got f d = given_last (network_of got) (joined_by got d.joining).message f (received got d)

goodbye_last : (key : ℕ) (o : Option CallLine) (f : Answering) (d : Daemon) → (goodbye_said key o f d).last ≡ d.last
unfolding left_for
goodbye_last key None f d = refl
goodbye_last key (Some a) f d = refl

over_last : (key : ℕ) (f : Answering) (d : Daemon) → (key_over key f d).last ≡ d.last
unfolding key_over
over_last key f d = goodbye_last key (goodbye_in d.sessions key) f d

ticked_last : (b : Bool) (moment : ℕ) (f : Answering) (d : Daemon) → (ticked_if b moment f d).last ≡ (if b then moment else d.last)
unfolding stepped_for left_for
ticked_last true moment f d = refl
ticked_last false moment f d = refl

just_from : (d : Daemon) (last : ℕ) (acts : List Action) → d.last ≡ last → ticks_in d acts ≡ taken_from last (reads_in acts)
unfolding did opened mended stepped_for left_for
just_from d last [] e = refl
just_from d last (Opens o ∷ acts) e = just_from (opened d o) last acts e
just_from d last (Mends f ∷ acts) e = just_from (mended f d) last acts e
just_from d last (EndsKey key f ∷ acts) e = just_from (key_over key f d) last acts (over_last key f d ∙ e)
just_from d last (Hears got f ∷ acts) e = just_from (heard got f d) last acts (heard_last got f d ∙ e)
just_from d last (Ticks moment f ∷ acts) e =
    by (is_due d.last moment) (ap (λ (n : ℕ). is_due n moment) e ∙ passed last moment) (just_from (ticked_if true moment f d) moment acts (ticked_last true moment f d)) (just_from d last acts e)
  where
    by : (b : Bool) → b ≡ nat_le (last + 100) moment → ticks_in (ticked_if true moment f d) acts ≡ taken_from moment (reads_in acts) → ticks_in d acts ≡ taken_from last (reads_in acts) → ticks_at b moment ++ ticks_in (ticked_if b moment f d) acts ≡ (if nat_le (last + 100) moment then moment ∷ taken_from moment (reads_in acts) else taken_from last (reads_in acts))
    by true k taken over =
        ap (λ (ms : List ℕ). moment ∷ ms) taken
        ∙ ap (λ (b : Bool). if b then moment ∷ taken_from moment (reads_in acts) else taken_from last (reads_in acts)) k
    by false k taken over =
        over ∙ ap (λ (b : Bool). if b then moment ∷ taken_from moment (reads_in acts) else taken_from last (reads_in acts)) k

pub ticks_are_due : TicksAlwaysAreDue
ticks_are_due d acts =
    let just : ticks_in d acts ≡ taken_from d.last (reads_in acts) = just_from d d.last acts refl in
    let apart : AreApart d.last (ticks_in d acts) = subst (AreApart d.last) (sym just) (taken_apart d.last (reads_in acts)) in
    record { just = just; apart = apart; long = apart_long d.last (ticks_in d acts) apart }
