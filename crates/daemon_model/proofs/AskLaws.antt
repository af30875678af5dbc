-- Questions that a daemon is asked about itself.
use Rattle.std.proofs.Common.{◌≡◌, ℕ, List, Some, None, refl, ◌∙◌, ap}
use Rattle.hags_io.specs.declared.link.LinkCall.{LinkCall}
use Rattle.node_state.specs.HandOn.{Answering}
use Rattle.self_questions.specs.declared.messages.SelfQuestion.{SelfQuestion}
use Rattle.self_questions.specs.Messages.{question_of}
use Rattle.daemon_model.specs.Daemon.{Daemon, joined_by, received, up_in, brought, told_itself, asked, given_on, network_of, heard}

pub answers : (d : Daemon) (got : LinkCall) (f : Answering) (m : List ℕ) (q : SelfQuestion) → (joined_by got d.joining).message ≡ Some m → question_of m ≡ Some q → heard got f d ≡ told_itself q (network_of got) (received got d)
unfolding heard given_on asked
answers d got f m q e h =
    ap (λ o. given_on (network_of got) o f (received got d)) e ∙ ap (λ o. asked o (network_of got) m f (received got d)) h

pub core_stays : (q : SelfQuestion) (network : ℕ) (d : Daemon) → (told_itself q network d).core ≡ d.core
unfolding told_itself
core_stays q network d = refl

pub records_stay : (q : SelfQuestion) (network : ℕ) (d : Daemon) → (told_itself q network d).records ≡ d.records
unfolding told_itself
records_stay q network d = refl

pub sessions_stay : (q : SelfQuestion) (network : ℕ) (d : Daemon) → (told_itself q network d).sessions ≡ d.sessions
unfolding told_itself
sessions_stay q network d = refl

pub nothing_unasked : (network : ℕ) (m : List ℕ) (f : Answering) (d : Daemon) → question_of m ≡ None → given_on network (Some m) f d ≡ brought (up_in d.sessions m) network m f d
unfolding given_on asked
nothing_unasked network m f d h = ap (λ o. asked o network m f d) h
