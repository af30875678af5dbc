-- A daemon that is asked about itself, and a message that asks nothing of the kind.
use Rattle.std.proofs.Common.{◌≡◌, ℕ, List, [], ◌++◌, Option, Some, None, refl, sym, ◌∙◌, ap, ap₂, subst, append-nil}
use Rattle.hags_io.specs.Telling.{Telling}
use Rattle.node_state.specs.declared.happened.Happened.{Happened}
use Rattle.node_state.specs.HandOn.{Answering}
use Rattle.self_questions.specs.declared.messages.SelfWhat.{SelfWhat}
use Rattle.self_questions.specs.declared.messages.SelfWhat.TheVariants.{Hagscl, Hagsd}
use Rattle.self_questions.specs.declared.messages.SelfQuestion.{SelfQuestion}
use Rattle.self_questions.specs.Messages.{question_of, reply_text}
use Rattle.daemon_model.specs.Sent.{Exchange}
use Rattle.daemon_model.specs.Daemon.{Daemon, sent_back, self_text, told_itself, asked, given_on}
use Rattle.daemon_model.specs.Doings.{MadeFront}
use Rattle.daemon_model.proofs.AddLaws.{since_is}
use Rattle.daemon_run.specs.Hosting.{Known}
use Rattle.daemon_run.specs.declared.hosted.Hosted.{Hosted}
use Rattle.daemon_run.specs.declared.running.Running.{Running}
use Rattle.daemon_run.specs.Audience.{Audience, AskedHands, GivenHands}
use Rattle.daemon_run.specs.Doing.{daemon_of, Goes, Breaks, Passes, Attends, down_exchanges, Sends, SendsFront, brought_on, BroughtOnHands, BringsAs, BringBreaks, BringFails, reply_in, GivesAs, GiveBreaks, GiveFails}
use Rattle.daemon_run.proofs.GoesLaws.{goes_as, breaks_as, fails_as}
use Rattle.daemon_run.proofs.StepLaws.{silent}

module _ {C : Type 0} where
  -- ---- a question about the daemon itself

  -- what it says of itself does not hang on what it did up to now, but for its counts
  text_same : (r : Running C) (w : SelfWhat) (before : List Exchange) (noted : List Happened) → self_text w (daemon_of r before noted) ≡ self_text w (daemon_of r [] [])
  unfolding self_text
  text_same r Hagscl before noted = refl
  text_same r Hagsd before noted = refl

  asked_is : (r : Running C) (q : SelfQuestion) (network : ℕ) (message : List ℕ) (f : Answering) → Some q ≡ question_of message → (before : List Exchange) (noted : List Happened)
      → given_on network (Some message) f (daemon_of r before noted) ≡ sent_back network (reply_in r q) (daemon_of r before noted)
  unfolding given_on asked told_itself
  asked_is r q network message f is before noted =
      ap (λ (o : Option SelfQuestion). asked o network message f (daemon_of r before noted)) (sym is) ∙ ap (λ text. sent_back network (reply_text q text) (daemon_of r before noted)) (text_same r q.what before noted)

  back_goes : (r s : Running C) (network : ℕ) (message : List ℕ) (t u : Telling) → Sends r s t u network message → Goes r s t u (sent_back network message)
  back_goes r s network message t u h = record {
    calls = down_exchanges r network message;
    records = [];
    is = λ before noted. ap₂ (λ (x : Running C) (q : List Happened). daemon_of x (before ++ down_exchanges r network message) q) (sym h.is) (sym (append-nil noted));
    made = h.made;
  }

  back_breaks : (r : Running C) (network : ℕ) (message : List ℕ) (t u : Telling) → SendsFront r t u network message → Breaks r t u (sent_back network message)
  back_breaks r network message t u h before noted =
      subst (MadeFront t u) (sym (since_is (daemon_of r before noted) (sent_back network message (daemon_of r before noted)) (down_exchanges r network message) [] refl (sym (append-nil noted)))) h

  pub asked_done : {A : Known → List (Hosted C) → Audience → Type 0} (r s : Running C) (q : SelfQuestion) (network : ℕ) (message : List ℕ) (t u : Telling) → Some q ≡ question_of message → Sends r s t u network (reply_in r q) → GivesAs A r s t u network message
  asked_done {A = A} r s q network message t u is h = record {
    answers = silent;
    goes = goes_as r r s t u (given_on network (Some message) silent) (sent_back network (reply_in r q)) (asked_is r q network message silent is) (back_goes r s network (reply_in r q) t u h);
    attends = λ before noted z.
        (z, subst (λ (o : Option SelfQuestion). AskedHands o message silent (daemon_of r before noted) z z) is refl, λ known held. subst (λ (x : Running C). A known x.node.clients z) (sym h.is) held);
  }

  pub asked_broke : (r : Running C) (q : SelfQuestion) (network : ℕ) (message : List ℕ) (t u : Telling) → Some q ≡ question_of message → SendsFront r t u network (reply_in r q) → GiveBreaks r t u network message
  asked_broke r q network message t u is h = record {
    answers = silent;
    breaks = breaks_as r r t u (given_on network (Some message) silent) (sent_back network (reply_in r q)) (asked_is r q network message silent is) (back_breaks r network (reply_in r q) t u h);
  }

  -- ---- any other message

  other_is : (r : Running C) (network : ℕ) (message : List ℕ) (f : Answering) → None ≡ question_of message → (before : List Exchange) (noted : List Happened) → given_on network (Some message) f (daemon_of r before noted) ≡ brought_on network message f (daemon_of r before noted)
  unfolding given_on asked
  other_is r network message f is before noted = ap (λ (o : Option SelfQuestion). asked o network message f (daemon_of r before noted)) (sym is)

  other_hands : (A : Known → List (Hosted C) → Audience → Type 0) (r s : Running C) (message : List ℕ) (f : Answering) → None ≡ question_of message → Attends A A r s (BroughtOnHands message f) → Attends A A r s (GivenHands (Some message) f)
  other_hands A r s message f is h before noted z =
      let a : (v : Audience) × BroughtOnHands message f (daemon_of r before noted) z v × Passes A A r.node.clients s.node.clients z v = h before noted z in
      (a.0, subst (λ (o : Option SelfQuestion). AskedHands o message f (daemon_of r before noted) z a.0) is a.1, a.2)

  pub other_done : {A : Known → List (Hosted C) → Audience → Type 0} (r s : Running C) (network : ℕ) (message : List ℕ) (t u : Telling) → None ≡ question_of message → BringsAs A r s t u network message → GivesAs A r s t u network message
  other_done {A = A} r s network message t u is h = record {
    answers = h.answers;
    goes = goes_as r r s t u (given_on network (Some message) h.answers) (brought_on network message h.answers) (other_is r network message h.answers is) h.goes;
    attends = other_hands A r s message h.answers is h.attends;
  }

  pub other_broke : (r : Running C) (network : ℕ) (message : List ℕ) (t u : Telling) → None ≡ question_of message → BringBreaks r t u network message → GiveBreaks r t u network message
  other_broke r network message t u is h = record {
    answers = h.answers;
    breaks = breaks_as r r t u (given_on network (Some message) h.answers) (brought_on network message h.answers) (other_is r network message h.answers is) h.breaks;
  }

  pub other_fails : {A : Known → List (Hosted C) → Audience → Type 0} (r s : Running C) (network : ℕ) (message : List ℕ) (t u : Telling) → None ≡ question_of message → BringFails A r s t u network message → GiveFails A r s t u network message
  other_fails {A = A} r s network message t u is h = record {
    answers = h.answers;
    fails = fails_as r r s t u (given_on network (Some message) h.answers) (brought_on network message h.answers) (other_is r network message h.answers is) h.fails;
    attends = other_hands A r s message h.answers is h.attends;
  }
