-- Steps of a daemon's node, with what they record and send.
use Rattle.std.proofs.Common.{◌≡◌, ℕ, ◌+◌, min, length, arith, Bool, List, [], ◌++◌, Option, None, refl, sym, ◌∙◌, ap, ap₂, subst}
use Rattle.std.specs.Prelude.{option_map}
use Rattle.hags_io.specs.Telling.{Telling}
use Rattle.link_use.specs.declared.sending.Outbox.{Outbox}
use Rattle.node_state.specs.declared.happened.Happened.{Happened}
use Rattle.node_state.specs.declared.state.Core.{Core}
use Rattle.node_state.specs.HandOn.{Answering}
use Rattle.node_state.specs.declared.call.CallLine.{CallLine}
use Rattle.node_state.specs.declared.packet.Packet.{Packet}
use Rattle.node_state.specs.Step.{NodeEvent, Calls, at_work, stepped}
use Rattle.remote_clients.specs.Sessions.{is_refused}
use Rattle.remote_clients.specs.Entries.{noted_with}
use Rattle.node_core.specs.Node.{NodeView}
use Rattle.daemon_model.specs.Counts.{last_u64, sent_more}
use Rattle.daemon_model.specs.Sent.{Exchange, sent_calls, number_after}
use Rattle.daemon_model.specs.Daemon.{Daemon, left_for, stepped_for}
use Rattle.daemon_model.specs.Doings.{step_doings, since, Made, MadeFront}
use Rattle.daemon_model.proofs.AddLaws.{since_is}
use Rattle.daemon_run.specs.Hosting.{Known}
use Rattle.daemon_run.specs.declared.hosted.Hosted.{Hosted}
use Rattle.daemon_run.specs.declared.running.Running.{Running}
use Rattle.daemon_run.specs.Audience.{Audience, StepHands}
use Rattle.daemon_run.specs.Doing.{daemon_of, Passes, Goes, Breaks, WriteFails, Fails, left_doings, Settles, SettleFails, IsStep, StepsAs, StepBreaks, StepFails, CallSteps}
use Rattle.daemon_run.proofs.GoesLaws.{breaks_none, fails_as}
use Rattle.daemon_run.proofs.NodeLaws.{from_work}

-- nobody answers
pub silent : Answering
silent = λ place sessions entry after p. None

-- ---- what the node left

module _ {C : Type 0} where
  -- the packets were taken first
  pub records_left : (r : Running C) (n : NodeView (Hosted C)) (records : List Happened) → n ≡ record (r.node) { core = record (r.node.core) { sends = [] } } → records ≡ n.core.records → records ≡ r.node.core.records
  records_left r n records taken is = is ∙ ap (λ (m : NodeView (Hosted C)). m.core.records) taken

  left_same : (r : Running C) (sends : List Packet) (records : List Happened) → sends ≡ r.node.core.sends → records ≡ r.node.core.records → step_doings records (sent_calls r.outbox.me r.outbox.incarnation r.outbox.number sends) ≡ left_doings r
  left_same r sends records sent recorded = ap₂ (λ (ps : List Packet) (rs : List Happened). step_doings rs (sent_calls r.outbox.me r.outbox.incarnation r.outbox.number ps)) sent recorded

  -- its lines were written, and its packets went out
  pub left_made : (r : Running C) (sends : List Packet) (records : List Happened) (t u : Telling) → sends ≡ r.node.core.sends → records ≡ r.node.core.records → Made t u (step_doings records (sent_calls r.outbox.me r.outbox.incarnation r.outbox.number sends)) → Made t u (left_doings r)
  left_made r sends records t u sent recorded made = subst (Made t u) (left_same r sends records sent recorded) made

  -- a front of that was done
  pub left_front : (r : Running C) (sends : List Packet) (records : List Happened) (t u : Telling) → sends ≡ r.node.core.sends → records ≡ r.node.core.records → MadeFront t u (step_doings records (sent_calls r.outbox.me r.outbox.incarnation r.outbox.number sends)) → MadeFront t u (left_doings r)
  left_front r sends records t u sent recorded front = subst (MadeFront t u) (left_same r sends records sent recorded) front

  -- the write of its lines failed
  pub left_fails : (r : Running C) (n m : NodeView (Hosted C)) (o : Outbox) (sends : List Packet) (records : List Happened) (t u : Telling) → n ≡ record (r.node) { core = record (r.node.core) { sends = [] } } → m ≡ record n { core = record (n.core) { records = [] } } → sends ≡ r.node.core.sends
      → records ≡ r.node.core.records → WriteFails t u (step_doings records (sent_calls r.outbox.me r.outbox.incarnation r.outbox.number sends)) → SettleFails r (record r { node = m; outbox = o }) t u
  left_fails r n m o sends records t u taken left sent recorded h = record {
    node = left ∙ ap (λ (x : NodeView (Hosted C)). record x { core = record (x.core) { records = [] } }) taken;
    made = subst (WriteFails t u) (left_same r sends records sent recorded) h;
  }

module _ {C : Type 0} (calling : Option ℕ) where
  -- what was sent is counted
  counted_up : (r : Running C) (count k : ℕ) (sends : List Packet) → sends ≡ r.node.core.sends → count ≡ sent_more 0 (sent_calls r.outbox.me r.outbox.incarnation r.outbox.number sends) → k ≡ min (r.sent + count) last_u64 → k ≡ sent_more r.sent (sent_calls r.outbox.me r.outbox.incarnation r.outbox.number r.node.core.sends)
  counted_up r count k sends sent so_many more =
      let all : k ≡ min (r.sent + length (sent_calls r.outbox.me r.outbox.incarnation r.outbox.number sends)) last_u64 = omega (arith, so_many, more) in
      all ∙ ap (λ (ps : List Packet). sent_more r.sent (sent_calls r.outbox.me r.outbox.incarnation r.outbox.number ps)) sent

  -- and the lines came to who is to hear them
  pub settles : (r s : Running C) (n m : NodeView (Hosted C)) (o : Outbox) (count k : ℕ) (sends : List Packet) (records : List Happened) (t u : Telling) → n ≡ record (r.node) { core = record (r.node.core) { sends = [] } } → m ≡ record n { core = record (n.core) { records = [] } }
      → sends ≡ r.node.core.sends → records ≡ r.node.core.records → o ≡ record (r.outbox) { number = number_after r.outbox.number sends } → count ≡ sent_more 0 (sent_calls r.outbox.me r.outbox.incarnation r.outbox.number sends) → k ≡ min (r.sent + count) last_u64 → s ≡ record r { node = m; outbox = o; sent = k; sessions = option_map (noted_with r.entries calling records) r.sessions } → Made t u (left_doings r)
      → Settles calling r s t u
  settles r s n m o count k sends records t u taken left sent recorded number so_many more is made = record {
    is =
        is
        ∙ (ap (λ (x : NodeView (Hosted C)). record r { node = x; outbox = o; sent = k; sessions = option_map (noted_with r.entries calling records) r.sessions }) (left ∙ ap (λ (x : NodeView (Hosted C)). record x { core = record (x.core) { records = [] } }) taken)
        ∙ (ap (λ (x : Outbox). record r { node = record (r.node) { core = at_work r.node.core }; outbox = x; sent = k; sessions = option_map (noted_with r.entries calling records) r.sessions }) (number ∙ ap (λ (ps : List Packet). record (r.outbox) { number = number_after r.outbox.number ps }) sent)
        ∙ (ap (λ (c : ℕ). record r { node = record (r.node) { core = at_work r.node.core }; outbox = record (r.outbox) { number = number_after r.outbox.number r.node.core.sends }; sent = c; sessions = option_map (noted_with r.entries calling records) r.sessions }) (counted_up r count k sends sent so_many more)
        ∙ ap (λ (rs : List Happened). record r { node = record (r.node) { core = at_work r.node.core }; outbox = record (r.outbox) { number = number_after r.outbox.number r.node.core.sends }; sent = sent_more r.sent (sent_calls r.outbox.me r.outbox.incarnation r.outbox.number r.node.core.sends); sessions = option_map (noted_with r.entries calling rs) r.sessions }) recorded)));
    made = made;
  }

  step_is : (r : Running C) (f : Answering) (c : Core) (e : NodeEvent) (before : List Exchange) (noted : List Happened) → c ≡ stepped f r.node.core e
      → stepped_for calling f e (daemon_of r before noted) ≡ left_for calling (daemon_of r before noted) c
  unfolding stepped_for
  step_is r f c e before noted h = ap (left_for calling (daemon_of r before noted)) (from_work f r.node.core e ∙ sym h)

  pub settled_is : (r s : Running C) (t u : Telling) → Settles calling r s t u → (before : List Exchange) (noted : List Happened)
      → left_for calling (daemon_of r before noted) r.node.core ≡ daemon_of s (before ++ sent_calls r.outbox.me r.outbox.incarnation r.outbox.number r.node.core.sends) (noted ++ r.node.core.records)
  unfolding left_for
  settled_is r s t u h before noted = ap (λ (q : Running C). daemon_of q (before ++ sent_calls r.outbox.me r.outbox.incarnation r.outbox.number r.node.core.sends) (noted ++ r.node.core.records)) (sym h.is)

  pub settled_goes : (r s : Running C) (t u : Telling) → Settles calling r s t u → Goes r s t u (λ d. left_for calling d r.node.core)
  settled_goes r s t u h = record {
    calls = sent_calls r.outbox.me r.outbox.incarnation r.outbox.number r.node.core.sends;
    records = r.node.core.records;
    is = settled_is r s t u h;
    made = h.made;
  }

  pub settled_breaks : (r : Running C) (t u : Telling) → MadeFront t u (left_doings r) → Breaks r t u (λ d. left_for calling d r.node.core)
  unfolding left_for
  settled_breaks r t u h before noted =
      subst (MadeFront t u) (sym (since_is (daemon_of r before noted) (left_for calling (daemon_of r before noted) r.node.core) (sent_calls r.outbox.me r.outbox.incarnation r.outbox.number r.node.core.sends) r.node.core.records refl refl)) h

  pub settled_fails : (r s : Running C) (t u : Telling) → SettleFails r s t u → Fails r s t u (λ d. left_for calling d r.node.core)
  unfolding left_for
  settled_fails r s t u h = record {
    core = λ before noted. sym (ap (λ (n : NodeView (Hosted C)). at_work n.core) h.node);
    made = λ before noted.
        subst (WriteFails t u) (sym (since_is (daemon_of r before noted) (left_for calling (daemon_of r before noted) r.node.core) (sent_calls r.outbox.me r.outbox.incarnation r.outbox.number r.node.core.sends) r.node.core.records refl refl)) h.made;
  }

  left_at : (r : Running C) (n : NodeView (Hosted C)) (before : List Exchange) (noted : List Happened) → left_for calling (daemon_of r before noted) n.core ≡ left_for calling (daemon_of (record r { node = n }) before noted) n.core
  unfolding left_for
  left_at r n before noted = refl

  done_at : (r s : Running C) (n : NodeView (Hosted C)) (t u : Telling) (e : NodeEvent) (f : Answering) → n.core ≡ stepped f r.node.core e → Settles calling (record r { node = n }) s t u → Goes r s t u (stepped_for calling f e)
  done_at r s n t u e f core h =
      let g = settled_goes (record r { node = n }) s t u h in
      record { calls = g.calls; records = g.records; is = λ before noted. step_is r f n.core e before noted core ∙ (left_at r n before noted ∙ g.is before noted); made = g.made }

  broke_at : (r : Running C) (n : NodeView (Hosted C)) (t u : Telling) (e : NodeEvent) (f : Answering) → n.core ≡ stepped f r.node.core e → MadeFront t u (left_doings (record r { node = n })) → StepBreaks calling r t u e
  unfolding since
  broke_at r n t u e f core h = record {
    answers = f;
    breaks = λ before noted.
        subst (λ (d : Daemon). MadeFront t u (since (daemon_of (record r { node = n }) before noted) d)) (sym (step_is r f n.core e before noted core ∙ left_at r n before noted)) (settled_breaks (record r { node = n }) t u h before noted);
  }

  fails_at : (r s : Running C) (n : NodeView (Hosted C)) (t u : Telling) (e : NodeEvent) (f : Answering) → n.core ≡ stepped f r.node.core e → SettleFails (record r { node = n }) s t u → Fails r s t u (stepped_for calling f e)
  fails_at r s n t u e f core h =
      fails_as r (record r { node = n }) s t u (stepped_for calling f e) (λ d. left_for calling d n.core) (λ before noted. step_is r f n.core e before noted core ∙ left_at r n before noted) (settled_fails (record r { node = n }) s t u h)

  -- what the node did is written and sent
  pub step_done : {A B : Known → List (Hosted C) → Audience → Type 0} (r q s : Running C) (t u : Telling) (e : NodeEvent) → IsStep A B r q e → Settles calling q s t u → StepsAs A B calling r s t u e
  step_done {A = A} {B = B} r q s t u e h g = record {
    answers = h.answers;
    goes = done_at r s q.node t u e h.answers h.core (subst (λ (x : Running C). Settles calling x s t u) h.is g);
    attends = λ before noted z.
        let a : (v : Audience) × StepHands h.answers e (at_work r.node.core) z v × Passes A B r.node.clients q.node.clients z v = h.attends z in (
          a.0,
          a.1,
          λ known held. subst (λ (x : Running C). B known x.node.clients a.0) (sym g.is) (a.2 known held),
        );
  }

  pub step_broke : {A B : Known → List (Hosted C) → Audience → Type 0} (r q : Running C) (t u : Telling) (e : NodeEvent) → IsStep A B r q e → MadeFront t u (left_doings q) → StepBreaks calling r t u e
  step_broke r q t u e h g = broke_at r q.node t u e h.answers h.core (subst (λ (x : Running C). MadeFront t u (left_doings x)) h.is g)

  pub step_fails : {A B : Known → List (Hosted C) → Audience → Type 0} (r q s : Running C) (t u : Telling) (e : NodeEvent) → IsStep A B r q e → SettleFails q s t u → StepFails A B calling r s t u e
  step_fails {A = A} {B = B} r q s t u e h g = record {
    answers = h.answers;
    fails = fails_at r s q.node t u e h.answers h.core (subst (λ (x : Running C). SettleFails x s t u) h.is g);
    attends = λ before noted z.
        let a : (v : Audience) × StepHands h.answers e (at_work r.node.core) z v × Passes A B r.node.clients q.node.clients z v = h.attends z in (
          a.0,
          a.1,
          λ known held. subst (λ (n : NodeView (Hosted C)). B known n.clients a.0) (sym g.node) (a.2 known held),
        );
  }

  -- any answers will do where the node had no memory for its step
  pub step_none : (r : Running C) (t : Telling) (e : NodeEvent) → StepBreaks calling r t t e
  step_none r t e = record { answers = silent; breaks = breaks_none r t (stepped_for calling silent e) }

  -- a call, whose records say whether it was refused
  pub call_step_done : {A : Known → List (Hosted C) → Audience → Type 0} (r q s : Running C) (c : CallLine) (refused : Bool) (t u : Telling) → IsStep A A r q (Calls c) → Settles calling q s t u → refused ≡ is_refused q.node.core.records → CallSteps A calling r s refused t u c
  unfolding step_done
  call_step_done r q s c refused t u h g is =
      let d = step_done r q s t u (Calls c) h g in
      record {
        answers = d.answers;
        goes = d.goes;
        attends = d.attends;
        was = is ∙ ap (λ (k : Core). is_refused k.records) (h.core ∙ sym (from_work h.answers r.node.core (Calls c)));
      }
