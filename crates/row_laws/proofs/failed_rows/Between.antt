-- Between events: what each node has of who failed, and that it goes on.
use Rattle.std.proofs.Common.{◌≡◌, ℕ, List, [], ◌∷◌, ◌++◌, Option, Some, None, Bool, true, false, refl, sym, ap, ◌∙◌, subst, inl, inr, ⊎_elim}
use Rattle.std.specs.Prelude.{◌==◌, ◌&&◌, ◌||◌, if◌then◌else◌}
use Rattle.std.specs.List.{list_any}
use Rattle.rsct_packet.specs.declared.ids.ViewId.{ViewId}
use Rattle.rsct_packet.specs.declared.ids.ProviderId.{ProviderId}
use Rattle.rsct_packet.specs.Providers.{among, same_provider}
use Rattle.rsct_packet.specs.Search.{Has}
use Rattle.proposal_core.specs.declared.proposal.Cause.{Cause}
use Rattle.proposal_core.specs.declared.proposal.Cause.TheVariants as cause
use Rattle.proposal_core.specs.declared.proposal.Failure.{Failure}
use Rattle.proposal_core.specs.declared.entry.RowVote.{RowVote}
use Rattle.proposal_core.specs.declared.entry.RowVote.TheVariants as row_vote
use Rattle.proposal_core.specs.declared.group_state.GroupState.{GroupState}
use Rattle.proposal_core.specs.declared.group_state.Running.{Running}
use Rattle.proposal_core.specs.Fold.{joiners_fit}
use Rattle.proposal_core.specs.Lists.{len_in, state_in}
use Rattle.vote_phases.specs.Tally.{TallyView}
use Rattle.session_state.specs.declared.state.Provider.{Provider}
use Rattle.session_state.specs.declared.state.SessionState.{SessionState}
use Rattle.node_state.specs.declared.happened.Happened.{Happened}
use Rattle.node_state.specs.declared.happened.Happened.TheVariants as happened
use Rattle.node_state.specs.declared.packet.Body.{Body}
use Rattle.node_state.specs.declared.packet.Body.TheVariants as body
use Rattle.node_state.specs.declared.state.Core.{Core}
use Rattle.world_model.specs.Run.{Happening}
use Rattle.run_safety.specs.Past.{History, records_of}
use Rattle.run_safety.specs.Stays.{stays, asks_join, client_of, joining_client}
use Rattle.node_state.specs.State.{InNameOrder}
use Rattle.step_refinement.specs.Tied.{Scene, NodeIsIf, Rests}
use Rattle.step_refinement.proofs.SessionLaws.{provider_same}
use Rattle.run_induction.proofs.Idle.{Elsewhere, AllElsewhere, stays_elsewhere}
use Rattle.run_induction.proofs.Laws.{UpClaim}
use Rattle.row_laws.proofs.honest_votes.At.{found, leads_row}
use Rattle.row_laws.specs.failed_rows.Failures.{GoneCause, RowFails, FailuresHaveCauses, SaidGoodbye}
use Rattle.row_laws.proofs.failed_rows.Facts.{Whys, Takers, takers_more, VoterFails, TallyWhile, TallyFails, TallyIs, Waits, QueueIs, Track, stood_on, Lives, told_on, off_on, none_asked}
use Rattle.row_laws.proofs.failed_rows.Living.{slim_same}
use Rattle.row_laws.proofs.failed_rows.Owners.{Owned, owned_slim}
use Rattle.row_laws.proofs.failed_rows.Steps.{BodyGone}

-- ---- what is said goes on being said

pub goodbye_on : (e : Happening) (h : History) (p : ProviderId) → SaidGoodbye h p → SaidGoodbye (e ∷ h) p
goodbye_on e h p k = record { event = k.event; newer = e ∷ k.newer; older = k.older; moment = ap (λ z. e ∷ z) k.moment; said = k.said; taken = k.taken }

pub gone_on : (e : Happening) (h : History) (v : ViewId) (g : List ℕ) (p : ProviderId) → GoneCause h v g p → GoneCause (e ∷ h) v g p
gone_on e h v g p (inl k) = inl (goodbye_on e h p k)
gone_on e h v g p (inr k) = inr (stood_on e.records (records_of h) v g p k)

pub own_on : (e : Happening) (h : History) (t : SessionState) (p : ProviderId) → Lives (SaidGoodbye h) t (records_of h) p → Lives (SaidGoodbye (e ∷ h)) t (e.records ++ records_of h) p
own_on e h t p (inl k) = inl k
own_on e h t p (inr (inl k)) = inr (inl (goodbye_on e h p k))
own_on e h t p (inr (inr (inl k))) = inr (inr (inl (told_on e.records (records_of h) p k)))
own_on e h t p (inr (inr (inr k))) = inr (inr (inr (off_on e.records (records_of h) p k)))

pub body_gone_on : (e : Happening) (h : History) (b : Body) → BodyGone h b → BodyGone (e ∷ h) b
body_gone_on e h (body.Tell v g q r y) k = k
body_gone_on e h (body.Gone v g p) k = gone_on e h v g p k
body_gone_on e h _ k = tt

module _ (gone now : ProviderId → Type 0) (on : (p : ProviderId) → gone p → now p) where
  row_on : (st : GroupState) (p : ProviderId) (v : RowVote) → RowFails gone st p v → RowFails now st p v
  row_on st p (row_vote.Cast v) k = tt
  row_on st p (row_vote.Late d) k = tt
  row_on st p (row_vote.Failed d) k = (k.0, ⊎_elim (λ (a : among st.failed p ≡ true). inl a) (λ (a : gone p). inr (on p a)) k.1)

  voter_on : (st : GroupState) (p : ProviderId) (o : Option RowVote) → VoterFails gone st p o → VoterFails now st p o
  voter_on st p None k = tt
  voter_on st p (Some v) k = row_on st p v k

  while_on : (st : GroupState) (t : TallyView) (run : Option Running) → TallyWhile gone st t run → TallyWhile now st t run
  while_on st t None k = tt
  while_on st t (Some run) k = record { default = k.default; voters = λ x i. voter_on st x.provider x.vote (k.voters x i) }

  fails_on : (st : GroupState) (t : Option TallyView) → TallyFails gone st t → TallyFails now st t
  fails_on st None k = tt
  fails_on st (Some t) k = while_on st t st.running k

  pub tally_on : (led : Bool) (t : Option TallyView) (st : GroupState) → TallyIs gone led t st → TallyIs now led t st
  tally_on led t st (inl e) = inl e
  tally_on led t st (inr k) = inr (k.0, fails_on st t k.1)

  waits_on : (st : GroupState) (p : ProviderId) (c : Cause) → Waits gone st p c → Waits now st p c
  waits_on st p cause.Died k = k
  waits_on st p cause.Gone k = on p k
  waits_on st p cause.Cast k = k

  pub queue_on : (led : Bool) (fs : List Failure) (st : GroupState) → QueueIs gone led fs st → QueueIs now led fs st
  queue_on led fs st (inl e) = inl e
  queue_on led fs st (inr k) = inr (k.0, λ f i. waits_on st f.provider f.cause (k.1 f i))

-- ---- between events

pub record CoreFails (h : History) (s : Core) : Type 0 where
  pub order : InNameOrder s.groups
  pub tracks : (g : List ℕ) → Track (stays s.views.me g (records_of h)) s.views.view (len_in (found s g).list) (state_in (found s g).list)
  pub marks : (g : List ℕ) (p : ProviderId) → among (found s g).led.gone p ≡ true → GoneCause h s.views.view g p
  pub tallies : (g : List ℕ) → TallyIs (GoneCause h s.views.view g) (leads_row s (found s g)) (found s g).led.tally (state_in (found s g).list)
  pub queues : (g : List ℕ) → QueueIs (GoneCause h s.views.view g) (leads_row s (found s g)) (found s g).led.waiting.failures (state_in (found s g).list)
  pub apart : (g : List ℕ) → joiners_fit (state_in (found s g).list) ≡ true
  pub own : (p : ProviderId) → p.node ≡ s.views.me → p.inc ≡ s.views.inc → list_any (asks_join p) (records_of h) ≡ true → Lives (SaidGoodbye h) s.sessions (records_of h) p
  pub mine : (x : Provider) → Has x s.sessions.providers → x.provider.node ≡ s.views.me
  pub owners : Owned (λ p. client_of p h) s.sessions
  pub whys : (g : List ℕ) → Whys (found s g).led
  pub takers : Takers s.views.me s.sessions (records_of h)

-- what holds of a run: GONE that was sent has its cause, as has what each node has of who failed, and what was put
abbrev pub fails : UpClaim
fails = record { sent = λ h x. BodyGone h x.body; node = λ m inc ps h s. CoreFails h s; lines = FailuresHaveCauses }

-- another node asks for no join of this one
pub other_asks : (m : ℕ) (p : ProviderId) (r : Happened) → p.node ≡ m → Elsewhere m r → asks_join p r ≡ false
other_asks m p (happened.Asked q r f x) e o = by (same_provider q p) refl
  where
    by : (b : Bool) → same_provider q p ≡ b → (b && (r == p.join)) ≡ false
    by true z = absurd (o (ap (λ (y : ProviderId). y.node) (provider_same q p z) ∙ e))
    by false z = refl
other_asks m p _ e o = refl

none_any : (p : ProviderId) (rs : List Happened) → ((r : Happened) → Has r rs → asks_join p r ≡ false) → list_any (asks_join p) rs ≡ false
none_any p [] all = refl
none_any p (r ∷ rs) all = ap (λ b. b || list_any (asks_join p) rs) (all r (inl refl)) ∙ none_any p rs (λ q i. all q (inr i))

pub core_on : (m : ℕ) (e : Happening) (h : History) (s : Core) → s.views.me ≡ m → AllElsewhere m e.records → CoreFails h s → CoreFails (e ∷ h) s
core_on m e h s me all k =
    record {
      order = k.order;
      tracks = λ g. subst (λ z. Track z s.views.view (len_in (found s g).list) (state_in (found s g).list)) (ap (λ z. stays z g (records_of h)) me ∙ sym (stays_elsewhere m g e.records (records_of h) all) ∙ ap (λ z. stays z g (e.records ++ records_of h)) (sym me)) (k.tracks g);
      marks = λ g p i. gone_on e h s.views.view g p (k.marks g p i);
      tallies = λ g. tally_on (GoneCause h s.views.view g) (GoneCause (e ∷ h) s.views.view g) (gone_on e h s.views.view g) (leads_row s (found s g)) (found s g).led.tally (state_in (found s g).list) (k.tallies g);
      queues = λ g. queue_on (GoneCause h s.views.view g) (GoneCause (e ∷ h) s.views.view g) (gone_on e h s.views.view g) (leads_row s (found s g)) (found s g).led.waiting.failures (state_in (found s g).list) (k.queues g);
      apart = k.apart;
      own = λ p node inc asked. own_on e h s.sessions p (k.own p node inc (sym (none_asked p e.records (records_of h) (λ r i. other_asks m p r (node ∙ me) (all r i))) ∙ asked));
      mine = k.mine;
      whys = k.whys;
      takers = takers_more s.views.me s.sessions e.records (records_of h) k.takers;
      owners = owned_slim (λ p. client_of p h) (λ p. client_of p (e ∷ h)) s.sessions s.sessions (λ x i. ap (λ b. if b then joining_client e.event else client_of x.provider h) (none_any x.provider e.records (λ r j. other_asks m x.provider r (k.mine x i ∙ me) (all r j)))) (slim_same s.sessions s.sessions refl refl refl) k.owners;
    }

-- a node of a scene is who it is
pub who_is : (w : Scene) → Rests [] w → (m : ℕ) (s : Core) → w.cores m ≡ Some s → s.views.me ≡ m
who_is w rests m s up = (subst (NodeIsIf w.config rests.ghost [] m (w.incs m)) up (rests.nodes m)).0.stands.me
