-- What the leader of a group does.
use Rattle.std.proofs.Common.{◌≡◌, ℕ, zero, suc, List, [], Option, Some, None, Bool, true, false, refl, subst, inl}
use Rattle.std.specs.Prelude.{not, filter, nat_le, reverse}
use Rattle.rsct_packet.specs.declared.ids.ProviderId.{ProviderId}
use Rattle.rsct_packet.specs.Providers.{among}
use Rattle.group_attr.specs.declared.attrs.Phases.{Phases}
use Rattle.group_attr.specs.declared.attrs.Phases.TheVariants.{One, Many}
use Rattle.proposal_core.specs.declared.proposal.Cause.TheVariants.{Died, Gone}
use Rattle.proposal_core.specs.declared.proposal.Proposal.{Proposal}
use Rattle.proposal_core.specs.declared.entry.Vote.{Vote}
use Rattle.proposal_core.specs.declared.entry.Vote.TheVariants as vote
use Rattle.proposal_core.specs.declared.entry.Entry.{Entry}
use Rattle.proposal_core.specs.declared.entry.Entry.TheVariants.{Once, Begin, Phase, Approve, Reject, Late}
use Rattle.proposal_core.specs.declared.group_state.GroupState.{GroupState}
use Rattle.proposal_core.specs.declared.group_state.Running.{Running}
use Rattle.proposal_core.specs.Fold.{max_phases}
use Rattle.proposal_core.specs.Lists.{len_in}
use Rattle.batch_rules.specs.Waiting.{WaitingView, add_failure}
use Rattle.vote_phases.specs.Tally.{TallyView, outcome}
use Rattle.node_state.specs.declared.group.Led.{Led}
use Rattle.node_state.specs.declared.packet.Body.TheVariants as body
use Rattle.node_state.specs.declared.state.Core.{Core}
use Rattle.node_state.specs.State.{with_led, led_of, state_of, len_of, fits_at_end, list_forgotten, forget_below, leader_of, others, least_acked, set_leader}
use Rattle.node_state.specs.Sending.{send_all}
use Rattle.node_state.specs.HandOn.{Answering, hand_on}
use Rattle.node_state.specs.Leading.{put, put_and_hand, forget_least, with_waiting, wait_if, new_members_wait, appended, append_if_fits, tally_set, with_tally, tally_opened, closing, closing_of, closing_entry, is_phase, closes_from, closes, begin_many, begins}
use Rattle.entry_laws.proofs.closing_rows.Quiet.{at_fold, at_handed}
use Rattle.entry_laws.proofs.closing_rows.At.{found}
use Rattle.entry_laws.proofs.closing_rows.Calms.{calm_all}
use Rattle.entry_laws.proofs.source_order.Holding.{Turn, so_far, Fewer, fewer_self, failure_fewer}
use Rattle.entry_laws.proofs.source_order.At.{BegunWell, PutWell, PutFact, At, at_put, at_calm, at_row, keeps_quiet}
use Rattle.step_walk.proofs.Asides.{forgotten_len, forgotten_state}

-- what begins nothing
abbrev pub Closes : Entry → Type 0
Closes (Once x) = ⊥
Closes (Begin x) = ⊥
Closes _ = Unit {0}

-- the entry that closes a phase
pub closing_closes : (l : Led) (t : Option TallyView) (run : Option Running) (e : Entry) → closing_entry l t run ≡ Some e → Closes e
unfolding closing_entry closing_of closing
closing_closes l None run e q = absurd (cc)
closing_closes l (Some t) None e q = absurd (cc)
closing_closes l (Some t) (Some run) e q = by (outcome t) q
  where
    one : (v : Vote) (last : Bool) → Closes (closing l t run v last)
    one vote.Approve last = tt
    one vote.Reject last = tt
    one vote.Continue true = tt
    one vote.Continue false = tt

    by : (o : Option Vote) → closing_of l t run o ≡ Some e → Closes e
    by None q = absurd (cc)
    by (Some v) q = let z : closing l t run v (nat_le max_phases run.phase) ≡ e = cc in subst Closes z (one v (nat_le max_phases run.phase))

module _ (h : Turn) where
  -- what the node puts next into the group's list
  abbrev pub NextWell : Core → List ℕ → Entry → Type 0
  NextWell s g e = PutWell (so_far h (reverse s.records)) s.views.me s.views.view g (len_in (found s g).list) e

  abbrev pub NextBegun : Core → List ℕ → Proposal → Type 0
  NextBegun s g x = BegunWell (so_far h (reverse s.records)) s.views.me s.views.view g (len_in (found s g).list) x

  closes_well : (s : Core) (g : List ℕ) (e : Entry) → Closes e → NextWell s g e
  closes_well s g (Once x) z = absurd z
  closes_well s g (Begin x) z = absurd z
  closes_well s g (Phase c) z = tt
  closes_well s g (Approve c) z = tt
  closes_well s g (Reject c) z = tt
  closes_well s g (Late proto phase ps) z = tt

  module _ (P : Type 0) where
    abbrev Full : Core → Type 0
    Full s = At h P s

    -- ---- an entry is put

    pub at_put_and_handed : (f : Answering) (s : Core) (to : Option ℕ) (g : List ℕ) (e : Entry) → PutFact h.what (reverse s.records) h.before s.views.me s.views.view g (len_in (found s g).list) e → Full s → Full (put_and_hand f s to g e)
    unfolding put_and_hand
    at_put_and_handed f s to g e fact a =
        at_handed (keeps_quiet h P) f (put s g e) to g (len_of s g) (state_of s g) (state_of (put s g e) g) e (at_put h P s g e fact a)

    -- what a leader keeps changes
    pub at_led : (s : Core) (g : List ℕ) (f : Led → Led) → ((l : Led) → Fewer l (f l)) → Full s → Full (with_led s g f)
    unfolding with_led
    at_led s g f fewer a = at_row h P s g (λ row. record row { led = f row.led }) (λ x. refl) (λ x. refl) (λ x. refl) (λ x. fewer x.led) a

    -- a leader is known
    pub at_led_by : (s : Core) (g : List ℕ) (n : ℕ) → Full s → Full (set_leader s g n)
    unfolding set_leader
    at_led_by s g n a = at_row h P s g (λ row. record row { leader = Some n }) (λ x. refl) (λ x. refl) (λ x. refl) (λ x. fewer_self x.led) a

    pub at_waits : (s : Core) (g : List ℕ) (change : WaitingView → WaitingView) → ((l : Led) → Fewer l (record l { waiting = change l.waiting })) → Full s → Full (with_waiting s g change)
    unfolding with_waiting
    at_waits s g change fewer a = at_led s g (λ l. record l { waiting = change l.waiting }) fewer a

    pub at_forgets : (s : Core) (g : List ℕ) (n : ℕ) → Full s → Full (forget_below s g n)
    unfolding forget_below
    at_forgets s g n a =
        at_row h P s g (λ row. record row { list = list_forgotten n row.list }) (λ x. refl) (λ x. forgotten_state n x.list) (λ x. forgotten_len n x.list) (λ x. fewer_self x.led) a

    pub at_forgets_least : (s : Core) (g : List ℕ) → Full s → Full (forget_least s g)
    unfolding forget_least
    at_forgets_least s g a = at_forgets s g (least_acked s g) a

    at_waits_if : (s : Core) (g : List ℕ) (p : ProviderId) (a b : Bool) → Full s → Full (wait_if s g p a b)
    unfolding wait_if
    at_waits_if s g p true b k = at_waits s g (add_failure p Died) (λ l. failure_fewer l p Died) k
    at_waits_if s g p false true k = at_waits s g (add_failure p Gone) (λ l. failure_fewer l p Gone) k
    at_waits_if s g p false false k = k

    at_new_members : (s : Core) (g : List ℕ) (before after : GroupState) → Full s → Full (new_members_wait s g before after)
    unfolding new_members_wait
    at_new_members s g before after a =
        at_fold (At h P) (λ t p. wait_if t g p (among after.failed p) (among (led_of s g).gone p)) (filter (λ p. not (among before.members p)) after.members) (λ t p i k. at_waits_if t g p (among after.failed p) (among (led_of s g).gone p) k) s a

    at_appended : (f : Answering) (s : Core) (g : List ℕ) (e : Entry) → NextWell s g e → Full s → Full (appended f s g e)
    unfolding appended
    at_appended f s g e ok a =
        let t : Core = put s g e in
        let u : Core = send_all t (others t) (body.Entry t.views.view g (len_of s g) (least_acked t g) e) in
        let w : Core = hand_on f u (leader_of u g) g (len_of s g) (state_of s g) (state_of t g) e in
        let put_at : Full t = at_put h P s g e (inl ok) a in
        let sent_at : Full u = at_calm h P t u (calm_all t (others t) (body.Entry t.views.view g (len_of s g) (least_acked t g) e)) put_at in
        let handed_at : Full w = at_handed (keeps_quiet h P) f u (leader_of u g) g (len_of s g) (state_of s g) (state_of t g) e sent_at in
        at_new_members (forget_least w g) g (state_of s g) (state_of t g) (at_forgets_least w g handed_at)

    -- ---- the tally of a phase

    pub at_tally : (s : Core) (g : List ℕ) (t : Option TallyView) → Full s → Full (with_tally s g t)
    unfolding with_tally
    at_tally s g t a = at_led s g (λ l. record l { tally = t }) (λ l. record { joins = λ p e. e; attrs = refl }) a

    at_tally_set : (s : Core) (g : List ℕ) (t : Option TallyView) → Full s → Full (tally_set s g t)
    unfolding tally_set
    at_tally_set s g t a = at_led s g (λ l. record l { tally = t; given = [] }) (λ l. record { joins = λ p e. e; attrs = refl }) a

    pub at_tally_opened : (s : Core) (g : List ℕ) → Full s → Full (tally_opened s g)
    unfolding tally_opened
    at_tally_opened s g a = at_tally_set s g _ a

    at_closes_from : (n : ℕ) (f : Answering) (s : Core) (g : List ℕ) → Full s → Full (closes_from n f s g)
    unfolding closes_from
    at_closes_from zero f s g a = a
    at_closes_from (suc n) f s g a =
        by (closing_entry (led_of s g) (led_of s g).tally (state_of s g).running) refl (at_closes_from n f)
      where
        Rec : Type 0
        Rec = (c : Core) (g : List ℕ) → Full c → Full (closes_from n f c g)

        last : (e : Entry) → Closes e → Rec → (b : Bool) → Full (elim b as (λ _. Core) [ true ↦ closes_from n f (tally_opened (appended f s g e) g) g | false ↦ tally_set (appended f s g e) g None ])
        last e ok rec true = rec (tally_opened (appended f s g e) g) g (at_tally_opened (appended f s g e) g (at_appended f s g e (closes_well s g e ok) a))
        last e ok rec false = at_tally_set (appended f s g e) g None (at_appended f s g e (closes_well s g e ok) a)

        fitting : (e : Entry) → Closes e → Rec → (b : Bool) → Full (elim b as (λ _. Core) [ false ↦ s | true ↦ elim (is_phase e) as (λ _. Core) [ true ↦ closes_from n f (tally_opened (appended f s g e) g) g | false ↦ tally_set (appended f s g e) g None ] ])
        fitting e ok rec false = a
        fitting e ok rec true = last e ok rec (is_phase e)

        by : (o : Option Entry) → closing_entry (led_of s g) (led_of s g).tally (state_of s g).running ≡ o → Rec → Full (elim o as (λ _. Core) [ None ↦ s | Some e ↦ elim (fits_at_end s g e) as (λ _. Core) [ false ↦ s | true ↦ elim (is_phase e) as (λ _. Core) [ true ↦ closes_from n f (tally_opened (appended f s g e) g) g | false ↦ tally_set (appended f s g e) g None ] ] ])
        by None q rec = a
        by (Some e) q rec = fitting e (closing_closes (led_of s g) (led_of s g).tally (state_of s g).running e q) rec (fits_at_end s g e)

    pub at_closes : (f : Answering) (s : Core) (g : List ℕ) → Full s → Full (closes f s g)
    unfolding closes
    at_closes f s g a = at_closes_from max_phases f s g a

    at_begun_many : (f : Answering) (s : Core) (g : List ℕ) (x : Proposal) (b : Bool) → NextBegun s g x → Full s → Full (begin_many f s g x b)
    unfolding begin_many
    at_begun_many f s g x false ok a = a
    at_begun_many f s g x true ok a =
        at_closes f (tally_opened (appended f s g (Begin x)) g) g (at_tally_opened (appended f s g (Begin x)) g (at_appended f s g (Begin x) ok a))

    pub at_appended_if : (f : Answering) (s : Core) (g : List ℕ) (e : Entry) (b : Bool) → NextWell s g e → Full s → Full (append_if_fits f s g e b)
    unfolding append_if_fits
    at_appended_if f s g e false ok a = a
    at_appended_if f s g e true ok a = at_appended f s g e ok a

    pub at_begins : (f : Answering) (s : Core) (g : List ℕ) (x : Proposal) (phases : Phases) → NextBegun s g x → Full s → Full (begins f s g x phases)
    unfolding begins
    at_begins f s g x Many ok a = at_begun_many f s g x (fits_at_end s g (Begin x)) ok a
    at_begins f s g x One ok a = at_appended_if f s g (Once x) (fits_at_end s g (Once x)) ok a
