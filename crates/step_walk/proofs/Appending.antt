-- Appending, closing, beginning and refusing keep what is kept by each change of a leader.
use Rattle.std.proofs.Common.{◌∙◌, sym}
use Rattle.std.specs.Prelude.{nat_le}
use Rattle.proposal_core.specs.declared.entry.Vote.{Vote}
use Rattle.proposal_core.specs.declared.entry.Vote.TheVariants as vote
use Rattle.proposal_core.specs.declared.entry.Entry.TheVariants.{Phase, Approve, Reject}
use Rattle.vote_phases.specs.Tally.{outcome}
use Rattle.node_state.specs.declared.group.Led.{Led}
use Rattle.node_state.specs.Leading.{closing, closing_of}
use Rattle.std.proofs.Common.{◌≡◌, ℕ, zero, suc, List, Option, Some, None, Bool, true, false, refl, inl}
use Rattle.rsct_packet.specs.declared.ids.ProviderId.{ProviderId}
use Rattle.group_attr.specs.declared.attrs.Phases.{Phases}
use Rattle.group_attr.specs.declared.attrs.Phases.TheVariants.{One, Many}
use Rattle.proposal_core.specs.declared.proposal.Proposal.{Proposal}
use Rattle.proposal_core.specs.declared.entry.Entry.{Entry}
use Rattle.proposal_core.specs.declared.entry.Entry.TheVariants.{Once, Begin}
use Rattle.proposal_core.specs.Fold.{max_phases}
use Rattle.vote_phases.specs.Tally.{TallyView, expires}
use Rattle.client_callbacks.specs.declared.told.Why.{Why}
use Rattle.session_state.specs.HandOn.{is_dissolved}
use Rattle.node_state.specs.declared.packet.Body.TheVariants as body
use Rattle.node_state.specs.declared.state.Core.{Core}
use Rattle.node_state.specs.State.{led_of, state_of, fits_at_end, others, least_acked}
use Rattle.node_state.specs.HandOn.{Answering}
use Rattle.node_state.specs.Leading.{put, appended, append_if_fits, tally_set, tally_opened, closing_entry, is_phase, closes_from, closes, begin_many, begins}
use Rattle.node_state.specs.Deciding.{refused}
use Rattle.node_state.specs.Ticks.{late_appended}
use Rattle.vote_phases.specs.Tally.{open_voters}
use Rattle.proposal_core.specs.declared.group_state.Running.{Running}
use Rattle.proposal_core.specs.declared.entry.Entry.TheVariants.{Late}
use Rattle.node_state.specs.State.{fits_at_end}
use Rattle.step_walk.proofs.Evidence.{Plain, Turning, KeepsBeside, KeepsLed}
use Rattle.step_walk.proofs.Asides.{at_sent, at_rest_appended}

-- what closes a phase turns it, and begins nothing
turning : (Begun : Core → List ℕ → Phases → Proposal → Type 0) (s : Core) (g : List ℕ) (e : Entry) → closing_entry (led_of s g) (led_of s g).tally (state_of s g).running ≡ Some e → Turning Begun s g e
unfolding closing_entry closing_of closing
turning Begun s g e c = by (led_of s g) (led_of s g).tally (state_of s g).running e c refl
  where
    no_begin : (l : Led) (t : TallyView) (run : Running) (v : Vote) (last : Bool) (x : Proposal) → closing l t run v last ≡ Begin x → ⊥
    no_begin l t run vote.Approve last x q = cc
    no_begin l t run vote.Reject last x q = cc
    no_begin l t run vote.Continue true x q = cc
    no_begin l t run vote.Continue false x q = cc

    some_of : (a d : Entry) → Some a ≡ Some d → a ≡ d
    some_of a d q = cc

    none : (l : Led) (o : Option TallyView) (r : Option Running) (x : Proposal) → closing_entry l o r ≡ Some (Begin x) → ⊥
    none l None r x q = cc
    none l (Some t) None x q = cc
    none l (Some t) (Some run) x q = of (outcome t) q
      where
        of : (o : Option Vote) → closing_of l t run o ≡ Some (Begin x) → ⊥
        of None q = cc
        of (Some v) q = no_begin l t run v (nat_le max_phases run.phase) x (some_of (closing l t run v (nat_le max_phases run.phase)) (Begin x) q)

    by : (l : Led) (o : Option TallyView) (r : Option Running) (e : Entry) → closing_entry (led_of s g) (led_of s g).tally (state_of s g).running ≡ Some e → closing_entry (led_of s g) (led_of s g).tally (state_of s g).running ≡ closing_entry l o r → Turning Begun s g e
    by l o r (Begin x) c q = absurd (none l o r x (sym q ∙ c))
    by l o r (Once x) c q = c
    by l o r (Phase d) c q = c
    by l o r (Approve d) c q = c
    by l o r (Reject d) c q = c
    by l o r (Late proto phase ps) c q = c

module _ (P : Core → Type 0) (Between : List ℕ → Core → Type 0) (Begun : Core → List ℕ → Phases → Proposal → Type 0) (Ok : List ℕ → Type 0) (b : KeepsBeside P Ok) (m : (g : List ℕ) → KeepsBeside (Between g) Ok) (k : KeepsLed P Between Begun (λ s. Ok)) where
  at_plain : (f : Answering) {s : Core} (g : List ℕ) (ok : Ok g) (e : Entry) → Plain Begun s g e → (t : Bool) → fits_at_end s g e ≡ t → P s → P (append_if_fits f s g e t)
  unfolding append_if_fits
  at_plain f g ok e plain false q p = p
  at_plain f {s} g ok e plain true q p =
      at_rest_appended P Ok b f s g ok e (λ bs. k.puts s g e (others (put s g e)) (least_acked (put s g e) g) bs ok q plain p)

  at_turned : (f : Answering) {s : Core} (g : List ℕ) (ok : Ok g) (e : Entry) → Turning Begun s g e → fits_at_end s g e ≡ true → P s → Between g (appended f s g e)
  at_turned f {s} g ok e turns q p =
      at_rest_appended (Between g) Ok (m g) f s g ok e (λ bs. k.turns s g e (others (put s g e)) (least_acked (put s g e) g) bs ok q turns p)

  -- ---- closing and beginning

  at_closes_from : (n : ℕ) (f : Answering) (s : Core) (g : List ℕ) (ok : Ok g) → P s → P (closes_from n f s g)
  unfolding closes_from
  at_closes_from zero f s g ok p = p
  at_closes_from (suc n) f s g ok p = by (closing_entry (led_of s g) (led_of s g).tally (state_of s g).running) refl (at_closes_from n)
    where
      closed : (e : Entry) → closing_entry (led_of s g) (led_of s g).tally (state_of s g).running ≡ Some e → fits_at_end s g e ≡ true → Between g (appended f s g e)
      closed e c q = at_turned f g ok e (turning Begun s g e c) q p

      fits : (e : Entry) → closing_entry (led_of s g) (led_of s g).tally (state_of s g).running ≡ Some e → ((f : Answering) (s : Core) (g : List ℕ) (ok : Ok g) → P s → P (closes_from n f s g)) → (t u : Bool) → fits_at_end s g e ≡ t → P (elim t as (λ _. Core) [ false ↦ s | true ↦ elim u as (λ _. Core) [ true ↦ closes_from n f (tally_opened (appended f s g e) g) g | false ↦ tally_set (appended f s g e) g None ] ])
      fits e c rest false u q = p
      fits e c rest true true q = rest f (tally_opened (appended f s g e) g) g ok (k.opens (appended f s g e) g ok (closed e c q))
      fits e c rest true false q = k.rests (appended f s g e) g ok (closed e c q)

      by : (o : Option Entry) → closing_entry (led_of s g) (led_of s g).tally (state_of s g).running ≡ o → ((f : Answering) (s : Core) (g : List ℕ) (ok : Ok g) → P s → P (closes_from n f s g)) → P (elim o as (λ _. Core) [ None ↦ s | Some e ↦ elim (fits_at_end s g e) as (λ _. Core) [ false ↦ s | true ↦ elim (is_phase e) as (λ _. Core) [ true ↦ closes_from n f (tally_opened (appended f s g e) g) g | false ↦ tally_set (appended f s g e) g None ] ] ])
      by None c rest = p
      by (Some e) c rest = fits e c rest (fits_at_end s g e) (is_phase e) refl

  pub at_closes : (f : Answering) {s : Core} (g : List ℕ) (ok : Ok g) → P s → P (closes f s g)
  unfolding closes
  at_closes f {s} g ok p = at_closes_from max_phases f s g ok p

  pub at_begins : (f : Answering) {s : Core} (g : List ℕ) (ok : Ok g) (x : Proposal) (phases : Phases) → Begun s g phases x → P s → P (begins f s g x phases)
  unfolding begins begin_many
  at_begins f {s} g ok x One begun p = at_plain f g ok (Once x) begun (fits_at_end s g (Once x)) refl p
  at_begins f {s} g ok x Many begun p = by (fits_at_end s g (Begin x)) refl
    where
      by : (t : Bool) → fits_at_end s g (Begin x) ≡ t → P (begin_many f s g x t)
      by false q = p
      by true q = at_closes f g ok (k.opens (appended f s g (Begin x)) g ok (at_turned f g ok (Begin x) begun q p))

  -- who is late is announced
  pub at_late : (f : Answering) {s : Core} (g : List ℕ) (ok : Ok g) (t : TallyView) → (led_of s g).tally ≡ Some t → expires t ≡ true → (o : Option Running) → (state_of s g).running ≡ o → P s → P (late_appended f s g t o)
  unfolding late_appended
  at_late f g ok t e late None q p = p
  at_late f {s} g ok t e late (Some run) q p =
      at_plain f g ok (Late run.proto run.phase (open_voters t)) (t, run, e, q, refl, late) (fits_at_end s g (Late run.proto run.phase (open_voters t))) refl p

  -- ---- deciding

  pub at_refused : {s : Core} (g : List ℕ) (ok : Ok g) (q : ProviderId) (r : ℕ) (y : Why) → is_dissolved y ≡ false → P s → P (refused s g q r y)
  unfolding refused
  at_refused {s} g ok q r y fair p = at_sent P Ok b q.node (body.Tell s.views.view g q r y) (inl fair) (k.decides s g q r (Some y) ok fair p)
