-- Who casts when a ballot is due, in the phase that it heard opened, and hears no phase opened again, casts once in a phase.
use Rattle.std.proofs.Common.{◌≡◌, ℕ, List, [], ◌∷◌, Option, Some, Bool, true, false, refl, sym, ap, ◌∙◌, subst, inl, inr}
use Rattle.std.specs.Prelude.{if◌then◌else◌}
use Rattle.rsct_packet.specs.declared.ids.ViewId.{ViewId}
use Rattle.rsct_packet.specs.declared.ids.ProviderId.{ProviderId}
use Rattle.rsct_packet.specs.Providers.{same_provider}
use Rattle.rsct_packet.specs.Search.{Has}
use Rattle.proposal_core.specs.declared.entry.Entry.{Entry}
use Rattle.proposal_core.specs.declared.entry.Entry.TheVariants.{Once, Begin, Phase, Approve, Reject, Late}
use Rattle.proposal_core.specs.declared.entry.Vote.{Vote}
use Rattle.session_state.specs.declared.state.OpenPhase.{OpenPhase}
use Rattle.node_state.specs.declared.happened.Happened.{Happened}
use Rattle.node_state.specs.declared.happened.Happened.TheVariants as happened
use Rattle.run_safety.specs.Past.{History, Within, earlier, records_of}
use Rattle.run_safety.specs.SafeLists.{Each}
use Rattle.step_refinement.proofs.SessionLaws.{provider_same, provider_self}
use Rattle.provider_laws.specs.single_casts.Ballots.{due_by, ballot_due, opens, open_by, open_phase, CastWhenDue, CastInPhase, CastsWhenDue, CastsInPhase}
use Rattle.provider_laws.specs.single_casts.Single.{HeardOpened, NotReopened, PhasesOpenOnce, NotCastBefore, CastsOnce, CastAfterNotice, CastsAfterNotice}

-- ---- laws of each record, along all records

abbrev pub Along : (List Happened → Happened → Type 0) → List Happened → Type 0
Along P [] = Unit {0}
Along P (r ∷ rs) = P rs r × Along P rs

along_now : (P : List Happened → Happened → Type 0) (now : List Happened) (before : History) → Within (λ now before r. P (earlier now before) r) now before → Along P (records_of before) → Along P (earlier now before)
along_now P [] before k past = past
along_now P (r ∷ now) before k past = (k.0, along_now P now before k.1 past)

pub along_all : (P : List Happened → Happened → Type 0) (h : History) → Each P h → Along P (records_of h)
along_all P [] k = tt
along_all P (e ∷ before) k = along_now P e.records before k.0 (along_all P before k.1)

now_along : (P : List Happened → Happened → Type 0) (now : List Happened) (before : History) → Along P (earlier now before) → Within (λ now before r. P (earlier now before) r) now before × Along P (records_of before)
now_along P [] before k = (tt, k)
now_along P (r ∷ now) before k = let z = now_along P now before k.1 in ((k.0, z.0), z.1)

pub all_along : (P : List Happened → Happened → Type 0) (h : History) → Along P (records_of h) → Each P h
all_along P [] k = tt
all_along P (e ∷ before) k = let z = now_along P e.records before k in (z.0, all_along P before z.1)

-- ---- what is open was heard opened

pub more_opened : (r : Happened) (rs : List Happened) (p : ProviderId) (o : OpenPhase) → HeardOpened rs p o → HeardOpened (r ∷ rs) p o
more_opened r rs p o k = record { view = k.view; group = k.group; place = k.place; entry = k.entry; members = k.members; value = k.value; there = inr k.there; opened = k.opened }

pub open_heard : (p : ProviderId) (o : OpenPhase) (rs : List Happened) → open_phase p rs ≡ Some o → HeardOpened rs p o
open_heard p o [] q = absurd (cc)
open_heard p o (r ∷ rs) q = by r q (open_heard p o rs)
  where
    heard : (u : ProviderId) (v : ViewId) (g : List ℕ) (i : ℕ) (e : Entry) (ms : List ProviderId) (value : List ℕ) → u ≡ p → opens e v i ≡ Some o → HeardOpened (happened.Heard u v g i e ms value ∷ rs) p o
    heard u v g i e ms value same z =
        record { view = v; group = g; place = i; entry = e; members = ms; value = value; there = inl (λ k. happened.Heard (sym same k) v g i e ms value); opened = z }

    of_entry : (u : ProviderId) (v : ViewId) (g : List ℕ) (i : ℕ) (e : Entry) (ms : List ProviderId) (value : List ℕ) → u ≡ p → open_by e v i (open_phase p rs) ≡ Some o → (open_phase p rs ≡ Some o → HeardOpened rs p o) → HeardOpened (happened.Heard u v g i e ms value ∷ rs) p o
    of_entry u v g i (Late proto phase ps) ms value same z old = more_opened _ rs p o (old z)
    of_entry u v g i (Once x) ms value same z old = heard u v g i (Once x) ms value same z
    of_entry u v g i (Begin x) ms value same z old = heard u v g i (Begin x) ms value same z
    of_entry u v g i (Phase c) ms value same z old = heard u v g i (Phase c) ms value same z
    of_entry u v g i (Approve c) ms value same z old = heard u v g i (Approve c) ms value same z
    of_entry u v g i (Reject c) ms value same z old = heard u v g i (Reject c) ms value same z

    by : (r : Happened) → open_phase p (r ∷ rs) ≡ Some o → (open_phase p rs ≡ Some o → HeardOpened rs p o) → HeardOpened (r ∷ rs) p o
    by (happened.Heard u v g i e ms value) z old = at (same_provider u p) refl z
      where
        at : (b : Bool) → same_provider u p ≡ b → (if b then open_by e v i (open_phase p rs) else open_phase p rs) ≡ Some o → HeardOpened (happened.Heard u v g i e ms value ∷ rs) p o
        at true k z = of_entry u v g i e ms value (provider_same u p k) z old
        at false k z = more_opened _ rs p o (old z)
    by _ z old = more_opened _ rs p o (old z)

-- what was cast was cast after its notice
notice_of : (rs : List Happened) (r : Happened) → CastInPhase rs r → CastAfterNotice rs r
notice_of rs (happened.Cast p proto phase vote value message) k = open_heard p (record { proto = proto; phase = phase }) rs k
notice_of rs _ k = tt

all_noticed : (rs : List Happened) → Along CastInPhase rs → Along CastAfterNotice rs
all_noticed [] k = tt
all_noticed (r ∷ rs) k = (notice_of rs r k.0, all_noticed rs k.1)

pub casts_after_notice : (h : History) → CastsInPhase h → CastsAfterNotice h
casts_after_notice h k = all_along CastAfterNotice h (all_noticed (records_of h) (along_all CastInPhase h k))

-- ---- once cast, the phase is not due again

module _ (p : ProviderId) (o : OpenPhase) where
  -- where a ballot is due, it is of another phase
  abbrev Shut : List Happened → Type 0
  Shut rs = ballot_due p rs ≡ true → open_phase p rs ≡ Some o → ⊥

  abbrev Past : List Happened → Type 0
  Past rs = HeardOpened rs p o × Shut rs

  shut_on : (rs : List Happened) (r : Happened) → NotReopened rs r → Past rs → Past (r ∷ rs)
  shut_on rs (happened.Heard u v g i e ms value) law k = (more_opened _ rs p o k.0, at (same_provider u p) refl)
    where
      reopened : u ≡ p → opens e v i ≡ Some o → ⊥
      reopened same z = law o z (subst (λ q. HeardOpened rs q o) (sym same) k.0)

      of_entry : (e : Entry) → (opens e v i ≡ Some o → ⊥) → due_by e (ballot_due p rs) ≡ true → open_by e v i (open_phase p rs) ≡ Some o → ⊥
      of_entry (Late proto phase ps) no_more a b = k.1 a b
      of_entry (Begin x) no_more a b = no_more b
      of_entry (Phase c) no_more a b = no_more b
      of_entry _ no_more a b = absurd (cc)

      at : (b : Bool) → same_provider u p ≡ b → (if b then due_by e (ballot_due p rs) else ballot_due p rs) ≡ true → (if b then open_by e v i (open_phase p rs) else open_phase p rs) ≡ Some o → ⊥
      at true q a c = of_entry e (reopened (provider_same u p q)) a c
      at false q a c = k.1 a c
  shut_on rs (happened.Cast u proto phase vote value message) law k = (more_opened _ rs p o k.0, at (same_provider u p))
    where
      at : (b : Bool) → (if b then false else ballot_due p rs) ≡ true → open_phase p rs ≡ Some o → ⊥
      at true a c = absurd (cc)
      at false a c = k.1 a c
  shut_on rs _ law k = (more_opened _ rs p o k.0, k.1)

  -- what was cast is past
  cast_past : (rs : List Happened) (vote : Vote) (x y : Option (List ℕ)) → Along CastInPhase rs → Along NotReopened rs → Has (happened.Cast p o.proto o.phase vote x y) rs → Past rs
  cast_past [] vote x y phased opened h = absurd h
  cast_past (r ∷ rs) vote x y phased opened (inr h) = shut_on rs r opened.0 (cast_past rs vote x y phased.1 opened.1 h)
  cast_past (r ∷ rs) vote x y phased opened (inl q) =
      subst (λ z. Past (z ∷ rs)) q (more_opened _ rs p o (open_heard p o rs (subst (CastInPhase rs) (sym q) phased.0)), λ a b. cast (ap (λ t. if t then false else ballot_due p rs) (sym (provider_self p)) ∙ a))
    where
      cast : false ≡ true → ⊥
      cast e = absurd (cc)

not_before : (rs : List Happened) (r : Happened) → CastWhenDue rs r → CastInPhase rs r → Along CastInPhase rs → Along NotReopened rs → NotCastBefore rs r
not_before rs (happened.Cast p proto phase vote value message) due phase_is phased opened =
    λ v x y h. (cast_past p (record { proto = proto; phase = phase }) rs v x y phased opened h).1 due phase_is
not_before rs _ due phase_is phased opened = tt

all_once : (rs : List Happened) → Along CastWhenDue rs → Along CastInPhase rs → Along NotReopened rs → Along NotCastBefore rs
all_once [] due phased opened = tt
all_once (r ∷ rs) due phased opened = (not_before rs r due.0 phased.0 phased.1 opened.1, all_once rs due.1 phased.1 opened.1)

-- so each casts once
pub casts_once : (h : History) → CastsWhenDue h → CastsInPhase h → PhasesOpenOnce h → CastsOnce h
casts_once h due phased opened =
    all_along NotCastBefore h (all_once (records_of h) (along_all CastWhenDue h due) (along_all CastInPhase h phased) (along_all NotReopened h opened))
