-- No provider hears a phase opened again, so each casts once in a phase.
use Rattle.std.proofs.Common.{◌≡◌, ℕ, List, [], ◌∷◌, Option, Some, None, sym, ap, ◌∙◌, subst, inl, inr, arith}
use Rattle.rsct_packet.specs.declared.ids.ProviderId.{ProviderId}
use Rattle.rsct_packet.specs.declared.ids.ProtoId.{ProtoId}
use Rattle.rsct_packet.specs.Search.{Has}
use Rattle.client_callbacks.specs.declared.ballot.Filled.{Filled}
use Rattle.proposal_core.specs.declared.entry.Entry.{Entry}
use Rattle.node_state.specs.declared.happened.Happened.{Happened}
use Rattle.node_state.specs.declared.happened.Happened.TheVariants as happened
use Rattle.run_safety.specs.Past.{History, EachRecord, Within, earlier, records_of}
use Rattle.row_laws.specs.hearing.Hearing.{last_heard}
use Rattle.provider_laws.specs.attending.Places.{IsNext, NextHeard, PlacesHeardOnce}
use Rattle.provider_laws.proofs.attending.Law.{places_once}
use Rattle.provider_laws.specs.single_casts.Single.{NotCastBefore, ProvidersHearPhasesOnce, ProvidersCastOnce, BallotsKeptAsCast}
use Rattle.provider_laws.proofs.single_casts.Heeding.{NoneAgain, PlaceAnew}
use Rattle.provider_laws.proofs.single_casts.Single.{Along, along_all, casts_once}
use Rattle.provider_laws.proofs.single_casts.Law.{casts_when_due, casts_in_phase, kept_recorded}
use Rattle.provider_laws.proofs.single_casts.Reopening.{phases_once}

-- the place after the one that was heard last is not that one
none_again : (p : ProviderId) (e : Entry) (o : Option ℕ) (i : ℕ) → IsNext p e o i → NoneAgain o i
none_again p e None i k q = absurd (cc)
none_again p e (Some j) i k q = let same : j ≡ i = cc in omega (arith, k, same)

place_anew : (now : List Happened) (before : History) (r : Happened) → NextHeard now before r → PlaceAnew now before r
place_anew now before (happened.Heard p v g i e ms value) k = none_again p e (last_heard p v g (earlier now before)) i k.0
place_anew now before _ k = tt

now_anew : (now : List Happened) (before : History) → Within NextHeard now before → Within PlaceAnew now before
now_anew [] before k = tt
now_anew (r ∷ now) before k = (place_anew now before r k.0, now_anew now before k.1)

all_anew : (h : History) → PlacesHeardOnce h → EachRecord PlaceAnew h
all_anew [] k = tt
all_anew (e ∷ before) k = (now_anew e.records before k.0, all_anew before k.1)

pub hear_phases_once : ProvidersHearPhasesOnce
hear_phases_once c w k = phases_once c (λ w k. all_anew w.before (places_once c w k)) w k

pub cast_once : ProvidersCastOnce
cast_once c w k = casts_once w.before (casts_when_due c w k) (casts_in_phase c w k) (hear_phases_once c w k)

-- ---- kept ballots

-- two records of one provider, protocol and phase are one
one_cast : (rs : List Happened) (p : ProviderId) (proto : ProtoId) (phase : ℕ) (f h : Filled) → Along NotCastBefore rs → Has (happened.Cast p proto phase f.vote f.value f.message) rs → Has (happened.Cast p proto phase h.vote h.value h.message) rs → f ≡ h
one_cast [] p proto phase f h k a b = absurd a
one_cast (r ∷ rs) p proto phase f h k (inr a) (inr b) = one_cast rs p proto phase f h k.1 a b
one_cast (r ∷ rs) p proto phase f h k (inl a) (inr b) = absurd (subst (NotCastBefore rs) (sym a) k.0 h.vote h.value h.message b)
one_cast (r ∷ rs) p proto phase f h k (inr a) (inl b) = absurd (subst (NotCastBefore rs) (sym b) k.0 f.vote f.value f.message a)
one_cast (r ∷ rs) p proto phase f h k (inl a) (inl b) =
    let q = a ∙ sym b in
    let x : f.vote ≡ h.vote = cc in
    let y : f.value ≡ h.value = cc in
    let z : f.message ≡ h.message = cc in
    (λ i. record { vote = x i; value = y i; message = z i })

pub kept_as_cast : BallotsKeptAsCast
kept_as_cast c w k n s up a b ha hb p proto phase =
    let x = kept_recorded c w k n s up a ha in
    let y = kept_recorded c w k n s up b hb in
    let there = subst (λ (z : ProviderId × ProtoId × ℕ). Has (happened.Cast z.0 z.1 z.2 y.filled.vote y.filled.value y.filled.message) (records_of w.before)) (λ i. (sym p i, sym proto i, sym phase i)) y.there in
    let same : x.filled ≡ y.filled = one_cast (records_of w.before) a.provider a.proto a.phase x.filled y.filled (along_all NotCastBefore w.before (cast_once c w k)) x.there there in
    x.is ∙ ap (λ f. Some f) same ∙ sym y.is
