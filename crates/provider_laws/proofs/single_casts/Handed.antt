-- What handing an entry on leaves of the phases that are open and of the ballots that are kept.
use Rattle.std.proofs.Common.{◌≡◌, ℕ, List, [], ◌∷◌, ◌++◌, Option, Some, None, Bool, true, false, refl, sym, ap, ◌∙◌, subst, inl, inr, ◌⊎◌, ⊎_elim}
use Rattle.std.specs.Prelude.{not, ◌==◌, ◌&&◌, find, fold, flat_map, if◌then◌else◌, filter}
use Rattle.rsct_packet.specs.declared.ids.ProviderId.{ProviderId}
use Rattle.rsct_packet.specs.declared.ids.ProtoId.{ProtoId}
use Rattle.rsct_packet.specs.Ids.{same_proto}
use Rattle.rsct_packet.specs.Providers.{same_provider}
use Rattle.rsct_packet.specs.Search.{Has, edit_where}
use Rattle.rsct_packet.proofs.HasLaws.{has_filter, filter_has, has_append, append_has_left, append_has_right}
use Rattle.proposal_core.specs.declared.proposal.Proposal.{Proposal}
use Rattle.proposal_core.specs.declared.proposal.Proposal.TheVariants.{Join}
use Rattle.proposal_core.specs.declared.entry.Entry.{Entry}
use Rattle.proposal_core.specs.declared.entry.Entry.TheVariants.{Once, Begin, Phase, Approve, Reject, Late}
use Rattle.proposal_core.specs.declared.group_state.GroupState.{GroupState}
use Rattle.client_callbacks.specs.declared.ballot.Filled.{Filled}
use Rattle.session_state.specs.declared.casts.Cast.{Cast}
use Rattle.session_state.specs.declared.state.OpenPhase.{OpenPhase}
use Rattle.session_state.specs.declared.state.KeptBallot.{KeptBallot}
use Rattle.session_state.specs.declared.state.Provider.{Provider}
use Rattle.session_state.specs.declared.state.SessionState.{SessionState}
use Rattle.session_state.specs.State.{is_provider, is_kept_in, provider_of, with_provider, end_request, without_providers}
use Rattle.session_state.specs.HandOn.{kept_ended, kept_after, beginners, hearers, taking_part, part_taken, asks, running_phase, is_late, opened_after, open_phases, kept_by, keep_casts, proposal_begun, requests_after, removed_from, casts_out, heard, handed_on}
use Rattle.node_state.proofs.NameOrder.{text_other}
use Rattle.step_refinement.proofs.SessionLaws.{provider_same, provider_self}
use Rattle.provider_laws.specs.single_casts.Single.{SameBallot, Apart}
use Rattle.row_laws.proofs.hearing.Sessions.{found_is, fewer_without, fewer_has}
use Rattle.row_laws.proofs.hearing.Handing.{edit_back, edit_own}

-- what the notice leaves open for a provider that it was handed to, which is no Late
abbrev pub left_open : Entry → GroupState → ProviderId → Option OpenPhase
left_open e after p = if asks e after p then running_phase after.running else None

-- the notice opens or closes for those that hear it; a Late leaves what is open
abbrev pub Opening : Entry → GroupState → List ProviderId → ProviderId → Provider → Provider → Type 0
Opening e after ps p x y =
    ((y.opened ≡ left_open e after p) × Has p ps) ⊎ ((y.opened ≡ x.opened) × ((is_late e ≡ true) ⊎ (Has p ps → ⊥)))

-- ---- phases

module _ (e : Entry) (after : GroupState) where
  keeps : (x : Provider) → (opened_after e after x).provider ≡ x.provider
  unfolding opened_after
  keeps x = by (is_late e)
    where
      by : (b : Bool) → (if b then x else record x { opened = if asks e after x.provider then running_phase after.running else None }).provider ≡ x.provider
      by true = refl
      by false = refl

  late_same : (x : Provider) → is_late e ≡ true → (opened_after e after x).opened ≡ x.opened
  unfolding opened_after
  late_same x late = ap (λ b. (if b then x else record x { opened = if asks e after x.provider then running_phase after.running else None }).opened) late

  opened_is : (x : Provider) → is_late e ≡ false → (opened_after e after x).opened ≡ left_open e after x.provider
  unfolding opened_after
  opened_is x late = ap (λ b. (if b then x else record x { opened = if asks e after x.provider then running_phase after.running else None }).opened) late

  opens_fold : (ps : List ProviderId) (u : SessionState) (p : ProviderId) (y : Provider) → provider_of (open_phases u e after ps) p ≡ Some y → (x : Provider) × (provider_of u p ≡ Some x) × Opening e after ps p x y
  unfolding open_phases provider_of with_provider
  opens_fold [] u p y found = (y, found, inr (refl, inr (λ h. h)))
  opens_fold (q ∷ ps) u p y found =
      let k = opens_fold ps (with_provider u q (opened_after e after)) p y found in
      let j = edit_back q (opened_after e after) keeps p u.providers k.0 k.1 in
      (j.0, j.1, by k.0 k.1 k.2 j.0 j.1 j.2 (is_late e) refl (same_provider p q) refl)
    where
      by : (z : Provider) → find (is_provider p) (edit_where (is_provider q) (opened_after e after) u.providers) ≡ Some z → Opening e after ps p z y → (x : Provider) → find (is_provider p) u.providers ≡ Some x → (z ≡ x) ⊎ ((z ≡ opened_after e after x) × (p ≡ q)) → (late : Bool) → is_late e ≡ late → (here : Bool) → same_provider p q ≡ here → Opening e after (q ∷ ps) p x y
      by z there (inl a) x found how late is here at = inl (a.0, inr a.1)
      by z there (inr a) x found (inl how) true is here at = inr (a.0 ∙ ap (λ (m : Provider). m.opened) how, inl is)
      by z there (inr a) x found (inr how) true is here at = inr (a.0 ∙ ap (λ (m : Provider). m.opened) how.0 ∙ late_same x is, inl is)
      by z there (inr a) x found (inr how) false is here at =
          inl (a.0 ∙ ap (λ (m : Provider). m.opened) how.0 ∙ opened_is x is ∙ ap (left_open e after) (found_is u p x found), inl how.1)
      by z there (inr a) x found (inl how) false is true at =
          let same : p ≡ q = provider_same p q at in
          let o = edit_own p (opened_after e after) keeps u.providers z (subst (λ m. find (is_provider p) (edit_where (is_provider m) (opened_after e after) u.providers) ≡ Some z) (sym same) there) in
          let its : z.provider ≡ p = ap (λ (m : Provider). m.provider) how ∙ found_is u p x found in
          inl (a.0 ∙ ap (λ (m : Provider). m.opened) o.1 ∙ opened_is o.0 is ∙ ap (left_open e after) (sym (keeps o.0) ∙ ap (λ (m : Provider). m.provider) (sym o.1) ∙ its), inl same)
      by z there (inr a) x found (inl how) false is false at = inr (a.0 ∙ ap (λ (m : Provider). m.opened) how, ⊎_elim (λ (l : is_late e ≡ true). inl l) (λ (out : Has p ps → ⊥). inr (away out)) a.1)
        where
          away : (Has p ps → ⊥) → Has p (q ∷ ps) → ⊥
          away out (inl s) = let m : same_provider p q ≡ true = subst (λ m. same_provider p m ≡ true) s (provider_self p) in let u : true ≡ false = sym m ∙ at in absurd (cc)
          away out (inr h) = out h

parts_open : (ps : List ProviderId) (u : SessionState) (p : ProviderId) (y : Provider) → provider_of (part_taken u ps) p ≡ Some y → (x : Provider) × (provider_of u p ≡ Some x) × (y.opened ≡ x.opened)
unfolding part_taken provider_of with_provider
parts_open [] u p y found = (y, found, refl)
parts_open (q ∷ ps) u p y found =
    let k = parts_open ps (with_provider u q taking_part) p y found in
    let j = edit_back q taking_part (λ x. refl) p u.providers k.0 k.1 in
    (j.0, j.1, k.2 ∙ ⊎_elim (λ (a : k.0 ≡ j.0). ap (λ (m : Provider). m.opened) a) (λ (a : (k.0 ≡ taking_part j.0) × (p ≡ q)). ap (λ (m : Provider). m.opened) a.0) j.2)

-- ---- ballots

parts_kept : (ps : List ProviderId) (u : SessionState) → (part_taken u ps).kept ≡ u.kept
unfolding part_taken with_provider
parts_kept [] u = refl
parts_kept (p ∷ ps) u = parts_kept ps (with_provider u p taking_part)

opens_kept : (e : Entry) (after : GroupState) (ps : List ProviderId) (u : SessionState) → (open_phases u e after ps).kept ≡ u.kept
unfolding open_phases with_provider
opens_kept e after [] u = refl
opens_kept e after (p ∷ ps) u = opens_kept e after ps (with_provider u p (opened_after e after))

abbrev Requested : SessionState → SessionState → Type 0
Requested u w = (w.providers ≡ u.providers) × (w.kept ≡ u.kept)

all_ended : (ps : List ProviderId) (u : SessionState) → Requested u (fold (λ t (p : ProviderId). end_request t p p.join) u ps)
unfolding end_request
all_ended [] u = (refl, refl)
all_ended (p ∷ ps) u = all_ended ps (end_request u p p.join)

begun_same : (u : SessionState) (x : Proposal) → Requested u (proposal_begun u x)
unfolding proposal_begun end_request
begun_same u (Join ps attrs n) = all_ended ps u
begun_same u _ = (refl, refl)

requests_same : (u : SessionState) (e : Entry) → Requested u (requests_after u e)
unfolding requests_after
requests_same u (Once x) = begun_same u x
requests_same u (Begin x) = begun_same u x
requests_same u _ = (refl, refl)

after_providers : (u : SessionState) (h : List ℕ) (e : Entry) → (kept_after u h e).providers ≡ u.providers
unfolding kept_after kept_ended
after_providers u h (Once x) = refl
after_providers u h (Begin x) = refl
after_providers u h (Phase c) = refl
after_providers u h (Approve c) = refl
after_providers u h (Reject c) = refl
after_providers u h (Late proto phase ps) = refl

-- a ballot of another group stays
ended_stays : (u : SessionState) (h : List ℕ) (proto : ProtoId) (phase : ℕ) (k : KeptBallot) → Has k u.kept → (k.group ≡ h → ⊥) → Has k (kept_ended u h proto phase).kept
unfolding kept_ended
ended_stays u h proto phase k i ne =
    filter_has (λ k. not (is_kept_in h proto phase k)) k u.kept i (ap (λ b. not (b && same_proto k.proto proto && k.phase == phase)) (text_other k.group h ne))

after_stays : (u : SessionState) (h : List ℕ) (e : Entry) (k : KeptBallot) → Has k u.kept → (k.group ≡ h → ⊥) ⊎ (is_late e ≡ true) → Has k (kept_after u h e).kept
unfolding kept_after
after_stays u h (Phase c) k i (inl ne) = ended_stays u h c.proto c.phase k i ne
after_stays u h (Approve c) k i (inl ne) = ended_stays u h c.proto c.phase k i ne
after_stays u h (Reject c) k i (inl ne) = ended_stays u h c.proto c.phase k i ne
after_stays u h (Phase c) k i (inr late) = absurd (cc)
after_stays u h (Approve c) k i (inr late) = absurd (cc)
after_stays u h (Reject c) k i (inr late) = absurd (cc)
after_stays u h _ k i how = i

ended_back : (u : SessionState) (h : List ℕ) (proto : ProtoId) (phase : ℕ) (k : KeptBallot) → Has k (kept_ended u h proto phase).kept → Has k u.kept
unfolding kept_ended
ended_back u h proto phase k i = (has_filter (λ k. not (is_kept_in h proto phase k)) k u.kept i).0

after_back : (u : SessionState) (h : List ℕ) (e : Entry) (k : KeptBallot) → Has k (kept_after u h e).kept → Has k u.kept
unfolding kept_after
after_back u h (Phase c) k i = ended_back u h c.proto c.phase k i
after_back u h (Approve c) k i = ended_back u h c.proto c.phase k i
after_back u h (Reject c) k i = ended_back u h c.proto c.phase k i
after_back u h _ k i = i

after_apart : ((f : KeptBallot → Bool) (ks : List KeptBallot) → Apart ks → Apart (filter f ks)) → (u : SessionState) (h : List ℕ) (e : Entry) → Apart u.kept → Apart (kept_after u h e).kept
unfolding kept_after kept_ended
after_apart of_filter u h (Phase c) k = of_filter _ u.kept k
after_apart of_filter u h (Approve c) k = of_filter _ u.kept k
after_apart of_filter u h (Reject c) k = of_filter _ u.kept k
after_apart of_filter u h _ k = k

-- ---- the whole

module _ (s : SessionState) (g : List ℕ) (before after : GroupState) (e : Entry) (bs : List (Option Filled)) where
  abbrev ps : List ProviderId
  ps = hearers s g before e

  abbrev new : List ProviderId
  new = beginners s g e

  abbrev cs : List Cast
  cs = casts_out s g before after e bs

  abbrev a : SessionState
  a = kept_after s g e

  abbrev t : SessionState
  t = part_taken a new

  abbrev o : SessionState
  o = open_phases t e after ps

  abbrev u : SessionState
  u = keep_casts o g cs

  abbrev w : SessionState
  w = requests_after u e

  -- the ballots that the notice brings
  abbrev pub brought : List KeptBallot
  brought = flat_map (λ (c : Cast). kept_by g c.provider c.cast) cs

  found_before : (p : ProviderId) (y : Provider) → provider_of (without_providers w (removed_from after ps)) p ≡ Some y → provider_of o p ≡ Some y
  unfolding provider_of keep_casts
  found_before p y found =
      ap (λ (xs : List Provider). find (is_provider p) xs) (sym (requests_same u e).0) ∙ (fewer_without w (removed_from after ps)).providers p y found

  pub handed_open : (p : ProviderId) (y : Provider) → provider_of (handed_on s g before after e bs) p ≡ Some y → (x : Provider) × (provider_of s p ≡ Some x) × Opening e after (hearers s g before e) p x y
  unfolding handed_on heard provider_of
  handed_open p y found =
      let k = opens_fold e after ps t p y (found_before p y found) in
      let j = parts_open new a p k.0 k.1 in
      (j.0, ap (λ (xs : List Provider). find (is_provider p) xs) (sym (after_providers s g e)) ∙ j.1, by k.0 k.2 j.0 j.2)
    where
      by : (x : Provider) → Opening e after ps p x y → (z : Provider) → x.opened ≡ z.opened → Opening e after ps p z y
      by x (inl i) z q = inl i
      by x (inr i) z q = inr (i.0 ∙ q, i.1)

  kept_there : (k : KeptBallot) → Has k u.kept → (y : Provider) → provider_of (without_providers w (removed_from after ps)) k.provider ≡ Some y → Has k (without_providers w (removed_from after ps)).kept
  kept_there k i y found = (fewer_without w (removed_from after ps)).still y k found (subst (Has k) (sym (requests_same u e).1) i)

  -- a ballot of another group, or at a Late, stays as long as its provider does
  pub handed_stays : (k : KeptBallot) → Has k s.kept → (k.group ≡ g → ⊥) ⊎ (is_late e ≡ true) → (y : Provider) → provider_of (handed_on s g before after e bs) k.provider ≡ Some y → Has k (handed_on s g before after e bs).kept
  unfolding handed_on heard keep_casts
  handed_stays k i how y found =
      kept_there k (append_has_left k o.kept brought (subst (Has k) (sym (parts_kept new a) ∙ sym (opens_kept e after ps t)) (after_stays s g e k i how))) y found

  pub handed_brings : (k : KeptBallot) → Has k brought → (y : Provider) → provider_of (handed_on s g before after e bs) k.provider ≡ Some y → Has k (handed_on s g before after e bs).kept
  unfolding handed_on heard keep_casts
  handed_brings k i y found = kept_there k (append_has_right k o.kept brought i) y found

  pub handed_from : (k : KeptBallot) → Has k (handed_on s g before after e bs).kept → Has k s.kept ⊎ Has k brought
  unfolding handed_on heard keep_casts
  handed_from k i =
      let j : Has k u.kept = subst (Has k) (requests_same u e).1 (fewer_has w (without_providers w (removed_from after ps)) (fewer_without w (removed_from after ps)) k i) in
      ⊎_elim (λ (b : Has k o.kept). inl (after_back s g e k (subst (Has k) (opens_kept e after ps t ∙ parts_kept new a) b))) (λ (b : Has k brought). inr b) (has_append k o.kept brought j)

  -- what is kept is apart, where what the notice brings is
  pub handed_apart : ((f : KeptBallot → Bool) (ks : List KeptBallot) → Apart ks → Apart (filter f ks)) → ((xs ys : List KeptBallot) → Apart xs → Apart ys → ((x y : KeptBallot) → Has x xs → Has y ys → SameBallot x y → ⊥) → Apart (xs ++ ys)) → Apart s.kept → Apart brought → ((x y : KeptBallot) → Has x s.kept → Has y brought → SameBallot x y → ⊥) → Apart (handed_on s g before after e bs).kept
  unfolding handed_on heard keep_casts
  handed_apart of_filter of_append old new cross =
      let end = fewer_without w (removed_from after ps) in
      let there : o.kept ≡ a.kept = opens_kept e after ps t ∙ parts_kept new_ones a in
      let both : Apart (o.kept ++ brought) = of_append o.kept brought (subst Apart (sym there) (after_apart of_filter s g e old)) new (λ x y i j q. cross x y (after_back s g e x (subst (Has x) there i)) j q) in
      subst Apart (sym end.rest.1) (of_filter end.rest.0 w.kept (subst Apart (sym (requests_same u e).1) both))
    where
      new_ones : List ProviderId
      new_ones = beginners s g e
