-- Nobody becomes a member or a running joiner but by an entry that names it in a join.
use Rattle.std.proofs.Common.{◌≡◌, ◌⊎◌, ℕ, ◌+◌, List, [], ◌∷◌, ◌++◌, Option, Some, None, Bool, true, false, refl, subst, inl, inr, ⊎_elim}
use Rattle.std.specs.Prelude.{not, ◌||◌, filter}
use Rattle.std.specs.List.{list_any}
use Rattle.rsct_packet.specs.declared.ids.ProviderId.{ProviderId}
use Rattle.rsct_packet.specs.declared.ids.ViewId.{ViewId}
use Rattle.rsct_packet.specs.Providers.{among}
use Rattle.rsct_packet.specs.Search.{Has}
use Rattle.rsct_packet.proofs.HasLaws.{has_filter, has_append, append_has_left}
use Rattle.group_attr.specs.declared.attrs.Attrs.{Attrs}
use Rattle.proposal_core.specs.declared.proposal.Proposal.{Proposal}
use Rattle.proposal_core.specs.declared.proposal.Proposal.TheVariants.{Join, Leave, Fail, Expel}
use Rattle.proposal_core.specs.declared.entry.Entry.{Entry}
use Rattle.proposal_core.specs.declared.entry.Entry.TheVariants.{Once, Begin, Phase, Approve, Reject, Late}
use Rattle.proposal_core.specs.declared.group_state.GroupState.{GroupState}
use Rattle.proposal_core.specs.declared.group_state.Running.{Running}
use Rattle.proposal_core.specs.Fold.{joins_of, joiners_in, present, fallen_of, fits, without, effect, first_value, first_attrs, take_attrs, begun, replace_proposed, take_value, approve, take_rejection, reject, advance, next_phase, apply, after_if, after}
use Rattle.run_safety.specs.Past.{fold_from}
use Rattle.run_safety.specs.Stays.{is_join_of}
use Rattle.row_laws.proofs.hearing.Handing.{among_is, has_among}

-- some are left out, and nothing runs
left_has : (f : ProviderId → Bool) (xs ys : List ProviderId) (p : ProviderId) → Has p (filter f xs ++ []) → Has p (xs ++ ys)
left_has f xs ys p h =
    ⊎_elim (λ (i : Has p (filter f xs)). append_has_left p xs ys (has_filter f p xs i).0) (λ (i : Has p []). absurd i) (has_append p (filter f xs) [] h)

same_has : (xs ys : List ProviderId) (p : ProviderId) → Has p (xs ++ []) → Has p (xs ++ ys)
same_has xs ys p h = ⊎_elim (λ (i : Has p xs). append_has_left p xs ys i) (λ (i : Has p []). absurd i) (has_append p xs [] h)

effect_has : (s : GroupState) (x : Proposal) (p : ProviderId) → Has p (present (effect (record s { running = None }) x)) → Has p (s.members ++ joins_of x)
unfolding effect without
effect_has s (Join ps attrs n) p h = ⊎_elim (λ (i : Has p (s.members ++ ps)). i) (λ (i : Has p []). absurd i) (has_append p (s.members ++ ps) [] h)
effect_has s (Leave q r) p h = left_has (λ z. not (among (q ∷ []) z)) s.members [] p h
effect_has s (Fail out) p h = left_has (λ z. not (among (fallen_of out) z)) s.members [] p h
effect_has s (Expel q r out) p h = left_has (λ z. not (among out z)) s.members [] p h
effect_has s _ p h = h

rejected_has : (s : GroupState) (x : Proposal) (p : ProviderId) → Has p (present (take_rejection (record s { running = None }) x)) → Has p (s.members ++ joins_of x)
unfolding take_rejection without
rejected_has s (Join ps attrs n) p h = same_has s.members ps p h
rejected_has s (Fail out) p h = left_has (λ z. not (among (fallen_of out) z)) s.members [] p h
rejected_has s _ p h = h

pub valued_present : (s : GroupState) (v : ViewId) (i : ℕ) (o : Option (List ℕ)) → present (take_value s v i o) ≡ present s
unfolding take_value
valued_present s v i None = refl
valued_present s v i (Some value) = refl

approved_has : (s : GroupState) (v : ViewId) (i : ℕ) (value : Option (List ℕ)) (run : Running) (p : ProviderId) → Has p (present (approve s v i value (Some run))) → Has p (s.members ++ joins_of run.proposal)
unfolding approve
approved_has s v i value run p h =
    effect_has s run.proposal p (subst (Has p) (valued_present (effect (record s { running = None }) run.proposal) v i (replace_proposed value run.proposed)) h)

pub attrs_members : (s : GroupState) (o : Option Attrs) → (take_attrs s o).members ≡ s.members
unfolding take_attrs
attrs_members s None = refl
attrs_members s (Some attrs) = refl

-- of the members and those that a proposal names in a join
begun_has : (s : GroupState) (x : Proposal) (p : ProviderId) → Has p ((take_attrs s (first_attrs s x)).members ++ joins_of x) → Has p (present s) ⊎ (among (joins_of x) p ≡ true)
begun_has s x p h =
    ⊎_elim (λ (i : Has p s.members). inl (append_has_left p s.members (joiners_in s.running) i)) (λ (i : Has p (joins_of x)). inr (has_among (joins_of x) p i)) (has_append p s.members (joins_of x) (subst (λ ms. Has p (ms ++ joins_of x)) (attrs_members s (first_attrs s x)) h))

applied_has : (s : GroupState) (v : ViewId) (i : ℕ) (e : Entry) (p : ProviderId) → Has p (present (apply s v i e)) → Has p (present s) ⊎ (is_join_of p e ≡ true)
unfolding apply approve begun reject next_phase advance
applied_has s v i (Once x) p h =
    begun_has s x p (approved_has (begun s v i x) v i None (record { proto = record { view = v; place = i }; proposal = x; phase = 1; proposed = first_value x }) p h)
applied_has s v i (Begin x) p h = begun_has s x p h
applied_has s v i (Phase c) p h = inl (by s.running (λ k. k) h)
  where
    by : (o : Option Running) → (Has p (s.members ++ joiners_in o) → Has p (present s)) → Has p (present (elim o as (λ _. GroupState) [ None ↦ s | Some run ↦ record s { running = Some (advance c.value run) } ])) → Has p (present s)
    by None same h = h
    by (Some run) same h = same h
applied_has s v i (Approve c) p h = inl (by s.running (λ k. k) h)
  where
    by : (o : Option Running) → (Has p (s.members ++ joiners_in o) → Has p (present s)) → Has p (present (approve s v i c.value o)) → Has p (present s)
    by None same h = h
    by (Some run) same h = same (approved_has s v i c.value run p h)
applied_has s v i (Reject c) p h = inl (by s.running (λ k. k) h)
  where
    by : (o : Option Running) → (Has p (s.members ++ joiners_in o) → Has p (present s)) → Has p (present (reject s o)) → Has p (present s)
    by None same h = h
    by (Some run) same h = same (rejected_has s run.proposal p h)
applied_has s v i (Late proto phase ps) p h = inl h

-- of those that were there, and those that it names in a join
pub after_has : (s : GroupState) (v : ViewId) (i : ℕ) (e : Entry) (p : ProviderId) → Has p (present (after s v i e)) → Has p (present s) ⊎ (is_join_of p e ≡ true)
unfolding after after_if
after_has s v i e p h = by (fits s e) h
  where
    by : (b : Bool) → Has p (present (after_if s v i e b)) → Has p (present s) ⊎ (is_join_of p e ≡ true)
    by true h = applied_has s v i e p h
    by false h = inl h

-- who is there after an entry that does not name it was there before
pub there_before : (s : GroupState) (v : ViewId) (i : ℕ) (e : Entry) (p : ProviderId) → is_join_of p e ≡ false → among (present (after s v i e)) p ≡ true → among (present s) p ≡ true
there_before s v i e p other h =
    ⊎_elim (λ (k : Has p (present s)). has_among (present s) p k) (λ (k : is_join_of p e ≡ true). absurd (cc)) (after_has s v i e p (among_is (present (after s v i e)) p h))

pub there_first : (v : ViewId) (s : GroupState) (i : ℕ) (es : List Entry) (p : ProviderId) → list_any (is_join_of p) es ≡ false → among (present (fold_from v s i es)) p ≡ true → among (present s) p ≡ true
there_first v s i [] p others h = h
there_first v s i (e ∷ es) p others h =
    by (is_join_of p e) refl others (λ k. there_first v (after s v i e) (i + 1) es p k h)
  where
    by : (b : Bool) → is_join_of p e ≡ b → (b || list_any (is_join_of p) es) ≡ false → (list_any (is_join_of p) es ≡ false → among (present (after s v i e)) p ≡ true) → among (present s) p ≡ true
    by true q k rest = absurd (cc)
    by false q k rest = there_before s v i e p q (rest k)
