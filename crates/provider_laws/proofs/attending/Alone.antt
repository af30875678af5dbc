-- Nobody stands twice among the members and running joiners of a state, whatever entries come that name no joiner twice.
use Rattle.std.proofs.Common.{◌≡◌, ℕ, ◌+◌, List, [], ◌∷◌, ◌++◌, Option, Some, None, Bool, true, false, refl, sym, subst, inl, inr, ⊎_elim, append-nil}
use Rattle.std.specs.Prelude.{not, filter, length, nat_le, is_none, if◌then◌else◌}
use Rattle.std.proofs.lemmas.Bool.{and_parts}
use Rattle.rsct_packet.specs.declared.ids.ProviderId.{ProviderId}
use Rattle.rsct_packet.specs.declared.ids.ViewId.{ViewId}
use Rattle.rsct_packet.specs.Providers.{among, none_among, differ}
use Rattle.rsct_packet.specs.Search.{Has}
use Rattle.rsct_packet.proofs.HasLaws.{has_filter, has_append, append_has_left, append_has_right, all_has}
use Rattle.proposal_core.specs.declared.proposal.Proposal.{Proposal}
use Rattle.proposal_core.specs.declared.proposal.Proposal.TheVariants.{Join, Leave, Fail, Expel}
use Rattle.proposal_core.specs.declared.entry.Entry.{Entry}
use Rattle.proposal_core.specs.declared.entry.Entry.TheVariants.{Once, Begin, Phase, Approve, Reject, Late}
use Rattle.proposal_core.specs.declared.group_state.GroupState.{GroupState}
use Rattle.proposal_core.specs.declared.group_state.Running.{Running}
use Rattle.proposal_core.specs.Fold.{max_providers, joins_of, joiners_in, present, fallen_of, can_begin, fits, without, effect, first_value, first_attrs, begun, replace_proposed, approve, take_rejection, reject, advance, next_phase, apply, after_if, after}
use Rattle.row_laws.proofs.hearing.Handing.{has_among}
use Rattle.provider_laws.specs.attending.Places.{Alone, Named}
use Rattle.row_laws.proofs.failed_rows.Grows.{valued_present, attrs_members}

pub differ_alone : (xs : List ProviderId) → differ xs ≡ true → Alone xs
differ_alone [] e = tt
differ_alone (x ∷ xs) e =
    let k = and_parts (not (among xs x)) (differ xs) e in (λ h. out (among xs x) k.0 (has_among xs x h), differ_alone xs k.1)
  where
    out : (b : Bool) → not b ≡ true → b ≡ true → ⊥
    out true q z = cc
    out false q z = cc

pub alone_filter : (f : ProviderId → Bool) (xs : List ProviderId) → Alone xs → Alone (filter f xs)
alone_filter f [] k = tt
alone_filter f (x ∷ xs) k = by (f x) (alone_filter f xs k.1)
  where
    by : (b : Bool) → Alone (filter f xs) → Alone (if b then x ∷ filter f xs else filter f xs)
    by true rest = (λ h. k.0 (has_filter f x xs h).0, rest)
    by false rest = rest

pub alone_append : (xs ys : List ProviderId) → Alone xs → Alone ys → ((p : ProviderId) → Has p xs → Has p ys → ⊥) → Alone (xs ++ ys)
alone_append [] ys a b c = b
alone_append (x ∷ xs) ys a b c =
    (λ h. ⊎_elim (λ (i : Has x xs). a.0 i) (λ (i : Has x ys). c x (inl refl) i) (has_append x xs ys h), alone_append xs ys a.1 b (λ p i j. c p (inr i) j))

pub alone_left : (xs ys : List ProviderId) → Alone (xs ++ ys) → Alone xs
alone_left [] ys a = tt
alone_left (x ∷ xs) ys a = (λ h. a.0 (append_has_left x xs ys h), alone_left xs ys a.1)

pub alone_right : (xs ys : List ProviderId) → Alone (xs ++ ys) → Alone ys
alone_right [] ys a = a
alone_right (x ∷ xs) ys a = alone_right xs ys a.1

pub alone_apart : (xs ys : List ProviderId) (p : ProviderId) → Alone (xs ++ ys) → Has p xs → Has p ys → ⊥
alone_apart [] ys p a h k = h
alone_apart (x ∷ xs) ys p a (inl e) k = a.0 (append_has_right x xs ys (subst (λ z. Has z ys) e k))
alone_apart (x ∷ xs) ys p a (inr h) k = alone_apart xs ys p a.1 h k

-- ---- what an entry makes of the members and the joiners

none_is : (xs ps : List ProviderId) (p : ProviderId) → none_among xs ps ≡ true → Has p xs → Has p ps → ⊥
none_is xs ps p e h k = out (among xs p) (all_has (λ q. not (among xs q)) ps p e k) (has_among xs p h)
  where
    out : (b : Bool) → not b ≡ true → b ≡ true → ⊥
    out true q z = cc
    out false q z = cc

-- who joins is no member
joins_apart : (s : GroupState) (x : Proposal) → can_begin s x ≡ true → (p : ProviderId) → Has p s.members → Has p (joins_of x) → ⊥
unfolding can_begin
joins_apart s (Join ps attrs n) e p h k = none_is s.members ps p (and_parts (none_among s.members ps) (nat_le (length s.members + length ps) max_providers) e).0 h k
joins_apart s _ e p h k = k

begins_alone : (s : GroupState) (x : Proposal) → Alone (present s) → Alone (joins_of x) → can_begin s x ≡ true → Alone (s.members ++ joins_of x)
begins_alone s x a n e = alone_append s.members (joins_of x) (alone_left s.members (joiners_in s.running) a) n (joins_apart s x e)

-- some are left out, and nothing runs
left_alone : (f : ProviderId → Bool) (xs : List ProviderId) → Alone (xs ++ []) → Alone (filter f xs ++ [])
left_alone f xs a = subst Alone (sym (append-nil (filter f xs))) (alone_filter f xs (alone_left xs [] a))

effect_alone : (s : GroupState) (x : Proposal) → Alone (s.members ++ joins_of x) → Alone (present (effect (record s { running = None }) x))
unfolding effect without
effect_alone s (Join ps attrs n) a = subst Alone (sym (append-nil (s.members ++ ps))) a
effect_alone s (Leave p r) a = left_alone (λ q. not (among (p ∷ []) q)) s.members a
effect_alone s (Fail out) a = left_alone (λ q. not (among (fallen_of out) q)) s.members a
effect_alone s (Expel p r out) a = left_alone (λ q. not (among out q)) s.members a
effect_alone s _ a = a

rejected_alone : (s : GroupState) (x : Proposal) → Alone (s.members ++ joins_of x) → Alone (present (take_rejection (record s { running = None }) x))
unfolding take_rejection without
rejected_alone s (Join ps attrs n) a = subst Alone (sym (append-nil s.members)) (alone_left s.members ps a)
rejected_alone s (Fail out) a = left_alone (λ q. not (among (fallen_of out) q)) s.members a
rejected_alone s _ a = a

approved_alone : (s : GroupState) (v : ViewId) (i : ℕ) (value : Option (List ℕ)) (run : Running) → Alone (s.members ++ joins_of run.proposal) → Alone (present (approve s v i value (Some run)))
unfolding approve
approved_alone s v i value run a =
    subst Alone (sym (valued_present (effect (record s { running = None }) run.proposal) v i (replace_proposed value run.proposed))) (effect_alone s run.proposal a)

applied_alone : (s : GroupState) (v : ViewId) (i : ℕ) (e : Entry) → Alone (present s) → Named e → fits s e ≡ true → Alone (present (apply s v i e))
unfolding apply approve begun fits reject next_phase advance
applied_alone s v i (Once x) a n q =
    let k = begins_alone s x a n (and_parts (is_none s.running) (can_begin s x) q).1 in
    approved_alone (begun s v i x) v i None (record { proto = record { view = v; place = i }; proposal = x; phase = 1; proposed = first_value x }) (subst (λ ms. Alone (ms ++ joins_of x)) (sym (attrs_members s (first_attrs s x))) k)
applied_alone s v i (Begin x) a n q =
    let k = begins_alone s x a n (and_parts (is_none s.running) (can_begin s x) q).1 in
    subst (λ ms. Alone (ms ++ joins_of x)) (sym (attrs_members s (first_attrs s x))) k
applied_alone s v i (Phase c) a n q = by s.running a
  where
    by : (o : Option Running) → Alone (s.members ++ joiners_in o) → Alone (present (elim o as (λ _. GroupState) [ None ↦ s | Some run ↦ record s { running = Some (advance c.value run) } ]))
    by None b = a
    by (Some run) b = b
applied_alone s v i (Approve c) a n q = by s.running a
  where
    by : (o : Option Running) → Alone (s.members ++ joiners_in o) → Alone (present (approve s v i c.value o))
    by None b = a
    by (Some run) b = approved_alone s v i c.value run b
applied_alone s v i (Reject c) a n q = by s.running a
  where
    by : (o : Option Running) → Alone (s.members ++ joiners_in o) → Alone (present (reject s o))
    by None b = a
    by (Some run) b = rejected_alone s run.proposal b
applied_alone s v i (Late proto phase ps) a n q = a

pub after_alone : (s : GroupState) (v : ViewId) (i : ℕ) (e : Entry) → Alone (present s) → Named e → Alone (present (after s v i e))
unfolding after after_if
after_alone s v i e a n = by (fits s e) refl
  where
    by : (b : Bool) → fits s e ≡ b → Alone (present (after_if s v i e b))
    by true q = applied_alone s v i e a n q
    by false q = a
