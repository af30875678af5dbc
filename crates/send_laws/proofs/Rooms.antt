-- A group keeps room for its providers under any entry.
use Rattle.std.proofs.Common.{◌≡◌, ◌≤◌, ℕ, ◌+◌, List, [], ◌∷◌, length, Some, None, Option, Bool, true, false, refl, sym, subst, arith, length-append}
use Rattle.std.specs.Prelude.{nat_le, is_none}
use Rattle.std.proofs.lemmas.Bool.{and_parts}
use Rattle.std.proofs.lemmas.Bool.Decides.{nat_tests}
use Rattle.rsct_packet.specs.declared.ids.ProviderId.{ProviderId}
use Rattle.rsct_packet.specs.declared.ids.ViewId.{ViewId}
use Rattle.rsct_packet.specs.Providers.{none_among, without_all}
use Rattle.group_attr.specs.declared.attrs.Attrs.{Attrs}
use Rattle.proposal_core.specs.declared.proposal.Proposal.{Proposal}
use Rattle.proposal_core.specs.declared.proposal.Proposal.TheVariants.{Join, Leave, Fail, Expel, State, Message, Attributes, Reflect}
use Rattle.proposal_core.specs.declared.entry.Entry.{Entry}
use Rattle.proposal_core.specs.declared.entry.Entry.TheVariants.{Once, Begin, Phase, Approve, Reject, Late}
use Rattle.proposal_core.specs.declared.group_state.GroupState.{GroupState}
use Rattle.proposal_core.specs.declared.group_state.Running.{Running}
use Rattle.proposal_core.specs.Fold.{max_providers, joins_of, joiners_in, fallen_of, can_begin, fits, without, effect, first_attrs, take_attrs, begun, take_value, replace_proposed, approve, take_rejection, reject, advance, next_phase, apply, after_if, after}
use Rattle.send_laws.specs.Bound.{Room}
use Rattle.send_laws.proofs.Counts.{kept_few}

pub begins_room : (s : GroupState) (x : Proposal) → length s.members ≤ 64 → can_begin s x ≡ true → length s.members + length (joins_of x) ≤ 64
unfolding can_begin
begins_room s (Join ps attrs n) m h =
    let k = (and_parts (none_among s.members ps) (nat_le (length s.members + length ps) max_providers) h).1 in grind (arith, nat_tests)
begins_room s (Leave p r) m h = omega arith
begins_room s (Fail out) m h = omega arith
begins_room s (Expel p r out) m h = omega arith
begins_room s (State p r value) m h = omega arith
begins_room s (Message p r bytes) m h = omega arith
begins_room s (Attributes p r attrs) m h = omega arith
begins_room s (Reflect view place value) m h = omega arith

off : (xs ps : List ProviderId) → length (without_all xs ps) ≤ length xs
off xs ps = kept_few _ xs

attrs_members : (s : GroupState) (a : Option Attrs) → (take_attrs s a).members ≡ s.members
unfolding take_attrs
attrs_members s None = refl
attrs_members s (Some a) = refl

effect_few : (s : GroupState) (x : Proposal) → length (effect s x).members ≤ length s.members + length (joins_of x)
unfolding effect without
effect_few s (Join ps attrs n) = omega (arith, length-append s.members ps)
effect_few s (Leave p r) = omega (arith, off s.members (p ∷ []))
effect_few s (Fail out) = omega (arith, off s.members (fallen_of out))
effect_few s (Expel p r out) = omega (arith, off s.members out)
effect_few s (State p r value) = omega arith
effect_few s (Message p r bytes) = omega arith
effect_few s (Attributes p r attrs) = omega arith
effect_few s (Reflect view place value) = omega arith

effect_idle : (s : GroupState) (x : Proposal) → (effect s x).running ≡ s.running
unfolding effect without
effect_idle s (Join ps attrs n) = refl
effect_idle s (Leave p r) = refl
effect_idle s (Fail out) = refl
effect_idle s (Expel p r out) = refl
effect_idle s (State p r value) = refl
effect_idle s (Message p r bytes) = refl
effect_idle s (Attributes p r attrs) = refl
effect_idle s (Reflect view place value) = refl

valued_room : (s : GroupState) (v : ViewId) (i : ℕ) (value : Option (List ℕ)) → Room s → Room (take_value s v i value)
unfolding take_value
valued_room s v i None h = h
valued_room s v i (Some x) h = h

-- of a state in which nothing runs
idle_room : (s : GroupState) → s.running ≡ None → length s.members ≤ 64 → Room s
idle_room s e h = subst (λ z. length s.members + length (joiners_in z) ≤ 64) (sym e) (omega arith)

approved_room : (s : GroupState) (v : ViewId) (i : ℕ) (value : Option (List ℕ)) (run : Option Running) → length s.members + length (joiners_in run) ≤ 64 → Room s → Room (approve s v i value run)
unfolding approve
approved_room s v i value None h r = r
approved_room s v i value (Some run) h r =
    let k = effect_few (record s { running = None }) run.proposal in
    valued_room (effect (record s { running = None }) run.proposal) v i (replace_proposed value run.proposed) (idle_room (effect (record s { running = None }) run.proposal) (effect_idle (record s { running = None }) run.proposal) (omega arith))

rejection_few : (s : GroupState) (x : Proposal) → (length (take_rejection s x).members ≤ length s.members) × ((take_rejection s x).running ≡ s.running)
unfolding take_rejection without
rejection_few s (Join ps attrs n) = (omega arith, refl)
rejection_few s (Leave p r) = (omega arith, refl)
rejection_few s (Fail out) = (omega (arith, off s.members (fallen_of out)), refl)
rejection_few s (Expel p r out) = (omega arith, refl)
rejection_few s (State p r value) = (omega arith, refl)
rejection_few s (Message p r bytes) = (omega arith, refl)
rejection_few s (Attributes p r attrs) = (omega arith, refl)
rejection_few s (Reflect view place value) = (omega arith, refl)

rejected_room : (s : GroupState) (run : Option Running) → Room s → Room (reject s run)
unfolding reject
rejected_room s None r = r
rejected_room s (Some run) r =
    let k = rejection_few (record s { running = None }) run.proposal in
    let le : length (take_rejection (record s { running = None }) run.proposal).members ≤ length s.members = k.0 in
    idle_room (take_rejection (record s { running = None }) run.proposal) k.1 (omega arith)

next_room : (s : GroupState) (value : Option (List ℕ)) (run : Option Running) → s.running ≡ run → Room s → Room (next_phase s value run)
unfolding next_phase advance
next_room s value None e r = r
next_room s value (Some run) e r = subst (λ z. length s.members + length (joiners_in z) ≤ 64) e r

begun_room : (s : GroupState) (v : ViewId) (i : ℕ) (x : Proposal) → Room s → can_begin s x ≡ true → Room (begun s v i x)
unfolding begun
begun_room s v i x r h =
    subst (λ z. length z + length (joins_of x) ≤ 64) (sym (attrs_members s (first_attrs s x))) (begins_room s x (omega arith) h)

applied_room : (s : GroupState) (v : ViewId) (i : ℕ) (e : Entry) → fits s e ≡ true → Room s → Room (apply s v i e)
unfolding apply fits
applied_room s v i (Once x) f r =
    let b = begun_room s v i x r (and_parts (is_none s.running) (can_begin s x) f).1 in approved_room (begun s v i x) v i None (begun s v i x).running b b
applied_room s v i (Begin x) f r = begun_room s v i x r (and_parts (is_none s.running) (can_begin s x) f).1
applied_room s v i (Phase c) f r = next_room s c.value s.running refl r
applied_room s v i (Approve c) f r = approved_room s v i c.value s.running r r
applied_room s v i (Reject c) f r = rejected_room s s.running r
applied_room s v i (Late proto phase ps) f r = r

-- under any entry
pub room_after : (s : GroupState) (v : ViewId) (i : ℕ) (e : Entry) → Room s → Room (after s v i e)
unfolding after after_if
room_after s v i e r = by (fits s e) refl
  where
    by : (b : Bool) → fits s e ≡ b → Room (after_if s v i e b)
    by true f = applied_room s v i e f r
    by false f = r
