-- Each kind of entry changes a state as is said.
use Rattle.std.proofs.Common.{◌≡◌, ◌==◌, ℕ, ◌+◌, Bool, false, List, [], ◌∷◌, ◌++◌, length, Option, Some, None, refl, sym, ap, subst, ◌∙◌, arith, ne_eqb}
use Rattle.std.specs.Prelude.{IsFalse, unwrap_or, option_map, if◌then◌else◌}
use Rattle.std.specs.Option.{option_or}
use Rattle.std.proofs.lemmas.List.{append-nil}
use Rattle.rsct_packet.specs.declared.ids.ProviderId.{ProviderId}
use Rattle.rsct_packet.specs.declared.ids.ViewId.{ViewId}
use Rattle.rsct_packet.specs.declared.ids.ProtoId.{ProtoId}
use Rattle.rsct_packet.specs.Providers.{without_all}
use Rattle.group_attr.specs.declared.attrs.Attrs.{Attrs}
use Rattle.proposal_core.specs.declared.proposal.Proposal.{Proposal}
use Rattle.proposal_core.specs.declared.proposal.Proposal.TheVariants.{Join, Leave, Fail, Expel, State, Message, Attributes, Reflect}
use Rattle.proposal_core.specs.declared.entry.Closed.{Closed}
use Rattle.proposal_core.specs.declared.entry.Entry.{Entry}
use Rattle.proposal_core.specs.declared.entry.Entry.TheVariants.{Once, Begin, Phase, Approve, Reject, Late}
use Rattle.proposal_core.specs.declared.group_state.GroupState.{GroupState}
use Rattle.proposal_core.specs.declared.group_state.Running.{Running}
use Rattle.proposal_core.specs.Fold.{joins_of, without, effect, first_value, first_attrs, take_attrs, begun, replace_proposed, take_value, approve, take_rejection, reject, advance, next_phase, apply, fits, after, after_if}
use Rattle.proposal_core.proofs.FoldLaws.{nobody_off, idle_approved, idle_rejected}
use Rattle.proposal_core.proofs.ListLaws.{after_fits}
use Rattle.fold_laws.specs.Voters.{leavers_of}
use Rattle.fold_laws.specs.Changes.{fallen_in, unmarked_in, value_in, first_in, attrs_in, reflected_in, Changes, EntriesChangeAsSaid}
use Rattle.fold_laws.proofs.Voters.{all_stay}

abbrev place_of : ViewId → ℕ → ProtoId
place_of v i = record { view = v; place = i }

-- ---- lists

-- only who leaves goes
leave_alone : (xs ps qs : List ProviderId) → without_all xs ps ++ qs ≡ without_all xs (ps ++ []) ++ qs
leave_alone xs ps qs = ap (λ (zs : List ProviderId). without_all xs zs ++ qs) (sym (append-nil ps))

leave_unmarked : (xs ps : List ProviderId) → without_all xs ps ≡ without_all xs (ps ++ [])
leave_unmarked xs ps = ap (without_all xs) (sym (append-nil ps))

-- ---- what a proposal makes of a state as it takes effect

effect_members : (s : GroupState) (x : Proposal) → (effect s x).members ≡ without_all s.members (leavers_of x) ++ joins_of x
unfolding effect without
effect_members s (Join ps attrs n) = ap (λ (xs : List ProviderId). xs ++ ps) (sym (nobody_off s.members))
effect_members s (Leave p r) = sym (append-nil _)
effect_members s (Fail out) = sym (append-nil _)
effect_members s (Expel p r out) = sym (append-nil _)
effect_members s (State p r value) = all_stay s.members
effect_members s (Message p r bytes) = all_stay s.members
effect_members s (Attributes p r attrs) = all_stay s.members
effect_members s (Reflect view place value) = all_stay s.members

effect_failed : (s : GroupState) (x : Proposal) → (effect s x).failed ≡ without_all s.failed (leavers_of x)
unfolding effect without
effect_failed s (Join ps attrs n) = sym (nobody_off s.failed)
effect_failed s (Leave p r) = refl
effect_failed s (Fail out) = refl
effect_failed s (Expel p r out) = refl
effect_failed s (State p r value) = sym (nobody_off s.failed)
effect_failed s (Message p r bytes) = sym (nobody_off s.failed)
effect_failed s (Attributes p r attrs) = sym (nobody_off s.failed)
effect_failed s (Reflect view place value) = sym (nobody_off s.failed)

effect_value : (s : GroupState) (x : Proposal) → ((effect s x).value ≡ s.value) × ((effect s x).value_at ≡ s.value_at)
unfolding effect without
effect_value s (Join ps attrs n) = (refl, refl)
effect_value s (Leave p r) = (refl, refl)
effect_value s (Fail out) = (refl, refl)
effect_value s (Expel p r out) = (refl, refl)
effect_value s (State p r value) = (refl, refl)
effect_value s (Message p r bytes) = (refl, refl)
effect_value s (Attributes p r attrs) = (refl, refl)
effect_value s (Reflect view place value) = (refl, refl)

effect_attrs : (s : GroupState) (x : Proposal) → (effect s x).attrs ≡ unwrap_or (attrs_in x) s.attrs
unfolding effect without
effect_attrs s (Join ps attrs n) = refl
effect_attrs s (Leave p r) = refl
effect_attrs s (Fail out) = refl
effect_attrs s (Expel p r out) = refl
effect_attrs s (State p r value) = refl
effect_attrs s (Message p r bytes) = refl
effect_attrs s (Attributes p r attrs) = refl
effect_attrs s (Reflect view place value) = refl

effect_reflected : (s : GroupState) (x : Proposal) → (effect s x).reflected_at ≡ option_or (reflected_in x) s.reflected_at
unfolding effect without
effect_reflected s (Join ps attrs n) = refl
effect_reflected s (Leave p r) = refl
effect_reflected s (Fail out) = refl
effect_reflected s (Expel p r out) = refl
effect_reflected s (State p r value) = refl
effect_reflected s (Message p r bytes) = refl
effect_reflected s (Attributes p r attrs) = refl
effect_reflected s (Reflect view place value) = refl

-- ---- what a value that is taken changes, and attributes

record Valued (s t : GroupState) (v : ViewId) (i : ℕ) (o : Option (List ℕ)) : Type 0 where
  members : t.members ≡ s.members
  value : t.value ≡ unwrap_or o s.value
  value_at : t.value_at ≡ option_or (option_map (λ (x : List ℕ). place_of v i) o) s.value_at
  attrs : t.attrs ≡ s.attrs
  failed : t.failed ≡ s.failed
  reflected : t.reflected_at ≡ s.reflected_at

valued : (s : GroupState) (v : ViewId) (i : ℕ) (o : Option (List ℕ)) → Valued s (take_value s v i o) v i o
unfolding take_value
valued s v i None = record { members = refl; value = refl; value_at = refl; attrs = refl; failed = refl; reflected = refl }
valued s v i (Some x) = record { members = refl; value = refl; value_at = refl; attrs = refl; failed = refl; reflected = refl }

record Attributed (s t : GroupState) (o : Option Attrs) : Type 0 where
  members : t.members ≡ s.members
  value : t.value ≡ s.value
  value_at : t.value_at ≡ s.value_at
  attrs : t.attrs ≡ unwrap_or o s.attrs
  failed : t.failed ≡ s.failed
  reflected : t.reflected_at ≡ s.reflected_at

attributed : (s : GroupState) (o : Option Attrs) → Attributed s (take_attrs s o) o
unfolding take_attrs
attributed s None = record { members = refl; value = refl; value_at = refl; attrs = refl; failed = refl; reflected = refl }
attributed s (Some x) = record { members = refl; value = refl; value_at = refl; attrs = refl; failed = refl; reflected = refl }

-- ---- words of the fold and of what is said

replaced : (new old : Option (List ℕ)) → replace_proposed new old ≡ option_or new old
unfolding replace_proposed
replaced None old = refl
replaced (Some x) old = refl

first_value_is : (x : Proposal) → first_value x ≡ value_in x
unfolding first_value
first_value_is (Join ps attrs n) = refl
first_value_is (Leave p r) = refl
first_value_is (Fail out) = refl
first_value_is (Expel p r out) = refl
first_value_is (State p r value) = refl
first_value_is (Message p r bytes) = refl
first_value_is (Attributes p r attrs) = refl
first_value_is (Reflect view place value) = refl

first_is : (ms ps : List ProviderId) (a : Attrs) (n : Option ℕ) → (if length ms == 0 then Some a else None) ≡ first_in (Join ps a n) ms
first_is [] ps a n = refl
first_is (m ∷ ms) ps a n =
    let some : (length (m ∷ ms) == 0) ≡ false = ne_eqb (length (m ∷ ms)) 0 (λ e. absurd (omega arith)) in
    ap (λ (b : Bool). if b then Some a else None) some

first_attrs_are : (s : GroupState) (x : Proposal) → first_attrs s x ≡ first_in x s.members
unfolding first_attrs
first_attrs_are s (Join ps a n) = first_is s.members ps a n
first_attrs_are s (Leave p r) = refl
first_attrs_are s (Fail out) = refl
first_attrs_are s (Expel p r out) = refl
first_attrs_are s (State p r value) = refl
first_attrs_are s (Message p r bytes) = refl
first_attrs_are s (Attributes p r attrs) = refl
first_attrs_are s (Reflect view place value) = refl

-- a first join brings attributes, or Attributes do
either_attrs : (x : Proposal) (ms : List ProviderId) (old : Attrs) → unwrap_or (attrs_in x) (unwrap_or (first_in x ms) old) ≡ unwrap_or (option_or (first_in x ms) (attrs_in x)) old
either_attrs (Join ps a n) [] old = refl
either_attrs (Join ps a n) (m ∷ ms) old = refl
either_attrs (Leave p r) ms old = refl
either_attrs (Fail out) ms old = refl
either_attrs (Expel p r out) ms old = refl
either_attrs (State p r value) ms old = refl
either_attrs (Message p r bytes) ms old = refl
either_attrs (Attributes p r attrs) ms old = refl
either_attrs (Reflect view place value) ms old = refl

-- ---- a rejection

rejection_members : (s : GroupState) (x : Proposal) → (take_rejection s x).members ≡ without_all s.members (fallen_in x) ++ []
unfolding take_rejection without
rejection_members s (Join ps attrs n) = all_stay s.members
rejection_members s (Leave p r) = all_stay s.members
rejection_members s (Fail out) = sym (append-nil _)
rejection_members s (Expel p r out) = all_stay s.members
rejection_members s (State p r value) = all_stay s.members
rejection_members s (Message p r bytes) = all_stay s.members
rejection_members s (Attributes p r attrs) = all_stay s.members
rejection_members s (Reflect view place value) = all_stay s.members

rejection_failed : (s : GroupState) (x : Proposal) → (take_rejection s x).failed ≡ without_all s.failed (unmarked_in x)
unfolding take_rejection without
rejection_failed s (Join ps attrs n) = refl
rejection_failed s (Leave p r) = sym (nobody_off s.failed)
rejection_failed s (Fail out) = refl
rejection_failed s (Expel p r out) = sym (nobody_off s.failed)
rejection_failed s (State p r value) = sym (nobody_off s.failed)
rejection_failed s (Message p r bytes) = sym (nobody_off s.failed)
rejection_failed s (Attributes p r attrs) = sym (nobody_off s.failed)
rejection_failed s (Reflect view place value) = sym (nobody_off s.failed)

rejection_reflected : (s : GroupState) (x : Proposal) → (take_rejection s x).reflected_at ≡ option_or (reflected_in x) s.reflected_at
unfolding take_rejection without
rejection_reflected s (Join ps attrs n) = refl
rejection_reflected s (Leave p r) = refl
rejection_reflected s (Fail out) = refl
rejection_reflected s (Expel p r out) = refl
rejection_reflected s (State p r value) = refl
rejection_reflected s (Message p r bytes) = refl
rejection_reflected s (Attributes p r attrs) = refl
rejection_reflected s (Reflect view place value) = refl

record Rest (s t : GroupState) : Type 0 where
  value : t.value ≡ s.value
  value_at : t.value_at ≡ s.value_at
  attrs : t.attrs ≡ s.attrs

rejection_rest : (s : GroupState) (x : Proposal) → Rest s (take_rejection s x)
unfolding take_rejection without
rejection_rest s (Join ps attrs n) = record { value = refl; value_at = refl; attrs = refl }
rejection_rest s (Leave p r) = record { value = refl; value_at = refl; attrs = refl }
rejection_rest s (Fail out) = record { value = refl; value_at = refl; attrs = refl }
rejection_rest s (Expel p r out) = record { value = refl; value_at = refl; attrs = refl }
rejection_rest s (State p r value) = record { value = refl; value_at = refl; attrs = refl }
rejection_rest s (Message p r bytes) = record { value = refl; value_at = refl; attrs = refl }
rejection_rest s (Attributes p r attrs) = record { value = refl; value_at = refl; attrs = refl }
rejection_rest s (Reflect view place value) = record { value = refl; value_at = refl; attrs = refl }

-- ---- each kind of entry

abbrev with_running : GroupState → Option Running → GroupState
with_running s o = record s { running = o }

once : (s : GroupState) (v : ViewId) (i : ℕ) (x : Proposal) → Changes s (place_of v i) (Once x) (apply s v i (Once x))
unfolding apply approve begun
once s v i x =
    let t : GroupState = begun s v i x in
    let u : GroupState = with_running t None in
    let a : Attributed s (take_attrs s (first_attrs s x)) (first_attrs s x) = attributed s (first_attrs s x) in
    let o : Option (List ℕ) = replace_proposed None (first_value x) in
    let w : Valued (effect u x) (take_value (effect u x) v i o) v i o = valued (effect u x) v i o in
    let brought : o ≡ value_in x = replaced None (first_value x) ∙ first_value_is x in
    record {
      members = w.members ∙ effect_members u x ∙ ap (λ (ms : List ProviderId). without_all ms (leavers_of x) ++ joins_of x) a.members ∙ leave_alone s.members (leavers_of x) (joins_of x);
      value = w.value ∙ ap (λ (z : Option (List ℕ)). unwrap_or z (effect u x).value) brought ∙ ap (unwrap_or (value_in x)) ((effect_value u x).0 ∙ a.value);
      value_at =
          w.value_at
          ∙ ap (λ (z : Option (List ℕ)). option_or (option_map (λ (y : List ℕ). place_of v i) z) (effect u x).value_at) brought
          ∙ ap (option_or (option_map (λ (y : List ℕ). place_of v i) (value_in x))) ((effect_value u x).1 ∙ a.value_at);
      attrs =
          w.attrs
          ∙ effect_attrs u x
          ∙ ap (unwrap_or (attrs_in x)) (a.attrs ∙ ap (λ (z : Option Attrs). unwrap_or z s.attrs) (first_attrs_are s x))
          ∙ either_attrs x s.members s.attrs;
      failed = w.failed ∙ effect_failed u x ∙ ap (λ (ms : List ProviderId). without_all ms (leavers_of x)) a.failed ∙ leave_unmarked s.failed (leavers_of x);
      reflected = w.reflected ∙ effect_reflected u x ∙ ap (option_or (reflected_in x)) a.reflected;
      running = idle_approved t v i None t.running refl;
    }

begins : (s : GroupState) (v : ViewId) (i : ℕ) (x : Proposal) → Changes s (place_of v i) (Begin x) (begun s v i x)
unfolding begun
begins s v i x =
    let a : Attributed s (take_attrs s (first_attrs s x)) (first_attrs s x) = attributed s (first_attrs s x) in
    record {
      members = a.members ∙ all_stay s.members;
      value = a.value;
      value_at = a.value_at;
      attrs = a.attrs ∙ ap (λ (z : Option Attrs). unwrap_or z s.attrs) (first_attrs_are s x);
      failed = a.failed ∙ sym (nobody_off s.failed);
      reflected = a.reflected;
      running = ap (λ (z : Option (List ℕ)). Some (run_of z)) (first_value_is x);
    }
  where
    run_of : Option (List ℕ) → Running
    run_of z = record { proto = place_of v i; proposal = x; phase = 1; proposed = z }

phases : (s : GroupState) (v : ViewId) (i : ℕ) (c : Closed) (o : Option Running) → Changes (with_running s o) (place_of v i) (Phase c) (next_phase (with_running s o) c.value o)
unfolding next_phase advance
phases s v i c None =
    record { members = all_stay s.members; value = refl; value_at = refl; attrs = refl; failed = sym (nobody_off s.failed); reflected = refl; running = refl }
phases s v i c (Some run) =
    let on : Option (List ℕ) → Running = λ z. record run { phase = run.phase + 1; proposed = z } in
    record { members = all_stay s.members; value = refl; value_at = refl; attrs = refl; failed = sym (nobody_off s.failed); reflected = refl; running = ap (λ (z : Option (List ℕ)). Some (on z)) (replaced c.value run.proposed) }

approves : (s : GroupState) (v : ViewId) (i : ℕ) (c : Closed) (o : Option Running) → Changes (with_running s o) (place_of v i) (Approve c) (approve (with_running s o) v i c.value o)
unfolding approve
approves s v i c None =
    record { members = all_stay s.members; value = refl; value_at = refl; attrs = refl; failed = sym (nobody_off s.failed); reflected = refl; running = refl }
approves s v i c (Some run) =
    let x : Proposal = run.proposal in
    let u : GroupState = with_running s None in
    let o : Option (List ℕ) = replace_proposed c.value run.proposed in
    let w : Valued (effect u x) (take_value (effect u x) v i o) v i o = valued (effect u x) v i o in
    let brought : o ≡ option_or c.value run.proposed = replaced c.value run.proposed in
    record {
      members = w.members ∙ effect_members u x ∙ leave_alone s.members (leavers_of x) (joins_of x);
      value = w.value ∙ ap (λ (z : Option (List ℕ)). unwrap_or z (effect u x).value) brought ∙ ap (unwrap_or (option_or c.value run.proposed)) (effect_value u x).0;
      value_at =
          w.value_at
          ∙ ap (λ (z : Option (List ℕ)). option_or (option_map (λ (y : List ℕ). place_of v i) z) (effect u x).value_at) brought
          ∙ ap (option_or (option_map (λ (y : List ℕ). place_of v i) (option_or c.value run.proposed))) (effect_value u x).1;
      attrs = w.attrs ∙ effect_attrs u x;
      failed = w.failed ∙ effect_failed u x ∙ leave_unmarked s.failed (leavers_of x);
      reflected = w.reflected ∙ effect_reflected u x;
      running = idle_approved (with_running s (Some run)) v i c.value (Some run) refl;
    }

rejects : (s : GroupState) (v : ViewId) (i : ℕ) (c : Closed) (o : Option Running) → Changes (with_running s o) (place_of v i) (Reject c) (reject (with_running s o) o)
unfolding reject
rejects s v i c None =
    record { members = all_stay s.members; value = refl; value_at = refl; attrs = refl; failed = sym (nobody_off s.failed); reflected = refl; running = refl }
rejects s v i c (Some run) =
    let x : Proposal = run.proposal in
    let u : GroupState = with_running s None in
    let w : Rest u (take_rejection u x) = rejection_rest u x in
    record {
      members = rejection_members u x;
      value = w.value;
      value_at = w.value_at;
      attrs = w.attrs;
      failed = rejection_failed u x;
      reflected = rejection_reflected u x;
      running = idle_rejected (with_running s (Some run)) (Some run) refl;
    }

changed : (s : GroupState) (v : ViewId) (i : ℕ) (e : Entry) → Changes s (place_of v i) e (apply s v i e)
unfolding apply
changed s v i (Once x) = once s v i x
changed s v i (Begin x) = begins s v i x
changed s v i (Phase c) = phases s v i c s.running
changed s v i (Approve c) = approves s v i c s.running
changed s v i (Reject c) = rejects s v i c s.running
changed s v i (Late proto phase ps) =
    record { members = all_stay s.members; value = refl; value_at = refl; attrs = refl; failed = sym (nobody_off s.failed); reflected = refl; running = refl }

unfit : (s : GroupState) (v : ViewId) (i : ℕ) (e : Entry) → IsFalse (fits s e) → after s v i e ≡ s
unfolding after after_if
unfit s v i e h = rw h refl

pub entries_change_as_said : EntriesChangeAsSaid
entries_change_as_said s v i e =
    record {
      fitting = λ h. subst (Changes s (place_of v i) e) (sym (after_fits s v i e h)) (changed s v i e);
      other = λ h. unfit s v i e h;
    }
