-- A state that has a spelling has one after an entry that fits and has one.
use Rattle.std.proofs.Common.{◌≡◌, ℕ, ◌+◌, ◌≤◌, ◌<◌, Bool, true, false, cond, List, [], ◌∷◌, ◌++◌, length, Option, Some, None, refl, sym, ap, subst, ◌∙◌, arith, eqb-true, ◌⊎◌, inl, inr}
use Rattle.std.specs.Prelude.{IsTrue, not, ◌||◌, ◌&&◌, ◌==◌, filter, nat_le, nat_lt, is_none}
use Rattle.std.specs.List.{list_all}
use Rattle.std.proofs.lemmas.Bool.{leb-true, ltb-true}
use Rattle.std.proofs.lemmas.List.{append-nil}
use Rattle.rsct_packet.specs.declared.ids.ProviderId.{ProviderId}
use Rattle.rsct_packet.specs.declared.ids.ViewId.{ViewId}
use Rattle.rsct_packet.specs.declared.ids.ProtoId.{ProtoId}
use Rattle.rsct_packet.specs.Ids.{same_proto}
use Rattle.rsct_packet.specs.Providers.{same_provider, among, none_among, without_all}
use Rattle.rsct_packet.specs.Format.{EachFits, OptionFits}
use Rattle.rsct_packet.specs.Fields.{AreShort, IsU32, IsView, IsProto, IsProvider, IsProviders}
use Rattle.rsct_packet.proofs.FieldLaws.{and_true, both_true}
use Rattle.rsct_packet.proofs.ProviderLaws.{AreProviders-without_all, AreProviders-append}
use Rattle.group_attr.specs.declared.attrs.Attrs.{Attrs}
use Rattle.group_attr.specs.Codec.{IsAttrs}
use Rattle.proposal_core.specs.declared.proposal.Proposal.{Proposal}
use Rattle.proposal_core.specs.declared.proposal.Proposal.TheVariants.{Join, Leave, Fail, Expel, State, Message, Attributes, Reflect}
use Rattle.proposal_core.specs.declared.entry.Entry.{Entry}
use Rattle.proposal_core.specs.declared.entry.Entry.TheVariants.{Once, Begin, Phase, Approve, Reject, Late}
use Rattle.proposal_core.specs.ProposalCodec.{IsProposal}
use Rattle.proposal_core.specs.EntryCodec.{IsEntry, IsClosed}
use Rattle.proposal_core.specs.declared.group_state.GroupState.{GroupState}
use Rattle.proposal_core.specs.declared.group_state.Running.{Running}
use Rattle.proposal_core.specs.Fold.{joins_of, joiners_in, fallen_of, without, can_begin, fits, runs, effect, first_value, first_attrs, take_attrs, begun, replace_proposed, take_value, approve, apply_once, apply, reject, take_rejection, next_phase, advance, joiners_fit}
use Rattle.proposal_core.specs.StateCodec.{IsState, IsRunning, failed_are_present}
use Rattle.proposal_core.proofs.FoldLaws.{once_is_applied, joiners_fit_after, attrs_keep_beginning, joiners_where_idle, joiners_that_run, idle_approved, idle_rejected}
use Rattle.proposal_core.proofs.FoldLaws.{among_both}

cases_of : (b : Bool) → (b ≡ true) ⊎ (b ≡ false)
cases_of true = inl refl
cases_of false = inr refl

or_left : (a b : Bool) → b ≡ false → IsTrue (a || b) → IsTrue a
or_left true b e h = refl
or_left false b e h = absurd cc

or_true : (a b : Bool) → IsTrue a → IsTrue (a || b)
or_true true b h = refl
or_true false b h = absurd cc

-- Lists of providers.

each-append : (xs ys : List ProviderId) → EachFits IsProvider xs → EachFits IsProvider ys → EachFits IsProvider (xs ++ ys)
each-append [] ys g h = h
each-append (x ∷ xs) ys g h = (g.0, each-append xs ys g.1 h)

each-without_all : (xs ps : List ProviderId) → EachFits IsProvider xs → EachFits IsProvider (without_all xs ps)
each-without_all [] ps h = tt
each-without_all (x ∷ xs) ps h =
    elim (among ps x) as (λ b. EachFits IsProvider (cond (not b) (x ∷ without_all xs ps) (without_all xs ps))) [
      | true ↦ each-without_all xs ps h.1
      | false ↦ (h.0, each-without_all xs ps h.1)
    ]

IsProviders-without_all : (xs ps : List ProviderId) → IsProviders xs → IsProviders (without_all xs ps)
IsProviders-without_all xs ps h = record { are = AreProviders-without_all xs ps h.are; each = each-without_all xs ps h.each }

same_both : (p x q : ProviderId) → same_provider x q ≡ true → same_provider p x ≡ same_provider p q
same_both p x q e = grind arith

among_same : (ps : List ProviderId) (x q : ProviderId) → same_provider x q ≡ true → among ps x ≡ among ps q
among_same [] x q e = refl
among_same (p ∷ ps) x q e = rw (same_both p x q e, among_same ps x q e) refl

-- one that is not taken off stays
among-without_all : (xs ps : List ProviderId) (q : ProviderId) → among ps q ≡ false → IsTrue (among xs q) → IsTrue (among (without_all xs ps) q)
among-without_all [] ps q out h = absurd cc
among-without_all (x ∷ xs) ps q out h =
    elim (cases_of (same_provider x q)) [
      | inl same ↦ let away : among ps x ≡ false = among_same ps x q same ∙ out in rw (away, same) refl
      | inr other ↦
          let there : IsTrue (among (without_all xs ps) q) = among-without_all xs ps q out (rw other at h) in
          elim (among ps x) as (λ b. IsTrue (among (cond (not b) (x ∷ without_all xs ps) (without_all xs ps)) q)) [
            | true ↦ there
            | false ↦ rw other there
          ]
    ]

-- The failed are among the members, and the running joiners.

present_where_off : (xs ps fs : List ProviderId) → IsTrue (list_all (among xs) fs) → IsTrue (list_all (among (without_all xs ps)) (without_all fs ps))
present_where_off xs ps [] h = refl
present_where_off xs ps (f ∷ fs) h =
    let parts = and_true (among xs f) (list_all (among xs) fs) h in
    let rest = present_where_off xs ps fs parts.1 in
    elim (cases_of (among ps f)) [
      | inl off ↦ rw off rest
      | inr on ↦ rw on (both_true (among (without_all xs ps) f) (list_all (among (without_all xs ps)) (without_all fs ps)) (among-without_all xs ps f on parts.0) rest)
    ]

present_without_joiners : (xs ps fs : List ProviderId) → IsTrue (list_all (among (xs ++ ps)) fs) → IsTrue (list_all (among xs) (without_all fs ps))
present_without_joiners xs ps [] h = refl
present_without_joiners xs ps (f ∷ fs) h =
    let parts = and_true (among (xs ++ ps) f) (list_all (among (xs ++ ps)) fs) h in
    let rest = present_without_joiners xs ps fs parts.1 in
    let here : IsTrue (among xs f || among ps f) = subst IsTrue (among_both xs ps f) parts.0 in
    elim (cases_of (among ps f)) [
      | inl off ↦ rw off rest
      | inr on ↦ rw on (both_true (among xs f) (list_all (among xs) (without_all fs ps)) (or_left (among xs f) (among ps f) on here) rest)
    ]

present_with_joiners : (xs ps fs : List ProviderId) → IsTrue (list_all (among xs) fs) → IsTrue (list_all (among (xs ++ ps)) fs)
present_with_joiners xs ps [] h = refl
present_with_joiners xs ps (f ∷ fs) h =
    let parts = and_true (among xs f) (list_all (among xs) fs) h in
    both_true (among (xs ++ ps) f) (list_all (among (xs ++ ps)) fs) (subst IsTrue (sym (among_both xs ps f)) (or_true (among xs f) (among ps f) parts.0))
    (present_with_joiners xs ps fs parts.1)

-- A state as far as it does not depend on what runs, with the failed among some providers.
record IsKept (s : GroupState) (there : List ProviderId) : Type 0 where
  members : IsProviders s.members
  value : AreShort s.value
  attrs : IsAttrs s.attrs
  failed : IsProviders s.failed
  value_at : OptionFits IsProto s.value_at
  reflected_at : OptionFits IsProto s.reflected_at
  present : IsTrue (list_all (among there) s.failed)

kept_of : (s : GroupState) (run : Option Running) → s.running ≡ run → IsState s → IsKept s (s.members ++ joiners_in run)
unfolding failed_are_present
kept_of s run e h = record {
  members = h.members;
  value = h.value;
  attrs = h.attrs;
  failed = h.failed;
  value_at = h.value_at;
  reflected_at = h.reflected_at;
  present = rw e at h.present;
}

kept_is_state : (s : GroupState) → s.running ≡ None → IsKept s s.members → IsState s
unfolding failed_are_present
kept_is_state s e h = record {
  members = h.members;
  value = h.value;
  attrs = h.attrs;
  failed = h.failed;
  value_at = h.value_at;
  reflected_at = h.reflected_at;
  running = rw e tt;
  joiners = joiners_where_idle s e;
  present = rw (e, append-nil) h.present;
}

-- without joiners
alone : (s : GroupState) → IsKept s (s.members ++ []) → IsKept s s.members
alone s h = subst (IsKept s) (append-nil s.members) h

-- with joiners
joined : (s : GroupState) (ps : List ProviderId) → IsKept s (s.members ++ []) → IsKept s (s.members ++ ps)
joined s ps g =
    let h = alone s g in
    record {
      members = h.members;
      value = h.value;
      attrs = h.attrs;
      failed = h.failed;
      value_at = h.value_at;
      reflected_at = h.reflected_at;
      present = present_with_joiners s.members ps s.failed h.present;
    }

kept_without : (s : GroupState) (ps : List ProviderId) → IsKept s (s.members ++ []) → IsKept (without s ps) (without s ps).members
unfolding without
kept_without s ps g =
    let h = alone s g in
    record {
      members = IsProviders-without_all s.members ps h.members;
      value = h.value;
      attrs = h.attrs;
      failed = IsProviders-without_all s.failed ps h.failed;
      value_at = h.value_at;
      reflected_at = h.reflected_at;
      present = present_where_off s.members ps s.failed h.present;
    }

kept_reflected : (s : GroupState) (view : ViewId) (place : ℕ) → IsView view → IsU32 place → IsKept s (s.members ++ []) → IsKept (record s { reflected_at = Some (record { view = view; place = place }) }) s.members
kept_reflected s view place v i g =
    let h = alone s g in
    record {
      members = h.members;
      value = h.value;
      attrs = h.attrs;
      failed = h.failed;
      value_at = h.value_at;
      reflected_at = record { view = v; place = i };
      present = h.present;
    }

kept_effect : (s : GroupState) (x : Proposal) → IsTrue (can_begin s x) → IsProposal x → IsKept s (s.members ++ joins_of x) → IsKept (effect s x) (effect s x).members
unfolding effect can_begin
kept_effect s (Join ps attrs n) b p h =
    let fit = and_true (none_among s.members ps) (nat_le (length s.members + length ps) 64) b in
    record {
      members = record {
        are = AreProviders-append s.members ps h.members.are p.0.are.are (leb-true (length s.members + length ps) 64 fit.1) fit.0;
        each = each-append s.members ps h.members.each p.0.are.each;
      };
      value = h.value;
      attrs = h.attrs;
      failed = h.failed;
      value_at = h.value_at;
      reflected_at = h.reflected_at;
      present = h.present;
    }
kept_effect s (Leave q r) b p h = kept_without s (q ∷ []) h
kept_effect s (Fail out) b p h = kept_without s (fallen_of out) h
kept_effect s (Expel q r out) b p h = kept_without s out h
kept_effect s (State q r value) b p h = alone s h
kept_effect s (Message q r bytes) b p h = alone s h
kept_effect s (Attributes q r attrs) b p g =
    let h = alone s g in
    record {
      members = h.members;
      value = h.value;
      attrs = p.1.1;
      failed = h.failed;
      value_at = h.value_at;
      reflected_at = h.reflected_at;
      present = h.present;
    }
kept_effect s (Reflect view place value) b p h = kept_reflected s view place p.0 p.1.0 h

kept_rejection : (s : GroupState) (x : Proposal) → IsProposal x → IsKept s (s.members ++ joins_of x) → IsKept (take_rejection s x) (take_rejection s x).members
unfolding take_rejection
kept_rejection s (Join ps attrs n) p h = record {
  members = h.members;
  value = h.value;
  attrs = h.attrs;
  failed = IsProviders-without_all s.failed ps h.failed;
  value_at = h.value_at;
  reflected_at = h.reflected_at;
  present = present_without_joiners s.members ps s.failed h.present;
}
kept_rejection s (Leave q r) p h = alone s h
kept_rejection s (Fail out) p h = kept_without s (fallen_of out) h
kept_rejection s (Expel q r out) p h = alone s h
kept_rejection s (State q r value) p h = alone s h
kept_rejection s (Message q r bytes) p h = alone s h
kept_rejection s (Attributes q r attrs) p h = alone s h
kept_rejection s (Reflect view place value) p h = kept_reflected s view place p.0 p.1.0 h

-- What an entry brings.

newer_short : (value old : Option (List ℕ)) → OptionFits AreShort value → OptionFits AreShort old → OptionFits AreShort (replace_proposed value old)
unfolding replace_proposed
newer_short None old g h = h
newer_short (Some value) old g h = g

first_value_short : (x : Proposal) → IsProposal x → OptionFits AreShort (first_value x)
unfolding first_value
first_value_short (Join ps attrs n) p = tt
first_value_short (Leave q r) p = tt
first_value_short (Fail out) p = tt
first_value_short (Expel q r out) p = tt
first_value_short (State q r value) p = p.1.1
first_value_short (Message q r bytes) p = tt
first_value_short (Attributes q r attrs) p = tt
first_value_short (Reflect view place value) p = tt

first_attrs_fit : (s : GroupState) (x : Proposal) → IsProposal x → OptionFits IsAttrs (first_attrs s x)
unfolding first_attrs
first_attrs_fit s (Join ps attrs n) p = elim (length s.members == 0) as (λ b. OptionFits IsAttrs (cond b (Some attrs) None)) [ true ↦ p.1.0 | false ↦ tt ]
first_attrs_fit s (Leave q r) p = tt
first_attrs_fit s (Fail out) p = tt
first_attrs_fit s (Expel q r out) p = tt
first_attrs_fit s (State q r value) p = tt
first_attrs_fit s (Message q r bytes) p = tt
first_attrs_fit s (Attributes q r attrs) p = tt
first_attrs_fit s (Reflect view place value) p = tt

kept_valued : (s : GroupState) (v : ViewId) (i : ℕ) (value : Option (List ℕ)) → IsView v → IsU32 i → OptionFits AreShort value → IsKept s s.members → IsKept (take_value s v i value) (take_value s v i value).members
unfolding take_value
kept_valued s v i None view place short h = h
kept_valued s v i (Some value) view place short h = record {
  members = h.members;
  value = short;
  attrs = h.attrs;
  failed = h.failed;
  value_at = record { view = view; place = place };
  reflected_at = h.reflected_at;
  present = h.present;
}

kept_with_attrs : (s : GroupState) (attrs : Option Attrs) → OptionFits IsAttrs attrs → IsKept s s.members → IsKept (take_attrs s attrs) (take_attrs s attrs).members
unfolding take_attrs
kept_with_attrs s None a h = h
kept_with_attrs s (Some attrs) a h = record {
  members = h.members;
  value = h.value;
  attrs = a;
  failed = h.failed;
  value_at = h.value_at;
  reflected_at = h.reflected_at;
  present = h.present;
}

-- What runs.

kept_idle : (s : GroupState) (there : List ProviderId) → IsKept s there → IsKept (record s { running = None }) there
kept_idle s there h = record {
  members = h.members;
  value = h.value;
  attrs = h.attrs;
  failed = h.failed;
  value_at = h.value_at;
  reflected_at = h.reflected_at;
  present = h.present;
}

begins_idle : (s : GroupState) (x : Proposal) → IsTrue (can_begin s x) → IsTrue (can_begin (record s { running = None }) x)
unfolding take_attrs
begins_idle s x h = subst IsTrue (attrs_keep_beginning s None None x) h

idle_where_none : (run : Option Running) → IsTrue (is_none run) → run ≡ None
idle_where_none None h = refl
idle_where_none (Some run) h = absurd cc

once_is_state : (s : GroupState) (v : ViewId) (i : ℕ) (x : Proposal) → s.running ≡ None → IsTrue (can_begin s x) → IsProposal x → IsView v → IsU32 i → IsState s → IsState (apply s v i (Once x))
unfolding apply_once apply
once_is_state s v i x e b p view place h =
    let same = once_is_applied s v i x e in
    let idle : (apply_once s v i x).running ≡ None = ap (λ (t : GroupState). t.running) (sym same) ∙ idle_approved _ v i None _ refl in
    let g = kept_effect s x b p (joined s (joins_of x) (kept_of s None e h)) in
    subst IsState (sym same)
    (kept_is_state (apply_once s v i x) idle
    (kept_valued _ v i (first_value x) view place (first_value_short x p) (kept_with_attrs (effect s x) (first_attrs s x) (first_attrs_fit s x p) g)))

begun_is_state : (s : GroupState) (attrs : Option Attrs) (run : Running) → s.running ≡ None → OptionFits IsAttrs attrs → IsRunning run → IsTrue (joiners_fit (record (take_attrs s attrs) { running = Some run })) → IsState s → IsState (record (take_attrs s attrs) { running = Some run })
unfolding take_attrs failed_are_present
begun_is_state s None run e a r j h = record {
  members = h.members;
  value = h.value;
  attrs = h.attrs;
  failed = h.failed;
  value_at = h.value_at;
  reflected_at = h.reflected_at;
  running = r;
  joiners = j;
  present = (joined s (joins_of run.proposal) (kept_of s None e h)).present;
}
begun_is_state s (Some attrs) run e a r j h = record {
  members = h.members;
  value = h.value;
  attrs = a;
  failed = h.failed;
  value_at = h.value_at;
  reflected_at = h.reflected_at;
  running = r;
  joiners = j;
  present = (joined s (joins_of run.proposal) (kept_of s None e h)).present;
}

phase_is_state : (s : GroupState) (proto : ProtoId) (phase : ℕ) (value : Option (List ℕ)) (run : Option Running) → s.running ≡ run → IsTrue (runs proto phase run && nat_lt phase 200) → OptionFits AreShort value → IsTrue (joiners_fit (next_phase s value run)) → IsState s → IsState (next_phase s value run)
unfolding runs next_phase advance failed_are_present
phase_is_state s proto phase value None e f short j h = absurd cc
phase_is_state s proto phase value (Some run) e f short j h =
    let parts = and_true (phase == run.phase && same_proto proto run.proto) (nat_lt phase 200) f in
    let now : phase ≡ run.phase = eqb-true phase run.phase (and_true (phase == run.phase) (same_proto proto run.proto) parts.0).0 in
    let low : phase < 200 = ltb-true phase 200 parts.1 in
    let r : IsRunning run = rw e at h.running in
    record {
      members = h.members;
      value = h.value;
      attrs = h.attrs;
      failed = h.failed;
      value_at = h.value_at;
      reflected_at = h.reflected_at;
      running = record { proto = r.proto; begun = omega arith; phase = omega arith; proposal = r.proposal; proposed = newer_short value run.proposed short r.proposed };
      joiners = j;
      present = rw e at h.present;
    }

approved_is_state : (s : GroupState) (v : ViewId) (i : ℕ) (value : Option (List ℕ)) (run : Option Running) → s.running ≡ run → IsView v → IsU32 i → OptionFits AreShort value → IsState s → IsState (approve s v i value run)
unfolding approve joiners_fit
approved_is_state s v i value None e view place short h = h
approved_is_state s v i value (Some run) e view place short h =
    let r : IsRunning run = rw e at h.running in
    let t : GroupState = record s { running = None } in
    let b = begins_idle s run.proposal (joiners_that_run s s.running run e h.joiners) in
    let g = kept_effect t run.proposal b r.proposal (kept_idle s _ (kept_of s (Some run) e h)) in
    kept_is_state _ (idle_approved s v i value (Some run) e) (kept_valued (effect t run.proposal) v i (replace_proposed value run.proposed) view place (newer_short value run.proposed short r.proposed) g)

rejected_is_state : (s : GroupState) (run : Option Running) → s.running ≡ run → IsState s → IsState (reject s run)
unfolding reject
rejected_is_state s None e h = h
rejected_is_state s (Some run) e h =
    let r : IsRunning run = rw e at h.running in
    kept_is_state _ (idle_rejected s (Some run) e) (kept_rejection (record s { running = None }) run.proposal r.proposal (kept_idle s _ (kept_of s (Some run) e h)))

pub states_stay_states : (s : GroupState) (v : ViewId) (i : ℕ) (e : Entry) → IsTrue (fits s e) → IsState s → IsEntry e → IsView v → IsU32 i → IsState (apply s v i e)
unfolding apply fits begun
states_stay_states s v i (Once x) f h p view place =
    let parts = and_true (is_none s.running) (can_begin s x) f in
    once_is_state s v i x (idle_where_none s.running parts.0) parts.1 p view place h
states_stay_states s v i (Begin x) f h p view place =
    let parts = and_true (is_none s.running) (can_begin s x) f in
    begun_is_state s (first_attrs s x) _ (idle_where_none s.running parts.0) (first_attrs_fit s x p)
    (record { proto = record { view = view; place = place }; begun = omega arith; phase = omega arith; proposal = p; proposed = first_value_short x p })
    (joiners_fit_after s v i (Begin x) f h.joiners)
    h
states_stay_states s v i (Phase c) f h p view place = phase_is_state s c.proto c.phase c.value s.running refl f p.value (joiners_fit_after s v i (Phase c) f h.joiners) h
states_stay_states s v i (Approve c) f h p view place = approved_is_state s v i c.value s.running refl view place p.value h
states_stay_states s v i (Reject c) f h p view place = rejected_is_state s s.running refl h
states_stay_states s v i (Late proto phase ps) f h p view place = h
