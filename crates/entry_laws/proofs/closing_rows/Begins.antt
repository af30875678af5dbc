-- What begins at the end of a step keeps what each of the four that may begin keeps.
use Rattle.std.proofs.Common.{◌≡◌, ℕ, zero, suc, List, [], ◌∷◌, length, Option, Some, None, Bool, true, false, refl, inl, inr}
use Rattle.std.specs.Prelude.{not, fold, filter}
use Rattle.rsct_packet.specs.declared.ids.ViewId.{ViewId}
use Rattle.rsct_packet.specs.declared.ids.ProviderId.{ProviderId}
use Rattle.rsct_packet.specs.Lists.{is_empty}
use Rattle.rsct_packet.specs.Providers.{among}
use Rattle.rsct_packet.specs.Search.{Has}
use Rattle.group_attr.specs.declared.attrs.Attrs.{Attrs}
use Rattle.group_attr.specs.declared.attrs.Batch.{Batch}
use Rattle.group_attr.specs.declared.attrs.Phases.{Phases}
use Rattle.proposal_core.specs.declared.group_state.GroupState.{GroupState}
use Rattle.proposal_core.specs.declared.proposal.Failure.{Failure}
use Rattle.proposal_core.specs.declared.proposal.Proposal.TheVariants.{Join, Fail, Reflect}
use Rattle.proposal_core.specs.Lists.{list_or_new}
use Rattle.batch_rules.specs.Waiting.{batches_failures, chosen_of, next_failures, failures_left, next_joins, joins_left}
use Rattle.source_target.specs.declared.Due.{Due}
use Rattle.source_target.specs.declared.Due.TheVariants as owed
use Rattle.source_target.specs.Due.{due}
use Rattle.client_callbacks.specs.declared.told.Why.{Why}
use Rattle.client_callbacks.specs.declared.told.Why.TheVariants.{NoSource}
use Rattle.node_state.specs.declared.group.GroupRow.{GroupRow}
use Rattle.node_state.specs.declared.state.Core.{Core}
use Rattle.node_state.specs.State.{row_of, led_of, state_of, frozen, led_groups}
use Rattle.node_state.specs.HandOn.{Answering}
use Rattle.node_state.specs.Leading.{with_waiting, begins}
use Rattle.node_state.specs.Deciding.{refused, known_state, lacks_source, source_len}
use Rattle.node_state.specs.Ending.{Pass, quiet, begun_now, failures_begin, due_begins, source_begins, attrs_for, carried_len, source_refused, joins_begin, or_due, or_joins, may_begin, first_begins, group_begins, passes, one_pass, most_begun, end_step}
use Rattle.entry_laws.proofs.closing_rows.Quiet.{at_fold}

-- the joiners that begin of those that wait, once the others are refused
abbrev pub BeginsJoins : (Core → Type 0) → Answering → Core → List ℕ → Type 0
BeginsJoins P f s g =
    let st : GroupState = state_of s g in
    let chosen : List ProviderId = next_joins st.attrs.batch (led_of s g).waiting in
    let a : Attrs = attrs_for st (led_of s g).join_attrs chosen in
    let ps : List ProviderId = filter (λ (p : ProviderId). not (lacks_source s a.source p.node)) chosen in
    let out : List ProviderId = filter (λ (p : ProviderId). lacks_source s a.source p.node) chosen in
    let c : Core = source_refused (with_waiting s g (joins_left st.attrs.batch)) g a.source out in
    is_empty ps ≡ false → P c → P (begins f c g (Join ps a (carried_len c a.source)) a.phases)

-- by failures, by cast-outs, by a reflection that is due and by joins
pub record KeepsBegun (P : Core → Type 0) (g : List ℕ) : Type 0 where
  pub leaves_failures : (s : Core) (b : Batch) → P s → P (with_waiting s g (failures_left b))
  pub leaves_joins : (s : Core) (b : Batch) → P s → P (with_waiting s g (joins_left b))
  pub refuses : (s : Core) (p : ProviderId) (r : ℕ) (y : Why) → P s → P (refused s g p r y)
  pub fails : (f : Answering) (s : Core) (out : List Failure) (phases : Phases) → P s → P (begins f s g (Fail out) phases)
  pub reflects : (f : Answering) (s : Core) (k : List ℕ) (v : ViewId) (i : ℕ) → (state_of s g).attrs.source ≡ Some k → due (state_of s g) (known_state s k) ≡ Some (owed.Reflect v i) → P s → P (begins f s g (Reflect v i (state_of s k).value) (state_of s g).attrs.source_phases)
  pub joins : (f : Answering) (s : Core) → P s → BeginsJoins P f s g

module _ (P : Core → Type 0) where
  module _ (f : Answering) (g : List ℕ) (keeps : KeepsBegun P g) where
    at_failures : (n : ℕ) (s : Core) → P s → P (failures_begin n f s g).core
    unfolding failures_begin
    at_failures zero s a = a
    at_failures (suc n) s a =
        let st : GroupState = state_of s g in
        let out : List Failure = filter (λ (x : Failure). among st.members x.provider) (next_failures st.attrs.batch (led_of s g).waiting) in
        let c : Core = with_waiting s g (failures_left st.attrs.batch) in
        let k : P c = keeps.leaves_failures s st.attrs.batch a in by c out st (is_empty out) k (at_failures n c k)
      where
        by : (c : Core) (out : List Failure) (st : GroupState) (b : Bool) → P c → P (failures_begin n f c g).core → P (elim b as (λ _. Pass) [ true ↦ failures_begin n f c g | false ↦ begun_now (begins f c g (Fail out) st.attrs.phases) ]).core
        by c out st true k rest = rest
        by c out st false k rest = keeps.fails f c out st.attrs.phases k

    at_due : (s : Core) (k : List ℕ) (o : Option Due) → (state_of s g).attrs.source ≡ Some k → due (state_of s g) (known_state s k) ≡ o → P s → P (due_begins f s g (state_of s g) k o).core
    unfolding due_begins
    at_due s k None from q a = a
    at_due s k (Some (owed.CastOut out)) from q a = keeps.fails f s (chosen_of (batches_failures (state_of s g).attrs.batch) out) (state_of s g).attrs.phases a
    at_due s k (Some (owed.Reflect v i)) from q a = keeps.reflects f s k v i from q a

    at_source : (s : Core) (o : Option (List ℕ)) → (state_of s g).attrs.source ≡ o → P s → P (source_begins f s g (state_of s g) o).core
    unfolding source_begins
    at_source s None from a = a
    at_source s (Some k) from a = at_due s k (due (state_of s g) (known_state s k)) from refl a

    at_source_refused : (s : Core) (source : Option (List ℕ)) (ps : List ProviderId) → P s → P (source_refused s g source ps)
    unfolding source_refused
    at_source_refused s source ps a =
        at_fold P (λ c (p : ProviderId). refused c g p p.join (NoSource (source_len c source))) ps (λ c p i k. keeps.refuses c p p.join (NoSource (source_len c source)) k) s a

    at_joins : (n : ℕ) (s : Core) → P s → P (joins_begin n f s g).core
    unfolding joins_begin
    at_joins zero s a = a
    at_joins (suc n) s a =
        let st : GroupState = state_of s g in
        let chosen : List ProviderId = next_joins st.attrs.batch (led_of s g).waiting in
        let at : Attrs = attrs_for st (led_of s g).join_attrs chosen in
        let ps : List ProviderId = filter (λ (p : ProviderId). not (lacks_source s at.source p.node)) chosen in
        let out : List ProviderId = filter (λ (p : ProviderId). lacks_source s at.source p.node) chosen in
        let d : Core = with_waiting s g (joins_left st.attrs.batch) in
        let c : Core = source_refused d g at.source out in
        let k : P c = at_source_refused d at.source out (keeps.leaves_joins s st.attrs.batch a) in by c ps at (is_empty ps) (λ some. keeps.joins f s a some k) (at_joins n c k)
      where
        by : (c : Core) (ps : List ProviderId) (at : Attrs) (b : Bool) → (b ≡ false → P (begins f c g (Join ps at (carried_len c at.source)) at.phases)) → P (joins_begin n f c g).core → P (elim b as (λ _. Pass) [ true ↦ joins_begin n f c g | false ↦ begun_now (begins f c g (Join ps at (carried_len c at.source)) at.phases) ]).core
        by c ps at true begun rest = rest
        by c ps at false begun rest = begun refl

    at_or_due : (p : Pass) → P p.core → P (or_due f g p).core
    unfolding or_due
    at_or_due p a = by p.began
      where
        by : (b : Bool) → P (elim b as (λ _. Pass) [ true ↦ p | false ↦ source_begins f p.core g (state_of p.core g) (state_of p.core g).attrs.source ]).core
        by true = a
        by false = at_source p.core (state_of p.core g).attrs.source refl a

    at_or_joins : (p : Pass) → P p.core → P (or_joins f g p).core
    unfolding or_joins
    at_or_joins p a = by p.began
      where
        by : (b : Bool) → P (elim b as (λ _. Pass) [ true ↦ p | false ↦ joins_begin (length (led_of p.core g).waiting.joins) f p.core g ]).core
        by true = a
        by false = at_joins (length (led_of p.core g).waiting.joins) p.core a

    at_first : (s : Core) (row : GroupRow) → P s → P (first_begins f s g row).core
    unfolding first_begins
    at_first s row a = by (may_begin (list_or_new row.list))
      where
        by : (b : Bool) → P (elim b as (λ _. Pass) [ false ↦ quiet s | true ↦ or_joins f g (or_due f g (failures_begin (length row.led.waiting.failures) f s g)) ]).core
        by false = a
        by true =
            at_or_joins (or_due f g (failures_begin (length row.led.waiting.failures) f s g)) (at_or_due (failures_begin (length row.led.waiting.failures) f s g) (at_failures (length row.led.waiting.failures) s a))

    at_group : (n : ℕ) (p : Pass) → P p.core → P (group_begins n f g p).core
    unfolding group_begins
    at_group zero p a = a
    at_group (suc n) p a = let q : Pass = first_begins f p.core g (row_of p.core g) in
        let k : P q.core = at_first p.core (row_of p.core g) a in by q q.began k (at_group n q k)
      where
        by : (q : Pass) (b : Bool) → P q.core → P (group_begins n f g q).core → P (elim b as (λ _. Pass) [ true ↦ group_begins n f g q | false ↦ record { core = q.core; began = p.began } ]).core
        by q true k rest = rest
        by q false k rest = k

  pub at_groups : (most : ℕ) (f : Answering) (gs : List (List ℕ)) → ((g : List ℕ) → Has g gs → KeepsBegun P g) → (p : Pass) → P p.core → P (fold (λ p g. group_begins most f g p) p gs).core
  at_groups most f [] all p a = a
  at_groups most f (g ∷ gs) all p a = at_groups most f gs (λ x i. all x (inr i)) (group_begins most f g p) (at_group f g (all g (inl refl)) most p a)

  -- where one pass over the groups that are led keeps it
  module _ (f : Answering) (pass : (most : ℕ) (s : Core) → P s → P (fold (λ (p : Pass) g. group_begins most f g p) (quiet s) (led_groups s)).core) where
    at_passes : (n most : ℕ) (s : Core) → P s → P (passes n most f s)
    unfolding passes one_pass
    at_passes zero most s a = a
    at_passes (suc n) most s a = let p : Pass = one_pass most f s in
        let k : P p.core = pass most s a in by p p.began k (at_passes n most p.core k)
      where
        by : (p : Pass) (b : Bool) → P p.core → P (passes n most f p.core) → P (elim b as (λ _. Core) [ true ↦ passes n most f p.core | false ↦ p.core ])
        by p true k rest = rest
        by p false k rest = k

    pub at_ended : (s : Core) → P s → P (end_step f s)
    unfolding end_step
    at_ended s a = by (frozen s)
      where
        by : (b : Bool) → P (elim b as (λ _. Core) [ true ↦ s | false ↦ passes (most_begun s) (most_begun s) f s ])
        by true = a
        by false = at_passes (most_begun s) (most_begun s) s a
