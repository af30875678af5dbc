-- What begins at the end of a step.
use Rattle.std.proofs.Common.{◌≡◌, ◌⊎◌, ℕ, List, [], ◌∷◌, Option, Some, None, Bool, true, false, cond, refl, sym, ap, ◌∙◌, subst, inl, inr}
use Rattle.std.specs.Prelude.{not, ◌||◌, find, filter, reverse, if◌then◌else◌}
use Rattle.std.specs.List.{list_any}
use Rattle.std.specs.Option.{option_map}
use Rattle.rsct_packet.specs.declared.ids.ViewId.{ViewId}
use Rattle.rsct_packet.specs.declared.ids.ProtoId.{ProtoId}
use Rattle.rsct_packet.specs.declared.ids.ProviderId.{ProviderId}
use Rattle.rsct_packet.specs.Ids.{place_lt}
use Rattle.rsct_packet.specs.Lists.{is_empty}
use Rattle.rsct_packet.specs.Providers.{among}
use Rattle.rsct_packet.specs.Search.{Has}
use Rattle.rsct_packet.proofs.HasLaws.{has_filter, find_has}
use Rattle.group_attr.specs.declared.attrs.Attrs.{Attrs}
use Rattle.proposal_core.specs.declared.proposal.Failure.{Failure}
use Rattle.proposal_core.specs.declared.proposal.Proposal.TheVariants.{Join, Fail, Reflect}
use Rattle.proposal_core.specs.declared.group_state.GroupState.{GroupState}
use Rattle.proposal_core.specs.GroupView.{GroupView}
use Rattle.proposal_core.specs.Lists.{state_in}
use Rattle.batch_rules.specs.Waiting.{batches_joins, chosen_of, failures_left, next_joins, joins_left}
use Rattle.source_target.specs.declared.Due.TheVariants as owed
use Rattle.source_target.specs.Due.{is_on, allowed, cast_outs, reflect_from, value_place, reflection_due, due_from, due}
use Rattle.client_callbacks.specs.declared.told.Why.TheVariants.{NoSource}
use Rattle.view_state.specs.declared.views.Views.{Views}
use Rattle.node_state.specs.declared.group.GroupRow.{GroupRow}
use Rattle.node_state.specs.declared.group.JoinAttrs.{JoinAttrs}
use Rattle.node_state.specs.declared.state.Core.{Core}
use Rattle.node_state.specs.State.{new_row, row_found, has_name, row_of, with_row, with_led, led_of, list_of, state_of, len_of, led_groups}
use Rattle.node_state.specs.Sending.{sent, send_on}
use Rattle.node_state.specs.HandOn.{Answering}
use Rattle.node_state.specs.Leading.{with_waiting}
use Rattle.node_state.specs.Deciding.{keep_decision, refused, known_state, lacks_source, source_len}
use Rattle.node_state.specs.Ending.{quiet, attrs_or, attrs_for, carried_len, source_refused, end_step}
use Rattle.run_safety.specs.Past.{earlier, state_now}
use Rattle.node_state.proofs.NameOrder.{text_same}
use Rattle.step_refinement.proofs.SessionLaws.{provider_self}
use Rattle.entry_laws.proofs.closing_rows.Begins.{BeginsJoins, KeepsBegun, at_groups, at_ended}
use Rattle.entry_laws.proofs.closing_rows.At.{found, StateIs}
use Rattle.entry_laws.specs.source_order.Meant.{Decided, meant}
use Rattle.entry_laws.specs.source_order.Sources.{SameThere, JoinsFrom, IsFirst, LacksMember, BeginsAsMeant}
use Rattle.entry_laws.proofs.source_order.Holding.{Turn, so_far, kept_of, DecidedAs, Holds, left_fewer}
use Rattle.entry_laws.proofs.source_order.At.{state_whole, At}
use Rattle.entry_laws.proofs.source_order.Leading.{NextBegun, at_waits, at_begins}
use Rattle.entry_laws.proofs.source_order.Deciding.{at_refused}

-- ---- what is due

-- a reflection that is due is of the source's value, whose place is greater than the reflected one
record IsDue (st : GroupState) (source : Option GroupState) (at : ProtoId) : Type 0 where
  place : value_place source ≡ Some at
  greater : place_lt st.reflected_at (Some at) ≡ true

due_is : (st : GroupState) (source : Option GroupState) (v : ViewId) (i : ℕ) → due st source ≡ Some (owed.Reflect v i) → IsDue st source (record { view = v; place = i })
unfolding due reflection_due
due_is st source v i q = outs (cast_outs st.members source) q
  where
    at : (o : Option ProtoId) → value_place source ≡ o → reflect_from st.reflected_at o ≡ Some (owed.Reflect v i) → IsDue st source (record { view = v; place = i })
    at None p e = absurd (cc)
    at (Some x) p e = by (place_lt st.reflected_at (Some x)) refl e
      where
        by : (b : Bool) → place_lt st.reflected_at (Some x) ≡ b → (if b then Some (owed.Reflect x.view x.place) else None) ≡ Some (owed.Reflect v i) → IsDue st source (record { view = v; place = i })
        by false l e = absurd (cc)
        by true l e =
            let a : x.view ≡ v = cc in
            let b : x.place ≡ i = cc in
            subst (IsDue st source) (λ j. record { view = a j; place = b j }) (record { place = p; greater = l })

    members : (ps : List ProviderId) → reflection_due st source ps ≡ Some (owed.Reflect v i) → IsDue st source (record { view = v; place = i })
    members [] e = absurd (cc)
    members (p ∷ ps) e = at (value_place source) refl e

    outs : (fs : List Failure) → due_from st source fs ≡ Some (owed.Reflect v i) → IsDue st source (record { view = v; place = i })
    outs [] e = members st.members e
    outs (f ∷ fs) e = absurd (cc)

-- a list that is known
known_value : (l : Option GroupView) (at : ProtoId) → value_place (option_map (λ (l : GroupView). l.state) l) ≡ Some at → (state_in l).value_at ≡ Some at
known_value None at e = absurd (cc)
known_value (Some l) at e = e

known_allowed : (l : Option GroupView) (n : ℕ) → allowed (option_map (λ (l : GroupView). l.state) l) n ≡ true → list_any (is_on n) (state_in l).members ≡ true
unfolding allowed
known_allowed None n e = absurd (cc)
known_allowed (Some l) n e = e

known_denied : (l : Option GroupView) (n : ℕ) → allowed (option_map (λ (l : GroupView). l.state) l) n ≡ false → list_any (is_on n) (state_in l).members ≡ false
unfolding allowed
known_denied None n e = refl
known_denied (Some l) n e = e

no_longer : (b : Bool) → not b ≡ true → b ≡ false
no_longer false e = refl
no_longer true e = absurd (cc)

not_not : (b : Bool) → not (not b) ≡ true → b ≡ true
not_not true e = refl
not_not false e = absurd (cc)

-- ---- a refusal records nothing

pub record Still (s t : Core) : Type 0 where
  pub views : t.views ≡ s.views
  pub records : t.records ≡ s.records

pub refused_still : (g : List ℕ) (source : Option (List ℕ)) (ps : List ProviderId) (s t : Core) → Still s t → Still s (source_refused t g source ps)
unfolding source_refused refused keep_decision with_led with_row sent send_on
refused_still g source [] s t k = k
refused_still g source (p ∷ ps) s t k =
    refused_still g source ps s (refused t g p p.join (NoSource (source_len t source))) (record { views = k.views; records = k.records })

pub waits_still : (s : Core) (g : List ℕ) (b : Attrs) → Still s (with_waiting s g (joins_left b.batch))
unfolding with_waiting with_led with_row
waits_still s g b = record { views = refl; records = refl }

module _ (h : Turn) where
  abbrev Full : Core → Type 0
  Full s = At h (Unit {0}) s

  -- the records say what state a list has
  state_is : (s : Core) (g : List ℕ) → Full s → StateIs s.views.me s.views.view g (found s g).list (earlier (reverse s.records) h.before)
  state_is s g a = a.states tt g

  -- a reflection that is due
  reflects_well : (s : Core) (g k : List ℕ) (v : ViewId) (i : ℕ) → (state_of s g).attrs.source ≡ Some k → due (state_of s g) (known_state s k) ≡ Some (owed.Reflect v i) → Full s → NextBegun h s g (Reflect v i (state_of s k).value)
  unfolding state_of list_of row_of known_state
  reflects_well s g k v i from q a =
      let d = due_is (state_in (found s g).list) (option_map (λ (l : GroupView). l.state) (found s k).list) v i q in
      let here = state_is s g a in
      let there = state_is s k a in
      let at : ProtoId = record { view = v; place = i } in
      let whole = state_whole s.views.me s.views.view g (found s g).list (earlier (reverse s.records) h.before) here in (
        ap (λ (st : GroupState). place_lt st.reflected_at (Some at)) whole ∙ d.greater,
        tt,
        record {
          source = k;
          attrs = ap (λ (st : GroupState). st.attrs.source) (sym here.state) ∙ from;
          value_place = ap (λ (st : GroupState). st.value_at) (sym there.state) ∙ known_value (found s k).list at d.place;
          value_is = ap (λ (st : GroupState). st.value) (sym there.state);
        },
      )

  -- who is chosen first waits, and was decided
  chosen_decided : (s : Core) (g : List ℕ) (b : Bool) (p : ProviderId) (rest : List ProviderId) → chosen_of b (led_of s g).waiting.joins ≡ p ∷ rest → Holds h s → (s.views.me ≡ h.node) × (s.views.view ≡ h.view) × DecidedAs (so_far h []) h.node h.view g p (kept_of (led_of s g) p)
  unfolding led_of row_of
  chosen_decided s g b p rest e k = found_row (find (has_name g) s.groups) refl e k
    where
      waits : (row : GroupRow) → chosen_of b row.led.waiting.joins ≡ p ∷ rest → among row.led.waiting.joins p ≡ true
      waits row q = by b row.led.waiting.joins q
        where
          head : (xs : List ProviderId) → xs ≡ p ∷ rest → among xs p ≡ true
          head xs q = subst (λ z. among z p ≡ true) (sym q) (ap (λ t. t || among rest p) (provider_self p))

          by : (c : Bool) (xs : List ProviderId) → chosen_of c xs ≡ p ∷ rest → among xs p ≡ true
          by true xs q = head xs q
          by false [] q = absurd (cc)
          by false (y ∷ xs) q = let z : y ≡ p = cc in subst (λ w. among (w ∷ xs) p ≡ true) (sym z) (ap (λ t. t || among xs p) (provider_self p))

      found_row : (o : Option GroupRow) → find (has_name g) s.groups ≡ o → chosen_of b (row_found g o).led.waiting.joins ≡ p ∷ rest → Holds h s → (s.views.me ≡ h.node) × (s.views.view ≡ h.view) × DecidedAs (so_far h []) h.node h.view g p (kept_of (row_found g o).led p)
      found_row None at q k = absurd (let z : among [] p ≡ true = waits (new_row g) q in cc)
      found_row (Some row) at q (inl k) =
          let i = find_has (has_name g) s.groups row at in
          (k.me, k.view, subst (λ z. DecidedAs (so_far h []) h.node h.view z p (kept_of row.led p)) (text_same row.name g i.1) ((k.waits row i.0).1 p (waits row q)))
      found_row (Some row) at q (inr k) = absurd ((k.none row (find_has (has_name g) s.groups row at).0).1 p (waits row q))

  -- a refusal leaves the states of lists
  states_same : (s c : Core) → Still s c → Full s → Full c → (k : List ℕ) → state_in (found c k).list ≡ state_in (found s k).list
  states_same s c still a b k =
      (state_is c k b).state ∙ (λ j. state_now (still.views j).me (still.views j).view k (earlier (reverse (still.records j)) h.before)) ∙ sym (state_is s k a).state

  -- joins over a source, which nobody lost since they were chosen
  joins_from : (s c : Core) (ps : List ProviderId) (source : Option (List ℕ)) → Still s c → ((p : ProviderId) → Has p ps → not (lacks_source s source p.node) ≡ true) → Full s → Full c → JoinsFrom c.views.me c.views.view source (carried_len c source) (earlier (reverse c.records) h.before) ps
  unfolding carried_len len_of list_of row_of known_state lacks_source
  joins_from s c ps None still keep a b = tt
  joins_from s c ps (Some k) still keep a b =
      record {
        len = (state_is c k b).len;
        members = λ p i. ap (λ (st : GroupState). list_any (is_on p.node) st.members) (state_whole c.views.me c.views.view k (found c k).list (earlier (reverse c.records) h.before) (state_is c k b) ∙ states_same s c still a b k) ∙ known_allowed (found s k).list p.node (not_not (allowed (option_map (λ (l : GroupView). l.state) (found s k).list) p.node) (keep p i));
      }

  -- and one that was lost has no member of the source
  lost_lacks : (s c : Core) (p : ProviderId) (source : Option (List ℕ)) → Still s c → lacks_source s source p.node ≡ true → Full s → Full c → LacksMember c.views.me c.views.view source (earlier (reverse c.records) h.before) p
  unfolding known_state lacks_source row_of
  lost_lacks s c p None still e a b = absurd (cc)
  lost_lacks s c p (Some k) still e a b = λ has.
      let here : list_any (is_on p.node) (state_in (found s k).list).members ≡ true = ap (λ (st : GroupState). list_any (is_on p.node) st.members) (sym (states_same s c still a b k) ∙ (state_is c k b).state) ∙ has in
      let none : list_any (is_on p.node) (state_in (found s k).list).members ≡ false = known_denied (found s k).list p.node (no_longer (allowed (option_map (λ (l : GroupView). l.state) (found s k).list) p.node) e) in
      cc

  lengths_same : (c : Core) (o : Option (List ℕ)) → SameThere o (carried_len c o)
  unfolding carried_len
  lengths_same c None = tt
  lengths_same c (Some k) = tt

  -- a join begins with the attributes that are meant
  module _ (s c : Core) (g : List ℕ) (p : ProviderId) (rest : List ProviderId) (still : Still s c) (me : s.views.me ≡ h.node) (view : s.views.view ≡ h.view) (full : Full s) (now : Full c) where
    abbrev kept_in : Option (List ℕ) → List ProviderId
    kept_in source = filter (λ (q : ProviderId). not (lacks_source s source q.node)) (p ∷ rest)

    one_meant : (idle : Bool) (asked a : Attrs) → Decided (so_far h []) h.node h.view g p idle asked → a ≡ meant idle asked (state_of s g).attrs → BeginsAsMeant (so_far h (reverse c.records)) c.views.me c.views.view g (kept_in a.source) a (carried_len c a.source)
    unfolding state_of list_of row_of
    one_meant idle asked a decided e =
        record {
          first = p;
          idle = idle;
          asked = asked;
          decided = subst (λ (z : ℕ × ViewId). Decided (so_far h (reverse c.records)) z.0 z.1 g p idle asked) (λ i. (sym node i, sym seen i)) decided;
          attrs = whole;
          from = subst (λ z. JoinsFrom c.views.me c.views.view z.source (carried_len c a.source) (earlier (reverse c.records) h.before) (kept_in a.source)) whole (joins_from s c (kept_in a.source) a.source still (λ q i. (has_filter (λ (q : ProviderId). not (lacks_source s a.source q.node)) q (p ∷ rest) i).1) full now);
          chosen = by (lacks_source s a.source p.node) refl;
        }
      where
        node : c.views.me ≡ h.node
        node = ap (λ (v : Views). v.me) still.views ∙ me

        seen : c.views.view ≡ h.view
        seen = ap (λ (v : Views). v.view) still.views ∙ view

        whole : a ≡ meant idle asked (state_now c.views.me c.views.view g (earlier (reverse c.records) h.before)).attrs
        whole = e ∙ ap (λ (st : GroupState). meant idle asked st.attrs) (sym (states_same s c still full now g) ∙ (state_is c g now).state)

        by : (b : Bool) → lacks_source s a.source p.node ≡ b → IsFirst p (kept_in a.source) ⊎ LacksMember c.views.me c.views.view a.source (earlier (reverse c.records) h.before) p
        by false q = inl (filter (λ (r : ProviderId). not (lacks_source s a.source r.node)) rest, ap (λ b. cond (not b) (p ∷ filter (λ (r : ProviderId). not (lacks_source s a.source r.node)) rest) (filter (λ (r : ProviderId). not (lacks_source s a.source r.node)) rest)) q)
        by true q = inr (lost_lacks s c p a.source still q full now)

    all_meant : (o : Option JoinAttrs) → DecidedAs (so_far h []) h.node h.view g p o → let a : Attrs = attrs_or (state_of s g).attrs o in BeginsAsMeant (so_far h (reverse c.records)) c.views.me c.views.view g (kept_in a.source) a (carried_len c a.source)
    all_meant None d = one_meant false d.0 (state_of s g).attrs d.1 refl
    all_meant (Some j) d = one_meant true j.attrs j.attrs d refl

  joins_well : (s c : Core) (g : List ℕ) (b : Bool) (chosen : List ProviderId) → chosen_of b (led_of s g).waiting.joins ≡ chosen → (a : Attrs) → attrs_for (state_of s g) (led_of s g).join_attrs chosen ≡ a → Still s c → is_empty (filter (λ (p : ProviderId). not (lacks_source s a.source p.node)) chosen) ≡ false → Full s → Full c → NextBegun h c g (Join (filter (λ (p : ProviderId). not (lacks_source s a.source p.node)) chosen) a (carried_len c a.source))
  unfolding attrs_for
  joins_well s c g b [] from a e still some full now = absurd (cc)
  joins_well s c g b (p ∷ rest) from a e still some full now =
      let d = chosen_decided s g b p rest from full.holds in
      (tt, lengths_same c a.source, subst (λ z. BeginsAsMeant (so_far h (reverse c.records)) c.views.me c.views.view g (filter (λ (p : ProviderId). not (lacks_source s z.source p.node)) (p ∷ rest)) z (carried_len c z.source)) e (all_meant s c g p rest still d.0 d.1 full now (kept_of (led_of s g) p) d.2))

  begins_joins : (f : Answering) (s : Core) (g : List ℕ) → Full s → BeginsJoins Full f s g
  begins_joins f s g a some k =
      let st : GroupState = state_of s g in
      let chosen : List ProviderId = next_joins st.attrs.batch (led_of s g).waiting in
      let at : Attrs = attrs_for st (led_of s g).join_attrs chosen in
      let ps : List ProviderId = filter (λ (p : ProviderId). not (lacks_source s at.source p.node)) chosen in
      let out : List ProviderId = filter (λ (p : ProviderId). lacks_source s at.source p.node) chosen in
      let d : Core = with_waiting s g (joins_left st.attrs.batch) in
      let c : Core = source_refused d g at.source out in
      let still : Still s c = refused_still g at.source out s d (waits_still s g st.attrs) in
      at_begins h (Unit {0}) f c g (Join ps at (carried_len c at.source)) at.phases (joins_well s c g (batches_joins st.attrs.batch) chosen refl at refl still some a k) k

  -- ---- what begins in a group

  at_begun : (g : List ℕ) → KeepsBegun Full g
  at_begun g =
      record {
        leaves_failures = λ s b a. at_waits h (Unit {0}) s g (failures_left b) (λ l. record { joins = λ q e. e; attrs = refl }) a;
        leaves_joins = λ s b a. at_waits h (Unit {0}) s g (joins_left b) (λ l. left_fewer l b) a;
        refuses = λ s p r y a. at_refused h (Unit {0}) s g p r y a;
        fails = λ f s out phases a. at_begins h (Unit {0}) f s g (Fail out) phases (tt, tt, tt) a;
        reflects = λ f s k v i from q a. at_begins h (Unit {0}) f s g (Reflect v i (state_of s k).value) (state_of s g).attrs.source_phases (reflects_well s g k v i from q a) a;
        joins = λ f s a. begins_joins f s g a;
      }

  pub at_step_ended : (f : Answering) (s : Core) → Full s → Full (end_step f s)
  at_step_ended f s a = at_ended Full f (λ most c k. at_groups Full most f (led_groups c) (λ g i. at_begun g) (quiet c) k) s a
