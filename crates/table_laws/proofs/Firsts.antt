-- A copy whose provider's join found nobody is whole, and it stays whole.
use Rattle.std.proofs.Common.{◌≡◌, ◌⊎◌, inl, inr, ℕ, ◌+◌, Bool, true, false, List, [], ◌∷◌, ◌++◌, length, Option, Some, None, refl, sym, ap, ◌∙◌}
use Rattle.std.specs.Prelude.{◌&&◌, ◌||◌, not, nat_le, is_none, if◌then◌else◌}
use Rattle.std.specs.List.{list_all}
use Rattle.std.proofs.lemmas.Bool.{and_parts}
use Rattle.rsct_packet.specs.declared.ids.ProviderId.{ProviderId}
use Rattle.rsct_packet.specs.declared.ids.ViewId.{ViewId}
use Rattle.rsct_packet.specs.Lists.{is_empty}
use Rattle.rsct_packet.specs.Providers.{among, none_among, same_provider}
use Rattle.rsct_packet.specs.Search.{Has}
use Rattle.group_attr.specs.declared.attrs.Attrs.{Attrs}
use Rattle.proposal_core.specs.declared.proposal.Proposal.{Proposal}
use Rattle.proposal_core.specs.declared.proposal.Proposal.TheVariants.{Join, Leave, Fail, Expel, State, Message, Attributes, Reflect}
use Rattle.proposal_core.specs.declared.entry.Closed.{Closed}
use Rattle.proposal_core.specs.declared.entry.Entry.{Entry}
use Rattle.proposal_core.specs.declared.entry.Entry.TheVariants.{Once, Begin, Phase, Approve, Reject, Late}
use Rattle.proposal_core.specs.declared.group_state.GroupState.{GroupState}
use Rattle.proposal_core.specs.declared.group_state.Running.{Running}
use Rattle.proposal_core.specs.Fold.{max_providers, joins_of, can_begin, fits, after, apply, begun, approve, next_phase, advance, effect, take_value, first_attrs, first_value, replace_proposed}
use Rattle.client_callbacks.specs.Handed.{NoticeView}
use Rattle.agreed_table.specs.Pairs.{Pairs}
use Rattle.table_client.specs.Rules.{Copied, fresh_copy, is_own, with_chunk, with_effect, with_members, with_place, copy_after, effect_of, joined_map, received, taken}
use Rattle.table_client.specs.Sharing.{is_own_effect}
use Rattle.table_client.specs.Maps.{Lists, state_at, AreSafe, entry_map}
use Rattle.table_client.specs.Following.{begins_own}
use Rattle.table_client.proofs.ApartLaws.{other_way}
use Rattle.table_client.proofs.MapLaws.{state_next, after_fits, once_ends, approve_ends, reject_ends}
use Rattle.table_client.proofs.SharingLaws.{with_chunk_map, whole_goes_on}
use Rattle.row_laws.proofs.hearing.Handing.{has_among}
use Rattle.table_laws.specs.Firsts.{joiners_by}
use Rattle.table_laws.proofs.Copies.{Said, whole_if}
use Rattle.table_laws.proofs.Voting.{attrs_members, still}

-- ---- members and joiners

-- a member that the joiners are apart from is none of them
apart_not : (y : ProviderId) (ys ps : List ProviderId) → none_among (y ∷ ys) ps ≡ true → among ps y ≡ false
apart_not y ys [] e = refl
apart_not y ys (z ∷ zs) e =
    let parts = and_parts (not (among (y ∷ ys) z)) (none_among (y ∷ ys) zs) e in
    by (same_provider y z) refl parts.0 (apart_not y ys zs parts.1)
  where
    by : (b : Bool) → same_provider y z ≡ b → not (b || among ys z) ≡ true → among zs y ≡ false → (same_provider z y || among zs y) ≡ false
    by true q h rest = absurd (cc)
    by false q h rest = ap (λ (b : Bool). b || among zs y) (other_way y z q) ∙ rest

-- so where all members are joiners there is none
nobody_left : (ms ps : List ProviderId) → list_all (among ps) ms ≡ true → none_among ms ps ≡ true → ms ≡ []
nobody_left [] ps all apart = refl
nobody_left (y ∷ ys) ps all apart =
    let first = and_parts (among ps y) (list_all (among ps) ys) all in
    let both : true ≡ false = sym first.0 ∙ apart_not y ys ps apart in
    absurd (cc)

all_among : (ps qs : List ProviderId) → ((q : ProviderId) → Has q qs → Has q ps) → list_all (among ps) qs ≡ true
all_among ps [] within = refl
all_among ps (q ∷ qs) within =
    let first : among ps q ≡ true = has_among ps q (within q (inl refl)) in
    let rest : list_all (among ps) qs ≡ true = all_among ps qs (λ r h. within r (inr h)) in
    λ i. first i && rest i

-- a join that may begin, where all members are joiners
nobody_before : (s : GroupState) (y : Proposal) (p : ProviderId) → can_begin s y ≡ true → among (joins_of y) p ≡ true → list_all (among (joins_of y)) s.members ≡ true → s.members ≡ []
unfolding can_begin
nobody_before s (Join ps attrs k) p fit own all = nobody_left s.members ps all (and_parts (none_among s.members ps) (nat_le (length s.members + length ps) max_providers) fit).0
nobody_before s (Leave q r) p fit own all = absurd (cc)
nobody_before s (Fail out) p fit own all = absurd (cc)
nobody_before s (Expel q r out) p fit own all = absurd (cc)
nobody_before s (State q r value) p fit own all = absurd (cc)
nobody_before s (Message q r bytes) p fit own all = absurd (cc)
nobody_before s (Attributes q r attrs) p fit own all = absurd (cc)
nobody_before s (Reflect view place value) p fit own all = absurd (cc)

begun_members : (s : GroupState) (v : ViewId) (i : ℕ) (y : Proposal) → (apply s v i (Begin y)).members ≡ s.members
unfolding apply begun
begun_members s v i y = attrs_members s (first_attrs s y)

value_members : (s : GroupState) (v : ViewId) (i : ℕ) (o : Option (List ℕ)) → (take_value s v i o).members ≡ s.members
unfolding take_value
value_members s v i None = refl
value_members s v i (Some value) = refl

joined_members : (s : GroupState) (v : ViewId) (i : ℕ) (c : Closed) (run : Running) (ps : List ProviderId) (attrs : Attrs) (k : Option ℕ) → s.running ≡ Some run → run.proposal ≡ Join ps attrs k → (apply s v i (Approve c)).members ≡ s.members ++ ps
unfolding apply approve effect
joined_members s v i c run ps attrs k runs join =
    ap (λ (o : Option Running). (approve s v i c.value o).members) runs
    ∙ value_members (effect (record s { running = None }) run.proposal) v i (replace_proposed c.value run.proposed)
    ∙ ap (λ (y : Proposal). (effect (record s { running = None }) y).members) join

-- ---- what a notice makes of the map

members_whole : (n : NoticeView) (c : Copied) → (is_empty n.after.members ≡ true) ⊎ (c.map ≡ Some []) → (with_members n c).map ≡ Some []
unfolding with_members
members_whole n c (inl q) = ap (λ (b : Bool). (whole_if c b).map) q
members_whole n c (inr q) = by (is_empty n.after.members)
  where
    by : (b : Bool) → (whole_if c b).map ≡ Some []
    by true = refl
    by false = q

fresh_whole : (n : NoticeView) → (is_empty n.after.members ≡ true) ⊎ ((taken n (fresh_copy n) (effect_of n.entry None)).map ≡ Some []) → (copy_after n (fresh_copy n)).map ≡ Some []
unfolding copy_after with_place with_effect with_chunk
fresh_whole n k = members_whole n (taken n (fresh_copy n) (effect_of n.entry None)) k

after_whole : (n : NoticeView) (c : Copied) → (taken n (with_chunk n c) (effect_of n.entry (with_chunk n c).running)).map ≡ Some [] → (copy_after n c).map ≡ Some []
unfolding copy_after with_place with_effect
after_whole n c k = members_whole n (taken n (with_chunk n c) (effect_of n.entry (with_chunk n c).running)) (inr k)

abbrev joined_if : NoticeView → Copied → List ProviderId → Bool → Copied
joined_if n c ps b = if b then record c { map = joined_map n c ps; chunks = [] } else c

-- its own join takes effect, and all members are joiners
joined_whole : (n : NoticeView) (c : Copied) (ps : List ProviderId) (attrs : Attrs) (k : Option ℕ) → among ps n.provider ≡ true → list_all (among ps) n.after.members ≡ true → (taken n c (Some (Join ps attrs k))).map ≡ Some []
joined_whole n c ps attrs k own all =
    ap (λ (b : Bool). (joined_if n c ps b).map) own ∙ ap (λ (b : Bool). if b then Some [] else received c.chunks) all

once_whole : (n : NoticeView) (c : Copied) (y : Proposal) → among (joins_of y) n.provider ≡ true → list_all (among (joins_of y)) n.after.members ≡ true → (taken n c (Some y)).map ≡ Some []
once_whole n c (Join ps attrs k) own all = joined_whole n c ps attrs k own all
once_whole n c (Leave q r) own all = absurd (cc)
once_whole n c (Fail out) own all = absurd (cc)
once_whole n c (Expel q r out) own all = absurd (cc)
once_whole n c (State q r value) own all = absurd (cc)
once_whole n c (Message q r bytes) own all = absurd (cc)
once_whole n c (Attributes q r attrs) own all = absurd (cc)
once_whole n c (Reflect view place value) own all = absurd (cc)

-- ---- a notice of a group's lists

-- where the provider's own join runs nobody is a member
abbrev pub AloneIf : ProviderId → Option Running → List ProviderId → Type 0
AloneIf p o members = (run : Running) → o ≡ Some run → among (joins_of run.proposal) p ≡ true → members ≡ []

some_proposal : (a b : Proposal) → Some a ≡ Some b → a ≡ b
some_proposal a b e = cc

some_run : (a b : Running) → Some a ≡ Some b → a ≡ b
some_run a b e = cc

module _ (x : Lists) (safe : AreSafe x) (n : NoticeView) (said : Said x n) where
  abbrev s : GroupState
  s = state_at x n.view n.place

  fit : fits s n.entry ≡ true
  fit = safe.fitted n.view n.place n.entry said.0

  after_is : n.after ≡ after s n.view n.place n.entry
  after_is = said.1 ∙ state_next x n.view (n.place + 1) n.place n.entry refl said.0

  applied : n.after ≡ apply s n.view n.place n.entry
  applied = after_is ∙ after_fits s n.view n.place n.entry fit

  -- behind this entry
  by_entry : (e : Entry) → n.entry ≡ e → n.after ≡ apply s n.view n.place e
  by_entry e is = applied ∙ ap (apply s n.view n.place) is

  -- the copy that begins with a join that found nobody
  abbrev Begun : Type 0
  Begun = ((copy_after n (fresh_copy n)).map ≡ Some []) × AloneIf n.provider n.after.running n.after.members

  found_once : (y : Proposal) → n.entry ≡ Once y → among (joins_of y) n.provider ≡ true → list_all (among (joins_of y)) n.after.members ≡ true → Begun
  found_once y is own all = (
    fresh_whole n (inr (ap (λ (e : Entry). (taken n (fresh_copy n) (effect_of e None)).map) is ∙ once_whole n (fresh_copy n) y own all)),
    λ run runs mine. absurd (once_ends s n.view n.place y run (ap (λ (t : GroupState). t.running) (sym (by_entry (Once y) is)) ∙ runs)),
  )

  found_begin : (y : Proposal) → n.entry ≡ Begin y → among (joins_of y) n.provider ≡ true → list_all (among (joins_of y)) n.after.members ≡ true → Begun
  unfolding fits
  found_begin y is own all =
      let begins : fits s (Begin y) ≡ true = ap (fits s) (sym is) ∙ fit in
      let same : n.after.members ≡ s.members = ap (λ (t : GroupState). t.members) (by_entry (Begin y) is) ∙ begun_members s n.view n.place y in
      let none : s.members ≡ [] = nobody_before s y n.provider (and_parts (is_none s.running) (can_begin s y) begins).1 own (ap (list_all (among (joins_of y))) (sym same) ∙ all) in
      (fresh_whole n (inl (ap is_empty (same ∙ none))), λ run runs mine. same ∙ none)

  pub first_whole : begins_own n.provider n.entry ≡ true → list_all (among (joiners_by n.entry)) n.after.members ≡ true → Begun
  first_whole own all = by n.entry refl own all
    where
      by : (e : Entry) → n.entry ≡ e → begins_own n.provider e ≡ true → list_all (among (joiners_by e)) n.after.members ≡ true → Begun
      by (Once y) is own all = found_once y is own all
      by (Begin y) is own all = found_begin y is own all
      by (Phase c) is own all = absurd (cc)
      by (Approve c) is own all = absurd (cc)
      by (Reject c) is own all = absurd (cc)
      by (Late proto phase ps) is own all = absurd (cc)

  -- and one that was whole before the notice
  module _ (c : Copied) (m : Pairs) (whole : c.map ≡ Some m) (running : c.running ≡ s.running) (other : begins_own n.provider n.entry ≡ false) (alone : AloneIf n.provider s.running s.members) where
    abbrev Onward : Type 0
    Onward = ((k : Pairs) × ((copy_after n c).map ≡ Some k)) × AloneIf n.provider n.after.running n.after.members

    effect_is : effect_of n.entry (with_chunk n c).running ≡ effect_of n.entry s.running
    effect_is = ap (effect_of n.entry) ((with_chunk_map n c (is_own n.provider c.running) refl).1 ∙ running)

    -- its own join takes effect: all members joined with it
    all_joined : (e : Entry) (r : Option Running) (ps : List ProviderId) (attrs : Attrs) (k : Option ℕ) → n.entry ≡ e → s.running ≡ r → effect_of e r ≡ Some (Join ps attrs k) → among ps n.provider ≡ true → list_all (among ps) n.after.members ≡ true
    all_joined (Once y) r ps attrs k is runs took own =
        let mine : begins_own n.provider n.entry ≡ true = ap (begins_own n.provider) is ∙ ap (λ (z : Proposal). among (joins_of z) n.provider) (some_proposal y (Join ps attrs k) took) ∙ own in
        let both : true ≡ false = sym mine ∙ other in
        absurd (cc)
    all_joined (Approve cl) None ps attrs k is runs took own = absurd (cc)
    all_joined (Approve cl) (Some run) ps attrs k is runs took own =
        let join : run.proposal ≡ Join ps attrs k = some_proposal run.proposal (Join ps attrs k) took in
        let none : s.members ≡ [] = alone run runs (ap (λ (z : Proposal). among (joins_of z) n.provider) join ∙ own) in
        let members : n.after.members ≡ ps = ap (λ (t : GroupState). t.members) (by_entry (Approve cl) is) ∙ joined_members s n.view n.place cl run ps attrs k runs join ∙ ap (λ (ms : List ProviderId). ms ++ ps) none in
        ap (list_all (among ps)) members ∙ all_among ps ps (λ q h. h)
    all_joined (Begin y) r ps attrs k is runs took own = absurd (cc)
    all_joined (Phase cl) r ps attrs k is runs took own = absurd (cc)
    all_joined (Reject cl) r ps attrs k is runs took own = absurd (cc)
    all_joined (Late proto phase qs) r ps attrs k is runs took own = absurd (cc)

    own_whole : (o : Option Proposal) → effect_of n.entry s.running ≡ o → is_own_effect n.provider o ≡ true → (copy_after n c).map ≡ Some []
    own_whole (Some (Join ps attrs k)) is own =
        after_whole n c (ap (λ (o : Option Proposal). (taken n (with_chunk n c) o).map) (effect_is ∙ is) ∙ joined_whole n (with_chunk n c) ps attrs k own (all_joined n.entry s.running ps attrs k refl refl is own))
    own_whole None is own = absurd (cc)
    own_whole (Some (Leave q r)) is own = absurd (cc)
    own_whole (Some (Fail out)) is own = absurd (cc)
    own_whole (Some (Expel q r out)) is own = absurd (cc)
    own_whole (Some (State q r value)) is own = absurd (cc)
    own_whole (Some (Message q r bytes)) is own = absurd (cc)
    own_whole (Some (Attributes q r attrs)) is own = absurd (cc)
    own_whole (Some (Reflect view place value)) is own = absurd (cc)

    map_on : (b : Bool) → is_own_effect n.provider (effect_of n.entry s.running) ≡ b → (k : Pairs) × ((copy_after n c).map ≡ Some k)
    map_on false own = (entry_map s n.view n.place n.entry m, whole_goes_on n c s m running after_is whole own)
    map_on true own = ([], own_whole (effect_of n.entry s.running) refl own)

    -- what runs behind the entry ran before it
    ran : (e : Entry) → begins_own n.provider e ≡ false → (run : Running) → (apply s n.view n.place e).running ≡ Some run → among (joins_of run.proposal) n.provider ≡ true → s.members ≡ []
    unfolding apply begun next_phase advance
    ran (Once y) new run runs mine = absurd (once_ends s n.view n.place y run runs)
    ran (Begin y) new run runs mine =
        let proposal : y ≡ run.proposal = ap (λ (r : Running). r.proposal) (some_run (record { proto = record { view = n.view; place = n.place }; proposal = y; phase = 1; proposed = first_value y }) run runs) in
        let both : true ≡ false = sym (ap (λ (z : Proposal). among (joins_of z) n.provider) proposal ∙ mine) ∙ new in
        absurd (cc)
    ran (Phase cl) new run runs mine = by s.running refl runs
      where
        by : (r : Option Running) → s.running ≡ r → (next_phase s cl.value r).running ≡ Some run → s.members ≡ []
        by None was e = absurd (let both : None ≡ Some run = sym was ∙ e in cc)
        by (Some old) was e =
            let now : advance cl.value old ≡ run = some_run (advance cl.value old) run e in
            alone old was (ap (λ (z : Running). among (joins_of z.proposal) n.provider) now ∙ mine)
    ran (Approve cl) new run runs mine = absurd (approve_ends s n.view n.place cl run s.running refl runs)
    ran (Reject cl) new run runs mine = absurd (reject_ends s run s.running refl runs)
    ran (Late proto phase qs) new run runs mine = alone run runs mine

    pub whole_on : Onward
    whole_on = (map_on (is_own_effect n.provider (effect_of n.entry s.running)) refl, alone_on)
      where
        alone_on : AloneIf n.provider n.after.running n.after.members
        alone_on run runs mine =
            let there : (apply s n.view n.place n.entry).running ≡ Some run = ap (λ (t : GroupState). t.running) (sym applied) ∙ runs in
            ap (λ (t : GroupState). t.members) applied ∙ (still s n.view n.place n.entry run [] there).1 ∙ ran n.entry other run there mine
