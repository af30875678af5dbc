-- A copy that follows its group's lists has their maps.
use Rattle.std.proofs.Common.{◌≡◌, ℕ, ◌+◌, Bool, true, false, cond, List, [], ◌∷◌, ◌++◌, length, Option, Some, None, refl, sym, ap, subst, ◌∙◌}
use Rattle.std.specs.Prelude.{◌&&◌, ◌||◌, not, is_none, IfSome, nat_le}
use Rattle.std.specs.List.{list_all}
use Rattle.rsct_packet.specs.declared.ids.ProviderId.{ProviderId}
use Rattle.rsct_packet.specs.declared.ids.ViewId.{ViewId}
use Rattle.rsct_packet.specs.Lists.{is_empty}
use Rattle.rsct_packet.specs.Providers.{among, none_among, same_provider}
use Rattle.rsct_packet.proofs.FieldLaws.{and_true}
use Rattle.group_attr.specs.declared.attrs.Attrs.{Attrs}
use Rattle.proposal_core.specs.declared.proposal.Proposal.{Proposal}
use Rattle.proposal_core.specs.declared.proposal.Proposal.TheVariants.{Join, Leave, Fail, Expel, State, Message, Attributes, Reflect}
use Rattle.proposal_core.specs.declared.entry.Closed.{Closed}
use Rattle.proposal_core.specs.declared.entry.Entry.{Entry}
use Rattle.proposal_core.specs.declared.entry.Entry.TheVariants.{Once, Begin, Phase, Approve, Reject, Late}
use Rattle.proposal_core.specs.declared.group_state.GroupState.{GroupState}
use Rattle.proposal_core.specs.declared.group_state.Running.{Running}
use Rattle.proposal_core.specs.Fold.{max_providers, joins_of, can_begin, joiners_fit, joiners_fit_at, fits, after, apply, apply_once, begun, approve, next_phase, advance, effect, take_value, take_attrs, first_attrs, first_value, replace_proposed}
use Rattle.proposal_core.proofs.FoldLaws.{joiners_fit_after, joiners_that_run, once_is_applied}
use Rattle.client_callbacks.specs.Handed.{NoticeView}
use Rattle.agreed_table.specs.Pairs.{Pairs, IsTable}
use Rattle.agreed_table.proofs.WriteLaws.{messages_leave_maps}
use Rattle.table_client.specs.Rules.{Copied, closed_in, is_own, kept_of, with_chunk, with_effect, with_members, with_place, effect_of, received, joined_map, taken, copy_after}
use Rattle.table_client.specs.Maps.{Origin, base_state, Lists, state_at, AreSafe, message_map, entry_map, MapIs, Fresh, Based, Then}
use Rattle.table_client.specs.Sharing.{AreChunksOf, is_own_effect}
use Rattle.table_client.specs.Following.{WhereOwnJoins, CopyIs, begins_own, Continues, Next, Over, Comes, First, Onward, Into, Tells, CopiesFollow}
use Rattle.table_client.proofs.MapLaws.{state_next, state_first, after_fits, empty_maps, begun_map, once_ends, approve_ends, reject_ends}
use Rattle.table_client.proofs.SharingLaws.{received_is_the_map, kept_are_chunks, with_chunk_map, whole_goes_on}
use Rattle.table_client.proofs.ApartLaws.{other_way}

-- ---- what holds at each place that has a map

cut_table : (b : Bool) (m : Pairs) → IsTable m → IsTable (cond b [] m)
cut_table true m t = messages_leave_maps.0
cut_table false m t = t

message_table : (o : Option Proposal) (m : Pairs) → IsTable m → IsTable (message_map o m)
message_table None m t = t
message_table (Some (Join ps attrs k)) m t = t
message_table (Some (Leave p r)) m t = t
message_table (Some (Fail out)) m t = t
message_table (Some (Expel p r out)) m t = t
message_table (Some (State p r value)) m t = t
message_table (Some (Message p r bytes)) m t = messages_leave_maps.1 bytes m t
message_table (Some (Attributes p r attrs)) m t = t
message_table (Some (Reflect view place value)) m t = t

is_table : (x : Lists) (v : ViewId) (i : ℕ) (m : Pairs) → MapIs x v i m → IsTable m
is_table x v i m (Fresh _ _ _ i0 m0 none) = subst IsTable (sym m0) messages_leave_maps.0
is_table x v i m (Based _ _ _ b i0 some p) = is_table x b.old b.len m p
is_table x v i m (Then _ _ _ j e before is m0 at p) =
    subst IsTable (sym m0) (cut_table (is_empty (after (state_at x v j) v j e).members) (message_map (effect_of e (state_at x v j).running) before) (message_table (effect_of e (state_at x v j).running) before (is_table x v j before p)))

same_begin : (s t : GroupState) (y : Proposal) → s.members ≡ t.members → can_begin s y ≡ can_begin t y
unfolding can_begin
same_begin s t (Join ps attrs k) e = ap (λ (ms : List ProviderId). none_among ms ps && nat_le (length ms + length ps) max_providers) e
same_begin s t (Leave p r) e = refl
same_begin s t (Fail out) e = refl
same_begin s t (Expel p r out) e = refl
same_begin s t (State p r value) e = refl
same_begin s t (Message p r bytes) e = refl
same_begin s t (Attributes p r attrs) e = refl
same_begin s t (Reflect view place value) e = refl

same_fit : (s t : GroupState) (r : Option Running) → s.members ≡ t.members → joiners_fit_at s r ≡ joiners_fit_at t r
unfolding joiners_fit_at
same_fit s t None e = refl
same_fit s t (Some run) e = same_begin s t run.proposal e

-- the joiners of what runs are no members
fit_there : (x : Lists) → AreSafe x → (v : ViewId) (i : ℕ) (m : Pairs) → MapIs x v i m → joiners_fit (state_at x v i) ≡ true
unfolding joiners_fit joiners_fit_at
fit_there x safe v i m (Fresh _ _ _ i0 m0 none) =
    ap joiners_fit (state_first x v i i0 ∙ ap base_state none)
fit_there x safe v i m (Based _ _ _ b i0 some p) =
    let old : GroupState = state_at x b.old b.len in
    ap joiners_fit (state_first x v i i0 ∙ ap base_state some) ∙ same_fit b.state old b.state.running (safe.kept v b some).0 ∙ ap (joiners_fit_at old) (safe.kept v b some).1 ∙ fit_there x safe b.old b.len m p
fit_there x safe v i m (Then _ _ _ j e before is m0 at p) =
    let s : GroupState = state_at x v j in
    let fit : fits s e ≡ true = safe.fitted v j e at in
    ap joiners_fit (state_next x v i j e is at ∙ after_fits s v j e fit) ∙ joiners_fit_after s v j e fit (fit_there x safe v j before p)

-- ---- a join that takes effect

value_members : (s : GroupState) (v : ViewId) (i : ℕ) (o : Option (List ℕ)) → (take_value s v i o).members ≡ s.members
unfolding take_value
value_members s v i None = refl
value_members s v i (Some value) = refl

attrs_members : (s : GroupState) (o : Option Attrs) → (take_attrs s o).members ≡ s.members
unfolding take_attrs
attrs_members s None = refl
attrs_members s (Some attrs) = refl

approved_members : (s : GroupState) (v : ViewId) (i : ℕ) (value : Option (List ℕ)) (run : Running) (ps : List ProviderId) (attrs : Attrs) (k : Option ℕ) → run.proposal ≡ Join ps attrs k → (approve s v i value (Some run)).members ≡ s.members ++ ps
unfolding approve effect
approved_members s v i value run ps attrs k is =
    value_members (effect (record s { running = None }) run.proposal) v i (replace_proposed value run.proposed) ∙ ap (λ (y : Proposal). (effect (record s { running = None }) y).members) is

once_members : (s : GroupState) (v : ViewId) (i : ℕ) (ps : List ProviderId) (attrs : Attrs) (k : Option ℕ) → s.running ≡ None → (apply s v i (Once (Join ps attrs k))).members ≡ s.members ++ ps
unfolding apply_once effect
once_members s v i ps attrs k idle =
    let y : Proposal = Join ps attrs k in
    ap (λ (t : GroupState). t.members) (once_is_applied s v i y idle) ∙ value_members (take_attrs (effect s y) (first_attrs s y)) v i (first_value y) ∙ attrs_members (effect s y) (first_attrs s y)

-- who joined were none of the members
record Joined (s t : GroupState) (ps : List ProviderId) : Type 0 where
  pub members : t.members ≡ s.members ++ ps
  pub apart : none_among s.members ps ≡ true

none_idle : (o : Option Running) → is_none o ≡ true → o ≡ None
none_idle None e = refl
none_idle (Some run) e = absurd cc

some_proposal : (a b : Proposal) → Some a ≡ Some b → a ≡ b
some_proposal a b e = cc

joined_once : (s : GroupState) (v : ViewId) (i : ℕ) (y : Proposal) (ps : List ProviderId) (attrs : Attrs) (k : Option ℕ) → y ≡ Join ps attrs k → fits s (Once y) ≡ true → Joined s (apply s v i (Once y)) ps
unfolding fits can_begin
joined_once s v i y ps attrs k is fit =
    let fit' : fits s (Once (Join ps attrs k)) ≡ true = ap (λ (z : Proposal). fits s (Once z)) (sym is) ∙ fit in
    let parts = and_true (is_none s.running) (can_begin s (Join ps attrs k)) fit' in
    let rest = and_true (none_among s.members ps) (nat_le (length s.members + length ps) max_providers) parts.1 in
    record { members = ap (λ (z : Proposal). (apply s v i (Once z)).members) is ∙ once_members s v i ps attrs k (none_idle s.running parts.0); apart = rest.0 }

joined_by : (s : GroupState) (v : ViewId) (i : ℕ) (c : Closed) (ps : List ProviderId) (attrs : Attrs) (k : Option ℕ) (r : Option Running) → s.running ≡ r → effect_of (Approve c) r ≡ Some (Join ps attrs k) → joiners_fit s ≡ true → Joined s (apply s v i (Approve c)) ps
unfolding apply can_begin joiners_fit
joined_by s v i c ps attrs k None is e fit = absurd cc
joined_by s v i c ps attrs k (Some run) is e fit =
    let join : run.proposal ≡ Join ps attrs k = some_proposal run.proposal (Join ps attrs k) e in
    let begin : can_begin s (Join ps attrs k) ≡ true = ap (can_begin s) (sym join) ∙ joiners_that_run s s.running run is fit in
    let rest = and_true (none_among s.members ps) (nat_le (length s.members + length ps) max_providers) begin in
    record { members = ap (λ (o : Option Running). (approve s v i c.value o).members) is ∙ approved_members s v i c.value run ps attrs k join; apart = rest.0 }

joined : (s : GroupState) (v : ViewId) (i : ℕ) (e : Entry) (ps : List ProviderId) (attrs : Attrs) (k : Option ℕ) → effect_of e s.running ≡ Some (Join ps attrs k) → fits s e ≡ true → joiners_fit s ≡ true → Joined s (apply s v i e) ps
joined s v i (Once y) ps attrs k is fit joiners = joined_once s v i y ps attrs k (some_proposal y (Join ps attrs k) is) fit
joined s v i (Begin y) ps attrs k is fit joiners = absurd cc
joined s v i (Phase c) ps attrs k is fit joiners = absurd cc
joined s v i (Approve c) ps attrs k is fit joiners = joined_by s v i c ps attrs k s.running refl is joiners
joined s v i (Reject c) ps attrs k is fit joiners = absurd cc
joined s v i (Late proto phase qs) ps attrs k is fit joiners = absurd cc

-- a member is none of those who are apart from the members
apart_not : (y : ProviderId) (ys ps : List ProviderId) → none_among (y ∷ ys) ps ≡ true → among ps y ≡ false
apart_not y ys [] e = refl
apart_not y ys (z ∷ zs) e =
    let parts = and_true (not (among (y ∷ ys) z)) (none_among (y ∷ ys) zs) e in
    by (same_provider y z) refl parts.0 (apart_not y ys zs parts.1)
  where
    by : (b : Bool) → same_provider y z ≡ b → not (b || among ys z) ≡ true → among zs y ≡ false → (same_provider z y || among zs y) ≡ false
    by true q h rest = absurd cc
    by false q h rest = ap (λ (b : Bool). b || among zs y) (other_way y z q) ∙ rest

-- where all after it are joiners, nobody was a member before
nobody_before : (ms ps : List ProviderId) → list_all (among ps) (ms ++ ps) ≡ true → none_among ms ps ≡ true → ms ≡ []
nobody_before [] ps all apart = refl
nobody_before (y ∷ ys) ps all apart =
    let first = and_true (among ps y) (list_all (among ps) (ys ++ ps)) all in
    let both : true ≡ false = sym first.0 ∙ apart_not y ys ps apart in
    absurd cc

-- who joined is there
somebody_after : (ms ps : List ProviderId) (p : ProviderId) → among ps p ≡ true → is_empty (ms ++ ps) ≡ false
somebody_after [] [] p e = absurd cc
somebody_after [] (z ∷ zs) p e = refl
somebody_after (y ∷ ys) ps p e = refl

-- ---- what a notice leaves of the chunks, and of a map in part

effect_chunks : (n : NoticeView) (c : Copied) (o : Option Proposal) → is_own_effect n.provider o ≡ false → (taken n c o).chunks ≡ c.chunks
effect_chunks n c None own = refl
effect_chunks n c (Some (Join ps attrs k)) own = rw own refl
effect_chunks n c (Some (Leave p r)) own = refl
effect_chunks n c (Some (Fail out)) own = refl
effect_chunks n c (Some (Expel p r out)) own = refl
effect_chunks n c (Some (State p r value)) own = refl
effect_chunks n c (Some (Message p r bytes)) own = refl
effect_chunks n c (Some (Attributes p r attrs)) own = refl
effect_chunks n c (Some (Reflect view place value)) own = refl

effect_part : (n : NoticeView) (c : Copied) (o : Option Proposal) → c.map ≡ None → is_own_effect n.provider o ≡ false → (taken n c o).map ≡ None
effect_part n c None part own = part
effect_part n c (Some (Join ps attrs k)) part own = rw own part
effect_part n c (Some (Leave p r)) part own = part
effect_part n c (Some (Fail out)) part own = part
effect_part n c (Some (Expel p r out)) part own = part
effect_part n c (Some (State p r value)) part own = part
effect_part n c (Some (Message p r bytes)) part own = rw part refl
effect_part n c (Some (Attributes p r attrs)) part own = part
effect_part n c (Some (Reflect view place value)) part own = part

own_map : (n : NoticeView) (c : Copied) (ps : List ProviderId) (attrs : Attrs) (k : Option ℕ) → among ps n.provider ≡ true → (taken n c (Some (Join ps attrs k))).map ≡ joined_map n c ps
own_map n c ps attrs k own = rw own refl

members_part : (n : NoticeView) (c : Copied) (b : Bool) → is_empty n.after.members ≡ b → c.map ≡ None → (with_members n c).map ≡ cond b (Some []) None
unfolding with_members
members_part n c true is part = rw is refl
members_part n c false is part = rw is part

members_some : (n : NoticeView) (c : Copied) → is_empty n.after.members ≡ false → (with_members n c).map ≡ c.map
unfolding with_members
members_some n c is = rw is refl

members_chunks : (n : NoticeView) (c : Copied) (b : Bool) → is_empty n.after.members ≡ b → (with_members n c).chunks ≡ c.chunks
unfolding with_members
members_chunks n c true is = rw is refl
members_chunks n c false is = rw is refl

chunk_own : (n : NoticeView) (c : Copied) → is_own n.provider c.running ≡ true → (with_chunk n c).chunks ≡ kept_of c.chunks (closed_in n.entry)
unfolding with_chunk
chunk_own n c own = rw own refl

chunk_other : (n : NoticeView) (c : Copied) → is_own n.provider c.running ≡ false → (with_chunk n c).chunks ≡ c.chunks
unfolding with_chunk
chunk_other n c other = rw other refl

after_chunks : (n : NoticeView) (c : Copied) → is_own_effect n.provider (effect_of n.entry (with_chunk n c).running) ≡ false → (copy_after n c).chunks ≡ (with_chunk n c).chunks
unfolding copy_after with_place with_effect
after_chunks n c own =
    members_chunks n (taken n (with_chunk n c) (effect_of n.entry (with_chunk n c).running)) (is_empty n.after.members) refl ∙ effect_chunks n (with_chunk n c) (effect_of n.entry (with_chunk n c).running) own

-- ---- one notice more

-- what is known of the copy before it, at the place of the notice
record Before (x : Lists) (c : Copied) (n : NoticeView) : Type 0 where
  pub map : IfSome c.map (MapIs x n.view n.place)
  pub running : c.running ≡ (state_at x n.view n.place).running
  pub chunks : WhereOwnJoins x n.provider c (λ run m. AreChunksOf m c.chunks)
  pub new : begins_own n.provider n.entry ≡ true → (c.running ≡ None) × (c.chunks ≡ [])

begins_idle : (s : GroupState) (p : ProviderId) (e : Entry) → begins_own p e ≡ true → fits s e ≡ true → s.running ≡ None
unfolding fits
begins_idle s p (Once y) own fit = none_idle s.running (and_true (is_none s.running) (can_begin s y) fit).0
begins_idle s p (Begin y) own fit = none_idle s.running (and_true (is_none s.running) (can_begin s y) fit).0
begins_idle s p (Phase c) own fit = absurd cc
begins_idle s p (Approve c) own fit = absurd cc
begins_idle s p (Reject c) own fit = absurd cc
begins_idle s p (Late proto phase ps) own fit = absurd cc

some_map : (o : Option Pairs) (P Q : Pairs → Type 0) → ((m : Pairs) → P m → Q m) → IfSome o P → IfSome o Q
some_map None P Q f h = h
some_map (Some m) P Q f h = f m h

-- where a view goes on from a place, its map, its members and what runs are those of the place
pub map_into : (x : Lists) (u : ViewId) (len : ℕ) (v : ViewId) (m : Pairs) → Continues x u len v → MapIs x u len m → MapIs x v 0 m
map_into x u len v m (Next _ b base old at) h = Based v 0 m b refl base (subst (λ (z : ViewId × ℕ). MapIs x z.0 z.1 m) (λ z. (sym old z, sym at z)) h)
map_into x u len v m (Over _ b base none before) h = Based v 0 m b refl base (subst (λ (k : ℕ). MapIs x b.old k m) (sym none) (map_into x u len b.old m before h))

kept_at_base : (x : Lists) → AreSafe x → (v : ViewId) (b : Origin) → x.base v ≡ Some b → ((state_at x v 0).members ≡ (state_at x b.old b.len).members) × ((state_at x v 0).running ≡ (state_at x b.old b.len).running)
kept_at_base x safe v b base =
    let first : state_at x v 0 ≡ b.state = state_first x v 0 refl ∙ ap base_state base in
    (ap (λ (s : GroupState). s.members) first ∙ (safe.kept v b base).0, ap (λ (s : GroupState). s.running) first ∙ (safe.kept v b base).1)

pub kept_into : (x : Lists) → AreSafe x → (u : ViewId) (len : ℕ) (v : ViewId) → Continues x u len v → ((state_at x v 0).members ≡ (state_at x u len).members) × ((state_at x v 0).running ≡ (state_at x u len).running)
kept_into x safe u len v (Next _ b base old at) =
    let k = kept_at_base x safe v b base in
    (k.0 ∙ ap (λ (z : ViewId × ℕ). (state_at x z.0 z.1).members) (λ z. (old z, at z)), k.1 ∙ ap (λ (z : ViewId × ℕ). (state_at x z.0 z.1).running) (λ z. (old z, at z)))
kept_into x safe u len v (Over _ b base none before) =
    let k = kept_at_base x safe v b base in
    let rest = kept_into x safe u len b.old before in
    (k.0 ∙ ap (λ (j : ℕ). (state_at x b.old j).members) none ∙ rest.0, k.1 ∙ ap (λ (j : ℕ). (state_at x b.old j).running) none ∙ rest.1)

before_of : (x : Lists) → AreSafe x → (c : Copied) (n : NoticeView) → Tells x c n → Comes x c n → Before x c n
before_of x safe c n tells (First own part idle none) =
    record {
      map = subst (λ (o : Option Pairs). IfSome o (MapIs x n.view n.place)) (sym part) tt;
      running = idle ∙ sym (begins_idle (state_at x n.view n.place) n.provider n.entry own (safe.fitted n.view n.place n.entry tells.entry));
      chunks = λ run m runs own there. absurd (let both : None ≡ Some run = sym idle ∙ runs in cc);
      new = λ e. (idle, none);
    }
before_of x safe c n tells (Onward other is view place) =
    record {
      map = subst (λ (z : ViewId × ℕ). IfSome c.map (MapIs x z.0 z.1)) (λ z. (sym view z, sym place z)) is.map;
      running = is.running ∙ ap (λ (z : ViewId × ℕ). (state_at x z.0 z.1).running) (λ z. (sym view z, sym place z));
      chunks = is.chunks;
      new = λ e. absurd (let both : true ≡ false = sym e ∙ other in cc);
    }
before_of x safe c n tells (Into other is start into) =
    record {
      map = some_map c.map (MapIs x c.view c.len) (MapIs x n.view n.place) (λ m h. subst (λ (k : ℕ). MapIs x n.view k m) (sym start) (map_into x c.view c.len n.view m into h)) is.map;
      running = is.running ∙ sym (kept_into x safe c.view c.len n.view into).1 ∙ ap (λ (k : ℕ). (state_at x n.view k).running) (sym start);
      chunks = is.chunks;
      new = λ e. absurd (let both : true ≡ false = sym e ∙ other in cc);
    }

module _ (x : Lists) (safe : AreSafe x) (c : Copied) (n : NoticeView) (tells : Tells x c n) (old : Before x c n) where
  abbrev s : GroupState
  s = state_at x n.view n.place

  abbrev kept : Copied
  kept = with_chunk n c

  abbrev eff : Option Proposal
  eff = effect_of n.entry s.running

  fit : fits s n.entry ≡ true
  fit = safe.fitted n.view n.place n.entry tells.entry

  next_state : state_at x n.view (n.place + 1) ≡ apply s n.view n.place n.entry
  next_state = state_next x n.view (n.place + 1) n.place n.entry refl tells.entry ∙ after_fits s n.view n.place n.entry fit

  after_is : n.after ≡ after s n.view n.place n.entry
  after_is = tells.after ∙ state_next x n.view (n.place + 1) n.place n.entry refl tells.entry

  applied : n.after ≡ apply s n.view n.place n.entry
  applied = tells.after ∙ next_state

  chunk_keeps : (kept.map ≡ c.map) × (kept.running ≡ c.running)
  chunk_keeps = with_chunk_map n c (is_own n.provider c.running) refl

  eff_is : effect_of n.entry kept.running ≡ eff
  eff_is = ap (effect_of n.entry) (chunk_keeps.1 ∙ old.running)

  -- the map at the place, and what the entry makes of it
  abbrev m0 : Pairs
  m0 = tells.mapped.0

  abbrev here : MapIs x n.view n.place m0
  here = tells.mapped.1

  then_map : (m k : Pairs) → MapIs x n.view n.place m → k ≡ entry_map s n.view n.place n.entry m → MapIs x n.view (n.place + 1) k
  then_map m k p e = Then n.view (n.place + 1) k n.place n.entry m refl e tells.entry p

  -- the map behind what takes effect
  part_map : (b : Bool) → is_empty n.after.members ≡ b → (taken n kept (effect_of n.entry kept.running)).map ≡ None → (copy_after n c).map ≡ cond b (Some []) None
  unfolding copy_after with_place with_effect
  part_map b e left = members_part n (taken n kept (effect_of n.entry kept.running)) b e left

  some_map_is : is_empty n.after.members ≡ false → (copy_after n c).map ≡ (taken n kept (effect_of n.entry kept.running)).map
  unfolding copy_after with_place with_effect
  some_map_is somebody = members_some n (taken n kept (effect_of n.entry kept.running)) somebody

  -- where its own join does not take effect
  other_map : is_own_effect n.provider eff ≡ false → (o : Option Pairs) → c.map ≡ o → IfSome (copy_after n c).map (MapIs x n.view (n.place + 1))
  other_map other (Some m) whole =
      let p : MapIs x n.view n.place m = subst (λ (o : Option Pairs). IfSome o (MapIs x n.view n.place)) whole old.map in
      subst (λ (o : Option Pairs). IfSome o (MapIs x n.view (n.place + 1))) (sym (whole_goes_on n c s m old.running after_is whole other)) (then_map m (entry_map s n.view n.place n.entry m) p refl)
  other_map other None part = by (is_empty n.after.members) refl
    where
      left : (taken n kept (effect_of n.entry kept.running)).map ≡ None
      left = effect_part n kept (effect_of n.entry kept.running) (chunk_keeps.0 ∙ part) (ap (is_own_effect n.provider) eff_is ∙ other)

      map_is : (b : Bool) → is_empty n.after.members ≡ b → (copy_after n c).map ≡ cond b (Some []) None
      map_is b e = part_map b e left

      by : (b : Bool) → is_empty n.after.members ≡ b → IfSome (copy_after n c).map (MapIs x n.view (n.place + 1))
      by false e = subst (λ (o : Option Pairs). IfSome o (MapIs x n.view (n.place + 1))) (sym (map_is false e)) tt
      by true e =
          let nobody : is_empty (after s n.view n.place n.entry).members ≡ true = ap (λ (t : GroupState). is_empty t.members) (sym after_is) ∙ e in
          let empty : [] ≡ entry_map s n.view n.place n.entry m0 = ap (λ (b : Bool). cond b [] (message_map eff m0)) (sym nobody) in
          subst (λ (o : Option Pairs). IfSome o (MapIs x n.view (n.place + 1))) (sym (map_is true e)) (then_map m0 [] here empty)

  -- the chunks of its own join are chunks of the map
  own_chunks : (closed : Closed) (run : Running) → n.entry ≡ Approve closed → s.running ≡ Some run → among (joins_of run.proposal) n.provider ≡ true → AreChunksOf m0 kept.chunks
  own_chunks closed run is runs own =
      let at : MapIs x run.proto.view (run.proto.place + 1) m0 = begun_map x safe n.view n.place m0 run here runs in
      let mine : c.running ≡ Some run = old.running ∙ runs in
      let is_mine : is_own n.provider c.running ≡ true = ap (is_own n.provider) mine ∙ own in
      let closes : closed_in n.entry ≡ Some closed = ap closed_in is in
      subst (AreChunksOf m0) (sym (chunk_own n c is_mine ∙ ap (kept_of c.chunks) closes))
      (kept_are_chunks m0 c.chunks closed (is_table x n.view n.place m0 here) (old.chunks run m0 mine own at) (tells.carries closed closes run m0 mine own at))

  received_one : (k : Pairs) (e : Entry) (r : Option Running) (ps : List ProviderId) (attrs : Attrs) (l : Option ℕ) → n.entry ≡ e → s.running ≡ r → effect_of e r ≡ Some (Join ps attrs l) → among ps n.provider ≡ true → received kept.chunks ≡ Some k → k ≡ m0
  received_one k (Once y) r ps attrs l is runs effect own came =
      let join : y ≡ Join ps attrs l = some_proposal y (Join ps attrs l) effect in
      let begins : begins_own n.provider n.entry ≡ true = ap (begins_own n.provider) is ∙ ap (λ (z : Proposal). among (joins_of z) n.provider) join ∙ own in
      let new = old.new begins in
      let bare : kept.chunks ≡ [] = chunk_other n c (ap (is_own n.provider) new.0) ∙ new.1 in
      let both : None ≡ Some k = ap received (sym bare) ∙ came in
      absurd cc
  received_one k (Approve closed) None ps attrs l is runs effect own came = absurd cc
  received_one k (Approve closed) (Some run) ps attrs l is runs effect own came =
      let join : run.proposal ≡ Join ps attrs l = some_proposal run.proposal (Join ps attrs l) effect in
      received_is_the_map m0 k kept.chunks (is_table x n.view n.place m0 here) (own_chunks closed run is runs (ap (λ (z : Proposal). among (joins_of z) n.provider) join ∙ own)) came
  received_one k (Begin y) r ps attrs l is runs effect own came = absurd cc
  received_one k (Phase closed) r ps attrs l is runs effect own came = absurd cc
  received_one k (Reject closed) r ps attrs l is runs effect own came = absurd cc
  received_one k (Late proto phase qs) r ps attrs l is runs effect own came = absurd cc

  -- where it does
  own_joined : (ps : List ProviderId) (attrs : Attrs) (l : Option ℕ) → eff ≡ Some (Join ps attrs l) → among ps n.provider ≡ true → IfSome (copy_after n c).map (MapIs x n.view (n.place + 1))
  own_joined ps attrs l is own = subst (λ (o : Option Pairs). IfSome o (MapIs x n.view (n.place + 1))) (sym map_is) (by (list_all (among ps) n.after.members) refl (received kept.chunks) refl)
    where
      join : Joined s (apply s n.view n.place n.entry) ps
      join = joined s n.view n.place n.entry ps attrs l is fit (fit_there x safe n.view n.place m0 here)

      members : n.after.members ≡ s.members ++ ps
      members = ap (λ (t : GroupState). t.members) applied ∙ join.members

      somebody : is_empty n.after.members ≡ false
      somebody = ap is_empty members ∙ somebody_after s.members ps n.provider own

      map_is : (copy_after n c).map ≡ cond (list_all (among ps) n.after.members) (Some []) (received kept.chunks)
      map_is =
          some_map_is somebody ∙ ap (λ (o : Option Proposal). (taken n kept o).map) (eff_is ∙ is) ∙ own_map n kept ps attrs l own

      -- the entry leaves the map as it is
      goes : m0 ≡ entry_map s n.view n.place n.entry m0
      goes =
          let there : is_empty (after s n.view n.place n.entry).members ≡ false = ap (λ (t : GroupState). is_empty t.members) (sym after_is) ∙ somebody in
          sym (ap (λ (b : Bool). cond b [] (message_map eff m0)) there ∙ ap (λ (o : Option Proposal). message_map o m0) is)

      by : (b : Bool) → list_all (among ps) n.after.members ≡ b → (o : Option Pairs) → received kept.chunks ≡ o → IfSome (cond b (Some []) (received kept.chunks)) (MapIs x n.view (n.place + 1))
      by true e o came =
          let all : list_all (among ps) (s.members ++ ps) ≡ true = ap (list_all (among ps)) (sym members) ∙ e in
          let empty : m0 ≡ [] = empty_maps x safe n.view n.place m0 here (nobody_before s.members ps all join.apart) in
          then_map m0 [] here (sym empty ∙ goes)
      by false e None came = subst (λ (o : Option Pairs). IfSome o (MapIs x n.view (n.place + 1))) (sym came) tt
      by false e (Some k) came =
          let same : k ≡ m0 = received_one k n.entry s.running ps attrs l refl refl is own came in
          subst (λ (o : Option Pairs). IfSome o (MapIs x n.view (n.place + 1))) (sym came) (then_map m0 k here (same ∙ goes))

  map_there : IfSome (copy_after n c).map (MapIs x n.view (n.place + 1))
  map_there = at eff refl
    where
      at : (o : Option Proposal) → eff ≡ o → IfSome (copy_after n c).map (MapIs x n.view (n.place + 1))
      at (Some (Join ps attrs l)) is = by (among ps n.provider) refl
        where
          by : (b : Bool) → among ps n.provider ≡ b → IfSome (copy_after n c).map (MapIs x n.view (n.place + 1))
          by true own = own_joined ps attrs l is own
          by false own = other_map (ap (is_own_effect n.provider) is ∙ own) c.map refl
      at None is = other_map (ap (is_own_effect n.provider) is) c.map refl
      at (Some (Leave p r)) is = other_map (ap (is_own_effect n.provider) is) c.map refl
      at (Some (Fail out)) is = other_map (ap (is_own_effect n.provider) is) c.map refl
      at (Some (Expel p r out)) is = other_map (ap (is_own_effect n.provider) is) c.map refl
      at (Some (State p r value)) is = other_map (ap (is_own_effect n.provider) is) c.map refl
      at (Some (Message p r bytes)) is = other_map (ap (is_own_effect n.provider) is) c.map refl
      at (Some (Attributes p r attrs)) is = other_map (ap (is_own_effect n.provider) is) c.map refl
      at (Some (Reflect view place value)) is = other_map (ap (is_own_effect n.provider) is) c.map refl

  -- ---- the chunks that it keeps on

  some_run : (a b : Running) → Some a ≡ Some b → a ≡ b
  some_run a b e = cc

  -- where nothing takes effect by the entry
  no_effect : (e : Entry) → n.entry ≡ e → ((r : Option Running) → effect_of e r ≡ None) → (copy_after n c).chunks ≡ kept.chunks
  no_effect e is none = after_chunks n c (ap (λ (z : Entry). is_own_effect n.provider (effect_of z kept.running)) is ∙ ap (is_own_effect n.provider) (none kept.running))

  begun_chunks : (y : Proposal) (run : Running) (m : Pairs) → n.entry ≡ Begin y → (apply s n.view n.place (Begin y)).running ≡ Some run → among (joins_of run.proposal) n.provider ≡ true → AreChunksOf m (copy_after n c).chunks
  unfolding apply begun
  begun_chunks y run m is runs own =
      let proposal : y ≡ run.proposal = ap (λ (r : Running). r.proposal) (some_run (record { proto = record { view = n.view; place = n.place }; proposal = y; phase = 1; proposed = first_value y }) run runs) in
      let begins : begins_own n.provider n.entry ≡ true = ap (begins_own n.provider) is ∙ ap (λ (z : Proposal). among (joins_of z) n.provider) proposal ∙ own in
      let new = old.new begins in
      let bare : kept.chunks ≡ [] = chunk_other n c (ap (is_own n.provider) new.0) ∙ new.1 in
      subst (AreChunksOf m) (sym (no_effect (Begin y) is (λ r. refl) ∙ bare)) tt

  phase_chunks : (closed : Closed) (run : Running) (m : Pairs) (r : Option Running) → n.entry ≡ Phase closed → s.running ≡ r → (next_phase s closed.value r).running ≡ Some run → among (joins_of run.proposal) n.provider ≡ true → MapIs x run.proto.view (run.proto.place + 1) m → AreChunksOf m (copy_after n c).chunks
  unfolding next_phase advance
  phase_chunks closed run m None is was runs own at = absurd (let both : None ≡ Some run = sym was ∙ runs in cc)
  phase_chunks closed run m (Some ran) is was runs own at =
      let now : advance closed.value ran ≡ run = some_run (advance closed.value ran) run runs in
      let mine : c.running ≡ Some ran = old.running ∙ was in
      let own_ran : among (joins_of ran.proposal) n.provider ≡ true = ap (λ (z : Running). among (joins_of z.proposal) n.provider) now ∙ own in
      let at_ran : MapIs x ran.proto.view (ran.proto.place + 1) m = subst (λ (z : Running). MapIs x z.proto.view (z.proto.place + 1) m) (sym now) at in
      let is_mine : is_own n.provider c.running ≡ true = ap (is_own n.provider) mine ∙ own_ran in
      let closes : closed_in n.entry ≡ Some closed = ap closed_in is in
      subst (AreChunksOf m) (sym (no_effect (Phase closed) is (λ r. refl) ∙ chunk_own n c is_mine ∙ ap (kept_of c.chunks) closes))
      (kept_are_chunks m c.chunks closed (is_table x ran.proto.view (ran.proto.place + 1) m at_ran) (old.chunks ran m mine own_ran at_ran) (tells.carries closed closes ran m mine own_ran at_ran))

  late_chunks : (e : Entry) (run : Running) (m : Pairs) → n.entry ≡ e → closed_in e ≡ None → ((r : Option Running) → effect_of e r ≡ None) → s.running ≡ Some run → among (joins_of run.proposal) n.provider ≡ true → MapIs x run.proto.view (run.proto.place + 1) m → AreChunksOf m (copy_after n c).chunks
  late_chunks e run m is closes none runs own at =
      let mine : c.running ≡ Some run = old.running ∙ runs in
      let is_mine : is_own n.provider c.running ≡ true = ap (is_own n.provider) mine ∙ own in
      subst (AreChunksOf m) (sym (no_effect e is none ∙ chunk_own n c is_mine ∙ ap (kept_of c.chunks) (ap closed_in is ∙ closes))) (old.chunks run m mine own at)

  chunks_there : (e : Entry) → n.entry ≡ e → (run : Running) (m : Pairs) → (apply s n.view n.place e).running ≡ Some run → among (joins_of run.proposal) n.provider ≡ true → MapIs x run.proto.view (run.proto.place + 1) m → AreChunksOf m (copy_after n c).chunks
  unfolding apply
  chunks_there (Once y) is run m runs own at = absurd (once_ends s n.view n.place y run runs)
  chunks_there (Begin y) is run m runs own at = begun_chunks y run m is runs own
  chunks_there (Phase closed) is run m runs own at = phase_chunks closed run m s.running is refl runs own at
  chunks_there (Approve closed) is run m runs own at = absurd (approve_ends s n.view n.place closed run s.running refl runs)
  chunks_there (Reject closed) is run m runs own at = absurd (reject_ends s run s.running refl runs)
  chunks_there (Late proto phase ps) is run m runs own at = late_chunks (Late proto phase ps) run m is refl (λ r. refl) runs own at

  goes_on : CopyIs x n.provider (copy_after n c)
  unfolding copy_after with_place
  goes_on =
      record {
        map = map_there;
        running = ap (λ (t : GroupState). t.running) tells.after;
        chunks = λ run m runs own at. chunks_there n.entry refl run m (ap (λ (t : GroupState). t.running) (sym applied) ∙ runs) own at;
      }

pub copies_follow : CopiesFollow
copies_follow x c n safe tells comes = goes_on x safe c n tells (before_of x safe c n tells comes)
