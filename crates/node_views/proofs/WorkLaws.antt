-- How the parts of entering a view come together, and what they keep.
use Rattle.std.proofs.Common.{◌≡◌, inl, ℕ, Bool, true, false, List, [], ◌∷◌, ◌++◌, length, map, Option, Some, None, refl, sym, ap, subst, ◌∙◌, arith, cond, length-append, append-nil}
use Rattle.std.specs.Prelude.{is_some, filter, find, if◌then◌else◌}
use Rattle.std.specs.Str.{bytes_eq}
use Rattle.std.specs.List.{fold}
use Rattle.std.proofs.lemmas.List.Elements.{filter-append}
use Rattle.std.proofs.lemmas.List.Folds.{fold-map}
use Rattle.rsct_packet.specs.declared.ids.Member.{Member}
use Rattle.rsct_packet.specs.declared.ids.ProviderId.{ProviderId}
use Rattle.rsct_packet.specs.declared.mask.Mask.{Mask}
use Rattle.rsct_packet.specs.Providers.{among}
use Rattle.proposal_core.specs.declared.group_state.GroupState.{GroupState}
use Rattle.proposal_core.specs.Fold.{empty_state}
use Rattle.proposal_core.specs.Lists.{state_in}
use Rattle.client_callbacks.specs.declared.votes.VoteItem.{VoteItem}
use Rattle.client_callbacks.specs.Ballots.{is_level}
use Rattle.session_state.specs.declared.state.SessionState.{SessionState}
use Rattle.session_state.specs.State.{provider_of, place_of, outstanding}
use Rattle.view_state.specs.declared.install.Install.{Install}
use Rattle.view_state.specs.declared.install.Base.{Base}
use Rattle.view_state.specs.Bases.{bases_of}
use Rattle.view_state.specs.declared.packet.ViewSend.{ViewSend}
use Rattle.view_core.specs.declared.step.ViewEvent.TheVariants as event
use Rattle.view_state.specs.declared.views.RingAsk.{RingAsk}
use Rattle.view_state.specs.declared.views.ViewWork.{ViewWork}
use Rattle.view_state.specs.Views.{views_at_work, views_entered, ask_rule}
use Rattle.view_core.specs.Steps.{view_rule, view_stepped}
use Rattle.node_state.specs.declared.config.Config.{Config}
use Rattle.node_state.specs.declared.group.GroupRow.{GroupRow}
use Rattle.node_state.specs.declared.happened.Happened.{Happened}
use Rattle.node_state.specs.declared.happened.Happened.TheVariants as happened
use Rattle.node_state.specs.declared.packet.Body.TheVariants as body
use Rattle.node_state.specs.declared.state.Core.{Core}
use Rattle.node_state.specs.Settings.{is_fixed, level_if, view_level}
use Rattle.node_state.specs.State.{AllAfter, InNameOrder, row_found, row_of, list_of, state_of, held_rows, led_groups, recorded_all, has_name}
use Rattle.node_state.specs.Sending.{sent}
use Rattle.node_state.specs.HandOn.{Answering}
use Rattle.node_state.specs.Leading.{tally_opened, closes}
use Rattle.node_state.specs.Applying.{Lacking, own_parts, lacking, fill_lists, level_set, base_row, base_leader, base_record, view_entered, sides_dissolved, entering_noted, taken_sent, owed_sent, wait_failed, phase_reopened, lead, lead_groups, entered, entered_if, apply_install, views_taken}
use Rattle.node_state.specs.Step.{take_order}
use Rattle.node_state.specs.Ticks.{ring_ask, tick_views}
use Rattle.session_state.specs.Owners.{KeepsOwners}
use Rattle.node_state.specs.Handed.{is_handed, handed_in, state_along}
use Rattle.node_state.proofs.AlongLaws.{along_same}
use Rattle.node_state.proofs.NameOrder.{text_same, none_after}
use Rattle.node_groups.specs.Keeps.{Stays, Keeps}
use Rattle.session_state.proofs.OwnerLaws.{owners_themselves}
use Rattle.node_groups.proofs.KeepLaws.{keeps_itself, keeps_then, keeps_stays, keeps_as, stays_then, sent_keeps}
use Rattle.group_leading.specs.Working.{AtWork}
use Rattle.group_leading.proofs.WorkLaws.{keeps_follows, work_kept}
use Rattle.entry_delivery.specs.Received.{Handing}
use Rattle.entry_delivery.specs.Doing.{Joins, Follows, Does}
use Rattle.entry_delivery.proofs.DoingLaws.{does_then, does_plain, does_nothing, does_after, does_before, does_as, ready_same}
use Rattle.node_views.specs.declared.missing_entries.Missing.{Missing}
use Rattle.node_views.specs.Filling.{lacking_at, list_filled, filled_if}
use Rattle.node_views.specs.Arriving.{views_sent, arrived}

-- ---- what is kept

each_sent_keeps : (s : Core) (xs : List ViewSend) → Keeps s (fold (λ t (x : ViewSend). sent t x.to (body.View x.packet)) s xs)
each_sent_keeps s [] = keeps_itself s
each_sent_keeps s (x ∷ xs) = keeps_then s (sent s x.to (body.View x.packet)) _ (sent_keeps s x.to (body.View x.packet)) (each_sent_keeps (sent s x.to (body.View x.packet)) xs)

pub views_sent_keeps : (s : Core) (w : ViewWork) → Keeps s (views_sent s w)
unfolding views_sent
views_sent_keeps s w =
    let t : Core = record s { views = w.views } in
    keeps_then s t _ (record { records = omega arith; sessions = (refl, refl); order = λ o. o; handed = refl; owners = owners_themselves s.sessions; along = along_same s t refl refl }) (each_sent_keeps t w.sends)

pub sent_work : {C : Type 0} (s t : Core) (w : ViewWork) (cs : List C) → t ≡ views_sent s w → AtWork s cs → AtWork t cs
sent_work s t w cs sending work = work_kept s t cs (keeps_as s (views_sent s w) t sending (views_sent_keeps s w)) work

-- ---- entering

level_is : (b : Bool) → is_level (level_if b) ≡ true
unfolding level_if
level_is true = refl
level_is false = refl

entered_level : (c : Config) (ms : List Member) → is_level (view_level c ms) ≡ true
unfolding view_level
entered_level c ms = level_is _

bases_unhanded : (s : Core) (bs : List Base) → handed_in (map (base_record s) bs) ≡ []
unfolding base_record
bases_unhanded s [] = refl
bases_unhanded s (b ∷ bs) = bases_unhanded s bs

-- with another level
level_owners : (s : SessionState) (level : ℕ) → KeepsOwners s (record s { level = level })
unfolding provider_of place_of outstanding
level_owners s level p = inl (record { place = refl; live = λ e. e; asked = λ e. e })

-- the state of the row that is found
state_found : GroupState → Option GroupRow → GroupState
state_found st None = st
state_found st (Some row) = state_in row.list

-- the base of the group, where it is the first one
base_head : (s : Core) (g : List ℕ) (b : Base) (bs : List Base) (st : GroupState) → AllAfter b.name (map base_row bs) → (same : Bool) → bytes_eq b.name g ≡ same
    → ((x : GroupState) → state_along g (map (base_record s) bs) x ≡ state_found x (find (has_name g) (map base_row bs))) → state_along g (map (base_record s) bs) (if same then b.state else st) ≡ state_found st (cond same (Some (base_row b)) (find (has_name g) (map base_row bs)))
unfolding state_found base_row
base_head s g b bs st late true e rest = rest b.state ∙ ap (state_found b.state) (none_after g (map base_row bs) (subst (λ h. AllAfter h (map base_row bs)) (text_same b.name g e) late))
base_head s g b bs st late false e rest = rest st

bases_state : (s : Core) (g : List ℕ) (bs : List Base) (st : GroupState) → InNameOrder (map base_row bs) → state_along g (map (base_record s) bs) st ≡ state_found st (find (has_name g) (map base_row bs))
unfolding base_record base_row state_found
bases_state s g [] st o = refl
bases_state s g (b ∷ bs) st o = base_head s g b bs st o.0 (bytes_eq b.name g) refl (λ x. bases_state s g bs x o.1)

found_state : (g : List ℕ) (o : Option GroupRow) → state_in (row_found g o).list ≡ state_found empty_state o
unfolding state_found
found_state g None = refl
found_state g (Some row) = refl

entered_state : (s : Core) (i : Install) (bs : List Base) (g : List ℕ) → InNameOrder (map base_row bs) → state_of (view_entered s i bs) g ≡ state_along g (map (base_record s) bs) empty_state
unfolding view_entered recorded_all state_of list_of row_of
entered_state s i bs g o = found_state g (find (has_name g) (map base_row bs)) ∙ sym (bases_state s g bs empty_state o)

entered_lives : (s : Core) (i : Install) (bs : List Base) → (view_entered s i bs).sessions.sessions ≡ s.sessions.sessions
unfolding view_entered recorded_all level_set
entered_lives s i bs = refl

bases_along : (s t : Core) (g : List ℕ) (bs : List Base) (st : GroupState) → state_along g (map (base_record s) bs) st ≡ state_along g (map (base_record t) bs) st
unfolding base_record
bases_along s t g [] st = refl
bases_along s t g (b ∷ bs) st = bases_along s t g bs _

pub entered_follows : (s : Core) (i : Install) (bs : List Base) → InNameOrder (map base_row bs) → Follows s (view_entered s i bs)
unfolding view_entered recorded_all level_set
entered_follows s i bs order =
    let t : Core = record s { views = views_entered s.views i; sessions = level_set s i.members; groups = map base_row bs; names = map base_leader bs } in
    let rs : List Happened = happened.In t.views.me i.view i.members ∷ map (base_record t) bs in
    record {
      grows = omega (arith, length-append s.records rs);
      lives = refl;
      handed = filter-append is_handed s.records rs ∙ (ap (λ (xs : List Happened). handed_in s.records ++ xs) (bases_unhanded t bs) ∙ append-nil (handed_in s.records));
      owners = level_owners s.sessions _;
      along = record { records = rs; more = refl; order = λ o. order; states = λ o g. entered_state s i bs g order ∙ bases_along s t g bs empty_state };
    }

pub entered_work : {C : Type 0} (s : Core) (i : Install) (bs : List Base) (cs : List C) → InNameOrder (map base_row bs) → AtWork s cs → AtWork (view_entered s i bs) cs
unfolding view_entered recorded_all level_set
entered_work s i bs cs order w = record { ready = record { level = entered_level s.config i.members; aligned = w.ready.aligned }; order = order }

-- as many clients as sessions
pub entered_aligned : {C : Type 0} (s t : Core) (i : Install) (bs : List Base) (cs : List C) → t ≡ view_entered s i bs → AtWork s cs → length cs ≡ length t.sessions.sessions
entered_aligned s t i bs cs entering w = w.ready.aligned ∙ ap length (sym (ap (λ (z : Core). z.sessions.sessions) entering ∙ entered_lives s i bs))

pub stays_aligned : {C : Type 0} (s t : Core) (cs ds : List C) → Stays s t → length ds ≡ length cs → length cs ≡ length s.sessions.sessions → length ds ≡ length t.sessions.sessions
stays_aligned s t cs ds k many aligned = many ∙ (aligned ∙ ap length (sym k.sessions.0))

-- what comes behind keeps the node at work
pub arrived_work : {C : Type 0} (s t u w x y : Core) (i : Install) (bs : List Base) (cs ds : List C) → AtWork s cs → InNameOrder (map base_row bs) → t ≡ view_entered s i bs → Stays t u → Stays u w → Keeps w x → Keeps x y → length ds ≡ length cs → AtWork y ds
arrived_work s t u w x y i bs cs ds work order entering a b c d many =
    let there : AtWork t cs = rw entering (entered_work s i bs cs order work) in
    let k : Stays t y = stays_then t u y a (stays_then u w y b (keeps_stays w y (keeps_then w x y c d))) in
    record { ready = ready_same t y cs ds k.sessions.0 k.sessions.1 many there.ready; order = k.order there.order }

-- ---- rules in which clients answer

each_filled : (f : Answering) (s : Core) (ms : List Missing) → fold (λ t (m : Missing). list_filled f m.group.now t m.entries.now) s ms ≡ fill_lists f s (map lacking_at ms)
unfolding fill_lists
each_filled f s ms = sym (fold-map (λ t (x : Lacking). list_filled f x.name t x.entries) lacking_at s ms)

pub filled_does : (scripts : List (Option (List (Option VoteItem)))) (P : List Handing → Type 0) (s t : Core) (ms : List Missing) → Does scripts P s t (λ f. fold (λ u (m : Missing). list_filled f m.group.now u m.entries.now) s ms) → Does scripts P s t (λ f. fill_lists f s (map lacking_at ms))
filled_does scripts P s t ms done = does_as scripts P s t _ (λ f. fill_lists f s (map lacking_at ms)) (λ f. each_filled f s ms) done

pub nothing_filled : (scripts : List (Option (List (Option VoteItem)))) (P : List Handing → Type 0) → P [] → (s : Core) (o : Option (List Lacking)) → None ≡ o → Does scripts P s s (λ f. filled_if f s o)
nothing_filled scripts P p s o none = does_as scripts P s s (λ f. s) _ (λ f. ap (filled_if f s) none) (does_nothing scripts P s p)

pub reopened_does : (scripts : List (Option (List (Option VoteItem)))) (P : List Handing → Type 0) (s t u : Core) (g : List ℕ) (runs : Bool) → runs ≡ true → t ≡ tally_opened s g → Keeps s t → Does scripts P t u (λ f. closes f t g) → Does scripts P s u (λ f. phase_reopened f s g runs)
unfolding phase_reopened
reopened_does scripts P s t u g runs is opened keeps closing =
    does_as scripts P s u (λ f. closes f t g) _ (λ f. rw (is, opened) refl) (does_after scripts P s t u _ (keeps_follows s t keeps) closing)

pub left_does : (scripts : List (Option (List (Option VoteItem)))) (P : List Handing → Type 0) → P [] → (s : Core) (g : List ℕ) (runs : Bool) → runs ≡ false → Does scripts P s s (λ f. phase_reopened f s g runs)
unfolding phase_reopened
left_does scripts P p s g runs is = does_as scripts P s s (λ f. s) _ (λ f. rw is refl) (does_nothing scripts P s p)

pub led_does : (scripts : List (Option (List (Option VoteItem)))) (P : List Handing → Type 0) (s t u : Core) (g : List ℕ) (st : GroupState) (ps : List ProviderId) (runs : Bool) → st ≡ state_of s g → ps ≡ filter (among st.members) st.failed → runs ≡ is_some st.running
    → t ≡ wait_failed s g ps → Keeps s t → Does scripts P t u (λ f. phase_reopened f t g runs) → Does scripts P s u (λ f. lead f s g)
unfolding lead
led_does scripts P s t u g st ps runs state failed running waiting keeps leading =
    does_as scripts P s u (λ f. phase_reopened f t g runs) (λ f. lead f s g) (λ f. rw (running, waiting, failed, state) refl) (does_after scripts P s t u _ (keeps_follows s t keeps) leading)

pub all_led_does : (scripts : List (Option (List (Option VoteItem)))) (P : List Handing → Type 0) (s t : Core) (gs : List (List ℕ)) → gs ≡ led_groups s → Does scripts P s t (λ f. fold (lead f) s gs) → Does scripts P s t (λ f. lead_groups f s)
unfolding lead_groups
all_led_does scripts P s t gs is done = does_as scripts P s t _ (λ f. lead_groups f s) (λ f. ap (fold (lead f) s) is) done

pub arrive_does : (scripts : List (Option (List (Option VoteItem)))) (P Q W : List Handing → Type 0) → Joins P Q W → (s t u w x y : Core) (i : Install) (bs : List Base) (rows : List GroupRow) → rows ≡ s.groups → InNameOrder (map base_row bs) → t ≡ view_entered s i bs
    → Does scripts P t u (λ f. sides_dissolved t (filter (λ (row : GroupRow). is_some row.list) rows) s.views.view bs) → Does scripts Q u w (λ f. entering_noted u bs) → x ≡ taken_sent w → Keeps w x → y ≡ owed_sent x → Keeps x y → Does scripts W s y (λ f. arrived s i bs)
unfolding arrived held_rows
arrive_does scripts P Q W join s t u w x y i bs rows groups order entering dissolving noting taking a owing b =
    let there : Does scripts W t w (λ f. entering_noted (sides_dissolved t (filter (λ (row : GroupRow). is_some row.list) rows) s.views.view bs) bs) =
    does_then scripts P Q W join t u w (λ f. sides_dissolved t (filter (λ (row : GroupRow). is_some row.list) rows) s.views.view bs) (λ f z. entering_noted z bs) dissolving noting in
    let on : Follows s t = rw entering (entered_follows s i bs order) in
    does_as scripts W s y _ (λ f. arrived s i bs) (λ f. rw (entering, groups) refl)
    (does_before scripts W s w y _ (λ z. owed_sent (taken_sent z)) (does_after scripts W s t w _ on there) (owing ∙ ap owed_sent taking) (keeps_follows w y (keeps_then w x y a b)))

pub enter_does : (scripts : List (Option (List (Option VoteItem)))) (P Q W : List Handing → Type 0) → Joins P Q W → (s t u : Core) (i : Install) (bs : List Base) → bs ≡ bases_of i → Does scripts P s t (λ f. arrived s i bs) → Does scripts Q t u (λ f. lead_groups f t)
    → Does scripts W s u (λ f. lead_groups f (arrived s i (bases_of i)))
enter_does scripts P Q W join s t u i bs bases arriving leading =
    does_as scripts W s u (λ f. lead_groups f (arrived s i bs)) _ (λ f. ap (λ (xs : List Base). lead_groups f (arrived s i xs)) bases)
    (does_then scripts P Q W join s t u (λ f. arrived s i bs) lead_groups arriving leading)

stopped_is : (f : Answering) (s : Core) (i : Install) (o : Option (List Lacking)) → is_some o ≡ false → filled_if f s o ≡ entered_if f s i o
unfolding entered_if
stopped_is f s i None e = refl
stopped_is f s i (Some xs) e = absurd cc

entered_is : (f : Answering) (s : Core) (i : Install) (o : Option (List Lacking)) → is_some o ≡ true → lead_groups f (arrived (filled_if f s o) i (bases_of i)) ≡ entered_if f s i o
unfolding entered_if entered arrived
entered_is f s i None e = absurd cc
entered_is f s i (Some xs) e = refl

pub stays_does : (scripts : List (Option (List (Option VoteItem)))) (P : List Handing → Type 0) (s t : Core) (i : Install) (b : Bool) → b ≡ is_some (lacking s i) → b ≡ false → Does scripts P s t (λ f. filled_if f s (lacking s i)) → Does scripts P s t (λ f. apply_install f s (Some i))
unfolding apply_install
stays_does scripts P s t i b is stops done = does_as scripts P s t _ _ (λ f. stopped_is f s i (lacking s i) (sym is ∙ stops)) done

pub applied_does : (scripts : List (Option (List (Option VoteItem)))) (P Q W : List Handing → Type 0) → Joins P Q W → (s t u : Core) (i : Install) (b : Bool) → b ≡ is_some (lacking s i) → b ≡ true → Does scripts P s t (λ f. filled_if f s (lacking s i)) → Does scripts Q t u (λ f. lead_groups f (arrived t i (bases_of i)))
    → Does scripts W s u (λ f. apply_install f s (Some i))
unfolding apply_install
applied_does scripts P Q W join s t u i b is goes filling entering =
    does_as scripts W s u (λ f. lead_groups f (arrived (filled_if f s (lacking s i)) i (bases_of i))) _ (λ f. entered_is f s i (lacking s i) (sym is ∙ goes))
    (does_then scripts P Q W join s t u (λ f. filled_if f s (lacking s i)) (λ f y. lead_groups f (arrived y i (bases_of i))) filling entering)

-- ---- rules of views

taken_is : (f : Answering) (s : Core) (w : ViewWork) → apply_install f (views_sent s w) w.install ≡ views_taken f s w
unfolding views_taken views_sent
taken_is f s w = refl

nothing_applied : (f : Answering) (s : Core) (o : Option Install) → None ≡ o → s ≡ apply_install f s o
unfolding apply_install
nothing_applied f s None e = refl
nothing_applied f s (Some i) e = absurd cc

pub sent_does : (scripts : List (Option (List (Option VoteItem)))) (P : List Handing → Type 0) → P [] → (s t : Core) (w : ViewWork) → t ≡ views_sent s w → None ≡ w.install → Does scripts P s t (λ f. views_taken f s w)
sent_does scripts P p s t w sending none =
    does_as scripts P s t (λ f. views_sent s w) _ (λ f. nothing_applied f (views_sent s w) w.install none ∙ taken_is f s w)
    (does_plain scripts P s t (views_sent s w) p sending (keeps_follows s t (keeps_as s (views_sent s w) t sending (views_sent_keeps s w))))

pub taken_does : (scripts : List (Option (List (Option VoteItem)))) (P : List Handing → Type 0) (s t u : Core) (w : ViewWork) (i : Install) → t ≡ views_sent s w → Some i ≡ w.install → Does scripts P t u (λ f. apply_install f t (Some i)) → Does scripts P s u (λ f. views_taken f s w)
taken_does scripts P s t u w i sending some applying =
    does_as scripts P s u (λ f. apply_install f t (Some i)) _ (λ f. ap (λ z. apply_install f z (Some i)) sending ∙ (ap (apply_install f (views_sent s w)) some ∙ taken_is f s w))
    (does_after scripts P s t u _ (keeps_follows s t (keeps_as s (views_sent s w) t sending (views_sent_keeps s w))) applying)

order_is : (f : Answering) (s : Core) (mask : Mask) (b : Bool) → is_fixed s.config.mode ≡ b → (elim b as (λ _. Core) [ true ↦ s | false ↦ views_taken f s (view_stepped s.views (event.Ask mask) (own_parts s)) ]) ≡ take_order f s mask
unfolding take_order view_stepped view_rule
order_is f s mask b e =
    ap (λ (z : Bool). elim z as (λ _. Core) [ true ↦ s | false ↦ views_taken f s (ask_rule (views_at_work s.views) mask (own_parts s)) ]) (sym e)

pub no_order_does : (scripts : List (Option (List (Option VoteItem)))) (P : List Handing → Type 0) → P [] → (s : Core) (mask : Mask) (b : Bool) → b ≡ is_fixed s.config.mode → b ≡ true → Does scripts P s s (λ f. take_order f s mask)
no_order_does scripts P p s mask b is fixed = does_as scripts P s s (λ f. s) _ (λ f. order_is f s mask true (sym is ∙ fixed)) (does_nothing scripts P s p)

pub order_does : (scripts : List (Option (List (Option VoteItem)))) (P : List Handing → Type 0) (s t : Core) (mask : Mask) (b : Bool) → b ≡ is_fixed s.config.mode → b ≡ false → Does scripts P s t (λ f. views_taken f s (view_stepped s.views (event.Ask mask) (own_parts s)))
    → Does scripts P s t (λ f. take_order f s mask)
order_does scripts P s t mask b is stops done = does_as scripts P s t _ _ (λ f. order_is f s mask false (sym is ∙ stops)) done

ticked_is : (f : Answering) (s : Core) (a : Option RingAsk) → a ≡ ring_ask s → let t : Core = views_taken f s (view_stepped s.views (event.Tick a) (own_parts s)) in views_taken f t (view_stepped t.views event.Remind (own_parts t)) ≡ tick_views f s
unfolding tick_views view_stepped view_rule
ticked_is f s a e = rw e refl

pub ticked_does : (scripts : List (Option (List (Option VoteItem)))) (P Q W : List Handing → Type 0) → Joins P Q W → (s t u : Core) (a : Option RingAsk) → a ≡ ring_ask s → Does scripts P s t (λ f. views_taken f s (view_stepped s.views (event.Tick a) (own_parts s)))
    → Does scripts Q t u (λ f. views_taken f t (view_stepped t.views event.Remind (own_parts t))) → Does scripts W s u (λ f. tick_views f s)
ticked_does scripts P Q W join s t u a e first next =
    does_as scripts W s u _ (λ f. tick_views f s) (λ f. ticked_is f s a e)
    (does_then scripts P Q W join s t u (λ f. views_taken f s (view_stepped s.views (event.Tick a) (own_parts s))) (λ f y. views_taken f y (view_stepped y.views event.Remind (own_parts y))) first next)
