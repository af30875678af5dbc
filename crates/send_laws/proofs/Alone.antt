-- What a node sends and owes that enters a view alone: nothing lacks of its own lists, the bases are of them, and nobody
-- else is in the view.
use Rattle.std.proofs.Common.{◌≡◌, ◌≤◌, ℕ, ◌+◌, ◌*◌, List, [], ◌∷◌, length, map, filter, fold, Some, None, Option, Bool, true, false, cond, refl, sym, ap, ◌∙◌, subst, inl, inr, arith}
use Rattle.std.specs.Prelude.{not, ◌==◌, ◌&&◌, ◌-◌, nat_le, nat_lt, drop}
use Rattle.std.specs.Str.{bytes_eq}
use Rattle.std.proofs.lemmas.Bool.{eq-eqb}
use Rattle.std.proofs.lemmas.Bool.Decides.{nat_tests}
use Rattle.rsct_packet.specs.declared.ids.ProviderId.{ProviderId}
use Rattle.rsct_packet.specs.declared.ids.ViewId.{ViewId}
use Rattle.rsct_packet.specs.declared.mask.Mask.{Mask}
use Rattle.rsct_packet.specs.Search.{Has}
use Rattle.rsct_packet.proofs.HasLaws.{has_map}
use Rattle.proposal_core.specs.declared.entry.Entry.{Entry}
use Rattle.proposal_core.specs.Fold.{present}
use Rattle.proposal_core.specs.GroupView.{GroupView}
use Rattle.proposal_core.specs.Lists.{list_or_new, state_in}
use Rattle.client_callbacks.specs.declared.told.Why.TheVariants.{Dissolved}
use Rattle.session_state.specs.declared.state.Provider.{Provider}
use Rattle.session_state.specs.State.{provider_of, outstanding}
use Rattle.view_state.specs.declared.install.Part.{Part}
use Rattle.view_state.specs.declared.install.Install.{Install}
use Rattle.view_state.specs.declared.install.Base.{Base}
use Rattle.view_state.specs.Parts.{part_len}
use Rattle.view_state.specs.Answers.{opened, with_answer, install_of}
use Rattle.view_state.specs.Bases.{bases_of, base_named}
use Rattle.view_state.specs.Cut.{lacking_of, lacking_if, all_fit}
use Rattle.view_state.specs.declared.packet.ViewPacket.TheVariants as packet
use Rattle.view_state.specs.declared.views.Views.{Views}
use Rattle.view_state.specs.Views.{others_of, views_entered}
use Rattle.node_state.specs.declared.group.GroupRow.{GroupRow}
use Rattle.node_state.specs.declared.packet.Body.TheVariants as body
use Rattle.node_state.specs.declared.state.Core.{Core}
use Rattle.node_state.specs.State.{InNameOrder, row_of, with_row, led_of, list_of, held_rows, frozen, led_groups, others, recorded, recorded_all, with_sessions}
use Rattle.node_state.specs.Sending.{sent, send_requests, send_votes_again}
use Rattle.node_state.specs.HandOn.{Answering}
use Rattle.node_state.specs.Leading.{put_and_hand}
use Rattle.node_state.specs.Applying.{part_of_list, own_parts, Lacking, lacking_in, lacking, fill_lists, level_set, base_row, view_entered, is_in_base, number_of, dissolved, dissolved_if, group_dissolved, sides_dissolved, entering_noted, taken_sent, owed_sent, lead_groups, entered}
use Rattle.node_state.specs.Ticks.{tally_ticks, sent_again, tick_group, tick_led}
use Rattle.node_state.proofs.NameOrder.{row_there, rows_ordered, after_has, row_itself}
use Rattle.step_refinement.proofs.BaseOrder.{bases_ordered}
use Rattle.send_laws.specs.Bound.{is_own, puts_of, owned_of, Stands, EndsAt, ListsEnd}
use Rattle.send_laws.proofs.Counts.{own_in, owned_with}
use Rattle.send_laws.proofs.Parts.{Goes, goes_same, then_free}
use Rattle.send_laws.proofs.Ticks.{goes_tally_ticks}
use Rattle.send_laws.proofs.Owed.{Sends, sends_none, sends_then, sends_sent, sends_requests, sends_votes, groups_same, sessions_same, views_same}
use Rattle.send_laws.proofs.Sessions.{Less, less_same, less_then, less_told}
use Rattle.send_laws.proofs.Filling.{Holds, holds_then, holds_free}
use Rattle.send_laws.proofs.Entering.{holds_entered, holds_sides, holds_noted, holds_taken, goes_owed}
use Rattle.send_laws.proofs.Asking.{not_before, part_in, own_part, alone, alone_from, alone_fine, alone_base}
use Rattle.send_laws.proofs.Purse.{owned, purse, Spends, less_by, owned_there, spends_groups_led}

-- ---- nothing lacks

abbrev Empty : List Lacking → Type 0
Empty [] = Unit {0}
Empty (x ∷ xs) = (x.entries ≡ []) × Empty xs

lacks_one : (v : ViewId) (l : GroupView) (p : Part) → nat_le (part_len p) l.len ≡ true → lacking_of v l p ≡ Some []
unfolding lacking_of
lacks_one v l p e = by (nat_le (part_len p) l.len) e
  where
    by : (b : Bool) → b ≡ true → elim b as (λ _. Option (List Entry)) [ true ↦ Some [] | false ↦ elim (nat_lt l.len p.start) as (λ _. Option (List Entry)) [ true ↦ None | false ↦ lacking_if (all_fit v l (drop (l.len - p.start) p.entries)) (drop (l.len - p.start) p.entries) ] ] ≡ Some []
    by true q = refl
    by false q = absurd cc

lacks_none : (s : Core) (ps : List Part) (xs : List Lacking) → ((p : Part) → Has p ps → nat_le (part_len p) (list_of s p.name).len ≡ true) → lacking_in s ps ≡ Some xs → Empty xs
unfolding lacking_in
lacks_none s [] xs long q = let z : [] ≡ xs = cc in subst Empty z tt
lacks_none s (p ∷ ps) xs long q = by (lacking_of s.views.view (list_of s p.name) p) (lacks_one s.views.view (list_of s p.name) p (long p (inl refl))) (lacking_in s ps) (λ ys e. lacks_none s ps ys (λ r h. long r (inr h)) e) q
  where
    by : (a : Option (List Entry)) → a ≡ Some [] → (b : Option (List Lacking)) → ((ys : List Lacking) → b ≡ Some ys → Empty ys) → elim a as (λ _. Option (List Lacking)) [ None ↦ None | Some es ↦ elim b as (λ _. Option (List Lacking)) [ None ↦ None | Some ys ↦ Some (record { name = p.name; entries = es } ∷ ys) ] ] ≡ Some xs → Empty xs
    by None ea b on q = absurd cc
    by (Some es) ea None on q = absurd cc
    by (Some es) ea (Some ys) on q =
        let none : es ≡ [] = cc in
        let new : Lacking = record { name = p.name; entries = es } in
        let z : new ∷ ys ≡ xs = cc in subst Empty z (none, on ys refl)

nothing_filled : (f : Answering) (xs : List Lacking) (s : Core) → Empty xs → fill_lists f s xs ≡ s
unfolding fill_lists
nothing_filled f [] s e = refl
nothing_filled f (x ∷ xs) s e =
    ap (λ es. fold (λ t (y : Lacking). fold (λ u e. put_and_hand f u None y.name e) t y.entries) (fold (λ u e. put_and_hand f u None x.name e) s es) xs) e.0 ∙ nothing_filled f xs s e.1

ends_long : (o : Option GroupView) → EndsAt o → (list_or_new o).len ≡ (list_or_new o).start + length (list_or_new o).entries
ends_long None h = refl
ends_long (Some l) h = h

long_enough : (m n : ℕ) → n ≡ m → nat_le m n ≡ true
long_enough m n e = grind (arith, nat_tests)

-- an own list is as long as its part
own_long : (s : Core) → Stands s → ListsEnd s → (p : Part) → Has p (own_parts s) → nat_le (part_len p) (list_of s p.name).len ≡ true
unfolding list_of part_of_list
own_long s k ends p h = subst (λ (z : Part). nat_le (part_len z) (list_or_new (row_of s z.name).list).len ≡ true) (sym a.2) (subst (λ (z : GroupRow). nat_le (part_len (part_in row)) (list_or_new z.list).len ≡ true) (sym (row_itself s row k.order a.1)) (long_enough (l.start + length l.entries) l.len (ends_long row.list (ends row a.1))))
  where
    a : (row : GroupRow) × Has row s.groups × (p ≡ part_in row)
    a = own_part s p h

    row : GroupRow
    row = a.0

    l : GroupView
    l = list_or_new row.list

alone_lacks : (s : Core) (v : ViewId) (mask : Mask) (xs : List Lacking) → Stands s → ListsEnd s → lacking s (alone s v mask) ≡ Some xs → Empty xs
unfolding lacking
alone_lacks s v mask xs k ends q =
    lacks_none s (own_parts s) xs (own_long s k ends) (subst (λ ps. lacking_in s ps ≡ Some xs) (alone_from s v mask) q)

-- ---- the bases have no more providers than the lists had

bare : GroupRow → GroupRow
bare row = record row { list = None }

bare_none : (n inc : ℕ) (row : GroupRow) → own_in n inc (bare row) ≡ 0
unfolding bare
bare_none n inc row = refl

bare_name : (row : GroupRow) → (bare row).name ≡ row.name
unfolding bare
bare_name row = refl

-- without one row's list
one_bare : (n inc : ℕ) (s : Core) (g : List ℕ) → InNameOrder s.groups → owned_of n inc (with_row s g bare).groups + own_in n inc (row_of s g) ≡ owned_of n inc s.groups
unfolding with_row row_of
one_bare n inc s g o = let z = owned_with n inc g bare s.groups o in omega (arith, z, bare_none n inc (row_of s g))

-- rows of which each has no more than that of its name
fewer_owned : (n inc : ℕ) (bs : List GroupRow) (s : Core) → InNameOrder bs → InNameOrder s.groups → ((b : GroupRow) → Has b bs → own_in n inc b ≤ own_in n inc (row_of s b.name)) → owned_of n inc bs ≤ owned_of n inc s.groups
fewer_owned n inc [] s o p less = omega arith
fewer_owned n inc (b ∷ bs) s o p less =
    let t : Core = with_row s b.name bare in
    let rest : owned_of n inc bs ≤ owned_of n inc t.groups = fewer_owned n inc bs t o.1 (rows_ordered b.name bare bare_name s p) (λ c h. subst (λ (z : GroupRow). own_in n inc c ≤ own_in n inc z) (sym (row_there b.name bare bare_name s c.name (λ e. not_before b.name c.name e (after_has b.name bs c o.0 h)))) (less c (inr h))) in
    omega (arith, rest, one_bare n inc s b.name p, less b (inl refl))

alone_owned : (s : Core) (v : ViewId) (mask : Mask) → Stands s → owned s (map base_row (bases_of (alone s v mask))) ≤ owned s s.groups
unfolding base_row
alone_owned s v mask k =
    fewer_owned s.views.me s.views.inc (map base_row (bases_of (alone s v mask))) s (bases_ordered (alone s v mask)) k.order each
  where
    each : (b : GroupRow) → Has b (map base_row (bases_of (alone s v mask))) → own_in s.views.me s.views.inc b ≤ own_in s.views.me s.views.inc (row_of s b.name)
    each b h =
        let a = has_map base_row b (bases_of (alone s v mask)) h in
        let c = alone_base s v mask a.0 a.1 in
        let row : GroupRow = c.0 in
        let same : own_in s.views.me s.views.inc (base_row a.0) ≡ own_in s.views.me s.views.inc row = ap (λ ps. length (filter (is_own s.views.me s.views.inc) ps)) c.3 in
        let there : own_in s.views.me s.views.inc row ≡ own_in s.views.me s.views.inc (row_of s a.0.name) = ap (own_in s.views.me s.views.inc) (sym (row_itself s row k.order c.1) ∙ ap (row_of s) c.2) in
        subst (λ (z : GroupRow). own_in s.views.me s.views.inc z ≤ own_in s.views.me s.views.inc (row_of s z.name)) (sym a.2) (omega (arith, same, there))

-- ---- who is dissolved

-- nothing but the sessions differs, of which none is more, and records
record Drops (s t : Core) : Type 0 where
  less : Less 0 s.sessions t.sessions
  groups : t.groups ≡ s.groups
  views : t.views ≡ s.views

drops_same : (s : Core) → Drops s s
drops_same s = record { less = less_same s.sessions; groups = refl; views = refl }

drops_then : (s t u : Core) → Drops s t → Drops t u → Drops s u
drops_then s t u a b =
    record { less = less_then 0 0 s.sessions t.sessions u.sessions a.less b.less; groups = b.groups ∙ a.groups; views = b.views ∙ a.views }

drops_fold : {A : Type 0} (f : Core → A → Core) → ((s : Core) (x : A) → Drops s (f s x)) → (xs : List A) (s : Core) → Drops s (fold f s xs)
drops_fold f one [] s = drops_same s
drops_fold f one (x ∷ xs) s = drops_then s (f s x) (fold f (f s x) xs) (one s x) (drops_fold f one xs (f s x))

drops_one : (s : Core) (p : ProviderId) (r : ℕ) → Drops s (dissolved s p r)
unfolding dissolved recorded with_sessions
drops_one s p r = record { less = less_told s.sessions p r Dissolved; groups = refl; views = refl }

drops_if : (s : Core) (g : List ℕ) (old : ViewId) (b : Option Base) (o : Option Provider) → Drops s (dissolved_if s g old b o)
unfolding dissolved_if
drops_if s g old b None = drops_same s
drops_if s g old b (Some x) = by (x.takes_part && bytes_eq x.group g && not (is_in_base old x.provider b))
  where
    by : (c : Bool) → Drops s (elim c [ true ↦ dissolved s x.provider (number_of (outstanding s.sessions x.provider)) | false ↦ s ])
    by true = drops_one s x.provider (number_of (outstanding s.sessions x.provider))
    by false = drops_same s

drops_sides : (s : Core) (rows : List GroupRow) (old : ViewId) (bs : List Base) → Drops s (sides_dissolved s rows old bs)
unfolding sides_dissolved group_dissolved
drops_sides s rows old bs =
    drops_fold (group_dissolved old bs) (λ t row. drops_fold (λ (u : Core) p. dissolved_if u row.name old (base_named bs row.name) (provider_of u.sessions p)) (λ u p. drops_if u row.name old (base_named bs row.name) (provider_of u.sessions p)) (present (state_in row.list)) t) rows s

drops_noted : (s : Core) (bs : List Base) → Drops s (entering_noted s bs)
unfolding entering_noted recorded_all
drops_noted s bs = record { less = less_same s.sessions; groups = refl; views = refl }

drops_sends : (s t : Core) → Sends s t → Drops s t
drops_sends s t a = record { less = less_by s.sessions t.sessions (sessions_same s t a); groups = groups_same s t a; views = views_same s t a }

taken_sends : (s : Core) → Sends s (taken_sent s)
unfolding taken_sent
taken_sends s = by (s.views.view.coord == s.views.me)
  where
    by : (b : Bool) → Sends s (elim b [ true ↦ s | false ↦ sent s s.views.view.coord (body.View (packet.Taken s.views.view)) ])
    by true = sends_none s
    by false = sends_sent s s.views.view.coord (body.View (packet.Taken s.views.view))

owed_sends : (s : Core) → Sends s (owed_sent s)
unfolding owed_sent
owed_sends s = sends_then s (send_requests s) (send_votes_again (send_requests s)) (sends_requests s) (sends_votes (send_requests s))

-- ---- the view is entered

-- it sends what it owes once, and owes no more than before; nobody else is in the view
pub record Solitary (s t : Core) : Type 0 where
  pub within : purse t + 100 * puts_of s.records ≤ purse s + 100 * puts_of t.records + (1 + length s.sessions.requests + length s.sessions.kept)
  pub others : others t ≡ []

nobody_else : (s : Core) (v : ViewId) (mask : Mask) → others_of s.views.me (alone s v mask).members ≡ []
unfolding others_of install_of with_answer opened
nobody_else s v mask = ap (λ b. cond (not b) (s.views.me ∷ []) []) (eq-eqb s.views.me s.views.me refl)

-- what is at once as the view is entered
record Entered (s : Core) (i : Install) (u : Core) : Type 0 where
  groups : u.groups ≡ map base_row (bases_of i)
  counts : (rows : List GroupRow) → owned u rows ≡ owned s rows
  requests : length u.sessions.requests ≡ length s.sessions.requests
  kept : length u.sessions.kept ≡ length s.sessions.kept
  providers : length u.sessions.providers ≡ length s.sessions.providers
  others : others u ≡ others_of s.views.me i.members

enters : (s : Core) (i : Install) → Entered s i (view_entered s i (bases_of i))
unfolding view_entered recorded_all level_set views_entered others
enters s i = record { groups = refl; counts = λ rows. refl; requests = refl; kept = refl; providers = refl; others = refl }

pub others_same : (s t : Core) → t.views ≡ s.views → others t ≡ others s
unfolding others
others_same s t e = ap (λ (v : Views). others_of v.me v.members) e

abbrev arrived : Core → Install → Core
arrived s i =
    let bs : List Base = bases_of i in owed_sent (taken_sent (entering_noted (sides_dissolved (view_entered s i bs) (held_rows s) s.views.view bs) bs))

arrives : (f : Answering) (s : Core) (v : ViewId) (mask : Mask) → Stands s → Solitary s (lead_groups f (arrived s (alone s v mask)))
arrives f s v mask k =
    let i : Install = alone s v mask in
    let bs : List Base = bases_of i in
    let u : Core = view_entered s i bs in
    let hu : Holds 0 s u = holds_entered s.views.view s i (alone_fine s v mask k) in
    let w : Core = sides_dissolved u (held_rows s) s.views.view bs in
    let hw : Holds 0 u w = holds_sides u (held_rows s) s.views.view bs hu.stands in
    let x : Core = entering_noted w bs in
    let hx : Holds 0 w x = holds_noted w bs hw.stands in
    let y : Core = taken_sent x in
    let hy : Holds 1 x y = holds_taken x hx.stands in
    let z : Core = owed_sent y in
    let gz : Goes (length y.sessions.requests + length y.sessions.kept) y z = goes_owed y hy.stands in
    let r : Core = lead_groups f z in
    let sr : Spends 0 z r = spends_groups_led f z gz.stands in
    let uy : Drops u y = drops_then u w y (drops_sides u (held_rows s) s.views.view bs) (drops_then w x y (drops_noted w bs) (drops_sends x y (taken_sends x))) in
    let yz : Drops y z = drops_sends y z (owed_sends y) in
    let uz : Drops u z = drops_then u y z uy yz in
    let hsy : Holds 1 s y = holds_then 0 1 s x y (holds_free s w x (holds_free s u w hu hw) hx) hy in
    let e : Entered s i u = enters s i in
    let own : owned z z.groups ≡ owned s (map base_row bs) = owned_there u z uz.views z.groups ∙ ap (owned u) (uz.groups ∙ e.groups) ∙ e.counts (map base_row bs) in
    let eq : others r ≡ others u = others_same u r (sr.views ∙ uz.views) in
    record {
      within = omega (arith, hsy.within, gz.within, sr.within, uy.less.requests, uy.less.kept, uy.less.providers, yz.less.requests, yz.less.kept, yz.less.providers, own, alone_owned s v mask k, e.requests, e.kept, e.providers);
      others = eq ∙ e.others ∙ nobody_else s v mask;
    }

-- nothing lacks, so nothing is put of the old lists
pub alone_enters : (f : Answering) (s : Core) (v : ViewId) (mask : Mask) (xs : List Lacking) → Stands s → ListsEnd s → lacking s (alone s v mask) ≡ Some xs → Solitary s (entered f s (alone s v mask) xs)
unfolding entered
alone_enters f s v mask xs k ends q =
    subst (λ t. Solitary s (lead_groups f (arrived t (alone s v mask)))) (sym (nothing_filled f xs s (alone_lacks s v mask xs k ends q))) (arrives f s v mask k)

-- ---- what a leader sends again to nobody

alone_group : (f : Answering) (s : Core) (g : List ℕ) → others s ≡ [] → Stands s → Goes 0 s (tick_group f s g)
unfolding tick_group
alone_group f s g none k =
    let t : Core = tally_ticks f s g (led_of s g).tally in
    let a : Goes 0 s t = goes_tally_ticks f s g (led_of s g).tally k in
    subst (λ ns. Goes 0 s (fold (sent_again g) t ns)) (sym (others_same s t a.views ∙ none)) a

alone_groups : (f : Answering) (gs : List (List ℕ)) (s : Core) → others s ≡ [] → Stands s → Goes 0 s (fold (tick_group f) s gs)
alone_groups f [] s none k = goes_same s k
alone_groups f (g ∷ gs) s none k =
    let t : Core = tick_group f s g in
    let a : Goes 0 s t = alone_group f s g none k in
    then_free 0 s t (fold (tick_group f) t gs) a (alone_groups f gs t (others_same s t a.views ∙ none) a.stands)

pub alone_led : (f : Answering) (s : Core) → others s ≡ [] → Stands s → Goes 0 s (tick_led f s)
unfolding tick_led
alone_led f s none k = by (frozen s)
  where
    by : (b : Bool) → Goes 0 s (elim b [ true ↦ s | false ↦ fold (tick_group f) s (led_groups s) ])
    by true = goes_same s k
    by false = alone_groups f (led_groups s) s none k
