-- What the changes of a node's groups keep.
use Rattle.std.proofs.Common.{◌≡◌, ◌⊎◌, inl, inr, ℕ, ◌-◌, Bool, true, false, List, [], ◌∷◌, ◌++◌, Option, Some, None, max, refl, sym, ap, subst, ◌∙◌, arith, length-append, append-nil}
use Rattle.std.specs.Prelude.{drop, nat_le, if◌then◌else◌}
use Rattle.std.specs.Str.{bytes_eq}
use Rattle.std.proofs.lemmas.List.Elements.{filter-append}
use Rattle.proposal_core.specs.declared.entry.Entry.{Entry}
use Rattle.proposal_core.specs.Fold.{after}
use Rattle.proposal_core.specs.GroupView.{GroupView}
use Rattle.proposal_core.specs.Lists.{list_or_new, state_in, with_entry, forgotten}
use Rattle.session_state.proofs.OwnerLaws.{owners_themselves, owners_then}
use Rattle.node_state.specs.declared.group.GroupRow.{GroupRow}
use Rattle.node_state.specs.declared.group.Led.{Led}
use Rattle.node_state.specs.declared.happened.Happened.{Happened}
use Rattle.node_state.specs.declared.happened.Happened.TheVariants as happened
use Rattle.node_state.specs.declared.packet.Body.{Body}
use Rattle.node_state.specs.declared.state.Core.{Core}
use Rattle.node_state.specs.State.{InNameOrder, row_of, rows_with, with_row, with_led, list_of, state_of, len_of, list_forgotten, recorded, recorded_all}
use Rattle.node_state.specs.Sending.{send_on, sent}
use Rattle.node_state.specs.Leading.{put}
use Rattle.node_state.specs.Handed.{is_handed, handed_in, state_along}
use Rattle.node_state.proofs.AlongLaws.{LeavesStates, state_as, along_records, along_same, along_itself, along_then}
use Rattle.node_groups.specs.Keeps.{Stays, Keeps}
use Rattle.node_groups.specs.Places.{row_reached}
use Rattle.node_groups.proofs.RowLaws.{row_written, reached_found}
use Rattle.node_state.proofs.NameOrder.{text_self, text_other, cases_text, KeepsName, order_with, row_here, row_there}

pub keeps_itself : (s : Core) → Keeps s s
keeps_itself s = record { records = omega arith; sessions = (refl, refl); order = λ o. o; handed = refl; owners = owners_themselves s.sessions; along = along_itself s }

pub keeps_then : (s t u : Core) → Keeps s t → Keeps t u → Keeps s u
keeps_then s t u a b =
    record {
      records = omega arith;
      sessions = (b.sessions.0 ∙ a.sessions.0, b.sessions.1 ∙ a.sessions.1);
      order = λ o. b.order (a.order o);
      handed = b.handed ∙ a.handed;
      owners = owners_then s.sessions t.sessions u.sessions a.owners b.owners;
      along = along_then s t u a.along b.along;
    }

pub keeps_stays : (s t : Core) → Keeps s t → Stays s t
keeps_stays s t k = record { records = k.records; sessions = k.sessions; order = k.order }

pub stays_itself : (s : Core) → Stays s s
stays_itself s = keeps_stays s s (keeps_itself s)

pub stays_then : (s t u : Core) → Stays s t → Stays t u → Stays s u
stays_then s t u a b =
    record { records = omega arith; sessions = (b.sessions.0 ∙ a.sessions.0, b.sessions.1 ∙ a.sessions.1); order = λ o. b.order (a.order o) }

pub stays_as : (s t u : Core) → u ≡ t → Stays s t → Stays s u
stays_as s t u e k = subst (λ (x : Core). Stays s x) (sym e) k

-- what is the same in other words
pub keeps_as : (s t u : Core) → u ≡ t → Keeps s t → Keeps s u
keeps_as s t u e k = subst (λ (x : Core). Keeps s x) (sym e) k

-- what keeps the state of a row's list
abbrev pub KeepsState : (GroupRow → GroupRow) → Type 0
KeepsState f = (x : GroupRow) → state_in (f x).list ≡ state_in x.list

state_with : (s : Core) (g : List ℕ) (f : GroupRow → GroupRow) → KeepsName f → InNameOrder s.groups → state_in (f (row_of s g)).list ≡ state_in (row_of s g).list → (h : List ℕ) → state_of (with_row s g f) h ≡ state_of s h
unfolding state_of list_of
state_with s g f keeps o state h = by (cases_text g h)
  where
    by : (g ≡ h) ⊎ (g ≡ h → ⊥) → state_in (row_of (with_row s g f) h).list ≡ state_in (row_of s h).list
    by (inl e) =
        subst (λ z. state_in (row_of (with_row s g f) z).list ≡ state_in (row_of s z).list) e
        (ap (λ (row : GroupRow). state_in row.list) (row_here g f keeps s o) ∙ state)
    by (inr ne) = ap (λ (row : GroupRow). state_in row.list) (row_there g f keeps s h ne)

-- a change that keeps the state of the group's row
row_itself_keeps : (s : Core) (g : List ℕ) (f : GroupRow → GroupRow) → KeepsName f → (InNameOrder s.groups → state_in (f (row_of s g)).list ≡ state_in (row_of s g).list) → Keeps s (with_row s g f)
unfolding with_row
row_itself_keeps s g f keeps state =
    record {
      records = omega arith;
      sessions = (refl, refl);
      order = λ o. order_with g f keeps s.groups o;
      handed = refl;
      owners = owners_themselves s.sessions;
      along = record { records = []; more = sym (append-nil s.records); order = λ o. order_with g f keeps s.groups o; states = λ o h. state_with s g f keeps o (state o) h };
    }

pub row_keeps : (s : Core) (g : List ℕ) (f : GroupRow → GroupRow) → KeepsName f → KeepsState f → Keeps s (with_row s g f)
row_keeps s g f keeps states = row_itself_keeps s g f keeps (λ o. states (row_of s g))

-- a row that was lent, and has its name and its state still
pub lent_keeps : (s : Core) (g : List ℕ) (w : GroupRow) → w.name ≡ (row_reached g s.groups).name → state_in w.list ≡ state_in (row_reached g s.groups).list → Keeps s (record s { groups = rows_with g (λ _. w) s.groups })
unfolding with_row row_of
lent_keeps s g w name state =
    let f : GroupRow → GroupRow = λ row. record { name = row.name; list = w.list; leader = w.leader; led = w.led } in
    let same : w ≡ f (row_reached g s.groups) = ap (λ (n : List ℕ). record w { name = n }) name in
    subst (λ (xs : List GroupRow). Keeps s (record s { groups = xs })) (sym (row_written g f s.groups w same))
    (row_itself_keeps s g f (λ x. refl) (λ o. state ∙ ap (λ (row : GroupRow). state_in row.list) (reached_found g s.groups o)))

-- what a change of a lent row takes
pub ruleset row_change = (row_written, lent_keeps)

forgotten_head : (b : Bool) (l : GroupView) (start : ℕ) (entries : List Entry) → let m : GroupView = if b then record l { start = start; entries = entries } else l in m.state ≡ l.state
forgotten_head true l start entries = refl
forgotten_head false l start entries = refl

-- what is forgotten leaves the state
pub forgotten_state : (n : ℕ) (list : Option GroupView) → state_in (list_forgotten n list) ≡ state_in list
unfolding forgotten
forgotten_state n None = refl
forgotten_state n (Some l) = forgotten_head (nat_le n l.len) l (max l.start n) (drop (n - l.start) l.entries)

put_state : (s : Core) (g : List ℕ) (e : Entry) → InNameOrder s.groups → (h : List ℕ) → state_of (put s g e) h ≡ state_along h (happened.Put s.views.me s.views.view g (len_of s g) e ∷ []) (state_of s h)
unfolding put recorded recorded_all state_of len_of list_of with_entry
put_state s g e o h = state_as (with_row s g f) (put s g e) h refl ∙ by (cases_text g h)
  where
    f : GroupRow → GroupRow
    f row = record row { list = Some (with_entry (list_or_new row.list) s.views.view e) }

    by : (g ≡ h) ⊎ (g ≡ h → ⊥) → state_of (with_row s g f) h ≡ (if bytes_eq g h then after (state_of s h) s.views.view (len_of s g) e else state_of s h)
    by (inl q) =
        subst (λ z. state_of (with_row s g f) z ≡ (if bytes_eq g z then after (state_of s z) s.views.view (len_of s g) e else state_of s z)) q
        (ap (λ (row : GroupRow). state_in row.list) (row_here g f (λ x. refl) s o) ∙ rw (text_self g) refl)
    by (inr ne) = ap (λ (row : GroupRow). state_in row.list) (row_there g f (λ x. refl) s h ne) ∙ rw (text_other g h ne) refl

-- an entry that is put is recorded
pub put_keeps : (s : Core) (g : List ℕ) (e : Entry) → Keeps s (put s g e)
unfolding put recorded recorded_all with_row
put_keeps s g e =
    let r : Happened = happened.Put s.views.me s.views.view g (len_of s g) e in
    let order : InNameOrder s.groups → InNameOrder (put s g e).groups = λ o. order_with g _ (λ x. refl) s.groups o in
    record {
      records = omega (arith, length-append s.records (r ∷ []));
      sessions = (refl, refl);
      order = order;
      handed = filter-append is_handed s.records (r ∷ []) ∙ append-nil (handed_in s.records);
      owners = owners_themselves s.sessions;
      along = record { records = r ∷ []; more = refl; order = order; states = λ o h. put_state s g e o h };
    }

-- in two steps
pub put_made : (s t u : Core) (g : List ℕ) (e : Entry) (n : ℕ) → n ≡ len_of s g → t ≡ with_row s g (λ row. record row { list = Some (with_entry (list_or_new row.list) s.views.view e) }) → u ≡ recorded t (happened.Put t.views.me t.views.view g n e) → Keeps s u
unfolding put with_row
put_made s t u g e n at entry recording = keeps_as s (put s g e) u (recording ∙ rw (at, entry) refl) (put_keeps s g e)

pub led_keeps : (s : Core) (g : List ℕ) (change : Led → Led) → Keeps s (with_led s g change)
unfolding with_led
led_keeps s g change = row_keeps s g (λ row. record row { led = change row.led }) (λ x. refl) (λ x. refl)

-- records of what is handed to no client, and of no list
pub records_keep : (s : Core) (rs : List Happened) → handed_in rs ≡ [] → LeavesStates rs → Keeps s (recorded_all s rs)
unfolding recorded_all
records_keep s rs none leaves =
    record {
      records = omega (arith, length-append s.records rs);
      sessions = (refl, refl);
      order = λ o. o;
      handed = filter-append is_handed s.records rs ∙ (ap (λ (xs : List Happened). handed_in s.records ++ xs) none ∙ append-nil (handed_in s.records));
      owners = owners_themselves s.sessions;
      along = along_records s (recorded_all s rs) rs refl refl leaves;
    }

pub record_keeps : (s : Core) (r : Happened) → is_handed r ≡ false → LeavesStates (r ∷ []) → Keeps s (recorded s r)
unfolding recorded recorded_all
record_keeps s r not_handed leaves = records_keep s (r ∷ []) (rw not_handed refl) leaves

pub record_stays : (s : Core) (r : Happened) → Stays s (recorded s r)
unfolding recorded
record_stays s r = record { records = omega (arith, length-append s.records (r ∷ [])); sessions = (refl, refl); order = λ o. o }

pub sent_keeps : (s : Core) (to : ℕ) (b : Body) → Keeps s (sent s to b)
unfolding sent send_on
sent_keeps s to b =
    record { records = omega arith; sessions = (refl, refl); order = λ o. o; handed = refl; owners = owners_themselves s.sessions; along = along_same s (sent s to b) refl refl }

-- the views stay
pub row_views : (s : Core) (g : List ℕ) (f : GroupRow → GroupRow) → (with_row s g f).views ≡ s.views
unfolding with_row
row_views s g f = refl
