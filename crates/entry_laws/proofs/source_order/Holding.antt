-- What a leader holds in a step: each join that waits was decided, with the attributes that are kept of it; and the coordinator's
-- table says who was looked up.
use Rattle.std.proofs.Common.{◌≡◌, ◌⊎◌, ℕ, List, [], ◌∷◌, ◌++◌, Option, Some, None, Bool, true, false, refl, sym, ap, ◌∙◌, subst, inl, inr, ⊎_elim, cond, length}
use Rattle.std.specs.Prelude.{nat_le, find, reverse, filter, not, ◌||◌, if◌then◌else◌}
use Rattle.std.specs.Str.{bytes_eq}
use Rattle.std.proofs.lemmas.List.{reverse-append}
use Rattle.rsct_packet.specs.declared.ids.ViewId.{ViewId}
use Rattle.rsct_packet.specs.declared.ids.ProviderId.{ProviderId}
use Rattle.rsct_packet.specs.Text.{name_lt}
use Rattle.rsct_packet.specs.Providers.{same_provider, among}
use Rattle.rsct_packet.specs.Lists.{drop_where}
use Rattle.rsct_packet.specs.Search.{Has}
use Rattle.group_attr.specs.declared.attrs.Attrs.{Attrs}
use Rattle.proposal_core.specs.declared.proposal.Cause.{Cause}
use Rattle.group_attr.specs.declared.attrs.Batch.{Batch}
use Rattle.batch_rules.specs.Waiting.{takes_failure, add_failure, waits_join, drop_join, batches_joins, left_of, joins_left}
use Rattle.name_server.specs.declared.names.Leader.{Leader}
use Rattle.name_server.specs.Names.{node_of}
use Rattle.name_server.specs.Names as names
use Rattle.node_state.specs.declared.group.GroupRow.{GroupRow}
use Rattle.node_state.specs.declared.group.JoinAttrs.{JoinAttrs}
use Rattle.node_state.specs.declared.group.Led.{Led}
use Rattle.node_state.specs.declared.happened.Happened.{Happened}
use Rattle.node_state.specs.declared.happened.Happened.TheVariants as happened
use Rattle.node_state.specs.declared.packet.Packet.{Packet}
use Rattle.node_state.specs.declared.state.Core.{Core}
use Rattle.node_state.specs.State.{new_row, rows_with, with_row, with_led, recorded}
use Rattle.node_state.specs.Deciding.{keep_attrs}
use Rattle.node_state.proofs.NameOrder.{KeepsName, text_same}
use Rattle.world_model.specs.declared.event.Event.{Event}
use Rattle.run_safety.specs.Past.{History}
use Rattle.step_refinement.proofs.SessionLaws.{provider_self, provider_same}
use Rattle.step_refinement.proofs.Decisions.{among_push}
use Rattle.entry_laws.specs.source_order.Meant.{Decided}
use Rattle.entry_laws.specs.source_order.Sources.{RecordedBase}

-- an event that goes on: what it is, those before it, the node that takes a step, the view that it is in and the table that it has as
-- the step begins, the group that is looked up, by whom, and what was sent at some moment of the step
pub record Turn : Type 0 where
  pub what : Option Event
  pub before : History
  pub node : ℕ
  pub view : ViewId
  pub table : List Leader
  pub looked : Option (List ℕ × ℕ)
  pub sent : List Packet

-- with what was recorded so far
abbrev pub so_far : Turn → List Happened → History
so_far x now = record { event = x.what; records = now } ∷ x.before

-- the attributes that are kept of a join
abbrev pub kept_of : Led → ProviderId → Option JoinAttrs
kept_of l p = find (λ (j : JoinAttrs). same_provider j.provider p) l.join_attrs

-- where they are kept it was decided in an empty idle group, and asked for these
abbrev pub DecidedAs : History → ℕ → ViewId → List ℕ → ProviderId → Option JoinAttrs → Type 0
DecidedAs h n v g p None = (a : Attrs) × Decided h n v g p false a
DecidedAs h n v g p (Some j) = Decided h n v g p true j.attrs

abbrev pub RowWaits : History → ℕ → ViewId → GroupRow → Type 0
RowWaits h n v row = (p : ProviderId) → among row.led.waiting.joins p ≡ true → DecidedAs h n v row.name p (kept_of row.led p)

-- those that are kept are of providers that differ
abbrev pub Apart : List JoinAttrs → Type 0
Apart [] = Unit {0}
Apart (j ∷ js) = (find (λ (k : JoinAttrs). same_provider k.provider j.provider) js ≡ None) × Apart js

abbrev pub RowHolds : History → ℕ → ViewId → GroupRow → Type 0
RowHolds h n v row = Apart row.led.join_attrs × RowWaits h n v row

-- nothing is kept of a join, and none waits
abbrev pub Bare : GroupRow → Type 0
Bare row = (row.led.join_attrs ≡ []) × ((p : ProviderId) → among row.led.waiting.joins p ≡ true → ⊥)

-- what was decided stays decided
pub row_on : (h k : History) (n : ℕ) (v : ViewId) (row : GroupRow) → ((g : List ℕ) (p : ProviderId) (idle : Bool) (a : Attrs) → Decided h n v g p idle a → Decided k n v g p idle a) → RowHolds h n v row → RowHolds k n v row
row_on h k n v row more holds = (holds.0, λ p e. by p (kept_of row.led p) (holds.1 p e))
  where
    by : (p : ProviderId) (o : Option JoinAttrs) → DecidedAs h n v row.name p o → DecidedAs k n v row.name p o
    by p None d = (d.0, more row.name p false d.0 d.1)
    by p (Some j) d = more row.name p true j.attrs d

-- the node is where it began
pub record Going (x : Turn) (s : Core) : Type 0 where
  pub me : s.views.me ≡ x.node
  pub view : s.views.view ≡ x.view
  pub waits : (row : GroupRow) → Has row s.groups → RowHolds (so_far x []) x.node x.view row
  pub named : (g : List ℕ) (m : ℕ) → node_of g s.names ≡ Some m → (node_of g x.table ≡ Some m) ⊎ (x.looked ≡ Some (g, m))

-- it has entered a view, where it noted the bases
pub record Anew (s : Core) : Type 0 where
  pub none : (row : GroupRow) → Has row s.groups → Bare row
  pub named : (g : List ℕ) (m : ℕ) → node_of g s.names ≡ Some m → RecordedBase s.views.me s.views.view g (reverse s.records)

abbrev pub Holds : Turn → Core → Type 0
Holds x s = Going x s ⊎ Anew s

-- ---- what changes of a row

-- no join comes to wait, and what is kept of joins stays
pub record Fewer (old new : Led) : Type 0 where
  pub joins : (p : ProviderId) → among new.waiting.joins p ≡ true → among old.waiting.joins p ≡ true
  pub attrs : new.join_attrs ≡ old.join_attrs

pub fewer_self : (l : Led) → Fewer l l
fewer_self l = record { joins = λ p e. e; attrs = refl }

-- the row that changes is that of the group
changed_row : (g : List ℕ) (f : GroupRow → GroupRow) (rows : List GroupRow) (y : GroupRow) → Has y (rows_with g f rows) → Has y rows ⊎ ((x : GroupRow) × (Has x rows ⊎ (x ≡ new_row g)) × (y ≡ f x) × (x.name ≡ g))
unfolding rows_with
changed_row g f [] y (inl e) = inr (new_row g, inr refl, e, refl)
changed_row g f [] y (inr z) = absurd z
changed_row g f (x ∷ rows) y h = by (bytes_eq x.name g) (name_lt g x.name) refl h (changed_row g f rows y)
  where
    Out : Type 0
    Out = Has y (x ∷ rows) ⊎ ((z : GroupRow) × (Has z (x ∷ rows) ⊎ (z ≡ new_row g)) × (y ≡ f z) × (z.name ≡ g))

    later : Has y rows ⊎ ((z : GroupRow) × (Has z rows ⊎ (z ≡ new_row g)) × (y ≡ f z) × (z.name ≡ g)) → Out
    later (inl i) = inl (inr i)
    later (inr z) = inr (z.0, ⊎_elim (λ (i : Has z.0 rows). inl (inr i)) (λ (e : z.0 ≡ new_row g). inr e) z.1, z.2, z.3)

    by : (a b : Bool) → bytes_eq x.name g ≡ a → Has y (elim a [ true ↦ f x ∷ rows | false ↦ elim b [ true ↦ f (new_row g) ∷ x ∷ rows | false ↦ x ∷ rows_with g f rows ] ]) → (Has y (rows_with g f rows) → Has y rows ⊎ ((z : GroupRow) × (Has z rows ⊎ (z ≡ new_row g)) × (y ≡ f z) × (z.name ≡ g))) → Out
    by true b q (inl e) rec = inr (x, inl (inl refl), e, text_same x.name g q)
    by true b q (inr i) rec = inl (inr i)
    by false true q (inl e) rec = inr (new_row g, inr refl, e, refl)
    by false true q (inr i) rec = inl i
    by false false q (inl e) rec = inl (inl e)
    by false false q (inr i) rec = later (rec i)

-- nobody waits in a new row
new_holds : (h : History) (n : ℕ) (v : ViewId) (g : List ℕ) → RowHolds h n v (new_row g)
new_holds h n v g = (tt, λ p e. absurd (cc))

-- a row with fewer joins
fewer_holds : (h : History) (n : ℕ) (v : ViewId) (x y : GroupRow) → y.name ≡ x.name → Fewer x.led y.led → RowHolds h n v x → RowHolds h n v y
fewer_holds h n v x y name less holds = (
  subst Apart (sym less.attrs) holds.0,
  λ p e. subst (λ (z : List ℕ × List JoinAttrs). DecidedAs h n v z.0 p (find (λ (j : JoinAttrs). same_provider j.provider p) z.1)) (λ i. (sym name i, sym less.attrs i)) (holds.1 p (less.joins p e)),
)

-- a row of the group changes
rows_with_holds : (h : History) (n : ℕ) (v : ViewId) (g : List ℕ) (f : GroupRow → GroupRow) (rows : List GroupRow) → KeepsName f → ((x : GroupRow) → x.name ≡ g → RowHolds h n v x → RowHolds h n v (f x)) → ((x : GroupRow) → Has x rows → RowHolds h n v x) → (y : GroupRow) → Has y (rows_with g f rows) → RowHolds h n v y
rows_with_holds h n v g f rows keeps one all y i = by (changed_row g f rows y i)
  where
    old : (x : GroupRow) → Has x rows ⊎ (x ≡ new_row g) → RowHolds h n v x
    old x (inl j) = all x j
    old x (inr e) = subst (RowHolds h n v) (sym e) (new_holds h n v g)

    by : Has y rows ⊎ ((x : GroupRow) × (Has x rows ⊎ (x ≡ new_row g)) × (y ≡ f x) × (x.name ≡ g)) → RowHolds h n v y
    by (inl j) = all y j
    by (inr z) = subst (RowHolds h n v) (sym z.2) (one z.0 z.3 (old z.0 z.1))

rows_with_bare : (g : List ℕ) (f : GroupRow → GroupRow) (rows : List GroupRow) → ((x : GroupRow) → Fewer x.led (f x).led) → ((x : GroupRow) → Has x rows → Bare x) → (y : GroupRow) → Has y (rows_with g f rows) → Bare y
rows_with_bare g f rows fewer all y i = by (changed_row g f rows y i)
  where
    old : (x : GroupRow) → Has x rows ⊎ (x ≡ new_row g) → Bare x
    old x (inl j) = all x j
    old x (inr e) = subst Bare (sym e) (refl, λ p w. absurd (cc))

    by : Has y rows ⊎ ((x : GroupRow) × (Has x rows ⊎ (x ≡ new_row g)) × (y ≡ f x) × (x.name ≡ g)) → Bare y
    by (inl j) = all y j
    by (inr z) = let b : Bare z.0 = old z.0 z.1 in
        subst Bare (sym z.2) ((fewer z.0).attrs ∙ b.0, λ p w. b.1 p ((fewer z.0).joins p w))

-- what is recorded stays recorded
base_stays : (n : ℕ) (v : ViewId) (g : List ℕ) (rs ss : List Happened) → ((r : Happened) → Has r rs → Has r ss) → RecordedBase n v g rs → RecordedBase n v g ss
base_stays n v g rs ss more b = record { old = b.old; len = b.len; base = b.base; there = more (happened.Base n v g b.old b.len b.base) b.there }

-- ---- what a step does

module _ (x : Turn) where
  -- a row of the group changes, and joins that wait go
  pub going_row : (s : Core) (g : List ℕ) (f : GroupRow → GroupRow) → KeepsName f → ((y : GroupRow) → Fewer y.led (f y).led) → Going x s → Going x (with_row s g f)
  unfolding with_row
  going_row s g f keeps fewer k =
      record { me = k.me; view = k.view; waits = rows_with_holds (so_far x []) x.node x.view g f s.groups keeps (λ y e w. fewer_holds (so_far x []) x.node x.view y (f y) (keeps y) (fewer y) w) k.waits; named = k.named }

  pub holds_row : (s : Core) (g : List ℕ) (f : GroupRow → GroupRow) → KeepsName f → ((y : GroupRow) → Fewer y.led (f y).led) → Holds x s → Holds x (with_row s g f)
  unfolding with_row
  holds_row s g f keeps fewer (inl k) = inl (going_row s g f keeps fewer k)
  holds_row s g f keeps fewer (inr k) = inr (record { none = rows_with_bare g f s.groups fewer k.none; named = k.named })

  -- rows, names and where the node is stay, and records come
  pub holds_same : (s t : Core) → t.groups ≡ s.groups → t.names ≡ s.names → t.views.me ≡ s.views.me → t.views.view ≡ s.views.view → ((r : Happened) → Has r (reverse s.records) → Has r (reverse t.records)) → Holds x s → Holds x t
  holds_same s t groups names me view more (inl k) =
      inl (record { me = me ∙ k.me; view = view ∙ k.view; waits = λ row h. k.waits row (subst (Has row) groups h); named = λ g m e. k.named g m (ap (node_of g) (sym names) ∙ e) })
  holds_same s t groups names me view more (inr k) =
      inr (record {
        none = λ row h. k.none row (subst (Has row) groups h);
        named = λ g m e. subst (λ (z : ℕ × ViewId). RecordedBase z.0 z.1 g (reverse t.records)) (λ i. (sym me i, sym view i)) (base_stays s.views.me s.views.view g (reverse s.records) (reverse t.records) more (k.named g m (ap (node_of g) (sym names) ∙ e)));
      })

  pub holds_recorded : (s : Core) (r : Happened) → Holds x s → Holds x (recorded s r)
  unfolding recorded
  holds_recorded s r k =
      holds_same s (recorded s r) refl refl refl refl (λ q h. subst (Has q) (sym (reverse-append s.records (r ∷ []))) (inr h)) k

-- ---- joins that wait

pub failure_fewer : (l : Led) (p : ProviderId) (c : Cause) → Fewer l (record l { waiting = add_failure p c l.waiting })
failure_fewer l p c = record { joins = λ q e. ap (λ ps. among ps q) (sym (by (takes_failure p l.waiting))) ∙ e; attrs = refl }
  where
    by : (b : Bool) → (if b then record (l.waiting) { failures = l.waiting.failures ++ record { provider = p; cause = c } ∷ [] } else l.waiting).joins ≡ l.waiting.joins
    by true = refl
    by false = refl

among_filter : (f : ProviderId → Bool) (xs : List ProviderId) (q : ProviderId) → among (filter f xs) q ≡ true → among xs q ≡ true
among_filter f [] q e = e
among_filter f (y ∷ xs) q e = by (f y) (same_provider y q) refl e (among_filter f xs q)
  where
    at : (b : Bool) → (b || among (filter f xs) q) ≡ true → (among (filter f xs) q ≡ true → among xs q ≡ true) → (b || among xs q) ≡ true
    at true k rest = refl
    at false k rest = rest k

    later : (b : Bool) → among (filter f xs) q ≡ true → (among (filter f xs) q ≡ true → among xs q ≡ true) → (b || among xs q) ≡ true
    later true k rest = refl
    later false k rest = rest k

    by : (a b : Bool) → (same_provider y q ≡ b) → among (cond a (y ∷ filter f xs) (filter f xs)) q ≡ true → (among (filter f xs) q ≡ true → among xs q ≡ true) → (b || among xs q) ≡ true
    by true b z k rest = at b (ap (λ c. c || among (filter f xs) q) (sym z) ∙ k) rest
    by false b z k rest = later b k rest

pub dropped_fewer : (l : Led) (p : ProviderId) → Fewer l (record l { waiting = drop_join p l.waiting })
dropped_fewer l p = record { joins = λ q e. among_filter (λ z. not (same_provider z p)) l.waiting.joins q e; attrs = refl }

pub left_fewer : (l : Led) (b : Batch) → Fewer l (record l { waiting = joins_left b l.waiting })
left_fewer l b = record { joins = λ q e. by (batches_joins b) l.waiting.joins q e; attrs = refl }
  where
    either : (b : Bool) → (b || true) ≡ true
    either true = refl
    either false = refl

    by : (c : Bool) (ps : List ProviderId) (q : ProviderId) → among (left_of c ps) q ≡ true → among ps q ≡ true
    by true ps q e = absurd (cc)
    by false [] q e = absurd (cc)
    by false (y ∷ ps) q e = ap (λ b. same_provider y q || b) e ∙ either (same_provider y q)

-- ---- a join that comes to wait

none_without : (p : ProviderId) (f : JoinAttrs → Bool) (js : List JoinAttrs) → find (λ (j : JoinAttrs). same_provider j.provider p) js ≡ None → find (λ (j : JoinAttrs). same_provider j.provider p) (drop_where f js) ≡ None
none_without p f [] e = refl
none_without p f (y ∷ js) e = by (f y) (same_provider y.provider p) refl e (none_without p f js)
  where
    Rest : Type 0
    Rest = find (λ (j : JoinAttrs). same_provider j.provider p) js ≡ None → find (λ (j : JoinAttrs). same_provider j.provider p) (drop_where f js) ≡ None

    skip : (b : Bool) → cond b (Some y) (find (λ (j : JoinAttrs). same_provider j.provider p) js) ≡ None → find (λ (j : JoinAttrs). same_provider j.provider p) js ≡ None
    skip true q = absurd (cc)
    skip false q = q

    keep : (b : Bool) → cond b (Some y) (find (λ (j : JoinAttrs). same_provider j.provider p) js) ≡ None → Rest → cond b (Some y) (find (λ (j : JoinAttrs). same_provider j.provider p) (drop_where f js)) ≡ None
    keep true q rest = absurd (cc)
    keep false q rest = rest q

    by : (a b : Bool) → same_provider y.provider p ≡ b → find (λ (j : JoinAttrs). same_provider j.provider p) (y ∷ js) ≡ None → Rest → find (λ (j : JoinAttrs). same_provider j.provider p) (elim a as (λ _. List JoinAttrs) [ true ↦ js | false ↦ y ∷ drop_where f js ]) ≡ None
    by true b z q rest = skip (same_provider y.provider p) q
    by false b z q rest = keep (same_provider y.provider p) q rest

apart_without : (f : JoinAttrs → Bool) (js : List JoinAttrs) → Apart js → Apart (drop_where f js)
apart_without f [] a = tt
apart_without f (y ∷ js) a = by (f y) (apart_without f js a.1)
  where
    by : (b : Bool) → Apart (drop_where f js) → Apart (elim b as (λ _. List JoinAttrs) [ true ↦ js | false ↦ y ∷ drop_where f js ])
    by true rest = a.1
    by false rest = (none_without y.provider f js a.0, rest)

none_dropped : (p : ProviderId) (js : List JoinAttrs) → Apart js → find (λ (j : JoinAttrs). same_provider j.provider p) (drop_where (λ (j : JoinAttrs). same_provider j.provider p) js) ≡ None
none_dropped p [] a = refl
none_dropped p (y ∷ js) a = by (same_provider y.provider p) refl (none_dropped p js a.1)
  where
    by : (b : Bool) → same_provider y.provider p ≡ b → find (λ (j : JoinAttrs). same_provider j.provider p) (drop_where (λ (j : JoinAttrs). same_provider j.provider p) js) ≡ None → find (λ (j : JoinAttrs). same_provider j.provider p) (elim b as (λ _. List JoinAttrs) [ true ↦ js | false ↦ y ∷ drop_where (λ (j : JoinAttrs). same_provider j.provider p) js ]) ≡ None
    by true e rest = subst (λ q. find (λ (j : JoinAttrs). same_provider j.provider q) js ≡ None) (provider_same y.provider p e) a.0
    by false e rest = ap (λ b. cond b (Some y) (find (λ (j : JoinAttrs). same_provider j.provider p) (drop_where (λ (j : JoinAttrs). same_provider j.provider p) js))) e ∙ rest

other_dropped : (p q : ProviderId) (js : List JoinAttrs) → (q ≡ p → ⊥) → find (λ (j : JoinAttrs). same_provider j.provider q) (drop_where (λ (j : JoinAttrs). same_provider j.provider p) js) ≡ find (λ (j : JoinAttrs). same_provider j.provider q) js
other_dropped p q [] ne = refl
other_dropped p q (y ∷ js) ne = by (same_provider y.provider p) refl (other_dropped p q js ne)
  where
    away : same_provider y.provider p ≡ true → (b : Bool) → same_provider y.provider q ≡ b → b ≡ false
    away e false f = refl
    away e true f = absurd (ne (sym (provider_same y.provider q f) ∙ provider_same y.provider p e))

    by : (b : Bool) → same_provider y.provider p ≡ b → find (λ (j : JoinAttrs). same_provider j.provider q) (drop_where (λ (j : JoinAttrs). same_provider j.provider p) js) ≡ find (λ (j : JoinAttrs). same_provider j.provider q) js → find (λ (j : JoinAttrs). same_provider j.provider q) (elim b as (λ _. List JoinAttrs) [ true ↦ js | false ↦ y ∷ drop_where (λ (j : JoinAttrs). same_provider j.provider p) js ]) ≡ find (λ (j : JoinAttrs). same_provider j.provider q) (y ∷ js)
    by true e rest = sym (ap (λ b. cond b (Some y) (find (λ (j : JoinAttrs). same_provider j.provider q) js)) (away e (same_provider y.provider q) refl))
    by false e rest = ap (λ z. cond (same_provider y.provider q) (Some y) z) rest

find_pushed : (f : JoinAttrs → Bool) (js : List JoinAttrs) (y : JoinAttrs) → find f js ≡ None → find f (js ++ y ∷ []) ≡ cond (f y) (Some y) None
find_pushed f [] y e = refl
find_pushed f (x ∷ js) y e = by (f x) e (find_pushed f js y)
  where
    by : (b : Bool) → cond b (Some x) (find f js) ≡ None → (find f js ≡ None → find f (js ++ y ∷ []) ≡ cond (f y) (Some y) None) → cond b (Some x) (find f (js ++ y ∷ [])) ≡ cond (f y) (Some y) None
    by true q rest = absurd (cc)
    by false q rest = rest q

other_pushed : (f : JoinAttrs → Bool) (js : List JoinAttrs) (y : JoinAttrs) → f y ≡ false → find f (js ++ y ∷ []) ≡ find f js
other_pushed f [] y e = ap (λ b. cond b (Some y) None) e
other_pushed f (x ∷ js) y e = ap (λ z. cond (f x) (Some x) z) (other_pushed f js y e)

apart_pushed : (js : List JoinAttrs) (y : JoinAttrs) → find (λ (j : JoinAttrs). same_provider j.provider y.provider) js ≡ None → Apart js → Apart (js ++ y ∷ [])
apart_pushed [] y none a = (refl, tt)
apart_pushed (x ∷ js) y none a = by (same_provider x.provider y.provider) refl none (λ q. apart_pushed js y q a.1)
  where
    turned : same_provider x.provider y.provider ≡ false → (b : Bool) → same_provider y.provider x.provider ≡ b → b ≡ false
    turned e false f = refl
    turned e true f = absurd (let z : same_provider x.provider y.provider ≡ true = subst (λ w. same_provider w y.provider ≡ true) (provider_same y.provider x.provider f) (provider_self y.provider) in cc)

    by : (b : Bool) → same_provider x.provider y.provider ≡ b → cond b (Some x) (find (λ (j : JoinAttrs). same_provider j.provider y.provider) js) ≡ None → (find (λ (j : JoinAttrs). same_provider j.provider y.provider) js ≡ None → Apart (js ++ y ∷ [])) → Apart (x ∷ js ++ y ∷ [])
    by true e q rest = absurd (cc)
    by false e q rest = (other_pushed (λ (j : JoinAttrs). same_provider j.provider x.provider) js y (turned e (same_provider y.provider x.provider) refl) ∙ a.0, rest q)

module _ (js : List JoinAttrs) (p : ProviderId) (a : Attrs) (apart : Apart js) where
  kept_apart : (idle : Bool) → Apart (keep_attrs js p a idle)
  unfolding keep_attrs
  kept_apart false = apart_without (λ (j : JoinAttrs). same_provider j.provider p) js apart
  kept_apart true = apart_pushed (drop_where (λ (j : JoinAttrs). same_provider j.provider p) js) (record { provider = p; attrs = a }) (none_dropped p js apart) (apart_without (λ (j : JoinAttrs). same_provider j.provider p) js apart)

  -- what is kept of others stays
  kept_others : (idle : Bool) (q : ProviderId) → (q ≡ p → ⊥) → find (λ (j : JoinAttrs). same_provider j.provider q) (keep_attrs js p a idle) ≡ find (λ (j : JoinAttrs). same_provider j.provider q) js
  unfolding keep_attrs
  kept_others false q ne = other_dropped p q js ne
  kept_others true q ne = other_pushed (λ (j : JoinAttrs). same_provider j.provider q) (drop_where (λ (j : JoinAttrs). same_provider j.provider p) js) (record { provider = p; attrs = a }) (away (same_provider p q) refl) ∙ other_dropped p q js ne
    where
      away : (b : Bool) → same_provider p q ≡ b → b ≡ false
      away false f = refl
      away true f = absurd (ne (sym (provider_same p q f)))

  -- its own where it was decided in an empty idle group
  kept_own : (h : History) (n : ℕ) (v : ViewId) (g : List ℕ) (idle : Bool) → Decided h n v g p idle a → DecidedAs h n v g p (find (λ (j : JoinAttrs). same_provider j.provider p) (keep_attrs js p a idle))
  unfolding keep_attrs
  kept_own h n v g false d = subst (DecidedAs h n v g p) (sym (none_dropped p js apart)) (a, d)
  kept_own h n v g true d =
      subst (DecidedAs h n v g p) (sym (find_pushed (λ (j : JoinAttrs). same_provider j.provider p) (drop_where (λ (j : JoinAttrs). same_provider j.provider p) js) (record { provider = p; attrs = a }) (none_dropped p js apart) ∙ ap (λ b. cond b (Some (record { provider = p; attrs = a })) None) (provider_self p))) d

pub holds_joining : (x : Turn) (s : Core) (g : List ℕ) (p : ProviderId) (a : Attrs) (idle : Bool) → Decided (so_far x []) x.node x.view g p idle a → Going x s → Going x (with_led s g (λ l. record l { waiting = waits_join p l.waiting; join_attrs = keep_attrs l.join_attrs p a idle }))
unfolding with_led with_row
holds_joining x s g p a idle decided k =
    record { me = k.me; view = k.view; waits = rows_with_holds (so_far x []) x.node x.view g f s.groups (λ y. refl) one k.waits; named = k.named }
  where
    f : GroupRow → GroupRow
    f row = record row { led = record (row.led) { waiting = waits_join p row.led.waiting; join_attrs = keep_attrs row.led.join_attrs p a idle } }

    one : (y : GroupRow) → y.name ≡ g → RowHolds (so_far x []) x.node x.view y → RowHolds (so_far x []) x.node x.view (f y)
    one y name w = (kept_apart y.led.join_attrs p a w.0 idle, λ q e. by q (among_push y.led.waiting.joins p q e) (cases q))
      where
        d : Decided (so_far x []) x.node x.view y.name p idle a
        d = subst (λ z. Decided (so_far x []) x.node x.view z p idle a) (sym name) decided

        cases : (q : ProviderId) → (q ≡ p) ⊎ (q ≡ p → ⊥)
        cases q = at (same_provider q p) refl
          where
            at : (b : Bool) → same_provider q p ≡ b → (q ≡ p) ⊎ (q ≡ p → ⊥)
            at true e = inl (provider_same q p e)
            at false e = inr (λ z. absurd (let w : same_provider q p ≡ true = subst (λ r. same_provider q r ≡ true) z (provider_self q) in cc))

        by : (q : ProviderId) → (among y.led.waiting.joins q ≡ true) ⊎ (q ≡ p) → (q ≡ p) ⊎ (q ≡ p → ⊥) → DecidedAs (so_far x []) x.node x.view y.name q (find (λ (j : JoinAttrs). same_provider j.provider q) (keep_attrs y.led.join_attrs p a idle))
        by q old (inl e) = subst (λ z. DecidedAs (so_far x []) x.node x.view y.name z (find (λ (j : JoinAttrs). same_provider j.provider z) (keep_attrs y.led.join_attrs p a idle))) (sym e) (kept_own y.led.join_attrs p a w.0 (so_far x []) x.node x.view y.name idle d)
        by q (inl e) (inr ne) = subst (DecidedAs (so_far x []) x.node x.view y.name q) (sym (kept_others y.led.join_attrs p a w.0 idle q ne)) (w.1 q e)
        by q (inr e) (inr ne) = absurd (ne e)

-- what a table with one name more has
named_last : (g : List ℕ) (from : ℕ) (table : List Leader) (h : List ℕ) (m : ℕ) → node_of h (names.named g from table) ≡ Some m → (node_of h table ≡ Some m) ⊎ ((h ≡ g) × (m ≡ from))
named_last g from [] h m e = at (bytes_eq h g) refl e
  where
    at : (b : Bool) → bytes_eq h g ≡ b → (if b then Some from else None) ≡ Some m → (None ≡ Some m) ⊎ ((h ≡ g) × (m ≡ from))
    at true q e = inr (text_same h g q, let z : from ≡ m = cc in sym z)
    at false q e = inl e
named_last g from (y ∷ table) h m e = at (bytes_eq h y.group) e (named_last g from table h m)
  where
    at : (b : Bool) → (if b then Some y.node else node_of h (names.named g from table)) ≡ Some m → (node_of h (names.named g from table) ≡ Some m → (node_of h table ≡ Some m) ⊎ ((h ≡ g) × (m ≡ from))) → ((if b then Some y.node else node_of h table) ≡ Some m) ⊎ ((h ≡ g) × (m ≡ from))
    at true e rest = inl e
    at false e rest = rest e

-- a group is looked up
pub going_looked : (x : Turn) (s : Core) (g : List ℕ) (from : ℕ) → x.looked ≡ Some (g, from) → Going x s → Going x (record s { names = names.lookup g from s.names })
going_looked x s g from looked k = record { me = k.me; view = k.view; waits = k.waits; named = λ h m e. by (names.node_of g s.names) (nat_le names.max_names (length s.names)) h m e }
  where
    by : (o : Option ℕ) (full : Bool) (h : List ℕ) (m : ℕ) → node_of h (names.table_at g from s.names full o) ≡ Some m → (node_of h x.table ≡ Some m) ⊎ (x.looked ≡ Some (h, m))
    by (Some j) full h m e = k.named h m e
    by None true h m e = k.named h m e
    by None false h m e =
        ⊎_elim (λ (a : node_of h s.names ≡ Some m). k.named h m a) (λ (b : (h ≡ g) × (m ≡ from)). inr (looked ∙ ap (λ (z : List ℕ × ℕ). Some z) (λ i. (sym b.0 i, sym b.1 i)))) (named_last g from s.names h m e)
