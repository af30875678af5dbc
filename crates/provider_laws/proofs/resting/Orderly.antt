-- The groups of a node stand in the order of their names, and in each at most 64 joins and 64 failures wait.
use Rattle.std.proofs.Common.{◌≡◌, ◌<◌, ℕ, List, [], ◌∷◌, ◌++◌, length, Option, Some, None, Bool, true, false, cond, refl, sym, subst, inl, inr, arith, length-append}
use Rattle.std.specs.Prelude.{◌&&◌, not, find, map, nat_le, is_none}
use Rattle.std.specs.Str.{bytes_eq}
use Rattle.std.proofs.lemmas.Bool.{leb-false}
use Rattle.rsct_packet.specs.declared.ids.ProviderId.{ProviderId}
use Rattle.rsct_packet.specs.Text.{name_lt}
use Rattle.rsct_packet.specs.Search.{Has}
use Rattle.rsct_packet.proofs.HasLaws.{find_has, has_map}
use Rattle.group_attr.specs.declared.attrs.Attrs.{Attrs}
use Rattle.group_attr.specs.Agree.{agree}
use Rattle.proposal_core.specs.declared.group_state.GroupState.{GroupState}
use Rattle.proposal_core.specs.Fold.{max_providers, present}
use Rattle.proposal_core.specs.Lists.{is_at_limit}
use Rattle.batch_rules.specs.Waiting.{WaitingView, has_instance, waits_join}
use Rattle.client_callbacks.specs.declared.told.Why.{Why}
use Rattle.client_callbacks.specs.declared.told.Why.TheVariants as why
use Rattle.view_state.specs.declared.install.Install.{Install}
use Rattle.view_state.specs.Bases.{bases_of}
use Rattle.node_state.specs.declared.group.GroupRow.{GroupRow}
use Rattle.node_state.specs.declared.group.Led.{Led}
use Rattle.node_state.specs.declared.state.Core.{Core}
use Rattle.node_state.specs.State.{InNameOrder, nothing_led, new_row, row_found, row_of, rows_with, with_row, with_led, led_of, list_of, state_of, decisions_with, has_name}
use Rattle.node_state.specs.Deciding.{keep_decision, lacks_source, source_len, is_idle_empty, meant_attrs, join_refusal, keep_attrs, wait_join}
use Rattle.node_state.specs.Applying.{base_row}
use Rattle.node_state.proofs.NameOrder.{KeepsName, row_here, rows_ordered}
use Rattle.step_refinement.proofs.BaseOrder.{bases_ordered}
use Rattle.step_walk.proofs.Waiting.{Few}

abbrev pub FewIn : List GroupRow → Type 0
FewIn rows = (row : GroupRow) → Has row rows → Few row.led.waiting

pub record Orderly (s : Core) : Type 0 where
  pub order : InNameOrder s.groups
  pub few : FewIn s.groups

abbrev pub MildLed : (Led → Led) → Type 0
MildLed f = (l : Led) → Few l.waiting → Few (f l).waiting

abbrev pub Mild : (GroupRow → GroupRow) → Type 0
Mild f = KeepsName f × ((row : GroupRow) → Few row.led.waiting → Few (f row).led.waiting)

pub alike : (s t : Core) → t.groups ≡ s.groups → Orderly s → Orderly t
alike s t e k = record { order = subst InNameOrder (sym e) k.order; few = subst FewIn (sym e) k.few }

nothing_few : Few nothing_led.waiting
nothing_few = (omega arith, omega arith)

-- ---- a row changes

few_with : (g : List ℕ) (f : GroupRow → GroupRow) (rows : List GroupRow) → FewIn rows → Few (f (row_found g (find (has_name g) rows))).led.waiting → Few (f (new_row g)).led.waiting → FewIn (rows_with g f rows)
unfolding rows_with
few_with g f [] all here new = λ row i. only row i
  where
    only : (row : GroupRow) → Has row (f (new_row g) ∷ []) → Few row.led.waiting
    only row (inl e) = subst (λ (z : GroupRow). Few z.led.waiting) (sym e) new
    only row (inr z) = absurd z
few_with g f (x ∷ rows) all here new = by (bytes_eq x.name g) (name_lt g x.name) here (few_with g f rows (λ r i. all r (inr i)))
  where
    front : (y : GroupRow) (ys : List GroupRow) → Few y.led.waiting → FewIn ys → FewIn (y ∷ ys)
    front y ys a b row (inl e) = subst (λ (z : GroupRow). Few z.led.waiting) (sym e) a
    front y ys a b row (inr i) = b row i

    by : (b c : Bool) → Few (f (row_found g (cond b (Some x) (find (has_name g) rows)))).led.waiting → (Few (f (row_found g (find (has_name g) rows))).led.waiting → Few (f (new_row g)).led.waiting → FewIn (rows_with g f rows)) → FewIn (elim b [ true ↦ f x ∷ rows | false ↦ elim c [ true ↦ f (new_row g) ∷ x ∷ rows | false ↦ x ∷ rows_with g f rows ] ])
    by true c h rest = front (f x) rows h (λ r i. all r (inr i))
    by false true h rest = front (f (new_row g)) (x ∷ rows) new all
    by false false h rest = front x (rows_with g f rows) (all x (inl refl)) (rest h new)

pub row_few : (s : Core) (g : List ℕ) → FewIn s.groups → Few (led_of s g).waiting
unfolding led_of row_of
row_few s g all = by (find (has_name g) s.groups) refl
  where
    by : (o : Option GroupRow) → find (has_name g) s.groups ≡ o → Few (row_found g o).led.waiting
    by None e = nothing_few
    by (Some row) e = all row (find_has (has_name g) s.groups row e).0

on_row_at : {s : Core} (g : List ℕ) (f : GroupRow → GroupRow) → KeepsName f → Few (f (row_of s g)).led.waiting → Few (f (new_row g)).led.waiting → Orderly s → Orderly (with_row s g f)
unfolding with_row row_of
on_row_at {s = s} g f keeps here new p = record { order = rows_ordered g f keeps s p.order; few = few_with g f s.groups p.few here new }

pub on_row : {s : Core} (g : List ℕ) (f : GroupRow → GroupRow) → Mild f → Orderly s → Orderly (with_row s g f)
unfolding led_of
on_row {s} g f m p = on_row_at {s = s} g f m.0 (m.1 (row_of s g) (row_few s g p.few)) (m.1 (new_row g) nothing_few) p

pub on_led : {s : Core} (g : List ℕ) (f : Led → Led) → MildLed f → Orderly s → Orderly (with_led s g f)
unfolding with_led
on_led g f m p = on_row g (λ row. record row { led = f row.led }) (λ x. refl, λ x w. m x.led w) p

-- ---- a join that waits

pub room_for : (s : Core) (g : List ℕ) (p : ProviderId) (a : Attrs) → join_refusal s g p a ≡ None → length (led_of s g).waiting.joins < 64
unfolding join_refusal
room_for s g p a e = by (not idle && not (agree a st.attrs)) (has_instance here p) (lacks_source s source p.node) (nat_le max_providers (length here)) refl e
  where
    st : GroupState
    st = state_of s g

    idle : Bool
    idle = is_idle_empty st

    joins : List ProviderId
    joins = (led_of s g).waiting.joins

    here : List ProviderId
    here = present st ++ joins

    source : Option (List ℕ)
    source = (meant_attrs st a idle).source

    by : (a1 a2 a3 b : Bool) → nat_le max_providers (length here) ≡ b → elim a1 as (λ _. Option Why) [ true ↦ Some why.BadAttributes | false ↦ elim a2 as (λ _. Option Why) [ true ↦ Some why.DuplicateInstance | false ↦ elim a3 as (λ _. Option Why) [ true ↦ Some (why.NoSource (source_len s source)) | false ↦ elim b as (λ _. Option Why) [ true ↦ Some (why.GroupFull 64) | false ↦ elim (is_none st.running && is_at_limit (list_of s g)) as (λ _. Option Why) [ true ↦ Some (why.ListFull (list_of s g).len (list_of s g).bytes) | false ↦ None ] ] ] ] ] ≡ None → length joins < 64
    by true a2 a3 b q r = absurd (cc)
    by false true a3 b q r = absurd (cc)
    by false false true b q r = absurd (cc)
    by false false false true q r = absurd (cc)
    by false false false false q r = omega (arith, leb-false max_providers (length here) q, length-append (present st) joins)

pub on_joining : {s : Core} (g : List ℕ) (q : ProviderId) (r : ℕ) (a : Attrs) (idle : Bool) → length (led_of s g).waiting.joins < 64 → Orderly s → Orderly (wait_join s g q r a idle)
unfolding wait_join keep_decision with_led row_of led_of
on_joining {s} g q r a idle room p =
    on_row_at {s = t} g (λ row. record row { led = change row.led }) (λ x. refl) (subst (λ (z : GroupRow). Few (change z.led).waiting) (sym here) (added (led_of s g).waiting room (row_few s g p.few))) (added nothing_led.waiting (omega arith) nothing_few) held
  where
    decide : Led → Led
    decide l = record l { decided = decisions_with (record { provider = q; request = r; why = None }) l.decided }

    change : Led → Led
    change l = record l { waiting = waits_join q l.waiting; join_attrs = keep_attrs l.join_attrs q a idle }

    t : Core
    t = with_row s g (λ row. record row { led = decide row.led })

    held : Orderly t
    held = on_row {s = s} g (λ row. record row { led = decide row.led }) (λ x. refl, λ x w. w) p

    here : row_of t g ≡ record (row_of s g) { led = decide (row_of s g).led }
    here = row_here g (λ row. record row { led = decide row.led }) (λ x. refl) s p.order

    added : (w : WaitingView) → length w.joins < 64 → Few w → Few (waits_join q w)
    added w less k = (omega (arith, less, length-append w.joins (q ∷ [])), k.1)

-- ---- entering a view

pub based : (i : Install) (t : Core) → t.groups ≡ map base_row (bases_of i) → Orderly t
unfolding base_row
based i t e =
    record { order = subst InNameOrder (sym e) (bases_ordered i); few = subst FewIn (sym e) (λ row h. (let m = has_map base_row row (bases_of i) h in subst (λ (z : GroupRow). Few z.led.waiting) (sym m.2) nothing_few)) }
