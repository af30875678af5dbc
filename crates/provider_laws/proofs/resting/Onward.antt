-- From one state to another in the same view: the same groups have rows, under the same leaders, and no list is shorter.
use Rattle.std.proofs.Common.{◌≡◌, ◌≤◌, ◌⊎◌, ℕ, List, [], ◌∷◌, length, Option, Bool, true, false, cond, refl, sym, ap, ◌∙◌, subst, inl, inr, arith}
use Rattle.std.specs.Prelude.{map, filter, find}
use Rattle.std.specs.Str.{bytes_eq}
use Rattle.rsct_packet.specs.Text.{name_lt}
use Rattle.rsct_packet.specs.Search.{Has}
use Rattle.rsct_packet.proofs.HasLaws.{has_filter, has_map}
use Rattle.proposal_core.specs.Lists.{len_in}
use Rattle.view_state.specs.declared.views.Views.{Views}
use Rattle.node_state.specs.declared.config.Config.{Config}
use Rattle.node_state.specs.declared.group.GroupRow.{GroupRow}
use Rattle.node_state.specs.declared.state.Core.{Core}
use Rattle.node_state.specs.State.{AllAfter, InNameOrder, new_row, row_found, row_of, rows_with, with_row, with_led, recorded, with_sessions, list_of, len_of, leader_by, is_this, leader_in, leads_in, led_groups, has_name}
use Rattle.node_state.proofs.NameOrder.{text_self, lt_self, name_lt_trans, cases_text, row_here, row_there}
use Rattle.provider_laws.proofs.resting.Orderly.{Orderly, alike, on_row}
use Rattle.session_state.specs.HandOn.{handed_on}
use Rattle.node_state.specs.declared.happened.Happened.TheVariants as happened
use Rattle.node_state.specs.Sending.{send_on}
use Rattle.node_state.specs.Leading.{put}
use Rattle.node_state.specs.Deciding.{keep_decision}
use Rattle.step_walk.proofs.Changes.{Keeps, KeepsParts}
use Rattle.step_walk.proofs.Parts.{on_hands}
use Rattle.provider_laws.proofs.resting.Growing.{Grows, led_grows, put_grows, mild_grows}

-- the names of rows, and who leads them
abbrev pub bones_of : List GroupRow → List (List ℕ × Option ℕ)
bones_of rows = map (λ (row : GroupRow). (row.name, row.leader)) rows

abbrev pub names_of : List (List ℕ × Option ℕ) → List (List ℕ)
names_of bs = map (λ (b : List ℕ × Option ℕ). b.0) bs

-- the group has a row
abbrev pub IsNamed : Core → List ℕ → Type 0
IsNamed s g = Has g (names_of (bones_of s.groups))

pub record Onward (s t : Core) : Type 0 where
  pub orderly : Orderly t
  pub bones : bones_of t.groups ≡ bones_of s.groups
  pub views : t.views ≡ s.views
  pub config : t.config ≡ s.config
  pub lens : (h : List ℕ) → len_of s h ≤ len_of t h

pub self : (s : Core) → Orderly s → Onward s s
self s k = record { orderly = k; bones = refl; views = refl; config = refl; lens = λ h. omega arith }

pub onward_then : (s t u : Core) → Onward s t → Onward t u → Onward s u
onward_then s t u a b =
    record { orderly = b.orderly; bones = b.bones ∙ a.bones; views = b.views ∙ a.views; config = b.config ∙ a.config; lens = λ h. omega (arith, a.lens h, b.lens h) }

pub named_on : (s t : Core) (g : List ℕ) → Onward s t → IsNamed s g → IsNamed t g
named_on s t g a = subst (λ bs. Has g (names_of bs)) (sym a.bones)

-- ---- a row that is there changes

after_named : (h g : List ℕ) (rows : List GroupRow) → AllAfter h rows → Has g (names_of (bones_of rows)) → name_lt h g ≡ true
after_named h g [] a i = absurd i
after_named h g (row ∷ rows) a (inl e) = subst (λ z. name_lt h z ≡ true) (sym e) a.0
after_named h g (row ∷ rows) a (inr i) = after_named h g rows a.1 i

bones_with : (g : List ℕ) (f : GroupRow → GroupRow) → Grows f → (rows : List GroupRow) → InNameOrder rows → Has g (names_of (bones_of rows)) → bones_of (rows_with g f rows) ≡ bones_of rows
unfolding rows_with
bones_with g f m [] o i = absurd i
bones_with g f m (row ∷ rows) o i = by (bytes_eq row.name g) (name_lt g row.name) refl refl (bones_with g f m rows o.1)
  where
    there : bytes_eq row.name g ≡ false → Has g (names_of (bones_of rows))
    there e = at i
      where
        at : (g ≡ row.name) ⊎ Has g (names_of (bones_of rows)) → Has g (names_of (bones_of rows))
        at (inl q) = absurd (let z : bytes_eq row.name g ≡ true = ap (bytes_eq row.name) q ∙ text_self row.name in let y : true ≡ false = sym z ∙ e in cc)
        at (inr j) = j

    by : (b c : Bool) → bytes_eq row.name g ≡ b → name_lt g row.name ≡ c → (Has g (names_of (bones_of rows)) → bones_of (rows_with g f rows) ≡ bones_of rows) → bones_of (elim b [ true ↦ f row ∷ rows | false ↦ elim c [ true ↦ f (new_row g) ∷ row ∷ rows | false ↦ row ∷ rows_with g f rows ] ]) ≡ bones_of (row ∷ rows)
    by true c e l rest = λ j. (m.name row j, m.leader row j) ∷ bones_of rows
    by false true e l rest =
        absurd (let z : name_lt row.name g ≡ true = after_named row.name g rows o.0 (there e) in let y : name_lt g g ≡ true = name_lt_trans g row.name g l z in let x : true ≡ false = sym y ∙ lt_self g in cc)
    by false false e l rest = ap (λ bs. (row.name, row.leader) ∷ bs) (rest (there e))

module _ (s : Core) where
  len_alike : (a b : Core) → b.groups ≡ a.groups → (h : List ℕ) → len_of s h ≤ len_of a h → len_of s h ≤ len_of b h
  unfolding len_of list_of row_of
  len_alike a b same h k = subst (λ (rows : List GroupRow). len_of s h ≤ len_in (row_found h (find (has_name h) rows)).list) (sym same) k

  lens_row : (a : Core) (g : List ℕ) (f : GroupRow → GroupRow) → Grows f → Onward s a → (h : List ℕ) → (g ≡ h) ⊎ (g ≡ h → ⊥) → len_of s h ≤ len_of (with_row a g f) h
  unfolding len_of list_of row_of with_row
  lens_row a g f m k h (inl e) =
      subst (λ z. len_of s z ≤ len_of (with_row a g f) z) e (subst (λ (row : GroupRow). len_of s g ≤ len_in row.list) (sym (row_here g f m.name a k.orderly.order)) (let x = k.lens g in let y = m.len (row_of a g) in omega (arith, x, y)))
  lens_row a g f m k h (inr ne) = subst (λ (row : GroupRow). len_of s h ≤ len_in row.list) (sym (row_there g f m.name a h ne)) (k.lens h)

  pub onward_alike : (a b : Core) → b.groups ≡ a.groups → b.views ≡ a.views → b.config ≡ a.config → Onward s a → Onward s b
  unfolding len_of list_of row_of
  onward_alike a b same v c k =
      record { orderly = alike a b same k.orderly; bones = ap bones_of same ∙ k.bones; views = v ∙ k.views; config = c ∙ k.config; lens = λ h. len_alike a b same h (k.lens h) }

  pub onward_row : (a : Core) (g : List ℕ) (f : GroupRow → GroupRow) → IsNamed s g → Grows f → Onward s a → Onward s (with_row a g f)
  unfolding with_row
  onward_row a g f ok m k =
      record { orderly = on_row g f (m.name, m.few) k.orderly; bones = bones_with g f m a.groups k.orderly.order (named_on s a g k ok) ∙ k.bones; views = k.views; config = k.config; lens = λ h. lens_row a g f m k h (cases_text g h) }

  pub onward_parts : KeepsParts (Onward s) (IsNamed s)
  unfolding send_on put recorded with_sessions
  onward_parts =
      record {
        sends = λ a network to b spoken k. onward_alike a (send_on a network to b) refl refl refl k;
        puts = λ a g e ok k. onward_alike (with_row a g _) (put a g e) refl refl refl (onward_row a g _ ok (put_grows a.views.view e) k);
        hears = λ a g before after e bs x i h k. onward_alike a (recorded a (happened.Heard x.provider a.views.view g i e after.members after.value)) refl refl refl k;
        casts = λ a p proto phase vote value message k. onward_alike a (recorded a (happened.Cast p proto phase vote value message)) refl refl refl k;
        handed = λ a g before after e bs k. onward_alike a (with_sessions a (handed_on a.sessions g before after e bs)) refl refl refl k;
      }

  pub keeps_onward : Keeps (Onward s) (IsNamed s)
  unfolding keep_decision with_led recorded
  keeps_onward =
      record {
        row = λ a g f ok mild k. onward_row a g f ok (mild_grows f mild) k;
        decides = λ a g q r y ok fair k. onward_row a g _ ok (led_grows _ (λ l w. w)) k;
        sends = onward_parts.sends;
        notes = λ a n client v place t k. onward_alike a (recorded a (happened.Noted n client v place t)) refl refl refl k;
        hands = on_hands (Onward s) (IsNamed s) onward_parts;
      }

-- ---- what is led

abbrev pub leads_bone : Config → Views → List ℕ × Option ℕ → Bool
leads_bone c v b = is_this v.me (leader_by c.mode v.view.coord b.1)

led_bones : (s : Core) (rows : List GroupRow) → map (λ (row : GroupRow). row.name) (filter (leads_in s) rows) ≡ names_of (filter (leads_bone s.config s.views) (bones_of rows))
unfolding leads_in leader_in
led_bones s [] = refl
led_bones s (row ∷ rows) = by (leads_bone s.config s.views (row.name, row.leader)) (led_bones s rows)
  where
    by : (b : Bool) → map (λ (row : GroupRow). row.name) (filter (leads_in s) rows) ≡ names_of (filter (leads_bone s.config s.views) (bones_of rows)) → map (λ (row : GroupRow). row.name) (cond b (row ∷ filter (leads_in s) rows) (filter (leads_in s) rows)) ≡ names_of (cond b ((row.name, row.leader) ∷ filter (leads_bone s.config s.views) (bones_of rows)) (filter (leads_bone s.config s.views) (bones_of rows)))
    by true e = ap (λ ns. row.name ∷ ns) e
    by false e = e

pub led_same : (s t : Core) → bones_of t.groups ≡ bones_of s.groups → t.views ≡ s.views → t.config ≡ s.config → led_groups t ≡ led_groups s
unfolding led_groups
led_same s t b v c = led_bones t t.groups ∙ (λ i. names_of (filter (leads_bone (c i) (v i)) (b i))) ∙ sym (led_bones s s.groups)

pub led_named : (s : Core) (g : List ℕ) → Has g (led_groups s) → IsNamed s g
unfolding led_groups
led_named s g i =
    let a = has_map (λ (row : GroupRow). row.name) g (filter (leads_in s) s.groups) i in
    let b = has_filter (leads_in s) a.0 s.groups a.1 in
    subst (λ z. IsNamed s z) (sym a.2) (row_named s.groups a.0 b.0)
  where
    row_named : (rows : List GroupRow) (row : GroupRow) → Has row rows → Has row.name (names_of (bones_of rows))
    row_named [] row h = absurd h
    row_named (x ∷ rows) row (inl e) = inl (ap (λ (z : GroupRow). z.name) e)
    row_named (x ∷ rows) row (inr h) = inr (row_named rows row h)

pub led_few : (s : Core) → length (led_groups s) ≤ length s.groups
unfolding led_groups
led_few s = few s.groups
  where
    few : (rows : List GroupRow) → length (map (λ (row : GroupRow). row.name) (filter (leads_in s) rows)) ≤ length rows
    few [] = omega arith
    few (row ∷ rows) = by (leads_in s row) (few rows)
      where
        by : (b : Bool) → length (map (λ (row : GroupRow). row.name) (filter (leads_in s) rows)) ≤ length rows → length (map (λ (row : GroupRow). row.name) (cond b (row ∷ filter (leads_in s) rows) (filter (leads_in s) rows))) ≤ length (row ∷ rows)
        by true h = omega (arith, h)
        by false h = omega (arith, h)
