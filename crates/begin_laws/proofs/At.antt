-- In the middle of a step: what the node put began as is meant, or was put before; and, where that is claimed, the states that its
-- lists have are those of its records.
use Rattle.std.proofs.Common.{◌≡◌, ◌⊎◌, ℕ, List, [], ◌∷◌, ◌++◌, Option, Some, Bool, true, refl, sym, ◌∙◌, subst}
use Rattle.std.specs.Prelude.{reverse}
use Rattle.std.proofs.lemmas.List.{reverse-append}
use Rattle.rsct_packet.specs.declared.ids.ViewId.{ViewId}
use Rattle.rsct_packet.specs.Search.{Has}
use Rattle.group_attr.specs.declared.attrs.Phases.{Phases}
use Rattle.proposal_core.specs.declared.entry.Entry.{Entry}
use Rattle.proposal_core.specs.declared.proposal.Proposal.{Proposal}
use Rattle.proposal_core.specs.Lists.{list_or_new, state_in, len_in, with_entry}
use Rattle.view_state.specs.declared.views.Views.{Views}
use Rattle.node_state.specs.declared.group.GroupRow.{GroupRow}
use Rattle.node_state.specs.declared.happened.Happened.{Happened}
use Rattle.node_state.specs.declared.happened.Happened.TheVariants as happened
use Rattle.node_state.specs.declared.state.Core.{Core}
use Rattle.node_state.specs.State.{InNameOrder, row_of, with_row, list_of, len_of, recorded}
use Rattle.node_state.specs.Leading.{put}
use Rattle.node_state.proofs.NameOrder.{KeepsName, rows_ordered}
use Rattle.world_model.specs.declared.event.Event.{Event}
use Rattle.run_safety.specs.Past.{History, earlier, state_now}
use Rattle.entry_laws.proofs.closing_rows.At.{found, StateIs, silent_state, state_pushed, state_beside, row_with}
use Rattle.entry_laws.proofs.closing_rows.Calms.{Silent}
use Rattle.entry_laws.proofs.closing_rows.Entered.{Since}
use Rattle.begin_laws.specs.Begins.{IsBegun, OfPhases}

-- the event that goes on, those before it, and whether what is put now counts: not what is put as a view is entered
pub record Course : Type 0 where
  pub what : Option Event
  pub before : History
  pub counts : Bool

-- with what was recorded so far
abbrev pub so_far : Option Event → List Happened → History → History
so_far o now before = record { event = o; records = now } ∷ before

-- in so many phases the node begins this
abbrev pub BegunBy : Option Event → List Happened → History → ℕ → ViewId → List ℕ → Phases → Proposal → Type 0
BegunBy o now before n v g phases x = IsBegun (so_far o now before) (state_now n v g (earlier now before)) g phases x

-- what is put begins as is meant, or someone put the entry there before
abbrev pub PutFact : Option Event → List Happened → History → ℕ → ViewId → List ℕ → ℕ → Entry → Type 0
PutFact o now before n v g i e = OfPhases (BegunBy o now before n v g) e ⊎ ((m : ℕ) × Has (happened.Put m v g i e) (earlier now before))

abbrev pub RecordFact : Option Event → List Happened → History → Happened → Type 0
RecordFact o now before (happened.Put n v g i e) = PutFact o now before n v g i e
RecordFact o now before _ = Unit {0}

-- of each put since the node entered a view
abbrev pub Facts : Course → List Happened → Type 0
Facts h now = Since (RecordFact h.what) now h.before

-- P: whether the states are claimed
pub record At (h : Course) (P : Type 0) (s : Core) : Type 0 where
  pub facts : h.counts ≡ true → Facts h (reverse s.records)
  pub order : P → InNameOrder s.groups
  pub states : P → (g : List ℕ) → StateIs s.views.me s.views.view g (found s g).list (earlier (reverse s.records) h.before)

silent_fact : (h : Course) (now : List Happened) (r : Happened) → Silent r → Facts h now → Facts h (r ∷ now)
silent_fact h now (happened.Put n v g i e) z k = absurd z
silent_fact h now (happened.In n v ms) z k = absurd z
silent_fact h now (happened.Base n v g old len st) z k = absurd z
silent_fact h now _ z k = (tt, k)

module _ (h : Course) (P : Type 0) where
  -- nothing changes of the lists, the views and the records
  pub at_same : (s t : Core) → t.groups ≡ s.groups → t.views ≡ s.views → t.records ≡ s.records → At h P s → At h P t
  at_same s t groups views records a =
      let y : At h P (record s { groups = t.groups; views = t.views; records = t.records }) = subst (λ (z : List GroupRow × Views × List Happened). At h P (record s { groups = z.0; views = z.1; records = z.2 })) (λ i. (sym groups i, sym views i, sym records i)) a in
      record { facts = y.facts; order = y.order; states = y.states }

  pub at_views : (s : Core) (v : Views) → v.me ≡ s.views.me → v.view ≡ s.views.view → At h P s → At h P (record s { views = v })
  at_views s v me view a =
      record { facts = a.facts; order = a.order; states = λ p g. subst (λ (z : ℕ × ViewId). StateIs z.0 z.1 g (found s g).list (earlier (reverse s.records) h.before)) (λ i. (sym me i, sym view i)) (a.states p g) }

  pub at_recorded : (s : Core) (r : Happened) → Silent r → At h P s → At h P (recorded s r)
  unfolding recorded
  at_recorded s r silent a =
      let turned : reverse (s.records ++ r ∷ []) ≡ r ∷ reverse s.records = reverse-append s.records (r ∷ []) in
      record {
        facts = λ c. subst (Facts h) (sym turned) (silent_fact h (reverse s.records) r silent (a.facts c));
        order = a.order;
        states = λ p. subst (λ rs. (k : List ℕ) → StateIs s.views.me s.views.view k (found s k).list (earlier rs h.before)) (sym turned) (λ k. silent_state s.views.me s.views.view k (found s k).list (earlier (reverse s.records) h.before) r silent (a.states p k));
      }

  -- a row changes, whose list has the same state and length
  pub at_row : (s : Core) (g : List ℕ) (f : GroupRow → GroupRow) → KeepsName f → ((y : GroupRow) → state_in (f y).list ≡ state_in y.list) → ((y : GroupRow) → len_in (f y).list ≡ len_in y.list) → At h P s → At h P (with_row s g f)
  unfolding with_row
  at_row s g f keeps states lens a =
      record {
        facts = a.facts;
        order = λ p. rows_ordered g f keeps s (a.order p);
        states = λ p. row_with (λ k row. StateIs s.views.me s.views.view k row.list (earlier (reverse s.records) h.before)) s g f keeps (a.order p) (let b = a.states p g in record { state = states (found s g) ∙ b.state; len = lens (found s g) ∙ b.len }) (λ k ne. a.states p k);
      }

  -- an entry is put at the end of a list
  pub at_put : (s : Core) (g : List ℕ) (e : Entry) → (h.counts ≡ true → PutFact h.what (reverse s.records) h.before s.views.me s.views.view g (len_in (found s g).list) e) → At h P s → At h P (put s g e)
  unfolding put recorded with_row row_of len_of list_of
  at_put s g e fact a =
      record {
        facts = λ c. subst (Facts h) (sym turned) (fact c, a.facts c);
        order = λ p. rows_ordered g (λ row. record row { list = Some (with_entry (list_or_new row.list) s.views.view e) }) (λ x. refl) s (a.order p);
        states = λ p. subst (λ rs. (k : List ℕ) → StateIs s.views.me s.views.view k (found (with_row s g (λ row. record row { list = Some (with_entry (list_or_new row.list) s.views.view e) })) k).list (earlier rs h.before)) (sym turned) (new p);
      }
    where
      r : Happened
      r = happened.Put s.views.me s.views.view g (len_in (found s g).list) e

      turned : reverse (s.records ++ r ∷ []) ≡ r ∷ reverse s.records
      turned = reverse-append s.records (r ∷ [])

      new : P → (k : List ℕ) → StateIs s.views.me s.views.view k (found (with_row s g (λ row. record row { list = Some (with_entry (list_or_new row.list) s.views.view e) })) k).list (r ∷ earlier (reverse s.records) h.before)
      new p =
          row_with (λ k row. StateIs s.views.me s.views.view k row.list (r ∷ earlier (reverse s.records) h.before)) s g (λ row. record row { list = Some (with_entry (list_or_new row.list) s.views.view e) }) (λ x. refl) (a.order p) (state_pushed s.views.me s.views.view g (found s g).list (earlier (reverse s.records) h.before) (len_in (found s g).list) e (a.states p g)) (λ k ne. state_beside s.views.me s.views.view k (found s k).list (earlier (reverse s.records) h.before) s.views.me s.views.view g (len_in (found s g).list) e ne (a.states p k))
