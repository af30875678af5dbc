-- In the middle of a step: what the node put follows from its sources, or was put before; it holds what waits and who was looked
-- up; and, where that is claimed, the states that its lists have are those of its records.
use Rattle.std.proofs.Common.{◌≡◌, ◌⊎◌, ℕ, List, [], ◌∷◌, ◌++◌, take, Option, Some, refl, sym, ap, ◌∙◌, subst}
use Rattle.std.specs.Prelude.{reverse}
use Rattle.std.proofs.lemmas.List.{reverse-append}
use Rattle.rsct_packet.specs.declared.ids.ViewId.{ViewId}
use Rattle.rsct_packet.specs.Search.{Has}
use Rattle.proposal_core.specs.declared.proposal.Proposal.{Proposal}
use Rattle.proposal_core.specs.declared.proposal.Proposal.TheVariants.{Join, Leave, Fail, Expel, State, Message, Attributes, Reflect}
use Rattle.proposal_core.specs.declared.entry.Entry.{Entry}
use Rattle.proposal_core.specs.GroupView.{GroupView}
use Rattle.proposal_core.specs.Lists.{list_or_new, state_in, len_in, with_entry}
use Rattle.name_server.specs.declared.names.Leader.{Leader}
use Rattle.view_state.specs.declared.views.Views.{Views}
use Rattle.node_state.specs.declared.group.GroupRow.{GroupRow}
use Rattle.node_state.specs.declared.happened.Happened.{Happened}
use Rattle.node_state.specs.declared.happened.Happened.TheVariants as happened
use Rattle.node_state.specs.declared.packet.Packet.{Packet}
use Rattle.node_state.specs.declared.state.Core.{Core}
use Rattle.node_state.specs.State.{InNameOrder, row_of, with_row, list_of, len_of, recorded}
use Rattle.node_state.specs.Leading.{put}
use Rattle.world_model.specs.declared.event.Event.{Event}
use Rattle.run_safety.specs.Past.{History, records_of, earlier, puts_of, base_of, fold_from, state_at}
use Rattle.node_state.proofs.NameOrder.{KeepsName, rows_ordered}
use Rattle.entry_laws.proofs.closing_rows.At.{found, StateIs, silent_state, take_all, state_pushed, state_beside, row_with}
use Rattle.entry_laws.proofs.closing_rows.Entered.{Since}
use Rattle.entry_laws.proofs.source_order.Holding.{Turn, Holds, Fewer, fewer_self, holds_row, holds_same, holds_recorded}
use Rattle.entry_laws.specs.source_order.Sources.{OfBegun, Rises, CarriesLength, BegunFirst}
use Rattle.entry_laws.proofs.closing_rows.Calms.{Silent, Calm}
use Rattle.entry_laws.proofs.closing_rows.Quiet.{KeepsQuiet}

-- ---- what is recorded

-- a proposal that begins at a place of the node's list
abbrev pub BegunWell : History → ℕ → ViewId → List ℕ → ℕ → Proposal → Type 0
BegunWell h n v g i x = Rises (state_at n v g i (records_of h)) x × CarriesLength x × BegunFirst h n v g x

abbrev pub PutWell : History → ℕ → ViewId → List ℕ → ℕ → Entry → Type 0
PutWell h n v g i e = OfBegun (BegunWell h n v g i) e

-- neither a join nor a reflection
abbrev pub Plain : Proposal → Type 0
Plain (Join ps a len) = ⊥
Plain (Reflect v i value) = ⊥
Plain _ = Unit {0}

pub plain_well : (h : History) (n : ℕ) (v : ViewId) (g : List ℕ) (i : ℕ) (x : Proposal) → Plain x → BegunWell h n v g i x
plain_well h n v g i (Join ps a len) z = absurd z
plain_well h n v g i (Reflect u k value) z = absurd z
plain_well h n v g i (Leave p r) z = (tt, tt, tt)
plain_well h n v g i (Fail out) z = (tt, tt, tt)
plain_well h n v g i (Expel p r out) z = (tt, tt, tt)
plain_well h n v g i (State p r value) z = (tt, tt, tt)
plain_well h n v g i (Message p r bytes) z = (tt, tt, tt)
plain_well h n v g i (Attributes p r a) z = (tt, tt, tt)

-- what is put follows from the source, or someone put the entry there before; the event is given
abbrev pub PutFact : Option Event → List Happened → History → ℕ → ViewId → List ℕ → ℕ → Entry → Type 0
PutFact o now h n v g i e =
    PutWell (record { event = o; records = now } ∷ h) n v g i e ⊎ ((m : ℕ) × Has (happened.Put m v g i e) (earlier now h))

abbrev pub RecordFact : Option Event → List Happened → History → Happened → Type 0
RecordFact o now h (happened.Put n v g i e) = PutFact o now h n v g i e
RecordFact o now h _ = Unit {0}

-- of each put since the node entered a view
abbrev pub Facts : Turn → List Happened → Type 0
Facts x now = Since (RecordFact x.what) now x.before

-- P: whether the states are claimed
pub record At (x : Turn) (P : Type 0) (s : Core) : Type 0 where
  pub facts : Facts x (reverse s.records)
  pub holds : Holds x s
  pub sends : (p : Packet) → Has p x.sent → Has p s.sends
  pub order : P → InNameOrder s.groups
  pub states : P → (g : List ℕ) → StateIs s.views.me s.views.view g (found s g).list (earlier (reverse s.records) x.before)

silent_fact : (x : Turn) (now : List Happened) (r : Happened) → Silent r → Facts x now → Facts x (r ∷ now)
silent_fact x now (happened.Put n v g i e) z k = absurd z
silent_fact x now (happened.In n v ms) z k = absurd z
silent_fact x now (happened.Base n v g old len st) z k = absurd z
silent_fact x now _ z k = (tt, k)

-- the state of the whole list is that of all its entries
pub state_whole : (n : ℕ) (v : ViewId) (g : List ℕ) (l : Option GroupView) (rs : List Happened) → StateIs n v g l rs → state_at n v g (len_in l) rs ≡ state_in l
state_whole n v g l rs k =
    let all : take (len_in l) (puts_of n v g rs) ≡ puts_of n v g rs = ap (λ i. take i (puts_of n v g rs)) k.len ∙ take_all (puts_of n v g rs) in
    ap (fold_from v (base_of n v g rs) 0) all ∙ sym k.state

module _ (x : Turn) (P : Type 0) where
  -- the entry is put at the end of a list
  pub at_put : (s : Core) (g : List ℕ) (e : Entry) → PutFact x.what (reverse s.records) x.before s.views.me s.views.view g (len_in (found s g).list) e → At x P s → At x P (put s g e)
  unfolding put recorded with_row row_of len_of list_of
  at_put s g e fact a =
      record {
        facts = subst (Facts x) (sym turned) (fact, a.facts);
        holds = holds_recorded x (with_row s g (λ row. record row { list = Some (with_entry (list_or_new row.list) s.views.view e) })) r (holds_row x s g (λ row. record row { list = Some (with_entry (list_or_new row.list) s.views.view e) }) (λ y. refl) (λ y. fewer_self y.led) a.holds);
        sends = a.sends;
        order = λ p. rows_ordered g (λ row. record row { list = Some (with_entry (list_or_new row.list) s.views.view e) }) (λ x. refl) s (a.order p);
        states = λ p. subst (λ rs. (k : List ℕ) → StateIs s.views.me s.views.view k (found (with_row s g (λ row. record row { list = Some (with_entry (list_or_new row.list) s.views.view e) })) k).list (earlier rs x.before)) (sym turned) (new p);
      }
    where
      r : Happened
      r = happened.Put s.views.me s.views.view g (len_in (found s g).list) e

      turned : reverse (s.records ++ r ∷ []) ≡ r ∷ reverse s.records
      turned = reverse-append s.records (r ∷ [])

      new : P → (k : List ℕ) → StateIs s.views.me s.views.view k (found (with_row s g (λ row. record row { list = Some (with_entry (list_or_new row.list) s.views.view e) })) k).list (r ∷ earlier (reverse s.records) x.before)
      new p =
          row_with (λ k row. StateIs s.views.me s.views.view k row.list (r ∷ earlier (reverse s.records) x.before)) s g (λ row. record row { list = Some (with_entry (list_or_new row.list) s.views.view e) }) (λ x. refl) (a.order p) (state_pushed s.views.me s.views.view g (found s g).list (earlier (reverse s.records) x.before) (len_in (found s g).list) e (a.states p g)) (λ k ne. state_beside s.views.me s.views.view k (found s k).list (earlier (reverse s.records) x.before) s.views.me s.views.view g (len_in (found s g).list) e ne (a.states p k))

  pub at_calm : (c d : Core) → Calm c d → At x P c → At x P d
  at_calm c d k a =
      let y : At x P (record c { groups = d.groups; views = d.views; names = d.names; records = d.records }) = subst (λ (z : List GroupRow × Views × List Leader × List Happened). At x P (record c { groups = z.0; views = z.1; names = z.2; records = z.3 })) (λ i. (sym k.groups i, sym k.views i, sym k.names i, sym k.records i)) a in
      record {
        facts = y.facts;
        holds = holds_same x (record c { groups = d.groups; views = d.views; names = d.names; records = d.records }) d refl refl refl refl (λ r h. h) y.holds;
        sends = λ p h. k.sends p (y.sends p h);
        order = y.order;
        states = y.states;
      }

  pub at_recorded : (s : Core) (r : Happened) → Silent r → At x P s → At x P (recorded s r)
  unfolding recorded
  at_recorded s r silent a =
      let turned : reverse (s.records ++ r ∷ []) ≡ r ∷ reverse s.records = reverse-append s.records (r ∷ []) in
      record {
        facts = subst (Facts x) (sym turned) (silent_fact x (reverse s.records) r silent a.facts);
        holds = holds_recorded x s r a.holds;
        sends = a.sends;
        order = a.order;
        states = λ p. subst (λ rs. (k : List ℕ) → StateIs s.views.me s.views.view k (found s k).list (earlier rs x.before)) (sym turned) (λ k. silent_state s.views.me s.views.view k (found s k).list (earlier (reverse s.records) x.before) r silent (a.states p k));
      }

  pub keeps_quiet : KeepsQuiet (At x P)
  keeps_quiet = record { calm = at_calm; silent = at_recorded }

  -- a row changes, whose list has the same state and length
  pub at_row_for : (s : Core) (g : List ℕ) (f : GroupRow → GroupRow) → KeepsName f → ((y : GroupRow) → state_in (f y).list ≡ state_in y.list) → ((y : GroupRow) → len_in (f y).list ≡ len_in y.list) → Holds x (with_row s g f) → At x P s → At x P (with_row s g f)
  unfolding with_row
  at_row_for s g f keeps states lens holds a =
      record {
        facts = a.facts;
        holds = holds;
        sends = a.sends;
        order = λ p. rows_ordered g f keeps s (a.order p);
        states = λ p. row_with (λ k row. StateIs s.views.me s.views.view k row.list (earlier (reverse s.records) x.before)) s g f keeps (a.order p) (let b = a.states p g in record { state = states (found s g) ∙ b.state; len = lens (found s g) ∙ b.len }) (λ k ne. a.states p k);
      }

  pub at_row : (s : Core) (g : List ℕ) (f : GroupRow → GroupRow) → KeepsName f → ((y : GroupRow) → state_in (f y).list ≡ state_in y.list) → ((y : GroupRow) → len_in (f y).list ≡ len_in y.list) → ((y : GroupRow) → Fewer y.led (f y).led) → At x P s → At x P (with_row s g f)
  at_row s g f keeps states lens fewer a = at_row_for s g f keeps states lens (holds_row x s g f keeps fewer a.holds) a

  -- where nothing more is claimed
  pub at_facts : (s : Core) → At x P s → At x ⊥ s
  at_facts s a = record { facts = a.facts; holds = a.holds; sends = a.sends; order = λ z. absurd z; states = λ z. absurd z }

  -- the coordinator's table changes
  pub at_table : (s : Core) (table : List Leader) → Holds x (record s { names = table }) → At x P s → At x P (record s { names = table })
  at_table s table holds a = record { facts = a.facts; holds = holds; sends = a.sends; order = a.order; states = a.states }
