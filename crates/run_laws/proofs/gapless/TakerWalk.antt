-- The walk over a step, of what depends on a node's view, lists, sessions and records alone.
use Rattle.std.proofs.Common.{◌≡◌, ◌⊎◌, ℕ, List, ◌∙◌, Option, Some, refl, sym, ap, subst, inl, inr}
use Rattle.rsct_packet.specs.declared.ids.ProviderId.{ProviderId}
use Rattle.proposal_core.specs.declared.entry.Entry.{Entry}
use Rattle.proposal_core.specs.Lists.{len_in, state_in}
use Rattle.client_callbacks.specs.declared.told.Why.{Why}
use Rattle.client_callbacks.specs.declared.told.Why.TheVariants.{Dissolved}
use Rattle.client_callbacks.specs.declared.ballot.Filled.{Filled}
use Rattle.session_state.specs.State.{outstanding}
use Rattle.session_state.specs.HandOn.{take_telling}
use Rattle.view_state.specs.declared.install.Install.{Install}
use Rattle.view_state.specs.Bases.{bases_of}
use Rattle.node_state.specs.declared.group.GroupRow.{GroupRow}
use Rattle.node_state.specs.declared.group.Led.{Led}
use Rattle.node_state.specs.declared.happened.Happened.{Happened}
use Rattle.node_state.specs.declared.happened.Happened.TheVariants as happened
use Rattle.node_state.specs.declared.packet.Body.TheVariants as body
use Rattle.node_state.specs.declared.state.Core.{Core}
use Rattle.node_state.specs.State.{InNameOrder, row_of, list_of, with_row, with_led, set_leader, state_of, len_of, recorded, with_sessions}
use Rattle.node_state.specs.HandOn.{Answering}
use Rattle.node_state.specs.Leading.{put}
use Rattle.node_state.specs.Deciding.{keep_decision, wait_join}
use Rattle.node_state.specs.Applying.{number_of, view_entered, dissolved}
use Rattle.node_state.specs.Step.{NodeEvent, stepped, at_work}
use Rattle.node_state.proofs.NameOrder.{KeepsName, cases_text, row_here, row_there, rows_ordered}
use Rattle.row_laws.specs.hearing.Changes.{Same, handing}
use Rattle.row_laws.proofs.hearing.Changes.{Sends, same_sends, sends_on, sends_all, put_order}
use Rattle.row_laws.proofs.failed_rows.Origin.{root_of}
use Rattle.run_laws.proofs.ring_runs.Staying.{stays_in}
use Rattle.step_walk.proofs.Changes.{Whatever, put_sent, viewing, KeepsRing, KeepsRings, KeepsRules, KeepsViews}
use Rattle.step_walk.proofs.Ringing.{by_ring}
use Rattle.step_walk.proofs.Walking.{whatever}
use Rattle.step_walk.proofs.Walking as walking

-- a record of a step beside entering, bases, puts, what is heard and what is told
abbrev pub Fine : Happened → Type 0
Fine (happened.Ring n k i ms o) = Unit {0}
Fine (happened.Cast p proto phase vote value message) = Unit {0}
Fine (happened.Noted n c v i told) = Unit {0}
Fine (happened.Shown n line) = Unit {0}
Fine _ = ⊥

-- the view, the lists, the sessions and what was recorded stay, and so does the order of the rows
pub record Alike (s t : Core) : Type 0 where
  pub same : Same s t
  pub order : InNameOrder s.groups → InNameOrder t.groups

-- what is said of a node in the middle of a step does not depend on more than these
pub record Keeps (P : Core → Type 0) : Type 0 where
  pub order : (s : Core) → P s → InNameOrder s.groups
  pub alike : (s t : Core) → Alike s t → P s → P t
  pub records : (s : Core) (r : Happened) → Fine r → P s → P (recorded s r)
  pub tells : (s : Core) (p : ProviderId) (r : ℕ) (y : Why) → P s → P (recorded (with_sessions s (take_telling s.sessions p r y)) (happened.Told p r y))
  pub hands : (s c : Core) (h : List ℕ) (e : Entry) (bs : List (Option Filled)) → Same (put s h e) c → InNameOrder c.groups → P s → P (handing c h (len_of s h) (state_of s h) (state_of (put s h e) h) e bs)
  pub enters : (s : Core) (i : Install) → P s → P (view_entered s i (bases_of i))

module _ (P : Core → Type 0) (k : Keeps P) where
  -- nothing but what is sent changes
  on_sends : {s t : Core} → Sends s t → P s → P t
  on_sends {s} {t} e p = k.alike s t (record { same = same_sends s t e; order = subst InNameOrder (sym e.groups) }) p

  on_row : {s : Core} (g : List ℕ) (f : GroupRow → GroupRow) → KeepsName f → ((row : GroupRow) → len_in (f row).list ≡ len_in row.list) → ((row : GroupRow) → state_in (f row).list ≡ state_in row.list) → P s → P (with_row s g f)
  unfolding len_of state_of list_of with_row
  on_row {s} g f keeps lens states p =
      k.alike s (with_row s g f) (record { same = record { me = refl; inc = refl; view = refl; sessions = refl; records = refl; lens = λ h. by (λ (row : GroupRow). len_in row.list) lens h (cases_text g h); states = λ h. by (λ (row : GroupRow). state_in row.list) states h (cases_text g h) }; order = rows_ordered g f keeps s }) p
    where
      by : {A : Type 0} (F : GroupRow → A) → ((row : GroupRow) → F (f row) ≡ F row) → (h : List ℕ) → (g ≡ h) ⊎ (g ≡ h → ⊥) → F (row_of (with_row s g f) h) ≡ F (row_of s h)
      by F same h (inl e) = subst (λ z. F (row_of (with_row s g f) z) ≡ F (row_of s z)) e (ap F (row_here g f keeps s (k.order s p)) ∙ same (row_of s g))
      by F same h (inr ne) = ap F (row_there g f keeps s h ne)

  on_led : {s : Core} (g : List ℕ) (f : Led → Led) → P s → P (with_led s g f)
  unfolding with_led
  on_led g f p = on_row g (λ row. record row { led = f row.led }) (λ x. refl) (λ row. refl) (λ row. refl) p

  on_hands : (s : Core) (g : List ℕ) (e : Entry) (ns : List ℕ) (stable : ℕ) (bs : List (Option Filled)) → P s → P (handing (put_sent s g e ns stable) g (len_of s g) (state_of s g) (state_of (put s g e) g) e bs)
  on_hands s g e ns stable bs p =
      let t : Core = put s g e in
      let sends : Sends t (put_sent s g e ns stable) = sends_all t ns (body.Entry t.views.view g (len_of s g) stable e) in
      k.hands s (put_sent s g e ns stable) g e bs (same_sends t (put_sent s g e ns stable) sends) (subst InNameOrder (sym sends.groups) (put_order s g e (k.order s p))) p

  pub taker_rules : KeepsRules P Whatever
  unfolding keep_decision wait_join set_leader
  taker_rules =
      record {
        keeps = record {
          row = λ s g f ok mild p. on_row g f mild.name mild.len mild.state p;
          decides = λ s g q r y ok fair p. on_led g _ p;
          sends = λ s network to b spoken p. on_sends (sends_on s network to b) p;
          notes = λ s n c v place t p. k.records s (happened.Noted n c v place t) tt p;
          hands = λ s g e ns stable bs ok p. on_hands s g e ns stable bs p;
        };
        names = λ s ns p. on_sends {s = s} {t = record s { names = ns }} (record { groups = refl; views = refl; sessions = refl; records = refl }) p;
        reach = λ s x p. on_sends {s = s} {t = record s { reach = x }} (record { groups = refl; views = refl; sessions = refl; records = refl }) p;
        leads = λ s g n p. on_row g (λ row. record row { leader = Some n }) (λ x. refl) (λ row. refl) (λ row. refl) p;
        joins = λ s g q r a e p. on_led g _ (on_led g _ p);
        tells = λ s q r y telling e p. k.tells s q r y p;
      }

  pub taker_rings : KeepsRings P Whatever
  taker_rings = by_ring P Whatever taker_rules ring
    where
      ring : KeepsRing P
      ring = record {
        rings = λ s rs p. on_sends {s = s} {t = record s { rings = rs }} (record { groups = refl; views = refl; sessions = refl; records = refl }) p;
        sends = λ s network to x p. on_sends (sends_on s network to (body.Ring x)) p;
        records = λ s n network id ms b p. k.records s (happened.Ring n network id ms b) tt p;
      }

  taker_views : KeepsViews P
  unfolding dissolved len_of state_of list_of row_of
  taker_views =
      record {
        views = λ s v p. (let stays = stays_in s v in k.alike s (record s { views = (viewing s v).views }) (record { same = record { me = stays.0; inc = stays.2; view = stays.1; sessions = refl; records = refl; lens = λ h. refl; states = λ h. refl }; order = λ o. o }) p);
        enters = λ s i p. k.enters s i p;
        dissolves = λ s q x e p. k.tells s x.provider (number_of (outstanding s.sessions x.provider)) Dissolved p;
      }

  -- what holds after the call of a step, or before any other step, holds after it
  pub on_stepped : (f : Answering) (s : Core) (e : NodeEvent) → P (root_of (at_work s) e) → P (stepped f s e)
  on_stepped f s e p = walking.on_stepped P Whatever taker_rules taker_rings taker_views f s e (whatever e) p
