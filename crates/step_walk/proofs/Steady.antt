-- While a node leads, which groups it leads stays: so what keeps each change with the evidence that its group is led keeps
-- each change of the groups that were led before.
use Rattle.std.proofs.Common.{◌≡◌, ◌⊎◌, ◌∙◌, ℕ, List, [], ◌∷◌, Option, Some, Bool, refl, ap, subst, inl, inr, ⊎_elim}
use Rattle.group_attr.specs.declared.attrs.Phases.{Phases}
use Rattle.proposal_core.specs.declared.proposal.Proposal.{Proposal}
use Rattle.rsct_packet.specs.Search.{Has}
use Rattle.proposal_core.specs.declared.entry.Entry.{Entry}
use Rattle.proposal_core.specs.Lists.{list_or_new, with_entry}
use Rattle.client_callbacks.specs.declared.ballot.Filled.{Filled}
use Rattle.node_state.specs.declared.group.GroupRow.{GroupRow}
use Rattle.node_state.specs.declared.packet.Body.{Body}
use Rattle.node_state.specs.declared.packet.Body.TheVariants as body
use Rattle.node_state.specs.declared.state.Core.{Core}
use Rattle.node_state.specs.State.{InNameOrder, row_of, with_row, with_led, len_of, is_this, leader_by, leader_in, leads_in, leads, led_groups, recorded, recorded_all, with_sessions}
use Rattle.node_state.specs.Sending.{sent, send_on, send_all}
use Rattle.node_state.specs.Leading.{put, tally_set, tally_opened}
use Rattle.node_state.specs.Deciding.{keep_decision}
use Rattle.node_state.proofs.NameOrder.{KeepsName, cases_text, row_here, row_there, led_are_led}
use Rattle.step_walk.proofs.Evidence.{IsLed, delivered, KeepsBeside, KeepsLed, KeepsEnding, Keeping}

-- ---- who leads

-- what keeps names and leaders of rows
leads_row : (s : Core) (g : List ℕ) (f : GroupRow → GroupRow) → KeepsName f → ((row : GroupRow) → (f row).leader ≡ row.leader) → InNameOrder s.groups → (h : List ℕ) → leads (with_row s g f) h ≡ leads s h
unfolding leads leads_in leader_in with_row
leads_row s g f name leader o h = by (cases_text g h)
  where
    lead : Option ℕ → Bool
    lead k = is_this s.views.me (leader_by s.config.mode s.views.view.coord k)

    here : lead (row_of (with_row s g f) g).leader ≡ lead (row_of s g).leader
    here = ap (λ (row : GroupRow). lead row.leader) (row_here g f name s o) ∙ ap lead (leader (row_of s g))

    by : (g ≡ h) ⊎ (g ≡ h → ⊥) → lead (row_of (with_row s g f) h).leader ≡ lead (row_of s h).leader
    by (inl e) = subst (λ z. lead (row_of (with_row s g f) z).leader ≡ lead (row_of s z).leader) e here
    by (inr ne) = ap (λ (row : GroupRow). lead row.leader) (row_there g f name s h ne)

leads_sent : (ns : List ℕ) (s : Core) (b : Body) (h : List ℕ) → leads (send_all s ns b) h ≡ leads s h
unfolding leads leads_in leader_in row_of send_all sent send_on
leads_sent [] s b h = refl
leads_sent (n ∷ ns) s b h = leads_sent ns (sent s n b) b h

pub leads_delivered : (s : Core) (g : List ℕ) (e : Entry) (ns : List ℕ) (stable : ℕ) (bs : List (Option Filled)) → InNameOrder s.groups → (h : List ℕ) → leads (delivered s g e ns stable bs) h ≡ leads s h
unfolding leads leads_in leader_in row_of put recorded recorded_all with_sessions
leads_delivered s g e ns stable bs o h =
    leads_sent ns (put s g e) (body.Entry (put s g e).views.view g (len_of s g) stable e) h ∙ leads_row s g (λ row. record row { list = Some (with_entry (list_or_new row.list) s.views.view e) }) (λ row. refl) (λ row. refl) o h

-- the node leads what it led, unless that is not asked
abbrev pub AsLed : Type 0 → Core → Core → Type 0
AsLed Unasked s t = ((h : List ℕ) → leads t h ≡ leads s h) ⊎ Unasked

abbrev pub Steady : (Core → Type 0) → Type 0 → Core → Core → Type 0
Steady P Unasked s t = P t × AsLed Unasked s t

pub begun : (P : Core → Type 0) (Unasked : Type 0) (s : Core) → P s → Steady P Unasked s s
begun P Unasked s p = (p, inl (λ h. refl))

module _ (Unasked : Type 0) (s : Core) where
  -- so it leads now what it led
  pub led_now : (t : Core) (g : List ℕ) → IsLed Unasked s g → AsLed Unasked s t → IsLed Unasked t g
  led_now t g (inl led) (inl same) = inl (same g ∙ led)
  led_now t g (inr u) same = inr u
  led_now t g ok (inr u) = inr u

  pub as_row : (t : Core) (g : List ℕ) (f : GroupRow → GroupRow) → KeepsName f → ((row : GroupRow) → (f row).leader ≡ row.leader) → InNameOrder t.groups ⊎ Unasked → AsLed Unasked s t → AsLed Unasked s (with_row t g f)
  as_row t g f name leader (inl o) (inl same) = inl (λ h. leads_row t g f name leader o h ∙ same h)
  as_row t g f name leader (inr u) same = inr u
  as_row t g f name leader o (inr u) = inr u

  pub as_delivered : (t : Core) (g : List ℕ) (e : Entry) (ns : List ℕ) (stable : ℕ) (bs : List (Option Filled)) → InNameOrder t.groups ⊎ Unasked → AsLed Unasked s t → AsLed Unasked s (delivered t g e ns stable bs)
  as_delivered t g e ns stable bs (inl o) (inl same) = inl (λ h. leads_delivered t g e ns stable bs o h ∙ same h)
  as_delivered t g e ns stable bs (inr u) same = inr u
  as_delivered t g e ns stable bs o (inr u) = inr u

  as_sent : (t : Core) (network to : ℕ) (b : Body) → AsLed Unasked s t → AsLed Unasked s (send_on t network to b)
  unfolding leads leads_in leader_in row_of send_on
  as_sent t network to b same = same

  pub steadily : (P : Core → Type 0) → ((t : Core) → P t → InNameOrder t.groups ⊎ Unasked) → (Ok : List ℕ → Type 0) → KeepsBeside P (λ g. Unit {0}) → KeepsBeside (Steady P Unasked s) Ok
  unfolding leads leads_in leader_in row_of recorded
  steadily P order Ok b =
      record {
        row = λ t g f ok aside p. (b.row t g f tt aside p.0, as_row t g f aside.mild.name aside.mild.leader (order t p.0) p.1);
        sends = λ t network to x saying p. (b.sends t network to x saying p.0, as_sent t network to x p.1);
        notes = λ t n client v place told p. (b.notes t n client v place told p.0, p.1);
      }

module _ (P : Core → Type 0) (Between : List ℕ → Core → Type 0) (Begun : Core → List ℕ → Phases → Proposal → Type 0) (Unasked : Type 0) (k : Keeping P Between Begun Unasked) (s : Core) where
  pub are_led : P s → (g : List ℕ) → Has g (led_groups s) → IsLed Unasked s g
  are_led p g i = ⊎_elim (λ (o : InNameOrder s.groups). inl (led_are_led s g o i)) (λ (u : Unasked). inr u) (k.order s p)

  pub steady_beside : KeepsBeside (Steady P Unasked s) (IsLed Unasked s)
  steady_beside = steadily Unasked s P k.order (IsLed Unasked s) k.beside

  pub steady_between : (g : List ℕ) → KeepsBeside (Steady (Between g) Unasked s) (IsLed Unasked s)
  steady_between g = steadily Unasked s (Between g) (k.order_between g) (IsLed Unasked s) (k.between g)

  pub steady_led : KeepsLed (Steady P Unasked s) (λ g. Steady (Between g) Unasked s) Begun (λ t. IsLed Unasked s)
  unfolding keep_decision tally_set tally_opened with_led
  steady_led =
      record {
        decides = λ t g q r y ok fair p. (k.led.decides t g q r y (led_now Unasked s t g ok p.1) fair p.0, as_row Unasked s t g _ (λ row. refl) (λ row. refl) (k.order t p.0) p.1);
        puts = λ t g e ns stable bs ok fits plain p. (k.led.puts t g e ns stable bs (led_now Unasked s t g ok p.1) fits plain p.0, as_delivered Unasked s t g e ns stable bs (k.order t p.0) p.1);
        turns = λ t g e ns stable bs ok fits turning p. (k.led.turns t g e ns stable bs (led_now Unasked s t g ok p.1) fits turning p.0, as_delivered Unasked s t g e ns stable bs (k.order t p.0) p.1);
        rests = λ t g ok p. (k.led.rests t g (led_now Unasked s t g ok p.1) p.0, as_row Unasked s t g _ (λ row. refl) (λ row. refl) (k.order_between g t p.0) p.1);
        opens = λ t g ok p. (k.led.opens t g (led_now Unasked s t g ok p.1) p.0, as_row Unasked s t g _ (λ row. refl) (λ row. refl) (k.order_between g t p.0) p.1);
      }

-- what begins is as it is where the node need not lead on
pub steady_ending : (P : Core → Type 0) (Begun : Core → List ℕ → Phases → Proposal → Type 0) (Unasked : Type 0) (s : Core) → KeepsEnding P Begun → KeepsEnding (Steady P Unasked s) Begun
steady_ending P Begun Unasked s ends =
    record {
      fails = λ t g p. ends.fails t g p.0;
      casts_out = λ t g h out from due p. ends.casts_out t g h out from due p.0;
      reflects = λ t g h v i from due p. ends.reflects t g h v i from due p.0;
      joins = λ t g p q. ends.joins t g p.0 q.0;
    }
