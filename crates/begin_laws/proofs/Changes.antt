-- What each kind of change of a step keeps: that what is put begins as is meant.
use Rattle.std.proofs.Common.{◌≡◌, ℕ, List, [], ◌∷◌, ◌++◌, Option, Some, None, true, false, refl, sym, subst, inl, inr}
use Rattle.std.specs.Prelude.{◌==◌, map, reverse}
use Rattle.std.proofs.lemmas.List.{append-nil, append_assoc, reverse-append}
use Rattle.rsct_packet.specs.declared.ids.ViewId.{ViewId}
use Rattle.rsct_packet.specs.declared.ids.ProviderId.{ProviderId}
use Rattle.rsct_packet.specs.Search.{Has}
use Rattle.group_attr.specs.declared.attrs.Phases.{Phases}
use Rattle.proposal_core.specs.declared.entry.Entry.{Entry}
use Rattle.proposal_core.specs.declared.entry.Entry.TheVariants.{Once, Begin, Phase, Approve, Reject, Late}
use Rattle.proposal_core.specs.declared.proposal.Proposal.{Proposal}
use Rattle.proposal_core.specs.Fold.{joins_of}
use Rattle.proposal_core.specs.Lists.{len_in}
use Rattle.client_callbacks.specs.declared.ballot.Filled.{Filled}
use Rattle.client_callbacks.specs.declared.told.Why.{Why}
use Rattle.client_callbacks.specs.declared.told.Why.TheVariants.{Dissolved}
use Rattle.session_state.specs.State.{outstanding}
use Rattle.session_state.specs.HandOn.{take_telling}
use Rattle.session_state.specs.HandOn as session
use Rattle.view_state.specs.declared.install.Base.{Base}
use Rattle.view_state.specs.declared.install.Install.{Install}
use Rattle.view_state.specs.Bases.{bases_of}
use Rattle.view_state.specs.Views.{views_entered}
use Rattle.node_state.specs.declared.group.Led.{Led}
use Rattle.node_state.specs.declared.happened.Happened.{Happened}
use Rattle.node_state.specs.declared.happened.Happened.TheVariants as happened
use Rattle.node_state.specs.declared.packet.Body.TheVariants as body
use Rattle.node_state.specs.declared.packet.Packet.{Packet}
use Rattle.node_state.specs.declared.state.Core.{Core}
use Rattle.node_state.specs.State.{with_row, with_led, led_of, state_of, len_of, set_leader, recorded, recorded_all, with_sessions}
use Rattle.node_state.specs.Sending.{sent, send_on}
use Rattle.node_state.specs.Leading.{with_tally, tally_set, tally_opened}
use Rattle.node_state.specs.Deciding.{keep_decision, other_refusal, wait_join}
use Rattle.node_state.specs.Applying.{level_set, base_row, base_record, view_entered, number_of, dissolved}
use Rattle.node_state.specs.Step.{is_used}
use Rattle.run_safety.specs.Past.{earlier}
use Rattle.step_refinement.proofs.BaseOrder.{base_noted}
use Rattle.step_walk.proofs.Changes.{Any, viewing, KeepsRing}
use Rattle.step_walk.proofs.Evidence.{IsLed, Plain, Turning, delivered, KeepsBeside, KeepsLed, Keeping, KeepsPackets, KeepsEntering, KeepsCalling, KeepsDelivery}
use Rattle.step_walk.proofs.Delivering.{at_delivered}
use Rattle.step_walk.proofs.Leading.{Nothing}
use Rattle.entry_laws.proofs.closing_rows.At.{found}
use Rattle.entry_laws.proofs.carried_values.Changes.{viewing_stays}
use Rattle.entry_laws.proofs.source_order.Leading.{closing_closes}
use Rattle.begin_laws.specs.Begins.{OfPhases}
use Rattle.begin_laws.proofs.At.{Course, BegunBy, PutFact, Facts, At, at_same, at_views, at_recorded, at_row, at_put}

module _ (h : Course) where
  -- in so many phases the node begins this now
  abbrev pub Begun : Core → List ℕ → Phases → Proposal → Type 0
  Begun s g phases x = BegunBy h.what (reverse s.records) h.before s.views.me s.views.view g phases x

  plain_begins : (s : Core) (g : List ℕ) (e : Entry) → Plain Begun s g e → OfPhases (Begun s g) e
  plain_begins s g (Once x) k = k
  plain_begins s g (Late proto phase ps) k = tt
  plain_begins s g (Begin x) k = absurd k
  plain_begins s g (Phase c) k = absurd k
  plain_begins s g (Approve c) k = absurd k
  plain_begins s g (Reject c) k = absurd k

  turning_begins : (s : Core) (g : List ℕ) (e : Entry) → Turning Begun s g e → OfPhases (Begun s g) e
  turning_begins s g (Begin x) k = k
  turning_begins s g (Once x) k = absurd (closing_closes (led_of s g) (led_of s g).tally (state_of s g).running (Once x) k)
  turning_begins s g (Late proto phase ps) k = tt
  turning_begins s g (Phase c) k = tt
  turning_begins s g (Approve c) k = tt
  turning_begins s g (Reject c) k = tt

  -- what is known of a packet that is given to a node
  pub record Known (s : Core) (q : Packet) : Type 0 where
    pub entry : (v : ViewId) (g : List ℕ) (place stable : ℕ) (e : Entry) → q.body ≡ body.Entry v g place stable e → is_used s q v ≡ true → (place == len_of s g) ≡ true → (m : ℕ) × Has (happened.Put m s.views.view g (len_in (found s g).list) e) (earlier (reverse s.records) h.before)
    pub changes : (v : ViewId) (g : List ℕ) (p : ProviderId) (r : ℕ) (phases : Phases) (x : Proposal) → q.body ≡ body.Request v g p r phases x → is_used s q v ≡ true → joins_of x ≡ [] → other_refusal (set_leader s g s.views.me) g p x ≡ None → Begun (keep_decision (set_leader s g s.views.me) g p r None) g phases x

  module _ (P : Type 0) where
    abbrev pub Full : Core → Type 0
    Full s = At h P s

    pub beside : KeepsBeside Full Any
    unfolding send_on
    beside =
        record {
          row = λ s g f ok aside a. at_row h P s g f aside.mild.name aside.mild.state aside.mild.len a;
          sends = λ s network to b saying a. at_same h P s (send_on s network to b) refl refl refl a;
          notes = λ s n client v place t a. at_recorded h P s (happened.Noted n client v place t) tt a;
        }

    delivery : (g : List ℕ) (e : Entry) → KeepsDelivery Full g e
    unfolding send_on with_sessions
    delivery g e =
        record {
          sends = λ s network to v place stable a. at_same h P s (send_on s network to (body.Entry v g place stable e)) refl refl refl a;
          hears = λ s before after bs c i j a. at_recorded h P s (happened.Heard c.provider s.views.view g i e after.members after.value) tt a;
          casts = λ s p proto phase vote value message a. at_recorded h P s (happened.Cast p proto phase vote value message) tt a;
          handed = λ s before after bs kept a. at_same h P s (with_sessions s (session.handed_on s.sessions g before after e bs)) refl refl refl a;
        }

    pub delivers : (s : Core) (g : List ℕ) (e : Entry) (ns : List ℕ) (stable : ℕ) (bs : List (Option Filled)) → (h.counts ≡ true → PutFact h.what (reverse s.records) h.before s.views.me s.views.view g (len_in (found s g).list) e) → Full s → Full (delivered s g e ns stable bs)
    delivers s g e ns stable bs fact a = at_delivered Full g e (delivery g e) s ns stable bs (at_put h P s g e fact a)

    -- what a leader keeps changes
    at_led : (s : Core) (g : List ℕ) (f : Led → Led) → Full s → Full (with_led s g f)
    unfolding with_led
    at_led s g f a = at_row h P s g (λ row. record row { led = f row.led }) (λ x. refl) (λ x. refl) (λ x. refl) a

    led_by : (s : Core) (g : List ℕ) (n : ℕ) → Full s → Full (set_leader s g n)
    unfolding set_leader
    led_by s g n a = at_row h P s g (λ row. record row { leader = Some n }) (λ x. refl) (λ x. refl) (λ x. refl) a

    leading : KeepsLed Full (λ g. Full) Begun (IsLed Nothing)
    unfolding keep_decision tally_set tally_opened
    leading =
        record {
          decides = λ s g q r y ok fair a. at_led s g _ a;
          puts = λ s g e ns stable bs ok fits plain a. delivers s g e ns stable bs (λ c. inl (plain_begins s g e plain)) a;
          turns = λ s g e ns stable bs ok fits turning a. delivers s g e ns stable bs (λ c. inl (turning_begins s g e turning)) a;
          rests = λ s g ok a. at_led s g _ a;
          opens = λ s g ok a. at_led s g _ a;
        }

    pub keeping : Keeping Full (λ g. Full) Begun Nothing
    keeping = record { order = λ s a. inr tt; order_between = λ g s a. inr tt; beside = beside; between = λ g. beside; led = leading }

    -- ---- packets

    telling : (s : Core) (p : ProviderId) (r : ℕ) (y : Why) → Full s → Full (recorded (with_sessions s (take_telling s.sessions p r y)) (happened.Told p r y))
    unfolding with_sessions
    telling s p r y a =
        at_recorded h P (with_sessions s (take_telling s.sessions p r y)) (happened.Told p r y) tt (at_same h P s (with_sessions s (take_telling s.sessions p r y)) refl refl refl a)

    pub packets : KeepsPackets Full (λ g. Full) Begun Nothing Known
    unfolding wait_join keep_decision with_tally tally_opened tally_set
    packets =
        record {
          keeping = keeping;
          names = λ s ns a. at_same h P s (record s { names = ns }) refl refl refl a;
          reach = λ s x a. at_same h P s (record s { reach = x }) refl refl refl a;
          named = λ s g n e a. led_by s g n a;
          requested = λ s q v g p r phases x k to is used a. (led_by s g s.views.me a, inr tt);
          changes = λ s q v g p r phases x k to is used none fair. k.changes v g p r phases x is used none fair;
          joins = λ s g q r attrs e a. at_led (keep_decision s g q r None) g _ (at_led s g _ a);
          tells = λ s q r y telling_it numbered a. telling s q r y a;
          comes = λ s q v g place stable e bs k to is used at fits a. (delivers s g e [] 0 bs (λ c. inr (k.entry v g place stable e is used at)) a, inr tt);
          follows = λ s g n un a. led_by s g n a;
          casts = λ s q v g proto phase p vote value message k is led runs_it a. at_led s g _ a;
          fails = λ s g p t led e a. at_led s g _ a;
          ticks = λ s g led a. at_led s g _ a;
          reopens = λ s g led a. at_led s g _ a;
        }

    pub ring : KeepsRing Full
    unfolding send_on
    ring =
        record {
          rings = λ s rs a. at_same h P s (record s { rings = rs }) refl refl refl a;
          sends = λ s network to x a. at_same h P s (send_on s network to (body.Ring x)) refl refl refl a;
          records = λ s n network id members neighbour a. at_recorded h P s (happened.Ring n network id members neighbour) tt a;
        }

    pub calling : KeepsCalling Full
    unfolding with_sessions
    calling =
        record {
          sessions = λ s t less a. at_same h P s (with_sessions s t) refl refl refl a;
          refuses = λ s n client fault a. at_recorded h P s (happened.Refused n client fault) tt a;
          asks = λ s p r g x a. at_recorded h P s (happened.Asked p r g x) tt a;
          votes = λ s t m a. at_recorded h P (with_sessions s t) (happened.Cast m.ballot.provider m.ballot.proto m.ballot.phase m.filled.vote m.filled.value m.filled.message) tt (at_same h P s (with_sessions s t) refl refl refl a);
        }

  -- ---- views, where no states are claimed

  -- what is put now does not count
  abbrev pub loose : Course
  loose = record h { counts = false }

  any_loose : (s : Core) → At loose ⊥ s
  any_loose s = record { facts = λ c. absurd (cc); order = λ z. absurd z; states = λ z. absurd z }

  -- records of bases put nothing
  based_facts : (n : ℕ) (v : ViewId) (bs : List Base) (rs : List Happened) → Facts h (reverse rs) → Facts h (reverse (rs ++ map (base_noted n v) bs))
  based_facts n v [] rs k = subst (λ l. Facts h (reverse l)) (sym (append-nil rs)) k
  based_facts n v (b ∷ bs) rs k =
      subst (λ l. Facts h (reverse l)) (append_assoc rs (base_noted n v b ∷ []) (map (base_noted n v) bs)) (based_facts n v bs (rs ++ base_noted n v b ∷ []) (subst (Facts h) (sym (reverse-append rs (base_noted n v b ∷ []))) (tt, k)))

  at_view_entered : (s : Core) (i : Install) → Full ⊥ (view_entered s i (bases_of i))
  unfolding view_entered level_set base_record base_row views_entered with_sessions recorded_all
  at_view_entered s i =
      record {
        facts = λ c. subst (λ l. Facts h (reverse l)) (append_assoc s.records (enters ∷ []) (map (base_noted s.views.me i.view) (bases_of i))) (based_facts s.views.me i.view (bases_of i) (s.records ++ enters ∷ []) (subst (Facts h) (sym (reverse-append s.records (enters ∷ []))) tt));
        order = λ z. absurd z;
        states = λ z. absurd z;
      }
    where
      enters : Happened
      enters = happened.In s.views.me i.view i.members

  pub entering : KeepsEntering (Full ⊥) (λ s w. Unit {0}) (λ i xs. At loose ⊥) Known
  unfolding dissolved sent send_on
  entering =
      record {
        views = λ s v arisen a. (let z = viewing_stays s v in at_views h ⊥ s (viewing s v).views z.me z.view a, tt);
        sends = λ s w x i a works. (at_same h ⊥ s (sent s x.to (body.View x.packet)) refl refl refl a, tt);
        leaves = λ s w i xs e q a works. any_loose s;
        beside = λ i xs. record { row = λ s g f ok aside a. any_loose (with_row s g f); sends = λ s network to x saying a. any_loose (send_on s network to x); notes = λ s n client v place t a. any_loose (recorded s (happened.Noted n client v place t)) };
        fills = λ s i xs x e bs here there a. any_loose (delivered s x.name e [] 0 bs);
        enters = λ s i xs a. at_view_entered s i;
        dissolves = λ s q x e a. telling ⊥ s x.provider (number_of (outstanding s.sessions x.provider)) Dissolved a;
      }
