-- In the middle of a step: what the node has, sends and has recorded of who failed.
use Rattle.std.proofs.Common.{◌≡◌, ◌⊎◌, ℕ, List, [], ◌∷◌, ◌++◌, Option, Some, None, Bool, true, false, refl, sym, ap, ◌∙◌, subst, inl, inr, append_assoc, append-nil}
use Rattle.std.specs.Prelude.{◌==◌, ◌&&◌, ◌||◌, fold, reverse}
use Rattle.std.specs.List.{list_any}
use Rattle.std.proofs.lemmas.List.{reverse-append}
use Rattle.rsct_packet.specs.declared.ids.ViewId.{ViewId}
use Rattle.rsct_packet.specs.declared.ids.ProviderId.{ProviderId}
use Rattle.rsct_packet.specs.Providers.{among, same_provider}
use Rattle.rsct_packet.specs.Search.{Has}
use Rattle.rsct_packet.proofs.HasLaws.{has_append, append_has_left}
use Rattle.proposal_core.specs.declared.proposal.Proposal.{Proposal}
use Rattle.proposal_core.specs.declared.group_state.GroupState.{GroupState}
use Rattle.proposal_core.specs.Fold.{joiners_fit}
use Rattle.proposal_core.specs.Lists.{state_in, len_in}
use Rattle.client_callbacks.specs.declared.told.Why.{Why}
use Rattle.session_state.specs.State.{outstanding}
use Rattle.session_state.specs.HandOn.{take_telling, is_join_request, is_dissolved}
use Rattle.session_state.specs.declared.fault.GsFault.{GsFault}
use Rattle.session_state.specs.declared.state.SessionState.{SessionState}
use Rattle.view_state.specs.declared.views.Views.{Views}
use Rattle.node_state.specs.declared.group.GroupRow.{GroupRow}
use Rattle.node_state.specs.declared.happened.Happened.{Happened}
use Rattle.node_state.specs.declared.happened.Happened.TheVariants as happened
use Rattle.node_state.specs.declared.packet.Body.{Body}
use Rattle.node_state.specs.declared.packet.Packet.{Packet}
use Rattle.node_state.specs.declared.state.Core.{Core}
use Rattle.node_state.specs.State.{InNameOrder, row_of, with_row, is_this, leader_by, recorded, recorded_all, with_sessions}
use Rattle.node_state.specs.Sending.{packet_on, send_on, sent, network_to}
use Rattle.run_safety.specs.Past.{History, records_of, inc_now}
use Rattle.run_safety.specs.Stays.{Stay, stays, stays_after, asks_join, is_refused}
use Rattle.node_state.proofs.NameOrder.{KeepsName, cases_text, row_here, row_there, rows_ordered}
use Rattle.row_laws.proofs.hearing.Sessions.{fewer_told}
use Rattle.row_laws.proofs.honest_votes.At.{found, leads_row}
use Rattle.row_laws.specs.failed_rows.Failures.{IsRefused, IsCut, WasTold, GoneCause, EachPut}
use Rattle.step_refinement.proofs.SessionLaws.{provider_same}
use Rattle.row_laws.proofs.failed_rows.Living.{IsLive, told_lives, told_slim}
use Rattle.row_laws.proofs.failed_rows.Facts.{Whys, Takers, takers_pushed, TallyIs, QueueIs, Track, BasesFit, Quiet, quiet_stays, quiet_puts, quiet_accepted, Stepped, quiet_of, BodyFails, body_on, quiet_unasked, Unasked, quiet_asks, Lives, lives_on, OwnFor, own_pushed}
use Rattle.row_laws.proofs.failed_rows.Origin.{Origin, SlimIf, slim_self, slim_more, slim_on, slim_free}

-- ---- the node

-- origin: the node's incarnation, and the state since which nobody came in; L: the node is in one view since its last puts;
-- M: no call of this event is refused; T: the groups whose tally is of the phase that runs; G: those that the node leads; Q:
-- those of which failures wait
pub record At (h : History) (said : ProviderId → Type 0) (origin : Origin) (P L M : Type 0) (T G Q : List ℕ → Type 0) (s : Core) : Type 0 where
  pub inc : s.views.inc ≡ origin.born
  pub counted : inc_now s.views.me (records_of h) ≡ origin.born
  pub own : OwnFor h said origin.born s.sessions s
  pub slim : SlimIf origin.root s.sessions s.records
  pub sends : (p : Packet) → Has p s.sends → BodyFails said (reverse s.records ++ records_of h) p.body
  pub puts : P → BasesFit s.records → EachPut (reverse s.records) h
  pub accepted : M → (r : Happened) → Has r s.records → is_refused r ≡ false
  pub whose : (r : Happened) → Has r s.records → Stepped s.views.me r
  pub order : InNameOrder s.groups
  pub tracks : L → (g : List ℕ) → Track (stays s.views.me g (reverse s.records ++ records_of h)) s.views.view (len_in (found s g).list) (state_in (found s g).list)
  pub marks : L → (g : List ℕ) (p : ProviderId) → among (found s g).led.gone p ≡ true → GoneCause h s.views.view g p
  pub tallies : (g : List ℕ) → T g → TallyIs (GoneCause h s.views.view g) (leads_row s (found s g)) (found s g).led.tally (state_in (found s g).list)
  pub queues : BasesFit s.records → (g : List ℕ) → Q g → QueueIs (GoneCause h s.views.view g) (leads_row s (found s g)) (found s g).led.waiting.failures (state_in (found s g).list)
  pub apart : L → BasesFit s.records → (g : List ℕ) → joiners_fit (state_in (found s g).list) ≡ true
  pub led : (g : List ℕ) → G g → leads_row s (found s g) ≡ true
  pub whys : (g : List ℕ) → Whys (found s g).led
  pub takers : Takers s.views.me s.sessions (reverse s.records ++ records_of h)

-- from here on a step is measured
pub at_rooted : (h : History) (said : ProviderId → Type 0) (born : ℕ) (o : Option Core) (P L M : Type 0) (T G Q : List ℕ → Type 0) (s : Core) → At h said (record { born = born; root = o }) P L M T G Q s → At h said (record { born = born; root = Some s }) P L M T G Q s
at_rooted h said born o P L M T G Q s a =
    record { inc = a.inc; counted = a.counted; own = a.own; slim = slim_self s; sends = a.sends; puts = a.puts; accepted = a.accepted; whose = a.whose; order = a.order; tracks = a.tracks; marks = a.marks; tallies = a.tallies; queues = a.queues; apart = a.apart; led = a.led; whys = a.whys; takers = a.takers }

module _ (h : History) (said : ProviderId → Type 0) (origin : Origin) (P L M : Type 0) where
  -- other groups
  pub at_for : (T G Q U V W : List ℕ → Type 0) (s : Core) → ((g : List ℕ) → U g → T g) → ((g : List ℕ) → V g → leads_row s (found s g) ≡ true) → ((g : List ℕ) → W g → Q g) → At h said origin P L M T G Q s → At h said origin P L M U V W s
  at_for T G Q U V W s less led fewer a =
      record {
        inc = a.inc;
        counted = a.counted;
        own = a.own;
        slim = a.slim;
        sends = a.sends;
        puts = a.puts;
        accepted = a.accepted;
        whose = a.whose;
        order = a.order;
        tracks = a.tracks;
        marks = a.marks;
        tallies = λ g t. a.tallies g (less g t);
        queues = λ fit g q. a.queues fit g (fewer g q);
        apart = a.apart;
        led = led;
        whys = a.whys;
        takers = a.takers;
      }

  module _ (T G Q : List ℕ → Type 0) where
    pub at_fold : {A : Type 0} (f : Core → A → Core) (xs : List A) → ((s : Core) (x : A) → Has x xs → At h said origin P L M T G Q s → At h said origin P L M T G Q (f s x)) → (s : Core) → At h said origin P L M T G Q s → At h said origin P L M T G Q (fold f s xs)
    at_fold f [] step s a = a
    at_fold f (x ∷ xs) step s a = at_fold f xs (λ t y i k. step t y (inr i) k) (f s x) (step s x (inl refl) a)

    pub at_sent_on : (s : Core) (network to : ℕ) (b : Body) → BodyFails said (reverse s.records ++ records_of h) b → At h said origin P L M T G Q s → At h said origin P L M T G Q (send_on s network to b)
    unfolding send_on packet_on
    at_sent_on s network to b ok a =
        record {
          inc = a.inc;
          counted = a.counted;
          own = a.own;
          slim = a.slim;
          sends = λ p i. by p (has_append p s.sends (packet_on s network to b ∷ []) i);
          puts = a.puts;
          accepted = a.accepted;
          whose = a.whose;
          order = a.order;
          tracks = a.tracks;
          marks = a.marks;
          tallies = a.tallies;
          queues = a.queues;
          apart = a.apart;
          led = a.led;
          whys = a.whys;
          takers = a.takers;
        }
      where
        by : (p : Packet) → Has p s.sends ⊎ Has p (packet_on s network to b ∷ []) → BodyFails said (reverse s.records ++ records_of h) p.body
        by p (inl i) = a.sends p i
        by p (inr (inl e)) = subst (λ (q : Packet). BodyFails said (reverse s.records ++ records_of h) q.body) (sym e) ok
        by p (inr (inr z)) = absurd z

    pub at_sent : (s : Core) (to : ℕ) (b : Body) → BodyFails said (reverse s.records ++ records_of h) b → At h said origin P L M T G Q s → At h said origin P L M T G Q (sent s to b)
    unfolding sent
    at_sent s to b ok a = at_sent_on s (network_to s to) to b ok a

    -- a record of no view and no list
    at_record : (s : Core) (r : Happened) → SlimIf origin.root s.sessions (s.records ++ r ∷ []) → ((g : List ℕ) (xs : List Stay) → stays_after s.views.me g r xs ≡ xs) → ((now : List Happened) → EachPut now h → EachPut (r ∷ now) h) → (M → is_refused r ≡ false) → Stepped s.views.me r → OwnFor h said origin.born s.sessions (record s { records = s.records ++ r ∷ [] }) → At h said origin P L M T G Q s → At h said origin P L M T G Q (recorded s r)
    unfolding recorded
    at_record s r slim still puts ok of own a =
        record {
          inc = a.inc;
          counted = a.counted;
          own = own;
          slim = slim;
          sends = λ p i. subst (λ z. BodyFails said (z ++ records_of h) p.body) (sym turned) (body_on said (r ∷ []) (reverse s.records ++ records_of h) p.body (a.sends p i));
          puts = λ l fit. subst (λ z. EachPut z h) (sym turned) (puts (reverse s.records) (a.puts l (λ x i. fit x (append_has_left x s.records (r ∷ []) i))));
          accepted = λ m x i. one m x (has_append x s.records (r ∷ []) i);
          whose = λ x i. mine x (has_append x s.records (r ∷ []) i);
          order = a.order;
          tracks = λ l g. subst (λ z. Track (stays s.views.me g (z ++ records_of h)) s.views.view (len_in (found s g).list) (state_in (found s g).list)) (sym turned) (subst (λ z. Track z s.views.view (len_in (found s g).list) (state_in (found s g).list)) (sym (still g (stays s.views.me g (reverse s.records ++ records_of h)))) (a.tracks l g));
          marks = a.marks;
          tallies = a.tallies;
          queues = λ fit. a.queues (λ x i. fit x (append_has_left x s.records (r ∷ []) i));
          apart = λ l fit. a.apart l (λ x i. fit x (append_has_left x s.records (r ∷ []) i));
          led = a.led;
          whys = a.whys;
          takers = takers_pushed h s.views.me s.sessions s.records (r ∷ []) a.takers;
        }
      where
        turned : reverse (s.records ++ r ∷ []) ≡ r ∷ reverse s.records
        turned = reverse-append s.records (r ∷ [])

        one : M → (x : Happened) → Has x s.records ⊎ Has x (r ∷ []) → is_refused x ≡ false
        one m x (inl i) = a.accepted m x i
        one m x (inr (inl e)) = ap is_refused e ∙ ok m
        one m x (inr (inr z)) = absurd z

        mine : (x : Happened) → Has x s.records ⊎ Has x (r ∷ []) → Stepped s.views.me x
        mine x (inl i) = a.whose x i
        mine x (inr (inl e)) = subst (Stepped s.views.me) (sym e) of
        mine x (inr (inr z)) = absurd z

    pub at_recorded : (s : Core) (r : Happened) → Quiet r → At h said origin P L M T G Q s → At h said origin P L M T G Q (recorded s r)
    at_recorded s r quiet a =
        at_record s r (slim_more origin.root s.sessions s.records (r ∷ []) asks a.slim) (λ g xs. quiet_stays s.views.me g r quiet xs) (λ now k. quiet_puts r quiet now h k) (λ m. quiet_accepted r quiet) (quiet_of s.views.me r quiet) (own_pushed h said origin.born s.sessions s (r ∷ []) (λ x i p. one p x i) a.own) a
      where
        one : (p : ProviderId) (x : Happened) → Has x (r ∷ []) → asks_join p x ≡ false
        one p x (inl e) = ap (asks_join p) e ∙ quiet_unasked r quiet p
        one p x (inr z) = absurd z

        asks : (x : Happened) → Has x (r ∷ []) → Unasked x
        asks x (inl e) = subst Unasked (sym e) (quiet_asks r quiet)
        asks x (inr z) = absurd z

    -- a call is refused
    pub at_call_refused : (s : Core) (n : ℕ) (client : List ℕ) (f : GsFault) → (M → ⊥) → At h said origin P L M T G Q s → At h said origin P L M T G Q (recorded s (happened.Refused n client f))
    at_call_refused s n client f none a =
        at_record s (happened.Refused n client f) (slim_more origin.root s.sessions s.records (happened.Refused n client f ∷ []) asks a.slim) (λ g xs. refl) (λ now k. (tt, k)) (λ m. absurd (none m)) tt (own_pushed h said origin.born s.sessions s (happened.Refused n client f ∷ []) (λ x i p. one p x i) a.own) a
      where
        one : (p : ProviderId) (x : Happened) → Has x (happened.Refused n client f ∷ []) → asks_join p x ≡ false
        one p x (inl e) = ap (asks_join p) e
        one p x (inr z) = absurd z

        asks : (x : Happened) → Has x (happened.Refused n client f ∷ []) → Unasked x
        asks x (inl e) = subst Unasked (sym e) tt
        asks x (inr z) = absurd z

    -- a provider that is there asks
    pub at_asked : origin.root ≡ None → (s : Core) (q : ProviderId) (k : ℕ) (g : List ℕ) (x : Proposal) → IsLive s.sessions q → q.node ≡ s.views.me → At h said origin P L M T G Q s → At h said origin P L M T G Q (recorded s (happened.Asked q k g x))
    at_asked free s q k g x live node a = at_record s r (slim_free origin.root s.sessions (s.records ++ r ∷ []) free) (λ g xs. refl) (λ now k. (tt, k)) (λ m. refl) node own a
      where
        r : Happened
        r = happened.Asked q k g x

        turned : reverse (s.records ++ r ∷ []) ≡ r ∷ reverse s.records
        turned = reverse-append s.records (r ∷ [])

        own : OwnFor h said origin.born s.sessions (record s { records = s.records ++ r ∷ [] })
        own p at inc asked = by (same_provider q p) (k == p.join) refl refl
          where
            by : (b c : Bool) → same_provider q p ≡ b → (k == p.join) ≡ c → Lives said s.sessions (reverse (s.records ++ r ∷ []) ++ records_of h) p
            by true c e d = inl (subst (IsLive s.sessions) (provider_same q p e) live)
            by false c e d =
                subst (λ z. Lives said s.sessions (z ++ records_of h) p) (sym turned) (lives_on said s.sessions (r ∷ []) (reverse s.records ++ records_of h) p (a.own p at inc (ap (λ b. (b && (k == p.join)) || list_any (asks_join p) (reverse s.records ++ records_of h)) (sym e) ∙ ap (λ z. list_any (asks_join p) (z ++ records_of h)) (sym turned) ∙ asked)))

    pub at_recorded_all : (rs : List Happened) (s : Core) → ((r : Happened) → Has r rs → Quiet r) → At h said origin P L M T G Q s → At h said origin P L M T G Q (recorded_all s rs)
    unfolding recorded_all recorded
    at_recorded_all [] s none a = subst (λ l. At h said origin P L M T G Q (record s { records = l })) (sym (append-nil s.records)) a
    at_recorded_all (r ∷ rs) s none a =
        subst (λ l. At h said origin P L M T G Q (record s { records = l })) (append_assoc s.records (r ∷ []) rs) (at_recorded_all rs (recorded s r) (λ x i. none x (inr i)) (at_recorded s r (none r (inl refl)) a))

    pub at_sessions : (s : Core) (t : SessionState) → SlimIf origin.root t s.records → OwnFor h said origin.born t s → Takers s.views.me t (reverse s.records ++ records_of h) → At h said origin P L M T G Q s → At h said origin P L M T G Q (with_sessions s t)
    unfolding with_sessions
    at_sessions s t slim own takers a =
        record { inc = a.inc; counted = a.counted; own = own; slim = slim; sends = a.sends; puts = a.puts; accepted = a.accepted; whose = a.whose; order = a.order; tracks = a.tracks; marks = a.marks; tallies = a.tallies; queues = a.queues; apart = a.apart; led = a.led; whys = a.whys; takers = takers }

    -- a provider is told, and may be dropped
    pub at_told : (s : Core) (p : ProviderId) (r : ℕ) (y : Why) → (p.node ≡ s.views.me → p.inc ≡ origin.born → (is_join_request (outstanding s.sessions p) ≡ true) ⊎ (is_dissolved y ≡ true) → IsRefused (reverse s.records ++ records_of h) p r ⊎ ((is_dissolved y ≡ true) × IsCut (reverse s.records ++ records_of h) p)) → At h said origin P L M T G Q s → At h said origin P L M T G Q (recorded (with_sessions s (take_telling s.sessions p r y)) (happened.Told p r y))
    unfolding recorded with_sessions
    at_told s p r y ends a = at_sessions (recorded s told) (take_telling s.sessions p r y) (slim_on origin.root s.sessions (take_telling s.sessions p r y) (s.records ++ told ∷ []) (told_slim s.sessions p r y) (at_recorded s told tt a).slim) own (λ q x e part. (at_recorded s told tt a).takers q x ((fewer_told s.sessions p r y).providers q x e) part) (at_recorded s told tt a)
      where
        told : Happened
        told = happened.Told p r y

        turned : reverse (s.records ++ told ∷ []) ≡ told ∷ reverse s.records
        turned = reverse-append s.records (told ∷ [])

        own : OwnFor h said origin.born (take_telling s.sessions p r y) (record s { records = s.records ++ told ∷ [] })
        own q at inc asked = by ((at_recorded s told tt a).own q at inc asked)
          where
            was_told : q ≡ p → IsRefused (reverse s.records ++ records_of h) p r ⊎ ((is_dissolved y ≡ true) × IsCut (reverse s.records ++ records_of h) p) → WasTold (told ∷ (reverse s.records ++ records_of h)) q
            was_told e k = subst (WasTold (told ∷ (reverse s.records ++ records_of h))) (sym e) (record { number = r; why = y; newer = []; older = reverse s.records ++ records_of h; moment = refl; ends = k })

            live : IsLive (take_telling s.sessions p r y) q ⊎ ((q ≡ p) × ((is_join_request (outstanding s.sessions p) ≡ true) ⊎ (is_dissolved y ≡ true))) → Lives said (take_telling s.sessions p r y) (reverse (s.records ++ told ∷ []) ++ records_of h) q
            live (inl k) = inl k
            live (inr k) = inr (inr (inl (subst (λ z. WasTold (z ++ records_of h) q) (sym turned) (was_told k.0 (ends (ap (λ (z : ProviderId). z.node) (sym k.0) ∙ at) (ap (λ (z : ProviderId). z.inc) (sym k.0) ∙ inc) k.1)))))

            by : Lives said s.sessions (reverse (s.records ++ told ∷ []) ++ records_of h) q → Lives said (take_telling s.sessions p r y) (reverse (s.records ++ told ∷ []) ++ records_of h) q
            by (inl k) = live (told_lives s.sessions p r y q k)
            by (inr k) = inr k

    pub at_views : (s : Core) (v : Views) → v.me ≡ s.views.me → v.view ≡ s.views.view → v.inc ≡ s.views.inc → At h said origin P L M T G Q s → At h said origin P L M T G Q (record s { views = v })
    at_views s v me at inc a =
        record {
          inc = inc ∙ a.inc;
          counted = ap (λ m. inc_now m (records_of h)) me ∙ a.counted;
          own = λ p node. a.own p (node ∙ me);
          slim = a.slim;
          sends = a.sends;
          puts = a.puts;
          accepted = a.accepted;
          whose = λ r i. subst (λ z. Stepped z r) (sym me) (a.whose r i);
          order = a.order;
          tracks = λ l g. subst (λ (z : ℕ × ViewId). Track (stays z.0 g (reverse s.records ++ records_of h)) z.1 (len_in (found s g).list) (state_in (found s g).list)) (λ i. (sym me i, sym at i)) (a.tracks l g);
          marks = λ l g p i. subst (λ z. GoneCause h z g p) (sym at) (a.marks l g p i);
          tallies = λ g t. subst (λ (z : ViewId × Bool). TallyIs (GoneCause h z.0 g) z.1 (found s g).led.tally (state_in (found s g).list)) (λ i. (sym at i, same g i)) (a.tallies g t);
          queues = λ fit g q. subst (λ (z : ViewId × Bool). QueueIs (GoneCause h z.0 g) z.1 (found s g).led.waiting.failures (state_in (found s g).list)) (λ i. (sym at i, same g i)) (a.queues fit g q);
          apart = a.apart;
          led = λ g t. sym (same g) ∙ a.led g t;
          whys = a.whys;
          takers = subst (λ m. Takers m s.sessions (reverse s.records ++ records_of h)) (sym me) a.takers;
        }
      where
        same : (g : List ℕ) → leads_row s (found s g) ≡ leads_row (record s { views = v }) (found s g)
        same g = λ i. is_this (sym me i) (leader_by s.config.mode (sym at i).coord (found s g).leader)

    -- a row changes, and its list shows the same state
    module _ (U W : List ℕ → Type 0) where
      pub at_row_for : (s : Core) (g : List ℕ) (f : GroupRow → GroupRow) → KeepsName f → ((x : GroupRow) → (f x).leader ≡ x.leader) → ((x : GroupRow) → len_in (f x).list ≡ len_in x.list) → ((x : GroupRow) → state_in (f x).list ≡ state_in x.list) → ((x : GroupRow) → Whys x.led → Whys (f x).led) → (L → (p : ProviderId) → among (f (found s g)).led.gone p ≡ true → GoneCause h s.views.view g p) → ((k : List ℕ) → U k → (g ≡ k → ⊥) → T k) → ((k : List ℕ) → W k → (g ≡ k → ⊥) → Q k) → (U g → TallyIs (GoneCause h s.views.view g) (leads_row s (found s g)) (f (found s g)).led.tally (state_in (found s g).list)) → (BasesFit s.records → W g → QueueIs (GoneCause h s.views.view g) (leads_row s (found s g)) (f (found s g)).led.waiting.failures (state_in (found s g).list)) → At h said origin P L M T G Q s → At h said origin P L M U G W (with_row s g f)
      unfolding with_row row_of
      at_row_for s g f keeps leader lens states kept gone others rest tally queue a =
          record {
            inc = a.inc;
            counted = a.counted;
            own = a.own;
            slim = a.slim;
            sends = a.sends;
            puts = a.puts;
            accepted = a.accepted;
            whose = a.whose;
            order = rows_ordered g f keeps s a.order;
            tracks = λ l k. track l k (cases_text g k);
            marks = λ l k. mark l k (cases_text g k);
            tallies = λ k u. counted k u (cases_text g k);
            queues = λ fit k w. waiting fit k w (cases_text g k);
            apart = λ l fit k. fits l fit k (cases_text g k);
            led = λ k i. leads k i (cases_text g k);
            whys = λ k. why k (cases_text g k);
            takers = a.takers;
          }
        where
          here : found (with_row s g f) g ≡ f (found s g)
          here = row_here g f keeps s a.order

          there : (k : List ℕ) → (g ≡ k → ⊥) → found (with_row s g f) k ≡ found s k
          there k ne = row_there g f keeps s k ne

          why : (k : List ℕ) → (g ≡ k) ⊎ (g ≡ k → ⊥) → Whys (found (with_row s g f) k).led
          why k (inr ne) = subst (λ (z : GroupRow). Whys z.led) (sym (there k ne)) (a.whys k)
          why k (inl e) = subst (λ z. Whys (found (with_row s g f) z).led) e (subst (λ (z : GroupRow). Whys z.led) (sym here) (kept (found s g) (a.whys g)))

          lead : leads_row s (f (found s g)) ≡ leads_row s (found s g)
          lead = ap (λ o. is_this s.views.me (leader_by s.config.mode s.views.view.coord o)) (leader (found s g))

          track : L → (k : List ℕ) → (g ≡ k) ⊎ (g ≡ k → ⊥) → Track (stays s.views.me k (reverse s.records ++ records_of h)) s.views.view (len_in (found (with_row s g f) k).list) (state_in (found (with_row s g f) k).list)
          track l k (inr ne) = subst (λ (z : GroupRow). Track (stays s.views.me k (reverse s.records ++ records_of h)) s.views.view (len_in z.list) (state_in z.list)) (sym (there k ne)) (a.tracks l k)
          track l k (inl e) =
              subst (λ z. Track (stays s.views.me z (reverse s.records ++ records_of h)) s.views.view (len_in (found (with_row s g f) z).list) (state_in (found (with_row s g f) z).list)) e (subst (λ (z : GroupRow). Track (stays s.views.me g (reverse s.records ++ records_of h)) s.views.view (len_in z.list) (state_in z.list)) (sym here) (subst (λ (z : ℕ × GroupState). Track (stays s.views.me g (reverse s.records ++ records_of h)) s.views.view z.0 z.1) (λ i. (sym (lens (found s g)) i, sym (states (found s g)) i)) (a.tracks l g)))

          mark : L → (k : List ℕ) → (g ≡ k) ⊎ (g ≡ k → ⊥) → (p : ProviderId) → among (found (with_row s g f) k).led.gone p ≡ true → GoneCause h s.views.view k p
          mark l k (inr ne) p i = a.marks l k p (subst (λ (z : GroupRow). among z.led.gone p ≡ true) (there k ne) i)
          mark l k (inl e) p i =
              subst (λ z. GoneCause h s.views.view z p) e (gone l p (subst (λ (z : GroupRow). among z.led.gone p ≡ true) here (subst (λ z. among (found (with_row s g f) z).led.gone p ≡ true) (sym e) i)))

          counted : (k : List ℕ) → U k → (g ≡ k) ⊎ (g ≡ k → ⊥) → TallyIs (GoneCause h s.views.view k) (leads_row s (found (with_row s g f) k)) (found (with_row s g f) k).led.tally (state_in (found (with_row s g f) k).list)
          counted k u (inr ne) = subst (λ (z : GroupRow). TallyIs (GoneCause h s.views.view k) (leads_row s z) z.led.tally (state_in z.list)) (sym (there k ne)) (a.tallies k (others k u ne))
          counted k u (inl e) =
              subst (λ z. TallyIs (GoneCause h s.views.view z) (leads_row s (found (with_row s g f) z)) (found (with_row s g f) z).led.tally (state_in (found (with_row s g f) z).list)) e (subst (λ (z : GroupRow). TallyIs (GoneCause h s.views.view g) (leads_row s z) z.led.tally (state_in z.list)) (sym here) (subst (λ (z : Bool × GroupState). TallyIs (GoneCause h s.views.view g) z.0 (f (found s g)).led.tally z.1) (λ i. (sym lead i, sym (states (found s g)) i)) (tally (subst U (sym e) u))))

          waiting : BasesFit s.records → (k : List ℕ) → W k → (g ≡ k) ⊎ (g ≡ k → ⊥) → QueueIs (GoneCause h s.views.view k) (leads_row s (found (with_row s g f) k)) (found (with_row s g f) k).led.waiting.failures (state_in (found (with_row s g f) k).list)
          waiting fit k w (inr ne) = subst (λ (z : GroupRow). QueueIs (GoneCause h s.views.view k) (leads_row s z) z.led.waiting.failures (state_in z.list)) (sym (there k ne)) (a.queues fit k (rest k w ne))
          waiting fit k w (inl e) =
              subst (λ z. QueueIs (GoneCause h s.views.view z) (leads_row s (found (with_row s g f) z)) (found (with_row s g f) z).led.waiting.failures (state_in (found (with_row s g f) z).list)) e (subst (λ (z : GroupRow). QueueIs (GoneCause h s.views.view g) (leads_row s z) z.led.waiting.failures (state_in z.list)) (sym here) (subst (λ (z : Bool × GroupState). QueueIs (GoneCause h s.views.view g) z.0 (f (found s g)).led.waiting.failures z.1) (λ i. (sym lead i, sym (states (found s g)) i)) (queue fit (subst W (sym e) w))))

          fits : L → BasesFit s.records → (k : List ℕ) → (g ≡ k) ⊎ (g ≡ k → ⊥) → joiners_fit (state_in (found (with_row s g f) k).list) ≡ true
          fits l fit k (inr ne) = ap (λ (z : GroupRow). joiners_fit (state_in z.list)) (there k ne) ∙ a.apart l fit k
          fits l fit k (inl e) =
              subst (λ z. joiners_fit (state_in (found (with_row s g f) z).list) ≡ true) e (ap (λ (z : GroupRow). joiners_fit (state_in z.list)) here ∙ ap joiners_fit (states (found s g)) ∙ a.apart l fit g)

          leads : (k : List ℕ) → G k → (g ≡ k) ⊎ (g ≡ k → ⊥) → leads_row s (found (with_row s g f) k) ≡ true
          leads k i (inl e) = subst (λ z. leads_row s (found (with_row s g f) z) ≡ true) e (ap (leads_row s) here ∙ lead ∙ a.led g (subst G (sym e) i))
          leads k i (inr ne) = ap (leads_row s) (there k ne) ∙ a.led k i
