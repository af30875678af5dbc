-- The world's rings of a network are those of a network to which something happened: what holds of both, between two events and in
-- the middle of a step.
use Rattle.std.proofs.Common.{◌≡◌, ◌≢◌, ◌≤◌, ℕ, List, [], ◌∷◌, ◌++◌, Option, Some, None, refl, sym, ap, ◌∙◌, subst, inl, inr, ⊎_elim}
use Rattle.std.specs.Prelude.{map, fold, find}
use Rattle.std.proofs.lemmas.List.Sums.{fold-append}
use Rattle.rsct_packet.specs.Search.{Has}
use Rattle.rsct_packet.proofs.HasLaws.{has_append, append_has_left, append_has_right, find_has}
use Rattle.adapter_ring.specs.declared.packet.RingSend.{RingSend}
use Rattle.adapter_ring.specs.declared.packet.RingEvent.{RingEvent}
use Rattle.adapter_ring.specs.declared.ring.Ring.{Ring}
use Rattle.adapter_ring.specs.declared.ring.RingSet.{RingSet}
use Rattle.adapter_ring.specs.declared.ring.RingSettings.{RingSettings}
use Rattle.adapter_ring.specs.declared.work.RingWork.{RingWork}
use Rattle.adapter_ring.specs.Rings.{ring_step}
use Rattle.adapter_ring.specs.Network.{Happening, Sent, Told, Started, Network, quiet, ring_at, sent_by, told_by, step_taken, happens, after}
use Rattle.node_state.specs.declared.happened.Happened.{Happened}
use Rattle.node_state.specs.declared.happened.Happened.TheVariants as happened
use Rattle.node_state.specs.declared.packet.Body.{Body}
use Rattle.node_state.specs.declared.packet.Body.TheVariants as body
use Rattle.node_state.specs.declared.packet.Packet.{Packet}
use Rattle.node_state.specs.declared.state.Core.{Core}
use Rattle.node_state.specs.State.{with_row, with_led, set_leader, state_of, len_of, recorded, recorded_all, with_sessions}
use Rattle.node_state.specs.Sending.{packet_on, send_on}
use Rattle.node_state.specs.Ticks.{ring_put, set_records, ring_taken}
use Rattle.run_safety.specs.Past.{records_of}
use Rattle.rsct_packet.specs.declared.ids.ProviderId.{ProviderId}
use Rattle.client_callbacks.specs.declared.told.Why.{Why}
use Rattle.client_callbacks.specs.declared.told.Why.TheVariants.{Dissolved}
use Rattle.session_state.specs.declared.state.SessionState.{SessionState}
use Rattle.session_state.specs.State.{outstanding}
use Rattle.session_state.specs.HandOn.{take_telling, handed_on}
use Rattle.view_state.specs.Views.{views_entered}
use Rattle.node_state.specs.Leading.{put}
use Rattle.node_state.specs.Deciding.{keep_decision, is_idle_empty, wait_join}
use Rattle.node_state.specs.Applying.{number_of, dissolved}
use Rattle.step_walk.proofs.Changes.{Any, Spoken, viewing, KeepsCalls, KeepsParts, KeepsRules, KeepsViews}
use Rattle.step_walk.proofs.Parts.{IsEntering, entering, on_hands, on_enters}
use Rattle.step_refinement.specs.Tied.{Scene}
use Rattle.step_refinement.proofs.Changed.{has_pushed}
use Rattle.run_laws.specs.ring_runs.Rings.{ring_settings}
use Rattle.run_laws.proofs.ring_runs.Staying.{stays_in}
use Rattle.run_laws.proofs.ring_runs.Stepping.{OwnWork, own_step}
use Rattle.run_laws.proofs.ring_runs.Finding.{is_on, nets_of, Differ, put_has, put_nets, put_here, put_there, with_here, with_there}

-- the ring of the network that a node has
abbrev pub ring_on : ℕ → Option Core → Option Ring
ring_on net None = None
ring_on net (Some s) = find (is_on net) s.rings

-- the node n in its incarnation j, with rings of it on networks that differ
pub record Own (n j : ℕ) (s : Core) : Type 0 where
  pub me : s.views.me ≡ n
  pub inc : s.views.inc ≡ j
  pub mine : (r : Ring) → Has r s.rings → r.me ≡ n
  pub life : (r : Ring) → Has r s.rings → r.inc ≡ j
  pub apart : Differ (nets_of s.rings)

-- what a ring says in a packet of the network was sent there
abbrev pub Carried : ℕ → Network → Packet → Body → Type 0
Carried net v p (body.Ring x) = p.network ≡ net → Has {A = Sent} (record { from = p.from; inc = p.inc; to = p.to; packet = x }) v.sent
Carried net v p _ = Unit {0}

-- a ring record of the network stands there
abbrev pub Tells : ℕ → Network → Happened → Type 0
Tells net v (happened.Ring n network id ms b) = network ≡ net → Has {A = Told} (record { node = n; id = id; members = ms; neighbour = b }) v.told
Tells net v _ = Unit {0}

-- in the middle of a step of node n, which has come to s
pub record At (net : ℕ) (w : Scene) (n : ℕ) (v : Network) (s : Core) : Type 0 where
  pub net_is : v.net ≡ net
  pub settings : v.settings ≡ ring_settings w.config net
  pub own : Own n (w.incs n) s
  pub ring : find (is_on net) s.rings ≡ ring_at v n
  pub others : (m : ℕ) → m ≢ n → ring_on net (w.cores m) ≡ ring_at v m
  pub sends : (p : Packet) → Has p (s.sends ++ w.sent) → Carried net v p p.body
  pub records : (r : Happened) → Has r (s.records ++ records_of w.before) → Tells net v r
  pub starts : (x : Started) → Has x v.starts → x.inc ≤ w.incs x.node

-- it is what happened to a quiet network
abbrev pub Comes : ℕ → RingSettings → Network → Type 0
Comes net s v = (es : List Happening) × (after (quiet net s) es ≡ v)

pub comes_on : (net : ℕ) (s : RingSettings) (v : Network) (e : Happening) → Comes net s v → Comes net s (happens v e)
unfolding after
comes_on net s v e c = (c.0 ++ e ∷ [], fold-append happens (quiet net s) c.0 (e ∷ []) ∙ ap (λ z. happens z e) c.1)

spoken_carried : (net : ℕ) (v : Network) (s : Core) (p : Packet) (b : Body) → Spoken s b → Carried net v p b
spoken_carried net v s p (body.Ring x) away = absurd away
spoken_carried net v s p _ away = tt

-- what was sent stays sent, and what was told stays told
pub record Grows (v x : Network) : Type 0 where
  pub sent : (y : Sent) → Has y v.sent → Has y x.sent
  pub told : (y : Told) → Has y v.told → Has y x.told

-- and nothing starts
record GoesOn (v x : Network) : Type 0 where
  net_is : x.net ≡ v.net
  settings : x.settings ≡ v.settings
  starts : x.starts ≡ v.starts
  grows : Grows v x

pub carried_on : (net : ℕ) (v x : Network) → Grows v x → (p : Packet) (b : Body) → Carried net v p b → Carried net x p b
carried_on net v x g p (body.Ring y) h = λ e. g.sent (record { from = p.from; inc = p.inc; to = p.to; packet = y }) (h e)
carried_on net v x g p _ h = tt

pub tells_on : (net : ℕ) (v x : Network) → Grows v x → (r : Happened) → Tells net v r → Tells net x r
tells_on net v x g (happened.Ring n network id ms b) h = λ e. g.told (record { node = n; id = id; members = ms; neighbour = b }) (h e)
tells_on net v x g _ h = tt

module _ (net : ℕ) (w : Scene) (n : ℕ) where
  -- ---- what a node sends, records and changes

  at_sent_on : (v : Network) (s : Core) (network to : ℕ) (b : Body) → Carried net v (packet_on s network to b) b → At net w n v s → At net w n v (send_on s network to b)
  unfolding send_on packet_on
  at_sent_on v s network to b ok a =
      record {
        net_is = a.net_is;
        settings = a.settings;
        own = record { me = a.own.me; inc = a.own.inc; mine = a.own.mine; life = a.own.life; apart = a.own.apart };
        ring = a.ring;
        others = a.others;
        sends = λ p h. ⊎_elim (λ (e : p ≡ packet_on s network to b). subst (λ (z : Packet). Carried net v z z.body) (sym e) ok) (λ (i : Has p (s.sends ++ w.sent)). a.sends p i) (has_pushed p (packet_on s network to b) s.sends w.sent h);
        records = a.records;
        starts = a.starts;
      }

  at_recorded_all : (v : Network) (s : Core) (rs : List Happened) → ((r : Happened) → Has r rs → Tells net v r) → At net w n v s → At net w n v (recorded_all s rs)
  unfolding recorded_all
  at_recorded_all v s rs all a =
      record {
        net_is = a.net_is;
        settings = a.settings;
        own = record { me = a.own.me; inc = a.own.inc; mine = a.own.mine; life = a.own.life; apart = a.own.apart };
        ring = a.ring;
        others = a.others;
        sends = a.sends;
        records = λ r h. ⊎_elim (λ (i : Has r (s.records ++ rs)). ⊎_elim (λ (j : Has r s.records). a.records r (append_has_left r s.records (records_of w.before) j)) (λ (j : Has r rs). all r j) (has_append r s.records rs i)) (λ (i : Has r (records_of w.before)). a.records r (append_has_right r s.records (records_of w.before) i)) (has_append r (s.records ++ rs) (records_of w.before) h);
        starts = a.starts;
      }

  at_alike : (v : Network) (s t : Core) → (t.rings ≡ s.rings) → t.views.me ≡ s.views.me → t.views.inc ≡ s.views.inc → t.sends ≡ s.sends → t.records ≡ s.records → At net w n v s → At net w n v t
  at_alike v s t rings me inc sends records a =
      record {
        net_is = a.net_is;
        settings = a.settings;
        own = record {
          me = me ∙ a.own.me;
          inc = inc ∙ a.own.inc;
          mine = λ r h. a.own.mine r (subst (Has r) rings h);
          life = λ r h. a.own.life r (subst (Has r) rings h);
          apart = subst (λ z. Differ (nets_of z)) (sym rings) a.own.apart;
        };
        ring = ap (find (is_on net)) rings ∙ a.ring;
        others = a.others;
        sends = λ p h. a.sends p (subst (λ z. Has p (z ++ w.sent)) sends h);
        records = λ r h. a.records r (subst (λ z. Has r (z ++ records_of w.before)) records h);
        starts = a.starts;
      }

  -- there is such a network
  abbrev pub Played : Core → Type 0
  Played s = (v : Network) × Comes net (ring_settings w.config net) v × At net w n v s

  abbrev Given : Packet → Type 0
  Given p = Has p w.sent

  alike : (s t : Core) → t.rings ≡ s.rings → t.views.me ≡ s.views.me → t.views.inc ≡ s.views.inc → t.sends ≡ s.sends → t.records ≡ s.records → Played s → Played t
  alike s t rings me inc sends records p = (p.0, p.1, at_alike p.0 s t rings me inc sends records p.2)

  -- it says nothing of rings
  told : (s : Core) (r : Happened) → ((v : Network) → Tells net v r) → Played s → Played (recorded s r)
  unfolding recorded recorded_all
  told s r aside p =
      (p.0, p.1, at_recorded_all p.0 s (r ∷ []) (λ q h. ⊎_elim (λ (e : q ≡ r). subst (Tells net p.0) (sym e) (aside p.0)) (λ (z : ⊥). absurd z) h) p.2)

  entered : (s : Core) (r : Happened) → IsEntering r → Played s → Played (recorded s r)
  entered s (happened.In m v ms) a p = told s (happened.In m v ms) (λ z. tt) p
  entered s (happened.Base m v g u len st) a p = told s (happened.Base m v g u len st) (λ z. tt) p
  entered s _ a p = absurd a

  refused : (s : Core) (p : ProviderId) (r : ℕ) (y : Why) → Played s → Played (recorded (with_sessions s (take_telling s.sessions p r y)) (happened.Told p r y))
  unfolding with_sessions
  refused s p r y k =
      let t : SessionState = take_telling s.sessions p r y in
      told (with_sessions s t) (happened.Told p r y) (λ z. tt) (alike s (with_sessions s t) refl refl refl refl refl k)

  parts : KeepsParts Played Any
  unfolding put with_row with_sessions
  parts =
      record {
        sends = λ s network to b spoken p. (p.0, p.1, at_sent_on p.0 s network to b (spoken_carried net p.0 s (packet_on s network to b) b spoken) p.2);
        puts = λ s g e ok p. told (with_row s g _) (happened.Put s.views.me s.views.view g (len_of s g) e) (λ z. tt) (alike s (with_row s g _) refl refl refl refl refl p);
        hears = λ s g before after e bs c i h p. told s (happened.Heard c.provider s.views.view g i e after.members after.value) (λ z. tt) p;
        casts = λ s q proto phase vote value message p. told s (happened.Cast q proto phase vote value message) (λ z. tt) p;
        handed = λ s g before after e bs p. alike s (with_sessions s (handed_on s.sessions g before after e bs)) refl refl refl refl refl p;
      }

  pub played_rules : KeepsRules Played Given
  unfolding with_row with_led keep_decision wait_join set_leader
  played_rules =
      record {
        keeps = record {
          row = λ s g f ok mild p. alike s (with_row s g f) refl refl refl refl refl p;
          decides = λ s g q r y ok fair p. alike s (keep_decision s g q r y) refl refl refl refl refl p;
          sends = parts.sends;
          notes = λ s m c v place t p. told s (happened.Noted m c v place t) (λ z. tt) p;
          hands = on_hands Played Any parts;
        };
        names = λ s ns p. alike s (record s { names = ns }) refl refl refl refl refl p;
        reach = λ s x p. alike s (record s { reach = x }) refl refl refl refl refl p;
        leads = λ s g m p. alike s (set_leader s g m) refl refl refl refl refl p;
        joins = λ s g q r a e p. alike s (wait_join s g q r a (is_idle_empty (state_of s g))) refl refl refl refl refl p;
        tells = λ s q r y telling e p. refused s q r y p;
      }

  pub played_views : KeepsViews Played
  unfolding views_entered dissolved
  played_views =
      record {
        views = λ s v p. (let stays = stays_in s v in alike s (record s { views = (viewing s v).views }) refl stays.0 stays.2 refl refl p);
        enters = λ s i p. on_enters Played entered s i (alike s (entering s i) refl refl refl refl refl p);
        dissolves = λ s q x e p. refused s x.provider (number_of (outstanding s.sessions x.provider)) Dissolved p;
      }

  pub played_calls : KeepsCalls Played
  unfolding with_sessions
  played_calls =
      record {
        sessions = λ s t p. alike s (with_sessions s t) refl refl refl refl refl p;
        refuses = λ s m client fault p. told s (happened.Refused m client fault) (λ z. tt) p;
        asks = λ s q r g x p. told s (happened.Asked q r g x) (λ z. tt) p;
        casts = parts.casts;
      }

  -- ---- what a ring's step leaves

  sends_at : (v : Network) (xs : List RingSend) (s : Core) → ((y : RingSend) → Has y xs → y.network ≡ net → Has {A = Sent} (record { from = n; inc = w.incs n; to = y.to; packet = y.packet }) v.sent) → At net w n v s → At net w n v (fold (λ u (y : RingSend). send_on u y.network y.to (body.Ring y.packet)) s xs)
  unfolding packet_on
  sends_at v [] s all a = a
  sends_at v (x ∷ xs) s all a =
      let here : x.network ≡ net → Has {A = Sent} (record { from = s.views.me; inc = s.views.inc; to = x.to; packet = x.packet }) v.sent = λ e. subst (λ z. Has {A = Sent} (record { from = z; inc = s.views.inc; to = x.to; packet = x.packet }) v.sent) (sym a.own.me) (subst (λ z. Has {A = Sent} (record { from = n; inc = z; to = x.to; packet = x.packet }) v.sent) (sym a.own.inc) (all x (inl refl) e)) in
      sends_at v xs (send_on s x.network x.to (body.Ring x.packet)) (λ y h e. all y (inr h) e) (at_sent_on v s x.network x.to (body.Ring x.packet) here a)

  -- the ring of its network in place of the one before
  own_put : (s : Core) (r : Ring) (y : Ring) → Has r s.rings → y.me ≡ r.me → y.inc ≡ r.inc → Own n (w.incs n) s → Own n (w.incs n) (record s { rings = ring_put s.rings y })
  own_put s r y h me inc o =
      record {
        me = o.me;
        inc = o.inc;
        mine = λ q i. ⊎_elim (λ (e : q ≡ y). ap (λ (z : Ring). z.me) e ∙ me ∙ o.mine r h) (λ (j : Has q s.rings). o.mine q j) (put_has s.rings y q i);
        life = λ q i. ⊎_elim (λ (e : q ≡ y). ap (λ (z : Ring). z.inc) e ∙ inc ∙ o.life r h) (λ (j : Has q s.rings). o.life q j) (put_has s.rings y q i);
        apart = subst Differ (sym (put_nets s.rings y)) o.apart;
      }

  -- in a network that has grown by it, if it is this one
  taken_at : (v v' : Network) (s : Core) (r : Ring) (x : RingWork) → Has r s.rings → OwnWork r.net r.me r.inc x → GoesOn v v' → find (is_on net) (ring_put s.rings x.ring) ≡ ring_at v' n → ((m : ℕ) → m ≢ n → ring_at v' m ≡ ring_at v m) → ((y : RingSend) → Has y x.sends → r.net ≡ net → Has {A = Sent} (record { from = n; inc = w.incs n; to = y.to; packet = y.packet }) v'.sent) → ((y : RingSet) → x.set ≡ Some y → r.net ≡ net → Has {A = Told} (record { node = n; id = y.id; members = y.members; neighbour = y.neighbour }) v'.told) → At net w n v s → At net w n v' (ring_taken s x)
  unfolding ring_taken set_records
  taken_at v v' s r x h own goes ring others sent told a =
      at_recorded_all v' (fold (λ u (y : RingSend). send_on u y.network y.to (body.Ring y.packet)) (record s { rings = ring_put s.rings x.ring }) x.sends) (set_records s.views.me x.ring.net x.set) (by x.set told) (sends_at v' x.sends (record s { rings = ring_put s.rings x.ring }) (λ y i e. sent y i (sym (own.sends y i) ∙ e)) put_at)
    where
      put_at : At net w n v' (record s { rings = ring_put s.rings x.ring })
      put_at = record {
        net_is = goes.net_is ∙ a.net_is;
        settings = goes.settings ∙ a.settings;
        own = own_put s r x.ring h own.me own.inc a.own;
        ring = ring;
        others = λ m ne. a.others m ne ∙ sym (others m ne);
        sends = λ p i. carried_on net v v' goes.grows p p.body (a.sends p i);
        records = λ q i. tells_on net v v' goes.grows q (a.records q i);
        starts = λ y i. a.starts y (subst (Has y) goes.starts i);
      }

      by : (o : Option RingSet) → ((y : RingSet) → o ≡ Some y → r.net ≡ net → Has {A = Told} (record { node = n; id = y.id; members = y.members; neighbour = y.neighbour }) v'.told) → (q : Happened) → Has q (set_records s.views.me x.ring.net o) → Tells net v' q
      by None told q i = absurd i
      by (Some y) told q (inl e) =
          let here : Tells net v' (happened.Ring s.views.me x.ring.net y.id y.members y.neighbour) = λ f. subst (λ z. Has {A = Told} (record { node = z; id = y.id; members = y.members; neighbour = y.neighbour }) v'.told) (sym a.own.me) (told y refl (sym own.net_is ∙ f)) in
          subst (Tells net v') (sym e) here
      by (Some y) told q (inr z) = absurd z

  -- a ring of another network
  pub other_taken : (v : Network) (s : Core) (r : Ring) (e : RingEvent) → Has r s.rings → r.net ≢ net → At net w n v s → At net w n v (ring_taken s (ring_step r e))
  other_taken v s r e h off a =
      let own = own_step r e in
      taken_at v v s r (ring_step r e) h own (record { net_is = refl; settings = refl; starts = refl; grows = record { sent = λ y i. i; told = λ y i. i } }) (put_there net s.rings (ring_step r e).ring (λ f. off (sym own.net_is ∙ f)) ∙ a.ring) (λ m ne. refl) (λ y i f. absurd (off f)) (λ y i f. absurd (off f)) a

  -- the ring of this one
  pub this_taken : (v : Network) (s : Core) (r : Ring) (e : RingEvent) → find (is_on net) s.rings ≡ Some r → r.net ≡ net → At net w n v s → At net w n (step_taken v (ring_step r e)) (ring_taken s (ring_step r e))
  unfolding step_taken sent_by told_by ring_at
  this_taken v s r e is on a =
      taken_at v (step_taken v x) s r x h own goes (put_here net s.rings x.ring r (own.net_is ∙ on) is ∙ sym (with_here n v.rings x.ring r mine (sym a.ring ∙ is))) (λ m ne. with_there m v.rings x.ring (λ f. ne (sym f ∙ mine))) sent told a
    where
      x : RingWork
      x = ring_step r e

      own : OwnWork r.net r.me r.inc x
      own = own_step r e

      h : Has r s.rings
      h = (find_has (is_on net) s.rings r is).0

      mine : x.ring.me ≡ n
      mine = own.me ∙ a.own.mine r h

      life : x.ring.inc ≡ w.incs n
      life = own.inc ∙ a.own.life r h

      goes : GoesOn v (step_taken v x)
      goes = record {
        net_is = refl;
        settings = refl;
        starts = refl;
        grows = record { sent = λ y i. append_has_left y v.sent (map (sent_by x.ring) x.sends) i; told = λ y i. append_has_left y v.told (told_by x.ring x.set) i };
      }

      in_map : (ys : List RingSend) (y : RingSend) → Has y ys → Has {A = Sent} (record { from = n; inc = w.incs n; to = y.to; packet = y.packet }) (map (sent_by x.ring) ys)
      in_map [] y i = absurd i
      in_map (z ∷ zs) y (inl f) = inl (ap (λ (q : RingSend). record { from = n; inc = w.incs n; to = q.to; packet = q.packet }) f ∙ ap (λ m. record { from = m; inc = w.incs n; to = z.to; packet = z.packet }) (sym mine) ∙ ap (λ m. record { from = x.ring.me; inc = m; to = z.to; packet = z.packet }) (sym life))
      in_map (z ∷ zs) y (inr i) = inr (in_map zs y i)

      sent : (y : RingSend) → Has y x.sends → r.net ≡ net → Has {A = Sent} (record { from = n; inc = w.incs n; to = y.to; packet = y.packet }) (v.sent ++ map (sent_by x.ring) x.sends)
      sent y i f = append_has_right (record { from = n; inc = w.incs n; to = y.to; packet = y.packet }) v.sent (map (sent_by x.ring) x.sends) (in_map x.sends y i)

      told : (y : RingSet) → x.set ≡ Some y → r.net ≡ net → Has {A = Told} (record { node = n; id = y.id; members = y.members; neighbour = y.neighbour }) (v.told ++ told_by x.ring x.set)
      told y f g =
          let t : Told = record { node = n; id = y.id; members = y.members; neighbour = y.neighbour } in
          append_has_right t v.told (told_by x.ring x.set) (subst (λ o. Has t (told_by x.ring o)) (sym f) (inl (ap (λ m. record { node = m; id = y.id; members = y.members; neighbour = y.neighbour }) (sym mine))))
