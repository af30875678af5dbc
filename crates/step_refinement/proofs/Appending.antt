-- The leader of a group appends an entry, closes the phases of a protocol, and begins one.
use Rattle.std.proofs.Common.{◌≤◌, ◌≡◌, ◌⊎◌, ◌<◌, ℕ, zero, suc, ◌+◌, List, [], ◌∷◌, ◌++◌, length, take, Option, Some, None, Bool, true, false, refl, sym, ap, ◌∙◌, subst, inl, inr, ⊎_elim, append_assoc, arith}
use Rattle.std.specs.Prelude.{not, map, filter, fold, flat_map, slice_get, nat_le, if◌then◌else◌}
use Rattle.std.proofs.lemmas.List.{append-nil}
use Rattle.rsct_packet.specs.declared.ids.ViewId.{ViewId}
use Rattle.rsct_packet.specs.declared.ids.Member.{Member}
use Rattle.rsct_packet.specs.declared.ids.ProtoId.{ProtoId}
use Rattle.rsct_packet.specs.declared.ids.ProviderId.{ProviderId}
use Rattle.rsct_packet.specs.Providers.{among}
use Rattle.rsct_packet.specs.Search.{Has}
use Rattle.rsct_packet.proofs.HasLaws.{has_append, append_has_left, append_has_right, has_map}
use Rattle.proposal_core.specs.declared.proposal.Cause.{Cause}
use Rattle.proposal_core.specs.declared.proposal.Cause.TheVariants.{Died, Gone}
use Rattle.group_attr.specs.declared.attrs.Phases.{Phases}
use Rattle.group_attr.specs.declared.attrs.Phases.TheVariants.{One, Many}
use Rattle.proposal_core.specs.declared.proposal.Proposal.{Proposal}
use Rattle.proposal_core.specs.declared.entry.Entry.{Entry}
use Rattle.proposal_core.specs.declared.entry.Entry.TheVariants.{Once, Begin}
use Rattle.proposal_core.specs.declared.entry.Vote.{Vote}
use Rattle.proposal_core.specs.declared.entry.Vote.TheVariants as vote
use Rattle.proposal_core.specs.declared.group_state.GroupState.{GroupState}
use Rattle.proposal_core.specs.declared.group_state.Running.{Running}
use Rattle.proposal_core.specs.Fold.{empty_state, max_phases}
use Rattle.proposal_core.specs.Fold as states
use Rattle.proposal_core.specs.GroupView.{GroupView}
use Rattle.proposal_core.specs.Lists.{list_or_new, len_in, with_entry}
use Rattle.vote_phases.specs.Tally.{TallyView, outcome}
use Rattle.batch_rules.specs.Waiting.{WaitingView, takes_failure, add_failure}
use Rattle.client_callbacks.specs.declared.ballot.Filled.{Filled}
use Rattle.client_callbacks.specs.Ballots.{BallotView}
use Rattle.session_state.specs.declared.casts.Cast.{Cast}
use Rattle.session_state.specs.declared.state.SessionState.{SessionState}
use Rattle.session_state.specs.HandOn.{hearers, casts_out}
use Rattle.session_state.specs.HandOn as session
use Rattle.subscribe_core.specs.Subs.{differs}
use Rattle.view_state.specs.declared.views.Views.{Views}
use Rattle.node_state.specs.declared.group.GroupRow.{GroupRow}
use Rattle.node_state.specs.declared.group.Led.{Led}
use Rattle.node_state.specs.declared.packet.Body.{Body}
use Rattle.node_state.specs.declared.packet.Body.TheVariants as body
use Rattle.node_state.specs.declared.packet.Packet.{Packet}
use Rattle.node_state.specs.declared.state.Core.{Core}
use Rattle.node_state.specs.State.{row_of, with_row, with_led, led_of, list_of, state_of, list_forgotten, len_of, frozen, leader_of, leads, others, least_acked, acked_by, acked_from, forget_below, fits_at_end, recorded, recorded_all, with_sessions}
use Rattle.node_state.specs.Sending.{ring_network, network_to, level_for, domain_at, packet_on, send_on, sent, send_all, send_if_known}
use Rattle.node_state.specs.HandOn.{Answering, fills, heard, noted, notes, ballot_sent, cast_sent_of, casts_sent, hand_on}
use Rattle.node_state.specs.Leading.{put, forget_least, with_waiting, wait_if, new_members_wait, appended, append_if_fits, begin_many, begins, tally_set, tally_for, tally_opened, closing, closing_of, closing_entry, is_phase, closes_from, closes}
use Rattle.run_safety.specs.Group.{member, Standing, Line, kept, Put}
use Rattle.run_safety.specs.Group as group
use Rattle.run_safety.specs.GroupLists.{puts_of}
use Rattle.run_safety.specs.Bases.{Bases, state_of_list}
use Rattle.run_safety.specs.Requests.{proposal_of, carried}
use Rattle.run_safety.specs.Tallies.{IsTallied}
use Rattle.run_safety.specs.Moves.{Due, Appends, grown}
use Rattle.step_refinement.specs.Ghost.{Ghost, Lives}
use Rattle.step_refinement.specs.Tied.{Decided, Shows, IsAcked, RowIs, LeaderKeeps, Scene, opening_of, Tied}
use Rattle.step_refinement.specs.Rules.{at_node}
use Rattle.step_refinement.proofs.Changed.{set_here, changes}
use Rattle.node_state.proofs.NameOrder.{KeepsName, cases_text}
use Rattle.step_refinement.proofs.Idle.{led_lightens}
use Rattle.step_refinement.proofs.RowWorks.{keeps_of, waits_of, tied_row}
use Rattle.step_refinement.proofs.Leads.{LeadsAs, leads_same, leads_row, leads_known}
use Rattle.step_refinement.proofs.Acks.{led_keeps, settled, fold_least, tied_least}
use Rattle.step_refinement.proofs.SessionLaws.{handed_later, handed_gone, hearer_has}
use Rattle.step_refinement.proofs.Puts.{Leaves, put_ghost, len_now, put_other, put_tied}
use Rattle.step_refinement.proofs.Handed.{Stepping, handed_tied}
use Rattle.step_refinement.proofs.Turns.{handed_fewer}
use Rattle.step_refinement.proofs.Closings.{closing_tallied, fits_whole}

-- ---- what is sent to many

pub sent_all_is : (ns : List ℕ) (c : Core) (b : Body) → send_all c ns b ≡ record c { sends = c.sends ++ map (λ m. packet_on c (network_to c m) m b) ns }
unfolding send_all sent send_on packet_on network_to ring_network level_for domain_at
sent_all_is [] c b = ap (λ z. record c { sends = z }) (sym (append-nil c.sends))
sent_all_is (m ∷ ns) c b =
    sent_all_is ns (sent c m b) b ∙ ap (λ z. record c { sends = z }) (append_assoc c.sends (packet_on c (network_to c m) m b ∷ []) (map (λ k. packet_on c (network_to c k) k b) ns))

sends_kept : (g : List ℕ) (w : Scene) (n : ℕ) (c : Core) (t : Tied g w n c) (ps : List Packet) → ((p : Packet) → Has p ps → Shows t.ghost g p) → (u : Tied g w n (record c { sends = c.sends ++ ps })) × (u.ghost ≡ t.ghost)
unfolding row_of
sends_kept g w n c t ps ok = (
  record {
    ghost = t.ghost;
    life = t.life;
    lines = t.lines;
    own = t.own;
    others = t.others;
    packets = λ p h. ⊎_elim (λ (a : Has p (c.sends ++ ps)). ⊎_elim (λ (b : Has p c.sends). t.packets p (append_has_left p c.sends w.sent b)) (λ (b : Has p ps). ok p b) (has_append p c.sends ps a)) (λ (b : Has p w.sent). t.packets p (append_has_right p c.sends w.sent b)) (has_append p (c.sends ++ ps) w.sent h);
    sound = t.sound;
    placed = t.placed;
    nobody = t.nobody;
    turns = t.turns;
  },
  refl,
)

-- ---- what handing on leaves of rows

casts_rows : (k : List ℕ) (to : Option ℕ) (cs : List Cast) (c : Core) → ((casts_sent c k to cs).groups ≡ c.groups) × ((casts_sent c k to cs).config ≡ c.config)
unfolding casts_sent cast_sent_of ballot_sent send_if_known sent send_on
casts_rows k to cs c = by (frozen c)
  where
    ballot : (c : Core) (to : Option ℕ) (p : ProviderId) (x : ProtoId × ℕ × BallotView) (b : Option Filled) → ((ballot_sent c k to p x.0 x.1 b).groups ≡ c.groups) × ((ballot_sent c k to p x.0 x.1 b).config ≡ c.config)
    ballot c to p x None = (refl, refl)
    ballot c None p x (Some b) = (refl, refl)
    ballot c (Some m) p x (Some b) = (refl, refl)

    one : (c : Core) (p : ProviderId) (o : Option (ProtoId × ℕ × BallotView)) → ((cast_sent_of c k to p o).groups ≡ c.groups) × ((cast_sent_of c k to p o).config ≡ c.config)
    one c p None = (refl, refl)
    one c p (Some x) = ballot c to p x (x.2).filled

    all : (cs : List Cast) (c : Core) → ((fold (λ d x. cast_sent_of d k to x.provider x.cast) c cs).groups ≡ c.groups) × ((fold (λ d x. cast_sent_of d k to x.provider x.cast) c cs).config ≡ c.config)
    all [] c = (refl, refl)
    all (x ∷ cs) c =
        let a = all cs (cast_sent_of c k to x.provider x.cast) in
        let b = one c x.provider x.cast in (a.0 ∙ b.0, a.1 ∙ b.1)

    by : (b : Bool) → ((elim b as (λ _. Core) [ true ↦ c | false ↦ fold (λ d x. cast_sent_of d k to x.provider x.cast) c cs ]).groups ≡ c.groups) × ((elim b as (λ _. Core) [ true ↦ c | false ↦ fold (λ d x. cast_sent_of d k to x.provider x.cast) c cs ]).config ≡ c.config)
    by true = (refl, refl)
    by false = all cs c

noted_rows : (c : Core) (h : List ℕ) (i : ℕ) (before after : GroupState) → ((noted c h i before after).groups ≡ c.groups) × ((noted c h i before after).config ≡ c.config)
unfolding noted notes recorded_all
noted_rows c h i before after = by (differs before after)
  where
    by : (b : Bool) → ((elim b as (λ _. Core) [ true ↦ notes c h (Some i) after | false ↦ c ]).groups ≡ c.groups) × ((elim b as (λ _. Core) [ true ↦ notes c h (Some i) after | false ↦ c ]).config ≡ c.config)
    by true = (refl, refl)
    by false = (refl, refl)

pub handed_rows : (f : Answering) (c : Core) (to : Option ℕ) (h : List ℕ) (i : ℕ) (before after : GroupState) (e : Entry) → ((hand_on f c to h i before after e).groups ≡ c.groups) × ((hand_on f c to h i before after e).config ≡ c.config)
unfolding hand_on recorded_all with_sessions
handed_rows f c to h i before after e =
    let bs : List (Option Filled) = fills f (length c.records) c.sessions e after (hearers c.sessions h before e) in
    let cs : List Cast = casts_out c.sessions h before after e bs in
    let d : Core = noted (recorded_all c (flat_map (heard c h i e after) cs)) h i before after in
    let a = casts_rows h to cs (with_sessions d (session.handed_on c.sessions h before after e bs)) in
    let b = noted_rows (recorded_all c (flat_map (heard c h i e after) cs)) h i before after in (a.0 ∙ b.0, a.1 ∙ b.1)

-- ---- the leader puts an entry

-- what the entry begins is due and decided, and waits no longer; and the view is not shut to the group
pub record MayPut (x : Ghost) (v : ViewId) (list : List Entry) (l : Led) (e : Entry) : Type 0 where
  pub due : (p : ProviderId) (r : ℕ) → Has (p, r) (carried e) → Due x.ps v list e p r
  pub decided : (p : ProviderId) (r : ℕ) → Has (p, r) (carried e) → Decided l p r
  pub waits_not : (p : ProviderId) → among l.waiting.joins p ≡ true → Has (p, p.join) (carried e) → ⊥
  pub unshut : Has v x.shut → ⊥

pub may_carry_none : (x : Ghost) (v : ViewId) (list : List Entry) (l : Led) (e : Entry) → carried e ≡ [] → (Has v x.shut → ⊥) → MayPut x v list l e
may_carry_none x v list l e none unshut =
    record { due = λ p r h. absurd (nothing p r h); decided = λ p r h. absurd (nothing p r h); waits_not = λ p i h. nothing p p.join h; unshut = unshut }
  where
    nothing : (p : ProviderId) (r : ℕ) → Has (p, r) (carried e) → ⊥
    nothing p r h = subst (λ z. Has {A = ProviderId × ℕ} (p, r) z) none h

get_pushed : (xs : List Entry) (i : ℕ) (e d : Entry) → slice_get (xs ++ e ∷ []) i ≡ Some d → (slice_get xs i ≡ Some d) ⊎ (d ≡ e)
get_pushed [] zero e d q = let z : d ≡ e = cc in inr z
get_pushed [] (suc i) e d q = absurd (cc)
get_pushed (x ∷ xs) zero e d q = inl q
get_pushed (x ∷ xs) (suc i) e d q = get_pushed xs i e d q

module _ (g : List ℕ) (w : Scene) (n : ℕ) (s : Core) (t : Tied g w n s) (e : Entry) (u : SessionState) (l : Leaves s.sessions u e) (room : fits_at_end s g e ≡ true) (thawed : s.views.promise ≡ s.views.view) (led : t.ghost.leads s.views.view ≡ Some (member n s.views.inc)) (may : MayPut t.ghost s.views.view (t.ghost.nodes n).list (row_of s g).led e) (tallied : IsTallied e) where
  abbrev append : group.Packet
  append = group.Append (t.ghost.nodes n).view (length (t.ghost.nodes n).list) e

  abbrev y : Ghost
  y = put_ghost g w n s t e u l room (append ∷ t.ghost.ps)

  refusal : (v : ViewId) (p : ProviderId) (r : ℕ) → Has (group.Refusal v p r) (append ∷ t.ghost.ps) → Has (group.Refusal v p r) t.ghost.ps
  refusal v p r (inl q) = absurd (cc)
  refusal v p r (inr h) = h

  stable : (v : ViewId) (k : ℕ) → Has (group.Stable v k) (append ∷ t.ghost.ps) → Has (group.Stable v k) t.ghost.ps
  stable v k (inl q) = absurd (cc)
  stable v k (inr h) = h

  request : (v : ViewId) (p : ProviderId) (r : ℕ) (a : Proposal) → Has (group.Request v p r a) (append ∷ t.ghost.ps) → Has (group.Request v p r a) t.ghost.ps
  request v p r a (inl q) = absurd (cc)
  request v p r a (inr h) = h

  fitting : states.fits (state_of_list t.ghost.bases (t.ghost.nodes n).view (t.ghost.nodes n).list) e ≡ true
  unfolding fits_at_end list_of
  fitting =
      let k = keeps_of t.ghost s.views.view (t.ghost.nodes n).list (row_of s g).list t.own.0.row_is.list in
      subst (λ v. states.fits (state_of_list t.ghost.bases v (t.ghost.nodes n).list) e ≡ true) (sym t.own.0.stands.view) (fits_whole t.ghost s.views.view (t.ghost.nodes n).list (list_of s g) e k room)

  lives : Lives (opening_of w.config) y
  lives =
      let h = t.own.0.stands in
      Appends t.ghost.nodes (at_node t.ghost.nodes n (grown (t.ghost.nodes n) e)) t.ghost.ps t.ghost.all t.ghost.leads t.ghost.bases n (t.ghost.nodes n) e t.life refl (subst (λ k. 0 < k) (sym h.inc) h.up) (ap t.ghost.leads h.view ∙ led ∙ ap (λ j. Some (member n j)) (sym h.inc)) (h.view ∙ sym thawed ∙ sym h.promise) (λ p r q. subst (λ v. Due t.ghost.ps v (t.ghost.nodes n).list e p r) (sym h.view) (may.due p r q)) tallied fitting (changes t.ghost.nodes n (grown (t.ghost.nodes n) e))

  listed : (y.nodes n).list ≡ (t.ghost.nodes n).list ++ e ∷ []
  listed = ap (λ (z : Standing). z.list) (set_here t.ghost.nodes n (grown (t.ghost.nodes n) e))

  -- it was there, or it is the entry
  was : (i : ℕ) (d : Entry) → slice_get (y.nodes n).list i ≡ Some d → (slice_get (t.ghost.nodes n).list i ≡ Some d) ⊎ (d ≡ e)
  was i d q = get_pushed (t.ghost.nodes n).list i e d (subst (λ z. slice_get z i ≡ Some d) listed q)

  carries : (p : ProviderId) (r : ℕ) (d : Entry) → d ≡ e → Has (p, r) (carried d) → Has (p, r) (carried e)
  carries p r d q h = subst (λ z. Has {A = ProviderId × ℕ} (p, r) (carried z)) q h

  decides : LeaderKeeps y n s.views.inc s.views.view (row_of s g).led
  decides =
      let h = t.own.0.decides in
      record {
        refused = λ p r q c i. h.refused p r q c (refusal s.views.view p r i);
        begun = λ p r i d q a b. ⊎_elim (λ (z : slice_get (t.ghost.nodes n).list i ≡ Some d). h.begun p r i d q z b) (λ (z : d ≡ e). may.decided p r (carries p r d z b)) (was i d a);
        waiting = λ p q i. let z = h.waiting p q i in
            record {
              proposal = z.proposal;
              sent = inr z.sent;
              joins = z.joins;
              open_still = λ k. z.open_still (refusal s.views.view p p.join k);
              unbegun = λ j d a b. ⊎_elim (λ (y : slice_get (t.ghost.nodes n).list j ≡ Some d). z.unbegun j d y b) (λ (y : d ≡ e). may.waits_not p i (carries p p.join d y b)) (was j d a);
              decided = z.decided;
            };
        later = λ v a q p r i. h.later v a q p r (refusal v p r i);
        again = λ p d why q r. inr (h.again p d why q r);
        leads_it = h.leads_it;
        apart = h.apart;
        lasts = h.lasts;
      }

  -- the entry stands in flight, and the node leads
  lead_own : (t' : Tied g w n (with_sessions (put s g e) u)) × (Has (Put n s.views.view (len_of s g) e) (kept t'.ghost.all) × (state_of (put s g e) g ≡ state_of_list t'.ghost.bases s.views.view (take (len_of s g + 1) (puts_of n s.views.view (kept t'.ghost.all))))) × Has (group.Append s.views.view (len_of s g) e) t'.ghost.ps × (t'.ghost.leads s.views.view ≡ Some (member n s.views.inc))
  lead_own =
      let k = put_tied g w n s t e u l room (append ∷ t.ghost.ps) (λ p h. inr h) refusal stable request (λ q h. may.unshut h) lives decides in
      (k.0, k.1, k.2 (group.Append s.views.view (len_of s g) e) (inl (λ i. group.Append (sym t.own.0.stands.view i) (len_now g w n s t e u l room i) e)), k.3 s.views.view ∙ led)

-- ---- appending

-- a step that goes on leading what it led
pub record Leading (g : List ℕ) (w : Scene) (n : ℕ) (s c : Core) : Type 0 where
  pub tied : Tied g w n c
  pub same : c.views ≡ s.views
  pub leads : LeadsAs s c

pub joins_kept : (p : ProviderId) (why : Cause) (x : WaitingView) → (add_failure p why x).joins ≡ x.joins
joins_kept p why x = by (takes_failure p x)
  where
    by : (b : Bool) → (if b then record x { failures = x.failures ++ record { provider = p; cause = why } ∷ [] } else x).joins ≡ x.joins
    by true = refl
    by false = refl

module _ (g : List ℕ) (w : Scene) (n : ℕ) (s : Core) where
  pub row_goes : (c : Core) (h : List ℕ) (f : GroupRow → GroupRow) → KeepsName f → ((x : GroupRow) → (f x).leader ≡ x.leader) → Leading g w n s c → Tied g w n (with_row c h f) → Leading g w n s (with_row c h f)
  unfolding with_row
  row_goes c h f keeps leader t k =
      record { tied = k; same = t.same; leads = λ z. leads_row c h f keeps leader t.tied.own.0.order z ∙ t.leads z }

  -- what a leader keeps changes, but for acknowledged lengths, decisions and joins that wait
  pub led_goes : (c : Core) (h : List ℕ) (f : Led → Led) → ((l : Led) → ((f l).decided ≡ l.decided) × ((f l).waiting.joins ≡ l.waiting.joins) × ((f l).acked ≡ l.acked)) → Leading g w n s c → Leading g w n s (with_led c h f)
  unfolding with_led
  led_goes c h f keeps t =
      row_goes c h (λ row. record row { led = f row.led }) (λ x. refl) (λ x. refl) t (tied_row g w n c t.tied h (λ row. record row { led = f row.led }) (λ x. refl) (led_lightens f (λ l. let q : length (f l).waiting.joins ≡ length l.waiting.joins = ap (λ (z : List ProviderId). length z) (keeps l).1 in omega arith)) (λ p i. waits_of g w n c t.tied h p (subst (λ js. among js p ≡ true) (keeps (row_of c h).led).1 i)) new)
    where
      new : h ≡ g → RowIs t.tied.ghost n c.views.view c.views.members (record (row_of c h) { led = f (row_of c h).led }) × LeaderKeeps t.tied.ghost n c.views.inc c.views.view (f (row_of c h).led)
      new e =
          let P : List ℕ → Type 0 = λ z. RowIs t.tied.ghost n c.views.view c.views.members (record (row_of c z) { led = f (row_of c z).led }) × LeaderKeeps t.tied.ghost n c.views.inc c.views.view (f (row_of c z).led) in
          let k = keeps (row_of c g).led in
          let is = t.tied.own.0 in
          subst P (sym e) (
            record {
              list = is.row_is.list;
              stable = is.row_is.stable;
              leader = is.row_is.leader;
              acked = λ m i a. subst (λ old. IsAcked t.tied.ghost c.views.view m i (acked_from m old)) (sym k.2) (is.row_is.acked m i a);
              covers = λ j i a b m q r ne. subst (λ old. i ≤ acked_from m old) (sym k.2) (is.row_is.covers j i a b m q r ne);
            },
            led_keeps t.tied.ghost n c.views.inc c.views.view (row_of c g).led (f (row_of c g).led) k.0 k.1 is.decides,
          )

  pub waits_goes : (c : Core) (h : List ℕ) (p : ProviderId) (why : Cause) → Leading g w n s c → Leading g w n s (with_waiting c h (add_failure p why))
  unfolding with_waiting
  waits_goes c h p why t = led_goes c h (λ l. record l { waiting = add_failure p why l.waiting }) (λ l. (refl, joins_kept p why l.waiting, refl)) t

  waits_if_goes : (c : Core) (h : List ℕ) (p : ProviderId) (a b : Bool) → Leading g w n s c → Leading g w n s (wait_if c h p a b)
  unfolding wait_if
  waits_if_goes c h p true b t = waits_goes c h p Died t
  waits_if_goes c h p false true t = waits_goes c h p Gone t
  waits_if_goes c h p false false t = t

  new_wait : (h : List ℕ) (after : GroupState) (gone ps : List ProviderId) (c : Core) → Leading g w n s c → Leading g w n s (fold (λ d p. wait_if d h p (among after.failed p) (among gone p)) c ps)
  new_wait h after gone [] c t = t
  new_wait h after gone (p ∷ ps) c t =
      new_wait h after gone ps (wait_if c h p (among after.failed p) (among gone p)) (waits_if_goes c h p (among after.failed p) (among gone p) t)

-- ---- a view that is not shut to the group

-- where the node leads the group, and has a list of it or a join that waits, the view is not shut to it
pub led_open : (g : List ℕ) (w : Scene) (n : ℕ) (c : Core) (t : Tied g w n c) → t.ghost.leads c.views.view ≡ Some (member n c.views.inc) → ((row_of c g).list ≡ None → (row_of c g).led.waiting.joins ≡ [] → ⊥) → Has c.views.view t.ghost.shut → ⊥
led_open g w n c t led busy h = let z = t.own.0.idles.shut led h in busy z.bare z.idle

-- nor where something runs, or somebody is a member, or a source is named: there is a list
module _ (g : List ℕ) (w : Scene) (n : ℕ) (s c : Core) (h : List ℕ) (t : Leading g w n s c) (led : h ≡ g → leads s h ≡ true) (same : h ≡ g) where
  pub busy_open : ((row_of c h).list ≡ None → (row_of c h).led.waiting.joins ≡ [] → ⊥) → Has c.views.view t.tied.ghost.shut → ⊥
  busy_open busy =
      led_open g w n c t.tied (leads_known g w n c t.tied (t.leads g ∙ subst (λ z. leads s z ≡ true) same (led same))) (subst (λ z. (row_of c z).list ≡ None → (row_of c z).led.waiting.joins ≡ [] → ⊥) same busy)

  pub state_open : (state_of c h ≡ empty_state → ⊥) → Has c.views.view t.tied.ghost.shut → ⊥
  unfolding state_of list_of
  state_open some = busy_open (λ none idle. some (ap (λ (l : Option GroupView). (list_or_new l).state) none))

  pub running_open : ((state_of c h).running ≡ None → ⊥) → Has c.views.view t.tied.ghost.shut → ⊥
  running_open runs = state_open (λ e. runs (ap (λ (st : GroupState). st.running) e))

module _ (g : List ℕ) (w : Scene) (n : ℕ) (s : Core) (f : Answering) (thawed : s.views.promise ≡ s.views.view) where
  module _ (c : Core) (h : List ℕ) (e : Entry) (led : h ≡ g → leads s h ≡ true) (room : fits_at_end c h e ≡ true) (t : Leading g w n s c) (may : h ≡ g → MayPut t.tied.ghost c.views.view (t.tied.ghost.nodes n).list (row_of c h).led e) (tallied : IsTallied e) where
    -- what is sent of the entry, as if it were of another group
    abbrev entry_packets : List ℕ → List Packet
    entry_packets k =
        map (λ m. packet_on (put c k e) (network_to (put c k e) m) m (body.Entry (put c k e).views.view k (len_of c k) (least_acked (put c k e) k) e)) (others (put c k e))

    abbrev put_sent : List ℕ → Core
    put_sent k = record (put c k e) { sends = (put c k e).sends ++ entry_packets k }

    abbrev before : GroupState
    before = state_of c h

    abbrev after : GroupState
    after = state_of (put c h e) h

    abbrev bs : List (Option Filled)
    bs = fills f (length (put c h e).records) c.sessions e after (hearers c.sessions h before e)

    abbrev u : SessionState
    u = session.handed_on c.sessions h before after e bs

    leaves : Leaves c.sessions u e
    leaves = record { later = handed_later c.sessions h before after e bs; gone = handed_gone c.sessions h before after e bs; fewer = handed_fewer c.sessions h before after e bs }

    hears : (q : ProviderId) → Has q (hearers c.sessions h before e) → q.node ≡ n
    hears q i =
        let k = hearer_has c.sessions h before e q i in
        ap (λ (z : ProviderId). z.node) (sym k.2) ∙ (t.tied.own.0.owes.providers k.0 k.1).0

    thawed_now : c.views.promise ≡ c.views.view
    thawed_now = subst (λ (z : Views). z.promise ≡ z.view) (sym t.same) thawed

    put_of_own : h ≡ g → Stepping g w n h c.views.view (len_of c g) e (state_of (put c g e) g) c.views (with_sessions (put_sent g) u)
    unfolding put recorded with_sessions with_row packet_on least_acked session.handed_on session.heard row_of acked_by
    put_of_own q =
        let known : t.tied.ghost.leads c.views.view ≡ Some (member n c.views.inc) = leads_known g w n c t.tied (subst (λ z. leads c z ≡ true) q (t.leads h ∙ led q)) in
        let k = lead_own g w n c t.tied e u leaves (subst (λ z. fits_at_end c z e ≡ true) q room) thawed_now known (subst (λ z. MayPut t.tied.ghost c.views.view (t.tied.ghost.nodes n).list (row_of c z).led e) q (may q)) tallied in
        let d : Core = with_sessions (put c g e) u in
        let z = settled g w n d k.0 (least_acked (put c g e) g) (λ m i. fold_least (λ (m : Member). acked_by d (row_of d g) m.node) d.views.members (len_in (row_of d g).list) m i) k.3 in
        let shown : (p : Packet) → Has p (entry_packets g) → Shows z.0.ghost g p = λ p i.
        let j = has_map (λ m. packet_on (put c g e) (network_to (put c g e) m) m (body.Entry (put c g e).views.view g (len_of c g) (least_acked (put c g e) g) e)) p (others (put c g e)) i in
        subst (Shows z.0.ghost g) (sym j.2) (λ _. record { sent = z.2.packets (group.Append c.views.view (len_of c g) e) k.2; stable = z.1; leads = ap (λ a. a c.views.view) z.2.leads ∙ k.3 ∙ ap (λ a. Some (member a c.views.inc)) (sym t.tied.own.0.stands.me) })
        in
        let y = sends_kept g w n d z.0 (entry_packets g) shown in
        let facts = subst (λ (a : List Line × Bases). Has (Put n c.views.view (len_of c g) e) (kept a.0) × (state_of (put c g e) g ≡ state_of_list a.1 c.views.view (take (len_of c g + 1) (puts_of n c.views.view (kept a.0))))) (λ i. (sym z.2.all i, sym z.2.bases i)) k.1 in
        record { tied = y.0; same = refl; after = λ r. subst (λ (a : Ghost). Has (Put n c.views.view (len_of c g) e) (kept a.all) × (state_of (put c g e) g ≡ state_of_list a.bases c.views.view (take (len_of c g + 1) (puts_of n c.views.view (kept a.all))))) (sym y.1) facts }

    put_of_other : (h ≡ g → ⊥) → Stepping g w n h c.views.view (len_of c h) e after c.views (with_sessions (put_sent h) u)
    unfolding put recorded with_sessions with_row packet_on
    put_of_other ne =
        let k = put_other g w n c t.tied h e u leaves thawed_now ne in
        let shown : (p : Packet) → Has p (entry_packets h) → Shows k.ghost g p = λ p i.
        let j = has_map (λ m. packet_on (put c h e) (network_to (put c h e) m) m (body.Entry (put c h e).views.view h (len_of c h) (least_acked (put c h e) h) e)) p (others (put c h e)) i in
        subst (Shows k.ghost g) (sym j.2) (λ q. absurd (ne q))
        in
        let y = sends_kept g w n (with_sessions (put c h e) u) k (entry_packets h) shown in
        record { tied = y.0; same = refl; after = λ q. absurd (ne q) }

    put_of : Stepping g w n h c.views.view (len_of c h) e after c.views (with_sessions (put_sent h) u)
    put_of =
        ⊎_elim (λ (q : h ≡ g). subst (λ k. Stepping g w n h c.views.view (len_of c k) e (state_of (put c k e) k) c.views (with_sessions (put_sent k) u)) (sym q) (put_of_own q)) put_of_other (cases_text h g)

    -- put, sent and handed on
    abbrev handed : Core
    handed = hand_on f (put_sent h) (leader_of (put_sent h) h) h (len_of c h) before after e

    handed_goes : Leading g w n s handed
    unfolding put recorded with_row
    handed_goes =
        let k = handed_tied g w n h c.views.view (len_of c h) e after c.views f (leader_of (put_sent h) h) (put_sent h) before refl hears put_of in
        let r = handed_rows f (put_sent h) (leader_of (put_sent h) h) h (len_of c h) before after e in
        record {
          tied = k.tied;
          same = k.same ∙ t.same;
          leads = λ z. leads_same (put_sent h) handed r.0 k.same r.1 z ∙ leads_same (with_row c h (λ row. record row { list = Some (with_entry (list_or_new row.list) c.views.view e) })) (put_sent h) refl refl refl z ∙ leads_row c h (λ row. record row { list = Some (with_entry (list_or_new row.list) c.views.view e) }) (λ x. refl) (λ x. refl) t.tied.own.0.order z ∙ t.leads z;
        }

    waits_after : Leading g w n s (new_members_wait (forget_least handed h) h before after)
    unfolding new_members_wait forget_least forget_below
    waits_after =
        new_wait g w n s h after (led_of (forget_least handed h) h).gone (filter (λ p. not (among before.members p)) after.members) (forget_least handed h) (row_goes g w n s handed h (λ row. record row { list = list_forgotten (least_acked handed h) row.list }) (λ x. refl) (λ x. refl) handed_goes (tied_least g w n handed handed_goes.tied h (λ q. leads_known g w n handed handed_goes.tied (handed_goes.leads g ∙ subst (λ z. leads s z ≡ true) q (led q)))))

    pub appended_goes : Leading g w n s (appended f c h e)
    unfolding appended
    appended_goes =
        subst (λ z. Leading g w n s (new_members_wait (forget_least (hand_on f z (leader_of z h) h (len_of c h) before after e) h) h before after)) (sym (sent_all_is (others (put c h e)) (put c h e) (body.Entry (put c h e).views.view h (len_of c h) (least_acked (put c h e) h) e))) waits_after

  -- ---- closing

  closing_runs : (l : Led) (t : Option TallyView) (run : Option Running) (e : Entry) → closing_entry l t run ≡ Some e → run ≡ None → ⊥
  unfolding closing_entry
  closing_runs l None run e q none = cc
  closing_runs l (Some t) None e q none = cc
  closing_runs l (Some t) (Some run) e q none = cc

  closing_carries : (l : Led) (t : Option TallyView) (run : Option Running) (e : Entry) → closing_entry l t run ≡ Some e → carried e ≡ []
  unfolding closing_entry closing_of closing
  closing_carries l None run e q = absurd (cc)
  closing_carries l (Some t) None e q = absurd (cc)
  closing_carries l (Some t) (Some run) e q = by (outcome t) q
    where
      one : (v : Vote) (last : Bool) → closing l t run v last ≡ e → carried e ≡ []
      one vote.Approve last q = ap carried (sym q)
      one vote.Reject last q = ap carried (sym q)
      one vote.Continue true q = ap carried (sym q)
      one vote.Continue false q = ap carried (sym q)

      by : (o : Option Vote) → closing_of l t run o ≡ Some e → carried e ≡ []
      by None q = absurd (cc)
      by (Some v) q = one v (nat_le max_phases run.phase) (let z : closing l t run v (nat_le max_phases run.phase) ≡ e = cc in z)

  tally_goes : (c : Core) (h : List ℕ) (o : Option TallyView) → Leading g w n s c → Leading g w n s (tally_set c h o)
  unfolding tally_set
  tally_goes c h o t = led_goes g w n s c h (λ l. record l { tally = o; given = [] }) (λ l. (refl, refl, refl)) t

  pub opened_goes : (c : Core) (h : List ℕ) → Leading g w n s c → Leading g w n s (tally_opened c h)
  unfolding tally_opened
  opened_goes c h t = tally_goes c h (Some (tally_for (state_of c h) (led_of c h).gone)) t

  closes_goes : (fuel : ℕ) (c : Core) (h : List ℕ) → (h ≡ g → leads s h ≡ true) → Leading g w n s c → Leading g w n s (closes_from fuel f c h)
  unfolding closes_from
  closes_goes zero c h led t = t
  closes_goes (suc k) c h led t = by (closing_entry (led_of c h) (led_of c h).tally (state_of c h).running) refl (closes_goes k)
    where
      next : (e : Entry) → closing_entry (led_of c h) (led_of c h).tally (state_of c h).running ≡ Some e → fits_at_end c h e ≡ true → Leading g w n s (appended f c h e)
      next e q room =
          appended_goes c h e led room t (λ same. may_carry_none t.tied.ghost c.views.view (t.tied.ghost.nodes n).list (row_of c h).led e (closing_carries (led_of c h) (led_of c h).tally (state_of c h).running e q) (running_open g w n s c h t led same (λ none. closing_runs (led_of c h) (led_of c h).tally (state_of c h).running e q none))) (closing_tallied (led_of c h) (led_of c h).tally (state_of c h).running e q)

      phase : (e : Entry) → closing_entry (led_of c h) (led_of c h).tally (state_of c h).running ≡ Some e → fits_at_end c h e ≡ true → ((d : Core) (j : List ℕ) → (j ≡ g → leads s j ≡ true) → Leading g w n s d → Leading g w n s (closes_from k f d j)) → (b : Bool) → Leading g w n s (elim b as (λ _. Core) [ true ↦ closes_from k f (tally_opened (appended f c h e) h) h | false ↦ tally_set (appended f c h e) h None ])
      phase e q room rest true = rest (tally_opened (appended f c h e) h) h led (opened_goes (appended f c h e) h (next e q room))
      phase e q room rest false = tally_goes (appended f c h e) h None (next e q room)

      fits : (e : Entry) → closing_entry (led_of c h) (led_of c h).tally (state_of c h).running ≡ Some e → ((d : Core) (j : List ℕ) → (j ≡ g → leads s j ≡ true) → Leading g w n s d → Leading g w n s (closes_from k f d j)) → (b : Bool) → fits_at_end c h e ≡ b → Leading g w n s (elim b as (λ _. Core) [ false ↦ c | true ↦ elim (is_phase e) as (λ _. Core) [ true ↦ closes_from k f (tally_opened (appended f c h e) h) h | false ↦ tally_set (appended f c h e) h None ] ])
      fits e q rest false room = t
      fits e q rest true room = phase e q room rest (is_phase e)

      by : (o : Option Entry) → closing_entry (led_of c h) (led_of c h).tally (state_of c h).running ≡ o → ((d : Core) (j : List ℕ) → (j ≡ g → leads s j ≡ true) → Leading g w n s d → Leading g w n s (closes_from k f d j)) → Leading g w n s (elim o as (λ _. Core) [ None ↦ c | Some e ↦ elim (fits_at_end c h e) as (λ _. Core) [ false ↦ c | true ↦ elim (is_phase e) as (λ _. Core) [ true ↦ closes_from k f (tally_opened (appended f c h e) h) h | false ↦ tally_set (appended f c h e) h None ] ] ])
      by None q rest = t
      by (Some e) q rest = fits e q rest (fits_at_end c h e) refl

  pub closed_goes : (c : Core) (h : List ℕ) → (h ≡ g → leads s h ≡ true) → Leading g w n s c → Leading g w n s (closes f c h)
  unfolding closes
  closed_goes c h led t = closes_goes max_phases c h led t

  -- ---- beginning

  pub begins_goes : (c : Core) (h : List ℕ) (x : Proposal) (phases : Phases) → (h ≡ g → leads s h ≡ true) → (t : Leading g w n s c) → (h ≡ g → (e : Entry) → proposal_of e ≡ Some x → MayPut t.tied.ghost c.views.view (t.tied.ghost.nodes n).list (row_of c h).led e) → Leading g w n s (begins f c h x phases)
  unfolding begins append_if_fits begin_many
  begins_goes c h x One led t may = by (fits_at_end c h (Once x)) refl
    where
      by : (b : Bool) → fits_at_end c h (Once x) ≡ b → Leading g w n s (append_if_fits f c h (Once x) b)
      by false q = t
      by true q = appended_goes c h (Once x) led q t (λ e. may e (Once x) refl) tt
  begins_goes c h x Many led t may = by (fits_at_end c h (Begin x)) refl
    where
      by : (b : Bool) → fits_at_end c h (Begin x) ≡ b → Leading g w n s (begin_many f c h x b)
      by false q = t
      by true q =
          closed_goes (tally_opened (appended f c h (Begin x)) h) h led (opened_goes (appended f c h (Begin x)) h (appended_goes c h (Begin x) led q t (λ e. may e (Begin x) refl) tt))
