-- ACK: what members acknowledged, and what is stable.
use Rattle.std.proofs.Common.{Some, ◌≡◌, ◌≢◌, ◌≤◌, ◌⊎◌, ℕ, zero, suc, max, min, List, [], ◌∷◌, length, Bool, true, false, refl, sym, ap, ◌∙◌, subst, inl, inr, ⊎_elim, arith}
use Rattle.std.specs.Prelude.{◌==◌, ◌&&◌, ◌||◌, not, nat_le, fold, map, find}
use Rattle.std.proofs.lemmas.Bool.{eqb-true, eq-eqb, cases_eq, and_parts}
use Rattle.rsct_packet.specs.declared.ids.ViewId.{ViewId}
use Rattle.rsct_packet.specs.declared.ids.Member.{Member}
use Rattle.rsct_packet.specs.Ids.{same_view, is_member}
use Rattle.rsct_packet.specs.Mask.{nodes_of}
use Rattle.rsct_packet.specs.Search.{Has}
use Rattle.rsct_packet.proofs.HasLaws.{has_map, append_has_right}
use Rattle.proposal_core.specs.Lists.{len_in, list_or_new}
use Rattle.rsct_packet.specs.declared.ids.ProviderId.{ProviderId}
use Rattle.rsct_packet.specs.Providers.{among, differ, same_provider}
use Rattle.view_state.specs.Views.{is_frozen}
use Rattle.node_state.specs.declared.config.Config.{Config}
use Rattle.node_state.specs.declared.config.Mode.{Mode}
use Rattle.node_state.specs.declared.config.Mode.TheVariants.{Fixed, Asked, Rings}
use Rattle.node_state.specs.declared.packet.Body.TheVariants as body
use Rattle.node_state.specs.declared.packet.Packet.{Packet}
use Rattle.node_state.specs.declared.group.Acked.{Acked}
use Rattle.node_state.specs.declared.group.Led.{Led}
use Rattle.node_state.specs.declared.state.Core.{Core}
use Rattle.node_state.specs.Settings.{is_fixed}
use Rattle.node_state.specs.State.{row_of, with_led, frozen, forget_below, len_of, leads, acked_from, acked_by, least_acked, acked_raised, decision_of}
use Rattle.node_state.specs.HandOn.{Answering}
use Rattle.node_state.specs.Leading.{forget_least}
use Rattle.node_state.specs.Following.{acked, take_ack}
use Rattle.node_state.specs.Step.{first_members, is_used, used_if, take_body}
use Rattle.run_safety.specs.Group.{member, In, kept}
use Rattle.run_safety.specs.Group as group
use Rattle.run_safety.specs.Moves.{Opening, Acknowledges, Settles}
use Rattle.run_safety.proofs.Whole.{Whole}
use Rattle.run_safety.proofs.Lives.{whole, always_same_members}
use Rattle.run_safety.proofs.Past.{Origin}
use Rattle.run_safety.proofs.Tests.{any_has}
use Rattle.run_safety.proofs.Whole.{was_sent}
use Rattle.run_safety.proofs.Parts.{member_parts}
use Rattle.step_refinement.specs.Ghost.{Ghost, Lives, Goes, Keeps, IsStable}
use Rattle.step_refinement.specs.Tied.{ShowsBody, RowIs, IsAcked, Decided, LeaderKeeps, NodeIs, Scene, Sound, opening_in, opening_of, Tied}
use Rattle.step_refinement.proofs.Goes.{Spares, Still, sound_on, owes_by, decides_by, node_by, shows_on}
use Rattle.step_refinement.proofs.Idle.{led_lightens}
use Rattle.step_refinement.proofs.Works.{tied_on}
use Rattle.node_state.proofs.NameOrder.{cases_text}
use Rattle.step_refinement.proofs.Leads.{leads_led, leads_known}
use Rattle.step_refinement.proofs.Gone.{with_packet, packet_goes, packet_still, goes_then}
use Rattle.step_refinement.proofs.ViewRules.{same_of}
use Rattle.step_refinement.proofs.RowWorks.{max_one, keeps_of, waits_of, tied_row, tied_forgets}
use Rattle.step_refinement.proofs.Turns.{packet_turns}

-- ---- lengths that are acknowledged

raised_here : (n k : ℕ) (old : List Acked) → (acked_from n (acked_raised n k old) ≡ k) ⊎ (acked_from n (acked_raised n k old) ≡ acked_from n old)
unfolding acked_from acked_raised
raised_here n k [] = inl (ap (λ b. elim b [ true ↦ k | false ↦ 0 ]) (eq-eqb n n refl))
raised_here n k (a ∷ old) = by (a.node == n) refl (raised_here n k old)
  where
    here : (n == n) ≡ true
    here = eq-eqb n n refl

    by : (b : Bool) → (a.node == n) ≡ b → (acked_from n (acked_raised n k old) ≡ k) ⊎ (acked_from n (acked_raised n k old) ≡ acked_from n old) → (acked_from n (elim b [ true ↦ record { node = n; len = max a.len k } ∷ old | false ↦ a ∷ acked_raised n k old ]) ≡ k) ⊎ (acked_from n (elim b [ true ↦ record { node = n; len = max a.len k } ∷ old | false ↦ a ∷ acked_raised n k old ]) ≡ elim b [ true ↦ a.len | false ↦ acked_from n old ])
    by true e r =
        ⊎_elim (λ (q : max a.len k ≡ a.len). inr (ap (λ b. elim b [ true ↦ max a.len k | false ↦ acked_from n old ]) here ∙ q)) (λ (q : max a.len k ≡ k). inl (ap (λ b. elim b [ true ↦ max a.len k | false ↦ acked_from n old ]) here ∙ q)) (max_one a.len k)
    by false e r =
        let out : acked_from n (a ∷ acked_raised n k old) ≡ acked_from n (acked_raised n k old) = ap (λ b. elim b [ true ↦ a.len | false ↦ acked_from n (acked_raised n k old) ]) e in
        ⊎_elim (λ (q : acked_from n (acked_raised n k old) ≡ k). inl (out ∙ q)) (λ (q : acked_from n (acked_raised n k old) ≡ acked_from n old). inr (out ∙ q)) r

raised_there : (m n k : ℕ) (old : List Acked) → m ≢ n → acked_from m (acked_raised n k old) ≡ acked_from m old
unfolding acked_from acked_raised
raised_there m n k [] ne = ap (λ b. elim b [ true ↦ k | false ↦ 0 ]) (other (n == m) refl)
  where
    other : (b : Bool) → (n == m) ≡ b → (n == m) ≡ false
    other true e = absurd (ne (sym (eqb-true n m e)))
    other false e = e
raised_there m n k (a ∷ old) ne = by (a.node == n) refl (raised_there m n k old ne)
  where
    other : (b : Bool) → (n == m) ≡ b → (n == m) ≡ false
    other true e = absurd (ne (sym (eqb-true n m e)))
    other false e = e

    by : (b : Bool) → (a.node == n) ≡ b → acked_from m (acked_raised n k old) ≡ acked_from m old → acked_from m (elim b [ true ↦ record { node = n; len = max a.len k } ∷ old | false ↦ a ∷ acked_raised n k old ]) ≡ elim (a.node == m) [ true ↦ a.len | false ↦ acked_from m old ]
    by true e r =
        let gone : (a.node == m) ≡ false = ap (λ z. z == m) (eqb-true a.node n e) ∙ other (n == m) refl in
        ap (λ b. elim b [ true ↦ max a.len k | false ↦ acked_from m old ]) (other (n == m) refl) ∙ ap (λ b. elim b [ true ↦ a.len | false ↦ acked_from m old ]) (sym gone)
    by false e r = ap (λ z. elim (a.node == m) [ true ↦ a.len | false ↦ z ]) r

-- no length falls
raised_more : (m n k : ℕ) (old : List Acked) → acked_from m old ≤ acked_from m (acked_raised n k old)
unfolding acked_from acked_raised
raised_more m n k [] = omega arith
raised_more m n k (a ∷ old) = by (a.node == n) (a.node == m) (n == m) refl refl refl (raised_more m n k old)
  where
    by : (b c d : Bool) → (a.node == n) ≡ b → (a.node == m) ≡ c → (n == m) ≡ d → acked_from m old ≤ acked_from m (acked_raised n k old) → elim c as (λ _. ℕ) [ true ↦ a.len | false ↦ acked_from m old ] ≤ acked_from m (elim b as (λ _. List Acked) [ true ↦ record { node = n; len = max a.len k } ∷ old | false ↦ a ∷ acked_raised n k old ])
    by true true true e f i r = let z : acked_from m (record { node = n; len = max a.len k } ∷ old) ≡ max a.len k = ap (λ b. elim b as (λ _. ℕ) [ true ↦ max a.len k | false ↦ acked_from m old ]) i in omega arith
    by true false false e f i r = let z : acked_from m (record { node = n; len = max a.len k } ∷ old) ≡ acked_from m old = ap (λ b. elim b as (λ _. ℕ) [ true ↦ max a.len k | false ↦ acked_from m old ]) i in omega arith
    by true true false e f i r = absurd (let z : (n == m) ≡ true = ap (λ y. y == m) (sym (eqb-true a.node n e)) ∙ f in cc)
    by true false true e f i r = absurd (let z : (a.node == m) ≡ true = ap (λ y. y == m) (eqb-true a.node n e) ∙ i in cc)
    by false true d e f i r = let z : acked_from m (a ∷ acked_raised n k old) ≡ a.len = ap (λ b. elim b as (λ _. ℕ) [ true ↦ a.len | false ↦ acked_from m (acked_raised n k old) ]) f in omega arith
    by false false d e f i r = let z : acked_from m (a ∷ acked_raised n k old) ≡ acked_from m (acked_raised n k old) = ap (λ b. elim b as (λ _. ℕ) [ true ↦ a.len | false ↦ acked_from m (acked_raised n k old) ]) f in omega arith

-- the least is no more than any
fold_below : (f : Member → ℕ) (ms : List Member) (a : ℕ) → fold (λ least (m : Member). min least (f m)) a ms ≤ a
fold_below f [] a = omega arith
fold_below f (m ∷ ms) a = let r = fold_below f ms (min a (f m)) in omega arith

pub fold_least : (f : Member → ℕ) (ms : List Member) (a : ℕ) (k : Member) → Has k ms → fold (λ least (m : Member). min least (f m)) a ms ≤ f k
fold_least f [] a k h = absurd h
fold_least f (m ∷ ms) a k (inl e) =
    let r = fold_below f ms (min a (f m)) in
    let q : f m ≡ f k = ap f (sym e) in omega arith
fold_least f (m ∷ ms) a k (inr h) = fold_least f ms (min a (f m)) k h

-- a node is a member of a view in one incarnation
pub single_in : (c : Config) (x : Ghost) → Lives (opening_of c) x → (n j : ℕ) (v : ViewId) (ms : List Member) → Has (In n j v ms) (kept x.all) → (m i k : ℕ) → Has (member m i) ms → Has (member m k) ms → i ≡ k
unfolding first_members
single_in c x life n j v ms h m i k a b = by c.mode (w.good.past.origin n j v ms h)
  where
    w : Whole (opening_of c) x.nodes x.ps x.all x.leads x.bases
    w = whole life

    one : (i : ℕ) → Has (member m i) (map (λ n. record { node = n; inc = 1 }) (nodes_of c.nodes)) → i ≡ 1
    one i z = let q = has_map (λ (n : ℕ). member n 1) (member m i) (nodes_of c.nodes) z in ap (λ (k : Member). k.inc) q.2

    alone : (i : ℕ) → Has (member m i) (member n j ∷ []) → i ≡ j
    alone i (inl e) = ap (λ (k : Member). k.inc) e
    alone i (inr z) = absurd z

    by : (mode : Mode) → Origin (opening_in c mode) x.ps n j v ms → i ≡ k
    by mode (inr q) = (w.good.past.made v ms q.0 q.1).single m i k a b
    by Fixed (inl born) = one i (subst (Has (member m i)) born.1 a) ∙ sym (one k (subst (Has (member m k)) born.1 b))
    by Asked (inl born) = alone i (subst (Has (member m i)) born.1 a) ∙ sym (alone k (subst (Has (member m k)) born.1 b))
    by Rings (inl born) = alone i (subst (Has (member m i)) born.1 a) ∙ sym (alone k (subst (Has (member m k)) born.1 b))

pub has_member : (ms : List Member) (n j : ℕ) → is_member ms n j ≡ true → Has (member n j) ms
has_member ms n j e = let k = any_has (λ (m : Member). m.node == n && m.inc == j) ms e in
    let p = and_parts ((k.0).node == n) ((k.0).inc == j) k.2 in
    subst (λ z. Has z ms) (λ i. record { node = eqb-true (k.0).node n p.0 i; inc = eqb-true (k.0).inc j p.1 i }) k.1

pub member_self : {o : Opening} (x : Ghost) → Lives o x → (n j : ℕ) (v : ViewId) (ms : List Member) → Has (In n j v ms) (kept x.all) → Has (member n j) ms
member_self {o = o} x life n j v ms h = (always_same_members o x.nodes x.ps x.all x.leads x.bases life n n j j v ms ms h h).1

-- only packets were sent
pub record Settled (x y : Ghost) : Type 0 where
  pub all : y.all ≡ x.all
  pub bases : y.bases ≡ x.bases
  pub leads : y.leads ≡ x.leads
  pub packets : (p : group.Packet) → Has p x.ps → Has p y.ps

-- what concerns requests alone
pub led_keeps : (x : Ghost) (n inc : ℕ) (v : ViewId) (l m : Led) → m.decided ≡ l.decided → m.waiting.joins ≡ l.waiting.joins → LeaderKeeps x n inc v l → LeaderKeeps x n inc v m
unfolding decision_of
led_keeps x n inc v l m d u h =
    record {
      refused = λ p r e c i. decided p r (h.refused p r e c i);
      begun = λ p r i e a b c. decided p r (h.begun p r i e a b c);
      waiting = λ p e i. let z = h.waiting p e (subst (λ js. among js p ≡ true) u i) in
          record { proposal = z.proposal; sent = z.sent; joins = z.joins; open_still = z.open_still; unbegun = z.unbegun; decided = decided p p.join z.decided };
      later = h.later;
      again = λ p z why e q. h.again p z why (ap (λ ds. find (λ d. same_provider d.provider p) ds) (sym d) ∙ e) q;
      leads_it = λ p i. h.leads_it p (subst (λ js. among js p ≡ true) u i);
      apart = ap differ u ∙ h.apart;
      lasts = λ p z i e. h.lasts p z (subst (λ js. among js p ≡ true) u i) (ap (λ ds. find (λ y. same_provider y.provider p) ds) (sym d) ∙ e);
    }
  where
    decided : (p : ProviderId) (r : ℕ) → Decided l p r → Decided m p r
    decided p r z = record { last = z.last; kept_it = ap (λ ds. find (λ d. same_provider d.provider p) ds) d ∙ z.kept_it; later = z.later }

module _ (g : List ℕ) (w : Scene) (n : ℕ) (s : Core) (t : Tied g w n s) where
  abbrev x : Ghost
  x = t.ghost

  abbrev own_ack : group.Packet
  own_ack = group.Ack (t.ghost.nodes n).view n (t.ghost.nodes n).inc (length (t.ghost.nodes n).list)

  abbrev settling : ℕ → group.Packet
  settling m = group.Stable (t.ghost.nodes n).view m

  abbrev acking : Ghost
  acking = with_packet t.ghost own_ack

  abbrev settles : ℕ → Ghost
  settles m = with_packet acking (settling m)

  acking_still : Still t.ghost acking
  acking_still = packet_still t.ghost own_ack (λ e. absurd (omega arith)) (λ e. absurd (omega arith))

  -- what is settled where the node leads is new to no other leader
  settle_spares : (m i : ℕ) → ((j : ℕ) → t.ghost.leads (t.ghost.nodes n).view ≡ Some (member i j) → ⊥) → Spares t.ghost (settles m) i
  settle_spares m i apart =
      record {
        goes = goes_then t.ghost acking (settles m) acking_still.goes (packet_goes acking (settling m));
        list = refl;
        leads = λ v s. refl;
        refusals = λ v p r h. inl (acking_still.refusals v p r (was_sent (group.Refusal v p r) (settling m) acking.ps (λ e. absurd (omega arith)) h));
        stables = λ v k h. stable v k h;
        puts = λ u k e h. h;
        told = λ p r u e h. h;
        shut = λ v e h. h;
        shut_led = λ v i e h. h;
        asked = λ a e h. h;
      }
    where
      stable : (v : ViewId) (k : ℕ) → Has (group.Stable v k) (settling m ∷ acking.ps) → Has (group.Stable v k) t.ghost.ps ⊎ ((j : ℕ) → t.ghost.leads v ≡ Some (member i j) → ⊥)
      stable v k (inr h) = inl (acking_still.stables v k h)
      stable v k (inl e) = let same : v ≡ (t.ghost.nodes n).view = cc in inr (λ j q. apart j (ap t.ghost.leads (sym same) ∙ q))

  settle_sound : (m : ℕ) → Sound g (settles m)
  settle_sound m =
      let k = sound_on t.ghost acking acking_still g t.sound in
      record {
        refused = λ v p r h. k.refused v p r (was_sent (group.Refusal v p r) (settling m) acking.ps (λ e. absurd (omega arith)) h);
        unled = λ v p r h. k.unled v p r (was_sent (group.Refusal v p r) (settling m) acking.ps (λ e. absurd (omega arith)) h);
        shut = k.shut;
        asked = k.asked;
        one = k.one;
        started = k.started;
        told = k.told;
      }

  -- what each member has is stable
  pub settled : (m : ℕ) → ((k : Member) → Has k s.views.members → m ≤ acked_by s (row_of s g) k.node) → t.ghost.leads s.views.view ≡ Some (member n s.views.inc) → (t' : Tied g w n s) × IsStable t'.ghost s.views.view m × Settled t.ghost t'.ghost
  unfolding acked_by
  settled zero le led = (t, inl refl, record { all = refl; bases = refl; leads = refl; packets = λ p h. h })
  settled (suc m) le led = (
    tied_on g w n s t s (settles (suc m)) life t.lines t.placed (packet_turns w n s.views.view s.records s.sessions acking.ps (packet_turns w n s.views.view s.records s.sessions t.ghost.ps t.turns own_ack (λ b c d f e. cc)) (settling (suc m)) (λ b c d f e. cc)) (own, t.own.1, t.own.2) (λ i ne. settle_spares (suc m) i (apart i ne)) (λ i ne. refl) (λ p h. shows_on t.ghost (settles (suc m)) goes g p (t.packets p h)) (settle_sound (suc m)),
    inr (inl (ap (λ v. group.Stable v (suc m)) (sym t.own.0.stands.view))),
    record { all = refl; bases = refl; leads = refl; packets = λ p h. inr (inr h) },
  )
    where
      h : NodeIs t.ghost g n s
      h = t.own.0

      keeps : Keeps t.ghost s.views.view (t.ghost.nodes n).list (list_or_new (row_of s g).list)
      keeps = keeps_of t.ghost s.views.view (t.ghost.nodes n).list (row_of s g).list h.row_is.list

      seated : Has (In n s.views.inc (t.ghost.nodes n).view s.views.members) (kept t.ghost.all)
      seated = subst (λ v. Has (In n s.views.inc v s.views.members) (kept t.ghost.all)) (sym h.stands.view) h.stands.seated

      mine : (k i : ℕ) → k ≡ n → Has (member k i) s.views.members → suc m ≤ elim (k == s.views.me) [ true ↦ len_in (row_of s g).list | false ↦ acked_from k (row_of s g).led.acked ] → (l : ℕ) × (suc m ≤ l) × Has (group.Ack (t.ghost.nodes n).view k i l) acking.ps
      mine k i e q l =
          let me : (k == s.views.me) ≡ true = eq-eqb k s.views.me (e ∙ sym h.stands.me) in
          let l' : suc m ≤ len_in (row_of s g).list = subst (λ b. suc m ≤ elim b [ true ↦ len_in (row_of s g).list | false ↦ acked_from k (row_of s g).led.acked ]) me l in
          let own : i ≡ s.views.inc = single_in w.config t.ghost t.life n s.views.inc s.views.view s.views.members h.stands.seated n i s.views.inc (subst (λ z. Has (member z i) s.views.members) e q) (member_self t.ghost t.life n s.views.inc s.views.view s.views.members h.stands.seated) in
          (length (t.ghost.nodes n).list, subst (λ z. suc m ≤ z) keeps.len l', inl (λ j. group.Ack (t.ghost.nodes n).view (e j) ((own ∙ sym h.stands.inc) j) (length (t.ghost.nodes n).list)))

      theirs : (k i : ℕ) → k ≢ n → Has (member k i) s.views.members → suc m ≤ elim (k == s.views.me) [ true ↦ len_in (row_of s g).list | false ↦ acked_from k (row_of s g).led.acked ] → (l : ℕ) × (suc m ≤ l) × Has (group.Ack (t.ghost.nodes n).view k i l) acking.ps
      theirs k i ne q l =
          let l' : suc m ≤ acked_from k (row_of s g).led.acked = subst (λ b. suc m ≤ elim b [ true ↦ len_in (row_of s g).list | false ↦ acked_from k (row_of s g).led.acked ]) (other (k == s.views.me) refl) l in
          ⊎_elim (λ (z : acked_from k (row_of s g).led.acked ≡ 0). absurd (omega arith)) (λ (z : Has (group.Ack s.views.view k i (acked_from k (row_of s g).led.acked)) t.ghost.ps). (acked_from k (row_of s g).led.acked, l', inr (subst (λ v. Has (group.Ack v k i (acked_from k (row_of s g).led.acked)) t.ghost.ps) (sym h.stands.view) z))) (h.row_is.acked k i q)
        where
          other : (b : Bool) → (k == s.views.me) ≡ b → (k == s.views.me) ≡ false
          other true e = absurd (ne (eqb-true k s.views.me e ∙ h.stands.me))
          other false e = e

      apart : (i : ℕ) → i ≢ n → (j : ℕ) → t.ghost.leads (t.ghost.nodes n).view ≡ Some (member i j) → ⊥
      apart i ne j e = ne (member_parts i n j s.views.inc (sym e ∙ ap t.ghost.leads h.stands.view ∙ led)).0

      goes : Goes t.ghost (settles (suc m))
      goes = goes_then t.ghost acking (settles (suc m)) acking_still.goes (packet_goes acking (settling (suc m)))

      others_acked : (b i : ℕ) → Has (member b i) s.views.members → b ≢ n → suc m ≤ acked_from b (row_of s g).led.acked
      others_acked b i a ne = subst (λ c. suc m ≤ elim c [ true ↦ len_in (row_of s g).list | false ↦ acked_from b (row_of s g).led.acked ]) (other (b == s.views.me) refl) (le (member b i) a)
        where
          other : (c : Bool) → (b == s.views.me) ≡ c → (b == s.views.me) ≡ false
          other true e = absurd (ne (eqb-true b s.views.me e ∙ h.stands.me))
          other false e = e

      covers : (j k : ℕ) → t.ghost.leads s.views.view ≡ Some (member n j) → Has (group.Stable s.views.view k) (settling (suc m) ∷ acking.ps) → (b i : ℕ) → Has (member b i) s.views.members → b ≢ n → k ≤ acked_from b (row_of s g).led.acked
      covers j k e (inr c) b i a ne = h.row_is.covers j k e (acking_still.stables s.views.view k c) b i a ne
      covers j k e (inl c) b i a ne = let same : k ≡ suc m = cc in subst (λ z. z ≤ acked_from b (row_of s g).led.acked) (sym same) (others_acked b i a ne)

      refusal_old : (v : ViewId) (p : ProviderId) (r : ℕ) → Has (group.Refusal v p r) (settling (suc m) ∷ acking.ps) → Has (group.Refusal v p r) t.ghost.ps
      refusal_old v p r i = acking_still.refusals v p r (was_sent (group.Refusal v p r) (settling (suc m)) acking.ps (λ e. absurd (omega arith)) i)

      own : NodeIs (settles (suc m)) g n s
      own =
          node_by t.ghost (settles (suc m)) goes n refl g (is_fixed s.config.mode) s.views (row_of s g) s.groups s.sessions s.sessions s.names s.names covers (owes_by t.ghost (settles (suc m)) goes n (λ a e i. i) (λ u k e i. i) (λ p r u e i. i) g s.views.inc s.sessions h.owes) (decides_by t.ghost (settles (suc m)) goes n refl (λ v l e. e) refusal_old s.views.inc s.views.view (row_of s g).led h.decides) (record { named = h.names.named; unnamed = h.names.unnamed; full = h.names.full }) (record { few = h.idles.few; shut = h.idles.shut }) h

      life : Lives (opening_of w.config) (settles (suc m))
      life =
          Settles t.ghost.nodes acking.ps t.ghost.all t.ghost.leads t.ghost.bases n s.views.inc (t.ghost.nodes n).view s.views.members (suc m) (Acknowledges t.ghost.nodes t.ghost.ps t.ghost.all t.ghost.leads t.ghost.bases n (t.ghost.nodes n) (length (t.ghost.nodes n).list) t.life refl (omega arith)) seated (λ k i q. ⊎_elim (λ (e : k ≡ n). mine k i e q (le (member k i) q)) (λ (ne : k ≢ n). theirs k i ne q (le (member k i) q)) (cases_eq k n))

  -- what all members have is forgotten
  pub tied_least : (h : List ℕ) → (h ≡ g → t.ghost.leads s.views.view ≡ Some (member n s.views.inc)) → Tied g w n (forget_least s h)
  unfolding forget_least least_acked
  tied_least h led = at (cases_text h g)
    where
      at : (h ≡ g) ⊎ (h ≡ g → ⊥) → Tied g w n (forget_below s h (fold (λ least (m : Member). min least (acked_by s (row_of s h) m.node)) (len_in (row_of s h).list) s.views.members))
      at (inl e) =
          let k = settled (fold (λ least (m : Member). min least (acked_by s (row_of s g) m.node)) (len_in (row_of s g).list) s.views.members) (λ m q. fold_least (λ (m : Member). acked_by s (row_of s g) m.node) s.views.members (len_in (row_of s g).list) m q) (led e) in
          subst (λ z. Tied g w n (forget_below s z (fold (λ least (m : Member). min least (acked_by s (row_of s z) m.node)) (len_in (row_of s z).list) s.views.members))) (sym e) (tied_forgets g w n s k.0 g (fold (λ least (m : Member). min least (acked_by s (row_of s g) m.node)) (len_in (row_of s g).list) s.views.members) (λ q. k.1))
      at (inr ne) = tied_forgets g w n s t h (fold (λ least (m : Member). min least (acked_by s (row_of s h) m.node)) (len_in (row_of s h).list) s.views.members) (λ q. absurd (ne q))

-- a member of the node's view acknowledges
tied_raised : (g : List ℕ) (w : Scene) (n : ℕ) (s : Core) (t : Tied g w n s) (h : List ℕ) (from inc k : ℕ) → Has (member from inc) s.views.members → (h ≡ g → Has (group.Ack s.views.view from inc k) t.ghost.ps) → Tied g w n (with_led s h (λ l. record l { acked = acked_raised from k l.acked }))
unfolding with_led
tied_raised g w n s t h from inc k among sent =
    tied_row g w n s t h (λ row. record row { led = record (row.led) { acked = acked_raised from k row.led.acked } }) (λ x. refl) (led_lightens (λ l. record l { acked = acked_raised from k l.acked }) (λ l. omega arith)) (waits_of g w n s t h) new
  where
    is : NodeIs t.ghost g n s
    is = t.own.0

    acks : (old : List Acked) → Has (group.Ack s.views.view from inc k) t.ghost.ps → ((m i : ℕ) → Has (member m i) s.views.members → IsAcked t.ghost s.views.view m i (acked_from m old)) → (m i : ℕ) → Has (member m i) s.views.members → IsAcked t.ghost s.views.view m i (acked_from m (acked_raised from k old))
    acks old z before m i q = ⊎_elim (λ (e : m ≡ from). here e) (λ (ne : m ≢ from). subst (IsAcked t.ghost s.views.view m i) (sym (raised_there m from k old ne)) (before m i q)) (cases_eq m from)
      where
        here : m ≡ from → IsAcked t.ghost s.views.view m i (acked_from m (acked_raised from k old))
        here e =
            let one : i ≡ inc = single_in w.config t.ghost t.life n s.views.inc s.views.view s.views.members is.stands.seated from i inc (subst (λ z. Has (member z i) s.views.members) e q) among in
            let P : ℕ → Type 0 = λ z. IsAcked t.ghost s.views.view z i (acked_from z (acked_raised from k old)) in
            subst P (sym e) (⊎_elim (λ (r : acked_from from (acked_raised from k old) ≡ k). subst (IsAcked t.ghost s.views.view from i) (sym r) (inr (subst (λ j. Has (group.Ack s.views.view from j k) t.ghost.ps) (sym one) z))) (λ (r : acked_from from (acked_raised from k old) ≡ acked_from from old). subst (IsAcked t.ghost s.views.view from i) (sym r) (before from i (subst (λ z. Has (member z i) s.views.members) e q))) (raised_here from k old))

    new : h ≡ g → RowIs t.ghost n s.views.view s.views.members (record (row_of s h) { led = record ((row_of s h).led) { acked = acked_raised from k (row_of s h).led.acked } }) × LeaderKeeps t.ghost n s.views.inc s.views.view (record ((row_of s h).led) { acked = acked_raised from k (row_of s h).led.acked })
    new e =
        let P : List ℕ → Type 0 = λ z. RowIs t.ghost n s.views.view s.views.members (record (row_of s z) { led = record ((row_of s z).led) { acked = acked_raised from k (row_of s z).led.acked } }) × LeaderKeeps t.ghost n s.views.inc s.views.view (record ((row_of s z).led) { acked = acked_raised from k (row_of s z).led.acked }) in
        subst P (sym e) (
          record { list = is.row_is.list; stable = is.row_is.stable; leader = is.row_is.leader; acked = acks (row_of s g).led.acked (sent e) is.row_is.acked; covers = λ j i a b m q r ne. let y = is.row_is.covers j i a b m q r ne in let z = raised_more m from k (row_of s g).led.acked in omega arith },
          led_keeps t.ghost n s.views.inc s.views.view (row_of s g).led (record ((row_of s g).led) { acked = acked_raised from k (row_of s g).led.acked }) refl refl is.decides,
        )

-- ---- the row

-- what is used is of the node's view, and its sender is a member
pub used_is : (s : Core) (p : Packet) (v : ViewId) → is_used s p v ≡ true → (v ≡ s.views.view) × (s.views.promise ≡ s.views.view) × Has (member p.from p.inc) s.views.members
unfolding is_used frozen is_frozen
used_is s p v e =
    let a = and_parts (same_view v s.views.view && p.level == s.sessions.level && (p.level == 1 || p.domain == s.config.domain) && not (not (same_view s.views.promise s.views.view))) (is_member s.views.members p.from p.inc) e in
    let b = and_parts (same_view v s.views.view && p.level == s.sessions.level && (p.level == 1 || p.domain == s.config.domain)) (not (not (same_view s.views.promise s.views.view))) a.0 in
    let c = and_parts (same_view v s.views.view && p.level == s.sessions.level) (p.level == 1 || p.domain == s.config.domain) b.0 in
    let d = and_parts (same_view v s.views.view) (p.level == s.sessions.level) c.0 in
    (same_of v s.views.view d.0, same_of s.views.promise s.views.view (twice (same_view s.views.promise s.views.view) b.1), has_member s.views.members p.from p.inc a.1)
  where
    twice : (b : Bool) → not (not b) ≡ true → b ≡ true
    twice true e = refl
    twice false e = absurd (cc)

pub ack_is_tied : (v : ViewId) (h : List ℕ) (k : ℕ) (g : List ℕ) (w : Scene) (n : ℕ) (f : Answering) (s : Core) (p : Packet) → p.body ≡ body.Ack v h k → Has p w.sent → Tied g w n s → Tied g w n (take_body f s p (body.Ack v h k))
unfolding take_body used_if take_ack acked
ack_is_tied v h k g w n f s p is sent t = by (is_used s p v) (leads s h && nat_le k (len_of s h)) refl refl
  where
    shown : h ≡ g → Has (group.Ack v p.from p.inc k) t.ghost.ps
    shown = subst (ShowsBody t.ghost g p.from p.inc p.to) is (t.packets p (append_has_right p s.sends w.sent sent))

    raised : (v ≡ s.views.view) × (s.views.promise ≡ s.views.view) × Has (member p.from p.inc) s.views.members → Tied g w n (with_led s h (λ l. record l { acked = acked_raised p.from k l.acked }))
    raised u = tied_raised g w n s t h p.from p.inc k u.2 (λ q. subst (λ z. Has (group.Ack z p.from p.inc k) t.ghost.ps) u.0 (shown q))

    row : (v ≡ s.views.view) × (s.views.promise ≡ s.views.view) × Has (member p.from p.inc) s.views.members → leads s h ≡ true → Tied g w n (forget_least (with_led s h (λ l. record l { acked = acked_raised p.from k l.acked })) h)
    row u led =
        tied_least g w n (with_led s h (λ l. record l { acked = acked_raised p.from k l.acked })) (raised u) h (λ e. leads_known g w n (with_led s h (λ l. record l { acked = acked_raised p.from k l.acked })) (raised u) (leads_led s h (λ l. record l { acked = acked_raised p.from k l.acked }) t.own.0.order g ∙ subst (λ z. leads s z ≡ true) e led))

    by : (b c : Bool) → is_used s p v ≡ b → (leads s h && nat_le k (len_of s h)) ≡ c → Tied g w n (used_if s (elim c [ true ↦ forget_least (with_led s h (λ l. record l { acked = acked_raised p.from k l.acked })) h | false ↦ s ]) b)
    by false c e q = t
    by true false e q = t
    by true true e q = row (used_is s p v e) (and_parts (leads s h) (nat_le k (len_of s h)) q).0
