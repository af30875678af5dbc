-- In every scene that events lead to, the ring records of each network agree.
use Rattle.std.proofs.Common.{◌≡◌, ◌≤◌, ◌⊎◌, ℕ, ◌+◌, List, [], ◌∷◌, ◌++◌, length, Some, None, Bool, true, false, refl, sym, ap, ◌∙◌, subst, inl, inr, ⊎_elim}
use Rattle.std.specs.Prelude.{◌==◌, reverse, if◌then◌else◌}
use Rattle.std.proofs.lemmas.Bool.{eqb-true}
use Rattle.rsct_packet.specs.Mask.{nodes_of}
use Rattle.rsct_packet.specs.Search.{Has}
use Rattle.rsct_packet.proofs.HasLaws.{has_append, append_has_left, append_has_right, has_reverse}
use Rattle.adapter_ring.specs.declared.ring.RingSettings.{RingSettings}
use Rattle.adapter_ring.specs.Network.{Told, Started, Network, quiet, ring_at, happens}
use Rattle.adapter_ring.specs.Network as network
use Rattle.adapter_ring.specs.Agreement.{AddressesDiffer, RingsAgree}
use Rattle.adapter_ring.proofs.Runs.{rings_agree}
use Rattle.node_state.specs.declared.config.Config.{Config}
use Rattle.node_state.specs.declared.happened.Happened.{Happened}
use Rattle.node_state.specs.declared.happened.Happened.TheVariants as happened
use Rattle.node_state.specs.declared.state.Core.{Core}
use Rattle.node_state.specs.Settings.{is_fixed, addresses_on}
use Rattle.node_state.specs.State.{with_sessions}
use Rattle.node_state.specs.HandOn.{Answering}
use Rattle.node_state.specs.declared.packet.Packet.{Packet}
use Rattle.node_state.specs.Step as node_step
use Rattle.node_state.specs.Step.{NodeEvent, started, stepped, at_work}
use Rattle.world_model.specs.declared.event.Event.{Event}
use Rattle.run_safety.specs.Past.{History, records_of}
use Rattle.step_refinement.specs.Tied.{Scene}
use Rattle.step_refinement.specs.Rules.{at_node, ended, stopped, all_started, with_records, starts_too, Arises}
use Rattle.step_refinement.specs.Runs.{IsNote, Reached, Nothing, AllStart, Starts, Stops, Steps, Notes}
use Rattle.step_refinement.proofs.Changed.{each_set}
use Rattle.run_induction.proofs.Ran.{anyhow, reached_ran, config_of, Opened, all_start_holds}
use Rattle.run_laws.specs.ring_runs.Rings.{ring_settings, told_on, rings_told, RingsAgreeInRuns}
use Rattle.run_laws.proofs.ring_runs.Finding.{gone_here, gone_there}
use Rattle.run_laws.proofs.ring_runs.Playing.{ring_on, Own, Tells, comes_on, At, Played, played_rules, played_views, played_calls}
use Rattle.run_laws.proofs.ring_runs.Ticking.{played_rings}
use Rattle.run_laws.proofs.ring_runs.Starting.{Stands, Plays, start_plays}
use Rattle.step_walk.proofs.Walking.{GivenBy, on_called, on_stepped}

-- what stands for a scene
abbrev PlaysIn : ℕ → Scene → Type 0
PlaysIn net w = Plays net w.config w.cores w.incs w.sent (records_of w.before)

config_is : (c : Config) (w : Scene) → Reached c w → w.config ≡ c
config_is c w k = config_of anyhow c w (reached_ran c w k)

-- a node that starts sends nothing
no_sends : (c : Config) (n j : ℕ) → (started c n j).sends ≡ []
unfolding started with_sessions
no_sends c n j = refl

module _ (net : ℕ) where
  -- ---- the beginning

  nothing_stands : (c : Config) (rs : List Happened) → ((r : Happened) → Has r rs → ⊥) → Plays net c (λ m. None) (λ m. 0) [] rs
  unfolding quiet ring_at network.after
  nothing_stands c rs none = (
    quiet net (ring_settings c net),
    ([], refl),
    record {
      net_is = refl;
      settings = refl;
      own = λ m s e. absurd (cc);
      rings = λ m. refl;
      sends = λ p h. absurd h;
      records = λ r h. absurd (none r h);
      starts = λ x h. absurd h;
    },
  )

  too_has : (before : History) (rs : List Happened) (r : Happened) → Has r (records_of (with_records before rs)) → Has r rs ⊎ Has r (records_of before)
  too_has [] rs r h = ⊎_elim (λ (a : Has r (reverse rs)). inl (has_reverse r rs a)) (λ (z : ⊥). absurd z) (has_append r (reverse rs) [] h)
  too_has (e ∷ before) rs r h =
      ⊎_elim (λ (a : Has r (reverse rs ++ e.records)). ⊎_elim (λ (b : Has r (reverse rs)). inl (has_reverse r rs b)) (λ (b : Has r e.records). inr (append_has_left r e.records (records_of before) b)) (has_append r (reverse rs) e.records a)) (λ (a : Has r (records_of before)). inr (append_has_right r e.records (records_of before) a)) (has_append r (reverse rs ++ e.records) (records_of before) h)

  all_start : (c : Config) → length (addresses_on c net) ≤ 32 → is_fixed c.mode ≡ true → PlaysIn net (all_started c)
  all_start c few fixed = (all_start_holds c (PlaysIn net) one (nothing_stands c [] (λ r h. h))).1
    where
      one : (w : Scene) (n : ℕ) → Opened c w → Has n (nodes_of c.nodes) → w.cores n ≡ None → PlaysIn net w → PlaysIn net (starts_too w n None)
      one w n k there down p =
          let here : is_fixed w.config.mode ≡ true = ap (λ (z : Config). is_fixed z.mode) k.config ∙ fixed in
          start_plays net w.config w.cores w.incs w.sent (records_of w.before) (records_of (starts_too w n None).before) n (subst (λ z. length (addresses_on z net) ≤ 32) (sym k.config) few) (λ free. absurd (cc)) down (λ r h. too_has w.before (started w.config n (w.incs n + 1)).records r h) p

  -- ---- a node stops

  stop_stands : (w : Scene) (n : ℕ) (e : Event) → PlaysIn net w → PlaysIn net (stopped w n e)
  unfolding happens ring_at
  stop_stands w n e p = (
    happens v (network.Stops n),
    comes_on net (ring_settings w.config net) v (network.Stops n) p.1,
    record {
      net_is = k.net_is;
      settings = k.settings;
      own = each_set (λ m o. (d : Core) → o ≡ Some d → Own m (w.incs m) d) w.cores n None (λ d q. absurd (cc)) (λ m ne d q. k.own m d q);
      rings = each_set (λ m o. ring_on net o ≡ ring_at (happens v (network.Stops n)) m) w.cores n None (sym (gone_here n v.rings)) (λ m ne. k.rings m ∙ sym (gone_there n m v.rings ne));
      sends = k.sends;
      records = λ r h. by r h;
      starts = k.starts;
    },
  )
    where
      v : Network
      v = p.0

      k : Stands net w.config w.cores w.incs w.sent (records_of w.before) v
      k = p.2

      by : (r : Happened) → Has r (happened.Down n ∷ records_of w.before) → Tells net v r
      by r (inl q) = subst (Tells net v) (sym q) tt
      by r (inr h) = k.records r h

  -- ---- a step

  begin_at : (w : Scene) (n : ℕ) (s : Core) (v : Network) → w.cores n ≡ Some s → Stands net w.config w.cores w.incs w.sent (records_of w.before) v → At net w n v (at_work s)
  begin_at w n s v up k =
      let o : Own n (w.incs n) s = k.own n s up in
      record {
        net_is = k.net_is;
        settings = k.settings;
        own = record { me = o.me; inc = o.inc; mine = o.mine; life = o.life; apart = o.apart };
        ring = sym (ap (ring_on net) up) ∙ k.rings n;
        others = λ m ne. k.rings m;
        sends = k.sends;
        records = k.records;
        starts = k.starts;
      }

  end_stands : (w : Scene) (n : ℕ) (e : Event) (s : Core) (v : Network) → ((m : ℕ) (d : Core) → w.cores m ≡ Some d → Own m (w.incs m) d) → At net w n v s → Stands net w.config (at_node w.cores n (Some s)) w.incs (s.sends ++ w.sent) (records_of (ended w n e s).before) v
  end_stands w n e s v old a =
      record {
        net_is = a.net_is;
        settings = a.settings;
        own = each_set (λ m o. (d : Core) → o ≡ Some d → Own m (w.incs m) d) w.cores n (Some s) (λ d q. (let z : s ≡ d = cc in subst (Own n (w.incs n)) z a.own)) (λ m ne d q. old m d q);
        rings = each_set (λ m o. ring_on net o ≡ ring_at v m) w.cores n (Some s) a.ring a.others;
        sends = a.sends;
        records = λ r h. ⊎_elim (λ (i : Has r (reverse s.records)). a.records r (append_has_left r s.records (records_of w.before) (has_reverse r s.records i))) (λ (i : Has r (records_of w.before)). a.records r (append_has_right r s.records (records_of w.before) i)) (has_append r (reverse s.records) (records_of w.before) h);
        starts = a.starts;
      }

  step_stands : (w : Scene) (n : ℕ) (f : Answering) (s : Core) (e : NodeEvent) (v : Event) → w.cores n ≡ Some s → Arises w e → PlaysIn net w → PlaysIn net (ended w n v (stepped f s e))
  step_stands w n f s e v up arises p =
      let begun : Played net w n (at_work s) = (p.0, p.1, begin_at w n s p.0 up p.2) in
      let rules = played_rules net w n in
      let called = on_called (Played net w n) Given rules (played_rings net w n) (played_views net w n) (played_calls net w n) e begun in
      let done : Played net w n (stepped f s e) = on_stepped (Played net w n) Given rules (played_rings net w n) (played_views net w n) f s e (given e arises) called in
      (done.0, done.1, end_stands w n v (stepped f s e) done.0 p.2.own done.2)
    where
      Given : Packet → Type 0
      Given q = Has q w.sent

      given : (e : NodeEvent) → Arises w e → GivenBy Given e
      given node_step.Ticks a = tt
      given (node_step.Asks mask) a = tt
      given (node_step.Given q) a = a
      given (node_step.Calls c) a = tt
      given node_step.Garbage a = tt

  -- ---- no node changes

  note_tells : (v : Network) (r : Happened) → IsNote r → Tells net v r
  note_tells v (happened.Ring n k id ms b) note = absurd note
  note_tells v _ note = tt

  note_stands : (w : Scene) (rs : List Happened) → ((r : Happened) → Has r rs → IsNote r) → PlaysIn net w → Plays net w.config w.cores w.incs w.sent (reverse rs ++ records_of w.before)
  note_stands w rs notes p =
      let k : Stands net w.config w.cores w.incs w.sent (records_of w.before) p.0 = p.2 in (
        p.0,
        p.1,
        record {
          net_is = k.net_is;
          settings = k.settings;
          own = k.own;
          rings = k.rings;
          sends = k.sends;
          records = λ r h. ⊎_elim (λ (i : Has r (reverse rs)). note_tells p.0 r (notes r (has_reverse r rs i))) (λ (i : Has r (records_of w.before)). k.records r i) (has_append r (reverse rs) (records_of w.before) h);
          starts = k.starts;
        },
      )

  -- ---- every scene

  reached_plays : (c : Config) (w : Scene) → length (addresses_on c net) ≤ 32 → Reached c w → PlaysIn net w
  reached_plays c _ few Nothing = nothing_stands c [] (λ r h. h)
  reached_plays c _ few (AllStart fixed) = all_start c few fixed
  reached_plays c _ few (Starts w n e k free real down) =
      let rs : List Happened = (started w.config n (w.incs n + 1)).records in
      let more : List Happened = reverse rs ++ records_of w.before in
      let plays = start_plays net w.config w.cores w.incs w.sent (records_of w.before) more n (subst (λ z. length (addresses_on z net) ≤ 32) (sym (config_is c w k)) few) (λ z. real) down (λ r h. ⊎_elim (λ (i : Has r (reverse rs)). inl (has_reverse r rs i)) (λ (i : Has r (records_of w.before)). inr i) (has_append r (reverse rs) (records_of w.before) h)) (reached_plays c w few k) in
      subst (λ z. Plays net w.config (at_node w.cores n (Some (started w.config n (w.incs n + 1)))) (at_node w.incs n (w.incs n + 1)) (z ++ w.sent) more) (sym (no_sends w.config n (w.incs n + 1))) plays
  reached_plays c _ few (Stops w n e s k up) = stop_stands w n e (reached_plays c w few k)
  reached_plays c _ few (Steps w n f s e v k up arises) = step_stands w n f s e v up arises (reached_plays c w few k)
  reached_plays c _ few (Notes w e rs k notes) = note_stands w rs notes (reached_plays c w few k)

-- ---- the law

agree_fewer : (s : RingSettings) (some all : List Told) → ((t : Told) → Has t some → Has t all) → RingsAgree s all → RingsAgree s some
agree_fewer s some all among a =
    record {
      same = λ x y h i e. a.same x y (among x h) (among y i) e;
      mine = λ x h. a.mine x (among x h);
      led = λ x h. a.led x (among x h);
      beside = λ x h. a.beside x (among x h);
    }

told_there : (net : ℕ) (v : Network) (r : Happened) (t : Told) → Tells net v r → Has t (told_on net r) → Has t v.told
told_there net v (happened.Ring n network id ms b) t tells h = by (network == net) refl h
  where
    by : (c : Bool) → (network == net) ≡ c → Has t (if c then record { node = n; id = id; members = ms; neighbour = b } ∷ [] else []) → Has t v.told
    by true e (inl q) = subst (λ z. Has z v.told) (sym q) (tells (eqb-true network net e))
    by true e (inr z) = absurd z
    by false e z = absurd z
told_there net v _ t tells h = absurd h

all_told : (net : ℕ) (v : Network) (rs : List Happened) (t : Told) → ((r : Happened) → Has r rs → Tells net v r) → Has t (rings_told net rs) → Has t v.told
all_told net v [] t tells h = absurd h
all_told net v (r ∷ rs) t tells h =
    ⊎_elim (λ (a : Has t (told_on net r)). told_there net v r t (tells r (inl refl)) a) (λ (a : Has t (rings_told net rs)). all_told net v rs t (λ q i. tells q (inr i)) a) (has_append t (told_on net r) (rings_told net rs) h)

pub rings_agree_in_runs : RingsAgreeInRuns
rings_agree_in_runs c w k net fit =
    let is : w.config ≡ c = config_is c w k in
    let p : PlaysIn net w = reached_plays net c w fit.nodes k in
    let s : RingSettings = ring_settings w.config net in
    let differ : AddressesDiffer s = subst (λ z. AddressesDiffer (ring_settings z net)) (sym is) fit.differ in
    let agree : RingsAgree s p.0.told = subst (λ z. RingsAgree s z.told) p.1.1 (rings_agree net s differ p.1.0) in
    subst (λ z. RingsAgree (ring_settings z net) (rings_told net (records_of w.before))) is (agree_fewer s (rings_told net (records_of w.before)) p.0.told (λ t h. all_told net p.0 (records_of w.before) t p.2.records h) agree)
