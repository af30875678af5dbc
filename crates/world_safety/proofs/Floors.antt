-- Where lists start, from each event to the next: at a node that does not lead the group, at the greatest place that it was told.
use Rattle.std.proofs.Common.{◌≡◌, ◌≤◌, ◌⊎◌, ℕ, min, List, [], ◌∷◌, ◌++◌, length, Option, Some, None, Bool, true, false, refl, sym, ap, ◌∙◌, subst, inl, inr, append_assoc, arith}
use Rattle.std.proofs.lemmas.Bool.{eqb-true, eqb-false}
use Rattle.std.specs.Prelude.{◌==◌, ◌+◌, find, fold, map, reverse, nat_lt}
use Rattle.rsct_packet.specs.declared.ids.ViewId.{ViewId}
use Rattle.rsct_packet.specs.declared.ids.Member.{Member}
use Rattle.rsct_packet.specs.Ids.{last_u32}
use Rattle.rsct_packet.specs.Search.{Has, insert_before}
use Rattle.rsct_packet.specs.Mask.{nodes_of}
use Rattle.view_state.specs.Views.{views_new}
use Rattle.rsct_packet.proofs.HasLaws.{append_has_right, reverse_has}
use Rattle.node_state.specs.declared.config.Config.{Config}
use Rattle.node_state.specs.declared.config.Mode.{Mode}
use Rattle.node_state.specs.declared.config.Mode.TheVariants.{Fixed, Asked, Rings}
use Rattle.node_state.specs.declared.happened.Happened.{Happened}
use Rattle.node_state.specs.declared.happened.Happened.TheVariants as happened
use Rattle.node_state.specs.declared.packet.Packet.{Packet}
use Rattle.node_state.specs.declared.state.Core.{Core}
use Rattle.node_state.specs.HandOn.{Answering}
use Rattle.node_state.specs.Applying.{level_set}
use Rattle.node_state.specs.State.{row_of, led_of, list_of, len_of, acked_from, acked_by, least_acked, leads, with_sessions}
use Rattle.node_state.specs.Step.{NodeEvent, Given, first_view, first_members, own_rings, ring_record, started, stepped}
use Rattle.world_model.specs.declared.event.Event.{Event}
use Rattle.world_model.specs.declared.event.Event.TheVariants as event
use Rattle.world_model.specs.World.{Node, Started, World, is_node, node_at, kth_between, handled, traced, after_step, started_at, starts_if, node_starts, empty_world, world_of, world_new, inc_in}
use Rattle.proposal_core.specs.Lists.{len_in}
use Rattle.run_safety.specs.Past.{records_of, puts_of}
use Rattle.run_safety.specs.Group.{member}
use Rattle.step_refinement.specs.Tied.{Scene, NodeIsIf, Rests}
use Rattle.step_refinement.specs.Rules.{Arises, over, ended}
use Rattle.step_refinement.specs.Runs.{Reached, Steps}
use Rattle.step_refinement.proofs.Acks.{fold_least, member_self}
use Rattle.step_refinement.proofs.Changed.{set_here}
use Rattle.step_refinement.proofs.RunLaw.{reached_rests}
use Rattle.entry_laws.specs.closing_rows.Rows.{start_of, acked_of, Tells, Acknowledges, GoesOn, EntersView}
use Rattle.entry_laws.proofs.closing_rows.Law.{puts_grow, entered_anew, told_held, acked_held, steps_forget, steps_keep_acks, leaders_forget}
use Rattle.world_laws.specs.world_answers.Answers.{Answered, events_in, answered_after, happens_by, delivers_by_if, step_by}
use Rattle.world_safety.specs.Events.{AllMayHappen}
use Rattle.world_safety.specs.Mirrors.{core_in, core_at}
use Rattle.world_safety.specs.Floors.{IsGiven, WasGiven, IsGreatest, ListsStartAsTold, HasAcknowledged, KnowsHeld, IsLeastHeld, LedListsStartAsHeld}
use Rattle.world_safety.proofs.Finding.{with_here, put_here, put_there}
use Rattle.world_safety.proofs.Following.{IsNamed, StartOf, StepOf, CameTo}
use Rattle.world_safety.proofs.Posting.{posted_nodes, kth_is}
use Rattle.world_safety.proofs.Runs.{every_run_is_reached}
use Rattle.world_safety.proofs.HeardStates.{answered_last}
use Rattle.world_safety.proofs.Turned.{onto_is}
use Rattle.world_safety.proofs.Further.{goes_further, Turned, turned_at}
use Rattle.row_laws.proofs.hearing.Listening.{reached_attends}

-- ---- the least of some numbers

min_one : (i j : ℕ) → (min i j ≡ i) ⊎ (min i j ≡ j)
min_one i j = grind arith

-- it is one of them
least_one : (f : Member → ℕ) (ms : List Member) (i : ℕ) → (fold (λ least (m : Member). min least (f m)) i ms ≡ i) ⊎ ((m : Member) × Has m ms × (fold (λ least (m : Member). min least (f m)) i ms ≡ f m))
least_one f [] i = inl refl
least_one f (m ∷ ms) i = by (least_one f ms (min i (f m))) (min_one i (f m))
  where
    least : ℕ
    least = fold (λ least (m : Member). min least (f m)) (min i (f m)) ms

    by : (least ≡ min i (f m)) ⊎ ((j : Member) × Has j ms × (least ≡ f j)) → (min i (f m) ≡ i) ⊎ (min i (f m) ≡ f m) → (least ≡ i) ⊎ ((j : Member) × Has j (m ∷ ms) × (least ≡ f j))
    by (inl e) (inl q) = inl (e ∙ q)
    by (inl e) (inr q) = inr (m, inl refl, e ∙ q)
    by (inr z) q = inr (z.0, inr z.1, z.2)

-- ---- what was given

-- the last of a list, or one before it
last_of : {A : Type 0} (xs ys zs : List A) (e x : A) → xs ++ e ∷ [] ≡ ys ++ x ∷ zs → ((ys ≡ xs) × (x ≡ e)) ⊎ ((ws : List A) × (xs ≡ ys ++ x ∷ ws))
last_of [] [] zs e x q = inl (refl, (cc))
last_of [] (y ∷ ys) zs e x q = absurd (none ys (let r : [] ≡ ys ++ x ∷ zs = cc in r))
  where
    none : (ys : List _) → [] ≡ ys ++ x ∷ zs → ⊥
    none [] r = cc
    none (y ∷ ys) r = cc
last_of (a ∷ xs) [] zs e x q = inr (xs, let r : a ≡ x = cc in ap (λ z. z ∷ xs) r)
last_of (a ∷ xs) (y ∷ ys) zs e x q =
    let head : a ≡ y = cc in
    let tail : xs ++ e ∷ [] ≡ ys ++ x ∷ zs = cc in
    by head (last_of xs ys zs e x tail)
  where
    by : a ≡ y → ((ys ≡ xs) × (x ≡ e)) ⊎ ((ws : List _) × (xs ≡ ys ++ x ∷ ws)) → ((y ∷ ys ≡ a ∷ xs) × (x ≡ e)) ⊎ ((ws : List _) × (a ∷ xs ≡ y ∷ ys ++ x ∷ ws))
    by h (inl k) = inl ((λ i. sym h i ∷ k.0 i), k.1)
    by h (inr k) = inr (k.0, (λ i. h i ∷ k.1 i))

-- a node that starts has no list, and nobody acknowledged anything to it
bare_start : (c : Config) (n j : ℕ) (g : List ℕ) → start_of (started c n j) g ≡ 0
unfolding started with_sessions row_of
bare_start c n j g = refl

bare_acked : (c : Config) (n j : ℕ) (g : List ℕ) (m : ℕ) → acked_of (started c n j) g m ≡ 0
unfolding started with_sessions led_of row_of acked_from
bare_acked c n j g m = refl

start_me : (c : Config) (n j : ℕ) → (started c n j).views.me ≡ n
unfolding started with_sessions level_set views_new
start_me c n j = refl

-- and it records that it enters its view
start_enters : (c : Config) (n j : ℕ) → (ms : List Member) × Has (happened.In (started c n j).views.me (started c n j).views.view ms) (started c n j).records
unfolding started with_sessions level_set views_new
start_enters c n j =
    (first_members c c.mode n j, inr (append_has_right (happened.In n (first_view c c.mode n j) (first_members c c.mode n j)) (map (ring_record n) (own_rings c c.mode n j)) (happened.In n (first_view c c.mode n j) (first_members c c.mode n j) ∷ []) (inl refl)))

-- each node is as it started
abbrev AllBegun : World → Type 0
AllBegun w = (n : ℕ) (s : Core) → core_at w.nodes n ≡ Some s → (c : Config) × (m j : ℕ) × (s ≡ started c m j)

all_begin : (w : World) (n : ℕ) → AllBegun w → AllBegun (node_starts w n)
unfolding node_starts node_at starts_if started_at traced is_node
all_begin w n old = by (find (is_node n) w.nodes) refl
  where
    last : ℕ
    last = inc_in (find (λ (x : Started). x.node == n) w.starts)

    x : Node
    x = record { core = started w.config n (last + 1); scripts = [] }

    test : Node → Bool
    test y = nat_lt n y.core.views.me

    same : (m : ℕ) → is_node m x ≡ true → m ≡ n
    same m e = sym (eqb-true x.core.views.me m e) ∙ start_me w.config n (last + 1)

    begun : find (is_node n) w.nodes ≡ None → (m : ℕ) (b : Bool) → is_node m x ≡ b → (s : Core) → core_at (insert_before test x w.nodes) m ≡ Some s → (c : Config) × (k j : ℕ) × (s ≡ started c k j)
    begun down m true e s up =
        let none : find (is_node m) w.nodes ≡ None = ap (λ k. find (is_node k) w.nodes) (same m e) ∙ down in
        let here : Some x.core ≡ Some s = sym (ap core_in (put_here x test m e w.nodes none)) ∙ up in
        let is : x.core ≡ s = cc in (w.config, n, last + 1, sym is)
    begun down m false e s up = old m s (sym (ap core_in (put_there x test m e w.nodes)) ∙ up)

    by : (o : Option Node) → find (is_node n) w.nodes ≡ o → AllBegun (starts_if w n last o)
    by (Some y) at = old
    by None at = by_last (last == last_u32)
      where
        by_last : (b : Bool) → AllBegun (elim b [ true ↦ w | false ↦ started_at w n (last + 1) ])
        by_last true = old
        by_last false = λ m s up. begun at m (is_node m x) refl s up

all_begun : (ns : List ℕ) (w : World) → AllBegun w → AllBegun (fold node_starts w ns)
all_begun [] w old = old
all_begun (n ∷ ns) w old = all_begun ns (node_starts w n) (all_begin w n old)

-- in mode fixed all nodes have started at the beginning
first_begun : (c : Config) (mode : Mode) → AllBegun (world_of c mode)
unfolding world_of
first_begun c Fixed = all_begun (nodes_of c.nodes) (empty_world c) (λ n s up. absurd (cc))
first_begun c Asked = λ n s up. absurd (cc)
first_begun c Rings = λ n s up. absurd (cc)

-- the node that is given a packet takes that step
deliver_steps : (f : Answering) (w : World) (a b i : ℕ) (core : Core) (p : Packet) → core_at w.nodes b ≡ Some core → kth_between w a b i ≡ Some p → (stepped f core (Given p)).views.me ≡ b → core_at (happens_by f w (event.Deliver a b i)).nodes b ≡ Some (stepped f core (Given p))
unfolding happens_by delivers_by_if step_by after_step node_at handled traced
deliver_steps f w a b i core p up given me = by (find (is_node b) w.nodes) refl up
  where
    by : (o : Option Node) → find (is_node b) w.nodes ≡ o → core_in o ≡ Some core → core_at (delivers_by_if f w a b i o (kth_between w a b i)).nodes b ≡ Some (stepped f core (Given p))
    by None at e = absurd (cc)
    by (Some x) at e =
        let is : x.core ≡ core = cc in
        let y : Core = stepped f x.core (Given p) in
        let own : y.views.me ≡ b = ap (λ (z : Core). (stepped f z (Given p)).views.me) is ∙ me in
        let there : core_at (delivers_by_if f w a b i (Some x) (Some p)).nodes b ≡ Some y = ap (λ ns. core_at ns b) (posted_nodes y.sends _) ∙ ap core_in (with_here (record { core = y; scripts = x.scripts }) b own w.nodes x at) in
        subst (λ o. core_at (delivers_by_if f w a b i (Some x) o).nodes b ≡ Some (stepped f core (Given p))) (sym given) (there ∙ ap (λ (z : Core). Some (stepped f z (Given p))) is)

module _ (c : Config) where
  -- what was given was given
  given_more : {Says : Core → NodeEvent → Type 0} (done : List Answered) (e : Answered) (n : ℕ) (v : ViewId) → WasGiven c done n v Says → WasGiven c (done ++ e ∷ []) n v Says
  given_more done e n v k =
      record { before = k.before; event = k.event; rest = k.rest ++ e ∷ []; at = ap (λ z. z ++ e ∷ []) k.at ∙ append_assoc k.before (k.event ∷ k.rest) (e ∷ []); gives = k.gives }

  given_now : {Says : Core → NodeEvent → Type 0} (done : List Answered) (e : Answered) (n : ℕ) (v : ViewId) → IsGiven (answered_after c done) e.event n v Says → WasGiven c (done ++ e ∷ []) n v Says
  given_now done e n v k = record { before = done; event = e; rest = []; at = refl; gives = k }

  -- it was given before, or is now
  given_by : {Says : Core → NodeEvent → Type 0} (done : List Answered) (e : Answered) (n : ℕ) (v : ViewId) → WasGiven c (done ++ e ∷ []) n v Says → WasGiven c done n v Says ⊎ IsGiven (answered_after c done) e.event n v Says
  given_by {Says = Says} done e n v k = by (last_of done k.before k.rest e k.event k.at)
    where
      by : ((k.before ≡ done) × (k.event ≡ e)) ⊎ ((ws : List Answered) × (done ≡ k.before ++ k.event ∷ ws)) → WasGiven c done n v Says ⊎ IsGiven (answered_after c done) e.event n v Says
      by (inl z) = inr (subst (λ (y : List Answered × Answered). IsGiven (answered_after c y.0) y.1.event n v Says) (λ i. (z.0 i, z.1 i)) k.gives)
      by (inr z) = inl (record { before = k.before; event = k.event; rest = z.0; at = z.1; gives = k.gives })

  given_never : {Says : Core → NodeEvent → Type 0} (n : ℕ) (v : ViewId) → WasGiven c [] n v Says → ⊥
  given_never n v k = none k.before k.at
    where
      none : (xs : List Answered) → [] ≡ xs ++ k.event ∷ k.rest → ⊥
      none [] e = cc
      none (x ∷ xs) e = cc

  itself : (s : Scene) (k : Reached c s) (n : ℕ) (core : Core) → s.cores n ≡ Some core → core.views.me ≡ n
  itself s k n core up = ((reached_attends c s k).up n core up).me

  -- A number that a node keeps, which goes on to what events say where this holds of the node: it is the greatest number that was said to
  -- it in its view.
  module _ (g : List ℕ) (value : Core → ℕ) (Says : Core → NodeEvent → ℕ → Type 0) (Here : Core → Type 0) (steps : (w : Scene) → Reached c w → (n : ℕ) (f : Answering) (s : Core) (e : NodeEvent) → w.cores n ≡ Some s → Arises w e → Here (stepped f s e) → (Here s × GoesOn value Says s e (stepped f s e)) ⊎ (EntersView (stepped f s e) × (value (stepped f s e) ≡ 0))) (begins : (k : Config) (n j : ℕ) → value (started k n j) ≡ 0) (gives : (s : Core) (e : NodeEvent) (k : ℕ) → Says s e k → (p : Packet) × (e ≡ Given p)) (holds : (w : Scene) → Reached c w → (n : ℕ) (s : Core) → w.cores n ≡ Some s → (p : Packet) → Has p w.sent → (k : ℕ) → Says s (Given p) k → k ≤ length (puts_of s.views.me s.views.view g (records_of w.before))) where
    abbrev Said : List Answered → ℕ → ViewId → ℕ → Type 0
    Said es n v k = WasGiven c es n v (λ s e. Says s e k)

    abbrev Says_now : World → Event → ℕ → ViewId → ℕ → Type 0
    Says_now w what n v k = IsGiven w what n v (λ s e. Says s e k)

    -- so many entries the node has put in the view
    abbrev Held : List Answered → Type 0
    Held es = (n : ℕ) (v : ViewId) (k : ℕ) → Said es n v k → k ≤ length (puts_of n v g (answered_after c es).trace)

    abbrev Greatest : List Answered → Type 0
    Greatest es = (n : ℕ) (s : Core) → core_at (answered_after c es).nodes n ≡ Some s → Here s → IsGreatest (Said es n s.views.view) (value s)

    module _ (done : List Answered) (e : Answered) (may : AllMayHappen c (events_in (done ++ e ∷ []))) where
      t : Turned c done e
      t = turned_at c done e may

      abbrev w : World
      w = answered_after c done

      there : (n : ℕ) (core : Core) → core_at w.nodes n ≡ Some core → t.scene.cores n ≡ Some core
      there n core up = t.mirrors.cores n ∙ up

      grown : (n : ℕ) (v : ViewId) → length (puts_of n v g w.trace) ≤ length (puts_of n v g (answered_after c (done ++ e ∷ [])).trace)
      grown n v =
          let more : reverse t.next.records ++ w.trace ≡ (answered_after c (done ++ e ∷ [])).trace = sym (onto_is t.next.records w.trace) ∙ sym t.next.trace ∙ ap (λ (z : World). z.trace) (sym (answered_last c done e)) in
          subst (λ rs. length (puts_of n v g w.trace) ≤ length (puts_of n v g rs)) more (puts_grow n v g (reverse t.next.records) w.trace)

      module _ (n : ℕ) (v : ViewId) (k : ℕ) (now : Says_now w e.event n v k) where
        sent : Has now.packet t.scene.sent
        sent = kth_is (λ z. Has z t.scene.sent) w now.sender n now.number now.packet t.mirrors.paired now.given

        held_now : k ≤ length (puts_of n v g w.trace)
        held_now =
            let le : k ≤ length (puts_of now.core.views.me now.core.views.view g (records_of t.scene.before)) = holds t.scene t.reached n now.core (there n now.core now.up) now.packet sent k now.says in
            subst (λ (z : ℕ × ViewId × List Happened). k ≤ length (puts_of z.0 z.1 g z.2)) (λ i. (itself t.scene t.reached n now.core (there n now.core now.up) i, now.view i, t.trace i)) le

        abbrev after : Core
        after = stepped e.answers now.core (Given now.packet)

        own : after.views.me ≡ n
        own =
            itself (ended t.scene n e.event after) (Steps t.scene n e.answers now.core (Given now.packet) e.event t.reached (there n now.core now.up) sent) n after (set_here t.scene.cores n (Some after))

        given_steps : core_at (answered_after c (done ++ e ∷ [])).nodes n ≡ Some after
        given_steps =
            let step : core_at (happens_by e.answers w (event.Deliver now.sender n now.number)).nodes n ≡ Some after = deliver_steps e.answers w now.sender n now.number now.core now.packet now.up now.given own in
            ap (λ (z : World). core_at z.nodes n) (answered_last c done e) ∙ ap (λ what. core_at (happens_by e.answers w what).nodes n) now.happens ∙ step

      held_on : Held done → Held (done ++ e ∷ [])
      held_on old n v k said = by (given_by done e n v said)
        where
          more : length (puts_of n v g w.trace) ≤ length (puts_of n v g (answered_after c (done ++ e ∷ [])).trace)
          more = grown n v

          by : Said done n v k ⊎ Says_now w e.event n v k → k ≤ length (puts_of n v g (answered_after c (done ++ e ∷ [])).trace)
          by (inl z) = let le : k ≤ length (puts_of n v g w.trace) = old n v k z in let up = more in omega arith
          by (inr z) = let le : k ≤ length (puts_of n v g w.trace) = held_now n v k z in let up = more in omega arith

      -- a node that enters a view put nothing there before
      stepped_anew : (n : ℕ) (f : Answering) (s : Core) (what : NodeEvent) (up : t.scene.cores n ≡ Some s) (arises : Arises t.scene what) → EntersView (stepped f s what) → length (puts_of n (stepped f s what).views.view g w.trace) ≤ 0
      stepped_anew n f s what up arises anew =
          let y : Core = stepped f s what in
          let k : Reached c (ended t.scene n e.event y) = Steps t.scene n f s what e.event t.reached up arises in
          let mine : y.views.me ≡ n = itself (ended t.scene n e.event y) k n y (set_here t.scene.cores n (Some y)) in
          let none : length (puts_of y.views.me y.views.view g (records_of t.scene.before)) ≤ 0 = entered_anew c (ended t.scene n e.event y) k (over e.event y) t.scene.before refl y.views.me y.views.view anew.members (reverse_has (happened.In y.views.me y.views.view anew.members) y.records anew.enters) g in
          subst (λ (z : ℕ × List Happened). length (puts_of z.0 y.views.view g z.1) ≤ 0) (λ i. (mine i, t.trace i)) none

      module _ (held : Held done) (old : Greatest done) (n : ℕ) (s : Core) (up : core_at (answered_after c (done ++ e ∷ [])).nodes n ≡ Some s) (here : Here s) where
        abbrev Out : Type 0
        Out = IsGreatest (Said (done ++ e ∷ []) n s.views.view) (value s)

        at : t.next.scene.cores n ≡ Some s
        at = t.next.mirrors.cores n ∙ subst (λ (z : World). core_at z.nodes n ≡ Some s) (answered_last c done e) up

        -- what is said now is no more than the number
        said_now : (k : ℕ) → Says_now w e.event n s.views.view k → k ≤ value s
        said_now k now = by (steps t.scene t.reached n e.answers now.core (Given now.packet) (there n now.core now.up) (sent n s.views.view k now) (subst Here (sym is) here))
          where
            y : Core
            y = stepped e.answers now.core (Given now.packet)

            is : y ≡ s
            is = let z : Some y ≡ Some s = sym (given_steps n s.views.view k now) ∙ up in cc

            by : (Here now.core × GoesOn value Says now.core (Given now.packet) y) ⊎ (EntersView y × (value y ≡ 0)) → k ≤ value s
            by (inl z) = subst (λ x. k ≤ value x) is (z.1.told k now.says)
            by (inr z) =
                let none : length (puts_of n s.views.view g w.trace) ≤ 0 = subst (λ (x : Core). length (puts_of n x.views.view g w.trace) ≤ 0) is (stepped_anew n e.answers now.core (Given now.packet) (there n now.core now.up) (sent n s.views.view k now) z.0) in
                let le : k ≤ length (puts_of n s.views.view g w.trace) = held_now n s.views.view k now in omega arith

        -- nor what was said before
        greatest : ((k : ℕ) → Said done n s.views.view k → k ≤ value s) → (value s ≡ 0) ⊎ Said (done ++ e ∷ []) n s.views.view (value s) → Out
        greatest less one = record { all = λ k said. by k (given_by done e n s.views.view said); one = one }
          where
            by : (k : ℕ) → Said done n s.views.view k ⊎ Says_now w e.event n s.views.view k → k ≤ value s
            by k (inl z) = less k z
            by k (inr z) = said_now k z

        -- in a view that is entered nothing was said before
        greatest_anew : length (puts_of n s.views.view g w.trace) ≤ 0 → value s ≡ 0 → Out
        greatest_anew none zero =
            greatest (λ k said. let le : k ≤ length (puts_of n s.views.view g w.trace) = held n s.views.view k said in omega arith) (inl zero)

        stayed : t.scene.cores n ≡ Some s → Out
        stayed was =
            let prior : IsGreatest (Said done n s.views.view) (value s) = old n s (sym (t.mirrors.cores n) ∙ was) here in
            greatest prior.all (on prior.one)
          where
            on : (value s ≡ 0) ⊎ Said done n s.views.view (value s) → (value s ≡ 0) ⊎ Said (done ++ e ∷ []) n s.views.view (value s)
            on (inl z) = inl z
            on (inr z) = inr (given_more done e n s.views.view z)

        anew : StartOf t.scene (reverse t.next.records) n s → Out
        anew x = greatest_anew (subst (λ rs. length (puts_of n s.views.view g rs) ≤ 0) t.trace none) (ap value x.is ∙ begins t.scene.config n x.inc)
          where
            enters : (ms : List Member) × Has (happened.In s.views.me s.views.view ms) s.records
            enters = subst (λ (z : Core). (ms : List Member) × Has (happened.In z.views.me z.views.view ms) z.records) (sym x.is) (start_enters t.scene.config n x.inc)

            mine : s.views.me ≡ n
            mine = itself t.next.scene t.next.reached n s at

            none : length (puts_of n s.views.view g (records_of t.scene.before)) ≤ 0
            none =
                entered_anew c t.next.scene t.next.reached (record { event = Some e.event; records = reverse t.next.records }) t.scene.before t.next.before n s.views.view enters.0 (subst (λ z. Has (happened.In z s.views.view enters.0) (reverse t.next.records)) mine (x.records (happened.In s.views.me s.views.view enters.0) (reverse_has (happened.In s.views.me s.views.view enters.0) s.records enters.1))) g

        moved : StepOf t.scene w e.event (reverse t.next.records) n s → Out
        moved x = by (steps t.scene t.reached n x.answers x.core x.what x.up x.arises (subst Here x.is here))
          where
            y : Core
            y = stepped x.answers x.core x.what

            -- the event is that which the node was given
            said_by : (k : ℕ) → Says x.core x.what k → x.core.views.view ≡ s.views.view → Says_now w e.event n s.views.view k
            said_by k z view =
                let p = gives x.core x.what k z in
                let named : (a : ℕ) × (i : ℕ) × (e.event ≡ event.Deliver a n i) × (kth_between w a n i ≡ Some p.0) = subst (IsNamed w e.event n) p.1 x.named in
                record { core = x.core; up = sym (t.mirrors.cores n) ∙ x.up; view = view; sender = named.0; number = named.1; happens = named.2; packet = p.0; given = named.3; says = subst (λ o. Says x.core o k) p.1 z }

            by : (Here x.core × GoesOn value Says x.core x.what y) ⊎ (EntersView y × (value y ≡ 0)) → Out
            by (inr z) =
                greatest_anew (subst (λ (o : Core). length (puts_of n o.views.view g w.trace) ≤ 0) (sym x.is) (stepped_anew n x.answers x.core x.what x.up x.arises z.0)) (ap value x.is ∙ z.1)
            by (inl z) =
                let prior : IsGreatest (Said done n x.core.views.view) (value x.core) = old n x.core (sym (t.mirrors.cores n) ∙ x.up) z.0 in
                greatest (λ k said. less k (prior.all k (subst (λ u. Said done n u k) (sym view) said))) (one z.1.one prior.one)
              where
                view : x.core.views.view ≡ s.views.view
                view = sym z.1.view ∙ ap (λ (o : Core). o.views.view) (sym x.is)

                now : value y ≡ value s
                now = ap value (sym x.is)

                less : (k : ℕ) → k ≤ value x.core → k ≤ value s
                less k le = let up : value x.core ≤ value y = z.1.old in let is = now in omega arith

                before : value s ≡ value x.core → (value x.core ≡ 0) ⊎ Said done n x.core.views.view (value x.core) → (value s ≡ 0) ⊎ Said (done ++ e ∷ []) n s.views.view (value s)
                before same (inl q) = inl (same ∙ q)
                before same (inr q) =
                    inr (subst (Said (done ++ e ∷ []) n s.views.view) (sym same) (given_more done e n s.views.view (subst (λ u. Said done n u (value x.core)) view q)))

                one : (value y ≡ value x.core) ⊎ Says x.core x.what (value y) → (value x.core ≡ 0) ⊎ Said done n x.core.views.view (value x.core) → (value s ≡ 0) ⊎ Said (done ++ e ∷ []) n s.views.view (value s)
                one (inl same) q = before (sym now ∙ same) q
                one (inr says) q =
                    inr (given_now done e n s.views.view (said_by (value s) (subst (Says x.core x.what) now says) view))

        greatest_on : Out
        greatest_on = by (t.next.cores n s at)
          where
            by : CameTo t.scene w e.event (reverse t.next.records) n s → Out
            by (inl was) = stayed was
            by (inr (inl x)) = anew x
            by (inr (inr x)) = moved x

    all_greatest : (es : List Answered) → AllMayHappen c (events_in es) → Greatest es
    unfolding answered_after world_new
    all_greatest es may =
        (goes_further c (λ es. Held es × Greatest es) (λ done e all k. (held_on done e all k.0, λ n s up here. greatest_on done e all k.0 k.1 n s up here)) es [] may ((λ n v k said. absurd (given_never n v said)), λ n s up here. record { all = λ k said. absurd (given_never n s.views.view said); one = let z = first_begun c c.mode n s up in inl (ap value z.3 ∙ begins z.0 z.1 z.2) })).1

  -- ---- what a node is told, and what is acknowledged to it

  pub lists_start_as_told : (es : List Answered) → AllMayHappen c (events_in es) → ListsStartAsTold c es
  lists_start_as_told es may n s up g away =
      all_greatest g (λ s. start_of s g) (λ s e k. Tells s e g k) (λ s. leads s g ≡ false) (λ w k n f s e at arises gone. steps_forget c w k n f s e at arises g gone) (λ k n j. bare_start k n j g) (λ s e k z. (z.packet, z.given)) (λ w k n s at p sent i z. told_held c w k n s at p sent g i z) es may n s up away

  acks_are_said : (es : List Answered) → AllMayHappen c (events_in es) → (n : ℕ) (s : Core) → core_at (answered_after c es).nodes n ≡ Some s → (g : List ℕ) (m : ℕ) → IsGreatest (HasAcknowledged c es n s.views.view g m) (acked_of s g m)
  acks_are_said es may n s up g m =
      all_greatest g (λ s. acked_of s g m) (λ s e k. Acknowledges s e g m k) (λ s. Unit {0}) (λ w k n f s e at arises z. with_unit (steps_keep_acks c w k n f s e at arises g m)) (λ k n j. bare_acked k n j g m) (λ s e k z. (z.packet, z.given)) (λ w k n s at p sent i z. acked_held c w k n s at p sent g m i z) es may n s up tt
    where
      with_unit : {A B : Type 0} → A ⊎ B → (Unit {0} × A) ⊎ B
      with_unit (inl x) = inl (tt, x)
      with_unit (inr x) = inr x

  -- ---- what a leader forgets

  module _ (es : List Answered) (may : AllMayHappen c (events_in es)) (n : ℕ) (s : Core) (up : core_at (answered_after c es).nodes n ≡ Some s) (g : List ℕ) where
    abbrev scene : Scene
    scene = (every_run_is_reached c es may).0

    reached : Reached c scene
    reached = (every_run_is_reached c es may).1

    at_scene : scene.cores n ≡ Some s
    at_scene = (every_run_is_reached c es may).4.cores n ∙ up

    me : s.views.me ≡ n
    me = itself scene reached n s at_scene

    -- the node is a member of its view
    self : (m : Member) × Has m s.views.members × (m.node ≡ s.views.me)
    self =
        let r : Rests [] scene = reached_rests c scene reached [] in
        let is : NodeIsIf scene.config r.ghost [] n (scene.incs n) (Some s) = subst (λ o. NodeIsIf scene.config r.ghost [] n (scene.incs n) o) at_scene (r.nodes n) in
        (member n s.views.inc, member_self r.ghost r.life n s.views.inc s.views.view s.views.members is.0.stands.seated, sym me)

    -- what it knows of each
    knows : (m : Member) → KnowsHeld c es s g m.node (acked_by s (row_of s g) m.node)
    unfolding acked_by len_of list_of row_of led_of
    knows m = by (m.node == s.views.me) refl
      where
        said : IsGreatest (HasAcknowledged c es s.views.me s.views.view g m.node) (acked_of s g m.node)
        said = subst (λ i. IsGreatest (HasAcknowledged c es i s.views.view g m.node) (acked_of s g m.node)) (sym me) (acks_are_said es may n s up g m.node)

        by : (b : Bool) → (m.node == s.views.me) ≡ b → KnowsHeld c es s g m.node (elim b as (λ _. ℕ) [ true ↦ len_in (row_of s g).list | false ↦ acked_from m.node (row_of s g).led.acked ])
        by true e = inl (eqb-true m.node s.views.me e, refl)
        by false e = inr (eqb-false m.node s.views.me e, said)

    held_is : leads s g ≡ true → IsLeastHeld c es s g (least_acked s g)
    unfolding least_acked acked_by len_of list_of
    held_is led = record { all = λ m h. (acked_by s (row_of s g) m.node, knows m, fold_least f s.views.members (len_in (row_of s g).list) m h); one = by (least_one f s.views.members (len_in (row_of s g).list)) }
      where
        f : Member → ℕ
        f m = acked_by s (row_of s g) m.node

        least : ℕ
        least = fold (λ least (m : Member). min least (f m)) (len_in (row_of s g).list) s.views.members

        by : (least ≡ len_in (row_of s g).list) ⊎ ((m : Member) × Has m s.views.members × (least ≡ f m)) → (m : Member) × Has m s.views.members × KnowsHeld c es s g m.node least
        by (inl e) = (self.0, self.1, inl (self.2, e))
        by (inr z) = (z.0, z.1, subst (KnowsHeld c es s g z.0.node) (sym z.2) (knows z.0))

  pub led_lists_start_as_held : (es : List Answered) → AllMayHappen c (events_in es) → LedListsStartAsHeld c es
  led_lists_start_as_held es may n s up g led =
      subst (IsLeastHeld c es s g) (sym (leaders_forget c (scene es may n s up g) (reached es may n s up g) n s (at_scene es may n s up g) g led)) (held_is es may n s up g led)
