-- Packets that flow.
use Rattle.std.proofs.Common.{◌≡◌, ℕ, suc, ◌+◌, ◌-◌, ◌<◌, ◌≤◌, ◌&&◌, not, Bool, true, false, List, [], ◌∷◌, map, drop, Option, Some, None, Result, Ok, Err, refl, sym, ◌∙◌, ap, subst, arith}
use Rattle.std.specs.Prelude.{find, is_some}
use Rattle.std.specs.List.{list_any}
use Rattle.client_callbacks.specs.Handed.{Handed}
use Rattle.world_model.specs.declared.event.Event.TheVariants as event
use Rattle.world_model.specs.World.{World, Sent, node_at, is_node}
use Rattle.world_model.specs.Play.{is_cut_of, is_cut}
use Rattle.world_packets.specs.declared.waiting.Waiting.{Waiting}
use Rattle.world_packets.specs.Packets.{waits_as, first_of}
use Rattle.world_laws.specs.world_answers.Answers.{Items}
use Rattle.world_laws.specs.world_answers.Plays.{AnsweredPlay, in_that_world, PlaysEvent, TakesPacket, PlaysFlow}
use Rattle.world_laws.proofs.world_answers.Adding.{flow_adds}
use Rattle.world_laws.proofs.world_answers.Going.{flow_goes, flow_none}
use Rattle.world_laws.proofs.world_answers.Going as going
use Rattle.net_script.specs.Standing.{is_me}
use Rattle.net_script.proofs.NodeLaws.{stands_found}
use Rattle.transcript.specs.declared.kinds.Kinds.{Kinds}
use Rattle.net_script.specs.declared.stage.Stage.{Stage}
use Rattle.play_state.specs.declared.play_fault.PlayFault.{PlayFault}
use Rattle.net_script.specs.Stage.{At, Went, Stopped, LeadsTo}
use Rattle.net_script.proofs.StageLaws.{moved_still, went_still, went_none, then_went, then_stopped, stopped_on}

takes_given : (said : Items → Option Items) (p q : AnsweredPlay) (y : Sent) (ys : List Sent) (up cut : Bool) → (up && not cut) ≡ true → PlaysEvent said p (event.Deliver y.packet.from y.packet.to y.number) q → TakesPacket said p y ys up cut q
takes_given said p q y ys true false e h = h
takes_given said p q y ys true true e h = absurd cc
takes_given said p q y ys false cut e h = absurd cc

takes_lost : (said : Items → Option Items) (p : AnsweredPlay) (y : Sent) (ys : List Sent) (up cut : Bool) → (up && not cut) ≡ false → TakesPacket said p y ys up cut (in_that_world p (record (p.world) { queue = ys }))
takes_lost said p y ys true false e = absurd cc
takes_lost said p y ys true true e = refl
takes_lost said p y ys false cut e = refl

-- the flow has come so far
pub record Flowed {C : Type 0} (script : C → Option Items) (said : Items → Option Items) (R : C → List Handed → Type 0) (k : Kinds) (a b : Option (List ℕ)) (s t : Stage C) (p : AnsweredPlay) (v : World) (most left : ℕ) : Type 0 where
  pub played : AnsweredPlay
  pub went : Went script said R k a b s t p played v
  pub rest : (q : AnsweredPlay) → PlaysFlow said left played q → PlaysFlow said most p q

abbrev pub FlowsTo : {C : Type 0} → (C → Option Items) → (Items → Option Items) → (C → List Handed → Type 0) → Kinds → Option (List ℕ) → Option (List ℕ) → Stage C → Stage C → ℕ → ℕ → Type 0
FlowsTo script said R k a b s t most left = (p : AnsweredPlay) → (v : World) → At script said s p v → Flowed script said R k a b s t p v most left

-- the packet that waits longest in q is taken
abbrev pub Takes : (Items → Option Items) → AnsweredPlay → Sent → List Sent → AnsweredPlay → Type 0
Takes said q y ys r = TakesPacket said q y ys (is_some (node_at q.world y.packet.to)) (is_cut q.cuts y.packet) r

head_in : (xs : List Sent) (ws : List Waiting) (x : Waiting) → map waits_as xs ≡ ws → first_of ws ≡ Some x → (y : Sent) × (ys : List Sent) × (xs ≡ y ∷ ys) × (waits_as y ≡ x)
head_in [] ws x e f = let none : first_of ws ≡ None = ap first_of (sym e) in absurd cc
head_in (y ∷ ys) ws x e f = let some : Some (waits_as y) ≡ Some x = ap first_of e ∙ f in (y, ys, refl, cc)

none_in : (xs : List Sent) (ws : List Waiting) → map waits_as xs ≡ ws → first_of ws ≡ None → xs ≡ []
none_in [] ws e f = refl
none_in (y ∷ ys) ws e f = let some : Some (waits_as y) ≡ None = ap first_of e ∙ f in absurd cc

module _ {C : Type 0} {script : C → Option Items} {said : Items → Option Items} where
  -- ---- one packet

  -- whether the packet is to be given
  given_same : (s : Stage C) (p : AnsweredPlay) (v : World) (x : Waiting) (y : Sent) → At script said s p v → waits_as y ≡ x
      → (is_some (node_at p.world y.packet.to) ≡ is_some (find (is_me x.to) s.world.nodes)) × (is_cut p.cuts y.packet ≡ list_any (is_cut_of x.from x.to x.network) s.cuts)
  unfolding node_at is_cut
  given_same s p v x y h e = subst (λ (z : Waiting). (is_some (find (is_node y.packet.to) p.world.nodes) ≡ is_some (find (is_me z.to) s.world.nodes)) × (list_any (is_cut_of y.packet.from y.packet.to y.packet.network) p.cuts ≡ list_any (is_cut_of z.from z.to z.network) s.cuts)) e (stands_found script said y.packet.to s.world.nodes p.world.nodes h.stands.nodes, ap (list_any (is_cut_of y.packet.from y.packet.to y.packet.network)) h.cuts)

  -- the packet that waits longest waits no more
  lost_stands : (s t : Stage C) (p : AnsweredPlay) (v : World) (y : Sent) (ys : List Sent) → At script said s p v → p.world.queue ≡ y ∷ ys
      → t ≡ record s { world = record (s.world) { packets = record (s.world.packets) { waiting = drop 1 s.world.packets.waiting } } } → At script said t (in_that_world p (record (p.world) { queue = ys })) v
  lost_stands s t p v y ys h q same = rw same (record {
    stands = record {
      config = h.stands.config;
      nodes = h.stands.nodes;
      starts = h.stands.starts;
      packets = (h.stands.packets.0, ap (drop 1) (sym (ap (map waits_as) q) ∙ h.stands.packets.1));
    };
    cuts = h.cuts;
    same = h.same;
  })

module _ {C : Type 0} {script : C → Option Items} {said : Items → Option Items} {R : C → List Handed → Type 0} where
  pub packet_given : {U : Type 0} (r : Result U PlayFault) (k : Kinds) (a b : Option (List ℕ)) (s t : Stage C) (x : Waiting) (is_given : Bool)
      → is_given ≡ (is_some (find (is_me x.to) s.world.nodes) && not (list_any (is_cut_of x.from x.to x.network) s.cuts)) → is_given ≡ true
      → ((p : AnsweredPlay) → (v : World) → At script said s p v → LeadsTo script said R r k a b s t p (PlaysEvent said p (event.Deliver x.from x.to x.number)) v)
      → (p : AnsweredPlay) → (v : World) → At script said s p v → (y : Sent) → (ys : List Sent) → p.world.queue ≡ y ∷ ys → waits_as y ≡ x → LeadsTo script said R r k a b s t p (Takes said p y ys) v
  packet_given r k a b s t x is_given e g next p v h y ys q f =
      let same : (is_some (node_at p.world y.packet.to) ≡ is_some (find (is_me x.to) s.world.nodes)) × (is_cut p.cuts y.packet ≡ list_any (is_cut_of x.from x.to x.network) s.cuts) = given_same s p v x y h f in
      let given : (is_some (node_at p.world y.packet.to) && not (is_cut p.cuts y.packet)) ≡ true = rw (same.0, same.1) (sym e ∙ g) in
      let l : LeadsTo script said R r k a b s t p (PlaysEvent said p (event.Deliver x.from x.to x.number)) v = next p v h in
      let made : PlaysEvent said p (event.Deliver y.packet.from y.packet.to y.number) l.play = subst (λ (z : Waiting). PlaysEvent said p (event.Deliver z.from z.to z.number) l.play) (sym f) l.made in
      record { play = l.play; made = takes_given said p l.play y ys _ _ given made; outcome = l.outcome }

  pub packet_lost : {U : Type 0} (u : U) (k : Kinds) (a : Option (List ℕ)) (s t : Stage C) (x : Waiting) (is_given : Bool)
      → is_given ≡ (is_some (find (is_me x.to) s.world.nodes) && not (list_any (is_cut_of x.from x.to x.network) s.cuts)) → is_given ≡ false
      → t ≡ record s { world = record (s.world) { packets = record (s.world.packets) { waiting = drop 1 s.world.packets.waiting } } }
      → (p : AnsweredPlay) → (v : World) → At script said s p v → (y : Sent) → (ys : List Sent) → p.world.queue ≡ y ∷ ys → waits_as y ≡ x → LeadsTo script said R (Ok u) k a a s t p (Takes said p y ys) v
  packet_lost u k a s t x is_given e g left p v h y ys q f =
      let same : (is_some (node_at p.world y.packet.to) ≡ is_some (find (is_me x.to) s.world.nodes)) × (is_cut p.cuts y.packet ≡ list_any (is_cut_of x.from x.to x.network) s.cuts) = given_same s p v x y h f in
      let lost : (is_some (node_at p.world y.packet.to) && not (is_cut p.cuts y.packet)) ≡ false = rw (same.0, same.1) (sym e ∙ g) in
      let to : AnsweredPlay = in_that_world p (record (p.world) { queue = ys }) in
      record {
        play = to;
        made = takes_lost said p y ys _ _ lost;
        outcome = went_still k a s t p to v (ap (λ (z : Stage C). z.text.items) left) (moved_still s t p to v refl (ap (λ (z : Stage C). z.world.limit) left) (ap (λ (z : Stage C). z.world.kept) left) (ap (λ (z : Stage C). z.world.nodes) left) (ap (λ (z : Stage C). z.counts) left) (lost_stands s t p v y ys h q left));
      }

  -- ---- again and again

  pub flow_begins : (k : Kinds) (a : Option (List ℕ)) (s : Stage C) (most : ℕ) → FlowsTo script said R k a a s s most most
  flow_begins k a s most p v h = record { played = p; went = went_none k a s p v h; rest = λ q f. f }

  -- one packet more
  pub flow_next : {U : Type 0} {u : U} (k : Kinds) (a b c : Option (List ℕ)) (s m t : Stage C) (x : Waiting) (most i : ℕ) → i < most → FlowsTo script said R k a b s m most (most - i) → first_of m.world.packets.waiting ≡ Some x
      → ((q : AnsweredPlay) → (w : World) → At script said m q w → (y : Sent) → (ys : List Sent) → q.world.queue ≡ y ∷ ys → waits_as y ≡ x → LeadsTo script said R (Ok u) k b c m t q (Takes said q y ys) w)
      → FlowsTo script said R k a c s t most (most - (i + 1))
  flow_next {U} {u} k a b c s m t x most i lt before some next p v h =
      let f : Flowed script said R k a b s m p v most (most - i) = before p v h in
      let y : (y : Sent) × (ys : List Sent) × (f.played.world.queue ≡ y ∷ ys) × (waits_as y ≡ x) = head_in f.played.world.queue m.world.packets.waiting x f.went.moved.at.stands.packets.1 some in
      let l : LeadsTo script said R (Ok u) k b c m t f.played (Takes said f.played y.0 y.1) f.went.world = next f.played f.went.world f.went.moved.at y.0 y.1 y.2 y.3 in
      let less : suc (most - (i + 1)) ≡ most - i = omega arith in
      record {
        played = l.play;
        went = then_went k a b c s m t p f.played l.play v f.went l.outcome;
        rest = λ q more. f.rest q (subst (λ n. PlaysFlow said n f.played q) less (going.flow_next said (most - (i + 1)) f.played y.0 y.1 l.play q y.2 l.made more));
      }

  -- it stopped at a packet
  pub flow_stops : {U : Type 0} (e : PlayFault) (k : Kinds) (a b c : Option (List ℕ)) (s m n : Stage C) (x : Waiting) (most i : ℕ) → i < most → FlowsTo script said R k a b s m most (most - i) → first_of m.world.packets.waiting ≡ Some x
      → ((q : AnsweredPlay) → (w : World) → At script said m q w → (y : Sent) → (ys : List Sent) → q.world.queue ≡ y ∷ ys → waits_as y ≡ x → LeadsTo {U = U} script said R (Err e) k b c m n q (Takes said q y ys) w)
      → (p : AnsweredPlay) → (v : World) → At script said s p v → (q : AnsweredPlay) × PlaysFlow said most p q × Stopped e k a c s p q v
  flow_stops {U} e k a b c s m n x most i lt before some next p v h =
      let f : Flowed script said R k a b s m p v most (most - i) = before p v h in
      let y : (y : Sent) × (ys : List Sent) × (f.played.world.queue ≡ y ∷ ys) × (waits_as y ≡ x) = head_in f.played.world.queue m.world.packets.waiting x f.went.moved.at.stands.packets.1 some in
      let l : LeadsTo {U = U} script said R (Err e) k b c m n f.played (Takes said f.played y.0 y.1) f.went.world = next f.played f.went.world f.went.moved.at y.0 y.1 y.2 y.3 in
      let less : suc (most - (i + 1)) ≡ most - i = omega arith in
      let q = flow_goes said (most - (i + 1)) l.play in
      let more = flow_adds (most - (i + 1)) l.play q.0 q.1 in
      (q.0, f.rest q.0 (subst (λ n. PlaysFlow said n f.played q.0) less (going.flow_next said (most - (i + 1)) f.played y.0 y.1 l.play q.0 y.2 l.made q.1)), stopped_on e k a c s p l.play q.0 v more.events (then_stopped e k a b c s m p f.played l.play v f.went l.outcome) more.grew)

  -- nothing waits
  pub flow_over : {U : Type 0} (u : U) (k : Kinds) (a b : Option (List ℕ)) (s t : Stage C) (most left : ℕ) → FlowsTo script said R k a b s t most left → first_of t.world.packets.waiting ≡ None
      → (p : AnsweredPlay) → (v : World) → At script said s p v → LeadsTo script said R (Ok u) k a b s t p (PlaysFlow said most p) v
  flow_over u k a b s t most left before none p v h =
      let f : Flowed script said R k a b s t p v most left = before p v h in
      let empty : f.played.world.queue ≡ [] = none_in f.played.world.queue t.world.packets.waiting f.went.moved.at.stands.packets.1 none in
      record { play = f.played; made = f.rest f.played (going.flow_over said left f.played empty); outcome = f.went }

  -- so many were taken
  pub flow_ends : {U : Type 0} (u : U) (k : Kinds) (a b : Option (List ℕ)) (s t : Stage C) (most i : ℕ) → most ≤ i → FlowsTo script said R k a b s t most (most - i)
      → (p : AnsweredPlay) → (v : World) → At script said s p v → LeadsTo script said R (Ok u) k a b s t p (PlaysFlow said most p) v
  flow_ends u k a b s t most i le before p v h =
      let f : Flowed script said R k a b s t p v most (most - i) = before p v h in
      let z : 0 ≡ most - i = omega arith in
      record { play = f.played; made = f.rest f.played (subst (λ n. PlaysFlow said n f.played f.played) z (flow_none said f.played)); outcome = f.went }
