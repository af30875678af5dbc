-- Moves of one node, and what they leave of the others.
use Rattle.std.proofs.Common.{◌≡◌, ◌≤◌, ℕ, ◌∷◌, true, arith, refl, ◌∙◌, inl, inr, ⊎_elim}
use Rattle.rsct_packet.specs.declared.ids.ViewId.{ViewId}
use Rattle.rsct_packet.specs.declared.ids.ProviderId.{ProviderId}
use Rattle.rsct_packet.specs.Search.{Has}
use Rattle.run_safety.specs.Group.{Standing, Packet, In, Noted, Told}
use Rattle.run_safety.specs.Group as group
use Rattle.run_safety.proofs.Whole.{kind, was_sent}
use Rattle.step_refinement.specs.Ghost.{asking, Ghost, Goes}
use Rattle.step_refinement.specs.Tied.{Numbered}
use Rattle.step_refinement.proofs.Goes.{Spares, Still, Settled, seen_on, still_spares}

-- nodes stand otherwise
abbrev pub with_nodes : Ghost → (ℕ → Standing) → Ghost
with_nodes x nodes = record x { nodes = nodes }

-- a packet more
abbrev pub with_packet : Ghost → Packet → Ghost
with_packet x p = record x { ps = p ∷ x.ps }

module _ (x : Ghost) where
  pub nodes_goes : (nodes : ℕ → Standing) → Goes x (with_nodes x nodes)
  nodes_goes nodes = record { packets = λ p h. h; records = λ r h. h; lines = λ l h. h; leads = λ v l e. e; bases = λ v s. refl; asks = refl; shut = λ v h. h; asked = λ a h. h }

  pub nodes_still : (nodes : ℕ → Standing) → ((m : ℕ) → (x.nodes m).inc ≤ (nodes m).inc) → x.asks ≡ true → Still x (with_nodes x nodes)
  nodes_still nodes incs asks =
      record { goes = nodes_goes nodes; leads = λ v s. refl; refusals = λ v p r h. h; stables = λ v k h. h; shut = λ v h. h; asked = λ a h. h; asks = λ p r q h. h; told = λ p r u h. inl h; incs = incs; closed = λ v s c. absurd (let z = c.asks_not in cc) }

  pub nodes_spares : (nodes : ℕ → Standing) (m : ℕ) → (nodes m).list ≡ (x.nodes m).list → Spares x (with_nodes x nodes) m
  nodes_spares nodes m e =
      record { goes = nodes_goes nodes; list = e; leads = λ v s. refl; refusals = λ v p r h. inl h; stables = λ v k h. inl h; puts = λ u k e h. h; told = λ p r u e h. h; shut = λ v e h. h; shut_led = λ v i e h. h; asked = λ a e h. h }

  pub packet_goes : (p : Packet) → Goes x (with_packet x p)
  packet_goes p = record { packets = λ q h. inr h; records = λ r h. h; lines = λ l h. h; leads = λ v l e. e; bases = λ v s. refl; asks = refl; shut = λ v h. h; asked = λ a h. h }

  -- it refuses nothing, and settles nothing
  pub packet_still : (p : Packet) → (4 ≡ kind p → ⊥) → (6 ≡ kind p → ⊥) → Still x (with_packet x p)
  packet_still p ne apart =
      record {
        goes = packet_goes p;
        leads = λ v s. refl;
        refusals = λ v q r h. was_sent (group.Refusal v q r) p x.ps ne h;
        stables = λ v k h. was_sent (group.Stable v k) p x.ps apart h;
        shut = λ v h. h;
        asked = λ a h. h;
        asks = λ q r y h. h;
        told = λ q r u h. inl h;
        incs = λ m. omega arith;
        closed = λ v s c. c;
      }

  pub packet_spares : (p : Packet) (m : ℕ) → (4 ≡ kind p → ⊥) → (6 ≡ kind p → ⊥) → Spares x (with_packet x p) m
  packet_spares p m ne apart = still_spares x (with_packet x p) (packet_still p ne apart) m refl (λ u k e h. h) (λ q r u e h. h)

pub goes_then : (x y z : Ghost) → Goes x y → Goes y z → Goes x z
goes_then x y z o q =
    record {
      packets = λ p h. q.packets p (o.packets p h);
      records = λ r h. q.records r (o.records r h);
      lines = λ l h. q.lines l (o.lines l h);
      leads = λ v l e. q.leads v l (o.leads v l e);
      bases = λ v s. q.bases v (s.0, s.1, s.2, o.records (In s.0 s.1 v s.2) s.3) ∙ o.bases v s;
      asks = q.asks ∙ o.asks;
      shut = λ v h. q.shut v (o.shut v h);
      asked = λ a h. q.asked a (o.asked a h);
    }

settled_on : (x y : Ghost) → Goes x y → (v : ViewId) → Settled x v → Settled y v
settled_on x y o v (inl s) = inl (seen_on x y o v s)
settled_on x y o v (inr k) = inr (k.0, k.1, o.packets (group.Refusal v k.0 k.1) k.2)

pub still_then : (x y z : Ghost) → Still x y → Still y z → Still x z
still_then x y z o q =
    record {
      goes = goes_then x y z o.goes q.goes;
      leads = λ v s. q.leads v (settled_on x y o.goes v s) ∙ o.leads v s;
      refusals = λ v p r h. o.refusals v p r (q.refusals v p r h);
      stables = λ v k h. o.stables v k (q.stables v k h);
      shut = λ v h. o.shut v (q.shut v h);
      asked = λ a h. o.asked a (q.asked a h);
      asks = λ p r y h. o.asks p r y (q.asks p r y h);
      told = λ p r u h. ⊎_elim (λ (i : Has (Noted (Told p r u)) y.all). o.told p r u i) (λ (i : Numbered y p r). inr (back p r i)) (q.told p r u h);
      incs = λ m. let a = o.incs m in let b = q.incs m in omega arith;
      closed = λ v s c. q.closed v (o.goes.shut v s) (o.closed v s c);
    }
  where
    back : (p : ProviderId) (r : ℕ) → Numbered y p r → Numbered x p r
    back p r (inl e) = inl e
    back p r (inr h) = inr (h.0, o.asked (asking p r h.0) h.1)
