-- What stays few between two events: at each node that is up, and in all that was sent. A start and a step keep it.
use Rattle.std.proofs.Common.{◌≡◌, ◌≤◌, ℕ, List, [], ◌++◌, length, filter, Option, Some, None, refl, sym, subst, inl, ⊎_elim, arith}
use Rattle.std.proofs.lemmas.List.{length-map}
use Rattle.rsct_packet.specs.declared.ids.Member.{Member}
use Rattle.rsct_packet.specs.Mask.{nodes_of}
use Rattle.rsct_packet.specs.Search.{Has}
use Rattle.rsct_packet.proofs.HasLaws.{has_append}
use Rattle.view_state.specs.Views.{views_new}
use Rattle.node_state.specs.declared.config.Config.{Config}
use Rattle.node_state.specs.declared.config.Mode.{Mode}
use Rattle.node_state.specs.declared.config.Mode.TheVariants.{Fixed, Asked, Rings}
use Rattle.node_state.specs.declared.packet.Packet.{Packet}
use Rattle.node_state.specs.declared.state.Core.{Core}
use Rattle.node_state.specs.Settings.{networks, has_adapter, networks_of}
use Rattle.node_state.specs.State.{row_of, with_sessions}
use Rattle.node_state.specs.Applying.{level_set}
use Rattle.node_state.specs.Step.{at_work, own_ring, own_rings, first_members, started}
use Rattle.step_refinement.specs.Rules.{at_node}
use Rattle.step_refinement.proofs.Changed.{each_set}
use Rattle.send_laws.specs.Lasting.{FewSent, Lasting}
use Rattle.send_laws.proofs.Counts.{kept_few}
use Rattle.send_laws.proofs.RingSends.{nodes_few}

-- of a node that is up
pub record SmallCore (s : Core) : Type 0 where
  pub members : length s.views.members ≤ 32
  pub lasting : Lasting (at_work s)

-- of all nodes, and of what was sent
pub record Small (cores : ℕ → Option Core) (sent : List Packet) : Type 0 where
  pub nodes : (n : ℕ) (s : Core) → cores n ≡ Some s → SmallCore s
  pub sent_few : FewSent sent

-- ---- a start

rings_few : (c : Config) (mode : Mode) (n inc : ℕ) → length (own_rings c mode n inc) ≤ 4
unfolding own_rings networks_of
rings_few c Fixed n inc = omega arith
rings_few c Asked n inc = omega arith
rings_few c Rings n inc =
    let z : length (filter (has_adapter c n) networks) ≤ 4 = kept_few (has_adapter c n) networks in
    omega (arith, z, length-map (filter (has_adapter c n) networks) (own_ring c n inc))

members_few : (c : Config) (mode : Mode) (n inc : ℕ) → length (first_members c mode n inc) ≤ 32
unfolding first_members
members_few c Fixed n inc =
    let f : ℕ → Member = λ m. record { node = m; inc = 1 } in omega (arith, nodes_few c.nodes, length-map (nodes_of c.nodes) f)
members_few c Asked n inc = omega arith
members_few c Rings n inc = omega arith

pub started_small : (c : Config) (n inc : ℕ) → SmallCore (started c n inc)
unfolding started with_sessions level_set views_new row_of
started_small c n inc =
    record {
      members = members_few c c.mode n inc;
      lasting = record {
        rings = rings_few c c.mode n inc;
        waits = λ g. record { few = omega arith; known = inl refl };
        views = record { gathering = tt; install = tt };
        sent = λ p h. absurd h;
      };
    }

start_sends : (c : Config) (n inc : ℕ) → (started c n inc).sends ≡ []
unfolding started with_sessions
start_sends c n inc = refl

-- ---- events

set_small : (cores : ℕ → Option Core) (n : ℕ) (o : Option Core) → ((s : Core) → o ≡ Some s → SmallCore s) → ((m : ℕ) (s : Core) → cores m ≡ Some s → SmallCore s) → (m : ℕ) (s : Core) → at_node cores n o m ≡ Some s → SmallCore s
set_small cores n o new old m =
    each_set (λ m o. (s : Core) → o ≡ Some s → SmallCore s) cores n o new (λ k ne. old k) m

one_small : (t s : Core) → SmallCore t → Some t ≡ Some s → SmallCore s
one_small t s k q = let z : t ≡ s = cc in subst SmallCore z k

-- a node starts
pub starts_small : (c : Config) (cores : ℕ → Option Core) (sent : List Packet) (n inc : ℕ) → Small cores sent → Small (at_node cores n (Some (started c n inc))) sent
starts_small c cores sent n inc k =
    record { nodes = set_small cores n (Some (started c n inc)) (λ s q. one_small (started c n inc) s (started_small c n inc) q) k.nodes; sent_few = k.sent_few }

-- it sends nothing as it starts
pub started_sends : (c : Config) (cores : ℕ → Option Core) (sent : List Packet) (n inc : ℕ) → Small cores sent → Small (at_node cores n (Some (started c n inc))) ((started c n inc).sends ++ sent)
started_sends c cores sent n inc k =
    subst (λ ps. Small (at_node cores n (Some (started c n inc))) (ps ++ sent)) (sym (start_sends c n inc)) (starts_small c cores sent n inc k)

-- a node stops
pub stops_small : (cores : ℕ → Option Core) (sent : List Packet) (n : ℕ) → Small cores sent → Small (at_node cores n None) sent
stops_small cores sent n k = record { nodes = set_small cores n None (λ s q. absurd cc) k.nodes; sent_few = k.sent_few }

few_both : (ps qs : List Packet) → FewSent ps → FewSent qs → FewSent (ps ++ qs)
few_both ps qs a b p h = ⊎_elim (λ (i : Has p ps). a p i) (λ (i : Has p qs). b p i) (has_append p ps qs h)

rested : (s : Core) → length s.views.members ≤ 32 → Lasting s → SmallCore s
unfolding row_of
rested s members k =
    record { members = members; lasting = record { rings = k.rings; waits = k.waits; views = k.views; sent = λ p h. absurd h } }

-- a node takes a step
pub steps_small : (cores : ℕ → Option Core) (sent : List Packet) (n : ℕ) (t : Core) → length t.views.members ≤ 32 → Lasting t → Small cores sent → Small (at_node cores n (Some t)) (t.sends ++ sent)
steps_small cores sent n t members lasting k =
    record {
      nodes = set_small cores n (Some t) (λ s q. one_small t s (rested t members lasting) q) k.nodes;
      sent_few = few_both t.sends sent lasting.sent k.sent_few;
    }
