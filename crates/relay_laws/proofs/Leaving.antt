-- As what a packet leaves a node, and where an envelope goes from one.
use Rattle.std.proofs.Common.{◌≡◌, ◌≢◌, ◌==◌, ◌+◌, ◌-◌, ℕ, Bool, true, false, Option, Some, None, refl, subst, arith}
use Rattle.std.proofs.lemmas.Bool.{eqb-true, eqb-false}
use Rattle.node_reach.specs.declared.reach.Reach.{Reach}
use Rattle.node_reach.specs.Hops.{next_hop}
use Rattle.node_state.specs.declared.packet.Packet.{Packet}
use Rattle.node_state.specs.declared.state.Core.{Core}
use Rattle.route_state.specs.declared.front.Front.{Front}
use Rattle.route_state.specs.Relaying.{may_relay}
use Rattle.route_state.specs.Way.{Course, Arrives, GoesOn, Ends, goes_to, onward, course}
use Rattle.relay_model.specs.Leaving.{Leaving, alone, wrapped, wrapped_if, around, around_if, leaves_as}

-- by itself, or in an envelope by the next hop
pub data LeavesBy (o : Option Core) (p : Packet) : Leaving → Type 0 where
  Alone : LeavesBy o p (alone p)
  Around : (s : Core) (hop : ℕ) → o ≡ Some s → may_relay p.body ≡ true → next_hop s.reach p.to ≡ Some hop → LeavesBy o p (wrapped s p hop)

pub leaves_by : (o : Option Core) (p : Packet) (d : Leaving) → leaves_as o p ≡ Some d → LeavesBy o p d
unfolding leaves_as
leaves_by o p d = by (p.network == 0)
  where
    hop : (s : Core) → o ≡ Some s → may_relay p.body ≡ true → (n : Option ℕ) → next_hop s.reach p.to ≡ n → wrapped_if s p n ≡ Some d → LeavesBy o p d
    hop s up may None e h = absurd (cc)
    hop s up may (Some n) e h = let is : wrapped s p n ≡ d = cc in subst (LeavesBy o p) is (Around s n up may e)

    sender : may_relay p.body ≡ true → (x : Option Core) → o ≡ x → around x p ≡ Some d → LeavesBy o p d
    sender may None up h = absurd (cc)
    sender may (Some s) up h = hop s up may (next_hop s.reach p.to) refl h

    may : (b : Bool) → may_relay p.body ≡ b → around_if b o p ≡ Some d → LeavesBy o p d
    may true e h = sender e o refl h
    may false e h = absurd (cc)

    by : (b : Bool) → elim b as (λ t. Option Leaving) [ true ↦ around_if (may_relay p.body) o p | false ↦ Some (alone p) ] ≡ Some d → LeavesBy o p d
    by true h = may (may_relay p.body) refl h
    by false h = let is : alone p ≡ d = cc in subst (LeavesBy o p) is Alone

-- ---- an envelope at a node

-- at its target; or it goes on by the next hop, with a hop less; or it ends elsewhere
pub data CourseIs (me : ℕ) (r : Reach) (f : Front) : Course → Type 0 where
  Comes : f.target ≡ me → CourseIs me r f Arrives
  Passes : (to : ℕ) (g : Front) → f.target ≢ me → next_hop r f.target ≡ Some to → g.hops + 1 ≡ f.hops → g.origin ≡ f.origin → g.target ≡ f.target → CourseIs me r f (GoesOn to g)
  Stops : f.target ≢ me → CourseIs me r f Ends

pub course_is : (me : ℕ) (r : Reach) (f : Front) → CourseIs me r f (course me r f)
unfolding course onward
course_is me r f = by (f.target == me) refl
  where
    hop : f.target ≢ me → f.hops ≢ 0 → (o : Option ℕ) → next_hop r f.target ≡ o → CourseIs me r f (goes_to f o)
    hop other some None e = Stops other
    hop other some (Some to) e = Passes to (record f { hops = f.hops - 1 }) other e (omega (arith, some)) refl refl

    left : f.target ≢ me → (b : Bool) → (f.hops == 0) ≡ b → CourseIs me r f (elim b [ true ↦ Ends | false ↦ goes_to f (next_hop r f.target) ])
    left other true e = Stops other
    left other false e = hop other (eqb-false f.hops 0 e) (next_hop r f.target) refl

    by : (b : Bool) → (f.target == me) ≡ b → CourseIs me r f (elim b [ true ↦ Arrives | false ↦ onward r f ])
    by true e = Comes (eqb-true f.target me e)
    by false e = left (eqb-false f.target me e) (f.hops == 0) refl
