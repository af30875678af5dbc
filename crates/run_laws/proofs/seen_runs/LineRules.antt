-- What holds of each line of a group's life and of those before it, the latest first. Lines of what is heard are left out, since
-- they come in between.
use Rattle.std.specs.Prelude.{ℕ, ◌≡◌, ◌≤◌, true, ◌==◌, ◌&&◌, List, [], ◌∷◌, length, take, Option, Some, None, if◌then◌else◌}
use Rattle.rsct_packet.specs.declared.ids.Member.{Member}
use Rattle.rsct_packet.specs.declared.ids.ProviderId.{ProviderId}
use Rattle.rsct_packet.specs.declared.ids.ViewId.{ViewId}
use Rattle.rsct_packet.specs.Search.{Has}
use Rattle.proposal_core.specs.declared.entry.Entry.{Entry}
use Rattle.proposal_core.specs.declared.proposal.Proposal.{Proposal}
use Rattle.proposal_core.specs.declared.group_state.GroupState.{GroupState}
use Rattle.proposal_core.specs.Fold.{fits, empty_state}
use Rattle.run_safety.specs.ViewOrder.{is_same, Lt}
use Rattle.run_safety.specs.Group.{member, Reply, members_of, Origin, Record, In, Put, Begins, Note, Based, Heard, Asked, Told, Line, Kept, Noted, kept}
use Rattle.run_safety.specs.GroupLists.{puts_of, From}
use Rattle.run_safety.specs.Past.{fold_from}
use Rattle.run_safety.specs.Bases.{marked}
use Rattle.run_safety.specs.Requests.{carried, Meets}
use Rattle.run_safety.specs.Tallies.{IsTallied}

-- without what is heard
abbrev pub without_heard : Note → List Line → List Line
without_heard (Based n v b) all = Noted (Based n v b) ∷ all
without_heard (Heard p v i e ms value) all = all
without_heard (Asked p r x) all = Noted (Asked p r x) ∷ all
without_heard (Told p r v) all = Noted (Told p r v) ∷ all

abbrev pub bare : List Line → List Line
bare [] = []
bare (Kept r ∷ all) = Kept r ∷ bare all
bare (Noted x ∷ all) = without_heard x (bare all)

-- in which incarnation a node entered which view
pub record Entered : Type 0 where
  pub inc : ℕ
  pub view : ViewId

-- what the node entered last
abbrev pub last_after : ℕ → Record → Option Entered → Option Entered
last_after n (In m j v ms) old = if m == n then Some (record { inc = j; view = v }) else old
last_after n (Put m v i e) old = old
last_after n Begins old = old

abbrev pub last_in : ℕ → List Record → Option Entered
last_in n [] = None
last_in n (r ∷ tr) = last_after n r (last_in n tr)

-- the same incarnation as before, or a later one
abbrev pub GoesOn : ℕ → Option Entered → Type 0
GoesOn j None = Unit {0}
GoesOn j (Some k) = k.inc ≤ j

-- the base that the node noted in the view; the empty state where it noted none
abbrev pub base_after : ℕ → ViewId → Note → GroupState → GroupState
base_after n v (Based m u b) old = if m == n && is_same u v then b.state else old
base_after n v _ old = old

abbrev pub base_in : ℕ → ViewId → List Line → GroupState
base_in n v [] = empty_state
base_in n v (Kept r ∷ all) = base_in n v all
base_in n v (Noted x ∷ all) = base_after n v x (base_in n v all)

-- a node enters a view
pub record InSeen (all : List Line) (n j : ℕ) (v : ViewId) (ms : List Member) : Type 0 where
  pub own : Has (member n j) ms
  pub on : GoesOn j (last_in n (kept all))
  pub same : (m i : ℕ) (ns : List Member) → Has (In m i v ns) (kept all) → ns ≡ ms
  pub rising : (u : ViewId) (ns : List Member) → Has (In n j u ns) (kept all) → Lt u v
  pub together : (m i : ℕ) (u : ViewId) (ns : List Member) → Has (In m i v ns) (kept all) → From (kept all) m i v u → From (kept all) n j v u → puts_of n u (kept all) ≡ puts_of m u (kept all)
  pub bases : (m i l k : ℕ) (u : ViewId) (ns os : List Member) (b : Origin) → Has (In m i u ns) (kept all) → Has (In l k u os) (kept all) → Has (Noted (Based m u b)) all → Has (Noted (Based l u b)) all

-- of a node's own provider, a request begins once there, after it was asked and not after it was told a refusal
pub record OnceLine (all : List Line) (n : ℕ) (e : Entry) (p : ProviderId) (r : ℕ) : Type 0 where
  pub asked : (x : Proposal) × Has (Noted (Asked p r x)) all × Meets p x e
  pub untold : (u : ViewId) → Has (Noted (Told p r u)) all → ⊥
  pub once : (u : ViewId) (k : ℕ) (f : Entry) → Has (Put n u k f) (kept all) → Has (p, r) (carried f) → ⊥

-- a node puts an entry
pub record PutSeen (all : List Line) (n : ℕ) (v : ViewId) (i : ℕ) (e : Entry) : Type 0 where
  pub inc : ℕ
  pub view : last_in n (kept all) ≡ Some (record { inc = inc; view = v })
  pub place : i ≡ length (puts_of n v (kept all))
  pub entry : (m : ℕ) (f : Entry) → Has (Put m v i f) (kept all) → f ≡ e
  pub tallied : IsTallied e
  pub fitting : fits (fold_from v (base_in n v all) 0 (puts_of n v (kept all))) e ≡ true
  pub once : (p : ProviderId) (r : ℕ) → p.node ≡ n → Has (p, r) (carried e) → OnceLine all n e p r

-- a node notes a base, directly after it entered the view
pub record BasedSeen (all : List Line) (n : ℕ) (v : ViewId) (b : Origin) : Type 0 where
  pub inc : ℕ
  pub members : List Member
  pub before : List Line
  pub entered : all ≡ Kept (In n inc v members) ∷ before
  pub same : (m : ℕ) (c : Origin) → Has (Noted (Based m v c)) all → c ≡ b
  pub replies : List Reply
  pub are : members ≡ members_of replies
  pub from : (r : Reply) → Has r replies → From (kept all) r.node r.inc v r.view
  pub one : (r : Reply) × Has r replies × (r.view ≡ b.old)
  pub node : ℕ
  pub reaches : b.len ≤ length (puts_of node b.old (kept all))
  pub knows : (m : ℕ) (c : Origin) → Has (Noted (Based m b.old c)) all → Has (Noted (Based node b.old c)) all
  pub state : b.state ≡ marked replies b.old (fold_from b.old (base_in node b.old all) 0 (take b.len (puts_of node b.old (kept all))))

abbrev pub NoteSeen : List Line → Note → Type 0
NoteSeen all (Based n v b) = BasedSeen all n v b
NoteSeen all (Heard p v i e ms value) = Unit {0}
NoteSeen all (Asked p r x) = Unit {0}
NoteSeen all (Told p r v) = Unit {0}

abbrev pub LineSeen : List Line → Line → Type 0
LineSeen all (Kept (In n j v ms)) = InSeen all n j v ms
LineSeen all (Kept (Put n v i e)) = PutSeen all n v i e
LineSeen all (Kept Begins) = Unit {0}
LineSeen all (Noted x) = NoteSeen all x

abbrev pub LinesSeen : List Line → Type 0
LinesSeen [] = Unit {0}
LinesSeen (x ∷ all) = LineSeen all x × LinesSeen all
