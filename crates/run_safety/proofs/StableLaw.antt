-- What is stable every member of the view holds.
use Rattle.std.proofs.Common.{◌≤◌, ℕ, ◌+◌, List, [], ◌∷◌, ◌++◌, length, Bool, true, false, subst, arith, length-append}
use Rattle.std.specs.Prelude.{◌&&◌, ◌==◌, if◌then◌else◌}
use Rattle.rsct_packet.specs.declared.ids.ViewId.{ViewId}
use Rattle.rsct_packet.specs.declared.ids.Member.{Member}
use Rattle.proposal_core.specs.declared.entry.Entry.{Entry}
use Rattle.rsct_packet.specs.Search.{Has}
use Rattle.run_safety.specs.ViewOrder.{is_same}
use Rattle.run_safety.specs.Group.{member, Packet, Ack, Stable, Record, In, Put, Begins, puts_from}
use Rattle.run_safety.specs.GroupLists.{puts_of, SameMembers}
use Rattle.run_safety.specs.GroupLaws.{StableHeld}

-- lists only grow
pub puts_more : (m : ℕ) (v : ViewId) (r : Record) (tr : List Record) → length (puts_of m v tr) ≤ length (puts_of m v (r ∷ tr))
puts_more m v (In k j u ms) tr = omega arith
puts_more m v Begins tr = omega arith
puts_more m v (Put k u i e) tr = by (k == m && is_same u v)
  where
    by : (b : Bool) → length (puts_of m v tr) ≤ length (if b then puts_of m v tr ++ e ∷ [] else puts_of m v tr)
    by true = let s = length-append (puts_of m v tr) (e ∷ []) in omega arith
    by false = omega arith

pub puts_many : (m : ℕ) (v : ViewId) (n : ℕ) (u : ViewId) (i : ℕ) (es : List Entry) (tr : List Record) → length (puts_of m v tr) ≤ length (puts_of m v (puts_from n u i es tr))
puts_many m v n u i [] tr = omega arith
puts_many m v n u i (e ∷ es) tr =
    let a = puts_more m v (Put n u i e) tr in
    let b = puts_many m v n u (i + 1) es (Put n u i e ∷ tr) in omega arith

pub record StableOk (ps : List Packet) (tr : List Record) : Type 0 where
  pub acks : (v : ViewId) (n j k : ℕ) → Has (Ack v n j k) ps → k ≤ length (puts_of n v tr)
  pub stable : (v : ViewId) (k : ℕ) → Has (Stable v k) ps → (n j : ℕ) × (ms : List Member) × Has (In n j v ms) tr × ((m i : ℕ) → Has (member m i) ms → k ≤ length (puts_of m v tr))

pub stable_on : (ps ps' : List Packet) (tr tr' : List Record) → ((v : ViewId) (n j k : ℕ) → Has (Ack v n j k) ps' → Has (Ack v n j k) ps) → ((v : ViewId) (k : ℕ) → Has (Stable v k) ps' → Has (Stable v k) ps) → ((r : Record) → Has r tr → Has r tr') → ((m : ℕ) (v : ViewId) → length (puts_of m v tr) ≤ length (puts_of m v tr')) → StableOk ps tr → StableOk ps' tr'
stable_on ps ps' tr tr' acks stables more longer old =
    record {
      acks = λ v n j k h. let a = old.acks v n j k (acks v n j k h) in let b = longer n v in omega arith;
      stable = λ v k h. on v k (old.stable v k (stables v k h));
    }
  where
    on : (v : ViewId) (k : ℕ) → ((n j : ℕ) × (ms : List Member) × Has (In n j v ms) tr × ((m i : ℕ) → Has (member m i) ms → k ≤ length (puts_of m v tr))) → (n j : ℕ) × (ms : List Member) × Has (In n j v ms) tr' × ((m i : ℕ) → Has (member m i) ms → k ≤ length (puts_of m v tr'))
    on v k s = (s.0, s.1, s.2, more (In s.0 s.1 v s.2) s.3, λ m i h. let a = s.4 m i h in let b = longer m v in omega arith)

pub stable_law : (ps : List Packet) (tr : List Record) → StableOk ps tr → SameMembers tr → StableHeld ps tr
stable_law ps tr ok same v k h n j ms i m l in_ms =
    let s = ok.stable v k h in
    s.4 m l (subst (λ ns. Has (member m l) ns) (same n s.0 j s.1 v ms s.2 i s.3).0 in_ms)
