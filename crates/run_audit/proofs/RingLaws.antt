-- The first line of a ring tells what the rule on rings says.
use Rattle.std.proofs.Common.{◌≡◌, ℕ, ◌+◌, Bool, true, false, List, [], ◌∷◌, length, Option, Some, None, refl, sym, ◌∙◌, ap, cond}
use Rattle.std.specs.Prelude.{◌==◌, ◌&&◌, ◌||◌, nat_eq, if◌then◌else◌}
use Rattle.std.specs.Map.{lookup}
use Rattle.std.specs.Option.{option_map}
use Rattle.std.specs.Str.{bytes_eq}
use Rattle.rsct_packet.specs.declared.ids.RingId.{RingId}
use Rattle.rsct_packet.specs.Ids.{last_u32, same_ring}
use Rattle.record_lines.specs.declared.line.Line.{Line}
use Rattle.record_lines.specs.declared.line.Line.TheVariants as line
use Rattle.run_audit.specs.declared.broken.Rule.TheVariants as rule
use Rattle.run_audit.specs.declared.rings.FirstRing.{FirstRing}
use Rattle.run_audit.specs.declared.rings.RingKey.{RingKey}
use Rattle.run_audit.specs.Kept.{fault_of, or_new, first_given}
use Rattle.run_audit.specs.Past.{first_no}
use Rattle.run_audit.specs.Rings.{key_of, same_key, ring_at, AreRings, like_first, ring_keeps, line_of}
use Rattle.run_audit.specs.Table.{all_same, if_some, has_node, is_ring_of, nodes_after, first_nodes, ring_holds, holds, with_of}
use Rattle.word_laws.proofs.ValueLaws.{and_parts}
use Rattle.run_audit.proofs.KeyLaws.{equal, and_moved}
use Rattle.run_audit.proofs.KeptLaws.{or_none, first_line, first_noted, first_again}

-- ---- the table's words and the kept ones

same_words : (net k : ℕ) (id jd : RingId) → same_key (key_of k jd) (key_of net id) ≡ (k == net && same_ring jd id)
same_words net k id jd = ap (λ z. (k == net) && z) (and_moved (jd.leader == id.leader) (jd.inc == id.inc) (jd.number == id.number))

members_in : Option FirstRing → Option (List ℕ)
members_in None = None
members_in (Some r) = Some r.members

nodes_are : (net : ℕ) (id : RingId) (ls : List Line) → first_nodes net id ls ≡ members_in (first_given (ring_at (key_of net id)) ls)
unfolding first_nodes nodes_after members_in
nodes_are net id [] = refl
nodes_are net id (line.Ring n k jd ms b ∷ ls) = by (first_nodes net id ls) (first_given (ring_at (key_of net id)) ls) (same_key (key_of k jd) (key_of net id)) (nodes_are net id ls) (same_words net k id jd)
  where
    by : (o : Option (List ℕ)) (f : Option FirstRing) (u : Bool) → o ≡ members_in f → u ≡ (k == net && same_ring jd id)
        → nodes_after net id (line.Ring n k jd ms b) o ≡ members_in (or_new f (cond u (Some (record { members = ms; number = length ls + 1 })) None))
    by (Some ns) (Some x) u e h = e
    by (Some ns) None u e h = absurd cc
    by None (Some x) u e h = absurd cc
    by None None true e h = ap (λ t. if t then Some ms else None) (sym h)
    by None None false e h = ap (λ t. if t then Some ms else None) (sym h)
nodes_are net id (_ ∷ ls) = nodes_are net id ls ∙ ap members_in (sym (or_none (first_given (ring_at (key_of net id)) ls)))

given_number : (net : ℕ) (id : RingId) (l : Line) (k : ℕ) → option_map (λ (r : FirstRing). r.number) (ring_at (key_of net id) l k) ≡ cond (is_ring_of net id l) (Some k) None
unfolding is_ring_of
given_number net id (line.Ring n j jd ms b) k = by (same_key (key_of j jd) (key_of net id)) (same_words net j id jd)
  where
    by : (u : Bool) → u ≡ (j == net && same_ring jd id) → option_map (λ (r : FirstRing). r.number) (cond u (Some (record { members = ms; number = k })) None) ≡ cond (j == net && same_ring jd id) (Some k) None
    by true h = ap (λ t. cond t (Some k) None) h
    by false h = ap (λ t. cond t (Some k) None) h
given_number net id _ k = refl

line_is : (o : Option FirstRing) → option_map (λ (r : FirstRing). r.number) o ≡ line_of o
unfolding line_of
line_is None = refl
line_is (Some r) = refl

same_bytes : (a b : List ℕ) → all_same (λ x y. x == y) a b ≡ bytes_eq a b
unfolding all_same
same_bytes [] [] = refl
same_bytes [] (y ∷ ys) = refl
same_bytes (x ∷ xs) [] = refl
same_bytes (x ∷ xs) (y ∷ ys) = ap (λ z. nat_eq x y && z) (same_bytes xs ys)

like_is : (o : Option FirstRing) (ms : List ℕ) → if_some (members_in o) (all_same (λ x y. x == y) ms) ≡ like_first o ms
unfolding if_some members_in like_first
like_is None ms = refl
like_is (Some r) ms = same_bytes ms r.members

-- what the table says of a ring's line, by the first line that is kept
ring_fault : (n net : ℕ) (id : RingId) (ms : List ℕ) (m : ℕ) (o : Option FirstRing) (ls : List Line) → o ≡ first_given (ring_at (key_of net id)) ls
    → fault_of rule.Ring (line.Ring n net id ms m) ls ≡ (if ring_keeps o n id ms m then None else Some (record { rule = rule.Ring; with_line = line_of o }))
unfolding holds with_of ring_holds ring_keeps
ring_fault n net id ms m o ls k =
    let a : if_some (first_nodes net id ls) (all_same (λ x y. x == y) ms) ≡ like_first o ms = ap (λ z. if_some z (all_same (λ x y. x == y) ms)) (nodes_are net id ls ∙ ap members_in (sym k)) ∙ like_is o ms in
    let b : first_no (is_ring_of net id) ls ≡ line_of o = first_line (is_ring_of net id) (ring_at (key_of net id)) (λ (r : FirstRing). r.number) (given_number net id) ls ∙ (ap (option_map (λ (r : FirstRing). r.number)) (sym k) ∙ line_is o) in
    λ i. if has_node ms n && (has_node ms id.leader && (has_node ms m && (id.number == last_u32 || a i))) then None else Some (record { rule = rule.Ring; with_line = b i })

pub ring_kept : (n net : ℕ) (id : RingId) (ms : List ℕ) (m : ℕ) (key : RingKey) (o : Option FirstRing) (b : Bool) (es : List (RingKey × FirstRing)) (ls : List Line) → key ≡ key_of net id → o ≡ lookup (same_key key) es → b ≡ ring_keeps o n id ms m → b ≡ true → AreRings ls es
    → None ≡ fault_of rule.Ring (line.Ring n net id ms m) ls
ring_kept n net id ms m key o b es ls is found kept it_is are =
    sym (ring_fault n net id ms m o ls (found ∙ ap (λ z. lookup (same_key z) es) is ∙ are (key_of net id)) ∙ ap (λ x. if x then None else Some (record { rule = rule.Ring; with_line = line_of o })) (sym kept ∙ it_is))

pub ring_broken : (n net : ℕ) (id : RingId) (ms : List ℕ) (m : ℕ) (key : RingKey) (o : Option FirstRing) (b : Bool) (with_line : Option ℕ) (es : List (RingKey × FirstRing)) (ls : List Line) → key ≡ key_of net id → o ≡ lookup (same_key key) es → b ≡ ring_keeps o n id ms m → b ≡ false → with_line ≡ line_of o → AreRings ls es
    → Some (record { rule = rule.Ring; with_line = with_line }) ≡ fault_of rule.Ring (line.Ring n net id ms m) ls
ring_broken n net id ms m key o b with_line es ls is found kept not_so at are =
    ap (λ z. Some (record { rule = rule.Ring; with_line = z })) at
    ∙ sym (ring_fault n net id ms m o ls (found ∙ ap (λ z. lookup (same_key z) es) is ∙ are (key_of net id)) ∙ ap (λ x. if x then None else Some (record { rule = rule.Ring; with_line = line_of o })) (sym kept ∙ not_so))

-- ---- after one more line

key_same : (a b : RingKey) → same_key a b ≡ true → a ≡ b
key_same a b e =
    let p = and_parts (a.network == b.network) ((a.leader == b.leader) && ((a.inc == b.inc) && (a.number == b.number))) e in
    let q = and_parts (a.leader == b.leader) ((a.inc == b.inc) && (a.number == b.number)) p.1 in
    let r = and_parts (a.inc == b.inc) (a.number == b.number) q.1 in
    λ i. record { network = equal a.network b.network p.0 i; leader = equal a.leader b.leader q.0 i; inc = equal a.inc b.inc r.0 i; number = equal a.number b.number r.1 i }

module _ (n net : ℕ) (id : RingId) (ms : List ℕ) (m number : ℕ) (es fs : List (RingKey × FirstRing)) (ls : List Line) where
  pub noted_first : lookup (same_key (key_of net id)) es ≡ None → ((q : RingKey) → lookup (same_key q) fs ≡ cond (same_key (key_of net id) q) (Some (record { members = ms; number = number })) (lookup (same_key q) es)) → AreRings ls es → number ≡ length ls + 1
      → AreRings (line.Ring n net id ms m ∷ ls) fs
  noted_first none up are at =
      first_noted same_key ring_at (key_of net id) (line.Ring n net id ms m) ls (λ q. lookup (same_key q) es) (λ q. lookup (same_key q) fs) (record { members = ms; number = number })
      (λ q e. ap (λ z. lookup (same_key z) es) (sym (key_same (key_of net id) q e)))
      (λ q. ap (λ z. cond (same_key (key_of net id) q) (Some (record { members = ms; number = z })) None) (sym at)) none up are

pub noted_again : (n net : ℕ) (id : RingId) (ms : List ℕ) (m : ℕ) (r : FirstRing) (es : List (RingKey × FirstRing)) (ls : List Line) → lookup (same_key (key_of net id)) es ≡ Some r → AreRings ls es → AreRings (line.Ring n net id ms m ∷ ls) es
noted_again n net id ms m r es ls some are =
    first_again same_key ring_at (key_of net id) (line.Ring n net id ms m) ls (λ q. lookup (same_key q) es) r (λ q e. ap (λ z. lookup (same_key z) es) (sym (key_same (key_of net id) q e)))
    (λ q other. ap (λ t. cond t (Some (record { members = ms; number = length ls + 1 })) None) other) some are

-- as the code has them
pub noted_at : (n net : ℕ) (id : RingId) (ms : List ℕ) (m number : ℕ) (key : RingKey) (first : Option FirstRing) (es fs : List (RingKey × FirstRing)) (ls : List Line) → key ≡ key_of net id → first ≡ lookup (same_key key) es → first ≡ None
    → ((q : RingKey) → lookup (same_key q) fs ≡ cond (same_key key q) (Some (record { members = ms; number = number })) (lookup (same_key q) es)) → AreRings ls es → number ≡ length ls + 1 → AreRings (line.Ring n net id ms m ∷ ls) fs
noted_at n net id ms m number key first es fs ls is found none up are at =
    noted_first n net id ms m number es fs ls (ap (λ z. lookup (same_key z) es) (sym is) ∙ (sym found ∙ none))
    (λ q. up q ∙ ap (λ z. cond (same_key z q) (Some (record { members = ms; number = number })) (lookup (same_key q) es)) is) are at
