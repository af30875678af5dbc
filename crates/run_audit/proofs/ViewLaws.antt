-- The first line of a view says what the lines say of it.
use Rattle.std.proofs.Common.{◌≡◌, ℕ, ◌+◌, Bool, true, false, List, [], ◌∷◌, length, Option, Some, None, refl, sym, ◌∙◌, ap, cond}
use Rattle.std.specs.Prelude.{if◌then◌else◌}
use Rattle.std.specs.Map.{lookup}
use Rattle.std.specs.Option.{option_map}
use Rattle.rsct_packet.specs.declared.ids.Member.{Member}
use Rattle.rsct_packet.specs.declared.ids.ViewId.{ViewId}
use Rattle.rsct_packet.specs.Ids.{same_view}
use Rattle.record_lines.specs.declared.line.Line.{Line}
use Rattle.record_lines.specs.declared.line.Line.TheVariants as line
use Rattle.run_audit.specs.declared.views.FirstIn.{FirstIn}
use Rattle.run_audit.specs.declared.keys.ViewKey.{ViewKey}
use Rattle.run_audit.specs.Keys.{view_key, same_view_key}
use Rattle.run_audit.specs.Kept.{or_new, first_given}
use Rattle.run_audit.specs.Past.{first_no, or_members, members_after, members_of}
use Rattle.run_audit.specs.Table.{is_in_of, or_node, first_node}
use Rattle.run_audit.specs.Views.{entered_at, AreViews, members_in, node_in, line_of}
use Rattle.run_audit.proofs.KeyLaws.{view_words, view_key_same}
use Rattle.run_audit.proofs.KeptLaws.{or_none, first_line, first_noted, first_again}

first_of : ViewId → List Line → Option FirstIn
first_of v ls = first_given (entered_at (view_key v)) ls

members_by : (v : ViewId) (ls : List Line) → members_of v ls ≡ members_in (first_of v ls)
unfolding members_of members_after or_members members_in first_of
members_by v [] = refl
members_by v (line.In n u ms ∷ ls) = by (members_of v ls) (first_of v ls) (same_view_key (view_key u) (view_key v)) (members_by v ls) (view_words u v)
  where
    pick : (xs : List Member) (x : FirstIn) (s : Bool) → Some xs ≡ Some x.members → (if s then Some xs else Some xs) ≡ Some x.members
    pick xs x true e = e
    pick xs x false e = e

    by : (o : Option (List Member)) (f : Option FirstIn) (t : Bool) → o ≡ members_in f → t ≡ same_view u v
        → members_after v (line.In n u ms) o ≡ members_in (or_new f (cond t (Some (record { node = n; number = length ls + 1; members = ms })) None))
    by (Some xs) (Some x) t e h = pick xs x (same_view u v) e
    by (Some xs) None t e h = absurd cc
    by None (Some x) t e h = absurd cc
    by None None true e h = ap (λ s. if s then Some ms else None) (sym h)
    by None None false e h = ap (λ s. if s then Some ms else None) (sym h)
members_by v (_ ∷ ls) = members_by v ls ∙ ap members_in (sym (or_none (first_of v ls)))

node_by : (v : ViewId) (ls : List Line) → first_node v ls ≡ node_in (first_of v ls)
unfolding first_node or_node node_in first_of
node_by v [] = refl
node_by v (line.In n u ms ∷ ls) = by (first_node v ls) (first_of v ls) (same_view_key (view_key u) (view_key v)) (same_view u v) (node_by v ls) (view_words u v)
  where
    by : (o : Option ℕ) (f : Option FirstIn) (t s : Bool) → o ≡ node_in f → t ≡ s
        → elim s [ true ↦ or_node o n | false ↦ o ] ≡ node_in (or_new f (cond t (Some (record { node = n; number = length ls + 1; members = ms })) None))
    by (Some m) (Some x) t true e h = e
    by (Some m) (Some x) t false e h = e
    by (Some m) None t s e h = absurd cc
    by None (Some x) t s e h = absurd cc
    by None None true true e h = refl
    by None None true false e h = absurd cc
    by None None false true e h = absurd cc
    by None None false false e h = refl
node_by v (_ ∷ ls) = node_by v ls ∙ ap node_in (sym (or_none (first_of v ls)))

given_number : (v : ViewId) (l : Line) (k : ℕ) → option_map (λ (f : FirstIn). f.number) (entered_at (view_key v) l k) ≡ cond (is_in_of v l) (Some k) None
unfolding is_in_of
given_number v (line.In n u ms) k = by (same_view_key (view_key u) (view_key v)) (view_words u v)
  where
    by : (t : Bool) → t ≡ same_view u v → option_map (λ (f : FirstIn). f.number) (cond t (Some (record { node = n; number = k; members = ms })) None) ≡ cond (same_view u v) (Some k) None
    by true h = ap (λ s. cond s (Some k) None) h
    by false h = ap (λ s. cond s (Some k) None) h
given_number v _ k = refl

number_is : (o : Option FirstIn) → option_map (λ (f : FirstIn). f.number) o ≡ line_of o
unfolding line_of
number_is None = refl
number_is (Some f) = refl

-- ---- by what is kept

module _ (v : ViewId) (key : ViewKey) (o : Option FirstIn) (es : List (ViewKey × FirstIn)) (ls : List Line) where
  found_is : key ≡ view_key v → o ≡ lookup (same_view_key key) es → AreViews ls es → o ≡ first_of v ls
  unfolding first_of
  found_is is found are = found ∙ ap (λ z. lookup (same_view_key z) es) is ∙ are (view_key v)

  pub members_are : key ≡ view_key v → o ≡ lookup (same_view_key key) es → AreViews ls es → members_of v ls ≡ members_in o
  members_are is found are = members_by v ls ∙ ap members_in (sym (found_is is found are))

  pub node_is : key ≡ view_key v → o ≡ lookup (same_view_key key) es → AreViews ls es → first_node v ls ≡ node_in o
  node_is is found are = node_by v ls ∙ ap node_in (sym (found_is is found are))

  pub line_is : key ≡ view_key v → o ≡ lookup (same_view_key key) es → AreViews ls es → first_no (is_in_of v) ls ≡ line_of o
  unfolding first_of
  line_is is found are =
      first_line (is_in_of v) (entered_at (view_key v)) (λ (f : FirstIn). f.number) (given_number v) ls ∙ (number_is (first_of v ls) ∙ ap line_of (sym (found_is is found are)))

-- ---- after one more line

module _ (n : ℕ) (v : ViewId) (ms : List Member) (number : ℕ) (es fs : List (ViewKey × FirstIn)) (ls : List Line) where
  pub noted_first : lookup (same_view_key (view_key v)) es ≡ None → ((q : ViewKey) → lookup (same_view_key q) fs ≡ cond (same_view_key (view_key v) q) (Some (record { node = n; number = number; members = ms })) (lookup (same_view_key q) es)) → AreViews ls es → number ≡ length ls + 1
      → AreViews (line.In n v ms ∷ ls) fs
  noted_first none up are at =
      first_noted same_view_key entered_at (view_key v) (line.In n v ms) ls (λ q. lookup (same_view_key q) es) (λ q. lookup (same_view_key q) fs) (record { node = n; number = number; members = ms })
      (λ q e. ap (λ z. lookup (same_view_key z) es) (sym (view_key_same (view_key v) q e)))
      (λ q. ap (λ z. cond (same_view_key (view_key v) q) (Some (record { node = n; number = z; members = ms })) None) (sym at)) none up are

pub noted_again : (n : ℕ) (v : ViewId) (ms : List Member) (f : FirstIn) (es : List (ViewKey × FirstIn)) (ls : List Line) → lookup (same_view_key (view_key v)) es ≡ Some f → AreViews ls es → AreViews (line.In n v ms ∷ ls) es
noted_again n v ms f es ls some are =
    first_again same_view_key entered_at (view_key v) (line.In n v ms) ls (λ q. lookup (same_view_key q) es) f (λ q e. ap (λ z. lookup (same_view_key z) es) (sym (view_key_same (view_key v) q e)))
    (λ q other. ap (λ t. cond t (Some (record { node = n; number = length ls + 1; members = ms })) None) other) some are

-- as the code has them
pub noted_at : (n : ℕ) (v : ViewId) (ms : List Member) (number : ℕ) (key : ViewKey) (first : Option FirstIn) (es fs : List (ViewKey × FirstIn)) (ls : List Line) → key ≡ view_key v → first ≡ lookup (same_view_key key) es → first ≡ None
    → ((q : ViewKey) → lookup (same_view_key q) fs ≡ cond (same_view_key key q) (Some (record { node = n; number = number; members = ms })) (lookup (same_view_key q) es)) → AreViews ls es → number ≡ length ls + 1 → AreViews (line.In n v ms ∷ ls) fs
noted_at n v ms number key first es fs ls is found none up are at =
    noted_first n v ms number es fs ls (ap (λ z. lookup (same_view_key z) es) (sym is) ∙ (sym found ∙ none))
    (λ q. up q ∙ ap (λ z. cond (same_view_key z q) (Some (record { node = n; number = number; members = ms })) (lookup (same_view_key q) es)) is) are at
