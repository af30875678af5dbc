-- The first cast of a provider in a phase says what the lines say of it.
use Rattle.std.proofs.Common.{◌≡◌, ℕ, ◌+◌, Bool, true, false, List, [], ◌∷◌, length, Option, Some, None, refl, sym, ◌∙◌, ap, cond}
use Rattle.std.specs.Prelude.{◌==◌, ◌&&◌, ◌||◌, not, is_some, if◌then◌else◌}
use Rattle.std.specs.List.{list_any, list_all}
use Rattle.std.specs.Map.{lookup}
use Rattle.std.specs.Option.{option_map}
use Rattle.rsct_packet.specs.declared.ids.ProtoId.{ProtoId}
use Rattle.rsct_packet.specs.declared.ids.ProviderId.{ProviderId}
use Rattle.rsct_packet.specs.declared.ids.ViewId.{ViewId}
use Rattle.rsct_packet.specs.Ids.{same_proto}
use Rattle.rsct_packet.specs.Providers.{same_provider}
use Rattle.proposal_core.specs.declared.entry.Closed.{Closed}
use Rattle.proposal_core.specs.declared.entry.Entry.{Entry}
use Rattle.proposal_core.specs.declared.entry.Row.{Row}
use Rattle.proposal_core.specs.declared.entry.RowVote.{RowVote}
use Rattle.proposal_core.specs.declared.entry.RowVote.TheVariants as row_vote
use Rattle.proposal_core.specs.declared.entry.Vote.{Vote}
use Rattle.word_laws.proofs.ValueLaws.{and_parts}
use Rattle.record_lines.specs.declared.line.Line.{Line}
use Rattle.record_lines.specs.declared.line.Line.TheVariants as line
use Rattle.run_audit.specs.declared.broken.Rule.TheVariants as rule
use Rattle.run_audit.specs.declared.casts.FirstCast.{FirstCast}
use Rattle.run_audit.specs.declared.keys.CastKey.{CastKey}
use Rattle.run_audit.specs.Casts.{cast_at, AreCasts, is_vote, line_of, row_kept, rows_kept}
use Rattle.run_audit.specs.Keys.{cast_key, same_cast_key}
use Rattle.run_audit.specs.Kept.{Keep, fault_of, or_new, first_given}
use Rattle.run_audit.specs.Past.{first_no}
use Rattle.run_audit.specs.Table.{closed_in, holds, heard_open, if_some, is_cast_of, is_vote_of, opening_no, row_cast, rows_cast, same_vote, with_of}
use Rattle.run_audit.proofs.KeyLaws.{cast_words, cast_key_same, equal, provider_same, proto_same}
use Rattle.run_audit.proofs.FoundLaws.{none_there, one_there}
use Rattle.run_audit.proofs.KeptLaws.{or_none, any_line, first_line, first_noted, first_again}

first_of : ProviderId → ProtoId → ℕ → List Line → Option FirstCast
first_of p o k ls = first_given (cast_at (cast_key p o k)) ls

given_number : (p : ProviderId) (o : ProtoId) (k : ℕ) (l : Line) (n : ℕ) → option_map (λ (c : FirstCast). c.number) (cast_at (cast_key p o k) l n) ≡ cond (is_cast_of p o k l) (Some n) None
unfolding is_cast_of
given_number p o k (line.Cast q r j v x) n = by (same_cast_key (cast_key q r j) (cast_key p o k)) (cast_words q p r o j k)
  where
    by : (t : Bool) → t ≡ (same_provider q p && (same_proto r o && j == k)) → option_map (λ (c : FirstCast). c.number) (cond t (Some (record { vote = v; number = n })) None) ≡ cond (same_provider q p && (same_proto r o && j == k)) (Some n) None
    by true h = ap (λ s. cond s (Some n) None) h
    by false h = ap (λ s. cond s (Some n) None) h
given_number p o k _ n = refl

number_is : (o : Option FirstCast) → option_map (λ (c : FirstCast). c.number) o ≡ line_of o
unfolding line_of
number_is None = refl
number_is (Some c) = refl

line_by : (p : ProviderId) (o : ProtoId) (k : ℕ) (ls : List Line) → first_no (is_cast_of p o k) ls ≡ line_of (first_of p o k ls)
unfolding first_of
line_by p o k ls = first_line (is_cast_of p o k) (cast_at (cast_key p o k)) (λ (c : FirstCast). c.number) (given_number p o k) ls ∙ number_is (first_of p o k ls)

pub line_is : (p : ProviderId) (o : ProtoId) (k : ℕ) (key : CastKey) (f : Option FirstCast) (es : List (CastKey × FirstCast)) (ls : List Line) → key ≡ cast_key p o k → f ≡ lookup (same_cast_key key) es → AreCasts ls es → line_of f ≡ first_no (is_cast_of p o k) ls
unfolding first_of
line_is p o k key f es ls is found are =
    ap line_of (found ∙ ap (λ z. lookup (same_cast_key z) es) is ∙ are (cast_key p o k)) ∙ sym (line_by p o k ls)

-- ---- votes: while casts are kept, a provider has one in a phase

none_of : (o : Option FirstCast) → is_some (line_of o) ≡ false → o ≡ None
unfolding line_of
none_of None e = refl
none_of (Some c) e = absurd cc

not_so : (b : Bool) → not b ≡ true → b ≡ false
not_so true e = absurd cc
not_so false e = refl

none_before : (p : ProviderId) (o : ProtoId) (k : ℕ) (ls : List Line) → not (list_any (is_cast_of p o k) ls) ≡ true → first_of p o k ls ≡ None
none_before p o k ls e =
    none_of (first_of p o k ls) (ap is_some (sym (line_by p o k ls)) ∙ (sym (any_line (is_cast_of p o k) ls) ∙ not_so (list_any (is_cast_of p o k) ls) e))

or_false : (t : Bool) → (t || false) ≡ t
or_false true = refl
or_false false = refl

module _ (p : ProviderId) (o : ProtoId) (k : ℕ) (v : Vote) where
  votes_are : (ls : List Line) → Keep rule.Cast ls → list_any (is_vote_of p o k v) ls ≡ is_vote v (first_of p o k ls)
  unfolding is_vote_of is_vote first_of holds
  votes_are [] h = refl
  votes_are (line.Cast q r j w x ∷ ls) h =
      by (same_cast_key (cast_key q r j) (cast_key p o k)) (same_provider q p) (same_proto r o) (j == k) refl refl refl (cast_words q p r o j k) (votes_are ls h.1)
    where
      single : (same_provider q p) ≡ true → (same_proto r o) ≡ true → (j == k) ≡ true → first_of p o k ls ≡ None
      single a b c =
          let e = and_parts (heard_open q r j ls) (not (list_any (is_cast_of q r j) ls)) h.0 in
          ap (λ z. first_of z o k ls) (sym (provider_same q p a)) ∙ (ap (λ z. first_of q z k ls) (sym (proto_same r o b)) ∙ (ap (λ z. first_of q r z ls) (sym (equal j k c)) ∙ none_before q r j ls e.1))

      by : (t a b c : Bool) → same_provider q p ≡ a → same_proto r o ≡ b → (j == k) ≡ c → t ≡ (a && (b && c)) → list_any (is_vote_of p o k v) ls ≡ is_vote v (first_of p o k ls)
          → ((a && (b && (c && same_vote w v))) || list_any (is_vote_of p o k v) ls) ≡ is_vote v (or_new (first_of p o k ls) (cond t (Some (record { vote = w; number = length ls + 1 })) None))
      by true true true true ea eb ec e old =
          let n = single ea eb ec in
          rw (old, n) (or_false (same_vote w v))
      by true true true false ea eb ec e old = absurd cc
      by true true false c ea eb ec e old = absurd cc
      by true false b c ea eb ec e old = absurd cc
      by false true true true ea eb ec e old = absurd cc
      by false true true false ea eb ec e old = old ∙ ap (is_vote v) (sym (or_none (first_of p o k ls)))
      by false true false c ea eb ec e old = old ∙ ap (is_vote v) (sym (or_none (first_of p o k ls)))
      by false false b c ea eb ec e old = old ∙ ap (is_vote v) (sym (or_none (first_of p o k ls)))
  votes_are (_ ∷ ls) h = votes_are ls h.1 ∙ ap (is_vote v) (sym (or_none (first_of p o k ls)))

row_is : (es : List (CastKey × FirstCast)) (ls : List Line) (o : ProtoId) (k : ℕ) (r : Row) (x : RowVote) → AreCasts ls es → Keep rule.Cast ls → row_kept es o k r x ≡ row_cast o k ls r x
unfolding row_kept row_cast first_of
row_is es ls o k r (row_vote.Cast v) are h = ap (is_vote v) (are (cast_key r.provider o k)) ∙ sym (votes_are r.provider o k v ls h)
row_is es ls o k r (row_vote.Late d) are h = refl
row_is es ls o k r (row_vote.Failed d) are h = refl

all_rows : (es : List (CastKey × FirstCast)) (ls : List Line) (o : ProtoId) (k : ℕ) (rs : List Row) → AreCasts ls es → Keep rule.Cast ls → list_all (λ (r : Row). row_kept es o k r r.vote) rs ≡ list_all (λ (r : Row). row_cast o k ls r r.vote) rs
all_rows es ls o k [] are h = refl
all_rows es ls o k (r ∷ rs) are h = λ i. row_is es ls o k r r.vote are h i && all_rows es ls o k rs are h i

pub rows_are : (es : List (CastKey × FirstCast)) (ls : List Line) (c : Closed) → AreCasts ls es → Keep rule.Cast ls → rows_kept es c ≡ rows_cast c ls
unfolding rows_kept rows_cast
rows_are es ls c are h = all_rows es ls c.proto c.phase c.rows are h

-- ---- what the table says

module _ (n : ℕ) (v : ViewId) (g : List ℕ) (i : ℕ) (e : Entry) (ls : List Line) where
  honest_is : (o : Option Closed) → o ≡ closed_in e → fault_of rule.Honest (line.Put n v g i e) ls ≡ (if if_some o (λ c. rows_cast c ls) then None else Some (record { rule = rule.Honest; with_line = opening_no n v g ls }))
  unfolding holds with_of
  honest_is o is = ap (λ z. if if_some z (λ c. rows_cast c ls) then None else Some (record { rule = rule.Honest; with_line = opening_no n v g ls })) (sym is)

  pub rows_keep : (o : Option Closed) (b : Bool) → o ≡ closed_in e → b ≡ if_some o (λ c. rows_cast c ls) → b ≡ true → None ≡ fault_of rule.Honest (line.Put n v g i e) ls
  rows_keep o b is kept it_is = sym (honest_is o is ∙ ap (λ t. if t then None else Some (record { rule = rule.Honest; with_line = opening_no n v g ls })) (sym kept ∙ it_is))

  pub rows_break : (o : Option Closed) (b : Bool) (with_line : Option ℕ) → o ≡ closed_in e → b ≡ if_some o (λ c. rows_cast c ls) → b ≡ false → with_line ≡ opening_no n v g ls
      → Some (record { rule = rule.Honest; with_line = with_line }) ≡ fault_of rule.Honest (line.Put n v g i e) ls
  rows_break o b with_line is kept not_so at =
      ap (λ z. Some (record { rule = rule.Honest; with_line = z })) at
      ∙ sym (honest_is o is ∙ ap (λ t. if t then None else Some (record { rule = rule.Honest; with_line = opening_no n v g ls })) (sym kept ∙ not_so))

-- ---- after one more line

module _ (p : ProviderId) (o : ProtoId) (k : ℕ) (v : Vote) (x : Option (List ℕ)) (es : List (CastKey × FirstCast)) (ls : List Line) where
  noted_first : (number : ℕ) (fs : List (CastKey × FirstCast)) → lookup (same_cast_key (cast_key p o k)) es ≡ None → ((q : CastKey) → lookup (same_cast_key q) fs ≡ cond (same_cast_key (cast_key p o k) q) (Some (record { vote = v; number = number })) (lookup (same_cast_key q) es)) → AreCasts ls es → number ≡ length ls + 1
      → AreCasts (line.Cast p o k v x ∷ ls) fs
  noted_first number fs none up are at =
      first_noted same_cast_key cast_at (cast_key p o k) (line.Cast p o k v x) ls (λ q. lookup (same_cast_key q) es) (λ q. lookup (same_cast_key q) fs) (record { vote = v; number = number })
      (λ q e. ap (λ z. lookup (same_cast_key z) es) (sym (cast_key_same (cast_key p o k) q e)))
      (λ q. ap (λ z. cond (same_cast_key (cast_key p o k) q) (Some (record { vote = v; number = z })) None) (sym at)) none up are

  noted_again : (c : FirstCast) → lookup (same_cast_key (cast_key p o k)) es ≡ Some c → AreCasts ls es → AreCasts (line.Cast p o k v x ∷ ls) es
  noted_again c some are =
      first_again same_cast_key cast_at (cast_key p o k) (line.Cast p o k v x) ls (λ q. lookup (same_cast_key q) es) c (λ q e. ap (λ z. lookup (same_cast_key z) es) (sym (cast_key_same (cast_key p o k) q e)))
      (λ q other. ap (λ t. cond t (Some (record { vote = v; number = length ls + 1 })) None) other) some are

-- as the code has them
module _ (p : ProviderId) (o : ProtoId) (k : ℕ) (v : Vote) (x : Option (List ℕ)) (key : CastKey) (is : key ≡ cast_key p o k) (b : Bool) (es : List (CastKey × FirstCast)) (there : b ≡ is_some (lookup (same_cast_key key) es)) (ls : List Line) where
  pub cast_again : b ≡ true → AreCasts ls es → AreCasts (line.Cast p o k v x ∷ ls) es
  cast_again old are =
      let y : (c : FirstCast) × (lookup (same_cast_key key) es ≡ Some c) = one_there (lookup (same_cast_key key) es) (sym there ∙ old) in
      noted_again p o k v x es ls y.0 (ap (λ z. lookup (same_cast_key z) es) (sym is) ∙ y.1) are

  pub cast_comes : (number : ℕ) (fs : List (CastKey × FirstCast)) → b ≡ false → ((q : CastKey) → lookup (same_cast_key q) fs ≡ cond (same_cast_key key q) (Some (record { vote = v; number = number })) (lookup (same_cast_key q) es)) → AreCasts ls es → number ≡ length ls + 1 → AreCasts (line.Cast p o k v x ∷ ls) fs
  cast_comes number fs new up are at =
      noted_first p o k v x es ls number fs (ap (λ z. lookup (same_cast_key z) es) (sym is) ∙ none_there (lookup (same_cast_key key) es) (sym there ∙ new))
      (λ q. up q ∙ ap (λ z. cond (same_cast_key z q) (Some (record { vote = v; number = number })) (lookup (same_cast_key q) es)) is) are at
