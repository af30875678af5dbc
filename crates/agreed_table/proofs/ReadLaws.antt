-- An encoding is read again, and what is read is an encoding.
use Rattle.std.proofs.Common.{◌≡◌, ℕ, zero, suc, ◌≤◌, Bool, true, false, cond, List, [], ◌∷◌, ◌++◌, length, Option, Some, None, refl, sym, ap, subst, ◌∙◌, arith, eqb-true}
use Rattle.std.specs.Prelude.{◌==◌, nat_le}
use Rattle.std.specs.Option.{option_map}
use Rattle.std.specs.List.Sorted.{IsStrictlySortedBy}
use Rattle.std.specs.Ordering.{is_gt}
use Rattle.std.specs.declared.cmp.Ordering.{Ordering}
use Rattle.std.specs.declared.cmp.Ordering.TheVariants.{Less, Equal, Greater}
use Rattle.std.specs.List.{AllByRecursion}
use Rattle.std.specs.Map.{keys_of}
use Rattle.std.proofs.lemmas.List.{nil_from_length}
use Rattle.std.proofs.lemmas.Bool.{le-leb, leb-true, ne_eqb}
use Rattle.rsct_packet.specs.Fields.{AreShort, bytes_at, bytes_text}
use Rattle.rsct_packet.specs.Format.{EachFits, IsBytes, Takes, IsFormat}
use Rattle.rsct_packet.specs.Reading.{both_at}
use Rattle.rsct_packet.proofs.FormatLaws.{both_format, bind_some}
use Rattle.rsct_packet.proofs.FieldLaws.{bytes_format}
use Rattle.agreed_table.specs.Pairs.{Pair, Pairs, byte_order, encoding, pairs_at, decoded, IsPair, IsTable}
use Rattle.agreed_table.proofs.PairLaws.{Ascends, size_of, size_more, below_on}
use Rattle.agreed_table.proofs.DecodeLaws.{back, above_empty, turned, named}

pair_format : IsFormat (both_at bytes_at bytes_at) (λ x. bytes_text x.0 ++ bytes_text x.1) (λ x. AreShort x.0 × AreShort x.1)
pair_format = both_format bytes_format bytes_format

-- the first key is above the last one
abbrev FirstAbove : List ℕ → Pairs → Type 0
FirstAbove last [] = Unit {0}
FirstAbove last (e ∷ es) = byte_order e.0 last ≡ Greater

next_above : (e : Pair) (es : Pairs) → Ascends (e ∷ es) → FirstAbove e.0 es
unfolding IsStrictlySortedBy
next_above e [] s = tt
next_above e (f ∷ es) s = back e.0 f.0 s.0.0

tail_ascends : (e : Pair) (es : Pairs) → Ascends (e ∷ es) → Ascends es
unfolding IsStrictlySortedBy
tail_ascends e es s = s.1

read_first : (e : Pair) (es : Pairs) → IsPair e → both_at bytes_at bytes_at (encoding (e ∷ es)) ≡ Some (e, encoding es)
unfolding encoding
read_first e es fits = pair_format.again e (encoding es) (fits.key, fits.value)

not_nil : (e : Pair) (es : Pairs) → (length (encoding (e ∷ es)) == 0) ≡ false
not_nil e es = ne_eqb (length (encoding (e ∷ es))) 0 (λ is. omega (arith, size_more e es))

pairs_again : (n : ℕ) (last : List ℕ) (pairs : Pairs) → size_of pairs ≤ n → EachFits IsPair pairs → Ascends pairs → FirstAbove last pairs → pairs_at n last (encoding pairs) ≡ Some pairs
unfolding pairs_at encoding
pairs_again zero last [] le each s above = refl
pairs_again (suc n) last [] le each s above = refl
pairs_again zero last (e ∷ es) le each s above = absurd (omega (arith, size_more e es))
pairs_again (suc n) last (e ∷ es) le each s above =
    let rest = pairs_again n e.0 es (omega (arith, size_more e es)) each.1 (tail_ascends e es s) (next_above e es s) in
    rw (not_nil e es, read_first e es each.0, above, rest) refl

first_above : (pairs : Pairs) → EachFits IsPair pairs → FirstAbove [] pairs
first_above [] each = tt
first_above (e ∷ es) each = above_empty e.0 each.0.named

-- each map is read again from its encoding
pub decoded_again : (pairs : Pairs) → IsTable pairs → decoded (encoding pairs) ≡ Some pairs
unfolding decoded
decoded_again pairs t =
    rw (le-leb (length (encoding pairs)) 131072 t.short) (pairs_again (length (encoding pairs)) [] pairs (omega arith) t.each t.ascending (first_above pairs t.each))

-- ---- what is read is an encoding

first_below : (k : List ℕ) (es : Pairs) → FirstAbove k es → Ascends es → AllByRecursion (λ (y : List ℕ). byte_order k y ≡ Less) (keys_of es)
unfolding IsStrictlySortedBy
first_below k [] above s = tt
first_below k (e ∷ es) above s = let lt = turned e.0 k above in (lt, below_on k e.0 es lt s.0)

-- what was read of these bytes, whose first key is above the last one
record IsRead (last bytes : List ℕ) (pairs : Pairs) : Type 0 where
  pub is : bytes ≡ encoding pairs
  pub ascending : Ascends pairs
  pub each : EachFits IsPair pairs
  pub above : FirstAbove last pairs

nothing_read : (last bytes : List ℕ) (pairs : Pairs) → length bytes ≡ 0 → Some [] ≡ Some pairs → IsRead last bytes pairs
unfolding encoding IsStrictlySortedBy
nothing_read last bytes [] none e = record { is = nil_from_length bytes none; ascending = tt; each = tt; above = tt }
nothing_read last bytes (x ∷ pairs) none e = absurd cc

one_read : (last bytes : List ℕ) (x : Pair × List ℕ) (es : Pairs) → Takes bytes (bytes_text x.0.0 ++ bytes_text x.0.1) x.1 → AreShort x.0.0 × AreShort x.0.1 → byte_order x.0.0 last ≡ Greater → IsRead x.0.0 x.1 es → IsRead last bytes (x.0 ∷ es)
unfolding encoding IsStrictlySortedBy
one_read last bytes x es takes short gt rest = record {
  is = takes.parts ∙ ap (λ (t : List ℕ). (bytes_text x.0.0 ++ bytes_text x.0.1) ++ t) rest.is;
  ascending = (first_below x.0.0 es rest.above rest.ascending, rest.ascending);
  each = (record { named = named x.0.0 last gt; key = short.0; value = short.1 }, rest.each);
  above = gt;
}

greater : (o : Ordering) → is_gt o ≡ true → o ≡ Greater
greater Less h = absurd cc
greater Equal h = absurd cc
greater Greater h = refl

more_read : (last bytes : List ℕ) (x : Pair × List ℕ) (pairs : Pairs) (o : Option Pairs) (b : Bool) → Takes bytes (bytes_text x.0.0 ++ bytes_text x.0.1) x.1 → AreShort x.0.0 × AreShort x.0.1 → is_gt (byte_order x.0.0 last) ≡ b
    → ((es : Pairs) → o ≡ Some es → IsRead x.0.0 x.1 es) → cond b (option_map (λ (es : Pairs). x.0 ∷ es) o) None ≡ Some pairs → IsRead last bytes pairs
more_read last bytes x pairs o false takes short gt rest e = absurd cc
more_read last bytes x pairs None true takes short gt rest e = absurd cc
more_read last bytes x pairs (Some es) true takes short gt rest e =
    let same : x.0 ∷ es ≡ pairs = cc in
    subst (λ (ps : Pairs). IsRead last bytes ps) same (one_read last bytes x es takes short (greater (byte_order x.0.0 last) gt) (rest es refl))

test_read : (b : Bool) (last bytes : List ℕ) (pairs : Pairs) (o : Option Pairs) → (length bytes == 0) ≡ b → (o ≡ Some pairs → IsRead last bytes pairs) → cond b (Some []) o ≡ Some pairs → IsRead last bytes pairs
test_read true last bytes pairs o is rest e = nothing_read last bytes pairs (eqb-true (length bytes) 0 is) e
test_read false last bytes pairs o is rest e = rest e

pairs_found : (n : ℕ) (last bytes : List ℕ) (pairs : Pairs) → IsBytes bytes → pairs_at n last bytes ≡ Some pairs → IsRead last bytes pairs
unfolding pairs_at
pairs_found zero last bytes pairs fits e = test_read (length bytes == 0) last bytes pairs None refl (λ none. absurd cc) e
pairs_found (suc n) last bytes pairs fits e =
    test_read (length bytes == 0) last bytes pairs _ refl (λ read.
    let one = bind_some (both_at bytes_at bytes_at bytes) _ pairs read in
    let found = pair_format.found bytes one.0 fits one.1 in
    more_read last bytes one.0 pairs (pairs_at n one.0.0.0 one.0.1) (is_gt (byte_order one.0.0.0 last)) found.0 found.1 refl (λ es at. pairs_found n one.0.0.0 one.0.1 es found.0.rest_fits at) one.2) e

found_if : (b : Bool) (bytes : List ℕ) (pairs : Pairs) → nat_le (length bytes) 131072 ≡ b → IsBytes bytes → cond b (pairs_at (length bytes) [] bytes) None ≡ Some pairs → IsTable pairs × (bytes ≡ encoding pairs)
found_if false bytes pairs is fits e = absurd cc
found_if true bytes pairs is fits e =
    let read = pairs_found (length bytes) [] bytes pairs fits e in
    let le : length bytes ≤ 131072 = leb-true (length bytes) 131072 is in
    (record { ascending = read.ascending; each = read.each; short = rw (← read.is) le }, read.is)

-- what is decoded is a map whose encoding these bytes are
pub decoded_found : (bytes : List ℕ) (pairs : Pairs) → IsBytes bytes → decoded bytes ≡ Some pairs → IsTable pairs × (bytes ≡ encoding pairs)
unfolding decoded
decoded_found bytes pairs fits e = found_if (nat_le (length bytes) 131072) bytes pairs refl fits e

-- so an answer that says both sides is the decoded one
pub decoded_is : (bytes : List ℕ) (o : Option Pairs) → IsBytes bytes → ((pairs : Pairs) → o ≡ Some pairs → IsTable pairs × (bytes ≡ encoding pairs)) → ((pairs : Pairs) → IsTable pairs → bytes ≡ encoding pairs → o ≡ Some pairs) → o ≡ decoded bytes
decoded_is bytes (Some t) fits found only = let p = found t refl in sym (ap decoded p.1 ∙ decoded_again t p.0)
decoded_is bytes None fits found only = none_decoded (decoded bytes) refl
  where
    none_decoded : (r : Option Pairs) → decoded bytes ≡ r → ◌≡◌ {A = Option Pairs} None (decoded bytes)
    none_decoded None is = sym is
    none_decoded (Some q) is = let p = decoded_found bytes q fits is in absurd (let both = only q p.0 p.1 in cc)
