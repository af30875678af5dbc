use Rattle.std.proofs.Common.{◌≡◌, ◌∙◌, IfSome, sym, ap, subst, arith, length, ◌≤◌, Some, None, List, ℕ}
use Rattle.std.specs.Option.{option_map}
use Rattle.agreed_table.specs.Pairs.{Pairs, IsTable, Encodes, pairs_of, encoding}
use Rattle.agreed_table.proofs.ReadLaws.{decoded_is}
use Rattle.agreed_table.proofs.table.Table.of_chunks.Goals as goal

-- a table says its bytes
says : (bytes : List ℕ) (pairs : Pairs) → IsTable pairs → bytes ≡ encoding pairs → Encodes bytes pairs
says bytes pairs t is = record { is = is; ascending = t.ascending; each = t.each }

-- bytes that say pairs, few enough, say a table
table_of : (bytes : List ℕ) (mine pairs : Pairs) → Encodes bytes mine → length bytes ≤ 131072 → Some mine ≡ Some pairs → IsTable pairs × (bytes ≡ encoding pairs)
table_of bytes mine pairs code le e =
    let same : mine ≡ pairs = cc in
    let short : length (encoding mine) ≤ 131072 = rw (← code.is) le in
    subst (λ (ps : Pairs). IsTable ps × (bytes ≡ encoding ps)) same (record { ascending = code.ascending; each = code.each; short = short }, code.is)

pub returns-then-bytes-gt-MAX_ENCODING-clause-value : goal.returns-then-bytes-gt-MAX_ENCODING-clause-value
returns-then-bytes-gt-MAX_ENCODING-clause-value c =
    decoded_is c.args.bytes.now None (λ i. omega (arith, c.type_inv.bytes i)) (λ pairs e. absurd cc) (λ pairs t is. absurd (omega (arith, ap (λ (l : List ℕ). length l) is, t.short, c.if-bytes-gt-MAX_ENCODING.true)))

pub returns-in-None-clause-value : goal.returns-in-None-clause-value
returns-in-None-clause-value c =
    decoded_is c.args.bytes.now None (λ i. omega (arith, c.type_inv.bytes i)) (λ pairs e. absurd cc) (λ pairs t is. sym (ap (option_map (λ es. pairs_of es.entries)) c.in-None.is) ∙ c.in_ok-read_entries.ensures.only pairs (says c.args.bytes.now pairs t is))

pub returns-in-Some-clause-value : goal.returns-in-Some-clause-value
returns-in-Some-clause-value c =
    decoded_is c.args.bytes.now (Some (pairs_of c.in-Some.entries.entries)) (λ i. omega (arith, c.type_inv.bytes i)) (λ pairs e. table_of c.args.bytes.now (pairs_of c.in-Some.entries.entries) pairs (subst (λ o. IfSome o (λ es. Encodes c.args.bytes.now (pairs_of es.entries))) c.in-Some.is c.in_ok-read_entries.ensures.found) (omega (arith, c.if-bytes-gt-MAX_ENCODING.false)) e) (λ pairs t is. sym (ap (option_map (λ es. pairs_of es.entries)) c.in-Some.is) ∙ c.in_ok-read_entries.ensures.only pairs (says c.args.bytes.now pairs t is))
