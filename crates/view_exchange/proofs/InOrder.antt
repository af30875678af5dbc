-- Group parts that are read one after another, each with the name of the one before it.
use Rattle.std.proofs.Common.{◌≡◌, ℕ, suc, ◌+◌, ◌-◌, ◌<◌, ◌≤◌, Bool, true, false, cond, List, [], ◌∷◌, ◌++◌, Option, Some, None, refl, sym, ap, ◌∙◌, append_assoc, append-nil, arith}
use Rattle.std.specs.Prelude.{◌&&◌, IsSome}
use Rattle.rsct_packet.specs.Reading.{◌>>=◌, many_at, guarded_at}
use Rattle.rsct_packet.specs.Listed.{items_in}
use Rattle.view_state.specs.declared.install.Part.{Part}
use Rattle.view_state.specs.Codec.{group_part_at, is_after, names_ascend, names_ascend_from}

-- those whose names ascend from this one on
abbrev pub ascending : Option (List ℕ) → Option (List Part × List ℕ) → Option (List Part × List ℕ)
ascending last o = o >>= λ x. cond (names_ascend_from last x.0) (Some x) None

-- so many parts whose names ascend from this one on
abbrev pub in_order : Option (List ℕ) → ℕ → List ℕ → Option (List Part × List ℕ)
in_order last n bytes = ascending last (many_at group_part_at n bytes)

-- what is read comes behind these
abbrev pub behind : List Part → Option (List Part × List ℕ) → Option (List Part × List ℕ)
behind ps None = None
behind ps (Some x) = Some (ps ++ x.0, x.1)

-- i of them were read, in order: what is left decides
pub record Leads (count i : ℕ) (bytes rest : List ℕ) (last : Option (List ℕ)) : Type 0 where
  pub parts : List Part
  pub same : guarded_at names_ascend (many_at group_part_at count) bytes ≡ behind parts (in_order last (count - i) rest)

pub leads_none : (count : ℕ) (bytes : List ℕ) → Leads count 0 bytes bytes None
leads_none count bytes =
    let n : count - 0 ≡ count = omega arith in
    record {
      parts = [];
      same = by (many_at group_part_at count bytes) ∙ ap (λ (k : ℕ). behind [] (in_order None k bytes)) (sym n);
    }
  where
    by : (o : Option (List Part × List ℕ)) → ascending None o ≡ behind [] (ascending None o)
    by None = refl
    by (Some x) = guard (names_ascend x.0)
      where
        guard : (b : Bool) → cond b (Some x) None ≡ behind [] (cond b (Some x) None)
        guard true = refl
        guard false = refl

-- one part in front of the others
one_more : (last : Option (List ℕ)) (n : ℕ) (rest after : List ℕ) (p : Part) → group_part_at rest ≡ Some (p, after) → is_after last p.name ≡ true → in_order last (suc n) rest ≡ behind (p ∷ []) (in_order (Some p.name) n after)
unfolding many_at
one_more last n rest after p e a = rw e (by (many_at group_part_at n after))
  where
    by : (o : Option (List Part × List ℕ)) → ascending last (o >>= λ xs. Some (p ∷ xs.0, xs.1)) ≡ behind (p ∷ []) (ascending (Some p.name) o)
    by None = refl
    by (Some x) = rw a (guard (names_ascend_from (Some p.name) x.0))
      where
        guard : (b : Bool) → cond (true && b) (Some (p ∷ x.0, x.1)) None ≡ behind (p ∷ []) (cond b (Some x) None)
        guard true = refl
        guard false = refl

out_of_order : (last : Option (List ℕ)) (n : ℕ) (rest after : List ℕ) (p : Part) → group_part_at rest ≡ Some (p, after) → is_after last p.name ≡ false → in_order last (suc n) rest ≡ None
unfolding many_at
out_of_order last n rest after p e a = rw e (by (many_at group_part_at n after))
  where
    by : (o : Option (List Part × List ℕ)) → ascending last (o >>= λ xs. Some (p ∷ xs.0, xs.1)) ≡ None
    by None = refl
    by (Some x) = rw a refl

ends_there : (last : Option (List ℕ)) (n : ℕ) (rest : List ℕ) → group_part_at rest ≡ None → in_order last (suc n) rest ≡ None
unfolding many_at
ends_there last n rest e = rw e refl

none_left : (last : Option (List ℕ)) (rest : List ℕ) → in_order last 0 rest ≡ Some ([], rest)
unfolding many_at
none_left last rest = refl

behind_behind : (ps : List Part) (p : Part) (o : Option (List Part × List ℕ)) → behind ps (behind (p ∷ []) o) ≡ behind (ps ++ p ∷ []) o
behind_behind ps p None = refl
behind_behind ps p (Some x) = ap (λ (qs : List Part). Some (qs, x.1)) (sym (append_assoc ps (p ∷ []) x.0))

pub leads_more : (count i : ℕ) (bytes rest after : List ℕ) (last : Option (List ℕ)) (p : Part) → Leads count i bytes rest last → Some (p, after) ≡ group_part_at rest → is_after last p.name ≡ true → i < count → Leads count (i + 1) bytes after (Some p.name)
leads_more count i bytes rest after last p h e a lt =
    let n : count - i ≡ suc (count - (i + 1)) = omega arith in
    record {
      parts = h.parts ++ p ∷ [];
      same = h.same ∙ (ap (λ (k : ℕ). behind h.parts (in_order last k rest)) n ∙ (ap (behind h.parts) (one_more last (count - (i + 1)) rest after p (sym e) a) ∙ behind_behind h.parts p (in_order (Some p.name) (count - (i + 1)) after)));
    }

pub leads_stop : (count i : ℕ) (bytes rest : List ℕ) (last : Option (List ℕ)) → Leads count i bytes rest last → None ≡ group_part_at rest → i < count → None ≡ guarded_at names_ascend (many_at group_part_at count) bytes
leads_stop count i bytes rest last h e lt =
    let n : count - i ≡ suc (count - (i + 1)) = omega arith in
    sym (h.same ∙ (ap (λ (k : ℕ). behind h.parts (in_order last k rest)) n ∙ ap (behind h.parts) (ends_there last (count - (i + 1)) rest (sym e))))

pub leads_astray : (count i : ℕ) (bytes rest after : List ℕ) (last : Option (List ℕ)) (p : Part) → Leads count i bytes rest last → Some (p, after) ≡ group_part_at rest → is_after last p.name ≡ false → i < count → None ≡ guarded_at names_ascend (many_at group_part_at count) bytes
leads_astray count i bytes rest after last p h e a lt =
    let n : count - i ≡ suc (count - (i + 1)) = omega arith in
    sym (h.same ∙ (ap (λ (k : ℕ). behind h.parts (in_order last k rest)) n ∙ ap (behind h.parts) (out_of_order last (count - (i + 1)) rest after p (sym e) a)))

-- what passes a test is what was read
passed : (o : Option (List Part × List ℕ)) (ps : List Part) (rest : List ℕ) → ascending None o ≡ Some (ps, rest) → o ≡ Some (ps, rest)
passed None ps rest e = absurd cc
passed (Some x) ps rest e = guard (names_ascend x.0) e
  where
    guard : (b : Bool) → cond b (Some x) None ≡ Some (ps, rest) → Some x ≡ Some (ps, rest)
    guard true h = h
    guard false h = absurd cc

all_read : (count i : ℕ) (bytes rest : List ℕ) (last : Option (List ℕ)) (h : Leads count i bytes rest last) → count ≤ i → guarded_at names_ascend (many_at group_part_at count) bytes ≡ Some (h.parts, rest)
all_read count i bytes rest last h le =
    let n : count - i ≡ 0 = omega arith in
    h.same ∙ (ap (λ (k : ℕ). behind h.parts (in_order last k rest)) n ∙ (ap (behind h.parts) (none_left last rest) ∙ ap (λ (qs : List Part). Some (qs, rest)) (append-nil h.parts)))

pub leads_all : (count i : ℕ) (bytes rest : List ℕ) (last : Option (List ℕ)) → Leads count i bytes rest last → count ≤ i → Some (items_in (many_at group_part_at count bytes), rest) ≡ guarded_at names_ascend (many_at group_part_at count) bytes
leads_all count i bytes rest last h le =
    let e = all_read count i bytes rest last h le in
    let r : many_at group_part_at count bytes ≡ Some (h.parts, rest) = passed (many_at group_part_at count bytes) h.parts rest e in
    ap (λ (o : Option (List Part × List ℕ)). Some (items_in o, rest)) r ∙ sym e

pub leads_some : (count i : ℕ) (bytes rest : List ℕ) (last : Option (List ℕ)) → Leads count i bytes rest last → count ≤ i → IsSome (many_at group_part_at count bytes)
leads_some count i bytes rest last h le =
    rw (passed (many_at group_part_at count bytes) h.parts rest (all_read count i bytes rest last h le)) refl
