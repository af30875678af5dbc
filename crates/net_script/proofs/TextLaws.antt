-- The text of records as it is written.
use Rattle.std.proofs.Common.{◌≡◌, ℕ, zero, suc, ◌+◌, ◌<◌, ◌≤◌, true, false, cond, List, [], ◌∷◌, ◌++◌, length, take, drop, get_or, Option, refl, sym, ◌∙◌, ap, subst, arith, append_assoc, append-nil, add-one}
use Rattle.std.specs.Prelude.{filter, flat_map}
use Rattle.std.proofs.Math.Seq.{drop-cons}
use Rattle.std.proofs.lemmas.List.{take_more}
use Rattle.std.proofs.lemmas.List.Elements.{filter-append}
use Rattle.std.proofs.lemmas.List.Concat.{flat_map-append}
use Rattle.std.specs.Io.KnownBytes.{Appends}
use Rattle.std.proofs.KnownBytes.{Appends-nil, Appends-trans}
use Rattle.hags_io.specs.Edges.{GrowsByFront}
use Rattle.hags_io.proofs.ByteLaws.{front_on}
use Rattle.play_state.specs.declared.world_fault.WorldFault.{WorldFault}
use Rattle.play_state.specs.declared.world_fault.WorldFault.TheVariants as world_fault
use Rattle.play_state.specs.declared.play_fault.PlayFault.{PlayFault}
use Rattle.play_state.specs.declared.play_fault.PutFault.{PutFault}
use Rattle.play_state.specs.declared.play_fault.PutFault.TheVariants as put_fault
use Rattle.play_state.specs.Faults.{fault_of_world, fault_of_put}
use Rattle.net_script.specs.Writing.{Writes, EndsBy}
use Rattle.node_state.specs.declared.happened.Happened.{Happened}
use Rattle.world_model.specs.Text.{line_of}
use Rattle.transcript.specs.declared.kinds.Kinds.{Kinds}
use Rattle.transcript.specs.Kinds.{shows, kinds_text}

pub kinds_append : (k : Kinds) (xs ys : List Happened) → kinds_text k (xs ++ ys) ≡ kinds_text k xs ++ kinds_text k ys
unfolding kinds_text
kinds_append k xs ys = ap (flat_map line_of) (filter-append (shows k) xs ys) ∙ flat_map-append line_of (filter (shows k) xs) (filter (shows k) ys)

-- ---- one record

pub shown_text : (k : Kinds) (r : Happened) → shows k r ≡ true → kinds_text k (r ∷ []) ≡ line_of r
unfolding kinds_text
shown_text k r e = ap (λ t. flat_map line_of (cond t (r ∷ []) [])) e ∙ append-nil (line_of r)

pub hidden_text : (k : Kinds) (r : Happened) → shows k r ≡ false → kinds_text k (r ∷ []) ≡ []
unfolding kinds_text
hidden_text k r e = ap (λ t. flat_map line_of (cond t (r ∷ []) [])) e

pub none_written : (a : Option (List ℕ)) (text : List ℕ) → text ≡ [] → Appends a a text
none_written a text e = subst (Appends a a) (sym e) (Appends-nil a)

pub none_front : (a : Option (List ℕ)) (text : List ℕ) → GrowsByFront a a text
none_front a text = record { front = []; back = text; whole = refl; grows = Appends-nil a }

pub all_front : (a b : Option (List ℕ)) (text : List ℕ) → Appends a b text → GrowsByFront a b text
all_front a b text h = record { front = text; back = []; whole = append-nil text; grows = h }

-- ---- text that is written in blocks

pub writes_none : (a : Option (List ℕ)) (left : List ℕ) → Writes a left a left []
writes_none a left = record { front = []; whole = sym (append-nil left); grows = Appends-nil a }

-- what was put, and all that is left
left_on : (a b : Option (List ℕ)) (left rest x y : List ℕ) → (p : Writes a left b rest x) → p.front ++ (rest ++ y) ≡ left ++ (x ++ y)
left_on a b left rest x y p = sym (append_assoc p.front rest y) ∙ (ap (λ t. t ++ y) p.whole ∙ append_assoc left x y)

pub writes_then : (a b c : Option (List ℕ)) (left rest last x y : List ℕ) → Writes a left b rest x → Writes b rest c last y → Writes a left c last (x ++ y)
writes_then a b c left rest last x y p q = record {
  front = p.front ++ q.front;
  whole = append_assoc p.front q.front last ∙ (ap (λ t. p.front ++ t) q.whole ∙ left_on a b left rest x y p);
  grows = Appends-trans a b c p.front q.front p.grows q.grows;
}

-- what is left is put too
pub writes_all : (a b c : Option (List ℕ)) (left rest x y : List ℕ) → Writes a left b rest x → Appends b c (rest ++ y) → Appends a c (left ++ (x ++ y))
writes_all a b c left rest x y p q = subst (Appends a c) (left_on a b left rest x y p) (Appends-trans a b c p.front (rest ++ y) p.grows q)

-- a front of what is left is, and of what comes after it
pub writes_front : (a b c : Option (List ℕ)) (left rest x y more : List ℕ) → Writes a left b rest x → GrowsByFront b c (rest ++ y) → GrowsByFront a c (left ++ (x ++ (y ++ more)))
writes_front a b c left rest x y more p q =
    front_on a b c p.front (rest ++ y) more (left ++ (x ++ (y ++ more))) (ap (λ t. p.front ++ t) (append_assoc rest y more) ∙ left_on a b left rest x (y ++ more) p) p.grows q

pub whole_block : (a b : Option (List ℕ)) (left rest : List ℕ) → rest ≡ [] → Appends a b left → Writes a left b rest []
whole_block a b left rest e h = record { front = left; whole = ap (λ t. left ++ t) e; grows = h }

pub block_done : (a b : Option (List ℕ)) (left text both rest : List ℕ) → both ≡ left ++ text → Writes a both b rest [] → Writes a left b rest text
block_done a b left text both rest e p = record { front = p.front; whole = p.whole ∙ (append-nil both ∙ e); grows = p.grows }

pub block_front : (a b : Option (List ℕ)) (left text both : List ℕ) → both ≡ left ++ text → GrowsByFront a b both → GrowsByFront a b (left ++ text)
block_front a b left text both e g = subst (GrowsByFront a b) e g

-- ---- a play that ends

pub ends_by_world : (r : PlayFault) (f : WorldFault) (a b : Option (List ℕ)) (left : List ℕ) → r ≡ fault_of_world f → Appends a b left → EndsBy r f a b left
ends_by_world r f a b left e h = subst (λ (z : PlayFault). EndsBy z f a b left) (sym e) (by f)
  where
    by : (g : WorldFault) → EndsBy (fault_of_world g) g a b left
    by world_fault.NoMemory = all_front a b left h
    by (world_fault.TooMuchKept n) = (refl, h)

pub ends_by_put : (r : PlayFault) (f : WorldFault) (p : PutFault) (a b : Option (List ℕ)) (left : List ℕ) → r ≡ fault_of_put p → GrowsByFront a b left → EndsBy r f a b left
ends_by_put r f p a b left e g = subst (λ (z : PlayFault). EndsBy z f a b left) (sym e) (by p)
  where
    by : (q : PutFault) → EndsBy (fault_of_put q) f a b left
    by put_fault.WriteFault = g
    by put_fault.NoMemory = g

-- ---- records

-- what is left begins with the item at its place
pub next_item : {X : Type 0} (i : ℕ) (x : X) (xs : List X) → i < length xs → x ≡ get_or xs i x → drop i xs ≡ x ∷ drop (i + 1) xs
next_item i x xs h is = rw add-one (drop-cons xs i x h ∙ ap (λ y. y ∷ drop (suc i) xs) (sym is))

pub same_item : {X : Type 0} (i : ℕ) (d e : X) (xs : List X) → i < length xs → get_or xs i d ≡ get_or xs i e
same_item i d e [] h = absurd (omega arith)
same_item zero d e (x ∷ xs) h = refl
same_item (suc i) d e (x ∷ xs) h = let below : i < length xs = omega arith in same_item i d e xs below

pub no_item : {X : Type 0} (i : ℕ) (xs : List X) → length xs ≤ i → drop i xs ≡ []
no_item zero [] le = refl
no_item zero (x ∷ xs) le = absurd (omega arith)
no_item (suc i) [] le = refl
no_item (suc i) (x ∷ xs) le = let below : length xs ≤ i = omega arith in no_item i xs below

-- the lines of one record more
pub text_more : (k : Kinds) (i : ℕ) (r : Happened) (rs : List Happened) → i < length rs → r ≡ get_or rs i r → kinds_text k (take (i + 1) rs) ≡ kinds_text k (take i rs) ++ kinds_text k (r ∷ [])
text_more k i r rs h is = ap (kinds_text k) (take_more rs i r h ∙ ap (λ x. take i rs ++ x ∷ []) (sym is)) ∙ kinds_append k (take i rs) (r ∷ [])

pub no_text : (k : Kinds) (left : List ℕ) → left ≡ left ++ kinds_text k []
unfolding kinds_text
no_text k left = sym (append-nil left)
