-- The copies of different providers.
use Rattle.std.proofs.Common.{◌≡◌, Bool, true, false, cond, List, [], ◌∷◌, Option, Some, None, refl, sym, ap, subst, ◌∙◌, inl, inr, arith}
use Rattle.std.specs.Prelude.{find, ◌&&◌, if◌then◌else◌}
use Rattle.std.specs.List.{fold}
use Rattle.std.specs.Option.{unwrap_or}
use Rattle.std.proofs.lemmas.Bool.Decides.{nat_tests}
use Rattle.rsct_packet.specs.declared.ids.ProviderId.{ProviderId}
use Rattle.rsct_packet.specs.Lists.{drop_where}
use Rattle.rsct_packet.specs.Providers.{same_provider}
use Rattle.rsct_packet.specs.Search.{Has, insert_before}
use Rattle.client_callbacks.specs.declared.told.Told.{Told}
use Rattle.client_callbacks.specs.declared.told.Told.TheVariants as told
use Rattle.client_callbacks.specs.Handed.{NoticeView, Handed, Notified, Informed}
use Rattle.table_client.specs.Rules.{Copied, is_copy, fresh_copy, copy_before, copy_after, comes_after, is_dissolved, noticed, informed, copies_then, copies_after}
use Rattle.table_client.specs.Apart.{dissolves, own_then, CopiesAreApart, CopiesAreDistinct}
use Rattle.table_client.proofs.ClientLaws.{provider_is, before_is, after_keeps}

same_self : (p : ProviderId) → same_provider p p ≡ true
same_self p = grind (arith, nat_tests)

-- two that are not the same, in either order
pub other_way : (a b : ProviderId) → same_provider a b ≡ false → same_provider b a ≡ false
other_way a b e = by (same_provider b a) refl
  where
    by : (t : Bool) → same_provider b a ≡ t → t ≡ false
    by false q = refl
    by true q =
        let same : b ≡ a = provider_is b a q in
        let both : true ≡ false = sym (same_self a) ∙ ap (same_provider a) (sym same) ∙ e in
        absurd (cc)

-- ---- what is found in a list with one more, and with one less

module _ (t : Copied → Bool) where
  find_cond : (b : Bool) (x : Copied) (o : Option Copied) → b ≡ false → cond b (Some x) o ≡ o
  find_cond b x o e = rw e refl

  own_inserted : (p : ProviderId) (c : Copied) (xs : List Copied) → is_copy p c ≡ true → find (is_copy p) xs ≡ None → find (is_copy p) (insert_before t c xs) ≡ Some c
  own_inserted p c [] own none = rw own refl
  own_inserted p c (x ∷ xs) own none = by (is_copy p x) (t x) refl none (own_inserted p c xs own)
    where
      by : (a b : Bool) → is_copy p x ≡ a → cond a (Some x) (find (is_copy p) xs) ≡ None → (find (is_copy p) xs ≡ None → find (is_copy p) (insert_before t c xs) ≡ Some c) → find (is_copy p) (if b then c ∷ x ∷ xs else x ∷ insert_before t c xs) ≡ Some c
      by true b q e rest = absurd (cc)
      by false true q e rest = rw own refl
      by false false q e rest = find_cond (is_copy p x) x (find (is_copy p) (insert_before t c xs)) q ∙ rest e

  other_inserted : (p : ProviderId) (c : Copied) (xs : List Copied) → is_copy p c ≡ false → find (is_copy p) (insert_before t c xs) ≡ find (is_copy p) xs
  other_inserted p c [] other = rw other refl
  other_inserted p c (x ∷ xs) other = by (t x) (other_inserted p c xs other)
    where
      by : (b : Bool) → find (is_copy p) (insert_before t c xs) ≡ find (is_copy p) xs → find (is_copy p) (if b then c ∷ x ∷ xs else x ∷ insert_before t c xs) ≡ find (is_copy p) (x ∷ xs)
      by true rest = find_cond (is_copy p c) c (find (is_copy p) (x ∷ xs)) other
      by false rest = ap (λ (o : Option Copied). cond (is_copy p x) (Some x) o) rest

  none_dropped : (test : Copied → Bool) (xs : List Copied) → find test xs ≡ None → find test (drop_where t xs) ≡ None
  none_dropped test [] none = refl
  none_dropped test (x ∷ xs) none = by (test x) (t x) refl none (none_dropped test xs)
    where
      by : (a b : Bool) → test x ≡ a → cond a (Some x) (find test xs) ≡ None → (find test xs ≡ None → find test (drop_where t xs) ≡ None) → find test (elim b as (λ _. List Copied) [ true ↦ xs | false ↦ x ∷ drop_where t xs ]) ≡ None
      by true b q e rest = absurd (cc)
      by false true q e rest = e
      by false false q e rest = find_cond (test x) x (find test (drop_where t xs)) q ∙ rest e

other_dropped : (p q : ProviderId) (xs : List Copied) → same_provider q p ≡ false → find (is_copy p) (drop_where (is_copy q) xs) ≡ find (is_copy p) xs
other_dropped p q [] other = refl
other_dropped p q (x ∷ xs) other = by (is_copy q x) refl (other_dropped p q xs other)
  where
    by : (b : Bool) → is_copy q x ≡ b → find (is_copy p) (drop_where (is_copy q) xs) ≡ find (is_copy p) xs → find (is_copy p) (elim b as (λ _. List Copied) [ true ↦ xs | false ↦ x ∷ drop_where (is_copy q) xs ]) ≡ cond (is_copy p x) (Some x) (find (is_copy p) xs)
    by true e rest =
        let same : x.provider ≡ q = provider_is x.provider q e in
        let not : is_copy p x ≡ false = ap (λ (r : ProviderId). same_provider r p) same ∙ other in
        rw not refl
    by false e rest = ap (λ (o : Option Copied). cond (is_copy p x) (Some x) o) rest

-- ---- copies of providers that differ

abbrev AreApart : List Copied → Type 0
AreApart [] = Unit {0}
AreApart (x ∷ xs) = (find (is_copy x.provider) xs ≡ None) × AreApart xs

own_dropped : (q : ProviderId) (xs : List Copied) → AreApart xs → find (is_copy q) (drop_where (is_copy q) xs) ≡ None
own_dropped q [] apart = refl
own_dropped q (x ∷ xs) apart = by (is_copy q x) refl (own_dropped q xs apart.1)
  where
    by : (b : Bool) → is_copy q x ≡ b → find (is_copy q) (drop_where (is_copy q) xs) ≡ None → find (is_copy q) (elim b as (λ _. List Copied) [ true ↦ xs | false ↦ x ∷ drop_where (is_copy q) xs ]) ≡ None
    by true e rest = subst (λ (r : ProviderId). find (is_copy r) xs ≡ None) (provider_is x.provider q e) apart.0
    by false e rest = rw e rest

apart_dropped : (t : Copied → Bool) (xs : List Copied) → AreApart xs → AreApart (drop_where t xs)
apart_dropped t [] apart = tt
apart_dropped t (x ∷ xs) apart = by (t x) (apart_dropped t xs apart.1)
  where
    by : (b : Bool) → AreApart (drop_where t xs) → AreApart (elim b as (λ _. List Copied) [ true ↦ xs | false ↦ x ∷ drop_where t xs ])
    by true rest = apart.1
    by false rest = (none_dropped t (is_copy x.provider) xs apart.0, rest)

apart_inserted : (t : Copied → Bool) (c : Copied) (xs : List Copied) → AreApart xs → find (is_copy c.provider) xs ≡ None → AreApart (insert_before t c xs)
apart_inserted t c [] apart none = (refl, tt)
apart_inserted t c (x ∷ xs) apart none = by (t x) (is_copy c.provider x) refl none (apart_inserted t c xs apart.1)
  where
    by : (b a : Bool) → is_copy c.provider x ≡ a → cond a (Some x) (find (is_copy c.provider) xs) ≡ None → (find (is_copy c.provider) xs ≡ None → AreApart (insert_before t c xs)) → AreApart (if b then c ∷ x ∷ xs else x ∷ insert_before t c xs)
    by b true e n rest = absurd (cc)
    by true false e n rest = (rw e n, apart)
    by false false e n rest = (other_inserted t x.provider c xs (other_way x.provider c.provider e) ∙ apart.0, rest n)

-- ---- one more that is handed

-- whose copy it is after a notice
own_after : (n : NoticeView) (copies : List Copied) → (copy_after n (copy_before n copies)).provider ≡ n.provider
own_after n copies = after_keeps n (copy_before n copies) ∙ before_is n copies (find (is_copy n.provider) copies) refl

module _ (n : NoticeView) (copies : List Copied) (apart : AreApart copies) where
  abbrev now : Copied
  now = copy_after n (copy_before n copies)

  left_none : find (is_copy now.provider) (drop_where (is_copy now.provider) copies) ≡ None
  left_none = own_dropped now.provider copies apart

  noticed_apart : AreApart (noticed n copies)
  unfolding noticed
  noticed_apart = apart_inserted (comes_after now.provider) now (drop_where (is_copy now.provider) copies) (apart_dropped (is_copy now.provider) copies apart) left_none

  noticed_own : find (is_copy n.provider) (noticed n copies) ≡ Some now
  unfolding noticed
  noticed_own =
      let own : now.provider ≡ n.provider = own_after n copies in
      let none : find (is_copy n.provider) (drop_where (is_copy now.provider) copies) ≡ None = subst (λ (q : ProviderId). find (is_copy q) (drop_where (is_copy now.provider) copies) ≡ None) own left_none in
      own_inserted (comes_after now.provider) n.provider now (drop_where (is_copy now.provider) copies) (ap (λ (q : ProviderId). same_provider q n.provider) own ∙ same_self n.provider) none

  noticed_other : (p : ProviderId) → same_provider n.provider p ≡ false → find (is_copy p) (noticed n copies) ≡ find (is_copy p) copies
  unfolding noticed
  noticed_other p other =
      let not : same_provider now.provider p ≡ false = ap (λ (q : ProviderId). same_provider q p) (own_after n copies) ∙ other in
      other_inserted (comes_after now.provider) p now (drop_where (is_copy now.provider) copies) not ∙ other_dropped p now.provider copies not

  noticed_then : (p : ProviderId) (b : Bool) → same_provider n.provider p ≡ b → find (is_copy p) (noticed n copies) ≡ cond b (Some (copy_after n (unwrap_or (find (is_copy p) copies) (fresh_copy n)))) (find (is_copy p) copies)
  noticed_then p false e = noticed_other p e
  noticed_then p true e =
      let same : n.provider ≡ p = provider_is n.provider p e in
      ap (λ (q : ProviderId). find (is_copy q) (noticed n copies)) (sym same) ∙ noticed_own ∙ ap (λ (q : ProviderId). Some (copy_after n (unwrap_or (find (is_copy q) copies) (fresh_copy n)))) same

told_apart : (t : Told) (copies : List Copied) → AreApart copies → AreApart (informed t copies)
unfolding informed
told_apart (told.Refused q r y) copies apart = by (is_dissolved y)
  where
    by : (b : Bool) → AreApart (if b then drop_where (is_copy q) copies else copies)
    by true = apart_dropped (is_copy q) copies apart
    by false = apart
told_apart (told.Note g ms value) copies apart = apart
told_apart (told.Hosts v ms) copies apart = apart

told_then : (t : Told) (copies : List Copied) (p : ProviderId) → AreApart copies → find (is_copy p) (informed t copies) ≡ cond (dissolves p t) None (find (is_copy p) copies)
unfolding informed
told_then (told.Note g ms value) copies p apart = refl
told_then (told.Hosts v ms) copies p apart = refl
told_then (told.Refused q r y) copies p apart = by (is_dissolved y) (same_provider q p) refl
  where
    by : (a b : Bool) → same_provider q p ≡ b → find (is_copy p) (if a then drop_where (is_copy q) copies else copies) ≡ cond (a && b) None (find (is_copy p) copies)
    by false b e = refl
    by true false e = other_dropped p q copies e
    by true true e = ap (λ (z : ProviderId). find (is_copy p) (drop_where (is_copy z) copies)) (provider_is q p e) ∙ own_dropped p copies apart

-- ---- all that is handed

along : (hs : List Handed) (copies : List Copied) (p : ProviderId) → AreApart copies → find (is_copy p) (fold copies_then copies hs) ≡ fold (own_then p) (find (is_copy p) copies) hs
along [] copies p apart = refl
along (Notified n f ∷ hs) copies p apart =
    along hs (noticed n copies) p (noticed_apart n copies apart) ∙ ap (λ (o : Option Copied). fold (own_then p) o hs) (noticed_then n copies apart p (same_provider n.provider p) refl)
along (Informed t ∷ hs) copies p apart =
    along hs (informed t copies) p (told_apart t copies apart) ∙ ap (λ (o : Option Copied). fold (own_then p) o hs) (told_then t copies p apart)

pub copies_are_apart : CopiesAreApart
unfolding copies_after
copies_are_apart hs p = along hs [] p tt

stay_apart : (hs : List Handed) (copies : List Copied) → AreApart copies → AreApart (fold copies_then copies hs)
stay_apart [] copies apart = apart
stay_apart (Notified n f ∷ hs) copies apart = stay_apart hs (noticed n copies) (noticed_apart n copies apart)
stay_apart (Informed t ∷ hs) copies apart = stay_apart hs (informed t copies) (told_apart t copies apart)

found_first : (c : Copied) (xs : List Copied) → find (is_copy c.provider) (c ∷ xs) ≡ Some c
found_first c xs = rw (same_self c.provider) refl

found : (xs : List Copied) → AreApart xs → (c : Copied) → Has c xs → find (is_copy c.provider) xs ≡ Some c
found [] apart c has = absurd has
found (x ∷ xs) apart c (inl same) = subst (λ (y : Copied). find (is_copy c.provider) (y ∷ xs) ≡ Some c) same (found_first c xs)
found (x ∷ xs) apart c (inr has) = by (is_copy c.provider x) refl (found xs apart.1 c has)
  where
    by : (b : Bool) → is_copy c.provider x ≡ b → find (is_copy c.provider) xs ≡ Some c → cond b (Some x) (find (is_copy c.provider) xs) ≡ Some c
    by true e rest =
        let none : find (is_copy c.provider) xs ≡ None = subst (λ (p : ProviderId). find (is_copy p) xs ≡ None) (provider_is x.provider c.provider e) apart.0 in
        absurd (cc)
    by false e rest = rest

pub copies_are_distinct : CopiesAreDistinct
unfolding copies_after
copies_are_distinct hs c has = found (fold copies_then [] hs) (stay_apart hs [] tt) c has
