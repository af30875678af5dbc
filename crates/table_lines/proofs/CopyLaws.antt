-- A client's copies, line after line.
use Rattle.std.proofs.Common.{◌≡◌, ℕ, ◌+◌, ◌<◌, List, ◌++◌, length, take, get_or, Option, Some, None, inl, inr, refl, sym, ap, ◌∙◌, append-nil, arith}
use Rattle.std.specs.Prelude.{option_map, slice_get}
use Rattle.std.proofs.lemmas.Option.{slice_get_within, get_or_from_slice_get, slice_get_cases, same_Some}
use Rattle.rsct_packet.specs.declared.ids.ProviderId.{ProviderId}
use Rattle.value_words.proofs.TextLaws.{item_on}
use Rattle.table_client.specs.declared.copies.TableCopy.{TableCopy}
use Rattle.table_client.specs.Rules.{Copied}
use Rattle.table_client.specs.Shown.{shown_at}
use Rattle.table_lines.specs.Lines.{line_of, copies_text}

pub no_copies : (g base : List ℕ) (copies : List Copied) → base ≡ base ++ copies_text g (take 0 copies)
unfolding copies_text
no_copies g base copies = sym (append-nil base)

module _ (copies : List Copied) (i : ℕ) where
  -- with the copy at this place
  pub copy_on : (g base : List ℕ) (x : ProviderId × List ℕ × TableCopy) (out new : List ℕ) → Some x ≡ option_map shown_at (slice_get copies i) → out ≡ base ++ copies_text g (take i copies) → new ≡ out ++ line_of g x
      → new ≡ base ++ copies_text g (take (i + 1) copies)
  unfolding copies_text
  copy_on g base x out new is so_far added = by (slice_get copies i) refl
    where
      by : (o : Option Copied) → slice_get copies i ≡ o → new ≡ base ++ copies_text g (take (i + 1) copies)
      by None e = let none : Some x ≡ None = is ∙ ap (option_map shown_at) e in absurd cc
      by (Some c) e =
          let same : x ≡ shown_at c = same_Some x (shown_at c) (is ∙ ap (option_map shown_at) e) in
          let there : shown_at c ≡ shown_at (get_or copies i c) = ap shown_at (sym (get_or_from_slice_get copies i c c e)) in
          item_on (λ k. line_of g (shown_at k)) base copies i c out new (slice_get_within copies i c e) so_far (added ∙ ap (λ k. out ++ line_of g k) (same ∙ there))

  -- there is one
  pub copy_there : i < length copies → None ≡ option_map shown_at (slice_get copies i) → ⊥
  copy_there h is = by (slice_get copies i) refl
    where
      by : (o : Option Copied) → slice_get copies i ≡ o → ⊥
      by (Some c) e = let some : None ≡ Some (shown_at c) = is ∙ ap (option_map shown_at) e in absurd cc
      by None e = elim (slice_get_cases copies i).1 [ inl (c, within, found, same) ↦ (let some : None ≡ Some c = sym e ∙ found in absurd cc) | inr y ↦ omega (arith, h, y.0) ]
