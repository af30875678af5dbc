-- One comparison tells where a name stands.
use Rattle.std.proofs.Common.{◌≡◌, ℕ, List, Bool, refl, sym, ap, ◌∙◌}
use Rattle.std.specs.Prelude.{◌||◌}
use Rattle.std.specs.Str.{bytes_eq}
use Rattle.std.specs.Ordering.{nat_cmp, is_lt, is_eq, is_le, ordering_reverse}
use Rattle.std.specs.declared.cmp.Ordering.{Ordering}
use Rattle.std.specs.declared.cmp.Ordering.TheVariants.{Less, Equal, Greater}
use Rattle.std.specs.Cmp.Lexicographic.{slice_cmp, nat_list_cmp_total}
use Rattle.std.proofs.lemmas.Map.Text.{is_eq-slice_cmp}
use Rattle.rsct_packet.specs.Text.{name_lt}

at_or_below : (o : Ordering) → is_le o ≡ (is_eq (ordering_reverse o) || is_lt o)
at_or_below Less = refl
at_or_below Equal = refl
at_or_below Greater = refl

pub stops_by_order : (a b : List ℕ) → is_le (slice_cmp nat_cmp a b) ≡ (bytes_eq b a || name_lt a b)
stops_by_order a b =
    at_or_below (slice_cmp nat_cmp a b) ∙ ap (λ (t : Bool). t || name_lt a b) (ap is_eq (sym (nat_list_cmp_total.antisymm b a)) ∙ is_eq-slice_cmp b a)
