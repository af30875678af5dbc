-- The counts of records are those of the summary.
use Rattle.std.proofs.Common.{◌≡◌, ℕ, ◌+◌, ◌++◌, Bool, true, false, cond, List, [], ◌∷◌, fold, length, sym, ◌∙◌, arith, add-zero}
use Rattle.std.proofs.lemmas.List.Sums.{fold-append}
use Rattle.std.specs.Prelude.{filter}
use Rattle.node_state.specs.declared.happened.Happened.{Happened}
use Rattle.world_model.specs.Load.{is_in, is_put, is_heard, is_told, counted, summary_of}
use Rattle.load_script.specs.declared.counts.Counts.{Counts}
use Rattle.load_script.specs.Counting.{one_if, no_counts, counts_with, summary_text}

-- one more in front
counts_more : (test : Happened → Bool) (r : Happened) (rs : List Happened) (n : ℕ) → (n + one_if (test r)) + length (filter test rs) ≡ n + length (filter test (r ∷ rs))
counts_more test r rs n = by (test r)
  where
    by : (t : Bool) → (n + one_if t) + length (filter test rs) ≡ n + length (cond t (r ∷ filter test rs) (filter test rs))
    by true = omega arith
    by false = omega arith

views_counted : (c : Counts) (rs : List Happened) → (fold counts_with c rs).views ≡ c.views + length (filter is_in rs)
views_counted c [] = sym (add-zero c.views)
views_counted c (r ∷ rs) = views_counted (counts_with c r) rs ∙ counts_more is_in r rs c.views

puts_counted : (c : Counts) (rs : List Happened) → (fold counts_with c rs).puts ≡ c.puts + length (filter is_put rs)
puts_counted c [] = sym (add-zero c.puts)
puts_counted c (r ∷ rs) = puts_counted (counts_with c r) rs ∙ counts_more is_put r rs c.puts

heard_counted : (c : Counts) (rs : List Happened) → (fold counts_with c rs).heard ≡ c.heard + length (filter is_heard rs)
heard_counted c [] = sym (add-zero c.heard)
heard_counted c (r ∷ rs) = heard_counted (counts_with c r) rs ∙ counts_more is_heard r rs c.heard

told_counted : (c : Counts) (rs : List Happened) → (fold counts_with c rs).told ≡ c.told + length (filter is_told rs)
told_counted c [] = sym (add-zero c.told)
told_counted c (r ∷ rs) = told_counted (counts_with c r) rs ∙ counts_more is_told r rs c.told

zero_more : (a b : ℕ) → a ≡ 0 + b → a ≡ b
zero_more a b e = omega arith

text_of : (n v p h t w q i u : ℕ) → v ≡ w → p ≡ q → h ≡ i → t ≡ u
    → summary_text n (record { views = v; puts = p; heard = h; told = t }) ≡ summary_text n (record { views = w; puts = q; heard = i; told = u })
text_of n v p h t w q i u a b c d = cc

pub counts_summary : (n : ℕ) (rs : List Happened) → summary_text n (fold counts_with no_counts rs) ≡ summary_of n rs
unfolding summary_of counted
counts_summary n rs =
    text_of n _ _ _ _ _ _ _ _ (zero_more _ _ (views_counted no_counts rs)) (zero_more _ _ (puts_counted no_counts rs)) (zero_more _ _ (heard_counted no_counts rs)) (zero_more _ _ (told_counted no_counts rs))

-- ---- records one after another

pub counted_then : (c : Counts) (rs ss : List Happened) → fold counts_with c (rs ++ ss) ≡ fold counts_with (fold counts_with c rs) ss
counted_then c rs ss = fold-append counts_with c rs ss
