-- What records show, computed on small ones: it has the right line, and refuses a wrong one.
use Rattle.std.proofs.Common.{◌≡◌, ℕ, true, List, [], ◌∷◌, refl}
use Rattle.std.specs.Prelude.{codes}
use Rattle.word_laws.specs.Ranges.{ranges_open}
use Rattle.record_lines.specs.declared.line.Line.{Line}
use Rattle.record_lines.specs.declared.line.Line.TheVariants as line
use Rattle.record_lines.specs.Fits.{fits_opens, line_fits}
use Rattle.node_state.specs.declared.happened.Happened.TheVariants.{Up}
use Rattle.line_laws.specs.Shown.{Shows, ShowsWhole}
use Rattle.line_laws.specs.Samples.{put_in, line_in}

pub shows_group : ShowsWhole (put_in (codes "db")) (line_in (codes "db"))
unfolding ranges_open fits_opens
shows_group = (refl, refl)

group_is : (a b : List ℕ) → line_in a ≡ line_in b → a ≡ b
group_is a b e = cc

empty_is_not : (x : ℕ) (xs : List ℕ) → [] ≡ x ∷ xs → ⊥
empty_is_not x xs e = cc

pub hides_no_group : Shows (put_in (codes "db")) (line_in []) → ⊥
hides_no_group e = empty_is_not _ _ (group_is [] (codes "db") e)

zero_fits : (l : Line) → l ≡ line.Up 0 1 → line_fits l ≡ true → ⊥
unfolding ranges_open fits_opens
zero_fits l e f = absurd cc

pub zero_is_none : (l : Line) → ShowsWhole (Up 0 1) l → ⊥
zero_is_none l a = zero_fits l a.0 a.1
