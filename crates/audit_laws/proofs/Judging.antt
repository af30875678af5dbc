-- Lines of a run keep every rule, so the verdict on them is that they are seen.
use Rattle.std.proofs.Common.{◌≡◌, ◌+◌, true, false, List, [], ◌∷◌, length, Some, None, refl, ◌∙◌, ap, arith}
use Rattle.record_lines.specs.declared.line.Line.{Line}
use Rattle.node_state.specs.declared.happened.Happened.{Happened}
use Rattle.run_audit.specs.declared.broken.Rule.{Rule}
use Rattle.run_audit.specs.declared.broken.Rule.TheVariants as rule
use Rattle.run_audit.specs.declared.broken.Verdict.{Verdict}
use Rattle.run_audit.specs.declared.broken.Verdict.TheVariants.{Seen, Broken}
use Rattle.run_audit.specs.Table.{holds, rules_of, first_broken, broken_in, verdict_at, verdict_of}
use Rattle.audit_laws.specs.Judging.{LinesAreSeen}
use Rattle.audit_laws.specs.Lines.{shown, lines}
use Rattle.audit_laws.specs.Records.{Keeps}
use Rattle.audit_laws.proofs.Bases.{bases_kept, bases_agreed}
use Rattle.audit_laws.proofs.Casts.{casts_kept}
use Rattle.audit_laws.proofs.Enters.{entering_kept}
use Rattle.audit_laws.proofs.Fitting.{fits_kept, tallies_kept, votes_kept}
use Rattle.audit_laws.proofs.Heard.{hearing_kept}
use Rattle.audit_laws.proofs.Lists.{places_kept, entries_kept}
use Rattle.audit_laws.proofs.Passing.{passing_kept}
use Rattle.audit_laws.proofs.Past.{older}
use Rattle.audit_laws.proofs.Requests.{requests_kept}
use Rattle.audit_laws.proofs.Rings.{rings_kept}
use Rattle.audit_laws.proofs.Starts.{starts_kept}

every_rule : (r : Rule) → Keeps r
every_rule rule.Life = starts_kept
every_rule rule.Ring = rings_kept
every_rule rule.In = entering_kept
every_rule rule.Pass = passing_kept
every_rule rule.Base = bases_kept
every_rule rule.Bases = bases_agreed
every_rule rule.Place = places_kept
every_rule rule.Entry = entries_kept
every_rule rule.Fits = fits_kept
every_rule rule.Tally = tallies_kept
every_rule rule.Honest = votes_kept
every_rule rule.Once = requests_kept
every_rule rule.Heard = hearing_kept
every_rule rule.Cast = casts_kept

none_broken : (l : Line) (ls : List Line) → ((r : Rule) → holds r l ls ≡ true) → (rs : List Rule) → first_broken rs l ls ≡ None
unfolding first_broken
none_broken l ls k [] = refl
none_broken l ls k (r ∷ rs) = ap (λ t. elim t [ true ↦ first_broken rs l ls | false ↦ Some r ]) (k r) ∙ none_broken l ls k rs

lines_length : (rs : List Happened) → length (lines rs) ≡ length rs
unfolding lines
lines_length [] = refl
lines_length (r ∷ rs) = let k : length (lines rs) ≡ length rs = lines_length rs in omega arith

pub lines_are_seen : LinesAreSeen
unfolding lines verdict_of verdict_at broken_in
lines_are_seen [] k = refl
lines_are_seen (r ∷ rs) k =
    let old : verdict_of (lines rs) ≡ Seen (length rs) = lines_are_seen rs (older r rs k) in
    let none : first_broken (rules_of (shown r)) (shown r) (lines rs) ≡ None = none_broken (shown r) (lines rs) (λ x. every_rule x r rs k) (rules_of (shown r)) in
    let count : length (lines rs) + 1 ≡ length (r ∷ rs) = (let e : length (lines rs) ≡ length rs = lines_length rs in omega arith) in
    ap (λ (v : Verdict). elim v [ Broken x i j ↦ Broken x i j | Seen i ↦ verdict_at (shown r) (lines rs) (broken_in (shown r) (lines rs)) ]) old
    ∙ (ap (verdict_at (shown r) (lines rs)) none ∙ ap (λ i. Seen i) count)
