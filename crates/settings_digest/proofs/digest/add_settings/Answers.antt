-- What a line adds, and that `begin` ends them.
use Rattle.std.proofs.Common.{◌≡◌, List, ℕ, Bool, true, false, [], ◌∷◌, ◌++◌, refl, sym, ◌∙◌, subst, rules}
use Rattle.value_words.specs.Words.{split_on}
use Rattle.settings_digest.specs.Digest.{is_begin, normal_line, normal_settings}
use Rattle.settings_digest.proofs.DigestLaws.{AddsFront, adds_more, adds_all, at_begin, line_taken, last_taken}
use Rattle.settings_digest.proofs.digest.add_settings.Goals as goal

pub returns-then-is_begin : goal.returns-then-is_begin
returns-then-is_begin c =
    let begins : is_begin c.in-Some.line.now ≡ true = search rules in
    adds_all c.args.hasher.now c.loop-line.hasher (normal_settings c.args.settings.now) (normal_settings c.loop-line.left.now) c.loop-line.invariant
    (at_begin c.loop-line.left.now c.in-Some.line.now (split_on 10 c.in-Some.after.now) c.in-Some.ensures.found begins)

pub loop-line-preserved : goal.loop-line-preserved
loop-line-preserved c =
    let goes_on : is_begin c.in-Some.line.now ≡ false = search rules in
    let whole : List ℕ = normal_settings c.args.settings.now in
    adds_more c.args.hasher.now c.loop-line.hasher c.add_line.new.hasher whole (normal_line c.in-Some.line.now) (normal_settings c.in-Some.after.now)
    (subst (λ (rest : List ℕ). AddsFront c.args.hasher.now c.loop-line.hasher whole rest) (line_taken c.loop-line.left.now c.in-Some.line.now c.in-Some.after.now c.in-Some.ensures.found goes_on) c.loop-line.invariant)
    c.add_line.ensures

pub returns-then-not-is_begin : goal.returns-then-not-is_begin
returns-then-not-is_begin c =
    let last : split_on 10 c.loop-line.left.now ≡ c.loop-line.left.now ∷ [] = search rules in
    let goes_on : is_begin c.loop-line.left.now ≡ false = search rules in
    let whole : List ℕ = normal_settings c.args.settings.now in
    adds_all c.args.hasher.now c.add_line-then-not-is_begin.new.hasher whole []
    (adds_more c.args.hasher.now c.loop-line.hasher c.add_line-then-not-is_begin.new.hasher whole (normal_line c.loop-line.left.now) []
    (subst (λ (rest : List ℕ). AddsFront c.args.hasher.now c.loop-line.hasher whole rest) (last_taken c.loop-line.left.now last goes_on) c.loop-line.invariant)
    c.add_line-then-not-is_begin.ensures) refl

pub returns-else-not-is_begin : goal.returns-else-not-is_begin
returns-else-not-is_begin c =
    let last : split_on 10 c.loop-line.left.now ≡ c.loop-line.left.now ∷ [] = search rules in
    let begins : is_begin c.loop-line.left.now ≡ true = search rules in
    adds_all c.args.hasher.now c.loop-line.hasher (normal_settings c.args.settings.now) (normal_settings c.loop-line.left.now) c.loop-line.invariant
    (at_begin c.loop-line.left.now c.loop-line.left.now [] last begins)
