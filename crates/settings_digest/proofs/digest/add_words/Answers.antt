-- A blank and a word more.
use Rattle.std.proofs.Common.{List, ℕ, [], ◌∷◌, ◌++◌, flat_map, subst}
use Rattle.settings_digest.specs.Digest.{behind_blank}
use Rattle.settings_digest.proofs.DigestLaws.{AddsFront, adds_more}
use Rattle.settings_digest.proofs.digest.add_words.Goals as goal

pub loop-word-preserved : goal.loop-word-preserved
loop-word-preserved c =
    let whole : List ℕ = flat_map behind_blank c.args.words.now in
    let rest : List ℕ = flat_map behind_blank c.take.new.self in
    let start : AddsFront c.args.hasher.now c.loop-word.hasher whole (flat_map behind_blank (c.in-Some.word.now ∷ c.take.new.self)) =
    subst (λ (ws : List (List ℕ)). AddsFront c.args.hasher.now c.loop-word.hasher whole (flat_map behind_blank ws)) c.in-Some.ensures.found c.loop-word.invariant in
    let blank : AddsFront c.args.hasher.now c.update.new.self whole (c.in-Some.word.now ++ rest) =
    adds_more c.args.hasher.now c.loop-word.hasher c.update.new.self whole (32 ∷ []) (c.in-Some.word.now ++ rest) start c.update.ensures in
    adds_more c.args.hasher.now c.update.new.self c.update-in-Some.new.self whole c.in-Some.word.now rest blank c.update-in-Some.ensures
