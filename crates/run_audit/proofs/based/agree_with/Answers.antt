use Rattle.std.proofs.Common.{refl, sym, ◌∙◌, ap}
use Rattle.std.specs.Map.{lookup}
use Rattle.run_audit.specs.Based.{agree_in, groups_in, has_bases}
use Rattle.run_audit.specs.Keys.{same_stay_key, stay_key}
use Rattle.run_audit.proofs.BasedLaws.{agree_at}
use Rattle.run_audit.proofs.based.agree_with.Goals as goal

pub returns-in-None : goal.returns-in-None
unfolding agree_in
returns-in-None c = λ ls are. ap (λ o. agree_in c.args.node o ls) (sym c.in-None.is)

pub returns-in_ok-agree-in-Some : goal.returns-in_ok-agree-in-Some
unfolding agree_in
returns-in_ok-agree-in-Some c =
    λ ls are. c.in_ok-agree-in-Some.ensures
    ∙ agree_at c.args.node c.in-Some.other c.in-Some.view c.args.based.now ls (has_bases c.args.based.now.own c.in-Some.other c.in-Some.view (groups_in (lookup (same_stay_key (stay_key c.args.node c.in-Some.view)) c.args.based.now.groups)))
    (has_bases c.args.based.now.own c.args.node c.in-Some.view (groups_in (lookup (same_stay_key (stay_key c.in-Some.other c.in-Some.view)) c.args.based.now.groups))) refl refl are
    ∙ ap (λ o. agree_in c.args.node o ls) (sym c.in-Some.is)
