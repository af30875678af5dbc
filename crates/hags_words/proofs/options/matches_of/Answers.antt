use Rattle.std.specs.Prelude.{string_bytes}
use Rattle.std.proofs.Common.{◌∙◌, ap, subst, map}
use Rattle.std.proofs.lemmas.Result.{IfErr-weaker, IfOk-weaker}
use Rattle.clap.specs.Words.{App, found_of, matches_of}
use Rattle.clap.specs.Kinds.{FailsBy}
use Rattle.clap.specs.Faults.{fault_of}
use Rattle.hags_words.specs.App.{options_app}
use Rattle.hags_words.proofs.ClapLaws.{err_some_fault, ok_no_faults, simple_words, simple_only}
use Rattle.hags_words.proofs.OptionLaws.{given_where_ok, not_given_where_err, given_values}
use Rattle.hags_words.proofs.options.matches_of.Goals as goal

pub returns-clause-ok : goal.returns-clause-ok
returns-clause-ok c =
    let words = map string_bytes c.args.words.now in
    let app_is = c.in_ok-app.ensures in
    let parse = c.try_get_matches_from in
    let fails : FailsBy (fault_of options_app words) parse.result = subst (λ (a : App). FailsBy (fault_of a words) parse.result) app_is (parse.ensures.kinds (simple_words _ app_is)) in
    IfOk-weaker parse.result _ _ (λ m h. given_where_ok words c.requires h) (ok_no_faults parse.result _ fails)

pub returns-clause-err : goal.returns-clause-err
returns-clause-err c =
    let words = map string_bytes c.args.words.now in
    let app_is = c.in_ok-app.ensures in
    let parse = c.try_get_matches_from in
    let fails : FailsBy (fault_of options_app words) parse.result = subst (λ (a : App). FailsBy (fault_of a words) parse.result) app_is (parse.ensures.kinds (simple_words _ app_is)) in
    IfErr-weaker parse.result _ _ (λ e h not_memory. not_given_where_err words c.requires (h not_memory)) (err_some_fault parse.result _ fails)

pub returns-clause-values : goal.returns-clause-values
returns-clause-values c =
    let words = map string_bytes c.args.words.now in
    let app_is = c.in_ok-app.ensures in
    let parse = c.try_get_matches_from in
    IfOk-weaker parse.result _ _ (λ m h. given_values words (found_of m) c.requires ((h (simple_only _ app_is)).0 ∙ ap (λ (a : App). matches_of a words) app_is)) parse.ensures.matches
