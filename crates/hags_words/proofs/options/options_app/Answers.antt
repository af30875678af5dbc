use Rattle.std.proofs.Common.{ap, ap₂, codes, true, ◌≡◌, ◌∙◌}
use Rattle.std.proofs.lemmas.Result.{IfOk-weaker}
use Rattle.clap.specs.Words.{App, app_of, with_rule, new_rule}
use Rattle.clap.specs.Simple.{app_of_fields}
use Rattle.clap.specs.declared.builder.command.Command.{Command}
use Rattle.clap.specs.declared.builder.command.Command.TheOpen.{Command-F}
use Rattle.hags_words.specs.App.{bare_app, option_rule}
use Rattle.hags_words.proofs.options.options_app.Goals as goal

pub returns : goal.returns
returns c =
    let bare : app_of c.disable_help_flag.result ≡ bare_app (codes "hags") =
    ap app_of_fields c.disable_help_flag.ensures
    ∙ (ap (λ (f : Command-F Command). app_of_fields (record f { disable_help_flag = true })) c.no_binary_name.ensures
    ∙ ap (λ (a : App). record a { top = record a.top { no_binary_name = true; disable_help_flag = true } }) c.new.ensures.app) in
    let a1 : app_of c.in_ok-arg.field-0 ≡ with_rule (bare_app (codes "hags")) (new_rule (codes "operand")) =
    c.in_ok-arg.ensures.shape c.new-operand.ensures.optional.1 ∙ ap₂ with_rule bare c.new-operand.ensures.rule in
    let a2 : app_of c.in_ok-arg-2.field-0 ≡ with_rule (with_rule (bare_app (codes "hags")) (new_rule (codes "operand"))) (option_rule (codes "kinds")) =
    c.in_ok-arg-2.ensures.shape c.option_of-kinds.ensures.own ∙ ap₂ with_rule a1 c.option_of-kinds.ensures.rule in
    let a3 : app_of c.in_ok-arg-3.field-0 ≡ with_rule (with_rule (with_rule (bare_app (codes "hags")) (new_rule (codes "operand"))) (option_rule (codes "kinds"))) (option_rule (codes "node")) =
    c.in_ok-arg-3.ensures.shape c.option_of-node.ensures.own ∙ ap₂ with_rule a2 c.option_of-node.ensures.rule in
    let a4 : app_of c.in_ok-arg-4.field-0 ≡ with_rule (with_rule (with_rule (with_rule (bare_app (codes "hags")) (new_rule (codes "operand"))) (option_rule (codes "kinds"))) (option_rule (codes "node"))) (option_rule (codes "inc")) =
    c.in_ok-arg-4.ensures.shape c.option_of-inc.ensures.own ∙ ap₂ with_rule a3 c.option_of-inc.ensures.rule in
    let a5 : app_of c.in_ok-arg-5.field-0 ≡ with_rule (with_rule (with_rule (with_rule (with_rule (bare_app (codes "hags")) (new_rule (codes "operand"))) (option_rule (codes "kinds"))) (option_rule (codes "node"))) (option_rule (codes "inc"))) (option_rule (codes "turns")) =
    c.in_ok-arg-5.ensures.shape c.option_of-turns.ensures.own ∙ ap₂ with_rule a4 c.option_of-turns.ensures.rule in
    let a6 : app_of c.in_ok-arg-6.field-0 ≡ with_rule (with_rule (with_rule (with_rule (with_rule (with_rule (bare_app (codes "hags")) (new_rule (codes "operand"))) (option_rule (codes "kinds"))) (option_rule (codes "node"))) (option_rule (codes "inc"))) (option_rule (codes "turns"))) (option_rule (codes "key")) =
    c.in_ok-arg-6.ensures.shape c.option_of-key.ensures.own ∙ ap₂ with_rule a5 c.option_of-key.ensures.rule in
    let a7 : app_of c.in_ok-arg-7.field-0 ≡ with_rule (with_rule (with_rule (with_rule (with_rule (with_rule (with_rule (bare_app (codes "hags")) (new_rule (codes "operand"))) (option_rule (codes "kinds"))) (option_rule (codes "node"))) (option_rule (codes "inc"))) (option_rule (codes "turns"))) (option_rule (codes "key"))) (option_rule (codes "silence")) =
    c.in_ok-arg-7.ensures.shape c.option_of-silence.ensures.own ∙ ap₂ with_rule a6 c.option_of-silence.ensures.rule in
    let a8 : app_of c.in_ok-arg-8.field-0 ≡ with_rule (with_rule (with_rule (with_rule (with_rule (with_rule (with_rule (with_rule (bare_app (codes "hags")) (new_rule (codes "operand"))) (option_rule (codes "kinds"))) (option_rule (codes "node"))) (option_rule (codes "inc"))) (option_rule (codes "turns"))) (option_rule (codes "key"))) (option_rule (codes "silence"))) (option_rule (codes "mend")) =
    c.in_ok-arg-8.ensures.shape c.option_of-mend.ensures.own ∙ ap₂ with_rule a7 c.option_of-mend.ensures.rule in
    IfOk-weaker c.arg-9.result _ _ (λ r h. h.shape c.option_of-gap.ensures.own ∙ ap₂ with_rule a8 c.option_of-gap.ensures.rule) c.arg-9.ensures
