-- What was read of the input stands for all of it.
use Rattle.std.proofs.Common.{sym, ◌∙◌, ap}
use Rattle.settings_digest.specs.Digest.{settings_digest}
use Rattle.world_model.specs.Settings.{daemon_script}
use Rattle.hags_cli.proofs.SettingsLaws.{digest_is, settings_have}
use Rattle.hags_cli.proofs.settings.read_settings.Goals as goal

pub returns-clause-digest : goal.returns-clause-digest
returns-clause-digest g c =
    digest_is (g.S.Source.left c.args.input.now) c.in_ok-front.front.items _ c.args.node c.args.objects _ c.in_ok-front.ensures.whole
    (ap (daemon_script c.args.node c.args.objects) (sym c.as_slice.ensures.value) ∙ c.in_ok-script.ensures.read)
    (c.settings_digest-digest.ensures ∙ ap settings_digest c.as_slice-2.ensures.value)

pub returns-clause-read : goal.returns-clause-read
returns-clause-read g c =
    settings_have (g.S.Source.left c.args.input.now) c.in_ok-front.front.items c.args.node c.args.objects _ c.in_ok-front.ensures.front
    (ap (daemon_script c.args.node c.args.objects) (sym c.as_slice.ensures.value) ∙ c.in_ok-script.ensures.read)
