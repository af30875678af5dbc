use Rattle.std.proofs.Common.{ap, map, not, ◌∙◌}
use Rattle.std.specs.List.{list_any}
use Rattle.world_model.specs.Play.{is_cut_of, networks_in, healed}
use Rattle.play_state.specs.Cuts.{cut_in}
use Rattle.play_state.proofs.CutLaws.{kept_in}
use Rattle.play_state.proofs.cuts.Cuts.heal.Goals as goal

pub returns : goal.returns
unfolding healed
returns c =
    ap (map cut_in) c.keep_others.ensures ∙ (kept_in cut_in (λ x. not (list_any (λ k. is_cut_of c.args.first c.args.second k x) (networks_in c.args.network))) c.self.inside.rows.items
    ∙ ap (λ cs. healed cs c.args.first c.args.second (networks_in c.args.network)) c.self.view_is)
