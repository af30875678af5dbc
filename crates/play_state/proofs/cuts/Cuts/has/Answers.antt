use Rattle.std.proofs.Common.{ap, ◌∙◌}
use Rattle.std.specs.List.{list_any}
use Rattle.world_model.specs.Play.{is_cut_of}
use Rattle.play_state.specs.Cuts.{cut_in}
use Rattle.play_state.proofs.CutLaws.{any_in}
use Rattle.play_state.proofs.cuts.Cuts.has.Goals as goal

pub returns : goal.returns
returns c =
    c.is_among.ensures ∙ (ap (list_any (λ x. is_cut_of c.args.first c.args.second c.args.network (cut_in x))) c.as_slice.ensures.value
    ∙ (any_in (is_cut_of c.args.first c.args.second c.args.network) c.self.inside.rows.items ∙ ap (list_any (is_cut_of c.args.first c.args.second c.args.network)) c.self.view_is))
