use Rattle.std.proofs.Common.{◌≡◌, sym, ap, ◌∙◌, Some}
use Rattle.std.specs.Option.{option_map}
use Rattle.node_state.specs.declared.packet.Body.TheVariants as body
use Rattle.node_state.specs.Bodies.{body_at}
use Rattle.packet_codec.proofs.WholeLaws.{entry_end}
use Rattle.packet_codec.proofs.groups.entry_body.Goals as goal

pub returns : goal.returns
unfolding body_at
returns c =
    sym (entry_end c.in_ok-group.group c.in_ok-place.place c.in_ok-stable.stable c.args.bytes.now c.in_ok-group.bytes.now c.in_ok-place.bytes.now c.in_ok-stable.bytes.now (sym c.in_ok-group.ensures.value) (sym c.in_ok-place.ensures.value) (sym c.in_ok-stable.ensures.value)
    ∙ ap (option_map (λ e. body.Entry c.in_ok-group.group.view c.in_ok-group.group.name c.in_ok-place.place c.in_ok-stable.stable e)) (sym c.in_ok-entry.ensures.value))
