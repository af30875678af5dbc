use Rattle.std.proofs.Common.{◌∙◌}
use Rattle.std.specs.Prelude.{option_copied}
use Rattle.run_audit.specs.Places.{PlaceAt}
use Rattle.run_audit.proofs.PlaceLaws.{entry_kept, entry_broken}
use Rattle.run_audit.proofs.places.Places.fault.Goals as goal

pub returns-then-is_entry_there : goal.returns-then-is_entry_there
returns-then-is_entry_there c =
    λ ls n e places keep text.
    let p : PlaceAt = record { view = c.args.view; group = c.args.group.now; place = c.args.place } in
    entry_kept n c.args.view c.args.group.now c.args.place e c.args.text.now (option_copied c.in_ok-first.first) ls c.is_entry_there.result (c.in_ok-first.ensures ∙ places p) keep text c.is_entry_there.ensures c.if-is_entry_there.true

pub returns-else-is_entry_there : goal.returns-else-is_entry_there
returns-else-is_entry_there c =
    λ ls n e places keep text.
    let p : PlaceAt = record { view = c.args.view; group = c.args.group.now; place = c.args.place } in
    entry_broken n c.args.view c.args.group.now c.args.place e c.args.text.now (option_copied c.in_ok-first.first) ls c.is_entry_there.result c.line_of.result (c.in_ok-first.ensures ∙ places p) keep text c.is_entry_there.ensures c.if-is_entry_there.false
    c.line_of.ensures
