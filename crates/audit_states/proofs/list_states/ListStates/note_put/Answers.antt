use Rattle.std.proofs.Common.{◌≡◌, ℕ, ◌∷◌, true, sym, subst, ◌∙◌}
use Rattle.record_lines.specs.declared.line.Line.TheVariants as line
use Rattle.run_audit.specs.declared.broken.Rule.TheVariants as rule
use Rattle.audit_states.specs.States.{AreRowStates}
use Rattle.run_audit.specs.Table.{holds}
use Rattle.audit_states.proofs.StateLaws.{bases_put, begun_is}
use Rattle.audit_states.proofs.list_states.ListStates.note_put.Goals as goal

pub returns : goal.returns
returns c =
    λ ls are place. record {
      lists = c.in_ok-note.ensures ls c.args.node are.lists;
      bases = bases_put c.args.node c.args.view c.args.group.now c.args.place c.args.entry.now c.args.self.now.bases ls are.bases;
      rows =
          subst (λ (m : ℕ). AreRowStates (line.Put m c.args.view c.args.group.now c.args.place c.args.entry.now ∷ ls) c.note-2.new.self) c.in_ok-key.ensures.node
          (c.in_ok-note-2.ensures ls c.args.group.now are.rows c.in_ok-key.ensures.view c.in_ok-key.ensures.group (c.in_ok-base.ensures are.empty ∙ begun_is c.args.view c.args.group.now c.args.self.now.bases ls are.bases)
          (subst (λ (m : ℕ). holds rule.Place (line.Put m c.args.view c.args.group.now c.args.place c.args.entry.now) ls ≡ true) (sym c.in_ok-key.ensures.node) place));
      empty = are.empty;
    }
