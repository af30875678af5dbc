-- What the table says of the rule on nodes that enter views, by what is kept.
use Rattle.std.proofs.Common.{◌≡◌, ℕ, Bool, true, false, List, Option, Some, None, sym, ◌∙◌, ap}
use Rattle.std.specs.Prelude.{if◌then◌else◌}
use Rattle.rsct_packet.specs.declared.ids.Member.{Member}
use Rattle.rsct_packet.specs.declared.ids.ViewId.{ViewId}
use Rattle.record_lines.specs.declared.line.Line.{Line}
use Rattle.record_lines.specs.declared.line.Line.TheVariants as line
use Rattle.run_audit.specs.declared.broken.Rule.TheVariants as rule
use Rattle.run_audit.specs.Kept.{fault_of}
use Rattle.run_audit.specs.Past.{first_no, inc_of, members_of, view_of}
use Rattle.run_audit.specs.Table.{in_holds, is_in_of, holds, with_of}
use Rattle.run_audit.specs.Views.{in_keeps}

module _ (n : ℕ) (v : ViewId) (ms : List Member) (old : Option ViewId) (inc : Option ℕ) (first : Option (List Member)) (b : Bool) (ls : List Line) (kept : b ≡ in_keeps old inc first n v ms) (at : old ≡ view_of n ls) (up : inc ≡ inc_of n ls) (like : first ≡ members_of v ls) where
  holds_so : holds rule.In (line.In n v ms) ls ≡ b
  unfolding holds in_holds in_keeps
  holds_so = (λ i. in_keeps (sym at i) (sym up i) (sym like i) n v ms) ∙ sym kept

  pub in_kept : b ≡ true → None ≡ fault_of rule.In (line.In n v ms) ls
  in_kept it_is = sym (ap (λ t. if t then None else Some (record { rule = rule.In; with_line = with_of rule.In (line.In n v ms) ls })) (holds_so ∙ it_is))

  pub in_broken : (with_line : Option ℕ) → b ≡ false → with_line ≡ first_no (is_in_of v) ls → Some (record { rule = rule.In; with_line = with_line }) ≡ fault_of rule.In (line.In n v ms) ls
  unfolding with_of
  in_broken with_line not_so e =
      ap (λ z. Some (record { rule = rule.In; with_line = z })) e ∙ sym (ap (λ t. if t then None else Some (record { rule = rule.In; with_line = first_no (is_in_of v) ls })) (holds_so ∙ not_so))
