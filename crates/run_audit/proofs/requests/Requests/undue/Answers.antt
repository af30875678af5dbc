use Rattle.std.proofs.Common.{◌≡◌, List, map, sym, subst}
use Rattle.std.specs.Prelude.{find, Some, IfOk}
use Rattle.rsct_packet.specs.declared.ids.ProviderId.{ProviderId}
use Rattle.word_laws.specs.declared.kind.Kind.TheVariants as kinds
use Rattle.word_laws.specs.Entries.{kind_of}
use Rattle.record_lines.specs.declared.line.Line.{Line}
use Rattle.run_audit.specs.Requests.{AreRequests}
use Rattle.run_audit.specs.Table.{is_undue, requests_of, undue_in}
use Rattle.run_audit.proofs.requests.Requests.undue.Goals as goal

pub returns-in-Join : goal.returns-in-Join
unfolding undue_in requests_of kind_of
returns-in-Join c =
    subst (λ y. IfOk c.undue_join.result (λ x. (ls : List Line) → AreRequests ls c.args.self.now → x ≡ undue_in c.args.node c.args.group.now ls (Some y))) (sym c.in-Join.is)
    (subst (λ (ps : List ProviderId). IfOk c.undue_join.result (λ x. (ls : List Line) → AreRequests ls c.args.self.now → x ≡ find (is_undue c.args.node c.args.group.now kinds.Join ls) (map (λ (p : ProviderId). (p, p.join)) ps))) c.as_slice.ensures.value
    c.undue_join.ensures)
