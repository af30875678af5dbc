use Rattle.std.proofs.Common.{◌≡◌, List, map, sym, ◌∙◌, ap, subst}
use Rattle.std.specs.Prelude.{OnOk}
use Rattle.std.specs.List.{list_any}
use Rattle.std.specs.Map.{lookup}
use Rattle.rsct_packet.specs.declared.ids.ProviderId.{ProviderId}
use Rattle.run_audit.specs.declared.keys.RequestKey.{RequestKey}
use Rattle.run_audit.specs.Keys.{same_request_key}
use Rattle.run_audit.specs.Requests.{begins, or_number}
use Rattle.run_audit.specs.Table.{requests_of}
use Rattle.run_audit.proofs.RequestLaws.{none_begins}
use Rattle.run_audit.proofs.requests.note_proposal.Goals as goal

pub returns-in-Join : goal.returns-in-Join
unfolding requests_of
returns-in-Join c =
    let joins : requests_of c.args.proposal.now ≡ map (λ (p : ProviderId). (p, p.join)) c.as_slice.result.now = ap requests_of c.in-Join.is ∙ sym (ap (λ (ps : List ProviderId). map (λ (p : ProviderId). (p, p.join)) ps) c.as_slice.ensures.value) in
    subst (λ xs. OnOk c.note_joins.result ((q : RequestKey) → lookup (same_request_key q) c.note_joins.new.begun ≡ or_number (list_any (begins c.args.node q) xs) c.args.number (lookup (same_request_key q) c.args.begun.now))) (sym joins)
    c.note_joins.ensures

pub returns-in-Fail : goal.returns-in-Fail
unfolding requests_of
returns-in-Fail c = λ q. none_begins c.args.node c.args.number (requests_of c.args.proposal.now) q c.args.begun.now (ap requests_of c.in-Fail.is)

pub returns-in-Reflect : goal.returns-in-Reflect
unfolding requests_of
returns-in-Reflect c = λ q. none_begins c.args.node c.args.number (requests_of c.args.proposal.now) q c.args.begun.now (ap requests_of c.in-Reflect.is)
