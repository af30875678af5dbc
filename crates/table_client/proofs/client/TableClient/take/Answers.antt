use Rattle.std.proofs.Common.{◌≡◌, ◌∙◌, ap, get_or, Some}
use Rattle.rsct_packet.specs.Search.{place_where}
use Rattle.client_callbacks.specs.Handed.{notice_of}
use Rattle.table_client.specs.Rules.{is_copy}
use Rattle.table_client.proofs.ClientLaws.{taken_is}
use Rattle.table_client.proofs.client.TableClient.take.Goals as goal

pub returns-in-Some-clause-taken : goal.returns-in-Some-clause-taken
returns-in-Some-clause-taken c =
    let at : Some c.in-Some.place ≡ place_where (is_copy c.args.notice.now.provider) c.args.self.now = c.in-Some.ensures.value ∙ ap (place_where (is_copy c.args.notice.now.provider)) (c.as_slice.ensures.value ∙ c.self.view_is) in
    taken_is (notice_of c.args.notice.now) c.args.self.now c.in-Some.place c.remove.result at (c.remove.ensures.value ∙ ap (λ xs. get_or xs c.in-Some.place c.remove.result) c.self.view_is)
