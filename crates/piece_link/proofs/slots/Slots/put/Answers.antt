use Rattle.std.proofs.Common.{refl, arith}
use Rattle.piece_link.proofs.PageLaws.{slot_in_page, page_put, slot_put, slot_kept}
use Rattle.piece_link.proofs.slots.Slots.put.Goals as goal

pub index_mut-requires : goal.index_mut-requires
index_mut-requires c = omega (arith, slot_in_page c.args.self.now c.index_mut-page.result.now c.args.index c.requires c.index_mut-page.ensures.value)

pub returns-clause-put : goal.returns-clause-put
returns-clause-put c = slot_put c.args.self.now _ _ c.args.index c.args.place c.requires refl (page_put c.args.self.now c.index_mut-page.result.now c.args.index c.args.place c.requires c.index_mut-page.ensures.value)

pub returns-clause-others : goal.returns-clause-others
returns-clause-others c = λ i ne. slot_kept c.args.self.now _ _ c.args.index c.args.place i c.requires refl (page_put c.args.self.now c.index_mut-page.result.now c.args.index c.args.place c.requires c.index_mut-page.ensures.value) ne
