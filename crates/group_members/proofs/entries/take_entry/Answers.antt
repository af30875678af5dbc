-- By the place of the entry, and whether it fits.
use Rattle.std.proofs.Common.{◌≡◌, refl, sym, ◌∙◌}
use Rattle.std.specs.Prelude.{nat_lt}
use Rattle.std.proofs.lemmas.Result.{on_ok_weaker}
use Rattle.node_state.specs.State.{len_of}
use Rattle.node_groups.proofs.KeepLaws.{keeps_itself}
use Rattle.entry_delivery.proofs.DoingLaws.{receive_nothing, does_as}
use Rattle.group_leading.proofs.RowLaws.{does_row, work_row}
use Rattle.group_members.proofs.EntryLaws.{elsewhere_keeps, entry_passed, entry_unfit, entry_fit}
use Rattle.group_members.proofs.entries.take_entry.Goals as goal

pub returns-then-placed-len_of-clause-work : goal.returns-then-placed-len_of-clause-work
returns-then-placed-len_of-clause-work g c =
    on_ok_weaker c.pass_over.result
    (work_row c.args.core.now c.pass_over.new.core _ c.args.clients.now.items c.requires.work (elsewhere_keeps c.args.core.now c.args.from c.args.placed.now.group.now c.args.placed.now.stable (nat_lt c.args.placed.now.place (len_of c.args.core.now c.args.placed.now.group.now))))
    c.pass_over.ensures

pub returns-then-placed-len_of-clause-does : goal.returns-then-placed-len_of-clause-does
returns-then-placed-len_of-clause-does g c =
    let len : c.len_of.result ≡ len_of c.args.core.now c.args.placed.now.group.now = rw c.bytes.ensures.value at c.len_of.ensures in
    on_ok_weaker c.pass_over.result
    (does_row _ _ (receive_nothing _ _) c.args.core.now c.pass_over.new.core _ _ (elsewhere_keeps c.args.core.now c.args.from c.args.placed.now.group.now c.args.placed.now.stable (nat_lt c.args.placed.now.place (len_of c.args.core.now c.args.placed.now.group.now)))
    (λ f. entry_passed f c.args.core.now c.args.from c.args.placed.now.group.now c.args.placed.now.place c.args.placed.now.stable c.args.placed.now.entry.now (λ q. c.if-placed-len_of.true (q ∙ sym len))))
    c.pass_over.ensures

pub returns-then-not-fits_at_end-clause-does : goal.returns-then-not-fits_at_end-clause-does
returns-then-not-fits_at_end-clause-does g c =
    let len : c.len_of.result ≡ len_of c.args.core.now c.args.placed.now.group.now = rw c.bytes.ensures.value at c.len_of.ensures in
    does_row _ _ (receive_nothing _ _) c.args.core.now c.args.core.now c.args.core.now _ (keeps_itself c.args.core.now)
    (λ f. entry_unfit f c.args.core.now c.args.from c.args.placed.now.group.now c.args.placed.now.place c.args.placed.now.stable c.args.placed.now.entry.now (c.if-placed-len_of.false ∙ len) (sym (rw c.bytes-2.ensures.value at c.if-not-fits_at_end.ensures))) refl

pub returns-clause-does : goal.returns-clause-does
returns-clause-does g c =
    let len : c.len_of.result ≡ len_of c.args.core.now c.args.placed.now.group.now = rw c.bytes.ensures.value at c.len_of.ensures in
    on_ok_weaker c.put_next.result
    (does_as _ _ c.args.core.now c.put_next.new.core _ _
    (λ f. entry_fit f c.args.core.now c.args.from c.args.placed.now.group.now c.args.placed.now.place c.args.placed.now.stable c.args.placed.now.entry.now (c.if-placed-len_of.false ∙ len) (sym (rw c.bytes-2.ensures.value at c.if-not-fits_at_end.ensures))))
    c.put_next.ensures.does
