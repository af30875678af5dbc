-- The order of views is an order.
use Rattle.std.proofs.Common.{◌≡◌, true, false, arith}
use Rattle.std.proofs.lemmas.Bool.Decides.{nat_tests}
use Rattle.rsct_packet.specs.declared.ids.ViewId.{ViewId}
use Rattle.rsct_packet.specs.Ids.{same_view, view_lt}

pub not_before_itself : (a : ViewId) → view_lt a a ≡ false
not_before_itself a = grind (arith, nat_tests)

pub not_before_and_after : (a b : ViewId) → view_lt a b ≡ true → view_lt b a ≡ false
not_before_and_after a b p = grind (arith, nat_tests)

pub before_trans : (a b c : ViewId) → view_lt a b ≡ true → view_lt b c ≡ true → view_lt a c ≡ true
before_trans a b c p q = grind (arith, nat_tests)

pub same_view_is : (a b : ViewId) → same_view a b ≡ true → a ≡ b
same_view_is a b e = grind (arith, nat_tests)
