-- A node enters greater views, as a member of them in its incarnation, and all name the same members.
use Rattle.std.proofs.Common.{◌≡◌, ℕ, true, List, Option, Some, None, refl, sym, ◌∙◌, ap}
use Rattle.std.specs.Prelude.{◌&&◌}
use Rattle.rsct_packet.specs.declared.ids.Member.{Member}
use Rattle.rsct_packet.specs.declared.ids.ViewId.{ViewId}
use Rattle.rsct_packet.specs.Ids.{same_member, view_lt}
use Rattle.node_state.specs.declared.happened.Happened.{Happened}
use Rattle.node_state.specs.declared.happened.Happened.TheVariants as happened
use Rattle.run_safety.specs.ViewOrder.{is_before}
use Rattle.run_laws.specs.seen_runs.Seen.{Seen, SeenAt}
use Rattle.run_audit.specs.declared.broken.Rule.TheVariants as rule
use Rattle.run_audit.specs.Past.{inc_of, view_of, members_of}
use Rattle.run_audit.specs.Table.{all_same, if_some, is_above, is_own, in_holds, holds}
use Rattle.audit_laws.specs.Lines.{shown, lines}
use Rattle.audit_laws.specs.Records.{Keeps}
use Rattle.audit_laws.proofs.Nodes.{inc_is, view_was, members_were}
use Rattle.audit_laws.proofs.Tests.{both, all_equal, member_self}

-- from the view that it was in it goes up
pub goes_up : (n : ℕ) (v : ViewId) (ms : List Member) (rs : List Happened) → Seen rs → SeenAt rs (happened.In n v ms) → (u : ViewId) → view_of n (lines rs) ≡ Some u → view_lt u v ≡ true
unfolding is_before
goes_up n v ms rs s at u e = let w = view_was n u rs s e in at.rises u w.members w.there (w.inc ∙ sym at.started.1)

above : (n : ℕ) (v : ViewId) (ms : List Member) (rs : List Happened) → Seen rs → SeenAt rs (happened.In n v ms) → is_above (view_of n (lines rs)) v ≡ true
unfolding is_above
above n v ms rs s at = by (view_of n (lines rs)) refl
  where
    by : (o : Option ViewId) → view_of n (lines rs) ≡ o → is_above o v ≡ true
    by None e = refl
    by (Some u) e = goes_up n v ms rs s at u e

own : (n : ℕ) (v : ViewId) (ms : List Member) (rs : List Happened) → SeenAt rs (happened.In n v ms) → is_own (inc_of n (lines rs)) n ms ≡ true
unfolding is_own
own n v ms rs at = ap (λ o. is_own o n ms) (inc_is n rs at.started.0) ∙ at.among

same : (n : ℕ) (v : ViewId) (ms : List Member) (rs : List Happened) → SeenAt rs (happened.In n v ms) → if_some (members_of v (lines rs)) (all_same same_member ms) ≡ true
unfolding if_some
same n v ms rs at = by (members_of v (lines rs)) refl
  where
    by : (o : Option (List Member)) → members_of v (lines rs) ≡ o → if_some o (all_same same_member ms) ≡ true
    by None e = refl
    by (Some ns) e = let w = members_were v ns rs e in all_equal same_member member_self ms ns (sym (at.members w.node ns w.there))

pub entering_kept : Keeps rule.In
unfolding holds shown in_holds
entering_kept (happened.In n v ms) rs k =
    both (is_above (view_of n (lines rs)) v) (is_own (inc_of n (lines rs)) n ms && if_some (members_of v (lines rs)) (all_same same_member ms)) (above n v ms rs k.seen.1 k.seen.0)
    (both (is_own (inc_of n (lines rs)) n ms) (if_some (members_of v (lines rs)) (all_same same_member ms)) (own n v ms rs k.seen.0) (same n v ms rs k.seen.0))
entering_kept _ rs k = refl
