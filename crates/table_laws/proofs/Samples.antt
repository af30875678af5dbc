-- The map of each place of the worked row, and whose join found nobody.
use Rattle.std.proofs.Common.{refl, ◌≡◌, inl, inr, ℕ, true, false, [], codes, ap, arith}
use Rattle.rsct_packet.specs.Fields.{bytes_text, u16_text}
use Rattle.proposal_core.specs.Fold.{fold_opens}
use Rattle.node_state.specs.declared.happened.Happened.{Happened}
use Rattle.node_state.specs.declared.happened.Happened.TheVariants.{Base}
use Rattle.client_callbacks.specs.Handed.{NoticeView}
use Rattle.session_clients.specs.Notices.{notice_to}
use Rattle.agreed_table.specs.Pairs.{written, encoding}
use Rattle.table_client.specs.Rules.{fresh_copy, copy_after, rules_open}
use Rattle.table_laws.specs.Firsts.{joined_first, HasWholeCopy}
use Rattle.table_laws.specs.Maps.{HasNoBase, MapIs, Fresh, Based, Then}
use Rattle.table_laws.specs.Samples.{view_at, first, db, joins, says, leaves, joined, row, one_pair, both_pairs, first_log, second, second_log}

abbrev number_in : Happened → ℕ
number_in (Base n v g u len s) = v.number
number_in _ = 0

one_is_not_two : (a b : ℕ) → a ≡ 1 → b ≡ 2 → a ≡ b → ⊥
one_is_not_two a b one two e = omega arith

none_in_first : HasNoBase row db (view_at 1)
none_in_first n u len s (inl e) = absurd (cc)
none_in_first n u len s (inr (inl e)) = absurd (cc)
none_in_first n u len s (inr (inr (inl e))) = absurd (one_is_not_two 1 2 refl refl (ap number_in e))
none_in_first n u len s (inr (inr (inr (inl e)))) = absurd (cc)
none_in_first n u len s (inr (inr (inr (inr (inl e))))) = absurd (cc)
none_in_first n u len s (inr (inr (inr (inr (inr e))))) = absurd e

at_first : MapIs row db (view_at 1) 0 []
at_first = Fresh (view_at 1) 0 [] refl refl none_in_first

after_join : MapIs row db (view_at 1) 1 []
unfolding fold_opens written
after_join = Then (view_at 1) 1 [] 1 0 joins [] refl refl (inr (inr (inr (inr (inl refl))))) at_first

after_write : MapIs row db (view_at 1) 2 one_pair
unfolding fold_opens written encoding bytes_text u16_text
after_write = Then (view_at 1) 2 one_pair 1 1 (says 2 (codes "x=1")) [] refl refl (inr (inr (inr (inl refl)))) after_join

-- the second view begins with the map at the base's length
in_second : MapIs row db (view_at 2) 0 one_pair
in_second = Based (view_at 2) 0 one_pair 1 (view_at 1) 2 joined refl (inr (inr (inl refl))) after_write

pub after_both : MapIs row db (view_at 2) 1 both_pairs
unfolding fold_opens written encoding bytes_text u16_text
after_both = Then (view_at 2) 1 both_pairs 1 0 (says 3 (codes "y=2")) one_pair refl refl (inr (inl refl)) in_second

-- and as the last member leaves it is empty
pub after_leave : MapIs row db (view_at 2) 2 []
unfolding fold_opens written
after_leave = Then (view_at 2) 2 [] 1 1 leaves both_pairs refl refl (inl refl) after_both

-- ---- whose join found nobody

pub first_found_nobody : joined_first first first_log ≡ true
first_found_nobody = refl

pub first_is_whole : HasWholeCopy first first_log
unfolding rules_open
first_is_whole = let n : NoticeView = notice_to (view_at 1) db 0 joins joined first in (copy_after n (fresh_copy n), [], refl, refl)

pub second_found_somebody : joined_first second second_log ≡ false
second_found_somebody = refl
