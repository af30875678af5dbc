-- What is read as a row is spelled so, and what is spelled so is read.
use Rattle.std.proofs.Common.{◌≡◌, ℕ, ◌<◌, Some, refl, arith, eqb-true}
use Rattle.rsct_packet.specs.Format.{IsFormat}
use Rattle.rsct_packet.specs.Fields.{u8_text}
use Rattle.rsct_packet.proofs.FormatLaws.{both_format, made_format, decoded_format, fits_format, u8_format}
use Rattle.rsct_packet.proofs.FieldLaws.{provider_format}
use Rattle.group_attr.proofs.Chosen.{chosen, not_chosen}
use Rattle.group_attr.specs.declared.attrs.DefaultVote.TheVariants as default_vote
use Rattle.proposal_core.specs.declared.entry.Vote.TheVariants as vote
use Rattle.proposal_core.specs.declared.entry.RowVote.{RowVote}
use Rattle.proposal_core.specs.declared.entry.RowVote.TheVariants as row_vote
use Rattle.proposal_core.specs.EntryCodec.{row_vote_number, row_vote_of, row_vote_at, row_of_parts, row_at, row_text, IsRow}

row_vote_back : (k : ℕ) (y : RowVote) → row_vote_of k ≡ Some y → row_vote_number y ≡ k
row_vote_back k y =
    chosen row_vote_number 1 k (row_vote.Cast vote.Approve) y _ _ (eqb-true k 1) refl
    (chosen row_vote_number 2 k (row_vote.Cast vote.Continue) y _ _ (eqb-true k 2) refl
    (chosen row_vote_number 3 k (row_vote.Cast vote.Reject) y _ _ (eqb-true k 3) refl
    (chosen row_vote_number 4 k (row_vote.Late default_vote.Approve) y _ _ (eqb-true k 4) refl
    (chosen row_vote_number 5 k (row_vote.Late default_vote.Reject) y _ _ (eqb-true k 5) refl
    (chosen row_vote_number 6 k (row_vote.Failed default_vote.Approve) y _ _ (eqb-true k 6) refl
    (chosen row_vote_number 7 k (row_vote.Failed default_vote.Reject) y _ _ (eqb-true k 7) refl (not_chosen y)))))))

row_vote_forth : (y : RowVote) → row_vote_of (row_vote_number y) ≡ Some y
row_vote_forth (row_vote.Cast vote.Approve) = refl
row_vote_forth (row_vote.Cast vote.Continue) = refl
row_vote_forth (row_vote.Cast vote.Reject) = refl
row_vote_forth (row_vote.Late default_vote.Approve) = refl
row_vote_forth (row_vote.Late default_vote.Reject) = refl
row_vote_forth (row_vote.Failed default_vote.Approve) = refl
row_vote_forth (row_vote.Failed default_vote.Reject) = refl

row_vote_small : (y : RowVote) → row_vote_number y < 256
row_vote_small (row_vote.Cast vote.Approve) = omega arith
row_vote_small (row_vote.Cast vote.Continue) = omega arith
row_vote_small (row_vote.Cast vote.Reject) = omega arith
row_vote_small (row_vote.Late default_vote.Approve) = omega arith
row_vote_small (row_vote.Late default_vote.Reject) = omega arith
row_vote_small (row_vote.Failed default_vote.Approve) = omega arith
row_vote_small (row_vote.Failed default_vote.Reject) = omega arith

row_vote_format : IsFormat row_vote_at (λ v. u8_text (row_vote_number v)) (λ v. Unit {0})
unfolding row_vote_at
row_vote_format = fits_format (λ v. Unit {0}) (λ v h. tt) (λ v h. row_vote_small v) (decoded_format row_vote_of row_vote_number row_vote_back (λ y h. row_vote_forth y) u8_format)

pub row_format : IsFormat row_at row_text IsRow
row_format = fits_format IsRow (λ r h. h.0) (λ r h. (h, tt)) (made_format row_of_parts (λ r. (r.provider, r.vote)) (λ a. refl) (λ b. refl) (both_format provider_format row_vote_format))
