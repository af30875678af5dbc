-- What is read as a failure is spelled so, and what is spelled so is read.
use Rattle.std.proofs.Common.{◌≡◌, ℕ, ◌<◌, Some, refl, arith, eqb-true}
use Rattle.rsct_packet.specs.Format.{IsFormat}
use Rattle.rsct_packet.specs.Fields.{u8_text}
use Rattle.rsct_packet.proofs.FormatLaws.{both_format, made_format, decoded_format, fits_format, u8_format}
use Rattle.rsct_packet.proofs.FieldLaws.{provider_format}
use Rattle.group_attr.proofs.Chosen.{chosen, not_chosen}
use Rattle.proposal_core.specs.declared.proposal.Cause.{Cause}
use Rattle.proposal_core.specs.declared.proposal.Cause.TheVariants.{Died, Gone, Cast}
use Rattle.proposal_core.specs.ProposalCodec.{cause_number, cause_of, cause_at, failure_of_parts, failure_at, failure_text, IsFailure}

cause_back : (k : ℕ) (y : Cause) → cause_of k ≡ Some y → cause_number y ≡ k
cause_back k y =
    chosen cause_number 1 k Died y _ _ (eqb-true k 1) refl
    (chosen cause_number 2 k Gone y _ _ (eqb-true k 2) refl (chosen cause_number 3 k Cast y _ _ (eqb-true k 3) refl (not_chosen y)))

cause_forth : (y : Cause) → cause_of (cause_number y) ≡ Some y
cause_forth Died = refl
cause_forth Gone = refl
cause_forth Cast = refl

cause_small : (y : Cause) → cause_number y < 256
cause_small Died = omega arith
cause_small Gone = omega arith
cause_small Cast = omega arith

cause_format : IsFormat cause_at (λ c. u8_text (cause_number c)) (λ c. Unit {0})
unfolding cause_at
cause_format = fits_format (λ c. Unit {0}) (λ c h. tt) (λ c h. cause_small c) (decoded_format cause_of cause_number cause_back (λ y h. cause_forth y) u8_format)

pub failure_format : IsFormat failure_at failure_text IsFailure
failure_format = fits_format IsFailure (λ f h. h.0) (λ f h. (h, tt)) (made_format failure_of_parts (λ f. (f.provider, f.cause)) (λ a. refl) (λ b. refl) (both_format provider_format cause_format))
