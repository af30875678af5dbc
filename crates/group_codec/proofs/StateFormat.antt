-- What is read as a group state is spelled so, and what is spelled so is read.
use Rattle.std.proofs.Common.{◌≡◌, ℕ, ◌-◌, ◌≤◌, List, length, take, Some, refl, ap, ◌∙◌, arith, length-append}
use Rattle.std.specs.Prelude.{IsTrue, nat_le}
use Rattle.std.proofs.lemmas.Bool.{leb-true, le-leb}
use Rattle.std.proofs.lemmas.List.{take_at}
use Rattle.rsct_packet.specs.Format.{IsFormat, IsBytes}
use Rattle.rsct_packet.proofs.FormatLaws.{both_format, made_format, guarded_format, fits_format, optional_format, u16_format}
use Rattle.rsct_packet.proofs.FieldLaws.{and_true, both_true, bytes_format, proto_format, providers_format}
use Rattle.group_codec.proofs.AttrFormat.{attrs_format}
use Rattle.proposal_core.specs.declared.group_state.GroupState.{GroupState}
use Rattle.proposal_core.specs.Fold.{joiners_fit}
use Rattle.group_codec.proofs.ProposalFormat.{proposal_format}
use Rattle.proposal_core.specs.StateCodec.{is_phase, running_of_parts, running_at, running_text, IsRunning, failed_are_present, is_sound, state_of_parts, parts_at, state_at, state_text, IsState}
use Rattle.group_codec.specs.InPlace.{IsRead}

phase_passes : (n : ℕ) → IsTrue (is_phase n) → (1 ≤ n) × (n ≤ 200)
phase_passes n h = let p = and_true (nat_le 1 n) (nat_le n 200) h in (leb-true 1 n p.0, leb-true n 200 p.1)

passes_phase : (n : ℕ) → 1 ≤ n → n ≤ 200 → IsTrue (is_phase n)
passes_phase n low high = both_true (nat_le 1 n) (nat_le n 200) (le-leb 1 n low) (le-leb n 200 high)

running_format : IsFormat running_at running_text IsRunning
unfolding running_at running_text
running_format =
    fits_format IsRunning
    (λ r h. let p = phase_passes r.phase h.1.0.1 in record { proto = h.0; begun = p.0; phase = p.1; proposal = h.1.1.0; proposed = h.1.1.1 })
    (λ r h. let le : r.phase ≤ 200 = h.phase in (h.proto, ((omega arith, passes_phase r.phase h.begun h.phase), (h.proposal, h.proposed))))
    (made_format running_of_parts (λ r. (r.proto, (r.phase, (r.proposal, r.proposed))))
    (λ a. refl)
    (λ b. refl)
    (both_format proto_format (both_format (guarded_format is_phase u16_format) (both_format proposal_format (optional_format bytes_format)))))

pub state_format : IsFormat state_at state_text IsState
unfolding state_at parts_at state_text
state_format =
    fits_format IsState
    (λ s h.
    let p = and_true (joiners_fit s) (failed_are_present s) h.1 in
    record {
      members = h.0.0;
      value = h.0.1.0;
      attrs = h.0.1.1.0;
      failed = h.0.1.1.1.0;
      value_at = h.0.1.1.1.1.0;
      reflected_at = h.0.1.1.1.1.1.0;
      running = h.0.1.1.1.1.1.1;
      joiners = p.0;
      present = p.1;
    })
    (λ s h.
    ((h.members, (h.value, (h.attrs, (h.failed, (h.value_at, (h.reflected_at, h.running)))))), both_true (joiners_fit s) (failed_are_present s) h.joiners h.present))
    (guarded_format is_sound
    (made_format state_of_parts (λ s. (s.members, (s.value, (s.attrs, (s.failed, (s.value_at, (s.reflected_at, s.running)))))))
    (λ a. refl)
    (λ b. refl)
    (both_format providers_format (both_format bytes_format (both_format attrs_format (both_format providers_format (both_format (optional_format proto_format) (both_format (optional_format proto_format) (optional_format running_format)))))))))

pub state_is_read : (bytes rest : List ℕ) (s : GroupState) → IsBytes bytes → state_at bytes ≡ Some (s, rest) → IsRead s (take (length bytes - length rest) bytes)
state_is_read bytes rest s h e =
    let p = state_format.found bytes (s, rest) h e in
    let n : length (state_text s) ≡ length bytes - length rest = omega (arith, ap (λ (b : List ℕ). length b) p.0.parts, length-append (state_text s) rest) in
    record {
      state = p.1;
      spelled = ap (λ (b : List ℕ). take (length bytes - length rest) b) p.0.parts ∙ take_at (state_text s) rest (length bytes - length rest) n;
    }

pub sound_is_read : (bytes rest : List ℕ) (s : GroupState) → IsBytes bytes → Some (s, rest) ≡ parts_at bytes → IsTrue (is_sound s) → IsRead s (take (length bytes - length rest) bytes)
unfolding state_at
sound_is_read bytes rest s h e sound =
    let is : state_at bytes ≡ Some (s, rest) = rw (← e) (rw sound refl) in
    state_is_read bytes rest s h is
