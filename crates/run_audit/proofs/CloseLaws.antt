-- What the table says of an entry, by the state of its list.
use Rattle.std.proofs.Common.{◌≡◌, ℕ, Bool, true, false, List, Option, Some, None, sym, ◌∙◌, ap}
use Rattle.std.specs.Prelude.{if◌then◌else◌}
use Rattle.rsct_packet.specs.declared.ids.ViewId.{ViewId}
use Rattle.proposal_core.specs.declared.entry.Closed.{Closed}
use Rattle.proposal_core.specs.declared.entry.Entry.{Entry}
use Rattle.proposal_core.specs.declared.group_state.GroupState.{GroupState}
use Rattle.proposal_core.specs.Fold.{fits}
use Rattle.record_lines.specs.declared.line.Line.{Line}
use Rattle.record_lines.specs.declared.line.Line.TheVariants as line
use Rattle.run_audit.specs.declared.broken.Rule.TheVariants as rule
use Rattle.run_audit.specs.Kept.{fault_of}
use Rattle.run_audit.specs.Past.{last_no, state_of}
use Rattle.run_audit.specs.Table.{closed_in, holds, if_some, is_put_of, opening_no, tally_holds, with_of}

module _ (n : ℕ) (v : ViewId) (g : List ℕ) (i : ℕ) (e : Entry) (s : GroupState) (ls : List Line) (with_line : Option ℕ) where
  fits_is : s ≡ state_of n v g ls → with_line ≡ last_no (is_put_of n v g) ls → fault_of rule.Fits (line.Put n v g i e) ls ≡ (if fits s e then None else Some (record { rule = rule.Fits; with_line = with_line }))
  unfolding holds with_of
  fits_is is at = λ j. if fits (sym is j) e then None else Some (record { rule = rule.Fits; with_line = sym at j })

  pub entry_fits : (b : Bool) → b ≡ fits s e → b ≡ true → s ≡ state_of n v g ls → with_line ≡ last_no (is_put_of n v g) ls → None ≡ fault_of rule.Fits (line.Put n v g i e) ls
  entry_fits b so it_is is at = sym (fits_is is at ∙ ap (λ t. if t then None else Some (record { rule = rule.Fits; with_line = with_line })) (sym so ∙ it_is))

  pub entry_unfit : (b : Bool) → b ≡ fits s e → b ≡ false → s ≡ state_of n v g ls → with_line ≡ last_no (is_put_of n v g) ls → Some (record { rule = rule.Fits; with_line = with_line }) ≡ fault_of rule.Fits (line.Put n v g i e) ls
  entry_unfit b so no_so is at = sym (fits_is is at ∙ ap (λ t. if t then None else Some (record { rule = rule.Fits; with_line = with_line })) (sym so ∙ no_so))

  tally_is : (o : Option Closed) → o ≡ closed_in e → s ≡ state_of n v g ls → with_line ≡ opening_no n v g ls
      → fault_of rule.Tally (line.Put n v g i e) ls ≡ (if if_some o (tally_holds s e) then None else Some (record { rule = rule.Tally; with_line = with_line }))
  unfolding holds with_of
  tally_is o c is at = λ j. if if_some (sym c j) (tally_holds (sym is j) e) then None else Some (record { rule = rule.Tally; with_line = sym at j })

  pub closes_none : None ≡ closed_in e → s ≡ state_of n v g ls → with_line ≡ opening_no n v g ls → None ≡ fault_of rule.Tally (line.Put n v g i e) ls
  unfolding if_some
  closes_none c is at = sym (tally_is None c is at)

  pub closes_well : (c : Closed) (b : Bool) → Some c ≡ closed_in e → b ≡ tally_holds s e c → b ≡ true → s ≡ state_of n v g ls → with_line ≡ opening_no n v g ls → None ≡ fault_of rule.Tally (line.Put n v g i e) ls
  unfolding if_some
  closes_well c b at_c so it_is is at = sym (tally_is (Some c) at_c is at ∙ ap (λ t. if t then None else Some (record { rule = rule.Tally; with_line = with_line })) (sym so ∙ it_is))

  pub closes_ill : (c : Closed) (b : Bool) → Some c ≡ closed_in e → b ≡ tally_holds s e c → b ≡ false → s ≡ state_of n v g ls → with_line ≡ opening_no n v g ls → Some (record { rule = rule.Tally; with_line = with_line }) ≡ fault_of rule.Tally (line.Put n v g i e) ls
  unfolding if_some
  closes_ill c b at_c so no_so is at = sym (tally_is (Some c) at_c is at ∙ ap (λ t. if t then None else Some (record { rule = rule.Tally; with_line = with_line })) (sym so ∙ no_so))
