-- What a client fills in is within the limits of a ballot.
use Rattle.std.proofs.Common.{◌≡◌, ℕ, ◌-◌, ◌*◌, ◌≤◌, Bool, true, false, cond, List, ◌++◌, length, take, drop, Option, Some, None, refl, sym, ap, ◌∙◌, arith, length-append}
use Rattle.std.specs.Prelude.{nat_lt}
use Rattle.std.proofs.lemmas.List.{length-take}
use Rattle.std.proofs.lemmas.Bool.Decides.{nat_tests}
use Rattle.rsct_packet.specs.Fields.{u16_text}
use Rattle.proposal_core.specs.declared.entry.Vote.{Vote}
use Rattle.client_callbacks.specs.declared.ballot.Filled.{Filled}
use Rattle.client_callbacks.specs.Ballots.{BallotView, new_ballot, filling, is_within, can_fill, filled_with}
use Rattle.client_callbacks.specs.Handed.{NoticeView, phase_in}
use Rattle.agreed_table.specs.Pairs.{Pairs, encoding}
use Rattle.agreed_table.specs.Chunks.{chunk_count, chunk_text, piece}
use Rattle.table_client.specs.Rules.{Copied, others_join, sharing, vote_for, filled_from}

u16_len : (n : ℕ) → length (u16_text n) ≡ 2
unfolding u16_text
u16_len n = refl

-- a chunk has at most 1,005 bytes
chunk_fits : (k : ℕ) (m : Pairs) → is_within 1024 (Some (chunk_text k m)) ≡ true
unfolding chunk_text piece
chunk_fits k m =
    let cut = length-take 1000 (drop (1000 * k) (encoding m)) in
    let a = length-append (u16_text k ++ u16_text (chunk_count m)) (take 1000 (drop (1000 * k) (encoding m))) in
    let b = length-append (u16_text k) (u16_text (chunk_count m)) in
    let c = u16_len k in
    let d = u16_len (chunk_count m) in
    let few : length (chunk_text k m) ≤ 1024 = omega (arith, cut, a, b, c, d) in
    grind (arith, nat_tests, few)

sharing_fits : (k : ℕ) (map : Option Pairs) → (is_within 1024 (sharing k map).message ≡ true) × ((sharing k map).value ≡ None)
sharing_fits k None = (refl, refl)
sharing_fits k (Some m) = by (nat_lt k (chunk_count m)) refl
  where
    by : (b : Bool) → nat_lt k (chunk_count m) ≡ b → (is_within 1024 (sharing k (Some m)).message ≡ true) × ((sharing k (Some m)).value ≡ None)
    by true is = rw is (chunk_fits k m, refl)
    by false is = rw is (refl, refl)

pub vote_fits : (n : NoticeView) (c : Copied) → (is_within 1024 (vote_for n c).message ≡ true) × ((vote_for n c).value ≡ None)
vote_fits n c = by (others_join n.provider n.after.running) refl
  where
    by : (b : Bool) → others_join n.provider n.after.running ≡ b → (is_within 1024 (vote_for n c).message ≡ true) × ((vote_for n c).value ≡ None)
    by true is = rw is (sharing_fits (phase_in n.after.running - 1) c.map)
    by false is = rw is (refl, refl)

-- a new ballot takes a vote with a message that is within its limit
filled_there : (level : ℕ) (v : Vote) (m : Option (List ℕ)) → is_within 1024 m ≡ true → (filled_with (new_ballot true level) (filling v None m)).filled ≡ Some (filling v None m)
unfolding filled_with can_fill
filled_there level v m fits = rw fits refl

-- a new ballot that is filled by the copy before a notice
pub filled_new : (old new : BallotView) (n : NoticeView) (c : Copied) (a : Filled) (v : Vote) (m : Option (List ℕ)) → old ≡ new_ballot n.votes old.level → n.votes ≡ true → a ≡ vote_for n c → v ≡ a.vote → m ≡ a.message → a.value ≡ None → new ≡ filled_with old (filling v None m) → new.filled ≡ filled_from n c
filled_new old new n c a v m fresh votes is vote message value filled =
    let same : filling v None m ≡ a = λ z. record { vote = vote z; value = sym value z; message = message z } in
    let fits : is_within 1024 m ≡ true = ap (is_within 1024) (message ∙ ap (λ (f : Filled). f.message) is) ∙ (vote_fits n c).0 in
    ap (λ (b : BallotView). b.filled) filled
    ∙ ap (λ (b : BallotView). (filled_with b (filling v None m)).filled) (fresh ∙ ap (λ (t : Bool). new_ballot t old.level) votes)
    ∙ filled_there old.level v m fits
    ∙ ap Some (same ∙ is)
    ∙ sym (ap (λ (t : Bool). cond t (Some (vote_for n c)) None) votes)
