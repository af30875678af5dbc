-- What is joined of pieces drawn from the cuts of distinct messages is one of these messages.
use Rattle.std.proofs.Common.{◌≡◌, ℕ, ◌*◌, ◌≤◌, ◌<◌, Bool, true, false, Option, Some, None, List, [], ◌∷◌, length, take, drop, inl, inr, refl, sym, ◌∙◌, ap, subst, arith, eqb-true}
use Rattle.std.specs.Prelude.{◌==◌}
use Rattle.std.proofs.lemmas.List.{take_all}
use Rattle.rsct_packet.proofs.FieldLaws.{and_true}
use Rattle.rsct_packet.proofs.HasLaws.{has_append}
use Rattle.piece_link.specs.declared.kept.Kept.{Kept}
use Rattle.piece_link.specs.Joining.{Joining, Joined, Parts, is_newer, is_same, is_status, opened, has_part, with_part, whole_of, closed, part_added, part_put, chosen, first_taken, row_chosen, row_taken, taken}
use Rattle.piece_link.specs.Pieces.{Message, piece_at, piece_count, data_of, head_of, piece_of}
use Rattle.piece_link.specs.Answers.{Among, CanBeCut, SameKey, AreDistinct, AreDrawn, answer_for, answer_to, answers_to, AlwaysJoinedToThemselves}
use Rattle.piece_link.proofs.ReadLaws.{piece_again, has_index, count_covers}
use Rattle.piece_link.proofs.StepLaws.{status_taken, piece_is_taken}
use Rattle.piece_link.proofs.OnceLaw.{same_parts}
use Rattle.piece_link.proofs.WholeLaws.{Ordered, EachIs, ordered_with, each_with, whole_is}

abbrev pub PartsAre : Message → Option Parts → Type 0
PartsAre m None = Unit {0}
PartsAre m (Some parts) = Ordered 0 (piece_count (length m.bytes)) parts × EachIs m.bytes parts

-- what is kept of a message is of it
pub record IsOf (m : Message) (kept : Kept) : Type 0 where
  pub sender : kept.sender ≡ m.sender
  pub incarnation : kept.incarnation ≡ m.incarnation
  pub number : kept.number ≡ m.number
  pub count : kept.count ≡ piece_count (length m.bytes)
  pub parts : PartsAre m kept.parts

-- after a piece of a message: what is kept is of it, and an answer is the message
pub record Put (m : Message) (r : Kept × Option (List ℕ)) : Type 0 where
  pub kept : IsOf m r.0
  pub message : (x : List ℕ) → r.1 ≡ Some x → x ≡ m.bytes

closed_put : (m : Message) (kept : Kept) (o : Option Parts) (parts : Parts) (b : Bool) → IsOf m kept → (length parts == kept.count) ≡ b → PartsAre m (Some parts) → Put m (closed kept parts b)
closed_put m kept o parts true h e are =
    let n : length parts ≡ kept.count = eqb-true (length parts) kept.count e in
    record {
      kept = record { sender = h.sender; incarnation = h.incarnation; number = h.number; count = h.count; parts = tt };
      message = λ (x : List ℕ) (f : Some (whole_of parts) ≡ Some x). (let g : x ≡ whole_of parts = cc in g ∙ whole_is m.bytes parts are.0 (n ∙ h.count) are.1);
    }
closed_put m kept o parts false h e are = record {
  kept = record { sender = h.sender; incarnation = h.incarnation; number = h.number; count = h.count; parts = are };
  message = λ (x : List ℕ) (f : None ≡ Some x). absurd cc;
}

added_put : (m : Message) (kept : Kept) (parts : Parts) (index : ℕ) (text : List ℕ) (b : Bool) → IsOf m kept → has_part parts index ≡ b → PartsAre m (Some parts) → index < piece_count (length m.bytes) → text ≡ data_of m.bytes index → Put m (part_added kept parts index text b)
added_put m kept parts index text true h e are below is = record { kept = h; message = λ (x : List ℕ) (f : None ≡ Some x). absurd cc }
added_put m kept parts index text false h e are below is =
    closed_put m kept None (with_part parts index text) (length (with_part parts index text) == kept.count) h refl
    (ordered_with parts 0 (piece_count (length m.bytes)) index text are.0 (omega arith) below e, each_with m.bytes parts index text are.1 is)

part_is_put : (m : Message) (kept : Kept) (o : Option Parts) (index : ℕ) (text : List ℕ) → IsOf m kept → PartsAre m o → index < piece_count (length m.bytes) → text ≡ data_of m.bytes index → Put m (part_put kept o index text)
part_is_put m kept None index text h are below is = record { kept = h; message = λ (x : List ℕ) (f : None ≡ Some x). absurd cc }
part_is_put m kept (Some parts) index text h are below is = added_put m kept parts index text (has_part parts index) h refl are below is

pub first_put : (m : Message) (index : ℕ) → index < piece_count (length m.bytes) → Put m (first_taken (head_of m index) (data_of m.bytes index))
first_put m index below =
    part_is_put m (opened (head_of m index)) (Some []) index (data_of m.bytes index) (record { sender = refl; incarnation = refl; number = refl; count = refl; parts = (tt, tt) }) (tt, tt) below refl

-- of all rows, each is of one of the messages
pub record Good (ms : List Message) (kept : Kept) : Type 0 where
  pub m : Message
  pub among : Among m ms
  pub of_it : IsOf m kept

abbrev pub AllGood : List Message → Joining → Type 0
AllGood ms [] = Unit {0}
AllGood ms (kept ∷ j) = Good ms kept × AllGood ms j

pub record GoodPut (ms : List Message) (m : Message) (r : Kept × Option (List ℕ)) : Type 0 where
  pub good : Good ms r.0
  pub message : (x : List ℕ) → r.1 ≡ Some x → x ≡ m.bytes

put_good : (ms : List Message) (m : Message) (r : Kept × Option (List ℕ)) → Among m ms → Put m r → GoodPut ms m r
put_good ms m r among p = record { good = record { m = m; among = among; of_it = p.kept }; message = p.message }

chosen_good : (ms : List Message) (m : Message) (index : ℕ) (kept : Kept) (newer same : Bool) → AreDistinct ms → Among m ms → index < piece_count (length m.bytes) → Good ms kept → kept.sender ≡ m.sender → is_same (head_of m index) kept ≡ same
    → GoodPut ms m (chosen kept (head_of m index) (data_of m.bytes index) newer same)
chosen_good ms m index kept true same distinct among below g s e = put_good ms m _ among (first_put m index below)
chosen_good ms m index kept false true distinct among below g s e =
    let p = same_parts (head_of m index) kept e in
    let key : SameKey g.m m = record { sender = sym g.of_it.sender ∙ s; incarnation = sym g.of_it.incarnation ∙ p.0; number = sym g.of_it.number ∙ p.1 } in
    let is : g.m ≡ m = distinct g.m m g.among among key in
    let of_m : IsOf m kept = subst (λ (n : Message). IsOf n kept) is g.of_it in
    put_good ms m _ among (part_is_put m kept kept.parts index (data_of m.bytes index) of_m of_m.parts below refl)
chosen_good ms m index kept false false distinct among below g s e = record { good = g; message = λ (x : List ℕ) (f : None ≡ Some x). absurd cc }

pub record GoodJoined (ms : List Message) (m : Message) (r : Joined) : Type 0 where
  pub good : AllGood ms r.joining
  pub message : (x : List ℕ) → r.message ≡ Some x → x ≡ m.bytes

row_by : (ms : List Message) (m : Message) (index : ℕ) (b : Bool) (kept : Kept) (j : Joining) → AreDistinct ms → Among m ms → index < piece_count (length m.bytes) → AllGood ms (kept ∷ j) → (kept.sender == m.sender) ≡ b
    → GoodJoined ms m (row_taken j (head_of m index) (data_of m.bytes index))
    → GoodJoined ms m (row_chosen b kept j (head_of m index) (data_of m.bytes index) (row_taken j (head_of m index) (data_of m.bytes index)))
row_by ms m index true kept j distinct among below all e rest =
    let s : kept.sender ≡ m.sender = eqb-true kept.sender m.sender e in
    let x = chosen_good ms m index kept (is_newer (head_of m index) kept) (is_same (head_of m index) kept) distinct among below all.0 s refl in
    record { good = (x.good, all.1); message = x.message }
row_by ms m index false kept j distinct among below all e rest = record { good = (all.0, rest.good); message = rest.message }

row_good : (ms : List Message) (m : Message) (index : ℕ) (j : Joining) → AreDistinct ms → Among m ms → index < piece_count (length m.bytes) → AllGood ms j → GoodJoined ms m (row_taken j (head_of m index) (data_of m.bytes index))
unfolding row_taken
row_good ms m index [] distinct among below all =
    let x = put_good ms m _ among (first_put m index below) in
    record { good = (x.good, tt); message = x.message }
row_good ms m index (kept ∷ j) distinct among below all = row_by ms m index (kept.sender == m.sender) kept j distinct among below all refl (row_good ms m index j distinct among below all.1)

-- ---- datagrams

only_data : (bytes : List ℕ) (index : ℕ) → piece_count (length bytes) ≡ 1 → index < piece_count (length bytes) → data_of bytes index ≡ bytes
unfolding data_of
only_data bytes index e below =
    let at : index ≡ 0 = omega arith in
    let covers : length bytes ≤ 1176 * piece_count (length bytes) = count_covers (length bytes) in
    let short : length bytes ≤ 1176 = subst (λ (k : ℕ). length bytes ≤ 1176 * k) e covers in
    ap (λ k. take 1176 (drop (1176 * k) bytes)) at ∙ take_all 1176 bytes short

taken_by : (ms : List Message) (m : Message) (index : ℕ) (j : Joining) (b : List ℕ) (status : Bool) → AreDistinct ms → Among m ms → CanBeCut m → index < piece_count (length m.bytes) → b ≡ piece_of m index → is_status (head_of m index) ≡ status → AllGood ms j → GoodJoined ms m (taken j b)
taken_by ms m index j b true distinct among fits below is e all =
    let at : piece_at b ≡ Some (record { head = head_of m index; text = data_of m.bytes index }) = ap piece_at is ∙ piece_again m index fits below in
    let one : piece_count (length m.bytes) ≡ 1 = eqb-true _ _ (and_true (m.sender == 0) (piece_count (length m.bytes) == 1) e).1 in
    let only = only_data m.bytes index one below in
    subst (λ (r : Joined). GoodJoined ms m r) (sym (status_taken j b _ at e)) (record { good = all; message = λ (x : List ℕ) (f : Some (data_of m.bytes index) ≡ Some x). (let g : x ≡ data_of m.bytes index = cc in g ∙ only) })
taken_by ms m index j b false distinct among fits below is e all =
    let at : piece_at b ≡ Some (record { head = head_of m index; text = data_of m.bytes index }) = ap piece_at is ∙ piece_again m index fits below in
    subst (λ (r : Joined). GoodJoined ms m r) (sym (piece_is_taken j b _ at e)) (row_good ms m index j distinct among below all)

answer_among : (ms : List Message) (m : Message) (index : ℕ) (r : Option (List ℕ)) (a : Message) → Among m ms → ((x : List ℕ) → r ≡ Some x → x ≡ m.bytes) → Among a (answer_for (Some (record { head = head_of m index; text = data_of m.bytes index })) r) → Among a ms
answer_among ms m index None a among is h = absurd h
answer_among ms m index (Some x) a among is (inr h) = absurd h
answer_among ms m index (Some x) a among is (inl e) =
    let same : (n : List ℕ) → n ≡ m.bytes → a ≡ record { sender = m.sender; incarnation = m.incarnation; number = m.number; bytes = n } → a ≡ m = λ n f g. (g ∙ ap (λ (k : List ℕ). let y : Message = record { sender = m.sender; incarnation = m.incarnation; number = m.number; bytes = k } in y) f) in
    subst (λ (n : Message). Among n ms) (sym (same x (is x refl) e)) among

self_from : (ms : List Message) (bs : List (List ℕ)) (j : Joining) → ((m : Message) → Among m ms → CanBeCut m) → AreDistinct ms → AreDrawn ms bs → AllGood ms j → (a : Message) → Among a (answers_to j bs) → Among a ms
unfolding answers_to
self_from ms [] j fits distinct drawn all a h = absurd h
self_from ms (b ∷ bs) j fits distinct drawn all a h =
    let d = drawn b (inl refl) in
    let i = has_index d.0 0 (piece_count (length d.0.bytes)) b d.2 in
    let below : i.0 < piece_count (length d.0.bytes) = omega (arith, i.2) in
    let at : piece_at b ≡ Some (record { head = head_of d.0 i.0; text = data_of d.0.bytes i.0 }) = ap piece_at i.3 ∙ piece_again d.0 i.0 (fits d.0 d.1) below in
    let t = taken_by ms d.0 i.0 j b (is_status (head_of d.0 i.0)) distinct d.1 (fits d.0 d.1) below i.3 refl all in
    elim (has_append a (answer_to j b) (answers_to (taken j b).joining bs) h) [
      | inl here ↦ answer_among ms d.0 i.0 (taken j b).message a d.1 t.message (subst (λ o. Among a (answer_for o (taken j b).message)) at here)
      | inr later ↦ self_from ms bs (taken j b).joining fits distinct (λ (x : List ℕ) (k : Among x bs). drawn x (inr k)) t.good a later
    ]

pub joined_to_themselves : AlwaysJoinedToThemselves
joined_to_themselves = λ ms bs fits distinct drawn. self_from ms bs [] fits distinct drawn tt
