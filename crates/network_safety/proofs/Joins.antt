-- What a daemon joins: of datagrams that were sent, whole messages that were sent.
use Rattle.std.proofs.Common.{◌≡◌, ◌<◌, ℕ, List, [], ◌∷◌, ◌++◌, length, Option, Some, refl, sym, ap, ◌∙◌, subst, inl, inr, arith}
use Rattle.rsct_packet.proofs.HasLaws.{has_append, append_has_left, append_has_right}
use Rattle.piece_link.specs.Joining.{Joining, taken}
use Rattle.piece_link.specs.Pieces.{Message, Piece, piece_at, piece_count, data_of, head_of, pieces_of}
use Rattle.piece_link.specs.Answers.{Among, joining_after, answer_for, answer_to, answers_to, CanBeCut, AreDistinct, AreDrawn}
use Rattle.piece_link.proofs.ReadLaws.{piece_again, has_index}
use Rattle.piece_link.proofs.SelfLaw.{joined_to_themselves}

-- what is kept of datagrams that were drawn from these messages
pub record IsJoinedOf (ms : List Message) (j : Joining) : Type 0 where
  pub datagrams : List (List ℕ)
  pub drawn : AreDrawn ms datagrams
  pub is : j ≡ joining_after [] datagrams

pub none_joined : (ms : List Message) → IsJoinedOf ms []
unfolding joining_after
none_joined ms = record { datagrams = []; drawn = λ b h. absurd h; is = refl }

pub more_joined : (new ms : List Message) (j : Joining) → IsJoinedOf ms j → IsJoinedOf (new ++ ms) j
more_joined new ms j k =
    record { datagrams = k.datagrams; drawn = λ b h. (let d = k.drawn b h in (d.0, append_has_right d.0 new ms d.1, d.2)); is = k.is }

-- ---- one more datagram

joining_on : (j : Joining) (bs : List (List ℕ)) (b : List ℕ) → joining_after j (bs ++ b ∷ []) ≡ (taken (joining_after j bs) b).joining
unfolding joining_after
joining_on j [] b = refl
joining_on j (x ∷ bs) b = joining_on (taken j x).joining bs b

answers_on : (j : Joining) (bs : List (List ℕ)) (b : List ℕ) (a : Message) → Among a (answer_to (joining_after j bs) b) → Among a (answers_to j (bs ++ b ∷ []))
unfolding joining_after answers_to
answers_on j [] b a h = append_has_left a (answer_to j b) [] h
answers_on j (x ∷ bs) b a h = append_has_right a (answer_to j x) (answers_to (taken j x).joining (bs ++ b ∷ [])) (answers_on (taken j x).joining bs b a h)

module _ (ms : List Message) (fits : (m : Message) → Among m ms → CanBeCut m) (distinct : AreDistinct ms) (j : Joining) (k : IsJoinedOf ms j) (b : List ℕ) (m : Message) (among : Among m ms) (piece : Among b (pieces_of m)) where
  drawn_on : AreDrawn ms (k.datagrams ++ b ∷ [])
  drawn_on x h = elim (has_append x k.datagrams (b ∷ []) h) [ inl a ↦ k.drawn x a | inr a ↦ last a ]
    where
      last : Among x (b ∷ []) → (n : Message) × Among n ms × Among x (pieces_of n)
      last (inl e) = (m, among, subst (λ z. Among z (pieces_of m)) (sym e) piece)
      last (inr z) = absurd z

  pub joined_on : IsJoinedOf ms (taken j b).joining
  joined_on = record { datagrams = k.datagrams ++ b ∷ []; drawn = drawn_on; is = ap (λ z. (taken z b).joining) k.is ∙ sym (joining_on [] k.datagrams b) }

  is_piece : (q : Piece) × (piece_at b ≡ Some q)
  is_piece =
      let i = has_index m 0 (piece_count (length m.bytes)) b piece in
      let below : i.0 < piece_count (length m.bytes) = omega (arith, i.2) in
      let q : Piece = record { head = head_of m i.0; text = data_of m.bytes i.0 } in
      (q, ap piece_at i.3 ∙ piece_again m i.0 (fits m among) below)

  -- the message that is whole then was sent
  pub whole_sent : (x : List ℕ) → (taken j b).message ≡ Some x → (n : Message) × Among n ms × (n.bytes ≡ x)
  whole_sent x e = (a, joined_to_themselves ms (k.datagrams ++ b ∷ []) fits distinct drawn_on a (answers_on [] k.datagrams b a answered), refl)
    where
      q : Piece
      q = is_piece.0

      a : Message
      a = record { sender = q.head.sender; incarnation = q.head.incarnation; number = q.head.number; bytes = x }

      whole : (taken (joining_after [] k.datagrams) b).message ≡ Some x
      whole = sym (ap (λ z. (taken z b).message) k.is) ∙ e

      answered : Among a (answer_to (joining_after [] k.datagrams) b)
      answered = subst (λ (o : Option (List ℕ)). Among a (answer_for (piece_at b) o)) (sym whole) (subst (λ (o : Option Piece). Among a (answer_for o (Some x))) (sym is_piece.1) (inl refl))
