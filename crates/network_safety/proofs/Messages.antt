-- The messages of packets: what is sent of them is in pieces, and no two have one number.
use Rattle.std.proofs.Common.{◌≡◌, ◌<◌, ◌≤◌, ◌+◌, ◌^◌, ℕ, List, [], ◌∷◌, ◌++◌, length, ◌==◌, not, Bool, true, false, refl, sym, ap, ◌∙◌, subst, inl, inr, arith}
use Rattle.std.specs.Prelude.{map, flat_map, nat_le}
use Rattle.std.proofs.lemmas.Bool.{leb-true}
use Rattle.std.proofs.lemmas.Grind.{flat_map-append}
use Rattle.rsct_packet.specs.Search.{Has}
use Rattle.rsct_packet.proofs.FieldLaws.{and_true}
use Rattle.rsct_packet.proofs.HasLaws.{has_append, append_has_left, append_has_right}
use Rattle.hags_io.specs.declared.link.LinkCall.{LinkCall}
use Rattle.node_state.specs.declared.packet.Packet.{Packet}
use Rattle.node_state.specs.Bytes.{bytes_of}
use Rattle.piece_link.specs.Pieces.{Message, can_cut, message_by, pieces_of}
use Rattle.piece_link.specs.Answers.{Among, CanBeCut, SameKey, AreDistinct}
use Rattle.daemon_model.specs.Sent.{piece_call, packet_pieces, calls_if, number_if, goes_out, carried_calls, number_over, Numbered, Of, OfNothing, OfPacket, OfMessage, Exchange, piece_of, numbered, carried, sent_calls, number_after}
use Rattle.network_model.specs.Fits.{IsSend}

-- ---- the messages of packets

abbrev pub message_of : Numbered → Message
message_of n = message_by n.sender n.incarnation n.number (bytes_of n.packet)

abbrev pub messages_if : Of → List Message
messages_if OfNothing = []
messages_if (OfPacket n) = message_of n ∷ []
messages_if (OfMessage number) = []

-- of each send of a piece of a packet
unfoldable pub messages_in : List Exchange → List Message
messages_in xs = flat_map (λ (x : Exchange). messages_if x.of) xs

pub messages_both : (xs ys : List Exchange) → messages_in (xs ++ ys) ≡ messages_in xs ++ messages_in ys
unfolding messages_in
messages_both xs ys = flat_map-append (λ (x : Exchange). messages_if x.of) xs ys

pub no_messages : messages_in [] ≡ []
unfolding messages_in
no_messages = refl

pub record IsMessageIn (xs : List Exchange) (m : Message) : Type 0 where
  pub send : Exchange
  pub among : Among send xs
  pub of : Numbered
  pub is : send.of ≡ OfPacket of
  pub message : m ≡ message_of of

pub message_in : (xs : List Exchange) (m : Message) → Among m (messages_in xs) → IsMessageIn xs m
unfolding messages_in
message_in [] m h = absurd h
message_in (x ∷ xs) m h = elim (has_append m (messages_if x.of) (messages_in xs) h) [ inl a ↦ first x.of refl a | inr b ↦ later (message_in xs m b) ]
  where
    first : (o : Of) → x.of ≡ o → Among m (messages_if o) → IsMessageIn (x ∷ xs) m
    first OfNothing e a = absurd a
    first (OfMessage number) e a = absurd a
    first (OfPacket n) e (inl is) = record { send = x; among = inl refl; of = n; is = e; message = is }
    first (OfPacket n) e (inr a) = absurd a

    later : IsMessageIn xs m → IsMessageIn (x ∷ xs) m
    later k = record { send = k.send; among = inr k.among; of = k.of; is = k.is; message = k.message }

pub in_messages : (xs : List Exchange) (x : Exchange) (n : Numbered) → Among x xs → x.of ≡ OfPacket n → Among (message_of n) (messages_in xs)
unfolding messages_in
in_messages [] x n h e = absurd h
in_messages (y ∷ ys) x n (inl is) e =
    let one : Among (message_of n) (messages_if y.of) = subst (λ (o : Of). Among (message_of n) (messages_if o)) (sym e ∙ ap (λ (z : Exchange). z.of) is) (inl refl) in
    append_has_left (message_of n) (messages_if y.of) (messages_in ys) one
in_messages (y ∷ ys) x n (inr h) e = append_has_right (message_of n) (messages_if y.of) (messages_in ys) (in_messages ys x n h e)

-- ---- packets that are sent, from a number on

past_le : (b : Bool) (number : ℕ) → number ≤ number_if b number
past_le true number = omega arith
past_le false number = omega arith

pub after_le : (number : ℕ) (ps : List Packet) → number ≤ number_after number ps
unfolding number_after number_over
after_le number [] = omega arith
after_le number (p ∷ ps) =
    let a : number ≤ number_over number p = past_le (goes_out p) number in
    let b : number_over number p ≤ number_after (number_over number p) ps = after_le (number_over number p) ps in
    omega arith

-- a send of a piece of one of the packets, as a message between two numbers
pub record IsOne (me inc low high : ℕ) (ps : List Packet) (x : Exchange) : Type 0 where
  pub of : Numbered
  pub is : x.of ≡ OfPacket of
  pub sender : of.sender ≡ me
  pub incarnation : of.incarnation ≡ inc
  pub from : low ≤ of.number
  pub below : of.number < high
  pub has : Has of.packet ps
  pub goes : goes_out of.packet ≡ true
  pub piece : (b : List ℕ) → IsSend b x.call → Among b (pieces_of (message_of of))

wider : (me inc low high low' high' : ℕ) (p : Packet) (ps : List Packet) (x : Exchange) → low' ≤ low → high ≤ high' → IsOne me inc low high ps x → IsOne me inc low' high' (p ∷ ps) x
wider me inc low high low' high' p ps x a b k =
    record { of = k.of; is = k.is; sender = k.sender; incarnation = k.incarnation; from = omega (arith, k.from); below = omega (arith, k.below); has = inr k.has; goes = k.goes; piece = k.piece }

piece_in : (n : Numbered) (p : Packet) (bs : List (List ℕ)) (x : Exchange) → Among x (map (piece_of n) (map (piece_call p) bs)) → (b : List ℕ) × (x ≡ piece_of n (piece_call p b)) × Among b bs
piece_in n p [] x h = absurd h
piece_in n p (b ∷ bs) x (inl is) = (b, is, inl refl)
piece_in n p (b ∷ bs) x (inr h) = let r = piece_in n p bs x h in (r.0, r.1, inr r.2)

first_one : (me inc number high : ℕ) (p : Packet) (ps : List Packet) (b : Bool) → goes_out p ≡ b → number_if b number ≤ high → (x : Exchange) → Among x (map (piece_of (numbered me inc number p)) (calls_if b (map (piece_call p) (packet_pieces me inc number p)))) → IsOne me inc number high (p ∷ ps) x
first_one me inc number high p ps true e le x h =
    let r = piece_in (numbered me inc number p) p (packet_pieces me inc number p) x h in
    subst (IsOne me inc number high (p ∷ ps)) (sym r.1) (record { of = numbered me inc number p; is = refl; sender = refl; incarnation = refl; from = omega arith; below = omega (arith, le); has = inl refl; goes = e; piece = λ b is. subst (λ z. Among z (packet_pieces me inc number p)) is r.2 })
first_one me inc number high p ps false e le x h = absurd h

pub each_one : (me inc number : ℕ) (ps : List Packet) (x : Exchange) → Among x (sent_calls me inc number ps) → IsOne me inc number (number_after number ps) ps x
unfolding sent_calls carried carried_calls number_after number_over
each_one me inc number [] x h = absurd h
each_one me inc number (p ∷ ps) x h =
    let next : ℕ = number_over number p in
    elim (has_append x (carried me inc number p) (sent_calls me inc next ps) h) [
      | inl a ↦ first_one me inc number (number_after next ps) p ps (goes_out p) refl (after_le next ps) x a
      | inr b ↦ wider me inc next (number_after next ps) number (number_after next ps) p ps x (past_le (goes_out p) number) (omega arith) (each_one me inc next ps x b)
    ]

-- the message of one of them
pub record IsOneMessage (me inc low high : ℕ) (m : Message) : Type 0 where
  pub sender : m.sender ≡ me
  pub incarnation : m.incarnation ≡ inc
  pub from : low ≤ m.number
  pub below : m.number < high

same_of : (a b : Numbered) (o : Of) → o ≡ OfPacket a → o ≡ OfPacket b → a ≡ b
same_of a b o e f = let q : OfPacket a ≡ OfPacket b = sym e ∙ f in cc

pub each_message : (me inc number : ℕ) (ps : List Packet) (m : Message) → Among m (messages_in (sent_calls me inc number ps)) → IsOneMessage me inc number (number_after number ps) m
each_message me inc number ps m h =
    let i : IsMessageIn (sent_calls me inc number ps) m = message_in (sent_calls me inc number ps) m h in
    let o : IsOne me inc number (number_after number ps) ps i.send = each_one me inc number ps i.send i.among in
    let is : m ≡ message_of o.of = i.message ∙ ap message_of (same_of i.of o.of i.send.of i.is o.is) in
    subst (IsOneMessage me inc number (number_after number ps)) (sym is) (record { sender = o.sender; incarnation = o.incarnation; from = o.from; below = o.below })

-- ---- no two of them have one number

-- two parts of a list of messages between which no two have one key
pub distinct_both : (xs ys : List Message) → AreDistinct xs → AreDistinct ys → ((m n : Message) → Among m xs → Among n ys → SameKey m n → ⊥) → AreDistinct (xs ++ ys)
distinct_both xs ys left right apart m n hm hn same =
    elim (has_append m xs ys hm) [
      | inl a ↦ elim (has_append n xs ys hn) [
        | inl b ↦ left m n a b same
        | inr b ↦ absurd (apart m n a b same)
      ]
      | inr a ↦ elim (has_append n xs ys hn) [
        | inl b ↦ absurd (apart n m b a (record { sender = sym same.sender; incarnation = sym same.incarnation; number = sym same.number }))
        | inr b ↦ right m n a b same
      ]
    ]

-- all pieces of one packet have one message
of_one : (n : Numbered) (cs : List LinkCall) (m : Message) → Among m (messages_in (map (piece_of n) cs)) → m ≡ message_of n
unfolding messages_in
of_one n [] m h = absurd h
of_one n (c ∷ cs) m (inl is) = is
of_one n (c ∷ cs) m (inr h) = of_one n cs m h

before_rest : (me inc number : ℕ) (p : Packet) (b : Bool) (m : Message) → Among m (messages_in (map (piece_of (numbered me inc number p)) (calls_if b (map (piece_call p) (packet_pieces me inc number p))))) → m.number < number_if b number
unfolding messages_in
before_rest me inc number p true m h =
    subst (λ (z : Message). z.number < number + 1) (sym (of_one (numbered me inc number p) (map (piece_call p) (packet_pieces me inc number p)) m h)) (omega arith)
before_rest me inc number p false m h = absurd h

pub own_distinct : (me inc number : ℕ) (ps : List Packet) → AreDistinct (messages_in (sent_calls me inc number ps))
unfolding sent_calls carried carried_calls number_over
own_distinct me inc number [] = λ m n h k same. absurd (subst (Among m) no_messages h)
own_distinct me inc number (p ∷ ps) =
    subst AreDistinct (sym (messages_both (carried me inc number p) (sent_calls me inc (number_over number p) ps)))
    (distinct_both (messages_in (carried me inc number p)) (messages_in (sent_calls me inc (number_over number p) ps)) first (own_distinct me inc (number_over number p) ps) apart)
  where
    first : AreDistinct (messages_in (carried me inc number p))
    first m n h k same = of_one (numbered me inc number p) (carried_calls me inc number p) m h ∙ sym (of_one (numbered me inc number p) (carried_calls me inc number p) n k)

    apart : (m n : Message) → Among m (messages_in (carried me inc number p)) → Among n (messages_in (sent_calls me inc (number_over number p) ps)) → SameKey m n → ⊥
    apart m n h k same =
        let a : m.number < number_over number p = before_rest me inc number p (goes_out p) m h in
        let b : number_over number p ≤ n.number = (each_message me inc (number_over number p) ps n k).from in
        let c : m.number ≡ n.number = same.number in
        absurd (omega (arith, a, b, c))

-- each can be cut, where its numbers fit
pub one_fits : (m : Message) → m.sender ≤ 32 → m.incarnation < 2 ^ 32 → m.number < 2 ^ 64 → can_cut m.bytes ≡ true → CanBeCut m
one_fits m a b c cut =
    let both = and_true (nat_le 1 (length m.bytes)) (nat_le (length m.bytes) 70560000) cut in
    record {
      sender = a;
      incarnation = b;
      number = c;
      some = leb-true 1 (length m.bytes) both.0;
      most = leb-true (length m.bytes) 70560000 both.1;
    }

-- what goes out can be cut
pub goes_cut : (p : Packet) → goes_out p ≡ true → can_cut (bytes_of p) ≡ true
goes_cut p e = (and_true (not (p.network == 0)) (can_cut (bytes_of p)) e).1
