-- Chunks of one map, and a map that goes on.
use Rattle.std.proofs.Common.{◌≡◌, ℕ, suc, ◌+◌, ◌-◌, Bool, true, false, cond, List, [], ◌∷◌, ◌++◌, length, Option, Some, None, refl, sym, ap, subst, ◌∙◌, arith, append_assoc, append-nil, eqb-true}
use Rattle.std.specs.Prelude.{◌==◌, ◌&&◌, nat_lt, flat_map}
use Rattle.std.specs.Option.{option_and_then}
use Rattle.std.proofs.lemmas.Bool.{ltb-true}
use Rattle.rsct_packet.specs.Lists.{is_empty}
use Rattle.rsct_packet.proofs.FieldLaws.{and_true}
use Rattle.proposal_core.specs.declared.proposal.Proposal.{Proposal}
use Rattle.proposal_core.specs.declared.proposal.Proposal.TheVariants.{Join, Leave, Fail, Expel, State, Message, Attributes, Reflect}
use Rattle.proposal_core.specs.declared.group_state.GroupState.{GroupState}
use Rattle.proposal_core.specs.Fold.{after}
use Rattle.client_callbacks.specs.Handed.{NoticeView}
use Rattle.agreed_table.specs.Pairs.{Pairs, encoding, decoded, IsTable}
use Rattle.agreed_table.specs.Chunks.{Chunk, chunk_count, chunk_in, piece, pieces_to}
use Rattle.agreed_table.proofs.ChunkLaws.{chunks_are_read, pieces_more, pieces_none}
use Rattle.table_client.specs.Rules.{Copied, copy_after, with_chunk, with_effect, with_members, with_place, effect_of, counts_after, kept_if, in_turn, sharing, taken, is_own}
use Rattle.table_client.specs.Maps.{message_map}
use Rattle.table_client.specs.Sharing.{IsChunkOf, AreChunksOf, CarriesChunk, is_own_effect, ReceivedIsTheMap, KeptAreChunks, SharingIsChunk, WholeGoesOn, RulesKeepTheMap}

-- ---- what is received

turned_pieces : (m : Pairs) (k : ℕ) (chunks : List Chunk) → AreChunksOf m chunks → in_turn k chunks ≡ true → pieces_to (k + length chunks) (encoding m) ≡ pieces_to k (encoding m) ++ flat_map (λ (c : Chunk). c.bytes) chunks
turned_pieces m k [] are turn = ap (λ (n : ℕ). pieces_to n (encoding m)) (omega arith) ∙ sym (append-nil (pieces_to k (encoding m)))
turned_pieces m k (c ∷ chunks) are turn =
    let parts = and_true (c.number == k) (in_turn (k + 1) chunks) turn in
    let number : c.number ≡ k = eqb-true c.number k parts.0 in
    let bytes : c.bytes ≡ piece k (encoding m) = are.0.bytes ∙ ap (λ (n : ℕ). piece n (encoding m)) number in
    ap (λ (n : ℕ). pieces_to n (encoding m)) (shift k chunks) ∙ turned_pieces m (k + 1) chunks are.1 parts.1
    ∙ ap (λ (t : List ℕ). t ++ flat_map (λ (x : Chunk). x.bytes) chunks) (next_piece k (encoding m))
    ∙ append_assoc (pieces_to k (encoding m)) (piece k (encoding m)) (flat_map (λ (x : Chunk). x.bytes) chunks)
    ∙ ap (λ (t : List ℕ). pieces_to k (encoding m) ++ (t ++ flat_map (λ (x : Chunk). x.bytes) chunks)) (sym bytes)
  where
    shift : (k : ℕ) (chunks : List Chunk) → k + length (c ∷ chunks) ≡ (k + 1) + length chunks
    shift k chunks = omega arith

    one : (k : ℕ) → k + 1 ≡ suc k
    one k = omega arith

    more : (k : ℕ) (bytes : List ℕ) → pieces_to (suc k) bytes ≡ pieces_to k bytes ++ piece k bytes
    more k bytes = pieces_more k bytes

    next_piece : (k : ℕ) (bytes : List ℕ) → pieces_to (k + 1) bytes ≡ pieces_to k bytes ++ piece k bytes
    next_piece k bytes = ap (λ (n : ℕ). pieces_to n bytes) (one k) ∙ more k bytes

came : (m k : Pairs) (c : Chunk) (chunks : List Chunk) (b : Bool) → IsTable m → AreChunksOf m (c ∷ chunks) → (in_turn 0 (c ∷ chunks) && (length (c ∷ chunks) == c.count)) ≡ b → cond b (decoded (flat_map (λ (x : Chunk). x.bytes) (c ∷ chunks))) None ≡ Some k → k ≡ m
came m k c chunks false t are is e = absurd cc
came m k c chunks true t are is e =
    let parts = and_true (in_turn 0 (c ∷ chunks)) (length (c ∷ chunks) == c.count) is in
    let count : length (c ∷ chunks) ≡ chunk_count m = eqb-true (length (c ∷ chunks)) c.count parts.1 ∙ are.0.count in
    let whole : flat_map (λ (x : Chunk). x.bytes) (c ∷ chunks) ≡ encoding m =
    sym (from_zero (flat_map (λ (x : Chunk). x.bytes) (c ∷ chunks)) (encoding m)) ∙ sym (turned_pieces m 0 (c ∷ chunks) are parts.0) ∙ ap (λ (n : ℕ). pieces_to n (encoding m)) (zero_plus (length (c ∷ chunks)) ∙ count) ∙ chunks_are_read.pieces m in
    same_some k m (sym e ∙ ap decoded whole ∙ chunks_are_read.again m t)
  where
    same_some : (a b : Pairs) → Some a ≡ Some b → a ≡ b
    same_some a b e = cc

    zero_plus : (n : ℕ) → 0 + n ≡ n
    zero_plus n = omega arith

    from_zero : (a bytes : List ℕ) → pieces_to 0 bytes ++ a ≡ a
    from_zero a bytes = pieces_none a bytes

pub received_is_the_map : ReceivedIsTheMap
received_is_the_map m k [] t are e = absurd cc
received_is_the_map m k (c ∷ chunks) t are e = came m k c chunks (in_turn 0 (c ∷ chunks) && (length (c ∷ chunks) == c.count)) t are refl e

-- ---- what is kept

are_more : (m : Pairs) (chunks : List Chunk) (c : Chunk) → AreChunksOf m chunks → IsChunkOf m c → AreChunksOf m (chunks ++ c ∷ [])
are_more m [] c are one = (one, tt)
are_more m (x ∷ chunks) c are one = (are.0, are_more m chunks c are.1 one)

kept_cond : (m : Pairs) (chunks : List Chunk) (c : Chunk) (b : Bool) → AreChunksOf m chunks → IsChunkOf m c → AreChunksOf m (cond b (chunks ++ c ∷ []) chunks)
kept_cond m chunks c true are one = are_more m chunks c are one
kept_cond m chunks c false are one = are

kept_message : (m : Pairs) (chunks : List Chunk) (phase : ℕ) (message : Option (List ℕ)) → IsTable m → AreChunksOf m chunks → CarriesChunk m phase message → AreChunksOf m (kept_if chunks (phase - 1) (option_and_then chunk_in message))
kept_message m chunks phase None t are carries = are
kept_message m chunks phase (Some bytes) t are carries =
    let c : Chunk = record { number = phase - 1; count = chunk_count m; bytes = piece (phase - 1) (encoding m) } in
    let read : chunk_in bytes ≡ Some c = ap chunk_in carries.1 ∙ chunks_are_read.chunks (phase - 1) m t carries.0 in
    subst (λ (o : Option Chunk). AreChunksOf m (kept_if chunks (phase - 1) o)) (sym read)
    (kept_cond m chunks c ((c.number == phase - 1) && (nat_lt (phase - 1) c.count && counts_after chunks c)) are (record { count = refl; bytes = refl }))

pub kept_are_chunks : KeptAreChunks
kept_are_chunks m chunks x t are carries = kept_message m chunks x.phase x.message t are carries

-- ---- what is sent

sharing_is_chunk : SharingIsChunk
sharing_is_chunk m phase = by_test (nat_lt (phase - 1) (chunk_count m)) refl
  where
    by_test : (b : Bool) → nat_lt (phase - 1) (chunk_count m) ≡ b → CarriesChunk m phase (sharing (phase - 1) (Some m)).message
    by_test true is = rw is (ltb-true (phase - 1) (chunk_count m) is, refl)
    by_test false is = rw is tt

-- ---- a whole map goes on

pub with_chunk_map : (n : NoticeView) (c : Copied) (b : Bool) → is_own n.provider c.running ≡ b → ((with_chunk n c).map ≡ c.map) × ((with_chunk n c).running ≡ c.running)
unfolding with_chunk
with_chunk_map n c true is = rw is (refl, refl)
with_chunk_map n c false is = rw is (refl, refl)

taken_map : (n : NoticeView) (c : Copied) (o : Option Proposal) (m : Pairs) → c.map ≡ Some m → is_own_effect n.provider o ≡ false → (taken n c o).map ≡ Some (message_map o m)
taken_map n c None m whole own = whole
taken_map n c (Some (Join ps attrs k)) m whole own = rw own whole
taken_map n c (Some (Leave p r)) m whole own = whole
taken_map n c (Some (Fail out)) m whole own = whole
taken_map n c (Some (Expel p r out)) m whole own = whole
taken_map n c (Some (State p r value)) m whole own = whole
taken_map n c (Some (Message p r bytes)) m whole own = rw whole refl
taken_map n c (Some (Attributes p r attrs)) m whole own = whole
taken_map n c (Some (Reflect view place value)) m whole own = whole

members_map : (n : NoticeView) (c : Copied) (b : Bool) (m : Pairs) → is_empty n.after.members ≡ b → c.map ≡ Some m → (with_members n c).map ≡ Some (cond b [] m)
unfolding with_members
members_map n c true m is whole = rw is refl
members_map n c false m is whole = rw is whole

pub whole_goes_on : WholeGoesOn
unfolding copy_after with_place with_effect
whole_goes_on n c s m runs after_is whole own =
    let kept = with_chunk_map n c (is_own n.provider c.running) refl in
    let effect : effect_of n.entry (with_chunk n c).running ≡ effect_of n.entry s.running = ap (effect_of n.entry) (kept.1 ∙ runs) in
    let written : (taken n (with_chunk n c) (effect_of n.entry (with_chunk n c).running)).map ≡ Some (message_map (effect_of n.entry s.running) m) =
    ap (λ (o : Option Proposal). (taken n (with_chunk n c) o).map) effect ∙ taken_map n (with_chunk n c) (effect_of n.entry s.running) m (kept.0 ∙ whole) own in
    members_map n (taken n (with_chunk n c) (effect_of n.entry (with_chunk n c).running)) (is_empty (after s n.view n.place n.entry).members) (message_map (effect_of n.entry s.running) m) (ap (λ (t : GroupState). is_empty t.members) after_is) written

pub rules_keep_the_map : RulesKeepTheMap
rules_keep_the_map = record { received = received_is_the_map; kept = kept_are_chunks; sent = sharing_is_chunk; goes_on = whole_goes_on }
