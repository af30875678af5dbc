-- What goes out, piece by piece and packet by packet, each of which is spelled.
use Rattle.std.proofs.Common.{◌≡◌, ℕ, zero, suc, ◌+◌, ◌<◌, ◌≤◌, ◌^◌, ◌==◌, ◌&&◌, not, Bool, true, false, List, [], ◌∷◌, ◌++◌, length, length-append, min, drop, map, get_or, Some, refl, sym, ◌∙◌, ap, ap₂, subst, inl, inr, arith, append_assoc, append-nil, add-one}
use Rattle.std.specs.Prelude.{◌⊎◌, Result, Ok, Err, OnErr}
use Rattle.std.proofs.lemmas.Bool.{eqb-true, eq-eqb}
use Rattle.std.proofs.lemmas.List.{map-append, length-map}
use Rattle.std.proofs.Math.Seq.{drop-cons}
use Rattle.hags_io.specs.declared.link.LinkCall.{LinkCall}
use Rattle.hags_io.specs.Deeds.{Deed, Exchanged}
use Rattle.hags_io.specs.Telling.{Telling, Did}
use Rattle.hags_io.specs.Fronts.{Went, AreFront, WentFront}
use Rattle.hags_io.proofs.FrontLaws.{went_nothing, went_on, still_went, went_front_on}
use Rattle.piece_link.specs.Pieces.{can_cut, message_by, pieces_of}
use Rattle.node_state.specs.declared.packet.Packet.{Packet}
use Rattle.node_state.specs.Bytes.{packet_of, bytes_of}
use Rattle.daemon_model.specs.Counts.{last_u64, sent_more}
use Rattle.daemon_model.specs.Sent.{piece_to, piece_call, packet_pieces, message_calls, packet_calls, calls_if, number_if, number_past, carried_calls, number_over, Exchange, said, piece_of, call_of, numbered, carried, sent_calls, number_after, IsSpelled, IsSpelledIf}
use Rattle.daemon_model.specs.Doings.{Doing, Exchanges, deed_of, AreSpelled, Made, MadeFront}
use Rattle.daemon_model.proofs.MadeLaws.{made_nothing, made_on, still_made, made_front_on, made_front_more}
use Rattle.link_use.specs.declared.sending.Outbox.{Outbox}

-- ---- what is so of a failure

pub on_err : {T E : Type 0} (r : Result T E) {P : Type 0} → P → OnErr r P
on_err (Ok x) p = tt
on_err (Err e) p = p

pub both_err : {T E P Q R : Type 0} (r : Result T E) → (P → Q → R) → OnErr r P → OnErr r Q → OnErr r R
both_err (Ok x) f p q = tt
both_err (Err e) f p q = f p q

-- ---- items of a list

pub next_item : {X : Type 0} (i : ℕ) (x : X) (xs : List X) → i < length xs → x ≡ get_or xs i x → drop i xs ≡ x ∷ drop (i + 1) xs
next_item i x xs h is = rw add-one (drop-cons xs i x h ∙ ap (λ y. y ∷ drop (suc i) xs) (sym is))

pub no_item : {X : Type 0} (i : ℕ) (xs : List X) → length xs ≤ i → drop i xs ≡ []
no_item zero [] le = refl
no_item zero (x ∷ xs) le = absurd (omega arith)
no_item (suc i) [] le = refl
no_item (suc i) (x ∷ xs) le = let below : length xs ≤ i = omega arith in no_item i xs below

-- a front went, and what is left is this
pub record WentTo (t u : Telling) (left more : List Deed) : Type 0 where
  pub done : List Deed
  pub whole : done ++ left ≡ more
  pub went : Went t u done

pub to_begin : (t : Telling) (more : List Deed) → WentTo t t more more
to_begin t more = record { done = []; whole = refl; went = went_nothing t }

to_next : (t u v : Telling) (xs left more : List Deed) → WentTo t u (xs ++ left) more → Went u v xs → WentTo t v left more
to_next t u v xs left more w q = record {
  done = w.done ++ xs;
  whole = append_assoc w.done xs left ∙ w.whole;
  went = went_on t u v w.done xs w.went q;
}

to_front : (t u v : Telling) (left more : List Deed) → WentTo t u left more → Did u v [] → WentFront t v more
to_front t u v left more w q = subst (WentFront t v) w.whole (went_front_on t u v w.done left w.went (still_went u v left q))

to_end : (t u : Telling) (more : List Deed) → WentTo t u [] more → Went t u more
to_end t u more w = subst (Went t u) (sym (append-nil w.done) ∙ w.whole) w.went

-- ---- pieces, each of which stands for its bytes

module _ {V : Type 0} (items : V → List ℕ) (node network : ℕ) where
  abbrev pub pieces_left : List V → List Deed
  pieces_left vs = map Exchanged (map (piece_to node network) (map items vs))

  pub piece_next : (t u v : Telling) (i : ℕ) (p : V) (ps : List V) (more : List Deed) → i < length ps → p ≡ get_or ps i p
      → WentTo t u (pieces_left (drop i ps)) more → Went u v (Exchanged (piece_to node network (items p)) ∷ []) → WentTo t v (pieces_left (drop (i + 1) ps)) more
  piece_next t u v i p ps more h is w q =
      to_next t u v (Exchanged (piece_to node network (items p)) ∷ []) (pieces_left (drop (i + 1) ps)) more (subst (λ x. WentTo t u (pieces_left x) more) (next_item i p ps h is) w) q

  pub piece_front : (t u v : Telling) (left more : List Deed) → WentTo t u left more → Did u v [] → WentFront t v more
  piece_front t u v left more w q = to_front t u v left more w q

  pub pieces_done : (t u : Telling) (i : ℕ) (ps : List V) (more : List Deed) → length ps ≤ i → WentTo t u (pieces_left (drop i ps)) more → Went t u more
  pieces_done t u i ps more le w = to_end t u more (subst (λ x. WentTo t u (pieces_left x) more) (no_item i ps le) w)

-- ---- a message

pub message_lost : (me inc number node network : ℕ) (message : List ℕ) (t : Telling) → can_cut message ≡ false → Went t t (map Exchanged (message_calls me inc number node network message))
message_lost me inc number node network message t e =
    subst (λ x. Went t t (map Exchanged (calls_if x (map (piece_to node network) (pieces_of (message_by me inc number message)))))) (sym e) (went_nothing t)

pub number_lost : (o : Outbox) (message : List ℕ) → can_cut message ≡ false → ◌≡◌ {A = Outbox} o (record o { number = number_if (can_cut message) o.number })
number_lost o message e = ap (λ x. record o { number = number_if x o.number }) (sym e)

-- its pieces are sent, or a front of them
pieces_are : (me inc number node network : ℕ) (message : List ℕ) (pieces : List (List ℕ)) → can_cut message ≡ true → pieces ≡ pieces_of (message_by me inc number message) → map (piece_to node network) pieces ≡ message_calls me inc number node network message
pieces_are me inc number node network message pieces e is =
    ap (map (piece_to node network)) is ∙ ap (λ x. calls_if x (map (piece_to node network) (pieces_of (message_by me inc number message)))) (sym e)

pub message_sent : (me inc number node network : ℕ) (message : List ℕ) (pieces : List (List ℕ)) (t u : Telling) → can_cut message ≡ true → pieces ≡ pieces_of (message_by me inc number message) → Went t u (map Exchanged (map (piece_to node network) pieces))
    → Went t u (map Exchanged (message_calls me inc number node network message))
message_sent me inc number node network message pieces t u e is w = subst (λ cs. Went t u (map Exchanged cs)) (pieces_are me inc number node network message pieces e is) w

pub message_front : (me inc number node network : ℕ) (message : List ℕ) (pieces : List (List ℕ)) (t u : Telling) → can_cut message ≡ true → pieces ≡ pieces_of (message_by me inc number message) → WentFront t u (map Exchanged (map (piece_to node network) pieces))
    → WentFront t u (map Exchanged (message_calls me inc number node network message))
message_front me inc number node network message pieces t u e is w = subst (λ cs. WentFront t u (map Exchanged cs)) (pieces_are me inc number node network message pieces e is) w

pub number_sent : (o : Outbox) (next : ℕ) (message : List ℕ) → can_cut message ≡ true → next ≡ o.number + 1 → ◌≡◌ {A = Outbox} (record o { number = next }) (record o { number = number_if (can_cut message) o.number })
number_sent o next message e n = ap (λ (k : ℕ). record o { number = k }) (n ∙ ap (λ x. number_if x o.number) (sym e))

-- how many pieces
pub message_unsent : (me inc number node network : ℕ) (message : List ℕ) → can_cut message ≡ false → 0 ≡ length (message_calls me inc number node network message)
message_unsent me inc number node network message e =
    ap (λ x. length (calls_if x (map (piece_to node network) (pieces_of (message_by me inc number message))))) (sym e)

pub message_count : {V : Type 0} (items : V → List ℕ) (me inc number node network n : ℕ) (message : List ℕ) (vs : List V) → can_cut message ≡ true → map items vs ≡ pieces_of (message_by me inc number message) → n ≡ length vs
    → n ≡ length (message_calls me inc number node network message)
message_count items me inc number node network n message vs e is so_many =
    so_many ∙ (sym (length-map vs items) ∙ (sym (length-map (map items vs) (piece_to node network)) ∙ ap length (pieces_are me inc number node network message (map items vs) e is)))

-- ---- a packet

pub packet_count : (me inc number n : ℕ) (p : Packet) (bytes : List ℕ) → bytes ≡ bytes_of p → n ≡ length (message_calls me inc number p.to p.network bytes) → n ≡ length (packet_calls me inc number p)
unfolding packet_calls
packet_count me inc number n p bytes is so_many = so_many ∙ ap (λ x. length (message_calls me inc number p.to p.network x)) is

pub packet_went : (me inc number : ℕ) (p : Packet) (bytes : List ℕ) (t u : Telling) → bytes ≡ bytes_of p → Went t u (map Exchanged (message_calls me inc number p.to p.network bytes)) → Went t u (map Exchanged (packet_calls me inc number p))
unfolding packet_calls
packet_went me inc number p bytes t u is w = subst (λ x. Went t u (map Exchanged (message_calls me inc number p.to p.network x))) is w

pub packet_front : (me inc number : ℕ) (p : Packet) (bytes : List ℕ) (t u : Telling) → bytes ≡ bytes_of p → WentFront t u (map Exchanged (message_calls me inc number p.to p.network bytes)) → WentFront t u (map Exchanged (packet_calls me inc number p))
unfolding packet_calls
packet_front me inc number p bytes t u is w = subst (λ x. WentFront t u (map Exchanged (message_calls me inc number p.to p.network x))) is w

pub packet_number : (o s : Outbox) (p : Packet) (bytes : List ℕ) → bytes ≡ bytes_of p → s ≡ record o { number = number_if (can_cut bytes) o.number } → s ≡ record o { number = number_past o.number p }
unfolding number_past
packet_number o s p bytes is n = n ∙ ap (λ x. record o { number = number_if (can_cut x) o.number }) is

pub is_spelled : (me inc number : ℕ) (p : Packet) → number < 2 ^ 64 → packet_of (bytes_of p) ≡ Some p → IsSpelled (numbered me inc number p)
is_spelled me inc number p fits read = record { fits = fits; read = read }

pub unsent : (me inc number : ℕ) (p : Packet) (t u : Telling) → Did t u [] → Did t u [] ⊎ IsSpelled (numbered me inc number p)
unsent me inc number p t u h = inl h

pub spelled_first : (me inc number : ℕ) (p : Packet) (t u : Telling) → number < 2 ^ 64 → packet_of (bytes_of p) ≡ Some p → Did t u [] ⊎ IsSpelled (numbered me inc number p)
spelled_first me inc number p t u fits read = inr (is_spelled me inc number p fits read)

-- ---- calls of one kind

module _ (make : LinkCall → Exchange) (back : (c : LinkCall) → call_of (make c) ≡ c) (spelled : (c : LinkCall) → IsSpelledIf (make c).of) where
  deeds_back : (cs : List LinkCall) → map deed_of (map Exchanges (map make cs)) ≡ map Exchanged cs
  deeds_back [] = refl
  deeds_back (c ∷ cs) = ap₂ (λ x xs. x ∷ xs) (ap Exchanged (back c)) (deeds_back cs)

  each_spelled : (cs : List LinkCall) → AreSpelled (map Exchanges (map make cs))
  each_spelled [] = tt
  each_spelled (c ∷ cs) = (spelled c, each_spelled cs)

  pub each_made : (t u : Telling) (cs : List LinkCall) → Went t u (map Exchanged cs) → Made t u (map Exchanges (map make cs))
  each_made t u cs w = record { went = subst (Went t u) (sym (deeds_back cs)) w; spelled = each_spelled cs }

  -- as many of the calls as were made
  front_len : (ds : List Deed) (cs : List LinkCall) → AreFront ds (map Exchanged cs) → (front : List LinkCall) × (back : List LinkCall) × (front ++ back ≡ cs) × AreFront ds (map Exchanged front) × (length ds ≡ length front)
  front_len [] cs f = ([], cs, refl, tt, refl)
  front_len (d ∷ ds) [] f = absurd f
  front_len (d ∷ ds) (c ∷ cs) (inl h) =
      let r = front_len ds cs h.1 in
      (c ∷ r.0, r.1, ap (λ x. c ∷ x) r.2, inl (h.0, r.3), ap suc r.4)
  front_len (d ∷ ds) (c ∷ cs) (inr h) = (c ∷ [], cs, refl, inr h, ap (λ (x : List Deed). suc (length x)) h.1)

  pub each_front : (t u : Telling) (cs : List LinkCall) → WentFront t u (map Exchanged cs) → MadeFront t u (map Exchanges (map make cs))
  each_front t u cs w =
      let r = front_len w.deeds cs w.front in
      record {
        front = map Exchanges (map make r.0);
        back = map Exchanges (map make r.1);
        whole = sym (map-append Exchanges (map make r.0) (map make r.1)) ∙ ap (map Exchanges) (sym (map-append make r.0 r.1) ∙ ap (map make) r.2);
        went = record { deeds = w.deeds; told = w.told; front = subst (AreFront w.deeds) (sym (deeds_back r.0)) r.3 };
        all = r.4 ∙ sym (length-map (map make r.0) Exchanges ∙ length-map r.0 make);
        spelled = each_spelled r.0;
      }

-- of no packet, with a number that fits
pub said_made : (number : ℕ) → number < 2 ^ 64 → (t u : Telling) (cs : List LinkCall) → Went t u (map Exchanged cs) → Made t u (map Exchanges (map (said number) cs))
said_made number fits = each_made (said number) (λ c. refl) (λ c. fits)

pub said_front : (number : ℕ) → number < 2 ^ 64 → (t u : Telling) (cs : List LinkCall) → WentFront t u (map Exchanged cs) → MadeFront t u (map Exchanges (map (said number) cs))
said_front number fits = each_front (said number) (λ c. refl) (λ c. fits)

-- ---- a packet that a network carries, or none does

pub is_nowhere : (n : ℕ) → n ≡ 0 → (n == 0) ≡ true
is_nowhere n e = eq-eqb n 0 e

pub is_somewhere : (n : ℕ) → (n ≡ 0 → ⊥) → (n == 0) ≡ false
is_somewhere n ne = by (n == 0) refl
  where
    by : (b : Bool) → (n == 0) ≡ b → b ≡ false
    by false e = refl
    by true e = absurd (ne (eqb-true n 0 e))

carried_if : Bool → ℕ → ℕ → ℕ → Packet → List LinkCall
carried_if x me inc number p = calls_if (not x && can_cut (bytes_of p)) (map (piece_call p) (packet_pieces me inc number p))

over_if : Bool → ℕ → Packet → ℕ
over_if x number p = number_if (not x && can_cut (bytes_of p)) number

nowhere_sent : (me inc number : ℕ) (p : Packet) → (p.network == 0) ≡ true → carried_calls me inc number p ≡ []
unfolding carried_calls carried_if
nowhere_sent me inc number p e = ap (λ x. carried_if x me inc number p) e

pub nowhere_number : (o : Outbox) (p : Packet) → (p.network == 0) ≡ true → ◌≡◌ {A = Outbox} o (record o { number = number_over o.number p })
unfolding number_over over_if
nowhere_number o p e = ap (λ (k : ℕ). record o { number = k }) (sym (ap (λ x. over_if x o.number p) e))

carried_sent : (me inc number : ℕ) (p : Packet) → (p.network == 0) ≡ false → packet_calls me inc number p ≡ carried_calls me inc number p
unfolding carried_calls packet_calls carried_if
carried_sent me inc number p e = sym (ap (λ x. carried_if x me inc number p) e)

pub carried_number : (o s : Outbox) (p : Packet) → (p.network == 0) ≡ false → s ≡ record o { number = number_past o.number p } → s ≡ record o { number = number_over o.number p }
unfolding number_over number_past over_if
carried_number o s p e n = n ∙ ap (λ (k : ℕ). record o { number = k }) (sym (ap (λ x. over_if x o.number p) e))

pub nowhere_made : (me inc number : ℕ) (p : Packet) (t : Telling) → (p.network == 0) ≡ true → Made t t (map Exchanges (carried me inc number p))
unfolding carried
nowhere_made me inc number p t e = subst (λ cs. Made t t (map Exchanges (map (piece_of (numbered me inc number p)) cs))) (sym (nowhere_sent me inc number p e)) (made_nothing t)

pub packet_made : (me inc number : ℕ) (p : Packet) (t u : Telling) → (p.network == 0) ≡ false → IsSpelled (numbered me inc number p) → Went t u (map Exchanged (packet_calls me inc number p)) → Made t u (map Exchanges (carried me inc number p))
unfolding carried
packet_made me inc number p t u e s w =
    each_made (piece_of (numbered me inc number p)) (λ c. refl) (λ c. s) t u (carried_calls me inc number p) (subst (λ cs. Went t u (map Exchanged cs)) (carried_sent me inc number p e) w)

-- a front of it was sent, and only if it is spelled
pub packet_made_front : (me inc number : ℕ) (p : Packet) (t u : Telling) → (p.network == 0) ≡ false → Did t u [] ⊎ IsSpelled (numbered me inc number p) → WentFront t u (map Exchanged (packet_calls me inc number p)) → MadeFront t u (map Exchanges (carried me inc number p))
unfolding carried
packet_made_front me inc number p t u e (inl still) w = still_made t u (map Exchanges (map (piece_of (numbered me inc number p)) (carried_calls me inc number p))) still
packet_made_front me inc number p t u e (inr s) w =
    each_front (piece_of (numbered me inc number p)) (λ c. refl) (λ c. s) t u (carried_calls me inc number p) (subst (λ cs. WentFront t u (map Exchanged cs)) (carried_sent me inc number p e) w)

pub nowhere_count : (me inc number : ℕ) (p : Packet) → (p.network == 0) ≡ true → 0 ≡ length (carried me inc number p)
unfolding carried
nowhere_count me inc number p e = ap (λ cs. length (map (piece_of (numbered me inc number p)) cs)) (sym (nowhere_sent me inc number p e))

pub carried_count : (me inc number n : ℕ) (p : Packet) → (p.network == 0) ≡ false → n ≡ length (packet_calls me inc number p) → n ≡ length (carried me inc number p)
unfolding carried
carried_count me inc number n p e so_many =
    so_many ∙ (ap length (carried_sent me inc number p e) ∙ sym (length-map (carried_calls me inc number p) (piece_of (numbered me inc number p))))

-- ---- packets

-- what is left is that of the packets that are left, from where the outbox stands
pub record PacketsTo (o first : Outbox) (left all : List Packet) (t u : Telling) : Type 0 where
  pub done : List Doing
  pub whole : done ++ map Exchanges (sent_calls first.me first.incarnation o.number left) ≡ map Exchanges (sent_calls first.me first.incarnation first.number all)
  pub made : Made t u done
  pub is : o ≡ record first { number = o.number }
  pub number_is : number_after o.number left ≡ number_after first.number all

pub packets_begin : (o : Outbox) (ps : List Packet) (t : Telling) → PacketsTo o o ps ps t t
packets_begin o ps t = record { done = []; whole = refl; made = made_nothing t; is = refl; number_is = refl }

packets_at : (o first : Outbox) (i : ℕ) (p : Packet) (ps : List Packet) (t u : Telling) → i < length ps → p ≡ get_or ps i p → PacketsTo o first (drop i ps) ps t u → PacketsTo o first (p ∷ drop (i + 1) ps) ps t u
packets_at o first i p ps t u h is w = subst (λ x. PacketsTo o first x ps t u) (next_item i p ps h is) w

packets_left : (o first : Outbox) (i : ℕ) (ps : List Packet) (t u : Telling) → length ps ≤ i → PacketsTo o first (drop i ps) ps t u → PacketsTo o first [] ps t u
packets_left o first i ps t u le w = subst (λ x. PacketsTo o first x ps t u) (no_item i ps le) w

of_first : (o first : Outbox) (p : Packet) (t u : Telling) (P : Telling → Telling → List Doing → Type 0) → o ≡ record first { number = o.number } → P t u (map Exchanges (carried o.me o.incarnation o.number p)) → P t u (map Exchanges (carried first.me first.incarnation o.number p))
of_first o first p t u P is h = subst (λ (x : Outbox). P t u (map Exchanges (carried x.me x.incarnation o.number p))) is h

pub packets_next : (o s first : Outbox) (i : ℕ) (p : Packet) (ps : List Packet) (t u v : Telling) → i < length ps → p ≡ get_or ps i p → s ≡ record o { number = number_over o.number p }
    → PacketsTo o first (drop i ps) ps t u → Made u v (map Exchanges (carried o.me o.incarnation o.number p)) → PacketsTo s first (drop (i + 1) ps) ps t v
unfolding sent_calls number_after
packets_next o s first i p ps t u v h is past w q =
    let at : PacketsTo o first (p ∷ drop (i + 1) ps) ps t u = packets_at o first i p ps t u h is w in
    let made : Made u v (map Exchanges (carried first.me first.incarnation o.number p)) = of_first o first p u v Made at.is q in
    let rest : List Exchange = sent_calls first.me first.incarnation (number_over o.number p) (drop (i + 1) ps) in
    rw past (record {
      done = at.done ++ map Exchanges (carried first.me first.incarnation o.number p);
      whole = append_assoc at.done (map Exchanges (carried first.me first.incarnation o.number p)) (map Exchanges rest)
          ∙ (ap (λ x. at.done ++ x) (sym (map-append Exchanges (carried first.me first.incarnation o.number p) rest)) ∙ at.whole);
      made = made_on t u v at.done (map Exchanges (carried first.me first.incarnation o.number p)) at.made made;
      is = ap (λ (x : Outbox). record x { number = number_over o.number p }) at.is;
      number_is = at.number_is;
    })

pub packets_front : (o first : Outbox) (i : ℕ) (p : Packet) (ps : List Packet) (t u v : Telling) → i < length ps → p ≡ get_or ps i p
    → PacketsTo o first (drop i ps) ps t u → MadeFront u v (map Exchanges (carried o.me o.incarnation o.number p)) → MadeFront t v (map Exchanges (sent_calls first.me first.incarnation first.number ps))
unfolding sent_calls
packets_front o first i p ps t u v h is w q =
    let at : PacketsTo o first (p ∷ drop (i + 1) ps) ps t u = packets_at o first i p ps t u h is w in
    let made : MadeFront u v (map Exchanges (carried first.me first.incarnation o.number p)) = of_first o first p u v MadeFront at.is q in
    let rest : List Exchange = sent_calls first.me first.incarnation (number_over o.number p) (drop (i + 1) ps) in
    subst (MadeFront t v) (ap (λ x. at.done ++ x) (sym (map-append Exchanges (carried first.me first.incarnation o.number p) rest)) ∙ at.whole)
    (made_front_on t u v at.done (map Exchanges (carried first.me first.incarnation o.number p) ++ map Exchanges rest) at.made (made_front_more u v (map Exchanges (carried first.me first.incarnation o.number p)) (map Exchanges rest) made))

pub packets_done : (o first : Outbox) (i : ℕ) (ps : List Packet) (t u : Telling) → length ps ≤ i → PacketsTo o first (drop i ps) ps t u → Made t u (map Exchanges (sent_calls first.me first.incarnation first.number ps))
unfolding sent_calls
packets_done o first i ps t u le w =
    let at : PacketsTo o first [] ps t u = packets_left o first i ps t u le w in
    subst (Made t u) (sym (append-nil at.done) ∙ at.whole) at.made

pub packets_number : (o first : Outbox) (i : ℕ) (ps : List Packet) (t u : Telling) → length ps ≤ i → PacketsTo o first (drop i ps) ps t u → o ≡ record first { number = number_after first.number ps }
unfolding number_after
packets_number o first i ps t u le w =
    let at : PacketsTo o first [] ps t u = packets_left o first i ps t u le w in
    at.is ∙ ap (λ (k : ℕ). record first { number = k }) at.number_is

-- ---- how many datagrams

-- What is counted up to here, and what is left, is all that is to be counted.
pub record CountTo (n : ℕ) (o first : Outbox) (left all : List Packet) : Type 0 where
  pub within : n ≤ last_u64
  pub so_many : sent_more n (sent_calls first.me first.incarnation o.number left) ≡ sent_more 0 (sent_calls first.me first.incarnation first.number all)

pub count_begins : (o : Outbox) (ps : List Packet) → CountTo 0 o o ps ps
count_begins o ps = record { within = omega arith; so_many = refl }

pub count_next : (n k : ℕ) (o s first : Outbox) (i : ℕ) (p : Packet) (ps : List Packet) (t u : Telling) (m : ℕ) → i < length ps → p ≡ get_or ps i p → s ≡ record o { number = number_over o.number p } → PacketsTo o first (drop i ps) ps t u
    → k ≡ length (carried o.me o.incarnation o.number p) → m ≡ min (n + k) last_u64 → CountTo n o first (drop i ps) ps → CountTo m s first (drop (i + 1) ps) ps
unfolding sent_calls
count_next n k o s first i p ps t u m h is past to so_many more w =
    let rest : List Exchange = sent_calls first.me first.incarnation (number_over o.number p) (drop (i + 1) ps) in
    let own : k ≡ length (carried first.me first.incarnation o.number p) = so_many ∙ ap (λ (x : Outbox). length (carried x.me x.incarnation o.number p)) to.is in
    let at : sent_more n (carried first.me first.incarnation o.number p ++ rest) ≡ sent_more 0 (sent_calls first.me first.incarnation first.number ps)
    = subst (λ x. sent_more n (sent_calls first.me first.incarnation o.number x) ≡ sent_more 0 (sent_calls first.me first.incarnation first.number ps)) (next_item i p ps h is) w.so_many in
    let both : length (carried first.me first.incarnation o.number p ++ rest) ≡ length (carried first.me first.incarnation o.number p) + length rest = length-append (carried first.me first.incarnation o.number p) rest in
    let sum : min (m + length rest) last_u64 ≡ min (n + length (carried first.me first.incarnation o.number p ++ rest)) last_u64 = omega (arith, own, more, both) in
    rw past (record { within = omega (arith, more); so_many = sum ∙ at })

pub count_done : (n : ℕ) (o first : Outbox) (i : ℕ) (ps : List Packet) → length ps ≤ i → CountTo n o first (drop i ps) ps → n ≡ sent_more 0 (sent_calls first.me first.incarnation first.number ps)
unfolding sent_calls
count_done n o first i ps le w =
    let at : sent_more n [] ≡ sent_more 0 (sent_calls first.me first.incarnation first.number ps)
    = subst (λ x. sent_more n (sent_calls first.me first.incarnation o.number x) ≡ sent_more 0 (sent_calls first.me first.incarnation first.number ps)) (no_item i ps le) w.so_many in
    let all : n ≡ min (n + 0) last_u64 = omega (arith, w.within) in
    all ∙ at
