-- What a step's changes let providers hear: each just the next place, in its turn.
use Rattle.std.proofs.Common.{◌≡◌, ◌⊎◌, ℕ, ◌+◌, List, [], ◌∷◌, ◌++◌, Option, Some, None, Bool, true, false, refl, sym, ap, ◌∙◌, subst, inl, inr, ⊎_elim, arith}
use Rattle.std.specs.Prelude.{not, filter, flat_map}
use Rattle.std.specs.Str.{bytes_eq}
use Rattle.std.proofs.lemmas.Bool.{and_parts}
use Rattle.rsct_packet.specs.declared.ids.ViewId.{ViewId}
use Rattle.rsct_packet.specs.declared.ids.ProviderId.{ProviderId}
use Rattle.rsct_packet.specs.declared.ids.ProtoId.{ProtoId}
use Rattle.rsct_packet.specs.Search.{Has}
use Rattle.rsct_packet.proofs.HasLaws.{has_filter, has_append}
use Rattle.proposal_core.specs.declared.entry.Entry.{Entry}
use Rattle.proposal_core.specs.declared.entry.Entry.TheVariants.{Once, Begin}
use Rattle.proposal_core.specs.declared.group_state.GroupState.{GroupState}
use Rattle.proposal_core.specs.Fold.{joins_of, joiners_in, present}
use Rattle.client_callbacks.specs.declared.ballot.Filled.{Filled}
use Rattle.client_callbacks.specs.Ballots.{BallotView}
use Rattle.session_state.specs.declared.casts.Cast.{Cast}
use Rattle.session_state.specs.declared.state.Provider.{Provider}
use Rattle.session_state.specs.declared.state.SessionState.{SessionState}
use Rattle.session_state.specs.State.{provider_of}
use Rattle.session_state.specs.HandOn.{hears, hearers_in, brought_by, beginners, hearers, cast_of, casts_of}
use Rattle.node_state.specs.declared.happened.Happened.{Happened}
use Rattle.node_state.specs.declared.happened.Happened.TheVariants as happened
use Rattle.node_state.specs.HandOn.{cast_record, cast_records}
use Rattle.run_safety.specs.Past.{History, Within, earlier}
use Rattle.run_safety.specs.Stays.{is_join_of}
use Rattle.run_safety.proofs.Order.{lt_not_same}
use Rattle.step_refinement.proofs.SessionLaws.{cast_has}
use Rattle.row_laws.specs.hearing.Hearing.{last_heard, next_place}
use Rattle.row_laws.specs.hearing.Changes.{Aside}
use Rattle.row_laws.proofs.hearing.Handing.{has_among, hearer_found}
use Rattle.row_laws.proofs.hearing.Attending.{Stance, Before, Left, Gone, Attends, Attending, heard_other, pushed, pushed_append, heard_at}
use Rattle.provider_laws.specs.attending.Places.{Alone, Named, IsNext, IsUp, NextHeard}
use Rattle.provider_laws.proofs.attending.Alone.{alone_filter, alone_append, alone_left, alone_right, alone_apart}

-- ---- records that nobody hears

pub aside_next : (now : List Happened) (before : History) (r : Happened) → Aside r → NextHeard now before r
aside_next now before (happened.Heard p v g i e ms value) a = absurd a
aside_next now before _ a = tt

-- what holds of each record of such a kind goes on with these
pub within_pushed : (P : List Happened → History → Happened → Type 0) (A : Happened → Type 0) → ((now : List Happened) (before : History) (r : Happened) → A r → P now before r) → (rs now : List Happened) (before : History) → ((r : Happened) → Has r rs → A r) → Within P now before → Within P (pushed rs now) before
within_pushed P A of [] now before all k = k
within_pushed P A of (r ∷ rs) now before all k =
    within_pushed P A of rs (r ∷ now) before (λ q h. all q (inr h)) (of now before r (all r (inl refl)), k)

-- and what no ballot changes, none of a notice does
pub casts_keep : (P : List Happened → Type 0) → ((p : ProviderId) (proto : ProtoId) (phase : ℕ) (b : Filled) (now : List Happened) → P now → P (happened.Cast p proto phase b.vote b.value b.message ∷ now)) → (p : ProviderId) (o : Option (ProtoId × ℕ × BallotView)) (now : List Happened) → P now → P (pushed (cast_records p o) now)
unfolding cast_records cast_record
casts_keep P one p None now k = k
casts_keep P one p (Some c) now k = by (c.2).filled
  where
    by : (b : Option Filled) → P (pushed (cast_record p c.0 c.1 b) now)
    by None = k
    by (Some b) = one p c.0 c.1 b now k

-- ---- who hears an entry

brought_alone : (e : Entry) → Named e → Alone (brought_by e)
brought_alone (Once x) k = k
brought_alone (Begin x) k = k
brought_alone _ k = tt

pub hearers_alone : (s : SessionState) (g : List ℕ) (before : GroupState) (e : Entry) → Alone (present before) → Named e → Alone (hearers s g before e)
unfolding hearers hearers_in beginners
hearers_alone s g before e a n =
    alone_append (members ++ joiners) new (alone_append members joiners (alone_filter test before.members (alone_left before.members (joiners_in before.running) a)) (alone_filter test (joiners_in before.running) (alone_right before.members (joiners_in before.running) a)) apart) (alone_filter begins (brought_by e) (brought_alone e n)) other
  where
    test : ProviderId → Bool
    test p = hears g true (provider_of s p)

    begins : ProviderId → Bool
    begins p = hears g false (provider_of s p)

    members : List ProviderId
    members = filter test before.members

    joiners : List ProviderId
    joiners = filter test (joiners_in before.running)

    new : List ProviderId
    new = filter begins (brought_by e)

    apart : (p : ProviderId) → Has p members → Has p joiners → ⊥
    apart p h k = alone_apart before.members (joiners_in before.running) p a (has_filter test p before.members h).0 (has_filter test p (joiners_in before.running) k).0

    both : (o : Option Provider) → hears g true o ≡ true → hears g false o ≡ true → ⊥
    both None x y = cc
    both (Some z) x y = out z.takes_part (and_parts z.takes_part (bytes_eq z.group g) x).0 (and_parts (not z.takes_part) (bytes_eq z.group g) y).0
      where
        out : (b : Bool) → b ≡ true → not b ≡ true → ⊥
        out true p q = cc
        out false p q = cc

    other : (p : ProviderId) → Has p (members ++ joiners) → Has p new → ⊥
    other p h k =
        both (provider_of s p) (⊎_elim (λ (i : Has p members). (has_filter test p before.members i).1) (λ (i : Has p joiners). (has_filter test p (joiners_in before.running) i).1) (has_append p members joiners h)) (has_filter begins p (brought_by e) k).1

-- a join that names the provider brings it
join_brings : (p : ProviderId) (e : Entry) → Has p (brought_by e) → is_join_of p e ≡ true
join_brings p (Once x) h = has_among (joins_of x) p h
join_brings p (Begin x) h = has_among (joins_of x) p h
join_brings p _ h = absurd h

-- who begins is named by the entry
pub begins_by_join : (t : SessionState) (h : List ℕ) (e : Entry) (p : ProviderId) → Has p (beginners t h e) → is_join_of p e ≡ true
unfolding beginners hearers_in
begins_by_join t h e p k = join_brings p e (has_filter (λ p. hears h false (provider_of t p)) p (brought_by e) k).0

-- the casts of providers that differ are of such
abbrev pub CastsAlone : List Cast → Type 0
CastsAlone [] = Unit {0}
CastsAlone (c ∷ cs) = ((d : Cast) → Has d cs → d.provider ≡ c.provider → ⊥) × CastsAlone cs

pub casts_alone : (e : Entry) (after : GroupState) (level : ℕ) (ps : List ProviderId) (bs : List (Option Filled)) → Alone ps → CastsAlone (casts_of e after level ps bs)
unfolding cast_of
casts_alone e after level [] bs a = tt
casts_alone e after level (q ∷ ps) [] a =
    (λ d h is. a.0 (subst (λ z. Has z ps) is (cast_has e after level ps [] d h)), casts_alone e after level ps [] a.1)
casts_alone e after level (q ∷ ps) (b ∷ bs) a =
    (λ d h is. a.0 (subst (λ z. Has z ps) is (cast_has e after level ps bs d h)), casts_alone e after level ps bs a.1)

-- ---- an entry that was put is handed on

module _ (before : History) (v : ViewId) (h : List ℕ) (i : ℕ) (e : Entry) (st : GroupState) where
  abbrev Next : List Happened → ProviderId → Type 0
  Next now p = IsNext p e (last_heard p v h (earlier now before)) i × IsUp p v (earlier now before)

  -- what is heard and cast moves no node
  casts_up : (p : ProviderId) (o : Option (ProtoId × ℕ × BallotView)) (now : List Happened) (q : ProviderId) → IsUp q v (earlier now before) → IsUp q v (earlier (pushed (cast_records p o) now) before)
  casts_up p o now q k = casts_keep (λ z. IsUp q v (earlier z before)) (λ w proto phase b z i. i) p o now k

  cast_last : (p : ProviderId) (o : Option (ProtoId × ℕ × BallotView)) (now : List Happened) (q : ProviderId) → last_heard q v h (earlier (pushed (cast_records p o) now) before) ≡ last_heard q v h (earlier now before)
  cast_last p o now q = casts_keep (λ z. last_heard q v h (earlier z before) ≡ last_heard q v h (earlier now before)) (λ w proto phase b z i. i) p o now refl

  pub all_next : (cs : List Cast) (now : List Happened) → Within NextHeard now before → ((c : Cast) → Has c cs → Next now c.provider) → CastsAlone cs → Within NextHeard (pushed (flat_map (heard_at v h i e st) cs) now) before
  all_next [] now k next alone = k
  all_next (c ∷ cs) now k next alone =
      let heard : List Happened = happened.Heard c.provider v h i e st.members st.value ∷ now in
      let mid : List Happened = pushed (cast_records c.provider c.cast) heard in
      let law : Within NextHeard mid before = casts_keep (λ z. Within NextHeard z before) (λ w proto phase b z i. (tt, i)) c.provider c.cast heard (next c (inl refl), k) in
      subst (λ z. Within NextHeard z before) (sym (pushed_append (heard_at v h i e st c) (flat_map (heard_at v h i e st) cs) now)) (all_next cs mid law (λ d j. (subst (λ o. IsNext d.provider e o i) (sym (cast_last c.provider c.cast heard d.provider ∙ heard_other d.provider v h c.provider v h i e st.members st.value (earlier now before) (alone.0 d j))) (next d (inr j)).0, casts_up c.provider c.cast heard d.provider (next d (inr j)).1)) alone.1)

-- who hears an entry heard the place before it last, or nothing of the list
pub hearer_next : (n inc : ℕ) (before : History) (v : ViewId) (t : SessionState) (now : List Happened) (lens : List ℕ → ℕ) (states : List ℕ → GroupState) → Attending n inc before v t now lens states → (h : List ℕ) (e : Entry) (p : ProviderId) → Has p (hearers t h (states h) e) → IsNext p e (last_heard p v h (earlier now before)) (lens h)
hearer_next n inc before v t now lens states k h e p hears = by (last_heard p v h (earlier now before)) refl
  where
    found : (x : Provider) × (provider_of t p ≡ Some x) × (x.group ≡ h) × ((x.takes_part ≡ true) ⊎ Has p (beginners t h e))
    found = hearer_found t h (states h) e p hears

    next : (j : ℕ) → Stance inc v t lens p v h j → lens h ≡ j + 1
    next j (Before a) = absurd (let z = (k.own p found.0 found.1).1 in omega arith)
    next j (Left a) = absurd (lt_not_same v v a refl)
    next j (Gone a b) = absurd (let z : Some found.0 ≡ None = sym found.1 ∙ a in cc)
    next j (Attends a b x c d f) = b

    first : last_heard p v h (earlier now before) ≡ None → (x : Provider) → provider_of t p ≡ Some x → x.group ≡ h → (x.takes_part ≡ true) ⊎ Has p (beginners t h e) → (lens h ≡ 0) ⊎ (is_join_of p e ≡ true)
    first q x at group (inl take) =
        inl (subst (λ g. lens g ≡ next_place (last_heard p v g (earlier now before))) group (k.upto p x at take) ∙ ap next_place q)
    first q x at group (inr begins) = inr (begins_by_join t h e p begins)

    by : (o : Option ℕ) → last_heard p v h (earlier now before) ≡ o → IsNext p e o (lens h)
    by None q = first q found.0 found.1 found.2 found.3
    by (Some j) q = next j (k.heard p v h j (k.own p found.0 found.1).0 q)
