-- What stands of one provider at its node in the middle of a step: who waits by the records is a provider that waits, who takes part
-- is one that takes part, and at each put that came so far it heard where it took part.
use Rattle.std.proofs.Common.{◌≡◌, ◌⊎◌, ℕ, List, [], ◌∷◌, ◌++◌, Option, Some, Bool, true, false, refl, sym, ap, ◌∙◌, subst, inl, inr, ⊎_elim, append_assoc}
use Rattle.std.specs.Prelude.{reverse, IsTrue}
use Rattle.std.proofs.lemmas.List.{reverse-append}
use Rattle.rsct_packet.specs.declared.ids.ViewId.{ViewId}
use Rattle.rsct_packet.specs.declared.ids.ProviderId.{ProviderId}
use Rattle.rsct_packet.specs.Search.{Has}
use Rattle.proposal_core.specs.declared.entry.Entry.{Entry}
use Rattle.proposal_core.specs.declared.group_state.GroupState.{GroupState}
use Rattle.proposal_core.specs.Fold.{after}
use Rattle.client_callbacks.specs.declared.ballot.Filled.{Filled}
use Rattle.client_callbacks.specs.declared.told.Why.{Why}
use Rattle.client_callbacks.specs.declared.told.Why.TheVariants as why
use Rattle.session_state.specs.declared.state.Provider.{Provider}
use Rattle.session_state.specs.declared.state.Request.{Request}
use Rattle.session_state.specs.declared.state.SessionState.{SessionState}
use Rattle.session_state.specs.State.{provider_of}
use Rattle.session_state.specs.HandOn.{is_join, is_dissolved, take_telling, beginners, handed_on}
use Rattle.node_state.specs.declared.happened.Happened.{Happened}
use Rattle.node_state.specs.declared.happened.Happened.TheVariants as happened
use Rattle.run_safety.specs.Past.{History, Within, earlier}
use Rattle.run_safety.specs.Requests.{carried}
use Rattle.run_safety.specs.Stays.{stays, part, takes_part}
use Rattle.run_safety.specs.Stays as stay
use Rattle.step_refinement.proofs.SessionLaws.{handed_later, handed_gone}
use Rattle.row_laws.proofs.hearing.Handing.{handed_kept}
use Rattle.row_laws.proofs.hearing.Sessions.{fewer_told}
use Rattle.provider_laws.proofs.attending.Turns.{begins_by_join}
use Rattle.provider_laws.proofs.attending.Staying.{InStay}
use Rattle.run_laws.specs.seen_runs.Seen.{WasTold}
use Rattle.provider_laws.proofs.leaving.Left.{told_kept}
use Rattle.run_laws.specs.gapless.Takers.{Taker, Stood, AskedJoin, Dissolving}
use Rattle.run_laws.proofs.gapless.Forward.{Drops, told_stands, asked_own}
use Rattle.run_laws.proofs.gapless.Growing.{asked_back, Over, over_more, dissolving_more, Inert, inert_unasked, inert_stays}
use Rattle.row_laws.proofs.failed_rows.Asked.{join_carried}

-- a request for a join has the number of its provider, which does not take part
abbrev pub JoinWaits : SessionState → Type 0
JoinWaits t = (q : Request) → Has q t.requests → is_join q.proposal ≡ true → (q.request ≡ q.provider.join) × ((y : Provider) → provider_of t q.provider ≡ Some y → y.takes_part ≡ false)

pub told_joins : (t : SessionState) (q : ProviderId) (r : ℕ) (y : Why) → JoinWaits t → JoinWaits (take_telling t q r y)
told_joins t q r y k z i j = let a = k z ((told_kept t q r y).1 z i) j in (a.0, λ x f. a.1 x ((fewer_told t q r y).providers z.provider x f))

pub handed_joins : (t : SessionState) (h : List ℕ) (before after : GroupState) (e : Entry) (bs : List (Option Filled)) → JoinWaits t → JoinWaits (handed_on t h before after e bs)
handed_joins t h before after e bs k q there j =
    let a = k q ((handed_later t h before after e bs).requests q there) j in (a.0, λ y f. not_yet a.0 a.1 y f y.takes_part refl)
  where
    not_yet : q.request ≡ q.provider.join → ((y : Provider) → provider_of t q.provider ≡ Some y → y.takes_part ≡ false) → (y : Provider) → provider_of (handed_on t h before after e bs) q.provider ≡ Some y → (b : Bool) → y.takes_part ≡ b → y.takes_part ≡ false
    not_yet number none y f false z = z
    not_yet number none y f true z =
        let b = (handed_kept t h before after e bs).back q.provider y f in
        absurd (⊎_elim (λ (u : (b.0).takes_part ≡ true). let x : true ≡ false = sym u ∙ none b.0 b.1 in cc) (λ (u : Has q.provider (beginners t h e)). handed_gone t h before after e bs q there (subst (λ r. Has {A = ProviderId × ℕ} (q.provider, r) (carried e)) (sym number) (join_carried q.provider e (begins_by_join t h e q.provider u)))) (b.4 z))

dissolved_so : (y : Why) → is_dissolved y ≡ true → stay.is_dissolved y ≡ true
dissolved_so why.Dissolved e = refl
dissolved_so _ e = absurd (cc)

-- final: what the event records in all
module _ (n : ℕ) (before : History) (p : ProviderId) (node : p.node ≡ n) (final : List Happened) where
  abbrev pub Heard_at : ViewId → List ℕ → ℕ → Entry → Type 0
  Heard_at v g i e = (ms : List ProviderId) × (value : List ℕ) × Has (happened.Heard p v g i e ms value) final

  -- at a put of the node the provider hears, where it takes part, or was told before that its group is dissolved
  abbrev pub Law : List Happened → History → Happened → Type 0
  Law now before (happened.Put m v g i e) =
      p.node ≡ m → IsTrue (takes_part i (part p (stays m g (happened.Put m v g i e ∷ earlier now before)))) → Dissolving p (earlier now before) ⊎ Heard_at v g i e
  Law now before _ = Unit {0}

  pub record Inv (v : ViewId) (t : SessionState) (now : List Happened) (lens : List ℕ → ℕ) (states : List ℕ → GroupState) : Type 0 where
    pub stay : (g : List ℕ) → InStay v (stays n g (earlier now before)) (lens g) (states g)
    pub waits : (g : List ℕ) → AskedJoin g p (earlier now before) → Stood t p g false ⊎ Over n g p (earlier now before)
    pub takes : (g : List ℕ) → Taker p (stays n g (earlier now before)) → Stood t p g true ⊎ Dissolving p (earlier now before)
    pub joins : JoinWaits t
    pub law : Within Law now before

  inert_law : (now : List Happened) (r : Happened) → Inert r → Law now before r
  inert_law now (happened.Put m v g i e) a = absurd a
  inert_law now _ a = tt

  module _ (v : ViewId) (lens : List ℕ → ℕ) (states : List ℕ → GroupState) where
    -- a record of which nothing depends
    pub inv_record : (t : SessionState) (now : List Happened) (r : Happened) → Inert r → Inv v t now lens states → Inv v t (r ∷ now) lens states
    inv_record t now r a k =
        record {
          stay = λ g. subst (λ xs. InStay v xs (lens g) (states g)) (sym (inert_stays n g r (earlier now before) a)) (k.stay g);
          waits = λ g q. ⊎_elim (λ (i : Stood t p g false). inl i) (λ (i : Over n g p (earlier now before)). inr (over_more n g p r (earlier now before) i)) (k.waits g (asked_back g p r (earlier now before) (inert_unasked r a) q));
          takes = λ g q. ⊎_elim (λ (i : Stood t p g true). inl i) (λ (i : Dissolving p (earlier now before)). inr (dissolving_more p r (earlier now before) i)) (k.takes g (subst (Taker p) (inert_stays n g r (earlier now before) a) q));
          joins = k.joins;
          law = (inert_law now r a, k.law);
        }

    pub inv_records : (t : SessionState) (rs xs : List Happened) → ((r : Happened) → Has r rs → Inert r) → Inv v t (reverse xs) lens states → Inv v t (reverse (xs ++ rs)) lens states
    inv_records t [] xs all k = subst (λ z. Inv v t (reverse z) lens states) (sym (nothing xs)) k
      where
        nothing : (xs : List Happened) → xs ++ [] ≡ xs
        nothing [] = refl
        nothing (y ∷ ys) = ap (λ z. y ∷ z) (nothing ys)
    inv_records t (r ∷ rs) xs all k =
        subst (λ z. Inv v t (reverse z) lens states) (append_assoc xs (r ∷ []) rs) (inv_records t rs (xs ++ r ∷ []) (λ q h. all q (inr h)) (subst (λ z. Inv v t z lens states) (sym (reverse-append xs (r ∷ []))) (inv_record t (reverse xs) r (all r (inl refl)) k)))

    -- a provider is told
    pub inv_told : (t : SessionState) (now : List Happened) (q : ProviderId) (r : ℕ) (y : Why) → Inv v t now lens states → Inv v (take_telling t q r y) (happened.Told q r y ∷ now) lens states
    inv_told t now q r y k =
        record { stay = k.stay; waits = λ g a. waits g (k.waits g (asked_back g p told (earlier now before) tt a)); takes = λ g a. takes g (k.takes g a); joins = told_joins t q r y k.joins; law = (tt, k.law) }
      where
        told : Happened
        told = happened.Told q r y

        rs : List Happened
        rs = earlier now before

        -- why it is dropped
        off : q ≡ p → Drops t q r y → (z : Bool) → (WasTold p p.join (told ∷ rs)) ⊎ Dissolving p (told ∷ rs)
        off same (inr d) z = inr (record { number = r; why = y; told = inl (λ i. happened.Told (sym same i) r y); is = dissolved_so y d })
        off same (inl d) z =
            let own = asked_own t q d.0 d.1 in
            let number : (d.0).request ≡ (d.0).provider.join = (k.joins d.0 own.0 d.3).0 in
            inl (inl (same, sym d.2 ∙ number ∙ ap (λ (z : ProviderId). z.join) (own.1 ∙ same)))

        waits : (g : List ℕ) → Stood t p g false ⊎ Over n g p rs → Stood (take_telling t q r y) p g false ⊎ Over n g p (told ∷ rs)
        waits g (inr o) = inr (over_more n g p told rs o)
        waits g (inl s) =
            ⊎_elim (λ (f : provider_of (take_telling t q r y) p ≡ Some s.provider). inl (record { provider = s.provider; found = f; group = s.group; part_is = s.part_is })) (λ (d : (q ≡ p) × Drops t q r y). inr (inr (off d.0 d.1 true))) (told_stands t q r y p s.provider s.found)

        takes : (g : List ℕ) → Stood t p g true ⊎ Dissolving p rs → Stood (take_telling t q r y) p g true ⊎ Dissolving p (told ∷ rs)
        takes g (inr o) = inr (dissolving_more p told rs o)
        takes g (inl s) =
            ⊎_elim (λ (f : provider_of (take_telling t q r y) p ≡ Some s.provider). inl (record { provider = s.provider; found = f; group = s.group; part_is = s.part_is })) (λ (d : (q ≡ p) × Drops t q r y). inr (gone d.0 d.1)) (told_stands t q r y p s.provider s.found)
          where
            gone : q ≡ p → Drops t q r y → Dissolving p (told ∷ rs)
            gone same (inr d) = record { number = r; why = y; told = inl (λ i. happened.Told (sym same i) r y); is = dissolved_so y d }
            gone same (inl d) =
                let own = asked_own t q d.0 d.1 in
                let no_part : s.provider.takes_part ≡ false = (k.joins d.0 own.0 d.3).1 s.provider (ap (provider_of t) (own.1 ∙ same) ∙ s.found) in
                absurd (let z : true ≡ false = sym s.part_is ∙ no_part in cc)
