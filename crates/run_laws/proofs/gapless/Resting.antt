-- What is kept between events: whose join waits by the records, and was not let go, waits at its node; and who takes part does there.
use Rattle.std.proofs.Common.{◌≡◌, ◌⊎◌, ℕ, List, [], ◌∷◌, ◌++◌, Option, Some, None, true, false, refl, sym, ap, ◌∙◌, subst, inl, inr, ⊎_elim}
use Rattle.std.specs.Prelude.{◌&&◌, not}
use Rattle.std.specs.List.{list_any}
use Rattle.rsct_packet.specs.declared.ids.ProviderId.{ProviderId}
use Rattle.rsct_packet.specs.Providers.{among}
use Rattle.rsct_packet.specs.Search.{Has}
use Rattle.rsct_packet.proofs.HasLaws.{has_append}
use Rattle.proposal_core.specs.declared.group_state.GroupState.{GroupState}
use Rattle.proposal_core.specs.Fold.{empty_state, present}
use Rattle.node_state.specs.declared.happened.Happened.{Happened}
use Rattle.node_state.specs.declared.happened.Happened.TheVariants as happened
use Rattle.node_state.specs.declared.state.Core.{Core}
use Rattle.world_model.specs.Run.{Happening}
use Rattle.run_safety.specs.Past.{History, records_of, inc_now, fold_from}
use Rattle.run_safety.specs.Stays.{Stay, stays, ends, client_of, goodbye_of, is_refused, lets_go, was_let_go}
use Rattle.step_refinement.specs.Tied.{Scene}
use Rattle.step_refinement.proofs.SessionLaws.{provider_self}
use Rattle.provider_laws.proofs.attending.Staying.{InStay}
use Rattle.run_laws.specs.gapless.Takers.{Taker, Stood, AskedJoin, Dissolving}
use Rattle.run_laws.proofs.gapless.Firsts.{taker_present}
use Rattle.run_laws.proofs.gapless.Growing.{Over, Unasked, asked_back, over_more}
use Rattle.run_laws.proofs.gapless.Standing.{JoinWaits}
use Rattle.run_safety.proofs.Tests.{has_any}
use Rattle.std.proofs.lemmas.Bool.{or_parts}

-- how the provider stands at its node, by the history
pub record Known (p : ProviderId) (h : History) (s : Core) : Type 0 where
  pub waits : (g : List ℕ) → AskedJoin g p (records_of h) → Stood s.sessions p g false ⊎ Over p.node g p (records_of h)
  pub takes : (g : List ℕ) → Taker p (stays p.node g (records_of h)) → Stood s.sessions p g true

abbrev pub KnownIf : ProviderId → History → Option Core → Type 0
KnownIf p h None = (g : List ℕ) → AskedJoin g p (records_of h) → Over p.node g p (records_of h)
KnownIf p h (Some s) = Known p h s

abbrev pub WaitsIf : Option Core → Type 0
WaitsIf None = Unit {0}
WaitsIf (Some s) = JoinWaits s.sessions

pub record Rested (w : Scene) : Type 0 where
  pub known : (p : ProviderId) → was_let_go p w.before ≡ false → KnownIf p w.before (w.cores p.node)
  pub joins : (m : ℕ) → WaitsIf (w.cores m)

-- ---- who was let go

pub spared_before : (p : ProviderId) (e : Happening) (h : History) → was_let_go p (e ∷ h) ≡ false → (lets_go p e h ≡ false) × (was_let_go p h ≡ false)
spared_before p e h k = or_parts (lets_go p e h) (was_let_go p h) k

-- who was told that its group is dissolved
pub dissolving_gone : (p : ProviderId) (h : History) → Dissolving p (records_of h) → was_let_go p h ≡ false → ⊥
dissolving_gone p [] k e = k.told
dissolving_gone p (x ∷ h) k e = by (has_append (happened.Told p k.number k.why) x.records (records_of h) k.told) (spared_before p x h e) (dissolving_gone p h)
  where
    test : ends p (inc_now p.node (records_of h)) (happened.Told p k.number k.why) ≡ true
    test = (λ i. provider_self p i && k.is i)

    now : Has (happened.Told p k.number k.why) x.records → lets_go p x h ≡ false → ⊥
    now i q =
        let a = has_any (ends p (inc_now p.node (records_of h))) x.records (happened.Told p k.number k.why) i test in
        let b = (or_parts (list_any (ends p (inc_now p.node (records_of h))) x.records) (goodbye_of p.node (client_of p h) x.event && not (list_any is_refused x.records)) q).0 in
        let z : true ≡ false = sym a ∙ b in cc

    by : Has (happened.Told p k.number k.why) x.records ⊎ Has (happened.Told p k.number k.why) (records_of h) → (lets_go p x h ≡ false) × (was_let_go p h ≡ false) → (Dissolving p (records_of h) → was_let_go p h ≡ false → ⊥) → ⊥
    by (inl i) z rest = now i z.0
    by (inr i) z rest = rest (record { number = k.number; why = k.why; told = i; is = k.is }) z.1

-- ---- who takes part where the state is empty: nobody

pub nobody_takes : (p : ProviderId) (xs : List Stay) {v : _} {len : ℕ} → InStay v xs len empty_state → Taker p xs → ⊥
nobody_takes p xs {v} k a =
    let b : among (present (fold_from k.now.view k.now.base 0 k.now.entries)) p ≡ true = taker_present p k.now k.older (subst (Taker p) k.is a) in
    let c : fold_from k.now.view k.now.base 0 k.now.entries ≡ empty_state = subst (λ u. fold_from u k.now.base 0 k.now.entries ≡ empty_state) (sym k.view) k.state in
    let z : true ≡ false = sym b ∙ ap (λ (s : GroupState). among (present s) p) c in cc

-- ---- an event by which the node does not change

pub asked_all : (g : List ℕ) (p : ProviderId) (rs xs : List Happened) → ((r : Happened) → Has r rs → Unasked r) → AskedJoin g p (rs ++ xs) → AskedJoin g p xs
asked_all g p [] xs all a = a
asked_all g p (r ∷ rs) xs all a = asked_all g p rs xs (λ q i. all q (inr i)) (asked_back g p r (rs ++ xs) (all r (inl refl)) a)

pub over_all : (n : ℕ) (g : List ℕ) (p : ProviderId) (rs xs : List Happened) → Over n g p xs → Over n g p (rs ++ xs)
over_all n g p [] xs k = k
over_all n g p (r ∷ rs) xs k = over_more n g p r (rs ++ xs) (over_all n g p rs xs k)

pub known_on : (p : ProviderId) (h h' : History) (rs : List Happened) (o : Option Core) → records_of h' ≡ rs ++ records_of h → ((g : List ℕ) → stays p.node g (records_of h') ≡ stays p.node g (records_of h)) → ((g : List ℕ) → AskedJoin g p (rs ++ records_of h) → AskedJoin g p (records_of h)) → KnownIf p h o → KnownIf p h' o
known_on p h h' rs None is same back k = λ g a. subst (Over p.node g p) (sym is) (over_all p.node g p rs (records_of h) (k g (back g (subst (AskedJoin g p) is a))))
known_on p h h' rs (Some s) is same back k =
    record {
      waits = λ g a. ⊎_elim (λ (x : Stood s.sessions p g false). inl x) (λ (x : Over p.node g p (records_of h)). inr (subst (Over p.node g p) (sym is) (over_all p.node g p rs (records_of h) x))) (k.waits g (back g (subst (AskedJoin g p) is a)));
      takes = λ g a. k.takes g (subst (Taker p) (same g) a);
    }
