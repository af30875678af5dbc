-- What records say of a provider's join, of its dissolving and of its node's stays, as records are added.
use Rattle.std.proofs.Common.{◌≡◌, ◌⊎◌, ℕ, List, ◌∷◌, refl, sym, subst, inl, inr}
use Rattle.rsct_packet.specs.declared.ids.ProviderId.{ProviderId}
use Rattle.rsct_packet.specs.Search.{Has}
use Rattle.node_state.specs.declared.happened.Happened.{Happened}
use Rattle.node_state.specs.declared.happened.Happened.TheVariants as happened
use Rattle.run_safety.specs.Stays.{stays}
use Rattle.run_laws.specs.seen_runs.Seen.{WasTold}
use Rattle.run_laws.specs.gapless.Takers.{WasPut, AskedJoin, Dissolving}

-- ---- more records

pub put_more : (n : ℕ) (g : List ℕ) (p : ProviderId) (r : Happened) (rs : List Happened) → WasPut n g p rs → WasPut n g p (r ∷ rs)
put_more n g p r rs k = record { view = k.view; place = k.place; entry = k.entry; there = inr k.there; joins = k.joins }

pub dissolving_more : (p : ProviderId) (r : Happened) (rs : List Happened) → Dissolving p rs → Dissolving p (r ∷ rs)
dissolving_more p r rs k = record { number = k.number; why = k.why; told = inr k.told; is = k.is }

-- no join is asked for
abbrev pub Unasked : Happened → Type 0
Unasked (happened.Asked p r g x) = ⊥
Unasked _ = Unit {0}

pub asked_back : (g : List ℕ) (p : ProviderId) (r : Happened) (rs : List Happened) → Unasked r → AskedJoin g p (r ∷ rs) → AskedJoin g p rs
asked_back g p r rs un k = record { proposal = k.proposal; there = by k.there; joins = k.joins }
  where
    by : Has (happened.Asked p p.join g k.proposal) (r ∷ rs) → Has (happened.Asked p p.join g k.proposal) rs
    by (inl e) = absurd (subst Unasked (sym e) un)
    by (inr i) = i

-- what is over stays over
abbrev pub Over : ℕ → List ℕ → ProviderId → List Happened → Type 0
Over n g p rs = WasPut n g p rs ⊎ (WasTold p p.join rs ⊎ Dissolving p rs)

pub over_more : (n : ℕ) (g : List ℕ) (p : ProviderId) (r : Happened) (rs : List Happened) → Over n g p rs → Over n g p (r ∷ rs)
over_more n g p r rs (inl k) = inl (put_more n g p r rs k)
over_more n g p r rs (inr (inl k)) = inr (inl (inr k))
over_more n g p r rs (inr (inr k)) = inr (inr (dissolving_more p r rs k))

-- ---- records that leave the stays of every node

-- neither start, stop, entering, base, put, a request, nor a refusal
abbrev pub Inert : Happened → Type 0
Inert (happened.Up n j) = ⊥
Inert (happened.Down n) = ⊥
Inert (happened.In n v ms) = ⊥
Inert (happened.Base n v g u len s) = ⊥
Inert (happened.Put n v g i e) = ⊥
Inert (happened.Asked p r g x) = ⊥
Inert (happened.Refused n c fault) = ⊥
Inert _ = Unit {0}

pub inert_unasked : (r : Happened) → Inert r → Unasked r
inert_unasked (happened.Asked p r g x) a = absurd a
inert_unasked _ a = tt

pub inert_stays : (m : ℕ) (g : List ℕ) (r : Happened) (rs : List Happened) → Inert r → stays m g (r ∷ rs) ≡ stays m g rs
inert_stays m g (happened.Up n j) rs a = absurd a
inert_stays m g (happened.Down n) rs a = absurd a
inert_stays m g (happened.In n v ms) rs a = absurd a
inert_stays m g (happened.Base n v h u len s) rs a = absurd a
inert_stays m g (happened.Put n v h i e) rs a = absurd a
inert_stays m g _ rs a = refl
