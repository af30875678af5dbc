-- What is said of requests, computed on a short run: what it accepts, and what it refuses.
use Rattle.std.proofs.Common.{◌≡◌, ℕ, List, [], ◌∷◌, refl, inl, inr}
use Rattle.rsct_packet.specs.declared.ids.ViewId.{ViewId}
use Rattle.rsct_packet.specs.Search.{Has}
use Rattle.proposal_core.specs.declared.entry.Entry.{Entry}
use Rattle.node_state.specs.declared.happened.Happened.TheVariants.{Put, Told}
use Rattle.run_safety.specs.Past.{records_of}
use Rattle.run_laws.specs.gapless.Takers.{WasPut}
use Rattle.run_laws.specs.seen_runs.Seen.{WasTold}
use Rattle.request_laws.specs.Requests.{Lives, IsKept, KeepsRequests}
use Rattle.request_laws.specs.Samples.{provider, db, join, joined, outstanding, with_requests}

pub outstanding_is_accepted : KeepsRequests 1 (with_requests (outstanding ∷ [])) joined
outstanding_is_accepted p r g x (inl e) node lives =
    let who : provider ≡ p = cc in
    let number : 1 ≡ r = cc in
    let group : db ≡ g = cc in
    let is : join ≡ x = cc in
    inl (record { request = outstanding; there = inl refl; provider = who; number = number; group = group; proposal = is })
outstanding_is_accepted p r g x (inr z) node lives = absurd z

-- the join waits: nothing else is recorded
lives : Lives provider db joined
lives =
    record { spared = refl; there = inr (record { asked = record { proposal = join; there = inl refl; joins = refl }; unput = unput; untold = untold }) }
  where
    no_put : (v : ViewId) (g : List ℕ) (i : ℕ) (e : Entry) → Has (Put provider.node v g i e) (records_of joined) → ⊥
    no_put v g i e (inl q) = cc
    no_put v g i e (inr z) = z

    unput : WasPut provider.node db provider (records_of joined) → ⊥
    unput k = no_put k.view db k.place k.entry k.there

    untold : WasTold provider provider.join (records_of joined) → ⊥
    untold (inl k) = k
    untold (inr k) = k

pub lost_is_refused : KeepsRequests 1 (with_requests []) joined → ⊥
lost_is_refused k = by (k provider 1 db join (inl refl) refl lives)
  where
    by : IsKept (with_requests []) (records_of joined) provider 1 db join → ⊥
    by (inl a) = a.there
    by (inr (inl b)) = begun b.there
      where
        begun : Has (Put provider.node b.view b.group b.place b.entry) (records_of joined) → ⊥
        begun (inl e) = cc
        begun (inr z) = z
    by (inr (inr c)) = told c.there
      where
        told : Has (Told provider 1 c.why) (records_of joined) → ⊥
        told (inl e) = cc
        told (inr z) = z
