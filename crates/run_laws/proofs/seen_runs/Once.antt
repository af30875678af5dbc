-- A request begins once over all groups, since it is asked in one of them.
use Rattle.std.proofs.Common.{◌≡◌, ◌⊎◌, ℕ, List, [], ◌∷◌, refl, sym, ◌∙◌, subst, inl, inr}
use Rattle.rsct_packet.specs.declared.ids.ProviderId.{ProviderId}
use Rattle.rsct_packet.specs.declared.ids.ViewId.{ViewId}
use Rattle.rsct_packet.specs.Search.{Has}
use Rattle.proposal_core.specs.declared.entry.Entry.{Entry}
use Rattle.node_state.specs.declared.happened.Happened.{Happened}
use Rattle.node_state.specs.declared.happened.Happened.TheVariants as happened
use Rattle.run_safety.specs.Past.{records_of}
use Rattle.run_safety.specs.Requests.{carried}
use Rattle.run_safety.proofs.SightLaws.{put_seen}
use Rattle.row_laws.proofs.failed_rows.Asked.{asked_back}
use Rattle.run_laws.specs.seen_runs.Seen.{Seen, OnceSeen}
use Rattle.run_laws.specs.seen_runs.Once.{EveryRequestBeginsOnce, SafeEntriesWereAsked}
use Rattle.run_laws.proofs.seen_runs.Law.{traces_seen}
use Rattle.run_laws.proofs.failed_causes.Renamed.{asked_in_one}

once_of : (p : ProviderId) (r : ℕ) (g k : List ℕ) (u v : ViewId) (i j : ℕ) (e f : Entry) (rs : List Happened) → Seen rs → Has (happened.Put p.node u g i e) rs → Has (p, r) (carried e) → Has (happened.Put p.node v k j f) rs → Has (p, r) (carried f) → (g ≡ k) × (u ≡ v) × (i ≡ j)
once_of p r g k u v i j e f [] s a c b d = absurd a
once_of p r g k u v i j e f (q ∷ rs) s a c b d = by a b (λ x y. once_of p r g k u v i j e f rs s.1 x c y d)
  where
    by : (happened.Put p.node u g i e ≡ q) ⊎ Has (happened.Put p.node u g i e) rs → (happened.Put p.node v k j f ≡ q) ⊎ Has (happened.Put p.node v k j f) rs → (Has (happened.Put p.node u g i e) rs → Has (happened.Put p.node v k j f) rs → (g ≡ k) × (u ≡ v) × (i ≡ j)) → (g ≡ k) × (u ≡ v) × (i ≡ j)
    by (inl x) (inl y) older =
        let z : happened.Put p.node u g i e ≡ happened.Put p.node v k j f = x ∙ sym y in
        let l : g ≡ k = cc in
        let m : u ≡ v = cc in
        let n : i ≡ j = cc in
        (l, m, n)
    by (inl x) (inr y) older =
        let o : OnceSeen rs (happened.Put p.node u g i e) = subst (OnceSeen rs) (sym x) s.0.once in
        absurd ((o p r refl c).once v k j f y d)
    by (inr x) (inl y) older =
        let o : OnceSeen rs (happened.Put p.node v k j f) = subst (OnceSeen rs) (sym y) s.0.once in
        absurd ((o p r refl d).once u g i e x c)
    by (inr x) (inr y) older = older x y

pub requests_once : EveryRequestBeginsOnce
requests_once c w reached =
    record { group = asked_in_one c w reached; once = λ p r g k u v i j e f a d b q. once_of p r g k u v i j e f (records_of w.before) (traces_seen c w reached) a d b q }

-- by the lines of its group
pub safe_entries_asked : SafeEntriesWereAsked
safe_entries_asked o h safe n v g i e p r there names =
    let a = (safe g).requests.were_asked n v i e p r (put_seen n v g i e h there) names in
    (a.0, asked_back p r g a.0 h a.1, a.2)
