-- Whoever passes into a view comes from the old view of its base.
use Rattle.std.proofs.Common.{◌≡◌, ℕ, ◌≤◌, Bool, true, false, not, List, length, refl, sym, ap, subst, ◌∙◌, arith}
use Rattle.std.specs.Prelude.{◌==◌, ◌&&◌, filter}
use Rattle.std.proofs.lemmas.Bool.{and_parts, eqb-true}
use Rattle.rsct_packet.specs.declared.ids.ViewId.{ViewId}
use Rattle.rsct_packet.specs.declared.ids.ProviderId.{ProviderId}
use Rattle.rsct_packet.specs.declared.ids.Member.{Member}
use Rattle.rsct_packet.specs.Providers.{among, same_provider}
use Rattle.rsct_packet.specs.Search.{Has}
use Rattle.rsct_packet.proofs.HasLaws.{filter_has}
use Rattle.proposal_core.specs.declared.entry.Entry.{Entry}
use Rattle.proposal_core.specs.declared.group_state.GroupState.{GroupState}
use Rattle.proposal_core.specs.Fold.{present}
use Rattle.run_safety.specs.ViewOrder.{is_same}
use Rattle.run_safety.specs.Group.{Reply, Record, In, kept}
use Rattle.run_safety.specs.GroupLists.{From, IsCut, puts_of}
use Rattle.run_safety.specs.GroupLaws.{Brought}
use Rattle.run_safety.specs.Bases.{side_state, is_live, Wins}
use Rattle.run_safety.proofs.Order.{eq_true}
use Rattle.run_safety.proofs.Tests.{any_has, has_any, same_self}
use Rattle.run_safety.proofs.Lives.{noted_bases_win}
use Rattle.hearing_laws.specs.Passing.{PassersComeFromTheBase}

-- a cut is one
cut_one : (tr : List Record) (ms : List Member) (u v : ViewId) (k l : ℕ) → IsCut tr ms u v k → IsCut tr ms u v l → k ≡ l
cut_one tr ms u v k l a b =
    let low : k ≤ l = subst (λ h. h ≤ l) a.one.4 (b.most a.one.0 a.one.1 a.one.2 a.one.3) in
    let high : l ≤ k = subst (λ h. h ≤ k) b.one.4 (a.most b.one.0 b.one.1 b.one.2 b.one.3) in
    omega (arith, low, high)

-- who did not fail lives
still_live : (live : ProviderId → Bool) (ps failed : List ProviderId) (p : ProviderId) → failed ≡ filter (λ q. not (live q)) ps → Has p ps → among failed p ≡ false → live p ≡ true
still_live live ps failed p is there lives = by (live p) refl
  where
    by : (b : Bool) → live p ≡ b → live p ≡ true
    by true e = e
    by false e =
        let k : Has p (filter (λ q. not (live q)) ps) = filter_has (λ q. not (live q)) p ps there (ap not e) in
        let dead : among failed p ≡ true = has_any (λ q. same_provider q p) failed p (subst (Has p) (sym is) k) (same_self p) in
        let both : true ≡ false = sym dead ∙ lives in
        absurd (cc)

pub passers_come_from_the_base : PassersComeFromTheBase
passers_come_from_the_base o all safe n v b p ms noted entered there lives = from_won (noted_bases_win o all safe n v b noted)
  where
    from_won : (j : ℕ) × (ns : List Member) × Has (In n j v ns) (kept all) × (rs : List Reply) × (ss : (ViewId → List Entry)) × Brought (kept all) safe.bases v ns rs ss × Wins rs ss (λ u. side_state safe.bases ss u) b → From (kept all) p.node p.inc v b.old × (length (puts_of p.node b.old (kept all)) ≡ b.len)
    from_won (j, ns, was, rs, ss, brought, wins) = (from, cut_one (kept all) ms b.old v (length (puts_of p.node b.old (kept all))) (length (ss b.old)) (safe.cut p.node p.inc b.old v ms entered from) cut ∙ sym wins.len)
      where
        s : GroupState
        s = side_state safe.bases ss b.old

        live : is_live rs b.old p ≡ true
        live = still_live (is_live rs b.old) (present s) b.state.failed p (ap (λ (k : GroupState). k.failed) wins.state) (subst (λ (k : GroupState). Has p (present k)) wins.state there) lives

        reply : (r : Reply) × Has r rs × ((r.node == p.node && (r.inc == p.inc && is_same r.view b.old)) ≡ true)
        reply = any_has (λ (r : Reply). r.node == p.node && (r.inc == p.inc && is_same r.view b.old)) rs live

        r : Reply
        r = reply.0

        first : ((r.node == p.node) ≡ true) × ((r.inc == p.inc && is_same r.view b.old) ≡ true)
        first = and_parts (r.node == p.node) (r.inc == p.inc && is_same r.view b.old) reply.2

        second : ((r.inc == p.inc) ≡ true) × (is_same r.view b.old ≡ true)
        second = and_parts (r.inc == p.inc) (is_same r.view b.old) first.1

        view : r.view ≡ b.old
        view = eq_true r.view b.old second.1

        from : From (kept all) p.node p.inc v b.old
        from = subst (λ (z : ℕ × (ℕ × ViewId)). From (kept all) z.0 z.1.0 v z.1.1) (λ z. (eqb-true r.node p.node first.0 z, (eqb-true r.inc p.inc second.0 z, view z))) (brought.from r reply.1)

        cut : IsCut (kept all) ms b.old v (length (ss b.old))
        cut = subst (λ (u : ViewId). IsCut (kept all) ms u v (length (ss u))) view (subst (λ (ks : List Member). IsCut (kept all) ks r.view v (length (ss r.view))) (sym (safe.members p.node n p.inc j v ms ns entered was).0) (brought.cut r reply.1))
