-- In every run a base comes from a view in which its group was, since it is that of a side with members or a running protocol.
use Rattle.std.proofs.Common.{◌≡◌, ℕ, inl, inr, refl, sym, ap, ◌∙◌, subst, true, List, [], ◌∷◌, Option, Some, None}
use Rattle.std.specs.Prelude.{slice_get}
use Rattle.rsct_packet.specs.declared.ids.Member.{Member}
use Rattle.rsct_packet.specs.declared.ids.ViewId.{ViewId}
use Rattle.rsct_packet.specs.Search.{Has}
use Rattle.proposal_core.specs.declared.entry.Entry.{Entry}
use Rattle.proposal_core.specs.Fold.{empty_state}
use Rattle.node_state.specs.declared.happened.Happened.{Happened}
use Rattle.node_state.specs.declared.happened.Happened.TheVariants as happened
use Rattle.run_safety.specs.Past.{History, records_of, fold_from}
use Rattle.run_safety.specs.Sight.{inc_in, lines_at, lines_of}
use Rattle.run_safety.specs.Group.{Reply, Origin, Put, Line, Kept, Noted, Based, kept}
use Rattle.run_safety.specs.Bases.{base_state, is_candidate, Wins, side_state}
use Rattle.run_safety.specs.GroupLaws.{Brought}
use Rattle.run_safety.specs.Moves.{Opening}
use Rattle.run_safety.specs.SafeGroups.{SafeLines, SafeGroups}
use Rattle.run_safety.proofs.Lives.{noted_bases_win}
use Rattle.run_safety.proofs.SightLaws.{kept_line, own_line, line_seen}
use Rattle.run_laws.proofs.seen_runs.Froms.{in_kept}
use Rattle.run_laws.proofs.seen_runs.Sights.{LineOf, Enters, Puts, Bases, Hears, Asks, Tells, Else, line_of, recorded}
use Rattle.log_laws.specs.Logs.{HadGroup, BasesComeFromGroups}

-- ---- the records of lines

put_recorded : (g : List ℕ) (n : ℕ) (v : ViewId) (i : ℕ) (e : Entry) (h : History) → Has (Put n v i e) (kept (lines_of g h)) → Has (happened.Put n v g i e) (records_of h)
put_recorded g n v i e h k =
    let q = recorded g (Kept (Put n v i e)) h (λ z. cc) (kept_line (Put n v i e) (lines_of g h) k) in
    at q.of (lines_at g q.rs q.of) (line_of g q.rs q.of) q.there q.shows
  where
    at : {rs : List Happened} (r : Happened) (ls : List Line) → LineOf g rs r ls → Has r (records_of h) → Has (Kept (Put n v i e)) ls → Has (happened.Put n v g i e) (records_of h)
    at _ _ (Enters m u ns) there (inl s) = absurd (cc)
    at _ _ (Enters m u ns) there (inr z) = absurd z
    at _ _ (Puts m u l j f q) there (inl s) =
        let a : n ≡ m = cc in
        let b : v ≡ u = cc in
        let c : i ≡ j = cc in
        let d : e ≡ f = cc in
        subst (λ (z : ℕ × ViewId × List ℕ × ℕ × Entry). Has (happened.Put z.0 z.1 z.2 z.3 z.4) (records_of h)) (λ t. (sym a t, sym b t, q t, sym c t, sym d t)) there
    at _ _ (Puts m u l j f q) there (inr z) = absurd z
    at _ _ (Bases m u l o len s q) there (inl t) = absurd (cc)
    at _ _ (Bases m u l o len s q) there (inr z) = absurd z
    at _ _ (Hears p u l j f ns value q) there (inl s) = absurd (cc)
    at _ _ (Hears p u l j f ns value q) there (inr z) = absurd z
    at _ _ (Asks p r l x q) there (inl s) = absurd (cc)
    at _ _ (Asks p r l x q) there (inr z) = absurd z
    at _ _ (Tells p r why u q) there (inl s) = absurd (cc)
    at _ _ (Tells p r why u q) there (inr z) = absurd z
    at _ _ (Else r silent) there z = absurd z

base_recorded : (g : List ℕ) (n : ℕ) (v : ViewId) (b : Origin) (h : History) → Has (Noted (Based n v b)) (lines_of g h) → Has (happened.Base n v g b.old b.len b.state) (records_of h)
base_recorded g n v b h k =
    let q = recorded g (Noted (Based n v b)) h (λ z. cc) k in
    at q.of (lines_at g q.rs q.of) (line_of g q.rs q.of) q.there q.shows
  where
    at : {rs : List Happened} (r : Happened) (ls : List Line) → LineOf g rs r ls → Has r (records_of h) → Has (Noted (Based n v b)) ls → Has (happened.Base n v g b.old b.len b.state) (records_of h)
    at _ _ (Enters m u ns) there (inl s) = absurd (cc)
    at _ _ (Enters m u ns) there (inr z) = absurd z
    at _ _ (Puts m u l j f q) there (inl s) = absurd (cc)
    at _ _ (Puts m u l j f q) there (inr z) = absurd z
    at _ _ (Bases m u l o len s q) there (inl t) =
        let a : n ≡ m = cc in
        let c : v ≡ u = cc in
        let d : b ≡ record { old = o; len = len; state = s } = cc in
        subst (λ (z : ℕ × ViewId × List ℕ × Origin). Has (happened.Base z.0 z.1 z.2 z.3.old z.3.len z.3.state) (records_of h)) (λ t. (sym a t, sym c t, q t, sym d t)) there
    at _ _ (Bases m u l o len s q) there (inr z) = absurd z
    at _ _ (Hears p u l j f ns value q) there (inl s) = absurd (cc)
    at _ _ (Hears p u l j f ns value q) there (inr z) = absurd z
    at _ _ (Asks p r l x q) there (inl s) = absurd (cc)
    at _ _ (Asks p r l x q) there (inr z) = absurd z
    at _ _ (Tells p r why u q) there (inl s) = absurd (cc)
    at _ _ (Tells p r why u q) there (inr z) = absurd z
    at _ _ (Else r silent) there z = absurd z

-- ---- bases

module _ (o : Opening) (h : History) (safe : SafeGroups o h) (u : ViewId) (g : List ℕ) where
  abbrev all : List Line
  all = lines_of g h

  abbrev lines : SafeLines o all
  lines = safe g

  module _ (v : ViewId) (ms : List Member) (rs : List Reply) (ss : ViewId → List Entry) (brought : Brought (kept all) lines.bases v ms rs ss) (b : Origin) (wins : Wins rs ss (λ u. side_state lines.bases ss u) b) (is : b.old ≡ u) where
    -- a reply from there
    from : (r : Reply) × Has r rs × (r.view ≡ u)
    from = ((wins.from).0, (wins.from).1, (wins.from).2 ∙ is)

    -- without a base and entries no side is one
    bare : (bases : Option Origin) (es : List Entry) → lines.bases u ≡ bases → ss u ≡ es → HadGroup (records_of h) u g
    bare (Some c) es has list =
        inr (λ n ns there. (let k = in_kept g n u ns h there in record { old = c.old; len = c.len; state = c.state; there = base_recorded g n u c h (lines.one_base.by_all n (inc_in n ns) u ns c k has) }))
    bare None (e ∷ es) has list =
        let got : slice_get (ss (from.0).view) 0 ≡ Some e = ap (λ z. slice_get (ss z) 0) from.2 ∙ ap (λ z. slice_get z 0) list in
        let q = brought.entries from.0 0 e from.1 got in
        let put : Has (Put q.0 u 0 e) (kept all) = subst (λ z. Has (Put q.0 z 0 e) (kept all)) from.2 q.1 in
        inl (record { node = q.0; place = 0; entry = e; there = put_recorded g q.0 u 0 e h put })
    bare None [] has list = absurd (let z : is_candidate empty_state ≡ true = sym (ap is_candidate side) ∙ subst (λ x. is_candidate (side_state lines.bases ss x) ≡ true) is wins.candidate in cc)
      where
        side : side_state lines.bases ss u ≡ empty_state
        side = λ t. fold_from u (base_state (has t)) 0 (list t)

pub bases_come : (o : Opening) (h : History) → SafeGroups o h → BasesComeFromGroups (records_of h)
bases_come o h safe n v g u len s there =
    let b : Origin = record { old = u; len = len; state = s } in
    let line : Has (Noted (Based n v b)) (lines_of g h) = line_seen (Noted (Based n v b)) g (happened.Base n v g u len s) (λ rs. own_line g (Noted (Based n v b))) h there in
    let w = noted_bases_win o (lines_of g h) (safe g) n v b line in
    bare o h safe u g v w.1 w.3 w.4 w.5 b w.6 refl ((safe g).bases u) (w.4 u) refl refl
