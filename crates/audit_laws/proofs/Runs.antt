-- The records of every run are such records.
use Rattle.std.proofs.Common.{◌≡◌, ℕ, Bool, true, false, List, [], ◌∷◌, ◌++◌, inl, inr, refl, sym, ◌∙◌, subst}
use Rattle.std.specs.Prelude.{◌==◌, ◌&&◌, if◌then◌else◌}
use Rattle.std.specs.Str.{bytes_eq}
use Rattle.std.proofs.lemmas.Bool.{and_parts, eqb-true}
use Rattle.rsct_packet.specs.declared.ids.Member.{Member}
use Rattle.rsct_packet.specs.declared.ids.ViewId.{ViewId}
use Rattle.rsct_packet.specs.Ids.{same_view}
use Rattle.rsct_packet.specs.Search.{Has}
use Rattle.view_state.proofs.ViewOrder.{same_view_is}
use Rattle.proposal_core.specs.declared.entry.Entry.{Entry}
use Rattle.node_state.specs.declared.config.Config.{Config}
use Rattle.node_state.specs.declared.happened.Happened.{Happened}
use Rattle.node_state.specs.declared.happened.Happened.TheVariants as happened
use Rattle.run_safety.specs.Past.{History, records_of, Within, EachRecord, view_now, puts_of}
use Rattle.run_safety.specs.Past as past
use Rattle.run_safety.specs.Sight.{inc_in, lines_of}
use Rattle.run_safety.specs.Group.{Origin, Noted, Based}
use Rattle.run_safety.specs.SafeGroups.{SafeGroups}
use Rattle.run_safety.proofs.SightLaws.{own_line, line_seen, line_recorded}
use Rattle.step_refinement.specs.Tied.{Scene, opening_of}
use Rattle.step_refinement.specs.Runs.{Reached}
use Rattle.step_refinement.proofs.RunLaw.{reached_runs}
use Rattle.run_laws.specs.failed_causes.Entering.{just_entered, FollowsEntering, BasesFollowEntering}
use Rattle.run_laws.proofs.failed_causes.Bases.{each_base_follows}
use Rattle.run_laws.specs.seen_runs.Seen.{Seen, SeenAt}
use Rattle.run_laws.proofs.seen_runs.Froms.{in_kept}
use Rattle.run_laws.proofs.seen_runs.Law.{traces_seen, seen_after}
use Rattle.run_laws.proofs.seen_runs.Rings.{every_ring_seen}
use Rattle.log_laws.specs.Logs.{Upright, AllUpright}
use Rattle.log_laws.proofs.Past.{view_entered}
use Rattle.log_laws.proofs.Ups.{runs_upright}
use Rattle.run_audit.proofs.ListLaws.{text_same}
use Rattle.audit_laws.specs.Law.{RunsAreAudited}
use Rattle.audit_laws.specs.Records.{InTurn, AllInTurn, BasesAreKnown}
use Rattle.audit_laws.proofs.Stays.{new_view}

-- ---- bases before entries

put_entered : (n : ℕ) (v : ViewId) (g : List ℕ) (i : ℕ) (e : Entry) (rs : List Happened) → Seen rs → Has (happened.Put n v g i e) rs → (ms : List Member) × Has (happened.In n v ms) rs
put_entered n v g i e [] s h = absurd h
put_entered n v g i e (r ∷ rs) s (inl q) =
    let at : SeenAt rs (happened.Put n v g i e) = subst (SeenAt rs) (sym q) s.0 in
    let k = view_entered n v rs at.in_view in
    (k.0, inr k.1)
put_entered n v g i e (r ∷ rs) s (inr h) = let k = put_entered n v g i e rs s.1 h in (k.0, inr k.1)

no_puts : (n : ℕ) (v : ViewId) (g : List ℕ) (rs : List Happened) → ((i : ℕ) (e : Entry) → Has (happened.Put n v g i e) rs → ⊥) → puts_of n v g rs ≡ []
no_puts n v g [] none = refl
no_puts n v g (happened.Put m u h i e ∷ rs) none = by (past.is_list n v g m u h) refl (no_puts n v g rs (λ k f q. none k f (inr q)))
  where
    by : (t : Bool) → past.is_list n v g m u h ≡ t → puts_of n v g rs ≡ [] → (if t then puts_of n v g rs ++ e ∷ [] else puts_of n v g rs) ≡ []
    by false f q = q
    by true f q =
        let x = and_parts (m == n) (same_view u v && bytes_eq h g) f in
        let y = and_parts (same_view u v) (bytes_eq h g) x.1 in
        let a : m ≡ n = eqb-true m n x.0 in
        let b : u ≡ v = same_view_is u v y.0 in
        let c : h ≡ g = text_same h g y.1 in
        absurd (none i e (inl (λ j. happened.Put (sym a j) (sym b j) (sym c j) i e)))
no_puts n v g (_ ∷ rs) none = no_puts n v g rs (λ k f q. none k f (inr q))

-- a node put nothing into a view that it enters
bare : (n : ℕ) (v : ViewId) (ms : List Member) (g : List ℕ) (rs : List Happened) → Seen rs → SeenAt rs (happened.In n v ms) → puts_of n v g rs ≡ []
bare n v ms g rs s at = no_puts n v g rs (λ i e h. let k = put_entered n v g i e rs s h in new_view n v ms k.0 rs at k.1)

none_since : (n : ℕ) (v : ViewId) (g : List ℕ) (now xs : List Happened) → just_entered n v now ≡ true → Seen (now ++ xs) → puts_of n v g (now ++ xs) ≡ []
none_since n v g [] xs q s = absurd cc
none_since n v g (happened.In m u ms ∷ now) xs q s =
    let x = and_parts (m == n) (same_view u v) q in
    let a : m ≡ n = eqb-true m n x.0 in
    let b : u ≡ v = same_view_is u v x.1 in
    (λ i. puts_of (sym a i) (sym b i) g (now ++ xs)) ∙ bare m u ms g (now ++ xs) s.1 s.0
none_since n v g (happened.Base m u h old len st ∷ now) xs q s =
    let x = and_parts (m == n) (same_view u v && just_entered n v now) q in
    let y = and_parts (same_view u v) (just_entered n v now) x.1 in
    none_since n v g now xs y.1 s.1
none_since n v g (_ ∷ now) xs q s = absurd cc

turn_now : (now : List Happened) (before : History) → Within (λ now before r. FollowsEntering now r) now before → Seen (now ++ records_of before) → AllUpright (now ++ records_of before) → AllInTurn (records_of before) → AllInTurn (now ++ records_of before)
turn_now [] before follows s up old = old
turn_now (r ∷ now) before follows s up old = (one r follows.0 up.0, turn_now now before follows.1 s.1 up.1 old)
  where
    one : (r : Happened) → FollowsEntering now r → Upright (now ++ records_of before) r → InTurn (now ++ records_of before) r
    one (happened.In n v ms) f u = u
    one (happened.Base n v g old len st) f u = (u, none_since n v g now (records_of before) f s.1)
    one _ f u = tt

up_before : (now rs : List Happened) → AllUpright (now ++ rs) → AllUpright rs
up_before [] rs k = k
up_before (r ∷ now) rs k = up_before now rs k.1

all_turn : (h : History) → BasesFollowEntering h → Seen (records_of h) → AllUpright (records_of h) → AllInTurn (records_of h)
all_turn [] follows s up = tt
all_turn (e ∷ before) follows s up =
    turn_now e.records before follows.0 s up (all_turn before follows.1 (seen_after e.records (records_of before) s) (up_before e.records (records_of before) up))

-- ---- each node that enters a view notes its bases

-- a base that a node noted is that of its view, which each node that entered the view noted
all_know : (c : Config) (w : Scene) → Reached c w → BasesAreKnown (records_of w.before)
all_know c w k n m v g i e t len x put base =
    let s : SafeGroups (opening_of w.config) w.before = (reached_runs c w k).0 in
    let b : Origin = record { old = t; len = len; state = x } in
    let seen : Has (Noted (Based m v b)) (lines_of g w.before) = line_seen (Noted (Based m v b)) g (happened.Base m v g t len x) (λ rs. own_line g (Noted (Based m v b))) w.before base in
    let entered = put_entered n v g i e (records_of w.before) (traces_seen c w k) put in
    let noted : Has (Noted (Based n v b)) (lines_of g w.before) = (s g).one_base.by_all n (inc_in n entered.0) v entered.0 b (in_kept g n v entered.0 w.before entered.1) ((s g).one_base.noted m v b seen) in
    line_recorded g (Noted (Based n v b)) (happened.Base n v g t len x) refl w.before noted

pub runs_are_audited : RunsAreAudited
runs_are_audited c w k fit =
    record {
      seen = traces_seen c w k;
      rings = λ net. every_ring_seen c w k net (fit net);
      in_turn = all_turn w.before (each_base_follows c w k) (traces_seen c w k) (runs_upright c w k);
      known = all_know c w k;
    }
