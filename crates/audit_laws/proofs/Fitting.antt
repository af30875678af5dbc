-- Entries fit, and what closes a phase has the voters' rows and their tally, and votes that were cast.
use Rattle.std.proofs.Common.{◌≡◌, ◌⊎◌, ℕ, ◌+◌, ◌<◌, ◌≤◌, Bool, true, false, List, [], ◌∷◌, length, take, Option, Some, None, inl, inr, refl, sym, ◌∙◌, ap, subst, arith}
use Rattle.std.specs.Prelude.{◌==◌, ◌&&◌, ◌||◌, map, nat_lt, if◌then◌else◌}
use Rattle.std.specs.List.{list_any, list_all}
use Rattle.std.proofs.Math.Seq.{take-length}
use Rattle.std.proofs.lemmas.Bool.{and_parts, eqb-true}
use Rattle.std.proofs.lemmas.Bool.Decides.{nat_tests}
use Rattle.rsct_packet.specs.declared.ids.ProtoId.{ProtoId}
use Rattle.rsct_packet.specs.declared.ids.ProviderId.{ProviderId}
use Rattle.rsct_packet.specs.declared.ids.ViewId.{ViewId}
use Rattle.rsct_packet.specs.Ids.{same_proto}
use Rattle.rsct_packet.specs.Providers.{same_provider}
use Rattle.rsct_packet.specs.Search.{Has}
use Rattle.proposal_core.specs.declared.entry.Vote.{Vote}
use Rattle.proposal_core.specs.declared.entry.Vote.TheVariants as vote
use Rattle.proposal_core.specs.declared.entry.RowVote.{RowVote}
use Rattle.proposal_core.specs.declared.entry.RowVote.TheVariants as row_vote
use Rattle.proposal_core.specs.declared.entry.Row.{Row}
use Rattle.proposal_core.specs.declared.entry.Closed.{Closed}
use Rattle.proposal_core.specs.declared.entry.Entry.{Entry}
use Rattle.proposal_core.specs.declared.entry.Entry.TheVariants as entry
use Rattle.proposal_core.specs.declared.group_state.GroupState.{GroupState}
use Rattle.proposal_core.specs.declared.group_state.Running.{Running}
use Rattle.proposal_core.specs.Fold.{max_phases, runs, fits, begun, advance, next_phase, approve, reject, apply, after_if, after, voters}
use Rattle.proposal_core.proofs.FoldLaws.{idle_approved, idle_rejected}
use Rattle.vote_phases.specs.Tally.{tally_of}
use Rattle.node_state.specs.declared.happened.Happened.{Happened}
use Rattle.node_state.specs.declared.happened.Happened.TheVariants as happened
use Rattle.run_safety.specs.Past as past
use Rattle.run_safety.specs.Tallies.{IsTallied}
use Rattle.row_laws.specs.honest_votes.Casts.{RowCast, RowsCast}
use Rattle.entry_laws.specs.closing_rows.Rows.{AreOfVoters}
use Rattle.run_laws.specs.seen_runs.Seen as seen
use Rattle.run_laws.specs.seen_runs.Seen.{Seen}
use Rattle.line_laws.specs.Shown.{entry_shown, unsaid}
use Rattle.run_audit.specs.declared.broken.Rule.TheVariants as rule
use Rattle.run_audit.specs.Past.{state_of}
use Rattle.run_audit.specs.Table.{all_same, same_vote, if_some, is_vote_of, is_tallied, tally_holds, closed_in, row_cast, rows_cast, holds}
use Rattle.audit_laws.specs.Lines.{shown, lines}
use Rattle.audit_laws.specs.Records.{OfRun, Keeps}
use Rattle.audit_laws.proofs.States.{Knows, state_is, fits_shown}
use Rattle.audit_laws.proofs.Tests.{both, all_equal, all_by, eq_self, provider_self}

-- who puts something knows the base
pub put_knows : (n : ℕ) (v : ViewId) (g : List ℕ) (i : ℕ) (e : Entry) (rs : List Happened) → OfRun (happened.Put n v g i e ∷ rs) → Knows n v g rs
put_knows n v g i e rs k m t len x h = at (k.known n m v g i e t len x (inl refl) (inr h))
  where
    at : Has (happened.Base n v g t len x) (happened.Put n v g i e ∷ rs) → Has (happened.Base n v g t len x) rs
    at (inl q) = absurd cc
    at (inr q) = q

pub fits_kept : Keeps rule.Fits
unfolding holds shown
fits_kept (happened.Put n v g i e) rs k =
    ap (λ s. fits s (entry_shown e)) (state_is rs k.seen.1 n v g (put_knows n v g i e rs k)) ∙ (fits_shown (past.state_now n v g rs) e ∙ k.seen.0.fitting)
fits_kept _ rs k = refl

-- ---- no phase passes the last

abbrev pub Low : Option Running → Type 0
Low None = Unit {0}
Low (Some run) = run.phase ≤ max_phases

low_none : (o : Option Running) → o ≡ None → Low o
low_none o e = subst Low (sym e) tt

advanced : (s : GroupState) (c : Closed) (o : Option Running) → (runs c.proto c.phase o && nat_lt c.phase max_phases) ≡ true → Low (next_phase s c.value o).running
unfolding runs next_phase advance
advanced s c None f = absurd cc
advanced s c (Some run) f =
    let p = and_parts (c.phase == run.phase && same_proto c.proto run.proto) (nat_lt c.phase max_phases) f in
    let q = and_parts (c.phase == run.phase) (same_proto c.proto run.proto) p.0 in
    let same : c.phase ≡ run.phase = eqb-true c.phase run.phase q.0 in
    let less : c.phase < max_phases = grind (arith, nat_tests, p.1) in
    omega (arith, same, less)

apply_low : (s : GroupState) (v : ViewId) (i : ℕ) (e : Entry) → fits s e ≡ true → Low s.running → Low (apply s v i e).running
unfolding fits apply begun
apply_low s v i (entry.Once x) f low = low_none (approve (begun s v i x) v i None (begun s v i x).running).running (idle_approved (begun s v i x) v i None (begun s v i x).running refl)
apply_low s v i (entry.Begin x) f low = begun_low
  where
    begun_low : Low (begun s v i x).running
    begun_low = omega arith
apply_low s v i (entry.Phase c) f low = advanced s c s.running f
apply_low s v i (entry.Approve c) f low = low_none (approve s v i c.value s.running).running (idle_approved s v i c.value s.running refl)
apply_low s v i (entry.Reject c) f low = low_none (reject s s.running).running (idle_rejected s s.running refl)
apply_low s v i (entry.Late proto phase ps) f low = low

after_low : (s : GroupState) (v : ViewId) (i : ℕ) (e : Entry) → Low s.running → Low (after s v i e).running
unfolding after after_if
after_low s v i e low = by (fits s e) refl
  where
    by : (t : Bool) → fits s e ≡ t → Low (after_if s v i e t).running
    by true f = apply_low s v i e f low
    by false f = low

fold_low : (v : ViewId) (s : GroupState) (i : ℕ) (es : List Entry) → Low s.running → Low (past.fold_from v s i es).running
fold_low v s i [] low = low
fold_low v s i (e ∷ es) low = fold_low v (after s v i e) (i + 1) es (after_low s v i e low)

base_low : (n : ℕ) (v : ViewId) (g : List ℕ) (rs : List Happened) → Seen rs → Low (past.base_of n v g rs).running
base_low n v g [] s = tt
base_low n v g (happened.Base m u h old len st ∷ rs) s = by (past.is_list n v g m u h) (base_low n v g rs s.1) (base_low s.0.base.cut.node old h rs s.1)
  where
    cut_low : Low (past.base_of s.0.base.cut.node old h rs).running → Low st.running
    cut_low low =
        let F : GroupState = past.fold_from old (past.base_of s.0.base.cut.node old h rs) 0 (take len (past.puts_of s.0.base.cut.node old h rs)) in
        let same : st ≡ seen.marked rs u s.0.base.members old F = s.0.base.cut.state in
        subst (λ (x : GroupState). Low x.running) (sym same) (fold_low old (past.base_of s.0.base.cut.node old h rs) 0 (take len (past.puts_of s.0.base.cut.node old h rs)) low)

    by : (t : Bool) → Low (past.base_of n v g rs).running → Low (past.base_of s.0.base.cut.node old h rs).running → Low (if t then st else past.base_of n v g rs).running
    by true l low = cut_low low
    by false l low = l
base_low n v g (_ ∷ rs) s = base_low n v g rs s.1

state_low : (n : ℕ) (v : ViewId) (g : List ℕ) (rs : List Happened) → Seen rs → Low (past.state_now n v g rs).running
state_low n v g rs s = fold_low v (past.base_of n v g rs) 0 (past.puts_of n v g rs) (base_low n v g rs s)

-- ---- tallies

at_now : (n : ℕ) (v : ViewId) (g : List ℕ) (i : ℕ) (rs : List Happened) → i ≡ length (past.puts_of n v g rs) → past.state_at n v g i rs ≡ past.state_now n v g rs
at_now n v g i rs e = ap (past.fold_from v (past.base_of n v g rs) 0) (ap (λ z. take z (past.puts_of n v g rs)) e ∙ take-length (past.puts_of n v g rs))

-- a running phase that is named and is not less than the last is the last
last_phase : (c : Closed) (o : Option Running) → runs c.proto c.phase o ≡ true → Low o → max_phases ≤ c.phase → c.phase ≡ max_phases
unfolding runs
last_phase c None f low le = absurd cc
last_phase c (Some run) f low le =
    let q = and_parts (c.phase == run.phase) (same_proto c.proto run.proto) f in
    let same : c.phase ≡ run.phase = eqb-true c.phase run.phase q.0 in
    omega (arith, same, low, le)

rejected_tally : (c d : Closed) → c.phase ≡ d.phase → (t : Vote) → (t ≡ vote.Reject) ⊎ ((t ≡ vote.Continue) × (d.phase ≡ max_phases)) → is_tallied (entry.Reject c) t ≡ true
unfolding is_tallied
rejected_tally c d p t (inl e) = ap (is_tallied (entry.Reject c)) e
rejected_tally c d p t (inr e) = ap (is_tallied (entry.Reject c)) e.0 ∙ (ap (λ z. z == max_phases) (p ∙ e.1) ∙ refl)

rows_are : (s t : GroupState) (rows : List Row) → s ≡ t → AreOfVoters t rows → all_same same_provider (map (λ (r : Row). r.provider) rows) (voters s) ≡ true
rows_are s t rows e k = all_equal same_provider provider_self (map (λ (r : Row). r.provider) rows) (voters s) (k ∙ ap voters (sym e))

module _ (n : ℕ) (v : ViewId) (g : List ℕ) (i : ℕ) (rs : List Happened) where
  now_is : (e : Entry) → OfRun (happened.Put n v g i e ∷ rs) → state_of n v g (lines rs) ≡ past.state_at n v g i rs
  now_is e k = state_is rs k.seen.1 n v g (put_knows n v g i e rs k) ∙ sym (at_now n v g i rs k.seen.0.place)

  tally_is : (e : Entry) → OfRun (happened.Put n v g i e ∷ rs) → if_some (closed_in (entry_shown e)) (tally_holds (state_of n v g (lines rs)) (entry_shown e)) ≡ true
  unfolding if_some closed_in tally_holds is_tallied fits
  tally_is (entry.Once x) k = refl
  tally_is (entry.Begin x) k = refl
  tally_is (entry.Phase c) k =
      both (all_same same_provider (map (λ (r : Row). r.provider) c.rows) (voters (state_of n v g (lines rs)))) (is_tallied (entry.Phase (unsaid c)) (tally_of c.rows)) (rows_are (state_of n v g (lines rs)) (past.state_at n v g i rs) c.rows (now_is (entry.Phase c) k) k.seen.0.rows)
      (ap (is_tallied (entry.Phase (unsaid c))) k.seen.0.tally.0 ∙ (let less : c.phase < max_phases = k.seen.0.tally.1 in grind (arith, nat_tests)))
  tally_is (entry.Approve c) k =
      both (all_same same_provider (map (λ (r : Row). r.provider) c.rows) (voters (state_of n v g (lines rs)))) (is_tallied (entry.Approve (unsaid c)) (tally_of c.rows)) (rows_are (state_of n v g (lines rs)) (past.state_at n v g i rs) c.rows (now_is (entry.Approve c) k) k.seen.0.rows)
      (ap (is_tallied (entry.Approve (unsaid c))) k.seen.0.tally)
  tally_is (entry.Reject c) k =
      both (all_same same_provider (map (λ (r : Row). r.provider) c.rows) (voters (state_of n v g (lines rs)))) (is_tallied (entry_shown (entry.Reject c)) (tally_of c.rows)) (rows_are (state_of n v g (lines rs)) (past.state_at n v g i rs) c.rows (now_is (entry.Reject c) k) k.seen.0.rows)
      (rejected_tally (record c { value = None; message = None }) c refl (tally_of c.rows) (exactly k.seen.0.tally))
    where
      exactly : IsTallied (entry.Reject c) → (tally_of c.rows ≡ vote.Reject) ⊎ ((tally_of c.rows ≡ vote.Continue) × (c.phase ≡ max_phases))
      exactly (inl e) = inl e
      exactly (inr e) = inr (e.0, last_phase c (past.state_now n v g rs).running k.seen.0.fitting (state_low n v g rs k.seen.1) e.1)
  tally_is (entry.Late proto phase ps) k = refl

pub tallies_kept : Keeps rule.Tally
unfolding holds shown
tallies_kept (happened.Put n v g i e) rs k = tally_is n v g i rs e k
tallies_kept _ rs k = refl

-- ---- votes

vote_self : (v : Vote) → same_vote v v ≡ true
unfolding same_vote
vote_self vote.Approve = refl
vote_self vote.Continue = refl
vote_self vote.Reject = refl

proto_self : (o : ProtoId) → same_proto o o ≡ true
proto_self o = grind (arith, nat_tests)

or_true : (a b : Bool) → b ≡ true → (a || b) ≡ true
or_true true b e = refl
or_true false b e = e

vote_line : (p : ProviderId) (proto : ProtoId) (phase : ℕ) (v : Vote) (value message : Option (List ℕ)) (rs : List Happened) → Has (happened.Cast p proto phase v value message) rs → list_any (is_vote_of p proto phase v) (lines rs) ≡ true
unfolding lines shown is_vote_of
vote_line p proto phase v value message [] h = absurd h
vote_line p proto phase v value message (happened.Cast q o k w x y ∷ rs) (inl e) =
    let a : p ≡ q = cc in
    let b : proto ≡ o = cc in
    let c : phase ≡ k = cc in
    let d : v ≡ w = cc in
    ap (λ z. z || list_any (is_vote_of p proto phase v) (lines rs))
    ((λ i. same_provider (sym a i) p && (same_proto (sym b i) proto && (sym c i == phase && same_vote (sym d i) v)))
    ∙ both (same_provider p p) (same_proto proto proto && (phase == phase && same_vote v v)) (provider_self p) (both (same_proto proto proto) (phase == phase && same_vote v v) (proto_self proto) (both (phase == phase) (same_vote v v) (eq_self phase) (vote_self v))))
vote_line p proto phase v value message (r ∷ rs) (inr h) = or_true (is_vote_of p proto phase v (shown r)) (list_any (is_vote_of p proto phase v) (lines rs)) (vote_line p proto phase v value message rs h)
vote_line p proto phase v value message (_ ∷ rs) (inl e) = absurd cc

row_kept : (proto : ProtoId) (phase : ℕ) (rs : List Happened) (r : Row) (w : RowVote) → RowCast rs proto phase r.provider w → row_cast proto phase (lines rs) r w ≡ true
unfolding row_cast
row_kept proto phase rs r (row_vote.Cast v) k = vote_line r.provider proto phase v k.value k.message rs k.recorded
row_kept proto phase rs r (row_vote.Late d) k = refl
row_kept proto phase rs r (row_vote.Failed d) k = refl

rows_kept : (c d : Closed) (rs : List Happened) → d.proto ≡ c.proto → d.phase ≡ c.phase → d.rows ≡ c.rows → RowsCast rs c → rows_cast d (lines rs) ≡ true
unfolding rows_cast
rows_kept c d rs x y z k =
    (λ i. list_all (λ (r : Row). row_cast (x i) (y i) (lines rs) r r.vote) (z i)) ∙ all_by (λ (r : Row). row_cast c.proto c.phase (lines rs) r r.vote) c.rows (λ r h. row_kept c.proto c.phase rs r r.vote (k r h))

votes_are : (n : ℕ) (v : ViewId) (g : List ℕ) (i : ℕ) (e : Entry) (rs : List Happened) → OfRun (happened.Put n v g i e ∷ rs) → if_some (closed_in (entry_shown e)) (λ c. rows_cast c (lines rs)) ≡ true
unfolding if_some closed_in
votes_are n v g i (entry.Once x) rs k = refl
votes_are n v g i (entry.Begin x) rs k = refl
votes_are n v g i (entry.Phase c) rs k = rows_kept c (unsaid c) rs refl refl refl k.seen.0.votes
votes_are n v g i (entry.Approve c) rs k = rows_kept c (unsaid c) rs refl refl refl k.seen.0.votes
votes_are n v g i (entry.Reject c) rs k = rows_kept c (record c { value = None; message = None }) rs refl refl refl k.seen.0.votes
votes_are n v g i (entry.Late proto phase ps) rs k = refl

pub votes_kept : Keeps rule.Honest
unfolding holds shown
votes_kept (happened.Put n v g i e) rs k = votes_are n v g i e rs k
votes_kept _ rs k = refl
