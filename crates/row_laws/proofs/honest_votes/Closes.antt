-- The votes of a tally, and of the entry that it makes.
use Rattle.std.proofs.Common.{◌≡◌, ℕ, List, [], ◌∷◌, Option, Some, None, Bool, true, false, refl, sym, subst, inl, inr}
use Rattle.std.specs.Prelude.{◌==◌, ◌||◌, fold, map, nat_le, if◌then◌else◌}
use Rattle.std.proofs.lemmas.Bool.{eqb-true, and_parts}
use Rattle.rsct_packet.specs.declared.ids.ProviderId.{ProviderId}
use Rattle.rsct_packet.specs.declared.ids.ProtoId.{ProtoId}
use Rattle.rsct_packet.specs.Ids.{same_view, same_proto}
use Rattle.rsct_packet.specs.Providers.{among}
use Rattle.rsct_packet.specs.Search.{Has}
use Rattle.rsct_packet.proofs.HasLaws.{has_map}
use Rattle.proposal_core.specs.declared.entry.Entry.{Entry}
use Rattle.proposal_core.specs.declared.entry.Vote.{Vote}
use Rattle.proposal_core.specs.declared.entry.Vote.TheVariants as vote
use Rattle.proposal_core.specs.declared.entry.RowVote.{RowVote}
use Rattle.proposal_core.specs.declared.entry.RowVote.TheVariants as row_vote
use Rattle.proposal_core.specs.declared.entry.Row.{Row}
use Rattle.proposal_core.specs.declared.group_state.GroupState.{GroupState}
use Rattle.proposal_core.specs.declared.group_state.Running.{Running}
use Rattle.proposal_core.specs.Fold.{max_phases, runs, voters}
use Rattle.vote_phases.specs.declared.voter.Voter.{Voter}
use Rattle.vote_phases.specs.Tally.{TallyView, tally_new, tally_cast, tally_fail, tally_tick, given, given_to, or_vote, is_voter, late_if, passes, no_vote, row_or, rows_of, outcome}
use Rattle.node_state.specs.declared.group.Led.{Led}
use Rattle.node_state.specs.declared.happened.Happened.{Happened}
use Rattle.node_state.specs.Leading.{limit_of, fails_if, tally_for, closed_by, closing, closing_of, closing_entry}
use Rattle.step_refinement.proofs.SessionLaws.{provider_same}
use Rattle.step_refinement.proofs.ViewRules.{same_of}
use Rattle.row_laws.specs.honest_votes.Casts.{IsCast, RowCast, EntryCast, VoterCast, TallyCast}

module _ (rs : List Happened) where
  -- ---- the rows of voters

  rows_cast : (run : Running) (xs : List Voter) → ((x : Voter) → Has x xs → VoterCast rs run x.provider x.vote) → (r : Row) → Has r (rows_of xs) → RowCast rs run.proto run.phase r.provider r.vote
  rows_cast run [] all r i = absurd i
  rows_cast run (x ∷ xs) all r i = by x.vote (all x (inl refl)) i (rows_cast run xs (λ y j. all y (inr j)) r)
    where
      by : (v : Option RowVote) → VoterCast rs run x.provider v → Has {A = Row} r (row_or (elim v as (λ _. Option Row) [ None ↦ None | Some v ↦ Some (record { provider = x.provider; vote = v }) ]) (rows_of xs)) → (Has r (rows_of xs) → RowCast rs run.proto run.phase r.provider r.vote) → RowCast rs run.proto run.phase r.provider r.vote
      by None k j rest = rest j
      by (Some v) k (inl e) rest = subst (λ (z : Row). RowCast rs run.proto run.phase z.provider z.vote) (sym e) k
      by (Some v) k (inr j) rest = rest j

  -- the entry that closes a phase
  pub closing_cast : (l : Led) (t : Option TallyView) (run : Option Running) (e : Entry) → TallyCast rs t run → closing_entry l t run ≡ Some e → EntryCast rs e
  unfolding closing_entry closing_of closing closed_by
  closing_cast l None run e k q = absurd (cc)
  closing_cast l (Some t) None e k q = absurd (cc)
  closing_cast l (Some t) (Some run) e k q = by (outcome t) q
    where
      one : (v : Vote) (last : Bool) → EntryCast rs (closing l t run v last)
      one vote.Approve last = rows_cast run t.voters k
      one vote.Reject last = rows_cast run t.voters k
      one vote.Continue true = rows_cast run t.voters k
      one vote.Continue false = rows_cast run t.voters k

      by : (o : Option Vote) → closing_of l t run o ≡ Some e → EntryCast rs e
      by None q = absurd (cc)
      by (Some v) q = let z : closing l t run v (nat_le max_phases run.phase) ≡ e = cc in subst (EntryCast rs) z (one v (nat_le max_phases run.phase))

  -- ---- what changes of a tally

  -- a row that is no vote, or was cast
  or_vote_cast : (run : Running) (p : ProviderId) (v : RowVote) (old : Option RowVote) → RowCast rs run.proto run.phase p v → VoterCast rs run p old → VoterCast rs run p (or_vote v old)
  or_vote_cast run p v None k old = k
  or_vote_cast run p v (Some w) k old = old

  each_given : (run : Running) (f : Voter → Voter) (xs : List Voter) → ((x : Voter) → VoterCast rs run x.provider x.vote → VoterCast rs run (f x).provider (f x).vote) → ((x : Voter) → Has x xs → VoterCast rs run x.provider x.vote) → (y : Voter) → Has y (map f xs) → VoterCast rs run y.provider y.vote
  each_given run f xs step all y i =
      let k = has_map f y xs i in
      subst (λ (z : Voter). VoterCast rs run z.provider z.vote) (sym k.2) (step k.0 (all k.0 k.1))

  given_cast : (run : Running) (p : ProviderId) (v : RowVote) → ((q : ProviderId) → q ≡ p → RowCast rs run.proto run.phase q v) → (x : Voter) → VoterCast rs run x.provider x.vote → VoterCast rs run (given_to p v x).provider (given_to p v x).vote
  given_cast run p v ok x k = by (is_voter p x) refl
    where
      by : (b : Bool) → is_voter p x ≡ b → VoterCast rs run (if b then given v x else x).provider (if b then given v x else x).vote
      by false e = k
      by true e = or_vote_cast run x.provider v x.vote (ok x.provider (provider_same x.provider p e)) k

  pub failed_cast : (p : ProviderId) (t : TallyView) (run : Option Running) → TallyCast rs (Some t) run → TallyCast rs (Some (tally_fail p t)) run
  failed_cast p t None k = tt
  failed_cast p t (Some run) k = each_given run (given_to p (row_vote.Failed t.default_vote)) t.voters (given_cast run p (row_vote.Failed t.default_vote) (λ q e. tt)) k

  pub ticked_cast : (t : TallyView) (run : Option Running) → TallyCast rs (Some t) run → TallyCast rs (Some (tally_tick t)) run
  ticked_cast t None k = tt
  ticked_cast t (Some run) k = by (passes t.limit t.count)
    where
      by : (b : Bool) → (x : Voter) → Has x (late_if b t.default_vote t.voters) → VoterCast rs run x.provider x.vote
      by true = each_given run (given (row_vote.Late t.default_vote)) t.voters (λ x a. or_vote_cast run x.provider (row_vote.Late t.default_vote) x.vote tt a) k
      by false = k

  pub voted_cast : (p : ProviderId) (v : Vote) (t : TallyView) (run : Option Running) → ((r : Running) → run ≡ Some r → IsCast rs p r.proto r.phase v) → TallyCast rs (Some t) run → TallyCast rs (Some (tally_cast p v t)) run
  voted_cast p v t None ok k = tt
  voted_cast p v t (Some run) ok k =
      each_given run (given_to p (row_vote.Cast v)) t.voters (given_cast run p (row_vote.Cast v) (λ q e. subst (λ z. IsCast rs z run.proto run.phase v) (sym e) (ok run refl))) k

  -- a tally that is opened anew has no votes
  fails_cast : (failed gone : List ProviderId) (run : Running) (ps : List ProviderId) (t : TallyView) → TallyCast rs (Some t) (Some run) → TallyCast rs (Some (fold (fails_if failed gone) t ps)) (Some run)
  unfolding fails_if
  fails_cast failed gone run [] t k = k
  fails_cast failed gone run (p ∷ ps) t k = fails_cast failed gone run ps (fails_if failed gone t p) (by (among failed p || among gone p))
    where
      by : (b : Bool) → TallyCast rs (Some (elim b as (λ _. TallyView) [ true ↦ tally_fail p t | false ↦ t ])) (Some run)
      by true = failed_cast p t (Some run) k
      by false = k

  pub opened_cast : (st : GroupState) (gone : List ProviderId) (run : Option Running) → TallyCast rs (Some (tally_for st gone)) run
  unfolding tally_for
  opened_cast st gone None = tt
  opened_cast st gone (Some run) =
      let t : TallyView = tally_new (voters st) st.attrs.default_vote (limit_of st.attrs st.running) in
      fails_cast st.failed gone run (voters st) t (λ x i. let k = has_map no_vote x (voters st) i in subst (λ (z : Voter). VoterCast rs run z.provider z.vote) (sym k.2) tt)

-- the phase that runs
pub runs_is : (proto : ProtoId) (phase : ℕ) (run : Running) → runs proto phase (Some run) ≡ true → (proto ≡ run.proto) × (phase ≡ run.phase)
unfolding runs
runs_is proto phase run e =
    let k = and_parts (phase == run.phase) (same_proto proto run.proto) e in
    let j = and_parts (same_view proto.view run.proto.view) (proto.place == run.proto.place) k.1 in
    let v : proto.view ≡ run.proto.view = same_of proto.view run.proto.view j.0 in
    let p : proto.place ≡ run.proto.place = eqb-true proto.place run.proto.place j.1 in
    (λ i. record { view = v i; place = p i }, eqb-true phase run.phase k.0)
