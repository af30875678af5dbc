-- The slots of a tally, and the rows of the entry that it makes.
use Rattle.std.proofs.Common.{◌≡◌, List, [], ◌∷◌, Option, Some, None, Bool, true, false, refl, ap, ◌∙◌, subst}
use Rattle.std.specs.Prelude.{◌||◌, fold, map, is_none, nat_le, if◌then◌else◌}
use Rattle.std.specs.List.{list_any}
use Rattle.rsct_packet.specs.declared.ids.ProviderId.{ProviderId}
use Rattle.rsct_packet.specs.Providers.{among}
use Rattle.proposal_core.specs.declared.entry.Entry.{Entry}
use Rattle.proposal_core.specs.declared.entry.Vote.{Vote}
use Rattle.proposal_core.specs.declared.entry.Vote.TheVariants as vote
use Rattle.proposal_core.specs.declared.entry.RowVote.{RowVote}
use Rattle.proposal_core.specs.declared.entry.RowVote.TheVariants as row_vote
use Rattle.proposal_core.specs.declared.entry.Row.{Row}
use Rattle.proposal_core.specs.declared.group_state.GroupState.{GroupState}
use Rattle.proposal_core.specs.declared.group_state.Running.{Running}
use Rattle.proposal_core.specs.Fold.{max_phases, voters_at, voters}
use Rattle.vote_phases.specs.declared.voter.Voter.{Voter}
use Rattle.vote_phases.specs.Tally.{TallyView, tally_new, tally_cast, tally_fail, tally_tick, given, given_to, is_voter, is_open, has_open, late_if, passes, no_vote, row_or, rows_of, tally_of}
use Rattle.node_state.specs.declared.group.Led.{Led}
use Rattle.node_state.specs.Leading.{limit_of, fails_if, tally_for, closed_by, closing, closing_of, closing_entry}
use Rattle.entry_laws.specs.closing_rows.Rows.{HasRows, TallyFits}

-- whom the slots are of
abbrev pub slots : List Voter → List ProviderId
slots xs = map (λ (x : Voter). x.provider) xs

-- what stands for a voter changes no slot
each_same : (f : Voter → Voter) → ((x : Voter) → (f x).provider ≡ x.provider) → (xs : List Voter) → slots (map f xs) ≡ slots xs
each_same f same [] = refl
each_same f same (x ∷ xs) = λ i. same x i ∷ each_same f same xs i

given_same : (p : ProviderId) (v : RowVote) (x : Voter) → (given_to p v x).provider ≡ x.provider
given_same p v x = by (is_voter p x)
  where
    by : (b : Bool) → (if b then given v x else x).provider ≡ x.provider
    by true = refl
    by false = refl

pub failed_fits : (p : ProviderId) (t : TallyView) (st : GroupState) → TallyFits (Some t) st → TallyFits (Some (tally_fail p t)) st
failed_fits p t st k = each_same (given_to p (row_vote.Failed t.default_vote)) (given_same p (row_vote.Failed t.default_vote)) t.voters ∙ k

pub voted_fits : (p : ProviderId) (v : Vote) (t : TallyView) (st : GroupState) → TallyFits (Some t) st → TallyFits (Some (tally_cast p v t)) st
voted_fits p v t st k = each_same (given_to p (row_vote.Cast v)) (given_same p (row_vote.Cast v)) t.voters ∙ k

pub ticked_fits : (t : TallyView) (st : GroupState) → TallyFits (Some t) st → TallyFits (Some (tally_tick t)) st
ticked_fits t st k = by (passes t.limit t.count)
  where
    by : (b : Bool) → slots (late_if b t.default_vote t.voters) ≡ voters st
    by true = each_same (given (row_vote.Late t.default_vote)) (λ x. refl) t.voters ∙ k
    by false = k

-- a tally that is opened anew
fails_fit : (failed gone : List ProviderId) (st : GroupState) (ps : List ProviderId) (t : TallyView) → TallyFits (Some t) st → TallyFits (Some (fold (fails_if failed gone) t ps)) st
unfolding fails_if
fails_fit failed gone st [] t k = k
fails_fit failed gone st (p ∷ ps) t k = fails_fit failed gone st ps (fails_if failed gone t p) (by (among failed p || among gone p))
  where
    by : (b : Bool) → TallyFits (Some (elim b as (λ _. TallyView) [ true ↦ tally_fail p t | false ↦ t ])) st
    by true = failed_fits p t st k
    by false = k

slots_new : (ps : List ProviderId) → slots (map no_vote ps) ≡ ps
slots_new [] = refl
slots_new (p ∷ ps) = ap (λ l. p ∷ l) (slots_new ps)

pub opened_fits : (st : GroupState) (gone : List ProviderId) → TallyFits (Some (tally_for st gone)) st
unfolding tally_for
opened_fits st gone =
    fails_fit st.failed gone st (voters st) (tally_new (voters st) st.attrs.default_vote (limit_of st.attrs st.running)) (slots_new (voters st))

-- nobody votes where nothing runs
pub idle_voters : (st : GroupState) → st.running ≡ None → voters st ≡ []
unfolding voters voters_at
idle_voters st e = ap (voters_at st) e

-- ---- the rows

-- where no slot is open, each has a row
rows_are : (xs : List Voter) → list_any is_open xs ≡ false → map (λ (r : Row). r.provider) (rows_of xs) ≡ slots xs
rows_are [] e = refl
rows_are (x ∷ xs) e = by x.vote e (rows_are xs)
  where
    by : (v : Option RowVote) → (is_none v || list_any is_open xs) ≡ false → (list_any is_open xs ≡ false → map (λ (r : Row). r.provider) (rows_of xs) ≡ slots xs) → map (λ (r : Row). r.provider) (row_or (elim v as (λ _. Option Row) [ None ↦ None | Some v ↦ Some (record { provider = x.provider; vote = v }) ]) (rows_of xs)) ≡ slots (x ∷ xs)
    by None q rest = absurd (cc)
    by (Some v) q rest = ap (λ l. x.provider ∷ l) (rest q)

-- the entry that closes a phase has one row for each voter
pub closing_rows : (l : Led) (t : Option TallyView) (st : GroupState) (e : Entry) → TallyFits t st → closing_entry l t st.running ≡ Some e → HasRows st e
unfolding closing_entry closing_of closing closed_by
closing_rows l None st e k q = absurd (cc)
closing_rows l (Some t) st e k q = running st.running q
  where
    running : (r : Option Running) → closing_entry l (Some t) r ≡ Some e → HasRows st e
    running None q = absurd (cc)
    running (Some run) q = by (has_open t) refl q
      where
        rows : has_open t ≡ false → map (λ (r : Row). r.provider) (rows_of t.voters) ≡ voters st
        rows shut = rows_are t.voters shut ∙ k

        one : has_open t ≡ false → (v : Vote) (last : Bool) → HasRows st (closing l t run v last)
        one shut vote.Approve last = rows shut
        one shut vote.Reject last = rows shut
        one shut vote.Continue true = rows shut
        one shut vote.Continue false = rows shut

        by : (b : Bool) → has_open t ≡ b → closing_of l t run (if b then None else Some (tally_of (rows_of t.voters))) ≡ Some e → HasRows st e
        by true shut q = absurd (cc)
        by false shut q =
            let z : closing l t run (tally_of (rows_of t.voters)) (nat_le max_phases run.phase) ≡ e = cc in
            subst (HasRows st) z (one shut (tally_of (rows_of t.voters)) (nat_le max_phases run.phase))
