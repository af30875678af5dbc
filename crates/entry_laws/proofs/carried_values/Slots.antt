-- The slots of a tally and the ballots that were counted.
use Rattle.std.proofs.Common.{◌≡◌, ℕ, List, [], ◌∷◌, ◌++◌, Option, Some, None, Bool, true, false, refl, sym, ap, ◌∙◌, subst, inl, inr}
use Rattle.std.specs.Prelude.{◌||◌, fold, map, find, is_none, nat_le, if◌then◌else◌}
use Rattle.std.specs.Option.{option_or}
use Rattle.rsct_packet.specs.declared.ids.ProviderId.{ProviderId}
use Rattle.rsct_packet.specs.Providers.{same_provider, among}
use Rattle.rsct_packet.specs.Search.{Has}
use Rattle.rsct_packet.proofs.HasLaws.{has_map, find_has, find_none}
use Rattle.proposal_core.specs.declared.entry.Entry.{Entry}
use Rattle.proposal_core.specs.declared.entry.Vote.{Vote}
use Rattle.proposal_core.specs.declared.entry.Vote.TheVariants as vote
use Rattle.proposal_core.specs.declared.entry.RowVote.{RowVote}
use Rattle.proposal_core.specs.declared.entry.RowVote.TheVariants as row_vote
use Rattle.proposal_core.specs.declared.entry.Row.{Row}
use Rattle.proposal_core.specs.declared.group_state.GroupState.{GroupState}
use Rattle.proposal_core.specs.declared.group_state.Running.{Running}
use Rattle.proposal_core.specs.Fold.{max_phases, voters}
use Rattle.vote_phases.specs.declared.voter.Voter.{Voter}
use Rattle.vote_phases.specs.declared.tally.Cast.{Cast}
use Rattle.vote_phases.specs.declared.tally.Cast.TheVariants.{Recorded, NotVoter, Already}
use Rattle.vote_phases.specs.Tally.{TallyView, tally_new, tally_cast, tally_fail, tally_tick, given, given_to, or_vote, is_voter, late_if, passes, no_vote, row_or, rows_of, outcome, answer_of, cast_answer, vote_of_row}
use Rattle.node_state.specs.declared.group.Given.{Given}
use Rattle.node_state.specs.declared.group.Led.{Led}
use Rattle.node_state.specs.declared.happened.Happened.{Happened}
use Rattle.node_state.specs.declared.happened.Happened.TheVariants as happened
use Rattle.node_state.specs.Leading.{limit_of, fails_if, tally_for, carried_in, first_carried, value_of, closed_by, closing, closing_of, closing_entry}
use Rattle.node_state.specs.Following.{given_with}
use Rattle.run_safety.proofs.Tests.{same_self}
use Rattle.step_refinement.proofs.SessionLaws.{provider_same}
use Rattle.entry_laws.specs.carried_values.Carried.{Pick, the_value, the_message, OwnOr, RowsGive, EntryCarries}

-- what a counted ballot of the provider carries
abbrev pub given_of : List Given → ProviderId → Option Given
given_of gs p = find (λ (y : Given). same_provider y.provider p) gs

-- a slot has a vote just where a ballot of it is kept, which was recorded with that vote
abbrev pub SlotIs : List Happened → Running → Option Given → ProviderId → Option RowVote → Type 0
SlotIs rs run None p None = Unit {0}
SlotIs rs run None p (Some (row_vote.Cast v)) = ⊥
SlotIs rs run None p (Some (row_vote.Late d)) = Unit {0}
SlotIs rs run None p (Some (row_vote.Failed d)) = Unit {0}
SlotIs rs run (Some y) p None = ⊥
SlotIs rs run (Some y) p (Some (row_vote.Cast v)) = Has (happened.Cast p run.proto run.phase v y.value y.message) rs
SlotIs rs run (Some y) p (Some (row_vote.Late d)) = ⊥
SlotIs rs run (Some y) p (Some (row_vote.Failed d)) = ⊥

-- slots of one provider have the same
pub record Slots (rs : List Happened) (run : Running) (gs : List Given) (xs : List Voter) : Type 0 where
  pub each : (x : Voter) → Has x xs → SlotIs rs run (given_of gs x.provider) x.provider x.vote
  pub same : (x y : Voter) → Has x xs → Has y xs → x.provider ≡ y.provider → x.vote ≡ y.vote

-- of a tally of the phase that runs
abbrev pub TallyIs : List Happened → Option TallyView → List Given → Option Running → Type 0
TallyIs rs None gs run = Unit {0}
TallyIs rs (Some t) gs None = Unit {0}
TallyIs rs (Some t) gs (Some run) = Slots rs run gs t.voters

module _ (rs ts : List Happened) (more : (r : Happened) → Has r rs → Has r ts) where
  slot_on : (run : Running) (o : Option Given) (p : ProviderId) (v : Option RowVote) → SlotIs rs run o p v → SlotIs ts run o p v
  slot_on run None p None k = tt
  slot_on run None p (Some (row_vote.Cast v)) k = k
  slot_on run None p (Some (row_vote.Late d)) k = tt
  slot_on run None p (Some (row_vote.Failed d)) k = tt
  slot_on run (Some y) p None k = k
  slot_on run (Some y) p (Some (row_vote.Cast v)) k = more _ k
  slot_on run (Some y) p (Some (row_vote.Late d)) k = k
  slot_on run (Some y) p (Some (row_vote.Failed d)) k = k

  pub tally_on : (t : Option TallyView) (gs : List Given) (run : Option Running) → TallyIs rs t gs run → TallyIs ts t gs run
  tally_on None gs run k = tt
  tally_on (Some t) gs None k = tt
  tally_on (Some t) gs (Some run) k = record { each = λ x i. slot_on run (given_of gs x.provider) x.provider x.vote (k.each x i); same = k.same }

module _ (rs : List Happened) where
  -- ---- what stands for voters changes

  module _ (run : Running) (gs hs : List Given) (f : Voter → Voter) (F : ProviderId → Option RowVote → Option RowVote) (p_same : (x : Voter) → (f x).provider ≡ x.provider) (vote_is : (x : Voter) → (f x).vote ≡ F x.provider x.vote) where
    mapped : (xs : List Voter) → ((x : Voter) → Has x xs → SlotIs rs run (given_of gs x.provider) x.provider x.vote → SlotIs rs run (given_of hs x.provider) x.provider (F x.provider x.vote)) → Slots rs run gs xs → Slots rs run hs (map f xs)
    mapped xs step k =
        record {
          each = λ y i. let b = has_map f y xs i in subst (λ (z : Voter). SlotIs rs run (given_of hs z.provider) z.provider z.vote) (sym b.2) (subst (λ (z : ProviderId × Option RowVote). SlotIs rs run (given_of hs z.0) z.0 z.1) (λ j. (sym (p_same b.0) j, sym (vote_is b.0) j)) (step b.0 b.1 (k.each b.0 b.1)));
          same = λ x y i j e. let a = has_map f x xs i in
              let b = has_map f y xs j in
              let q : (a.0).provider ≡ (b.0).provider = sym (p_same a.0) ∙ ap (λ (z : Voter). z.provider) (sym a.2) ∙ e ∙ ap (λ (z : Voter). z.provider) b.2 ∙ p_same b.0 in
              let w : (a.0).vote ≡ (b.0).vote = k.same a.0 b.0 a.1 b.1 q in
              ap (λ (z : Voter). z.vote) a.2 ∙ vote_is a.0 ∙ (λ l. F (q l) (w l)) ∙ sym (vote_is b.0) ∙ ap (λ (z : Voter). z.vote) (sym b.2);
        }

  abbrev given_vote : ProviderId → RowVote → ProviderId → Option RowVote → Option RowVote
  given_vote p v q w = if same_provider q p then or_vote v w else w

  given_p : (p : ProviderId) (v : RowVote) (x : Voter) → (given_to p v x).provider ≡ x.provider
  given_p p v x = by (is_voter p x)
    where
      by : (b : Bool) → (if b then given v x else x).provider ≡ x.provider
      by true = refl
      by false = refl

  given_is : (p : ProviderId) (v : RowVote) (x : Voter) → (given_to p v x).vote ≡ given_vote p v x.provider x.vote
  given_is p v x = by (is_voter p x)
    where
      by : (b : Bool) → (if b then given v x else x).vote ≡ (if b then or_vote v x.vote else x.vote)
      by true = refl
      by false = refl

  -- a default where there was nothing
  default_slot : (run : Running) (o : Option Given) (p : ProviderId) (d : RowVote) (w : Option RowVote) → SlotIs rs run None p (Some d) → SlotIs rs run o p w → SlotIs rs run o p (or_vote d w)
  default_slot run None p d None ok k = ok
  default_slot run (Some y) p d None ok k = absurd k
  default_slot run o p d (Some w) ok k = k

  pub failed_is : (p : ProviderId) (t : TallyView) (gs : List Given) (run : Option Running) → TallyIs rs (Some t) gs run → TallyIs rs (Some (tally_fail p t)) gs run
  failed_is p t gs None k = tt
  failed_is p t gs (Some run) k = mapped run gs gs (given_to p v) (given_vote p v) (given_p p v) (given_is p v) t.voters (λ x i s. by x (same_provider x.provider p) s) k
    where
      v : RowVote
      v = row_vote.Failed t.default_vote

      by : (x : Voter) (b : Bool) → SlotIs rs run (given_of gs x.provider) x.provider x.vote → SlotIs rs run (given_of gs x.provider) x.provider (if b then or_vote v x.vote else x.vote)
      by x true s = default_slot run (given_of gs x.provider) x.provider v x.vote tt s
      by x false s = s

  pub ticked_is : (t : TallyView) (gs : List Given) (run : Option Running) → TallyIs rs (Some t) gs run → TallyIs rs (Some (tally_tick t)) gs run
  ticked_is t gs None k = tt
  ticked_is t gs (Some run) k = by (passes t.limit t.count)
    where
      v : RowVote
      v = row_vote.Late t.default_vote

      by : (b : Bool) → Slots rs run gs (late_if b t.default_vote t.voters)
      by true = mapped run gs gs (given v) (λ q w. or_vote v w) (λ x. refl) (λ x. refl) t.voters (λ x i s. default_slot run (given_of gs x.provider) x.provider v x.vote tt s) k
      by false = k

  -- ---- a ballot is counted

  given_more : (gs : List Given) (y : Given) (q : ProviderId) → given_of gs q ≡ None → same_provider y.provider q ≡ true → given_of (gs ++ y ∷ []) q ≡ Some y
  given_more [] y q e s = ap (λ b. if b then Some y else None) s
  given_more (z ∷ gs) y q e s = by (same_provider z.provider q) e (given_more gs y q)
    where
      by : (b : Bool) → (if b then Some z else given_of gs q) ≡ None → (given_of gs q ≡ None → same_provider y.provider q ≡ true → given_of (gs ++ y ∷ []) q ≡ Some y) → (if b then Some z else given_of (gs ++ y ∷ []) q) ≡ Some y
      by true e rest = absurd (cc)
      by false e rest = rest e s

  given_beside : (gs : List Given) (y : Given) (q : ProviderId) → same_provider y.provider q ≡ false → given_of (gs ++ y ∷ []) q ≡ given_of gs q
  given_beside [] y q s = ap (λ b. if b then Some y else None) s
  given_beside (z ∷ gs) y q s = ap (λ o. if same_provider z.provider q then Some z else o) (given_beside gs y q s)

  other_way : (p q : ProviderId) → same_provider q p ≡ false → same_provider p q ≡ false
  other_way p q e = by (same_provider p q) refl
    where
      by : (b : Bool) → same_provider p q ≡ b → b ≡ false
      by false s = refl
      by true s =
          let z : p ≡ q = provider_same p q s in
          let a : same_provider q p ≡ true = ap (λ k. same_provider q k) z ∙ same_self q in absurd (cc)

  pub voted_is : (p : ProviderId) (v : Vote) (value message : Option (List ℕ)) (t : TallyView) (gs : List Given) (run : Option Running) → ((r : Running) → run ≡ Some r → Has (happened.Cast p r.proto r.phase v value message) rs) → TallyIs rs (Some t) gs run → TallyIs rs (Some (tally_cast p v t)) (given_with gs p value message (cast_answer p t)) run
  unfolding given_with
  voted_is p v value message t gs None ok k = tt
  voted_is p v value message t gs (Some run) ok k = found (find (is_voter p) t.voters) refl
    where
      Counted : Cast → Type 0
      Counted c = Slots rs run (given_with gs p value message c) (map (given_to p (row_vote.Cast v)) t.voters)

      all : (hs : List Given) → ((x : Voter) → Has x t.voters → SlotIs rs run (given_of gs x.provider) x.provider x.vote → SlotIs rs run (given_of hs x.provider) x.provider (given_vote p (row_vote.Cast v) x.provider x.vote)) → Slots rs run hs (map (given_to p (row_vote.Cast v)) t.voters)
      all hs step = mapped run gs hs (given_to p (row_vote.Cast v)) (given_vote p (row_vote.Cast v)) (given_p p (row_vote.Cast v)) (given_is p (row_vote.Cast v)) t.voters step k

      -- nobody of that name votes
      nobody : find (is_voter p) t.voters ≡ None → Counted NotVoter
      nobody e = all gs (λ x i s. by x i (same_provider x.provider p) refl s)
        where
          by : (x : Voter) → Has x t.voters → (b : Bool) → same_provider x.provider p ≡ b → SlotIs rs run (given_of gs x.provider) x.provider x.vote → SlotIs rs run (given_of gs x.provider) x.provider (if b then or_vote (row_vote.Cast v) x.vote else x.vote)
          by x i true q s = absurd (find_none (is_voter p) t.voters x (ap is_none e) i q)
          by x i false q s = s

      -- something stands for the voter already
      already : (y : Voter) (w : RowVote) → Has y t.voters → y.provider ≡ p → y.vote ≡ Some w → Counted (Already (vote_of_row w))
      already y w j yp e = all gs (λ x i s. by x i (same_provider x.provider p) refl s)
        where
          stands : (o : Option RowVote) (x : Voter) → o ≡ Some w → SlotIs rs run (given_of gs x.provider) x.provider o → SlotIs rs run (given_of gs x.provider) x.provider (or_vote (row_vote.Cast v) o)
          stands None x z s = absurd (cc)
          stands (Some u) x z s = s

          by : (x : Voter) → Has x t.voters → (b : Bool) → same_provider x.provider p ≡ b → SlotIs rs run (given_of gs x.provider) x.provider x.vote → SlotIs rs run (given_of gs x.provider) x.provider (if b then or_vote (row_vote.Cast v) x.vote else x.vote)
          by x i true q s = stands x.vote x (k.same x y i j (provider_same x.provider p q ∙ sym yp) ∙ e) s
          by x i false q s = s

      new : Given
      new = record { provider = p; value = value; message = message }

      -- the ballot is the first of the voter
      first : (y : Voter) → Has y t.voters → y.provider ≡ p → y.vote ≡ None → Counted Recorded
      first y j yp e = all (gs ++ new ∷ []) (λ x i s. by x i (same_provider x.provider p) refl s)
        where
          taken : (x : Voter) (o : Option RowVote) → x.provider ≡ p → o ≡ None → SlotIs rs run (given_of gs x.provider) x.provider o → SlotIs rs run (given_of (gs ++ new ∷ []) x.provider) x.provider (or_vote (row_vote.Cast v) o)
          taken x (Some u) xp z s = absurd (cc)
          taken x None xp z s = at (given_of gs x.provider) refl s
            where
              at : (o : Option Given) → given_of gs x.provider ≡ o → SlotIs rs run o x.provider None → SlotIs rs run (given_of (gs ++ new ∷ []) x.provider) x.provider (Some (row_vote.Cast v))
              at (Some g) q s = absurd s
              at None q s =
                  let self : same_provider p x.provider ≡ true = ap (same_provider p) xp ∙ same_self p in
                  subst (λ o. SlotIs rs run o x.provider (Some (row_vote.Cast v))) (sym (given_more gs new x.provider q self)) (subst (λ z. Has (happened.Cast z run.proto run.phase v value message) rs) (sym xp) (ok run refl))

          by : (x : Voter) → Has x t.voters → (b : Bool) → same_provider x.provider p ≡ b → SlotIs rs run (given_of gs x.provider) x.provider x.vote → SlotIs rs run (given_of (gs ++ new ∷ []) x.provider) x.provider (if b then or_vote (row_vote.Cast v) x.vote else x.vote)
          by x i true q s =
              let xp : x.provider ≡ p = provider_same x.provider p q in taken x x.vote xp (k.same x y i j (xp ∙ sym yp) ∙ e) s
          by x i false q s =
              subst (λ o. SlotIs rs run o x.provider x.vote) (sym (given_beside gs new x.provider (other_way p x.provider q))) s

      at_voter : (y : Voter) → Has y t.voters → y.provider ≡ p → (o : Option RowVote) → y.vote ≡ o → Counted (elim o as (λ _. Cast) [ None ↦ Recorded | Some w ↦ Already (vote_of_row w) ])
      at_voter y j yp None e = first y j yp e
      at_voter y j yp (Some w) e = already y w j yp e

      found : (o : Option Voter) → find (is_voter p) t.voters ≡ o → Counted (answer_of o)
      found None e = nobody e
      found (Some y) e = let b = find_has (is_voter p) t.voters y e in at_voter y b.0 (provider_same y.provider p b.1) y.vote refl

  -- ---- a tally that is opened anew has no votes

  fails_are : (failed gone : List ProviderId) (run : Running) (ps : List ProviderId) (t : TallyView) → TallyIs rs (Some t) [] (Some run) → TallyIs rs (Some (fold (fails_if failed gone) t ps)) [] (Some run)
  unfolding fails_if
  fails_are failed gone run [] t k = k
  fails_are failed gone run (p ∷ ps) t k = fails_are failed gone run ps (fails_if failed gone t p) (by (among failed p || among gone p))
    where
      by : (b : Bool) → TallyIs rs (Some (elim b as (λ _. TallyView) [ true ↦ tally_fail p t | false ↦ t ])) [] (Some run)
      by true = failed_is p t [] (Some run) k
      by false = k

  pub opened_is : (st : GroupState) (gone : List ProviderId) (run : Option Running) → TallyIs rs (Some (tally_for st gone)) [] run
  unfolding tally_for
  opened_is st gone None = tt
  opened_is st gone (Some run) =
      let t : TallyView = tally_new (voters st) st.attrs.default_vote (limit_of st.attrs st.running) in
      let none : (x : Voter) → Has x (map no_vote (voters st)) → x.vote ≡ None = λ x i. let k = has_map no_vote x (voters st) i in ap (λ (z : Voter). z.vote) k.2 in
      fails_are st.failed gone run (voters st) t (record { each = λ x i. subst (λ o. SlotIs rs run None x.provider o) (sym (none x i)) tt; same = λ x y i j e. none x i ∙ sym (none y j) })

  -- ---- the entry that closes the phase

  rows_give : (pick : Pick) (run : Running) (gs : List Given) (xs : List Voter) → ((x : Voter) → Has x xs → SlotIs rs run (given_of gs x.provider) x.provider x.vote) → RowsGive pick rs run.proto run.phase (rows_of xs) (first_carried (λ (y : Given). pick y.value y.message) gs xs)
  unfolding first_carried
  rows_give pick run gs [] all = refl
  rows_give pick run gs (x ∷ xs) all = by (given_of gs x.provider) x.vote (all x (inl refl)) (rows_give pick run gs xs (λ y i. all y (inr i)))
    where
      part : Given → Option (List ℕ)
      part y = pick y.value y.message

      rest : Option (List ℕ)
      rest = first_carried part gs xs

      own : (o : Option (List ℕ)) → RowsGive pick rs run.proto run.phase (rows_of xs) rest → OwnOr o (RowsGive pick rs run.proto run.phase (rows_of xs)) (option_or o rest)
      own None more = more
      own (Some z) more = refl

      by : (o : Option Given) (v : Option RowVote) → SlotIs rs run o x.provider v → RowsGive pick rs run.proto run.phase (rows_of xs) rest → RowsGive pick rs run.proto run.phase (row_or (elim v as (λ _. Option Row) [ None ↦ None | Some v ↦ Some (record { provider = x.provider; vote = v }) ]) (rows_of xs)) (option_or (carried_in part o) rest)
      by None None s more = more
      by None (Some (row_vote.Cast v)) s more = absurd s
      by None (Some (row_vote.Late d)) s more = more
      by None (Some (row_vote.Failed d)) s more = more
      by (Some y) None s more = absurd s
      by (Some y) (Some (row_vote.Cast v)) s more = (y.value, y.message, s, own (part y) more)
      by (Some y) (Some (row_vote.Late d)) s more = absurd s
      by (Some y) (Some (row_vote.Failed d)) s more = absurd s

  pub closing_carries : (l : Led) (t : Option TallyView) (run : Option Running) (e : Entry) → TallyIs rs t l.given run → closing_entry l t run ≡ Some e → EntryCarries rs e
  unfolding closing_entry closing_of closing closed_by value_of
  closing_carries l None run e k q = absurd (cc)
  closing_carries l (Some t) None e k q = absurd (cc)
  closing_carries l (Some t) (Some run) e k q = by (outcome t) q
    where
      value : RowsGive the_value rs run.proto run.phase (rows_of t.voters) (first_carried (λ (y : Given). y.value) l.given t.voters)
      value = rows_give the_value run l.given t.voters k.each

      message : RowsGive the_message rs run.proto run.phase (rows_of t.voters) (first_carried (λ (y : Given). y.message) l.given t.voters)
      message = rows_give the_message run l.given t.voters k.each

      one : (v : Vote) (last : Bool) → EntryCarries rs (closing l t run v last)
      one vote.Approve last = (value, message)
      one vote.Reject last = (refl, message)
      one vote.Continue true = (refl, message)
      one vote.Continue false = (value, message)

      by : (o : Option Vote) → closing_of l t run o ≡ Some e → EntryCarries rs e
      by None q = absurd (cc)
      by (Some v) q =
          let z : closing l t run v (nat_le max_phases run.phase) ≡ e = cc in
          subst (EntryCarries rs) z (one v (nat_le max_phases run.phase))
