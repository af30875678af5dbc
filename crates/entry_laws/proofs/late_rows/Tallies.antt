-- What a tally counts, and what the entry that it makes says of who was late.
use Rattle.std.proofs.Common.{◌≡◌, ◌≤◌, ◌<◌, ◌⊎◌, ℕ, suc, ◌+◌, ◌*◌, List, [], ◌∷◌, length, Option, Some, None, Bool, true, false, refl, sym, ap, ◌∙◌, subst, inl, inr, arith}
use Rattle.std.specs.Prelude.{◌==◌, ◌&&◌, ◌||◌, fold, find, map, filter, nat_le, nat_lt, is_none, if◌then◌else◌}
use Rattle.std.specs.List.{list_any, last_or}
use Rattle.std.proofs.lemmas.Bool.{eqb-true, and_parts}
use Rattle.std.proofs.lemmas.Bool.Decides.{nat_tests}
use Rattle.rsct_packet.specs.declared.ids.ProviderId.{ProviderId}
use Rattle.rsct_packet.specs.Ids.{last_u32}
use Rattle.rsct_packet.specs.Providers.{among}
use Rattle.rsct_packet.specs.Search.{Has}
use Rattle.rsct_packet.proofs.HasLaws.{find_has, has_map, has_filter}
use Rattle.proposal_core.specs.declared.entry.Entry.{Entry}
use Rattle.proposal_core.specs.declared.entry.Entry.TheVariants.{Late}
use Rattle.group_attr.specs.declared.attrs.DefaultVote.{DefaultVote}
use Rattle.proposal_core.specs.declared.entry.Vote.{Vote}
use Rattle.proposal_core.specs.declared.entry.Vote.TheVariants as vote
use Rattle.proposal_core.specs.declared.entry.RowVote.{RowVote}
use Rattle.proposal_core.specs.declared.entry.RowVote.TheVariants as row_vote
use Rattle.proposal_core.specs.declared.entry.Row.{Row}
use Rattle.proposal_core.specs.declared.group_state.GroupState.{GroupState}
use Rattle.proposal_core.specs.declared.group_state.Running.{Running}
use Rattle.proposal_core.specs.GroupView.{GroupView}
use Rattle.proposal_core.specs.Lists.{list_or_new, state_in, has_room, entry_fits}
use Rattle.proposal_core.specs.Fold.{max_phases, runs, fits, voters}
use Rattle.proposal_core.specs.Sizes.{closed_len, entry_len}
use Rattle.vote_phases.specs.declared.voter.Voter.{Voter}
use Rattle.vote_phases.specs.Tally.{TallyView, tally_new, tally_cast, tally_fail, tally_tick, given, given_to, or_vote, is_voter, is_open, has_open, late_if, passes, counted, expires, open_voters, no_vote, row_or, rows_of, outcome, vote_of_row, answer_of}
use Rattle.vote_phases.specs.declared.tally.Cast.{Cast}
use Rattle.vote_phases.specs.declared.tally.Cast.TheVariants.{Recorded, Already}
use Rattle.node_state.specs.declared.group.Given.{Given}
use Rattle.node_state.specs.declared.group.Led.{Led}
use Rattle.node_state.specs.Following.{given_with, vote_cast}
use Rattle.node_state.specs.Leading.{limit_of, fails_if, tally_for, closed_by, closing, closing_of, closing_entry}
use Rattle.entry_laws.specs.late_rows.Late.{TimeIsOver, LateVote, EntryLate}
use Rattle.entry_laws.specs.late_rows.Announced.{late_first, late_in, EntryTold}
use Rattle.entry_laws.proofs.late_rows.At.{CountedVote, TallyIs, late_vote, late_voters, Settled, settled_same}

module _ (st : GroupState) (ticks : ℕ) where
  -- ---- the rows of voters

  vote_late : (less : ℕ) (t : TallyView) → TallyIs st ticks less t → (v : RowVote) → CountedVote t (Some v) → LateVote st ticks v
  vote_late less t k (row_vote.Cast v) c = tt
  vote_late less t k (row_vote.Failed d) c = tt
  vote_late less t k (row_vote.Late d) c =
      (c.0 ∙ k.default, record { limited = subst (λ z. 0 < z) k.limit c.1; over = subst (λ z. z ≤ ticks) k.limit (let a = c.2 in let b = k.counted in omega arith) })

  rows_late : (less : ℕ) (t : TallyView) → TallyIs st ticks less t → (xs : List Voter) → ((y : Voter) → Has y xs → CountedVote t y.vote) → (r : Row) → Has r (rows_of xs) → LateVote st ticks r.vote
  rows_late less t k [] all r i = absurd i
  rows_late less t k (y ∷ xs) all r i = by y.vote (all y (inl refl)) i (rows_late less t k xs (λ z j. all z (inr j)) r)
    where
      by : (v : Option RowVote) → CountedVote t v → Has {A = Row} r (row_or (elim v as (λ _. Option Row) [ None ↦ None | Some v ↦ Some (record { provider = y.provider; vote = v }) ]) (rows_of xs)) → (Has r (rows_of xs) → LateVote st ticks r.vote) → LateVote st ticks r.vote
      by None c j rest = rest j
      by (Some v) c (inl e) rest = subst (λ (z : Row). LateVote st ticks z.vote) (sym e) (vote_late less t k v c)
      by (Some v) c (inr j) rest = rest j

  -- the entry that closes a phase
  pub closing_late : (less : ℕ) (l : Led) (o : Option TallyView) (run : Option Running) (e : Entry) → ((t : TallyView) → o ≡ Some t → (r : Running) → run ≡ Some r → TallyIs st ticks less t) → closing_entry l o run ≡ Some e → EntryLate st ticks e
  unfolding closing_entry closing_of closing closed_by
  closing_late less l None run e k q = absurd (cc)
  closing_late less l (Some t) None e k q = absurd (cc)
  closing_late less l (Some t) (Some run) e k q = by (outcome t) q
    where
      rows : (r : Row) → Has r (rows_of t.voters) → LateVote st ticks r.vote
      rows = rows_late less t (k t refl run refl) t.voters (k t refl run refl).vote

      one : (v : Vote) (last : Bool) → EntryLate st ticks (closing l t run v last)
      one vote.Approve last = rows
      one vote.Reject last = rows
      one vote.Continue true = rows
      one vote.Continue false = rows

      by : (o : Option Vote) → closing_of l t run o ≡ Some e → EntryLate st ticks e
      by None q = absurd (cc)
      by (Some v) q = let z : closing l t run v (nat_le max_phases run.phase) ≡ e = cc in subst (EntryLate st ticks) z (one v (nat_le max_phases run.phase))

  -- ---- what changes of a tally

  -- what stands for a voter already stays
  or_counted : (t u : TallyView) (v : RowVote) (old : Option RowVote) → CountedVote u (Some v) → CountedVote u old → CountedVote u (or_vote v old)
  or_counted t u v None new old = new
  or_counted t u v (Some w) new old = old

  -- each voter stays, and gets a vote or not
  voters_given : (f : Voter → Voter) → ((y : Voter) → (f y).provider ≡ y.provider) → (xs : List Voter) → ((y : Voter) → Has y xs → Has y.provider (voters st)) → (y : Voter) → Has y (map f xs) → Has y.provider (voters st)
  voters_given f keeps xs all y i = let k = has_map f y xs i in
      subst (λ (z : Voter). Has z.provider (voters st)) (sym k.2) (subst (λ p. Has p (voters st)) (sym (keeps k.0)) (all k.0 k.1))

  given_keeps : (p : ProviderId) (v : RowVote) (y : Voter) → (given_to p v y).provider ≡ y.provider
  given_keeps p v y = by (is_voter p y)
    where
      by : (b : Bool) → (if b then given v y else y).provider ≡ y.provider
      by true = refl
      by false = refl

  given_counted : (t : TallyView) (p : ProviderId) (v : RowVote) → CountedVote t (Some v) → (xs : List Voter) → ((y : Voter) → Has y xs → CountedVote t y.vote) → (y : Voter) → Has y (map (given_to p v) xs) → CountedVote t y.vote
  given_counted t p v new xs all y i =
      let k = has_map (given_to p v) y xs i in subst (λ (z : Voter). CountedVote t z.vote) (sym k.2) (by (is_voter p k.0) k.0 (all k.0 k.1))
    where
      by : (b : Bool) (z : Voter) → CountedVote t z.vote → CountedVote t (if b then given v z else z).vote
      by false z c = c
      by true z c = or_counted t t v z.vote new c

  counted_as : (t u : TallyView) → u.default_vote ≡ t.default_vote → u.limit ≡ t.limit → t.count ≤ u.count → (v : Option RowVote) → CountedVote t v → CountedVote u v
  counted_as t u d l c None k = tt
  counted_as t u d l c (Some (row_vote.Cast v)) k = tt
  counted_as t u d l c (Some (row_vote.Failed v)) k = tt
  counted_as t u d l c (Some (row_vote.Late v)) k =
      (k.0 ∙ sym d, subst (λ z. 0 < z) (sym l) k.1, subst (λ z. z ≤ u.count) (sym l) (let a = k.2 in omega arith))

  gives_late : (less : ℕ) (p : ProviderId) (v : RowVote) (t : TallyView) → CountedVote t (Some v) → TallyIs st ticks less t → TallyIs st ticks less (record t { voters = map (given_to p v) t.voters })
  gives_late less p v t new k =
      record {
        default = k.default;
        limit = k.limit;
        counted = k.counted;
        voter = voters_given (given_to p v) (given_keeps p v) t.voters k.voter;
        vote = λ y i. counted_as t (record t { voters = map (given_to p v) t.voters }) refl refl (omega arith) y.vote (given_counted t p v new t.voters k.vote y i);
      }

  pub failed_late : (less : ℕ) (p : ProviderId) (t : TallyView) → TallyIs st ticks less t → TallyIs st ticks less (tally_fail p t)
  failed_late less p t k = gives_late less p (row_vote.Failed t.default_vote) t tt k

  pub voted_late : (less : ℕ) (p : ProviderId) (v : Vote) (t : TallyView) → TallyIs st ticks less t → TallyIs st ticks less (tally_cast p v t)
  voted_late less p v t k = gives_late less p (row_vote.Cast v) t tt k

  -- a tally that is opened anew counted nothing
  fails_late : (less : ℕ) (failed gone ps : List ProviderId) (t : TallyView) → TallyIs st ticks less t → TallyIs st ticks less (fold (fails_if failed gone) t ps)
  unfolding fails_if
  fails_late less failed gone [] t k = k
  fails_late less failed gone (p ∷ ps) t k = fails_late less failed gone ps (fails_if failed gone t p) (by (among failed p || among gone p))
    where
      by : (b : Bool) → TallyIs st ticks less (elim b as (λ _. TallyView) [ true ↦ tally_fail p t | false ↦ t ])
      by true = failed_late less p t k
      by false = k

  pub opened_late : (less : ℕ) (gone : List ProviderId) → less ≤ ticks → TallyIs st ticks less (tally_for st gone)
  unfolding tally_for
  opened_late less gone le =
      fails_late less st.failed gone (voters st) (tally_new (voters st) st.attrs.default_vote (limit_of st.attrs st.running)) (record {
        default = refl;
        limit = refl;
        counted = omega arith;
        voter = λ y i. let k = has_map no_vote y (voters st) i in subst (λ (z : Voter). Has z.provider (voters st)) (sym k.2) k.1;
        vote = λ y i. let k = has_map no_vote y (voters st) i in subst (λ (z : Voter). CountedVote (tally_new (voters st) st.attrs.default_vote (limit_of st.attrs st.running)) z.vote) (sym k.2) tt;
      })

  -- ---- a tick

  counts_on : (n : ℕ) → (n ≤ counted n) × (counted n ≤ n + 1)
  counts_on n = by (nat_lt n last_u32)
    where
      by : (b : Bool) → (n ≤ (if b then n + 1 else n)) × ((if b then n + 1 else n) ≤ n + 1)
      by true = (omega arith, omega arith)
      by false = (omega arith, omega arith)

  passes_is : (limit n : ℕ) → passes limit n ≡ true → (0 < limit) × (limit ≤ counted n)
  passes_is limit n e =
      let k = and_parts (nat_lt 0 limit) (counted n == limit) e in
      let a : nat_lt 0 limit ≡ true = k.0 in
      let q : counted n ≡ limit = eqb-true (counted n) limit k.1 in
      (grind (arith, nat_tests), subst (λ z. z ≤ counted n) q (omega arith))

  -- a tick is counted, for which there was room
  pub ticked_late : (t : TallyView) → TallyIs st ticks 1 t → TallyIs st ticks 0 (tally_tick t)
  ticked_late t k =
      record {
        default = k.default;
        limit = k.limit;
        counted = let a = k.counted in let b = (counts_on t.count).1 in omega arith;
        voter = by_voter (passes t.limit t.count);
        vote = by_vote (passes t.limit t.count) refl;
      }
    where
      by_voter : (b : Bool) → (y : Voter) → Has y (late_if b t.default_vote t.voters) → Has y.provider (voters st)
      by_voter false = k.voter
      by_voter true = voters_given (given (row_vote.Late t.default_vote)) (λ y. refl) t.voters k.voter

      by_vote : (b : Bool) → passes t.limit t.count ≡ b → (y : Voter) → Has y (late_if b t.default_vote t.voters) → CountedVote (tally_tick t) y.vote
      by_vote false e y i = counted_as t (tally_tick t) refl refl (counts_on t.count).0 y.vote (k.vote y i)
      by_vote true e y i =
          let p = passes_is t.limit t.count e in
          let j = has_map (given (row_vote.Late t.default_vote)) y t.voters i in
          subst (λ (z : Voter). CountedVote (tally_tick t) z.vote) (sym j.2) (or_counted t (tally_tick t) (row_vote.Late t.default_vote) j.0.vote (refl, p.0, p.1) (counted_as t (tally_tick t) refl refl (counts_on t.count).0 j.0.vote (k.vote j.0 j.1)))

  -- who is announced as late
  pub announced_late : (t : TallyView) → TallyIs st ticks 1 t → expires t ≡ true → TimeIsOver st ticks × ((p : ProviderId) → Has p (open_voters t) → Has p (voters st))
  announced_late t k e =
      let p = passes_is t.limit t.count (and_parts (passes t.limit t.count) (has_open t) e).0 in (
        record { limited = subst (λ z. 0 < z) k.limit p.0; over = subst (λ z. z ≤ ticks) k.limit (let a = p.1 in let b = k.counted in let c = (counts_on t.count).1 in omega arith) },
        λ q i. let a = has_map (λ (y : Voter). y.provider) q (filter is_open t.voters) i in
            let b = has_filter is_open a.0 t.voters a.1 in subst (λ z. Has z (voters st)) (sym a.2) (k.voter a.0 b.0),
      )

-- ---- who was late

late_in_rows : (xs : List Voter) → late_in (rows_of xs) ≡ late_voters xs
late_in_rows [] = refl
late_in_rows (y ∷ ys) = by y.vote (late_in_rows ys)
  where
    by : (v : Option RowVote) → late_in (rows_of ys) ≡ late_voters ys → late_in (row_or (elim v as (λ _. Option Row) [ None ↦ None | Some v ↦ Some (record { provider = y.provider; vote = v }) ]) (rows_of ys)) ≡ late_vote y.provider v (late_voters ys)
    by None k = k
    by (Some v) k = ap (late_first y.provider v) k

-- no default of one who is late
abbrev NotLate : RowVote → Type 0
NotLate (row_vote.Cast v) = Unit {0}
NotLate (row_vote.Late d) = ⊥
NotLate (row_vote.Failed d) = Unit {0}

given_lates : (p : ProviderId) (v : RowVote) → NotLate v → (xs : List Voter) → late_voters (map (given_to p v) xs) ≡ late_voters xs
given_lates p v not [] = refl
given_lates p v not (y ∷ ys) = by (is_voter p y) ∙ ap (late_vote y.provider y.vote) (given_lates p v not ys)
  where
    none : (v : RowVote) → NotLate v → (q : ProviderId) (ps : List ProviderId) → late_first q v ps ≡ ps
    none (row_vote.Cast w) k q ps = refl
    none (row_vote.Late d) k q ps = absurd k
    none (row_vote.Failed d) k q ps = refl

    or_is : (o : Option RowVote) (ps : List ProviderId) → late_vote y.provider (or_vote v o) ps ≡ late_vote y.provider o ps
    or_is None ps = none v not y.provider ps
    or_is (Some w) ps = refl

    by : (b : Bool) → late_vote (if b then given v y else y).provider (if b then given v y else y).vote (late_voters (map (given_to p v) ys)) ≡ late_vote y.provider y.vote (late_voters (map (given_to p v) ys))
    by true = or_is y.vote (late_voters (map (given_to p v) ys))
    by false = refl

none_or : (a b : Bool) → (a || b) ≡ false → (a ≡ false) × (b ≡ false)
none_or true b e = absurd (cc)
none_or false b e = (refl, e)

or_voted : (v : RowVote) (o : Option RowVote) → is_none o ≡ false → or_vote v o ≡ o
or_voted v None e = absurd (cc)
or_voted v (Some w) e = refl

given_voted : (v : RowVote) (y : Voter) → is_open y ≡ false → given v y ≡ y
given_voted v y e = let q = or_voted v y.vote e in λ i. record { provider = y.provider; vote = q i }

-- where each voter has a row, none is changed
all_given : (f : Voter → Voter) → ((y : Voter) → is_open y ≡ false → f y ≡ y) → (xs : List Voter) → list_any is_open xs ≡ false → map f xs ≡ xs
all_given f same [] e = refl
all_given f same (y ∷ ys) e = let k = none_or (is_open y) (list_any is_open ys) e in
    let a = same y k.0 in
    let b = all_given f same ys k.1 in λ i. a i ∷ b i

given_to_voted : (p : ProviderId) (v : RowVote) (y : Voter) → is_open y ≡ false → given_to p v y ≡ y
given_to_voted p v y e = by (is_voter p y)
  where
    by : (b : Bool) → (if b then given v y else y) ≡ y
    by true = given_voted v y e
    by false = refl

pub gives_settled : (led now : Led) (l : Option GroupView) (p : ProviderId) (v : RowVote) (t : TallyView) → NotLate v → (has_open t ≡ false → now.given ≡ led.given) → Settled led l t → Settled now l (record t { voters = map (given_to p v) t.voters })
gives_settled led now l p v t not same (inl q) = inl (given_lates p v not t.voters ∙ q)
gives_settled led now l p v t not same (inr k) =
    settled_same led now l l t (record t { voters = map (given_to p v) t.voters }) (same k.0) (all_given (given_to p v) (given_to_voted p v) t.voters k.0) (refl, refl, refl) (inr k)

-- what a ballot carries is not kept where each voter has a row
given_none : (p : ProviderId) (value message : Option (List ℕ)) (gs : List Given) (xs : List Voter) → list_any is_open xs ≡ false → given_with gs p value message (answer_of (find (is_voter p) xs)) ≡ gs
unfolding given_with
given_none p value message gs xs e = by (find (is_voter p) xs) refl
  where
    voted : (o : Option RowVote) → is_none o ≡ false → given_with gs p value message (elim o as (λ _. Cast) [ None ↦ Recorded | Some v ↦ Already (vote_of_row v) ]) ≡ gs
    voted None q = absurd (cc)
    voted (Some w) q = refl

    open_not : (ys : List Voter) → list_any is_open ys ≡ false → (y : Voter) → Has y ys → is_open y ≡ false
    open_not [] q y i = absurd i
    open_not (z ∷ ys) q y (inl s) = ap is_open s ∙ (none_or (is_open z) (list_any is_open ys) q).0
    open_not (z ∷ ys) q y (inr i) = open_not ys (none_or (is_open z) (list_any is_open ys) q).1 y i

    by : (o : Option Voter) → find (is_voter p) xs ≡ o → given_with gs p value message (answer_of o) ≡ gs
    by None q = refl
    by (Some y) q = voted y.vote (open_not xs e y (find_has (is_voter p) xs y q).0)

pub voted_settled : (led : Led) (l : Option GroupView) (p : ProviderId) (v : Vote) (value message : Option (List ℕ)) (t : TallyView) → Settled led l t → Settled (vote_cast led p v value message (Some t)) l (tally_cast p v t)
unfolding vote_cast
voted_settled led l p v value message t k =
    gives_settled led (vote_cast led p v value message (Some t)) l p (row_vote.Cast v) t tt (λ e. given_none p value message led.given t.voters e) k

pub failed_settled : (led now : Led) (l : Option GroupView) (p : ProviderId) (t : TallyView) → now.given ≡ led.given → Settled led l t → Settled now l (tally_fail p t)
failed_settled led now l p t g k = gives_settled led now l p (row_vote.Failed t.default_vote) t tt (λ e. g) k

-- a tally that is opened anew has nobody late
pub opened_settled : (st : GroupState) (gone : List ProviderId) → late_voters (tally_for st gone).voters ≡ []
unfolding tally_for fails_if
opened_settled st gone = fails (voters st) (tally_new (voters st) st.attrs.default_vote (limit_of st.attrs st.running)) (new (voters st))
  where
    new : (ps : List ProviderId) → late_voters (map no_vote ps) ≡ []
    new [] = refl
    new (p ∷ ps) = new ps

    one : (t : TallyView) (p : ProviderId) (b : Bool) → late_voters t.voters ≡ [] → late_voters (elim b as (λ _. TallyView) [ true ↦ tally_fail p t | false ↦ t ]).voters ≡ []
    one t p true e = given_lates p (row_vote.Failed t.default_vote) tt t.voters ∙ e
    one t p false e = e

    fails : (ps : List ProviderId) (t : TallyView) → late_voters t.voters ≡ [] → late_voters (fold (fails_if st.failed gone) t ps).voters ≡ []
    fails [] t e = e
    fails (p ∷ ps) t e = fails ps (fails_if st.failed gone t p) (one t p (among st.failed p || among gone p) e)

-- the entry that closes the phase tells who was late
pub rows_told : (es : List Entry) (l : Led) (t : TallyView) (run : Running) (e : Entry) → ((late_voters t.voters ≡ []) ⊎ (last_or None es ≡ Some (Late run.proto run.phase (late_voters t.voters)))) → closing_entry l (Some t) (Some run) ≡ Some e → EntryTold es e
unfolding closing_entry closing_of closing closed_by
rows_told es l t run e k q = by (outcome t) q
  where
    told : (late_in (rows_of t.voters) ≡ []) ⊎ (last_or None es ≡ Some (Late run.proto run.phase (late_in (rows_of t.voters))))
    told = subst (λ ps. (ps ≡ []) ⊎ (last_or None es ≡ Some (Late run.proto run.phase ps))) (sym (late_in_rows t.voters)) k

    one : (v : Vote) (last : Bool) → EntryTold es (closing l t run v last)
    one vote.Approve last = told
    one vote.Reject last = told
    one vote.Continue true = told
    one vote.Continue false = told

    by : (o : Option Vote) → closing_of l t run o ≡ Some e → EntryTold es e
    by None q = absurd (cc)
    by (Some v) q = let z : closing l t run v (nat_le max_phases run.phase) ≡ e = cc in subst (EntryTold es) z (one v (nat_le max_phases run.phase))

pub settled_told : (es : List Entry) (led : Led) (l : Option GroupView) (o : Option TallyView) (e : Entry) → ((t : TallyView) → o ≡ Some t → (run : Running) → (state_in l).running ≡ Some run → Settled led l t) → closing_entry led o (state_in l).running ≡ Some e → entry_fits (list_or_new l) e ≡ true → EntryTold es e
unfolding closing_entry
settled_told es led l None e k q fit = absurd (cc)
settled_told es led l (Some t) e k q fit = by (state_in l).running refl q
  where
    of : (run : Running) → (state_in l).running ≡ Some run → closing_entry led (Some t) (Some run) ≡ Some e → Settled led l t → EntryTold es e
    of run r c (inl z) = rows_told es led t run e (inl z) c
    of run r c (inr z) = absurd (let y : entry_fits (list_or_new l) e ≡ false = z.1 e (ap (closing_entry led (Some t)) r ∙ c) in cc)

    by : (o : Option Running) → (state_in l).running ≡ o → closing_entry led (Some t) o ≡ Some e → EntryTold es e
    by None r c = absurd (cc)
    by (Some run) r c = of run r c (k t refl run r)

-- ---- a tick, and who is late by it

ticked_lates : (d : DefaultVote) (xs : List Voter) → late_voters xs ≡ [] → late_voters (map (given (row_vote.Late d)) xs) ≡ map (λ (y : Voter). y.provider) (filter is_open xs)
ticked_lates d [] e = refl
ticked_lates d (y ∷ ys) e = by y.vote e (ticked_lates d ys)
  where
    by : (o : Option RowVote) → late_vote y.provider o (late_voters ys) ≡ [] → (late_voters ys ≡ [] → late_voters (map (given (row_vote.Late d)) ys) ≡ map (λ (z : Voter). z.provider) (filter is_open ys)) → late_vote y.provider (or_vote (row_vote.Late d) o) (late_voters (map (given (row_vote.Late d)) ys)) ≡ map (λ (z : Voter). z.provider) (if is_none o then y ∷ filter is_open ys else filter is_open ys)
    by None q k = ap (λ ps. y.provider ∷ ps) (k q)
    by (Some (row_vote.Cast v)) q k = k q
    by (Some (row_vote.Failed v)) q k = k q
    by (Some (row_vote.Late v)) q k = absurd (cc)

none_open : (v : RowVote) (xs : List Voter) → list_any is_open (map (given v) xs) ≡ false
none_open v [] = refl
none_open v (y ∷ ys) = ap (λ b. b || list_any is_open (map (given v) ys)) (by y.vote) ∙ none_open v ys
  where
    by : (o : Option RowVote) → is_none (or_vote v o) ≡ false
    by None = refl
    by (Some w) = refl

-- what a tick leaves of a tally that was settled: it is so still, or each voter has a row now, and those without one are late
pub record Expired (t : TallyView) : Type 0 where
  pub expires_now : expires t ≡ true
  pub none_open : has_open (tally_tick t) ≡ false
  pub late : late_voters (tally_tick t).voters ≡ open_voters t

pub ticked_settled : (led now : Led) (l : Option GroupView) (t : TallyView) → now.given ≡ led.given → Settled led l t → Settled now l (tally_tick t) ⊎ Expired t
ticked_settled led now l t g k = by (passes t.limit t.count) (has_open t) refl refl
  where
    still : (tally_tick t).voters ≡ t.voters → Settled now l (tally_tick t)
    still q = settled_same led now l l t (tally_tick t) g q (refl, refl, refl) k

    voters : (b : Bool) → passes t.limit t.count ≡ b → (tally_tick t).voters ≡ late_if b t.default_vote t.voters
    voters b q = ap (λ z. late_if z t.default_vote t.voters) q

    nobody : has_open t ≡ true → Settled led l t → late_voters t.voters ≡ []
    nobody o (inl q) = q
    nobody o (inr q) = absurd (let z : has_open t ≡ false = q.0 in cc)

    by : (a b : Bool) → passes t.limit t.count ≡ a → has_open t ≡ b → Settled now l (tally_tick t) ⊎ Expired t
    by false b p o = inl (still (voters false p))
    by true false p o = inl (still (voters true p ∙ all_given (given (row_vote.Late t.default_vote)) (λ y e. given_voted (row_vote.Late t.default_vote) y e) t.voters o))
    by true true p o =
        inr (record {
          expires_now = (λ i. p i && o i);
          none_open = ap (list_any is_open) (voters true p) ∙ none_open (row_vote.Late t.default_vote) t.voters;
          late = ap late_voters (voters true p) ∙ ticked_lates t.default_vote t.voters (nobody o k);
        })

-- the entry that closes the phase is no shorter than the announcement of who is late
late_few : (rows : List Row) → length (late_in rows) ≤ length rows
late_few [] = omega arith
late_few (r ∷ rows) = by r.vote (late_few rows)
  where
    by : (v : RowVote) → length (late_in rows) ≤ length rows → length (late_first r.provider v (late_in rows)) ≤ suc (length rows)
    by (row_vote.Cast w) k = omega arith
    by (row_vote.Late d) k = omega arith
    by (row_vote.Failed d) k = omega arith

closing_long : (l : Led) (t : TallyView) (run : Running) (e : Entry) → closing_entry l (Some t) (Some run) ≡ Some e → 17 + 11 * length (late_voters t.voters) ≤ entry_len e
unfolding closing_entry closing_of closing closed_by entry_len closed_len
closing_long l t run e q = by (outcome t) q
  where
    long : 11 * length (late_voters t.voters) ≤ 12 * length (rows_of t.voters)
    long = let a = late_few (rows_of t.voters) in let b : length (late_in (rows_of t.voters)) ≡ length (late_voters t.voters) = ap length (late_in_rows t.voters) in omega arith

    one : (v : Vote) (last : Bool) → 17 + 11 * length (late_voters t.voters) ≤ entry_len (closing l t run v last)
    one vote.Approve last = let a = long in omega arith
    one vote.Reject last = let a = long in omega arith
    one vote.Continue true = let a = long in omega arith
    one vote.Continue false = let a = long in omega arith

    by : (o : Option Vote) → closing_of l t run o ≡ Some e → 17 + 11 * length (late_voters t.voters) ≤ entry_len e
    by None q = absurd (cc)
    by (Some v) q = let z : closing l t run v (nat_le max_phases run.phase) ≡ e = cc in subst (λ d. 17 + 11 * length (late_voters t.voters) ≤ entry_len d) z (one v (nat_le max_phases run.phase))

runs_self : (run : Running) → runs run.proto run.phase (Some run) ≡ true
unfolding runs
runs_self run = by (runs run.proto run.phase (Some run)) refl
  where
    by : (b : Bool) → runs run.proto run.phase (Some run) ≡ b → b ≡ true
    by true e = refl
    by false e = absurd (grind (arith, nat_tests))

-- where it fits, so does the announcement
pub announcement_fits : (led : Led) (l : Option GroupView) (t : TallyView) (run : Running) (e : Entry) → (state_in l).running ≡ Some run → closing_entry led (Some t) (Some run) ≡ Some e → entry_fits (list_or_new l) e ≡ true → entry_fits (list_or_new l) (Late run.proto run.phase (late_voters t.voters)) ≡ true
unfolding entry_fits has_room fits entry_len
announcement_fits led l t run e r c fit =
    let k = and_parts (fits (state_in l) e) (has_room (list_or_new l) e) fit in
    let j = and_parts (nat_lt (list_or_new l).len last_u32) (nat_le ((list_or_new l).bytes + entry_len e) last_u32) k.1 in
    let long = closing_long led t run e c in
    λ i. (ap (runs run.proto run.phase) r ∙ runs_self run) i && (j.0 i && short j.1 long i)
  where
    short : nat_le ((list_or_new l).bytes + entry_len e) last_u32 ≡ true → 17 + 11 * length (late_voters t.voters) ≤ entry_len e → nat_le ((list_or_new l).bytes + (17 + 11 * length (late_voters t.voters))) last_u32 ≡ true
    short a b = grind (arith, nat_tests)
