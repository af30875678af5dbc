-- From the lines of all groups to the records of a run.
use Rattle.std.proofs.Common.{refl, ◌≡◌, ℕ, ◌≤◌, inl, inr, sym, ◌∙◌, ap, subst, true, false, Bool, List, [], ◌∷◌, ◌++◌, length, Some, arith}
use Rattle.std.specs.Prelude.{◌==◌, ◌&&◌, not, take, filter, if◌then◌else◌}
use Rattle.std.proofs.lemmas.Bool.{eqb-true, and_parts}
use Rattle.std.proofs.lemmas.Bool.Decides.{nat_tests}
use Rattle.rsct_packet.specs.declared.ids.Member.{Member}
use Rattle.rsct_packet.specs.declared.ids.ProviderId.{ProviderId}
use Rattle.rsct_packet.specs.declared.ids.ViewId.{ViewId}
use Rattle.rsct_packet.specs.Ids.{same_view, is_member}
use Rattle.rsct_packet.specs.Search.{Has}
use Rattle.proposal_core.specs.declared.entry.Entry.{Entry}
use Rattle.proposal_core.specs.declared.proposal.Proposal.{Proposal}
use Rattle.proposal_core.specs.declared.group_state.GroupState.{GroupState}
use Rattle.proposal_core.specs.Fold.{fits, present}
use Rattle.node_state.specs.declared.happened.Happened.{Happened}
use Rattle.node_state.specs.declared.happened.Happened.TheVariants as happened
use Rattle.run_safety.specs.ViewOrder.{is_same}
use Rattle.run_safety.specs.Group.{member, Reply, members_of, Origin, In, Put, Based, Asked, Told, Line, Kept, Noted, kept}
use Rattle.run_safety.specs.GroupLists as lists
use Rattle.run_safety.specs.Bases as bases
use Rattle.run_safety.specs.Past.{History, records_of, Within, view_now, puts_of, base_of, fold_from}
use Rattle.run_safety.specs.Sight.{inc_in, view_or_none, lines_at, lines_of}
use Rattle.run_safety.specs.SafeLists.{Each, NextPlace, Fitting}
use Rattle.run_safety.specs.Requests.{carried, Meets}
use Rattle.run_safety.proofs.Past.{member_reply, reply_member}
use Rattle.run_safety.proofs.Tests.{any_has, has_any}
use Rattle.step_refinement.proofs.Acks.{has_member}
use Rattle.run_laws.specs.seen_runs.Seen.{SameSeen, LeavesTogether, lives, marked, BaseSeenAt, BaseSeen, SameBases, SameEntry, TallySeen, WasTold, from_of, is_from, RisesSeen}
use Rattle.run_laws.proofs.seen_runs.LineRules as rules
use Rattle.run_laws.proofs.seen_runs.LineRules.{bare, InSeen, OnceLine, PutSeen, BasedSeen, LinesSeen}
use Rattle.run_laws.proofs.seen_runs.BareLines.{kept_bare, had_bare, has_bare, bare_append, base_bare}
use Rattle.run_laws.proofs.seen_runs.Sights.{cut, puts_same, base_same, told_line}
use Rattle.run_laws.proofs.seen_runs.Froms.{in_kept, in_recorded, from_line, line_from}
use Rattle.node_state.proofs.NameOrder.{text_self}
use Rattle.client_callbacks.specs.declared.told.Why.{Why}
use Rattle.run_safety.proofs.SightLaws.{line_seen, own_line, put_seen, line_recorded}

-- ---- requests of one group

-- of a provider of the node, a request begins once there in the group, after it was asked and not after it was told a refusal
pub record BeginsThere (rs : List Happened) (n : ℕ) (g : List ℕ) (e : Entry) (p : ProviderId) (r : ℕ) : Type 0 where
  pub asked : (x : Proposal) × Has (happened.Asked p r g x) rs × Meets p x e
  pub untold : WasTold p r rs → ⊥
  pub once : (v : ViewId) (i : ℕ) (f : Entry) → Has (happened.Put n v g i f) rs → Has (p, r) (carried f) → ⊥

abbrev pub OnceThere : List Happened → Happened → Type 0
OnceThere rs (happened.Put n v g i e) = (p : ProviderId) (r : ℕ) → p.node ≡ n → Has (p, r) (carried e) → BeginsThere rs n g e p r
OnceThere rs _ = Unit {0}

-- ---- what a line's older ones show

drop_seen : (xs ys : List Line) → LinesSeen (xs ++ ys) → LinesSeen ys
drop_seen [] ys h = h
drop_seen (x ∷ xs) ys h = drop_seen xs ys h.1

-- the lines of all groups of a run that show what they have to
abbrev pub AllShow : History → Type 0
AllShow h = (g : List ℕ) → LinesSeen (bare (lines_of g h))

pub shown_before : (r : Happened) (now : List Happened) (before : History) → AllShow (cut (r ∷ now) before) → AllShow (cut now before)
shown_before r now before all g =
    let xs : List Line = lines_at g (now ++ records_of before) r in
    drop_seen (bare xs) (bare (lines_of g (cut now before))) (subst LinesSeen (bare_append xs (lines_of g (cut now before))) (all g))

-- what each record shows where its own lines and those before it do
module _ (R : List Happened → Happened → Type 0) (by : (r : Happened) (now : List Happened) (before : History) → AllShow (cut (r ∷ now) before) → R (now ++ records_of before) r) where
  within : (now : List Happened) (before : History) → AllShow (cut now before) → Within (λ now before r. R (now ++ records_of before) r) now before × AllShow before
  within [] before all = (tt, λ g. (all g).1)
  within (r ∷ now) before all = let k = within now before (shown_before r now before all) in ((by r now before all, k.0), k.1)

  pub each_shown : (h : History) → AllShow h → Each R h
  each_shown [] all = tt
  each_shown (e ∷ before) all = let k = within e.records before all in (k.0, each_shown before k.1)

-- what was told was told after some records
was_told : (p : ProviderId) (r : ℕ) (rs : List Happened) → WasTold p r rs → (why : Why) × (newer : List Happened) × (older : List Happened) × (rs ≡ newer ++ happened.Told p r why ∷ older)
was_told p r [] t = absurd t
was_told p r (x ∷ rs) (inr t) = let k = was_told p r rs t in (k.0, x ∷ k.1, k.2, ap (λ z. x ∷ z) k.3)
was_told p r (happened.Told q k why ∷ rs) (inl t) = (why, [], rs, (λ i. happened.Told (t.0 i) (t.1 i) why ∷ rs))
was_told p r (_ ∷ rs) (inl t) = absurd t

module _ (now : List Happened) (before : History) where
  abbrev h : History
  h = cut now before

  abbrev rs : List Happened
  rs = now ++ records_of before

  abbrev L : List ℕ → List Line
  L g = lines_of g h

  pub put_line : (n : ℕ) (v : ViewId) (g : List ℕ) (i : ℕ) (e : Entry) → AllShow (cut (happened.Put n v g i e ∷ now) before) → PutSeen (bare (L g)) n v i e
  put_line n v g i e all = (subst (λ b. LinesSeen (bare ((if b then Kept (Put n v i e) ∷ [] else []) ++ L g))) (text_self g) (all g)).0

  base_line : (n : ℕ) (v : ViewId) (g : List ℕ) (u : ViewId) (len : ℕ) (s : GroupState) → AllShow (cut (happened.Base n v g u len s ∷ now) before) → BasedSeen (bare (L g)) n v (record { old = u; len = len; state = s })
  base_line n v g u len s all =
      (subst (λ b. LinesSeen (bare ((if b then Noted (Based n v (record { old = u; len = len; state = s })) ∷ [] else []) ++ L g))) (text_self g) (all g)).0

  pub in_line : (n : ℕ) (v : ViewId) (ms : List Member) → AllShow (cut (happened.In n v ms ∷ now) before) → (g : List ℕ) → InSeen (bare (L g)) n (inc_in n ms) v ms
  in_line n v ms all g = (all g).0

  -- what is found among the records is among the lines without what is heard
  in_bare : (g : List ℕ) (n : ℕ) (v : ViewId) (ms : List Member) → Has (happened.In n v ms) rs → Has (In n (inc_in n ms) v ms) (kept (bare (L g)))
  in_bare g n v ms k = subst (Has (In n (inc_in n ms) v ms)) (sym (kept_bare (L g))) (in_kept g n v ms h k)

  based_line : (g : List ℕ) (n : ℕ) (v u : ViewId) (len : ℕ) (s : GroupState) → Has (happened.Base n v g u len s) rs → Has (Noted (Based n v (record { old = u; len = len; state = s }))) (L g)
  based_line g n v u len s k =
      let x : Line = Noted (Based n v (record { old = u; len = len; state = s })) in line_seen x g (happened.Base n v g u len s) (λ qs. own_line g x) h k

  pub put_there : (g : List ℕ) (n : ℕ) (v : ViewId) (i : ℕ) (e : Entry) → Has (happened.Put n v g i e) rs → Has (Put n v i e) (kept (bare (L g)))
  put_there g n v i e k = subst (Has (Put n v i e)) (sym (kept_bare (L g))) (put_seen n v g i e h k)

  puts_bare : (n : ℕ) (v : ViewId) (g : List ℕ) → lists.puts_of n v (kept (bare (L g))) ≡ puts_of n v g rs
  puts_bare n v g = ap (lists.puts_of n v) (kept_bare (L g)) ∙ puts_same n v g h

  base_at : (n : ℕ) (v : ViewId) (g : List ℕ) → rules.base_in n v (bare (L g)) ≡ base_of n v g rs
  base_at n v g = base_bare n v (L g) ∙ base_same n v g h

  from_bare : (g : List ℕ) (m j : ℕ) (v u : ViewId) → from_of m j v rs ≡ Some u → lists.From (kept (bare (L g))) m j v u
  from_bare g m j v u e = subst (λ tr. lists.From tr m j v u) (sym (kept_bare (L g))) (from_line g h m j v u e)

  bare_from : (g : List ℕ) (m j : ℕ) (v u : ViewId) → lists.From (kept (bare (L g))) m j v u → from_of m j v rs ≡ Some u
  bare_from g m j v u f = line_from g h m j v u (subst (λ tr. lists.From tr m j v u) (kept_bare (L g)) f)

  -- ---- bases

  -- a note of a base is a record's
  based_recorded : (g : List ℕ) (n : ℕ) (v u : ViewId) (len : ℕ) (s : GroupState) → Has (Noted (Based n v (record { old = u; len = len; state = s }))) (L g) → Has (happened.Base n v g u len s) rs
  based_recorded g n v u len s k =
      line_recorded g (Noted (Based n v (record { old = u; len = len; state = s }))) (happened.Base n v g u len s) refl h k

  -- who lives by the answers lives by the records
  live_same : (g : List ℕ) (v u : ViewId) (ms : List Member) (replies : List Reply) → ms ≡ members_of replies → ((r : Reply) → Has r replies → lists.From (kept (bare (L g))) r.node r.inc v r.view) → (p : ProviderId) → bases.is_live replies u p ≡ lives rs v ms u p
  unfolding is_same
  live_same g v u ms replies are from p = at (bases.is_live replies u p) (lives rs v ms u p) refl refl
    where
      forth : bases.is_live replies u p ≡ true → lives rs v ms u p ≡ true
      forth e =
          let k = any_has (λ (r : Reply). r.node == p.node && (r.inc == p.inc && is_same r.view u)) replies e in
          let r : Reply = k.0 in
          let a = and_parts (r.node == p.node) (r.inc == p.inc && is_same r.view u) k.2 in
          let b = and_parts (r.inc == p.inc) (is_same r.view u) a.1 in
          let n : r.node ≡ p.node = eqb-true r.node p.node a.0 in
          let j : r.inc ≡ p.inc = eqb-true r.inc p.inc b.0 in
          let f : from_of p.node p.inc v rs ≡ Some r.view = subst (λ (z : ℕ × ℕ). from_of z.0 z.1 v rs ≡ Some r.view) (λ i. (n i, j i)) (bare_from g r.node r.inc v r.view (from r k.1)) in
          let m : is_member ms p.node p.inc ≡ true = has_any (λ (x : Member). x.node == p.node && x.inc == p.inc) ms (member r.node r.inc) (subst (Has (member r.node r.inc)) (sym are) (reply_member r replies k.1)) (both (r.node == p.node) (r.inc == p.inc) a.0 b.0) in
          both (is_member ms p.node p.inc) (is_from u (from_of p.node p.inc v rs)) m (ap (is_from u) f ∙ b.1)
        where
          both : (a b : Bool) → a ≡ true → b ≡ true → (a && b) ≡ true
          both true b e f = f
          both false b e f = e

      back : lives rs v ms u p ≡ true → bases.is_live replies u p ≡ true
      back e =
          let a = and_parts (is_member ms p.node p.inc) (is_from u (from_of p.node p.inc v rs)) e in
          let k = member_reply p.node p.inc replies (subst (Has (member p.node p.inc)) are (has_member ms p.node p.inc a.0)) in
          let r : Reply = k.0 in
          let f : from_of p.node p.inc v rs ≡ Some r.view = subst (λ (z : ℕ × ℕ). from_of z.0 z.1 v rs ≡ Some r.view) (λ i. (k.2 i, k.3 i)) (bare_from g r.node r.inc v r.view (from r k.1)) in
          let s : is_same r.view u ≡ true = same r.view (sym (ap (is_from u) f) ∙ a.1) in
          has_any (λ (x : Reply). x.node == p.node && (x.inc == p.inc && is_same x.view u)) replies r k.1 (three r k.2 k.3 s)
        where
          same : (t : ViewId) → same_view t u ≡ true → is_same t u ≡ true
          same t q = q

          three : (r : Reply) → r.node ≡ p.node → r.inc ≡ p.inc → is_same r.view u ≡ true → (r.node == p.node && (r.inc == p.inc && is_same r.view u)) ≡ true
          three r a b c = grind (arith, nat_tests)

      at : (a b : Bool) → bases.is_live replies u p ≡ a → lives rs v ms u p ≡ b → bases.is_live replies u p ≡ lives rs v ms u p
      at true b e f = e ∙ sym (forth e)
      at false true e f = absurd (let z = back f in cc)
      at false false e f = e ∙ sym f

  filter_same : (f g : ProviderId → Bool) → ((p : ProviderId) → f p ≡ g p) → (ps : List ProviderId) → filter (λ p. not (f p)) ps ≡ filter (λ p. not (g p)) ps
  filter_same f g e [] = refl
  filter_same f g e (p ∷ ps) = λ i. if not (e p i) then p ∷ filter_same f g e ps i else filter_same f g e ps i

  base_shown : (n : ℕ) (v : ViewId) (g : List ℕ) (u : ViewId) (len : ℕ) (s : GroupState) → AllShow (cut (happened.Base n v g u len s ∷ now) before) → BaseSeenAt rs n v g u len s
  base_shown n v g u len s all =
      record {
        members = q.members;
        entered = (in_recorded g n q.inc v q.members h (subst (Has (In n q.inc v q.members)) (kept_bare (L g)) (subst (λ l. Has (In n q.inc v q.members) (kept l)) (sym q.entered) (inl refl)))).0;
        cut = record {
          from = (member r.node r.inc, subst (Has (member r.node r.inc)) (sym q.are) (reply_member r q.replies q.one.1), bare_from g r.node r.inc v u (subst (lists.From (kept (bare (L g))) r.node r.inc v) q.one.2 (q.from r q.one.1)));
          node = q.node;
          reaches = subst (λ l. len ≤ length l) (puts_bare q.node u g) q.reaches;
          knows = λ m t k x c. based_recorded g q.node u t k x (had_bare (Noted (Based q.node u (record { old = t; len = k; state = x }))) (L g) (q.knows m (record { old = t; len = k; state = x }) (has_bare (Based m u (record { old = t; len = k; state = x })) (L g) tt (based_line g m u t k x c))));
          state = q.state ∙ (λ i. bases.marked q.replies u (fold_from u (base_at q.node u g i) 0 (take len (puts_bare q.node u g i)))) ∙ failed_same (fold_from u (base_of q.node u g rs) 0 (take len (puts_of q.node u g rs)));
        };
        same = λ m t k x c. let e = q.same m (record { old = t; len = k; state = x }) (has_bare (Based m v (record { old = t; len = k; state = x })) (L g) tt (based_line g m v t k x c)) in (ap (λ (o : Origin). o.old) e, ap (λ (o : Origin). o.len) e, ap (λ (o : Origin). o.state) e);
      }
    where
      q : BasedSeen (bare (L g)) n v (record { old = u; len = len; state = s })
      q = base_line n v g u len s all

      r : Reply
      r = q.one.0

      failed_same : (x : GroupState) → bases.marked q.replies u x ≡ marked rs v q.members u x
      failed_same x = ap (λ l. record x { failed = l }) (filter_same (bases.is_live q.replies u) (lives rs v q.members u) (live_same g v u q.members q.replies q.are q.from) (present x))

  -- ---- requests

  once_shown : (n : ℕ) (v : ViewId) (g : List ℕ) (i : ℕ) (e : Entry) {p : ProviderId} {r : ℕ} → OnceLine (bare (L g)) n e p r → BeginsThere rs n g e p r
  once_shown n v g i e {p = p} {r = r} q =
      record {
        asked = (q.asked.0, line_recorded g (Noted (Asked p r q.asked.0)) (happened.Asked p r g q.asked.0) refl h (had_bare (Noted (Asked p r q.asked.0)) (L g) q.asked.1), q.asked.2);
        untold = λ t. let k = was_told p r rs t in let u : ViewId = view_or_none (view_now p.node k.2) in q.untold u (has_bare (Told p r u) (L g) tt (told_line g p r k.0 k.1 k.2 h k.3));
        once = λ u j f k c. q.once u j f (put_there g n u j f k) c;
      }

-- ---- of each record

pub record GroupShown (rs : List Happened) (r : Happened) : Type 0 where
  pub members : SameSeen rs r
  pub rises : RisesSeen rs r
  pub together : LeavesTogether rs r
  pub base : BaseSeen rs r
  pub bases_same : SameBases rs r
  pub place : NextPlace rs r
  pub entry : SameEntry rs r
  pub fitting : Fitting rs r
  pub tally : TallySeen rs r
  pub once : OnceThere rs r

shown : (r : Happened) (now : List Happened) (before : History) → AllShow (cut (r ∷ now) before) → GroupShown (now ++ records_of before) r
shown (happened.Base n v g u len s) now before all =
    record { members = tt; rises = tt; together = tt; base = base_shown now before n v g u len s all; bases_same = tt; place = tt; entry = tt; fitting = tt; tally = tt; once = tt }
shown (happened.Put n v g i e) now before all =
    let q = put_line now before n v g i e all in
    record {
      members = tt;
      rises = tt;
      together = tt;
      base = tt;
      bases_same = tt;
      place = q.place ∙ ap length (puts_bare now before n v g);
      entry = λ m f k. q.entry m f (put_there now before g m v i f k);
      fitting = (λ j. fits (fold_from v (sym (base_at now before n v g) j) 0 (sym (puts_bare now before n v g) j)) e) ∙ q.fitting;
      tally = q.tallied;
      once = λ p r m c. once_shown now before n v g i e (q.once p r m c);
    }
shown (happened.In n w ms) now before all =
    record {
      members = λ m ns k. (in_line now before n w ms all []).same m (inc_in m ns) ns (in_bare now before [] m w ns k);
      rises = λ u ns k e. (in_line now before n w ms all []).rising u ns (subst (λ j. Has (In n j u ns) (kept (bare (lines_of [] (cut now before))))) e (in_bare now before [] n u ns k));
      together = λ m v g k e f. sym (puts_bare now before n v g) ∙ (in_line now before n w ms all g).together m (inc_in m ms) v ms (in_bare now before g m w ms k) (from_bare now before g m (inc_in m ms) w v e) (from_bare now before g n (inc_in n ms) w v f) ∙ puts_bare now before m v g;
      base = tt;
      bases_same = λ m k v os ns g u len s a b c. based_recorded now before g k v u len s (had_bare (Noted (Based k v (record { old = u; len = len; state = s }))) (lines_of g (cut now before)) ((in_line now before n w ms all g).bases m (inc_in m os) k (inc_in k ns) v os ns (record { old = u; len = len; state = s }) (in_bare now before g m v os a) (in_bare now before g k v ns b) (has_bare (Based m v (record { old = u; len = len; state = s })) (lines_of g (cut now before)) tt (based_line now before g m v u len s c))));
      place = tt;
      entry = tt;
      fitting = tt;
      tally = tt;
      once = tt;
    }
shown _ now before all = record { members = tt; rises = tt; together = tt; base = tt; bases_same = tt; place = tt; entry = tt; fitting = tt; tally = tt; once = tt }

pub all_shown : (h : History) → AllShow h → Each GroupShown h
all_shown h all = each_shown GroupShown shown h all
