-- Where each put follows from its sources or its entry was put there before, each reflection rises, each join carries a
-- length just where it has a source, and what is first put follows from the node's sources.
use Rattle.std.proofs.Common.{◌≡◌, ℕ, zero, suc, List, [], ◌∷◌, ◌++◌, take, Option, Some, refl, sym, ap, ◌∙◌, subst, inl, inr, arith}
use Rattle.std.specs.Prelude.{if◌then◌else◌}
use Rattle.rsct_packet.specs.declared.ids.ViewId.{ViewId}
use Rattle.rsct_packet.specs.Search.{Has}
use Rattle.rsct_packet.specs.declared.ids.ProviderId.{ProviderId}
use Rattle.group_attr.specs.declared.attrs.Attrs.{Attrs}
use Rattle.proposal_core.specs.declared.proposal.Proposal.{Proposal}
use Rattle.proposal_core.specs.declared.proposal.Proposal.TheVariants.{Join, Leave, Fail, Expel, State, Message, Attributes, Reflect}
use Rattle.proposal_core.specs.Fold.{empty_state}
use Rattle.proposal_core.specs.declared.entry.Entry.{Entry}
use Rattle.proposal_core.specs.declared.entry.Entry.TheVariants.{Once, Begin, Phase, Approve, Reject, Late}
use Rattle.node_state.specs.declared.happened.Happened.{Happened}
use Rattle.node_state.specs.declared.happened.Happened.TheVariants as happened
use Rattle.world_model.specs.declared.event.Event.{Event}
use Rattle.world_model.specs.Run.{Happening}
use Rattle.run_safety.specs.Past.{History, records_of, earlier, Within, EachEvent, base_of, state_at}
use Rattle.run_safety.specs.Sight.{lines_at, lines_with, lines_of}
use Rattle.run_safety.specs.Group.{Line, Put, Kept}
use Rattle.run_safety.specs.Bases.{Bases, state_of_list}
use Rattle.node_state.proofs.NameOrder.{text_self}
use Rattle.entry_laws.proofs.closing_rows.Told.{Told, less_many, less_now}
use Rattle.entry_laws.proofs.closing_rows.Lists.{puts_here, state_before, base_here}
use Rattle.entry_laws.specs.source_order.Sources.{HasMemberOn, JoinsOver, JoinsFrom, OfBegun, Rises, CarriesLength, BegunFirst, RecordRises, RecordCarries, RecordFirst, ReflectionsRise, JoinsCarryLengths, FirstsFollowSources}
use Rattle.entry_laws.proofs.source_order.Fronts.{Bound, front_state}
use Rattle.entry_laws.proofs.source_order.At.{BegunWell, PutFact, RecordFact}

pub of_begun : (P Q : Proposal → Type 0) → ((x : Proposal) → P x → Q x) → (e : Entry) → OfBegun P e → OfBegun Q e
of_begun P Q f (Once x) k = f x k
of_begun P Q f (Begin x) k = f x k
of_begun P Q f (Phase c) k = tt
of_begun P Q f (Approve c) k = tt
of_begun P Q f (Reject c) k = tt
of_begun P Q f (Late proto phase ps) k = tt

-- what is first put
record_first : (event : Happening) (r : Happened) (now : List Happened) (before : History) → RecordFact event.event now before r → RecordFirst event now before r
record_first event (happened.Put n v g i e) now before (inl k) =
    λ first. of_begun (BegunWell (record { event = event.event; records = now } ∷ before) n v g i) (BegunFirst (record { event = event.event; records = now } ∷ before) n v g) (λ x z. z.2) e k
record_first event (happened.Put n v g i e) now before (inr k) = λ first. absurd (first (k.0, e, k.1))
record_first event (happened.Up n j) now before k = tt
record_first event (happened.Down n) now before k = tt
record_first event (happened.In n v ms) now before k = tt
record_first event (happened.Base n v g old len s) now before k = tt
record_first event (happened.Ring n network ring ms next) now before k = tt
record_first event (happened.Heard p v g i e ms value) now before k = tt
record_first event (happened.Cast p proto phase vote value message) now before k = tt
record_first event (happened.Asked p r g x) now before k = tt
record_first event (happened.Told p r why) now before k = tt
record_first event (happened.Noted n client v place note) now before k = tt
record_first event (happened.Refused n client fault) now before k = tt
record_first event (happened.Shown n line) now before k = tt

within_first : (event : Happening) (now : List Happened) (before : History) → Within (RecordFact event.event) now before → Within (RecordFirst event) now before
within_first event [] before k = tt
within_first event (r ∷ now) before k = (record_first event r now before k.0, within_first event now before k.1)

-- it holds of each record of each event
abbrev pub AllFacts : History → Type 0
AllFacts h = EachEvent (λ event before. Within (RecordFact event.event) event.records before) h

pub firsts_follow : (h : History) → AllFacts h → FirstsFollowSources h
firsts_follow [] k = tt
firsts_follow (e ∷ before) k = (within_first e e.records before k.0, firsts_follow before k.1)

module _ (bases : List ℕ → Bases) (log : List ℕ → ViewId → List Entry) where
  abbrev ToldNow : List Happened → History → Type 0
  ToldNow now before = (g : List ℕ) → Told (bases g) (log g) (lines_with g now before (lines_of g before))

  -- over the whole list of the source
  abbrev pub RightOver : ViewId → Proposal → Type 0
  RightOver v (Join ps a len) =
      (h : List ℕ) (k : ℕ) → a.source ≡ Some h → len ≡ Some k → (p : ProviderId) → Has p ps → HasMemberOn (state_of_list (bases h) v (take k (log h v))) p.node
  RightOver v _ = Unit {0}

  -- of the state that the whole list makes
  abbrev pub RightBegun : List ℕ → ViewId → ℕ → Proposal → Type 0
  RightBegun g v i x = Rises (state_of_list (bases g) v (take i (log g v))) x × CarriesLength x × RightOver v x

  abbrev pub Rights : List Happened → Type 0
  Rights rs = (n : ℕ) (v : ViewId) (g : List ℕ) (i : ℕ) (e : Entry) → Has (happened.Put n v g i e) rs → OfBegun (RightBegun g v i) e

  told_less : (r : Happened) (now : List Happened) (before : History) → ToldNow (r ∷ now) before → ToldNow now before
  told_less r now before t g =
      less_many (bases g) (log g) (lines_at g (earlier now before) r) (lines_with g now before (lines_of g before)) (t g)

  put_state : (n : ℕ) (v : ViewId) (g : List ℕ) (i : ℕ) (e : Entry) (now : List Happened) (before : History) → ToldNow (happened.Put n v g i e ∷ now) before → state_at n v g i (earlier now before) ≡ state_of_list (bases g) v (take i (log g v))
  put_state n v g i e now before t =
      state_before n v g (bases g) (log g) i e now before (subst (λ b. Told (bases g) (log g) ((if b then Kept (Put n v i e) ∷ [] else []) ++ lines_with g now before (lines_of g before))) (text_self g) (t g))

  -- as the node has it that puts the join first
  join_over : (n : ℕ) (v : ViewId) (h : List ℕ) (k : ℕ) (ps : List ProviderId) (now : List Happened) (before : History) → ToldNow now before → JoinsOver n v h k (earlier now before) ps → (p : ProviderId) → Has p ps → HasMemberOn (state_of_list (bases h) v (take k (log h v))) p.node
  join_over n v h k ps now before t j p i = subst (λ s. HasMemberOn s p.node) (whole bound) (j.members p i)
    where
      rs : List Happened
      rs = earlier now before

      all : List Line
      all = lines_with h now before (lines_of h before)

      whole : Bound n v h rs all → state_at n v h k rs ≡ state_of_list (bases h) v (take k (log h v))
      whole c =
          let l = j.len in
          front_state n v h (bases h) (log h) rs all (t h) (puts_here n v h now before) (base_here n v h now before) c k (omega arith)

      -- a base with a member is not empty
      bound : Bound n v h rs all
      bound = by k refl
        where
          by : (z : ℕ) → k ≡ z → Bound n v h rs all
          by (suc z) q = let l = j.len in inl (omega arith)
          by zero q = inr (inl (λ e. nobody e))
            where
              nobody : base_of n v h rs ≡ empty_state → ⊥
              nobody e =
                  let a : HasMemberOn (state_at n v h 0 rs) p.node = subst (λ z. HasMemberOn (state_at n v h z rs) p.node) q (j.members p i) in
                  let b : HasMemberOn empty_state p.node = subst (λ s. HasMemberOn s p.node) e a in absurd (cc)

  right_over : (o : Option Event) (n : ℕ) (v : ViewId) (g : List ℕ) (x : Proposal) (now : List Happened) (before : History) → ToldNow now before → BegunFirst (record { event = o; records = now } ∷ before) n v g x → RightOver v x
  right_over o n v g (Join ps a len) now before t z =
      λ h k p q. join_over n v h k ps now before t (subst (λ (y : Option (List ℕ) × Option ℕ). JoinsFrom n v y.0 y.1 (earlier now before) ps) (λ j. ((ap (λ (b : Attrs). b.source) (sym z.attrs) ∙ p) j, q j)) z.from)
  right_over o n v g (Leave q r) now before t z = tt
  right_over o n v g (Fail out) now before t z = tt
  right_over o n v g (Expel q r out) now before t z = tt
  right_over o n v g (State q r value) now before t z = tt
  right_over o n v g (Message q r bytes) now before t z = tt
  right_over o n v g (Attributes q r a) now before t z = tt
  right_over o n v g (Reflect u k value) now before t z = tt

  right_of : (o : Option Event) (n : ℕ) (v : ViewId) (g : List ℕ) (i : ℕ) (e : Entry) (now : List Happened) (before : History) → Rights (earlier now before) → PutFact o now before n v g i e → ToldNow (happened.Put n v g i e ∷ now) before → OfBegun (RightBegun g v i) e
  right_of o n v g i e now before old (inl k) t =
      of_begun (BegunWell (record { event = o; records = now } ∷ before) n v g i) (RightBegun g v i) (λ x z. (subst (λ s. Rises s x) (put_state n v g i e now before t) z.0, z.1, right_over o n v g x now before (told_less (happened.Put n v g i e) now before t) z.2)) e k
  right_of o n v g i e now before old (inr k) t = old k.0 v g i e k.1

  record_right : (o : Option Event) (r : Happened) (now : List Happened) (before : History) → Rights (earlier now before) → RecordFact o now before r → ToldNow (r ∷ now) before → RecordRises now before r × RecordCarries now before r
  record_right o (happened.Put n v g i e) now before old k t =
      let j = right_of o n v g i e now before old k t in (
        of_begun (RightBegun g v i) (Rises (state_at n v g i (earlier now before))) (λ x z. subst (λ s. Rises s x) (sym (put_state n v g i e now before t)) z.0) e j,
        of_begun (RightBegun g v i) CarriesLength (λ x z. z.1) e j,
      )
  record_right o _ now before old k t = (tt, tt)

  within_right : (o : Option Event) (now : List Happened) (before : History) → ToldNow now before → Rights (records_of before) → Within (RecordFact o) now before → (Within RecordRises now before × Within RecordCarries now before) × Rights (earlier now before)
  within_right o [] before t old k = ((tt, tt), old)
  within_right o (r ∷ now) before t old k =
      let rest = within_right o now before (told_less r now before t) old k.1 in
      let one = record_right o r now before rest.1 k.0 t in (
        ((one.0, rest.0.0), (one.1, rest.0.1)),
        λ n v g i e h. rights rest.1 n v g i e h,
      )
    where
      rights : Rights (earlier now before) → Rights (earlier (r ∷ now) before)
      rights older n v g i e (inr h) = older n v g i e h
      rights older n v g i e (inl q) =
          subst (λ z. RecordFact o now before z → ToldNow (z ∷ now) before → OfBegun (RightBegun g v i) e) q (λ a b. right_of o n v g i e now before older a b) k.0 t

  all_right : (h : History) → ((g : List ℕ) → Told (bases g) (log g) (lines_of g h)) → AllFacts h → (ReflectionsRise h × JoinsCarryLengths h) × Rights (records_of h)
  all_right [] t k = ((tt, tt), λ n v g i e z. absurd z)
  all_right (e ∷ before) t k =
      let older = all_right before (λ g. less_now (bases g) (log g) g e.records before (t g)) k.1 in
      let now = within_right e.event e.records before t older.1 k.0 in (((now.0.0, older.0.0), (now.0.1, older.0.1)), now.1)

  pub rights_of : (h : History) → ((g : List ℕ) → Told (bases g) (log g) (lines_of g h)) → AllFacts h → Rights (records_of h)
  rights_of h t k = (all_right h t k).1

  pub puts_right : (h : History) → ((g : List ℕ) → Told (bases g) (log g) (lines_of g h)) → AllFacts h → ReflectionsRise h × JoinsCarryLengths h
  puts_right h t k = (all_right h t k).0
