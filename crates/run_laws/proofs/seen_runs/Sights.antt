-- What a group's lines say is what the run's records say.
use Rattle.std.proofs.Common.{refl, ◌≡◌, ℕ, ◌⊎◌, ⊎_elim, inl, inr, sym, ◌∙◌, ap, subst, true, false, Bool, List, [], ◌∷◌, ◌++◌, Option, None}
use Rattle.std.specs.Prelude.{◌==◌, ◌&&◌, if◌then◌else◌}
use Rattle.std.specs.Str.{bytes_eq}
use Rattle.rsct_packet.specs.declared.ids.Member.{Member}
use Rattle.rsct_packet.specs.declared.ids.ProviderId.{ProviderId}
use Rattle.rsct_packet.specs.declared.ids.ViewId.{ViewId}
use Rattle.rsct_packet.specs.Ids.{same_view}
use Rattle.rsct_packet.specs.Search.{Has}
use Rattle.rsct_packet.proofs.HasLaws.{has_append, append_has_left, append_has_right}
use Rattle.client_callbacks.specs.declared.told.Why.{Why}
use Rattle.proposal_core.specs.declared.entry.Entry.{Entry}
use Rattle.proposal_core.specs.declared.proposal.Proposal.{Proposal}
use Rattle.proposal_core.specs.declared.group_state.GroupState.{GroupState}
use Rattle.node_state.specs.declared.happened.Happened.{Happened}
use Rattle.node_state.specs.declared.happened.Happened.TheVariants as happened
use Rattle.run_safety.specs.ViewOrder.{is_same}
use Rattle.run_safety.specs.Group.{Record, In, Put, Begins, Based, Heard, Asked, Told, Line, Kept, Noted, kept}
use Rattle.run_safety.specs.GroupLists as lists
use Rattle.run_safety.specs.Past.{History, records_of, view_now, puts_of, puts_after, base_of, base_after}
use Rattle.run_safety.specs.Sight.{inc_in, view_or_none, lines_at, lines_with, lines_of}
use Rattle.run_safety.proofs.SightLaws.{kept_append}
use Rattle.run_laws.specs.seen_runs.Seen.{from_after}
use Rattle.run_laws.proofs.seen_runs.LineRules as rules
use Rattle.node_state.proofs.NameOrder.{text_same, text_self}

-- the records of an event that is going on, after those before it
abbrev pub cut : List Happened → History → History
cut now before = record { event = None; records = now } ∷ before

-- ---- the line of a record

-- a record that is no line of the group
pub record Silent (g : List ℕ) (r : Happened) : Type 0 where
  pub puts : (n : ℕ) (v : ViewId) (old : List Entry) → puts_after n v g r old ≡ old
  pub base : (n : ℕ) (v : ViewId) (old : GroupState) → base_after n v g r old ≡ old
  pub from : (m j : ℕ) (v : ViewId) (old : Option ViewId) → from_after m j v r old ≡ old
  pub no_view : (n : ℕ) (v : ViewId) (ms : List Member) → happened.In n v ms ≡ r → ⊥

pub data LineOf (g : List ℕ) (rs : List Happened) : Happened → List Line → Type 0 where
  Enters : (n : ℕ) (v : ViewId) (ms : List Member) → LineOf g rs (happened.In n v ms) (Kept (In n (inc_in n ms) v ms) ∷ [])
  Puts : (n : ℕ) (v : ViewId) (h : List ℕ) (i : ℕ) (e : Entry) → h ≡ g → LineOf g rs (happened.Put n v h i e) (Kept (Put n v i e) ∷ [])
  Bases : (n : ℕ) (v : ViewId) (h : List ℕ) (u : ViewId) (len : ℕ) (s : GroupState) → h ≡ g → LineOf g rs (happened.Base n v h u len s) (Noted (Based n v (record { old = u; len = len; state = s })) ∷ [])
  Hears : (p : ProviderId) (v : ViewId) (h : List ℕ) (i : ℕ) (e : Entry) (ms : List ProviderId) (value : List ℕ) → h ≡ g → LineOf g rs (happened.Heard p v h i e ms value) (Noted (Heard p v i e ms value) ∷ [])
  Asks : (p : ProviderId) (r : ℕ) (h : List ℕ) (x : Proposal) → h ≡ g → LineOf g rs (happened.Asked p r h x) (Noted (Asked p r x) ∷ [])
  Tells : (p : ProviderId) (r : ℕ) (why : Why) (v : ViewId) → view_or_none (view_now p.node rs) ≡ v → LineOf g rs (happened.Told p r why) (Noted (Told p r v) ∷ [])
  Else : (r : Happened) → Silent g r → LineOf g rs r []

others : (g : List ℕ) (a b c : Bool) → c ≡ false → (a && (b && c)) ≡ false
others g true true c e = e
others g true false c e = refl
others g false b c e = refl

pub line_of : (g : List ℕ) (rs : List Happened) (r : Happened) → LineOf g rs r (lines_at g rs r)
line_of g rs (happened.In m u ms) = Enters m u ms
line_of g rs (happened.Base m u h o len s) = by (bytes_eq h g) refl
  where
    by : (b : Bool) → bytes_eq h g ≡ b → LineOf g rs (happened.Base m u h o len s) (if b then Noted (Based m u (record { old = o; len = len; state = s })) ∷ [] else [])
    by true e = Bases m u h o len s (text_same h g e)
    by false e = Else (happened.Base m u h o len s) (record { puts = λ n v old. refl; base = λ n v old. ap (λ b. if b then s else old) (others g (m == n) (same_view u v) (bytes_eq h g) e); from = λ m j v old. refl; no_view = λ n v ms q. cc })
line_of g rs (happened.Put m u h i x) = by (bytes_eq h g) refl
  where
    by : (b : Bool) → bytes_eq h g ≡ b → LineOf g rs (happened.Put m u h i x) (if b then Kept (Put m u i x) ∷ [] else [])
    by true e = Puts m u h i x (text_same h g e)
    by false e = Else (happened.Put m u h i x) (record { puts = λ n v old. ap (λ b. if b then old ++ x ∷ [] else old) (others g (m == n) (same_view u v) (bytes_eq h g) e); base = λ n v old. refl; from = λ m j v old. refl; no_view = λ n v ms q. cc })
line_of g rs (happened.Heard p u h i x ms value) = by (bytes_eq h g) refl
  where
    by : (b : Bool) → bytes_eq h g ≡ b → LineOf g rs (happened.Heard p u h i x ms value) (if b then Noted (Heard p u i x ms value) ∷ [] else [])
    by true e = Hears p u h i x ms value (text_same h g e)
    by false e = Else (happened.Heard p u h i x ms value) (record { puts = λ n v old. refl; base = λ n v old. refl; from = λ m j v old. refl; no_view = λ n v ms q. cc })
line_of g rs (happened.Asked p r h x) = by (bytes_eq h g) refl
  where
    by : (b : Bool) → bytes_eq h g ≡ b → LineOf g rs (happened.Asked p r h x) (if b then Noted (Asked p r x) ∷ [] else [])
    by true e = Asks p r h x (text_same h g e)
    by false e = Else (happened.Asked p r h x) (record { puts = λ n v old. refl; base = λ n v old. refl; from = λ m j v old. refl; no_view = λ n v ms q. cc })
line_of g rs (happened.Told p r why) = Tells p r why (view_or_none (view_now p.node rs)) refl
line_of g rs r = Else r (record { puts = λ n v old. refl; base = λ n v old. refl; from = λ m j v old. refl; no_view = λ n v ms q. cc })

-- ---- lists and bases

with_name : (a b : Bool) (h g : List ℕ) → h ≡ g → (a && (b && bytes_eq h g)) ≡ (a && b)
with_name a b h g e = ap (λ z. a && (b && bytes_eq z g)) e ∙ by a b (bytes_eq g g) (text_self g)
  where
    by : (a b c : Bool) → c ≡ true → (a && (b && c)) ≡ (a && b)
    by true true c q = q
    by true false c q = refl
    by false b c q = refl

puts_line : (n : ℕ) (v : ViewId) (g : List ℕ) (rs : List Happened) (r : Happened) (ls : List Line) → LineOf g rs r ls → (tr : List Record) (old : List Entry) → lists.puts_of n v tr ≡ old → lists.puts_of n v (kept ls ++ tr) ≡ puts_after n v g r old
unfolding is_same
puts_line n v g rs _ _ (Puts m u k i e q) tr old h = by (m == n && same_view u v) ∙ ap (λ b. if b then old ++ e ∷ [] else old) (sym (with_name (m == n) (same_view u v) k g q))
  where
    by : (b : Bool) → (if b then lists.puts_of n v tr ++ e ∷ [] else lists.puts_of n v tr) ≡ (if b then old ++ e ∷ [] else old)
    by b = ap (λ z. if b then z ++ e ∷ [] else z) h
puts_line n v g rs r _ (Else _ silent) tr old h = h ∙ sym (silent.puts n v old)
puts_line n v g rs _ _ _ tr old h = h

puts_now : (n : ℕ) (v : ViewId) (g : List ℕ) (now : List Happened) (before : History) (all : List Line) → lists.puts_of n v (kept all) ≡ puts_of n v g (records_of before) → lists.puts_of n v (kept (lines_with g now before all)) ≡ puts_of n v g (now ++ records_of before)
puts_now n v g [] before all h = h
puts_now n v g (r ∷ now) before all h =
    let rs : List Happened = now ++ records_of before in
    ap (lists.puts_of n v) (kept_append (lines_at g rs r) (lines_with g now before all)) ∙ puts_line n v g rs r (lines_at g rs r) (line_of g rs r) (kept (lines_with g now before all)) (puts_of n v g rs) (puts_now n v g now before all h)

pub puts_same : (n : ℕ) (v : ViewId) (g : List ℕ) (h : History) → lists.puts_of n v (kept (lines_of g h)) ≡ puts_of n v g (records_of h)
puts_same n v g [] = refl
puts_same n v g (e ∷ before) = puts_now n v g e.records before (lines_of g before) (puts_same n v g before)

base_line : (n : ℕ) (v : ViewId) (g : List ℕ) (rs : List Happened) (r : Happened) (ls : List Line) → LineOf g rs r ls → (all : List Line) (old : GroupState) → rules.base_in n v all ≡ old → rules.base_in n v (ls ++ all) ≡ base_after n v g r old
unfolding is_same
base_line n v g rs _ _ (Bases m u k o len s q) all old h = by (m == n && same_view u v) ∙ ap (λ b. if b then s else old) (sym (with_name (m == n) (same_view u v) k g q))
  where
    by : (b : Bool) → (if b then s else rules.base_in n v all) ≡ (if b then s else old)
    by b = ap (λ z. if b then s else z) h
base_line n v g rs r _ (Else _ silent) all old h = h ∙ sym (silent.base n v old)
base_line n v g rs _ _ _ all old h = h

base_now : (n : ℕ) (v : ViewId) (g : List ℕ) (now : List Happened) (before : History) (all : List Line) → rules.base_in n v all ≡ base_of n v g (records_of before) → rules.base_in n v (lines_with g now before all) ≡ base_of n v g (now ++ records_of before)
base_now n v g [] before all h = h
base_now n v g (r ∷ now) before all h =
    let rs : List Happened = now ++ records_of before in
    base_line n v g rs r (lines_at g rs r) (line_of g rs r) (lines_with g now before all) (base_of n v g rs) (base_now n v g now before all h)

pub base_same : (n : ℕ) (v : ViewId) (g : List ℕ) (h : History) → rules.base_in n v (lines_of g h) ≡ base_of n v g (records_of h)
base_same n v g [] = refl
base_same n v g (e ∷ before) = base_now n v g e.records before (lines_of g before) (base_same n v g before)

-- ---- a line of a record, after those before it, is one of the group's

module _ (g : List ℕ) (y : Line) where
  -- one of these records has the line
  abbrev AtSome : List Happened → Type 0
  AtSome [] = ⊥
  AtSome (r ∷ rs) = Has y (lines_at g rs r) ⊎ AtSome rs

  at_split : (newer older : List Happened) (r : Happened) → Has y (lines_at g older r) → AtSome (newer ++ r ∷ older)
  at_split [] older r h = inl h
  at_split (x ∷ newer) older r h = inr (at_split newer older r h)

  line_now : (now : List Happened) (before : History) → (AtSome (records_of before) → Has y (lines_of g before)) → AtSome (now ++ records_of before) → Has y (lines_of g (cut now before))
  line_now [] before old h = inr (old h)
  line_now (r ∷ now) before old (inl h) = append_has_left y (lines_at g (now ++ records_of before) r) (lines_of g (cut now before)) h
  line_now (r ∷ now) before old (inr h) = append_has_right y (lines_at g (now ++ records_of before) r) (lines_of g (cut now before)) (line_now now before old h)

  line_of_some : (h : History) → AtSome (records_of h) → Has y (lines_of g h)
  line_of_some [] k = absurd k
  line_of_some (e ∷ before) k = line_now e.records before (line_of_some before) k

-- what was told is a line
pub told_line : (g : List ℕ) (p : ProviderId) (r : ℕ) (why : Why) (newer older : List Happened) (h : History) → records_of h ≡ newer ++ happened.Told p r why ∷ older → Has (Noted (Told p r (view_or_none (view_now p.node older)))) (lines_of g h)
told_line g p r why newer older h moment =
    let y : Line = Noted (Told p r (view_or_none (view_now p.node older))) in
    line_of_some g y h (subst (AtSome g y) (sym moment) (at_split g y newer older (happened.Told p r why) (inl refl)))

-- ---- a line is a record's

pub record Recorded (g : List ℕ) (h : History) (y : Line) : Type 0 where
  pub rs : List Happened
  pub of : Happened
  pub there : Has of (records_of h)
  pub shows : Has y (lines_at g rs of)

recorded_now : (g : List ℕ) (y : Line) (now : List Happened) (before : History) → (y ≡ Kept Begins → ⊥) → (Has y (lines_of g before) → Recorded g before y) → Has y (lines_of g (cut now before)) → Recorded g (cut now before) y
recorded_now g y [] before other old (inl e) = absurd (other e)
recorded_now g y [] before other old (inr h) = let k = old h in record { rs = k.rs; of = k.of; there = k.there; shows = k.shows }
recorded_now g y (x ∷ now) before other old h =
    ⊎_elim (λ (a : Has y (lines_at g (now ++ records_of before) x)). here a) (λ (a : Has y (lines_of g (cut now before))). there (recorded_now g y now before other old a)) (has_append y (lines_at g (now ++ records_of before) x) (lines_of g (cut now before)) h)
  where
    here : Has y (lines_at g (now ++ records_of before) x) → Recorded g (cut (x ∷ now) before) y
    here a = record { rs = now ++ records_of before; of = x; there = inl refl; shows = a }

    there : Recorded g (cut now before) y → Recorded g (cut (x ∷ now) before) y
    there k = record { rs = k.rs; of = k.of; there = inr k.there; shows = k.shows }

pub recorded : (g : List ℕ) (y : Line) (h : History) → (y ≡ Kept Begins → ⊥) → Has y (lines_of g h) → Recorded g h y
recorded g y [] other k = absurd k
recorded g y (e ∷ before) other k = let q = recorded_now g y e.records before other (recorded g y before other) k in record { rs = q.rs; of = q.of; there = q.there; shows = q.shows }

-- ---- who entered what last

-- a record that is no entering
last_line : (n : ℕ) (g : List ℕ) (rs : List Happened) (r : Happened) (ls : List Line) → LineOf g rs r ls → ((v : ViewId) (m : ℕ) (ms : List Member) → happened.In m v ms ≡ r → ⊥) → (tr : List Record) → rules.last_in n (kept ls ++ tr) ≡ rules.last_in n tr
last_line n g rs _ _ (Enters m u ms) other tr = absurd (other u m ms refl)
last_line n g rs _ _ _ other tr = refl

pub last_same : (n : ℕ) (r : Happened) (now : List Happened) (before : History) → ((v : ViewId) (m : ℕ) (ms : List Member) → happened.In m v ms ≡ r → ⊥) → rules.last_in n (kept (lines_of [] (cut (r ∷ now) before))) ≡ rules.last_in n (kept (lines_of [] (cut now before)))
last_same n r now before other =
    let rs : List Happened = now ++ records_of before in
    ap (rules.last_in n) (kept_append (lines_at [] rs r) (lines_of [] (cut now before))) ∙ last_line n [] rs r (lines_at [] rs r) (line_of [] rs r) other (kept (lines_of [] (cut now before)))

-- it is the same in the lines of each group
group_line : (n : ℕ) (g : List ℕ) (rs : List Happened) (r : Happened) (tr tr' : List Record) → rules.last_in n tr ≡ rules.last_in n tr' → rules.last_in n (kept (lines_at g rs r) ++ tr) ≡ rules.last_in n (kept (lines_at [] rs r) ++ tr')
group_line n g rs r tr tr' h = by r (lines_at g rs r) (lines_at [] rs r) (line_of g rs r) (line_of [] rs r)
  where
    others_here : (g : List ℕ) (r : Happened) (ls : List Line) → LineOf g rs r ls → ((v : ViewId) (m : ℕ) (ms : List Member) → happened.In m v ms ≡ r → ⊥) → (tr : List Record) → rules.last_in n (kept ls ++ tr) ≡ rules.last_in n tr
    others_here g r ls l other tr = last_line n g rs r ls l other tr

    by : (r : Happened) (ls ls' : List Line) → LineOf g rs r ls → LineOf [] rs r ls' → rules.last_in n (kept ls ++ tr) ≡ rules.last_in n (kept ls' ++ tr')
    by _ _ ls' (Enters m u ms) l = entered ls' l
      where
        entered : (ls' : List Line) → LineOf [] rs (happened.In m u ms) ls' → rules.last_in n (In m (inc_in m ms) u ms ∷ tr) ≡ rules.last_in n (kept ls' ++ tr')
        entered _ (Enters _ _ _) = ap (rules.last_after n (In m (inc_in m ms) u ms)) h
        entered _ (Else _ silent) = absurd (silent.no_view m u ms refl)
    by _ _ ls' (Puts m u k i e q) l = h ∙ sym (others_here [] _ ls' l (λ v k ns z. cc) tr')
    by _ _ ls' (Bases m u k o len s q) l = h ∙ sym (others_here [] _ ls' l (λ v k ns z. cc) tr')
    by _ _ ls' (Hears p u k i e ms value q) l = h ∙ sym (others_here [] _ ls' l (λ v k ns z. cc) tr')
    by _ _ ls' (Asks p r k x q) l = h ∙ sym (others_here [] _ ls' l (λ v k ns z. cc) tr')
    by _ _ ls' (Tells p r why u q) l = h ∙ sym (others_here [] _ ls' l (λ v k ns z. cc) tr')
    by r _ ls' (Else _ silent) l = h ∙ sym (others_here [] r ls' l (λ v k ns. silent.no_view k v ns) tr')

groups_now : (n : ℕ) (g : List ℕ) (now : List Happened) (before : History) → rules.last_in n (kept (lines_of g before)) ≡ rules.last_in n (kept (lines_of [] before)) → rules.last_in n (kept (lines_of g (cut now before))) ≡ rules.last_in n (kept (lines_of [] (cut now before)))
groups_now n g [] before h = h
groups_now n g (r ∷ now) before h =
    let rs : List Happened = now ++ records_of before in
    ap (rules.last_in n) (kept_append (lines_at g rs r) (lines_of g (cut now before))) ∙ group_line n g rs r (kept (lines_of g (cut now before))) (kept (lines_of [] (cut now before))) (groups_now n g now before h) ∙ sym (ap (rules.last_in n) (kept_append (lines_at [] rs r) (lines_of [] (cut now before))))

groups_same : (n : ℕ) (g : List ℕ) (h : History) → rules.last_in n (kept (lines_of g h)) ≡ rules.last_in n (kept (lines_of [] h))
groups_same n g [] = refl
groups_same n g (e ∷ before) = groups_now n g e.records before (groups_same n g before)

pub last_groups : (n : ℕ) (g : List ℕ) (now : List Happened) (before : History) → rules.last_in n (kept (lines_of g (cut now before))) ≡ rules.last_in n (kept (lines_of [] (cut now before)))
last_groups n g now before = groups_now n g now before (groups_same n g before)
