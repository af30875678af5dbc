-- Where each put's rows are right or its entry was put there before, the rows of all puts are right.
use Rattle.std.proofs.Common.{◌≡◌, ◌⊎◌, ℕ, List, [], ◌∷◌, ◌++◌, take, Option, Some, None, Bool, true, false, refl, sym, ap, ◌∙◌, subst, inl, inr}
use Rattle.std.specs.Prelude.{slice_get, if◌then◌else◌}
use Rattle.std.specs.Str.{bytes_eq}
use Rattle.rsct_packet.specs.declared.ids.ViewId.{ViewId}
use Rattle.rsct_packet.specs.Search.{Has}
use Rattle.proposal_core.specs.declared.entry.Entry.{Entry}
use Rattle.node_state.specs.declared.happened.Happened.{Happened}
use Rattle.node_state.specs.declared.happened.Happened.TheVariants as happened
use Rattle.run_safety.specs.Past.{History, records_of, earlier, view_now, Within, EachRecord, state_at}
use Rattle.run_safety.specs.Sight.{told_in, lines_at, lines_with, lines_of}
use Rattle.run_safety.specs.Group.{In, Put, Note, Based, Line, Kept, Noted, kept}
use Rattle.run_safety.specs.Group as group
use Rattle.run_safety.specs.Bases.{Bases, state_of_list}
use Rattle.node_state.proofs.NameOrder.{text_same, text_self}
use Rattle.entry_laws.specs.closing_rows.Rows.{HasRows, RecordRows, RowsAreVoters}
use Rattle.entry_laws.proofs.closing_rows.Orders.{Again}
use Rattle.entry_laws.proofs.closing_rows.Told.{Told, less_many, less_now, within_all}
use Rattle.entry_laws.proofs.closing_rows.Lists.{state_before}

-- the rows of a put are right, or someone put the entry there before
abbrev pub Evident : List Happened → History → Happened → Type 0
Evident now before (happened.Put n v g i e) =
    HasRows (state_at n v g i (earlier now before)) e ⊎ ((m : ℕ) × Has (happened.Put m v g i e) (earlier now before))
Evident now before _ = Unit {0}

module _ (bases : List ℕ → Bases) (log : List ℕ → ViewId → List Entry) where
  abbrev pub ToldNow : List Happened → History → Type 0
  ToldNow now before = (g : List ℕ) → Told (bases g) (log g) (lines_with g now before (lines_of g before))

  -- the rows are right of the state that the whole list makes
  abbrev Right : List ℕ → ViewId → ℕ → Entry → Type 0
  Right g v i e = HasRows (state_of_list (bases g) v (take i (log g v))) e

  abbrev Rights : List Happened → Type 0
  Rights rs = (n : ℕ) (v : ViewId) (g : List ℕ) (i : ℕ) (e : Entry) → Has (happened.Put n v g i e) rs → Right g v i e

  pub told_less : (r : Happened) (now : List Happened) (before : History) → ToldNow (r ∷ now) before → ToldNow now before
  told_less r now before t g =
      less_many (bases g) (log g) (lines_at g (earlier now before) r) (lines_with g now before (lines_of g before)) (t g)

  put_state : (n : ℕ) (v : ViewId) (g : List ℕ) (i : ℕ) (e : Entry) (now : List Happened) (before : History) → ToldNow (happened.Put n v g i e ∷ now) before → state_at n v g i (earlier now before) ≡ state_of_list (bases g) v (take i (log g v))
  put_state n v g i e now before t =
      state_before n v g (bases g) (log g) i e now before (subst (λ b. Told (bases g) (log g) ((if b then Kept (Put n v i e) ∷ [] else []) ++ lines_with g now before (lines_of g before))) (text_self g) (t g))

  right_of : (n : ℕ) (v : ViewId) (g : List ℕ) (i : ℕ) (e : Entry) (now : List Happened) (before : History) → Rights (earlier now before) → Evident now before (happened.Put n v g i e) → ToldNow (happened.Put n v g i e ∷ now) before → Right g v i e
  right_of n v g i e now before old (inl k) t = subst (λ s. HasRows s e) (put_state n v g i e now before t) k
  right_of n v g i e now before old (inr k) t = old k.0 v g i e k.1

  record_right : (r : Happened) (now : List Happened) (before : History) → Rights (earlier now before) → Evident now before r → ToldNow (r ∷ now) before → RecordRows now before r
  record_right (happened.Put n v g i e) now before old k t =
      subst (λ s. HasRows s e) (sym (put_state n v g i e now before t)) (right_of n v g i e now before old k t)
  record_right _ now before old k t = tt

  within_right : (now : List Happened) (before : History) → ToldNow now before → Rights (records_of before) → Within Evident now before → Within RecordRows now before × Rights (earlier now before)
  within_right [] before t old k = (tt, old)
  within_right (r ∷ now) before t old k =
      let rest = within_right now before (told_less r now before t) old k.1 in (
        (record_right r now before rest.1 k.0 t, rest.0),
        λ n v g i e h. rights rest.1 n v g i e h,
      )
    where
      rights : Rights (earlier now before) → Rights (earlier (r ∷ now) before)
      rights older n v g i e (inr h) = older n v g i e h
      rights older n v g i e (inl q) =
          subst (λ z. Evident now before z → ToldNow (z ∷ now) before → Right g v i e) q (λ a b. right_of n v g i e now before older a b) k.0 t

  all_right : (h : History) → ((g : List ℕ) → Told (bases g) (log g) (lines_of g h)) → EachRecord Evident h → RowsAreVoters h × Rights (records_of h)
  all_right [] t k = (tt, λ n v g i e z. absurd z)
  all_right (e ∷ before) t k =
      let older = all_right before (λ g. less_now (bases g) (log g) g e.records before (t g)) k.1 in
      let now = within_right e.records before t older.1 k.0 in ((now.0, older.0), now.1)

  pub rows_right : (h : History) → ((g : List ℕ) → Told (bases g) (log g) (lines_of g h)) → EachRecord Evident h → RowsAreVoters h
  rows_right h t k = (all_right h t k).0

-- ---- what stands in an event before its node enters a view was put before

module _ (g : List ℕ) where
  -- a put of a group's lines is one of the run's records
  back_step : (m : ℕ) (v : ViewId) (i : ℕ) (f : Entry) (r : Happened) (rs : List Happened) (all : List Line) → (Has (Put m v i f) (kept all) → Has (happened.Put m v g i f) rs) → Has (Put m v i f) (kept (lines_at g rs r ++ all)) → Has (happened.Put m v g i f) (r ∷ rs)
  back_step m v i f (happened.Put n u h k e) rs all old there = by (bytes_eq h g) refl there
    where
      by : (b : Bool) → bytes_eq h g ≡ b → Has (Put m v i f) (kept ((if b then Kept (Put n u k e) ∷ [] else []) ++ all)) → Has (happened.Put m v g i f) (happened.Put n u h k e ∷ rs)
      by false q j = inr (old j)
      by true q (inr j) = inr (old j)
      by true q (inl p) =
          let a : m ≡ n = cc in
          let b : v ≡ u = cc in
          let c : i ≡ k = cc in
          let d : f ≡ e = cc in
          let name : h ≡ g = text_same h g q in
          inl (λ z. happened.Put (a z) (b z) (sym name z) (c z) (d z))
  back_step m v i f (happened.Base n u h old len s) rs all more there = by (bytes_eq h g) there
    where
      by : (b : Bool) → Has (Put m v i f) (kept ((if b then Noted (Based n u (record { old = old; len = len; state = s })) ∷ [] else []) ++ all)) → Has (happened.Put m v g i f) (happened.Base n u h old len s ∷ rs)
      by true j = inr (more j)
      by false j = inr (more j)
  back_step m v i f (happened.Heard p u h k e ms value) rs all more there = by (bytes_eq h g) there
    where
      by : (b : Bool) → Has (Put m v i f) (kept ((if b then Noted (group.Heard p u k e ms value) ∷ [] else []) ++ all)) → Has (happened.Put m v g i f) (happened.Heard p u h k e ms value ∷ rs)
      by true j = inr (more j)
      by false j = inr (more j)
  back_step m v i f (happened.Asked p r h x) rs all more there = by (bytes_eq h g) there
    where
      by : (b : Bool) → Has (Put m v i f) (kept ((if b then Noted (group.Asked p r x) ∷ [] else []) ++ all)) → Has (happened.Put m v g i f) (happened.Asked p r h x ∷ rs)
      by true j = inr (more j)
      by false j = inr (more j)
  back_step m v i f (happened.Told p r why) rs all more there = by (view_now p.node rs) there
    where
      by : (o : Option ViewId) → Has (Put m v i f) (kept (told_in p r o ++ all)) → Has (happened.Put m v g i f) (happened.Told p r why ∷ rs)
      by None j = inr (more j)
      by (Some u) j = inr (more j)
  back_step m v i f (happened.In n u ms) rs all more (inl q) = absurd (cc)
  back_step m v i f (happened.In n u ms) rs all more (inr j) = inr (more j)
  back_step m v i f (happened.Up n j) rs all more h = inr (more h)
  back_step m v i f (happened.Down n) rs all more h = inr (more h)
  back_step m v i f (happened.Ring n network ring ms next) rs all more h = inr (more h)
  back_step m v i f (happened.Cast p proto phase vote value message) rs all more h = inr (more h)
  back_step m v i f (happened.Noted n client u place note) rs all more h = inr (more h)
  back_step m v i f (happened.Refused n client fault) rs all more h = inr (more h)
  back_step m v i f (happened.Shown n line) rs all more h = inr (more h)

  back_now : (m : ℕ) (v : ViewId) (i : ℕ) (f : Entry) (now : List Happened) (before : History) → (Has (Put m v i f) (kept (lines_of g before)) → Has (happened.Put m v g i f) (records_of before)) → Has (Put m v i f) (kept (lines_with g now before (lines_of g before))) → Has (happened.Put m v g i f) (earlier now before)
  back_now m v i f [] before old (inl q) = absurd (cc)
  back_now m v i f [] before old (inr h) = old h
  back_now m v i f (r ∷ now) before old h =
      back_step m v i f r (earlier now before) (lines_with g now before (lines_of g before)) (back_now m v i f now before old) h

  back_all : (m : ℕ) (v : ViewId) (i : ℕ) (f : Entry) (h : History) → Has (Put m v i f) (kept (lines_of g h)) → Has (happened.Put m v g i f) (records_of h)
  back_all m v i f [] j = absurd j
  back_all m v i f (e ∷ before) j = back_now m v i f e.records before (back_all m v i f before) j

  pub put_back : (m : ℕ) (v : ViewId) (i : ℕ) (f : Entry) (now : List Happened) (before : History) → Has (Put m v i f) (kept (lines_with g now before (lines_of g before))) → Has (happened.Put m v g i f) (earlier now before)
  put_back m v i f now before j = back_now m v i f now before (back_all m v i f before) j

  again_step : (r : Happened) (rs : List Happened) (all : List Line) → Again (lines_at g rs r ++ all) → Again all
  again_step (happened.Put n u h k e) rs all there = by (bytes_eq h g) there
    where
      by : (b : Bool) → Again ((if b then Kept (Put n u k e) ∷ [] else []) ++ all) → Again all
      by true a = a.1
      by false a = a
  again_step (happened.Base n u h old len s) rs all there = by (bytes_eq h g) there
    where
      by : (b : Bool) → Again ((if b then Noted (Based n u (record { old = old; len = len; state = s })) ∷ [] else []) ++ all) → Again all
      by true a = a
      by false a = a
  again_step (happened.Heard p u h k e ms value) rs all there = by (bytes_eq h g) there
    where
      by : (b : Bool) → Again ((if b then Noted (group.Heard p u k e ms value) ∷ [] else []) ++ all) → Again all
      by true a = a
      by false a = a
  again_step (happened.Asked p r h x) rs all there = by (bytes_eq h g) there
    where
      by : (b : Bool) → Again ((if b then Noted (group.Asked p r x) ∷ [] else []) ++ all) → Again all
      by true a = a
      by false a = a
  again_step (happened.Told p r why) rs all there = by (view_now p.node rs) there
    where
      by : (o : Option ViewId) → Again (told_in p r o ++ all) → Again all
      by None a = a
      by (Some u) a = a
  again_step (happened.In n u ms) rs all a = a
  again_step (happened.Up n j) rs all a = a
  again_step (happened.Down n) rs all a = a
  again_step (happened.Ring n network ring ms next) rs all a = a
  again_step (happened.Cast p proto phase vote value message) rs all a = a
  again_step (happened.Noted n client u place note) rs all a = a
  again_step (happened.Refused n client fault) rs all a = a
  again_step (happened.Shown n line) rs all a = a

  -- of this group
  abbrev pub AgainIn : List Happened → History → Happened → Type 0
  AgainIn now before (happened.Put n v h i e) = h ≡ g → (m : ℕ) × Has (happened.Put m v g i e) (earlier now before)
  AgainIn now before _ = Unit {0}

  module _ (bases : Bases) (log : ViewId → List Entry) where
    again_one : (r : Happened) (now : List Happened) (before : History) → Told bases log (lines_with g (r ∷ now) before (lines_of g before)) → Again (lines_with g (r ∷ now) before (lines_of g before)) → AgainIn now before r
    again_one (happened.Put n v h i e) now before t a = λ (same : h ≡ g).
        let all : List Line = lines_with g now before (lines_of g before) in
        let here : bytes_eq h g ≡ true = ap (λ z. bytes_eq z g) same ∙ text_self g in
        let t' : Told bases log (Kept (Put n v i e) ∷ all) = subst (λ b. Told bases log ((if b then Kept (Put n v i e) ∷ [] else []) ++ all)) here t in
        let a' : Again (Kept (Put n v i e) ∷ all) = subst (λ b. Again ((if b then Kept (Put n v i e) ∷ [] else []) ++ all)) here a in
        let k = a'.0 in
        let one : slice_get (log v) i ≡ Some e = t'.puts n v i e (inl refl) in
        let two : slice_get (log v) i ≡ Some k.1 = t'.puts k.0 v i k.1 (inr k.2) in
        let f : k.1 ≡ e = let z : Some k.1 ≡ Some e = sym two ∙ one in cc in
        (k.0, subst (λ z. Has (happened.Put k.0 v g i z) (earlier now before)) f (put_back k.0 v i k.1 now before k.2))
    again_one _ now before t a = tt

    pub again_within : (now : List Happened) (before : History) → Told bases log (lines_with g now before (lines_of g before)) → Again (lines_with g now before (lines_of g before)) → Within AgainIn now before
    again_within [] before t a = tt
    again_within (r ∷ now) before t a =
        let all : List Line = lines_with g now before (lines_of g before) in
        (again_one r now before t a, again_within now before (less_many bases log (lines_at g (earlier now before) r) all t) (again_step r (earlier now before) all a))

evident_again : (r : Happened) (now : List Happened) (before : History) → ((g : List ℕ) → AgainIn g now before r) → Evident now before r
evident_again (happened.Put n v g i e) now before k = inr (k g refl)
evident_again _ now before k = tt

all_again : (now : List Happened) (before : History) → Within (λ a b r. (g : List ℕ) → AgainIn g a b r) now before → Within Evident now before
all_again [] before k = tt
all_again (r ∷ now) before k = (evident_again r now before k.0, all_again now before k.1)

-- before a view is entered, in the event that goes on
pub again_each : (bases : List ℕ → Bases) (log : List ℕ → ViewId → List Entry) (now : List Happened) (before : History) → ((g : List ℕ) → Told (bases g) (log g) (lines_with g now before (lines_of g before))) → ((g : List ℕ) → Again (lines_with g now before (lines_of g before))) → Within (λ a b r. (g : List ℕ) → AgainIn g a b r) now before
again_each bases log now before t a = within_all AgainIn now before (λ g. again_within g (bases g) (log g) now before (t g) (a g))

pub again_evident : (bases : List ℕ → Bases) (log : List ℕ → ViewId → List Entry) (now : List Happened) (before : History) → ((g : List ℕ) → Told (bases g) (log g) (lines_with g now before (lines_of g before))) → ((g : List ℕ) → Again (lines_with g now before (lines_of g before))) → Within Evident now before
again_evident bases log now before t a =
    all_again now before (again_each bases log now before t a)
