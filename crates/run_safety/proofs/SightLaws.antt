-- What holds of each group's lines holds of the run's records.
use Rattle.std.proofs.Common.{refl, ◌≡◌, ℕ, ◌⊎◌, List, [], ◌∷◌, ◌++◌, Option, Some, None, Bool, true, false, sym, ap, ◌∙◌, subst, inl, inr, ⊎_elim}
use Rattle.std.specs.Prelude.{if◌then◌else◌}
use Rattle.std.specs.Str.{bytes_eq}
use Rattle.rsct_packet.specs.declared.ids.ViewId.{ViewId}
use Rattle.rsct_packet.specs.Search.{Has}
use Rattle.rsct_packet.proofs.HasLaws.{has_append, append_has_left, append_has_right}
use Rattle.proposal_core.specs.declared.entry.Entry.{Entry}
use Rattle.node_state.specs.declared.happened.Happened.{Happened}
use Rattle.node_state.specs.declared.happened.Happened.TheVariants as happened
use Rattle.node_state.proofs.NameOrder.{text_same, text_self}
use Rattle.run_safety.specs.Past.{History, earlier, records_of}
use Rattle.run_safety.specs.Group.{Line, Kept, Noted, Record, In, Put, Begins, Based, kept}
use Rattle.run_safety.specs.Group as group
use Rattle.run_safety.specs.SafeGroups.{GroupsGiveOneList}
use Rattle.run_safety.specs.Sight.{lines_at, lines_with, lines_of}

pub kept_append : (xs ys : List Line) → kept (xs ++ ys) ≡ kept xs ++ kept ys
kept_append [] ys = refl
kept_append (Kept r ∷ xs) ys = ap (λ tr. r ∷ tr) (kept_append xs ys)
kept_append (Noted x ∷ xs) ys = kept_append xs ys

pub line_kept : (r : Record) (all : List Line) → Has (Kept r) all → Has r (kept all)
line_kept r [] h = h
line_kept r (Kept q ∷ all) (inl e) = let z : r ≡ q = cc in inl z
line_kept r (Kept q ∷ all) (inr h) = inr (line_kept r all h)
line_kept r (Noted x ∷ all) (inl e) = absurd (cc)
line_kept r (Noted x ∷ all) (inr h) = line_kept r all h

pub kept_line : (r : Record) (all : List Line) → Has r (kept all) → Has (Kept r) all
kept_line r [] h = h
kept_line r (Kept q ∷ all) (inl e) = inl (ap (λ z. Kept z) e)
kept_line r (Kept q ∷ all) (inr h) = inr (kept_line r all h)
kept_line r (Noted x ∷ all) h = inr (kept_line r all h)

-- ---- a record's line is one of the group's

-- what is of the group is its line
pub own_line : (g : List ℕ) (x : Line) → Has x (if bytes_eq g g then x ∷ [] else [])
own_line g x = subst (λ b. Has x (if b then x ∷ [] else [])) (sym (text_self g)) (inl refl)

-- earlier lines stay
pub line_later : (x : Line) (g : List ℕ) (now : List Happened) (before : History) (all : List Line) → Has x all → Has x (lines_with g now before all)
line_later x g [] before all h = inr h
line_later x g (r ∷ now) before all h = append_has_right x (lines_at g (earlier now before) r) (lines_with g now before all) (line_later x g now before all h)

pub line_in : (x : Line) (g : List ℕ) (r : Happened) → ((rs : List Happened) → Has x (lines_at g rs r)) → (now : List Happened) (before : History) (all : List Line) → Has r now → Has x (lines_with g now before all)
line_in x g r shows [] before all h = absurd h
line_in x g r shows (q ∷ now) before all (inl e) =
    append_has_left x (lines_at g (earlier now before) q) (lines_with g now before all) (subst (λ z. Has x (lines_at g (earlier now before) z)) e (shows (earlier now before)))
line_in x g r shows (q ∷ now) before all (inr h) =
    append_has_right x (lines_at g (earlier now before) q) (lines_with g now before all) (line_in x g r shows now before all h)

pub line_seen : (x : Line) (g : List ℕ) (r : Happened) → ((rs : List Happened) → Has x (lines_at g rs r)) → (h : History) → Has r (records_of h) → Has x (lines_of g h)
line_seen x g r shows [] h = absurd h
line_seen x g r shows (k ∷ before) h =
    ⊎_elim (λ (a : Has r k.records). line_in x g r shows k.records before (lines_of g before) a) (λ (b : Has r (records_of before)). line_later x g k.records before (lines_of g before) (line_seen x g r shows before b)) (has_append r k.records (records_of before) h)

pub put_seen : (n : ℕ) (v : ViewId) (g : List ℕ) (i : ℕ) (e : Entry) (h : History) → Has (happened.Put n v g i e) (records_of h) → Has (Put n v i e) (kept (lines_of g h))
put_seen n v g i e h k = line_kept (Put n v i e) (lines_of g h) (line_seen (Kept (Put n v i e)) g (happened.Put n v g i e) (λ rs. own_line g (Kept (Put n v i e))) h k)

-- ---- and the line tells the record

-- the record of a line, where the line tells all of it
abbrev pub record_of : List ℕ → Line → Option Happened
record_of g (Kept (In n j v ms)) = Some (happened.In n v ms)
record_of g (Kept (Put n v i e)) = Some (happened.Put n v g i e)
record_of g (Kept Begins) = None
record_of g (Noted (Based n v b)) = Some (happened.Base n v g b.old b.len b.state)
record_of g (Noted (group.Heard p v i e ms value)) = Some (happened.Heard p v g i e ms value)
record_of g (Noted (group.Asked p r x)) = Some (happened.Asked p r g x)
record_of g (Noted (group.Told p r v)) = None

module _ (g : List ℕ) (x : Line) (q : Happened) (is : record_of g x ≡ Some q) where
  -- a line of a record of the group
  of_group : (r : Happened) (y : Line) (h : List ℕ) → (h ≡ g → record_of g y ≡ Some r) → Has x (if bytes_eq h g then y ∷ [] else []) → q ≡ r
  of_group r y h tells k = by (bytes_eq h g) refl k
    where
      by : (b : Bool) → bytes_eq h g ≡ b → Has x (if b then y ∷ [] else []) → q ≡ r
      by true s (inl e) = let z : Some q ≡ Some r = sym is ∙ ap (record_of g) e ∙ tells (text_same h g s) in cc
      by true s (inr z) = absurd z
      by false s z = absurd z

  line_at : (rs : List Happened) (r : Happened) → Has x (lines_at g rs r) → q ≡ r
  line_at rs (happened.Up m j) k = absurd k
  line_at rs (happened.Down m) k = absurd k
  line_at rs (happened.Ring m j a ms b) k = absurd k
  line_at rs (happened.In m u ms) (inl e) = let z : Some q ≡ Some (happened.In m u ms) = sym is ∙ ap (record_of g) e in cc
  line_at rs (happened.In m u ms) (inr z) = absurd z
  line_at rs (happened.Base m u h w len s) k =
      of_group (happened.Base m u h w len s) (Noted (Based m u (record { old = w; len = len; state = s }))) h (λ e i. Some (happened.Base m u (sym e i) w len s)) k
  line_at rs (happened.Put m u h j f) k = of_group (happened.Put m u h j f) (Kept (Put m u j f)) h (λ e i. Some (happened.Put m u (sym e i) j f)) k
  line_at rs (happened.Heard p u h j f ms value) k =
      of_group (happened.Heard p u h j f ms value) (Noted (group.Heard p u j f ms value)) h (λ e i. Some (happened.Heard p u (sym e i) j f ms value)) k
  line_at rs (happened.Cast p proto phase vote value message) k = absurd k
  line_at rs (happened.Asked p r h y) k = of_group (happened.Asked p r h y) (Noted (group.Asked p r y)) h (λ e i. Some (happened.Asked p r (sym e i) y)) k
  line_at rs (happened.Told p r why) (inl e) = let z : Some q ≡ None = sym is ∙ ap (record_of g) e in absurd (cc)
  line_at rs (happened.Told p r why) (inr z) = absurd z
  line_at rs (happened.Noted m c u j told) k = absurd k
  line_at rs (happened.Refused m c fault) k = absurd k
  line_at rs (happened.Shown m line) k = absurd k

  -- of the lines of one event
  pub line_split : (now : List Happened) (before : History) (all : List Line) → Has x (lines_with g now before all) → Has q now ⊎ Has x all
  line_split [] before all (inl e) = let z : Some q ≡ None = sym is ∙ ap (record_of g) e in absurd (cc)
  line_split [] before all (inr h) = inr h
  line_split (r ∷ now) before all h =
      ⊎_elim (λ (a : Has x (lines_at g (earlier now before) r)). inl (inl (line_at (earlier now before) r a))) (λ (b : Has x (lines_with g now before all)). ⊎_elim (λ (c : Has q now). inl (inr c)) (λ (c : Has x all). inr c) (line_split now before all b)) (has_append x (lines_at g (earlier now before) r) (lines_with g now before all) h)

  pub line_recorded : (h : History) → Has x (lines_of g h) → Has q (records_of h)
  line_recorded [] k = absurd k
  line_recorded (e ∷ before) k =
      ⊎_elim (λ (a : Has q e.records). append_has_left q e.records (records_of before) a) (λ (b : Has x (lines_of g before)). append_has_right q e.records (records_of before) (line_recorded before b)) (line_split e.records before (lines_of g before) k)

-- the lists of a run whose groups are safe are fronts of one list each
pub one_entry_seen : GroupsGiveOneList
one_entry_seen o h safe n m v g i e f a b =
    (safe g).one_list n m v i e f (put_seen n v g i e h a) (put_seen m v g i f h b)
