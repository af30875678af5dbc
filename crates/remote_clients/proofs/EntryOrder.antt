-- Each hearing of an entry stands behind that entry's line.
use Rattle.std.proofs.Common.{◌≡◌, ℕ, ◌⊎◌, Bool, true, false, cond, List, [], ◌∷◌, ◌++◌, Option, Some, None, nat_eq, refl, sym, subst, inl, inr, append_assoc, append-nil}
use Rattle.std.specs.Prelude.{◌==◌, ◌&&◌, ◌||◌}
use Rattle.std.specs.List.{list_any}
use Rattle.std.specs.Str.{bytes_eq}
use Rattle.std.proofs.lemmas.Bool.{eq-eqb, eqb-true, eqb-false, and_parts}
use Rattle.std.proofs.lemmas.Slice.Eq.{bytes_eq-Decides}
use Rattle.rsct_packet.specs.declared.ids.ViewId.{ViewId}
use Rattle.rsct_packet.specs.Ids.{same_view}
use Rattle.rsct_packet.proofs.HasLaws.{append_has_left, append_has_right}
use Rattle.view_state.proofs.ViewOrder.{same_view_is}
use Rattle.node_state.specs.declared.happened.Happened.{Happened}
use Rattle.node_state.specs.declared.happened.Happened.TheVariants as happened
use Rattle.remote_clients.specs.Entries.{is_heard_at, same_entry, put_of, goes_on, Showing, keys_with, is_shown, put_due, shown_to}
use Rattle.remote_clients.specs.Told.{Deciding, shown_by, decided_for, decided, clients_by, hearer_in, put_list, lines_for, told_to, deciding, WasHeard, IsIntroduced, AreIntroduced, EntriesComeFirst}

-- ---- hearings of one entry

heard_at_same : (view : ViewId) (group : List ℕ) (place : ℕ) (h r : Happened) → is_heard_at view group place h ≡ true → same_entry h r ≡ true → is_heard_at view group place r ≡ true
heard_at_same view group place (happened.Heard p v g i e members value) r a b =
    let x = and_parts ((i == place) && same_view v view) (bytes_eq g group) a in
    let y = and_parts (i == place) (same_view v view) x.0 in
    subst (λ (u : ViewId). is_heard_at u group place r ≡ true) (same_view_is v view y.1)
    (subst (λ (k : List ℕ). is_heard_at v k place r ≡ true) ((bytes_eq-Decides g group).0 x.1) (subst (λ (j : ℕ). is_heard_at v g j r ≡ true) (eqb-true i place y.0) b))
heard_at_same view group place _ r a b = absurd cc

same_then : (x h r : Happened) → same_entry x h ≡ true → same_entry h r ≡ true → same_entry x r ≡ true
same_then (happened.Heard p v g i e members value) h r a b = heard_at_same v g i h r a b
same_then _ h r a b = absurd cc

all_three : (a b c : Bool) → a ≡ true → b ≡ true → c ≡ true → (a && b && c) ≡ true
all_three a b c p q r = rw (p, q, r) refl

same_view_self : (v : ViewId) → same_view v v ≡ true
same_view_self v = all_three (v.number == v.number) (v.coord == v.coord) (v.inc == v.inc) (eq-eqb v.number v.number refl) (eq-eqb v.coord v.coord refl) (eq-eqb v.inc v.inc refl)

same_self : (r put : Happened) → put_of r ≡ Some put → same_entry r r ≡ true
same_self (happened.Heard p v g i e members value) put is = all_three (i == i) (same_view v v) (bytes_eq g g) (eq-eqb i i refl) (same_view_self v) ((bytes_eq-Decides g g).1 refl)
same_self _ put is = absurd cc

-- what `put_of` gives is no hearing
puts_none : (r put : Happened) → put_of r ≡ Some put → put_of put ≡ None
puts_none (happened.Heard p v g i e members value) put is = subst (λ (q : Happened). put_of q ≡ None) (let same : happened.Put p.node v g i e ≡ put = cc in same) refl
puts_none _ put is = absurd cc

-- ---- what a key has heard, where it has the line of an entry

abbrev HeardLast : Option Happened → List Happened → Type 0
HeardLast None lines = ⊥
HeardLast (Some h) lines = WasHeard h lines

-- where the key is among those that have the line of the entry that was heard last
abbrev Holds : ℕ → Showing → List Happened → Type 0
Holds key s lines = list_any (nat_eq key) s.keys ≡ true → HeardLast s.heard lines

more_heard : (o : Option Happened) (lines more : List Happened) → HeardLast o lines → HeardLast o (lines ++ more)
more_heard None lines more h = h
more_heard (Some x) lines more h = record { earlier = h.earlier; there = append_has_left h.earlier lines more h.there; same = h.same }

-- the key has the line of the entry that is heard here
shown_heard : (key : ℕ) (s : Showing) (r : Happened) (lines : List Happened) → Holds key s lines → is_shown s key r ≡ true → WasHeard r lines
shown_heard key s r lines holds is = by s.heard (goes_on s.heard r) refl is (λ e. holds e)
  where
    by : (o : Option Happened) (b : Bool) → goes_on o r ≡ b → list_any (nat_eq key) (cond b s.keys []) ≡ true → (list_any (nat_eq key) s.keys ≡ true → HeardLast o lines) → WasHeard r lines
    by None true e k h = absurd cc
    by None false e k h = absurd cc
    by (Some x) true e k h = let z = h k in record { earlier = z.earlier; there = z.there; same = same_then z.earlier x r z.same e }
    by (Some x) false e k h = absurd cc

any_pushed : (key k : ℕ) (keys : List ℕ) → list_any (nat_eq key) (keys ++ k ∷ []) ≡ true → (list_any (nat_eq key) keys ≡ true) ⊎ (nat_eq key k ≡ true)
any_pushed key k [] e = inr (by (nat_eq key k) e)
  where
    by : (b : Bool) → (b || false) ≡ true → b ≡ true
    by true h = refl
    by false h = absurd cc
any_pushed key k (x ∷ xs) e = by (any_pushed key k xs) (nat_eq key x) e
  where
    by : (list_any (nat_eq key) (xs ++ k ∷ []) ≡ true → (list_any (nat_eq key) xs ≡ true) ⊎ (nat_eq key k ≡ true)) → (b : Bool) → (b || list_any (nat_eq key) (xs ++ k ∷ [])) ≡ true → ((b || list_any (nat_eq key) xs) ≡ true) ⊎ (nat_eq key k ≡ true)
    by rest true h = inl refl
    by rest false h = rest h

-- another key has the line from now on
other_shown : (key k : ℕ) (s : Showing) (r : Happened) (lines : List Happened) → (key ≡ k → ⊥) → Holds key s lines → Holds key (shown_to k r s) lines
unfolding shown_to
other_shown key k s r lines ne holds e =
    elim (any_pushed key k (keys_with s r) e) [
      | inl own ↦ shown_heard key s r lines holds own
      | inr same ↦ absurd (ne (eqb-true key k same))
    ]

-- ---- one record

-- what is left to show of the lines of a record, and what stands behind them
abbrev Goes : ℕ → Showing → List Happened → List Happened → Type 0
Goes key s before more = AreIntroduced before more × Holds key s (before ++ more)

no_lines : (key : ℕ) (s : Showing) (before : List Happened) → Holds key s before → Goes key s before []
no_lines key s before holds = (tt, λ e. more_heard s.heard before [] (holds e))

-- a key that has the line of the entry, or hears of none
line_alone : (key : ℕ) (s : Showing) (r : Happened) (before : List Happened) → Holds key s before → IsIntroduced before r (put_of r) → Goes key s before (r ∷ [])
line_alone key s r before holds is = ((is, tt), λ e. more_heard s.heard before (r ∷ []) (holds e))

none_is : (before : List Happened) (r : Happened) → put_of r ≡ None → IsIntroduced before r (put_of r)
none_is before r e = subst (IsIntroduced before r) (sym e) tt

was_is : (before : List Happened) (r : Happened) (o : Option Happened) → WasHeard r before → IsIntroduced before r o
was_is before r None w = tt
was_is before r (Some put) w = inr w

-- a key that gets the line of the entry, and then hears of it
line_with_entry : (key : ℕ) (s : Showing) (r put : Happened) (before : List Happened) → put_of r ≡ Some put → Goes key (shown_to key r s) before (put ∷ r ∷ [])
unfolding shown_to
line_with_entry key s r put before is =
    let last : IsIntroduced (before ++ put ∷ []) r (put_of r) = subst (IsIntroduced (before ++ put ∷ []) r) (sym is) (inl (record { front = before; is = refl })) in (
      (none_is before put (puts_none r put is), (last, tt)),
      λ e. record { earlier = r; there = append_has_right r before (put ∷ r ∷ []) (inr (inl refl)); same = same_self r put is },
    )

own_goes : (key : ℕ) (s : Showing) (r : Happened) (before : List Happened) → Holds key s before → (b : Bool) → is_shown s key r ≡ b → (o : Option Happened) → put_of r ≡ o → Goes key (shown_by (cond b None o) key r s) before (put_list (cond b None o) ++ r ∷ [])
own_goes key s r before holds true is o e = line_alone key s r before holds (was_is before r (put_of r) (shown_heard key s r before holds is))
own_goes key s r before holds false is None e = line_alone key s r before holds (none_is before r e)
own_goes key s r before holds false is (Some put) e = line_with_entry key s r put before e

other_goes : (key k : ℕ) (s : Showing) (r : Happened) (before : List Happened) → (key ≡ k → ⊥) → Holds key s before → (o : Option Happened) → Goes key (shown_by o k r s) before []
other_goes key k s r before ne holds None = no_lines key s before holds
other_goes key k s r before ne holds (Some put) = no_lines key (shown_to k r s) before (other_shown key k s r before ne holds)

record_goes : (key : ℕ) (hearer : Option ℕ) (n : Deciding) (r : Happened) (before : List Happened) → Holds key n.shown before → Goes key (decided_for hearer r n).shown before (lines_for key hearer n.shown r)
unfolding put_due
record_goes key None n r before holds = no_lines key n.shown before holds
record_goes key (Some k) n r before holds = by (k == key) refl
  where
    own : Goes key (shown_by (put_due n.shown key r) key r n.shown) before (put_list (put_due n.shown key r) ++ r ∷ [])
    own = own_goes key n.shown r before holds (is_shown n.shown key r) refl (put_of r) refl

    by : (b : Bool) → k == key ≡ b → Goes key (shown_by (put_due n.shown k r) k r n.shown) before (cond b (put_list (put_due n.shown k r) ++ r ∷ []) [])
    by true e = subst (λ (j : ℕ). Goes key (shown_by (put_due n.shown j r) j r n.shown) before (put_list (put_due n.shown j r) ++ r ∷ [])) (sym (eqb-true k key e)) own
    by false e = other_goes key k n.shown r before (λ (h : key ≡ k). eqb-false k key e (sym h)) holds (put_due n.shown k r)

-- ---- the records of a step

introduced_both : (before xs ys : List Happened) → AreIntroduced before xs → AreIntroduced (before ++ xs) ys → AreIntroduced before (xs ++ ys)
introduced_both before [] ys a b = subst (λ (z : List Happened). AreIntroduced z ys) (append-nil before) b
introduced_both before (x ∷ xs) ys a b = (a.0, introduced_both (before ++ x ∷ []) xs ys a.1 (subst (λ (z : List Happened). AreIntroduced z ys) (sym (append_assoc before (x ∷ []) xs)) b))

told_goes : (key : ℕ) (calling : Option ℕ) (rs : List Happened) (n : Deciding) (before : List Happened) → Holds key n.shown before → AreIntroduced before (told_to key calling n rs)
unfolding told_to
told_goes key calling [] n before holds = tt
told_goes key calling (r ∷ rs) n before holds =
    let hearer = hearer_in calling r n in
    let goes = record_goes key hearer (clients_by calling r n) r before holds in
    introduced_both before (lines_for key hearer n.shown r) (told_to key calling (decided calling n r) rs) goes.0
    (told_goes key calling rs (decided calling n r) (before ++ lines_for key hearer n.shown r) goes.1)

pub entries_first : EntriesComeFirst
entries_first earlier key calling c rs = told_goes key calling rs (deciding c) earlier (λ e. absurd cc)
